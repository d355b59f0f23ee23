use Rattle.std.proofs.Common.{sym, ap, ◌∙◌, map, string_bytes, codes}
use Rattle.clap.specs.Simple.{App}
use Rattle.clap.specs.Faults.{fault_of}
use Rattle.kn_plan.proofs.Reading.{app_simple, given_is}
use Rattle.kn_plan.proofs.command.options.Goals as goal

pub returns-in-Ok-try_get_matches_from-clause-accepted :
    goal.returns-in-Ok-try_get_matches_from-clause-accepted
returns-in-Ok-try_get_matches_from-clause-accepted c =
    ap (λ (a : App). fault_of a (map string_bytes c.args.words.now)) (sym c.in-Ok.ensures) ∙ c.in-Ok-try_get_matches_from.ensures.kinds (app_simple _ c.in-Ok.ensures)

pub returns-in-Ok-try_get_matches_from-clause-listen :
    goal.returns-in-Ok-try_get_matches_from-clause-listen
returns-in-Ok-try_get_matches_from-clause-listen c =
    c.get_str.ensures ∙ given_is _ _ _ (codes "listen") c.in-Ok.ensures c.in-Ok-try_get_matches_from.ensures.matches

pub returns-in-Ok-try_get_matches_from-clause-pods :
    goal.returns-in-Ok-try_get_matches_from-clause-pods
returns-in-Ok-try_get_matches_from-clause-pods c =
    c.get_str-in-Ok-try_get_matches_from.ensures ∙ given_is _ _ _ (codes "pods") c.in-Ok.ensures c.in-Ok-try_get_matches_from.ensures.matches

pub returns-in-Ok-try_get_matches_from-clause-slots :
    goal.returns-in-Ok-try_get_matches_from-clause-slots
returns-in-Ok-try_get_matches_from-clause-slots c =
    c.get_str-in-Ok-try_get_matches_from-2.ensures ∙ given_is _ _ _ (codes "slots") c.in-Ok.ensures c.in-Ok-try_get_matches_from.ensures.matches

pub returns-in-Ok-try_get_matches_from-clause-rounds :
    goal.returns-in-Ok-try_get_matches_from-clause-rounds
returns-in-Ok-try_get_matches_from-clause-rounds c =
    c.get_str-in-Ok-try_get_matches_from-3.ensures ∙ given_is _ _ _ (codes "rounds") c.in-Ok.ensures c.in-Ok-try_get_matches_from.ensures.matches

pub returns-in-Ok-try_get_matches_from-clause-room :
    goal.returns-in-Ok-try_get_matches_from-clause-room
returns-in-Ok-try_get_matches_from-clause-room c =
    c.get_str-in-Ok-try_get_matches_from-4.ensures ∙ given_is _ _ _ (codes "room") c.in-Ok.ensures c.in-Ok-try_get_matches_from.ensures.matches
