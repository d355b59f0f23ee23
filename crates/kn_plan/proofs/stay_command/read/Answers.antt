use Rattle.std.proofs.Common.{map, string_bytes, sym, ◌∙◌}
use Rattle.kn_plan.proofs.StayReading.{app_simple, found_are, refusals_are, refused_by}
use Rattle.kn_plan.proofs.stay_command.read.Goals as goal

pub returns-in-Ok-try_get_matches_from-clause-accepted :
    goal.returns-in-Ok-try_get_matches_from-clause-accepted
returns-in-Ok-try_get_matches_from-clause-accepted c =
    sym (refusals_are _ (map string_bytes c.args.words.now) c.in-Ok.ensures) ∙ c.in-Ok-try_get_matches_from.ensures.kinds (app_simple _ c.in-Ok.ensures)

pub returns-in-Ok-try_get_matches_from-clause-found :
    goal.returns-in-Ok-try_get_matches_from-clause-found
returns-in-Ok-try_get_matches_from-clause-found c =
    found_are _ _ _ c.in-Ok.ensures c.in-Ok-try_get_matches_from.ensures.matches

pub returns-in-Err-clause-refused : goal.returns-in-Err-clause-refused
returns-in-Err-clause-refused c =
    refused_by _ _ c.in-Err.error _ c.in-Ok.ensures (c.in-Err.ensures.kinds (app_simple _ c.in-Ok.ensures)) c.kind.ensures
