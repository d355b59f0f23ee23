use Rattle.std.proofs.Common.{inl, inr, sym, refl, ◌∙◌, [], ◌∷◌}
use Rattle.std.proofs.lemmas.List.{append-nil}
use Rattle.kn_event.specs.declared.event.Act.TheVariants as act
use Rattle.kn_request.proofs.Later.{recorded_of}
use Rattle.kn_request.proofs.Finishing.{ok_finished, full_finished}
use Rattle.kn_request.proofs.run.finish.Goals as goal

pub returns-in-Ok-clause-finish : goal.returns-in-Ok-clause-finish
returns-in-Ok-clause-finish g c =
    let reading = g.K.Clock.reading c.args.clock.now in
    let p = c.args.pass.now in
    let q = c.on.new.pass in
    let x = c.in-Ok.ensures.ok in
    let y = recorded_of reading p q (act.Finish c.args.r c.args.ok) c.now_ms-now.result c.in-Ok.field-0 c.on.ensures.looks x c.now_ms-now.ensures in
    (y.row ∷ [], inr (y, refl), x.mine, λ runs alone t s. ok_finished c.server_laws.ensures.request reading c.args.r c.now_ms-now.result c.args.ok c.in-Ok.field-0 p q c.on.ensures.looks x c.now_ms-now.ensures c.requires.own runs alone t s)

pub returns-in-Err-clause-finish : goal.returns-in-Err-clause-finish
returns-in-Err-clause-finish g c =
    let reading = g.K.Clock.reading c.args.clock.now in
    let p = c.args.pass.now in
    let q = c.on.new.pass in
    let x = c.in-Err.ensures.full in
    ([], inl refl, x.mine ∙ sym (append-nil p.mine), λ runs alone t s. full_finished c.server_laws.ensures.request reading c.args.r c.args.ok c.in-Err.field-0 p q [] c.on.ensures.looks x c.requires.own runs alone t s)
