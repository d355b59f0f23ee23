-- Line 1, then the setup, then the start.
use Rattle.std.proofs.Common.{◌++◌, ◌∷◌, [], ◌∙◌, ℕ, List, append_assoc, refl, subst}
use Rattle.std.specs.Prelude.{codes}
use Rattle.std.specs.Fmt.{decimal}
use Rattle.kn_io.specs.Prefix.{AppendsPrefix}
use Rattle.kn_preamble.specs.First.{first_line}
use Rattle.kn_sim.proofs.Pieces.{on_err, on_ok}
use Rattle.kn_sim.proofs.print.write_opening.Goals as goal

pub returns-in-Err-clause-err : goal.returns-in-Err-clause-err
returns-in-Err-clause-err g c =
    c.adding_laws.ensures.laws.behind _ _ _ _ (c.args.w.now.setup.text ++ ((codes "start " ++ decimal c.args.w.now.start) ++ 10 ∷ []))
    (rw (c.bytes.ensures ∙ c.set_line.ensures) at c.in-Err.ensures.err)

pub returns-in-Err-add-clause-err : goal.returns-in-Err-add-clause-err
returns-in-Err-add-clause-err g c =
    let first = rw (c.bytes.ensures ∙ c.set_line.ensures) at c.in-Ok.ensures.ok in
    c.adding_laws.ensures.laws.some _ _ ((codes "start " ++ decimal c.args.w.now.start) ++ 10 ∷ []) first (rw c.bytes-2.ensures at c.in-Err-add.ensures.err)

pub returns-clause-ok : goal.returns-clause-ok
returns-clause-ok g c =
    let first = rw (c.bytes.ensures ∙ c.set_line.ensures) at c.in-Ok.ensures.ok in
    let text = rw c.bytes-2.ensures at c.in-Ok-add.ensures.ok in
    let laws = c.adding_laws.ensures.laws in
    on_ok c.add-3.result (λ start. laws.more first (laws.more text start refl) refl)
    (rw (c.bytes-3.ensures ∙ c.set_line-2.ensures) at c.add-3.ensures.ok)

pub returns-clause-err : goal.returns-clause-err
returns-clause-err g c =
    let first = rw (c.bytes.ensures ∙ c.set_line.ensures) at c.in-Ok.ensures.ok in
    let text = rw c.bytes-2.ensures at c.in-Ok-add.ensures.ok in
    let laws = c.adding_laws.ensures.laws in
    let a = g.O.Sink.held c.args.out.now in
    let d = g.O.Sink.held c.add-3.new.out in
    let p = c.args.waiting.now in
    let behind = (codes "start " ++ decimal c.args.w.now.start) ++ 10 ∷ [] in
    on_err c.add-3.result
    (λ start.
    subst (λ (z : List ℕ). AppendsPrefix a d (p ++ z)) (append_assoc (first_line 1 ++ 10 ∷ []) c.args.w.now.setup.text behind)
    (laws.last d behind (laws.more first text refl) start))
    (rw (c.bytes-3.ensures ∙ c.set_line-2.ensures) at c.add-3.ensures.err)
