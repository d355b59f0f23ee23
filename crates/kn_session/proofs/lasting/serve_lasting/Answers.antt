use Rattle.std.proofs.Common.{◌+◌, ap, arith, subst, length}
use Rattle.kn_session.specs.Passes.{IsFirst, IsNewOf, Kind, kind_of, lasting_kind}
use Rattle.kn_session.proofs.OverFacts.{first_as, lasted_as}
use Rattle.kn_session.proofs.lasting.serve_lasting.Goals as goal

pub serve_over-requires-clause-first : goal.serve_over-requires-clause-first
serve_over-requires-clause-first g c ls within =
    let set = c.args.setting.now in
    first_as c.in_ok-cell.cell (lasting_kind c.args.revision set.room set.addresses) (length c.args.slots.now + 3) (3 + length c.args.slots.now) c.in_ok-cell.first c.in_ok-cell.ensures (omega arith)

pub serve_over-requires-clause-scribe : goal.serve_over-requires-clause-scribe
serve_over-requires-clause-scribe g c ls within p is = c.requires.scribe p (subst (λ (k : Kind). IsFirst k p) (ap kind_of c.in_ok-cell.ensures) is)

pub serve_over-requires-clause-page : goal.serve_over-requires-clause-page
serve_over-requires-clause-page g c ls within p is = c.requires.page p (subst (λ (k : Kind). IsNewOf k (2 + length c.args.slots.now) p) (ap kind_of c.in_ok-cell.ensures) is)

pub returns-clause-lasts : goal.returns-clause-lasts
returns-clause-lasts g c =
    let set = c.args.setting.now in
    lasted_as (kind_of c.in_ok-cell.first) (lasting_kind c.args.revision set.room set.addresses) (ap kind_of c.in_ok-cell.ensures) c.serve_over.ensures.lasts
