use Rattle.std.proofs.Common.{◌≡◌, ◌∙◌, ℕ, sym, subst, arith, inl, inr, Some}
use Rattle.std.specs.Prelude.{slice_index_or, slice_set}
use Rattle.std.proofs.lemmas.List.{length-set, get_or-set_same, get_or-set_other}
use Rattle.std.proofs.lemmas.Bool.{cases_eq}
use Rattle.kn_slices.specs.Slices.{force_after, hold}
use Rattle.kn_slices.specs.Activators.{limit_at, running_at}
use Rattle.kn_slices.proofs.listing.refresh.Goals as goal

same_pod : (p q : ℕ) → Some p ≡ Some q → q ≡ p
same_pod p q e = let same : p ≡ q = cc in sym same

pub returns-then-p-wanted : goal.returns-then-p-wanted
returns-then-p-wanted c =
    let force = c.args.force.now in
    let p = c.in-Some.p in
    let y = c.force_after.result in
    let low = c.if-p-wanted.true in
    let many = c.requires.many in
    record {
      many = length-set force p y;
      each = λ q inside. elim (cases_eq q p) [
        | inl same ↦ subst (λ k. slice_index_or (slice_set force p y) k 0 ≡ force_after (hold (limit_at k) (running_at k) c.args.parts.now) (slice_index_or c.args.wanted.now k 0) (slice_index_or force k 0)) (sym same)
            (get_or-set_same force p y 0 (omega (arith, many, low)) ∙ c.force_after.ensures)
        | inr other ↦ get_or-set_other force p q y 0 other ∙ c.requires.others q inside (λ e. other (same_pod p q (sym c.in-Some.is ∙ e)))
      ];
    }
