-- The first of all kinds, kind by kind.
use Rattle.std.proofs.Common.{◌≡◌, ℕ, ◌+◌, ◌<◌, ◌≤◌, Bool, true, false, cond, ◌⊎◌, inl, inr, nat_lt, refl, sym, ap, ◌∙◌, subst, arith}
use Rattle.std.specs.Prelude.{Option, None, Some}
use Rattle.std.proofs.lemmas.Bool.Decides.{nat_tests}
use Rattle.kn_trace.specs.Trace.{Trace}
use Rattle.kn_agenda.specs.declared.item.Item.{Item}
use Rattle.kn_agenda.specs.declared.item.Kind.{Kind}
use Rattle.kn_agenda.specs.declared.item.Kind.TheVariants.{Arrives, Finishes, Passes, Readies, Ticks}
use Rattle.kn_agenda.specs.Workload.{Workload}
use Rattle.kn_agenda.specs.Due.{IsDue, IsDueAt, IsNext, is_before, is_sooner, rank}
use Rattle.kn_agenda.specs.Kinds.{IsFirstBelow, IsFirstOf, sooner_of}

pub later_from : (t u : ℕ) (b : Bool) → is_before t u b ≡ false → u ≤ t
later_from t u b h = grind (arith, nat_tests)

not_later : (t u : ℕ) (b : Bool) → u < t → is_before t u b ≡ false
not_later t u b h = grind (arith, nat_tests)

by_kind : (t u s r : ℕ) (b : Bool) → u ≤ t → r < s → is_before t u (is_before s r b) ≡ false
by_kind t u s r b h k = grind (arith, nat_tests)

same_kind : (t u r : ℕ) (b : Bool) → is_before t u b ≡ false → is_before t u (is_before r r b) ≡ false
same_kind t u r b h = grind (arith, nat_tests)

pub rank_one : (x y : Kind) → rank x ≡ rank y → x ≡ y
rank_one Finishes Finishes h = refl
rank_one Finishes Readies h = absurd (omega (arith, h))
rank_one Finishes Passes h = absurd (omega (arith, h))
rank_one Finishes Arrives h = absurd (omega (arith, h))
rank_one Finishes Ticks h = absurd (omega (arith, h))
rank_one Readies Finishes h = absurd (omega (arith, h))
rank_one Readies Readies h = refl
rank_one Readies Passes h = absurd (omega (arith, h))
rank_one Readies Arrives h = absurd (omega (arith, h))
rank_one Readies Ticks h = absurd (omega (arith, h))
rank_one Passes Finishes h = absurd (omega (arith, h))
rank_one Passes Readies h = absurd (omega (arith, h))
rank_one Passes Passes h = refl
rank_one Passes Arrives h = absurd (omega (arith, h))
rank_one Passes Ticks h = absurd (omega (arith, h))
rank_one Arrives Finishes h = absurd (omega (arith, h))
rank_one Arrives Readies h = absurd (omega (arith, h))
rank_one Arrives Passes h = absurd (omega (arith, h))
rank_one Arrives Arrives h = refl
rank_one Arrives Ticks h = absurd (omega (arith, h))
rank_one Ticks Finishes h = absurd (omega (arith, h))
rank_one Ticks Readies h = absurd (omega (arith, h))
rank_one Ticks Passes h = absurd (omega (arith, h))
rank_one Ticks Arrives h = absurd (omega (arith, h))
rank_one Ticks Ticks h = refl

rank_below : (x : Kind) → rank x < 5
rank_below Finishes = omega arith
rank_below Readies = omega arith
rank_below Passes = omega arith
rank_below Arrives = omega arith
rank_below Ticks = omega arith

below_or_at : (a n : ℕ) → a < n + 1 → (a < n) ⊎ (a ≡ n)
below_or_at a n h = by (nat_lt a n) refl
  where
    by : (b : Bool) → nat_lt a n ≡ b → (a < n) ⊎ (a ≡ n)
    by true k = inl (grind (arith, nat_tests))
    by false k = inr (let more : n ≤ a = grind (arith, nat_tests) in omega arith)

module _ (w : Workload) (c : Trace) (ticks : ℕ) where
  -- no kind comes before the first
  pub below_none : IsFirstBelow w c ticks 0 None
  below_none = λ y less due. omega (arith, less)

  at_kind : (kind : Kind) (y : Item) → rank y.kind ≡ rank kind → IsDue w c ticks y → IsDueAt w c ticks kind y.number y.time
  at_kind kind y same due = subst (λ (k : Kind). IsDueAt w c ticks k y.number y.time) (rank_one y.kind kind same) due

  -- one kind more
  pub below_more : (kind : Kind) (n : ℕ) (o p : Option Item) → rank kind ≡ n → IsFirstBelow w c ticks n o → IsFirstOf w c ticks kind p → IsFirstBelow w c ticks (n + 1) (sooner_of o p)
  below_more kind n None None is low one = λ z less due. by z due (below_or_at (rank z.kind) n less)
    where
      by : (z : Item) → IsDue w c ticks z → (rank z.kind < n) ⊎ (rank z.kind ≡ n) → ⊥
      by z due (inl k) = low z k due
      by z due (inr k) = one z.number z.time (at_kind kind z (k ∙ sym is) due)
  below_more kind n None (Some y) is low one =
      let at : rank y.kind ≡ n = ap (λ (k : Kind). rank k) one.0 ∙ is in
      (omega (arith, at), subst (λ (k : Kind). IsDueAt w c ticks k y.number y.time) (sym one.0) one.1, λ z less due. by z due at (below_or_at (rank z.kind) n less))
    where
      by : (z : Item) → IsDue w c ticks z → rank y.kind ≡ n → (rank z.kind < n) ⊎ (rank z.kind ≡ n) → is_sooner z y ≡ false
      by z due at (inl k) = absurd (low z k due)
      by z due at (inr k) =
          let first = one.2 z.number z.time (at_kind kind z (k ∙ sym is) due) in
          let same : rank z.kind ≡ rank y.kind = k ∙ sym at in
          rw same (same_kind z.time y.time (rank y.kind) (nat_lt z.number y.number) first)
  below_more kind n (Some x) None is low one = (omega (arith, low.0), low.1, λ z less due. by z due (below_or_at (rank z.kind) n less))
    where
      by : (z : Item) → IsDue w c ticks z → (rank z.kind < n) ⊎ (rank z.kind ≡ n) → is_sooner z x ≡ false
      by z due (inl k) = low.2 z k due
      by z due (inr k) = absurd (one z.number z.time (at_kind kind z (k ∙ sym is) due))
  below_more kind n (Some x) (Some y) is low one = pick (nat_lt y.time x.time) refl
    where
      at : rank y.kind ≡ n
      at = ap (λ (k : Kind). rank k) one.0 ∙ is

      to_y : (z : Item) → IsDue w c ticks z → y.time < x.time → (rank z.kind < n) ⊎ (rank z.kind ≡ n) → is_sooner z y ≡ false
      to_y z due less (inl k) =
          let far = later_from z.time x.time (is_before (rank z.kind) (rank x.kind) (nat_lt z.number x.number)) (low.2 z k due) in
          not_later z.time y.time (is_before (rank z.kind) (rank y.kind) (nat_lt z.number y.number)) (omega arith)
      to_y z due less (inr k) =
          let first = one.2 z.number z.time (at_kind kind z (k ∙ sym is) due) in
          let same : rank z.kind ≡ rank y.kind = k ∙ sym at in
          rw same (same_kind z.time y.time (rank y.kind) (nat_lt z.number y.number) first)

      to_x : (z : Item) → IsDue w c ticks z → x.time ≤ y.time → (rank z.kind < n) ⊎ (rank z.kind ≡ n) → is_sooner z x ≡ false
      to_x z due less (inl k) = low.2 z k due
      to_x z due less (inr k) =
          let first = one.2 z.number z.time (at_kind kind z (k ∙ sym is) due) in
          let far = later_from z.time y.time (nat_lt z.number y.number) first in
          by_kind z.time x.time (rank z.kind) (rank x.kind) (nat_lt z.number x.number) (omega arith) (let below = low.0 in omega arith)

      pick : (b : Bool) → nat_lt y.time x.time ≡ b → IsFirstBelow w c ticks (n + 1) (cond b (Some y) (Some x))
      pick true h =
          let less : y.time < x.time = grind (arith, nat_tests) in
          (omega (arith, at), subst (λ (k : Kind). IsDueAt w c ticks k y.number y.time) (sym one.0) one.1, λ z k due. to_y z due less (below_or_at (rank z.kind) n k))
      pick false h =
          let less : x.time ≤ y.time = grind (arith, nat_tests) in
          (omega (arith, low.0), low.1, λ z k due. to_x z due less (below_or_at (rank z.kind) n k))

  -- the first of all kinds comes next
  pub next_from : (x : Item) → IsFirstBelow w c ticks 5 (Some x) → IsNext w c ticks x
  next_from x h = record { due = h.1; first = λ y due. h.2 y (rank_below y.kind) due }
