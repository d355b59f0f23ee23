-- All that is written of a run: the line of each step that has one.
use Rattle.std.proofs.Common.{◌≡◌, ◌≤◌, ◌<◌, ◌+◌, ◌-◌, ◌/◌, ℕ, zero, suc, Bool, true, false, cond, List, [], ◌∷◌, ◌++◌, refl, ap, sym, ◌∙◌, subst, arith, append-nil, append_assoc}
use Rattle.std.specs.List.{All, filter, flat_map, range_with_len}
use Rattle.std.proofs.Math.Nat.{sub_self, zero-div}
use Rattle.std.proofs.lemmas.Bool.{lt-ltb}
use Rattle.std.proofs.lemmas.List.Concat.{flat_map-append}
use Rattle.std.proofs.lemmas.List.Elements.{All-cons, All-nil, All-push, All-weaker, filter-append}
use Rattle.kn_event.specs.declared.event.Event.{Event}
use Rattle.kn_event.specs.declared.revision.Spec.{Spec}
use Rattle.kn_laws.specs.History.{AreInOrder, GoesOn}
use Rattle.kn_teller.specs.Manner.{told}
use Rattle.kn_teller.specs.Run.{Run, begun, later, now_of}
use Rattle.kn_show_series.specs.Laws.{HasLines, line_at, run_up_to, steps_with_line}
use Rattle.kn_show_series.specs.Series.{open_step, over_lines, series, step_line}
use Rattle.kn_show_series.specs.Steps.{is_told, step_of}
use Rattle.kn_show_series.proofs.Events.{now_of-later}
use Rattle.kn_show_series.proofs.Lists.{filter-all}
use Rattle.kn_show_series.proofs.Steps.{step_of-le}
use Rattle.kn_show_series.proofs.UpTo.{Extends, HasItsTime, IsBehind, all_behind, extends, is_up_to, none_up_to, run_of, same_told}

-- ---- ranges

pub range-append : (a m n b : ℕ) → a + m ≡ b → range_with_len a (m + n) ≡ range_with_len a m ++ range_with_len b n
range-append a zero n b e =
    let none : 0 + n ≡ n = omega arith in
    let same : a ≡ b = omega arith in
    rw (none, same) refl
range-append a (suc m) n b e =
    let one : suc m + n ≡ suc (m + n) = omega arith in
    rw one (ap (λ (l : List ℕ). a ∷ l) (range-append (a + 1) m n b (omega arith)))

-- the lines of a range, by functions that agree there
agree : (f g : ℕ → List ℕ) (p q : ℕ → Bool) (a n : ℕ) → ((j : ℕ) → a ≤ j → j < a + n → f j ≡ g j) → ((j : ℕ) → a ≤ j → j < a + n → p j ≡ q j)
    → flat_map f (filter p (range_with_len a n)) ≡ flat_map g (filter q (range_with_len a n))
agree f g p q a zero same passes = refl
agree f g p q a (suc n) same passes =
    let rest = agree f g p q (a + 1) n (λ j l h. same j (omega arith) (omega arith)) (λ j l h. passes j (omega arith) (omega arith)) in
    rw (passes a (omega arith) (omega arith)) (one (q a) (same a (omega arith) (omega arith)) rest)
  where
    one : (b : Bool) → f a ≡ g a → flat_map f (filter p (range_with_len (a + 1) n)) ≡ flat_map g (filter q (range_with_len (a + 1) n))
        → flat_map f (cond b (a ∷ filter p (range_with_len (a + 1) n)) (filter p (range_with_len (a + 1) n)))
        ≡ flat_map g (cond b (a ∷ filter q (range_with_len (a + 1) n)) (filter q (range_with_len (a + 1) n)))
    one false here rest = rest
    one true here rest = ap (λ (l : List ℕ). l ++ flat_map f (filter p (range_with_len (a + 1) n))) here ∙ ap (λ (l : List ℕ). g a ++ l) rest

-- of a range in two parts
in_parts : (f : ℕ → List ℕ) (p : ℕ → Bool) (a b c : ℕ) → a ≤ b → b ≤ c
    → flat_map f (filter p (range_with_len a (b - a))) ++ flat_map f (filter p (range_with_len b (c - b))) ≡ flat_map f (filter p (range_with_len a (c - a)))
in_parts f p a b c low high =
    let size : c - a ≡ (b - a) + (c - b) = omega arith in
    let whole : range_with_len a (c - a) ≡ range_with_len a (b - a) ++ range_with_len b (c - b) = ap (range_with_len a) size ∙ range-append a (b - a) (c - b) b (omega arith) in
    sym (
    ap (λ (l : List ℕ). flat_map f (filter p l)) whole ∙ ap (flat_map f) (filter-append p (range_with_len a (b - a)) (range_with_len b (c - b)))
    ∙ flat_map-append f (filter p (range_with_len a (b - a))) (filter p (range_with_len b (c - b)))
    )

-- ---- times

order_end : (from to : ℕ) (es : List Event) → AreInOrder from es to → from ≤ to
order_end from to [] h = h
order_end from to (e ∷ es) h = let first = h.0 in let rest = order_end e.time to es h.1 in omega arith

all_before : (from to : ℕ) (es : List Event) → AreInOrder from es to → All (λ (e : Event). e.time ≤ to) es
all_before from to [] h = All-nil (λ (e : Event). e.time ≤ to)
all_before from to (e ∷ es) h = All-cons (λ (x : Event). x.time ≤ to) e es (order_end e.time to es h.1) (all_before e.time to es h.1)

-- all that came up to a time is there when its step is over, or a later one
all_up_to : (step start k t : ℕ) (es : List Event) → 0 < step → step_of step start t ≤ k → All (λ (e : Event). e.time ≤ t) es → filter (is_up_to step start k) es ≡ es
all_up_to step start k t es pos low h =
    filter-all (is_up_to step start k) es
    (All-weaker (λ (e : Event). e.time ≤ t) (λ (e : Event). is_up_to step start k e ≡ true) (λ e l. let same = step_of-le step start e.time t pos l in lt-ltb (step_of step start e.time) (k + 1) (omega arith)) es h)

-- ---- from an event on

module _ (append : (s : Spec) (start : ℕ) (es more : List Event) → GoesOn s start es more) (at : HasItsTime) (step : ℕ) (pos : 0 < step) (s : Spec) (start : ℕ) (all : List Event) where
  abbrev whole : Run
  whole = run_of s start all

  abbrev lines_between : ℕ → ℕ → List ℕ
  lines_between a b = flat_map (line_at step whole) (filter (is_told step whole) (range_with_len a (b - a)))

  -- the steps between two events
  over : (done es : List Event) (e : Event) → all ≡ done ++ e ∷ es → All (λ (x : Event). x.time ≤ now_of (run_of s start done)) done → now_of (run_of s start done) ≤ e.time
      → AreInOrder e.time es (now_of whole) → over_lines step (run_of s start done) e.time ≡ lines_between (open_step step (run_of s start done)) (step_of step start e.time)
  unfolding over_lines line_at run_up_to
  over done es e is past low order =
      let r = run_of s start done in
      let a = open_step step r in
      let n = step_of step start e.time - a in
      agree (step_line step r) (line_at step whole) (is_told step r) (is_told step whole) a n
      (λ j l h. ap (λ (d : List Event). step_line step (run_of s start d) j) (sym (same_events j l (omega arith))))
      (λ j l h. same_told step j j r whole (subst (λ (d : List Event). Extends step j r (run_of s start d)) (sym is) (extends append at step j s start done (e ∷ es) (behind j (omega arith)))) (omega arith))
    where
      behind : (j : ℕ) → j < step_of step start e.time → All (λ (x : Event). IsBehind step start j x.time) (e ∷ es)
      behind j h = All-cons (λ (x : Event). IsBehind step start j x.time) e es h (all_behind step start j e.time (now_of whole) es pos order h)

      same_events : (j : ℕ) → open_step step (run_of s start done) ≤ j → j < step_of step start e.time → filter (is_up_to step start j) all ≡ done
      same_events j l h =
          ap (filter (is_up_to step start j)) is ∙ filter-append (is_up_to step start j) done (e ∷ es)
          ∙ ap (λ (d : List Event). filter (is_up_to step start j) done ++ d) (none_up_to step start j (e ∷ es) (behind j h)) ∙ append-nil (filter (is_up_to step start j) done)
          ∙ all_up_to step start j (now_of (run_of s start done)) done pos l past

  walk : (done es : List Event) → all ≡ done ++ es → All (λ (x : Event). x.time ≤ now_of (run_of s start done)) done → AreInOrder (now_of (run_of s start done)) es (now_of whole)
      → told (series step) (run_of s start done) es ≡ lines_between (open_step step (run_of s start done)) (open_step step whole)
  unfolding told
  walk done [] is past order =
      let same : open_step step whole ≡ open_step step (run_of s start done) = ap (λ (d : List Event). open_step step (run_of s start d)) (is ∙ append-nil done) in
      rw (same, sub_self (open_step step (run_of s start done))) refl
  walk done (e ∷ es) is past order =
      let r = run_of s start done in
      let clock : now_of (later r e) ≡ e.time = now_of-later r e in
      let next = walk (done ++ e ∷ []) es (is ∙ sym (append_assoc done (e ∷ []) es))
      (All-push (λ (x : Event). x.time ≤ now_of (later r e)) done e (All-weaker (λ (x : Event). x.time ≤ now_of r) (λ (x : Event). x.time ≤ now_of (later r e)) (λ x h. let o = order.0 in omega (arith, clock)) done past) (omega (arith, clock)))
      (subst (λ (t : ℕ). AreInOrder t es (now_of whole)) (sym clock) order.1) in
      let b = step_of step start e.time in
      let at_b : open_step step (later r e) ≡ b = ap (step_of step start) clock in
      let rest : told (series step) (later r e) es ≡ lines_between b (open_step step whole) = next ∙ ap (λ (k : ℕ). lines_between k (open_step step whole)) at_b in
      let low = step_of-le step start (now_of r) e.time pos order.0 in
      let high = step_of-le step start e.time (now_of whole) pos (order_end e.time (now_of whole) es order.1) in
      ap (λ (l : List ℕ). l ++ told (series step) (later r e) es) (over done es e is past order.0 order.1)
      ∙ ap (λ (l : List ℕ). lines_between (open_step step r) b ++ l) rest
      ∙ in_parts (line_at step whole) (is_told step whole) (open_step step r) b (open_step step whole) low high

  last : AreInOrder start all (now_of whole) → line_at step whole (open_step step whole) ≡ step_line step whole (open_step step whole)
  unfolding line_at run_up_to
  last order =
      ap (λ (d : List Event). step_line step (run_of s start d) (open_step step whole)) (all_up_to step start (open_step step whole) (now_of whole) all pos (omega arith) (all_before start (now_of whole) all order))

  pub has_lines : AreInOrder start all (now_of whole) → HasLines step whole
  unfolding steps_with_line
  has_lines order version =
      let k = open_step step whole in
      let first : step_of step start start ≡ 0 = ap (λ (n : ℕ). n / step) (sub_self start) ∙ zero-div step in
      let lines : told (series step) (begun s start) all ≡ lines_between 0 k =
      walk [] all refl (All-nil (λ (x : Event). x.time ≤ start)) order ∙ ap (λ (n : ℕ). lines_between n k) first in
      let size : k - 0 ≡ k = omega arith in
      let told_before = filter (is_told step whole) (range_with_len 0 k) in
      ap (λ (l : List ℕ). l ++ step_line step whole k) (lines ∙ ap (λ (n : ℕ). flat_map (line_at step whole) (filter (is_told step whole) (range_with_len 0 n))) size)
      ∙ ap (λ (l : List ℕ). flat_map (line_at step whole) told_before ++ l) (sym (last order) ∙ sym (append-nil (line_at step whole k)))
      ∙ sym (flat_map-append (line_at step whole) told_before (k ∷ []))
