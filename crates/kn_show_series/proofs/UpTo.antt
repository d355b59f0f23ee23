-- What had come of a run when a step was over: the first of its events, and of its trace.
use Rattle.std.proofs.Common.{◌≡◌, ◌≤◌, ◌<◌, ◌+◌, ◌-◌, ℕ, Bool, true, false, cond, ◌||◌, ◌&&◌, eqb, ltb, List, [], ◌∷◌, ◌++◌, refl, ap, sym, ◌∙◌, subst, arith, append-nil}
use Rattle.std.specs.List.{All, filter, list_any}
use Rattle.std.proofs.lemmas.Bool.{le-ltb, ne_eqb}
use Rattle.std.proofs.lemmas.Bool.Decides.{nat_tests}
use Rattle.std.proofs.lemmas.List.Elements.{All-append, All-cons, All-head, All-nil, All-tail, All-weaker}
use Rattle.kn_event.specs.declared.entry.Entry.{Entry}
use Rattle.kn_event.specs.declared.event.Event.{Event}
use Rattle.kn_event.specs.declared.revision.Spec.{Spec}
use Rattle.kn_trace.specs.Events.{added, react, trace_of}
use Rattle.kn_trace.specs.Trace.{Trace}
use Rattle.kn_laws.specs.History.{AreInOrder, GoesOn}
use Rattle.kn_laws.specs.Kinds.{EachAt}
use Rattle.kn_lives.specs.Lives.{by_row}
use Rattle.kn_teller.specs.Run.{Run, now_of, trace}
use Rattle.kn_show_series.specs.Laws.{counts_at, run_up_to}
use Rattle.kn_show_series.specs.Steps.{counts_in, counts_of, follows_filled, is_filled, is_shown, is_told, rows_in, step_of, wait_in, waits_in}
use Rattle.kn_show_series.proofs.Events.{GoesByParts, each_at-all, rows_in-append}
use Rattle.kn_show_series.proofs.Lists.{filter-none}
use Rattle.kn_show_series.proofs.Past.{AreElsewhere, by_row-none, rows_in-none}
use Rattle.kn_show_series.proofs.Steps.{step_of-le}

-- a time lies behind step k
abbrev pub IsBehind : ℕ → ℕ → ℕ → ℕ → Type 0
IsBehind step start k t = k < step_of step start t

-- ---- events

pub all_behind : (step start k from to : ℕ) (es : List Event) → 0 < step → AreInOrder from es to → IsBehind step start k from → All (λ (e : Event). IsBehind step start k e.time) es
all_behind step start k from to [] pos order h = All-nil (λ (e : Event). IsBehind step start k e.time)
all_behind step start k from to (e ∷ es) pos order h =
    let low = step_of-le step start from e.time pos order.0 in
    let here : k < step_of step start e.time = omega arith in
    All-cons (λ (x : Event). IsBehind step start k x.time) e es here (all_behind step start k e.time to es pos order.1 here)

abbrev pub is_up_to : ℕ → ℕ → ℕ → Event → Bool
is_up_to step start k e = ltb (step_of step start e.time) (k + 1)

pub none_up_to : (step start k : ℕ) (es : List Event) → All (λ (e : Event). IsBehind step start k e.time) es → filter (is_up_to step start k) es ≡ []
none_up_to step start k es h =
    filter-none (is_up_to step start k) es
    (All-weaker (λ (e : Event). IsBehind step start k e.time) (λ (e : Event). is_up_to step start k e ≡ false) (λ e l. le-ltb (step_of step start e.time) (k + 1) (omega arith)) es h)

-- the first ones, and those behind
split : (step start k from to : ℕ) (es : List Event) → 0 < step → AreInOrder from es to
    → (back : List Event) × (es ≡ filter (is_up_to step start k) es ++ back) × All (λ (e : Event). IsBehind step start k e.time) back
split step start k from to [] pos order = ([], refl, All-nil (λ (e : Event). IsBehind step start k e.time))
split step start k from to (e ∷ es) pos order = by (is_up_to step start k e) refl (split step start k e.time to es pos order.1)
  where
    by : (b : Bool) → is_up_to step start k e ≡ b → (back : List Event) × (es ≡ filter (is_up_to step start k) es ++ back) × All (λ (x : Event). IsBehind step start k x.time) back
        → (back : List Event) × (e ∷ es ≡ cond b (e ∷ filter (is_up_to step start k) es) (filter (is_up_to step start k) es) ++ back) × All (λ (x : Event). IsBehind step start k x.time) back
    by true h (back, same, behind) = (back, ap (λ (l : List Event). e ∷ l) same, behind)
    by false h rest =
        let here : k < step_of step start e.time = grind (arith, nat_tests) in
        let later = all_behind step start k e.time to es pos order.1 here in
        (e ∷ es, ap (λ (l : List Event). l ++ e ∷ es) (sym (none_up_to step start k es later)), All-cons (λ (x : Event). IsBehind step start k x.time) e es here later)

-- ---- rows

abbrev pub HasItsTime : Type 0
HasItsTime = (s : Spec) (c : Trace) (e : Event) → EachAt e.time (react s c e)

pub added_behind : (step start k : ℕ) (s : Spec) (c : Trace) (es : List Event) → HasItsTime → All (λ (e : Event). IsBehind step start k e.time) es
    → All (λ (x : Entry). IsBehind step start k x.time) (added s c es)
unfolding added
added_behind step start k s c [] at h = All-nil (λ (x : Entry). IsBehind step start k x.time)
added_behind step start k s c (e ∷ es) at h =
    let P : Entry → Type 0 = λ (x : Entry). IsBehind step start k x.time in
    All-append P (react s c e) (added s (c ++ react s c e) es)
    (each_at-all P e.time (react s c e) (λ x same. subst (IsBehind step start k) (sym same) (All-head (λ (y : Event). IsBehind step start k y.time) e es h)) (at s c e))
    (added_behind step start k s (c ++ react s c e) es at (All-tail (λ (y : Event). IsBehind step start k y.time) e es h))

-- rows behind a step lie in no step up to it
pub elsewhere : (step start j k : ℕ) (c : Trace) → j ≤ k → All (λ (x : Entry). IsBehind step start k x.time) c → AreElsewhere step start j c
elsewhere step start j k c low h =
    All-weaker (λ (x : Entry). IsBehind step start k x.time) (λ (x : Entry). eqb (step_of step start x.time) j ≡ false)
    (λ x l. ne_eqb (step_of step start x.time) j (λ e. omega arith)) c h

rows_in-front : (step start j k : ℕ) (c more : Trace) → j ≤ k → All (λ (x : Entry). IsBehind step start k x.time) more → rows_in step start j (c ++ more) ≡ rows_in step start j c
rows_in-front step start j k c more low h =
    rows_in-append step start j c more ∙ ap (λ (l : Trace). rows_in step start j c ++ l) (rows_in-none step start j more (elsewhere step start j k more low h)) ∙ append-nil (rows_in step start j c)

waits_in-front : (step start j k : ℕ) (c more : Trace) → GoesByParts → j ≤ k → All (λ (x : Entry). IsBehind step start k x.time) more → waits_in step start j (c ++ more) ≡ waits_in step start j c
unfolding waits_in
waits_in-front step start j k c more parts low h =
    parts (wait_in step start j) [] c more
    ∙ ap (λ (l : List ℕ). by_row (wait_in step start j) [] c ++ l) (by_row-none step start j c more (elsewhere step start j k more low h))
    ∙ append-nil (by_row (wait_in step start j) [] c)

-- ---- a run and a longer one

-- the rows that the longer one has more lie behind step k
pub record Extends (step k : ℕ) (r whole : Run) : Type 0 where
  pub start : r.start ≡ whole.start
  pub more : Trace
  pub is : trace whole ≡ trace r ++ more
  pub behind : All (λ (x : Entry). IsBehind step r.start k x.time) more

same_rows : (step k j : ℕ) (r whole : Run) → Extends step k r whole → j ≤ k → rows_in step r.start j (trace r) ≡ rows_in step whole.start j (trace whole)
same_rows step k j r whole x low =
    sym (rows_in-front step r.start j k (trace r) x.more low x.behind) ∙ ap (rows_in step r.start j) (sym x.is) ∙ ap (λ n. rows_in step n j (trace whole)) x.start

pub same_counts : (step k j : ℕ) (r whole : Run) → GoesByParts → Extends step k r whole → j ≤ k → counts_in step r j ≡ counts_in step whole j
same_counts step k j r whole parts x low =
    let waits : waits_in step r.start j (trace r) ≡ waits_in step whole.start j (trace whole) =
    sym (waits_in-front step r.start j k (trace r) x.more parts low x.behind) ∙ ap (waits_in step r.start j) (sym x.is) ∙ ap (λ n. waits_in step n j (trace whole)) x.start in
    ap (λ (c : Trace). counts_of c (waits_in step r.start j (trace r))) (same_rows step k j r whole x low)
    ∙ ap (counts_of (rows_in step whole.start j (trace whole))) waits

same_filled : (step k j : ℕ) (r whole : Run) → Extends step k r whole → j ≤ k → is_filled step r j ≡ is_filled step whole j
unfolding is_filled
same_filled step k j r whole x low = ap (λ (c : Trace). eqb j 0 || list_any (λ (y : Entry). is_shown y.row) c) (same_rows step k j r whole x low)

pub same_told : (step k j : ℕ) (r whole : Run) → Extends step k r whole → j ≤ k → is_told step r j ≡ is_told step whole j
unfolding follows_filled
same_told step k j r whole x low =
    ap (λ (b : Bool). b || (ltb 0 j && is_filled step r (j - 1))) (same_filled step k j r whole x low)
    ∙ ap (λ (b : Bool). is_filled step whole j || (ltb 0 j && b)) (same_filled step k (j - 1) r whole x (omega arith))

abbrev pub run_of : Spec → ℕ → List Event → Run
run_of s start es = record { spec = s; start = start; events = es }

module _ (append : (s : Spec) (start : ℕ) (es more : List Event) → GoesOn s start es more) (at : HasItsTime) where
  pub extends : (step k : ℕ) (s : Spec) (start : ℕ) (es more : List Event) → All (λ (e : Event). IsBehind step start k e.time) more → Extends step k (run_of s start es) (run_of s start (es ++ more))
  extends step k s start es more h = record {
    start = refl;
    more = added s (trace_of s start es) more;
    is = append s start es more;
    behind = added_behind step start k s (trace_of s start es) more at h;
  }

  up_to : (step k : ℕ) (r : Run) → 0 < step → AreInOrder r.start r.events (now_of r) → Extends step k (run_up_to step r k) r
  unfolding run_up_to
  up_to step k r pos order =
      let front = filter (is_up_to step r.start k) r.events in
      by (split step r.start k r.start (now_of r) r.events pos order)
    where
      by : (back : List Event) × (r.events ≡ filter (is_up_to step r.start k) r.events ++ back) × All (λ (e : Event). IsBehind step r.start k e.time) back
          → Extends step k (run_of r.spec r.start (filter (is_up_to step r.start k) r.events)) r
      by (back, same, behind) =
          let front = filter (is_up_to step r.start k) r.events in
          subst (λ (es : List Event). Extends step k (run_of r.spec r.start front) (run_of r.spec r.start es)) (sym same) (extends step k r.spec r.start front back behind)

  pub counts_at-is : (step k : ℕ) (r : Run) → GoesByParts → 0 < step → AreInOrder r.start r.events (now_of r) → counts_at step r k ≡ counts_in step r k
  unfolding counts_at
  counts_at-is step k r parts pos order = same_counts step k k (run_up_to step r k) r parts (up_to step k r pos order) (omega arith)
