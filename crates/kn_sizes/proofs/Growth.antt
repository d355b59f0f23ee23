-- How many more requests are live after an event: those that it takes in, less those that it ends.
use Rattle.std.proofs.Common.{◌≡◌, ℕ, ◌+◌, ◌≤◌, Bool, true, false, cond, ◌⊎◌, inl, inr, [], ◌∷◌, ◌++◌, length, refl, ap, subst, ◌∙◌, arith, append-nil, append_assoc}
use Rattle.std.specs.Prelude.{Option, None, Some}
use Rattle.kn_event.specs.declared.entry.Row.{Row}
use Rattle.kn_event.specs.declared.entry.Row.TheVariants as row
use Rattle.kn_event.specs.declared.event.Act.{Act}
use Rattle.kn_event.specs.declared.event.Act.TheVariants as act
use Rattle.kn_event.specs.declared.event.Event.{Event}
use Rattle.kn_event.specs.declared.revision.Spec.{Spec}
use Rattle.kn_event.specs.Lists.{contains}
use Rattle.kn_trace.specs.Rows.{ended_by, taken_by}
use Rattle.kn_trace.specs.Trace.{Trace, entry, each_row, is_running, live, live_pods, waiting}
use Rattle.kn_trace.specs.Events.{act_row, before_settling, entries_of, expiries, need_of, react}
use Rattle.kn_trace.specs.Settling.{held_assignments, promotions, removals, settling}
use Rattle.kn_trace.specs.Report.{is_assign, is_expire}
use Rattle.kn_record.specs.Rows.{counted}
use Rattle.kn_record.specs.Facts.{Facts}
use Rattle.kn_laws.specs.ByAct.{IsByAct}
use Rattle.kn_record.specs.Made.{Holds, IsMade, IsProper}
use Rattle.kn_laws.specs.Kinds.{Each, is_departure_row, is_remove_row, is_run_row, is_scaler_row, IsActRow}
use Rattle.kn_laws.specs.Facts.{PartFacts}
use Rattle.kn_sizes.proofs.Serving.{runs-push, waiting_idle}
use Rattle.kn_sizes.proofs.Counts.{count-append, none-each}
use Rattle.kn_sizes.proofs.Ends.{count-cons, live-many}
use Rattle.kn_sizes.proofs.Bounds.{active_of, assign_takes, before-parts, departure_takes, gone_of, held_rows, more_of, own_of, remove_takes, run_takes, scaler_takes}

-- how many an act may take in
abbrev taken_most : Act → ℕ
taken_most (act.Arrive tag) = 1
taken_most _ = 0

takes_by : (a : Act) (x : Row) → IsByAct a x → counted (taken_by x) ≤ taken_most a
takes_by a (row.Admit r tag) h = rw h (omega arith)
takes_by a (row.Direct r p) h = rw h.1 (omega arith)
takes_by a _ h = omega arith

react-parts : (s : Spec) (c : Trace) (e : Event) → react s c e ≡ ((gone_of s c e ++ (own_of s c e ++ more_of s c e)) ++ active_of s c e) ++ settling s e.time (c ++ before_settling s c e)
unfolding react
react-parts s c e = ap (λ (first : Trace). first ++ settling s e.time (c ++ before_settling s c e)) (before-parts s c e)

-- the rows of one kind, part by part
parts-count : (f : Row → Option ℕ) (s : Spec) (c : Trace) (e : Event) → length (each_row f (react s c e))
    ≡ (length (each_row f (gone_of s c e)) + (length (each_row f (own_of s c e)) + length (each_row f (more_of s c e))) + length (each_row f (active_of s c e))) + length (each_row f (settling s e.time (c ++ before_settling s c e)))
parts-count f s c e =
    let gone = gone_of s c e in
    let own = own_of s c e in
    let more = more_of s c e in
    let active = active_of s c e in
    let last = settling s e.time (c ++ before_settling s c e) in
    let a = count-append f ((gone ++ (own ++ more)) ++ active) last in
    let b = count-append f (gone ++ (own ++ more)) active in
    let d = count-append f gone (own ++ more) in
    let g = count-append f own more in
    ap (λ (es : Trace). length (each_row f es)) (react-parts s c e) ∙ omega arith

-- it ends at least those that expire, and the one that its act ends
event-ends : (s : Spec) (c : Trace) (e : Event) → length (each_row ended_by (gone_of s c e)) + length (each_row ended_by (own_of s c e)) ≤ length (each_row ended_by (react s c e))
event-ends s c e = let all = parts-count ended_by s c e in omega arith

finish-ends : (s : Spec) (c : Trace) (t r : ℕ) (ok : Bool) → is_running c r ≡ true → length (each_row ended_by (entries_of t (act_row s c (act.Finish r ok)))) ≡ 1
unfolding act_row
finish-ends s c t r ok runs = rw runs refl

cancel-ends : (s : Spec) (c : Trace) (t r : ℕ) → contains r (waiting c) ≡ true → length (each_row ended_by (entries_of t (act_row s c (act.Cancel r)))) ≡ 1
unfolding act_row
cancel-ends s c t r waits = rw waits refl

expire_ends : (x : Row) → is_expire x ≡ true → counted (ended_by x) ≡ 1
expire_ends (row.Expire r) h = refl
expire_ends _ h = absurd (cc)

-- somebody expires, or none does
expired-or-same : (c es : Trace) → Each is_expire es → (1 ≤ length (each_row ended_by es)) ⊎ (c ++ es ≡ c)
expired-or-same c [] kind = inr (append-nil c)
expired-or-same c (e ∷ es) kind = let one = expire_ends e.row kind.0 in let all = count-cons ended_by e es in inl (omega arith)

module _ (facts : Facts) (parts : PartFacts) where
  open facts use {proper.{made_kept, expiries-hold, react-holds}}
  open parts use {rows.{expiries-rows, departures-rows, departures-same, act-facts, scaler-rows, activation-rows, promotions-rows, removals-rows}}

  -- ---- what one event takes in, and what it ends

  -- an act's own row takes in one at most, and only an arrival's does
  own-takes : (s : Spec) (t : ℕ) (c : Trace) (a : Act) → length (each_row taken_by (entries_of t (act_row s c a))) ≤ taken_most a
  own-takes s t c a = by (act_row s c a) (act-facts s c a)
    where
      by : (o : Option Row) → IsActRow a o → length (each_row taken_by (entries_of t o)) ≤ taken_most a
      by None h = omega arith
      by (Some x) h = let few = takes_by a x h.1 in let one = count-cons taken_by (entry t x) [] in omega arith

  settling-takes : (s : Spec) (t : ℕ) (d : Trace) → length (each_row taken_by (settling s t d)) ≡ 0
  unfolding settling
  settling-takes s t d =
      let ran = promotions t d (live_pods d) in
      let gave = held_assignments s t (d ++ ran) in
      let rem = removals t ((d ++ ran) ++ gave) in
      let a : length (each_row taken_by ran) ≡ 0 = rw (none-each taken_by is_run_row run_takes ran (promotions-rows t d (live_pods d))) refl in
      let b : length (each_row taken_by gave) ≡ 0 = rw (none-each taken_by is_assign assign_takes gave (held_rows facts parts s t (d ++ ran))) refl in
      let e : length (each_row taken_by rem) ≡ 0 = rw (none-each taken_by is_remove_row remove_takes rem (removals-rows t ((d ++ ran) ++ gave))) refl in
      let f = count-append taken_by (ran ++ gave) rem in
      let g = count-append taken_by ran gave in
      omega arith

  event-takes : (s : Spec) (c : Trace) (e : Event) → length (each_row taken_by (react s c e)) ≤ taken_most e.act
  event-takes s c e =
      let all = parts-count taken_by s c e in
      let c1 = c ++ gone_of s c e in
      let a : length (each_row taken_by (gone_of s c e)) ≡ 0 = rw (none-each taken_by is_departure_row departure_takes (gone_of s c e) (departures-rows s c e)) refl in
      let b = own-takes s e.time c1 e.act in
      let d : length (each_row taken_by (more_of s c e)) ≡ 0 = rw (none-each taken_by is_scaler_row scaler_takes (more_of s c e) (scaler-rows s.kind s e.time (c1 ++ own_of s c e) e.act (act_row s c1 e.act))) refl in
      let f : length (each_row taken_by (active_of s c e)) ≡ 0 = rw (none-each taken_by is_scaler_row scaler_takes (active_of s c e) (activation-rows e.time (c1 ++ (own_of s c e ++ more_of s c e)))) refl in
      let g = settling-takes s e.time (c ++ before_settling s c e) in
      omega arith

  -- where no pod is lost, those are the expired
  plain-ends : (s : Spec) (c : Trace) (e : Event) → ((p : ℕ) → e.act ≡ act.Lost p → ⊥)
      → length (each_row ended_by (expiries s e.time c)) + length (each_row ended_by (entries_of e.time (act_row s (c ++ expiries s e.time c) e.act))) ≤ length (each_row ended_by (react s c e))
  plain-ends s c e other =
      let P : Trace → Type 0 = λ gone. length (each_row ended_by gone) + length (each_row ended_by (entries_of e.time (act_row s (c ++ gone) e.act))) ≤ length (each_row ended_by (react s c e)) in
      subst P (departures-same s c e other) (event-ends s c e)

  -- ---- who runs doesn't expire, and who waits expires or can be cancelled

  runs-past : (s : Spec) (c es : Trace) (r : ℕ) → Each is_expire es → Holds (IsProper s) c es → is_running c r ≡ true → is_running (c ++ es) r ≡ true
  runs-past s c [] r kind h runs = rw (append-nil c) runs
  runs-past s c (e ∷ es) r kind h runs = rw (append_assoc c (e ∷ []) es) at (runs-past s (c ++ e ∷ []) es r kind.1 h.1 (one e.row kind.0 h.0))
    where
      one : (x : Row) → is_expire x ≡ true → IsProper s c x → is_running (c ++ entry e.time x ∷ []) r ≡ true
      one (row.Expire q) k p = runs-push facts c (entry e.time (row.Expire q)) r runs (waiting_idle facts c q r p runs)
      one _ k p = absurd (cc)

  cancelled : (s : Spec) (c : Trace) (t r : ℕ) → contains r (waiting c) ≡ true → 1 ≤ length (each_row ended_by (expiries s t c)) + length (each_row ended_by (entries_of t (act_row s (c ++ expiries s t c) (act.Cancel r))))
  cancelled s c t r waits = by (expired-or-same c (expiries s t c) (expiries-rows s t c))
    where
      by : (1 ≤ length (each_row ended_by (expiries s t c))) ⊎ (c ++ expiries s t c ≡ c) → 1 ≤ length (each_row ended_by (expiries s t c)) + length (each_row ended_by (entries_of t (act_row s (c ++ expiries s t c) (act.Cancel r))))
      by (inl some) = omega arith
      by (inr same) = let one = cancel-ends s (c ++ expiries s t c) t r (rw same waits) in omega arith

  -- ---- the whole

  -- live requests grow by at most the need of the act less one
  pub grows-by : (s : Spec) (c : Trace) (e : Event) → IsMade s c → length (live (c ++ react s c e)) + 1 ≤ length (live c) + need_of c e.act
  unfolding need_of
  grows-by s c e made =
      let kept = made_kept s c made in
      by e.act (live-many facts s c (react s c e) kept (react-holds s c e kept)) (event-takes s c e) (plain-ends s c e) (λ r runs. runs-past s c (expiries s e.time c) r (expiries-rows s e.time c) (expiries-hold s e.time c kept.requests) runs)
    where
      by : (a : Act) → length (live (c ++ react s c e)) + length (each_row ended_by (react s c e)) ≤ length (live c) + length (each_row taken_by (react s c e))
          → length (each_row taken_by (react s c e)) ≤ taken_most a
          → (((p : ℕ) → a ≡ act.Lost p → ⊥) → length (each_row ended_by (expiries s e.time c)) + length (each_row ended_by (entries_of e.time (act_row s (c ++ expiries s e.time c) a))) ≤ length (each_row ended_by (react s c e)))
          → ((r : ℕ) → is_running c r ≡ true → is_running (c ++ expiries s e.time c) r ≡ true)
          → length (live (c ++ react s c e)) + 1 ≤ length (live c) + need_of c a
      by (act.Arrive tag) sum takes ends runs = omega arith
      by (act.Finish r ok) sum takes ends runs = at (is_running c r) refl
        where
          at : (b : Bool) → is_running c r ≡ b → length (live (c ++ react s c e)) + 1 ≤ length (live c) + cond b 0 1
          at true k = let one = finish-ends s (c ++ expiries s e.time c) e.time r ok (runs r k) in let all = ends (λ p lost. absurd (cc)) in omega arith
          at false k = omega arith
      by (act.Cancel r) sum takes ends runs = at (contains r (waiting c)) refl
        where
          at : (b : Bool) → contains r (waiting c) ≡ b → length (live (c ++ react s c e)) + 1 ≤ length (live c) + cond b 0 1
          at true k = let one = cancelled s c e.time r k in let all = ends (λ p lost. absurd (cc)) in omega arith
          at false k = omega arith
      by act.Pass sum takes ends runs = omega arith
      by (act.Ready p) sum takes ends runs = omega arith
      by (act.Limit p n) sum takes ends runs = omega arith
      by (act.Lost p) sum takes ends runs = omega arith
      by act.Tick sum takes ends runs = omega arith
