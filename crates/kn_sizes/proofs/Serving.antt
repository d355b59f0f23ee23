-- What a server needs of one request: how it comes, waits, runs and ends.
use Rattle.std.proofs.Common.{◌≡◌, ℕ, ◌<◌, Bool, true, false, not, ◌&&◌, ◌||◌, ◌⊎◌, inl, inr, [], ◌∷◌, ◌++◌, refl, sym, ◌∙◌, arith, append-nil, append_assoc}
use Rattle.std.specs.Prelude.{◌==◌}
use Rattle.std.proofs.lemmas.Bool.{eqb-true, or_cases, false_from_ne_true}
use Rattle.kn_event.specs.declared.entry.Entry.{Entry}
use Rattle.kn_event.specs.declared.revision.Spec.{Spec}
use Rattle.kn_event.specs.Lists.{contains}
use Rattle.kn_trace.specs.Rows.{ended_by, taken_by}
use Rattle.kn_trace.specs.Trace.{Trace, arrivals, assigned, each_row, ended, has_begun, has_not_begun, has_run, is_running, waiting}
use Rattle.kn_record.specs.Made.{Holds, IsMade, IsProper}
use Rattle.kn_record.specs.Rows.{says}
use Rattle.kn_record.specs.Facts.{Facts}
use Rattle.kn_sizes.proofs.Counts.{not_begun-less}
use Rattle.kn_sizes.specs.Stays.{HoldsOnwards}
use Rattle.kn_sizes.proofs.Lasting.{stays_over}

module _ (facts : Facts) where
  open facts use {lists.{filter_member, in_filter}, kinds.{says-true}, entries.{contains-push, arrivals-push, is_running-push}, members.{waiting_member, running_parts}, proper.{taken_next}}

  -- ---- waiting is left for good

  -- a row makes no old request wait
  waits_no_more : (s : Spec) (c : Trace) (e : Entry) (r : ℕ) → IsProper s c e.row → r < arrivals c → contains r (waiting c) ≡ false → contains r (waiting (c ++ e ∷ [])) ≡ false
  unfolding waiting
  waits_no_more s c e r h less out = false_from_ne_true (contains r (waiting (c ++ e ∷ []))) (λ k. again k)
    where
      again : contains r (waiting (c ++ e ∷ [])) ≡ true → ⊥
      again k =
          let both = filter_member (has_not_begun (c ++ e ∷ [])) r (each_row taken_by (c ++ e ∷ [])) k in
          by (not_begun-less facts c e r both.1) (or_cases _ _ (sym (contains-push taken_by c e r) ∙ both.0))
        where
          by : has_not_begun c r ≡ true → (contains r (each_row taken_by c) ≡ true) ⊎ (says (taken_by e.row) r ≡ true) → ⊥
          by idle (inl a) = let waits = in_filter (has_not_begun c) r (each_row taken_by c) a idle in absurd (cc)
          by idle (inr a) = let next = taken_next s c e.row r h (says-true (taken_by e.row) r a) in absurd (omega arith)

  waits_no_longer : (s : Spec) (c es : Trace) (r : ℕ) → Holds (IsProper s) c es → r < arrivals c → contains r (waiting c) ≡ false → contains r (waiting (c ++ es)) ≡ false
  waits_no_longer s c [] r h less out = rw (append-nil c) out
  waits_no_longer s c (e ∷ es) r h less out =
      let more = arrivals-push c e in
      rw (append_assoc c (e ∷ []) es) at (waits_no_longer s (c ++ e ∷ []) es r h.1 (omega arith) (waits_no_more s c e r h.0 less out))

  -- a request that has come and does not wait never waits again, whatever happens
  pub waits_once : (s : Spec) (c : Trace) (r : ℕ) → IsMade s c → r < arrivals c → contains r (waiting c) ≡ false → HoldsOnwards s c (λ d. contains r (waiting d) ≡ false)
  waits_once s c r made less out = stays_over facts s (λ d. contains r (waiting d) ≡ false) c made (λ es h. waits_no_longer s c es r h less out)

  -- ---- running is left by an end alone

  -- the row ends request r, or r runs on
  pub runs-push : (c : Trace) (e : Entry) (r : ℕ) → is_running c r ≡ true → says (ended_by e.row) r ≡ false → is_running (c ++ e ∷ []) r ≡ true
  unfolding is_running has_begun
  runs-push c e r h out = is_running-push c e r ∙ rw out (by (assigned c r) _ (has_run c r) _ (ended c r) h)
    where
      by : (a x n y g : Bool) → ((a || n) && not g) ≡ true → (((a || x) || (n || y)) && not (g || false)) ≡ true
      by true x n y true h = absurd (cc)
      by true x n y false h = refl
      by false x true y true h = absurd (cc)
      by false true true y false h = refl
      by false false true y false h = refl
      by false x false y g h = absurd (cc)

  -- who waits doesn't run
  pub waiting_idle : (c : Trace) (q r : ℕ) → contains q (waiting c) ≡ true → is_running c r ≡ true → (q == r) ≡ false
  waiting_idle c q r waits runs = false_from_ne_true (q == r) (λ e. clash (eqb-true q r e))
    where
      clash : q ≡ r → ⊥
      clash same =
          let idle = (waiting_member c q waits).1 in
          let begun = (running_parts c r runs).0 in
          let a : assigned c r ≡ false = rw (← same) idle.assigned in
          let n : has_run c r ≡ false = rw (← same) idle.run in
          let none : (assigned c r || has_run c r) ≡ false = rw (a, n) refl in
          absurd (cc)
