-- What further entries make of what decisions look back on.
use Rattle.std.proofs.Common.{◌≡◌, ℕ, ◌<◌, ◌≤◌, ◌⊎◌, inl, inr, true, false, List, [], ◌∷◌, ◌++◌, map, refl, sym, ap, ◌∙◌, subst, append-nil, append_assoc, arith, nat_lt}
use Rattle.std.specs.Prelude.{Option, None, Some, reverse, unwrap_or}
use Rattle.std.specs.Option.{option_or, option_to_list}
use Rattle.std.specs.List.{cons_option, filter_map}
use Rattle.std.proofs.lemmas.Bool.{cases_lt}
use Rattle.std.proofs.lemmas.Bool.Decides.{nat_tests}
use Rattle.std.proofs.lemmas.List.{reverse-append}
use Rattle.kn_event.specs.declared.entry.Entry.{Entry}
use Rattle.kn_event.specs.declared.entry.Phase.{Phase}
use Rattle.kn_event.specs.declared.entry.Phase.TheVariants as phase
use Rattle.kn_event.specs.declared.revision.Metric.{Metric}
use Rattle.kn_event.specs.declared.revision.Spec.{Spec}
use Rattle.kn_scaling.specs.declared.zero.Standing.{Standing}
use Rattle.kn_scaling.specs.Average.{Samples, second_of}
use Rattle.kn_scaling.specs.Decide.{Decided, Past, asked_of, judged_of}
use Rattle.kn_trace.specs.Load.{samples}
use Rattle.kn_trace.specs.Rows.{mode_by, phase_by}
use Rattle.kn_trace.specs.Scale.{decided_by, initial_reached, past_of, phase_of, standing_of}
use Rattle.kn_trace.specs.Trace.{Trace, is_empty}
use Rattle.kn_laws.specs.Kinds.{Each, EachAt}
use Rattle.kn_past.specs.Changes.{leaves_pods, time_by, want_by}
use Rattle.kn_panic.specs.Stands.{IsPanicOf}
use Rattle.kn_delay.specs.Stands.{IsDelayOf}
use Rattle.kn_decider.specs.Closing.{below}
use Rattle.kn_decider.specs.Decider.{DeciderState, IsDeciderOf}
use Rattle.kn_scaler.specs.Facts.{TraceFacts}
use Rattle.kn_scaler.proofs.Times.{from_time, is_over}

-- ---- by what entries say

abbrev pub standing_with : Entry → Standing → Standing
standing_with e st = record {
  phase = unwrap_or (phase_by e.row) st.phase;
  phase_since = unwrap_or (time_by phase_by e) st.phase_since;
  mode = unwrap_or (mode_by e.row) st.mode;
  mode_since = unwrap_or (time_by mode_by e) st.mode_since;
  want = unwrap_or (want_by e.row) st.want;
}

abbrev pub with_entry : Entry → Past → Past
with_entry e p = record p { decisions = cons_option (decided_by e) p.decisions; standing = standing_with e p.standing }

abbrev pub with_entries : List Entry → Past → Past
with_entries [] p = p
with_entries (e ∷ es) p = with_entries es (with_entry e p)

-- the same decisions were made, and the revision stands there
pub record IsSame (p q : Past) : Type 0 where
  pub decisions : p.decisions ≡ q.decisions
  pub standing : p.standing ≡ q.standing

pub same-trans : (p q r : Past) → IsSame p q → IsSame q r → IsSame p r
same-trans p q r a b = record { decisions = a.decisions ∙ b.decisions; standing = a.standing ∙ b.standing }

pub same-sym : (p q : Past) → IsSame p q → IsSame q p
same-sym p q a = record { decisions = sym a.decisions; standing = sym a.standing }

same-entries : (es : List Entry) (p q : Past) → IsSame p q → IsSame (with_entries es p) (with_entries es q)
same-entries [] p q same = same
same-entries (e ∷ es) p q same =
    same-entries es (with_entry e p) (with_entry e q) (record { decisions = ap (cons_option (decided_by e)) same.decisions; standing = ap (standing_with e) same.standing })

-- ---- parts

default-or : {X : Type 0} (o p : Option X) (d : X) → unwrap_or (option_or o p) d ≡ unwrap_or o (unwrap_or p d)
default-or None p d = refl
default-or (Some x) p d = refl

latest-first : (o : Option Decided) (ds : List Decided) → reverse (ds ++ option_to_list o) ≡ cons_option o (reverse ds)
latest-first None ds = ap reverse (append-nil ds)
latest-first (Some d) ds = reverse-append ds (d ∷ [])

pub not_empty : (c : Trace) (p : Phase) → phase_of c ≡ Some p → is_empty c ≡ false
unfolding phase_of
not_empty [] p h = absurd (cc)
not_empty (e ∷ es) p h = refl

pub more_not_empty : (c es : Trace) → is_empty c ≡ false → is_empty (c ++ es) ≡ false
more_not_empty [] es h = absurd (cc)
more_not_empty (e ∷ c) es h = refl

or_some : (o : Option Phase) (p : Phase) → (q : Phase) × (option_or o (Some p) ≡ Some q)
or_some None p = (p, refl)
or_some (Some q) p = (q, refl)

-- ---- the samples of the seconds before another

below_same : (f g : Samples) (until : ℕ) → ((s : ℕ) → s < until → f s ≡ g s) → (s : ℕ) → below until f s ≡ below until g s
below_same f g until agree s = by (cases_lt s until)
  where
    by : (s < until) ⊎ (until ≤ s) → below until f s ≡ below until g s
    by (inl lt) = let is : nat_lt s until ≡ true = grind (arith, nat_tests) in rw is (agree s lt)
    by (inr le) = let is : nat_lt s until ≡ false = grind (arith, nat_tests) in rw is refl

pub sampled : (s : Spec) (c : Trace) → (past_of s c).samples ≡ samples s.metric c
unfolding past_of
sampled s c = refl

pub was_reached : (s : Spec) (c : Trace) → (past_of s c).reached ≡ initial_reached s c
unfolding past_of
was_reached s c = refl

module _ (facts : TraceFacts) where
  open facts use {entries.{wanted, phase_since, mode_since, decisions, reached_stays}, seconds.{same, later}}

  past-push : (s : Spec) (c : Trace) (e : Entry) → is_empty c ≡ false → IsSame (past_of s (c ++ e ∷ [])) (with_entry e (past_of s c))
  unfolding past_of standing_of
  past-push s c e some =
      let at = ap (λ (o : Option Phase). unwrap_or o phase.Inactive) (facts.entries.phase c e) ∙ default-or (phase_by e.row) (phase_of c) phase.Inactive in
      let at_since = phase_since c e some in
      let by = facts.entries.mode c e in
      let by_since = mode_since c e some in
      let want = wanted s c e in
      record {
        decisions = ap reverse (decisions c e) ∙ latest-first (decided_by e) (filter_map decided_by c);
        standing = λ i. record { phase = at i; phase_since = at_since i; mode = by i; mode_since = by_since i; want = want i };
      }

  pub past-more : (s : Spec) (c es : Trace) → is_empty c ≡ false → IsSame (past_of s (c ++ es)) (with_entries es (past_of s c))
  past-more s c [] some = subst (λ (d : Trace). IsSame (past_of s d) (past_of s c)) (sym (append-nil c)) (record { decisions = refl; standing = refl })
  past-more s c (e ∷ es) some =
      subst (λ (d : Trace). IsSame (past_of s d) (with_entries (e ∷ es) (past_of s c))) (append_assoc c (e ∷ []) es)
      (same-trans _ _ _ (past-more s (c ++ e ∷ []) es (more_not_empty c (e ∷ []) some)) (same-entries es _ _ (past-push s c e some)))

  pub reached-more : (s : Spec) (c es : Trace) → Each leaves_pods es → initial_reached s (c ++ es) ≡ initial_reached s c
  reached-more s c [] each = ap (initial_reached s) (append-nil c)
  reached-more s c (e ∷ es) each = ap (initial_reached s) (sym (append_assoc c (e ∷ []) es)) ∙ reached-more s (c ++ e ∷ []) es each.1 ∙ reached_stays s c e each.0

  pub phase-more : (c es : Trace) (p : Phase) → phase_of c ≡ Some p → (q : Phase) × (phase_of (c ++ es) ≡ Some q)
  phase-more c [] p h = (p, ap phase_of (append-nil c) ∙ h)
  phase-more c (e ∷ es) p h =
      let here = or_some (phase_by e.row) p in
      let rest = phase-more (c ++ e ∷ []) es here.0 (facts.entries.phase c e ∙ ap (option_or (phase_by e.row)) h ∙ here.1) in
      (rest.0, ap phase_of (sym (append_assoc c (e ∷ []) es)) ∙ rest.1)

  pub decider-alike : (d : DeciderState) (p q : Past) (until : ℕ) → ((s : ℕ) → s < until → p.samples s ≡ q.samples s) → IsSame p q → p.reached ≡ q.reached → IsDeciderOf d p until → IsDeciderOf d q until
  decider-alike d p q until agree are was stands = record {
    stable = same d.stable _ _ (below_same p.samples q.samples until agree) stands.stable;
    panic_window = same d.panic_window _ _ (below_same p.samples q.samples until agree) stands.panic_window;
    panic = subst (λ (ds : List Decided). IsPanicOf d.panic (map (judged_of d.spec) ds)) are.decisions stands.panic;
    delay = subst (λ (ds : List Decided). IsDelayOf d.delay (map asked_of ds)) are.decisions stands.delay;
    standing = stands.standing ∙ are.standing;
    reached = stands.reached ∙ was;
  }

  -- entries at the time change no sample of the seconds that are over
  pub samples-more : (m : Metric) (c es : Trace) (t s : ℕ) → EachAt t es → s < second_of t → samples m c s ≡ samples m (c ++ es) s
  samples-more m c es t s at lt = sym (later m c es s (from_time _ t es (is_over t s lt) at))

  pub decider-more : (s : Spec) (c es : Trace) (t : ℕ) (d : DeciderState) (p : Past) → is_empty c ≡ false → EachAt t es → p.samples ≡ samples s.metric c
      → IsSame p (with_entries es (past_of s c)) → p.reached ≡ initial_reached s (c ++ es) → IsDeciderOf d p (second_of t) → IsDeciderOf d (past_of s (c ++ es)) (second_of t)
  unfolding past_of
  decider-more s c es t d p some at sampled are was stands =
      decider-alike d p (past_of s (c ++ es)) (second_of t)
      (λ n lt. ap (λ (f : Samples). f n) sampled ∙ samples-more s.metric c es t n at lt)
      (same-trans _ _ _ are (same-sym _ _ (past-more s c es some))) was stands
