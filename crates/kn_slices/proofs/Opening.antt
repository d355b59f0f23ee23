-- An activator at its opening: its pods, their limit, and nobody.
use Rattle.std.proofs.Common.{◌≡◌, ◌≤◌, ◌<◌, ℕ, Bool, true, false, not, ◌||◌, ◌&&◌, List, [], ◌∷◌, map, filter, length, refl, ap, ◌∙◌, sym, subst, None, Some}
use Rattle.std.specs.Prelude.{◌==◌, unwrap_or, if◌then◌else◌}
use Rattle.std.specs.Bool.{then_some}
use Rattle.std.specs.List.{cons_option, range_with_len}
use Rattle.kn_event.specs.declared.entry.Row.TheVariants as row
use Rattle.kn_event.specs.declared.revision.Kind.TheVariants as kind
use Rattle.kn_event.specs.declared.revision.Spec.{Spec}
use Rattle.kn_event.specs.Lists.{contains}
use Rattle.kn_laws.specs.Facts.{PartFacts}
use Rattle.kn_record.specs.Admission.{Admission}
use Rattle.kn_record.specs.Made as made
use Rattle.kn_record.specs.Views.{AreViews}
use Rattle.kn_trace.specs.Events.{opening, opening_of}
use Rattle.kn_trace.specs.Rows.{brought_to, created_by, drained_by, gone_by, limit_by}
use Rattle.kn_trace.specs.Trace.{Trace, draining, each_row, entry, is_draining, is_live_pod, is_running, last_of, limit_of, live_pods, running_at}
use Rattle.kn_core.specs.State.{RevisionState}
use Rattle.kn_slices.specs.Activators as part
use Rattle.kn_slices.specs.Activators.{HasPods, IsActivator, IsOpen}
use Rattle.kn_slices.specs.Calls.{OpensWith}
use Rattle.kn_slices.proofs.Activators.{first_has, limit_is, there}

made_of : ℕ → ℕ → List ℕ → Trace
made_of t n ps = map (λ p. entry t (row.Create p n)) ps

created_each : (t n : ℕ) (ps : List ℕ) → each_row created_by (made_of t n ps) ≡ ps
unfolding made_of
created_each t n [] = refl
created_each t n (p ∷ ps) = ap (λ l. p ∷ l) (created_each t n ps)

limits_each : (t n q : ℕ) (ps : List ℕ) → last_of (each_row (limit_by q) (made_of t n ps)) ≡ (if contains q ps then Some n else None)
unfolding made_of
limits_each t n q [] = refl
limits_each t n q (p ∷ ps) = by (p == q) (contains q ps) (limits_each t n q ps)
  where
    by : (b rest : Bool) → last_of (each_row (limit_by q) (made_of t n ps)) ≡ (if rest then Some n else None)
        → last_of (cons_option (then_some b n) (each_row (limit_by q) (made_of t n ps))) ≡ (if b || rest then Some n else None)
    by true true h = ap (λ o. Some (unwrap_or o n)) h
    by true false h = ap (λ o. Some (unwrap_or o n)) h
    by false true h = h
    by false false h = h

all_pass : (test : ℕ → Bool) (ps : List ℕ) → ((p : ℕ) → test p ≡ true) → filter test ps ≡ ps
all_pass test [] h = refl
all_pass test (p ∷ ps) h = rw (h p, all_pass test ps h) refl

none_pass : (test : ℕ → Bool) (ps : List ℕ) → ((p : ℕ) → test p ≡ false) → filter test ps ≡ []
none_pass test [] h = refl
none_pass test (p ∷ ps) h = rw (h p) (none_pass test ps h)

opens : (s : Spec) (start pods : ℕ) → s.kind ≡ kind.Fixed pods → opening s start ≡ made_of start s.cc (range_with_len 0 pods)
unfolding opening made_of
opens s start pods fixed = ap (λ k. opening_of k s start) fixed

-- the opening is a row for each pod
pub opening_is : (s : Spec) (start pods : ℕ) → s.kind ≡ kind.Fixed pods → opening s start ≡ map (λ p. entry start (row.Create p s.cc)) (range_with_len 0 pods)
unfolding opening
opening_is s start pods fixed = ap (λ k. opening_of k s start) fixed

module _ (parts : PartFacts) (views : (s : Spec) (a : Admission) (c : Trace) → made.IsRecordOf a c → AreViews s a c) where
  pub opening_pods : (s : Spec) (start pods : ℕ) → s.kind ≡ kind.Fixed pods → live_pods (opening s start) ≡ range_with_len 0 pods
  unfolding live_pods is_live_pod
  opening_pods s start pods fixed =
      let none : each_row gone_by (opening s start) ≡ [] = parts.rows.opening_none gone_by (λ p n. refl) (λ x. refl) s start in
      let created : each_row created_by (opening s start) ≡ range_with_len 0 pods = ap (each_row created_by) (opens s start pods fixed) ∙ created_each start s.cc (range_with_len 0 pods) in
      all_pass (λ p. not (contains p (each_row gone_by (opening s start)))) (each_row created_by (opening s start)) (λ p. ap (λ l. not (contains p l)) none) ∙ created

  pub opening_draining : (s : Spec) (start : ℕ) → draining (opening s start) ≡ []
  unfolding draining is_draining
  opening_draining s start =
      let none : each_row drained_by (opening s start) ≡ [] = parts.rows.opening_none drained_by (λ p n. refl) (λ x. refl) s start in
      none_pass (λ p. contains p (each_row drained_by (opening s start)) && is_live_pod (opening s start) p) (each_row created_by (opening s start)) (λ p. ap (λ l. contains p l && is_live_pod (opening s start) p) none)

  pub opening_running : (s : Spec) (start p : ℕ) → running_at (opening s start) p ≡ []
  unfolding running_at
  opening_running s start p = ap (λ l. filter (is_running (opening s start)) l) (parts.rows.opening_none (brought_to p) (λ p n. refl) (λ x. refl) s start)

  pub opening_limit : (s : Spec) (start pods q : ℕ) → s.kind ≡ kind.Fixed pods → q < pods → limit_of (opening s start) q ≡ s.cc
  unfolding limit_of
  opening_limit s start pods q fixed low =
      let rows = ap (λ (c : Trace). last_of (each_row (limit_by q) c)) (opens s start pods fixed) ∙ limits_each start s.cc q (range_with_len 0 pods) in
      ap (λ o. unwrap_or o 0) (rows ∙ ap (λ b. if b then Some s.cc else None) (first_has pods q low))

  pub is_open : (s : Spec) (pods start : ℕ) (x : RevisionState) → OpensWith s pods start x → IsOpen s pods x
  is_open s pods start x is =
      let fixed = is.fixed in
      let c = opening s start in
      let v = views x.spec x.parts.throttle.admission c is.stands.parts.admission in
      let has : HasPods pods x = record { numbers = sym v.pods ∙ opening_pods s start pods fixed; none = sym v.draining ∙ opening_draining s start } in
      let limits : (q : ℕ) → q < pods → part.limit_at q x ≡ s.cc =
      λ q low. limit_is c q x.parts.throttle.admission.pods v.limits (there pods q x has low) ∙ opening_limit s start pods q fixed low in
      record {
        part = record { fixed = ap (λ (z : Spec). z.kind) is.spec ∙ fixed; has = has; limits = λ q low. subst (λ n. 1 ≤ n) (sym (limits q low)) is.least };
        limits = limits;
        runs = λ q. sym (v.count_running_at q) ∙ ap length (opening_running s start q);
      }
