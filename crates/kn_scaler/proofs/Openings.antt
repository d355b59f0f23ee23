-- What a Scaler stands for at the opening.
use Rattle.std.proofs.Common.{◌≡◌, ℕ, ◌<◌, Bool, true, false, ◌||◌, List, [], ◌∷◌, ◌++◌, map, length, refl, sym, ap, ◌∙◌, subst, append-nil, append_assoc, arith, nat_le}
use Rattle.std.specs.Prelude.{None, Some}
use Rattle.std.specs.List.{filter, range_with_len}
use Rattle.std.proofs.lemmas.List.Elements.{filter_map-append}
use Rattle.kn_event.specs.declared.entry.Entry.{Entry}
use Rattle.kn_event.specs.declared.entry.Row.TheVariants as row
use Rattle.kn_event.specs.declared.revision.Kind.{Kind}
use Rattle.kn_event.specs.declared.revision.Kind.TheVariants as kind
use Rattle.kn_event.specs.declared.revision.Metric.{Metric}
use Rattle.kn_event.specs.declared.revision.Metric.TheVariants as metric
use Rattle.kn_event.specs.declared.revision.Spec.{Spec}
use Rattle.kn_scaling.specs.declared.zero.Standing.{Standing}
use Rattle.kn_scaling.specs.Average.{second_of}
use Rattle.kn_scaling.specs.Zero.{opening_phase}
use Rattle.kn_trace.specs.Events.{opening, opening_of}
use Rattle.kn_trace.specs.Load.{count_in, samples, spans}
use Rattle.kn_trace.specs.Rows.{readied_by}
use Rattle.kn_trace.specs.Scale.{count_ready, creations, initial_reached, mode_of, mode_since, opening_scale, past_of, phase_of, phase_since, standing_of, wanted}
use Rattle.kn_trace.specs.Trace.{Trace, each_row, entry, is_ready, ready_pods}
use Rattle.kn_record.specs.Order.{AreTimesInOrder}
use Rattle.kn_laws.specs.Kinds.{EachAt, EachIs}
use Rattle.kn_stats.specs.Totals.{IsTotalsOf, TotalsState, opened_totals}
use Rattle.kn_decider.specs.Decider.{IsDeciderOf, opening_past}
use Rattle.kn_changes.specs.Changes.{changes_of}
use Rattle.kn_scaler.specs.Facts.{TraceFacts}
use Rattle.kn_scaler.specs.Stands.{ScalerState, IsScalerOfTrace}
use Rattle.kn_scaler.proofs.Times.{from_time, is_over}
use Rattle.kn_scaler.proofs.Pasts.{IsSame, decider-alike, sampled, was_reached, with_entries}
use Rattle.kn_scaler.proofs.Steps.{IsSilent, silent-stands}

-- ---- new pods

abbrev created_at : ℕ → ℕ → ℕ → Entry
created_at t n p = entry t (row.Create p n)

new_at : (t n : ℕ) (ps : List ℕ) → EachAt t (map (created_at t n) ps)
new_at t n [] = tt
new_at t n (p ∷ ps) = (refl, new_at t n ps)

new_silent : (t n : ℕ) (ps : List ℕ) → EachIs IsSilent (map (created_at t n) ps)
new_silent t n [] = tt
new_silent t n (p ∷ ps) = (λ c. refl, new_silent t n ps)

new_same : (t n : ℕ) (ps : List ℕ) (s : Spec) (c : Trace) → IsSame (past_of s c) (with_entries (map (created_at t n) ps) (past_of s c))
new_same t n [] s c = record { decisions = refl; standing = refl }
new_same t n (p ∷ ps) s c = new_same t n ps s c

filter-none : (t : ℕ → Bool) (xs : List ℕ) → ((x : ℕ) → t x ≡ false) → filter t xs ≡ []
filter-none t [] none = refl
filter-none t (x ∷ xs) none = rw (none x) (filter-none t xs none)

pub none-ready : (c : Trace) → each_row readied_by c ≡ [] → count_ready c ≡ 0
unfolding count_ready ready_pods is_ready
none-ready c h = ap length (filter-none (is_ready c) _ (λ p. rw h refl))

or_same : (a b c : Bool) → a ≡ c → b ≡ c → (a || b) ≡ c
or_same true b c p q = p
or_same false b c p q = q

new_reached : (facts : TraceFacts) (s : Spec) (t : ℕ) (ps : List ℕ) (c : Trace) → each_row readied_by c ≡ [] → initial_reached s c ≡ nat_le s.initial 0 → initial_reached s (c ++ map (created_at t s.cc) ps) ≡ nat_le s.initial 0
new_reached facts s t [] c none was = ap (initial_reached s) (append-nil c) ∙ was
new_reached facts s t (p ∷ ps) c none was =
    let e = created_at t s.cc p in
    let still : each_row readied_by (c ++ e ∷ []) ≡ [] = filter_map-append (λ (x : Entry). readied_by x.row) c (e ∷ []) ∙ ap (λ (xs : List ℕ). xs ++ []) none in
    let now = facts.entries.reached s c e ∙ or_same (initial_reached s c) _ (nat_le s.initial 0) was (ap (nat_le s.initial) (none-ready (c ++ e ∷ []) still)) in
    ap (initial_reached s) (sym (append_assoc c (e ∷ []) (map (created_at t s.cc) ps))) ∙ new_reached facts s t ps (c ++ e ∷ []) still now

-- ---- the first entry

samples-none : (m : Metric) (n : ℕ) → samples m [] n ≡ None
unfolding samples spans count_in ready_pods
samples-none metric.Concurrency n = refl
samples-none metric.Rps n = refl

abbrev first : Spec → ℕ → Trace
first s start = entry start (row.Phase (opening_phase (opening_scale s))) ∷ []

twice : (b : Bool) → (b || (b || false)) ≡ b
twice true = refl
twice false = refl

first-reached : (s : Spec) (start : ℕ) → initial_reached s (first s start) ≡ nat_le s.initial 0
unfolding initial_reached count_ready ready_pods
first-reached s start = twice (nat_le s.initial 0)

first-same : (s : Spec) (start : ℕ) → IsSame (opening_past s start) (past_of s (first s start))
unfolding past_of standing_of phase_of phase_since mode_of mode_since wanted
first-same s start = record {
  decisions = refl;
  standing = refl;
}

-- nothing was measured yet, and nothing decided
pub record IsNew (s : Spec) (start : ℕ) (x : ScalerState) : Type 0 where
  pub kind : s.kind ≡ kind.Kpa
  pub state : x.stats ≡ opened_totals s.metric start
  pub stats : IsTotalsOf x.stats []
  pub spec : x.decider.spec ≡ s
  pub decider : (until : ℕ) → IsDeciderOf x.decider (opening_past s start) until

first-stands : TraceFacts → (s : Spec) (start : ℕ) (x : ScalerState) → IsNew s start x → IsScalerOfTrace s x (first s start)
unfolding changes_of past_of standing_of phase_of
first-stands facts s start x new =
    let time : x.stats.time ≡ start = ap (λ (z : TotalsState). z.time) new.state in
    let none = λ (n : ℕ) (lt : n < second_of start). sym (facts.seconds.later s.metric [] (first s start) n (from_time _ start (first s start) (is_over start n lt) (refl, tt)) ∙ samples-none s.metric n) in
    let decider = decider-alike facts x.decider (opening_past s start) (past_of s (first s start)) (second_of start) none (first-same s start) (sym (first-reached s start)) (new.decider (second_of start)) in
    record {
      spec = new.spec;
      metric = ap (λ (z : TotalsState). z.metric) new.state;
      times = subst (λ t. AreTimesInOrder 0 (first s start) t) (sym time) (omega arith, omega arith);
      stats = new.stats;
      decider = subst (λ t. IsDeciderOf x.decider (past_of s (first s start)) (second_of t)) (sym time) decider;
      phase = ap Some (sym (ap (λ (st : Standing). st.phase) decider.standing));
    }

opening-is : (s : Spec) (start : ℕ) → s.kind ≡ kind.Kpa → first s start ++ creations s start 0 (opening_scale s) ≡ opening s start
unfolding opening
opening-is s start kpa = ap (λ (k : Kind). opening_of k s start) (sym kpa)

pub opening-stands : TraceFacts → (s : Spec) (start : ℕ) (x : ScalerState) → IsNew s start x → IsScalerOfTrace s x (opening s start)
opening-stands facts s start x new =
    let ps = range_with_len 0 (opening_scale s) in
    let stands = first-stands facts s start x new in
    let time : x.stats.time ≡ start = ap (λ (z : TotalsState). z.time) new.state in
    subst (λ (c : Trace). IsScalerOfTrace s x c) (opening-is s start new.kind)
    (silent-stands facts s x (first s start) (map (created_at start s.cc) ps) x.decider (past_of s (first s start)) stands
    (record {
      at = subst (λ t. EachAt t (map (created_at start s.cc) ps)) (sym time) (new_at start s.cc ps);
      samples = sampled s (first s start);
      same = new_same start s.cc ps s (first s start);
      reached = was_reached s (first s start) ∙ first-reached s start ∙ sym (new_reached facts s start ps (first s start) refl (first-reached s start));
      stands = stands.decider;
    }) refl (new_silent start s.cc ps))
