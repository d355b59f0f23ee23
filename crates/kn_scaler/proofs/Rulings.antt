-- What a Scaler stands for after a decision, and what is answered of it.
use Rattle.std.proofs.Common.{◌≡◌, ℕ, ◌≤◌, Bool, true, false, not, List, [], ◌∷◌, ◌++◌, ◌||◌, nat_le, append_assoc, refl, sym, ap, ◌∙◌, subst, Option, None, Some, cond, arith}
use Rattle.std.specs.Prelude.{option_map, unwrap_or}
use Rattle.std.specs.Bool.{then_some}
use Rattle.kn_event.specs.declared.entry.Decision.{Decision}
use Rattle.kn_event.specs.declared.entry.Entry.{Entry}
use Rattle.kn_event.specs.declared.entry.Phase.{Phase}
use Rattle.kn_event.specs.declared.entry.Phase.TheVariants as phase
use Rattle.kn_event.specs.declared.entry.Mode.{Mode}
use Rattle.kn_event.specs.declared.entry.Mode.TheVariants as mode
use Rattle.kn_event.specs.declared.entry.Row.TheVariants as row
use Rattle.kn_event.specs.declared.revision.Spec.{Spec}
use Rattle.kn_scaling.specs.declared.zero.Standing.{Standing}
use Rattle.kn_scaling.specs.Average.{second_of}
use Rattle.kn_scaling.specs.Burst.{is_activating, is_same_mode}
use Rattle.kn_scaling.specs.Decide as scaling
use Rattle.kn_scaling.specs.Decide.{Past, Ruling}
use Rattle.kn_trace.specs.Scale.{count_ready, decision_at, initial_reached, is_in_phase, mode_of, past_of, phase_of, standing_of, wake_decision_at, wanted, where_true}
use Rattle.kn_trace.specs.Trace.{Trace, entry}
use Rattle.kn_laws.specs.Kinds.{Each, EachAt, EachIs}
use Rattle.kn_past.specs.Changes.{leaves_pods}
use Rattle.kn_zero.specs.Zero as zero_rule
use Rattle.kn_decider.specs.Decider.{DeciderState, IsDeciderOf, with_ready, with_ruling, with_tick}
use Rattle.kn_scaler.specs.declared.scaler.Ruled.{Ruled}
use Rattle.kn_scaler.specs.Facts.{TraceFacts}
use Rattle.kn_scaler.specs.Rows.{ready_rows, ruled_by, ruled_from, ruling_rows, tick_rulings}
use Rattle.kn_scaler.specs.Stands.{ScalerState, IsScalerOfTrace}
use Rattle.kn_scaler.proofs.Pasts.{IsSame, reached-more, sampled, was_reached, with_entries}
use Rattle.kn_scaler.proofs.Steps.{IsSilent, silent-stands}

-- ---- whether phase and mode changed

phases-same : (new old : Phase) → is_in_phase new (Some old) ≡ zero_rule.is_same_phase new old
phases-same phase.Activating phase.Activating = refl
phases-same phase.Activating phase.Active = refl
phases-same phase.Activating phase.Inactive = refl
phases-same phase.Active phase.Activating = refl
phases-same phase.Active phase.Active = refl
phases-same phase.Active phase.Inactive = refl
phases-same phase.Inactive phase.Activating = refl
phases-same phase.Inactive phase.Active = refl
phases-same phase.Inactive phase.Inactive = refl

same_phase : (new old : Phase) → zero_rule.is_same_phase new old ≡ true → new ≡ old
same_phase phase.Activating phase.Activating h = refl
same_phase phase.Activating phase.Active h = absurd (cc)
same_phase phase.Activating phase.Inactive h = absurd (cc)
same_phase phase.Active phase.Activating h = absurd (cc)
same_phase phase.Active phase.Active h = refl
same_phase phase.Active phase.Inactive h = absurd (cc)
same_phase phase.Inactive phase.Activating h = absurd (cc)
same_phase phase.Inactive phase.Active h = absurd (cc)
same_phase phase.Inactive phase.Inactive h = refl

same_mode : (new old : Mode) → is_same_mode new old ≡ true → new ≡ old
same_mode mode.Proxy mode.Proxy h = refl
same_mode mode.Proxy mode.Serve h = absurd (cc)
same_mode mode.Serve mode.Proxy h = absurd (cc)
same_mode mode.Serve mode.Serve h = refl

-- ---- the rows of a decision

-- where the phase stays, or the mode, they have no row
abbrev pub rows_of : ℕ → Ruling → Bool → Bool → List Entry
rows_of t r phase_stays mode_stays =
    entry t (row.Decided r.decision)
    ∷ where_true (not phase_stays) (entry t (row.Phase r.phase) ∷ [])
    ++ where_true (not mode_stays) (entry t (row.Mode r.decision.mode) ∷ [])

rows_at : (t : ℕ) (r : Ruling) (a b : Bool) → EachAt t (rows_of t r a b)
rows_at t r true true = (refl, tt)
rows_at t r true false = (refl, (refl, tt))
rows_at t r false true = (refl, (refl, tt))
rows_at t r false false = (refl, (refl, (refl, tt)))

rows_leave : (t : ℕ) (r : Ruling) (a b : Bool) → Each leaves_pods (rows_of t r a b)
rows_leave t r true true = (refl, tt)
rows_leave t r true false = (refl, (refl, tt))
rows_leave t r false true = (refl, (refl, tt))
rows_leave t r false false = (refl, (refl, (refl, tt)))

rows_silent : (t : ℕ) (r : Ruling) (a b : Bool) → EachIs IsSilent (rows_of t r a b)
rows_silent t r true true = (λ c. refl, tt)
rows_silent t r true false = (λ c. refl, (λ c. refl, tt))
rows_silent t r false true = (λ c. refl, (λ c. refl, tt))
rows_silent t r false false = (λ c. refl, (λ c. refl, (λ c. refl, tt)))

-- the past with a decision, by whether phase and mode stay
abbrev ruled_past : ℕ → Ruling → Past → Bool → Bool → Past
ruled_past t r p phase_stays mode_stays = record p {
  decisions = record { time = t; decision = r.decision } ∷ p.decisions;
  standing = record {
    phase = r.phase;
    phase_since = cond phase_stays p.standing.phase_since t;
    mode = r.decision.mode;
    mode_since = cond mode_stays p.standing.mode_since t;
    want = r.decision.want;
  };
}

rows_past : (t : ℕ) (r : Ruling) (p : Past) (a b : Bool) → (a ≡ true → r.phase ≡ p.standing.phase) → (b ≡ true → r.decision.mode ≡ p.standing.mode)
    → IsSame (ruled_past t r p a b) (with_entries (rows_of t r a b) p)
rows_past t r p true true in_phase in_mode =
    let at = in_phase refl in
    let by = in_mode refl in
    record { decisions = refl; standing = λ i. record { phase = at i; phase_since = p.standing.phase_since; mode = by i; mode_since = p.standing.mode_since; want = r.decision.want } }
rows_past t r p true false in_phase in_mode =
    let at = in_phase refl in
    record { decisions = refl; standing = λ i. record { phase = at i; phase_since = p.standing.phase_since; mode = r.decision.mode; mode_since = t; want = r.decision.want } }
rows_past t r p false true in_phase in_mode =
    let by = in_mode refl in
    record { decisions = refl; standing = λ i. record { phase = r.phase; phase_since = t; mode = by i; mode_since = p.standing.mode_since; want = r.decision.want } }
rows_past t r p false false in_phase in_mode = record { decisions = refl; standing = refl }

-- ---- where the revision stands

pub stands-phase : (s : Spec) (c : Trace) (p : Phase) → phase_of c ≡ Some p → phase_of c ≡ Some (past_of s c).standing.phase
unfolding past_of standing_of
stands-phase s c p h = h ∙ ap Some (ap (λ (o : Option Phase). unwrap_or o phase.Inactive) (sym h))

pub stands-mode : (s : Spec) (c : Trace) → mode_of c ≡ (past_of s c).standing.mode
unfolding past_of standing_of
stands-mode s c = refl

rows-are : (t : ℕ) (c : Trace) (r : Ruling) (st : Standing) → phase_of c ≡ Some st.phase → mode_of c ≡ st.mode
    → ruling_rows t c r ≡ rows_of t r (zero_rule.is_same_phase r.phase st.phase) (is_same_mode r.decision.mode st.mode)
rows-are t c r st is_phase is_mode =
    ap (λ (o : Option Phase). rows_of t r (is_in_phase r.phase o) (is_same_mode r.decision.mode (mode_of c))) is_phase
    ∙ ap (λ b. rows_of t r b (is_same_mode r.decision.mode (mode_of c))) (phases-same r.phase st.phase)
    ∙ ap (λ (m : Mode). rows_of t r (zero_rule.is_same_phase r.phase st.phase) (is_same_mode r.decision.mode m)) is_mode

-- ---- the rows of a pod that is Ready

abbrev ready_rows_of : ℕ → ℕ → Bool → List Entry
ready_rows_of t p first = entry t (row.Ready p) ∷ where_true first (entry t (row.Phase phase.Active) ∷ [])

ready_at : (t p : ℕ) (b : Bool) → EachAt t (ready_rows_of t p b)
ready_at t p true = (refl, (refl, tt))
ready_at t p false = (refl, tt)

ready_silent : (t p : ℕ) (b : Bool) → EachIs IsSilent (ready_rows_of t p b)
ready_silent t p true = (λ c. refl, (λ c. refl, tt))
ready_silent t p false = (λ c. refl, tt)

after_leaves : (t : ℕ) (b : Bool) → Each leaves_pods (where_true b (entry t (row.Phase phase.Active) ∷ []))
after_leaves t true = (refl, tt)
after_leaves t false = tt

-- whether the revision waited for its first Ready pod
pub waits-same : (p : Phase) → is_in_phase phase.Activating (Some p) ≡ is_activating p
waits-same phase.Activating = refl
waits-same phase.Active = refl
waits-same phase.Inactive = refl

ready_past : (t p ready : ℕ) (s : Spec) (q : Past) → IsSame (with_ready s t ready q) (with_entries (ready_rows_of t p (is_activating q.standing.phase)) q)
ready_past t p ready s q = by q.standing.phase q.standing.phase_since q.standing.mode q.standing.mode_since q.standing.want
  where
    by : (at : Phase) (since : ℕ) (way : Mode) (way_since want : ℕ)
        → (let old : Past = record q { standing = record { phase = at; phase_since = since; mode = way; mode_since = way_since; want = want } } in
        IsSame (with_ready s t ready old) (with_entries (ready_rows_of t p (is_activating at)) old))
    by phase.Activating since way way_since want = record { decisions = refl; standing = refl }
    by phase.Active since way way_since want = record { decisions = refl; standing = refl }
    by phase.Inactive since way way_since want = record { decisions = refl; standing = refl }

module _ (facts : TraceFacts) (s : Spec) (x : ScalerState) (c : Trace) (stands : IsScalerOfTrace s x c) (t : ℕ) (now : t ≡ x.stats.time) (d : DeciderState) (spec : d.spec ≡ x.decider.spec) where
  pub ruling-stands : (r : Ruling) → IsDeciderOf d (with_ruling t r (past_of s c)) (second_of x.stats.time) → IsScalerOfTrace s (record { stats = x.stats; decider = d }) (c ++ ruling_rows t c r)
  ruling-stands r is =
      let p = past_of s c in
      let a = zero_rule.is_same_phase r.phase p.standing.phase in
      let b = is_same_mode r.decision.mode p.standing.mode in
      subst (λ (es : Trace). IsScalerOfTrace s (record { stats = x.stats; decider = d }) (c ++ es)) (sym (rows-are t c r p.standing (stands-phase s c _ stands.phase) (stands-mode s c)))
      (silent-stands facts s x c (rows_of t r a b) d (with_ruling t r p) stands
      (record {
        at = subst (λ k. EachAt k (rows_of t r a b)) now (rows_at t r a b);
        samples = sampled s c;
        same = rows_past t r p a b (same_phase r.phase p.standing.phase) (same_mode r.decision.mode p.standing.mode);
        reached = was_reached s c ∙ sym (reached-more facts s c (rows_of t r a b) (rows_leave t r a b));
        stands = is;
      }) spec (rows_silent t r a b))

  pub tick-stands : (o : Option Ruling) → IsDeciderOf d (with_tick t o (past_of s c)) (second_of x.stats.time) → IsScalerOfTrace s (record { stats = x.stats; decider = d }) (c ++ tick_rulings t c o)
  tick-stands None is =
      silent-stands facts s x c (entry t row.NoData ∷ []) d (past_of s c) stands
      (record {
        at = (now, tt);
        samples = sampled s c;
        same = record { decisions = refl; standing = refl };
        reached = was_reached s c ∙ sym (reached-more facts s c (entry t row.NoData ∷ []) (refl, tt));
        stands = is;
      }) spec (λ b. refl, tt)
  tick-stands (Some r) is = ruling-stands r is

  pub ready-stands : (p ready : ℕ) → count_ready (c ++ entry t (row.Ready p) ∷ []) ≡ ready → IsDeciderOf d (with_ready s t ready (past_of s c)) (second_of x.stats.time)
      → IsScalerOfTrace s (record { stats = x.stats; decider = d }) (c ++ ready_rows t c p)
  ready-stands p ready many is =
      let q = past_of s c in
      let b = is_activating q.standing.phase in
      let e = entry t (row.Ready p) in
      let more = where_true b (entry t (row.Phase phase.Active) ∷ []) in
      let waits : is_in_phase phase.Activating (phase_of c) ≡ b = ap (is_in_phase phase.Activating) (stands-phase s c _ stands.phase) ∙ waits-same q.standing.phase in
      let reached : initial_reached s (c ++ e ∷ more) ≡ (initial_reached s c || nat_le s.initial ready) =
      ap (initial_reached s) (sym (append_assoc c (e ∷ []) more)) ∙ reached-more facts s (c ++ e ∷ []) more (after_leaves t b) ∙ facts.entries.reached s c e
      ∙ ap (λ n. initial_reached s c || nat_le s.initial n) many in
      subst (λ (k : Bool). IsScalerOfTrace s (record { stats = x.stats; decider = d }) (c ++ ready_rows_of t p k)) (sym waits)
      (silent-stands facts s x c (ready_rows_of t p b) d (with_ready s t ready q) stands
      (record {
        at = subst (λ k. EachAt k (ready_rows_of t p b)) now (ready_at t p b);
        samples = sampled s c;
        same = ready_past t p ready s q;
        reached = ap (λ k. k || nat_le s.initial ready) (was_reached s c) ∙ sym reached;
        stands = is;
      }) spec (ready_silent t p b))

-- ---- what is answered

pub tick-at : (s : Spec) (d : DeciderState) (c : Trace) (t ready : ℕ) → d.spec ≡ s → count_ready c ≡ ready → scaling.decision_at d.spec (past_of s c) t ready ≡ decision_at s c t
unfolding decision_at
tick-at s d c t ready is many = ap (λ (z : Spec). scaling.decision_at z (past_of s c) t ready) is ∙ ap (scaling.decision_at s (past_of s c) t) (sym many)

pub wake-at : (s : Spec) (d : DeciderState) (c : Trace) (t ready : ℕ) → d.spec ≡ s → count_ready c ≡ ready → scaling.wake_decision_at d.spec (past_of s c) t ready ≡ wake_decision_at s c t
unfolding wake_decision_at
wake-at s d c t ready is many = ap (λ (z : Spec). scaling.wake_decision_at z (past_of s c) t ready) is ∙ ap (scaling.wake_decision_at s (past_of s c) t) (sym many)

pub ruled-is : (c : Trace) (r : Ruling) (p : Past) → phase_of c ≡ Some p.standing.phase → mode_of c ≡ p.standing.mode → ruled_from r.decision p.standing.phase p.standing.mode r.phase r.decision.mode ≡ ruled_by c r
ruled-is c r p is_phase is_mode =
    let at = ap (λ (o : Option Phase). then_some (not (is_in_phase r.phase o)) r.phase) (sym is_phase) in
    let way = ap (λ (m : Mode). then_some (not (is_same_mode r.decision.mode m)) r.decision.mode) (sym is_mode) in
    λ i. record { decision = r.decision; phase = at i; mode = way i }

-- what is answered of a decision, by what a Decider stands for after it
module _ (s : Spec) (c : Trace) (d : DeciderState) (t until : ℕ) (before : Phase) (way : Mode) (answer : Ruled) (k : Decision)
    (is : (past : Past) (next : ℕ) → IsDeciderOf d past next → answer ≡ ruled_from k before way past.standing.phase past.standing.mode)
    (was : before ≡ (past_of s c).standing.phase) (was_way : way ≡ (past_of s c).standing.mode) (some : phase_of c ≡ Some (past_of s c).standing.phase)
  where
    pub ruling-answer : (r : Ruling) → k ≡ r.decision → IsDeciderOf d (with_ruling t r (past_of s c)) until → answer ≡ ruled_by c r
    ruling-answer r made stands =
        is (with_ruling t r (past_of s c)) until stands
        ∙ ap (λ (z : Decision). ruled_from z before way r.phase r.decision.mode) made
        ∙ ap (λ (p : Phase). ruled_from r.decision p way r.phase r.decision.mode) was
        ∙ ap (λ (m : Mode). ruled_from r.decision (past_of s c).standing.phase m r.phase r.decision.mode) was_way
        ∙ ruled-is c r (past_of s c) some (stands-mode s c)

    pub tick-answer : (o : Option Ruling) → Some k ≡ option_map (λ (r : Ruling). r.decision) o → IsDeciderOf d (with_tick t o (past_of s c)) until → Some answer ≡ option_map (ruled_by c) o
    tick-answer None made stands = absurd (cc)
    tick-answer (Some r) made stands = let same : k ≡ r.decision = cc in ap Some (ruling-answer r same stands)

pub no-answer : (c : Trace) (o : Option Ruling) → None ≡ option_map (λ (r : Ruling). r.decision) o → None ≡ option_map (ruled_by c) o
no-answer c None made = refl
no-answer c (Some r) made = absurd (cc)

pub stands-want : (s : Spec) (c : Trace) → (past_of s c).standing.want ≡ wanted s c
unfolding past_of standing_of
stands-want s c = refl

pub le_same : (m n : ℕ) → m ≡ n → second_of m ≤ second_of n
le_same m n h = omega arith
