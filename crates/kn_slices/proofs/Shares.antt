-- What activators share, by their traces alone.
use Rattle.std.proofs.Common.{◌≡◌, ◌≤◌, ◌<◌, ℕ, zero, suc, ◌+◌, ◌++◌, max, List, [], ◌∷◌, length, get_or, map, refl, ap, ◌∙◌, sym, subst, arith, inl, inr, Some}
use Rattle.std.specs.Prelude.{replicate, slice_set}
use Rattle.std.specs.List.{range_with_len}
use Rattle.std.proofs.lemmas.List.{get_or-replicate, get_or-set_other, get_or-set_same, get_or_default, length-replicate, length-set}
use Rattle.std.proofs.lemmas.List.FromFn.{get_or-map-range_with_len, length-map-range_with_len}
use Rattle.std.proofs.lemmas.Bool.{cases_eq}
use Rattle.kn_event.specs.FixedSpec.{fixed_spec}
use Rattle.kn_event.specs.declared.event.Act.TheVariants as act
use Rattle.kn_event.specs.declared.event.Event.{Event}
use Rattle.kn_event.specs.declared.revision.Slots.{Slots}
use Rattle.kn_event.specs.declared.revision.Spec.{Spec}
use Rattle.kn_event.specs.Lists.{contains}
use Rattle.kn_laws.specs.Facts.{PartFacts}
use Rattle.kn_record.specs.Made.{IsMade}
use Rattle.kn_trace.specs.Events.{opening, react}
use Rattle.kn_trace.specs.Laws.{IsInert, IsLawful, IsSettled}
use Rattle.kn_trace.specs.Trace.{Trace}
use Rattle.kn_slices.specs.declared.change.Change.{Change}
use Rattle.kn_slices.specs.Activators.{IsPlain, openings_of}
use Rattle.kn_slices.specs.Group.{IsGroup, IsWithin, Keeps, Sets}
use Rattle.kn_slices.specs.Shares.{AreShares, GoOn, IsShare, ShareLaws, gone_on}
use Rattle.kn_slices.specs.Slices.{force_after, forces_from, hold, runs, slice_of}
use Rattle.kn_slices.specs.Traces.{IsSafe, due_among, limit_by, made_at, running_by, trace_at}
use Rattle.kn_slices.proofs.Activators.{Laws, first_has, limits_apart}
use Rattle.kn_slices.proofs.Alike.{sums_alike}
use Rattle.kn_slices.proofs.Begin.{fixed_cc, fixed_kind, sum_below}
use Rattle.kn_slices.proofs.Calls.{plain_limit, plain_lost, slice_some}
use Rattle.kn_slices.proofs.Due.{after_change, after_step, due_is, group_within, runs_within}
use Rattle.kn_slices.proofs.Opening.{opening_draining, opening_limit, opening_pods, opening_running}
use Rattle.kn_slices.proofs.Steps.{asked}
use Rattle.kn_slices.proofs.Sums.{slices_sum}

-- the laws that are used
pub record TraceLaws : Type 0 where
  pub first : (s : Spec) (start : ℕ) → IsMade s (opening s start)
  pub first_settled : (s : Spec) (start : ℕ) → IsSettled s (opening s start)
  pub made : (s : Spec) (c : Trace) (e : Event) → IsMade s c → IsMade s (c ++ react s c e)
  pub settled : (s : Spec) (c : Trace) (e : Event) → IsMade s c → IsSettled s (c ++ react s c e)
  pub lawful : (s : Spec) (c : Trace) → IsMade s c → IsLawful s c
  pub inert : (s : Spec) (c : Trace) (e : Event) → IsMade s c → IsSettled s c → IsInert s c e

-- ---- one trace, over an event that loses no pod

module _ (limits : Laws) (steps : TraceLaws) (s : Spec) (pods : ℕ) (c : Trace) (e : Event) (share : IsShare pods s c) (lost : (p : ℕ) → e.act ≡ act.Lost p → ⊥) where
  limit_stays : (q : ℕ) → ((n : ℕ) → e.act ≡ act.Limit q n → ⊥) → limit_by q (c ++ react s c e) ≡ limit_by q c
  limit_stays q other = limits.limits s c e q pods share.fixed other

  goes_on : ((q : ℕ) → q < pods → 1 ≤ limit_by q (c ++ react s c e)) → IsShare pods s (c ++ react s c e)
  goes_on some =
      let stays = limits.pods s c e pods share.fixed lost share.none in
      record {
        fixed = share.fixed;
        made = steps.made s c e share.made;
        settled = steps.settled s c e share.made;
        live = stays.live ∙ share.live;
        none = stays.none;
        limits = some;
      }

  -- an event that sets no limit
  module _ (plain : IsPlain e.act) where
    plain_some : (q : ℕ) → q < pods → 1 ≤ limit_by q (c ++ react s c e)
    plain_some q low = subst (λ n. 1 ≤ n) (sym (limit_stays q (λ n is. plain_limit e.act q n plain is))) (share.limits q low)

    pub keeps : Keeps limit_by running_by pods c (c ++ react s c e)
    keeps = record { limits = λ q low. limit_stays q (λ n is. plain_limit e.act q n plain is); runs = λ q low. limits.runs s c e q share.made (plain_some q low) }

    pub keeps_share : IsShare pods s (c ++ react s c e)
    keeps_share = goes_on plain_some

  -- one that sets a pod's limit
  module _ (p n : ℕ) (is : e.act ≡ act.Limit p n) (there : p < pods) (some : 1 ≤ n) where
    set_here : limit_by p (c ++ react s c e) ≡ n
    set_here = limits.set s c e p n pods share.fixed is (ap (contains p) share.live ∙ first_has pods p there)

    set_others : (q : ℕ) → (q ≡ p → ⊥) → limit_by q (c ++ react s c e) ≡ limit_by q c
    set_others q apart = limit_stays q (λ m f. limits_apart p q n m apart (sym is ∙ f))

    set_some : (q : ℕ) → q < pods → 1 ≤ limit_by q (c ++ react s c e)
    set_some q low = elim (cases_eq q p) [
      | inl same ↦ subst (λ k. 1 ≤ limit_by k (c ++ react s c e)) (sym same) (subst (λ m. 1 ≤ m) (sym set_here) some)
      | inr apart ↦ subst (λ m. 1 ≤ m) (sym (set_others q apart)) (share.limits q low)
    ]

    pub sets : Sets limit_by running_by pods p n c (c ++ react s c e)
    sets = record { here = set_here; others = λ q low apart. set_others q apart; runs = λ q low. limits.runs s c e q share.made (set_some q low) }

    pub sets_share : IsShare pods s (c ++ react s c e)
    sets_share = goes_on set_some

-- ---- the limits in force after a call

length-forces : {A : Type 0} (limit running : ℕ → A → ℕ) (parts : List A) (p : ℕ) (wanted force : List ℕ) → length force ≡ length wanted → length (forces_from limit running parts p wanted force) ≡ length force
length-forces limit running parts p [] [] same = refl
length-forces limit running parts p [] (f ∷ fs) same = absurd (omega (arith, same))
length-forces limit running parts p (w ∷ ws) [] same = absurd (omega (arith, same))
length-forces limit running parts p (w ∷ ws) (f ∷ fs) same = ap suc (length-forces limit running parts (p + 1) ws fs (omega (arith, same)))

forces_at : {A : Type 0} (limit running : ℕ → A → ℕ) (parts : List A) (p : ℕ) (wanted force : List ℕ) (k : ℕ) → length force ≡ length wanted → k < length wanted
    → get_or (forces_from limit running parts p wanted force) k 0 ≡ force_after (hold (limit (p + k)) (running (p + k)) parts) (get_or wanted k 0) (get_or force k 0)
forces_at limit running parts p [] force k same low = absurd (omega (arith, low))
forces_at limit running parts p (w ∷ ws) [] k same low = absurd (omega (arith, same))
forces_at limit running parts p (w ∷ ws) (f ∷ fs) zero same low =
    let on : p ≡ p + 0 = omega arith in
    ap (λ q. force_after (hold (limit q) (running q) parts) w f) on
forces_at limit running parts p (w ∷ ws) (f ∷ fs) (suc k) same low =
    let on : p + 1 + k ≡ p + suc k = omega arith in
    forces_at limit running parts (p + 1) ws fs k (omega (arith, same)) (omega (arith, low))
    ∙ ap (λ q. force_after (hold (limit q) (running q) parts) (get_or ws k 0) (get_or fs k 0)) on

-- ---- all of them, after an event of one

module _ (specs : ℕ → Spec) (cs : List Trace) (wanted force : List ℕ) (shares : AreShares specs cs wanted force) (i : ℕ) (e : Event) (low : i < length cs) where
  all_on : IsShare (length wanted) (specs i) (trace_at cs i ++ react (specs i) (trace_at cs i) e)
      → ((q : ℕ) → q < length wanted → hold (limit_by q) (running_by q) (gone_on specs cs i e) ≤ get_or force q 0) → GoOn specs cs wanted force i e
  all_on share within =
      let c = trace_at cs i ++ react (specs i) (trace_at cs i) e in
      let new = forces_from limit_by running_by (slice_set cs i c) 0 wanted force in
      record {
        group = group_within limit_by running_by cs wanted force new i c shares.group within
            (length-forces limit_by running_by (slice_set cs i c) 0 wanted force shares.group.many)
            (λ p inside.
            let on : 0 + p ≡ p = omega arith in
            forces_at limit_by running_by (slice_set cs i c) 0 wanted force p shares.group.many inside
            ∙ ap (λ q. force_after (hold (limit_by q) (running_by q) (slice_set cs i c)) (get_or wanted p 0) (get_or force p 0)) on);
        each = λ k inside. elim (cases_eq k i) [
          | inl same ↦ subst (λ n. IsShare (length wanted) (specs n) (trace_at (slice_set cs i c) n)) (sym same)
              (subst (IsShare (length wanted) (specs i)) (sym (get_or-set_same cs i c [] low)) share)
          | inr apart ↦ subst (IsShare (length wanted) (specs k)) (sym (get_or-set_other cs i k c [] apart)) (shares.each k (subst (λ n. k < n) (length-set cs i c) inside))
        ];
      }

pub step_shares : Laws → TraceLaws → (specs : ℕ → Spec) (cs : List Trace) (wanted force : List ℕ) (i : ℕ) (e : Event) → AreShares specs cs wanted force → i < length cs → IsPlain e.act → GoOn specs cs wanted force i e
step_shares limits steps specs cs wanted force i e shares low plain =
    let c = trace_at cs i in
    let share = shares.each i low in
    let lost : (p : ℕ) → e.act ≡ act.Lost p → ⊥ = λ p is. plain_lost e.act p plain is in
    all_on specs cs wanted force shares i e low
    (keeps_share limits steps (specs i) (length wanted) c e share lost plain)
    (after_step limit_by running_by cs wanted force i c (c ++ react (specs i) c e) low (get_or_default cs i [] c low) shares.group (keeps limits steps (specs i) (length wanted) c e share lost plain))

limit_lost : (p n q : ℕ) → act.Limit p n ≡ act.Lost q → ⊥
limit_lost p n q e = absurd (cc)

pub change_shares : Laws → TraceLaws → (specs : ℕ → Spec) (cs : List Trace) (wanted force : List ℕ) (x : Change) (time : ℕ) → AreShares specs cs wanted force → due_among cs wanted ≡ Some x
    → GoOn specs cs wanted force x.activator (made_at time x)
change_shares limits steps specs cs wanted force x time shares is_due =
    let i = x.activator in
    let e = made_at time x in
    let c = trace_at cs i in
    let due = due_is limit_by running_by cs wanted x c is_due in
    let share = shares.each i due.part in
    let here = shares.group.each x.pod due.pod in
    let some : 1 ≤ x.limit = subst (λ n. 1 ≤ n) (sym due.value) (slice_some (get_or wanted x.pod 0) i (length cs) shares.group.some here.least) in
    all_on specs cs wanted force shares i e due.part
    (sets_share limits steps (specs i) (length wanted) c e share (limit_lost x.pod x.limit) x.pod x.limit refl due.pod some)
    (after_change limit_by running_by cs wanted force x c (c ++ react (specs i) c e) (get_or_default cs i [] c due.part) shares.group due
    (sets limits steps (specs i) (length wanted) c e share (limit_lost x.pod x.limit) x.pod x.limit refl due.pod some))

-- ---- another limit is wanted

asked_group : {A : Type 0} (limit running : ℕ → A → ℕ) (parts : List A) (wanted force : List ℕ) (p most next : ℕ) → p < length wanted → length parts ≤ most → most ≤ 1000
    → next ≡ force_after (hold (limit p) (running p) parts) most (max (get_or force p 0) most) → IsGroup limit running parts wanted force
    → IsGroup limit running parts (slice_set wanted p most) (slice_set force p next)
asked_group limit running parts wanted force p most next low least top is g =
    let len = length-set wanted p most in
    record {
      some = g.some;
      few = g.few;
      pods = subst (λ n. n ≤ 500) (sym len) g.pods;
      many = length-set force p next ∙ (g.many ∙ sym len);
      each = λ q inside. elim (cases_eq q p) [
        | inl same ↦ subst (λ k. IsWithin (length parts) (hold (limit k) (running k) parts) (get_or (slice_set wanted p most) k 0) (get_or (slice_set force p next) k 0)) (sym same)
            (let each = g.each p low in
            subst (λ w. IsWithin (length parts) (hold (limit p) (running p) parts) w (get_or (slice_set force p next) p 0)) (sym (get_or-set_same wanted p most 0 low))
            (subst (λ f. IsWithin (length parts) (hold (limit p) (running p) parts) most f) (sym (get_or-set_same force p next 0 (omega (arith, low, g.many))))
            (asked (length parts) (hold (limit p) (running p) parts) most (get_or force p 0) next each.within least top each.most is)))
        | inr apart ↦
            subst (λ w. IsWithin (length parts) (hold (limit q) (running q) parts) w (get_or (slice_set force p next) q 0)) (sym (get_or-set_other wanted p q most 0 apart))
            (subst (λ f. IsWithin (length parts) (hold (limit q) (running q) parts) (get_or wanted q 0) f) (sym (get_or-set_other force p q next 0 apart)) (g.each q (subst (λ n. q < n) len inside)))
      ];
    }

pub ask_shares : (specs : ℕ → Spec) (cs : List Trace) (wanted force : List ℕ) (p limit : ℕ) → AreShares specs cs wanted force → p < length wanted → length cs ≤ limit → limit ≤ 1000
    → AreShares specs cs (slice_set wanted p limit) (slice_set force p (force_after (hold (limit_by p) (running_by p) cs) limit (max (get_or force p 0) limit)))
ask_shares specs cs wanted force p limit shares low least most = record {
  group = asked_group limit_by running_by cs wanted force p limit _ low least most refl shares.group;
  each = λ k inside. subst (λ n. IsShare n (specs k) (trace_at cs k)) (sym (length-set wanted p limit)) (shares.each k inside);
}

-- ---- the opening

abbrev share_of : ℕ → ℕ → ℕ → ℕ → Slots → ℕ → Spec
share_of n limit pods timeout_s slots i = fixed_spec (slice_of limit i n) pods timeout_s slots

module _ (limits : Laws) (steps : TraceLaws) (parts : PartFacts) (n limit pods timeout_s start : ℕ) (slots : Slots) (some : 1 ≤ n) (least : n ≤ limit) where
  begin_limit : (i q : ℕ) → q < pods → limit_by q (opening (share_of n limit pods timeout_s slots i) start) ≡ slice_of limit i n
  begin_limit i q low =
      opening_limit parts limits.views (share_of n limit pods timeout_s slots i) start pods q (fixed_kind (slice_of limit i n) pods timeout_s slots) low ∙ fixed_cc (slice_of limit i n) pods timeout_s slots

  begin_share : (i : ℕ) → IsShare pods (share_of n limit pods timeout_s slots i) (opening (share_of n limit pods timeout_s slots i) start)
  begin_share i =
      let s = share_of n limit pods timeout_s slots i in
      let fixed = fixed_kind (slice_of limit i n) pods timeout_s slots in
      record {
        fixed = fixed;
        made = steps.first s start;
        settled = steps.first_settled s start;
        live = opening_pods parts limits.views s start pods fixed;
        none = opening_draining parts limits.views s start;
        limits = λ q low. subst (λ m. 1 ≤ m) (sym (begin_limit i q low)) (slice_some limit i n some least);
      }

  begin_many : length (openings_of n limit pods timeout_s slots start) ≡ n
  begin_many = length-map-range_with_len (λ i. opening (share_of n limit pods timeout_s slots i) start) 0 n

  begin_hold : (p : ℕ) → p < pods → hold (limit_by p) (running_by p) (openings_of n limit pods timeout_s slots start) ≡ limit
  begin_hold p there =
      let opened = openings_of n limit pods timeout_s slots start in
      let slices = map (λ i. slice_of limit i n) (range_with_len 0 n) in
      let same : (k : ℕ) (a : Trace) (b : ℕ) → k < length opened → max (limit_by p (get_or opened k a)) (running_by p (get_or opened k a)) ≡ get_or slices k b =
      λ k a b low.
      let inside : k < n = subst (λ m. k < m) begin_many low in
      let at : get_or opened k a ≡ opening (share_of n limit pods timeout_s slots k) start =
      get_or-map-range_with_len (λ i. opening (share_of n limit pods timeout_s slots i) start) 0 n k k a inside (omega arith) in
      let l : limit_by p (get_or opened k a) ≡ slice_of limit k n = ap (limit_by p) at ∙ begin_limit k p there in
      let r : running_by p (get_or opened k a) ≡ 0 =
      ap (running_by p) at ∙ ap length (opening_running parts limits.views (share_of n limit pods timeout_s slots k) start p) in
      let v : get_or slices k b ≡ slice_of limit k n = get_or-map-range_with_len (λ i. slice_of limit i n) 0 n k k b inside (omega arith) in
      omega (arith, l, r, v) in
      sums_alike (λ c. max (limit_by p c) (running_by p c)) (λ x. x) opened slices (begin_many ∙ sym (length-map-range_with_len (λ i. slice_of limit i n) 0 n)) same
      ∙ (sum_below (λ i. slice_of limit i n) n ∙ slices_sum limit n some)

  pub begin_shares : n ≤ 16 → limit ≤ 1000 → pods ≤ 500
      → AreShares (λ i. fixed_spec (slice_of limit i n) pods timeout_s slots) (openings_of n limit pods timeout_s slots start) (replicate pods limit) (replicate pods limit)
  begin_shares few most many =
      let len = length-replicate pods limit in
      record {
        group = record {
          some = omega (arith, some, begin_many);
          few = omega (arith, few, begin_many);
          pods = omega (arith, len, many);
          many = refl;
          each = λ p low.
              let there : p < pods = omega (arith, low, len) in
              let at = get_or-replicate pods p limit 0 there in
              let held = begin_hold p there in
              record { within = omega (arith, at, held); above = omega arith; same = λ h. refl; least = omega (arith, at, least, begin_many); most = omega (arith, at, most) };
        };
        each = λ k low.
            let inside : k < n = subst (λ m. k < m) begin_many low in
            subst (λ m. IsShare m (share_of n limit pods timeout_s slots k) (trace_at (openings_of n limit pods timeout_s slots start) k)) (sym len)
            (subst (IsShare pods (share_of n limit pods timeout_s slots k)) (sym (get_or-map-range_with_len (λ i. opening (share_of n limit pods timeout_s slots i) start) 0 n k k [] inside (omega arith))) (begin_share k));
      }

-- ---- what holds of them

safe_shares : (specs : ℕ → Spec) (cs : List Trace) (wanted force : List ℕ) (p : ℕ) → AreShares specs cs wanted force → p < length wanted
    → IsSafe (runs (running_by p) cs) (hold (limit_by p) (running_by p) cs) (get_or wanted p 0) (get_or force p 0)
safe_shares specs cs wanted force p shares low =
    let each = shares.group.each p low in
    let within = each.within in
    let no_more = runs_within (limit_by p) (running_by p) cs in
    record { within = omega (arith, within, no_more); same = each.same }

pub share_laws : Laws → TraceLaws → PartFacts → ShareLaws
share_laws limits steps parts = record {
  begin = λ n limit pods timeout_s start slots some few least most many. begin_shares limits steps parts n limit pods timeout_s start slots some least few most many;
  step = step_shares limits steps;
  change = change_shares limits steps;
  ask = ask_shares;
  safe = safe_shares;
  lawful = λ specs cs wanted force i shares low.
      let share = shares.each i low in
      (steps.lawful (specs i) (trace_at cs i) share.made, share.settled, λ e. steps.inert (specs i) (trace_at cs i) e share.made share.settled);
}
