-- The same of the activators' traces as of what is kept of them.
use Rattle.std.proofs.Common.{◌≡◌, ◌<◌, ℕ, suc, ◌+◌, max, List, [], ◌∷◌, length, get_or, refl, ap, ◌∙◌, sym, subst, arith, Option, nat_lt, inl, inr}
use Rattle.std.specs.Prelude.{sum_by, slice_set, slice_index_or}
use Rattle.std.proofs.lemmas.Bool.{cases_eq}
use Rattle.std.proofs.lemmas.List.{get_or_default, length-set, get_or-set_same, get_or-set_other}
use Rattle.std.proofs.lemmas.List.Sums.{sum_by-cons}
use Rattle.kn_event.specs.declared.revision.Spec.{Spec}
use Rattle.kn_event.specs.Lists.{or_else}
use Rattle.kn_trace.specs.Trace.{Trace}
use Rattle.kn_record.specs.Admission.{Admission}
use Rattle.kn_record.specs.Made as made
use Rattle.kn_record.specs.Views.{AreViews}
use Rattle.kn_core.specs.State.{RevisionState, StandsFor}
use Rattle.kn_slices.specs.Activators.{IsActivator, IsGroupOf, limit_at, running_at}
use Rattle.kn_slices.specs.Slices.{change, change_where, cut_at, cut_of, due_change, first_from, hold, raise_at, raise_of, runs, slice_of}
use Rattle.kn_slices.specs.Traces.{AreTraces, IsSafe, limit_by, running_by, trace_at}
use Rattle.kn_slices.proofs.Activators.{limit_is, there}
use Rattle.kn_slices.proofs.Due.{runs_within}

-- ---- two lists whose members are alike

pub sums_alike : {A B : Type 0} (f : A → ℕ) (g : B → ℕ) (xs : List A) (ys : List B) → length xs ≡ length ys → ((k : ℕ) (a : A) (b : B) → k < length xs → f (get_or xs k a) ≡ g (get_or ys k b)) → sum_by f xs ≡ sum_by g ys
sums_alike f g [] [] len same = refl
sums_alike f g [] (y ∷ ys) len same = absurd (omega (arith, len))
sums_alike f g (x ∷ xs) [] len same = absurd (omega (arith, len))
sums_alike f g (x ∷ xs) (y ∷ ys) len same =
    let here : f x ≡ g y = same 0 x y (omega arith) in
    let rest = sums_alike f g xs ys (omega (arith, len)) (λ k a b low. same (suc k) a b (omega (arith, low))) in
    sum_by-cons f x xs ∙ (rw (here, rest) (sym (sum_by-cons g y ys)))

pub first_alike : {A B X : Type 0} (test : ℕ → A → Option X) (other : ℕ → B → Option X) (i : ℕ) (xs : List A) (ys : List B) → length xs ≡ length ys
    → ((k : ℕ) (a : A) (b : B) → k < length xs → test (i + k) (get_or xs k a) ≡ other (i + k) (get_or ys k b)) → first_from test i xs ≡ first_from other i ys
first_alike test other i [] [] len same = refl
first_alike test other i [] (y ∷ ys) len same = absurd (omega (arith, len))
first_alike test other i (x ∷ xs) [] len same = absurd (omega (arith, len))
first_alike test other i (x ∷ xs) (y ∷ ys) len same =
    let here : test i x ≡ other i y = subst (λ n. test n x ≡ other n y) (omega arith) (same 0 x y (omega arith)) in
    let rest = first_alike test other (i + 1) xs ys (omega (arith, len)) (λ k a b low. subst (λ n. test n (get_or xs k a) ≡ other n (get_or ys k b)) (omega arith) (same (suc k) a b (omega (arith, low)))) in
    ap (λ o. or_else o (first_from test (i + 1) xs)) here ∙ ap (λ o. or_else (other i y) o) rest

-- limits and running requests at each pod are the same
pub record AreAlike {A B : Type 0} (limit running : ℕ → A → ℕ) (limit' running' : ℕ → B → ℕ) (pods : ℕ) (xs : List A) (ys : List B) : Type 0 where
  pub same : length xs ≡ length ys
  pub limits : (p k : ℕ) (a : A) (b : B) → p < pods → k < length xs → limit p (get_or xs k a) ≡ limit' p (get_or ys k b)
  pub runs : (p k : ℕ) (a : A) (b : B) → p < pods → k < length xs → running p (get_or xs k a) ≡ running' p (get_or ys k b)

module _ {A B : Type 0} (limit running : ℕ → A → ℕ) (limit' running' : ℕ → B → ℕ) (xs : List A) (ys : List B) where
  pub hold_alike : (pods p : ℕ) → p < pods → AreAlike limit running limit' running' pods xs ys → hold (limit p) (running p) xs ≡ hold (limit' p) (running' p) ys
  hold_alike pods p low h = sums_alike (λ a. max (limit p a) (running p a)) (λ b. max (limit' p b) (running' p b)) xs ys h.same
      (λ k a b inside. rw (h.limits p k a b low inside, h.runs p k a b low inside) refl)

  pub runs_alike : (pods p : ℕ) → p < pods → AreAlike limit running limit' running' pods xs ys → runs (running p) xs ≡ runs (running' p) ys
  runs_alike pods p low h = sums_alike (running p) (running' p) xs ys h.same (λ k a b inside. h.runs p k a b low inside)

  cut_alike : (pods n w p : ℕ) → p < pods → AreAlike limit running limit' running' pods xs ys → cut_of limit n xs p w ≡ cut_of limit' n ys p w
  cut_alike pods n w p low h = first_alike (cut_at (limit p) n w p) (cut_at (limit' p) n w p) 0 xs ys h.same
      (λ k a b inside. ap (λ l. change_where (nat_lt (slice_of w (0 + k) n) l) (change (0 + k) p (slice_of w (0 + k) n))) (h.limits p k a b low inside))

  raise_alike : (pods n w p : ℕ) → p < pods → AreAlike limit running limit' running' pods xs ys → raise_of limit running n xs p w ≡ raise_of limit' running' n ys p w
  raise_alike pods n w p low h = first_alike (raise_at (limit p) (running p) (hold (limit p) (running p) xs) n w p) (raise_at (limit' p) (running' p) (hold (limit' p) (running' p) ys) n w p) 0 xs ys h.same
      (λ k a b inside. rw (hold_alike pods p low h, h.limits p k a b low inside, h.runs p k a b low inside) refl)

  pub due_alike : (wanted : List ℕ) → AreAlike limit running limit' running' (length wanted) xs ys → due_change limit running (length xs) xs wanted ≡ due_change limit' running' (length ys) ys wanted
  due_alike wanted h =
      let n = length ys in
      let pods = length wanted in
      let at : (p : ℕ) (a b : ℕ) → p < pods → get_or wanted p a ≡ get_or wanted p b = λ p a b low. get_or_default wanted p a b low in
      let cuts : first_from (cut_of limit n xs) 0 wanted ≡ first_from (cut_of limit' n ys) 0 wanted =
      first_alike (cut_of limit n xs) (cut_of limit' n ys) 0 wanted wanted refl
      (λ p a b low. cut_alike pods n (get_or wanted p a) (0 + p) (omega (arith, low)) h ∙ ap (λ w. cut_of limit' n ys (0 + p) w) (at p a b low)) in
      let raises : first_from (raise_of limit running n xs) 0 wanted ≡ first_from (raise_of limit' running' n ys) 0 wanted =
      first_alike (raise_of limit running n xs) (raise_of limit' running' n ys) 0 wanted wanted refl
      (λ p a b low. raise_alike pods n (get_or wanted p a) (0 + p) (omega (arith, low)) h ∙ ap (λ w. raise_of limit' running' n ys (0 + p) w) (at p a b low)) in
      ap (λ n. due_change limit running n xs wanted) h.same ∙ (ap (λ o. or_else o (first_from (raise_of limit running n xs) 0 wanted)) cuts ∙ ap (λ o. or_else (first_from (cut_of limit' n ys) 0 wanted) o) raises)

-- ---- the activators and their traces

module _ (views : (s : Spec) (a : Admission) (c : Trace) → made.IsRecordOf a c → AreViews s a c) where
  part_alike : (pods p : ℕ) (x : RevisionState) (c : Trace) → IsActivator pods x → p < pods → StandsFor x c → (limit_at p x ≡ limit_by p c) × (running_at p x ≡ running_by p c)
  part_alike pods p x c is low stands =
      let v = views x.spec x.parts.throttle.admission c stands.parts.admission in
      (limit_is c p x.parts.throttle.admission.pods v.limits (there pods p x is.has low), sym (v.count_running_at p))

  pub traces_alike : (parts : List RevisionState) (wanted force : List ℕ) (cs : List Trace) → IsGroupOf parts wanted force → AreTraces parts cs
      → AreAlike limit_at running_at limit_by running_by (length wanted) parts cs
  traces_alike parts wanted force cs group traces = record {
    same = sym traces.same;
    limits = λ p k a b low inside. (part_alike (length wanted) p (get_or parts k a) (trace_at cs k) (group.activators k a inside) low (traces.each k a inside)).0 ∙ ap (limit_by p) (get_or_default cs k _ b (omega (arith, inside, traces.same)));
    runs = λ p k a b low inside. (part_alike (length wanted) p (get_or parts k a) (trace_at cs k) (group.activators k a inside) low (traces.each k a inside)).1 ∙ ap (running_by p) (get_or_default cs k _ b (omega (arith, inside, traces.same)));
  }

  pub hold_traces : (parts : List RevisionState) (wanted force : List ℕ) (cs : List Trace) (p : ℕ) → IsGroupOf parts wanted force → AreTraces parts cs → p < length wanted
      → hold (limit_at p) (running_at p) parts ≡ hold (limit_by p) (running_by p) cs
  hold_traces parts wanted force cs p group traces low = hold_alike limit_at running_at limit_by running_by parts cs (length wanted) p low (traces_alike parts wanted force cs group traces)

  pub runs_traces : (parts : List RevisionState) (wanted force : List ℕ) (cs : List Trace) (p : ℕ) → IsGroupOf parts wanted force → AreTraces parts cs → p < length wanted
      → runs (running_at p) parts ≡ runs (running_by p) cs
  runs_traces parts wanted force cs p group traces low = runs_alike limit_at running_at limit_by running_by parts cs (length wanted) p low (traces_alike parts wanted force cs group traces)

  pub due_traces : (parts : List RevisionState) (wanted force : List ℕ) (cs : List Trace) → IsGroupOf parts wanted force → AreTraces parts cs
      → due_change limit_at running_at (length parts) parts wanted ≡ due_change limit_by running_by (length cs) cs wanted
  due_traces parts wanted force cs group traces = due_alike limit_at running_at limit_by running_by parts cs wanted (traces_alike parts wanted force cs group traces)

  pub safe : (parts : List RevisionState) (wanted force : List ℕ) (cs : List Trace) (p : ℕ) → IsGroupOf parts wanted force → AreTraces parts cs → p < length wanted
      → IsSafe (runs (running_by p) cs) (hold (limit_by p) (running_by p) cs) (slice_index_or wanted p 0) (slice_index_or force p 0)
  safe parts wanted force cs p group traces low =
      let each = group.group.each p low in
      let held = hold_traces parts wanted force cs p group traces low in
      let within = each.within in
      let no_more = runs_within (limit_by p) (running_by p) cs in
      record { within = omega (arith, held, within, no_more); same = λ le. each.same (omega (arith, held, le)) }

-- one activator goes on
pub traces_set : (parts : List RevisionState) (cs : List Trace) (i : ℕ) (y : RevisionState) (c : Trace) → AreTraces parts cs → i < length parts → StandsFor y c → AreTraces (slice_set parts i y) (slice_set cs i c)
traces_set parts cs i y c traces low stands = record {
  same = length-set cs i c ∙ (traces.same ∙ sym (length-set parts i y));
  each = λ k d inside. elim (cases_eq k i) [
    | inl same ↦ subst (λ n. StandsFor (get_or (slice_set parts i y) n d) (trace_at (slice_set cs i c) n)) (sym same)
        (subst (λ x. StandsFor x (trace_at (slice_set cs i c) i)) (sym (get_or-set_same parts i y d low)) (subst (StandsFor y) (sym (get_or-set_same cs i c _ (omega (arith, low, traces.same)))) stands))
    | inr other ↦ subst (λ x. StandsFor x (trace_at (slice_set cs i c) k)) (sym (get_or-set_other parts i k y d other))
        (subst (StandsFor (get_or parts k d)) (sym (get_or-set_other cs i k c _ other)) (traces.each k d (subst (λ n. k < n) (length-set parts i y) inside)))
  ];
}
