-- Pods that start become ready in the order of their numbers, which is that of their creation.
use Rattle.std.proofs.Common.{◌≡◌, ℕ, suc, ◌+◌, ◌<◌, ◌≤◌, Bool, true, false, cond, ◌⊎◌, inl, inr, List, [], ◌∷◌, length, map, nat_lt, get_or, refl, sym, ap, ◌∙◌, subst, arith}
use Rattle.std.specs.Prelude.{Option, None, Some, ◌==◌, slice_get, IfSome}
use Rattle.std.specs.List.{filter, filter_map}
use Rattle.std.proofs.lemmas.Bool.{eqb-true, eq-eqb, or_cases}
use Rattle.kn_event.specs.declared.entry.Row.{Row}
use Rattle.kn_event.specs.declared.revision.Spec.{Spec}
use Rattle.kn_event.specs.Lists.{contains}
use Rattle.kn_trace.specs.Rows.{created_by}
use Rattle.kn_trace.specs.Trace.{Trace, each_row, first_of, is_starting, starting_pods}
use Rattle.kn_record.specs.Facts.{Facts}
use Rattle.kn_record.specs.Made.{IsMade}
use Rattle.kn_record.specs.Order.{AreTimesInOrder, Ascend}
use Rattle.kn_record.specs.Rows.{says}
use Rattle.kn_agenda.specs.declared.agenda.Start.{Start}
use Rattle.kn_agenda.specs.declared.item.Item.{Item}
use Rattle.kn_agenda.specs.declared.item.Kind.TheVariants.{Readies}
use Rattle.kn_agenda.specs.Workload.{Workload}
use Rattle.kn_agenda.specs.Due.{IsAfter, created_at, first_time, is_before, time_where}
use Rattle.kn_agenda.specs.Kinds.{IsFirstOf}
use Rattle.kn_agenda.specs.Finishes.{Finish}
use Rattle.kn_agenda.specs.Keeps.{Keeps}
use Rattle.kn_agenda.proofs.Keeping.{time-none}
use Rattle.kn_agenda.proofs.Passes.{not_before}

-- nothing happened before the first time
pub happens_later : (said : Row → Option ℕ) (c : Trace) (from to n b : ℕ) → AreTimesInOrder from c to → first_time said c n ≡ Some b → from ≤ b
unfolding first_time
happens_later said [] from to n b order h = absurd (cc)
happens_later said (e ∷ c) from to n b order h = by (says (said e.row) n) refl (λ k. happens_later said c e.time to n b order.1 k)
  where
    by : (x : Bool) → says (said e.row) n ≡ x → (first_of (filter_map (λ e. time_where (says (said e.row) n) e) c) ≡ Some b → e.time ≤ b) → from ≤ b
    by true k rest = let same : Some e.time ≡ Some b = rw k at h in let time : e.time ≡ b = cc in let first = order.0 in omega arith
    by false k rest = let later = rest (rw k at h) in let first = order.0 in omega arith

-- what happened is there
pub happened : (said : Row → Option ℕ) (c : Trace) (n b : ℕ) → first_time said c n ≡ Some b → contains n (each_row said c) ≡ true
happened said c n b h = by (contains n (each_row said c)) refl
  where
    by : (x : Bool) → contains n (each_row said c) ≡ x → x ≡ true
    by true k = refl
    by false k = absurd (let none = time-none said c n k in cc)

in_test : (t : ℕ → Bool) (p : ℕ) (xs : List ℕ) → contains p xs ≡ true → t p ≡ true → contains p (filter t xs) ≡ true
in_test t p [] h k = absurd (cc)
in_test t p (x ∷ xs) h k = by (x == p) refl (or_cases (x == p) (contains p xs) h) (λ m. in_test t p xs m k)
  where
    by : (b : Bool) → (x == p) ≡ b → ((x == p) ≡ true) ⊎ (contains p xs ≡ true) → (contains p xs ≡ true → contains p (filter t xs) ≡ true) → contains p (filter t (x ∷ xs)) ≡ true
    by true m o rest = let same : x ≡ p = eqb-true x p m in let test : t x ≡ true = rw same k in rw (test, m) refl
    by false m (inl o) rest = absurd (cc)
    by false m (inr o) rest = at (t x)
      where
        at : (b : Bool) → contains p (cond b (x ∷ filter t xs) (filter t xs)) ≡ true
        at true = rw (m, rest o) refl
        at false = rest o

-- the first of ascending numbers is below the others
first_below : (x : ℕ) (xs : List ℕ) → ((k d : ℕ) → k < length xs → x < get_or xs k d) → (q : ℕ) → contains q xs ≡ true → x < q
first_below x [] below q h = absurd (cc)
first_below x (y ∷ ys) below q h = by (or_cases (y == q) (contains q ys) h) (λ a. first_below x ys (λ k d less. below (suc k) d (omega arith)) q a)
  where
    by : ((y == q) ≡ true) ⊎ (contains q ys ≡ true) → (contains q ys ≡ true → x < q) → x < q
    by (inl e) rest = let same : y ≡ q = eqb-true y q e in let less : x < y = below 0 0 (omega arith) in omega arith
    by (inr a) rest = rest a

ascend_first : (x : ℕ) (xs : List ℕ) → Ascend (x ∷ xs) → (q : ℕ) → contains q xs ≡ true → x < q
ascend_first x xs rise q h = first_below x xs (λ k d less. rise 0 (suc k) d (omega arith) (omega arith)) q h

ascend_rest : (x : ℕ) (xs : List ℕ) → Ascend (x ∷ xs) → Ascend xs
ascend_rest x xs rise = λ i j d less within. rise (suc i) (suc j) d (omega arith) (omega arith)

-- a pod with a greater number was created later, of those that pass a test by which numbers ascend
created_rise : (t : ℕ → Bool) (c : Trace) (from to p q a b : ℕ) → Ascend (filter t (each_row created_by c)) → t p ≡ true → t q ≡ true → p < q → AreTimesInOrder from c to → created_at c p ≡ Some a → created_at c q ≡ Some b → a ≤ b
unfolding first_time
created_rise t [] from to p q a b rise tp tq less order hp hq = absurd (cc)
created_rise t (e ∷ c) from to p q a b rise tp tq less order hp hq = by (created_by e.row) refl (λ r m n. created_rise t c e.time to p q a b r tp tq less order.1 m n)
  where
    later : (n x : ℕ) → first_of (filter_map (λ e. time_where (says (created_by e.row) n) e) c) ≡ Some x → e.time ≤ x
    later n x h = happens_later created_by c e.time to n x order.1 h

    there : (n x : ℕ) → first_of (filter_map (λ e. time_where (says (created_by e.row) n) e) c) ≡ Some x → contains n (each_row created_by c) ≡ true
    there n x h = happened created_by c n x h

    by : (o : Option ℕ) → created_by e.row ≡ o
        → (Ascend (filter t (each_row created_by c)) → first_of (filter_map (λ e. time_where (says (created_by e.row) p) e) c) ≡ Some a → first_of (filter_map (λ e. time_where (says (created_by e.row) q) e) c) ≡ Some b → a ≤ b)
        → a ≤ b
    by None k rest = rest (rw k at rise) (rw k at hp) (rw k at hq)
    by (Some n) k rest = at (n == p) (n == q) refl refl
      where
        at : (x y : Bool) → (n == p) ≡ x → (n == q) ≡ y → a ≤ b
        at true true m o = absurd (let i : n ≡ p = eqb-true n p m in let j : n ≡ q = eqb-true n q o in omega arith)
        at true false m o =
            let h1 : first_of (filter_map (λ e. time_where (says (created_by e.row) p) e) (e ∷ c)) ≡ Some a = hp in
            let same : Some e.time ≡ Some a = rw (k, m) at h1 in
            let time : e.time ≡ a = cc in
            let h2 : first_of (filter_map (λ e. time_where (says (created_by e.row) q) e) (e ∷ c)) ≡ Some b = hq in
            let after = later q b (rw (k, o) at h2) in
            omega arith
        at false true m o = absurd (
            let j : n ≡ q = eqb-true n q o in
            let h1 : first_of (filter_map (λ e. time_where (says (created_by e.row) p) e) (e ∷ c)) ≡ Some a = hp in
            let in_rest = there p a (rw (k, m) at h1) in
            let test : t n ≡ true = rw j tq in
            let up : Ascend (filter t (n ∷ each_row created_by c)) = rw k at rise in
            let up' : Ascend (n ∷ filter t (each_row created_by c)) = rw test at up in
            let below = ascend_first n (filter t (each_row created_by c)) up' p (in_test t p (each_row created_by c) in_rest tp) in
            omega arith)
        at false false m o =
            let h1 : first_of (filter_map (λ e. time_where (says (created_by e.row) p) e) (e ∷ c)) ≡ Some a = hp in
            let h2 : first_of (filter_map (λ e. time_where (says (created_by e.row) q) e) (e ∷ c)) ≡ Some b = hq in
            let up : Ascend (filter t (n ∷ each_row created_by c)) = rw k at rise in
            rest (drops (t n) up) (rw (k, m) at h1) (rw (k, o) at h2)
          where
            drops : (z : Bool) → Ascend (cond z (n ∷ filter t (each_row created_by c)) (filter t (each_row created_by c))) → Ascend (filter t (each_row created_by c))
            drops true up = ascend_rest n (filter t (each_row created_by c)) up
            drops false up = up

module _ (facts : Facts) where
  open facts use {lists.{filter_member}, proper.{starting_ascend}}

  starts_rise : (s : Spec) (c : Trace) (from to p q a b : ℕ) → IsMade s c → AreTimesInOrder from c to → contains p (starting_pods c) ≡ true → contains q (starting_pods c) ≡ true → p < q → created_at c p ≡ Some a → created_at c q ≡ Some b → a ≤ b
  unfolding starting_pods
  starts_rise s c from to p q a b made order hp hq less ap' aq =
      created_rise (is_starting c) c from to p q a b (starting_ascend s c made) (filter_member (is_starting c) p (each_row created_by c) hp).1 (filter_member (is_starting c) q (each_row created_by c) hq).1 less order ap' aq

  pub ready_none : (w : Workload) (c : Trace) (ticks : ℕ) (fs : List Finish) (ss : List Start) → ss ≡ [] → Keeps w.jobs c fs ss → IsFirstOf w c ticks Readies None
  ready_none w c ticks fs ss none keeps = λ p t due. (
      let empty : starting_pods c ≡ [] = sym keeps.starting ∙ rw none refl in
      let on : contains p (starting_pods c) ≡ true = due.0 in
      let on' : contains p [] ≡ true = rw empty at on in cc)

  pub ready_first : (s : Spec) (w : Workload) (c : Trace) (from to ticks : ℕ) (fs : List Finish) (ss : List Start) (x : Start) → IsMade s c → AreTimesInOrder from c to → slice_get ss 0 ≡ Some x → Keeps w.jobs c fs ss
      → IsFirstOf w c ticks Readies (Some (record { time = x.time + w.boot; kind = Readies; number = x.pod }))
  ready_first s w c from to ticks fs [] x made order top keeps = absurd (cc)
  ready_first s w c from to ticks fs (y ∷ ss) x made order top keeps =
      let same : y ≡ x = cc in
      subst (λ (z : Start). IsFirstOf w c ticks Readies (Some (record { time = z.time + w.boot; kind = Readies; number = z.pod }))) same here
    where
      starts : starting_pods c ≡ y.pod ∷ map (λ (z : Start). z.pod) ss
      starts = sym keeps.starting

      on : contains y.pod (starting_pods c) ≡ true
      on = rw (starts, eq-eqb y.pod y.pod refl) refl

      at : created_at c y.pod ≡ Some y.time
      at = keeps.created 0 y (omega arith)

      first : (n t : ℕ) → (contains n (starting_pods c) ≡ true) × IsAfter w.boot (created_at c n) t → is_before t (y.time + w.boot) (nat_lt n y.pod) ≡ false
      first n t (in', (b, is, sum)) = by (y.pod == n) refl
        where
          by : (z : Bool) → (y.pod == n) ≡ z → is_before t (y.time + w.boot) (nat_lt n y.pod) ≡ false
          by true k =
              let same : y.pod ≡ n = eqb-true y.pod n k in
              let times : Some y.time ≡ Some b = sym at ∙ (rw same is) in
              let time : y.time ≡ b = cc in
              not_before t (y.time + w.boot) n y.pod (omega arith) (omega arith)
          by false k =
              let rest : contains n (map (λ (z : Start). z.pod) ss) ≡ true = behind (or_cases (y.pod == n) (contains n (map (λ (z : Start). z.pod) ss)) (rw starts at in')) k in
              let up : Ascend (y.pod ∷ map (λ (z : Start). z.pod) ss) = subst Ascend starts (starting_ascend s c made) in
              let less = ascend_first y.pod (map (λ (z : Start). z.pod) ss) up n rest in
              let rise = starts_rise s c from to y.pod n y.time b made order on in' less at is in
              not_before t (y.time + w.boot) n y.pod (omega arith) (omega arith)
            where
              behind : ((y.pod == n) ≡ true) ⊎ (contains n (map (λ (z : Start). z.pod) ss) ≡ true) → (y.pod == n) ≡ false → contains n (map (λ (z : Start). z.pod) ss) ≡ true
              behind (inl h) k = absurd (cc)
              behind (inr h) k = h

      here : IsFirstOf w c ticks Readies (Some (record { time = y.time + w.boot; kind = Readies; number = y.pod }))
      here = (refl, (on, (y.time, at, refl)), first)

  pub ready_of : (s : Spec) (w : Workload) (c : Trace) (from to ticks boot : ℕ) (fs : List Finish) (ss : List Start) (o : Option Item) → w.boot ≡ boot → IsMade s c → AreTimesInOrder from c to → (o ≡ None → ss ≡ [])
      → IfSome o (λ x. (p : Start) × (slice_get ss 0 ≡ Some p) × (x ≡ record { time = p.time + boot; kind = Readies; number = p.pod })) → Keeps w.jobs c fs ss → IsFirstOf w c ticks Readies o
  ready_of s w c from to ticks boot fs ss None same made order none some keeps = ready_none w c ticks fs ss (none refl) keeps
  ready_of s w c from to ticks boot fs ss (Some x) same made order none (p, top, is) keeps =
      let own : x ≡ record { time = p.time + w.boot; kind = Readies; number = p.pod } = is ∙ ap (λ (n : ℕ). record { time = p.time + n; kind = Readies; number = p.pod }) (sym same) in
      subst (λ (z : Item). IsFirstOf w c ticks Readies (Some z)) (sym own) (ready_first s w c from to ticks fs ss p made order top keeps)
