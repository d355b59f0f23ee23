-- A chosen pod is Ready and has_free_seat, and there is one where one is.
use Rattle.std.proofs.Common.{◌≡◌, ℕ, ◌+◌, ◌*◌, ◌-◌, ◌%◌, ◌<◌, Bool, true, false, cond, ◌&&◌, ◌||◌, List, [], ◌∷◌, ◌++◌, length, take, drop, map, refl, sym, ap, subst, ◌∙◌, arith, nat_lt, nat_le, zero, suc, take-append-drop}
use Rattle.std.specs.Prelude.{Option, None, Some, ◌==◌, slice_index_or}
use Rattle.std.specs.List.{filter, find}
use Rattle.std.proofs.lemmas.Bool.Decides.{nat_tests}
use Rattle.std.proofs.lemmas.List.Elements.{filter-append}
use Rattle.std.specs.Option.{option_map}
use Rattle.std.proofs.lemmas.Bool.{eq-eqb, and_parts}
use Rattle.kn_event.specs.declared.revision.Spec.{Spec}
use Rattle.kn_event.specs.Lists.{contains}
use Rattle.kn_trace.specs.declared.candidate.Cand.{Cand}
use Rattle.kn_trace.specs.Trace.{Trace, has_free_seat, limit_of, ready_pods, running_at}
use Rattle.kn_trace.specs.Capacity.{capacity, in_use}
use Rattle.kn_trace.specs.Settling.{next_choice}
use Rattle.kn_trace.specs.Choice.{assignment_count, candidates, choice, choice_of_two, chosen_pod, first_available, has_seat, less_busy, other_position, random_choice, random_word, round_robin, round_robin_place, turned_to}
use Rattle.kn_record.proofs.Members.{contains-append, contains-filter}

-- the pods among these that have a seat
abbrev pub seated : List Cand → List ℕ
seated cs = map (λ (q : Cand). q.pod) (filter has_seat cs)

map-append : (xs ys : List Cand) → map (λ (q : Cand). q.pod) (xs ++ ys) ≡ map (λ (q : Cand). q.pod) xs ++ map (λ (q : Cand). q.pod) ys
map-append [] ys = refl
map-append (x ∷ xs) ys = ap (λ (l : List ℕ). x.pod ∷ l) (map-append xs ys)

seated-append : (xs ys : List Cand) → seated (xs ++ ys) ≡ seated xs ++ seated ys
seated-append xs ys = rw (filter-append has_seat xs ys) (map-append (filter has_seat xs) (filter has_seat ys))

-- what a choice says of the candidates
abbrev pub IsSeated : Option ℕ → List ℕ → Type 0
IsSeated None pods = pods ≡ []
IsSeated (Some p) pods = contains p pods ≡ true

-- the first pod with a seat has one, and there is one where one has
find-seated : (cs : List Cand) → IsSeated (option_map (λ (q : Cand). q.pod) (find has_seat cs)) (seated cs)
find-seated [] = refl
find-seated (q ∷ cs) = by (has_seat q) (find-seated cs)
  where
    by : (b : Bool) → IsSeated (option_map (λ (q : Cand). q.pod) (find has_seat cs)) (seated cs) → IsSeated (option_map (λ (q : Cand). q.pod) (cond b (Some q) (find has_seat cs))) (map (λ (q : Cand). q.pod) (cond b (q ∷ filter has_seat cs) (filter has_seat cs)))
    by true rest = rw (eq-eqb q.pod q.pod refl) refl
    by false rest = rest

-- turning the list changes nobody's seat
seated-turned : (n : ℕ) (cs : List Cand) (o : Option ℕ) → IsSeated o (seated (turned_to n cs)) → IsSeated o (seated cs)
seated-turned n cs o h = by (nat_lt n (length cs)) o h
  where
    swap : (a b : Bool) → (a || b) ≡ true → (b || a) ≡ true
    swap true true h = refl
    swap true false h = refl
    swap false true h = refl
    swap false false h = h

    none : (xs ys : List ℕ) → xs ++ ys ≡ [] → ys ++ xs ≡ []
    none [] [] h = refl
    none [] (y ∷ ys) h = absurd (cc)
    none (x ∷ xs) ys h = absurd (cc)

    whole : seated (take n cs) ++ seated (drop n cs) ≡ seated cs
    whole = sym (seated-append (take n cs) (drop n cs)) ∙ ap (λ (l : List Cand). seated l) (take-append-drop n cs)

    by : (b : Bool) (o : Option ℕ) → IsSeated o (seated (cond b (drop n cs ++ take n cs) cs)) → IsSeated o (seated cs)
    by true None h = sym whole ∙ none (seated (drop n cs)) (seated (take n cs)) (sym (seated-append (drop n cs) (take n cs)) ∙ h)
    by true (Some p) h =
        ap (λ (l : List ℕ). contains p l) (sym whole) ∙ contains-append p (seated (take n cs)) (seated (drop n cs))
        ∙ swap (contains p (seated (drop n cs))) (contains p (seated (take n cs))) (sym (contains-append p (seated (drop n cs)) (seated (take n cs))) ∙ ap (λ (l : List ℕ). contains p l) (sym (seated-append (drop n cs) (take n cs))) ∙ h)
    by false o h = h

contains-index : (i : ℕ) (q : Cand) (cs : List Cand) → i < length cs → contains (slice_index_or cs i q).pod (map (λ (q : Cand). q.pod) cs) ≡ true
contains-index i q [] h = absurd (omega arith)
contains-index zero q (x ∷ cs) h = rw (eq-eqb x.pod x.pod refl) refl
contains-index (suc i) q (x ∷ cs) h = more (x.pod == (slice_index_or cs i q).pod) _ (contains-index i q cs (omega arith))
  where
    more : (m b : Bool) → b ≡ true → (m || b) ≡ true
    more true b h = refl
    more false b h = h

less : (k a : ℕ) → 0 < k → a % k < k
less k a h = omega arith

skips : (k i j : ℕ) → i < k → j < k - 1 → other_position i j < k
skips k i j hi hj = by (nat_le i j)
  where
    by : (m : Bool) → cond m (j + 1) j < k
    by true = omega arith
    by false = omega arith

-- the choice of two is one of the list
two-seated : (cs : List Cand) (a b : ℕ) → IsSeated (choice_of_two cs a b) (map (λ (q : Cand). q.pod) cs)
unfolding choice_of_two
two-seated [] a b = refl
two-seated (q ∷ []) a b = rw (eq-eqb q.pod q.pod refl) refl
two-seated (q ∷ r ∷ cs) a b =
    let k = length (q ∷ r ∷ cs) in
    let i = a % k in
    let j = other_position i (b % (k - 1)) in
    by (slice_index_or (q ∷ r ∷ cs) i q) (slice_index_or (q ∷ r ∷ cs) j q)
    (contains-index i q (q ∷ r ∷ cs) (less k a (omega arith)))
    (contains-index j q (q ∷ r ∷ cs) (skips k i (b % (k - 1)) (less k a (omega arith)) (less (k - 1) b (omega arith))))
  where
    by : (x y : Cand) → contains x.pod (map (λ (q : Cand). q.pod) (q ∷ r ∷ cs)) ≡ true → contains y.pod (map (λ (q : Cand). q.pod) (q ∷ r ∷ cs)) ≡ true → contains (less_busy x y) (map (λ (q : Cand). q.pod) (q ∷ r ∷ cs)) ≡ true
    by x y hx hy = two (nat_lt y.running x.running)
      where
        two : (m : Bool) → contains (cond m y.pod x.pod) (map (λ (q : Cand). q.pod) (q ∷ r ∷ cs)) ≡ true
        two true = hy
        two false = hx

-- whatever the policy, the pod that is chosen has a seat, and none is chosen only where none has
pub chosen-seated : (cc seed place assigns : ℕ) (cs : List Cand) → IsSeated (chosen_pod cc seed place assigns cs) (seated cs)
unfolding chosen_pod first_available round_robin random_choice
chosen-seated cc seed place assigns cs = by (cc == 0) (nat_lt cc 4)
  where
    by : (a b : Bool) → IsSeated (cond a (random_choice seed assigns cs) (cond b (first_available cs) (round_robin place cs))) (seated cs)
    by true b = two-seated (filter has_seat cs) (random_word seed (2 * assigns)) (random_word seed (2 * assigns + 1))
    by false true = find-seated cs
    by false false = seated-turned place cs (option_map (λ (q : Cand). q.pod) (find has_seat (turned_to place cs))) (find-seated (turned_to place cs))

-- of a trace these are the Ready pods that are has_free_seat
seated-candidates : (c : Trace) → seated (candidates c) ≡ filter (has_free_seat c) (ready_pods c)
unfolding candidates has_free_seat
seated-candidates c = from (ready_pods c)
  where
    from : (ps : List ℕ) → seated (map (λ p. record { pod = p; limit = limit_of c p; running = length (running_at c p) }) ps) ≡ filter (has_free_seat c) ps
    from [] = refl
    from (p ∷ ps) = by (limit_of c p == 0 || nat_lt (length (running_at c p)) (limit_of c p)) (from ps)
      where
        by : (b : Bool) → seated (map (λ p. record { pod = p; limit = limit_of c p; running = length (running_at c p) }) ps) ≡ filter (has_free_seat c) ps
            → map (λ (q : Cand). q.pod) (cond b (record { pod = p; limit = limit_of c p; running = length (running_at c p) } ∷ filter has_seat (map (λ p. record { pod = p; limit = limit_of c p; running = length (running_at c p) }) ps)) (filter has_seat (map (λ p. record { pod = p; limit = limit_of c p; running = length (running_at c p) }) ps)))
            ≡ cond b (p ∷ filter (has_free_seat c) ps) (filter (has_free_seat c) ps)
        by true rest = ap (λ (l : List ℕ). p ∷ l) rest
        by false rest = rest

-- the same of a trace: the pods with a seat are the Ready ones that are free
pub choice-seated : (s : Spec) (c : Trace) → IsSeated (choice s c) (filter (has_free_seat c) (ready_pods c))
unfolding choice
choice-seated s c = subst (λ (l : List ℕ). IsSeated (chosen_pod s.cc s.slots.seed (round_robin_place c) (assignment_count c) (candidates c)) l) (seated-candidates c) (chosen-seated s.cc s.slots.seed (round_robin_place c) (assignment_count c) (candidates c))

-- a chosen pod is Ready and has a free seat
pub choice-good : (s : Spec) (c : Trace) (p : ℕ) → choice s c ≡ Some p → (contains p (ready_pods c) ≡ true) × (has_free_seat c p ≡ true)
choice-good s c p h =
    and_parts (contains p (ready_pods c)) (has_free_seat c p)
    (sym (contains-filter (has_free_seat c) p (ready_pods c)) ∙ subst (λ (o : Option ℕ). IsSeated o (filter (has_free_seat c) (ready_pods c))) h (choice-seated s c))

-- where none is chosen no Ready pod has a free seat
pub choice-none : (s : Spec) (c : Trace) → choice s c ≡ None → (p : ℕ) → contains p (ready_pods c) ≡ true → has_free_seat c p ≡ false
choice-none s c n p h =
    let empty = subst (λ (o : Option ℕ). IsSeated o (filter (has_free_seat c) (ready_pods c))) n (choice-seated s c) in
    second (contains p (ready_pods c)) (has_free_seat c p) h (sym (contains-filter (has_free_seat c) p (ready_pods c)) ∙ ap (λ (l : List ℕ). contains p l) empty)
  where
    second : (a b : Bool) → a ≡ true → (a && b) ≡ false → b ≡ false
    second true b e h = h
    second false b e h = absurd (cc)

-- where an assignment comes next there is room for it
pub next_choice-good : (s : Spec) (c : Trace) (p : ℕ) → next_choice s c ≡ Some p → (in_use c < capacity s c) × (contains p (ready_pods c) ≡ true) × (has_free_seat c p ≡ true)
unfolding next_choice
next_choice-good s c p h = by (nat_lt (in_use c) (capacity s c)) refl h
  where
    by : (b : Bool) → nat_lt (in_use c) (capacity s c) ≡ b → cond b (choice s c) None ≡ Some p → (in_use c < capacity s c) × (contains p (ready_pods c) ≡ true) × (has_free_seat c p ≡ true)
    by true e h = let both = choice-good s c p h in let less : in_use c < capacity s c = grind (arith, nat_tests) in (less, both.0, both.1)
    by false e h = absurd (cc)
