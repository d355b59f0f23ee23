-- The views of pods are the record's.
use Rattle.std.proofs.Common.{◌≡◌, ℕ, Bool, true, false, not, cond, ◌&&◌, List, [], ◌∷◌, refl, sym, ap, ◌∙◌, map}
use Rattle.std.specs.Prelude.{Option, None, Some, ◌==◌}
use Rattle.std.specs.Bool.{then_some}
use Rattle.std.specs.List.{All, filter, filter_map, cons_option}
use Rattle.std.proofs.lemmas.Bool.{eqb-true}
use Rattle.std.proofs.lemmas.List.Elements.{All-cons, All-head, All-nil, All-tail}
use Rattle.kn_event.specs.declared.entry.Entry.{Entry}
use Rattle.kn_event.specs.Lists.{contains}
use Rattle.kn_trace.specs.Rows.{created_by, drained_by, readied_by, gone_by}
use Rattle.kn_trace.specs.Trace.{Trace, draining, each_row, is_draining, is_live_pod, is_ready, is_starting, limit_of, live_pods, ready_pods, starting_pods}
use Rattle.kn_record.specs.declared.admission.Pod.{Pod}
use Rattle.kn_record.specs.declared.admission.Readiness.{Readiness}
use Rattle.kn_record.specs.Admission.{is_draining_now, is_ready_now, is_starting_now, pod_record, pods, pods_in, readiness_by, readiness_of}
use Rattle.kn_record.specs.Views.{is_pod_where, pod_numbered, pod_numbers}
use Rattle.kn_record.proofs.Members.{contains-filter}
use Rattle.kn_record.proofs.PodNumbers.{live_pod_created}

-- a list over the pods that pass, with their limits, is one over the record's pods
pods_by : {X : Type 0} (f : ℕ → ℕ → X) (c : Trace) (t : ℕ → Bool) (now : Readiness → Bool)
    → ((p : ℕ) → t p ≡ (now (readiness_by (contains p (each_row drained_by c)) (contains p (each_row readied_by c))) && not (contains p (each_row gone_by c))))
    → map (λ p. f p (limit_of c p)) (filter t (each_row created_by c)) ≡ map (λ (q : Pod). f q.number q.limit) (filter (λ (q : Pod). now q.readiness) (pods c))
unfolding pods pod_record readiness_of
pods_by {X} f c t now same = from c
  where
    from : (d : Trace) → map (λ p. f p (limit_of c p)) (filter t (each_row created_by d)) ≡ map (λ (q : Pod). f q.number q.limit) (filter (λ (q : Pod). now q.readiness) (filter_map (λ (e : Entry). pod_record c (created_by e.row)) d))
    from [] = refl
    from (e ∷ d) = by (created_by e.row) (from d)
      where
        step : (p n : ℕ) (x : Readiness) (b a g : Bool) (us : List ℕ) (vs : List Pod) → limit_of c p ≡ n → now x ≡ a → b ≡ (a && not g) → map (λ p. f p (limit_of c p)) us ≡ map (λ (q : Pod). f q.number q.limit) (filter (λ (q : Pod). now q.readiness) vs)
            → map (λ p. f p (limit_of c p)) (cond b (p ∷ us) us)
            ≡ map (λ (q : Pod). f q.number q.limit) (filter (λ (q : Pod). now q.readiness) (cons_option (then_some (not g) (record { number = p; limit = n; readiness = x })) vs))
        step p n x b true true us vs l k e h = rw e h
        step p n x b true false us vs l k e h = rw (e, k, l) (ap (λ (m : List X). f p n ∷ m) h)
        step p n x b false true us vs l k e h = rw e h
        step p n x b false false us vs l k e h = rw (e, k) h

        by : (o : Option ℕ) → map (λ p. f p (limit_of c p)) (filter t (each_row created_by d)) ≡ map (λ (q : Pod). f q.number q.limit) (filter (λ (q : Pod). now q.readiness) (filter_map (λ (e : Entry). pod_record c (created_by e.row)) d))
            → map (λ p. f p (limit_of c p)) (filter t (cons_option o (each_row created_by d)))
            ≡ map (λ (q : Pod). f q.number q.limit) (filter (λ (q : Pod). now q.readiness) (cons_option (pod_record c o) (filter_map (λ (e : Entry). pod_record c (created_by e.row)) d)))
        by None rest = rest
        by (Some p) rest = step p (limit_of c p) (readiness_of c p) (t p) _ (contains p (each_row gone_by c)) _ _ refl refl (same p) rest

map-same : (xs : List ℕ) → map (λ p. p) xs ≡ xs
map-same [] = refl
map-same (x ∷ xs) = ap (λ (l : List ℕ). x ∷ l) (map-same xs)

-- a list over the Ready pods and their limits
pub ready_limits : {X : Type 0} (f : ℕ → ℕ → X) (c : Trace) → map (λ p. f p (limit_of c p)) (ready_pods c) ≡ map (λ (q : Pod). f q.number q.limit) (filter (λ (q : Pod). is_ready_now q.readiness) (pods c))
unfolding ready_pods is_ready is_live_pod
ready_limits f c = pods_by f c (is_ready c) is_ready_now (λ p. by (contains p (each_row readied_by c)) (contains p (each_row drained_by c)) (contains p (each_row gone_by c)))
  where
    by : (x d g : Bool) → (x && not d && not g) ≡ (is_ready_now (readiness_by d x) && not g)
    by true true g = refl
    by true false g = refl
    by false true g = refl
    by false false g = refl

-- the starting pods of the record
pub starting-pods : (c : Trace) → starting_pods c ≡ pods_in is_starting_now (pods c)
unfolding starting_pods is_starting is_live_pod
starting-pods c =
    sym (map-same (starting_pods c)) ∙ pods_by (λ p n. p) c (is_starting c) is_starting_now (λ p. by (contains p (each_row readied_by c)) (contains p (each_row drained_by c)) (contains p (each_row gone_by c)))
  where
    by : (x d g : Bool) → (not x && not d && not g) ≡ (is_starting_now (readiness_by d x) && not g)
    by true true g = refl
    by true false g = refl
    by false true g = refl
    by false false g = refl

-- its draining pods
pub draining-pods : (c : Trace) → draining c ≡ pods_in is_draining_now (pods c)
unfolding draining is_draining is_live_pod
draining-pods c =
    sym (map-same (draining c)) ∙ pods_by (λ p n. p) c (is_draining c) is_draining_now (λ p. by (contains p (each_row readied_by c)) (contains p (each_row drained_by c)) (contains p (each_row gone_by c)))
  where
    by : (x d g : Bool) → (d && not g) ≡ (is_draining_now (readiness_by d x) && not g)
    by true true g = refl
    by true false g = refl
    by false true g = refl
    by false false g = refl

-- whether a live pod is starting
pub live_is_starting : (c : Trace) (p : ℕ) → contains p (live_pods c) ≡ true → is_starting c p ≡ contains p (starting_pods c)
unfolding starting_pods
live_is_starting c p h = sym (contains-filter (is_starting c) p (each_row created_by c) ∙ rw (live_pod_created c p h) refl)

-- the record has each pod's limit
pub pods_limits : (c : Trace) → All (λ (q : Pod). limit_of c q.number ≡ q.limit) (pods c)
unfolding pods pod_record
pods_limits c = from c
  where
    P : Pod → Type 0
    P q = limit_of c q.number ≡ q.limit

    from : (d : Trace) → All P (filter_map (λ (e : Entry). pod_record c (created_by e.row)) d)
    from [] = All-nil P
    from (e ∷ d) = by (created_by e.row) (from d)
      where
        step : (p : ℕ) (b : Bool) (vs : List Pod) → All P vs → All P (cons_option (then_some b (record { number = p; limit = limit_of c p; readiness = readiness_of c p })) vs)
        step p true vs h = All-cons P _ vs refl h
        step p false vs h = h

        by : (o : Option ℕ) → All P (filter_map (λ (e : Entry). pod_record c (created_by e.row)) d) → All P (cons_option (pod_record c o) (filter_map (λ (e : Entry). pod_record c (created_by e.row)) d))
        by None rest = rest
        by (Some p) rest = step p (not (contains p (each_row gone_by c))) _ rest

-- what is so of each pod of the record by its number is so of the one with the number p
pub by_number : (f : ℕ → Bool) (g : Pod → Bool) (p : ℕ) (all : List Pod) → All (λ (q : Pod). f q.number ≡ g q) all → contains p (pod_numbers all) ≡ true → f p ≡ is_pod_where g (pod_numbered p all)
by_number f g p [] h here = absurd (cc)
by_number f g p (q ∷ all) h here = by (q.number == p) refl (by_number f g p all (All-tail (λ (q : Pod). f q.number ≡ g q) q all h))
  where
    by : (m : Bool) → (q.number == p) ≡ m → (contains p (pod_numbers all) ≡ true → f p ≡ is_pod_where g (pod_numbered p all)) → f p ≡ is_pod_where g (cond m (Some q) (pod_numbered p all))
    by true e rest = let same : q.number ≡ p = eqb-true q.number p e in rw (← same) (All-head (λ (q : Pod). f q.number ≡ g q) q all h)
    by false e rest = rest (rw e at here)
