-- What one more entry changes of the live pods.
use Rattle.std.proofs.Common.{◌≡◌, ℕ, Bool, true, false, not, cond, ◌&&◌, ◌||◌, List, [], ◌∷◌, ◌++◌, refl, ap, ◌∙◌, append-nil, map}
use Rattle.std.specs.Prelude.{Option, None, Some, ◌==◌}
use Rattle.std.specs.Bool.{then_some}
use Rattle.std.specs.List.{filter, filter_map, cons_option, list_any}
use Rattle.std.proofs.lemmas.List.Elements.{filter_map-append}
use Rattle.std.proofs.lemmas.Bool.{eq-eqb}
use Rattle.std.proofs.Math.Bool.{or-false}
use Rattle.kn_event.specs.declared.entry.Entry.{Entry}
use Rattle.kn_event.specs.declared.entry.Row.TheVariants as row
use Rattle.kn_event.specs.Lists.{contains}
use Rattle.kn_record.specs.declared.admission.Readiness.{Readiness}
use Rattle.kn_record.specs.declared.admission.Readiness.TheVariants as readiness
use Rattle.kn_record.specs.declared.admission.Pod.{Pod}
use Rattle.kn_trace.specs.Rows.{limit_by, created_by, readied_by, drained_by, gone_by}
use Rattle.kn_trace.specs.Trace.{Trace, entry, each_row, limit_of, live_pods, is_live_pod, ready_pods, is_ready}
use Rattle.kn_record.specs.Admission.{readiness_by, readiness_of, pod_record, pods, limited, with_limit, marked, with_readiness, readied, drained, is_ready_now, pods_in}
use Rattle.kn_record.specs.Rows.{says}
use Rattle.kn_record.proofs.Flags.{contains-push, limit_after, limit_of-push}
use Rattle.kn_record.proofs.Requests.{changed, filter_map-changed, filter_map-some, filter_map-filter, filter_map-map}

abbrev after_pod : ℕ → Bool → ℕ → Readiness → Option Pod
after_pod p gone n x = then_some (not gone) (record { number = p; limit = n; readiness = x })

abbrev removed : Trace → ℕ → Bool
removed c p = contains p (each_row gone_by c)

abbrev drains : Trace → ℕ → Bool
drains c p = contains p (each_row drained_by c)

abbrev readies : Trace → ℕ → Bool
readies c p = contains p (each_row readied_by c)

pod_record-push : (c : Trace) (e : Entry) (p : ℕ) → pod_record (c ++ e ∷ []) (Some p)
    ≡ after_pod p (removed c p || says (gone_by e.row) p) (limit_after (limit_by p e.row) (limit_of c p)) (readiness_by (drains c p || says (drained_by e.row) p) (readies c p || says (readied_by e.row) p))
unfolding pod_record readiness_of
pod_record-push c e p = rw (contains-push gone_by c e p, limit_of-push c e p, contains-push drained_by c e p, contains-push readied_by c e p) refl

old_pods : (c : Trace) (e : Entry) (g : Pod → Option Pod)
    → ((p : ℕ) → after_pod p (removed c p || says (gone_by e.row) p) (limit_after (limit_by p e.row) (limit_of c p)) (readiness_by (drains c p || says (drained_by e.row) p) (readies c p || says (readied_by e.row) p))
    ≡ changed g (after_pod p (removed c p) (limit_of c p) (readiness_by (drains c p) (readies c p))))
    → pods (c ++ e ∷ []) ≡ filter_map g (pods c) ++ cons_option (pod_record (c ++ e ∷ []) (created_by e.row)) []
unfolding pods pod_record readiness_of
old_pods c e g same =
    rw (filter_map-append (λ (x : Entry). pod_record (c ++ e ∷ []) (created_by x.row)) c (e ∷ []))
    (ap (λ (l : List Pod). l ++ cons_option (pod_record (c ++ e ∷ []) (created_by e.row)) [])
    (filter_map-changed (λ (x : Entry). pod_record c (created_by x.row)) (λ (x : Entry). pod_record (c ++ e ∷ []) (created_by x.row)) g (λ x. by (created_by x.row)) c))
  where
    by : (o : Option ℕ) → pod_record (c ++ e ∷ []) o ≡ changed g (pod_record c o)
    by None = refl
    by (Some p) = pod_record-push c e p ∙ same p

-- a row that says nothing of pods
pub pods-quiet : (c : Trace) (e : Entry) → created_by e.row ≡ None → gone_by e.row ≡ None → drained_by e.row ≡ None → readied_by e.row ≡ None → ((p : ℕ) → limit_by p e.row ≡ None) → pods (c ++ e ∷ []) ≡ pods c
unfolding pod_record
pods-quiet c e created removed' drained' readied' limit' =
    old_pods c e (λ q. Some q) (λ p. rw (removed', drained', readied', limit' p) (by p (removed c p) (limit_of c p) (drains c p) (readies c p)))
    ∙ rw created (append-nil (filter_map (λ (q : Pod). Some q) (pods c)) ∙ filter_map-some (pods c))
  where
    by : (p : ℕ) (g : Bool) (n : ℕ) (d x : Bool) → after_pod p (g || false) n (readiness_by (d || false) (x || false)) ≡ changed (λ q. Some q) (after_pod p g n (readiness_by d x))
    by p true n d x = refl
    by p false n d x = rw (or-false d, or-false x) refl

-- a pod gets a limit
pub pods-limit : (c : Trace) (t p n : ℕ) → pods (c ++ entry t (row.Limit p n) ∷ []) ≡ with_limit p n (pods c)
unfolding pod_record
pods-limit c t p n =
    old_pods c (entry t (row.Limit p n)) (λ q. Some (limited p n q)) (λ q. by q (removed c q) (limit_of c q) (drains c q) (readies c q) (p == q) refl)
    ∙ append-nil _ ∙ filter_map-map (limited p n) (pods c)
  where
    by : (q : ℕ) (g : Bool) (m : ℕ) (d x b : Bool) → (p == q) ≡ b → after_pod q (g || false) (limit_after (then_some (p == q) n) m) (readiness_by (d || false) (x || false))
        ≡ changed (λ y. Some (limited p n y)) (after_pod q g m (readiness_by d x))
    by q true m d x b e = refl
    by q false m d x true e = rw (e, or-false d, or-false x) refl
    by q false m d x false e = rw (e, or-false d, or-false x) refl

-- a pod is ready, unless it drains
pub pods-ready : (c : Trace) (t p : ℕ) → pods (c ++ entry t (row.Ready p) ∷ []) ≡ with_readiness p readied (pods c)
unfolding pod_record
pods-ready c t p =
    old_pods c (entry t (row.Ready p)) (λ q. Some (marked p readied q)) (λ q. by q (removed c q) (limit_of c q) (drains c q) (readies c q) (p == q) refl)
    ∙ append-nil _ ∙ filter_map-map (marked p readied) (pods c)
  where
    by : (q : ℕ) (g : Bool) (m : ℕ) (d x b : Bool) → (p == q) ≡ b → after_pod q (g || false) m (readiness_by (d || false) (x || (p == q)))
        ≡ changed (λ y. Some (marked p readied y)) (after_pod q g m (readiness_by d x))
    by q true m d x b e = refl
    by q false m true x true e = rw (e) refl
    by q false m false true true e = rw (e) refl
    by q false m false false true e = rw (e) refl
    by q false m d x false e = rw (e, or-false d, or-false x) refl

-- a pod drains
pub pods-drain : (c : Trace) (t p : ℕ) → pods (c ++ entry t (row.Drain p) ∷ []) ≡ with_readiness p drained (pods c)
unfolding pod_record
pods-drain c t p =
    old_pods c (entry t (row.Drain p)) (λ q. Some (marked p drained q)) (λ q. by q (removed c q) (limit_of c q) (drains c q) (readies c q) (p == q) refl)
    ∙ append-nil _ ∙ filter_map-map (marked p drained) (pods c)
  where
    by : (q : ℕ) (g : Bool) (m : ℕ) (d x b : Bool) → (p == q) ≡ b → after_pod q (g || false) m (readiness_by (d || (p == q)) (x || false))
        ≡ changed (λ y. Some (marked p drained y)) (after_pod q g m (readiness_by d x))
    by q true m d x b e = refl
    by q false m true x true e = rw (e) refl
    by q false m false x true e = rw (e) refl
    by q false m d x false e = rw (e, or-false d, or-false x) refl

-- a pod goes: it is removed, or lost
pub pods-gone : (c : Trace) (e : Entry) (p : ℕ) → created_by e.row ≡ None → gone_by e.row ≡ Some p → drained_by e.row ≡ None → readied_by e.row ≡ None → ((q : ℕ) → limit_by q e.row ≡ None)
    → pods (c ++ e ∷ []) ≡ filter (λ (q : Pod). not (p == q.number)) (pods c)
unfolding pod_record
pods-gone c e p created gone drained' readied' limit' =
    old_pods c e (λ q. then_some (not (p == q.number)) q) (λ q. rw (gone, drained', readied', limit' q) (by q (removed c q) (limit_of c q) (drains c q) (readies c q) (p == q) refl))
    ∙ rw created (append-nil (filter_map (λ (q : Pod). then_some (not (p == q.number)) q) (pods c)) ∙ filter_map-filter (λ (q : Pod). not (p == q.number)) (pods c))
  where
    by : (q : ℕ) (g : Bool) (m : ℕ) (d x b : Bool) → (p == q) ≡ b → after_pod q (g || (p == q)) m (readiness_by (d || false) (x || false))
        ≡ changed (λ y. then_some (not (p == y.number)) y) (after_pod q g m (readiness_by d x))
    by q true m d x b e = refl
    by q false m d x b e = rw (or-false d, or-false x) refl

-- a pod that no row has named yet
pub record IsNewPod (c : Trace) (p : ℕ) : Type 0 where
  pub removed : contains p (each_row gone_by c) ≡ false
  pub drained : contains p (each_row drained_by c) ≡ false
  pub readied : contains p (each_row readied_by c) ≡ false
  pub absent : list_any (λ (q : Pod). p == q.number) (pods c) ≡ false

limited-none : (p n : ℕ) (all : List Pod) → list_any (λ (q : Pod). p == q.number) all ≡ false → map (limited p n) all ≡ all
limited-none p n [] h = refl
limited-none p n (q ∷ all) h = by (p == q.number) refl (limited-none p n all) h
  where
    by : (b : Bool) → (p == q.number) ≡ b → (list_any (λ (q : Pod). p == q.number) all ≡ false → map (limited p n) all ≡ all) → (b || list_any (λ (q : Pod). p == q.number) all) ≡ false
        → limited p n q ∷ map (limited p n) all ≡ q ∷ all
    by true e rest h = absurd (cc)
    by false e rest h = rw e (ap (λ (l : List Pod). q ∷ l) (rest h))

-- a new pod starts with its limit
pub pods-create : (c : Trace) (t p n : ℕ) → IsNewPod c p → pods (c ++ entry t (row.Create p n) ∷ []) ≡ pods c ++ record { number = p; limit = n; readiness = readiness.Starting } ∷ []
pods-create c t p n new =
    old_pods c (entry t (row.Create p n)) (λ q. Some (limited p n q)) (λ q. by q (removed c q) (limit_of c q) (drains c q) (readies c q) (p == q) refl)
    ∙ rw (filter_map-map (limited p n) (pods c), limited-none p n (pods c) new.absent, pod_record-push c (entry t (row.Create p n)) p, new.removed, new.drained, new.readied, eq-eqb p p refl) refl
  where
    by : (q : ℕ) (g : Bool) (m : ℕ) (d x b : Bool) → (p == q) ≡ b → after_pod q (g || false) (limit_after (then_some (p == q) n) m) (readiness_by (d || false) (x || false))
        ≡ changed (λ y. Some (limited p n y)) (after_pod q g m (readiness_by d x))
    by q true m d x b e = refl
    by q false m d x true e = rw (e, or-false d, or-false x) refl
    by q false m d x false e = rw (e, or-false d, or-false x) refl

-- ---- the views of pods

-- the Ready pods are those of the record
pub ready-pods : (c : Trace) → ready_pods c ≡ pods_in is_ready_now (pods c)
unfolding ready_pods is_ready is_live_pod pods pod_record readiness_of
ready-pods c = from c
  where
    from : (d : Trace) → filter (is_ready c) (each_row created_by d) ≡ pods_in is_ready_now (filter_map (λ (e : Entry). pod_record c (created_by e.row)) d)
    from [] = refl
    from (e ∷ d) = by (created_by e.row) (from d)
      where
        step : (p : ℕ) (x d g : Bool) (us : List ℕ) (vs : List Pod) → us ≡ pods_in is_ready_now vs → cond (x && not d && not g) (p ∷ us) us ≡ pods_in is_ready_now (cons_option (after_pod p g (limit_of c p) (readiness_by d x)) vs)
        step p true true true us vs h = h
        step p true true false us vs h = h
        step p true false true us vs h = h
        step p true false false us vs h = ap (λ (l : List ℕ). p ∷ l) h
        step p false true true us vs h = h
        step p false true false us vs h = h
        step p false false true us vs h = h
        step p false false false us vs h = h

        by : (o : Option ℕ) → filter (is_ready c) (each_row created_by d) ≡ pods_in is_ready_now (filter_map (λ (e : Entry). pod_record c (created_by e.row)) d)
            → filter (is_ready c) (cons_option o (each_row created_by d)) ≡ pods_in is_ready_now (cons_option (pod_record c o) (filter_map (λ (e : Entry). pod_record c (created_by e.row)) d))
        by None rest = rest
        by (Some p) rest = step p (readies c p) (drains c p) (removed c p) _ _ rest

-- so are the live ones
pub live-pods : (c : Trace) → live_pods c ≡ map (λ (q : Pod). q.number) (pods c)
unfolding live_pods is_live_pod pods pod_record
live-pods c = from c
  where
    from : (d : Trace) → filter (is_live_pod c) (each_row created_by d) ≡ map (λ (q : Pod). q.number) (filter_map (λ (e : Entry). pod_record c (created_by e.row)) d)
    from [] = refl
    from (e ∷ d) = by (created_by e.row) (from d)
      where
        step : (p : ℕ) (g : Bool) (n : ℕ) (x : Readiness) (us : List ℕ) (vs : List Pod) → us ≡ map (λ (q : Pod). q.number) vs → cond (not g) (p ∷ us) us ≡ map (λ (q : Pod). q.number) (cons_option (after_pod p g n x) vs)
        step p true n x us vs h = h
        step p false n x us vs h = ap (λ (l : List ℕ). p ∷ l) h

        by : (o : Option ℕ) → filter (is_live_pod c) (each_row created_by d) ≡ map (λ (q : Pod). q.number) (filter_map (λ (e : Entry). pod_record c (created_by e.row)) d)
            → filter (is_live_pod c) (cons_option o (each_row created_by d)) ≡ map (λ (q : Pod). q.number) (cons_option (pod_record c o) (filter_map (λ (e : Entry). pod_record c (created_by e.row)) d))
        by None rest = rest
        by (Some p) rest = step p (removed c p) (limit_of c p) (readiness_of c p) _ _ rest
