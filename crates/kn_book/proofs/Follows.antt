-- The book of a trace that events made has its live pods, and is sound.
use Rattle.std.proofs.Common.{◌≡◌, ℕ, ◌<◌, Bool, true, false, not, cond, List, [], ◌∷◌, ◌++◌, refl, sym, ap, subst, ◌∙◌, arith, append-nil, append_assoc}
use Rattle.std.specs.Prelude.{Option, None, Some, ◌==◌}
use Rattle.std.specs.List.{filter}
use Rattle.std.proofs.lemmas.Bool.{false_from_ne_true}
use Rattle.kn_event.specs.declared.entry.Entry.{Entry}
use Rattle.kn_event.specs.declared.entry.Row.{Row}
use Rattle.kn_event.specs.declared.entry.Row.TheVariants as row
use Rattle.kn_event.specs.declared.revision.Spec.{Spec}
use Rattle.kn_event.specs.Lists.{contains}
use Rattle.kn_trace.specs.Rows.{created_by}
use Rattle.kn_trace.specs.Trace.{Trace, created, live_pods}
use Rattle.kn_record.specs.declared.admission.Pod.{Pod}
use Rattle.kn_record.specs.declared.admission.Readiness.{Readiness}
use Rattle.kn_record.specs.Admission.{Admission, admission, drained, pods_after, readied, stepped, with_limit, with_readiness}
use Rattle.kn_record.specs.Facts.{Facts}
use Rattle.kn_record.specs.Made.{Holds, IsMade, IsProper}
use Rattle.kn_record.specs.Views.{pod_numbers}
use Rattle.kn_book.specs.Book.{Book, book_of, given_where, least_free, noted, noted_all, pods_in, shared_out, with_pod, without_pod}
use Rattle.kn_book.proofs.Holdings.{pods-given, pods-with_pod, pods-without_pod}
use Rattle.kn_book.proofs.Sound.{IsSound, sound_noted}

-- ---- the pods, by one more row

abbrev pub pods_by : Row → List ℕ → List ℕ
pods_by (row.Create p limit) ps = ps ++ p ∷ []
pods_by (row.Remove p) ps = filter (λ q. not (p == q)) ps
pods_by (row.LostPod p) ps = filter (λ q. not (p == q)) ps
pods_by _ ps = ps

pods-shared : (n : ℕ) (b : Book) → pods_in (shared_out n b) ≡ pods_in b
unfolding shared_out
pods-shared n b = by (least_free n b)
  where
    by : (o : Option ℕ) → pods_in (given_where o b) ≡ pods_in b
    by None = refl
    by (Some a) = pods-given a b

-- of the book
pods-noted : (n : ℕ) (x : Row) (b : Book) → pods_in (noted n x b) ≡ pods_by x (pods_in b)
unfolding noted
pods-noted n (row.Create p limit) b = pods-shared n (with_pod p b) ∙ pods-with_pod p b
pods-noted n (row.Remove p) b = pods-shared n (without_pod p b) ∙ pods-without_pod p b
pods-noted n (row.LostPod p) b = pods-shared n (without_pod p b) ∙ pods-without_pod p b
pods-noted n _ b = refl

numbers-limited : (p n : ℕ) (all : List Pod) → pod_numbers (with_limit p n all) ≡ pod_numbers all
numbers-limited p n [] = refl
numbers-limited p n (q ∷ all) = by (p == q.number) (numbers-limited p n all)
  where
    by : (t : Bool) → pod_numbers (with_limit p n all) ≡ pod_numbers all → (cond t (record q { limit = n }) q).number ∷ pod_numbers (with_limit p n all) ≡ q.number ∷ pod_numbers all
    by true rest = ap (λ (l : List ℕ). q.number ∷ l) rest
    by false rest = ap (λ (l : List ℕ). q.number ∷ l) rest

numbers-marked : (p : ℕ) (f : Readiness → Readiness) (all : List Pod) → pod_numbers (with_readiness p f all) ≡ pod_numbers all
numbers-marked p f [] = refl
numbers-marked p f (q ∷ all) = by (p == q.number) (numbers-marked p f all)
  where
    by : (t : Bool) → pod_numbers (with_readiness p f all) ≡ pod_numbers all → (cond t (record q { readiness = f q.readiness }) q).number ∷ pod_numbers (with_readiness p f all) ≡ q.number ∷ pod_numbers all
    by true rest = ap (λ (l : List ℕ). q.number ∷ l) rest
    by false rest = ap (λ (l : List ℕ). q.number ∷ l) rest

numbers-more : (all : List Pod) (q : Pod) → pod_numbers (all ++ q ∷ []) ≡ pod_numbers all ++ q.number ∷ []
numbers-more [] q = refl
numbers-more (x ∷ all) q = ap (λ (l : List ℕ). x.number ∷ l) (numbers-more all q)

numbers-fewer : (p : ℕ) (all : List Pod) → pod_numbers (filter (λ (q : Pod). not (p == q.number)) all) ≡ filter (λ q. not (p == q)) (pod_numbers all)
numbers-fewer p [] = refl
numbers-fewer p (x ∷ all) = by (not (p == x.number)) (numbers-fewer p all)
  where
    by : (t : Bool) → pod_numbers (filter (λ (q : Pod). not (p == q.number)) all) ≡ filter (λ q. not (p == q)) (pod_numbers all)
        → pod_numbers (cond t (x ∷ filter (λ (q : Pod). not (p == q.number)) all) (filter (λ (q : Pod). not (p == q.number)) all))
        ≡ cond t (x.number ∷ filter (λ q. not (p == q)) (pod_numbers all)) (filter (λ q. not (p == q)) (pod_numbers all))
    by true rest = ap (λ (l : List ℕ). x.number ∷ l) rest
    by false rest = rest

-- of the record
numbers-after : (x : Row) (all : List Pod) → pod_numbers (pods_after x all) ≡ pods_by x (pod_numbers all)
numbers-after (row.Create p n) all = numbers-more all _
numbers-after (row.Limit p n) all = numbers-limited p n all
numbers-after (row.Ready p) all = numbers-marked p readied all
numbers-after (row.Drain p) all = numbers-marked p drained all
numbers-after (row.Remove p) all = numbers-fewer p all
numbers-after (row.LostPod p) all = numbers-fewer p all
numbers-after _ all = refl

numbers-stepped : (t : ℕ) (x : Row) (a : Admission) → pod_numbers (stepped t x a).pods ≡ pods_by x (pod_numbers a.pods)
unfolding stepped
numbers-stepped t x a = numbers-after x a.pods

-- ---- the book

pub record IsBook (n : ℕ) (b : Book) (c : Trace) : Type 0 where
  pub pods : pods_in b ≡ live_pods c
  pub sound : IsSound n b

abbrev pub Views : Type 0
Views = (s : Spec) (c : Trace) → IsMade s c → live_pods c ≡ pod_numbers (admission c).pods

nobody : (n : ℕ) → IsBook n [] []
unfolding live_pods
nobody n = record { pods = refl; sound = record { pods = tt; distinct = tt; below = λ a h. absurd (cc); full = λ w. absurd (cc); order = tt } }

module _ (facts : Facts) (views : Views) where
  open facts use {members.{created_comes, live_pod_created}, proper.{admission_made, created_next, made_kept, made_more}}

  -- of the trace
  pub live_pods-push : (s : Spec) (c : Trace) (e : Entry) → IsMade s c → IsProper s c e.row → live_pods (c ++ e ∷ []) ≡ pods_by e.row (live_pods c)
  live_pods-push s c e made h =
      views s (c ++ e ∷ []) (made_more s c (e ∷ []) made (h, tt))
      ∙ ap (λ (a : Admission). pod_numbers a.pods) (admission_made s c e.time e.row made h)
      ∙ numbers-stepped e.time e.row (admission c)
      ∙ ap (λ (l : List ℕ). pods_by e.row l) (sym (views s c made))

  -- a pod that is created was not there
  pub fresh : (s : Spec) (c : Trace) (x : Row) (p : ℕ) → IsMade s c → IsProper s c x → created_by x ≡ Some p → contains p (live_pods c) ≡ false
  fresh s c x p made h e =
      false_from_ne_true (contains p (live_pods c)) (λ k.
      let new : p ≡ created c = created_next s c x p h e in
      let less : p < created c = created_comes c p (made_kept s c made).pods (live_pod_created c p k) in
      absurd (omega arith))

  pub book_more : (s : Spec) (n : ℕ) (b : Book) (c : Trace) (e : Entry) → IsMade s c → IsProper s c e.row → IsBook n b c → IsBook n (noted n e.row b) (c ++ e ∷ [])
  book_more s n b c e made h k = record {
    pods = pods-noted n e.row b ∙ ap (λ (l : List ℕ). pods_by e.row l) k.pods ∙ sym (live_pods-push s c e made h);
    sound = sound_noted facts n e.row b k.sound (λ p is. rw (k.pods) (fresh s c e.row p made h is));
  }

  -- after further rows
  pub book_on : (s : Spec) (n : ℕ) (b : Book) (c es : Trace) → IsMade s c → Holds (IsProper s) c es → IsBook n b c → IsBook n (noted_all n es b) (c ++ es)
  book_on s n b c [] made h k = rw (append-nil c) k
  book_on s n b c (e ∷ es) made h k =
      subst (λ (d : Trace). IsBook n (noted_all n es (noted n e.row b)) d) (append_assoc c (e ∷ []) es)
      (book_on s n (noted n e.row b) (c ++ e ∷ []) es (made_more s c (e ∷ []) made (h.0, tt)) h.1 (book_more s n b c e made h.0 k))

  pub is_book : (s : Spec) (n : ℕ) (c : Trace) → IsMade s c → IsBook n (book_of n c) c
  unfolding book_of
  is_book s n c made = book_on s n [] [] c (record { rows = tt }) made.rows (nobody n)
