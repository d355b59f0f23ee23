-- The numbers of requests and pods ascend in a trace that was made, and so on its record.
use Rattle.std.proofs.Common.{◌≡◌, ℕ, ◌<◌, Bool, true, false, not, List, [], ◌∷◌, ◌++◌, get_or, map, refl, ◌∙◌, arith, append-nil, append_assoc}
use Rattle.std.specs.Prelude.{Option, None, Some, ◌==◌}
use Rattle.std.specs.List.{All, AllPairs, cons_option}
use Rattle.std.proofs.Math.ListN.{get_or-map}
use Rattle.std.proofs.lemmas.List.{length-map}
use Rattle.std.proofs.lemmas.List.Elements.{All-cons, All-nil}
use Rattle.std.proofs.lemmas.List.Kept.{AllPairs-filter}
use Rattle.std.proofs.lemmas.List.Quantifiers.{all_pairs_push}
use Rattle.std.proofs.lemmas.Bool.{eq-eqb, or_right}
use Rattle.kn_event.specs.declared.entry.Entry.{Entry}
use Rattle.kn_event.specs.declared.entry.Row.{Row}
use Rattle.kn_event.specs.declared.entry.Row.TheVariants as row
use Rattle.kn_event.specs.declared.revision.Spec.{Spec}
use Rattle.kn_event.specs.Lists.{contains}
use Rattle.kn_trace.specs.Rows.{created_by, taken_by}
use Rattle.kn_trace.specs.Trace.{Trace, entry, arrivals, at_pod, created, each_row, ended, is_live_pod, is_starting, live, live_pods, starting_pods}
use Rattle.kn_record.specs.declared.admission.Place.{Place}
use Rattle.kn_record.specs.declared.admission.Place.TheVariants as place
use Rattle.kn_record.specs.declared.admission.Request.{Request}
use Rattle.kn_record.specs.declared.admission.Pod.{Pod}
use Rattle.kn_record.specs.Admission.{Admission, admission, is_at, live_requests, placed_in, pods}
use Rattle.kn_record.specs.Made.{Holds, IsMade, IsProper, IsRecordOf}
use Rattle.kn_record.specs.Order.{IsAmong, IsInOrder, Ascend}
use Rattle.kn_record.specs.Views.{pod_numbers}
use Rattle.kn_record.specs.Kept.{Kept}
use Rattle.kn_record.proofs.Flags.{each_row-push}
use Rattle.kn_record.proofs.Members.{contains-at}
use Rattle.kn_record.proofs.Numbers.{live_member, taken_comes}
use Rattle.kn_record.proofs.PodNumbers.{created_comes, live_pod_created}
use Rattle.kn_record.proofs.Pods.{live-pods}
use Rattle.kn_record.proofs.Views.{live-requests, placed-requests}
use Rattle.kn_record.proofs.Kept.{Kept-push, kept-nil, made_kept}
use Rattle.kn_record.proofs.Running.{made_more}
use Rattle.kn_record.proofs.Standing.{made_by_place}

-- ---- lists of numbers

-- a number above all of them goes to the end
ascend-option : (xs : List ℕ) (o : Option ℕ) → Ascend xs → ((r : ℕ) → o ≡ Some r → (q : ℕ) → contains q xs ≡ true → q < r) → Ascend (xs ++ cons_option o [])
ascend-option xs None rise above = rw (append-nil xs) rise
ascend-option xs (Some r) rise above = all_pairs_push (λ x y. x < y) xs r rise (λ k d h. above r refl (get_or xs k d) (contains-at xs k d h))

-- ---- of a trace

record Ascending (c : Trace) : Type 0 where
  taken : Ascend (each_row taken_by c)
  created : Ascend (each_row created_by c)

-- who is taken in has the next number
pub taken_next : (s : Spec) (c : Trace) (x : Row) (r : ℕ) → IsProper s c x → taken_by x ≡ Some r → r ≡ arrivals c
taken_next s c (row.Admit q tag) r h e = let number = h.0.number in cc
taken_next s c (row.Direct q p) r h e = let number = h.0.number in cc
taken_next s c _ r h e = absurd (cc)

-- and so has a new pod
pub created_next : (s : Spec) (c : Trace) (x : Row) (p : ℕ) → IsProper s c x → created_by x ≡ Some p → p ≡ created c
created_next s c (row.Create q n) p h e = let number = h.0 in cc
created_next s c _ p h e = absurd (cc)

ascending-push : (s : Spec) (c : Trace) (e : Entry) → Kept s c → IsProper s c e.row → Ascending c → Ascending (c ++ e ∷ [])
ascending-push s c e kept h rise = record {
  taken = rw (each_row-push taken_by c e) (ascend-option (each_row taken_by c) (taken_by e.row) rise.taken
      (λ r is q there. let next = taken_next s c e.row r h is in let less = taken_comes c q kept.requests there in omega arith));
  created = rw (each_row-push created_by c e) (ascend-option (each_row created_by c) (created_by e.row) rise.created
      (λ p is q there. let next = created_next s c e.row p h is in let less = created_comes c q kept.pods there in omega arith));
}

ascending-all : (s : Spec) (b c : Trace) → Kept s b → Ascending b → Holds (IsProper s) b c → Ascending (b ++ c)
ascending-all s b [] kept rise h = rw (append-nil b) rise
ascending-all s b (e ∷ c) kept rise h =
    rw (append_assoc b (e ∷ []) c) at (ascending-all s (b ++ e ∷ []) c (Kept-push s b e kept h.0) (ascending-push s b e kept h.0 rise) h.1)

pub none_in_pairs : {X : Type 0} (R : X → X → Type 0) → AllPairs R []
none_in_pairs R i j d less within = absurd (omega arith)

made_ascending : (s : Spec) (c : Trace) → IsMade s c → Ascending c
made_ascending s c made = ascending-all s [] c (kept-nil s) (record { taken = none_in_pairs (λ x y. x < y); created = none_in_pairs (λ x y. x < y) }) made.rows

-- the live requests, the live pods and the starting ones are listed by ascending numbers
pub live_ascend : (s : Spec) (c : Trace) → IsMade s c → Ascend (live c)
unfolding live
live_ascend s c made = AllPairs-filter (λ x y. x < y) (λ r. not (ended c r)) (each_row taken_by c) (made_ascending s c made).taken

pub pods_ascend : (s : Spec) (c : Trace) → IsMade s c → Ascend (live_pods c)
unfolding live_pods
pods_ascend s c made = AllPairs-filter (λ x y. x < y) (is_live_pod c) (each_row created_by c) (made_ascending s c made).created

pub starting_ascend : (s : Spec) (c : Trace) → IsMade s c → Ascend (starting_pods c)
unfolding starting_pods
starting_ascend s c made = AllPairs-filter (λ x y. x < y) (is_starting c) (each_row created_by c) (made_ascending s c made).created

-- ---- of the record

-- what is so of the numbers is so of those that have them
pairs-of : {X : Type 0} (f : X → ℕ) (xs : List X) → Ascend (map f xs) → AllPairs (λ (x y : X). f x < f y) xs
pairs-of f xs rise i j d less within =
    rw (get_or-map f xs i d, get_or-map f xs j d) at (rise i j (f d) less (rw (length-map xs f) within))

below-of : {X : Type 0} (f : X → ℕ) (n : ℕ) (xs : List X) → ((r : ℕ) → contains r (map f xs) ≡ true → r < n) → All (λ (x : X). f x < n) xs
below-of {X} f n [] below = All-nil (λ (x : X). f x < n)
below-of {X} f n (x ∷ xs) below =
    All-cons (λ (x : X). f x < n) x xs (below (f x) (rw (eq-eqb (f x) (f x) refl) refl)) (below-of f n xs (λ r h. below r (or_right (f x == r) (contains r (map f xs)) h)))

-- each live request is at one of these pods, where each pod that a request is at is one
homes-of : (ps : List ℕ) (live : List Request) → ((p r : ℕ) → contains r (placed_in (is_at p) live) ≡ true → contains p ps ≡ true) → All (λ (x : Request). IsAmong ps x.place) live
homes-of ps [] homes = All-nil (λ (x : Request). IsAmong ps x.place)
homes-of ps (q ∷ live) homes = All-cons (λ (x : Request). IsAmong ps x.place) q live (first q.place refl) (homes-of ps live (λ p r h. homes p r (more p r (is_at p q.place) refl h)))
  where
    there : (p : ℕ) → is_at p q.place ≡ true → contains p ps ≡ true
    there p h = homes p q.number (rw h (rw (eq-eqb q.number q.number refl) refl))

    first : (x : Place) → q.place ≡ x → IsAmong ps x
    first place.Held e = tt
    first (place.Queued p) e = there p (rw (e, eq-eqb p p refl) refl)
    first (place.Running p x) e = there p (rw (e, eq-eqb p p refl) refl)

    more : (p r : ℕ) (b : Bool) → is_at p q.place ≡ b → contains r (placed_in (is_at p) live) ≡ true → contains r (placed_in (is_at p) (q ∷ live)) ≡ true
    more p r true e h = rw e (or_right (q.number == r) _ h)
    more p r false e h = rw e h

-- the record of a trace that was made is in order
pub in_order : (s : Spec) (c : Trace) → IsMade s c → IsInOrder (admission c)
unfolding admission
in_order s c made = record {
  live = pairs-of (λ (q : Request). q.number) (live_requests c) (rw (live-requests c) at (live_ascend s c made));
  arrived = below-of (λ (q : Request). q.number) (arrivals c) (live_requests c) (λ r h. taken_comes c r kept.requests (live_member c r (rw (live-requests c) h)).0);
  pods = pairs-of (λ (q : Pod). q.number) (pods c) (rw (live-pods c) at (pods_ascend s c made));
  created = below-of (λ (q : Pod). q.number) (created c) (pods c) (λ p h. created_comes c p kept.pods (live_pod_created c p (rw (live-pods c) h)));
  homes = homes-of (pod_numbers (pods c)) (live_requests c) (λ p r h. rw (live-pods c) at (kept.homes p r (there p r h)));
}
  where
    kept : Kept s c
    kept = made_kept s c made

    there : (p r : ℕ) → contains r (placed_in (is_at p) (live_requests c)) ≡ true → contains r (at_pod c p) ≡ true
    there p r h = (made_by_place s c made).is_at_pod p r ∙ rw (placed-requests (is_at p) c) h

-- a proper row goes on a trace that was made
pub made_row : (s : Spec) (c : Trace) (t : ℕ) (x : Row) → IsMade s c → IsProper s c x → IsMade s (c ++ entry t x ∷ [])
made_row s c t x made h = made_more s c (entry t x ∷ []) made (h, tt)

-- so is each record that stands for one
pub stands_in_order : (s : Spec) (a : Admission) (c : Trace) → IsMade s c → IsRecordOf a c → IsInOrder a
stands_in_order s a c made h = rw h.kept (in_order s c made)
