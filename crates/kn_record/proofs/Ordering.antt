-- The order of the record, row by row; and its times, which ascend where those of the trace do.
use Rattle.std.proofs.Common.{◌≡◌, ℕ, ◌+◌, ◌<◌, ◌≤◌, Bool, true, false, not, cond, ◌||◌, List, [], ◌∷◌, ◌++◌, length, map, refl, sym, ap, ◌∙◌, arith}
use Rattle.std.specs.Prelude.{Option, None, Some, ◌==◌, if◌then◌else◌}
use Rattle.std.specs.Bool.{then_some}
use Rattle.std.specs.List.{All, AllPairs, cons_option, filter, filter_map}
use Rattle.std.proofs.lemmas.Bool.{eqb-true, eq-eqb, false_from_ne_true}
use Rattle.std.proofs.lemmas.List.{get_or-map, length-map}
use Rattle.std.proofs.lemmas.List.Elements.{All-cons, All-filter, All-map, All-nil, All-push, All-weaker}
use Rattle.std.proofs.lemmas.List.Kept.{AllPairs-cons, AllPairs-filter}
use Rattle.std.proofs.lemmas.List.Quantifiers.{all_pairs_push}
use Rattle.kn_event.specs.declared.entry.Entry.{Entry}
use Rattle.kn_event.specs.declared.entry.Row.{Row}
use Rattle.kn_event.specs.declared.entry.Row.TheVariants as row
use Rattle.kn_event.specs.Lists.{contains}
use Rattle.kn_trace.specs.Rows.{arrived_by, created_by, taken_by}
use Rattle.kn_trace.specs.Trace.{Trace, ended}
use Rattle.kn_record.specs.declared.admission.Place.{Place}
use Rattle.kn_record.specs.declared.admission.Place.TheVariants as place
use Rattle.kn_record.specs.declared.admission.Request.{Request}
use Rattle.kn_record.specs.declared.admission.Readiness.{Readiness}
use Rattle.kn_record.specs.declared.admission.Pod.{Pod}
use Rattle.kn_record.specs.Admission.{Admission, admission, begun, begun_at, drained, is_at, limited, live_after, live_requests, marked, more_by, moved_to, nothing_yet, place_of, placed_in, pods_after, readied, request_of, stepped}
use Rattle.kn_record.specs.Made.{IsRecordOf}
use Rattle.kn_record.specs.Order.{AreTimed, AreTimesInOrder, FitsRecord, IsAmong, IsInOrder}
use Rattle.kn_record.specs.Views.{pod_numbers}
use Rattle.kn_record.proofs.Order.{none_in_pairs}

-- ---- of lists

pairs-map : {X : Type 0} (R : X → X → Type 0) (f : X → X) → ((x y : X) → R x y → R (f x) (f y)) → (xs : List X) → AllPairs R xs → AllPairs R (map f xs)
pairs-map {X} R f keeps xs h i j d less within =
    let k : j < length xs = rw (length-map xs f) at within in
    let l : i < length xs = omega arith in
    rw (get_or-map f xs i d d l, get_or-map f xs j d d k) (keeps _ _ (h i j d less k))

all-map : {X : Type 0} (P : X → Type 0) (f : X → X) → ((x : X) → P x → P (f x)) → (xs : List X) → All P xs → All P (map f xs)
all-map {X} P f keeps xs h = All-map P f xs (All-weaker P (λ y. P (f y)) keeps xs h)

more : (o : Option ℕ) (n : ℕ) → n ≤ more_by o n
more None n = omega arith
more (Some x) n = omega arith

-- ---- of requests, whatever their places

moved_place : (r : ℕ) (w : Place) (q : Request) → moved_to r w q ≡ record q { place = if r == q.number then w else q.place }
moved_place r w q = by (r == q.number)
  where
    by : (b : Bool) → cond b (record q { place = w }) q ≡ record q { place = cond b w q.place }
    by true = refl
    by false = refl

begun_place : (r : ℕ) (q : Request) → begun_at r q ≡ record q { place = if r == q.number then begun q.place else q.place }
begun_place r q = by (r == q.number)
  where
    by : (b : Bool) → cond b (record q { place = begun q.place }) q ≡ record q { place = cond b (begun q.place) q.place }
    by true = refl
    by false = refl

-- the request that comes with the row
abbrev comes : ℕ → Row → Option Request
comes t (row.Admit r tag) = Some (record { number = r; time = t; place = place.Held })
comes t (row.Direct r p) = Some (record { number = r; time = t; place = place.Queued p })
comes t _ = None

pairs_after : (R : Request → Request → Type 0) → ((x y : Request) (v w : Place) → R x y → R (record x { place = v }) (record y { place = w })) → (t : ℕ) (x : Row) (live : List Request)
    → AllPairs R live → ((q : Request) → comes t x ≡ Some q → All (λ z. R z q) live) → AllPairs R (live_after t x live)
pairs_after R free t (row.Admit r tag) live h new = all_pairs_push R live _ h (new _ refl)
pairs_after R free t (row.Direct r p) live h new = all_pairs_push R live _ h (new _ refl)
pairs_after R free t (row.Assign r p) live h new =
    pairs-map R (moved_to r (place.Running p true)) (λ x y k. rw (moved_place r (place.Running p true) x, moved_place r (place.Running p true) y) (free x y _ _ k)) live h
pairs_after R free t (row.Run r) live h new = pairs-map R (begun_at r) (λ x y k. rw (begun_place r x, begun_place r y) (free x y _ _ k)) live h
pairs_after R free t (row.Finish r ok) live h new = AllPairs-filter R (λ q. not (r == q.number)) live h
pairs_after R free t (row.Expire r) live h new = AllPairs-filter R (λ q. not (r == q.number)) live h
pairs_after R free t (row.Cancel r) live h new = AllPairs-filter R (λ q. not (r == q.number)) live h
pairs_after R free t (row.LostRequest r) live h new = AllPairs-filter R (λ q. not (r == q.number)) live h
pairs_after R free t x live h new = h

all_after : (P : Request → Type 0) → ((x : Request) (w : Place) → P x → P (record x { place = w })) → (t : ℕ) (x : Row) (live : List Request)
    → All P live → ((q : Request) → comes t x ≡ Some q → P q) → All P (live_after t x live)
all_after P free t (row.Admit r tag) live h new = All-push P live _ h (new _ refl)
all_after P free t (row.Direct r p) live h new = All-push P live _ h (new _ refl)
all_after P free t (row.Assign r p) live h new = all-map P (moved_to r (place.Running p true)) (λ x k. rw (moved_place r (place.Running p true) x) (free x _ k)) live h
all_after P free t (row.Run r) live h new = all-map P (begun_at r) (λ x k. rw (begun_place r x) (free x _ k)) live h
all_after P free t (row.Finish r ok) live h new = All-filter (λ q. not (r == q.number)) P live h
all_after P free t (row.Expire r) live h new = All-filter (λ q. not (r == q.number)) P live h
all_after P free t (row.Cancel r) live h new = All-filter (λ q. not (r == q.number)) P live h
all_after P free t (row.LostRequest r) live h new = All-filter (λ q. not (r == q.number)) P live h
all_after P free t x live h new = h

-- ---- of pods

limited_number : (p n : ℕ) (q : Pod) → (limited p n q).number ≡ q.number
limited_number p n q = by (p == q.number)
  where
    by : (b : Bool) → (cond b (record q { limit = n }) q).number ≡ q.number
    by true = refl
    by false = refl

marked_number : (p : ℕ) (f : Readiness → Readiness) (q : Pod) → (marked p f q).number ≡ q.number
marked_number p f q = by (p == q.number)
  where
    by : (b : Bool) → (cond b (record q { readiness = f q.readiness }) q).number ≡ q.number
    by true = refl
    by false = refl

-- a change that leaves the numbers
record KeepsPodNumbers (f : Pod → Pod) : Type 0 where
  same : (q : Pod) → (f q).number ≡ q.number

same_numbers : (f : Pod → Pod) → KeepsPodNumbers f → (all : List Pod) → pod_numbers (map f all) ≡ pod_numbers all
same_numbers f k [] = refl
same_numbers f k (q ∷ all) = rw (k.same q) (ap (λ (l : List ℕ). q.number ∷ l) (same_numbers f k all))

abbrev AscendPods : List Pod → Type 0
AscendPods all = AllPairs (λ (x y : Pod). x.number < y.number) all

ascend-map : (f : Pod → Pod) → KeepsPodNumbers f → (all : List Pod) → AscendPods all → AscendPods (map f all)
ascend-map f k all h = pairs-map (λ (x y : Pod). x.number < y.number) f (λ x y less. rw (k.same x, k.same y) less) all h

below-map : (n : ℕ) (f : Pod → Pod) → KeepsPodNumbers f → (all : List Pod) → All (λ (x : Pod). x.number < n) all → All (λ (x : Pod). x.number < n) (map f all)
below-map n f k all h = all-map (λ (x : Pod). x.number < n) f (λ x less. rw (k.same x) less) all h

pods_ascend_after : (a : Admission) (x : Row) → IsInOrder a → FitsRecord a x → AscendPods (pods_after x a.pods)
pods_ascend_after a (row.Create p n) o f = all_pairs_push (λ (x y : Pod). x.number < y.number) a.pods _ o.pods (λ k d h. let less = o.created k d h in rw f less)
pods_ascend_after a (row.Limit p n) o f = ascend-map (limited p n) (record { same = limited_number p n }) a.pods o.pods
pods_ascend_after a (row.Ready p) o f = ascend-map (marked p readied) (record { same = marked_number p readied }) a.pods o.pods
pods_ascend_after a (row.Drain p) o f = ascend-map (marked p drained) (record { same = marked_number p drained }) a.pods o.pods
pods_ascend_after a (row.Remove p) o f = AllPairs-filter (λ (x y : Pod). x.number < y.number) (λ q. not (p == q.number)) a.pods o.pods
pods_ascend_after a (row.LostPod p) o f = AllPairs-filter (λ (x y : Pod). x.number < y.number) (λ q. not (p == q.number)) a.pods o.pods
pods_ascend_after a x o f = o.pods

pods_below_after : (a : Admission) (x : Row) → IsInOrder a → FitsRecord a x → All (λ (q : Pod). q.number < more_by (created_by x) a.created) (pods_after x a.pods)
pods_below_after a (row.Create p n) o f =
    All-push (λ (q : Pod). q.number < a.created + 1) a.pods _ (All-weaker (λ (q : Pod). q.number < a.created) (λ (q : Pod). q.number < a.created + 1) (λ q h. omega arith) a.pods o.created) (rw f (omega arith))
pods_below_after a (row.Limit p n) o f = below-map a.created (limited p n) (record { same = limited_number p n }) a.pods o.created
pods_below_after a (row.Ready p) o f = below-map a.created (marked p readied) (record { same = marked_number p readied }) a.pods o.created
pods_below_after a (row.Drain p) o f = below-map a.created (marked p drained) (record { same = marked_number p drained }) a.pods o.created
pods_below_after a (row.Remove p) o f = All-filter (λ q. not (p == q.number)) (λ (q : Pod). q.number < a.created) a.pods o.created
pods_below_after a (row.LostPod p) o f = All-filter (λ q. not (p == q.number)) (λ (q : Pod). q.number < a.created) a.pods o.created
pods_below_after a x o f = o.created

-- ---- each request at a pod that is there

-- so where each pod that the place is at stays
among_more : (ps qs : List ℕ) (w : Place) → ((p : ℕ) → is_at p w ≡ true → contains p ps ≡ true → contains p qs ≡ true) → IsAmong ps w → IsAmong qs w
among_more ps qs place.Held k h = tt
among_more ps qs (place.Queued p) k h = k p (eq-eqb p p refl) h
among_more ps qs (place.Running p x) k h = k p (eq-eqb p p refl) h

listed_push : (p : ℕ) (all : List Pod) (new : Pod) → contains p (pod_numbers all) ≡ true → contains p (pod_numbers (all ++ new ∷ [])) ≡ true
listed_push p [] new h = absurd (cc)
listed_push p (q ∷ all) new h = by (q.number == p) h (listed_push p all new)
  where
    by : (m : Bool) → (m || contains p (pod_numbers all)) ≡ true → (contains p (pod_numbers all) ≡ true → contains p (pod_numbers (all ++ new ∷ [])) ≡ true) → (m || contains p (pod_numbers (all ++ new ∷ []))) ≡ true
    by true h rest = refl
    by false h rest = rest h

listed_stays : (p u : ℕ) (all : List Pod) → (p == u) ≡ false → contains u (pod_numbers all) ≡ true → contains u (pod_numbers (filter (λ (q : Pod). not (p == q.number)) all)) ≡ true
listed_stays p u [] other h = h
listed_stays p u (q ∷ all) other h = by (q.number == u) refl (p == q.number) refl (listed_stays p u all other)
  where
    by : (m : Bool) → (q.number == u) ≡ m → (b : Bool) → (p == q.number) ≡ b → (contains u (pod_numbers all) ≡ true → contains u (pod_numbers (filter (λ (q : Pod). not (p == q.number)) all)) ≡ true)
        → contains u (pod_numbers (cond (not b) (q ∷ filter (λ (q : Pod). not (p == q.number)) all) (filter (λ (q : Pod). not (p == q.number)) all))) ≡ true
    by true e true g rest = absurd (let same : q.number ≡ u = eqb-true q.number u e in let no : (p == u) ≡ true = rw (← same) g in cc)
    by true e false g rest = rw e refl
    by false e true g rest = rest (rw e at h)
    by false e false g rest = rw e (rest (rw e at h))

-- nobody passes the test
none_placed : (test : Place → Bool) (live : List Request) → placed_in test live ≡ [] → All (λ (q : Request). test q.place ≡ false) live
none_placed test [] h = All-nil (λ (q : Request). test q.place ≡ false)
none_placed test (q ∷ live) h = by (test q.place) refl h (none_placed test live)
  where
    by : (b : Bool) → test q.place ≡ b → map (λ (q : Request). q.number) (cond b (q ∷ filter (λ (q : Request). test q.place) live) (filter (λ (q : Request). test q.place) live)) ≡ []
        → (placed_in test live ≡ [] → All (λ (q : Request). test q.place ≡ false) live) → All (λ (q : Request). test q.place ≡ false) (q ∷ live)
    by true e h rest = absurd (cc)
    by false e h rest = All-cons (λ (q : Request). test q.place ≡ false) q live e (rest h)

abbrev AreHome : List Pod → List Request → Type 0
AreHome all live = All (λ (q : Request). IsAmong (pod_numbers all) q.place) live

-- a pod where nobody is goes
home_without : (p : ℕ) (all : List Pod) (live : List Request) → AreHome all live → placed_in (is_at p) live ≡ [] → AreHome (filter (λ (q : Pod). not (p == q.number)) all) live
home_without p all live h none k d within =
    among_more (pod_numbers all) (pod_numbers (filter (λ (q : Pod). not (p == q.number)) all)) _ (λ u there listed. listed_stays p u all (other u _ there (none_placed (is_at p) live none k d within)) listed) (h k d within)
  where
    other : (u : ℕ) (w : Place) → is_at u w ≡ true → is_at p w ≡ false → (p == u) ≡ false
    other u w there not_here = false_from_ne_true (p == u) (λ e. let same : p ≡ u = eqb-true p u e in let here : is_at p w ≡ true = rw same there in absurd (cc))

home_renumbered : (f : Pod → Pod) → KeepsPodNumbers f → (all : List Pod) (live : List Request) → AreHome all live → AreHome (map f all) live
home_renumbered f k all live h = rw (same_numbers f k all) h

begun_among : (ps : List ℕ) (w : Place) → IsAmong ps w → IsAmong ps (begun w)
begun_among ps place.Held h = h
begun_among ps (place.Queued p) h = h
begun_among ps (place.Running p x) h = h

home_after : (a : Admission) (t : ℕ) (x : Row) → IsInOrder a → FitsRecord a x → AreHome (pods_after x a.pods) (live_after t x a.live)
home_after a t (row.Admit r tag) o f = All-push (λ (q : Request). IsAmong (pod_numbers a.pods) q.place) a.live _ o.homes tt
home_after a t (row.Direct r p) o f = All-push (λ (q : Request). IsAmong (pod_numbers a.pods) q.place) a.live _ o.homes f.1
home_after a t (row.Assign r p) o f = all-map (λ (q : Request). IsAmong (pod_numbers a.pods) q.place) (moved_to r (place.Running p true)) (λ q h. by q h (r == q.number)) a.live o.homes
  where
    by : (q : Request) → IsAmong (pod_numbers a.pods) q.place → (b : Bool) → IsAmong (pod_numbers a.pods) (cond b (record q { place = place.Running p true }) q).place
    by q h true = f
    by q h false = h
home_after a t (row.Run r) o f = all-map (λ (q : Request). IsAmong (pod_numbers a.pods) q.place) (begun_at r) (λ q h. by q h (r == q.number)) a.live o.homes
  where
    by : (q : Request) → IsAmong (pod_numbers a.pods) q.place → (b : Bool) → IsAmong (pod_numbers a.pods) (cond b (record q { place = begun q.place }) q).place
    by q h true = begun_among (pod_numbers a.pods) q.place h
    by q h false = h
home_after a t (row.Finish r ok) o f = All-filter (λ q. not (r == q.number)) (λ (q : Request). IsAmong (pod_numbers a.pods) q.place) a.live o.homes
home_after a t (row.Expire r) o f = All-filter (λ q. not (r == q.number)) (λ (q : Request). IsAmong (pod_numbers a.pods) q.place) a.live o.homes
home_after a t (row.Cancel r) o f = All-filter (λ q. not (r == q.number)) (λ (q : Request). IsAmong (pod_numbers a.pods) q.place) a.live o.homes
home_after a t (row.LostRequest r) o f = All-filter (λ q. not (r == q.number)) (λ (q : Request). IsAmong (pod_numbers a.pods) q.place) a.live o.homes
home_after a t (row.Create p n) o f =
    All-weaker (λ (q : Request). IsAmong (pod_numbers a.pods) q.place) (λ (q : Request). IsAmong (pod_numbers (pods_after (row.Create p n) a.pods)) q.place)
    (λ q h. among_more (pod_numbers a.pods) (pod_numbers (pods_after (row.Create p n) a.pods)) q.place (λ u there listed. listed_push u a.pods _ listed) h) a.live o.homes
home_after a t (row.Limit p n) o f = home_renumbered (limited p n) (record { same = limited_number p n }) a.pods a.live o.homes
home_after a t (row.Ready p) o f = home_renumbered (marked p readied) (record { same = marked_number p readied }) a.pods a.live o.homes
home_after a t (row.Drain p) o f = home_renumbered (marked p drained) (record { same = marked_number p drained }) a.pods a.live o.homes
home_after a t (row.Remove p) o f = home_without p a.pods a.live o.homes f
home_after a t (row.LostPod p) o f = home_without p a.pods a.live o.homes f
home_after a t x o f = o.homes

-- ---- the order

record IsNextIn (a : Admission) (x : Row) (q : Request) : Type 0 where
  number : q.number ≡ a.arrivals
  counted : more_by (arrived_by x) a.arrivals ≡ a.arrivals + 1

comes_next : (a : Admission) (t : ℕ) (x : Row) (q : Request) → FitsRecord a x → comes t x ≡ Some q → IsNextIn a x q
comes_next a t (row.Admit r tag) q f e =
    let same : record { number = r; time = t; place = place.Held } ≡ q = cc in record { number = ap (λ (z : Request). z.number) (sym same) ∙ f; counted = refl }
comes_next a t (row.Direct r p) q f e =
    let same : record { number = r; time = t; place = place.Queued p } ≡ q = cc in record { number = ap (λ (z : Request). z.number) (sym same) ∙ f.0; counted = refl }
comes_next a t x q f e = absurd (cc)

-- a row that fits leaves the record in order
pub step_in_order : (a : Admission) (t : ℕ) (x : Row) → IsInOrder a → FitsRecord a x → IsInOrder (stepped t x a)
unfolding stepped
step_in_order a t x o f = record {
  live = pairs_after (λ (y z : Request). y.number < z.number) (λ y z v w h. h) t x a.live o.live
      (λ q is. All-weaker (λ (z : Request). z.number < a.arrivals) (λ (z : Request). z.number < q.number) (λ z h. let next = (comes_next a t x q f is).number in omega arith) a.live o.arrived);
  arrived = all_after (λ (z : Request). z.number < more_by (arrived_by x) a.arrivals) (λ z w h. h) t x a.live
      (All-weaker (λ (z : Request). z.number < a.arrivals) (λ (z : Request). z.number < more_by (arrived_by x) a.arrivals) (λ z h. let up = more (arrived_by x) a.arrivals in omega arith) a.live o.arrived)
      (λ q is. let next = comes_next a t x q f is in let number = next.number in let counted = next.counted in omega arith);
  pods = pods_ascend_after a x o f;
  created = pods_below_after a x o f;
  homes = home_after a t x o f;
}

pub nothing_in_order : IsInOrder nothing_yet
nothing_in_order = record {
  live = none_in_pairs (λ (x y : Request). x.number < y.number);
  arrived = All-nil (λ (x : Request). x.number < 0);
  pods = none_in_pairs (λ (x y : Pod). x.number < y.number);
  created = All-nil (λ (x : Pod). x.number < 0);
  homes = All-nil (λ (x : Request). IsAmong [] x.place);
}

-- ---- times

comes_now : (t : ℕ) (x : Row) (q : Request) → comes t x ≡ Some q → q.time ≡ t
comes_now t (row.Admit r tag) q e = let same : record { number = r; time = t; place = place.Held } ≡ q = cc in ap (λ (z : Request). z.time) (sym same)
comes_now t (row.Direct r p) q e = let same : record { number = r; time = t; place = place.Queued p } ≡ q = cc in ap (λ (z : Request). z.time) (sym same)
comes_now t x q e = absurd (cc)

-- a row that comes at the clock or later leaves the times ascending
pub step_timed : (a : Admission) (clock t : ℕ) (x : Row) → AreTimed clock a → clock ≤ t → AreTimed t (stepped t x a)
unfolding stepped
step_timed a clock t x h le = record {
  ascend = pairs_after (λ (y z : Request). y.time ≤ z.time) (λ y z v w k. k) t x a.live h.ascend
      (λ q is. All-weaker (λ (z : Request). z.time ≤ clock) (λ (z : Request). z.time ≤ q.time) (λ z k. let now = comes_now t x q is in omega arith) a.live h.past);
  past = all_after (λ (z : Request). z.time ≤ t) (λ z w k. k) t x a.live (All-weaker (λ (z : Request). z.time ≤ clock) (λ (z : Request). z.time ≤ t) (λ z k. omega arith) a.live h.past)
      (λ q is. let now = comes_now t x q is in omega arith);
}

pub nothing_timed : (clock : ℕ) → AreTimed clock nothing_yet
nothing_timed clock = record { ascend = none_in_pairs (λ (x y : Request). x.time ≤ y.time); past = All-nil (λ (x : Request). x.time ≤ clock) }

-- some requests came from this time on, up to that one, in their order
record AreWithin (from to : ℕ) (live : List Request) : Type 0 where
  order : from ≤ to
  later : All (λ (q : Request). from ≤ q.time) live
  earlier : All (λ (q : Request). q.time ≤ to) live
  ascend : AllPairs (λ (x y : Request). x.time ≤ y.time) live

within_earlier : (from start to : ℕ) (live : List Request) → start ≤ from → AreWithin from to live → AreWithin start to live
within_earlier from start to live le h = record {
  order = let o = h.order in omega arith;
  later = All-weaker (λ (q : Request). from ≤ q.time) (λ (q : Request). start ≤ q.time) (λ q k. omega arith) live h.later;
  earlier = h.earlier;
  ascend = h.ascend;
}

within_cons : (to : ℕ) (q : Request) (live : List Request) → AreWithin q.time to live → AreWithin q.time to (q ∷ live)
within_cons to q live h = record {
  order = h.order;
  later = All-cons (λ (z : Request). q.time ≤ z.time) q live (omega arith) h.later;
  earlier = All-cons (λ (z : Request). z.time ≤ to) q live h.order h.earlier;
  ascend = AllPairs-cons (λ (x y : Request). x.time ≤ y.time) q live h.later h.ascend;
}

requests_within : (c : Trace) (start clock : ℕ) (d : Trace) → AreTimesInOrder start d clock → AreWithin start clock (filter_map (λ (e : Entry). request_of c e.time (taken_by e.row)) d)
unfolding request_of
requests_within c start clock [] h = record {
  order = h;
  later = All-nil (λ (q : Request). start ≤ q.time);
  earlier = All-nil (λ (q : Request). q.time ≤ clock);
  ascend = none_in_pairs (λ (x y : Request). x.time ≤ y.time);
}
requests_within c start clock (e ∷ d) h =
    within_earlier e.time start clock _ h.0 (by (request_of c e.time (taken_by e.row)) (λ q is. now (taken_by e.row) q is) (requests_within c e.time clock d h.1))
  where
    if_live : (b : Bool) (r : ℕ) (w : Place) (q : Request) → then_some b (record { number = r; time = e.time; place = w }) ≡ Some q → q.time ≡ e.time
    if_live true r w q is = let same : record { number = r; time = e.time; place = w } ≡ q = cc in ap (λ (z : Request). z.time) (sym same)
    if_live false r w q is = absurd (cc)

    now : (o : Option ℕ) (q : Request) → request_of c e.time o ≡ Some q → q.time ≡ e.time
    now None q is = absurd (cc)
    now (Some r) q is = if_live (not (ended c r)) r (place_of c r) q is

    by : (o : Option Request) → ((q : Request) → o ≡ Some q → q.time ≡ e.time) → AreWithin e.time clock (filter_map (λ (e : Entry). request_of c e.time (taken_by e.row)) d)
        → AreWithin e.time clock (cons_option o (filter_map (λ (e : Entry). request_of c e.time (taken_by e.row)) d))
    by None this rest = rest
    by (Some q) this rest = let same = this q refl in rw (← same) (within_cons clock q _ (rw same rest))

-- the times of the live requests ascend where those of the trace do
pub stands_timed : (a : Admission) (c : Trace) (start clock : ℕ) → IsRecordOf a c → AreTimesInOrder start c clock → AreTimed clock a
unfolding admission live_requests
stands_timed a c start clock h order =
    let all = requests_within c start clock c order in
    rw h.kept (record { ascend = all.ascend; past = all.earlier })
