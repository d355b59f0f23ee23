-- Seats, candidates and touched pods, where the requests at one pod change.
use Rattle.std.proofs.Common.{◌≡◌, ℕ, zero, suc, ◌<◌, Bool, true, false, cond, ◌||◌, List, [], ◌∷◌, length, get_or, map, refl, ap, ◌∙◌, arith}
use Rattle.std.specs.Prelude.{◌==◌, Some, if◌then◌else◌}
use Rattle.std.specs.List.{All, filter}
use Rattle.std.proofs.lemmas.Bool.{eqb-true}
use Rattle.std.proofs.lemmas.List.{length-map}
use Rattle.std.proofs.lemmas.List.Kept.{AllPairs-filter}
use Rattle.std.proofs.lemmas.List.Elements.{All-head, All-tail, All-weaker}
use Rattle.kn_event.specs.Lists.{contains}
use Rattle.kn_trace.specs.declared.candidate.Cand.{Cand}
use Rattle.kn_seats.specs.Pods as seats
use Rattle.kn_record.specs.declared.admission.Request.{Request}
use Rattle.kn_record.specs.declared.admission.Pod.{Pod}
use Rattle.kn_record.specs.declared.admission.Readiness.TheVariants.{Starting}
use Rattle.kn_record.specs.Admission.{candidate_of, candidates_in, is_ready_now, placed_in, runs_at}
use Rattle.kn_record.specs.Views.{pod_numbered, pod_numbers}
use Rattle.kn_throttle.specs.declared.touched.Touched.{Touched}
use Rattle.kn_throttle.specs.declared.touched.Touched.TheVariants.{Nowhere, At, Anywhere}
use Rattle.kn_throttle.specs.Touched.{Covers, IsOneOf, is_touched, one_more}
use Rattle.kn_policy.specs.Marks as marks
use Rattle.kn_throttle.specs.Candidates.{with_changed}
use Rattle.kn_throttle.specs.Pods.{AreAscending}
use Rattle.kn_throttle.specs.Kept.{seat_of}
use Rattle.kn_throttle.proofs.Same.{SameAt, same_seat}

-- ---- seats

pub seats_same : (old new : List Request) (all : List Pod) → ((n : ℕ) → SameAt n old new) → map (seat_of new) all ≡ map (seat_of old) all
seats_same old new [] same = refl
seats_same old new (q ∷ all) same = rw (same_seat old new q (same q.number), seats_same old new all same) refl

pub seats_at : (p : ℕ) (change : seats.Pod → seats.Pod) (old new : List Request) (all : List Pod) → ((q : Pod) → q.number ≡ p → seat_of new q ≡ change (seat_of old q)) → ((n : ℕ) → (n == p) ≡ false → SameAt n old new)
    → map (seat_of new) all ≡ seats.with_pod_changed p change (map (seat_of old) all)
seats_at p change old new [] here others = refl
seats_at p change old new (q ∷ all) here others = rw (seats_at p change old new all here others) (by (q.number == p) refl)
  where
    by : (b : Bool) → (q.number == p) ≡ b → seat_of new q ∷ seats.with_pod_changed p change (map (seat_of old) all) ≡ (if b then change (seat_of old q) else seat_of old q) ∷ seats.with_pod_changed p change (map (seat_of old) all)
    by true e = rw (here q (eqb-true q.number p e)) refl
    by false e = rw (same_seat old new q (others q.number e)) refl

-- the seats have each pod
pub seats-has : (live : List Request) (p : ℕ) (all : List Pod) → seats.has_pod p (map (seat_of live) all) ≡ contains p (pod_numbers all)
seats-has live p [] = refl
seats-has live p (q ∷ all) = ap (λ (b : Bool). (q.number == p) || b) (seats-has live p all)

-- of each pod that is there, the seats are those of the record's pod of its number
pub record IsPodOf (live : List Request) (p : ℕ) (all : List Pod) : Type 1 where
  pub pod : Pod
  pub found : pod_numbered p all ≡ Some pod
  pub number : pod.number ≡ p
  pub seat : seats.pod_at p (map (seat_of live) all) ≡ seat_of live pod
  pub each : (P : Pod → Type 0) → All P all → P pod

pub pod_of : (live : List Request) (p : ℕ) (all : List Pod) → contains p (pod_numbers all) ≡ true → IsPodOf live p all
pod_of live p [] there = absurd (cc)
pod_of live p (q ∷ all) there = by (q.number == p) refl there (λ h. pod_of live p all h)
  where
    by : (b : Bool) → (q.number == p) ≡ b → (b || contains p (pod_numbers all)) ≡ true → (contains p (pod_numbers all) ≡ true → IsPodOf live p all) → IsPodOf live p (q ∷ all)
    by true e h rest = record { pod = q; found = rw e refl; number = eqb-true q.number p e; seat = rw e refl; each = λ P h. All-head P q all h }
    by false e h rest =
        let more = rest h in
        record { pod = more.pod; found = rw e more.found; number = more.number; seat = rw e more.seat; each = λ P h. more.each P (All-tail P q all h) }

-- ---- candidates

pub cands_same : (old new : List Request) (all : List Pod) → ((n : ℕ) → placed_in (runs_at n) new ≡ placed_in (runs_at n) old) → candidates_in new all ≡ candidates_in old all
unfolding candidates_in
cands_same old new [] same = refl
cands_same old new (q ∷ all) same = by (is_ready_now q.readiness) (cands_same old new all same)
  where
    ready : List Pod
    ready = filter (λ (q : Pod). is_ready_now q.readiness) all

    by : (b : Bool) → map (candidate_of new) ready ≡ map (candidate_of old) ready → map (candidate_of new) (cond b (q ∷ ready) ready) ≡ map (candidate_of old) (cond b (q ∷ ready) ready)
    by true rest = rw (same q.number, rest) refl
    by false rest = rest

pub cands_at : (p : ℕ) (change : Cand → Cand) (old new : List Request) (all : List Pod) → ((q : Pod) → q.number ≡ p → candidate_of new q ≡ change (candidate_of old q)) → ((n : ℕ) → (n == p) ≡ false → SameAt n old new)
    → candidates_in new all ≡ with_changed p change (candidates_in old all)
unfolding candidates_in
cands_at p change old new [] here others = refl
cands_at p change old new (q ∷ all) here others = by (is_ready_now q.readiness) (cands_at p change old new all here others)
  where
    ready : List Pod
    ready = filter (λ (q : Pod). is_ready_now q.readiness) all

    one : (m : Bool) → (q.number == p) ≡ m → candidate_of new q ≡ (if m then change (candidate_of old q) else candidate_of old q)
    one true e = here q (eqb-true q.number p e)
    one false e = let same = others q.number e in rw same.runs refl

    by : (b : Bool) → map (candidate_of new) ready ≡ with_changed p change (map (candidate_of old) ready) → map (candidate_of new) (cond b (q ∷ ready) ready) ≡ with_changed p change (map (candidate_of old) (cond b (q ∷ ready) ready))
    by true rest = rw (rest, one (q.number == p) refl) refl
    by false rest = rest

pods_of_image : (live : List Request) (all : List Pod) (k : ℕ) (d : Pod) → k < length all → (d2 : Cand) → (get_or (map (candidate_of live) all) k d2).pod ≡ (get_or all k d).number
pods_of_image live [] k d h d2 = absurd (omega arith)
pods_of_image live (q ∷ all) zero d h d2 = refl
pods_of_image live (q ∷ all) (suc k) d h d2 = pods_of_image live all k d (omega arith) d2

-- their numbers ascend too
pub cands_ascend : (live : List Request) (all : List Pod) → AreAscending all → marks.AreAscending (candidates_in live all)
unfolding candidates_in
cands_ascend live all rise = images (filter (λ (q : Pod). is_ready_now q.readiness) all) (AllPairs-filter (λ (x y : Pod). x.number < y.number) (λ (q : Pod). is_ready_now q.readiness) all rise)
  where
    images : (ready : List Pod) → AreAscending ready → marks.AreAscending (map (candidate_of live) ready)
    images ready rise i j d less inside =
        let n : length (map (candidate_of live) ready) ≡ length ready = length-map ready (candidate_of live) in
        let d2 : Pod = record { number = 0; limit = 0; readiness = Starting } in
        rw (pods_of_image live ready i d2 (omega arith) d, pods_of_image live ready j d2 (omega arith) d) (rise i j d2 less (omega arith))

-- ---- touched pods

-- which pods are not touched once this one is too
pub untouched : (n p : ℕ) (t : Touched) → is_touched n (one_more p t) ≡ false → (is_touched n t ≡ false) × ((p == n) ≡ false)
untouched n p Nowhere h = (refl, h)
untouched n p (At q) h = by (q == p) refl h
  where
    by : (b : Bool) → (q == p) ≡ b → is_touched n (if b then At q else Anywhere) ≡ false → ((q == n) ≡ false) × ((p == n) ≡ false)
    by true e f = (f, let same : q ≡ p = eqb-true q p e in rw (← same) f)
    by false e f = absurd (cc)
untouched n p Anywhere h = absurd (cc)

named_more : (p : ℕ) (ps : List ℕ) (t : Touched) → contains p ps ≡ true → IsOneOf ps t → IsOneOf ps (one_more p t)
named_more p ps Nowhere here named = here
named_more p ps (At q) here named = by (q == p)
  where
    by : (b : Bool) → IsOneOf ps (if b then At q else Anywhere)
    by true = named
    by false = tt
named_more p ps Anywhere here named = tt

-- something changes at pod p, and nowhere else
pub covers_more : (p : ℕ) (old new : Pod → Bool) (all : List Pod) (t : Touched) → contains p (pod_numbers all) ≡ true → ((q : Pod) → (p == q.number) ≡ false → new q ≡ old q) → Covers old all t → Covers new all (one_more p t)
covers_more p old new all t here same c = record {
  others = All-weaker (λ (q : Pod). is_touched q.number t ≡ false → old q ≡ false) (λ (q : Pod). is_touched q.number (one_more p t) ≡ false → new q ≡ false)
      (λ q h u. let parts = untouched q.number p t u in same q parts.1 ∙ h parts.0) all c.others;
  named = named_more p (pod_numbers all) t here c.named;
}

-- no pod has more to do
pub covers_less : (old new : Pod → Bool) (all : List Pod) (t : Touched) → ((q : Pod) → old q ≡ false → new q ≡ false) → Covers old all t → Covers new all t
covers_less old new all t less c = record {
  others = All-weaker (λ (q : Pod). is_touched q.number t ≡ false → old q ≡ false) (λ (q : Pod). is_touched q.number t ≡ false → new q ≡ false) (λ q h u. less q (h u)) all c.others;
  named = c.named;
}
