-- What a request's coming, move or end leaves as it was: the pods that it isn't at.
use Rattle.std.proofs.Common.{◌≡◌, ℕ, ◌+◌, ◌≤◌, Bool, true, false, cond, List, [], ◌∷◌, ◌++◌, length, map, refl, sym, ap, ◌∙◌, arith, append-nil}
use Rattle.std.specs.Prelude.{◌==◌, if◌then◌else◌}
use Rattle.std.specs.List.{filter}
use Rattle.std.proofs.lemmas.Bool.{eqb-true}
use Rattle.kn_record.specs.declared.admission.Place.{Place}
use Rattle.kn_record.specs.declared.admission.Place.TheVariants as place
use Rattle.kn_record.specs.declared.admission.Request.{Request}
use Rattle.kn_record.specs.declared.admission.Pod.{Pod}
use Rattle.kn_record.specs.Admission.{is_assigned_place, is_at, is_held_place, is_through, placed_in, queues_at, runs_at}
use Rattle.kn_table.specs.Moves.{Leaves, Moves}
use Rattle.kn_throttle.specs.Kept.{can_leave, can_run, seat_of}

pub eq-sym : (a b : ℕ) → (a == b) ≡ (b == a)
eq-sym a b = by (a == b) (b == a) refl refl
  where
    by : (x y : Bool) → (a == b) ≡ x → (b == a) ≡ y → (a == b) ≡ (b == a)
    by true true e f = rw (e, f) refl
    by false false e f = rw (e, f) refl
    by true false e f = absurd (let same : a ≡ b = eqb-true a b e in cc)
    by false true e f = absurd (let same : b ≡ a = eqb-true b a f in cc)

-- one more live request is at its place
pub placed-push : (test : Place → Bool) (live : List Request) (q : Request) → placed_in test (live ++ q ∷ []) ≡ placed_in test live ++ (if test q.place then q.number ∷ [] else [])
placed-push test [] q = by (test q.place)
  where
    by : (b : Bool) → map (λ (q : Request). q.number) (cond b (q ∷ []) []) ≡ (if b then q.number ∷ [] else [])
    by true = refl
    by false = refl
placed-push test (x ∷ live) q = by (test x.place) (placed-push test live q)
  where
    by : (b : Bool) → placed_in test (live ++ q ∷ []) ≡ placed_in test live ++ (if test q.place then q.number ∷ [] else [])
        → map (λ (q : Request). q.number) (cond b (x ∷ filter (λ (q : Request). test q.place) (live ++ q ∷ [])) (filter (λ (q : Request). test q.place) (live ++ q ∷ [])))
        ≡ map (λ (q : Request). q.number) (cond b (x ∷ filter (λ (q : Request). test q.place) live) (filter (λ (q : Request). test q.place) live)) ++ (if test q.place then q.number ∷ [] else [])
    by true rest = ap (λ (l : List ℕ). x.number ∷ l) rest
    by false rest = rest

-- ---- at one pod

-- who runs, who is queued and who is at pod n
pub record SameAt (n : ℕ) (old new : List Request) : Type 0 where
  pub runs : placed_in (runs_at n) new ≡ placed_in (runs_at n) old
  pub queues : placed_in (queues_at n) new ≡ placed_in (queues_at n) old
  pub all : placed_in (is_at n) new ≡ placed_in (is_at n) old

pub same_ended : (r n : ℕ) (x : Place) (old new : List Request) → Leaves r x old new → is_at n x ≡ false → SameAt n old new
same_ended r n place.Held old new l h = record { runs = l.same (runs_at n) refl; queues = l.same (queues_at n) refl; all = l.same (is_at n) refl }
same_ended r n (place.Queued q) old new l h = record { runs = l.same (runs_at n) refl; queues = l.same (queues_at n) h; all = l.same (is_at n) h }
same_ended r n (place.Running q b) old new l h = record { runs = l.same (runs_at n) h; queues = l.same (queues_at n) refl; all = l.same (is_at n) h }

pub same_assigned : (r n p : ℕ) (old new : List Request) → Moves r place.Held (place.Running p true) old new → (p == n) ≡ false → SameAt n old new
same_assigned r n p old new m h = record { runs = m.same (runs_at n) (sym h); queues = m.same (queues_at n) refl; all = m.same (is_at n) (sym h) }

pub same_begun : (r n p : ℕ) (old new : List Request) → Moves r (place.Queued p) (place.Running p false) old new → (p == n) ≡ false → SameAt n old new
same_begun r n p old new m h = record { runs = m.same (runs_at n) (sym h); queues = m.same (queues_at n) h; all = m.same (is_at n) refl }

pushed_same : (test : Place → Bool) (live : List Request) (q : Request) → test q.place ≡ false → placed_in test (live ++ q ∷ []) ≡ placed_in test live
pushed_same test live q h = placed-push test live q ∙ rw h (append-nil (placed_in test live))

pub same_pushed : (n : ℕ) (live : List Request) (q : Request) → is_at n q.place ≡ false → SameAt n live (live ++ q ∷ [])
same_pushed n live q h = by q.place refl h
  where
    by : (x : Place) → q.place ≡ x → is_at n x ≡ false → SameAt n live (live ++ q ∷ [])
    by place.Held e f = record { runs = pushed_same (runs_at n) live q (ap (runs_at n) e); queues = pushed_same (queues_at n) live q (ap (queues_at n) e); all = pushed_same (is_at n) live q (ap (is_at n) e) }
    by (place.Queued p) e f = record { runs = pushed_same (runs_at n) live q (ap (runs_at n) e); queues = pushed_same (queues_at n) live q (ap (queues_at n) e ∙ f); all = pushed_same (is_at n) live q (ap (is_at n) e ∙ f) }
    by (place.Running p b) e f = record { runs = pushed_same (runs_at n) live q (ap (runs_at n) e ∙ f); queues = pushed_same (queues_at n) live q (ap (queues_at n) e); all = pushed_same (is_at n) live q (ap (is_at n) e ∙ f) }

pub same_seat : (old new : List Request) (q : Pod) → SameAt q.number old new → seat_of new q ≡ seat_of old q
same_seat old new q s = rw (s.runs, s.queues) refl

pub same_can_run : (old new : List Request) (q : Pod) → SameAt q.number old new → can_run new q ≡ can_run old q
same_can_run old new q s = rw (s.runs, s.queues) refl

pub same_can_leave : (old new : List Request) (q : Pod) → SameAt q.number old new → can_leave new q ≡ can_leave old q
same_can_leave old new q s = rw s.all refl

-- ---- counts

-- who is at a pod runs or is queued there
pub at-parts : (p : ℕ) (live : List Request) → length (placed_in (is_at p) live) ≡ length (placed_in (runs_at p) live) + length (placed_in (queues_at p) live)
at-parts p [] = refl
at-parts p (q ∷ live) = by q.place (at-parts p live)
  where
    by : (x : Place) → length (placed_in (is_at p) live) ≡ length (placed_in (runs_at p) live) + length (placed_in (queues_at p) live)
        → length (map (λ (q : Request). q.number) (cond (is_at p x) (q ∷ filter (λ (q : Request). is_at p q.place) live) (filter (λ (q : Request). is_at p q.place) live)))
        ≡ length (map (λ (q : Request). q.number) (cond (runs_at p x) (q ∷ filter (λ (q : Request). runs_at p q.place) live) (filter (λ (q : Request). runs_at p q.place) live)))
        + length (map (λ (q : Request). q.number) (cond (queues_at p x) (q ∷ filter (λ (q : Request). queues_at p q.place) live) (filter (λ (q : Request). queues_at p q.place) live)))
    by place.Held rest = rest
    by (place.Queued o) rest = here (o == p)
      where
        here : (b : Bool) → length (map (λ (q : Request). q.number) (cond b (q ∷ filter (λ (q : Request). is_at p q.place) live) (filter (λ (q : Request). is_at p q.place) live)))
            ≡ length (placed_in (runs_at p) live) + length (map (λ (q : Request). q.number) (cond b (q ∷ filter (λ (q : Request). queues_at p q.place) live) (filter (λ (q : Request). queues_at p q.place) live)))
        here true = omega (arith, rest)
        here false = rest
    by (place.Running o x) rest = here (o == p)
      where
        here : (b : Bool) → length (map (λ (q : Request). q.number) (cond b (q ∷ filter (λ (q : Request). is_at p q.place) live) (filter (λ (q : Request). is_at p q.place) live)))
            ≡ length (map (λ (q : Request). q.number) (cond b (q ∷ filter (λ (q : Request). runs_at p q.place) live) (filter (λ (q : Request). runs_at p q.place) live))) + length (placed_in (queues_at p) live)
        here true = omega (arith, rest)
        here false = rest

-- who came through the activator is held or was assigned
pub through-parts : (live : List Request) → length (placed_in is_through live) ≡ length (placed_in is_held_place live) + length (placed_in is_assigned_place live)
through-parts [] = refl
through-parts (q ∷ live) = by q.place (through-parts live)
  where
    by : (x : Place) → length (placed_in is_through live) ≡ length (placed_in is_held_place live) + length (placed_in is_assigned_place live)
        → length (map (λ (q : Request). q.number) (cond (is_through x) (q ∷ filter (λ (q : Request). is_through q.place) live) (filter (λ (q : Request). is_through q.place) live)))
        ≡ length (map (λ (q : Request). q.number) (cond (is_held_place x) (q ∷ filter (λ (q : Request). is_held_place q.place) live) (filter (λ (q : Request). is_held_place q.place) live)))
        + length (map (λ (q : Request). q.number) (cond (is_assigned_place x) (q ∷ filter (λ (q : Request). is_assigned_place q.place) live) (filter (λ (q : Request). is_assigned_place q.place) live)))
    by place.Held rest = omega (arith, rest)
    by (place.Queued o) rest = rest
    by (place.Running o true) rest = omega (arith, rest)
    by (place.Running o false) rest = rest

-- no more pass a test than there are
pub length-placed : (test : Place → Bool) (live : List Request) → length (placed_in test live) ≤ length live
length-placed test [] = omega arith
length-placed test (q ∷ live) = by (test q.place) (length-placed test live)
  where
    by : (b : Bool) → length (placed_in test live) ≤ length live → length (map (λ (q : Request). q.number) (cond b (q ∷ filter (λ (q : Request). test q.place) live) (filter (λ (q : Request). test q.place) live))) ≤ length (q ∷ live)
    by true rest = omega (arith, rest)
    by false rest = omega (arith, rest)
