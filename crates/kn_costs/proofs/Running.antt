-- No more requests run than live.
use Rattle.std.proofs.Common.{◌≡◌, ℕ, ◌+◌, ◌≤◌, ◌||◌, Bool, true, false, cond, subst, List, [], ◌∷◌, map, length, refl, ap, ◌∙◌, arith}
use Rattle.std.specs.Prelude.{◌==◌}
use Rattle.std.specs.List.{filter, sum_by}
use Rattle.std.proofs.lemmas.Bool.Decides.{nat_tests}
use Rattle.std.proofs.lemmas.List.{length-map}
use Rattle.std.proofs.lemmas.List.Sums.{sum_by-cons}
use Rattle.kn_event.specs.declared.revision.Spec.{Spec}
use Rattle.kn_event.specs.Lists.{contains}
use Rattle.kn_throttle.specs.Gauges.{count_running}
use Rattle.kn_trace.specs.Trace.{Trace, live, live_pods, running_at}
use Rattle.kn_record.specs.Admission.{Admission, placed_in, runs_at}
use Rattle.kn_record.specs.Made.{AreDistinct}
use Rattle.kn_record.specs.Views.{AreViews}
use Rattle.kn_record.specs.declared.admission.Place.{Place}
use Rattle.kn_record.specs.declared.admission.Place.TheVariants as place
use Rattle.kn_record.specs.declared.admission.Request.{Request}

abbrev pub bit : Bool → ℕ
bit b = cond b 1 0

pub sum_same : (f g : ℕ → ℕ) → ((p : ℕ) → f p ≡ g p) → (ps : List ℕ) → sum_by f ps ≡ sum_by g ps
sum_same f g same [] = refl
sum_same f g same (p ∷ ps) = omega (arith, sum_by-cons f p ps, sum_by-cons g p ps, same p, sum_same f g same ps)

sum_both : (f g h : ℕ → ℕ) → ((p : ℕ) → f p ≡ g p + h p) → (ps : List ℕ) → sum_by f ps ≡ sum_by g ps + sum_by h ps
sum_both f g h both [] = refl
sum_both f g h both (p ∷ ps) = omega (arith, sum_by-cons f p ps, sum_by-cons g p ps, sum_by-cons h p ps, both p, sum_both f g h both ps)

pub sum_none : (f : ℕ → ℕ) → ((p : ℕ) → f p ≡ 0) → (ps : List ℕ) → sum_by f ps ≡ 0
sum_none f none [] = refl
sum_none f none (p ∷ ps) = omega (arith, sum_by-cons f p ps, none p, sum_none f none ps)

pub turned : (p q : ℕ) → (q == p) ≡ (p == q)
turned p q = grind (arith, nat_tests)

pub absent : (q : ℕ) (ps : List ℕ) → contains q ps ≡ false → sum_by (λ p. bit (q == p)) ps ≡ 0
absent q [] h = refl
absent q (p ∷ ps) h = by (p == q) refl h (absent q ps)
  where
    by : (b : Bool) → (p == q) ≡ b → (b || contains q ps) ≡ false → (contains q ps ≡ false → sum_by (λ p. bit (q == p)) ps ≡ 0) → sum_by (λ p. bit (q == p)) (p ∷ ps) ≡ 0
    by true e h later = absurd (cc)
    by false e h later =
        let none : bit (q == p) ≡ 0 = rw (turned p q, e) refl in
        omega (arith, sum_by-cons (λ (p : ℕ). bit (q == p)) p ps, none, later h)

-- a number stands once among distinct ones
once : (q : ℕ) (ps : List ℕ) → AreDistinct ps → sum_by (λ p. bit (q == p)) ps ≤ 1
once q [] d = omega arith
once q (p ∷ ps) d = by (p == q) refl (once q ps d.1)
  where
    by : (b : Bool) → (p == q) ≡ b → sum_by (λ p. bit (q == p)) ps ≤ 1 → sum_by (λ p. bit (q == p)) (p ∷ ps) ≤ 1
    by true e later =
        let same : p ≡ q = grind (arith, nat_tests) in
        let one : bit (q == p) ≡ 1 = rw (turned p q, e) refl in
        omega (arith, sum_by-cons (λ (p : ℕ). bit (q == p)) p ps, one, absent q ps (subst (λ (n : ℕ). contains n ps ≡ false) same d.0))
    by false e later =
        let none : bit (q == p) ≡ 0 = rw (turned p q, e) refl in
        omega (arith, sum_by-cons (λ (p : ℕ). bit (q == p)) p ps, none, later)

-- a request runs at one pod at most
one_place : (x : Place) (ps : List ℕ) → AreDistinct ps → sum_by (λ p. bit (runs_at p x)) ps ≤ 1
one_place place.Held ps d = omega (arith, sum_none (λ (p : ℕ). bit (runs_at p place.Held)) (λ p. refl) ps)
one_place (place.Queued q) ps d = omega (arith, sum_none (λ (p : ℕ). bit (runs_at p (place.Queued q))) (λ p. refl) ps)
one_place (place.Running q x) ps d = once q ps d

pub length-placed : (test : Place → Bool) (q : Request) (qs : List Request) → length (placed_in test (q ∷ qs)) ≡ bit (test q.place) + length (placed_in test qs)
length-placed test q qs = by (test q.place)
  where
    by : (b : Bool) → length (map (λ (r : Request). r.number) (cond b (q ∷ filter (λ (r : Request). test r.place) qs) (filter (λ (r : Request). test r.place) qs)))
        ≡ bit b + length (map (λ (r : Request). r.number) (filter (λ (r : Request). test r.place) qs))
    by true = omega arith
    by false = omega arith

-- one request more, at each pod
pub sum_placed : (ps : List ℕ) (q : Request) (qs : List Request) → sum_by (λ p. length (placed_in (runs_at p) (q ∷ qs))) ps
    ≡ sum_by (λ p. bit (runs_at p q.place)) ps + sum_by (λ p. length (placed_in (runs_at p) qs)) ps
sum_placed ps q qs =
    sum_both (λ (p : ℕ). length (placed_in (runs_at p) (q ∷ qs))) (λ (p : ℕ). bit (runs_at p q.place)) (λ (p : ℕ). length (placed_in (runs_at p) qs)) (λ p. length-placed (runs_at p) q qs) ps

spread : (ps : List ℕ) → AreDistinct ps → (all : List Request) → sum_by (λ p. length (placed_in (runs_at p) all)) ps ≤ length all
spread ps d [] = omega (arith, sum_none (λ (p : ℕ). length (placed_in (runs_at p) [])) (λ p. refl) ps)
spread ps d (q ∷ qs) = omega (arith, sum_placed ps q qs, one_place q.place ps d, spread ps d qs)

pub running_few : (s : Spec) (a : Admission) (c : Trace) → AreViews s a c → AreDistinct (live_pods c) → count_running c ≤ length (live c)
unfolding count_running
running_few s a c views d =
    omega (
      arith,
      sum_same (λ (p : ℕ). length (running_at c p)) (λ (p : ℕ). length (placed_in (runs_at p) a.live)) views.count_running_at (live_pods c),
      spread (live_pods c) d a.live,
      ap length views.live ∙ length-map a.live (λ (q : Request). q.number),
    )
