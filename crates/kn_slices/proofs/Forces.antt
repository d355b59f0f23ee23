-- The limits in force after a call, pod by pod and as a list.
use Rattle.std.proofs.Common.{◌≡◌, ◌<◌, ℕ, suc, ◌+◌, List, [], ◌∷◌, length, get_or, refl, arith, subst}
use Rattle.kn_slices.specs.Slices.{force_after, forces_from, hold}

forces_are : {A : Type 0} (limit running : ℕ → A → ℕ) (parts : List A) (p : ℕ) (wanted force new : List ℕ) → length force ≡ length wanted → length new ≡ length wanted
    → ((k : ℕ) → k < length wanted → get_or new k 0 ≡ force_after (hold (limit (p + k)) (running (p + k)) parts) (get_or wanted k 0) (get_or force k 0))
    → new ≡ forces_from limit running parts p wanted force
forces_are limit running parts p [] [] [] a b h = refl
forces_are limit running parts p [] (f ∷ fs) new a b h = absurd (omega (arith, a))
forces_are limit running parts p [] [] (n ∷ ns) a b h = absurd (omega (arith, b))
forces_are limit running parts p (w ∷ ws) [] new a b h = absurd (omega (arith, a))
forces_are limit running parts p (w ∷ ws) (f ∷ fs) [] a b h = absurd (omega (arith, b))
forces_are limit running parts p (w ∷ ws) (f ∷ fs) (n ∷ ns) a b h =
    let here : n ≡ force_after (hold (limit p) (running p) parts) w f = subst (λ q. n ≡ force_after (hold (limit q) (running q) parts) w f) (omega arith) (h 0 (omega arith)) in
    let rest : ns ≡ forces_from limit running parts (p + 1) ws fs = forces_are limit running parts (p + 1) ws fs ns (omega (arith, a)) (omega (arith, b))
    (λ k low. subst (λ q. get_or ns k 0 ≡ force_after (hold (limit q) (running q) parts) (get_or ws k 0) (get_or fs k 0)) (omega arith) (h (suc k) (omega (arith, low)))) in
    rw (← here, ← rest) refl

pub forces_all : {A : Type 0} (limit running : ℕ → A → ℕ) (parts : List A) (wanted force new : List ℕ) → length force ≡ length wanted → length new ≡ length wanted
    → ((k : ℕ) → k < length wanted → get_or new k 0 ≡ force_after (hold (limit k) (running k) parts) (get_or wanted k 0) (get_or force k 0))
    → new ≡ forces_from limit running parts 0 wanted force
forces_all limit running parts wanted force new a b h =
    forces_are limit running parts 0 wanted force new a b
    (λ k low. subst (λ q. get_or new k 0 ≡ force_after (hold (limit q) (running q) parts) (get_or wanted k 0) (get_or force k 0)) (omega arith) (h k low))
