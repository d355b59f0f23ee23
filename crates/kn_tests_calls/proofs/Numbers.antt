-- The same numbers are there after a change that keeps a pod's number.
use Rattle.std.proofs.Common.{◌≡◌, ℕ, Bool, true, false, ◌||◌, List, [], ◌∷◌, refl, ap, ◌∙◌, nat_eq, cond}
use Rattle.kn_seats.specs.Pods.{Pod, has_pod, with_pod_changed}

number-changed : (x y : Pod) (here : Bool) → y.number ≡ x.number → (cond here y x).number ≡ x.number
number-changed x y true keeps = keeps
number-changed x y false keeps = refl

pub has_pod-changed : (q p : ℕ) (by : Pod → Pod) → ((x : Pod) → (by x).number ≡ x.number) → (pods : List Pod) → has_pod q (with_pod_changed p by pods) ≡ has_pod q pods
has_pod-changed q p by keeps [] = refl
has_pod-changed q p by keeps (x ∷ xs) =
    ap (λ n. nat_eq n q || has_pod q (with_pod_changed p by xs)) (number-changed x (by x) (nat_eq x.number p) (keeps x))
    ∙ ap (λ b. nat_eq x.number q || b) (has_pod-changed q p by keeps xs)
