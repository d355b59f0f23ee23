-- One more second, and one more fault.
use Rattle.std.proofs.Common.{◌≡◌, ℕ, ◌+◌, ◌<◌, ◌≤◌, ◌^◌, true, false, List, [], ◌∷◌, refl, ap, arith}
use Rattle.std.specs.List.{All}
use Rattle.std.proofs.lemmas.Bool.Decides.{nat_tests}
use Rattle.std.proofs.lemmas.List.Elements.{All-cons, All-nil, All-head, All-tail, All-weaker}
use Rattle.kn_faults.specs.declared.limiter.Limiter.{Limiter}
use Rattle.kn_faults.specs.Telling.{Stands, faults_in, is_lone, lone, number}

pub none_so_far : (l : Limiter) → l.lone ≡ 0 → l.untold ≡ 0 → Stands l [] 0
unfolding lone
none_so_far l alone untold = record { order = All-nil (λ s. s ≤ l.second); here = alone; once = λ _. omega (arith, untold) }

lone_more : (second : ℕ) (faults : List ℕ) → lone (second ∷ faults) ≡ number (is_lone second faults) + lone faults
unfolding lone
lone_more second faults = refl

-- none came in a later second
none_later : (second most : ℕ) (faults : List ℕ) → All (λ s. s ≤ most) faults → most < second → faults_in second faults ≡ 0
none_later second most [] all later = refl
none_later second most (s ∷ faults) all later =
    let hyp = none_later second most faults (All-tail (λ s. s ≤ most) s faults all) later in
    let this : s ≤ most = All-head (λ s. s ≤ most) s faults all in
    grind (arith, nat_tests, hyp, this)

one_more : (second : ℕ) (faults : List ℕ) → faults_in second (second ∷ faults) ≡ faults_in second faults + 1
one_more second faults = grind (arith, nat_tests)

pub later_second : (l : Limiter) (second : ℕ) → l.second < second → (faults : List ℕ) (counted : ℕ) → Stands l faults counted
    → Stands (record { second = second; lone = 0; untold = l.untold }) faults counted
later_second l second later faults counted h =
    let none = none_later second l.second faults h.order later in
    record {
      order = All-weaker (λ s. s ≤ l.second) (λ s. s ≤ second) (λ s le. omega arith) faults h.order;
      here = grind (arith, none);
      once = h.once;
    }

pub told_alone : (l : Limiter) → l.lone < 10 → (faults : List ℕ) (counted : ℕ) → Stands l faults counted
    → Stands (record { second = l.second; lone = l.lone + 1; untold = l.untold }) (l.second ∷ faults) counted
told_alone l few faults counted h =
    let more = one_more l.second faults in
    let here = h.here in
    let sum = lone_more l.second faults in
    let is : is_lone l.second faults ≡ true = grind (arith, nat_tests) in
    record {
      order = All-cons (λ s. s ≤ l.second) l.second faults (omega arith) h.order;
      here = grind (arith, more);
      once = λ many. (let once = h.once (omega (arith, many)) in let one : number (is_lone l.second faults) ≡ 1 = ap number is in omega (arith, once, sum, one));
    }

pub told_later : (l : Limiter) (untold : ℕ) → 10 ≤ l.lone → (l.untold + 1 < 2 ^ 64 → untold ≡ l.untold + 1) → (faults : List ℕ) (counted : ℕ) → Stands l faults counted
    → Stands (record { second = l.second; lone = l.lone; untold = untold }) (l.second ∷ faults) counted
told_later l untold many fits faults counted h =
    let more = one_more l.second faults in
    let here = h.here in
    let sum = lone_more l.second faults in
    let is : is_lone l.second faults ≡ false = grind (arith, nat_tests) in
    record {
      order = All-cons (λ s. s ≤ l.second) l.second faults (omega arith) h.order;
      here = grind (arith, more);
      once = λ all. (let once = h.once (omega (arith, all)) in let none : number (is_lone l.second faults) ≡ 0 = ap number is in
          let one = fits (omega (arith, all, once)) in omega (arith, once, sum, none, one));
    }
