-- What the words come to where no session does.
use Rattle.std.proofs.Common.{arith, drop, inl, inr, length, refl, take, List, Option, ℕ, ◌++◌, ◌≡◌, ◌≤◌, ◌⊎◌, ◌∙◌}
use Rattle.std.proofs.lemmas.List.{take-append-le, take_all}
use Rattle.kn_journal.specs.declared.status.Status.{Status}
use Rattle.kn_plan.specs.declared.plan_error.PlanError.{PlanError}
use Rattle.kn_plan.specs.declared.plan_error.PlanError.TheVariants as plan_error
use Rattle.kn_serve.specs.declared.open_error.OpenError.{OpenError}
use Rattle.kn_serve.specs.declared.open_error.OpenError.TheVariants as open_error
use Rattle.kn_serve.specs.Running.{Declines, Serves, Session}
use Rattle.kn_serve.specs.Shut.{IsShutWhere, status_of_opening, status_of_plan}

pub shut_by_plan : {P : Type 0} (Asks : P → Type 0) (Rises : Type 0) (e : PlanError) → (e ≡ plan_error.Usage → (plan : P) → Asks plan → ⊥) → IsShutWhere Asks Rises (status_of_plan e)
shut_by_plan Asks Rises plan_error.Usage h = h refl
shut_by_plan Asks Rises plan_error.Memory h = tt

pub shut_by_opening : {P : Type 0} (Asks : P → Type 0) (Rises : Type 0) (e : OpenError) (plan : P) → Asks plan → (e ≡ open_error.Failed → Rises) → IsShutWhere Asks Rises (status_of_opening e)
shut_by_opening Asks Rises open_error.Failed plan asks h = (h refl, (plan, asks))
shut_by_opening Asks Rises open_error.Memory plan asks h = tt

-- what more follows from what became of the keeper, and from what stayed as it was
pub serves_more : (reading : ℕ → Type 0) (count : ℕ) (left left' held held' : Option (List ℕ)) (Slots Ticker More : Session → Type 0) (result : Status)
    → ((x : Session) → Ticker x → More x) → Serves reading count left left' held held' Slots Ticker result → Serves reading count left left' held held' Slots More result
serves_more reading count left left' held held' Slots Ticker More result more s =
    record { session = s.session; is = s.is; said = s.said; whole = s.whole; slots_did = s.slots_did; ticker_did = more s.session s.ticker_did; ends = s.ends }

pub declines_more : (left : Option (List ℕ)) (Same More : Type 0) (result : Status) → (Same → More) → Declines left Same result → Declines left More result
declines_more left Same More result more d = record { error = d.error; said = d.said; status = d.status; same = more d.same }

pub course_more : (reading : ℕ → Type 0) (count : ℕ) (left left' held held' : Option (List ℕ)) (Slots Ticker More : Session → Type 0) (Same Still : Type 0) (result : Status)
    → Declines left Same result ⊎ Serves reading count left left' held held' Slots Ticker result
    → ((x : Session) → Ticker x → More x) → (Same → Still)
    → Declines left Still result ⊎ Serves reading count left left' held held' Slots More result
course_more reading count left left' held held' Slots Ticker More Same Still result (inl d) more still = inl (declines_more left Same Still result still d)
course_more reading count left left' held held' Slots Ticker More Same Still result (inr s) more still = inr (serves_more reading count left left' held held' Slots Ticker More result more s)

-- what a list is after as long a part of it was written back, which is all
pub written_back : {A : Type 0} (n : ℕ) (xs ys : List A) → length xs ≡ length ys → n ≡ length ys → take n (xs ++ drop (length xs) ys) ≡ xs
written_back n xs ys long all =
    let few : n ≤ length xs = omega (arith, long, all) in
    let most : length xs ≤ n = omega (arith, long, all) in
    take-append-le n xs (drop (length xs) ys) few ∙ take_all n xs most
