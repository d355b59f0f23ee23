-- What one row does to how many run at a pod.
use Rattle.std.proofs.Common.{◌≡◌, ◌≤◌, ◌<◌, ℕ, ◌+◌, Bool, true, false, not, cond, List, [], ◌∷◌, ◌++◌, map, filter, length, refl, ap, ◌∙◌, sym, arith, ◌||◌, eqb}
use Rattle.std.specs.Prelude.{◌==◌}
use Rattle.std.specs.List.{AllPairs}
use Rattle.std.proofs.lemmas.Bool.{eqb-true}
use Rattle.std.proofs.Common.{eq-eqb}
use Rattle.kn_event.specs.declared.entry.Row.{Row}
use Rattle.kn_event.specs.declared.entry.Row.TheVariants as row
use Rattle.kn_event.specs.Lists.{contains}
use Rattle.kn_record.specs.declared.admission.Place.{Place}
use Rattle.kn_record.specs.declared.admission.Place.TheVariants as place
use Rattle.kn_record.specs.declared.admission.Request.{Request}
use Rattle.kn_record.specs.Admission.{begun, begun_at, live_after, moved_to, placed_in, queues_at, runs_at}
use Rattle.kn_limits.specs.Limits.{seats_nobody}
use Rattle.kn_limits.proofs.Counting.{EachOf, changed, false-true, left_out, one_more}

-- the requests of a list that run at pod p
abbrev pub running_in : ℕ → List Request → List Request
running_in p live = filter (λ q. runs_at p q.place) live

-- one more, that doesn't run
more-waits : (p : ℕ) (live : List Request) (q : Request) → runs_at p q.place ≡ false → length (running_in p (live ++ q ∷ [])) ≤ length (running_in p live)
more-waits p [] q e = rw e (omega arith)
more-waits p (x ∷ xs) q e = by (runs_at p x.place) (more-waits p xs q e)
  where
    by : (b : Bool) → length (running_in p (xs ++ q ∷ [])) ≤ length (running_in p xs) → length (cond b (x ∷ running_in p (xs ++ q ∷ [])) (running_in p (xs ++ q ∷ []))) ≤ length (cond b (x ∷ running_in p xs) (running_in p xs))
    by true le = omega (arith, le)
    by false le = le

-- a row that seats nobody
pub row-seats_nobody : (p t : ℕ) (x : Row) (live : List Request) → seats_nobody x ≡ true → length (running_in p (live_after t x live)) ≤ length (running_in p live)
row-seats_nobody p t (row.Admit r tag) live e = more-waits p live (record { number = r; time = t; place = place.Held }) refl
row-seats_nobody p t (row.Direct r q) live e = more-waits p live (record { number = r; time = t; place = place.Queued q }) refl
row-seats_nobody p t (row.Assign r q) live e = absurd (false-true e)
row-seats_nobody p t (row.Run r) live e = absurd (false-true e)
row-seats_nobody p t (row.Finish r ok) live e = left_out (λ q. runs_at p q.place) (λ q. not (r == q.number)) live
row-seats_nobody p t (row.Expire r) live e = left_out (λ q. runs_at p q.place) (λ q. not (r == q.number)) live
row-seats_nobody p t (row.Cancel r) live e = left_out (λ q. runs_at p q.place) (λ q. not (r == q.number)) live
row-seats_nobody p t (row.LostRequest r) live e = left_out (λ q. runs_at p q.place) (λ q. not (r == q.number)) live
row-seats_nobody p t _ live e = omega arith

-- an assignment elsewhere
pub assign-elsewhere : (p t r q : ℕ) (live : List Request) → (q == p) ≡ false → length (running_in p (live_after t (row.Assign r q) live)) ≤ length (running_in p live)
assign-elsewhere p t r q live apart = changed (moved_to r (place.Running q true)) (λ z. runs_at p z.place) live (each live)
  where
    one : (b : Bool) (x : Request) → runs_at p (cond b (record x { place = place.Running q true }) x).place ≡ true → runs_at p x.place ≡ true
    one true x h = absurd (false-true (sym apart ∙ h))
    one false x h = h

    each : (xs : List Request) → EachOf (λ x. runs_at p (moved_to r (place.Running q true) x).place ≡ true → runs_at p x.place ≡ true) xs
    each [] = tt
    each (x ∷ xs) = (one (r == x.number) x, each xs)

-- an assignment here
pub assign-one : (p t r q : ℕ) (live : List Request) → AllPairs (λ (x y : Request). x.number < y.number) live → length (running_in p (live_after t (row.Assign r q) live)) ≤ length (running_in p live) + 1
assign-one p t r q live pairs = one_more (moved_to r (place.Running q true)) (λ z. runs_at p z.place) r live pairs (λ x e. same (r == x.number) x e)
  where
    same : (b : Bool) (x : Request) → b ≡ false → cond b (record x { place = place.Running q true }) x ≡ x
    same true x e = absurd (false-true (sym e))
    same false x e = refl

-- a run
pub run-one : (p t r : ℕ) (live : List Request) → AllPairs (λ (x y : Request). x.number < y.number) live → length (running_in p (live_after t (row.Run r) live)) ≤ length (running_in p live) + 1
run-one p t r live pairs = one_more (begun_at r) (λ z. runs_at p z.place) r live pairs (λ x e. same (r == x.number) x e)
  where
    same : (b : Bool) (x : Request) → b ≡ false → cond b (record x { place = begun x.place }) x ≡ x
    same true x e = absurd (false-true (sym e))
    same false x e = refl

-- a run of a request that isn't queued here
pub run-elsewhere : (p t r : ℕ) (live : List Request) → contains r (placed_in (queues_at p) live) ≡ false → length (running_in p (live_after t (row.Run r) live)) ≤ length (running_in p live)
run-elsewhere p t r live apart = changed (begun_at r) (λ z. runs_at p z.place) live (each live apart)
  where
    begins_there : (x : Place) → runs_at p (begun x) ≡ true → queues_at p x ≡ false → runs_at p x ≡ true
    begins_there place.Held h out = h
    begins_there (place.Queued q) h out = absurd (false-true (sym out ∙ h))
    begins_there (place.Running q a) h out = h

    one : (b : Bool) (x : Request) → (b ≡ true → queues_at p x.place ≡ false) → runs_at p (cond b (record x { place = begun x.place }) x).place ≡ true → runs_at p x.place ≡ true
    one true x out h = begins_there x.place h (out refl)
    one false x out h = h

    either : (b rest : Bool) → (b || rest) ≡ false → (b ≡ false) × (rest ≡ false)
    either true rest e = absurd (false-true (sym e))
    either false rest e = (refl, e)

    apart_from : (a : ℕ) → eqb a r ≡ false → eqb r a ≡ true → ⊥
    apart_from a f t = false-true (sym f ∙ ap (λ z. eqb z r) (sym (eqb-true r a t)) ∙ eq-eqb r r refl)

    head : (b : Bool) (x : Request) (xs : List Request) → queues_at p x.place ≡ b → contains r (map (λ q. q.number) (cond b (x ∷ filter (λ q. queues_at p q.place) xs) (filter (λ q. queues_at p q.place) xs))) ≡ false
        → (contains r (placed_in (queues_at p) xs) ≡ false) × ((r == x.number) ≡ true → queues_at p x.place ≡ false)
    head true x xs is out = let (away, rest) = either (x.number == r) (contains r (placed_in (queues_at p) xs)) out in (rest, λ t. absurd (apart_from x.number away t))
    head false x xs is out = (out, λ t. is)

    each : (xs : List Request) → contains r (placed_in (queues_at p) xs) ≡ false → EachOf (λ x. runs_at p (begun_at r x).place ≡ true → runs_at p x.place ≡ true) xs
    each [] out = tt
    each (x ∷ xs) out = let h = head (queues_at p x.place) x xs refl out in (one (r == x.number) x h.1, each xs h.0)
