-- What a pass records of one request, and what its pod is called with.
use Rattle.std.specs.Prelude.{◌≡◌, ◌⊎◌, ℕ, Bool, true, List, [], ◌∷◌, ◌++◌, Option, Some, Result, is_ok}
use Rattle.kn_event.specs.declared.event.Act.{Act}
use Rattle.kn_event.specs.declared.event.Act.TheVariants as act
use Rattle.kn_event.specs.declared.event.Stand.TheVariants as stand
use Rattle.kn_trace.specs.Outcome.{Finished, outcome_of}
use Rattle.kn_trace.specs.Trace.{Trace, proxied, stand_of}
use Rattle.kn_book.specs.Book.{call_address}
use Rattle.kn_core.specs.State.{StandsFor}
use Rattle.kn_cell.specs.declared.past.Past.{Past}
use Rattle.kn_cell.specs.Lists.{StartsWith}
use Rattle.kn_cell.specs.Desk.{event_by_clock}
use Rattle.kn_cell.specs.History.{clock_after, past, trace_after}
use Rattle.kn_cell.specs.Shown.{PassView}
use Rattle.kn_io.specs.Links.{Link, Tells, called}
use Rattle.kn_io.specs.declared.links.LinkError.{LinkError}
use Rattle.kn_head.specs.declared.head.Head.{Head}
use Rattle.kn_head.specs.Forwarding.{forwarded}
use Rattle.kn_request.specs.Laws.{is_lapsed}
use Rattle.kn_request.specs.Sight.{EndsBy, IsAlone, IsLeft, IsRunning, StandsAt, sight}
use Rattle.kn_request.specs.Terms.{MayCancel, Terms}

-- a row of the pass: its time is the larger of a reading and the clock just before it, at most 2^42
pub record Recorded (reading : ℕ → Type 0) (p : PassView) (a : Act) : Type 0 where
  pub row : Past
  pub front : List Past
  pub at : ℕ
  pub is_reading : reading at
  pub row_is : row ≡ past p.number (event_by_clock (clock_after p.opening.clock front) at a) row.told
  pub place : StartsWith p.seen (front ++ row ∷ [])

-- at most one cancel of the request, at or after the time that it was due, or where its client has left
abbrev pub AreCancels : Terms → ℕ → ℕ → PassView → List Past → Type 0
AreCancels terms due r p xs = (xs ≡ []) ⊎ ((x : Recorded terms.reading p (act.Cancel r)) × MayCancel terms due x.at × (xs ≡ x.row ∷ []))

abbrev pub AreFinishes : (ℕ → Type 0) → ℕ → Bool → PassView → List Past → Type 0
AreFinishes reading r ok p xs = (xs ≡ []) ⊎ ((x : Recorded reading p (act.Finish r ok)) × (xs ≡ x.row ∷ []))

-- the finish was recorded, and it is how the request ended
pub record IsFinished (reading : ℕ → Type 0) (r : ℕ) (ok : Bool) (p : PassView) (xs : List Past) (c : Trace) : Type 0 where
  pub finish : Recorded reading p (act.Finish r ok)
  pub rows : xs ≡ finish.row ∷ []
  pub ended : stand_of (sight p c) r ≡ stand.Ended
  pub by : outcome_of (sight p c) r ≡ Some (Finished ok)

-- a finish was recorded, or not; where nobody else ended the request it was
abbrev pub Finishes : (ℕ → Type 0) → ℕ → Bool → PassView → PassView → Type 0
Finishes reading r ok old new = (xs : List Past) × AreFinishes reading r ok new xs × (new.mine ≡ old.mine ++ xs)
    × (IsAlone new r → (c : Trace) → StandsFor new.opening c → IsFinished reading r ok new xs c)

-- .. of a request that was found running
abbrev pub FinishesRunning : (ℕ → Type 0) → ℕ → Bool → PassView → PassView → Type 0
FinishesRunning reading r ok old new = (xs : List Past) × AreFinishes reading r ok new xs × (new.mine ≡ old.mine ++ xs)
    × (IsRunning old r → IsAlone new r → (c : Trace) → StandsFor new.opening c → IsFinished reading r ok new xs c)

-- the one call of the pod where the request ran, in the form that it came by
pub record CallsPod (head : Head) (wire wire' : Option Link) (p : PassView) (r : ℕ) (reply : Result (List ℕ) LinkError) : Type 0 where
  pub pod : ℕ
  pub way : Bool
  -- it was found running at the pod, to which it had come by this way
  pub before : List Past
  pub early : StartsWith p.seen before
  pub ran : (c : Trace) → StandsFor p.opening c → stand_of (trace_after p.opening.spec c before) r ≡ stand.Running pod
  pub form : (c : Trace) → StandsFor p.opening c → way ≡ proxied (trace_after p.opening.spec c before) r
  -- the call went to the address that the pod had then: to its number, where the cell has no book of addresses
  pub at : ℕ
  pub address : (c : Trace) → StandsFor p.opening c → at ≡ call_address p.book (trace_after p.opening.spec c before) pod
  pub calls : Tells wire wire' (λ link. called link at (forwarded head way) reply)

-- the request ran, and was finished
pub record WasRun (terms : Terms) (due : ℕ) (head : Head) (r : ℕ) (old new : PassView) (wire wire' : Option Link) (reply : Result (List ℕ) LinkError) : Type 0 where
  pub call : CallsPod head wire wire' new r reply
  pub cancel : List Past
  pub cancel_is : AreCancels terms due r new cancel
  pub finish : List Past
  pub finish_is : AreFinishes terms.reading r (is_ok reply) new finish
  pub mine : new.mine ≡ old.mine ++ (cancel ++ finish)
  pub ended : IsAlone new r → (c : Trace) → StandsFor new.opening c → IsFinished terms.reading r (is_ok reply) new finish c

-- the request waited, and was never found running
pub record WasLost (terms : Terms) (due r : ℕ) (old new : PassView) : Type 0 where
  pub cancel : List Past
  pub cancel_is : AreCancels terms due r new cancel
  pub mine : new.mine ≡ old.mine ++ cancel
  pub ended : StandsAt new r stand.Ended
  pub lapsed : IsLeft old r → IsAlone new r → EndsBy new r (λ o. is_lapsed o ≡ true)

-- ---- how a request leaves its queue

-- `mine` grew by nothing, or by a cancel of the request, at or after the time that it was due, or where its client has left
abbrev pub Cancels : Terms → ℕ → ℕ → PassView → PassView → Type 0
Cancels terms due r old new = (new.mine ≡ old.mine) ⊎ ((x : Recorded terms.reading new (act.Cancel r)) × MayCancel terms due x.at × (new.mine ≡ old.mine ++ x.row ∷ []))
