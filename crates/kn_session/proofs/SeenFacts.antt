-- One revision of a session: its history, its ticker, and what its slots did, from the passes of its cell.
use Rattle.std.proofs.Common.{◌≡◌, ◌⊎◌, ◌<◌, ◌+◌, inl, inr, ℕ, List, [], ap, subst, length}
use Rattle.std.specs.Prelude.{Option, Some, slice_index_or}
use Rattle.kn_core.specs.State.{RevisionState, StandsForSome}
use Rattle.kn_cell.specs.declared.past.Past.{Past}
use Rattle.kn_cell.specs.Lists.{Each}
use Rattle.kn_cell.specs.History.{rows_by}
use Rattle.kn_cell.specs.Shown.{PassView}
use Rattle.kn_io.specs.Links.{Link}
use Rattle.kn_request.specs.Wide.{TicksOf}
use Rattle.kn_session.specs.Keeper.{ProbedBy}
use Rattle.kn_session.specs.Laws.{SessionLaws}
use Rattle.kn_session.specs.Lists.{HasOne}
use Rattle.kn_session.specs.Own.{IsAloneIn, IsArrivalOf}
use Rattle.kn_session.specs.Passes.{IsNewOf, Kind, plain_kind}
use Rattle.kn_session.specs.Session.{IsClosedAs, IsFine, IsOneHistory, IsPart, IsRowOf, IsSlots, IsTicked, IsTickedIn}
use Rattle.kn_session.proofs.AloneFacts.{alone_of}
use Rattle.kn_session.proofs.KeeperFacts.{keeper_visited, plain_probed}
use Rattle.kn_session.proofs.ListFacts.{in_rows}
use Rattle.kn_session.proofs.OwnFacts.{Asking, GrowsOwn, Ticking, fresh_asking, fresh_own, ticker_ticking, ticking_fine, ticking_own}
use Rattle.kn_session.proofs.SessionFacts.{own_rows, some_of}

-- a slot's pass at the end, and a new one before it
pub record Asks (last : Option PassView) : Type 0 where
  pub old : PassView
  pub new : PassView
  pub is : last ≡ Some new
  pub none : old.mine ≡ []
  pub own : GrowsOwn old new

-- the history that a cell of this kind was closed with, the ticker's pass before and after, and the slots', of which f finds the one
pub record Seen {A : Type 0} (f : A → Option PassView) (xs : List A) (reading : ℕ → Type 0) (k : Kind) (start : ℕ) (w w' : Option Link) (n n' : ℕ) (h : List Past) : Type 0 where
  pub old : PassView
  pub new : PassView
  pub fresh : IsNewOf k 1 old
  pub ticks : TicksOf reading start old new w w' n n'
  pub revision : RevisionState
  pub closed : IsClosedAs k.opening revision h
  pub ticker : IsPart h 1 new
  pub kept : (i : ℕ) (d : A) → i < length xs → (q : PassView) → f (slice_index_or xs i d) ≡ Some q → IsPart h (2 + i) q
  pub rows : Each (λ x. (x.pass ≡ 1) ⊎ IsSlots (length xs) x) h
  pub asks : (i : ℕ) (d : A) → i < length xs → Asks (f (slice_index_or xs i d))

module _ {A : Type 0} (f : A → Option PassView) (xs : List A) (reading : ℕ → Type 0) (k : Kind) (start : ℕ) (w w' : Option Link) (n n' : ℕ) (h : List Past) (x : Seen f xs reading k start w w' n n' h) where
  own_ticks : Each Ticking x.new.mine
  own_ticks = ticker_ticking reading start x.old x.new w w' x.ticks.turns x.fresh.mine

  seen_rows : Each (IsRowOf (length xs)) h
  seen_rows j r at = elim (x.rows j r at) [
    | inl e ↦ inl (e, in_rows Ticking 1 h j r at e (subst (Each Ticking) x.ticker.whole own_ticks))
    | inr s ↦
        let d = some_of xs s.0 s.1 in
        let y = x.asks s.0 d s.1 in
        inr (s, in_rows Asking (2 + s.0) h j r at s.2 (subst (Each Asking) (x.kept s.0 d s.1 y.new y.is).whole (fresh_asking y.old y.new y.none y.own)))
  ]

  pub seen_alone : SessionLaws → (m r : ℕ) → HasOne (IsArrivalOf r) (rows_by m h) → IsAloneIn h m r
  seen_alone laws =
      let known : StandsForSome k.opening = subst (λ (v : Kind). StandsForSome v.opening) x.fresh.kind x.ticks.turns.1.later.some in
      let own = own_rows h (length xs) x.new x.rows x.ticker (ticking_own x.new.mine own_ticks) (λ i low.
      let d = some_of xs i low in
      let y = x.asks i d low in
      (y.new, fresh_own y.old y.new y.none y.own, x.kept i d low y.new y.is)) in
      alone_of laws k.opening h known x.closed.legal own

  pub one_history : SessionLaws → IsOneHistory (length xs) k.opening h
  one_history laws = record {
    legal = x.closed.legal;
    bounds = x.closed.bounds;
    lawful = x.closed.lawful;
    settled = x.closed.settled;
    alone = seen_alone laws;
    rows = seen_rows;
  }

  pub seen_ticked : SessionLaws → IsTickedIn reading start k h w w' n n'
  seen_ticked laws = record {
    served = record { first = x.old; last = x.new; fresh = x.fresh; turns = x.ticks.turns; apart = x.ticks.apart; part = x.ticker };
    probed = subst (λ b. ProbedBy b k.opening h w w') (ap (λ (v : Kind). v.book) x.fresh.kind)
        (keeper_visited laws k.opening reading start h (length xs) x.old x.new w w' x.ticks.turns x.fresh.mine x.fresh.seen (ap (λ (v : Kind). v.opening) x.fresh.kind) x.ticker seen_rows);
    never_falls = x.ticks.never_falls;
  }

  -- where no slot's pass made a failed finish, there is none
  pub seen_fine : ((i : ℕ) (d : A) (low : i < length xs) → (q : PassView) × (f (slice_index_or xs i d) ≡ Some q) × Each IsFine q.mine) → Each IsFine h
  seen_fine fine j r at = elim (seen_rows j r at) [
    | inl t ↦ ticking_fine r t.1
    | inr s ↦
        let d = some_of xs s.0.0 s.0.1 in
        let y = fine s.0.0 d s.0.1 in
        in_rows IsFine (2 + s.0.0) h j r at s.0.2 (subst (Each IsFine) (x.kept s.0.0 d s.0.1 y.0 y.1).whole y.2)
  ]

-- .. where the history is kept whole and a pod's number is its address
pub ticked_as : SessionLaws → (reading : ℕ → Type 0) (start : ℕ) (b : RevisionState) (room : ℕ) (h : List Past) (w w' : Option Link) (n n' : ℕ) → IsTickedIn reading start (plain_kind b room) h w w' n n' → IsTicked reading start b room h w w' n n'
ticked_as laws reading start b room h w w' n n' x =
    let known : StandsForSome b = subst (λ (v : Kind). StandsForSome v.opening) x.served.fresh.kind x.served.turns.1.later.some in
    record { served = x.served; probed = plain_probed laws b h w w' known x.probed; never_falls = x.never_falls }
