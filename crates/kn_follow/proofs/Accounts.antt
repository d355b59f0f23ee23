-- What is said of an account is said of one in other words, that writes the same of each journal.
use Rattle.std.proofs.Common.{◌≡◌, ◌++◌, ◌≤◌, ◌+◌, ℕ, List, [], length, sym, ap₂, ◌∙◌, subst, inl, inr, refl}
use Rattle.std.specs.Prelude.{◌⊎◌, Option, None, Some}
use Rattle.std.specs.Io.KnownBytes.{prepend_known}
use Rattle.kn_io.specs.Prefix.{AppendsPrefix}
use Rattle.kn_journal.specs.declared.status.Status.{Status}
use Rattle.kn_journal.specs.declared.status.Status.TheVariants as status
use Rattle.kn_journal.specs.Journal.{Verdict, bad, good, verdict}
use Rattle.kn_journal.specs.Lines.{lines}
use Rattle.kn_follow.specs.Account.{Account, SaysSame, text_of}
use Rattle.kn_follow.specs.Cutting.{CutsAt, LeavesCut}
use Rattle.kn_follow.specs.Endings.{Writes, refusal_of, status_by}
use Rattle.kn_follow.specs.Following.{Breaks, BreaksBeyond, FollowsInput}

same_text : (a b : Account) (v : Verdict) → SaysSame a b → text_of a v ≡ text_of b v
same_text a b (good j) h = ap₂ (λ (x y : List ℕ). x ++ y) (h.body j) (h.close j)
same_text a b (bad None cause) h = refl
same_text a b (bad (Some j) cause) h = h.body j

same_breaks : (a b : Account) (xs : List ℕ) (left : Option (List ℕ)) (front : List ℕ) → SaysSame a b → Breaks a xs left front → Breaks b xs left front
same_breaks a b xs left front h (inl (j, amid, is)) = inl (j, amid, is ∙ h.body j)
same_breaks a b xs left front h (inr none) = inr none

same_beyond : (a b : Account) (xs : List ℕ) (left : Option (List ℕ)) (given : ℕ) (front : List ℕ) → SaysSame a b → BreaksBeyond a xs left given front → BreaksBeyond b xs left given front
same_beyond a b xs left given front h (beyond, most, breaks) = (beyond, most, same_breaks a b xs (prepend_known beyond left) front h breaks)

same_writes : (text other : List ℕ) (end : Status) (P Q : List ℕ → Type 0) (old new : Option (List ℕ)) (result : Status) → text ≡ other → ((front : List ℕ) → P front → Q front)
    → Writes text end P old new result → Writes other end Q old new result
same_writes text other end P Q old new status.ReadFault is h (front, held, p) = (front, held, h front p)
same_writes text other end P Q old new status.WriteFault is h w = subst (AppendsPrefix old new) is w
same_writes text other end P Q old new status.Memory is h w = w
same_writes text other end P Q old new status.Ok is h w = rw (sym is) w
same_writes text other end P Q old new status.Usage is h w = rw (sym is) w
same_writes text other end P Q old new (status.BadInput e) is h w = rw (sym is) w
same_writes text other end P Q old new (status.BadSetup e) is h w = rw (sym is) w
same_writes text other end P Q old new (status.SlotFault slot) is h w = rw (sym is) w
same_writes text other end P Q old new status.ListenFault is h w = rw (sym is) w

pub same_input : (a b : Account) (known left : Option (List ℕ)) (given : ℕ) (old new : Option (List ℕ)) (result : Status) → SaysSame a b
    → FollowsInput a known left given old new result → FollowsInput b known left given old new result
same_input a b None left given old new result h w = tt
same_input a b (Some xs) left given old new result h w =
    same_writes (text_of a (verdict xs)) (text_of b (verdict xs)) (status_by (refusal_of (verdict xs))) (BreaksBeyond a xs left given) (BreaksBeyond b xs left given) old new result
    (same_text a b (verdict xs) h) (λ front breaks. same_beyond a b xs left given front h breaks) w

same_cut : (a b : Account) (all : List (List ℕ)) (left old new : Option (List ℕ)) → SaysSame a b → CutsAt a all left old new → CutsAt b all left old new
same_cut a b all left old new h cut = record {
  own = cut.own;
  rest = cut.rest;
  split = cut.split;
  journal = cut.journal;
  reads = cut.reads;
  before = cut.before;
  latest = cut.latest;
  one = cut.one;
  events = cut.events;
  soon = cut.soon;
  front = cut.front;
  held = cut.held;
  most = most cut.most;
}
  where
    most : (cut.journal.events ≡ []) ⊎ (length (a.body (record cut.journal { events = cut.before })) ≤ length cut.front + 65536)
        → (cut.journal.events ≡ []) ⊎ (length (b.body (record cut.journal { events = cut.before })) ≤ length cut.front + 65536)
    most (inl none) = inl none
    most (inr few) = inr (subst (λ (x : List ℕ). length x ≤ length cut.front + 65536) (h.body (record cut.journal { events = cut.before })) few)

pub same_leaves : (a b : Account) (known left old new : Option (List ℕ)) → SaysSame a b → LeavesCut a known left old new → LeavesCut b known left old new
same_leaves a b None left old new h cut = cut
same_leaves a b (Some xs) left old new h (ahead, few, cut) = (ahead, few, same_cut a b (lines xs) (prepend_known ahead left) old new h cut)
