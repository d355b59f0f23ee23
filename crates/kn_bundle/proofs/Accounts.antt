-- What is said of an account is said of one in other words, that writes the same of each journal.
use Rattle.std.proofs.Common.{◌≡◌, ◌++◌, ℕ, zero, suc, List, [], ◌∷◌, refl, ap₂, ◌∙◌, subst}
use Rattle.std.specs.Prelude.{Option, None, Some}
use Rattle.std.specs.Io.KnownBytes.{Appends, prepend_known}
use Rattle.kn_io.specs.Prefix.{AppendsPrefix}
use Rattle.kn_journal.specs.declared.journal.Journal.{Journal}
use Rattle.kn_journal.specs.declared.status.Status.{Status}
use Rattle.kn_journal.specs.declared.status.Status.TheVariants as status
use Rattle.kn_journal.specs.Lines.{lines}
use Rattle.kn_follow.specs.Account.{Account, SaysSame}
use Rattle.kn_bundle.specs.Bundle.{Bundle, bundle, bundle_of_lines}
use Rattle.kn_bundle.specs.Following.{BreaksBeyond, BreaksIn, FollowsBundle, LacksMemory, WritesUnless, end_in, text_at, text_in, text_of_opened}

same_opened : (a b : Account) (opened : Option Journal) → SaysSame a b → text_of_opened a opened ≡ text_of_opened b opened
same_opened a b None h = refl
same_opened a b (Some j) h = h.body j

same_at : (a b : Account) (k : ℕ) (js : List Journal) (opened : Option Journal) → SaysSame a b → text_at a k js opened ≡ text_at b k js opened
same_at a b zero [] opened h = same_opened a b opened h
same_at a b (suc k) [] opened h = refl
same_at a b zero (j ∷ js) opened h = ap₂ (λ (x y : List ℕ). x ++ y) (h.body j) (h.close j)
same_at a b (suc k) (j ∷ js) opened h = same_at a b k js opened h

same_in : (a b : Account) (k : ℕ) (c : Bundle) → SaysSame a b → text_in a k c ≡ text_in b k c
same_in a b k c h = same_at a b k c.whole c.opened h

same_breaks : (a b : Account) (k : ℕ) (xs : List ℕ) (left : Option (List ℕ)) (given : ℕ) (front : List ℕ) → SaysSame a b → BreaksBeyond a k xs left given front → BreaksBeyond b k xs left given front
same_breaks a b k xs left given front h (beyond, most, breaks) = (beyond, most, same breaks)
  where
    same : BreaksIn a k xs (prepend_known beyond left) front → BreaksIn b k xs (prepend_known beyond left) front
    same w = record {
      bytes = w.bytes;
      mid = w.mid;
      split = w.split;
      whole = w.whole;
      good = w.good;
      text = w.text ∙ same_in a b k (bundle w.bytes) h;
      rest = w.rest;
    }

same_lacks : (a b : Account) (k : ℕ) (all : List (List ℕ)) (front : List ℕ) → SaysSame a b → LacksMemory a k all front → LacksMemory b k all front
same_lacks a b k all front h w = record {
  own = w.own;
  left = w.left;
  split = w.split;
  unopened = w.unopened;
  unrefused = w.unrefused;
  text = w.text ∙ same_in a b k (bundle_of_lines w.own) h;
}

same_writes : (text other : List ℕ) (end : Status) (P Q R S : List ℕ → Type 0) (old new : Option (List ℕ)) (result : Status) → text ≡ other → ((front : List ℕ) → P front → Q front) → ((front : List ℕ) → R front → S front)
    → WritesUnless text end P R old new result → WritesUnless other end Q S old new result
same_writes text other end P Q R S old new status.ReadFault is f k (front, held, p) = (front, held, f front p)
same_writes text other end P Q R S old new status.WriteFault is f k w = subst (AppendsPrefix old new) is w
same_writes text other end P Q R S old new status.Memory is f k (front, held, r) = (front, held, k front r)
same_writes text other end P Q R S old new status.Ok is f k w = (w.0, subst (Appends old new) is w.1)
same_writes text other end P Q R S old new status.Usage is f k w = (w.0, subst (Appends old new) is w.1)
same_writes text other end P Q R S old new (status.BadInput e) is f k w = (w.0, subst (Appends old new) is w.1)
same_writes text other end P Q R S old new (status.BadSetup e) is f k w = (w.0, subst (Appends old new) is w.1)
same_writes text other end P Q R S old new (status.SlotFault slot) is f k w = (w.0, subst (Appends old new) is w.1)
same_writes text other end P Q R S old new status.ListenFault is f k w = (w.0, subst (Appends old new) is w.1)

pub same_bundle : (a b : Account) (k : ℕ) (known left : Option (List ℕ)) (given : ℕ) (old new : Option (List ℕ)) (result : Status) → SaysSame a b → FollowsBundle a k known left given old new result → FollowsBundle b k known left given old new result
same_bundle a b k None left given old new result h w = tt
same_bundle a b k (Some xs) left given old new result h w =
    same_writes (text_in a k (bundle xs)) (text_in b k (bundle xs)) (end_in k (bundle xs)) (BreaksBeyond a k xs left given) (BreaksBeyond b k xs left given) (LacksMemory a k (lines xs)) (LacksMemory b k (lines xs)) old new result
    (same_in a b k (bundle xs) h) (λ front breaks. same_breaks a b k xs left given front h breaks) (λ front lacks. same_lacks a b k (lines xs) front h lacks) w
