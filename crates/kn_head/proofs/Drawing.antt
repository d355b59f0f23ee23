-- Reads one after the other.
use Rattle.std.proofs.Common.{ℕ, List, ◌++◌, Option, None, Some, IfSome, sym, subst, ap, ◌∙◌, arith, append_assoc}
use Rattle.std.specs.Io.KnownBytes.{Consumes, Keeps}
use Rattle.kn_head.specs.Told.{Draws}

consumes_more : (a b c : Option (List ℕ)) (xs ys : List ℕ) → Consumes a b xs → Consumes b c ys → Consumes a c (xs ++ ys)
consumes_more None b c xs ys p q = tt
consumes_more (Some x) None c xs ys p q = absurd p
consumes_more (Some x) (Some y) None xs ys p q = absurd q
consumes_more (Some x) (Some y) (Some z) xs ys p q = p ∙ (ap (λ l. xs ++ l) q ∙ sym (append_assoc xs ys z))

pub keeps_more : (a b c : Option (List ℕ)) → Keeps a b → Keeps b c → Keeps a c
keeps_more None b c p q = tt
keeps_more (Some x) None c p q = absurd p
keeps_more (Some x) (Some y) None p q = absurd q
keeps_more (Some x) (Some y) (Some z) p q = q ∙ p

pub draws_more : {a b c : Option (List ℕ)} {x y z : Option (List (List ℕ))} {f g h : ℕ}
    → Draws a b x y f g → Draws b c y z g h → Draws a c x z f h
draws_more {a} {b} {c} d e = record {
  front = (d.front.0 ++ e.front.0, consumes_more a b c d.front.0 e.front.0 d.front.1 e.front.1);
  apart_stays = e.apart_stays ∙ d.apart_stays;
  never_falls = omega (arith, d.never_falls, e.never_falls);
}

-- what holds of bytes that are kept held of them before
pub kept_holds : (old new : Option (List ℕ)) (P : List ℕ → Type 0) → Keeps old new → IfSome new P → IfSome old P
kept_holds None new P same holds = tt
kept_holds (Some xs) None P same holds = absurd same
kept_holds (Some xs) (Some ys) P same holds = subst P same holds
