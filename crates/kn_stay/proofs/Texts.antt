-- What was printed in parts: the preface, the rows that the scribe took out, and those that were left.
use Rattle.std.proofs.Common.{◌≡◌, ◌≤◌, ◌+◌, ℕ, List, [], ◌++◌, length, length-append, take, append_assoc, append-nil, refl, sym, ap, ◌∙◌, subst, arith}
use Rattle.std.specs.Prelude.{Option, codes}
use Rattle.std.specs.Io.KnownBytes.{Appends}
use Rattle.std.proofs.KnownBytes.{Appends-trans}
use Rattle.std.proofs.lemmas.List.{take_at, take-append-le}
use Rattle.std.proofs.Math.Seq.{take-append-add}
use Rattle.kn_cell.specs.declared.past.Past.{Past}
use Rattle.kn_cell.specs.Lists.{StartsWith}
use Rattle.kn_io.specs.Prefix.{AppendsPrefix}
use Rattle.kn_journal.specs.declared.journal.Setup.{Setup}
use Rattle.kn_print.specs.Printed.{PrintedLaws, lines_of, lines_to_end, preface, printed}

-- a list that begins with two others of one length begins with one list
pub same_front : (a b all : List Past) → StartsWith all a → StartsWith all b → length a ≡ length b → a ≡ b
same_front a b all s t h = sym (take_at a s.0 (length b) h) ∙ ap (take (length b)) (sym s.1 ∙ t.1) ∙ take_at b t.0 (length b) refl

-- the whole text is what was printed up to the rows that were left, and then these
pub text_of_parts : PrintedLaws → (setup : Setup) (start : ℕ) (front rest : List Past)
    → printed setup start (front ++ rest) ≡ (preface setup start ++ lines_of front) ++ lines_to_end rest
text_of_parts laws setup start front rest =
    laws.whole setup start (front ++ rest)
    ∙ ap (λ (z : List ℕ). preface setup start ++ (z ++ codes "end\n")) (laws.more front rest)
    ∙ ap (λ (z : List ℕ). preface setup start ++ z) (append_assoc (lines_of front) (lines_of rest) (codes "end\n"))
    ∙ sym (append_assoc (preface setup start) (lines_of front) (lines_to_end rest))

-- all of a text was written and some of what stands behind it: that is some of the whole, and no less than the first
pub record IsSome (a b : Option (List ℕ)) (first whole : List ℕ) : Type 0 where
  pub many : ℕ
  pub least : length first ≤ many
  pub most : many ≤ length whole
  pub printed : Appends a b (take many whole)

pub some_of : (a b c : Option (List ℕ)) (x y z : List ℕ) → Appends a b x → AppendsPrefix b c y → IsSome a c x (x ++ (y ++ z))
some_of a b c x y z h k =
    let text : take (length x + k.0) (x ++ (y ++ z)) ≡ x ++ take k.0 y = take-append-add x (y ++ z) k.0 ∙ ap (λ (w : List ℕ). x ++ w) (take-append-le k.0 y z k.1) in
    record {
      many = length x + k.0;
      least = omega arith;
      most = (let few = k.1 in omega (arith, few, length-append x (y ++ z), length-append y z));
      printed = subst (Appends a c) (sym text) (Appends-trans a b c x (take k.0 y) h k.2);
    }

-- .. where the scribe couldn't write: of the rows that it took out, some were printed
pub some_taken : PrintedLaws → (a b c : Option (List ℕ)) (setup : Setup) (start : ℕ) (front rest : List Past)
    → Appends a b (preface setup start) → AppendsPrefix b c (lines_of front) → IsSome a c (preface setup start) (printed setup start (front ++ rest))
some_taken laws a b c setup start front rest h k =
    let text : printed setup start (front ++ rest) ≡ preface setup start ++ (lines_of front ++ lines_to_end rest) =
    text_of_parts laws setup start front rest ∙ append_assoc (preface setup start) (lines_of front) (lines_to_end rest) in
    subst (IsSome a c (preface setup start)) (sym text) (some_of a b c (preface setup start) (lines_of front) (lines_to_end rest) h k)

-- .. where what was left couldn't be written
pub some_left : PrintedLaws → (a b c d : Option (List ℕ)) (setup : Setup) (start : ℕ) (front rest : List Past)
    → Appends a b (preface setup start) → Appends b c (lines_of front) → AppendsPrefix c d (lines_to_end rest) → IsSome a d (preface setup start) (printed setup start (front ++ rest))
some_left laws a b c d setup start front rest h k l =
    let first = preface setup start ++ lines_of front in
    let some = some_of a c d first (lines_to_end rest) [] (Appends-trans a b c (preface setup start) (lines_of front) h k) l in
    let text : printed setup start (front ++ rest) ≡ first ++ (lines_to_end rest ++ []) =
    text_of_parts laws setup start front rest ∙ ap (λ (z : List ℕ). first ++ z) (sym (append-nil (lines_to_end rest))) in
    let all : IsSome a d first (printed setup start (front ++ rest)) = subst (IsSome a d first) (sym text) some in
    record {
      many = all.many;
      least = (let least = all.least in omega (arith, least, length-append (preface setup start) (lines_of front)));
      most = all.most;
      printed = all.printed;
    }

-- .. and where all was written
pub all_printed : PrintedLaws → (a b c d : Option (List ℕ)) (setup : Setup) (start : ℕ) (front rest : List Past)
    → Appends a b (preface setup start) → Appends b c (lines_of front) → Appends c d (lines_to_end rest) → Appends a d (printed setup start (front ++ rest))
all_printed laws a b c d setup start front rest h k l =
    subst (Appends a d) (sym (text_of_parts laws setup start front rest))
    (Appends-trans a c d (preface setup start ++ lines_of front) (lines_to_end rest) (Appends-trans a b c (preface setup start) (lines_of front) h k) l)
