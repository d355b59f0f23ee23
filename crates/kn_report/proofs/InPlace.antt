-- Text that is written in place.
use Rattle.std.proofs.Common.{◌≡◌, ◌+◌, ◌≤◌, ℕ, List, [], ◌∷◌, ◌++◌, length, take, drop, append_assoc, length-append, sym, ap, ◌∙◌, arith}
use Rattle.std.specs.Prelude.{Option, None, Some, IfSome}
use Rattle.std.specs.Fmt.{decimal}
use Rattle.std.proofs.lemmas.List.{drop-take, take-take, take_at, length-take-le}
use Rattle.std.proofs.Math.Seq.{drop-append_seam, take-append-add}
use Rattle.kn_event.specs.declared.entry.Entry.{Entry}
use Rattle.kn_event.specs.declared.entry.Row.{Row}
use Rattle.kn_event.specs.EntryLine.{entry_text, row_text}

-- ---- behind the first bytes

-- pieces in a row make one text
pub two_in_a_row : (start a b one two text : List ℕ) → one ≡ start ++ a → two ≡ one ++ b → text ≡ a ++ b → two ≡ start ++ text
two_in_a_row start a b one two text p q is = q ∙ ap (λ (m : List ℕ). m ++ b) p ∙ append_assoc start a b ∙ ap (λ (m : List ℕ). start ++ m) (sym is)

-- where a text ends
pub text_end : (old new text : List ℕ) (at end : ℕ) → at ≤ length old → end ≤ length new → take end new ≡ take at old ++ text → end ≡ at + length text
text_end old new text at end first within is =
    sym (length-take-le end new within) ∙ ap length is ∙ length-append (take at old) text ∙ ap (λ (n : ℕ). n + length text) (length-take-le at old first)

-- bytes that stand before a text stay
pub stays_before : (old mid new text : List ℕ) (at behind : ℕ) → at ≤ length old → behind ≤ length mid → take behind mid ≡ take at old ++ text → take behind new ≡ take behind mid
    → take at new ≡ take at old
stays_before old mid new text at behind first within is same =
    let long : behind ≡ at + length text = text_end old mid text at behind first within is in
    sym (take-take at behind new (omega arith)) ∙ ap (take at) (same ∙ is) ∙ take_at (take at old) text at (length-take-le at old first)

-- ---- a text that is kept

-- the first bytes of a text that was written
pub front_of : (old new text : List ℕ) (at n m : ℕ) → at ≤ length old → n ≤ m → take (at + m) new ≡ take at old ++ text → take (at + n) new ≡ take at old ++ take n text
front_of old new text at n m first few is =
    sym (take-take (at + n) (at + m) new (omega arith)) ∙ ap (take (at + n)) is
    ∙ ap (λ (k : ℕ). take (k + n) (take at old ++ text)) (sym (length-take-le at old first))
    ∙ take-append-add (take at old) text n

-- a text that was written, and what is kept of it
pub kept : (old new text : List ℕ) (at n m : ℕ) → at ≤ length old → n ≤ m → take (at + n) new ≡ take at old ++ text → take n (take m (drop at new)) ≡ text
kept old new text at n m first few is =
    take-take n m (drop at new) few ∙ sym (drop-take at n new) ∙ ap (drop at) is
    ∙ ap (λ (k : ℕ). drop k (take at old ++ text)) (sym (length-take-le at old first))
    ∙ drop-append_seam (take at old) text

-- ---- rows

pub row_is : (start new text : List ℕ) (r s : Row) → r ≡ s → row_text s ++ 10 ∷ [] ≡ text → new ≡ start ++ text → new ≡ start ++ (row_text r ++ 10 ∷ [])
row_is start new text r s is said h = h ∙ ap (λ (m : List ℕ). start ++ m) (sym said ∙ ap (λ (x : Row). row_text x ++ 10 ∷ []) (sym is))

pub on_some : {X : Type 0} {P Q : X → Type 0} (r : Option X) → ((x : X) → P x → Q x) → IfSome r P → IfSome r Q
on_some None f h = tt
on_some (Some x) f h = f x h

-- a time and what stands after it are the text of an entry
pub behind_time : (start one two : List ℕ) (e : Entry) → one ≡ start ++ decimal e.time → two ≡ one ++ (row_text e.row ++ 10 ∷ []) → two ≡ start ++ entry_text e
unfolding entry_text
behind_time start one two e p q =
    two_in_a_row start (decimal e.time) (row_text e.row ++ 10 ∷ []) one two ((decimal e.time ++ row_text e.row) ++ 10 ∷ []) p q (append_assoc (decimal e.time) (row_text e.row) (10 ∷ []))
