-- What whole lines are among bytes, as laws that proofs about readers stand on.
use Rattle.std.specs.Prelude.{◌≡◌, ℕ, Bool, List, [], ◌++◌, Option}
use Rattle.kn_journal.specs.Lines.{lines}
use Rattle.kn_journal.specs.Reading.{AreWhole, EndsWithLf, IsCutOff, TakesText}

pub record TextLaws : Type 0 where
  pub none : lines [] ≡ []
  -- a text that ends with LF, or that the input's end cut, is whole
  pub whole : (cut : Bool) (text left : List ℕ) → IsCutOff cut text left → AreWhole text left
  pub ends : (text more : List ℕ) → EndsWithLf more → EndsWithLf (text ++ more)
  pub ends_still : (text more : List ℕ) → EndsWithLf text → more ≡ [] → EndsWithLf (text ++ more)
  -- behind whole lines come those of the bytes that follow them
  pub ended : (text more : List ℕ) → EndsWithLf text → lines (text ++ more) ≡ lines text ++ lines more
  pub behind : (text rest more left : List ℕ) → AreWhole text rest → rest ≡ more ++ left → lines (text ++ more) ≡ lines text ++ lines more
  -- the lines that were taken are those of the text that was
  pub own : (all text rest : List ℕ) (taken : List (List ℕ)) → all ≡ text ++ rest → AreWhole text rest → lines all ≡ taken ++ lines rest → lines text ≡ taken
  -- some lines were taken, and then others
  pub more : (cut last : Bool) (x y z : Option (List ℕ)) → TakesText cut x y → TakesText last y z → TakesText last x z
