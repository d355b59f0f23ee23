-- What a caller tells: its texts and its streams.
use Rattle.std.specs.Prelude.{◌≡◌, ℕ, List, [], ◌∷◌, ◌++◌, take, Option, None, Some, Result}
use Rattle.kn_io.specs.Callers.{streams_of, texts_of}
use Rattle.kn_head.specs.declared.head.Head.{Head}
use Rattle.kn_head.specs.declared.head.HeadError.{HeadError}
use Rattle.kn_head.specs.Reading.{Reads}

-- what stands beside what is written, and what was written to the last connection
pub record Said : Type 0 where
  pub kept : List (List ℕ)
  pub text : List ℕ

abbrev pub said : Option (List (List ℕ)) → Option (List ℕ) → Option Said
said (Some kept) (Some text) = Some record { kept = kept; text = text }
said None text = None
said (Some kept) None = None

-- where something is told, and what is told afterwards
abbrev pub Tells : Option Said → Option Said → (Said → Said → Type 0) → Type 0
Tells old new P = (a : Said) → old ≡ Some a → (b : Said) × (new ≡ Some b) × P a b

abbrev pub wrote : Said → List ℕ → Said
wrote a bytes = record a { text = a.text ++ bytes }

-- the last text grows by these bytes, or by some first of them
abbrev pub Grows : Option Said → Option Said → List ℕ → Type 0
Grows old new bytes = Tells old new (λ a b. b ≡ wrote a bytes)

abbrev pub GrowsFront : Option Said → Option Said → List ℕ → Type 0
GrowsFront old new bytes = Tells old new (λ a b. (n : ℕ) × (b ≡ wrote a (take n bytes)))

-- one text and one stream more: the input of the connection that was taken, in which this head was found
pub record Talks (found : Result Head HeadError) (a b : Said) : Type 0 where
  pub input : List ℕ
  pub kept : b.kept ≡ a.kept ++ a.text ∷ input ∷ []
  pub texts : texts_of b.kept b.text ≡ texts_of a.kept a.text ++ b.text ∷ []
  pub streams : streams_of b.kept ≡ streams_of a.kept ++ input ∷ []
  pub head : Reads input found
