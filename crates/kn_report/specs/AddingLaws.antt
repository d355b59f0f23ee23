-- What is so of text that waits to be written, as laws that proofs above stand on.
use Rattle.std.specs.Prelude.{◌≡◌, [], ◌++◌, ℕ, List, Option}
use Rattle.std.specs.Io.KnownBytes.{Appends}
use Rattle.kn_io.specs.Prefix.{AppendsPrefix}
use Rattle.kn_report.specs.Waiting.{Adds}

-- p, then q, then r wait, x and then y came behind it, and a, then b, then d is what the output holds
pub record AddingLaws : Type 0 where
  -- where nothing comes and nothing is written, what waited waits
  pub nothing : {a : Option (List ℕ)} {p : List ℕ} → Adds a a p p []
  -- a text may come behind what waits, and nothing be written
  pub waits : {a : Option (List ℕ)} {p q x : List ℕ} → p ++ x ≡ q → Adds a a p q x
  -- where one text came and then another, both did
  pub more : {a b d : Option (List ℕ)} {p q r x y text : List ℕ}
      → Adds a b p q x → Adds b d q r y → x ++ y ≡ text → Adds a d p r text
  -- where one came and then none, it alone did
  pub on : {a b d : Option (List ℕ)} {p q r x : List ℕ} → Adds a b p q x → Adds b d q r [] → Adds a d p r x
  -- where nothing waits any more, a text that is written then came and was written
  pub past : {a b d : Option (List ℕ)} {p q x : List ℕ} → Adds a b p q [] → q ≡ [] → Appends b d x → Adds a d p q x
  -- then what waited and what came was written
  pub done : {a b : Option (List ℕ)} {p q x : List ℕ} → Adds a b p q x → q ≡ [] → Appends a b (p ++ x)
  -- where what waits is written and a text behind it, what waited, what came and that text was
  pub all : {a b : Option (List ℕ)} {p q x : List ℕ} (d : Option (List ℕ)) (y : List ℕ)
      → Adds a b p q x → Appends b d (q ++ y) → Appends a d ((p ++ x) ++ y)
  -- where some first bytes of what waits are written, some of what waited and what came were
  pub stop : {a b : Option (List ℕ)} {p q x : List ℕ} (d : Option (List ℕ))
      → Adds a b p q x → AppendsPrefix b d q → AppendsPrefix a d (p ++ x)
  -- so where they are of what waits and a text behind it
  pub last : {a b : Option (List ℕ)} {p q x : List ℕ} (d : Option (List ℕ)) (y : List ℕ)
      → Adds a b p q x → AppendsPrefix b d (q ++ y) → AppendsPrefix a d (p ++ (x ++ y))
  -- whatever were to follow that text
  pub some : {a b : Option (List ℕ)} {p q x : List ℕ} (d : Option (List ℕ)) (y rest : List ℕ)
      → Adds a b p q x → AppendsPrefix b d (q ++ y) → AppendsPrefix a d (p ++ (x ++ (y ++ rest)))
  -- and where nothing waits any more, and they are of the text
  pub cut : {a b : Option (List ℕ)} {p q : List ℕ} (d : Option (List ℕ)) (y : List ℕ)
      → Adds a b p q [] → q ≡ [] → AppendsPrefix b d y → AppendsPrefix a d (p ++ y)
  -- where one text is written and some first bytes of a second one, some of both were
  pub after : (a b d : Option (List ℕ)) (x y : List ℕ) → Appends a b x → AppendsPrefix b d y → AppendsPrefix a d (x ++ y)
  -- some first bytes of a text are some first bytes of a longer one
  pub front : (a b : Option (List ℕ)) (x rest : List ℕ) → AppendsPrefix a b x → AppendsPrefix a b (x ++ rest)
  -- so behind what waits
  pub behind : (a b : Option (List ℕ)) (p x rest : List ℕ)
      → AppendsPrefix a b (p ++ x) → AppendsPrefix a b (p ++ (x ++ rest))
