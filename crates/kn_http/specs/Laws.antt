-- What the definitions say of themselves.
use Rattle.std.specs.Prelude.{◌≡◌, ℕ, List, ◌++◌, length}
use Rattle.kn_http.specs.declared.parts.Bounds.{Bounds}
use Rattle.kn_http.specs.Chunks.{IsSizeLine, IsTrailer, IsChunked}
use Rattle.kn_http.specs.Parts.{SizeRefused, TrailerRefused}

-- the same bytes begin with one size line at most, one piece behind it and one body in chunks, and with no part that is refused
pub record AreDetermined : Type 0 where
  pub size : (bounds : Bounds) (bytes r q : List ℕ) (n m : ℕ) → IsSizeLine bounds bytes n r → IsSizeLine bounds bytes m q
      → (n ≡ m) × (r ≡ q)
  pub piece : (bounds : Bounds) (bytes d e r q : List ℕ) → IsSizeLine bounds bytes (length d) (d ++ r)
      → IsSizeLine bounds bytes (length e) (e ++ q) → (d ≡ e) × (r ≡ q)
  pub body : (bounds : Bounds) (bytes v w r q : List ℕ) → IsChunked bounds bytes v r → IsChunked bounds bytes w q → (v ≡ w) × (r ≡ q)
  pub no_size : (bounds : Bounds) (bytes rest : List ℕ) (n : ℕ) → SizeRefused bounds bytes → ¬ (IsSizeLine bounds bytes n rest)
  pub no_trailer : (bounds : Bounds) (bytes rest : List ℕ) → TrailerRefused bounds bytes → ¬ (IsTrailer bounds bytes rest)
