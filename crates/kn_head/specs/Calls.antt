-- What the calls that take bytes of a source, through the window of those that wait, say of both.
use Rattle.std.specs.Prelude.{◌≡◌, ℕ, ◌<◌, List, ◌++◌, length, IfSome, Vec, vec_len}
use Rattle.std.specs.Global.{Global}
use Rattle.kn_io.specs.declared.traits.Source.{Ghosts}
use Rattle.kn_io.specs.declared.traits.Faulty.{Ghosts as Counted}
use Rattle.kn_head.specs.declared.head.HeadError.{HeadError}
use Rattle.kn_head.specs.declared.parts.Parts.{Parts}
use Rattle.kn_head.specs.Told.{Draws, IfTold, unread}
use Rattle.kn_head.specs.Chunks.{EndsChunks, IsChunked, TakesChunk}
use Rattle.kn_head.specs.Reading.{HasHead}

-- what a call does to its source
abbrev pub DrawsSource : {X : Type 0} → Ghosts X → Counted X → X → X → Type 0
DrawsSource own faulty before now =
    Draws (own.left before) (own.left now) (own.apart before) (own.apart now) (faulty.faults before) (faulty.faults now)

-- where the source tells its bytes: those that were unread begin so, and the rest is what is unread now
abbrev pub TakesFront : {X : Type 0} → (List ℕ → List ℕ → Type 0) → List ℕ → List ℕ → Ghosts X → X → X → Type 0
TakesFront Begin old new own before now = IfTold (unread old (own.left before)) (unread new (own.left now)) Begin

-- .. those that were unread fail so, by this error
abbrev pub IsFaultIn : {X : Type 0} → (List ℕ → HeadError → Type 0) → List ℕ → Ghosts X → X → HeadError → Type 0
IsFaultIn Fail old own before e = IfSome (unread old (own.left before)) (λ bytes. Fail bytes e)

-- a head of these parts was taken
abbrev pub TakesHead : {X : Type 0} → List ℕ → List ℕ → Ghosts X → X → X → Parts → Type 0
TakesHead old new own before now parts = TakesFront (HasHead parts.method parts.target parts.minor parts.headers) old new own before now

-- so many bytes were taken and put behind those of the body
abbrev pub AddsBytes : {X : Type 0} → ℕ → Vec ℕ Global → Vec ℕ Global → List ℕ → List ℕ → Ghosts X → X → X → Type 0
AddsBytes n body grown old new own before now =
    (piece : List ℕ) × (grown.items ≡ body.items ++ piece) × (length piece ≡ n)
    × TakesFront (λ bytes rest. bytes ≡ piece ++ rest) old new own before now

-- a chunk was taken and decoded: its bytes, at least one, were put behind those of the body
abbrev pub Decodes : {X : Type 0} → Vec ℕ Global → Vec ℕ Global → List ℕ → List ℕ → Ghosts X → X → X → Type 0
Decodes body grown old new own before now =
    (piece : List ℕ) × (grown.items ≡ body.items ++ piece) × (0 < length piece)
    × TakesFront (λ bytes rest. TakesChunk (vec_len body) bytes piece rest) old new own before now

-- the last chunk and the trailer were taken, and the body stays as it was
abbrev pub EndsBody : {X : Type 0} → Vec ℕ Global → Vec ℕ Global → List ℕ → List ℕ → Ghosts X → X → X → Type 0
EndsBody body grown old new own before now = (grown.items ≡ body.items) × TakesFront EndsChunks old new own before now

-- a body in chunks was taken that stands for these bytes
abbrev pub TakesBody : {X : Type 0} → List ℕ → List ℕ → Ghosts X → X → X → List ℕ → Type 0
TakesBody old new own before now body = TakesFront (λ bytes rest. IsChunked bytes body rest) old new own before now
