-- What the bytes of a stream say: a request with its body, or the first fault in order.
use Rattle.std.specs.Prelude.{◌≡◌, ℕ, ◌≤◌, Bool, true, false, List, length, take, None, Some, Result, Ok, Err, ⊤}
use Rattle.httparse.specs.Grammar.{RequestHead}
use Rattle.kn_head.specs.declared.head.Head.{Head}
use Rattle.kn_head.specs.declared.head.HeadError.{HeadError}
use Rattle.kn_head.specs.declared.head.HeadError.TheVariants as error
use Rattle.kn_head.specs.declared.rules.Form.{Form}
use Rattle.kn_head.specs.declared.rules.Form.TheVariants as form
use Rattle.kn_head.specs.Heads.{BeginsWithHead, HeadFails, fields_of}
use Rattle.kn_head.specs.Rules.{body_limit, owner_of, form_of}
use Rattle.kn_head.specs.Chunks.{IsChunked, BytesFail, ChunksFail}

-- the bytes begin with a body of so many
abbrev pub HasBodyOf : ℕ → List ℕ → List ℕ → Type 0
HasBodyOf n body bytes = (n ≤ length bytes) × (body ≡ take n bytes)

-- the bytes after the head begin with this body; what follows it is dropped
abbrev pub HasBody : Form → List ℕ → List ℕ → Type 0
HasBody (form.Plain n) bytes body = HasBodyOf n body bytes
HasBody form.Chunked bytes body = (rest : List ℕ) × IsChunked bytes body rest × (length body ≤ body_limit)

-- they don't
abbrev pub BodyFails : Form → List ℕ → HeadError → Type 0
BodyFails (form.Plain n) bytes e = BytesFail n bytes e
BodyFails form.Chunked bytes e = ChunksFail 0 bytes e

abbrev pub is_chunked : Form → Bool
is_chunked (form.Plain n) = false
is_chunked form.Chunked = true

-- method, target, version and fields are those of the head
pub record ArePartsOf (text : RequestHead) (method target : List ℕ) (minor : ℕ) (headers : List (List ℕ × List ℕ)) : Type 0 where
  pub method_is : method ≡ text.method
  pub target_is : target ≡ text.target
  pub minor_is : minor ≡ text.minor
  pub headers_are : headers ≡ fields_of text

-- the bytes begin with a head of these parts, and the rest follows
pub record HasHead (method target : List ℕ) (minor : ℕ) (headers : List (List ℕ × List ℕ)) (bytes rest : List ℕ) : Type 0 where
  pub text : RequestHead
  pub begins : BeginsWithHead bytes text rest
  pub parts : ArePartsOf text method target minor headers

-- the parts of a request are those of the head of the grammar
pub record HasParts (text : RequestHead) (head : Head) : Type 0 where
  pub parts : ArePartsOf text head.method head.target head.minor head.headers
  pub owner : owner_of (fields_of text) ≡ Some (head.namespace, head.revision)

-- the owner is named, or not, or memory is lacking
abbrev pub GivesOwner : List (List ℕ × List ℕ) → Result (List ℕ × List ℕ) HeadError → Type 0
GivesOwner headers (Ok owner) = owner_of headers ≡ Some owner
GivesOwner headers (Err error.NoRevision) = owner_of headers ≡ None
GivesOwner headers (Err error.Memory) = ⊤
GivesOwner headers (Err e) = ⊥

-- what the bytes say; of want of memory nothing is said
pub data Reads : List ℕ → Result Head HeadError → Type 0 where
  no_head : {bytes : List ℕ} → (e : HeadError) → HeadFails bytes e → Reads bytes (Err e)
  no_owner : {bytes : List ℕ} → (text : RequestHead) (rest : List ℕ) → BeginsWithHead bytes text rest
      → owner_of (fields_of text) ≡ None → Reads bytes (Err error.NoRevision)
  no_form : {bytes : List ℕ} → (e : HeadError) (text : RequestHead) (rest : List ℕ) (owner : List ℕ × List ℕ)
      → BeginsWithHead bytes text rest → owner_of (fields_of text) ≡ Some owner → form_of (fields_of text) ≡ Err e
      → Reads bytes (Err e)
  no_body : {bytes : List ℕ} → (e : HeadError) (text : RequestHead) (rest : List ℕ) (owner : List ℕ × List ℕ) (kind : Form)
      → BeginsWithHead bytes text rest → owner_of (fields_of text) ≡ Some owner → form_of (fields_of text) ≡ Ok kind
      → BodyFails kind rest e → Reads bytes (Err e)
  no_memory : {bytes : List ℕ} → Reads bytes (Err error.Memory)
  whole : {bytes : List ℕ} → (head : Head) (text : RequestHead) (rest : List ℕ) (kind : Form)
      → BeginsWithHead bytes text rest → HasParts text head → form_of (fields_of text) ≡ Ok kind
      → head.chunked ≡ is_chunked kind → HasBody kind rest head.body → Reads bytes (Ok head)
