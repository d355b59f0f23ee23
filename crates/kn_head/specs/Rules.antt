-- What the fields of a head settle: whose request it is, and how its body comes.
use Rattle.std.specs.Prelude.{◌≡◌, ◌<◌, ℕ, Bool, ◌&&◌, if◌then◌else◌, nat_le, List, [], ◌∷◌, length, codes, Option, None, Some, Result, Ok, Err}
use Rattle.std.specs.Str.Parse.{digits_value}
use Rattle.kn_http.specs.Numbers.{are_digits}
use Rattle.kn_head.specs.declared.head.HeadError.{HeadError}
use Rattle.kn_head.specs.declared.head.HeadError.TheVariants as error
use Rattle.kn_head.specs.declared.rules.Form.{Form}
use Rattle.kn_head.specs.declared.rules.Form.TheVariants as form
use Rattle.kn_head.specs.declared.rules.Values.{Values}
use Rattle.kn_head.specs.declared.rules.Values.TheVariants as values
use Rattle.kn_head.specs.Fields.{is_word, values_named}

-- the most bytes of a body
abbrev pub body_limit : ℕ
body_limit = 1048576

-- the value that is there exactly once
abbrev pub only : List (List ℕ) → Option (List ℕ)
only [] = None
only (v ∷ []) = Some v
only (v ∷ w ∷ vs) = None

abbrev pub both : Option (List ℕ) → Option (List ℕ) → Option (List ℕ × List ℕ)
both None r = None
both (Some n) None = None
both (Some n) (Some r) = Some (n, r)

-- the namespace and the revision that the fields name, exactly once each
abbrev pub owner_of : List (List ℕ × List ℕ) → Option (List ℕ × List ℕ)
owner_of fields =
    both (only (values_named (codes "knative-serving-namespace") fields)) (only (values_named (codes "knative-serving-revision") fields))

-- they name this namespace and this revision
abbrev pub NameOwner : List (List ℕ × List ℕ) → List ℕ → List ℕ → Type 0
NameOwner fields namespace revision = owner_of fields ≡ Some (namespace, revision)

-- 1 to 19 digits
abbrev pub is_length : List ℕ → Bool
is_length v = are_digits v && nat_le (length v) 19

-- a body of so many bytes, where that isn't too many
abbrev pub sized : ℕ → Result Form HeadError
sized n = if nat_le n body_limit then Ok (form.Plain n) else Err error.BodyTooLong

-- by the values of Content-Length; without one there is no body
abbrev pub form_by_length : List (List ℕ) → Result Form HeadError
form_by_length [] = Ok (form.Plain 0)
form_by_length (v ∷ []) = if is_length v then sized (digits_value 10 v) else Err error.BadLength
form_by_length (v ∷ w ∷ vs) = Err error.BadLength

-- by the values of Transfer-Encoding, and those of Content-Length
abbrev pub form_by_coding : List (List ℕ) → List (List ℕ) → Result Form HeadError
form_by_coding [] lengths = form_by_length lengths
form_by_coding (c ∷ cs) (l ∷ ls) = Err error.BadLength
form_by_coding (c ∷ []) [] = if is_word (codes "chunked") c then Ok form.Chunked else Err error.BadCoding
form_by_coding (c ∷ d ∷ cs) [] = Err error.BadCoding

-- how the body comes, or why it isn't read
abbrev pub form_of : List (List ℕ × List ℕ) → Result Form HeadError
form_of fields = form_by_coding (values_named (codes "transfer-encoding") fields) (values_named (codes "content-length") fields)

-- the values are none, this one, or several
abbrev pub AreValues : List (List ℕ) → Values → Type 0
AreValues vs values.Absent = vs ≡ []
AreValues vs (values.One v) = vs ≡ v.now ∷ []
AreValues vs values.Several = 1 < length vs
