-- The head at the front of a stream, and why there is none.
use Rattle.std.specs.Prelude.{◌⊎◌, ℕ, ◌≤◌, ◌<◌, List, length, take, map, ⊤}
use Rattle.httparse.specs.Grammar.{RequestHead, print_request, ReadsRequest, HasNoRequest, NeverHasRequest, MayBecomeRequest}
use Rattle.httparse.specs.Spans.{IsRequestAt, RequestExceeds, RequestOverflows, name_and_value}
use Rattle.httparse.specs.declared.spans.HeaderSpan.{HeaderSpan}
use Rattle.httparse.specs.declared.spans.RequestSpans.{RequestSpans}
use Rattle.kn_head.specs.declared.head.HeadError.{HeadError}
use Rattle.kn_head.specs.declared.head.HeadError.TheVariants as error

-- the most fields of a head, and of a trailer
abbrev pub room : ℕ
room = 100

-- the most bytes of a head, and of a trailer
abbrev pub limit : ℕ
limit = 16384

-- the bytes begin with a head within these bounds, and the rest follows it
pub record BeginsWithHead (bytes : List ℕ) (head : RequestHead) (rest : List ℕ) : Type 0 where
  pub reads : ReadsRequest bytes head rest
  pub few : length head.fields ≤ room
  pub short : length (print_request head) ≤ limit

-- these are the spans of a head at the front of the bytes, with no more fields than there may be
abbrev pub FindsHead : List ℕ → List HeaderSpan → RequestSpans → Type 0
FindsHead bytes spans found = (h : RequestHead) × IsRequestAt bytes spans found h × (length h.fields ≤ room)

-- its fields, each a name and a value without spaces and tabs at both ends
abbrev pub fields_of : RequestHead → List (List ℕ × List ℕ)
fields_of head = map name_and_value head.fields

-- more than 100 fields come: a front of the bytes and an empty line are a head with more, and each head that
-- the bytes may become has more
abbrev pub HasTooManyFields : List ℕ → Type 0
HasTooManyFields bytes = RequestExceeds room bytes × RequestOverflows room bytes

-- the bytes are no head yet, and may become one, or end within the target
abbrev pub IsUnfinished : List ℕ → Type 0
IsUnfinished bytes = HasNoRequest bytes × MayBecomeRequest bytes

-- the bytes that came are refused, whatever follows
abbrev pub HeadRefused : List ℕ → HeadError → Type 0
HeadRefused bytes error.Malformed = NeverHasRequest bytes
HeadRefused bytes error.TooLong = HasTooManyFields bytes
HeadRefused bytes e = ⊥

-- why the bytes of a stream, whole, don't begin with a head. They end early only where no front of them and an empty line
-- are a head of more than 100 fields. Of a fault nothing is said.
abbrev pub HeadFails : List ℕ → HeadError → Type 0
HeadFails bytes error.Malformed = (k : ℕ) × (k ≤ limit) × NeverHasRequest (take k bytes)
HeadFails bytes error.TooLong =
    ((k : ℕ) × (k ≤ limit) × HasTooManyFields (take k bytes))
    ⊎ ((limit ≤ length bytes) × IsUnfinished (take limit bytes))
HeadFails bytes error.EndedEarly = (length bytes < limit) × IsUnfinished bytes × ¬ (RequestExceeds room bytes)
HeadFails bytes error.ReadFault = ⊤
HeadFails bytes e = ⊥
