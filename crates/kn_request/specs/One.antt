-- One request was served.
use Rattle.std.specs.Prelude.{◌≡◌, ◌⊎◌, ◌≤◌, ℕ, List, [], take, Option, None, Some, IfSome, Result, Ok, Err}
use Rattle.kn_event.specs.declared.revision.Spec.{Spec}
use Rattle.kn_cell.specs.Shown.{PassView}
use Rattle.kn_io.specs.Causes.{Rose}
use Rattle.kn_io.specs.Links.{Link}
use Rattle.kn_head.specs.declared.answer.Answer.{Answer}
use Rattle.kn_head.specs.declared.answer.Answer.TheVariants as answer
use Rattle.kn_head.specs.declared.head.Head.{Head}
use Rattle.kn_head.specs.declared.head.HeadError.{HeadError}
use Rattle.kn_head.specs.declared.head.HeadError.TheVariants as error
use Rattle.kn_head.specs.Answers.{answer_for, answered}
use Rattle.kn_head.specs.Reading.{Reads}
use Rattle.kn_request.specs.declared.meant.Meant.{Meant}
use Rattle.kn_request.specs.declared.meant.Meant.TheVariants as meant
use Rattle.kn_request.specs.declared.slot.Served.{Served}
use Rattle.kn_request.specs.declared.slot.Served.TheVariants as served
use Rattle.kn_request.specs.Answers.{IsFor}
use Rattle.kn_request.specs.Outside.{Grows, GrowsFront, Said, Talks, Tells}
use Rattle.kn_request.specs.Served.{IsServed}
use Rattle.kn_request.specs.Terms.{Terms, unwatched}

-- the text that is meant, and the answer where it is written
abbrev pub text_of : Meant → List ℕ
text_of (meant.Reply t) = t
text_of meant.QueueFull = answered answer.QueueFull
text_of meant.Overload = answered answer.Overload
text_of meant.Expired = answered answer.Expired
text_of meant.LinkFault = answered answer.LinkFailed
text_of (meant.Full f) = answered answer.HistoryFull
text_of meant.Memory = []

abbrev pub served_by : Meant → Served
served_by (meant.Reply t) = served.Replied
served_by meant.QueueFull = served.Refused answer.QueueFull
served_by meant.Overload = served.Refused answer.Overload
served_by meant.Expired = served.Refused answer.Expired
served_by meant.LinkFault = served.LinkFault
served_by (meant.Full f) = served.Full f
served_by meant.Memory = served.Memory

-- the text was written, and so it is answered; or a first part of it, and the caller failed
abbrev pub Writes : Option Said → Option Said → Served → Served → List ℕ → Type 0
Writes old new result meant text = ((result ≡ meant) × Grows old new text) ⊎ ((result ≡ served.CallerFault) × GrowsFront old new text)

-- what was meant is answered, unless the caller failed
abbrev pub CallerCause : ℕ → ℕ → Served → Served → Type 0
CallerCause before now meant result = (before ≤ now) × ((result ≡ meant) ⊎ Rose before now)

-- a fault is answered only where the count of faults rose
pub record HasCauses (callers callers' links links' : ℕ) (result : Served) : Type 0 where
  pub caller_never_falls : callers ≤ callers'
  pub caller : result ≡ served.CallerFault → Rose callers callers'
  pub link_never_falls : links ≤ links'
  pub link : result ≡ served.LinkFault → Rose links links'

-- what is meant where no event is made
abbrev pub IsRefusal : Answer → Served → List ℕ → Type 0
IsRefusal a meant text = (meant ≡ served.Refused a) × (text ≡ answered a)

-- the answer was written, or a first part of it, and the caller failed
abbrev pub Refuses : Option Said → Option Said → Answer → Served → Type 0
Refuses old new a result = Writes old new result (served.Refused a) (answered a)

-- no event was made, and no pod was called
pub record IsIdle (old new : PassView) (wire wire' : Option Link) : Type 0 where
  pub pass : new ≡ old
  pub unused : wire' ≡ wire

-- what a good head came to: want of memory before any event, or an arrival and what followed
abbrev pub IsEvent : Terms → ℕ → ℕ → Head → PassView → PassView → Option Link → Option Link → Served → List ℕ → Type 0
IsEvent terms timeout tag head old new wire wire' s text =
    (IsIdle old new wire wire' × (s ≡ served.Memory) × (text ≡ []))
    ⊎ ((m : Meant) × IsServed terms timeout tag head old new wire wire' m × (s ≡ served_by m) × (text ≡ text_of m))

pub record ServesRead (terms : Terms) (timeout tag : ℕ) (head : Head) (old new : PassView) (wire wire' : Option Link) (said said' : Option Said) (result : Served) : Type 0 where
  pub meant : Served
  pub text : List ℕ
  pub event : IsEvent terms timeout tag head old new wire wire' meant text
  pub writes : Writes said said' result meant text

-- what an unreadable head is answered: nothing after a fault of the caller or for want of memory
abbrev pub IsUnread : HeadError → Option Answer → Served → List ℕ → Type 0
IsUnread e (Some a) s text = IsRefusal a s text
IsUnread error.ReadFault None s text = (s ≡ served.CallerFault) × (text ≡ [])
IsUnread _ None s text = (s ≡ served.Memory) × (text ≡ [])

-- what a connection came to, by its head
abbrev pub IsWay : Terms → Spec → ℕ → PassView → PassView → Option Link → Option Link → Result Head HeadError → Served → List ℕ → Type 0
IsWay terms spec tag old new wire wire' (Ok h) s text =
    (IsFor spec h × IsEvent terms spec.timeout_ms tag h old new wire wire' s text)
    ⊎ ((IsFor spec h → ⊥) × IsIdle old new wire wire' × IsRefusal answer.NoSuchRevision s text)
IsWay terms spec tag old new wire wire' (Err e) s text = IsIdle old new wire wire' × IsUnread e (answer_for e) s text

-- what became of the connection that was met last, with these bytes to read, by what is said of each way
pub record ServesMetBy (Way : Result Head HeadError → Served → List ℕ → Type 0) (left : Option (List ℕ)) (said said' : Option Said) (result : Served) : Type 0 where
  pub found : Result Head HeadError
  pub reads : IfSome left (λ bytes. Reads bytes found)
  pub meant : Served
  pub text : List ℕ
  pub way : Way found meant text
  pub writes : Writes said said' result meant text

abbrev pub ServesMet : Terms → Spec → ℕ → PassView → PassView → Option Link → Option Link → Option (List ℕ) → Option Said → Option Said → Served → Type 0
ServesMet terms spec tag old new wire wire' left said said' result = ServesMetBy (IsWay terms spec tag old new wire wire') left said said' result

-- the text is what was meant, or a first part of it where the caller failed
abbrev pub IsText : Served → Served → List ℕ → List ℕ → Type 0
IsText result meant full text = ((result ≡ meant) × (text ≡ full)) ⊎ ((result ≡ served.CallerFault) × ((n : ℕ) × (text ≡ take n full)))

pub record HasMetBy (Way : Result Head HeadError → Served → List ℕ → Type 0) (said said' : Option Said) (result : Served) : Type 0 where
  pub found : Result Head HeadError
  pub meant : Served
  pub text : List ℕ
  pub way : Way found meant text
  pub answers : (result ≡ meant) ⊎ (result ≡ served.CallerFault)
  pub talks : Tells said said' (λ a b. Talks found a b × IsText result meant text b.text)

abbrev pub HasMet : Terms → Spec → ℕ → PassView → PassView → Option Link → Option Link → Option Said → Option Said → Served → Type 0
HasMet terms spec tag old new wire wire' said said' result = HasMetBy (IsWay terms spec tag old new wire wire') said said' result

-- nobody was met, or somebody was
abbrev pub ServesOneBy : Type 0 → (Result Head HeadError → Served → List ℕ → Type 0) → Option Said → Option Said → Served → Type 0
ServesOneBy Idle Way said said' result = (Idle × (said' ≡ said) × (result ≡ served.CallerFault)) ⊎ HasMetBy Way said said' result

abbrev pub ServesGuest : Terms → Spec → ℕ → PassView → PassView → Option Link → Option Link → Option Said → Option Said → Served → Type 0
ServesGuest terms spec tag old new wire wire' said said' result =
    ServesOneBy (IsIdle old new wire wire') (IsWay terms spec tag old new wire wire') said said' result

-- the same, where nobody watches the client
abbrev pub ServesOne : (ℕ → Type 0) → Spec → ℕ → PassView → PassView → Option Link → Option Link → Option Said → Option Said → Served → Type 0
ServesOne reading spec tag old new wire wire' said said' result = ServesGuest (unwatched reading) spec tag old new wire wire' said said' result
