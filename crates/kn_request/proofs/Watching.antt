-- What is said on some terms, on terms that allow as much.
use Rattle.std.proofs.Common.{◌≡◌, ◌≤◌, inl, inr, ℕ, List, ap, ◌∙◌, arith}
use Rattle.std.specs.Prelude.{Option, Result, Ok, Err}
use Rattle.kn_event.specs.declared.revision.Spec.{Spec}
use Rattle.kn_cell.specs.declared.past.Past.{Past}
use Rattle.kn_cell.specs.Shown.{PassView}
use Rattle.kn_io.specs.Causes.{Rose}
use Rattle.kn_io.specs.Links.{Link}
use Rattle.kn_io.specs.declared.links.LinkError.{LinkError}
use Rattle.kn_head.specs.declared.head.Head.{Head}
use Rattle.kn_head.specs.declared.head.HeadError.{HeadError}
use Rattle.kn_request.specs.declared.meant.Meant.{Meant}
use Rattle.kn_request.specs.declared.meant.Meant.TheVariants as meant
use Rattle.kn_request.specs.declared.slot.Served.{Served}
use Rattle.kn_request.specs.Outside.{Said, said}
use Rattle.kn_request.specs.Terms.{MayCancel, Terms}
use Rattle.kn_request.specs.Requests.{AreCancels, WasLost, WasRun}
use Rattle.kn_request.specs.Served.{HasArrived, IsCourse, IsServed}
use Rattle.kn_request.specs.One.{IsEvent, IsWay, ServesGuest, ServesRead}

-- who tells the same says the same
pub said_same : (k k' : Option (List (List ℕ))) (h h' : Option (List ℕ)) → k' ≡ k → h' ≡ h → said k' h' ≡ said k h
said_same k k' h h' e f = ap (λ x. said x h') e ∙ ap (said k) f

-- a count that rose between two moments rose between one before and one after them
pub rose_in : (a b c d : ℕ) → a ≤ b → c ≤ d → Rose b c → Rose a d
rose_in a b c d early late rose = omega (arith, early, late, rose)

pub left_in : (leaves : Type 0) (a b c d : ℕ) → a ≤ b → c ≤ d → leaves × Rose b c → leaves × Rose a d
left_in leaves a b c d early late x = (x.0, rose_in a b c d early late x.1)

abbrev on : (ℕ → Type 0) → Type 0 → Terms
on reading left = record { reading = reading; left = left }

module _ (reading : ℕ → Type 0) (left left' : Type 0) (more : left → left') where
  pub may_more : (due at : ℕ) → MayCancel (on reading left) due at → MayCancel (on reading left') due at
  may_more due at m = elim m [ inl e ↦ inl e | inr l ↦ inr (more l) ]

  cancels_more : (due r : ℕ) (p : PassView) (xs : List Past) → AreCancels (on reading left) due r p xs → AreCancels (on reading left') due r p xs
  cancels_more due r p xs c = elim c [ inl e ↦ inl e | inr x ↦ inr (x.0, may_more due x.0.at x.1, x.2) ]

  run_more : (due : ℕ) (head : Head) (r : ℕ) (p q : PassView) (wire wire' : Option Link) (reply : Result (List ℕ) LinkError)
      → WasRun (on reading left) due head r p q wire wire' reply → WasRun (on reading left') due head r p q wire wire' reply
  run_more due head r p q wire wire' reply x = record {
    call = x.call;
    cancel = x.cancel;
    cancel_is = cancels_more due r q x.cancel x.cancel_is;
    finish = x.finish;
    finish_is = x.finish_is;
    mine = x.mine;
    ended = x.ended;
  }

  lost_more : (due r : ℕ) (p q : PassView) → WasLost (on reading left) due r p q → WasLost (on reading left') due r p q
  lost_more due r p q x = record { cancel = x.cancel; cancel_is = cancels_more due r q x.cancel x.cancel_is; mine = x.mine; ended = x.ended; lapsed = x.lapsed }

  course_more : (due : ℕ) (head : Head) (r : ℕ) (p q : PassView) (wire wire' : Option Link) (m : Meant)
      → IsCourse (on reading left) due head r p q wire wire' m → IsCourse (on reading left') due head r p q wire wire' m
  course_more due head r p q wire wire' (meant.Reply t) x = run_more due head r p q wire wire' _ x
  course_more due head r p q wire wire' meant.LinkFault x = run_more due head r p q wire wire' _ x
  course_more due head r p q wire wire' meant.Memory x = run_more due head r p q wire wire' _ x
  course_more due head r p q wire wire' meant.Expired x = (x.0, lost_more due r p q x.1)
  course_more due head r p q wire wire' meant.QueueFull x = x
  course_more due head r p q wire wire' meant.Overload x = x
  course_more due head r p q wire wire' (meant.Full f) x = x

  arrived_more : (timeout tag : ℕ) (head : Head) (p q : PassView) (wire wire' : Option Link) (m : Meant)
      → HasArrived (on reading left) timeout tag head p q wire wire' m → HasArrived (on reading left') timeout tag head p q wire wire' m
  arrived_more timeout tag head p q wire wire' m x = record {
    mid = x.mid;
    before = x.before;
    since = x.since;
    arrive = x.arrive;
    mine = x.mine;
    number = x.number;
    named = x.named;
    way = elim x.way [
      | inl away ↦ inl away
      | inr t ↦ inr record { taken = t.taken; course = course_more _ head x.number x.mid q wire wire' m t.course }
    ];
  }

  served_more : (timeout tag : ℕ) (head : Head) (p q : PassView) (wire wire' : Option Link) (m : Meant)
      → IsServed (on reading left) timeout tag head p q wire wire' m → IsServed (on reading left') timeout tag head p q wire wire' m
  served_more timeout tag head p q wire wire' (meant.Full f) x = x
  served_more timeout tag head p q wire wire' (meant.Reply t) x = arrived_more timeout tag head p q wire wire' (meant.Reply t) x
  served_more timeout tag head p q wire wire' meant.QueueFull x = arrived_more timeout tag head p q wire wire' meant.QueueFull x
  served_more timeout tag head p q wire wire' meant.Overload x = arrived_more timeout tag head p q wire wire' meant.Overload x
  served_more timeout tag head p q wire wire' meant.Expired x = arrived_more timeout tag head p q wire wire' meant.Expired x
  served_more timeout tag head p q wire wire' meant.LinkFault x = arrived_more timeout tag head p q wire wire' meant.LinkFault x
  served_more timeout tag head p q wire wire' meant.Memory x = arrived_more timeout tag head p q wire wire' meant.Memory x

  pub event_more : (timeout tag : ℕ) (head : Head) (p q : PassView) (wire wire' : Option Link) (s : Served) (text : List ℕ)
      → IsEvent (on reading left) timeout tag head p q wire wire' s text → IsEvent (on reading left') timeout tag head p q wire wire' s text
  event_more timeout tag head p q wire wire' s text x = elim x [
    | inl idle ↦ inl idle
    | inr e ↦ inr (e.0, served_more timeout tag head p q wire wire' e.0 e.1, e.2, e.3)
  ]

  pub read_more : (timeout tag : ℕ) (head : Head) (p q : PassView) (wire wire' : Option Link) (a b : Option Said) (s : Served)
      → ServesRead (on reading left) timeout tag head p q wire wire' a b s → ServesRead (on reading left') timeout tag head p q wire wire' a b s
  read_more timeout tag head p q wire wire' a b s x = record { meant = x.meant; text = x.text; event = event_more timeout tag head p q wire wire' x.meant x.text x.event; writes = x.writes }

  pub way_more : (spec : Spec) (tag : ℕ) (p q : PassView) (wire wire' : Option Link) (found : Result Head HeadError) (s : Served) (text : List ℕ)
      → IsWay (on reading left) spec tag p q wire wire' found s text → IsWay (on reading left') spec tag p q wire wire' found s text
  way_more spec tag p q wire wire' (Ok h) s text x = elim x [
    | inl at ↦ inl (at.0, event_more spec.timeout_ms tag h p q wire wire' s text at.1)
    | inr other ↦ inr other
  ]
  way_more spec tag p q wire wire' (Err e) s text x = x

  pub guest_more : (spec : Spec) (tag : ℕ) (p q : PassView) (wire wire' : Option Link) (a b : Option Said) (s : Served)
      → ServesGuest (on reading left) spec tag p q wire wire' a b s → ServesGuest (on reading left') spec tag p q wire wire' a b s
  guest_more spec tag p q wire wire' a b s x = elim x [
    | inl nobody ↦ inl nobody
    | inr m ↦ inr record { found = m.found; meant = m.meant; text = m.text; way = way_more spec tag p q wire wire' m.found m.meant m.text m.way; answers = m.answers; talks = m.talks }
  ]
