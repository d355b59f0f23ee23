-- What the calls that look for a first request answer.
use Rattle.std.proofs.Common.{◌≡◌, sym, ap, ◌∙◌, ℕ, ◌+◌, ◌≤◌, Bool, true, false, List, Option, Some, None, arith}
use Rattle.std.specs.Prelude.{IfSome, nat_le, option_map, slice_get}
use Rattle.std.specs.List.{AllPairs, filter}
use Rattle.std.proofs.lemmas.Bool.Decides.{nat_tests}
use Rattle.kn_event.specs.Lists.{contains}
use Rattle.kn_trace.specs.Trace.{first_of}
use Rattle.kn_record.specs.declared.admission.Place.{Place}
use Rattle.kn_record.specs.declared.admission.Request.{Request}
use Rattle.kn_record.specs.Admission.{placed_in, waits}
use Rattle.kn_record.specs.Views.{due_in, numbers_in}
use Rattle.kn_table.specs.declared.slot.Slot.{Slot}
use Rattle.kn_table.specs.Slots.{first_placed, live_of}
use Rattle.kn_table.proofs.Requests.{first_listed, first_placed_there, placed_listed}
use Rattle.kn_table.proofs.Firsts.{first_due, first_live, first_number, none_due, none_due_yet}

-- the request, or its number, at the first place of a kind
module _ (test : Place → Bool) (xs zs : List Slot) (l : List Request) (at : ℕ) (view : live_of xs ≡ l) (same : zs ≡ xs) (first : at ≡ first_placed test xs) where
  pub number_answer : (o : Option ℕ) → o ≡ option_map (λ (s : Slot). s.request.number) (slice_get zs at) → o ≡ first_of (placed_in test l)
  number_answer o is =
      is ∙ ap (λ (ys : List Slot). option_map (λ (s : Slot). s.request.number) (slice_get ys at)) same
      ∙ ap (λ i. option_map (λ (s : Slot). s.request.number) (slice_get xs i)) first
      ∙ first_number test xs ∙ ap (λ k. first_of (placed_in test k)) view

  pub request_answer : (o : Option Request) → o ≡ option_map (λ (s : Slot). s.request) (slice_get zs at) → o ≡ first_of (filter (λ (q : Request). test q.place) l)
  request_answer o is =
      is ∙ ap (λ (ys : List Slot). option_map (λ (s : Slot). s.request) (slice_get ys at)) same
      ∙ ap (λ i. option_map (λ (s : Slot). s.request) (slice_get xs i)) first
      ∙ sym (first_live test xs) ∙ ap (λ (k : List Request). first_of (filter (λ (q : Request). test q.place) k)) view

pub number_there : (test : Place → Bool) (l : List Request) (o : Option ℕ) → o ≡ first_of (placed_in test l) → IfSome o (λ r. contains r (placed_in test l) ≡ true)
number_there test l None is = tt
number_there test l (Some r) is = first_placed_there test l r (sym is)

pub number_listed : (test : Place → Bool) (l : List Request) (o : Option ℕ) → o ≡ first_of (placed_in test l) → IfSome o (λ r. contains r (numbers_in l) ≡ true)
number_listed test l None is = tt
number_listed test l (Some r) is = placed_listed test r l (first_placed_there test l r (sym is))

pub request_listed : (test : Request → Bool) (l : List Request) (o : Option Request) → o ≡ first_of (filter test l) → IfSome o (λ q. contains q.number (numbers_in l) ≡ true)
request_listed test l None is = tt
request_listed test l (Some q) is = first_listed test l q (sym is)

-- the first that waits is due, or nobody is
module _ (timeout t : ℕ) (l : List Request) where
  pub is_due_now : (q : Request) → Some q ≡ first_of (filter (λ (q : Request). waits q.place) l) → nat_le (q.time + timeout) t ≡ true → Some q.number ≡ first_of (due_in timeout t l)
  is_due_now q first over = sym (first_due timeout t l q (sym first) (grind (arith, nat_tests, over)))

  pub is_not_due : (q : Request) → AllPairs (λ (x y : Request). x.time ≤ y.time) l → Some q ≡ first_of (filter (λ (q : Request). waits q.place) l) → nat_le (q.time + timeout) t ≡ false → None ≡ first_of (due_in timeout t l)
  is_not_due q times first early = sym (none_due_yet timeout t l q times (sym first) (grind (arith, nat_tests, early)))

  pub nobody_due : None ≡ first_of (filter (λ (q : Request). waits q.place) l) → None ≡ first_of (due_in timeout t l)
  nobody_due none = sym (none_due timeout t l (sym none))
