-- What changes of a queue do to it and to the cells.
use Rattle.std.specs.Prelude.{◌≡◌, ◌≢◌, ℕ, suc, ◌+◌, ◌^◌, ◌<◌, ◌≤◌, List, [], ◌∷◌, ◌++◌, None, Some, length, slice_index, slice_index_or, slice_set, vec_capacity}
use Rattle.kn_seats.specs.declared.cells.Cells.{Cells}
use Rattle.kn_seats.specs.declared.cells.Queue.{Queue}
use Rattle.kn_seats.specs.Chains.{after, requests_in}

-- each list has room for so many
pub record HasRoom (count : ℕ) (cells : Cells) : Type 0 where
  pub request : count ≤ vec_capacity cells.request
  pub next : count ≤ vec_capacity cells.next
  pub home : count ≤ vec_capacity cells.home
  pub spare : count ≤ vec_capacity cells.spare

-- the lists have the room that they had
pub record KeepsRoom (cells cells_after : Cells) : Type 0 where
  pub request : vec_capacity cells_after.request ≡ vec_capacity cells.request
  pub next : vec_capacity cells_after.next ≡ vec_capacity cells.next
  pub home : vec_capacity cells_after.home ≡ vec_capacity cells.home
  pub spare : vec_capacity cells_after.spare ≡ vec_capacity cells.spare

-- no cells yet, and room for so many
pub record IsNew (count : ℕ) (cells : Cells) : Type 0 where
  pub request : cells.request.items ≡ []
  pub next : cells.next.items ≡ []
  pub home : cells.home.items ≡ []
  pub spare : cells.spare.items ≡ []
  pub room : HasRoom count cells

-- the cell at this place is in the queue of a pod, and the one behind it has the request
pub record Leads (cells : Cells) (place p r : ℕ) : Type 0 where
  pub home : slice_index_or cells.home.items place None ≡ Some p
  pub request : slice_index cells.request.items (slice_index cells.next.items place) ≡ r

-- this stands at a place of a list, and at every other place what stood there; d stands where there is nothing
pub record IsPut {A : Type 0} (d : A) (place : ℕ) (value : A) (list list_after : List A) : Type 0 where
  pub here : slice_index_or list_after place d ≡ value
  pub others : (x : ℕ) → x ≢ place → slice_index_or list_after x d ≡ slice_index_or list x d

-- the spare cells are there, and where none is spare, there is room for one more
pub record CanTake (cells : Cells) : Type 0 where
  pub inside : (i : ℕ) → i < length cells.spare.items → slice_index cells.spare.items i < length cells.request.items
  pub next : length cells.next.items ≡ length cells.request.items
  pub home : length cells.home.items ≡ length cells.request.items
  pub room : length cells.spare.items ≡ 0 → HasRoom (length cells.request.items + 1) cells

-- one more cell was made, at this place
pub record IsMade (p r place : ℕ) (cells cells_after : Cells) : Type 0 where
  pub behind : place ≡ length cells.request.items
  pub request : cells_after.request.items ≡ cells.request.items ++ r ∷ []
  pub next : cells_after.next.items ≡ cells.next.items ++ 0 ∷ []
  pub home : cells_after.home.items ≡ cells.home.items ++ Some p ∷ []
  pub spare : cells_after.spare.items ≡ cells.spare.items
  pub room : KeepsRoom cells cells_after

-- the last spare cell, or else one more, has the request and is a pod's; which cell leads where is left open
pub record IsTaken (p r place : ℕ) (cells cells_after : Cells) : Type 0 where
  pub reused : 0 < length cells.spare.items
      → (cells.spare.items ≡ cells_after.spare.items ++ place ∷ []) × (length cells_after.request.items ≡ length cells.request.items)
  pub made : length cells.spare.items ≡ 0
      → (place ≡ length cells.request.items) × (cells_after.spare.items ≡ []) × (length cells_after.request.items ≡ length cells.request.items + 1)
  pub next : length cells_after.next.items ≡ length cells_after.request.items
  pub home : length cells_after.home.items ≡ length cells_after.request.items
  pub request : IsPut 0 place r cells.request.items cells_after.request.items
  pub owner : IsPut None place (Some p) cells.home.items cells_after.home.items
  pub room : KeepsRoom cells cells_after

-- every cell leads where it led
abbrev pub LeadsAlike : Cells → Cells → Type 0
LeadsAlike cells cells_after = (x : ℕ) → slice_index cells_after.next.items x ≡ slice_index cells.next.items x

-- a cell that was taken has the request, and stands behind the last one of the queue, which is that of a pod
pub record IsQueued (p r : ℕ) (queue : Queue) (cells : Cells) (queue_after : Queue) (cells_after : Cells) : Type 0 where
  pub taken : IsTaken p r queue_after.last cells cells_after
  pub count : queue_after.count ≡ queue.count + 1
  pub alone : queue.count ≡ 0 → (queue_after.first ≡ queue_after.last) × LeadsAlike cells cells_after
  pub behind : 0 < queue.count → (queue_after.first ≡ queue.first) × IsPut 0 queue.last queue_after.last cells.next.items cells_after.next.items

-- the first cell of the queue is spare
pub record IsDequeued (queue : Queue) (cells : Cells) (queue_after : Queue) (cells_after : Cells) : Type 0 where
  pub spare : cells_after.spare.items ≡ cells.spare.items ++ queue.first ∷ []
  pub request : cells_after.request.items ≡ cells.request.items
  pub next : cells_after.next.items ≡ cells.next.items
  pub home : cells_after.home.items ≡ slice_set cells.home.items queue.first None
  pub first : queue_after.first ≡ slice_index cells.next.items queue.first
  pub last : queue_after.last ≡ queue.last
  pub count : queue_after.count + 1 ≡ queue.count
  pub room : KeepsRoom cells cells_after

-- a cell that leads to another one of the queue, and room for one more that is spare
pub record CanUnlink (before : ℕ) (queue : Queue) (cells : Cells) : Type 0 where
  pub some : 0 < queue.count
  pub inside : before < length cells.next.items
  pub next : slice_index cells.next.items before < length cells.next.items
  pub home : slice_index cells.next.items before < length cells.home.items
  pub room : length cells.spare.items < vec_capacity cells.spare

-- the cell behind this place is spare, and what stood behind it stands here
pub record IsUnlinked (before : ℕ) (queue : Queue) (cells : Cells) (queue_after : Queue) (cells_after : Cells) : Type 0 where
  pub spare : cells_after.spare.items ≡ cells.spare.items ++ slice_index cells.next.items before ∷ []
  pub request : cells_after.request.items ≡ cells.request.items
  pub next : cells_after.next.items ≡ slice_set cells.next.items before (slice_index cells.next.items (slice_index cells.next.items before))
  pub home : cells_after.home.items ≡ slice_set cells.home.items (slice_index cells.next.items before) None
  pub first : queue_after.first ≡ queue.first
  pub end : queue.last ≡ slice_index cells.next.items before → queue_after.last ≡ before
  pub inner : queue.last ≢ slice_index cells.next.items before → queue_after.last ≡ queue.last
  pub count : queue_after.count + 1 ≡ queue.count
  pub room : KeepsRoom cells cells_after

-- the cells of a queue are there
pub record AreInside (queue : Queue) (cells : Cells) : Type 0 where
  pub request : (k : ℕ) → k < queue.count → after cells.next.items queue.first k < length cells.request.items
  pub next : (k : ℕ) → k < queue.count → after cells.next.items queue.first k < length cells.next.items
  pub few : (length cells.request.items < 2 ^ 32) × (length cells.next.items < 2 ^ 32)

-- the cell at this place of a queue leads to the first one that has the request
pub record IsBefore (r : ℕ) (queue : Queue) (cells : Cells) (place : ℕ) : Type 0 where
  pub steps : ℕ
  pub within : suc steps < queue.count
  pub reached : after cells.next.items queue.first steps ≡ place
  pub has : slice_index cells.request.items (slice_index cells.next.items place) ≡ r
  pub earlier : (i : ℕ) → i < suc steps → slice_index (requests_in cells.request.items cells.next.items queue.first queue.count) i ≡ r → ⊥
