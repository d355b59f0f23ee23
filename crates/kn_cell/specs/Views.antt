-- What seats know, and what the rule says of them all.
use Rattle.std.specs.Prelude.{ℕ, ◌≡◌, ◌≢◌, ◌⊎◌, ◌≤◌, ◌<◌, ◌+◌, ◌^◌, List, true, false, cond}
use mathlib.Core.Option.{some}
use lib.ListN.{get_elem?}
use Rattle.kn_core.specs.State.{RevisionState, StandsForSome}
use Rattle.kn_cell.specs.declared.past.Past.{Past}
use Rattle.kn_cell.specs.declared.view.Key.{Key}
use Rattle.kn_cell.specs.declared.view.Joined.{Joined}
use Rattle.kn_cell.specs.declared.view.View.{View}
use Rattle.kn_cell.specs.Lists.{StartsWith, Each, total}
use Rattle.kn_cell.specs.History.{IsInBounds, IsLegal, rows_by}

abbrev pub opening : Key → RevisionState
opening k = k.opening.value

-- the limits under which a cell is made
pub record IsBounded (k : Key) : Type 0 where
  pub room : k.room ≤ 1000000
  pub events : (opening k).events < 2 ^ 53
  pub passes : (1 ≤ k.passes) × (k.passes ≤ 1100)
  pub some : StandsForSome (opening k)

-- how many of the cell's passes a view stands for
abbrev pub weight : View → ℕ
weight v = cond v.spent 0 (1 + v.free + v.back)

-- what was seen is a beginning of the log, and what a pass did is what the log has of it
pub record Knows (log : List Past) (number : ℕ) (seen mine : List Past) : Type 0 where
  pub front : StartsWith log seen
  pub own : mine ≡ rows_by number seen
  pub whole : mine ≡ rows_by number log

-- the number is the view's own, or of a pass that was joined to it
abbrev pub Has : View → ℕ → Type 0
Has v n = (n ≡ v.number) ⊎ ((k : ℕ) × (o : Joined) × (get_elem? v.others k ≡ some o) × (n ≡ o.number))

-- the seat id has the number
pub record Holds (views : List View) (id n : ℕ) : Type 0 where
  pub view : View
  pub there : get_elem? views id ≡ some view
  pub fresh : view.spent ≡ false
  pub has : Has view n

-- the view of the seat id, which is not spent. `given` numbers were given away, each to its owner
pub record IsPass (key : Key) (log : List Past) (given root : ℕ) (owner : ℕ → ℕ) (id : ℕ) (v : View) : Type 0 where
  pub key_is : v.key ≡ key
  pub knows : Knows log v.number v.seen v.mine
  pub joined : Each (λ o. Knows log o.number o.seen o.mine) v.others
  pub own : (owner v.number ≡ id) × (v.number < given)
  pub theirs : Each (λ o. (owner o.number ≡ id) × (o.number < given) × (o.number ≢ v.number)) v.others
  pub free : 0 < v.free → (id ≡ root) × (v.free + given ≡ key.passes)

pub record Passes (key : Key) (log : List Past) (views : List View) : Type 0 where
  pub given : ℕ
  pub root : ℕ
  pub owner : ℕ → ℕ
  pub bounded : IsBounded key
  pub legal : IsLegal (opening key) log
  pub weights : total weight views ≡ key.passes
  pub each : (id : ℕ) (v : View) → get_elem? views id ≡ some v → v.spent ≡ false → IsPass key log given root owner id v
  pub rows : Each (λ p. p.pass < given) log
  pub bounds : Each (λ p. IsInBounds p.event) log
  pub holders : (n : ℕ) → n < given → Holds views (owner n) n

-- what the views that are not spent know of the rows that were taken out. One at most is the scribe's, who alone takes them
pub record Takings (key : Key) (taken : ℕ) (views : List View) : Type 0 where
  pub scribe : ℕ
  pub plain : key.lasting ≡ false → taken ≡ 0
  pub gone : (id : ℕ) (v : View) → get_elem? views id ≡ some v → v.spent ≡ false → v.gone ≤ taken
  pub takes : (id : ℕ) (v : View) → get_elem? views id ≡ some v → v.spent ≡ false → v.scribe ≡ true → (id ≡ scribe) × (v.gone ≡ taken) × (key.lasting ≡ true)
