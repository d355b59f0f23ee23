-- What a group keeps of each pod, and what one activator's event may change of it.
use Rattle.std.specs.Prelude.{◌≡◌, ℕ, ◌+◌, ◌-◌, ◌≤◌, ◌<◌, ◌⊎◌, max, List, length, slice_index_or}
use Rattle.kn_slices.specs.declared.change.Change.{Change}
use Rattle.kn_slices.specs.Slices.{hold, slice_of}

-- of one pod: what is held is within the limit in force, and that is what is wanted where no more is held
pub record IsWithin (n held wanted force : ℕ) : Type 0 where
  pub within : held ≤ force
  pub above : wanted ≤ force
  pub same : held ≤ wanted → force ≡ wanted
  pub least : n ≤ wanted
  pub most : force ≤ 1000

abbrev pub HoldsAt : {A : Type 0} → (ℕ → A → ℕ) → (ℕ → A → ℕ) → List A → List ℕ → List ℕ → ℕ → Type 0
HoldsAt limit running parts wanted force p =
    IsWithin (length parts) (hold (limit p) (running p) parts) (slice_index_or wanted p 0) (slice_index_or force p 0)

-- so it is of each pod
pub record IsGroup {A : Type 0} (limit running : ℕ → A → ℕ) (parts : List A) (wanted force : List ℕ) : Type 0 where
  pub some : 1 ≤ length parts
  pub few : length parts ≤ 16
  pub pods : length wanted ≤ 500
  pub many : length force ≡ length wanted
  pub each : (p : ℕ) → p < length wanted → HoldsAt limit running parts wanted force p

-- an activator's limit of this pod became n and no other of its limits changed; at no pod more run than before, or than its limit
pub record Sets {A : Type 0} (limit running : ℕ → A → ℕ) (pods p n : ℕ) (old new : A) : Type 0 where
  pub here : limit p new ≡ n
  pub others : (q : ℕ) → q < pods → (q ≡ p → ⊥) → limit q new ≡ limit q old
  pub runs : (q : ℕ) → q < pods → running q new ≤ max (running q old) (limit q new)

-- no limit of it changed
pub record Keeps {A : Type 0} (limit running : ℕ → A → ℕ) (pods : ℕ) (old new : A) : Type 0 where
  pub limits : (q : ℕ) → q < pods → limit q new ≡ limit q old
  pub runs : (q : ℕ) → q < pods → running q new ≤ max (running q old) (limit q new)

-- what a due change is: a cut, or a raise that leaves what is held within what is wanted. d is any activator
pub record IsDue {A : Type 0} (limit running : ℕ → A → ℕ) (parts : List A) (wanted : List ℕ) (x : Change) (d : A) : Type 0 where
  pub pod : x.pod < length wanted
  pub part : x.activator < length parts
  pub value : x.limit ≡ slice_of (slice_index_or wanted x.pod 0) x.activator (length parts)
  pub other : x.limit ≡ limit x.pod (slice_index_or parts x.activator d) → ⊥
  pub way : (x.limit < limit x.pod (slice_index_or parts x.activator d))
      ⊎ (hold (limit x.pod) (running x.pod) parts - max (limit x.pod (slice_index_or parts x.activator d)) (running x.pod (slice_index_or parts x.activator d))
      + max x.limit (running x.pod (slice_index_or parts x.activator d)) ≤ slice_index_or wanted x.pod 0)
