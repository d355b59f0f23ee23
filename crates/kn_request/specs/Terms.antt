-- On what terms a request waits.
use Rattle.std.specs.Prelude.{◌⊎◌, ◌≤◌, ℕ}
use Rattle.kn_io.specs.Causes.{Rose}

-- what its clock may answer, and what holds where its client was said to have left
pub record Terms : Type 1 where
  pub reading : ℕ → Type 0
  pub left : Type 0

-- nobody watches its client
abbrev pub unwatched : (ℕ → Type 0) → Terms
unwatched reading = record { reading = reading; left = ⊥ }

-- its client was watched by one that may say so or not, and its caller's faults were counted before and after
abbrev pub watched : (ℕ → Type 0) → Type 0 → ℕ → ℕ → Terms
watched reading leaves before now = record { reading = reading; left = leaves × Rose before now }

-- a request may be cancelled at this reading: it is due, or its client has left
abbrev pub MayCancel : Terms → ℕ → ℕ → Type 0
MayCancel terms due at = (due ≤ at) ⊎ terms.left
