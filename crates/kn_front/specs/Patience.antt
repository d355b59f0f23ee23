-- Who has been silent for how long, and how much time is left.
use Rattle.std.specs.Prelude.{◌≡◌, ◌-◌, ◌<◌, ◌≤◌, ℕ, max, min, Bool, true, false, nat_le, Option, None, Some}
use Rattle.std.specs.Duration.{as_nanos}
use Rattle.std.specs.Time.{instant_nanos}
use Rattle.std.specs.declared.time.Duration.{Duration}
use Rattle.std.specs.declared.time.Instant.{Instant}
use Rattle.slab.specs.Slab.{Slab, Updates, get}
use Rattle.kn_front.specs.declared.limits.Limits.{Limits}
use Rattle.kn_front.specs.declared.silent.Silent.{Silent}

-- how many nanoseconds it has been silent at this time
abbrev pub silent_for : Instant → Silent → ℕ
silent_for now one = instant_nanos now - instant_nanos one.since

-- there is one, which has been silent for so many nanoseconds
abbrev pub is_due : ℕ → Instant → Option Silent → Bool
is_due idle now None = false
is_due idle now (Some one) = nat_le idle (silent_for now one)

-- there is a time, and it isn't after this one
abbrev pub is_by : Option Instant → Instant → Bool
is_by None t = false
is_by (Some u) t = nat_le (instant_nanos u) (instant_nanos t)

-- there is an end, after so many nanoseconds at most
abbrev pub EndsWithin : Option Duration → ℕ → Type 0
EndsWithin None n = ⊥
EndsWithin (Some wait) n = as_nanos wait ≤ n

-- this one has been given a place that nobody had, and the others keep theirs
abbrev pub IsAdded : Silent → Slab Silent → Slab Silent → Type 0
IsAdded one old new = (place : ℕ) × (get old place ≡ None) × Updates old new place (Some one)

-- each has a place below so many
abbrev pub AreWithin : ℕ → Slab Silent → Type 0
AreWithin places ones = (place : ℕ) (one : Silent) → get ones place ≡ Some one → place < places

-- nobody came before this time
abbrev pub CameSince : Option Instant → Slab Silent → Type 0
CameSince oldest ones = (place : ℕ) (one : Silent) → get ones place ≡ Some one → is_by oldest one.since ≡ true

-- nobody has been silent for so many nanoseconds
abbrev pub NobodyIsDue : ℕ → Instant → Slab Silent → Type 0
NobodyIsDue idle now ones = (place : ℕ) → is_due idle now (get ones place) ≡ false

-- the wait ends before anybody has been silent for so many nanoseconds
abbrev pub EndsInTime : Option Duration → ℕ → Instant → Slab Silent → Type 0
EndsInTime wait idle now ones =
    (place : ℕ) (one : Silent) → get ones place ≡ Some one → EndsWithin wait (idle - silent_for now one)

-- how many nanoseconds are left before a time, where there is one
abbrev pub nanos_before : Option Instant → Instant → ℕ
nanos_before None now = 0
nanos_before (Some until) now = instant_nanos until - instant_nanos now

-- how many nanoseconds it has, where there are any
abbrev pub nanos_of : Option Duration → ℕ
nanos_of None = 0
nanos_of (Some time) = as_nanos time

-- what a front keeps to where this is asked for: so many seconds, and from 1 to 4,096 who wait
pub record IsAsPatient (is asked : Limits) : Type 0 where
  pub idle : is.idle ≡ asked.idle
  pub read : is.read ≡ asked.read
  pub waiting : is.waiting ≡ min (max asked.waiting 1) 4096
