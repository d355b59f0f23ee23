-- Each row that is proper where it comes takes in a new request, ends a live one, or does neither.
use Rattle.std.proofs.Common.{◌≡◌, ℕ, true, false, ◌⊎◌, inl, inr, refl}
use Rattle.std.specs.Prelude.{None, Some}
use Rattle.std.proofs.lemmas.Bool.{false_from_ne_true}
use Rattle.kn_event.specs.declared.entry.Row.{Row}
use Rattle.kn_event.specs.declared.entry.Row.TheVariants as row
use Rattle.kn_event.specs.declared.revision.Spec.{Spec}
use Rattle.kn_event.specs.Lists.{contains}
use Rattle.kn_trace.specs.Rows.{ended_by, taken_by}
use Rattle.kn_trace.specs.Trace.{Trace, arrivals, each_row, ended, is_running, waiting}
use Rattle.kn_record.specs.Made.{IsNumbered, IsProper}
use Rattle.kn_record.specs.Facts.{Facts}

pub record IsQuiet (c : Trace) (x : Row) : Type 0 where
  pub takes : taken_by x ≡ None
  pub ends : ended_by x ≡ None

pub record IsStart (c : Trace) (x : Row) (r : ℕ) : Type 0 where
  pub takes : taken_by x ≡ Some r
  pub ends : ended_by x ≡ None
  pub on : ended c r ≡ false

pub record IsEnd (c : Trace) (x : Row) (r : ℕ) : Type 0 where
  pub takes : taken_by x ≡ None
  pub ends : ended_by x ≡ Some r
  pub member : contains r (each_row taken_by c) ≡ true
  pub on : ended c r ≡ false

abbrev pub Turn : Trace → Row → Type 0
Turn c x = IsQuiet c x ⊎ (((r : ℕ) × IsStart c x r) ⊎ ((r : ℕ) × IsEnd c x r))

-- taken in, and not ended
abbrev IsOn : Trace → ℕ → Type 0
IsOn c r = (contains r (each_row taken_by c) ≡ true) × (ended c r ≡ false)

ends : (c : Trace) (x : Row) (r : ℕ) → IsOn c r → taken_by x ≡ None → ended_by x ≡ Some r → Turn c x
ends c x r is_on taken ended = inr (inr (r, record { takes = taken; ends = ended; member = is_on.0; on = is_on.1 }))

module _ (facts : Facts) where
  open facts use {kinds.{ended_named, named-from}, members.{live_member, waiting_member, running_parts, at_pod_live, begun_taken, next_unnamed}}

  -- the next number has not ended
  next_on : (c : Trace) → IsNumbered c → ended c (arrivals c) ≡ false
  unfolding ended
  next_on c num = false_from_ne_true (contains (arrivals c) (each_row ended_by c)) (λ h.
      let named = named-from ended_by ended_named (arrivals c) c h in
      let not = next_unnamed c num in cc)

  starts : (c : Trace) (x : Row) (r : ℕ) → IsNumbered c → r ≡ arrivals c → taken_by x ≡ Some r → ended_by x ≡ None → Turn c x
  starts c x r num next taken ended = inr (inl (r, record { takes = taken; ends = ended; on = rw next (next_on c num) }))

  runs_on : (c : Trace) (r : ℕ) → IsNumbered c → is_running c r ≡ true → IsOn c r
  runs_on c r num h = let both = running_parts c r h in (begun_taken c r num both.0, both.1)

  waits_on : (c : Trace) (r : ℕ) → contains r (waiting c) ≡ true → IsOn c r
  waits_on c r h = let both = waiting_member c r h in (both.0, both.1.ended)

  pub turn : (s : Spec) (c : Trace) (x : Row) → IsNumbered c → IsProper s c x → Turn c x
  turn s c (row.Admit r tag) num h = starts c (row.Admit r tag) r num h.0.number refl refl
  turn s c (row.Direct r p) num h = starts c (row.Direct r p) r num h.0.number refl refl
  turn s c (row.Finish r ok) num h = ends c (row.Finish r ok) r (runs_on c r num h) refl refl
  turn s c (row.Expire r) num h = ends c (row.Expire r) r (waits_on c r h) refl refl
  turn s c (row.Cancel r) num h = ends c (row.Cancel r) r (waits_on c r h) refl refl
  turn s c (row.LostRequest r) num h = ends c (row.LostRequest r) r (live_member c r (at_pod_live c h.0 r num h.1)) refl refl
  turn s c _ num h = inl (record { takes = refl; ends = refl })
