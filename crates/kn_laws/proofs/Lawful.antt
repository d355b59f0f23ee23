-- A trace of proper rows is lawful.
use Rattle.std.proofs.Common.{◌≡◌, ℕ, true, false, List, refl, sym, subst, ◌∙◌}
use Rattle.std.specs.Prelude.{Option, None, Some}
use Rattle.std.proofs.lemmas.Bool.{false_from_ne_true}
use Rattle.kn_event.specs.declared.entry.Row.{Row}
use Rattle.kn_event.specs.declared.entry.Row.TheVariants as row
use Rattle.kn_event.specs.declared.event.Event.{Event}
use Rattle.kn_event.specs.declared.revision.Spec.{Spec}
use Rattle.kn_event.specs.Lists.{contains}
use Rattle.kn_trace.specs.Rows.{brought_to, ended_by, outcome_by, refused_by, taken_by}
use Rattle.kn_trace.specs.Trace.{Trace, arrivals, each_row, ended, queued_at}
use Rattle.kn_trace.specs.Events.{trace_of}
use Rattle.kn_trace.specs.Laws.{Always, IsFirstOutcome, IsLawful, IsRunnableAt, IsWithinLimits, RefusesFull, RemovesEmpty}
use Rattle.kn_record.specs.Rows.{moved_by, named_by}
use Rattle.kn_record.specs.Made.{IsMade, IsNumbered, IsProper}
use Rattle.kn_record.specs.Kept.{Kept}
use Rattle.kn_record.specs.Facts.{Facts}

-- a proper removal is of an empty draining pod, a proper loss of an empty live one
removes : (s : Spec) (c : Trace) (x : Row) → Kept s c → IsProper s c x → RemovesEmpty c x
removes s c (row.Remove q) kept p = p
removes s c (row.LostPod q) kept p = p
removes s c _ kept p = tt

-- a proper refusal meets a full breaker or pod
refuses : (s : Spec) (c : Trace) (x : Row) → Kept s c → IsProper s c x → RefusesFull s c x
refuses s c (row.QueueFull r None) kept p = p.1
refuses s c (row.QueueFull r (Some q)) kept p = p.1
refuses s c _ kept p = tt

module _ (facts : Facts) where
  open facts use {lists.{first_member}, kinds.{brought_moved, ended_named, refused_named, outcome_parts, contains-split, contains-within, within-from}, members.{waiting_member, at_pod_member, queued_member, running_parts, begun_taken, moved_taken, next_unnamed, pod_is}, proper.{made_kept, made_at, made_trace}}

  outcome-split : (r : ℕ) (c : Trace) → contains r (each_row ended_by c) ≡ false → contains r (each_row refused_by c) ≡ false → contains r (each_row outcome_by c) ≡ false
  outcome-split r c e f = contains-split outcome_by ended_by refused_by outcome_parts r c ∙ rw (e, f) refl

  -- a request that was taken in and has not ended has no outcome
  pub live_undecided : (c : Trace) (r : ℕ) → IsNumbered c → contains r (each_row taken_by c) ≡ true → ended c r ≡ false → contains r (each_row outcome_by c) ≡ false
  unfolding ended
  live_undecided c r num taken e = outcome-split r c e (false_from_ne_true (contains r (each_row refused_by c)) (λ h. let no = num.apart r h in absurd (cc)))

  -- nor has a request that is new
  new_undecided : (c : Trace) (r : ℕ) → IsNumbered c → r ≡ arrivals c → contains r (each_row outcome_by c) ≡ false
  new_undecided c r num e =
      let n = next_unnamed c num in
      rw e (outcome-split (arrivals c) c (contains-within ended_by named_by ended_named (arrivals c) c n) (contains-within refused_by named_by refused_named (arrivals c) c n))

  -- ---- the laws, row by row

  -- a proper outcome is the request's first
  single : (s : Spec) (c : Trace) (x : Row) → Kept s c → IsProper s c x → IsFirstOutcome c x
  single s c (row.QueueFull r None) kept p = new_undecided c r kept.requests p.0.number
  single s c (row.QueueFull r (Some q)) kept p = new_undecided c r kept.requests p.0.number
  single s c (row.Overload r) kept p = new_undecided c r kept.requests p.0
  single s c (row.Finish r ok) kept p = let both = running_parts c r p in live_undecided c r kept.requests (begun_taken c r kept.requests both.0) both.1
  single s c (row.Expire r) kept p = let both = waiting_member c r p in live_undecided c r kept.requests both.0 both.1.ended
  single s c (row.Cancel r) kept p = let both = waiting_member c r p in live_undecided c r kept.requests both.0 both.1.ended
  single s c (row.LostRequest r) kept p =
      let both = at_pod_member c p.0 r p.1 in
      live_undecided c r kept.requests (moved_taken c r kept.requests (within-from (brought_to p.0) moved_by (brought_moved p.0) r c both.0)) both.1
  single s c _ kept p = tt

  -- a proper row keeps the limits
  within : (s : Spec) (c : Trace) (x : Row) → Kept s c → IsProper s c x → IsWithinLimits s c x
  within s c (row.Assign r q) kept p = p
  within s c (row.Run r) kept p =
      let there = (queued_member c p.0 r (first_member r (queued_at c p.0) p.1.first)).0 in
      subst (λ (o : Option ℕ). IsRunnableAt c r o) (sym (pod_is c p.0 r kept.requests there)) p.1
  within s c (row.Direct r q) kept p = p.1
  within s c _ kept p = tt

  -- a law that each proper row keeps holds at each place of a trace that was made
  pub made_law : (s : Spec) (P : Trace → Row → Type 0) → ((c : Trace) (x : Row) → Kept s c → IsProper s c x → P c x) → (c : Trace) → IsMade s c → Always P c
  made_law s P law c made before e rest eq = let parts = made_at s c before e rest made eq in law before e.row (made_kept s before parts.0) parts.1

  -- a trace that was made is lawful
  pub made_lawful : (s : Spec) (c : Trace) → IsMade s c → IsLawful s c
  made_lawful s c made = record {
    single_outcome = made_law s IsFirstOutcome (single s) c made;
    limit_safety = made_law s (IsWithinLimits s) (within s) c made;
    removal = made_law s RemovesEmpty (removes s) c made;
    justified_queue_full = made_law s (RefusesFull s) (refuses s) c made;
  }

  pub lawful_trace : (s : Spec) (start : ℕ) (es : List Event) → IsLawful s (trace_of s start es)
  lawful_trace s start es = made_lawful s (trace_of s start es) (made_trace s start es)
