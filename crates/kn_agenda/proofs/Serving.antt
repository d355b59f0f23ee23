-- A request that has begun ends when its job's service is over, since only its own item's event ends it.
use Rattle.std.proofs.Common.{◌≡◌, ℕ, Bool, true, false, ◌⊎◌, inl, inr, List, ◌∷◌, ◌++◌, refl, sym, ap, ◌∙◌, subst, append_assoc}
use Rattle.std.specs.Prelude.{Some, slice_get}
use Rattle.kn_event.specs.declared.entry.Row.{Row}
use Rattle.kn_event.specs.declared.entry.Row.TheVariants as row
use Rattle.kn_event.specs.declared.event.Act.{Act}
use Rattle.kn_event.specs.declared.event.Act.TheVariants as act
use Rattle.kn_event.specs.Lists.{contains}
use Rattle.kn_trace.specs.Rows.{begun_by, created_by, ended_by, expired_by, readied_by}
use Rattle.kn_trace.specs.Trace.{Trace, each_row, ended}
use Rattle.kn_trace.specs.Events.{react}
use Rattle.kn_record.specs.Facts.{Facts}
use Rattle.kn_record.specs.Made.{Holds, IsMade, IsProper}
use Rattle.kn_laws.specs.ByAct.{AreByAct, IsByAct}
use Rattle.kn_laws.specs.Kinds.{EachAt}
use Rattle.kn_agenda.specs.declared.item.Item.{Item}
use Rattle.kn_agenda.specs.declared.item.Kind.{Kind}
use Rattle.kn_agenda.specs.declared.item.Kind.TheVariants.{Arrives, Finishes, Passes, Readies, Ticks}
use Rattle.kn_agenda.specs.declared.job.Job.{Job}
use Rattle.kn_agenda.specs.Workload.{Workload}
use Rattle.kn_agenda.specs.Course.{ended_at, readied_at}
use Rattle.kn_agenda.specs.Due.{IsAfter, IsDone, IsDue, IsDueAt, begun_at, created_at, event_of, tag_of}
use Rattle.kn_agenda.proofs.Going.{IsSaidIn, new_time, old_or_new}
use Rattle.kn_agenda.proofs.Hearing.{holds_rest}
use Rattle.kn_agenda.proofs.Keeping.{done-more, time-more}
use Rattle.kn_agenda.proofs.Readies.{happened}
use Rattle.kn_agenda.proofs.Said.{said_more}
use Rattle.kn_agenda.proofs.Spoken.{begins_open, no_begun_expired, said_there}

-- ---- what is so all along

-- each that has begun and ended did so when its service was over
abbrev pub AreDone : List Job → Trace → Type 0
AreDone jobs c = (r b t : ℕ) → begun_at c r ≡ Some b → ended_at c r ≡ Some t → IsDone jobs c r t

-- each pod that is ready became so when it had booted
abbrev pub AreBooted : ℕ → Trace → Type 0
AreBooted boot c = (p t : ℕ) → readied_at c p ≡ Some t → IsAfter boot (created_at c p) t

-- ---- which act an item's event has

abbrev pub IsCancelOrLoss : Act → Type 0
IsCancelOrLoss a = ((r : ℕ) × (a ≡ act.Cancel r)) ⊎ ((p : ℕ) × (a ≡ act.Lost p))

ends_how : (a : Act) (x : Row) (r : ℕ) → IsByAct a x → ended_by x ≡ Some r → (expired_by x ≡ Some r) ⊎ (((ok : Bool) × (a ≡ act.Finish r ok)) ⊎ IsCancelOrLoss a)
ends_how a (row.Finish q ok) r h k = let same : q ≡ r = cc in inr (inl (ok, h ∙ ap (λ (n : ℕ). act.Finish n ok) same))
ends_how a (row.Expire q) r h k = inl k
ends_how a (row.Cancel q) r h k = inr (inr (inl (q, h)))
ends_how a (row.LostRequest q) r h k = inr (inr (inr h))
ends_how a _ r h k = absurd (cc)

readies_how : (a : Act) (x : Row) (p : ℕ) → IsByAct a x → readied_by x ≡ Some p → a ≡ act.Ready p
readies_how a (row.Ready q) p h k = let same : q ≡ p = cc in h ∙ ap (λ (n : ℕ). act.Ready n) same
readies_how a _ p h k = absurd (cc)

pub no_cancel_or_loss : (w : Workload) (x : Item) → IsCancelOrLoss (event_of w x).act → ⊥
no_cancel_or_loss w x (inl (r, h)) = by x.kind refl h
  where
    by : (k : Kind) → x.kind ≡ k → (event_of w x).act ≡ act.Cancel r → ⊥
    by Finishes is h = let off : act.Finish x.number true ≡ act.Cancel r = rw is at h in cc
    by Readies is h = let off : act.Ready x.number ≡ act.Cancel r = rw is at h in cc
    by Passes is h = let off : act.Pass ≡ act.Cancel r = rw is at h in cc
    by Arrives is h = let off : act.Arrive (tag_of (slice_get w.jobs x.number)) ≡ act.Cancel r = rw is at h in cc
    by Ticks is h = let off : act.Tick ≡ act.Cancel r = rw is at h in cc
no_cancel_or_loss w x (inr (p, h)) = by x.kind refl h
  where
    by : (k : Kind) → x.kind ≡ k → (event_of w x).act ≡ act.Lost p → ⊥
    by Finishes is h = let off : act.Finish x.number true ≡ act.Lost p = rw is at h in cc
    by Readies is h = let off : act.Ready x.number ≡ act.Lost p = rw is at h in cc
    by Passes is h = let off : act.Pass ≡ act.Lost p = rw is at h in cc
    by Arrives is h = let off : act.Arrive (tag_of (slice_get w.jobs x.number)) ≡ act.Lost p = rw is at h in cc
    by Ticks is h = let off : act.Tick ≡ act.Lost p = rw is at h in cc

pub is_finish : (w : Workload) (x : Item) (r : ℕ) (ok : Bool) → (event_of w x).act ≡ act.Finish r ok → (x.kind ≡ Finishes) × (x.number ≡ r)
is_finish w x r ok h = by x.kind refl h
  where
    by : (k : Kind) → x.kind ≡ k → (event_of w x).act ≡ act.Finish r ok → (x.kind ≡ Finishes) × (x.number ≡ r)
    by Finishes is h = let same : act.Finish x.number true ≡ act.Finish r ok = rw is at h in (is, cc)
    by Readies is h = absurd (let off : act.Ready x.number ≡ act.Finish r ok = rw is at h in cc)
    by Passes is h = absurd (let off : act.Pass ≡ act.Finish r ok = rw is at h in cc)
    by Arrives is h = absurd (let off : act.Arrive (tag_of (slice_get w.jobs x.number)) ≡ act.Finish r ok = rw is at h in cc)
    by Ticks is h = absurd (let off : act.Tick ≡ act.Finish r ok = rw is at h in cc)

pub is_readying : (w : Workload) (x : Item) (p : ℕ) → (event_of w x).act ≡ act.Ready p → (x.kind ≡ Readies) × (x.number ≡ p)
is_readying w x p h = by x.kind refl h
  where
    by : (k : Kind) → x.kind ≡ k → (event_of w x).act ≡ act.Ready p → (x.kind ≡ Readies) × (x.number ≡ p)
    by Finishes is h = absurd (let off : act.Finish x.number true ≡ act.Ready p = rw is at h in cc)
    by Readies is h = let same : act.Ready x.number ≡ act.Ready p = rw is at h in (is, cc)
    by Passes is h = absurd (let off : act.Pass ≡ act.Ready p = rw is at h in cc)
    by Arrives is h = absurd (let off : act.Arrive (tag_of (slice_get w.jobs x.number)) ≡ act.Ready p = rw is at h in cc)
    by Ticks is h = absurd (let off : act.Tick ≡ act.Ready p = rw is at h in cc)

-- what is due of a kind and a number that are known
pub due_as : (w : Workload) (c : Trace) (ticks : ℕ) (x : Item) (k : Kind) (n : ℕ) → (x.kind ≡ k) × (x.number ≡ n) → IsDue w c ticks x → IsDueAt w c ticks k n x.time
due_as w c ticks x k n (kind, number) due = subst (λ (m : ℕ). IsDueAt w c ticks k m x.time) number (subst (λ (q : Kind). IsDueAt w c ticks q x.number x.time) kind due)

-- ---- one event more

module _ (facts : Facts) (w : Workload) (c : Trace) (ticks : ℕ) (x : Item) (made : IsMade w.spec c) (by_act : AreByAct w.spec c (event_of w x)) (each : EachAt x.time (react w.spec c (event_of w x))) (due : IsDue w c ticks x) where
  open facts use {proper.{made_kept, made_react, react-holds}}

  -- who ended before begins no more
  not_again : (r b : ℕ) → ended c r ≡ true → IsSaidIn begun_by (react w.spec c (event_of w x)) r b → ⊥
  unfolding ended
  not_again r b over new =
      let proper : Holds (IsProper w.spec) c (new.before ++ new.entry ∷ new.rest) = subst (Holds (IsProper w.spec) c) new.split (react-holds w.spec c (event_of w x) (made_kept w.spec c made)) in
      let here = (holds_rest (IsProper w.spec) c new.before (new.entry ∷ new.rest) proper).0 in
      let open' : contains r (each_row ended_by (c ++ new.before)) ≡ false = begins_open facts w.spec (c ++ new.before) new.entry.row r here new.says in
      let still = said_more ended_by c new.before r over in
      cc

  pub done_more : AreDone w.jobs c → AreDone w.jobs (c ++ react w.spec c (event_of w x))
  unfolding ended
  done_more all r b t begun over = by (old_or_new ended_by c (react w.spec c (event_of w x)) r t over) (old_or_new begun_by c (react w.spec c (event_of w x)) r b begun)
    where
      whole : IsMade w.spec (c ++ react w.spec c (event_of w x))
      whole = made_react w.spec c (event_of w x) made

      now : (new : IsSaidIn ended_by (react w.spec c (event_of w x)) r t) → (expired_by new.entry.row ≡ Some r) ⊎ (((ok : Bool) × ((event_of w x).act ≡ act.Finish r ok)) ⊎ IsCancelOrLoss (event_of w x).act) → IsDone w.jobs (c ++ react w.spec c (event_of w x)) r t
      now new (inl k) = absurd (no_begun_expired facts w.spec (c ++ react w.spec c (event_of w x)) r whole (happened begun_by (c ++ react w.spec c (event_of w x)) r b begun)
          (said_there expired_by (c ++ react w.spec c (event_of w x)) (c ++ new.before) new.entry new.rest r (ap (λ (es : Trace). c ++ es) new.split ∙ sym (append_assoc c new.before (new.entry ∷ new.rest))) k))
      now new (inr (inl (ok, is))) =
          let own = (due_as w c ticks x Finishes r (is_finish w x r ok is) due).1 in
          let time : x.time ≡ t = sym (new_time ended_by x.time (react w.spec c (event_of w x)) r t each new) in
          done-more w.jobs c (react w.spec c (event_of w x)) r t (subst (λ (n : ℕ). IsDone w.jobs c r n) time own)
      now new (inr (inr other)) = absurd (no_cancel_or_loss w x other)

      by : (ended_at c r ≡ Some t) ⊎ IsSaidIn ended_by (react w.spec c (event_of w x)) r t → (begun_at c r ≡ Some b) ⊎ IsSaidIn begun_by (react w.spec c (event_of w x)) r b → IsDone w.jobs (c ++ react w.spec c (event_of w x)) r t
      by (inl old) (inl was) = done-more w.jobs c (react w.spec c (event_of w x)) r t (all r b t was old)
      by (inl old) (inr new) = absurd (not_again r b (happened ended_by c r t old) new)
      by (inr new) was = now new (ends_how (event_of w x).act new.entry.row r (by_act new.before new.entry new.rest new.split) new.says)

  pub booted_more : AreBooted w.boot c → AreBooted w.boot (c ++ react w.spec c (event_of w x))
  booted_more all p t ready = by (old_or_new readied_by c (react w.spec c (event_of w x)) p t ready)
    where
      after_more : IsAfter w.boot (created_at c p) t → IsAfter w.boot (created_at (c ++ react w.spec c (event_of w x)) p) t
      after_more (b, at, sum) = (b, time-more created_by c (react w.spec c (event_of w x)) p b at, sum)

      by : (readied_at c p ≡ Some t) ⊎ IsSaidIn readied_by (react w.spec c (event_of w x)) p t → IsAfter w.boot (created_at (c ++ react w.spec c (event_of w x)) p) t
      by (inl old) = after_more (all p t old)
      by (inr new) =
          let act' = readies_how (event_of w x).act new.entry.row p (by_act new.before new.entry new.rest new.split) new.says in
          let own = (due_as w c ticks x Readies p (is_readying w x p act') due).1 in
          let time : x.time ≡ t = sym (new_time readied_by x.time (react w.spec c (event_of w x)) p t each new) in
          after_more (subst (λ (n : ℕ). IsAfter w.boot (created_at c p) n) time own)
