-- A schedule that makes one event more.
use Rattle.std.proofs.Common.{◌≡◌, ℕ, zero, suc, ◌+◌, ◌<◌, ◌≤◌, false, List, [], ◌∷◌, ◌++◌, length, refl, sym, ◌∙◌, subst, arith}
use Rattle.std.specs.Prelude.{slice_index_or}
use Rattle.kn_event.specs.declared.entry.Entry.{Entry}
use Rattle.kn_event.specs.declared.event.Event.{Event}
use Rattle.kn_event.specs.Lists.{contains}
use Rattle.kn_trace.specs.Trace.{Trace, arrivals, waiting}
use Rattle.kn_core.specs.State.{StandsFor}
use Rattle.kn_laws.specs.Kinds.{EachAt}
use Rattle.kn_agenda.specs.declared.item.Item.{Item}
use Rattle.kn_agenda.specs.declared.item.Kind.{Kind}
use Rattle.kn_agenda.specs.declared.item.Kind.TheVariants.{Arrives, Finishes, Passes, Readies, Ticks}
use Rattle.kn_agenda.specs.declared.job.Job.{Job}
use Rattle.kn_agenda.specs.Workload.{AreJobs, Workload}
use Rattle.kn_agenda.specs.Runs.{ComeByJobs, NobodyWaitsBelow, so_far}
use Rattle.kn_agenda.specs.Due.{IsNext, event_of, ticks_of}
use Rattle.kn_agenda.specs.Kinds.{ticks_behind}
use Rattle.kn_agenda.specs.Agenda.{AgendaState}
use Rattle.kn_agenda.specs.Keeps.{Keeps, KeepsBy}
use Rattle.kn_agenda.specs.Schedule.{Made, ScheduleState}
use Rattle.kn_agenda.proofs.Passes.{both_below}
use Rattle.kn_agenda.proofs.Stepping.{ticks_more, ticks_none, ticks_one}

pub below_of : (es : List Event) (x : ScheduleState) (n : ℕ) → Made es x
    → ((c : Trace) (r : ℕ) → StandsFor x.revision c → x.waits ≤ r → r < n → contains r (waiting c) ≡ false)
    → NobodyWaitsBelow (so_far x.workload es) n
below_of es x n m before = both_below (so_far x.workload es) x.waits n m.waits (λ q from less. before (so_far x.workload es) q m.revision from less)

-- the item comes next after the events that were made
pub next_of : (es : List Event) (x : ScheduleState) (n : ℕ) (item : Item) → Made es x
    → ((c : Trace) (r : ℕ) → StandsFor x.revision c → x.waits ≤ r → r < n → contains r (waiting c) ≡ false)
    → ((c : Trace) → StandsFor x.revision c → x.waits ≤ arrivals c → n ≤ arrivals c)
    → ((c : Trace) → StandsFor x.revision c → Keeps x.workload.jobs c x.agenda.finishes x.agenda.starting → ComeByJobs x.workload.jobs c → arrivals c ≤ length x.workload.jobs → n ≤ arrivals c
    → NobodyWaitsBelow c n → IsNext x.workload c x.ticks item)
    → IsNext x.workload (so_far x.workload es) (ticks_of es) item
next_of es x n item m before most next =
    let c = so_far x.workload es in
    subst (λ (k : ℕ). IsNext x.workload c k item) m.ticks (next c m.revision m.keeps m.runs.come m.runs.few (most c m.revision m.low) (below_of es x n m before))

-- an agenda that keeps on, and another cursor below which nobody waits
pub made_on : (es : List Event) (x : ScheduleState) (n : ℕ) (a : AgendaState) → Made es x
    → ((c : Trace) (r : ℕ) → StandsFor x.revision c → x.waits ≤ r → r < n → contains r (waiting c) ≡ false)
    → ((c : Trace) → StandsFor x.revision c → x.waits ≤ arrivals c → n ≤ arrivals c)
    → KeepsBy x.revision x.agenda a → a.room ≡ x.agenda.room
    → Made es (record { workload = x.workload; revision = x.revision; agenda = a; waits = n; ticks = x.ticks })
made_on es x n a m before most keeps room =
    let c = so_far x.workload es in
    record {
      runs = m.runs;
      revision = m.revision;
      spec = m.spec;
      keeps = keeps x.workload.jobs c m.revision m.keeps;
      room = (let old = m.room in omega arith);
      low = most c m.revision m.low;
      waits = below_of es x n m before;
      ticks = m.ticks;
      events = m.events;
    }

-- the ticks so far
pub ticks_on : (w : Workload) (es : List Event) (x : Item) → ticks_behind (ticks_of es) x.kind ≡ ticks_of (es ++ event_of w x ∷ [])
ticks_on w es x = by x.kind refl ∙ sym (ticks_more es (event_of w x))
  where
    none : (x.kind ≡ Ticks → ⊥) → ticks_of es ≡ ticks_of es + ticks_of (event_of w x ∷ [])
    none other = let zero' = ticks_none w x other in omega arith

    by : (k : Kind) → x.kind ≡ k → ticks_behind (ticks_of es) k ≡ ticks_of es + ticks_of (event_of w x ∷ [])
    by Finishes is = none (λ h. let off : Finishes ≡ Ticks = sym is ∙ h in cc)
    by Readies is = none (λ h. let off : Readies ≡ Ticks = sym is ∙ h in cc)
    by Passes is = none (λ h. let off : Passes ≡ Ticks = sym is ∙ h in cc)
    by Arrives is = none (λ h. let off : Arrives ≡ Ticks = sym is ∙ h in cc)
    by Ticks is = let one = ticks_one w x is in omega arith

-- all entries of an event are at its time
pub entries_time : (t : ℕ) (es : List Entry) → EachAt t es → (k : ℕ) (d : Entry) → k < length es → (slice_index_or es k d).time ≡ t
entries_time t [] h k d less = absurd (omega (arith, less))
entries_time t (e ∷ es) h zero d less = h.0
entries_time t (e ∷ es) h (suc k) d less = entries_time t es h.1 k d (omega (arith, less))

pub services : (last until : ℕ) (jobs : List Job) → AreJobs last until jobs → (k : ℕ) (d : Job) → k < length jobs → (slice_index_or jobs k d).service ≤ 3600000
services last until [] h k d less = absurd (omega (arith, less))
services last until (j ∷ jobs) h zero d less = h.3
services last until (j ∷ jobs) h (suc k) d less = services j.time until jobs h.4 k d (omega (arith, less))

-- a schedule that made these events, behind which this item comes
pub record Comes (es : List Event) (x : ScheduleState) (item : Item) : Type 0 where
  pub made : Made es x
  pub next : IsNext x.workload (so_far x.workload es) (ticks_of es) item

pub comes_at : (x y : ScheduleState) (es : List Event) (item : Item) → x ≡ y → Made es y → IsNext y.workload (so_far y.workload es) (ticks_of es) item → Comes es x item
comes_at x y es item same made next = subst (λ (s : ScheduleState). Comes es s item) (sym same) (record { made = made; next = next })
