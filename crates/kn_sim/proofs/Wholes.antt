-- The whole journal, or how far it came.
use Rattle.std.proofs.Common.{◌≡◌, ℕ, List, [], ◌++◌, refl, sym, subst, arith}
use Rattle.std.specs.Prelude.{Option, codes}
use Rattle.std.specs.Io.KnownBytes.{Appends}
use Rattle.kn_event.specs.declared.event.Event.{Event}
use Rattle.kn_io.specs.Prefix.{AppendsPrefix}
use Rattle.kn_journal.specs.Journal.{AreEvents, IsJournal, events_text, journal_text}
use Rattle.kn_agenda.specs.Due.{IsSchedule}
use Rattle.kn_agenda.specs.Schedule.{ScheduleState}
use Rattle.kn_agenda.specs.Workload as plain
use Rattle.kn_report.specs.AddingLaws.{AddingLaws}
use Rattle.kn_report.specs.Waiting.{Adds}
use Rattle.kn_sim.specs.declared.workload.Workload.{Workload}
use Rattle.kn_sim.specs.Simulated.{IsBegun, IsWorkload, IsWritten, WritesAll, WritesSome, opening_text, plain_of, simulated}
use Rattle.kn_sim.proofs.Pieces.{before_end, whole-text}

in_range : (w : Workload) (es : List Event) → IsWorkload w → AreEvents 1 w.start es → IsJournal (simulated w es)
in_range w es good range = record {
  version_least = omega arith;
  version_most = omega arith;
  setup = good.setup;
  start = (let a = good.plain.start in let b = good.plain.until in omega arith);
  events = range;
}

at_start : (w : Workload) (x : ScheduleState) (es : List Event) → x.revision.clock ≡ w.start → AreEvents 1 x.revision.clock es → AreEvents 1 w.start es
at_start w x es is range = subst (λ (t : ℕ). AreEvents 1 t es) is range

all_added : AddingLaws → (w : Workload) (es : List Event) (a b d e : Option (List ℕ)) (q r s : List ℕ) → Adds a b [] q (opening_text w) → Adds b d q r (events_text es) → Adds d e r s (codes "end\n")
    → Adds a e [] s (journal_text (simulated w es))
all_added laws w es a b d e q r s opening events end = laws.more opening (laws.more events end refl) (whole-text w es)

all_written : AddingLaws → (w : Workload) (es : List Event) (a e f : Option (List ℕ)) (s t : List ℕ) → Adds a e [] s (journal_text (simulated w es)) → Adds e f s t [] → t ≡ [] → Appends a f (journal_text (simulated w es))
all_written laws w es a e f s t all rest none = laws.done (laws.on all rest) none

pub whole : AddingLaws → (w : Workload) (x y : ScheduleState) (a b d e f : Option (List ℕ)) (q r s t : List ℕ) → IsWorkload w → x.workload ≡ plain_of w → x.revision.clock ≡ w.start
    → Adds a b [] q (opening_text w) → WritesAll [] x y b d q r → Adds d e r s (codes "end\n") → Adds e f s t [] → t ≡ [] → IsWritten w a f y.revision.events
whole laws w x y a b d e f q r s t good same clock opening all end rest none = record {
  events = all.events;
  schedule = subst (λ (p : plain.Workload). IsSchedule p all.events) same all.schedule;
  many = all.many;
  journal = in_range w all.events good (at_start w x all.events clock all.range);
  text = all_written laws w all.events a e f s t (all_added laws w all.events a b d e q r s opening all.text end) rest none;
}

pub cut_opening : AddingLaws → (w : Workload) (a b : Option (List ℕ)) → AppendsPrefix a b ([] ++ opening_text w) → IsBegun w a b
cut_opening laws w a b h es schedule = subst (AppendsPrefix a b) (whole-text w es) (laws.front a b (opening_text w) (events_text es ++ codes "end\n") h)

pub cut_events : AddingLaws → (w : Workload) (x : ScheduleState) (a b d : Option (List ℕ)) (q : List ℕ) → x.workload ≡ plain_of w → Adds a b [] q (opening_text w) → WritesSome [] x b d q → IsBegun w a d
cut_events laws w x a b d q same opening some es schedule =
    subst (AppendsPrefix a d) (whole-text w es)
    (laws.some d (events_text es) (codes "end\n") opening (some es (subst (λ (p : plain.Workload). IsSchedule p es) (sym same) schedule)))

-- the events that were made are those of each schedule
own_events : (w : Workload) (x y : ScheduleState) (b d : Option (List ℕ)) (q r : List ℕ) (es : List Event) → x.workload ≡ plain_of w
    → ((es all : List Event) → IsSchedule (plain_of w) es → IsSchedule (plain_of w) all → es ≡ all) → WritesAll [] x y b d q r → IsSchedule (plain_of w) es → Adds b d q r (events_text es)
own_events w x y b d q r es same one all schedule =
    let own : all.events ≡ es = one all.events es (subst (λ (p : plain.Workload). IsSchedule p all.events) same all.schedule) schedule in
    subst (λ (fs : List Event). Adds b d q r (events_text fs)) own all.text

pub cut_end : AddingLaws → (w : Workload) (x y : ScheduleState) (a b d e : Option (List ℕ)) (q r : List ℕ) → x.workload ≡ plain_of w → ((es all : List Event) → IsSchedule (plain_of w) es → IsSchedule (plain_of w) all → es ≡ all)
    → Adds a b [] q (opening_text w) → WritesAll [] x y b d q r → AppendsPrefix d e (r ++ codes "end\n") → IsBegun w a e
cut_end laws w x y a b d e q r same one opening all end es schedule =
    subst (AppendsPrefix a e) (before_end w es)
    (laws.last e (codes "end\n") (laws.more opening (own_events w x y b d q r es same one all schedule) refl) end)

pub cut_rest : AddingLaws → (w : Workload) (x y : ScheduleState) (a b d e f : Option (List ℕ)) (q r s : List ℕ) → x.workload ≡ plain_of w → ((es all : List Event) → IsSchedule (plain_of w) es → IsSchedule (plain_of w) all → es ≡ all)
    → Adds a b [] q (opening_text w) → WritesAll [] x y b d q r → Adds d e r s (codes "end\n") → AppendsPrefix e f s → IsBegun w a f
cut_rest laws w x y a b d e f q r s same one opening all end rest es schedule =
    laws.stop f (all_added laws w es a b d e q r s opening (own_events w x y b d q r es same one all schedule) end) rest
