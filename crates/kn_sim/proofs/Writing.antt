-- Events that are taken and written one after the other.
use Rattle.std.proofs.Common.{◌≡◌, ◌≤◌, ℕ, List, [], ◌∷◌, ◌++◌, append_assoc, append-nil, refl, sym, ap, ◌∙◌, subst}
use Rattle.std.specs.Prelude.{Option}
use Rattle.kn_event.specs.declared.event.Event.{Event}
use Rattle.kn_event.specs.EventLine.{IsInJournalRange, IsInVersion, event_text}
use Rattle.kn_io.specs.Prefix.{AppendsPrefix}
use Rattle.kn_journal.specs.Journal.{AreEvents, events_text, time_most}
use Rattle.kn_agenda.specs.Due.{AreNext, IsFront, LeavesNothingDue, IsSchedule}
use Rattle.kn_agenda.specs.Schedule.{Made, ScheduleState}
use Rattle.kn_report.specs.AddingLaws.{AddingLaws}
use Rattle.kn_report.specs.Waiting.{Adds}
use Rattle.kn_sim.specs.Going.{GoesOn, last_time}
use Rattle.kn_sim.specs.Simulated.{WritesAll, WritesSome}
use Rattle.kn_sim.proofs.Pieces.{events-around, events-more}

-- ---- one event more

events-in-order : (last : ℕ) (es : List Event) (e : Event) → AreEvents 1 last es → last_time last es ≤ e.time → e.time ≤ time_most → IsInJournalRange e.act → IsInVersion 1 e.act → AreEvents 1 last (es ++ e ∷ [])
events-in-order last [] e h order most range version = (order, most, range, version, tt)
events-in-order last (x ∷ es) e h order most range version = (h.0, h.1, h.2, h.3, events-in-order x.time es e h.4 order most range version)

last-more : (last : ℕ) (es : List Event) (e : Event) → last_time last (es ++ e ∷ []) ≡ e.time
last-more last [] e = refl
last-more last (x ∷ es) e = last-more x.time es e

tail_of : (x : Event) (ys zs : List Event) → x ∷ ys ≡ x ∷ zs → ys ≡ zs
tail_of x ys zs h = cc

same_rest : (xs ys zs : List Event) → xs ++ ys ≡ xs ++ zs → ys ≡ zs
same_rest [] ys zs h = h
same_rest (x ∷ xs) ys zs h = same_rest xs ys zs (tail_of x (xs ++ ys) (xs ++ zs) h)

pub go_more : AddingLaws → (before : List Event) (x y z : ScheduleState) (a b d : Option (List ℕ)) (p q r : List ℕ) (e : Event) → GoesOn before x y a b p q → ((es : List Event) → Made es y → Made (es ++ e ∷ []) z)
    → y.revision.clock ≤ e.time → e.time ≤ time_most → IsInJournalRange e.act → IsInVersion 1 e.act → z.revision.clock ≡ e.time → Adds b d q r (event_text e ++ 10 ∷ []) → GoesOn before x z a d p r
go_more laws before x y z a b d p q r e goes step order most range version clock text = record {
  events = goes.events ++ e ∷ [];
  made = subst (λ (es : List Event). Made es z) (append_assoc before goes.events (e ∷ [])) (step (before ++ goes.events) goes.made);
  range = events-in-order x.revision.clock goes.events e goes.range (subst (λ (t : ℕ). t ≤ e.time) (sym goes.last) order) most range version;
  last = last-more x.revision.clock goes.events e ∙ sym clock;
  text = laws.more goes.text text (sym (events-more goes.events e));
}

-- ---- the end

-- nothing is due any more
pub go_all : (before : List Event) (x y z : ScheduleState) (a b : Option (List ℕ)) (p q : List ℕ) → y.workload ≡ x.workload → GoesOn before x y a b p q
    → ((es : List Event) → Made es y → LeavesNothingDue y.workload es) → ((es : List Event) → Made es y → Made es z) → WritesAll before x z a b p q
go_all before x y z a b p q same goes over stays = record {
  events = goes.events;
  schedule = subst (λ w. IsSchedule w (before ++ goes.events)) same (record { steps = goes.made.runs.steps; over = over (before ++ goes.events) goes.made });
  many = sym (stays (before ++ goes.events) goes.made).events;
  range = goes.range;
  text = goes.text;
}

-- what waited was cut short, or the line of an event
pub go_some : AddingLaws → (before : List Event) (x y z : ScheduleState) (a b d : Option (List ℕ)) (p q : List ℕ) (e : Event) → z.workload ≡ x.workload → GoesOn before x y a b p q → ((es : List Event) → Made es y → Made (es ++ e ∷ []) z)
    → ((es all : List Event) → AreNext x.workload es → IsSchedule x.workload all → IsFront es all) → AppendsPrefix b d (q ++ (event_text e ++ 10 ∷ [])) → WritesSome before x a d p
go_some laws before x y z a b d p q e same goes step front text all schedule = by (front ((before ++ goes.events) ++ e ∷ []) (before ++ all) steps schedule)
  where
    steps : AreNext x.workload ((before ++ goes.events) ++ e ∷ [])
    steps = subst (λ w. AreNext w ((before ++ goes.events) ++ e ∷ [])) same (step (before ++ goes.events) goes.made).runs.steps

    by : IsFront ((before ++ goes.events) ++ e ∷ []) (before ++ all) → AppendsPrefix a d (p ++ events_text all)
    by (rest, is) =
        let own : ((before ++ goes.events) ++ e ∷ []) ++ rest ≡ before ++ ((goes.events ++ e ∷ []) ++ rest) =
        ap (λ (es : List Event). es ++ rest) (append_assoc before goes.events (e ∷ [])) ∙ append_assoc before (goes.events ++ e ∷ []) rest in
        let split : all ≡ (goes.events ++ e ∷ []) ++ rest = same_rest before all ((goes.events ++ e ∷ []) ++ rest) (is ∙ own) in
        subst (λ (z : List ℕ). AppendsPrefix a d (p ++ z)) (sym (ap events_text split ∙ events-around goes.events e rest))
        (laws.some d (event_text e ++ 10 ∷ []) (events_text rest) goes.text text)

-- ---- the beginning

pub go_start : AddingLaws → (before : List Event) (x : ScheduleState) (a : Option (List ℕ)) (p : List ℕ) → Made before x → GoesOn before x x a a p p
go_start laws before x a p made = record { events = []; made = subst (λ (es : List Event). Made es x) (sym (append-nil before)) made; range = tt; last = refl; text = laws.nothing }
