-- A loop that makes an event's rows one at a time.
use Rattle.std.proofs.Common.{◌≡◌, ℕ, List, [], ◌∷◌, ◌++◌, refl, sym, ap, ◌∙◌, append_assoc, append-nil}
use Rattle.kn_event.specs.declared.entry.Entry.{Entry}
use Rattle.kn_event.specs.declared.entry.Row.{Row}
use Rattle.kn_trace.specs.Trace.{Trace, entry}
use Rattle.kn_record.specs.Admission.{Admission, stepped}
use Rattle.kn_record.specs.Made.{IsRecordOf}
use Rattle.kn_record.specs.Walks.{BeginsWith, Leaves}

pub leaves_begin : (all : Trace → List Entry) (c : Trace) (a : Admission) (log : List Entry) → IsRecordOf a c → Leaves all all c a log log
leaves_begin all c a log h = record { here = c; stands = h; rows = refl; whole = refl }

-- one more row
pub leaves_more : (all left : Trace → List Entry) (c : Trace) (a : Admission) (old log : List Entry) (t : ℕ) (x : Row) (l : Leaves all left c a old log)
    → BeginsWith left t x a l.here → Leaves all left c (stepped t x a) old (log ++ entry t x ∷ [])
leaves_more all left c a old log t x l b = record {
  here = l.here ++ entry t x ∷ [];
  stands = b.1;
  rows = append_assoc log (entry t x ∷ []) (left (l.here ++ entry t x ∷ [])) ∙ ap (λ (r : List Entry). log ++ r) (sym b.0) ∙ l.rows;
  whole = append_assoc l.here (entry t x ∷ []) (left (l.here ++ entry t x ∷ [])) ∙ ap (λ (r : List Entry). l.here ++ r) (sym b.0) ∙ l.whole;
}

-- what is left, in other words
pub leaves_next : (all left next : Trace → List Entry) (c : Trace) (a : Admission) (old log : List Entry) (l : Leaves all left c a old log) → left l.here ≡ next l.here → Leaves all next c a old log
leaves_next all left next c a old log l e = record { here = l.here; stands = l.stands; rows = ap (λ (r : List Entry). log ++ r) (sym e) ∙ l.rows; whole = ap (λ (r : List Entry). l.here ++ r) (sym e) ∙ l.whole }

-- nothing is left
pub leaves_logged : (all left : Trace → List Entry) (c : Trace) (a : Admission) (old log : List Entry) (l : Leaves all left c a old log) → left l.here ≡ [] → log ≡ old ++ all c
leaves_logged all left c a old log l e = sym (append-nil log) ∙ ap (λ (r : List Entry). log ++ r) (sym e) ∙ l.rows

pub leaves_stands : (all left : Trace → List Entry) (c : Trace) (a : Admission) (old log : List Entry) (l : Leaves all left c a old log) → left l.here ≡ [] → IsRecordOf a (c ++ all c)
leaves_stands all left c a old log l e =
    let same : l.here ≡ c ++ all c = sym (append-nil l.here) ∙ ap (λ (r : List Entry). l.here ++ r) (sym e) ∙ l.whole in
    rw (← same) l.stands
