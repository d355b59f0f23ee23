-- The rows by which a log has grown, and the record after them.
use Rattle.std.proofs.Common.{◌≡◌, ℕ, List, [], ◌∷◌, ◌++◌, refl, sym, ap, ◌∙◌, append_assoc, append-nil}
use Rattle.kn_event.specs.declared.entry.Entry.{Entry}
use Rattle.kn_event.specs.declared.entry.Row.{Row}
use Rattle.kn_trace.specs.Trace.{entry}
use Rattle.kn_record.specs.Admission.{Admission, stepped}
use Rattle.kn_record.specs.Walks.{stepped_by}
use Rattle.kn_throttle.specs.Settling.{LogsSteps}

stepped_by-append : (xs ys : List Entry) (a : Admission) → stepped_by (xs ++ ys) a ≡ stepped_by ys (stepped_by xs a)
stepped_by-append [] ys a = refl
stepped_by-append (e ∷ es) ys a = stepped_by-append es ys (stepped e.time e.row a)

pub steps_none : (a : Admission) (log : List Entry) → LogsSteps a a log log
steps_none a log = record { rows = []; logged = sym (append-nil log); stepped = refl }

-- one more row
pub steps_more : (t : ℕ) (x : Row) (old here new : Admission) (before log after : List Entry) → LogsSteps old here before log → new ≡ stepped t x here → after ≡ log ++ entry t x ∷ [] → LogsSteps old new before after
steps_more t x old here new before log after s one put = record {
  rows = s.rows ++ entry t x ∷ [];
  logged = put ∙ ap (λ (l : List Entry). l ++ entry t x ∷ []) s.logged ∙ append_assoc before s.rows (entry t x ∷ []);
  stepped = one ∙ ap (stepped t x) s.stepped ∙ sym (stepped_by-append s.rows (entry t x ∷ []) old);
}

-- first some rows, then others
pub steps_join : (a b c : Admission) (k l m : List Entry) → LogsSteps a b k l → LogsSteps b c l m → LogsSteps a c k m
steps_join a b c k l m s u = record {
  rows = s.rows ++ u.rows;
  logged = u.logged ∙ ap (λ (z : List Entry). z ++ u.rows) s.logged ∙ append_assoc k s.rows u.rows;
  stepped = u.stepped ∙ ap (stepped_by u.rows) s.stepped ∙ sym (stepped_by-append s.rows u.rows a);
}
