-- What the proofs of the crates above build on of the parts of an event: each field is one fact about the definitions.
use Rattle.std.specs.Prelude.{◌≡◌, ℕ, Bool, true, List, [], ◌++◌, map, Option, None}
use Rattle.kn_event.specs.declared.entry.Phase.{Phase}
use Rattle.kn_event.specs.declared.entry.Row.{Row}
use Rattle.kn_event.specs.declared.entry.Row.TheVariants as row
use Rattle.kn_event.specs.declared.event.Act.{Act}
use Rattle.kn_event.specs.declared.event.Act.TheVariants as act
use Rattle.kn_event.specs.declared.event.Event.{Event}
use Rattle.kn_event.specs.declared.revision.Kind.{Kind}
use Rattle.kn_event.specs.declared.revision.Spec.{Spec}
use Rattle.kn_event.specs.Lists.{contains}
use Rattle.kn_trace.specs.Events.{act_row, activation, departures, entries_of, expiries, opening, react, scaler_rows}
use Rattle.kn_trace.specs.Laws.{IsSettled}
use Rattle.kn_trace.specs.Settling.{assignments_of, promotions, removals}
use Rattle.kn_trace.specs.Trace.{Trace, draining, each_row, entry, running_at}
use Rattle.kn_trace.specs.Report.{is_assign, is_expire}
use Rattle.kn_record.specs.Rows.{SaysNoPod}
use Rattle.kn_laws.specs.ByAct.{AreByAct}
use Rattle.kn_laws.specs.Kinds.{Each, EachAt, IsActRow, is_act_row, is_departure_row, is_remove_row, is_run_row, is_scaler_row}

-- rows of a kind, and what they leave as it is
pub record EachFacts : Type 0 where
  -- a list after another
  pub Each-append : (test : Row → Bool) (xs ys : Trace) → Each test xs → Each test ys → Each test (xs ++ ys)
  -- rows of a kind are of each wider one
  pub Each-weaken : (p q : Row → Bool) → ((x : Row) → p x ≡ true → q x ≡ true) → (xs : Trace) → Each p xs → Each q xs
  -- rows of a kind that says nothing say nothing
  pub none-rows : (f : Row → Option ℕ) (test : Row → Bool) → ((x : Row) → test x ≡ true → f x ≡ None) → (es : Trace) → Each test es → each_row f es ≡ []
  -- runs and assignments say nothing of pods
  pub run_pods : (x : Row) → is_run_row x ≡ true → SaysNoPod x
  pub assign_pods : (x : Row) → is_assign x ≡ true → SaysNoPod x
  -- such rows leave the draining pods
  pub draining-each : (test : Row → Bool) → ((x : Row) → test x ≡ true → SaysNoPod x) → (c es : Trace) → Each test es → draining (c ++ es) ≡ draining c

-- the rows that each part of an event adds
pub record RowFacts : Type 0 where
  -- expiries are expire rows
  pub expiries-rows : (s : Spec) (t : ℕ) (c : Trace) → Each is_expire (expiries s t c)
  -- all that end before the act's own row are expired or lost
  pub departures-rows : (s : Spec) (c : Trace) (e : Event) → Each is_departure_row (departures s c e)
  -- only the loss of a pod ends anybody but the expired
  pub departures-same : (s : Spec) (c : Trace) (e : Event) → ((p : ℕ) → e.act ≡ act.Lost p → ⊥) → departures s c e ≡ expiries s e.time c
  -- the row of an act, where it has one, is of its kind and names what the act names
  pub act-facts : (s : Spec) (c : Trace) (a : Act) → IsActRow a (act_row s c a)
  -- the same as a list
  pub act-rows : (s : Spec) (t : ℕ) (c : Trace) (a : Act) → Each is_act_row (entries_of t (act_row s c a))
  -- each row comes from its act, or from none
  pub are_by_act : (s : Spec) (c : Trace) (e : Event) → AreByAct s c e
  -- what the autoscaler does at an act is of its kinds
  pub scaler-rows : (k : Kind) (s : Spec) (t : ℕ) (c : Trace) (a : Act) (did : Option Row) → Each is_scaler_row (scaler_rows k s t c a did)
  -- so is the activation
  pub activation-rows : (t : ℕ) (c : Trace) → Each is_scaler_row (activation t c)
  -- promotions are run rows
  pub promotions-rows : (t : ℕ) (c : Trace) (ps : List ℕ) → Each is_run_row (promotions t c ps)
  -- assignments are assign rows
  pub assignments-rows : (s : Spec) (t : ℕ) (c : Trace) (rs : List ℕ) → Each is_assign (assignments_of s t c rs)
  -- rows that remove pods are remove rows
  pub removed-rows : (t : ℕ) (ps : List ℕ) → Each is_remove_row (map (λ p. entry t (row.Remove p)) ps)
  -- so are the removals
  pub removals-rows : (t : ℕ) (c : Trace) → Each is_remove_row (removals t c)
  -- each entry that an event adds has the event's time
  pub react-at : (s : Spec) (c : Trace) (e : Event) → EachAt e.time (react s c e)
  -- the opening creates pods and begins a phase, no more
  pub opening_none : (f : Row → Option ℕ) → ((p n : ℕ) → f (row.Create p n) ≡ None) → ((x : Phase) → f (row.Phase x) ≡ None) → (s : Spec) (start : ℕ) → each_row f (opening s start) ≡ []
  -- a draining pod of a settled trace runs a request
  pub draining_runs : (s : Spec) (c : Trace) (p : ℕ) → IsSettled s c → contains p (draining c) ≡ true → running_at c p ≡ [] → ⊥

pub record PartFacts : Type 0 where
  pub each : EachFacts
  pub rows : RowFacts
