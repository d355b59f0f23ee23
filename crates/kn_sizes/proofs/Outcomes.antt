-- The outcome of a request: none while it is live, and then for good.
use Rattle.std.proofs.Common.{◌≡◌, ℕ, true, false, List, [], ◌∷◌, ◌++◌, refl, ◌∙◌}
use Rattle.std.specs.Prelude.{Option, None, Some, ◌==◌}
use Rattle.std.specs.List.{cons_option}
use Rattle.std.proofs.lemmas.List.Elements.{filter_map-append}
use Rattle.std.proofs.lemmas.Bool.{or_parts, false_from_ne_true}
use Rattle.kn_event.specs.declared.entry.Entry.{Entry}
use Rattle.kn_event.specs.declared.entry.Row.{Row}
use Rattle.kn_event.specs.declared.entry.Row.TheVariants as row
use Rattle.kn_event.specs.Lists.{contains, or_else}
use Rattle.kn_trace.specs.Outcome.{Outcome, outcome_in, outcome_of}
use Rattle.kn_trace.specs.Rows.{ended_by, outcome_by, refused_by, taken_by}
use Rattle.kn_trace.specs.Trace.{Trace, each_row, ended, first_of}
use Rattle.kn_record.specs.Made.{IsNumbered}
use Rattle.kn_record.specs.Rows.{says}
use Rattle.kn_record.specs.Facts.{Facts}

first_of-append : {X : Type 0} (xs ys : List X) → first_of (xs ++ ys) ≡ or_else (first_of xs) (first_of ys)
first_of-append [] ys = refl
first_of-append (x ∷ xs) ys = refl

first_of-option : {X : Type 0} (o : Option X) → first_of (cons_option o []) ≡ o
first_of-option None = refl
first_of-option (Some x) = refl

-- the outcome of a longer trace
outcome_of-append : (c es : Trace) (r : ℕ) → outcome_of (c ++ es) r ≡ or_else (outcome_of c r) (outcome_of es r)
unfolding outcome_of
outcome_of-append c es r = rw (filter_map-append (λ (e : Entry). outcome_in r e.row) c es) (first_of-append (each_row (outcome_in r) c) (each_row (outcome_in r) es))

outcome_of-one : (e : Entry) (r : ℕ) → outcome_of (e ∷ []) r ≡ outcome_in r e.row
unfolding outcome_of
outcome_of-one e r = first_of-option (outcome_in r e.row)

-- an outcome is for good
pub outcome_stays : (c es : Trace) (r : ℕ) (o : Outcome) → outcome_of c r ≡ Some o → outcome_of (c ++ es) r ≡ Some o
outcome_stays c es r o h = outcome_of-append c es r ∙ rw h refl

-- the first row that says one
pub outcome_comes : (c : Trace) (e : Entry) (r : ℕ) (o : Outcome) → outcome_of c r ≡ None → outcome_in r e.row ≡ Some o → outcome_of (c ++ e ∷ []) r ≡ Some o
outcome_comes c e r o none says' = outcome_of-append c (e ∷ []) r ∙ rw (none, outcome_of-one e r) says'

-- a row that neither ends nor refuses r
silent : (r : ℕ) (x : Row) → says (outcome_by x) r ≡ false → outcome_in r x ≡ None
silent r (row.QueueFull q pod) h = rw h refl
silent r (row.Overload q) h = rw h refl
silent r (row.Expire q) h = rw h refl
silent r (row.Cancel q) h = rw h refl
silent r (row.Finish q ok) h = rw h refl
silent r (row.LostRequest q) h = rw h refl
silent r _ h = refl

silent_rows : (r : ℕ) (c : Trace) → contains r (each_row outcome_by c) ≡ false → each_row (outcome_in r) c ≡ []
silent_rows r [] h = refl
silent_rows r (e ∷ c) h = by (outcome_by e.row) (silent r e.row) h (silent_rows r c)
  where
    by : (o : Option ℕ) → (says o r ≡ false → outcome_in r e.row ≡ None) → contains r (cons_option o (each_row outcome_by c)) ≡ false → (contains r (each_row outcome_by c) ≡ false → each_row (outcome_in r) c ≡ [])
        → cons_option (outcome_in r e.row) (each_row (outcome_in r) c) ≡ []
    by None none h rest = rw (none refl) (rest h)
    by (Some q) none h rest = let both = or_parts (q == r) _ h in rw (none both.0) (rest both.1)

-- no row ended or refused it
pub no_outcome : (c : Trace) (r : ℕ) → contains r (each_row outcome_by c) ≡ false → outcome_of c r ≡ None
unfolding outcome_of
no_outcome c r h = rw (silent_rows r c h) refl

module _ (facts : Facts) where
  open facts use {kinds.{outcome_parts, contains-split}}

  -- a live request has none
  pub live_outcome : (c : Trace) (r : ℕ) → IsNumbered c → contains r (each_row taken_by c) ≡ true → ended c r ≡ false → outcome_of c r ≡ None
  unfolding ended
  live_outcome c r num taken on =
      let refused : contains r (each_row refused_by c) ≡ false = false_from_ne_true (contains r (each_row refused_by c)) (λ k. let no = num.apart r k in absurd (cc)) in
      no_outcome c r (contains-split outcome_by ended_by refused_by outcome_parts r c ∙ rw (on, refused) refl)
