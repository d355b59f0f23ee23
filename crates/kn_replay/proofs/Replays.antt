-- The rows that events add, one event at a time and all at once.
use Rattle.std.proofs.Common.{◌≡◌, ℕ, List, [], ◌∷◌, ◌++◌, append_assoc, append-nil, refl, sym, ap, ◌∙◌, subst}
use Rattle.kn_event.specs.declared.event.Event.{Event}
use Rattle.kn_event.specs.declared.revision.Spec.{Spec}
use Rattle.kn_trace.specs.Trace.{Trace}
use Rattle.kn_trace.specs.Events.{added, opening, react, trace_of}
use Rattle.kn_trace.specs.Report.{rows_text}
use Rattle.kn_journal.specs.declared.journal.Journal.{Journal}
use Rattle.kn_journal.specs.declared.status.Status.{Status}
use Rattle.kn_journal.specs.declared.status.Status.TheVariants as status
use Rattle.kn_teller.specs.Manner.{told}
use Rattle.kn_teller.specs.Run.{Run, begun, later, trace}
use Rattle.kn_follow.specs.Account.{SaysSame, account_of}
use Rattle.kn_replay.specs.Replaying.{IsReplayed}
use Rattle.kn_replay.specs.Report.{journal_last_line, journal_rows, report, row_by_row}
use Rattle.kn_replay.proofs.Firsts.{rows_text-append}

-- ---- what events add

pub added-nil : (s : Spec) (c : Trace) → added s c [] ≡ []
unfolding added
added-nil s c = refl

added-cons : (s : Spec) (c : Trace) (e : Event) (es : List Event) → added s c (e ∷ es) ≡ react s c e ++ added s (c ++ react s c e) es
unfolding added
added-cons s c e es = refl

pub added-append : (s : Spec) (c : Trace) (es later : List Event) → added s c (es ++ later) ≡ added s c es ++ added s (c ++ added s c es) later
added-append s c [] later =
    let none = added-nil s c in
    rw none (ap (λ (t : Trace). added s t later) (sym (append-nil c)))
added-append s c (e ∷ es) later =
    let x = react s c e in
    added-cons s c e (es ++ later)
    ∙ ap (λ (t : Trace). x ++ t) (added-append s (c ++ x) es later)
    ∙ sym (append_assoc x (added s (c ++ x) es) (added s ((c ++ x) ++ added s (c ++ x) es) later))
    ∙ ap (λ (t : Trace). (x ++ added s (c ++ x) es) ++ added s t later) (append_assoc c x (added s (c ++ x) es))
    ∙ ap (λ (t : Trace). t ++ added s (c ++ t) later) (sym (added-cons s c e es))

pub added-one : (s : Spec) (c : Trace) (e : Event) → added s c (e ∷ []) ≡ react s c e
added-one s c e = added-cons s c e [] ∙ ap (λ (t : Trace). react s c e ++ t) (added-nil s (c ++ react s c e)) ∙ append-nil (react s c e)

pub added-more : (s : Spec) (c : Trace) (es : List Event) (e : Event) → added s c (es ++ e ∷ []) ≡ added s c es ++ react s (c ++ added s c es) e
added-more s c es e = added-append s c es (e ∷ []) ∙ ap (λ (t : Trace). added s c es ++ t) (added-one s (c ++ added s c es) e)

-- the trace after one event more
pub trace-more : (s : Spec) (c : Trace) (es : List Event) (e : Event) → c ++ added s c (es ++ e ∷ []) ≡ (c ++ added s c es) ++ react s (c ++ added s c es) e
trace-more s c es e = ap (λ (t : Trace). c ++ t) (added-more s c es e) ∙ sym (append_assoc c (added s c es) (react s (c ++ added s c es) e))

-- ---- their rows

-- the trace of a run with one event more
trace_later : (run : Run) (e : Event) → trace (later run e) ≡ trace run ++ react run.spec (trace run) e
unfolding trace_of
trace_later run e = trace-more run.spec (opening run.spec run.start) run.events e

trace_begun : (s : Spec) (start : ℕ) → trace (begun s start) ≡ opening s start
unfolding trace_of
trace_begun s start = ap (λ (t : Trace). opening s start ++ t) (added-nil s (opening s start)) ∙ append-nil (opening s start)

-- told event after event they are the rows of all that was added
told_rows : (run : Run) (es : List Event) → told row_by_row run es ≡ rows_text (added run.spec (trace run) es)
unfolding told added rows_text
told_rows run [] = refl
told_rows run (e ∷ es) =
    let x = react run.spec (trace run) e in
    ap (λ (z : List ℕ). rows_text x ++ z) (told_rows (later run e) es ∙ ap (λ (c : Trace). rows_text (added run.spec c es)) (trace_later run e))
    ∙ sym (rows_text-append x (added run.spec (trace run ++ x) es))

told_body : (j : Journal) → (account_of row_by_row).body j ≡ journal_rows j
unfolding journal_rows trace_of
told_body j =
    let s = j.setup.spec in
    let c = opening s j.start in
    ap (λ (z : List ℕ). rows_text c ++ z) (told_rows (begun s j.start) j.events ∙ ap (λ (t : Trace). rows_text (added s t j.events)) (trace_begun s j.start))
    ∙ sym (rows_text-append c (added s c j.events))

told_close : (j : Journal) → (account_of row_by_row).close j ≡ journal_last_line j
unfolding journal_last_line
told_close j = refl

-- so a report is told row by row
pub report_told : SaysSame (account_of row_by_row) report
report_told = record { body = told_body; close = told_close }

-- ---- how it ends

pub never_usage : (x : Status) → IsReplayed x → x ≡ status.Usage → ⊥
never_usage x h k = subst IsReplayed k h
