-- A generated journal, one event more.
use Rattle.std.proofs.Common.{◌≡◌, ◌∙◌, ℕ, ◌+◌, List, [], ◌∷◌, ◌++◌, length, append-nil, ap, sym, refl, subst, arith}
use Rattle.std.specs.Prelude.{Option, Some}
use Rattle.std.proofs.lemmas.List.FromFn.{length-map-range_with_len, map-range_with_len_more}
use Rattle.kn_event.specs.declared.event.Event.{Event}
use Rattle.kn_trace.specs.Trace.{Trace}
use Rattle.kn_trace.specs.Events.{added, opening, react, trace_of}
use Rattle.kn_trace.specs.Report.{last_line, totals}
use Rattle.kn_generate.specs.Generated.{generated_event, generated_events, generated_spec}
use Rattle.kn_replay.specs.declared.command.Command.{Command}
use Rattle.kn_replay.specs.declared.command.Command.TheVariants as command
use Rattle.kn_replay.specs.Generating.{generated_journal}
use Rattle.kn_replay.specs.Report.{journal_last_line}
use Rattle.kn_replay.proofs.Replays.{added-nil, trace-more}

generated-more : (seed n : ℕ) → generated_events seed (n + 1) ≡ generated_events seed n ++ generated_event seed n ∷ []
unfolding generated_events
generated-more seed n = map-range_with_len_more (generated_event seed) 0 n n (omega arith)

generated-length : (seed n : ℕ) → length (generated_events seed n) ≡ n
unfolding generated_events
generated-length seed n = length-map-range_with_len (generated_event seed) 0 n

none_generated : (seed : ℕ) → generated_events seed 0 ≡ []
unfolding generated_events
none_generated seed = refl

-- the trace of the first events
abbrev pub generated_trace : ℕ → ℕ → Trace
generated_trace seed n = trace_of generated_spec 0 (generated_events seed n)

pub trace_begins : (seed : ℕ) → opening generated_spec 0 ≡ generated_trace seed 0
unfolding trace_of
trace_begins seed =
    let start = opening generated_spec 0 in
    sym (ap (λ (es : List Event). start ++ added generated_spec start es) (none_generated seed) ∙ ap (λ (t : Trace). start ++ t) (added-nil generated_spec start) ∙ append-nil start)

pub trace_next : (seed n : ℕ) (e : Event) → e ≡ generated_event seed n
    → generated_trace seed n ++ react generated_spec (generated_trace seed n) e ≡ generated_trace seed (n + 1)
unfolding trace_of
trace_next seed n e is =
    let start = opening generated_spec 0 in
    ap (λ (d : Event). generated_trace seed n ++ react generated_spec (generated_trace seed n) d) is
    ∙ sym (ap (λ (es : List Event). start ++ added generated_spec start es) (generated-more seed n) ∙ trace-more generated_spec start (generated_events seed n) (generated_event seed n))

pub last_is : (seed n : ℕ) → last_line 1 n (totals (generated_trace seed n)) ≡ journal_last_line (generated_journal seed n)
unfolding journal_last_line generated_journal
last_is seed n = ap (λ (k : ℕ). last_line 1 k (totals (generated_trace seed n))) (sym (generated-length seed n))

-- what was said of the command that the words give is said of this one
pub of_same : (o : Option Command) (s n seed count : ℕ) (P : ℕ → ℕ → Type 0) → o ≡ Some (command.Generate s n) → o ≡ Some (command.Generate seed count) → P s n → P seed count
of_same o s n seed count P here there h =
    let seeds : s ≡ seed = cc in
    let counts : n ≡ count = cc in
    subst (λ (k : ℕ). P seed k) counts (subst (λ (k : ℕ). P k n) seeds h)
