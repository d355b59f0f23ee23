-- What is written of a run: the lines of each row, as it comes.
use Rattle.std.specs.Prelude.{ℕ, List, [], Option, None, Some}
use Rattle.kn_event.specs.declared.entry.Decision.{Decision}
use Rattle.kn_event.specs.declared.entry.Entry.{Entry}
use Rattle.kn_event.specs.declared.entry.Phase.{Phase}
use Rattle.kn_event.specs.declared.entry.Row.{Row}
use Rattle.kn_event.specs.declared.event.Event.{Event}
use Rattle.kn_event.specs.declared.revision.Spec.{Spec}
use Rattle.kn_trace.specs.Events.{react}
use Rattle.kn_trace.specs.Rows.{decision_by}
use Rattle.kn_trace.specs.Scale.{count_ready, phase_of, phase_since}
use Rattle.kn_trace.specs.Trace.{Trace, pod_of}
use Rattle.kn_lives.specs.Lives.{arrived_at, by_row}
use Rattle.kn_teller.specs.Manner.{Manner}
use Rattle.kn_teller.specs.Run.{Run, trace}
use Rattle.kn_show_reasons.specs.Notices.{notice_by, notice_where}
use Rattle.kn_show_reasons.specs.Sentences.{sentences_of}
use Rattle.kn_reason.specs.Texts.{sentences_text}

-- the text of a row at this time: the lines of its decision, in the phase that began then, or else the other text
abbrev pub text_where : Spec → Option Phase → ℕ → ℕ → List ℕ → Option Decision → List ℕ
text_where s p since t other (Some d) = sentences_text t (sentences_of s t p since d)
text_where s p since t other None = other

-- by when requests arrived, the pods that they were sent to, and how many pods are ready
abbrev pub row_text : Spec → Option Phase → ℕ → (ℕ → ℕ) → (ℕ → Option ℕ) → ℕ → ℕ → Row → List ℕ
row_text s p since arrived pod ready t x = text_where s p since t (notice_where t (notice_by s arrived pod ready t x)) (decision_by x)

-- that of a row, by the trace before it
unfoldable pub line : Spec → Trace → Entry → List ℕ
line s c x = row_text s (phase_of c) (phase_since c) (arrived_at c) (pod_of c) (count_ready c) x.time x.row

-- the lines of these rows, after the trace
unfoldable pub rows_text : Spec → Trace → List Entry → List ℕ
rows_text s c xs = by_row (line s) c xs

unfoldable pub event_text : Run → Event → List ℕ
event_text r e = rows_text r.spec (trace r) (react r.spec (trace r) e)

abbrev pub reasons : Manner
reasons = record { opens = λ r. []; tells = event_text; ends = λ version r. [] }
