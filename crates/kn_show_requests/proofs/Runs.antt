-- Of a run: its rows come one after the other, and all who are live at its end have come.
use Rattle.std.proofs.Common.{◌≡◌, ◌∙◌, refl, sym, subst, ℕ, ◌≤◌, List, [], ◌∷◌, arith, length, Option, Some, None}
use Rattle.std.specs.Prelude.{unwrap_or}
use Rattle.std.specs.List.{cons_option}
use Rattle.kn_event.specs.declared.entry.Entry.{Entry}
use Rattle.kn_event.specs.declared.event.Event.{Event}
use Rattle.kn_trace.specs.Trace.{arrivals}
use Rattle.kn_record.specs.Facts.{Facts}
use Rattle.kn_core.specs.State.{RevisionState}
use Rattle.kn_teller.specs.Run.{IsStep, Run, later, trace}
use Rattle.kn_lives.specs.Lives.{ComeInTurn, ComeNext, tag_by, tags}
use Rattle.kn_show_requests.specs.Requests.{end_text, event_text, live_below, rows_text}
use Rattle.kn_show_requests.proofs.Lives.{live_all}

pub rows_come : (r : Run) (e : Event) (x : RevisionState) (log : List Entry) (tag : ℕ) → ComeInTurn r.spec r.start r.events e → tag ≡ unwrap_or (tag_by e.act) 0 → IsStep r e x log → ComeNext r.spec (later r e).events tag (trace r) log
rows_come r e x log tag turn is step =
    subst (λ n. ComeNext r.spec (later r e).events n (trace r) log) (sym is) (λ before rest y split. turn before rest y (sym step.rows ∙ split))

pub event_rows : (r : Run) (e : Event) (x : RevisionState) (log : List Entry) → IsStep r e x log → rows_text (later r e).events (trace r) log ≡ event_text r e
unfolding event_text
event_rows r e x log step = subst (λ l. rows_text (later r e).events (trace r) log ≡ rows_text (later r e).events (trace r) l) step.rows refl

-- no more arrivals than events
tags_few : (es : List Event) → length (tags es) ≤ length es
unfolding tags
tags_few [] = omega arith
tags_few (e ∷ es) = by (tag_by e.act) (tags_few es)
  where
    by : (o : Option ℕ) → length (tags es) ≤ length es → length (cons_option o (tags es)) ≤ length (e ∷ es)
    by None few = omega arith
    by (Some tag) few = omega arith

module _ (facts : Facts) where
  open facts use {proper.{made_kept, made_trace}, members.{live_member, taken_comes}}

  pub end_rows : (r : Run) (events : ℕ) → arrivals (trace r) ≡ length (tags r.events) → events ≡ length r.events → live_below r.events (trace r) events ≡ end_text r
  unfolding end_text
  end_rows r events count all =
      let num = (made_kept r.spec (trace r) (made_trace r.spec r.start r.events)).requests in
      let few = tags_few r.events in
      live_all r.events (trace r) events (λ q alive. taken_comes (trace r) q num (live_member (trace r) q alive).0) (omega (arith, count, all, few))
