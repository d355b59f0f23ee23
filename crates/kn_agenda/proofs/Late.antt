-- What is due after an event was due before it, or is so at the event's time at the earliest.
use Rattle.std.proofs.Common.{◌≡◌, ℕ, ◌≤◌, Bool, true, false, not, ◌&&◌, ◌||◌, ◌⊎◌, inl, inr, ◌++◌, refl, sym, ◌∙◌, arith}
use Rattle.std.specs.Prelude.{Some}
use Rattle.kn_event.specs.Lists.{contains}
use Rattle.kn_trace.specs.Rows.{assigned_by, begun_by, created_by, drained_by, ended_by, gone_by, readied_by, run_by, taken_by}
use Rattle.kn_trace.specs.Trace.{Trace, assigned, each_row, ended, has_begun, has_not_begun, has_run, is_running, starting_pods, waiting}
use Rattle.kn_record.specs.Facts.{Facts}
use Rattle.kn_record.specs.Kept.{IsIdle}
use Rattle.kn_laws.specs.Kinds.{EachAt}
use Rattle.kn_agenda.specs.declared.item.Kind.{Kind}
use Rattle.kn_agenda.specs.declared.item.Kind.TheVariants.{Arrives, Finishes, Passes, Readies, Ticks}
use Rattle.kn_agenda.specs.Workload.{Workload}
use Rattle.kn_agenda.specs.Due.{IsAfter, IsDone, IsDueAt, begun_at, created_at, taken_at}
use Rattle.kn_agenda.proofs.Going.{IsSaidIn, new_time, old_or_new}
use Rattle.kn_agenda.proofs.Keeping.{begun_parts}
use Rattle.kn_agenda.proofs.Readies.{happened}
use Rattle.kn_agenda.proofs.Said.{said_less}

pub three_false : (a b d e : Bool) → (a && (not b && not d && not e)) ≡ true → (a ≡ true) × (b ≡ false) × (d ≡ false) × (e ≡ false)
three_false true false false false h = (refl, refl, refl, refl)
three_false true true d e h = absurd (cc)
three_false true false true e h = absurd (cc)
three_false true false false true h = absurd (cc)
three_false false b d e h = absurd (cc)

-- it was due before, or it is due at this time or later
abbrev pub WasDue : Workload → Trace → ℕ → ℕ → Kind → ℕ → ℕ → Type 0
WasDue w c ticks now kind n t = IsDueAt w c ticks kind n t ⊎ (now ≤ t)

module _ (facts : Facts) where
  open facts use {lists.{in_filter}, kinds.{contains-split}, members.{contains-starting, running_parts, waiting_member}}

  finish_was : (w : Workload) (c es : Trace) (now ticks n t : ℕ) → EachAt now es → (is_running (c ++ es) n ≡ true) × IsDone w.jobs (c ++ es) n t → WasDue w c ticks now Finishes n t
  unfolding is_running has_begun assigned has_run ended
  finish_was w c es now ticks n t each (on, (j, job, (b, at, sum))) = by (old_or_new begun_by c es n b at)
    where
      parts : ((assigned (c ++ es) n || has_run (c ++ es) n) ≡ true) × (ended (c ++ es) n ≡ false)
      parts = running_parts (c ++ es) n on

      by : (begun_at c n ≡ Some b) ⊎ IsSaidIn begun_by es n b → WasDue w c ticks now Finishes n t
      by (inl old) =
          let begun : (contains n (each_row assigned_by c) || contains n (each_row run_by c)) ≡ true = sym (contains-split begun_by assigned_by run_by begun_parts n c) ∙ happened begun_by c n b old in
          let open' : contains n (each_row ended_by c) ≡ false = said_less ended_by c es n parts.1 in
          inl (rw (begun, open') refl, (j, job, (b, old, sum)))
      by (inr new) = let same = new_time begun_by now es n b each new in inr (omega arith)

  ready_was : (w : Workload) (c es : Trace) (now ticks n t : ℕ) → EachAt now es → (contains n (starting_pods (c ++ es)) ≡ true) × IsAfter w.boot (created_at (c ++ es) n) t → WasDue w c ticks now Readies n t
  ready_was w c es now ticks n t each (on, (b, at, sum)) = by (old_or_new created_by c es n b at)
    where
      parts : (contains n (each_row created_by (c ++ es)) ≡ true) × (contains n (each_row readied_by (c ++ es)) ≡ false) × (contains n (each_row drained_by (c ++ es)) ≡ false) × (contains n (each_row gone_by (c ++ es)) ≡ false)
      parts = three_false _ _ _ _ (sym (contains-starting (c ++ es) n) ∙ on)

      by : (created_at c n ≡ Some b) ⊎ IsSaidIn created_by es n b → WasDue w c ticks now Readies n t
      by (inl old) = inl (contains-starting c n ∙ rw (happened created_by c n b old, said_less readied_by c es n parts.1, said_less drained_by c es n parts.2, said_less gone_by c es n parts.3) refl, (b, old, sum))
      by (inr new) = let same = new_time created_by now es n b each new in inr (omega arith)

  pass_was : (w : Workload) (c es : Trace) (now ticks n t : ℕ) → EachAt now es → (contains n (waiting (c ++ es)) ≡ true) × IsAfter w.spec.timeout_ms (taken_at (c ++ es) n) t → WasDue w c ticks now Passes n t
  unfolding waiting has_not_begun has_begun assigned has_run ended
  pass_was w c es now ticks n t each (on, (b, at, sum)) = by (old_or_new taken_by c es n b at)
    where
      idle : IsIdle (c ++ es) n
      idle = (waiting_member (c ++ es) n on).1

      by : (taken_at c n ≡ Some b) ⊎ IsSaidIn taken_by es n b → WasDue w c ticks now Passes n t
      by (inl old) =
          let a : contains n (each_row assigned_by c) ≡ false = said_less assigned_by c es n idle.assigned in
          let r : contains n (each_row run_by c) ≡ false = said_less run_by c es n idle.run in
          let d : contains n (each_row ended_by c) ≡ false = said_less ended_by c es n idle.ended in
          inl (in_filter (has_not_begun c) n (each_row taken_by c) (happened taken_by c n b old) (rw (a, r, d) refl), (b, old, sum))
      by (inr new) = let same = new_time taken_by now es n b each new in inr (omega arith)

  -- of what comes by itself, whatever the event
  pub was_due : (w : Workload) (c es : Trace) (now ticks : ℕ) (kind : Kind) (n t : ℕ) → EachAt now es → (kind ≡ Arrives → ⊥) → (kind ≡ Ticks → ⊥) → IsDueAt w (c ++ es) ticks kind n t → WasDue w c ticks now kind n t
  was_due w c es now ticks Finishes n t each a b due = finish_was w c es now ticks n t each due
  was_due w c es now ticks Readies n t each a b due = ready_was w c es now ticks n t each due
  was_due w c es now ticks Passes n t each a b due = pass_was w c es now ticks n t each due
  was_due w c es now ticks Arrives n t each a b due = absurd (a refl)
  was_due w c es now ticks Ticks n t each a b due = absurd (b refl)
