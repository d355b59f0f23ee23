-- What is said of every journal is said of that of some bytes, and which events a journal of version 1 has not.
use Rattle.std.specs.Prelude.{◌≡◌, ℕ, ◌+◌, Bool, true, false, List, [], ◌∷◌, Option, None, Some, Result, Ok, Err, codes, nat_le, if◌then◌else◌, ⊤}
use Rattle.std.proofs.Common.{refl, sym, subst, arith}
use Rattle.std.specs.Str.{bytes_eq}
use Rattle.kn_event.specs.declared.event.Act.{Act}
use Rattle.kn_event.specs.declared.event.Act.TheVariants as act
use Rattle.kn_event.specs.declared.event.Event.{Event}
use Rattle.kn_event.specs.declared.fault.LineError.{LineError}
use Rattle.kn_event.specs.EventLine.{event_of, IsInVersion, Spells}
use Rattle.kn_laws.specs.Losses.{AreNoLosses}
use Rattle.kn_preamble.specs.declared.first.FirstLine.TheVariants.{Journal as JournalLine}
use Rattle.kn_journal.specs.declared.journal.Opening.{Opening}
use Rattle.kn_journal.specs.declared.journal.Setup.{Setup}
use Rattle.kn_journal.specs.Causes.{Cause, line_too_long, time_back, time_too_large}
use Rattle.kn_journal.specs.Lines.{fits, lines}
use Rattle.kn_journal.specs.Parts.{Part, part, then_part}
use Rattle.kn_journal.specs.declared.journal.Journal.{Journal}
use Rattle.kn_journal.specs.Journal.{Verdict, bad, from_read, good, in_time, journal_of, next_part, opening_part, or_bad, read_events, start_part, time_most, verdict, verdict_of_lines, verdict_on}
use Rattle.kn_journal.specs.Series.{Read, end_part, item_in, nothing_part, then_events}
use Rattle.kn_replay.specs.Report.{OnJournal, OnJournalOf}

on_verdict : (v : Verdict) (P : Journal → Type 0) → ((j : Journal) → P j) → OnJournal v P
on_verdict (good j) P h = h j
on_verdict (bad None cause) P h = tt
on_verdict (bad (Some j) cause) P h = h j

pub on_any : (known : Option (List ℕ)) (P : Journal → Type 0) → ((j : Journal) → P j) → OnJournalOf known P
on_any None P h = tt
on_any (Some xs) P h = on_verdict (verdict xs) P h

-- ---- version 1

-- what is read is spelled
abbrev pub AreSpelled : Type 0
AreSpelled = (version : ℕ) (line : List ℕ) (e : Event) → event_of version line ≡ Ok e → Spells version line e

no_loss : (a : Act) → IsInVersion 1 a → (p : ℕ) → a ≡ act.Lost p → ⊥
no_loss a h p is = let two : 1 ≡ 2 = subst (IsInVersion 1) is h in absurd (omega (arith, two))

no_more : (r : Result (Part ⊤) Cause) (next : Event → ℕ → Read Event) → AreNoLosses (then_events (then_part r (λ _ n left. Ok (part None n left))) next).events
no_more (Ok p) next = tt
no_more (Err cause) next = tt

read_no_losses : AreSpelled → (last n : ℕ) (ls : List (List ℕ)) → AreNoLosses (read_events 1 last n ls).events
unfolding read_events next_part
read_no_losses spelled last n [] = tt
read_no_losses spelled last n (line ∷ more) = by_tests (λ (e : Event). read_no_losses spelled e.time (n + 1) more) (fits line) (bytes_eq line (codes "end")) (event_of 1 line) refl
  where
    next : Event → ℕ → Read Event
    next e number = read_events 1 e.time number more

    by_time : ((e : Event) → AreNoLosses (read_events 1 e.time (n + 1) more).events) → (e : Event) (b d : Bool) → event_of 1 line ≡ Ok e
        → AreNoLosses (then_events (item_in (n + 1) more (if b then (if d then Ok e else Err (time_back (n + 1) last e.time)) else Err (time_too_large (n + 1)))) next).events
    by_time rest e false d is = tt
    by_time rest e true false is = tt
    by_time rest e true true is = (no_loss e.act (spelled 1 line e is).act, rest e)

    by_tests : ((e : Event) → AreNoLosses (read_events 1 e.time (n + 1) more).events) → (f d : Bool) (r : Result Event LineError) → event_of 1 line ≡ r
        → AreNoLosses (then_events (if f then (if d then end_part (n + 1) more else item_in (n + 1) more (in_time (n + 1) last r)) else Err (line_too_long (n + 1))) next).events
    by_tests rest false d r is = tt
    by_tests rest true true r is = no_more (nothing_part (n + 1) more) next
    by_tests rest true false (Err why) is = tt
    by_tests rest true false (Ok e) is = by_time rest e (nat_le e.time time_most) (nat_le last e.time) is

-- of a journal, that it has no such event where its version is 1
abbrev pub LosesNoPod : Journal → Type 0
LosesNoPod j = j.version ≡ 1 → AreNoLosses j.events

of_refused : (j : Journal) (refused : Option Cause) → LosesNoPod j → OnJournal (verdict_on j refused) LosesNoPod
of_refused j None h = h
of_refused j (Some cause) h = h

of_read : AreSpelled → (version : ℕ) (setup : Setup) (start n : ℕ) (more : List (List ℕ)) → OnJournal (from_read version setup start (read_events version start n more)) LosesNoPod
of_read spelled version setup start n more =
    let r = read_events version start n more in
    of_refused (journal_of version setup start r.events) r.refused
    (λ is. subst (λ (v : ℕ). AreNoLosses (read_events v start n more).events) (sym is) (read_no_losses spelled start n more))

of_start : AreSpelled → (o : Opening) (r : Result (Part ℕ) Cause) → OnJournal (or_bad r (λ start n more. from_read o.version o.setup start (read_events o.version start n more))) LosesNoPod
of_start spelled o (Ok p) = of_read spelled o.version o.setup p.value p.number p.left
of_start spelled o (Err cause) = tt

of_opening : AreSpelled → (r : Result (Part Opening) Cause)
    → OnJournal (or_bad r (λ opening n more. or_bad (start_part n more) (λ start n more. from_read opening.version opening.setup start (read_events opening.version start n more)))) LosesNoPod
of_opening spelled (Ok p) = of_start spelled p.value (start_part p.number p.left)
of_opening spelled (Err cause) = tt

of_bytes : AreSpelled → (xs : List ℕ) → OnJournal (verdict xs) LosesNoPod
unfolding verdict verdict_of_lines
of_bytes spelled xs = of_opening spelled (opening_part JournalLine 0 (lines xs))

on_so : (v : Verdict) (P Q : Journal → Type 0) → ((j : Journal) → P j → Q j) → OnJournal v P → OnJournal v Q
on_so (good j) P Q h p = h j p
on_so (bad None cause) P Q h p = tt
on_so (bad (Some j) cause) P Q h p = h j p

pub on_version : AreSpelled → (known : Option (List ℕ)) (Q : Journal → Type 0) → ((j : Journal) → LosesNoPod j → Q j) → OnJournalOf known Q
on_version spelled None Q h = tt
on_version spelled (Some xs) Q h = on_so (verdict xs) LosesNoPod Q h (of_bytes spelled xs)
