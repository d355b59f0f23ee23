-- How a replay of several activators ends.
use Rattle.std.proofs.Common.{◌≡◌, ◌∙◌, ℕ, List, refl, sym, ap}
use Rattle.std.specs.Prelude.{Option, None, Some, Result, Ok, Err}
use Rattle.std.specs.Io.KnownBytes.{Appends}
use Rattle.kn_journal.specs.declared.error.JournalError.{JournalError}
use Rattle.kn_journal.specs.declared.error.JournalError.TheVariants as error
use Rattle.kn_journal.specs.declared.status.Status.TheVariants as status
use Rattle.kn_journal.specs.Causes.{Cause, error_of}
use Rattle.kn_activators.specs.declared.error.GroupError.{GroupError}
use Rattle.kn_activators.specs.declared.error.GroupError.TheVariants as group
use Rattle.kn_activators.specs.Breaking.{BreaksBeyond, IsFrontOf}
use Rattle.kn_activators.specs.Replaying.{IsRefused, ReplaysSlices}
use Rattle.kn_activators.specs.Verdict.{input_of, refusal_of, text_of}
use Rattle.kn_replay.specs.Grouped.{IsBroken, ReplaysGroup}
use Rattle.kn_replay.specs.Replaying.{Writes, status_by, status_of}

abbrev pub failed : GroupError → Result (Unit {0}) GroupError
failed e = Err e

ends : (e : JournalError) (cause : Cause) (refused : Option Cause) → error_of cause ≡ e → refused ≡ Some cause → status_of e ≡ status_by refused
ends e cause refused is h = ap status_of (sym is) ∙ sym (ap status_by h)

by_error : (e : JournalError) (text : List ℕ) (refused : Option Cause) (Broken : List ℕ → Type 0) (old new : Option (List ℕ)) → IsRefused text refused Broken e old new
    → Writes text (status_by refused) (λ front. IsFrontOf text front × Broken front) old new (status_of e)
by_error error.ReadFault text refused Broken old new (front, held, first, broken) = (front, held, (first, broken))
by_error error.Memory text refused Broken old new h = h
by_error (error.LineTooLong a) text refused Broken old new (cause, is, h, all) = (ends (error.LineTooLong a) cause refused is h, all)
by_error (error.BadLine a b) text refused Broken old new (cause, is, h, all) = (ends (error.BadLine a b) cause refused is h, all)
by_error (error.TimeBack a b c) text refused Broken old new (cause, is, h, all) = (ends (error.TimeBack a b c) cause refused is h, all)
by_error (error.TimeTooLarge a) text refused Broken old new (cause, is, h, all) = (ends (error.TimeTooLarge a) cause refused is h, all)
by_error error.NoEnd text refused Broken old new (cause, is, h, all) = (ends error.NoEnd cause refused is h, all)
by_error (error.AfterEnd a) text refused Broken old new (cause, is, h, all) = (ends (error.AfterEnd a) cause refused is h, all)
by_error (error.TooMany a) text refused Broken old new (cause, is, h, all) = (ends (error.TooMany a) cause refused is h, all)
by_error (error.BadFirstLine a) text refused Broken old new (cause, is, h, all) = (ends (error.BadFirstLine a) cause refused is h, all)
by_error (error.BadSetup a b) text refused Broken old new (cause, is, h, all) = (ends (error.BadSetup a b) cause refused is h, all)

done : (text : List ℕ) (refused : Option Cause) (Broken : List ℕ → Type 0) (old new : Option (List ℕ)) → refused ≡ None → Appends old new text → Writes text (status_by refused) Broken old new status.Ok
done text refused Broken old new h all = (sym (ap status_by h), all)

pub group_ok : (known left : Option (List ℕ)) (given : ℕ) (old new : Option (List ℕ)) (u : Unit {0}) → ReplaysSlices known left given old new (Ok u) → ReplaysGroup known left given old new status.Ok
group_ok None left given old new u h = tt
group_ok (Some xs) left given old new u (h, all) = done (text_of (input_of xs)) (refusal_of (input_of xs)) (IsBroken xs left given) old new h all

pub group_output : (known left : Option (List ℕ)) (given : ℕ) (old new : Option (List ℕ)) → ReplaysSlices known left given old new (failed group.Output) → ReplaysGroup known left given old new status.WriteFault
group_output None left given old new h = tt
group_output (Some xs) left given old new h = h

pub group_input : (known left : Option (List ℕ)) (given : ℕ) (old new : Option (List ℕ)) (e : JournalError) → ReplaysSlices known left given old new (failed (group.Input e)) → ReplaysGroup known left given old new (status_of e)
group_input None left given old new e h = tt
group_input (Some xs) left given old new e h = by_error e (text_of (input_of xs)) (refusal_of (input_of xs)) (BreaksBeyond xs left given) old new h

pub memory_of : (e : JournalError) → status_of e ≡ status.Memory → e ≡ error.Memory
memory_of error.ReadFault h = cc
memory_of error.Memory h = refl
memory_of (error.BadFirstLine due) h = cc
memory_of (error.BadSetup line why) h = cc
memory_of (error.LineTooLong line) h = cc
memory_of (error.BadLine line why) h = cc
memory_of (error.TimeBack line before own) h = cc
memory_of (error.TimeTooLarge line) h = cc
memory_of error.NoEnd h = cc
memory_of (error.AfterEnd line) h = cc
memory_of (error.TooMany line) h = cc
