-- How following a journal ends: statuses, and what is written with them.
use Rattle.std.proofs.Common.{◌≡◌, ◌≤◌, ℕ, List, [], ◌++◌, append_assoc, append-nil, refl, sym, ◌∙◌, subst, arith, inl, inr}
use Rattle.std.specs.Prelude.{◌⊎◌, Option, None, Some}
use Rattle.std.specs.Io.KnownBytes.{Appends}
use Rattle.kn_io.specs.Causes.{Rose}
use Rattle.kn_journal.specs.declared.error.JournalError.{JournalError}
use Rattle.kn_journal.specs.declared.error.JournalError.TheVariants as error
use Rattle.kn_journal.specs.declared.journal.Journal.{Journal}
use Rattle.kn_journal.specs.declared.status.Status.{Status}
use Rattle.kn_journal.specs.declared.status.Status.TheVariants as status
use Rattle.kn_journal.specs.Causes.{Cause, after_end, bad_first_line, bad_line, bad_setup, error_of, line_too_long, no_end, time_back, time_too_large, too_many}
use Rattle.kn_journal.specs.Journal.{verdict_on}
use Rattle.kn_follow.specs.Endings.{IsFollowed, IsRefusal, IsReplayed, Stops, Writes, refusal_of, status_by, status_of}
use Rattle.kn_report.specs.AddingLaws.{AddingLaws}
use Rattle.kn_report.specs.Waiting.{Adds}

abbrev pub IsPlain : Status → Type 0
IsPlain status.Ok = Unit {0}
IsPlain (status.BadInput e) = Unit {0}
IsPlain (status.BadSetup e) = Unit {0}
IsPlain _ = ⊥

plain_cause : (cause : Cause) → IsPlain (status_of (error_of cause))
plain_cause (line_too_long line) = tt
plain_cause (bad_first_line due) = tt
plain_cause (bad_setup line why) = tt
plain_cause (bad_line line why) = tt
plain_cause (time_back line before own) = tt
plain_cause (time_too_large line) = tt
plain_cause no_end = tt
plain_cause (after_end line) = tt
plain_cause (too_many line) = tt

pub plain_end : (refused : Option Cause) → IsPlain (status_by refused)
plain_end None = tt
plain_end (Some cause) = plain_cause cause

writes_end : (text : List ℕ) (end : Status) (P : List ℕ → Type 0) (old new : Option (List ℕ)) → IsPlain end → Appends old new text → Writes text end P old new end
writes_end text status.Ok P old new plain h = (refl, h)
writes_end text status.Usage P old new plain h = absurd plain
writes_end text (status.BadInput e) P old new plain h = (refl, h)
writes_end text (status.BadSetup e) P old new plain h = (refl, h)
writes_end text status.ReadFault P old new plain h = absurd plain
writes_end text status.WriteFault P old new plain h = absurd plain
writes_end text status.Memory P old new plain h = absurd plain
writes_end text (status.SlotFault slot) P old new plain h = absurd plain
writes_end text status.ListenFault P old new plain h = absurd plain

pub writes_stop : (text : List ℕ) (end : Status) (P : List ℕ → Type 0) (old new : Option (List ℕ)) (result : Status) → IsPlain end → Stops text old new end result → Writes text end P old new result
writes_stop text end P old new result plain (inl (is, all)) = subst (λ (x : Status). Writes text end P old new x) (sym is) (writes_end text end P old new plain all)
writes_stop text end P old new result plain (inr (is, some)) = subst (λ (x : Status). Writes text end P old new x) (sym is) some

pub stops_after : AddingLaws → (old mid new : Option (List ℕ)) (p q x y : List ℕ) (end result : Status) → Adds old mid p q x → Stops (q ++ y) mid new end result → Stops (p ++ (x ++ y)) old new end result
stops_after adding old mid new p q x y end result h (inl (is, all)) = inl (is, subst (Appends old new) (append_assoc p x y) (adding.all new y h all))
stops_after adding old mid new p q x y end result h (inr (is, some)) = inr (is, adding.last new y h some)

pub stops_nil : (waiting : List ℕ) (old new : Option (List ℕ)) (end result : Status) → Stops waiting old new end result → Stops (waiting ++ []) old new end result
stops_nil waiting old new end result h = subst (λ (z : List ℕ). Stops z old new end result) (sym (append-nil waiting)) h

pub rose_on : (a b d : ℕ) → a ≤ b → Rose b d → Rose a d
rose_on a b d h k = grind (arith)

pub stop_followed : (waiting : List ℕ) (old new : Option (List ℕ)) (end result : Status) → Stops waiting old new end result → IsFollowed end → IsFollowed result
stop_followed waiting old new end result (inl (is, all)) h = subst IsFollowed (sym is) h
stop_followed waiting old new end result (inr (is, some)) h = subst IsFollowed (sym is) tt

pub stop_reads : (waiting : List ℕ) (old new : Option (List ℕ)) (end result : Status) → Stops waiting old new end result → result ≡ status.ReadFault → end ≡ status.ReadFault
stop_reads waiting old new end result (inl (is, all)) h = sym is ∙ h
stop_reads waiting old new end result (inr (is, some)) h = absurd (other (sym is ∙ h))
  where
    other : status.WriteFault ≡ status.ReadFault → ⊥
    other e = cc

-- it ends well, or writing failed
pub end_unrefused : (result : Status) → (result ≡ status.Ok) ⊎ (result ≡ status.WriteFault) → IsRefusal result → ⊥
end_unrefused result (inl is) h = subst IsRefusal is h
end_unrefused result (inr is) h = subst IsRefusal is h

pub stops_behind : AddingLaws → (old mid new : Option (List ℕ)) (p q x : List ℕ) (end result : Status) → Adds old mid p q x → Stops q mid new end result → Stops (p ++ x) old new end result
stops_behind adding old mid new p q x end result h stops =
    subst (λ (z : List ℕ). Stops (p ++ z) old new end result) (append-nil x) (stops_after adding old mid new p q x [] end result h (stops_nil q mid new end result stops))

pub followed_of : (e : JournalError) → (e ≡ error.Memory → ⊥) → IsFollowed (status_of e)
followed_of error.Memory h = absurd (h refl)
followed_of error.ReadFault h = tt
followed_of (error.BadFirstLine due) h = tt
followed_of (error.BadSetup line why) h = tt
followed_of (error.LineTooLong line) h = tt
followed_of (error.BadLine line why) h = tt
followed_of (error.TimeBack line before own) h = tt
followed_of (error.TimeTooLarge line) h = tt
followed_of error.NoEnd h = tt
followed_of (error.AfterEnd line) h = tt
followed_of (error.TooMany line) h = tt

-- an end that is no other one
abbrev pub IsMemory : Status → Type 0
IsMemory status.Memory = Unit {0}
IsMemory _ = ⊥

abbrev pub IsWriteFault : Status → Type 0
IsWriteFault status.WriteFault = Unit {0}
IsWriteFault _ = ⊥

pub fault_of : (e : JournalError) → status_of e ≡ status.ReadFault → e ≡ error.ReadFault
fault_of error.ReadFault h = refl
fault_of error.Memory h = cc
fault_of (error.BadFirstLine due) h = cc
fault_of (error.BadSetup line why) h = cc
fault_of (error.LineTooLong line) h = cc
fault_of (error.BadLine line why) h = cc
fault_of (error.TimeBack line before own) h = cc
fault_of (error.TimeTooLarge line) h = cc
fault_of error.NoEnd h = cc
fault_of (error.AfterEnd line) h = cc
fault_of (error.TooMany line) h = cc

pub no_write_fault : (e : JournalError) → status_of e ≡ status.WriteFault → ⊥
no_write_fault error.ReadFault h = cc
no_write_fault error.Memory h = cc
no_write_fault (error.BadFirstLine due) h = cc
no_write_fault (error.BadSetup line why) h = cc
no_write_fault (error.LineTooLong line) h = cc
no_write_fault (error.BadLine line why) h = cc
no_write_fault (error.TimeBack line before own) h = cc
no_write_fault (error.TimeTooLarge line) h = cc
no_write_fault error.NoEnd h = cc
no_write_fault (error.AfterEnd line) h = cc
no_write_fault (error.TooMany line) h = cc

pub either : {A B C D : Type 0} → A ⊎ B → (A → C) → (B → D) → C ⊎ D
either (inl a) f g = inl (f a)
either (inr b) f g = inr (g b)

pub status_is : (j : Journal) (refused : Option Cause) → status_by (refusal_of (verdict_on j refused)) ≡ status_by refused
status_is j None = refl
status_is j (Some cause) = refl

pub never_memory : (x : Status) → IsFollowed x → x ≡ status.Memory → ⊥
never_memory x h k = subst IsFollowed k h

pub followed_replayed : (x : Status) → IsFollowed x → IsReplayed x
followed_replayed status.Memory h = tt
followed_replayed status.Ok h = h
followed_replayed status.Usage h = h
followed_replayed (status.BadInput e) h = h
followed_replayed (status.BadSetup e) h = h
followed_replayed status.ReadFault h = h
followed_replayed status.WriteFault h = h
followed_replayed (status.SlotFault slot) h = h
followed_replayed status.ListenFault h = h

pub never_ok : (e : JournalError) → status_of e ≡ status.Ok → ⊥
never_ok error.ReadFault h = cc
never_ok error.Memory h = cc
never_ok (error.BadFirstLine due) h = cc
never_ok (error.BadSetup line why) h = cc
never_ok (error.LineTooLong line) h = cc
never_ok (error.BadLine line why) h = cc
never_ok (error.TimeBack line before own) h = cc
never_ok (error.TimeTooLarge line) h = cc
never_ok error.NoEnd h = cc
never_ok (error.AfterEnd line) h = cc
never_ok (error.TooMany line) h = cc
