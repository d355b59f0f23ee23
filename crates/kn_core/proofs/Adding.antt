-- What a part of an event adds, and what it keeps.
use Rattle.std.proofs.Common.{◌≡◌, ℕ, List, [], ◌++◌, refl, sym, ap, ◌∙◌, subst, append-nil, arith}
use Rattle.kn_event.specs.declared.entry.Entry.{Entry}
use Rattle.kn_event.specs.declared.revision.Spec.{Spec}
use Rattle.kn_trace.specs.Trace.{Trace}
use Rattle.kn_record.specs.Made.{Holds, IsProper}
use Rattle.kn_core.specs.Changes.{AddsProper, AddsWhere, OnlyEnds, OnlyScales}
use Rattle.kn_core.specs.State.{ArePartsOf, IsMeasuredAt, PartsState}
use Rattle.kn_core.proofs.Ends.{nobody_then, nobody_yet}

-- nothing is added
pub adds_none : (such : Spec → Trace → Type 0) (rows : Spec → Trace → List Entry) (x : PartsState) (log : List Entry) → ((s : Spec) (c : Trace) → ArePartsOf s x c → rows s c ≡ []) → AddsWhere such rows x x log log
adds_none such rows x log none = record {
  logged = λ s c h is. rw (none s c h) (sym (append-nil log));
  stands = λ s c h is. rw (none s c h, append-nil c) h;
}

-- the same rows in other words
pub adds_same : (rows others : Spec → Trace → List Entry) (old new : PartsState) (before after : List Entry) → ((s : Spec) (c : Trace) → ArePartsOf s old c → rows s c ≡ others s c)
    → AddsProper others old new before after → AddsProper rows old new before after
adds_same rows others old new before after same k = record {
  logged = λ s c h proper. k.logged s c h (subst (Holds (IsProper s) c) (same s c h) proper) ∙ ap (λ (es : List Entry). before ++ es) (sym (same s c h));
  stands = λ s c h proper. subst (λ (es : List Entry). ArePartsOf s new (c ++ es)) (sym (same s c h)) (k.stands s c h (subst (Holds (IsProper s) c) (same s c h) proper));
}

pub ends_none : (t : ℕ) (x : PartsState) (log : List Entry) → IsMeasuredAt t x.scaler → OnlyEnds t x x log log
ends_none t x log measured = record { nobody = nobody_yet t x.throttle; created = refl; pods = refl; measured = measured; room = omega arith }

pub ends_then : (t : ℕ) (x y z : PartsState) (one two three : List Entry) → OnlyEnds t x y one two → OnlyEnds t y z two three → OnlyEnds t x z one three
ends_then t x y z one two three h k = record {
  nobody = nobody_then t x.throttle y.throttle z.throttle h.nobody k.nobody;
  created = k.created ∙ h.created;
  pods = k.pods ∙ h.pods;
  measured = k.measured;
  room = omega arith;
}

pub scales_none : (t n : ℕ) (x : PartsState) (log : List Entry) → OnlyScales t n x x log log
scales_none t n x log = record { nobody = nobody_yet t x.throttle; created = omega arith; most = omega arith }
