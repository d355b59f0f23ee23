-- What proper rows keep stays so over events.
use Rattle.std.proofs.Common.{List, [], ◌∷◌, ◌++◌}
use Rattle.kn_event.specs.declared.event.Event.{Event}
use Rattle.kn_event.specs.declared.entry.Entry.{Entry}
use Rattle.kn_event.specs.declared.revision.Spec.{Spec}
use Rattle.kn_trace.specs.Trace.{Trace}
use Rattle.kn_trace.specs.Events.{added, react}
use Rattle.kn_record.specs.Made.{Holds, IsMade, IsProper}
use Rattle.kn_record.specs.Kept.{Kept}
use Rattle.kn_record.specs.Facts.{Facts}
use Rattle.kn_sizes.specs.Stays.{HoldsOnwards}
use Rattle.kn_sizes.proofs.Counts.{Holds-keep}

-- what any rows keep
pub stays_always : (s : Spec) (P : Trace → Type 0) (c : Trace) → ((es : Trace) → P (c ++ es)) → HoldsOnwards s c P
stays_always s P c over = record { once = λ e. over (react s c e); ever = λ es. over (added s c es) }

-- less of the same
pub stays_less : (s : Spec) (P Q : Trace → Type 0) (c : Trace) → ((d : Trace) → P d → Q d) → HoldsOnwards s c P → HoldsOnwards s c Q
stays_less s P Q c less all = record { once = λ e. less (c ++ react s c e) (all.once e); ever = λ es. less (c ++ added s c es) (all.ever es) }

module _ (facts : Facts) where
  open facts use {proper.{holds_both, made_kept, made_react, react-holds}}

  -- further events add proper rows
  pub added-holds : (s : Spec) (c : Trace) (es : List Event) → IsMade s c → Holds (IsProper s) c (added s c es)
  unfolding added
  added-holds s c [] made = tt
  added-holds s c (e ∷ es) made = holds_both s c (react s c e) (added s (c ++ react s c e) es) (react-holds s c e (made_kept s c made)) (added-holds s (c ++ react s c e) es (made_react s c e made))

  -- what is so after any proper rows
  pub stays_over : (s : Spec) (P : Trace → Type 0) (c : Trace) → IsMade s c → ((es : Trace) → Holds (IsProper s) c es → P (c ++ es)) → HoldsOnwards s c P
  stays_over s P c made over = record {
    once = λ e. over (react s c e) (react-holds s c e (made_kept s c made));
    ever = λ es. over (added s c es) (added-holds s c es made);
  }

  -- what each proper row keeps
  pub stays_by : (s : Spec) (P : Trace → Type 0) (c : Trace) → ((d : Trace) (e : Entry) → Kept s d → IsProper s d e.row → P d → P (d ++ e ∷ [])) → IsMade s c → P c → HoldsOnwards s c P
  stays_by s P c step made here = stays_over s P c made (λ es h. Holds-keep facts s P step c es (made_kept s c made) here h)
