-- The entries of events in two parts.
use Rattle.std.proofs.Common.{◌≡◌, ℕ, List, [], ◌∷◌, ◌++◌, refl, sym, ap, ◌∙◌, append-nil, append_assoc}
use Rattle.kn_event.specs.declared.event.Event.{Event}
use Rattle.kn_event.specs.declared.revision.Spec.{Spec}
use Rattle.kn_trace.specs.Trace.{Trace}
use Rattle.kn_trace.specs.Events.{added, opening, react, trace_of}

added-append : (s : Spec) (c : Trace) (es fs : List Event) → added s c (es ++ fs) ≡ added s c es ++ added s (c ++ added s c es) fs
unfolding added
added-append s c [] fs = rw append-nil refl
added-append s c (e ∷ es) fs =
    let next = c ++ react s c e in
    ap (λ (more : Trace). react s c e ++ more) (added-append s next es fs)
    ∙ rw (append_assoc c (react s c e) (added s next es)) (sym (append_assoc (react s c e) (added s next es) (added s (c ++ (react s c e ++ added s next es)) fs)))

pub trace_of-append : (s : Spec) (start : ℕ) (es fs : List Event) → trace_of s start (es ++ fs) ≡ trace_of s start es ++ added s (trace_of s start es) fs
unfolding trace_of
trace_of-append s start es fs = rw (added-append s (opening s start) es fs) (sym (append_assoc (opening s start) (added s (opening s start) es) (added s (opening s start ++ added s (opening s start) es) fs)))
