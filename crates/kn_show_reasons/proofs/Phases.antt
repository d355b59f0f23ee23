-- The phase that is kept is that of one more row.
use Rattle.std.proofs.Common.{◌≡◌, refl, sym, ap, ◌∙◌, ℕ, false, [], ◌∷◌, ◌++◌, Option, Some, None}
use Rattle.std.specs.Prelude.{option_map, unwrap_or}
use Rattle.std.specs.Option.{option_or}
use Rattle.kn_event.specs.declared.entry.Entry.{Entry}
use Rattle.kn_event.specs.declared.entry.Phase.{Phase}
use Rattle.kn_trace.specs.Rows.{phase_by}
use Rattle.kn_trace.specs.Scale.{mode_since, phase_of, phase_since, start_of}
use Rattle.kn_trace.specs.Trace.{Trace, is_empty}
use Rattle.kn_past.specs.Changes.{time_by}
use Rattle.kn_show_reasons.specs.declared.seen.Seen.{Seen}
use Rattle.kn_show_reasons.specs.State.{SeesPhase}

no_phase : phase_of [] ≡ None
unfolding phase_of
no_phase = refl

pub sees_nothing : (x : Seen) → x.phase ≡ None → SeesPhase x []
sees_nothing x none = record { phase = none ∙ sym no_phase; since = λ p is. absurd (let e : None ≡ Some p = sym no_phase ∙ is in cc) }

module _ (phase : (c : Trace) (e : Entry) → phase_of (c ++ e ∷ []) ≡ option_or (phase_by e.row) (phase_of c)) (first : (e : Entry) → (start_of (e ∷ []) ≡ e.time) × (phase_since (e ∷ []) ≡ e.time) × (mode_since (e ∷ []) ≡ e.time)) (later : (c : Trace) (e : Entry) → is_empty c ≡ false → phase_since (c ++ e ∷ []) ≡ unwrap_or (time_by phase_by e) (phase_since c)) where
  since_more : (c : Trace) (e : Entry) (x : Seen) (q : Phase) → SeesPhase x c → phase_of (c ++ e ∷ []) ≡ Some q → unwrap_or (time_by phase_by e) x.since ≡ phase_since (c ++ e ∷ [])
  since_more [] e x q h is = by (phase_by e.row) refl
    where
      by : (o : Option Phase) → phase_by e.row ≡ o → unwrap_or (time_by phase_by e) x.since ≡ phase_since ([] ++ e ∷ [])
      by (Some z) at = ap (λ (o : Option Phase). unwrap_or (option_map (λ (p : Phase). e.time) o) x.since) at ∙ sym (first e).1
      by None at = absurd (let none = phase [] e ∙ ap (λ (o : Option Phase). option_or o (phase_of [])) at ∙ no_phase in let both : Some q ≡ None = sym is ∙ none in cc)
  since_more (d ∷ c) e x q h is = by (phase_by e.row) refl ∙ sym (later (d ∷ c) e refl)
    where
      by : (o : Option Phase) → phase_by e.row ≡ o → unwrap_or (time_by phase_by e) x.since ≡ unwrap_or (time_by phase_by e) (phase_since (d ∷ c))
      by (Some z) at =
          ap (λ (o : Option Phase). unwrap_or (option_map (λ (p : Phase). e.time) o) x.since) at
          ∙ sym (ap (λ (o : Option Phase). unwrap_or (option_map (λ (p : Phase). e.time) o) (phase_since (d ∷ c))) at)
      by None at =
          let before = sym (phase (d ∷ c) e ∙ ap (λ (o : Option Phase). option_or o (phase_of (d ∷ c))) at) ∙ is in
          ap (λ (n : ℕ). unwrap_or (time_by phase_by e) n) (h.since q before)

  pub sees_more : (c : Trace) (e : Entry) (x y : Seen) → y.phase ≡ option_or (phase_by e.row) x.phase → y.since ≡ unwrap_or (time_by phase_by e) x.since → SeesPhase x c → SeesPhase y (c ++ e ∷ [])
  sees_more c e x y p t h = record {
    phase = p ∙ ap (λ (o : Option Phase). option_or (phase_by e.row) o) h.phase ∙ sym (phase c e);
    since = λ q is. t ∙ since_more c e x q h is;
  }
