-- What a Scaler stands for after further entries, and after time has passed.
use Rattle.std.proofs.Common.{◌≡◌, ℕ, [], ◌∷◌, ◌++◌, refl, sym, ap, ◌∙◌, subst, append-nil, append_assoc, Option, None, Some}
use Rattle.std.specs.Prelude.{option_map, unwrap_or}
use Rattle.std.specs.Option.{option_to_list}
use Rattle.kn_event.specs.declared.entry.Entry.{Entry}
use Rattle.kn_event.specs.declared.entry.Phase.{Phase}
use Rattle.kn_event.specs.declared.entry.Phase.TheVariants as phase
use Rattle.kn_event.specs.declared.entry.Row.{Row}
use Rattle.kn_event.specs.declared.revision.Spec.{Spec}
use Rattle.kn_scaling.specs.declared.zero.Standing.{Standing}
use Rattle.kn_scaling.specs.Average.{second_of}
use Rattle.kn_scaling.specs.Decide.{Past}
use Rattle.kn_trace.specs.Load.{samples}
use Rattle.kn_trace.specs.Scale.{initial_reached, past_of, phase_of, standing_of}
use Rattle.kn_trace.specs.Trace.{Trace}
use Rattle.kn_record.specs.Order.{AreTimesInOrder}
use Rattle.kn_laws.specs.Kinds.{EachAt, EachIs}
use Rattle.kn_stats.specs.Changes.{timed}
use Rattle.kn_stats.specs.Totals.{IsTotalsOf, TotalsState}
use Rattle.kn_stats.specs.declared.change.Change.{Change}
use Rattle.kn_decider.specs.Decider.{DeciderState, IsDeciderOf}
use Rattle.kn_changes.specs.Changes.{change_by, changes_of}
use Rattle.kn_scaler.specs.Facts.{TraceFacts}
use Rattle.kn_scaler.specs.Stands.{ScalerState, IsScalerOfTrace}
use Rattle.kn_scaler.proofs.Times.{times-more}
use Rattle.kn_scaler.proofs.Pasts.{IsSame, decider-more, not_empty, phase-more, with_entries}

-- a row that changes nothing of live requests
abbrev pub IsSilent : Row → Type 0
IsSilent x = (c : Trace) → change_by c x ≡ None

module _ (facts : TraceFacts) where
  open facts use {seconds.{more}}

  pub change-more : (c : Trace) (e : Entry) (change : Option Change) → change_by c e.row ≡ change → changes_of (c ++ e ∷ []) ≡ changes_of c ++ option_to_list (option_map (timed e.time) change)
  change-more c e change h = more c e ∙ ap (λ (o : Option Change). changes_of c ++ option_to_list (option_map (timed e.time) o)) h

  silent-changes : (c es : Trace) → EachIs IsSilent es → changes_of (c ++ es) ≡ changes_of c
  silent-changes c [] each = ap changes_of (append-nil c)
  silent-changes c (e ∷ es) each =
      ap changes_of (sym (append_assoc c (e ∷ []) es)) ∙ silent-changes (c ++ e ∷ []) es each.1
      ∙ change-more c e None (each.0 c) ∙ append-nil (changes_of c)

  -- what is decided of further entries at the time, by a past that is theirs
  pub record Decides (s : Spec) (c es : Trace) (time : ℕ) (d : DeciderState) (p : Past) : Type 0 where
    pub at : EachAt time es
    pub samples : p.samples ≡ samples s.metric c
    pub same : IsSame p (with_entries es (past_of s c))
    pub reached : p.reached ≡ initial_reached s (c ++ es)
    pub stands : IsDeciderOf d p (second_of time)

  phase-stands : (s : Spec) (c : Trace) (d : DeciderState) (until : ℕ) (p : Phase) → phase_of c ≡ Some p → IsDeciderOf d (past_of s c) until → phase_of c ≡ Some d.zero.standing.phase
  unfolding past_of standing_of
  phase-stands s c d until p h stands =
      h ∙ ap Some (ap (λ (o : Option Phase). unwrap_or o phase.Inactive) (sym h) ∙ sym (ap (λ (st : Standing). st.phase) stands.standing))

  pub decided-stands : (s : Spec) (x : ScalerState) (c es : Trace) (d : DeciderState) (p : Past) (y : TotalsState) → IsScalerOfTrace s x c → Decides s c es x.stats.time d p → d.spec ≡ x.decider.spec
      → y.time ≡ x.stats.time → y.metric ≡ x.stats.metric → IsTotalsOf y (changes_of (c ++ es)) → IsScalerOfTrace s (record { stats = y; decider = d }) (c ++ es)
  decided-stands s x c es d p y stands is spec time metric stats =
      let decider : IsDeciderOf d (past_of s (c ++ es)) (second_of x.stats.time) = decider-more facts s c es x.stats.time d p (not_empty c _ stands.phase) is.at is.samples is.same is.reached is.stands in
      let phase = phase-more facts c es _ stands.phase in
      record {
        spec = spec ∙ stands.spec;
        metric = metric ∙ stands.metric;
        times = subst (λ t. AreTimesInOrder 0 (c ++ es) t) (sym time) (times-more 0 x.stats.time c es stands.times is.at);
        stats = stats;
        decider = subst (λ t. IsDeciderOf d (past_of s (c ++ es)) (second_of t)) (sym time) decider;
        phase = phase-stands s (c ++ es) d (second_of x.stats.time) phase.0 phase.1 decider;
      }

  -- entries that the totals need not know of
  pub silent-stands : (s : Spec) (x : ScalerState) (c es : Trace) (d : DeciderState) (p : Past) → IsScalerOfTrace s x c → Decides s c es x.stats.time d p → d.spec ≡ x.decider.spec
      → EachIs IsSilent es → IsScalerOfTrace s (record { stats = x.stats; decider = d }) (c ++ es)
  silent-stands s x c es d p stands is spec silent =
      decided-stands s x c es d p x.stats stands is spec refl refl
      (subst (IsTotalsOf x.stats) (sym (silent-changes c es silent)) stands.stats)
