-- What a Scaler stands for after a row that says nothing of the scale.
use Rattle.std.proofs.Common.{◌≡◌, ℕ, ◌≤◌, Bool, true, false, ◌||◌, nat_le, [], ◌∷◌, ◌++◌, refl, sym, ap, ◌∙◌, subst, arith, Option}
use Rattle.std.specs.Prelude.{option_map, unwrap_or}
use Rattle.std.specs.Option.{option_to_list}
use Rattle.std.specs.List.{cons_option}
use Rattle.std.proofs.lemmas.Bool.Decides.{nat_tests}
use Rattle.kn_event.specs.declared.entry.Decision.{Decision}
use Rattle.kn_event.specs.declared.entry.Entry.{Entry}
use Rattle.kn_event.specs.declared.entry.Mode.{Mode}
use Rattle.kn_event.specs.declared.entry.Phase.{Phase}
use Rattle.kn_event.specs.declared.entry.Row.{Row}
use Rattle.kn_event.specs.declared.revision.Spec.{Spec}
use Rattle.kn_scaling.specs.Decide.{Decided, Past}
use Rattle.kn_trace.specs.Scale.{initial_reached, past_of}
use Rattle.kn_trace.specs.Trace.{Trace, entry}
use Rattle.kn_stats.specs.declared.change.Change.{Change}
use Rattle.kn_stats.specs.Changes.{timed}
use Rattle.kn_stats.specs.Totals.{IsTotalsOf, TotalsState}
use Rattle.kn_changes.specs.Changes.{change_by, changes_of}
use Rattle.kn_scaler.specs.Facts.{TraceFacts}
use Rattle.kn_scaler.specs.Rows.{IsBeside}
use Rattle.kn_scaler.specs.Stands.{ScalerState, IsScalerOfTrace}
use Rattle.kn_scaler.proofs.Pasts.{IsSame, sampled, was_reached, with_entries}
use Rattle.kn_scaler.proofs.Steps.{change-more, decided-stands}

beside-same : (p : Past) (c : Trace) (e : Entry) → IsBeside c e → IsSame p (with_entries (e ∷ []) p)
beside-same p c e is =
    let at = ap (λ (o : Option Phase). unwrap_or o p.standing.phase) (sym is.phase) in
    let since = ap (λ (o : Option Phase). unwrap_or (option_map (λ y. e.time) o) p.standing.phase_since) (sym is.phase) in
    let way = ap (λ (o : Option Mode). unwrap_or o p.standing.mode) (sym is.mode) in
    let way_since = ap (λ (o : Option Mode). unwrap_or (option_map (λ y. e.time) o) p.standing.mode_since) (sym is.mode) in
    let want = ap (λ (o : Option Decision). unwrap_or (option_map (λ (d : Decision). d.want) o) p.standing.want) (sym is.decision) in
    let decide : Decision → Decided = λ d. record { time = e.time; decision = d } in
    record {
      decisions = ap (λ (o : Option Decision). cons_option (option_map decide o) p.decisions) (sym is.decision);
      standing = λ i. record { phase = at i; phase_since = since i; mode = way i; mode_since = way_since i; want = want i };
    }

or_old : (a b : Bool) → (b ≡ true → a ≡ true) → a ≡ (a || b)
or_old true b h = refl
or_old false true h = h refl
or_old false false h = refl

as_many : (initial m n : ℕ) → m ≤ n → nat_le initial m ≡ true → nat_le initial n ≡ true
as_many initial m n le h = grind (arith, nat_tests)

beside-reached : (facts : TraceFacts) (s : Spec) (c : Trace) (e : Entry) → IsBeside c e → initial_reached s c ≡ initial_reached s (c ++ e ∷ [])
beside-reached facts s c e is =
    or_old (initial_reached s c) _ (λ h. facts.entries.reached_now s c (as_many s.initial _ _ is.ready h))
    ∙ sym (facts.entries.reached s c e)

pub row-stands : (facts : TraceFacts) (s : Spec) (x : ScalerState) (c : Trace) (r : Row) (y : TotalsState) → IsScalerOfTrace s x c → IsBeside c (entry x.stats.time r) → y.time ≡ x.stats.time → y.metric ≡ x.stats.metric
    → (change : Option Change) → change_by c r ≡ change → IsTotalsOf y (changes_of c ++ option_to_list (option_map (timed x.stats.time) change))
    → IsScalerOfTrace s (record { stats = y; decider = x.decider }) (c ++ entry x.stats.time r ∷ [])
row-stands facts s x c r y stands is time metric change makes stats =
    let e = entry x.stats.time r in
    decided-stands facts s x c (e ∷ []) x.decider (past_of s c) y stands
    (record {
      at = (refl, tt);
      samples = sampled s c;
      same = beside-same (past_of s c) c e is;
      reached = was_reached s c ∙ beside-reached facts s c e is;
      stands = stands.decider;
    }) refl time metric (subst (IsTotalsOf y) (sym (change-more facts c e change makes)) stats)
