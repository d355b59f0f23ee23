-- What one more decision changes.
use Rattle.std.proofs.Common.{◌≡◌, refl, sym, ap, ◌∙◌, ℕ, Bool, true, false, List, [], ◌∷◌, map}
use Rattle.std.specs.Prelude.{Option, None, Some, option_map, if◌then◌else◌}
use Rattle.std.specs.List.{find}
use Rattle.kn_event.specs.Lists.{greatest}
use Rattle.kn_scaling.specs.declared.panic.Judged.{Judged}
use Rattle.kn_scaling.specs.Panic.{is_over_decision, is_within_window, is_panicking, panicking_run, run_with, greater_count, greatest_after, greatest_of_run, undelayed_count}
use Rattle.kn_panic.specs.Stands.{PanicState, IsPanicOf, last_moment, moment_after, is_moment_within}

pub stands_for_none : IsPanicOf (record { moment = None; greatest = 0 }) []
unfolding greatest_of_run panicking_run
stands_for_none = record { moment = refl; greatest = refl }

by_over : (b : Bool) (d : Judged) (last : Option Judged) → option_map (λ x. x.time) (if b then Some d else last) ≡ moment_after b d.time (option_map (λ x. x.time) last)
by_over true d last = refl
by_over false d last = refl

moment_next : (d : Judged) (ds : List Judged) → last_moment (d ∷ ds) ≡ moment_after d.counts.over d.time (last_moment ds)
moment_next d ds = by_over d.counts.over d (find is_over_decision ds)

within_moment : (d : Judged) (last : Option Judged) → is_within_window d last ≡ is_moment_within d.time d.window_ms (option_map (λ x. x.time) last)
within_moment d None = refl
within_moment d (Some x) = refl

panics_next : (d : Judged) (ds : List Judged) → is_panicking (d ∷ ds) ≡ is_moment_within d.time d.window_ms (last_moment (d ∷ ds))
unfolding is_panicking
panics_next d ds = within_moment d (find is_over_decision (d ∷ ds))

greatest_next : (d : Judged) (ds : List Judged) → greatest_of_run (d ∷ ds) ≡ greatest_after (is_panicking (d ∷ ds)) (greater_count d) (greatest_of_run ds)
unfolding greatest_of_run panicking_run
greatest_next d ds = by (is_panicking (d ∷ ds))
  where
    by : (b : Bool) → greatest (map greater_count (run_with b d (panicking_run ds))) ≡ greatest_after b (greater_count d) (greatest (map greater_count (panicking_run ds)))
    by true = refl
    by false = refl

-- the state before and after a decision, and whether it panics
pub record Takes (old new : PanicState) (panics : Bool) (d : Judged) : Type 0 where
  pub moment : new.moment ≡ moment_after d.counts.over d.time old.moment
  pub within : panics ≡ is_moment_within d.time d.window_ms new.moment
  pub greatest : new.greatest ≡ greatest_after panics (greater_count d) old.greatest

after_moment : (old new : PanicState) (b : Bool) (d : Judged) (ds : List Judged) → Takes old new b d → IsPanicOf old ds → new.moment ≡ last_moment (d ∷ ds)
after_moment old new b d ds t s = t.moment ∙ ap (moment_after d.counts.over d.time) s.moment ∙ sym (moment_next d ds)

pub after_panics : (old new : PanicState) (b : Bool) (d : Judged) (ds : List Judged) → Takes old new b d → IsPanicOf old ds → b ≡ is_panicking (d ∷ ds)
after_panics old new b d ds t s = t.within ∙ ap (is_moment_within d.time d.window_ms) (after_moment old new b d ds t s) ∙ sym (panics_next d ds)

after_greatest : (old new : PanicState) (b : Bool) (d : Judged) (ds : List Judged) → Takes old new b d → IsPanicOf old ds → new.greatest ≡ greatest_of_run (d ∷ ds)
after_greatest old new b d ds t s =
    t.greatest ∙ ap (greatest_after b (greater_count d)) s.greatest
    ∙ ap (λ x. greatest_after x (greater_count d) (greatest_of_run ds)) (after_panics old new b d ds t s) ∙ sym (greatest_next d ds)

pub after_stands : (old new : PanicState) (b : Bool) (d : Judged) (ds : List Judged) → Takes old new b d → IsPanicOf old ds → IsPanicOf new (d ∷ ds)
after_stands old new b d ds t s = record { moment = after_moment old new b d ds t s; greatest = after_greatest old new b d ds t s }

pub after_count : (old new : PanicState) (b : Bool) (d : Judged) (ds : List Judged) (count : ℕ)
    → count ≡ (if b then new.greatest else d.counts.stable_count) → Takes old new b d → IsPanicOf old ds → count ≡ undelayed_count (d ∷ ds)
unfolding undelayed_count
after_count old new b d ds count e t s =
    e ∙ ap (λ x. if b then x else d.counts.stable_count) (after_greatest old new b d ds t s)
    ∙ ap (λ x. if x then greatest_of_run (d ∷ ds) else d.counts.stable_count) (after_panics old new b d ds t s)
