use Rattle.std.proofs.Common.{rules}
use Rattle.std.specs.Prelude.{codes}
use Rattle.std.specs.Fmt.{decimal}
use Rattle.std.proofs.lemmas.Result.{on_ok_weaker}
use Rattle.serde_json.specs.View.{view}
use Rattle.kn_config.specs.declared.key.Key.TheVariants as key
use Rattle.kn_origins.specs.Amounts.{burst_text, panic_origin, window_origin}
use Rattle.kn_milli.specs.Milli.{milli_text}
use Rattle.kn_origins.specs.Origins.{overridden}
use Rattle.kn_show_settings.specs.Settings.{window_settings}
use Rattle.kn_show_settings.proofs.Lined.{lined}
use Rattle.kn_show_settings.proofs.Pieces.{four_lines}
use Rattle.kn_show_settings.proofs.scaled.add_windows.Goals as goal

pub returns : goal.returns
unfolding window_settings
returns c =
    let spec = c.args.spec.now in
    let config = view c.args.config.now in
    let revision = view c.args.revision.now in
    on_ok_weaker c.add_burst.result
    (λ e. four_lines c.args.text.now.items _ _ _ _ _ _ _ _
    (lined c.add_number.new.text.items c.args.text.now.items (codes "stable-window-s") _ (decimal spec.stable_s) _ (window_origin config revision) c.in_ok-add_number.ensures (search rules) c.in_ok-stable.ensures)
    (lined c.add_number-2.new.text.items c.add_number.new.text.items (codes "panic-window-s") _ (decimal spec.panic_s) _ (panic_origin config revision) c.in_ok-add_number-2.ensures (search rules) c.in_ok-panic.ensures)
    (lined c.add_thousandths.new.text.items c.add_number-2.new.text.items (codes "panic-threshold-percentage") _ (milli_text spec.panic_threshold.0) _ (overridden key.PanicThresholdPercentage config revision) c.in_ok-add_thousandths.ensures (search rules) c.in_ok-threshold.ensures)
    (lined c.add_burst.new.text.items c.add_thousandths.new.text.items (codes "target-burst-capacity") _ (burst_text spec.burst) _ (overridden key.TargetBurstCapacity config revision) e (search rules) c.in_ok-burst.ensures))
    c.add_burst.ensures
