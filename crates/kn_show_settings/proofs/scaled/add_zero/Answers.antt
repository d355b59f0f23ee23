use Rattle.std.proofs.Common.{rules}
use Rattle.std.specs.Prelude.{codes}
use Rattle.std.specs.Fmt.{decimal}
use Rattle.std.proofs.lemmas.Result.{on_ok_weaker}
use Rattle.serde_json.specs.View.{view}
use Rattle.kn_config.specs.declared.key.Key.TheVariants as key
use Rattle.kn_origins.specs.Lines.{flag_text}
use Rattle.kn_origins.specs.Origins.{configured, overridden}
use Rattle.kn_show_settings.specs.Settings.{zero_settings}
use Rattle.kn_show_settings.proofs.Lined.{lined}
use Rattle.kn_show_settings.proofs.Pieces.{three_lines}
use Rattle.kn_show_settings.proofs.scaled.add_zero.Goals as goal

pub returns : goal.returns
unfolding zero_settings
returns c =
    let spec = c.args.spec.now in
    let config = view c.args.config.now in
    let revision = view c.args.revision.now in
    on_ok_weaker c.add_number-2.result
    (λ e. three_lines c.args.text.now.items _ _ _ _ _ _
    (lined c.add_flag.new.text.items c.args.text.now.items (codes "enable-scale-to-zero") _ (flag_text spec.to_zero) _ (configured key.EnableScaleToZero config) c.in_ok-add_flag.ensures (search rules) c.configured-on.ensures)
    (lined c.add_number.new.text.items c.add_flag.new.text.items (codes "scale-to-zero-grace-period-ms") _ (decimal spec.grace_ms) _ (configured key.ScaleToZeroGracePeriod config) c.in_ok-add_number.ensures (search rules) c.configured-grace.ensures)
    (lined c.add_number-2.new.text.items c.add_number.new.text.items (codes "scale-to-zero-pod-retention-period-ms") _ (decimal spec.retention_ms) _ (overridden key.ScaleToZeroPodRetentionPeriod config revision) e (search rules) c.in_ok-retention.ensures))
    c.add_number-2.ensures
