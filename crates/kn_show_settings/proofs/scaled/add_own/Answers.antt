use Rattle.std.proofs.Common.{◌/◌, refl, rules}
use Rattle.std.specs.Prelude.{codes}
use Rattle.std.specs.Fmt.{decimal}
use Rattle.std.proofs.lemmas.Result.{on_ok_weaker}
use Rattle.serde_json.specs.View.{view}
use Rattle.kn_config.specs.declared.key.Key.TheVariants as key
use Rattle.kn_origins.specs.declared.origin.Origin.TheVariants as origin
use Rattle.kn_origins.specs.Origins.{specified}
use Rattle.kn_show_settings.specs.Settings.{own_settings}
use Rattle.kn_show_settings.proofs.Lined.{lined}
use Rattle.kn_show_settings.proofs.Pieces.{four_lines}
use Rattle.kn_show_settings.proofs.scaled.add_own.Goals as goal

pub returns : goal.returns
unfolding own_settings
returns c =
    let spec = c.args.spec.now in
    let revision = view c.args.revision.now in
    on_ok_weaker c.add_number-2.result
    (λ e. four_lines c.args.text.now.items _ _ _ _ _ _ _ _
    (lined c.add_word.new.text.items c.args.text.now.items (codes "namespace") _ spec.namespace _ origin.Revision c.in_ok-add_word.ensures (search rules) refl)
    (lined c.add_word-2.new.text.items c.add_word.new.text.items (codes "name") _ spec.name _ origin.Revision c.in_ok-add_word-2.ensures (search rules) refl)
    (lined c.add_number.new.text.items c.add_word-2.new.text.items (codes "containerConcurrency") _ (decimal spec.cc) _ (specified key.ContainerConcurrency revision) c.in_ok-add_number.ensures (search rules) c.specified-from.ensures)
    (lined c.add_number-2.new.text.items c.add_number.new.text.items (codes "timeoutSeconds") _ (decimal (spec.timeout_ms / 1000)) _ (specified key.TimeoutSeconds revision) e (search rules) c.specified-from-2.ensures))
    c.add_number-2.ensures
