use Rattle.std.proofs.Common.{◌≡◌, ◌∙◌, rules}
use Rattle.kn_origins.specs.Ignored.{is_unset}
use Rattle.serde_json.proofs.Views.{Entry}
use Rattle.kn_origins.proofs.Names.{done, step}
use Rattle.kn_origins.proofs.ignored.add_keys.Goals as goal

pub loop-name-preserved : goal.loop-name-preserved
loop-name-preserved c =
    let e : Entry = (c.in-Some.name.now, c.in-Some._value.now) in
    step is_unset e c.loop-name.name-iterator c.next.new.self c.is_unset.result c.as_bytes-bytes.result.now c.loop-name.text.items c.add_name.new.text.items
    c.in-Some.ensures.steps c.as_bytes-bytes.ensures.value c.is_unset.ensures c.in_ok-add_name.ensures
    ∙ c.loop-name.invariant

pub returns : goal.returns
returns c =
    let all : c.into_iter-name-iterator.result ≡ c.args.members.now.entries = search rules in
    done is_unset c.loop-name.name-iterator c.into_iter-name-iterator.result c.args.members.now.entries c.args.text.now.items c.loop-name.text.items
    c.in-None.ensures.steps.0 all c.loop-name.invariant
