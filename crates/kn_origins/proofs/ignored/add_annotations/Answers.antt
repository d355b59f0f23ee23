use Rattle.std.proofs.Common.{◌≡◌, ◌∙◌, rules}
use Rattle.kn_origins.specs.Ignored.{is_unread}
use Rattle.serde_json.proofs.Views.{Entry}
use Rattle.kn_origins.proofs.Names.{done, step}
use Rattle.kn_origins.proofs.ignored.add_annotations.Goals as goal

pub loop-name-preserved : goal.loop-name-preserved
loop-name-preserved c =
    let e : Entry = (c.in-Some.name.now, c.in-Some._value.now) in
    step (is_unread c.args.has_min c.args.has_max) e c.loop-name.name-iterator c.next.new.self c.is_unread.result c.as_bytes-bytes.result.now c.loop-name.text.items c.add_name.new.text.items
    c.in-Some.ensures.steps c.as_bytes-bytes.ensures.value c.is_unread.ensures c.in_ok-add_name.ensures
    ∙ c.loop-name.invariant

pub returns : goal.returns
returns c =
    let all : c.into_iter-name-iterator.result ≡ c.args.members.now.entries = search rules in
    done (is_unread c.args.has_min c.args.has_max) c.loop-name.name-iterator c.into_iter-name-iterator.result c.args.members.now.entries c.args.text.now.items c.loop-name.text.items
    c.in-None.ensures.steps.0 all c.loop-name.invariant
