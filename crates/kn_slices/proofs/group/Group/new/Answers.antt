use Rattle.std.proofs.Common.{refl, arith}
use Rattle.std.specs.Prelude.{vec_capacity}
use Rattle.kn_slices.proofs.Begin.{fresh_clocks, fresh_specs, fresh_traces, fresh_unset, kept}
use Rattle.kn_slices.proofs.Taken.{holds_rules}
use Rattle.kn_slices.proofs.group.Group.new.Goals as goal

pub invariant_of-result : goal.invariant_of-result
invariant_of-result c =
    let opens = c.requires.opens in
    rw (c.in_ok-wanted.ensures, c.in_ok-force.ensures, c.in_ok-marks.ensures, c.in-Ok.ensures.items, c.in-Ok-with_capacity.ensures.items)
    (kept c.args.n c.args.limit c.args.pods c.args.timeout_s c.args.slots c.args.start _ c.in_ok-parts.ensures (vec_capacity c.in-Ok.listed) (vec_capacity c.in-Ok-with_capacity.marked) c.requires.some opens.few opens.least opens.most opens.pods
    c.in-Ok.ensures.capacity c.in-Ok-with_capacity.ensures.capacity)

pub returns-clause-opening : goal.returns-clause-opening
returns-clause-opening c = record {
  traces = fresh_traces c.args.n c.args.limit c.args.pods c.args.timeout_s c.args.slots c.args.start _ c.in_ok-parts.ensures;
  specs = fresh_specs c.args.n c.args.limit c.args.pods c.args.timeout_s c.args.slots c.args.start _ c.in_ok-parts.ensures;
  limit = refl;
  start = refl;
  wanted = c.in_ok-wanted.ensures;
  force = c.in_ok-force.ensures;
  clocks = fresh_clocks c.args.n c.args.limit c.args.pods c.args.timeout_s c.args.slots c.args.start _ c.in_ok-parts.ensures;
  load = λ j d low.
      let fresh = c.in_ok-parts.ensures.each j d low in
      let unset = fresh_unset c.args.n c.args.limit c.args.pods c.args.timeout_s c.args.slots c.args.start _ c.in_ok-parts.ensures j d low in
      rw (c.in_ok-wanted.ensures, fresh.events) (omega (arith, unset));
}

pub returns-clause-rules : goal.returns-clause-rules
returns-clause-rules c = holds_rules
    (record { views = c.append_laws.ensures.views; lawful = c.history_laws.ensures.lawful; settled = c.history_laws.ensures.settled; inert = c.history_laws.ensures.inert })
    _ (invariant_of-result c).group
