use Rattle.std.proofs.Common.{◌≤◌, ◌∙◌, sym, subst}
use Rattle.kn_event.specs.FixedSpec.{fixed_spec}
use Rattle.kn_slices.proofs.Begin.{fixed_cc, fixed_kind}
use Rattle.kn_slices.proofs.group.opening.open_part.Goals as goal

pub returns : goal.returns
returns c =
    let s = fixed_spec c.args.limit c.args.pods c.args.timeout_s c.args.slots in
    let same = c.in_ok-part.ensures.spec ∙ c.in_ok-spec.ensures in
    let stands = rw c.in_ok-spec.ensures at c.in_ok-part.ensures.stands in
    record {
      spec = same;
      start = c.in_ok-part.ensures.start;
      clock = c.in_ok-part.ensures.clock;
      events = c.in_ok-part.ensures.events;
      stands = stands;
      is_open = c.opening_laws.ensures s c.args.pods c.args.start _ (record {
        fixed = fixed_kind c.args.limit c.args.pods c.args.timeout_s c.args.slots;
        least = subst (λ n. 1 ≤ n) (sym (fixed_cc c.args.limit c.args.pods c.args.timeout_s c.args.slots)) c.requires.least;
        spec = same;
        stands = stands;
      });
    }
