-- Decisions and what they find, for worked rows.
use Rattle.std.specs.Prelude.{true, false, pos, ⊤}
use Rattle.std.proofs.Common.{lit<}
use Rattle.kn_event.specs.declared.entry.Decision.{Decision}
use Rattle.kn_event.specs.declared.entry.Mode.TheVariants as mode
use Rattle.kn_event.specs.declared.entry.Phase.TheVariants as phase
use Rattle.kn_event.specs.FixedSpec.{fixed_spec}
use Rattle.kn_scaling.specs.Demand.{count_for, max_scale_down, max_scale_up}
use Rattle.kn_scaling.specs.Worked.{fraction}
use Rattle.kn_scaling.specs.Zero.{lower_bound}
use Rattle.kn_levers.specs.declared.lever.Before.{Before}
use Rattle.kn_levers.specs.Levers.{change_of}

-- active and through the activator since now, the initial scale reached, and no panic before
abbrev pub found : Before
found = record { phase = phase.Active; passed = 0; mode = mode.Proxy; mode_passed = 0; reached = true; over = false; recent = 0 }

-- of one ready pod without load, applied; what isn't read of it is 0
abbrev pub calm : Decision
calm = record {
  stable = fraction 0 1000 (lit< tt);
  panic = fraction 0 1000 (lit< tt);
  ready = 1;
  dspc = 0;
  dppc = 0;
  over = false;
  panicking = false;
  undelayed = 0;
  delayed = 0;
  excess = pos 0;
  bounded = 0;
  want = 0;
  applied = true;
  mode = mode.Proxy;
}

-- a proof that names this computes what a decision hangs on
unfoldable pub whole_change : Type 0
unfolding fixed_spec count_for max_scale_down max_scale_up lower_bound change_of
whole_change = ⊤
