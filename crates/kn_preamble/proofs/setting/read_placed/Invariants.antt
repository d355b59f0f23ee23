-- The numbers so far, and then what is due of the fields that are left.
use Rattle.std.proofs.Common.{◌≡◌, ◌≤◌, length, take, drop}
use Rattle.kn_event.specs.Fields.{fields_behind}
use Rattle.kn_preamble.specs.SetupLine.{placed_due}
use Rattle.kn_preamble.proofs.Settings.{with_all}
use Rattle.kn_preamble.proofs.setting.read_placed.Given as goal

abbrev pub invariant-loop-i : goal.invariant-loop-i
invariant-loop-i l = record {
  within : l.end ≤ length l.line;
  read : placed_due l.fn.at l.settings (fields_behind (drop l.fn.at l.line)) ≡ with_all (take l.i l.places) (placed_due l.end (drop l.i l.settings) (fields_behind (drop l.end l.line)));
}
