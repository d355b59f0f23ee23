use Rattle.std.proofs.Common.{◌≡◌, ◌≤◌, length, map, take, All}
use Rattle.std.specs.List.{slice_split}
use Rattle.kn_plan.specs.Plan.{IsAddress, is_comma}
use Rattle.kn_plan.proofs.wide_plan.addresses_of.Given as goal

abbrev pub invariant-loop-text : goal.invariant-loop-text
invariant-loop-text l = record {
  lists : l.lists.items ≡ map (λ t. slice_split is_comma t.now) (take l.text-index l.texts);
  each : All (All IsAddress) l.lists.items;
  fit : All (λ hosts. length hosts ≤ 500) l.lists.items;
}
