use Rattle.std.proofs.Common.{◌≡◌, ◌≤◌, ◌+◌, ◌*◌, ◌++◌, length, take}
use Rattle.std.specs.List.{flat_map}
use Rattle.kn_figures.specs.Kinds.{all_kinds}
use Rattle.kn_page.specs.Exposition.{kind_text}
use Rattle.kn_page.proofs.metrics.put_rows.Given as goal

abbrev pub invariant-loop-kind : goal.invariant-loop-kind
invariant-loop-kind l = record {
  text : l.sheet ≡ l.initial.sheet ++ flat_map (kind_text l.figures) (take l.kind-index all_kinds);
  short : length l.sheet ≤ length l.initial.sheet + l.kind-index * 99;
}
