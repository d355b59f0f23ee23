-- The lines so far, and those of the members that are left.
use Rattle.std.proofs.Common.{◌≡◌, ◌++◌}
use Rattle.kn_origins.specs.Ignored.{is_unread}
use Rattle.kn_origins.proofs.Names.{lines_of}
use Rattle.kn_origins.proofs.ignored.add_annotations.Given as goal

abbrev pub invariant-loop-name : goal.invariant-loop-name
invariant-loop-name l = l.text.items ++ lines_of (is_unread l.fn.has_min l.fn.has_max) l.name-iterator ≡ l.initial.text.items ++ lines_of (is_unread l.fn.has_min l.fn.has_max) l.initial.name-iterator
