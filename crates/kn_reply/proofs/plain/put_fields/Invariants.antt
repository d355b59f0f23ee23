use Rattle.std.proofs.Common.{◌≡◌, ◌≤◌, take}
use Rattle.std.specs.List.{flat_map}
use Rattle.std.specs.Io.KnownBytes.{Appends}
use Rattle.kn_reply.proofs.Puts.{line_of}
use Rattle.kn_reply.proofs.plain.put_fields.Given as goal

abbrev pub invariant-loop-field : goal.invariant-loop-field
invariant-loop-field g l = record {
  held : Appends (g.O.Sink.held l.initial.out) (g.O.Sink.held l.out) (flat_map (line_of l.text) (take l.field-index l.fields));
  kept : g.O.Sink.kept l.out ≡ g.O.Sink.kept l.initial.out;
  never_falls : g.O.Faulty.faults l.initial.out ≤ g.O.Faulty.faults l.out;
}
