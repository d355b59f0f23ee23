use Rattle.std.proofs.Common.{◌≡◌, ◌≤◌, ◌-◌, ◌++◌, ℕ, List, length, drop}
use Rattle.std.specs.Io.KnownBytes.{Appends}
use Rattle.kn_reply.specs.Plain.{AreChunksOf}
use Rattle.kn_reply.proofs.plain.put_value.Given as goal

abbrev pub invariant-chunks : goal.invariant-chunks
invariant-chunks g l = record {
  within : l.at ≤ length l.body;
  some : (value : List ℕ) × AreChunksOf value (drop l.at l.body);
  held : (value : List ℕ) → AreChunksOf value l.body → (done : List ℕ) × (left : List ℕ) × (value ≡ done ++ left)
      × AreChunksOf left (drop l.at l.body) × Appends (g.O.Sink.held l.initial.out) (g.O.Sink.held l.out) done;
  kept : g.O.Sink.kept l.out ≡ g.O.Sink.kept l.initial.out;
  never_falls : g.O.Faulty.faults l.initial.out ≤ g.O.Faulty.faults l.out;
}

abbrev pub decreases-chunks : goal.decreases-chunks
decreases-chunks g l = length l.body - l.at
