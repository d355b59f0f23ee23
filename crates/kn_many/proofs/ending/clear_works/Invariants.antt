use Rattle.std.proofs.Common.{◌≡◌, ◌<◌, ℕ, length}
use Rattle.std.specs.Prelude.{slice_index_or}
use Rattle.kn_request.specs.declared.slot.Work.{Work}
use Rattle.kn_serve.specs.Opening.{IsEmptyWork}
use Rattle.kn_many.proofs.ending.clear_works.Given as goal

abbrev pub invariant-loop-v : goal.invariant-loop-v
invariant-loop-v l = record {
  len : length l.works ≡ length l.fn.works;
  done : (j : ℕ) (d : Work) → j < l.v → IsEmptyWork (slice_index_or l.works j d);
}
