-- What is written of a run.
use Rattle.std.specs.Prelude.{ℕ, ◌++◌, List, [], ◌∷◌}
use Rattle.kn_event.specs.declared.event.Event.{Event}
use Rattle.kn_teller.specs.Run.{Run, later}

-- once its start was read, of each further event, and at the end of a good journal of this version
pub record Manner : Type 0 where
  pub opens : Run → List ℕ
  pub tells : Run → Event → List ℕ
  pub ends : ℕ → Run → List ℕ

-- of further events, one after the other
unfoldable pub told : Manner → Run → List Event → List ℕ
told m r [] = []
told m r (e ∷ es) = m.tells r e ++ told m (later r e) es
