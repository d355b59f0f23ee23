use Rattle.std.proofs.Common.{refl, sym, subst, []}
use Rattle.kn_trace.specs.Trace.{live}
use Rattle.kn_lives.specs.Lives.{AreLives, life_of}
use Rattle.kn_lives.specs.Slots.{live_of}
use Rattle.kn_lives.proofs.lives.Lives.new.Goals as goal

pub returns-in-Ok : goal.returns-in-Ok
unfolding life_of live
returns-in-Ok c = subst (λ l. AreLives (live_of l) [] []) (sym c.in-Ok.ensures.items) (record { each = λ r. refl; count = refl })
