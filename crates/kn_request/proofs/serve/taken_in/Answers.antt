use Rattle.std.proofs.Common.{refl, subst, sym}
use Rattle.kn_event.specs.declared.event.Stand.TheVariants as stand
use Rattle.kn_event.specs.declared.event.Told.{Told}
use Rattle.kn_request.specs.Served.{IsTakenIn}
use Rattle.kn_request.proofs.Arrivals.{told_none}
use Rattle.kn_request.proofs.serve.taken_in.Goals as goal

pub returns-in-Run : goal.returns-in-Run
returns-in-Run c = subst (λ (t : Told). IsTakenIn t c.in-Run.r) (sym c.in-Run.is) (stand.Running c.in-Run.field-1, refl, refl, refl)

pub returns-in-AtPod : goal.returns-in-AtPod
returns-in-AtPod c = subst (λ (t : Told). IsTakenIn t c.in-AtPod.r) (sym c.in-AtPod.is) (stand.Queued c.in-AtPod.field-1, refl, refl, refl)

pub unreachable-requires : goal.unreachable-requires
unreachable-requires c = c.requires (told_none c.args.told c.in_default.not-Run c.in_default.not-AtPod c.in_default.not-Held c.in_default.not-QueueFull c.in_default.not-Overload)
