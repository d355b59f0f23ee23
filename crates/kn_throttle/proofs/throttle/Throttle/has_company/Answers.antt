use Rattle.std.proofs.Common.{sym}
use Rattle.kn_record.specs.declared.admission.Place.TheVariants as place
use Rattle.kn_throttle.proofs.Ended.{home_of}
use Rattle.kn_throttle.proofs.throttle.Throttle.has_company.Goals as goal

pub is_shared-requires : goal.is_shared-requires
is_shared-requires c = rw (← c.self.view_is) (home_of _ c.args.r c.in-Some.request (place.Queued c.in-Queued.p) c.self.invariant.sound.order (sym c.in-Some.ensures.found) c.in-Queued.is)

pub is_shared-requires-in-Running : goal.is_shared-requires-in-Running
is_shared-requires-in-Running c = rw (← c.self.view_is) (home_of _ c.args.r c.in-Some.request (place.Running c.in-Running.p c.in-Running.field-1) c.self.invariant.sound.order (sym c.in-Some.ensures.found) c.in-Running.is)
