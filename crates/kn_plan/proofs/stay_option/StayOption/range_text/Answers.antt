-- The digits of each bound, by computing them.
use Rattle.std.proofs.Common.{refl}
use Rattle.std.specs.Fmt.{digits}
use Rattle.kn_plan.proofs.stay_option.StayOption.range_text.Goals as goal

pub returns-in-Pods : goal.returns-in-Pods
unfolding digits
returns-in-Pods c = rw c.in-Pods.is refl

pub returns-in-Slots : goal.returns-in-Slots
unfolding digits
returns-in-Slots c = rw c.in-Slots.is refl

pub returns-in-Room : goal.returns-in-Room
unfolding digits
returns-in-Room c = rw c.in-Room.is refl

pub returns-in-Idle : goal.returns-in-Idle
unfolding digits
returns-in-Idle c = rw c.in-Idle.is refl

pub returns-in-Read : goal.returns-in-Read
unfolding digits
returns-in-Read c = rw c.in-Read.is refl
