-- Slots in memory that nobody used.
use Rattle.std.specs.Prelude.{Some}
use Rattle.kn_door.specs.declared.guest.Guest.{Guest}
use Rattle.kn_io.specs.MemCaller.{Talking, kept_of}
use Rattle.kn_io.specs.MemLink.{Wire}
use Rattle.kn_request.specs.declared.slot.Slot.{Slot}
use Rattle.kn_request.specs.Outside.{said}
use Rattle.kn_serve.specs.Opening.{IsFresh}

-- by what is told of its caller and of its link, and its work
abbrev pub IsFreshSlot : Slot (Guest Talking) Wire → Type 0
IsFreshSlot s = IsFresh (said (Some (kept_of s.caller.caller.met)) (Some s.caller.caller.held)) s.link.told s.work
