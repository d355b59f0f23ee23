-- What a caller does next.
use Rattle.std.specs.Prelude.{◌≡◌, ◌∷◌, [], true, false}
use Rattle.std.specs.declared.net.tcp.TcpStream.{TcpStream}
use Rattle.kn_front.specs.Queued.{Queued}
use Rattle.kn_front.specs.declared.queue.Turn.{Turn}
use Rattle.kn_front.specs.declared.queue.Turn.TheVariants.{Take, Come, Wait, End}

-- it takes the first one whose request has begun; where there is none, it goes to the socket, where it is counted, waits once callers
-- go there no more, and ends once no more are to come
abbrev pub IsTurn : Turn → Queued TcpStream → Queued TcpStream → Type 0
IsTurn (Take s) old new = (old.begun ≡ s ∷ new.begun) × (new ≡ record old { begun = new.begun })
IsTurn Come old new = (old.begun ≡ []) × (old.ended ≡ false) × (old.shut ≡ false) × (new ≡ record old { waits = new.waits })
IsTurn Wait old new = (old.begun ≡ []) × (old.ended ≡ false) × (old.shut ≡ true) × (new ≡ old)
IsTurn End old new = (old.begun ≡ []) × (old.ended ≡ true) × (new ≡ old)
