use Rattle.std.proofs.Common.{refl}
use Rattle.kn_opener.proofs.Fresh.{all_fresh, untold}
use Rattle.kn_opener.proofs.tcp_opener.TcpOpenerOpenerTcpCallerTcpLinkRef.open.Goals as goal

pub returns-in-Ok-clause-opened : goal.returns-in-Ok-clause-opened
returns-in-Ok-clause-opened g c =
    record { many = c.in-Ok.ensures.made; each = all_fresh c.fill.new.slots.items c.in-Ok.ensures.works; keeper_is = c.in-Ok.link; there = refl; keeper_new = untold }
