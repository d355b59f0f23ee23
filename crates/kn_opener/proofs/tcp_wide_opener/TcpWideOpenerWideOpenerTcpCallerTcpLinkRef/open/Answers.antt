use Rattle.kn_opener.proofs.Fresh.{all_fresh_wide, all_of_each, untold}
use Rattle.kn_opener.proofs.tcp_wide_opener.TcpWideOpenerWideOpenerTcpCallerTcpLinkRef.open.Goals as goal

pub returns-in-Ok-clause-opened : goal.returns-in-Ok-clause-opened
returns-in-Ok-clause-opened g c =
    record {
      many = c.in-Ok.ensures.made;
      each = all_fresh_wide _ c.fill.new.slots.items c.in-Ok.ensures.ready;
      of_each = all_of_each _ c.fill.new.slots.items c.in-Ok.ensures.ready;
      kept = c.in-Ok.ensures.kept;
      keepers_new = λ k d low. untold;
    }
