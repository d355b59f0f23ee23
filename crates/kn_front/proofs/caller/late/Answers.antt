use Rattle.std.proofs.Common.{refl}
use Rattle.std.specs.Fmt.{digits}
use Rattle.kn_http.specs.Lines.{status_line}
use Rattle.kn_front.proofs.caller.late.Goals as goal

pub returns : goal.returns
unfolding status_line digits
returns c = refl
