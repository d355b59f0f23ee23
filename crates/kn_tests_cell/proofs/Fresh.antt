-- What a caller and a link in memory tell at first.
use Rattle.std.proofs.Common.{◌≡◌, ℕ, List, [], refl}
use Rattle.std.specs.Prelude.{Some}
use Rattle.kn_io.specs.Callers.{every_second}
use Rattle.kn_io.specs.Links.{unused}
use Rattle.kn_io.specs.MemLink.{Wire}
use Rattle.kn_request.specs.declared.slot.Work.{Work}
use Rattle.kn_request.specs.Outside.{said}
use Rattle.kn_serve.specs.Opening.{IsEmptyWork, IsFresh, IsSilent}

silent : (kept : List (List ℕ)) (held : List ℕ) → kept ≡ [] → held ≡ [] → IsSilent (said (Some kept) (Some held))
unfolding every_second
silent kept held none empty a is =
    let k : a.kept ≡ [] = cc in
    let t : a.text ≡ [] = cc in
    rw (k, t) refl

pub fresh : (kept : List (List ℕ)) (held : List ℕ) (link : Wire) (work : Work) → kept ≡ [] → held ≡ [] → link.told ≡ Some unused → IsEmptyWork work → IsFresh (said (Some kept) (Some held)) link.told work
fresh kept held link work none empty new work_empty = record { silent = silent kept held none empty; link_unused = λ l is. cc; empty = work_empty }
