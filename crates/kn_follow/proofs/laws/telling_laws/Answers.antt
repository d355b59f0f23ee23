use Rattle.kn_follow.proofs.Follows.{told-append, told-more, told-nil}
use Rattle.kn_follow.proofs.Runs.{now_later}
use Rattle.kn_follow.proofs.laws.telling_laws.Goals as goal

pub returns : goal.returns
returns c = record { laws = record { none = told-nil; more = told-append; next = told-more; clock = now_later } }
