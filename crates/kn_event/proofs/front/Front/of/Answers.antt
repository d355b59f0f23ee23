-- No other bytes give the moved word.
use Rattle.kn_event.proofs.Kept.{same_start}
use Rattle.kn_event.proofs.front.Front.of.Goals as goal

pub returns : goal.returns
returns c xs ys hx hy is same = same_start c.args.word c.args.count c.requires.some c.requires.most xs ys hx hy is same
