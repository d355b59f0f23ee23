use Rattle.kn_show_series.proofs.Counted.{waited_is, waited_known}
use Rattle.kn_show_series.proofs.series.waited.Goals as goal

pub returns-in-Some-get : goal.returns-in-Some-get
returns-in-Some-get c = λ s es tag t next are.
    waited_is es t c.args.lives.now c.args.e.now c.in-Some.r c.saturating_sub.result c.in-Some-get.life (c.row_laws.ensures.known es t c.args.lives.now are)
    (c.row_laws.ensures.begun s es tag t c.args.e.now.row next) c.in-Some.ensures c.in-Some-get.ensures c.saturating_sub.ensures

pub returns-in-None : goal.returns-in-None
returns-in-None c = λ s es tag t next are.
    absurd (waited_known es t c.args.lives.now c.args.e.now c.in-Some.r (c.row_laws.ensures.known es t c.args.lives.now are)
    (c.row_laws.ensures.begun s es tag t c.args.e.now.row next) c.in-Some.ensures c.in-None.ensures)
