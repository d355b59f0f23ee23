use Rattle.kn_report.proofs.Pieces.{prefix_last, prefix_more}
use Rattle.kn_report.proofs.Waits.{adds_all, adds_cut, adds_done, adds_last, adds_more, adds_nothing, adds_on, adds_past, adds_some, adds_stop, adds_waits, waits_more}
use Rattle.kn_report.proofs.laws.adding_laws.Goals as goal

pub returns : goal.returns
returns c = record {
  laws = record {
    nothing = adds_nothing;
    waits = adds_waits;
    more = adds_more;
    on = adds_on;
    past = adds_past;
    done = adds_done;
    all = adds_all;
    stop = adds_stop;
    last = adds_last;
    some = adds_some;
    cut = adds_cut;
    after = prefix_last;
    front = prefix_more;
    behind = waits_more;
  };
}
