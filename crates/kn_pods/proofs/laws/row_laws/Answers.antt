use Rattle.kn_pods.proofs.Rows.{RecordFacts, live_by, lost_by, ready_by, stands_for_none, stands_row}
use Rattle.kn_pods.proofs.laws.row_laws.Goals as goal

pub returns : goal.returns
returns c =
    let facts : RecordFacts = record {
      pushed = c.append_laws.ensures.admission;
      stands = c.append_laws.ensures.stands;
      views = c.append_laws.ensures.views;
      order = c.order_laws.ensures.order;
      row = c.order_laws.ensures.row;
    } in
    record {
      nothing = stands_for_none;
      made = c.order_laws.ensures.row;
      stands = stands_row facts;
      live = live_by facts;
      lost = lost_by facts;
      ready = ready_by facts;
    }
