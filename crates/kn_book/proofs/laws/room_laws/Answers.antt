use Rattle.kn_trace.specs.Events.{opening}
use Rattle.kn_record.specs.Admission.{admission}
use Rattle.kn_book.proofs.Follows.{Views}
use Rattle.kn_book.proofs.Rooms.{few_created, few_holdings, few_open, room_at_first}
use Rattle.kn_book.proofs.laws.room_laws.Goals as goal

views : goal.After-size_laws → Views
views c s d made = (c.append_laws.ensures.views s (admission d) d (c.append_laws.ensures.stands s d made)).pods

pub returns : goal.returns
returns c =
    let facts = c.fact_laws.ensures in
    let parts = c.part_laws.ensures in
    let sizes = c.size_laws.ensures in
    let few = few_created facts parts (views c) sizes.pods sizes.pods_before in
    record {
      opening = λ s n start ranges.
          let made = c.step_laws.ensures.opening s start in
          room_at_first n (opening s start) (few_open facts parts (views c) s start made (sizes.pods s (opening s start) ranges made (c.step_laws.ensures.opening_settled s start)));
      event = λ s d ranges made settled b e stands some. few_holdings facts parts (views c) s d e b made stands (few s d e ranges made settled);
    }
