use Rattle.kn_request.proofs.LawFacts.{made_of, keeps_of, known_of, waits_of, cancelled_of, goes_on_of, runs_of, ends_of, cancel_of, finish_of, told_of_all}
use Rattle.kn_request.proofs.PodFacts.{next_of, least_of, none_of, created_of, stay_of, gone_of, kept_of}
use Rattle.kn_request.proofs.laws.server_laws.Goals as goal

pub returns-clause-request : goal.returns-clause-request
returns-clause-request c =
    let h = c.history_laws.ensures.made in
    let m = c.step_laws.ensures.made in
    let t = c.request_laws.ensures.stands in
    record {
      made = made_of h m t;
      keeps = keeps_of h m t;
      told = told_of_all h m t c.request_laws.ensures.told;
      known = known_of h m t c.lasting_laws.ensures.arrivals;
      waits = waits_of h m t c.lasting_laws.ensures.waits;
      cancelled = cancelled_of h m t c.request_laws.ensures.cancelled;
      goes_on = goes_on_of h m t c.request_laws.ensures.unfinished;
      runs = runs_of h m t c.request_laws.ensures.runs;
      ends = ends_of h m t c.request_laws.ensures.ends;
      cancel_need = cancel_of h m t c.need_laws.ensures.cancel;
      finish_need = finish_of h m t c.need_laws.ensures.finish;
    }

pub returns-clause-pods : goal.returns-clause-pods
returns-clause-pods c = record {
  tick_need = c.need_laws.ensures.tick;
  ready_need = c.need_laws.ensures.ready;
  next = next_of c.starting_laws.ensures.next c.book_laws.ensures.probe;
  least = least_of c.starting_laws.ensures.next c.book_laws.ensures.probe;
  none = none_of c.starting_laws.ensures.next c.book_laws.ensures.probe c.fact_laws.ensures.members.starting_live c.book_laws.ensures.turns;
  known = created_of c.starting_laws.ensures.created;
  stay = stay_of c.starting_laws.ensures.stay;
  gone = gone_of c.starting_laws.ensures.gone;
  keeps = kept_of c.step_laws.ensures.made c.fact_laws.ensures.members.starting_live c.book_laws.ensures.kept;
  plain = λ t j starts. (starts, (c.book_laws.ensures.number t j).0);
}
