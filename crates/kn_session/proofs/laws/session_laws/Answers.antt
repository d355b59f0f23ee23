use Rattle.kn_session.proofs.LawFacts.{number_of, counts_of}
use Rattle.kn_session.proofs.laws.session_laws.Goals as goal

pub returns : goal.returns
returns c = record {
  made = c.server_laws.ensures.request.made;
  keeps = c.server_laws.ensures.request.keeps;
  number = number_of c.request_laws.ensures.told;
  counts = counts_of c.request_laws.ensures.told;
  grows = λ s c' e. (c.lasting_laws.ensures.arrivals s c').once e;
  outcome = λ s c' e r o is. (c.lasting_laws.ensures.outcome s c' r o is).once e;
  need = c.need_laws.ensures.arrive;
  pods = c.server_laws.ensures.pods;
}
