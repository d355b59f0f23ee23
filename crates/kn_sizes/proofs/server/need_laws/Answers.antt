use Rattle.kn_sizes.proofs.Lasts.{cancel_needs, finish_needs, other_needs}
use Rattle.kn_sizes.proofs.server.need_laws.Goals as goal

pub returns : goal.returns
returns c = record {
  cancel = cancel_needs;
  finish = finish_needs;
  arrive = λ d tag. (other_needs d).5 tag;
  tick = λ d. (other_needs d).0;
  ready = λ d p. (other_needs d).1 p;
  pass = λ d. (other_needs d).2;
  limit = λ d p n. (other_needs d).3 p n;
  lost = λ d p. (other_needs d).4 p;
}
