use Rattle.kn_show_requests.proofs.Tolds.{tells_of_each}
use Rattle.kn_show_requests.proofs.laws.request_laws.Goals as goal

pub returns : goal.returns
returns c = tells_of_each c.trace_laws.ensures.append c.fact_laws.ensures c.part_laws.ensures c.step_laws.ensures.lawful
