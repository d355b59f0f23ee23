use Rattle.kn_record.proofs.Loops.{leaves_begin, leaves_logged, leaves_more, leaves_next, leaves_stands}
use Rattle.kn_record.proofs.append.loop_laws.Goals as goal

pub returns : goal.returns
returns c = record { begin = leaves_begin; more = leaves_more; next = leaves_next; logged = leaves_logged; stands = leaves_stands }
