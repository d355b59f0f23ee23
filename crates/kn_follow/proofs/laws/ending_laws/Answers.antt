use Rattle.kn_follow.proofs.Behind.{setup_behind}
use Rattle.kn_follow.proofs.Lines.{no_byte}
use Rattle.kn_follow.proofs.Statuses.{fault_of, followed_of, never_ok, no_write_fault, stop_followed, stop_reads, stops_behind}
use Rattle.kn_follow.proofs.laws.ending_laws.Goals as goal

pub returns : goal.returns
returns c = record {
  laws =
      record {
        never_ok = never_ok;
        never_write_fault = no_write_fault;
        read_fault = fault_of;
        followed = followed_of;
        stop_followed = stop_followed;
        stop_read_fault = stop_reads;
        stop_behind = stops_behind c.adding_laws.ensures.laws;
        behind_setup = setup_behind;
        none_left = no_byte;
      };
}
