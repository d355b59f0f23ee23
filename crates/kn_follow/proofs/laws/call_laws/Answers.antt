use Rattle.kn_follow.proofs.Journals.{beyond_is, nothing_ahead}
use Rattle.kn_follow.proofs.Nexts.{broken_on, caused_on, draws_on}
use Rattle.kn_follow.proofs.Statuses.{rose_on}
use Rattle.kn_follow.proofs.laws.call_laws.Goals as goal

pub returns : goal.returns
returns c = record {
  laws =
      record {
        draws = draws_on;
        rose = rose_on;
        caused = caused_on;
        broken = broken_on;
        beyond = beyond_is;
        fresh = λ input left none. nothing_ahead input.ahead left none;
      };
}
