use Rattle.kn_revision.proofs.OtherMembers.{spec_of-same}
use Rattle.kn_revision.proofs.specification.other_members_are_ignored.Goals as goal

pub returns : goal.returns
returns c = spec_of-same
