use Rattle.std.proofs.Common.{ℕ, subst}
use Rattle.std.specs.Prelude.{Option}
use Rattle.kn_record.proofs.Choosing.{IsSeated, chosen-seated, seated}
use Rattle.kn_record.proofs.seating.seating_laws.Goals as goal

pub returns : goal.returns
returns c = λ cc seed place picks p cands h. subst (λ (o : Option ℕ). IsSeated o (seated cands)) h (chosen-seated cc seed place picks cands)
