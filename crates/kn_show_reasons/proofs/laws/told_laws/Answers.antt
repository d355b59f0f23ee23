use Rattle.kn_show_reasons.proofs.Runs.{has_phase, row_told}
use Rattle.kn_show_reasons.proofs.Zeros.{own_bounds, own_want, zero_tells}
use Rattle.kn_show_reasons.proofs.laws.told_laws.Goals as goal

pub returns-clause-decided : goal.returns-clause-decided
returns-clause-decided c = λ s start es before rest x is d decision. let told = row_told c.part_laws.ensures s start es before rest x is in (told.decided d decision).1

pub returns-clause-counts : goal.returns-clause-counts
returns-clause-counts c = λ s start es before rest x is d decision range.
    let told = (row_told c.part_laws.ensures s start es before rest x is).decided d decision in
    own_want s before x.time d (has_phase s start es before rest x d told.0 is decision) told.1 range

pub returns-clause-bounds : goal.returns-clause-bounds
returns-clause-bounds c = λ s start es before rest x is d decision range. own_bounds s before x.time d ((row_told c.part_laws.ensures s start es before rest x is).decided d decision).1 range

pub returns-clause-zero : goal.returns-clause-zero
returns-clause-zero c = λ s start es before rest x is d decision. zero_tells s before x.time d ((row_told c.part_laws.ensures s start es before rest x is).decided d decision).1

pub returns-clause-breaker : goal.returns-clause-breaker
returns-clause-breaker c = λ s start es before rest x is. (row_told c.part_laws.ensures s start es before rest x is).breaker
