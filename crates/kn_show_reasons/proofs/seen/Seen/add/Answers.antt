use Rattle.std.proofs.Common.{sym, subst}
use Rattle.kn_lives.specs.Lives.{AreLives}
use Rattle.kn_show_reasons.proofs.Phases.{sees_more}
use Rattle.kn_show_reasons.proofs.seen.Seen.add.Goals as goal

pub returns-clause-knows : goal.returns-clause-knows
returns-clause-knows c s es t next knows =
    let e = c.args.e.now in
    let laws = c.entry_laws.ensures in
    let sees = sees_more laws.phase laws.first laws.phase_since t e c.args.self.now c.note.new.self c.note.ensures.phase c.note.ensures.since knows.sees in
    record {
      lives = c.add.ensures s es t next (subst (λ l. AreLives l es t) (sym c.note.ensures.lives) knows.lives);
      sees = record { phase = sees.phase; since = sees.since };
    }
