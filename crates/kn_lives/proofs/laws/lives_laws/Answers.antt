use Rattle.kn_lives.proofs.Tags.{comes_next, lives_later, lives_opened, tags_count}
use Rattle.kn_lives.proofs.laws.lives_laws.Goals as goal

pub returns : goal.returns
returns c = record {
  opened = lives_opened c.fact_laws.ensures c.part_laws.ensures;
  later = lives_later c.fact_laws.ensures c.part_laws.ensures;
  next = comes_next c.fact_laws.ensures c.part_laws.ensures;
  count = tags_count c.fact_laws.ensures c.part_laws.ensures;
}
