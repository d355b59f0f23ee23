use Rattle.std.proofs.lemmas.List.Elements.{All-from_recursion}
use Rattle.kn_places.proofs.Places.{change_is, ends_by_place, ends_by_stand, record_ends}
use Rattle.kn_places.proofs.laws.place_laws.Goals as goal

pub returns : goal.returns
returns c = record {
  place = ends_by_place;
  record_place = λ a b h. All-from_recursion _ a.live (record_ends a b h);
  stand = ends_by_stand c.fact_laws.ensures;
  change = λ s b x at through made proper told. change_is c.fact_laws.ensures c.append_laws.ensures.views s b x at through (c.append_laws.ensures.stands s b made) made proper told;
}
