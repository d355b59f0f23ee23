use Rattle.kn_core.proofs.scaling.tick.Goals as goal

pub returns-in-Some-clause-some : goal.returns-in-Some-clause-some
returns-in-Some-clause-some c = rw c.in-Some.is (record {
  kind = λ s d h. h.kind;
  ruled = λ s d ready h. c.tick.ensures.ruled s d ready h.stands;
  stands = λ s d ready h. record { kind = h.kind; stands = c.tick.ensures.stands s d ready h.stands };
})
