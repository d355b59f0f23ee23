use Rattle.std.proofs.Common.{◌∙◌, arith, w64, FitsSigned}
use Rattle.kn_burst.proofs.Floors.{floor_is, floor_fits, cast_fits, cast_is}
use Rattle.kn_burst.proofs.floor_of.Goals as goal

fits : (c : goal.After-div_euclid) → FitsSigned w64 c.div_euclid.result
fits c =
    floor_fits c.div_euclid.result c.args.seats c.args.taken c.args.den 2000000000 c.div_euclid.ensures
    (omega (arith, c.requires)) (omega (arith, c.requires)) (omega (arith, c.requires)) (omega (arith, c.requires)) (omega (arith, c.requires)) (omega arith)

pub overflow_cast-result : goal.overflow_cast-result
overflow_cast-result c = cast_fits _ (fits c)

pub returns : goal.returns
returns c =
    cast_is _ (fits c) ∙ c.div_euclid.ensures
    ∙ floor_is c.args.seats c.args.taken c.args.den (omega (arith, c.requires)) (omega (arith, c.requires)) (omega (arith, c.requires))
