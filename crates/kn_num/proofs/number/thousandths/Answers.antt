use Rattle.std.proofs.Common.{◌≡◌, length, arith}
use Rattle.kn_num.proofs.Numbers.{short_value}
use Rattle.kn_num.proofs.number.thousandths.Goals as goal

pub returns-in-1-clause-value : goal.returns-in-1-clause-value
returns-in-1-clause-value c = let short = short_value c.args.decimals.now c.requires c.type_inv.decimals in rw c.in-1.is (omega arith)

pub returns-in-1-clause-small : goal.returns-in-1-clause-small
returns-in-1-clause-small c = let short = short_value c.args.decimals.now c.requires c.type_inv.decimals in omega arith

pub returns-in-2-clause-value : goal.returns-in-2-clause-value
returns-in-2-clause-value c = let short = short_value c.args.decimals.now c.requires c.type_inv.decimals in rw c.in-2.is (omega arith)

pub returns-in-2-clause-small : goal.returns-in-2-clause-small
returns-in-2-clause-small c = let short = short_value c.args.decimals.now c.requires c.type_inv.decimals in omega arith

pub returns-in_default-clause-value : goal.returns-in_default-clause-value
returns-in_default-clause-value c =
    let short = short_value c.args.decimals.now c.requires c.type_inv.decimals in
    let three : length c.args.decimals.now ≡ 3 = omega arith in
    rw three (omega arith)

pub returns-in_default-clause-small : goal.returns-in_default-clause-small
returns-in_default-clause-small c = let short = short_value c.args.decimals.now c.requires c.type_inv.decimals in omega arith
