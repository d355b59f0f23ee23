use Rattle.kn_record.proofs.Order.{made_row, stands_in_order}
use Rattle.kn_record.proofs.Ordering.{nothing_in_order, step_in_order}
use Rattle.kn_record.proofs.append.order_laws.Goals as goal

pub returns : goal.returns
returns c = record { order = stands_in_order; row = made_row; nothing = nothing_in_order; step = step_in_order }
