-- What stood there stays, whatever was written behind it.
use Rattle.std.proofs.Common.{◌++◌, ◌∷◌, [], ◌∙◌, take, refl, arith}
use Rattle.std.specs.Fmt.{decimal}
use Rattle.kn_report.proofs.InPlace.{stays_before, two_in_a_row}
use Rattle.kn_report.proofs.waiting.Waiting.add_own_in_place.Goals as goal

pub returns-in-None-clause-same : goal.returns-in-None-clause-same
returns-in-None-clause-same c _ =
    let number = two_in_a_row (take c.self.inside.len c.self.inside.buffer) (decimal c.args.i) (32 ∷ []) (take c.put_number-at.result c.put_number-at.new.room)
    (take c.put_word-at.result c.put_word-at.new.room) (decimal c.args.i ++ 32 ∷ []) c.put_number-at.ensures.text c.put_word-at.ensures.text refl in
    stays_before c.self.inside.buffer c.put_word-at.new.room c.put_entry.new.room (decimal c.args.i ++ 32 ∷ []) c.self.inside.len c.put_word-at.result (omega arith) (omega arith)
    number (c.put_entry.ensures.before c.in-None.is)
    ∙ c.self.view_is
