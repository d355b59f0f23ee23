-- What a scribe took out of a cell, and what it printed of that.
use Rattle.std.specs.Prelude.{ℕ, ◌≡◌, ◌+◌, ◌++◌, All, List, length, Option, Result, OnOk, OnErr}
use Rattle.std.specs.Io.KnownBytes.{Appends}
use Rattle.kn_cell.specs.declared.past.Past.{Past}
use Rattle.kn_cell.specs.Shown.{PassView, LooksBy}
use Rattle.kn_io.specs.declared.traits.Failed.{Failed}
use Rattle.kn_io.specs.Causes.{HasCause}
use Rattle.kn_io.specs.Prefix.{AppendsPrefix}
use Rattle.kn_print.specs.Printed.{HasSmall, lines_of}

-- From p to q the pass took these rows out: just those of the history behind the rows that were out before, up to the last that it has
-- seen, each once and in order. A line was printed for each of them, in that order; or, where writing failed, some first bytes of these lines
pub record Prints (p q : PassView) (held held' : Option (List ℕ)) (faults faults' : ℕ) (done : Result (Unit {0}) Failed) : Type 0 where
  pub front : List Past
  pub given : List Past
  pub place : length front ≡ p.gone
  pub seen : q.seen ≡ front ++ given
  pub gone : q.gone ≡ p.gone + length given
  pub later : LooksBy (length given) p q
  pub mine : q.mine ≡ p.mine
  pub whole : OnOk done (Appends held held' (lines_of given))
  pub some : OnErr done (AppendsPrefix held held' (lines_of given))
  pub small : OnOk done (All (λ r. HasSmall r.event.act) given)
  pub cause : HasCause faults faults' done
