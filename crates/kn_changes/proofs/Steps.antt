-- What one more entry adds, and when changes are.
use Rattle.std.proofs.Common.{◌≡◌, ℕ, ◌≤◌, List, [], ◌∷◌, ◌++◌, refl, sym, ap, ◌∙◌, append-nil, append_assoc, arith}
use Rattle.std.specs.Prelude.{Option, None, Some, option_map}
use Rattle.std.specs.List.{cons_option}
use Rattle.std.specs.Option.{option_to_list}
use Rattle.kn_event.specs.declared.entry.Entry.{Entry}
use Rattle.kn_trace.specs.Trace.{Trace}
use Rattle.kn_record.specs.Order.{AreTimesInOrder}
use Rattle.kn_stats.specs.declared.change.Change.{Change}
use Rattle.kn_stats.specs.Changes.{AreBy, TimedChange, timed}
use Rattle.kn_changes.specs.Changes.{change_by, change_of, changes_after, changes_of}

from_option : (o : Option TimedChange) → cons_option o [] ≡ option_to_list o
from_option None = refl
from_option (Some x) = refl

cons-append : (o : Option TimedChange) (xs ys : List TimedChange) → cons_option o (xs ++ ys) ≡ cons_option o xs ++ ys
cons-append None xs ys = refl
cons-append (Some x) xs ys = refl

after-push : (d c : Trace) (e : Entry) → changes_after d (c ++ e ∷ []) ≡ changes_after d c ++ option_to_list (change_of (d ++ c) e)
after-push d [] e = from_option (change_of d e) ∙ ap (λ b. option_to_list (change_of b e)) (sym (append-nil d))
after-push d (x ∷ xs) e =
    ap (cons_option (change_of d x)) (after-push (d ++ x ∷ []) xs e)
    ∙ cons-append (change_of d x) (changes_after (d ++ x ∷ []) xs) (option_to_list (change_of ((d ++ x ∷ []) ++ xs) e))
    ∙ ap (λ b. cons_option (change_of d x) (changes_after (d ++ x ∷ []) xs) ++ option_to_list (change_of b e)) (append_assoc d (x ∷ []) xs)

pub changes-push : (c : Trace) (e : Entry) → changes_of (c ++ e ∷ []) ≡ changes_of c ++ option_to_list (change_of c e)
unfolding changes_of
changes-push c e = after-push [] c e

-- ---- times

order_le : (start clock : ℕ) (c : Trace) → AreTimesInOrder start c clock → start ≤ clock
order_le start clock [] h = h
order_le start clock (e ∷ es) h = let rest = order_le e.time clock es h.1 in omega (arith, rest, h.0)

by_option : (o : Option Change) (t clock : ℕ) (xs : List TimedChange) → t ≤ clock → AreBy clock xs → AreBy clock (cons_option (option_map (timed t) o) xs)
by_option None t clock xs le h = h
by_option (Some x) t clock xs le h = (le, h)

after-by : (start clock : ℕ) (d c : Trace) → AreTimesInOrder start c clock → AreBy clock (changes_after d c)
after-by start clock d [] h = tt
after-by start clock d (e ∷ es) h =
    by_option (change_by d e.row) e.time clock (changes_after (d ++ e ∷ []) es) (order_le e.time clock es h.1) (after-by e.time clock (d ++ e ∷ []) es h.1)

pub changes_by : (c : Trace) (start clock : ℕ) → AreTimesInOrder start c clock → AreBy clock (changes_of c)
unfolding changes_of
changes_by c start clock h = after-by start clock [] c h
