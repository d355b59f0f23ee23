use Rattle.std.proofs.Common.{sym, ap, ◌∙◌, ◌≡◌, List, [], ◌∷◌, ◌++◌, ℕ, append-nil, append_assoc}
use Rattle.kn_event.specs.declared.entry.Entry.{Entry}
use Rattle.kn_trace.specs.Trace.{Trace}
use Rattle.kn_lives.specs.Lives.{by_row}
use Rattle.kn_lives.proofs.Rows.{begun_here, ended_here, known}
use Rattle.kn_lives.proofs.laws.row_laws.Goals as goal

by_row-append : (f : Trace → Entry → List ℕ) (c xs ys : Trace) → by_row f c (xs ++ ys) ≡ by_row f c xs ++ by_row f (c ++ xs) ys
unfolding by_row
by_row-append f c [] ys = ap (λ (d : Trace). by_row f d ys) (sym (append-nil c))
by_row-append f c (x ∷ xs) ys =
    ap (λ (m : List ℕ). f c x ++ m) (by_row-append f (c ++ x ∷ []) xs ys)
    ∙ sym (append_assoc (f c x) (by_row f (c ++ x ∷ []) xs) (by_row f ((c ++ x ∷ []) ++ xs) ys))
    ∙ ap (λ (d : Trace). (f c x ++ by_row f (c ++ x ∷ []) xs) ++ by_row f d ys) (append_assoc c (x ∷ []) xs)

pub returns : goal.returns
returns c = record { begun = begun_here c.fact_laws.ensures; ended = ended_here c.fact_laws.ensures; known = known c.fact_laws.ensures; append = by_row-append }
