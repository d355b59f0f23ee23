-- What a page does to its pass.
use Rattle.std.proofs.Common.{◌≡◌, ◌⊎◌, inl, inr, ℕ, Bool, List, [], ◌∷◌, ◌++◌, append_assoc, refl, sym, ap, ◌∙◌, subst, arith}
use Rattle.std.specs.Prelude.{Option}
use Rattle.kn_cell.specs.declared.past.Past.{Past}
use Rattle.kn_cell.specs.History.{IsLegal, rows_by}
use Rattle.kn_cell.specs.Lists.{StartsWith}
use Rattle.kn_cell.specs.Shown.{Looks, PassView}
use Rattle.kn_page.specs.declared.asked.Wanted.{Wanted}
use Rattle.kn_page.specs.declared.asked.Wanted.TheVariants as wanted
use Rattle.kn_page.specs.declared.visit.Visit.{Visit}
use Rattle.kn_page.specs.declared.visit.Visit.TheVariants as visit
use Rattle.kn_page.specs.Visits.{AnswersTo, AreVisits, OneVisit, Side, Visits, side}

starts_trans : (a b c : List Past) → StartsWith b a → StartsWith c b → StartsWith c a
starts_trans a b c s t = (s.0 ++ t.0, t.1 ∙ (ap (λ l. l ++ t.0) s.1 ∙ append_assoc a s.0 t.0))

-- looks, one after the other
looks_trans : (a b c : PassView) → Looks a b → Looks b c → Looks a c
looks_trans a b c l k = record {
  same = k.same ∙ ap (λ (v : PassView). record v { seen = c.seen; mine = c.mine; missed = c.missed; gone = c.gone }) l.same;
  missed = let x = l.missed in let y = k.missed in omega arith;
  alone = λ e.
      let f = ap (λ (v : PassView). v.free) l.same in let g = ap (λ (v : PassView). v.back) l.same in let h = ap (λ (v : PassView). v.passes) l.same in
      k.alone (omega (arith, e, f, g, h)) ∙ l.alone e;
  longer = starts_trans a.seen b.seen c.seen l.longer k.longer;
  others = λ i o at. starts_trans o.seen b.seen c.seen (l.others i o at) k.longer;
  legal = subst (λ (v : PassView). IsLegal v.opening c.seen) l.same k.legal;
  bounds = k.bounds;
  own = k.own ∙ ap (λ (v : PassView). rows_by v.number c.seen) l.same;
  some = l.some;
  gone = let x = l.gone in let y = k.gone in omega (arith, x, y);
  most = k.most;
  plain = λ e. k.plain (ap (λ (v : PassView). v.lasting) l.same ∙ e);
  still = λ e. let x = l.still e in let y = k.still (ap (λ (v : PassView). v.scribe) l.same ∙ e) in omega (arith, x, y);
}

-- what a page may do to its pass: it looks, or does nothing, and records no row
pub record OnlyLooks (p q : PassView) : Type 0 where
  pub looks : (q ≡ p) ⊎ Looks p q
  pub mine : q.mine ≡ p.mine
  pub cell : q.cell ≡ p.cell

same_only : (p q : PassView) → q ≡ p → OnlyLooks p q
same_only p q e = record { looks = inl e; mine = ap (λ (v : PassView). v.mine) e; cell = ap (λ (v : PassView). v.cell) e }

then_looks : (p m q : PassView) → (m ≡ p) ⊎ Looks p m → (q ≡ m) ⊎ Looks m q → (q ≡ p) ⊎ Looks p q
then_looks p m q (inl e) (inl f) = inl (f ∙ e)
then_looks p m q (inl e) (inr k) = inr (subst (λ (v : PassView). Looks v q) e k)
then_looks p m q (inr l) (inl f) = inr (subst (λ (v : PassView). Looks p v) (sym f) l)
then_looks p m q (inr l) (inr k) = inr (looks_trans p m q l k)

pub only_begin : (p : PassView) → OnlyLooks p p
only_begin p = same_only p p refl

pub only_trans : (p m q : PassView) → OnlyLooks p m → OnlyLooks m q → OnlyLooks p q
only_trans p m q l k = record { looks = then_looks p m q l.looks k.looks; mine = k.mine ∙ l.mine; cell = k.cell ∙ l.cell }

answers_to_only : (stops : Bool → Type 0) (waits : ℕ → Type 0) (w : Wanted) (body : Bool) (p q : PassView) (text : List ℕ) → AnswersTo stops waits w body p q text → OnlyLooks p q
answers_to_only stops waits wanted.Health body p q text h = same_only p q h.0
answers_to_only stops waits wanted.Ready body p q text h = same_only p q h.0
answers_to_only stops waits wanted.Metrics body p q text h = record { looks = inr h.looks; mine = h.mine; cell = ap (λ (v : PassView). v.cell) h.looks.same }
answers_to_only stops waits wanted.Nothing body p q text h = same_only p q h.0
answers_to_only stops waits wanted.Other body p q text h = same_only p q h.0
answers_to_only stops waits wanted.NoHead body p q text h = same_only p q h.0

pub visit_only : (stops : Bool → Type 0) (waits : ℕ → Type 0) (v : Visit) (p q : PassView) (a b : Side) → OneVisit stops waits v p q a b → OnlyLooks p q
visit_only stops waits visit.Missed p q a b one = same_only p q one.visit.0
visit_only stops waits visit.Unread p q a b one = same_only p q one.visit.0
visit_only stops waits (visit.Cut asked) p q a b one = answers_to_only stops waits asked.wanted asked.body p q one.visit.0 one.visit.1
visit_only stops waits (visit.Told asked) p q a b one = answers_to_only stops waits asked.wanted asked.body p q one.visit.0 one.visit.1

-- ---- one visit after another

are_more : (stops : Bool → Type 0) (waits : ℕ → Type 0) (vs : List Visit) (v : Visit) (p m q : PassView) (a x b : Side) → AreVisits stops waits vs p m a x → OneVisit stops waits v m q x b
    → AreVisits stops waits (vs ++ v ∷ []) p q a b
are_more stops waits [] v p m q a x b (e, f) one = (q, b, subst (λ (s : Side). OneVisit stops waits v p q s b) f (subst (λ (r : PassView). OneVisit stops waits v r q x b) e one), (refl, refl))
are_more stops waits (w ∷ ws) v p m q a x b (n, y, first, rest) one = (n, y, first, are_more stops waits ws v n m q y x b rest one)

pub no_visits : (stops : Bool → Type 0) (waits : ℕ → Type 0) (p : PassView) (a : Side) → Visits stops waits p p a a
no_visits stops waits p a = record { all = []; are = (refl, refl) }

pub visits_more : (stops : Bool → Type 0) (waits : ℕ → Type 0) (v : Visit) (p m q : PassView) (a x b : Side) → Visits stops waits p m a x → OneVisit stops waits v m q x b → Visits stops waits p q a b
visits_more stops waits v p m q a x b vs one = record { all = vs.all ++ v ∷ []; are = are_more stops waits vs.all v p m q a x b vs.are one }

-- what is told of a caller stays
pub same_side : (k k' : Option (List (List ℕ))) (h h' : Option (List ℕ)) (f f' : ℕ) → k' ≡ k → h' ≡ h → f' ≡ f → side k' h' f' ≡ side k h f
same_side k k' h h' f f' e d b = ap (λ x. side x h' f') e ∙ ap (λ x. side k x f') d ∙ ap (side k h) b
