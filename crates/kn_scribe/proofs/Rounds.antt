-- One round after another.
use Rattle.std.proofs.Common.{◌≡◌, ◌≤◌, ◌+◌, ℕ, List, ◌++◌, length, length-append, take, append_assoc, refl, sym, ap, ◌∙◌, subst, arith}
use Rattle.std.specs.Prelude.{All, Option, Result, Ok, Err, OnErr, OnOk}
use Rattle.std.specs.Io.KnownBytes.{Appends}
use Rattle.std.proofs.KnownBytes.{Appends-trans}
use Rattle.std.proofs.lemmas.List.{take_at}
use Rattle.std.proofs.lemmas.List.Elements.{All-append}
use Rattle.std.proofs.Math.Seq.{take-append-add}
use Rattle.kn_cell.specs.declared.past.Past.{Past}
use Rattle.kn_cell.specs.History.{IsLegal, rows_by}
use Rattle.kn_cell.specs.Lists.{StartsWith}
use Rattle.kn_cell.specs.Shown.{PassView, LooksBy}
use Rattle.kn_io.specs.declared.traits.Failed.{Failed}
use Rattle.kn_io.specs.Causes.{HasCause, Rose}
use Rattle.kn_io.specs.Prefix.{AppendsPrefix}
use Rattle.kn_print.specs.Printed.{HasSmall, PrintedLaws, lines_of}
use Rattle.kn_scribe.specs.Printing.{Prints}

starts_trans : (a b c : List Past) → StartsWith b a → StartsWith c b → StartsWith c a
starts_trans a b c s t = (s.0 ++ t.0, t.1 ∙ (ap (λ l. l ++ t.0) s.1 ∙ append_assoc a s.0 t.0))

-- looks that take rows out, one after the other
looks_trans : (m n : ℕ) (a b c : PassView) → LooksBy m a b → LooksBy n b c → LooksBy (m + n) a c
looks_trans m n a b c l k = record {
  same = k.same ∙ ap (λ (v : PassView). record v { seen = c.seen; mine = c.mine; missed = c.missed; gone = c.gone }) l.same;
  missed = let x = l.missed in let y = k.missed in omega arith;
  alone = λ e.
      let f = ap (λ (v : PassView). v.free) l.same in let g = ap (λ (v : PassView). v.back) l.same in let h = ap (λ (v : PassView). v.passes) l.same in
      k.alone (omega (arith, e, f, g, h)) ∙ l.alone e;
  longer = starts_trans a.seen b.seen c.seen l.longer k.longer;
  others = λ i o at. starts_trans o.seen b.seen c.seen (l.others i o at) k.longer;
  legal = subst (λ (v : PassView). IsLegal v.opening c.seen) l.same k.legal;
  bounds = k.bounds;
  own = k.own ∙ ap (λ (v : PassView). rows_by v.number c.seen) l.same;
  some = l.some;
  gone = let x = l.gone in let y = k.gone in omega (arith, x, y);
  most = k.most;
  plain = λ e. k.plain (ap (λ (v : PassView). v.lasting) l.same ∙ e);
  still = λ e. let x = l.still e in let y = k.still (ap (λ (v : PassView). v.scribe) l.same ∙ e) in omega (arith, x, y);
}

-- lists that begin one list, and have one length, are one
same_front : (a b x y all : List Past) → all ≡ a ++ x → all ≡ b ++ y → length a ≡ length b → a ≡ b
same_front a b x y all e f h = sym (take_at a x (length b) h) ∙ ap (take (length b)) (sym e ∙ f) ∙ take_at b y (length b) refl

-- all of one text was written, and some of another
some_more : (a b c : Option (List ℕ)) (x y : List ℕ) → Appends a b x → AppendsPrefix b c y → AppendsPrefix a c (x ++ y)
some_more a b c x y h (n, few, k) =
    (length x + n, simp (length-append) (omega (arith, few)), rw (take-append-add x y n) (Appends-trans a b c x (take n y) h k))

on_ok : {T E : Type 0} {P Q : Type 0} (r : Result T E) → (P → Q) → OnOk r P → OnOk r Q
on_ok (Ok x) f h = f h
on_ok (Err e) f h = tt

on_err : {T E : Type 0} {P Q : Type 0} (r : Result T E) → (P → Q) → OnErr r P → OnErr r Q
on_err (Ok x) f h = tt
on_err (Err e) f h = f h

later_cause : (f g h : ℕ) (done : Result (Unit {0}) Failed) → f ≤ g → HasCause g h done → HasCause f h done
later_cause f g h done more k = record {
  never_falls = let x = k.never_falls in omega (arith, x, more);
  failed = on_err done (λ (x : Rose g h). omega (arith, x, more)) k.failed;
}

-- where a round went well, it and a further one are as one
pub prints_trans : PrintedLaws → (p q r : PassView) (a b c : Option (List ℕ)) (f g h : ℕ) (first done : Result (Unit {0}) Failed) → first ≡ Ok tt
    → Prints p q a b f g first → Prints q r b c g h done → Prints p r a c f h done
prints_trans laws p q r a b c f g h first done well x y =
    let reached : length y.front ≡ length q.seen = (let m = x.gone in let n = y.place in let o = x.place in omega (arith, m, n, o, ap length x.seen, length-append x.front x.given)) in
    let whole : y.front ≡ q.seen = same_front y.front q.seen y.given y.later.longer.0 r.seen y.seen y.later.longer.1 reached in
    let text : lines_of (x.given ++ y.given) ≡ lines_of x.given ++ lines_of y.given = laws.more x.given y.given in
    let written : Appends a b (lines_of x.given) = subst (λ (d : Result (Unit {0}) Failed). OnOk d (Appends a b (lines_of x.given))) well x.whole in
    let few : All (λ (r : Past). HasSmall r.event.act) x.given = subst (λ (d : Result (Unit {0}) Failed). OnOk d (All (λ (r : Past). HasSmall r.event.act) x.given)) well x.small in
    record {
      front = x.front;
      given = x.given ++ y.given;
      place = x.place;
      seen = y.seen ∙ ap (λ (z : List Past). z ++ y.given) (whole ∙ x.seen) ∙ append_assoc x.front x.given y.given;
      gone = omega (arith, x.gone, y.gone, length-append x.given y.given);
      later = subst (λ (n : ℕ). LooksBy n p r) (sym (length-append x.given y.given)) (looks_trans (length x.given) (length y.given) p q r x.later y.later);
      mine = y.mine ∙ x.mine;
      whole = on_ok done (λ (k : Appends b c (lines_of y.given)). subst (Appends a c) (sym text) (Appends-trans a b c (lines_of x.given) (lines_of y.given) written k)) y.whole;
      some = on_err done (λ (k : AppendsPrefix b c (lines_of y.given)). subst (AppendsPrefix a c) (sym text) (some_more a b c (lines_of x.given) (lines_of y.given) written k)) y.some;
      small = on_ok done (λ (k : All (λ (r : Past). HasSmall r.event.act) y.given). All-append (λ (r : Past). HasSmall r.event.act) x.given y.given few k) y.small;
      cause = later_cause f g h done x.cause.never_falls y.cause;
    }

pub room_is : (p q : PassView) {a b : Option (List ℕ)} {f g : ℕ} {done : Result (Unit {0}) Failed} → Prints p q a b f g done → q.room ≡ p.room
room_is p q x = ap (λ (v : PassView). v.room) x.later.same
