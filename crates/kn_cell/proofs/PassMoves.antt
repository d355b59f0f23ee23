-- What the rule says of all passes, after one of them has moved.
use Rattle.std.proofs.Common.{◌≡◌, ◌≢◌, ◌⊎◌, inl, inr, ℕ, ◌+◌, ◌<◌, List, false, sym, ap, ◌∙◌, subst, arith}
use Rattle.std.specs.Prelude.{slice_set, cond}
use mathlib.Core.Option.{some}
use native.Mathlib.Decide.{ℕ_discrete}
use lib.ListN.{get_elem?}
use Rattle.atomic_table.proofs.Lists.{at_set, set_here, set_else}
use Rattle.kn_cell.specs.declared.past.Past.{Past}
use Rattle.kn_cell.specs.declared.view.Key.{Key}
use Rattle.kn_cell.specs.declared.view.Joined.{Joined}
use Rattle.kn_cell.specs.declared.view.View.{View}
use Rattle.kn_cell.specs.Lists.{Each}
use Rattle.kn_cell.specs.History.{IsInBounds, IsLegal}
use Rattle.kn_cell.specs.Views.{opening, weight, Knows, Has, Holds, IsPass, Passes}
use Rattle.kn_cell.proofs.ListFacts.{at_within, at_same, total-set}

-- the new view has the numbers and the rights of the old one
pub record IsSamePass (v w : View) : Type 0 where
  pub fresh : w.spent ≡ false
  pub key_is : w.key ≡ v.key
  pub number_is : w.number ≡ v.number
  pub free_is : w.free ≡ v.free
  pub back_is : w.back ≡ v.back
  pub others_are : w.others ≡ v.others

-- the numbers of a list of joined passes, or one number
has_same : (v w : View) (n : ℕ) → w.number ≡ v.number → w.others ≡ v.others → Has v n → Has w n
has_same v w n number_is others_are had =
    let P : List Joined → ℕ → Type 0 = λ os m. (n ≡ m) ⊎ ((k : ℕ) × (o : Joined) × (get_elem? os k ≡ some o) × (n ≡ o.number)) in
    subst (λ os. P os w.number) (sym others_are) (subst (P v.others) (sym number_is) had)

-- who holds a number still holds it
pub held_on : (views : List View) (id : ℕ) (v w : View) → get_elem? views id ≡ some v → w.spent ≡ false → ((n : ℕ) → Has v n → Has w n)
    → (i n : ℕ) → Holds views i n → Holds (slice_set views id w) i n
held_on views id v w me fresh more i n h = elim (ℕ_discrete i id) [
  | yes e ↦ record {
    view = w;
    there = ap (get_elem? (slice_set views id w)) e ∙ set_here views id w (at_within views id v me);
    fresh = fresh;
    has = more n (subst (λ (x : View). Has x n) (at_same views i id h.view v h.there me e) h.has);
  }
  | no ne ↦ record { view = h.view; there = set_else views id i w ne ∙ h.there; fresh = h.fresh; has = h.has }
]

-- one pass moves, over a log that may be longer, and every other number knows as much of it as before
pub passes_move : (key : Key) (log next : List Past) (views : List View) (id : ℕ) (v w : View) (p : Passes key log views)
    → get_elem? views id ≡ some v → v.spent ≡ false → IsSamePass v w
    → IsLegal (opening key) next → Each (λ r. r.pass < p.given) next → Each (λ r. IsInBounds r.event) next → Knows next v.number w.seen w.mine
    → ((n : ℕ) (seen mine : List Past) → n ≢ v.number → Knows log n seen mine → Knows next n seen mine)
    → Passes key next (slice_set views id w)
passes_move key log next views id v w p me fresh same legal rows bounds knows others =
    let mine = p.each id v me fresh in
    let moved : IsPass key next p.given p.root p.owner id w = record {
      key_is = same.key_is ∙ mine.key_is;
      knows = subst (λ n. Knows next n w.seen w.mine) (sym same.number_is) knows;
      joined = subst (λ os. Each (λ (o : Joined). Knows next o.number o.seen o.mine) os) (sym same.others_are)
          (λ k o at. others o.number o.seen o.mine (mine.theirs k o at).2 (mine.joined k o at));
      own = subst (λ n. (p.owner n ≡ id) × (n < p.given)) (sym same.number_is) mine.own;
      theirs = subst (λ os. Each (λ (o : Joined). (p.owner o.number ≡ id) × (o.number < p.given) × (o.number ≢ w.number)) os) (sym same.others_are)
          (subst (λ n. Each (λ (o : Joined). (p.owner o.number ≡ id) × (o.number < p.given) × (o.number ≢ n)) v.others) (sym same.number_is) mine.theirs);
      free = subst (λ f. 0 < f → (id ≡ p.root) × (f + p.given ≡ key.passes)) (sym same.free_is) mine.free;
    } in
    record {
      given = p.given;
      root = p.root;
      owner = p.owner;
      bounded = p.bounded;
      legal = legal;
      weights =
          let t = total-set weight views id v w me in
          let a : weight v ≡ 1 + v.free + v.back = ap (λ b. cond b 0 (1 + v.free + v.back)) fresh in
          let b : weight w ≡ 1 + w.free + w.back = ap (λ b. cond b 0 (1 + w.free + w.back)) same.fresh in
          let f = same.free_is in
          let g = same.back_is in
          let q = p.weights in
          omega arith;
      each = λ j u at new. elim (at_set views id j w u at) [
        | inl h ↦ subst (λ i. IsPass key next p.given p.root p.owner i u) (sym h.0)
            (subst (λ (x : View). IsPass key next p.given p.root p.owner id x) h.1 moved)
        | inr h ↦ other j u h.0 (p.each j u h.1 new)
      ];
      rows = rows;
      bounds = bounds;
      holders = λ n low. held_on views id v w me same.fresh (λ m. has_same v w m same.number_is same.others_are) (p.owner n) n (p.holders n low);
    }
  where
    other : (j : ℕ) (u : View) → j ≢ id → IsPass key log p.given p.root p.owner j u → IsPass key next p.given p.root p.owner j u
    other j u ne q =
        let mine = p.each id v me fresh in
        let apart : (n : ℕ) → p.owner n ≡ j → n ≢ v.number = λ n o e. ne (sym o ∙ (ap p.owner e ∙ mine.own.0)) in
        record {
          key_is = q.key_is;
          knows = others u.number u.seen u.mine (apart u.number q.own.0) q.knows;
          joined = λ k o at. others o.number o.seen o.mine (apart o.number (q.theirs k o at).0) (q.joined k o at);
          own = q.own;
          theirs = q.theirs;
          free = q.free;
        }
