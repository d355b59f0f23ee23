-- What the views know of the rows that were taken out, after one of them has moved.
use Rattle.std.proofs.Common.{◌≡◌, ◌≢◌, inl, inr, ℕ, ◌+◌, ◌≤◌, List, [], ◌∷◌, ◌++◌, Bool, true, false, length, refl, sym, ap, ◌∙◌, subst, arith, eq-eqb, ne_eqb, length-append}
use Rattle.std.specs.Prelude.{slice_set, cond, ◌==◌, ◌||◌}
use Rattle.std.proofs.lemmas.Bool.{or_cases}
use mathlib.Core.Option.{some}
use lib.ListN.{get_elem?}
use Rattle.atomic_table.proofs.Lists.{at_set}
use Rattle.kn_cell.specs.declared.past.Past.{Past}
use Rattle.kn_cell.specs.declared.view.Key.{Key}
use Rattle.kn_cell.specs.declared.view.View.{View}
use Rattle.kn_cell.specs.State.{DeskState}
use Rattle.kn_cell.specs.Views.{Takings}
use Rattle.kn_cell.specs.Rule.{GoesWith, GoesBack, last_row, without_turn, gives_back}
use Rattle.kn_cell.specs.Splitting.{gone_of, less_one, newcomer, with_other, spent_view}
use Rattle.kn_cell.proofs.ListFacts.{at_one_more}

-- ---- one view moves. Where more rows were taken out, it is the scribe's

pub takings_move : (key : Key) (taken next : ℕ) (views : List View) (id : ℕ) (v w : View) → Takings key taken views → get_elem? views id ≡ some v → v.spent ≡ false
    → w.scribe ≡ v.scribe → w.gone ≤ next → (w.scribe ≡ true → w.gone ≡ next) → taken ≤ next → (key.lasting ≡ false → next ≡ 0) → (v.scribe ≡ false → next ≡ taken)
    → Takings key next (slice_set views id w)
takings_move key taken next views id v w t me fresh same low exact more plain still = record {
  scribe = t.scribe;
  plain = plain;
  gone = λ j u at new. elim (at_set views id j w u at) [
    | inl h ↦ subst (λ (x : View). x.gone ≤ next) h.1 low
    | inr h ↦ let under = t.gone j u h.1 new in omega arith
  ];
  takes = λ j u at new has. elim (at_set views id j w u at) [
    | inl h ↦
        let is : w.scribe ≡ true = ap (λ (x : View). x.scribe) h.1 ∙ has in
        let mine = t.takes id v me fresh (sym same ∙ is) in
        (h.0 ∙ mine.0, subst (λ (x : View). x.gone ≡ next) h.1 (exact is), mine.2)
    | inr h ↦
        let its = t.takes j u h.1 new has in
        (its.0, its.1 ∙ sym (still (not_mine v.scribe (λ is. h.0 (its.0 ∙ sym (t.takes id v me fresh is).0)))), its.2)
  ];
}
  where
    not_mine : (b : Bool) → (b ≡ true → ⊥) → b ≡ false
    not_mine true h = absurd (h refl)
    not_mine false h = refl

-- the view knows what it knew
pub takings_same : (key : Key) (taken : ℕ) (views : List View) (id : ℕ) (v w : View) → Takings key taken views → get_elem? views id ≡ some v → v.spent ≡ false
    → w.scribe ≡ v.scribe → w.gone ≡ v.gone → Takings key taken (slice_set views id w)
takings_same key taken views id v w t me fresh same gone =
    let under = t.gone id v me fresh in
    let low : w.gone ≤ taken = omega arith in
    let least : taken ≤ taken = omega arith in
    takings_move key taken taken views id v w t me fresh same low (λ is. gone ∙ (t.takes id v me fresh (sym same ∙ is)).1) least t.plain (λ _. refl)

-- ---- splitting

pub takings_split : (key : Key) (taken : ℕ) (views : List View) (id : ℕ) (v : View) → Takings key taken views → get_elem? views id ≡ some v → v.spent ≡ false
    → Takings key taken (slice_set views id (less_one v) ++ newcomer v ∷ [])
takings_split key taken views id v t me fresh =
    let rest = slice_set views id (less_one v) in
    let left = takings_same key taken views id v (less_one v) t me fresh refl refl in
    record {
      scribe = left.scribe;
      plain = left.plain;
      gone = λ j u at new. elim (at_one_more rest (newcomer v) u j at) [
        | inl h ↦ left.gone j u h new
        | inr h ↦ subst (λ (x : View). x.gone ≤ taken) h.1 (t.gone id v me fresh)
      ];
      takes = λ j u at new has. elim (at_one_more rest (newcomer v) u j at) [
        | inl h ↦ left.takes j u h new has
        | inr h ↦ let no : false ≡ true = ap (λ (x : View). x.scribe) h.1 ∙ has in cc
      ];
    }

-- ---- joining

heir : ℕ → ℕ → ℕ → ℕ
heir id other scribe = cond (scribe == other) id scribe

heir-else : (id other scribe : ℕ) → scribe ≢ other → heir id other scribe ≡ scribe
unfolding heir
heir-else id other scribe ne = ap (λ b. cond b id scribe) (ne_eqb scribe other ne)

heir-of : (id other scribe : ℕ) → scribe ≡ other → heir id other scribe ≡ id
unfolding heir
heir-of id other scribe e = ap (λ b. cond b id scribe) (eq-eqb scribe other e)

gone_of-known : (b : Bool) (gone other : ℕ) → b ≡ true → gone_of b gone other ≡ gone
gone_of-known b gone other e = ap (λ s. gone_of s gone other) e

gone_of-low : (b : Bool) (gone other taken : ℕ) → gone ≤ taken → other ≤ taken → gone_of b gone other ≤ taken
gone_of-low true gone other taken low low' = low
gone_of-low false gone other taken low low' = omega arith

gone_of-all : (b : Bool) (gone other taken : ℕ) → gone ≤ taken → other ≡ taken → (b ≡ true → gone ≡ taken) → gone_of b gone other ≡ taken
gone_of-all true gone other taken low e known = known refl
gone_of-all false gone other taken low e known = omega arith

heirs : (key : Key) (taken : ℕ) (views : List View) (id other : ℕ) (v w : View) (t : Takings key taken views)
    → get_elem? views id ≡ some v → get_elem? views other ≡ some w → v.spent ≡ false → w.spent ≡ false → other ≢ id
    → (v.scribe || w.scribe) ≡ true → (id ≡ heir id other t.scribe) × (gone_of v.scribe v.gone w.gone ≡ taken) × (key.lasting ≡ true)
heirs key taken views id other v w t me it fresh fresh' apart is =
    elim (or_cases v.scribe w.scribe is) [
      | inl h ↦ let q = t.takes id v me fresh h in (q.0 ∙ sym (heir-else id other t.scribe (λ o. apart (sym o ∙ sym q.0))), gone_of-known v.scribe v.gone w.gone h ∙ q.1, q.2)
      | inr h ↦
          let q = t.takes other w it fresh' h in
          let gone = gone_of-all v.scribe v.gone w.gone taken (t.gone id v me fresh) q.1 (λ e. (t.takes id v me fresh e).1) in
          (sym (heir-of id other t.scribe (sym q.0)), gone, q.2)
    ]

pub takings_join : (key : Key) (taken : ℕ) (views : List View) (id other : ℕ) (v w : View) → Takings key taken views
    → get_elem? views id ≡ some v → get_elem? views other ≡ some w → v.spent ≡ false → w.spent ≡ false → other ≢ id
    → Takings key taken (slice_set (slice_set views id (with_other v w)) other spent_view)
takings_join key taken views id other v w t me it fresh fresh' apart =
    let both = with_other v w in
    let one = slice_set views id both in
    let low : both.gone ≤ taken = gone_of-low v.scribe v.gone w.gone taken (t.gone id v me fresh) (t.gone other w it fresh') in
    record {
      scribe = heir id other t.scribe;
      plain = t.plain;
      gone = λ j u at new. elim (at_set one other j spent_view u at) [
        | inl h ↦ let no : true ≡ false = ap (λ (x : View). x.spent) h.1 ∙ new in cc
        | inr h ↦ elim (at_set views id j both u h.1) [
          | inl i ↦ subst (λ (x : View). x.gone ≤ taken) i.1 low
          | inr i ↦ t.gone j u i.1 new
        ]
      ];
      takes = λ j u at new has. elim (at_set one other j spent_view u at) [
        | inl h ↦ let no : true ≡ false = ap (λ (x : View). x.spent) h.1 ∙ new in cc
        | inr h ↦ elim (at_set views id j both u h.1) [
          | inl i ↦
              let is : (v.scribe || w.scribe) ≡ true = ap (λ (x : View). x.scribe) i.1 ∙ has in
              let mine = heirs key taken views id other v w t me it fresh fresh' apart is in
              (i.0 ∙ mine.0, ap (λ (x : View). x.gone) (sym i.1) ∙ mine.1, mine.2)
          | inr i ↦ let its = t.takes j u i.1 new has in (its.0 ∙ sym (heir-else id other t.scribe (λ e. h.0 (its.0 ∙ e))), its.1, its.2)
        ]
      ];
    }

-- ---- the rows that are left, and those that were taken out

pub taken_within : (key : Key) (log : List Past) (x : DeskState) → GoesWith key log x → x.taken + length x.history ≡ length log
taken_within key log x g =
    let a = ap length g.whole in
    let b = length-append g.front x.history in
    let c = g.count in
    omega arith

pub last_row-one : (h : List Past) (p : Past) → last_row (h ++ p ∷ []) ≡ p ∷ []
last_row-one [] p = refl
last_row-one (a ∷ []) p = refl
last_row-one (a ∷ b ∷ hs) p = last_row-one (b ∷ hs) p

-- nothing was taken out
pub goes_back : (v : View) (x : DeskState) → GoesWith v.key v.seen x → v.gone ≡ x.taken → GoesBack v x
goes_back v x goes same = record { goes = goes; gone = omega arith; same = λ _. sym same }

pub gives_same : (v : View) (n : ℕ) → v.gone ≡ n → gives_back v n ≡ without_turn v
gives_same v n e = ap (gives_back v) (sym e)
