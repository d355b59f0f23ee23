-- A pass is cut in two, and two passes are made one.
use Rattle.std.proofs.Common.{◌≡◌, ◌≢◌, ◌⊎◌, inl, inr, ℕ, suc, zero, ◌+◌, ◌-◌, ◌<◌, List, [], ◌∷◌, ◌++◌, Bool, true, false, length, refl, sym, ap, ◌∙◌, subst, arith, eq-eqb, ne_eqb}
use Rattle.std.specs.Prelude.{slice_set, cond, ◌==◌}
use Rattle.std.proofs.Math.ListN.{length-set}
use mathlib.Core.Option.{Option, some, some-injective, some-ne-none}
use native.Mathlib.Decide.{ℕ_discrete}
use lib.ListN.{get_elem?}
use Rattle.atomic_table.specs.Table.{Splits, Joins}
use Rattle.atomic_table.proofs.Lists.{at_set, set_here, set_else, at_longer, at_last}
use Rattle.kn_cell.specs.declared.past.Past.{Past}
use Rattle.kn_cell.specs.declared.view.Key.{Key}
use Rattle.kn_cell.specs.declared.view.Joined.{Joined}
use Rattle.kn_cell.specs.declared.view.View.{View}
use Rattle.kn_cell.specs.State.{DeskState}
use Rattle.kn_cell.specs.Lists.{StartsWith, Each}
use Rattle.kn_cell.specs.History.{rows_by}
use Rattle.kn_cell.specs.Views.{weight, Knows, Has, Holds, IsPass, Passes}
use Rattle.kn_cell.specs.Rule.{IsResting, IsTaken, IsKept}
use Rattle.kn_cell.specs.Splitting.{less_one, newcomer, as_joined, with_other, spent_view}
use Rattle.kn_cell.proofs.ListFacts.{at_within, at_same, at_append, at_later, at_one_more, total-set, total-append}
use Rattle.kn_cell.proofs.HistoryFacts.{rows_by-none}
use Rattle.kn_cell.proofs.PassMoves.{held_on}
use Rattle.kn_cell.proofs.TakenMoves.{takings_split, takings_join}

-- ---- the phase, where the views with the turn stay what they are

abbrev Phase : Key → List Past → ℕ → ℕ → List (Option DeskState) → List View → Type 0
Phase key log taken turn homes views = ((turn ≡ 0) × IsResting key log taken homes views) ⊎ ((turn ≢ 0) × IsTaken log taken homes views)

not_turn : (b : Bool) → (b ≡ true → ⊥) → b ≡ false
not_turn true h = absurd (h refl)
not_turn false h = refl

phase_stays : (key : Key) (log : List Past) (taken turn : ℕ) (homes : List (Option DeskState)) (views next : List View) → Phase key log taken turn homes views
    → ((j : ℕ) (u : View) → get_elem? next j ≡ some u → u.turn ≡ true → get_elem? views j ≡ some u)
    → ((j : ℕ) (u : View) → get_elem? views j ≡ some u → u.turn ≡ true → get_elem? next j ≡ some u) → Phase key log taken turn homes next
phase_stays key log taken turn homes views next phase back forth = elim phase [
  | inl p ↦ inl (
    p.0,
    record {
      value = p.1.value;
      home = p.1.home;
      goes = p.1.goes;
      taken_is = p.1.taken_is;
      free = λ j u at. not_turn u.turn (λ has. let no = p.1.free j u (back j u at has) in cc);
    },
  )
  | inr p ↦ inr (
    p.0,
    record {
      out = p.1.out;
      who = p.1.who;
      holder = p.1.holder;
      there = forth p.1.who p.1.holder p.1.there p.1.has;
      has = p.1.has;
      fresh = p.1.fresh;
      seen = p.1.seen;
      gone = p.1.gone;
      alone = λ j u at has. p.1.alone j u (back j u at has) has;
    },
  )
]

-- ---- splitting

none_before : (n : ℕ) (seen log : List Past) → StartsWith log seen → Each (λ r. r.pass < n) log → rows_by n seen ≡ []
none_before n seen log front low =
    rows_by-none n seen (λ k r at. low k r (subst (λ (l : List Past). get_elem? l k ≡ some r) (sym front.1) (at_longer seen front.0 k r at)))

module _ (key : Key) (log : List Past) (views : List View) (id : ℕ) (v : View) (p : Passes key log views) (me : get_elem? views id ≡ some v) (fresh : v.spent ≡ false) (some_free : 0 < v.free) where
  owner : ℕ → ℕ
  owner n = cond (n == p.given) (length views) (p.owner n)

  owner-old : (n : ℕ) → n < p.given → owner n ≡ p.owner n
  unfolding owner
  owner-old n low = let ne : n ≢ p.given = (λ e. omega arith) in ap (λ b. cond b (length views) (p.owner n)) (ne_eqb n p.given ne)

  owner-new : owner p.given ≡ length views
  unfolding owner
  owner-new = ap (λ b. cond b (length views) (p.owner p.given)) (eq-eqb p.given p.given refl)

  old_pass : (j : ℕ) (u : View) → j ≢ id → IsPass key log p.given p.root p.owner j u → IsPass key log (p.given + 1) p.root owner j u
  old_pass j u ne q =
      let mine = p.each id v me fresh in
      record {
        key_is = q.key_is;
        knows = q.knows;
        joined = q.joined;
        own = let low = q.own.1 in (owner-old u.number low ∙ q.own.0, omega arith);
        theirs = λ k o at. let t = q.theirs k o at in let low = t.1 in (owner-old o.number low ∙ t.0, omega arith, t.2);
        free = λ f. let here = (mine.free some_free).0 in let there = (q.free f).0 in absurd (ne (there ∙ sym here));
      }

  left_pass : IsPass key log (p.given + 1) p.root owner id (less_one v)
  left_pass =
      let mine = p.each id v me fresh in
      record {
        key_is = mine.key_is;
        knows = mine.knows;
        joined = mine.joined;
        own = let low = mine.own.1 in (owner-old v.number low ∙ mine.own.0, omega arith);
        theirs = λ k o at. let t = mine.theirs k o at in let low = t.1 in (owner-old o.number low ∙ t.0, omega arith, t.2);
        free = λ f. let m = mine.free some_free in let sum = m.1 in (m.0, omega arith);
      }

  new_number : v.key.passes - v.free ≡ p.given
  new_number =
      let mine = p.each id v me fresh in
      let sum = (mine.free some_free).1 in
      let k = ap (λ (q : Key). q.passes) mine.key_is in
      omega arith

  new_pass : IsPass key log (p.given + 1) p.root owner (length views) (newcomer v)
  new_pass =
      let mine = p.each id v me fresh in
      let n = new_number in
      record {
        key_is = mine.key_is;
        knows = subst (λ m. Knows log m v.seen []) (sym n) record {
          front = mine.knows.front;
          own = sym (none_before p.given v.seen log mine.knows.front p.rows);
          whole = sym (rows_by-none p.given log p.rows);
        };
        joined = λ k o at. absurd (some-ne-none o (sym at));
        own = (ap owner n ∙ owner-new, omega arith);
        theirs = λ k o at. absurd (some-ne-none o (sym at));
        free = λ f. absurd (omega arith);
      }

  pub passes_split : Passes key log (slice_set views id (less_one v) ++ newcomer v ∷ [])
  passes_split =
      let mine = p.each id v me fresh in
      let left = less_one v in
      let new = newcomer v in
      let rest = slice_set views id left in
      let len : length rest ≡ length views = length-set views id left in
      record {
        given = p.given + 1;
        root = p.root;
        owner = owner;
        bounded = p.bounded;
        legal = p.legal;
        weights =
            let t = total-set weight views id v left me in
            let q = total-append weight rest new in
            let a : weight v ≡ 1 + v.free + v.back = ap (λ b. cond b 0 (1 + v.free + v.back)) fresh in
            let b : weight left ≡ 1 + (v.free - 1) + v.back = ap (λ b. cond b 0 (1 + (v.free - 1) + v.back)) fresh in
            let sum = p.weights in
            omega arith;
        each = λ j u at new_fresh. elim (at_one_more rest new u j at) [
          | inl h ↦ elim (at_set views id j left u h) [
            | inl i ↦ subst (λ k. IsPass key log (p.given + 1) p.root owner k u) (sym i.0)
                (subst (λ (x : View). IsPass key log (p.given + 1) p.root owner id x) i.1 left_pass)
            | inr i ↦ old_pass j u i.0 (p.each j u i.1 new_fresh)
          ]
          | inr h ↦ subst (λ k. IsPass key log (p.given + 1) p.root owner k u) (sym (h.0 ∙ len))
              (subst (λ (x : View). IsPass key log (p.given + 1) p.root owner (length views) x) h.1 new_pass)
        ];
        rows = λ k r at. let low = p.rows k r at in omega arith;
        bounds = p.bounds;
        holders = λ n low. elim (ℕ_discrete n p.given) [
          | yes e ↦ subst (λ m. Holds (rest ++ new ∷ []) m n) (sym (ap owner e ∙ owner-new)) record {
            view = new;
            there = at_last rest new (length views) len;
            fresh = refl;
            has = inl (e ∙ sym new_number);
          }
          | no ne ↦
              let under : n < p.given = omega arith in
              let h = held_on views id v left me fresh (λ m had. had) (p.owner n) n (p.holders n under) in
              subst (λ m. Holds (rest ++ new ∷ []) m n) (sym (owner-old n under))
              record { view = h.view; there = at_longer rest (new ∷ []) (p.owner n) h.view h.there; fresh = h.fresh; has = h.has }
        ];
      }

pub splits : (key : Key) (id : ℕ) (v : View) → v.turn ≡ false → v.spent ≡ false → 0 < v.free → Splits (IsKept key) id v (less_one v) (newcomer v)
splits key id v idle fresh some_free s k me =
    let left = less_one v in
    let new = newcomer v in
    let rest = slice_set s.views id left in
    record {
      log = k.log;
      turn = k.turn;
      bells = k.bells;
      taken = k.taken;
      words = k.words;
      passes = passes_split key k.log s.views id v k.passes me fresh some_free;
      takings = takings_split key k.taken s.views id v k.takings me fresh;
      phase = phase_stays key k.log k.taken k.turn s.homes s.views (rest ++ new ∷ []) k.phase
          (λ j u at has. elim (at_one_more rest new u j at) [
            | inl h ↦ elim (at_set s.views id j left u h) [
              | inl i ↦ let t : v.turn ≡ u.turn = ap (λ (x : View). x.turn) i.1 in let no : false ≡ true = sym idle ∙ (t ∙ has) in cc
              | inr i ↦ i.1
            ]
            | inr h ↦ let no : false ≡ true = ap (λ (x : View). x.turn) h.1 ∙ has in cc
          ])
          (λ j u at has. at_longer rest (new ∷ []) j u (set_else s.views id j left (λ e.
          let is = at_same s.views id j v u me at (sym e) in let t : v.turn ≡ u.turn = ap (λ (x : View). x.turn) is in let no : false ≡ true = sym idle ∙ (t ∙ has) in cc) ∙ at));
    }

-- ---- joining

module _ (key : Key) (log : List Past) (views : List View) (id other : ℕ) (v w : View) (p : Passes key log views) (me : get_elem? views id ≡ some v) (it : get_elem? views other ≡ some w)
    (fresh : v.spent ≡ false) (fresh' : w.spent ≡ false) (apart : other ≢ id) where
  heir : ℕ → ℕ
  heir n = cond (p.owner n == other) id (p.owner n)

  heir-else : (n : ℕ) → p.owner n ≢ other → heir n ≡ p.owner n
  unfolding heir
  heir-else n ne = ap (λ b. cond b id (p.owner n)) (ne_eqb (p.owner n) other ne)

  heir-of : (n : ℕ) → p.owner n ≡ other → heir n ≡ id
  unfolding heir
  heir-of n e = ap (λ b. cond b id (p.owner n)) (eq-eqb (p.owner n) other e)

  heir-at : (n j : ℕ) → j ≢ other → p.owner n ≡ j → heir n ≡ j
  heir-at n j ne e = heir-else n (λ o. ne (sym e ∙ o)) ∙ e

  third_pass : (j : ℕ) (u : View) → j ≢ other → IsPass key log p.given p.root p.owner j u → IsPass key log p.given p.root heir j u
  third_pass j u ne q = record {
    key_is = q.key_is;
    knows = q.knows;
    joined = q.joined;
    own = (heir-at u.number j ne q.own.0, q.own.1);
    theirs = λ k o at. let t = q.theirs k o at in (heir-at o.number j ne t.0, t.1, t.2);
    free = q.free;
  }

  both_pass : IsPass key log p.given p.root heir id (with_other v w)
  both_pass =
      let mine = p.each id v me fresh in
      let its = p.each other w it fresh' in
      let here : id ≢ other = (λ e. apart (sym e)) in
      let differs : (n : ℕ) → p.owner n ≡ other → n ≢ v.number = (λ n o e. apart (sym o ∙ (ap p.owner e ∙ mine.own.0))) in
      let last : (k : ℕ) (o : Joined) → get_elem? (as_joined w ∷ []) k ≡ some o → as_joined w ≡ o = last_is in
      record {
        key_is = mine.key_is;
        knows = mine.knows;
        joined = λ k o at. elim (at_append (v.others ++ w.others) (as_joined w ∷ []) k o at) [
          | inl h ↦ elim (at_append v.others w.others h.0 o h.1) [ inl i ↦ mine.joined i.0 o i.1 | inr i ↦ its.joined i.0 o i.1 ]
          | inr h ↦ subst (λ (x : Joined). Knows log x.number x.seen x.mine) (last h.0 o h.1) its.knows
        ];
        own = (heir-at v.number id here mine.own.0, mine.own.1);
        theirs = λ k o at. elim (at_append (v.others ++ w.others) (as_joined w ∷ []) k o at) [
          | inl h ↦ elim (at_append v.others w.others h.0 o h.1) [
            | inl i ↦ let t = mine.theirs i.0 o i.1 in (heir-at o.number id here t.0, t.1, t.2)
            | inr i ↦ let t = its.theirs i.0 o i.1 in (heir-of o.number t.0, t.1, differs o.number t.0)
          ]
          | inr h ↦ subst (λ (x : Joined). (heir x.number ≡ id) × (x.number < p.given) × (x.number ≢ v.number)) (last h.0 o h.1)
              (heir-of w.number its.own.0, its.own.1, differs w.number its.own.0)
        ];
        free = mine.free;
      }
    where
      last_is : (k : ℕ) (o : Joined) → get_elem? (as_joined w ∷ []) k ≡ some o → as_joined w ≡ o
      last_is zero o e = some-injective (as_joined w) o e
      last_is (suc k) o e = absurd (some-ne-none o (sym e))

  has_mine : (n : ℕ) → Has v n → Has (with_other v w) n
  has_mine n had = elim had [
    | inl e ↦ inl e
    | inr h ↦ inr (h.0, h.1, at_longer (v.others ++ w.others) (as_joined w ∷ []) h.0 h.1 (at_longer v.others w.others h.0 h.1 h.2), h.3)
  ]

  has_its : (n : ℕ) → Has w n → Has (with_other v w) n
  has_its n had = elim had [
    | inl e ↦ let q = at_later (v.others ++ w.others) (as_joined w ∷ []) 0 (as_joined w) refl in inr (q.0, as_joined w, q.1, e)
    | inr h ↦ let q = at_later v.others w.others h.0 h.1 h.2 in inr (q.0, h.1, at_longer (v.others ++ w.others) (as_joined w ∷ []) q.0 h.1 q.1, h.3)
  ]

  joined_views : List View
  joined_views = slice_set (slice_set views id (with_other v w)) other spent_view

  at_both : get_elem? joined_views id ≡ some (with_other v w)
  unfolding joined_views
  at_both = set_else (slice_set views id (with_other v w)) other id spent_view (λ e. apart (sym e)) ∙ set_here views id (with_other v w) (at_within views id v me)

  pub passes_join : Passes key log (slice_set (slice_set views id (with_other v w)) other spent_view)
  unfolding joined_views
  passes_join =
      let both = with_other v w in
      let one = slice_set views id both in
      let it' : get_elem? one other ≡ some w = set_else views id other both apart ∙ it in
      record {
        given = p.given;
        root = p.root;
        owner = heir;
        bounded = p.bounded;
        legal = p.legal;
        weights =
            let t = total-set weight views id v both me in
            let t' = total-set weight one other w spent_view it' in
            let a : weight v ≡ 1 + v.free + v.back = ap (λ b. cond b 0 (1 + v.free + v.back)) fresh in
            let b : weight w ≡ 1 + w.free + w.back = ap (λ b. cond b 0 (1 + w.free + w.back)) fresh' in
            let c : weight both ≡ 1 + v.free + (v.back + 1 + w.free + w.back) = ap (λ b. cond b 0 (1 + v.free + (v.back + 1 + w.free + w.back))) fresh in
            let sum = p.weights in
            omega arith;
        each = λ j u at new_fresh. elim (at_set one other j spent_view u at) [
          | inl h ↦ let no : true ≡ false = ap (λ (x : View). x.spent) h.1 ∙ new_fresh in cc
          | inr h ↦ elim (at_set views id j both u h.1) [
            | inl i ↦ subst (λ k. IsPass key log p.given p.root heir k u) (sym i.0)
                (subst (λ (x : View). IsPass key log p.given p.root heir id x) i.1 both_pass)
            | inr i ↦ third_pass j u h.0 (p.each j u i.1 new_fresh)
          ]
        ];
        rows = p.rows;
        bounds = p.bounds;
        holders = λ n low. elim (ℕ_discrete (p.owner n) other) [
          | yes e ↦
              let h = p.holders n low in
              subst (λ m. Holds joined_views m n) (sym (heir-of n e)) record {
                view = both;
                there = at_both;
                fresh = fresh;
                has = has_its n (subst (λ (x : View). Has x n) (at_same views (p.owner n) other h.view w h.there it e) h.has);
              }
          | no ne ↦
              let h = held_on views id v both me fresh has_mine (p.owner n) n (p.holders n low) in
              subst (λ m. Holds joined_views m n) (sym (heir-else n ne))
              record { view = h.view; there = set_else one other (p.owner n) spent_view ne ∙ h.there; fresh = h.fresh; has = h.has }
        ];
      }

pub joins : (key : Key) (id : ℕ) (v : View) (other : ℕ) (w : View) → v.turn ≡ false → v.spent ≡ false → w.turn ≡ false → w.spent ≡ false
    → Joins (IsKept key) id v other w (with_other v w) spent_view
joins key id v other w idle fresh idle' fresh' s k me apart it' =
    let both = with_other v w in
    let one = slice_set s.views id both in
    let it : get_elem? s.views other ≡ some w = sym (set_else s.views id other both apart) ∙ it' in
    record {
      log = k.log;
      turn = k.turn;
      bells = k.bells;
      taken = k.taken;
      words = k.words;
      passes = passes_join key k.log s.views id other v w k.passes me it fresh fresh' apart;
      takings = takings_join key k.taken s.views id other v w k.takings me it fresh fresh' apart;
      phase = phase_stays key k.log k.taken k.turn s.homes s.views (slice_set one other spent_view) k.phase
          (λ j u at has. elim (at_set one other j spent_view u at) [
            | inl h ↦ let no : false ≡ true = ap (λ (x : View). x.turn) h.1 ∙ has in cc
            | inr h ↦ elim (at_set s.views id j both u h.1) [
              | inl i ↦ let t : v.turn ≡ u.turn = ap (λ (x : View). x.turn) i.1 in let no : false ≡ true = sym idle ∙ (t ∙ has) in cc
              | inr i ↦ i.1
            ]
          ])
          (λ j u at has.
          set_else one other j spent_view (λ e.
          let is = at_same s.views other j w u it at (sym e) in let t : w.turn ≡ u.turn = ap (λ (x : View). x.turn) is in let no : false ≡ true = sym idle' ∙ (t ∙ has) in cc)
          ∙ (set_else s.views id j both (λ e.
          let is = at_same s.views id j v u me at (sym e) in let t : v.turn ≡ u.turn = ap (λ (x : View). x.turn) is in let no : false ≡ true = sym idle ∙ (t ∙ has) in cc) ∙ at));
    }
