-- Each step on a word keeps the rule.
use Rattle.std.proofs.Common.{◌≡◌, ◌≢◌, ◌⊎◌, inl, inr, ℕ, suc, ◌+◌, ◌%◌, ◌^◌, ◌<◌, ◌≤◌, List, [], ◌∷◌, ◌++◌, Bool, true, false, length, refl, sym, ap, ◌∙◌, subst, arith, length-append}
use Rattle.std.specs.Prelude.{slice_index, slice_set, cond}
use Rattle.std.proofs.Math.Nat.{mod-eq_of_lt}
use mathlib.Core.Option.{none, some}
use lib.ListN.{get_elem?}
use Rattle.atomic_table.specs.Table.{State, Me, Step, keeps, takes, gives, Allows, stepped, Valid, Act, carried_after}
use Rattle.atomic_table.proofs.Lists.{at_set, set_here, set_else, set_again}
use Rattle.kn_cell.specs.declared.past.Past.{Past}
use Rattle.kn_cell.specs.declared.view.Key.{Key}
use Rattle.kn_cell.specs.declared.view.View.{View}
use Rattle.kn_cell.specs.State.{DeskState}
use Rattle.kn_cell.specs.Lists.{Each}
use Rattle.kn_cell.specs.History.{IsInBounds, IsLegal, rows_by}
use Rattle.kn_cell.specs.Views.{opening, weight, Knows, IsBounded, Passes, Takings}
use Rattle.kn_cell.specs.Rule.{GoesWith, GoesBack, IsResting, IsTaken, IsKept, Learns, last_row, with_turn, missed_one, gives_back, recorded, Takes, Records, Gives, Confirms, Rings}
use Rattle.kn_cell.proofs.ListFacts.{at_within, at_same, whole, two_weights}
use Rattle.kn_cell.proofs.HistoryFacts.{Knows-else, Each-one, legal-front}
use Rattle.kn_cell.proofs.PassMoves.{IsSamePass, passes_move}
use Rattle.kn_cell.proofs.TakenMoves.{takings_move, takings_same, taken_within, last_row-one}

-- what a step at the word i may do
abbrev May : Key → ℕ → Me DeskState View → ℕ → (ℕ → ℕ) → (ℕ → Me DeskState View → Type 0) → State DeskState View → Type 0
May key id me i f then s =
    (w : View) × (a : Act DeskState) × Valid s.homes me.1 a × IsKept key (stepped s i (f (slice_index s.words i)) id me.1 w a)
    × then (slice_index s.words i) (w, carried_after me.1 a)

-- a view that changes no right
same_pass : (v : View) (turn : Bool) (missed gone : ℕ) (seen mine : List Past) → v.spent ≡ false
    → IsSamePass v (record v { turn = turn; missed = missed; gone = gone; seen = seen; mine = mine })
same_pass v turn missed gone seen mine fresh = record { fresh = fresh; key_is = refl; number_is = refl; free_is = refl; back_is = refl; others_are = refl }

knows_whole : (log : List Past) (n : ℕ) (mine : List Past) → mine ≡ rows_by n log → Knows log n log mine
knows_whole log n mine e = record { front = whole log; own = e; whole = e }

learns_of : (key : Key) (log : List Past) (taken : ℕ) (views : List View) (id : ℕ) (v : View) (p : Passes key log views) (t : Takings key taken views)
    → get_elem? views id ≡ some v → v.spent ≡ false → taken ≤ length log → Learns v log taken
learns_of key log taken views id v p t me fresh most =
    let mine = p.each id v me fresh in
    let lasting = ap (λ (k : Key). k.lasting) mine.key_is in
    record {
      bounded = subst IsBounded (sym mine.key_is) p.bounded;
      legal = subst (λ k. IsLegal (opening k) log) (sym mine.key_is) p.legal;
      bounds = p.bounds;
      longer = mine.knows.front;
      others = λ k o at. (mine.joined k o at).front;
      own = mine.knows.whole;
      gone = t.gone id v me fresh;
      most = most;
      plain = λ no. t.plain (sym lasting ∙ no);
      scribe = λ is. let its = t.takes id v me fresh is in (its.1, lasting ∙ its.2);
    }

-- ---- the steps that take the turn: the word is never 0 after one

take_free : (key : Key) (id : ℕ) (v : View) (st : Step DeskState) (f : ℕ → ℕ) (s : State DeskState View) (k : IsKept key s)
    → ((n : ℕ) → f n ≢ 0) → get_elem? s.views id ≡ some v → v.spent ≡ false → k.turn ≡ 0 → IsResting key k.log k.taken s.homes s.views
    → May key id (v, []) 1 f (Takes st (v, [])) s
take_free key id v st f s k never me fresh zero_turn rest =
    let x = rest.value in
    let w = with_turn v k.log x.taken in
    let t : Takings key x.taken s.views = subst (λ n. Takings key n s.views) (sym rest.taken_is) k.takings in
    let within = taken_within key k.log x rest.goes in
    let most : x.taken ≤ length k.log = omega arith in
    let least : x.taken ≤ x.taken = omega arith in
    let mine = k.passes.each id v me fresh in
    let moved : Passes key k.log (slice_set s.views id w) =
    passes_move key k.log k.log s.views id v w k.passes me fresh (same_pass v true v.missed x.taken k.log v.mine fresh) k.passes.legal k.passes.rows k.passes.bounds
    (knows_whole k.log v.number v.mine mine.knows.whole) (λ n seen mine' ne q. q) in
    let only : (j : ℕ) (u : View) → get_elem? (slice_set s.views id w) j ≡ some u → u.turn ≡ true → j ≡ id =
    (λ j u at has. elim (at_set s.views id j w u at) [
      | inl h ↦ h.0
      | inr h ↦ let not = rest.free j u h.1 in cc
    ]) in
    let found : slice_index s.words 1 ≡ 0 = ap (λ l. slice_index l 1) k.words ∙ zero_turn in (
      w,
      takes 0 x,
      ap (λ l. get_elem? l 0) rest.home,
      record {
        log = k.log;
        turn = f k.turn;
        bells = k.bells;
        words = ap (λ l. slice_set l 1 (f (slice_index l 1))) k.words;
        taken = x.taken;
        passes = moved;
        takings = takings_move key x.taken x.taken s.views id v w t me fresh refl least (λ _. refl) least t.plain (λ _. refl);
        phase = inr (
          never k.turn,
          record {
            out = ap (λ l. slice_set l 0 none) rest.home;
            who = id;
            holder = w;
            there = set_here s.views id w (at_within s.views id v me);
            has = refl;
            fresh = fresh;
            seen = refl;
            gone = refl;
            alone = only;
          },
        );
      },
      (
        (λ _. record {
          log = k.log;
          value = x;
          after = refl;
          goes = subst (λ q. GoesWith q k.log x) (sym mine.key_is) rest.goes;
          learns = learns_of key k.log x.taken s.views id v k.passes t me fresh most;
        }),
        (λ ne. absurd (ne found)),
      ),
    )

take_held : (key : Key) (id : ℕ) (v : View) (st : Step DeskState) (f : ℕ → ℕ) (s : State DeskState View) (k : IsKept key s)
    → ((n : ℕ) → f n ≢ 0) → get_elem? s.views id ≡ some v → v.spent ≡ false → v.turn ≡ false → k.turn ≢ 0 → IsTaken k.log k.taken s.homes s.views
    → May key id (v, []) 1 f (Takes st (v, [])) s
take_held key id v st f s k never me fresh idle has_turn held =
    let w = missed_one v in
    let mine = k.passes.each id v me fresh in
    let moved : Passes key k.log (slice_set s.views id w) =
    passes_move key k.log k.log s.views id v w k.passes me fresh (same_pass v v.turn (v.missed + 1) v.gone v.seen v.mine fresh) k.passes.legal k.passes.rows k.passes.bounds
    mine.knows (λ n seen mine' ne q. q) in
    let found : slice_index s.words 1 ≡ k.turn = ap (λ l. slice_index l 1) k.words in
    let apart : id ≢ held.who = (λ e. let is = at_same s.views id held.who v held.holder me held.there e in let t = held.has in let t' = ap (λ (x : View). x.turn) is in cc) in
    let two = two_weights weight s.views id held.who v held.holder me held.there apart in
    let a : weight v ≡ 1 + v.free + v.back = ap (λ b. cond b 0 (1 + v.free + v.back)) fresh in
    let b : weight held.holder ≡ 1 + held.holder.free + held.holder.back = ap (λ b. cond b 0 (1 + held.holder.free + held.holder.back)) held.fresh in
    let sum = k.passes.weights in
    let few : 1 + v.free + v.back < key.passes = omega arith in
    let still : IsTaken k.log k.taken s.homes (slice_set s.views id w) = still_taken w held apart refl idle in (
      w,
      keeps,
      tt,
      record {
        log = k.log;
        turn = f k.turn;
        bells = k.bells;
        taken = k.taken;
        words = ap (λ l. slice_set l 1 (f (slice_index l 1))) k.words;
        passes = moved;
        takings = takings_same key k.taken s.views id v w k.takings me fresh refl refl;
        phase = inr (never k.turn, still);
      },
      (
        (λ z. absurd (has_turn (sym found ∙ z))),
        (λ _. record { after = refl; others = subst (λ (q : Key). 1 + v.free + v.back < q.passes) (sym mine.key_is) few }),
      ),
    )
  where
    still_taken : (w : View) (held : IsTaken k.log k.taken s.homes s.views) → id ≢ held.who → w.turn ≡ v.turn → v.turn ≡ false → IsTaken k.log k.taken s.homes (slice_set s.views id w)
    still_taken w held apart same idle = record {
      out = held.out;
      who = held.who;
      holder = held.holder;
      there = set_else s.views id held.who w (λ e. apart (sym e)) ∙ held.there;
      has = held.has;
      fresh = held.fresh;
      seen = held.seen;
      gone = held.gone;
      alone = λ j u at has. elim (at_set s.views id j w u at) [
        | inl h ↦ let t : w.turn ≡ u.turn = ap (λ (x : View). x.turn) h.1 in cc
        | inr h ↦ held.alone j u h.1 has
      ];
    }

take_from : (key : Key) (slots id : ℕ) (v : View) (st : Step DeskState) (f : ℕ → ℕ) → ((n : ℕ) → f n ≢ 0) → v.turn ≡ false → v.spent ≡ false
    → Allows (IsKept key) slots id (v, []) 1 f (Takes st (v, []))
take_from key slots id v st f never idle fresh s k wide me _ =
    elim k.phase [
      | inl p ↦ take_free key id v st f s k never me fresh p.0 p.1
      | inr p ↦ take_held key id v st f s k never me fresh idle p.0 p.1
    ]

pub take_allows : (key : Key) (slots id : ℕ) (m : Me DeskState View) (st : Step DeskState) (f : ℕ → ℕ) → ((n : ℕ) → f n ≢ 0) → m.0.turn ≡ false → m.0.spent ≡ false → m.1 ≡ []
    → Allows (IsKept key) slots id m 1 f (Takes st m)
take_allows key slots id m st f never idle fresh none_held =
    subst (λ (c : List (ℕ × DeskState)). Allows (IsKept key) slots id (m.0, c) 1 f (Takes st (m.0, c)))
    (sym none_held) (take_from key slots id m.0 st f never idle fresh)

-- the value of the first slot
abbrev pub first_or : DeskState → List (ℕ × DeskState) → DeskState
first_or d [] = d
first_or d (x ∷ xs) = x.1

-- ---- the fetch_add of the count word

record_held : (key : Key) (id : ℕ) (v : View) (x : DeskState) (before : List Past) (row : Past) (st : Step DeskState) (s : State DeskState View) (k : IsKept key s)
    → get_elem? s.views id ≡ some v → v.turn ≡ true → v.spent ≡ false → length v.seen < 2 ^ 63
    → x.history ≡ before ++ row ∷ [] → row.pass ≡ v.number → IsInBounds row.event → IsLegal (opening v.key) (v.seen ++ row ∷ [])
    → IsTaken k.log k.taken s.homes s.views → k.turn ≢ 0
    → May key id (v, (0, x) ∷ []) 0 (λ n. (n + 1) % 2 ^ 64) (Records st (v, (0, x) ∷ [])) s
record_held key id v x before row st s k me turn fresh small added own bounds legal held has_turn =
    let next = v.seen ++ row ∷ [] in
    let w = recorded v next in
    let mine = k.passes.each id v me fresh in
    let here : id ≡ held.who = held.alone id v me turn in
    let all : v.seen ≡ k.log = ap (λ (u : View). u.seen) (at_same s.views id held.who v held.holder me held.there here) ∙ held.seen in
    let next_is : k.log ++ row ∷ [] ≡ next = ap (λ l. l ++ row ∷ []) (sym all) in
    let last : last_row x.history ≡ row ∷ [] = ap last_row added ∙ last_row-one before row in
    let len : length next ≡ length v.seen + 1 = length-append v.seen (row ∷ []) in
    let found : slice_index s.words 0 ≡ length v.seen = ap (λ l. slice_index l 0) k.words ∙ ap length (sym all) in
    let fits : length v.seen + 1 < 2 ^ 64 = omega arith in
    let counted : (slice_index s.words 0 + 1) % 2 ^ 64 ≡ length next =
    ap (λ n. (n + 1) % 2 ^ 64) found ∙ (mod-eq_of_lt fits ∙ sym len) in
    let legal' : IsLegal (opening key) next = subst (λ q. IsLegal (opening q) next) mine.key_is legal in
    let low : row.pass < k.passes.given = subst (λ n. n < k.passes.given) (sym own) mine.own.1 in
    let rows : Each (λ r. r.pass < k.passes.given) next = subst (λ l. Each (λ (r : Past). r.pass < k.passes.given) l) next_is
    (Each-one (λ r. r.pass < k.passes.given) k.log row k.passes.rows low) in
    let bounded : Each (λ r. IsInBounds r.event) next = subst (λ l. Each (λ (r : Past). IsInBounds r.event) l) next_is
    (Each-one (λ r. IsInBounds r.event) k.log row k.passes.bounds bounds) in
    let others : (n : ℕ) (seen mine' : List Past) → n ≢ v.number → Knows k.log n seen mine' → Knows next n seen mine' =
    (λ n seen mine' ne q. subst (λ l. Knows l n seen mine') next_is (Knows-else k.log row n seen mine' (λ e. ne (sym e ∙ own)) q)) in
    let moved : Passes key next (slice_set s.views id w) =
    passes_move key k.log next s.views id v w k.passes me fresh (same_pass v v.turn v.missed v.gone next (rows_by v.number next) fresh) legal' rows bounded
    (knows_whole next v.number (rows_by v.number next) refl) others in
    let only : (j : ℕ) (u : View) → get_elem? (slice_set s.views id w) j ≡ some u → u.turn ≡ true → j ≡ id =
    (λ j u at has. elim (at_set s.views id j w u at) [
      | inl h ↦ h.0
      | inr h ↦ held.alone j u h.1 has ∙ sym here
    ]) in (
      w,
      keeps,
      tt,
      record {
        log = next;
        turn = k.turn;
        bells = k.bells;
        taken = k.taken;
        words = ap (λ l. slice_set l 0 ((slice_index s.words 0 + 1) % 2 ^ 64)) k.words ∙ ap (λ n. n ∷ k.turn ∷ k.bells) counted;
        passes = moved;
        takings = takings_same key k.taken s.views id v w k.takings me fresh refl refl;
        phase = inr (
          has_turn,
          record {
            out = held.out;
            who = id;
            holder = w;
            there = set_here s.views id w (at_within s.views id v me);
            has = turn;
            fresh = fresh;
            seen = refl;
            gone = ap (λ (u : View). u.gone) (at_same s.views id held.who v held.holder me held.there here) ∙ held.gone;
            alone = only;
          },
        );
      },
      (λ y e.
          let is : x ≡ y = ap (first_or x) e in
          ap (λ (l : List Past). (recorded v (v.seen ++ l), (0, x) ∷ [])) (sym last ∙ ap (λ (z : DeskState). last_row z.history) is)),
    )

record_from : (key : Key) (slots id : ℕ) (v : View) (x : DeskState) (before : List Past) (row : Past) (st : Step DeskState)
    → v.turn ≡ true → v.spent ≡ false → length v.seen < 2 ^ 63 → x.history ≡ before ++ row ∷ [] → row.pass ≡ v.number → IsInBounds row.event → IsLegal (opening v.key) (v.seen ++ row ∷ [])
    → Allows (IsKept key) slots id (v, (0, x) ∷ []) 0 (λ n. (n + 1) % 2 ^ 64) (Records st (v, (0, x) ∷ []))
record_from key slots id v x before row st turn fresh small added own bounds legal s k wide me _ =
    elim k.phase [
      | inl p ↦ let not = p.1.free id v me in let no : true ≡ false = sym turn ∙ not in cc
      | inr p ↦ record_held key id v x before row st s k me turn fresh small added own bounds legal p.1 p.0
    ]

pub record_allows : (key : Key) (slots id : ℕ) (m : Me DeskState View) (x : DeskState) (before : List Past) (row : Past) (st : Step DeskState)
    → m.0.turn ≡ true → m.0.spent ≡ false → length m.0.seen < 2 ^ 63 → m.1 ≡ (0, x) ∷ [] → x.history ≡ before ++ row ∷ [] → row.pass ≡ m.0.number → IsInBounds row.event → IsLegal (opening m.0.key) (m.0.seen ++ row ∷ [])
    → Allows (IsKept key) slots id m 0 (λ n. (n + 1) % 2 ^ 64) (Records st m)
record_allows key slots id m x before row st turn fresh small slot added own bounds legal =
    subst (λ (c : List (ℕ × DeskState)). Allows (IsKept key) slots id (m.0, c) 0 (λ n. (n + 1) % 2 ^ 64) (Records st (m.0, c)))
    (sym slot) (record_from key slots id m.0 x before row st turn fresh small added own bounds legal)

-- ---- the swap of 0 into the turn word

give_held : (key : Key) (id : ℕ) (v : View) (x : DeskState) (st : Step DeskState) (s : State DeskState View) (k : IsKept key s)
    → get_elem? s.views id ≡ some v → v.turn ≡ true → v.spent ≡ false → GoesBack v x → IsTaken k.log k.taken s.homes s.views
    → May key id (v, (0, x) ∷ []) 1 (λ _. 0) (Gives st (v, (0, x) ∷ [])) s
give_held key id v x st s k me turn fresh back held =
    let w = gives_back v x.taken in
    let mine = k.passes.each id v me fresh in
    let here : id ≡ held.who = held.alone id v me turn in
    let all : v.seen ≡ k.log = ap (λ (u : View). u.seen) (at_same s.views id held.who v held.holder me held.there here) ∙ held.seen in
    let moved : Passes key k.log (slice_set s.views id w) =
    passes_move key k.log k.log s.views id v w k.passes me fresh (same_pass v false v.missed x.taken v.seen v.mine fresh) k.passes.legal k.passes.rows k.passes.bounds
    mine.knows (λ n seen mine' ne q. q) in
    let gone : v.gone ≡ k.taken = ap (λ (u : View). u.gone) (at_same s.views id held.who v held.holder me held.there here) ∙ held.gone in
    let goes : GoesWith key k.log x = subst (λ l. GoesWith key l x) all (subst (λ q. GoesWith q v.seen x) mine.key_is back.goes) in
    let least : x.taken ≤ x.taken = omega arith in
    let more : k.taken ≤ x.taken = let b = back.gone in omega arith in
    let none_has : (j : ℕ) (u : View) → get_elem? (slice_set s.views id w) j ≡ some u → u.turn ≡ false =
    (λ j u at. elim (at_set s.views id j w u at) [
      | inl h ↦ ap (λ (y : View). y.turn) (sym h.1)
      | inr h ↦ not_turn u.turn (λ has. h.0 (held.alone j u h.1 has ∙ sym here))
    ]) in (
      w,
      gives,
      tt,
      record {
        log = k.log;
        turn = 0;
        bells = k.bells;
        taken = x.taken;
        words = ap (λ l. slice_set l 1 0) k.words;
        passes = moved;
        takings = takings_move key k.taken x.taken s.views id v w k.takings me fresh refl least (λ _. refl) more goes.plain (λ no. back.same no ∙ gone);
        phase = inl (
          refl,
          record {
            value = x;
            home = ap (λ l. slice_set l 0 (some x)) held.out;
            goes = goes;
            taken_is = refl;
            free = none_has;
          },
        );
      },
      (λ y e. ap (λ (z : DeskState). (gives_back v z.taken, [])) (ap (first_or x) e)),
    )
  where
    not_turn : (b : Bool) → (b ≡ true → ⊥) → b ≡ false
    not_turn true h = absurd (h refl)
    not_turn false h = refl

give_from : (key : Key) (slots id : ℕ) (v : View) (x : DeskState) (st : Step DeskState) → v.turn ≡ true → v.spent ≡ false → GoesBack v x
    → Allows (IsKept key) slots id (v, (0, x) ∷ []) 1 (λ _. 0) (Gives st (v, (0, x) ∷ []))
give_from key slots id v x st turn fresh back s k wide me _ =
    elim k.phase [
      | inl p ↦ let not = p.1.free id v me in let no : true ≡ false = sym turn ∙ not in cc
      | inr p ↦ give_held key id v x st s k me turn fresh back p.1
    ]

pub give_allows : (key : Key) (slots id : ℕ) (m : Me DeskState View) (x : DeskState) (st : Step DeskState) → m.0.turn ≡ true → m.0.spent ≡ false
    → m.1 ≡ (0, x) ∷ [] → GoesBack m.0 x → Allows (IsKept key) slots id m 1 (λ _. 0) (Gives st m)
give_allows key slots id m x st turn fresh slot back =
    subst (λ (c : List (ℕ × DeskState)). Allows (IsKept key) slots id (m.0, c) 1 (λ _. 0) (Gives st (m.0, c)))
    (sym slot) (give_from key slots id m.0 x st turn fresh back)

-- ---- the fetch_add of a bell, a word of which the rule says nothing

pub ring_allows : (key : Key) (slots id bell : ℕ) (m : Me DeskState View) (st : Step DeskState) → Allows (IsKept key) slots id m (suc (suc bell)) (λ n. (n + 1) % 2 ^ 64) (Rings st m)
ring_allows key slots id bell m st s k wide me _ =
    let same = sym (set_again s.views id m.0 me) in (
      m.0,
      keeps,
      tt,
      record {
        log = k.log;
        turn = k.turn;
        taken = k.taken;
        bells = slice_set k.bells bell ((slice_index k.bells bell + 1) % 2 ^ 64);
        words = ap (λ l. slice_set l (suc (suc bell)) ((slice_index l (suc (suc bell)) + 1) % 2 ^ 64)) k.words;
        passes = subst (λ vs. Passes key k.log vs) same k.passes;
        takings = subst (λ vs. Takings key k.taken vs) same k.takings;
        phase = subst (λ vs. ((k.turn ≡ 0) × IsResting key k.log k.taken s.homes vs) ⊎ ((k.turn ≢ 0) × IsTaken k.log k.taken s.homes vs)) same k.phase;
      },
      refl,
    )

-- ---- a load

pub confirm_allows : (key : Key) (slots id : ℕ) (m : Me DeskState View) (st : Step DeskState) → m.0.spent ≡ false
    → Allows (IsKept key) slots id m 0 (λ n. n) (Confirms st m)
confirm_allows key slots id m st fresh s k wide me _ =
    let v = m.0 in
    let mine = k.passes.each id v me fresh in
    let same = sym (set_again s.views id v me) in (
      v,
      keeps,
      tt,
      record {
        log = k.log;
        turn = k.turn;
        bells = k.bells;
        taken = k.taken;
        words = ap (λ l. slice_set l 0 (slice_index l 0)) k.words;
        passes = subst (λ vs. Passes key k.log vs) same k.passes;
        takings = subst (λ vs. Takings key k.taken vs) same k.takings;
        phase = subst (λ vs. ((k.turn ≡ 0) × IsResting key k.log k.taken s.homes vs) ⊎ ((k.turn ≢ 0) × IsTaken k.log k.taken s.homes vs)) same k.phase;
      },
      (
        refl,
        record {
          legal = legal-front (opening v.key) k.log v.seen (subst (λ q. IsLegal (opening q) k.log) (sym mine.key_is) k.passes.legal) mine.knows.front;
          own = mine.knows.own;
          others = λ i o at. (mine.joined i o at).own;
        },
      ),
    )
