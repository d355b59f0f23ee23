-- The rule holds of a new table.
use Rattle.std.proofs.Common.{◌≡◌, ◌≤◌, inl, List, ℕ, suc, zero, [], ◌∷◌, true, false, refl, sym, subst, arith}
use mathlib.Core.Option.{some, some-injective, some-ne-none}
use lib.ListN.{get_elem?}
use Rattle.atomic_table.specs.Table.{opening as first_state}
use Rattle.kn_cell.specs.declared.view.Key.{Key}
use Rattle.kn_cell.specs.declared.view.View.{View}
use Rattle.kn_cell.specs.State.{DeskState}
use Rattle.kn_cell.specs.Views.{opening, IsBounded, IsPass}
use Rattle.kn_cell.specs.Rule.{GoesWith, IsKept, first_view}
use Rattle.kn_cell.proofs.ListFacts.{whole}
use Rattle.kn_cell.proofs.HistoryFacts.{legal-none}

first_alone : (P : ℕ → View → Type 0) (w : View) → P 0 w → (id : ℕ) (v : View) → get_elem? (w ∷ []) id ≡ some v → P id v
first_alone P w p zero v at = subst (P 0) (some-injective w v at) p
first_alone P w p (suc id) v at = absurd (some-ne-none v (sym at))

pub opens : (key : Key) (x : DeskState) (bells : List ℕ) → IsBounded key → GoesWith key [] x → x.taken ≡ 0 → IsKept key (first_state (0 ∷ 0 ∷ bells) (x ∷ []) (first_view key))
opens key x bells bounded goes none =
    let w = first_view key in
    let owner : ℕ → ℕ = (λ _. 0) in
    let passes = bounded.passes in
    let low : 0 ≤ 0 = omega arith in
    let first : IsPass key [] 1 0 owner 0 w = record {
      key_is = refl;
      knows = record { front = whole []; own = refl; whole = refl };
      joined = λ k o at. absurd (some-ne-none o (sym at));
      own = (refl, omega arith);
      theirs = λ k o at. absurd (some-ne-none o (sym at));
      free = λ _. (refl, omega arith);
    } in
    record {
      log = [];
      turn = 0;
      bells = bells;
      taken = 0;
      words = refl;
      passes = record {
        given = 1;
        root = 0;
        owner = owner;
        bounded = bounded;
        legal = legal-none (opening key);
        weights = omega arith;
        each = λ id v at fresh. first_alone (λ i u. IsPass key [] 1 0 owner i u) w first id v at;
        rows = λ k r at. absurd (some-ne-none r (sym at));
        bounds = λ k r at. absurd (some-ne-none r (sym at));
        holders = λ n low. record { view = w; there = refl; fresh = refl; has = inl (omega arith) };
      };
      takings = record {
        scribe = 0;
        plain = λ _. refl;
        gone = λ id v at fresh. first_alone (λ _ u. u.gone ≤ 0) w low id v at;
        takes = λ id v at fresh. first_alone (λ i u. u.scribe ≡ true → (i ≡ 0) × (u.gone ≡ 0) × (key.lasting ≡ true)) w (λ is. (refl, refl, is)) id v at;
      };
      phase = inl (refl, record { value = x; home = refl; goes = goes; taken_is = none; free = first_alone (λ i u. u.turn ≡ false) w refl });
    }
