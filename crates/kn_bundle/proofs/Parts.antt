-- Parts of a journal in a bundle that are read by themselves, whatever follows them.
use Rattle.std.proofs.Common.{◌≡◌, ℕ, true, List, ◌++◌, refl, sym, ap, ◌∙◌}
use Rattle.std.specs.Prelude.{Result, Ok, Err}
use Rattle.kn_journal.specs.declared.journal.Opening.{Opening}
use Rattle.kn_journal.specs.declared.journal.Setup.{Setup}
use Rattle.kn_journal.specs.Bundle.{opening_by}
use Rattle.kn_journal.specs.Causes.{Cause}
use Rattle.kn_journal.specs.Journal.{opening_in, start_part}
use Rattle.kn_journal.specs.Parts.{IsWhole, Part, part, then_part}
use Rattle.kn_journal.specs.Setup.{setup_part}

-- a setup is read by itself, and so is a start
abbrev pub AreSetups : Type 0
AreSetups = (m : ℕ) (ls left : List (List ℕ)) (s : Setup) (n : ℕ) → setup_part m ls ≡ Ok (part s n left) → IsWhole m (setup_part m) ls s n left

abbrev pub AreStarts : Type 0
AreStarts = (m : ℕ) (ls left : List (List ℕ)) (time n : ℕ) → start_part m ls ≡ Ok (part time n left) → IsWhole m (start_part m) ls time n left

pub record IsSamePart {T : Type 0} (value : T) (number : ℕ) (left : List (List ℕ)) (x : T) (m : ℕ) (more : List (List ℕ)) : Type 0 where
  pub values : value ≡ x
  pub numbers : number ≡ m
  pub lefts : left ≡ more

pub same_part : {T : Type 0} (value x : T) (number m : ℕ) (left more : List (List ℕ)) (r : Result (Part T) Cause) → r ≡ Ok (part value number left) → r ≡ Ok (part x m more)
    → IsSamePart value number left x m more
same_part {T} value x number m left more r h k =
    let one : Part T = part value number left in
    let other : Part T = part x m more in
    let both : Result (Part T) Cause = Ok one in
    let g : both ≡ Ok other = sym h ∙ k in
    let same : one ≡ other = cc in
    record { values = ap (λ (p : Part T). p.value) same; numbers = ap (λ (p : Part T). p.number) same; lefts = ap (λ (p : Part T). p.left) same }

-- so is a setup behind a first line
pub opening-whole : AreSetups → (version n : ℕ) (ls left : List (List ℕ)) (o : Opening) (at : ℕ) → opening_by true version n ls ≡ Ok (part o at left)
    → IsWhole n (opening_by true version n) ls o at left
opening-whole are version n ls left o at h = by_setup (setup_part n ls) refl h
  where
    by_setup : (r : Result (Part Setup) Cause) → setup_part n ls ≡ r → then_part r (λ setup n left. opening_in version n left setup) ≡ Ok (part o at left)
        → IsWhole n (opening_by true version n) ls o at left
    by_setup (Err cause) e g = cc
    by_setup (Ok p) e g =
        let made : Opening = record { version = version; setup = p.value } in
        let parts = same_part made o p.number at p.left left (Ok (part made p.number p.left)) refl g in
        let w = are n ls p.left p.value p.number e in
        record {
          own = w.own;
          split = w.split ∙ ap (λ (x : List (List ℕ)). w.own ++ x) parts.lefts;
          count = w.count ∙ parts.numbers;
          alone = λ later. rw (w.alone later) (rw (parts.values, parts.numbers) refl);
        }
