-- What stands before the events is read by itself.
use Rattle.std.proofs.Common.{◌≡◌, ◌+◌, ℕ, Bool, true, false, List, [], ◌∷◌, ◌++◌, length, length-append, refl, sym, ap, ◌∙◌, arith}
use Rattle.std.specs.Prelude.{Result, Ok, Err, nat_le, if◌then◌else◌}
use Rattle.kn_event.specs.declared.fault.LineError.{LineError}
use Rattle.kn_preamble.specs.declared.first.FirstLine.TheVariants.{Journal as JournalLine}
use Rattle.kn_journal.specs.declared.journal.Opening.{Opening}
use Rattle.kn_journal.specs.declared.journal.Setup.{Setup}
use Rattle.kn_journal.specs.Causes.{Cause, time_too_large}
use Rattle.kn_journal.specs.Journal.{first_part, opening_part, start_in, start_line_in, start_of, start_part, time_most}
use Rattle.kn_journal.specs.Parts.{IsWhole, Part, part}
use Rattle.kn_journal.specs.Setup.{setup_part}
use Rattle.kn_journal.proofs.Consumed.{IsOneLine, Takes, line-takes, ok_part-same, part-left, setup-takes, then-takes, then_part-ok, with_line-ok}
use Rattle.kn_journal.proofs.Setups.{first-own, opened, setup_behind}

takes-whole : {T : Type 0} (m : ℕ) (read : List (List ℕ) → Result (Part T) Cause) (ls : List (List ℕ)) (x : T) (n : ℕ) (left own : List (List ℕ)) → m + length own ≡ n → Takes read ls (part x n left) own
    → IsWhole m read ls x n left
takes-whole m read ls x n left own k h = record { own = own; split = h.split; count = k; alone = h.alone }

-- the setup, and the version with it
behind-takes : (version n : ℕ) (ls : List (List ℕ)) (s : Part Setup) (q : Part Opening) (own : List (List ℕ)) → Takes (setup_part n) ls s own → opened version s.value s.number s.left ≡ Ok q
    → (s.number ≡ q.number) × Takes (setup_behind version n) ls q own
behind-takes version n ls s q own h g =
    let made : Opening = record { version = version; setup = s.value } in
    let parts = part-left made s.number s.left q (Ok q) refl (sym g) in (
      parts.2,
      record {
        split = h.split ∙ ap (λ (x : List (List ℕ)). own ++ x) parts.0;
        alone = λ later. rw (h.alone later) (ok_part-same made q.value s.number q.number later parts.1 parts.2);
      },
    )

opening-takes : (ls : List (List ℕ)) (q : Part Opening) → opening_part JournalLine 0 ls ≡ Ok q → (own : List (List ℕ)) × (0 + length own ≡ q.number) × Takes (opening_part JournalLine 0) ls q own
unfolding opening_part
opening-takes ls q h =
    let first = then_part-ok (first_part JournalLine 0 ls) setup_behind q h in
    let p = first.0 in
    let one = first-own JournalLine 0 ls p first.1 in
    let second = then_part-ok (setup_part p.number p.left) (opened p.value) q first.2 in
    let s = second.0 in
    let two = setup-takes p.number p.left s second.1 in
    let own = two.line ∷ two.more in
    let behind = behind-takes p.value p.number p.left s q own two.takes second.2 in (
      one.0 ++ own,
      omega (arith, one.1, two.count, behind.0, length-append one.0 own),
      then-takes (first_part JournalLine 0) setup_behind ls p q one.0 own one.2 behind.1,
    )

pub opening-whole : (ls left : List (List ℕ)) (o : Opening) (n : ℕ) → opening_part JournalLine 0 ls ≡ Ok (part o n left) → IsWhole 0 (opening_part JournalLine 0) ls o n left
opening-whole ls left o n h =
    let taken = opening-takes ls (part o n left) h in
    takes-whole 0 (opening_part JournalLine 0) ls o n left taken.0 taken.1 taken.2

pub setup-whole : (m : ℕ) (ls left : List (List ℕ)) (s : Setup) (n : ℕ) → setup_part m ls ≡ Ok (part s n left) → IsWhole m (setup_part m) ls s n left
setup-whole m ls left s n h =
    let two = setup-takes m ls (part s n left) h in
    takes-whole m (setup_part m) ls s n left (two.line ∷ two.more) two.count two.takes

-- ---- the start

start-one : (number : ℕ) (line : List ℕ) (left : List (List ℕ)) (p : Part ℕ) → start_line_in number line left ≡ Ok p → IsOneLine start_line_in number line p left
start-one number line left p h = by_time (start_of line) refl h
  where
    by_time : (r : Result ℕ LineError) → start_of line ≡ r → start_in number left r ≡ Ok p → IsOneLine start_line_in number line p left
    by_time (Err why) e g = cc
    by_time (Ok time) e g = by_test (nat_le time time_most) refl g
      where
        by_test : (t : Bool) → nat_le time time_most ≡ t → (if t then Ok (part time number left) else Err (time_too_large number)) ≡ Ok p → IsOneLine start_line_in number line p left
        by_test true f k =
            let made : Part ℕ = part time number left in
            let parts = part-left time number left p (Ok made) k refl in
            record { count = parts.2; all = sym parts.0; any = λ later. rw (e, f) (ok_part-same time p.value number p.number later parts.1 parts.2) }
        by_test false f k = cc

pub start-whole : (m : ℕ) (ls left : List (List ℕ)) (time n : ℕ) → start_part m ls ≡ Ok (part time n left) → IsWhole m (start_part m) ls time n left
unfolding start_part
start-whole m ls left time n h =
    let has = with_line-ok m ls start_line_in (part time n left) h in
    let one = start-one (m + 1) has.line has.more (part time n left) has.rest in
    takes-whole m (start_part m) ls time n left (has.line ∷ []) (omega (arith, one.count)) (line-takes m ls start_line_in (part time n left) has one)
