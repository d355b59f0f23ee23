-- A line that is the first one of a setup has no control codes.
use Rattle.std.proofs.Common.{◌≡◌, ◌+◌, ℕ, Bool, true, false, List, [], ◌∷◌, ◌++◌, length, drop, refl, sym, ◌∙◌, subst}
use Rattle.std.specs.Prelude.{Option, None, Some, Result, Ok, Err, codes, nat_eq, if◌then◌else◌}
use Rattle.std.specs.List.{join_with_byte, list_all, starts_with}
use Rattle.std.specs.Str.{bytes_eq}
use Rattle.std.proofs.lemmas.Bool.Decides.{Decides-eqb}
use Rattle.std.proofs.lemmas.List.Folds.{list_all-append}
use Rattle.std.proofs.lemmas.List.Splits.{join_with_byte-slice_split}
use Rattle.std.proofs.lemmas.Slice.Eq.{starts_is}
use Rattle.kn_event.specs.EventLine.{is_printable}
use Rattle.kn_event.specs.Fields.{fields}
use Rattle.kn_event.specs.Numbers.{number_of}
use Rattle.kn_preamble.specs.declared.error.SetupError.{SetupError}
use Rattle.kn_preamble.specs.declared.error.SetupError.TheVariants.{BadWord}
use Rattle.kn_preamble.specs.declared.setting.Placed.{Placed}
use Rattle.kn_preamble.specs.declared.setting.Setting.{Setting}
use Rattle.kn_preamble.specs.declared.setting.Setting.TheVariants.{Limit, Depth, Max, Pods, Timeout, Seed}
use Rattle.kn_preamble.specs.declared.setting.SetupLine.{SetupLine}
use Rattle.kn_preamble.specs.SetupLine.{fixed_from, fixed_settings, in_ranges, kpa_from, kpa_settings, numbers_due, placed_due, placed_or, setting_number, setting_text, setup_line, setup_line_of_fields, with_placed}
use Rattle.kn_journal.proofs.Consumed.{same_bytes}
use Rattle.kn_journal.proofs.Printed.{digits-printable, numeral-digits}

abbrev ArePrintable : List (List ℕ) → Type 0
ArePrintable [] = Unit {0}
ArePrintable (l ∷ ls) = (list_all is_printable l ≡ true) × ArePrintable ls

both : (xs ys : List ℕ) → list_all is_printable xs ≡ true → list_all is_printable ys ≡ true → list_all is_printable (xs ++ ys) ≡ true
both xs ys p q = list_all-append is_printable xs ys ∙ rw (p, q) refl

joined : (ls : List (List ℕ)) → ArePrintable ls → list_all is_printable (join_with_byte 32 ls) ≡ true
joined [] h = refl
joined (l ∷ []) h = h.0
joined (l ∷ m ∷ ms) h = both l (32 ∷ join_with_byte 32 (m ∷ ms)) h.0 (joined (m ∷ ms) h.1)

name-printable : (setting : Setting) → list_all is_printable (setting_text setting) ≡ true
name-printable Limit = refl
name-printable Depth = refl
name-printable Max = refl
name-printable Pods = refl
name-printable Timeout = refl
name-printable Seed = refl

number-printable : (setting : Setting) (field : List ℕ) (n : ℕ) → setting_number setting field ≡ Some n → list_all is_printable field ≡ true
unfolding setting_number
number-printable setting field n h = by_test (starts_with nat_eq field (setting_text setting)) refl h
  where
    by_test : (b : Bool) → starts_with nat_eq field (setting_text setting) ≡ b
        → (if b then number_of (drop (length (setting_text setting)) field) else None) ≡ Some n → list_all is_printable field ≡ true
    by_test true e g =
        let split : field ≡ setting_text setting ++ drop (length (setting_text setting)) field = (starts_is Decides-eqb field (setting_text setting) true (sym e)).0 refl in
        rw split (both (setting_text setting) (drop (length (setting_text setting)) field) (name-printable setting) (digits-printable (drop (length (setting_text setting)) field) (numeral-digits (drop (length (setting_text setting)) field) n g)))
    by_test false e g = cc

with_placed-ok : (p : Placed) (r : Result (List Placed) SetupError) (ps : List Placed) → with_placed p r ≡ Ok ps → (more : List Placed) × (r ≡ Ok more)
with_placed-ok p (Ok more) ps h = (more, refl)
with_placed-ok p (Err why) ps h = cc

placed-printable : (at : ℕ) (settings : List Setting) (fs : List (List ℕ)) (ps : List Placed) → placed_due at settings fs ≡ Ok ps → ArePrintable fs
placed-printable at [] [] ps h = tt
placed-printable at [] (field ∷ more) ps h = cc
placed-printable at (setting ∷ settings) [] ps h = cc
placed-printable at (setting ∷ settings) (field ∷ more) ps h = by_number (setting_number setting field) refl (placed-printable (at + 1 + length field) settings more) h
  where
    by_number : (o : Option ℕ) → setting_number setting field ≡ o → ((rest : List Placed) → placed_due (at + 1 + length field) settings more ≡ Ok rest → ArePrintable more)
        → placed_or (at + 1) o (placed_due (at + 1 + length field) settings more) ≡ Ok ps → ArePrintable (field ∷ more)
    by_number None e later g = cc
    by_number (Some n) e later g =
        let rest = with_placed-ok _ (placed_due (at + 1 + length field) settings more) ps g in
        (number-printable setting field n e, later rest.0 rest.1)

in_ranges-ok : (settings : List Setting) (r : Result (List Placed) SetupError) (ns : List ℕ) → in_ranges settings r ≡ Ok ns → (ps : List Placed) × (r ≡ Ok ps)
in_ranges-ok settings (Ok ps) ns h = (ps, refl)
in_ranges-ok settings (Err why) ns h = cc

numbers-printable : (at : ℕ) (settings : List Setting) (fs : List (List ℕ)) (ns : List ℕ) → numbers_due at settings fs ≡ Ok ns → ArePrintable fs
numbers-printable at settings fs ns h =
    let placed = in_ranges-ok settings (placed_due at settings fs) ns h in
    placed-printable at settings fs placed.0 placed.1

fixed-ok : (r : Result (List ℕ) SetupError) (said : SetupLine) → fixed_from r ≡ Ok said → (ns : List ℕ) × (r ≡ Ok ns)
fixed-ok (Ok ns) said h = (ns, refl)
fixed-ok (Err why) said h = cc

kpa-ok : (r : Result (List ℕ) SetupError) (said : SetupLine) → kpa_from r ≡ Ok said → (ns : List ℕ) × (r ≡ Ok ns)
kpa-ok (Ok ns) said h = (ns, refl)
kpa-ok (Err why) said h = cc

fields-printable : (fs : List (List ℕ)) (said : SetupLine) → setup_line_of_fields fs ≡ Ok said → ArePrintable fs
fields-printable [] said h = cc
fields-printable (word ∷ more) said h = by_tests (bytes_eq word (codes "fixed")) (bytes_eq word (codes "kpa")) refl refl h
  where
    word-printable : (text : List ℕ) → bytes_eq word text ≡ true → list_all is_printable text ≡ true → list_all is_printable word ≡ true
    word-printable text e is = rw (same_bytes word text e) is

    by_tests : (p q : Bool) → bytes_eq word (codes "fixed") ≡ p → bytes_eq word (codes "kpa") ≡ q
        → (if p then fixed_from (numbers_due (length word) fixed_settings more) else (if q then kpa_from (numbers_due (length word) kpa_settings more) else Err BadWord)) ≡ Ok said
        → ArePrintable (word ∷ more)
    by_tests true q e f g =
        let numbers = fixed-ok (numbers_due (length word) fixed_settings more) said g in
        (word-printable (codes "fixed") e refl, numbers-printable (length word) fixed_settings more numbers.0 numbers.1)
    by_tests false true e f g =
        let numbers = kpa-ok (numbers_due (length word) kpa_settings more) said g in
        (word-printable (codes "kpa") f refl, numbers-printable (length word) kpa_settings more numbers.0 numbers.1)
    by_tests false false e f g = cc

pub setup_line-printable : (line : List ℕ) (said : SetupLine) → setup_line line ≡ Ok said → list_all is_printable line ≡ true
unfolding setup_line fields
setup_line-printable line said h =
    subst (λ (x : List ℕ). list_all is_printable x ≡ true) (join_with_byte-slice_split 32 line) (joined (fields line) (fields-printable (fields line) said h))
