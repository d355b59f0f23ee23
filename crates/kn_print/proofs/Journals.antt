-- Journals one after the other.
use Rattle.std.proofs.Common.{◌≡◌, ◌<◌, ◌+◌, ℕ, List, [], ◌∷◌, ◌++◌, length, take, drop, get_or, append_assoc, append-nil, sym, ap, ◌∙◌, subst, arith, inl, inr}
use Rattle.std.specs.Prelude.{All, slice_index_or}
use Rattle.std.specs.Prelude.{Option, ◌≤◌}
use Rattle.std.proofs.lemmas.Bool.Decides.{eqb_tells}
use Rattle.std.proofs.lemmas.Grind.{flat_map-append}
use Rattle.std.proofs.lemmas.List.{get_or_default, take_all, take_more, take-append-drop}
use Rattle.std.proofs.lemmas.Simd.{get_or-zip2, length-zip2}
use Rattle.kn_cell.specs.declared.past.Past.{Past}
use Rattle.kn_io.specs.Prefix.{AppendsPrefix}
use Rattle.kn_journal.specs.declared.journal.Journal.{Journal}
use Rattle.kn_journal.specs.declared.journal.Setup.{Setup}
use Rattle.kn_journal.specs.Journal.{journal_text}
use Rattle.kn_print.specs.Printed.{HasSmall, journals_text, printed_journal, printed_journals, printed}
use Rattle.kn_report.specs.AddingLaws.{AddingLaws}
use Rattle.kn_report.specs.Waiting.{Adds}

-- the journals up to one, and that one
pub journals-more : (js : List Journal) (i : ℕ) (j : Journal) → i < length js → j ≡ get_or js i j
    → journals_text (take (i + 1) js) ≡ journals_text (take i js) ++ journal_text j
journals-more js i j h is =
    ap journals_text (take_more js i j h) ∙ flat_map-append journal_text (take i js) (get_or js i j ∷ [])
    ∙ ap (λ (m : List ℕ). journals_text (take i js) ++ m) (append-nil (journal_text (get_or js i j)) ∙ ap journal_text (sym is))

-- .. and the others
pub journals-around : (js : List Journal) (i : ℕ) (j : Journal) → i < length js → j ≡ get_or js i j
    → journals_text js ≡ journals_text (take i js) ++ (journal_text j ++ journals_text (drop (i + 1) js))
journals-around js i j h is =
    ap journals_text (sym (take-append-drop (i + 1) js)) ∙ flat_map-append journal_text (take (i + 1) js) (drop (i + 1) js)
    ∙ ap (λ (m : List ℕ). m ++ journals_text (drop (i + 1) js)) (journals-more js i j h is)
    ∙ append_assoc (journals_text (take i js)) (journal_text j) (journals_text (drop (i + 1) js))

-- one of the printed ones
pub printed-at : (setups : List Setup) (start : ℕ) (hs : List (List Past)) (i : ℕ) (s : Setup) (h : List Past) (d : Journal) → i < length setups → length hs ≡ length setups
    → s ≡ get_or setups i s → h ≡ get_or hs i h → printed_journal s start h ≡ get_or (printed_journals setups start hs) i d
printed-at setups start hs i s h d low same is_s is_h =
    let low' : i < length hs = omega (arith, same, low) in
    ap (λ (x : Setup). printed_journal x start h) is_s ∙ ap (λ (x : List Past). printed_journal (get_or setups i s) start x) is_h
    ∙ sym (get_or-zip2 (λ (x : Setup) (y : List Past). printed_journal x start y) setups hs i s h d low low')

pub printed-many : (setups : List Setup) (start : ℕ) (hs : List (List Past)) → length hs ≡ length setups → length (printed_journals setups start hs) ≡ length setups
printed-many setups start hs same = length-zip2 (λ (x : Setup) (y : List Past). printed_journal x start y) setups hs (sym same)

-- one journal more was added
pub added_more : AddingLaws → (a b c : Option (List ℕ)) (p q r : List ℕ) (setups : List Setup) (start : ℕ) (hs : List (List Past)) (i : ℕ) (s : Setup) (h : List Past) → i < length setups → length hs ≡ length setups
    → s ≡ get_or setups i s → h ≡ get_or hs i h → Adds a b p q (journals_text (take i (printed_journals setups start hs))) → Adds b c q r (printed s start h)
    → Adds a c p r (journals_text (take (i + 1) (printed_journals setups start hs)))
added_more laws a b c p q r setups start hs i s h low same is_s is_h before here =
    let js = printed_journals setups start hs in
    let j = printed_journal s start h in
    let low' : i < length js = omega (arith, printed-many setups start hs same, low) in
    laws.more before here (sym (journals-more js i j low' (printed-at setups start hs i s h j low same is_s is_h)))

-- .. or some of it was written
pub added_some : AddingLaws → (a b c : Option (List ℕ)) (p q : List ℕ) (setups : List Setup) (start : ℕ) (hs : List (List Past)) (i : ℕ) (s : Setup) (h : List Past) → i < length setups → length hs ≡ length setups
    → s ≡ get_or setups i s → h ≡ get_or hs i h → Adds a b p q (journals_text (take i (printed_journals setups start hs))) → AppendsPrefix b c (q ++ printed s start h)
    → AppendsPrefix a c (p ++ journals_text (printed_journals setups start hs))
added_some laws a b c p q setups start hs i s h low same is_s is_h before here =
    let js = printed_journals setups start hs in
    let j = printed_journal s start h in
    let low' : i < length js = omega (arith, printed-many setups start hs same, low) in
    subst (λ (z : List ℕ). AppendsPrefix a c (p ++ z)) (sym (journals-around js i j low' (printed-at setups start hs i s h j low same is_s is_h)))
    (laws.some c (journal_text j) (journals_text (drop (i + 1) js)) before here)

-- .. all
pub added_all : (a b : Option (List ℕ)) (p q : List ℕ) (setups : List Setup) (start : ℕ) (hs : List (List Past)) (i : ℕ) → length setups ≤ i → length hs ≡ length setups
    → Adds a b p q (journals_text (take i (printed_journals setups start hs))) → Adds a b p q (journals_text (printed_journals setups start hs))
added_all a b p q setups start hs i most same h =
    let js = printed_journals setups start hs in
    let all : length js ≤ i = omega (arith, printed-many setups start hs same, most) in
    subst (λ (l : List Journal). Adds a b p q (journals_text l)) (take_all i js all) h

-- the numbers of the histories up to one, and of that one
pub small_upto : (hs : List (List Past)) (i : ℕ) (h : List Past) → i < length hs → h ≡ get_or hs i h → ((k : ℕ) (d : List Past) → k < i → All (λ (p : Past). HasSmall p.event.act) (slice_index_or hs k d))
    → All (λ (p : Past). HasSmall p.event.act) h → (k : ℕ) (d : List Past) → k < i + 1 → All (λ (p : Past). HasSmall p.event.act) (slice_index_or hs k d)
small_upto hs i h within is before here k d low = elim (eqb_tells k i) [
  | inl e ↦
      let same : h ≡ get_or hs k d = is ∙ get_or_default hs i h d within ∙ ap (λ (n : ℕ). get_or hs n d) (sym e.1) in
      subst (λ (x : List Past). All (λ (p : Past). HasSmall p.event.act) x) same here
  | inr e ↦
      let small : k < i = (let ne = e.1 in omega arith) in
      before k d small
]
