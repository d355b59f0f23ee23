-- A journal's text is read as that journal.
use Rattle.std.proofs.Common.{◌≡◌, ◌+◌, ◌^◌, ◌<◌, ◌≤◌, ℕ, Bool, true, false, List, [], ◌∷◌, ◌++◌, length, append_assoc, append-nil, refl, sym, ap, ◌∙◌, subst, arith, lit<, inl, inr, zero, suc}
use Rattle.std.specs.Prelude.{None, Some, Ok, codes, ◌⊎◌, nat_le, ◌&&◌}
use Rattle.std.specs.Fmt.{decimal}
use Rattle.std.specs.List.{list_all, All}
use Rattle.std.specs.Str.{bytes_eq}
use Rattle.std.specs.Bool.{then_some}
use Rattle.std.proofs.lemmas.Fmt.{decimal_digit, length-decimal-le}
use Rattle.std.proofs.lemmas.Grind.{common_steps}
use Rattle.std.proofs.lemmas.List.Splits.{slice_split_none}
use Rattle.kn_event.specs.declared.event.Event.{Event}
use Rattle.kn_event.specs.EventLine.{event_of, event_text, IsInJournalRange, IsInVersion, is_printable, Spells}
use Rattle.kn_event.specs.Fields.{fields, is_space}
use Rattle.kn_event.specs.Numbers.{is_digit, is_numeral, has_no_leading_zero, number_of}
use Rattle.kn_preamble.specs.declared.first.FirstLine.TheVariants.{Journal as JournalLine}
use Rattle.kn_preamble.specs.First.{first_line, version_of}
use Rattle.kn_journal.specs.declared.journal.Setup.{Setup}
use Rattle.kn_journal.specs.declared.journal.Journal.{Journal}
use Rattle.kn_journal.specs.Lines.{fits, lines, lines_at_lf, without_crs}
use Rattle.kn_journal.specs.Parts.{part}
use Rattle.kn_journal.specs.Setup.{setup_part}
use Rattle.kn_journal.specs.Journal.{AreEvents, IsJournal, IsSetup, good, events_text, first_in, first_part, in_time, journal_text, next_in, next_part, read_events, start_line_in, start_of, start_part, time_most, opening_part, verdict, verdict_of_lines}
use Rattle.kn_journal.specs.Series.{with_event}
use Rattle.kn_journal.proofs.LineTexts.{lines-append, lines-printable, text-ends}
use Rattle.kn_journal.proofs.Consumed.{same_bytes, setup-takes, with_line-fits}

-- what kn_event says of spellings
pub record AreSpelled : Type 0 where
  pub number : (bytes : List ℕ) (n : ℕ) → number_of bytes ≡ Some n → (bytes ≡ decimal n) × (n < 2 ^ 64)
  pub decimal : (n : ℕ) → n < 2 ^ 64 → number_of (decimal n) ≡ Some n
  pub event : (version : ℕ) (line : List ℕ) (e : Event) → event_of version line ≡ Ok e → Spells version line e
  pub text : (version : ℕ) (line : List ℕ) (e : Event) → Spells version line e → event_of version line ≡ Ok e
  pub printable : (version : ℕ) (line : List ℕ) (e : Event) → Spells version line e → list_all is_printable line ≡ true
  pub least : (version : ℕ) (line : List ℕ) (e : Event) → Spells version line e → 6 ≤ length line
  pub most : (version : ℕ) (line : List ℕ) (e : Event) → Spells version line e → length line ≤ 100

-- ---- line 1

one_or_two : (version : ℕ) → 1 ≤ version → version ≤ 2 → (version ≡ 1) ⊎ (version ≡ 2)
one_or_two zero least most = absurd (omega arith)
one_or_two (suc zero) least most = inl refl
one_or_two (suc (suc zero)) least most = inr refl
one_or_two (suc (suc (suc n))) least most = absurd (omega arith)

first_is : (version : ℕ) → (version ≡ 1) ⊎ (version ≡ 2)
    → (first_line version ≡ codes "kact journal 1") × (version ≡ 1) ⊎ (first_line version ≡ codes "kact journal 2") × (version ≡ 2)
first_is version (inl e) = inl (rw (e, decimal_digit 1 (lit< tt)) refl, e)
first_is version (inr e) = inr (rw (e, decimal_digit 2 (lit< tt)) refl, e)

-- of a first line of this version: it is printable, short, and known as that version
record IsFirst (line : List ℕ) (version : ℕ) : Type 0 where
  printable : list_all is_printable line ≡ true
  fit : fits line ≡ true
  known : version_of line ≡ Some version

first-line : (version : ℕ) → 1 ≤ version → version ≤ 2 → IsFirst (first_line version) version
first-line version least most = by_version (first_is version (one_or_two version least most))
  where
    by_version : (first_line version ≡ codes "kact journal 1") × (version ≡ 1) ⊎ (first_line version ≡ codes "kact journal 2") × (version ≡ 2) → IsFirst (first_line version) version
    by_version (inl (e, v)) = rw (e, v) (record { printable = refl; fit = refl; known = refl })
    by_version (inr (e, v)) = rw (e, v) (record { printable = refl; fit = refl; known = refl })

first-read : (line : List ℕ) (version : ℕ) (more : List (List ℕ)) → IsFirst line version → first_part JournalLine 0 (line ∷ more) ≡ Ok (part version 1 more)
unfolding first_part
first-read line version more is = with_line-fits 0 line more (first_in JournalLine) is.fit ∙ rw is.known refl

-- ---- the setup

setup-lines : (s : Setup) → IsSetup s → (rest : List ℕ) → lines (s.text ++ rest) ≡ lines s.text ++ lines rest
setup-lines s is rest =
    let takes = setup-takes 1 (lines s.text) (part s is.number []) is.read in
    let ends = text-ends takes.line takes.more in
    let text : s.text ≡ ends.0 ++ 10 ∷ [] = takes.text ∙ ends.1 in
    ap (λ (x : List ℕ). lines (x ++ rest)) text ∙ lines-append ends.0 rest ∙ ap (λ (x : List ℕ). lines x ++ lines rest) (sym text)

setup-read : (s : Setup) (is : IsSetup s) → (later : List (List ℕ)) → setup_part 1 (lines s.text ++ later) ≡ Ok (part s is.number later)
setup-read s is later =
    let takes = setup-takes 1 (lines s.text) (part s is.number []) is.read in
    ap (λ (x : List (List ℕ)). setup_part 1 (x ++ later)) (takes.takes.split ∙ append-nil (takes.line ∷ takes.more)) ∙ takes.takes.alone later

-- ---- the start

then_some-true : (b : Bool) (x n : ℕ) → then_some b x ≡ Some n → b ≡ true
then_some-true true x n h = refl
then_some-true false x n h = cc

and-left : (a b : Bool) → (a && b) ≡ true → a ≡ true
and-left true b h = refl
and-left false b h = cc

and-right : (a b : Bool) → (a && b) ≡ true → b ≡ true
and-right true b h = h
and-right false b h = cc

pub numeral-digits : (bs : List ℕ) (n : ℕ) → number_of bs ≡ Some n → list_all is_digit bs ≡ true
unfolding number_of
numeral-digits bs n h =
    and-left (list_all is_digit bs) (has_no_leading_zero bs) (and-left (is_numeral bs) _ (then_some-true _ _ n h))

digit-printable : (b : ℕ) → is_digit b ≡ true → (is_printable b ≡ true) × (is_space b ≡ false)
digit-printable b h = (grind (arith, common_steps), grind (arith, common_steps))

pub digits-printable : (bs : List ℕ) → list_all is_digit bs ≡ true → list_all is_printable bs ≡ true
digits-printable [] h = refl
digits-printable (b ∷ bs) h =
    rw (digit-printable b (and-left (is_digit b) (list_all is_digit bs) h)).0 (digits-printable bs (and-right (is_digit b) (list_all is_digit bs) h))

digits-spaceless : (bs : List ℕ) → list_all is_digit bs ≡ true → All (λ x. is_space x ≡ false) bs
digits-spaceless [] h k d lt = absurd (omega arith)
digits-spaceless (b ∷ bs) h zero d lt = (digit-printable b (and-left (is_digit b) (list_all is_digit bs) h)).1
digits-spaceless (b ∷ bs) h (suc k) d lt = digits-spaceless bs (and-right (is_digit b) (list_all is_digit bs) h) k d (omega arith)

-- of a number's text
record IsNumeral (digits : List ℕ) (n : ℕ) : Type 0 where
  printable : list_all is_printable digits ≡ true
  field : fields digits ≡ digits ∷ []
  read : number_of digits ≡ Some n
  short : length digits ≤ 20

numeral : AreSpelled → (n : ℕ) → n < 2 ^ 64 → IsNumeral (decimal n) n
unfolding fields
numeral spelled n h =
    let read = spelled.decimal n h in
    let digits = numeral-digits (decimal n) n read in
    record {
      printable = digits-printable (decimal n) digits;
      field = slice_split_none is_space (decimal n) (digits-spaceless (decimal n) digits);
      read = read;
      short = length-decimal-le 20 n (lit< tt) (omega arith) h;
    }

start-fields : (digits : List ℕ) → fields digits ≡ digits ∷ [] → fields (codes "start " ++ digits) ≡ codes "start" ∷ digits ∷ []
unfolding fields
start-fields digits h = ap (λ (x : List (List ℕ)). codes "start" ∷ x) h

start-said : (t : ℕ) → IsNumeral (decimal t) t → start_of (codes "start " ++ decimal t) ≡ Ok t
unfolding start_of
start-said t is = rw (start-fields (decimal t) is.field, is.read) refl

start-read : AreSpelled → (t n : ℕ) (more : List (List ℕ)) → t ≤ time_most → start_part n ((codes "start " ++ decimal t) ∷ more) ≡ Ok (part t (n + 1) more)
unfolding start_part
start-read spelled t n more most =
    let is = numeral spelled t (omega arith) in
    let line = codes "start " ++ decimal t in
    let small : nat_le t time_most ≡ true = grind (arith, common_steps) in
    let short : length line ≤ 65536 = omega (arith, is.short) in
    let fit : fits line ≡ true = grind (arith, common_steps) in
    with_line-fits n line more start_line_in fit ∙ rw (start-said t is, small) refl

start-lines : AreSpelled → (t : ℕ) (rest : List ℕ) → t ≤ time_most → lines ((codes "start " ++ decimal t) ++ 10 ∷ rest) ≡ (codes "start " ++ decimal t) ∷ lines rest
start-lines spelled t rest most = lines-printable (codes "start " ++ decimal t) rest (numeral spelled t (omega arith)).printable

-- ---- the events

event-spells : (version : ℕ) (e : Event) → e.time ≤ time_most → IsInJournalRange e.act → IsInVersion version e.act → Spells version (event_text e) e
event-spells version e most range act = record { text = refl; time = omega arith; range = range; act = act }

end-refused : (version : ℕ) (e : Event) → event_of version (codes "end") ≡ Ok e → ⊥
unfolding event_of fields number_of
end-refused version e h = cc

not_end : AreSpelled → (version : ℕ) (line : List ℕ) (e : Event) → event_of version line ≡ Ok e → bytes_eq line (codes "end") ≡ false
not_end spelled version line e h = by_test (bytes_eq line (codes "end")) refl
  where
    by_test : (b : Bool) → bytes_eq line (codes "end") ≡ b → b ≡ false
    by_test true g =
        let P : List ℕ → Type 0 = λ x. event_of version x ≡ Ok e in
        absurd (end-refused version e (subst P (same_bytes line (codes "end") g) h))
    by_test false g = refl

pub in_time-ok : (n last : ℕ) (e : Event) → last ≤ e.time → e.time ≤ time_most → in_time n last (Ok e) ≡ Ok e
in_time-ok n last e least most =
    let small : nat_le e.time time_most ≡ true = grind (arith, common_steps) in
    let order : nat_le last e.time ≡ true = grind (arith, common_steps) in
    rw (small, order) refl

-- one event line
event-read : AreSpelled → (version last n : ℕ) (line : List ℕ) (e : Event) (more : List (List ℕ)) → event_of version line ≡ Ok e → last ≤ e.time → e.time ≤ time_most
    → next_part version last n (line ∷ more) ≡ Ok (part (Some e) (n + 1) more)
unfolding next_part
event-read spelled version last n line e more h least most =
    let short = spelled.most version line e (spelled.event version line e h) in
    let fit : fits line ≡ true = grind (arith, common_steps) in
    with_line-fits n line more (next_in version last) fit ∙ rw (not_end spelled version line e h, h, in_time-ok (n + 1) last e least most) refl

end-read : (version last n : ℕ) → next_part version last n (codes "end" ∷ []) ≡ Ok (part None (n + 1) [])
unfolding next_part
end-read version last n = refl

lines-end : lines (codes "end\n") ≡ codes "end" ∷ []
unfolding lines lines_at_lf without_crs
lines-end = refl

events-read : AreSpelled → (version last n : ℕ) (es : List Event) → AreEvents version last es → read_events version last n (lines (events_text es ++ codes "end\n")) ≡ record { events = es; refused = None }
unfolding read_events
events-read spelled version last n [] h = rw lines-end (rw (end-read version last n) refl)
events-read spelled version last n (e ∷ es) h =
    let line = event_text e in
    let spells = event-spells version e h.1 h.2 h.3 in
    let said = spelled.text version line e spells in
    let rest = events_text es ++ codes "end\n" in
    let split : lines ((line ++ 10 ∷ events_text es) ++ codes "end\n") ≡ line ∷ lines rest =
    ap lines (append_assoc line (10 ∷ events_text es) (codes "end\n")) ∙ lines-printable line rest (spelled.printable version line e spells) in
    rw split (rw (event-read spelled version last n line e (lines rest) said h.0 h.1) (ap (with_event e) (events-read spelled version e.time (n + 1) es h.4)))

-- ---- the whole

pub journal-read : AreSpelled → (j : Journal) → IsJournal j → verdict (journal_text j) ≡ good j
unfolding verdict verdict_of_lines opening_part journal_text
journal-read spelled j is =
    let first = first-line j.version is.version_least is.version_most in
    let s = is.setup in
    let events = events_text j.events ++ codes "end\n" in
    let start = codes "start " ++ decimal j.start in
    let lines_of : lines (first_line j.version ++ 10 ∷ (j.setup.text ++ (start ++ 10 ∷ events))) ≡ first_line j.version ∷ (lines j.setup.text ++ (start ∷ lines events)) =
    lines-printable (first_line j.version) (j.setup.text ++ (start ++ 10 ∷ events)) first.printable
    ∙ ap (λ (x : List (List ℕ)). first_line j.version ∷ x) (setup-lines j.setup s (start ++ 10 ∷ events) ∙ ap (λ (x : List (List ℕ)). lines j.setup.text ++ x) (start-lines spelled j.start events is.start)) in
    rw (lines_of, first-read (first_line j.version) j.version (lines j.setup.text ++ (start ∷ lines events)) first, setup-read j.setup s (start ∷ lines events), start-read spelled j.start s.number (lines events) is.start, events-read spelled j.version j.start (s.number + 1) j.events is.events) refl
