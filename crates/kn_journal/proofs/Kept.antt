-- A journal that was read is in range, and its setup's text reads as that setup.
use Rattle.std.proofs.Common.{◌≡◌, ◌+◌, ◌≤◌, ℕ, Bool, true, false, List, [], ◌∷◌, ◌++◌, append-nil, refl, sym, ap, ◌∙◌, subst, arith}
use Rattle.std.specs.Prelude.{Option, None, Some, Result, Ok, Err, codes, nat_le, if◌then◌else◌}
use Rattle.std.specs.Str.{bytes_eq}
use Rattle.std.proofs.lemmas.Grind.{common_steps}
use Rattle.kn_event.specs.declared.event.Event.{Event}
use Rattle.kn_event.specs.declared.fault.LineError.{LineError}
use Rattle.kn_event.specs.EventLine.{event_of}
use Rattle.kn_preamble.specs.declared.first.FirstLine.TheVariants.{Journal as JournalLine}
use Rattle.kn_preamble.specs.First.{version_of}
use Rattle.kn_journal.specs.declared.journal.Setup.{Setup}
use Rattle.kn_journal.specs.declared.journal.Opening.{Opening}
use Rattle.kn_journal.specs.declared.journal.Journal.{Journal}
use Rattle.kn_journal.specs.Causes.{Cause, time_back, time_too_large}
use Rattle.kn_journal.specs.Lines.{lines, text_of}
use Rattle.kn_journal.specs.Parts.{Part, part}
use Rattle.kn_journal.specs.Setup.{setup_part}
use Rattle.kn_journal.specs.Journal.{AreEvents, IsJournal, IsSetup, Verdict, first_in, first_part, good, in_time, journal_of, next_in, next_part, opening_in, opening_part, or_bad, read_events, start_in, start_line_in, start_of, start_part, time_most, verdict, verdict_of_lines, verdict_on, version_in}
use Rattle.kn_journal.specs.Series.{Read, end_part, item_in, nothing_part, onward, then_events}
use Rattle.kn_journal.proofs.Aheads.{lines-plain}
use Rattle.kn_journal.proofs.Consumed.{part-left, setup-takes, then_part-ok, with_line-ok}
use Rattle.kn_journal.proofs.Plain.{ArePlainButLast, plain-behind, plain-lines}
use Rattle.kn_journal.proofs.Printed.{AreSpelled}
use Rattle.kn_journal.proofs.Tellings.{lines-nil}

-- lines that others follow are those of their text
own-lines : (own : List (List ℕ)) (m : List ℕ) (ms : List (List ℕ)) → ArePlainButLast (own ++ m ∷ ms) → lines (text_of own) ≡ own
own-lines [] m ms h = lines-nil
own-lines (l ∷ []) m ms h = lines-plain l [] h.0 ∙ ap (λ (x : List (List ℕ)). l ∷ x) lines-nil
own-lines (l ∷ r ∷ rs) m ms h = lines-plain l (text_of (r ∷ rs)) h.0 ∙ ap (λ (x : List (List ℕ)). l ∷ x) (own-lines (r ∷ rs) m ms h.1)

-- ---- the setup

setup-kept : (first : List ℕ) (ls : List (List ℕ)) (p : Part Setup) (m : List ℕ) (ms : List (List ℕ)) → ArePlainButLast (first ∷ ls) → setup_part 1 ls ≡ Ok p → p.left ≡ m ∷ ms → IsSetup p.value
setup-kept first ls p m ms plain h left =
    let taken = setup-takes 1 ls p h in
    let own = taken.line ∷ taken.more in
    let whole : ls ≡ own ++ m ∷ ms = taken.takes.split ∙ ap (λ (x : List (List ℕ)). own ++ x) left in
    let same : lines p.value.text ≡ own = ap lines taken.text ∙ own-lines own m ms (subst ArePlainButLast whole (plain-behind first ls plain)) in
    record { number = p.number; read = rw same (ap (setup_part 1) (sym (append-nil own)) ∙ taken.takes.alone []) }

record IsFirstOf (n : ℕ) (left : List (List ℕ)) (p : Part ℕ) : Type 0 where
  number : p.number ≡ n
  all : p.left ≡ left
  least : 1 ≤ p.value
  most : p.value ≤ 2

first-said : (line : List ℕ) (n : ℕ) (left : List (List ℕ)) (p : Part ℕ) → version_in JournalLine n left (version_of line) ≡ Ok p → IsFirstOf n left p
first-said line n left p h = by_tests (bytes_eq line (codes "kact journal 1")) (bytes_eq line (codes "kact journal 2")) h
  where
    said : (version : ℕ) → 1 ≤ version → version ≤ 2 → version_in JournalLine n left (Some version) ≡ Ok p → IsFirstOf n left p
    said version least most g =
        let made : Part ℕ = part version n left in
        let parts = part-left version n left p (Ok made) g refl in
        record { number = sym parts.2; all = sym parts.0; least = omega (arith, least, parts.1); most = omega (arith, most, parts.1) }

    by_tests : (a b : Bool) → version_in JournalLine n left (if a then Some 1 else (if b then Some 2 else None)) ≡ Ok p → IsFirstOf n left p
    by_tests true b g = said 1 (omega arith) (omega arith) g
    by_tests false true g = said 2 (omega arith) (omega arith) g
    by_tests false false g = cc

record IsOpening (q : Part Opening) : Type 0 where
  least : 1 ≤ q.value.version
  most : q.value.version ≤ 2
  setup : (m : List ℕ) (ms : List (List ℕ)) → q.left ≡ m ∷ ms → IsSetup q.value.setup

opened-is : (version : ℕ) (p : Part Setup) (q : Part Opening) → opening_in version p.number p.left p.value ≡ Ok q → (q.value.version ≡ version) × (q.value.setup ≡ p.value) × (q.left ≡ p.left)
opened-is version p q h =
    let made : Opening = record { version = version; setup = p.value } in
    let parts = part-left made p.number p.left q (Ok (part made p.number p.left)) h refl in
    (ap (λ (o : Opening). o.version) (sym parts.1), ap (λ (o : Opening). o.setup) (sym parts.1), sym parts.0)

opening-kept : (bytes : List ℕ) (q : Part Opening) → opening_part JournalLine 0 (lines bytes) ≡ Ok q → IsOpening q
unfolding opening_part first_part
opening-kept bytes q h =
    let first = then_part-ok (first_part JournalLine 0 (lines bytes)) _ q h in
    let p = first.0 in
    let has = with_line-ok 0 (lines bytes) (first_in JournalLine) p first.1 in
    let said = first-said has.line 1 has.more p has.rest in
    let second = then_part-ok (setup_part p.number p.left) _ q first.2 in
    let s = second.0 in
    let made = opened-is p.value s q second.2 in
    let plain : ArePlainButLast (has.line ∷ has.more) = subst ArePlainButLast has.split (plain-lines bytes) in
    let read : setup_part 1 has.more ≡ Ok s = ap (λ (n : ℕ). setup_part n has.more) (sym said.number) ∙ ap (setup_part p.number) (sym said.all) ∙ second.1 in
    record {
      least = omega (arith, said.least, made.0);
      most = omega (arith, said.most, made.0);
      setup = λ m ms left. rw made.1 (setup-kept has.line has.more s m ms plain read (sym made.2 ∙ left));
    }

-- ---- the start

start-said : (n : ℕ) (left : List (List ℕ)) (r : Result ℕ LineError) (p : Part ℕ) → start_in n left r ≡ Ok p → p.value ≤ time_most
start-said n left (Err why) p h = cc
start-said n left (Ok time) p h = by_test (nat_le time time_most) refl h
  where
    by_test : (t : Bool) → nat_le time time_most ≡ t → (if t then Ok (part time n left) else Err (time_too_large n)) ≡ Ok p → p.value ≤ time_most
    by_test true e g =
        let made : Part ℕ = part time n left in
        let parts = part-left time n left p (Ok made) g refl in
        let few : time ≤ time_most = grind (arith, common_steps) in
        omega (arith, few, parts.1)
    by_test false e g = cc

start-kept : (n : ℕ) (ls : List (List ℕ)) (p : Part ℕ) → start_part n ls ≡ Ok p → (p.value ≤ time_most) × (m : List ℕ) × (ms : List (List ℕ)) × (ls ≡ m ∷ ms)
unfolding start_part
start-kept n ls p h =
    let has = with_line-ok n ls start_line_in p h in
    (start-said (n + 1) has.more (start_of has.line) p has.rest, has.line, has.more, has.split)

-- ---- the events

record IsTimely (last : ℕ) (r : Result Event LineError) (e : Event) : Type 0 where
  said : r ≡ Ok e
  order : last ≤ e.time
  most : e.time ≤ time_most

timely : (n last : ℕ) (r : Result Event LineError) (e : Event) → in_time n last r ≡ Ok e → IsTimely last r e
timely n last (Err why) e h = cc
timely n last (Ok d) e h = by_tests (nat_le d.time time_most) (nat_le last d.time) refl refl h
  where
    by_tests : (a b : Bool) → nat_le d.time time_most ≡ a → nat_le last d.time ≡ b → (if a then (if b then Ok d else Err (time_back n last d.time)) else Err (time_too_large n)) ≡ Ok e → IsTimely last (Ok d) e
    by_tests true true f g k =
        let same : d ≡ e = cc in
        let order : last ≤ d.time = grind (arith, common_steps) in
        let most : d.time ≤ time_most = grind (arith, common_steps) in
        subst (λ (x : Event). IsTimely last (Ok d) x) same (record { said = refl; order = order; most = most })
    by_tests true false f g k = cc
    by_tests false b f g k = cc

event_in-some : (n : ℕ) (left : List (List ℕ)) (r : Result Event Cause) (p : Part (Option Event)) (e : Event) → item_in n left r ≡ Ok p → p.value ≡ Some e → r ≡ Ok e
event_in-some n left (Err cause) p e h k = cc
event_in-some n left (Ok d) p e h k =
    let made : Part (Option Event) = part (Some d) n left in
    let parts = part-left (Some d) n left p (Ok made) h refl in
    let same : Some d ≡ Some e = parts.1 ∙ k in
    cc

end_part-none : (n : ℕ) (ls : List (List ℕ)) (p : Part (Option Event)) → end_part n ls ≡ Ok p → p.value ≡ None
end_part-none n ls p h =
    let rest = then_part-ok (nothing_part n ls) (λ _ n left. Ok (part None n left)) p h in
    let q = rest.0 in
    sym (part-left None q.number q.left p (Ok (part None q.number q.left)) rest.2 refl).1

next-said : (version last n : ℕ) (line : List ℕ) (left : List (List ℕ)) (p : Part (Option Event)) (e : Event) → next_in version last n line left ≡ Ok p → p.value ≡ Some e
    → IsTimely last (event_of version line) e
next-said version last n line left p e h k = by_test (bytes_eq line (codes "end")) h
  where
    by_test : (t : Bool) → (if t then end_part n left else item_in n left (in_time n last (event_of version line))) ≡ Ok p → IsTimely last (event_of version line) e
    by_test true g =
        let none : None ≡ Some e = sym (end_part-none n left p g) ∙ k in
        absurd cc
    by_test false g = timely n last (event_of version line) e (event_in-some n left (in_time n last (event_of version line)) p e g k)

next-kept : (version last n : ℕ) (ls : List (List ℕ)) (p : Part (Option Event)) (e : Event) → next_part version last n ls ≡ Ok p → p.value ≡ Some e → (line : List ℕ) × IsTimely last (event_of version line) e
unfolding next_part
next-kept version last n ls p e h k =
    let has = with_line-ok n ls (next_in version last) p h in
    (has.line, next-said version last (n + 1) has.line has.more p e has.rest k)

no_lines : (version last n : ℕ) (next : Event → ℕ → Read Event) → AreEvents version last (then_events (next_part version last n []) next).events
unfolding next_part
no_lines version last n next = tt

events-kept : AreSpelled → (version last n : ℕ) (ls : List (List ℕ)) → AreEvents version last (read_events version last n ls).events
unfolding read_events
events-kept spelled version last n [] = no_lines version last n _
events-kept spelled version last n (line ∷ more) = by_next (next_part version last n (line ∷ more)) refl (λ e number. events-kept spelled version e.time number more)
  where
    by_value : (p : Part (Option Event)) (v : Option Event) → next_part version last n (line ∷ more) ≡ Ok p → p.value ≡ v
        → ((e : Event) (number : ℕ) → AreEvents version e.time (read_events version e.time number more).events)
        → AreEvents version last (onward v (λ e. read_events version e.time p.number more)).events
    by_value p None h is k = tt
    by_value p (Some e) h is k =
        let of = next-kept version last n (line ∷ more) p e h is in
        let spells = spelled.event version of.0 e of.1.said in
        (of.1.order, of.1.most, spells.range, spells.act, k e p.number)

    by_next : (r : Result (Part (Option Event)) Cause) → next_part version last n (line ∷ more) ≡ r
        → ((e : Event) (number : ℕ) → AreEvents version e.time (read_events version e.time number more).events)
        → AreEvents version last (then_events r (λ e number. read_events version e.time number more)).events
    by_next (Err cause) h k = tt
    by_next (Ok p) h k = by_value p p.value h refl k

-- ---- the whole

or_bad-good : {T : Type 0} (r : Result (Part T) Cause) (next : T → ℕ → List (List ℕ) → Verdict) (j : Journal) → or_bad r next ≡ good j
    → (p : Part T) × (r ≡ Ok p) × (next p.value p.number p.left ≡ good j)
or_bad-good (Ok p) next j h = (p, refl, h)
or_bad-good (Err cause) next j h = cc

verdict_on-good : (k j : Journal) (refused : Option Cause) → verdict_on k refused ≡ good j → k ≡ j
verdict_on-good k j None h = cc
verdict_on-good k j (Some cause) h = cc

pub journal-kept : AreSpelled → (bytes : List ℕ) (j : Journal) → verdict bytes ≡ good j → IsJournal j
unfolding verdict verdict_of_lines
journal-kept spelled bytes j h =
    let first = or_bad-good (opening_part JournalLine 0 (lines bytes)) _ j h in
    let q = first.0 in
    let opening = opening-kept bytes q first.1 in
    let second = or_bad-good (start_part q.number q.left) _ j first.2 in
    let s = second.0 in
    let start = start-kept q.number q.left s second.1 in
    let read = read_events q.value.version s.value s.number s.left in
    let made = journal_of q.value.version q.value.setup s.value read.events in
    let all : IsJournal made =
    record { version_least = opening.least; version_most = opening.most; setup = opening.setup start.1 start.2 start.3; start = start.0; events = events-kept spelled q.value.version s.value s.number s.left } in
    subst IsJournal (verdict_on-good made j read.refused second.2) all
