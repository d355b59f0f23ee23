-- What lines give by themselves, whatever follows them.
use Rattle.std.proofs.Common.{◌≡◌, ◌+◌, ℕ, Bool, true, false, List, [], ◌∷◌, ◌++◌, append_assoc, refl, sym, ap, ◌∙◌, inl, inr}
use Rattle.std.specs.Prelude.{◌⊎◌, Option, None, Some, Result, Ok, Err, codes, nat_le, if◌then◌else◌}
use Rattle.std.specs.Str.{bytes_eq}
use Rattle.kn_event.specs.declared.fault.LineError.{LineError}
use Rattle.kn_preamble.specs.declared.error.SetupError.{SetupError}
use Rattle.kn_preamble.specs.declared.first.FirstLine.TheVariants.{Slices as SlicesLine}
use Rattle.kn_preamble.specs.declared.setting.FixedLine.{FixedLine}
use Rattle.kn_journal.specs.Causes.{Cause, bad_first_line, bad_line, bad_setup, line_too_long, no_end, time_too_large}
use Rattle.kn_journal.specs.Journal.{first_in, first_part, start_in, start_line_in, start_of, start_part, time_most, version_in}
use Rattle.kn_journal.specs.Lines.{fits}
use Rattle.kn_journal.specs.Parts.{Part, part, then_part, with_line}
use Rattle.kn_preamble.specs.First.{version_by}
use Rattle.kn_preamble.specs.SetupLine.{fixed_line}
use Rattle.kn_activators.specs.declared.event.GroupEvent.{GroupEvent}
use Rattle.kn_activators.specs.declared.setup.GroupSetup.{GroupSetup}
use Rattle.kn_activators.specs.Reading.{group_event_of}
use Rattle.kn_activators.specs.Replaying.{Opened}
use Rattle.kn_activators.specs.Verdict.{Input, in_time, input_of_lines, next_in, next_part, opening_part, read_events, setup_in, setup_line_in, setup_part, setup_with}
use Rattle.kn_journal.specs.Series.{Read, end_part, item_in, nothing_part}

-- ---- what one line gives, whatever follows it

pub record OwnLine {T : Type 0} (read : List (List ℕ) → Result (Part T) Cause) (ls : List (List ℕ)) (x : T) (m : ℕ) (left : List (List ℕ)) : Type 0 where
  pub line : List ℕ
  pub split : ls ≡ line ∷ left
  pub alone : (later : List (List ℕ)) → read (line ∷ later) ≡ Ok (part x m later)

-- it is refused, or it gives this
abbrev IsJudged : {T : Type 0} → (List (List ℕ) → Result (Part T) Cause) → ℕ → Type 0
IsJudged {T} next n = ((cause : Cause) × ((left : List (List ℕ)) → next left ≡ Err cause)) ⊎ ((x : T) × ((left : List (List ℕ)) → next left ≡ Ok (part x n left)))

abbrev good : {T : Type 0} → Part T → Result (Part T) Cause
good p = Ok p

abbrev bad : {T : Type 0} → Cause → Result (Part T) Cause
bad cause = Err cause

parts_are : {T : Type 0} (x y : T) (n m : ℕ) (l k : List (List ℕ)) → good (part x n l) ≡ good (part y m k) → (x ≡ y) × (n ≡ m) × (l ≡ k)
parts_are x y n m l k h =
    let same : part x n l ≡ part y m k = cc in (ap (λ (q : Part _). q.value) same, ap (λ (q : Part _). q.number) same, ap (λ (q : Part _). q.left) same)

own_line : {T : Type 0} (n : ℕ) (next : ℕ → List ℕ → List (List ℕ) → Result (Part T) Cause) (ls left : List (List ℕ)) (x : T) (m : ℕ) → ((line : List ℕ) → IsJudged (next (n + 1) line) (n + 1))
    → with_line n ls next ≡ Ok (part x m left) → OwnLine (λ z. with_line n z next) ls x m left
own_line n next [] left x m judged h = absurd (cc)
own_line {T} n next (line ∷ more) left x m judged h = by_fit (fits line) refl h
  where
    by_judged : fits line ≡ true → IsJudged (next (n + 1) line) (n + 1) → next (n + 1) line more ≡ Ok (part x m left) → OwnLine (λ z. with_line n z next) (line ∷ more) x m left
    by_judged fit (inl (cause, e)) g = let no : bad cause ≡ good (part x m left) = sym (e more) ∙ g in absurd (cc)
    by_judged fit (inr (y, e)) g =
        let same = parts_are y x (n + 1) m more left (sym (e more) ∙ g) in
        record {
          line = line;
          split = ap (λ (z : List (List ℕ)). line ∷ z) same.2;
          alone = λ later. rw fit (e later ∙ ap (λ (v : T). Ok (part v (n + 1) later)) same.0 ∙ ap (λ (k : ℕ). Ok (part x k later)) same.1);
        }

    by_fit : (b : Bool) → fits line ≡ b → (if b then next (n + 1) line more else Err (line_too_long (n + 1))) ≡ Ok (part x m left) → OwnLine (λ z. with_line n z next) (line ∷ more) x m left
    by_fit true fit g = by_judged fit (judged line) g
    by_fit false fit g = absurd (cc)

-- ---- the first line, the setup and the start

first_judged : (n : ℕ) (line : List ℕ) → IsJudged (first_in SlicesLine n line) n
first_judged n line = by (version_by SlicesLine line) refl
  where
    by : (r : Option ℕ) → version_by SlicesLine line ≡ r → IsJudged (first_in SlicesLine n line) n
    by None is = inl (bad_first_line SlicesLine, λ left. ap (version_in SlicesLine n left) is)
    by (Some many) is = inr (many, λ left. ap (version_in SlicesLine n left) is)

setup_judged : (many n : ℕ) (line : List ℕ) → IsJudged (setup_line_in many n line) n
setup_judged many n line = by (fixed_line many line) refl
  where
    by : (r : Result FixedLine SetupError) → fixed_line many line ≡ r → IsJudged (setup_line_in many n line) n
    by (Ok f) is = inr (setup_with many f, λ left. ap (setup_in many n left) is)
    by (Err why) is = inl (bad_setup n why, λ left. ap (setup_in many n left) is)

start_judged : (n : ℕ) (line : List ℕ) → IsJudged (start_line_in n line) n
start_judged n line = by (start_of line) refl
  where
    by_time : (time : ℕ) (b : Bool) → start_of line ≡ Ok time → nat_le time time_most ≡ b → IsJudged (start_line_in n line) n
    by_time time true is soon = inr (time, λ left. ap (start_in n left) is ∙ rw soon refl)
    by_time time false is soon = inl (time_too_large n, λ left. ap (start_in n left) is ∙ rw soon refl)

    by : (r : Result ℕ LineError) → start_of line ≡ r → IsJudged (start_line_in n line) n
    by (Ok time) is = by_time time (nat_le time time_most) is refl
    by (Err why) is = inl (bad_line n why, λ left. ap (start_in n left) is)

pub first_own : (n : ℕ) (ls left : List (List ℕ)) (many m : ℕ) → first_part SlicesLine n ls ≡ Ok (part many m left) → OwnLine (first_part SlicesLine n) ls many m left
unfolding first_part
first_own n ls left many m h = own_line n (first_in SlicesLine) ls left many m (first_judged (n + 1)) h

setup_own : (many n : ℕ) (ls left : List (List ℕ)) (s : GroupSetup) (m : ℕ) → setup_part many n ls ≡ Ok (part s m left) → OwnLine (setup_part many n) ls s m left
unfolding setup_part
setup_own many n ls left s m h = own_line n (setup_line_in many) ls left s m (setup_judged many (n + 1)) h

start_own : (n : ℕ) (ls left : List (List ℕ)) (start m : ℕ) → start_part n ls ≡ Ok (part start m left) → OwnLine (start_part n) ls start m left
unfolding start_part
start_own n ls left start m h = own_line n start_line_in ls left start m (start_judged (n + 1)) h

pub no_setup : (many n : ℕ) → setup_part many n [] ≡ Err no_end
unfolding setup_part
no_setup many n = refl

pub no_first : (n : ℕ) → first_part SlicesLine n [] ≡ Err no_end
unfolding first_part
no_first n = refl

pub no_start : (n : ℕ) → start_part n [] ≡ Err no_end
unfolding start_part
no_start n = refl

pub record OwnLines {T : Type 0} (read : List (List ℕ) → Result T Cause) (ls : List (List ℕ)) (x : List (List ℕ) → T) (left : List (List ℕ)) : Type 0 where
  pub own : List (List ℕ)
  pub split : ls ≡ own ++ left
  pub alone : (later : List (List ℕ)) → read (own ++ later) ≡ Ok (x later)

pub opening-is : (n : ℕ) (ls : List (List ℕ)) → opening_part n ls ≡ then_part (first_part SlicesLine n ls) setup_part
unfolding opening_part
opening-is n ls = refl

pub opening_own : (n : ℕ) (ls left : List (List ℕ)) (s : GroupSetup) (m : ℕ) → opening_part n ls ≡ Ok (part s m left) → OwnLines (opening_part n) ls (λ later. part s m later) left
opening_own n ls left s m h = by (first_part SlicesLine n ls) refl (sym (opening-is n ls) ∙ h)
  where
    by : (r : Result (Part ℕ) Cause) → first_part SlicesLine n ls ≡ r → then_part r setup_part ≡ Ok (part s m left) → OwnLines (opening_part n) ls (λ later. part s m later) left
    by (Err cause) is g = absurd (cc)
    by (Ok p) is g =
        let a = first_own n ls p.left p.value p.number is in
        let b = setup_own p.value p.number p.left left s m g in
        record {
          own = a.line ∷ b.line ∷ [];
          split = a.split ∙ ap (λ (z : List (List ℕ)). a.line ∷ z) b.split;
          alone = λ later.
              opening-is n (a.line ∷ b.line ∷ later)
              ∙ ap (λ (r : Result (Part ℕ) Cause). then_part r setup_part) (a.alone (b.line ∷ later))
              ∙ b.alone later;
        }

abbrev pub input_with : GroupSetup → ℕ → Read GroupEvent → Input
input_with setup start r = record { setup = setup; start = start; read = r }

pub opened_own : (ls left : List (List ℕ)) (setup : GroupSetup) (start number : ℕ) → Opened ls setup start number left → OwnLines input_of_lines ls (λ later. input_with setup start (read_events setup start number later)) left
unfolding input_of_lines
opened_own ls left setup start number o =
    let a = opening_own 0 ls o.after setup o.line o.opening in
    let b = start_own o.line o.after left start number o.begins in
    record {
      own = a.own ++ b.line ∷ [];
      split = a.split ∙ ap (λ (z : List (List ℕ)). a.own ++ z) b.split ∙ sym (append_assoc a.own (b.line ∷ []) left);
      alone = λ later. rw (append_assoc a.own (b.line ∷ []) later, a.alone (b.line ∷ later), b.alone later) refl;
    }

-- ---- an event

pub event_own : (s : GroupSetup) (last m k : ℕ) (ls left : List (List ℕ)) (e : GroupEvent) → next_part s last m ls ≡ Ok (part (Some e) k left) → OwnLine (next_part s last m) ls (Some e) k left
unfolding next_part
event_own s last m k [] left e h = absurd (cc)
event_own s last m k (line ∷ more) left e h = by_fit (fits line) refl h
  where
    by_event : fits line ≡ true → bytes_eq line (codes "end") ≡ false → (r : Result GroupEvent Cause) → in_time (m + 1) last (group_event_of s.activators s.pods line) ≡ r → item_in (m + 1) more r ≡ Ok (part (Some e) k left) → OwnLine (λ z. with_line m z (next_in s last)) (line ∷ more) (Some e) k left
    by_event fit other (Err cause) is g = absurd (cc)
    by_event fit other (Ok a) is g =
        let same = parts_are (Some a) (Some e) (m + 1) k more left g in
        record {
          line = line;
          split = ap (λ (z : List (List ℕ)). line ∷ z) same.2;
          alone = λ later. rw (fit, other, is) (ap (λ (v : Option GroupEvent). Ok (part v (m + 1) later)) same.0 ∙ ap (λ (j : ℕ). Ok (part (Some e) j later)) same.1);
        }

    by_end : (r : Result (Part (Unit {0})) Cause) → then_part r (λ _ n left. Ok (part None n left)) ≡ Ok (part (Some e) k left) → OwnLine (λ z. with_line m z (next_in s last)) (line ∷ more) (Some e) k left
    by_end (Ok q) g = let none = (parts_are None (Some e) q.number k q.left left g).0 in absurd (cc)
    by_end (Err cause) g = absurd (cc)

    by_word : fits line ≡ true → (b : Bool) → bytes_eq line (codes "end") ≡ b → (if b then end_part (m + 1) more else item_in (m + 1) more (in_time (m + 1) last (group_event_of s.activators s.pods line))) ≡ Ok (part (Some e) k left) → OwnLine (λ z. with_line m z (next_in s last)) (line ∷ more) (Some e) k left
    by_word fit true word g = by_end (nothing_part (m + 1) more) g
    by_word fit false word g = by_event fit word (in_time (m + 1) last (group_event_of s.activators s.pods line)) refl g

    by_fit : (b : Bool) → fits line ≡ b → (if b then next_in s last (m + 1) line more else Err (line_too_long (m + 1))) ≡ Ok (part (Some e) k left) → OwnLine (λ z. with_line m z (next_in s last)) (line ∷ more) (Some e) k left
    by_fit true fit g = by_word fit (bytes_eq line (codes "end")) refl g
    by_fit false fit g = absurd (cc)
