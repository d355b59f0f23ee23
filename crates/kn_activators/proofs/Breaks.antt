-- A replay whose source failed: which bytes were taken, and the rows of their events.
use Rattle.std.proofs.Common.{◌≡◌, ◌+◌, ◌-◌, ℕ, Bool, true, false, List, [], ◌∷◌, ◌++◌, length, append_assoc, append-nil, refl, sym, ap, ◌∙◌, subst, inl, inr, arith}
use Rattle.std.specs.Prelude.{◌⊎◌, Option, None, Some, Result, Ok, Err, codes}
use Rattle.std.specs.Str.{bytes_eq}
use Rattle.std.proofs.lemmas.Slice.Eq.{bytes_eq-Decides}
use Rattle.kn_journal.specs.declared.error.JournalError.TheVariants as error
use Rattle.kn_preamble.specs.declared.first.FirstLine.TheVariants.{Slices as SlicesLine}
use Rattle.kn_journal.specs.Causes.{Cause, IsGoodSoFar, no_end}
use Rattle.kn_journal.specs.Journal.{first_part, start_part}
use Rattle.kn_journal.specs.Lines.{fits, lines}
use Rattle.kn_journal.specs.Parts.{Part, part, then_part}
use Rattle.kn_journal.specs.Reading.{Ahead, AreWhole, EndsWithLf, IsCutOff, IsOver, IsSpent, TakesLine, TakesPart, TakesText, most_taken}
use Rattle.kn_journal.specs.Telling.{Gives, Refuses, StopsAmid, TakesEnd}
use Rattle.kn_journal.specs.Texts.{TextLaws}
use Rattle.kn_activators.specs.declared.event.GroupEvent.{GroupEvent}
use Rattle.kn_activators.specs.declared.setup.GroupSetup.{GroupSetup}
use Rattle.kn_activators.specs.Breaking.{Breaks, BreaksBefore, BreaksIn, StopsAtEvent, rows_of}
use Rattle.kn_activators.specs.Replaying.{Opened}
use Rattle.kn_activators.specs.Sharing.{Sharing, by_lines, opened, openings_text, run_text, time_of}
use Rattle.kn_activators.specs.Verdict.{Input, input_of, input_of_lines, next_part, opening_part, read_events, refusal_of, setup_part}
use Rattle.kn_journal.specs.Series.{Read, none_read}
use Rattle.kn_activators.proofs.EventLines.{no_more, none_more, one_more, with_events, with_more}
use Rattle.kn_activators.proofs.OwnLines.{event_own, first_own, input_with, no_first, no_setup, no_start, opened_own, opening-is, opening_own}

-- ---- whole lines

split-behind : (xs text ys more zs : List ℕ) → xs ≡ text ++ ys → ys ≡ more ++ zs → xs ≡ (text ++ more) ++ zs
split-behind xs text ys more zs h k = h ∙ ap (λ (m : List ℕ). text ++ m) k ∙ sym (append_assoc text more zs)

-- ---- where a call stopped

-- no line was read
pub opening_stops : (laws : TextLaws) (n : ℕ) (old new : Option (List ℕ)) → TakesPart old new → StopsAmid (opening_part n) old new
opening_stops laws n None new h = tt
opening_stops laws n (Some xs) None h = absurd h
opening_stops laws n (Some xs) (Some ys) h =
    let none : opening_part n (lines []) ≡ Err no_end =
    ap (opening_part n) laws.none ∙ opening-is n [] ∙ ap (λ (r : Result (Part ℕ) Cause). then_part r setup_part) (no_first n) in
    ([], xs, refl, inl refl, none, h)

-- .. but the first one
pub setup_stops : (laws : TextLaws) (cut : Bool) (n many m : ℕ) (old mid new : Option (List ℕ)) → Gives (first_part SlicesLine n) many m old mid → TakesText cut old mid → TakesPart mid new → StopsAmid (opening_part n) old new
setup_stops laws cut n many m None mid new g t h = tt
setup_stops laws cut n many m (Some xs) None new g t h = absurd g
setup_stops laws cut n many m (Some xs) (Some ys) None g t h = absurd h
setup_stops laws cut n many m (Some xs) (Some ys) (Some zs) g (text, split, ended) h =
    let a = first_own n (lines xs) (lines ys) many m g in
    let whole = laws.whole cut text ys ended in
    let own : lines text ≡ a.line ∷ [] = laws.own xs text ys (a.line ∷ []) split whole a.split in
    let none : opening_part n (lines text) ≡ Err no_end =
    ap (opening_part n) own ∙ opening-is n (a.line ∷ []) ∙ ap (λ (r : Result (Part ℕ) Cause). then_part r setup_part) (a.alone []) ∙ no_setup many m in
    (text, ys, split, whole, none, h)

unopened : (bytes : List ℕ) (cause : Cause) → opening_part 0 (lines bytes) ≡ Err cause → input_of bytes ≡ Err cause
unfolding input_of input_of_lines
unopened bytes cause h = rw h refl

unstarted : (bytes : List ℕ) (s : GroupSetup) (m : ℕ) (left : List (List ℕ)) (cause : Cause) → opening_part 0 (lines bytes) ≡ Ok (part s m left) → start_part m left ≡ Err cause → input_of bytes ≡ Err cause
unfolding input_of input_of_lines
unstarted bytes s m left cause h k = rw (h, k) refl

pub before_setup : (n : ℕ) (xs : List ℕ) (new : Option (List ℕ)) → n ≡ 0 → StopsAmid (opening_part n) (Some xs) new → BreaksBefore xs new
before_setup n xs None first h = absurd h
before_setup n xs (Some ys) first (text, mid, split, whole, none, rest) = record {
  bytes = text;
  mid = mid;
  split = split;
  whole = whole;
  reads = unopened text no_end (subst (λ (k : ℕ). opening_part k (lines text) ≡ Err no_end) first none);
  rest = rest;
}

pub before_start : (laws : TextLaws) (cut : Bool) (n m : ℕ) (s : GroupSetup) (xs ys : List ℕ) (new : Option (List ℕ)) → n ≡ 0 → Gives (opening_part n) s m (Some xs) (Some ys) → TakesText cut (Some xs) (Some ys) → TakesPart (Some ys) new
    → BreaksBefore xs new
before_start laws cut n m s xs ys new first g (text, split, ended) h =
    let a = opening_own n (lines xs) (lines ys) s m g in
    let whole = laws.whole cut text ys ended in
    let own : lines text ≡ a.own ++ [] = laws.own xs text ys a.own split whole a.split ∙ sym (append-nil a.own) in
    let read : opening_part n (lines text) ≡ Ok (part s m []) = ap (opening_part n) own ∙ a.alone [] in
    record {
      bytes = text;
      mid = ys;
      split = split;
      whole = whole;
      reads = unstarted text s m [] no_end (subst (λ (k : ℕ). opening_part k (lines text) ≡ Ok (part s m [])) first read) (no_start m);
      rest = h;
    }

same_bytes : (a b : List ℕ) → bytes_eq a b ≡ true → a ≡ b
same_bytes a b h = (bytes_eq-Decides a b).0 h

-- the line `end` was taken
pub end_stops : (laws : TextLaws) (old mid new : Option (List ℕ)) (line : List ℕ) → TakesLine old mid true line → TakesText false old mid → bytes_eq line (codes "end") ≡ true → TakesPart mid new → StopsAtEvent old new
end_stops laws old mid new line h t e k = inr (by old mid new h t k)
  where
    by : (x y z : Option (List ℕ)) → TakesLine x y true line → TakesText false x y → TakesPart y z → TakesEnd x z
    by None y z h t k = tt
    by (Some xs) None z h t k = absurd h
    by (Some xs) (Some ys) None h t k = absurd k
    by (Some xs) (Some ys) (Some zs) h (text, is, ended) k =
        let own : lines text ≡ line ∷ [] = laws.own xs text ys (line ∷ []) is (laws.whole false text ys ended) h in
        (text, ys, is, ended, own ∙ ap (λ (x : List ℕ). x ∷ []) (same_bytes line (codes "end") e), k)

-- .. behind which the input said its end
pub end_cut : (laws : TextLaws) (s : GroupSetup) (last n number : ℕ) (old mid : Option (List ℕ)) (line : List ℕ) → TakesLine old mid true line → TakesText true old mid → fits line ≡ true → number ≡ n + 1 → bytes_eq line (codes "end") ≡ true
    → Gives (next_part s last n) None number old mid
unfolding next_part
end_cut laws s last n number None mid line h t fit is e = tt
end_cut laws s last n number (Some xs) None line h t fit is e = absurd h
end_cut laws s last n number (Some xs) (Some ys) line h (text, split, over) fit is e =
    let none : lines ys ≡ [] = ap lines over ∙ laws.none in
    rw (h, fit, e, none, is) refl

no_line : (s : GroupSetup) (last n : ℕ) → next_part s last n [] ≡ Err no_end
unfolding next_part
no_line s last n = refl

-- behind the end of the input no event is
pub over_refuses : (laws : TextLaws) (s : GroupSetup) (last n : ℕ) (old : Option (List ℕ)) → IsOver true old → Refuses (next_part s last n) error.NoEnd old
over_refuses laws s last n None h = tt
over_refuses laws s last n (Some xs) h = (no_end, refl, ap (next_part s last n) (ap lines h ∙ laws.none) ∙ no_line s last n)

-- ---- events so far

-- the input said its end; or these bytes end with LF, or there are none behind a line that wasn't cut
abbrev pub IsSoFar : Bool → Bool → List ℕ → List ℕ → Type 0
IsSoFar first true text ys = ys ≡ []
IsSoFar first false text ys = ((text ≡ []) × (first ≡ false)) ⊎ EndsWithLf text

so_whole : (first over : Bool) (text ys : List ℕ) → IsSoFar first over text ys → AreWhole text ys
so_whole first true text ys h = inr (inr h)
so_whole first false text ys (inl none) = inl none.0
so_whole first false text ys (inr ends) = inr (inl ends)

so_more : (laws : TextLaws) (first over : Bool) (text more ys : List ℕ) → IsCutOff over more ys → IsSoFar first over (text ++ more) ys
so_more laws first true text more ys h = h
so_more laws first false text more ys h = inr (laws.ends text more h)

so_begin : (over : Bool) (xs : List ℕ) → IsOver over (Some xs) → IsSoFar over over [] xs
so_begin true xs h = h
so_begin false xs h = inl (refl, refl)

pub so_over : (first over : Bool) (text ys : List ℕ) → IsSoFar first over text ys → IsOver over (Some ys)
so_over first true text ys h = h
so_over first false text ys h = tt

pub over_of : (over : Bool) (text ys : List ℕ) → IsCutOff over text ys → IsOver over (Some ys)
over_of true text ys h = h
over_of false text ys h = tt

-- these events were read of whole lines of the old bytes, whatever follows them
pub record HasTaken (first over : Bool) (s : GroupSetup) (last n : ℕ) (xs : List ℕ) (es : List GroupEvent) (now m : ℕ) (ys : List ℕ) : Type 0 where
  pub text : List ℕ
  pub split : xs ≡ text ++ ys
  pub so : IsSoFar first over text ys
  pub reads : (later : List (List ℕ)) → read_events s last n (lines text ++ later) ≡ with_events es (read_events s now m later)

abbrev pub HasRead : Bool → Bool → GroupSetup → ℕ → ℕ → Option (List ℕ) → List GroupEvent → ℕ → ℕ → Option (List ℕ) → Type 0
HasRead first over s last n None es now m new = Unit {0}
HasRead first over s last n (Some xs) es now m None = ⊥
HasRead first over s last n (Some xs) es now m (Some ys) = HasTaken first over s last n xs es now m ys

pub read_none : (laws : TextLaws) (over : Bool) (s : GroupSetup) (last n : ℕ) (old : Option (List ℕ)) → IsOver over old → HasRead over over s last n old [] last n old
read_none laws over s last n None h = tt
read_none laws over s last n (Some xs) h = record { text = []; split = refl; so = so_begin over xs h; reads = λ later. ap (λ (z : List (List ℕ)). read_events s last n (z ++ later)) laws.none }

pub read_next : (laws : TextLaws) (first over cut : Bool) (s : GroupSetup) (last n : ℕ) (es : List GroupEvent) (now m k : ℕ) (e : GroupEvent) (old mid new : Option (List ℕ)) → HasRead first over s last n old es now m mid
    → Gives (next_part s now m) (Some e) k mid new → TakesText cut mid new → HasRead first cut s last n old (es ++ e ∷ []) (time_of e) k new
read_next laws first over cut s last n es now m k e None mid new h g t = tt
read_next laws first over cut s last n es now m k e (Some xs) None new h g t = absurd h
read_next laws first over cut s last n es now m k e (Some xs) (Some ys) None h g t = absurd g
read_next laws first over cut s last n es now m k e (Some xs) (Some ys) (Some zs) h g (more, split, ended) =
    let a = event_own s now m k (lines ys) (lines zs) e g in
    let whole = laws.whole cut more zs ended in
    let own : lines more ≡ a.line ∷ [] = laws.own ys more zs (a.line ∷ []) split whole a.split in
    let all : lines (h.text ++ more) ≡ lines h.text ++ a.line ∷ [] = laws.behind h.text ys more zs (so_whole first over h.text ys h.so) split ∙ ap (λ (z : List (List ℕ)). lines h.text ++ z) own in
    record {
      text = h.text ++ more;
      split = split-behind xs h.text ys more zs h.split split;
      so = so_more laws first cut h.text more zs ended;
      reads = λ later.
          ap (λ (z : List (List ℕ)). read_events s last n (z ++ later)) all
          ∙ ap (read_events s last n) (append_assoc (lines h.text) (a.line ∷ []) later)
          ∙ h.reads (a.line ∷ later)
          ∙ ap (with_events es) (one_more s now m k e (a.line ∷ later) later (a.alone later))
          ∙ with_more es e (read_events s (time_of e) k later);
    }

-- ---- the source failed behind a start

end_line_part : (s : GroupSetup) (last n : ℕ) → next_part s last n (codes "end" ∷ []) ≡ Ok (part None (n + 1) [])
unfolding next_part
end_line_part s last n = refl

abbrev read_with : List GroupEvent → Option Cause → Read GroupEvent
read_with es refused = record { events = es; refused = refused }

none_else : (es : List GroupEvent) (refused : Option Cause) → with_events es (none_read refused) ≡ read_with es refused
none_else es refused = ap (λ (z : List GroupEvent). read_with z refused) (append-nil es)

breaks_with : (cut : Bool) (s : GroupSetup) (x : Sharing) (last n : ℕ) (xs : List ℕ) (left : Option (List ℕ)) (waiting : List ℕ) (bytes mid : List ℕ) (es : List GroupEvent) (refused : Option Cause) → xs ≡ bytes ++ mid → ((bytes ≡ []) × (cut ≡ false)) ⊎ EndsWithLf bytes
    → read_events s last n (lines bytes) ≡ read_with es refused → IsGoodSoFar refused → TakesPart (Some mid) left → BreaksIn cut s x last n xs left waiting (waiting ++ (by_lines s es x).text)
breaks_with cut s x last n xs left waiting bytes mid es refused split ended read fine rest = record {
  bytes = bytes;
  mid = mid;
  split = split;
  ended = ended;
  good = subst (λ (r : Read GroupEvent). IsGoodSoFar r.refused) (sym read) fine;
  rows = ap (λ (r : Read GroupEvent). waiting ++ (by_lines s r.events x).text) (sym read);
  rest = rest;
}

pub breaks_in : (laws : TextLaws) (cut : Bool) (s : GroupSetup) (x : Sharing) (last n : ℕ) (xs : List ℕ) (es : List GroupEvent) (now m : ℕ) (ys : List ℕ) (left : Option (List ℕ)) (waiting : List ℕ) → HasTaken cut false s last n xs es now m ys
    → StopsAtEvent (Some ys) left → BreaksIn cut s x last n xs left waiting (waiting ++ (by_lines s es x).text)
breaks_in laws cut s x last n xs es now m ys left waiting h (inl part) =
    let read : read_events s last n (lines h.text) ≡ read_with es (Some no_end) =
    ap (read_events s last n) (sym (append-nil (lines h.text))) ∙ h.reads [] ∙ ap (with_events es) (none_more s now m [] no_end (no_line s now m)) ∙ none_else es (Some no_end) in
    breaks_with cut s x last n xs left waiting h.text ys es (Some no_end) h.split h.so read refl part
breaks_in laws cut s x last n xs es now m ys None waiting h (inr ends) = absurd ends
breaks_in laws cut s x last n xs es now m ys (Some zs) waiting h (inr (more, mid, split, ends, line, part)) =
    let read : read_events s last n (lines (h.text ++ more)) ≡ read_with es None =
    ap (read_events s last n) (laws.behind h.text ys more mid (so_whole cut false h.text ys h.so) split ∙ ap (λ (z : List (List ℕ)). lines h.text ++ z) line)
    ∙ h.reads (codes "end" ∷ []) ∙ ap (with_events es) (no_more s now m (m + 1) (codes "end" ∷ []) [] (end_line_part s now m)) ∙ none_else es None in
    breaks_with cut s x last n xs (Some zs) waiting (h.text ++ more) mid es None (split-behind xs h.text ys more mid h.split split) (inr (laws.ends h.text more ends)) read tt part

-- ---- the whole

-- all was given that was taken or is ahead
pub beyond_is : (y : Ahead) (given : ℕ) → y.taken + length y.ahead ≡ given → IsSpent y → length y.ahead ≡ given - most_taken
beyond_is y given all (few, inl none) = let empty = ap length none in omega (arith, all, few, empty)
beyond_is y given all (few, inr full) = omega (arith, all, full)

input_is : (bytes : List ℕ) (r : Result Input Cause) → input_of_lines (lines bytes) ≡ r → input_of bytes ≡ r
unfolding input_of
input_is bytes r h = h

rows_are : (s : GroupSetup) (start : ℕ) (r : Read GroupEvent) → run_text s start r.events ≡ openings_text s start ++ (by_lines s r.events (opened s start)).text
unfolding run_text
rows_are s start r = refl

-- no start was read
pub breaks_before : (xs : List ℕ) (left : Option (List ℕ)) → BreaksBefore xs left → Breaks xs left []
breaks_before xs left h = record {
  bytes = h.bytes;
  mid = h.mid;
  split = h.split;
  ended = inr (h.whole, h.reads);
  good = subst (λ (r : Result Input Cause). IsGoodSoFar (refusal_of r)) (sym h.reads) refl;
  rows = sym (ap rows_of h.reads);
  rest = h.rest;
}

ended_after : (laws : TextLaws) (cut : Bool) (text ys more : List ℕ) → IsCutOff cut text ys → ((more ≡ []) × (cut ≡ false)) ⊎ EndsWithLf more → EndsWithLf (text ++ more)
ended_after laws cut text ys more ended (inl (none, uncut)) = laws.ends_still text more (subst (λ (b : Bool). IsCutOff b text ys) uncut ended) none
ended_after laws cut text ys more ended (inr ends) = laws.ends text more ends

-- what was read behind a start is read of the whole
pub breaks_after : (laws : TextLaws) (cut : Bool) (xs ys : List ℕ) (s : GroupSetup) (start number : ℕ) (left : Option (List ℕ)) (written waiting front : List ℕ) → Opened (lines xs) s start number (lines ys)
    → TakesText cut (Some xs) (Some ys) → openings_text s start ≡ written ++ waiting → BreaksIn cut s (opened s start) start number ys left waiting front → Breaks xs left (written ++ front)
breaks_after laws cut xs ys s start number left written waiting front o (text, split, ended) rows h =
    let a = opened_own (lines xs) (lines ys) s start number o in
    let whole = laws.whole cut text ys ended in
    let own : lines text ≡ a.own = laws.own xs text ys a.own split whole a.split in
    let all : lines (text ++ h.bytes) ≡ a.own ++ lines h.bytes = laws.behind text ys h.bytes h.mid whole h.split ∙ ap (λ (z : List (List ℕ)). z ++ lines h.bytes) own in
    let r = read_events s start number (lines h.bytes) in
    let is : input_of (text ++ h.bytes) ≡ Ok (input_with s start r) = input_is (text ++ h.bytes) (Ok (input_with s start r)) (ap input_of_lines all ∙ a.alone (lines h.bytes)) in
    let more = (by_lines s r.events (opened s start)).text in
    record {
      bytes = text ++ h.bytes;
      mid = h.mid;
      split = split-behind xs text ys h.bytes h.mid split h.split;
      ended = inl (ended_after laws cut text ys h.bytes ended h.ended);
      good = subst (λ (z : Result Input Cause). IsGoodSoFar (refusal_of z)) (sym is) h.good;
      rows =
          ap (λ (z : List ℕ). written ++ z) h.rows ∙ sym (append_assoc written waiting more) ∙ ap (λ (z : List ℕ). z ++ more) (sym rows)
          ∙ sym (rows_are s start r) ∙ sym (ap rows_of is);
      rest = h.rest;
    }
