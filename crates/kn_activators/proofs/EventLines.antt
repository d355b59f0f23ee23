-- Events that are read one after the other.
use Rattle.std.proofs.Common.{◌≡◌, ◌+◌, ℕ, Bool, true, false, List, [], ◌∷◌, ◌++◌, refl, sym, ap, subst, ◌∙◌, append_assoc, append-nil}
use Rattle.std.specs.Prelude.{Option, None, Some, Result, Ok, Err, codes, if◌then◌else◌}
use Rattle.std.specs.Str.{bytes_eq}
use Rattle.kn_journal.specs.Causes.{Cause, line_too_long}
use Rattle.kn_journal.specs.Lines.{fits, lines}
use Rattle.kn_journal.specs.Parts.{Part, part, then_part}
use Rattle.kn_journal.specs.Telling.{Gives}
use Rattle.kn_activators.specs.declared.event.GroupEvent.{GroupEvent}
use Rattle.kn_activators.specs.declared.setup.GroupSetup.{GroupSetup}
use Rattle.kn_activators.specs.Reading.{group_event_of}
use Rattle.kn_activators.specs.Sharing.{Outcome, Sharing, and_then, by_line, by_lines, said, time_of, unsaid}
use Rattle.kn_activators.specs.Verdict.{in_time, next_in, next_part, read_events}
use Rattle.kn_journal.specs.Series.{Read, end_part, item_in, none_read, nothing_part, with_event}

-- ---- what one line leaves

record IsOneLine (ls : List (List ℕ)) (p : Part (Option GroupEvent)) : Type 0 where
  line : List ℕ
  more : List (List ℕ)
  split : ls ≡ line ∷ more
  left : p.left ≡ more

abbrev good : {T : Type 0} → Part T → Result (Part T) Cause
good p = Ok p

made_is : {T : Type 0} (x : T) (n : ℕ) (left : List (List ℕ)) (p : Part T) → good (part x n left) ≡ good p → (p.value ≡ x) × (p.left ≡ left)
made_is x n left p h = let same : part x n left ≡ p = cc in (ap (λ (q : Part _). q.value) (sym same), ap (λ (q : Part _). q.left) (sym same))

-- an event was read of one line
event-left : (s : GroupSetup) (last m : ℕ) (ls : List (List ℕ)) (p : Part (Option GroupEvent)) (e : GroupEvent) → next_part s last m ls ≡ Ok p → p.value ≡ Some e → IsOneLine ls p
unfolding next_part
event-left s last m [] p e h is = absurd (cc)
event-left s last m (line ∷ more) p e h is = by_fit (fits line) h
  where
    by_event : (r : Result GroupEvent Cause) → item_in (m + 1) more r ≡ Ok p → IsOneLine (line ∷ more) p
    by_event (Ok k) g = record { line = line; more = more; split = refl; left = (made_is (Some k) (m + 1) more p g).1 }
    by_event (Err cause) g = absurd (cc)

    by_end : (r : Result (Part (Unit {0})) Cause) → then_part r (λ _ n left. Ok (part None n left)) ≡ Ok p → IsOneLine (line ∷ more) p
    by_end (Ok q) g = let none = (made_is None q.number q.left p g).0 in absurd (cc)
    by_end (Err cause) g = absurd (cc)

    by_word : (b : Bool) → (if b then end_part (m + 1) more else item_in (m + 1) more (in_time (m + 1) last (group_event_of s.activators s.pods line))) ≡ Ok p → IsOneLine (line ∷ more) p
    by_word true g = by_end (nothing_part (m + 1) more) g
    by_word false g = by_event (in_time (m + 1) last (group_event_of s.activators s.pods line)) g

    by_fit : (b : Bool) → (if b then next_in s last (m + 1) line more else Err (line_too_long (m + 1))) ≡ Ok p → IsOneLine (line ∷ more) p
    by_fit true g = by_word (bytes_eq line (codes "end")) g
    by_fit false g = absurd (cc)

pub one_more : (s : GroupSetup) (last m k : ℕ) (e : GroupEvent) (ls left : List (List ℕ)) → next_part s last m ls ≡ Ok (part (Some e) k left) → read_events s last m ls ≡ with_event e (read_events s (time_of e) k left)
unfolding read_events
one_more s last m k e ls left h = by (event-left s last m ls (part (Some e) k left) e h refl)
  where
    by : IsOneLine ls (part (Some e) k left) → read_events s last m ls ≡ with_event e (read_events s (time_of e) k left)
    by one =
        let same : left ≡ one.more = one.left in
        let told : next_part s last m (one.line ∷ one.more) ≡ Ok (part (Some e) k left) = subst (λ xs. next_part s last m xs ≡ Ok (part (Some e) k left)) one.split h in
        rw one.split (rw (told, same) refl)

pub no_more : (s : GroupSetup) (last m k : ℕ) (ls left : List (List ℕ)) → next_part s last m ls ≡ Ok (part None k left) → read_events s last m ls ≡ none_read None
unfolding read_events
no_more s last m k [] left h = rw h refl
no_more s last m k (line ∷ more) left h = rw h refl

pub none_more : (s : GroupSetup) (last m : ℕ) (ls : List (List ℕ)) (cause : Cause) → next_part s last m ls ≡ Err cause → read_events s last m ls ≡ none_read (Some cause)
unfolding read_events
none_more s last m [] cause h = rw h refl
none_more s last m (line ∷ more) cause h = rw h refl

-- ---- events so far

abbrev pub with_events : List GroupEvent → Read GroupEvent → Read GroupEvent
with_events es r = record { events = es ++ r.events; refused = r.refused }

-- these events were read of the old bytes, up to line m and this time; the new ones are left
abbrev pub GoesOn : GroupSetup → ℕ → ℕ → Option (List ℕ) → List GroupEvent → ℕ → ℕ → Option (List ℕ) → Type 0
GoesOn s last n None es now m new = Unit {0}
GoesOn s last n (Some xs) es now m None = ⊥
GoesOn s last n (Some xs) es now m (Some ys) = read_events s last n (lines xs) ≡ with_events es (read_events s now m (lines ys))

pub goes_none : (s : GroupSetup) (last n : ℕ) (old : Option (List ℕ)) → GoesOn s last n old [] last n old
goes_none s last n None = tt
goes_none s last n (Some xs) = refl

pub with_more : (es : List GroupEvent) (e : GroupEvent) (r : Read GroupEvent) → with_events es (with_event e r) ≡ with_events (es ++ e ∷ []) r
with_more es e r = ap (λ (xs : List GroupEvent). with_list xs r.refused) (sym (append_assoc es (e ∷ []) r.events))
  where
    with_list : List GroupEvent → Option Cause → Read GroupEvent
    with_list xs refused = record { events = xs; refused = refused }

pub goes_next : (s : GroupSetup) (last n : ℕ) (es : List GroupEvent) (now m k : ℕ) (e : GroupEvent) (old mid new : Option (List ℕ)) → GoesOn s last n old es now m mid → Gives (next_part s now m) (Some e) k mid new
    → GoesOn s last n old (es ++ e ∷ []) (time_of e) k new
goes_next s last n es now m k e None mid new a g = tt
goes_next s last n es now m k e (Some xs) None new a g = absurd a
goes_next s last n es now m k e (Some xs) (Some ys) None a g = absurd g
goes_next s last n es now m k e (Some xs) (Some ys) (Some zs) a g =
    a ∙ (ap (with_events es) (one_more s now m k e (lines ys) (lines zs) g) ∙ with_more es e (read_events s (time_of e) k (lines zs)))

-- ---- what lines make

lines-cons : (s : GroupSetup) (e : GroupEvent) (es : List GroupEvent) (x : Sharing) → by_lines s (e ∷ es) x ≡ and_then (by_line s e x) (by_lines s es)
unfolding by_lines
lines-cons s e es x = refl

pub lines_nil : (s : GroupSetup) (x : Sharing) → by_lines s [] x ≡ unsaid x
unfolding by_lines
lines_nil s x = refl

abbrev with_text : List ℕ → Sharing → Outcome
with_text t x = record { now = x; text = t }

said_said : (a b : List ℕ) (o : Outcome) → said a (said b o) ≡ said (a ++ b) o
said_said a b o = ap (λ (t : List ℕ). with_text t o.now) (sym (append_assoc a b o.text))

pub lines_more : (s : GroupSetup) (es later : List GroupEvent) (x : Sharing) → by_lines s (es ++ later) x ≡ and_then (by_lines s es x) (by_lines s later)
lines_more s [] later x = rw (lines_nil s x) refl
lines_more s (e ∷ es) later x =
    let o = by_line s e x in
    lines-cons s e (es ++ later) x
    ∙ (ap (said o.text) (lines_more s es later o.now)
    ∙ (said_said o.text (by_lines s es o.now).text (by_lines s later (by_lines s es o.now).now)
    ∙ ap (λ (z : Outcome). and_then z (by_lines s later)) (sym (lines-cons s e es x))))

pub lines_one : (s : GroupSetup) (es : List GroupEvent) (e : GroupEvent) (x : Sharing) → by_lines s (es ++ e ∷ []) x ≡ and_then (by_lines s es x) (by_line s e)
lines_one s es e x =
    let y = (by_lines s es x).now in
    let one : by_lines s (e ∷ []) y ≡ by_line s e y = lines-cons s e [] y ∙ (ap (said (by_line s e y).text) (lines_nil s (by_line s e y).now) ∙ ap (λ (t : List ℕ). with_text t (by_line s e y).now) (append-nil (by_line s e y).text)) in
    lines_more s es (e ∷ []) x ∙ ap (said (by_lines s es x).text) one
