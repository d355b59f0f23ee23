-- One event of a journal, and how it ends.
use Rattle.std.proofs.Common.{◌≡◌, ◌+◌, ℕ, Bool, List, [], ◌∷◌, ◌++◌, length, length-append, append_assoc, append-nil, refl, sym, ap, ◌∙◌, subst, arith}
use Rattle.std.specs.Prelude.{Option, None, Some, Err, Contains}
use Rattle.kn_event.specs.declared.event.Event.{Event}
use Rattle.kn_io.specs.Prefix.{AppendsPrefix}
use Rattle.kn_teller.specs.Manner.{Manner, told}
use Rattle.kn_teller.specs.Run.{Run, later}
use Rattle.kn_journal.specs.declared.error.JournalError.{JournalError}
use Rattle.kn_journal.specs.declared.status.Status.{Status}
use Rattle.kn_journal.specs.declared.status.Status.TheVariants as status
use Rattle.kn_journal.specs.Causes.{Cause, error_of}
use Rattle.kn_journal.specs.Lines.{lines}
use Rattle.kn_journal.specs.Journal.{next_part, read_events}
use Rattle.kn_journal.specs.Series.{Read, none_read}
use Rattle.kn_journal.specs.Telling.{Gives}
use Rattle.kn_journal.specs.Reading.{EndsThere}
use Rattle.kn_follow.specs.Endings.{Stops, Writes, status_by, status_of}
use Rattle.kn_follow.specs.Following.{BreaksFollowing, Follows, ending, rest_of_text, ran}
use Rattle.kn_report.specs.AddingLaws.{AddingLaws}
use Rattle.kn_report.specs.Waiting.{Adds}
use Rattle.kn_follow.proofs.Lines.{IsEventLine, next_end, next_event, next_none, next_refused, no_byte, with_events, with_events-more}
use Rattle.kn_follow.proofs.Statuses.{plain_end, stops_after, stops_nil, writes_stop}

-- ---- what is told of events

pub told-nil : (w : Manner) (run : Run) → told w run [] ≡ []
unfolding told
told-nil w run = refl

-- what is told of some events, and then of others
pub told-append : (w : Manner) (run : Run) (es others : List Event) → told w run (es ++ others) ≡ told w run es ++ told w (ran run es) others
unfolding told
told-append w run [] others = ap (λ (es : List Event). told w (record { spec = run.spec; start = run.start; events = es }) others) (sym (append-nil run.events))
told-append w run (d ∷ es) others =
    let same : ran (later run d) es ≡ ran run (d ∷ es) = ap (λ (x : List Event). record { spec = run.spec; start = run.start; events = x }) (append_assoc run.events (d ∷ []) es) in
    ap (λ (z : List ℕ). w.tells run d ++ z) (told-append w (later run d) es others)
    ∙ sym (append_assoc (w.tells run d) (told w (later run d) es) (told w (ran (later run d) es) others))
    ∙ ap (λ (u : Run). (w.tells run d ++ told w (later run d) es) ++ told w u others) same

told-one : (w : Manner) (run : Run) (e : Event) → told w run (e ∷ []) ≡ w.tells run e
unfolding told
told-one w run e = append-nil (w.tells run e)

pub told-more : (w : Manner) (run : Run) (es : List Event) (e : Event) → told w run (es ++ e ∷ []) ≡ told w run es ++ w.tells (ran run es) e
told-more w run es e = told-append w run es (e ∷ []) ∙ ap (λ (z : List ℕ). told w run es ++ z) (told-one w (ran run es) e)

-- what is written of these events, and then of the others
rest-split : (version : ℕ) (w : Manner) (run : Run) (es : List Event) (r : Read Event)
    → (more : List ℕ) × (rest_of_text version w run (with_events es r) ≡ told w run es ++ more)
unfolding rest_of_text
rest-split version w run es r =
    let rest = told w (ran run es) r.events in
    let end = ending version w (ran run (es ++ r.events)) r.refused in
    (rest ++ end, ap (λ (z : List ℕ). z ++ end) (told-append w run es r.events) ∙ append_assoc (told w run es) rest end)

-- ---- what was read so far

-- lines that are these events, whatever follows them
pub record Reads (version last number : ℕ) (all : List (List ℕ)) (es : List Event) (now m : ℕ) (left : List (List ℕ)) : Type 0 where
  pub own : List (List ℕ)
  pub split : all ≡ own ++ left
  pub count : number + length own ≡ m
  pub reads : (later : List (List ℕ)) → read_events version last number (own ++ later) ≡ with_events es (read_events version now m later)

abbrev pub GoesOn : ℕ → ℕ → ℕ → Option (List ℕ) → List Event → ℕ → ℕ → Option (List ℕ) → Type 0
GoesOn version last number None es now m rest = Unit {0}
GoesOn version last number (Some xs) es now m None = ⊥
GoesOn version last number (Some xs) es now m (Some ys) = Reads version last number (lines xs) es now m (lines ys)

pub goes_begin : (version last number : ℕ) (known : Option (List ℕ)) → GoesOn version last number known [] last number known
goes_begin version last number None = tt
goes_begin version last number (Some xs) = record { own = []; split = refl; count = omega arith; reads = λ later. refl }

pub reads_more : (version last number : ℕ) (all : List (List ℕ)) (es : List Event) (now m : ℕ) (left : List (List ℕ)) (e : Event) (n : ℕ) (after : List (List ℕ))
    → Reads version last number all es now m left → IsEventLine version now m left e n after → Reads version last number all (es ++ e ∷ []) e.time n after
reads_more version last number all es now m left e n after h k = record {
  own = h.own ++ k.line ∷ [];
  split = h.split ∙ ap (λ (x : List (List ℕ)). h.own ++ x) k.split ∙ sym (append_assoc h.own (k.line ∷ []) after);
  count = omega (arith, h.count, k.count, length-append h.own (k.line ∷ []));
  reads = λ later.
      ap (λ (x : List (List ℕ)). read_events version last number x) (append_assoc h.own (k.line ∷ []) later)
      ∙ h.reads (k.line ∷ later)
      ∙ ap (with_events es) (k.reads later)
      ∙ with_events-more es e (read_events version e.time n later);
}

pub goes_more : (version last number : ℕ) (known : Option (List ℕ)) (es : List Event) (now m : ℕ) (rest : Option (List ℕ)) (e : Event) (n : ℕ) (left : Option (List ℕ))
    → GoesOn version last number known es now m rest → Gives (next_part version now m) (Some e) n rest left → GoesOn version last number known (es ++ e ∷ []) e.time n left
goes_more version last number None es now m rest e n left h g = tt
goes_more version last number (Some xs) es now m None e n left h g = absurd h
goes_more version last number (Some xs) es now m (Some ys) e n None h g = absurd g
goes_more version last number (Some xs) es now m (Some ys) e n (Some zs) h g =
    reads_more version last number (lines xs) es now m (lines ys) e n (lines zs) h (next_event version now m (lines ys) e n (lines zs) g)

-- all that the lines say
pub reads_all : (version last number : ℕ) (all : List (List ℕ)) (es : List Event) (now m : ℕ) (left : List (List ℕ))
    → Reads version last number all es now m left → read_events version last number all ≡ with_events es (read_events version now m left)
reads_all version last number all es now m left h = ap (λ (x : List (List ℕ)). read_events version last number x) h.split ∙ h.reads left

-- no further event comes
pub none_more : (es : List Event) (refused : Option Cause) → with_events es (none_read refused) ≡ record { events = es; refused = refused }
none_more es refused = ap (λ (x : List Event). record { events = x; refused = refused }) (append-nil es)

-- ---- how it stops

-- the lines end, or one is refused
follows_end : AddingLaws → (over : Bool) (version : ℕ) (w : Manner) (run : Run) (last number : ℕ) (xs : List ℕ) (left : Option (List ℕ)) (waiting now : List ℕ) (old mid new : Option (List ℕ)) (es : List Event) (refused : Option Cause) (result : Status)
    → read_events version last number (lines xs) ≡ record { events = es; refused = refused }
    → Adds old mid waiting now (told w run es)
    → Stops (now ++ ending version w (ran run es) refused) mid new (status_by refused) result
    → Follows over version w run last number (Some xs) left waiting old new result
unfolding rest_of_text
follows_end adding over version w run last number xs left waiting now old mid new es refused result h adds stops =
    let P : Read Event → Type 0 = λ r. Writes (waiting ++ rest_of_text version w run r) (status_by r.refused) (BreaksFollowing over version w run last number xs left waiting) old new result in
    subst P (sym h)
    (writes_stop _ (status_by refused) _ old new result (plain_end refused) (stops_after adding old mid new waiting now (told w run es) _ _ result adds stops))

-- all lines were good
pub goes_good : AddingLaws → (over : Bool) (version : ℕ) (w : Manner) (run : Run) (last number : ℕ) (known : Option (List ℕ)) (waiting now : List ℕ) (old mid new : Option (List ℕ)) (es : List Event) (time m : ℕ) (rest : Option (List ℕ)) (n : ℕ) (left : Option (List ℕ)) (result : Status)
    → GoesOn version last number known es time m rest → Gives (next_part version time m) None n rest left
    → Adds old mid waiting now (told w run es)
    → Stops (now ++ w.ends version (ran run es)) mid new status.Ok result
    → Follows over version w run last number known left waiting old new result
goes_good adding over version w run last number None waiting now old mid new es time m rest n left result h g adds stops = tt
goes_good adding over version w run last number (Some xs) waiting now old mid new es time m None n left result h g adds stops = absurd h
goes_good adding over version w run last number (Some xs) waiting now old mid new es time m (Some ys) n None result h g adds stops = absurd g
goes_good adding over version w run last number (Some xs) waiting now old mid new es time m (Some ys) n (Some zs) result h g adds stops =
    follows_end adding over version w run last number xs (Some zs) waiting now old mid new es None result
    (reads_all version last number (lines xs) es time m (lines ys) h ∙ ap (with_events es) (next_end version time m (lines ys) n (lines zs) g) ∙ none_more es None)
    adds stops

-- a line is refused
pub goes_refused : AddingLaws → (over : Bool) (version : ℕ) (w : Manner) (run : Run) (last number : ℕ) (xs : List ℕ) (waiting now : List ℕ) (old mid new : Option (List ℕ)) (es : List Event) (time m : ℕ) (ys : List ℕ) (left : Option (List ℕ)) (cause : Cause) (e : JournalError) (result : Status)
    → Reads version last number (lines xs) es time m (lines ys) → error_of cause ≡ e → next_part version time m (lines ys) ≡ Err cause
    → Adds old mid waiting now (told w run es) → Stops now mid new (status_of e) result
    → Follows over version w run last number (Some xs) left waiting old new result
goes_refused adding over version w run last number xs waiting now old mid new es time m ys left cause e result h is g adds stops =
    follows_end adding over version w run last number xs left waiting now old mid new es (Some cause) result
    (reads_all version last number (lines xs) es time m (lines ys) h ∙ ap (with_events es) (next_refused version time m (lines ys) cause g) ∙ none_more es (Some cause))
    adds
    (stops_nil now mid new _ result (subst (λ (x : JournalError). Stops now mid new (status_of x) result) (sym is) stops))

-- an event's rows were not all written, or what waited
pub cut : AddingLaws → (version : ℕ) (w : Manner) (run : Run) (es : List Event) (r : Read Event) (all : Read Event) (waiting some : List ℕ) (old new : Option (List ℕ))
    → all ≡ with_events es r → AppendsPrefix old new (waiting ++ told w run es) → AppendsPrefix old new (waiting ++ rest_of_text version w run all)
cut adding version w run es r all waiting some old new h k =
    let split = rest-split version w run es r in
    let text : told w run es ++ split.0 ≡ rest_of_text version w run all = sym split.1 ∙ ap (λ (x : Read Event). rest_of_text version w run x) (sym h) in
    subst (λ (z : List ℕ). AppendsPrefix old new (waiting ++ z)) text (adding.behind old new waiting (told w run es) split.0 k)

pub goes_cut : AddingLaws → (over : Bool) (version : ℕ) (w : Manner) (run : Run) (last number : ℕ) (known : Option (List ℕ)) (waiting now : List ℕ) (old mid new : Option (List ℕ)) (es : List Event) (time m : ℕ) (rest : Option (List ℕ)) (e : Event) (n : ℕ) (left last_left : Option (List ℕ))
    → GoesOn version last number known es time m rest → Gives (next_part version time m) (Some e) n rest left
    → Adds old mid waiting now (told w run es) → AppendsPrefix mid new (now ++ w.tells (ran run es) e)
    → Follows over version w run last number known last_left waiting old new status.WriteFault
goes_cut adding over version w run last number None waiting now old mid new es time m rest e n left last_left h g adds some = tt
goes_cut adding over version w run last number (Some xs) waiting now old mid new es time m None e n left last_left h g adds some = absurd h
goes_cut adding over version w run last number (Some xs) waiting now old mid new es time m (Some ys) e n None last_left h g adds some = absurd g
goes_cut adding over version w run last number (Some xs) waiting now old mid new es time m (Some ys) e n (Some zs) last_left h g adds some =
    let more = reads_more version last number (lines xs) es time m (lines ys) e n (lines zs) h (next_event version time m (lines ys) e n (lines zs) g) in
    let all = reads_all version last number (lines xs) (es ++ e ∷ []) e.time n (lines zs) more in
    let rows = adding.last new (w.tells (ran run es) e) adds some in
    cut adding version w run (es ++ e ∷ []) (read_events version e.time n (lines zs)) _ waiting [] old new all
    (subst (λ (z : List ℕ). AppendsPrefix old new (waiting ++ z)) (sym (told-more w run es e)) rows)

pub no_lf : ¬ Contains {X = ℕ} [] 10
no_lf h = omega (arith, h.1)

-- ---- whether the bytes are known

-- known bytes stay known
abbrev pub IsStill : Option (List ℕ) → Option (List ℕ) → Type 0
IsStill None new = Unit {0}
IsStill (Some xs) None = ⊥
IsStill (Some xs) (Some ys) = Unit {0}

pub still_begin : (a : Option (List ℕ)) → IsStill a a
still_begin None = tt
still_begin (Some xs) = tt

pub still_more : (version last n : ℕ) (e : Event) (m : ℕ) (a b d : Option (List ℕ)) → IsStill a b → Gives (next_part version last n) (Some e) m b d → IsStill a d
still_more version last n e m None b d h g = tt
still_more version last n e m (Some xs) None d h g = absurd h
still_more version last n e m (Some xs) (Some ys) None h g = absurd g
still_more version last n e m (Some xs) (Some ys) (Some zs) h g = tt

pub ends_there : (version last n m : ℕ) (a b d : Option (List ℕ)) → IsStill a b → Gives (next_part version last n) None m b d → EndsThere a d
ends_there version last n m None b d h g = tt
ends_there version last n m (Some xs) None d h g = absurd h
ends_there version last n m (Some xs) (Some ys) None h g = absurd g
ends_there version last n m (Some xs) (Some ys) (Some zs) h g = ap (λ (z : List ℕ). Some z) (no_byte zs (next_none version last n (lines ys) m (lines zs) g))
