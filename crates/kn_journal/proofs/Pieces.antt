-- What is written piece by piece.
use Rattle.std.proofs.Common.{◌≡◌, ◌≤◌, ◌<◌, ◌+◌, ℕ, List, [], ◌∷◌, ◌++◌, length, length-append, take, drop, get_or, append_assoc, append-nil, refl, sym, ap, ◌∙◌, subst, arith}
use Rattle.std.specs.Prelude.{Option, Result, Ok, Err, OnOk, OnErr, codes}
use Rattle.std.specs.Fmt.{decimal}
use Rattle.std.specs.Io.KnownBytes.{Appends}
use Rattle.std.proofs.KnownBytes.{Appends-trans}
use Rattle.std.proofs.lemmas.List.{take_more, take-append-le, take-append-drop}
use Rattle.std.proofs.Math.Seq.{take-append-add}
use Rattle.kn_event.specs.declared.event.Event.{Event}
use Rattle.kn_event.specs.EventLine.{event_text}
use Rattle.kn_io.specs.Prefix.{AppendsPrefix}
use Rattle.kn_preamble.specs.First.{first_line}
use Rattle.kn_journal.specs.declared.journal.Journal.{Journal}
use Rattle.kn_journal.specs.Journal.{events_text, journal_text}

first_of_more : (n : ℕ) (x y rest : List ℕ) → n ≤ length y → take (length x + n) (x ++ (y ++ rest)) ≡ x ++ take n y
first_of_more n x y rest h = take-append-add x (y ++ rest) n ∙ ap (λ (z : List ℕ). x ++ z) (take-append-le n y rest h)

-- all of a first piece was written, and some of a second one: some of both and of what follows
pub prefix_after : (a b c : Option (List ℕ)) (x y rest : List ℕ) → Appends a b x → AppendsPrefix b c y → AppendsPrefix a c (x ++ (y ++ rest))
prefix_after a b c x y rest h (n, few, k) =
    (length x + n, simp (length-append) (omega (arith, few)), rw (first_of_more n x y rest few) (Appends-trans a b c x (take n y) h k))

-- .. where nothing follows
pub prefix_last : (a b c : Option (List ℕ)) (x y : List ℕ) → Appends a b x → AppendsPrefix b c y → AppendsPrefix a c (x ++ y)
prefix_last a b c x y h k =
    let P : List ℕ → Type 0 = λ z. AppendsPrefix a c (x ++ z) in
    subst P (append-nil y) (prefix_after a b c x y [] h k)

-- some of a piece is some of it and of what follows
pub prefix_more : (a b : Option (List ℕ)) (x rest : List ℕ) → AppendsPrefix a b x → AppendsPrefix a b (x ++ rest)
prefix_more a b x rest (n, few, k) = (n, simp (length-append) (omega (arith, few)), rw (take-append-le n x rest few) k)

-- what is said of one outcome, turned into what follows from it
pub on_ok : {T E : Type 0} {P Q : Type 0} (r : Result T E) → (P → Q) → OnOk r P → OnOk r Q
on_ok (Ok x) f h = f h
on_ok (Err e) f h = tt

pub on_err : {T E : Type 0} {P Q : Type 0} (r : Result T E) → (P → Q) → OnErr r P → OnErr r Q
on_err (Ok x) f h = tt
on_err (Err e) f h = f h

-- ---- events

events-append : (xs ys : List Event) → events_text (xs ++ ys) ≡ events_text xs ++ events_text ys
events-append [] ys = refl
events-append (e ∷ xs) ys = ap (λ (z : List ℕ). event_text e ++ 10 ∷ z) (events-append xs ys) ∙ sym (append_assoc (event_text e) (10 ∷ events_text xs) (events_text ys))

pub events-more : (es : List Event) (i : ℕ) (d : Event) → i < length es → events_text (take (i + 1) es) ≡ events_text (take i es) ++ (event_text (get_or es i d) ++ 10 ∷ [])
events-more es i d h = rw (take_more es i d h) (events-append (take i es) (get_or es i d ∷ []))

-- the lines up to one, its line, and the others
pub events-around : (es : List Event) (i : ℕ) (d : Event) → i < length es
    → events_text es ≡ events_text (take i es) ++ ((event_text (get_or es i d) ++ 10 ∷ []) ++ events_text (drop (i + 1) es))
events-around es i d h =
    ap events_text (sym (take-append-drop (i + 1) es)) ∙ events-append (take (i + 1) es) (drop (i + 1) es)
    ∙ ap (λ (m : List ℕ). m ++ events_text (drop (i + 1) es)) (events-more es i d h)
    ∙ append_assoc (events_text (take i es)) (event_text (get_or es i d) ++ 10 ∷ []) (events_text (drop (i + 1) es))

-- ---- the whole

regroup : (first text start events end : List ℕ)
    → ((first ++ 10 ∷ []) ++ text) ++ (((start ++ 10 ∷ []) ++ events) ++ end) ≡ first ++ 10 ∷ (text ++ (start ++ 10 ∷ (events ++ end)))
regroup first text start events end = simp append_assoc

abbrev pub opening_text : Journal → List ℕ
opening_text j = (first_line j.version ++ 10 ∷ []) ++ j.setup.text

abbrev pub course_text : Journal → List ℕ
course_text j = ((codes "start " ++ decimal j.start) ++ 10 ∷ []) ++ events_text j.events

pub whole-text : (j : Journal) → opening_text j ++ (course_text j ++ codes "end\n") ≡ journal_text j
unfolding journal_text
whole-text j = regroup (first_line j.version) j.setup.text (codes "start " ++ decimal j.start) (events_text j.events) (codes "end\n")

-- some of the opening; the opening and some of the course; these and some of the end; all
pub some_opening : (a b : Option (List ℕ)) (j : Journal) → AppendsPrefix a b (opening_text j) → AppendsPrefix a b (journal_text j)
some_opening a b j h = subst (AppendsPrefix a b) (whole-text j) (prefix_more a b (opening_text j) (course_text j ++ codes "end\n") h)

pub some_course : (a b d : Option (List ℕ)) (j : Journal) → Appends a b (opening_text j) → AppendsPrefix b d (course_text j) → AppendsPrefix a d (journal_text j)
some_course a b d j h k = subst (AppendsPrefix a d) (whole-text j) (prefix_after a b d (opening_text j) (course_text j) (codes "end\n") h k)

-- both parts in front of the end
before_end : (j : Journal) → (opening_text j ++ course_text j) ++ codes "end\n" ≡ journal_text j
before_end j = append_assoc (opening_text j) (course_text j) (codes "end\n") ∙ whole-text j

pub some_end : (a b d e : Option (List ℕ)) (j : Journal) → Appends a b (opening_text j) → Appends b d (course_text j) → AppendsPrefix d e (codes "end\n") → AppendsPrefix a e (journal_text j)
some_end a b d e j h k l = subst (AppendsPrefix a e) (before_end j) (prefix_last a d e (opening_text j ++ course_text j) (codes "end\n") (Appends-trans a b d (opening_text j) (course_text j) h k) l)

pub all_written : (a b d e : Option (List ℕ)) (j : Journal) → Appends a b (opening_text j) → Appends b d (course_text j) → Appends d e (codes "end\n") → Appends a e (journal_text j)
all_written a b d e j h k l =
    subst (Appends a e) (before_end j) (Appends-trans a d e (opening_text j ++ course_text j) (codes "end\n") (Appends-trans a b d (opening_text j) (course_text j) h k) l)
