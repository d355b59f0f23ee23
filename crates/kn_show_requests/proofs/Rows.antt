-- The lines of rows, one after the other.
use Rattle.std.proofs.Common.{◌≡◌, refl, sym, ap, ◌∙◌, ℕ, ◌+◌, ◌<◌, true, false, List, [], ◌∷◌, ◌++◌, length, get_or, take, drop, append_assoc, append-nil, Option, Some}
use Rattle.std.specs.Prelude.{option_map}
use Rattle.std.proofs.lemmas.List.{drop_more, take-append-drop, take_more}
use Rattle.kn_event.specs.declared.entry.Entry.{Entry}
use Rattle.kn_event.specs.declared.entry.Row.{Row}
use Rattle.kn_event.specs.declared.entry.Row.TheVariants as row
use Rattle.kn_event.specs.declared.event.Event.{Event}
use Rattle.kn_event.specs.declared.revision.Spec.{Spec}
use Rattle.kn_trace.specs.Rows.{arrived_by, ended_by}
use Rattle.kn_trace.specs.Trace.{Trace}
use Rattle.kn_lives.specs.declared.lives.Life.{Life}
use Rattle.kn_lives.specs.Lives.{AreKnown, AreLiveBy, ComeNext, ComesNext, by_row, life_at, life_in, tag_of}
use Rattle.kn_show_requests.specs.declared.told.Outcome.TheVariants as outcome
use Rattle.kn_show_requests.specs.Requests.{ended, row_text, rows_text, told_by}
use Rattle.kn_show_requests.specs.Texts.{line_where}

-- ---- what a table of lives tells of a row is what the trace does

same_told : (es : List Event) (c : Trace) (l : List (ℕ × Life)) (tag t : ℕ) (x : Row) → ((r : ℕ) → arrived_by x ≡ Some r → tag_of es r ≡ tag) → AreLiveBy ended_by c x → AreKnown l es c
    → told_by (λ _. tag) (life_at l) t x ≡ told_by (tag_of es) (λ r. Some (life_in es c r)) t x
same_told es c l tag t (row.QueueFull r pod) tagged alive known = rw (tagged r refl) refl
same_told es c l tag t (row.Overload r) tagged alive known = rw (tagged r refl) refl
same_told es c l tag t (row.Finish r true) tagged alive known = ap (λ (o : Option Life). option_map (λ x. ended r x t outcome.Ok) o) (known r (alive r refl))
same_told es c l tag t (row.Finish r false) tagged alive known = ap (λ (o : Option Life). option_map (λ x. ended r x t outcome.Failed) o) (known r (alive r refl))
same_told es c l tag t (row.Expire r) tagged alive known = ap (λ (o : Option Life). option_map (λ x. ended r x t outcome.Expired) o) (known r (alive r refl))
same_told es c l tag t (row.Cancel r) tagged alive known = ap (λ (o : Option Life). option_map (λ x. ended r x t outcome.Cancelled) o) (known r (alive r refl))
same_told es c l tag t (row.LostRequest r) tagged alive known = ap (λ (o : Option Life). option_map (λ x. ended r x t outcome.Lost) o) (known r (alive r refl))
same_told es c l tag t _ tagged alive known = refl

pub same_text : (s : Spec) (es : List Event) (c : Trace) (l : List (ℕ × Life)) (tag : ℕ) (x : Entry) → ComesNext s es tag c x.row → AreLiveBy ended_by c x.row → AreKnown l es c
    → line_where (told_by (λ _. tag) (life_at l) x.time x.row) ≡ row_text es c x
unfolding row_text
same_text s es c l tag x next alive known = ap line_where (same_told es c l tag x.time x.row next.tagged alive known)

-- ---- one more row

pub rows_nothing : (es : List Event) (c : Trace) → rows_text es c [] ≡ []
unfolding rows_text by_row
rows_nothing es c = refl

module _ (append : (f : Trace → Entry → List ℕ) (c xs ys : Trace) → by_row f c (xs ++ ys) ≡ by_row f c xs ++ by_row f (c ++ xs) ys) (es : List Event) (c items : Trace) (i : ℕ) (x : Entry) (inside : i < length items) (read : x ≡ get_or items i x) where
  split : items ≡ take i items ++ x ∷ drop (i + 1) items
  split = sym (take-append-drop i items) ∙ ap (λ (l : Trace). take i items ++ l) (drop_more items i x inside) ∙ ap (λ (y : Entry). take i items ++ y ∷ drop (i + 1) items) (sym read)

  -- the rows up to one, and that one
  pub rows_more : rows_text es c (take (i + 1) items) ≡ rows_text es c (take i items) ++ row_text es (c ++ take i items) x
  unfolding rows_text by_row
  rows_more =
      ap (λ (l : Trace). by_row (row_text es) c l) (take_more items i x inside ∙ ap (λ (y : Entry). take i items ++ y ∷ []) (sym read))
      ∙ append (row_text es) c (take i items) (x ∷ [])
      ∙ ap (λ (m : List ℕ). by_row (row_text es) c (take i items) ++ m) (append-nil (row_text es (c ++ take i items) x))

  -- and the others behind it
  pub rows_around : rows_text es c items ≡ rows_text es c (take i items) ++ (row_text es (c ++ take i items) x ++ rows_text es ((c ++ take i items) ++ x ∷ []) (drop (i + 1) items))
  unfolding rows_text by_row
  rows_around = ap (λ (l : Trace). by_row (row_text es) c l) split ∙ append (row_text es) c (take i items) (x ∷ drop (i + 1) items)

  pub comes_here : (s : Spec) (tag : ℕ) → ComeNext s es tag c items → ComesNext s es tag (c ++ take i items) x.row
  comes_here s tag next = next (take i items) (drop (i + 1) items) x split

  pub trace_more : (c ++ take i items) ++ x ∷ [] ≡ c ++ take (i + 1) items
  trace_more = append_assoc c (take i items) (x ∷ []) ∙ ap (λ (l : Trace). c ++ l) (sym (take_more items i x inside ∙ ap (λ (y : Entry). take i items ++ y ∷ []) (sym read)))
