-- The rows that an event begins with, and the others behind them, as text.
use Rattle.std.proofs.Common.{◌≡◌, ℕ, List, Option, [], ◌∷◌, ◌++◌, append_assoc, append-nil, refl, sym, ap, ◌∙◌}
use Rattle.std.proofs.lemmas.List.Concat.{flat_map-append}
use Rattle.kn_event.specs.EntryLine.{entry_text}
use Rattle.kn_trace.specs.Report.{rows_text}
use Rattle.kn_trace.specs.Trace.{Trace, entry}
use Rattle.kn_throttle.specs.declared.throttle.dispatching.Dispatch.{Dispatch}
use Rattle.kn_throttle.specs.Rows.{dispatch_row}
use Rattle.kn_core.specs.declared.first.FirstRows.{FirstRows}
use Rattle.kn_core.specs.declared.first.FirstRows.TheVariants as first
use Rattle.kn_core.specs.declared.first.OwnRow.{OwnRow}
use Rattle.kn_core.specs.Firsts.{first_rows, own_row}
use Rattle.kn_report.specs.AddingLaws.{AddingLaws}
use Rattle.kn_report.specs.Waiting.{Adds}

pub rows_text-append : (c d : Trace) → rows_text (c ++ d) ≡ rows_text c ++ rows_text d
unfolding rows_text
rows_text-append c d = flat_map-append entry_text c d

-- the texts of the first ones and of the others are that of all
pub text_of_both : (c d both : Trace) → c ++ d ≡ both → rows_text both ≡ rows_text c ++ rows_text d
text_of_both c d both h = ap rows_text (sym h) ∙ rows_text-append c d

-- where there are no others, the first ones are all
pub text_of_first : (c d both : Trace) → c ++ d ≡ both → d ≡ [] → rows_text both ≡ rows_text c
text_of_first c d both h none = ap rows_text (sym h ∙ ap (λ (x : Trace). c ++ x) none ∙ append-nil c)

-- ---- the rows that were put, none, one or both

pub none_put : (t : ℕ) (rows : FirstRows) (before : List ℕ) → rows ≡ first.Nothing → before ≡ before ++ rows_text (first_rows t rows)
unfolding rows_text
none_put t rows before is = sym (append-nil before) ∙ ap (λ (x : FirstRows). before ++ rows_text (first_rows t x)) (sym is)

pub own_put : (t : ℕ) (rows : FirstRows) (own : OwnRow) (before after : List ℕ) → rows ≡ first.Own own
    → after ≡ before ++ entry_text (entry t (own_row own)) → after ≡ before ++ rows_text (first_rows t rows)
unfolding rows_text
own_put t rows own before after is put =
    put ∙ ap (λ (x : List ℕ). before ++ x) (sym (append-nil (entry_text (entry t (own_row own)))))
    ∙ ap (λ (x : FirstRows). before ++ rows_text (first_rows t x)) (sym is)

pub both_put : (t : ℕ) (rows : FirstRows) (own : OwnRow) (dispatch : Dispatch) (before amid after : List ℕ) → rows ≡ first.Both own dispatch
    → amid ≡ before ++ entry_text (entry t (own_row own)) → after ≡ amid ++ entry_text (entry t (dispatch_row dispatch))
    → after ≡ before ++ rows_text (first_rows t rows)
unfolding rows_text
both_put t rows own dispatch before amid after is one two =
    let first = entry_text (entry t (own_row own)) in
    let second = entry_text (entry t (dispatch_row dispatch)) in
    two ∙ ap (λ (x : List ℕ). x ++ second) one ∙ append_assoc before first second
    ∙ ap (λ (x : List ℕ). before ++ (first ++ x)) (sym (append-nil second))
    ∙ ap (λ (x : FirstRows). before ++ rows_text (first_rows t x)) (sym is)

-- where what waited still waits or was written, a text that was put behind what waits then came
pub adds_put : {a b : Option (List ℕ)} {p q r x : List ℕ} → AddingLaws → Adds a b p q [] → r ≡ q ++ x → Adds a b p r x
adds_put laws h put = laws.more h (laws.waits (sym put)) refl
