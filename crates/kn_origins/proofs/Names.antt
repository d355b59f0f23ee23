-- The lines of the names that are ignored, member by member.
use Rattle.std.proofs.Common.{◌≡◌, ℕ, List, [], ◌∷◌, ◌++◌, append_assoc, append-nil, refl, sym, ap, ◌∙◌}
use Rattle.std.specs.Prelude.{Bool, true, false, string_bytes}
use Rattle.std.specs.List.{filter}
use Rattle.serde_json.specs.View.{members_view}
use Rattle.serde_json.proofs.Views.{Entry}
use Rattle.kn_origins.specs.Ignored.{ignored_if, ignored_lines, names_of}

-- the lines of these members
abbrev pub lines_of : (List ℕ → Bool) → List Entry → List ℕ
lines_of test members = ignored_lines (filter test (names_of (members_view members)))

first : (test : List ℕ → Bool) (e : Entry) (more : List Entry) (b : Bool) → test (string_bytes e.0) ≡ b → lines_of test (e ∷ more) ≡ ignored_if b (string_bytes e.0) ++ lines_of test more
first test e more true is = rw is refl
first test e more false is = rw is refl

-- the line of the first one was added, where it is ignored
pub step : (test : List ℕ → Bool) (e : Entry) (all more : List Entry) (b : Bool) (name text longer : List ℕ) → all ≡ e ∷ more → name ≡ string_bytes e.0 → b ≡ test name
    → longer ≡ text ++ ignored_if b name → longer ++ lines_of test more ≡ text ++ lines_of test all
step test e all more b name text longer split is tested grown =
    let line : lines_of test (e ∷ more) ≡ ignored_if b (string_bytes e.0) ++ lines_of test more = first test e more b (ap test (sym is) ∙ sym tested) in
    ap (λ (x : List ℕ). x ++ lines_of test more) (grown ∙ ap (λ (x : List ℕ). text ++ ignored_if b x) is)
    ∙ append_assoc text (ignored_if b (string_bytes e.0)) (lines_of test more)
    ∙ ap (λ (x : List ℕ). text ++ x) (sym line)
    ∙ ap (λ (x : List Entry). text ++ lines_of test x) (sym split)

-- none is left
pub done : (test : List ℕ → Bool) (left all members : List Entry) (start text : List ℕ) → left ≡ [] → all ≡ members → text ++ lines_of test left ≡ start ++ lines_of test all
    → text ≡ start ++ lines_of test members
done test left all members start text none same h =
    sym (append-nil text) ∙ ap (λ (x : List Entry). text ++ lines_of test x) (sym none) ∙ h ∙ ap (λ (x : List Entry). start ++ lines_of test x) same
