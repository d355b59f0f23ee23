-- The lines of several sentences, one after the other.
use Rattle.std.proofs.Common.{◌≡◌, refl, sym, ap, ◌∙◌, ℕ, ◌+◌, ◌<◌, List, [], ◌∷◌, ◌++◌, length, get_or, take, drop, append-nil, Option, Some, None}
use Rattle.std.specs.List.{flat_map}
use Rattle.std.proofs.lemmas.List.{drop_more, take-append-drop, take_more}
use Rattle.std.proofs.lemmas.List.Concat.{flat_map-append}
use Rattle.kn_event.specs.declared.entry.Decision.{Decision}
use Rattle.kn_event.specs.declared.entry.Phase.{Phase}
use Rattle.kn_event.specs.declared.revision.Spec.{Spec}
use Rattle.kn_reason.specs.declared.reason.Reason.{Reason}
use Rattle.kn_show_reasons.specs.Sentences.{sentences_of}
use Rattle.kn_reason.specs.Texts.{sentence_text, sentences_text}

pub sentences_nothing : (t : ℕ) → sentences_text t [] ≡ []
unfolding sentences_text
sentences_nothing t = refl

-- without a phase it doesn't matter since when it is
pub sentences_same : (s : Spec) (t : ℕ) (p : Option Phase) (a b : ℕ) (d : Decision) → ((q : Phase) → p ≡ Some q → a ≡ b) → sentences_of s t p a d ≡ sentences_of s t p b d
unfolding sentences_of
sentences_same s t None a b d same = refl
sentences_same s t (Some q) a b d same = ap (λ (n : ℕ). sentences_of s t (Some q) n d) (same q refl)

module _ (t : ℕ) (xs : List (Option Reason)) (i : ℕ) (x : Option Reason) (inside : i < length xs) (read : x ≡ get_or xs i x) where
  -- the sentences up to one, and that one
  pub sentences_more : sentences_text t (take (i + 1) xs) ≡ sentences_text t (take i xs) ++ sentence_text t x
  unfolding sentences_text
  sentences_more =
      ap (λ (l : List (Option Reason)). flat_map (sentence_text t) l) (take_more xs i x inside ∙ ap (λ (y : Option Reason). take i xs ++ y ∷ []) (sym read))
      ∙ flat_map-append (sentence_text t) (take i xs) (x ∷ [])
      ∙ ap (λ (m : List ℕ). flat_map (sentence_text t) (take i xs) ++ m) (append-nil (sentence_text t x))

  -- and the others behind it
  pub sentences_around : sentences_text t xs ≡ sentences_text t (take i xs) ++ (sentence_text t x ++ sentences_text t (drop (i + 1) xs))
  unfolding sentences_text
  sentences_around =
      ap (λ (l : List (Option Reason)). flat_map (sentence_text t) l)
      (sym (take-append-drop i xs) ∙ ap (λ (l : List (Option Reason)). take i xs ++ l) (drop_more xs i x inside ∙ ap (λ (y : Option Reason). y ∷ drop (i + 1) xs) (sym read)))
      ∙ flat_map-append (sentence_text t) (take i xs) (x ∷ drop (i + 1) xs)
