-- Whole lines that were taken one after the other, maybe none.
use Rattle.std.proofs.Common.{◌≡◌, ℕ, Bool, true, false, List, [], ◌∷◌, ◌++◌, append_assoc, refl, sym, ap, ◌∙◌, subst, inl, inr}
use Rattle.std.specs.Prelude.{◌⊎◌, Option, None, Some, ⊤}
use Rattle.kn_journal.specs.Reading.{AreWhole, IsCutOff, IsOver, TakesText}
use Rattle.kn_journal.specs.Texts.{TextLaws}

-- none, or some, of which the last one was cut or not
abbrev pub IsAlong : Bool → Bool → Option (List ℕ) → Option (List ℕ) → Type 0
IsAlong first cut None rest = ⊤
IsAlong first cut (Some xs) None = ⊥
IsAlong first cut (Some xs) (Some ys) = ((cut ≡ first) × (ys ≡ xs)) ⊎ ((text : List ℕ) × (xs ≡ text ++ ys) × IsCutOff cut text ys)

pub along_begin : (first : Bool) (known : Option (List ℕ)) → IsAlong first first known known
along_begin first None = tt
along_begin first (Some xs) = inl (refl, refl)

pub along_text : (first cut : Bool) (known rest : Option (List ℕ)) → TakesText cut known rest → IsAlong first cut known rest
along_text first cut None rest h = tt
along_text first cut (Some xs) None h = absurd h
along_text first cut (Some xs) (Some ys) h = inr h

pub along_more : (laws : TextLaws) (first cut last : Bool) (known mid rest : Option (List ℕ)) → IsAlong first cut known mid → TakesText last mid rest → TakesText last known rest
along_more laws first cut last None mid rest h k = tt
along_more laws first cut last (Some xs) None rest h k = absurd h
along_more laws first cut last (Some xs) (Some ys) rest (inl (is, same)) k = subst (λ (zs : List ℕ). TakesText last (Some zs) rest) same k
along_more laws first cut last (Some xs) (Some ys) rest (inr text) k = laws.more cut last (Some xs) (Some ys) rest text k

-- where the input said its end, nothing of it is unread
pub along_over : (first cut : Bool) (xs ys : List ℕ) → IsOver first (Some xs) → IsAlong first cut (Some xs) (Some ys) → IsOver cut (Some ys)
along_over first true xs ys over (inl (is, same)) = same ∙ subst (λ (b : Bool). IsOver b (Some xs)) (sym is) over
along_over first true xs ys over (inr (text, split, off)) = off
along_over first false xs ys over h = tt

-- what was taken
pub record Taken (xs ys : List ℕ) : Type 0 where
  pub text : List ℕ
  pub split : xs ≡ text ++ ys
  pub whole : AreWhole text ys

pub along_taken : (laws : TextLaws) (first cut : Bool) (xs ys : List ℕ) → IsAlong first cut (Some xs) (Some ys) → Taken xs ys
along_taken laws first cut xs ys (inl (is, same)) = record { text = []; split = sym same; whole = inl refl }
along_taken laws first cut xs ys (inr (text, split, off)) = record { text = text; split = split; whole = laws.whole cut text ys off }

-- .. and then more
pub split-behind : (xs text ys more zs : List ℕ) → xs ≡ text ++ ys → ys ≡ more ++ zs → xs ≡ (text ++ more) ++ zs
split-behind xs text ys more zs h k = h ∙ ap (λ (m : List ℕ). text ++ m) k ∙ sym (append_assoc text more zs)

pub whole-behind : (laws : TextLaws) (text ys more zs : List ℕ) → AreWhole text ys → ys ≡ more ++ zs → AreWhole more zs → AreWhole (text ++ more) zs
whole-behind laws text ys [] zs (inl none) k w = subst (λ (t : List ℕ). AreWhole (t ++ []) zs) (sym none) w
whole-behind laws text ys more zs h k (inr (inl ends)) = inr (inl (laws.ends text more ends))
whole-behind laws text ys more zs h k (inr (inr none)) = inr (inr none)
whole-behind laws text ys more zs (inl none) k (inl nil) = inl (ap (λ (t : List ℕ). t ++ more) none ∙ nil)
whole-behind laws text ys more zs (inr (inl ends)) k (inl nil) = inr (inl (laws.ends_still text more ends nil))
whole-behind laws text ys more zs (inr (inr over)) k (inl nil) = inr (inr (behind more zs (sym k ∙ over)))
  where
    behind : (a b : List ℕ) → a ++ b ≡ [] → b ≡ []
    behind [] b h = h
    behind (x ∷ a) b h = cc
