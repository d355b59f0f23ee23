-- The last `:` of an address.
use Rattle.std.proofs.Common.{◌≡◌, ◌≢◌, ℕ, Bool, true, false, not, ◌&&◌, ◌==◌, List, [], ◌∷◌, ◌++◌, take, drop, get_or, Some, arith, refl, sym, ◌∙◌, ap, ap₂, subst, lit<}
use Rattle.std.specs.Prelude.{nat_lt, ◌^◌, MatchBool}
use Rattle.std.specs.List.{list_all}
use Rattle.std.specs.Bool.{then_some}
use Rattle.std.specs.Str.{NoCharPasses}
use Rattle.std.specs.Str.Parse.{digits_value}
use Rattle.std.specs.Str.Pattern.{RFindsChar}
use Rattle.std.proofs.lemmas.Grind.{common_steps}
use Rattle.std.proofs.lemmas.List.{get_or_default, take-append-drop}
use Rattle.std.proofs.lemmas.List.Sums.{list_all-from_AllPass}
use Rattle.std.proofs.lemmas.Bool.{eqb-true}
use Rattle.std.proofs.lemmas.Str.Pattern.{NoCharPasses-char, drop_at_char}
use Rattle.kn_event.specs.Numbers.{is_digit, has_no_leading_zero, number_of}
use Rattle.kn_plan.specs.Plan.{IsAddress, is_host, is_port, is_port_number}

abbrev pub is_other : ℕ → Bool
is_other b = not (b == 58)

-- a text with a `:` in it has one
never : (a b : List ℕ) → list_all is_other (a ++ 58 ∷ b) ≡ true → ⊥
never [] b h = cc
never (x ∷ a) b h = by_first (is_other x) (never a b) h
  where
    by_first : (t : Bool) → (list_all is_other (a ++ 58 ∷ b) ≡ true → ⊥) → (t && list_all is_other (a ++ 58 ∷ b)) ≡ true → ⊥
    by_first true more e = more e
    by_first false more e = cc

-- where nothing behind the `:` has one, the texts around it are the same
same_last : (a b a' b' : List ℕ) → a ++ 58 ∷ b ≡ a' ++ 58 ∷ b' → list_all is_other b ≡ true → list_all is_other b' ≡ true → (a ≡ a') × (b ≡ b')
same_last [] b [] b' e h h' = (refl, (cc))
same_last [] b (x ∷ a') b' e h h' =
    let tail : b ≡ a' ++ 58 ∷ b' = cc in
    absurd (never a' b' (subst (λ (l : List ℕ). list_all is_other l ≡ true) tail h))
same_last (x ∷ a) b [] b' e h h' =
    let tail : b' ≡ a ++ 58 ∷ b = cc in
    absurd (never a b (subst (λ (l : List ℕ). list_all is_other l ≡ true) tail h'))
same_last (x ∷ a) b (y ∷ a') b' e h h' =
    let tail : a ++ 58 ∷ b ≡ a' ++ 58 ∷ b' = cc in
    let head : x ≡ y = cc in
    let more = same_last a b a' b' tail h h' in
    let one : a ≡ a' = more.0 in
    ((cc), more.1)

digit_other : (x : ℕ) → is_digit x ≡ true → is_other x ≡ true
digit_other x h = grind (arith, common_steps)

digits_other : (bs : List ℕ) → list_all is_digit bs ≡ true → list_all is_other bs ≡ true
digits_other [] h = refl
digits_other (x ∷ bs) h = by_first (is_digit x) refl (digits_other bs) h
  where
    by_first : (t : Bool) → is_digit x ≡ t → (list_all is_digit bs ≡ true → list_all is_other bs ≡ true) → (t && list_all is_digit bs) ≡ true → list_all is_other (x ∷ bs) ≡ true
    by_first true e more k = ap₂ (λ (a b : Bool). a && b) (digit_other x e) (more k)
    by_first false e more k = cc

port_other : (bs : List ℕ) → is_port bs ≡ true → list_all is_other bs ≡ true
unfolding number_of
port_other bs h = by_numeral (list_all is_digit bs) refl h
  where
    by_numeral : (t : Bool) → list_all is_digit bs ≡ t
        → is_port_number (then_some ((t && has_no_leading_zero bs) && nat_lt (digits_value 10 bs) (2 ^ 64)) (digits_value 10 bs)) ≡ true → list_all is_other bs ≡ true
    by_numeral true e k = digits_other bs e
    by_numeral false e k = cc

-- what `rsplit_once` gives
pub record IsParted (text host port : List ℕ) : Type 0 where
  pub is : text ≡ host ++ 58 ∷ port
  pub other : list_all is_other port ≡ true

other_of : (x : ℕ) → x ≢ 58 → is_other x ≡ true
other_of x h = by_test (x == 58) refl
  where
    by_test : (t : Bool) → (x == 58) ≡ t → not t ≡ true
    by_test true e = absurd (h (eqb-true x 58 e))
    by_test false e = refl

lacks : (bs : List ℕ) → NoCharPasses (λ d. d == 58) bs → list_all is_other bs ≡ true
lacks bs none = list_all-from_AllPass is_other bs (λ k d low. other_of (get_or bs k d) (λ e. NoCharPasses-char 58 bs k none (lit< tt) low (get_or_default bs k 0 d low ∙ e)))

pub parted : (text host port : List ℕ) (i j : ℕ) → RFindsChar 58 text (Some (i, j)) → host ≡ take i text → port ≡ drop j text → IsParted text host port
parted text host port i j found h p =
    let here : drop i text ≡ 58 ∷ drop j text = drop_at_char 58 text i j found.1 (lit< tt) in
    let whole = take-append-drop i text in
    record { is = cc; other = subst (λ (l : List ℕ). list_all is_other l ≡ true) (sym p) (lacks (drop j text) found.0) }

same_parts : (text host port : List ℕ) → IsParted text host port → (a : IsAddress text) → (is_host host ≡ true) × (is_port port ≡ true)
same_parts text host port is a =
    let same = same_last a.host a.port host port (sym a.parted ∙ is.is) (port_other a.port a.number) is.other in
    (ap is_host (sym same.0) ∙ a.named, ap is_port (sym same.1) ∙ a.number)

pub no_host : (text host port : List ℕ) → IsParted text host port → is_host host ≡ false → IsAddress text → ⊥
no_host text host port is h a =
    let same = same_parts text host port is a in
    let both : true ≡ false = sym same.0 ∙ h in
    cc

pub by_port : (r : Bool) (text host port : List ℕ) → IsParted text host port → is_host host ≡ true → r ≡ is_port port → MatchBool r (IsAddress text) (IsAddress text → ⊥)
by_port true text host port is h e = record { host = host; port = port; parted = is.is; named = h; number = sym e }
by_port false text host port is h e = λ a.
    let same = same_parts text host port is a in
    let both : false ≡ true = e ∙ same.1 in
    cc

pub not_parted : (text : List ℕ) → NoCharPasses (λ d. d == 58) text → IsAddress text → ⊥
not_parted text none a = never a.host a.port (subst (λ (l : List ℕ). list_all is_other l ≡ true) a.parted (lacks text none))
