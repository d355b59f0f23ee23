-- What stands before a question mark.
use Rattle.std.proofs.Common.{◌≡◌, ℕ, Bool, true, false, List, take, Some, None, sym, ap, ltb-false, cond}
use Rattle.std.specs.Prelude.{position}
use Rattle.std.specs.List.{position_or_len}
use Rattle.std.proofs.lemmas.List.{take_all}
use Rattle.kn_page.specs.Asking.{is_question, path_of}

some_is : (b : Bool) (m n : ℕ) → Some n ≡ cond b (Some m) None → n ≡ m
some_is true m n e = cc
some_is false m n e = cc

none_is : (b : Bool) (m : ℕ) → None ≡ cond b (Some m) None → b ≡ false
none_is true m e = cc
none_is false m e = cc

pub path_at : (target : List ℕ) (n : ℕ) → Some n ≡ position is_question target → take n target ≡ path_of target
unfolding path_of
path_at target n e = ap (λ k. take k target) (some_is _ (position_or_len is_question target) n e)

pub path_whole : (target : List ℕ) → None ≡ position is_question target → target ≡ path_of target
unfolding path_of
path_whole target e = sym (take_all (position_or_len is_question target) target (ltb-false _ _ (none_is _ (position_or_len is_question target) e)))
