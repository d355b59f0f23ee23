-- Three texts that come behind what waits.
use Rattle.std.proofs.Common.{◌≡◌, ℕ, List, ◌++◌, append_assoc, refl, subst}
use Rattle.std.specs.Prelude.{Option, Result, Ok, Err, OnErr, OnOk}
use Rattle.kn_io.specs.Prefix.{AppendsPrefix}
use Rattle.kn_report.specs.AddingLaws.{AddingLaws}
use Rattle.kn_report.specs.Waiting.{Adds}

pub first_fails : AddingLaws → (a b : Option (List ℕ)) (p t x y z : List ℕ) → t ≡ x → AppendsPrefix a b (p ++ t) → AppendsPrefix a b (p ++ (x ++ y ++ z))
first_fails laws a b p t x y z is h =
    let all : (p ++ t) ++ (y ++ z) ≡ p ++ (x ++ y ++ z) = rw is (simp append_assoc) in
    subst (AppendsPrefix a b) all (laws.front a b (p ++ t) (y ++ z) h)

pub second_fails : AddingLaws → (a b d : Option (List ℕ)) (p q t u x y z : List ℕ) → t ≡ x → u ≡ y → Adds a b p q t → AppendsPrefix b d (q ++ u) → AppendsPrefix a d (p ++ (x ++ y ++ z))
second_fails laws a b d p q t u x y z is next h k =
    let all : (p ++ (t ++ u)) ++ z ≡ p ++ (x ++ y ++ z) = rw (is, next) (simp append_assoc) in
    subst (AppendsPrefix a d) all (laws.front a d (p ++ (t ++ u)) z (laws.last d u h k))

pub third_fails : AddingLaws → (a b d f : Option (List ℕ)) (p q r t u v x y z : List ℕ) → t ≡ x → u ≡ y → v ≡ z → Adds a b p q t → Adds b d q r u → AppendsPrefix d f (r ++ v) → AppendsPrefix a f (p ++ (x ++ y ++ z))
third_fails laws a b d f p q r t u v x y z is next last h k m =
    let all : p ++ ((t ++ u) ++ v) ≡ p ++ (x ++ y ++ z) = rw (is, next, last) refl in
    subst (AppendsPrefix a f) all (laws.last f v (laws.more h k refl) m)

pub all_added : AddingLaws → (a b d f : Option (List ℕ)) (p q r s t u v x y z : List ℕ) → t ≡ x → u ≡ y → v ≡ z → Adds a b p q t → Adds b d q r u → Adds d f r s v → Adds a f p s (x ++ y ++ z)
all_added laws a b d f p q r s t u v x y z is next last h k m =
    let all : (t ++ u) ++ v ≡ x ++ y ++ z = rw (is, next, last) refl in
    laws.more (laws.more h k refl) m all

-- what is said of one outcome, turned into what follows from it
pub on_ok : {T E P Q : Type 0} (r : Result T E) → (P → Q) → OnOk r P → OnOk r Q
on_ok (Ok x) f h = f h
on_ok (Err e) f h = tt

pub on_err : {T E P Q : Type 0} (r : Result T E) → (P → Q) → OnErr r P → OnErr r Q
on_err (Ok x) f h = tt
on_err (Err e) f h = f h
