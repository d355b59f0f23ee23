-- Text that waits, and what is written of it.
use Rattle.std.proofs.Common.{◌≡◌, ℕ, List, [], ◌++◌, append_assoc, append-nil, sym, ap, ◌∙◌, subst}
use Rattle.std.specs.Prelude.{Option, Result, Ok, Err, OnErr, OnOk}
use Rattle.std.specs.Io.KnownBytes.{Appends}
use Rattle.std.proofs.KnownBytes.{Appends-nil, Appends-trans}
use Rattle.kn_io.specs.Prefix.{AppendsPrefix}
use Rattle.kn_report.specs.Waiting.{Adds}
use Rattle.kn_report.proofs.Pieces.{prefix_after, prefix_more}

-- a text came behind what waits, and nothing was written
pub adds_waits : {a : Option (List ℕ)} {p q x : List ℕ} → p ++ x ≡ q → Adds a a p q x
adds_waits {a} is = record { written = []; held = Appends-nil a; all = is }

pub adds_nothing : {a : Option (List ℕ)} {p : List ℕ} → Adds a a p p []
adds_nothing {p = p} = adds_waits (append-nil p)

-- one text came, and then another
pub adds_more : {a b d : Option (List ℕ)} {p q r x y text : List ℕ} → Adds a b p q x → Adds b d q r y → x ++ y ≡ text → Adds a d p r text
adds_more {a} {b} {d} {p} {q} {r} {x} {y} h k is = record {
  written = h.written ++ k.written;
  held = Appends-trans a b d h.written k.written h.held k.held;
  all =
      ap (λ (z : List ℕ). p ++ z) (sym is)
      ∙ sym (append_assoc p x y) ∙ ap (λ (z : List ℕ). z ++ y) h.all ∙ append_assoc h.written q y ∙ ap (λ (z : List ℕ). h.written ++ z) k.all ∙ sym (append_assoc h.written k.written r);
}

-- and then what waits was written, or goes on waiting
pub adds_on : {a b d : Option (List ℕ)} {p q r x : List ℕ} → Adds a b p q x → Adds b d q r [] → Adds a d p r x
adds_on {x = x} h k = adds_more h k (append-nil x)

-- what was written and what waits, with what comes behind it
adds_then : {a b : Option (List ℕ)} {p q x : List ℕ} (y : List ℕ) (h : Adds a b p q x) → h.written ++ (q ++ y) ≡ (p ++ x) ++ y
adds_then {q = q} y h = sym (append_assoc h.written q y) ∙ ap (λ (z : List ℕ). z ++ y) (sym h.all)

-- what waits is written, and a text behind it
pub adds_all : {a b : Option (List ℕ)} {p q x : List ℕ} (d : Option (List ℕ)) (y : List ℕ) → Adds a b p q x → Appends b d (q ++ y) → Appends a d ((p ++ x) ++ y)
adds_all {a} {b} {q = q} d y h k = subst (Appends a d) (adds_then y h) (Appends-trans a b d h.written (q ++ y) h.held k)

-- nothing waits any more
pub adds_done : {a b : Option (List ℕ)} {p q x : List ℕ} → Adds a b p q x → q ≡ [] → Appends a b (p ++ x)
adds_done {a} {b} h none = subst (Appends a b) (sym (h.all ∙ ap (λ (z : List ℕ). h.written ++ z) none ∙ append-nil h.written)) h.held

-- all is written, and then a text
pub adds_past : {a b d : Option (List ℕ)} {p q x : List ℕ} → Adds a b p q [] → q ≡ [] → Appends b d x → Adds a d p q x
adds_past {a} {b} {d} {p} {q} {x} h none k = record {
  written = h.written ++ x;
  held = Appends-trans a b d h.written x h.held k;
  all =
      let waited : p ≡ h.written = sym (append-nil p) ∙ h.all ∙ ap (λ (z : List ℕ). h.written ++ z) none ∙ append-nil h.written in
      ap (λ (z : List ℕ). z ++ x) waited ∙ sym (append-nil (h.written ++ x)) ∙ ap (λ (z : List ℕ). (h.written ++ x) ++ z) (sym none);
}

-- some of what waits and of a text behind it is written
pub adds_some : {a b : Option (List ℕ)} {p q x : List ℕ} (d : Option (List ℕ)) (y rest : List ℕ) → Adds a b p q x → AppendsPrefix b d (q ++ y) → AppendsPrefix a d (p ++ (x ++ (y ++ rest)))
adds_some {a} {b} {p} {q} {x} d y rest h k =
    let all : h.written ++ ((q ++ y) ++ rest) ≡ p ++ (x ++ (y ++ rest)) =
    ap (λ (z : List ℕ). h.written ++ z) (append_assoc q y rest) ∙ adds_then (y ++ rest) h ∙ append_assoc p x (y ++ rest) in
    subst (AppendsPrefix a d) all (prefix_after a b d h.written (q ++ y) rest h.held k)

-- .. where nothing follows
pub adds_last : {a b : Option (List ℕ)} {p q x : List ℕ} (d : Option (List ℕ)) (y : List ℕ) → Adds a b p q x → AppendsPrefix b d (q ++ y) → AppendsPrefix a d (p ++ (x ++ y))
adds_last {a} {p = p} {x = x} d y h k = subst (λ (z : List ℕ). AppendsPrefix a d (p ++ (x ++ z))) (append-nil y) (adds_some d y [] h k)

-- some of what waits
pub adds_stop : {a b : Option (List ℕ)} {p q x : List ℕ} (d : Option (List ℕ)) → Adds a b p q x → AppendsPrefix b d q → AppendsPrefix a d (p ++ x)
adds_stop {a} {b} {p} {q} {x} d h k =
    let more : AppendsPrefix b d (q ++ []) = subst (AppendsPrefix b d) (sym (append-nil q)) k in
    subst (λ (z : List ℕ). AppendsPrefix a d (p ++ z)) (append-nil x) (adds_last d [] h more)

-- all is written, and some of a text behind it
pub adds_cut : {a b : Option (List ℕ)} {p q : List ℕ} (d : Option (List ℕ)) (y : List ℕ) → Adds a b p q [] → q ≡ [] → AppendsPrefix b d y → AppendsPrefix a d (p ++ y)
adds_cut {b = b} d y h none k = adds_last d y h (subst (λ (z : List ℕ). AppendsPrefix b d (z ++ y)) (sym none) k)

-- some of what waits and of a text is some of them and of what follows
pub waits_more : (a b : Option (List ℕ)) (p x rest : List ℕ) → AppendsPrefix a b (p ++ x) → AppendsPrefix a b (p ++ (x ++ rest))
waits_more a b p x rest h = subst (AppendsPrefix a b) (append_assoc p x rest) (prefix_more a b (p ++ x) rest h)

-- what is said of one outcome, turned into what follows from it
pub on_ok : {T E P Q : Type 0} (r : Result T E) → (P → Q) → OnOk r P → OnOk r Q
on_ok (Ok x) f h = f h
on_ok (Err e) f h = tt

pub on_err : {T E P Q : Type 0} (r : Result T E) → (P → Q) → OnErr r P → OnErr r Q
on_err (Ok x) f h = tt
on_err (Err e) f h = f h
