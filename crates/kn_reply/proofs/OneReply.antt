-- What a pod sent has one reply at most.
use Rattle.std.proofs.Common.{◌≡◌, ◌+◌, ℕ, Bool, List, [], ◌∷◌, ◌++◌, length, drop, map, true, false, sym, subst, ap, ◌∙◌, refl, arith, rules, append-nil}
use Rattle.std.specs.Prelude.{◌||◌, ◌&&◌, ◌==◌, nat_lt}
use Rattle.std.specs.List.{list_all, list_any}
use Rattle.std.specs.Char.{is_ascii_digit}
use Rattle.std.specs.Str.Parse.{digits_value}
use Rattle.std.proofs.lemmas.List.{drop_at, append_cancel_right}
use Rattle.httparse.specs.Grammar.{ResponseHead, status_code}
use Rattle.httparse.specs.Spans.{name_and_value}
use Rattle.kn_http.specs.Laws.{AreDetermined}
use Rattle.kn_reply.specs.Replies.{has_no_body, is_chunks_coding, is_coding}
use Rattle.kn_reply.specs.Ends.{ReadsHeads, answer, interim, reply_bounds, ReadsBody, ReadsBodyAs, ReadsReply, IsReplyOf, is_length, agrees}
use Rattle.kn_reply.proofs.HeadEnds.{last_head, after_head}
use Rattle.kn_reply.proofs.Replied.{both}

pub heads_unique : (k : ℕ) (bytes : List ℕ) (h g : ResponseHead) (r q : List ℕ) → ReadsHeads k bytes h r → ReadsHeads k bytes g q
    → (h ≡ g) × (r ≡ q)
heads_unique k bytes h g r q (answer fewer there few final) y =
    let same = last_head k bytes h r [] g q there final (subst (λ b. ReadsHeads k b g q) (sym (append-nil bytes)) y) in
    (same.0, sym (append-nil r) ∙ same.1)
heads_unique k bytes h g r q (interim before text fewer there few goes later) y =
    let next = after_head k bytes before text [] g q there goes (subst (λ b. ReadsHeads k b g q) (sym (append-nil bytes)) y) in
    heads_unique (k + 1) text h g r q later (subst (λ t. ReadsHeads (k + 1) t g q) (append-nil text) next)

-- ---- lengths

is_said : (a b : Bool) (v n : ℕ) → a && b && (v == n) ≡ true → v ≡ n
is_said true true v n e = grind (arith, rules)
is_said true false v n e = search rules
is_said false b v n e = search rules

not_first : (a b : Bool) → a || b ≡ true → a ≡ false → b ≡ true
not_first false b e f = e
not_first true b e f = search rules

one_length : (n m : ℕ) (fields : List (List ℕ × List ℕ)) → list_any is_length fields ≡ true → list_all (agrees n) fields ≡ true
    → list_all (agrees m) fields ≡ true → n ≡ m
one_length n m [] any p q = search rules
one_length n m (field ∷ fields) any p q =
    by_named (is_length field) refl
    (λ e. one_length n m fields (not_first (is_length field) (list_any is_length fields) any e)
    (both (agrees n field) (list_all (agrees n) fields) p).1 (both (agrees m field) (list_all (agrees m) fields) q).1)
  where
    here : (k : ℕ) → is_length field ≡ true → agrees k field ≡ true → digits_value 10 field.1 ≡ k
    here k e says_so =
        is_said (nat_lt 0 (length field.1)) (list_all is_ascii_digit field.1) (digits_value 10 field.1) k (rw e at says_so)

    by_named : (b : Bool) → is_length field ≡ b → (is_length field ≡ false → n ≡ m) → n ≡ m
    by_named true e later =
        sym (here n e (both (agrees n field) (list_all (agrees n) fields) p).0)
        ∙ here m e (both (agrees m field) (list_all (agrees m) fields) q).0
    by_named false e later = later e

body_unique : AreDetermined → (a b c d : Bool) (fields : List (List ℕ × List ℕ)) (bytes r q : List ℕ) → list_any is_length fields ≡ d
    → ReadsBodyAs a b c d fields bytes r → ReadsBodyAs a b c d fields bytes q → r ≡ q
body_unique one true b c d fields bytes r q said x y = x ∙ sym y
body_unique one false true c d fields bytes r q said x y = (one.body reply_bounds bytes x.0 y.0 r q x.1 y.1).1
body_unique one false false true d fields bytes r q said x y = x ∙ sym y
body_unique one false false false true fields bytes r q said x y =
    let long = one_length (length x.0) (length y.0) fields said x.3 y.3 in
    sym (drop_at x.0 r (length x.0) refl) ∙ (ap (drop (length x.0)) (sym x.1 ∙ y.1) ∙ drop_at y.0 q (length x.0) (sym long))
body_unique one false false false false fields bytes r q said x y = x ∙ sym y

pub one_rest : AreDetermined → (request sent r q : List ℕ) → ReadsReply request sent r → ReadsReply request sent q → r ≡ q
one_rest one request sent r q x y =
    let same = heads_unique 0 sent y.head x.head y.body x.body y.heads x.heads in
    let fields = map name_and_value x.head.fields in
    let there = subst (λ (h : ResponseHead). ReadsBody (has_no_body request (status_code h)) (map name_and_value h.fields) y.body q) same.0 y.ends in
    let moved = subst (λ b. ReadsBody (has_no_body request (status_code x.head)) fields b q) same.1 there in
    body_unique one (has_no_body request (status_code x.head)) (list_any is_chunks_coding fields) (list_any is_coding fields) (list_any is_length fields)
    fields x.body r q refl x.ends moved

pub one_reply : AreDetermined → (request sent a b : List ℕ) → IsReplyOf request sent a → IsReplyOf request sent b → a ≡ b
one_reply one request sent a b x y =
    let same = one_rest one request sent x.0 y.0 x.2 y.2 in
    append_cancel_right a b x.0 (sym x.1 ∙ (y.1 ∙ ap (λ l. b ++ l) (sym same)))
