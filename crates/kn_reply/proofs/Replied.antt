-- A reply by itself: what was taken of a stream, up to its end.
use Rattle.std.proofs.Common.{◌≡◌, ◌+◌, ℕ, Bool, List, [], ◌∷◌, ◌++◌, length, take, drop, map, true, false, Option, None, Some, sym, subst, ap, ◌∙◌, refl, arith, rules, append_assoc, append-nil, inl, inr}
use Rattle.std.specs.Prelude.{not, ◌||◌, ◌&&◌, ◌==◌, ◌⊎◌, nat_lt, nat_le, IsTrue, IfSome, Result, Ok, Err, is_ok, is_err}
use Rattle.std.specs.List.{list_all, list_any}
use Rattle.std.specs.Char.{is_ascii_digit}
use Rattle.std.specs.Str.Parse.{digits_value}
use Rattle.std.specs.Io.KnownBytes.{Consumes, IsAtEnd}
use Rattle.std.proofs.lemmas.List.{take-append-drop, append_cancel_right}
use Rattle.httparse.specs.Grammar.{ResponseHead, ReadsResponse, print_response, status_code}
use Rattle.httparse.specs.Spans.{name_and_value}
use Rattle.kn_reply.specs.declared.reply.Stage.TheVariants as stage
use Rattle.kn_reply.specs.declared.reply.Judged.TheVariants as judged
use Rattle.kn_http.specs.Numbers.{says}
use Rattle.kn_reply.specs.Replies.{FollowsInterims, none, one_more, IsWholeAs, IsWholeReply, is_interim, allows, is_met}
use Rattle.kn_reply.specs.Ends.{ReadsHeads, answer, interim, reply_bounds, ReadsChunks, ReadsReply, ReadsBodyAs, IsReplyOf, Meets, JudgedIs, is_length, agrees}
use Rattle.kn_reply.proofs.ChunkEnds.{chunks_alone}

-- ---- alone

pub heads_alone : (k : ℕ) (bytes : List ℕ) (head : ResponseHead) (body : List ℕ) → ReadsHeads k bytes head body
    → (front : List ℕ) × (bytes ≡ front ++ body) × ((other : List ℕ) → ReadsHeads k (front ++ other) head other)
heads_alone k bytes head body (answer fewer there few final) =
    (print_response head, there.1, λ other. answer fewer (there.0, refl) few final)
heads_alone k bytes head body (interim before text fewer there few goes later) =
    let inner = heads_alone (k + 1) text head body later in
    let p = print_response before in (
      p ++ inner.0,
      there.1 ∙ (ap (λ l. p ++ l) inner.1 ∙ sym (append_assoc p inner.0 body)),
      λ other. interim before (inner.0 ++ other) fewer (there.0, append_assoc p inner.0 other) few goes (inner.2 other),
    )

pub body_alone : (a b c d : Bool) (fields : List (List ℕ × List ℕ)) (bytes rest : List ℕ) → ReadsBodyAs a b c d fields bytes rest
    → (front : List ℕ) × (bytes ≡ front ++ rest) × ReadsBodyAs a b c d fields front []
body_alone true b c d fields bytes rest r = ([], sym r, refl)
body_alone false true c d fields bytes rest r =
    let alone = chunks_alone bytes rest r in
    (alone.0, alone.1, subst (λ t. ReadsChunks t []) (append-nil alone.0) (alone.2 []))
body_alone false false true d fields bytes rest r = (bytes, sym (ap (λ l. bytes ++ l) r ∙ append-nil bytes), refl)
body_alone false false false true fields bytes rest r = (r.0, r.1, (r.0, sym (append-nil r.0), r.2, r.3))
body_alone false false false false fields bytes rest r = (bytes, sym (ap (λ l. bytes ++ l) r ∙ append-nil bytes), refl)

pub reply_alone : (request bytes rest : List ℕ) → ReadsReply request bytes rest
    → (reply : List ℕ) × (bytes ≡ reply ++ rest) × ReadsReply request reply []
reply_alone request bytes rest r =
    let heads = heads_alone 0 bytes r.head r.body r.heads in
    let body = body_alone _ _ _ _ (map name_and_value r.head.fields) r.body rest r.ends in (
      heads.0 ++ body.0,
      heads.1 ∙ (ap (λ l. heads.0 ++ l) body.1 ∙ sym (append_assoc heads.0 body.0 rest)),
      record { head = r.head; body = body.0; heads = heads.2 body.0; ends = body.2 },
    )

-- ---- what is handed on

pub exact_end : (request reply : List ℕ) (n : ℕ) → JudgedIs request reply (judged.Ended n) → ReadsReply request (take n reply) []
exact_end request reply n j =
    let whole : ReadsReply request reply (drop n reply) =
    subst (λ b. ReadsReply request b (drop n reply)) (append-nil reply)
    (subst (λ b. ReadsReply request (reply ++ []) b) (append-nil (drop n reply)) (j.1 [])) in
    let alone = reply_alone request reply (drop n reply) whole in
    subst (λ b. ReadsReply request b [])
    (append_cancel_right alone.0 (take n reply) (drop n reply) (sym alone.1 ∙ sym (take-append-drop n reply))) alone.2

pub sent_end : (request reply : List ℕ) (n : ℕ) (old new : Option (List ℕ)) → JudgedIs request reply (judged.Ended n)
    → Consumes old new reply → IfSome old (λ sent. IsReplyOf request sent (take n reply))
sent_end request reply n None new j c = tt
sent_end request reply n (Some sent) None j c = absurd c
sent_end request reply n (Some sent) (Some more) j c = (
  drop n reply ++ more,
  c ∙ (ap (λ l. l ++ more) (sym (take-append-drop n reply)) ∙ append_assoc (take n reply) (drop n reply) more),
  subst (λ b. ReadsReply request b (drop n reply ++ more)) (sym c) (j.1 more),
)

pub exact_open : (request reply : List ℕ) → Meets request reply stage.Open → ReadsReply request reply []
exact_open request reply m = subst (λ b. ReadsReply request b []) (append-nil reply) (m.back [] [] refl)

pub sent_open : (request reply : List ℕ) (old new : Option (List ℕ)) → Meets request reply stage.Open → Consumes old new reply → IsAtEnd new
    → IfSome old (λ sent. IsReplyOf request sent reply)
sent_open request reply None new m c at_end = tt
sent_open request reply (Some sent) None m c at_end = absurd c
sent_open request reply (Some sent) (Some more) m c at_end =
    let all : sent ≡ reply ++ [] = c ∙ ap (λ l. reply ++ l) at_end in
    ([], all, subst (λ b. ReadsReply request b []) (sym all) (m.back [] [] refl))

-- ---- a whole reply

pub follows_heads : (reply : List ℕ) (k : ℕ) (bytes : List ℕ) (head : ResponseHead) (body : List ℕ) → FollowsInterims reply bytes
    → ReadsHeads k bytes head body
    → (text : List ℕ) × FollowsInterims reply text × ReadsResponse text head body × (is_interim (status_code head) ≡ false)
follows_heads reply k bytes head body follows (answer fewer there few final) = (bytes, follows, there, final)
follows_heads reply k bytes head body follows (interim before text fewer there few goes later) =
    follows_heads reply (k + 1) text head body (one_more before text follows there goes) later

-- a length that says so many is met by them
says_is_met : (n : ℕ) (a b : Bool) (v : ℕ) → a && b && (v == n) ≡ true → a && b && nat_le v n ≡ true
says_is_met n true true v e = grind (arith, rules)
says_is_met n true false v e = e
says_is_met n false b v e = e

field_met : (n : ℕ) (field : List ℕ × List ℕ) (named : Bool) → named ≡ is_length field → not named || says n field.1 ≡ true
    → not named || is_met n field.1 ≡ true
field_met n field true at e = says_is_met n (nat_lt 0 (length field.1)) (list_all is_ascii_digit field.1) (digits_value 10 field.1) e
field_met n field false at e = refl

pub both : (a b : Bool) → a && b ≡ true → (a ≡ true) × (b ≡ true)
both true b e = (refl, e)
both false b e = (e, absurd (differ e))
  where
    differ : false ≡ true → ⊥
    differ h = search rules

pub all_met : (n : ℕ) (fields : List (List ℕ × List ℕ)) → list_all (agrees n) fields ≡ true → list_all (allows n) fields ≡ true
all_met n [] e = refl
all_met n (field ∷ fields) e =
    let two = both (agrees n field) (list_all (agrees n) fields) e in
    rw (field_met n field (is_length field) refl two.0) (all_met n fields two.1)

not_any : (a b : Bool) → a || b ≡ false → (a ≡ false) × (b ≡ false)
not_any false b e = (refl, e)
not_any true b e = (e, absurd (differ e))
  where
    differ : true ≡ false → ⊥
    differ h = search rules

pub none_said : (n : ℕ) (fields : List (List ℕ × List ℕ)) → list_any is_length fields ≡ false → list_all (allows n) fields ≡ true
none_said n [] e = refl
none_said n (field ∷ fields) e =
    let two = not_any (is_length field) (list_any is_length fields) e in
    rw two.0 (none_said n fields two.1)

pub whole_body : (a b c d : Bool) (fields : List (List ℕ × List ℕ)) (bytes : List ℕ) → d ≡ list_any is_length fields
    → ReadsBodyAs a b c d fields bytes [] → IsTrue a ⊎ IsWholeAs b c fields bytes
whole_body true b c d fields bytes said r = inl refl
whole_body false true c d fields bytes said r = inr (reply_bounds, r.0, [], r.1)
whole_body false false true d fields bytes said r = inr tt
whole_body false false false true fields bytes said r = inr (truth (all_met (length bytes) fields same))
  where
    same : list_all (agrees (length bytes)) fields ≡ true
    same = subst (λ b. list_all (agrees (length b)) fields ≡ true) (sym (r.1 ∙ append-nil r.0)) r.3

    truth : {x : Bool} → x ≡ true → IsTrue x
    truth e = search rules
whole_body false false false false fields bytes said r = inr (truth (none_said (length bytes) fields (sym said)))
  where
    truth : {x : Bool} → x ≡ true → IsTrue x
    truth e = search rules

pub whole_reply : (request reply : List ℕ) → ReadsReply request reply [] → IsWholeReply request reply
whole_reply request reply r =
    let found = follows_heads reply 0 reply r.head r.body none r.heads in
    record {
      text = found.0;
      head = r.head;
      body = r.body;
      follows = found.1;
      reads = found.2;
      final = found.3;
      whole = whole_body _ _ _ _ (map name_and_value r.head.fields) r.body refl r.ends;
    }

-- ---- what was read

pub ok_from : {A E : Type 0} (r : Result A E) → is_err r ≡ false → is_ok r ≡ true
ok_from (Ok a) e = refl
ok_from (Err x) e = search rules

pub read_more : (old mid new : Option (List ℕ)) (reply piece : List ℕ) → Consumes old mid reply → Consumes mid new piece
    → Consumes old new (reply ++ piece)
read_more None mid new reply piece c d = tt
read_more (Some a) None new reply piece c d = absurd c
read_more (Some a) (Some b) None reply piece c d = absurd d
read_more (Some a) (Some b) (Some e) reply piece c d = c ∙ (ap (λ l. reply ++ l) d ∙ sym (append_assoc reply piece e))

pub read_all : (mid new : Option (List ℕ)) (buf : List ℕ) (n : ℕ) → Consumes mid new (take n buf) → IsAtEnd new → n ≡ 0 → IsAtEnd mid
read_all None new buf n d e zero = tt
read_all (Some b) None buf n d e zero = absurd d
read_all (Some b) (Some r) buf n d e zero = d ∙ (ap (λ k. take k buf ++ r) zero ∙ e)
