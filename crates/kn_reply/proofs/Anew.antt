-- A head that is written anew, read again.
use Rattle.std.proofs.Common.{◌≡◌, ◌⊎◌, ◌≤◌, ◌+◌, ◌*◌, ℕ, Bool, true, false, not, ◌&&◌, ◌||◌, cond, bytes_eq, IsTrue, Option, None, Some, List, [], ◌∷◌, ◌++◌, length, map, filter, codes, refl, sym, ap, ap₂, subst, ◌∙◌, arith, append_assoc, length-append, inl, inr, lit<}
use Rattle.std.specs.List.{flat_map, list_all, list_any}
use Rattle.std.specs.Char.{to_ascii_lowercase}
use Rattle.std.proofs.lemmas.List.{map-append}
use Rattle.std.proofs.lemmas.List.Concat.{flat_map-append}
use Rattle.std.proofs.lemmas.List.Elements.{All-append, All-cons, All-filter, All-map, All-nil, All-weaker}
use Rattle.std.proofs.lemmas.Slice.Eq.{bytes_eq-Decides}
use Rattle.httparse.specs.Ascii.{crlf_bytes}
use Rattle.httparse.specs.Grammar.{AllPass, Field, IsField, IsResponseHead, LineEnd, ResponseHead, crlf, lf, is_token_byte, is_value_byte, print_blank, print_end, print_field, print_reason, print_response, print_version, reason_phrase, trim_ows}
use Rattle.httparse.specs.Spans.{name_and_value}
use Rattle.httparse.proofs.TrimLemmas.{AllPass-trim_ows}
use Rattle.kn_http.specs.Names.{is_word}
use Rattle.kn_http.specs.Numbers.{says}
use Rattle.kn_reply.specs.Replies.{is_chunks_coding, is_coding, ends_in_chunks}
use Rattle.kn_reply.specs.Ends.{ReadsBody, ReadsBodyAs, agrees, is_length}
use Rattle.kn_reply.specs.Closing.{closing_field, closing_head, field_line, is_kept, kept_lines, last_lines, line_start, status_line}
use Rattle.kn_reply.proofs.Replied.{both}
use Rattle.kn_reply.proofs.Trimmed.{length-trim_ows, trimmed}

-- a field as it is written
abbrev pub as_field : List ℕ × List ℕ → Field
as_field f = record { name = f.0; raw = 32 ∷ f.1; end = crlf }

abbrev pub anew_fields : List Field → List Field
anew_fields fields = map as_field (filter is_kept (map name_and_value fields)) ++ as_field closing_field ∷ []

-- the head that reads as the one that is written
abbrev pub anew_head : ResponseHead → ResponseHead
anew_head head = record {
  blank = [];
  minor = head.minor;
  digits = head.digits;
  reason = Some (reason_phrase head.reason);
  line_end = crlf;
  fields = anew_fields head.fields;
  last = crlf;
}

-- ---- it is a head

all_pass : (test : ℕ → Bool) (xs : List ℕ) → list_all test xs ≡ true → AllPass test xs
all_pass test [] e = All-nil (λ b. IsTrue (test b))
all_pass test (x ∷ xs) e =
    let two = both (test x) (list_all test xs) e in
    All-cons (λ b. IsTrue (test b)) x xs two.0 (all_pass test xs two.1)

closing_is : IsField (as_field closing_field)
unfolding is_token_byte
closing_is = record {
  name = (lit< tt, all_pass is_token_byte (codes "Connection") refl);
  raw = all_pass is_value_byte (codes " close") refl;
}

again_is : (f : Field) → IsField f → IsField (as_field (name_and_value f))
again_is f is = record {
  name = is.name;
  raw = All-cons (λ b. IsTrue (is_value_byte b)) 32 (trim_ows f.raw) refl (AllPass-trim_ows is_value_byte f.raw is.raw);
}

pub anew_is : (head : ResponseHead) → IsResponseHead head → IsResponseHead (anew_head head)
anew_is head is =
    let P : List ℕ × List ℕ → Type 0 = λ f. IsField (as_field f) in
    let fs = map name_and_value head.fields in
    let came = All-map P name_and_value head.fields (All-weaker IsField (λ f. P (name_and_value f)) again_is head.fields is.fields) in
    record {
      minor = is.minor;
      digits = is.digits;
      reason = is.reason;
      fields = All-append IsField (map as_field (filter is_kept fs)) (as_field closing_field ∷ [])
          (All-map IsField as_field (filter is_kept fs) (All-filter is_kept P fs came))
          (All-cons IsField (as_field closing_field) [] closing_is (All-nil IsField));
    }

-- ---- its fields

abbrev pair : List ℕ → List ℕ → List ℕ × List ℕ
pair a b = (a, b)

same_kept : (fs : List Field)
    → map name_and_value (map as_field (filter is_kept (map name_and_value fs))) ≡ filter is_kept (map name_and_value fs)
same_kept [] = refl
same_kept (f ∷ fs) = by_test (is_kept (name_and_value f)) (same_kept fs)
  where
    by_test : (b : Bool) → map name_and_value (map as_field (filter is_kept (map name_and_value fs))) ≡ filter is_kept (map name_and_value fs)
        → map name_and_value (map as_field (cond b (name_and_value f ∷ filter is_kept (map name_and_value fs)) (filter is_kept (map name_and_value fs))))
        ≡ cond b (name_and_value f ∷ filter is_kept (map name_and_value fs)) (filter is_kept (map name_and_value fs))
    by_test true later = ap₂ (λ g l. g ∷ l) (ap (pair f.name) (trimmed f.raw)) later
    by_test false later = later

closing_again : name_and_value (as_field closing_field) ≡ closing_field
unfolding trim_ows
closing_again = refl

pub same_fields : (fs : List Field) → map name_and_value (anew_fields fs) ≡ filter is_kept (map name_and_value fs) ++ closing_field ∷ []
same_fields fs =
    map-append name_and_value (map as_field (filter is_kept (map name_and_value fs))) (as_field closing_field ∷ [])
    ∙ ap₂ (λ a b. a ++ b ∷ []) (same_kept fs) closing_again

-- ---- its bytes

one_line : (f : List ℕ × List ℕ) → print_field (as_field f) ≡ field_line f
unfolding field_line
one_line f = ap (λ l. l ++ crlf_bytes) (sym (append_assoc f.0 (58 ∷ 32 ∷ []) f.1))

all_lines : (fs : List (List ℕ × List ℕ)) → flat_map print_field (map as_field fs) ≡ flat_map field_line fs
all_lines [] = refl
all_lines (f ∷ fs) = ap₂ (λ a b. a ++ b) (one_line f) (all_lines fs)

first : (p d r e : List ℕ) → p ++ (32 ∷ d) ++ (32 ∷ r) ++ e ≡ p ++ (32 ∷ []) ++ d ++ (32 ∷ []) ++ r ++ e
first p d r e = simp append_assoc

pub same_bytes : (head : ResponseHead) → print_response (anew_head head) ≡ closing_head head
unfolding print_response closing_head status_line line_start kept_lines last_lines
same_bytes head =
    let ks = filter is_kept (map name_and_value head.fields) in
    let p = print_version head.minor in
    let r = reason_phrase head.reason in
    let c = codes "Connection: close" ++ crlf_bytes in
    let rows : flat_map print_field (anew_fields head.fields) ++ crlf_bytes ≡ flat_map field_line ks ++ (c ++ crlf_bytes) =
    ap (λ l. l ++ crlf_bytes)
    (flat_map-append print_field (map as_field ks) (as_field closing_field ∷ []) ∙ ap (λ l. l ++ c) (all_lines ks))
    ∙ append_assoc (flat_map field_line ks) c crlf_bytes in
    ap₂ (λ a b. a ++ b) (first p head.digits r crlf_bytes) rows
    ∙ sym (append_assoc (p ++ (32 ∷ []) ++ head.digits ++ (32 ∷ []) ++ r ++ crlf_bytes) (flat_map field_line ks) (c ++ crlf_bytes))

-- ---- its body

apart_words : (w u bytes : List ℕ) → bytes_eq w u ≡ false → is_word w bytes ≡ true → is_word u bytes ≡ false
apart_words w u bytes apart is =
    subst (λ l. bytes_eq l u ≡ false) (sym ((bytes_eq-Decides (map to_ascii_lowercase bytes) w).0 is)) apart

three : (a b c : Bool) → not (a || (b || (c || false))) ≡ false → (a ≡ true) ⊎ ((b ≡ true) ⊎ (c ≡ true))
three true b c e = inl refl
three false true c e = inr (inl refl)
three false false true e = inr (inr refl)
three false false false e = cc

-- a field that doesn't stay has no other name
other_name : (u : List ℕ) → bytes_eq (codes "connection") u ≡ false → bytes_eq (codes "keep-alive") u ≡ false
    → bytes_eq (codes "proxy-connection") u ≡ false → (f : List ℕ × List ℕ) → is_kept f ≡ false → is_word u f.0 ≡ false
other_name u x y z f gone =
    elim (three (is_word (codes "connection") f.0) (is_word (codes "keep-alive") f.0) (is_word (codes "proxy-connection") f.0) gone) [
      | inl e ↦ apart_words (codes "connection") u f.0 x e
      | inr o ↦ elim o [
        | inl e ↦ apart_words (codes "keep-alive") u f.0 y e
        | inr e ↦ apart_words (codes "proxy-connection") u f.0 z e
      ]
    ]

no_coding : (f : List ℕ × List ℕ) → is_kept f ≡ false → is_coding f ≡ false
no_coding f gone = other_name (codes "transfer-encoding") refl refl refl f gone

no_length : (f : List ℕ × List ℕ) → is_kept f ≡ false → is_length f ≡ false
no_length f gone = other_name (codes "content-length") refl refl refl f gone

no_chunks : (f : List ℕ × List ℕ) → is_kept f ≡ false → is_chunks_coding f ≡ false
no_chunks f gone = ap (λ b. b && ends_in_chunks f.1) (no_coding f gone)

all_agree : (n : ℕ) (f : List ℕ × List ℕ) → is_kept f ≡ false → agrees n f ≡ true
all_agree n f gone = ap (λ b. not b || says n f.1) (no_length f gone)

any_kept : (p : List ℕ × List ℕ → Bool) → p closing_field ≡ false → ((f : List ℕ × List ℕ) → is_kept f ≡ false → p f ≡ false)
    → (fs : List (List ℕ × List ℕ)) → list_any p (filter is_kept fs ++ closing_field ∷ []) ≡ list_any p fs
any_kept p none other [] = ap (λ b. b || false) none
any_kept p none other (f ∷ fs) = by_test (any_kept p none other fs) (is_kept f) refl
  where
    by_test : list_any p (filter is_kept fs ++ closing_field ∷ []) ≡ list_any p fs → (b : Bool) → is_kept f ≡ b
        → list_any p (cond b (f ∷ filter is_kept fs) (filter is_kept fs) ++ closing_field ∷ []) ≡ p f || list_any p fs
    by_test later true e = ap (λ t. p f || t) later
    by_test later false e = later ∙ sym (ap (λ t. t || list_any p fs) (other f e))

all_kept : (p : List ℕ × List ℕ → Bool) → p closing_field ≡ true → ((f : List ℕ × List ℕ) → is_kept f ≡ false → p f ≡ true)
    → (fs : List (List ℕ × List ℕ)) → list_all p (filter is_kept fs ++ closing_field ∷ []) ≡ list_all p fs
all_kept p holds other [] = ap (λ b. b && true) holds
all_kept p holds other (f ∷ fs) = by_test (all_kept p holds other fs) (is_kept f) refl
  where
    by_test : list_all p (filter is_kept fs ++ closing_field ∷ []) ≡ list_all p fs → (b : Bool) → is_kept f ≡ b
        → list_all p (cond b (f ∷ filter is_kept fs) (filter is_kept fs) ++ closing_field ∷ []) ≡ p f && list_all p fs
    by_test later true e = ap (λ t. p f && t) later
    by_test later false e = later ∙ sym (ap (λ t. t && list_all p fs) (other f e))

moved : (a b c d : Bool) (fs : List (List ℕ × List ℕ)) (bytes rest : List ℕ) → ReadsBodyAs a b c d fs bytes rest
    → ReadsBodyAs a b c d (filter is_kept fs ++ closing_field ∷ []) bytes rest
moved true b c d fs bytes rest r = r
moved false true c d fs bytes rest r = r
moved false false true d fs bytes rest r = r
moved false false false true fs bytes rest r =
    (r.0, r.1, r.2, all_kept (agrees (length r.0)) refl (all_agree (length r.0)) fs ∙ r.3)
moved false false false false fs bytes rest r = r

-- the fields that a client reads say the same body
pub same_body : (no_body : Bool) (fs : List (List ℕ × List ℕ)) (bytes rest : List ℕ) → ReadsBody no_body fs bytes rest
    → ReadsBody no_body (filter is_kept fs ++ closing_field ∷ []) bytes rest
same_body no_body fs bytes rest reads =
    let gs = filter is_kept fs ++ closing_field ∷ [] in
    let a = list_any is_chunks_coding fs in
    let b = list_any is_coding fs in
    let c = list_any is_length fs in
    subst (λ x. ReadsBodyAs no_body x (list_any is_coding gs) (list_any is_length gs) gs bytes rest)
    (sym (any_kept is_chunks_coding refl no_chunks fs))
    (subst (λ x. ReadsBodyAs no_body a x (list_any is_length gs) gs bytes rest) (sym (any_kept is_coding refl no_coding fs))
    (subst (λ x. ReadsBodyAs no_body a b x gs bytes rest) (sym (any_kept is_length refl no_length fs))
    (moved no_body a b c fs bytes rest reads)))

-- ---- its length

end_some : (e : LineEnd) → 1 ≤ length (print_end e)
end_some crlf = omega arith
end_some lf = omega arith

line_longer : (f : Field) → length (field_line (name_and_value f)) ≤ length (print_field f) + 2
unfolding field_line
line_longer f =
    let v = trim_ows f.raw in
    omega (
      arith,
      length-append (f.name ++ (58 ∷ 32 ∷ []) ++ v) crlf_bytes,
      length-append (f.name ++ (58 ∷ 32 ∷ [])) v,
      length-append f.name (58 ∷ 32 ∷ []),
      length-append (f.name ++ (58 ∷ f.raw)) (print_end f.end),
      length-append f.name (58 ∷ f.raw),
      length-trim_ows f.raw,
      end_some f.end,
    )

lines_longer : (fs : List Field)
    → length (flat_map field_line (filter is_kept (map name_and_value fs))) ≤ length (flat_map print_field fs) + 2 * length fs
lines_longer [] = omega arith
lines_longer (f ∷ fs) = by_test (lines_longer fs) (is_kept (name_and_value f))
  where
    by_test : length (flat_map field_line (filter is_kept (map name_and_value fs))) ≤ length (flat_map print_field fs) + 2 * length fs
        → (b : Bool)
        → length (flat_map field_line (cond b (name_and_value f ∷ filter is_kept (map name_and_value fs)) (filter is_kept (map name_and_value fs))))
        ≤ length (flat_map print_field (f ∷ fs)) + 2 * length (f ∷ fs)
    by_test later true =
        omega (
          arith,
          later,
          line_longer f,
          length-append (field_line (name_and_value f)) (flat_map field_line (filter is_kept (map name_and_value fs))),
          length-append (print_field f) (flat_map print_field fs),
        )
    by_test later false = omega (arith, later, length-append (print_field f) (flat_map print_field fs))

phrase_within : (reason : Option (List ℕ)) → length (reason_phrase reason) ≤ length (print_reason reason)
phrase_within None = omega arith
phrase_within (Some phrase) = omega arith

came_length : (b p d r e s l : List ℕ) → length (b ++ p ++ (32 ∷ d) ++ r ++ e ++ (s ++ l))
    ≡ length b + length p + length d + 1 + length r + length e + length s + length l
came_length b p d r e s l =
    omega (
      arith,
      length-append (b ++ p ++ (32 ∷ d) ++ r ++ e) (s ++ l),
      length-append (b ++ p ++ (32 ∷ d) ++ r) e,
      length-append (b ++ p ++ (32 ∷ d)) r,
      length-append (b ++ p) (32 ∷ d),
      length-append b p,
      length-append s l,
    )

anew_length : (p d r e k l : List ℕ) → length (p ++ (32 ∷ []) ++ d ++ (32 ∷ []) ++ r ++ e ++ k ++ l)
    ≡ length p + 1 + length d + 1 + length r + length e + length k + length l
anew_length p d r e k l =
    omega (
      arith,
      length-append (p ++ (32 ∷ []) ++ d ++ (32 ∷ []) ++ r ++ e ++ k) l,
      length-append (p ++ (32 ∷ []) ++ d ++ (32 ∷ []) ++ r ++ e) k,
      length-append (p ++ (32 ∷ []) ++ d ++ (32 ∷ []) ++ r) e,
      length-append (p ++ (32 ∷ []) ++ d ++ (32 ∷ [])) r,
      length-append (p ++ (32 ∷ []) ++ d) (32 ∷ []),
      length-append (p ++ (32 ∷ [])) d,
      length-append p (32 ∷ []),
    )

pub head_longer : (head : ResponseHead) → length (closing_head head) ≤ length (print_response head) + 2 * length head.fields + 22
unfolding print_response closing_head status_line line_start kept_lines last_lines
head_longer head =
    let p = print_version head.minor in
    let ks = flat_map field_line (filter is_kept (map name_and_value head.fields)) in
    omega (
      arith,
      came_length (print_blank head.blank) p head.digits (print_reason head.reason) (print_end head.line_end) (flat_map print_field head.fields)
          (print_end head.last),
      anew_length p head.digits (reason_phrase head.reason) crlf_bytes ks (codes "Connection: close" ++ crlf_bytes ++ crlf_bytes),
      lines_longer head.fields,
      phrase_within head.reason,
      end_some head.line_end,
      end_some head.last,
    )
