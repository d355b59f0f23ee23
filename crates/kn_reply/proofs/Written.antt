-- The head of an answer as it is written.
use Rattle.std.proofs.Common.{◌≡◌, ◌<◌, ◌≤◌, ◌+◌, ◌-◌, ◌*◌, ◌/◌, ◌%◌, ℕ, Bool, true, false, cond, ◌==◌, nat_le, nat_lt, List, [], ◌∷◌, ◌++◌, length, take, drop, map, get_or, filter, codes, sym, ap, ap₂, ◌∙◌, arith, append_assoc, append-nil, add_comm, zero-add, eq-eqb, ne_eqb, leb-true, le-ltb, lt-ltb}
use Rattle.std.specs.List.{flat_map}
use Rattle.std.specs.Char.{is_ascii_digit, digit_value}
use Rattle.std.specs.Str.Parse.{digits_value}
use Rattle.std.proofs.lemmas.Bool.{cond-true, cond-false}
use Rattle.std.proofs.lemmas.List.{map_more, take_at}
use Rattle.std.proofs.lemmas.List.Concat.{flat_map-append}
use Rattle.std.proofs.lemmas.List.Elements.{filter-append}
use Rattle.httparse.specs.Ascii.{crlf_bytes}
use Rattle.httparse.specs.Grammar.{AllPass, ResponseHead, print_response, reason_phrase, status_code}
use Rattle.httparse.specs.Spans.{IsResponseAt, header_bytes, name_and_value, span_bytes}
use Rattle.httparse.specs.declared.spans.HeaderSpan.{HeaderSpan}
use Rattle.httparse.specs.declared.spans.ResponseSpans.{ResponseSpans}
use Rattle.kn_reply.specs.Closing.{closing_head, field_line, handed_head, is_kept, kept_lines, last_lines, status_line, three_digits}
use Rattle.kn_reply.proofs.Replied.{both}
use Rattle.kn_reply.proofs.Wholes.{blank}

-- ---- the three digits

digit : (c : ℕ) → is_ascii_digit c ≡ true → (digit_value c + 48 ≡ c) × (digit_value c < 10)
digit c e =
    let two = both (nat_le 48 c) (nat_le c 57) e in
    let low : 48 ≤ c = leb-true 48 c two.0 in
    let high : c ≤ 57 = leb-true c 57 two.1 in
    let is : digit_value c ≡ c - 48 =
    cond-false (nat_lt c 48) 36 _ (le-ltb c 48 low) ∙ cond-true (nat_lt c 58) (c - 48) _ (lt-ltb c 58 (omega arith)) in
    (omega (arith, is, low), omega (arith, is, low, high))

spelled : (x y z n : ℕ) → x < 10 → y < 10 → z < 10 → n ≡ (x * 10 + y) * 10 + z
    → (n / 100 % 10 ≡ x) × (n / 10 % 10 ≡ y) × (n % 10 ≡ z)
spelled x y z n few fewer least is = (omega arith, omega arith, omega arith)

joined : (x y z a b c n : ℕ) → x + 48 ≡ a → y + 48 ≡ b → z + 48 ≡ c → (n / 100 % 10 ≡ x) × (n / 10 % 10 ≡ y) × (n % 10 ≡ z)
    → three_digits n ≡ a ∷ b ∷ c ∷ []
joined x y z a b c n e f g parts =
    let first : 48 + n / 100 % 10 ≡ a = ap (λ t. 48 + t) parts.0 ∙ (add_comm 48 x ∙ e) in
    let second : 48 + n / 10 % 10 ≡ b = ap (λ t. 48 + t) parts.1 ∙ (add_comm 48 y ∙ f) in
    let third : 48 + n % 10 ≡ c = ap (λ t. 48 + t) parts.2 ∙ (add_comm 48 z ∙ g) in
    ap₂ (λ d l. d ∷ l) first (ap₂ (λ d l. d ∷ l) second (ap (λ d. d ∷ []) third))

same_digits : (ds : List ℕ) → length ds ≡ 3 → AllPass is_ascii_digit ds → three_digits (digits_value 10 ds) ≡ ds
same_digits [] three all = absurd (omega arith)
same_digits (a ∷ []) three all = absurd (omega arith)
same_digits (a ∷ b ∷ []) three all = absurd (omega arith)
same_digits (a ∷ b ∷ c ∷ []) three all =
    let x = digit a (all 0 0 (omega arith)) in
    let y = digit b (all 1 0 (omega arith)) in
    let z = digit c (all 2 0 (omega arith)) in
    let n = digits_value 10 (a ∷ b ∷ c ∷ []) in
    joined (digit_value a) (digit_value b) (digit_value c) a b c n x.0 y.0 z.0
    (spelled (digit_value a) (digit_value b) (digit_value c) n x.1 y.1 z.1
    (ap (λ t. (t * 10 + digit_value b) * 10 + digit_value c) (zero-add (digit_value a))))
same_digits (a ∷ b ∷ c ∷ d ∷ ds) three all = absurd (omega arith)

-- ---- the fields

kept_more : (b : Bool) (out : List ℕ) (f : List ℕ × List ℕ) (ks : List (List ℕ × List ℕ))
    → out ++ flat_map field_line (ks ++ cond b (f ∷ []) []) ≡ (out ++ flat_map field_line ks) ++ cond b (field_line f) []
kept_more true out f ks =
    ap (λ l. out ++ l) (flat_map-append field_line ks (f ∷ []) ∙ ap (λ l. flat_map field_line ks ++ l) (append-nil (field_line f)))
    ∙ sym (append_assoc out (flat_map field_line ks) (field_line f))
kept_more false out f ks = ap (λ l. out ++ flat_map field_line l) (append-nil ks) ∙ sym (append-nil (out ++ flat_map field_line ks))

-- one more field
pub kept_next : (out text : List ℕ) (xs : List HeaderSpan) (i : ℕ) → i < length xs
    → out ++ kept_lines (map (header_bytes text) (take (i + 1) xs))
    ≡ (out ++ kept_lines (map (header_bytes text) (take i xs)))
    ++ cond (is_kept (header_bytes text (get_or xs i blank))) (field_line (header_bytes text (get_or xs i blank))) []
unfolding kept_lines
kept_next out text xs i within =
    let f = header_bytes text (get_or xs i blank) in
    let fs = map (header_bytes text) (take i xs) in
    ap (λ l. out ++ flat_map field_line (filter is_kept l)) (map_more (header_bytes text) xs i blank within)
    ∙ (ap (λ l. out ++ flat_map field_line l) (filter-append is_kept fs (f ∷ []))
    ∙ kept_more (is_kept f) out f (filter is_kept fs))

-- ---- the head

module _ (text : List ℕ) (spans : List HeaderSpan) (r : ResponseSpans) (h : ResponseHead) (parts : IsResponseAt text spans r h) where
  pub same_line : status_line r.version (three_digits r.code) (span_bytes text r.reason) ≡ status_line h.minor h.digits (reason_phrase h.reason)
  same_line =
      let digits : three_digits r.code ≡ h.digits =
      ap three_digits parts.code ∙ same_digits h.digits parts.reads.0.digits.0 parts.reads.0.digits.1 in
      ap (λ v. status_line v (three_digits r.code) (span_bytes text r.reason)) parts.version
      ∙ (ap (λ d. status_line h.minor d (span_bytes text r.reason)) digits ∙ ap (status_line h.minor h.digits) parts.reason)

module _ (out text : List ℕ) (spans : List HeaderSpan) (r : ResponseSpans) (h : ResponseHead) (parts : IsResponseAt text spans r h) where
  pub as_came : r.code ≡ 101 → out ++ take r.len text ≡ out ++ handed_head h
  unfolding handed_head
  as_came same =
      let here = eq-eqb (status_code h) 101 (sym parts.code ∙ same) in
      ap (λ l. out ++ l)
      (ap (take r.len) parts.reads.1 ∙ (take_at (print_response h) (drop r.len text) r.len (sym parts.len)
      ∙ sym (cond-true (status_code h == 101) (print_response h) (closing_head h) here)))

  pub anew : ¬ (r.code ≡ 101)
      → (out ++ status_line r.version (three_digits r.code) (span_bytes text r.reason)
      ++ kept_lines (map (header_bytes text) (take r.headers spans)) ++ (codes "Connection: close" ++ crlf_bytes ++ crlf_bytes)) ≡ out ++ handed_head h
  unfolding handed_head closing_head last_lines
  anew other =
      let s = status_line h.minor h.digits (reason_phrase h.reason) in
      let k = kept_lines (map name_and_value h.fields) in
      let l = codes "Connection: close" ++ crlf_bytes ++ crlf_bytes in
      ap₂ (λ a b. out ++ a ++ kept_lines b ++ l) (same_line text spans r h parts) parts.fields
      ∙ (ap (λ a. a ++ l) (append_assoc out s k) ∙ (append_assoc out (s ++ k) l
      ∙ ap (λ a. out ++ a) (sym (cond-false (status_code h == 101) (print_response h) (closing_head h)
      (ne_eqb (status_code h) 101 (λ e. other (parts.code ∙ e)))))))
