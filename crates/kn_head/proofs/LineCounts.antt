-- Each line of a head and of a trailer has one line feed, at its end: so many fields came whole.
use Rattle.std.proofs.Common.{◌≡◌, ◌⊎◌, ℕ, ◌+◌, ◌≤◌, ◌<◌, Bool, true, false, cond, ◌==◌, List, [], ◌∷◌, ◌++◌, length, drop, flat_map, All, codes, suc, inl, inr, refl, sym, subst, ap, ap₂, ◌∙◌, arith, append_assoc, append-nil, length-append}
use Rattle.std.proofs.lemmas.Bool.{ne_eqb, cases_Bool, cond-true, cond-false}
use Rattle.std.proofs.lemmas.List.{append_cancel_right}
use Rattle.std.proofs.lemmas.List.Sums.{sum_by-append, sum_by-cons}
use Rattle.std.proofs.lemmas.List.Elements.{All-nil, All-cons, All-head, All-tail}
use Rattle.std.specs.List.{prefix_len}
use Rattle.httparse.specs.Grammar.{is_token_byte, is_uri_byte, is_value_byte, AllPass, LineEnd, crlf, lf, print_end, print_blank, print_version, Field, print_field, IsField, print_section, ReadsSection, HasNoSection, RequestHead, print_request, IsRequestHead, ReadsRequest, HasNoRequest}
use Rattle.httparse.specs.Spans.{RequestExceeds, SectionExceeds, SectionOverflows}
use Rattle.httparse.specs.Pieces.{Stops, is_newline, FieldLines}
use Rattle.httparse.proofs.PieceLemmas.{Stops_token}
use Rattle.httparse.proofs.GrammarLemmas.{print_request-append, cons-append}
use Rattle.kn_head.specs.Heads.{room, IsUnfinished, HasTooManyFields}
use Rattle.kn_http.specs.Parts.{IsUnfinishedTrailer}
use Rattle.kn_head.specs.Lines.{line_feeds, after_blank}

-- ---- line feeds

feeds-nil : line_feeds [] ≡ 0
unfolding line_feeds
feeds-nil = refl

feeds-cons : (x : ℕ) (xs : List ℕ) → line_feeds (x ∷ xs) ≡ cond (x == 10) 1 0 + line_feeds xs
unfolding line_feeds
feeds-cons x xs = sum_by-cons (λ b. cond (b == 10) 1 0) x xs

feeds-append : (xs ys : List ℕ) → line_feeds (xs ++ ys) ≡ line_feeds xs + line_feeds ys
unfolding line_feeds
feeds-append xs ys = sum_by-append (λ b. cond (b == 10) 1 0) xs ys

feeds_other : (x : ℕ) (xs : List ℕ) → (x ≡ 10 → ⊥) → line_feeds (x ∷ xs) ≡ line_feeds xs
feeds_other x xs other = feeds-cons x xs ∙ rw (ne_eqb x 10 other) (omega arith)

-- bytes of a class without the line feed have none
no_feeds : (test : ℕ → Bool) (xs : List ℕ) → test 10 ≡ false → AllPass test xs → line_feeds xs ≡ 0
no_feeds test [] out all = feeds-nil
no_feeds test (x ∷ xs) out all =
    feeds_other x xs (λ same. let passes : test 10 ≡ true = subst (λ b. test b ≡ true) same (All-head (λ b. test b ≡ true) x xs all) in cc)
    ∙ no_feeds test xs out (All-tail (λ b. test b ≡ true) x xs all)

no_token : is_token_byte 10 ≡ false
unfolding is_token_byte
no_token = refl

end_feeds : (e : LineEnd) → line_feeds (print_end e) ≡ 1
unfolding line_feeds
end_feeds crlf = refl
end_feeds lf = refl

one_feed : (text : List ℕ) (e : LineEnd) → line_feeds text ≡ 0 → line_feeds (text ++ print_end e) ≡ 1
one_feed text e none = omega (arith, none, feeds-append text (print_end e), end_feeds e)

-- ---- lines

abbrev field_text : Field → List ℕ
field_text f = f.name ++ 58 ∷ f.raw

field_clean : (f : Field) → IsField f → line_feeds (field_text f) ≡ 0
field_clean f is =
    omega (
      arith,
      feeds-append f.name (58 ∷ f.raw),
      no_feeds is_token_byte f.name no_token is.name.1,
      feeds_other 58 f.raw (λ same. cc),
      no_feeds is_value_byte f.raw refl is.raw,
    )

field_feeds : (f : Field) → IsField f → line_feeds (print_field f) ≡ 1
field_feeds f is = one_feed (field_text f) f.end (field_clean f is)

fields_feeds : (fs : List Field) → All IsField fs → line_feeds (flat_map print_field fs) ≡ length fs
fields_feeds [] are = feeds-nil
fields_feeds (f ∷ fs) are =
    omega (
      arith,
      feeds-append (print_field f) (flat_map print_field fs),
      field_feeds f (All-head IsField f fs are),
      fields_feeds fs (All-tail IsField f fs are),
    )

-- the request line without its end
abbrev request_text : RequestHead → List ℕ
request_text h = h.method ++ 32 ∷ (h.target ++ 32 ∷ print_version h.minor)

abbrev request_line : RequestHead → List ℕ
request_line h = request_text h ++ print_end h.line_end

protocol_clean : line_feeds (codes "HTTP/1.") ≡ 0
unfolding line_feeds
protocol_clean = refl

version_clean : (minor : ℕ) → minor ≤ 1 → line_feeds (print_version minor) ≡ 0
version_clean minor small =
    omega (arith, feeds-append (codes "HTTP/1.") ((48 + minor) ∷ []), protocol_clean, feeds_other (48 + minor) [] (λ same. omega arith), feeds-nil)

request_clean : (h : RequestHead) → IsRequestHead h → line_feeds (request_text h) ≡ 0
request_clean h is =
    let version = print_version h.minor in
    omega (
      arith,
      feeds-append h.method (32 ∷ (h.target ++ 32 ∷ version)),
      no_feeds is_token_byte h.method no_token is.method.1,
      feeds_other 32 (h.target ++ 32 ∷ version) (λ same. cc),
      feeds-append h.target (32 ∷ version),
      no_feeds is_uri_byte h.target refl is.target.1,
      feeds_other 32 version (λ same. cc),
      version_clean h.minor is.minor,
    )

request_is : (h : RequestHead) (rest : List ℕ)
    → print_request h ++ rest ≡ print_blank h.blank ++ (request_line h ++ (print_section h.fields h.last ++ rest))
request_is h rest =
    print_request-append h rest
    ∙ ap (λ l. print_blank h.blank ++ l) (regroup h.method h.target (print_version h.minor) (print_end h.line_end) (print_section h.fields h.last ++ rest))
  where
    regroup : (a b c d e : List ℕ) → a ++ 32 ∷ (b ++ 32 ∷ (c ++ (d ++ e))) ≡ ((a ++ 32 ∷ (b ++ 32 ∷ c)) ++ d) ++ e
    regroup a b c d e = simp (append_assoc, cons-append)

-- a head with other fields
abbrev with_fields : RequestHead → List Field → LineEnd → RequestHead
with_fields h fields last = record h { fields = fields; last = last }

still_head : (h : RequestHead) (fields : List Field) (last : LineEnd) → IsRequestHead h → All IsField fields → IsRequestHead (with_fields h fields last)
still_head h fields last is are = record { method = is.method; target = is.target; target_text = is.target_text; minor = is.minor; fields = are }

-- ---- fronts

-- where bytes go on to a text, they hold it whole or are a part of it
split : (bytes more text rest : List ℕ) → bytes ++ more ≡ text ++ rest
    → ((after : List ℕ) × (bytes ≡ text ++ after) × (after ++ more ≡ rest)) ⊎ ((x : ℕ) × (xs : List ℕ) × (text ≡ bytes ++ x ∷ xs))
split bytes more [] rest e = inl (bytes, refl, e)
split [] more (x ∷ text) rest e = inr (x, text, refl)
split (b ∷ bytes) more (x ∷ text) rest e =
    let head : b ≡ x = cc in
    let tail : bytes ++ more ≡ text ++ rest = cc in
    elim (split bytes more text rest tail) [
      | inl whole ↦ inl (whole.0, ap₂ ◌∷◌ head whole.1, whole.2)
      | inr part ↦ inr (part.0, part.1, ap₂ ◌∷◌ (sym head) part.2)
    ]

part_feeds : (text part : List ℕ) (x : ℕ) (xs : List ℕ) → line_feeds text ≡ 0 → text ++ 10 ∷ [] ≡ part ++ x ∷ xs → line_feeds part ≡ 0
part_feeds text part x xs none e =
    elim (split text (10 ∷ []) part (x ∷ xs) e) [
      | inl whole ↦ omega (arith, none, ap line_feeds whole.1, feeds-append part whole.0)
      | inr longer ↦ absurd (omega (arith, ap length e, length-append text (10 ∷ []), length-append part (x ∷ xs), ap length longer.2, length-append text (longer.0 ∷ longer.1)))
    ]

line_part_feeds : (text : List ℕ) (e : LineEnd) (part : List ℕ) (x : ℕ) (xs : List ℕ) → line_feeds text ≡ 0
    → text ++ print_end e ≡ part ++ x ∷ xs → line_feeds part ≡ 0
line_part_feeds text lf part x xs none same = part_feeds text part x xs none same
line_part_feeds text crlf part x xs none same =
    let none' : line_feeds (text ++ 13 ∷ []) ≡ 0 = omega (arith, none, feeds-append text (13 ∷ []), feeds_other 13 [] (λ same. cc), feeds-nil) in
    part_feeds (text ++ 13 ∷ []) part x xs none' (append_assoc text (13 ∷ []) (10 ∷ []) ∙ same)

-- where bytes go on to a line, they hold it whole or have no line feed
line_or_none : (text : List ℕ) (e : LineEnd) (bytes more rest : List ℕ) → line_feeds text ≡ 0 → bytes ++ more ≡ (text ++ print_end e) ++ rest
    → ((after : List ℕ) × (bytes ≡ (text ++ print_end e) ++ after) × (after ++ more ≡ rest)) ⊎ (line_feeds bytes ≡ 0)
line_or_none text e bytes more rest none same =
    elim (split bytes more (text ++ print_end e) rest same) [
      | inl whole ↦ inl whole
      | inr part ↦ inr (line_part_feeds text e bytes part.0 part.1 none part.2)
    ]

-- ---- fields

-- these fields of at most so many came whole, and as many line feeds
record FieldsCame (bytes : List ℕ) (most : ℕ) : Type 0 where
  fields : List Field
  after : List ℕ
  lines : FieldLines fields bytes after
  all_came : line_feeds bytes ≤ length fields
  few : length fields ≤ most

none_came : (bytes : List ℕ) (most : ℕ) → line_feeds bytes ≡ 0 → FieldsCame bytes most
none_came bytes most zero = record { fields = []; after = bytes; lines = (All-nil IsField, refl); all_came = omega (arith, zero); few = omega arith }

regroup_section : (a b c d : List ℕ) → ((a ++ b) ++ c) ++ d ≡ a ++ ((b ++ c) ++ d)
regroup_section a b c d = ap (λ l. l ++ d) (append_assoc a b c) ∙ append_assoc a (b ++ c) d

section_behind : (f : Field) (bytes after : List ℕ) → IsField f → bytes ≡ print_field f ++ after → HasNoSection bytes → HasNoSection after
section_behind f bytes after is same none fields last rest reads =
    none (f ∷ fields) last rest (
      All-cons IsField f fields is reads.0,
      same ∙ (ap (λ l. print_field f ++ l) reads.1 ∙ sym (regroup_section (print_field f) (flat_map print_field fields) (print_end last) rest)),
    )

field_came : (f : Field) (bytes after : List ℕ) (most : ℕ) → IsField f → bytes ≡ print_field f ++ after → FieldsCame after most
    → FieldsCame bytes (suc most)
field_came f bytes after most is same came = record {
  fields = f ∷ came.fields;
  after = came.after;
  lines = (
    All-cons IsField f came.fields is came.lines.0,
    same ∙ (ap (λ l. print_field f ++ l) came.lines.1 ∙ sym (append_assoc (print_field f) (flat_map print_field came.fields) came.after)),
  );
  all_came = omega (arith, ap line_feeds same, feeds-append (print_field f) after, field_feeds f is, came.all_came);
  few = omega (arith, came.few);
}

-- of the fields that the bytes go on to
fields_came : (bytes more rest : List ℕ) (fields : List Field) (last : LineEnd) → HasNoSection bytes
    → ReadsSection (bytes ++ more) fields last rest → FieldsCame bytes (length fields)
fields_came bytes more rest [] last none reads =
    elim (line_or_none [] last bytes more rest feeds-nil reads.1) [
      | inl whole ↦ absurd (none [] last whole.0 (All-nil IsField, whole.1))
      | inr zero ↦ none_came bytes 0 zero
    ]
fields_came bytes more rest (f ∷ fields) last none reads =
    let is = All-head IsField f fields reads.0 in
    let same = reads.1 ∙ regroup_section (print_field f) (flat_map print_field fields) (print_end last) rest in
    elim (line_or_none (field_text f) f.end bytes more (print_section fields last ++ rest) (field_clean f is) same) [
      | inl whole ↦ field_came f bytes whole.0 (length fields) is whole.1
          (fields_came whole.0 more rest fields last (section_behind f bytes whole.0 is whole.1 none) (All-tail IsField f fields reads.0, whole.2))
      | inr zero ↦ none_came bytes (suc (length fields)) zero
    ]

-- more than 100 lines of a trailer came
pub trailer_exceeds : (bytes : List ℕ) → IsUnfinishedTrailer bytes → room < line_feeds bytes → SectionExceeds room bytes × SectionOverflows room bytes
trailer_exceeds bytes (none, (more, fields, last, reads)) over =
    let came = fields_came bytes more [] fields last none reads in (
      (flat_map print_field came.fields, came.after, came.lines.1, came.fields, (came.lines.0, sym (append-nil _)), omega (arith, over, came.all_came)),
      λ more' fields' last' rest reads'.
          let came' = fields_came bytes more' rest fields' last' none reads' in omega (arith, over, came'.all_came, came'.few),
    )

-- at most 100
pub trailer_fits : (bytes : List ℕ) → line_feeds bytes ≤ room → ¬ (SectionExceeds room bytes)
trailer_fits bytes few (front, rest, same, fields, reads, over) =
    let lines = flat_map print_field fields in
    let front_is : front ≡ lines = append_cancel_right front lines (print_end lf) (reads.1 ∙ append-nil (lines ++ print_end lf)) in
    omega (arith, over, few, ap line_feeds same, feeds-append front rest, ap line_feeds front_is, fields_feeds fields reads.0)

-- ---- empty lines at the front

after-nil : after_blank [] ≡ []
unfolding after_blank
after-nil = refl

after_newline : (b : ℕ) (xs : List ℕ) → is_newline b ≡ true → after_blank (b ∷ xs) ≡ after_blank xs
unfolding after_blank
after_newline b xs newline =
    let n = prefix_len is_newline xs in
    let one_more : cond (is_newline b) (1 + n) 0 ≡ suc n = cond-true (is_newline b) (1 + n) 0 newline ∙ omega arith in
    ap (λ k. drop k (b ∷ xs)) one_more

after_other : (b : ℕ) (xs : List ℕ) → is_newline b ≡ false → after_blank (b ∷ xs) ≡ b ∷ xs
unfolding after_blank
after_other b xs other = ap (λ k. drop k (b ∷ xs)) (cond-false (is_newline b) (1 + prefix_len is_newline xs) 0 other)

after_stops : (xs : List ℕ) → Stops is_newline xs → after_blank xs ≡ xs
after_stops [] stops = absurd stops
after_stops (b ∷ xs) stops = after_other b xs stops

after_end : (e : LineEnd) (rest : List ℕ) → after_blank (print_end e ++ rest) ≡ after_blank rest
after_end crlf rest = after_newline 13 (10 ∷ rest) refl ∙ after_newline 10 rest refl
after_end lf rest = after_newline 10 rest refl

after_ends : (es : List LineEnd) (rest : List ℕ) → after_blank (print_blank es ++ rest) ≡ after_blank rest
after_ends [] rest = refl
after_ends (e ∷ es) rest =
    ap after_blank (append_assoc (print_end e) (print_blank es) rest) ∙ (after_end e (print_blank es ++ rest) ∙ after_ends es rest)

-- how many line feeds there are after the empty lines
abbrev ends : List ℕ → ℕ
ends xs = line_feeds (after_blank xs)

ends-nil : ends [] ≡ 0
ends-nil = ap line_feeds after-nil ∙ feeds-nil

blank_ends : (es : List LineEnd) → ends (print_blank es) ≡ 0
blank_ends es = ap ends (sym (append-nil (print_blank es))) ∙ (ap line_feeds (after_ends es []) ∙ ends-nil)

ends_within : (xs : List ℕ) → ends xs ≤ line_feeds xs
ends_within [] = omega (arith, ends-nil)
ends_within (x ∷ xs) =
    elim (cases_Bool (is_newline x)) [
      | inl newline ↦ omega (arith, ap line_feeds (after_newline x xs newline), ends_within xs, feeds-cons x xs)
      | inr other ↦ omega (arith, ap line_feeds (after_other x xs other))
    ]

ends_grow : (xs ys : List ℕ) → ends xs ≤ ends (xs ++ ys)
ends_grow [] ys = omega (arith, ends-nil)
ends_grow (x ∷ xs) ys =
    elim (cases_Bool (is_newline x)) [
      | inl newline ↦ omega (arith, ap line_feeds (after_newline x xs newline), ap line_feeds (after_newline x (xs ++ ys) newline), ends_grow xs ys)
      | inr other ↦ omega (arith, ap line_feeds (after_other x xs other), ap line_feeds (after_other x (xs ++ ys) other), feeds-append (x ∷ xs) ys)
    ]

ends_add : (xs ys : List ℕ) → ends (xs ++ ys) ≤ ends xs + line_feeds ys
ends_add [] ys = omega (arith, ends_within ys)
ends_add (x ∷ xs) ys =
    elim (cases_Bool (is_newline x)) [
      | inl newline ↦ omega (arith, ap line_feeds (after_newline x xs newline), ap line_feeds (after_newline x (xs ++ ys) newline), ends_add xs ys)
      | inr other ↦ omega (arith, ap line_feeds (after_other x xs other), ap line_feeds (after_other x (xs ++ ys) other), feeds-append (x ∷ xs) ys)
    ]

-- ---- heads

-- the request line and these fields came whole, and as many line feeds
record HeadCame (bytes : List ℕ) (h : RequestHead) : Type 0 where
  fields : List Field
  after : List ℕ
  are : All IsField fields
  text : bytes ≡ print_blank h.blank ++ (request_line h ++ (flat_map print_field fields ++ after))
  all_came : ends bytes ≤ 1 + length fields
  few : length fields ≤ length h.fields

line_came : (bytes begun after more rest : List ℕ) (h : RequestHead) → IsRequestHead h → HasNoRequest bytes
    → bytes ≡ print_blank h.blank ++ begun → begun ≡ request_line h ++ after → after ++ more ≡ print_section h.fields h.last ++ rest → HeadCame bytes h
line_came bytes begun after more rest h is none same line goes =
    let none' : HasNoSection after =
    λ fields last end reads.
    none (with_fields h fields last) end (
      still_head h fields last is reads.0,
      same ∙ (ap (λ l. print_blank h.blank ++ l) (line ∙ ap (λ l. request_line h ++ l) reads.1) ∙ sym (request_is (with_fields h fields last) end)),
    ) in
    let came = fields_came after more rest h.fields h.last none' (is.fields, goes) in
    record {
      fields = came.fields;
      after = came.after;
      are = came.lines.0;
      text = same ∙ ap (λ l. print_blank h.blank ++ l) (line ∙ ap (λ l. request_line h ++ l) came.lines.1);
      all_came =
          omega (
            arith,
            came.all_came,
            ap ends same,
            ap line_feeds (after_ends h.blank begun),
            ends_within begun,
            ap line_feeds line,
            feeds-append (request_line h) after,
            one_feed (request_text h) h.line_end (request_clean h is),
          );
      few = came.few;
    }

head_came : (bytes more rest : List ℕ) (h : RequestHead) → HasNoRequest bytes → ReadsRequest (bytes ++ more) h rest → 0 < ends bytes → HeadCame bytes h
head_came bytes more rest h none reads some =
    let section = print_section h.fields h.last ++ rest in
    elim (split bytes more (print_blank h.blank) (request_line h ++ section) (reads.1 ∙ request_is h rest)) [
      | inl begun ↦ elim (line_or_none (request_text h) h.line_end begun.0 more section (request_clean h reads.0) begun.2) [
        | inl line ↦ line_came bytes begun.0 line.0 more rest h reads.0 none begun.1 line.1 line.2
        | inr zero ↦ absurd (omega (arith, some, zero, ap ends begun.1, ap line_feeds (after_ends h.blank begun.0), ends_within begun.0))
      ]
      | inr part ↦ absurd (omega (arith, some, ends_grow bytes (part.0 ∷ part.1), ap ends part.2, blank_ends h.blank))
    ]

came_exceeds : (bytes : List ℕ) (h : RequestHead) → IsRequestHead h → (came : HeadCame bytes h) → room < length came.fields → RequestExceeds room bytes
came_exceeds bytes h is came over =
    let blank = print_blank h.blank in
    let line = request_line h in
    let lines = flat_map print_field came.fields in (
      blank ++ (line ++ lines),
      came.after,
      came.text ∙ (ap (λ l. blank ++ l) (sym (append_assoc line lines came.after)) ∙ sym (append_assoc blank (line ++ lines) came.after)),
      with_fields h came.fields lf,
      (still_head h came.fields lf is came.are, ends_line blank line lines (print_end lf) ∙ sym (request_is (with_fields h came.fields lf) [])),
      over,
    )
  where
    ends_line : (a b c d : List ℕ) → (a ++ (b ++ c)) ++ d ≡ a ++ (b ++ ((c ++ d) ++ []))
    ends_line a b c d = simp (append_assoc, append-nil)

-- the request line and more than 100 lines of fields came
pub head_exceeds : (bytes : List ℕ) → IsUnfinished bytes → room + 1 < line_feeds (after_blank bytes) → HasTooManyFields bytes
head_exceeds bytes (none, inl (more, h, reads)) over =
    let came = head_came bytes more [] h none reads (omega (arith, over)) in (
      came_exceeds bytes h reads.0 came (omega (arith, over, came.all_came)),
      λ more' h' rest reads'.
          let came' = head_came bytes more' rest h' none reads' (omega (arith, over)) in omega (arith, over, came'.all_came, came'.few),
    )
head_exceeds bytes (none, inr (blank, method, target, token, uri, same)) over =
    let text = method ++ 32 ∷ target in
    let whole : bytes ≡ print_blank blank ++ text = same ∙ append_assoc (print_blank blank) method (32 ∷ target) in
    absurd (omega (
      arith,
      over,
      ap ends whole,
      ap line_feeds (after_ends blank text),
      ends_within text,
      feeds-append method (32 ∷ target),
      no_feeds is_token_byte method no_token token.1,
      feeds_other 32 target (λ same. cc),
      no_feeds is_uri_byte target refl uri,
    ))

-- at most 100
pub head_fits : (bytes : List ℕ) → line_feeds (after_blank bytes) ≤ room + 1 → ¬ (RequestExceeds room bytes)
head_fits bytes few (front, rest, same, h, reads, over) =
    let section = print_section h.fields h.last ++ [] in
    let text : front ++ print_end lf ≡ print_blank h.blank ++ (request_line h ++ section) = reads.1 ∙ request_is h [] in
    let begins : Stops is_newline (request_line h ++ section) =
    subst (Stops is_newline) (sym (regroup_section h.method (32 ∷ (h.target ++ 32 ∷ print_version h.minor)) (print_end h.line_end) section))
    (Stops_token h.method _ reads.0.method.0 reads.0.method.1) in
    omega (
      arith,
      over,
      few,
      ap ends same,
      ends_grow front rest,
      ends_add front (print_end lf),
      end_feeds lf,
      ap ends text,
      ap line_feeds (after_ends h.blank (request_line h ++ section) ∙ after_stops (request_line h ++ section) begins),
      feeds-append (request_line h) section,
      one_feed (request_text h) h.line_end (request_clean h reads.0),
      ap line_feeds (append-nil (print_section h.fields h.last)),
      feeds-append (flat_map print_field h.fields) (print_end h.last),
      fields_feeds h.fields reads.0.fields,
      end_feeds h.last,
    )
