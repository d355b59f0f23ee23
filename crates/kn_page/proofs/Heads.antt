-- Heads at the front of the bytes that came.
use Rattle.std.proofs.Common.{◌≡◌, inl, inr, ℕ, ◌+◌, ◌≤◌, List, ◌++◌, length, take, drop, Option, None, Some, IfSome, Ok, sym, ap, subst, ◌∙◌, refl, arith, append_assoc}
use Rattle.std.proofs.lemmas.List.{length-map, length-take, length-take-le, take-append-drop, take-append-le}
use Rattle.std.proofs.Math.Seq.{take-append-add, take-append_seam}
use Rattle.std.specs.Io.KnownBytes.{Consumes}
use Rattle.std.proofs.KnownBytes.{Consumes-trans}
use Rattle.httparse.specs.declared.Error.{Error}
use Rattle.httparse.specs.declared.Status.{Status}
use Rattle.httparse.specs.declared.Status.TheVariants.{Complete, Partial}
use Rattle.httparse.specs.Outcome.{IfComplete}
use Rattle.httparse.specs.declared.spans.HeaderSpan.{HeaderSpan}
use Rattle.httparse.specs.declared.spans.RequestSpans.{RequestSpans}
use Rattle.httparse.specs.Grammar.{Field, HasNoRequest, RequestHead, print_request}
use Rattle.httparse.specs.Spans.{AreFieldsAt, IsRequestAt, RequestOverflows, header_bytes, name_and_value}
use Rattle.kn_page.specs.declared.asked.Asked.{Asked}
use Rattle.kn_page.specs.Asking.{Asks, BeginsWithin, asked_of, most_head_bytes, most_head_fields, no_head}
use borrow.Rule.Slice.PartMut.{put_mid, post_of}

-- what is said of a head that ended
complete_same : (x r : RequestSpans) → Complete x ≡ Complete r → x ≡ r
complete_same x r e = cc

pub complete_is : (s : Status RequestSpans) (r : RequestSpans) (P : RequestSpans → Type 0) → s ≡ Complete r → IfComplete {E = Error} (Ok s) P → P r
complete_is (Complete x) r P e h = subst P (complete_same x r e) h
complete_is Partial r P e h = absurd (cc)

few_fields : (bytes : List ℕ) (headers : List HeaderSpan) (count : ℕ) (fields : List Field) → AreFieldsAt bytes headers count fields → length fields ≤ length headers
few_fields bytes headers count fields are =
    let same : length (take count headers) ≡ length fields = sym (length-map (take count headers) (header_bytes bytes)) ∙ ap length are ∙ length-map fields name_and_value in
    omega (arith, same, length-take count headers)

-- a head that the parser found is one whatever follows
pub found_asks : (bytes : List ℕ) (headers : List HeaderSpan) (r : RequestSpans) (h : RequestHead) (more : List ℕ) (asked : Asked) → IsRequestAt bytes headers r h
    → r.len ≤ length bytes → length bytes ≤ most_head_bytes → length headers ≤ most_head_fields → asked ≡ asked_of h.method h.target → Asks (bytes ++ more) asked
found_asks bytes headers r h more asked at within short few is =
    let start : BeginsWithin (bytes ++ more) h = record {
      rest = drop r.len bytes ++ more;
      reads = (at.reads.0, ap (λ l. l ++ more) at.reads.1 ∙ append_assoc (print_request h) (drop r.len bytes) more);
      short = omega (arith, at.len, within, short);
      few = omega (arith, few_fields bytes headers r.headers h.fields at.fields, few);
    } in
    inl (h, start, is)

-- where each head at the front has too many fields there is none within the bounds
pub overflow_asks : (bytes more : List ℕ) → RequestOverflows most_head_fields bytes → Asks (bytes ++ more) no_head
overflow_asks bytes more over = inr (λ h start. let many = over more h start.rest start.reads in let few = start.few in omega (arith, many, few), refl)

-- a head that ends within the bytes that came is one of them alone
front_is : (bytes more text rest : List ℕ) → bytes ++ more ≡ text ++ rest → length text ≤ length bytes → bytes ≡ text ++ drop (length text) bytes
front_is bytes more text rest same fits =
    let front : take (length text) bytes ≡ text = sym (take-append-le (length text) bytes more fits) ∙ ap (take (length text)) same ∙ take-append_seam text rest in
    sym (take-append-drop (length text) bytes) ∙ ap (λ l. l ++ drop (length text) bytes) front

-- so many bytes came as a head has at most, and they have none
pub full_asks : (bytes more : List ℕ) → length bytes ≡ most_head_bytes → HasNoRequest bytes → Asks (bytes ++ more) no_head
full_asks bytes more full none =
    inr (
      λ h start.
          let short = start.short in
          none h (drop (length (print_request h)) bytes) (start.reads.0, front_is bytes more (print_request h) start.rest start.reads.1 (omega (arith, short, full))),
      refl,
    )

-- ---- known bytes

pub known_asks : (old new : Option (List ℕ)) (came : List ℕ) (asked : Asked) → Consumes old new came → ((more : List ℕ) → Asks (came ++ more) asked) → IfSome old (λ bytes. Asks bytes asked)
known_asks None new came asked moved asks = tt
known_asks (Some xs) None came asked moved asks = absurd moved
known_asks (Some xs) (Some ys) came asked moved asks = subst (λ l. Asks l asked) (sym moved) (asks ys)

-- a piece that is read behind what came
filled : (buffer piece : List ℕ) (a k n : ℕ) → a ≤ length buffer → n ≤ length piece → take (a + n) (put_mid a k buffer piece) ≡ take a buffer ++ take n piece
filled buffer piece a k n within fits =
    let len : length (take a buffer) ≡ a = length-take-le a buffer within in
    ap (λ m. take (m + n) (put_mid a k buffer piece)) (sym len)
    ∙ (take-append-add (take a buffer) (piece ++ post_of a k buffer) n
    ∙ ap (λ r. take a buffer ++ r) (take-append-le n piece (post_of a k buffer) fits))

pub more_consumed : (old mid new : Option (List ℕ)) (buffer piece : List ℕ) (a k n : ℕ) → a ≤ length buffer → n ≤ length piece
    → Consumes old mid (take a buffer) → Consumes mid new (take n piece) → Consumes old new (take (a + n) (put_mid a k buffer piece))
more_consumed old mid new buffer piece a k n within fits first second =
    subst (Consumes old new) (sym (filled buffer piece a k n within fits)) (Consumes-trans old mid new (take a buffer) (take n piece) first second)
