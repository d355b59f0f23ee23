-- Whether an answer is in chunks, by the head that was found, and what is sent of it.
use Rattle.std.proofs.Common.{◌≡◌, ◌+◌, ℕ, Bool, true, false, List, [], ◌++◌, take, drop, map, sym, subst, ap, ap₂, ◌∙◌, refl, rules, append_assoc}
use Rattle.std.proofs.lemmas.List.{drop-drop}
use Rattle.httparse.specs.Grammar.{ResponseHead, print_response, reason_phrase}
use Rattle.httparse.specs.Ascii.{crlf_bytes}
use Rattle.httparse.specs.Spans.{header_bytes, name_and_value, span_bytes}
use Rattle.httparse.specs.declared.spans.HeaderSpan.{HeaderSpan}
use Rattle.httparse.specs.declared.spans.ResponseSpans.{ResponseSpans}
use Rattle.kn_http.specs.Laws.{AreDetermined}
use Rattle.kn_reply.specs.Ends.{reply_bounds, IsHeadAt}
use Rattle.kn_reply.specs.Closing.{status_line, three_digits}
use Rattle.kn_reply.specs.Plain.{AreChunksOf, HeadInChunks, IsInChunks, IsPlainOf, are_chunks_alone, as_it_is, other_lines, plain, plain_head}
use Rattle.kn_reply.proofs.Closed.{came_at, heads_at, same_front}
use Rattle.kn_reply.proofs.OneReply.{heads_unique}
use Rattle.kn_reply.proofs.Written.{same_line}

true_is_not : true ≡ false → ⊥
true_is_not e = search rules

module _ (answer : List ℕ) (spans : List HeaderSpan) (start : ℕ) (r : ResponseSpans) (found : IsHeadAt answer spans start r) where
  same : (interim : List ℕ) (head : ResponseHead) (value : List ℕ) (x : IsInChunks answer interim head value)
      → (head ≡ found.head) × (x.body ≡ drop (start + r.len) answer)
  same interim head value x =
      let one = heads_unique 0 answer head found.head x.body (drop r.len (drop start answer)) x.heads (heads_at answer spans start r found) in
      (one.0, one.1 ∙ drop-drop r.len start answer)

  pub alone_by : (text : List ℕ) → text ≡ drop start answer → (b : Bool) → b ≡ are_chunks_alone (map (header_bytes text) (take r.headers spans))
      → are_chunks_alone (map name_and_value found.head.fields) ≡ b
  alone_by text here b e =
      ap are_chunks_alone (sym (ap (λ t. map (header_bytes t) (take r.headers spans)) here ∙ found.parts.fields)) ∙ sym e

  pub not_alone : are_chunks_alone (map name_and_value found.head.fields) ≡ false → (interim : List ℕ) (head : ResponseHead) (value : List ℕ)
      → ¬ (IsInChunks answer interim head value)
  not_alone none interim head value x =
      let coded : ResponseHead → Bool = λ h. are_chunks_alone (map name_and_value h.fields) in
      true_is_not (sym x.coded ∙ (ap coded (same interim head value x).0 ∙ none))

  pub not_whole : ((value : List ℕ) → ¬ (AreChunksOf value (drop (start + r.len) answer))) → (interim : List ℕ) (head : ResponseHead) (value : List ℕ)
      → ¬ (IsInChunks answer interim head value)
  not_whole none interim head value x = none value (subst (AreChunksOf value) (same interim head value x).1 x.chunks)

pub goes_plain : (answer : List ℕ) (spans : List HeaderSpan) (start : ℕ) (r : ResponseSpans) (h : HeadInChunks answer spans start r)
    → IsPlainOf answer (take start answer ++ plain_head h.found.head ++ h.value)
goes_plain answer spans start r h =
    plain (take start answer) h.found.head h.value
    (record {
      body = drop r.len (drop start answer);
      heads = heads_at answer spans start r h.found;
      came = came_at answer spans start r h.found;
      coded = h.coded;
      chunks = subst (AreChunksOf h.value) (sym (drop-drop r.len start answer)) h.chunks;
    })

-- ---- one form

pub one_plain : (law : AreDetermined) (answer a b : List ℕ) → IsPlainOf answer a → IsPlainOf answer b → a ≡ b
one_plain law answer a b (plain interim head value x) (plain interim' head' value' y) =
    let same = heads_unique 0 answer head head' x.body y.body x.heads y.heads in
    let tail : print_response head' ++ y.body ≡ print_response head ++ x.body =
    ap₂ (λ (h : ResponseHead) (l : List ℕ). print_response h ++ l) (sym same.0) (sym same.1) in
    let front = same_front interim interim' head x.body answer x.came
    (y.came ∙ (append_assoc interim' (print_response head') y.body ∙ ap (λ l. interim' ++ l) tail)) in
    let last = law.body reply_bounds y.body value value' [] [] (subst (AreChunksOf value) same.1 x.chunks) y.chunks in
    ap (λ l. l ++ plain_head head ++ value) (sym front)
    ∙ ap₂ (λ (h : ResponseHead) (l : List ℕ). interim' ++ plain_head h ++ l) same.0 last.0
one_plain law answer a b (plain interim head value x) (as_it_is none) = absurd (none interim head value x)
one_plain law answer a b (as_it_is none) (plain interim head value x) = absurd (none interim head value x)
one_plain law answer a b (as_it_is none) (as_it_is none') = refl

-- ---- the parts as they are written

regroup : (f s o e v : List ℕ) → (f ++ ((s ++ o) ++ e)) ++ v ≡ (f ++ s) ++ ((o ++ e) ++ v)
regroup f s o e v = simp append_assoc

pub parts_are : (answer text interim reason : List ℕ) (spans : List HeaderSpan) (start : ℕ) (r : ResponseSpans)
    (h : HeadInChunks answer spans start r) → interim ≡ take start answer → text ≡ drop start answer → reason ≡ span_bytes text r.reason
    → take start answer ++ plain_head h.found.head ++ h.value
    ≡ (interim ++ status_line r.version (three_digits r.code) reason)
    ++ ((other_lines (map (header_bytes text) (take r.headers spans)) ++ crlf_bytes) ++ h.value)
unfolding plain_head
parts_are answer text interim reason spans start r h first here named =
    let g = h.found.head in
    let s : status_line r.version (three_digits r.code) reason ≡ status_line g.minor g.digits (reason_phrase g.reason) =
    ap (status_line r.version (three_digits r.code)) (named ∙ ap (λ t. span_bytes t r.reason) here)
    ∙ same_line (drop start answer) spans r g h.found.parts in
    let o : other_lines (map (header_bytes text) (take r.headers spans)) ≡ other_lines (map name_and_value g.fields) =
    ap other_lines (ap (λ t. map (header_bytes t) (take r.headers spans)) here ∙ h.found.parts.fields) in
    regroup (take start answer) (status_line g.minor g.digits (reason_phrase g.reason)) (other_lines (map name_and_value g.fields)) crlf_bytes h.value
    ∙ sym (ap₂ (λ a b. a ++ ((b ++ crlf_bytes) ++ h.value)) (ap₂ (λ a b. a ++ b) first s) o)
