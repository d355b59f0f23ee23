-- What the parts that were taken say of all the bytes.
use Rattle.std.proofs.Common.{◌≡◌, ℕ, ◌≤◌, List, [], ◌++◌, length, take, drop, map, Option, None, Some, IfSome, Ok, Err, subst, ap, ◌∙◌, arith, length-append}
use Rattle.httparse.specs.Grammar.{RequestHead, print_request}
use Rattle.httparse.specs.Spans.{IsRequestAt, span_bytes, header_bytes}
use Rattle.httparse.specs.declared.spans.HeaderSpan.{HeaderSpan}
use Rattle.httparse.specs.declared.spans.RequestSpans.{RequestSpans}
use Rattle.httparse.proofs.GrammarLemmas.{ReadsRequest-append}
use Rattle.kn_head.specs.declared.head.Head.{Head}
use Rattle.kn_head.specs.declared.head.HeadError.{HeadError}
use Rattle.kn_head.specs.declared.head.HeadError.TheVariants as error
use Rattle.kn_head.specs.declared.rules.Form.{Form}
use Rattle.kn_head.specs.Told.{unread, IfTold}
use Rattle.kn_head.specs.Heads.{room, limit, HeadFails}
use Rattle.kn_head.specs.Rules.{owner_of, form_of}
use Rattle.kn_head.specs.Reading.{HasBody, BodyFails, is_chunked, HasHead, GivesOwner, Reads, no_head, no_owner, no_form, no_body, no_memory, whole}
use Rattle.kn_head.proofs.Taking.{told_here}

-- ---- from the start

pub from_start : (window : List ℕ) (left : Option (List ℕ)) (P : List ℕ → Type 0) → window ≡ [] → IfSome (unread window left) P → IfSome left P
from_start window None P none h = tt
from_start window (Some bytes) P none h = subst (λ w. P (w ++ bytes)) none h

pub without_memory : (known : Option (List ℕ)) → IfSome known (λ bytes. Reads bytes (Err error.Memory))
without_memory None = tt
without_memory (Some bytes) = no_memory

pub without_head : (known : Option (List ℕ)) (e : HeadError) → IfSome known (λ bytes. HeadFails bytes e) → IfSome known (λ bytes. Reads bytes (Err e))
without_head known e fails = told_here known (λ bytes. HeadFails bytes e) (λ bytes. Reads bytes (Err e)) fails (λ x f. no_head e f)

-- ---- the head

pub head_at : (window bytes more : List ℕ) (spans : List HeaderSpan) (r : RequestSpans) (h : RequestHead) (method target : List ℕ) (minor : ℕ)
    (headers : List (List ℕ × List ℕ)) → IsRequestAt window spans r h → length h.fields ≤ room → length window ≤ limit → bytes ≡ window
    → method ≡ span_bytes bytes r.method → target ≡ span_bytes bytes r.path → minor ≡ r.version
    → headers ≡ map (header_bytes bytes) (take r.headers spans)
    → HasHead method target minor headers (window ++ more) (drop r.len window ++ more)
head_at window bytes more spans r h method target minor headers at_ few short same m t v hs = record {
  text = h;
  begins = record {
    reads = ReadsRequest-append window h (drop r.len window) more at_.reads;
    few = few;
    short = omega (arith, ap length at_.reads.1, length-append (print_request h) (drop r.len window), short);
  };
  parts = record {
    method_is = m ∙ (ap (λ b. span_bytes b r.method) same ∙ at_.method);
    target_is = t ∙ (ap (λ b. span_bytes b r.path) same ∙ at_.path);
    minor_is = v ∙ at_.version;
    headers_are = hs ∙ (ap (λ b. map (header_bytes b) (take r.headers spans)) same ∙ at_.fields);
  };
}

-- ---- the whole

pub without_owner : (old mid : Option (List ℕ)) (method target : List ℕ) (minor : ℕ) (headers : List (List ℕ × List ℕ)) (e : HeadError)
    → IfTold old mid (HasHead method target minor headers) → GivesOwner headers (Err e) → IfSome old (λ bytes. Reads bytes (Err e))
without_owner None mid method target minor headers e told none = tt
without_owner (Some x) None method target minor headers e told none = absurd told
without_owner (Some x) (Some y) method target minor headers error.NoRevision head none =
    no_owner head.text y head.begins (subst (λ hs. owner_of hs ≡ None) head.parts.headers_are none)
without_owner (Some x) (Some y) method target minor headers error.Memory head none = no_memory
without_owner (Some x) (Some y) method target minor headers e head none = absurd none

pub without_form : (old mid : Option (List ℕ)) (method target : List ℕ) (minor : ℕ) (headers : List (List ℕ × List ℕ)) (owner : List ℕ × List ℕ) (e : HeadError)
    → IfTold old mid (HasHead method target minor headers) → owner_of headers ≡ Some owner → form_of headers ≡ Err e
    → IfSome old (λ bytes. Reads bytes (Err e))
without_form None mid method target minor headers owner e told named none = tt
without_form (Some x) None method target minor headers owner e told named none = absurd told
without_form (Some x) (Some y) method target minor headers owner e head named none =
    no_form e head.text y owner head.begins (subst (λ hs. owner_of hs ≡ Some owner) head.parts.headers_are named)
    (subst (λ hs. form_of hs ≡ Err e) head.parts.headers_are none)

pub without_body : (old mid : Option (List ℕ)) (method target : List ℕ) (minor : ℕ) (headers : List (List ℕ × List ℕ)) (owner : List ℕ × List ℕ) (e : HeadError) (kind : Form)
    → IfTold old mid (HasHead method target minor headers) → owner_of headers ≡ Some owner → form_of headers ≡ Ok kind
    → IfSome mid (λ bytes. BodyFails kind bytes e) → IfSome old (λ bytes. Reads bytes (Err e))
without_body None mid method target minor headers owner e kind told named form fails = tt
without_body (Some x) None method target minor headers owner e kind told named form fails = absurd told
without_body (Some x) (Some y) method target minor headers owner e kind head named form fails =
    no_body e head.text y owner kind head.begins (subst (λ hs. owner_of hs ≡ Some owner) head.parts.headers_are named)
    (subst (λ hs. form_of hs ≡ Ok kind) head.parts.headers_are form) fails

pub with_all : (old mid : Option (List ℕ)) (head : Head) (kind : Form) → IfTold old mid (HasHead head.method head.target head.minor head.headers)
    → owner_of head.headers ≡ Some (head.namespace, head.revision) → form_of head.headers ≡ Ok kind → head.chunked ≡ is_chunked kind
    → IfSome mid (λ bytes. HasBody kind bytes head.body) → IfSome old (λ bytes. Reads bytes (Ok head))
with_all None mid head kind told named form chunked body = tt
with_all (Some x) None head kind told named form chunked body = absurd told
with_all (Some x) (Some y) head kind found named form chunked body =
    whole head found.text y kind found.begins
    (record { parts = found.parts; owner = subst (λ hs. owner_of hs ≡ Some (head.namespace, head.revision)) found.parts.headers_are named })
    (subst (λ hs. form_of hs ≡ Ok kind) found.parts.headers_are form) chunked body
