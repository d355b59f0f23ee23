-- Where the heads of a reply end.
use Rattle.std.proofs.Common.{◌≡◌, ◌<◌, ◌≤◌, ◌+◌, ℕ, Bool, List, [], ◌++◌, length, take, drop, map, true, false, sym, subst, ap, ◌∙◌, arith, rules, append-nil, length-append}
use Rattle.std.proofs.lemmas.List.{drop-append-le, drop-drop, length-map, length-take-le}
use Rattle.httparse.specs.Grammar.{Field, ResponseHead, ReadsResponse, HasNoResponse, status_code}
use Rattle.httparse.specs.Spans.{IsResponseAt, IsResponseWithin, ResponseOverflows, header_bytes, name_and_value}
use Rattle.httparse.specs.declared.spans.HeaderSpan.{HeaderSpan}
use Rattle.httparse.specs.declared.spans.ResponseSpans.{ResponseSpans}
use Rattle.httparse.proofs.GrammarLemmas.{response_unique, ReadsResponse-append}
use Rattle.kn_reply.specs.declared.reply.Stage.{Stage}
use Rattle.kn_reply.proofs.Bodies.{within_more}
use Rattle.kn_reply.specs.Replies.{is_interim, has_no_body}
use Rattle.kn_reply.specs.Ends.{most_fields, most_heads, IsHeadAt, ReadsHeads, answer, interim, ReadsReply, ReadsBody, IsStageOf, NoStage, StageWithin, Meets, NoHeads, NeverHeads, NeverReply, SameHeads}

-- the fields that the first spans cover are within their room
pub few_fields : (buf : List ℕ) (spans : List HeaderSpan) (count : ℕ) (fields : List Field)
    → map (header_bytes buf) (take count spans) ≡ map name_and_value fields → count ≤ length spans → length spans ≡ most_fields
    → length fields ≤ most_fields
few_fields buf spans count fields same fits room =
    omega (
      arith,
      fits,
      room,
      ap length same,
      length-map (take count spans) (header_bytes buf),
      length-map fields name_and_value,
      length-take-le count spans fits,
    )

apart : {b : Bool} → b ≡ true → b ≡ false → ⊥
apart {b} x y = absurd (differ (sym x ∙ y))
  where
    differ : true ≡ false → ⊥
    differ e = search rules

-- the head at the front is the answer's
pub last_head : (k : ℕ) (text : List ℕ) (h : ResponseHead) (behind more : List ℕ) (head : ResponseHead) (rest : List ℕ)
    → ReadsResponse text h behind → is_interim (status_code h) ≡ false → ReadsHeads k (text ++ more) head rest
    → (h ≡ head) × (behind ++ more ≡ rest)
last_head k text h behind more head rest reads final (answer fewer there few ends) =
    response_unique (text ++ more) h head (behind ++ more) rest (ReadsResponse-append text h behind more reads) there
last_head k text h behind more head rest reads final (interim before next fewer there few goes later) =
    let same = response_unique (text ++ more) h before (behind ++ more) next (ReadsResponse-append text h behind more reads) there in
    absurd (apart goes (ap (λ x. is_interim (status_code x)) (sym same.0) ∙ final))

-- it is an interim one
pub after_head : (k : ℕ) (text : List ℕ) (h : ResponseHead) (behind more : List ℕ) (head : ResponseHead) (rest : List ℕ)
    → ReadsResponse text h behind → is_interim (status_code h) ≡ true → ReadsHeads k (text ++ more) head rest
    → ReadsHeads (k + 1) (behind ++ more) head rest
after_head k text h behind more head rest reads goes (answer fewer there few final) =
    let same = response_unique (text ++ more) h head (behind ++ more) rest (ReadsResponse-append text h behind more reads) there in
    absurd (apart goes (ap (λ x. is_interim (status_code x)) same.0 ∙ final))
after_head k text h behind more head rest reads goes (interim before next fewer there few again later) =
    let same = response_unique (text ++ more) h before (behind ++ more) next (ReadsResponse-append text h behind more reads) there in
    subst (λ t. ReadsHeads (k + 1) t head rest) (sym same.1) later

pub next_head : (k : ℕ) (bytes text : List ℕ) (h : ResponseHead) (behind : List ℕ) → SameHeads k bytes text → k < most_heads
    → ReadsResponse text h behind → length h.fields ≤ most_fields → is_interim (status_code h) ≡ true → SameHeads (k + 1) bytes behind
next_head k bytes text h behind same fewer reads few goes more head rest = (
  λ r. after_head k text h behind more head rest reads goes ((same more head rest).0 r),
  λ r. (same more head rest).1 (interim h (behind ++ more) fewer (ReadsResponse-append text h behind more reads) few goes r),
)

-- ---- no head

pub no_head : (k : ℕ) (text : List ℕ) (head : ResponseHead) (rest : List ℕ) → HasNoResponse text → ¬ (ReadsHeads k text head rest)
no_head k text head rest none (answer fewer there few final) = none head rest there
no_head k text head rest none (interim before next fewer there few goes later) = none before next there

pub never_head : (k : ℕ) (text more : List ℕ) (head : ResponseHead) (rest : List ℕ) → ResponseOverflows most_fields text
    → ¬ (ReadsHeads k (text ++ more) head rest)
never_head k text more head rest over (answer fewer there few final) =
    let many = over more head rest there in absurd (omega (arith, many, few))
never_head k text more head rest over (interim before next fewer there few goes later) =
    let many = over more before next there in absurd (omega (arith, many, few))

pub cut_heads : (bytes text : List ℕ) (k : ℕ) → SameHeads k bytes text → HasNoResponse text → NoHeads bytes
cut_heads bytes text k same none head rest r =
    no_head k text head rest none (subst (λ t. ReadsHeads k t head rest) (append-nil text)
    ((same [] head rest).0 (subst (λ t. ReadsHeads 0 t head rest) (sym (append-nil bytes)) r)))

pub never_heads : (bytes text : List ℕ) (k : ℕ) → SameHeads k bytes text → ResponseOverflows most_fields text → NeverHeads bytes
never_heads bytes text k same over more head rest r = never_head k text more head rest over ((same more head rest).0 r)

-- ---- the answer's head

pub found_at : (reply text : List ℕ) (start k : ℕ) (spans : List HeaderSpan) (r : ResponseSpans) (h : ResponseHead) → start ≤ length reply
    → text ≡ drop start reply → IsResponseWithin text spans r → IsResponseAt text spans r h → length h.fields ≤ most_fields
    → SameHeads k reply text → k < most_heads → is_interim r.code ≡ false → IsHeadAt reply spans start r
found_at reply text start k spans r h place same within parts few heads fewer final = record {
  place = place;
  within = subst (λ t. IsResponseWithin t spans r) same within;
  before = k;
  same = subst (λ t. SameHeads k reply t) same heads;
  fewer = fewer;
  head = h;
  parts = subst (λ t. IsResponseAt t spans r h) same parts;
  few = few;
  final = final;
}

module _ (request bytes text : List ℕ) (k at : ℕ) (spans : List HeaderSpan) (r : ResponseSpans) (h : ResponseHead) (none : Bool)
    (same : SameHeads k bytes text) (place : text ≡ drop at bytes) (room : at + r.len ≤ length bytes) (of : IsResponseAt text spans r h)
    (final : is_interim r.code ≡ false) (bodiless : none ≡ has_no_body request r.code) where
  pub there : (more : List ℕ) → drop (at + r.len) (bytes ++ more) ≡ drop r.len text ++ more
  there more =
      drop-append-le (at + r.len) bytes more room
      ∙ ap (λ l. l ++ more) (sym (drop-drop r.len at bytes) ∙ ap (drop r.len) (sym place))

  pub body_to : (more rest : List ℕ) → ReadsReply request (bytes ++ more) rest
      → ReadsBody none (map (header_bytes text) (take r.headers spans)) (drop (at + r.len) (bytes ++ more)) rest
  body_to more rest reads =
      let found = last_head k text h (drop r.len text) more reads.head reads.body of.reads (ap is_interim (sym of.code) ∙ final)
      ((same more reads.head reads.body).0 reads.heads) in
      let bare : has_no_body request (status_code reads.head) ≡ none =
      ap (λ x. has_no_body request (status_code x)) (sym found.0) ∙ (ap (has_no_body request) (sym of.code) ∙ sym bodiless) in
      let named : map name_and_value reads.head.fields ≡ map (header_bytes text) (take r.headers spans) =
      ap (λ (x : ResponseHead). map name_and_value x.fields) (sym found.0) ∙ sym of.fields in
      subst (λ b. ReadsBody b (map (header_bytes text) (take r.headers spans)) (drop (at + r.len) (bytes ++ more)) rest) bare
      (subst (λ f. ReadsBody (has_no_body request (status_code reads.head)) f (drop (at + r.len) (bytes ++ more)) rest) named
      (subst (λ t. ReadsBody (has_no_body request (status_code reads.head)) (map name_and_value reads.head.fields) t rest)
      (sym found.1 ∙ sym (there more)) reads.ends))

  pub body_back : (more rest : List ℕ) → k < most_heads → length h.fields ≤ most_fields
      → ReadsBody none (map (header_bytes text) (take r.headers spans)) (drop (at + r.len) (bytes ++ more)) rest
      → ReadsReply request (bytes ++ more) rest
  body_back more rest fewer few reads =
      let bare : none ≡ has_no_body request (status_code h) = bodiless ∙ ap (has_no_body request) of.code in
      record {
        head = h;
        body = drop r.len text ++ more;
        heads = (same more h (drop r.len text ++ more)).1
            (answer fewer (ReadsResponse-append text h (drop r.len text) more of.reads) few (ap is_interim (sym of.code) ∙ final));
        ends = subst (λ b. ReadsBody b (map name_and_value h.fields) (drop r.len text ++ more) rest) bare
            (subst (λ f. ReadsBody none f (drop r.len text ++ more) rest) of.fields
            (subst (λ t. ReadsBody none (map (header_bytes text) (take r.headers spans)) t rest) (there more) reads));
      }

  pub meets : (s : Stage) → k < most_heads → length h.fields ≤ most_fields
      → IsStageOf none (map (header_bytes text) (take r.headers spans)) (at + r.len) s → StageWithin (at + r.len) s → Meets request bytes s
  meets s fewer few is within = record {
    within = within_more (at + r.len) (length bytes) s room within;
    to = λ more rest reads. (is (bytes ++ more) rest (omega (arith, room, length-append bytes more))).0 (body_to more rest reads);
    back = λ more rest reads. body_back more rest fewer few ((is (bytes ++ more) rest (omega (arith, room, length-append bytes more))).1 reads);
  }

  pub no_body : NoStage none (map (header_bytes text) (take r.headers spans)) → NeverReply request bytes
  no_body never more rest reads = never (drop (at + r.len) (bytes ++ more)) rest (body_to more rest reads)
