-- What a client is handed of a reply.
use Rattle.std.proofs.Common.{◌≡◌, ◌≤◌, ◌+◌, ◌==◌, ℕ, Bool, true, false, cond, IfOk, Option, None, Some, Result, Ok, Err, List, [], ◌∷◌, ◌++◌, length, take, drop, map, filter, refl, sym, ap, ap₂, subst, ◌∙◌, arith, append_assoc, append-nil, length-append, take-append-drop}
use Rattle.std.specs.Prelude.{IfSome}
use Rattle.std.proofs.lemmas.Bool.{cond-true, cond-false}
use Rattle.std.proofs.lemmas.List.{append_cancel_right, length-map}
use Rattle.httparse.specs.Grammar.{IsResponseHead, ReadsResponse, ResponseHead, print_response, status_code}
use Rattle.httparse.specs.Spans.{name_and_value}
use Rattle.httparse.specs.declared.spans.HeaderSpan.{HeaderSpan}
use Rattle.httparse.specs.declared.spans.ResponseSpans.{ResponseSpans}
use Rattle.httparse.proofs.GrammarLemmas.{ReadsResponse-append}
use Rattle.kn_reply.specs.Replies.{FollowsInterims, IsWholeReply, has_no_body, is_interim, none, one_more}
use Rattle.kn_reply.specs.Ends.{IsHeadAt, IsReplyOf, ReadsBody, ReadsHeads, ReadsReply, answer, interim, most_fields, most_reply}
use Rattle.kn_reply.specs.Closing.{Closes, IsHandedOn, IsHandedOnOf, ReadsAgain, closing_field, closing_head, handed_fields, handed_head, is_kept}
use Rattle.kn_reply.proofs.Anew.{anew_head, anew_is, head_longer, same_body, same_bytes, same_fields}
use Rattle.kn_reply.proofs.OneReply.{heads_unique}
use Rattle.kn_reply.proofs.Replied.{whole_body}

-- ---- the interim heads

-- what stands before the head of the answer, and that another head may follow there
pub record Fronts (k : ℕ) (bytes : List ℕ) (head : ResponseHead) (body : List ℕ) : Type 0 where
  pub front : List ℕ
  pub same : bytes ≡ front ++ (print_response head ++ body)
  pub follows : (reply other : List ℕ) → FollowsInterims reply (front ++ other) → FollowsInterims reply other
  pub reads : (h : ResponseHead) (other rest : List ℕ) → ReadsResponse other h rest → length h.fields ≤ most_fields
      → is_interim (status_code h) ≡ false → ReadsHeads k (front ++ other) h rest

fronts : (k : ℕ) (bytes : List ℕ) (head : ResponseHead) (body : List ℕ) → ReadsHeads k bytes head body → Fronts k bytes head body
fronts k bytes head body (answer fewer there few final) = record {
  front = [];
  same = there.1;
  follows = λ reply other f. f;
  reads = λ h other rest r small last. answer fewer r small last;
}
fronts k bytes head body (interim before text fewer there few goes later) =
    let inner = fronts (k + 1) text head body later in
    let p = print_response before in
    record {
      front = p ++ inner.front;
      same = there.1 ∙ (ap (λ l. p ++ l) inner.same ∙ sym (append_assoc p inner.front (print_response head ++ body)));
      follows = λ reply other f.
          inner.follows reply other
          (one_more {text = p ++ (inner.front ++ other)} before (inner.front ++ other)
          (subst (FollowsInterims reply) (append_assoc p inner.front other) f) (there.0, refl) goes);
      reads = λ h other rest r small last.
          interim before (inner.front ++ other) fewer (there.0, append_assoc p inner.front other) few goes
          (inner.reads h other rest r small last);
    }

few_of : (k : ℕ) (bytes : List ℕ) (head : ResponseHead) (body : List ℕ) → ReadsHeads k bytes head body → length head.fields ≤ most_fields
few_of k bytes head body (answer fewer there few final) = few
few_of k bytes head body (interim before text fewer there few goes later) = few_of (k + 1) text head body later

final_of : (k : ℕ) (bytes : List ℕ) (head : ResponseHead) (body : List ℕ) → ReadsHeads k bytes head body
    → is_interim (status_code head) ≡ false
final_of k bytes head body (answer fewer there few final) = final
final_of k bytes head body (interim before text fewer there few goes later) = final_of (k + 1) text head body later

is_of : (k : ℕ) (bytes : List ℕ) (head : ResponseHead) (body : List ℕ) → ReadsHeads k bytes head body → IsResponseHead head
is_of k bytes head body (answer fewer there few final) = there.0
is_of k bytes head body (interim before text fewer there few goes later) = is_of (k + 1) text head body later

pub same_front : (front other : List ℕ) (head : ResponseHead) (body bytes : List ℕ) → bytes ≡ front ++ print_response head ++ body
    → bytes ≡ other ++ (print_response head ++ body) → other ≡ front
same_front front other head body bytes x y =
    append_cancel_right other front (print_response head ++ body) (sym y ∙ (x ∙ append_assoc front (print_response head) body))

-- ---- one answer

pub one_answer : (reply a b : List ℕ) → Closes reply a → Closes reply b → a ≡ b
one_answer reply a b x y =
    let same = heads_unique 0 reply x.head y.head x.body y.body x.heads y.heads in
    let tail : print_response y.head ++ y.body ≡ print_response x.head ++ x.body =
    ap₂ (λ (h : ResponseHead) (l : List ℕ). print_response h ++ l) (sym same.0) (sym same.1) in
    let front = same_front x.interim y.interim x.head x.body reply x.came
    (y.came ∙ (append_assoc y.interim (print_response y.head) y.body ∙ ap (λ l. y.interim ++ l) tail)) in
    x.goes
    ∙ (ap (λ l. l ++ handed_head x.head ++ x.body) (sym front)
    ∙ (ap₂ (λ (h : ResponseHead) (l : List ℕ). y.interim ++ handed_head h ++ l) same.0 same.1 ∙ sym y.goes))

-- ---- read again

module _ (request reply text : List ℕ) (head h : ResponseHead) (body : List ℕ) (f : Fronts 0 reply head body)
    (goes : text ≡ f.front ++ (print_response h ++ body)) (is : IsResponseHead h) (final : is_interim (status_code h) ≡ false)
    (ends : ReadsBody (has_no_body request (status_code h)) (map name_and_value h.fields) body []) where
  abbrev pub whole_again : IsWholeReply request text
  whole_again = record {
    text = print_response h ++ body;
    head = h;
    body = body;
    follows = f.follows text (print_response h ++ body) (subst (FollowsInterims text) goes none);
    reads = (is, refl);
    final = final;
    whole = whole_body _ _ _ _ (map name_and_value h.fields) body refl ends;
  }

  pub exact_again : length h.fields ≤ most_fields → ReadsReply request text []
  exact_again few = record {
    head = h;
    body = body;
    heads = subst (λ b. ReadsHeads 0 b h body) (sym goes) (f.reads h (print_response h ++ body) body (is, refl) few final);
    ends = ends;
  }

by_status : (request reply text : List ℕ) (head : ResponseHead) (body : List ℕ) (f : Fronts 0 reply head body) → IsResponseHead head
    → is_interim (status_code head) ≡ false → length head.fields ≤ most_fields
    → ReadsBody (has_no_body request (status_code head)) (map name_and_value head.fields) body [] → (b : Bool)
    → (status_code head == 101) ≡ b → text ≡ f.front ++ (cond (status_code head == 101) (print_response head) (closing_head head) ++ body)
    → ReadsAgain request text head body
by_status request reply text head body f is final few ends true e goes =
    let bytes : text ≡ f.front ++ (print_response head ++ body) =
    goes ∙ ap (λ l. f.front ++ (l ++ body)) (cond-true (status_code head == 101) (print_response head) (closing_head head) e) in
    let fs = map name_and_value head.fields in
    record {
      whole = whole_again request reply text head head body f bytes is final ends;
      status = refl;
      fields = sym (cond-true (status_code head == 101) fs (filter is_kept fs ++ closing_field ∷ []) e);
      same = refl;
      exact = λ small. exact_again request reply text head head body f bytes is final ends few;
    }
by_status request reply text head body f is final few ends false e goes =
    let h = anew_head head in
    let fs = map name_and_value head.fields in
    let bytes : text ≡ f.front ++ (print_response h ++ body) =
    goes ∙ ap (λ l. f.front ++ (l ++ body))
    (cond-false (status_code head == 101) (print_response head) (closing_head head) e ∙ sym (same_bytes head)) in
    let named : map name_and_value h.fields ≡ handed_fields head =
    same_fields head.fields ∙ sym (cond-false (status_code head == 101) fs (filter is_kept fs ++ closing_field ∷ []) e) in
    let later : ReadsBody (has_no_body request (status_code h)) (map name_and_value h.fields) body [] =
    subst (λ l. ReadsBody (has_no_body request (status_code h)) l body []) (sym (same_fields head.fields))
    (same_body (has_no_body request (status_code head)) fs body [] ends) in
    record {
      whole = whole_again request reply text head h body f bytes (anew_is head is) final later;
      status = refl;
      fields = named;
      same = refl;
      exact = λ small. exact_again request reply text head h body f bytes (anew_is head is) final later
          (omega (arith, small, ap length named, length-map h.fields name_and_value));
    }

pub reads_again : (request reply text : List ℕ) → ReadsReply request reply [] → (c : Closes reply text)
    → ReadsAgain request text c.head c.body
unfolding handed_head
reads_again request reply text r c =
    let same = heads_unique 0 reply r.head c.head r.body c.body r.heads c.heads in
    let ends : ReadsBody (has_no_body request (status_code c.head)) (map name_and_value c.head.fields) c.body [] =
    subst (λ b. ReadsBody (has_no_body request (status_code c.head)) (map name_and_value c.head.fields) b []) same.1
    (subst (λ (g : ResponseHead). ReadsBody (has_no_body request (status_code g)) (map name_and_value g.fields) r.body []) same.0 r.ends) in
    let f = fronts 0 reply c.head c.body c.heads in
    let goes = c.goes ∙ (append_assoc c.interim (handed_head c.head) c.body
    ∙ ap (λ l. l ++ (handed_head c.head ++ c.body)) (sym (same_front c.interim f.front c.head c.body reply c.came f.same))) in
    by_status request reply text c.head c.body f (is_of 0 reply c.head c.body c.heads) (final_of 0 reply c.head c.body c.heads)
    (few_of 0 reply c.head c.body c.heads) ends (status_code c.head == 101) refl goes

-- ---- its length

by_status_length : (head : ResponseHead) → length head.fields ≤ most_fields → (b : Bool)
    → length (cond b (print_response head) (closing_head head)) ≤ length (print_response head) + 534
by_status_length head few true = omega arith
by_status_length head few false = omega (arith, few, head_longer head)

pub longer : (reply text : List ℕ) → Closes reply text → length text ≤ length reply + 534
unfolding handed_head
longer reply text c =
    let h = c.head in
    omega (
      arith,
      by_status_length h (few_of 0 reply h c.body c.heads) (status_code h == 101),
      ap length c.goes,
      ap length c.came,
      length-append (c.interim ++ handed_head h) c.body,
      length-append c.interim (handed_head h),
      length-append (c.interim ++ print_response h) c.body,
      length-append c.interim (print_response h),
    )

-- ---- where it is written

-- what an answer's head and the bytes behind it are
pub heads_at : (reply : List ℕ) (spans : List HeaderSpan) (start : ℕ) (r : ResponseSpans) (found : IsHeadAt reply spans start r)
    → ReadsHeads 0 reply found.head (drop r.len (drop start reply))
heads_at reply spans start r found =
    let behind = drop r.len (drop start reply) in
    subst (λ b. ReadsHeads 0 b found.head behind) (append-nil reply)
    (subst (λ b. ReadsHeads 0 (reply ++ []) found.head b) (append-nil behind)
    ((found.same [] found.head (behind ++ [])).1
    (answer found.fewer (ReadsResponse-append (drop start reply) found.head behind [] found.parts.reads) found.few
    (ap is_interim (sym found.parts.code) ∙ found.final))))

pub came_at : (reply : List ℕ) (spans : List HeaderSpan) (start : ℕ) (r : ResponseSpans) (found : IsHeadAt reply spans start r)
    → reply ≡ take start reply ++ print_response found.head ++ drop r.len (drop start reply)
came_at reply spans start r found =
    sym (take-append-drop start reply)
    ∙ (ap (λ l. take start reply ++ l) found.parts.reads.1
    ∙ sym (append_assoc (take start reply) (print_response found.head) (drop r.len (drop start reply))))

pub closes_at : (reply text : List ℕ) (spans : List HeaderSpan) (start : ℕ) (r : ResponseSpans) (found : IsHeadAt reply spans start r)
    → text ≡ take start reply ++ handed_head found.head ++ drop r.len (drop start reply) → Closes reply text
closes_at reply text spans start r found goes = record {
  interim = take start reply;
  head = found.head;
  body = drop r.len (drop start reply);
  heads = heads_at reply spans start r found;
  came = came_at reply spans start r found;
  goes = goes;
}

pub joined : (reply text front behind a b d e head : List ℕ) (start n : ℕ) → a ≡ [] → front ≡ take start reply → text ≡ drop start reply
    → b ≡ a ++ front → d ≡ b ++ head → e ≡ d ++ behind → behind ≡ drop n text
    → e ≡ take start reply ++ head ++ drop n (drop start reply)
joined reply text front behind a b d e head start n empty first here x y z last =
    z ∙ ap₂ (λ l m. l ++ m) (y ∙ ap (λ l. l ++ head) (x ∙ ap₂ (λ l m. l ++ m) empty first)) (last ∙ ap (drop n) here)

-- ---- by the result

pub handed_if : {E : Type 0} (request reply : List ℕ) (r : Result (List ℕ) E) → length reply ≤ most_reply → ReadsReply request reply []
    → IfOk r (Closes reply) → IfOk r (IsHandedOn request)
handed_if request reply (Ok text) short reads c = record { reply = reply; short = short; reads = reads; closes = c }
handed_if request reply (Err e) short reads c = tt

pub whole_if : {E : Type 0} (request : List ℕ) (r : Result (List ℕ) E) → IfOk r (IsHandedOn request)
    → IfOk r (λ text. IsWholeReply request text)
whole_if request (Ok text) h = (reads_again request h.reply text h.reads h.closes).whole
whole_if request (Err e) h = tt

pub short_if : {E : Type 0} (request : List ℕ) (r : Result (List ℕ) E) → IfOk r (IsHandedOn request)
    → IfOk r (λ text. length text ≤ 1114646)
short_if request (Ok text) h = omega (arith, h.short, longer h.reply text h.closes)
short_if request (Err e) h = tt

pub sent_if : {E : Type 0} (request reply : List ℕ) (told : Option (List ℕ)) (r : Result (List ℕ) E)
    → IfSome told (λ sent. IsReplyOf request sent reply) → IfOk r (Closes reply)
    → IfOk r (λ answer. IfSome told (λ sent. IsHandedOnOf request sent answer))
sent_if request reply None (Ok text) s c = tt
sent_if request reply (Some sent) (Ok text) s c = (reply, s, c)
sent_if request reply told (Err e) s c = tt
