-- No bytes have two answers, of which one is a request.
use Rattle.std.proofs.Common.{◌≡◌, ℕ, ◌+◌, ◌-◌, ◌≤◌, ◌<◌, List, [], ◌∷◌, ◌++◌, length, take, drop, None, Some, Result, Ok, Err, inl, inr, refl, sym, subst, ap, ◌∙◌, arith, length-append, append_assoc, append-nil, unwrap_or}
use Rattle.std.proofs.lemmas.List.{take-append-drop, take-take, take_all}
use Rattle.std.proofs.Math.Seq.{take-append-add}
use Rattle.httparse.specs.Grammar.{RequestHead, print_request, ReadsRequest, NeverHasRequest, EndsInTarget, MayBecomeRequest}
use Rattle.httparse.specs.Spans.{RequestExceeds, SectionExceeds}
use Rattle.httparse.proofs.GrammarLemmas.{request_unique}
use Rattle.kn_http.specs.Chunks.{last, chunk}
use Rattle.kn_http.specs.Laws.{AreDetermined}
use Rattle.kn_http.specs.Parts.{LacksLineEnd, LineEndCut, SizeCut, SizeRefused, TrailerCut, TrailerRefused}
use Rattle.kn_head.specs.declared.head.Head.{Head}
use Rattle.kn_head.specs.declared.head.HeadError.{HeadError}
use Rattle.kn_head.specs.declared.head.HeadError.TheVariants as error
use Rattle.kn_head.specs.declared.rules.Form.{Form}
use Rattle.kn_head.specs.declared.rules.Form.TheVariants as form
use Rattle.kn_head.specs.Told.{PartFails}
use Rattle.kn_head.specs.Heads.{room, limit, BeginsWithHead, HeadFails, fields_of}
use Rattle.kn_head.specs.Rules.{body_limit, owner_of, form_of}
use Rattle.kn_head.specs.Chunks.{request_bounds, IsSizeLine, IsTrailer, IsChunked, SizeFails, TrailerFails, BytesFail, LineEndFails, ChunksFail, at_size, too_long, at_trailer, at_piece, at_end, later}
use Rattle.kn_head.specs.Reading.{HasBody, BodyFails, is_chunked, HasParts, Reads, no_head, no_owner, no_form, no_body, no_memory, whole}
use Rattle.kn_head.specs.Laws.{IsUntold, IsOkUnlessUntold, AreAlike}

-- ---- fronts

front_of : (bytes text rest : List ℕ) (m : ℕ) → bytes ≡ text ++ rest → length text ≤ m → take m bytes ≡ text ++ take (m - length text) rest
front_of bytes text rest m whole_ short =
    let split : m ≡ length text + (m - length text) = omega arith in
    ap (take m) whole_ ∙ (ap (λ n. take n (text ++ rest)) split ∙ take-append-add text rest (m - length text))

beyond : (bytes more : List ℕ) (k m : ℕ) → k ≤ m → take m bytes ++ more ≡ take k bytes ++ (drop k (take m bytes) ++ more)
beyond bytes more k m short =
    ap (λ l. l ++ more) (sym (take-append-drop k (take m bytes)) ∙ ap (λ l. l ++ drop k (take m bytes)) (take-take k m bytes short))
    ∙ append_assoc (take k bytes) (drop k (take m bytes)) more

pub all_beyond : (bytes more : List ℕ) (k : ℕ) → bytes ++ more ≡ take k bytes ++ (drop k bytes ++ more)
all_beyond bytes more k = ap (λ l. l ++ more) (sym (take-append-drop k bytes)) ∙ append_assoc (take k bytes) (drop k bytes) more

-- ---- heads

pub head_unique : (bytes r q : List ℕ) (h k : RequestHead) → BeginsWithHead bytes h r → BeginsWithHead bytes k q → (h ≡ k) × (r ≡ q)
head_unique bytes r q h k x y = request_unique bytes h k r q x.reads y.reads

pub no_head_there : (bytes rest : List ℕ) (h : RequestHead) (e : HeadError) → BeginsWithHead bytes h rest → HeadFails bytes e → IsUntold e
no_head_there bytes rest h error.Malformed begins (k, short, never) =
    absurd (never (drop k bytes) h rest (subst (λ l. ReadsRequest l h rest) (sym (take-append-drop k bytes)) begins.reads))
no_head_there bytes rest h error.TooLong begins (inl (k, short, many)) =
    let over = many.1 (drop k bytes) h rest (subst (λ l. ReadsRequest l h rest) (sym (take-append-drop k bytes)) begins.reads) in
    absurd (omega (arith, over, begins.few))
no_head_there bytes rest h error.TooLong begins (inr (long, open_)) =
    absurd (open_.0 h _ (begins.reads.0, front_of bytes (print_request h) rest limit begins.reads.1 begins.short))
no_head_there bytes rest h error.EndedEarly begins (short, open_, fits) = absurd (open_.0 h rest begins.reads)
no_head_there bytes rest h error.ReadFault begins fails = tt
no_head_there bytes rest h e begins fails = absurd fails

-- the front within the bound may become a head, which the first k bytes rule out, so it ends within the target
in_target : (bytes : List ℕ) (k : ℕ) → k ≤ limit → NeverHasRequest (take k bytes) → MayBecomeRequest (take limit bytes) → EndsInTarget (take limit bytes)
in_target bytes k short never (inl (more, h, reads)) =
    absurd (never (drop k (take limit bytes) ++ more) h [] (subst (λ l. ReadsRequest l h []) (beyond bytes more k limit short) reads))
in_target bytes k short never (inr target) = target

alike_swap : (bytes : List ℕ) (e f : HeadError) → AreAlike bytes e f → AreAlike bytes f e
alike_swap bytes e f (inl same) = inl (sym same)
alike_swap bytes e f (inr (inl (inl untold))) = inr (inl (inr untold))
alike_swap bytes e f (inr (inl (inr untold))) = inr (inl (inl untold))
alike_swap bytes e f (inr (inr (inl stands))) = inr (inr (inr stands))
alike_swap bytes e f (inr (inr (inr stands))) = inr (inr (inl stands))

whole_front : (bytes : List ℕ) → length bytes < limit → take limit bytes ≡ bytes
whole_front bytes short = take_all limit bytes (omega arith)

never_or : (bytes : List ℕ) (f : HeadError) (k : ℕ) → k ≤ limit → NeverHasRequest (take k bytes) → HeadFails bytes f → AreAlike bytes error.Malformed f
never_or bytes error.Malformed k short never fails = inl refl
never_or bytes error.TooLong k short never (inl many) = inr (inr (inl (refl, inr many)))
never_or bytes error.TooLong k short never (inr (long, open_)) = inr (inr (inl (refl, inl (in_target bytes k short never open_.1))))
never_or bytes error.EndedEarly k short never (few, open_, fits) =
    inr (inr (inl (refl, in_target bytes k short never (subst MayBecomeRequest (sym (whole_front bytes few)) open_.1))))
never_or bytes error.ReadFault k short never fails = inr (inl (inr tt))
never_or bytes e k short never fails = absurd fails

-- more than 100 fields come in a front, and so in the whole
exceeds_whole : (bytes : List ℕ) (k : ℕ) → RequestExceeds room (take k bytes) → RequestExceeds room bytes
exceeds_whole bytes k (front, rest, same, h, reads, over) = (
  front,
  rest ++ drop k bytes,
  sym (take-append-drop k bytes) ∙ (ap (λ l. l ++ drop k bytes) same ∙ append_assoc front rest (drop k bytes)),
  h,
  reads,
  over,
)

long_or : (bytes : List ℕ) (f : HeadError) → HeadFails bytes error.TooLong → HeadFails bytes f → AreAlike bytes error.TooLong f
long_or bytes error.Malformed long (k, short, never) = alike_swap bytes error.Malformed error.TooLong (never_or bytes error.TooLong k short never long)
long_or bytes error.TooLong long fails = inl refl
long_or bytes error.EndedEarly (inl (k, short, many)) (few, open_, fits) = absurd (fits (exceeds_whole bytes k many.0))
long_or bytes error.EndedEarly (inr (long, open_)) (few, open', fits) = absurd (omega (arith, long, few))
long_or bytes error.ReadFault long fails = inr (inl (inr tt))
long_or bytes e long fails = absurd fails

cut_or : (bytes : List ℕ) (f : HeadError) → HeadFails bytes error.EndedEarly → HeadFails bytes f → AreAlike bytes error.EndedEarly f
cut_or bytes error.Malformed cut (k, short, never) = alike_swap bytes error.Malformed error.EndedEarly (never_or bytes error.EndedEarly k short never cut)
cut_or bytes error.TooLong cut fails = alike_swap bytes error.TooLong error.EndedEarly (long_or bytes error.EndedEarly fails cut)
cut_or bytes error.EndedEarly cut fails = inl refl
cut_or bytes error.ReadFault cut fails = inr (inl (inr tt))
cut_or bytes e cut fails = absurd fails

pub heads_alike : (bytes : List ℕ) (e f : HeadError) → HeadFails bytes e → HeadFails bytes f → AreAlike bytes e f
heads_alike bytes error.Malformed f (k, short, never) fails = never_or bytes f k short never fails
heads_alike bytes error.TooLong f long fails = long_or bytes f long fails
heads_alike bytes error.EndedEarly f cut fails = cut_or bytes f cut fails
heads_alike bytes error.ReadFault f x fails = inr (inl (inl tt))
heads_alike bytes e f x fails = absurd x

-- ---- bodies

-- a part that is there isn't refused, nor cut
pub part_there : (refused cut : Type 0) (e : HeadError) → ¬ refused → ¬ cut → PartFails refused cut e → IsUntold e
part_there refused cut error.BadChunk r c fails = absurd (r fails)
part_there refused cut error.EndedEarly r c fails = absurd (c fails)
part_there refused cut error.ReadFault r c fails = tt
part_there refused cut e r c fails = absurd fails

pub bytes_there : (n : ℕ) (b : List ℕ) (e : HeadError) → n ≤ length b → BytesFail n b e → IsUntold e
bytes_there n b error.Memory enough fails = tt
bytes_there n b e enough fails = part_there ⊥ (length b < n) e (λ r. r) (λ few. omega (arith, enough, few)) fails

pub end_there : (b rest : List ℕ) (e : HeadError) → b ≡ 13 ∷ 10 ∷ rest → LineEndFails b e → IsUntold e
end_there b rest e same fails =
    part_there (LacksLineEnd b) (LineEndCut b) e (λ lacks. lacks [] rest (append-nil b ∙ same)) cut fails
  where
    cut : LineEndCut b → ⊥
    cut (inl none) = cc
    cut (inr half) = cc

module _ (one : AreDetermined) where
  pub size_unique : (b : List ℕ) (m n : ℕ) (r q : List ℕ) → IsSizeLine b m r → IsSizeLine b n q → (m ≡ n) × (r ≡ q)
  size_unique b m n r q x y = one.size request_bounds b r q m n x y

  pub size_there : (b rest : List ℕ) (n : ℕ) (e : HeadError) → IsSizeLine b n rest → SizeFails b e → IsUntold e
  size_there b rest n e line fails =
      part_there (SizeRefused request_bounds b) (SizeCut request_bounds b) e (λ refused. one.no_size request_bounds b rest n refused line)
      (λ cut. cut.1.0 line.0 rest line.1) fails

  trailer_there : (b rest : List ℕ) (e : HeadError) → IsTrailer b rest → TrailerFails b e → IsUntold e
  trailer_there b rest e t fails =
      part_there (TrailerRefused request_bounds b) (TrailerCut request_bounds b × ¬ (SectionExceeds room b)) e
      (λ refused. one.no_trailer request_bounds b rest refused t) (λ cut. cut.0.1.0 t.0 t.1 rest t.2) fails

  pub chunks_there : (n : ℕ) (b v r : List ℕ) (e : HeadError) → IsChunked b v r → n + length v ≤ body_limit → ChunksFail n b e → IsUntold e
  chunks_there n b v r e (last (t, s, x)) short (at_size f) = size_there b t 0 e s f
  chunks_there n b v r e (chunk d m (s, some) c) short (at_size f) = size_there b _ _ e s f
  chunks_there n b v r e (last (t, s, x)) short (too_long k y s' over) =
      absurd (let zero_ = (size_unique b _ _ _ _ s s').0 in omega (arith, short, over, zero_))
  chunks_there n b v r e (chunk {value = w} d m (s, some) c) short (too_long k y s' over) =
      absurd (let same = (size_unique b _ _ _ _ s s').0 in omega (arith, short, over, same, length-append d w))
  chunks_there n b v r e (last (t, s, x)) short (at_trailer y s' f) =
      let same = (size_unique b _ _ _ _ s s').1 in trailer_there y r e (subst (λ l. IsTrailer l r) same x) f
  chunks_there n b v r e (chunk d m (s, some) c) short (at_trailer y s' f) =
      absurd (let same = (size_unique b _ _ _ _ s s').0 in omega (arith, some, same))
  chunks_there n b v r e (last (t, s, x)) short (at_piece k y s' some' short' f) =
      absurd (let same = (size_unique b _ _ _ _ s s').0 in omega (arith, some', same))
  chunks_there n b v r e (chunk d m (s, some) c) short (at_piece k y s' some' short' f) =
      let same = size_unique b _ _ _ _ s s' in
      let enough : k ≤ length y = omega (arith, same.0, ap length same.1, length-append d (13 ∷ 10 ∷ m)) in
      bytes_there k y e enough f
  chunks_there n b v r e (last (t, s, x)) short (at_end d y s' some' short' f) =
      absurd (let same = (size_unique b _ _ _ _ s s').0 in omega (arith, some', same))
  chunks_there n b v r e (chunk d m (s, some) c) short (at_end d' y s' some' short' f) =
      end_there y m e (sym (one.piece request_bounds b d d' _ _ s s').1) f
  chunks_there n b v r e (last (t, s, x)) short (later d y taken f) =
      absurd (let same = (size_unique b _ _ _ _ s taken.chunk.0).0 in omega (arith, taken.chunk.1, same))
  chunks_there n b v r e (chunk {value = w} d m (s, some) c) short (later d' y taken f) =
      let cut = one.piece request_bounds b d d' _ _ s taken.chunk.0 in
      let rest : m ≡ y = ap (drop 2) cut.1 in
      chunks_there (n + length d') y w r e (subst (λ l. IsChunked l w r) rest c)
      (omega (arith, short, length-append d w, ap length cut.0)) f

  -- ---- the whole

  body_there : (kind : Form) (b body : List ℕ) (e : HeadError) → HasBody kind b body → BodyFails kind b e → IsUntold e
  body_there (form.Plain n) b body e has fails = bytes_there n b e has.0 fails
  body_there form.Chunked b body e has fails = chunks_there 0 b body has.0 e has.1 (omega (arith, has.2)) fails

  body_unique : (kind : Form) (b v w : List ℕ) → HasBody kind b v → HasBody kind b w → v ≡ w
  body_unique (form.Plain n) b v w x y = x.1 ∙ sym y.1
  body_unique form.Chunked b v w x y = (one.body request_bounds b v w x.0 y.0 x.1 y.1).0

  -- requests with the same parts are the same
  same_request : (h k : RequestHead) (x y : Head) (kind kind' : Form) (b : List ℕ) → h ≡ k → HasParts h x → HasParts k y
      → form_of (fields_of h) ≡ Ok kind → form_of (fields_of k) ≡ Ok kind' → x.chunked ≡ is_chunked kind → y.chunked ≡ is_chunked kind'
      → HasBody kind b x.body → HasBody kind' b y.body → y ≡ x
  same_request h k x y kind kind' b same p q f g chunked chunked' body body' =
      let again : form_of (fields_of h) ≡ Ok kind' = subst (λ i. form_of (fields_of i) ≡ Ok kind') (sym same) g in
      let kinds : kind ≡ kind' = cc in
      let first : List ℕ × List ℕ → List ℕ = λ o. o.0 in
      let second : List ℕ × List ℕ → List ℕ = λ o. o.1 in
      let owners : Some (y.namespace, y.revision) ≡ Some (x.namespace, x.revision) =
      sym q.owner ∙ (ap (λ i. owner_of (fields_of i)) (sym same) ∙ p.owner) in
      let pairs : (y.namespace, y.revision) ≡ (x.namespace, x.revision) = ap (λ o. unwrap_or o ([], [])) owners in
      let method_is : y.method ≡ x.method = q.parts.method_is ∙ (ap (λ i. i.method) (sym same) ∙ sym p.parts.method_is) in
      let target_is : y.target ≡ x.target = q.parts.target_is ∙ (ap (λ i. i.target) (sym same) ∙ sym p.parts.target_is) in
      let minor_is : y.minor ≡ x.minor = q.parts.minor_is ∙ (ap (λ i. i.minor) (sym same) ∙ sym p.parts.minor_is) in
      let headers_are : y.headers ≡ x.headers = q.parts.headers_are ∙ (ap fields_of (sym same) ∙ sym p.parts.headers_are) in
      let namespaces : y.namespace ≡ x.namespace = ap first pairs in
      let revisions : y.revision ≡ x.revision = ap second pairs in
      let bodies : y.body ≡ x.body = body_unique kind' b y.body x.body body' (subst (λ i. HasBody i b x.body) kinds body) in
      let chunks : y.chunked ≡ x.chunked = chunked' ∙ (ap is_chunked (sym kinds) ∙ sym chunked) in
      λ i. record {
        method = method_is i;
        target = target_is i;
        minor = minor_is i;
        headers = headers_are i;
        namespace = namespaces i;
        revision = revisions i;
        body = bodies i;
        chunked = chunks i;
      }

  pub answer_there : (bytes : List ℕ) (head : Head) (answer : Result Head HeadError) → Reads bytes (Ok head) → Reads bytes answer → IsOkUnlessUntold answer head
  answer_there bytes head answer (whole head' h r kind begins parts kind_is chunked body) (no_head e fails) = no_head_there bytes r h e begins fails
  answer_there bytes head answer (whole head' h r kind begins parts kind_is chunked body) (no_owner k q begins' none) =
      let same = (head_unique bytes r q h k begins begins').0 in
      absurd (let gone : owner_of (fields_of h) ≡ None = subst (λ i. owner_of (fields_of i) ≡ None) (sym same) none in let named = parts.owner in cc)
  answer_there bytes head answer (whole head' h r kind begins parts kind_is chunked body) (no_form e k q owner begins' named none) =
      let same = (head_unique bytes r q h k begins begins').0 in
      absurd (let gone : form_of (fields_of h) ≡ Err e = subst (λ i. form_of (fields_of i) ≡ Err e) (sym same) none in cc)
  answer_there bytes head answer (whole head' h r kind begins parts kind_is chunked body) (no_body e k q owner kind' begins' named kind_is' fails) =
      let one = head_unique bytes r q h k begins begins' in
      let again : form_of (fields_of h) ≡ Ok kind' = subst (λ i. form_of (fields_of i) ≡ Ok kind') (sym one.0) kind_is' in
      let kinds : kind ≡ kind' = cc in
      body_there kind' q head.body e (subst (λ i. HasBody i q head.body) kinds (subst (λ l. HasBody kind l head.body) one.1 body)) fails
  answer_there bytes head answer (whole head' h r kind begins parts kind_is chunked body) no_memory = tt
  answer_there bytes head answer (whole head' h r kind begins parts kind_is chunked body) (whole other k q kind' begins' parts' kind_is' chunked' body') =
      let one = head_unique bytes r q h k begins begins' in
      same_request h k head other kind kind' q one.0 parts parts' kind_is kind_is' chunked chunked' (subst (λ l. HasBody kind l head.body) one.1 body) body'
