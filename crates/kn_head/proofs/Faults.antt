-- Behind one head there is one fault at most.
use Rattle.std.specs.Prelude.{⊤}
use Rattle.std.proofs.Common.{◌≡◌, ℕ, ◌+◌, ◌≤◌, ◌<◌, List, [], ◌∷◌, ◌++◌, length, take, drop, None, Some, Result, Ok, Err, inl, inr, refl, sym, subst, ap, ◌∙◌, arith, length-append, append_assoc}
use Rattle.std.proofs.lemmas.List.{take-append-drop}
use Rattle.httparse.specs.Grammar.{RequestHead, ReadsChunkLine, ReadsSection}
use Rattle.httparse.specs.Spans.{SectionExceeds}
use Rattle.kn_head.specs.declared.head.Head.{Head}
use Rattle.kn_head.specs.declared.head.HeadError.{HeadError}
use Rattle.kn_head.specs.declared.head.HeadError.TheVariants as error
use Rattle.kn_head.specs.declared.rules.Form.{Form}
use Rattle.kn_head.specs.declared.rules.Form.TheVariants as form
use Rattle.kn_head.specs.Heads.{room, BeginsWithHead, fields_of}
use Rattle.kn_head.specs.Rules.{body_limit, owner_of, form_of}
use Rattle.kn_http.specs.Laws.{AreDetermined}
use Rattle.kn_http.specs.Parts.{LacksLineEnd, LineEndCut, SizeCut, SizeRefused, TrailerCut, TrailerRefused}
use Rattle.kn_head.specs.Told.{PartFails}
use Rattle.kn_head.specs.Chunks.{request_bounds, IsSizeLine, SizeFails, TrailerFails, BytesFail, LineEndFails, ChunksFail, at_size, too_long, at_trailer, at_piece, at_end, later}
use Rattle.kn_head.specs.Reading.{BodyFails, Reads, no_head, no_owner, no_form, no_body, no_memory, whole}
use Rattle.kn_head.specs.Laws.{IsUntold, AreSameUnlessUntold}
use Rattle.kn_head.proofs.Determined.{all_beyond, bytes_there, end_there, head_unique, no_head_there, size_there, size_unique}

untold_first : (e f : HeadError) → IsUntold e → AreSameUnlessUntold e f
untold_first e f u = inr (inl u)

untold_second : (e f : HeadError) → IsUntold f → AreSameUnlessUntold e f
untold_second e f u = inr (inr u)

size_either : (b : List ℕ) → SizeRefused request_bounds b → SizeCut request_bounds b → ⊥
size_either b (inl (k, short, never)) (few, (none, (more, line, reads))) =
    never (drop k b ++ more) line [] (subst (λ l. ReadsChunkLine l line []) (all_beyond b more k) reads)
size_either b (inr (long, none)) (few, open_) = omega (arith, long, few)

section_exceeds_whole : (bytes : List ℕ) (k : ℕ) → SectionExceeds room (take k bytes) → SectionExceeds room bytes
section_exceeds_whole bytes k (front, rest, same, fields, reads, over) = (
  front,
  rest ++ drop k bytes,
  sym (take-append-drop k bytes) ∙ (ap (λ l. l ++ drop k bytes) same ∙ append_assoc front rest (drop k bytes)),
  fields,
  reads,
  over,
)

trailer_either : (b : List ℕ) → TrailerRefused request_bounds b → TrailerCut request_bounds b × ¬ (SectionExceeds room b) → ⊥
trailer_either b (inl (k, short, inl never)) ((few, (none, (more, fields, end, reads))), fits) =
    never (drop k b ++ more) fields end [] (subst (λ l. ReadsSection l fields end []) (all_beyond b more k) reads)
trailer_either b (inl (k, short, inr many)) ((few, open_), fits) = fits (section_exceeds_whole b k many.0)
trailer_either b (inr (long, none)) ((few, open_), fits) = omega (arith, long, few)

end_either : (b : List ℕ) → LacksLineEnd b → LineEndCut b → ⊥
end_either b lacks (inl none) = lacks (13 ∷ 10 ∷ []) [] (ap (λ l. l ++ 13 ∷ 10 ∷ []) none)
end_either b lacks (inr half) = lacks (10 ∷ []) [] (ap (λ l. l ++ 10 ∷ []) half)

-- two refusals of a part, which isn't both refused and cut
part_same : (refused cut : Type 0) (e f : HeadError) → (refused → cut → ⊥) → PartFails refused cut e → PartFails refused cut f
    → AreSameUnlessUntold e f
part_same refused cut error.ReadFault f either x y = inr (inl tt)
part_same refused cut error.EndedEarly error.ReadFault either x y = inr (inr tt)
part_same refused cut error.EndedEarly error.EndedEarly either x y = inl refl
part_same refused cut error.EndedEarly error.BadChunk either x y = absurd (either y x)
part_same refused cut error.EndedEarly e either x y = absurd y
part_same refused cut error.BadChunk error.ReadFault either x y = inr (inr tt)
part_same refused cut error.BadChunk error.EndedEarly either x y = absurd (either x y)
part_same refused cut error.BadChunk error.BadChunk either x y = inl refl
part_same refused cut error.BadChunk e either x y = absurd y
part_same refused cut e f either x y = absurd x

size_same : (b : List ℕ) (e f : HeadError) → SizeFails b e → SizeFails b f → AreSameUnlessUntold e f
size_same b e f x y = part_same (SizeRefused request_bounds b) (SizeCut request_bounds b) e f (size_either b) x y

trailer_same : (b : List ℕ) (e f : HeadError) → TrailerFails b e → TrailerFails b f → AreSameUnlessUntold e f
trailer_same b e f x y =
    part_same (TrailerRefused request_bounds b) (TrailerCut request_bounds b × ¬ (SectionExceeds room b)) e f (trailer_either b) x y

end_same : (b : List ℕ) (e f : HeadError) → LineEndFails b e → LineEndFails b f → AreSameUnlessUntold e f
end_same b e f x y = part_same (LacksLineEnd b) (LineEndCut b) e f (end_either b) x y

bytes_same : (n : ℕ) (b : List ℕ) (e f : HeadError) → BytesFail n b e → BytesFail n b f → AreSameUnlessUntold e f
bytes_same n b error.Memory f x y = inr (inl tt)
bytes_same n b e error.Memory x y = inr (inr tt)
bytes_same n b e f x y = part_same ⊥ (length b < n) e f (λ r c. r) x y

some_owner : (o : List ℕ × List ℕ) (h k : RequestHead) → h ≡ k → owner_of (fields_of h) ≡ None → owner_of (fields_of k) ≡ Some o → ⊥
some_owner o h k same none named = let gone : owner_of (fields_of k) ≡ None = subst (λ i. owner_of (fields_of i) ≡ None) same none in cc

some_form : (kind : Form) (e : HeadError) (h k : RequestHead) → h ≡ k → form_of (fields_of h) ≡ Err e → form_of (fields_of k) ≡ Ok kind → ⊥
some_form kind e h k same none is = let gone : form_of (fields_of k) ≡ Err e = subst (λ i. form_of (fields_of i) ≡ Err e) same none in cc

-- two faults are the same, unless the bytes don't decide one of them
abbrev AreBothSame : Result Head HeadError → Result Head HeadError → Type 0
AreBothSame (Err e) (Err f) = AreSameUnlessUntold e f
AreBothSame (Err e) (Ok y) = ⊤
AreBothSame (Ok x) y = ⊤

either_told : (e : HeadError) (b : Result Head HeadError) → IsUntold e → AreBothSame (Err e) b
either_told e (Ok y) u = tt
either_told e (Err f) u = untold_first e f u

module _ (one : AreDetermined) where
  -- the line after so many bytes is there, or fails, so these bytes are there
  piece_there : (b y d z : List ℕ) (k : ℕ) (e : HeadError) → IsSizeLine b k y → IsSizeLine b (length d) (d ++ z) → BytesFail k y e → IsUntold e
  piece_there b y d z k e s s' fails =
      let same = size_unique one b _ _ _ _ s s' in
      let enough : k ≤ length y = omega (arith, same.0, ap length same.1, length-append d z) in
      bytes_there k y e enough fails

  -- a line end that fails after one piece is the line end after the other
  end_here : (b d d' y m : List ℕ) (e : HeadError) → IsSizeLine b (length d) (d ++ y) → IsSizeLine b (length d') (d' ++ (13 ∷ 10 ∷ m)) → LineEndFails y e → IsUntold e
  end_here b d d' y m e s s' fails =
      end_there y m e (one.piece request_bounds b d d' _ _ s s').1 fails

  -- a refusal behind a size line that is not above 0, or too long, or cut, or whole
  pub chunks_same : (n : ℕ) (b : List ℕ) (e f : HeadError) → n ≤ body_limit → ChunksFail n b e → ChunksFail n b f → AreSameUnlessUntold e f
  chunks_same n b e f low (at_size x) (at_size y) = size_same b e f x y
  chunks_same n b e f low (at_size x) (too_long k r s over) = untold_first e f (size_there one b r k e s x)
  chunks_same n b e f low (at_size x) (at_trailer r s y) = untold_first e f (size_there one b r 0 e s x)
  chunks_same n b e f low (at_size x) (at_piece k r s some short y) = untold_first e f (size_there one b r k e s x)
  chunks_same n b e f low (at_size x) (at_end d r s some short y) = untold_first e f (size_there one b _ _ e s x)
  chunks_same n b e f low (at_size x) (later d r taken y) = untold_first e f (size_there one b _ _ e taken.chunk.0 x)
  chunks_same n b e f low (too_long k r s over) (at_size y) = untold_second e f (size_there one b r k f s y)
  chunks_same n b e f low (at_trailer r s x) (at_size y) = untold_second e f (size_there one b r 0 f s y)
  chunks_same n b e f low (at_piece k r s some short x) (at_size y) = untold_second e f (size_there one b r k f s y)
  chunks_same n b e f low (at_end d r s some short x) (at_size y) = untold_second e f (size_there one b _ _ f s y)
  chunks_same n b e f low (later d r taken x) (at_size y) = untold_second e f (size_there one b _ _ f taken.chunk.0 y)
  chunks_same n b e f low (too_long k r s over) (too_long j q t over') = inl refl
  chunks_same n b e f low (too_long k r s over) (at_trailer q t y) = absurd (let same = (size_unique one b _ _ _ _ s t).0 in omega (arith, same, over, low))
  chunks_same n b e f low (too_long k r s over) (at_piece j q t some short y) = absurd (let same = (size_unique one b _ _ _ _ s t).0 in omega (arith, same, over, short))
  chunks_same n b e f low (too_long k r s over) (at_end d q t some short y) = absurd (let same = (size_unique one b _ _ _ _ s t).0 in omega (arith, same, over, short))
  chunks_same n b e f low (too_long k r s over) (later d q taken y) = absurd (let same = (size_unique one b _ _ _ _ s taken.chunk.0).0 in omega (arith, same, over, taken.short))
  chunks_same n b e f low (at_trailer q t x) (too_long k r s over) = absurd (let same = (size_unique one b _ _ _ _ s t).0 in omega (arith, same, over, low))
  chunks_same n b e f low (at_piece j q t some short x) (too_long k r s over) = absurd (let same = (size_unique one b _ _ _ _ s t).0 in omega (arith, same, over, short))
  chunks_same n b e f low (at_end d q t some short x) (too_long k r s over) = absurd (let same = (size_unique one b _ _ _ _ s t).0 in omega (arith, same, over, short))
  chunks_same n b e f low (later d q taken x) (too_long k r s over) = absurd (let same = (size_unique one b _ _ _ _ s taken.chunk.0).0 in omega (arith, same, over, taken.short))
  chunks_same n b e f low (at_trailer r s x) (at_trailer q t y) =
      trailer_same q e f (subst (λ l. TrailerFails l e) (size_unique one b _ _ _ _ s t).1 x) y
  chunks_same n b e f low (at_trailer r s x) (at_piece k q t some short y) = absurd (let same = (size_unique one b _ _ _ _ s t).0 in omega (arith, same, some))
  chunks_same n b e f low (at_trailer r s x) (at_end d q t some short y) = absurd (let same = (size_unique one b _ _ _ _ s t).0 in omega (arith, same, some))
  chunks_same n b e f low (at_trailer r s x) (later d q taken y) = absurd (let same = (size_unique one b _ _ _ _ s taken.chunk.0).0 in omega (arith, same, taken.chunk.1))
  chunks_same n b e f low (at_piece k q t some short x) (at_trailer r s y) = absurd (let same = (size_unique one b _ _ _ _ s t).0 in omega (arith, same, some))
  chunks_same n b e f low (at_end d q t some short x) (at_trailer r s y) = absurd (let same = (size_unique one b _ _ _ _ s t).0 in omega (arith, same, some))
  chunks_same n b e f low (later d q taken x) (at_trailer r s y) = absurd (let same = (size_unique one b _ _ _ _ s taken.chunk.0).0 in omega (arith, same, taken.chunk.1))
  chunks_same n b e f low (at_piece k r s some short x) (at_piece j q t some' short' y) =
      let same = size_unique one b _ _ _ _ s t in
      bytes_same j q e f (subst (λ l. BytesFail j l e) same.1 (subst (λ m. BytesFail m r e) same.0 x)) y
  chunks_same n b e f low (at_piece k r s some short x) (at_end d q t some' short' y) = untold_first e f (piece_there b r d q k e s t x)
  chunks_same n b e f low (at_piece k r s some short x) (later d q taken y) = untold_first e f (piece_there b r d (13 ∷ 10 ∷ q) k e s taken.chunk.0 x)
  chunks_same n b e f low (at_end d q t some' short' x) (at_piece k r s some short y) = untold_second e f (piece_there b r d q k f s t y)
  chunks_same n b e f low (later d q taken x) (at_piece k r s some short y) = untold_second e f (piece_there b r d (13 ∷ 10 ∷ q) k f s taken.chunk.0 y)
  chunks_same n b e f low (at_end d r s some short x) (at_end d' q t some' short' y) =
      let cut = one.piece request_bounds b d d' _ _ s t in
      end_same q e f (subst (λ l. LineEndFails l e) cut.1 x) y
  chunks_same n b e f low (at_end d r s some short x) (later d' q taken y) = untold_first e f (end_here b d d' r q e s taken.chunk.0 x)
  chunks_same n b e f low (later d' q taken x) (at_end d r s some short y) = untold_second e f (end_here b d d' r q f s taken.chunk.0 y)
  chunks_same n b e f low (later d r taken x) (later d' q taken' y) =
      let cut = one.piece request_bounds b d d' _ _ taken.chunk.0 taken'.chunk.0 in
      let rest : r ≡ q = ap (drop 2) cut.1 in
      chunks_same (n + length d') q e f taken'.short
      (subst (λ l. ChunksFail (n + length d') l e) rest (subst (λ m. ChunksFail (n + m) r e) (ap length cut.0) x)) y

  bodies_same : (kind : Form) (b : List ℕ) (e f : HeadError) → BodyFails kind b e → BodyFails kind b f → AreSameUnlessUntold e f
  bodies_same (form.Plain n) b e f x y = bytes_same n b e f x y
  bodies_same form.Chunked b e f x y = chunks_same 0 b e f (omega arith) x y

  -- the head is there, so neither fault is the head's
  both_same : (bytes rest : List ℕ) (h : RequestHead) (a b : Result Head HeadError) → BeginsWithHead bytes h rest → Reads bytes a → Reads bytes b → AreBothSame a b
  both_same bytes rest h a b begins (no_head e fails) y = either_told e b (no_head_there bytes rest h e begins fails)
  both_same bytes rest h a b begins no_memory y = either_told error.Memory b tt
  both_same bytes rest h a b begins (whole head k q kind begins' parts is chunked body) y = tt
  both_same bytes rest h a b begins (no_owner k q begun none) (no_head f fails) = untold_second error.NoRevision f (no_head_there bytes rest h f begins fails)
  both_same bytes rest h a b begins (no_form e k q owner begun named none) (no_head f fails) = untold_second e f (no_head_there bytes rest h f begins fails)
  both_same bytes rest h a b begins (no_body e k q owner kind begun named is x) (no_head f fails) = untold_second e f (no_head_there bytes rest h f begins fails)
  both_same bytes rest h a b begins (no_owner k q begun none) no_memory = untold_second error.NoRevision error.Memory tt
  both_same bytes rest h a b begins (no_form e k q owner begun named none) no_memory = untold_second e error.Memory tt
  both_same bytes rest h a b begins (no_body e k q owner kind begun named is x) no_memory = untold_second e error.Memory tt
  both_same bytes rest h a b begins (no_owner k q begun none) (whole head k' q' kind' begun' parts' is' chunked' body') = tt
  both_same bytes rest h a b begins (no_form e k q owner begun named none) (whole head k' q' kind' begun' parts' is' chunked' body') = tt
  both_same bytes rest h a b begins (no_body e k q owner kind begun named is x) (whole head k' q' kind' begun' parts' is' chunked' body') = tt
  both_same bytes rest h a b begins (no_owner k q begun none) (no_owner k' q' begun' none') = inl refl
  both_same bytes rest h a b begins (no_owner k q begun none) (no_form f k' q' owner' begun' named' none') =
      absurd (some_owner owner' k k' (head_unique bytes q q' k k' begun begun').0 none named')
  both_same bytes rest h a b begins (no_owner k q begun none) (no_body f k' q' owner' kind' begun' named' is' y) =
      absurd (some_owner owner' k k' (head_unique bytes q q' k k' begun begun').0 none named')
  both_same bytes rest h a b begins (no_form e k q owner begun named none) (no_owner k' q' begun' none') =
      absurd (some_owner owner k' k (head_unique bytes q' q k' k begun' begun).0 none' named)
  both_same bytes rest h a b begins (no_body e k q owner kind begun named is x) (no_owner k' q' begun' none') =
      absurd (some_owner owner k' k (head_unique bytes q' q k' k begun' begun).0 none' named)
  both_same bytes rest h a b begins (no_form e k q owner begun named none) (no_form f k' q' owner' begun' named' none') =
      let again : form_of (fields_of k') ≡ Err e = subst (λ i. form_of (fields_of i) ≡ Err e) (head_unique bytes q q' k k' begun begun').0 none in
      inl (cc)
  both_same bytes rest h a b begins (no_form e k q owner begun named none) (no_body f k' q' owner' kind' begun' named' is' y) =
      absurd (some_form kind' e k k' (head_unique bytes q q' k k' begun begun').0 none is')
  both_same bytes rest h a b begins (no_body e k q owner kind begun named is x) (no_form f k' q' owner' begun' named' none') =
      absurd (some_form kind f k' k (head_unique bytes q' q k' k begun' begun).0 none' is)
  both_same bytes rest h a b begins (no_body e k q owner kind begun named is x) (no_body f k' q' owner' kind' begun' named' is' y) =
      let one = head_unique bytes q q' k k' begun begun' in
      let again : form_of (fields_of k') ≡ Ok kind = subst (λ i. form_of (fields_of i) ≡ Ok kind) one.0 is in
      let kinds : kind ≡ kind' = cc in
      bodies_same kind' q' e f (subst (λ l. BodyFails kind' l e) one.1 (subst (λ i. BodyFails i q e) kinds x)) y

  pub faults_same : (bytes rest : List ℕ) (h : RequestHead) (e f : HeadError) → BeginsWithHead bytes h rest → Reads bytes (Err e) → Reads bytes (Err f) → AreSameUnlessUntold e f
  faults_same bytes rest h e f begins x y = both_same bytes rest h (Err e) (Err f) begins x y
