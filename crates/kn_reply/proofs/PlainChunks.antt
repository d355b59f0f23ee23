-- A body that is in chunks to its end, and its chunks one after the other.
use Rattle.std.proofs.Common.{◌≡◌, ◌≤◌, ◌+◌, ℕ, Bool, true, false, nat_eq, List, [], ◌++◌, length, drop, refl, sym, subst, ap, ◌∙◌, arith, append-nil, length-drop}
use Rattle.std.specs.Prelude.{MatchBool, slice_range}
use Rattle.std.proofs.Math.ListN.{drop_of_length-le}
use Rattle.std.proofs.lemmas.Bool.{eqb-false, eqb-true}
use Rattle.std.proofs.lemmas.List.{drop-drop}
use Rattle.kn_http.specs.Chunks.{IsChunked}
use Rattle.kn_http.specs.Laws.{AreDetermined}
use Rattle.kn_http.specs.Next.{BodyIs}
use Rattle.kn_http.specs.declared.chunks.Chunk.TheVariants as at_front
use Rattle.kn_reply.specs.Ends.{reply_bounds, ReadsChunks}
use Rattle.kn_reply.specs.Plain.{AreChunksOf}

pub ended_there : (law : AreDetermined) (answer : List ℕ) (start end : ℕ) → end ≤ length answer
    → ((more : List ℕ) → ReadsChunks (drop start answer ++ more) (drop end answer ++ more))
    → MatchBool (nat_eq end (length answer)) ((value : List ℕ) × AreChunksOf value (drop start answer))
    ((value : List ℕ) → ¬ (AreChunksOf value (drop start answer)))
ended_there law answer start end within reads = by_test (nat_eq end (length answer)) refl
  where
    here : ReadsChunks (drop start answer) (drop end answer)
    here =
        subst (λ b. ReadsChunks b (drop end answer)) (append-nil (drop start answer))
        (subst (λ r. ReadsChunks (drop start answer ++ []) r) (append-nil (drop end answer)) (reads []))

    by_test : (b : Bool) → nat_eq end (length answer) ≡ b → MatchBool b ((value : List ℕ) × AreChunksOf value (drop start answer))
        ((value : List ℕ) → ¬ (AreChunksOf value (drop start answer)))
    by_test true e =
        let all : end ≡ length answer = eqb-true end (length answer) e in
        subst (ReadsChunks (drop start answer)) (drop_of_length-le answer {i = end} (omega (arith, all))) here
    by_test false e =
        λ value chunks.
        let same = law.body reply_bounds (drop start answer) here.0 value (drop end answer) [] here.1 chunks in
        let all : end ≡ length answer = omega (arith, within, ap length same.1, length-drop end answer) in
        eqb-false end (length answer) e all

-- ---- the chunk at a place of such a body

module _ (body rest : List ℕ) (at_ : ℕ) (here : rest ≡ drop at_ body) (left : List ℕ) (chunks : AreChunksOf left (drop at_ body)) where
  whole : IsChunked reply_bounds (rest ++ []) left []
  whole = subst (AreChunksOf left) (sym (append-nil rest ∙ here)) chunks

  pub next_at : (start end : ℕ) → BodyIs reply_bounds rest (at_front.Data start end)
      → (later : List ℕ) × (left ≡ slice_range rest start end ++ later) × AreChunksOf later (drop (at_ + (end + 2)) body)
  next_at start end goes =
      let next = (goes [] []).0 left whole in
      let place : drop (end + 2) rest ++ [] ≡ drop (at_ + (end + 2)) body =
      append-nil (drop (end + 2) rest) ∙ (ap (drop (end + 2)) here ∙ drop-drop (end + 2) at_ body) in
      (next.0, next.1, subst (AreChunksOf next.0) place next.2)

  pub last_at : AreDetermined → (end : ℕ) → BodyIs reply_bounds rest (at_front.Last end) → left ≡ []
  last_at law end ends = sym (law.body reply_bounds (rest ++ []) [] left (drop end rest ++ []) [] (ends []) whole).0

  pub never_at : BodyIs reply_bounds rest at_front.Never → ⊥
  never_at none = none [] left [] whole
