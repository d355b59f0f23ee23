-- How bodies end, by the fields, and what is known while they come.
use Rattle.std.proofs.Common.{◌≡◌, ◌<◌, ◌≤◌, ◌+◌, ℕ, Bool, List, [], ◌++◌, length, take, drop, map, get_or, Option, None, Some, true, false, sym, subst, ap, ◌∙◌, refl, arith, rules, append_assoc, append-nil, length-append, length-drop}
use Rattle.std.specs.Prelude.{not, ◌||◌}
use Rattle.std.specs.List.{list_all, list_any}
use Rattle.std.proofs.lemmas.List.{take-append-drop, drop-append-le, drop-drop, drop_at, length-take-le}
use Rattle.httparse.specs.declared.spans.HeaderSpan.{HeaderSpan}
use Rattle.httparse.specs.Spans.{header_bytes}
use Rattle.kn_reply.specs.declared.reply.Stage.{Stage}
use Rattle.kn_reply.specs.declared.reply.Stage.TheVariants as stage
use Rattle.kn_reply.specs.declared.chunks.Followed.TheVariants as followed
use Rattle.kn_reply.specs.declared.reply.Judged.TheVariants as judged
use Rattle.kn_http.specs.Numbers.{says}
use Rattle.kn_reply.specs.Replies.{is_coding, is_chunks_coding}
use Rattle.kn_reply.specs.Ends.{most_reply, ReadsChunks, ReadsReply, is_length, agrees, IsStageOf, Meets, JudgedIs, FollowedIs, NoReply, NeverReply, MeetsAny, StageReads, StageWithin}
use Rattle.kn_reply.proofs.Wholes.{blank, all_at}

-- ---- lengths

not_agreed : (a b : Bool) → a ≡ true → b ≡ false → (not a || b) ≡ false
not_agreed true false x y = refl
not_agreed true true x y = search rules
not_agreed false b x y = search rules

pub says_at : (n : ℕ) (text : List ℕ) (xs : List HeaderSpan) (i : ℕ) → i < length xs → is_length (header_bytes text (get_or xs i blank)) ≡ true
    → list_all (agrees n) (map (header_bytes text) xs) ≡ true → says n (header_bytes text (get_or xs i blank)).1 ≡ true
says_at n text xs i lt named all = either _ refl
  where
    either : (b : Bool) → says n (header_bytes text (get_or xs i blank)).1 ≡ b → says n (header_bytes text (get_or xs i blank)).1 ≡ true
    either true e = e
    either false e = absurd (apart (sym all ∙ all_at (agrees n) text xs i lt (not_agreed _ _ named e)))
      where
        apart : true ≡ false → ⊥
        apart h = search rules

-- ---- stages

pub stage_sized : (fields : List (List ℕ × List ℕ)) (at n : ℕ) → list_any is_chunks_coding fields ≡ false
    → list_any is_coding fields ≡ false → list_any is_length fields ≡ true → n ≤ most_reply → list_all (agrees n) fields ≡ true
    → ((m : ℕ) → list_all (agrees m) fields ≡ true → m ≡ n) → IsStageOf false fields at (stage.Until (at + n))
stage_sized fields at n e f g short all only =
    rw (e, f, g) (λ bytes rest le. (
      λ r.
          let size : length r.0 ≡ n = only (length r.0) r.3 in
          let behind : drop n (drop at bytes) ≡ rest = ap (drop n) r.1 ∙ drop_at r.0 rest n size in
          let room : at + n ≤ length bytes =
          omega (arith, le, ap length r.1, length-append r.0 rest, size, length-drop at bytes) in
          (room, sym behind ∙ drop-drop n at bytes),
      λ p.
          let size : length (take n (drop at bytes)) ≡ n = length-take-le n (drop at bytes) (omega (arith, p.0, length-drop at bytes)) in (
            take n (drop at bytes),
            sym (take-append-drop n (drop at bytes)) ∙ ap (λ l. take n (drop at bytes) ++ l) (drop-drop n at bytes ∙ sym p.1),
            omega (arith, size, short),
            subst (λ k. list_all (agrees k) fields ≡ true) (sym size) all,
          ),
    ))

-- ---- what is judged

with_nil : (request bytes rest : List ℕ) → ReadsReply request bytes rest → ReadsReply request (bytes ++ []) rest
with_nil request bytes rest = subst (λ b. ReadsReply request b rest) (sym (append-nil bytes))

pub until_open : (request reply : List ℕ) (end : ℕ) → Meets request reply (stage.Until end) → length reply < end → NoReply request reply
until_open request reply end m long rest reads =
    let there = m.to [] rest (with_nil request reply rest reads) in
    absurd (omega (arith, there.0, long, length-append reply []))

pub chunks_open : (request reply : List ℕ) (at n : ℕ) → Meets request reply (stage.Chunks at) → FollowedIs reply at (followed.Cut n)
    → Meets request reply (stage.Chunks n) × NoReply request reply
chunks_open request reply at n m f =
    let from : (more : List ℕ) → drop at (reply ++ more) ≡ drop at reply ++ more = λ more. drop-append-le at reply more m.within in
    let next : (more : List ℕ) → drop n (reply ++ more) ≡ drop n reply ++ more = λ more. drop-append-le n reply more f.0 in (
      record {
        within = f.0;
        to = λ more rest reads. subst (λ b. ReadsChunks b rest) (sym (next more))
            ((f.2 more rest).0 (subst (λ b. ReadsChunks b rest) (from more) (m.to more rest reads)));
        back = λ more rest reads. m.back more rest (subst (λ b. ReadsChunks b rest) (sym (from more))
            ((f.2 more rest).1 (subst (λ b. ReadsChunks b rest) (next more) reads)));
      },
      λ rest reads. f.1 rest (subst (λ b. ReadsChunks b rest) (from [] ∙ append-nil (drop at reply))
          (m.to [] rest (with_nil request reply rest reads))),
    )

pub chunks_ended : (request reply : List ℕ) (at n : ℕ) → Meets request reply (stage.Chunks at) → FollowedIs reply at (followed.Ended n)
    → JudgedIs request reply (judged.Ended n)
chunks_ended request reply at n m f = (
  f.0,
  λ more. m.back more (drop n reply ++ more)
      (subst (λ b. ReadsChunks b (drop n reply ++ more)) (sym (drop-append-le at reply more m.within)) (f.1 more)),
)

pub chunks_never : (request reply : List ℕ) (at : ℕ) → Meets request reply (stage.Chunks at) → FollowedIs reply at followed.Never
    → NeverReply request reply
chunks_never request reply at m f more rest reads =
    f more rest (subst (λ b. ReadsChunks b rest) (drop-append-le at reply more m.within) (m.to more rest reads))

-- ---- when more comes

pub within_more : (n m : ℕ) (s : Stage) → n ≤ m → StageWithin n s → StageWithin m s
within_more n m (stage.Until end) le w = tt
within_more n m (stage.Chunks at) le w = omega (arith, le, w)
within_more n m stage.Open le w = tt

pub meets_more : (request reply piece : List ℕ) (s : Option Stage) → MeetsAny request reply s → MeetsAny request (reply ++ piece) s
meets_more request reply piece None m = tt
meets_more request reply piece (Some s) m = record {
  within = within_more (length reply) (length (reply ++ piece)) s (omega (arith, length-append reply piece)) m.within;
  to = λ more rest reads. subst (λ b. StageReads s b rest) (sym (append_assoc reply piece more))
      (m.to (piece ++ more) rest (subst (λ b. ReadsReply request b rest) (append_assoc reply piece more) reads));
  back = λ more rest reads. subst (λ b. ReadsReply request b rest) (sym (append_assoc reply piece more))
      (m.back (piece ++ more) rest (subst (λ b. StageReads s b rest) (append_assoc reply piece more) reads));
}
