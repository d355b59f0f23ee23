use Rattle.std.proofs.Common.{◌≡◌, ◌++◌, length, sym, subst, ap, ◌∙◌, arith, append_assoc, append-nil, length-drop}
use Rattle.std.specs.Prelude.{slice_range}
use Rattle.std.specs.Io.KnownBytes.{Appends}
use Rattle.std.proofs.KnownBytes.{Appends-trans}
use Rattle.kn_reply.proofs.PlainChunks.{last_at, never_at, next_at}
use Rattle.kn_reply.proofs.Puts.{stopped_in}
use Rattle.kn_reply.proofs.plain.put_value.Goals as goal

pub chunks-preserved : goal.chunks-preserved
chunks-preserved g c =
    let body = c.args.body.now in
    let rest = c.split_at.result.1.now in
    let found = c.in-Data.ensures in
    let some = c.chunks.invariant.some in
    let next = next_at body rest c.chunks.at c.split_at.ensures.back some.0 some.1 c.in-Data.start c.in-Data.end found.body in
    record {
      within = omega (arith, c.chunks.invariant.within, found.chunk.1, ap length c.split_at.ensures.back, length-drop c.chunks.at body);
      some = (next.0, next.2);
      held = λ value chunks.
          let so_far = c.chunks.invariant.held value chunks in
          let first = next_at body rest c.chunks.at c.split_at.ensures.back so_far.1 so_far.3 c.in-Data.start c.in-Data.end found.body in
          let piece = slice_range rest c.in-Data.start c.in-Data.end in
          let whole : value ≡ (so_far.0 ++ piece) ++ first.0 =
          so_far.2 ∙ (ap (λ l. so_far.0 ++ l) first.1 ∙ sym (append_assoc so_far.0 piece first.0)) in (
            so_far.0 ++ piece,
            first.0,
            whole,
            first.2,
            Appends-trans _ _ _ so_far.0 piece so_far.4 c.in-Ok.ensures.ok,
          );
      kept = c.in-Ok.ensures.kept_stays ∙ c.chunks.invariant.kept;
      never_falls = omega (arith, c.chunks.invariant.never_falls, c.in-Ok.ensures.cause.never_falls);
    }

pub returns-in-Err-clause-puts : goal.returns-in-Err-clause-puts
returns-in-Err-clause-puts g c value chunks =
    let rest = c.split_at.result.1.now in
    let so_far = c.chunks.invariant.held value chunks in
    let first = next_at c.args.body.now rest c.chunks.at c.split_at.ensures.back so_far.1 so_far.3 c.in-Data.start c.in-Data.end c.in-Data.ensures.body in
    stopped_in _ _ _ value so_far.0 so_far.1 (slice_range rest c.in-Data.start c.in-Data.end) first.0 so_far.2 first.1 so_far.4 c.in-Err.ensures.err

pub returns-in-Last-clause-puts : goal.returns-in-Last-clause-puts
returns-in-Last-clause-puts g c value chunks =
    let so_far = c.chunks.invariant.held value chunks in
    let none = last_at c.args.body.now c.split_at.result.1.now c.chunks.at c.split_at.ensures.back so_far.1 so_far.3
    c.chunks_are_determined.ensures c.in-Last.field-0 c.in-Last.ensures.body in
    subst (Appends (g.O.Sink.held c.args.out.now) (g.O.Sink.held c.chunks.out))
    (sym (so_far.2 ∙ (ap (λ l. so_far.0 ++ l) none ∙ append-nil so_far.0))) so_far.4

pub unreachable-requires-in-Never : goal.unreachable-requires-in-Never
unreachable-requires-in-Never g c =
    let some = c.chunks.invariant.some in
    never_at c.args.body.now c.split_at.result.1.now c.chunks.at c.split_at.ensures.back some.0 some.1 c.in-Never.ensures.body
