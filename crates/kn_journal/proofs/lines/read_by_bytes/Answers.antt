use Rattle.std.proofs.Common.{arith, ◌≡◌, ◌+◌, ◌∙◌, false, refl}
use Rattle.std.specs.Prelude.{◌==◌}
use Rattle.std.proofs.lemmas.Grind.{common_steps}
use Rattle.kn_journal.specs.Reading.{unread}
use Rattle.kn_journal.proofs.Drawings.{draws_all, draws_both, draws_more, draws_none}
use Rattle.kn_journal.proofs.Fronts.{front_begin, front_added, front_lf, front_end, front_long, front_end-long, counts_begin, counts_byte, counts_end, contains_some, contains_rest, part_begin, part_byte, part_stay}
use Rattle.kn_journal.proofs.Plain.{no_lf-added, no_lf-crs_after, no_lf-nil}
use Rattle.kn_journal.proofs.Texts.{text-end, text-lf}
use Rattle.kn_journal.proofs.lines.read_by_bytes.Goals as goal

pub loop-init : goal.loop-init
loop-init g c = record {
  taken = rw c.clear.ensures.items (front_begin _);
  part = part_begin _;
  exact = counts_begin _ _;
  turns = grind (arith, common_steps);
  bytes = grind (arith, common_steps);
  most = grind (arith, common_steps);
  ready = λ lf. (lf, refl);
  source = draws_none _ _;
  no_lf = rw c.clear.ensures.items no_lf-nil;
  short = grind (arith, common_steps);
  room = grind (arith, common_steps);
}

pub returns-in-Ok-Some-eq10-clause-taken : goal.returns-in-Ok-Some-eq10-clause-taken
returns-in-Ok-Some-eq10-clause-taken g c =
    let whole = unread c.args.input.now (g.S.Source.left c.args.source.now) in
    let left = unread c.loop.input (g.S.Source.left c.loop.source) in
    let rest = unread c.next.new.self (g.S.Source.left c.next.new.source) in
    let byte = rw (c.in-Ok-Some-eq10.field-0-is, c.in-Ok-Some-eq10.field-0-0-test) at c.in-Ok-Some-eq10.ensures.byte in
    front_lf whole left rest c.loop.line.items c.loop.crs c.loop.invariant.taken byte

pub returns-in-Ok-Some-eq10-clause-text : goal.returns-in-Ok-Some-eq10-clause-text
returns-in-Ok-Some-eq10-clause-text g c _ =
    let whole = unread c.args.input.now (g.S.Source.left c.args.source.now) in
    let left = unread c.loop.input (g.S.Source.left c.loop.source) in
    let rest = unread c.next.new.self (g.S.Source.left c.next.new.source) in
    let byte = rw (c.in-Ok-Some-eq10.field-0-is, c.in-Ok-Some-eq10.field-0-0-test) at c.in-Ok-Some-eq10.ensures.byte in
    text-lf whole left rest c.loop.invariant.part byte

pub returns-in-Ok-None-clause-text : goal.returns-in-Ok-None-clause-text
returns-in-Ok-None-clause-text g c _ =
    let whole = unread c.args.input.now (g.S.Source.left c.args.source.now) in
    let left = unread c.loop.input (g.S.Source.left c.loop.source) in
    let rest = unread c.next.new.self (g.S.Source.left c.next.new.source) in
    let none = rw c.in-Ok-None.field-0-is at c.in-Ok-None.ensures.byte in
    text-end whole left rest c.loop.invariant.part none

pub returns-in-None-clause-long : goal.returns-in-None-clause-long
returns-in-None-clause-long g c _ =
    let whole = unread c.args.input.now (g.S.Source.left c.args.source.now) in
    let left = unread c.loop.input (g.S.Source.left c.loop.source) in
    let rest = unread c.next.new.self (g.S.Source.left c.next.new.source) in
    let byte = rw c.in-Ok-Some.field-0-is at c.in-Ok-Some.ensures.byte in
    let not_lf : (c.in-Ok-Some.byte == 10) ≡ false = grind arith in
    let not_cr : (c.in-Ok-Some.byte == 13) ≡ false = grind arith in
    front_long whole left rest c.loop.line.items c.loop.crs c.in-Ok-Some.byte c.loop.invariant.taken byte not_lf not_cr (grind (arith, common_steps))

pub returns-then-not-add_crs-clause-long : goal.returns-then-not-add_crs-clause-long
returns-then-not-add_crs-clause-long g c _ =
    let whole = unread c.args.input.now (g.S.Source.left c.args.source.now) in
    let left = unread c.loop.input (g.S.Source.left c.loop.source) in
    let rest = unread c.next.new.self (g.S.Source.left c.next.new.source) in
    let none = rw c.in-Ok-None.field-0-is at c.in-Ok-None.ensures.byte in
    front_end-long whole left rest c.loop.line.items c.loop.crs c.loop.invariant.taken none (grind (arith, common_steps))

pub returns-in-Ok-None-clause-content : goal.returns-in-Ok-None-clause-content
returns-in-Ok-None-clause-content g c = record {
  fits = grind (arith, common_steps);
  no_lf = no_lf-crs_after c.loop.line.items c.add_crs.new.line.items c.loop.crs c.loop.invariant.no_lf (grind (arith, common_steps));
}

pub returns-in-Ok-None-clause-taken : goal.returns-in-Ok-None-clause-taken
returns-in-Ok-None-clause-taken g c =
    let whole = unread c.args.input.now (g.S.Source.left c.args.source.now) in
    let left = unread c.loop.input (g.S.Source.left c.loop.source) in
    let rest = unread c.next.new.self (g.S.Source.left c.next.new.source) in
    let none = rw c.in-Ok-None.field-0-is at c.in-Ok-None.ensures.byte in
    front_end whole left rest c.loop.line.items c.add_crs.new.line.items c.loop.crs _ c.loop.invariant.taken none (grind (arith, common_steps)) (grind (arith, common_steps))

pub returns-in-Ok-Some-eq10-clause-source : goal.returns-in-Ok-Some-eq10-clause-source
returns-in-Ok-Some-eq10-clause-source g c = draws_both c.loop.invariant.source c.in-Ok-Some-eq10.ensures.source

pub returns-in-None-clause-source : goal.returns-in-None-clause-source
returns-in-None-clause-source g c = draws_both c.loop.invariant.source c.in-Ok-Some.ensures.source

pub returns-then-not-add_crs-clause-source : goal.returns-then-not-add_crs-clause-source
returns-then-not-add_crs-clause-source g c = draws_both c.loop.invariant.source c.in-Ok-None.ensures.source

pub returns-in-Ok-None-clause-source : goal.returns-in-Ok-None-clause-source
returns-in-Ok-None-clause-source g c = draws_both c.loop.invariant.source c.in-Ok-None.ensures.source

pub returns-in-Err-clause-source : goal.returns-in-Err-clause-source
returns-in-Err-clause-source g c =
    draws_more c.loop.invariant.source c.in-Err.ensures.source (λ h.
    part_stay (unread c.args.input.now (g.S.Source.left c.args.source.now)) (unread c.loop.input (g.S.Source.left c.loop.source)) (unread c.next.new.self (g.S.Source.left c.next.new.source))
    c.loop.invariant.part (c.in-Err.ensures.source.amid h))

pub returns-clause-source : goal.returns-clause-source
returns-clause-source g c = draws_all c.loop.invariant.source (grind (arith, common_steps)) c.loop.invariant.part

-- while an LF is ahead, so is one after each byte

pub returns-in-Ok-Some-eq10-clause-ready : goal.returns-in-Ok-Some-eq10-clause-ready
returns-in-Ok-Some-eq10-clause-ready g c lf =
    let before = c.loop.invariant.ready lf in
    c.next.ensures.ready (contains_some _ _ before.0) ∙ before.1

pub returns-in-None-clause-ready : goal.returns-in-None-clause-ready
returns-in-None-clause-ready g c lf =
    let before = c.loop.invariant.ready lf in
    c.next.ensures.ready (contains_some _ _ before.0) ∙ before.1

pub returns-then-not-add_crs-clause-ready : goal.returns-then-not-add_crs-clause-ready
returns-then-not-add_crs-clause-ready g c lf =
    let before = c.loop.invariant.ready lf in
    c.next.ensures.ready (contains_some _ _ before.0) ∙ before.1

pub returns-in-Ok-None-clause-ready : goal.returns-in-Ok-None-clause-ready
returns-in-Ok-None-clause-ready g c lf =
    let before = c.loop.invariant.ready lf in
    c.next.ensures.ready (contains_some _ _ before.0) ∙ before.1

pub returns-in-Err-clause-ready : goal.returns-in-Err-clause-ready
returns-in-Err-clause-ready g c lf =
    let before = c.loop.invariant.ready lf in
    c.next.ensures.ready (contains_some _ _ before.0) ∙ before.1

-- each byte that is gone was counted

pub returns-in-Ok-Some-eq10-clause-exact : goal.returns-in-Ok-Some-eq10-clause-exact
returns-in-Ok-Some-eq10-clause-exact g c =
    let whole = unread c.args.input.now (g.S.Source.left c.args.source.now) in
    let left = unread c.loop.input (g.S.Source.left c.loop.source) in
    let rest = unread c.next.new.self (g.S.Source.left c.next.new.source) in
    let byte = rw (c.in-Ok-Some-eq10.field-0-is, c.in-Ok-Some-eq10.field-0-0-test) at c.in-Ok-Some-eq10.ensures.byte in
    let counted = rw c.in-Ok-Some-eq10.field-0-is at c.in-Ok-Some-eq10.ensures.taken in
    rw counted (counts_byte whole left rest c.args.input.now.taken c.loop.input.taken 10 c.loop.invariant.exact byte)

pub returns-in-None-clause-exact : goal.returns-in-None-clause-exact
returns-in-None-clause-exact g c =
    let whole = unread c.args.input.now (g.S.Source.left c.args.source.now) in
    let left = unread c.loop.input (g.S.Source.left c.loop.source) in
    let rest = unread c.next.new.self (g.S.Source.left c.next.new.source) in
    let byte = rw c.in-Ok-Some.field-0-is at c.in-Ok-Some.ensures.byte in
    let counted = rw c.in-Ok-Some.field-0-is at c.in-Ok-Some.ensures.taken in
    rw counted (counts_byte whole left rest c.args.input.now.taken c.loop.input.taken c.in-Ok-Some.byte c.loop.invariant.exact byte)

pub returns-then-not-add_crs-clause-exact : goal.returns-then-not-add_crs-clause-exact
returns-then-not-add_crs-clause-exact g c =
    let whole = unread c.args.input.now (g.S.Source.left c.args.source.now) in
    let left = unread c.loop.input (g.S.Source.left c.loop.source) in
    let rest = unread c.next.new.self (g.S.Source.left c.next.new.source) in
    let none = rw c.in-Ok-None.field-0-is at c.in-Ok-None.ensures.byte in
    let counted = rw c.in-Ok-None.field-0-is at c.in-Ok-None.ensures.taken in
    rw counted (counts_end whole left rest c.args.input.now.taken c.loop.input.taken c.loop.invariant.exact none)

pub returns-in-Ok-None-clause-exact : goal.returns-in-Ok-None-clause-exact
returns-in-Ok-None-clause-exact g c =
    let whole = unread c.args.input.now (g.S.Source.left c.args.source.now) in
    let left = unread c.loop.input (g.S.Source.left c.loop.source) in
    let rest = unread c.next.new.self (g.S.Source.left c.next.new.source) in
    let none = rw c.in-Ok-None.field-0-is at c.in-Ok-None.ensures.byte in
    let counted = rw c.in-Ok-None.field-0-is at c.in-Ok-None.ensures.taken in
    rw counted (counts_end whole left rest c.args.input.now.taken c.loop.input.taken c.loop.invariant.exact none)

pub loop-preserved : goal.loop-preserved
loop-preserved g c =
    let whole = unread c.args.input.now (g.S.Source.left c.args.source.now) in
    let left = unread c.loop.input (g.S.Source.left c.loop.source) in
    let rest = unread c.next.new.self (g.S.Source.left c.next.new.source) in
    let byte = rw c.in-Ok-Some.field-0-is at c.in-Ok-Some.ensures.byte in
    let counted = rw c.in-Ok-Some.field-0-is at c.in-Ok-Some.ensures.taken in
    let not_lf : (c.in-Ok-Some.byte == 10) ≡ false = grind arith in
    let waits : c.in-Ok-Some.byte ≡ 13 → (c.in-Some.waiting ≡ c.loop.crs + 1) × (c.add.new.line.items ≡ c.loop.line.items) =
    λ is. let now = c.in-Some.ensures.cr is in (cc, now.1) in
    record {
      taken = front_added whole left rest c.loop.line.items c.add.new.line.items c.loop.crs c.in-Some.waiting c.in-Ok-Some.byte c.loop.invariant.taken byte not_lf waits c.in-Some.ensures.other;
      part = part_byte whole left rest c.in-Ok-Some.byte c.loop.invariant.part byte (grind arith);
      exact = rw counted (counts_byte whole left rest c.args.input.now.taken c.loop.input.taken c.in-Ok-Some.byte c.loop.invariant.exact byte);
      turns = grind (arith, common_steps, counted);
      bytes = grind (arith, common_steps);
      most = grind (arith, common_steps);
      ready = λ lf.
          let before = c.loop.invariant.ready lf in
          let some = contains_some _ _ before.0 in
          let front = rw c.in-Ok-Some.field-0-is at (c.in-Ok-Some.ensures.front some) in
          (contains_rest _ _ _ front (grind arith) before.0, c.next.ensures.ready some ∙ before.1);
      source = draws_both c.loop.invariant.source c.in-Ok-Some.ensures.source;
      no_lf = no_lf-added c.loop.line.items c.add.new.line.items c.loop.crs c.in-Ok-Some.byte c.loop.invariant.no_lf (grind arith) (λ is. (waits is).1) (λ other. (c.in-Some.ensures.other other).1);
      short = grind (arith, common_steps);
      room = grind (arith, common_steps);
    }
