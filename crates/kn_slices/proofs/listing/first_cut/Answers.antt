use Rattle.std.proofs.Common.{◌∙◌, sym, arith, length, get_or}
use Rattle.kn_slices.specs.Activators.{limit_at}
use Rattle.kn_slices.specs.Slices.{cut_of}
use Rattle.kn_slices.proofs.Listed.{none_here, none_left, some_here}
use Rattle.kn_slices.proofs.Marks.{no_cut}
use Rattle.kn_slices.proofs.listing.first_cut.Goals as goal

pub loop-k-init : goal.loop-k-init
loop-k-init c = λ p low off.
    let marked = c.requires.marked.each p low in
    no_cut (limit_at p) (length c.args.parts.now) (get_or c.args.wanted.now p 0) p 0 c.args.parts.now (sym marked ∙ c.requires.others p low (λ k inside e. off k (omega arith) inside e))

-- a pod without a mark has no change
pub loop-k-preserved-then-marks-at-eq0 : goal.loop-k-preserved-then-marks-at-eq0
loop-k-preserved-then-marks-at-eq0 c =
    let p = get_or c.args.listed.now c.loop-k.k 0 in
    let low = c.requires.listed.inside c.loop-k.k c.loop-k-test.true in
    let marked = c.requires.marked.each p low in
    none_here (cut_of limit_at (length c.args.parts.now) c.args.parts.now) c.loop-k.k c.args.wanted.now c.args.listed.now c.loop-k.invariant
    (no_cut (limit_at p) (length c.args.parts.now) (get_or c.args.wanted.now p 0) p 0 c.args.parts.now (sym marked ∙ c.if-marks-at-eq0.true))

pub loop-k-preserved : goal.loop-k-preserved
loop-k-preserved c =
    none_here (cut_of limit_at (length c.args.parts.now) c.args.parts.now) c.loop-k.k c.args.wanted.now c.args.listed.now c.loop-k.invariant
    (sym c.in_default.ensures)

pub returns-in-Some : goal.returns-in-Some
returns-in-Some c = sym (some_here (cut_of limit_at (length c.args.parts.now) c.args.parts.now) c.loop-k.k c.args.wanted.now c.args.listed.now c.loop-k.invariant c.in-Some.change c.loop-k-test.true c.requires.listed
    (sym c.in-Some.ensures))

pub returns : goal.returns
returns c = sym (none_left (cut_of limit_at (length c.args.parts.now) c.args.parts.now) c.loop-k.k c.args.wanted.now c.args.listed.now c.loop-k.invariant (omega (arith, c.loop-k-test.false)))
