-- One activator more, until all were stepped.
use Rattle.std.proofs.Common.{◌≡◌, ◌+◌, ◌<◌, ℕ, drop, refl, arith, ap, subst}
use Rattle.kn_activators.specs.declared.setup.GroupSetup.{GroupSetup}
use Rattle.kn_activators.specs.Sharing.{by_each, by_one, numbers_of}
use Rattle.kn_activators.specs.Standing.{Fails, Makes}
use Rattle.kn_activators.proofs.Making.{goes_begin, goes_cut, goes_end, goes_more, same_on}
use Rattle.kn_activators.proofs.Standings.{each_end, each_more, few_next, grows_all, grows_begin, grows_next, one_below}
use Rattle.kn_activators.proofs.replay.Replay.step_each.Goals as goal

pub loop-i-init : goal.loop-i-init
loop-i-init g c = record {
  goes = goes_begin c.adding_laws.ensures.laws (by_each c.args.self.now.setup c.args.e.now (numbers_of c.args.self.now.setup)) c.args.self.now (g.O.Sink.held c.args.out.now);
  same = record { setup = refl; before = refl; parts = refl };
  order = c.requires.order;
  load = grows_begin c.args.self.now.group (one_below 0);
  later = omega arith;
}

low : (i n m : ℕ) → i < n → n ≡ m → i < m
low i n m h e = omega (arith, h, e)

pub step-requires-clause-can : goal.step-requires-clause-can
step-requires-clause-can g c =
    let kept = c.loop-i.invariant in
    let same = ap (λ (s : GroupSetup). s.activators) kept.same.setup in
    let all = c.activators-i-end.ensures.value in
    let test = c.loop-i-test.true in
    let parts = c.activators-i-end.ensures.parts in
    record {
      one = omega (arith, same, all, test);
      order = kept.order;
      times = c.requires.times;
      few = few_next c.loop-i.i _ c.args.self.now.group c.loop-i.self.group (omega (arith, all, test, parts)) kept.load c.requires.few;
    }

pub loop-i-preserved : goal.loop-i-preserved
loop-i-preserved g c =
    let kept = c.loop-i.invariant in
    let s = c.args.self.now.setup in
    let e = c.args.e.now in
    let i = c.loop-i.i in
    let inside = low i _ s.activators c.loop-i-test.true c.activators-i-end.ensures.value in
    let made = subst (λ (z : GroupSetup). Makes (λ y. by_one z y i e) c.loop-i.self c.step.new.self (g.O.Sink.held c.loop-i.out) (g.O.Sink.held c.step.new.out)) kept.same.setup c.in-Ok.ensures.ok in
    record {
      goes = goes_more c.adding_laws.ensures.laws (by_each s e (numbers_of s)) (by_each s e (drop i (numbers_of s))) (by_each s e (drop (i + 1) (numbers_of s))) (λ y. by_one s y i e) c.args.self.now c.loop-i.self c.step.new.self
          (g.O.Sink.held c.args.out.now) (g.O.Sink.held c.loop-i.out) (g.O.Sink.held c.step.new.out) kept.goes (λ y stands. each_more s e i y inside) made;
      same = same_on c.args.self.now c.loop-i.self c.step.new.self kept.same c.step.ensures.same;
      order = c.step.ensures.order;
      load = grows_next i c.args.self.now.group c.loop-i.self.group c.step.new.self.group kept.same.parts kept.load c.step.ensures.load;
      later = omega (arith, kept.later, c.step.ensures.cause.never_falls);
    }

pub returns-in-Err-clause-err : goal.returns-in-Err-clause-err
returns-in-Err-clause-err g c =
    let kept = c.loop-i.invariant in
    let s = c.args.self.now.setup in
    let e = c.args.e.now in
    let i = c.loop-i.i in
    let inside = low i _ s.activators c.loop-i-test.true c.activators-i-end.ensures.value in
    let cut = subst (λ (z : GroupSetup). Fails (λ y. by_one z y i e) c.loop-i.self (g.O.Sink.held c.loop-i.out) (g.O.Sink.held c.step.new.out)) kept.same.setup c.in-Err.ensures.err in
    goes_cut c.adding_laws.ensures.laws (by_each s e (numbers_of s)) (by_each s e (drop i (numbers_of s))) (by_each s e (drop (i + 1) (numbers_of s))) (λ y. by_one s y i e) c.args.self.now c.loop-i.self
    (g.O.Sink.held c.args.out.now) (g.O.Sink.held c.loop-i.out) (g.O.Sink.held c.step.new.out) kept.goes (λ y stands. each_more s e i y inside) cut

pub returns-in-Err-clause-same : goal.returns-in-Err-clause-same
returns-in-Err-clause-same g c = same_on c.args.self.now c.loop-i.self c.step.new.self c.loop-i.invariant.same c.step.ensures.same

pub returns-in-Err-clause-order : goal.returns-in-Err-clause-order
returns-in-Err-clause-order g c = c.step.ensures.order

pub returns-in-Err-clause-load : goal.returns-in-Err-clause-load
returns-in-Err-clause-load g c =
    grows_all (c.loop-i.i + 1) c.args.self.now.group c.step.new.self.group
    (grows_next c.loop-i.i c.args.self.now.group c.loop-i.self.group c.step.new.self.group c.loop-i.invariant.same.parts c.loop-i.invariant.load c.step.ensures.load)

pub returns-clause-ok : goal.returns-clause-ok
returns-clause-ok g c =
    let kept = c.loop-i.invariant in
    let s = c.args.self.now.setup in
    let e = c.args.e.now in
    goes_end (by_each s e (numbers_of s)) (by_each s e (drop c.loop-i.i (numbers_of s))) c.args.self.now c.loop-i.self (g.O.Sink.held c.args.out.now) (g.O.Sink.held c.loop-i.out) kept.goes
    (λ y stands. each_end s e c.loop-i.i y (omega (arith, c.activators-i-end.ensures.value, c.loop-i-test.false)))

pub returns-clause-load : goal.returns-clause-load
returns-clause-load g c = grows_all c.loop-i.i c.args.self.now.group c.loop-i.self.group c.loop-i.invariant.load
