-- One change more, until none is due.
use Rattle.std.proofs.Common.{◌≡◌, ◌-◌, ◌+◌, ◌<◌, ℕ, refl, arith, sym, subst}
use Rattle.kn_slices.specs.Traces.{made_at}
use Rattle.kn_activators.specs.declared.setup.GroupSetup.{GroupSetup}
use Rattle.kn_activators.specs.Sharing.{by_one, changes, changes_most}
use Rattle.kn_activators.specs.Standing.{Fails, Makes, none}
use Rattle.kn_activators.proofs.Making.{goes_begin, goes_cut, goes_end, goes_more, same_on, Goes}
use Rattle.kn_activators.proofs.Standings.{below_still, changes_more, changes_none, changes_over, grows_begin, grows_still}
use Rattle.kn_activators.proofs.replay.Replay.change_all.Goals as goal

pub loop-k-init : goal.loop-k-init
loop-k-init g c =
    let s = c.args.self.now.setup in
    let m = changes_most s in
    record {
      goes = subst (λ (n : ℕ). Goes (changes s c.args.time m) (changes s c.args.time n) c.args.self.now c.args.self.now (g.O.Sink.held c.args.out.now) (g.O.Sink.held c.args.out.now)) (all m)
          (goes_begin c.adding_laws.ensures.laws (changes s c.args.time m) c.args.self.now (g.O.Sink.held c.args.out.now));
      same = record { setup = refl; before = refl; parts = refl };
      order = c.requires.order;
      load = grows_begin c.args.self.now.group none;
      later = omega arith;
    }
  where
    all : (m : ℕ) → m ≡ m - 0
    all m = omega arith

pub make-requires-clause-can : goal.make-requires-clause-can
make-requires-clause-can g c =
    let kept = c.loop-k.invariant in
    let low = subst (λ (n : ℕ). c.in-Some.change.activator < n) (sym c.due.ensures.parts) c.in-Some.ensures.one in
    record {
      one = c.in-Some.ensures.one;
      order = kept.order;
      times = c.requires.times;
      few = λ d. below_still c.args.self.now.group c.loop-k.self.group _ kept.same.parts kept.load c.requires.few c.in-Some.change.activator d low;
    }

pub loop-k-preserved : goal.loop-k-preserved
loop-k-preserved g c =
    let kept = c.loop-k.invariant in
    let s = c.args.self.now.setup in
    let m = changes_most s in
    let x = c.in-Some.change in
    let low : c.loop-k.k < m = subst (λ (n : ℕ). c.loop-k.k < n) c.changes_most-k-end.ensures c.loop-k-test.true in
    let made = subst (λ (z : GroupSetup). Makes (λ y. by_one z y x.activator (made_at c.args.time x)) c.loop-k.self c.make.new.self (g.O.Sink.held c.loop-k.out) (g.O.Sink.held c.make.new.out)) kept.same.setup c.in-Ok.ensures.ok in
    record {
      goes = goes_more c.adding_laws.ensures.laws (changes s c.args.time m) (changes s c.args.time (m - c.loop-k.k)) (changes s c.args.time (m - (c.loop-k.k + 1))) (λ y. by_one s y x.activator (made_at c.args.time x)) c.args.self.now c.loop-k.self c.make.new.self
          (g.O.Sink.held c.args.out.now) (g.O.Sink.held c.loop-k.out) (g.O.Sink.held c.make.new.out) kept.goes (λ y stands. changes_more s c.args.time m c.loop-k.k y x low (sym (c.in-Some.ensures.stands y stands))) made;
      same = same_on c.args.self.now c.loop-k.self c.make.new.self kept.same c.make.ensures.same;
      order = c.make.ensures.order;
      load = grows_still none c.args.self.now.group c.loop-k.self.group c.make.new.self.group kept.same.parts kept.load c.make.ensures.load;
      later = omega (arith, kept.later, c.make.ensures.cause.never_falls);
    }

pub returns-in_default-clause-ok : goal.returns-in_default-clause-ok
returns-in_default-clause-ok g c =
    let kept = c.loop-k.invariant in
    let s = c.args.self.now.setup in
    let m = changes_most s in
    goes_end (changes s c.args.time m) (changes s c.args.time (m - c.loop-k.k)) c.args.self.now c.loop-k.self (g.O.Sink.held c.args.out.now) (g.O.Sink.held c.loop-k.out) kept.goes
    (λ y stands. changes_none s c.args.time (m - c.loop-k.k) y (sym (c.in_default.ensures.stands y stands)))

pub returns-in-Err-clause-err : goal.returns-in-Err-clause-err
returns-in-Err-clause-err g c =
    let kept = c.loop-k.invariant in
    let s = c.args.self.now.setup in
    let m = changes_most s in
    let x = c.in-Some.change in
    let low : c.loop-k.k < m = subst (λ (n : ℕ). c.loop-k.k < n) c.changes_most-k-end.ensures c.loop-k-test.true in
    let cut = subst (λ (z : GroupSetup). Fails (λ y. by_one z y x.activator (made_at c.args.time x)) c.loop-k.self (g.O.Sink.held c.loop-k.out) (g.O.Sink.held c.make.new.out)) kept.same.setup c.in-Err.ensures.err in
    goes_cut c.adding_laws.ensures.laws (changes s c.args.time m) (changes s c.args.time (m - c.loop-k.k)) (changes s c.args.time (m - (c.loop-k.k + 1))) (λ y. by_one s y x.activator (made_at c.args.time x)) c.args.self.now c.loop-k.self
    (g.O.Sink.held c.args.out.now) (g.O.Sink.held c.loop-k.out) (g.O.Sink.held c.make.new.out) kept.goes (λ y stands. changes_more s c.args.time m c.loop-k.k y x low (sym (c.in-Some.ensures.stands y stands))) cut

pub returns-in-Err-clause-same : goal.returns-in-Err-clause-same
returns-in-Err-clause-same g c = same_on c.args.self.now c.loop-k.self c.make.new.self c.loop-k.invariant.same c.make.ensures.same

pub returns-in-Err-clause-order : goal.returns-in-Err-clause-order
returns-in-Err-clause-order g c = c.make.ensures.order

pub returns-in-Err-clause-load : goal.returns-in-Err-clause-load
returns-in-Err-clause-load g c = grows_still none c.args.self.now.group c.loop-k.self.group c.make.new.self.group c.loop-k.invariant.same.parts c.loop-k.invariant.load c.make.ensures.load

pub returns-clause-ok : goal.returns-clause-ok
returns-clause-ok g c =
    let kept = c.loop-k.invariant in
    let s = c.args.self.now.setup in
    let m = changes_most s in
    goes_end (changes s c.args.time m) (changes s c.args.time (m - c.loop-k.k)) c.args.self.now c.loop-k.self (g.O.Sink.held c.args.out.now) (g.O.Sink.held c.loop-k.out) kept.goes
    (λ y stands. changes_over s c.args.time m c.loop-k.k y (omega (arith, c.changes_most-k-end.ensures, c.loop-k-test.false)))
