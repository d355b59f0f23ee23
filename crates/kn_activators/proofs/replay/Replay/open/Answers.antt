-- One activator more.
use Rattle.std.proofs.Common.{◌≡◌, ◌+◌, ◌<◌, ◌++◌, ◌∙◌, ℕ, List, [], drop, append_assoc, append-nil, refl, arith, ap, sym, subst}
use Rattle.std.specs.List.{flat_map}
use Rattle.kn_event.specs.declared.entry.Entry.{Entry}
use Rattle.kn_slices.specs.Traces.{GroupState}
use Rattle.kn_io.specs.Prefix.{AppendsPrefix}
use Rattle.kn_activators.specs.declared.setup.GroupSetup.{GroupSetup}
use Rattle.kn_activators.specs.Sharing.{numbers_of, opening_at, openings_text}
use Rattle.kn_report.specs.Waiting.{Adds, own_rows}
use Rattle.kn_activators.proofs.Standings.{openings_end, openings_more}
use Rattle.kn_activators.proofs.replay.Replay.open.Goals as goal

pub loop-i-init : goal.loop-i-init
unfolding openings_text
loop-i-init g c = record { on = ([], c.adding_laws.ensures.laws.nothing, refl); group = refl; setup = refl; later = omega arith }

pub open_only-requires : goal.open_only-requires
open_only-requires g c =
    let same = ap (λ (s : GroupSetup). s.activators) c.loop-i.invariant.setup in
    let all = c.activators-i-end.ensures.value in
    let test = c.loop-i-test.true in
    omega (arith, same, all, test)

-- the rows of the next one
module _ where
  same_rows : (s t : GroupSetup) (g h : GroupState) (i : ℕ) (log : List Entry) → t ≡ s → h ≡ g → log ≡ opening_at t h.start i → log ≡ opening_at s g.start i
  same_rows s t g h i log a b e = e ∙ rw (a, b) refl

pub loop-i-preserved : goal.loop-i-preserved
loop-i-preserved g c =
    let kept = c.loop-i.invariant in
    let on = kept.on in
    let s = c.args.self.now.setup in
    let start = c.args.self.now.group.start in
    let i = c.loop-i.i in
    let low : i < s.activators = omega (arith, c.activators-i-end.ensures.value, c.loop-i-test.true) in
    let rows = same_rows s c.loop-i.self.setup c.args.self.now.group c.loop-i.self.group i c.open_only.new.self.log kept.setup kept.group c.open_only.ensures.log in
    let wrote = subst (λ (w : List ℕ). Adds (g.O.Sink.held c.loop-i.out) (g.O.Sink.held c.put_rows.new.out) w c.put_rows.new.self.waiting (own_rows i (opening_at s start i))) c.open_only.ensures.waiting
    (subst (λ (r : List Entry). Adds (g.O.Sink.held c.loop-i.out) (g.O.Sink.held c.put_rows.new.out) c.open_only.new.self.waiting c.put_rows.new.self.waiting (own_rows i r)) rows c.in-Ok.ensures.ok) in
    let split = openings_more s start i low in
    record {
      on = (
        on.0 ++ own_rows i (opening_at s start i),
        c.adding_laws.ensures.laws.more on.1 wrote refl,
        append_assoc on.0 (own_rows i (opening_at s start i)) (flat_map (λ k. own_rows k (opening_at s start k)) (drop (i + 1) (numbers_of s))) ∙ (ap (λ (z : List ℕ). on.0 ++ z) (sym split) ∙ on.2),
      );
      group = c.put_rows.ensures.group ∙ (c.open_only.ensures.group ∙ kept.group);
      setup = c.put_rows.ensures.setup ∙ (c.open_only.ensures.setup ∙ kept.setup);
      later = omega (arith, kept.later, c.put_rows.ensures.cause.never_falls);
    }

pub returns-in-Err-clause-err : goal.returns-in-Err-clause-err
returns-in-Err-clause-err g c =
    let kept = c.loop-i.invariant in
    let on = kept.on in
    let s = c.args.self.now.setup in
    let start = c.args.self.now.group.start in
    let i = c.loop-i.i in
    let low : i < s.activators = omega (arith, c.activators-i-end.ensures.value, c.loop-i-test.true) in
    let rows = same_rows s c.loop-i.self.setup c.args.self.now.group c.loop-i.self.group i c.open_only.new.self.log kept.setup kept.group c.open_only.ensures.log in
    let some = subst (λ (w : List ℕ). AppendsPrefix (g.O.Sink.held c.loop-i.out) (g.O.Sink.held c.put_rows.new.out) (w ++ own_rows i (opening_at s start i))) c.open_only.ensures.waiting
    (subst (λ (r : List Entry). AppendsPrefix (g.O.Sink.held c.loop-i.out) (g.O.Sink.held c.put_rows.new.out) (c.open_only.new.self.waiting ++ own_rows i r)) rows c.in-Err.ensures.err) in
    let rest = flat_map (λ k. own_rows k (opening_at s start k)) (drop (i + 1) (numbers_of s)) in
    let split = openings_more s start i low in
    subst (λ (z : List ℕ). AppendsPrefix (g.O.Sink.held c.args.out.now) (g.O.Sink.held c.put_rows.new.out) (c.args.self.now.waiting ++ z)) (ap (λ (z : List ℕ). on.0 ++ z) (sym split) ∙ on.2)
    (c.adding_laws.ensures.laws.some (g.O.Sink.held c.put_rows.new.out) (own_rows i (opening_at s start i)) rest on.1 some)

pub returns-clause-ok : goal.returns-clause-ok
returns-clause-ok g c =
    let on = c.loop-i.invariant.on in
    let s = c.args.self.now.setup in
    let end = openings_end s c.args.self.now.group.start c.loop-i.i (omega (arith, c.activators-i-end.ensures.value, c.loop-i-test.false)) in
    let all = sym (append-nil on.0) ∙ (ap (λ (z : List ℕ). on.0 ++ z) (sym end) ∙ on.2) in
    subst (Adds (g.O.Sink.held c.args.out.now) (g.O.Sink.held c.loop-i.out) c.args.self.now.waiting c.loop-i.self.waiting) all on.1
