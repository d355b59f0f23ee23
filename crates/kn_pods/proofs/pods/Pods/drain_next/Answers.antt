use Rattle.std.proofs.Common.{◌≡◌, ◌∷◌, [], ◌++◌, sym, ap, ◌∙◌, append-nil}
use Rattle.kn_event.specs.declared.entry.Row.TheVariants as row
use Rattle.kn_pods.specs.Numbers.{NumbersState}
use Rattle.kn_pods.specs.Pods.{PodsState, after_row, drain_order_of}
use Rattle.kn_pods.proofs.Steps.{drain_proper, drained_ready, drained_starting, first_ready, first_starting, goes_by, some_popped, some_ready}
use Rattle.kn_pods.proofs.pods.Pods.drain_next.Goals as goal

pub unwrap-p-requires : goal.unwrap-p-requires
unwrap-p-requires c =
    let lt = rw (← c.self.view_is) at c.requires.some in
    some_popped c.self.inside.ready.items c.pop-in-None.result c.pop-in-None.ensures.none (some_ready c.self.inside.starting.items c.self.inside.ready.items c.in-None.ensures.none lt)

pub returns-in-Some-clause-changed : goal.returns-in-Some-clause-changed
returns-in-Some-clause-changed c =
    let view : PodsState = record { created = c.self.inside.created; starting = c.self.inside.starting.items; ready = c.self.inside.ready.items; draining = c.self.inside.draining.items } in
    drained_starting view c.in-Some.p c.pop.new.self.items c.insert.new.self.items c.in-Some.ensures.there c.in-Some.ensures.without (ap (λ (n : NumbersState). n.items) c.insert.ensures.inserted)
    ∙ ap (after_row (row.Drain c.in-Some.p)) c.self.view_is

pub returns-in-Some-clause-goes : goal.returns-in-Some-clause-goes
returns-in-Some-clause-goes c = λ t.
    let view : PodsState = record { created = c.self.inside.created; starting = c.self.inside.starting.items; ready = c.self.inside.ready.items; draining = c.self.inside.draining.items } in
    let new : PodsState = record view { starting = c.pop.new.self.items; draining = c.insert.new.self.items } in
    let first : drain_order_of c.args.self.now ≡ c.in-Some.p ∷ drain_order_of new =
    rw (← c.self.view_is) (first_starting c.self.inside.starting.items c.pop.new.self.items c.self.inside.ready.items c.in-Some.p c.in-Some.ensures.popped) in
    goes_by c.row_laws.ensures.made c.row_laws.ensures.stands c.args.self.now new t (row.Drain c.in-Some.p) (returns-in-Some-clause-changed c) (λ s d made stands. drain_proper c.args.self.now s d c.in-Some.p _ first stands)

-- without a Starting pod none is left of them
none_left : (c : goal.After-insert-in-None) → c.pop.new.self.items ≡ []
none_left c = sym (append-nil c.pop.new.self.items) ∙ sym c.in-None.ensures.popped ∙ c.in-None.ensures.none

ready_popped : (c : goal.After-insert-in-None) → c.self.inside.ready.items ≡ c.pop-in-None.new.self.items ++ c.unwrap-p.result ∷ []
ready_popped c = rw c.unwrap-p.ensures at c.pop-in-None.ensures.popped

first : (c : goal.After-insert-in-None) → drain_order_of c.args.self.now ≡ c.unwrap-p.result
    ∷ drain_order_of (record { created = c.self.inside.created; starting = c.pop.new.self.items; ready = c.pop-in-None.new.self.items; draining = c.insert-in-None.new.self.items })
first c =
    rw (← c.self.view_is)
    (first_ready c.self.inside.starting.items c.pop.new.self.items c.self.inside.ready.items c.pop-in-None.new.self.items c.unwrap-p.result c.in-None.ensures.none (none_left c) (ready_popped c))

pub returns-in-None-clause-first : goal.returns-in-None-clause-first
returns-in-None-clause-first c = first c

pub returns-in-None-clause-changed : goal.returns-in-None-clause-changed
returns-in-None-clause-changed c =
    let view : PodsState = record { created = c.self.inside.created; starting = c.self.inside.starting.items; ready = c.self.inside.ready.items; draining = c.self.inside.draining.items } in
    let without = rw c.unwrap-p.ensures at c.pop-in-None.ensures.without in
    drained_ready view c.unwrap-p.result c.pop.new.self.items c.pop-in-None.new.self.items c.insert-in-None.new.self.items c.in-None.ensures.none (none_left c) without
    (ap (λ (n : NumbersState). n.items) c.insert-in-None.ensures.inserted)
    ∙ ap (after_row (row.Drain c.unwrap-p.result)) c.self.view_is

pub returns-in-None-clause-goes : goal.returns-in-None-clause-goes
returns-in-None-clause-goes c = λ t.
    let view : PodsState = record { created = c.self.inside.created; starting = c.self.inside.starting.items; ready = c.self.inside.ready.items; draining = c.self.inside.draining.items } in
    let new : PodsState = record view { starting = c.pop.new.self.items; ready = c.pop-in-None.new.self.items; draining = c.insert-in-None.new.self.items } in
    goes_by c.row_laws.ensures.made c.row_laws.ensures.stands c.args.self.now new t (row.Drain c.unwrap-p.result) (returns-in-None-clause-changed c) (λ s d made stands. drain_proper c.args.self.now s d c.unwrap-p.result _ (first c) stands)
