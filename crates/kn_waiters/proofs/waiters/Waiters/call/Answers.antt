use Rattle.std.proofs.Common.{◌≡◌, ◌≢◌, ◌<◌, ◌++◌, ◌∷◌, [], length, get_or, sym, ap, ◌∙◌, arith, append_assoc, length-append}
use Rattle.std.proofs.lemmas.List.{get_or_default}
use Rattle.std.proofs.lemmas.List.Edits.{length-remove}
use Rattle.kn_waiters.specs.declared.waiters.Waiter.{Waiter}
use Rattle.kn_waiters.specs.Waiting.{WaitersState}
use Rattle.kn_waiters.proofs.Waits.{order-remove, first_for, others_stay, place-remove, nobody, called_out, passes_of}
use Rattle.kn_waiters.proofs.waiters.Waiters.call.Goals as goal

pub returns-then-index-request : goal.returns-then-index-request
returns-then-index-request c =
    let i = c.loop-self.invariant in
    let ws = c.loop-self.self-inside.waiting.items in
    let old : WaitersState = record { room = c.self.inside.room; waiting = c.self.inside.waiting.items; called = c.self.inside.called.items } in
    let new : WaitersState = record { room = c.loop-self.self-inside.room; waiting = ws; called = c.loop-self.self-inside.called.items } in
    let y : Waiter = c.index.result.now in
    let other : c.place_of-place.result < length ws → (d : Waiter) → c.args.request ≢ (get_or ws c.place_of-place.result d).request =
    λ lt d e. c.if-index-request.true (ap (λ (w : Waiter). w.request) (c.index.ensures ∙ get_or_default ws c.place_of-place.result y d lt) ∙ sym e) in
    rw (← c.self.view_is) (called_out c.args.request old new i.room i.waiting i.called (nobody c.args.request ws c.place_of-place.result i.roomy.order i.at other))

pub loop-self-preserved : goal.loop-self-preserved
loop-self-preserved c =
    let i = c.loop-self.invariant in
    let ws = c.loop-self.self-inside.waiting.items in
    let r = c.args.request in
    let at = c.place_of-place.result in
    let x : Waiter = c.remove-waiter.result in
    let lt : at < length ws = omega arith in
    let y : Waiter = c.index.result.now in
    let is : x ≡ get_or ws at x = c.remove-waiter.ensures.value in
    let same : r ≡ x.request = sym c.if-index-request.false ∙ ap (λ (w : Waiter). w.request) (sym (is ∙ (get_or_default ws at x y lt ∙ sym c.index.ensures))) in
    let removed = c.remove-waiter.ensures.items in
    let shorter = length-remove ws at lt in
    let longer = length-append c.loop-self.self-inside.called.items (x.pass ∷ []) in
    let first = first_for r ws at x i.at lt is same in
    rw (removed, c.push_reserved.ensures.items) record {
      roomy = record { few = omega (arith, i.roomy.few); order = order-remove ws at lt i.roomy.order };
      wide = omega (arith, i.wide, c.remove-waiter.ensures.capacity);
      wide_called = omega (arith, i.wide_called, c.push_reserved.ensures.capacity);
      room = i.room;
      at = place-remove r ws at lt i.at;
      waiting = sym (others_stay r ws at x lt is same) ∙ i.waiting;
      called = append_assoc c.loop-self.self-inside.called.items (x.pass ∷ []) _ ∙ (ap (λ l. c.loop-self.self-inside.called.items ++ passes_of l) (sym first) ∙ i.called);
    }

pub returns : goal.returns
returns c =
    let i = c.loop-self.invariant in
    let ws = c.loop-self.self-inside.waiting.items in
    let old : WaitersState = record { room = c.self.inside.room; waiting = c.self.inside.waiting.items; called = c.self.inside.called.items } in
    let new : WaitersState = record { room = c.loop-self.self-inside.room; waiting = ws; called = c.loop-self.self-inside.called.items } in
    let none = c.loop-self-test.false in
    let other : c.place_of-place.result < length ws → (d : Waiter) → c.args.request ≢ (get_or ws c.place_of-place.result d).request = λ lt d. absurd (omega arith) in
    rw (← c.self.view_is) (called_out c.args.request old new i.room i.waiting i.called (nobody c.args.request ws c.place_of-place.result i.roomy.order i.at other))
