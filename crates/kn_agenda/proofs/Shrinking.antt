-- What is still to do by itself becomes less at each event that is no arrival and no tick.
use Rattle.std.proofs.Common.{◌≡◌, ℕ, ◌+◌, ◌≤◌, Bool, true, ◌++◌, length, refl, sym, ap, ◌∙◌, arith}
use Rattle.std.specs.Prelude.{slice_get}
use Rattle.kn_event.specs.declared.event.Act.{Act}
use Rattle.kn_event.specs.declared.event.Act.TheVariants as act
use Rattle.kn_event.specs.declared.event.Event.{Event}
use Rattle.kn_trace.specs.Events.{need_of, react}
use Rattle.kn_trace.specs.Scale.{drain_order}
use Rattle.kn_trace.specs.Trace.{Trace, is_running, live, starting_pods}
use Rattle.kn_record.specs.Facts.{Facts}
use Rattle.kn_record.specs.Made.{IsMade}
use Rattle.kn_laws.specs.Facts.{PartFacts}
use Rattle.kn_agenda.specs.declared.item.Item.{Item}
use Rattle.kn_agenda.specs.declared.item.Kind.{Kind}
use Rattle.kn_agenda.specs.declared.item.Kind.TheVariants.{Arrives, Finishes, Passes, Readies, Ticks}
use Rattle.kn_agenda.specs.Workload.{Workload}
use Rattle.kn_agenda.specs.Due.{IsDue, IsDueAt, act_of, event_of, tag_of}
use Rattle.kn_agenda.specs.Runs.{Shrinks, cost_of}
use Rattle.kn_agenda.proofs.Booting.{IsNoScaling, starting-fewer, starting-most, starting-same}
use Rattle.kn_agenda.proofs.Fewer.{pass-fewer}

-- of one trace: what the laws of the crates below say of its sizes
pub record HasSizes (w : Workload) (c : Trace) : Type 0 where
  pub live : (e : Event) → IsMade w.spec c → length (live (c ++ react w.spec c e)) + 1 ≤ length (live c) + need_of c e.act
  pub finish : (r : ℕ) (ok : Bool) → is_running c r ≡ true → need_of c (act.Finish r ok) ≡ 0
  pub arrive : (tag : ℕ) → need_of c (act.Arrive tag) ≡ 2
  pub tick : need_of c act.Tick ≡ 1
  pub ready : (p : ℕ) → need_of c (act.Ready p) ≡ 1
  pub standing : (d : Trace) → IsMade w.spec d → length (drain_order d) ≤ 500

plain_finish : (a : Act) (r : ℕ) → a ≡ act.Finish r true → IsNoScaling a
plain_finish a r is = (λ arrival. (let other : act.Finish r true ≡ act.Arrive arrival.0 = sym is ∙ arrival.1 in cc), λ tick. (let other : act.Finish r true ≡ act.Tick = sym is ∙ tick in cc))

pub plain_pass : (a : Act) → a ≡ act.Pass → IsNoScaling a
plain_pass a is = (λ arrival. (let other : act.Pass ≡ act.Arrive arrival.0 = sym is ∙ arrival.1 in cc), λ tick. (let other : act.Pass ≡ act.Tick = sym is ∙ tick in cc))

module _ (facts : Facts) (parts : PartFacts) where
  open facts use {proper.{made_react}}

  pub shrinks : (w : Workload) (c : Trace) (ticks : ℕ) (x : Item) → IsMade w.spec c → IsDue w c ticks x → HasSizes w c → Shrinks w c x
  shrinks w c ticks x made due sizes = by x.kind refl due
    where
      more : length (live (c ++ react w.spec c (event_of w x))) + 1 ≤ length (live c) + need_of c (event_of w x).act
      more = sizes.live (event_of w x) made

      few : length (starting_pods (c ++ react w.spec c (event_of w x))) ≤ 500
      few = starting-most facts parts (c ++ react w.spec c (event_of w x)) (sizes.standing (c ++ react w.spec c (event_of w x)) (made_react w.spec c (event_of w x) made))

      act_is : (k : Kind) → x.kind ≡ k → (event_of w x).act ≡ act_of w k x.number
      act_is k is = ap (λ (q : Kind). act_of w q x.number) is

      by : (k : Kind) → x.kind ≡ k → IsDueAt w c ticks k x.number x.time → length (live (c ++ react w.spec c (event_of w x))) + length (starting_pods (c ++ react w.spec c (event_of w x))) + 1 ≤ length (live c) + length (starting_pods c) + cost_of k
      by Finishes is due =
          let need = ap (need_of c) (act_is Finishes is) ∙ sizes.finish x.number true due.0 in
          let same = starting-same facts parts w.spec c (event_of w x) (plain_finish (event_of w x).act x.number (act_is Finishes is)) in
          omega (arith, more, need, same)
      by Readies is due =
          let need = ap (need_of c) (act_is Readies is) ∙ sizes.ready x.number in
          let less = starting-fewer facts parts w.spec c (event_of w x) x.number (act_is Readies is) due.0 in
          omega (arith, more, need, less)
      by Passes is (waits, (b, taken, sum)) =
          let plain = plain_pass (event_of w x).act (act_is Passes is) in
          let less = pass-fewer facts w.spec c (event_of w x) x.number b (parts.rows.are_by_act w.spec c (event_of w x)) plain.0 waits taken (omega (arith, sum)) in
          let same = starting-same facts parts w.spec c (event_of w x) plain in
          omega (arith, less, same)
      by Arrives is due =
          let need = ap (need_of c) (act_is Arrives is) ∙ sizes.arrive (tag_of (slice_get w.jobs x.number)) in
          omega (arith, more, need, few)
      by Ticks is due =
          let need = ap (need_of c) (act_is Ticks is) ∙ sizes.tick in
          omega (arith, more, need, few)
