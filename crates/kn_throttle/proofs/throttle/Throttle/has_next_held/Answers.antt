use Rattle.std.proofs.Common.{◌≡◌, ◌∙◌, Bool, true, false, not, None, inl, inr, refl, rules, sym}
use Rattle.kn_trace.specs.Trace.{first_of}
use Rattle.kn_record.specs.Admission.{is_held_place, placed_in}
use Rattle.kn_throttle.proofs.Walking.{none_free, none_room}
use Rattle.kn_throttle.proofs.throttle.Throttle.has_next_held.Goals as goal

pub returns-in-None : goal.returns-in-None
returns-in-None c = λ d t h e.
    let first : None ≡ first_of (placed_in is_held_place c.args.self.now.admission.live) = search rules in
    c.walk_laws.ensures.assigned c.args.self.now.spec c.args.self.now.admission d t h (inl (sym first))

pub returns-then-has_free_seat : goal.returns-then-has_free_seat
returns-then-has_free_seat c = λ d t h e.
    rw (← c.self.view_is) (c.walk_laws.ensures.assigned c.self.inside.spec _ d t (rw (← c.self.view_is) at h) (inr (none_room _ _ _ _ _ _ _ _ c.self.invariant (c.is_used_up.ensures.0 (used c.is_used_up.result e)))))
  where
    used : (b : Bool) → not b ≡ false → b ≡ true
    used true e = refl
    used false e = absurd (cc)

pub returns-else-has_free_seat : goal.returns-else-has_free_seat
returns-else-has_free_seat c = λ d t h e.
    rw (← c.self.view_is) (c.walk_laws.ensures.assigned c.self.inside.spec _ d t (rw (← c.self.view_is) at h) (inr (none_free c.choice_laws.ensures.none _ _ _ _ _ _ _ _ c.self.invariant (sym c.has_free_seat.ensures ∙ c.if-has_free_seat.false))))
