-- From the parts of a turn to the whole, and from turn to turn.
use Rattle.std.proofs.Common.{inl, inr, ℕ, ◌+◌, ◌<◌, ◌≤◌, List, [], ◌∷◌, ◌++◌, Bool, true, false, refl, sym, ap, ◌∙◌, subst, arith, append_assoc}
use Rattle.std.proofs.lemmas.List.{append-nil}
use Rattle.std.specs.Prelude.{Option, ◌||◌}
use Rattle.kn_event.specs.declared.event.Act.TheVariants as act
use Rattle.kn_cell.specs.Shown.{PassView, Looks}
use Rattle.kn_io.specs.Links.{Link}
use Rattle.kn_request.specs.declared.ticks.Turn.{Turn}
use Rattle.kn_request.specs.Laws.{RequestLaws}
use Rattle.kn_request.specs.Pods.{PodLaws}
use Rattle.kn_request.specs.Ticking.{IsAt, ProbesAll, TakesTurn, Ticks, TicksOnce, TurnsFrom, TurnsTo}
use Rattle.kn_request.proofs.Lists.{none, one}
use Rattle.kn_request.proofs.Later.{looks_after, looks_trans}
use Rattle.kn_request.proofs.TickFacts.{all_visited, at_later, each_both, either_true, full_after, full_first, left_true, ready_mono, right_true, starting_before}

pub tick_done : (now last : ℕ) (full : Bool) (p q : PassView) → last + 2000 ≤ now → Looks p q → TicksOnce now act.Tick full p q → Ticks now last p q (record { last = now; full = full })
tick_done now last false p q due l t = record {
  later = inr l;
  tick = t.0 ∷ [];
  mine = t.1;
  at = one (IsAt now q) t.0 t.3;
  due = λ e. (refl, inl (t.0, refl, t.2));
  early = λ e. absurd (omega (arith, e, due));
  over = λ e. cc;
}
tick_done now last true p q due l t = record {
  later = inr l;
  tick = [];
  mine = t.0 ∙ sym (append-nil p.mine);
  at = none (IsAt now q);
  due = λ e. (refl, inr (refl, refl));
  early = λ e. absurd (omega (arith, e, due));
  over = λ e. t.1;
}

pub tick_none : (now last : ℕ) (p : PassView) → now < last + 2000 → Ticks now last p p (record { last = last; full = false })
tick_none now last p early = record {
  later = inl refl;
  tick = [];
  mine = sym (append-nil p.mine);
  at = none (IsAt now p);
  due = λ e. absurd (omega (arith, e, early));
  early = λ e. (refl, refl);
  over = λ e. cc;
}

pub turn_of : RequestLaws → PodLaws → (now last l : ℕ) (f f' : Bool) (p q s : PassView) (w w' : Option Link) → Ticks now last p q (record { last = l; full = f }) → Looks q s → ProbesAll now f' q s w w' → TakesTurn now last p s w w' (record { last = l; full = f || f' })
turn_of laws pods now last l f f' p q s w w' t m a =
    let d = a.done in
    record {
      later = looks_after p q s t.later m;
      tick = t.tick;
      rows = d.rows;
      visits = d.visits;
      mine = d.mine ∙ (ap (λ x. x ++ d.rows) t.mine ∙ append_assoc p.mine t.tick d.rows);
      due = λ e. let x = t.due e in (x.0, elim x.1 [ inl y ↦ inl y | inr y ↦ inr (left_true f f' y.0, y.1) ]);
      early = t.early;
      at = each_both (IsAt now s) t.tick d.rows (at_later now q s t.tick m t.at) d.at;
      told = d.told;
      ascend = d.ascend;
      only = λ k v at. starting_before p q s v.pod v.address t.later (d.only k v at);
      ready = ready_mono f' (f || f') d.visits d.rows (right_true f f') d.ready;
      over = λ e. elim (either_true f f' e) [ inl x ↦ full_after p q s m (t.over x) | inr x ↦ full_first p q s t.later (d.over x) ];
      starting = λ c st j n both not. all_visited laws pods a.to j n p q s d.visits t.later m.longer c st (λ u v low x. d.starting u v j n low x) a.end both not;
    }

turns_snoc : (reading : ℕ → Type 0) (last end now : ℕ) (nows : List ℕ) (turn : Turn) (p q s : PassView) (w w' w'' : Option Link) → TurnsFrom reading last nows p q w w' end → reading now → TakesTurn now end q s w' w'' turn
    → TurnsFrom reading last (nows ++ now ∷ []) p s w w'' turn.last
turns_snoc reading last end now [] turn p q s w w' w'' t r it =
    let it' = subst (λ (v : PassView). TakesTurn now last v s w w'' turn) t.0 (subst (λ (v : Option Link). TakesTurn now last q s v w'' turn) t.1 (subst (λ k. TakesTurn now k q s w' w'' turn) t.2 it)) in
    (turn, s, w'', r, it', (refl, refl, refl))
turns_snoc reading last end now (x ∷ xs) turn p q s w w' w'' t r it =
    (t.0, t.1, t.2, t.3, t.4, turns_snoc reading t.0.last end now xs turn t.1 q s t.2 w' w'' t.5 r it)

pub first_turn : (reading : ℕ → Type 0) (start now : ℕ) (turn : Turn) (p q : PassView) (w w' : Option Link) → reading now → TakesTurn now start p q w w' turn → TurnsTo reading start p q w w' turn.last
first_turn reading start now turn p q w w' r t = record { first = now; nows = []; later = t.later; turns = (turn, q, w', r, t, (refl, refl, refl)) }

pub next_turn : (reading : ℕ → Type 0) (start end now : ℕ) (turn : Turn) (p q s : PassView) (w w' w'' : Option Link) → TurnsTo reading start p q w w' end → reading now → TakesTurn now end q s w' w'' turn → TurnsTo reading start p s w w'' turn.last
next_turn reading start end now turn p q s w w' w'' m r t = record {
  first = m.first;
  nows = m.nows ++ now ∷ [];
  later = looks_trans p q s m.later t.later;
  turns = turns_snoc reading start end now (m.first ∷ m.nows) turn p q s w w' w'' m.turns r t;
}
