-- A request that arrived by a slot ended within one of its rounds.
use Rattle.std.proofs.Common.{◌≡◌, ◌⊎◌, inl, inr, ℕ, ◌+◌, ◌^◌, List, [], ◌∷◌, ◌++◌, sym, ap, ◌∙◌, subst}
use Rattle.std.specs.Prelude.{Option, Bool, Result, Ok, Err, is_ok, min}
use Rattle.kn_event.specs.declared.event.Stand.TheVariants as stand
use Rattle.kn_event.specs.declared.revision.Spec.{Spec}
use Rattle.kn_core.specs.State.{RevisionState}
use Rattle.kn_cell.specs.declared.past.Past.{Past}
use Rattle.kn_cell.specs.Lists.{StartsWith}
use Rattle.kn_cell.specs.Shown.{Looks, PassView}
use Rattle.kn_io.specs.Links.{Link}
use Rattle.kn_io.specs.declared.links.LinkError.{LinkError}
use Rattle.kn_io.specs.declared.links.LinkError.TheVariants as link
use Rattle.kn_head.specs.declared.head.Head.{Head}
use Rattle.kn_head.specs.declared.head.HeadError.{HeadError}
use Rattle.kn_request.specs.declared.meant.Meant.{Meant}
use Rattle.kn_request.specs.declared.meant.Meant.TheVariants as meant
use Rattle.kn_request.specs.declared.slot.Served.{Served}
use Rattle.kn_request.specs.One.{IsIdle, IsWay, ServesGuest}
use Rattle.kn_request.specs.Outside.{Said}
use Rattle.kn_request.specs.Requests.{AreCancels, AreFinishes, WasRun}
use Rattle.kn_request.specs.Served.{HasArrived, IsCourse, IsServed}
use Rattle.kn_request.specs.Sight.{IsAlone, StandsAt}
use Rattle.kn_request.specs.Terms.{Terms}
use Rattle.kn_session.specs.Lists.{HasOne}
use Rattle.kn_session.specs.Own.{IsArrivalOf, Lasts}
use Rattle.kn_session.specs.Rounds.{IsRounds, Sides}
use Rattle.kn_outcomes.proofs.Lists.{has_split}

-- the request had ended in what a pass over the revision had then seen, which begins the history
pub record EndsIn (h : List Past) (b : RevisionState) (r : ℕ) : Type 0 where
  pub pass : PassView
  pub front : StartsWith h pass.seen
  pub opened : pass.opening ≡ b
  pub ended : StandsAt pass r stand.Ended

-- ---- rows that end a request are no arrivals

cancels_none : (terms : Terms) (due n r : ℕ) (p : PassView) (xs : List Past) → AreCancels terms due n p xs → HasOne (IsArrivalOf r) xs → ⊥
cancels_none terms due n r p xs c h = elim c [
  | inl e ↦ absurd (subst (HasOne (IsArrivalOf r)) e h)
  | inr x ↦ elim (subst (HasOne (IsArrivalOf r)) x.2 h) [
    | inl a ↦ (let k = ap (λ (y : Past). y.event.act) x.0.row_is in let j = a.1 in absurd (cc))
    | inr b ↦ absurd b
  ]
]

finishes_none : (reading : ℕ → Type 0) (n r : ℕ) (ok : Bool) (p : PassView) (xs : List Past) → AreFinishes reading n ok p xs → HasOne (IsArrivalOf r) xs → ⊥
finishes_none reading n r ok p xs c h = elim c [
  | inl e ↦ absurd (subst (HasOne (IsArrivalOf r)) e h)
  | inr x ↦ elim (subst (HasOne (IsArrivalOf r)) x.1 h) [
    | inl a ↦ (let k = ap (λ (y : Past). y.event.act) x.0.row_is in let j = a.1 in absurd (cc))
    | inr b ↦ absurd b
  ]
]

-- ---- one request

-- no other request arrived meanwhile, and this one has ended
record IsDone (n : ℕ) (p q : PassView) : Type 0 where
  back : (r : ℕ) → HasOne (IsArrivalOf r) q.mine → HasOne (IsArrivalOf r) p.mine
  ended : IsAlone q n → StandsAt q n stand.Ended

run_done : (terms : Terms) (due : ℕ) (head : Head) (n : ℕ) (p q : PassView) (w w' : Option Link) (reply : Result (List ℕ) LinkError) → WasRun terms due head n p q w w' reply → IsDone n p q
run_done terms due head n p q w w' reply x = record {
  back = λ r h. elim (has_split (IsArrivalOf r) p.mine (x.cancel ++ x.finish) (subst (HasOne (IsArrivalOf r)) x.mine h)) [
    | inl a ↦ a
    | inr b ↦ elim (has_split (IsArrivalOf r) x.cancel x.finish b) [
      | inl c ↦ absurd (cancels_none terms due n r q x.cancel x.cancel_is c)
      | inr f ↦ absurd (finishes_none terms.reading n r (is_ok reply) q x.finish x.finish_is f)
    ]
  ];
  ended = λ alone c st. (x.ended alone c st).ended;
}

course_done : (terms : Terms) (due : ℕ) (head : Head) (n : ℕ) (p q : PassView) (w w' : Option Link) (m : Meant) → IsCourse terms due head n p q w w' m → IsDone n p q
course_done terms due head n p q w w' (meant.Reply t) x = run_done terms due head n p q w w' (Ok t) x
course_done terms due head n p q w w' meant.LinkFault x = run_done terms due head n p q w w' (Err link.Failed) x
course_done terms due head n p q w w' meant.Memory x = run_done terms due head n p q w w' (Err link.Memory) x
course_done terms due head n p q w w' meant.Expired x = record {
  back = λ r h. elim (has_split (IsArrivalOf r) p.mine x.1.cancel (subst (HasOne (IsArrivalOf r)) x.1.mine h)) [
    | inl a ↦ a
    | inr b ↦ absurd (cancels_none terms due n r q x.1.cancel x.1.cancel_is b)
  ];
  ended = λ alone. x.1.ended;
}
course_done terms due head n p q w w' meant.QueueFull x = absurd x
course_done terms due head n p q w w' meant.Overload x = absurd x
course_done terms due head n p q w w' (meant.Full f) x = absurd x

-- a request that is among the pass's arrivals was so before, or has ended
abbrev Settles : ℕ → PassView → PassView → Type 0
Settles r p q = HasOne (IsArrivalOf r) q.mine → IsAlone q r → HasOne (IsArrivalOf r) p.mine ⊎ StandsAt q r stand.Ended

settles_none : (r : ℕ) (p q : PassView) → q.mine ≡ p.mine → Settles r p q
settles_none r p q e h alone = inl (subst (HasOne (IsArrivalOf r)) e h)

arrived_settles : (terms : Terms) (timeout tag : ℕ) (head : Head) (r : ℕ) (p q : PassView) (w w' : Option Link) (m : Meant) → HasArrived terms timeout tag head p q w w' m → Settles r p q
arrived_settles terms timeout tag head r p q w w' m x h alone = elim x.way [
  | inl y ↦ at_mid (subst (HasOne (IsArrivalOf r)) (ap (λ (v : PassView). v.mine) y.same) h) (λ _. y.ended)
  | inr y ↦
      let d = course_done terms (min x.arrive.at (2 ^ 42) + timeout) head x.number x.mid q w w' m y.course in
      at_mid (d.back r h) d.ended
]
  where
    at_mid : HasOne (IsArrivalOf r) x.mid.mine → (IsAlone q x.number → StandsAt q x.number stand.Ended) → HasOne (IsArrivalOf r) p.mine ⊎ StandsAt q r stand.Ended
    at_mid has ended = elim (has_split (IsArrivalOf r) p.mine (x.arrive.row ∷ []) (subst (HasOne (IsArrivalOf r)) x.mine has)) [
      | inl a ↦ inl a
      | inr b ↦ elim b [
        | inl a ↦
            let same : x.number ≡ r = (let i = x.named in let j = a.2 in cc) in
            inr (subst (λ i. StandsAt q i stand.Ended) same (ended (subst (IsAlone q) (sym same) alone)))
        | inr c ↦ absurd c
      ]
    ]

served_settles : (terms : Terms) (timeout tag : ℕ) (head : Head) (r : ℕ) (p q : PassView) (w w' : Option Link) (m : Meant) → IsServed terms timeout tag head p q w w' m → Settles r p q
served_settles terms timeout tag head r p q w w' (meant.Full f) s = settles_none r p q s.0.mine
served_settles terms timeout tag head r p q w w' (meant.Reply t) s = arrived_settles terms timeout tag head r p q w w' (meant.Reply t) s
served_settles terms timeout tag head r p q w w' meant.LinkFault s = arrived_settles terms timeout tag head r p q w w' meant.LinkFault s
served_settles terms timeout tag head r p q w w' meant.Memory s = arrived_settles terms timeout tag head r p q w w' meant.Memory s
served_settles terms timeout tag head r p q w w' meant.Expired s = arrived_settles terms timeout tag head r p q w w' meant.Expired s
served_settles terms timeout tag head r p q w w' meant.QueueFull s = arrived_settles terms timeout tag head r p q w w' meant.QueueFull s
served_settles terms timeout tag head r p q w w' meant.Overload s = arrived_settles terms timeout tag head r p q w w' meant.Overload s

idle_settles : (r : ℕ) (p q : PassView) (w w' : Option Link) → IsIdle p q w w' → Settles r p q
idle_settles r p q w w' i = settles_none r p q (ap (λ (v : PassView). v.mine) i.pass)

way_settles : (terms : Terms) (spec : Spec) (tag r : ℕ) (p q : PassView) (w w' : Option Link) (f : Result Head HeadError) (s : Served) (text : List ℕ) → IsWay terms spec tag p q w w' f s text → Settles r p q
way_settles terms spec tag r p q w w' (Ok head) s text way = elim way [
  | inl x ↦ elim x.1 [ inl y ↦ idle_settles r p q w w' y.0 | inr y ↦ served_settles terms spec.timeout_ms tag head r p q w w' y.0 y.1 ]
  | inr x ↦ idle_settles r p q w w' x.1
]
way_settles terms spec tag r p q w w' (Err e) s text way = idle_settles r p q w w' way.0

guest_settles : (terms : Terms) (spec : Spec) (tag r : ℕ) (p q : PassView) (w w' : Option Link) (a a' : Option Said) (s : Served) → ServesGuest terms spec tag p q w w' a a' s → Settles r p q
guest_settles terms spec tag r p q w w' a a' s o = elim o [ inl x ↦ idle_settles r p q w w' x.0 | inr x ↦ way_settles terms spec tag r p q w w' x.found x.meant x.text x.way ]

-- ---- all rounds

opening_of : (p q : PassView) → (q ≡ p) ⊎ Looks p q → q.opening ≡ p.opening
opening_of p q later = elim later [ inl e ↦ ap (λ (v : PassView). v.opening) e | inr l ↦ ap (λ (v : PassView). v.opening) l.same ]

pub rounds_end : (h : List Past) (b : RevisionState) (r : ℕ) (terms : ℕ → ℕ → Terms) (spec : Spec) (tag : ℕ) (ss : List Served) (p q : PassView) (from to : Sides)
    → p.opening ≡ b → IsRounds (Lasts h) terms spec tag ss p q from to → HasOne (IsArrivalOf r) q.mine → HasOne (IsArrivalOf r) p.mine ⊎ EndsIn h b r
rounds_end h b r terms spec tag [] p q from to opened x has = inl (subst (λ (v : PassView). HasOne (IsArrivalOf r) v.mine) x.0 has)
rounds_end h b r terms spec tag (s ∷ ss) p q from to opened x has =
    let m = x.0 in
    let here = x.2 in
    let opened' = opening_of p m here.later ∙ opened in
    elim (rounds_end h b r terms spec (tag + 1) ss m q x.1 to opened' x.3 has) [
      | inl a ↦ elim (guest_settles (terms from.faults x.1.faults) spec tag r p m from.wire x.1.wire from.said x.1.said s here.served a (here.then.alone r a)) [
        | inl early ↦ inl early
        | inr e ↦ inr (record { pass = m; front = here.then.front; opened = opened'; ended = e })
      ]
      | inr e ↦ inr e
    ]
