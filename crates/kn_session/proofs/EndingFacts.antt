-- What a round that ended so came to.
use Rattle.std.proofs.Common.{◌≡◌, ◌⊎◌, ◌<◌, ◌≤◌, inl, inr, ℕ, ◌+◌, ◌-◌, ◌^◌, List, [], ◌∷◌, ◌++◌, Bool, true, false, refl, sym, ap, ◌∙◌, subst, append_assoc, length, length-append, arith}
use Rattle.std.specs.Prelude.{Option, None, Some, Result, Ok, Err, min, ◌||◌}
use Rattle.std.proofs.lemmas.List.{append-nil}
use Rattle.kn_event.specs.declared.event.Act.TheVariants as act
use Rattle.kn_event.specs.declared.revision.Spec.{Spec}
use Rattle.kn_trace.specs.Trace.{Trace}
use Rattle.kn_core.specs.State.{RevisionState, StandsFor}
use Rattle.kn_cell.specs.declared.past.Past.{Past}
use Rattle.kn_cell.specs.declared.past.Full.{Full}
use Rattle.kn_cell.specs.Lists.{Each}
use Rattle.kn_cell.specs.History.{room_for, trace_after}
use Rattle.kn_cell.specs.Shown.{PassView, Misfits}
use Rattle.kn_io.specs.Causes.{Rose}
use Rattle.kn_io.specs.Links.{Link}
use Rattle.kn_head.specs.declared.answer.Answer.{Answer}
use Rattle.kn_head.specs.declared.answer.Answer.TheVariants as answer
use Rattle.kn_head.specs.declared.head.Head.{Head}
use Rattle.kn_head.specs.declared.head.HeadError.{HeadError}
use Rattle.kn_head.specs.declared.head.HeadError.TheVariants as error
use Rattle.kn_head.specs.Answers.{answer_for}
use Rattle.kn_request.specs.declared.meant.Meant.{Meant}
use Rattle.kn_request.specs.declared.meant.Meant.TheVariants as meant
use Rattle.kn_request.specs.declared.slot.Served.{Served}
use Rattle.kn_request.specs.declared.slot.Served.TheVariants as served
use Rattle.kn_io.specs.Callers.{texts_of}
use Rattle.kn_core.specs.Gauges.{count_live}
use Rattle.kn_request.specs.Outside.{Said}
use Rattle.kn_request.specs.Requests.{AreCancels, AreFinishes}
use Rattle.kn_request.specs.Served.{HasArrived, IsServed, IsCourse}
use Rattle.kn_request.specs.One.{IsIdle, IsRefusal, IsUnread, IsWay, ServesGuest, ServesOneBy, served_by}
use Rattle.kn_request.specs.Terms.{Terms}
use Rattle.kn_session.specs.Laws.{SessionLaws}
use Rattle.kn_session.specs.Lists.{HasOne}
use Rattle.kn_session.specs.Lasting.{WasShortIn}
use Rattle.kn_session.specs.Own.{Lasts}
use Rattle.kn_session.specs.Passes.{IsNewOf, Kind, kind_of, plain_kind}
use Rattle.kn_session.specs.Rounds.{HasFaulted, HasTexts, IsFullOf, IsRounds, Sides, any_fault, any_memory, is_fault, is_memory}
use Rattle.kn_session.specs.Session.{IsFine, WasShort}
use Rattle.kn_session.proofs.Nexts.{IsNext, next_of}
use Rattle.kn_session.proofs.ListFacts.{each_both, each_cons, none, one}

-- ---- for want of room

full_meant : (m : Meant) (f : Full) → served_by m ≡ served.Full f → m ≡ meant.Full f
full_meant (meant.Full g) f e = cc
full_meant (meant.Reply t) f e = absurd (cc)
full_meant meant.QueueFull f e = absurd (cc)
full_meant meant.Overload f e = absurd (cc)
full_meant meant.Expired f e = absurd (cc)
full_meant meant.LinkFault f e = absurd (cc)
full_meant meant.Memory f e = absurd (cc)

not_refusal : (a : Answer) (s : Served) (text : List ℕ) (f : Full) → IsRefusal a s text → s ≡ served.Full f → ⊥
not_refusal a s text f r e = (let k = r.0 in cc)

not_unread : (e : HeadError) (o : Option Answer) (s : Served) (text : List ℕ) (f : Full) → IsUnread e o s text → s ≡ served.Full f → ⊥
not_unread e (Some a) s text f u is = not_refusal a s text f u is
not_unread error.ReadFault None s text f u is = (let k = u.0 in cc)
not_unread error.Malformed None s text f u is = (let k = u.0 in cc)
not_unread error.TooLong None s text f u is = (let k = u.0 in cc)
not_unread error.EndedEarly None s text f u is = (let k = u.0 in cc)
not_unread error.NoRevision None s text f u is = (let k = u.0 in cc)
not_unread error.BadLength None s text f u is = (let k = u.0 in cc)
not_unread error.BodyTooLong None s text f u is = (let k = u.0 in cc)
not_unread error.Memory None s text f u is = (let k = u.0 in cc)
not_unread error.BadCoding None s text f u is = (let k = u.0 in cc)
not_unread error.BadChunk None s text f u is = (let k = u.0 in cc)

misfits_way : (terms : Terms) (spec : Spec) (tag : ℕ) (p q : PassView) (w w' : Option Link) (h : Result Head HeadError) (s : Served) (text : List ℕ) (f : Full) → IsWay terms spec tag p q w w' h s text → s ≡ served.Full f
    → Misfits p (act.Arrive tag) f q
misfits_way terms spec tag p q w w' (Ok h) s text f way e = elim way [
  | inl x ↦ elim x.1 [
    | inl y ↦ (let k = y.1 in absurd cc)
    | inr y ↦ (subst (λ (m : Meant). IsServed terms spec.timeout_ms tag h p q w w' m) (full_meant y.0 f (sym y.2 ∙ e)) y.1).0
  ]
  | inr x ↦ absurd (not_refusal answer.NoSuchRevision s text f x.2 e)
]
misfits_way terms spec tag p q w w' (Err e) s text f way is = absurd (not_unread e (answer_for e) s text f way.1 is)

-- a round that ended as Full found no room for its arrival
pub misfits_of : (terms : Terms) (spec : Spec) (tag : ℕ) (p q : PassView) (w w' : Option Link) (a a' : Option Said) (f : Full) → ServesGuest terms spec tag p q w w' a a' (served.Full f)
    → Misfits p (act.Arrive tag) f q
misfits_of terms spec tag p q w w' a a' f o = elim o [
  | inl x ↦ (let k = x.2 in absurd cc)
  | inr m ↦ elim m.answers [
    | inl e ↦ misfits_way terms spec tag p q w w' m.found m.meant m.text f m.way (sym e)
    | inr e ↦ absurd (cc)
  ]
]

-- ---- well

-- the pass's rows grew by rows of which none is a failed finish
pub record GrowsFine (p q : PassView) : Type 0 where
  pub rows : List Past
  pub mine : q.mine ≡ p.mine ++ rows
  pub fine : Each IsFine rows

pub fine_none : (p q : PassView) → q.mine ≡ p.mine → GrowsFine p q
fine_none p q e = record { rows = []; mine = e ∙ sym (append-nil p.mine); fine = none IsFine }

fine_trans : (p q s : PassView) → GrowsFine p q → GrowsFine q s → GrowsFine p s
fine_trans p q s a b = record {
  rows = a.rows ++ b.rows;
  mine = b.mine ∙ (ap (λ l. l ++ b.rows) a.mine ∙ append_assoc p.mine a.rows b.rows);
  fine = each_both IsFine a.rows b.rows a.fine b.fine;
}

fine_cancels : (terms : Terms) (due n : ℕ) (p : PassView) (xs : List Past) → AreCancels terms due n p xs → Each IsFine xs
fine_cancels terms due n p xs c = elim c [
  | inl e ↦ subst (Each IsFine) (sym e) (none IsFine)
  | inr x ↦ subst (Each IsFine) (sym x.2) (one IsFine x.0.row (λ r e. let k = ap (λ (y : Past). y.event.act) x.0.row_is in cc))
]

fine_finishes : (reading : ℕ → Type 0) (n : ℕ) (p : PassView) (xs : List Past) → AreFinishes reading n true p xs → Each IsFine xs
fine_finishes reading n p xs c = elim c [
  | inl e ↦ subst (Each IsFine) (sym e) (none IsFine)
  | inr x ↦ subst (Each IsFine) (sym x.1) (one IsFine x.0.row (λ r e. let k = ap (λ (y : Past). y.event.act) x.0.row_is in cc))
]

arrived_fine : (terms : Terms) (timeout tag : ℕ) (head : Head) (p q : PassView) (w w' : Option Link) (m : Meant) → is_fault (served_by m) ≡ false → is_memory (served_by m) ≡ false
    → HasArrived terms timeout tag head p q w w' m → GrowsFine p q
arrived_fine terms timeout tag head p q w w' m f g h =
    let a = h.arrive in
    let row : IsFine a.row = λ r e. let k = ap (λ (y : Past). y.event.act) a.row_is in cc in
    let due = min a.at (2 ^ 42) + timeout in
    elim h.way [
      | inl x ↦ record { rows = a.row ∷ []; mine = ap (λ (v : PassView). v.mine) x.same ∙ h.mine; fine = one IsFine a.row row }
      | inr x ↦
          let more = by_meant m f g x.course in
          record {
            rows = a.row ∷ more.rows;
            mine = more.mine ∙ (ap (λ l. l ++ more.rows) h.mine ∙ append_assoc p.mine (a.row ∷ []) more.rows);
            fine = each_cons IsFine a.row more.rows row more.fine;
          }
    ]
  where
    by_meant : (m : Meant) → is_fault (served_by m) ≡ false → is_memory (served_by m) ≡ false → IsCourse terms (min h.arrive.at (2 ^ 42) + timeout) head h.number h.mid q w w' m → GrowsFine h.mid q
    by_meant (meant.Reply t) f g c = record {
      rows = c.cancel ++ c.finish;
      mine = c.mine;
      fine = each_both IsFine c.cancel c.finish (fine_cancels terms (min h.arrive.at (2 ^ 42) + timeout) h.number q c.cancel c.cancel_is) (fine_finishes terms.reading h.number q c.finish c.finish_is);
    }
    by_meant meant.Expired f g c = record { rows = c.1.cancel; mine = c.1.mine; fine = fine_cancels terms (min h.arrive.at (2 ^ 42) + timeout) h.number q c.1.cancel c.1.cancel_is }
    by_meant meant.LinkFault f g c = absurd (cc)
    by_meant meant.Memory f g c = absurd (cc)
    by_meant meant.QueueFull f g c = absurd c
    by_meant meant.Overload f g c = absurd c
    by_meant (meant.Full x) f g c = absurd c

fine_served : (terms : Terms) (timeout tag : ℕ) (head : Head) (p q : PassView) (w w' : Option Link) (m : Meant) → is_fault (served_by m) ≡ false → is_memory (served_by m) ≡ false
    → IsServed terms timeout tag head p q w w' m → GrowsFine p q
fine_served terms timeout tag head p q w w' (meant.Full x) f g s = fine_none p q s.0.mine
fine_served terms timeout tag head p q w w' (meant.Reply t) f g s = arrived_fine terms timeout tag head p q w w' (meant.Reply t) f g s
fine_served terms timeout tag head p q w w' meant.LinkFault f g s = arrived_fine terms timeout tag head p q w w' meant.LinkFault f g s
fine_served terms timeout tag head p q w w' meant.Memory f g s = arrived_fine terms timeout tag head p q w w' meant.Memory f g s
fine_served terms timeout tag head p q w w' meant.Expired f g s = arrived_fine terms timeout tag head p q w w' meant.Expired f g s
fine_served terms timeout tag head p q w w' meant.QueueFull f g s = arrived_fine terms timeout tag head p q w w' meant.QueueFull f g s
fine_served terms timeout tag head p q w w' meant.Overload f g s = arrived_fine terms timeout tag head p q w w' meant.Overload f g s

fine_way : (terms : Terms) (spec : Spec) (tag : ℕ) (p q : PassView) (w w' : Option Link) (h : Result Head HeadError) (s : Served) (text : List ℕ) → is_fault s ≡ false → is_memory s ≡ false
    → IsWay terms spec tag p q w w' h s text → GrowsFine p q
fine_way terms spec tag p q w w' (Ok h) s text f g way = elim way [
  | inl x ↦ elim x.1 [
    | inl y ↦ fine_none p q (ap (λ (v : PassView). v.mine) y.0.pass)
    | inr y ↦ fine_served terms spec.timeout_ms tag h p q w w' y.0 (ap is_fault (sym y.2) ∙ f) (ap is_memory (sym y.2) ∙ g) y.1
  ]
  | inr x ↦ fine_none p q (ap (λ (v : PassView). v.mine) x.1.pass)
]
fine_way terms spec tag p q w w' (Err e) s text f g way = fine_none p q (ap (λ (v : PassView). v.mine) way.0.pass)

fine_one : (terms : Terms) (spec : Spec) (tag : ℕ) (p q : PassView) (w w' : Option Link) (a a' : Option Said) (s : Served) → is_fault s ≡ false → is_memory s ≡ false
    → ServesGuest terms spec tag p q w w' a a' s → GrowsFine p q
fine_one terms spec tag p q w w' a a' s f g o = elim o [
  | inl x ↦ fine_none p q (ap (λ (v : PassView). v.mine) x.0.pass)
  | inr m ↦ elim m.answers [
    | inl e ↦ fine_way terms spec tag p q w w' m.found m.meant m.text (ap is_fault (sym e) ∙ f) (ap is_memory (sym e) ∙ g) m.way
    | inr e ↦ (let k : is_fault s ≡ true = ap is_fault e in absurd (let j = f in cc))
  ]
]

pub either_false : (i j : Bool) → (i || j) ≡ false → (i ≡ false) × (j ≡ false)
either_false false j e = (refl, e)
either_false true j e = absurd (cc)

-- rounds of which none ended in a fault or in want of memory made no failed finish
pub rounds_fine : (Then : PassView → Type 0) (terms : ℕ → ℕ → Terms) (spec : Spec) (tag : ℕ) (ss : List Served) (p q : PassView) (a b : Sides) → any_fault ss ≡ false → any_memory ss ≡ false
    → IsRounds Then terms spec tag ss p q a b → GrowsFine p q
rounds_fine Then terms spec tag [] p q a b f g r = fine_none p q (ap (λ (v : PassView). v.mine) r.0)
rounds_fine Then terms spec tag (s ∷ ss) p q a b f g r =
    let f' = either_false (is_fault s) (any_fault ss) f in
    let g' = either_false (is_memory s) (any_memory ss) g in
    fine_trans p r.0 q (fine_one (terms a.faults r.1.faults) spec tag p r.0 a.wire r.1.wire a.said r.1.said s f'.0 g'.0 r.2.served) (rounds_fine Then terms spec (tag + 1) ss r.0 q r.1 b f'.1 g'.1 r.3)

-- ---- texts

pub told_trans : (n m : ℕ) (a b c : Option Said) → HasTexts n a b → HasTexts m b c → HasTexts (n + m) a c
told_trans n m a b c x y s is =
    let u = x s is in
    let v = y u.0 u.1 in
    (v.0, v.1, (u.2.0 ++ v.2.0, length-append u.2.0 v.2.0 ∙ (let i = u.2.1 in let j = v.2.1 in omega arith), v.2.2 ∙ (ap (λ l. l ++ v.2.0) u.2.2 ∙ append_assoc (texts_of s.kept s.text) u.2.0 v.2.0)))

pub texts_one : (Idle : Type 0) (Way : Result Head HeadError → Served → List ℕ → Type 0) (a a' : Option Said) (s : Served) → is_fault s ≡ false → ServesOneBy Idle Way a a' s → HasTexts 1 a a'
texts_one Idle Way a a' s f o = elim o [
  | inl x ↦ (let k : is_fault s ≡ true = ap is_fault x.2 in absurd (let j = f in cc))
  | inr m ↦ (λ t is. let z = m.talks t is in (z.0, z.1, (z.0.text ∷ [], refl, z.2.0.texts)))
]

-- where no round ended in a fault, each added one text
pub rounds_texts : (Then : PassView → Type 0) (terms : ℕ → ℕ → Terms) (spec : Spec) (tag : ℕ) (ss : List Served) (p q : PassView) (a b : Sides) → any_fault ss ≡ false
    → IsRounds Then terms spec tag ss p q a b → HasTexts (length ss) a.said b.said
rounds_texts Then terms spec tag [] p q a b f r t is = (t, ap (λ (v : Sides). v.said) r.1 ∙ is, ([], refl, sym (append-nil (texts_of t.kept t.text))))
rounds_texts Then terms spec tag (s ∷ ss) p q a b f r t is =
    let f' = either_false (is_fault s) (any_fault ss) f in
    let n : 1 + length ss ≡ length (s ∷ ss) = omega arith in
    let all : HasTexts (1 + length ss) a.said b.said =
    told_trans 1 (length ss) a.said r.1.said b.said (texts_one (IsIdle p r.0 a.wire r.1.wire) (IsWay (terms a.faults r.1.faults) spec tag p r.0 a.wire r.1.wire) a.said r.1.said s f'.0 r.2.served) (rounds_texts Then terms spec (tag + 1) ss r.0 q r.1 b f'.1 r.3) in
    (subst (λ k. HasTexts k a.said b.said) n all) t is

-- ---- for want of room, in the history

-- where rows are never taken out, the room is less by all
left_whole : (lasting : Bool) (room gone total live : ℕ) → lasting ≡ false → gone ≡ 0 → room_for lasting room gone total live ≡ room - total - live
left_whole true room gone total live e f = absurd (cc)
left_whole false room gone total live e f = omega arith

-- .. so it was short of all of it
pub short_whole : (b : RevisionState) (room : ℕ) (h : List Past) → WasShortIn (plain_kind b room) h → WasShort b room h
short_whole b room h x = record {
  front = x.front;
  early = x.early;
  short = λ c st.
      let live = count_live (trace_after b.spec c x.front) in
      let less = x.short c st in
      let left = left_whole false room x.gone (length x.front) live refl (x.plain refl) in
      omega (arith, less, left);
}

-- a pass that a kind of cell gave, at some time
pub record IsOf (k : Kind) (p : PassView) : Type 0 where
  pub kind : kind_of p ≡ k
  pub plain : k.lasting ≡ false → p.gone ≡ 0
  pub most : p.gone ≤ length p.seen

pub of_new : (k : Kind) (number : ℕ) (p : PassView) → IsNewOf k number p → IsOf k p
of_new k number p x = record { kind = x.kind; plain = λ e. x.whole; most = (let e = x.whole in omega arith) }

of_next : (k : Kind) (p q : PassView) → IsNext p q → IsOf k p → IsOf k q
of_next k p q next x = record {
  kind = next.kind ∙ x.kind;
  plain = λ e. next.whole (ap (λ (v : Kind). v.lasting) x.kind ∙ e) (x.plain e);
  most = next.most x.most;
}

pub rounds_full : SessionLaws → (h : List Past) (k : Kind) (terms : ℕ → ℕ → Terms) (spec : Spec) (tag : ℕ) (ss : List Served) (p q : PassView) (a b : Sides) → IsOf k p
    → IsRounds (Lasts h) terms spec tag ss p q a b → HasOne IsFullOf ss → WasShortIn k h
rounds_full laws h k terms spec tag [] p q a b x r has = absurd has
rounds_full laws h k terms spec tag (s ∷ ss) p q a b x r has =
    let m = r.0 in
    let y = of_next k p m (next_of p m r.2.later) x in
    elim has [
      | inl z ↦
          let o = subst (λ (v : Served). ServesGuest (terms a.faults r.1.faults) spec tag p m a.wire r.1.wire a.said r.1.said v) z.1 r.2.served in
          let mis = misfits_of (terms a.faults r.1.faults) spec tag p m a.wire r.1.wire a.said r.1.said z.0 o in
          let Short : Kind → Type 0 = λ v. (c : Trace) → StandsFor v.opening c → room_for v.lasting v.room m.gone (length m.seen) (count_live (trace_after v.opening.spec c m.seen)) < 2 in
          let same = (next_of p m r.2.later).kind in
          let short : Short (kind_of p) = λ c st.
          (let t = trace_after p.opening.spec c m.seen in
          let less = mis.short c st in
          let n = laws.need t tag in
          let e = ap (λ (v : Kind). room_for v.lasting v.room m.gone (length m.seen) (count_live t)) same in
          omega (arith, less, n, e)) in
          record { front = m.seen; early = r.2.then.front; gone = m.gone; most = y.most; plain = y.plain; short = subst Short x.kind short }
      | inr z ↦ rounds_full laws h k terms spec (tag + 1) ss m q r.1 b y r.3 z
    ]

-- ---- a fault

pub rose_until : (a b d : ℕ) → Rose a b → b ≤ d → Rose a d
rose_until a b d h k = grind (arith)

pub rose_since : (a b d : ℕ) → a ≤ b → Rose b d → Rose a d
rose_since a b d h k = grind (arith)

record FallsNot (a b : Sides) : Type 0 where
  caller : a.faults ≤ b.faults
  link : a.breaks ≤ b.breaks

rounds_fall_not : (Then : PassView → Type 0) (terms : ℕ → ℕ → Terms) (spec : Spec) (tag : ℕ) (ss : List Served) (p q : PassView) (a b : Sides) → IsRounds Then terms spec tag ss p q a b → FallsNot a b
rounds_fall_not Then terms spec tag [] p q a b r =
    let e = ap (λ (v : Sides). v.faults) r.1 in
    let f = ap (λ (v : Sides). v.breaks) r.1 in
    record { caller = omega (arith, e); link = omega (arith, f) }
rounds_fall_not Then terms spec tag (s ∷ ss) p q a b r =
    let here = r.2.causes in
    let rest = rounds_fall_not Then terms spec (tag + 1) ss r.0 q r.1 b r.3 in
    let caller = here.caller_never_falls in
    let caller' = rest.caller in
    let link = here.link_never_falls in
    let link' = rest.link in
    record { caller = omega (arith, caller, caller'); link = omega (arith, link, link') }

pub fault_is : (s : Served) → is_fault s ≡ true → (s ≡ served.CallerFault) ⊎ (s ≡ served.LinkFault)
fault_is served.CallerFault e = inl refl
fault_is served.LinkFault e = inr refl
fault_is served.Replied e = absurd (cc)
fault_is (served.Refused a) e = absurd (cc)
fault_is (served.Full f) e = absurd (cc)
fault_is served.Memory e = absurd (cc)

pub either_true : (i j : Bool) → (i || j) ≡ true → (i ≡ true) ⊎ (j ≡ true)
either_true true j e = inl refl
either_true false j e = inr e

-- where a round ended in a fault, a count rose
pub rounds_cause : (Then : PassView → Type 0) (terms : ℕ → ℕ → Terms) (spec : Spec) (tag : ℕ) (ss : List Served) (p q : PassView) (a b : Sides) → any_fault ss ≡ true
    → IsRounds Then terms spec tag ss p q a b → HasFaulted a b
rounds_cause Then terms spec tag [] p q a b f r = absurd (cc)
rounds_cause Then terms spec tag (s ∷ ss) p q a b f r =
    let here = r.2.causes in
    let rest = rounds_fall_not Then terms spec (tag + 1) ss r.0 q r.1 b r.3 in
    elim (either_true (is_fault s) (any_fault ss) f) [
      | inl now ↦ elim (fault_is s now) [
        | inl e ↦ inl (rose_until a.faults r.1.faults b.faults (here.caller e) rest.caller)
        | inr e ↦ inr (rose_until a.breaks r.1.breaks b.breaks (here.link e) rest.link)
      ]
      | inr later ↦ elim (rounds_cause Then terms spec (tag + 1) ss r.0 q r.1 b later r.3) [
        | inl x ↦ inl (rose_since a.faults r.1.faults b.faults here.caller_never_falls x)
        | inr x ↦ inr (rose_since a.breaks r.1.breaks b.breaks here.link_never_falls x)
      ]
    ]
