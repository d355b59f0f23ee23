-- A pass's rows end its own requests alone.
use Rattle.std.proofs.Common.{◌≡◌, ◌⊎◌, inl, inr, ℕ, suc, zero, ◌+◌, ◌^◌, List, [], ◌∷◌, ◌++◌, Bool, true, false, sym, ap, ◌∙◌, subst, append_assoc}
use Rattle.std.specs.Prelude.{Option, None, Some, Result, Ok, Err, is_ok, min}
use Rattle.std.proofs.lemmas.Bool.{cases_lt}
use Rattle.std.proofs.lemmas.List.{append-nil}
use mathlib.Core.Option.{some-injective}
use Rattle.kn_event.specs.declared.event.Act.TheVariants as act
use Rattle.kn_event.specs.declared.revision.Spec.{Spec}
use Rattle.kn_sizes.specs.Told.{arrival_told}
use Rattle.kn_cell.specs.declared.past.Past.{Past}
use Rattle.kn_cell.specs.Lists.{Each}
use Rattle.kn_cell.specs.Shown.{PassView}
use Rattle.kn_io.specs.Links.{Link}
use Rattle.kn_io.specs.declared.links.LinkError.{LinkError}
use Rattle.kn_io.specs.declared.links.LinkError.TheVariants as link
use Rattle.kn_head.specs.declared.head.Head.{Head}
use Rattle.kn_head.specs.declared.head.HeadError.{HeadError}
use Rattle.kn_request.specs.declared.meant.Meant.{Meant}
use Rattle.kn_request.specs.declared.meant.Meant.TheVariants as meant
use Rattle.kn_request.specs.declared.slot.Served.{Served}
use Rattle.kn_request.specs.declared.ticks.Turn.{Turn}
use Rattle.kn_request.specs.Outside.{Said}
use Rattle.kn_request.specs.Requests.{AreCancels, AreFinishes, WasRun}
use Rattle.kn_request.specs.Served.{HasArrived, IsServed, IsCourse}
use Rattle.kn_request.specs.One.{ServesGuest, IsWay, IsIdle}
use Rattle.kn_request.specs.Terms.{Terms}
use Rattle.kn_request.specs.Ticking.{AreReady, ReadyOf, TakesTurn, TurnsFrom, Turns, Visit}
use Rattle.kn_session.specs.Lists.{HasOne}
use Rattle.kn_session.specs.Own.{IsEndOf, IsArrivalOf, NamesOwn}
use Rattle.kn_session.specs.Rounds.{IsRounds, Sides}
use Rattle.kn_session.specs.Session.{IsAsking, IsFine, IsTicking}
use Rattle.kn_session.proofs.ListFacts.{each_both, each_cons, none, one}

abbrev pub Asking : Past → Type 0
Asking x = IsAsking x.event.act

-- the pass's rows grew by a slot's rows, which end its own requests alone
pub record GrowsOwn (p q : PassView) : Type 0 where
  pub rows : List Past
  pub mine : q.mine ≡ p.mine ++ rows
  pub own : NamesOwn rows
  pub asking : Each Asking rows

has_left : (P : Past → Type 0) (xs ys : List Past) → HasOne P xs → HasOne P (xs ++ ys)
has_left P [] ys h = absurd h
has_left P (x ∷ xs) ys h = elim h [ inl a ↦ inl a | inr b ↦ inr (has_left P xs ys b) ]

has_right : (P : Past → Type 0) (xs ys : List Past) → HasOne P ys → HasOne P (xs ++ ys)
has_right P [] ys h = h
has_right P (x ∷ xs) ys h = inr (has_right P xs ys h)

-- what arrived by the pass arrived by it later too
pub has_grown : (P : Past → Type 0) (p q : PassView) → GrowsOwn p q → HasOne P p.mine → HasOne P q.mine
has_grown P p q g h = subst (HasOne P) (sym g.mine) (has_left P p.mine g.rows h)

own_both : (xs ys : List Past) → NamesOwn xs → NamesOwn ys → NamesOwn (xs ++ ys)
own_both xs ys a b = each_both (λ x. (r : ℕ) → IsEndOf r x → HasOne (IsArrivalOf r) (xs ++ ys)) xs ys
    (λ k x at r e. has_left (IsArrivalOf r) xs ys (a k x at r e)) (λ k x at r e. has_right (IsArrivalOf r) xs ys (b k x at r e))

grows_trans : (p q s : PassView) → GrowsOwn p q → GrowsOwn q s → GrowsOwn p s
grows_trans p q s a b = record {
  rows = a.rows ++ b.rows;
  mine = b.mine ∙ (ap (λ l. l ++ b.rows) a.mine ∙ append_assoc p.mine a.rows b.rows);
  own = own_both a.rows b.rows a.own b.own;
  asking = each_both Asking a.rows b.rows a.asking b.asking;
}

grows_none : (p q : PassView) → q.mine ≡ p.mine → GrowsOwn p q
grows_none p q e = record { rows = []; mine = e ∙ sym (append-nil p.mine); own = none (λ x. (r : ℕ) → IsEndOf r x → HasOne (IsArrivalOf r) []); asking = none Asking }

-- each row of the kind names the request
Names : ℕ → Past → Type 0
Names n x = (x.event.act ≡ act.Cancel n) ⊎ ((ok : Bool) × (x.event.act ≡ act.Finish n ok))

names_ask : (n : ℕ) (xs : List Past) → Each (Names n) xs → Each Asking xs
unfolding Names
names_ask n xs all k x at = elim (all k x at) [ inl c ↦ inr (inl (n, c)) | inr f ↦ inr (inr (n, f.0, f.1)) ]

names_one : (n r : ℕ) (x : Past) → Names n x → IsEndOf r x → n ≡ r
unfolding Names
names_one n r x a b = elim a [
  | inl c ↦ elim b [ inl d ↦ (let e = d.1 in cc) | inr d ↦ cc ]
  | inr c ↦ elim b [ inl d ↦ (let e = c.1 in let f = d.1 in cc) | inr d ↦ (let e = c.1 in cc) ]
]

-- an arrival, and rows that name its request
own_of : (n tag : ℕ) (a : Past) (xs : List Past) → a.event.act ≡ act.Arrive tag → arrival_told a.told ≡ Some n → Each (Names n) xs → NamesOwn (a ∷ xs)
unfolding Names
own_of n tag a xs is named all zero x at r e =
    let it : a ≡ x = some-injective a x at in
    let is' : x.event.act ≡ act.Arrive tag = subst (λ (y : Past). y.event.act ≡ act.Arrive tag) it is in
    elim e [ inl d ↦ (let f = d.1 in absurd cc) | inr d ↦ absurd cc ]
own_of n tag a xs is named all (suc k) x at r e =
    let same : n ≡ r = names_one n r x (all k x at) e in
    inl (tag, is, named ∙ ap (λ i. Some i) same)

cancels_name : (terms : Terms) (due n : ℕ) (p : PassView) (xs : List Past) → AreCancels terms due n p xs → Each (Names n) xs
unfolding Names
cancels_name terms due n p xs c = elim c [
  | inl e ↦ subst (Each (Names n)) (sym e) (none (Names n))
  | inr x ↦ subst (Each (Names n)) (sym x.2) (one (Names n) x.0.row (inl (ap (λ (y : Past). y.event.act) x.0.row_is)))
]

finishes_name : (reading : ℕ → Type 0) (n : ℕ) (ok : Bool) (p : PassView) (xs : List Past) → AreFinishes reading n ok p xs → Each (Names n) xs
unfolding Names
finishes_name reading n ok p xs c = elim c [
  | inl e ↦ subst (Each (Names n)) (sym e) (none (Names n))
  | inr x ↦ subst (Each (Names n)) (sym x.1) (one (Names n) x.0.row (inr (ok, ap (λ (y : Past). y.event.act) x.0.row_is)))
]

record Naming (n : ℕ) (p q : PassView) : Type 0 where
  rows : List Past
  mine : q.mine ≡ p.mine ++ rows
  names : Each (Names n) rows

run_names : (terms : Terms) (due : ℕ) (head : Head) (n : ℕ) (p q : PassView) (w w' : Option Link) (reply : Result (List ℕ) LinkError) → WasRun terms due head n p q w w' reply → Naming n p q
run_names terms due head n p q w w' reply c = record {
  rows = c.cancel ++ c.finish;
  mine = c.mine;
  names = each_both (Names n) c.cancel c.finish (cancels_name terms due n q c.cancel c.cancel_is) (finishes_name terms.reading n (is_ok reply) q c.finish c.finish_is);
}

course_names : (terms : Terms) (due : ℕ) (head : Head) (n : ℕ) (p q : PassView) (w w' : Option Link) (m : Meant) → IsCourse terms due head n p q w w' m → Naming n p q
course_names terms due head n p q w w' (meant.Reply t) c = run_names terms due head n p q w w' (Ok t) c
course_names terms due head n p q w w' meant.LinkFault c = run_names terms due head n p q w w' (Err link.Failed) c
course_names terms due head n p q w w' meant.Memory c = run_names terms due head n p q w w' (Err link.Memory) c
course_names terms due head n p q w w' meant.Expired c = record { rows = c.1.cancel; mine = c.1.mine; names = cancels_name terms due n q c.1.cancel c.1.cancel_is }
course_names terms due head n p q w w' meant.QueueFull c = absurd c
course_names terms due head n p q w w' meant.Overload c = absurd c
course_names terms due head n p q w w' (meant.Full f) c = absurd c

arrived_own : (terms : Terms) (timeout tag : ℕ) (head : Head) (p q : PassView) (w w' : Option Link) (m : Meant) → HasArrived terms timeout tag head p q w w' m → GrowsOwn p q
arrived_own terms timeout tag head p q w w' m h =
    let a = h.arrive in
    let is : a.row.event.act ≡ act.Arrive tag = ap (λ (y : Past). y.event.act) a.row_is in
    elim h.way [
      | inl x ↦ record {
        rows = a.row ∷ [];
        mine = ap (λ (v : PassView). v.mine) x.same ∙ h.mine;
        own = own_of h.number tag a.row [] is h.named (none (Names h.number));
        asking = one Asking a.row (inl (tag, is));
      }
      | inr x ↦
          let c = course_names terms (min a.at (2 ^ 42) + timeout) head h.number h.mid q w w' m x.course in
          record {
            rows = a.row ∷ c.rows;
            mine = c.mine ∙ (ap (λ l. l ++ c.rows) h.mine ∙ append_assoc p.mine (a.row ∷ []) c.rows);
            own = own_of h.number tag a.row c.rows is h.named c.names;
            asking = each_cons Asking a.row c.rows (inl (tag, is)) (names_ask h.number c.rows c.names);
          }
    ]

served_own : (terms : Terms) (timeout tag : ℕ) (head : Head) (p q : PassView) (w w' : Option Link) (m : Meant) → IsServed terms timeout tag head p q w w' m → GrowsOwn p q
served_own terms timeout tag head p q w w' (meant.Full f) s = grows_none p q s.0.mine
served_own terms timeout tag head p q w w' (meant.Reply t) s = arrived_own terms timeout tag head p q w w' (meant.Reply t) s
served_own terms timeout tag head p q w w' meant.LinkFault s = arrived_own terms timeout tag head p q w w' meant.LinkFault s
served_own terms timeout tag head p q w w' meant.Memory s = arrived_own terms timeout tag head p q w w' meant.Memory s
served_own terms timeout tag head p q w w' meant.Expired s = arrived_own terms timeout tag head p q w w' meant.Expired s
served_own terms timeout tag head p q w w' meant.QueueFull s = arrived_own terms timeout tag head p q w w' meant.QueueFull s
served_own terms timeout tag head p q w w' meant.Overload s = arrived_own terms timeout tag head p q w w' meant.Overload s

idle_own : (p q : PassView) (w w' : Option Link) → IsIdle p q w w' → GrowsOwn p q
idle_own p q w w' i = grows_none p q (ap (λ (v : PassView). v.mine) i.pass)

way_own : (terms : Terms) (spec : Spec) (tag : ℕ) (p q : PassView) (w w' : Option Link) (h : Result Head HeadError) (s : Served) (text : List ℕ) → IsWay terms spec tag p q w w' h s text → GrowsOwn p q
way_own terms spec tag p q w w' (Ok h) s text way = elim way [
  | inl x ↦ elim x.1 [ inl y ↦ idle_own p q w w' y.0 | inr y ↦ served_own terms spec.timeout_ms tag h p q w w' y.0 y.1 ]
  | inr x ↦ idle_own p q w w' x.1
]
way_own terms spec tag p q w w' (Err e) s text way = idle_own p q w w' way.0

one_own : (terms : Terms) (spec : Spec) (tag : ℕ) (p q : PassView) (w w' : Option Link) (a a' : Option Said) (s : Served) → ServesGuest terms spec tag p q w w' a a' s → GrowsOwn p q
one_own terms spec tag p q w w' a a' s o = elim o [ inl x ↦ idle_own p q w w' x.0 | inr x ↦ way_own terms spec tag p q w w' x.found x.meant x.text x.way ]

pub rounds_own : (Then : PassView → Type 0) (terms : ℕ → ℕ → Terms) (spec : Spec) (tag : ℕ) (ss : List Served) (p q : PassView) (a b : Sides) → IsRounds Then terms spec tag ss p q a b → GrowsOwn p q
rounds_own Then terms spec tag [] p q a b r = grows_none p q (ap (λ (v : PassView). v.mine) r.0)
rounds_own Then terms spec tag (s ∷ ss) p q a b r =
    grows_trans p r.0 q (one_own (terms a.faults r.1.faults) spec tag p r.0 a.wire r.1.wire a.said r.1.said s r.2.served) (rounds_own Then terms spec (tag + 1) ss r.0 q r.1 b r.3)

-- ---- the ticker's rows are Tick and Ready, which end nothing

abbrev pub Ticking : Past → Type 0
Ticking x = IsTicking x.event.act

of_ready : (o : Option Bool) (pod : ℕ) (full : Bool) (Q : List Past → Type 0) (rows : List Past) → ((xs : List Past) → Q xs → Each Ticking xs) → ReadyOf o pod full Q rows → Each Ticking rows
of_ready None pod full Q rows k r = k rows r
of_ready (Some false) pod full Q rows k r = k rows r
of_ready (Some true) pod full Q rows k r = elim r [
  | inl x ↦ subst (Each Ticking) (sym x.2) (each_cons Ticking x.0 x.1 (inr (pod, x.3)) (k x.1 x.4))
  | inr x ↦ k rows x.1
]

readies : (full : Bool) (vs : List Visit) (rows : List Past) → AreReady full vs rows → Each Ticking rows
readies full [] rows r = subst (Each Ticking) (sym r) (none Ticking)
readies full (v ∷ vs) rows r = of_ready v.answer v.pod full (AreReady full vs) rows (λ xs m. readies full vs xs m) r

tick_of : (now last : ℕ) (p q : PassView) (w w' : Option Link) (t : Turn) → (m : TakesTurn now last p q w w' t) → Each Ticking m.tick
tick_of now last p q w w' t m = elim (cases_lt now (last + 2000)) [
  | inl early ↦ subst (Each Ticking) (sym (m.early early).1) (none Ticking)
  | inr due ↦ elim (m.due due).1 [
    | inl x ↦ subst (Each Ticking) (sym x.1) (each_cons Ticking x.0 [] (inl x.2) (none Ticking))
    | inr x ↦ subst (Each Ticking) (sym x.1) (none Ticking)
  ]
]

-- the pass's rows grew by such rows
pub record GrowsTicking (p q : PassView) : Type 0 where
  pub rows : List Past
  pub mine : q.mine ≡ p.mine ++ rows
  pub ticking : Each Ticking rows

turns_ticking : (reading : ℕ → Type 0) (last : ℕ) (nows : List ℕ) (p q : PassView) (w w' : Option Link) (end : ℕ) → TurnsFrom reading last nows p q w w' end → GrowsTicking p q
turns_ticking reading last [] p q w w' end t = record { rows = []; mine = ap (λ (v : PassView). v.mine) t.0 ∙ sym (append-nil p.mine); ticking = none Ticking }
turns_ticking reading last (now ∷ nows) p q w w' end t =
    let m = t.4 in
    let rest = turns_ticking reading t.0.last nows t.1 q t.2 w' end t.5 in
    let rows = m.tick ++ m.rows in
    record {
      rows = rows ++ rest.rows;
      mine = rest.mine ∙ (ap (λ l. l ++ rest.rows) m.mine ∙ append_assoc p.mine rows rest.rows);
      ticking = each_both Ticking rows rest.rows (each_both Ticking m.tick m.rows (tick_of now last p t.1 w t.2 t.0 m) (readies t.0.full m.visits m.rows m.ready)) rest.ticking;
    }

pub ticker_ticking : (reading : ℕ → Type 0) (start : ℕ) (p q : PassView) (w w' : Option Link) → Turns reading start p q w w' → p.mine ≡ [] → Each Ticking q.mine
ticker_ticking reading start p q w w' t e =
    let g = turns_ticking reading start (t.1.first ∷ t.1.nows) p q w w' t.0 t.1.turns in
    subst (Each Ticking) (sym (g.mine ∙ ap (λ l. l ++ g.rows) e)) g.ticking

ticking_ends : (x : Past) (r : ℕ) → Ticking x → IsEndOf r x → ⊥
ticking_ends x r a b = elim a [
  | inl e ↦ elim b [ inl d ↦ (let f = d.1 in absurd cc) | inr d ↦ absurd cc ]
  | inr p ↦ (let e = p.1 in elim b [ inl d ↦ (let f = d.1 in absurd cc) | inr d ↦ absurd cc ])
]

pub ticking_fine : (x : Past) → Ticking x → IsFine x
ticking_fine x a r f = elim a [ inl e ↦ absurd (cc) | inr p ↦ (let e = p.1 in absurd (cc)) ]

pub ticking_own : (xs : List Past) → Each Ticking xs → NamesOwn xs
ticking_own xs all k x at r e = absurd (ticking_ends x r (all k x at) e)

pub fresh_own : (p q : PassView) → p.mine ≡ [] → GrowsOwn p q → NamesOwn q.mine
fresh_own p q e g = subst NamesOwn (sym (g.mine ∙ ap (λ l. l ++ g.rows) e)) g.own

pub fresh_asking : (p q : PassView) → p.mine ≡ [] → GrowsOwn p q → Each Asking q.mine
fresh_asking p q e g = subst (Each Asking) (sym (g.mine ∙ ap (λ l. l ++ g.rows) e)) g.asking
