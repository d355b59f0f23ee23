-- What a pass that has seen more still knows.
use Rattle.std.proofs.Common.{◌≡◌, ◌≢◌, ◌⊎◌, inl, inr, ℕ, List, [], ◌∷◌, ◌++◌, Bool, true, false, refl, sym, ap, ◌∙◌, subst, arith}
use Rattle.std.specs.Prelude.{◌==◌, ⊤}
use Rattle.std.proofs.lemmas.List.{append-nil, append_cancel_left}
use Rattle.std.proofs.lemmas.List.Elements.{filter-append}
use mathlib.Core.Option.{some}
use lib.ListN.{get_elem?}
use Rattle.kn_event.specs.declared.event.Act.{Act}
use Rattle.kn_event.specs.declared.event.Act.TheVariants as act
use Rattle.kn_event.specs.declared.event.Stand.TheVariants as stand
use Rattle.kn_event.specs.declared.event.Told.{Told}
use Rattle.kn_event.specs.declared.revision.Spec.{Spec}
use Rattle.kn_trace.specs.Events.{react}
use Rattle.kn_trace.specs.Outcome.{outcome_of}
use Rattle.kn_trace.specs.Trace.{Trace, stand_of}
use Rattle.kn_sizes.specs.Course.{runs_by, waits_by}
use Rattle.kn_core.specs.State.{RevisionState, StandsFor}
use Rattle.kn_cell.specs.declared.past.Past.{Past}
use Rattle.kn_cell.specs.declared.past.Full.{Full}
use Rattle.kn_cell.specs.declared.course.Course.TheVariants as course
use Rattle.kn_cell.specs.Lists.{Each}
use Rattle.kn_cell.specs.History.{IsInBounds, IsLegal, MayCome, clock_after, past, rows_by, trace_after}
use Rattle.kn_cell.specs.Desk.{event_by_clock}
use Rattle.kn_cell.specs.Shown.{PassView, Looks, RecordsLast, Misfits, IsLater}
use Rattle.kn_request.specs.Laws.{Made, RequestLaws, Spares, is_left}
use Rattle.kn_request.specs.Sight.{HasCourse, IsAlone, IsKnown, IsLeft, IsOwn, IsRunning, StandsAt, sight}
use Rattle.kn_request.specs.Requests.{Cancels, Recorded}
use Rattle.kn_request.specs.Terms.{MayCancel, Terms, unwatched}
use Rattle.kn_request.specs.Served.{IsWaitingNoMore}
use Rattle.kn_request.proofs.Lists.{at_left, by_whom, each_right, each_tail, none, one, starts_trans, trace_after-append}

-- ---- traces

pub made_after : RequestLaws → (s : Spec) (h : List Past) (c : Trace) → Made s c → Made s (trace_after s c h)
made_after laws s [] c made = made
made_after laws s (x ∷ xs) c made = made_after laws s xs (c ++ react s c x.event) (laws.keeps s c x.event made)

-- what each row of a kind keeps, rows of that kind keep
pub along : RequestLaws → (s : Spec) (P : Trace → Type 0) (Q : Past → Type 0) → ((c : Trace) (x : Past) → Made s c → Q x → P c → P (c ++ react s c x.event))
    → (more : List Past) → Each Q more → (c : Trace) → Made s c → P c → P (trace_after s c more)
along laws s P Q step [] all c made p = p
along laws s P Q step (x ∷ xs) all c made p =
    along laws s P Q step xs (each_tail Q x xs all) (c ++ react s c x.event) (laws.keeps s c x.event made) (step c x made (all 0 x refl) p)

-- ---- passes

pub opening_is : (p q : PassView) → Looks p q → q.opening ≡ p.opening
opening_is p q l = ap (λ (v : PassView). v.opening) l.same

pub book_is : (p q : PassView) → Looks p q → q.book ≡ p.book
book_is p q l = ap (λ (v : PassView). v.book) l.same

pub number_is : (p q : PassView) → Looks p q → q.number ≡ p.number
number_is p q l = ap (λ (v : PassView). v.number) l.same

pub cell_is : (p q : PassView) → Looks p q → q.cell ≡ p.cell
cell_is p q l = ap (λ (v : PassView). v.cell) l.same

pub lasting_is : (p q : PassView) → Looks p q → q.lasting ≡ p.lasting
lasting_is p q l = ap (λ (v : PassView). v.lasting) l.same

pub scribe_is : (p q : PassView) → Looks p q → q.scribe ≡ p.scribe
scribe_is p q l = ap (λ (v : PassView). v.scribe) l.same

pub own_is : (p q : PassView) → Looks p q → IsOwn q
own_is p q l = l.own ∙ ap (λ n. rows_by n q.seen) (sym (number_is p q l))

pub stands_is : (p q : PassView) → Looks p q → (c : Trace) → StandsFor q.opening c → StandsFor p.opening c
stands_is p q l c s = subst (λ (b : RevisionState). StandsFor b c) (opening_is p q l) s

-- what is seen, by what was seen
pub sight_is : (p q : PassView) → Looks p q → (c : Trace) → sight q c ≡ trace_after p.opening.spec c q.seen
sight_is p q l c = ap (λ (b : RevisionState). trace_after b.spec c q.seen) (opening_is p q l)

pub sight_more : (p q : PassView) (l : Looks p q) (c : Trace) → sight q c ≡ trace_after p.opening.spec (sight p c) l.longer.0
sight_more p q l c = sight_is p q l c ∙ (ap (trace_after p.opening.spec c) l.longer.1 ∙ trace_after-append p.opening.spec c p.seen l.longer.0)

pub made_seen : RequestLaws → (p : PassView) (c : Trace) → StandsFor p.opening c → Made p.opening.spec (sight p c)
made_seen laws p c s = made_after laws p.opening.spec p.seen c (laws.made p.opening c s)

pub carried : RequestLaws → (P : Trace → Type 0) (Q : Past → Type 0) → ((s : Spec) (c : Trace) (x : Past) → Made s c → Q x → P c → P (c ++ react s c x.event))
    → (p q : PassView) (l : Looks p q) → Each Q l.longer.0 → ((c : Trace) → StandsFor p.opening c → P (sight p c)) → (c : Trace) → StandsFor q.opening c → P (sight q c)
carried laws P Q step p q l all old c s =
    let s' = stands_is p q l c s in
    subst P (sym (sight_more p q l c)) (along laws p.opening.spec P Q (step p.opening.spec) l.longer.0 all (sight p c) (made_seen laws p c s') (old c s'))

abbrev any : Past → Type 0
any x = ⊤

every : (xs : List Past) → Each any xs
every xs k x at = tt

pub known_later : RequestLaws → (r : ℕ) (p q : PassView) → Looks p q → IsKnown p r → IsKnown q r
known_later laws r p q l old = carried laws (λ c. stand_of c r ≢ stand.Unknown) any (λ s c x m u k. laws.known s c x.event r m k) p q l (every l.longer.0) old

pub waits_later : RequestLaws → (r : ℕ) (p q : PassView) → Looks p q → IsKnown p r → IsWaitingNoMore p r → IsWaitingNoMore q r
waits_later laws r p q l known old c s =
    (carried laws (λ c'. (stand_of c' r ≢ stand.Unknown) × (waits_by (stand_of c' r) ≡ false)) any
    (λ s' c' x m u k. (laws.known s' c' x.event r m k.0, laws.waits s' c' x.event r m k.0 k.1)) p q l (every l.longer.0) (λ c' s'. (known c' s', old c' s')) c s).1

-- the rows that are new, by whom they are
pub own_rows : (p q : PassView) (extra : List Past) → (l : Looks p q) → IsOwn p → q.mine ≡ p.mine ++ extra → rows_by p.number l.longer.0 ≡ extra
own_rows p q extra l own mine =
    let a : rows_by p.number q.seen ≡ rows_by p.number p.seen ++ rows_by p.number l.longer.0 =
    ap (rows_by p.number) l.longer.1 ∙ filter-append (λ (x : Past). x.pass == p.number) p.seen l.longer.0 in
    let b : rows_by p.number p.seen ++ rows_by p.number l.longer.0 ≡ rows_by p.number p.seen ++ extra =
    sym a ∙ (sym l.own ∙ (mine ∙ ap (λ m. m ++ extra) own)) in
    append_cancel_left (rows_by p.number p.seen) (rows_by p.number l.longer.0) extra b

abbrev pub SparesIt : ℕ → Past → Type 0
SparesIt r x = Spares r x.event.act

-- a row that doesn't finish the request spares it, since no row loses a pod
pub spares_of : (r : ℕ) (x : Past) → IsInBounds x.event → ((ok : Bool) → x.event.act ≢ act.Finish r ok) → SparesIt r x
spares_of r x bounds runs = record { runs = runs; pods = λ p e. subst MayCome e bounds.act }

-- between two calls nobody ended the request: no other pass did, and the pass itself didn't
pub nobody_ended : (r : ℕ) (p q : PassView) (extra : List Past) → (l : Looks p q) → IsOwn p → q.mine ≡ p.mine ++ extra → IsAlone q r → Each (SparesIt r) extra → Each (SparesIt r) l.longer.0
nobody_ended r p q extra l own mine alone fine =
    let n = number_is p q l in
    let P : Past → Type 0 = λ x. x.pass ≢ p.number → SparesIt r x in
    let here : Each P q.seen = (λ k x at ne. spares_of r x (l.bounds k x at) (alone k x at (λ e. ne (e ∙ n))).0) in
    let there = each_right P p.seen l.longer.0 (subst (Each P) l.longer.1 here) in
    by_whom (SparesIt r) p.number l.longer.0 there (subst (Each (SparesIt r)) (sym (own_rows p q extra l own mine)) fine)

pub left_later : RequestLaws → (r : ℕ) (p q : PassView) (extra : List Past) → Looks p q → IsOwn p → q.mine ≡ p.mine ++ extra → Each (SparesIt r) extra → IsLeft p r → IsAlone q r → IsLeft q r
left_later laws r p q extra l own mine fine old alone =
    carried laws (λ c. is_left (stand_of c r) (outcome_of c r) ≡ true) (SparesIt r) (λ s c x m no u. laws.goes_on s c x.event r m no u) p q l (nobody_ended r p q extra l own mine alone fine) old

pub runs_later : RequestLaws → (r : ℕ) (p q : PassView) (extra : List Past) → Looks p q → IsOwn p → q.mine ≡ p.mine ++ extra → Each (SparesIt r) extra → IsRunning p r → IsAlone q r → IsRunning q r
runs_later laws r p q extra l own mine fine old alone =
    carried laws (λ c. runs_by (stand_of c r) ≡ true) (SparesIt r) (λ s c x m no u. laws.runs s c x.event r m no u) p q l (nobody_ended r p q extra l own mine alone fine) old

-- who was alone later was alone before
pub alone_before : (r : ℕ) (p q : PassView) → Looks p q → IsAlone q r → IsAlone p r
alone_before r p q l alone k x at ne =
    alone k x (subst (λ h. get_elem? h k ≡ some x) (sym l.longer.1) (at_left p.seen l.longer.0 k x at)) (λ e. ne (e ∙ number_is p q l))

pub looks_trans : (a b c : PassView) → Looks a b → Looks b c → Looks a c
looks_trans a b c l m = record {
  same = m.same ∙ ap (λ (v : PassView). record v { seen = c.seen; mine = c.mine; missed = c.missed; gone = c.gone }) l.same;
  missed = let x = l.missed in let y = m.missed in omega arith;
  alone = λ e.
      let f = ap (λ (v : PassView). v.free) l.same in let g = ap (λ (v : PassView). v.back) l.same in let h = ap (λ (v : PassView). v.passes) l.same in
      m.alone (omega (arith, e, f, g, h)) ∙ l.alone e;
  longer = starts_trans a.seen b.seen c.seen l.longer m.longer;
  others = λ k o at. starts_trans o.seen b.seen c.seen (l.others k o at) m.longer;
  legal = subst (λ (s : RevisionState). IsLegal s c.seen) (opening_is a b l) m.legal;
  bounds = m.bounds;
  own = m.own ∙ ap (λ n. rows_by n c.seen) (number_is a b l);
  some = l.some;
  gone = let x = l.gone in let y = m.gone in omega (arith, x, y);
  most = m.most;
  plain = λ e. m.plain (lasting_is a b l ∙ e);
  still = λ e. let x = l.still e in let y = m.still (scribe_is a b l ∙ e) in omega (arith, x, y);
}

-- ---- rows

abbrev pub recorded_of : (reading : ℕ → Type 0) (p q : PassView) (a : Act) (time : ℕ) (told : Told) → Looks p q → RecordsLast p a time told q → reading time → Recorded reading q a
recorded_of reading p q a time told l x is = record {
  row = x.row;
  front = x.front;
  at = time;
  is_reading = is;
  row_is = rw (number_is p q l, opening_is p q l) (x.row_is ∙ ap (λ t. past p.number (event_by_clock (clock_after p.opening.clock x.front) time a) t) (sym (ap (λ (y : Past). y.told) x.row_is)));
  place = ([], x.seen ∙ sym (append-nil (x.front ++ x.row ∷ [])));
}

abbrev pub recorded_later : (reading : ℕ → Type 0) (p q : PassView) (a : Act) → Looks p q → Recorded reading p a → Recorded reading q a
recorded_later reading p q a l x = record {
  row = x.row;
  front = x.front;
  at = x.at;
  is_reading = x.is_reading;
  row_is = rw (number_is p q l, opening_is p q l) x.row_is;
  place = starts_trans (x.front ++ x.row ∷ []) p.seen q.seen x.place l.longer;
}

-- the trace after a row that was added last
pub added_last : (p q : PassView) (a : Act) (time : ℕ) (told : Told) (l : Looks p q) (x : RecordsLast p a time told q) (c : Trace)
    → sight q c ≡ trace_after p.opening.spec c x.front ++ react p.opening.spec (trace_after p.opening.spec c x.front) x.row.event
added_last p q a time told l x c = sight_is p q l c ∙ (ap (trace_after p.opening.spec c) x.seen ∙ trace_after-append p.opening.spec c x.front (x.row ∷ []))

-- ---- a wait

pub looks_after : (p q s : PassView) → (q ≡ p) ⊎ Looks p q → Looks q s → Looks p s
looks_after p q s so l = elim so [ inl e ↦ subst (λ (v : PassView). Looks v s) e l | inr m ↦ looks_trans p q s m l ]

pub looks_from : (p q s : PassView) → Looks p q → (s ≡ q) ⊎ Looks q s → Looks p s
looks_from p q s l so = elim so [ inl e ↦ subst (λ (v : PassView). Looks p v) (sym e) l | inr m ↦ looks_trans p q s l m ]

pub known_after : RequestLaws → (r : ℕ) (p q : PassView) → (q ≡ p) ⊎ Looks p q → IsKnown p r → IsKnown q r
known_after laws r p q so known = elim so [ inl e ↦ subst (λ (v : PassView). IsKnown v r) (sym e) known | inr m ↦ known_later laws r p q m known ]

pub cell_after : (p q : PassView) → (q ≡ p) ⊎ Looks p q → q.cell ≡ p.cell
cell_after p q so = elim so [ inl e ↦ ap (λ (v : PassView). v.cell) e | inr l ↦ cell_is p q l ]

-- a cancel at a reading at which there may be one
pub cancels_at : (terms : Terms) (due r now : ℕ) (p q : PassView) → MayCancel terms due now → terms.reading now → Cancels (unwatched (λ t. t ≡ now)) now r p q → Cancels terms due r p q
cancels_at terms due r now p q may is c = elim c [
  | inl e ↦ inl e
  | inr x ↦
      let y = x.0 in
      inr (record { row = y.row; front = y.front; at = y.at; is_reading = subst terms.reading (sym y.is_reading) is; row_is = y.row_is; place = y.place }, subst (MayCancel terms due) (sym y.is_reading) may, x.2)
]

pub cancels_later : (terms : Terms) (due r : ℕ) (p p' q q' : PassView) → p'.mine ≡ p.mine → Cancels terms due r p' q → Looks q q' → q'.mine ≡ q.mine → Cancels terms due r p q'
cancels_later terms due r p p' q q' first c l last = elim c [
  | inl e ↦ inl (last ∙ (e ∙ first))
  | inr x ↦ inr (recorded_later terms.reading q q' (act.Cancel r) l x.0, x.1, last ∙ (x.2 ∙ ap (λ m. m ++ x.0.row ∷ []) first))
]

cancel_spares : (r : ℕ) (a : Act) → a ≡ act.Cancel r → Spares r a
cancel_spares r a e = record { runs = λ ok f. cancel_no_finish (sym e ∙ f); pods = λ p f. cancel_no_loss (sym e ∙ f) }
  where
    cancel_no_finish : {ok : Bool} → act.Cancel r ≡ act.Finish r ok → ⊥
    cancel_no_finish f = absurd (cc)

    cancel_no_loss : {p : ℕ} → act.Cancel r ≡ act.Lost p → ⊥
    cancel_no_loss f = absurd (cc)

pub left_over : RequestLaws → (terms : Terms) (due r : ℕ) (p q : PassView) → Looks p q → IsOwn p → Cancels terms due r p q → IsLeft p r → IsAlone q r → IsLeft q r
left_over laws terms due r p q l own c old alone = elim c [
  | inl e ↦ left_later laws r p q [] l own (e ∙ sym (append-nil p.mine)) (none (SparesIt r)) old alone
  | inr x ↦ left_later laws r p q (x.0.row ∷ []) l own x.2 (one (SparesIt r) x.0.row (cancel_spares r x.0.row.event.act (ap (λ (y : Past). y.event.act) x.0.row_is))) old alone
]

pub left_after : RequestLaws → (r : ℕ) (p q : PassView) → (q ≡ p) ⊎ Looks p q → IsOwn p → q.mine ≡ p.mine → IsLeft p r → IsAlone q r → IsLeft q r
left_after laws r p q so own same old alone = elim so [
  | inl e ↦ subst (λ (v : PassView). IsLeft v r) (sym e) old
  | inr l ↦ left_later laws r p q [] l own (same ∙ sym (append-nil p.mine)) (none (SparesIt r)) old alone
]

-- after a cancel the request waits no more: it was recorded, or there was no need of room for it
pub ok_cancelled : RequestLaws → (r time : ℕ) (told : Told) (p q : PassView) → Looks p q → RecordsLast p (act.Cancel r) time told q → IsWaitingNoMore q r
ok_cancelled laws r time told p q l x c s =
    let f = trace_after p.opening.spec c x.front in
    let made = made_after laws p.opening.spec x.front c (laws.made p.opening c (stands_is p q l c s)) in
    let a : x.row.event.act ≡ act.Cancel r = ap (λ (y : Past). y.event.act) x.row_is in
    subst (λ t. waits_by (stand_of t r) ≡ false) (sym (added_last p q (act.Cancel r) time told l x c)) (laws.cancelled p.opening.spec f x.row.event r made a)

pub full_cancelled : RequestLaws → (r : ℕ) (full : Full) (p q : PassView) → Looks p q → Misfits p (act.Cancel r) full q → IsWaitingNoMore q r
full_cancelled laws r full p q l x c s = by_test (waits_by (stand_of (sight q c) r)) refl
  where
    by_test : (b : Bool) → waits_by (stand_of (sight q c) r) ≡ b → b ≡ false
    by_test false is = refl
    by_test true is =
        let t = trace_after p.opening.spec c q.seen in
        let s' = stands_is p q l c s in
        let waits : waits_by (stand_of t r) ≡ true = ap (λ d. waits_by (stand_of d r)) (sym (sight_is p q l c)) ∙ is in
        let n = laws.cancel_need p.opening.spec t r (made_after laws p.opening.spec q.seen c (laws.made p.opening c s')) waits in
        let m = x.short c s' in
        absurd (omega (arith, n, m))

-- what waits no more, and was found waiting
pub waits_no_more : (r : ℕ) (q : PassView) → IsWaitingNoMore q r → HasCourse q r course.Waits → StandsAt q r stand.Ended
waits_no_more r q left waits c s = absurd (true_false (sym (waits c s) ∙ left c s))
  where
    true_false : true ≡ false → ⊥
    true_false e = absurd (cc)

-- what came, and is over, has ended
pub is_over : (r : ℕ) (q : PassView) → IsKnown q r → HasCourse q r course.Over → StandsAt q r stand.Ended
is_over r q known over c s = elim (over c s) [ inl e ↦ e | inr un ↦ absurd (known c s un) ]

-- the same pass, which may have seen and done more
pub later_of : (p q : PassView) → (q ≡ p) ⊎ Looks p q → IsLater p q
later_of p q so = elim so [ inl e ↦ e ∙ ap (λ (v : PassView). record p { seen = v.seen; mine = v.mine; missed = v.missed; gone = v.gone }) (sym e) | inr l ↦ l.same ]
