-- How many pods the book has room for.
use Rattle.std.proofs.Common.{◌≡◌, ℕ, ◌+◌, ◌≤◌, Bool, true, false, not, cond, ◌&&◌, ◌⊎◌, inl, inr, List, [], ◌∷◌, ◌++◌, length, refl, ap, ◌∙◌, arith, append-nil, append_assoc, length-append}
use Rattle.std.specs.Prelude.{Option, None, Some, ◌==◌}
use Rattle.std.specs.List.{cons_option}
use Rattle.std.proofs.lemmas.Bool.{eqb-true, false_from_ne_true}
use Rattle.std.proofs.lemmas.List.Elements.{filter_map-append}
use Rattle.kn_event.specs.Revision.{AreInRange}
use Rattle.kn_event.specs.declared.entry.Entry.{Entry}
use Rattle.kn_event.specs.declared.entry.Phase.TheVariants as phase
use Rattle.kn_event.specs.declared.entry.Row.{Row}
use Rattle.kn_event.specs.declared.entry.Row.TheVariants as row
use Rattle.kn_event.specs.declared.event.Act.{Act}
use Rattle.kn_event.specs.declared.event.Act.TheVariants as act
use Rattle.kn_event.specs.declared.event.Event.{Event}
use Rattle.kn_event.specs.declared.revision.Kind.{Kind}
use Rattle.kn_event.specs.declared.revision.Kind.TheVariants as kind
use Rattle.kn_event.specs.declared.revision.Spec.{Spec}
use Rattle.kn_trace.specs.Events.{act_row, act_rows, activation, before_settling, departures, entries_of, opening, react, scaler_rows}
use Rattle.kn_trace.specs.Laws.{IsSettled}
use Rattle.kn_trace.specs.Rows.{created_by, gone_by}
use Rattle.kn_trace.specs.Scale.{is_in_phase, phase_of, where_true}
use Rattle.kn_trace.specs.Settling.{held_assignments, promotions, removals, settling}
use Rattle.kn_trace.specs.Trace.{Trace, each_row, entry, held, is_empty, live_pods, ready_pods}
use Rattle.kn_trace.specs.Report.{is_assign}
use Rattle.kn_record.specs.Facts.{Facts}
use Rattle.kn_record.specs.Made.{Holds, IsMade, IsProper}
use Rattle.kn_laws.specs.Facts.{PartFacts}
use Rattle.kn_laws.specs.Kinds.{IsActRow, is_act_row, is_departure_row, is_remove_row, is_run_row, is_scaler_row}
use Rattle.kn_book.specs.Book.{Book, book_of, pods_in}
use Rattle.kn_book.specs.State.{BookState, HasRoom, IsBookOf, state_of}
use Rattle.kn_book.proofs.Follows.{Views, live_pods-push, pods_by}
use Rattle.kn_book.proofs.Lawful.{has_live_pods}

-- ---- what the parts of an event say of pods

departure_creates : (x : Row) → is_departure_row x ≡ true → created_by x ≡ None
departure_creates (row.Create p n) h = absurd (cc)
departure_creates _ h = refl

departure_goes : (x : Row) → is_departure_row x ≡ true → gone_by x ≡ None
departure_goes (row.Remove p) h = absurd (cc)
departure_goes (row.LostPod p) h = absurd (cc)
departure_goes _ h = refl

act_creates : (x : Row) → is_act_row x ≡ true → created_by x ≡ None
act_creates (row.Create p n) h = absurd (cc)
act_creates _ h = refl

scaler_goes : (x : Row) → is_scaler_row x ≡ true → gone_by x ≡ None
scaler_goes (row.Remove p) h = absurd (cc)
scaler_goes (row.LostPod p) h = absurd (cc)
scaler_goes _ h = refl

run_creates : (x : Row) → is_run_row x ≡ true → created_by x ≡ None
run_creates (row.Create p n) h = absurd (cc)
run_creates _ h = refl

assign_creates : (x : Row) → is_assign x ≡ true → created_by x ≡ None
assign_creates (row.Create p n) h = absurd (cc)
assign_creates _ h = refl

remove_creates : (x : Row) → is_remove_row x ≡ true → created_by x ≡ None
remove_creates (row.Create p n) h = absurd (cc)
remove_creates _ h = refl

activation_creates : (t : ℕ) (c : Trace) → each_row created_by (activation t c) ≡ []
unfolding activation
activation_creates t c = by (is_in_phase phase.Activating (phase_of c) && not (is_empty (ready_pods c)))
  where
    by : (b : Bool) → each_row created_by (where_true b (entry t (row.Phase phase.Active) ∷ [])) ≡ []
    by true = refl
    by false = refl

-- the act loses a pod, or not
loses : (a : Act) → ((p : ℕ) × (a ≡ act.Lost p)) ⊎ ((p : ℕ) → a ≡ act.Lost p → ⊥)
loses (act.Lost p) = inl (p, refl)
loses _ = inr (λ p e. cc)

-- then the autoscaler adds nothing
lost_scales : (k : Kind) (s : Spec) (t : ℕ) (c : Trace) (p : ℕ) (did : Option Row) → scaler_rows k s t c (act.Lost p) did ≡ []
lost_scales kind.Kpa s t c p did = refl
lost_scales (kind.Fixed n) s t c p did = refl

-- else no pod goes by its row
own_goes : (t : ℕ) (a : Act) (o : Option Row) → IsActRow a o → ((p : ℕ) → a ≡ act.Lost p → ⊥) → each_row gone_by (entries_of t o) ≡ []
own_goes t a None h other = refl
own_goes t a (Some (row.Remove p)) h other = absurd (let no = h.0 in cc)
own_goes t a (Some (row.LostPod p)) h other = absurd (other p h.1)
own_goes t a (Some _) h other = refl

rows-append : (f : Row → Option ℕ) (xs ys : Trace) → each_row f (xs ++ ys) ≡ each_row f xs ++ each_row f ys
rows-append f xs ys = filter_map-append (λ (e : Entry). f e.row) xs ys

-- a row that lets no pod go leaves the live ones, and that which it creates
grown_by : (x : Row) (ps : List ℕ) → gone_by x ≡ None → length (pods_by x ps) ≡ length ps + length (cons_option (created_by x) [])
grown_by (row.Create p n) ps h = length-append ps (p ∷ [])
grown_by (row.Remove p) ps h = absurd (cc)
grown_by (row.LostPod p) ps h = absurd (cc)
grown_by _ ps h = omega arith

pub length-holdings : (state : BookState) (c : Trace) → IsBookOf state c → length (pods_in (book_of state.addresses c)) ≡ length (live_pods c) → length state.holdings ≤ length (live_pods c)
unfolding state_of
length-holdings state c e many = by (state.addresses == 0) (ap (λ (x : BookState). x.holdings) e)
  where
    as_many : (b : Book) → length (pods_in b) ≡ length b
    as_many [] = refl
    as_many (h ∷ b) = let rest = as_many b in omega arith

    by : (t : Bool) → state.holdings ≡ cond t [] (book_of state.addresses c) → length state.holdings ≤ length (live_pods c)
    by true k = rw k (omega arith)
    by false k = rw k (let same = as_many (book_of state.addresses c) in omega arith)

pub room_at_first : (n : ℕ) (es : Trace) → length (each_row created_by es) ≤ 20500 → HasRoom (state_of n []) es
unfolding state_of book_of
room_at_first n es few some = rw (false_from_ne_true (n == 0) (λ e. some (eqb-true n 0 e))) (omega arith)

module _ (facts : Facts) (parts : PartFacts) (views : Views) where
  open facts use {proper.{before-holds, made_kept, made_more}}
  open parts use {each.{none-rows}, rows.{act-facts, act-rows, activation-rows, assignments-rows, departures-rows, opening_none, promotions-rows, removals-rows, scaler-rows}}

  -- where no pod goes there are as many more as are created
  grown : (s : Spec) (c es : Trace) → IsMade s c → Holds (IsProper s) c es → each_row gone_by es ≡ [] → length (live_pods (c ++ es)) ≡ length (live_pods c) + length (each_row created_by es)
  grown s c [] made h none = rw (append-nil c) (omega arith)
  grown s c (e ∷ es) made h none = by (gone_by e.row) refl none (λ k. grown s (c ++ e ∷ []) es (made_more s c (e ∷ []) made (h.0, tt)) h.1 k)
    where
      by : (o : Option ℕ) → gone_by e.row ≡ o → cons_option o (each_row gone_by es) ≡ []
          → (each_row gone_by es ≡ [] → length (live_pods ((c ++ e ∷ []) ++ es)) ≡ length (live_pods (c ++ e ∷ [])) + length (each_row created_by es)) → length (live_pods (c ++ e ∷ es)) ≡ length (live_pods c) + length (each_row created_by (e ∷ es))
      by (Some p) is k later = absurd (cc)
      by None is k later =
          let rest = later k in
          let one : length (live_pods (c ++ e ∷ [])) ≡ length (live_pods c) + length (cons_option (created_by e.row) []) = ap (λ (l : List ℕ). length l) (live_pods-push facts views s c e made h.0) ∙ grown_by e.row (live_pods c) is in
          let two : length (each_row created_by (e ∷ es)) ≡ length (cons_option (created_by e.row) []) + length (each_row created_by es) = ap (λ (l : List ℕ). length l) (rows-append created_by (e ∷ []) es) ∙ length-append _ _ in
          let sum : length (live_pods ((c ++ e ∷ []) ++ es)) ≡ length (live_pods c) + length (each_row created_by (e ∷ es)) = omega arith in
          rw (append_assoc c (e ∷ []) es) at sum

  -- the settling creates no pod
  settling_creates : (s : Spec) (t : ℕ) (c : Trace) → each_row created_by (settling s t c) ≡ []
  unfolding settling held_assignments
  settling_creates s t c =
      let ran = promotions t c (live_pods c) in
      let gave = held_assignments s t (c ++ ran) in
      rw (
        rows-append created_by (ran ++ gave) (removals t ((c ++ ran) ++ gave)),
        rows-append created_by ran gave,
        none-rows created_by is_run_row run_creates ran (promotions-rows t c (live_pods c)),
        none-rows created_by is_assign assign_creates gave (assignments-rows s t (c ++ ran) (held (c ++ ran))),
        none-rows created_by is_remove_row remove_creates (removals t ((c ++ ran) ++ gave)) (removals-rows t ((c ++ ran) ++ gave)),
      )
      refl

  -- what an event creates comes before it
  react_creates : (s : Spec) (c : Trace) (e : Event) → each_row created_by (react s c e) ≡ each_row created_by (before_settling s c e)
  unfolding react
  react_creates s c e =
      rows-append created_by (before_settling s c e) (settling s e.time (c ++ before_settling s c e))
      ∙ ap (λ (l : List ℕ). each_row created_by (before_settling s c e) ++ l) (settling_creates s e.time (c ++ before_settling s c e))
      ∙ append-nil (each_row created_by (before_settling s c e))

  before_rows : (f : Row → Option ℕ) (s : Spec) (c : Trace) (e : Event) → each_row f (before_settling s c e)
      ≡ (each_row f (departures s c e) ++ (each_row f (entries_of e.time (act_row s (c ++ departures s c e) e.act))
      ++ each_row f (scaler_rows s.kind s e.time ((c ++ departures s c e) ++ entries_of e.time (act_row s (c ++ departures s c e) e.act)) e.act (act_row s (c ++ departures s c e) e.act))))
      ++ each_row f (activation e.time ((c ++ departures s c e) ++ act_rows s e.time (c ++ departures s c e) e.act))
  unfolding before_settling act_rows
  before_rows f s c e =
      let gone = departures s c e in
      let own = entries_of e.time (act_row s (c ++ gone) e.act) in
      let more = scaler_rows s.kind s e.time ((c ++ gone) ++ own) e.act (act_row s (c ++ gone) e.act) in
      rw (rows-append f (gone ++ (own ++ more)) (activation e.time ((c ++ gone) ++ (own ++ more))), rows-append f gone (own ++ more), rows-append f own more) refl

  -- no pod is created where one is lost
  lost_creates : (s : Spec) (c : Trace) (e : Event) (p : ℕ) → e.act ≡ act.Lost p → each_row created_by (before_settling s c e) ≡ []
  lost_creates s c e p is =
      let gone = departures s c e in
      let own = entries_of e.time (act_row s (c ++ gone) e.act) in
      before_rows created_by s c e
      ∙ rw (
        none-rows created_by is_departure_row departure_creates gone (departures-rows s c e),
        none-rows created_by is_act_row act_creates own (act-rows s e.time (c ++ gone) e.act),
        activation_creates e.time ((c ++ gone) ++ act_rows s e.time (c ++ gone) e.act),
        is,
        lost_scales s.kind s e.time _ p _,
      )
      refl

  -- and none goes where none is lost
  others_go : (s : Spec) (c : Trace) (e : Event) → ((p : ℕ) → e.act ≡ act.Lost p → ⊥) → each_row gone_by (before_settling s c e) ≡ []
  others_go s c e other =
      let gone = departures s c e in
      let own = entries_of e.time (act_row s (c ++ gone) e.act) in
      let more = scaler_rows s.kind s e.time ((c ++ gone) ++ own) e.act (act_row s (c ++ gone) e.act) in
      before_rows gone_by s c e
      ∙ rw (
        none-rows gone_by is_departure_row departure_goes gone (departures-rows s c e),
        own_goes e.time e.act (act_row s (c ++ gone) e.act) (act-facts s (c ++ gone) e.act) other,
        none-rows gone_by is_scaler_row scaler_goes more (scaler-rows s.kind s e.time ((c ++ gone) ++ own) e.act (act_row s (c ++ gone) e.act)),
        none-rows gone_by is_scaler_row scaler_goes _ (activation-rows e.time ((c ++ gone) ++ act_rows s e.time (c ++ gone) e.act)),
      )
      refl

  abbrev Few : Type 0
  Few = (s : Spec) (c : Trace) → AreInRange s → IsMade s c → IsSettled s c → length (live_pods c) ≤ 20500

  abbrev FewBefore : Type 0
  FewBefore = (s : Spec) (c : Trace) (e : Event) → AreInRange s → IsMade s c → IsSettled s c → length (live_pods (c ++ before_settling s c e)) ≤ 20500

  pub few_created : Few → FewBefore → (s : Spec) (c : Trace) (e : Event) → AreInRange s → IsMade s c → IsSettled s c → length (live_pods c) + length (each_row created_by (react s c e)) ≤ 20500
  few_created few few_before s c e ranges made settled = rw (react_creates s c e) (by (loses e.act))
    where
      by : ((p : ℕ) × (e.act ≡ act.Lost p)) ⊎ ((p : ℕ) → e.act ≡ act.Lost p → ⊥) → length (live_pods c) + length (each_row created_by (before_settling s c e)) ≤ 20500
      by (inl (p, is)) = rw (lost_creates s c e p is) (let most = few s c ranges made settled in omega arith)
      by (inr other) =
          let more = grown s c (before_settling s c e) made (before-holds s c e (made_kept s c made)) (others_go s c e other) in
          let most = few_before s c e ranges made settled in
          omega arith

  nobody_lives : length (live_pods []) ≡ 0
  unfolding live_pods
  nobody_lives = refl

  pub few_open : (s : Spec) (start : ℕ) → IsMade s (opening s start) → length (live_pods (opening s start)) ≤ 20500 → length (each_row created_by (opening s start)) ≤ 20500
  few_open s start made few =
      let more = grown s [] (opening s start) (record { rows = tt }) made.rows (opening_none gone_by (λ p n. refl) (λ x. refl) s start) in
      let none = nobody_lives in
      omega arith

  pub few_holdings : (s : Spec) (c : Trace) (e : Event) (b : BookState) → IsMade s c → IsBookOf b c → length (live_pods c) + length (each_row created_by (react s c e)) ≤ 20500 → length b.holdings + length (each_row created_by (react s c e)) ≤ 20500
  few_holdings s c e b made stands few =
      let most = length-holdings b c stands (ap (λ (l : List ℕ). length l) (has_live_pods facts views s b.addresses c made)) in
      omega arith
