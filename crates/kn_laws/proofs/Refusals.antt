-- Refusals by the answer that an event is told.
use Rattle.std.proofs.Common.{◌≡◌, ℕ, Bool, true, false, List, [], ◌∷◌, ◌++◌, refl, sym, ap, subst, ◌∙◌, append-nil, append_assoc}
use Rattle.std.specs.Prelude.{Option, None, Some, ⊤, option_map}
use Rattle.std.specs.List.{filter_map}
use Rattle.std.proofs.lemmas.List.Elements.{filter_map-append}
use Rattle.kn_event.specs.declared.entry.Entry.{Entry}
use Rattle.kn_event.specs.declared.entry.Row.{Row}
use Rattle.kn_event.specs.declared.entry.Row.TheVariants as row
use Rattle.kn_event.specs.declared.event.Act.{Act}
use Rattle.kn_event.specs.declared.event.Act.TheVariants as act
use Rattle.kn_event.specs.declared.event.Event.{Event}
use Rattle.kn_event.specs.declared.event.Stand.{Stand}
use Rattle.kn_event.specs.declared.event.Stand.TheVariants as stand
use Rattle.kn_event.specs.declared.revision.Spec.{Spec}
use Rattle.kn_event.specs.Lists.{contains}
use Rattle.kn_trace.specs.Rows.{decision_by, mode_by, phase_by}
use Rattle.kn_trace.specs.Trace.{Trace, entry, first_of, live_pods, stand_of}
use Rattle.kn_trace.specs.Scale.{decided_by, wanted}
use Rattle.kn_trace.specs.Events.{act_row, act_rows, departures, entries_of, expiries, losses, losses_at, react, row_of, scaler_rows, told_of, told_row, told_stand, trace_of}
use Rattle.kn_trace.specs.Laws.{IsSettled, is_refusal}
use Rattle.kn_trace.specs.Report.{is_expire, is_loss}
use Rattle.kn_record.specs.Admission.{pods}
use Rattle.kn_record.specs.Made.{IsMade}
use Rattle.kn_record.specs.Rows.{SaysNoPod}
use Rattle.kn_record.specs.Facts.{Facts}
use Rattle.kn_laws.specs.Refusals.{AddsRefusal, KeepsScale, RefusesByAnswer, is_told_refusal}
use Rattle.kn_laws.specs.Kinds.{Each, is_scaler_row}
use Rattle.kn_laws.proofs.Rows.{departures-same, expiries-rows, live_pods-each, loss_pods, losses-rows, scaler-rows}
use Rattle.kn_laws.proofs.Inert.{no_loss, refusals_inert}
use Rattle.kn_laws.proofs.Settles.{settled_trace}

-- ---- what is told

stand-told : (r : ℕ) (x : Stand) → is_told_refusal (told_stand r x) ≡ false
stand-told r stand.Unknown = refl
stand-told r stand.Held = refl
stand-told r (stand.Queued p) = refl
stand-told r (stand.Running p) = refl
stand-told r stand.Ended = refl

-- a refusal is told exactly of a row that is one
told-kind : (after : Trace) (x : Row) → is_told_refusal (told_row after (Some x)) ≡ is_refusal x
told-kind after (row.Admit r tag) = stand-told r (stand_of after r)
told-kind after (row.Direct r p) = stand-told r (stand_of after r)
told-kind after _ = refl

-- the autoscaler's rows tell none
scaler-told : (after es : Trace) → Each is_scaler_row es → is_told_refusal (told_row after (row_of (first_of es))) ≡ false
scaler-told after [] h = refl
scaler-told after (e ∷ es) h = by e.row h.0
  where
    by : (x : Row) → is_scaler_row x ≡ true → is_told_refusal (told_row after (Some x)) ≡ false
    by (row.Decided d) k = refl
    by row.NoData k = refl
    by (row.Phase x) k = refl
    by (row.Mode m) k = refl
    by (row.Create p n) k = refl
    by (row.Drain p) k = refl
    by _ k = absurd (cc)

-- the row of the act says whether a refusal is told
abbrev refuses : Option Row → Bool
refuses None = false
refuses (Some x) = is_refusal x

told-refuses : (s : Spec) (c : Trace) (e : Event) → is_told_refusal (told_of s c e) ≡ refuses (act_row s (c ++ departures s c e) e.act)
unfolding told_of act_rows
told-refuses s c e = by (act_row s (c ++ departures s c e) e.act) (λ o. scaler-rows s.kind s e.time ((c ++ departures s c e) ++ entries_of e.time o) e.act o)
  where
    by : (o : Option Row) → ((o : Option Row) → Each is_scaler_row (scaler_rows s.kind s e.time ((c ++ departures s c e) ++ entries_of e.time o) e.act o))
        → is_told_refusal (told_row (c ++ react s c e) (row_of (first_of (entries_of e.time o ++ scaler_rows s.kind s e.time ((c ++ departures s c e) ++ entries_of e.time o) e.act o)))) ≡ refuses o
    by None rows = scaler-told (c ++ react s c e) (scaler_rows s.kind s e.time ((c ++ departures s c e) ++ []) e.act None) (rows None)
    by (Some x) rows = told-kind (c ++ react s c e) x

lost-same : (s : Spec) (c : Trace) (e : Event) (p : ℕ) → e.act ≡ act.Lost p → losses e.time (c ++ expiries s e.time c) (act.Lost p) ≡ [] → departures s c e ≡ expiries s e.time c
unfolding departures
lost-same s c e p lost none = ap (λ (l : Trace). expiries s e.time c ++ l) (ap (λ (a : Act). losses e.time (c ++ expiries s e.time c) a) lost ∙ none) ∙ append-nil (expiries s e.time c)

-- the other way round
refusal-lost : (s : Spec) (c : Trace) (e : Event) (p : ℕ) (x : Row) → e.act ≡ act.Lost p → act_row s (c ++ expiries s e.time c) (act.Lost p) ≡ Some x → is_refusal x ≡ true → losses e.time (c ++ expiries s e.time c) (act.Lost p) ≡ []
refusal-lost s c e p x lost is h = no_loss s e.time (c ++ expiries s e.time c) (act.Lost p) x is h

refusal-departs-late : (s : Spec) (c : Trace) (e : Event) (x : Row) → act_row s (c ++ expiries s e.time c) e.act ≡ Some x → is_refusal x ≡ true → departures s c e ≡ expiries s e.time c
refusal-departs-late s c e x is h = by e.act refl is
  where
    by : (a : Act) → e.act ≡ a → act_row s (c ++ expiries s e.time c) a ≡ Some x → departures s c e ≡ expiries s e.time c
    by (act.Lost p) k i = lost-same s c e p k (refusal-lost s c e p x k i h)
    by a k i = departures-same s c e (λ p lost. absurd (cc))

row-told : (s : Spec) (c : Trace) (e : Event) (x : Row) → act_row s (c ++ expiries s e.time c) e.act ≡ Some x → is_refusal x ≡ true → is_told_refusal (told_of s c e) ≡ true
row-told s c e x is h =
    let same = refusal-departs-late s c e x is h in
    let P : Trace → Type 0 = λ gone. act_row s (c ++ gone) e.act ≡ Some x in
    let late = subst P (sym same) is in
    told-refuses s c e ∙ ap refuses late ∙ h

-- an expiry or a refusal says nothing of pods and scale
record SaysNoScale (x : Row) : Type 0 where
  pod : SaysNoPod x
  phase : phase_by x ≡ None
  mode : mode_by x ≡ None
  decision : decision_by x ≡ None

-- each entry of a list does so
abbrev EachSaysNoScale : Trace → Type 0
EachSaysNoScale [] = ⊤
EachSaysNoScale (e ∷ es) = SaysNoScale e.row × EachSaysNoScale es

scale-append : (xs ys : Trace) → EachSaysNoScale xs → EachSaysNoScale ys → EachSaysNoScale (xs ++ ys)
scale-append [] ys h k = k
scale-append (e ∷ xs) ys h k = (h.0, scale-append xs ys h.1 k)

-- an entry that says nothing adds nothing to a list of what entries say
none-say : {X : Type 0} (f : Entry → Option X) (es : Trace) → ((e : Entry) → SaysNoScale e.row → f e ≡ None) → EachSaysNoScale es → filter_map f es ≡ []
none-say f [] none h = refl
none-say f (e ∷ es) none h = rw (none e h.0) (none-say f es none h.1)

says-stay : {X : Type 0} (f : Entry → Option X) (c es : Trace) → ((e : Entry) → SaysNoScale e.row → f e ≡ None) → EachSaysNoScale es → filter_map f (c ++ es) ≡ filter_map f c
says-stay f c es none h = rw (filter_map-append f c es, none-say f es none h) (append-nil (filter_map f c))

module _ (facts : Facts) where
  open facts use {views.{says_no_pod, pods-quiet}, proper.{made_trace}}

  -- ---- who departs before a refusal

  lost-departs : (s : Spec) (c : Trace) (e : Event) (p : ℕ) (x : Row) → e.act ≡ act.Lost p → act_row s (c ++ departures s c e) (act.Lost p) ≡ Some x → is_refusal x ≡ true
      → losses e.time (c ++ expiries s e.time c) (act.Lost p) ≡ []
  unfolding act_row departures losses
  lost-departs s c e p x lost is h = by (contains p (live_pods (c ++ expiries s e.time c))) refl
    where
      c1 : Trace
      c1 = c ++ expiries s e.time c

      more : Trace
      more = losses e.time c1 e.act

      same : live_pods (c ++ (expiries s e.time c ++ more)) ≡ live_pods c1
      same = ap live_pods (sym (append_assoc c (expiries s e.time c) more)) ∙ live_pods-each facts is_loss (loss_pods facts) c1 more (losses-rows e.time c1 e.act)

      shut : (b : Bool) → contains p (live_pods (c ++ (expiries s e.time c ++ more))) ≡ b → b ≡ true → ⊥
      shut true k refl' = no (rw k at is)
        where
          no : Some (row.LostPod p) ≡ Some x → ⊥
          no y = absurd (let it : row.LostPod p ≡ x = cc in let out : false ≡ true = subst (λ (z : Row). is_refusal z ≡ true) (sym it) h in cc)
      shut false k q = absurd (cc)

      by : (b : Bool) → contains p (live_pods c1) ≡ b → losses_at b e.time c1 p ≡ []
      by true k = absurd (shut (contains p (live_pods (c ++ (expiries s e.time c ++ more)))) refl (ap (contains p) same ∙ k))
      by false k = refl

  refusal-departs : (s : Spec) (c : Trace) (e : Event) (x : Row) → act_row s (c ++ departures s c e) e.act ≡ Some x → is_refusal x ≡ true → departures s c e ≡ expiries s e.time c
  refusal-departs s c e x is h = by e.act refl is
    where
      by : (a : Act) → e.act ≡ a → act_row s (c ++ departures s c e) a ≡ Some x → departures s c e ≡ expiries s e.time c
      by (act.Lost p) k i = lost-same s c e p k (lost-departs s c e p x k i h)
      by a k i = departures-same s c e (λ p lost. absurd (cc))

  -- ---- by the answer

  refused-told : (s : Spec) (c : Trace) (e : Event) → IsMade s c → IsSettled s c → is_told_refusal (told_of s c e) ≡ true → (x : Row) × AddsRefusal s c e x
  refused-told s c e made settled h = by (act_row s (c ++ departures s c e) e.act) refl (sym (told-refuses s c e) ∙ h)
    where
      by : (o : Option Row) → act_row s (c ++ departures s c e) e.act ≡ o → refuses o ≡ true → (x : Row) × AddsRefusal s c e x
      by None k r = absurd (cc)
      by (Some x) k r =
          let same = refusal-departs s c e x k r in
          let P : Trace → Type 0 = λ gone. act_row s (c ++ gone) e.act ≡ Some x in
          let is = subst P same k in
          (x, record { is = is; refuses = r; adds = refusals_inert facts s c e made settled x is r })

  -- ---- what stays

  expire-scale : (r : ℕ) → SaysNoScale (row.Expire r)
  expire-scale r = record { pod = says_no_pod (row.Expire r) refl; phase = refl; mode = refl; decision = refl }

  refusal-scale : (x : Row) → is_refusal x ≡ true → SaysNoScale x
  refusal-scale (row.QueueFull r pod) h = record { pod = says_no_pod (row.QueueFull r pod) refl; phase = refl; mode = refl; decision = refl }
  refusal-scale (row.Overload r) h = record { pod = says_no_pod (row.Overload r) refl; phase = refl; mode = refl; decision = refl }
  refusal-scale (row.NotRunning r) h = record { pod = says_no_pod (row.NotRunning r) refl; phase = refl; mode = refl; decision = refl }
  refusal-scale (row.NotWaiting r) h = record { pod = says_no_pod (row.NotWaiting r) refl; phase = refl; mode = refl; decision = refl }
  refusal-scale (row.NotStarting p) h = record { pod = says_no_pod (row.NotStarting p) refl; phase = refl; mode = refl; decision = refl }
  refusal-scale (row.NoPod p) h = record { pod = says_no_pod (row.NoPod p) refl; phase = refl; mode = refl; decision = refl }
  refusal-scale _ h = absurd (cc)

  expired-scale : (es : Trace) → Each is_expire es → EachSaysNoScale es
  expired-scale [] h = tt
  expired-scale (e ∷ es) h = (by e.row h.0, expired-scale es h.1)
    where
      by : (x : Row) → is_expire x ≡ true → SaysNoScale x
      by (row.Expire r) k = expire-scale r
      by _ k = absurd (cc)

  pods-stay : (c es : Trace) → EachSaysNoScale es → pods (c ++ es) ≡ pods c
  pods-stay c [] h = ap pods (append-nil c)
  pods-stay c (e ∷ es) h =
      let none = h.0.pod in
      ap pods (sym (append_assoc c (e ∷ []) es)) ∙ pods-stay (c ++ e ∷ []) es h.1 ∙ pods-quiet c e none.created none.removed none.drained none.readied none.limit

  scale-stays : (s : Spec) (c es : Trace) → EachSaysNoScale es → KeepsScale s c (c ++ es)
  unfolding wanted
  scale-stays s c es h = record {
    pods = pods-stay c es h;
    phases = says-stay (λ (e : Entry). phase_by e.row) c es (λ e k. k.phase) h;
    phase_times = says-stay (λ (e : Entry). option_map (λ x. e.time) (phase_by e.row)) c es (λ e k. rw (k.phase) refl) h;
    modes = says-stay (λ (e : Entry). mode_by e.row) c es (λ e k. k.mode) h;
    mode_times = says-stay (λ (e : Entry). option_map (λ x. e.time) (mode_by e.row)) c es (λ e k. rw (k.mode) refl) h;
    decisions = says-stay decided_by c es (λ e k. rw (k.decision) refl) h;
    wanted = rw (says-stay (λ (e : Entry). decision_by e.row) c es (λ e k. k.decision) h) refl;
  }

  keeps-scale : (s : Spec) (c : Trace) (e : Event) → IsMade s c → IsSettled s c → is_told_refusal (told_of s c e) ≡ true → KeepsScale s c (c ++ react s c e)
  keeps-scale s c e made settled h =
      let found = refused-told s c e made settled h in
      let x = found.0 in
      let adds = found.1.adds in
      let quiet = scale-append (expiries s e.time c) (entry e.time x ∷ []) (expired-scale (expiries s e.time c) (expiries-rows s e.time c)) (refusal-scale x found.1.refuses, tt) in
      let P : Trace → Type 0 = λ es. KeepsScale s c (c ++ es) in
      subst P (sym adds) (scale-stays s c (expiries s e.time c ++ entry e.time x ∷ []) quiet)

  -- all of it, at a settled trace that was made
  pub refuses_by_answer : (s : Spec) (c : Trace) (e : Event) → IsMade s c → IsSettled s c → RefusesByAnswer s c e
  refuses_by_answer s c e made settled = record { told = refused-told s c e made settled; row = row-told s c e; keeps = keeps-scale s c e made settled }

  pub answers_trace : (s : Spec) (start : ℕ) (es : List Event) (e : Event) → RefusesByAnswer s (trace_of s start es) e
  answers_trace s start es e = refuses_by_answer s (trace_of s start es) e (made_trace s start es) (settled_trace facts s start es)
