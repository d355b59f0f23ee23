-- No request finishes twice, no pod is ready twice, and passes are no more than arrivals.
use Rattle.std.proofs.Common.{◌≡◌, ℕ, ◌+◌, ◌≤◌, Bool, true, false, not, ◌&&◌, ◌||◌, ◌⊎◌, inl, inr, List, [], ◌∷◌, ◌++◌, length, refl, sym, ap, ◌∙◌, subst, arith, append_assoc, length-append}
use Rattle.std.specs.Prelude.{slice_get}
use Rattle.std.specs.List.{filter}
use Rattle.std.proofs.lemmas.List.Elements.{filter-append}
use Rattle.kn_event.specs.declared.event.Act.TheVariants as act
use Rattle.kn_event.specs.declared.event.Event.{Event}
use Rattle.kn_event.specs.Lists.{contains}
use Rattle.kn_trace.specs.Events.{added, need_of, opening, react}
use Rattle.kn_trace.specs.Rows.{assigned_by, created_by, drained_by, ended_by, gone_by, readied_by, run_by, taken_by}
use Rattle.kn_trace.specs.Trace.{Trace, arrivals, assigned, each_row, ended, has_begun, has_run, is_running, live, starting_pods}
use Rattle.kn_record.specs.Facts.{Facts}
use Rattle.kn_record.specs.Made.{IsMade}
use Rattle.kn_laws.specs.Facts.{PartFacts}
use Rattle.kn_agenda.specs.declared.item.Item.{Item}
use Rattle.kn_agenda.specs.declared.item.Kind.{Kind}
use Rattle.kn_agenda.specs.declared.item.Kind.TheVariants.{Arrives, Finishes, Passes, Readies, Ticks}
use Rattle.kn_agenda.specs.Workload.{Workload}
use Rattle.kn_agenda.specs.Course.{is_pass}
use Rattle.kn_agenda.specs.Due.{AreNext, ComesNext, IsDueAt, IsNext, act_of, event_of, tag_of, ticks_of}
use Rattle.kn_agenda.specs.Runs.{so_far}
use Rattle.kn_agenda.proofs.Booting.{readied}
use Rattle.kn_agenda.proofs.Courses.{HasLaws, keeps_all}
use Rattle.kn_agenda.proofs.Fewer.{pass-fewer}
use Rattle.kn_agenda.proofs.Late.{three_false}
use Rattle.kn_agenda.proofs.Said.{said_more, said_new}
use Rattle.kn_agenda.proofs.Serving.{due_as, is_finish, is_readying}
use Rattle.kn_agenda.proofs.Shrinking.{plain_pass}
use Rattle.kn_agenda.proofs.Stepping.{is_kind, no_arrival}

-- so far there are no more passes than requests that have come and are not live
abbrev pub AreFew : List Event → Trace → Type 0
AreFew es c = length (filter is_pass es) + length (live c) ≤ arrivals c

-- ---- which event is a pass

pass_one : (w : Workload) (x : Item) → x.kind ≡ Passes → length (filter is_pass (event_of w x ∷ [])) ≡ 1
pass_one w x is = rw is refl

pass_none : (w : Workload) (x : Item) → (x.kind ≡ Passes → ⊥) → length (filter is_pass (event_of w x ∷ [])) ≡ 0
pass_none w x other = by x.kind refl
  where
    by : (k : Kind) → x.kind ≡ k → length (filter is_pass (event_of w x ∷ [])) ≡ 0
    by Finishes is = rw is refl
    by Readies is = rw is refl
    by Passes is = absurd (other is)
    by Arrives is = rw is refl
    by Ticks is = rw is refl

-- ---- what an event leaves for good

-- who ran and runs no more has ended
ended_since : (c es : Trace) (r : ℕ) → is_running c r ≡ true → is_running (c ++ es) r ≡ false → ended (c ++ es) r ≡ true
unfolding is_running has_begun assigned has_run ended
ended_since c es r on off = by (contains r (each_row assigned_by c)) (contains r (each_row run_by c)) (contains r (each_row ended_by (c ++ es))) refl refl refl
  where
    by : (a b d : Bool) → contains r (each_row assigned_by c) ≡ a → contains r (each_row run_by c) ≡ b → contains r (each_row ended_by (c ++ es)) ≡ d → contains r (each_row ended_by (c ++ es)) ≡ true
    by a b true ha hb hd = hd
    by true b false ha hb hd = absurd (let more = said_more assigned_by c es r ha in let still : (true && true) ≡ false = rw (more, hd) at off in cc)
    by false true false ha hb hd = absurd (at (contains r (each_row assigned_by (c ++ es))) (let more = said_more run_by c es r hb in rw (more, hd) at off))
      where
        at : (z : Bool) → ((z || true) && true) ≡ false → ⊥
        at true h = cc
        at false h = cc
    by false false false ha hb hd = absurd (let no : ((false || false) && not (contains r (each_row ended_by c))) ≡ true = rw (ha, hb) at on in cc)

module _ (w : Workload) (law : HasLaws w) (facts : Facts) (parts : PartFacts) where
  open facts use {members.{contains-starting, running_parts}}
  open parts use {rows.{are_by_act, opening_none}}

  -- the trace before a later event goes on from that after an earlier one
  goes_on : (before : List Event) (e : Event) (mid : List Event) → so_far w (before ++ e ∷ mid) ≡ (so_far w before ++ react w.spec (so_far w before) e) ++ added w.spec (so_far w before ++ react w.spec (so_far w before) e) mid
  unfolding added
  goes_on before e mid = law.goes before (e ∷ mid) ∙ sym (append_assoc (so_far w before) (react w.spec (so_far w before) e) (added w.spec (so_far w before ++ react w.spec (so_far w before) e) mid))

  runs_at : (before : List Event) (e : Event) (r : ℕ) (ok : Bool) → ComesNext w before e → e.act ≡ act.Finish r ok → is_running (so_far w before) r ≡ true
  runs_at before e r ok (x, next, soon, is) did =
      let own = is_finish w x r ok (subst (λ (f : Event). f.act ≡ act.Finish r ok) is did) in
      (due_as w (so_far w before) (ticks_of before) x Finishes r own next.due).0

  starts_at : (before : List Event) (e : Event) (p : ℕ) → ComesNext w before e → e.act ≡ act.Ready p → contains p (starting_pods (so_far w before)) ≡ true
  starts_at before e p (x, next, soon, is) did =
      let own = is_readying w x p (subst (λ (f : Event). f.act ≡ act.Ready p) is did) in
      (due_as w (so_far w before) (ticks_of before) x Readies p own next.due).0

  second_at : (es before : List Event) (e : Event) (mid : List Event) (f : Event) (rest : List Event) → AreNext w es → es ≡ before ++ e ∷ mid ++ f ∷ rest → ComesNext w (before ++ e ∷ mid) f
  second_at es before e mid f rest steps is = steps (before ++ e ∷ mid) f rest is

  pub finish_once : (es before : List Event) (e : Event) (mid : List Event) (f : Event) (rest : List Event) (r : ℕ) (g h : Bool) → AreNext w es → es ≡ before ++ e ∷ mid ++ f ∷ rest → e.act ≡ act.Finish r g → f.act ≡ act.Finish r h → ⊥
  unfolding ended
  finish_once es before e mid f rest r g h steps is first second =
      let on = runs_at before e r g (steps before e (mid ++ f ∷ rest) (is ∙ append_assoc before (e ∷ mid) (f ∷ rest))) first in
      let off = law.ends (so_far w before) e r g (law.made before) first on in
      let over : contains r (each_row ended_by (so_far w before ++ react w.spec (so_far w before) e)) ≡ true = ended_since (so_far w before) (react w.spec (so_far w before) e) r on off in
      let later : contains r (each_row ended_by (so_far w (before ++ e ∷ mid))) ≡ true = subst (λ (c : Trace). contains r (each_row ended_by c) ≡ true) (sym (goes_on before e mid)) (said_more ended_by (so_far w before ++ react w.spec (so_far w before) e) (added w.spec (so_far w before ++ react w.spec (so_far w before) e) mid) r over) in
      let again = runs_at (before ++ e ∷ mid) f r h (second_at es before e mid f rest steps is) second in
      let open' : contains r (each_row ended_by (so_far w (before ++ e ∷ mid))) ≡ false = (running_parts (so_far w (before ++ e ∷ mid)) r again).1 in
      cc

  pub ready_once : (es before : List Event) (e : Event) (mid : List Event) (f : Event) (rest : List Event) (p : ℕ) → AreNext w es → es ≡ before ++ e ∷ mid ++ f ∷ rest → e.act ≡ act.Ready p → f.act ≡ act.Ready p → ⊥
  ready_once es before e mid f rest p steps is first second =
      let on = starts_at before e p (steps before e (mid ++ f ∷ rest) (is ∙ append_assoc before (e ∷ mid) (f ∷ rest))) first in
      let did = said_new readied_by (so_far w before) (react w.spec (so_far w before) e) p (readied facts parts w.spec (so_far w before) e p first on) in
      let later : contains p (each_row readied_by (so_far w (before ++ e ∷ mid))) ≡ true = subst (λ (c : Trace). contains p (each_row readied_by c) ≡ true) (sym (goes_on before e mid)) (said_more readied_by (so_far w before ++ react w.spec (so_far w before) e) (added w.spec (so_far w before ++ react w.spec (so_far w before) e) mid) p did) in
      let again = starts_at (before ++ e ∷ mid) f p (second_at es before e mid f rest steps is) second in
      let not_yet : contains p (each_row readied_by (so_far w (before ++ e ∷ mid))) ≡ false =
      (three_false (contains p (each_row created_by (so_far w (before ++ e ∷ mid)))) (contains p (each_row readied_by (so_far w (before ++ e ∷ mid)))) (contains p (each_row drained_by (so_far w (before ++ e ∷ mid)))) (contains p (each_row gone_by (so_far w (before ++ e ∷ mid))))
      (sym (contains-starting (so_far w (before ++ e ∷ mid)) p) ∙ again)).1 in
      cc

  -- ---- passes

  few_first : AreFew [] (opening w.spec w.start)
  unfolding live
  few_first = let none : length (live (opening w.spec w.start)) ≡ 0 = rw (opening_none taken_by (λ p n. refl) (λ y. refl) w.spec w.start) refl in omega arith

  -- how the live requests and the arrivals change, by the kind of what comes next
  live_more : (c : Trace) (ticks : ℕ) (x : Item) (k : Kind) → IsMade w.spec c → x.kind ≡ k → IsDueAt w c ticks k x.number x.time → (x.kind ≡ Arrives → ⊥) → length (live (c ++ react w.spec c (event_of w x))) + length (filter is_pass (event_of w x ∷ [])) ≤ length (live c)
  live_more c ticks x Finishes made is due other =
      let need = ap (λ (k : Kind). need_of c (act_of w k x.number)) is ∙ law.finish c x.number true due.0 in
      let more = law.live c (event_of w x) made in
      let none = pass_none w x (λ k. (let off : Finishes ≡ Passes = sym is ∙ k in cc)) in
      omega (arith, more, need, none)
  live_more c ticks x Readies made is due other =
      let need = ap (λ (k : Kind). need_of c (act_of w k x.number)) is ∙ law.ready c x.number in
      let more = law.live c (event_of w x) made in
      let none = pass_none w x (λ k. (let off : Readies ≡ Passes = sym is ∙ k in cc)) in
      omega (arith, more, need, none)
  live_more c ticks x Passes made is (waits, (b, taken, sum)) other =
      let plain = plain_pass (event_of w x).act (ap (λ (k : Kind). act_of w k x.number) is) in
      let less = pass-fewer facts w.spec c (event_of w x) x.number b (are_by_act w.spec c (event_of w x)) plain.0 waits taken (omega (arith, sum)) in
      let one = pass_one w x is in
      omega (arith, less, one)
  live_more c ticks x Arrives made is due other = absurd (other is)
  live_more c ticks x Ticks made is due other =
      let need = ap (λ (k : Kind). need_of c (act_of w k x.number)) is ∙ law.tick c in
      let more = law.live c (event_of w x) made in
      let none = pass_none w x (λ k. (let off : Ticks ≡ Passes = sym is ∙ k in cc)) in
      omega (arith, more, need, none)

  few_more : (es : List Event) (x : Item) → IsNext w (so_far w es) (ticks_of es) x → AreFew es (so_far w es) → AreFew (es ++ event_of w x ∷ []) (so_far w es ++ react w.spec (so_far w es) (event_of w x))
  few_more es x next all = by (is_kind x.kind Arrives)
    where
      whole : length (filter is_pass (es ++ event_of w x ∷ [])) ≡ length (filter is_pass es) + length (filter is_pass (event_of w x ∷ []))
      whole = ap (λ (fs : List Event). length fs) (filter-append is_pass es (event_of w x ∷ [])) ∙ length-append (filter is_pass es) (filter is_pass (event_of w x ∷ []))

      by : (x.kind ≡ Arrives) ⊎ (x.kind ≡ Arrives → ⊥) → AreFew (es ++ event_of w x ∷ []) (so_far w es ++ react w.spec (so_far w es) (event_of w x))
      by (inl k) =
          let did : (event_of w x).act ≡ act.Arrive (tag_of (slice_get w.jobs x.number)) = ap (λ (q : Kind). act_of w q x.number) k in
          let one = law.one (so_far w es) (event_of w x) (tag_of (slice_get w.jobs x.number)) (law.made es) did in
          let need = ap (need_of (so_far w es)) did ∙ law.arrive (so_far w es) (tag_of (slice_get w.jobs x.number)) in
          let more = law.live (so_far w es) (event_of w x) (law.made es) in
          let none = pass_none w x (λ q. (let off : Arrives ≡ Passes = sym k ∙ q in cc)) in
          omega (arith, whole, one, need, more, none, all)
      by (inr k) =
          let same = law.nobody (so_far w es) (event_of w x) (law.made es) (no_arrival w x k) in
          let less = live_more (so_far w es) (ticks_of es) x x.kind (law.made es) refl next.due k in
          omega (arith, whole, same, less, all)

  pub few_passes : (es : List Event) → AreNext w es → length (filter is_pass es) ≤ arrivals (so_far w es)
  few_passes es steps = let few = keeps_all w law AreFew few_first few_more es steps in omega (arith, few)
