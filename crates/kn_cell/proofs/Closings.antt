-- Where one pass is all that there is, nobody has the turn, and the log has its numbers alone. Its rows are those that were taken out and those that are left.
use Rattle.std.proofs.Common.{◌≡◌, ◌≢◌, ◌⊎◌, inl, inr, ℕ, ◌+◌, ◌<◌, ◌≤◌, List, [], ◌∷◌, ◌++◌, true, false, length, refl, sym, ap, ◌∙◌, subst, arith}
use Rattle.std.specs.Prelude.{cond}
use mathlib.Core.Option as maybe
use mathlib.Core.Option.{some, some-injective}
use native.Mathlib.Decide.{ℕ_discrete}
use lib.ListN.{get_elem?}
use Rattle.atomic_table.specs.Table.{Final, Seen}
use Rattle.atomic_table.specs.Seated.{TableId}
use Rattle.kn_event.specs.declared.event.Event.{Event}
use Rattle.kn_event.specs.declared.revision.Spec.{Spec}
use Rattle.kn_laws.specs.History.{IsMadeBy}
use Rattle.kn_core.specs.State.{RevisionState, StandsFor}
use Rattle.kn_trace.specs.Events.{react}
use Rattle.kn_trace.specs.Laws.{IsInert, IsLawful, IsSettled}
use Rattle.kn_trace.specs.Trace.{Trace}
use Rattle.kn_cell.specs.declared.past.Past.{Past}
use Rattle.kn_cell.specs.declared.view.Key.{Key}
use Rattle.kn_cell.specs.declared.view.View.{View}
use Rattle.kn_cell.specs.State.{DeskState}
use Rattle.kn_cell.specs.Lists.{StartsWith}
use Rattle.kn_cell.specs.History.{trace_after, clock_after, IsLegal, IsLegalFrom}
use Rattle.kn_cell.specs.Views.{opening, weight, Has, Passes, Takings}
use Rattle.kn_cell.specs.Rule.{GoesWith, IsResting, IsTaken, IsKept}
use Rattle.kn_cell.specs.Shown.{shown, PassView, ClosesCell, IsClosed}
use Rattle.kn_cell.proofs.ListFacts.{at_same, two_weights}
use Rattle.kn_cell.proofs.HistoryFacts.{legal-front}

module _ (key : Key) (log : List Past) (views : List View) (id : ℕ) (v : View) (p : Passes key log views) (me : get_elem? views id ≡ some v) (fresh : v.spent ≡ false)
    (all : 1 + v.free + v.back ≡ v.key.passes) where
  -- every other view is spent
  only : (j : ℕ) (u : View) → get_elem? views j ≡ some u → u.spent ≡ false → j ≡ id
  only j u at new = elim (ℕ_discrete j id) [
    | yes e ↦ e
    | no ne ↦
        let two = two_weights weight views id j v u me at (λ e. ne (sym e)) in
        let a : weight v ≡ 1 + v.free + v.back = ap (λ b. cond b 0 (1 + v.free + v.back)) fresh in
        let b : weight u ≡ 1 + u.free + u.back = ap (λ b. cond b 0 (1 + u.free + u.back)) new in
        let k = ap (λ (q : Key). q.passes) (p.each id v me fresh).key_is in
        let sum = p.weights in
        absurd (omega arith)
  ]

  pub rests : (taken turn : ℕ) (homes : List (maybe.Option DeskState)) → v.turn ≡ false → ((turn ≡ 0) × IsResting key log taken homes views) ⊎ ((turn ≢ 0) × IsTaken log taken homes views)
      → IsResting key log taken homes views
  rests taken turn homes idle phase = elim phase [
    | inl r ↦ r.1
    | inr t ↦
        let here = only t.1.who t.1.holder t.1.there t.1.fresh in
        let is = at_same views t.1.who id t.1.holder v t.1.there me here in
        let h = t.1.has in
        let e : t.1.holder.turn ≡ v.turn = ap (λ (x : View). x.turn) is in
        let no : true ≡ false = sym h ∙ (e ∙ idle) in
        cc
  ]

  pub its_number : (n : ℕ) → n < p.given → Has v n
  its_number n low =
      let h = p.holders n low in
      subst (λ (x : View). Has x n) (at_same views (p.owner n) id h.view v h.there me (only (p.owner n) h.view h.there h.fresh)) h.has

  pub closes_with : (t : TableId) (x : DeskState) → GoesWith key log x → ClosesCell (shown t v) x.revision log
  closes_with t x goes =
      let mine = p.each id v me fresh in
      let k = sym mine.key_is in
      record {
        legal = subst (λ q. IsLegal (opening q) log) k p.legal;
        bounds = p.bounds;
        spec = subst (λ q. x.revision.spec ≡ (opening q).spec) k goes.spec;
        start = subst (λ q. x.revision.start ≡ (opening q).start) k goes.start;
        stands = subst (λ q. (c : Trace) → StandsFor (opening q) c → StandsFor x.revision (trace_after (opening q).spec c log)) k goes.stands;
        clock = subst (λ q. x.revision.clock ≡ clock_after (opening q).clock log) k goes.clock;
        events = subst (λ q. x.revision.events ≡ (opening q).events + length log) k goes.events;
        seen = mine.knows.front;
        mine = mine.knows.whole;
        others = λ i o at. let q = mine.joined i o at in (q.front, q.whole);
        numbers = λ i r at. its_number r.pass (p.rows i r at);
      }

-- rows that are legal go on from a trace that events made
along_so : (P : Spec → Trace → Type 0) → ((s : Spec) (start clock count : ℕ) (c : Trace) → IsMadeBy s start clock count c → P s c)
    → ((s : Spec) (start clock count : ℕ) (c : Trace) (e : Event) → IsMadeBy s start clock count c → clock ≤ e.time → IsMadeBy s start e.time (count + 1) (c ++ react s c e))
    → (s : Spec) (start clock count : ℕ) (c : Trace) (h : List Past) → IsLegalFrom s clock c h → IsMadeBy s start clock count c → P s (trace_after s c h)
along_so P law step s start clock count c [] legal made = law s start clock count c made
along_so P law step s start clock count c (x ∷ xs) legal made =
    along_so P law step s start x.event.time (count + 1) (c ++ react s c x.event) xs legal.2 (step s start clock count c x.event made legal.0)

-- what is so of each trace that events made is so after each beginning of the history
always_so : (P : Spec → Trace → Type 0) → ((s : Spec) (start clock count : ℕ) (c : Trace) → IsMadeBy s start clock count c → P s c)
    → ((s : Spec) (start clock count : ℕ) (c : Trace) (e : Event) → IsMadeBy s start clock count c → clock ≤ e.time → IsMadeBy s start e.time (count + 1) (c ++ react s c e))
    → (b : RevisionState) (h front : List Past) → IsLegal b h → StartsWith h front → (c : Trace) → StandsFor b c → P b.spec (trace_after b.spec c front)
unfolding IsLegal
always_so P law step b h front legal first c s = along_so P law step b.spec b.start b.clock b.events c front (legal-front b h front legal first c s) s.events

-- what is so of each trace that events made is so of the trace after the whole history
stays_so : (P : Spec → Trace → Type 0) → ((s : Spec) (start clock count : ℕ) (c : Trace) → IsMadeBy s start clock count c → P s c)
    → (p : PassView) (r : RevisionState) (h : List Past) → ClosesCell p r h → (c : Trace) → StandsFor p.opening c → P p.opening.spec (trace_after p.opening.spec c h)
stays_so P law p r h k c s =
    let d = trace_after p.opening.spec c h in
    subst (λ q. P q d) k.spec (law r.spec r.start r.clock r.events d (k.stands c s).events)

none_in : (l : List Past) → length l ≡ 0 → l ≡ []
none_in [] e = refl
none_in (x ∷ xs) e = absurd (omega arith)

module _ (lawful : (s : Spec) (start clock count : ℕ) (c : Trace) → IsMadeBy s start clock count c → IsLawful s c)
    (settled : (s : Spec) (start clock count : ℕ) (c : Trace) → IsMadeBy s start clock count c → IsSettled s c)
    (inert : (s : Spec) (start clock count : ℕ) (c : Trace) (e : Event) → IsMadeBy s start clock count c → IsInert s c e)
    (step : (s : Spec) (start clock count : ℕ) (c : Trace) (e : Event) → IsMadeBy s start clock count c → clock ≤ e.time → IsMadeBy s start e.time (count + 1) (c ++ react s c e)) where
  ends_with : (key : Key) (log : List Past) (taken : ℕ) (views : List View) (id : ℕ) (v : View) (p : Passes key log views) → Takings key taken views
      → get_elem? views id ≡ some v → v.spent ≡ false → 1 + v.free + v.back ≡ v.key.passes → (t : TableId) (x : DeskState) → GoesWith key log x → x.taken ≡ taken
      → IsClosed (shown t v) x.revision x.history
  ends_with key log taken views id v p q me fresh all t x goes same =
      let s = shown t v in
      let low = q.gone id v me fresh in
      let count = goes.count in
      let lasting = ap (λ (k : Key). k.lasting) (p.each id v me fresh).key_is in
      let history = goes.front ++ x.history in
      let k : ClosesCell s x.revision history = subst (λ l. ClosesCell s x.revision l) goes.whole (closes_with key log views id v p me fresh all t x goes) in
      record {
        front = goes.front;
        plain = λ no. none_in goes.front (goes.count ∙ goes.plain (sym lasting ∙ no));
        gone = omega arith;
        exact = λ is. goes.count ∙ (same ∙ sym (q.takes id v me fresh is).1);
        closes = k;
        lawful = stays_so (λ q d. IsLawful q d) lawful s x.revision history k;
        settled = stays_so (λ q d. IsSettled q d) settled s x.revision history k;
        always_settled = λ c first is begins. always_so (λ q d. IsSettled q d) settled step s.opening history first k.legal begins c is;
        inert = λ c first e is begins.
            always_so (λ q d. (e : Event) → IsInert q d e) (λ q start clock count d made e. inert q start clock count d e made) step s.opening history first k.legal begins c is e;
      }

  pub ends : (t : TableId) (key : Key) (id : ℕ) (v : View) (ws : List ℕ) (xs : List DeskState) (y : DeskState) → v.spent ≡ false → v.turn ≡ false
      → 1 + v.free + v.back ≡ v.key.passes → Final (Seen (IsKept key) id v) ws xs → get_elem? xs 0 ≡ some y → IsClosed (shown t v) y.revision y.history
  ends t key id v ws xs y fresh idle all f at =
      let s = f.0 in
      let k = f.1.0 in
      let me = f.1.1 in
      let r = rests key k.log s.views id v k.passes me fresh all k.taken k.turn s.homes idle k.phase in
      let there : get_elem? xs 0 ≡ some r.value = f.4 0 r.value (ap (λ l. get_elem? l 0) r.home) in
      let is : r.value ≡ y = some-injective r.value y (sym there ∙ at) in
      subst (λ (x : DeskState). IsClosed (shown t v) x.revision x.history) is
      (ends_with key k.log k.taken s.views id v k.passes k.takings me fresh all t r.value r.goes r.taken_is)
