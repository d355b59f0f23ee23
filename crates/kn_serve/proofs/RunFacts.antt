-- A session, from what its calls say.
use Rattle.std.proofs.Common.{◌≡◌, ◌<◌, ◌≤◌, ◌^◌, ℕ, Bool, List, length, map, sym, ap₂, ◌∙◌, subst, arith, lit≤}
use Rattle.std.specs.Prelude.{All, None, Option, Some, false, slice_index_or, true}
use Rattle.std.proofs.lemmas.List.{get_or-map}
use Rattle.kn_event.specs.declared.revision.Spec.{Spec}
use Rattle.kn_event.specs.Lists.{EachIs}
use Rattle.kn_trace.specs.Trace.{Trace}
use Rattle.kn_trace.specs.Events.{opening}
use Rattle.kn_trace.specs.Laws.{IsLawful, IsSettled}
use Rattle.kn_core.specs.State.{RevisionState, StandsFor}
use Rattle.kn_cell.specs.declared.past.Past.{Past}
use Rattle.kn_cell.specs.Lists.{Each}
use Rattle.kn_cell.specs.History.{IsLegal, IsLegalFrom, trace_after}
use Rattle.kn_journal.specs.declared.journal.Journal.{Journal}
use Rattle.kn_journal.specs.Journal.{IsJournal, IsSetup, good, journal_text, verdict}
use Rattle.kn_request.specs.declared.slot.Slot.{Slot}
use Rattle.kn_session.specs.Lists.{EachDone}
use Rattle.kn_session.specs.Rounds.{Sides}
use Rattle.kn_session.specs.Session.{IsFine, IsOneHistory}
use Rattle.kn_serve.specs.Ending.{AreCleared, status_by}
use Rattle.kn_serve.specs.Opening.{IsEmptyWork}
use Rattle.kn_journal.specs.declared.status.Status.TheVariants as status
use Rattle.kn_print.specs.Printed.{HasSmall}
use Rattle.kn_serve.specs.Running.{IsSession, IsStart, Session, journal_of, status_after}
use Rattle.kn_serve.proofs.SessionFacts.{are_events, tolds-legal, trace_after-opening}

-- at the opening, from the start
legal_from : (b : RevisionState) (s : Spec) (start : ℕ) (h : List Past) → StandsFor b (opening s start) → b.spec ≡ s → b.clock ≡ start → IsLegal b h
    → IsLegalFrom s start (opening s start) h
unfolding IsLegal
legal_from b s start h stands spec clock legal =
    subst (λ (n : ℕ). IsLegalFrom s n (opening s start) h) clock
    (subst (λ (z : Spec). IsLegalFrom z b.clock (opening s start) h) spec (legal (opening s start) stands))

-- what is so of the trace after the history is so of the journal's trace
of_journal : (P : Spec → Trace → Type 0) (x : Session) → StandsFor x.opened (opening x.setup.spec x.start) → x.opened.spec ≡ x.setup.spec
    → ((c : Trace) → StandsFor x.opened c → P x.opened.spec (trace_after x.opened.spec c x.history))
    → P x.setup.spec (trace_after x.setup.spec (opening x.setup.spec x.start) x.history)
of_journal P x stands spec h =
    subst (λ (s : Spec). P s (trace_after s (opening x.setup.spec x.start) x.history)) spec (h (opening x.setup.spec x.start) stands)

pub is_session : (reading : ℕ → Type 0) (count : ℕ) (x : Session) → IsStart reading x.start → StandsFor x.opened (opening x.setup.spec x.start) → x.opened.spec ≡ x.setup.spec → x.opened.clock ≡ x.start
    → IsOneHistory count x.opened x.history
    → length x.faults ≡ count → length x.wants ≡ count → (status_after x ≡ status.Ok → Each IsFine x.history)
    → IsSession reading count x
is_session reading count x begins opens spec clock one faults wants fine =
    let same = trace_after-opening x.setup.spec x.start x.history in
    record {
      begins = begins;
      opens = opens;
      spec = spec;
      clock = clock;
      legal = one.legal;
      bounds = one.bounds;
      rows = one.rows;
      alone = one.alone;
      lawful = subst (IsLawful x.setup.spec) same (of_journal IsLawful x opens spec one.lawful);
      settled = subst (IsSettled x.setup.spec) same (of_journal IsSettled x opens spec one.settled);
      answers = tolds-legal x.setup.spec x.start (opening x.setup.spec x.start) x.history (legal_from x.opened x.setup.spec x.start x.history opens spec clock one.legal);
      faults = faults;
      wants = wants;
      fine = fine;
    }

-- what is printed of a session reads as its journal
pub reads_back : ((j : Journal) → IsJournal j → verdict (journal_text j) ≡ good j) → (reading : ℕ → Type 0) (count : ℕ) (x : Session) → IsSession reading count x
    → x.start ≤ 2 ^ 42 → All (λ (p : Past). HasSmall p.event.act) x.history → IsSetup x.setup → verdict (journal_text (journal_of x)) ≡ good (journal_of x)
reads_back law reading count x is early small setup =
    let legal = legal_from x.opened x.setup.spec x.start x.history is.opens is.spec is.clock is.legal in
    law (journal_of x) (record {
      version_least = lit≤ tt;
      version_most = lit≤ tt;
      setup = setup;
      start = omega arith;
      events = are_events x.setup.spec x.start (opening x.setup.spec x.start) x.history legal is.bounds small;
    })

-- what is said of the slots as the session left them is so of those with empty works
pub cleared : {C L : Type 0} (P : ℕ → Sides → Sides → Bool → Bool → Type 0) (side : C → L → Sides) (ss ts us : List (Slot C L))
    → EachDone (λ i s t. P i (side s.caller s.link) (side t.caller t.link) t.work.fault t.work.memory) ss ts → AreCleared ts us
    → EachDone (λ i s u. P i (side s.caller s.link) (side u.caller u.link) (slice_index_or (map (λ t. t.work.fault) ts) i false) (slice_index_or (map (λ t. t.work.memory) ts) i false)) ss us
cleared {C} {L} P side ss ts us did clear = (
  clear.0 ∙ did.0,
  λ i d low.
      let s = slice_index_or ss i d in
      let t = slice_index_or ts i d in
      let u = slice_index_or us i d in
      let low' : i < length ts = omega (arith, did.0) in
      let one = did.1 i d low in
      let same = clear.1 i d low' in
      let fault = get_or-map (λ (x : Slot C L). x.work.fault) ts i d false low' in
      let memory = get_or-map (λ (x : Slot C L). x.work.memory) ts i d false low' in
      let sides = ap₂ side (sym same.caller) (sym same.link) in
      subst (λ (b : Bool). P i (side s.caller s.link) (side u.caller u.link) (slice_index_or (map (λ (x : Slot C L). x.work.fault) ts) i false) b) (sym memory)
      (subst (λ (b : Bool). P i (side s.caller s.link) (side u.caller u.link) b t.work.memory) (sym fault)
      (subst (λ (z : Sides). P i (side s.caller s.link) z t.work.fault t.work.memory) sides one)),
)

-- .. whose works are empty
pub works_cleared : {C L : Type 0} (ss ts : List (Slot C L)) → AreCleared ss ts → EachIs (λ (s : Slot C L). IsEmptyWork s.work) ts
works_cleared ss ts clear i d low =
    let low' : i < length ss = omega (arith, clear.0, low) in
    (clear.1 i d low').empty

-- what slots come to is no fault of the setup's source, and none of the journal's sink
pub no_read_by : (o : Option ℕ) (want : Bool) → status_by o want ≡ status.ReadFault → ⊥
no_read_by (Some slot) want h = cc
no_read_by None true h = cc
no_read_by None false h = cc

pub no_write_by : (o : Option ℕ) (want : Bool) → status_by o want ≡ status.WriteFault → ⊥
no_write_by (Some slot) want h = cc
no_write_by None true h = cc
no_write_by None false h = cc
