-- What a session over several revisions says of its slots.
use Rattle.std.specs.List.{list_any}
use Rattle.std.proofs.Common.{◌≡◌, ◌<◌, ◌+◌, ◌*◌, ℕ, List, ◌++◌, Bool, false, sym, ap, ◌∙◌, subst, length, map, arith}
use Rattle.std.specs.Prelude.{Option, None, slice_index_or, ⊤}
use Rattle.std.proofs.lemmas.List.{length-map}
use Rattle.kn_event.specs.declared.revision.Spec.{Spec}
use Rattle.kn_core.specs.State.{RevisionState}
use Rattle.kn_cell.specs.declared.past.Past.{Past}
use Rattle.kn_cell.specs.Lists.{Each}
use Rattle.kn_io.specs.Links.{Link}
use Rattle.kn_request.specs.declared.slot.WideSlot.{WideSlot}
use Rattle.kn_request.specs.declared.slot.Work.{Work}
use Rattle.kn_request.specs.Terms.{unwatched}
use Rattle.kn_request.specs.Wide.{at_pass, faults_in, memories_in, passes_in}
use Rattle.kn_session.specs.Lists.{HasOne}
use Rattle.kn_session.specs.Own.{IsAloneIn, IsArrivalOf}
use Rattle.kn_session.specs.Passes.{plain_kind}
use Rattle.kn_session.specs.Rounds.{HasTexts}
use Rattle.kn_session.specs.Session.{IsFine}
use Rattle.kn_session.specs.Wide.{WideSides, WideSlotServed, at_flag, at_history, faults_at, wants_at}
use Rattle.kn_session.specs.WidePasses.{EachTakenOut, pass_at}
use Rattle.kn_session.proofs.EndingFacts.{of_new, rounds_fine, rounds_full, short_whole}
use Rattle.kn_session.proofs.PlaceFacts.{mapped_all, mapped_like}
use Rattle.kn_session.proofs.SeenFacts.{seen_alone, seen_fine}
use Rattle.kn_session.proofs.SessionFacts.{rounds_last, some_of}
use Rattle.kn_session.proofs.ShareEndings.{EachEnds, cause_at, wide_last, wide_texts}
use Rattle.kn_session.proofs.ShareFacts.{ending_at, fault_free, full_at, has_place, side_at, want_free}
use Rattle.kn_session.proofs.WideCourse.{Course, course_seen, way_share}

-- ---- works out of which the passes were taken

pub taken_empty : (ws us : List Work) → EachTakenOut ws us → (v : ℕ) → at_pass (passes_in us) v ≡ None
taken_empty ws us out = mapped_all (λ (w : Work). w.pass) None us (λ v d low. let len = out.0 in (out.1 v d (omega (arith, len, low))).empty)

-- ---- what is known later

course_ends : {C L : Type 0} (at : WideSlot C L → WideSides) (reading : ℕ → Type 0) (specs : List Spec) (bs : List RevisionState) (room rounds start : ℕ) (slots slots' : List (WideSlot C L)) (ws ws' : List (Option Link)) (ks ks' : List ℕ) (hs : List (List Past))
    → (x : Course at reading specs bs room rounds start slots slots' ws ws' ks ks' hs) → (i : ℕ) (d : WideSlot C L) → i < length slots → EachEnds hs (passes_in (slice_index_or x.way.run.mids i d).works.items)
course_ends at reading specs bs room rounds start slots slots' ws ws' ks ks' hs x i d low v q is =
    let r = x.way.run.ran.1 i d low in
    let m = slice_index_or x.way.run.mids i d in
    let n1 = has_place (passes_in m.works.items) v q is in
    let n2 = length-map m.works.items (λ (w : Work). w.pass) in
    let n3 = r.done.worked in
    let n4 = r.given_is.0 in
    let n5 = x.way.opened.first_count in
    let count = x.way.count in
    let inside : v < length specs = omega arith in
    let lowb : v < length bs = omega arith in
    let b = some_of bs v lowb in
    let seen = course_seen at reading specs bs room rounds start slots slots' ws ws' ks ks' hs x v b inside in
    let n6 = x.way.run.ran.0 in
    let part = seen.kept i d (omega arith) q is in
    let alone = seen_alone (pass_at v) x.way.run.mids reading (plain_kind (slice_index_or bs v b) room) start _ _ _ _ (at_history hs v) seen x.laws in
    (part.front, (λ a has. subst (λ k. IsAloneIn (at_history hs v) k a) (sym part.named) (alone (2 + i) a (subst (HasOne (IsArrivalOf a)) part.whole has))))

-- ---- a slot

course_slot : {C L : Type 0} (at : WideSlot C L → WideSides) (reading : ℕ → Type 0) (specs : List Spec) (bs : List RevisionState) (room rounds start : ℕ) (slots slots' : List (WideSlot C L)) (ws ws' : List (Option Link)) (ks ks' : List ℕ) (hs : List (List Past))
    → (x : Course at reading specs bs room rounds start slots slots' ws ws' ks ks' hs) → (i : ℕ) (d : WideSlot C L) → i < length slots
    → WideSlotServed reading specs bs room rounds hs i (at (slice_index_or slots i d)) (at (slice_index_or x.way.run.mids i d)) (faults_in (slice_index_or x.way.run.mids i d).works.items) (memories_in (slice_index_or x.way.run.mids i d).works.items)
course_slot at reading specs bs room rounds start slots slots' ws ws' ks ks' hs x i d low =
    let s = slice_index_or slots i d in
    let m = slice_index_or x.way.run.mids i d in
    let r = x.way.run.ran.1 i d low in
    let all = r.done.all in
    let es = all.endings in
    let given = passes_in r.given in
    let last = passes_in m.works.items in
    let sd0 = some_of specs 0 x.way.some in
    let ends = course_ends at reading specs bs room rounds start slots slots' ws ws' ks ks' hs x i d low in
    let laws = x.laws in
    let n1 = x.way.opened.cell_count in
    let n6 = x.way.run.ran.0 in
    let count = x.way.count in
    let lasting = wide_last laws hs reading specs sd0 (i * rounds) es given last (at s) (at m) ends all.rounds in
    record {
      firsts = given;
      lasts = last;
      all = record { endings = es; all = all.all; rounds = lasting; faulty = all.faulty; wanting = all.wanting };
      shares = λ v b inside.
          let sd = some_of specs v inside in
          let c = some_of x.way.cells v (omega arith) in
          let spec = slice_index_or specs v sd in
          let h = at_history hs v in
          let ss = map (ending_at v) es in
          let y = way_share at reading specs bs room rounds start slots slots' ws ws' ks ks' x.way v sd b c inside i d low in
          let seen = course_seen at reading specs bs room rounds start slots slots' ws ws' ks ks' hs x v b inside in
          let part = seen.kept i d (omega arith) y.new y.is in
          let end = ends v y.new y.is in
          let later = rounds_last laws h (λ a b. unwatched reading) spec (i * rounds) ss y.old y.new (side_at v (at s)) (side_at v (at m)) end.0 end.1 y.rounds in
          record {
            old = y.old;
            new = y.new;
            was = y.was;
            is = y.is;
            fresh = y.fresh;
            part = part;
            full = λ has. short_whole (slice_index_or bs v b) room h (rounds_full laws h (plain_kind (slice_index_or bs v b) room) (λ a b. unwatched reading) spec (i * rounds) ss y.old y.new (side_at v (at s)) (side_at v (at m))
                (of_new (plain_kind (slice_index_or bs v b) room) (2 + i) y.old y.fresh) later (full_at v es has));
            cause = λ f. cause_at (λ _. ⊤) reading specs v (i * rounds) es given last (at s) (at m) (sym (all.faulty v inside) ∙ f) all.rounds;
          };
      texts = λ none.
          let texts = wide_texts (λ _. ⊤) reading specs (i * rounds) es given last (at s) (at m) x.way.some (λ v inside. sym (all.faulty v inside) ∙ none v inside) all.rounds in
          subst (λ k. HasTexts k (at s).said (at m).said) all.all texts;
    }

pub course_slots : {C L : Type 0} (at : WideSlot C L → WideSides) (reading : ℕ → Type 0) (specs : List Spec) (bs : List RevisionState) (room rounds start : ℕ) (slots slots' : List (WideSlot C L)) (ws ws' : List (Option Link)) (ks ks' : List ℕ) (hs : List (List Past))
    → (x : Course at reading specs bs room rounds start slots slots' ws ws' ks ks' hs) → (i : ℕ) (d : WideSlot C L) → i < length slots
    → WideSlotServed reading specs bs room rounds hs i (at (slice_index_or slots i d)) (at (slice_index_or slots' i d)) (faults_in (slice_index_or slots' i d).works.items) (memories_in (slice_index_or slots' i d).works.items)
course_slots at reading specs bs room rounds start slots slots' ws ws' ks ks' hs x i d low =
    let n6 = x.way.run.ran.0 in
    let s = slice_index_or slots i d in
    let m = slice_index_or x.way.run.mids i d in
    let t = slice_index_or slots' i d in
    let out = x.way.run.out.1 i d (omega arith) in
    let sides : at t ≡ at m = x.way.same m t out.1 in
    let faults : faults_in t.works.items ≡ faults_in m.works.items = mapped_like (λ (w : Work). w.fault) m.works.items t.works.items out.0.0 (λ v k inside. (out.0.1 v k inside).fault) in
    let wants : memories_in t.works.items ≡ memories_in m.works.items = mapped_like (λ (w : Work). w.memory) m.works.items t.works.items out.0.0 (λ v k inside. (out.0.1 v k inside).memory) in
    let it = course_slot at reading specs bs room rounds start slots slots' ws ws' ks ks' hs x i d low in
    let by : WideSides → List Bool → List Bool → Type 0 = λ a f w. WideSlotServed reading specs bs room rounds hs i (at s) a f w in
    subst (λ a. by a (faults_in t.works.items) (memories_in t.works.items)) (sym sides)
    (subst (λ f. by (at m) f (memories_in t.works.items)) (sym faults) (subst (λ w. by (at m) (faults_in m.works.items) w) (sym wants) it))

-- ---- where nothing is marked at a revision, none of its requests was finished as failed

pub course_fine : {C L : Type 0} (at : WideSlot C L → WideSides) (reading : ℕ → Type 0) (specs : List Spec) (bs : List RevisionState) (room rounds start : ℕ) (slots slots' : List (WideSlot C L)) (ws ws' : List (Option Link)) (ks ks' : List ℕ) (hs : List (List Past))
    → (x : Course at reading specs bs room rounds start slots slots' ws ws' ks ks' hs) → (v : ℕ) → v < length specs
    → ((i : ℕ) (d : WideSlot C L) → i < length slots' → (at_flag (faults_in (slice_index_or slots' i d).works.items) v ≡ false) × (at_flag (memories_in (slice_index_or slots' i d).works.items) v ≡ false))
    → Each IsFine (at_history hs v)
course_fine at reading specs bs room rounds start slots slots' ws ws' ks ks' hs x v inside flags =
    let count = x.way.count in
    let lowb : v < length bs = omega arith in
    let b = some_of bs v lowb in
    let sd = some_of specs v inside in
    let n1 = x.way.opened.cell_count in
    let c = some_of x.way.cells v (omega arith) in
    let n6 = x.way.run.ran.0 in
    let n7 = x.way.run.out.0 in
    let seen = course_seen at reading specs bs room rounds start slots slots' ws ws' ks ks' hs x v b inside in
    seen_fine (pass_at v) x.way.run.mids reading (plain_kind (slice_index_or bs v b) room) start _ _ _ _ (at_history hs v) seen (λ i d low.
    let low' : i < length slots = omega arith in
    let y = way_share at reading specs bs room rounds start slots slots' ws ws' ks ks' x.way v sd b c inside i d low' in
    let r = x.way.run.ran.1 i d low' in
    let all = r.done.all in
    let m = slice_index_or x.way.run.mids i d in
    let t = slice_index_or slots' i d in
    let out = x.way.run.out.1 i d low in
    let flag = flags i d (omega arith) in
    let faults = mapped_like (λ (w : Work). w.fault) m.works.items t.works.items out.0.0 (λ k e j. (out.0.1 k e j).fault) in
    let wants = mapped_like (λ (w : Work). w.memory) m.works.items t.works.items out.0.0 (λ k e j. (out.0.1 k e j).memory) in
    let none : list_any (faults_at v) all.endings ≡ false = sym (all.faulty v inside) ∙ (ap (λ l. at_flag l v) (sym faults) ∙ flag.0) in
    let none' : list_any (wants_at v) all.endings ≡ false = sym (all.wanting v inside) ∙ (ap (λ l. at_flag l v) (sym wants) ∙ flag.1) in
    let grown = rounds_fine (λ _. ⊤) (λ a b. unwatched reading) (slice_index_or specs v sd) (i * rounds) (map (ending_at v) all.endings) y.old y.new _ _ (fault_free v all.endings none) (want_free v all.endings none') y.rounds in
    (y.new, y.is, subst (Each IsFine) (sym (grown.mine ∙ ap (λ l. l ++ grown.rows) y.fresh.mine)) grown.fine))
