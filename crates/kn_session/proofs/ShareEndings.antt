-- What the rounds of a slot over several revisions came to: what is known later, the faults, the texts.
use Rattle.std.specs.List.{list_any}
use Rattle.std.proofs.Common.{◌≡◌, ◌≤◌, ◌<◌, inl, inr, ℕ, ◌+◌, List, [], ◌∷◌, Bool, true, false, refl, sym, ap, ◌∙◌, subst, length, map, arith, eqb-true, eq-eqb}
use Rattle.std.specs.Prelude.{Option, None, Some, Result, Ok, Err, ◌&&◌, slice_index_or, ⊤}
use Rattle.std.proofs.lemmas.List.{append-nil}
use Rattle.kn_event.specs.declared.revision.Spec.{Spec}
use Rattle.kn_cell.specs.declared.past.Past.{Past}
use Rattle.kn_cell.specs.Lists.{StartsWith}
use Rattle.kn_cell.specs.Shown.{PassView}
use Rattle.kn_io.specs.Callers.{texts_of}
use Rattle.kn_io.specs.Causes.{Rose}
use Rattle.kn_io.specs.Links.{Link}
use Rattle.kn_head.specs.declared.head.Head.{Head}
use Rattle.kn_head.specs.declared.head.HeadError.{HeadError}
use Rattle.kn_request.specs.declared.slot.Ended.{Ended}
use Rattle.kn_request.specs.declared.slot.Served.{Served}
use Rattle.kn_request.specs.Outside.{Said}
use Rattle.kn_request.specs.Terms.{unwatched}
use Rattle.kn_request.specs.Wide.{IsWideWay, ServesWide, TouchesNone, at_count, at_pass}
use Rattle.kn_session.specs.Laws.{SessionLaws}
use Rattle.kn_session.specs.Lists.{HasOne}
use Rattle.kn_session.specs.Own.{IsAloneIn, IsArrivalOf}
use Rattle.kn_session.specs.Rounds.{HasTexts, is_fault}
use Rattle.kn_session.specs.Wide.{AreWide, EachLasts, HasFaultedAt, OneWide, WideSides, at_history, counts_at, faults_at}
use Rattle.kn_session.proofs.EndingFacts.{either_false, either_true, fault_is, rose_since, rose_until, texts_one, told_trans}
use Rattle.kn_session.proofs.Nexts.{rounds_next}
use Rattle.kn_session.proofs.OwnFacts.{rounds_own}
use Rattle.kn_session.proofs.SessionFacts.{lasts_of}
use Rattle.kn_session.proofs.ShareFacts.{breaks_stay, ending_at, rounds_at, side_at}

-- what is so of each pass at the end: it saw a beginning of its revision's history, and ends its own requests alone
abbrev pub EachEnds : List (List Past) → List (Option PassView) → Type 0
EachEnds hs qs = (v : ℕ) (q : PassView) → at_pass qs v ≡ Some q → StartsWith (at_history hs v) q.seen × ((r : ℕ) → HasOne (IsArrivalOf r) q.mine → IsAloneIn (at_history hs v) q.number r)

pub wide_last : SessionLaws → (hs : List (List Past)) (reading : ℕ → Type 0) (specs : List Spec) (d : Spec) (tag : ℕ) (es : List Ended) (ps qs : List (Option PassView)) (a b : WideSides)
    → EachEnds hs qs → AreWide (λ _. ⊤) reading specs tag es ps qs a b → AreWide (EachLasts hs) reading specs tag es ps qs a b
wide_last laws hs reading specs d tag [] ps qs a b ends r = r
wide_last laws hs reading specs d tag (e ∷ es) ps qs a b ends r =
    let ms = r.0 in
    let lasts : EachLasts hs ms = λ v m is.
    let x = rounds_at (λ _. ⊤) reading specs (tag + 1) es ms qs r.1 b r.3 v d m is in
    let q = x.0 in
    let ss = map (ending_at v) es in
    let next = rounds_next (λ _. ⊤) (λ a b. unwatched reading) (slice_index_or specs v d) (tag + 1) ss m q (side_at v r.1) (side_at v b) x.2 in
    let own = rounds_own (λ _. ⊤) (λ a b. unwatched reading) (slice_index_or specs v d) (tag + 1) ss m q (side_at v r.1) (side_at v b) x.2 in
    let end = ends v q x.1 in
    lasts_of laws (at_history hs v) m q next own end.0 end.1
    in
    let here : OneWide (EachLasts hs) reading specs tag ps ms a r.1 e = record { then = lasts; served = r.2.served; causes = r.2.causes } in
    (ms, r.1, here, wide_last laws hs reading specs d (tag + 1) es ms qs r.1 b ends r.3)

-- ---- faults

record FallsNot (v : ℕ) (a b : WideSides) : Type 0 where
  caller : a.faults ≤ b.faults
  link : at_count a.breaks v ≤ at_count b.breaks v

fall_not : (Then : List (Option PassView) → Type 0) (reading : ℕ → Type 0) (specs : List Spec) (v tag : ℕ) (es : List Ended) (ps qs : List (Option PassView)) (a b : WideSides) → AreWide Then reading specs tag es ps qs a b → FallsNot v a b
fall_not Then reading specs v tag [] ps qs a b r =
    let e = ap (λ (x : WideSides). x.faults) r.1 in
    let f = ap (λ (x : WideSides). at_count x.breaks v) r.1 in
    record { caller = omega (arith, e); link = omega (arith, f) }
fall_not Then reading specs v tag (e ∷ es) ps qs a b r =
    let rest = fall_not Then reading specs v (tag + 1) es r.0 qs r.1 b r.3 in
    let caller = r.2.causes.caller_never_falls in
    let caller' = rest.caller in
    let link = breaks_stay v e.revision a.breaks r.1.breaks r.2.causes.links in
    let link' = rest.link in
    record { caller = omega (arith, caller, caller'); link = omega (arith, link, link') }

both_true : (i j : Bool) → (i && j) ≡ true → (i ≡ true) × (j ≡ true)
both_true true j e = (refl, e)
both_true false j e = absurd (cc)

counts_there : (v u : ℕ) (of : Option ℕ) → counts_at v of ≡ true → of ≡ Some u → u ≡ v
counts_there v u of c is = let e : counts_at v (Some u) ≡ true = subst (λ o. counts_at v o ≡ true) is c in eqb-true u v e

-- where a round that counts at the revision ended in a fault, a count rose: the caller's, or that of the link to the revision
pub cause_at : (Then : List (Option PassView) → Type 0) (reading : ℕ → Type 0) (specs : List Spec) (v tag : ℕ) (es : List Ended) (ps qs : List (Option PassView)) (a b : WideSides) → list_any (faults_at v) es ≡ true
    → AreWide Then reading specs tag es ps qs a b → HasFaultedAt v a b
cause_at Then reading specs v tag [] ps qs a b f r = absurd (cc)
cause_at Then reading specs v tag (e ∷ es) ps qs a b f r =
    let here = r.2.causes in
    let rest = fall_not Then reading specs v (tag + 1) es r.0 qs r.1 b r.3 in
    let links = breaks_stay v e.revision a.breaks r.1.breaks here.links in
    elim (either_true (faults_at v e) (list_any (faults_at v) es) f) [
      | inl now ↦
          let both = both_true (counts_at v e.revision) (is_fault e.served) now in
          elim (fault_is e.served both.1) [
            | inl k ↦ inl (rose_until a.faults r.1.faults b.faults (here.caller k) rest.caller)
            | inr k ↦
                let x = here.link k in
                let same = counts_there v x.0 e.revision both.0 x.1 in
                let rose : Rose (at_count a.breaks v) (at_count r.1.breaks v) = subst (λ u. Rose (at_count a.breaks u) (at_count r.1.breaks u)) same x.2 in
                inr (rose_until (at_count a.breaks v) (at_count r.1.breaks v) (at_count b.breaks v) rose rest.link)
          ]
      | inr later ↦ elim (cause_at Then reading specs v (tag + 1) es r.0 qs r.1 b later r.3) [
        | inl x ↦ inl (rose_since a.faults r.1.faults b.faults here.caller_never_falls x)
        | inr x ↦ inr (rose_since (at_count a.breaks v) (at_count r.1.breaks v) (at_count b.breaks v) links x)
      ]
    ]

-- ---- texts

-- the revision at which the ending counts
abbrev pub place_of : Option ℕ → ℕ
place_of None = 0
place_of (Some u) = u

counts_there_is : (of : Option ℕ) → counts_at (place_of of) of ≡ true
counts_there_is None = eq-eqb 0 0 refl
counts_there_is (Some u) = eq-eqb u u refl

-- it is that of a revision
way_inside : (reading : ℕ → Type 0) (specs : List Spec) (tag : ℕ) (ps qs : List (Option PassView)) (ws ws' : List (Option Link)) (of : Option ℕ) (found : Result Head HeadError) (meant : Served) (text : List ℕ) → 0 < length specs
    → IsWideWay reading specs tag ps qs ws ws' of found meant text → place_of of < length specs
way_inside reading specs tag ps qs ws ws' None found meant text some x = some
way_inside reading specs tag ps qs ws ws' (Some u) (Ok h) meant text some x = x.named.inside
way_inside reading specs tag ps qs ws ws' (Some u) (Err e) meant text some x = absurd x

pub place_inside : (reading : ℕ → Type 0) (specs : List Spec) (tag : ℕ) (e : Ended) (ps qs : List (Option PassView)) (ws ws' : List (Option Link)) (a a' : Option Said) → 0 < length specs
    → ServesWide reading specs tag ps qs ws ws' e.revision a a' e.served → place_of e.revision < length specs
place_inside reading specs tag e ps qs ws ws' a a' some x = elim x [
  | inl idle ↦ (let k : place_of e.revision ≡ 0 = ap place_of idle.0.0 in omega (arith, k, some))
  | inr m ↦ way_inside reading specs tag ps qs ws ws' e.revision m.found m.meant m.text some m.way
]

none_true : (i j : Bool) → i ≡ true → (i && j) ≡ false → j ≡ false
none_true true j e f = f
none_true false j e f = absurd (cc)

-- where no round ended in a fault, each added one text
pub wide_texts : (Then : List (Option PassView) → Type 0) (reading : ℕ → Type 0) (specs : List Spec) (tag : ℕ) (es : List Ended) (ps qs : List (Option PassView)) (a b : WideSides) → 0 < length specs
    → ((v : ℕ) → v < length specs → list_any (faults_at v) es ≡ false) → AreWide Then reading specs tag es ps qs a b → HasTexts (length es) a.said b.said
wide_texts Then reading specs tag [] ps qs a b some f r = λ t is. (t, ap (λ (v : WideSides). v.said) r.1 ∙ is, ([], refl, sym (append-nil (texts_of t.kept t.text))))
wide_texts Then reading specs tag (e ∷ es) ps qs a b some f r =
    let inside = place_inside reading specs tag e ps r.0 a.wires r.1.wires a.said r.1.said some r.2.served in
    let here = (either_false (faults_at (place_of e.revision) e) (list_any (faults_at (place_of e.revision)) es) (f (place_of e.revision) inside)).0 in
    let fine = none_true (counts_at (place_of e.revision) e.revision) (is_fault e.served) (counts_there_is e.revision) here in
    let n : 1 + length es ≡ length (e ∷ es) = omega arith in
    let one = texts_one ((e.revision ≡ None) × TouchesNone ps r.0 a.wires r.1.wires) (IsWideWay reading specs tag ps r.0 a.wires r.1.wires e.revision) a.said r.1.said e.served fine r.2.served in
    let rest = wide_texts Then reading specs (tag + 1) es r.0 qs r.1 b some (λ v low. (either_false (faults_at v e) (list_any (faults_at v) es) (f v low)).1) r.3 in
    subst (λ k. HasTexts k a.said b.said) n (told_trans 1 (length es) a.said r.1.said b.said one rest)
