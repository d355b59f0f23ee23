-- The rounds of a slot over several revisions, as one of the revisions sees them.
use Rattle.std.specs.List.{list_any}
use Rattle.std.proofs.Common.{◌≡◌, ◌⊎◌, ◌≤◌, ◌<◌, inl, inr, ℕ, suc, zero, ◌+◌, List, [], ◌∷◌, Bool, true, false, refl, sym, ap, ◌∙◌, subst, length, map, arith, eqb-true, eq-eqb}
use Rattle.std.specs.Prelude.{Option, None, Some, Result, Ok, Err, cond, ◌==◌, ◌||◌, ◌&&◌, slice_index_or, ⊤}
use Rattle.std.proofs.lemmas.Bool.{cases_eq}
use Rattle.std.proofs.lemmas.List.{get_or-set_same, get_or-set_other}
use Rattle.kn_event.specs.declared.revision.Spec.{Spec}
use Rattle.kn_cell.specs.Shown.{PassView, Looks}
use Rattle.kn_io.specs.Causes.{Rose}
use Rattle.kn_io.specs.Links.{Link}
use Rattle.kn_head.specs.declared.answer.Answer.TheVariants as answer
use Rattle.kn_head.specs.declared.head.Head.{Head}
use Rattle.kn_head.specs.declared.head.HeadError.{HeadError}
use Rattle.kn_head.specs.declared.head.HeadError.TheVariants as error
use Rattle.kn_head.specs.Answers.{answered}
use Rattle.kn_request.specs.declared.slot.Ended.{Ended}
use Rattle.kn_request.specs.declared.slot.Served.{Served}
use Rattle.kn_request.specs.declared.slot.Served.TheVariants as served
use Rattle.kn_request.specs.Answers.{IsFor}
use Rattle.kn_request.specs.One.{IsEvent}
use Rattle.kn_request.specs.Terms.{unwatched}
use Rattle.kn_request.specs.Wide.{BreaksAt, IsWideWay, ServesAt, at_count, at_pass, at_wire}
use Rattle.kn_session.specs.Lists.{HasOne}
use Rattle.kn_session.specs.Rounds.{IsFullOf, IsRounds, OneRound, Sides, any_fault, any_memory, is_fault, is_memory}
use Rattle.kn_session.specs.Wide.{AreWide, IsFullAt, OneWide, WideSides, counts_at, faults_at, wants_at}
use Rattle.kn_session.proofs.EndingFacts.{either_false}

-- ---- one revision's side

abbrev pub side_at : ℕ → WideSides → Sides
side_at v a = record { said = None; faults = a.faults; wire = at_wire a.wires v; breaks = at_count a.breaks v }

-- to a revision that was not named a round is as one that was refused
abbrev pub elsewhere : Served
elsewhere = served.Refused answer.BadHead

abbrev pub ending_by : ℕ → Option ℕ → Served → Served
ending_by v None s = elsewhere
ending_by v (Some u) s = cond (u == v) s elsewhere

abbrev pub ending_at : ℕ → Ended → Served
ending_at v e = ending_by v e.revision e.served

pub has_place : (ps : List (Option PassView)) (v : ℕ) (p : PassView) → at_pass ps v ≡ Some p → v < length ps
has_place [] zero p is = absurd (cc)
has_place [] (suc v) p is = absurd (cc)
has_place (o ∷ ps) zero p is = omega arith
has_place (o ∷ ps) (suc v) p is = let l = has_place ps v p is in omega arith

-- ---- one round

-- the head named the revision
record IsHere (reading : ℕ → Type 0) (spec : Spec) (tag v : ℕ) (p : PassView) (qs : List (Option PassView)) (w w' : Option Link) (of : Option ℕ) (found : Result Head HeadError) (meant : Served) (text : List ℕ) : Type 0 where
  named : of ≡ Some v
  head : Head
  found_is : found ≡ Ok head
  new : PassView
  is : at_pass qs v ≡ Some new
  later : (new ≡ p) ⊎ Looks p new
  names : IsFor spec head
  event : IsEvent (unwatched reading) spec.timeout_ms tag head p new w w' meant text

-- it did not
record IsElsewhere (v : ℕ) (p : PassView) (qs : List (Option PassView)) (ws ws' : List (Option Link)) (of : Option ℕ) : Type 0 where
  named : of ≡ Some v → ⊥
  still : at_pass qs v ≡ Some p
  unused : at_wire ws' v ≡ at_wire ws v

none_named : (v : ℕ) (of : Option ℕ) → of ≡ None → of ≡ Some v → ⊥
none_named v of e f = cc

here_of : (reading : ℕ → Type 0) (specs : List Spec) (tag : ℕ) (ps qs : List (Option PassView)) (ws ws' : List (Option Link)) (v : ℕ) (h : Head) (meant : Served) (text : List ℕ) (d : Spec) (p : PassView)
    → at_pass ps v ≡ Some p → ServesAt reading specs tag ps qs ws ws' v h meant text → IsHere reading (slice_index_or specs v d) tag v p qs (at_wire ws v) (at_wire ws' v) (Some v) (Ok h) meant text
here_of reading specs tag ps qs ws ws' v h meant text d p is x =
    let same : x.old ≡ p = (let a = x.was in cc) in
    let spec : x.named.spec ≡ slice_index_or specs v d = sym (x.named.spec_is d) in
    let event : IsEvent (unwatched reading) x.named.spec.timeout_ms tag h p x.new (at_wire ws v) (at_wire ws' v) meant text =
    subst (λ (o : PassView). IsEvent (unwatched reading) x.named.spec.timeout_ms tag h o x.new (at_wire ws v) (at_wire ws' v) meant text) same x.event in
    record {
      named = refl;
      head = h;
      found_is = refl;
      new = x.new;
      is = ap (λ l. at_pass l v) x.now ∙ get_or-set_same ps v (Some x.new) None (has_place ps v p is);
      later = subst (λ (o : PassView). (x.new ≡ o) ⊎ Looks o x.new) same x.later;
      names = subst (λ (s : Spec). IsFor s h) spec x.named.names;
      event = subst (λ (s : Spec). IsEvent (unwatched reading) s.timeout_ms tag h p x.new (at_wire ws v) (at_wire ws' v) meant text) spec event;
    }

other_of : (reading : ℕ → Type 0) (specs : List Spec) (tag : ℕ) (ps qs : List (Option PassView)) (ws ws' : List (Option Link)) (u v : ℕ) (h : Head) (meant : Served) (text : List ℕ) (p : PassView)
    → (v ≡ u → ⊥) → at_pass ps v ≡ Some p → ServesAt reading specs tag ps qs ws ws' u h meant text → IsElsewhere v p qs ws ws' (Some u)
other_of reading specs tag ps qs ws ws' u v h meant text p ne is x = record {
  named = λ e. ne (cc);
  still = ap (λ l. at_pass l v) x.now ∙ (get_or-set_other ps u v (Some x.new) None ne ∙ is);
  unused = ap (λ l. at_wire l v) x.wires ∙ get_or-set_other ws u v (at_wire ws' u) None ne;
}

at_way : (reading : ℕ → Type 0) (specs : List Spec) (tag : ℕ) (ps qs : List (Option PassView)) (ws ws' : List (Option Link)) (of : Option ℕ) (found : Result Head HeadError) (meant : Served) (text : List ℕ) (v : ℕ) (d : Spec) (p : PassView)
    → at_pass ps v ≡ Some p → IsWideWay reading specs tag ps qs ws ws' of found meant text
    → IsHere reading (slice_index_or specs v d) tag v p qs (at_wire ws v) (at_wire ws' v) of found meant text ⊎ IsElsewhere v p qs ws ws' of
at_way reading specs tag ps qs ws ws' (Some u) (Ok h) meant text v d p is x = elim (cases_eq v u) [
  | inl e ↦
      let x' : ServesAt reading specs tag ps qs ws ws' v h meant text = subst (λ k. ServesAt reading specs tag ps qs ws ws' k h meant text) (sym e) x in
      let it = here_of reading specs tag ps qs ws ws' v h meant text d p is x' in
      inl (subst (λ k. IsHere reading (slice_index_or specs v d) tag v p qs (at_wire ws v) (at_wire ws' v) (Some k) (Ok h) meant text) e it)
  | inr ne ↦ inr (other_of reading specs tag ps qs ws ws' u v h meant text p ne is x)
]
at_way reading specs tag ps qs ws ws' None (Ok h) meant text v d p is x = inr (record {
  named = λ e. none_named v None refl e;
  still = ap (λ l. at_pass l v) x.1.passes ∙ is;
  unused = ap (λ l. at_wire l v) x.1.wires;
})
at_way reading specs tag ps qs ws ws' (Some u) (Err e) meant text v d p is x = absurd x
at_way reading specs tag ps qs ws ws' None (Err e) meant text v d p is x = inr (record {
  named = λ e. none_named v None refl e;
  still = ap (λ l. at_pass l v) x.0.passes ∙ is;
  unused = ap (λ l. at_wire l v) x.0.wires;
})

-- ---- counts never fall

pub breaks_stay : (v : ℕ) (of : Option ℕ) (bs bs' : List ℕ) → BreaksAt of bs bs' → at_count bs v ≤ at_count bs' v
breaks_stay v None bs bs' e = let k = ap (λ l. at_count l v) e in omega arith
breaks_stay v (Some u) bs bs' e = elim (cases_eq v u) [
  | inl same ↦ subst (λ k. at_count bs k ≤ at_count bs' k) (sym same) e.1
  | inr ne ↦ (let k = ap (λ l. at_count l v) e.0 ∙ get_or-set_other bs u v (at_count bs' u) 0 ne in omega (arith, k))
]

-- ---- as a round of the revision alone

idle_round : (reading : ℕ → Type 0) (spec : Spec) (tag v : ℕ) (p : PassView) (a b : WideSides) → at_wire b.wires v ≡ at_wire a.wires v → a.faults ≤ b.faults → at_count a.breaks v ≤ at_count b.breaks v
    → OneRound (λ _. ⊤) (λ a b. unwatched reading) spec tag p p (side_at v a) (side_at v b) elsewhere
idle_round reading spec tag v p a b w f k = record {
  later = inl refl;
  then = tt;
  served = inr (record {
    found = Err error.Malformed;
    meant = elsewhere;
    text = answered answer.BadHead;
    way = (record { pass = refl; unused = w }, (refl, refl));
    answers = inl refl;
    talks = λ t none. absurd (cc);
  });
  causes = record { caller_never_falls = f; caller = λ e. absurd (cc); link_never_falls = k; link = λ e. absurd (cc) };
}

elsewhere_is : (v : ℕ) (of : Option ℕ) (s : Served) → (of ≡ Some v → ⊥) → ending_by v of s ≡ elsewhere
elsewhere_is v None s not = refl
elsewhere_is v (Some u) s not = by_test (u == v) refl
  where
    by_test : (b : Bool) → (u == v) ≡ b → cond b s elsewhere ≡ elsewhere
    by_test true e = absurd (not (ap (λ k. Some k) (eqb-true u v e)))
    by_test false e = refl

here_is : (v : ℕ) (of : Option ℕ) (s : Served) → of ≡ Some v → ending_by v of s ≡ s
here_is v of s is = ap (λ o. ending_by v o s) is ∙ ap (λ b. cond b s elsewhere) (eq-eqb v v refl)

pub one_at : (Then : List (Option PassView) → Type 0) (reading : ℕ → Type 0) (specs : List Spec) (tag : ℕ) (ps qs : List (Option PassView)) (a b : WideSides) (e : Ended) → OneWide Then reading specs tag ps qs a b e
    → (v : ℕ) (d : Spec) (p : PassView) → at_pass ps v ≡ Some p
    → (q : PassView) × (at_pass qs v ≡ Some q) × OneRound (λ _. ⊤) (λ a b. unwatched reading) (slice_index_or specs v d) tag p q (side_at v a) (side_at v b) (ending_at v e)
one_at Then reading specs tag ps qs a b e one v d p is =
    let spec = slice_index_or specs v d in
    let links = breaks_stay v e.revision a.breaks b.breaks one.causes.links in
    let OneAt : Served → PassView → Type 0 = λ s q. OneRound (λ _. ⊤) (λ a b. unwatched reading) spec tag p q (side_at v a) (side_at v b) s in
    let idle : IsElsewhere v p qs a.wires b.wires e.revision → (q : PassView) × (at_pass qs v ≡ Some q) × OneAt (ending_at v e) q = λ x.
    (p, x.still, subst (λ s. OneAt s p) (sym (elsewhere_is v e.revision e.served x.named)) (idle_round reading spec tag v p a b x.unused one.causes.caller_never_falls links)) in
    elim one.served [
      | inl x ↦ idle (record { named = none_named v e.revision x.0.0; still = ap (λ l. at_pass l v) x.0.1.passes ∙ is; unused = ap (λ l. at_wire l v) x.0.1.wires })
      | inr m ↦ elim (at_way reading specs tag ps qs a.wires b.wires e.revision m.found m.meant m.text v d p is m.way) [
        | inr x ↦ idle x
        | inl x ↦
            let here : OneAt e.served x.new = record {
              later = x.later;
              then = tt;
              served = inr (record { found = Ok x.head; meant = m.meant; text = m.text; way = inl (x.names, x.event); answers = m.answers; talks = λ t none. absurd (cc) });
              causes = record {
                caller_never_falls = one.causes.caller_never_falls;
                caller = one.causes.caller;
                link_never_falls = links;
                link = λ f.
                    let r = one.causes.link f in
                    let same : r.0 ≡ v = (let i = r.1 in let j = x.named in cc) in
                    subst (λ k. Rose (at_count a.breaks k) (at_count b.breaks k)) same r.2;
              };
            } in
            (x.new, x.is, subst (λ s. OneAt s x.new) (sym (here_is v e.revision e.served x.named)) here)
      ]
    ]

-- ---- all rounds

pub rounds_at : (Then : List (Option PassView) → Type 0) (reading : ℕ → Type 0) (specs : List Spec) (tag : ℕ) (es : List Ended) (ps qs : List (Option PassView)) (a b : WideSides) → AreWide Then reading specs tag es ps qs a b
    → (v : ℕ) (d : Spec) (p : PassView) → at_pass ps v ≡ Some p
    → (q : PassView) × (at_pass qs v ≡ Some q) × IsRounds (λ _. ⊤) (λ a b. unwatched reading) (slice_index_or specs v d) tag (map (ending_at v) es) p q (side_at v a) (side_at v b)
rounds_at Then reading specs tag [] ps qs a b r v d p is = (p, ap (λ l. at_pass l v) r.0 ∙ is, (refl, ap (side_at v) r.1))
rounds_at Then reading specs tag (e ∷ es) ps qs a b r v d p is =
    let one = one_at Then reading specs tag ps r.0 a r.1 e r.2 v d p is in
    let rest = rounds_at Then reading specs (tag + 1) es r.0 qs r.1 b r.3 v d one.0 one.1 in
    (rest.0, rest.1, (one.0, side_at v r.1, one.2, rest.2))

-- ---- endings

none_by : (f : Served → Bool) → f elsewhere ≡ false → (v : ℕ) (of : Option ℕ) (s : Served) → (counts_at v of && f s) ≡ false → f (ending_by v of s) ≡ false
none_by f e v None s is = e
none_by f e v (Some u) s is = by_test (u == v) is
  where
    by_test : (b : Bool) → (b && f s) ≡ false → f (cond b s elsewhere) ≡ false
    by_test true i = i
    by_test false i = e

either_none : (i j : Bool) → i ≡ false → j ≡ false → (i || j) ≡ false
either_none i j e f = ap (λ k. k || j) e ∙ f

-- none that counts at the revision ended so, so none of those that it sees did
pub fault_free : (v : ℕ) (es : List Ended) → list_any (faults_at v) es ≡ false → any_fault (map (ending_at v) es) ≡ false
fault_free v [] is = refl
fault_free v (e ∷ es) is =
    let x = either_false (faults_at v e) (list_any (faults_at v) es) is in
    either_none (is_fault (ending_at v e)) (any_fault (map (ending_at v) es)) (none_by is_fault refl v e.revision e.served x.0) (fault_free v es x.1)

pub want_free : (v : ℕ) (es : List Ended) → list_any (wants_at v) es ≡ false → any_memory (map (ending_at v) es) ≡ false
want_free v [] is = refl
want_free v (e ∷ es) is =
    let x = either_false (wants_at v e) (list_any (wants_at v) es) is in
    either_none (is_memory (ending_at v e)) (any_memory (map (ending_at v) es)) (none_by is_memory refl v e.revision e.served x.0) (want_free v es x.1)

pub full_at : (v : ℕ) (es : List Ended) → HasOne (IsFullAt v) es → HasOne IsFullOf (map (ending_at v) es)
full_at v [] has = absurd has
full_at v (e ∷ es) has = elim has [
  | inl x ↦ inl (subst IsFullOf (sym (here_is v e.revision e.served x.0)) x.1)
  | inr x ↦ inr (full_at v es x)
]
