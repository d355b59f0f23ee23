-- What a slot has of each revision.
use Rattle.std.proofs.Common.{◌≡◌, ◌⊎◌, inl, inr, ℕ, ◌<◌, ◌≤◌, List, map, length, refl, sym, ap, ◌∙◌, subst, arith}
use Rattle.std.proofs.Math.Seq.{take-append_seam}
use Rattle.std.proofs.lemmas.Bool.{cases_eq}
use Rattle.std.proofs.lemmas.List.{get_or_default, get_or-map, get_or-set_same, get_or-set_other, map-set, set-get_or, length-map}
use Rattle.std.specs.Prelude.{◌++◌, take, drop, Bool, Option, None, Some, slice_index_or, slice_set}
use Rattle.atomic_table.specs.Seated.{TableId}
use Rattle.kn_event.specs.declared.revision.Spec.{Spec}
use Rattle.kn_cell.specs.Shown.{Looks, PassView}
use Rattle.kn_io.specs.Links.{Link}
use Rattle.kn_head.specs.declared.head.Head.{Head}
use Rattle.kn_request.specs.declared.slot.Served.{Served}
use Rattle.kn_request.specs.declared.slot.Work.{Work}
use Rattle.kn_request.specs.One.{HasCauses, IsEvent}
use Rattle.kn_request.specs.Terms.{unwatched}
use Rattle.kn_request.specs.Wide.{EachPass, IsNamed, ServesAt, WideCauses, at_count, at_pass, at_wire, passes_in}
use Rattle.kn_request.proofs.Later.{cell_after}

pub same_pass : (p q : PassView) → Some p ≡ Some q → p ≡ q
same_pass p q e = cc

-- a slice that was lent is as it is afterwards
pub lent : {A : Type 0} (n : ℕ) (new old : List A) → length new ≡ n → take n (new ++ drop (length new) old) ≡ new
lent n new old e = subst (λ m. take m (new ++ drop (length new) old) ≡ new) e (take-append_seam new (drop (length new) old))

-- the pass of the revision that is named
pub work_has : (cells : List TableId) (works : List Work) (v : ℕ) (c : TableId) (w : Work) → EachPass cells (passes_in works) → v < length cells → v < length works
    → (p : PassView) × ((slice_index_or works v w).pass ≡ Some p) × (p.cell ≡ slice_index_or cells v c)
work_has cells works v c w each low lw =
    let has = each v c low in
    (has.0, sym (get_or-map (λ (x : Work). x.pass) works v w None lw) ∙ has.1, has.2)

passes_set : (works : List Work) (v : ℕ) (w' : Work) (q : PassView) → w'.pass ≡ Some q → passes_in (slice_set works v w') ≡ slice_set (passes_in works) v (Some q)
passes_set works v w' q is = map-set (λ (x : Work). x.pass) works v w' ∙ ap (slice_set (passes_in works) v) is

-- a flag of a work that stays
pub flags_stay : (flag : Work → Bool) (works : List Work) (v : ℕ) (w w' : Work) → v < length works → w ≡ slice_index_or works v w → flag w' ≡ flag w → map flag (slice_set works v w') ≡ map flag works
flags_stay flag works v w w' lw was same =
    map-set flag works v w' ∙ (ap (slice_set (map flag works) v) (same ∙ (ap flag was ∙ sym (get_or-map flag works v w (flag w) lw))) ∙ set-get_or (map flag works) v (flag w))

-- each is still of its cell
pub each_stays : (cells : List TableId) (works : List Work) (v : ℕ) (c : TableId) (w' : Work) (p q : PassView) → EachPass cells (passes_in works) → length works ≡ length cells → v < length works
    → p.cell ≡ slice_index_or cells v c → (q ≡ p) ⊎ Looks p q → w'.pass ≡ Some q → EachPass cells (passes_in (slice_set works v w'))
each_stays cells works v c w' p q each long lw of so is u d low =
    let ps = passes_in works in
    let set = passes_set works v w' q is in
    elim (cases_eq u v) [
      | inl e ↦
          let at : at_pass (slice_set ps v (Some q)) u ≡ Some q = subst (λ k. at_pass (slice_set ps v (Some q)) k ≡ Some q) (sym e) (get_or-set_same ps v (Some q) None (let long' = length-map works (λ (x : Work). x.pass) in omega (arith, lw, long'))) in
          let cell : slice_index_or cells v c ≡ slice_index_or cells u d = get_or_default cells v c d (omega (arith, lw, long)) ∙ ap (λ k. slice_index_or cells k d) (sym e) in
          (q, ap (λ l. at_pass l u) set ∙ at, cell_after p q so ∙ (of ∙ cell))
      | inr n ↦
          let has = each u d low in
          (has.0, ap (λ l. at_pass l u) set ∙ (get_or-set_other ps v u (Some q) None n ∙ has.1), has.2)
    ]

-- what was served at the revision that is named
pub served_at : (reading : ℕ → Type 0) (specs : List Spec) (tag : ℕ) (works : List Work) (w' : Work) (ws : List (Option Link)) (wire wire' : Option Link) (v : ℕ) (head : Head) (s : Served) (text : List ℕ) (p q : PassView)
    → (named : IsNamed specs v head) → v < length ws → at_pass (passes_in works) v ≡ Some p → w'.pass ≡ Some q → (q ≡ p) ⊎ Looks p q → at_wire ws v ≡ wire → IsEvent (unwatched reading) named.spec.timeout_ms tag head p q wire wire' s text
    → ServesAt reading specs tag (passes_in works) (passes_in (slice_set works v w')) ws (slice_set ws v wire') v head s text
served_at reading specs tag works w' ws wire wire' v head s text p q named low was is so link event =
    let same : at_wire (slice_set ws v wire') v ≡ wire' = get_or-set_same ws v wire' None low in
    record {
      named = named;
      old = p;
      new = q;
      was = was;
      now = passes_set works v w' q is;
      later = so;
      wires = ap (slice_set ws v) (sym same);
      event = subst (λ (x : Option Link). IsEvent (unwatched reading) named.spec.timeout_ms tag head p q x (at_wire (slice_set ws v wire') v) s text) (sym link)
          (subst (λ (y : Option Link). IsEvent (unwatched reading) named.spec.timeout_ms tag head p q wire y s text) (sym same) event);
    }

-- the causes of what was served there
pub causes_at : (callers callers' : ℕ) (bs : List ℕ) (b b' v : ℕ) (s : Served) → v < length bs → at_count bs v ≡ b → HasCauses callers callers' b b' s → WideCauses callers callers' bs (slice_set bs v b') (Some v) s
causes_at callers callers' bs b b' v s low was x =
    let same : at_count (slice_set bs v b') v ≡ b' = get_or-set_same bs v b' 0 low in
    let never = x.link_never_falls in
    record {
      caller_never_falls = x.caller_never_falls;
      caller = x.caller;
      links = (ap (slice_set bs v) (sym same), omega (arith, same, was, never));
      link = λ e. (v, refl, rw (same, was) (x.link e));
    }

-- what the caller counted before that
pub causes_from : (callers callers' callers'' : ℕ) (bs bs' : List ℕ) (of : Option ℕ) (s : Served) → callers ≤ callers' → WideCauses callers' callers'' bs bs' of s → WideCauses callers callers'' bs bs' of s
causes_from callers callers' callers'' bs bs' of s low x =
    let never = x.caller_never_falls in
    record {
      caller_never_falls = omega (arith, low, never);
      caller = λ e. let rose = x.caller e in omega (arith, low, rose);
      links = x.links;
      link = x.link;
    }
