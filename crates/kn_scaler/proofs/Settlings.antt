-- Rows one after the other.
use Rattle.std.proofs.Common.{◌≡◌, ℕ, ◌+◌, ◌<◌, Bool, true, false, List, [], ◌∷◌, ◌++◌, length, refl, sym, ap, ◌∙◌, subst, append-nil, append_assoc, take, drop, get_or, add-one, None, Some}
use Rattle.std.specs.Prelude.{Option}
use Rattle.std.proofs.lemmas.List.{take_more}
use Rattle.std.proofs.Math.Logic.{∥∥₁_elim, ∥∥₁_map}
use Rattle.std.proofs.Math.Seq.{drop-cons}
use denote.Struct.Props.{props}
use Rattle.kn_event.specs.declared.entry.Entry.{Entry}
use Rattle.kn_event.specs.declared.entry.Row.{Row}
use Rattle.kn_event.specs.declared.entry.Row.TheVariants as row
use Rattle.kn_event.specs.declared.event.Stand.TheVariants as stand
use Rattle.kn_event.specs.declared.revision.Spec.{Spec}
use Rattle.kn_trace.specs.Rows.{ended_by}
use Rattle.kn_trace.specs.Trace.{Trace, entry}
use Rattle.kn_record.specs.Made.{Holds, IsMade, IsProper}
use Rattle.kn_laws.specs.Kinds.{Each, EachAt}
use Rattle.kn_changes.specs.Changes.{change_by, changes_of}
use Rattle.kn_stats.specs.Totals.{IsTotalsOf}
use Rattle.kn_scaler.specs.Facts.{TraceFacts}
use Rattle.kn_scaler.specs.Rows.{IsBeside, is_quiet, says_scale, settles}
use Rattle.kn_scaler.specs.Stands.{AreNextOfSome, AreNextRows, IsNextOfSome, IsNextRow, ScalerState, IsScalerOfTrace}
use Rattle.kn_scaler.proofs.Others.{row-stands}

-- events made the trace with one more proper row
abbrev pub MadeMore : Type 0
MadeMore = (s : Spec) (c : Trace) (t : ℕ) (x : Row) → IsMade s c → IsProper s c x → IsMade s (c ++ entry t x ∷ [])

-- ---- rows that leave it

quiet_parts : (x : Row) (c : Trace) → is_quiet x ≡ true → (change_by c x ≡ None) × (says_scale x ≡ false)
quiet_parts (row.QueueFull r p) c h = (refl, refl)
quiet_parts (row.Overload r) c h = (refl, refl)
quiet_parts (row.Run r) c h = (refl, refl)
quiet_parts (row.Create p n) c h = (refl, refl)
quiet_parts (row.Limit p n) c h = (refl, refl)
quiet_parts (row.Drain p) c h = (refl, refl)
quiet_parts (row.Remove p) c h = (refl, refl)
quiet_parts (row.LostPod p) c h = (refl, refl)
quiet_parts row.NoData c h = (refl, refl)
quiet_parts (row.NotRunning r) c h = (refl, refl)
quiet_parts (row.NotWaiting r) c h = (refl, refl)
quiet_parts (row.NotStarting p) c h = (refl, refl)
quiet_parts (row.NoPod p) c h = (refl, refl)
quiet_parts _ c h = absurd (cc)

module _ (facts : TraceFacts) (beside : (s : Spec) (c : Trace) (t : ℕ) (x : Row) → IsMade s c → IsProper s c x → says_scale x ≡ false → IsBeside c (entry t x)) where
  quiet_one : (s : Spec) (x : ScalerState) (c : Trace) (r : Row) → IsMade s c → IsProper s c r → is_quiet r ≡ true → IsScalerOfTrace s x c → IsScalerOfTrace s x (c ++ entry x.stats.time r ∷ [])
  quiet_one s x c r made proper quiet stands =
      let parts = quiet_parts r c quiet in
      row-stands facts s x c r x.stats stands (beside s c x.stats.time r made proper parts.1) refl refl None parts.0
      (subst (IsTotalsOf x.stats) (sym (append-nil (changes_of c))) stands.stats)

  pub quiet_all : MadeMore → (s : Spec) (x : ScalerState) (c es : Trace) → IsMade s c → Holds (IsProper s) c es → EachAt x.stats.time es → Each is_quiet es → IsScalerOfTrace s x c → IsScalerOfTrace s x (c ++ es)
  quiet_all more s x c [] made proper at quiet stands = subst (IsScalerOfTrace s x) (sym (append-nil c)) stands
  quiet_all more s x c (e ∷ es) made proper at quiet stands =
      let one : IsScalerOfTrace s x (c ++ e ∷ []) = subst (λ t. IsScalerOfTrace s x (c ++ entry t e.row ∷ [])) (sym at.0) (quiet_one s x c e.row made proper.0 quiet.0 stands) in
      subst (IsScalerOfTrace s x) (append_assoc c (e ∷ []) es)
      (quiet_all more s x (c ++ e ∷ []) es (more s c e.time e.row made proper.0) proper.1 at.1 quiet.1 one)

-- ---- rows of a settling

settling_parts : (x : Row) → settles x ≡ true → (says_scale x ≡ false) × (ended_by x ≡ None)
settling_parts (row.Run r) h = (refl, refl)
settling_parts (row.Assign r p) h = (refl, refl)
settling_parts (row.Remove p) h = (refl, refl)
settling_parts _ h = absurd (cc)

none_some : (o : Option ℕ) (r : ℕ) → o ≡ None → o ≡ Some r → ⊥
none_some o r n s = cc

-- the row is next, and more come after it
pub first_next : (s : Spec) (x : ScalerState) (c : Trace) (e : Entry) (es : List Entry) → AreNextRows x (e ∷ es) s c → IsNextRow x e.row stand.Held false s c
first_next s x c e es next =
    let parts = settling_parts e.row next.kind.0 in
    record {
      stands = next.stands;
      made = next.made;
      proper = next.proper.0;
      told = record { stands = λ r is. absurd (none_some _ r parts.1 is); handed = λ r is. absurd (none_some _ r parts.1 is) };
    }

-- such a row is one of three kinds
pub settles_only : (x : Row) → settles x ≡ true → ((r : ℕ) → x ≡ row.Run r → ⊥) → ((r p : ℕ) → x ≡ row.Assign r p → ⊥) → ((p : ℕ) → x ≡ row.Remove p → ⊥) → ⊥
settles_only (row.Run r) h ran gave gone = ran r refl
settles_only (row.Assign r p) h ran gave gone = gave r p refl
settles_only (row.Remove p) h ran gave gone = gone p refl
settles_only _ h ran gave gone = cc

bool_prop : (a b : Bool) → IsProp (a ≡ b)
bool_prop a b = hlevel props

pub first_settles : (x : ScalerState) (e : Entry) (es : List Entry) → AreNextOfSome x (e ∷ es) → settles e.row ≡ true
first_settles x e es some =
    ∥∥₁_elim some (bool_prop (settles e.row) true)
    (λ (f : (s : Spec) × (c : Trace) × AreNextRows x (e ∷ es) s c). f.2.kind.0)

-- what the call says of the row
abbrev pub Takes : ScalerState → ScalerState → Row → Type 0
Takes x y r = (s : Spec) (c : Trace) → says_scale r ≡ false → IsNextRow x r stand.Held false s c → IsScalerOfTrace s y (c ++ entry x.stats.time r ∷ [])

pub rest_next : MadeMore → (s : Spec) (x y : ScalerState) (c : Trace) (e : Entry) (es : List Entry) → Takes x y e.row → y.stats.time ≡ x.stats.time → AreNextRows x (e ∷ es) s c → AreNextRows y es s (c ++ e ∷ [])
rest_next more s x y c e es takes time next =
    let parts = settling_parts e.row next.kind.0 in
    record {
      stands = subst (λ t. IsScalerOfTrace s y (c ++ entry t e.row ∷ [])) (sym next.at.0) (takes s c parts.0 (first_next s x c e es next));
      made = more s c e.time e.row next.made next.proper.0;
      proper = next.proper.1;
      at = subst (λ t. EachAt t es) (sym time) next.at.1;
      kind = next.kind.1;
    }

pub rest_of_some : MadeMore → (x y : ScalerState) (e : Entry) (es : List Entry) → Takes x y e.row → y.stats.time ≡ x.stats.time → AreNextOfSome x (e ∷ es) → AreNextOfSome y es
rest_of_some more x y e es takes time some =
    ∥∥₁_map some
    (λ (f : (s : Spec) × (c : Trace) × AreNextRows x (e ∷ es) s c). (f.0, f.1 ++ e ∷ [], rest_next more f.0 x y f.1 e es takes time f.2))

pub first_of_some : (x : ScalerState) (e : Entry) (es : List Entry) → AreNextOfSome x (e ∷ es) → IsNextOfSome x e.row stand.Held false
first_of_some x e es some = ∥∥₁_map some (λ (f : (s : Spec) × (c : Trace) × AreNextRows x (e ∷ es) s c). (f.0, f.1, first_next f.0 x f.1 e es f.2))

-- the row at place i, and those after it
pub rows_from : (es : List Entry) (i : ℕ) (e : Entry) → i < length es → e ≡ get_or es i e → drop i es ≡ e ∷ drop (i + 1) es
rows_from es i e lt is = rw add-one (drop-cons es i e lt) ∙ ap (λ (x : Entry). x ∷ drop (i + 1) es) (sym is)

pub rows_up_to : (c es : Trace) (i : ℕ) (e : Entry) → i < length es → e ≡ get_or es i e → (c ++ take i es) ++ e ∷ [] ≡ c ++ take (i + 1) es
rows_up_to c es i e lt is =
    append_assoc c (take i es) (e ∷ []) ∙ ap (λ (x : Entry). c ++ (take i es ++ x ∷ [])) is ∙ ap (λ (xs : Trace). c ++ xs) (sym (take_more es i e lt))
