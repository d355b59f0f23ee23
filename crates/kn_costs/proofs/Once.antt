-- Who a row begins with is named by no row of that kind before; so each is counted once.
use Rattle.std.proofs.Common.{◌≡◌, ℕ, Bool, true, false, not, ◌&&◌, ◌||◌, List, [], ◌∷◌, ◌++◌, length, refl, sym, ◌∙◌, subst, arith, append-nil, append_assoc, inl, inr}
use Rattle.std.specs.Prelude.{Option, None, Some, ◌==◌, ◌⊎◌}
use Rattle.std.specs.List.{cons_option}
use Rattle.std.proofs.lemmas.Bool.Decides.{nat_tests}
use Rattle.std.proofs.lemmas.List.Elements.{filter_map-append}
use Rattle.std.proofs.lemmas.List.Folds.{list_any-append}
use Rattle.kn_event.specs.declared.entry.Entry.{Entry}
use Rattle.kn_event.specs.declared.entry.Row.{Row}
use Rattle.kn_event.specs.declared.entry.Row.TheVariants as row
use Rattle.kn_event.specs.declared.revision.Spec.{Spec}
use Rattle.kn_event.specs.Lists.{contains}
use Rattle.kn_trace.specs.Rows.{admitted_by, assigned_by, begun_by, created_by, drained_by, gone_by, readied_by, run_by}
use Rattle.kn_trace.specs.Trace.{Trace, assigned, each_row, has_run, held, queued_at, starting_pods}
use Rattle.kn_record.specs.Facts.{Facts}
use Rattle.kn_record.specs.Made.{AreDistinct, IsMade, IsNumbered, IsProper}
use Rattle.kn_record.specs.Rows.{says}
use Rattle.kn_record.specs.Views.{others}
use Rattle.kn_costs.specs.Sums.{unready_by}

-- ---- distinct numbers

distinct_push : (xs : List ℕ) (n : ℕ) → AreDistinct xs → contains n xs ≡ false → AreDistinct (xs ++ n ∷ [])
distinct_push [] n d new = (refl, tt)
distinct_push (y ∷ ys) n d new = (by (y == n) (n == y) refl refl new, distinct_push ys n d.1 (rest (y == n) new))
  where
    rest : (b : Bool) → (b || contains n ys) ≡ false → contains n ys ≡ false
    rest true h = absurd (cc)
    rest false h = h

    by : (a b : Bool) → (y == n) ≡ a → (n == y) ≡ b → (a || contains n ys) ≡ false → contains y (ys ++ n ∷ []) ≡ false
    by true b is turned h = absurd (cc)
    by false true is turned h = absurd (let same : (y == n) ≡ true = grind (arith, nat_tests) in cc)
    by false false is turned h =
        let none : contains y ys ≡ false = d.0 in
        list_any-append (λ z. z == y) ys (n ∷ []) ∙ rw (none, turned) refl

module _ (facts : Facts) where
  open facts use {lists.{contains-filter, distinct-filter, others-length}, kinds.{contains-split}, entries.{contains-push}, members.{contains-starting, created_comes, held_member, queued_member}, proper.{made_at, made_kept}, lists.{first_member}}

  -- lists of the same numbers
  pub same_length : (xs ys : List ℕ) → AreDistinct xs → AreDistinct ys → ((n : ℕ) → contains n xs ≡ contains n ys) → length xs ≡ length ys
  same_length [] [] dx dy same = refl
  same_length [] (y ∷ ys) dx dy same = absurd (let it : false ≡ true = same y ∙ here (y == y) (grind (arith, nat_tests)) in cc)
    where
      here : (b : Bool) → b ≡ true → (b || contains y ys) ≡ true
      here true e = refl
      here false e = absurd (cc)
  same_length (x ∷ xs) ys dx dy same =
      let rest = same_length xs (others x ys) dx.1 (distinct-filter (λ q. not (x == q)) ys dy) (λ n. without n (x == n) refl (same n) ∙ sym (contains-filter (λ q. not (x == q)) n ys)) in
      let there : contains x ys ≡ true = sym (same x) ∙ here (x == x) (grind (arith, nat_tests)) in
      omega (arith, rest, others-length x ys dy there)
    where
      here : (b : Bool) → b ≡ true → (b || contains x xs) ≡ true
      here true e = refl
      here false e = absurd (cc)

      without : (n : ℕ) (b : Bool) → (x == n) ≡ b → (b || contains n xs) ≡ contains n ys → contains n xs ≡ (contains n ys && not b)
      without n true is h =
          let equal : x ≡ n = grind (arith, nat_tests) in
          let none : contains n xs ≡ false = subst (λ (m : ℕ). contains m xs ≡ false) equal dx.0 in
          none ∙ ends (contains n ys)
        where
          ends : (a : Bool) → false ≡ (a && false)
          ends true = refl
          ends false = refl
      without n false is h = h ∙ stays (contains n ys)
        where
          stays : (a : Bool) → a ≡ (a && true)
          stays true = refl
          stays false = refl

  -- ---- nobody is named before

  abbrev pub IsFresh : (Row → Option ℕ) → Type 0
  IsFresh begins = (s : Spec) (c : Trace) (x : Row) (n : ℕ) → IsMade s c → IsProper s c x → begins x ≡ Some n → contains n (each_row begins c) ≡ false

  -- so they are distinct
  walk : (begins : Row → Option ℕ) → IsFresh begins → (s : Spec) (all b c : Trace) → IsMade s all → all ≡ b ++ c → AreDistinct (each_row begins b) → AreDistinct (each_row begins all)
  walk begins fresh s all b [] made is d = subst (λ (t : Trace). AreDistinct (each_row begins t)) (sym (is ∙ append-nil b)) d
  walk begins fresh s all b (x ∷ c) made is d =
      let here = made_at s all b x c made is in
      let more = by (begins x.row) (λ n h. fresh s b x.row n here.0 here.1 h) in
      walk begins fresh s all (b ++ x ∷ []) c made (is ∙ sym (append_assoc b (x ∷ []) c))
      (subst AreDistinct (sym (filter_map-append (λ (e : Entry). begins e.row) b (x ∷ []))) more)
    where
      by : (o : Option ℕ) → ((n : ℕ) → o ≡ Some n → contains n (each_row begins b) ≡ false) → AreDistinct (each_row begins b ++ cons_option o [])
      by None new = subst AreDistinct (sym (append-nil (each_row begins b))) d
      by (Some n) new = distinct_push (each_row begins b) n d (new n refl)

  pub distinct_made : (begins : Row → Option ℕ) → IsFresh begins → (s : Spec) (c : Trace) → IsMade s c → AreDistinct (each_row begins c)
  distinct_made begins fresh s c made = walk begins fresh s c [] c made refl tt

  pub fresh_created : IsFresh created_by
  fresh_created s c (row.Create p m) n made proper is =
      let same : p ≡ n = cc in
      let next = proper.0 in
      by (contains n (each_row created_by c)) (λ h. let low = created_comes c n (made_kept s c made).pods h in absurd (omega arith))
    where
      by : (b : Bool) → (b ≡ true → b ≡ false) → b ≡ false
      by true h = h refl
      by false h = refl
  fresh_created s c _ n made proper is = absurd (cc)

  -- a pod that starts was created, and wasn't Ready
  starts : (a b d g : Bool) → (a && (not b && not d && not g)) ≡ true → (a ≡ true) × (b ≡ false)
  starts true false d g h = (refl, refl)
  starts true true d g h = absurd (cc)
  starts false b d g h = absurd (cc)

  starting_parts : (c : Trace) (p : ℕ) → contains p (starting_pods c) ≡ true → (contains p (each_row created_by c) ≡ true) × (contains p (each_row readied_by c) ≡ false)
  starting_parts c p h =
      starts (contains p (each_row created_by c)) (contains p (each_row readied_by c)) (contains p (each_row drained_by c)) (contains p (each_row gone_by c)) (sym (contains-starting c p) ∙ h)

  pub fresh_readied : IsFresh readied_by
  fresh_readied s c (row.Ready p) n made proper is =
      let same : p ≡ n = cc in
      subst (λ (m : ℕ). contains m (each_row readied_by c) ≡ false) same (starting_parts c p proper).1
  fresh_readied s c _ n made proper is = absurd (cc)

  begun_parts : (x : Row) → ((assigned_by x ≡ begun_by x) × (run_by x ≡ None)) ⊎ ((assigned_by x ≡ None) × (run_by x ≡ begun_by x))
  begun_parts (row.Assign r p) = inl (refl, refl)
  begun_parts (row.Run r) = inr (refl, refl)
  begun_parts _ = inl (refl, refl)

  -- who has begun was assigned, or has a run row
  pub has_begun_by : (c : Trace) (r : ℕ) → contains r (each_row begun_by c) ≡ (assigned c r || has_run c r)
  unfolding assigned has_run
  has_begun_by c r = contains-split begun_by assigned_by run_by begun_parts r c

  -- an admitted one has no run row
  not_run : (c : Trace) (r : ℕ) → IsNumbered c → contains r (each_row admitted_by c) ≡ true → has_run c r ≡ false
  not_run c r numbered admitted = by (has_run c r) (λ h. let none = numbered.direct r (numbered.ran r h) in absurd (cc))
    where
      by : (b : Bool) → (b ≡ true → b ≡ false) → b ≡ false
      by true h = h refl
      by false h = refl

  pub fresh_begun : IsFresh begun_by
  fresh_begun s c (row.Assign r p) n made proper is =
      let same : r ≡ n = cc in
      let member = held_member c r (first_member r (held c) proper.first) in
      let ran = not_run c r (made_kept s c made).requests member.admitted in
      subst (λ (m : ℕ). contains m (each_row begun_by c) ≡ false) same (has_begun_by c r ∙ rw (member.assigned, ran) refl)
  fresh_begun s c (row.Run r) n made (p, proper) is =
      let same : r ≡ n = cc in
      let idle = (queued_member c p r (first_member r (queued_at c p) proper.first)).1 in
      subst (λ (m : ℕ). contains m (each_row begun_by c) ≡ false) same (has_begun_by c r ∙ rw (idle.assigned, idle.run) refl)
  fresh_begun s c _ n made proper is = absurd (cc)

  -- ---- which pods became Ready, and are so no more

  unready_parts : (x : Row) → ((drained_by x ≡ unready_by x) × (gone_by x ≡ None)) ⊎ ((drained_by x ≡ None) × (gone_by x ≡ unready_by x))
  unready_parts (row.Drain p) = inl (refl, refl)
  unready_parts (row.Remove p) = inr (refl, refl)
  unready_parts (row.LostPod p) = inr (refl, refl)
  unready_parts _ = inl (refl, refl)

  pub is_unready : (c : Trace) (p : ℕ) → contains p (each_row unready_by c) ≡ (contains p (each_row drained_by c) || contains p (each_row gone_by c))
  is_unready c p = contains-split unready_by drained_by gone_by unready_parts p c

  readied_walk : (s : Spec) (all b c : Trace) → IsMade s all → all ≡ b ++ c → ((p : ℕ) → contains p (each_row readied_by b) ≡ true → contains p (each_row created_by b) ≡ true)
      → (p : ℕ) → contains p (each_row readied_by all) ≡ true → contains p (each_row created_by all) ≡ true
  readied_walk s all b [] made is so p h =
      let same = is ∙ append-nil b in
      subst (λ (t : Trace). contains p (each_row created_by t) ≡ true) (sym same) (so p (subst (λ (t : Trace). contains p (each_row readied_by t) ≡ true) same h))
  readied_walk s all b (x ∷ c) made is so q h =
      let here = made_at s all b x c made is in
      readied_walk s all (b ++ x ∷ []) c made (is ∙ sym (append_assoc b (x ∷ []) c))
      (λ p h.
      contains-push created_by b x p
      ∙ by p (contains p (each_row readied_by b)) (contains p (each_row created_by b)) (says (created_by x.row) p) (says (readied_by x.row) p) (so p) (λ e. at_row x.row p here.1 e) (sym (contains-push readied_by b x p) ∙ h))
      q h
    where
      by : (p : ℕ) (a d g k : Bool) → (a ≡ true → d ≡ true) → (k ≡ true → d ≡ true) → (a || k) ≡ true → (d || g) ≡ true
      by p true d g k first second h = rw (first refl) refl
      by p false d g true first second h = rw (second refl) refl
      by p false d g false first second h = absurd (cc)

      at_row : (y : Row) (p : ℕ) → IsProper s b y → says (readied_by y) p ≡ true → contains p (each_row created_by b) ≡ true
      at_row (row.Ready q) p proper e =
          let same : q ≡ p = grind (arith, nat_tests) in
          subst (λ (m : ℕ). contains m (each_row created_by b) ≡ true) same (starting_parts b q proper).0
      at_row _ p proper e = absurd (cc)

  pub readied_created : (s : Spec) (c : Trace) → IsMade s c → (p : ℕ) → contains p (each_row readied_by c) ≡ true → contains p (each_row created_by c) ≡ true
  readied_created s c made = readied_walk s c [] c made refl (λ p h. absurd (cc))
