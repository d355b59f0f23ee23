-- Who begins has not ended, and who expires never begins.
use Rattle.std.proofs.Common.{◌≡◌, ℕ, true, false, ◌||◌, ◌⊎◌, inl, inr, [], ◌∷◌, ◌++◌, refl, sym, ap, ◌∙◌, subst}
use Rattle.std.specs.Prelude.{Option, Some}
use Rattle.std.proofs.lemmas.Bool.{eq-eqb}
use Rattle.kn_event.specs.declared.entry.Entry.{Entry}
use Rattle.kn_event.specs.declared.entry.Row.{Row}
use Rattle.kn_event.specs.declared.entry.Row.TheVariants as row
use Rattle.kn_event.specs.declared.revision.Spec.{Spec}
use Rattle.kn_event.specs.Lists.{contains}
use Rattle.kn_trace.specs.Rows.{assigned_by, begun_by, ended_by, expired_by, run_by, taken_by}
use Rattle.kn_trace.specs.Trace.{Trace, assigned, each_row, ended, has_run, held, queued_at, waiting}
use Rattle.kn_record.specs.Facts.{Facts}
use Rattle.kn_record.specs.Made.{IsMade, IsProper}
use Rattle.kn_agenda.proofs.Going.{IsSaidIn, said_in}
use Rattle.kn_agenda.proofs.Keeping.{begun_parts}
use Rattle.kn_agenda.proofs.Passes.{time-some}
use Rattle.kn_agenda.proofs.Said.{said_more, said_new}

-- ---- two entries of one trace

-- they are one, or one of them comes before the other
abbrev pub AreTwo : Trace → Entry → Trace → Entry → Type 0
AreTwo a x b y = (x ≡ y) ⊎ (((m : Trace) × (b ≡ a ++ x ∷ m)) ⊎ ((m : Trace) × (a ≡ b ++ y ∷ m)))

first_is : (x y : Entry) (xs ys : Trace) → x ∷ xs ≡ y ∷ ys → x ≡ y
first_is x y xs ys h = cc

rest_is : (x y : Entry) (xs ys : Trace) → x ∷ xs ≡ y ∷ ys → xs ≡ ys
rest_is x y xs ys h = cc

pub two_of : (a : Trace) (x : Entry) (xs b : Trace) (y : Entry) (ys : Trace) → a ++ x ∷ xs ≡ b ++ y ∷ ys → AreTwo a x b y
two_of [] x xs [] y ys h = inl (first_is x y xs ys h)
two_of [] x xs (v ∷ b) y ys h = inr (inl (b, ap (λ (z : Entry). z ∷ b) (sym (first_is x v xs (b ++ y ∷ ys) h))))
two_of (u ∷ a) x xs [] y ys h = inr (inr (a, ap (λ (z : Entry). z ∷ a) (first_is u y (a ++ x ∷ xs) ys h)))
two_of (u ∷ a) x xs (v ∷ b) y ys h = by (first_is u v (a ++ x ∷ xs) (b ++ y ∷ ys) h) (two_of a x xs b y ys (rest_is u v (a ++ x ∷ xs) (b ++ y ∷ ys) h))
  where
    by : u ≡ v → AreTwo a x b y → AreTwo (u ∷ a) x (v ∷ b) y
    by same (inl k) = inl k
    by same (inr (inl (m, k))) = inr (inl (m, rw (same, k) refl))
    by same (inr (inr (m, k))) = inr (inr (m, rw (same, k) refl))

-- the first entry that says it
pub split_of : (said : Row → Option ℕ) (c : Trace) (n : ℕ) → contains n (each_row said c) ≡ true → (b : ℕ) × IsSaidIn said c n b
split_of said c n h = let time = time-some said c n h in (time.0, said_in said c n time.0 time.1)

pub said_here : (said : Row → Option ℕ) (e : Entry) (m : Trace) (n : ℕ) → said e.row ≡ Some n → contains n (each_row said (e ∷ m)) ≡ true
said_here said e m n h = rw (h, eq-eqb n n refl) refl

-- so it is said in all that holds the entry
pub said_there : (said : Row → Option ℕ) (c b : Trace) (e : Entry) (m : Trace) (n : ℕ) → c ≡ b ++ e ∷ m → said e.row ≡ Some n → contains n (each_row said c) ≡ true
said_there said c b e m n is h = subst (λ (d : Trace). contains n (each_row said d) ≡ true) (sym is) (said_new said b (e ∷ m) n (said_here said e m n h))

-- ---- rows

pub expired_ends : (x : Row) (r : ℕ) → expired_by x ≡ Some r → ended_by x ≡ Some r
expired_ends (row.Expire q) r h = h
expired_ends _ r h = absurd (cc)

not_one : (x : Row) (r : ℕ) → begun_by x ≡ Some r → expired_by x ≡ Some r → ⊥
not_one (row.Assign q p) r h k = cc
not_one (row.Run q) r h k = cc
not_one _ r h k = cc

pub expires_waiting : (s : Spec) (c : Trace) (x : Row) (r : ℕ) → IsProper s c x → expired_by x ≡ Some r → contains r (waiting c) ≡ true
expires_waiting s c (row.Expire q) r h k = let same : q ≡ r = cc in subst (λ (n : ℕ). contains n (waiting c) ≡ true) same h
expires_waiting s c _ r h k = absurd (cc)

module _ (facts : Facts) where
  open facts use {kinds.{contains-split}, lists.{first_member}, members.{held_member, queued_member, waiting_member}, proper.{made_at}}

  -- who begins has not ended
  pub begins_open : (s : Spec) (c : Trace) (x : Row) (r : ℕ) → IsProper s c x → begun_by x ≡ Some r → ended c r ≡ false
  begins_open s c (row.Assign q p) r h k = let same : q ≡ r = cc in subst (λ (n : ℕ). ended c n ≡ false) same (held_member c q (first_member q (held c) h.first)).ended
  begins_open s c (row.Run q) r h k = let same : q ≡ r = cc in subst (λ (n : ℕ). ended c n ≡ false) same (queued_member c h.0 q (first_member q (queued_at c h.0) h.1.first)).1.ended
  begins_open s c _ r h k = absurd (cc)

  -- who expired was taken in
  pub expired_taken : (s : Spec) (c : Trace) (r : ℕ) → IsMade s c → contains r (each_row expired_by c) ≡ true → contains r (each_row taken_by c) ≡ true
  expired_taken s c r made h = by (split_of expired_by c r h).1
    where
      by : {b : ℕ} → IsSaidIn expired_by c r b → contains r (each_row taken_by c) ≡ true
      by x =
          let at = made_at s c x.before x.entry x.rest made x.split in
          let here = (waiting_member x.before r (expires_waiting s x.before x.entry.row r at.1 x.says)).0 in
          subst (λ (d : Trace). contains r (each_row taken_by d) ≡ true) (sym x.split) (said_more taken_by x.before (x.entry ∷ x.rest) r here)

  -- where the one that waits has begun
  waits_begun : (c : Trace) (r : ℕ) → contains r (waiting c) ≡ true → contains r (each_row begun_by c) ≡ true → ⊥
  unfolding assigned has_run
  waits_begun c r waits begun =
      let idle = (waiting_member c r waits).1 in
      let a : contains r (each_row assigned_by c) ≡ false = idle.assigned in
      let b : contains r (each_row run_by c) ≡ false = idle.run in
      let on : (contains r (each_row assigned_by c) || contains r (each_row run_by c)) ≡ true = sym (contains-split begun_by assigned_by run_by begun_parts r c) ∙ begun in
      let off : (false || false) ≡ true = rw (a, b) at on in
      cc

  apart_at : (s : Spec) (c : Trace) (r n t : ℕ) → IsMade s c → (b : IsSaidIn begun_by c r n) → (x : IsSaidIn expired_by c r t) → AreTwo b.before b.entry x.before x.entry → ⊥
  unfolding ended
  apart_at s c r n t made b x (inl same) = not_one x.entry.row r (ap (λ (e : Entry). begun_by e.row) (sym same) ∙ b.says) x.says
  apart_at s c r n t made b x (inr (inl (m, is))) =
      let at = made_at s c x.before x.entry x.rest made x.split in
      waits_begun x.before r (expires_waiting s x.before x.entry.row r at.1 x.says) (said_there begun_by x.before b.before b.entry m r is b.says)
  apart_at s c r n t made b x (inr (inr (m, is))) =
      let at = made_at s c b.before b.entry b.rest made b.split in
      let open' : contains r (each_row ended_by b.before) ≡ false = begins_open s b.before b.entry.row r at.1 b.says in
      let over = said_there ended_by b.before x.before x.entry m r is (expired_ends x.entry.row r x.says) in
      cc

  -- nobody begins and expires
  pub no_begun_expired : (s : Spec) (c : Trace) (r : ℕ) → IsMade s c → contains r (each_row begun_by c) ≡ true → contains r (each_row expired_by c) ≡ true → ⊥
  no_begun_expired s c r made hb hx =
      let b = split_of begun_by c r hb in
      let x = split_of expired_by c r hx in
      apart_at s c r b.0 x.0 made b.1 x.1 (two_of b.1.before b.1.entry b.1.rest x.1.before x.1.entry x.1.rest (sym b.1.split ∙ x.1.split))
