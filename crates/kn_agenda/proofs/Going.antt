-- What an event leaves to be due: nothing that is due after it was due before it.
use Rattle.std.proofs.Common.{◌≡◌, ℕ, ◌+◌, Bool, true, false, ◌⊎◌, inl, inr, List, [], ◌∷◌, ◌++◌, refl, sym, ap, ◌∙◌, subst, arith, append-nil, append_assoc}
use Rattle.std.specs.Prelude.{Option, None, Some, slice_get}
use Rattle.std.specs.List.{filter_map}
use Rattle.std.proofs.lemmas.Bool.{eqb-true}
use Rattle.std.proofs.lemmas.List.Elements.{filter_map-append}
use Rattle.kn_event.specs.declared.entry.Entry.{Entry}
use Rattle.kn_event.specs.declared.entry.Row.{Row}
use Rattle.kn_event.specs.declared.entry.Row.TheVariants as row
use Rattle.kn_event.specs.declared.event.Act.{Act}
use Rattle.kn_event.specs.declared.event.Event.{Event}
use Rattle.kn_event.specs.declared.revision.Spec.{Spec}
use Rattle.kn_trace.specs.Rows.{arrived_by, taken_by}
use Rattle.kn_trace.specs.Trace.{Trace, arrivals, each_row, first_of}
use Rattle.kn_trace.specs.Events.{react}
use Rattle.kn_record.specs.Facts.{Facts}
use Rattle.kn_record.specs.Made.{Holds, IsMade, IsProper}
use Rattle.kn_record.specs.Rows.{says}
use Rattle.kn_laws.specs.ByAct.{AreByAct, IsArrival, IsByAct}
use Rattle.kn_laws.specs.Kinds.{EachAt}
use Rattle.kn_agenda.specs.declared.job.Job.{Job}
use Rattle.kn_agenda.specs.Runs.{ComeByJobs, IsByNextJob}
use Rattle.kn_agenda.specs.Due.{first_time, taken_at, time_where}
use Rattle.kn_agenda.proofs.Hearing.{arrivals_less, holds_rest}

-- ---- who arrives

arrives_by : (a : Act) (x : Row) → IsByAct a x → (arrived_by x ≡ None) ⊎ IsArrival a
arrives_by a (row.Admit r tag) h = inr (tag, h)
arrives_by a (row.QueueFull r pod) h = inr h
arrives_by a (row.Overload r) h = inr h
arrives_by a (row.Direct r p) h = inr h
arrives_by a _ h = inl refl

taken_arrived : (x : Row) (r : ℕ) → taken_by x ≡ Some r → arrived_by x ≡ Some r
taken_arrived (row.Admit q tag) r h = h
taken_arrived (row.Direct q p) r h = h
taken_arrived _ r h = absurd (cc)

pub none_said : (said : Row → Option ℕ) (es : Trace) → ((before : Trace) (x : Entry) (rest : Trace) → es ≡ before ++ x ∷ rest → said x.row ≡ None) → each_row said es ≡ []
none_said said [] all = refl
none_said said (e ∷ es) all = let here = all [] e es refl in rw here (none_said said es (λ before x rest is. all (e ∷ before) x rest (ap (λ (xs : Trace). e ∷ xs) is)))

-- an event that is no arrival brings nobody
pub nobody_arrives : (s : Spec) (c : Trace) (e : Event) → AreByAct s c e → (IsArrival e.act → ⊥) → arrivals (c ++ react s c e) ≡ arrivals c
unfolding arrivals
nobody_arrives s c e by_act other =
    let none = none_said arrived_by (react s c e) (λ before x rest is. by (arrives_by e.act x.row (by_act before x rest is))) in
    rw (filter_map-append (λ (x : Entry). arrived_by x.row) c (react s c e), none, append-nil (each_row arrived_by c)) refl
  where
    by : {o : Option ℕ} → (o ≡ None) ⊎ IsArrival e.act → o ≡ None
    by (inl h) = h
    by (inr h) = absurd (other h)

-- ---- what happens for the first time with these entries

-- the entry that says it first
pub record IsSaidIn (said : Row → Option ℕ) (es : Trace) (n b : ℕ) : Type 0 where
  pub before : Trace
  pub entry : Entry
  pub rest : Trace
  pub split : es ≡ before ++ entry ∷ rest
  pub says : said entry.row ≡ Some n
  pub time : entry.time ≡ b

says_is : (o : Option ℕ) (n : ℕ) → says o n ≡ true → o ≡ Some n
says_is None n h = absurd (cc)
says_is (Some q) n h = ap (λ (m : ℕ). Some m) (eqb-true q n h)

pub said_in : (said : Row → Option ℕ) (es : Trace) (n b : ℕ) → first_time said es n ≡ Some b → IsSaidIn said es n b
unfolding first_time
said_in said [] n b h = absurd (cc)
said_in said (e ∷ es) n b h = by (says (said e.row) n) refl (λ k. said_in said es n b k)
  where
    by : (x : Bool) → says (said e.row) n ≡ x → (first_of (filter_map (λ e. time_where (says (said e.row) n) e) es) ≡ Some b → IsSaidIn said es n b) → IsSaidIn said (e ∷ es) n b
    by true k rest = let same : Some e.time ≡ Some b = rw k at h in record { before = []; entry = e; rest = es; split = refl; says = says_is (said e.row) n k; time = cc }
    by false k rest = let more = rest (rw k at h) in record { before = e ∷ more.before; entry = more.entry; rest = more.rest; split = ap (λ (xs : Trace). e ∷ xs) more.split; says = more.says; time = more.time }

-- it happened before, or it happens now
pub old_or_new : (said : Row → Option ℕ) (c es : Trace) (n b : ℕ) → first_time said (c ++ es) n ≡ Some b → (first_time said c n ≡ Some b) ⊎ IsSaidIn said es n b
unfolding first_time
old_or_new said c es n b h = by (first_of (filter_map f c)) refl (rw (filter_map-append f c es) at h)
  where
    f : Entry → Option ℕ
    f = λ e. time_where (says (said e.row) n) e

    skip : (xs ys : List ℕ) → first_of xs ≡ None → first_of (xs ++ ys) ≡ first_of ys
    skip [] ys k = refl
    skip (x ∷ xs) ys k = absurd (cc)

    keep : (xs ys : List ℕ) (a : ℕ) → first_of xs ≡ Some a → first_of (xs ++ ys) ≡ Some a
    keep [] ys a k = absurd (cc)
    keep (x ∷ xs) ys a k = k

    by : (o : Option ℕ) → first_of (filter_map f c) ≡ o → first_of (filter_map f c ++ filter_map f es) ≡ Some b → (first_of (filter_map f c) ≡ Some b) ⊎ IsSaidIn said es n b
    by None k g = inr (said_in said es n b (sym (skip (filter_map f c) (filter_map f es) k) ∙ g))
    by (Some a) k g = inl (let same : Some a ≡ Some b = sym (keep (filter_map f c) (filter_map f es) a k) ∙ g in k ∙ same)

time_at : (t : ℕ) (es before : Trace) (x : Entry) (rest : Trace) → EachAt t es → es ≡ before ++ x ∷ rest → x.time ≡ t
time_at t es [] x rest each is = (subst (EachAt t) is each).0
time_at t es (e ∷ before) x rest each is = time_at t (before ++ x ∷ rest) before x rest (subst (EachAt t) is each).1 refl

-- what happens with an event happens at its time
pub new_time : (said : Row → Option ℕ) (t : ℕ) (es : Trace) (n b : ℕ) → EachAt t es → IsSaidIn said es n b → b ≡ t
new_time said t es n b each said' = sym said'.time ∙ time_at t es said'.before said'.entry said'.rest each said'.split

module _ (facts : Facts) where
  open facts use {entries.{arrivals-push}, proper.{made_kept, react-holds, taken_next}}

  -- who is taken in with an event has the next number
  pub taken_new : (s : Spec) (c : Trace) (e : Event) (r b : ℕ) → IsMade s c → AreByAct s c e → arrivals (c ++ react s c e) ≡ arrivals c + 1 → IsSaidIn taken_by (react s c e) r b → r ≡ arrivals c
  taken_new s c e r b made by_act one new =
      let kept = made_kept s c made in
      let proper : Holds (IsProper s) c (new.before ++ new.entry ∷ new.rest) = subst (Holds (IsProper s) c) new.split (react-holds s c e kept) in
      let here = (holds_rest (IsProper s) c new.before (new.entry ∷ new.rest) proper).0 in
      let is : r ≡ arrivals (c ++ new.before) = taken_next s (c ++ new.before) new.entry.row r here new.says in
      let low = arrivals_less c new.before in
      let more : arrivals ((c ++ new.before) ++ new.entry ∷ []) ≡ arrivals (c ++ new.before) + 1 = one_more (c ++ new.before) new.entry r (taken_arrived new.entry.row r new.says) in
      let high = arrivals_less ((c ++ new.before) ++ new.entry ∷ []) new.rest in
      let whole : ((c ++ new.before) ++ new.entry ∷ []) ++ new.rest ≡ c ++ react s c e = append_assoc (c ++ new.before) (new.entry ∷ []) new.rest ∙ append_assoc c new.before (new.entry ∷ new.rest) ∙ ap (λ (xs : Trace). c ++ xs) (sym new.split) in
      let all : arrivals (((c ++ new.before) ++ new.entry ∷ []) ++ new.rest) ≡ arrivals (c ++ react s c e) = ap (λ (xs : Trace). arrivals xs) whole in
      omega arith
    where
      one_more : (d : Trace) (x : Entry) (q : ℕ) → arrived_by x.row ≡ Some q → arrivals (d ++ x ∷ []) ≡ arrivals d + 1
      one_more d x q h = arrivals-push d x ∙ rw h refl

  -- each request came at its job's time, and so it is after an event that is the next job's arrival or no arrival
  pub come_more : (s : Spec) (jobs : List Job) (c : Trace) (e : Event) → IsMade s c → AreByAct s c e → EachAt e.time (react s c e)
      → IsByNextJob s jobs c e → ComeByJobs jobs c → ComeByJobs jobs (c ++ react s c e)
  come_more s jobs c e made by_act each next come r b h = by (old_or_new taken_by c (react s c e) r b h) next
    where
      by : (taken_at c r ≡ Some b) ⊎ IsSaidIn taken_by (react s c e) r b → IsByNextJob s jobs c e → (j : Job) × (slice_get jobs r ≡ Some j) × (b ≡ j.time)
      by (inl old) o = come r b old
      by (inr new) (inl other) = absurd (at (arrives_by e.act new.entry.row (by_act new.before new.entry new.rest new.split)))
        where
          at : (arrived_by new.entry.row ≡ None) ⊎ IsArrival e.act → ⊥
          at (inl k) = let some = taken_arrived new.entry.row r new.says in cc
          at (inr k) = other k
      by (inr new) (inr (j, is, time, one)) =
          let same = taken_new s c e r b made by_act one new in
          (j, rw same is, new_time taken_by e.time (react s c e) r b each new ∙ time)
