-- What one more row changes of the lives.
use Rattle.std.proofs.Common.{◌≡◌, ◌⊎◌, inl, inr, refl, sym, ap, subst, ◌∙◌, get_or, ℕ, ◌+◌, ◌<◌, Bool, true, false, not, cond, ◌&&◌, ◌||◌, List, [], ◌∷◌, ◌++◌, length, length-append, append-nil, arith, Option, Some, None}
use Rattle.std.specs.Prelude.{◌==◌, IsSome, is_some, unwrap_or}
use Rattle.std.specs.Bool.{then_some}
use Rattle.std.specs.List.{All, cons_option, filter, filter_map}
use Rattle.std.specs.Map.{set_value}
use Rattle.std.specs.Cmp.{nat_eq_equiv}
use Rattle.std.proofs.Math.Bool.{or-false}
use Rattle.std.proofs.lemmas.Bool.{eq-eqb, eqb-true}
use Rattle.std.proofs.lemmas.List.Elements.{filter_agree, filter-append, filter_map-append}
use Rattle.std.proofs.lemmas.Map.{length-set_value, lookup-set_value}
use Rattle.kn_event.specs.declared.entry.Entry.{Entry}
use Rattle.kn_event.specs.declared.entry.Row.{Row}
use Rattle.kn_event.specs.declared.entry.Row.TheVariants as row
use Rattle.kn_event.specs.declared.event.Event.{Event}
use Rattle.kn_event.specs.declared.revision.Spec.{Spec}
use Rattle.kn_event.specs.Lists.{contains, or_else}
use Rattle.kn_trace.specs.Rows.{begun_by, directed_by, ended_by, pod_by, taken_by}
use Rattle.kn_trace.specs.Trace.{Trace, arrivals, each_row, ended, last_of, live, pod_of}
use Rattle.kn_record.specs.Facts.{Facts}
use Rattle.kn_record.specs.Made.{IsNumbered, IsProper}
use Rattle.kn_record.specs.Rows.{moved_by, named_by, says}
use Rattle.kn_record.specs.Views.{others}
use Rattle.kn_lives.specs.declared.lives.Life.{Life}
use Rattle.kn_lives.specs.Lives.{AreLives, life_at, life_in, life_of, tag_of, time_of}
use Rattle.kn_lives.proofs.Pairs.{member_found}

-- ---- times

last_of-end : (y : ℕ) (xs : List ℕ) → last_of (xs ++ y ∷ []) ≡ Some y
last_of-end y [] = refl
last_of-end y (x ∷ xs) = rw (last_of-end y xs) refl

last_of-option : (xs : List ℕ) (o : Option ℕ) → last_of (xs ++ cons_option o []) ≡ or_else o (last_of xs)
last_of-option xs None = ap (λ (l : List ℕ). last_of l) (append-nil xs)
last_of-option xs (Some y) = last_of-end y xs

pub time_of-push : (said : Row → Option ℕ) (c : Trace) (x : Entry) (r : ℕ) → time_of said (c ++ x ∷ []) r ≡ or_else (then_some (says (said x.row) r) x.time) (time_of said c r)
unfolding time_of
time_of-push said c x r =
    let at : Entry → Option ℕ = λ (y : Entry). then_some (says (said y.row) r) y.time in
    rw (filter_map-append at c (x ∷ [])) (last_of-option (filter_map at c) (at x))

-- nobody has a time of a kind of rows that never names them
pub time_of-none : (said : Row → Option ℕ) (c : Trace) (r : ℕ) → contains r (each_row said c) ≡ false → time_of said c r ≡ None
unfolding time_of
time_of-none said c r none = ap (λ (l : List ℕ). last_of l) (empty c none)
  where
    by : (o : Option ℕ) (t : ℕ) (rest : Trace) → contains r (cons_option o (each_row said rest)) ≡ false → (contains r (each_row said rest) ≡ false → filter_map (λ (y : Entry). then_some (says (said y.row) r) y.time) rest ≡ [])
        → cons_option (then_some (says o r) t) (filter_map (λ (y : Entry). then_some (says (said y.row) r) y.time) rest) ≡ []
    by None t rest h more = more h
    by (Some q) t rest h more = two (q == r) h more
      where
        two : (b : Bool) → (b || contains r (each_row said rest)) ≡ false → (contains r (each_row said rest) ≡ false → filter_map (λ (y : Entry). then_some (says (said y.row) r) y.time) rest ≡ [])
            → cons_option (then_some b t) (filter_map (λ (y : Entry). then_some (says (said y.row) r) y.time) rest) ≡ []
        two true h more = absurd (cc)
        two false h more = more h

    empty : (c : Trace) → contains r (each_row said c) ≡ false → filter_map (λ (y : Entry). then_some (says (said y.row) r) y.time) c ≡ []
    empty [] h = refl
    empty (y ∷ rest) h = by (said y.row) y.time rest h (empty rest)

-- ---- a row that says nothing of request q

pub record IsQuietFor (x : Row) (q : ℕ) : Type 0 where
  pub taken : says (taken_by x) q ≡ false
  pub directed : says (directed_by x) q ≡ false
  pub begun : says (begun_by x) q ≡ false
  pub pod : pod_by q x ≡ None
  pub ended : says (ended_by x) q ≡ false

pub quiet_for : (x : Row) (r q : ℕ) → named_by x ≡ Some r → (r == q) ≡ false → IsQuietFor x q
quiet_for (row.Admit n tag) r q is h = let e : n ≡ r = cc in record { taken = ap (λ k. k == q) e ∙ h; directed = refl; begun = refl; pod = refl; ended = refl }
quiet_for (row.QueueFull n pod) r q is h = record { taken = refl; directed = refl; begun = refl; pod = refl; ended = refl }
quiet_for (row.Overload n) r q is h = record { taken = refl; directed = refl; begun = refl; pod = refl; ended = refl }
quiet_for (row.Direct n p) r q is h =
    let e : n ≡ r = cc in
    let no : (n == q) ≡ false = ap (λ k. k == q) e ∙ h in
    record { taken = no; directed = no; begun = refl; pod = rw no refl; ended = refl }
quiet_for (row.Assign n p) r q is h =
    let e : n ≡ r = cc in
    let no : (n == q) ≡ false = ap (λ k. k == q) e ∙ h in
    record { taken = refl; directed = refl; begun = no; pod = rw no refl; ended = refl }
quiet_for (row.Run n) r q is h = let e : n ≡ r = cc in record { taken = refl; directed = refl; begun = ap (λ k. k == q) e ∙ h; pod = refl; ended = refl }
quiet_for (row.Finish n ok) r q is h = let e : n ≡ r = cc in record { taken = refl; directed = refl; begun = refl; pod = refl; ended = ap (λ k. k == q) e ∙ h }
quiet_for (row.Expire n) r q is h = let e : n ≡ r = cc in record { taken = refl; directed = refl; begun = refl; pod = refl; ended = ap (λ k. k == q) e ∙ h }
quiet_for (row.Cancel n) r q is h = let e : n ≡ r = cc in record { taken = refl; directed = refl; begun = refl; pod = refl; ended = ap (λ k. k == q) e ∙ h }
quiet_for (row.LostRequest n) r q is h = let e : n ≡ r = cc in record { taken = refl; directed = refl; begun = refl; pod = refl; ended = ap (λ k. k == q) e ∙ h }
quiet_for _ r q is h = absurd (cc)

-- the row ends r: it does no more
pub record Ends (x : Row) (r : ℕ) : Type 0 where
  pub named : named_by x ≡ Some r
  pub taken : taken_by x ≡ None
  pub begun : begun_by x ≡ None

pub ends : (x : Row) (r : ℕ) → ended_by x ≡ Some r → Ends x r
ends (row.Finish n ok) r h = record { named = h; taken = refl; begun = refl }
ends (row.Expire n) r h = record { named = h; taken = refl; begun = refl }
ends (row.Cancel n) r h = record { named = h; taken = refl; begun = refl }
ends (row.LostRequest n) r h = record { named = h; taken = refl; begun = refl }
ends _ r h = absurd (cc)

-- the row does nothing to anybody
pub record IsIdleRow (x : Row) : Type 0 where
  pub taken : taken_by x ≡ None
  pub quiet : (q : ℕ) → IsQuietFor x q

pub is_idle_row : (x : Row) → taken_by x ≡ None → begun_by x ≡ None → ended_by x ≡ None → IsIdleRow x
is_idle_row (row.Admit r tag) t b e = absurd (cc)
is_idle_row (row.Direct r p) t b e = absurd (cc)
is_idle_row (row.Assign r p) t b e = absurd (cc)
is_idle_row (row.Run r) t b e = absurd (cc)
is_idle_row (row.Finish r ok) t b e = absurd (cc)
is_idle_row (row.Expire r) t b e = absurd (cc)
is_idle_row (row.Cancel r) t b e = absurd (cc)
is_idle_row (row.LostRequest r) t b e = absurd (cc)
is_idle_row _ t b e = record { taken = refl; quiet = λ q. record { taken = refl; directed = refl; begun = refl; pod = refl; ended = refl } }

begun_named : (x : Row) (r : ℕ) → begun_by x ≡ Some r → named_by x ≡ Some r
begun_named (row.Assign n p) r h = h
begun_named (row.Run n) r h = h
begun_named _ r h = absurd (cc)

-- ---- pairs

-- one more pair at the end
pub life_at-push : (l : List (ℕ × Life)) (r : ℕ) (x : Life) (q : ℕ) → life_at (l ++ (r, x) ∷ []) q ≡ or_else (life_at l q) (cond (q == r) (Some x) None)
life_at-push [] r x q = refl
life_at-push (y ∷ ys) r x q = by (q == y.0) (life_at-push ys r x q)
  where
    by : (b : Bool) → life_at (ys ++ (r, x) ∷ []) q ≡ or_else (life_at ys q) (cond (q == r) (Some x) None)
        → cond b (Some y.1) (life_at (ys ++ (r, x) ∷ []) q) ≡ or_else (cond b (Some y.1) (life_at ys q)) (cond (q == r) (Some x) None)
    by true e = refl
    by false e = e

or_else-none : (o : Option Life) → or_else o None ≡ o
or_else-none None = refl
or_else-none (Some x) = refl

not_same : (r q : ℕ) → (q == r) ≡ false → (r == q) ≡ false
not_same r q h = by (r == q) refl
  where
    by : (b : Bool) → (r == q) ≡ b → b ≡ false
    by false e = refl
    by true e = let same : (q == r) ≡ true = eq-eqb q r (sym (eqb-true r q e)) in cc

module _ (facts : Facts) where
  open facts use {entries.{contains-push, ended-push, pod_of-push, view-same}, lists.{contains-filter, first_member, others-length}, kinds.{contains-within, ended_named}}
  open facts use {members.{at_pod_live, held_member, is_live, live_distinct, live_member, pod-none, queued_at_pod, running_parts, begun_taken, taken_comes, next_unnamed, waiting_member}, proper.{made_kept}, views.{live-end}}

  -- ---- whoever the row says nothing of

  live-push : (c : Trace) (x : Entry) (q : ℕ) → contains q (live (c ++ x ∷ [])) ≡ ((contains q (each_row taken_by c) || says (taken_by x.row) q) && not (ended c q || says (ended_by x.row) q))
  unfolding live
  live-push c x q = rw (contains-filter (λ r. not (ended (c ++ x ∷ []) r)) q (each_row taken_by (c ++ x ∷ [])), contains-push taken_by c x q, ended-push c x q) refl

  live-is : (c : Trace) (q : ℕ) → contains q (live c) ≡ (contains q (each_row taken_by c) && not (ended c q))
  unfolding live
  live-is c q = contains-filter (λ r. not (ended c r)) q (each_row taken_by c)

  live-quiet : (c : Trace) (x : Entry) (q : ℕ) → says (taken_by x.row) q ≡ false → says (ended_by x.row) q ≡ false → contains q (live (c ++ x ∷ [])) ≡ contains q (live c)
  live-quiet c x q taken ended' = live-push c x q ∙ rw (taken, ended', or-false (contains q (each_row taken_by c)), or-false (ended c q)) (sym (live-is c q))

  life_in-quiet : (es : List Event) (c : Trace) (x : Entry) (q : ℕ) → IsQuietFor x.row q → life_in es (c ++ x ∷ []) q ≡ life_in es c q
  unfolding life_in
  life_in-quiet es c x q quiet =
      rw (time_of-push taken_by c x q, time_of-push begun_by c x q, contains-push directed_by c x q, pod_of-push c x q, quiet.taken, quiet.begun, quiet.directed, quiet.pod, or-false (contains q (each_row directed_by c))) refl

  life_of-quiet : (es : List Event) (c : Trace) (x : Entry) (q : ℕ) → IsQuietFor x.row q → life_of es (c ++ x ∷ []) q ≡ life_of es c q
  unfolding life_of
  life_of-quiet es c x q quiet = rw (live-quiet c x q quiet.taken quiet.ended, life_in-quiet es c x q quiet) refl

  -- ---- who is live

  pub life_of-live : (es : List Event) (c : Trace) (q : ℕ) → contains q (live c) ≡ true → life_of es c q ≡ Some (life_in es c q)
  unfolding life_of
  life_of-live es c q h = rw h refl

  life_of-gone : (es : List Event) (c : Trace) (q : ℕ) → contains q (live c) ≡ false → life_of es c q ≡ None
  unfolding life_of
  life_of-gone es c q h = rw h refl

  -- only a live request has a life
  known_live : (es : List Event) (c : Trace) (q : ℕ) (x : Life) → life_of es c q ≡ Some x → contains q (live c) ≡ true
  unfolding life_of
  known_live es c q x h = by (contains q (live c)) h
    where
      by : (b : Bool) → cond b (Some (life_in es c q)) None ≡ Some x → b ≡ true
      by true e = refl
      by false e = absurd (cc)

  live_comes : (c : Trace) (q : ℕ) → IsNumbered c → contains q (live c) ≡ true → q < arrivals c
  live_comes c q num h = taken_comes c q num (live_member c q h).0

  -- ---- nobody is taken in, and nobody ends

  live-same : (c : Trace) (x : Entry) → taken_by x.row ≡ None → ended_by x.row ≡ None → live (c ++ x ∷ []) ≡ live c
  unfolding live
  live-same c x taken ends' = view-same taken_by (λ r. not (ended c r)) (λ r. not (ended (c ++ x ∷ []) r)) c x taken (λ q. ap (λ b. not b) (ended-push c x q ∙ rw ends' (or-false (ended c q))))

  pub idle_row : (es : List Event) (c : Trace) (x : Entry) (l k : List (ℕ × Life)) → taken_by x.row ≡ None → begun_by x.row ≡ None → ended_by x.row ≡ None → k ≡ l → AreLives l es c → AreLives k es (c ++ x ∷ [])
  idle_row es c x l k taken begun ended' same are =
      let idle = is_idle_row x.row taken begun ended' in
      subst (λ m. AreLives m es (c ++ x ∷ [])) (sym same)
      (record { each = λ q. are.each q ∙ sym (life_of-quiet es c x q (idle.quiet q)); count = are.count ∙ ap (λ m. length m) (sym (live-same c x taken ended')) })

  -- ---- somebody is taken in

  taken_named : (x : Row) → (taken_by x ≡ None) ⊎ (taken_by x ≡ named_by x)
  taken_named (row.Admit r tag) = inr refl
  taken_named (row.Direct r p) = inr refl
  taken_named _ = inl refl

  begins_named : (x : Row) → (begun_by x ≡ None) ⊎ (begun_by x ≡ named_by x)
  begins_named (row.Assign r p) = inr refl
  begins_named (row.Run r) = inr refl
  begins_named _ = inl refl

  directed_named : (x : Row) → (directed_by x ≡ None) ⊎ (directed_by x ≡ named_by x)
  directed_named (row.Direct r p) = inr refl
  directed_named _ = inl refl

  moved_named : (x : Row) → (moved_by x ≡ None) ⊎ (moved_by x ≡ named_by x)
  moved_named (row.Assign r p) = inr refl
  moved_named (row.Direct r p) = inr refl
  moved_named _ = inl refl

  -- what is known of who is just taken in
  abbrev taken_life : List Event → Entry → ℕ → Life
  taken_life es x r = record { tag = tag_of es r; arrived = x.time; direct = says (directed_by x.row) r; begun = None; pod = pod_by r x.row }

  or_else-no-pod : (o : Option ℕ) → or_else o None ≡ o
  or_else-no-pod None = refl
  or_else-no-pod (Some p) = refl

  new_life : (es : List Event) (c : Trace) (x : Entry) (r : ℕ) → contains r (each_row named_by c) ≡ false → says (taken_by x.row) r ≡ true → ended_by x.row ≡ None → begun_by x.row ≡ None
      → life_of es (c ++ x ∷ []) r ≡ Some (taken_life es x r)
  unfolding life_in ended pod_of
  new_life es c x r unnamed taken ended' begun =
      let none_taken = contains-within taken_by named_by taken_named r c unnamed in
      let none_ended = contains-within ended_by named_by ended_named r c unnamed in
      let none_directed = contains-within directed_by named_by directed_named r c unnamed in
      let never = time_of-none begun_by c r (contains-within begun_by named_by begins_named r c unnamed) in
      let nowhere : pod_of c r ≡ None = ap (λ (l : List ℕ). last_of l) (pod-none r c (contains-within moved_by named_by moved_named r c unnamed)) in
      let alive : contains r (live (c ++ x ∷ [])) ≡ true = live-push c x r ∙ rw (none_taken, none_ended, taken, ended') refl in
      life_of-live es (c ++ x ∷ []) r alive
      ∙ ap (λ (y : Life). Some y) (rw (time_of-push taken_by c x r, time_of-push begun_by c x r, contains-push directed_by c x r, pod_of-push c x r, taken, begun, none_directed, never, nowhere, or_else-no-pod (pod_by r x.row)) refl)

  live-taken : (c : Trace) (x : Entry) (r : ℕ) → taken_by x.row ≡ Some r → ended_by x.row ≡ None → ended c r ≡ false → length (live (c ++ x ∷ [])) ≡ length (live c) + 1
  unfolding live
  live-taken c x r taken ended' out =
      let t : ℕ → Bool = λ q. not (ended (c ++ x ∷ []) q) in
      let same : (q : ℕ) → ended (c ++ x ∷ []) q ≡ ended c q = λ q. ended-push c x q ∙ rw ended' (or-false (ended c q)) in
      let rows : each_row taken_by (c ++ x ∷ []) ≡ each_row taken_by c ++ r ∷ [] = filter_map-append (λ (y : Entry). taken_by y.row) c (x ∷ []) ∙ rw taken refl in
      let last : filter t (r ∷ []) ≡ r ∷ [] = rw (same r, out) refl in
      ap (λ (l : List ℕ). length (filter t l)) rows
      ∙ ap (λ (l : List ℕ). length l) (filter-append t (each_row taken_by c) (r ∷ []))
      ∙ rw (last, length-append) (ap (λ (l : List ℕ). length l + 1) (filter_agree t (λ q. not (ended c q)) (λ q. ap (λ b. not b) (same q)) (each_row taken_by c)))

  pub takes_in : (es : List Event) (c : Trace) (x : Entry) (l k : List (ℕ × Life)) (r : ℕ) (life : Life) → IsNumbered c → r ≡ arrivals c → taken_by x.row ≡ Some r → named_by x.row ≡ Some r → ended_by x.row ≡ None → begun_by x.row ≡ None
      → life ≡ taken_life es x r → k ≡ l ++ (r, life) ∷ [] → AreLives l es c → AreLives k es (c ++ x ∷ [])
  unfolding ended
  takes_in es c x l k r life num next taken named ended' begun is more are =
      subst (λ m. AreLives m es (c ++ x ∷ [])) (sym more)
      (record {
        each = λ q. life_at-push l r life q ∙ by q (q == r) refl;
        count = length-append l ((r, life) ∷ []) ∙ ap (λ n. n + 1) are.count ∙ sym (live-taken c x r taken ended' out);
      })
    where
      unnamed : contains r (each_row named_by c) ≡ false
      unnamed = ap (λ n. contains n (each_row named_by c)) next ∙ next_unnamed c num

      out : ended c r ≡ false
      out = contains-within ended_by named_by ended_named r c unnamed

      gone : contains r (live c) ≡ false
      gone = live-is c r ∙ rw (contains-within taken_by named_by taken_named r c unnamed) refl

      says_r : says (taken_by x.row) r ≡ true
      says_r = rw taken (eq-eqb r r refl)

      by : (q : ℕ) (b : Bool) → (q == r) ≡ b → or_else (life_at l q) (cond (q == r) (Some life) None) ≡ life_of es (c ++ x ∷ []) q
      by q true e =
          let same = eqb-true q r e in
          let before : life_at l q ≡ None = are.each q ∙ ap (λ n. life_of es c n) same ∙ life_of-gone es c r gone in
          rw (before, e) (ap (λ (y : Life). Some y) is ∙ sym (new_life es c x r unnamed says_r ended' begun) ∙ ap (λ n. life_of es (c ++ x ∷ []) n) (sym same))
      by q false e = rw e (or_else-none (life_at l q) ∙ are.each q ∙ sym (life_of-quiet es c x q (quiet_for x.row r q named (not_same r q e))))

  -- ---- somebody runs

  abbrev begun_life : List Event → Trace → Entry → ℕ → Life
  begun_life es c x r = record { tag = tag_of es r; arrived = unwrap_or (time_of taken_by c r) 0; direct = contains r (each_row directed_by c); begun = Some x.time; pod = or_else (pod_by r x.row) (pod_of c r) }

  running_life : (es : List Event) (c : Trace) (x : Entry) (r : ℕ) → contains r (live c) ≡ true → taken_by x.row ≡ None → ended_by x.row ≡ None → directed_by x.row ≡ None → begun_by x.row ≡ Some r
      → life_of es (c ++ x ∷ []) r ≡ Some (begun_life es c x r)
  unfolding life_in
  running_life es c x r alive taken ended' directed begun =
      let says_r : says (begun_by x.row) r ≡ true = rw begun (eq-eqb r r refl) in
      life_of-live es (c ++ x ∷ []) r (ap (λ l. contains r l) (live-same c x taken ended') ∙ alive)
      ∙ ap (λ (y : Life). Some y) (rw (time_of-push taken_by c x r, time_of-push begun_by c x r, contains-push directed_by c x r, pod_of-push c x r, taken, says_r, directed, or-false (contains r (each_row directed_by c))) refl)

  pub begins : (es : List Event) (c : Trace) (x : Entry) (l k : List (ℕ × Life)) (r : ℕ) (life : Life) → contains r (live c) ≡ true → taken_by x.row ≡ None → ended_by x.row ≡ None → directed_by x.row ≡ None → begun_by x.row ≡ Some r
      → life ≡ begun_life es c x r → k ≡ set_value (λ q. r == q) l life → AreLives l es c → AreLives k es (c ++ x ∷ [])
  begins es c x l k r life alive taken ended' directed begun is set' are =
      subst (λ m. AreLives m es (c ++ x ∷ [])) (sym set')
      (record {
        each = λ q. lookup-set_value nat_eq_equiv (λ n. r == n) (nat_eq_equiv.congr r) q life l there ∙ by q (r == q) refl;
        count = length-set_value (λ q. r == q) l life ∙ are.count ∙ ap (λ m. length m) (sym (live-same c x taken ended'));
      })
    where
      there : is_some (life_at l r) ≡ true
      there = ap is_some (are.each r ∙ life_of-live es c r alive)

      by : (q : ℕ) (b : Bool) → (r == q) ≡ b → cond (r == q) (Some life) (life_at l q) ≡ life_of es (c ++ x ∷ []) q
      by q true e = rw e (ap (λ (y : Life). Some y) is ∙ sym (running_life es c x r alive taken ended' directed begun) ∙ ap (λ n. life_of es (c ++ x ∷ []) n) (eqb-true r q e))
      by q false e = rw e (are.each q ∙ sym (life_of-quiet es c x q (quiet_for x.row r q (begun_named x.row r begun) e)))

  -- ---- somebody ends

  pub forgets : (es : List Event) (c : Trace) (x : Entry) (l k : List (ℕ × Life)) (r : ℕ) → IsNumbered c → contains r (live c) ≡ true → ended_by x.row ≡ Some r
      → ((q : ℕ) → life_at k q ≡ cond (r == q) None (life_at l q)) → (IsSome (life_at l r) → length k + 1 ≡ length l) → AreLives l es c → AreLives k es (c ++ x ∷ [])
  forgets es c x l k r num alive ends' gone fewer are = record {
    each = λ q. gone q ∙ by q (r == q) refl;
    count =
        let less = fewer (ap is_some (are.each r ∙ life_of-live es c r alive)) in
        let other : length (others r (live c)) + 1 ≡ length (live c) = others-length r (live c) (live_distinct c num) alive in
        let after : length (live (c ++ x ∷ [])) ≡ length (others r (live c)) = ap (λ m. length m) (live-end c x r (ends x.row r ends').taken ends') in
        let before = are.count in
        omega arith;
  }
    where
      by : (q : ℕ) (b : Bool) → (r == q) ≡ b → cond (r == q) None (life_at l q) ≡ life_of es (c ++ x ∷ []) q
      by q true e = rw e (sym (life_of-gone es (c ++ x ∷ []) q (live-push c x q ∙ out)))
        where
          nobody : (a b : Bool) → (a && not (b || true)) ≡ false
          nobody true true = refl
          nobody true false = refl
          nobody false b = refl

          out : ((contains q (each_row taken_by c) || says (taken_by x.row) q) && not (ended c q || says (ended_by x.row) q)) ≡ false
          out = rw (ends', e) (nobody _ _)
      by q false e = rw e (are.each q ∙ sym (life_of-quiet es c x q (quiet_for x.row r q (ends x.row r ends').named e)))

  -- ---- who is live where a row is proper

  pub proper_live : (s : Spec) (c : Trace) (x : Row) (r : ℕ) → IsNumbered c → IsProper s c x → ended_by x ≡ Some r → contains r (live c) ≡ true
  proper_live s c (row.Finish n ok) r num p h = let e : n ≡ r = cc in subst (λ q. contains q (live c) ≡ true) e (is_live c n (begun_taken c n num (running_parts c n p).0) (running_parts c n p).1)
  proper_live s c (row.Expire n) r num p h = let e : n ≡ r = cc in let w = waiting_member c n p in subst (λ q. contains q (live c) ≡ true) e (is_live c n w.0 w.1.ended)
  proper_live s c (row.Cancel n) r num p h = let e : n ≡ r = cc in let w = waiting_member c n p in subst (λ q. contains q (live c) ≡ true) e (is_live c n w.0 w.1.ended)
  proper_live s c (row.LostRequest n) r num p h = let e : n ≡ r = cc in subst (λ q. contains q (live c) ≡ true) e (at_pod_live c p.0 n num p.1)
  proper_live s c _ r num p h = absurd (cc)

  -- the pairs of a trace have numbers below the next one
  pub below_next : (es : List Event) (c : Trace) (l : List (ℕ × Life)) → IsNumbered c → AreLives l es c → All (λ (y : ℕ × Life). y.0 < arrivals c) l
  below_next es c l num are k d inside =
      let there = member_found l k d inside in
      live_comes c (get_or l k d).0 num (known_live es c (get_or l k d).0 there.0 (sym (are.each (get_or l k d).0) ∙ there.1))
