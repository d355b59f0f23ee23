-- How many there are: live requests, pods, and those that wait.
use Rattle.std.proofs.Common.{◌≡◌, ℕ, ◌+◌, ◌≤◌, ◌<◌, Bool, true, false, not, cond, ◌&&◌, ◌||◌, List, [], ◌∷◌, ◌++◌, length, refl, sym, ap, ◌∙◌, arith, append-nil, append_assoc, length-append}
use Rattle.std.specs.Prelude.{Option, None, Some, ◌==◌}
use Rattle.std.specs.List.{filter, cons_option}
use Rattle.std.proofs.lemmas.Bool.{and_parts, false_from_ne_true}
use Rattle.std.proofs.lemmas.List.Elements.{filter-append, filter_map-append}
use Rattle.std.proofs.Math.Bool.{or-false}
use Rattle.kn_event.specs.declared.entry.Entry.{Entry}
use Rattle.kn_event.specs.declared.entry.Row.{Row}
use Rattle.kn_event.specs.declared.entry.Row.TheVariants as row
use Rattle.kn_event.specs.declared.revision.Spec.{Spec}
use Rattle.kn_event.specs.Revision.{AreInRange}
use Rattle.kn_event.specs.Lists.{contains}
use Rattle.kn_scaling.specs.Zero.{pods_most}
use Rattle.kn_trace.specs.Rows.{admitted_by, created_by, directed_by, drained_by, readied_by, gone_by, taken_by}
use Rattle.kn_trace.specs.Trace.{Trace, entry, assigned, draining, each_row, ended, has_begun, has_not_begun, has_run, held, is_draining, is_live_pod, is_ready, is_running, is_starting, live, live_pods, queued_at, ready_pods, starting_pods, waiting}
use Rattle.kn_trace.specs.Scale.{drain_order}
use Rattle.kn_trace.specs.Events.{live_most}
use Rattle.kn_record.specs.Rows.{counted}
use Rattle.kn_record.specs.Made.{AreDistinct, Holds, IsMade, IsNumbered, IsProper}
use Rattle.kn_record.specs.Views.{others}
use Rattle.kn_record.specs.Kept.{Kept}
use Rattle.kn_record.specs.Facts.{Facts}
use Rattle.kn_laws.specs.Kinds.{Each}

-- a filter by two tests of which one passes where the third does
pub length-parts : (t u w : ℕ → Bool) → ((x : ℕ) → (t x ≡ (u x || w x)) × ((u x && w x) ≡ false)) → (xs : List ℕ) → length (filter t xs) ≡ length (filter u xs) + length (filter w xs)
length-parts t u w parts [] = refl
length-parts t u w parts (x ∷ xs) = by (t x) (u x) (w x) (parts x).0 (parts x).1 (length-parts t u w parts xs)
  where
    by : (a b d : Bool) → a ≡ (b || d) → (b && d) ≡ false → length (filter t xs) ≡ length (filter u xs) + length (filter w xs)
        → length (cond a (x ∷ filter t xs) (filter t xs)) ≡ length (cond b (x ∷ filter u xs) (filter u xs)) + length (cond d (x ∷ filter w xs) (filter w xs))
    by a true true e f rest = absurd (cc)
    by true true false e f rest = omega arith
    by true false true e f rest = omega arith
    by false false false e f rest = omega arith
    by true false false e f rest = absurd (cc)
    by false true false e f rest = absurd (cc)
    by false false true e f rest = absurd (cc)

-- the rows of one kind in two lists
pub count-append : {X : Type 0} (f : Row → Option X) (xs ys : Trace) → length (each_row f (xs ++ ys)) ≡ length (each_row f xs) + length (each_row f ys)
count-append f xs ys = rw (filter_map-append (λ (e : Entry). f e.row) xs ys, length-append) refl

-- each of these rows is of the kind, or none is
pub count-each : (f : Row → Option ℕ) (test : Row → Bool) → ((x : Row) → test x ≡ true → counted (f x) ≡ 1) → (es : Trace) → Each test es → length (each_row f es) ≡ length es
count-each f test is [] h = refl
count-each f test is (e ∷ es) h = by (f e.row) (is e.row h.0) (count-each f test is es h.1)
  where
    by : (o : Option ℕ) → counted o ≡ 1 → length (each_row f es) ≡ length es → length (cons_option o (each_row f es)) ≡ length (e ∷ es)
    by None k rest = absurd (cc)
    by (Some r) k rest = omega arith

-- rows of another kind say nothing
pub none-each : (f : Row → Option ℕ) (test : Row → Bool) → ((x : Row) → test x ≡ true → f x ≡ None) → (es : Trace) → Each test es → each_row f es ≡ []
none-each f test none [] h = refl
none-each f test none (e ∷ es) h = rw (none e.row h.0) (none-each f test none es h.1)

taken_room : (s : Spec) (c : Trace) (x : Row) (r : ℕ) → IsProper s c x → taken_by x ≡ Some r → length (live c) < live_most
taken_room s c (row.Admit q tag) r h e = h.0.room
taken_room s c (row.Direct q p) r h e = h.0.room
taken_room s c _ r h e = absurd (cc)

abbrev pub HasFewLive : Trace → Type 0
HasFewLive c = length (live c) ≤ live_most

no_live : HasFewLive []
unfolding live
no_live = omega arith

stands : Trace → ℕ → Bool
stands c p = not (contains p (each_row drained_by c)) && is_live_pod c p

created_room : (s : Spec) (c : Trace) (x : Row) (p : ℕ) → IsProper s c x → created_by x ≡ Some p → AreInRange s → length (drain_order c) < pods_most
created_room s c (row.Create q n) p h e ranges = h.1 ranges
created_room s c _ p h e ranges = absurd (cc)

abbrev pub HasFewStanding : Spec → Trace → Type 0
HasFewStanding s c = AreInRange s → length (drain_order c) ≤ pods_most

nobody_stands : (s : Spec) → HasFewStanding s []
unfolding drain_order starting_pods ready_pods
nobody_stands s ranges = omega arith

-- the waiting request that the row is the last one of
abbrev pub leaves_by : Row → Option ℕ
leaves_by (row.Assign r p) = Some r
leaves_by (row.Run r) = Some r
leaves_by (row.Expire r) = Some r
leaves_by _ = None

-- ---- who runs

-- a live request waits, or it runs
pub count-live : (c : Trace) → length (live c) ≡ length (waiting c) + length (filter (is_running c) (each_row taken_by c))
unfolding live waiting has_not_begun is_running
count-live c = length-parts (λ r. not (ended c r)) (has_not_begun c) (is_running c) (λ r. by (has_begun c r) (ended c r)) (each_row taken_by c)
  where
    by : (b g : Bool) → (not g ≡ ((not b && not g) || (b && not g))) × (((not b && not g) && (b && not g)) ≡ false)
    by true true = (refl, refl)
    by true false = (refl, refl)
    by false true = (refl, refl)
    by false false = (refl, refl)

module _ (facts : Facts) where
  open facts use {lists.{in_filter, first_member, distinct-filter, others-length, length-filter-more}, kinds.{admitted_taken, directed_taken, within-from}, entries.{contains-push, ended-push, has_not_begun-push, is_live_pod-push, view-less}, views.{waiting-end}, members.{held_member, queued_member, brought_directed, length-drain_order}, proper.{kept-nil, Kept-push}}

  -- ---- lists

  -- a view whose test only loses grows by the row's own at most
  pub length-fewer : (f : Row → Option ℕ) (t u : ℕ → Bool) (c : Trace) (e : Entry) → ((q : ℕ) → u q ≡ true → t q ≡ true) → length (filter u (each_row f (c ++ e ∷ []))) ≤ length (filter t (each_row f c)) + counted (f e.row)
  length-fewer f t u c e less =
      let a = length-filter-more' (each_row f c) in
      let b = own (f e.row) in
      rw (filter_map-append (λ (x : Entry). f x.row) c (e ∷ []), filter-append u (each_row f c) (cons_option (f e.row) []), length-append) (omega arith)
    where
      length-filter-more' : (xs : List ℕ) → length (filter u xs) ≤ length (filter t xs)
      length-filter-more' xs = length-filter-more u t less xs

      own : (o : Option ℕ) → length (filter u (cons_option o [])) ≤ counted o
      own None = omega arith
      own (Some q) = by (u q)
        where
          by : (b : Bool) → length (cond b (q ∷ []) []) ≤ 1
          by true = omega arith
          by false = omega arith

  -- ---- what holds before rows that are all proper, and is kept by each, holds after them

  -- a fact that each proper row keeps
  pub Holds-keep : (s : Spec) (Q : Trace → Type 0) → ((c : Trace) (e : Entry) → Kept s c → IsProper s c e.row → Q c → Q (c ++ e ∷ [])) → (b c : Trace) → Kept s b → Q b → Holds (IsProper s) b c → Q (b ++ c)
  Holds-keep s Q push b [] kept q h = rw (append-nil b) q
  Holds-keep s Q push b (e ∷ c) kept q h = rw (append_assoc b (e ∷ []) c) at (Holds-keep s Q push (b ++ e ∷ []) c (Kept-push s b e kept h.0) (push b e kept h.0 q) h.1)

  -- ---- live requests

  pub ended-less : (c : Trace) (e : Entry) (q : ℕ) → not (ended (c ++ e ∷ []) q) ≡ true → not (ended c q) ≡ true
  ended-less c e q h = by (ended c q) _ (ap (λ (b : Bool). not b) (sym (ended-push c e q)) ∙ h)
    where
      by : (a m : Bool) → not (a || m) ≡ true → not a ≡ true
      by true m h = h
      by false m h = refl

  -- only a row that takes a request in adds a live one
  pub live-fewer : (c : Trace) (e : Entry) → length (live (c ++ e ∷ [])) ≤ length (live c) + counted (taken_by e.row)
  unfolding live
  live-fewer c e = length-fewer taken_by (λ r. not (ended c r)) (λ r. not (ended (c ++ e ∷ []) r)) c e (ended-less c e)

  few_live-push : (s : Spec) (c : Trace) (e : Entry) → Kept s c → IsProper s c e.row → HasFewLive c → HasFewLive (c ++ e ∷ [])
  few_live-push s c e kept h few = by (taken_by e.row) refl (live-fewer c e)
    where
      by : (o : Option ℕ) → taken_by e.row ≡ o → length (live (c ++ e ∷ [])) ≤ length (live c) + counted o → length (live (c ++ e ∷ [])) ≤ live_most
      by None k less = omega arith
      by (Some r) k less = let room = taken_room s c e.row r h k in omega arith

  -- at most 20,000 requests are live in a trace that was made
  pub few_live : (s : Spec) (c : Trace) → IsMade s c → HasFewLive c
  few_live s c made = Holds-keep s HasFewLive (few_live-push s) [] c (kept-nil s) no_live made.rows

  -- ---- pods that do not drain

  -- those in the order of draining are the live pods that do not drain
  count-standing : (c : Trace) → length (drain_order c) ≡ length (filter (stands c) (each_row created_by c))
  unfolding stands starting_pods ready_pods is_starting is_ready
  count-standing c =
      length-drain_order c
      ∙ sym (length-parts (stands c) (is_starting c) (is_ready c) (λ p. by (contains p (each_row readied_by c)) (contains p (each_row drained_by c)) (is_live_pod c p)) (each_row created_by c))
    where
      by : (x d g : Bool) → ((not d && g) ≡ ((not x && not d && g) || (x && not d && g))) × (((not x && not d && g) && (x && not d && g)) ≡ false)
      by true true g = (refl, refl)
      by true false true = (refl, refl)
      by true false false = (refl, refl)
      by false true g = (refl, refl)
      by false false true = (refl, refl)
      by false false false = (refl, refl)

  -- the live pods drain, or they do not
  pub count-pods : (c : Trace) → length (live_pods c) ≡ length (draining c) + length (drain_order c)
  unfolding live_pods draining is_draining stands
  count-pods c =
      let a = count-standing c in
      let b = length-parts (is_live_pod c) (is_draining c) (stands c) (λ p. by (contains p (each_row drained_by c)) (is_live_pod c p)) (each_row created_by c) in
      omega arith
    where
      by : (d g : Bool) → (g ≡ ((d && g) || (not d && g))) × (((d && g) && (not d && g)) ≡ false)
      by true true = (refl, refl)
      by true false = (refl, refl)
      by false true = (refl, refl)
      by false false = (refl, refl)

  gone-less : (c : Trace) (e : Entry) (q : ℕ) → is_live_pod (c ++ e ∷ []) q ≡ true → is_live_pod c q ≡ true
  unfolding is_live_pod
  gone-less c e q h = by (contains q (each_row gone_by c)) _ (sym (is_live_pod-push c e q) ∙ h)
    where
      by : (a m : Bool) → not (a || m) ≡ true → not a ≡ true
      by true m h = h
      by false m h = refl

  stands-less : (c : Trace) (e : Entry) (q : ℕ) → stands (c ++ e ∷ []) q ≡ true → stands c q ≡ true
  unfolding stands
  stands-less c e q h =
      let both = and_parts (not (contains q (each_row drained_by (c ++ e ∷ [])))) (is_live_pod (c ++ e ∷ []) q) h in
      rw (by (contains q (each_row drained_by c)) _ (ap (λ (b : Bool). not b) (sym (contains-push drained_by c e q)) ∙ both.0), gone-less c e q both.1) refl
    where
      by : (a m : Bool) → not (a || m) ≡ true → not a ≡ true
      by true m h = h
      by false m h = refl

  -- only a new pod adds one that does not drain
  pub standing-fewer : (c : Trace) (e : Entry) → length (drain_order (c ++ e ∷ [])) ≤ length (drain_order c) + counted (created_by e.row)
  standing-fewer c e =
      let a = count-standing (c ++ e ∷ []) in
      let b = count-standing c in
      let less = length-fewer created_by (stands c) (stands (c ++ e ∷ [])) c e (stands-less c e) in
      omega arith

  draining-still : (c : Trace) (e : Entry) → drained_by e.row ≡ None → (q : ℕ) → is_draining (c ++ e ∷ []) q ≡ true → is_draining c q ≡ true
  unfolding is_draining
  draining-still c e none q h =
      let both = and_parts (contains q (each_row drained_by (c ++ e ∷ []))) (is_live_pod (c ++ e ∷ []) q) h in
      let drains : contains q (each_row drained_by c) ≡ true = sym (contains-push drained_by c e q ∙ rw none (or-false (contains q (each_row drained_by c)))) ∙ both.0 in
      rw (drains, gone-less c e q both.1) refl

  -- a row that neither creates a pod nor drains one makes no more of them drain
  pub draining-less : (c : Trace) (e : Entry) → created_by e.row ≡ None → drained_by e.row ≡ None → length (draining (c ++ e ∷ [])) ≤ length (draining c)
  unfolding draining
  draining-less c e made none =
      let less = length-fewer created_by (is_draining c) (is_draining (c ++ e ∷ [])) c e (draining-still c e none) in
      let zero : counted (created_by e.row) ≡ 0 = rw made refl in
      omega arith

  -- only a new pod adds a live one
  pub live_pods-fewer : (c : Trace) (e : Entry) → length (live_pods (c ++ e ∷ [])) ≤ length (live_pods c) + counted (created_by e.row)
  unfolding live_pods
  live_pods-fewer c e = length-fewer created_by (is_live_pod c) (is_live_pod (c ++ e ∷ [])) c e (gone-less c e)

  few_standing-push : (s : Spec) (c : Trace) (e : Entry) → Kept s c → IsProper s c e.row → HasFewStanding s c → HasFewStanding s (c ++ e ∷ [])
  few_standing-push s c e kept h few ranges = by (created_by e.row) refl (standing-fewer c e) (few ranges)
    where
      by : (o : Option ℕ) → created_by e.row ≡ o → length (drain_order (c ++ e ∷ [])) ≤ length (drain_order c) + counted o → length (drain_order c) ≤ pods_most → length (drain_order (c ++ e ∷ [])) ≤ pods_most
      by None k less old = omega arith
      by (Some p) k less old = let room = created_room s c e.row p h k ranges in omega arith

  -- at most 500 pods do not drain
  pub few_standing : (s : Spec) (c : Trace) → IsMade s c → HasFewStanding s c
  few_standing s c made = Holds-keep s (HasFewStanding s) (few_standing-push s) [] c (kept-nil s) (nobody_stands s) made.rows

  -- live pods by a list of rows
  pub live_pods-list : (c es : Trace) → length (live_pods (c ++ es)) ≤ length (live_pods c) + length (each_row created_by es)
  live_pods-list c [] = rw (append-nil c) (omega arith)
  live_pods-list c (e ∷ es) =
      let rest = live_pods-list (c ++ e ∷ []) es in
      let one = live_pods-fewer c e in
      let all : length (each_row created_by (e ∷ es)) ≡ counted (created_by e.row) + length (each_row created_by es) = by (created_by e.row) in
      let sum : length (live_pods ((c ++ e ∷ []) ++ es)) ≤ length (live_pods c) + length (each_row created_by (e ∷ es)) = omega arith in
      rw (append_assoc c (e ∷ []) es) at sum
    where
      by : (o : Option ℕ) → length (cons_option o (each_row created_by es)) ≡ counted o + length (each_row created_by es)
      by None = omega arith
      by (Some p) = omega arith

  -- ---- who waits

  pub waiting_distinct : (c : Trace) → IsNumbered c → AreDistinct (waiting c)
  unfolding waiting
  waiting_distinct c num = distinct-filter (has_not_begun c) (each_row taken_by c) num.once

  -- who begins to run waits no more
  waiting-run : (c : Trace) (t r : ℕ) → waiting (c ++ entry t (row.Run r) ∷ []) ≡ others r (waiting c)
  unfolding waiting has_not_begun has_begun
  waiting-run c t r =
      view-less taken_by (has_not_begun c) (has_not_begun (c ++ entry t (row.Run r) ∷ [])) c (entry t (row.Run r)) r refl
      (λ q. has_not_begun-push c (entry t (row.Run r)) q ∙ by (assigned c q) (has_run c q) (ended c q) (r == q))
    where
      by : (a n g m : Bool) → (not ((a || false) || (n || m)) && not (g || false)) ≡ ((not (a || n) && not g) && not m)
      by true n g m = refl
      by false true g m = refl
      by false false true true = refl
      by false false true false = refl
      by false false false true = refl
      by false false false false = refl

  -- who is assigned waits no more
  waiting-assign : (c : Trace) (t r p : ℕ) → waiting (c ++ entry t (row.Assign r p) ∷ []) ≡ others r (waiting c)
  unfolding waiting has_not_begun has_begun
  waiting-assign c t r p =
      view-less taken_by (has_not_begun c) (has_not_begun (c ++ entry t (row.Assign r p) ∷ [])) c (entry t (row.Assign r p)) r refl
      (λ q. has_not_begun-push c (entry t (row.Assign r p)) q ∙ by (assigned c q) (has_run c q) (ended c q) (r == q))
    where
      by : (a n g m : Bool) → (not ((a || m) || (n || false)) && not (g || false)) ≡ ((not (a || n) && not g) && not m)
      by true n g m = refl
      by false true g true = refl
      by false true g false = refl
      by false false true true = refl
      by false false true false = refl
      by false false false true = refl
      by false false false false = refl

  -- held and queued requests wait
  pub queued_waits : (c : Trace) (p r : ℕ) → contains r (queued_at c p) ≡ true → contains r (waiting c) ≡ true
  unfolding waiting has_not_begun has_begun
  queued_waits c p r h =
      let both = queued_member c p r h in
      let direct = brought_directed c p r both.0 both.1.assigned in
      in_filter (has_not_begun c) r (each_row taken_by c) (within-from directed_by taken_by directed_taken r c direct) (rw (both.1.assigned, both.1.run, both.1.ended) refl)

  -- a held request waits
  pub held_waits : (c : Trace) (r : ℕ) → IsNumbered c → contains r (held c) ≡ true → contains r (waiting c) ≡ true
  unfolding waiting has_not_begun has_begun
  held_waits c r num h =
      let member = held_member c r h in
      let idle : has_run c r ≡ false = false_from_ne_true (has_run c r) (λ n. let no = num.direct r (num.ran r n) in let yes_it_is = member.admitted in absurd (cc)) in
      in_filter (has_not_begun c) r (each_row taken_by c) (within-from admitted_by taken_by admitted_taken r c member.admitted) (rw (member.assigned, idle, member.ended) refl)

  pub not_begun-less : (c : Trace) (e : Entry) (q : ℕ) → has_not_begun (c ++ e ∷ []) q ≡ true → has_not_begun c q ≡ true
  unfolding has_not_begun has_begun
  not_begun-less c e q h = by (assigned c q) _ (has_run c q) _ (ended c q) _ (sym (has_not_begun-push c e q) ∙ h)
    where
      by : (a x n y g z : Bool) → (not ((a || x) || (n || y)) && not (g || z)) ≡ true → (not (a || n) && not g) ≡ true
      by true x n y g z h = absurd (cc)
      by false true n y g z h = absurd (cc)
      by false false true y g z h = absurd (cc)
      by false false false true g z h = absurd (cc)
      by false false false false true z h = absurd (cc)
      by false false false false false z h = refl

  -- only a row that takes a request in adds one that waits
  pub waiting-fewer : (c : Trace) (e : Entry) → length (waiting (c ++ e ∷ [])) ≤ length (waiting c) + counted (taken_by e.row)
  unfolding waiting
  waiting-fewer c e = length-fewer taken_by (has_not_begun c) (has_not_begun (c ++ e ∷ [])) c e (not_begun-less c e)

  -- each row that a waiting request leaves by makes them one fewer
  leaves-one : (s : Spec) (c : Trace) (t : ℕ) (x : Row) → Kept s c → IsProper s c x → counted (leaves_by x) + length (waiting (c ++ entry t x ∷ [])) ≤ length (waiting c) + counted (taken_by x)
  leaves-one s c t (row.Assign r p) kept h =
      let less = others-length r (waiting c) (waiting_distinct c kept.requests) (held_waits c r kept.requests (first_member r (held c) h.first)) in
      rw (waiting-assign c t r p) (omega arith)
  leaves-one s c t (row.Run r) kept h =
      let less = others-length r (waiting c) (waiting_distinct c kept.requests) (queued_waits c h.0 r (first_member r (queued_at c h.0) h.1.first)) in
      rw (waiting-run c t r) (omega arith)
  leaves-one s c t (row.Expire r) kept h =
      let less = others-length r (waiting c) (waiting_distinct c kept.requests) h in
      rw (waiting-end c (entry t (row.Expire r)) r refl refl refl refl) (omega arith)
  leaves-one s c t x kept h = let less = waiting-fewer c (entry t x) in omega arith

  -- rows that are all proper take as many from those that wait as there are rows that one leaves by
  pub leaves-list : (s : Spec) (c es : Trace) → Kept s c → Holds (IsProper s) c es → length (each_row leaves_by es) + length (waiting (c ++ es)) ≤ length (waiting c) + length (each_row taken_by es)
  leaves-list s c [] kept h = rw (append-nil c) (omega arith)
  leaves-list s c (e ∷ es) kept h =
      let rest = leaves-list s (c ++ e ∷ []) es (Kept-push s c e kept h.0) h.1 in
      let one = leaves-one s c e.time e.row kept h.0 in
      let gone : length (each_row leaves_by (e ∷ es)) ≡ counted (leaves_by e.row) + length (each_row leaves_by es) = by leaves_by (leaves_by e.row) in
      let came : length (each_row taken_by (e ∷ es)) ≡ counted (taken_by e.row) + length (each_row taken_by es) = by taken_by (taken_by e.row) in
      let sum : length (each_row leaves_by (e ∷ es)) + length (waiting ((c ++ e ∷ []) ++ es)) ≤ length (waiting c) + length (each_row taken_by (e ∷ es)) = omega arith in
      rw (append_assoc c (e ∷ []) es) at sum
    where
      by : (f : Row → Option ℕ) (o : Option ℕ) → length (cons_option o (each_row f es)) ≡ counted o + length (each_row f es)
      by f None = omega arith
      by f (Some p) = omega arith
