-- Each kind of row, as a table of lives meets it.
use Rattle.std.proofs.Common.{◌≡◌, refl, sym, ap, subst, ◌∙◌, ℕ, ◌+◌, ◌<◌, Bool, true, cond, List, [], ◌∷◌, ◌++◌, length, arith, Option, Some, None}
use Rattle.std.specs.Prelude.{◌==◌, IsSome}
use Rattle.std.specs.List.{All}
use Rattle.std.specs.Map.{set_value}
use Rattle.std.proofs.lemmas.Bool.{eq-eqb}
use Rattle.kn_event.specs.declared.entry.Entry.{Entry}
use Rattle.kn_event.specs.declared.entry.Row.{Row}
use Rattle.kn_event.specs.declared.entry.Row.TheVariants as row
use Rattle.kn_event.specs.declared.event.Event.{Event}
use Rattle.kn_event.specs.declared.revision.Spec.{Spec}
use Rattle.kn_event.specs.Lists.{contains}
use Rattle.kn_trace.specs.Events.{live_most}
use Rattle.kn_trace.specs.Rows.{arrived_by, begun_by, directed_by, ended_by, pod_by, taken_by}
use Rattle.kn_trace.specs.Trace.{Trace, live}
use Rattle.kn_record.specs.Facts.{Facts}
use Rattle.kn_record.specs.Made.{IsNumbered, IsProper}
use Rattle.kn_record.specs.Rows.{named_by, says}
use Rattle.kn_lives.specs.declared.lives.Life.{Life}
use Rattle.kn_lives.specs.Lives.{AreKnown, AreLiveBy, AreLives, ComesNext, life_at, life_in}
use Rattle.kn_lives.proofs.Steps.{begins, below_next, forgets, idle_row, life_of-live, proper_live, takes_in}

-- what a row that takes r in says beside
pub record Takes (x : Row) (r : ℕ) : Type 0 where
  pub arrived : arrived_by x ≡ Some r
  pub named : named_by x ≡ Some r
  pub ended : ended_by x ≡ None
  pub begun : begun_by x ≡ None

takes : (x : Row) (r : ℕ) → taken_by x ≡ Some r → Takes x r
takes (row.Admit n tag) r h = record { arrived = h; named = h; ended = refl; begun = refl }
takes (row.Direct n p) r h = record { arrived = h; named = h; ended = refl; begun = refl }
takes _ r h = absurd (cc)

room : (s : Spec) (c : Trace) (x : Row) (r : ℕ) → IsProper s c x → taken_by x ≡ Some r → length (live c) < live_most
room s c (row.Admit n tag) r p h = p.0.room
room s c (row.Direct n q) r p h = p.0.room
room s c _ r p h = absurd (cc)

-- a row of none of the kinds that bring somebody on
pub record IsPlain (x : Row) : Type 0 where
  pub taken : taken_by x ≡ None
  pub begun : begun_by x ≡ None

pub plain : (x : Row) → ((r tag : ℕ) → x ≡ row.Admit r tag → ⊥) → ((r p : ℕ) → x ≡ row.Direct r p → ⊥) → ((r p : ℕ) → x ≡ row.Assign r p → ⊥) → ((r : ℕ) → x ≡ row.Run r → ⊥) → IsPlain x
plain (row.Admit r tag) a d b n = absurd (a r tag refl)
plain (row.Direct r p) a d b n = absurd (d r p refl)
plain (row.Assign r p) a d b n = absurd (b r p refl)
plain (row.Run r) a d b n = absurd (n r refl)
plain _ a d b n = record { taken = refl; begun = refl }

module _ (facts : Facts) where
  open facts use {proper.{made_kept}, kinds.{admitted_taken, within-from}, lists.{first_member}, members.{at_pod_live, held_member, is_live, queued_at_pod}}

  begun_live : (s : Spec) (c : Trace) (x : Row) (r : ℕ) → IsNumbered c → IsProper s c x → begun_by x ≡ Some r → contains r (live c) ≡ true
  begun_live s c (row.Assign n q) r num p h =
      let same : n ≡ r = cc in
      let held' = held_member c n (first_member n _ p.first) in
      subst (λ k. contains k (live c) ≡ true) same (is_live c n (within-from _ taken_by admitted_taken n c held'.admitted) held'.ended)
  begun_live s c (row.Run n) r num p h =
      let same : n ≡ r = cc in
      subst (λ k. contains k (live c) ≡ true) same (at_pod_live c p.0 n num (queued_at_pod c p.0 n (first_member n _ p.1.first)))
  begun_live s c _ r num p h = absurd (cc)

  pub begun_here : (s : Spec) (es : List Event) (tag : ℕ) (c : Trace) (x : Row) → ComesNext s es tag c x → AreLiveBy begun_by c x
  begun_here s es tag c x next r h = begun_live s c x r (made_kept s c next.made).requests next.proper h

  pub ended_here : (s : Spec) (es : List Event) (tag : ℕ) (c : Trace) (x : Row) → ComesNext s es tag c x → AreLiveBy ended_by c x
  ended_here s es tag c x next r h = proper_live facts s c x r (made_kept s c next.made).requests next.proper h

  pub known : (es : List Event) (c : Trace) (l : List (ℕ × Life)) → AreLives l es c → AreKnown l es c
  known es c l are r alive = are.each r ∙ life_of-live facts es c r alive

module _ (facts : Facts) (s : Spec) (es : List Event) (tag : ℕ) (c : Trace) (x : Entry) (next : ComesNext s es tag c x.row) (l k : List (ℕ × Life)) (are : AreLives l es c) where
  open facts use {proper.{made_kept}}

  num : IsNumbered c
  num = (made_kept s c next.made).requests

  pub row_taken : (r : ℕ) (direct : Bool) (pod : Option ℕ) → taken_by x.row ≡ Some r → direct ≡ says (directed_by x.row) r → pod ≡ pod_by r x.row
      → (All (λ (y : ℕ × Life). y.0 < r) l → length l < 20000 → k ≡ l ++ (r, record { tag = tag; arrived = x.time; direct = direct; begun = None; pod = pod }) ∷ []) → AreLives k es (c ++ x ∷ [])
  row_taken r direct pod taken direct_is pod_is more =
      let t = takes x.row r taken in
      let number = next.number r t.arrived in
      let above : All (λ (y : ℕ × Life). y.0 < r) l = subst (λ n. All (λ (y : ℕ × Life). y.0 < n) l) (sym number) (below_next facts es c l num are) in
      let count = are.count in
      let few : length (live c) < live_most = room s c x.row r next.proper taken in
      takes_in facts es c x l k r _ num number taken t.named t.ended t.begun (rw (next.tagged r t.arrived, direct_is, pod_is) refl) (more above (omega (arith, count, few))) are

  pub row_assigned : (r p : ℕ) → x.row ≡ row.Assign r p → ((y : Life) → life_at l r ≡ Some y → k ≡ set_value (λ q. r == q) l (record y { begun = Some x.time; pod = Some p })) → AreLives k es (c ++ x ∷ [])
  unfolding life_in
  row_assigned r p is set' =
      let alive = begun_live facts s c x.row r num next.proper (ap begun_by is) in
      let pod : pod_by r x.row ≡ Some p = ap (pod_by r) is ∙ rw (eq-eqb r r refl) refl in
      begins facts es c x l k r _ alive (ap taken_by is) (ap ended_by is) (ap directed_by is) (ap begun_by is) (rw pod refl) (set' _ (known facts es c l are r alive)) are

  pub row_ran : (r : ℕ) → x.row ≡ row.Run r → ((y : Life) → life_at l r ≡ Some y → k ≡ set_value (λ q. r == q) l (record y { begun = Some x.time })) → AreLives k es (c ++ x ∷ [])
  unfolding life_in
  row_ran r is set' =
      let alive = begun_live facts s c x.row r num next.proper (ap begun_by is) in
      let pod : pod_by r x.row ≡ None = ap (pod_by r) is in
      begins facts es c x l k r _ alive (ap taken_by is) (ap ended_by is) (ap directed_by is) (ap begun_by is) (rw pod refl) (set' _ (known facts es c l are r alive)) are

  pub row_other : IsPlain x.row → (ended_by x.row ≡ None → k ≡ l) → ((r q : ℕ) → ended_by x.row ≡ Some r → life_at k q ≡ cond (r == q) None (life_at l q))
      → ((r : ℕ) → ended_by x.row ≡ Some r → IsSome (life_at l r) → length k + 1 ≡ length l) → AreLives k es (c ++ x ∷ [])
  row_other p none gone fewer = by (ended_by x.row) refl
    where
      by : (o : Option ℕ) → ended_by x.row ≡ o → AreLives k es (c ++ x ∷ [])
      by None e = idle_row facts es c x l k p.taken p.begun e (none e) are
      by (Some r) e = forgets facts es c x l k r num (proper_live facts s c x.row r num next.proper e) e (λ q. gone r q e) (fewer r e) are
