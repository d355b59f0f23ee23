-- What the activators of an input share, line after line.
use Rattle.std.proofs.Common.{◌≡◌, ◌≤◌, ◌<◌, ℕ, zero, suc, ◌+◌, ◌++◌, List, [], ◌∷◌, length, take, refl, ◌∙◌, sym, subst, arith}
use Rattle.std.specs.Prelude.{Option, None, Some}
use Rattle.std.specs.List.{range_with_len}
use Rattle.std.proofs.lemmas.List.{length-replicate, length-set}
use Rattle.std.proofs.lemmas.List.FromFn.{length-map-range_with_len}
use Rattle.kn_event.specs.EventLine.{event_at, limit_most}
use Rattle.kn_event.specs.declared.event.Act.TheVariants as act
use Rattle.kn_event.specs.declared.event.Event.{Event}
use Rattle.kn_slices.specs.declared.change.Change.{Change}
use Rattle.kn_slices.specs.Activators.{IsPlain}
use Rattle.kn_slices.specs.Shares.{AreShares, ShareLaws}
use Rattle.kn_slices.specs.Traces.{made_at, trace_at}
use Rattle.kn_activators.specs.declared.event.GroupEvent.{GroupEvent}
use Rattle.kn_activators.specs.declared.event.GroupEvent.TheVariants as group
use Rattle.kn_activators.specs.declared.setup.GroupSetup.{GroupSetup}
use Rattle.kn_activators.specs.Reading.{IsGroupEvent}
use Rattle.kn_activators.specs.Safety.{AfterEachLine, AreGroupEvents, IsLawfulSharing, IsSafeSharing}
use Rattle.kn_activators.specs.Sharing.{Sharing, and_then, asked, by_each, by_event, by_line, by_lines, by_one, changes, changes_most, due_in, numbers_of, opened, opening_at, rows_at, spec_of, stepped, time_of, while_due}
use Rattle.kn_activators.specs.Standing.{IsGroupSetup}

-- the activators of the setup, and its pods
pub record IsShared (s : GroupSetup) (x : Sharing) : Type 0 where
  pub shares : AreShares (spec_of s) x.traces x.wanted x.force
  pub many : length x.traces ≡ s.activators
  pub pods : length x.wanted ≡ s.pods

-- ---- the opening

pub opened_shared : ShareLaws → (s : GroupSetup) (start : ℕ) → IsGroupSetup s → IsShared s (opened s start)
unfolding opened
opened_shared laws s start is = record {
  shares = laws.begin s.activators s.limit s.pods s.timeout_s start s.slots is.some is.few is.least is.most is.pods;
  many = length-map-range_with_len (opening_at s start) 0 s.activators;
  pods = length-replicate s.pods s.limit;
}

-- ---- one event of one activator

pub stepped_shared : ShareLaws → (s : GroupSetup) (x : Sharing) (i : ℕ) (e : Event) → IsShared s x → i < s.activators → IsPlain e.act → IsShared s (stepped s x i e)
unfolding stepped
stepped_shared laws s x i e is low plain = record {
  shares = laws.step (spec_of s) x.traces x.wanted x.force i e is.shares (subst (λ n. i < n) (sym is.many) low) plain;
  many = length-set x.traces i (trace_at x.traces i ++ rows_at s x i e) ∙ is.many;
  pods = is.pods;
}

changed_shared : ShareLaws → (s : GroupSetup) (x : Sharing) (change : Change) (time : ℕ) → IsShared s x → due_in x ≡ Some change → IsShared s (stepped s x change.activator (made_at time change))
unfolding stepped
changed_shared laws s x change time is due = record {
  shares = laws.change (spec_of s) x.traces x.wanted x.force change time is.shares due;
  many = length-set x.traces change.activator (trace_at x.traces change.activator ++ rows_at s x change.activator (made_at time change)) ∙ is.many;
  pods = is.pods;
}

asked_shared : ShareLaws → (s : GroupSetup) (x : Sharing) (p limit : ℕ) → IsShared s x → p < s.pods → s.activators ≤ limit → limit ≤ limit_most → IsShared s (asked p limit x)
unfolding asked
asked_shared laws s x p limit is low least most = record {
  shares = laws.ask (spec_of s) x.traces x.wanted x.force p limit is.shares (subst (λ n. p < n) (sym is.pods) low) (subst (λ n. n ≤ limit) (sym is.many) least) most;
  many = is.many;
  pods = length-set x.wanted p limit ∙ is.pods;
}

-- ---- several, one after the other

abbrev AreBelow : ℕ → List ℕ → Type 0
AreBelow n [] = Unit {0}
AreBelow n (i ∷ more) = (i < n) × AreBelow n more

range_below : (n from many : ℕ) → from + many ≤ n → AreBelow n (range_with_len from many)
range_below n from zero le = tt
range_below n from (suc k) le = (omega (arith, le), range_below n (from + 1) k (omega (arith, le)))

each_shared : ShareLaws → (s : GroupSetup) (e : Event) (is : List ℕ) (x : Sharing) → IsPlain e.act → AreBelow s.activators is → IsShared s x → IsShared s (by_each s e is x).now
unfolding by_each
each_shared laws s e [] x plain low h = h
each_shared laws s e (i ∷ more) x plain low h = each_shared laws s e more (stepped s x i e) plain low.1 (stepped_shared laws s x i e h low.0 plain)

changes_shared : ShareLaws → (s : GroupSetup) (time many : ℕ) (x : Sharing) → IsShared s x → IsShared s (changes s time many x).now
unfolding changes
changes_shared laws s time zero x h = h
changes_shared laws s time (suc more) x h = by (due_in x) refl (λ y k. changes_shared laws s time more y k)
  where
    by : (o : Option Change) → due_in x ≡ o → ((y : Sharing) → IsShared s y → IsShared s (changes s time more y).now)
        → IsShared s (while_due o x (λ change. and_then (by_one s x change.activator (made_at time change)) (changes s time more))).now
    by None is rest = h
    by (Some change) is rest = rest (stepped s x change.activator (made_at time change)) (changed_shared laws s x change time h is)

event_shared : ShareLaws → (s : GroupSetup) (e : GroupEvent) (x : Sharing) → IsGroupEvent s.activators s.pods e → IsShared s x → IsShared s (by_event s e x).now
event_shared laws s (group.One i e) x range h = stepped_shared laws s x i e h range.0 range.1
event_shared laws s (group.Ready time p) x range h = each_shared laws s (event_at time (act.Ready p)) (numbers_of s) x tt (range_below s.activators 0 s.activators (omega arith)) h
event_shared laws s (group.Limit time p limit) x range h = asked_shared laws s x p limit h range.0 range.1 range.2

line_shared : ShareLaws → (s : GroupSetup) (e : GroupEvent) (x : Sharing) → IsGroupEvent s.activators s.pods e → IsShared s x → IsShared s (by_line s e x).now
unfolding by_line
line_shared laws s e x range h = changes_shared laws s (time_of e) (changes_most s) (by_event s e x).now (event_shared laws s e x range h)

lines_shared : ShareLaws → (s : GroupSetup) (es : List GroupEvent) (x : Sharing) → AreGroupEvents s es → IsShared s x → IsShared s (by_lines s es x).now
unfolding by_lines
lines_shared laws s [] x range h = h
lines_shared laws s (e ∷ more) x range h = lines_shared laws s more (by_line s e x).now range.1 (line_shared laws s e x range.0 h)

first_events : (s : GroupSetup) (n : ℕ) (es : List GroupEvent) → AreGroupEvents s es → AreGroupEvents s (take n es)
first_events s zero es range = tt
first_events s (suc n) [] range = tt
first_events s (suc n) (e ∷ more) range = (range.0, first_events s n more range.1)

-- ---- what holds of them

safe_sharing : ShareLaws → (s : GroupSetup) (x : Sharing) → IsShared s x → IsSafeSharing s x
safe_sharing laws s x h p low = laws.safe (spec_of s) x.traces x.wanted x.force p h.shares (subst (λ n. p < n) (sym h.pods) low)

lawful_sharing : ShareLaws → (s : GroupSetup) (x : Sharing) → IsShared s x → IsLawfulSharing s x
lawful_sharing laws s x h i low = laws.lawful (spec_of s) x.traces x.wanted x.force i h.shares (subst (λ n. i < n) (sym h.many) low)

after_lines : ShareLaws → (s : GroupSetup) (start : ℕ) (es : List GroupEvent) → IsGroupSetup s → AreGroupEvents s es → (n : ℕ) → IsShared s (by_lines s (take n es) (opened s start)).now
after_lines laws s start es is range n = lines_shared laws s (take n es) (opened s start) (first_events s n es range) (opened_shared laws s start is)

pub all_safe : ShareLaws → (s : GroupSetup) (start : ℕ) (es : List GroupEvent) → IsGroupSetup s → AreGroupEvents s es → AfterEachLine IsSafeSharing s start es
all_safe laws s start es is range n = safe_sharing laws s _ (after_lines laws s start es is range n)

pub all_lawful : ShareLaws → (s : GroupSetup) (start : ℕ) (es : List GroupEvent) → IsGroupSetup s → AreGroupEvents s es → AfterEachLine IsLawfulSharing s start es
all_lawful laws s start es is range n = lawful_sharing laws s _ (after_lines laws s start es is range n)
