-- A finish ends a running request, and nothing else does but the loss of its pod.
use Rattle.std.proofs.Common.{◌≡◌, ℕ, ◌<◌, Bool, true, false, not, ◌&&◌, ◌⊎◌, inl, inr, List, [], ◌∷◌, ◌++◌, suc, zero, refl, ap, ◌∙◌, arith, append-nil, append_assoc}
use Rattle.std.specs.Prelude.{None, Some, ◌==◌}
use Rattle.std.specs.List.{Any}
use Rattle.std.proofs.lemmas.Bool.{eq-eqb, false_from_ne_true, or_right}
use Rattle.kn_event.specs.declared.entry.Entry.{Entry}
use Rattle.kn_event.specs.declared.entry.Row.TheVariants as row
use Rattle.kn_event.specs.declared.event.Act.{Act}
use Rattle.kn_event.specs.declared.event.Act.TheVariants as act
use Rattle.kn_event.specs.declared.event.Event.{Event}
use Rattle.kn_event.specs.declared.event.Stand.TheVariants as stand
use Rattle.kn_event.specs.declared.revision.Spec.{Spec}
use Rattle.kn_event.specs.Lists.{contains}
use Rattle.kn_trace.specs.Outcome.{Finished, outcome_of}
use Rattle.kn_trace.specs.Rows.{taken_by}
use Rattle.kn_trace.specs.Trace.{Trace, entry, arrivals, each_row, ended, is_running, live, pod_of, stand_of}
use Rattle.kn_trace.specs.Events.{act_row, added, departures, expiries, react}
use Rattle.kn_trace.specs.Report.{is_expire}
use Rattle.kn_record.specs.Made.{IsMade}
use Rattle.kn_record.specs.Kept.{Kept}
use Rattle.kn_record.specs.Facts.{Facts}
use Rattle.kn_laws.specs.Facts.{PartFacts}
use Rattle.kn_sizes.specs.Course.{HasFinished, MayEnd}
use Rattle.kn_sizes.proofs.Course.{ends-each, expire_ends, runs-rows, runs_until}
use Rattle.kn_sizes.proofs.Lasts.{arrivals_stay, pod_stays, running_pod}
use Rattle.kn_sizes.proofs.Outcomes.{live_outcome, outcome_comes, outcome_stays}
use Rattle.kn_sizes.proofs.Telling.{after-parts, arrived-less, later_of}

finish-row : (s : Spec) (c : Trace) (r : ℕ) (ok : Bool) → is_running c r ≡ true → act_row s c (act.Finish r ok) ≡ Some (row.Finish r ok)
unfolding act_row
finish-row s c r ok runs = rw runs refl

any-later : (P : Event → Type 0) (e : Event) (es : List Event) → Any P es → Any P (e ∷ es)
any-later P e es a = let inside = a.2 in (suc a.0, a.1, omega arith, a.3, a.4)

module _ (facts : Facts) (parts : PartFacts) where
  open facts use {lists.{contains-filter}, entries.{ended-push}, members.{running_parts, begun_taken, taken_comes}, proper.{Holds-kept, made_kept, made_react, expiries-hold, departures-hold}}
  open parts use {rows.{expiries-rows, departures-same}}

  -- ---- a finish

  -- a running request doesn't expire
  runs_over_expiries : (s : Spec) (c : Trace) (t r : ℕ) → IsMade s c → is_running c r ≡ true → is_running (c ++ expiries s t c) r ≡ true
  runs_over_expiries s c t r made runs =
      by (runs-rows facts parts s (pod_of c) act.Pass c (expiries s t c) r (expiries-hold s t c (made_kept s c made).requests) (ends-each (pod_of c) act.Pass is_expire (expire_ends (pod_of c) act.Pass) (expiries s t c) (expiries-rows s t c)) runs)
    where
      by : (is_running (c ++ expiries s t c) r ≡ true) ⊎ MayEnd r (pod_of c r) act.Pass → is_running (c ++ expiries s t c) r ≡ true
      by (inl k) = k
      by (inr (inl k)) = absurd (let other = k.1 in cc)
      by (inr (inr k)) = absurd (let other = k.2 in cc)

  ended-list : (c es : Trace) (r : ℕ) → ended c r ≡ true → ended (c ++ es) r ≡ true
  ended-list c [] r h = rw (append-nil c) h
  ended-list c (e ∷ es) r h = rw (append_assoc c (e ∷ []) es) at (ended-list (c ++ e ∷ []) es r (ended-push c e r ∙ rw h refl))

  -- who has come and has ended stands so
  ended_stands : (c : Trace) (r : ℕ) → r < arrivals c → ended c r ≡ true → stand_of c r ≡ stand.Ended
  unfolding stand_of live
  ended_stands c r less h = rw (arrived-less c r less, contains-filter (λ r. not (ended c r)) r (each_row taken_by c), h, and-false (contains r (each_row taken_by c))) refl
    where
      and-false : (b : Bool) → (b && false) ≡ false
      and-false true = refl
      and-false false = refl

  pub finish_ends : (s : Spec) (c : Trace) (e : Event) (r : ℕ) (ok : Bool) → IsMade s c → e.act ≡ act.Finish r ok → is_running c r ≡ true → HasFinished (c ++ react s c e) r ok
  finish_ends s c e r ok made is runs = record {
    stands = ended_stands after r less over;
    runs = false_from_ne_true (is_running after r) (λ k. let on = (running_parts after r k).1 in let gone : ended after r ≡ true = over in absurd (cc));
    outcome = rw (whole) (outcome_stays (c1 ++ x ∷ []) (later_of s c e) r (Finished ok) (outcome_comes c1 x r (Finished ok) open_yet (rw (eq-eqb r r refl) refl)));
  }
    where
      after : Trace
      after = c ++ react s c e

      c1 : Trace
      c1 = c ++ departures s c e

      x : Entry
      x = entry e.time (row.Finish r ok)

      kept : Kept s c
      kept = made_kept s c made

      kept1 : Kept s c1
      kept1 = Holds-kept s c (departures s c e) kept (departures-hold s c e kept)

      runs1 : is_running c1 r ≡ true
      runs1 = rw (departures-same s c e (λ p other. absurd (cc))) (runs_over_expiries s c e.time r made runs)

      whole : c ++ react s c e ≡ (c1 ++ x ∷ []) ++ later_of s c e
      whole = after-parts s c e (row.Finish r ok) (ap (λ (a : Act). act_row s c1 a) is ∙ finish-row s c1 r ok runs1)

      open_yet : outcome_of c1 r ≡ None
      open_yet = let both = running_parts c1 r runs1 in live_outcome facts c1 r kept1.requests (begun_taken c1 r kept1.requests both.0) both.1

      over : ended (c ++ react s c e) r ≡ true
      over = rw whole (ended-list (c1 ++ x ∷ []) (later_of s c e) r (ended-push c1 x r ∙ or_right (ended c1 r) (r == r) (eq-eqb r r refl)))

      less : r < arrivals (c ++ react s c e)
      less =
          let come = taken_comes c r kept.requests (begun_taken c r kept.requests (running_parts c r runs).0) in
          let more = (arrivals_stay s c).once e in
          omega arith

  -- ---- over any events

  runs-on-at : (s : Spec) (c : Trace) (es : List Event) (r p : ℕ) → IsMade s c → is_running c r ≡ true → pod_of c r ≡ Some p → (is_running (c ++ added s c es) r ≡ true) ⊎ Any (λ (e : Event). MayEnd r (Some p) e.act) es
  unfolding added
  runs-on-at s c [] r p made runs there = inl (rw (append-nil c) runs)
  runs-on-at s c (e ∷ es) r p made runs there =
      by (rw there at (runs_until facts parts s c e r made runs)) (λ k. runs-on-at s (c ++ react s c e) es r p (made_react s c e made) k ((pod_stays facts parts s c r p made there).once e))
    where
      both : (is_running ((c ++ react s c e) ++ added s (c ++ react s c e) es) r ≡ true) ⊎ Any (λ (e : Event). MayEnd r (Some p) e.act) es
          → (is_running (c ++ (react s c e ++ added s (c ++ react s c e) es)) r ≡ true) ⊎ Any (λ (e : Event). MayEnd r (Some p) e.act) (e ∷ es)
      both (inl k) = inl (rw (append_assoc c (react s c e) (added s (c ++ react s c e) es)) at k)
      both (inr a) = inr (any-later (λ (e : Event). MayEnd r (Some p) e.act) e es a)

      by : (is_running (c ++ react s c e) r ≡ true) ⊎ MayEnd r (Some p) e.act
          → (is_running (c ++ react s c e) r ≡ true → (is_running ((c ++ react s c e) ++ added s (c ++ react s c e) es) r ≡ true) ⊎ Any (λ (e : Event). MayEnd r (Some p) e.act) es)
          → (is_running (c ++ (react s c e ++ added s (c ++ react s c e) es)) r ≡ true) ⊎ Any (λ (e : Event). MayEnd r (Some p) e.act) (e ∷ es)
      by (inl k) rest = both (rest k)
      by (inr k) rest = inr (zero, e, omega arith, refl, k)

  -- a running request runs on over any events, until one may end it
  pub runs_on : (s : Spec) (c : Trace) (es : List Event) (r : ℕ) → IsMade s c → is_running c r ≡ true → (is_running (c ++ added s c es) r ≡ true) ⊎ Any (λ (e : Event). MayEnd r (pod_of c r) e.act) es
  runs_on s c es r made runs =
      let pod = running_pod facts parts c r (made_kept s c made).requests runs in
      rw pod.1 (runs-on-at s c es r pod.0 made runs pod.1)
