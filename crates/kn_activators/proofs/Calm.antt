-- Where no limit is still to change, an event of one activator leaves it so, and its line has its rows alone.
use Rattle.std.proofs.Common.{◌≡◌, ◌++◌, ◌∷◌, ℕ, zero, suc, ◌+◌, List, [], append-nil, refl, ap, ◌∙◌, sym, subst}
use Rattle.std.specs.Prelude.{None, Option, if◌then◌else◌}
use Rattle.std.proofs.lemmas.Bool.{eq-eqb}
use Rattle.kn_event.specs.declared.event.Event.{Event}
use Rattle.kn_report.specs.AddingLaws.{AddingLaws}
use Rattle.kn_report.specs.Waiting.{Adds}
use Rattle.kn_slices.specs.Traces.{GroupState, IsCalm, made_at}
use Rattle.kn_activators.specs.declared.event.GroupEvent.TheVariants as group
use Rattle.kn_activators.specs.declared.setup.GroupSetup.{GroupSetup}
use Rattle.kn_activators.specs.Sharing.{Outcome, Sharing, and_then, by_line, by_one, changes, changes_most, due_in, force_line, force_lines, stepped, unsaid, while_due}
use Rattle.kn_activators.specs.Standing.{Fails, Makes, ReplayState, Stands}

none_changes : (s : GroupSetup) (time n : ℕ) (x : Sharing) → due_in x ≡ None → changes s time n x ≡ unsaid x
unfolding changes
none_changes s time zero x e = refl
none_changes s time (suc n) x e = ap (λ o. while_due o x (λ change. and_then (by_one s x change.activator (made_at time change)) (changes s time n))) e

no_lines : (time p : ℕ) (fs : List ℕ) → force_lines time p fs fs ≡ []
unfolding force_lines
no_lines time p [] = refl
no_lines time p (f ∷ fs) = ap (λ b. (if b then [] else force_line time p f) ++ force_lines time (p + 1) fs fs) (eq-eqb f f refl) ∙ no_lines time (p + 1) fs

-- none is due of what an activator that is calm stands for
none_due : (g : GroupState) (x : Sharing) → IsCalm g → Stands g x → due_in x ≡ None
none_due g x calm stands = subst (λ (w : List ℕ). due_in (record { traces = x.traces; wanted = w; force = x.force }) ≡ None) stands.wanted (calm.none x.traces stands.traces)

-- the limits in force are the wanted ones
forces_wanted : (g : GroupState) (x : Sharing) → IsCalm g → Stands g x → x.force ≡ x.wanted
forces_wanted g x calm stands = sym stands.force ∙ (calm.force ∙ stands.wanted)

module _ (s : GroupSetup) (i : ℕ) (e : Event) (x : Sharing) (g new : GroupState) (calm : IsCalm g) (calm' : IsCalm new) (old : Stands g x) (now : Stands new (stepped s x i e)) where
  quiet : changes s e.time (changes_most s) (stepped s x i e) ≡ unsaid (stepped s x i e)
  quiet = none_changes s e.time (changes_most s) (stepped s x i e) (none_due new (stepped s x i e) calm' now)

  same_force : x.force ≡ (stepped s x i e).force
  unfolding stepped
  same_force = forces_wanted g x calm old ∙ sym (forces_wanted new (stepped s x i e) calm' now)

  line_leaves : (by_line s (group.One i e) x).now ≡ stepped s x i e
  unfolding by_line
  line_leaves = ap (λ (o : Outcome). o.now) quiet

  line_says : (by_line s (group.One i e) x).text ≡ (by_one s x i e).text
  unfolding by_line
  line_says =
      ap (λ (o : Outcome). ((by_one s x i e).text ++ o.text) ++ force_lines e.time 0 x.force o.now.force) quiet
      ∙ (ap (λ (fs : List ℕ). ((by_one s x i e).text ++ []) ++ force_lines e.time 0 x.force fs) (sym same_force)
      ∙ (ap (λ (t : List ℕ). ((by_one s x i e).text ++ []) ++ t) (no_lines e.time 0 x.force)
      ∙ (append-nil ((by_one s x i e).text ++ []) ∙ append-nil (by_one s x i e).text)))

pub makes_calm : (s : GroupSetup) (i : ℕ) (e : Event) (a b : ReplayState) (o p : Option (List ℕ)) → IsCalm a.group → IsCalm b.group → Makes (λ x. by_one s x i e) a b o p → Makes (by_line s (group.One i e)) a b o p
makes_calm s i e a b o p calm calm' h = λ x old.
    let came = h x old in
    record {
      stands = subst (Stands b.group) (sym (line_leaves s i e x a.group b.group calm calm' old came.stands)) came.stands;
      adds = subst (Adds o p a.waiting b.waiting) (sym (line_says s i e x a.group b.group calm calm' old came.stands)) came.adds;
    }

pub fails_calm : AddingLaws → (s : GroupSetup) (i : ℕ) (e : Event) (a : ReplayState) (o p : Option (List ℕ)) → Fails (λ x. by_one s x i e) a o p → Fails (by_line s (group.One i e)) a o p
unfolding by_line
fails_calm laws s i e a o p h = λ x old.
    let made = changes s e.time (changes_most s) (stepped s x i e) in
    let row = (by_one s x i e).text in
    laws.behind o p a.waiting (row ++ made.text) (force_lines e.time 0 x.force made.now.force) (laws.behind o p a.waiting row made.text (h x old))
