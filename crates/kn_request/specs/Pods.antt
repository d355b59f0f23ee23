-- What a ticker needs to know of pods, of each trace that events made.
use Rattle.std.specs.Prelude.{◌≡◌, ◌≤◌, ◌<◌, ℕ, true, ◌++◌, None, Some}
use Rattle.kn_event.specs.declared.event.Act.TheVariants as act
use Rattle.kn_event.specs.declared.event.Event.{Event}
use Rattle.kn_event.specs.declared.revision.Spec.{Spec}
use Rattle.kn_event.specs.Lists.{contains}
use Rattle.kn_trace.specs.Events.{need_of, react}
use Rattle.kn_trace.specs.Trace.{Trace, created, starting_pods}
use Rattle.kn_book.specs.Book.{address_of, next_to_probe}
use Rattle.kn_request.specs.Laws.{Made}

abbrev pub IsStarting : Trace → ℕ → Type 0
IsStarting c j = contains j (starting_pods c) ≡ true

-- the pod is starting, and has this one of n addresses
abbrev pub IsStartingAt : ℕ → Trace → ℕ → ℕ → Type 0
IsStartingAt n c j a = IsStarting c j × (address_of n c j ≡ Some a)

pub record PodLaws : Type 0 where
  pub tick_need : (c : Trace) → need_of c act.Tick ≡ 1
  pub ready_need : (c : Trace) (p : ℕ) → need_of c (act.Ready p) ≡ 1
  pub next : (s : Spec) (n : ℕ) (c : Trace) (k p a : ℕ) → Made s c → next_to_probe n c k ≡ Some (p, a) → IsStartingAt n c p a
  pub least : (s : Spec) (n : ℕ) (c : Trace) (k p a j : ℕ) → Made s c → next_to_probe n c k ≡ Some (p, a) → k ≤ j → j < p → IsStarting c j → ⊥
  pub none : (s : Spec) (n : ℕ) (c : Trace) (k j a : ℕ) → Made s c → next_to_probe n c k ≡ None → k ≤ j → IsStartingAt n c j a → ⊥
  pub known : (s : Spec) (c : Trace) (j : ℕ) → Made s c → IsStarting c j → j < created c
  pub stay : (s : Spec) (c : Trace) (e : Event) (j : ℕ) → Made s c → j < created c → j < created (c ++ react s c e)
  pub gone : (s : Spec) (c : Trace) (e : Event) (j : ℕ) → Made s c → j < created c → (IsStarting c j → ⊥) → IsStarting (c ++ react s c e) j → ⊥
  -- a pod keeps its address for as long as it starts
  pub keeps : (s : Spec) (n : ℕ) (c : Trace) (e : Event) (j a : ℕ) → Made s c → IsStartingAt n c j a → IsStarting (c ++ react s c e) j → IsStartingAt n (c ++ react s c e) j a
  -- where there are no addresses the pod's number is its address
  pub plain : (c : Trace) (j : ℕ) → IsStarting c j → IsStartingAt 0 c j j
