-- A pod that starts at the opening and at the end starts all the while, and so was visited in the ticker's first turn.
use Rattle.std.proofs.Common.{◌≡◌, ◌⊎◌, ◌<◌, inl, inr, ℕ, List, [], ◌∷◌, ◌++◌, Bool, true, false, refl, sym, ap, ◌∙◌, subst}
use Rattle.std.proofs.lemmas.Bool.{cases_eq}
use Rattle.std.proofs.lemmas.List.{append-nil}
use Rattle.std.specs.Prelude.{Option}
use Rattle.kn_event.specs.declared.revision.Spec.{Spec}
use Rattle.kn_event.specs.Lists.{contains}
use Rattle.kn_trace.specs.Events.{react}
use Rattle.kn_trace.specs.Trace.{Trace, created, starting_pods}
use Rattle.kn_core.specs.State.{StandsFor}
use Rattle.kn_cell.specs.declared.past.Past.{Past}
use Rattle.kn_cell.specs.Lists.{StartsWith}
use Rattle.kn_cell.specs.History.{trace_after}
use Rattle.kn_cell.specs.Shown.{PassView}
use Rattle.kn_io.specs.Links.{Link}
use Rattle.kn_request.specs.Laws.{Made}
use Rattle.kn_request.specs.Pods.{IsStarting, IsStartingAt}
use Rattle.kn_request.specs.Ticking.{Turns, TurnsFrom, Visit, is_visited}
use Rattle.kn_session.specs.Laws.{SessionLaws}
use Rattle.kn_session.proofs.ListFacts.{starts_trans, trace_after-append}

-- ---- traces

made_after : SessionLaws → (s : Spec) (h : List Past) (c : Trace) → Made s c → Made s (trace_after s c h)
made_after laws s [] c made = made
made_after laws s (x ∷ xs) c made = made_after laws s xs (c ++ react s c x.event) (laws.keeps s c x.event made)

known_after : SessionLaws → (s : Spec) (h : List Past) (c : Trace) (pod : ℕ) → Made s c → pod < created c → pod < created (trace_after s c h)
known_after laws s [] c pod made low = low
known_after laws s (x ∷ xs) c pod made low =
    known_after laws s xs (c ++ react s c x.event) pod (laws.keeps s c x.event made) (laws.pods.stay s c x.event pod made low)

is_true : (b : Bool) → ((b ≡ true → ⊥) → ⊥) → b ≡ true
is_true true some = refl
is_true false some = absurd (some (λ e. cc))

-- who starts at the end started before
started : SessionLaws → (s : Spec) (h : List Past) (c : Trace) (pod : ℕ) → Made s c → pod < created c → IsStarting (trace_after s c h) pod → IsStarting c pod
started laws s [] c pod made low starts = starts
started laws s (x ∷ xs) c pod made low starts =
    let then = started laws s xs (c ++ react s c x.event) pod (laws.keeps s c x.event made) (laws.pods.stay s c x.event pod made low) starts in
    is_true (contains pod (starting_pods c)) (λ not. laws.pods.gone s c x.event pod made low not then)

-- .. and so in between
starts_between : SessionLaws → (s : Spec) (c : Trace) (seen h : List Past) (pod : ℕ) → Made s c → StartsWith h seen → IsStarting c pod → IsStarting (trace_after s c h) pod → IsStarting (trace_after s c seen) pod
starts_between laws s c seen h pod made front starts end =
    let e : trace_after s c h ≡ trace_after s (trace_after s c seen) front.0 = ap (trace_after s c) front.1 ∙ trace_after-append s c seen front.0 in
    let known = known_after laws s seen c pod made (laws.pods.known s c pod made starts) in
    started laws s front.0 (trace_after s c seen) pod (made_after laws s seen c made) known (subst (λ t. IsStarting t pod) e end)

-- ---- visits

visited_or_not : (pod a : ℕ) (vs : List Visit) → is_visited pod a vs ⊎ (is_visited pod a vs → ⊥)
visited_or_not pod a [] = inr (λ x. x)
visited_or_not pod a (v ∷ vs) = elim (visited_or_not pod a vs) [
  | inl x ↦ inl (inr x)
  | inr not ↦ elim (cases_eq v.pod pod) [
    | inl e ↦ elim (cases_eq v.address a) [ inl d ↦ inl (inl (e, d)) | inr ne ↦ inr (λ both. elim both [ inl y ↦ ne y.1 | inr x ↦ not x ]) ]
    | inr ne ↦ inr (λ both. elim both [ inl y ↦ ne y.0 | inr x ↦ not x ])
  ]
]

visited_left : (pod a : ℕ) (vs ws : List Visit) → is_visited pod a vs → is_visited pod a (vs ++ ws)
visited_left pod a [] ws is = absurd is
visited_left pod a (v ∷ vs) ws is = elim is [ inl e ↦ inl e | inr x ↦ inr (visited_left pod a vs ws x) ]

pub turns_longer : (reading : ℕ → Type 0) (last : ℕ) (nows : List ℕ) (p q : PassView) (w w' : Option Link) (end : ℕ) → TurnsFrom reading last nows p q w w' end → StartsWith q.seen p.seen
turns_longer reading last [] p q w w' end t = ([], ap (λ (v : PassView). v.seen) t.0 ∙ sym (append-nil p.seen))
turns_longer reading last (now ∷ nows) p q w w' end t = starts_trans p.seen t.1.seen q.seen t.4.later.longer (turns_longer reading t.0.last nows t.1 q t.2 w' end t.5)

-- a pod that starts at the opening and at the end was visited in the first turn, at the address that it had at the opening
pub first_visited : SessionLaws → (reading : ℕ → Type 0) (start : ℕ) (h : List Past) (p q : PassView) (w w' : Option Link) (more : List Visit) → (t : Turns reading start p q w w') → p.seen ≡ [] → StartsWith h q.seen
    → (c : Trace) → StandsFor p.opening c → (pod a : ℕ) → IsStartingAt p.book c pod a → IsStarting (trace_after p.opening.spec c h) pod → is_visited pod a (t.1.turns.4.visits ++ more)
first_visited laws reading start h p q w w' more t fresh front c stands pod a starts end =
    let turns = t.1.turns in
    let m = turns.1 in
    let s = p.opening.spec in
    let made = laws.made p.opening c stands in
    let seen : StartsWith h m.seen = starts_trans m.seen q.seen h (turns_longer reading turns.0.last t.1.nows m q turns.2 w' t.0 turns.5) front in
    let now : IsStarting (trace_after s c m.seen) pod = starts_between laws s c m.seen h pod made seen starts.0 end in
    let first : IsStartingAt p.book (trace_after s c p.seen) pod a = subst (λ l. IsStartingAt p.book (trace_after s c l) pod a) (sym fresh) starts in
    elim (visited_or_not pod a turns.4.visits) [ inl x ↦ visited_left pod a turns.4.visits more x | inr not ↦ absurd (turns.4.starting c stands pod a (first, now) not) ]
