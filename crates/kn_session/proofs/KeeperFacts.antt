-- What the keeper gained.
use Rattle.std.proofs.Common.{◌≡◌, ◌+◌, inl, inr, ℕ, suc, List, [], ◌∷◌, ◌++◌, Bool, true, false, refl, sym, ap, ◌∙◌, subst, append_assoc}
use Rattle.std.specs.Prelude.{Option, None, Some, unwrap_or}
use Rattle.std.proofs.Math.Logic.{∥∥₁_elim}
use Rattle.std.proofs.lemmas.Bool.{cases_lt}
use Rattle.std.proofs.lemmas.List.{append-nil}
use mathlib.Core.List.{map-append}
use native.Mathlib.Nat.{ℕ_set}
use Rattle.kn_event.specs.declared.event.Act.TheVariants as act
use Rattle.kn_trace.specs.Trace.{Trace}
use Rattle.kn_core.specs.State.{RevisionState, StandsFor, StandsForSome}
use Rattle.kn_cell.specs.declared.past.Past.{Past}
use Rattle.kn_cell.specs.Lists.{Each, StartsWith}
use Rattle.kn_cell.specs.History.{rows_by, trace_after}
use Rattle.kn_cell.specs.Shown.{PassView}
use Rattle.kn_io.specs.Links.{Link, Tells}
use Rattle.kn_io.specs.declared.records.Probe.{Probe}
use Rattle.kn_request.specs.declared.ticks.Turn.{Turn}
use Rattle.kn_request.specs.Pods.{IsStarting, IsStartingAt}
use Rattle.kn_request.specs.Ticking.{AreReady, ReadyOf, TakesTurn, TurnsFrom, Turns, Visit, WasStarting, is_visited, probe_of, probed_all, probes_of}
use Rattle.kn_session.specs.Laws.{SessionLaws}
use Rattle.kn_session.specs.Keeper.{IsMet, IsRight, ProbedBy, is_probed}
use Rattle.kn_session.specs.Session.{IsFound, IsPart, IsRowOf, Probed}
use Rattle.kn_session.proofs.ListFacts.{each_both, each_cons, in_rows, none, one, starts_trans}
use Rattle.kn_session.proofs.StartFacts.{first_visited, turns_longer}

-- ---- what a link that tells was probed for, step by step

tells_none : (a b : Option Link) → b ≡ a → Tells a b (probed_all [])
tells_none a None e = tt
tells_none None (Some b) e = absurd (cc)
tells_none (Some a) (Some b) e = (let is : b ≡ a = cc in is ∙ ap (λ l. record a { probes = l }) (sym (append-nil a.probes)))

tells_trans : (ps qs : List Probe) (a b c : Option Link) → Tells a b (probed_all ps) → Tells b c (probed_all qs) → Tells a c (probed_all (ps ++ qs))
tells_trans ps qs a b None x y = tt
tells_trans ps qs a None (Some c) x y = absurd y
tells_trans ps qs None (Some b) (Some c) x y = absurd x
tells_trans ps qs (Some a) (Some b) (Some c) x y = y ∙ (ap (probed_all qs) x ∙ ap (λ l. record a { probes = l }) (append_assoc a.probes ps qs))

-- ---- each Ready was found true

pub ReadyIn : List Visit → Past → Type 0
ReadyIn vs x = (p : ℕ) → x.event.act ≡ act.Ready p → IsMet vs p

met_left : (p : ℕ) (vs ws : List Visit) → IsMet vs p → IsMet (vs ++ ws) p
met_left p [] ws f = absurd f
met_left p (x ∷ xs) ws f = elim f [ inl a ↦ inl a | inr b ↦ inr (met_left p xs ws b) ]

met_right : (p : ℕ) (vs ws : List Visit) → IsMet ws p → IsMet (vs ++ ws) p
met_right p [] ws f = f
met_right p (x ∷ xs) ws f = inr (met_right p xs ws f)

each_left_in : (vs ws : List Visit) (xs : List Past) → Each (ReadyIn vs) xs → Each (ReadyIn (vs ++ ws)) xs
unfolding ReadyIn
each_left_in vs ws xs all k x at p e = met_left p vs ws (all k x at p e)

each_right_in : (vs ws : List Visit) (xs : List Past) → Each (ReadyIn ws) xs → Each (ReadyIn (vs ++ ws)) xs
unfolding ReadyIn
each_right_in vs ws xs all k x at p e = met_right p vs ws (all k x at p e)

by_answer : (full : Bool) (v : Visit) (vs : List Visit) (o : Option Bool) (P : List Past → Type 0) (rows : List Past) → v.answer ≡ o → ((xs : List Past) → P xs → Each (ReadyIn (v ∷ vs)) xs) → ReadyOf o v.pod full P rows
    → Each (ReadyIn (v ∷ vs)) rows
unfolding ReadyIn
by_answer full v vs None P rows is more m = more rows m
by_answer full v vs (Some false) P rows is more m = more rows m
by_answer full v vs (Some true) P rows is more m = elim m [
  | inl x ↦ subst (Each (ReadyIn (v ∷ vs))) (sym x.2) (each_cons (ReadyIn (v ∷ vs)) x.0 x.1 (λ p e. inl ((let k = x.3 in cc), is)) (more x.1 x.4))
  | inr x ↦ more rows x.1
]

ready_in : (full : Bool) (vs : List Visit) (rows : List Past) → AreReady full vs rows → Each (ReadyIn vs) rows
ready_in full [] rows r = subst (Each (ReadyIn [])) (sym r) (none (ReadyIn []))
ready_in full (v ∷ vs) rows r = by_answer full v vs v.answer (AreReady full vs) rows refl (λ xs m. each_right_in (v ∷ []) vs xs (ready_in full vs xs m)) r

tick_in : (now last : ℕ) (p q : PassView) (w w' : Option Link) (t : Turn) (vs : List Visit) → (m : TakesTurn now last p q w w' t) → Each (ReadyIn vs) m.tick
unfolding ReadyIn
tick_in now last p q w w' t vs m = elim (cases_lt now (last + 2000)) [
  | inl early ↦ subst (Each (ReadyIn vs)) (sym (m.early early).1) (none (ReadyIn vs))
  | inr due ↦ elim (m.due due).1 [
    | inl x ↦ subst (Each (ReadyIn vs)) (sym x.1) (one (ReadyIn vs) x.0 (λ pod e. let k = x.2 in absurd (cc)))
    | inr x ↦ subst (Each (ReadyIn vs)) (sym x.1) (none (ReadyIn vs))
  ]
]

-- ---- each visit was at its pod's address

right_of : (h : List Past) (p m : PassView) (v : Visit) → StartsWith h m.seen → WasStarting p m v.pod v.address → IsRight p.book p.opening h v
right_of h p m v more w = record { front = w.front; early = starts_trans w.front m.seen h w.early more; starts = w.starts }

-- a later pass of the same cell has the same opening and book
right_before : (h : List Past) (p m : PassView) (vs : List Visit) → m.opening ≡ p.opening → m.book ≡ p.book → Each (IsRight m.book m.opening h) vs → Each (IsRight p.book p.opening h) vs
right_before h p m vs opening book all = subst (λ n. Each (IsRight n p.opening h) vs) book (subst (λ (b : RevisionState). Each (IsRight m.book b h) vs) opening all)

-- what some turns gained
pub record Gained (w w' : Option Link) (p q : PassView) : Type 0 where
  pub visits : List Visit
  pub rows : List Past
  pub mine : q.mine ≡ p.mine ++ rows
  pub told : Tells w w' (probed_all (probes_of visits))
  pub found : Each (ReadyIn visits) rows
  pub right : (h : List Past) → StartsWith h q.seen → Each (IsRight p.book p.opening h) visits

turns_gain : (reading : ℕ → Type 0) (last : ℕ) (nows : List ℕ) (p q : PassView) (w w' : Option Link) (end : ℕ) → TurnsFrom reading last nows p q w w' end → Gained w w' p q
turns_gain reading last [] p q w w' end t = record {
  visits = [];
  rows = [];
  mine = ap (λ (v : PassView). v.mine) t.0 ∙ sym (append-nil p.mine);
  told = tells_none w w' t.1;
  found = none (ReadyIn []);
  right = λ h more. none (IsRight p.book p.opening h);
}
turns_gain reading last (now ∷ nows) p q w w' end t =
    let m = t.4 in
    let rest = turns_gain reading t.0.last nows t.1 q t.2 w' end t.5 in
    let rows = m.tick ++ m.rows in
    let here : Each (ReadyIn m.visits) rows = each_both (ReadyIn m.visits) m.tick m.rows (tick_in now last p t.1 w t.2 t.0 m.visits m) (ready_in t.0.full m.visits m.rows m.ready) in
    record {
      visits = m.visits ++ rest.visits;
      rows = rows ++ rest.rows;
      mine = rest.mine ∙ (ap (λ l. l ++ rest.rows) m.mine ∙ append_assoc p.mine rows rest.rows);
      told = subst (λ ps. Tells w w' (probed_all ps)) (sym (map-append probe_of m.visits rest.visits)) (tells_trans (probes_of m.visits) (probes_of rest.visits) w t.2 w' m.told rest.told);
      found = each_both (ReadyIn (m.visits ++ rest.visits)) rows rest.rows (each_left_in m.visits rest.visits rows here) (each_right_in m.visits rest.visits rest.rows rest.found);
      right = λ h more. each_both (IsRight p.book p.opening h) m.visits rest.visits
          (λ k v at. right_of h p t.1 v (starts_trans t.1.seen q.seen h (turns_longer reading t.0.last nows t.1 q t.2 w' end t.5) more) (m.only k v at))
          (right_before h p t.1 rest.visits (ap (λ (v : PassView). v.opening) m.later.same) (ap (λ (v : PassView). v.book) m.later.same) (rest.right h more));
    }

-- each Ready row of the history was found true by a visit that the keeper made, and who starts all the while was visited at its address
pub keeper_visited : SessionLaws → (b : RevisionState) (reading : ℕ → Type 0) (start : ℕ) (h : List Past) (slots : ℕ) (p q : PassView) (w w' : Option Link) → Turns reading start p q w w' → p.mine ≡ [] → p.seen ≡ [] → p.opening ≡ b
    → IsPart h 1 q → Each (IsRowOf slots) h → ProbedBy p.book b h w w'
unfolding ReadyIn turns_gain
keeper_visited laws b reading start h slots p q w w' t fresh unseen opening part rows =
    let g = turns_gain reading start (t.1.first ∷ t.1.nows) p q w w' t.0 t.1.turns in
    let mine : Each (ReadyIn g.visits) (rows_by 1 h) = subst (Each (ReadyIn g.visits)) (sym (g.mine ∙ ap (λ l. l ++ g.rows) fresh) ∙ part.whole) g.found in
    let Starting : RevisionState → Type 0 = λ v. (c : Trace) → StandsFor v c → (pod a : ℕ) → IsStartingAt p.book c pod a → IsStarting (trace_after v.spec c h) pod → is_visited pod a g.visits in
    let starting : Starting p.opening = first_visited laws reading start h p q w w' (turns_gain reading t.1.turns.0.last t.1.nows t.1.turns.1 q t.1.turns.2 w' t.0 t.1.turns.5).visits t unseen part.front in
    record {
      visits = g.visits;
      told = g.told;
      right = subst (λ (v : RevisionState). Each (IsRight p.book v h) g.visits) opening (g.right h part.front);
      found = λ k x at pod e. elim (rows k x at) [
        | inl a ↦ in_rows (ReadyIn g.visits) 1 h k x at a.0 mine pod e
        | inr s ↦ absurd (elim s.1 [ inl b ↦ (let i = b.1 in cc) | inr b ↦ elim b [ inl d ↦ (let i = d.1 in cc) | inr d ↦ (let i = d.2 in cc) ] ])
      ];
      starting = subst Starting opening starting;
    }

-- ---- where a pod's number is its address

-- then each visit was at its pod's number
plain_right : SessionLaws → (b : RevisionState) (h : List Past) (v : Visit) → StandsForSome b → IsRight 0 b h v → v.address ≡ v.pod
plain_right laws b h v known r = ∥∥₁_elim known (ℕ_set v.address v.pod) (λ x.
    let is = r.starts x.0 x.1 in
    let plain = laws.pods.plain (trace_after b.spec x.0 r.front) v.pod is.0 in
    ap (λ (o : Option ℕ). unwrap_or o v.pod) (sym is.1 ∙ plain.1))

plain_found : (pod : ℕ) (vs : List Visit) → Each (λ v. v.address ≡ v.pod) vs → IsMet vs pod → IsFound (probes_of vs) pod
plain_found pod [] plain met = absurd met
plain_found pod (v ∷ vs) plain met = elim met [
  | inl e ↦ inl (plain 0 v refl ∙ e.0, e.1)
  | inr more ↦ inr (plain_found pod vs (λ k x at. plain (suc k) x at) more)
]

visit_probed : (pod : ℕ) (vs : List Visit) → is_visited pod pod vs → is_probed pod (probes_of vs)
visit_probed pod [] is = absurd is
visit_probed pod (v ∷ vs) is = elim is [ inl e ↦ inl e.1 | inr more ↦ inr (visit_probed pod vs more) ]

pub plain_probed : SessionLaws → (b : RevisionState) (h : List Past) (w w' : Option Link) → StandsForSome b → ProbedBy 0 b h w w' → Probed b h w w'
plain_probed laws b h w w' known x =
    let plain : Each (λ v. v.address ≡ v.pod) x.visits = λ k v at. plain_right laws b h v known (x.right k v at) in
    record {
      probes = probes_of x.visits;
      told = x.told;
      found = λ k y at pod e. plain_found pod x.visits plain (x.found k y at pod e);
      starting = λ c s pod starts end. visit_probed pod x.visits (x.starting c s pod pod (laws.pods.plain c pod starts) end);
    }
