-- The ticker's rows and probes.
use Rattle.std.proofs.Common.{◌≡◌, ◌⊎◌, inl, inr, ℕ, ◌+◌, ◌≤◌, ◌<◌, List, [], ◌∷◌, ◌++◌, Bool, true, false, suc, zero, refl, sym, ap, ◌∙◌, subst, arith, append_assoc}
use Rattle.std.proofs.lemmas.Bool.{cases_lt, true_from_ne_false}
use Rattle.std.proofs.lemmas.List.{append-nil}
use mathlib.Core.List.{map-append}
use Rattle.std.specs.Prelude.{Option, None, Some, ◌||◌, unwrap_or, ⊤}
use mathlib.Core.Option.{some}
use lib.ListN.{get_elem?}
use Rattle.kn_event.specs.declared.event.Act.{Act}
use Rattle.kn_event.specs.declared.event.Act.TheVariants as act
use Rattle.kn_event.specs.declared.event.Told.{Told}
use Rattle.kn_event.specs.declared.revision.Spec.{Spec}
use Rattle.kn_event.specs.Lists.{contains}
use Rattle.kn_trace.specs.Events.{need_of, react}
use Rattle.kn_trace.specs.Trace.{Trace, created, starting_pods}
use Rattle.kn_book.specs.Book.{address_of, next_to_probe}
use Rattle.kn_core.specs.State.{RevisionState, StandsFor}
use Rattle.kn_cell.specs.declared.past.Past.{Past}
use Rattle.kn_cell.specs.declared.past.Full.{Full}
use Rattle.kn_cell.specs.Lists.{StartsWith, Each}
use Rattle.kn_cell.specs.History.{trace_after}
use Rattle.kn_cell.specs.Shown.{PassView, Looks, RecordsLast, Misfits, left_in}
use Rattle.kn_io.specs.Links.{Link, Tells}
use Rattle.kn_io.specs.declared.records.Probe.{Probe}
use Rattle.kn_core.specs.Gauges.{count_live}
use Rattle.kn_request.specs.Laws.{Made, RequestLaws}
use Rattle.kn_request.specs.Pods.{IsStarting, IsStartingAt, PodLaws}
use Rattle.kn_request.specs.Requests.{Recorded}
use Rattle.kn_request.specs.Ticking.{AreAscending, AreBelow, AreReady, HasNoneToProbe, IsAt, Probing, ProbesOne, ReadyOf, StartsAtBoth, TicksOnce, Visit, WasFull, WasStarting, is_visited, probe_of, probed_all, probes_of}
use Rattle.kn_request.proofs.Lists.{none, one, starts_trans, trace_after-append}
use Rattle.kn_request.proofs.Later.{along, book_is, lasting_is, looks_after, made_after, opening_is, recorded_later, recorded_of}

-- ---- what a link tells

pub tells_as : (w w' : Option Link) (f g : Link → Link) → ((l : Link) → f l ≡ g l) → Tells w w' f → Tells w w' g
tells_as w None f g e t = tt
tells_as None (Some b) f g e t = absurd t
tells_as (Some a) (Some b) f g e t = t ∙ e a

tells_then : (w w' w'' : Option Link) (f g : Link → Link) → Tells w w' f → Tells w' w'' g → Tells w w'' (λ l. g (f l))
tells_then w w' None f g t u = tt
tells_then w None (Some b) f g t u = absurd u
tells_then None (Some a) (Some b) f g t u = absurd t
tells_then (Some x) (Some a) (Some b) f g t u = u ∙ ap g t

tells_none : (w : Option Link) → Tells w w (probed_all [])
tells_none None = tt
tells_none (Some l) = ap (λ ps. record l { probes = ps }) (sym (append-nil l.probes))

tells_more : (w w' w'' : Option Link) (ps qs : List Probe) → Tells w w' (probed_all ps) → Tells w' w'' (probed_all qs) → Tells w w'' (probed_all (ps ++ qs))
tells_more w w' w'' ps qs t u =
    tells_as w w'' (λ l. probed_all qs (probed_all ps l)) (probed_all (ps ++ qs)) (λ l. ap (λ xs. record l { probes = xs }) (append_assoc l.probes ps qs)) (tells_then w w' w'' (probed_all ps) (probed_all qs) t u)

-- ---- what never changes

opening_after : (p q : PassView) → (q ≡ p) ⊎ Looks p q → q.opening ≡ p.opening
opening_after p q so = elim so [ inl e ↦ ap (λ (v : PassView). v.opening) e | inr l ↦ opening_is p q l ]

book_after : (p q : PassView) → (q ≡ p) ⊎ Looks p q → q.book ≡ p.book
book_after p q so = elim so [ inl e ↦ ap (λ (v : PassView). v.book) e | inr l ↦ book_is p q l ]

-- what is said of a later pass's opening and book is said of the earlier one's
before : (p q : PassView) → (q ≡ p) ⊎ Looks p q → (P : RevisionState → ℕ → Type 0) → P q.opening q.book → P p.opening p.book
before p q so P is = subst (λ n. P p.opening n) (book_after p q so) (subst (λ b. P b q.book) (opening_after p q so) is)

-- ---- rows

pub is_at : (p q : PassView) (a : Act) (time : ℕ) (told : Told) (l : Looks p q) (x : RecordsLast p a time told q) → IsAt time q x.row
is_at p q a time told l x =
    let act_is : x.row.event.act ≡ a = ap (λ (y : Past). y.event.act) x.row_is in
    subst (λ b. (y : Recorded (λ t. t ≡ time) q b) × (y.row ≡ x.row)) (sym act_is) (recorded_of (λ t. t ≡ time) p q a time told l x refl, refl)

need_one : PodLaws → (c : Trace) (a : Act) → (a ≡ act.Tick) ⊎ ((p : ℕ) × (a ≡ act.Ready p)) → need_of c a ≡ 1
need_one laws c a what = elim what [ inl e ↦ ap (need_of c) e ∙ laws.tick_need c | inr e ↦ ap (need_of c) e.1 ∙ laws.ready_need c e.0 ]

pub was_full : PodLaws → (p q : PassView) (a : Act) (full : Full) → (a ≡ act.Tick) ⊎ ((k : ℕ) × (a ≡ act.Ready k)) → Looks p q → Misfits p a full q → WasFull p q
was_full laws p q a full what l x = record {
  front = q.seen;
  early = ([], sym (append-nil q.seen));
  late = l.longer;
  gone = q.gone;
  since = l.gone;
  until = omega arith;
  most = l.most;
  plain = l.plain;
  none_left = λ c s.
      let m = x.short c s in
      let n = need_one laws (trace_after p.opening.spec c q.seen) a what in
      let same = ap (λ (v : PassView). left_in v q.seen (count_live (trace_after p.opening.spec c q.seen))) l.same in
      let here : left_in q q.seen (count_live (trace_after p.opening.spec c q.seen)) < 1 = omega (arith, m, n) in
      subst (λ k. k < 1) same here;
}

at_append : {A : Type 0} (xs ys : List A) (k : ℕ) (x : A) → get_elem? (xs ++ ys) k ≡ some x → ((i : ℕ) × (get_elem? xs i ≡ some x)) ⊎ ((i : ℕ) × (get_elem? ys i ≡ some x))
at_append [] ys k x at = inr (k, at)
at_append (z ∷ zs) ys zero x at = inl (zero, at)
at_append (z ∷ zs) ys (suc k) x at = elim (at_append zs ys k x at) [ inl i ↦ inl (suc i.0, i.1) | inr i ↦ inr i ]

pub each_both : {A : Type 0} (P : A → Type 0) (xs ys : List A) → Each P xs → Each P ys → Each P (xs ++ ys)
each_both P xs ys a b k x at = elim (at_append xs ys k x at) [ inl i ↦ a i.0 x i.1 | inr i ↦ b i.0 x i.1 ]

pub at_later : (now : ℕ) (p q : PassView) (xs : List Past) → Looks p q → Each (IsAt now p) xs → Each (IsAt now q) xs
at_later now p q xs l all k x at = let y = all k x at in (recorded_later (λ t. t ≡ now) p q x.event.act l y.0, y.1)

-- fullness, seen from earlier and from later
full_before : (p q s : PassView) → Looks p q → WasFull q s → WasFull p s
full_before p q s l w =
    let Q : PassView → Type 0 = λ v. (c : Trace) → StandsFor v.opening c → left_in (record v { gone = w.gone }) w.front (count_live (trace_after v.opening.spec c w.front)) < 1 in
    record {
      front = w.front;
      early = w.early;
      late = starts_trans p.seen q.seen w.front l.longer w.late;
      gone = w.gone;
      since = let a = l.gone in let b = w.since in omega (arith, a, b);
      until = w.until;
      most = w.most;
      plain = λ e. w.plain (lasting_is p q l ∙ e);
      none_left = subst Q l.same w.none_left;
    }

pub full_after : (p q s : PassView) → Looks q s → WasFull p q → WasFull p s
full_after p q s l w = record {
  front = w.front;
  early = starts_trans w.front q.seen s.seen w.early l.longer;
  late = w.late;
  gone = w.gone;
  since = w.since;
  until = let a = l.gone in let b = w.until in omega (arith, a, b);
  most = w.most;
  plain = w.plain;
  none_left = w.none_left;
}

-- the rows of one Ready
pub record ReadyRows (now pod : ℕ) (full : Bool) (p q : PassView) : Type 0 where
  pub rows : List Past
  pub mine : q.mine ≡ p.mine ++ rows
  pub at : Each (IsAt now q) rows
  pub ready : ReadyOf (Some true) pod full (λ xs. xs ≡ []) rows
  pub over : full ≡ true → WasFull p q

pub ready_rows : (now pod : ℕ) (full : Bool) (p q : PassView) → TicksOnce now (act.Ready pod) full p q → ReadyRows now pod full p q
ready_rows now pod false p q t = record {
  rows = t.0 ∷ [];
  mine = t.1;
  at = one (IsAt now q) t.0 t.3;
  ready = inl (t.0, [], refl, t.2, refl);
  over = λ e. cc;
}
ready_rows now pod true p q t = record {
  rows = [];
  mine = t.0 ∙ sym (append-nil p.mine);
  at = none (IsAt now q);
  ready = inr (refl, refl);
  over = λ e. t.1;
}

pub one_probe : (now from pod address : ℕ) (answer : Option Bool) (p a q : PassView) (wire wire' : Option Link) (full : Bool) (r : List Past) → Looks p a → a.mine ≡ p.mine → (a ≡ q) ⊎ Looks a q
    → ((c : Trace) → StandsFor a.opening c → Some (pod, address) ≡ next_to_probe a.book (trace_after a.opening.spec c a.seen) from) → from ≤ pod → Tells wire wire' (probed_all (record { pod = address; answer = answer } ∷ []))
    → q.mine ≡ a.mine ++ r → Each (IsAt now q) r → ReadyOf answer pod full (λ xs. xs ≡ []) r → (full ≡ true → WasFull a q) → ProbesOne now from pod full p q wire wire'
one_probe now from pod address answer p a q wire wire' full r l same then found low told mine at ready over = record {
  mid = a.seen;
  early = elim then [ inl e ↦ ([], ap (λ (v : PassView). v.seen) (sym e) ∙ sym (append-nil a.seen)) | inr m ↦ m.longer ];
  late = l.longer;
  address = address;
  found = before p a (inr l) (λ b n. (c : Trace) → StandsFor b c → next_to_probe n (trace_after b.spec c a.seen) from ≡ Some (pod, address)) (λ c s. sym (found c s));
  low = low;
  answer = answer;
  told = told;
  rows = r;
  mine = mine ∙ ap (λ x. x ++ r) same;
  at = at;
  ready = ready;
  over = λ e. full_before p a q l (over e);
}

-- ---- the visits so far

asc_snoc : (lo from : ℕ) (vs : List Visit) (v : Visit) → AreAscending lo vs → AreBelow from vs → lo ≤ from → from ≤ v.pod → AreAscending lo (vs ++ v ∷ [])
asc_snoc lo from [] v a b h k = (omega (arith, h, k), tt)
asc_snoc lo from (x ∷ xs) v a b h k = (a.0, asc_snoc (x.pod + 1) from xs v a.1 b.1 (omega (arith, b.0)) k)

below_snoc : (from : ℕ) (vs : List Visit) (v : Visit) → AreBelow from vs → from ≤ v.pod → AreBelow (v.pod + 1) (vs ++ v ∷ [])
below_snoc from [] v b k = (omega arith, tt)
below_snoc from (x ∷ xs) v b k = (omega (arith, b.0, k), below_snoc from xs v b.1 k)

ready_of : (o : Option Bool) (pod : ℕ) (f g : Bool) (P Q : List Past → Type 0) (rows : List Past) → (f ≡ true → g ≡ true) → ((xs : List Past) → P xs → Q xs) → ReadyOf o pod f P rows → ReadyOf o pod g Q rows
ready_of None pod f g P Q rows h k q = k rows q
ready_of (Some false) pod f g P Q rows h k q = k rows q
ready_of (Some true) pod f g P Q rows h k q = elim q [ inl x ↦ inl (x.0, x.1, x.2, x.3, k x.1 x.4) | inr x ↦ inr (h x.0, k rows x.1) ]

ready_front : (o : Option Bool) (pod : ℕ) (f : Bool) (P Q : List Past → Type 0) (rows more : List Past) → ((xs : List Past) → P xs → Q (xs ++ more)) → ReadyOf o pod f P rows → ReadyOf o pod f Q (rows ++ more)
ready_front None pod f P Q rows more k q = k rows q
ready_front (Some false) pod f P Q rows more k q = k rows q
ready_front (Some true) pod f P Q rows more k q = elim q [ inl x ↦ inl (x.0, x.1 ++ more, ap (λ l. l ++ more) x.2, x.3, k x.1 x.4) | inr x ↦ inr (x.0, k rows x.1) ]

pub ready_mono : (f g : Bool) (vs : List Visit) (rows : List Past) → (f ≡ true → g ≡ true) → AreReady f vs rows → AreReady g vs rows
ready_mono f g [] rows h r = r
ready_mono f g (v ∷ vs) rows h r = ready_of v.answer v.pod f g (AreReady f vs) (AreReady g vs) rows h (λ xs m. ready_mono f g vs xs h m) r

-- where one more was visited
ready_snoc : (full : Bool) (vs : List Visit) (v : Visit) (rows more : List Past) → AreReady full vs rows → ReadyOf v.answer v.pod full (λ xs. xs ≡ []) more → AreReady full (vs ++ v ∷ []) (rows ++ more)
ready_snoc full [] v rows more a b = subst (λ (xs : List Past). AreReady full (v ∷ []) (xs ++ more)) (sym a) b
ready_snoc full (x ∷ xs) v rows more a b = ready_front x.answer x.pod full (AreReady full xs) (AreReady full (xs ++ v ∷ [])) rows more (λ ys m. ready_snoc full xs v ys more m b) a

-- ---- pods that start

gone_on : RequestLaws → PodLaws → (s : Spec) (j : ℕ) (h h' : List Past) → StartsWith h' h → (c : Trace) → Made s c → j < created (trace_after s c h) → (IsStarting (trace_after s c h) j → ⊥) → IsStarting (trace_after s c h') j → ⊥
gone_on laws pods s j h h' more c made low not is =
    let e : trace_after s c h' ≡ trace_after s (trace_after s c h) more.0 = ap (trace_after s c) more.1 ∙ trace_after-append s c h more.0 in
    let P : Trace → Type 0 = λ t. (j < created t) × (IsStarting t j → ⊥) in
    (along laws s P (λ x. ⊤) (λ t x m u n. (pods.stay s t x.event j m n.0, pods.gone s t x.event j m n.0 n.1)) more.0 (λ k x at. tt) (trace_after s c h) (made_after laws s h c made) (low, not)).1 (subst (λ t. IsStarting t j) e is)

-- what starts was created, and stays so
created_on : RequestLaws → PodLaws → (s : Spec) (j : ℕ) (h h' : List Past) → StartsWith h' h → (c : Trace) → Made s c → IsStarting (trace_after s c h) j → j < created (trace_after s c h')
created_on laws pods s j h h' more c made is =
    let e : trace_after s c h' ≡ trace_after s (trace_after s c h) more.0 = ap (trace_after s c) more.1 ∙ trace_after-append s c h more.0 in
    let start : Made s (trace_after s c h) = made_after laws s h c made in
    let P : Trace → Type 0 = λ t. j < created t in
    subst P (sym e) (along laws s P (λ x. ⊤) (λ t x m u n. pods.stay s t x.event j m n) more.0 (λ k x at. tt) (trace_after s c h) start (pods.known s (trace_after s c h) j start is))

-- a pod that starts still has its address
still_at : RequestLaws → PodLaws → (s : Spec) (n j a : ℕ) (h h' : List Past) → StartsWith h' h → (c : Trace) → Made s c → IsStartingAt n (trace_after s c h) j a → IsStarting (trace_after s c h') j → IsStartingAt n (trace_after s c h') j a
still_at laws pods s n j a h h' more c made is after =
    let e : trace_after s c h' ≡ trace_after s (trace_after s c h) more.0 = ap (trace_after s c) more.1 ∙ trace_after-append s c h more.0 in
    let start : Made s (trace_after s c h) = made_after laws s h c made in
    let P : Trace → Type 0 = λ t. (j < created t) × (IsStarting t j → IsStartingAt n t j a) in
    (subst P (sym e) (along laws s P (λ x. ⊤) (λ t x m u k. (pods.stay s t x.event j m k.0, λ now. pods.keeps s n t x.event j a m (k.1 (started t x m k.0 now)) now)) more.0 (λ k x at. tt) (trace_after s c h) start (pods.known s (trace_after s c h) j start is.0, λ now. is))).1 after
  where
    started : (t : Trace) (x : Past) → Made s t → j < created t → IsStarting (t ++ react s t x.event) j → IsStarting t j
    started t x m low now = true_from_ne_false (contains j (starting_pods t)) (λ not. pods.gone s t x.event j m low (λ is. let k = is in absurd (cc)) now)

pub starts_after : (p q : PassView) → (q ≡ p) ⊎ Looks p q → StartsWith q.seen p.seen
starts_after p q so = elim so [ inl e ↦ ([], ap (λ (v : PassView). v.seen) e ∙ sym (append-nil p.seen)) | inr l ↦ l.longer ]

-- that a pod was starting, seen from earlier and from later
pub starting_before : (p q s : PassView) (pod address : ℕ) → (q ≡ p) ⊎ Looks p q → WasStarting q s pod address → WasStarting p s pod address
starting_before p q s pod address so w = record {
  front = w.front;
  early = w.early;
  late = starts_trans p.seen q.seen w.front (starts_after p q so) w.late;
  starts = before p q so (λ b n. (c : Trace) → StandsFor b c → IsStartingAt n (trace_after b.spec c w.front) pod address) w.starts;
}

starting_later : (p q s : PassView) (pod address : ℕ) → Looks q s → WasStarting p q pod address → WasStarting p s pod address
starting_later p q s pod address l w = record { front = w.front; early = starts_trans w.front q.seen s.seen w.early l.longer; late = w.late; starts = w.starts }

all_later : (p q s : PassView) (vs : List Visit) → Looks q s → Each (λ v. WasStarting p q v.pod v.address) vs → Each (λ v. WasStarting p s v.pod v.address) vs
all_later p q s vs l all k v at = starting_later p q s v.pod v.address l (all k v at)

-- the pod that was probed next
found_starting : RequestLaws → PodLaws → (now from pod : ℕ) (f : Bool) (p q s : PassView) (w w' : Option Link) → (q ≡ p) ⊎ Looks p q → (o : ProbesOne now from pod f q s w w') → WasStarting p s pod o.address
found_starting laws pods now from pod f p q s w w' so o = starting_before p q s pod o.address so (record {
  front = o.mid;
  early = o.early;
  late = o.late;
  starts = λ c st. pods.next q.opening.spec q.book (trace_after q.opening.spec c o.mid) from pod o.address (made_after laws q.opening.spec o.mid c (laws.made q.opening c st)) (o.found c st);
})

pub probing_none : (now : ℕ) (p : PassView) (w : Option Link) → Probing now 0 false p p w w
probing_none now p w = record {
  later = inl refl;
  visits = [];
  rows = [];
  mine = sym (append-nil p.mine);
  at = none (IsAt now p);
  told = tells_none w;
  ascend = tt;
  below = tt;
  only = none (λ (v : Visit). WasStarting p p v.pod v.address);
  ready = refl;
  over = λ e. cc;
  starting = λ c s j a low both not. omega (arith, low);
}

pub full_first : (p q s : PassView) → (q ≡ p) ⊎ Looks p q → WasFull q s → WasFull p s
full_first p q s so w = elim so [ inl e ↦ subst (λ (v : PassView). WasFull v s) e w | inr l ↦ full_before p q s l w ]

not_visited_front : (j a : ℕ) (vs : List Visit) (v : Visit) → (is_visited j a (vs ++ v ∷ []) → ⊥) → is_visited j a vs → ⊥
not_visited_front j a [] v not is = is
not_visited_front j a (x ∷ xs) v not is = elim is [ inl e ↦ not (inl e) | inr m ↦ not_visited_front j a xs v (λ n. not (inr n)) m ]

not_visited_last : (j a : ℕ) (vs : List Visit) (v : Visit) → (is_visited j a (vs ++ v ∷ []) → ⊥) → v.pod ≡ j → v.address ≡ a → ⊥
not_visited_last j a [] v not e d = not (inl (e, d))
not_visited_last j a (x ∷ xs) v not e d = not_visited_last j a xs v (λ n. not (inr n)) e d

pub either_true : (f g : Bool) → (f || g) ≡ true → (f ≡ true) ⊎ (g ≡ true)
either_true true g e = inl refl
either_true false g e = inr e

pub left_true : (f g : Bool) → f ≡ true → (f || g) ≡ true
left_true true g e = refl
left_true false g e = cc

pub right_true : (f g : Bool) → g ≡ true → (f || g) ≡ true
right_true true g e = refl
right_true false g e = e

ready_last : (f g : Bool) (o : Option Bool) (pod : ℕ) (rows : List Past) → ReadyOf o pod f (λ xs. xs ≡ []) rows → ReadyOf o pod (f || g) (λ xs. xs ≡ []) rows
ready_last f g o pod rows r = ready_of o pod f (f || g) (λ xs. xs ≡ []) (λ xs. xs ≡ []) rows (left_true f g) (λ xs m. m) r

probes_snoc : (vs : List Visit) (v : Visit) → probes_of vs ++ probe_of v ∷ [] ≡ probes_of (vs ++ v ∷ [])
probes_snoc vs v = sym (map-append probe_of vs (v ∷ []))

-- a pod that starts from the first look to the last was visited, where the next one found is at or above it
visited_by : RequestLaws → PodLaws → (s : Spec) (n from pod address j a : ℕ) (first mid last : List Past) → StartsWith mid first → StartsWith last mid → (c : Trace) → Made s c → next_to_probe n (trace_after s c mid) from ≡ Some (pod, address)
    → IsStartingAt n (trace_after s c first) j a → IsStarting (trace_after s c last) j → from ≤ j → j < pod + 1 → (pod ≡ j → address ≡ a → ⊥) → ⊥
visited_by laws pods s n from pod address j a first mid last early late c made found starts end low most not = elim (cases_lt j pod) [
  | inl below ↦ gone_on laws pods s j mid last late c made (created_on laws pods s j first mid early c made starts.0) (pods.least s n (trace_after s c mid) from pod address j (made_after laws s mid c made) found low below) end
  | inr above ↦
      let same : pod ≡ j = omega (arith, most, above) in
      gone_on laws pods s j mid last late c made (created_on laws pods s j first mid early c made starts.0) (λ now. not same (at same (pods.next s n (trace_after s c mid) from pod address (made_after laws s mid c made) found).1 (still_at laws pods s n j a first mid early c made starts now).1)) end
]
  where
    at : pod ≡ j → address_of n (trace_after s c mid) pod ≡ Some address → address_of n (trace_after s c mid) j ≡ Some a → address ≡ a
    at same here there = ap (λ (o : Option ℕ). unwrap_or o address) (sym here ∙ (ap (address_of n (trace_after s c mid)) same ∙ there))

pub probing_more : RequestLaws → PodLaws → (now from pod : ℕ) (full f : Bool) (p q s : PassView) (w w' w'' : Option Link) → Probing now from full p q w w' → Looks q s → ProbesOne now from pod f q s w' w'' → Probing now (pod + 1) (f || full) p s w w''
probing_more laws pods now from pod full f p q s w w' w'' m l o =
    let v : Visit = record { pod = pod; address = o.address; answer = o.answer } in
    record {
      later = inr (looks_after p q s m.later l);
      visits = m.visits ++ v ∷ [];
      rows = m.rows ++ o.rows;
      mine = o.mine ∙ (ap (λ x. x ++ o.rows) m.mine ∙ append_assoc p.mine m.rows o.rows);
      at = each_both (IsAt now s) m.rows o.rows (at_later now q s m.rows l m.at) o.at;
      told = subst (λ ps. Tells w w'' (probed_all ps)) (probes_snoc m.visits v) (tells_more w w' w'' (probes_of m.visits) (probe_of v ∷ []) m.told o.told);
      ascend = asc_snoc 0 from m.visits v m.ascend m.below (omega arith) o.low;
      below = below_snoc from m.visits v m.below o.low;
      only = each_both (λ (x : Visit). WasStarting p s x.pod x.address) m.visits (v ∷ []) (all_later p q s m.visits l m.only)
          (one (λ (x : Visit). WasStarting p s x.pod x.address) v (found_starting laws pods now from pod f p q s w' w'' m.later o));
      ready = ready_snoc (f || full) m.visits v m.rows o.rows (ready_mono full (f || full) m.visits m.rows (right_true f full) m.ready) (ready_last f full o.answer pod o.rows o.ready);
      over = λ e. elim (either_true f full e) [ inl x ↦ full_first p q s m.later (o.over x) | inr x ↦ full_after p q s l (m.over x) ];
      starting = λ c st j a low both not.
          let spec = p.opening.spec in
          let made = laws.made p.opening c st in
          let front = starts_after p q m.later in
          let found = before p q m.later (λ b n. (d : Trace) → StandsFor b d → next_to_probe n (trace_after b.spec d o.mid) from ≡ Some (pod, o.address)) o.found c st in
          let mid = starts_trans p.seen q.seen o.mid front o.late in
          elim (cases_lt j from) [
            | inl x ↦ gone_on laws pods spec j q.seen s.seen l.longer c made (created_on laws pods spec j p.seen q.seen front c made both.0.0) (λ still. m.starting c st j a x (both.0, still) (not_visited_front j a m.visits v not)) both.1
            | inr x ↦ visited_by laws pods spec p.book from pod o.address j a p.seen o.mid s.seen mid o.early c made found both.0 both.1 x low (not_visited_last j a m.visits v not)
          ];
    }

pub probing_look : RequestLaws → PodLaws → (now from : ℕ) (full : Bool) (p q s : PassView) (w w' w'' : Option Link) → Probing now from full p q w w' → Looks q s → s.mine ≡ q.mine → w'' ≡ w' → Probing now from full p s w w''
probing_look laws pods now from full p q s w w' w'' m l same wire = record {
  later = inr (looks_after p q s m.later l);
  visits = m.visits;
  rows = m.rows;
  mine = same ∙ m.mine;
  at = at_later now q s m.rows l m.at;
  told = subst (λ (v : Option Link). Tells w v (probed_all (probes_of m.visits))) (sym wire) m.told;
  ascend = m.ascend;
  below = m.below;
  only = all_later p q s m.visits l m.only;
  ready = m.ready;
  over = λ e. full_after p q s l (m.over e);
  starting = λ c st j a low both not.
      let spec = p.opening.spec in
      let made = laws.made p.opening c st in
      gone_on laws pods spec j q.seen s.seen l.longer c made (created_on laws pods spec j p.seen q.seen (starts_after p q m.later) c made both.0.0) (λ still. m.starting c st j a low (both.0, still) not) both.1;
}

-- none is to be probed any more
pub none_found : (from : ℕ) (p q : PassView) → Looks p q → ((c : Trace) → StandsFor q.opening c → None ≡ next_to_probe q.book (trace_after q.opening.spec c q.seen) from) → HasNoneToProbe p q from
none_found from p q l nothing = before p q (inr l) (λ b n. (c : Trace) → StandsFor b c → next_to_probe n (trace_after b.spec c q.seen) from ≡ None) (λ c s. sym (nothing c s))

pub none_before : (from : ℕ) (p q s : PassView) → (q ≡ p) ⊎ Looks p q → HasNoneToProbe q s from → HasNoneToProbe p s from
none_before from p q s so = before p q so (λ b n. (c : Trace) → StandsFor b c → next_to_probe n (trace_after b.spec c s.seen) from ≡ None)

-- a pod that starts at both ends of all the probes, when none is to be probed any more, was visited at its address
pub all_visited : RequestLaws → PodLaws → (to j a : ℕ) (p q s : PassView) (vs : List Visit) → (q ≡ p) ⊎ Looks p q → StartsWith s.seen q.seen → (c : Trace) → StandsFor p.opening c
    → ((d : Trace) → StandsFor q.opening d → j < to → StartsAtBoth q d j a q.seen s.seen → (is_visited j a vs → ⊥) → ⊥) → HasNoneToProbe q s to
    → StartsAtBoth p c j a p.seen s.seen → (is_visited j a vs → ⊥) → ⊥
all_visited laws pods to j a p q s vs so more c st visited end both not =
    let spec = p.opening.spec in
    let made = laws.made p.opening c st in
    let front = starts_after p q so in
    let visited' = before p q so (λ b n. (d : Trace) → StandsFor b d → j < to → IsStartingAt n (trace_after b.spec d q.seen) j a × IsStarting (trace_after b.spec d s.seen) j → (is_visited j a vs → ⊥) → ⊥) visited in
    let end' = none_before to p q s so end in
    elim (cases_lt j to) [
      | inl low ↦ gone_on laws pods spec j q.seen s.seen more c made (created_on laws pods spec j p.seen q.seen front c made both.0.0) (λ still. visited' c st low (still_at laws pods spec p.book j a p.seen q.seen front c made both.0 still, both.1) not) both.1
      | inr high ↦ pods.none spec p.book (trace_after spec c s.seen) to j a (made_after laws spec s.seen c made) (end' c st) high
          (still_at laws pods spec p.book j a p.seen s.seen (starts_trans p.seen q.seen s.seen front more) c made both.0 both.1)
    ]
