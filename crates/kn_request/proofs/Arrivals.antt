-- What an arrival was told, and where its request stands just after.
use Rattle.std.proofs.Common.{◌≡◌, ◌≢◌, ◌⊎◌, inl, inr, ℕ, Bool, true, ◌+◌, ◌^◌, ◌||◌, List, [], ◌∷◌, ◌++◌, refl, sym, ap, ◌∙◌, subst}
use Rattle.std.specs.Prelude.{Option, None, Some, min}
use Rattle.std.proofs.Math.Logic.{∥∥₁_elim, ∥∥₁_map}
use mathlib.Core.Bool.{Bool-set}
use Rattle.kn_event.specs.declared.event.Act.TheVariants as act
use Rattle.kn_event.specs.declared.event.Told.{Told}
use Rattle.kn_event.specs.declared.event.Told.TheVariants as told
use Rattle.kn_event.specs.declared.event.Stand.{Stand}
use Rattle.kn_event.specs.declared.event.Stand.TheVariants as stand
use Rattle.kn_event.specs.declared.revision.Spec.{Spec}
use Rattle.kn_trace.specs.Events.{react, told_of}
use Rattle.kn_trace.specs.Outcome.{Outcome, Refused, Overload, Expired, Cancelled, Finished, Lost, outcome_of}
use Rattle.kn_trace.specs.Trace.{Trace, arrivals, stand_of}
use Rattle.kn_sizes.specs.Course.{runs_by, waits_by}
use Rattle.kn_sizes.specs.Told.{IsTold, arrival_told, outcome_told, stand_told}
use Rattle.kn_core.specs.State.{RevisionState, StandsFor}
use Rattle.kn_cell.specs.declared.past.Past.{Past}
use Rattle.kn_cell.specs.History.{IsLegal, IsLegalFrom, trace_after}
use Rattle.kn_cell.specs.Shown.{PassView, Looks, RecordsLast}
use Rattle.kn_io.specs.Links.{Link}
use Rattle.kn_head.specs.declared.head.Head.{Head}
use Rattle.kn_request.specs.declared.meant.Meant.{Meant}
use Rattle.kn_request.specs.declared.meant.Meant.TheVariants as meant
use Rattle.kn_request.specs.Laws.{RequestLaws, is_left}
use Rattle.kn_request.specs.Sight.{IsKnown, IsLeft, sight}
use Rattle.kn_request.specs.Terms.{Terms}
use Rattle.kn_request.specs.Served.{HasArrived, IsCourse, IsRefusedBy, IsServed}
use Rattle.kn_request.proofs.LawFacts.{ended_by, outcome_by}
use Rattle.kn_request.proofs.Later.{added_last, made_after, recorded_of, stands_is}

legal_last : (s : Spec) (now : ℕ) (c : Trace) (h : List Past) (p : Past) → IsLegalFrom s now c (h ++ p ∷ []) → p.told ≡ told_of s (trace_after s c h) p.event
legal_last s now c [] p legal = legal.1
legal_last s now c (q ∷ qs) p legal = legal_last s q.event.time (c ++ react s c q.event) qs p legal.2

legal-last : (b : RevisionState) (h : List Past) (p : Past) → IsLegal b (h ++ p ∷ []) → (c : Trace) → StandsFor b c → p.told ≡ told_of b.spec (trace_after b.spec c h) p.event
unfolding IsLegal
legal-last b h p legal c s = legal_last b.spec b.clock c h p (legal c s)

-- the request stands as it was told, with that outcome, and is the one that it was told of
pub record IsAsTold (t : Trace) (r : ℕ) (x : Told) : Type 0 where
  pub number : arrival_told x ≡ Some r
  pub stands : stand_told x ≡ Some (stand_of t r)
  pub outcome : outcome_of t r ≡ outcome_told x

some_is : {A : Type 0} (a b : A) → Some a ≡ Some b → a ≡ b
some_is a b e = cc

as_told : (s : Spec) (c t : Trace) (x : Past) (told : Told) → told_of s c x.event ≡ told → t ≡ c ++ react s c x.event → IsTold s c x.event → (r : ℕ) → arrival_told told ≡ Some r → IsAsTold t r told
as_told s c t x told is last i r named =
    let n : arrivals c ≡ r = some_is (arrivals c) r (sym i.number ∙ (ap arrival_told is ∙ named)) in
    let d = c ++ react s c x.event in
    record {
      number = named;
      stands = ap stand_told (sym is) ∙ (i.stands ∙ ap Some (ap (stand_of d) n ∙ ap (λ u. stand_of u r) (sym last)));
      outcome = ap (λ u. outcome_of u r) last ∙ (ap (outcome_of d) (sym n) ∙ (i.outcome ∙ ap outcome_told is));
    }

-- the request of the arrival, told to be r
pub told_at : RequestLaws → (tag time r : ℕ) (told : Told) (p q : PassView) (l : Looks p q) (x : RecordsLast p (act.Arrive tag) time told q) → arrival_told told ≡ Some r → (c : Trace) → StandsFor q.opening c
    → ∥ IsAsTold (sight q c) r told ∥₁
told_at laws tag time r told p q l x named c s =
    let spec = p.opening.spec in
    let f = trace_after spec c x.front in
    let s' = stands_is p q l c s in
    let made = made_after laws spec x.front c (laws.made p.opening c s') in
    let act_is : x.row.event.act ≡ act.Arrive tag = ap (λ (y : Past). y.event.act) x.row_is in
    let told_is : x.row.told ≡ told = ap (λ (y : Past). y.told) x.row_is in
    let legal : IsLegal p.opening (x.front ++ x.row ∷ []) = subst (IsLegal p.opening) x.seen l.legal in
    let same : told_of spec f x.row.event ≡ told = sym (legal-last p.opening x.front x.row legal c s') ∙ told_is in
    ∥∥₁_map (laws.told spec f x.row.event tag made act_is) (λ (i : IsTold spec f x.row.event). as_told spec f (sight q c) x.row told same (added_last p q (act.Arrive tag) time told l x c) i r named)

-- an arrival is told a request
pub told_some : RequestLaws → (tag time : ℕ) (told : Told) (p q : PassView) (l : Looks p q) (x : RecordsLast p (act.Arrive tag) time told q) → arrival_told told ≡ None → ⊥
told_some laws tag time told p q l x un = ∥∥₁_elim l.some (λ u v. absurd u) (λ m.
    let c = m.0 in
    let spec = p.opening.spec in
    let f = trace_after spec c x.front in
    let made = made_after laws spec x.front c (laws.made p.opening c m.1) in
    let act_is : x.row.event.act ≡ act.Arrive tag = ap (λ (y : Past). y.event.act) x.row_is in
    let told_is : x.row.told ≡ told = ap (λ (y : Past). y.told) x.row_is in
    let legal : IsLegal p.opening (x.front ++ x.row ∷ []) = subst (IsLegal p.opening) x.seen l.legal in
    let same : told_of spec f x.row.event ≡ told = sym (legal-last p.opening x.front x.row legal c m.1) ∙ told_is in
    ∥∥₁_elim (laws.told spec f x.row.event tag made act_is) (λ u v. absurd u) (λ (i : IsTold spec f x.row.event).
    let e : Some (arrivals f) ≡ None = sym i.number ∙ (ap arrival_told same ∙ un) in absurd (cc)))

-- what an arrival is never told
pub told_none : (x : Told) → ((r k : ℕ) → x ≡ told.Run r k → ⊥) → ((r k : ℕ) → x ≡ told.AtPod r k → ⊥) → ((r : ℕ) → x ≡ told.Held r → ⊥) → ((r : ℕ) → x ≡ told.QueueFull r → ⊥) → ((r : ℕ) → x ≡ told.Overload r → ⊥) → arrival_told x ≡ None
told_none (told.Run r k) a b d e f = absurd (a r k refl)
told_none (told.AtPod r k) a b d e f = absurd (b r k refl)
told_none (told.Held r) a b d e f = absurd (d r refl)
told_none (told.QueueFull r) a b d e f = absurd (e r refl)
told_none (told.Overload r) a b d e f = absurd (f r refl)
told_none (told.Done r) a b d e f = refl
told_none (told.NotRunning r) a b d e f = refl
told_none (told.NotWaiting r) a b d e f = refl
told_none (told.NotStarting r) a b d e f = refl
told_none (told.NoPod r) a b d e f = refl
told_none told.Passed a b d e f = refl
told_none (told.Decided x) a b d e f = refl
told_none told.NoData a b d e f = refl

-- a test of the stand that it was told
stand_test : (test : Stand → Bool) (t : Trace) (r : ℕ) (x : Told) (s : Stand) → stand_told x ≡ Some s → test s ≡ true → IsAsTold t r x → test (stand_of t r) ≡ true
stand_test test t r x s is has i = ap test (some_is (stand_of t r) s (sym i.stands ∙ is)) ∙ has

live_left : (s : Stand) (o : Option Outcome) → (waits_by s || runs_by s) ≡ true → is_left s o ≡ true
live_left stand.Held o e = refl
live_left (stand.Queued p) o e = refl
live_left (stand.Running p) o e = refl
live_left stand.Unknown o e = absurd (cc)
live_left stand.Ended o e = absurd (cc)

live_known : (s : Stand) → (waits_by s || runs_by s) ≡ true → s ≢ stand.Unknown
live_known s e un = let f = ap (λ x. waits_by x || runs_by x) un in absurd (cc)

pub is_live_told : RequestLaws → (tag time r : ℕ) (told : Told) (s : Stand) (p q : PassView) (l : Looks p q) (x : RecordsLast p (act.Arrive tag) time told q) → arrival_told told ≡ Some r → stand_told told ≡ Some s
    → (waits_by s || runs_by s) ≡ true → (c : Trace) → StandsFor q.opening c → (waits_by (stand_of (sight q c) r) || runs_by (stand_of (sight q c) r)) ≡ true
is_live_told laws tag time r told s p q l x named is live c st =
    ∥∥₁_elim (told_at laws tag time r told p q l x named c st) (Bool-set (waits_by (stand_of (sight q c) r) || runs_by (stand_of (sight q c) r)) true)
    (λ (i : IsAsTold (sight q c) r told). stand_test (λ y. waits_by y || runs_by y) (sight q c) r told s is live i)

pub told_left : RequestLaws → (tag time r : ℕ) (told : Told) (s : Stand) (p q : PassView) (l : Looks p q) (x : RecordsLast p (act.Arrive tag) time told q) → arrival_told told ≡ Some r → stand_told told ≡ Some s
    → (waits_by s || runs_by s) ≡ true → IsLeft q r
told_left laws tag time r told s p q l x named is live c st = live_left (stand_of (sight q c) r) (outcome_of (sight q c) r) (is_live_told laws tag time r told s p q l x named is live c st)

pub told_known : RequestLaws → (tag time r : ℕ) (told : Told) (s : Stand) (p q : PassView) (l : Looks p q) (x : RecordsLast p (act.Arrive tag) time told q) → arrival_told told ≡ Some r → stand_told told ≡ Some s
    → (waits_by s || runs_by s) ≡ true → IsKnown q r
told_known laws tag time r told s p q l x named is live c st = live_known (stand_of (sight q c) r) (is_live_told laws tag time r told s p q l x named is live c st)

-- the whole of it
refused_served : RequestLaws → (terms : Terms) (timeout tag time r : ℕ) (head : Head) (x : Told) (o : Outcome) (m : Meant) (p q : PassView) (wire : Option Link) (l : Looks p q) (y : RecordsLast p (act.Arrive tag) time x q) (now : terms.reading time)
    → arrival_told x ≡ Some r → stand_told x ≡ Some stand.Ended → outcome_told x ≡ Some o → IsRefusedBy o m → HasArrived terms timeout tag head p q wire wire m
refused_served laws terms timeout tag time r head x o m p q wire l y now named stands outcome is = record {
  mid = q;
  before = l;
  since = inl refl;
  arrive = recorded_of terms.reading p q (act.Arrive tag) time x l y now;
  mine = y.mine;
  number = r;
  named = ap (λ (z : Past). arrival_told z.told) y.row_is ∙ named;
  way = inl record {
    outcome = o;
    is = is;
    same = refl;
    unused = refl;
    ended = λ c s. ended_by (stand_of (sight q c) r) (told_at laws tag time r x p q l y named c s) (λ (i : IsAsTold (sight q c) r x). some_is (stand_of (sight q c) r) stand.Ended (sym i.stands ∙ stands));
    by = λ c s. outcome_by (outcome_of (sight q c) r) (Some o) (told_at laws tag time r x p q l y named c s) (λ (i : IsAsTold (sight q c) r x). i.outcome ∙ outcome);
  };
}

-- the outcome is one by which arrivals are refused
pub away_served : RequestLaws → (terms : Terms) (timeout tag time r : ℕ) (head : Head) (x : Told) (o : Outcome) (m : Meant) (p q : PassView) (wire : Option Link) (l : Looks p q) (y : RecordsLast p (act.Arrive tag) time x q) (now : terms.reading time)
    → arrival_told x ≡ Some r → stand_told x ≡ Some stand.Ended → outcome_told x ≡ Some o → IsRefusedBy o m → IsServed terms timeout tag head p q wire wire m
away_served laws terms timeout tag time r head x Refused m p q wire l y now named stands outcome is =
    subst (λ (v : Meant). IsServed terms timeout tag head p q wire wire v) (sym is) (refused_served laws terms timeout tag time r head x Refused meant.QueueFull p q wire l y now named stands outcome refl)
away_served laws terms timeout tag time r head x Overload m p q wire l y now named stands outcome is =
    subst (λ (v : Meant). IsServed terms timeout tag head p q wire wire v) (sym is) (refused_served laws terms timeout tag time r head x Overload meant.Overload p q wire l y now named stands outcome refl)
away_served laws terms timeout tag time r head x Expired m p q wire l y now named stands outcome is = absurd is
away_served laws terms timeout tag time r head x Cancelled m p q wire l y now named stands outcome is = absurd is
away_served laws terms timeout tag time r head x (Finished ok) m p q wire l y now named stands outcome is = absurd is
away_served laws terms timeout tag time r head x Lost m p q wire l y now named stands outcome is = absurd is

taken_served : (terms : Terms) (timeout tag time due r : ℕ) (x : Told) (head : Head) (p q s : PassView) (wire wire' : Option Link) (m : Meant) (l : Looks p q) (y : RecordsLast p (act.Arrive tag) time x q) (now : terms.reading time)
    → (s ≡ q) ⊎ Looks q s → arrival_told x ≡ Some r → due ≡ min time (2 ^ 42) + timeout → IsLeft q r → IsCourse terms due head r q s wire wire' m → HasArrived terms timeout tag head p s wire wire' m
taken_served terms timeout tag time due r x head p q s wire wire' m l y now since named is left course = record {
  mid = q;
  before = l;
  since = since;
  arrive = recorded_of terms.reading p q (act.Arrive tag) time x l y now;
  mine = y.mine;
  number = r;
  named = ap (λ (z : Past). arrival_told z.told) y.row_is ∙ named;
  way = inr record { taken = left; course = subst (λ d. IsCourse terms d head r q s wire wire' m) is course };
}

-- a request that was taken in is never answered as Full
pub served_of : (terms : Terms) (timeout tag time due r : ℕ) (x : Told) (head : Head) (p q s : PassView) (wire wire' : Option Link) (m : Meant) (l : Looks p q) (y : RecordsLast p (act.Arrive tag) time x q) (now : terms.reading time)
    → (s ≡ q) ⊎ Looks q s → arrival_told x ≡ Some r → due ≡ min time (2 ^ 42) + timeout → IsLeft q r → IsCourse terms due head r q s wire wire' m → IsServed terms timeout tag head p s wire wire' m
served_of terms timeout tag time due r x head p q s wire wire' (meant.Full f) l y now since named is left course = absurd course
served_of terms timeout tag time due r x head p q s wire wire' (meant.Reply t) l y now since named is left course = taken_served terms timeout tag time due r x head p q s wire wire' (meant.Reply t) l y now since named is left course
served_of terms timeout tag time due r x head p q s wire wire' meant.QueueFull l y now since named is left course = absurd course
served_of terms timeout tag time due r x head p q s wire wire' meant.Overload l y now since named is left course = absurd course
served_of terms timeout tag time due r x head p q s wire wire' meant.Expired l y now since named is left course = taken_served terms timeout tag time due r x head p q s wire wire' meant.Expired l y now since named is left course
served_of terms timeout tag time due r x head p q s wire wire' meant.LinkFault l y now since named is left course = taken_served terms timeout tag time due r x head p q s wire wire' meant.LinkFault l y now since named is left course
served_of terms timeout tag time due r x head p q s wire wire' meant.Memory l y now since named is left course = taken_served terms timeout tag time due r x head p q s wire wire' meant.Memory l y now since named is left course
