-- There is one schedule: what was made of it is a front of it.
use Rattle.std.proofs.Common.{◌≡◌, ℕ, Bool, true, false, List, [], ◌∷◌, ◌++◌, nat_lt, refl, sym, ap, ◌∙◌, subst, arith, append-nil, append_assoc}
use Rattle.std.proofs.lemmas.Bool.Decides.{nat_tests}
use Rattle.kn_event.specs.declared.event.Event.{Event}
use Rattle.kn_trace.specs.Trace.{Trace}
use Rattle.kn_agenda.specs.declared.item.Item.{Item}
use Rattle.kn_agenda.specs.declared.item.Kind.{Kind}
use Rattle.kn_agenda.specs.Workload.{Workload}
use Rattle.kn_agenda.specs.Due.{AreNext, IsFront, IsNext, LeavesNothingDue, IsSchedule, event_of, is_before, rank}
use Rattle.kn_agenda.proofs.Least.{later_from, rank_one}

-- at one time the further test decides
further : (t u : ℕ) (b : Bool) → t ≡ u → is_before t u b ≡ false → b ≡ false
further t u true same h = grind (arith, nat_tests)
further t u false same h = refl

not_less : (n m : ℕ) → nat_lt n m ≡ false → nat_lt m n ≡ false → n ≡ m
not_less n m a b = grind (arith, nat_tests)

item_one : (x y : Item) → x.time ≡ y.time → x.kind ≡ y.kind → x.number ≡ y.number → x ≡ y
item_one x y t k n =
    ap (λ (a : ℕ). record x { time = a }) t ∙ ap (λ (a : Kind). record { time = y.time; kind = a; number = x.number }) k ∙ ap (λ (a : ℕ). record { time = y.time; kind = y.kind; number = a }) n

-- one item comes next
pub one_next : (w : Workload) (c : Trace) (ticks : ℕ) (x y : Item) → IsNext w c ticks x → IsNext w c ticks y → x ≡ y
one_next w c ticks x y nx ny =
    let a = nx.first y ny.due in
    let b = ny.first x nx.due in
    let ax = is_before (rank y.kind) (rank x.kind) (nat_lt y.number x.number) in
    let bx = is_before (rank x.kind) (rank y.kind) (nat_lt x.number y.number) in
    let t1 = later_from y.time x.time ax a in
    let t2 = later_from x.time y.time bx b in
    let time : x.time ≡ y.time = omega arith in
    let a' : is_before (rank y.kind) (rank x.kind) (nat_lt y.number x.number) ≡ false = further y.time x.time ax (sym time) a in
    let b' : is_before (rank x.kind) (rank y.kind) (nat_lt x.number y.number) ≡ false = further x.time y.time bx time b in
    let k1 = later_from (rank y.kind) (rank x.kind) (nat_lt y.number x.number) a' in
    let k2 = later_from (rank x.kind) (rank y.kind) (nat_lt x.number y.number) b' in
    let ranks : rank x.kind ≡ rank y.kind = omega arith in
    let n1 = further (rank y.kind) (rank x.kind) (nat_lt y.number x.number) (sym ranks) a' in
    let n2 = further (rank x.kind) (rank y.kind) (nat_lt x.number y.number) ranks b' in
    item_one x y time (rank_one x.kind y.kind ranks) (not_less x.number y.number n2 n1)

pub goes_on : (w : Workload) (before es fs : List Event) → AreNext w (before ++ es) → IsSchedule w (before ++ fs) → IsFront es fs
goes_on w before [] fs steps all = (fs, refl)
goes_on w before (e ∷ es) [] steps all =
    let next = steps before e es refl in
    let late = subst (LeavesNothingDue w) (append-nil before) all.over next.0 next.1.due in
    let soon = next.2 in
    absurd (omega arith)
goes_on w before (e ∷ es) (f ∷ fs) steps all =
    let a = steps before e es refl in
    let b = all.steps before f fs refl in
    let same : f ≡ e = b.3 ∙ ap (λ (x : Item). event_of w x) (one_next w _ _ b.0 a.0 b.1 a.1) ∙ sym a.3 in
    let rest = goes_on w (before ++ e ∷ []) es fs
    (subst (AreNext w) (sym (append_assoc before (e ∷ []) es)) steps)
    (subst (IsSchedule w) (sym (append_assoc before (e ∷ []) fs)) (subst (λ (g : Event). IsSchedule w (before ++ g ∷ fs)) same all)) in
    (rest.0, ap (λ (g : Event). g ∷ fs) same ∙ ap (λ (gs : List Event). e ∷ gs) rest.1)

-- of two schedules each is a front of the other
pub one_schedule : (w : Workload) (es fs : List Event) → IsSchedule w es → IsSchedule w fs → es ≡ fs
one_schedule w es fs a b = both [] es fs a b
  where
    both : (before es fs : List Event) → IsSchedule w (before ++ es) → IsSchedule w (before ++ fs) → es ≡ fs
    both before es [] a b = no_rest (goes_on w before es [] a.steps b)
      where
        no_rest : IsFront es [] → es ≡ []
        no_rest (rest, is) = by es rest is
          where
            by : (xs ys : List Event) → [] ≡ xs ++ ys → xs ≡ []
            by [] ys h = refl
            by (x ∷ xs) ys h = absurd (cc)
    both before [] (f ∷ fs) a b = absurd (more (goes_on w before (f ∷ fs) [] b.steps a))
      where
        more : IsFront (f ∷ fs) [] → ⊥
        more (rest, is) = cc
    both before (e ∷ es) (f ∷ fs) a b =
        let front = goes_on w before (e ∷ es) (f ∷ fs) a.steps b in
        let same : f ≡ e = (let h = front.1 in cc) in
        let rest = both (before ++ e ∷ []) es fs
        (subst (IsSchedule w) (sym (append_assoc before (e ∷ []) es)) a)
        (subst (IsSchedule w) (sym (append_assoc before (e ∷ []) fs)) (subst (λ (g : Event). IsSchedule w (before ++ g ∷ fs)) same b)) in
        ap (λ (g : Event). g ∷ es) (sym same) ∙ ap (λ (gs : List Event). f ∷ gs) rest
