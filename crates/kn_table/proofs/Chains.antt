-- What chains of slots keep to, as slots come into them, and where a pod's requests stand in its chain.
use Rattle.std.proofs.Common.{◌≡◌, ◌≢◌, ◌∙◌, ◌+◌, ◌-◌, ◌%◌, ◌<◌, ◌≤◌, ℕ, Bool, true, false, List, [], ◌∷◌, ◌++◌, length, get_or, set, take, get_or-set_same, get_or-set_other, refl, sym, ap, subst, inl, inr, length-take, take_all, arith}
use Rattle.std.specs.Prelude.{◌&&◌, not}
use Rattle.std.proofs.lemmas.Bool.{cases_eq, cases_lt, eqb-true}
use Rattle.std.proofs.lemmas.List.{get_or-take, get_or_default, get_or-append-add, length-set, length_push}
use Rattle.std.proofs.Math.Seq.{take-append_seam}
use Rattle.std.proofs.lemmas.List.Sums.{passes_at_first, prefix_len-le-length}
use Rattle.kn_record.specs.declared.admission.Place.{Place}
use Rattle.kn_record.specs.declared.admission.Place.TheVariants as place
use Rattle.kn_record.specs.Admission.{begun, is_at}
use Rattle.kn_table.specs.declared.slot.Slot.{Slot}
use Rattle.kn_table.specs.Slots.{first_placed, is_placed}
use Rattle.kn_table.specs.Links.{AreLinked, AreSame, Chains, Comes, IsChain, IsIn, Puts, is_chained, is_in}

false-true : false ≡ true → ⊥
false-true same = grind (arith, same)

-- a slot of nobody, where one must be named
nobody : Slot
nobody = record { request = record { number = 0; time = 0; place = place.Held }; has_ended = true }

one_chain : (b c : ℕ) (x : Place) → is_chained b x ≡ true → is_chained c x ≡ true → b ≡ c
one_chain b c place.Held h k = grind (arith, h)
one_chain b c (place.Queued p) h k = sym (eqb-true (p % 1024) b h) ∙ eqb-true (p % 1024) c k
one_chain b c (place.Running p x) h k = sym (eqb-true (p % 1024) b h) ∙ eqb-true (p % 1024) c k

-- a slot is in one chain at most
one_in : (b c j : ℕ) (xs : List Slot) → IsIn b xs j → IsIn c xs j → b ≡ c
one_in b c j xs h k = one_chain b c (get_or xs j nobody).request.place (h.placed nobody) (k.placed nobody)

-- ---- one more slot

pub linked_same : (l : Chains) (xs ys : List Slot) → AreSame xs ys → AreLinked l xs → AreLinked l ys
linked_same l xs ys same linked = record {
  chain = λ whole b low.
      let k = linked.chain whole b low in
      record {
        first = λ j h. k.first j (same.only b j h);
        last = λ m is. same.kept b m (k.last m is);
        end = λ j h. k.end j (same.only b j h);
        next = λ i j hi hj less. k.next i j (same.only b i hi) (same.only b j hj) less;
      };
}

-- in another chain nothing comes
back : (xs ys : List Slot) (b at c : ℕ) → Puts b at xs ys → c ≢ b → (j : ℕ) → IsIn c ys j → IsIn c xs j
back xs ys b at c puts other j h = elim (puts.only c j h) [
  | inl old ↦ old
  | inr new ↦ absurd (other new.0)
]

module _ (l : Chains) (xs ys : List Slot) (b at : ℕ) (low : b < 1024) (long : b < length l.ends) (linked : AreLinked l xs) (puts : Puts b at xs ys) where
  -- the first one of a chain
  pub put_first : b < length l.firsts → get_or l.ends b 0 ≡ 0 → AreLinked (record { firsts = set l.firsts b at; ends = set l.ends b (at + 1); nexts = l.nexts; whole = l.whole }) ys
  put_first room empty = record {
    chain = λ whole c c_low. elim (cases_eq c b) [
      | inl same ↦ subst (λ k. IsChain links ys k) (sym same) (mine whole)
      | inr other ↦ others whole c c_low other
    ];
  }
    where
      links : Chains
      links = record { firsts = set l.firsts b at; ends = set l.ends b (at + 1); nexts = l.nexts; whole = l.whole }

      only : l.whole ≡ true → (j : ℕ) → IsIn b ys j → j ≡ at
      only whole j h = elim (puts.only b j h) [
        | inl old ↦ absurd (omega (arith, (linked.chain whole b low).end j old, empty))
        | inr new ↦ new.1
      ]

      mine : l.whole ≡ true → IsChain links ys b
      mine whole =
          let end = get_or-set_same l.ends b (at + 1) 0 long in
          record {
            first = λ j h. omega (arith, get_or-set_same l.firsts b at 0 room, only whole j h);
            last = λ m is. subst (λ k. IsIn b ys k) (omega (arith, end, is)) puts.there;
            end = λ j h. omega (arith, end, only whole j h);
            next = λ i j hi hj less. absurd (omega (arith, only whole i hi, only whole j hj, less));
          }

      others : l.whole ≡ true → (c : ℕ) → c < 1024 → c ≢ b → IsChain links ys c
      others whole c c_low other =
          let k = linked.chain whole c c_low in
          let in_old = back xs ys b at c puts other in
          let end = get_or-set_other l.ends b c (at + 1) 0 other in
          record {
            first = λ j h. omega (arith, get_or-set_other l.firsts b c at 0 other, k.first j (in_old j h));
            last = λ m is. puts.kept c m (k.last m (sym end ∙ is));
            end = λ j h. omega (arith, end, k.end j (in_old j h));
            next = λ i j hi hj less. k.next i j (in_old i hi) (in_old j hj) less;
          }

  -- one behind the last
  pub put_behind : (e : ℕ) → e < length l.nexts → get_or l.ends b 0 ≡ e + 1 → e + 1 ≤ at → AreLinked (record { firsts = l.firsts; ends = set l.ends b (at + 1); nexts = set l.nexts e at; whole = l.whole }) ys
  put_behind e room ends behind = record {
    chain = λ whole c c_low. elim (cases_eq c b) [
      | inl same ↦ subst (λ k. IsChain links ys k) (sym same) (mine whole)
      | inr other ↦ others whole c c_low other
    ];
  }
    where
      links : Chains
      links = record { firsts = l.firsts; ends = set l.ends b (at + 1); nexts = set l.nexts e at; whole = l.whole }

      was : l.whole ≡ true → IsChain l xs b
      was whole = linked.chain whole b low

      lies : l.whole ≡ true → IsIn b xs e
      lies whole = (was whole).last e ends

      next : l.whole ≡ true → (i j : ℕ) → IsIn b ys i → IsIn b ys j → i < j → get_or (set l.nexts e at) i 0 ≤ j
      next whole i j hi hj less = elim (puts.only b i hi) [
        | inr new ↦ elim (puts.only b j hj) [
          | inl old ↦ absurd (omega (arith, new.1, less, (was whole).end j old, ends, behind))
          | inr also ↦ absurd (omega (arith, new.1, also.1, less))
        ]
        | inl old ↦ elim (cases_eq i e) [
          | inl here ↦
              let now : get_or (set l.nexts e at) i 0 ≡ at = ap (λ k. get_or (set l.nexts e at) k 0) here ∙ get_or-set_same l.nexts e at 0 room in
              elim (puts.only b j hj) [
                | inl older ↦ absurd (omega (arith, here, less, (was whole).end j older, ends))
                | inr new ↦ omega (arith, now, new.1)
              ]
          | inr apart ↦
              let now = get_or-set_other l.nexts e i at 0 apart in
              let low_i : i < e = omega (arith, apart, (was whole).end i old, ends) in
              elim (puts.only b j hj) [
                | inl older ↦ omega (arith, now, (was whole).next i j old older less)
                | inr new ↦ omega (arith, now, (was whole).next i e old (lies whole) low_i, new.1, behind)
              ]
        ]
      ]

      mine : l.whole ≡ true → IsChain links ys b
      mine whole =
          let end = get_or-set_same l.ends b (at + 1) 0 long in
          record {
            first = λ j h. elim (puts.only b j h) [
              | inl old ↦ (was whole).first j old
              | inr new ↦ omega (arith, (was whole).first e (lies whole), new.1, behind)
            ];
            last = λ m is. subst (λ k. IsIn b ys k) (omega (arith, end, is)) puts.there;
            end = λ j h. elim (puts.only b j h) [
              | inl old ↦ omega (arith, end, (was whole).end j old, ends, behind)
              | inr new ↦ omega (arith, end, new.1)
            ];
            next = next whole;
          }

      others : l.whole ≡ true → (c : ℕ) → c < 1024 → c ≢ b → IsChain links ys c
      others whole c c_low other =
          let k = linked.chain whole c c_low in
          let in_old = back xs ys b at c puts other in
          let end = get_or-set_other l.ends b c (at + 1) 0 other in
          record {
            first = λ j h. k.first j (in_old j h);
            last = λ m is. puts.kept c m (k.last m (sym end ∙ is));
            end = λ j h. omega (arith, end, k.end j (in_old j h));
            next = λ i j hi hj less.
                let apart : i ≢ e = λ here. other (one_in c b e xs (subst (λ n. IsIn c xs n) here (in_old i hi)) (lies whole)) in
                omega (arith, get_or-set_other l.nexts e i at 0 apart, k.next i j (in_old i hi) (in_old j hj) less);
          }

pub comes_puts : (b at : ℕ) (x : Place) (xs ys : List Slot) → is_chained b x ≡ true → Comes x at xs ys → Puts b at xs ys
comes_puts b at x xs ys is comes = record {
  there = comes.there b is;
  kept = comes.kept;
  only = λ c j h. elim (comes.only c j h) [
    | inl old ↦ inl old
    | inr new ↦ inr (one_chain c b x new.0 is, new.1)
  ];
}

pub comes_none : (at : ℕ) (xs ys : List Slot) → Comes place.Held at xs ys → AreSame xs ys
comes_none at xs ys comes = record {
  kept = comes.kept;
  only = λ c j h. elim (comes.only c j h) [
    | inl old ↦ old
    | inr new ↦ grind (arith, new.0)
  ];
}

-- ---- where a pod's requests stand

at_chained : (p : ℕ) (x : Place) → is_at p x ≡ true → is_chained (p % 1024) x ≡ true
at_chained p place.Held h = h
at_chained p (place.Queued q) h = grind (arith, eqb-true q p h)
at_chained p (place.Running q x) h = grind (arith, eqb-true q p h)

and-right : (u v : Bool) → (u && v) ≡ true → v ≡ true
and-right true v h = h
and-right false v h = grind (arith, h)

-- the first at a pod is in its chain
pub first_in : (p : ℕ) (xs : List Slot) → first_placed (is_at p) xs < length xs → IsIn (p % 1024) xs (first_placed (is_at p) xs)
first_in p xs inside = record {
  inside = inside;
  placed = λ d. at_chained p (get_or xs (first_placed (is_at p) xs) d).request.place (and-right (not (get_or xs (first_placed (is_at p) xs) d).has_ended) _ (passes_at_first (is_placed (is_at p)) xs d inside));
}

pub first_within : (p : ℕ) (xs : List Slot) → first_placed (is_at p) xs ≤ length xs
first_within p xs = prefix_len-le-length (λ (s : Slot). not (is_placed (is_at p) s)) xs

-- a bound for all that are in its chain is one for it, where it is no greater than their number
pub first_low : (p n : ℕ) (xs : List Slot) → n ≤ length xs → ((j : ℕ) → IsIn (p % 1024) xs j → n ≤ j) → n ≤ first_placed (is_at p) xs
first_low p n xs few each = elim (cases_lt (first_placed (is_at p) xs) (length xs)) [
  | inl inside ↦ each (first_placed (is_at p) xs) (first_in p xs inside)
  | inr out ↦ omega (arith, few, out)
]

-- the same of those behind a place that it doesn't stand at
pub first_after : (p n place : ℕ) (xs : List Slot) → n ≤ length xs → ((j : ℕ) → IsIn (p % 1024) xs j → place < j → n ≤ j) → place < first_placed (is_at p) xs → n ≤ first_placed (is_at p) xs
first_after p n place xs few each behind = elim (cases_lt (first_placed (is_at p) xs) (length xs)) [
  | inl inside ↦ each (first_placed (is_at p) xs) (first_in p xs inside) behind
  | inr out ↦ omega (arith, few, out)
]

module _ (l : Chains) (p : ℕ) (xs : List Slot) (linked : AreLinked l xs) (whole : l.whole ≡ true) where
  pub first_none : get_or l.ends (p % 1024) 0 ≡ 0 → length xs ≤ first_placed (is_at p) xs
  first_none empty = first_low p (length xs) xs (omega arith) (λ j h. absurd (omega (arith, (linked.chain whole (p % 1024) (omega arith)).end j h, empty)))

  pub first_some : get_or l.ends (p % 1024) 0 ≢ 0 → get_or l.firsts (p % 1024) 0 ≤ first_placed (is_at p) xs
  first_some some =
      let k = linked.chain whole (p % 1024) (omega arith) in
      let e = get_or l.ends (p % 1024) 0 - 1 in
      let lies = k.last e (omega (arith, some)) in
      first_low p (get_or l.firsts (p % 1024) 0) xs (omega (arith, k.first e lies, lies.inside)) k.first

module _ (l : Chains) (b place : ℕ) (xs : List Slot) (low : b < 1024) (linked : AreLinked l xs) (whole : l.whole ≡ true) where
  pub last_behind : get_or l.ends b 0 ≡ place + 1 → (j : ℕ) → IsIn b xs j → place < j → length xs ≤ j
  last_behind is j h behind = absurd (omega (arith, (linked.chain whole b low).end j h, is, behind))

  pub next_within : IsIn b xs place → get_or l.ends b 0 ≢ place + 1 → get_or l.nexts place 0 ≤ length xs
  next_within here other =
      let k = linked.chain whole b low in
      let e = get_or l.ends b 0 - 1 in
      let lies = k.last e (omega (arith, k.end place here)) in
      omega (arith, k.next place e here lies (omega (arith, other, k.end place here)), lies.inside)

  pub next_behind : IsIn b xs place → (j : ℕ) → IsIn b xs j → place < j → get_or l.nexts place 0 ≤ j
  next_behind here j h = (linked.chain whole b low).next place j here h

pub is_here : (b place : ℕ) (xs : List Slot) (d : Slot) → place < length xs → is_in b (get_or xs place d) ≡ true → IsIn b xs place
is_here b place xs d inside is = record { inside = inside; placed = λ e. ap (is_in b) (get_or_default xs place e d inside) ∙ is }

-- ---- what a table does

-- who begins to run stays at its pod
pub begun_chained : (c : ℕ) (x : Place) → is_chained c (begun x) ≡ is_chained c x
begun_chained c place.Held = refl
begun_chained c (place.Queued p) = refl
begun_chained c (place.Running p assigned) = refl

pub linked_none : (l : Chains) → ((b : ℕ) → b < 1024 → get_or l.ends b 0 ≡ 0) → AreLinked l []
linked_none l none = record {
  chain = λ whole b low. record {
    first = λ j h. absurd (omega (arith, h.inside));
    last = λ k is. absurd (omega (arith, none b low, is));
    end = λ j h. absurd (omega (arith, h.inside));
    next = λ i j hi hj less. absurd (omega (arith, hi.inside));
  };
}

in_front : (c n j : ℕ) (xs : List Slot) → j < n → IsIn c xs j → IsIn c (take n xs) j
in_front c n j xs low h = record { inside = omega (arith, length-take n xs, low, h.inside); placed = λ d. ap (is_in c) (get_or-take n xs j d low) ∙ h.placed d }

front_in : (c n j : ℕ) (xs : List Slot) → IsIn c (take n xs) j → (j < n) × IsIn c xs j
front_in c n j xs h =
    let low : j < n = omega (arith, length-take n xs, h.inside) in
    (low, record { inside = omega (arith, length-take n xs, h.inside); placed = λ d. ap (is_in c) (sym (get_or-take n xs j d low)) ∙ h.placed d })

pub comes_next : (at : ℕ) (xs : List Slot) (d : Slot) → at < length xs → Comes (get_or xs at d).request.place at (take at xs) (take (at + 1) xs)
comes_next at xs d inside = record {
  there = λ c is. in_front c (at + 1) at xs (omega arith) (is_here c at xs d inside is);
  kept = λ c j h. let (low, old) = front_in c at j xs h in in_front c (at + 1) j xs (omega (arith, low)) old;
  only = λ c j h.
      let (low, now) = front_in c (at + 1) j xs h in
      elim (cases_eq j at) [
        | inl here ↦ inr (subst (λ k. is_in c (get_or xs k d) ≡ true) here (now.placed d), here)
        | inr other ↦ inl (in_front c at j xs (omega (arith, low, other)) now)
      ];
}

pub comes_pushed : (xs : List Slot) (y : Slot) → Comes y.request.place (length xs) xs (xs ++ y ∷ [])
comes_pushed xs y =
    let ys = xs ++ y ∷ [] in
    let size = length_push xs y in
    let before : take (length xs) ys ≡ xs = take-append_seam xs (y ∷ []) in
    let all : take (length xs + 1) ys ≡ ys = take_all (length xs + 1) ys (omega (arith, size)) in
    let last : get_or ys (length xs) y ≡ y = ap (λ k. get_or ys k y) (omega arith) ∙ get_or-append-add xs (y ∷ []) 0 y in
    subst (λ s. Comes s.request.place (length xs) xs ys) last (subst (λ l. Comes (get_or ys (length xs) y).request.place (length xs) l ys) before
    (subst (λ l. Comes (get_or ys (length xs) y).request.place (length xs) (take (length xs) ys) l) all (comes_next (length xs) ys y (omega (arith, size)))))

pub same_set : (xs : List Slot) (i : ℕ) (x y : Slot) → i < length xs → x ≡ get_or xs i x → ((c : ℕ) → is_in c y ≡ is_in c x) → AreSame xs (set xs i y)
same_set xs i x y inside read same = record {
  kept = λ c j h. elim (cases_eq j i) [
    | inl here ↦ subst (λ k. IsIn c (set xs i y) k) (sym here) (is_here c i (set xs i y) y (omega (arith, length-set xs i y, inside))
        (ap (is_in c) (get_or-set_same xs i y y inside) ∙ same c ∙ ap (is_in c) read ∙ subst (λ k. is_in c (get_or xs k x) ≡ true) here (h.placed x)))
    | inr other ↦ record { inside = omega (arith, length-set xs i y, h.inside); placed = λ d. ap (is_in c) (get_or-set_other xs i j y d other) ∙ h.placed d }
  ];
  only = λ c j h. elim (cases_eq j i) [
    | inl here ↦ subst (λ k. IsIn c xs k) (sym here) (is_here c i xs x inside
        (sym (ap (is_in c) read) ∙ sym (same c) ∙ sym (ap (is_in c) (get_or-set_same xs i y y inside)) ∙ subst (λ k. is_in c (get_or (set xs i y) k y) ≡ true) here (h.placed y)))
    | inr other ↦ record { inside = omega (arith, length-set xs i y, h.inside); placed = λ d. ap (is_in c) (sym (get_or-set_other xs i j y d other)) ∙ h.placed d }
  ];
}

pub puts_set : (xs : List Slot) (i p : ℕ) (x y : Slot) → i < length xs → x ≡ get_or xs i x → x.request.place ≡ place.Held → is_in (p % 1024) y ≡ true → Puts (p % 1024) i xs (set xs i y)
puts_set xs i p x y inside read held is = record {
  there = is_here (p % 1024) i (set xs i y) y (omega (arith, length-set xs i y, inside)) (ap (is_in (p % 1024)) (get_or-set_same xs i y y inside) ∙ is);
  kept = λ c j h. elim (cases_eq j i) [
    | inl here ↦ absurd (false-true (ap (is_chained c) (sym held) ∙ ap (is_in c) read ∙ subst (λ k. is_in c (get_or xs k x) ≡ true) here (h.placed x)))
    | inr other ↦ record { inside = omega (arith, length-set xs i y, h.inside); placed = λ d. ap (is_in c) (get_or-set_other xs i j y d other) ∙ h.placed d }
  ];
  only = λ c j h. elim (cases_eq j i) [
    | inl here ↦ inr (one_chain c (p % 1024) y.request.place (sym (ap (is_in c) (get_or-set_same xs i y y inside)) ∙ subst (λ k. is_in c (get_or (set xs i y) k y) ≡ true) here (h.placed y)) is, here)
    | inr other ↦ inl (record { inside = omega (arith, length-set xs i y, h.inside); placed = λ d. ap (is_in c) (sym (get_or-set_other xs i j y d other)) ∙ h.placed d })
  ];
}
