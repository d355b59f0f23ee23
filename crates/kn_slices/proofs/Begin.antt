-- A group at its opening.
use Rattle.std.proofs.Common.{◌≡◌, ◌≤◌, ◌<◌, ℕ, zero, suc, ◌+◌, Bool, false, not, max, List, [], ◌∷◌, ◌++◌, length, length-append, get_or, map, refl, ap, ◌∙◌, sym, subst, arith, eq-eqb, inl, inr}
use Rattle.std.specs.Prelude.{replicate}
use Rattle.std.specs.List.{range_with_len, sum_by}
use Rattle.std.proofs.lemmas.List.{get_or-replicate, get_or_append_left, length-replicate}
use Rattle.std.proofs.lemmas.Bool.{cases_eq}
use Rattle.std.proofs.Math.Seq.{get_or-append_seam}
use Rattle.std.proofs.lemmas.List.FromFn.{get_or-map-range_with_len, get_or-range_with_len, length-map-range_with_len, length-range_with_len, sum_by-map-range_with_len_more}
use Rattle.kn_event.specs.FixedSpec.{fixed_spec}
use Rattle.kn_event.specs.declared.revision.Kind.TheVariants as kind
use Rattle.kn_event.specs.declared.revision.Slots.{Slots}
use Rattle.kn_event.specs.declared.revision.Spec.{Spec}
use Rattle.kn_trace.specs.Events.{opening}
use Rattle.kn_core.specs.State.{RevisionState, StandsFor}
use Rattle.kn_slices.specs.Activators.{AreFresh, AreListed, IsActivator, IsFresh, IsKept, limit_at, openings_of, running_at, slices_of}
use Rattle.kn_slices.specs.Slices.{count_from, hold, slice_of, unset}
use Rattle.kn_slices.specs.Traces.{AreTraces, clocks_of, specs_of}
use Rattle.kn_slices.proofs.Alike.{sums_alike}
use Rattle.kn_slices.proofs.Marks.{bit}
use Rattle.kn_slices.proofs.Steps.{differs}
use Rattle.kn_slices.proofs.Sums.{below, slices_sum}

pub fixed_cc : (limit pods timeout_s : ℕ) (slots : Slots) → (fixed_spec limit pods timeout_s slots).cc ≡ limit
unfolding fixed_spec
fixed_cc limit pods timeout_s slots = refl

pub fixed_kind : (limit pods timeout_s : ℕ) (slots : Slots) → (fixed_spec limit pods timeout_s slots).kind ≡ kind.Fixed pods
unfolding fixed_spec
fixed_kind limit pods timeout_s slots = refl

pub sum_below : (f : ℕ → ℕ) (n : ℕ) → sum_by (λ x. x) (map f (range_with_len 0 n)) ≡ below f n
sum_below f zero = refl
sum_below f (suc n) =
    let one : suc n ≡ n + 1 = omega arith in
    let zero_on : 0 + n ≡ n = omega arith in
    ap (λ m. sum_by (λ x. x) (map f (range_with_len 0 m))) one ∙ (sum_by-map-range_with_len_more (λ x. x) f 0 n n zero_on ∙ ap (λ s. s + f n) (sum_below f n))

count_none : {A : Type 0} (test : ℕ → A → Bool) (i : ℕ) (xs : List A) → ((k : ℕ) (a : A) → k < length xs → test (i + k) (get_or xs k a) ≡ false) → count_from test i xs ≡ 0
count_none test i [] h = refl
count_none test i (x ∷ xs) h =
    let here : test i x ≡ false = subst (λ n. test n x ≡ false) (omega arith) (h 0 x (omega arith)) in
    let rest = count_none test (i + 1) xs (λ k a low. subst (λ n. test n (get_or xs k a) ≡ false) (omega arith) (h (suc k) a (omega (arith, low)))) in
    let bits = ap bit here in
    omega (arith, bits, rest)

map_alike : {A B C : Type 0} (f : A → C) (g : B → C) (xs : List A) (ys : List B) → length xs ≡ length ys → ((k : ℕ) (a : A) (b : B) → k < length xs → f (get_or xs k a) ≡ g (get_or ys k b)) → map f xs ≡ map g ys
map_alike f g [] [] len same = refl
map_alike f g [] (y ∷ ys) len same = absurd (omega (arith, len))
map_alike f g (x ∷ xs) [] len same = absurd (omega (arith, len))
map_alike f g (x ∷ xs) (y ∷ ys) len same =
    let here : f x ≡ g y = same 0 x y (omega arith) in
    rw (here, map_alike f g xs ys (omega (arith, len)) (λ k a b low. same (suc k) a b (omega (arith, low)))) refl

map_all : {A : Type 0} (f : A → ℕ) (v n : ℕ) (xs : List A) → length xs ≡ n → ((k : ℕ) (a : A) → k < length xs → f (get_or xs k a) ≡ v) → map f xs ≡ replicate n v
map_all f v zero [] len same = refl
map_all f v (suc n) [] len same = absurd (omega (arith, len))
map_all f v zero (x ∷ xs) len same = absurd (omega (arith, len))
map_all f v (suc n) (x ∷ xs) len same = rw (same 0 x (omega arith), map_all f v n xs (omega (arith, len)) (λ k a low. same (suc k) a (omega (arith, low)))) refl

-- one activator more
pub fresh_count : (i : ℕ) (parts new : List RevisionState) (x : RevisionState) → length parts ≡ i → new ≡ parts ++ x ∷ [] → length new ≡ i + 1
fresh_count i parts new x count is = ap length is ∙ (length-append parts (x ∷ []) ∙ omega (arith, count))

pub fresh_more : (n limit pods timeout_s : ℕ) (slots : Slots) (start i : ℕ) (parts new : List RevisionState) (x : RevisionState) → length parts ≡ i → new ≡ parts ++ x ∷ []
    → ((k : ℕ) (d : RevisionState) → k < i → IsFresh (fixed_spec (slice_of limit k n) pods timeout_s slots) pods start (get_or parts k d))
    → IsFresh (fixed_spec (slice_of limit i n) pods timeout_s slots) pods start x
    → (k : ℕ) (d : RevisionState) → k < i + 1 → IsFresh (fixed_spec (slice_of limit k n) pods timeout_s slots) pods start (get_or new k d)
fresh_more n limit pods timeout_s slots start i parts new x count is each one k d low =
    subst (λ (xs : List RevisionState). IsFresh (fixed_spec (slice_of limit k n) pods timeout_s slots) pods start (get_or xs k d)) (sym is)
    (elim (cases_eq k i) [
      | inl same ↦ subst (λ j. IsFresh (fixed_spec (slice_of limit j n) pods timeout_s slots) pods start (get_or (parts ++ x ∷ []) j d)) (sym same)
          (subst (IsFresh (fixed_spec (slice_of limit i n) pods timeout_s slots) pods start) (sym (ap (λ j. get_or (parts ++ x ∷ []) j d) (sym count) ∙ get_or-append_seam parts x [] d)) one)
      | inr apart ↦
          let less : k < i = omega (arith, low, apart) in
          subst (IsFresh (fixed_spec (slice_of limit k n) pods timeout_s slots) pods start) (sym (get_or_append_left parts (x ∷ []) d k (omega (arith, less, count)))) (each k d less)
    ])

module _ (n limit pods timeout_s : ℕ) (slots : Slots) (start : ℕ) (parts : List RevisionState) (fresh : AreFresh n limit pods timeout_s slots start parts) where
  inside : (k : ℕ) → k < length parts → k < n
  inside k low = subst (λ m. k < m) fresh.count low

  fresh_limit : (p k : ℕ) (a : RevisionState) → p < pods → k < length parts → limit_at p (get_or parts k a) ≡ slice_of limit k n
  fresh_limit p k a there low = let x = fresh.each k a (inside k low) in x.is_open.limits p there ∙ fixed_cc (slice_of limit k n) pods timeout_s slots

  fresh_hold : (p : ℕ) → 0 < n → p < pods → hold (limit_at p) (running_at p) parts ≡ limit
  fresh_hold p some there =
      let slices = map (λ i. slice_of limit i n) (range_with_len 0 n) in
      let same : (k : ℕ) (a : RevisionState) (b : ℕ) → k < length parts → max (limit_at p (get_or parts k a)) (running_at p (get_or parts k a)) ≡ get_or slices k b =
      λ k a b low. let x = fresh.each k a (inside k low) in
      let l = fresh_limit p k a there low in
      let r = x.is_open.runs p in
      let at : get_or slices k b ≡ slice_of limit k n = get_or-map-range_with_len (λ i. slice_of limit i n) 0 n k k b (inside k low) (omega arith) in
      omega (arith, l, r, at) in
      sums_alike (λ a. max (limit_at p a) (running_at p a)) (λ x. x) parts slices (fresh.count ∙ sym (length-map-range_with_len (λ i. slice_of limit i n) 0 n)) same
      ∙ (sum_below (λ i. slice_of limit i n) n ∙ slices_sum limit n some)

  equal_slice : (p k : ℕ) (a : RevisionState) (w m : ℕ) → p < pods → k < length parts → w ≡ limit → m ≡ n → differs (limit_at p (get_or parts k a)) w k m ≡ false
  equal_slice p k a w m there low e f = ap not (eq-eqb (limit_at p (get_or parts k a)) (slice_of w k m) (fresh_limit p k a there low ∙ (ap (λ w. slice_of w k n) (sym e) ∙ ap (slice_of w k) (sym f))))

  pub kept : (room more : ℕ) → 1 ≤ n → n ≤ 16 → n ≤ limit → limit ≤ 1000 → pods ≤ 500 → pods ≤ room → pods ≤ more
      → IsKept limit start parts (replicate pods limit) (replicate pods limit) (replicate pods 0) [] [] room more
  kept room more some few least most many roomy more_roomy =
      let len = length-replicate pods limit in
      let nothing : AreListed (length (replicate pods limit)) [] = record { inside = λ k low. absurd (omega (arith, low)); order = λ i j less low. absurd (omega (arith, low)) } in
      record {
        group = record {
          group = record {
            some = omega (arith, some, fresh.count);
            few = omega (arith, few, fresh.count);
            pods = omega (arith, len, many);
            many = refl;
            each = λ p low.
                let there : p < pods = omega (arith, low, len) in
                let at = get_or-replicate pods p limit 0 there in
                let held = fresh_hold p some there in
                record { within = omega (arith, at, held); above = omega arith; same = λ h. refl; least = omega (arith, at, least, fresh.count); most = omega (arith, at, most) };
          };
          activators = λ k d low. let x = fresh.each k d (inside k low) in subst (λ m. IsActivator m (get_or parts k d)) (sym len) x.is_open.part;
        };
        marked = record {
          many = length-replicate pods 0 ∙ sym len;
          each = λ p low.
              let there : p < pods = omega (arith, low, len) in
              get_or-replicate pods p 0 0 there ∙ sym (count_none (λ i a. differs (limit_at p a) (get_or (replicate pods limit) p 0) i (length parts)) 0 parts
              (λ k a here. ap (λ j. differs (limit_at p (get_or parts k a)) (get_or (replicate pods limit) p 0) j (length parts)) (omega arith)
              ∙ equal_slice p k a (get_or (replicate pods limit) p 0) (length parts) there here (get_or-replicate pods p limit 0 there) fresh.count));
        };
        opened = record {
          least = subst (λ m. m ≤ limit) (sym fresh.count) least;
          slices = λ k d low. let x = fresh.each k d (inside k low) in ap (λ (s : Spec). s.cc) x.spec ∙ (fixed_cc (slice_of limit k n) pods timeout_s slots ∙ ap (slice_of limit k) (sym fresh.count));
          starts = λ k d low. let x = fresh.each k d (inside k low) in x.start;
        };
        kept = record { listed = nothing; others = λ p low off. (get_or-replicate pods p 0 0 (omega (arith, low, len)), refl) };
        roomy = omega (arith, len, roomy);
        holds = record { listed = nothing; others = λ p low off. get_or-replicate pods p 0 0 (omega (arith, low, len)); roomy = omega (arith, len, more_roomy) };
      }

  pub fresh_unset : (j : ℕ) (d : RevisionState) → j < n → unset limit_at (length parts) j (replicate pods limit) (get_or parts j d) ≡ 0
  fresh_unset j d low =
      count_none (λ p w. differs (limit_at p (get_or parts j d)) w j (length parts)) 0 (replicate pods limit)
      (λ p a here. let there : p < pods = omega (arith, here, length-replicate pods limit) in
      ap (λ q. differs (limit_at q (get_or parts j d)) (get_or (replicate pods limit) p a) j (length parts)) (omega arith)
      ∙ equal_slice p j d (get_or (replicate pods limit) p a) (length parts) there (subst (λ m. j < m) (sym fresh.count) low) (get_or-replicate pods p limit a there) fresh.count)

  pub fresh_traces : AreTraces parts (openings_of n limit pods timeout_s slots start)
  fresh_traces = record {
    same = length-map-range_with_len (λ i. opening (fixed_spec (slice_of limit i n) pods timeout_s slots) start) 0 n ∙ sym fresh.count;
    each = λ k d low. let x = fresh.each k d (inside k low) in
        subst (StandsFor (get_or parts k d)) (sym (get_or-map-range_with_len (λ i. opening (fixed_spec (slice_of limit i n) pods timeout_s slots) start) 0 n k k [] (inside k low) (omega arith))) x.stands;
  }

  pub fresh_specs : specs_of parts ≡ slices_of n limit pods timeout_s slots
  fresh_specs = map_alike (λ (x : RevisionState). x.spec) (λ i. fixed_spec (slice_of limit i n) pods timeout_s slots) parts (range_with_len 0 n) (fresh.count ∙ sym (length-range_with_len 0 n))
      (λ k a b low. let x = fresh.each k a (inside k low) in
      let at : get_or (range_with_len 0 n) k b ≡ k = get_or-range_with_len 0 n k b (inside k low) ∙ omega arith in
      x.spec ∙ ap (λ i. fixed_spec (slice_of limit i n) pods timeout_s slots) (sym at))

  pub fresh_clocks : clocks_of parts ≡ replicate n start
  fresh_clocks = map_all (λ (x : RevisionState). x.clock) start n parts fresh.count (λ k a low. let x = fresh.each k a (inside k low) in x.clock)
