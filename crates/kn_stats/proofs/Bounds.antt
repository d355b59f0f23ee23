-- How large counts and areas are.
use Rattle.std.proofs.Common.{◌≡◌, refl, sym, ap, ◌∙◌, ℕ, ◌+◌, ◌-◌, ◌*◌, ◌≤◌, ◌<◌, Bool, true, false, arith}
use Rattle.std.specs.Prelude.{nat_lt}
use Rattle.std.proofs.Math.Nat.{mul-le-mul_right}
use Rattle.kn_stats.specs.declared.tally.Tally.{Tally}
use Rattle.kn_stats.specs.declared.tally.PodTally.{PodTally}
use Rattle.kn_stats.specs.Pods.{IsSmall, IsSmallPod, anew, anew_if, fresh, no_tally, tally_after}

pub product_small : (left : ℕ) (t : Tally) → IsSmall left t → left ≤ 1000 → t.count * left ≤ 20000000
product_small left t small le =
    let a = mul-le-mul_right left small.count in
    omega (arith, a, le)

pub area_small : (left : ℕ) (t : Tally) → IsSmall left t → left ≤ 1000 → t.area ≤ 20000000
area_small left t small le =
    let a = mul-le-mul_right left small.count in
    omega (arith, a, small.most)

pub count-anew : (b : Bool) (t : Tally) → (anew_if b t).count ≡ t.count
count-anew true t = refl
count-anew false t = refl

pub count-fresh-direct : (second : ℕ) (q : PodTally) → (fresh second q).direct.count ≡ q.direct.count
count-fresh-direct second q = count-anew (nat_lt q.second second) q.direct

pub count-fresh-proxied : (second : ℕ) (q : PodTally) → (fresh second q).proxied.count ≡ q.proxied.count
count-fresh-proxied second q = count-anew (nat_lt q.second second) q.proxied

pub fresh_counts : (second left : ℕ) (q : PodTally) → IsSmallPod second left q → (q.direct.count ≤ 20000) × (q.proxied.count ≤ 20000)
fresh_counts second left q small =
    let a = count-fresh-direct second q in
    let b = count-fresh-proxied second q in
    (omega (arith, a, small.direct.count), omega (arith, b, small.proxied.count))

more_product : (a b : ℕ) → (a + 1) * b ≡ a * b + b
more_product a b = grind (arith)

less_product : (a b : ℕ) → 1 ≤ a → (a - 1) * b + b ≡ a * b
less_product a b h = let e : a ≡ (a - 1) + 1 = omega (arith, h) in sym (more_product (a - 1) b) ∙ ap (λ m. m * b) (sym e)

-- one that is there has what is left of the second in the area
pub left_inside : (left : ℕ) (t : Tally) → IsSmall left t → 0 < t.count → left ≤ t.area
left_inside left t small some =
    let product = less_product t.count left (omega (arith, some)) in
    omega (arith, product, small.least)

pub small_after : (begins ends : Bool) (left : ℕ) (t : Tally) → (begins ≡ true → t.count < 20000) → (ends ≡ true → 0 < t.count) → IsSmall left t → IsSmall left (tally_after begins ends left t)
small_after true ends left t room some small =
    let product = more_product t.count left in
    let few = room refl in
    record { count = omega (arith, few); least = omega (arith, product, small.least); most = omega (arith, product, small.most) }
small_after false true left t room some small =
    let there = some refl in
    let product = less_product t.count left (omega (arith, there)) in
    record { count = omega (arith, small.count); least = omega (arith, product, small.least); most = omega (arith, product, small.most, small.least) }
small_after false false left t room some small = small

pub small_none : (left : ℕ) → left ≤ 1000 → IsSmall left no_tally
small_none left le = record { count = omega arith; least = omega arith; most = omega (arith, le) }

split_product : (n a b : ℕ) → a ≤ b → n * b ≡ n * a + n * (b - a)
split_product n a b le = let e : b ≡ a + (b - a) = omega (arith, le) in ap (λ m. n * m) e ∙ grind (arith)

-- with less of the second left
pub small_later : (left later : ℕ) (t : Tally) → later ≤ left → IsSmall left t → IsSmall later t
small_later left later t le small =
    let split = split_product t.count later left le in
    let a = mul-le-mul_right (left - later) small.count in
    record { count = small.count; least = omega (arith, split, small.least); most = omega (arith, split, a, small.most, le) }

pub small_anew : (left : ℕ) (t : Tally) → left ≤ 1000 → t.count ≤ 20000 → IsSmall left (anew t)
small_anew left t le few =
    let split = split_product t.count left 1000 le in
    let a = mul-le-mul_right (1000 - left) few in
    let turn : 1000 * t.count ≡ t.count * 1000 = omega arith in
    record { count = few; least = omega (arith, split, turn); most = omega (arith, split, turn, a, le) }
