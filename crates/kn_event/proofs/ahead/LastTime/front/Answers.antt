-- The kept time, its first eight digits with others behind them, or one to fifteen digits.
use Rattle.std.proofs.Common.{◌≡◌, ◌≢◌, true, false, ◌*◌, ◌%◌, ◌^◌, ◌∙◌, ℕ, drop, take, refl, sym, ap, arith}
use Rattle.core.specs.Prelude.{bit_and}
use Rattle.core.proofs.dec2flt.Eight.{eight_at, word_at}
use Rattle.kn_event.proofs.Kept.{many_told}
use Rattle.kn_event.proofs.Spots.{digits_spelled, few_here, front_spelled, many_here, spelled_here, two_words}
use Rattle.kn_event.proofs.Words.{alone}
use Rattle.kn_event.proofs.ahead.LastTime.front.Goals as goal

false-true : false ≡ true → ⊥
false-true same = grind (arith, same)

pub returns-then-begins-2-clause-number : goal.returns-then-begins-2-clause-number
returns-then-begins-2-clause-number c =
    let bs = c.args.line.now in
    let last = c.self.inside in
    let bytes = λ (k : ℕ). (c.type_inv.line k).fits in
    let first = c.word_at-first.ensures.value ∙ word_at bs 0 (omega arith) in
    let second = c.word_at-second.ensures.value ∙ word_at bs 8 (omega arith) in
    let spelled = c.self.invariant.spelled _ _ (eight_at bs 0 bytes (omega arith)) (eight_at bs 8 bytes (omega arith))
    (ap (λ (w : ℕ). w * last.first.scale % 2 ^ 64) (sym first) ∙ c.begins.ensures.0 c.if-begins.true)
    (ap (λ (w : ℕ). w * last.second.scale % 2 ^ 64) (sym second) ∙ c.begins-then-begins.ensures.0 c.if-begins-2.true) in
    spelled_here bs 16 last.len last.time c.self.invariant.few (omega arith) c.self.invariant.small (ap (take last.len) (two_words bs 0) ∙ spelled)

pub returns-in-Some-clause-number : goal.returns-in-Some-clause-number
returns-in-Some-clause-number c =
    let bs = c.args.line.now in
    let last = c.self.inside in
    let bytes = λ (k : ℕ). (c.type_inv.line k).fits in
    let first_bytes = eight_at bs 0 bytes (omega arith) in
    let second_bytes = eight_at bs 8 bytes (omega arith) in
    let first = c.word_at-first.ensures.value ∙ word_at bs 0 (omega arith) in
    let second = c.word_at-second.ensures.value ∙ word_at bs 8 (omega arith) in
    let other : c.word_at-second.result * last.second.scale % 2 ^ 64 ≢ last.second.moved =
    λ same. false-true (sym c.if-begins-2.false ∙ c.begins-then-begins.ensures.1 same) in
    let kept = c.self.invariant.front _ first_bytes (ap (λ (w : ℕ). w * last.first.scale % 2 ^ 64) (sym first) ∙ c.begins.ensures.0 c.if-begins.true) c.word_at-second.result other in
    let found = c.in-Some.ensures in
    let read = found.read _ _ first_bytes second_bytes kept.len kept.value second in
    many_here bs 0 _ _ _ (omega arith) (omega arith) found.many found.most read.0 read.1 kept.lead

pub invariant_of-self : goal.invariant_of-self
invariant_of-self c =
    let bs = c.args.line.now in
    let last = c.self.inside in
    let bytes = λ (k : ℕ). (c.type_inv.line k).fits in
    let first_bytes = eight_at bs 0 bytes (omega arith) in
    let second_bytes = eight_at bs 8 bytes (omega arith) in
    let first = c.word_at-first.ensures.value ∙ word_at bs 0 (omega arith) in
    let second = c.word_at-second.ensures.value ∙ word_at bs 8 (omega arith) in
    let other : c.word_at-second.result * last.second.scale % 2 ^ 64 ≢ last.second.moved =
    λ same. false-true (sym c.if-begins-2.false ∙ c.begins-then-begins.ensures.1 same) in
    let len = c.in-Some.len in
    let found = c.in-Some.ensures in
    let here = c.self.invariant.front _ first_bytes (ap (λ (w : ℕ). w * last.first.scale % 2 ^ 64) (sym first) ∙ c.begins.ensures.0 c.if-begins.true) c.word_at-second.result other in
    let is = found.read _ _ first_bytes second_bytes here.len here.value second in
    let number = many_here bs 0 c.in-Some.value len len (omega arith) (omega arith) found.many found.most is.0 is.1 here.lead in
    record {
      few = found.most;
      small = number.small;
      spelled = λ xs ys hx hy is_first is_second.
          let kept = c.self.invariant.front xs hx is_first c.word_at-second.result other in
          let ws = take 8 (drop 8 bs) in
          let read = found.read xs ws hx second_bytes kept.len kept.value second in
          many_told len xs ws xs ys found.many hx hx refl (c.of-self-inside.ensures ys ws hy second_bytes second is_second)
          ∙ digits_spelled xs ws len c.in-Some.value hx.0 second_bytes.0 found.many found.most read.0 read.1 kept.lead;
      scaled = c.self.invariant.scaled;
      front = λ xs hx is_first word differs. c.self.invariant.front xs hx is_first c.word_at-second.result other;
    }

pub returns-in-Some-few_digits-clause-number : goal.returns-in-Some-few_digits-clause-number
returns-in-Some-few_digits-clause-number c =
    let bs = c.args.line.now in
    let eight = eight_at bs 0 (λ (k : ℕ). (c.type_inv.line k).fits) (omega arith) in
    let word = c.word_at-first.ensures.value ∙ word_at bs 0 (omega arith) in
    let found = c.in-Some-few_digits.ensures in
    let read = found.read _ eight word in
    few_here bs 0 _ _ _ (omega arith) (omega arith) found.some found.few read.0 read.1 (found.lead _ eight word)

pub keep_few-requires-clause-spelled : goal.keep_few-requires-clause-spelled
keep_few-requires-clause-spelled c =
    let bs = c.args.line.now in
    let eight = eight_at bs 0 (λ (k : ℕ). (c.type_inv.line k).fits) (omega arith) in
    let word = c.word_at-first.ensures.value ∙ word_at bs 0 (omega arith) in
    let found = c.in-Some-few_digits.ensures in
    let read = found.read _ eight word in
    let len = c.in-Some-few_digits.len in
    let number = few_here bs 0 c.in-Some-few_digits.value len len (omega arith) (omega arith) found.some found.few read.0 read.1 (found.lead _ eight word) in
    (take 8 (drop 0 bs), eight, word, front_spelled bs 8 len c.in-Some-few_digits.value found.few (omega arith) number)

pub returns-then-second-eq-SPACE-clause-number : goal.returns-then-second-eq-SPACE-clause-number
returns-then-second-eq-SPACE-clause-number c =
    let bs = c.args.line.now in
    let bytes = λ (k : ℕ). (c.type_inv.line k).fits in
    let first_bytes = eight_at bs 0 bytes (omega arith) in
    let second_bytes = eight_at bs 8 bytes (omega arith) in
    let first = c.word_at-first.ensures.value ∙ word_at bs 0 (omega arith) in
    let second = c.word_at-second.ensures.value ∙ word_at bs 8 (omega arith) in
    let high = c.in-Some-first_digits.ensures in
    let eight = high.read _ first_bytes first in
    let read = alone _ _ c.in-Some-first_digits.high first_bytes second_bytes (ap (λ (w : ℕ). bit_and w 0xff) (sym second) ∙ c.if-second-eq-SPACE.true) eight.0 eight.1 in
    many_here bs 0 c.in-Some-first_digits.high 8 8 (omega arith) (omega arith) (omega arith) (omega arith) read.0 read.1 (high.lead _ first_bytes first)

pub keep_many-requires-clause-spelled : goal.keep_many-requires-clause-spelled
keep_many-requires-clause-spelled c =
    let bs = c.args.line.now in
    let bytes = λ (k : ℕ). (c.type_inv.line k).fits in
    let xs = take 8 (drop 0 bs) in
    let ys = take 8 (drop 8 bs) in
    let first_bytes = eight_at bs 0 bytes (omega arith) in
    let second_bytes = eight_at bs 8 bytes (omega arith) in
    let first = c.word_at-first.ensures.value ∙ word_at bs 0 (omega arith) in
    let second = c.word_at-second.ensures.value ∙ word_at bs 8 (omega arith) in
    let n = c.in-Some-first_digits.high in
    let high = c.in-Some-first_digits.ensures in
    let eight = high.read xs first_bytes first in
    let read = alone xs ys n first_bytes second_bytes (ap (λ (w : ℕ). bit_and w 0xff) (sym second) ∙ c.if-second-eq-SPACE.true) eight.0 eight.1 in
    let lead = high.lead xs first_bytes first in (
      xs,
      ys,
      first_bytes,
      second_bytes,
      first,
      second,
      digits_spelled xs ys 8 n first_bytes.0 second_bytes.0 (omega arith) (omega arith) read.0 read.1 lead,
      record { lead = lead; len = eight.0; value = eight.1 },
    )

pub returns-in-Some-further_digits-clause-number : goal.returns-in-Some-further_digits-clause-number
returns-in-Some-further_digits-clause-number c =
    let bs = c.args.line.now in
    let bytes = λ (k : ℕ). (c.type_inv.line k).fits in
    let first_bytes = eight_at bs 0 bytes (omega arith) in
    let second_bytes = eight_at bs 8 bytes (omega arith) in
    let first = c.word_at-first.ensures.value ∙ word_at bs 0 (omega arith) in
    let second = c.word_at-second.ensures.value ∙ word_at bs 8 (omega arith) in
    let high = c.in-Some-first_digits.ensures in
    let eight = high.read _ first_bytes first in
    let found = c.in-Some-further_digits.ensures in
    let read = found.read _ _ first_bytes second_bytes eight.0 eight.1 second in
    many_here bs 0 _ _ _ (omega arith) (omega arith) found.many found.most read.0 read.1 (high.lead _ first_bytes first)

pub keep_many-requires-in-Some-further_digits-clause-spelled : goal.keep_many-requires-in-Some-further_digits-clause-spelled
keep_many-requires-in-Some-further_digits-clause-spelled c =
    let bs = c.args.line.now in
    let bytes = λ (k : ℕ). (c.type_inv.line k).fits in
    let xs = take 8 (drop 0 bs) in
    let ys = take 8 (drop 8 bs) in
    let first_bytes = eight_at bs 0 bytes (omega arith) in
    let second_bytes = eight_at bs 8 bytes (omega arith) in
    let first = c.word_at-first.ensures.value ∙ word_at bs 0 (omega arith) in
    let second = c.word_at-second.ensures.value ∙ word_at bs 8 (omega arith) in
    let high = c.in-Some-first_digits.ensures in
    let eight = high.read xs first_bytes first in
    let found = c.in-Some-further_digits.ensures in
    let len = c.in-Some-further_digits.len in
    let value = c.in-Some-further_digits.value in
    let read = found.read xs ys first_bytes second_bytes eight.0 eight.1 second in
    let lead = high.lead xs first_bytes first in (
      xs,
      ys,
      first_bytes,
      second_bytes,
      first,
      second,
      digits_spelled xs ys len value first_bytes.0 second_bytes.0 found.many found.most read.0 read.1 lead,
      record { lead = lead; len = eight.0; value = eight.1 },
    )
