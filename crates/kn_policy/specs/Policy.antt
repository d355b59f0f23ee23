-- What contracts see of a policy, and what a pick makes of it.
use Rattle.std.specs.Prelude.{ℕ, ◌+◌, ◌*◌, ◌==◌, List, map, if◌then◌else◌}
use Rattle.std.specs.List.{position_or_len}
use Rattle.rand_pcg.specs.Lcg.{Lcg}
use Rattle.rand_pcg.specs.Pcg.{pcg32}
use Rattle.kn_trace.specs.declared.candidate.Cand.{Cand}
use Rattle.kn_trace.specs.Choice.{generator_at}

-- the containerConcurrency, which names the policy; the place of round robin; the generator of random words
pub record State : Type 0 where
  pub cc : ℕ
  pub place : ℕ
  pub generator : Lcg

-- how many words so many picks draw: two each by the random choice, and none by the others
abbrev pub words_in : ℕ → ℕ → ℕ
words_in cc picks = if cc == 0 then 2 * picks else 0

-- a policy with this seed and place, after so many picks
unfoldable pub policy_at : ℕ → ℕ → ℕ → ℕ → State
policy_at cc seed place picks = record { cc = cc; place = place; generator = generator_at seed (words_in cc picks) }

-- one past the position that the picked pod has among the Ready ones
abbrev pub place_past : ℕ → List Cand → ℕ
place_past p ready = position_or_len (λ q. q == p) (map (λ q. q.pod) ready) + 1

-- the generator after two words
abbrev pub two_drawn : Lcg → Lcg
two_drawn generator = (pcg32 (pcg32 generator).1).1

-- the generator after a pick: the random choice draws two words
abbrev pub drawn_by : ℕ → Lcg → Lcg
drawn_by cc generator = if cc == 0 then two_drawn generator else generator

-- a pod was picked: the place is past it, whichever policy it is, and the words of the pick are drawn
abbrev pub picked : ℕ → List Cand → State → State
picked p ready policy = record { cc = policy.cc; place = place_past p ready; generator = drawn_by policy.cc policy.generator }
