use Rattle.kn_policy.proofs.Words.{words_drawn}
use Rattle.kn_policy.proofs.policy.draw.Goals as goal

pub returns-clause-words : goal.returns-clause-words
returns-clause-words c = λ seed picks random at. words_drawn _ _ _ _ _ seed picks at c.next_word-first_word.ensures c.next_word-second_word.ensures
