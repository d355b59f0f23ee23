-- Each phrase is the one that the definition computes.
use Rattle.std.proofs.Common.{◌≡◌, refl}
use Rattle.std.specs.Fmt.{digits}
use Rattle.http.specs.StatusCode.{status_text}
use Rattle.kn_head.specs.Answers.{code_of, status_of}
use Rattle.kn_head.specs.declared.answer.Answer.{Answer}
use Rattle.kn_head.specs.declared.answer.Answer.TheVariants as answer
use Rattle.kn_head.proofs.laws.statuses_are_named.Goals as goal

named : (a : Answer) → status_of a ≡ status_text (code_of a)
unfolding digits
named answer.BadHead = refl
named answer.NoSuchRevision = refl
named answer.BodyTooLong = refl
named answer.HeadTooLong = refl
named answer.BadCoding = refl
named answer.LinkFailed = refl
named answer.QueueFull = refl
named answer.Overload = refl
named answer.Expired = refl
named answer.HistoryFull = refl

pub returns : goal.returns
returns c = named
