-- Each literal is what the definition computes.
use Rattle.std.proofs.Common.{ap, sym}
use Rattle.std.specs.Fmt.{digits}
use Rattle.kn_head.specs.Answers.{answer_with, answered}
use Rattle.kn_head.proofs.answer.Answer.bytes.Goals as goal

pub returns-in-BadHead : goal.returns-in-BadHead
unfolding answer_with digits
returns-in-BadHead c = ap answered (sym c.in-BadHead.is)

pub returns-in-NoSuchRevision : goal.returns-in-NoSuchRevision
unfolding answer_with digits
returns-in-NoSuchRevision c = ap answered (sym c.in-NoSuchRevision.is)

pub returns-in-BodyTooLong : goal.returns-in-BodyTooLong
unfolding answer_with digits
returns-in-BodyTooLong c = ap answered (sym c.in-BodyTooLong.is)

pub returns-in-HeadTooLong : goal.returns-in-HeadTooLong
unfolding answer_with digits
returns-in-HeadTooLong c = ap answered (sym c.in-HeadTooLong.is)

pub returns-in-BadCoding : goal.returns-in-BadCoding
unfolding answer_with digits
returns-in-BadCoding c = ap answered (sym c.in-BadCoding.is)

pub returns-in-LinkFailed : goal.returns-in-LinkFailed
unfolding answer_with digits
returns-in-LinkFailed c = ap answered (sym c.in-LinkFailed.is)

pub returns-in-QueueFull : goal.returns-in-QueueFull
unfolding answer_with digits
returns-in-QueueFull c = ap answered (sym c.in-QueueFull.is)

pub returns-in-Overload : goal.returns-in-Overload
unfolding answer_with digits
returns-in-Overload c = ap answered (sym c.in-Overload.is)

pub returns-in-Expired : goal.returns-in-Expired
unfolding answer_with digits
returns-in-Expired c = ap answered (sym c.in-Expired.is)

pub returns-in-HistoryFull : goal.returns-in-HistoryFull
unfolding answer_with digits
returns-in-HistoryFull c = ap answered (sym c.in-HistoryFull.is)
