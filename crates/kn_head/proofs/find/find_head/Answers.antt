use Rattle.std.proofs.Common.{◌≡◌, length, sym, subst, ◌∙◌, arith}
use Rattle.kn_head.specs.Heads.{limit, IsUnfinished, HeadFails}
use Rattle.kn_head.specs.Told.{unread, Stops}
use Rattle.kn_head.specs.declared.head.HeadError.TheVariants as error
use Rattle.kn_head.proofs.Pieces.{of_unread}
use Rattle.kn_head.proofs.Drawing.{draws_more, kept_holds, keeps_more}
use Rattle.kn_head.proofs.HeadFronts.{head_refused, head_too_long}
use Rattle.kn_head.proofs.find.find_head.Goals as goal

pub returns-in-Err-clause-fails : goal.returns-in-Err-clause-fails
returns-in-Err-clause-fails g c =
    kept_holds _ _ (λ bytes. HeadFails bytes c.in-Err.e) c.pieces.invariant.stays
    (of_unread _ _ (λ bytes. HeadFails bytes c.in-Err.e)
    (λ more. head_refused c.in-Err.e c.pieces.window more c.bytes.ensures.short (rw c.bytes.ensures.value at c.in-Err.ensures.refused)))

pub returns-then-bytes-eq16384-clause-fails : goal.returns-then-bytes-eq16384-clause-fails
returns-then-bytes-eq16384-clause-fails g c =
    let full : length c.pieces.window ≡ limit = omega arith in
    let more = rw c.in-Ok-None.field-0-is at c.in-Ok-None.ensures in
    let open_ = subst IsUnfinished c.bytes.ensures.value more.more in
    kept_holds _ _ (λ bytes. HeadFails bytes error.TooLong) c.pieces.invariant.stays
    (of_unread _ _ (λ bytes. HeadFails bytes error.TooLong)
    (λ more. head_too_long c.pieces.window more full open_))

pub pieces-preserved : goal.pieces-preserved
pieces-preserved g c = record {
  stays = keeps_more _ _ _ c.pieces.invariant.stays c.in-Ok.ensures.stays;
  source = draws_more c.pieces.invariant.source c.in-Ok.ensures.source;
  spans = c.judge.auto.spans ∙ c.pieces.invariant.spans;
}

pub returns-in-Err-fill-clause-source : goal.returns-in-Err-fill-clause-source
returns-in-Err-fill-clause-source g c = draws_more c.pieces.invariant.source c.fill.ensures.source

pub returns-in-Err-fill-clause-fails : goal.returns-in-Err-fill-clause-fails
returns-in-Err-fill-clause-fails g c =
    let known = unread c.pieces.window (g.S.Source.left c.pieces.source) in
    let same = c.bytes-in-Err-fill.ensures.value ∙ c.in-Err-fill.ensures.kept in
    kept_holds _ _ (λ bytes. HeadFails bytes c.cut_head.result) c.pieces.invariant.stays
    (c.cut_head.ensures.why known (subst (λ w. Stops w known c.in-Err-fill.e) (sym same) c.in-Err-fill.ensures.stops))
