use Rattle.std.proofs.Common.{◌∙◌, ap, subst}
use Rattle.kn_cell.specs.Shown.{PassView}
use Rattle.kn_session.specs.WidePasses.{IsShut}
use Rattle.kn_session.proofs.CloseFacts.{closed_whole}
use Rattle.kn_session.proofs.wide_close.close_cell.Goals as goal

pub returns : goal.returns
returns c =
    let plain = ap (λ (v : PassView). v.lasting) c.join.ensures ∙ c.requires.may.closes.plain in
    let whole = closed_whole c.join.new.pass c.close-history.result.0 c.close-history.result.1 plain c.close-history.ensures.closes in
    subst (λ (p : PassView). IsShut p c.close-history.result.1) c.join.ensures (record { revision = c.close-history.result.0; whole = whole })
