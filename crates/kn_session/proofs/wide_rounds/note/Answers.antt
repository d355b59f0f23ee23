use Rattle.std.proofs.Common.{◌≡◌, ◌<◌, ap, sym, ◌∙◌, length}
use Rattle.kn_request.specs.declared.slot.Work.{Work}
use Rattle.kn_session.specs.Rounds.{is_fault, is_memory}
use Rattle.kn_session.proofs.ShareEndings.{place_of}
use Rattle.kn_session.proofs.PlaceFacts.{mapped_same}
use Rattle.kn_session.proofs.WideRounds.{noted_at, place_low}
use Rattle.kn_session.proofs.wide_rounds.note.Goals as goal
use Rattle.kn_session.proofs.wide_rounds.note.Goals.{in-Some, in-None}

pub returns-clause-passes : goal.returns-clause-passes
returns-clause-passes c =
    let is : c.match-ended.v ≡ place_of c.args.ended.now.revision = elim c.match-ended.branch [ in-Some w ↦ w.v-is ∙ ap place_of (sym w.in-Some.is) | in-None w ↦ w.v-is ∙ ap place_of (sym w.in-None.is) ] in
    let low = place_low (length c.args.works.now) c.args.ended.now.revision c.requires.inside c.requires.some in
    let low' : c.match-ended.v < length c.args.works.now = rw is low in
    mapped_same (λ (x : Work). x.pass) c.args.works.now c.match-ended.v c.mark.new.work c.index-works-v.result low' c.mark.ensures.pass

pub returns-clause-faults : goal.returns-clause-faults
returns-clause-faults c v low =
    let is : c.match-ended.v ≡ place_of c.args.ended.now.revision = elim c.match-ended.branch [ in-Some w ↦ w.v-is ∙ ap place_of (sym w.in-Some.is) | in-None w ↦ w.v-is ∙ ap place_of (sym w.in-None.is) ] in
    let low = place_low (length c.args.works.now) c.args.ended.now.revision c.requires.inside c.requires.some in
    let low' : c.match-ended.v < length c.args.works.now = rw is low in
    noted_at (λ (x : Work). x.fault) (is_fault c.args.ended.now.served) c.args.works.now c.args.ended.now.revision c.match-ended.v v c.mark.new.work c.index-works-v.result is low' c.mark.ensures.fault

pub returns-clause-wants : goal.returns-clause-wants
returns-clause-wants c v low =
    let is : c.match-ended.v ≡ place_of c.args.ended.now.revision = elim c.match-ended.branch [ in-Some w ↦ w.v-is ∙ ap place_of (sym w.in-Some.is) | in-None w ↦ w.v-is ∙ ap place_of (sym w.in-None.is) ] in
    let low = place_low (length c.args.works.now) c.args.ended.now.revision c.requires.inside c.requires.some in
    let low' : c.match-ended.v < length c.args.works.now = rw is low in
    noted_at (λ (x : Work). x.memory) (is_memory c.args.ended.now.served) c.args.works.now c.args.ended.now.revision c.match-ended.v v c.mark.new.work c.index-works-v.result is low' c.mark.ensures.memory
