use Rattle.std.proofs.Common.{◌≡◌, true, false, take, refl}
use Rattle.kn_event.specs.declared.entry.Row.TheVariants as row
use Rattle.kn_event.specs.EntryLine.{row_text, with_number}
use Rattle.kn_report.proofs.InPlace.{row_is}
use Rattle.kn_report.proofs.rows.put_row.Goals as goal

pub returns-in-QueueFull-clause-text : goal.returns-in-QueueFull-clause-text
returns-in-QueueFull-clause-text c =
    row_is (take c.args.at c.args.room.now) (take c.put_queue_full.result c.put_queue_full.new.room) _ c.args.row.now (row.QueueFull c.in-QueueFull.request c.in-QueueFull.pod) c.in-QueueFull.is refl c.put_queue_full.ensures.text

pub returns-in-Admit-clause-text : goal.returns-in-Admit-clause-text
returns-in-Admit-clause-text c =
    row_is (take c.args.at c.args.room.now) (take c.put_admit.result c.put_admit.new.room) _ c.args.row.now (row.Admit c.in-Admit.request c.in-Admit.tag) c.in-Admit.is refl c.put_admit.ensures.text

pub returns-in-Assign-clause-text : goal.returns-in-Assign-clause-text
returns-in-Assign-clause-text c =
    row_is (take c.args.at c.args.room.now) (take c.put_assign.result c.put_assign.new.room) _ c.args.row.now (row.Assign c.in-Assign.request c.in-Assign.pod) c.in-Assign.is refl c.put_assign.ensures.text

pub returns-in-Direct-clause-text : goal.returns-in-Direct-clause-text
returns-in-Direct-clause-text c =
    row_is (take c.args.at c.args.room.now) (take c.put_direct.result c.put_direct.new.room) _ c.args.row.now (row.Direct c.in-Direct.request c.in-Direct.pod) c.in-Direct.is refl c.put_direct.ensures.text

pub returns-in-Finish-default-true-clause-text : goal.returns-in-Finish-default-true-clause-text
returns-in-Finish-default-true-clause-text c =
    let is : c.args.row.now ≡ row.Finish c.in-Finish-default-true.request true = cc in
    row_is (take c.args.at c.args.room.now) (take c.put_finish.result c.put_finish.new.room) _ c.args.row.now (row.Finish c.in-Finish-default-true.request true) is refl c.put_finish.ensures.text

pub returns-in-Finish-default-false-clause-text : goal.returns-in-Finish-default-false-clause-text
returns-in-Finish-default-false-clause-text c =
    let is : c.args.row.now ≡ row.Finish c.in-Finish-default-false.request false = cc in
    row_is (take c.args.at c.args.room.now) (take c.put_finish-in-Finish-default-false.result c.put_finish-in-Finish-default-false.new.room) _ c.args.row.now (row.Finish c.in-Finish-default-false.request false) is refl c.put_finish-in-Finish-default-false.ensures.text

pub returns-in-Run-clause-text : goal.returns-in-Run-clause-text
returns-in-Run-clause-text c =
    row_is (take c.args.at c.args.room.now) (take c.put_run.result c.put_run.new.room) _ c.args.row.now (row.Run c.in-Run.request) c.in-Run.is refl c.put_run.ensures.text

pub returns-in-Expire-clause-text : goal.returns-in-Expire-clause-text
unfolding row_text with_number
returns-in-Expire-clause-text c =
    row_is (take c.args.at c.args.room.now) (take c.put_one.result c.put_one.new.room) _ c.args.row.now (row.Expire c.in-Expire.request) c.in-Expire.is refl c.put_one.ensures.text

pub returns-in-Cancel-clause-text : goal.returns-in-Cancel-clause-text
unfolding row_text with_number
returns-in-Cancel-clause-text c =
    row_is (take c.args.at c.args.room.now) (take c.put_one-in-Cancel.result c.put_one-in-Cancel.new.room) _ c.args.row.now (row.Cancel c.in-Cancel.request) c.in-Cancel.is refl c.put_one-in-Cancel.ensures.text
