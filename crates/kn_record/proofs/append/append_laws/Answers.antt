use Rattle.kn_record.proofs.Acting.{act_by_record}
use Rattle.kn_record.proofs.Appends.{admission_made, stands_made, stands_nothing, record-push}
use Rattle.kn_record.proofs.Standing.{are_views, made_by_place, stands_act}
use Rattle.kn_record.proofs.append.append_laws.Goals as goal

pub returns : goal.returns
returns c = record {
  admission = admission_made;
  stands = stands_made;
  nothing = stands_nothing;
  append = record-push;
  act = stands_act;
  row = act_by_record;
  views = are_views;
  by_place = made_by_place;
}
