use Rattle.kn_record.proofs.Losing.{losses_losing, walk_lose, walk_lost}
use Rattle.kn_record.proofs.Walks.{parts_proper, walk_assign, walk_assigned, walk_event, walk_expire, walk_expired, walk_promote, walk_promoted, walk_remove, walk_removed, walk_rows}
use Rattle.kn_record.proofs.append.walk_laws.Goals as goal

pub returns : goal.returns
returns c = record {
  expire = walk_expire;
  expired = walk_expired;
  losses = losses_losing;
  lose = walk_lose;
  lost = walk_lost;
  promote = walk_promote;
  promoted = walk_promoted;
  assign = walk_assign;
  assigned = walk_assigned;
  remove = walk_remove;
  removed = walk_removed;
  rows = walk_rows;
  event = walk_event;
  parts = parts_proper;
}
