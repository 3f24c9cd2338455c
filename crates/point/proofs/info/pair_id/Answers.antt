use Rattle.point.proofs.Maps.{row-room}
use Rattle.point.proofs.info.pair_id.Goals as goal

pub peer_at-requires : goal.peer_at-requires
peer_at-requires c = row-room c.args.map.now c.args.i c.requires
