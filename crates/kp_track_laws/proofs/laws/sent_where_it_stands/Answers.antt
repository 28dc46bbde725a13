use Rattle.kp_track_laws.proofs.Sent.{udp_sent}
use Rattle.kp_track_laws.proofs.laws.sent_where_it_stands.Goals as goal

pub returns : goal.returns
returns c = udp_sent
