use Rattle.memchr.specs.Find.{is_byte}
use Rattle.kp_io.proofs.FirstFeed.{first_position}
use Rattle.kp_io.proofs.chunk.line_feed_at.Goals as goal

pub returns : goal.returns
returns c = first_position (is_byte 10) c.args.bytes.now c.memchr.result c.memchr.ensures
