use Rattle.std.proofs.Common.{get_or, ne_eqb}
use Rattle.kp_packet_lines.proofs.Tokens.{whole_text}
use Rattle.kp_packet_lines.proofs.reading.whole_of.Goals as goal

pub returns : goal.returns
returns c =
    let bytes = c.as_bytes-bytes.result.now in
    whole_text c.args.digits.now bytes c.scan.result c.to_u64.result c.as_bytes-bytes.ensures.value
    (ne_eqb (get_or bytes 0 0) 45 c.if-bytes-eq45.false) c.scan.ensures.parts c.to_u64.ensures
