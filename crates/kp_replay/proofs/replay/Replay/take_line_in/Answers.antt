use Rattle.std.proofs.Common.{subst, sym}
use Rattle.std.specs.Option.{option_copied}
use Rattle.kp_line_laws.proofs.FirstLines.{may_say}
use Rattle.kp_replay.specs.Steps.{MaySay, standing_of}
use Rattle.kp_replay.proofs.replay.Replay.take_line_in.Goals as goal

pub take_said_in-requires : goal.take_said_in-requires
take_said_in-requires g c =
    let s = standing_of c.args.self.now in
    subst (MaySay s) (sym c.in_ok-said.ensures) (may_say s (option_copied c.args.given) c.requires)
