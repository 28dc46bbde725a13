use Rattle.std.specs.Prelude.{string_bytes}
use Rattle.std.specs.Option.{option_copied}
use Rattle.kp_run_defs.specs.ReplayText.{given_line}
use Rattle.kp_text_defs.specs.SaidLines.{said}
use Rattle.kp_mode_defs.specs.Mode.{given_in, replaying}
use Rattle.kp_mode_defs.proofs.Alike.{said_alone}
use Rattle.kp_replay.specs.Steps.{place_of, standing_of}
use Rattle.kp_replay.proofs.ModeLemmas.{alone}
use Rattle.kp_replay.proofs.replay.Replay.take_line.Goals as goal

pub returns : goal.returns
returns c =
    let number = c.args.number in
    let given = option_copied c.args.given in
    let s = standing_of c.args.self.now in
    let at = place_of {S = Unit {0}} c.args.self.now tt in
    alone c.take_line_in.result _ (given_in replaying number given at) (given_line number given s) s
    (standing_of c.take_line_in.new.self) (string_bytes c.args.text.now)
    (string_bytes c.take_line_in.new.text) (said_alone number (said given s.fresh) at)
    (c.take_line_in.ensures tt tt)
