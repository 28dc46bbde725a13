use Rattle.std.proofs.Common.{◌≡◌, Ok, ap, subst, sym, ◌∙◌}
use Rattle.std.specs.Prelude.{string_bytes}
use Rattle.kp_run_defs.specs.ReplayText.{op_line}
use Rattle.kp_mode_defs.specs.Mode.{op_in, replaying}
use Rattle.kp_mode_defs.proofs.Alike.{op_alone}
use Rattle.kp_text_defs.specs.declared.said.Said.TheVariants.{Asks}
use Rattle.kp_replay.specs.Groups.{as_read, says_later}
use Rattle.kp_replay.specs.Steps.{Took, place_of, standing_of}
use Rattle.kp_replay.proofs.ModeLemmas.{alone}
use Rattle.kp_replay.proofs.TogetherLemmas.{may_take_later}
use Rattle.kp_replay.proofs.replay.Replay.take_read.Goals as goal

pub take_op_in-requires : goal.take_op_in-requires
take_op_in-requires c =
    let is : c.args.read.said ≡ Ok (Asks c.in-Asks.line) = cc in
    may_take_later (standing_of c.args.self.now) c.in-Asks.line.op (ap says_later (sym is) ∙ c.requires)

pub returns-in-Asks-clause-took : goal.returns-in-Asks-clause-took
returns-in-Asks-clause-took c =
    let is : c.args.read.said ≡ Ok (Asks c.in-Asks.line) = cc in
    let number = c.args.read.number in
    let asked = c.in-Asks.line.op in
    let s = standing_of c.args.self.now in
    let at = place_of {S = Unit {0}} c.args.self.now tt in
    let new = standing_of c.take_op_in.new.self in
    let before = string_bytes c.args.text.now in
    let now = string_bytes c.take_op_in.new.text in
    subst (λ said. Took c.take_op_in.result (as_read number said s) s new before now) (sym is)
    (alone c.take_op_in.result _ (op_in replaying number asked at) (op_line number asked s) s new before now
    (op_alone number asked at) (c.take_op_in.ensures tt tt))
