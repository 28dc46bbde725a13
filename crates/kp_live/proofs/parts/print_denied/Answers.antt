use Rattle.std.proofs.Common.{ap}
use Rattle.kp_text_defs.specs.Refusals.{refusal_text}
use Rattle.kp_text_defs.specs.declared.line_refusal.LineRefusal.TheVariants.{ChainClash}
use Rattle.kp_live.proofs.Printing.{prints_as}
use Rattle.kp_live.proofs.parts.print_denied.Goals as goal

-- the copied clash is the clash
pub returns-in-Ok : goal.returns-in-Ok
returns-in-Ok g c =
    prints_as c.print_clash.result (refusal_text c.args.number (ChainClash c.in-Ok.clash))
    (refusal_text c.args.number (ChainClash c.args.clash.now)) _ _
    (ap (λ x. refusal_text c.args.number (ChainClash x)) c.in-Ok.ensures) c.print_clash.ensures
