use Rattle.std.proofs.Common.{filter, ap, ◌∙◌}
use Rattle.std.proofs.lemmas.Result.{IfOk-weaker}
use Rattle.kp_blocks.specs.Joined.{is_port_of}
use Rattle.kp_writer.specs.Written.{parts}
use Rattle.kp_writer.proofs.SameKeys.{newest_keys}
use Rattle.kp_writer.proofs.writer.Writer.ports_of.Goals as goal

pub returns : goal.returns
returns c =
    let v = parts c.self.inside.family c.self.inside.config c.self.inside.ports in
    IfOk-weaker c.ports_of.result _ _
    (λ ports are. are ∙ ap (filter (is_port_of c.args.service.now)) (newest_keys v c.args.self.now
    c.self.view_is c.self.inside.blocks c.self.inside.aside c.self.invariant))
    c.ports_of.ensures
