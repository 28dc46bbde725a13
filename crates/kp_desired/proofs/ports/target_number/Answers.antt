use Rattle.std.proofs.Common.{ap, sym, ◌∙◌}
use Rattle.kp_desired.specs.Numbers.{named, target_in}
use Rattle.kp_desired.proofs.PortNumbers.{keys_match, found-named}
use Rattle.kp_desired.proofs.ports.target_number.Goals as goal

pub returns-in-Named : goal.returns-in-Named
returns-in-Named c =
    c.copied.ensures ∙ c.get.ensures.value
    ∙ found-named (c.in-Named.name, c.args.proto) _ (keys_match (c.in-Named.name, c.args.proto)) c.args.numbers.now.entries
    ∙ sym (ap (target_in (named c.args.numbers.now.entries) c.args.proto) c.in-Named.is)
