use Rattle.std.proofs.Common.{refl}
use Rattle.kp_writer.proofs.KeptPorts.{kept_as, nothing_kept}
use Rattle.kp_writer.proofs.writer.Writer.new.Goals as goal

pub invariant_of-result : goal.invariant_of-result
invariant_of-result c =
    kept_as (λ i. record {
      family = c.args.family;
      config = c.in_ok-copy.field-0;
      written = c.new.ensures.published i;
      newest = c.new.ensures.newest i;
    }) c.new-2.ensures refl (nothing_kept c.args.family c.in_ok-copy.field-0 c.new-3.result)
