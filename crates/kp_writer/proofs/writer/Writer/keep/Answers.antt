use Rattle.std.proofs.Common.{refl}
use Rattle.kp_writer.specs.Written.{parts}
use Rattle.kp_writer.proofs.KeptPorts.{kept_as, settled_kept}
use Rattle.kp_writer.proofs.writer.Writer.keep.Goals as goal

pub invariant_of-self : goal.invariant_of-self
invariant_of-self c =
    let w = c.self.inside in
    kept_as (λ i. record {
      family = w.family;
      config = w.config;
      written = c.settle.ensures.published i;
      newest = c.settle.ensures.newest i;
    }) refl refl
    (settled_kept (parts w.family w.config w.ports) w.blocks w.aside c.self.invariant
    c.replace.new.dest)
