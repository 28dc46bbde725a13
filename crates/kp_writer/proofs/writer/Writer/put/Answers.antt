use Rattle.std.proofs.Common.{Some, unwrap_or, refl, sym, ap, ◌∙◌}
use Rattle.std.specs.FinMap.{insert}
use Rattle.kp_blocks.specs.Joined.{port_block}
use Rattle.kp_writer.specs.Written.{parts, setting_in}
use Rattle.kp_writer.proofs.EitherWay.{either_way}
use Rattle.kp_writer.proofs.KeptPorts.{changed_kept, kept_as, stays_kept}
use Rattle.kp_writer.proofs.writer.Writer.put.Goals as goal

-- where memory is out, none is set aside
pub invariant_of-self : goal.invariant_of-self
invariant_of-self g c = kept_as refl refl c.in_err-set_aside.ensures.err c.self.invariant

pub invariant_of-self-2 : goal.invariant_of-self-2
invariant_of-self-2 g c =
    let w = parts c.self.inside.family c.self.inside.config c.self.inside.ports in
    let is = c.put.ensures in
    let bs = c.self.inside.blocks in
    let info = c.args.info in
    let made = c.in_ok-block.ensures.block
    ∙ ap (λ u. port_block (setting_in u) info) (sym c.self.view_is) in
    either_way c.put.result _ _ _ _ _ is.newest is.blocks is.stays is.blocks_stay
    (λ newest blocks. kept_as (λ i. record {
      family = w.family;
      config = w.config;
      written = is.written i;
      newest = newest i;
    }) (blocks ∙ ap (insert bs info.key) made) c.in_ok-set_aside.ensures.ok
    (changed_kept w bs c.self.inside.aside c.self.invariant info.key (Some info)
    (λ i is. ap (λ o. (unwrap_or o info).key) (sym is))))
    (λ newest blocks. kept_as (λ i. record {
      family = w.family;
      config = w.config;
      written = is.written i;
      newest = newest i;
    }) blocks c.in_ok-set_aside.ensures.ok
    (stays_kept w bs c.self.inside.aside c.self.invariant info.key))
