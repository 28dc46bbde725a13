use Rattle.kp_vmap.proofs.NoObjects.{map_of_none}
use Rattle.kp_vmap.proofs.vmap.Vmap.new.Goals as goal

pub returns : goal.returns
returns c =
    map_of_none c.args.config.now c.in_ok-copy.field-0 c.new.result c.new-2.result
    c.in_ok-copy.ensures c.new.ensures.ports
    c.new-2.ensures.ports
