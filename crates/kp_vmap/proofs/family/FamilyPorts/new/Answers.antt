use Rattle.std.proofs.Common.{ap}
use Rattle.std.specs.FinMap.{from_entries}
use Rattle.kp_base.specs.Keys.{port_key_cmp}
use Rattle.kp_vmap.proofs.NoObjects.{none_placed}
use Rattle.kp_vmap.proofs.family.FamilyPorts.new.Goals as goal

pub returns-clause-ports : goal.returns-clause-ports
returns-clause-ports c = ap (from_entries {R = port_key_cmp}) c.new.ensures.empty

pub returns-clause-places : goal.returns-clause-places
returns-clause-places c =
    none_placed (record { ports = c.new.result; places = c.new-2.result }) c.new.ensures.empty
    c.new-2.ensures.empty
