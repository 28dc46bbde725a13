-- Services that the objects have.
use Rattle.std.proofs.Common.{Bool, filter}
use Rattle.std.specs.FinMap as finite
use Rattle.kp_lemmas.proofs.Members.{from_filter}
use Rattle.kp_types.specs.declared.service.Service.{Service}
use Rattle.kp_object_defs.specs.Objects.{Objects}
use Rattle.kp_object_defs.specs.OwnKeys.{AreUnderOwnKeys}
use Rattle.kp_object_laws.proofs.PortByKey.{all_stored}
use Rattle.kp_known_ports.specs.Known.{AreStored}

-- those of them that pass a test are stored
pub some_stored : (o : Objects) → AreUnderOwnKeys o → (test : Service → Bool) → AreStored o (filter test (finite.values o.services))
some_stored o own test s c = all_stored o own s (from_filter test s (finite.values o.services) c).0
