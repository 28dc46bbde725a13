-- The test of two objects' keys tells one key.
use Rattle.std.proofs.Common.{◌≡◌, true, bytes_eq, refl}
use Rattle.std.proofs.lemmas.Bool.{and_parts, and_from}
use Rattle.std.proofs.lemmas.Slice.Eq.{bytes_eq-Decides}
use Rattle.kp_lemmas.specs.Exact.{IsExact}
use Rattle.kp_base.specs.declared.key.ObjectKey.{ObjectKey}
use Rattle.kp_object_defs.specs.Packing.{same_object}

pub object_exact : IsExact same_object
object_exact a b h =
    let both = and_parts (bytes_eq a.namespace b.namespace) (bytes_eq a.name b.name) h in
    let namespace = (bytes_eq-Decides a.namespace b.namespace).0 both.0 in
    let name = (bytes_eq-Decides a.name b.name).0 both.1 in
    λ i. record { namespace = namespace i; name = name i }

pub object_itself : (key : ObjectKey) → same_object key key ≡ true
object_itself key =
    and_from (bytes_eq key.namespace key.namespace) (bytes_eq key.name key.name)
    ((bytes_eq-Decides key.namespace key.namespace).1 refl)
    ((bytes_eq-Decides key.name key.name).1 refl)
