-- Which events leave the objects as they are: an apply of an object that is stored as it is, and a
-- delete of one that isn't there.
use Rattle.std.specs.Prelude.{◌≡◌, Bool, false, Some}
use Rattle.std.specs.FinMap as finite
use Rattle.kp_base.specs.declared.key.ObjectKey.{ObjectKey}
use Rattle.kp_types.specs.declared.event.Kind.{Kind}
use Rattle.kp_types.specs.declared.event.Kind.TheVariants as kind
use Rattle.kp_types.specs.declared.event.Event.{Event}
use Rattle.kp_types.specs.declared.event.Event.TheVariants.{Apply, Delete}
use Rattle.kp_types.specs.declared.event.Object.{Object}
use Rattle.kp_types.specs.declared.event.Object.TheVariants as object
use Rattle.kp_object_defs.specs.Objects.{Objects, node_key}

-- an object is stored as it is
abbrev pub IsStored : Objects → Object → Type 0
IsStored o (object.Service s) = finite.get o.services s.key ≡ Some s
IsStored o (object.EndpointSlice s) = finite.get o.slices s.key ≡ Some s
IsStored o (object.Pod p) = finite.get o.pods p.key ≡ Some p
IsStored o (object.Node n) = finite.get o.nodes (node_key n.name) ≡ Some n

-- there is an object of this kind and key
abbrev pub is_there : Objects → Kind → ObjectKey → Bool
is_there o kind.Service key = finite.contains_key o.services key
is_there o kind.EndpointSlice key = finite.contains_key o.slices key
is_there o kind.Pod key = finite.contains_key o.pods key
is_there o kind.Node key = finite.contains_key o.nodes key

-- an event deletes what isn't there
abbrev pub DeletesNothing : Objects → Event → Type 0
DeletesNothing o (Apply object) = ⊥
DeletesNothing o (Delete kind key) = is_there o kind key ≡ false
