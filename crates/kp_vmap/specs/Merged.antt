-- Two lists of ports, each in order, as one.
use Rattle.std.specs.Prelude.{List, [], ◌∷◌}
use Rattle.std.specs.FinMap.Entries.{by_order}
use Rattle.kp_base.specs.Keys.{port_key_cmp}
use Rattle.kp_object_defs.specs.PortInfo.{PortInfo}

-- a port among others, before what is behind it: of two with one name this one stays
abbrev pub put_among : PortInfo → (List PortInfo → List PortInfo) → List PortInfo → List PortInfo
put_among i rest [] = i ∷ rest []
put_among i rest (j ∷ js) =
    by_order (port_key_cmp i.key j.key) (i ∷ rest (j ∷ js)) (i ∷ rest js) (j ∷ put_among i rest js)

-- both, in order
abbrev pub merged : List PortInfo → List PortInfo → List PortInfo
merged [] js = js
merged (i ∷ is) js = put_among i (merged is) js
