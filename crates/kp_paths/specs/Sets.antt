-- Sets of endpoints.
use Rattle.std.specs.Prelude.{◌≡◌, ⊤, List, Option, Some, None}
use Rattle.std.specs.BTreeSet.{BTreeSet}
use Rattle.kp_base.specs.declared.key.Endpoint.{Endpoint}
use Rattle.kp_chains.specs.Named.{has}
use Rattle.kp_path_defs.specs.Asides.{has_endpoint}

-- a set, where there is one, has what a list has
abbrev pub IsSetOf : Option (BTreeSet Endpoint) → List Endpoint → Type 0
IsSetOf None es = ⊤
IsSetOf (Some set) es = (e : Endpoint) → has set e ≡ has_endpoint es e
