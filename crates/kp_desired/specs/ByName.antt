-- Nodes in a sorted map by their names.
use Rattle.std.specs.Prelude.{ℕ, List, map, Option, option_and_then}
use Rattle.std.specs.FinMap.{find}
use Rattle.std.specs.Map.Iter.{deref_pair}
use Rattle.std.specs.Borrow.{Bor}
use Rattle.kp_base.specs.Keys.{text_cmp}
use Rattle.kp_types.specs.declared.pod.Node.{Node}

-- the entries of a map of references
abbrev pub shown : {K X : Type 0} → List (Bor K × Bor X) → List (K × X)
shown entries = map deref_pair entries

-- the zone of the node of a name, if it has one
abbrev pub zone_in : List (List ℕ × Node) → List ℕ → Option (List ℕ)
zone_in by_name name = option_and_then (λ n. n.zone) (find text_cmp name by_name)
