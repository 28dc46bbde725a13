-- Objects by names that stand for keys.
use Rattle.std.specs.Prelude.{ℕ, ◌==◌, Bool, false, cond, List, length, map, Option, Some, None}
use Rattle.kp_base.specs.declared.key.ObjectKey.{ObjectKey}

-- entries by the keys that their names stand for
abbrev pub keyed : {K X : Type 0} → (K → ObjectKey) → List (K × X) → List (ObjectKey × X)
keyed key_of es = map (λ e. (key_of e.0, e.1)) es

-- a name is this one, if there is one; same is the test of names
abbrev pub is_name : {K : Type 0} → (K → K → Bool) → Option K → K → Bool
is_name same None name = false
is_name same (Some other) name = same other name

-- the name of the node of a key: a key of a namespace is that of no node
abbrev pub node_name : ObjectKey → Option (List ℕ)
node_name k = cond (length k.namespace == 0) (Some k.name) None
