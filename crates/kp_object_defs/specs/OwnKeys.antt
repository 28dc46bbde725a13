-- What holds of objects after any events: each stands under its own key (Kubernetes API concepts,
-- object names).
use Rattle.std.specs.Prelude.{◌≡◌, Some}
use Rattle.std.specs.FinMap as finite
use Rattle.kp_base.specs.Keys.{key_cmp}
use Rattle.kp_base.specs.declared.key.ObjectKey.{ObjectKey}
use Rattle.kp_types.specs.declared.service.Service.{Service}
use Rattle.kp_types.specs.declared.slice.Slice.{Slice}
use Rattle.kp_types.specs.declared.pod.Pod.{Pod}
use Rattle.kp_types.specs.declared.pod.Node.{Node}
use Rattle.kp_object_defs.specs.Objects.{Objects, node_key}

-- what a map has at a key has this key
abbrev pub IsUnderOwnKeys : {X : Type 0} → (X → ObjectKey) → finite.FinMap key_cmp X → Type 0
IsUnderOwnKeys {X} key_of m = (key : ObjectKey) (x : X) → finite.get m key ≡ Some x → key_of x ≡ key

-- each object stands under its own key
pub record AreUnderOwnKeys (o : Objects) : Type 0 where
  pub services : IsUnderOwnKeys (λ (s : Service). s.key) o.services
  pub slices : IsUnderOwnKeys (λ (s : Slice). s.key) o.slices
  pub pods : IsUnderOwnKeys (λ (p : Pod). p.key) o.pods
  pub nodes : IsUnderOwnKeys (λ (n : Node). node_key n.name) o.nodes
