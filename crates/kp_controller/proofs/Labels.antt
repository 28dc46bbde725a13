-- The Service that a slice's label names.
use Rattle.std.proofs.Common.{◌≡◌, ◌&&◌, false, Some, None, bytes_eq, refl, sym, ap, ◌∙◌}
use Rattle.std.specs.Cmp.{eq_by_cmp_equiv}
use Rattle.std.proofs.lemmas.Bool.{and_right}
use Rattle.kp_base.specs.declared.key.ObjectKey.{ObjectKey}
use Rattle.kp_base.proofs.KeyOrder.{key_ties, key_total}
use Rattle.kp_types.specs.declared.slice.Slice.{Slice}
use Rattle.kp_object_defs.specs.Entries.{is_named, is_of_service}
use Rattle.kp_touch_defs.specs.Touches.{is_key}

-- a label names the one Service of its name in the slice's namespace
pub named_one : (s : Slice) (key : ObjectKey) → key.namespace ≡ s.key.namespace
    → s.service ≡ Some key.name → (k : ObjectKey) → is_key key k ≡ is_of_service k s
named_one s key there is k =
    (eq_by_cmp_equiv key_total).symm k key
    ∙ sym (key_ties key k)
    ∙ (λ i. bytes_eq (there i) k.namespace && is_named k.name (sym is i))

-- without a label there is none
pub none_named : (s : Slice) → s.service ≡ None → (k : ObjectKey) → is_of_service k s ≡ false
none_named s is k =
    ap (λ label. bytes_eq s.key.namespace k.namespace && is_named k.name label) is
    ∙ and_right (bytes_eq s.key.namespace k.namespace) false refl
