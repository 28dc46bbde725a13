-- A key is a node's exactly where it has the node's name, and no namespace.
use Rattle.std.proofs.Common.{◌≡◌, ℕ, ◌==◌, ◌&&◌, length, Bool, true, false, cond, List, [], ◌∷◌, Some, None, refl, sym, ap, ◌∙◌, arith, bytes_eq}
use Rattle.std.proofs.lemmas.Bool.Decides.{nat_tests}
use Rattle.std.specs.declared.cmp.Ordering.{Ordering}
use Rattle.std.specs.declared.cmp.Ordering.TheVariants.{Less, Equal, Greater}
use Rattle.std.specs.Cmp.Lexicographic.{texts_ties}
use Rattle.std.specs.Ordering.{eq_by_cmp, is_eq, ordering_then}
use Rattle.kp_base.specs.Keys.{key_cmp, text_cmp}
use Rattle.kp_base.specs.declared.key.ObjectKey.{ObjectKey}
use Rattle.kp_object_defs.specs.Objects.{node_key}
use Rattle.kp_store.specs.Named.{is_name, node_name}

tie_then : (o p : Ordering) → is_eq (ordering_then o p) ≡ is_eq o && is_eq p
tie_then Less p = refl
tie_then Equal p = refl
tie_then Greater p = refl

-- a text is the empty one where it has no bytes
no_bytes : (text : List ℕ) → eq_by_cmp text_cmp text [] ≡ (length text == 0)
no_bytes [] = refl
no_bytes (b ∷ bs) = grind (arith, nat_tests)

by_bytes : (none : Bool) (name other : List ℕ)
    → none && eq_by_cmp text_cmp name other ≡ is_name bytes_eq (cond none (Some name) None) other
by_bytes true name other = sym (texts_ties name other)
by_bytes false name other = refl

pub node_ties : (key : ObjectKey) (name : List ℕ)
    → eq_by_cmp key_cmp key (node_key name) ≡ is_name bytes_eq (node_name key) name
node_ties key name =
    tie_then (text_cmp key.namespace []) (text_cmp key.name name)
    ∙ ap (λ none. none && eq_by_cmp text_cmp key.name name) (no_bytes key.namespace)
    ∙ by_bytes (length key.namespace == 0) key.name name
