-- The zone of a node's name, by a sorted map of the nodes.
use Rattle.std.proofs.Common.{◌≡◌, ℕ, cond, List, [], ◌∷◌, map, reverse, Option, Some, None, option_map, option_and_then, refl, sym, ap, ◌∙◌, Bor}
use Rattle.std.specs.declared.cmp.Ordering.{Ordering}
use Rattle.std.specs.Cmp.{eq_by_cmp_equiv}
use Rattle.std.specs.Cmp.Lexicographic.{texts_ties}
use Rattle.std.specs.List as list
use Rattle.std.specs.FinMap.{find}
use Rattle.std.specs.BTreeMap.{is_at}
use Rattle.std.specs.Map.{lookup}
use Rattle.std.specs.Prelude.{bytes_eq}
use Rattle.kp_base.specs.Keys.{text_cmp}
use Rattle.kp_base.proofs.KeyOrder.{text_total}
use Rattle.kp_types.specs.declared.pod.Node.{Node}
use Rattle.kp_object_defs.specs.Order.{by_key}
use Rattle.kp_object_defs.specs.Desired.{zone_among}
use Rattle.kp_object_defs.proofs.InOrder.{find-in_order, shown-lookup, map-reverse}
use Rattle.kp_desired.specs.ByName.{shown, zone_in}

-- a look-up of a name among nodes
find-named : (name : List ℕ) (nodes : List Node) → find text_cmp name (map (λ n. (n.name, n)) nodes) ≡ list.find (λ n. bytes_eq n.name name) nodes
find-named name [] = refl
find-named name (n ∷ nodes) =
    ap (λ b. cond b (Some n) (find text_cmp name (map (λ (m : Node). (m.name, m)) nodes))) ((eq_by_cmp_equiv text_total).symm name n.name ∙ sym (texts_ties n.name name))
    ∙ ap (cond (bytes_eq n.name name) (Some n)) (find-named name nodes)

-- the zone by the map of nodes is the zone among the nodes
pub zone-by_name : (nodes : List Node) (name : List ℕ) → zone_in (by_key text_cmp (λ n. n.name) nodes) name ≡ zone_among nodes name
zone-by_name nodes name =
    ap (option_and_then (λ n. n.zone))
    (find-in_order text_total name (reverse (map (λ (n : Node). (n.name, n)) nodes))
    ∙ ap (find text_cmp name) (sym (map-reverse (λ (n : Node). (n.name, n)) nodes))
    ∙ find-named name (reverse nodes))

-- the zone by what a look-up in a map of references gave
pub zone-found : (entries : List (Bor (List ℕ) × Bor Node)) (name : List ℕ) (compare : Bor (List ℕ) → Ordering) → ((b : Bor (List ℕ)) → compare b ≡ text_cmp name b.now) → (got : Option (Bor Node)) → got ≡ lookup (is_at compare) entries → zone_in (shown entries) name ≡ option_and_then (λ n. n.now.zone) got
zone-found entries name compare same got is =
    ap (option_and_then (λ n. n.zone)) (sym (shown-lookup text_cmp name compare same entries) ∙ ap (option_map (λ v. v.now)) (sym is))
    ∙ in_zone got where
      in_zone : (o : Option (Bor Node)) → option_and_then (λ n. n.zone) (option_map (λ v. v.now) o) ≡ option_and_then (λ n. n.now.zone) o
      in_zone None = refl
      in_zone (Some n) = refl
