-- What is known of the ports of some objects stands in the order of the ports' names.
use Rattle.std.proofs.Common.{◌≡◌, List, [], ◌∷◌, ◌++◌, map, reverse, Option, Some, None, refl, sym, ap, subst, ◌∙◌, T, ℕ, option_map}
use Rattle.std.specs.declared.cmp.Ordering.TheVariants.{Less, Equal, Greater}
use Rattle.std.specs.Ordering.{is_lt}
use Rattle.std.specs.List.{filter_map, flat_map, cons_option, AllByRecursion}
use Rattle.std.proofs.lemmas.List.{map-append, reverse-append}
use Rattle.std.specs.FinMap as finite
use Rattle.std.specs.FinMap.{is_sorted, put}
use Rattle.std.specs.FinMap.Entries.{below_all, by_order, is_sorted-put}
use Rattle.kp_lemmas.proofs.Booleans.{true_from_fact, both_facts, fact_of_both}
use Rattle.kp_base.specs.Keys.{port_key_cmp}
use Rattle.kp_base.specs.declared.address.Family.{Family}
use Rattle.kp_base.specs.declared.key.PortKey.{PortKey}
use Rattle.kp_base.proofs.KeyOrder.{port_key_total, port_key_exact}
use Rattle.kp_types.specs.declared.info.ServiceSources.{ServiceSources}
use Rattle.kp_types.specs.declared.service.ServicePort.{ServicePort}
use Rattle.kp_object_defs.specs.Order.{in_order, by_key, values_of}
use Rattle.kp_object_defs.specs.Objects.{zone_of}
use Rattle.kp_object_defs.specs.Entries.{sources_of, entries_from}
use Rattle.kp_object_defs.specs.PortInfo.{PortInfo, info_of, name_of_port, ports_of, cluster_address_in, port_key_of, info_from}
use Rattle.kp_table_laws.specs.Laws.{PortsAreInOrder}

-- the name of what is known of a port, if anything is
abbrev port_key_or : PortKey → Option PortInfo → PortKey
port_key_or key None = key
port_key_or key (Some i) = i.key

module _ {X : Type 0} (key : X → PortKey) where
  -- each entry stands under its own name
  abbrev UnderOwn : List (PortKey × X) → Type 0
  UnderOwn es = AllByRecursion (λ e. e.0 ≡ key e.1) es

  own_put : (x : X) (es : List (PortKey × X)) → UnderOwn es → UnderOwn (put port_key_cmp (key x) x es)
  own_put x [] h = (refl, tt)
  own_put x (e ∷ es) (own, rest) =
      elim (port_key_cmp (key x) e.0) as (λ o. port_key_cmp (key x) e.0 ≡ o → UnderOwn (by_order o ((key x, x) ∷ e ∷ es) ((e.0, x) ∷ es) (e ∷ put port_key_cmp (key x) x es))) [
        | Less ↦ λ _. (refl, (own, rest))
        | Equal ↦ λ tie. (sym (port_key_exact (key x) e.0 tie), rest)
        | Greater ↦ λ _. (own, own_put x es rest)
      ] refl

  own_in_order : (xs : List X) → UnderOwn (in_order port_key_cmp (map (λ x. (key x, x)) xs))
  own_in_order [] = tt
  own_in_order (x ∷ xs) = own_put x (in_order port_key_cmp (map (λ x. (key x, x)) xs)) (own_in_order xs)

  sorted_in_order : (es : List (PortKey × X)) → T (is_sorted port_key_cmp (in_order port_key_cmp es))
  sorted_in_order [] = tt
  sorted_in_order (e ∷ es) = is_sorted-put port_key_cmp port_key_total e.0 e.1 (in_order port_key_cmp es) (sorted_in_order es)

  -- what is made of some of the values, under the same names, is in order too
  module _ {Y : Type 0} (name : Y → PortKey) (make : X → Option Y) (named : (x : X) (y : Y) → make x ≡ Some y → name y ≡ key x) where
    abbrev made : List (PortKey × X) → List (PortKey × Y)
    made es = map (λ y. (name y, y)) (filter_map make (values_of es))

    below_made : (k : PortKey) (es : List (PortKey × X)) → UnderOwn es → T (below_all port_key_cmp k es) → T (below_all port_key_cmp k (made es))
    below_made k [] own h = tt
    below_made k (e ∷ es) (own, rest) h =
        let tail = below_made k es rest ((both_facts _ _ h).1) in
        elim (make e.1) as (λ o. make e.1 ≡ o → T (below_all port_key_cmp k (map (λ y. (name y, y)) (cons_option o (filter_map make (values_of es)))))) [
          | None ↦ λ _. tail
          | Some y ↦ λ is. fact_of_both _ _ (subst (λ q. T (is_lt (port_key_cmp k q))) (own ∙ sym (named e.1 y is)) ((both_facts _ _ h).0)) tail
        ] refl

    sorted_made : (es : List (PortKey × X)) → UnderOwn es → T (is_sorted port_key_cmp es) → T (is_sorted port_key_cmp (made es))
    sorted_made [] own h = tt
    sorted_made (e ∷ es) (own, rest) h =
        let tail = sorted_made es rest ((both_facts _ _ h).1) in
        elim (make e.1) as (λ o. make e.1 ≡ o → T (is_sorted port_key_cmp (map (λ y. (name y, y)) (cons_option o (filter_map make (values_of es)))))) [
          | None ↦ λ _. tail
          | Some y ↦ λ is. fact_of_both _ _ (subst (λ q. T (below_all port_key_cmp q (made es))) (own ∙ sym (named e.1 y is)) (below_made e.0 es rest ((both_facts _ _ h).0))) tail
        ] refl

-- what is known of a port has its name
has_name : (family : Family) (node : List ℕ) (zone : Option (List ℕ)) (x : ServiceSources × ServicePort) (i : PortInfo) → info_of family node zone x ≡ Some i → i.key ≡ name_of_port x
has_name family node zone (sources, p) i is =
    elim (cluster_address_in family sources.service) as (λ o. option_map (info_from family sources.service p zone (entries_from family node sources (port_key_of sources.service p))) o ≡ Some i → i.key ≡ port_key_of sources.service p) [
      | None ↦ λ none. absurd (cc)
      | Some address ↦ λ some. ap (λ o. port_key_or (port_key_of sources.service p) o) (sym some)
    ] is

-- reversing before or after pairing with names
reversed : {X : Type 0} (key : X → PortKey) (xs : List X) → reverse {A = PortKey × X} (map (λ x. (key x, x)) xs) ≡ map (λ x. (key x, x)) (reverse xs)
reversed key [] = refl
reversed {X} key (x ∷ xs) =
    reverse-append {A = PortKey × X} ((key x, x) ∷ []) (map (λ x. (key x, x)) xs)
    ∙ ap (λ (l : List (PortKey × X)). l ++ (key x, x) ∷ []) (reversed key xs)
    ∙ sym (map-append (λ x. (key x, x)) (reverse xs) (x ∷ []))
    ∙ ap (map (λ x. (key x, x))) (sym (reverse-append (x ∷ []) xs))

pub ports_are_in_order : PortsAreInOrder
ports_are_in_order family config o =
    let xs = flat_map ports_of (map (sources_of family config o) (finite.values o.services)) in
    let es = by_key port_key_cmp name_of_port xs in
    true_from_fact _ (sorted_made name_of_port (λ i. i.key) (info_of family config.node (zone_of o config.node)) (has_name family config.node (zone_of o config.node)) es
    (subst (λ l. UnderOwn name_of_port (in_order port_key_cmp l)) (sym (reversed name_of_port xs)) (own_in_order name_of_port (reverse xs)))
    (sorted_in_order name_of_port (reverse (map (λ x. (name_of_port x, x)) xs))))
