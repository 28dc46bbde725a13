-- Which chains a port needs: those that its doors from outside lead to, and those behind them.
use Rattle.std.proofs.Common.{◌≡◌, true, not, ◌&&◌, List, [], ◌∷◌, Contains, Option, Some, None, is_some, refl, sym, ap, ◌∙◌}
use Rattle.std.proofs.lemmas.Bool.{and_from, and_parts, or_left, or_right}
use Rattle.kp_lemmas.proofs.Members.{none_in}
use Rattle.kp_base.specs.Net.{AddressParts, RangeParts}
use Rattle.kp_types.specs.declared.chain.PortChain.TheVariants.{Svc, Ext, Fw}
use Rattle.kp_object_defs.specs.Desired.{is_empty}
use Rattle.kp_object_defs.specs.PortInfo.{PortInfo, is_accessible}
use Rattle.kp_table_defs.specs.Keys.{needs}
use Rattle.kp_table_defs.specs.Layout.{balancer_chain}
use Rattle.kp_walk_laws.specs.Laws.{OffersAny}

some_in : {X : Type 0} (x : X) (xs : List X) → Contains xs x → not (is_empty xs) ≡ true
some_in x [] c = absurd (none_in x c)
some_in x (y ∷ xs) c = refl

module _ (i : PortInfo) where
  -- a port with a load-balancer address may be reached from outside
  balanced : not (is_empty i.balancer) ≡ true → is_accessible i ≡ true
  balanced h = or_right _ _ (or_left _ _ h)

  -- what needs a firewall chain needs that of what comes in from outside
  pub needs_external : needs Fw i ≡ true → needs Ext i ≡ true
  needs_external need =
      let parts = and_parts (not (is_empty i.balancer)) i.lists.has_any
      (and_parts (is_some i.ranges) (not (is_empty i.balancer) && i.lists.has_any) need).1 in
      and_from _ _ (balanced parts.0) parts.1

  -- and what needs this needs that of the cluster list
  pub needs_list : OffersAny i → needs Ext i ≡ true → needs Svc i ≡ true
  needs_list any need =
      let parts = and_parts (is_accessible i) i.lists.has_any need in sym (any parts.0) ∙ parts.1

  module _ (any : i.lists.has_any ≡ true) where
    -- an external address leads to the chain of what comes in from outside
    pub external_needs : (a : AddressParts) → Contains i.external a → needs Ext i ≡ true
    external_needs a c = and_from _ _ (or_left _ _ (some_in a i.external c)) any

    -- a load-balancer address to that or to a firewall chain
    pub balancer_needs : (a : AddressParts) → Contains i.balancer a
        → needs (balancer_chain i.ranges) i ≡ true
    balancer_needs a c = by_ranges i.ranges refl
      where
        by_ranges : (ranges : Option (List RangeParts)) → i.ranges ≡ ranges
            → needs (balancer_chain ranges) i ≡ true
        by_ranges None h = and_from _ _ (balanced (some_in a i.balancer c)) any
        by_ranges (Some ranges) h =
            and_from _ _ (ap is_some h) (and_from _ _ (some_in a i.balancer c) any)

    -- and a node port to the former
    pub node_port_needs : is_some i.node_port ≡ true → needs Ext i ≡ true
    node_port_needs h = and_from _ _ (or_right _ _ (or_right _ _ h)) any
