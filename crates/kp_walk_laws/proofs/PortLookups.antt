-- What a look-up in the full table finds of ports: the rules of each chain that they need.
use Rattle.std.proofs.Common.{◌≡◌, ℕ, Bool, true, false, not, List, ◌++◌, Contains, Some, None, flat_map, bytes_eq, refl, sym, ap, ◌∙◌}
use Rattle.std.specs.FinMap.{get-from_entries}
use Rattle.std.specs.List.{list_any}
use Rattle.std.proofs.lemmas.List.Elements.{Contains-append_left, Contains-append_right}
use Rattle.std.proofs.lemmas.Map.Views.{Contains-from_any}
use Rattle.kp_lemmas.proofs.Members.{in_filter}
use Rattle.kp_base.specs.declared.key.Endpoint.{Endpoint}
use Rattle.kp_types.specs.Setting.{Setting}
use Rattle.kp_types.proofs.ChainOrder.{chain_total}
use Rattle.kp_types.specs.declared.chain.TableName.TheVariants.{Nat}
use Rattle.kp_types.specs.declared.chain.ChainKey.{ChainKey}
use Rattle.kp_types.specs.declared.chain.ChainKey.TheVariants as key
use Rattle.kp_types.specs.declared.chain.PortChain.TheVariants.{Svc, Svl, Ext, Fw}
use Rattle.kp_types.specs.declared.service.Policy.{Policy}
use Rattle.kp_types.specs.declared.service.Policy.TheVariants.{Cluster, Local}
use Rattle.kp_choice_defs.specs.Names.{first_clash, same_endpoint}
use Rattle.kp_choice_defs.proofs.ChainKeys.{one_endpoint}
use Rattle.kp_object_defs.specs.Lists.{list_by_policy}
use Rattle.kp_object_defs.specs.PortInfo.{PortInfo}
use Rattle.kp_table_defs.specs.Keys.{all_endpoints, has_endpoint, own_keys}
use Rattle.kp_table_defs.specs.Layout.{filter_rows, nat_rows, place_of_key, port_rows, rows_of, rules_of_key}
use Rattle.kp_table_defs.specs.Rebuild.{needed_keys}
use Rattle.kp_table_laws.specs.Laws.{HaveOwnKeys}
use Rattle.kp_table_laws.proofs.KeyRows.{own_chains_are_found}
use Rattle.kp_table_laws.proofs.NeededKeys.{own_kind, own_endpoint}
use Rattle.kp_walk_laws.specs.Laws.{IsPrefixed}
use Rattle.kp_walk_laws.proofs.Arrivals.{FindsChains}
use Rattle.kp_walk_laws.proofs.Lookups.{look_up, pass_over}

local_by : (i : PortInfo) (f : Endpoint) → Contains i.lists.local f → (b : Bool)
    → has_endpoint i.lists.cluster f ≡ b → Contains (all_endpoints i) f
local_by i f c true h =
    Contains-append_left _ _ f (Contains-from_any {eq = λ a b. same_endpoint b a}
    (λ a b same. sym (one_endpoint b a same)) f _ h)
local_by i f c false h =
    Contains-append_right _ _ f
    (in_filter (λ e. not (has_endpoint i.lists.cluster e)) f _ c (ap not h))

-- the endpoints of either list
pub in_either : (i : PortInfo) (p : Policy) (f : Endpoint) → Contains (list_by_policy p i.lists) f
    → Contains (all_endpoints i) f
in_either i Cluster f c = Contains-append_left _ _ f c
in_either i Local f c = local_by i f c _ refl

module _ (setting : Setting) (infos : List PortInfo) (prefixed : IsPrefixed setting.name_of) where
  -- a fixed chain has this name
  abbrev is_fixed : List ℕ → Bool
  is_fixed name =
      list_any (λ r. bytes_eq name r.0.chain)
      (nat_rows setting infos ++ filter_rows setting.family infos)

  -- no port's or endpoint's chain has the name of one
  unfixed : (k : ChainKey) → is_fixed (setting.name_of k) ≡ false
  unfixed (key.Port Svc port) = ap is_fixed (prefixed.port Svc port).1
  unfixed (key.Port Svl port) = ap is_fixed (prefixed.port Svl port).1
  unfixed (key.Port Ext port) = ap is_fixed (prefixed.port Ext port).1
  unfixed (key.Port Fw port) = ap is_fixed (prefixed.port Fw port).1
  unfixed (key.Sep port e) = ap is_fixed (prefixed.endpoint port e).1

  module _ (own : HaveOwnKeys infos)
      (apart : first_clash setting.name_of (needed_keys infos) ≡ None) where
    -- a look-up passes over the fixed chains, and finds the rules of each chain that a port needs
    finds_key : (i : PortInfo) → Contains infos i → (k : ChainKey) → Contains (own_keys i) k
        → look_up setting infos (record { table = Nat; chain = setting.name_of k })
        ≡ Some (rules_of_key setting i k)
    finds_key i c k ck =
        get-from_entries chain_total (rows_of setting infos) (place_of_key setting k)
        ∙ pass_over (place_of_key setting k)
        (nat_rows setting infos ++ filter_rows setting.family infos)
        (flat_map (port_rows setting) infos) (unfixed k)
        ∙ own_chains_are_found setting infos own apart i c k ck

    -- and so all chains of a port
    pub finds_chains : (i : PortInfo) → Contains infos i
        → FindsChains setting (look_up setting infos) i
    finds_chains i c = record {
      port = λ kind need. finds_key i c _ (own_kind i kind need);
      endpoint = λ f cf. finds_key i c _ (own_endpoint i f cf);
    }
