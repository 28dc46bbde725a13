-- The keys of a port's own chains, and those that all ports need: the same ones in another order.
use Rattle.std.proofs.Common.{◌≡◌, inl, inr, true, List, map, Contains, flat_map, refl, subst, arith}
use Rattle.std.specs.List.{filter}
use Rattle.std.proofs.lemmas.List.Elements.{Contains-append_left, Contains-append_right, Contains-append_cases}
use Rattle.kp_lemmas.proofs.Members.{in_map, from_map, in_flat_map, from_flat_map, in_filter, from_filter}
use Rattle.kp_base.proofs.KeyOrder.{endpoint_exact, endpoint_total}
use Rattle.kp_base.specs.declared.key.Endpoint.{Endpoint}
use Rattle.kp_base.specs.declared.key.PortKey.{PortKey}
use Rattle.kp_types.specs.declared.chain.ChainKey.{ChainKey}
use Rattle.kp_types.specs.declared.chain.ChainKey.TheVariants as key
use Rattle.kp_types.specs.declared.chain.PortChain.{PortChain}
use Rattle.kp_types.specs.declared.chain.PortChain.TheVariants.{Svc, Svl, Ext, Fw}
use Rattle.kp_object_defs.specs.PortInfo.{PortInfo}
use Rattle.kp_table_defs.specs.Keys.{all_endpoints, chain_kinds, needs, own_keys}
use Rattle.kp_table_defs.specs.Rebuild.{endpoint_keys, is_of_kind, needed_keys}
use Rattle.kp_table_laws.specs.Laws.{NoClashIsOwnNames}
use Rattle.kp_table_laws.proofs.Entries.{in_distinct, from_distinct}
use Rattle.kp_table_laws.proofs.NoClash.{no_clash, one_of_name}

-- ---- The keys of one port

-- there is no other kind
every_kind : (kind : PortChain) → Contains chain_kinds kind
every_kind Svc = (0, omega arith, refl)
every_kind Svl = (1, omega arith, refl)
every_kind Ext = (2, omega arith, refl)
every_kind Fw = (3, omega arith, refl)

-- what holds of the chains that a port needs holds of its keys
pub key_cases : (P : ChainKey → Type 0) (i : PortInfo)
    → ((kind : PortChain) → needs kind i ≡ true → P (key.Port kind i.key))
    → ((e : Endpoint) → Contains (all_endpoints i) e → P (key.Sep i.key e)) → (k : ChainKey)
    → Contains (own_keys i) k → P k
key_cases P i ports endpoints k c =
    elim (Contains-append_cases _ (map (key.Sep i.key) (all_endpoints i)) k c) [
      | inl d ↦ let (kind, passes, is) = from_map (λ kind. key.Port kind i.key) k _ d in
          subst P is (ports kind (from_filter (λ kind. needs kind i) kind chain_kinds passes).1)
      | inr d ↦ let (e, stands, is) = from_map (key.Sep i.key) k (all_endpoints i) d in
          subst P is (endpoints e stands)
    ]

-- the key of each chain that a port needs is its own
pub own_kind : (i : PortInfo) (kind : PortChain) → needs kind i ≡ true
    → Contains (own_keys i) (key.Port kind i.key)
own_kind i kind h = Contains-append_left _ (map (key.Sep i.key) (all_endpoints i)) _
    (in_map (λ kind. key.Port kind i.key) kind _
    (in_filter (λ kind. needs kind i) kind chain_kinds (every_kind kind) h))

-- and so is that of each endpoint
pub own_endpoint : (i : PortInfo) (e : Endpoint) → Contains (all_endpoints i) e
    → Contains (own_keys i) (key.Sep i.key e)
own_endpoint i e c = Contains-append_right _ _ _ (in_map (key.Sep i.key) e (all_endpoints i) c)

-- the port that a chain is for
abbrev pub port_of : ChainKey → PortKey
port_of (key.Port kind port) = port
port_of (key.Sep port e) = port

-- a port's keys are of it
pub key_port : (i : PortInfo) (k : ChainKey) → Contains (own_keys i) k → port_of k ≡ i.key
key_port i k c = key_cases (λ l. port_of l ≡ i.key) i (λ kind h. refl) (λ e h. refl) k c

-- ---- Those of all ports

-- what holds of the chains of all ports holds of their keys
pub keys_cases : (infos : List PortInfo) (P : ChainKey → Type 0)
    → ((i : PortInfo) → Contains infos i → (kind : PortChain) → needs kind i ≡ true
    → P (key.Port kind i.key))
    → ((i : PortInfo) → Contains infos i → (e : Endpoint) → Contains (all_endpoints i) e
    → P (key.Sep i.key e)) → (k : ChainKey) → Contains (flat_map own_keys infos) k → P k
keys_cases infos P ports endpoints k c =
    let (i, ci, in_its) = from_flat_map own_keys k infos c in
    key_cases P i (ports i ci) (endpoints i ci) k in_its

kind_itself : (kind : PortChain) (port : PortKey) → is_of_kind kind (key.Port kind port) ≡ true
kind_itself Svc port = refl
kind_itself Svl port = refl
kind_itself Ext port = refl
kind_itself Fw port = refl

module _ (infos : List PortInfo) where
  -- the keys of all ports
  abbrev all : List ChainKey
  all = flat_map own_keys infos

  -- the key of each port's own chain is needed
  pub own_needed : (k : ChainKey) → Contains all k → Contains (needed_keys infos) k
  own_needed k c =
      keys_cases infos (λ l. Contains all l → Contains (needed_keys infos) l)
      (λ i ci kind h d. Contains-append_left _ (flat_map endpoint_keys infos) _
      (in_flat_map (λ other. filter (is_of_kind other) all) kind _ chain_kinds (every_kind kind)
      (in_filter (is_of_kind kind) _ all d (kind_itself kind i.key))))
      (λ i ci e h d. Contains-append_right _ (flat_map endpoint_keys infos) _
      (in_flat_map endpoint_keys i _ infos ci (in_map (key.Sep i.key) e _
      (in_distinct endpoint_total endpoint_exact (all_endpoints i) e h)))) k c c

  -- and no other one is
  pub needed_own : (k : ChainKey) → Contains (needed_keys infos) k → Contains all k
  needed_own k c =
      elim (Contains-append_cases _ (flat_map endpoint_keys infos) k c) [
        | inl d ↦ let (kind, ck, of_kind) =
            from_flat_map (λ kind. filter (is_of_kind kind) all) k chain_kinds d in
            (from_filter (is_of_kind kind) k all of_kind).0
        | inr d ↦ let (i, ci, in_its) = from_flat_map endpoint_keys k infos d in
            let (e, stands, is) = from_map (key.Sep i.key) k _ in_its in
            subst (Contains all) is (in_flat_map own_keys i (key.Sep i.key e) infos ci
            (own_endpoint i e (from_distinct endpoint_total endpoint_exact _ e stands)))
      ]

pub no_clash_is_own_names : NoClashIsOwnNames
no_clash_is_own_names name_of infos = (
  (λ apart k l ck cl. one_of_name name_of (needed_keys infos) apart k l (own_needed infos k ck)
      (own_needed infos l cl)),
  (λ own. no_clash name_of (needed_keys infos) (λ k l ck cl. own k l (needed_own infos k ck)
      (needed_own infos l cl))),
)
