-- The fixed chains of the full table, the shared ones among them, are joined from all ports'
-- blocks.
use Rattle.std.proofs.Common.{◌≡◌, ◌&&◌, Bool, true, false, cond, List, [], ◌∷◌, ◌++◌, map}
use Rattle.std.proofs.Common.{flat_map, Option, Some, is_some, refl, sym, ap, ◌∙◌}
use Rattle.std.proofs.Common.{append-nil, filter}
use Rattle.std.specs.Ordering.{eq_by_cmp, is_lt}
use Rattle.std.specs.FinMap.{entries, entries_sorted, find, from_entries, get, get-entries}
use Rattle.std.specs.FinMap.{get-from_entries, is_sorted, values}
use Rattle.std.specs.FinMap.Entries.{below_all, same_entries}
use Rattle.std.proofs.lemmas.Simd.{map-map}
use Rattle.kp_lemmas.proofs.Booleans.{fact_from_true}
use Rattle.kp_lemmas.proofs.Orders.{one_from_tie}
use Rattle.kp_base.specs.Keys.{port_key_cmp}
use Rattle.kp_base.proofs.KeyOrder.{port_key_total, port_key_exact}
use Rattle.kp_base.specs.declared.address.Family.{Family}
use Rattle.kp_base.specs.declared.key.PortKey.{PortKey}
use Rattle.kp_base.specs.declared.address.Family.TheVariants.{V4, V6}
use Rattle.kp_types.specs.Places.{chain_cmp}
use Rattle.kp_types.specs.Rules.{rule_of}
use Rattle.kp_types.specs.Setting.{Setting}
use Rattle.kp_types.specs.declared.rule.Target.TheVariants as target
use Rattle.kp_types.specs.contracts.chain.ChainAtPartialEq.TheImpl as same
use Rattle.kp_types.specs.declared.chain.ChainAt.{ChainAt}
use Rattle.kp_types.specs.declared.rule.Rule.{Rule}
use Rattle.kp_types.specs.declared.rule.ChainText.{ChainText}
use Rattle.kp_types.proofs.ChainOrder.{chain_total, chain_exact}
use Rattle.kp_object_defs.specs.PortInfo.{PortInfo}
use Rattle.kp_table_defs.specs.Layout as layout
use Rattle.kp_table_laws.specs.Laws.{AreInOrder}
use Rattle.kp_chains.specs.Tables.{fixed_rows}
use Rattle.kp_blocks.specs.Joined.{JoinedChainsAreTheTables, block_rules, blocks_by_port}
use Rattle.kp_blocks.specs.Joined.{fixed_chains, has_rules, port_block, port_texts, rules_at}
use Rattle.kp_blocks.specs.Joined.{rules_if_found, with_rules}

abbrev Row : Type 0
Row = ChainAt × List Rule

abbrev Rows : Type 0
Rows = List Row

-- ---- A look-up among fixed rows and among those with the rules of ports

module _ (at : ChainAt) (mine : List Rule) where
  -- a row has a fixed row's place, and the rules of ports among the fixed ones, if it is at `at`
  abbrev RowFits : Row → Row → Type 0
  RowFits f w = (w.0 ≡ f.0) × (at ≡ f.0 → w.1 ≡ with_rules f.1 mine)

  -- so do the first of some rows
  abbrev Fit : Rows → Rows → Type 0
  Fit [] ws = Unit {0}
  Fit (f ∷ fs) [] = ⊥
  Fit (f ∷ fs) (w ∷ ws) = RowFits f w × Fit fs ws

  -- what a look-up finds in the rows, by what it finds in the fixed ones
  abbrev Found : Option (List Rule) → Option (List Rule) → Type 0
  Found fixed whole =
      is_some fixed ≡ true → whole ≡ Some (with_rules (rules_if_found fixed) mine)

  found_by : (f w : Row) (fs ws : List Row) → RowFits f w
      → Found (find chain_cmp at fs) (find chain_cmp at ws) → (b : Bool)
      → eq_by_cmp chain_cmp at f.0 ≡ b
      → Found (cond b (Some f.1) (find chain_cmp at fs)) (find chain_cmp at (w ∷ ws))
  found_by f w fs ws fits later true is h =
      ap (λ t. cond t (Some w.1) (find chain_cmp at ws)) (ap (eq_by_cmp chain_cmp at) fits.0 ∙ is)
      ∙ ap (λ rs. Some rs) (fits.1 (one_from_tie chain_exact at f.0 is))
  found_by f w fs ws fits later false is h =
      ap (λ t. cond t (Some w.1) (find chain_cmp at ws)) (ap (eq_by_cmp chain_cmp at) fits.0 ∙ is)
      ∙ later h

  found : (fs ws : List Row) → Fit fs ws → Found (find chain_cmp at fs) (find chain_cmp at ws)
  found [] ws fit h = absurd (cc)
  found (f ∷ fs) [] fit h = absurd fit
  found (f ∷ fs) (w ∷ ws) fit h =
      found_by f w fs ws fit.0 (found fs ws fit.1) (eq_by_cmp chain_cmp at f.0) refl h

-- ---- The rules of ports in a chain

-- a chain without rules adds none
one_alone : (at : ChainAt) (a : ChainAt) (rules : List Rule) (cs : List ChainText)
    → block_rules at (cond (has_rules (record { at = a; rules = rules }))
    (record { at = a; rules = rules } ∷ cs) cs)
    ≡ rules_at at (record { at = a; rules = rules }) ++ block_rules at cs
one_alone at a (r ∷ rs) cs = refl
one_alone at a [] cs =
    ap (λ rs. rs ++ block_rules at cs) (either_way [] (same.ghosts.eq a at))
  where
    either_way : (rs : List Rule) (b : Bool) → rs ≡ cond b rs rs
    either_way rs true = refl
    either_way rs false = refl

-- so a block has the same rules without such chains
pub with_rules_alone : (at : ChainAt) (cs : List ChainText)
    → block_rules at (filter has_rules cs) ≡ block_rules at cs
with_rules_alone at [] = refl
with_rules_alone at (c ∷ cs) =
    one_alone at c.at c.rules (filter has_rules cs)
    ∙ ap (λ rs. rules_at at c ++ rs) (with_rules_alone at cs)

module _ (setting : Setting) (infos : List PortInfo) where
  abbrev blocks : List (List ChainText)
  blocks = map (port_block setting) infos

  -- those in order of the ports
  rules_of : (at : ChainAt) (g : PortInfo → List Rule)
      → ((i : PortInfo) → block_rules at (port_texts setting i) ≡ g i ++ [])
      → (is : List PortInfo)
      → flat_map (block_rules at) (map (port_block setting) is) ≡ flat_map g is
  rules_of at g each [] = refl
  rules_of at g each (i ∷ is) =
      λ k. (with_rules_alone at (port_texts setting i) ∙ each i ∙ append-nil (g i)) k
      ++ rules_of at g each is k

  -- a port without rules
  abbrev nothing : PortInfo → List Rule
  nothing i = []

  no_rules : (is : List PortInfo) → flat_map nothing is ≡ []
  no_rules [] = refl
  no_rules (i ∷ is) = no_rules is

  module _ (at : ChainAt) where
    -- the rules of ports at `at`
    abbrev mine : List Rule
    mine = flat_map (block_rules at) blocks

    -- a row without rules of ports
    plain : (r : Row) → ((i : PortInfo) → block_rules r.0 (port_texts setting i) ≡ [])
        → with_rules r.1 [] ≡ r.1 → RowFits at mine r r
    plain r none whole = (
      refl,
      λ is.
          sym (ap (with_rules r.1)
          (ap (λ q. flat_map (block_rules q) blocks) is
          ∙ rules_of r.0 nothing none infos ∙ no_rules infos) ∙ whole),
    )

    -- a row with rules of ports
    shared : (place : ChainAt) (fixed rules : List Rule) (g : PortInfo → List Rule)
        → ((i : PortInfo) → block_rules place (port_texts setting i) ≡ g i ++ [])
        → with_rules fixed (flat_map g infos) ≡ rules
        → RowFits at mine (place, fixed) (place, rules)
    shared place fixed rules g each whole = (
      refl,
      λ is.
          sym (ap (with_rules fixed)
          (ap (λ q. flat_map (block_rules q) blocks) is ∙ rules_of place g each infos) ∙ whole),
    )

-- ---- The rows of the table

abbrev rows_in : Setting → List PortInfo → List Row
rows_in setting infos =
    layout.nat_rows setting infos
    ++ layout.filter_rows setting.family infos
    ++ flat_map (layout.port_rows setting) infos

module _ (setting : Setting) (infos : List PortInfo) (at : ChainAt) where
  -- the setting with a family
  abbrev s : Family → Setting
  s family = record setting { family = family }

  -- the fixed rows of a family
  abbrev fixed : Family → List Row
  fixed family = fixed_rows family

  -- the last rule of KUBE-SERVICES in nat
  abbrev jump : Family → Rule
  jump family = rule_of (layout.own_addresses family) (target.Jump layout.kube_node_ports)

  all_fit : (family : Family)
      → Fit at (mine (s family) infos at) (fixed family) (rows_in (s family) infos)
  all_fit V4 = (
    plain (s V4) infos at _ (λ i. refl) refl,
    (
      plain (s V4) infos at _ (λ i. refl) refl,
      (
        plain (s V4) infos at _ (λ i. refl) refl,
        (
          plain (s V4) infos at _ (λ i. refl) refl,
          (
            plain (s V4) infos at _ (λ i. refl) refl,
            (
              plain (s V4) infos at _ (λ i. refl) refl,
              (
                shared (s V4) infos at _ [] _ (layout.node_port_block (s V4)) (λ i. refl) (append-nil _),
                (
                  shared (s V4) infos at _ (jump V4 ∷ []) _ (layout.service_block (s V4)) (λ i. refl) refl,
                  (
                    plain (s V4) infos at _ (λ i. refl) refl,
                    (
                      plain (s V4) infos at _ (λ i. refl) refl,
                      (
                        plain (s V4) infos at _ (λ i. refl) refl,
                        (
                          plain (s V4) infos at _ (λ i. refl) refl,
                          (
                            shared (s V4) infos at _ [] _ (layout.firewall_block) (λ i. refl) (append-nil _),
                            (
                              shared (s V4) infos at _ [] _ (layout.external_block V4) (λ i. refl) (append-nil _),
                              (
                                shared (s V4) infos at _ [] _ (layout.refusal_block) (λ i. refl) (append-nil _),
                                tt,
                              ),
                            ),
                          ),
                        ),
                      ),
                    ),
                  ),
                ),
              ),
            ),
          ),
        ),
      ),
    ),
  )
  all_fit V6 = (
    plain (s V6) infos at _ (λ i. refl) refl,
    (
      plain (s V6) infos at _ (λ i. refl) refl,
      (
        plain (s V6) infos at _ (λ i. refl) refl,
        (
          plain (s V6) infos at _ (λ i. refl) refl,
          (
            plain (s V6) infos at _ (λ i. refl) refl,
            (
              plain (s V6) infos at _ (λ i. refl) refl,
              (
                shared (s V6) infos at _ [] _ (layout.node_port_block (s V6)) (λ i. refl) (append-nil _),
                (
                  shared (s V6) infos at _ (jump V6 ∷ []) _ (layout.service_block (s V6)) (λ i. refl) refl,
                  (
                    plain (s V6) infos at _ (λ i. refl) refl,
                    (
                      plain (s V6) infos at _ (λ i. refl) refl,
                      (
                        plain (s V6) infos at _ (λ i. refl) refl,
                        (
                          plain (s V6) infos at _ (λ i. refl) refl,
                          (
                            shared (s V6) infos at _ [] _ (layout.firewall_block) (λ i. refl) (append-nil _),
                            (
                              shared (s V6) infos at _ [] _ (layout.external_block V6) (λ i. refl) (append-nil _),
                              (
                                shared (s V6) infos at _ [] _ (layout.refusal_block) (λ i. refl) (append-nil _),
                                tt,
                              ),
                            ),
                          ),
                        ),
                      ),
                    ),
                  ),
                ),
              ),
            ),
          ),
        ),
      ),
    ),
  )

-- ---- Blocks in order of ports

module _ (setting : Setting) where
  -- the blocks of ports, as entries
  abbrev block_entries : List PortInfo → List (PortKey × List ChainText)
  block_entries infos = map (λ i. (i.key, port_block setting i)) infos

  below_blocks : (k : PortKey) (infos : List PortInfo)
      → below_all port_key_cmp k (map (λ i. (i.key, i)) infos)
      ≡ below_all port_key_cmp k (block_entries infos)
  below_blocks k [] = refl
  below_blocks k (i ∷ is) = ap (λ b. is_lt (port_key_cmp k i.key) && b) (below_blocks k is)

  sorted_blocks : (infos : List PortInfo)
      → is_sorted port_key_cmp (map (λ i. (i.key, i)) infos)
      ≡ is_sorted port_key_cmp (block_entries infos)
  sorted_blocks [] = refl
  sorted_blocks (i ∷ is) = λ k. below_blocks i.key is k && sorted_blocks is k

  -- entries in order are those of their map
  pub blocks_in_order : (infos : List PortInfo) → AreInOrder infos
      → values (blocks_by_port setting infos) ≡ map (port_block setting) infos
  blocks_in_order infos ordered =
      let es = block_entries infos in
      let rise = fact_from_true (sym (sorted_blocks infos) ∙ ordered) in
      ap (map (λ e. e.1)) (same_entries port_key_cmp port_key_total port_key_exact (entries
      (from_entries {R = port_key_cmp} es)) es
      (entries_sorted (from_entries {R = port_key_cmp} es)) rise
      (λ q. sym (get-entries (from_entries {R = port_key_cmp} es) q)
      ∙ get-from_entries port_key_total es q))
      ∙ map-map (λ e. e.1) (λ i. (i.key, port_block setting i)) infos

pub joined_chains_are_the_tables : JoinedChainsAreTheTables
joined_chains_are_the_tables setting infos at ordered is =
    let looked = get-from_entries chain_total (fixed setting infos at setting.family) at in
    get-from_entries chain_total (rows_in setting infos) at
    ∙ found at (mine setting infos at) (fixed setting infos at setting.family)
    (rows_in setting infos)
    (all_fit setting infos at setting.family) (ap is_some (sym looked) ∙ is)
    ∙ ap (λ o. Some (with_rules (rules_if_found o) (mine setting infos at))) (sym looked)
    ∙ ap (λ bs. Some (with_rules (rules_if_found (get (fixed_chains setting.family) at)) (flat_map
    (block_rules at) bs))) (sym (blocks_in_order setting infos ordered))
