-- Joined chains by the entries that finite maps are made of.
use Rattle.std.proofs.Common.{◌≡◌, List, [], ◌∷◌, map, flat_map, ap, ◌∙◌}
use Rattle.std.specs.FinMap.{entries, entries-insert, find, from_entries, get-from_entries, put}
use Rattle.kp_lemmas.proofs.Entries.{empty_entries}
use Rattle.kp_base.specs.Keys.{port_key_cmp}
use Rattle.kp_base.specs.declared.address.Family.{Family}
use Rattle.kp_base.specs.declared.key.PortKey.{PortKey}
use Rattle.kp_base.proofs.KeyOrder.{port_key_total}
use Rattle.kp_types.specs.Places.{chain_cmp}
use Rattle.kp_types.specs.declared.chain.ChainAt.{ChainAt}
use Rattle.kp_types.proofs.ChainOrder.{chain_total}
use Rattle.kp_chains.specs.Tables.{fixed_rows}
use Rattle.kp_blocks.specs.Joined.{Block, block_rules, joined_rules, rules_if_found, with_rules}

-- entries put in order, from the last
abbrev pub sorted : List (PortKey × Block) → List (PortKey × Block)
sorted [] = []
sorted (e ∷ es) = put port_key_cmp e.0 e.1 (sorted es)

are_sorted : (es : List (PortKey × Block)) → entries (from_entries {R = port_key_cmp} es) ≡ sorted es
are_sorted [] = empty_entries port_key_cmp
are_sorted (e ∷ es) =
    entries-insert port_key_total (from_entries {R = port_key_cmp} es) e.0 e.1
    ∙ ap (put port_key_cmp e.0 e.1) (are_sorted es)

-- a joined chain, computed
pub joined_by : (family : Family) (es : List (PortKey × Block)) (at : ChainAt)
    → joined_rules family (from_entries es) at
    ≡ with_rules (rules_if_found (find chain_cmp at (fixed_rows family)))
    (flat_map (block_rules at) (map (λ e. e.1) (sorted es)))
joined_by family es at = λ i.
    with_rules (rules_if_found (get-from_entries chain_total (fixed_rows family) at i))
    (flat_map (block_rules at) (map (λ e. e.1) (are_sorted es i)))
