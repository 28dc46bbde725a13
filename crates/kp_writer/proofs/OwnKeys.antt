-- Ports under their own keys: their order, and their blocks.
use Rattle.std.proofs.Common.{◌≡◌, Bool, true, false, cond, List, [], ◌∷◌, map, Some, option_map}
use Rattle.std.proofs.Common.{refl, sym, ap, ◌∙◌}
use Rattle.std.specs.List.{AllByRecursion}
use Rattle.std.specs.Ordering.{eq_by_cmp}
use Rattle.std.specs.FinMap.{entries, entries_sorted, find, get, get-entries, get-from_entries}
use Rattle.std.specs.FinMap.{is_sorted, same_map, values}
use Rattle.kp_lemmas.proofs.Booleans.{true_from_fact}
use Rattle.kp_lemmas.proofs.Entries.{entries_found}
use Rattle.kp_lemmas.proofs.ListFacts.{all_weaker}
use Rattle.kp_base.specs.Keys.{port_key_cmp}
use Rattle.kp_base.specs.declared.key.PortKey.{PortKey}
use Rattle.kp_base.proofs.KeyOrder.{port_key_total, port_key_exact}
use Rattle.kp_types.specs.Setting.{Setting}
use Rattle.kp_object_defs.specs.PortInfo.{PortInfo}
use Rattle.kp_blocks.specs.Joined.{BlocksByPort, blocks_by_port, port_block}
use Rattle.kp_table_laws.specs.Laws.{AreInOrder}
use Rattle.kp_writer.specs.Written.{AreBlocksOf, AreUnderOwnKeys, Ports}

-- entries whose values stand under their own keys
abbrev OwnEntries : List (PortKey × PortInfo) → Type 0
OwnEntries es = AllByRecursion (λ e. e.1.key ≡ e.0) es

own_entries : (m : Ports) → AreUnderOwnKeys m → OwnEntries (entries m)
own_entries m own =
    all_weaker (λ e. get m e.0 ≡ Some e.1) (λ e. e.1.key ≡ e.0) (λ e found. own e.0 e.1 found)
    (entries m) (entries_found port_key_total m)

by_own_keys : (es : List (PortKey × PortInfo)) → OwnEntries es
    → map (λ i. (i.key, i)) (map (λ e. e.1) es) ≡ es
by_own_keys [] h = refl
by_own_keys (e ∷ es) h = λ i. (h.0 i, e.1) ∷ by_own_keys es h.1 i

-- ports under their own keys are in order
pub in_order : (m : Ports) → AreUnderOwnKeys m → AreInOrder (values m)
in_order m own =
    ap (is_sorted port_key_cmp) (by_own_keys (entries m) (own_entries m own))
    ∙ true_from_fact _ (entries_sorted m)

block_found : (s : Setting) (k : PortKey) (es : List (PortKey × PortInfo)) → OwnEntries es
    → find port_key_cmp k (map (λ i. (i.key, port_block s i)) (map (λ e. e.1) es))
    ≡ option_map (port_block s) (find port_key_cmp k es)
block_found s k [] h = refl
block_found s k (e ∷ es) h =
    (λ i. cond (eq_by_cmp port_key_cmp k (h.0 i)) (Some (port_block s e.1))
    (block_found s k es h.1 i))
    ∙ either (eq_by_cmp port_key_cmp k e.0)
  where
    either : (b : Bool) → cond b (Some (port_block s e.1)) (option_map (port_block s) (find
        port_key_cmp k es)) ≡ option_map (port_block s) (cond b (Some e.1) (find port_key_cmp k es))
    either true = refl
    either false = refl

-- the blocks of ports are those of their list
pub blocks_of_all : (s : Setting) (m : Ports) (blocks : BlocksByPort) → AreUnderOwnKeys m
    → AreBlocksOf s m blocks → blocks ≡ blocks_by_port s (values m)
blocks_of_all s m blocks own are =
    same_map port_key_total port_key_exact blocks (blocks_by_port s (values m)) (λ k.
    are k
    ∙ ap (option_map (port_block s)) (get-entries m k)
    ∙ sym (block_found s k (entries m) (own_entries m own))
    ∙ sym (get-from_entries port_key_total (map (λ i. (i.key, port_block s i)) (values m)) k))
