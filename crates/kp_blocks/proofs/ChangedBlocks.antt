-- A joined chain stays where no changed port's block has other rules there, and blocks made anew
-- are those of the ports after.
use Rattle.std.proofs.Common.{◌≡◌, ◌||◌, Bool, true, false, cond, List, [], ◌∷◌, map, Option}
use Rattle.std.proofs.Common.{Some, None, option_map, refl, sym, ap, ◌∙◌}
use Rattle.std.specs.List.{fold}
use Rattle.std.specs.Ordering.{eq_by_cmp}
use Rattle.std.specs.FinMap.{find, get, get-from_entries, get-insert, get-remove, same_map}
use Rattle.kp_lemmas.proofs.Orders.{one_from_tie}
use Rattle.kp_base.specs.Keys.{port_key_cmp}
use Rattle.kp_base.specs.declared.key.PortKey.{PortKey}
use Rattle.kp_base.proofs.KeyOrder.{port_key_total, port_key_exact}
use Rattle.kp_types.specs.Setting.{Setting}
use Rattle.kp_object_defs.specs.PortInfo.{PortInfo}
use Rattle.kp_writer_laws.specs.LocalLaws.{info_of, is_one_of}
use Rattle.kp_writer_laws.proofs.KeyLists.{same_together}
use Rattle.kp_blocks.specs.BlockLaws.{EnoughByBlocks, JoinedChainsStay, block_at, rules_in}
use Rattle.kp_blocks.specs.BlockLaws.{with_block, with_blocks_of}
use Rattle.kp_blocks.specs.Joined.{Block, BlocksByPort, blocks_by_port, fixed_rules, port_block}
use Rattle.kp_blocks.specs.Joined.{with_rules}

-- ---- Joined chains

pub joined_chains_stay : JoinedChainsStay
joined_chains_stay family before after keys at others changed =
    ap (with_rules (fixed_rules family at)) (same_together port_key_total port_key_exact
    (rules_in at) refl after before (λ key. by key (is_one_of keys key) refl))
  where
    by : (key : PortKey) (b : Bool) → is_one_of keys key ≡ b
        → rules_in at (get after key) ≡ rules_in at (get before key)
    by key true is = changed key is
    by key false is = ap (rules_in at) (others key is)

-- ---- Blocks made anew

module _ (setting : Setting) (key : PortKey) where
  found_block : (infos : List PortInfo)
      → find port_key_cmp key (map (λ i. (i.key, port_block setting i)) infos)
      ≡ block_at setting infos key
  found_block [] = refl
  found_block (i ∷ is) =
      elim (eq_by_cmp port_key_cmp key i.key) as (λ b. cond b (Some (port_block setting i))
      (find port_key_cmp key (map (λ i. (i.key, port_block setting i)) is))
      ≡ option_map (port_block setting) (cond b (Some i) (info_of is key))) [
        | true ↦ refl
        | false ↦ found_block is
      ]

  -- a port's block is found by its name
  block_by_name : (infos : List PortInfo)
      → get (blocks_by_port setting infos) key ≡ block_at setting infos key
  block_by_name infos =
      get-from_entries port_key_total (map (λ i. (i.key, port_block setting i)) infos) key
      ∙ found_block infos

get_with_block : (blocks : BlocksByPort) (key : PortKey) (block : Option Block) (q : PortKey)
    → get (with_block blocks key block) q
    ≡ cond (eq_by_cmp port_key_cmp q key) block (get blocks q)
get_with_block blocks key None q = get-remove port_key_total blocks key q
get_with_block blocks key (Some block) q = get-insert port_key_total blocks key block q

module _ (at : PortKey → Option Block) (q : PortKey) where
  last_block : (k : PortKey) (old : Option Block) (b : Bool) → eq_by_cmp port_key_cmp q k ≡ b
      → (c : Bool) → cond c (at q) (cond b (at k) old) ≡ cond (b || c) (at q) old
  last_block k old true is true = refl
  last_block k old true is false = ap at (sym (one_from_tie port_key_exact q k is))
  last_block k old false is c = refl

  -- a port has the block that was made anew, or the old one
  get_anew : (keys : List PortKey) (blocks : BlocksByPort)
      → get (fold (λ made k. with_block made k (at k)) blocks keys) q
      ≡ cond (is_one_of keys q) (at q) (get blocks q)
  get_anew [] blocks = refl
  get_anew (k ∷ ks) blocks =
      get_anew ks (with_block blocks k (at k))
      ∙ ap (cond (is_one_of ks q) (at q)) (get_with_block blocks k (at k) q)
      ∙ last_block k (get blocks q) (eq_by_cmp port_key_cmp q k) refl (is_one_of ks q)

pub enough_by_blocks : EnoughByBlocks
enough_by_blocks setting before after keys others =
    same_map port_key_total port_key_exact
    (with_blocks_of setting after keys (blocks_by_port setting before))
    (blocks_by_port setting after) (λ q.
    get_anew (block_at setting after) q keys (blocks_by_port setting before)
    ∙ ap (cond (is_one_of keys q) (block_at setting after q)) (block_by_name setting q before)
    ∙ either q (is_one_of keys q) refl ∙ sym (block_by_name setting q after))
  where
    either : (q : PortKey) (b : Bool) → is_one_of keys q ≡ b
        → cond b (block_at setting after q) (block_at setting before q)
        ≡ block_at setting after q
    either q true is = refl
    either q false is = sym (others q is)
