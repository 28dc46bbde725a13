-- The changes between the full tables of the ports as they were written and of the newest, from what
-- stands after at the places that may change.
use Rattle.std.proofs.Common.{◌≡◌, Bool, true, false, List, [], ◌∷◌, ◌++◌, map, flat_map}
use Rattle.std.proofs.Common.{Option, Some, is_some, refl, sym, ap, ◌∙◌}
use Rattle.std.specs.List.{AllByRecursion, list_any}
use Rattle.std.specs.Ordering.{eq_by_cmp}
use Rattle.std.specs.FinMap.{get, values}
use Rattle.std.proofs.lemmas.Map.Views.{Contains-from_any}
use Rattle.kp_lemmas.proofs.Members.{in_map}
use Rattle.kp_lemmas.proofs.Orders.{one_from_tie}
use Rattle.kp_base.specs.Keys.{port_key_cmp}
use Rattle.kp_base.specs.declared.key.PortKey.{PortKey}
use Rattle.kp_base.proofs.KeyOrder.{port_key_exact}
use Rattle.kp_types.specs.declared.chain.ChainAt.{ChainAt}
use Rattle.kp_types.specs.declared.rule.ChainText.{ChainText}
use Rattle.kp_types.specs.declared.rule.Rule.{Rule}
use Rattle.kp_types.specs.Setting.{Setting}
use Rattle.kp_object_defs.specs.PortInfo.{PortInfo}
use Rattle.kp_table_defs.specs.Rebuild.{full_chains}
use Rattle.kp_blocks.specs.Joined.{block_rules, fixed_chains, fixed_rules}
use Rattle.kp_blocks.specs.Joined.{port_block, with_rules}
use Rattle.kp_blocks.proofs.JoinedChains.{blocks_in_order, joined_chains_are_the_tables}
use Rattle.kp_writer.specs.Shared.{Change, touched_by}
use Rattle.kp_writer.specs.Written.{AreUnderOwnKeys, Ports}
use Rattle.kp_writer.proofs.OwnKeys.{in_order}
use Rattle.kp_writer.proofs.SharedPlaces.{shared_flags}
use Rattle.kp_writer.proofs.SharedRules.{rules_if, same_together}
use Rattle.kp_writer.proofs.SyncFixed.{rules_in, same_in}

-- the rules of blocks, port by port
by_port : (s : Setting) (q : ChainAt) (is : List PortInfo)
    → flat_map (block_rules q) (map (port_block s) is)
    ≡ flat_map (λ i. block_rules q (port_block s i)) is
by_port s q [] = refl
by_port s q (i ∷ is) = ap (λ rs. block_rules q (port_block s i) ++ rs) (by_port s q is)

module _ (s : Setting) (before after : Ports) (own : AreUnderOwnKeys before)
    (its : AreUnderOwnKeys after) (changed : PortKey → Bool)
    (alike : (k : PortKey) → changed k ≡ false → get before k ≡ get after k) (keys : List PortKey)
    (each : (k : PortKey) → list_any (eq_by_cmp port_key_cmp k) keys ≡ changed k) where
  -- what is known of a port before and after
  abbrev pub change : PortKey → Change
  change k = (get before k, get after k)

  same_of : (q : ChainAt)
      → AllByRecursion (λ d. q ≡ d.0 → d.1 ≡ false)
      (shared_flags s.family (touched_by s (map change keys)))
      → (k : PortKey) (b : Bool) → changed k ≡ b
      → rules_if (rules_in s q) (get before k) ≡ rules_if (rules_in s q) (get after k)
  same_of q off k false is = ap (rules_if (rules_in s q)) (alike k is)
  same_of q off k true is =
      same_in s (map change keys) (change k)
      (in_map change k keys (Contains-from_any (one_from_tie port_key_exact) k keys (each k ∙ is)))
      q off

  -- the tables agree at a fixed chain that isn't touched
  pub fixed_agree : (q : ChainAt) → is_some (get (fixed_chains s.family) q) ≡ true
      → AllByRecursion (λ d. q ≡ d.0 → d.1 ≡ false)
      (shared_flags s.family (touched_by s (map change keys)))
      → get (full_chains s (values before)) q ≡ get (full_chains s (values after)) q
  fixed_agree q fixed off =
      let joined : (List (List ChainText)) → Option (List Rule) = λ bs.
      Some (with_rules (fixed_rules s.family q) (flat_map (block_rules q) bs)) in
      let rules : List Rule → Option (List Rule) = λ rs.
      Some (with_rules (fixed_rules s.family q) rs) in
      joined_chains_are_the_tables s (values before) q (in_order before own) fixed
      ∙ ap joined (blocks_in_order s (values before) (in_order before own))
      ∙ ap rules (by_port s q (values before)
      ∙ same_together (rules_in s q) before after (λ k. same_of q off k (changed k) refl)
      ∙ sym (by_port s q (values after)))
      ∙ sym (ap joined (blocks_in_order s (values after) (in_order after its)))
      ∙ sym (joined_chains_are_the_tables s (values after) q (in_order after its) fixed)
