-- The block of what was written of a port is kept while something else is known.
use Rattle.std.proofs.Common.{◌≡◌, Bool, true, false, true≢false, not, cond, Option, Some, None}
use Rattle.std.proofs.Common.{is_some, option_map, [], ◌∷◌, arith, refl, sym, ap, ◌∙◌}
use Rattle.std.proofs.Math.Bool.{not-not}
use Rattle.std.specs.Option.{option_eq}
use Rattle.std.specs.Ordering.{eq_by_cmp}
use Rattle.std.specs.FinMap.{FinMap, get, get-insert, get-remove, remove}
use Rattle.kp_lemmas.proofs.Equality.{options_exact}
use Rattle.kp_lemmas.proofs.Orders.{one_from_tie, tie_of_itself}
use Rattle.kp_base.specs.Keys.{port_key_cmp}
use Rattle.kp_base.specs.declared.key.PortKey.{PortKey}
use Rattle.kp_base.proofs.KeyOrder.{port_key_total, port_key_exact}
use Rattle.kp_types.specs.Setting.{Setting}
use Rattle.kp_object_defs.specs.PortInfo.{PortInfo}
use Rattle.kp_history_defs.specs.DirtyPorts.{same_info}
use Rattle.kp_history_laws.proofs.DirtyPorts.{infos_exact}
use Rattle.kp_blocks.specs.Joined.{Block, BlocksByPort, port_block}
use Rattle.kp_tracker.specs.Tracked.{with_value}
use Rattle.kp_chains.specs.Blocks.{block_count, blocks_of}
use Rattle.kp_writer.specs.Old.{is_known, unwritten, was_written, with_old, written_block}
use Rattle.kp_writer.specs.Shared.{shared_rule_count}
use Rattle.kp_writer.specs.Written.{AreBlocksOf, AreOldBlocks, IsKept, Ports, WriterParts, is_pending}
use Rattle.kp_writer.specs.Written.{setting_in}
use Rattle.kp_writer.proofs.KnownPorts.{itself}

-- ---- What is known of a port

-- what is known of a port, where it is this
pub known_is : (o : Option PortInfo) (i : PortInfo) → is_known o i ≡ true → o ≡ Some i
known_is o i h = options_exact same_info infos_exact o (Some i) h

-- ---- A value in its place

module _ {X : Type 0} (m : FinMap port_key_cmp X) (port : PortKey) where
  pub got_with : (o : Option X) (k : PortKey) → get (with_value port_key_cmp m port o) k
      ≡ cond (eq_by_cmp port_key_cmp k port) o (get m k)
  got_with None k = get-remove port_key_total m port k
  got_with (Some x) k = get-insert port_key_total m port x k

  value_at : (o : Option X) → get (with_value port_key_cmp m port o) port ≡ o
  value_at o = got_with o port ∙ ap (λ b. cond b o (get m port)) (tie_of_itself port_key_total port)

  pub value_beside : (o : Option X) (k : PortKey) → eq_by_cmp port_key_cmp k port ≡ false
      → get (with_value port_key_cmp m port o) k ≡ get m k
  value_beside o k other = got_with o k ∙ ap (λ b. cond b o (get m k)) other

-- ---- Old blocks

module _ (s : Setting) (written newest : Ports) (bs os : BlocksByPort)
    (are : AreBlocksOf s newest bs) (old : AreOldBlocks s written newest os) where
  -- what is known of a port that isn't pending is what was written
  alike : (k : PortKey) → is_pending written newest k ≡ false → get newest k ≡ get written k
  alike k h =
      sym (options_exact same_info infos_exact (get written k) (get newest k)
      (sym (not-not _) ∙ ap not h))

  -- the block of what was written is at hand
  pub block_written : (k : PortKey)
      → written_block written newest bs os k ≡ option_map (port_block s) (get written k)
  block_written k = by (get written k) refl
    where
      at_hand : (b : Bool) → is_pending written newest k ≡ b
          → cond b (get os k) (get bs k) ≡ option_map (port_block s) (get written k)
      at_hand true is = old k is
      at_hand false is = are k ∙ ap (option_map (port_block s)) (alike k is)

      by : (o : Option PortInfo) → get written k ≡ o
          → cond (is_some o) (cond (is_pending written newest k) (get os k) (get bs k)) None
          ≡ option_map (port_block s) o
      by None is = refl
      by (Some i) is =
          at_hand (is_pending written newest k) refl ∙ ap (option_map (port_block s)) is

  module _ (port : PortKey) where
    aside_at : (a b : Bool)
        → get (cond a (cond b os (with_value port_key_cmp os port (get bs port))) (remove os port))
        port
        ≡ cond a (cond b (get os port) (get bs port)) None
    aside_at true true = refl
    aside_at true false = value_at os port (get bs port)
    aside_at false b = value_at os port None

    aside_beside : (k : PortKey) → eq_by_cmp port_key_cmp k port ≡ false → (a b : Bool)
        → get (cond a (cond b os (with_value port_key_cmp os port (get bs port))) (remove os port)) k
        ≡ get os k
    aside_beside k other true true = refl
    aside_beside k other true false = value_beside os port (get bs port) k other
    aside_beside k other false b = value_beside os port None k other

    -- once that of one port is set aside, something else may be known of it
    module _ (next : Ports)
        (others : (k : PortKey) → eq_by_cmp port_key_cmp k port ≡ false
        → get next k ≡ get newest k) where
      kept_by : (k : PortKey) → is_pending written next k ≡ true → (b : Bool)
          → eq_by_cmp port_key_cmp k port ≡ b
          → get (with_old written newest bs os port) k ≡ option_map (port_block s) (get written k)
      kept_by k h true tie =
          let one = one_from_tie port_key_exact k port tie in
          ap (get (with_old written newest bs os port)) one
          ∙ aside_at (was_written written port) (is_pending written newest port)
          ∙ block_written port ∙ ap (λ q. option_map (port_block s) (get written q)) (sym one)
      kept_by k h false other =
          aside_beside k other (was_written written port) (is_pending written newest port)
          ∙ old k (ap (λ o. not (option_eq same_info (get written k) o)) (sym (others k other)) ∙ h)

      pub old_kept : AreOldBlocks s written next (with_old written newest bs os port)
      old_kept k h = kept_by k h (eq_by_cmp port_key_cmp k port) refl

-- where the same is known of each port as was written, none are asked for
pub none_old : (s : Setting) (m : Ports) (os : BlocksByPort) → AreOldBlocks s m m os
none_old s m os k h = absurd (true≢false (sym h ∙ ap not (itself (get m k))))

-- ---- The block of a port of which the same was written

module _ (v w : WriterParts) (is : v ≡ w) (bs os : BlocksByPort) (kept : IsKept v bs os)
    (i : PortInfo) where
  -- the same by either
  told : is_known (get w.written i.key) i ≡ is_known (get v.written i.key) i
  told = ap (λ u. is_known (get u.written i.key) i) (sym is)

  pub block_known : (found : Option Block) → found ≡ written_block v.written v.newest bs os i.key
      → is_known (get v.written i.key) i ≡ true
      → found
      ≡ cond (is_known (get w.written i.key) i) (Some (port_block (setting_in w) i)) None
  block_known found at h =
      at ∙ block_written (setting_in v) v.written v.newest bs os kept.blocks kept.old i.key
      ∙ ap (option_map (port_block (setting_in v))) (known_is (get v.written i.key) i h)
      ∙ ap (λ u. Some (port_block (setting_in u) i)) is
      ∙ sym (ap (λ b. cond b (Some (port_block (setting_in w) i)) None) (told ∙ h))

  pub block_unknown : is_known (get v.written i.key) i ≡ false
      → None
      ≡ cond (is_known (get w.written i.key) i) (Some (port_block (setting_in w) i)) None
  block_unknown h = sym (ap (λ b. cond b (Some (port_block (setting_in w) i)) None) (told ∙ h))

-- ---- What a block that is made counts

module _ (b : Bool) (block : Block) where
  pub none_at_hand : None ≡ cond b (Some block) None → b ≡ false
  none_at_hand h = by b h
    where
      by : (c : Bool) → None ≡ cond c (Some block) None → c ≡ false
      by true is = absurd (cc)
      by false is = refl

pub made_count : (s : Setting) (written : Ports) (i : PortInfo)
    → is_known (get written i.key) i ≡ false
    → shared_rule_count s (unwritten written (i ∷ [])) ≡ block_count (blocks_of s i)
made_count s written i h =
    let one = ap (λ b. shared_rule_count s (cond (not b) (i ∷ []) [])) h in omega (arith, one)
