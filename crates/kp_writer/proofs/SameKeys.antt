-- The ports that have a block are the newest ones.
use Rattle.std.proofs.Common.{◌≡◌, Option, Some, None, is_some, option_map}
use Rattle.std.proofs.Common.{refl, sym, ap, ◌∙◌}
use Rattle.std.specs.FinMap.{contains_key-keys, get, keys}
use Rattle.kp_base.specs.Keys.{port_key_cmp}
use Rattle.kp_base.proofs.KeyOrder.{port_key_exact, port_key_total}
use Rattle.kp_types.specs.Setting.{Setting}
use Rattle.kp_object_defs.specs.PortInfo.{PortInfo}
use Rattle.kp_blocks.specs.Joined.{BlocksByPort, port_block}
use Rattle.kp_writer.specs.Written.{AreBlocksOf, IsKept, Ports, WriterParts}
use Rattle.kp_writer.specs.Written.{setting_in}
use Rattle.kp_writer.proofs.DirtyLists.{keys_rise}
use Rattle.kp_writer.proofs.OneList.{one_list}

has_block : (s : Setting) (o : Option PortInfo) → is_some (option_map (port_block s) o) ≡ is_some o
has_block s None = refl
has_block s (Some i) = refl

same_keys : (s : Setting) (m : Ports) (blocks : BlocksByPort) → AreBlocksOf s m blocks
    → keys blocks ≡ keys m
same_keys s m blocks are =
    one_list port_key_cmp port_key_total port_key_exact (keys blocks) (keys m)
    (keys_rise port_key_cmp blocks) (keys_rise port_key_cmp m)
    (λ k. sym (contains_key-keys blocks k) ∙ ap is_some (are k) ∙ has_block s (get m k)
    ∙ contains_key-keys m k)

-- as a writer keeps them
pub newest_keys : (v w : WriterParts) → v ≡ w → (blocks old : BlocksByPort)
    → IsKept v blocks old → keys blocks ≡ keys w.newest
newest_keys v w is blocks old kept =
    same_keys (setting_in v) v.newest blocks kept.blocks
    ∙ ap (λ u. keys u.newest) is
