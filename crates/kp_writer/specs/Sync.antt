-- What stands after a sync at the places that it may change, by the ports that differ.
use Rattle.std.specs.Prelude.{◌≡◌, ◌≤◌, true, List, None, map}
use Rattle.std.specs.List.{filter_map}
use Rattle.std.specs.FinMap as finite
use Rattle.kp_base.specs.declared.key.PortKey.{PortKey}
use Rattle.kp_types.specs.Setting.{Setting}
use Rattle.kp_object_defs.specs.PortInfo.{PortInfo}
use Rattle.kp_table_defs.specs.Rebuild.{Chains}
use Rattle.kp_blocks.specs.Joined.{BlocksByPort}
use Rattle.kp_writer.specs.Batch.{own_rules_written}
use Rattle.kp_writer.specs.Next.{NextParts, edits_of}
use Rattle.kp_writer.specs.Own.{own_rule_count, with_own}
use Rattle.kp_writer.specs.Shared.{Change, touched_by, with_shared}
use Rattle.kp_writer.specs.Written.{Ports, WriterParts, clash_of, dirty_of, next_edits, setting_in}

-- what is known of ports
abbrev pub infos_at : Ports → List PortKey → List PortInfo
infos_at ports keys = filter_map (finite.get ports) keys

-- what is known of each of them before and after
abbrev pub changes_of : Ports → Ports → List PortKey → List Change
changes_of before after keys = map (λ k. (finite.get before k, finite.get after k)) keys

-- What stands after: the chains that ports had are gone, those that they have are written, and the
-- shared chains that they touch are joined.
abbrev pub sync_next :
    Chains → BlocksByPort → Setting → Ports → Ports → List PortKey → NextParts
sync_next was blocks setting before after keys =
    with_shared setting.family blocks (touched_by setting (changes_of before after keys))
    (with_own was setting (infos_at before keys) (infos_at after keys))

-- What stands after the sync of a writer: where each port's chain found its place free, the newest
-- ports have no clash; where they have none, the edits are the changes; and these write at most
-- the rules that dirty ports have in their own chains.
pub record IsNextOf (w : WriterParts) (was : Chains) (next : NextParts) : Type 0 where
  pub free : next.free ≡ true → clash_of w w.newest ≡ None
  pub edits : clash_of w w.newest ≡ None
      → edits_of w.family was (finite.entries next.places) ≡ next_edits w
  pub few : own_rules_written (edits_of w.family was (finite.entries next.places))
      ≤ own_rule_count (setting_in w) (dirty_of w w.newest)
