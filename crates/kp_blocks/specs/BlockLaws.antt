-- Which joined chains stay where some ports' blocks change, and which blocks made anew are enough.
use Rattle.std.specs.Prelude.{◌≡◌, true, false, List, [], Option, Some, None, option_map}
use Rattle.std.specs.List.{fold}
use Rattle.std.specs.FinMap as finite
use Rattle.kp_base.specs.declared.address.Family.{Family}
use Rattle.kp_base.specs.declared.key.PortKey.{PortKey}
use Rattle.kp_types.specs.Setting.{Setting}
use Rattle.kp_types.specs.declared.chain.ChainAt.{ChainAt}
use Rattle.kp_types.specs.declared.rule.Rule.{Rule}
use Rattle.kp_object_defs.specs.PortInfo.{PortInfo}
use Rattle.kp_writer_laws.specs.LocalLaws.{info_of, is_one_of}
use Rattle.kp_blocks.specs.Joined.{Block, BlocksByPort, block_rules, blocks_by_port}
use Rattle.kp_blocks.specs.Joined.{joined_rules, port_block}

-- a port's rules in a chain, none where it has no block
abbrev pub rules_in : ChainAt → Option Block → List Rule
rules_in at None = []
rules_in at (Some block) = block_rules at block

-- A joined chain stays where no changed port's block has other rules there.
abbrev pub JoinedChainsStay : Type 0
JoinedChainsStay =
    (family : Family) (before after : BlocksByPort) (keys : List PortKey) (at : ChainAt)
    → ((key : PortKey) → is_one_of keys key ≡ false
    → finite.get after key ≡ finite.get before key)
    → ((key : PortKey) → is_one_of keys key ≡ true
    → rules_in at (finite.get after key) ≡ rules_in at (finite.get before key))
    → joined_rules family after at ≡ joined_rules family before at

-- the block of the port of a name, if there is one
abbrev pub block_at : Setting → List PortInfo → PortKey → Option Block
block_at setting infos key = option_map (port_block setting) (info_of infos key)

-- blocks with one of a port, or with none of it
abbrev pub with_block : BlocksByPort → PortKey → Option Block → BlocksByPort
with_block blocks key None = finite.remove blocks key
with_block blocks key (Some block) = finite.insert blocks key block

-- blocks where those of some ports are made anew
abbrev pub with_blocks_of : Setting → List PortInfo → List PortKey → BlocksByPort → BlocksByPort
with_blocks_of setting infos keys blocks =
    fold (λ made key. with_block made key (block_at setting infos key)) blocks keys

-- Blocks by port, with those of the ports made anew whose block changed, are the blocks of the
-- ports after.
abbrev pub EnoughByBlocks : Type 0
EnoughByBlocks =
    (setting : Setting) (before after : List PortInfo) (keys : List PortKey)
    → ((key : PortKey) → is_one_of keys key ≡ false
    → block_at setting after key ≡ block_at setting before key)
    → with_blocks_of setting after keys (blocks_by_port setting before)
    ≡ blocks_by_port setting after
