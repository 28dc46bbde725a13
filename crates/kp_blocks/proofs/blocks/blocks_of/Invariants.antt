use Rattle.std.proofs.Common.{◌≡◌, map, vec_len}
use Rattle.std.specs.FinMap.{from_entries}
use Rattle.std.specs.Map.Iter.{deref_pair}
use Rattle.kp_blocks.proofs.PutBehind.{put_all}
use Rattle.kp_blocks.proofs.blocks.blocks_of.Given as goal

-- the blocks, with those of the ports that are left, are the map of all
abbrev pub invariant-loop-port : goal.invariant-loop-port
invariant-loop-port l =
    put_all l.blocks (map deref_pair l.ports.items) ≡ from_entries (map deref_pair l.fn.ports.items)

abbrev pub decreases-loop-port : goal.decreases-loop-port
decreases-loop-port l = vec_len l.ports
