use Rattle.std.proofs.Common.{◌≡◌, map, take}
use Rattle.kp_writer.specs.Written.{newest_in}
use Rattle.kp_writer.specs.Sync.{infos_at}
use Rattle.kp_writer.proofs.infos.newest_infos.Given as goal

-- the infos of the keys so far
abbrev pub invariant-loop-key : goal.invariant-loop-key
invariant-loop-key l =
    map (λ i. i.now) l.infos.items
    ≡ infos_at (newest_in l.ports) (map (λ k. k.now) (take l.key-index l.keys))
