use Rattle.std.proofs.Common.{◌≡◌, map, take}
use Rattle.kp_writer.specs.Written.{written_in}
use Rattle.kp_writer.specs.Sync.{infos_at}
use Rattle.kp_writer.proofs.infos.written_infos.Given as goal

-- the infos of the keys so far
abbrev pub invariant-loop-key : goal.invariant-loop-key
invariant-loop-key l =
    map (λ i. i.now) l.infos.items
    ≡ infos_at (written_in l.ports) (map (λ k. k.now) (take l.key-index l.keys))
