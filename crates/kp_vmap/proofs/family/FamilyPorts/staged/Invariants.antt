use Rattle.std.proofs.Common.{◌≡◌, ◌+◌, ◌≤◌, map, take}
use Rattle.std.specs.List.{sum_by}
use Rattle.kp_types.specs.Setting.{config_for}
use Rattle.kp_object_defs.specs.PortByKey.{info_at}
use Rattle.kp_vmap.specs.Family.{AreStaged, dirty_doors, known_in}
use Rattle.kp_vmap.proofs.family.FamilyPorts.staged.Given as goal

-- the dirty ports so far are staged
abbrev pub invariant-loop-key : goal.invariant-loop-key
invariant-loop-key g l =
    let config = config_for l.family l.config in
    let dirty = take l.key-index l.dirty in
    record {
      ports : l.next.ports.items ≡ map (λ key. (key, info_at l.family config l.objects key)) dirty;
      places :
          AreStaged l.family config l.objects dirty l.self.places.entries l.next.places.entries;
      steps :
          l.steps
          ≤ l.fn.steps + sum_by (dirty_doors l.family config l.objects (known_in l.self)) dirty;
    }
