-- The ports of the Services so far are known, each after a step.
use Rattle.std.proofs.Common.{◌≡◌, ◌+◌, take, map, flat_map}
use Rattle.kp_types.specs.Setting.{config_for}
use Rattle.kp_object_defs.specs.Objects.{zone_of}
use Rattle.kp_known_ports.specs.Known.{known_ports, parts_of}
use Rattle.kp_known_ports.proofs.Counted.{first_count}
use Rattle.kp_known_ports.proofs.infos.known_of_services.Given as goal

abbrev pub invariant-loop-service : goal.invariant-loop-service
invariant-loop-service g l = record {
  known :
      l.known.entries
      ≡ known_ports l.family l.config.node (zone_of l.objects l.config.node)
      (flat_map (parts_of l.family (config_for l.family l.config) l.objects)
      (map (λ s. s.now) (take l.service-index l.services)));
  asked : l.asked ≡ l.fn.asked + first_count l.services l.service-index;
}
