-- The ports so far were added to those of before, each after a step.
use Rattle.std.proofs.Common.{◌≡◌, ◌+◌, List, ◌++◌, take}
use Rattle.kp_types.specs.Setting.{config_for}
use Rattle.kp_types.specs.declared.info.ServiceSources.{ServiceSources}
use Rattle.kp_types.specs.declared.service.ServicePort.{ServicePort}
use Rattle.kp_object_defs.specs.Objects.{zone_of}
use Rattle.kp_known_ports.specs.Known.{known_ports}
use Rattle.kp_known_ports.proofs.KnownPorts.{with_ports}
use Rattle.kp_known_ports.proofs.infos.add_ports.Given as goal

abbrev pub invariant-loop-port : goal.invariant-loop-port
invariant-loop-port g l = record {
  known :
      (before : List (ServiceSources × ServicePort))
      → l.initial.known.entries ≡ known_ports l.family l.config.node (zone_of l.objects l.config.node) before
      → l.known.entries
      ≡ known_ports l.family l.config.node (zone_of l.objects l.config.node)
      (before ++ with_ports l.family (config_for l.family l.config) l.objects l.service (take l.port-index l.service.ports));
  asked : l.asked ≡ l.fn.asked + l.port-index;
}
