use Rattle.std.proofs.Common.{◌≡◌, List, [], ◌∷◌, ◌++◌, ◌+◌, take, sym, ap, ◌∙◌, arith}
use Rattle.std.specs.FinMap.{put}
use Rattle.std.proofs.lemmas.List.{take_more}
use Rattle.kp_base.specs.Keys.{port_key_cmp}
use Rattle.kp_types.specs.Setting.{config_for}
use Rattle.kp_types.specs.declared.service.ServicePort.{ServicePort}
use Rattle.kp_object_defs.specs.Objects.{zone_of}
use Rattle.kp_object_defs.specs.PortInfo.{info_of, port_key_of}
use Rattle.kp_known_ports.specs.Known.{known_ports}
use Rattle.kp_known_ports.proofs.KnownPorts.{next_port, with_ports}
use Rattle.kp_known_ports.proofs.infos.add_ports.Goals as goal

pub loop-port-preserved : goal.loop-port-preserved
loop-port-preserved g c =
    let family = c.args.family in
    let config = config_for family c.args.config.now in
    let o = c.args.objects.now in
    let s = c.args.service.now in
    let p = c.port-item.result in
    let i = c.loop-port.port-index in
    let items = c.as_slice-port-items.result.now in
    let next : take i s.ports ++ p ∷ [] ≡ take (i + 1) s.ports =
    ap (λ ps. take i ps ++ p ∷ []) (sym c.as_slice-port-items.ensures)
    ∙ ap (λ q. take i items ++ q ∷ []) c.port-item.is
    ∙ sym (take_more items i p c.loop-port-test.true)
    ∙ ap (take (i + 1)) c.as_slice-port-items.ensures in
    record {
      known = λ before h.
          c.in_ok-add_port.ensures
          ∙ (λ j. put port_key_cmp (port_key_of (c.in_ok-sources.ensures j).service p) (info_of family config.node (c.zone_of-zone.ensures j) (c.in_ok-sources.ensures j, p)) (c.loop-port.invariant.known before h j))
          ∙ next_port family config o s before (take i s.ports) p
          ∙ ap (λ (ps : List ServicePort). known_ports family config.node (zone_of o config.node) (before ++ with_ports family config o s ps)) next;
      asked = omega (arith, c.loop-port.invariant.asked, c.tick.ensures);
    }
