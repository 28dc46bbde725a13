-- The ports of the Services that may answer a packet give it the door and the line that all ports give it.
use Rattle.std.proofs.Common.{◌≡◌, Bool, false, List, [], ◌∷◌, ◌++◌, filter, filter_map, flat_map, Option, Some, None, option_and_then, refl, sym, ap, ◌∙◌}
use Rattle.std.specs.List.{find}
use Rattle.std.specs.FinMap as finite
use Rattle.std.specs.FinMap.{get}
use Rattle.kp_lemmas.proofs.Members.{none_passes}
use Rattle.kp_base.specs.Keys.{port_key_cmp}
use Rattle.kp_base.specs.declared.address.Family.{Family}
use Rattle.kp_base.specs.declared.key.PortKey.{PortKey}
use Rattle.kp_types.specs.Ports.{is_port}
use Rattle.kp_types.specs.Setting.{FamilyConfig}
use Rattle.kp_types.specs.declared.packet.Packet.{Packet}
use Rattle.kp_types.specs.declared.service.Service.{Service}
use Rattle.kp_types.specs.declared.service.ServicePort.{ServicePort}
use Rattle.kp_object_defs.specs.Entries.{sources_of}
use Rattle.kp_object_defs.specs.Objects.{Objects, zone_of}
use Rattle.kp_object_defs.specs.Order.{distinct_in_order}
use Rattle.kp_object_defs.specs.OwnKeys.{AreUnderOwnKeys}
use Rattle.kp_object_defs.specs.PortInfo.{PortInfo, info_of, port_infos}
use Rattle.kp_object_defs.specs.PortByKey.{info_at, info_in, port_keys, port_keys_of, port_named}
use Rattle.kp_object_laws.proofs.PortByKey.{infos_by_keys, sources_service}
use Rattle.kp_door_defs.specs.Doors.{address_doors, fits, node_door}
use Rattle.kp_door_defs.specs.Filter.{Forward, Hook, Input, Line, Output, external_lines, firewall_lines, hook_lines, hooks_of, service_lines}
use Rattle.kp_store.specs.Destinations.{answers, port_answers}
use Rattle.kp_decide.specs.Enough.{AreEnough}
use Rattle.kp_decide.specs.Findings.{fitting_doors}
use Rattle.kp_decide.proofs.FittingDoors.{same_taking}
use Rattle.kp_decide.proofs.KeptNames.{is_kept, keys_are, passes_in}
use Rattle.kp_decide.proofs.Passing.{found_in, narrowed, same_append, same_found}
use Rattle.kp_decide.proofs.Missed.{Shows, no_address_door, no_external, no_firewall, no_node_door, no_service, shown_of}

module _ (family : Family) (config : FamilyConfig) (o : Objects) (own : AreUnderOwnKeys o) (packet : Packet) where
  abbrev may_answer : Service → Bool
  may_answer = answers packet.proto packet.target packet.port

  -- what is known of a port that the packet can't be for
  pub record Missed (i : PortInfo) : Type 0 where
    pub service : Service
    pub port : ServicePort
    pub shows : Shows family service port i
    pub miss : port_answers packet.proto packet.target packet.port service port ≡ false

  pub missed : (key : PortKey) (i : PortInfo) → is_kept o own may_answer key ≡ false → info_at family config o key ≡ Some i → Missed i
  missed key i misses known = of_service (get o.services key.object) misses known
    where
      of_port : (s : Service) (found : Option ServicePort) → find (is_port key.port_name key.proto) s.ports ≡ found → may_answer s ≡ false → option_and_then (λ p. info_of family config.node (zone_of o config.node) (sources_of family config o s, p)) found ≡ Some i → Missed i
      of_port s None there m k = absurd (cc)
      of_port s (Some p) there m k = record {
        service = s;
        port = p;
        shows = shown_of family config.node (zone_of o config.node) (sources_of family config o s) s p i (sources_service family config o s) k;
        miss = none_passes (port_answers packet.proto packet.target packet.port s) p s.ports m (found_in (is_port key.port_name key.proto) s.ports p there);
      }

      of_service : (found : Option Service) → passes_in o own may_answer found ≡ false → option_and_then (info_in family config o key) found ≡ Some i → Missed i
      of_service None m k = absurd (cc)
      of_service (Some s) m k = of_port s (port_named key s) refl m k

  -- what is known of the ports of the Services that may answer
  abbrev pub some_infos : List PortInfo
  some_infos =
      filter_map (info_at family config o)
      (distinct_in_order port_key_cmp (flat_map port_keys_of (filter may_answer (finite.values o.services))))

  same_passing : {D : Type 0} (p : D → Bool) (f : PortInfo → List D) → ((i : PortInfo) → Missed i → filter p (f i) ≡ []) → filter p (flat_map f some_infos) ≡ filter p (flat_map f (port_infos family config o))
  same_passing p f none =
      ap (λ keys. filter p (flat_map f (filter_map (info_at family config o) keys))) (keys_are o own may_answer)
      ∙ narrowed p f (info_at family config o) (is_kept o own may_answer) (λ key i misses known. none i (missed key i misses known)) (port_keys o)
      ∙ ap (λ is. filter p (flat_map f is)) (sym (infos_by_keys family config o own))

  abbrev fit : Line → Bool
  fit l = fits config.addresses packet l.door

  firewalls : filter fit (flat_map firewall_lines some_infos) ≡ filter fit (flat_map firewall_lines (port_infos family config o))
  firewalls = same_passing fit firewall_lines (λ i m. no_firewall family config packet m.service m.port i m.shows m.miss)

  externals : filter fit (flat_map external_lines some_infos) ≡ filter fit (flat_map external_lines (port_infos family config o))
  externals = same_passing fit external_lines (λ i m. no_external family config packet m.service m.port i m.shows m.miss)

  services : filter fit (flat_map service_lines some_infos) ≡ filter fit (flat_map service_lines (port_infos family config o))
  services = same_passing fit service_lines (λ i m. no_service family config packet m.service m.port i m.shows m.miss)

  from_outside : filter fit (flat_map firewall_lines some_infos ++ flat_map external_lines some_infos) ≡ filter fit (flat_map firewall_lines (port_infos family config o) ++ flat_map external_lines (port_infos family config o))
  from_outside = same_append fit (flat_map firewall_lines some_infos) (flat_map external_lines some_infos) (flat_map firewall_lines (port_infos family config o)) (flat_map external_lines (port_infos family config o)) firewalls externals

  at_hook : (h : Hook) → filter fit (hook_lines h some_infos) ≡ filter fit (hook_lines h (port_infos family config o))
  at_hook Input = from_outside
  at_hook Forward =
      same_append fit (flat_map firewall_lines some_infos ++ flat_map external_lines some_infos) (flat_map service_lines some_infos) (flat_map firewall_lines (port_infos family config o) ++ flat_map external_lines (port_infos family config o)) (flat_map service_lines (port_infos family config o))
      from_outside services
  at_hook Output = same_append fit (flat_map firewall_lines some_infos) (flat_map service_lines some_infos) (flat_map firewall_lines (port_infos family config o)) (flat_map service_lines (port_infos family config o)) firewalls services

  at_hooks : (hs : List Hook) → filter fit (flat_map (λ h. hook_lines h some_infos) hs) ≡ filter fit (flat_map (λ h. hook_lines h (port_infos family config o)) hs)
  at_hooks [] = refl
  at_hooks (h ∷ hs) = same_append fit (hook_lines h some_infos) (flat_map (λ h. hook_lines h some_infos) hs) (hook_lines h (port_infos family config o)) (flat_map (λ h. hook_lines h (port_infos family config o)) hs) (at_hook h) (at_hooks hs)

  fitting : fitting_doors config some_infos packet ≡ fitting_doors config (port_infos family config o) packet
  fitting =
      let p = fits config.addresses packet in
      same_append p (flat_map address_doors some_infos) (flat_map (λ i. node_door i i.node_port) some_infos) (flat_map address_doors (port_infos family config o)) (flat_map (λ i. node_door i i.node_port) (port_infos family config o))
      (same_passing p address_doors (λ i m. no_address_door family config packet m.service m.port i m.shows m.miss))
      (same_passing p (λ i. node_door i i.node_port) (λ i m. no_node_door family config packet m.service m.port i m.shows m.miss))

  -- these are enough to decide the packet
  pub enough : AreEnough config packet some_infos (port_infos family config o)
  enough = record {
    fitting = fitting;
    door = same_taking config packet some_infos (port_infos family config o) fitting;
    line = same_found fit (flat_map (λ h. hook_lines h some_infos) (hooks_of config packet)) (flat_map (λ h. hook_lines h (port_infos family config o)) (hooks_of config packet)) (at_hooks (hooks_of config packet));
  }
