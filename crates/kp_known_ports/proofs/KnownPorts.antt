-- What is known of ports by their names, one more port or Service at a time.
use Rattle.std.proofs.Common.{◌≡◌, ℕ, List, [], ◌∷◌, ◌++◌, map, Option, filter_map, refl, sym, ap, ◌∙◌}
use Rattle.std.specs.List.{cons_option}
use Rattle.std.specs.FinMap.{put}
use Rattle.std.proofs.lemmas.List.{map-append, append_assoc}
use Rattle.kp_base.specs.Keys.{port_key_cmp}
use Rattle.kp_base.specs.declared.address.Family.{Family}
use Rattle.kp_types.specs.Setting.{FamilyConfig}
use Rattle.kp_types.specs.declared.info.ServiceSources.{ServiceSources}
use Rattle.kp_types.specs.declared.service.Service.{Service}
use Rattle.kp_types.specs.declared.service.ServicePort.{ServicePort}
use Rattle.kp_object_defs.specs.Entries.{sources_of}
use Rattle.kp_object_defs.specs.Objects.{Objects, zone_of}
use Rattle.kp_object_defs.specs.Order.{by_key}
use Rattle.kp_object_defs.specs.PortInfo.{info_of, name_of_port, port_key_of}
use Rattle.kp_object_defs.proofs.InOrder.{insert-put, insert-through, by_key-push}
use Rattle.kp_known_ports.specs.Known.{known_ports}

-- of the values of known ports, those that are there
pub known_there : {K X Y : Type 0} (f : X → Option Y) (es : List (K × X)) → filter_map (λ o. o) (map (λ (e : K × Option Y). e.1) (map (λ (e : K × X). (e.0, f e.1)) es)) ≡ filter_map f (map (λ (e : K × X). e.1) es)
known_there f [] = refl
known_there f (e ∷ es) = ap (cons_option (f e.1)) (known_there f es)

-- one more port goes to its place
known_push : (family : Family) (node : List ℕ) (zone : Option (List ℕ)) (ports : List (ServiceSources × ServicePort)) (port : ServiceSources × ServicePort) → put port_key_cmp (name_of_port port) (info_of family node zone port) (known_ports family node zone ports) ≡ known_ports family node zone (ports ++ port ∷ [])
known_push family node zone ports port =
    let named = by_key port_key_cmp name_of_port ports in
    sym (insert-through port_key_cmp (λ k. k) (info_of family node zone) (λ a b. refl) named (name_of_port port) port)
    ∙ ap (map (λ e. (e.0, info_of family node zone e.1))) (insert-put {C = port_key_cmp} (λ a b. refl) named (name_of_port port) port ∙ sym (by_key-push port_key_cmp name_of_port ports port))

module _ (family : Family) (config : FamilyConfig) (o : Objects) (s : Service) where
  -- a Service with some of its ports
  abbrev pub with_ports : List ServicePort → List (ServiceSources × ServicePort)
  with_ports ps = map (λ p. (sources_of family config o s, p)) ps

  -- one more port of the Service, by what its endpoints are taken from
  pub next_port : (before : List (ServiceSources × ServicePort)) (ps : List ServicePort) (p : ServicePort) → put port_key_cmp (port_key_of (sources_of family config o s).service p) (info_of family config.node (zone_of o config.node) (sources_of family config o s, p)) (known_ports family config.node (zone_of o config.node) (before ++ with_ports ps)) ≡ known_ports family config.node (zone_of o config.node) (before ++ with_ports (ps ++ p ∷ []))
  next_port before ps p =
      let from : ServiceSources = sources_of family config o s in
      known_push family config.node (zone_of o config.node) (before ++ with_ports ps) (from, p)
      ∙ ap (known_ports family config.node (zone_of o config.node))
      (append_assoc before (with_ports ps) (with_ports (p ∷ []))
      ∙ ap (λ rest. before ++ rest) (sym (map-append (λ q. (from, q)) ps (p ∷ []))))
