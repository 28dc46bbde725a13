-- The inputs of a port that is found with its Service.
use Rattle.std.proofs.Common.{◌≡◌, Option, Some, None, option_map, option_and_then, refl, sym, ap}
use Rattle.std.proofs.Common.{◌∙◌}
use Rattle.std.specs.FinMap as finite
use Rattle.kp_base.specs.declared.key.PortKey.{PortKey}
use Rattle.kp_types.specs.Setting.{Settings}
use Rattle.kp_types.specs.declared.service.Service.{Service}
use Rattle.kp_types.specs.declared.service.ServicePort.{ServicePort}
use Rattle.kp_object_defs.specs.Objects.{Objects}
use Rattle.kp_object_defs.specs.PortByKey.{port_named}
use Rattle.kp_history_defs.specs.Inputs.{inputs_in, inputs_of}
use Rattle.kp_vmap.specs.Between.{found_port}

-- those of the port of a name are those of the port that is found
inputs_found : (settings : Settings) (o : Objects) (key : PortKey)
    → inputs_of settings o key ≡ option_map (λ f. inputs_in settings o f.0 f.1) (found_port o key)
inputs_found settings o key = of_service (finite.get o.services key.object)
  where
    of_port : (s : Service) (p : Option ServicePort)
        → option_map (inputs_in settings o s) p
        ≡ option_map (λ (f : Service × ServicePort). inputs_in settings o f.0 f.1)
        (option_map (λ p. (s, p)) p)
    of_port s None = refl
    of_port s (Some p) = refl

    of_service : (s : Option Service)
        → option_and_then (λ s. option_map (inputs_in settings o s) (port_named key s)) s
        ≡ option_map (λ (f : Service × ServicePort). inputs_in settings o f.0 f.1)
        (option_and_then (λ s. option_map (λ p. (s, p)) (port_named key s)) s)
    of_service None = refl
    of_service (Some s) = of_port s (port_named key s)

pub inputs_at : (settings : Settings) (o : Objects) (key : PortKey) (s : Service) (p : ServicePort)
    → Some (s, p) ≡ found_port o key
    → inputs_of settings o key ≡ Some (inputs_in settings o s p)
inputs_at settings o key s p found =
    inputs_found settings o key
    ∙ ap (option_map (λ (f : Service × ServicePort). inputs_in settings o f.0 f.1)) (sym found)
