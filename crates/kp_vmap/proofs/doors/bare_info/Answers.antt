use Rattle.std.proofs.Common.{◌≡◌, false}
use Rattle.std.proofs.lemmas.Result.{IfOk-weaker}
use Rattle.kp_types.specs.declared.lists.Lists.{Lists}
use Rattle.kp_port_info.specs.Infos.{known_of}
use Rattle.kp_vmap_defs.specs.VerdictMap.{doors_of_service}
use Rattle.kp_vmap.specs.Places.{doors_if}
use Rattle.kp_vmap.proofs.PortDoors.{service_doors}
use Rattle.kp_vmap.proofs.doors.bare_info.Goals as goal

pub returns : goal.returns
returns c =
    let family = c.args.family in
    let s = c.args.service.now in
    let p = c.args.port.now in
    let lists : Lists =
    record { cluster = c.new.result; local = c.new-2.result; has_any = false } in
    IfOk-weaker c.port_info.result
    (λ i. i ≡ known_of family s p lists)
    (λ i. doors_if i ≡ doors_of_service family s p)
    (λ i is. service_doors family s p lists i is)
    c.port_info.ensures
