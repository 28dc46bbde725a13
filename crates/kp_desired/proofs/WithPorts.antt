-- The endpoint of a pod that resolves a port.
use Rattle.std.proofs.Common.{◌≡◌, ◌==◌, true≢false, false, List, [], ◌∷◌, length, Option, Some, refl, ap, ◌∙◌}
use Rattle.kp_base.specs.declared.key.ObjectKey.{ObjectKey}
use Rattle.kp_types.specs.declared.pod.Pod.{Pod}
use Rattle.kp_types.specs.declared.slice.SliceEndpoint.{SliceEndpoint}
use Rattle.kp_types.specs.declared.slice.SlicePort.{SlicePort}
use Rattle.kp_types.specs.declared.slice.Wanted.{Wanted}
use Rattle.kp_object_defs.specs.Desired.{with_ports}

-- an endpoint with ports of which there are some
abbrev pub wanted : ObjectKey → List SlicePort → SliceEndpoint → Option Wanted
wanted pod ports entry = Some (record { pod = pod; ports = ports; entry = entry })

with_some : (pod : Pod) (entry : SliceEndpoint) (ports : List SlicePort) → (length ports == 0) ≡ false → wanted pod.key ports entry ≡ with_ports pod entry ports
with_some pod entry [] none = absurd (true≢false none)
with_some pod entry (p ∷ ports) some = refl

-- the pod, the ports and the entry as they were made
pub made_with : (pod : Pod) (entry e : SliceEndpoint) (key : ObjectKey) (ports ps qs : List SlicePort) → key ≡ pod.key → qs ≡ ps → e ≡ entry → ps ≡ ports → (length ps == 0) ≡ false → wanted key qs e ≡ with_ports pod entry ports
made_with pod entry e key ports ps qs same_key same_items same_entry same_ports some =
    (λ i. wanted (same_key i) (same_items i) (same_entry i))
    ∙ with_some pod entry ps some
    ∙ ap (with_ports pod entry) same_ports
