use Rattle.std.proofs.Common.{◌≡◌, refl, ap, ◌∙◌}
use Rattle.kp_base.specs.declared.address.Family.TheVariants.{V4}
use Rattle.kp_event_defs.specs.FamilyParts.{addresses_of}
use Rattle.kp_event_defs.specs.ServiceText.{cluster_addresses, cluster_of, families_of, six_of_parts}
use Rattle.kp_objects.specs.ServiceParts.{clusters_of}
use Rattle.kp_objects.proofs.ServiceMade.{put_together}
use Rattle.kp_objects.proofs.service.service_made.Goals as goal

pub returns : goal.returns
returns c = λ differ.
    let spec = c.args.spec in
    let written : c.in_ok-written.written ≡ clusters_of spec = c.in_ok-written.ensures.1 in
    let clusters : c.in_ok-clusters.clusters ≡ cluster_addresses (clusters_of spec) =
    c.in_ok-clusters.ensures.1 ∙ ap cluster_addresses (c.as_slice.ensures ∙ written) in (
      refl,
      put_together c.args.key spec c.args.balancer c.in_ok-balancer.balancer c.in_ok-external.external c.cluster_of.result
          c.in_ok-families.families c.in_ok-ranges.ranges c.in_ok-six.six _ differ
          (c.cluster_of.ensures ∙ ap cluster_of (c.as_slice-9.ensures ∙ written))
          (c.in_ok-families.ensures.1 ∙ (λ i. families_of (c.as_slice-2.ensures i) ((c.as_slice-3.ensures ∙ clusters) i)))
          (c.in_ok-external.ensures.1 ∙ ap (addresses_of V4) c.as_slice-7.ensures)
          c.in_ok-ranges.ensures.1
          (c.in_ok-balancer.ensures.1 ∙ ap (addresses_of V4) c.as_slice-8.ensures)
          (c.in_ok-six.ensures.1
          ∙ (λ i. six_of_parts ((c.as_slice-4.ensures ∙ clusters) i) (c.as_slice-5.ensures i) (c.as_slice-6.ensures i) spec.ranges)),
    )
