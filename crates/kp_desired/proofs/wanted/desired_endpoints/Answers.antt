use Rattle.std.proofs.Common.{◌≡◌, true, map, ap, ◌∙◌}
use Rattle.std.specs.List.{filter_map, filter}
use Rattle.std.proofs.lemmas.Result.{IfOk-weaker}
use Rattle.kp_base.specs.Keys.{text_cmp}
use Rattle.kp_object_defs.specs.Order.{by_key}
use Rattle.kp_object_defs.specs.Desired.{desired_of, desired_among, desired_endpoints_of, in_name_order, selects}
use Rattle.kp_object_defs.specs.PackingLaws.{have_own_pods, entries_name_pods}
use Rattle.kp_object_laws.proofs.Wanted.{wanted_of_objects, wanted_of_own_pods}
use Rattle.kp_object_laws.proofs.NamedPods.{wanted_name_pods}
use Rattle.kp_desired.specs.ByName.{shown, zone_in}
use Rattle.kp_desired.proofs.NodeNames.{zone-by_name}
use Rattle.kp_desired.proofs.wanted.desired_endpoints.Goals as goal

pub returns : goal.returns
returns c =
    let s = c.args.service.now in
    let pods = c.args.pods.now in
    let nodes = c.args.nodes.now in
    let entries = c.in_ok-by_name.by_name.entries in
    let exact = IfOk-weaker c.wanted_of.result
    (λ ws. ws ≡ filter_map (desired_of c.args.family (zone_in (shown entries)) s) (map (λ p. p.now) c.as_slice-3.result.now)) (λ ws. ws ≡ desired_among c.args.family s pods nodes)
    (λ ws same.
    same
    ∙ ap (λ ps. filter_map (desired_of c.args.family (zone_in (shown entries)) s) (map (λ p. p.now) ps)) c.as_slice-3.ensures.value
    ∙ ap (filter_map (desired_of c.args.family (zone_in (shown entries)) s)) (c.in_ok-pods.ensures ∙ ap (λ ps. in_name_order (filter (selects s) ps)) c.as_slice-2.ensures)
    ∙ ap (λ es. filter_map (desired_of c.args.family (zone_in es) s) (in_name_order (filter (selects s) pods))) (c.in_ok-by_name.ensures ∙ ap (by_key text_cmp (λ n. n.name)) c.as_slice.ensures)
    ∙ (λ i. filter_map (desired_of c.args.family (λ name. zone-by_name nodes name i) s) (in_name_order (filter (selects s) pods))))
    c.wanted_of.ensures
    in
    record {
      exact = exact;
      of_objects = λ o own same_pods same_nodes. IfOk-weaker c.wanted_of.result
          (λ ws. ws ≡ desired_among c.args.family s pods nodes) (λ ws. ws ≡ desired_endpoints_of c.args.family o s)
          (λ ws same. same ∙ wanted_of_objects c.args.family o s pods nodes own same_pods same_nodes)
          exact;
      own_pods = IfOk-weaker c.wanted_of.result
          (λ ws. ws ≡ desired_among c.args.family s pods nodes) (λ ws. have_own_pods ws ≡ true)
          (λ ws same. ap have_own_pods same ∙ wanted_of_own_pods c.args.family s pods nodes)
          exact;
      named = IfOk-weaker c.wanted_of.result
          (λ ws. ws ≡ desired_among c.args.family s pods nodes) (λ ws. entries_name_pods ws ≡ true)
          (λ ws same. ap entries_name_pods same ∙ wanted_name_pods c.args.family s pods nodes)
          exact;
    }
