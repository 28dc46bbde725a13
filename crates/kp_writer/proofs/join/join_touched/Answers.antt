use Rattle.std.proofs.Common.{ap, ◌∙◌}
use Rattle.std.proofs.lemmas.Result.{on_ok_weaker}
use Rattle.kp_types.proofs.TableFamilies.{filter_is_own, nat_is_own}
use Rattle.kp_table_defs.specs.Layout as layout
use Rattle.kp_writer.specs.Next.{NextParts}
use Rattle.kp_writer.specs.Shared.{external, firewall, join_if, node_ports, refusals}
use Rattle.kp_writer.proofs.SharedPlaces.{join_at}
use Rattle.kp_writer.proofs.join.join_touched.Goals as goal

pub returns : goal.returns
returns c =
    let f = c.args.family in
    let bs = c.args.blocks.now in
    let t = c.args.touched.now in
    let nat = join_at f bs c.nat_of-nat.ensures (nat_is_own f) in
    let filter = join_at f bs c.filter_of-filter.ensures (filter_is_own f) in
    let start = c.args.next.now in
    let first = c.join_if.new.next in
    let second = c.join_if-2.new.next in
    let third = c.join_if-3.new.next in
    let fourth = c.join_if-4.new.next in
    on_ok_weaker c.join_if-5.result (λ is.
    filter fourth c.join_if-5.new.next t.refusals layout.kube_services is
    ∙ ap (λ (n : NextParts). join_if f bs n t.refusals (refusals f))
    (filter third fourth t.external layout.kube_external_services c.in_ok-join_if-4.ensures
    ∙ ap (λ (n : NextParts). join_if f bs n t.external (external f))
    (filter second third t.firewall layout.kube_proxy_firewall c.in_ok-join_if-3.ensures
    ∙ ap (λ (n : NextParts). join_if f bs n t.firewall (firewall f))
    (nat first second t.node_ports layout.kube_node_ports c.in_ok-join_if-2.ensures
    ∙ ap (λ (n : NextParts). join_if f bs n t.node_ports (node_ports f))
    (nat start first t.services layout.kube_services c.in_ok-join_if.ensures)))))
    c.join_if-5.ensures
