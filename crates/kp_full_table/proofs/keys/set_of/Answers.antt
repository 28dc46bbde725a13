use Rattle.std.proofs.Common.{ap, sym, ◌∙◌, drop, length}
use Rattle.std.specs.BTreeSet.{insert_key}
use Rattle.kp_base.specs.Keys.{endpoint_cmp}
use Rattle.kp_base.specs.contracts.key.EndpointOrd.TheImpl as endpoint_ord
use Rattle.kp_object_defs.specs.Order.{distinct_in_order}
use Rattle.kp_full_table.proofs.Ordered.{distinct_more}
use Rattle.kp_chains.proofs.Popped.{popped-drop, popped-take}
use Rattle.kp_full_table.proofs.keys.set_of.Goals as goal

pub loop-endpoint-preserved : goal.loop-endpoint-preserved
loop-endpoint-preserved c =
    let all = c.args.endpoints.items in
    let old = c.loop-endpoint.endpoints.items in
    let new = c.pop.new.self.items in
    let e = c.in-Some.endpoint in
    record {
      seen =
          c.in_ok-insert.ensures.keys
          ∙ ap (λ ks. insert_key endpoint_ord.ghosts.cmp ks e) c.loop-endpoint.invariant.seen
          ∙ distinct_more e (drop (length old) all)
          ∙ ap (distinct_in_order endpoint_cmp) (sym (popped-drop all old new e c.in-Some.ensures.items c.loop-endpoint.invariant.left));
      left = popped-take all old new e c.in-Some.ensures.items c.loop-endpoint.invariant.left;
    }
