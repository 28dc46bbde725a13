use Rattle.std.proofs.Common.{◌-◌, nat_le, cond, refl, sym, ap, ◌∙◌}
use Rattle.std.specs.FinMap.{from_entries, insert, remove}
use Rattle.std.specs.Map.{lookup}
use Rattle.kp_base.specs.contracts.key.EndpointPartialEq.TheImpl as endpoint_eq
use Rattle.kp_base.proofs.KeyOrder.{endpoint_exact, endpoint_ties, endpoint_total}
use Rattle.kp_base.proofs.Maps.{inserted, removed}
use Rattle.kp_udp_endpoints.specs.Counts.{count_of}
use Rattle.kp_udp_endpoints.proofs.Counting.{counted, few_left, found_more, more_left, since_found}
use Rattle.kp_udp_endpoints.proofs.counts.take.Goals as goal

pub returns-then-count-le1-clause-counts : goal.returns-then-count-le1-clause-counts
returns-then-count-le1-clause-counts c =
    let es = c.args.counts.now.entries in
    let e = c.args.endpoint.now in
    removed endpoint_total endpoint_ties endpoint_exact es c.swap_remove.new.self.entries e c.swap_remove.ensures.updates.0
    ∙ sym (ap
    (λ b. cond b (remove (from_entries es) e) (insert (from_entries es) e (count_of (from_entries es) e - 1)))
    (few_left c.count_in-count.result _ c.count_in-count.ensures c.if-count-le1.true))

pub returns-else-count-le1-clause-counts : goal.returns-else-count-le1-clause-counts
returns-else-count-le1-clause-counts c =
    let es = c.args.counts.now.entries in
    let e = c.args.endpoint.now in
    let found = lookup (endpoint_eq.ghosts.eq e) es in
    let more = more_left c.count_in-count.result _ c.count_in-count.ensures c.if-count-le1.false in
    inserted endpoint_total endpoint_ties endpoint_exact es c.insert.new.self.entries e _
    (since_found _ c.insert.result found c.insert.ensures.updates c.insert.ensures.absent
    (found_more found (ap (λ n. nat_le n 1) (counted es e found refl) ∙ more))).0
    ∙ ap (λ n. insert (from_entries es) e (n - 1)) c.count_in-count.ensures
    ∙ sym (ap
    (λ b. cond b (remove (from_entries es) e) (insert (from_entries es) e (count_of (from_entries es) e - 1)))
    more)
