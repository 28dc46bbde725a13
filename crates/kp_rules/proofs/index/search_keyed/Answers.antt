use Rattle.std.proofs.Common.{rules, sym}
use Rattle.std.specs.Ordering.{is_lt}
use Rattle.std.proofs.lemmas.List.Sorted.{IsPartitionPoint-from_clause}
use Rattle.kp_rules.specs.declared.index.KeyedPlace.{KeyedPlace}
use Rattle.kp_rules.specs.contracts.index.KeyedPlaceOrd.TheImpl as order
use Rattle.kp_rules.proofs.KeyedPlaces.{parted, keyed_found, keyed_other, keyed_past}
use Rattle.kp_rules.proofs.index.search_keyed.Goals as goal

pub returns-in-None : goal.returns-in-None
returns-in-None c list are =
    let first : KeyedPlace = record { to = c.args.to.now; place = c.args.from } in
    let point = IsPartitionPoint-from_clause (λ e. is_lt (order.ghosts.cmp e first)) c.args.keyed.now c.partition_point-at.result c.partition_point-at.ensures.partitioned (parted list c.args.keyed.now first are) (λ a r q k. search rules) in
    sym (keyed_past list c.args.keyed.now c.args.to.now c.args.from c.partition_point-at.result are point (sym c.in-None.ensures))

pub returns-then-eq : goal.returns-then-eq
returns-then-eq c list are =
    let first : KeyedPlace = record { to = c.args.to.now; place = c.args.from } in
    let point = IsPartitionPoint-from_clause (λ e. is_lt (order.ghosts.cmp e first)) c.args.keyed.now c.partition_point-at.result c.partition_point-at.ensures.partitioned (parted list c.args.keyed.now first are) (λ a r q k. search rules) in
    sym (keyed_found list c.args.keyed.now c.args.to.now c.args.from c.partition_point-at.result are point c.in-Some.found.now (sym c.in-Some.ensures) (search rules))

pub returns-else-eq : goal.returns-else-eq
returns-else-eq c list are =
    let first : KeyedPlace = record { to = c.args.to.now; place = c.args.from } in
    let point = IsPartitionPoint-from_clause (λ e. is_lt (order.ghosts.cmp e first)) c.args.keyed.now c.partition_point-at.result c.partition_point-at.ensures.partitioned (parted list c.args.keyed.now first are) (λ a r q k. search rules) in
    sym (keyed_other list c.args.keyed.now c.args.to.now c.args.from c.partition_point-at.result are point c.in-Some.found.now (sym c.in-Some.ensures) (search rules))
