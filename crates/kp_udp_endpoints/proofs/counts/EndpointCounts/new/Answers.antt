use Rattle.std.proofs.Common.{sym, ◌∙◌, arith}
use Rattle.kp_udp_endpoints.proofs.Counting.{none_counted, none_kept}
use Rattle.kp_udp_endpoints.proofs.Listed.{none_listed}
use Rattle.kp_udp_endpoints.proofs.counts.EndpointCounts.new.Goals as goal

pub invariant_of-result : goal.invariant_of-result
invariant_of-result c = record {
  none = none_kept c.new.result.entries c.new.ensures.empty;
  low = λ e. omega (arith, none_counted c.new.result.entries c.new.ensures.empty e);
}

pub returns-clause-counted : goal.returns-clause-counted
returns-clause-counted c = λ config e.
    none_counted c.new.result.entries c.new.ensures.empty e ∙ sym (none_listed config e)

pub returns-clause-none : goal.returns-clause-none
returns-clause-none c = none_kept c.new.result.entries c.new.ensures.empty
