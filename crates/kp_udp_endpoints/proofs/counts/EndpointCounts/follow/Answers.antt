use Rattle.std.proofs.Common.{◌≤◌, count_by, sym, ap, subst, ◌∙◌}
use Rattle.std.specs.List.{list_any}
use Rattle.kp_track_defs.specs.Stands.{is_endpoint}
use Rattle.kp_udp_endpoints.specs.Counts.{count_of, with_new}
use Rattle.kp_udp_endpoints.proofs.Counting.{told_once}
use Rattle.kp_udp_endpoints.proofs.Followed.{apart_of, counted, fallen}
use Rattle.kp_udp_endpoints.proofs.counts.EndpointCounts.follow.Goals as goal

pub returns-clause-counted : goal.returns-clause-counted
returns-clause-counted c = λ before followed e.
    let a = c.args in
    let came = c.as_slice.result.now in
    let went = c.as_slice-2.result.now in
    let apart = apart_of a.config.now a.objects.now a.four.now a.six.now c.new-changed.result
    c.push_ports.new.self c.push_ports-2.new.self went came c.new-changed.ensures.went
    c.new-changed.ensures.came c.in_ok-push_ports.ensures c.in_ok-push_ports-2.ensures
    c.as_slice-2.ensures.value c.as_slice.ensures.value in
    ap (λ m. count_of m e) c.in_ok-fallen.ensures.counts
    ∙ counted c.ports_by_key.ensures.key c.ports_by_key.ensures.all c.infos_by_name.ensures a.config.now
    before a.objects.now a.four.now a.six.now a.self.now followed went came apart e

pub returns-clause-fallen : goal.returns-clause-fallen
returns-clause-fallen c = λ before followed e.
    let a = c.args in
    let came = c.as_slice.result.now in
    let went = c.as_slice-2.result.now in
    let apart = apart_of a.config.now a.objects.now a.four.now a.six.now c.new-changed.result
    c.push_ports.new.self c.push_ports-2.new.self went came c.new-changed.ensures.went
    c.new-changed.ensures.came c.in_ok-push_ports.ensures c.in_ok-push_ports-2.ensures
    c.as_slice-2.ensures.value c.as_slice.ensures.value in
    ap (list_any (is_endpoint e)) c.in_ok-fallen.ensures.fallen
    ∙ fallen c.ports_by_key.ensures.key c.ports_by_key.ensures.all c.infos_by_name.ensures a.config.now
    before a.objects.now a.four.now a.six.now a.self.now followed went came apart e

pub returns-clause-once : goal.returns-clause-once
returns-clause-once c = λ e.
    subst (λ es. count_by (is_endpoint e) es ≤ 1) (sym c.in_ok-fallen.ensures.fallen)
    (told_once c.as_slice-2.result.now (with_new c.as_slice.result.now c.args.self.now) e)
