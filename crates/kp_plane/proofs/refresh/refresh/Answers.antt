use Rattle.std.proofs.Common.{arith}
use Rattle.kp_writer.specs.Written.{setting_in}
use Rattle.kp_plane.proofs.Refreshed.{all_of_touched, by_keys, few_of_services, few_of_touched}
use Rattle.kp_plane.proofs.Refreshed.{from_keys, none_known, none_left, still_written}
use Rattle.kp_known_ports.specs.Known.{ports_in}
use Rattle.kp_plane.proofs.refresh.refresh.Goals as goal

pub refresh_keys-requires-clause-others : goal.refresh_keys-requires-clause-others
refresh_keys-requires-clause-others g c =
    none_known (setting_in c.args.writer.now) c.args.objects.now c.args.writer.now.newest
    c.in_ok-all.all c.in_ok-all.ensures.ports c.in_ok-all.ensures.services

pub refresh_keys-requires-else-touched-clause-others : goal.refresh_keys-requires-else-touched-clause-others
refresh_keys-requires-else-touched-clause-others g c =
    by_keys (setting_in c.args.writer.now) c.args.objects.now c.args.touched.now
    c.args.writer.now.newest c.if-touched.false c.requires.untouched

pub returns-in_ok-all-clause-untouched : goal.returns-in_ok-all-clause-untouched
returns-in_ok-all-clause-untouched g c =
    none_left (setting_in c.refresh_keys.new.writer) c.args.objects.now c.args.touched.now
    c.refresh_keys.new.writer.newest c.if-touched.true

pub returns-else-touched-clause-untouched : goal.returns-else-touched-clause-untouched
returns-else-touched-clause-untouched g c =
    from_keys (setting_in c.refresh_keys-else-touched.new.writer) c.args.objects.now c.args.touched.now
    c.refresh_keys-else-touched.new.writer.newest c.if-touched.false c.refresh_keys-else-touched.ensures.others

pub returns-in_ok-all-clause-asked : goal.returns-in_ok-all-clause-asked
returns-in_ok-all-clause-asked g c =
    let few = few_of_services ports_in c.args.objects.now c.in_ok-all.all in
    let all = all_of_touched ports_in c.args.objects.now c.args.touched.now c.if-touched.true in
    let step = c.refresh_keys.ensures.asked in
    omega (arith, few, all, step)

pub returns-else-touched-clause-asked : goal.returns-else-touched-clause-asked
returns-else-touched-clause-asked g c =
    let few = few_of_touched ports_in c.args.objects.now c.args.touched.now c.requires.own_keys in
    let step = c.refresh_keys-else-touched.ensures.asked in
    omega (arith, few, step)

pub returns-in_ok-all-clause-written : goal.returns-in_ok-all-clause-written
returns-in_ok-all-clause-written g c = λ config o family.
    still_written config o family c.args.writer.now c.refresh_keys.new.writer
    c.refresh_keys.ensures.value

pub returns-else-touched-clause-written : goal.returns-else-touched-clause-written
returns-else-touched-clause-written g c = λ config o family.
    still_written config o family c.args.writer.now c.refresh_keys-else-touched.new.writer
    c.refresh_keys-else-touched.ensures.value
