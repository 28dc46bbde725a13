use Rattle.std.proofs.Common.{refl, ◌∷◌, [], map, ap, sym, subst, ◌∙◌, arith}
use Rattle.std.proofs.lemmas.List.{map-append}
use Rattle.std.specs.FinMap as finite
use Rattle.std.specs.FinMap.{contains_key-keys}
use Rattle.kp_known_ports.specs.Known.{ports_in}
use Rattle.kp_writer.specs.Written.{setting_in, with_newest}
use Rattle.kp_plane.specs.Known.{KnowsOthers, asked_count, is_listed, is_port_of_one, made_count}
use Rattle.kp_plane.proofs.FewMade.{few_made}
use Rattle.kp_plane.proofs.Refreshed.{count_split, made_split, one_fewer, still_among}
use Rattle.kp_plane.proofs.Refreshed.{still_others}
use Rattle.kp_plane.proofs.refresh.refresh_keys.Goals as goal

-- at first all are left
pub loop-service-init : goal.loop-service-init
loop-service-init g c =
    let w = c.args.writer.now in
    let o = c.args.objects.now in
    let all = c.in_ok-services.ensures in
    record {
      value = refl;
      known = λ key none. c.requires.others key (contains_key-keys c.args.keys.now key.object
          ∙ ap (λ ks. is_port_of_one ks key) (sym all) ∙ none);
      among = λ key none. ap (λ ks. is_port_of_one ks key) all
          ∙ sym (contains_key-keys c.args.keys.now key.object) ∙ none;
      more = omega arith;
      steps = omega (arith, ap (made_count (setting_in w) w.written o) all);
      asked = omega (arith, ap (asked_count o) all);
    }

-- one Service more
pub loop-service-preserved : goal.loop-service-preserved
loop-service-preserved g c =
    let w = c.args.writer.now in
    let o = c.args.objects.now in
    let inv = c.loop-service.invariant in
    let old = map (λ k. k.now) c.loop-service.services.items in
    let new = map (λ k. k.now) c.pop.new.self.items in
    let k = c.in-Some.service.now in
    let is = ap (map (λ k. k.now)) c.in-Some.ensures.items
    ∙ map-append (λ k. k.now) c.pop.new.self.items (c.in-Some.service ∷ []) in
    let now = c.refresh_one.new.writer.newest in
    let one = ap (λ v. made_count (setting_in v) v.written o (k ∷ [])) inv.value in
    record {
      value = c.refresh_one.ensures.value ∙ ap (λ v. with_newest v now) inv.value;
      known = subst (λ t. KnowsOthers t o (is_listed new) now)
          (ap setting_in (sym c.refresh_one.ensures.value))
          (one_fewer old new k is (setting_in c.loop-service.writer) o c.loop-service.writer.newest
          now inv.known c.refresh_one.ensures.others c.in_ok-refresh_one.ensures.ok);
      among = still_among old new k is (finite.contains_key c.args.keys.now) inv.among;
      more = omega (arith, c.refresh_one.ensures.more, inv.more);
      steps = omega (
        arith,
        made_split old new k is (setting_in w) w.written o,
        one,
        c.refresh_one.ensures.steps,
        inv.steps,
      );
      asked = omega (
        arith,
        count_split old new k is ports_in o,
        c.refresh_one.ensures.asked,
        inv.asked,
      );
    }

pub returns-clause-others : goal.returns-clause-others
returns-clause-others g c = λ key none. c.loop-service.invariant.known key
    (c.loop-service.invariant.among key none)

pub returns-in_err-refresh_one-clause-others : goal.returns-in_err-refresh_one-clause-others
returns-in_err-refresh_one-clause-others g c =
    let o = c.args.objects.now in
    let inv = c.loop-service.invariant in
    let old = map (λ k. k.now) c.loop-service.services.items in
    let new = map (λ k. k.now) c.pop.new.self.items in
    let is = ap (map (λ k. k.now)) c.in-Some.ensures.items
    ∙ map-append (λ k. k.now) c.pop.new.self.items (c.in-Some.service ∷ []) in
    let all = finite.contains_key c.args.keys.now in
    let now = c.refresh_one.new.writer.newest in
    subst (λ t. KnowsOthers t o all now) (ap setting_in (sym c.refresh_one.ensures.value))
    (still_others old new c.in-Some.service.now is all inv.among
    (setting_in c.loop-service.writer) o c.loop-service.writer.newest now inv.known
    c.refresh_one.ensures.others)

pub returns-in_err-refresh_one-clause-value : goal.returns-in_err-refresh_one-clause-value
returns-in_err-refresh_one-clause-value g c =
    c.refresh_one.ensures.value
    ∙ ap (λ v. with_newest v c.refresh_one.new.writer.newest) c.loop-service.invariant.value

pub returns-in_err-refresh_one-clause-asked : goal.returns-in_err-refresh_one-clause-asked
returns-in_err-refresh_one-clause-asked g c =
    let old = map (λ k. k.now) c.loop-service.services.items in
    let new = map (λ k. k.now) c.pop.new.self.items in
    let is = ap (map (λ k. k.now)) c.in-Some.ensures.items
    ∙ map-append (λ k. k.now) c.pop.new.self.items (c.in-Some.service ∷ []) in
    omega (
      arith,
      count_split old new c.in-Some.service.now is ports_in c.args.objects.now,
      c.refresh_one.ensures.asked,
      c.loop-service.invariant.asked,
    )

pub returns-in_err-refresh_one-clause-more : goal.returns-in_err-refresh_one-clause-more
returns-in_err-refresh_one-clause-more g c =
    omega (arith, c.refresh_one.ensures.more, c.loop-service.invariant.more)

pub returns-in_err-refresh_one-clause-steps : goal.returns-in_err-refresh_one-clause-steps
returns-in_err-refresh_one-clause-steps g c = λ dirty are.
    let w = c.args.writer.now in
    let o = c.args.objects.now in
    let inv = c.loop-service.invariant in
    let old = map (λ k. k.now) c.loop-service.services.items in
    let new = map (λ k. k.now) c.pop.new.self.items in
    let k = c.in-Some.service.now in
    let is = ap (map (λ k. k.now)) c.in-Some.ensures.items
    ∙ map-append (λ k. k.now) c.pop.new.self.items (c.in-Some.service ∷ []) in
    let one = ap (λ v. made_count (setting_in v) v.written o (k ∷ [])) inv.value in
    let few = few_made (setting_in w) w.written o c.requires.own_keys c.ports_by_key.ensures.key
    dirty are c.args.keys.now in
    omega (
      arith,
      made_split old new k is (setting_in w) w.written o,
      one,
      few,
      c.refresh_one.ensures.steps,
      inv.steps,
    )

pub returns-clause-steps : goal.returns-clause-steps
returns-clause-steps g c = λ dirty are.
    let w = c.args.writer.now in
    let few = few_made (setting_in w) w.written c.args.objects.now c.requires.own_keys
    c.ports_by_key.ensures.key dirty are c.args.keys.now in
    omega (arith, few, c.loop-service.invariant.steps)
