use Rattle.std.proofs.Common.{sym, ap, subst, ◌∙◌}
use Rattle.std.specs.FinMap.{from_entries}
use Rattle.kp_base.specs.Keys.{port_key_cmp}
use Rattle.kp_base.specs.declared.address.Family.TheVariants.{V6}
use Rattle.kp_types.specs.Setting.{config_for}
use Rattle.kp_tracker.specs.Tracked.{updated}
use Rattle.kp_vmap_defs.specs.VerdictMap.{map_of}
use Rattle.kp_vmap.specs.Family.{IsNext}
use Rattle.kp_vmap.specs.Places.{staged_at}
use Rattle.kp_vmap.specs.Replaced.{HoldsChanges}
use Rattle.kp_vmap.proofs.Replacing.{kept_again, replaced}
use Rattle.kp_vmap.proofs.vmap.Vmap.replace.Goals as goal

pub invariant_of-self-2 : goal.invariant_of-self-2
invariant_of-self-2 g c =
    let config = c.self.inside.config in
    let o = c.args.objects.now in
    let dirty = c.args.dirty.now in
    let four = c.in_ok-four.four in
    let six = c.in_ok-six.six in
    kept_again config o c.requires.own_keys dirty
    c.self.inside.four c.self.inside.six c.keep.new.self c.keep-2.new.self four six
    c.self.invariant
    c.in_ok-four.ensures.next
    (subst (λ ds. IsNext V6 (config_for V6 config) o ds c.self.inside.six.places.entries six)
    c.if_dual-dirty.ensures c.in_ok-six.ensures.next)
    (c.keep.ensures.ports ∙ ap (λ es. updated port_key_cmp (from_entries {R = port_key_cmp} es)
    four.ports.items) c.reserve.ensures.ports)
    (c.keep-2.ensures.ports ∙ ap (λ es. updated port_key_cmp (from_entries {R = port_key_cmp} es)
    six.ports.items) c.reserve-2.ensures.ports)
    (λ d. c.keep.ensures.places d
    ∙ ap (λ es. staged_at es four.places.entries d) c.reserve.ensures.places)
    (λ d. c.keep-2.ensures.places d
    ∙ ap (λ es. staged_at es six.places.entries d) c.reserve-2.ensures.places)

pub returns-clause-ok : goal.returns-clause-ok
returns-clause-ok g c = λ holds.
    let config = c.self.inside.config in
    let o = c.args.objects.now in
    let dirty = c.args.dirty.now in
    let four = c.in_ok-four.four in
    let six = c.in_ok-six.six in
    replaced config o c.requires.own_keys dirty
    c.self.inside.four c.self.inside.six c.keep.new.self c.keep-2.new.self four six
    c.self.invariant
    c.in_ok-four.ensures.next
    (subst (λ ds. IsNext V6 (config_for V6 config) o ds c.self.inside.six.places.entries six)
    c.if_dual-dirty.ensures c.in_ok-six.ensures.next)
    (c.keep.ensures.ports ∙ ap (λ es. updated port_key_cmp (from_entries {R = port_key_cmp} es)
    four.ports.items) c.reserve.ensures.ports)
    (c.keep-2.ensures.ports ∙ ap (λ es. updated port_key_cmp (from_entries {R = port_key_cmp} es)
    six.ports.items) c.reserve-2.ensures.ports)
    c.infos_by_name.ensures (subst (λ m. HoldsChanges m o dirty) (sym c.self.view_is) holds)
    ∙ ap (λ m. map_of m.config o) c.self.view_is
