use Rattle.std.proofs.Common.{◌≡◌, ℕ, ◌∷◌, [], ◌++◌, ◌+◌, take, sym, ap, ◌∙◌, arith}
use Rattle.std.specs.FinMap.{get}
use Rattle.std.proofs.lemmas.List.{take_more}
use Rattle.std.proofs.lemmas.List.Sums.{sum_by-take-le}
use Rattle.kp_base.specs.declared.key.PortKey.{PortKey}
use Rattle.kp_types.specs.Setting.{config_for}
use Rattle.kp_object_defs.specs.PortByKey.{info_at}
use Rattle.kp_vmap.specs.Family.{dirty_doors, known_in}
use Rattle.kp_vmap.proofs.DirtyPorts.{known_one_more, not_before, slice_of_item, staged_one_more}
use Rattle.kp_vmap.proofs.DirtyPorts.{sum_of_more, untouched_yet}
use Rattle.kp_vmap.proofs.Keeping.{none_staged}
use Rattle.kp_vmap.proofs.family.FamilyPorts.staged.Goals as goal

pub loop-key-init : goal.loop-key-init
loop-key-init g c = record {
  ports = c.in_ok-with_capacity.ensures.items;
  places = λ d q. ap (λ m. get m q)
      (none_staged c.args.self.now.places.entries c.new.result.entries c.new.ensures.empty d);
  steps = omega arith;
}

pub stage-requires-clause-untouched : goal.stage-requires-clause-untouched
stage-requires-clause-untouched g c =
    let dirty = c.args.dirty.now in
    let i = c.loop-key.key-index in
    let key = c.key-item.result in
    untouched_yet c.args.family (config_for c.args.family c.args.config.now) c.args.objects.now
    c.args.self.now c.loop-key.next.places.entries (take i dirty) key
    c.requires.placed c.loop-key.invariant.places
    (not_before dirty i key c.requires.in_order
    (slice_of_item dirty i key c.loop-key-test.true c.key-item.is))

pub loop-key-preserved : goal.loop-key-preserved
loop-key-preserved g c =
    let dirty = c.args.dirty.now in
    let i = c.loop-key.key-index in
    let key = c.key-item.result in
    let family = c.args.family in
    let config = config_for family c.args.config.now in
    let o = c.args.objects.now in
    let next : take i dirty ++ key ∷ [] ≡ take (i + 1) dirty =
    ap (λ q. take i dirty ++ q ∷ []) c.key-item.is
    ∙ sym (take_more dirty i key c.loop-key-test.true) in
    record {
      ports =
          known_one_more (info_at family config o)
          c.loop-key.next.ports.items c.stage.new.next.ports.items
          (take i dirty) (take (i + 1) dirty) key next
          c.loop-key.invariant.ports c.in_ok-stage.ensures.ports;
      places =
          staged_one_more family config o c.args.self.now.places.entries
          c.loop-key.next.places.entries c.stage.new.next.places.entries
          (take i dirty) (take (i + 1) dirty) key next
          c.loop-key.invariant.places c.in_ok-stage.ensures.places;
      steps =
          sum_of_more (dirty_doors family config o (known_in c.args.self.now)) dirty i key
          c.args.steps.now c.loop-key.steps c.stage.new.steps
          c.loop-key-test.true c.key-item.is c.loop-key.invariant.steps c.stage.ensures.bound;
    }

pub returns-in_err-stage-clause-bound : goal.returns-in_err-stage-clause-bound
returns-in_err-stage-clause-bound g c =
    let dirty = c.args.dirty.now in
    let i = c.loop-key.key-index in
    let steps : PortKey → ℕ =
    dirty_doors c.args.family (config_for c.args.family c.args.config.now) c.args.objects.now
    (known_in c.args.self.now) in
    omega (
      arith,
      sum_of_more steps dirty i c.key-item.result c.args.steps.now c.loop-key.steps
          c.stage.new.steps
          c.loop-key-test.true c.key-item.is c.loop-key.invariant.steps c.stage.ensures.bound,
      sum_by-take-le steps dirty (i + 1),
    )
