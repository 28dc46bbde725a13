use Rattle.std.proofs.Common.{◌<◌, ◌+◌, ℕ, length, get_or, take, refl, sym, ap, subst, ◌∙◌, arith}
use Rattle.kp_choice_defs.specs.Settings.{setting_of, settings_of}
use Rattle.kp_object_defs.specs.OwnKeys.{AreUnderOwnKeys}
use Rattle.kp_plane.specs.Collected.{is_collected}
use Rattle.kp_plane.specs.Invariant.{AreTouchedBetween}
use Rattle.kp_plane.proofs.PastEvents.{past_all, past_both, past_one, past_same}
use Rattle.kp_plane.proofs.Places.{next_place}
use Rattle.kp_plane.proofs.Since.{since_more, since_same}
use Rattle.kp_plane.proofs.Touching.{leaves_all, leaves_both, leaves_one, leaves_same}
use Rattle.kp_plane.proofs.place.ObjectsAt.advance_touching.Goals as goal

pub loop-at-init : goal.loop-at-init
loop-at-init c = record {
  place = c.requires;
  at = refl;
  untouched = λ family.
      leaves_all (setting_of family c.args.config.now) c.args.self.now.objects
      (is_collected c.args.touched.now);
  past = past_all (settings_of c.args.config.now) c.args.self.now.objects
      (is_collected c.args.touched.now);
  since = λ from is. is;
}

pub loop-at-preserved : goal.loop-at-preserved
loop-at-preserved c =
    let events = c.args.events.now in
    let event = c.index-events-at.result in
    let before = c.loop-at.self in
    let after = c.apply_touching.new.objects in
    let inv = c.loop-at.invariant in
    let few : before.at < length events = omega (arith, inv.at, c.loop-at-test.true) in
    let settings = settings_of c.args.config.now in
    let own = subst AreUnderOwnKeys (sym inv.place.objects)
    (c.own_keys.ensures.after_events (take before.at events)) in
    let found = c.index-events-at.is ∙ ap (λ (n : ℕ). get_or events n event) (sym inv.at) in
    let next = ap (λ (n : ℕ). n + 1) inv.at in
    record {
      place = next_place events before (record { objects = after; at = c.loop-at.at + 1 }) event
          inv.place few found c.in_ok-apply_touching.ensures.ok (sym next);
      at = refl;
      untouched = λ family.
          leaves_both (setting_of family c.args.config.now) c.args.self.now.objects before.objects
          after (is_collected c.args.touched.now) (is_collected c.loop-at.touched)
          (is_collected c.apply_touching.new.self) (inv.untouched family)
          (leaves_one settings family c.untouched_ports.ensures.infos before.objects after
          (is_collected c.loop-at.touched) (is_collected c.apply_touching.new.self) event _ own
          c.in_ok-apply_touching.ensures.changed c.in_ok-apply_touching.ensures.ok
          c.in_ok-apply_touching.ensures.adds);
      past = past_both settings c.args.self.now.objects before.objects
          (is_collected c.args.touched.now) (is_collected c.loop-at.touched) inv.past after
          (is_collected c.apply_touching.new.self)
          (past_one settings before.objects after (is_collected c.loop-at.touched)
          (is_collected c.apply_touching.new.self) event _
          c.in_ok-apply_touching.ensures.changed c.in_ok-apply_touching.ensures.ok
          c.in_ok-apply_touching.ensures.adds);
      since = λ from is.
          subst (λ n. AreTouchedBetween settings events from n c.apply_touching.new.self) next
          (since_more settings events from before.at c.loop-at.touched c.apply_touching.new.self
          (inv.since from is) event before.objects _ few found inv.place.objects
          c.in_ok-apply_touching.ensures.adds);
    }

pub returns-in_err-apply_touching-clause-place : goal.returns-in_err-apply_touching-clause-place
returns-in_err-apply_touching-clause-place c =
    let inv = c.loop-at.invariant in
    record {
      within = inv.place.within;
      objects = c.in_err-apply_touching.ensures.err ∙ inv.place.objects;
    }

pub returns-in_err-apply_touching-clause-untouched : goal.returns-in_err-apply_touching-clause-untouched
returns-in_err-apply_touching-clause-untouched c = λ family.
    leaves_same (setting_of family c.args.config.now) c.args.self.now.objects c.loop-at.self.objects
    c.apply_touching.new.objects (is_collected c.args.touched.now) (is_collected c.loop-at.touched)
    (is_collected c.apply_touching.new.self) (c.loop-at.invariant.untouched family)
    c.in_err-apply_touching.ensures.err c.in_err-apply_touching.ensures.same

pub returns-in_err-apply_touching-clause-past : goal.returns-in_err-apply_touching-clause-past
returns-in_err-apply_touching-clause-past c =
    past_same (settings_of c.args.config.now) c.args.self.now.objects c.loop-at.self.objects
    (is_collected c.args.touched.now) (is_collected c.loop-at.touched) c.loop-at.invariant.past
    c.apply_touching.new.objects (is_collected c.apply_touching.new.self)
    c.in_err-apply_touching.ensures.err c.in_err-apply_touching.ensures.same

pub returns-in_err-apply_touching-clause-since : goal.returns-in_err-apply_touching-clause-since
returns-in_err-apply_touching-clause-since c = λ from is.
    since_same (settings_of c.args.config.now) c.args.events.now from c.loop-at.self.at
    c.loop-at.touched c.apply_touching.new.self (c.loop-at.invariant.since from is)
    c.in_err-apply_touching.ensures.same

pub returns-clause-untouched : goal.returns-clause-untouched
returns-clause-untouched c = λ family.
    leaves_same (setting_of family c.args.config.now) c.args.self.now.objects c.loop-at.self.objects
    c.loop-at.self.objects (is_collected c.args.touched.now) (is_collected c.loop-at.touched)
    (is_collected c.join.new.self) (c.loop-at.invariant.untouched family) refl c.join.ensures.same

pub returns-clause-past : goal.returns-clause-past
returns-clause-past c =
    past_same (settings_of c.args.config.now) c.args.self.now.objects c.loop-at.self.objects
    (is_collected c.args.touched.now) (is_collected c.loop-at.touched) c.loop-at.invariant.past
    c.loop-at.self.objects (is_collected c.join.new.self) refl c.join.ensures.same

pub returns-clause-since : goal.returns-clause-since
returns-clause-since c = λ from is.
    since_same (settings_of c.args.config.now) c.args.events.now from c.loop-at.self.at
    c.loop-at.touched c.join.new.self (c.loop-at.invariant.since from is) c.join.ensures.same
