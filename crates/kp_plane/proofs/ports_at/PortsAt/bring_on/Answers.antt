use Rattle.std.proofs.Common.{length, take, refl, sym, subst, ◌∙◌, arith}
use Rattle.std.proofs.lemmas.Bool.{or_parts}
use Rattle.kp_choice_defs.specs.Settings.{settings_of}
use Rattle.kp_object_defs.specs.OwnKeys.{AreUnderOwnKeys}
use Rattle.kp_store.specs.Touched.{is_touched}
use Rattle.kp_known_ports.specs.Known.{ports_in}
use Rattle.kp_plane.specs.Collected.{is_collected}
use Rattle.kp_plane.specs.Families.{Both, IsNewest, KnowsRest, listed}
use Rattle.kp_plane.proofs.Between.{made_at_end}
use Rattle.kp_plane.proofs.Each.{both_weaker}
use Rattle.kp_plane.proofs.PastEvents.{past_added, past_with, untold}
use Rattle.kp_plane.proofs.Since.{counted_between, since_none}
use Rattle.kp_plane.proofs.Synced.{at_end}
use Rattle.kp_plane.proofs.Touching.{all_know_on, knows_same}
use Rattle.kp_plane.proofs.ports_at.PortsAt.bring_on.Goals as goal

pub refresh_both-requires-clause-own_keys : goal.refresh_both-requires-clause-own_keys
refresh_both-requires-clause-own_keys g c =
    subst AreUnderOwnKeys (sym c.advance_touching.ensures.place.objects)
    (c.own_keys.ensures.after_events (take c.advance_touching.new.self.at c.args.events.now))

pub refresh_both-requires-clause-untouched : goal.refresh_both-requires-clause-untouched
refresh_both-requires-clause-untouched g c =
    let s = c.args.self.now in
    let after = c.advance_touching.new in
    both_weaker (KnowsRest after.self.objects (is_collected after.touched))
    (KnowsRest after.self.objects (is_touched after.touched.joined)) s.writers
    (λ family w. knows_same after.self.objects (is_collected after.touched)
    (is_touched after.touched.joined) family w
    (λ k. sym (c.in_ok-advance_touching.ensures.joined k)))
    (all_know_on c.args.config.now s.latest.objects after.self.objects (is_collected s.touched)
    (is_collected after.touched) c.advance_touching.ensures.untouched s.writers c.requires.config
    c.requires.untouched)

pub returns-in_err-advance_touching-clause-goes_on : goal.returns-in_err-advance_touching-clause-goes_on
returns-in_err-advance_touching-clause-goes_on g c =
    let s = c.args.self.now in
    let after = c.advance_touching.new in
    record {
      place = c.advance_touching.ensures.place;
      untouched = all_know_on c.args.config.now s.latest.objects after.self.objects
          (is_collected s.touched) (is_collected after.touched)
          c.advance_touching.ensures.untouched s.writers c.requires.config c.requires.untouched;
      since = c.advance_touching.ensures.since;
      past = past_with (settings_of c.args.config.now) s.latest.objects after.self.objects
          (is_collected s.touched) (is_collected after.touched) c.advance_touching.ensures.past
          (is_touched s.since) (is_touched s.since) (λ k none. none);
      last = refl;
      dual = refl;
      written = λ o is. is;
      dirty = refl;
    }

pub returns-in_err-join-clause-goes_on : goal.returns-in_err-join-clause-goes_on
returns-in_err-join-clause-goes_on g c =
    let s = c.args.self.now in
    let after = c.advance_touching.new in
    record {
      place = c.advance_touching.ensures.place;
      untouched = all_know_on c.args.config.now s.latest.objects after.self.objects
          (is_collected s.touched) (is_collected after.touched)
          c.advance_touching.ensures.untouched s.writers c.requires.config c.requires.untouched;
      since = c.advance_touching.ensures.since;
      past = past_with (settings_of c.args.config.now) s.latest.objects after.self.objects
          (is_collected s.touched) (is_collected after.touched) c.advance_touching.ensures.past
          (is_touched s.since) (is_touched c.join.new.self)
          (λ k. untold (is_touched s.since k) (is_touched c.join.new.self k)
          (c.in_err-join.ensures.err k));
      last = refl;
      dual = refl;
      written = λ o is. is;
      dirty = refl;
    }

pub returns-in_err-join-clause-steps : goal.returns-in_err-join-clause-steps
returns-in_err-join-clause-steps g c = λ dirty are. omega arith

pub returns-in_err-join-clause-asked : goal.returns-in_err-join-clause-asked
returns-in_err-join-clause-asked g c = λ from is. omega arith

pub returns-in_err-advance_touching-clause-steps : goal.returns-in_err-advance_touching-clause-steps
returns-in_err-advance_touching-clause-steps g c = λ dirty are. omega arith

pub returns-in_err-advance_touching-clause-asked : goal.returns-in_err-advance_touching-clause-asked
returns-in_err-advance_touching-clause-asked g c = λ from is. omega arith

pub returns-in_err-refresh_both-clause-goes_on : goal.returns-in_err-refresh_both-clause-goes_on
returns-in_err-refresh_both-clause-goes_on g c =
    let s = c.args.self.now in
    let new = c.refresh_both.new.writers in
    let after = c.advance_touching.new in
    record {
      place = c.advance_touching.ensures.place;
      untouched = both_weaker (KnowsRest after.self.objects (is_touched after.touched.joined))
          (KnowsRest after.self.objects (is_collected after.touched)) new
          (λ family w. knows_same after.self.objects
          (is_touched after.touched.joined) (is_collected after.touched) family w
          c.in_ok-advance_touching.ensures.joined) c.refresh_both.ensures.untouched;
      since = c.advance_touching.ensures.since;
      past = past_with (settings_of c.args.config.now) s.latest.objects after.self.objects
          (is_collected s.touched) (is_collected after.touched) c.advance_touching.ensures.past
          (is_touched s.since) (is_touched c.join.new.self)
          (λ k none. (or_parts (is_touched after.touched.joined k)
          (is_touched s.since k) (sym (c.in_ok-join.ensures.ok k) ∙ none)).1);
      last = refl;
      dual = c.refresh_both.ensures.dual;
      written = c.refresh_both.ensures.written c.args.config.now;
      dirty = refl;
    }

pub returns-in_err-refresh_both-clause-steps : goal.returns-in_err-refresh_both-clause-steps
returns-in_err-refresh_both-clause-steps g c =
    made_at_end c.args.self.now.writers c.args.events.now c.advance_touching.new.self
    c.advance_touching.ensures.place c.in_ok-advance_touching.ensures.ok c.args.steps.now
    c.refresh_both.new.steps c.refresh_both.ensures.steps

pub returns-in_err-refresh_both-clause-asked : goal.returns-in_err-refresh_both-clause-asked
returns-in_err-refresh_both-clause-asked g c = λ from is.
    let done = c.in_ok-advance_touching.ensures in
    counted_between (settings_of c.args.config.now) c.args.events.now (λ o. ports_in) from
    c.advance_touching.new.self c.advance_touching.new.touched
    (length (listed c.args.self.now.writers)) c.args.asked.now c.refresh_both.new.asked
    (c.advance_touching.ensures.since from is) c.advance_touching.ensures.place done.ok done.joined
    c.refresh_both.ensures.asked

pub returns-clause-goes_on : goal.returns-clause-goes_on
returns-clause-goes_on g c =
    let s = c.args.self.now in
    let after = c.advance_touching.new in
    record {
      place = c.advance_touching.ensures.place;
      untouched = both_weaker (IsNewest after.self.objects)
          (KnowsRest after.self.objects (is_collected c.new.result)) c.refresh_both.new.writers
          (λ family w are key none. are key) c.in_ok-refresh_both.ensures.ok;
      since = λ from is.
          since_none (settings_of c.args.config.now) c.args.events.now from
          after.self.at after.touched c.new.result
          (c.advance_touching.ensures.since from is) c.new.ensures;
      past = past_added (settings_of c.args.config.now) s.latest.objects
          after.self.objects (is_collected s.touched) (is_collected after.touched)
          c.advance_touching.ensures.past (is_touched s.since)
          (is_touched c.join.new.self) (is_collected c.new.result)
          (is_touched after.touched.joined) c.in_ok-advance_touching.ensures.joined
          c.in_ok-join.ensures.ok;
      last = refl;
      dual = c.refresh_both.ensures.dual;
      written = c.refresh_both.ensures.written c.args.config.now;
      dirty = refl;
    }

pub returns-clause-ok : goal.returns-clause-ok
returns-clause-ok g c = record {
  at = c.in_ok-advance_touching.ensures.ok;
  none = c.new.ensures;
  newest = subst (λ o. Both (IsNewest o) c.refresh_both.new.writers)
      (at_end c.args.events.now c.args.events.now c.advance_touching.new.self
      c.advance_touching.ensures.place c.in_ok-advance_touching.ensures.ok refl)
      c.in_ok-refresh_both.ensures.ok;
}

pub returns-clause-steps : goal.returns-clause-steps
returns-clause-steps g c =
    made_at_end c.args.self.now.writers c.args.events.now c.advance_touching.new.self
    c.advance_touching.ensures.place c.in_ok-advance_touching.ensures.ok c.args.steps.now
    c.refresh_both.new.steps c.refresh_both.ensures.steps

pub returns-clause-asked : goal.returns-clause-asked
returns-clause-asked g c = λ from is.
    let done = c.in_ok-advance_touching.ensures in
    counted_between (settings_of c.args.config.now) c.args.events.now (λ o. ports_in) from
    c.advance_touching.new.self c.advance_touching.new.touched
    (length (listed c.args.self.now.writers)) c.args.asked.now c.refresh_both.new.asked
    (c.advance_touching.ensures.since from is) c.advance_touching.ensures.place done.ok done.joined
    c.refresh_both.ensures.asked
