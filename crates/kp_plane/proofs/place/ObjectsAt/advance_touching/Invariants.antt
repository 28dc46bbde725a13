-- The objects are those of the events so far, and what these touch is collected.
use Rattle.std.proofs.Common.{◌≡◌}
use Rattle.kp_base.specs.declared.address.Family.{Family}
use Rattle.kp_choice_defs.specs.Settings.{setting_of, settings_of}
use Rattle.kp_plane.specs.Collected.{is_collected}
use Rattle.kp_plane.specs.Invariant.{GoesOnTouching, IsAtPlace}
use Rattle.kp_plane.specs.Known.{LeavesUntouched}
use Rattle.kp_plane.specs.Past.{GoesOnPast}
use Rattle.kp_plane.proofs.place.ObjectsAt.advance_touching.Given as goal

abbrev pub invariant-loop-at : goal.invariant-loop-at
invariant-loop-at l = record {
  place : IsAtPlace l.events l.self;
  at : l.self.at ≡ l.at;
  untouched : (family : Family) → LeavesUntouched (setting_of family l.config) l.fn.self.objects
      (is_collected l.fn.touched) l.self.objects (is_collected l.touched);
  past : GoesOnPast (settings_of l.config) l.fn.self.objects (is_collected l.fn.touched)
      l.self.objects (is_collected l.touched);
  since : GoesOnTouching (settings_of l.config) l.events l.fn.self.at l.fn.touched
      l.self.at l.touched;
}
