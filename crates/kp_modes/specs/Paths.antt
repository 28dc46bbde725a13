-- The mode `paths`: a replay, and behind each explanation all paths that its packet may take, the other endpoints of
-- its port, and whom its destination serves (this project's choice).
use Rattle.std.specs.Prelude.{[], ◌++◌}
use Rattle.kp_choice_defs.specs.Settings.{settings_of}
use Rattle.kp_mode_defs.specs.Mode.{Mode, explained, objects_at, replaying}
use Rattle.kp_path_defs.specs.PathText.{lines_of}

-- `paths`
abbrev pub pathing : Mode (Unit {0})
pathing = record replaying {
  explain = λ c number p lists state.
      explained c number p lists state
      ++ lines_of (settings_of c.config) (objects_at c) number p.packet lists;
}
