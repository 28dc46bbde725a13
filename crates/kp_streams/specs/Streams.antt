-- What a reader of a live run's lines shows.
use Rattle.std.specs.Prelude.{ℕ, List, Option}
use Rattle.std.specs.List.{fold}
use Rattle.kp_run_defs.specs.LiveLines.{Reading, nothing_read, after_given}
use Rattle.kp_streams.specs.declared.lines.StreamLines.{StreamLines}

-- how far the reading has come
abbrev pub reading_in : StreamLines → Reading
reading_in s = record {
  number = s.number;
  fresh = s.fresh;
  config = s.config;
  streams = s.streams;
  accepted = s.accepted;
  lines = s.lines.items;
  refused = s.refused;
}

-- lines as a reader gives them
abbrev pub reading_given : List (Option (List ℕ)) → Reading
reading_given given = fold after_given nothing_read given
