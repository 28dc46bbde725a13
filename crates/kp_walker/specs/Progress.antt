-- What a packet's progress through the rules of a hook means in the walk, with the recent lists by then.
use Rattle.std.specs.Prelude.{Bool}
use Rattle.kp_choice_defs.specs.Recent.{RecentParts}
use Rattle.kp_table_defs.specs.Matching as walk
use Rattle.kp_walker.specs.declared.header.Header.{Header}
use Rattle.kp_walker.specs.declared.progress.Progress.{Progress}

-- the state of a packet with these recent lists
abbrev pub state_of : Header → Progress → RecentParts → walk.WalkState
state_of header p lists = record {
  source = header.source;
  target = header.target;
  port = header.port;
  marked = p.marked;
  used = p.used;
  lists = lists;
}

-- matches that were tried
abbrev pub tried_of : Header → Bool → Progress → RecentParts → walk.Tried
tried_of header holds p lists = record { holds = holds; state = state_of header p lists }
