-- What a packet's journey through the hooks means in the walk.
use Rattle.std.specs.Prelude.{◌≡◌, ℕ, Bool, false, List, [], None}
use Rattle.kp_types.specs.declared.chain.TableName.{TableName}
use Rattle.kp_types.specs.declared.chain.TableName.TheVariants.{Nat, Filter}
use Rattle.kp_types.specs.declared.packet.Packet.{Packet}
use Rattle.kp_choice_defs.specs.Recent.{RecentParts}
use Rattle.kp_table_defs.specs.Walk as walk
use Rattle.kp_walker.specs.Progress.{state_of}
use Rattle.kp_walker.specs.Shorn.{told}
use Rattle.kp_walker.specs.declared.journey.Stage.{Stage}
use Rattle.kp_walker.specs.declared.journey.Stage.TheVariants.{Translating, Filtering, Masquerading}
use Rattle.kp_walker.specs.declared.journey.Journey.{Journey}

-- the stage of a walk
abbrev pub stage_of : Stage → walk.Stage
stage_of Translating = walk.Translating
stage_of Filtering = walk.Filtering
stage_of Masquerading = walk.Masquerading

-- the table of a stage's hooks
abbrev pub table_of : Stage → TableName
table_of Translating = Nat
table_of Filtering = Filter
table_of Masquerading = Nat

-- the journey, with the trail that its recorder has, and these recent lists
abbrev pub journey_of : {R : Type 0} → (R → List (List (List ℕ))) → Journey R → RecentParts → walk.Journey
journey_of trail_of j lists = record {
  state = state_of j.header j.progress lists;
  translated = j.translated;
  masked = j.masked;
  stopped = j.stopped;
  trail = trail_of j.recorder;
}

-- the beginning of a packet's journey
abbrev pub beginning : Packet → RecentParts → walk.Journey
beginning packet lists = record {
  state = walk.initial_state packet lists;
  translated = None;
  masked = false;
  stopped = None;
  trail = [];
}

-- the journey went on as the function says, as far as it is told
abbrev pub MovesAs : Bool → walk.Journey → walk.Journey → (walk.Journey → walk.Journey) → Type 0
MovesAs keeps old new moving = (j : walk.Journey) → old ≡ told keeps j → new ≡ told keeps (moving j)

-- the journey stopped at a set that needs memory, and these are the recent lists by then
abbrev pub StopsAs : Bool → walk.Journey → RecentParts → (walk.Journey → RecentParts → Type 0) → Type 0
StopsAs keeps old lists sets = (j : walk.Journey) → old ≡ told keeps j → sets j lists
