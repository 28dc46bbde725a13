-- What a line of a replay may ask for, by where the replay stands.
use Rattle.std.specs.Prelude.{◌≡◌, true, false, [], ⊤}
use Rattle.kp_run_defs.specs.ReplayText.{Standing}
use Rattle.kp_text_defs.specs.declared.said.Said.{Said}
use Rattle.kp_text_defs.specs.declared.said.Said.TheVariants.{Nothing, Asks, Refuses}
use Rattle.kp_text_defs.specs.declared.script.Op.{Op}
use Rattle.kp_text_defs.specs.declared.script.Op.TheVariants as op

-- no event came, and no sync
pub record HasNoEvents (s : Standing) : Type 0 where
  pub events : s.events ≡ []
  pub counts : s.counts ≡ []

-- before the first line there are no events
abbrev pub IsReady : Standing → Type 0
IsReady s = s.fresh ≡ true → HasNoEvents s

-- what is asked for may come: a configuration before all events
abbrev pub MayTake : Standing → Op → Type 0
MayTake s (op.Config config) = HasNoEvents s
MayTake s (op.Events events) = ⊤
MayTake s op.Sync = ⊤
MayTake s (op.Packet packet) = ⊤
MayTake s (op.Explain packet) = ⊤
MayTake s (op.Show what) = ⊤

-- what a line says may come, behind which no line is the first any more
abbrev pub MaySay : Standing → Said → Type 0
MaySay s Nothing = ⊤
MaySay s (Asks line) = MayTake (record s { fresh = false }) line.op
MaySay s (Refuses refusal) = ⊤
