use Rattle.std.proofs.Common.{◌≡◌, replicate}
use Rattle.kp_publish.specs.Knows.{nothing_of}
use Rattle.kp_publish.proofs.start.readers_of.Given as goal

abbrev pub invariant-loop-turn : goal.invariant-loop-turn
invariant-loop-turn g l = l.made ≡ replicate l.turn (nothing_of l.writer.desk.place.table_id)
