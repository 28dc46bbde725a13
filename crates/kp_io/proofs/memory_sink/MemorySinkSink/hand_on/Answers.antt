use Rattle.std.proofs.Common.{rules}
use Rattle.kp_io.proofs.Told.{NoLess-same}
use Rattle.kp_io.proofs.memory_sink.MemorySinkSink.hand_on.Goals as goal

pub returns-clause-hands_on : goal.returns-clause-hands_on
returns-clause-hands_on c = search (rules, NoLess-same)
