use Rattle.std.proofs.Common.{◌≡◌, true, false}
use Rattle.kp_run_defs.proofs.worked.broken_lines.Goals as goal

pub returns-clause-sync_twice : goal.returns-clause-sync_twice
returns-clause-sync_twice c legal = let h : false ≡ true = legal.seen in cc

pub returns-clause-sync_of_none : goal.returns-clause-sync_of_none
returns-clause-sync_of_none c legal = let h : false ≡ true = legal.seen in cc

pub returns-clause-packet_of_none : goal.returns-clause-packet_of_none
returns-clause-packet_of_none c legal = let h : false ≡ true = legal.seen in cc

pub returns-clause-packet_goes_back : goal.returns-clause-packet_goes_back
returns-clause-packet_goes_back c legal = let h : false ≡ true = legal.seen in cc

pub returns-clause-packet_before_sync : goal.returns-clause-packet_before_sync
returns-clause-packet_before_sync c legal = let h : false ≡ true = legal.seen in cc
