use Rattle.kp_path_laws.proofs.Draws.{decided_by_path, decided_with_tables, decided_without_tables, path_by_draws, path_with_tables, paths_by_place}
use Rattle.kp_path_laws.proofs.laws.draws_reach_paths.Goals as goal

pub returns-clause-by_place : goal.returns-clause-by_place
returns-clause-by_place c = paths_by_place

pub returns-clause-decided : goal.returns-clause-decided
returns-clause-decided c = decided_by_path

pub returns-clause-with_tables : goal.returns-clause-with_tables
returns-clause-with_tables c = decided_with_tables

pub returns-clause-without_tables : goal.returns-clause-without_tables
returns-clause-without_tables c = decided_without_tables

pub returns-clause-by_draws : goal.returns-clause-by_draws
returns-clause-by_draws c = path_by_draws

pub returns-clause-by_draws_of_objects : goal.returns-clause-by_draws_of_objects
returns-clause-by_draws_of_objects c = path_with_tables
