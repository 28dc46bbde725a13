-- A plane's table can be walked.
use Rattle.kp_walk_laws.specs.Laws.{AreSound, FullTableRankedObjects, HashedPrefixed}
use Rattle.kp_plane.specs.Parts.{PlaneParts, chains_in, objects_in, settings_in}

-- each jump goes to a chain of a greater rank, and each family has its built-in chains
pub sound : FullTableRankedObjects → HashedPrefixed → (p : PlaneParts)
    → AreSound (settings_in p) (chains_in p)
sound ranked prefixed p = ranked (settings_in p) (objects_in p) (prefixed p.config.name_length)
