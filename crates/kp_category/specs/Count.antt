-- One more candidate among those that were counted, each address and port once.
use Rattle.std.specs.Prelude.{Bool, ◌||◌, not, cond, is_some, List}
use Rattle.std.specs.FinMap.{find, put}
use Rattle.kp_base.specs.Keys.{endpoint_cmp}
use Rattle.kp_base.specs.declared.key.Endpoint.{Endpoint}
use Rattle.kp_types.specs.declared.lists.Candidate.{Candidate}

-- a candidate counts where it is on this node, or none of its address and port was counted before
abbrev pub counts : List (Endpoint × Candidate) → Candidate → Bool
counts counted c = c.local || not (is_some (find endpoint_cmp c.endpoint counted))

-- what was counted, with one more candidate
abbrev pub counted_with : List (Endpoint × Candidate) → Candidate → List (Endpoint × Candidate)
counted_with counted c = cond (counts counted c) (put endpoint_cmp c.endpoint c counted) counted
