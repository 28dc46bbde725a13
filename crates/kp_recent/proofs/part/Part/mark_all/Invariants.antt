use Rattle.std.proofs.Common.{ℕ, List, map}
use Rattle.std.specs.Map.Iter.{deref_pair}
use Rattle.kp_choice_defs.specs.Recent.{Sighting}
use Rattle.kp_recent.specs.Marked.{AreMarked, IsMarked}
use Rattle.kp_recent.specs.Moments.{sightings_of}
use Rattle.kp_recent.proofs.part.Part.mark_all.Given as goal

-- the sources so far are marked, and what was stays so
abbrev pub invariant-loop-source : goal.invariant-loop-source
invariant-loop-source l = record {
  own : AreMarked l.marks l.list (sightings_of (map deref_pair l.yielded));
  others : (list : List ℕ) (s : Sighting) → IsMarked l.fn.marks list s → IsMarked l.marks list s;
}
