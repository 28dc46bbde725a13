use Rattle.std.proofs.Common.{[], ◌∷◌, All, map, subst, sym}
use Rattle.std.specs.Map.Iter.{deref_pair}
use Rattle.std.proofs.lemmas.List.{map-append}
use Rattle.kp_recent.specs.Marked.{IsMarked}
use Rattle.kp_recent.specs.Moments.{sighting, sightings_of}
use Rattle.kp_recent.proofs.Marking.{all_more, marked_more}
use Rattle.kp_recent.proofs.part.Part.mark_all.Goals as goal

-- one source more
pub loop-source-preserved : goal.loop-source-preserved
loop-source-preserved c =
    let list = c.args.list.now in
    let marks = c.set.new.self in
    let before = c.loop-source.yielded in
    record {
      own = subst (λ es. All (IsMarked marks list) (sightings_of es))
          (sym (map-append deref_pair before ((c.in-Some.source, c.in-Some.moment) ∷ [])))
          (all_more (IsMarked marks list) sighting (map deref_pair before)
          (c.in-Some.source.now, c.in-Some.moment.now)
          (marked_more c.loop-source.marks marks c.set.ensures.others list _
          c.loop-source.invariant.own) c.set.ensures.own);
      others = λ list s is. c.set.ensures.others list s (c.loop-source.invariant.others list s is);
    }
