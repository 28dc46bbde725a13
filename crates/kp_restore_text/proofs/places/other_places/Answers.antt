use Rattle.kp_restore_text.proofs.Sections.{places_more}
use Rattle.kp_restore_text.proofs.places.other_places.Goals as goal

-- one more place
pub loop-at-preserved : goal.loop-at-preserved
loop-at-preserved c =
    places_more c.args.which c.loop-at.yielded c.in-Some.at c.loop-at.places.items c.add_if_other.new.places.items c.loop-at.invariant c.in_ok-add_if_other.ensures
