use Rattle.std.proofs.Common.{refl}
use Rattle.kp_plane.proofs.SlicesAtPlaces.{first_slices}
use Rattle.kp_plane.proofs.slices_at.SlicesAt.start.Goals as goal

pub returns : goal.returns
returns c = λ config events counts.
    first_slices c.slices_now.ensures.as_fed c.controlled_between_syncs.ensures.at_first
    c.controlled_between_syncs.ensures.more config events counts _
    (c.start-place.ensures.place events) c.start-place.ensures.start c.new-slices.ensures refl refl
