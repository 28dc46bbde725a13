use Rattle.kp_json.specs.Views.{place_of}
use Rattle.kp_objects.proofs.SliceMade.{read_gives}
use Rattle.kp_objects.proofs.slice.slice_of.Goals as goal

pub returns : goal.returns
returns c =
    read_gives (place_of c.args.spot.now) c.slice_with.result c.in_ok-metadata.metadata c.in_ok-family.family
    c.in_ok-metadata.ensures c.in_ok-family.ensures c.slice_with.ensures
