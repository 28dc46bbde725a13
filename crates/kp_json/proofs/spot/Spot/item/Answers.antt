use Rattle.kp_json.specs.Places.{elements_of}
use Rattle.kp_json.specs.Views.{place_of}
use Rattle.kp_json.proofs.ListPlaces.{is_there_as}
use Rattle.kp_json.proofs.spot.Spot.item.Goals as goal

pub unwrap-requires : goal.unwrap-requires
unwrap-requires c = is_there_as place_of (elements_of (place_of c.args.self.now)) c.args.i c.element.result c.element.ensures c.requires
