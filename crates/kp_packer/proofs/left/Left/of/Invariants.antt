-- The endpoints so far stand at their places.
use Rattle.std.proofs.Common.{◌≡◌, take, length}
use Rattle.kp_packer.specs.Views.{shown, left_in, AtOwnPlaces}
use Rattle.kp_packer.proofs.Places.{Within}
use Rattle.kp_packer.proofs.left.Left.of.Given as goal

abbrev pub invariant-loop-endpoint : goal.invariant-loop-endpoint
invariant-loop-endpoint l = record {
  all : left_in l.places.items ≡ shown (take l.endpoint-index l.wanted);
  count : length l.places.items ≡ l.endpoint-index;
  own : AtOwnPlaces l.by_pod.entries l.places.items;
  within : Within l.by_pod.entries (length l.places.items);
}
