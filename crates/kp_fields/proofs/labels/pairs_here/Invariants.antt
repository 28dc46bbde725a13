use Rattle.std.proofs.Common.{◌≡◌, ◌++◌, map}
use Rattle.std.specs.Result.{result_err}
use Rattle.kp_json.specs.Places.{members_of, text_at}
use Rattle.kp_json.specs.Views.{place_of, members_left}
use Rattle.kp_row_defs.specs.Fields.{pair_of}
use Rattle.kp_row_defs.specs.Rows.{first_in}
use Rattle.kp_fields.proofs.labels.pairs_here.Given as goal

-- The pairs so far and those of the members that are left are all. None so far is at fault.
abbrev pub invariant-loop-key : goal.invariant-loop-key
invariant-loop-key l =
    (l.pairs.items ++ map pair_of (members_left l.key-iterator) ≡ map pair_of (members_of (place_of l.spot)))
    × (first_in (map (λ m. result_err (text_at m.1)) (members_left l.key-iterator)) ≡ first_in (map (λ m. result_err (text_at m.1)) (members_of (place_of l.spot))))
