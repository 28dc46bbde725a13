use Rattle.std.proofs.Common.{◌≡◌, map}
use Rattle.std.specs.Result.{result_err}
use Rattle.kp_json.specs.Places.{members_of, text_at}
use Rattle.kp_json.specs.Views.{place_of, members_left}
use Rattle.kp_row_defs.specs.Rows.{first_in}
use Rattle.kp_fields.proofs.labels.check_texts_here.Given as goal

-- no member so far is at fault
abbrev pub invariant-loop-key : goal.invariant-loop-key
invariant-loop-key l =
    (first_in (map (λ m. result_err (text_at m.1)) (members_left l._key-iterator)) ≡ first_in (map (λ m. result_err (text_at m.1)) (members_of (place_of l.spot))))
