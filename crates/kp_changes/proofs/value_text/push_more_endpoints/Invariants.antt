use Rattle.std.proofs.Common.{◌≡◌, ◌++◌, take, string_bytes}
use Rattle.std.specs.List.{flat_map}
use Rattle.kp_change_defs.specs.ValueText.{next_endpoint_text}
use Rattle.kp_changes.proofs.value_text.push_more_endpoints.Given as goal

-- the endpoints so far are added
abbrev pub invariant-loop-endpoint : goal.invariant-loop-endpoint
invariant-loop-endpoint l =
    string_bytes l.text
    ≡ string_bytes l.initial.text ++ flat_map next_endpoint_text (take l.endpoint-index l.endpoints)
