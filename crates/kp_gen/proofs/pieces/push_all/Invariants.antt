use Rattle.std.proofs.Common.{◌≡◌, ◌++◌, take, string_bytes}
use Rattle.std.specs.List.{flat_map}
use Rattle.kp_gen.proofs.pieces.push_all.Given as goal

-- the pieces so far are added
abbrev pub invariant-loop-piece : goal.invariant-loop-piece
invariant-loop-piece l =
    string_bytes l.text ≡ string_bytes l.initial.text ++ flat_map (λ piece. piece.now) (take l.piece-index l.pieces)
