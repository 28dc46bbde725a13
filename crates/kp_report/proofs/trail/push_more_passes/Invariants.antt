use Rattle.std.proofs.Common.{◌≡◌, ◌++◌, take, string_bytes}
use Rattle.std.specs.List.{flat_map}
use Rattle.kp_text_defs.specs.Answers.{next_pass_text}
use Rattle.kp_report.proofs.trail.push_more_passes.Given as goal

-- the traversals so far are added
abbrev pub invariant-loop-pass : goal.invariant-loop-pass
invariant-loop-pass l = string_bytes l.text ≡ string_bytes l.initial.text ++ flat_map next_pass_text (take l.pass-index l.passes)
