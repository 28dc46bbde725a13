use Rattle.std.proofs.Common.{◌≡◌, ◌++◌, take, string_bytes}
use Rattle.std.specs.List.{flat_map}
use Rattle.kp_text_defs.specs.Answers.{next_chain_text}
use Rattle.kp_report.proofs.trail.push_more_chains.Given as goal

-- the names so far are added
abbrev pub invariant-loop-chain : goal.invariant-loop-chain
invariant-loop-chain l = string_bytes l.text ≡ string_bytes l.initial.text ++ flat_map next_chain_text (take l.chain-index l.chains)
