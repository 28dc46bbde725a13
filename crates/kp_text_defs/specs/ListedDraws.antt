-- The draws that a line lists are numbers of 31 bits, as the statistic match of iptables-extensions draws them.
use Rattle.std.specs.Prelude.{ℕ, ◌<◌, ◌^◌, List, [], All}
use Rattle.kp_text_defs.specs.declared.draws.Draws.{Draws}
use Rattle.kp_text_defs.specs.declared.draws.Draws.TheVariants as draws

-- the draws that are listed: none where a seed stands
abbrev pub listed : Draws → List ℕ
listed (draws.List ds) = ds
listed (draws.Seed seed) = []

-- each draw is below 2^31
abbrev pub AreLow : List ℕ → Type 0
AreLow ds = All (λ draw. draw < 2 ^ 31) ds
