-- How much a sync lets go that makes nothing itself.
use Rattle.std.specs.Prelude.{ℕ}

abbrev pub few : ℕ
few = 4
