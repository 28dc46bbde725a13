-- A writer that is asked more than once.
use Rattle.std.proofs.Common.{ℕ, ◌≤◌, arith}
use Rattle.kp_io.specs.Faults.{Rose}

-- a count that did not fall and then rose, rose
pub rose_after : (first next last : ℕ) → first ≤ next → Rose next last → Rose first last
rose_after first next last later rose = omega (arith, later, rose)
