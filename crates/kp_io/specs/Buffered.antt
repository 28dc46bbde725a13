-- A sink that keeps small writes together, before another one (this project's choice).
use Rattle.std.specs.Prelude.{ℕ, List, [], ◌∷◌, ◌++◌, length, min, Option, None, Some, option_map, ◌+◌}
use Rattle.kp_io.specs.Ends.{Output}

-- the sink that comes next, and the bytes that it was not given yet
pub record Buffered (X : Type 0) : Type 0 where
  pub sink : X
  pub kept : List ℕ

-- nothing is kept before this sink
abbrev pub fresh_buffer : {X : Type 0} → X → Buffered X
fresh_buffer sink = record { sink = sink; kept = [] }

-- what was written in all, where the next sink tells what it was given
abbrev pub written_behind : List ℕ → Option (List ℕ) → Option (List ℕ)
written_behind kept written = option_map (λ bytes. bytes ++ kept) written

-- how much is flushed of what the next sink was given
abbrev pub flushed_of : Option ℕ → Option (List ℕ) → Option ℕ
flushed_of None written = None
flushed_of (Some count) None = Some count
flushed_of (Some count) (Some written) = Some (min count (length written))

-- how much is flushed of what was written in all: that is told where nothing is kept
abbrev pub flushed_behind : List ℕ → Option ℕ → Option (List ℕ) → Option ℕ
flushed_behind [] flushed written = flushed_of flushed written
flushed_behind (x ∷ xs) flushed written = None

-- what a sink shows that keeps these bytes before another
abbrev pub shown_behind : List ℕ → Output → Output
shown_behind kept output = record {
  written = written_behind kept output.written;
  flushed = flushed_behind kept output.flushed output.written;
  kept_back = length kept + output.kept_back;
  faults = output.faults;
}
