-- Readers and writers of std, with counts of what became of them.
use Rattle.std.specs.Prelude.{ℕ, Bool, List, Option, None}
use Rattle.kp_io.specs.Ends.{Input, Output}

-- a reader, how often it was asked, and how often it has failed
pub record CountedReader (X : Type 0) : Type 0 where
  pub inner : X
  pub asked : ℕ
  pub faults : ℕ

-- a writer, how often it has failed, and whether it was closed at its other end
pub record Counted (X : Type 0) : Type 0 where
  pub inner : X
  pub faults : ℕ
  pub closed : Bool

-- what a source shows whose reader tells this
abbrev pub shown_reader : {X : Type 0} → Option (List ℕ) → CountedReader X → Input
shown_reader left reader = record { left = left; faults = reader.faults; asked = reader.asked }

-- what a sink shows that tells no content and keeps nothing back
abbrev pub shown_writer : {X : Type 0} → Counted X → Output
shown_writer writer = record { written = None; flushed = None; kept_back = 0; faults = writer.faults }
