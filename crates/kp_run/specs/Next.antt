-- One call of a reader (the clauses of `next_line` that a loop over lines leans on, as one).
use Rattle.std.specs.Prelude.{◌≡◌, true, false, Result, Ok}
use Rattle.std.specs.Io.KnownBytes.{IsAtEnd}
use Rattle.kp_io.specs.Ends.{Input}
use Rattle.kp_io.specs.Reader.{ReaderState, Answers, Counts, TakesInput, TakesFeeds, HandsOutBefore, HasReadCause, IsBounded, answers_unasked, to_come}
use Rattle.kp_io.specs.declared.next_line.LineFault.{LineFault}
use Rattle.kp_io.specs.declared.next_line.NextLine.{NextLine}
use Rattle.kp_io.specs.declared.next_line.NextLine.TheVariants.{End}

-- what a reader answers, and how it and its source stand then
pub record TakesNext (told : Result NextLine LineFault) (old new : ReaderState) (before after : Input) : Type 0 where
  pub answer : Answers told new.line (to_come old before.left) (to_come new after.left)
  pub counts : Counts told old new
  pub again : old.ended ≡ true → told ≡ Ok (End old.number)
  pub input : TakesInput told old.taken new.taken before.left after.left
  pub bounded : IsBounded new
  pub room : new.room ≡ old.room
  pub feeds : new.ended ≡ false → TakesFeeds old new before.left after.left
  pub handed : HandsOutBefore told new.held new.taken
  pub ended : old.ended ≡ false → new.ended ≡ true → IsAtEnd after.left
  pub unasked : answers_unasked old ≡ true → after ≡ before
  pub cause : HasReadCause told before.faults after.faults
