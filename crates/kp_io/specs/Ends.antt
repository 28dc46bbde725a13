-- What the two ends of a program show, and what each of their calls does (this project's choice).
use Rattle.std.specs.Prelude.{◌≡◌, ◌<◌, ℕ, List, [], length, take, Option, Result, OnOk, OnErr}
use Rattle.std.specs.Io.{ReadsAtMost}
use Rattle.std.specs.Io.KnownBytes.{ReadConsumes}
use Rattle.kp_io.specs.Faults.{HasCause, one_more}
use Rattle.kp_io.specs.Told.{Grows, NoLess, TakesFront, FlushesOn, IsFlushed}

-- what a source shows: the bytes that are left, where it tells them, how often a read has failed, and how
-- often it was asked
pub record Input : Type 0 where
  pub left : Option (List ℕ)
  pub faults : ℕ
  pub asked : ℕ

-- what a sink shows: the bytes that were written, and how many of them were flushed, where it tells them, how
-- many it keeps back, to hand them on together with others, and how often a call has failed
pub record Output : Type 0 where
  pub written : Option (List ℕ)
  pub flushed : Option ℕ
  pub kept_back : ℕ
  pub faults : ℕ

-- A read puts bytes at the front of the buffer, which is this now. One that fails takes nothing.
pub record AfterRead {E : Type 0} (result : Result ℕ E) (buffer : List ℕ) (old new : Input) : Type 0 where
  pub bound : ReadsAtMost result buffer
  pub bytes : ReadConsumes old.left new.left result buffer
  pub cause : HasCause old.faults new.faults result
  pub asked : new.asked ≡ one_more old.asked

-- A write takes bytes from the front of the piece. What was flushed stays so.
pub record AfterWrite {E : Type 0} (result : Result ℕ E) (piece : List ℕ) (old new : Output) : Type 0 where
  pub bytes : TakesFront result piece old.written new.written
  pub flushed : FlushesOn old.flushed new.flushed new.written
  pub cause : HasCause old.faults new.faults result

-- nothing is kept back after it, and nothing is added to what was written
pub record AfterHandOn {T E : Type 0} (result : Result T E) (old new : Output) : Type 0 where
  pub out : OnOk result (new.kept_back ≡ 0)
  pub kept : Grows old.written new.written []
  pub flushed : NoLess old.flushed new.flushed
  pub cause : HasCause old.faults new.faults result

-- all that was written is flushed after it, nothing is kept back, and nothing is added to what was written
pub record AfterFlush {T E : Type 0} (result : Result T E) (old new : Output) : Type 0 where
  pub whole : OnOk result (IsFlushed new.flushed new.written)
  pub out : OnOk result (new.kept_back ≡ 0)
  pub kept : Grows old.written new.written []
  pub flushed : FlushesOn old.flushed new.flushed new.written
  pub cause : HasCause old.faults new.faults result

-- all of the bytes were written, or it failed after a part of them
pub record WritesWhole {T E : Type 0} (result : Result T E) (bytes : List ℕ) (old new : Output) : Type 0 where
  pub whole : OnOk result (Grows old.written new.written bytes)
  pub part : OnErr result ((n : ℕ) × (n < length bytes) × Grows old.written new.written (take n bytes))
  pub cause : HasCause old.faults new.faults result
