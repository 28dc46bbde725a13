-- Streams of lines and their names (this project's choice).
use Rattle.std.specs.Prelude.{ℕ, List, codes, bytes_eq, cond, Option, Some, None}
use Rattle.kp_text_defs.specs.declared.stream.Stream.{Stream}
use Rattle.kp_text_defs.specs.declared.stream.Stream.TheVariants.{Main, Named}

-- the name of a stream
abbrev pub stream_name : Stream → List ℕ
stream_name Main = codes "main"
stream_name (Named name) = name

-- the stream of a name, which is the main one where none is given
abbrev pub stream_of : Option (List ℕ) → Stream
stream_of None = Main
stream_of (Some name) = cond (bytes_eq name (codes "main")) Main (Named name)
