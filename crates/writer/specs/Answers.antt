-- The answer of the writer's functions, by what the writer does.
use Rattle.std.specs.Prelude.{Result, Ok, Err}
use Rattle.refusal.specs.declared.Refusal.{Refusal}
use Rattle.place.specs.declared.Writer.{Writer}
use Rattle.writer.specs.Writer.{Writing, writes, refuses}

abbrev pub answered : Writing → Result Writer Refusal
answered (writes octets next) = Ok next
answered (refuses refusal) = Err refusal
