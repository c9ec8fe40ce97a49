use Rattle.obj_memory.proofs.Reading.{bytes_written, bytes_apart, tags_after_bytes, object_of_bytes, bytes_other}
use Rattle.obj_memory.proofs.laws.written_bytes_are_read.Goals as goal

pub returns : goal.returns
returns c = record {
  there = λ functions. bytes_written {functions = functions};
  apart = λ functions. bytes_apart {functions = functions};
  tags = tags_after_bytes;
  object = object_of_bytes;
  other = bytes_other;
}
