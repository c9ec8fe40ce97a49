use Rattle.obj_memory.proofs.Reading.{read_written, read_apart}
use Rattle.obj_memory.proofs.laws.what_was_written_is_read.Goals as goal

pub returns : goal.returns
returns c = record {
  there = λ functions. read_written {functions = functions};
  apart = λ functions. read_apart {functions = functions};
}
