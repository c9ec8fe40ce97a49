-- The state in which a machine begins an image.
use Rattle.std.specs.Prelude.{map, replicate}
use Rattle.elf_image.specs.Content.{SegmentContent, Content, memory_of}
use Rattle.rv_sim.specs.Memory.{SegmentState}
use Rattle.rv_sim.specs.State.{MachineState}

-- a segment of memory at the start: the file's bytes, and zeros after them
abbrev pub loaded_segment : SegmentContent → SegmentState
loaded_segment s = record {
  address = s.address;
  bytes = memory_of s;
  readable = s.readable;
  writable = s.writable;
  executable = s.executable;
}

-- at the entry, every register zero
unfoldable pub start_of : Content → MachineState
start_of c = record { pc = c.entry; registers = replicate 32 0; memory = map loaded_segment c.segments }
