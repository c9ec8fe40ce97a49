use Rattle.std.proofs.Common.{◌≡◌, ◌++◌, drop, map}
use Rattle.rv_isa.specs.Table.{word_of}
use Rattle.rv_codegen.proofs.generator.put_words.Given as goal

abbrev pub invariant-loop-instr : goal.invariant-loop-instr
invariant-loop-instr l =
    l.words.items ++ map word_of (drop l.instr-index l.instrs) ≡ l.initial.words.items ++ map word_of l.instrs
