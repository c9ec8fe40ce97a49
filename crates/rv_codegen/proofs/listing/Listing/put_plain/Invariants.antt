use Rattle.std.proofs.Common.{◌≡◌, ◌++◌, drop}
use Rattle.machine_laws.specs.Layout.Lists.{plain}
use Rattle.rv_codegen.proofs.listing.Listing.put_plain.Given as goal

abbrev pub invariant-loop-instr : goal.invariant-loop-instr
invariant-loop-instr l = l.self ++ plain (drop l.instr-index l.instrs) ≡ l.initial.self ++ plain l.instrs
