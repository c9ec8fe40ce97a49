-- The numbers of traps.
use Rattle.std.specs.Prelude.{ℕ}
use Rattle.rv_sim.specs.declared.trap.TrapKind.{TrapKind}
use Rattle.rv_sim.specs.declared.trap.TrapKind.TheVariants.{Illegal, Access, Jump, Break, Call}

abbrev pub trap_number : TrapKind → ℕ
trap_number Illegal = 1
trap_number Access = 2
trap_number Jump = 3
trap_number Break = 4
trap_number Call = 5
