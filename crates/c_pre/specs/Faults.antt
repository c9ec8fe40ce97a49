-- The numbers of faults.
use Rattle.std.specs.Prelude.{ℕ}
use Rattle.c_pre.specs.declared.fault.PreFaultKind.{PreFaultKind}
use Rattle.c_pre.specs.declared.fault.PreFaultKind.TheVariants as f

unfoldable pub number_of : PreFaultKind → ℕ
number_of f.UnknownInclude = 1
number_of f.UnknownDirective = 2
number_of f.Unclosed = 3
number_of f.StrayEnd = 4
number_of f.MacroRedefined = 5
number_of f.TooMany = 6
number_of f.BadCall = 7
number_of f.BadCondition = 8
