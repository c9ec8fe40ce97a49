-- The numbers of the typing rules, as the tool's line tells them.
use Rattle.std.specs.Prelude.{ℕ}
use Rattle.c_faults.specs.declared.fault.Rule.{Rule}
use Rattle.c_faults.specs.declared.fault.Rule.TheVariants as rule

abbrev pub rule_number : Rule → ℕ
rule_number rule.NoMain = 0
rule_number rule.UndefinedFunction = 1
rule_number rule.Undeclared = 2
rule_number rule.Redeclared = 3
rule_number rule.MistakenTag = 4
rule_number rule.Incomplete = 5
rule_number rule.MisplacedFunction = 6
rule_number rule.NoConstant = 7
rule_number rule.LargeType = 8
rule_number rule.RepeatedMember = 9
rule_number rule.NoMember = 10
rule_number rule.NoTarget = 11
rule_number rule.NoAddress = 12
rule_number rule.NotAssignable = 13
rule_number rule.Operands = 14
rule_number rule.NoConversion = 15
rule_number rule.NoCast = 16
rule_number rule.NoCallee = 17
rule_number rule.ArgumentCount = 18
rule_number rule.NoCondition = 19
rule_number rule.MistakenReturn = 20
rule_number rule.MisplacedLabel = 21
rule_number rule.MisplacedItem = 22
rule_number rule.LibraryName = 23
rule_number rule.MistakenFormat = 24
rule_number rule.StructureValue = 25
rule_number rule.MisplacedStorage = 26
rule_number rule.ArrayOfValue = 27
