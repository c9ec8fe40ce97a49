-- The rules that the type of a declarator may violate by itself (C99 6.7.5.2, 6.7.5.3).
use Rattle.std.specs.Prelude.{Bool, true, false, ◌||◌, Option, Some, None}
use Rattle.c_faults.specs.declared.fault.Rule.{Rule}
use Rattle.c_faults.specs.declared.fault.Rule.TheVariants.{Incomplete, MisplacedFunction, NoConstant, LargeType}
use Rattle.c_declarators.specs.declared.faults.TypeFaults.{TypeFaults}

abbrev pub no_faults : TypeFaults
no_faults = record { incomplete = false; misplaced = false; miscounted = false; large = false }

abbrev pub and_faults : TypeFaults → TypeFaults → TypeFaults
and_faults a b = record {
  incomplete = a.incomplete || b.incomplete;
  misplaced = a.misplaced || b.misplaced;
  miscounted = a.miscounted || b.miscounted;
  large = a.large || b.large;
}

abbrev pub first_of : Bool → Rule → Option Rule → Option Rule
first_of true rule other = Some rule
first_of false rule other = other

-- the first in the order of the rules
abbrev pub rule_of : TypeFaults → Option Rule
rule_of f =
    first_of f.incomplete Incomplete (first_of f.misplaced MisplacedFunction
    (first_of f.miscounted NoConstant (first_of f.large LargeType None)))
