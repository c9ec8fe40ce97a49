-- How many functions a typed program has, and parameters each of them (C99 5.2.4.1).
use Rattle.std.specs.Prelude.{◌≡◌, ◌≤◌, Bool, true, length, nat_le}
use Rattle.std.specs.List.{list_all}
use Rattle.c_counts.specs.Excess.{most_parameters}
use Rattle.c_tree.specs.Programs.{Function, Program}
use Rattle.c_unit_typing.specs.Typed.{most_functions}

-- no more parameters than the limit
abbrev pub has_few_parameters : Function → Bool
has_few_parameters f = nat_le (length f.parameters) most_parameters

pub record IsWithinLimits (p : Program) : Type 0 where
  pub functions : length p.functions ≤ most_functions
  pub parameters : list_all has_few_parameters p.functions ≡ true
