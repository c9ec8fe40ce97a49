-- The lists of parameters and of members that are too long (C99 5.2.4.1 lets a translator set limits): of each kind the
-- first counts.
use Rattle.std.specs.Prelude.{ℕ, nat_lt, if◌then◌else◌, List, [], ◌∷◌, Option, Some, None}
use Rattle.c_counts.specs.Counts.{Count, of_parameters, of_members}
use Rattle.c_counts.specs.declared.excess.Excess.{Excess}

abbrev pub most_parameters : ℕ
most_parameters = 127

abbrev pub most_members : ℕ
most_members = 1024

-- the first of some numbers that is above a limit
abbrev pub first_above : (most : ℕ) → List ℕ → Option ℕ
first_above most [] = None
first_above most (n ∷ ns) = if nat_lt most n then Some n else first_above most ns

abbrev pub parameters_among : List Count → List ℕ
parameters_among [] = []
parameters_among (of_parameters n ∷ cs) = n ∷ parameters_among cs
parameters_among (of_members n ∷ cs) = parameters_among cs

abbrev pub members_among : List Count → List ℕ
members_among [] = []
members_among (of_parameters n ∷ cs) = members_among cs
members_among (of_members n ∷ cs) = n ∷ members_among cs

-- what is found with further lists

abbrev pub or_above : (most : ℕ) → Option ℕ → ℕ → Option ℕ
or_above most (Some k) n = Some k
or_above most None n = if nat_lt most n then Some n else None

abbrev pub with_count : Count → Excess → Excess
with_count (of_parameters n) e = record e { parameters = or_above most_parameters e.parameters n }
with_count (of_members n) e = record e { members = or_above most_members e.members n }

unfoldable pub with_counts : List Count → Excess → Excess
with_counts [] e = e
with_counts (c ∷ cs) e = with_counts cs (with_count c e)
