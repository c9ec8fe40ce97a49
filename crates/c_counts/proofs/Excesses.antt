-- What is found in a list of counts.
use Rattle.std.proofs.Common.{◌≡◌, ℕ, Bool, true, false, nat_lt, if◌then◌else◌, List, [], ◌∷◌, Option, Some, None}
use mathlib.Core.Path.{◌∙◌, ap, refl, sym}
use Rattle.c_counts.specs.Counts.{Count, of_parameters, of_members}
use Rattle.c_counts.specs.Excess.{first_above, or_above, parameters_among, members_among, with_count, with_counts}
use Rattle.c_counts.specs.Excess.{most_parameters, most_members}
use Rattle.c_counts.specs.declared.excess.Excess.{Excess}

abbrev or_else : Option ℕ → Option ℕ → Option ℕ
or_else (Some k) other = Some k
or_else None other = other

or_if : (b : Bool) (n : ℕ) (other : Option ℕ) → or_else (if b then Some n else None) other
    ≡ (if b then Some n else other)
or_if true n other = refl
or_if false n other = refl

or_first : (most : ℕ) (kept : Option ℕ) (n : ℕ) (ns : List ℕ) → or_else (or_above most kept n) (first_above most ns)
    ≡ or_else kept (first_above most (n ∷ ns))
or_first most (Some k) n ns = refl
or_first most None n ns = or_if (nat_lt most n) n (first_above most ns)

or_nothing : (kept : Option ℕ) → kept ≡ or_else kept None
or_nothing (Some k) = refl
or_nothing None = refl

parameters_found : (cs : List Count) (e : Excess) → (with_counts cs e).parameters
    ≡ or_else e.parameters (first_above most_parameters (parameters_among cs))
unfolding with_counts
parameters_found [] e = or_nothing e.parameters
parameters_found (of_parameters n ∷ cs) e =
    parameters_found cs (with_count (of_parameters n) e)
    ∙ or_first most_parameters e.parameters n (parameters_among cs)
parameters_found (of_members n ∷ cs) e = parameters_found cs (with_count (of_members n) e)

members_found : (cs : List Count) (e : Excess) → (with_counts cs e).members
    ≡ or_else e.members (first_above most_members (members_among cs))
unfolding with_counts
members_found [] e = or_nothing e.members
members_found (of_parameters n ∷ cs) e = members_found cs (with_count (of_parameters n) e)
members_found (of_members n ∷ cs) e =
    members_found cs (with_count (of_members n) e) ∙ or_first most_members e.members n (members_among cs)

-- from none on

abbrev nothing_found : Excess
nothing_found = record { parameters = None; members = None }

alone : (e : Excess) → with_counts [] e ≡ e
unfolding with_counts
alone e = refl

pub first_parameters : (cs : List Count) (e : Excess)
    → with_counts [] e ≡ with_counts cs nothing_found
    → e.parameters ≡ first_above most_parameters (parameters_among cs)
first_parameters cs e same = ap (λ x. x.parameters) (sym (alone e) ∙ same) ∙ parameters_found cs nothing_found

pub first_members : (cs : List Count) (e : Excess)
    → with_counts [] e ≡ with_counts cs nothing_found
    → e.members ≡ first_above most_members (members_among cs)
first_members cs e same = ap (λ x. x.members) (sym (alone e) ∙ same) ∙ members_found cs nothing_found
