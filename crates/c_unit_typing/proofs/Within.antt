-- The initializers of a program that a typed file gives are constant (C99 6.7.8 paragraph 4), and it is within the
-- limits (5.2.4.1).
use Rattle.std.proofs.Common.{◌≡◌, ℕ, ◌≤◌, Bool, true, false, refl, subst, List, [], ◌∷◌, Option, Some, None, length}
use Rattle.std.proofs.Common.{arith, if◌then◌else◌}
use Rattle.std.specs.Prelude.{nat_lt, Ok, Err}
use Rattle.std.proofs.lemmas.Bool.Decides.{nat_tests}
use Rattle.c_syntax.specs.Statements.{External, Unit as TextUnit}
use Rattle.c_tree.specs.Programs.{Program}
use Rattle.c_const.specs.Initializers.{first_not_constant}
use Rattle.c_faults.specs.Answer.{Answer}
use Rattle.c_counts.specs.Counts.{Count, counts_of}
use Rattle.c_counts.specs.Excess.{first_above, members_among, most_members, most_parameters, parameters_among}
use Rattle.c_unit_typing.specs.declared.limits.Limited.{Limited}
use Rattle.c_unit_typing.specs.declared.limits.Limited.TheVariants as limited
use Rattle.c_unit_typing.specs.Files.{File}
use Rattle.c_unit_typing.specs.Programs.{program_of}
use Rattle.c_unit_typing.specs.Typed.{IsWithin, TypedUnit, a_program, global_bytes, limited_program}
use Rattle.c_unit_typing.specs.Typed.{most_bytes, most_functions, typed_as, typed_unit, unless_not_constant, when_large}
use Rattle.c_unit_typing.specs.Typed.{within_limits}
use Rattle.c_unit_typing.specs.Units.{file_in}

program_is : (p q : Program) → a_program p ≡ a_program q → p ≡ q
program_is p q e = cc

at_most : (most n : ℕ) → first_above most (n ∷ []) ≡ None → n ≤ most
at_most most n e = by (nat_lt most n) refl e
  where
    by : (b : Bool) → nat_lt most n ≡ b → (if b then Some n else None) ≡ None → n ≤ most
    by true t e = absurd (cc e)
    by false t e = grind (arith, nat_tests)

not_large : (which : Limited) (count : Option ℕ) (other : TypedUnit) (p : Program)
    → when_large which count other ≡ a_program p → (count ≡ None) × (other ≡ a_program p)
not_large which None other p e = (refl, e)
not_large which (Some n) other p e = absurd cc

constant : (line : Option ℕ) (other : TypedUnit) (p : Program) → unless_not_constant line other ≡ a_program p
    → (line ≡ None) × (other ≡ a_program p)
constant None other p e = (refl, e)
constant (Some line) other p e = absurd cc

limited_within : (counts : List Count) (p q : Program) → first_not_constant p ≡ None
    → limited_program counts p ≡ a_program q → IsWithin counts p q
limited_within counts p q none e =
    let functions = not_large limited.Functions (first_above most_functions (length p.functions ∷ [])) _ q e in
    let parameters =
    not_large limited.Parameters (first_above most_parameters (parameters_among counts)) _ q functions.1 in
    let members = not_large limited.Members (first_above most_members (members_among counts)) _ q parameters.1 in
    let bytes = not_large limited.Globals (first_above most_bytes (global_bytes p ∷ [])) _ q members.1 in
    record {
      same = program_is p q bytes.1;
      constant = none;
      functions = at_most most_functions (length p.functions) functions.0;
      parameters = parameters.0;
      bytes = at_most most_bytes (global_bytes p) bytes.0;
    }

pub given_within : (es : List External) (p q : Program) → within_limits es p ≡ a_program q
    → IsWithin (counts_of es) p q
given_within es p q e =
    let h = constant (first_not_constant p) (limited_program (counts_of es) p) q e in
    limited_within (counts_of es) p q h.0 h.1

-- of a file

typed_within : (es : List External) (f : Answer File) (p : Program) → typed_as es f ≡ a_program p
    → first_not_constant p ≡ None
typed_within es (Err fault) p e = absurd cc
typed_within es (Ok file) p e =
    let within = given_within es (program_of file) p e in
    subst (λ q. first_not_constant q ≡ None) within.same within.constant

pub unit_constant : (end : ℕ) (u : TextUnit) (p : Program) → typed_unit end u ≡ a_program p
    → first_not_constant p ≡ None
unfolding typed_unit
unit_constant end u p e = typed_within u.externals (file_in end u.externals) p e
