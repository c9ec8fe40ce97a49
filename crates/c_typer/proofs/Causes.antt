-- Why a file has no typed program.
use Rattle.std.proofs.Common.{◌≡◌, ℕ, List, Some, None, refl, sym, ap, ◌∙◌, subst}
use Rattle.std.specs.Prelude.{◌*◌, ◌≤◌, true, IfOk, Option, Result, Ok, Err, length}
use Rattle.c_syntax.specs.Formed.{IsWellFormed}
use Rattle.c_syntax.specs.Statements.{External, Unit as SyntaxUnit}
use Rattle.c_syntax.specs.Words.{unit_words}
use Rattle.c_tree.specs.declared.program.Program.{Program as CodeProgram}
use Rattle.c_tree.specs.Programs.{Program}
use Rattle.c_tree.specs.ValidProgram.{is_valid_program}
use Rattle.c_tree.specs.View as view
use Rattle.c_faults.specs.declared.fault.Fault.{Fault}
use Rattle.c_faults.specs.declared.fault.Refusal.{Refusal}
use Rattle.c_faults.specs.declared.fault.Refusal.TheVariants as rules
use Rattle.c_const.specs.Initializers.{first_not_constant}
use Rattle.c_counts.specs.Counts.{counts_of}
use Rattle.c_faults.specs.Answer.{Answer, Fails}
use Rattle.c_unit_typing.specs.declared.limits.Limited.{Limited}
use Rattle.c_unit_typing.specs.Files.{File}
use Rattle.c_unit_typing.specs.Programs.{program_of}
use Rattle.c_unit_typing.specs.Typed.{TypedUnit, a_fault, a_program, limited_program, most_functions, not_constant}
use Rattle.c_unit_typing.specs.Typed.{too_large}
use Rattle.c_unit_typing.specs.Typed.{typed_as, typed_unit, unless_not_constant, within_limits}
use Rattle.c_unit_typing.specs.Units.{file_in}
use Rattle.c_unit_typing.proofs.Within.{given_within, unit_constant}
use Rattle.c_programs.specs.Limits.{IsExcess}
use Rattle.c_programs.specs.Outlines.{Outline, program_in}
use Rattle.c_programs.specs.Rooms.{first_without_room}
use Rattle.program_laws.specs.TreeSizes.Nodes.{nodes_of}
use Rattle.program_laws.proofs.Limits.Files.{unit_bounded}
use Rattle.program_laws.proofs.ProgramSizes.Programs.{unit_words_program}
use Rattle.program_laws.proofs.Programs.Units.{unit_valid}
use Rattle.c_typer.specs.Limited.{IsWithinLimits}
use Rattle.c_typer.specs.declared.unit.UnitRefusal.{UnitRefusal}
use Rattle.c_typer.specs.declared.unit.UnitRefusal.TheVariants.{Fault as OfFault, Memory}
use Rattle.c_typer.specs.Refused.{IsCauseOf, IsWithoutRoom, UnlessMemory, refusal_of}

moved : (e : UnitRefusal) (u v : TypedUnit) → u ≡ v → UnlessMemory e (IsCauseOf e u) → UnlessMemory e (IsCauseOf e v)
moved e u v same cause = subst (λ z. UnlessMemory e (IsCauseOf e z)) same cause

pub without_room : (p : Program) (k : ℕ) → first_without_room 0 p.functions ≡ Some k
    → IsWithoutRoom k (a_program p)
without_room p k first = record { program = p; is_program = refl; is_first = first }

-- initializers, and within the limits

limited : (es : List External) (o : Outline) → None ≡ first_not_constant (program_in o)
    → within_limits es (program_in o) ≡ limited_program (counts_of es) (program_in o)
limited es o constant =
    ap (λ z. unless_not_constant z (limited_program (counts_of es) (program_in o))) (sym constant)

pub fine : (es : List External) (o : Outline) → None ≡ first_not_constant (program_in o) → IsExcess es o None
    → within_limits es (program_in o) ≡ a_program (program_in o)
fine es o constant none = limited es o constant ∙ none

pub large : (es : List External) (o : Outline) (which : Limited) (n : ℕ) → None ≡ first_not_constant (program_in o)
    → IsExcess es o (Some (which, n)) → within_limits es (program_in o) ≡ too_large which n
large es o which n constant is = limited es o constant ∙ is

pub inconstant : (es : List External) (o : Outline) (line : ℕ) → Some line ≡ first_not_constant (program_in o)
    → within_limits es (program_in o) ≡ not_constant line
inconstant es o line is =
    ap (λ z. unless_not_constant z (limited_program (counts_of es) (program_in o))) (sym is)

-- the program of an outline

pub within : (es : List External) (o : Outline) (p : Program)
    → within_limits es (program_in o) ≡ a_program (program_in o) → p ≡ program_in o
    → within_limits es (program_in o) ≡ a_program p
within es o p none is = none ∙ ap a_program (sym is)

pub caused : (es : List External) (o : Outline) (e : UnitRefusal)
    → within_limits es (program_in o) ≡ a_program (program_in o)
    → UnlessMemory e (IsCauseOf e (a_program (program_in o)))
    → UnlessMemory e (IsCauseOf e (within_limits es (program_in o)))
caused es o e none cause = moved e (a_program (program_in o)) (within_limits es (program_in o)) (sym none) cause

-- of a file

pub of_outline : (es : List External) (f : File) (o : Outline) (p : Program) → program_in o ≡ program_of f
    → within_limits es (program_in o) ≡ a_program p → within_limits es (program_of f) ≡ a_program p
of_outline es f o p same typed = ap (within_limits es) (sym same) ∙ typed

pub cause_of_outline : (es : List External) (f : File) (o : Outline) (e : UnitRefusal) → program_in o ≡ program_of f
    → UnlessMemory e (IsCauseOf e (within_limits es (program_in o)))
    → UnlessMemory e (IsCauseOf e (within_limits es (program_of f)))
cause_of_outline es f o e same cause =
    moved e (within_limits es (program_in o)) (within_limits es (program_of f)) (ap (within_limits es) same) cause

pub typed_is : (end : ℕ) (u : SyntaxUnit) (f : File) → file_in end u.externals ≡ Ok f
    → typed_unit end u ≡ within_limits u.externals (program_of f)
unfolding typed_unit
typed_is end u f is = ap (typed_as u.externals) is

pub fault : (end : ℕ) (u : SyntaxUnit) (f : Fault) → file_in end u.externals ≡ Err f → typed_unit end u ≡ a_fault f
unfolding typed_unit
fault end u f is = ap (typed_as u.externals) is

pub cause_of : (end : ℕ) (u : SyntaxUnit) (r : Refusal) (e : UnitRefusal) → e ≡ refusal_of r
    → Fails r (file_in end u.externals) → UnlessMemory e (IsCauseOf e (typed_unit end u))
cause_of end u (rules.Fault f) e is fails =
    subst (λ z. UnlessMemory z (IsCauseOf z (typed_unit end u))) (sym is) (fault end u f fails)
cause_of end u rules.Memory e is fails =
    subst (λ z. UnlessMemory z (IsCauseOf z (typed_unit end u))) (sym is) tt

-- a program that comes of a file has few nodes

pub few_nodes : (end : ℕ) (u : SyntaxUnit) (r : Result CodeProgram UnitRefusal)
    → IfOk r (λ program. typed_unit end u ≡ a_program (view.program_of program))
    → IfOk r (λ program. nodes_of (view.program_of program) ≤ 3 * length (unit_words u))
few_nodes end u (Ok program) typed = unit_words_program end u (view.program_of program) typed
few_nodes end u (Err e) typed = tt

-- is within the limits

typed_few : (es : List External) (f : Answer File) (p : Program) → typed_as es f ≡ a_program p
    → length p.functions ≤ most_functions
typed_few es (Err fault) p e = absurd cc
typed_few es (Ok file) p e =
    let within = given_within es (program_of file) p e in
    subst (λ x. length x.functions ≤ most_functions) within.same within.functions

few_functions : (end : ℕ) (u : SyntaxUnit) (p : Program) → typed_unit end u ≡ a_program p
    → length p.functions ≤ most_functions
unfolding typed_unit
few_functions end u p e = typed_few u.externals (file_in end u.externals) p e

pub within_limits_of : (end : ℕ) (u : SyntaxUnit) (r : Result CodeProgram UnitRefusal)
    → IfOk r (λ program. typed_unit end u ≡ a_program (view.program_of program))
    → IfOk r (λ program. IsWithinLimits (view.program_of program))
within_limits_of end u (Ok program) typed =
    record {
      functions = few_functions end u (view.program_of program) typed;
      parameters = unit_bounded end u (view.program_of program) typed;
    }
within_limits_of end u (Err e) typed = tt

-- is valid

pub valid_program : (end : ℕ) (u : SyntaxUnit) (r : Result CodeProgram UnitRefusal)
    → IfOk r (λ program. typed_unit end u ≡ a_program (view.program_of program))
    → IfOk r (λ program. IsWellFormed u → is_valid_program (view.program_of program) ≡ true)
valid_program end u (Ok program) typed = λ formed. unit_valid end u (view.program_of program) formed typed
valid_program end u (Err e) typed = tt

-- and has constant initializers

pub constant_program : (end : ℕ) (u : SyntaxUnit) (r : Result CodeProgram UnitRefusal)
    → IfOk r (λ program. typed_unit end u ≡ a_program (view.program_of program))
    → IfOk r (λ program. first_not_constant (view.program_of program) ≡ None)
constant_program end u (Ok program) typed = unit_constant end u (view.program_of program) typed
constant_program end u (Err e) typed = tt
