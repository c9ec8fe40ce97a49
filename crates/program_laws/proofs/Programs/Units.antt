-- The programs of typed files are valid (C99 6.7.8, 6.9).
use Rattle.std.proofs.Common.{◌≡◌, ℕ, ◌≤◌, Bool, true, refl, subst, List, Option, Some, None}
use Rattle.std.specs.Prelude.{Ok, Err}
use Rattle.c_syntax.specs.Formed.{IsWellFormed}
use Rattle.c_syntax.specs.Statements.{External, Unit as TextUnit}
use Rattle.c_tree.specs.Programs.{Program}
use Rattle.c_tree.specs.ValidProgram.{is_valid_program}
use Rattle.c_faults.specs.Answer.{Answer, ◌>>=◌}
use Rattle.c_counts.specs.Counts.{counts_of}
use Rattle.c_unit_typing.specs.Files.{File}
use Rattle.c_unit_typing.specs.Programs.{program_of}
use Rattle.c_unit_typing.specs.Typed.{IsWithin, a_program, global_bytes, most_bytes, typed_as}
use Rattle.c_unit_typing.specs.Typed.{typed_unit}
use Rattle.c_unit_typing.specs.Units.{file_in, file_with}
use Rattle.c_unit_typing.proofs.Within.{given_within}
use Rattle.program_laws.specs.Names.Linked.{HaveSizes}
use Rattle.typing_laws.specs.Scopes.Defined.{define_functions}
use Rattle.typing_laws.specs.Scopes.Regular.{are_regular_externals}
use Rattle.program_laws.specs.Statics.Program.{HasObjectsOf}
use Rattle.program_laws.proofs.Files.Ends.{owns_all}
use Rattle.program_laws.proofs.Files.Statics.{in_order_by}
use Rattle.program_laws.proofs.Literals.Ends.{literals_bytes, literals_stand}
use Rattle.program_laws.proofs.Programs.Bytes.{literals_sized}
use Rattle.program_laws.proofs.Programs.Functions.{program_valid}
use Rattle.typing_laws.proofs.Scopes.WellFormed.{well_formed_defines, well_formed_regular}
use Rattle.program_laws.proofs.Sizes.Files.{file_sizes}
use Rattle.program_laws.proofs.Statics.Files.{file_objects}
use Rattle.program_laws.proofs.Statics.Initialized.{linked_initialized}
use Rattle.program_laws.proofs.Statics.Turns.{file_functions}
use Rattle.program_laws.proofs.Tags.Files.{tags_complete}

-- the file that a program is of

record IsOfFile (es : List External) (end : ℕ) (p : Program) : Type 0 where
  objects : Option (List (List Bool))
  file : File
  is : file_with objects end es ≡ Ok file
  program : IsWithin (counts_of es) (program_of file) p

with_objects : (es : List External) (end : ℕ) (p : Program) (first : Answer File) (f : File)
    → (first >>= λ g. file_with (Some g.taken) end es) ≡ Ok f
    → IsWithin (counts_of es) (program_of f) p → IsOfFile es end p
with_objects es end p (Ok g) f e h = record { objects = Some g.taken; file = f; is = e; program = h }
with_objects es end p (Err fault) f e h = absurd (cc e)

file_by : (es : List External) (end : ℕ) (p : Program) (a : Answer File) → file_in end es ≡ a
    → typed_as es a ≡ a_program p → IsOfFile es end p
file_by es end p (Ok f) is e =
    with_objects es end p (file_with None end es) f is (given_within es (program_of f) p e)
file_by es end p (Err fault) is e = absurd (cc e)

file_of : (end : ℕ) (u : TextUnit) (p : Program) → typed_unit end u ≡ a_program p → IsOfFile u.externals end p
unfolding typed_unit
file_of end u p e = file_by u.externals end p (file_in end u.externals) refl e

-- what is known of each file that is accepted
module _ (objects : Option (List (List Bool))) (end : ℕ) (es : List External) (f : File)
    (regular : are_regular_externals es ≡ true) (defined : define_functions es ≡ true)
    (is : file_with objects end es ≡ Ok f) where
  pub sizes_within : global_bytes (program_of f) ≤ most_bytes → HaveSizes f
  sizes_within low = record {
    linked = file_sizes objects end es f regular is (tags_complete objects end es f regular is);
    literals =
        literals_sized f (in_order_by f (owns_all objects end es f regular is)) low
        (literals_bytes objects end es f regular defined is);
  }

  has_objects : HaveSizes f → HasObjectsOf f
  has_objects sized =
      let own = file_functions objects end es f regular defined is sized in
      record {
        turn = own.turn;
        functions = own.functions;
        scope = own.scope;
        covers = own.covers;
        literals = literals_stand objects end es f regular defined is;
        linked = linked_initialized objects end es f regular defined is sized;
      }

  pub file_valid : HaveSizes f → is_valid_program (program_of f) ≡ true
  file_valid sized =
      program_valid objects end es f regular defined is sized (file_objects f (has_objects sized))

pub unit_valid : (end : ℕ) (u : TextUnit) (p : Program) → IsWellFormed u → typed_unit end u ≡ a_program p
    → is_valid_program p ≡ true
unit_valid end u p formed e =
    let f = file_of end u p e in
    let regular = well_formed_regular u formed in
    let defined = well_formed_defines u formed in
    subst (λ z. is_valid_program z ≡ true) f.program.same
    (file_valid f.objects end u.externals f.file regular defined f.is
    (sizes_within f.objects end u.externals f.file regular defined f.is f.program.bytes))
