-- `struct s{int*p;};int x=66;int main(void){struct s a;struct s b;struct s c;a.p=&x;memcpy(&b,&a,8);putchar(*b.p);` and
-- on line 2
-- `char*d=(char*)&c;char*e=(char*)&a;int i;for(i=0;i<8;i=i+1)d[i]=e[i];return *c.p;}`: `memcpy` moves tags. A copy byte
-- by byte
-- carries none, so that the last read is outside.
use Rattle.behaviours.specs.Shown.{Status}
use Rattle.c_tree.specs.Programs.{Program}
use Rattle.c_tree.specs.Statements.{Statement, declaration, for, return, first_expression, value_content}
use Rattle.c_tree.specs.Tree as tree
use Rattle.c_tree.specs.Tree.{Expression, Lvalue}
use Rattle.c_tree.specs.ValidProgram.{is_valid_program}
use Rattle.c_tree.specs.declared.expression.Kind.TheVariants.{Scalar as OfScalar, Structure}
use Rattle.c_tree.specs.declared.expression.OffsetForm.TheVariants.{PointerPlusIndex}
use Rattle.c_tree.specs.declared.expression.Routine.TheVariants.{Putchar}
use Rattle.obj_memory.specs.declared.int_type.IntType.TheVariants.{Char}
use Rattle.obj_memory.specs.declared.operator.BinaryOperator.TheVariants.{Less, Add}
use Rattle.obj_memory.specs.declared.value.Scalar.TheVariants.{Integer}
use Rattle.sb_base.specs.Budgets.{default_sizes}
use Rattle.source_meaning.specs.Meaning.{meaning}
use Rattle.source_meaning_rows.proofs.LibrarySamples.{call, memcpy, perform, program_declaring}
use Rattle.source_meaning_rows.proofs.Samples.{at, computing, int, lvalue, number, object_variable, one, plain_variable}
use Rattle.source_meaning_rows.proofs.Samples.{pointer, read, six, with_value, without_value}
use Rattle.std.proofs.Common.{◌≡◌, ℕ, [], ◌∷◌, refl, true, false, Some, None}
use Rattle.std.specs.Prelude.{codes}

-- the member `p` of an automatic object, and `*E`
member : (line object : ℕ) → Lvalue
member line n = lvalue line pointer (tree.member ((lvalue line (Structure 8) (tree.automatic n))) 0 8)

target : (line : ℕ) → Expression → Lvalue
target line e = lvalue line int (tree.deref (e))

-- `&` of an automatic object
address : (line object : ℕ) → Expression
address line n = at line pointer (tree.address ((lvalue line (Structure 8) (tree.automatic n))))

i : Expression
i = at 2 int (tree.plain 5)

-- the byte at `i` of what a plain pointer points to
byte : (pointer_variable : ℕ) → Lvalue
byte x = lvalue 2 (OfScalar (Integer Char)) (tree.index PointerPlusIndex 1 ((at 2 pointer (tree.plain x))) (i))

-- `i=E`
set_index : Expression → Expression
set_index e = at 2 int (tree.assign_plain (record { variable = 5; parentheses = 0 }) (e))

-- a pointer to characters with the address of an object
characters : (pointer_variable object : ℕ) → Statement
characters x n = declaration (one (with_value x (at 2 pointer (tree.cast (address 2 n)))))

program : Program
program = program_declaring
    (one (record {
      kind = int;
      is_literal = false;
      function = None;
      parts = one
          (record { offset = 0; content = value_content (number 1 66) });
    }))
    (six (object_variable (Structure 8)) (object_variable (Structure 8)) (object_variable (Structure 8))
    (plain_variable pointer) (plain_variable pointer) (plain_variable int))
    (declaration (without_value 0 ∷ without_value 1 ∷ without_value 2 ∷ [])
    ∷ perform (at 1 pointer (tree.assign (member 1 0) ((at 1 pointer (tree.address ((lvalue 1 int (tree.static 0))))))))
    ∷ perform (memcpy (address 1 1) (address 1 0) 8)
    ∷ perform (call Putchar int (one (read (target 1 (read (member 1 1))))))
    ∷ characters 3 2
    ∷ characters 4 0
    ∷ declaration (without_value 5 ∷ [])
    ∷ for 2 (first_expression (set_index (number 2 0))) (Some (at 2 int (tree.binary Less (i) (number 2 8))))
    (Some (set_index (at 2 int (tree.binary Add (i) (number 2 1)))))
    ((perform (at 2 (OfScalar (Integer Char)) (tree.assign (byte 3) ((read (byte 4)))))))
    ∷ return (Some (read (target 2 (read (member 2 2)))))
    ∷ [])

output : (meaning program default_sizes [] 9).shown.output ≡ codes "B"
unfolding program member target address i byte set_index characters computing
output = refl

ending : (meaning program default_sizes [] 9).shown.ending ≡ Some (Status 120)
unfolding program member target address i byte set_index characters computing
ending = refl

report : (meaning program default_sizes [] 9).shown.errors ≡ codes "sbcets: spatial violation at line 2\n"
unfolding program member target address i byte set_index characters computing
report = refl

valid : is_valid_program program ≡ true
unfolding program member target address i byte set_index characters computing
valid = refl
