-- Small words in which calls of library routines are written, for the worked rows.
use Rattle.c_tree.specs.Programs.{Program, Function, StaticObject}
use Rattle.c_tree.specs.Room.{room}
use Rattle.c_tree.specs.Statements.{Statement, DeclaredVariable, expression_statement, declaration, literal_content}
use Rattle.c_tree.specs.Statements.{statements_in}
use Rattle.c_tree.specs.Tree as tree
use Rattle.c_tree.specs.Tree.{Expression, expressions_in}
use Rattle.c_tree.specs.declared.expression.Kind.TheVariants.{Void, Scalar as OfScalar, Array}
use Rattle.c_tree.specs.declared.expression.Kind.{Kind}
use Rattle.c_tree.specs.declared.expression.OffsetForm.TheVariants.{PointerPlusIndex}
use Rattle.c_tree.specs.declared.expression.Routine.TheVariants.{Malloc, Calloc, Free, Realloc, Memcpy, Memmove, Memset}
use Rattle.c_tree.specs.declared.expression.Routine.TheVariants.{Memcmp, Strlen, Strcmp, Strcpy, Strncpy, Strcat}
use Rattle.c_tree.specs.declared.expression.Routine.TheVariants.{Strchr, Puts}
use Rattle.c_tree.specs.declared.expression.Routine.{Routine}
use Rattle.c_tree.specs.declared.program.Variable.{Variable}
use Rattle.obj_memory.specs.declared.int_type.IntType.TheVariants.{UnsignedLong}
use Rattle.obj_memory.specs.declared.operator.BinaryOperator.{BinaryOperator}
use Rattle.obj_memory.specs.declared.value.Scalar.TheVariants.{Integer}
use Rattle.sb_base.specs.Budgets.{BudgetSizes, default_sizes}
use Rattle.source_meaning_rows.proofs.Samples.{at, convert, int, lvalue, main_type, none, number, one, pointer, three}
use Rattle.source_meaning_rows.proofs.Samples.{two, without_value}
use Rattle.std.proofs.Common.{ℕ, suc, false, None, List, [], ◌∷◌}

-- `char NAME[N];`, and the same with the bytes of a literal
abbrev pub zero_chars : ℕ → StaticObject
zero_chars n = record { kind = Array n; is_literal = false; function = None; parts = none }

abbrev pub chars : ℕ → List ℕ → StaticObject
chars n bytes = record {
  kind = Array n;
  is_literal = false;
  function = None;
  parts = one
      (record { offset = 0; content = literal_content bytes });
}

-- the name of such an array, by its number and size, as a pointer to its first byte
abbrev pub array : (object size : ℕ) → Expression
array n size = at 1 pointer (tree.decay ((lvalue 1 (Array size) (tree.static n))))

-- `E + N`, of a pointer to characters
abbrev pub ahead : ℕ → Expression → Expression
ahead n e = at 1 pointer (tree.offset_by PointerPlusIndex 1 (e) (number 1 n))

-- a number as an argument of type size_t
abbrev pub size : ℕ → Expression
size n = convert (OfScalar (Integer UnsignedLong)) (number 1 n)

-- 0 as an argument of pointer type
abbrev pub null : Expression
null = convert pointer (number 1 0)

abbrev pub call : Routine → Kind → List Expression → Expression
call r kind es = at 1 kind (tree.library r (expressions_in es))

abbrev pub perform : Expression → Statement
perform e = expression_statement e

abbrev pub memcpy : (d s : Expression) → ℕ → Expression
memcpy d s n = call Memcpy pointer (three d s (size n))

abbrev pub memmove : (d s : Expression) → ℕ → Expression
memmove d s n = call Memmove pointer (three d s (size n))

abbrev pub memset : Expression → (byte n : ℕ) → Expression
memset d byte n = call Memset pointer (three d (number 1 byte) (size n))

abbrev pub memcmp : (a b : Expression) → ℕ → Expression
memcmp a b n = call Memcmp int (three a b (size n))

abbrev pub strlen : Expression → Expression
strlen s = call Strlen (OfScalar (Integer UnsignedLong)) (one s)

abbrev pub strcmp : (a b : Expression) → Expression
strcmp a b = call Strcmp int (two a b)

abbrev pub strcpy : (d s : Expression) → Expression
strcpy d s = call Strcpy pointer (two d s)

abbrev pub strncpy : (d s : Expression) → ℕ → Expression
strncpy d s n = call Strncpy pointer (three d s (size n))

abbrev pub strcat : (d s : Expression) → Expression
strcat d s = call Strcat pointer (two d s)

abbrev pub strchr : Expression → ℕ → Expression
strchr s byte = call Strchr pointer (two s (number 1 byte))

abbrev pub puts : Expression → Expression
puts s = call Puts int (one s)

abbrev pub malloc : ℕ → Expression
malloc n = call Malloc pointer (one (size n))

abbrev pub calloc : (count n : Expression) → Expression
calloc count n = call Calloc pointer (two count n)

abbrev pub realloc : Expression → ℕ → Expression
realloc p n = call Realloc pointer (two p (size n))

abbrev pub free : Expression → Expression
free p = call Free Void (one p)

abbrev pub printf : List ℕ → List Expression → Expression
printf format es = at 1 int (tree.printf format (expressions_in es))

-- `E < F`, `E == F` and so on
abbrev pub compare : BinaryOperator → (e f : Expression) → Expression
compare op e f = at 1 int (tree.binary op (e) (f))

-- a plain pointer, by its number, and an assignment to it
abbrev pub plain : ℕ → Expression
plain x = at 1 pointer (tree.plain x)

abbrev pub set : ℕ → Expression → Statement
set x e = perform (at 1 pointer (tree.assign_plain (record { variable = x; parentheses = 0 }) (e)))

-- variables from a number on that are declared without an initializer
abbrev pub declared_from : ℕ → List Variable → List DeclaredVariable
declared_from x [] = []
declared_from x (v ∷ vs) = without_value x ∷ declared_from (suc x) vs

-- a program of `main` alone, at line 1, in which a call of it takes its room
abbrev pub program_declaring : List StaticObject → List Variable → List Statement → Program
program_declaring statics variables body =
    let f : Function = record
    { line = 1; type_number = 0; parameters = none; variables = variables; body = statements_in body; room = 0 } in
    record {
      structures = [];
      statics = statics;
      function_types = one main_type;
      functions = one
          (record f { room = room statics 0 int f });
      main = 0;
    }

-- the same, which declares its variables first
abbrev pub program_of : List StaticObject → List Variable → List Statement → Program
program_of statics variables body = program_declaring statics variables (declaration (declared_from 0 variables) ∷ body)

-- the default budgets with a heap of one page, so that its places are few
abbrev pub small_heap : BudgetSizes
small_heap = record default_sizes { heap = 4096 }
