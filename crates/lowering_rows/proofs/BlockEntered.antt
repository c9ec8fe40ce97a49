-- A block with an object in a counted loop, left at its end and by a return, and a pointer to its object that is
-- refused.
-- The text is rows/block_entered_again_has_a_new_key.c:
--     int main(void){int*p=0;int i;for(i=0;i<2;i++){int x;
--     if(p==&x){putchar(61);return *p;}
--     x=5;p=&x;}return 0;}
use Rattle.std.proofs.Common.{◌≡◌, ℕ, zero, suc, ◌≤◌, List, [], ◌∷◌, Some, None, Bool, true, refl, subst}
use Rattle.std.specs.Prelude.{codes, slice_get, nat_le, ◌&&◌}
use Rattle.std.proofs.lemmas.Bool.{leb-true}
use Rattle.source_meaning.proofs.ValidNames.{both}
use Rattle.sb_base.specs.Budgets.{default_sizes}
use Rattle.obj_memory.specs.declared.int_type.IntType.TheVariants.{Int, UnsignedLong}
use Rattle.obj_memory.specs.declared.operator.BinaryOperator.TheVariants.{Add, Less, Equal}
use Rattle.obj_memory.specs.declared.value.Scalar.TheVariants.{Integer}
use Rattle.c_tree.specs.declared.c_type.TypeWord.TheVariants.{Gives, Integer as IntegerWord}
use Rattle.c_tree.specs.declared.expression.Fixity.TheVariants.{Postfix}
use Rattle.c_tree.specs.declared.expression.Routine.TheVariants.{Putchar}
use Rattle.c_tree.specs.declared.expression.Update.TheVariants.{Arithmetic}
use Rattle.c_tree.specs.Programs.{Function, Program}
use Rattle.c_tree.specs.Statements.{expression_statement, declaration, if_then, first_expression, for, return}
use Rattle.c_tree.specs.Tree.{automatic}
use Rattle.c_tree.specs.Blocks.{no_variable}
use Rattle.c_const.specs.Integers.{constant_word}
use Rattle.source_meaning.specs.Meaning.{meaning}
use Rattle.source_meaning_rows.proofs.Samples.{int, pointer, number, plain, address, convert, compare, assign}
use Rattle.source_meaning_rows.proofs.Samples.{set_plain, step_plain, library, read, lvalue, deref, with_value}
use Rattle.source_meaning_rows.proofs.Samples.{without_value, block_of, plain_variable, object_variable, function_type}
use Rattle.source_meaning_rows.proofs.Samples.{defined, program_of, computing, seen, stopped}
use Rattle.tac_ir.specs.declared.instruction.Mode.TheVariants.{Named, Unchecked, Judged}
use Rattle.tac_ir.specs.declared.instruction.Test.TheVariants as test
use Rattle.tac_ir.specs.declared.instruction.RightOperand.TheVariants.{One}
use Rattle.tac_ir.specs.declared.instruction.Instruction.{Instruction}
use Rattle.tac_ir.specs.declared.instruction.Instruction.TheVariants as tac
use Rattle.tac_ir.specs.declared.key.Base.TheVariants as base
use Rattle.tac_ir.specs.declared.function.CodeFunction.{CodeFunction}
use Rattle.tac_ir.specs.declared.function.Tac.{Tac}
use Rattle.tac_ir.specs.Bodies.{no_nodes}
use Rattle.tac_ir.specs.Temporaries.{temporaries}
use Rattle.tac_ir.specs.Meaning.{tac_meaning}
use Rattle.source_meaning.specs.Calls.{function_at}
use Rattle.c_lower.specs.Programs.{result_in, height_in, LowersFunction, LowersAt, literals_of, IsLowered}

function_main : Function
function_main = defined 1 0 [] (plain_variable pointer ∷ plain_variable int ∷ object_variable int ∷ []) 328
    (declaration (with_value 0 (convert pointer (number 1 0)) ∷ [])
    ∷ declaration (without_value 1 ∷ [])
    ∷ for 1 (first_expression (set_plain 1 1 (number 1 0))) (Some (compare 1 Less (plain 1 int 1) (number 1 2))) (Some
    (step_plain 1 int (Arithmetic Add Int) Postfix 1)) (block_of 1 (declaration (without_value 2 ∷ [])
    ∷ if_then (compare 2 Equal (plain 2 pointer 0) (address 2 (lvalue 2 int (automatic 2)))) (block_of 2
    (expression_statement (library 2 int Putchar (number 2 61 ∷ []))
    ∷ return (Some (read (deref 2 int (plain 2 pointer 0))))
    ∷ []))
    ∷ expression_statement (assign 3 (lvalue 3 int (automatic 2)) (number 3 5))
    ∷ expression_statement (set_plain 3 0 (address 3 (lvalue 3 int (automatic 2))))
    ∷ []))
    ∷ return (Some (number 3 0))
    ∷ [])

program : Program
program = program_of
    []
    (function_type (Gives ∷ IntegerWord Int ∷ []) ([]) int
    ∷ [])
    (function_main ∷ [])
    0

-- its code, by node
code_with : (read : Instruction) → (more : List Instruction) → List Instruction
code_with read more =
    tac.Constant 0 0 1
    ∷ tac.Convert pointer 0 0 2
    ∷ tac.SetPlain 0 0 3
    ∷ tac.Constant 0 0 4
    ∷ tac.SetPlain 1 0 5
    ∷ tac.GetPlain 0 1 6
    ∷ tac.Constant 1 2 7
    ∷ tac.Binary Less Int 1 0 0 1 8
    ∷ tac.Branch 0 9 28
    ∷ tac.Turn (Some 0) 10
    ∷ tac.EnterBlock 0 1 11
    ∷ tac.GetPlain 0 0 12
    ∷ tac.HomePointer 1 2 13
    ∷ tac.Binary Equal UnsignedLong 2 0 0 1 14
    ∷ tac.Branch 0 15 19
    ∷ tac.Constant 0 61 16
    ∷ tac.Library Putchar 2 0 1 17
    ∷ tac.GetPlain 0 0 18
    ∷ read
    ∷ tac.HomePointer 0 2 20
    ∷ tac.Constant 1 5 21
    ∷ tac.Write int Named 3 None 0 0 1 22
    ∷ tac.HomePointer 0 2 23
    ∷ tac.SetPlain 0 0 24
    ∷ tac.LeaveBlock 0 27
    ∷ tac.LeaveBlock 0 28
    ∷ tac.LeaveBlock 0 30
    ∷ tac.UpdatePlain (Arithmetic Add Int) (Integer Int) Postfix 1 0 1 One 5
    ∷ tac.Constant 0 0 30
    ∷ tac.ZeroOf int 0 30
    ∷ tac.Return 0
    ∷ more

function_with : List Instruction → CodeFunction
function_with code = record {
  line = 1;
  type_number = 0;
  parameters = [];
  variables = plain_variable pointer ∷ plain_variable int ∷ object_variable int ∷ [];
  entered = plain_variable pointer ∷ plain_variable int ∷ no_variable ∷ [];
  room = 328;
  entry = 0;
  code = code;
  keys = record { base = base.Plain 0; path = []; constant = 0; scaled = None } ∷ [];
  blocks = (2 ∷ []) ∷ [];
  loops = record {
    variable = 1;
    start = 0;
    bound = 2;
    setting = 3;
    condition = 5;
    turn = 9;
    step = 27;
    body = record { start = 10; end = 27 };
    added = no_nodes;
  } ∷ [];
}

code_of : List Instruction → Tac
code_of code = record
    { functions = function_with code ∷ []; results = int ∷ []; main = 0; statics = []; global_bytes = 0; texts = [] }

lowered_code : Tac
lowered_code = code_of (code_with (tac.Read int Unchecked 2 (Some 0) 0 0 26) [])

-- with its checks
checked_code : Tac
checked_code = code_of
    (code_with (tac.Judge test.Spatial 4 2 (Some 0) 0 31)
    (tac.Judge test.Temporal 4 2 (Some 0) 0 32 ∷ tac.Read int Judged 2 (Some 0) 0 0 26 ∷ []))

-- the temporaries of all instructions
are_most : ℕ → List Instruction → Bool
are_most h [] = true
are_most h (i ∷ is) = nat_le (temporaries i) h && are_most h is

each_most : (h : ℕ) (code : List Instruction) → are_most h code ≡ true → (n : ℕ) (i : Instruction)
    → slice_get code n ≡ Some i → temporaries i ≤ h
unfolding are_most
each_most h [] e n i is = cc
each_most h (j ∷ js) e zero i is = let q = both (nat_le (temporaries j) h) (are_most h js) e in let same : j
    ≡ i = cc in subst (λ k. temporaries k ≤ h) same (leb-true (temporaries j) h q.0)
each_most h (j ∷ js) e (suc n) i is = each_most h js (both (nat_le (temporaries j) h) (are_most h js) e).1 n i is

run : seen (meaning program default_sizes [] 20)
    ≡ stopped (codes "=") (codes "sbcets: temporal violation at line 2\n") 121
unfolding program function_main computing
run = refl

lowered_run : seen (tac_meaning lowered_code default_sizes [] 80)
    ≡ stopped (codes "=") (codes "sbcets: temporal violation at line 2\n") 121
unfolding lowered_code code_of function_with code_with computing
lowered_run = refl

checked_run : seen (tac_meaning checked_code default_sizes [] 80)
    ≡ stopped (codes "=") (codes "sbcets: temporal violation at line 2\n") 121
unfolding checked_code code_of function_with code_with computing
checked_run = refl

body : LowersFunction [] [] int 2 function_main (function_with (code_with
    (tac.Read int Unchecked 2 (Some 0) 0 0 26) []))
unfolding function_main function_with code_with are_most constant_word computing
body = record {
  header = refl;
  homes = each_most 2 (code_with (tac.Read int Unchecked 2 (Some 0) 0 0 26) []) refl;
  body = (
    29,
    30,
    (
      3,
      (3, (2, (1, refl, refl), refl), refl),
      (
        3,
        (3, refl, refl),
        (
          28,
          (
            3,
            5,
            9,
            10,
            27,
            (record { next = 28; breaks = 29; continues = 29; returns = 30 }),
            Some 0,
            (None, tt, refl, refl),
            (4, refl, refl),
            (8, (6, 7, refl, refl, refl), refl),
            refl,
            (record { start = 10; end = 27 }, no_nodes, refl),
            refl,
            (
              11,
              (record { next = 24; breaks = 25; continues = 24; returns = 26 }),
              (Some 0, refl, refl, (refl, refl, refl, refl)),
              (
                11,
                (11, refl, refl),
                (
                  19,
                  (
                    15,
                    (14, (12, 13, refl, refl, refl), refl),
                    (
                      15,
                      record { next = 19; breaks = 25; continues = 24; returns = 26 },
                      (None, tt, refl, refl),
                      (
                        17,
                        (16, (16, 16, refl, refl, refl), refl),
                        (19, (26, (18, Some 0, refl, refl, refl), refl), refl),
                      ),
                    ),
                  ),
                  (22, (20, 21, None, tt, refl, refl, refl), (24, (23, refl, refl), refl)),
                ),
              ),
            ),
          ),
          (29, (30, refl, refl), refl),
        ),
      ),
    ),
    refl,
    refl,
  );
}

functions_lowered : (f : ℕ) → LowersAt lowered_code.texts (literals_of program.statics)
    (result_in lowered_code.results (function_at program.functions f))
    (height_in program.statics f (function_at program.functions f)) (function_at program.functions f)
    (slice_get lowered_code.functions f)
unfolding program lowered_code code_of function_main computing
functions_lowered zero = body
functions_lowered (suc f) = tt

lowered : IsLowered program lowered_code
unfolding program lowered_code code_of function_main function_with computing
lowered = record {
  headers = refl;
  results = refl;
  main = refl;
  bytes = refl;
  statics = λ budgets. refl;
  functions =
      functions_lowered;
}
