-- What is done at once: it takes the operands from the values that were found, and leaves its own value there.
use Rattle.std.specs.Prelude.{ℕ, ◌+◌, Bool, false, not, List, [], ◌∷◌, take, drop, reverse, length}
use Rattle.obj_memory.specs.declared.int_type.IntType.{IntType}
use Rattle.obj_memory.specs.declared.operator.BinaryOperator.{BinaryOperator}
use Rattle.obj_memory.specs.declared.operator.UnaryOperator.{UnaryOperator}
use Rattle.obj_memory.specs.declared.value.Scalar.{Scalar}
use Rattle.obj_memory.specs.declared.value.Value.{Value}
use Rattle.obj_memory.specs.Judgement.{narrowed}
use Rattle.obj_memory.specs.Objects.{pointer_to}
use Rattle.obj_memory.specs.Operators.{one_if, unary_value}
use Rattle.c_tree.specs.declared.expression.Fixity.{Fixity}
use Rattle.c_tree.specs.declared.expression.Kind.{Kind}
use Rattle.c_tree.specs.declared.expression.OffsetForm.{OffsetForm}
use Rattle.c_tree.specs.declared.expression.Routine.{Routine}
use Rattle.c_tree.specs.declared.expression.Update.{Update}
use Rattle.c_tree.specs.Blocks.{all_of, block_objects}
use Rattle.c_tree.specs.Kinds.{size_of_kind}
use Rattle.source_meaning.specs.State.{Rvalue, Run, ◌>>=◌, ◌>>◌, done, read_state, change, tally}
use Rattle.source_meaning.specs.Actions.{converted, difference_value, home_pointer, integer, is_zero, offset_value}
use Rattle.source_meaning.specs.Actions.{operate, plain_value, set_plain, update, update_plain, updated}
use Rattle.source_meaning.specs.Structures.{as_rvalue, give, member_of, read_rvalue, take_value, values_of}
use Rattle.source_meaning.specs.Structures.{write_rvalue}
use Rattle.source_meaning.specs.Library.{routine}
use Rattle.source_meaning.specs.Printing.{print_formatted}
use Rattle.source_meaning.specs.Initializers.{store_bytes, zero_variable}
use Rattle.source_meaning.specs.Blocks.{Block, enter_block, leave_block}
use Rattle.source_meaning.specs.Statements.{Completion, Returned, after_switch}
use Rattle.source_meaning.specs.Calls.{back_to, result_of, returned_by}
use Rattle.interpreter_tasks.specs.Registers.{Course, Waiting, Registers, top, second, below_top, below_second, popped}
use Rattle.interpreter_tasks.specs.Registers.{completed, pushing}

pub data Action : Type 0 where
  -- some work
  Count : (work : ℕ) → Action
  -- a value, that of a plain variable, the pointer to the object of a variable, and to a static object
  Give : Value → Action
  GivePlain : (variable : ℕ) → Action
  GiveHome : (variable : ℕ) → Action
  GiveStatic : (object : ℕ) → Action
  -- what the lvalue on top holds
  Read : Kind → (is_judged : Bool) → (line : ℕ) → Action
  -- the value on top alone, without contents; converted; under an operator; whether it is not zero
  AsPointer : Action
  Convert : Kind → Action
  Apply : UnaryOperator → IntType → Action
  Truth : Action
  -- a member of what the pointer on top points to, and of the contents on top
  Narrow : (offset size : ℕ) → Action
  Member : (offset size : ℕ) → Action
  -- two operands, the right one on top
  Operate : BinaryOperator → IntType → (line : ℕ) → Action
  Offset : OffsetForm → (size : ℕ) → Action
  Difference : (size : ℕ) → Action
  -- the value on top is let go
  Drop : Action
  -- the value on top is stored through the pointer below it, or in a plain variable
  Write : Kind → (is_judged : Bool) → (line : ℕ) → Action
  SetPlain : (variable : ℕ) → Action
  -- what is there is updated by the operand on top: through the pointer below it, or in a plain variable
  Change : Update → Scalar → (is_judged : Bool) → (place_line line : ℕ) → Fixity → Action
  ChangePlain : Update → Scalar → (variable line : ℕ) → Fixity → Action
  -- the value on top as an argument or a result, of a structure with its contents
  Take : Kind → (line : ℕ) → Action
  -- a routine of the library, and `printf`, with so many arguments
  CallRoutine : Routine → (count line : ℕ) → Action
  Print : (format : List ℕ) → (count line : ℕ) → Action
  -- how a statement completes: as said, by `return` with the value on top, or as a switch does
  Complete : Completion → Action
  Return : Action
  CompleteSwitch : Action
  -- the block that declares some variables is entered, and the innermost one is left
  Enter : (numbers : List ℕ) → (line : ℕ) → Action
  Leave : Action
  -- the object of a variable becomes zero; the value on top is stored in the object below it, and the bytes of a
  -- literal in the object on top
  Zero : (variable : ℕ) → Action
  StorePart : Kind → (offset line : ℕ) → Action
  StoreLiteral : (offset : ℕ) → List ℕ → Action
  -- the call returns to its caller
  LeaveCall : Action

-- so many values as arguments, the first one first
abbrev pub arguments : (count : ℕ) → List Rvalue → List Rvalue
arguments n vs = reverse (take n vs)

-- the innermost block is left, where there is one
abbrev pub leave_first : List Block → Registers → Run Registers
leave_first [] r = done r
leave_first (b ∷ bs) r = do
  change (leave_block b)
  done (record r { blocks = bs })

-- the innermost call returns, where there is one
abbrev pub leave_call : Course → List Waiting → Registers → Run Registers
leave_call c [] r = done r
leave_call c (w ∷ ws) r = do
  v ← returned_by (result_of c.setting r.activation.function.type_number) r.completion
  change (back_to w.caller)
  done (record {
    values = v ∷ r.values;
    completion = w.completion;
    blocks = r.blocks;
    waiting = ws;
    activation = w.activation;
  })

unfoldable pub act : Course → Action → Registers → Run Registers
act c (Count work) r = do
  tally work
  done r
act c (Give v) r = pushing r r.values (give v)
act c (GivePlain x) r = pushing r r.values (as_rvalue (read_state (plain_value x)))
act c (GiveHome x) r = pushing r r.values (as_rvalue (read_state (home_pointer x)))
act c (GiveStatic n) r = pushing r r.values (as_rvalue (read_state (λ s. pointer_to n s.objects)))
act c (Read kind is_judged line) r = pushing r (below_top r) (read_rvalue kind is_judged (top r) line)
act c AsPointer r = pushing r (below_top r) (give (top r).value)
act c (Convert kind) r = pushing r (below_top r) (give (converted kind (top r).value))
act c (Apply op t) r = pushing r (below_top r) (give (integer (unary_value op t (top r).value.word)))
act c Truth r = pushing r (below_top r) (give (integer (one_if (not (is_zero (top r).value)))))
act c (Narrow offset size) r = pushing r (below_top r) (give (narrowed offset size (top r).value))
act c (Member offset size) r = pushing r (below_top r) (done (member_of offset size (top r)))
act c (Operate op t line) r =
    pushing r (below_second r) (as_rvalue (operate op t (second r).value (top r).value line))
act c (Offset form size) r = pushing r (below_second r) (give (offset_value form size (second r).value (top r).value))
act c (Difference size) r = pushing r (below_second r) (give (difference_value size (second r).value (top r).value))
act c Drop r = done (popped r)
act c (Write kind is_judged line) r =
    pushing r (below_second r) (write_rvalue kind is_judged (second r).value line (top r))
act c (SetPlain x) r = pushing r (below_top r) (do
  set_plain x (top r).value
  give (top r).value)
act c (Change u k is_judged place_line line fixity) r = pushing r (below_second r)
    (as_rvalue (update k is_judged (second r).value place_line (updated u k (top r).value line) fixity))
act c (ChangePlain u k x line fixity) r =
    pushing r (below_top r) (as_rvalue (update_plain x (updated u k (top r).value line) fixity))
act c (Take kind line) r = pushing r (below_top r) (take_value kind line (top r))
act c (CallRoutine name n line) r = pushing r (drop n r.values) (do
  tally 1
  as_rvalue (routine c.setting name (values_of (arguments n r.values)) line))
act c (Print format n line) r = pushing r (drop n r.values) (do
  tally 1
  as_rvalue (print_formatted format (values_of (arguments n r.values)) line))
act c (Complete x) r = done (completed x r)
act c Return r = done (completed (Returned (top r)) (popped r))
act c CompleteSwitch r = done (completed (after_switch r.completion) r)
act c (Enter numbers line) r = do
  b ← enter_block c.setting (block_objects (all_of r.activation.function) numbers) line
  done (record r { blocks = b ∷ r.blocks })
act c Leave r = leave_first r.blocks r
act c (Zero x) r = do
  zero_variable x
  done r
act c (StorePart kind offset line) r = do
  write_rvalue kind false (narrowed offset (size_of_kind kind) (second r).value) line (top r)
  done (popped r)
act c (StoreLiteral offset bytes) r = do
  tally (1 + length bytes)
  store_bytes (top r).value offset bytes
  done r
act c LeaveCall r = leave_call c r.waiting r
