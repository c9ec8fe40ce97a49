-- What code weighs, where each kind of instruction has a weight of its own: with 1 for each kind, how many instructions
-- there are.
use Rattle.std.specs.Prelude.{◌≡◌, ◌≤◌, ℕ, zero, suc, ◌+◌, ◌*◌, Bool, true, false, List, [], ◌∷◌, Option, Some, None, slice_get}
use Rattle.obj_memory.specs.declared.value.Scalar.{Scalar}
use Rattle.c_tree.specs.declared.expression.Kind.{Kind}
use Rattle.c_tree.specs.declared.expression.Kind.TheVariants.{Void, Scalar as OfScalar, Structure, Array}
use Rattle.c_tree.specs.declared.expression.Routine.{Routine}
use Rattle.c_tree.specs.Tree.{Expression, Expressions, no_expressions, expressions, Lvalue, Node, constant, function}
use Rattle.c_tree.specs.Tree.{plain, read, decay, address, parenthesized, deref_function, address_function, cast}
use Rattle.c_tree.specs.Tree.{convert}
use Rattle.c_tree.specs.Tree.{unary, binary, offset_by, difference, logical_and, logical_or, comma, conditional, assign}
use Rattle.c_tree.specs.Tree.{assign_plain, compound, change_plain, step, step_plain, call, call_through, library}
use Rattle.c_tree.specs.Tree.{printf, LvalueNode, automatic, static, deref, index, member, arrow, member_of_value}
use Rattle.c_tree.specs.Tree.{parenthesized_lvalue, kind_of, lvalue_kind}
use Rattle.c_tree.specs.Walk.{Visited, visited, visited_lvalue, walk, walk_lvalue, sum_of}
use Rattle.source_meaning.specs.Actions.{scalar_of}
use Rattle.source_meaning.specs.Expressions.{is_judged}
use Rattle.tac_ir.specs.declared.instruction.Mode.{Mode}
use Rattle.tac_ir.specs.declared.instruction.Instruction.{Instruction}
use Rattle.tac_ir.specs.declared.instruction.Instruction.TheVariants as tac
use Rattle.c_lower.specs.Conversions.{keeps}
use Rattle.c_lower.specs.Values.{count, mode_for}

-- The weight of each kind of instruction: that of an access by what it reads, writes or updates, and how it finds its
-- place; that of what sets or updates a plain variable by the variable; that of a call by the function, or its type, and the
-- number of its arguments; that of what names a text by the
-- text, where there is one. The contents of a structure weigh by themselves where they are taken into the first
-- temporary, which values that functions return are.
pub record Weights : Type 0 where
  pub skip : ℕ
  pub constant : ℕ
  pub function_pointer : ℕ
  pub get_plain : ℕ
  pub set_plain : (variable : ℕ) → ℕ
  pub update_plain : (variable : ℕ) → Scalar → ℕ
  pub home_pointer : ℕ
  pub static_pointer : ℕ
  pub zero_of : Kind → ℕ
  pub convert : Kind → ℕ
  pub unary : ℕ
  pub binary : ℕ
  pub offset : ℕ
  pub difference : ℕ
  pub narrow : ℕ
  pub member : ℕ
  pub take : Kind → ℕ
  pub take_first : Kind → ℕ
  pub read : Kind → Mode → ℕ
  pub write : Kind → Mode → ℕ
  pub update : Scalar → Mode → ℕ
  pub check : ℕ
  pub zero : ℕ
  pub store_part : Kind → ℕ
  pub store_text : (bytes : Option (List ℕ)) → ℕ
  pub branch : ℕ
  pub case : ℕ
  pub turn : ℕ
  pub library : Routine → ℕ
  pub print : (format : Option (List ℕ)) → ℕ
  pub call : (function arguments : ℕ) → ℕ
  pub call_through : (type_number arguments : ℕ) → ℕ
  pub enter_block : ℕ
  pub leave_block : ℕ
  pub return : ℕ

abbrev pub taken_into : (temporary : ℕ) → Kind → Weights → ℕ
taken_into zero kind w = w.take_first kind
taken_into (suc d) kind w = w.take kind

-- in a program with these texts; a node that waits will be that of a turn
abbrev pub weight_of : (texts : List (List ℕ)) → Instruction → Weights → ℕ
weight_of texts tac.Reserved w = w.turn
weight_of texts (tac.Skip next) w = w.skip
weight_of texts (tac.Constant d n next) w = w.constant
weight_of texts (tac.FunctionPointer d f next) w = w.function_pointer
weight_of texts (tac.GetPlain d x next) w = w.get_plain
weight_of texts (tac.SetPlain x a next) w = w.set_plain x
weight_of texts (tac.UpdatePlain u k f line d x right next) w = w.update_plain x k
weight_of texts (tac.HomePointer d x next) w = w.home_pointer
weight_of texts (tac.StaticPointer d n next) w = w.static_pointer
weight_of texts (tac.ZeroOf kind d next) w = w.zero_of kind
weight_of texts (tac.Convert kind d a next) w = w.convert kind
weight_of texts (tac.Unary op t d a next) w = w.unary
weight_of texts (tac.Binary op t line d a b next) w = w.binary
weight_of texts (tac.Offset form size d a b next) w = w.offset
weight_of texts (tac.Difference size d a b next) w = w.difference
weight_of texts (tac.Narrow offset size d a next) w = w.narrow
weight_of texts (tac.Member offset size d a next) w = w.member
weight_of texts (tac.Take kind line d a next) w = taken_into d kind w
weight_of texts (tac.Read kind mode line key d a next) w = w.read kind mode
weight_of texts (tac.Write kind mode line key d a b next) w = w.write kind mode
weight_of texts (tac.Update u k f mode line at key d a right next) w = w.update k mode
weight_of texts (tac.Judge test size line key a next) w = w.check
weight_of texts (tac.Zero x next) w = w.zero
weight_of texts (tac.StorePart kind line x offset a next) w = w.store_part kind
weight_of texts (tac.StoreText n x offset next) w = w.store_text (slice_get texts n)
weight_of texts (tac.Branch a x y) w = w.branch
weight_of texts (tac.Case a n x y) w = w.case
weight_of texts (tac.Turn counted next) w = w.turn
weight_of texts (tac.Library r line d n next) w = w.library r
weight_of texts (tac.Print t line d n next) w = w.print (slice_get texts t)
weight_of texts (tac.Call f line d n next) w = w.call f n
weight_of texts (tac.CallThrough type line d n next) w = w.call_through type n
weight_of texts (tac.EnterBlock block line next) w = w.enter_block
weight_of texts (tac.LeaveBlock block next) w = w.leave_block
weight_of texts (tac.Return a) w = w.return

abbrev pub code_weight : (texts : List (List ℕ)) → List Instruction → Weights → ℕ
code_weight texts [] w = 0
code_weight texts (i ∷ is) w = weight_of texts i w + code_weight texts is w

abbrev pub weight_if : (texts : List (List ℕ)) → Option Instruction → Weights → ℕ
weight_if texts None w = 0
weight_if texts (Some i) w = weight_of texts i w

abbrev pub no_weight : Weights → ℕ
no_weight w = 0

-- contents weigh as much in the first temporary as in any other, or no more
pub record IsEven (w : Weights) : Type 0 where
  pub by : (kind : Kind) → w.take_first kind ≡ w.take kind

pub record SparesFirst (w : Weights) : Type 0 where
  pub by : (kind : Kind) → w.take_first kind ≤ w.take kind

-- Code weighs as much as its text where contents do so in any temporary. A text does not say into which its arguments
-- are taken, and code weighs no more than it where they weigh no more in the first.
pub record Weighs (w : Weights) (code text : ℕ) : Type 0 where
  pub exactly : IsEven w → code ≡ text
  pub at_most : SparesFirst w → code ≤ text

-- what the instructions of expressions weigh together

-- the contents of a structure that is an argument are taken by an instruction
abbrev pub taking_weight : Kind → Weights → ℕ
taking_weight Void w = 0
taking_weight (OfScalar k) w = 0
taking_weight (Structure size) w = w.take (Structure size)
taking_weight (Array size) w = 0

-- those of one that a function returns, into the first temporary
abbrev pub returning_weight : Kind → Weights → ℕ
returning_weight Void w = 0
returning_weight (OfScalar k) w = 0
returning_weight (Structure size) w = w.take_first (Structure size)
returning_weight (Array size) w = 0

abbrev pub takings_weight : Expressions → Weights → ℕ
takings_weight no_expressions w = 0
takings_weight (expressions e es) w = taking_weight (kind_of e) w + takings_weight es w

-- a conversion weighs nothing where it leaves each value as it is
abbrev pub conversion_weight : (keeps : Bool) → Kind → Weights → ℕ
conversion_weight true kind w = 0
conversion_weight false kind w = w.convert kind

-- `&&` and `||` have both values and two branches, `?:` has one branch, and each other expression at most one
-- instruction of its own
abbrev pub own_weight : Kind → Node → Weights → ℕ
own_weight kind (constant n) w = w.constant
own_weight kind (function f) w = w.function_pointer
own_weight kind (plain x) w = w.get_plain
own_weight kind (read p) w = w.read (lvalue_kind p) (mode_for (is_judged p))
own_weight kind (decay p) w = 0
own_weight kind (address p) w = 0
own_weight kind (parenthesized a) w = 0
own_weight kind (deref_function a) w = 0
own_weight kind (address_function a) w = 0
own_weight kind (cast a) w = conversion_weight (keeps (kind_of a) kind) kind w
own_weight kind (convert a) w = conversion_weight (keeps (kind_of a) kind) kind w
own_weight kind (unary op a) w = w.unary
own_weight kind (binary op a b) w = w.binary
own_weight kind (offset_by form size a b) w = w.offset
own_weight kind (difference size a b) w = w.difference
own_weight kind (logical_and a b) w = 2 * w.branch + 2 * w.constant
own_weight kind (logical_or a b) w = 2 * w.branch + 2 * w.constant
own_weight kind (comma a b) w = 0
own_weight kind (conditional a b e) w = w.branch
own_weight kind (assign p a) w = w.write (lvalue_kind p) (mode_for (is_judged p))
own_weight kind (assign_plain x a) w = w.set_plain x.variable
own_weight kind (compound u p a) w = w.update (scalar_of (lvalue_kind p)) (mode_for (is_judged p))
own_weight kind (change_plain u x a) w = w.update_plain x.variable (scalar_of kind)
own_weight kind (step u fixity p) w = w.update (scalar_of (lvalue_kind p)) (mode_for (is_judged p))
own_weight kind (step_plain u fixity x) w = w.update_plain x.variable (scalar_of kind)
own_weight kind (call f es) w = w.call f (count es) + takings_weight es w
own_weight kind (call_through type a es) w = w.call_through type (count es) + takings_weight es w
own_weight kind (library routine es) w = w.library routine + takings_weight es w
own_weight kind (printf format es) w = w.print (Some format) + takings_weight es w

abbrev pub place_weight : LvalueNode → Weights → ℕ
place_weight (automatic x) w = w.home_pointer
place_weight (static n) w = w.static_pointer
place_weight (deref a) w = 0
place_weight (index form size a b) w = w.offset
place_weight (member p offset size) w = w.member
place_weight (arrow a offset size) w = w.narrow
place_weight (member_of_value a offset size) w = w.member
place_weight (parenthesized_lvalue p) w = 0

abbrev pub weight_made : Weights → Visited → List ℕ → ℕ
weight_made w (visited kind node) ns = own_weight kind node w + sum_of ns
weight_made w (visited_lvalue kind node) ns = place_weight node w + sum_of ns

abbrev pub expression_weight : Expression → Weights → ℕ
expression_weight e w = walk (weight_made w) e

abbrev pub lvalue_weight : Lvalue → Weights → ℕ
lvalue_weight p w = walk_lvalue (weight_made w) p

abbrev pub arguments_weight : Expressions → Weights → ℕ
arguments_weight no_expressions w = 0
arguments_weight (expressions e es) w = expression_weight e w + taking_weight (kind_of e) w + arguments_weight es w

-- with a weight of 1 for each
abbrev pub each_one : Weights
each_one = record {
  skip = 1;
  constant = 1;
  function_pointer = 1;
  get_plain = 1;
  set_plain = λ x. 1;
  update_plain = λ x k. 1;
  home_pointer = 1;
  static_pointer = 1;
  zero_of = λ kind. 1;
  convert = λ kind. 1;
  unary = 1;
  binary = 1;
  offset = 1;
  difference = 1;
  narrow = 1;
  member = 1;
  take = λ kind. 1;
  take_first = λ kind. 1;
  read = λ kind mode. 1;
  write = λ kind mode. 1;
  update = λ k mode. 1;
  check = 1;
  zero = 1;
  store_part = λ kind. 1;
  store_text = λ bytes. 1;
  branch = 1;
  case = 1;
  turn = 1;
  library = λ r. 1;
  print = λ format. 1;
  call = λ f n. 1;
  call_through = λ type n. 1;
  enter_block = 1;
  leave_block = 1;
  return = 1;
}
