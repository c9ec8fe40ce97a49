-- What an expression or an lvalue itself does, once its operands are there: one instruction, or none.
use Rattle.std.specs.Prelude.{◌≡◌, ℕ, ◌+◌, ◌*◌, Bool, true, false, List, [], ◌∷◌, Option, Some, None}
use Rattle.c_tree.specs.declared.expression.Kind.{Kind}
use Rattle.c_tree.specs.declared.expression.Fixity.TheVariants.{Prefix}
use Rattle.c_tree.specs.Tree.{Node, constant, function, plain, read}
use Rattle.c_tree.specs.Tree.{decay, address, parenthesized, deref_function, address_function, cast, convert, unary}
use Rattle.c_tree.specs.Tree.{binary, offset_by, difference, logical_and, logical_or, comma, conditional, assign}
use Rattle.c_tree.specs.Tree.{assign_plain, compound, change_plain, step, step_plain, call, call_through, library}
use Rattle.c_tree.specs.Tree.{printf, LvalueNode, automatic, static, deref, index, member, arrow, member_of_value}
use Rattle.c_tree.specs.Tree.{parenthesized_lvalue, kind_of, lvalue_kind, lvalue_line}
use Rattle.source_meaning.specs.Actions.{scalar_of, integer_type}
use Rattle.source_meaning.specs.Expressions.{is_judged}
use Rattle.tac_ir.specs.declared.instruction.Instruction.{Instruction}
use Rattle.tac_ir.specs.declared.instruction.RightOperand.TheVariants.{Temporary, One}
use Rattle.tac_ir.specs.declared.instruction.Instruction.TheVariants as tac
use Rattle.tac_ir.specs.declared.key.Key.{Key}
use Rattle.c_lower.specs.Keys.{read_key, write_key}
use Rattle.c_lower.specs.Placed.{Placed, HasAt}
use Rattle.c_lower.specs.Conversions.{keeps}
use Rattle.c_lower.specs.Values.{KeyIs, LowersTaking, mode_for, count}
use Rattle.program_lowering.specs.declared.expressions.emitter.Emitter.{Emitter}
use Rattle.program_lowering.specs.ExpressionCode.Enclosed.{Leads, SameNodes}
use Rattle.program_lowering.specs.ExpressionCode.Weights.{no_weight, taking_weight, returning_weight}
use Rattle.program_lowering.specs.ExpressionCode.Emitted.{Stays, Fills, Emits}

-- the key of its access
abbrev pub key_in : (literals : List Bool) → Node → Option Key
key_in ls (read p) = read_key ls p
key_in ls (assign p a) = write_key ls p a
key_in ls (compound u p a) = write_key ls p a
key_in ls (step u fixity p) = read_key ls p
key_in ls n = None

-- a conversion, unless it leaves each value as it is
abbrev pub conversion_in : (keeps : Bool) → Kind → (d next : ℕ) → Option Instruction
conversion_in true kind d m = None
conversion_in false kind d m = Some (tac.Convert kind d d m)

-- with the number of that key, and that of its format
abbrev pub last_in : Node → Kind → (line d : ℕ) → (key : Option ℕ) → (text next : ℕ) → Option Instruction
last_in (constant w) kind line d key text m = Some (tac.Constant d w m)
last_in (function f) kind line d key text m = Some (tac.FunctionPointer d f m)
last_in (plain x) kind line d key text m = Some (tac.GetPlain d x m)
last_in (read p) kind line d key text m =
    Some (tac.Read (lvalue_kind p) (mode_for (is_judged p)) (lvalue_line p) key d d m)
last_in (decay p) kind line d key text m = None
last_in (address p) kind line d key text m = None
last_in (parenthesized a) kind line d key text m = None
last_in (deref_function a) kind line d key text m = None
last_in (address_function a) kind line d key text m = None
last_in (cast a) kind line d key text m = conversion_in (keeps (kind_of a) kind) kind d m
last_in (convert a) kind line d key text m = conversion_in (keeps (kind_of a) kind) kind d m
last_in (unary op a) kind line d key text m = Some (tac.Unary op (integer_type (scalar_of (kind_of a))) d d m)
last_in (binary op a b) kind line d key text m =
    Some (tac.Binary op (integer_type (scalar_of (kind_of a))) line d d (d + 1) m)
last_in (offset_by form size a b) kind line d key text m = Some (tac.Offset form size d d (d + 1) m)
last_in (difference size a b) kind line d key text m = Some (tac.Difference size d d (d + 1) m)
last_in (logical_and a b) kind line d key text m = None
last_in (logical_or a b) kind line d key text m = None
last_in (comma a b) kind line d key text m = None
last_in (conditional a b e) kind line d key text m = None
last_in (assign p a) kind line d key text m =
    Some (tac.Write (lvalue_kind p) (mode_for (is_judged p)) (lvalue_line p) key d d (d + 1) m)
last_in (assign_plain x a) kind line d key text m = Some (tac.SetPlain x.variable d m)
last_in (compound u p a) kind line d key text m =
    Some (tac.Update u (scalar_of (lvalue_kind p)) Prefix (mode_for (is_judged p)) (lvalue_line p) line key d d
    (Temporary (d + 1)) m)
last_in (change_plain u x a) kind line d key text m =
    Some (tac.UpdatePlain u (scalar_of kind) Prefix line d x.variable (Temporary d) m)
last_in (step u fixity p) kind line d key text m =
    Some (tac.Update u (scalar_of (lvalue_kind p)) fixity (mode_for (is_judged p)) (lvalue_line p) line key d d One m)
last_in (step_plain u fixity x) kind line d key text m =
    Some (tac.UpdatePlain u (scalar_of kind) fixity line d x.variable One m)
last_in (call f es) kind line d key text m = Some (tac.Call f line d (count es) m)
last_in (call_through type a es) kind line d key text m = Some (tac.CallThrough type line d (count es) m)
last_in (library routine es) kind line d key text m = Some (tac.Library routine line d (count es) m)
last_in (printf format es) kind line d key text m = Some (tac.Print text line d (count es) m)

abbrev pub last_at : LvalueNode → (d next : ℕ) → Option Instruction
last_at (automatic x) d m = Some (tac.HomePointer d x m)
last_at (static n) d m = Some (tac.StaticPointer d n m)
last_at (deref a) d m = None
last_at (index form size a b) d m = Some (tac.Offset form size d d (d + 1) m)
last_at (member p offset size) d m = Some (tac.Member offset size d d m)
last_at (arrow a offset size) d m = Some (tac.Narrow offset size d d m)
last_at (member_of_value a offset size) d m = Some (tac.Member offset size d d m)
last_at (parenthesized_lvalue p) d m = None

-- the number of a key in the table
pub record KeyAdded (before after : Emitter) (key : Option Key) (number : Option ℕ) : Type 0 where
  pub emits : Emits before after 0 no_weight
  pub same : SameNodes before after
  pub is : (c : Placed) → Fills after c → KeyIs c.keys number key

-- the number of a format or a literal among the texts, whatever texts come later
pub record TextAdded (before after : Emitter) (text : List ℕ) (number : ℕ) : Type 0 where
  pub emits : Emits before after 0 no_weight
  pub same : SameNodes before after
  pub is : (texts : List (List ℕ)) → Stays after.texts.items texts → HasAt texts number text

abbrev pub TextIs : (texts : List (List ℕ)) → Node → (number : ℕ) → Type 0
TextIs texts (printf format es) n = HasAt texts n format
TextIs texts node n = Unit {0}

-- of an expression that has a format
pub record FormatAdded (before after : Emitter) (node : Node) (number : ℕ) : Type 0 where
  pub emits : Emits before after 0 no_weight
  pub same : SameNodes before after
  pub is : (texts : List (List ℕ)) → Stays after.texts.items texts → TextIs texts node number

-- the contents of a structure are taken, as those of a value that a function returns are into the first temporary
pub record TakingCode (before after : Emitter) (kind : Kind) (line d n0 n1 : ℕ) : Type 0 where
  pub emits : Emits before after (d + 1) (taking_weight kind)
  pub leads : Leads before after (n0 ∷ []) (n1 ∷ []) []
  pub returns : d ≡ 0 → Emits before after (d + 1) (returning_weight kind)
  pub stands : (c : Placed) → Fills after c → LowersTaking c kind line d n0 n1

-- where both operands of `&&` or `||` lead: its values, and the test of the second operand
pub record Outcomes (before after : Emitter) (d zero one test next : ℕ) : Type 0 where
  pub emits : Emits before after (d + 1) (λ w. w.branch + 2 * w.constant)
  pub leads : Leads before after (zero ∷ one ∷ test ∷ []) (next ∷ []) []
  pub gives_zero : (c : Placed) → Fills after c → HasAt c.code zero (tac.Constant d 0 next)
  pub gives_one : (c : Placed) → Fills after c → HasAt c.code one (tac.Constant d 1 next)
  pub tests : (c : Placed) → Fills after c → HasAt c.code test (tac.Branch d one zero)
