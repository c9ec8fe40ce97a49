-- Where the code of expressions and lvalues stands: from one node to another it puts a value into a temporary, and
-- changes none below it. The nodes between are whatever they are.
use Rattle.std.specs.Prelude.{◌≡◌, ℕ, suc, ◌+◌, Bool, true, false, List, Option, Some, None}
use Rattle.c_tree.specs.declared.expression.Kind.{Kind}
use Rattle.c_tree.specs.declared.expression.Kind.TheVariants.{Void, Scalar as OfScalar, Structure, Array}
use Rattle.c_tree.specs.declared.expression.Fixity.TheVariants.{Prefix}
use Rattle.c_tree.specs.Tree.{Expression, expression, Expressions, no_expressions, expressions, Lvalue, lvalue, Node}
use Rattle.c_tree.specs.Tree.{constant, function, plain, read, decay, address, parenthesized, deref_function}
use Rattle.c_tree.specs.Tree.{address_function, cast, convert, unary, binary, offset_by, difference, logical_and}
use Rattle.c_tree.specs.Tree.{logical_or, comma, conditional, assign, assign_plain, compound, change_plain, step}
use Rattle.c_tree.specs.Tree.{step_plain, call, call_through, library, printf, LvalueNode, automatic, static, deref}
use Rattle.c_tree.specs.Tree.{index, member, arrow, member_of_value, parenthesized_lvalue, kind_of, line_of}
use Rattle.c_tree.specs.Tree.{lvalue_kind, lvalue_line}
use Rattle.source_meaning.specs.Actions.{scalar_of, integer_type}
use Rattle.source_meaning.specs.Expressions.{is_judged}
use Rattle.tac_ir.specs.declared.instruction.Mode.{Mode}
use Rattle.tac_ir.specs.declared.instruction.Mode.TheVariants.{Named, Unchecked}
use Rattle.tac_ir.specs.declared.instruction.RightOperand.TheVariants.{Temporary, One}
use Rattle.tac_ir.specs.declared.instruction.Instruction.TheVariants as tac
use Rattle.tac_ir.specs.declared.key.Key.{Key}
use Rattle.c_lower.specs.Placed.{Placed, Holds, HasAt}
use Rattle.c_lower.specs.Keys.{read_key, write_key}
use Rattle.c_lower.specs.Conversions.{keeps}

abbrev pub mode_for : (is_judged : Bool) → Mode
mode_for true = Unchecked
mode_for false = Named

-- the number of a key in the table, where there is one
abbrev pub KeyIs : List Key → Option ℕ → Option Key → Type 0
KeyIs keys None None = Unit {0}
KeyIs keys None (Some key) = ⊥
KeyIs keys (Some n) None = ⊥
KeyIs keys (Some n) (Some key) = HasAt keys n key

-- the value of a structure is taken with its contents
abbrev pub LowersTaking : Placed → Kind → (line d n0 n1 : ℕ) → Type 0
LowersTaking c Void line d n0 n1 = n0 ≡ n1
LowersTaking c (OfScalar k) line d n0 n1 = n0 ≡ n1
LowersTaking c (Structure size) line d n0 n1 = Holds c n0 (tac.Take (Structure size) line d d n1)
LowersTaking c (Array size) line d n0 n1 = n0 ≡ n1

-- a value is converted, unless it stays as it is
abbrev pub Converts : Placed → (keeps : Bool) → Kind → (d n0 n1 : ℕ) → Type 0
Converts c true kind d n0 n1 = n0 ≡ n1
Converts c false kind d n0 n1 = Holds c n0 (tac.Convert kind d d n1)

abbrev pub count : Expressions → ℕ
count no_expressions = 0
count (expressions e es) = suc (count es)

abbrev mutual
  pub LowersExpression : Placed → Expression → (d n0 n1 : ℕ) → Type 0
  LowersExpression c (expression kind line node) d n0 n1 = LowersNode c node kind line d n0 n1

  pub LowersNode : Placed → Node → Kind → (line d n0 n1 : ℕ) → Type 0
  LowersNode c (constant w) kind line d n0 n1 = Holds c n0 (tac.Constant d w n1)
  LowersNode c (function f) kind line d n0 n1 = Holds c n0 (tac.FunctionPointer d f n1)
  LowersNode c (plain x) kind line d n0 n1 = Holds c n0 (tac.GetPlain d x n1)
  LowersNode c (read p) kind line d n0 n1 =
      (k : ℕ) × (key : Option ℕ) × KeyIs c.keys key (read_key c.literals p) × LowersLvalue c p d n0 k
      × Holds c k (tac.Read (lvalue_kind p) (mode_for (is_judged p)) (lvalue_line p) key d d n1)
  LowersNode c (decay p) kind line d n0 n1 = LowersLvalue c p d n0 n1
  LowersNode c (address p) kind line d n0 n1 = LowersLvalue c p d n0 n1
  LowersNode c (parenthesized a) kind line d n0 n1 = LowersExpression c a d n0 n1
  LowersNode c (deref_function a) kind line d n0 n1 = LowersExpression c a d n0 n1
  LowersNode c (address_function a) kind line d n0 n1 = LowersExpression c a d n0 n1
  LowersNode c (cast a) kind line d n0 n1 =
      (k : ℕ) × LowersExpression c a d n0 k × Converts c (keeps (kind_of a) kind) kind d k n1
  LowersNode c (convert a) kind line d n0 n1 =
      (k : ℕ) × LowersExpression c a d n0 k × Converts c (keeps (kind_of a) kind) kind d k n1
  LowersNode c (unary op a) kind line d n0 n1 =
      (k : ℕ) × LowersExpression c a d n0 k × Holds c k (tac.Unary op (integer_type (scalar_of (kind_of a))) d d n1)
  LowersNode c (binary op a b) kind line d n0 n1 =
      (ka : ℕ) × (kb : ℕ) × LowersExpression c a d n0 ka × LowersExpression c b (d + 1) ka kb
      × Holds c kb (tac.Binary op (integer_type (scalar_of (kind_of a))) line d d (d + 1) n1)
  LowersNode c (offset_by form size a b) kind line d n0 n1 =
      (ka : ℕ) × (kb : ℕ) × LowersExpression c a d n0 ka × LowersExpression c b (d + 1) ka kb
      × Holds c kb (tac.Offset form size d d (d + 1) n1)
  LowersNode c (difference size a b) kind line d n0 n1 =
      (ka : ℕ) × (kb : ℕ) × LowersExpression c a d n0 ka × LowersExpression c b (d + 1) ka kb
      × Holds c kb (tac.Difference size d d (d + 1) n1)
  -- both ways of each operand stand, of a constant one too
  LowersNode c (logical_and a b) kind line d n0 n1 =
      (k1 : ℕ) × (k2 : ℕ) × (kb : ℕ) × (zero : ℕ) × (one : ℕ) × LowersExpression c a d n0 k1
      × Holds c k1 (tac.Branch d kb zero)
      × LowersExpression c b d kb k2 × Holds c k2 (tac.Branch d one zero) × Holds c zero (tac.Constant d 0 n1)
      × Holds c one (tac.Constant d 1 n1)
  LowersNode c (logical_or a b) kind line d n0 n1 =
      (k1 : ℕ) × (k2 : ℕ) × (kb : ℕ) × (zero : ℕ) × (one : ℕ) × LowersExpression c a d n0 k1
      × Holds c k1 (tac.Branch d one kb)
      × LowersExpression c b d kb k2 × Holds c k2 (tac.Branch d one zero) × Holds c zero (tac.Constant d 0 n1)
      × Holds c one (tac.Constant d 1 n1)
  LowersNode c (comma a b) kind line d n0 n1 = (k : ℕ) × LowersExpression c a d n0 k × LowersExpression c b d k n1
  LowersNode c (conditional a b e) kind line d n0 n1 =
      (k : ℕ) × (kb : ℕ) × (ke : ℕ) × LowersExpression c a d n0 k × Holds c k (tac.Branch d kb ke)
      × LowersExpression c b d kb n1 × LowersExpression c e d ke n1
  LowersNode c (assign p a) kind line d n0 n1 =
      (k1 : ℕ) × (k2 : ℕ) × (key : Option ℕ) × KeyIs c.keys key (write_key c.literals p a) × LowersLvalue c p d n0 k1
      × LowersExpression c a (d + 1) k1 k2
      × Holds c k2 (tac.Write (lvalue_kind p) (mode_for (is_judged p)) (lvalue_line p) key d d (d + 1) n1)
  LowersNode c (assign_plain x a) kind line d n0 n1 =
      (k : ℕ) × LowersExpression c a d n0 k × Holds c k (tac.SetPlain x.variable d n1)
  LowersNode c (compound u p a) kind line d n0 n1 =
      (k1 : ℕ) × (k2 : ℕ) × (key : Option ℕ) × KeyIs c.keys key (write_key c.literals p a) × LowersLvalue c p d n0 k1
      × LowersExpression c a (d + 1) k1 k2
      × Holds c k2 (tac.Update u (scalar_of (lvalue_kind p)) Prefix (mode_for (is_judged p)) (lvalue_line p) line key d
      d (Temporary (d + 1)) n1)
  LowersNode c (change_plain u x a) kind line d n0 n1 =
      (k : ℕ) × LowersExpression c a d n0 k
      × Holds c k (tac.UpdatePlain u (scalar_of kind) Prefix line d x.variable (Temporary d) n1)
  LowersNode c (step u fixity p) kind line d n0 n1 =
      (k : ℕ) × (key : Option ℕ) × KeyIs c.keys key (read_key c.literals p) × LowersLvalue c p d n0 k
      × Holds c k (tac.Update u (scalar_of (lvalue_kind p)) fixity (mode_for (is_judged p)) (lvalue_line p) line key d d
      One n1)
  LowersNode c (step_plain u fixity x) kind line d n0 n1 =
      Holds c n0 (tac.UpdatePlain u (scalar_of kind) fixity line d x.variable One n1)
  LowersNode c (call f args) kind line d n0 n1 =
      (k : ℕ) × LowersArguments c args d n0 k × Holds c k (tac.Call f line d (count args) n1)
  LowersNode c (call_through type_number a args) kind line d n0 n1 =
      (k1 : ℕ) × (k2 : ℕ) × LowersExpression c a d n0 k1 × LowersArguments c args (d + 1) k1 k2
      × Holds c k2 (tac.CallThrough type_number line d (count args) n1)
  LowersNode c (library routine args) kind line d n0 n1 =
      (k : ℕ) × LowersArguments c args d n0 k × Holds c k (tac.Library routine line d (count args) n1)
  LowersNode c (printf format args) kind line d n0 n1 =
      (k : ℕ) × (text : ℕ) × HasAt c.texts text format × LowersArguments c args d n0 k
      × Holds c k (tac.Print text line d (count args) n1)

  -- the pointer to what it designates, or the contents that it is of
  pub LowersLvalue : Placed → Lvalue → (d n0 n1 : ℕ) → Type 0
  LowersLvalue c (lvalue kind line node) d n0 n1 = LowersPlace c node d n0 n1

  pub LowersPlace : Placed → LvalueNode → (d n0 n1 : ℕ) → Type 0
  LowersPlace c (automatic x) d n0 n1 = Holds c n0 (tac.HomePointer d x n1)
  LowersPlace c (static n) d n0 n1 = Holds c n0 (tac.StaticPointer d n n1)
  LowersPlace c (deref a) d n0 n1 = LowersExpression c a d n0 n1
  LowersPlace c (index form size a b) d n0 n1 =
      (ka : ℕ) × (kb : ℕ) × LowersExpression c a d n0 ka × LowersExpression c b (d + 1) ka kb
      × Holds c kb (tac.Offset form size d d (d + 1) n1)
  LowersPlace c (member p offset size) d n0 n1 = (k : ℕ) × LowersLvalue c p d n0 k
      × Holds c k (tac.Member offset size d d n1)
  LowersPlace c (arrow a offset size) d n0 n1 = (k : ℕ) × LowersExpression c a d n0 k
      × Holds c k (tac.Narrow offset size d d n1)
  LowersPlace c (member_of_value a offset size) d n0 n1 =
      (k : ℕ) × LowersExpression c a d n0 k × Holds c k (tac.Member offset size d d n1)
  LowersPlace c (parenthesized_lvalue p) d n0 n1 = LowersLvalue c p d n0 n1

  -- the values of arguments, in temporaries from one on
  pub LowersArguments : Placed → Expressions → (d n0 n1 : ℕ) → Type 0
  LowersArguments c no_expressions d n0 n1 = n0 ≡ n1
  LowersArguments c (expressions e es) d n0 n1 =
      (k : ℕ) × (j : ℕ) × LowersExpression c e d n0 k × LowersTaking c (kind_of e) (line_of e) d k j
      × LowersArguments c es (d + 1) j n1

-- an expression as a result
abbrev pub LowersArgument : Placed → Expression → (d n0 n1 : ℕ) → Type 0
LowersArgument c e d n0 n1 = (k : ℕ) × LowersExpression c e d n0 k × LowersTaking c (kind_of e) (line_of e) d k n1
