-- The code of an expression never needs more temporaries than the height of the expression counts.
use Rattle.std.proofs.Common.{ℕ, suc, ◌≤◌, List, [], ◌∷◌, arith}
use Rattle.std.specs.Prelude.{max}
use Rattle.c_tree.specs.declared.expression.Kind.{Kind}
use Rattle.c_tree.specs.Tree.{Expression, expression, Expressions, no_expressions, expressions, Lvalue, lvalue, Node}
use Rattle.c_tree.specs.Tree.{constant, function, plain, read, decay, address, parenthesized, deref_function}
use Rattle.c_tree.specs.Tree.{address_function, cast, convert, unary, binary, offset_by, difference, logical_and}
use Rattle.c_tree.specs.Tree.{logical_or, comma, conditional, assign, assign_plain, compound, change_plain, step}
use Rattle.c_tree.specs.Tree.{step_plain, call, call_through, library, printf, LvalueNode, automatic, static, deref}
use Rattle.c_tree.specs.Tree.{index, member, arrow, member_of_value, parenthesized_lvalue}
use Rattle.c_tree.specs.Walk.{visited, visited_lvalue, walk, walk_lvalue, walk_operands, walk_lvalue_operands}
use Rattle.c_tree.specs.Walk.{walk_each, greatest}
use Rattle.c_tree.specs.Room.{in_turn, height_made}
use Rattle.c_lower.specs.Homes.{used_made}

-- each is at most the other
pub data AllMost : List ℕ → List ℕ → Type 0 where
  none : AllMost [] []
  one : (u h : ℕ) (us hs : List ℕ) → u ≤ h → AllMost us hs → AllMost (u ∷ us) (h ∷ hs)

turns_most : (k j : ℕ) (us hs : List ℕ) → k ≤ j → AllMost us hs → in_turn k us ≤ in_turn j hs
turns_most k j _ _ le none = omega arith
turns_most k j _ _ le (one u h us hs most rest) = omega
    (arith, le, most, turns_most (suc k) (suc j) us hs (omega (arith, le)) rest)

greatest_most : (us hs : List ℕ) → AllMost us hs → greatest us ≤ greatest hs
greatest_most _ _ none = omega arith
greatest_most _ _ (one u h us hs most rest) = omega (arith, most, greatest_most us hs rest)

highest : (us hs : List ℕ) → AllMost us hs → max 1 (greatest us) ≤ max 1 (greatest hs)
highest us hs h = omega (arith, greatest_most us hs h)

-- one value is kept beside
kept_beside : (k : ℕ) (us hs : List ℕ) → AllMost us hs → max 1 (greatest us) ≤ in_turn k hs
kept_beside k _ _ none = omega arith
kept_beside k _ _ (one u h us hs most rest) = omega (arith, most, kept_beside (suc k) us hs rest)

alone : {u h : ℕ} → u ≤ h → AllMost (u ∷ []) (h ∷ [])
alone most = one _ _ _ _ most none

pair : {u h u' h' : ℕ} → u ≤ h → u' ≤ h' → AllMost (u ∷ u' ∷ []) (h ∷ h' ∷ [])
pair most most' = one _ _ _ _ most (alone most')

mutual
  pub fits : (e : Expression) → walk used_made e ≤ walk height_made e
  fits (expression kind line node) = node_fits kind node

  node_fits : (kind : Kind) (n : Node)
      → used_made (visited kind n) (walk_operands used_made n) ≤ height_made (visited kind n)
      (walk_operands height_made n)
  node_fits kind (constant w) = omega arith
  node_fits kind (function f) = omega arith
  node_fits kind (plain x) = omega arith
  node_fits kind (read p) = highest _ _ (alone (place_fits p))
  node_fits kind (decay p) = highest _ _ (alone (place_fits p))
  node_fits kind (address p) = highest _ _ (alone (place_fits p))
  node_fits kind (parenthesized a) = highest _ _ (alone (fits a))
  node_fits kind (deref_function a) = highest _ _ (alone (fits a))
  node_fits kind (address_function a) = highest _ _ (alone (fits a))
  node_fits kind (cast a) = highest _ _ (alone (fits a))
  node_fits kind (convert a) = highest _ _ (alone (fits a))
  node_fits kind (unary op a) = highest _ _ (alone (fits a))
  node_fits kind (binary op a b) = turns_most 0 0 _ _ (omega arith) (pair (fits a) (fits b))
  node_fits kind (offset_by form size a b) = turns_most 0 0 _ _ (omega arith) (pair (fits a) (fits b))
  node_fits kind (difference size a b) = turns_most 0 0 _ _ (omega arith) (pair (fits a) (fits b))
  node_fits kind (logical_and a b) = highest _ _ (pair (fits a) (fits b))
  node_fits kind (logical_or a b) = highest _ _ (pair (fits a) (fits b))
  node_fits kind (comma a b) = highest _ _ (pair (fits a) (fits b))
  node_fits kind (conditional a b c) = highest _ _ (one _ _ _ _ (fits a) (pair (fits b) (fits c)))
  node_fits kind (assign p a) = turns_most 0 0 _ _ (omega arith) (pair (place_fits p) (fits a))
  node_fits kind (assign_plain x a) = omega (arith, kept_beside 1 _ _ (alone (fits a)))
  node_fits kind (compound u p a) = turns_most 0 0 _ _ (omega arith) (pair (place_fits p) (fits a))
  node_fits kind (change_plain u x a) = omega (arith, kept_beside 1 _ _ (alone (fits a)))
  node_fits kind (step u fixity p) = highest _ _ (alone (place_fits p))
  node_fits kind (step_plain u fixity x) = omega arith
  node_fits kind (call f es) = turns_most 0 0 _ _ (omega arith) (each_value es)
  node_fits kind (call_through type a es) = turns_most 0 0 _ _ (omega arith) (one _ _ _ _ (fits a) (each_value es))
  node_fits kind (library routine es) = turns_most 0 0 _ _ (omega arith) (each_value es)
  node_fits kind (printf format es) = omega (arith, turns_most 0 1 _ _ (omega arith) (each_value es))

  each_value : (es : Expressions) → AllMost (walk_each used_made es) (walk_each height_made es)
  each_value no_expressions = none
  each_value (expressions e es) = one _ _ _ _ (fits e) (each_value es)

  pub place_fits : (p : Lvalue) → walk_lvalue used_made p ≤ walk_lvalue height_made p
  place_fits (lvalue kind line node) = lvalue_fits kind node

  lvalue_fits : (kind : Kind) (n : LvalueNode)
      → used_made (visited_lvalue kind n) (walk_lvalue_operands used_made n) ≤ height_made (visited_lvalue kind n)
      (walk_lvalue_operands height_made n)
  lvalue_fits kind (automatic x) = omega arith
  lvalue_fits kind (static n) = omega arith
  lvalue_fits kind (deref a) = highest _ _ (alone (fits a))
  lvalue_fits kind (index form size a b) = turns_most 0 0 _ _ (omega arith) (pair (fits a) (fits b))
  lvalue_fits kind (member p offset size) = highest _ _ (alone (place_fits p))
  lvalue_fits kind (arrow a offset size) = highest _ _ (alone (fits a))
  lvalue_fits kind (member_of_value a offset size) = highest _ _ (alone (fits a))
  lvalue_fits kind (parenthesized_lvalue p) = highest _ _ (alone (place_fits p))
