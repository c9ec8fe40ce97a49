-- The words of an expression are no more than its nodes allow.
use Rattle.std.proofs.Common.{◌≡◌, ℕ, ◌+◌, ◌*◌, ◌≤◌, Bool, true, false, not, ap, refl, arith}
use Rattle.std.proofs.lemmas.Bool.{and_parts, not-true}
use Rattle.c_tree.specs.declared.expression.Kind.{Kind}
use Rattle.c_tree.specs.declared.expression.Kind.TheVariants.{Void, Scalar as OfScalar, Structure, Array}
use Rattle.c_tree.specs.Tree.{Expression, expression, Expressions, no_expressions, expressions, Node, constant}
use Rattle.c_tree.specs.Tree.{function}
use Rattle.c_tree.specs.Tree.{plain, read, decay, address, parenthesized, deref_function, address_function, cast}
use Rattle.c_tree.specs.Tree.{convert}
use Rattle.c_tree.specs.Tree.{unary, binary, offset_by, difference, logical_and, logical_or, comma, conditional, assign}
use Rattle.c_tree.specs.Tree.{assign_plain, compound, change_plain, step, step_plain, call, call_through, library}
use Rattle.c_tree.specs.Tree.{printf, kind_of}
use Rattle.c_tree.specs.Walk.{walk_each, sum_of}
use Rattle.c_tree.specs.Valid as valid
use Rattle.c_lower.specs.Conversions.{keeps}
use Rattle.c_lower.specs.Values.{count}
use Rattle.program_lowering.specs.ExpressionCode.Weights.{conversion_weight, expression_weight, weight_made, taking_weight, takings_weight}
use Rattle.program_lowering.specs.ExpressionCode.Weights.{returning_weight}
use Rattle.compiled_programs.specs.Programs.{is_integer_expression, is_integer_node, are_integer_expressions}
use Rattle.compiled_programs.specs.Programs.{has_no_pointer, is_integer_update, is_integer_routine}
use Rattle.image_laws.specs.Sizes.Nodes.{expression_nodes, nodes_made}
use Rattle.image_laws.proofs.Sizes.Words.{words}

-- An expression that is no conversion leaves room for its move as an argument, and for a conversion; a conversion for
-- its move.
abbrev pub left : (is_converted : Bool) → ℕ
left true = 13
left false = 33

left_some : (b : Bool) → 13 ≤ left b
left_some true = omega arith
left_some false = omega arith

abbrev NodeIsLight : (other : ℕ) → Kind → Node → Type 0
NodeIsLight k kind node =
    expression_weight (expression kind 0 node) (words k) + left (valid.is_convert node)
    ≤ 256 * expression_nodes (expression kind 0 node)

no_taking : (k : ℕ) (kind : Kind) → has_no_pointer kind ≡ true → taking_weight kind (words k) ≡ 0
no_taking k Void h = refl
no_taking k (OfScalar s) h = refl
no_taking k (Structure size) h = cc
no_taking k (Array size) h = refl

no_returning : (k : ℕ) (kind : Kind) → has_no_pointer kind ≡ true → returning_weight kind (words k) ≡ 0
no_returning k Void h = refl
no_returning k (OfScalar s) h = refl
no_returning k (Structure size) h = cc
no_returning k (Array size) h = refl

no_taken : (k : ℕ) (e : Expression) → is_integer_expression e ≡ true → taking_weight (kind_of e) (words k) ≡ 0
no_taken k (expression kind line node) i = no_taking k kind (and_parts (has_no_pointer kind) (is_integer_node node) i).0

pub none_returned : (k : ℕ) (e : Expression) → is_integer_expression e ≡ true
    → returning_weight (kind_of e) (words k) ≡ 0
none_returned k (expression kind line node) i =
    no_returning k kind (and_parts (has_no_pointer kind) (is_integer_node node) i).0

-- an expression, and expressions in turn
record IsLight (k : ℕ) (e : Expression) : Type 0 where
  by : expression_weight e (words k) + left (valid.is_converted e) ≤ 256 * expression_nodes e

record AreLight (k : ℕ) (es : Expressions) : Type 0 where
  by : sum_of (walk_each (weight_made (words k)) es) + 13 * count es ≤ 256 * sum_of (walk_each nodes_made es)
  taken : takings_weight es (words k) ≡ 0

conversion_least : (k : ℕ) (q : Bool) (kind : Kind) → conversion_weight q kind (words k) ≤ (words k).convert kind
conversion_least k true kind = omega arith
conversion_least k false kind = omega arith

converted_light : (k : ℕ) (kind : Kind) (e : Expression) → IsLight k e → valid.is_converted e ≡ false
    → NodeIsLight k kind (convert e)
converted_light k kind e h none =
    let room = ap left none in
    omega (arith, h.by, room, conversion_least k (keeps (kind_of e) kind) kind)

mutual
  light : (k : ℕ) (scope : valid.Scope) (e : Expression) → valid.is_valid scope e ≡ true
      → is_integer_expression e ≡ true → IsLight k e
  light k scope (expression kind line node) v i = record {
    by = node_light k scope kind node v (and_parts (has_no_pointer kind) (is_integer_node node) i).1;
  }

  node_light : (k : ℕ) (scope : valid.Scope) (kind : Kind) (node : Node) → valid.is_node scope node kind ≡ true
      → is_integer_node node ≡ true → NodeIsLight k kind node
  node_light k scope kind (constant n) v i = omega arith
  node_light k scope kind (function f) v i = cc
  node_light k scope kind (plain x) v i = omega arith
  node_light k scope kind (read p) v i = cc
  node_light k scope kind (decay p) v i = cc
  node_light k scope kind (address p) v i = cc
  node_light k scope kind (parenthesized a) v i =
      let h = light k scope a (and_parts _ _ v).0 i in omega (arith, h.by, left_some (valid.is_converted a))
  node_light k scope kind (deref_function a) v i = cc
  node_light k scope kind (address_function a) v i = cc
  node_light k scope kind (cast a) v i =
      let h = light k scope a (and_parts _ _ v).0 i in
      let least = conversion_least k (keeps (kind_of a) kind) kind in
      omega (arith, h.by, left_some (valid.is_converted a), least)
  node_light k scope kind (convert a) v i =
      let parts = and_parts _ (not (valid.is_converted a)) v in
      converted_light k kind a (light k scope a (and_parts _ _ parts.0).0 i)
      (not-true (valid.is_converted a) parts.1)
  node_light k scope kind (unary op a) v i =
      let h = light k scope a (and_parts _ _ v).0 i in omega (arith, h.by, left_some (valid.is_converted a))
  node_light k scope kind (binary op a b) v i =
      let parts = and_parts (valid.is_valid scope a) (valid.is_valid scope b) (and_parts _ _ v).0 in
      let both = and_parts (is_integer_expression a) (is_integer_expression b) i in
      let g = light k scope a parts.0 both.0 in
      let h = light k scope b parts.1 both.1 in
      omega (arith, g.by, h.by, left_some (valid.is_converted a), left_some (valid.is_converted b))
  node_light k scope kind (offset_by form size a b) v i = cc
  node_light k scope kind (difference size a b) v i = cc
  node_light k scope kind (logical_and a b) v i =
      let parts = and_parts (valid.is_valid scope a) (valid.is_valid scope b)
      (and_parts _ _ (and_parts _ _ (and_parts _ _ v).0).0).0 in
      let both = and_parts (is_integer_expression a) (is_integer_expression b) i in
      let g = light k scope a parts.0 both.0 in
      let h = light k scope b parts.1 both.1 in
      omega (arith, g.by, h.by, left_some (valid.is_converted a), left_some (valid.is_converted b))
  node_light k scope kind (logical_or a b) v i =
      let parts = and_parts (valid.is_valid scope a) (valid.is_valid scope b)
      (and_parts _ _ (and_parts _ _ (and_parts _ _ v).0).0).0 in
      let both = and_parts (is_integer_expression a) (is_integer_expression b) i in
      let g = light k scope a parts.0 both.0 in
      let h = light k scope b parts.1 both.1 in
      omega (arith, g.by, h.by, left_some (valid.is_converted a), left_some (valid.is_converted b))
  node_light k scope kind (comma a b) v i =
      let parts = and_parts (valid.is_valid scope a) (valid.is_valid scope b) (and_parts _ _ v).0 in
      let both = and_parts (is_integer_expression a) (is_integer_expression b) i in
      let g = light k scope a parts.0 both.0 in
      let h = light k scope b parts.1 both.1 in
      omega (arith, g.by, h.by, left_some (valid.is_converted a), left_some (valid.is_converted b))
  node_light k scope kind (conditional c a b) v i =
      let most = (and_parts _ _ (and_parts _ _ v).0).0 in
      let second = and_parts _ (valid.is_valid scope b) most in
      let first = and_parts _ (valid.is_valid scope a) second.0 in
      let all = and_parts _ (is_integer_expression b) i in
      let both = and_parts (is_integer_expression c) (is_integer_expression a) all.0 in
      let f = light k scope c (and_parts _ _ first.0).0 both.0 in
      let g = light k scope a first.1 both.1 in
      let h = light k scope b second.1 all.1 in
      omega (
        arith,
        f.by,
        g.by,
        h.by,
        left_some (valid.is_converted c),
        left_some (valid.is_converted a),
        left_some (valid.is_converted b),
      )
  node_light k scope kind (assign p a) v i = cc
  node_light k scope kind (assign_plain x a) v i =
      let h = light k scope a (and_parts _ _ (and_parts _ _ v).0).0 i in omega
      (arith, h.by, left_some (valid.is_converted a))
  node_light k scope kind (compound u p a) v i = cc
  node_light k scope kind (change_plain u x a) v i =
      let h = light k scope a (and_parts _ _ (and_parts _ _ v).0).0
      (and_parts (is_integer_update u) (is_integer_expression a) i).1 in
      omega (arith, h.by, left_some (valid.is_converted a))
  node_light k scope kind (step u fixity p) v i = cc
  node_light k scope kind (step_plain u fixity x) v i = omega arith
  node_light k scope kind (call f es) v i =
      let h = each_light k scope es (and_parts _ _ (and_parts _ _ v).0).0 i in omega (arith, h.by, h.taken)
  node_light k scope kind (call_through type a es) v i = cc
  node_light k scope kind (library routine es) v i =
      let h = each_light k scope es (and_parts _ _ v).0
      (and_parts (is_integer_routine routine) (are_integer_expressions es) i).1 in
      omega (arith, h.by, h.taken)
  node_light k scope kind (printf format es) v i = cc

  each_light : (k : ℕ) (scope : valid.Scope) (es : Expressions) → valid.are_valid scope es ≡ true
      → are_integer_expressions es ≡ true → AreLight k es
  each_light k scope no_expressions v i = record { by = omega arith; taken = refl }
  each_light k scope (expressions e es) v i =
      let parts = and_parts (valid.is_valid scope e) (valid.are_valid scope es) v in
      let both = and_parts (is_integer_expression e) (are_integer_expressions es) i in
      let g = light k scope e parts.0 both.0 in
      let h = each_light k scope es parts.1 both.1 in
      record {
        by = omega (arith, g.by, h.by, left_some (valid.is_converted e));
        taken = omega (arith, no_taken k e both.0, h.taken);
      }

-- an expression that is evaluated
pub evaluated_light : (k : ℕ) (scope : valid.Scope) (e : Expression) → valid.is_valid scope e ≡ true
    → is_integer_expression e ≡ true → expression_weight e (words k) + 13 ≤ 256 * expression_nodes e
evaluated_light k scope e v i =
    let h = light k scope e v i in omega (arith, h.by, left_some (valid.is_converted e))
