-- What each expression and lvalue itself does.
use Rattle.std.proofs.Common.{◌≡◌, ℕ, suc, ◌+◌, ◌≤◌, ◌<◌, List, [], ◌∷◌, Option, Some, None, refl, sym, ap, ◌∙◌}
use Rattle.std.proofs.Common.{Bool, true, false, subst, arith}
use Rattle.std.specs.Prelude.{max}
use Rattle.c_tree.specs.declared.expression.Kind.{Kind}
use Rattle.c_tree.specs.Tree.{Expression, expression, Expressions, no_expressions, expressions, Lvalue, lvalue, Node}
use Rattle.c_tree.specs.Tree.{constant, function, plain, read, decay, address, parenthesized, deref_function}
use Rattle.c_tree.specs.Tree.{address_function, cast, convert, unary, binary, offset_by, difference, logical_and}
use Rattle.c_tree.specs.Tree.{logical_or, comma, conditional, assign, assign_plain, compound, change_plain, step}
use Rattle.c_tree.specs.Tree.{step_plain, call, call_through, library, printf, LvalueNode, automatic, static, deref}
use Rattle.c_tree.specs.Tree.{index, member, arrow, member_of_value, parenthesized_lvalue, kind_of}
use Rattle.c_tree.specs.Walk.{visited, visited_lvalue, walk_operands, walk_lvalue_operands, walk_each, sum_of}
use Rattle.c_tree.specs.Room.{in_turn}
use Rattle.tac_ir.specs.declared.instruction.Instruction.{Instruction}
use Rattle.tac_ir.specs.Edges.{successors}
use Rattle.tac_ir.specs.Temporaries.{temporaries}
use Rattle.c_lower.specs.Homes.{used, used_by_lvalue, used_made}
use Rattle.c_lower.specs.Placed.{Placed, Holds}
use Rattle.c_lower.specs.Conversions.{keeps}
use Rattle.c_lower.specs.Values.{KeyIs, LowersNode, LowersPlace, Converts, count}
use Rattle.program_lowering.specs.ExpressionCode.Last.{conversion_in}
use Rattle.program_lowering.proofs.ExpressionCode.Conversions.{conversion_weighs}
use Rattle.program_lowering.specs.declared.expressions.emitter.Emitter.{Emitter}
use Rattle.program_lowering.specs.ExpressionCode.Sizes.{nodes, lvalue_nodes, arguments_nodes, nodes_made}
use Rattle.program_lowering.specs.ExpressionCode.Weights.{Weights, weight_if, no_weight, takings_weight}
use Rattle.program_lowering.specs.ExpressionCode.Weights.{weight_made}
use Rattle.program_lowering.specs.ExpressionCode.Weights.{expression_weight, lvalue_weight, arguments_weight}
use Rattle.program_lowering.specs.ExpressionCode.Emitted.{Added, Stays, Fills, IsReal, arguments_used}
use Rattle.program_lowering.specs.ExpressionCode.Last.{key_in, last_in, last_at, KeyAdded, TextAdded, FormatAdded}
use Rattle.program_lowering.specs.ExpressionCode.Last.{TextIs}
use Rattle.program_lowering.specs.ExpressionCode.Shapes.{operands_in, operands_at, operands_of, lvalue_operands}
use Rattle.program_lowering.specs.ExpressionCode.Shapes.{LowersOperands, operands_used, operands_nodes, operands_weight}
use Rattle.program_lowering.specs.ExpressionCode.Shapes.{text_in, finish_weight, lvalue_finish_weight, Finishes}
use Rattle.program_lowering.specs.ExpressionCode.Shapes.{LvalueFinishes}
use Rattle.program_lowering.proofs.ExpressionCode.Leading.{leads_none, leads_to, leads_behind, same_nodes, same_then}
use Rattle.program_lowering.proofs.ExpressionCode.Growing.{emits_none, emits_then, added_by, added_has}
use Rattle.program_lowering.proofs.ExpressionCode.Growing.{fills_before, stays_all}

-- the instruction at a node, or that node is the next one
abbrev StandsAs : Placed → Option Instruction → (node next : ℕ) → Type 0
StandsAs c None n m = n ≡ m
StandsAs c (Some i) n m = Holds c n i

abbrev FewIn : Option Instruction → (most : ℕ) → Type 0
FewIn None most = Unit {0}
FewIn (Some i) most = temporaries i ≤ most

-- an instruction of a text, which leads to one node
abbrev RealIn : Option Instruction → (next : ℕ) → Type 0
RealIn None m = Unit {0}
RealIn (Some i) m = IsReal i × (successors i ≡ m ∷ [])

conversion_stands : (c : Placed) (q : Bool) (kind : Kind) (d m k : ℕ) → StandsAs c (conversion_in q kind d m) k m
    → Converts c q kind d k m
conversion_stands c true kind d m k h = h
conversion_stands c false kind d m k h = h

conversion_few : (q : Bool) (kind : Kind) (d m most : ℕ) → suc d ≤ most → FewIn (conversion_in q kind d m) most
conversion_few true kind d m most h = tt
conversion_few false kind d m most h = omega (arith, h)

conversion_real : (q : Bool) (kind : Kind) (d m : ℕ) → RealIn (conversion_in q kind d m) m
conversion_real true kind d m = tt
conversion_real false kind d m = (tt, refl)

last_stands : (c : Placed) (kind : Kind) (line d : ℕ) (key : Option ℕ) (text m k n : ℕ) (node : Node)
    → KeyIs c.keys key (key_in c.literals node) → TextIs c.texts node text
    → StandsAs c (last_in node kind line d key text m) k m
    → LowersOperands c (operands_in node) d n k → LowersNode c node kind line d n m
last_stands c kind line d key text m k n (constant w) q t h o =
    subst (λ j. StandsAs c (last_in (constant w) kind line d key text m) j m) (sym o) h
last_stands c kind line d key text m k n (function f) q t h o =
    subst (λ j. StandsAs c (last_in (function f) kind line d key text m) j m) (sym o) h
last_stands c kind line d key text m k n (plain x) q t h o =
    subst (λ j. StandsAs c (last_in (plain x) kind line d key text m) j m) (sym o) h
last_stands c kind line d key text m k n (read p) q t h o = (k, key, q, o, h)
last_stands c kind line d key text m k n (decay p) q t h o =
    subst (λ j. LowersOperands c (operands_in (decay p)) d n j) h o
last_stands c kind line d key text m k n (address p) q t h o =
    subst (λ j. LowersOperands c (operands_in (address p)) d n j) h o
last_stands c kind line d key text m k n (parenthesized a) q t h o =
    subst (λ j. LowersOperands c (operands_in (parenthesized a)) d n j) h o
last_stands c kind line d key text m k n (deref_function a) q t h o =
    subst (λ j. LowersOperands c (operands_in (deref_function a)) d n j) h o
last_stands c kind line d key text m k n (address_function a) q t h o =
    subst (λ j. LowersOperands c (operands_in (address_function a)) d n j) h o
last_stands c kind line d key text m k n (cast a) q t h o =
    (k, o, conversion_stands c (keeps (kind_of a) kind) kind d m k h)
last_stands c kind line d key text m k n (convert a) q t h o =
    (k, o, conversion_stands c (keeps (kind_of a) kind) kind d m k h)
last_stands c kind line d key text m k n (unary op a) q t h o = (k, o, h)
last_stands c kind line d key text m k n (binary op a b) q t h o = (o.0, k, o.1, o.2, h)
last_stands c kind line d key text m k n (offset_by form size a b) q t h o = (o.0, k, o.1, o.2, h)
last_stands c kind line d key text m k n (difference size a b) q t h o = (o.0, k, o.1, o.2, h)
last_stands c kind line d key text m k n (logical_and a b) q t h o =
    subst (λ j. LowersOperands c (operands_in (logical_and a b)) d n j) h o
last_stands c kind line d key text m k n (logical_or a b) q t h o =
    subst (λ j. LowersOperands c (operands_in (logical_or a b)) d n j) h o
last_stands c kind line d key text m k n (comma a b) q t h o =
    subst (λ j. LowersOperands c (operands_in (comma a b)) d n j) h o
last_stands c kind line d key text m k n (conditional a b e) q t h o =
    subst (λ j. LowersOperands c (operands_in (conditional a b e)) d n j) h o
last_stands c kind line d key text m k n (assign p a) q t h o = (o.0, k, key, q, o.1, o.2, h)
last_stands c kind line d key text m k n (assign_plain x a) q t h o = (k, o, h)
last_stands c kind line d key text m k n (compound u p a) q t h o = (o.0, k, key, q, o.1, o.2, h)
last_stands c kind line d key text m k n (change_plain u x a) q t h o = (k, o, h)
last_stands c kind line d key text m k n (step u fixity p) q t h o = (k, key, q, o, h)
last_stands c kind line d key text m k n (step_plain u fixity x) q t h o =
    subst (λ j. StandsAs c (last_in (step_plain u fixity x) kind line d key text m) j m) (sym o) h
last_stands c kind line d key text m k n (call f es) q t h o = (k, o, h)
last_stands c kind line d key text m k n (call_through type a es) q t h o = (o.0, k, o.1, o.2, h)
last_stands c kind line d key text m k n (library routine es) q t h o = (k, o, h)
last_stands c kind line d key text m k n (printf format es) q t h o = (k, text, t, o, h)

-- how many temporaries

turns_some : (k : ℕ) (us : List ℕ) → 1 ≤ in_turn k us
turns_some k [] = omega arith
turns_some k (u ∷ us) = omega (arith, turns_some (suc k) us)

mutual_made : (kind : Kind) (node : Node) (us : List ℕ) → 1 ≤ used_made (visited kind node) us
mutual_made kind (constant w) us = omega arith
mutual_made kind (function f) us = omega arith
mutual_made kind (plain x) us = omega arith
mutual_made kind (read p) us = omega arith
mutual_made kind (decay p) us = omega arith
mutual_made kind (address p) us = omega arith
mutual_made kind (parenthesized a) us = omega arith
mutual_made kind (deref_function a) us = omega arith
mutual_made kind (address_function a) us = omega arith
mutual_made kind (cast a) us = omega arith
mutual_made kind (convert a) us = omega arith
mutual_made kind (unary op a) us = omega arith
mutual_made kind (binary op a b) us = turns_some 0 us
mutual_made kind (offset_by form size a b) us = turns_some 0 us
mutual_made kind (difference size a b) us = turns_some 0 us
mutual_made kind (logical_and a b) us = omega arith
mutual_made kind (logical_or a b) us = omega arith
mutual_made kind (comma a b) us = omega arith
mutual_made kind (conditional a b e) us = omega arith
mutual_made kind (assign p a) us = turns_some 0 us
mutual_made kind (assign_plain x a) us = omega arith
mutual_made kind (compound u p a) us = turns_some 0 us
mutual_made kind (change_plain u x a) us = omega arith
mutual_made kind (step u fixity p) us = omega arith
mutual_made kind (step_plain u fixity x) us = omega arith
mutual_made kind (call f es) us = turns_some 0 us
mutual_made kind (call_through type a es) us = turns_some 0 us
mutual_made kind (library routine es) us = turns_some 0 us
mutual_made kind (printf format es) us = turns_some 0 us

pub some_used : (e : Expression) → 1 ≤ used e
some_used (expression kind line node) = mutual_made kind node (walk_operands used_made node)

lvalue_made : (kind : Kind) (node : LvalueNode) (us : List ℕ) → 1 ≤ used_made (visited_lvalue kind node) us
lvalue_made kind (automatic x) us = omega arith
lvalue_made kind (static n) us = omega arith
lvalue_made kind (deref a) us = omega arith
lvalue_made kind (index form size a b) us = turns_some 0 us
lvalue_made kind (member p offset size) us = omega arith
lvalue_made kind (arrow a offset size) us = omega arith
lvalue_made kind (member_of_value a offset size) us = omega arith
lvalue_made kind (parenthesized_lvalue p) us = omega arith

pub some_used_by : (p : Lvalue) → 1 ≤ used_by_lvalue p
some_used_by (lvalue kind line node) = lvalue_made kind node (walk_lvalue_operands used_made node)

turns_count : (k : ℕ) (es : Expressions) → k + count es ≤ max k (in_turn k (walk_each used_made es))
turns_count k no_expressions = omega arith
turns_count k (expressions e es) = omega (arith, some_used e, turns_count (suc k) es)

turns_used : (k : ℕ) (es : Expressions) → k + arguments_used es ≤ max k (in_turn k (walk_each used_made es))
turns_used k no_expressions = omega arith
turns_used k (expressions e es) = omega (arith, some_used e, turns_used (suc k) es)

nodes_sum : (es : Expressions) → arguments_nodes es ≡ sum_of (walk_each nodes_made es)
nodes_sum no_expressions = refl
nodes_sum (expressions e es) = omega (arith, nodes_sum es)

last_few : (kind : Kind) (line d : ℕ) (key : Option ℕ) (text m : ℕ) (node : Node)
    → FewIn (last_in node kind line d key text m) (d + used_made (visited kind node) (walk_operands used_made node))
last_few kind line d key text m (constant w) = omega arith
last_few kind line d key text m (function f) = omega arith
last_few kind line d key text m (plain x) = omega arith
last_few kind line d key text m (read p) = omega arith
last_few kind line d key text m (decay p) = tt
last_few kind line d key text m (address p) = tt
last_few kind line d key text m (parenthesized a) = tt
last_few kind line d key text m (deref_function a) = tt
last_few kind line d key text m (address_function a) = tt
last_few kind line d key text m (cast a) = conversion_few (keeps (kind_of a) kind) kind d m _ (omega arith)
last_few kind line d key text m (convert a) = conversion_few (keeps (kind_of a) kind) kind d m _ (omega arith)
last_few kind line d key text m (unary op a) = omega arith
last_few kind line d key text m (binary op a b) = omega (arith, some_used b)
last_few kind line d key text m (offset_by form size a b) = omega (arith, some_used b)
last_few kind line d key text m (difference size a b) = omega (arith, some_used b)
last_few kind line d key text m (logical_and a b) = tt
last_few kind line d key text m (logical_or a b) = tt
last_few kind line d key text m (comma a b) = tt
last_few kind line d key text m (conditional a b e) = tt
last_few kind line d key text m (assign p a) = omega (arith, some_used a)
last_few kind line d key text m (assign_plain x a) = omega arith
last_few kind line d key text m (compound u p a) = omega (arith, some_used a)
last_few kind line d key text m (change_plain u x a) = omega arith
last_few kind line d key text m (step u fixity p) = omega arith
last_few kind line d key text m (step_plain u fixity x) = omega arith
last_few kind line d key text m (call f es) = omega (arith, turns_count 0 es, turns_some 0 (walk_each used_made es))
last_few kind line d key text m (call_through type a es) =
    omega (arith, turns_count 1 es, turns_some 1 (walk_each used_made es), some_used a)
last_few kind line d key text m (library routine es) = omega
    (arith, turns_count 0 es, turns_some 0 (walk_each used_made es))
last_few kind line d key text m (printf format es) = omega
    (arith, turns_count 0 es, turns_some 0 (walk_each used_made es))

last_real : (kind : Kind) (line d : ℕ) (key : Option ℕ) (text m : ℕ) (node : Node)
    → RealIn (last_in node kind line d key text m) m
last_real kind line d key text m (constant w) = (tt, refl)
last_real kind line d key text m (function f) = (tt, refl)
last_real kind line d key text m (plain x) = (tt, refl)
last_real kind line d key text m (read p) = (tt, refl)
last_real kind line d key text m (decay p) = tt
last_real kind line d key text m (address p) = tt
last_real kind line d key text m (parenthesized a) = tt
last_real kind line d key text m (deref_function a) = tt
last_real kind line d key text m (address_function a) = tt
last_real kind line d key text m (cast a) = conversion_real (keeps (kind_of a) kind) kind d m
last_real kind line d key text m (convert a) = conversion_real (keeps (kind_of a) kind) kind d m
last_real kind line d key text m (unary op a) = (tt, refl)
last_real kind line d key text m (binary op a b) = (tt, refl)
last_real kind line d key text m (offset_by form size a b) = (tt, refl)
last_real kind line d key text m (difference size a b) = (tt, refl)
last_real kind line d key text m (logical_and a b) = tt
last_real kind line d key text m (logical_or a b) = tt
last_real kind line d key text m (comma a b) = tt
last_real kind line d key text m (conditional a b e) = tt
last_real kind line d key text m (assign p a) = (tt, refl)
last_real kind line d key text m (assign_plain x a) = (tt, refl)
last_real kind line d key text m (compound u p a) = (tt, refl)
last_real kind line d key text m (change_plain u x a) = (tt, refl)
last_real kind line d key text m (step u fixity p) = (tt, refl)
last_real kind line d key text m (step_plain u fixity x) = (tt, refl)
last_real kind line d key text m (call f es) = (tt, refl)
last_real kind line d key text m (call_through type a es) = (tt, refl)
last_real kind line d key text m (library routine es) = (tt, refl)
last_real kind line d key text m (printf format es) = (tt, refl)

operands_most : (kind : Kind) (node : Node)
    → operands_used (operands_in node) ≤ used_made (visited kind node) (walk_operands used_made node)
operands_most kind (constant w) = omega arith
operands_most kind (function f) = omega arith
operands_most kind (plain x) = omega arith
operands_most kind (read p) = omega arith
operands_most kind (decay p) = omega arith
operands_most kind (address p) = omega arith
operands_most kind (parenthesized a) = omega arith
operands_most kind (deref_function a) = omega arith
operands_most kind (address_function a) = omega arith
operands_most kind (cast a) = omega arith
operands_most kind (convert a) = omega arith
operands_most kind (unary op a) = omega arith
operands_most kind (binary op a b) = omega arith
operands_most kind (offset_by form size a b) = omega arith
operands_most kind (difference size a b) = omega arith
operands_most kind (logical_and a b) = omega arith
operands_most kind (logical_or a b) = omega arith
operands_most kind (comma a b) = omega arith
operands_most kind (conditional a b e) = omega arith
operands_most kind (assign p a) = omega arith
operands_most kind (assign_plain x a) = omega arith
operands_most kind (compound u p a) = omega arith
operands_most kind (change_plain u x a) = omega arith
operands_most kind (step u fixity p) = omega arith
operands_most kind (step_plain u fixity x) = omega arith
operands_most kind (call f es) = omega (arith, turns_used 0 es)
operands_most kind (call_through type a es) = omega (arith, turns_used 1 es, some_used a)
operands_most kind (library routine es) = omega (arith, turns_used 0 es)
operands_most kind (printf format es) = omega (arith, turns_used 0 es)

operands_few : (kind : Kind) (node : Node)
    → 1 + operands_nodes (operands_in node) ≤ nodes_made (visited kind node) (walk_operands nodes_made node)
operands_few kind (constant w) = omega arith
operands_few kind (function f) = omega arith
operands_few kind (plain x) = omega arith
operands_few kind (read p) = omega arith
operands_few kind (decay p) = omega arith
operands_few kind (address p) = omega arith
operands_few kind (parenthesized a) = omega arith
operands_few kind (deref_function a) = omega arith
operands_few kind (address_function a) = omega arith
operands_few kind (cast a) = omega arith
operands_few kind (convert a) = omega arith
operands_few kind (unary op a) = omega arith
operands_few kind (binary op a b) = omega arith
operands_few kind (offset_by form size a b) = omega arith
operands_few kind (difference size a b) = omega arith
operands_few kind (logical_and a b) = omega arith
operands_few kind (logical_or a b) = omega arith
operands_few kind (comma a b) = omega arith
operands_few kind (conditional a b e) = omega arith
operands_few kind (assign p a) = omega arith
operands_few kind (assign_plain x a) = omega arith
operands_few kind (compound u p a) = omega arith
operands_few kind (change_plain u x a) = omega arith
operands_few kind (step u fixity p) = omega arith
operands_few kind (step_plain u fixity x) = omega arith
operands_few kind (call f es) = omega (arith, nodes_sum es)
operands_few kind (call_through type a es) = omega (arith, nodes_sum es)
operands_few kind (library routine es) = omega (arith, nodes_sum es)
operands_few kind (printf format es) = omega (arith, nodes_sum es)

-- what it weighs, whatever its temporary, its key, the number of its format and the next node are

conversion_same : (ts : List (List ℕ)) (q : Bool) (kind : Kind) (d m : ℕ) (w : Weights)
    → weight_if ts (conversion_in q kind d m) w ≡ weight_if [] (conversion_in q kind 0 0) w
conversion_same ts q kind d m w = conversion_weighs ts q kind d m w ∙ sym (conversion_weighs [] q kind 0 0 w)

last_same : (ts : List (List ℕ)) (kind : Kind) (line d : ℕ) (key : Option ℕ) (text m : ℕ) (w : Weights) (node : Node)
    → TextIs ts node text
    → weight_if ts (last_in node kind line d key text m) w
    ≡ weight_if (text_in node) (last_in node kind line 0 None 0 0) w
last_same ts kind line d key text m w (constant n) h = refl
last_same ts kind line d key text m w (function f) h = refl
last_same ts kind line d key text m w (plain x) h = refl
last_same ts kind line d key text m w (read p) h = refl
last_same ts kind line d key text m w (decay p) h = refl
last_same ts kind line d key text m w (address p) h = refl
last_same ts kind line d key text m w (parenthesized a) h = refl
last_same ts kind line d key text m w (deref_function a) h = refl
last_same ts kind line d key text m w (address_function a) h = refl
last_same ts kind line d key text m w (cast a) h = conversion_same ts (keeps (kind_of a) kind) kind d m w
last_same ts kind line d key text m w (convert a) h = conversion_same ts (keeps (kind_of a) kind) kind d m w
last_same ts kind line d key text m w (unary op a) h = refl
last_same ts kind line d key text m w (binary op a b) h = refl
last_same ts kind line d key text m w (offset_by form size a b) h = refl
last_same ts kind line d key text m w (difference size a b) h = refl
last_same ts kind line d key text m w (logical_and a b) h = refl
last_same ts kind line d key text m w (logical_or a b) h = refl
last_same ts kind line d key text m w (comma a b) h = refl
last_same ts kind line d key text m w (conditional a b e) h = refl
last_same ts kind line d key text m w (assign p a) h = refl
last_same ts kind line d key text m w (assign_plain x a) h = refl
last_same ts kind line d key text m w (compound u p a) h = refl
last_same ts kind line d key text m w (change_plain u x a) h = refl
last_same ts kind line d key text m w (step u fixity p) h = refl
last_same ts kind line d key text m w (step_plain u fixity x) h = refl
last_same ts kind line d key text m w (call f es) h = refl
last_same ts kind line d key text m w (call_through type a es) h = refl
last_same ts kind line d key text m w (library routine es) h = refl
last_same ts kind line d key text m w (printf format es) h = ap w.print h

weights_sum : (w : Weights) (es : Expressions)
    → arguments_weight es w ≡ takings_weight es w + sum_of (walk_each (weight_made w) es)
weights_sum w no_expressions = refl
weights_sum w (expressions e es) = omega (arith, weights_sum w es)

operands_weigh : (kind : Kind) (line : ℕ) (w : Weights) (node : Node)
    → weight_if (text_in node) (last_in node kind line 0 None 0 0) w + operands_weight (operands_in node) w
    ≡ weight_made w (visited kind node) (walk_operands (weight_made w) node)
operands_weigh kind line w (constant n) = omega arith
operands_weigh kind line w (function f) = omega arith
operands_weigh kind line w (plain x) = omega arith
operands_weigh kind line w (read p) = omega arith
operands_weigh kind line w (decay p) = omega arith
operands_weigh kind line w (address p) = omega arith
operands_weigh kind line w (parenthesized a) = omega arith
operands_weigh kind line w (deref_function a) = omega arith
operands_weigh kind line w (address_function a) = omega arith
operands_weigh kind line w (cast a) = omega (arith, conversion_weighs [] (keeps (kind_of a) kind) kind 0 0 w)
operands_weigh kind line w (convert a) = omega (arith, conversion_weighs [] (keeps (kind_of a) kind) kind 0 0 w)
operands_weigh kind line w (unary op a) = omega arith
operands_weigh kind line w (binary op a b) = omega arith
operands_weigh kind line w (offset_by form size a b) = omega arith
operands_weigh kind line w (difference size a b) = omega arith
operands_weigh kind line w (logical_and a b) = omega arith
operands_weigh kind line w (logical_or a b) = omega arith
operands_weigh kind line w (comma a b) = omega arith
operands_weigh kind line w (conditional a b e) = omega arith
operands_weigh kind line w (assign p a) = omega arith
operands_weigh kind line w (assign_plain x a) = omega arith
operands_weigh kind line w (compound u p a) = omega arith
operands_weigh kind line w (change_plain u x a) = omega arith
operands_weigh kind line w (step u fixity p) = omega arith
operands_weigh kind line w (step_plain u fixity x) = omega arith
operands_weigh kind line w (call f es) = omega (arith, weights_sum w es)
operands_weigh kind line w (call_through type a es) = omega (arith, weights_sum w es)
operands_weigh kind line w (library routine es) = omega (arith, weights_sum w es)
operands_weigh kind line w (printf format es) = omega (arith, weights_sum w es)

-- lvalues

last_places : (c : Placed) (d m k n : ℕ) (node : LvalueNode) → StandsAs c (last_at node d m) k m
    → LowersOperands c (operands_at node) d n k → LowersPlace c node d n m
last_places c d m k n (automatic x) h o =
    subst (λ j. StandsAs c (last_at (automatic x) d m) j m) (sym o) h
last_places c d m k n (static s) h o =
    subst (λ j. StandsAs c (last_at (static s) d m) j m) (sym o) h
last_places c d m k n (deref a) h o = subst (λ j. LowersOperands c (operands_at (deref a)) d n j) h o
last_places c d m k n (index form size a b) h o = (o.0, k, o.1, o.2, h)
last_places c d m k n (member p offset size) h o = (k, o, h)
last_places c d m k n (arrow a offset size) h o = (k, o, h)
last_places c d m k n (member_of_value a offset size) h o = (k, o, h)
last_places c d m k n (parenthesized_lvalue p) h o =
    subst (λ j. LowersOperands c (operands_at (parenthesized_lvalue p)) d n j) h o

place_few : (kind : Kind) (d m : ℕ) (node : LvalueNode)
    → FewIn (last_at node d m) (d + used_made (visited_lvalue kind node) (walk_lvalue_operands used_made node))
place_few kind d m (automatic x) = omega arith
place_few kind d m (static n) = omega arith
place_few kind d m (deref a) = tt
place_few kind d m (index form size a b) = omega (arith, some_used b)
place_few kind d m (member p offset size) = omega arith
place_few kind d m (arrow a offset size) = omega arith
place_few kind d m (member_of_value a offset size) = omega arith
place_few kind d m (parenthesized_lvalue p) = tt

place_real : (d m : ℕ) (node : LvalueNode) → RealIn (last_at node d m) m
place_real d m (automatic x) = (tt, refl)
place_real d m (static n) = (tt, refl)
place_real d m (deref a) = tt
place_real d m (index form size a b) = (tt, refl)
place_real d m (member p offset size) = (tt, refl)
place_real d m (arrow a offset size) = (tt, refl)
place_real d m (member_of_value a offset size) = (tt, refl)
place_real d m (parenthesized_lvalue p) = tt

pub places_most : (kind : Kind) (node : LvalueNode)
    → operands_used (operands_at node) ≤ used_made (visited_lvalue kind node) (walk_lvalue_operands used_made node)
places_most kind (automatic x) = omega arith
places_most kind (static n) = omega arith
places_most kind (deref a) = omega arith
places_most kind (index form size a b) = omega arith
places_most kind (member p offset size) = omega arith
places_most kind (arrow a offset size) = omega arith
places_most kind (member_of_value a offset size) = omega arith
places_most kind (parenthesized_lvalue p) = omega arith

pub places_few : (kind : Kind) (node : LvalueNode)
    → 1 + operands_nodes (operands_at node) ≤ nodes_made (visited_lvalue kind node)
    (walk_lvalue_operands nodes_made node)
places_few kind (automatic x) = omega arith
places_few kind (static n) = omega arith
places_few kind (deref a) = omega arith
places_few kind (index form size a b) = omega arith
places_few kind (member p offset size) = omega arith
places_few kind (arrow a offset size) = omega arith
places_few kind (member_of_value a offset size) = omega arith
places_few kind (parenthesized_lvalue p) = omega arith

place_same : (ts : List (List ℕ)) (d m : ℕ) (w : Weights) (node : LvalueNode)
    → weight_if ts (last_at node d m) w ≡ weight_if [] (last_at node 0 0) w
place_same ts d m w (automatic x) = refl
place_same ts d m w (static n) = refl
place_same ts d m w (deref a) = refl
place_same ts d m w (index form size a b) = refl
place_same ts d m w (member p offset size) = refl
place_same ts d m w (arrow a offset size) = refl
place_same ts d m w (member_of_value a offset size) = refl
place_same ts d m w (parenthesized_lvalue p) = refl

places_weigh : (kind : Kind) (w : Weights) (node : LvalueNode)
    → weight_if [] (last_at node 0 0) w + operands_weight (operands_at node) w
    ≡ weight_made w (visited_lvalue kind node) (walk_lvalue_operands (weight_made w) node)
places_weigh kind w (automatic x) = omega arith
places_weigh kind w (static n) = omega arith
places_weigh kind w (deref a) = omega arith
places_weigh kind w (index form size a b) = omega arith
places_weigh kind w (member p offset size) = omega arith
places_weigh kind w (arrow a offset size) = omega arith
places_weigh kind w (member_of_value a offset size) = omega arith
places_weigh kind w (parenthesized_lvalue p) = omega arith

-- formats

pub a_format : {a b : Emitter} {format : List ℕ} {es : Expressions} {n : ℕ} → TextAdded a b format n
    → FormatAdded a b (printf format es) n
a_format h = record { emits = h.emits; same = h.same; is = h.is }

-- of anything else

abbrev pub HasNone : Node → Type 0
HasNone (printf format es) = ⊥
HasNone node = Unit {0}

no_format_in : (ts : List (List ℕ)) (node : Node) (n : ℕ) → HasNone node → TextIs ts node n
no_format_in ts (constant w) n h = tt
no_format_in ts (function f) n h = tt
no_format_in ts (plain x) n h = tt
no_format_in ts (read p) n h = tt
no_format_in ts (decay p) n h = tt
no_format_in ts (address p) n h = tt
no_format_in ts (parenthesized a) n h = tt
no_format_in ts (deref_function a) n h = tt
no_format_in ts (address_function a) n h = tt
no_format_in ts (cast a) n h = tt
no_format_in ts (convert a) n h = tt
no_format_in ts (unary op a) n h = tt
no_format_in ts (binary op a b) n h = tt
no_format_in ts (offset_by form size a b) n h = tt
no_format_in ts (difference size a b) n h = tt
no_format_in ts (logical_and a b) n h = tt
no_format_in ts (logical_or a b) n h = tt
no_format_in ts (comma a b) n h = tt
no_format_in ts (conditional a b e) n h = tt
no_format_in ts (assign p a) n h = tt
no_format_in ts (assign_plain x a) n h = tt
no_format_in ts (compound u p a) n h = tt
no_format_in ts (change_plain u x a) n h = tt
no_format_in ts (step u fixity p) n h = tt
no_format_in ts (step_plain u fixity x) n h = tt
no_format_in ts (call f es) n h = tt
no_format_in ts (call_through type a es) n h = tt
no_format_in ts (library routine es) n h = tt
no_format_in ts (printf format es) n h = absurd h

pub no_format : (a : Emitter) (node : Node) (n : ℕ) → HasNone node → FormatAdded a a node n
no_format a node n h = record { emits = emits_none 0 (λ w. refl); same = same_nodes; is = λ ts s. no_format_in ts node n h }

-- the key of an access is that of the code in which it stands

key_stands : {a b : Emitter} (node : Node) {key : Option ℕ} {c : Placed}
    → KeyAdded a b (key_in a.literals.items node) key → Fills b c → KeyIs c.keys key (key_in c.literals node)
key_stands node {key = key} {c = c} ka f =
    subst (λ ls. KeyIs c.keys key (key_in ls node)) (sym (fills_before ka.emits f).literals) (ka.is c f)

-- what an expression does is added

added_as : {a b c x : Emitter} {kind : Kind} {line d k m text : ℕ} {node : Node} {key : Option ℕ} {i : Instruction}
    → KeyAdded a b (key_in a.literals.items node) key → FormatAdded b c node text
    → last_in node kind line d key text m ≡ Some i → Added c x k i → Finishes a x (expression kind line node) d k m
added_as {a = a} {c = c} {x = x} {kind = kind} {line = line} {d = d} {k = k} {m = m} {text = text} {node = node} {key =
    key} {i = i}
    ka fa e h =
    let few : temporaries i ≤ d + used (expression kind line node) = subst
    (λ o. FewIn o (d + used (expression kind line node))) e (last_few kind line d key text m node) in
    let real : IsReal i × (successors i ≡ m ∷ []) = subst (λ o. RealIn o m) e
    (last_real kind line d key text m node) in
    let most = d + used (expression kind line node) in
    let first = emits_then most no_weight ka.emits fa.emits (omega arith) (omega arith) (λ w. omega arith) in
    let more = added_by most (finish_weight (expression kind line node)) h few
    (λ w ts s. ap (λ o. weight_if ts o w) (sym e)
    ∙ last_same ts kind line d key text m w node (fa.is ts (subst (λ us. Stays us ts) h.texts s))) in
    record {
      emits = emits_then most (finish_weight (expression kind line node)) first more (omega arith) (omega arith)
          (λ w. omega arith);
      leads = leads_behind (same_then ka.same fa.same) (leads_to h real.1);
      stands = λ p f n o.
          let g = fills_before more f in
          last_stands p kind line d key text m k n node (key_stands node ka (fills_before fa.emits g))
          (fa.is p.texts g.texts)
          (subst (λ j. StandsAs p j k m) (sym e) (f.code k i real.0 (added_has h))) o;
    }

pub some_last : {a b c x : Emitter} {kind : Kind} {line d k m text : ℕ} {node : Node} {key : Option ℕ} {i : Instruction}
    {l : Option Instruction} → KeyAdded a b (key_in a.literals.items node) key → FormatAdded b c node text
    → l ≡ last_in node kind line d key text m → l ≡ Some i → Added c x k i
    → Finishes a x (expression kind line node) d k m
some_last ka fa l s h = added_as ka fa (sym l ∙ s) h

pub none_last : {a b c : Emitter} {kind : Kind} {line d m text : ℕ} {node : Node} {key : Option ℕ}
    {l : Option Instruction} → KeyAdded a b (key_in a.literals.items node) key → FormatAdded b c node text
    → l ≡ last_in node kind line d key text m → l ≡ None → Finishes a c (expression kind line node) d m m
none_last {c = c} {kind = kind} {line = line} {d = d} {m = m} {text = text} {node = node} {key = key} ka fa l s =
    let most = d + used (expression kind line node) in
    let none : (w : Weights) → 0 ≡ finish_weight (expression kind line node) w =
    λ w. ap (λ o. weight_if c.texts.items o w) (sym s ∙ l)
    ∙ last_same c.texts.items kind line d key text m w node (fa.is c.texts.items (stays_all c.texts.items)) in
    record {
      emits = emits_then most (finish_weight (expression kind line node)) ka.emits fa.emits (omega arith) (omega arith)
          none;
      leads = leads_behind (same_then ka.same fa.same) leads_none;
      stands = λ p f n o.
          last_stands p kind line d key text m m n node (key_stands node ka (fills_before fa.emits f))
          (fa.is p.texts f.texts)
          (subst (λ j. StandsAs p j m m) (sym s ∙ l) refl) o;
    }

pub some_place : {a b : Emitter} {kind : Kind} {line d k m : ℕ} {node : LvalueNode} {i : Instruction}
    {l : Option Instruction} → l ≡ last_at node d m → l ≡ Some i → Added a b k i
    → LvalueFinishes a b (lvalue kind line node) d k m
some_place {a = a} {b = b} {kind = kind} {line = line} {d = d} {k = k} {m = m} {node = node} {i = i} l s h =
    let e = sym l ∙ s in
    let most = d + used_by_lvalue (lvalue kind line node) in
    let few : temporaries i ≤ most = subst (λ o. FewIn o most) e (place_few kind d m node) in
    let real : IsReal i × (successors i ≡ m ∷ []) = subst (λ o. RealIn o m) e (place_real d m node) in
    record {
      emits = added_by most (lvalue_finish_weight (lvalue kind line node)) h few
          (λ w ts s. ap (λ o. weight_if ts o w) (sym e) ∙ place_same ts d m w node);
      leads = leads_to h real.1;
      stands = λ p f n o. last_places p d m k n node
          (subst (λ j. StandsAs p j k m) (sym e) (f.code k i real.0 (added_has h))) o;
    }

pub none_place : {a : Emitter} {kind : Kind} {line d m : ℕ} {node : LvalueNode} {l : Option Instruction}
    → l ≡ last_at node d m → l ≡ None → LvalueFinishes a a (lvalue kind line node) d m m
none_place {kind = kind} {line = line} {d = d} {m = m} {node = node} l s = record {
  emits = emits_none (d + used_by_lvalue (lvalue kind line node))
      (λ w. sym (place_same [] d m w node) ∙ sym (ap (λ o. weight_if [] o w) (sym s ∙ l)));
  leads = leads_none;
  stands = λ p f n o. last_places p d m m n node (subst (λ j. StandsAs p j m m) (sym s ∙ l) refl) o;
}

pub used_most : (e : Expression) → operands_used (operands_of e) ≤ used e
used_most (expression kind line node) = operands_most kind node

pub nodes_most : (e : Expression) → 1 + operands_nodes (operands_of e) ≤ nodes e
nodes_most (expression kind line node) = operands_few kind node

pub used_by_most : (p : Lvalue) → operands_used (lvalue_operands p) ≤ used_by_lvalue p
used_by_most (lvalue kind line node) = places_most kind node

pub weight_most : (e : Expression) (w : Weights)
    → finish_weight e w + operands_weight (operands_of e) w ≡ expression_weight e w
weight_most (expression kind line node) w = operands_weigh kind line w node

pub weight_by_most : (p : Lvalue) (w : Weights)
    → lvalue_finish_weight p w + operands_weight (lvalue_operands p) w ≡ lvalue_weight p w
weight_by_most (lvalue kind line node) w = places_weigh kind w node

pub nodes_by_most : (p : Lvalue) → 1 + operands_nodes (lvalue_operands p) ≤ lvalue_nodes p
nodes_by_most (lvalue kind line node) = places_few kind node

pub room_one : (e : Expression) (d limit : ℕ) → d + used e < limit → d + 1 < limit
room_one e d limit h = omega (arith, some_used e)

pub room_one_by : (p : Lvalue) (d limit : ℕ) → d + used_by_lvalue p < limit → d + 1 < limit
room_one_by p d limit h = omega (arith, some_used_by p)

pub ruleset formats = (a_format, no_format)

pub ruleset finishing = (some_last, none_last, some_used)

pub ruleset lvalue_finishing = (some_place, none_place, some_used_by)
