-- Expressions and lvalues of the code as plain data, and arguments from one on.
use Rattle.std.proofs.Common.{◌≡◌, ℕ, zero, suc, ◌+◌, ◌-◌, ◌≤◌, ◌<◌, List, [], ◌∷◌, length, map, drop, sym, ap, ◌∙◌}
use Rattle.std.proofs.Common.{subst, arith}
use Rattle.std.specs.Prelude.{get_or, ◌⊎◌}
use Rattle.std.proofs.lemmas.List.{drop_more}
use mathlib.Core.Logic.{inl, inr}
use Rattle.c_tree.specs.declared.expression.Expression.{Expression as CodeExpression}
use Rattle.c_tree.specs.declared.expression.Lvalue.{Lvalue as CodeLvalue}
use Rattle.c_tree.specs.declared.expression.LvalueNode.TheFolds.{fold_out-Expression, fold_out-Lvalue, fold-roll-Node}
use Rattle.c_tree.specs.declared.expression.LvalueNode.TheFolds.{fold-roll-LvalueNode}
use Rattle.c_tree.specs.declared.expression.LvalueNode.TheOpen.{Node-F, LvalueNode-F}
use Rattle.c_tree.specs.declared.expression.Node as rn
use Rattle.c_tree.specs.declared.expression.LvalueNode as rp
use Rattle.c_tree.specs.declared.expression.Node.TheVariants as nv
use Rattle.c_tree.specs.declared.expression.LvalueNode.TheVariants as pv
use Rattle.obj_memory.specs.declared.operator.BinaryOperator.{BinaryOperator}
use Rattle.c_tree.specs.declared.expression.OffsetForm.{OffsetForm}
use Rattle.c_tree.specs.declared.expression.Update.{Update}
use Rattle.c_tree.specs.Tree.{Expression, expression, Lvalue, lvalue, Node, LvalueNode, expressions_in, kind_of}
use Rattle.c_tree.specs.Tree.{line_of}
use Rattle.c_tree.specs.Tree.{binary, offset_by, difference, logical_and, logical_or, comma, conditional, assign}
use Rattle.c_tree.specs.Tree.{compound, call_through, index}
use Rattle.c_tree.specs.View.{expression_of, lvalue_of, lvalue_node_step, node_step, expression_step, lvalue_step}
use Rattle.c_lower.specs.Homes.{used, used_by_lvalue}
use Rattle.program_lowering.specs.declared.expressions.emitter.Emitter.{Emitter}
use Rattle.program_lowering.specs.ExpressionCode.Emitted.{ExpressionCode, LvalueCode, ArgumentsCode, arguments_used}
use Rattle.program_lowering.specs.ExpressionCode.Sizes.{nodes, lvalue_nodes, arguments_nodes}
use Rattle.program_lowering.specs.ExpressionCode.Shapes.{Operands, two, place_and, callee_and, both, either, sequence}
use Rattle.program_lowering.specs.ExpressionCode.Shapes.{choice}
use Rattle.program_lowering.specs.ExpressionCode.Shapes.{operands_in, operands_at, operands_of, lvalue_operands}
use Rattle.program_lowering.specs.ExpressionCode.Shapes.{operands_used}
use Rattle.program_lowering.specs.ExpressionCode.Shapes.{operands_nodes, OperandsCode, Finishes, LvalueFinishes}
use Rattle.program_lowering.specs.ExpressionCode.Last.{TakingCode}
use Rattle.program_lowering.specs.ExpressionCode.Nodes.{node_of, lvalue_node_of}
use Rattle.program_lowering.proofs.ExpressionCode.Parts.{no_arguments, more_arguments, finished, lvalue_finished}
use Rattle.program_lowering.proofs.ExpressionCode.Steps.{used_most, used_by_most, nodes_most, nodes_by_most}

pub of_expression : (e : CodeExpression) → expression_of e ≡ expression e.kind e.line (node_of e.node)
of_expression e = fold_out-Expression LvalueNode Node Expression Lvalue lvalue_node_step node_step expression_step
    lvalue_step e

pub of_lvalue : (p : CodeLvalue) → lvalue_of p ≡ lvalue p.kind p.line (lvalue_node_of p.node)
of_lvalue p = fold_out-Lvalue LvalueNode Node Expression Lvalue lvalue_node_step node_step expression_step lvalue_step p

pub of_Binary : (op : BinaryOperator) (a : CodeExpression) (b : CodeExpression) → node_of (rn.Binary op a b)
    ≡ binary op (expression_of a) (expression_of b)
of_Binary op a b =
    ap node_of (sym (nv.rolls-Binary op a b))
    ∙ fold-roll-Node LvalueNode Node Expression Lvalue lvalue_node_step node_step expression_step lvalue_step
    (Node-F.Binary op a b)

pub of_Offset : (form : OffsetForm) (size : ℕ) (a : CodeExpression) (b : CodeExpression)
    → node_of (rn.Offset form size a b) ≡ offset_by form size (expression_of a) (expression_of b)
of_Offset form size a b =
    ap node_of (sym (nv.rolls-Offset form size a b))
    ∙ fold-roll-Node LvalueNode Node Expression Lvalue lvalue_node_step node_step expression_step lvalue_step
    (Node-F.Offset form size a b)

pub of_Difference : (size : ℕ) (a : CodeExpression) (b : CodeExpression) → node_of (rn.Difference size a b)
    ≡ difference size (expression_of a) (expression_of b)
of_Difference size a b =
    ap node_of (sym (nv.rolls-Difference size a b))
    ∙ fold-roll-Node LvalueNode Node Expression Lvalue lvalue_node_step node_step expression_step lvalue_step
    (Node-F.Difference size a b)

pub of_And : (a : CodeExpression) (b : CodeExpression) → node_of (rn.And a b)
    ≡ logical_and (expression_of a) (expression_of b)
of_And a b =
    ap node_of (sym (nv.rolls-And a b))
    ∙ fold-roll-Node LvalueNode Node Expression Lvalue lvalue_node_step node_step expression_step lvalue_step
    (Node-F.And a b)

pub of_Or : (a : CodeExpression) (b : CodeExpression) → node_of (rn.Or a b)
    ≡ logical_or (expression_of a) (expression_of b)
of_Or a b =
    ap node_of (sym (nv.rolls-Or a b))
    ∙ fold-roll-Node LvalueNode Node Expression Lvalue lvalue_node_step node_step expression_step lvalue_step
    (Node-F.Or a b)

pub of_Comma : (a : CodeExpression) (b : CodeExpression) → node_of (rn.Comma a b)
    ≡ comma (expression_of a) (expression_of b)
of_Comma a b =
    ap node_of (sym (nv.rolls-Comma a b))
    ∙ fold-roll-Node LvalueNode Node Expression Lvalue lvalue_node_step node_step expression_step lvalue_step
    (Node-F.Comma a b)

pub of_Conditional : (c : CodeExpression) (a : CodeExpression) (b : CodeExpression) → node_of (rn.Conditional c a b)
    ≡ conditional (expression_of c) (expression_of a) (expression_of b)
of_Conditional c a b =
    ap node_of (sym (nv.rolls-Conditional c a b))
    ∙ fold-roll-Node LvalueNode Node Expression Lvalue lvalue_node_step node_step expression_step lvalue_step
    (Node-F.Conditional c a b)

pub of_Assign : (p : CodeLvalue) (a : CodeExpression) → node_of (rn.Assign p a) ≡ assign (lvalue_of p) (expression_of a)
of_Assign p a =
    ap node_of (sym (nv.rolls-Assign p a))
    ∙ fold-roll-Node LvalueNode Node Expression Lvalue lvalue_node_step node_step expression_step lvalue_step
    (Node-F.Assign p a)

pub of_Compound : (u : Update) (p : CodeLvalue) (a : CodeExpression) → node_of (rn.Compound u p a)
    ≡ compound u (lvalue_of p) (expression_of a)
of_Compound u p a =
    ap node_of (sym (nv.rolls-Compound u p a))
    ∙ fold-roll-Node LvalueNode Node Expression Lvalue lvalue_node_step node_step expression_step lvalue_step
    (Node-F.Compound u p a)

pub of_CallThrough : (type : ℕ) (a : CodeExpression) (es : List CodeExpression) → node_of (rn.CallThrough type a es)
    ≡ call_through type (expression_of a) (expressions_in (map expression_of es))
of_CallThrough type a es =
    ap node_of (sym (nv.rolls-CallThrough type a es))
    ∙ fold-roll-Node LvalueNode Node Expression Lvalue lvalue_node_step node_step expression_step lvalue_step
    (Node-F.CallThrough type a es)

pub of_Index : (form : OffsetForm) (size : ℕ) (a b : CodeExpression)
    → lvalue_node_of (rp.Index form size a b) ≡ index form size (expression_of a) (expression_of b)
of_Index form size a b =
    ap lvalue_node_of (sym (pv.rolls-Index form size a b))
    ∙ fold-roll-LvalueNode LvalueNode Node Expression Lvalue lvalue_node_step node_step expression_step lvalue_step
    (LvalueNode-F.Index form size a b)

both_as : (make : Expression → Expression → Operands) (a b x y : CodeExpression) → x ≡ a → y ≡ b
    → make (expression_of a) (expression_of b) ≡ make (expression_of x) (expression_of y)
both_as make a b x y ex ey =
    ap (λ z. make (expression_of z) (expression_of b)) (sym ex)
    ∙ ap (λ z. make (expression_of x) (expression_of z)) (sym ey)

-- what a match shows of the operands

pub pair_shape : (node : rn.Node) (a b x y : CodeExpression) → x ≡ a → y ≡ b
    → ((op : BinaryOperator) × (node ≡ rn.Binary op a b))
    ⊎ (((form : OffsetForm) × (size : ℕ) × (node ≡ rn.Offset form size a b))
    ⊎ ((size : ℕ) × (node ≡ rn.Difference size a b)))
    → operands_in (node_of node) ≡ two (expression_of x) (expression_of y)
pair_shape node a b x y ex ey (inl h) =
    ap (λ n. operands_in (node_of n)) h.1 ∙ ap operands_in (of_Binary h.0 a b) ∙ both_as two a b x y ex ey
pair_shape node a b x y ex ey (inr (inl h)) =
    ap (λ n. operands_in (node_of n)) h.2 ∙ ap operands_in (of_Offset h.0 h.1 a b) ∙ both_as two a b x y ex ey
pair_shape node a b x y ex ey (inr (inr h)) =
    ap (λ n. operands_in (node_of n)) h.1 ∙ ap operands_in (of_Difference h.0 a b) ∙ both_as two a b x y ex ey

pub assigned_shape : (node : rn.Node) (p q : CodeLvalue) (a x : CodeExpression) → q ≡ p → x ≡ a
    → (node ≡ rn.Assign p a) ⊎ ((u : Update) × (node ≡ rn.Compound u p a))
    → operands_in (node_of node) ≡ place_and (lvalue_of q) (expression_of x)
assigned_shape node p q a x eq ex (inl h) =
    ap (λ n. operands_in (node_of n)) h ∙ ap operands_in (of_Assign p a)
    ∙ ap (λ z. place_and (lvalue_of z) (expression_of a)) (sym eq)
    ∙ ap (λ z. place_and (lvalue_of q) (expression_of z)) (sym ex)
assigned_shape node p q a x eq ex (inr h) =
    ap (λ n. operands_in (node_of n)) h.1 ∙ ap operands_in (of_Compound h.0 p a)
    ∙ ap (λ z. place_and (lvalue_of z) (expression_of a)) (sym eq)
    ∙ ap (λ z. place_and (lvalue_of q) (expression_of z)) (sym ex)

pub and_shape : (node : rn.Node) (a b x y : CodeExpression) → x ≡ a → y ≡ b → node ≡ rn.And a b
    → operands_in (node_of node) ≡ both (expression_of x) (expression_of y)
and_shape node a b x y ex ey h =
    ap (λ n. operands_in (node_of n)) h ∙ ap operands_in (of_And a b) ∙ both_as both a b x y ex ey

pub or_shape : (node : rn.Node) (a b x y : CodeExpression) → x ≡ a → y ≡ b → node ≡ rn.Or a b
    → operands_in (node_of node) ≡ either (expression_of x) (expression_of y)
or_shape node a b x y ex ey h =
    ap (λ n. operands_in (node_of n)) h ∙ ap operands_in (of_Or a b) ∙ both_as either a b x y ex ey

pub comma_shape : (node : rn.Node) (a b x y : CodeExpression) → x ≡ a → y ≡ b → node ≡ rn.Comma a b
    → operands_in (node_of node) ≡ sequence (expression_of x) (expression_of y)
comma_shape node a b x y ex ey h =
    ap (λ n. operands_in (node_of n)) h ∙ ap operands_in (of_Comma a b) ∙ both_as sequence a b x y ex ey

pub choice_shape : (node : rn.Node) (c a b z x y : CodeExpression) → z ≡ c → x ≡ a → y ≡ b → node ≡ rn.Conditional c a b
    → operands_in (node_of node) ≡ choice (expression_of z) (expression_of x) (expression_of y)
choice_shape node c a b z x y ez ex ey h =
    ap (λ n. operands_in (node_of n)) h ∙ ap operands_in (of_Conditional c a b)
    ∙ ap (λ w. choice (expression_of w) (expression_of a) (expression_of b)) (sym ez)
    ∙ both_as (choice (expression_of z)) a b x y ex ey

pub callee_shape : (node : rn.Node) (type : ℕ) (a x : CodeExpression) (es ys : List CodeExpression) → x ≡ a → ys ≡ es
    → node ≡ rn.CallThrough type a es
    → operands_in (node_of node) ≡ callee_and (expression_of x) (expressions_in (map expression_of ys))
callee_shape node type a x es ys ex ey h =
    ap (λ n. operands_in (node_of n)) h ∙ ap operands_in (of_CallThrough type a es)
    ∙ ap (λ w. callee_and (expression_of w) (expressions_in (map expression_of es))) (sym ex)
    ∙ ap (λ w. callee_and (expression_of x) (expressions_in (map expression_of w))) (sym ey)

pub index_shape : (node : rp.LvalueNode) (form : OffsetForm) (size : ℕ) (a b x y : CodeExpression) → x ≡ a → y ≡ b
    → node ≡ rp.Index form size a b → operands_at (lvalue_node_of node) ≡ two (expression_of x) (expression_of y)
index_shape node form size a b x y ex ey h =
    ap (λ n. operands_at (lvalue_node_of n)) h ∙ ap operands_at (of_Index form size a b) ∙ both_as two a b x y ex ey

-- room for operands

pub room_in : (e : CodeExpression) (d limit : ℕ) → d + used (expression_of e) < limit
    → d + operands_used (operands_in (node_of e.node)) < limit
room_in e d limit h =
    let shape = ap (λ x. operands_used (operands_of x)) (of_expression e) in
    omega (arith, used_most (expression_of e), shape, h)

pub room_at : (p : CodeLvalue) (d limit : ℕ) → d + used_by_lvalue (lvalue_of p) < limit
    → d + operands_used (operands_at (lvalue_node_of p.node)) < limit
room_at p d limit h =
    let shape = ap (λ x. operands_used (lvalue_operands x)) (of_lvalue p) in
    omega (arith, used_by_most (lvalue_of p), shape, h)

pub whole_from : {a b c : Emitter} {d n k m : ℕ} (e : CodeExpression) → Finishes a b (expression_of e) d k m
    → OperandsCode b c (operands_in (node_of e.node)) d n k → ExpressionCode a c (expression_of e) d n m
whole_from {b = b} {c = c} {d = d} {n = n} {k = k} e h o =
    finished (expression_of e) h
    (subst (λ os. OperandsCode b c os d n k) (sym (ap operands_of (of_expression e))) o)

pub lvalue_from : {a b c : Emitter} {d n k m : ℕ} (p : CodeLvalue) → LvalueFinishes a b (lvalue_of p) d k m
    → OperandsCode b c (operands_at (lvalue_node_of p.node)) d n k → LvalueCode a c (lvalue_of p) d n m
lvalue_from {b = b} {c = c} {d = d} {n = n} {k = k} p h o =
    lvalue_finished (lvalue_of p) h
    (subst (λ os. OperandsCode b c os d n k) (sym (ap lvalue_operands (of_lvalue p))) o)

-- the elements of a list from a place on
pub drop_from : {A : Type 0} (xs : List A) (k : ℕ) (x : A) → k < length xs → x ≡ get_or xs k x
    → drop k xs ≡ x ∷ drop (k + 1) xs
drop_from xs k x lt e = drop_more xs k x lt ∙ ap (λ z. z ∷ drop (k + 1) xs) (sym e)

pub used_at : (xs : List CodeExpression) (k : ℕ) (x : CodeExpression) → k < length xs → x ≡ get_or xs k x
    → k + used (expression_of x) ≤ arguments_used (expressions_in (map expression_of xs))
used_at [] k x lt e = absurd (omega (arith, lt))
used_at (y ∷ xs) zero x lt e = omega (arith, ap (λ z. used (expression_of z)) e)
used_at (y ∷ xs) (suc k) x lt e = omega (arith, used_at xs k x (omega (arith, lt)) e)

-- one argument more, before those from a place on
pub next_argument : {a b c e : Emitter} {n k j m : ℕ} (xs : List CodeExpression) (i d : ℕ) (x : CodeExpression) → 1 ≤ i
    → i ≤ length xs → x ≡ get_or xs (i - 1) x
    → ArgumentsCode a b (expressions_in (map expression_of (drop i xs))) (d + i) j m
    → TakingCode b c x.kind x.line (d + (i - 1)) k j → ExpressionCode c e (expression_of x) (d + (i - 1)) n k
    → ArgumentsCode a e (expressions_in (map expression_of (drop (i - 1) xs))) (d + (i - 1)) n m
next_argument {a = a} {b = b} {c = c} {e = e} {n = n} {k = k} {j = j} {m = m} xs i d x ge le is hs t hx =
    let from = drop_from xs (i - 1) x (omega (arith, ge, le)) is in
    let at : i - 1 + 1 ≡ i = omega (arith, ge) in
    let place : d + i ≡ d + (i - 1) + 1 = omega (arith, ge) in
    let view = of_expression x in
    let rest = subst (λ p. ArgumentsCode a b (expressions_in (map expression_of (drop i xs))) p j m) place hs in
    let taking = subst (λ l. TakingCode b c l x.line (d + (i - 1)) k j) (sym (ap kind_of view)) t in
    let taken = subst (λ l. TakingCode b c (kind_of (expression_of x)) l (d + (i - 1)) k j)
    (sym (ap line_of view)) taking in
    let more = more_arguments rest taken hx in
    let same : expression_of x ∷ map expression_of (drop i xs) ≡ map expression_of (drop (i - 1) xs) =
    ap (λ p. expression_of x ∷ map expression_of (drop p xs)) (sym at) ∙ ap (map expression_of) (sym from) in
    subst (λ es. ArgumentsCode a e (expressions_in es) (d + (i - 1)) n m) same more

pub argument_room : (xs : List CodeExpression) (i d limit : ℕ) (x : CodeExpression) → 1 ≤ i → i ≤ length xs
    → x ≡ get_or xs (i - 1) x → d + arguments_used (expressions_in (map expression_of xs)) < limit
    → d + (i - 1) + used (expression_of x) < limit
argument_room xs i d limit x ge le is h = omega (arith, used_at xs (i - 1) x (omega (arith, ge, le)) is, h)

pub nodes_in : (e : CodeExpression) → 1 + operands_nodes (operands_in (node_of e.node)) ≤ nodes (expression_of e)
nodes_in e =
    let shape = ap (λ x. operands_nodes (operands_of x)) (of_expression e) in
    omega (arith, nodes_most (expression_of e), shape)

pub nodes_below : (p : CodeLvalue) → 1 + operands_nodes (operands_at (lvalue_node_of p.node)) ≤ lvalue_nodes
    (lvalue_of p)
nodes_below p =
    let shape = ap (λ x. operands_nodes (lvalue_operands x)) (of_lvalue p) in
    omega (arith, nodes_by_most (lvalue_of p), shape)

pub nodes_at : (xs : List CodeExpression) (k : ℕ) (x : CodeExpression) → k < length xs → x ≡ get_or xs k x
    → nodes (expression_of x) ≤ arguments_nodes (expressions_in (map expression_of xs))
nodes_at [] k x lt e = absurd (omega (arith, lt))
nodes_at (y ∷ xs) zero x lt e = omega (arith, ap (λ z. nodes (expression_of z)) e)
nodes_at (y ∷ xs) (suc k) x lt e = omega (arith, nodes_at xs k x (omega (arith, lt)) e)

pub ruleset whole = (whole_from, room_in, nodes_in)

pub ruleset lvalue_whole = (lvalue_from, room_at, nodes_below)

pub ruleset argument_codes = (no_arguments, argument_room)
