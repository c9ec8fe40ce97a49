-- What expressions demand is their height and the bytes that they pass.
use Rattle.std.proofs.Common.{◌≡◌, ℕ, suc, ◌+◌, ◌^◌, ◌<◌, ◌≤◌, refl, sym, ap, ◌∙◌, List, [], ◌∷◌, Some, arith}
use Rattle.std.specs.Prelude.{max}
use Rattle.c_tree.specs.declared.expression.Kind.{Kind}
use Rattle.c_tree.specs.Tree.{Expression, expression, Expressions, no_expressions, expressions, Lvalue, lvalue, Node}
use Rattle.c_tree.specs.Tree.{constant, function, plain, read, decay, address, parenthesized, deref_function}
use Rattle.c_tree.specs.Tree.{address_function, cast, convert, unary, binary, offset_by, difference, logical_and}
use Rattle.c_tree.specs.Tree.{logical_or, comma, conditional, assign, assign_plain, compound, change_plain, step}
use Rattle.c_tree.specs.Tree.{step_plain, call, call_through, library, printf, LvalueNode, automatic, static, deref}
use Rattle.c_tree.specs.Tree.{index, member, arrow, member_of_value, parenthesized_lvalue}
use Rattle.c_tree.specs.Walk.{Visited, visited, visited_lvalue, walk, walk_lvalue, walk_operands, walk_lvalue_operands}
use Rattle.c_tree.specs.Walk.{walk_each, greatest, sum_of}
use Rattle.c_tree.specs.Room.{in_turn, height_made, bytes_of_call}
use Rattle.c_room.specs.declared.demand.Demand.{Demand}
use Rattle.c_room.specs.declared.demand.InTurn.{InTurn}
use Rattle.c_room.specs.Numbers.{fitting, plus, greater}
use Rattle.c_room.specs.Demands.{IsDemand, value, beside, all_beside, start, next, all_next, demand_made, passed_made}
use Rattle.c_room.proofs.Fitting.{below, greater_fits, plus_fits}

-- each of several
pub data AreDemands : List Demand → List ℕ → List ℕ → Type 0 where
  none : AreDemands [] [] []
  one : (d : Demand) (h b : ℕ) (ds : List Demand) (hs bs : List ℕ) → IsDemand d h b → AreDemands ds hs bs
      → AreDemands (d ∷ ds) (h ∷ hs) (b ∷ bs)

pub same : {d : Demand} {h h' b b' : ℕ} → IsDemand d h b → h ≡ h' → b ≡ b' → IsDemand d h' b'
same is e f = record { height = is.height ∙ ap fitting e; passed = is.passed ∙ ap fitting f }

pub is_beside : {d e : Demand} {h b h' b' : ℕ} → IsDemand d h b → IsDemand e h' b'
    → IsDemand (beside d e) (max h h') (b + b')
unfolding beside
is_beside {d} {e} {h} {b} {h'} {b'} first second = record {
  height = ap (λ z. greater z e.height) first.height ∙ ap (greater (fitting h)) second.height ∙ greater_fits h h';
  passed = ap (λ z. plus z e.passed) first.passed ∙ ap (plus (fitting b)) second.passed ∙ plus_fits b b';
}

pub are_beside : (d : Demand) (h b : ℕ) (ds : List Demand) (hs bs : List ℕ) → IsDemand d h b → AreDemands ds hs bs
    → IsDemand (all_beside d ds) (max h (greatest hs)) (b + sum_of bs)
are_beside d h b _ _ _ is none = same is (omega arith) (omega arith)
are_beside d h b _ _ _ is (one e h' b' ds hs bs is' rest) =
    same (are_beside (beside d e) (max h h') (b + b') ds hs bs (is_beside is is') rest) (omega arith) (omega arith)

pub is_value : (bytes : ℕ) → IsDemand (value bytes) 1 bytes
unfolding value
is_value bytes = record { height = sym (below 1 (omega arith)); passed = refl }

highest : (bytes : ℕ) (ds : List Demand) (hs bs : List ℕ) → AreDemands ds hs bs
    → IsDemand (all_beside (value bytes) ds) (max 1 (greatest hs)) (bytes + sum_of bs)
highest bytes ds hs bs are = are_beside (value bytes) 1 bytes ds hs bs (is_value bytes) are

-- operands that come in turn

is_next : (t : InTurn) (d : Demand) (k h b h' b' : ℕ) → t.kept ≡ fitting k → IsDemand t.demand h b → IsDemand d h' b'
    → IsDemand (next t d).demand (max h (k + h')) (b + b')
unfolding next
is_next t d k h b h' b' kept first second = record {
  height = ap (λ z. greater z (plus t.kept d.height)) first.height
      ∙ ap (λ z. greater (fitting h) (plus z d.height)) kept
      ∙ ap (λ z. greater (fitting h) (plus (fitting k) z)) second.height
      ∙ ap (greater (fitting h)) (plus_fits k h') ∙ greater_fits h (k + h');
  passed = ap (λ z. plus z d.passed) first.passed ∙ ap (plus (fitting b)) second.passed ∙ plus_fits b b';
}

kept_next : (t : InTurn) (d : Demand) (k : ℕ) → t.kept ≡ fitting k → (next t d).kept ≡ fitting (suc k)
unfolding next
kept_next t d k kept =
    let e : k + 1 ≡ suc k = omega arith in
    ap (λ z. plus z (Some 1)) kept ∙ ap (plus (fitting k)) (sym (below 1 (omega arith))) ∙ plus_fits k 1 ∙ ap fitting e

one_at_least : (k : ℕ) (hs : List ℕ) → 1 ≤ in_turn k hs
one_at_least k [] = omega arith
one_at_least k (h ∷ hs) = omega (arith, one_at_least (suc k) hs)

are_next : (t : InTurn) (k h b : ℕ) (ds : List Demand) (hs bs : List ℕ) → t.kept ≡ fitting k → 1 ≤ h
    → IsDemand t.demand h b → AreDemands ds hs bs
    → IsDemand (all_next t ds).demand (max h (in_turn k hs)) (b + sum_of bs)
are_next t k h b _ _ _ kept least is none = same is (omega (arith, least)) (omega arith)
are_next t k h b _ _ _ kept least is (one d h' b' ds hs bs is' rest) =
    let more : 1 ≤ max h (k + h') = omega (arith, least) in
    same (are_next (next t d) (suc k) (max h (k + h')) (b + b') ds hs bs (kept_next t d k kept) more
    (is_next t d k h b h' b' kept is is') rest) (omega arith) (omega arith)

started : (k bytes : ℕ) → k < 2 ^ 64 → (start k bytes).kept ≡ fitting k
unfolding start
started k bytes low = sym (below k low)

starts : (k bytes : ℕ) → IsDemand (start k bytes).demand 1 bytes
unfolding start
starts k bytes = is_value bytes

turns : (k bytes : ℕ) (ds : List Demand) (hs bs : List ℕ) → k < 2 ^ 64 → AreDemands ds hs bs
    → IsDemand (all_next (start k bytes) ds).demand (in_turn k hs) (bytes + sum_of bs)
turns k bytes ds hs bs low are =
    same (are_next (start k bytes) k 1 bytes ds hs bs (started k bytes low) (omega arith) (starts k bytes) are)
    (omega (arith, one_at_least k hs)) refl

-- one value is kept before
behind_one : (bytes : ℕ) (ds : List Demand) (hs bs : List ℕ) → AreDemands ds hs bs
    → IsDemand (all_next (start 1 bytes) ds).demand (in_turn 0 (1 ∷ hs)) (bytes + sum_of bs)
behind_one bytes ds hs bs are =
    same (turns 1 bytes ds hs bs (omega arith) are) (omega (arith, one_at_least 1 hs)) refl

in_order : (bytes : ℕ) (ds : List Demand) (hs bs : List ℕ) → AreDemands ds hs bs
    → IsDemand (all_next (start 0 bytes) ds).demand (in_turn 0 hs) (bytes + sum_of bs)
in_order bytes ds hs bs are = turns 0 bytes ds hs bs (omega arith) are

-- the walk

alone : {d : Demand} {h b : ℕ} → IsDemand d h b → AreDemands (d ∷ []) (h ∷ []) (b ∷ [])
alone is = one _ _ _ _ _ _ is none

pair : {d e : Demand} {h b h' b' : ℕ} → IsDemand d h b → IsDemand e h' b'
    → AreDemands (d ∷ e ∷ []) (h ∷ h' ∷ []) (b ∷ b' ∷ [])
pair is is' = one _ _ _ _ _ _ is (alone is')

abbrev Demands : Visited → List Demand → List ℕ → List ℕ → Type 0
Demands v ds hs bs = IsDemand (demand_made v ds) (height_made v hs) (passed_made v bs)

mutual
  pub is_demand : (e : Expression) → IsDemand (walk demand_made e) (walk height_made e) (walk passed_made e)
  is_demand (expression kind line node) = node_demand kind node

  node_demand : (kind : Kind) (n : Node)
      → Demands (visited kind n) (walk_operands demand_made n) (walk_operands height_made n)
      (walk_operands passed_made n)
  node_demand kind (constant w) = highest 0 _ _ _ none
  node_demand kind (function f) = highest 0 _ _ _ none
  node_demand kind (plain x) = highest 0 _ _ _ none
  node_demand kind (read p) = highest 0 _ _ _ (alone (lvalue_is_demand p))
  node_demand kind (decay p) = highest 0 _ _ _ (alone (lvalue_is_demand p))
  node_demand kind (address p) = highest 0 _ _ _ (alone (lvalue_is_demand p))
  node_demand kind (parenthesized a) = highest 0 _ _ _ (alone (is_demand a))
  node_demand kind (deref_function a) = highest 0 _ _ _ (alone (is_demand a))
  node_demand kind (address_function a) = highest 0 _ _ _ (alone (is_demand a))
  node_demand kind (cast a) = highest 0 _ _ _ (alone (is_demand a))
  node_demand kind (convert a) = highest 0 _ _ _ (alone (is_demand a))
  node_demand kind (unary op a) = highest 0 _ _ _ (alone (is_demand a))
  node_demand kind (binary op a b) = in_order 0 _ _ _ (pair (is_demand a) (is_demand b))
  node_demand kind (offset_by form size a b) = in_order 0 _ _ _ (pair (is_demand a) (is_demand b))
  node_demand kind (difference size a b) = in_order 0 _ _ _ (pair (is_demand a) (is_demand b))
  node_demand kind (logical_and a b) = highest 0 _ _ _ (pair (is_demand a) (is_demand b))
  node_demand kind (logical_or a b) = highest 0 _ _ _ (pair (is_demand a) (is_demand b))
  node_demand kind (comma a b) = highest 0 _ _ _ (pair (is_demand a) (is_demand b))
  node_demand kind (conditional a b c) =
      highest 0 _ _ _ (one _ _ _ _ _ _ (is_demand a) (pair (is_demand b) (is_demand c)))
  node_demand kind (assign p a) = in_order 0 _ _ _ (pair (lvalue_is_demand p) (is_demand a))
  node_demand kind (assign_plain x a) = behind_one 0 _ _ _ (alone (is_demand a))
  node_demand kind (compound u p a) = in_order 0 _ _ _ (pair (lvalue_is_demand p) (is_demand a))
  node_demand kind (change_plain u x a) = behind_one 0 _ _ _ (alone (is_demand a))
  node_demand kind (step u fixity p) = highest 0 _ _ _ (alone (lvalue_is_demand p))
  node_demand kind (step_plain u fixity x) = highest 0 _ _ _ none
  node_demand kind (call f es) = in_order (bytes_of_call (visited kind (call f es))) _ _ _ (are_demands es)
  node_demand kind (call_through type a es) =
      in_order (bytes_of_call (visited kind (call_through type a es))) _ _ _
      (one _ _ _ _ _ _ (is_demand a) (are_demands es))
  node_demand kind (library routine es) = in_order 0 _ _ _ (are_demands es)
  node_demand kind (printf format es) = behind_one 0 _ _ _ (are_demands es)

  are_demands : (es : Expressions)
      → AreDemands (walk_each demand_made es) (walk_each height_made es) (walk_each passed_made es)
  are_demands no_expressions = none
  are_demands (expressions e es) = one _ _ _ _ _ _ (is_demand e) (are_demands es)

  lvalue_is_demand : (p : Lvalue)
      → IsDemand (walk_lvalue demand_made p) (walk_lvalue height_made p) (walk_lvalue passed_made p)
  lvalue_is_demand (lvalue kind line node) = lvalue_node_demand kind node

  lvalue_node_demand : (kind : Kind) (n : LvalueNode)
      → Demands (visited_lvalue kind n) (walk_lvalue_operands demand_made n) (walk_lvalue_operands height_made n)
      (walk_lvalue_operands passed_made n)
  lvalue_node_demand kind (automatic x) = highest 0 _ _ _ none
  lvalue_node_demand kind (static n) = highest 0 _ _ _ none
  lvalue_node_demand kind (deref a) = highest 0 _ _ _ (alone (is_demand a))
  lvalue_node_demand kind (index form size a b) = in_order 0 _ _ _ (pair (is_demand a) (is_demand b))
  lvalue_node_demand kind (member p offset size) = highest 0 _ _ _ (alone (lvalue_is_demand p))
  lvalue_node_demand kind (arrow a offset size) = highest 0 _ _ _ (alone (is_demand a))
  lvalue_node_demand kind (member_of_value a offset size) = highest 0 _ _ _ (alone (is_demand a))
  lvalue_node_demand kind (parenthesized_lvalue p) = highest 0 _ _ _ (alone (lvalue_is_demand p))
