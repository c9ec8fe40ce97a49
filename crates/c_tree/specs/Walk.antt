-- One walk over all trees of expressions, from the operands up: what is made of a node and of what was made of its
-- operands, in the order of the text. A definition that treats most nodes alike is a step of it, which names only the
-- others.
use Rattle.std.specs.Prelude.{ℕ, ◌+◌, max, Bool, true, false, ◌||◌, ◌==◌, List, [], ◌∷◌}
use Rattle.c_tree.specs.declared.expression.Kind.{Kind}
use Rattle.c_tree.specs.Tree.{Expression, expression, Expressions, no_expressions, expressions, Lvalue, lvalue, Node}
use Rattle.c_tree.specs.Tree.{constant, function, plain, read, decay, address, parenthesized, deref_function}
use Rattle.c_tree.specs.Tree.{address_function, cast, convert, unary, binary, offset_by, difference, logical_and}
use Rattle.c_tree.specs.Tree.{logical_or, comma, conditional, assign, assign_plain, compound, change_plain, step}
use Rattle.c_tree.specs.Tree.{step_plain, call, call_through, library, printf, LvalueNode, automatic, static, deref}
use Rattle.c_tree.specs.Tree.{index, member, arrow, member_of_value, parenthesized_lvalue}

-- where a walk is: at an expression or at an lvalue, with its kind
pub data Visited : Type 0 where
  visited : Kind → Node → Visited
  visited_lvalue : Kind → LvalueNode → Visited

abbrev mutual
  pub walk : {A : Type 0} → (Visited → List A → A) → Expression → A
  walk make (expression kind line node) = make (visited kind node) (walk_operands make node)

  pub walk_lvalue : {A : Type 0} → (Visited → List A → A) → Lvalue → A
  walk_lvalue make (lvalue kind line node) = make (visited_lvalue kind node) (walk_lvalue_operands make node)

  pub walk_operands : {A : Type 0} → (Visited → List A → A) → Node → List A
  walk_operands make (constant w) = []
  walk_operands make (function f) = []
  walk_operands make (plain x) = []
  walk_operands make (read p) = walk_lvalue make p ∷ []
  walk_operands make (decay p) = walk_lvalue make p ∷ []
  walk_operands make (address p) = walk_lvalue make p ∷ []
  walk_operands make (parenthesized e) = walk make e ∷ []
  walk_operands make (deref_function e) = walk make e ∷ []
  walk_operands make (address_function e) = walk make e ∷ []
  walk_operands make (cast e) = walk make e ∷ []
  walk_operands make (convert e) = walk make e ∷ []
  walk_operands make (unary op e) = walk make e ∷ []
  walk_operands make (binary op a b) = walk make a ∷ walk make b ∷ []
  walk_operands make (offset_by form size a b) = walk make a ∷ walk make b ∷ []
  walk_operands make (difference size a b) = walk make a ∷ walk make b ∷ []
  walk_operands make (logical_and a b) = walk make a ∷ walk make b ∷ []
  walk_operands make (logical_or a b) = walk make a ∷ walk make b ∷ []
  walk_operands make (comma a b) = walk make a ∷ walk make b ∷ []
  walk_operands make (conditional c a b) = walk make c ∷ walk make a ∷ walk make b ∷ []
  walk_operands make (assign p e) = walk_lvalue make p ∷ walk make e ∷ []
  walk_operands make (assign_plain x e) = walk make e ∷ []
  walk_operands make (compound u p e) = walk_lvalue make p ∷ walk make e ∷ []
  walk_operands make (change_plain u x e) = walk make e ∷ []
  walk_operands make (step u fixity p) = walk_lvalue make p ∷ []
  walk_operands make (step_plain u fixity x) = []
  walk_operands make (call f es) = walk_each make es
  walk_operands make (call_through type e es) = walk make e ∷ walk_each make es
  walk_operands make (library routine es) = walk_each make es
  walk_operands make (printf format es) = walk_each make es

  pub walk_lvalue_operands : {A : Type 0} → (Visited → List A → A) → LvalueNode → List A
  walk_lvalue_operands make (automatic x) = []
  walk_lvalue_operands make (static n) = []
  walk_lvalue_operands make (deref e) = walk make e ∷ []
  walk_lvalue_operands make (index form size a b) = walk make a ∷ walk make b ∷ []
  walk_lvalue_operands make (member p offset size) = walk_lvalue make p ∷ []
  walk_lvalue_operands make (arrow e offset size) = walk make e ∷ []
  walk_lvalue_operands make (member_of_value e offset size) = walk make e ∷ []
  walk_lvalue_operands make (parenthesized_lvalue p) = walk_lvalue make p ∷ []

  pub walk_each : {A : Type 0} → (Visited → List A → A) → Expressions → List A
  walk_each make no_expressions = []
  walk_each make (expressions e es) = walk make e ∷ walk_each make es

abbrev pub any_of : List Bool → Bool
any_of [] = false
any_of (b ∷ bs) = b || any_of bs

abbrev pub sum_of : List ℕ → ℕ
sum_of [] = 0
sum_of (n ∷ ns) = n + sum_of ns

abbrev pub greatest : List ℕ → ℕ
greatest [] = 0
greatest (n ∷ ns) = max n (greatest ns)

-- whether the text of an expression assigns a plain variable, by `=`, a compound assignment, `++` or `--` (6.5.2.4,
-- 6.5.3.1, 6.5.16); operands that are not evaluated count too

abbrev pub assigns_itself : (variable : ℕ) → Visited → Bool
assigns_itself y (visited kind (assign_plain x e)) = x.variable == y
assigns_itself y (visited kind (change_plain u x e)) = x.variable == y
assigns_itself y (visited kind (step_plain u fixity x)) = x.variable == y
assigns_itself y v = false

abbrev pub assigns_made : (variable : ℕ) → Visited → List Bool → Bool
assigns_made y v found = assigns_itself y v || any_of found

abbrev pub assigns : (variable : ℕ) → Expression → Bool
assigns y = walk (assigns_made y)

abbrev pub lvalue_assigns : (variable : ℕ) → Lvalue → Bool
lvalue_assigns y = walk_lvalue (assigns_made y)

abbrev pub any_assigns : (variable : ℕ) → Expressions → Bool
any_assigns y es = any_of (walk_each (assigns_made y) es)

-- whether an expression names a parameter or automatic variable

abbrev pub names_itself : Visited → Bool
names_itself (visited kind (plain x)) = true
names_itself (visited kind (assign_plain x e)) = true
names_itself (visited kind (change_plain u x e)) = true
names_itself (visited kind (step_plain u fixity x)) = true
names_itself (visited_lvalue kind (automatic x)) = true
names_itself v = false

abbrev pub names_made : Visited → List Bool → Bool
names_made v found = names_itself v || any_of found

abbrev pub names_variable : Expression → Bool
names_variable = walk names_made
