-- The words of statements are no more than their nodes allow, where no block has objects.
use Rattle.std.proofs.Common.{◌≡◌, ℕ, zero, suc, ◌+◌, ◌*◌, ◌≤◌, Bool, true, false, not, ◌&&◌, ◌||◌, List, [], ◌∷◌}
use Rattle.std.proofs.Common.{length, Option, Some, None, ap, sym, ◌∙◌, refl, arith}
use Rattle.std.specs.List.{list_all}
use Rattle.std.proofs.lemmas.Bool.{and_parts}
use Rattle.c_tree.specs.declared.program.Variable.{Variable}
use Rattle.c_tree.specs.declared.statement.CaseLabel.{CaseLabel}
use Rattle.c_tree.specs.declared.statement.CaseLabel.TheVariants.{Case, Default}
use Rattle.c_tree.specs.Tree.{Expression}
use Rattle.c_tree.specs.Blocks.{block_variables, switch_variables, first_variables}
use Rattle.c_tree.specs.Statements.{Initializer, of_plain, of_object, DeclaredVariable, First, nothing}
use Rattle.c_tree.specs.Statements.{first_expression}
use Rattle.c_tree.specs.Statements.{first_declaration, Statement, expression_statement, empty, declaration, block}
use Rattle.c_tree.specs.Statements.{if_then, if_else, while_do, do_while, for, switch, break, continue, return}
use Rattle.c_tree.specs.Statements.{Statements, no_statements, statements, SwitchItems, no_items, items}
use Rattle.c_tree.specs.Valid.{Scope, within, is_condition}
use Rattle.c_tree.specs.ValidProgram as valid
use Rattle.program_lowering.specs.StatementParts.Objects.{is_object, any_object}
use Rattle.program_lowering.specs.StatementParts.Weights.{declared_weight, first_weight, condition_weight, part_weight}
use Rattle.program_lowering.specs.StatementParts.Weights.{weight_where}
use Rattle.program_lowering.specs.StatementParts.Weights.{block_weight}
use Rattle.program_lowering.proofs.StatementParts.Opened.{any_is}
use Rattle.program_lowering.specs.StatementCode.Weights.{labels_weight, statement_weight, each_weight, items_weight}
use Rattle.compiled_programs.specs.Programs.{is_integer_expression, is_integer_expression_if, is_integer_initializer}
use Rattle.compiled_programs.specs.Programs.{are_integer_declared, is_integer_first, is_integer_statement}
use Rattle.compiled_programs.specs.Programs.{are_integer_statements, are_integer_items, is_integer_variable}
use Rattle.image_laws.specs.Sizes.Nodes.{expression_nodes_if, declared_nodes, first_nodes}
use Rattle.image_laws.specs.Sizes.Nodes.{statement_nodes, each_nodes, items_nodes}
use Rattle.image_laws.proofs.Sizes.Words.{words}
use Rattle.image_laws.proofs.Sizes.Expressions.{evaluated_light, none_returned}

-- integers are no objects

no_object : (b c : Bool) → (not b && c) ≡ true → b ≡ false
no_object true c e = cc
no_object false c e = refl

integer_at : (vs : List Variable) (n : ℕ) → list_all is_integer_variable vs ≡ true → is_object vs n ≡ false
integer_at [] n h = refl
integer_at (v ∷ vs) zero h =
    no_object v.is_object _ (and_parts (is_integer_variable v) (list_all is_integer_variable vs) h).0
integer_at (v ∷ vs) (suc n) h =
    integer_at vs n (and_parts (is_integer_variable v) (list_all is_integer_variable vs) h).1

no_objects : (vs : List Variable) (numbers : List ℕ) → list_all is_integer_variable vs ≡ true
    → any_object vs numbers ≡ false
no_objects vs [] h = refl
no_objects vs (n ∷ ns) h = ap (λ b. b || any_object vs ns) (integer_at vs n h) ∙ no_objects vs ns h

pub no_block : (k : ℕ) (vs : List Variable) → list_all is_integer_variable vs ≡ true → (numbers : List ℕ)
    → block_weight vs numbers (words k) ≡ 0
no_block k vs h numbers =
    ap (λ b. weight_where b k + weight_where b (4 * k)) (sym (any_is vs numbers) ∙ no_objects vs numbers h)

labels_light : (k : ℕ) (ls : List CaseLabel) → labels_weight ls (words k) ≤ 256 * length ls
labels_light k [] = omega arith
labels_light k (Case n ∷ ls) = omega (arith, labels_light k ls)
labels_light k (Default ∷ ls) = omega (arith, labels_light k ls)

module _ (k : ℕ) where
  declared_light : (scope : Scope) (ds : List DeclaredVariable) → valid.are_declared scope ds ≡ true
      → are_integer_declared ds ≡ true → declared_weight ds (words k) ≤ 256 * declared_nodes ds
  declared_light scope [] v i = omega arith
  declared_light scope (d ∷ ds) v i =
      let parts = and_parts (valid.is_initializer scope d.variable d.initializer) (valid.are_declared scope ds) v in
      let both = and_parts (is_integer_initializer d.initializer) (are_integer_declared ds) i in
      omega (arith, by d.initializer d.variable parts.0 both.0, declared_light scope ds parts.1 both.1)
    where
      by : (o : Option Initializer) (x : ℕ) → valid.is_initializer scope x o ≡ true
          → is_integer_initializer o ≡ true
          → declared_weight (record { variable = x; initializer = o } ∷ []) (words k)
          ≤ 256 * declared_nodes (record { variable = x; initializer = o } ∷ [])
      by None x v i = omega arith
      by (Some (of_plain e)) x v i = let h = evaluated_light k scope e (and_parts _ _ v).0 i in omega (arith, h)
      by (Some (of_object parts)) x v i = cc

  first_light : (scope : Scope) (first : First) → valid.is_first scope first ≡ true → is_integer_first first ≡ true
      → first_weight first (words k) ≤ 256 * first_nodes first
  first_light scope nothing v i = omega arith
  first_light scope (first_expression e) v i = let h = evaluated_light k scope e v i in omega (arith, h)
  first_light scope (first_declaration ds) v i = declared_light scope ds v i

  condition_light : (scope : Scope) (o : Option Expression) → valid.is_condition_if scope o ≡ true
      → is_integer_expression_if o ≡ true → condition_weight o (words k) ≤ 256 * expression_nodes_if o + 12
  condition_light scope None v i = omega arith
  condition_light scope (Some e) v i = let h = evaluated_light k scope e (and_parts _ _ v).0 i in omega (arith, h)

  part_light : (scope : Scope) (o : Option Expression) → valid.is_expression_if scope o ≡ true
      → is_integer_expression_if o ≡ true → part_weight o (words k) ≤ 256 * expression_nodes_if o
  part_light scope None v i = omega arith
  part_light scope (Some e) v i = let h = evaluated_light k scope e v i in omega (arith, h)

module _ (k : ℕ) (vs : List Variable) (none : (numbers : List ℕ) → block_weight vs numbers (words k) ≡ 0) where
  mutual
    statement_light : (scope : Scope) (inside : valid.Inside) (s : Statement)
        → valid.is_statement scope inside s ≡ true → is_integer_statement s ≡ true
        → statement_weight vs s (words k) ≤ 256 * statement_nodes s
    statement_light scope inside (expression_statement e) v i =
        let h = evaluated_light k scope e v i in omega (arith, h)
    statement_light scope inside empty v i = omega arith
    statement_light scope inside (declaration ds) v i =
        let h = declared_light k scope ds v i in omega (arith, h)
    statement_light scope inside (block line body) v i =
        let h = each_light (within scope (block_variables body)) inside body v i in
        omega (arith, h, none (block_variables body))
    statement_light scope inside (if_then e s) v i =
        let parts = and_parts (is_condition scope e) (valid.is_statement scope inside s) (and_parts _ _ v).0 in
        let both = and_parts (is_integer_expression e) (is_integer_statement s) i in
        let g = evaluated_light k scope e (and_parts _ _ parts.0).0 both.0 in
        let h = statement_light scope inside s parts.1 both.1 in
        omega (arith, g, h)
    statement_light scope inside (if_else e s other) v i =
        let behind = and_parts _ (valid.is_statement scope inside other) (and_parts _ _ v).0 in
        let parts = and_parts (is_condition scope e) (valid.is_statement scope inside s) (and_parts _ _ behind.0).0 in
        let all = and_parts _ (is_integer_statement other) i in
        let both = and_parts (is_integer_expression e) (is_integer_statement s) all.0 in
        let f = evaluated_light k scope e (and_parts _ _ parts.0).0 both.0 in
        let g = statement_light scope inside s parts.1 both.1 in
        let h = statement_light scope inside other behind.1 all.1 in
        omega (arith, f, g, h)
    statement_light scope inside (while_do e s) v i =
        let parts = and_parts (is_condition scope e) (valid.is_statement scope valid.in_loop s) (and_parts _ _ v).0 in
        let both = and_parts (is_integer_expression e) (is_integer_statement s) i in
        let g = evaluated_light k scope e (and_parts _ _ parts.0).0 both.0 in
        let h = statement_light scope valid.in_loop s parts.1 both.1 in
        omega (arith, g, h)
    statement_light scope inside (do_while s e) v i =
        let parts = and_parts _ (is_condition scope e) v in
        let first = and_parts (valid.is_statement scope valid.in_loop s) _ parts.0 in
        let both = and_parts (is_integer_statement s) (is_integer_expression e) i in
        let g = evaluated_light k scope e (and_parts _ _ parts.1).0 both.1 in
        let h = statement_light scope valid.in_loop s first.0 both.0 in
        omega (arith, g, h)
    statement_light scope inside (for line first condition step s) v i =
        let inner = within scope (first_variables first) in
        let q = and_parts _ (valid.is_statement inner valid.in_loop s) (and_parts _ _ v).0 in
        let r = and_parts _ (valid.is_expression_if inner step) q.0 in
        let t = and_parts (valid.is_first inner first) (valid.is_condition_if inner condition) r.0 in
        let x = and_parts _ (is_integer_statement s) i in
        let y = and_parts _ (is_integer_expression_if step) x.0 in
        let z = and_parts (is_integer_first first) (is_integer_expression_if condition) y.0 in
        let a = first_light k inner first t.0 z.0 in
        let b = condition_light k inner condition t.1 z.1 in
        let c = part_light k inner step r.1 y.1 in
        let d = statement_light inner valid.in_loop s q.1 x.1 in
        omega (arith, a, b, c, d, none (first_variables first))
    statement_light scope inside (switch e line is) v i =
        let inner = within scope (switch_variables is) in
        let q = and_parts _ (valid.are_items inner (valid.in_switch inside) is) v in
        let both = and_parts (is_integer_expression e) (are_integer_items is) i in
        let g = evaluated_light k scope e (and_parts _ _ (and_parts _ _ (and_parts _ _ q.0).0).0).0 both.0 in
        let h = items_light inner (valid.in_switch inside) is q.1 both.1 in
        omega (arith, g, h, none (switch_variables is))
    statement_light scope inside break v i = omega arith
    statement_light scope inside continue v i = omega arith
    statement_light scope inside (return None) v i = omega arith
    statement_light scope inside (return (Some e)) v i =
        let h = evaluated_light k scope e (and_parts _ _ (and_parts _ _ v).0).0 i in
        omega (arith, h, none_returned k e i)

    pub each_light : (scope : Scope) (inside : valid.Inside) (ss : Statements)
        → valid.are_statements scope inside ss ≡ true → are_integer_statements ss ≡ true
        → each_weight vs ss (words k) ≤ 256 * each_nodes ss
    each_light scope inside no_statements v i = omega arith
    each_light scope inside (statements s ss) v i =
        let parts = and_parts (valid.is_statement scope inside s) (valid.are_statements scope inside ss) v in
        let both = and_parts (is_integer_statement s) (are_integer_statements ss) i in
        let g = statement_light scope inside s parts.0 both.0 in
        let h = each_light scope inside ss parts.1 both.1 in
        omega (arith, g, h)

    items_light : (scope : Scope) (inside : valid.Inside) (is : SwitchItems)
        → valid.are_items scope inside is ≡ true → are_integer_items is ≡ true
        → items_weight vs is (words k) ≤ 256 * items_nodes is
    items_light scope inside no_items v i = omega arith
    items_light scope inside (items labels s is) v i =
        let parts = and_parts (valid.is_statement scope inside s) (valid.are_items scope inside is) v in
        let both = and_parts (is_integer_statement s) (are_integer_items is) i in
        let g = statement_light scope inside s parts.0 both.0 in
        let h = items_light scope inside is parts.1 both.1 in
        omega (arith, g, h, labels_light k labels)
