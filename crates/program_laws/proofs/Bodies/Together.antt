-- Statements that stand where they may and whose parts are valid are valid.
use Rattle.std.proofs.Common.{◌≡◌, true, ◌&&◌, refl}
use Rattle.std.proofs.lemmas.Bool.{and_from}
use Rattle.std.specs.Prelude.{not}
use Rattle.std.specs.List.{list_all}
use Rattle.c_tree.specs.Blocks.{block_variables, first_variables, switch_variables}
use Rattle.c_tree.specs.Kinds.{is_promoted}
use Rattle.c_tree.specs.Statements.{Statement, Statements, SwitchItems}
use Rattle.c_tree.specs.Statements as tree
use Rattle.c_tree.specs.Tree.{kind_of}
use Rattle.c_tree.specs.Valid.{Scope, is_condition, is_valid, within}
use Rattle.c_tree.specs.ValidProgram.{Inside, are_different, are_items, are_statements, in_loop, in_switch}
use Rattle.c_tree.specs.ValidProgram.{is_condition_if, is_declaration, is_expression_if, is_first, is_label}
use Rattle.c_tree.specs.ValidProgram.{is_statement, labels_of}
use Rattle.typing_laws.proofs.Validity.Common.{first, second}
use Rattle.typing_laws.specs.Places.Placed.{are_placed, are_placed_items, is_placed}
use Rattle.program_laws.specs.Bodies.Parts.{has_valid_parts, have_valid_parts, is_valid_head}
use Rattle.program_laws.specs.Bodies.Parts.{items_have_valid_parts}
use Rattle.typing_laws.proofs.Common.{three}

mutual
  pub statement_valid : (scope : Scope) (inside : Inside) (s : Statement) → is_placed inside s ≡ true
      → has_valid_parts scope s ≡ true → is_statement scope inside s ≡ true
  statement_valid scope inside (tree.expression_statement e) p v = v
  statement_valid scope inside tree.empty p v = refl
  statement_valid scope inside (tree.declaration ds) p v = v
  statement_valid scope inside (tree.block line body) p v =
      statements_valid (within scope (block_variables body)) inside body p v
  statement_valid scope inside (tree.if_then e s) p v =
      three (is_condition scope e) (is_statement scope inside s) (not (is_declaration s)) (first _ _ v)
      (statement_valid scope inside s (first _ _ p) (second _ _ v)) (second _ _ p)
  statement_valid scope inside (tree.if_else e s other) p v =
      let one = first (is_placed inside s && not (is_declaration s)) (is_placed inside other
      && not (is_declaration other)) p in
      let two = second (is_placed inside s && not (is_declaration s)) (is_placed inside other
      && not (is_declaration other)) p in
      let parts = second (is_condition scope e) (has_valid_parts scope s && has_valid_parts scope other) v in
      and_from (is_condition scope e && is_statement scope inside s && not (is_declaration s)
      && is_statement scope inside other) (not (is_declaration other))
      (and_from (is_condition scope e && is_statement scope inside s && not (is_declaration s))
      (is_statement scope inside other)
      (three (is_condition scope e) (is_statement scope inside s) (not (is_declaration s))
      (first (is_condition scope e) (has_valid_parts scope s && has_valid_parts scope other) v)
      (statement_valid scope inside s (first (is_placed inside s) (not (is_declaration s)) one)
      (first (has_valid_parts scope s) (has_valid_parts scope other) parts))
      (second (is_placed inside s) (not (is_declaration s)) one))
      (statement_valid scope inside other (first (is_placed inside other) (not (is_declaration other)) two)
      (second (has_valid_parts scope s) (has_valid_parts scope other) parts)))
      (second (is_placed inside other) (not (is_declaration other)) two)
  statement_valid scope inside (tree.while_do e s) p v =
      three (is_condition scope e) (is_statement scope in_loop s) (not (is_declaration s)) (first _ _ v)
      (statement_valid scope in_loop s (first _ _ p) (second (is_condition scope e) _ v))
      (second (is_placed in_loop s) _ p)
  statement_valid scope inside (tree.do_while s e) p v =
      three (is_statement scope in_loop s) (not (is_declaration s)) (is_condition scope e)
      (statement_valid scope in_loop s (first _ _ p) (first _ _ v)) (second (is_placed in_loop s) _ p)
      (second (has_valid_parts scope s) _ v)
  statement_valid scope inside (tree.for line x condition step s) p v =
      let w = within scope (first_variables x) in
      let head = first (is_valid_head w x condition step) (has_valid_parts w s) v in
      let rest = second (is_first w x) (is_condition_if w condition && is_expression_if w step) head in
      and_from (is_first w x && is_condition_if w condition && is_expression_if w step && is_statement w in_loop s)
      (not (is_declaration s))
      (and_from (is_first w x && is_condition_if w condition && is_expression_if w step) (is_statement w in_loop s)
      (three (is_first w x) (is_condition_if w condition) (is_expression_if w step)
      (first (is_first w x) (is_condition_if w condition && is_expression_if w step) head)
      (first (is_condition_if w condition) (is_expression_if w step) rest)
      (second (is_condition_if w condition) (is_expression_if w step) rest))
      (statement_valid w in_loop s (first (is_placed in_loop s) (not (is_declaration s)) p)
      (second (is_valid_head w x condition step) (has_valid_parts w s) v)))
      (second (is_placed in_loop s) (not (is_declaration s)) p)
  statement_valid scope inside (tree.switch e line is) p v =
      let w = within scope (switch_variables is) in
      let labels = list_all (is_label (kind_of e)) (labels_of is) in
      let placed = first (labels && are_different (labels_of is)) (are_placed_items (in_switch inside) is) p in
      and_from (is_valid scope e && is_promoted (kind_of e) && labels && are_different (labels_of is))
      (are_items w (in_switch inside) is)
      (and_from (is_valid scope e && is_promoted (kind_of e) && labels) (are_different (labels_of is))
      (and_from (is_valid scope e && is_promoted (kind_of e)) labels
      (first (is_valid scope e && is_promoted (kind_of e)) (items_have_valid_parts w is) v)
      (first labels (are_different (labels_of is)) placed))
      (second labels (are_different (labels_of is)) placed))
      (items_valid w (in_switch inside) is
      (second (labels && are_different (labels_of is)) (are_placed_items (in_switch inside) is) p)
      (second (is_valid scope e && is_promoted (kind_of e)) (items_have_valid_parts w is) v))
  statement_valid scope inside tree.break p v = p
  statement_valid scope inside tree.continue p v = p
  statement_valid scope inside (tree.return e) p v = v

  pub statements_valid : (scope : Scope) (inside : Inside) (ss : Statements) → are_placed inside ss ≡ true
      → have_valid_parts scope ss ≡ true → are_statements scope inside ss ≡ true
  statements_valid scope inside tree.no_statements p v = refl
  statements_valid scope inside (tree.statements s ss) p v =
      and_from (is_statement scope inside s) (are_statements scope inside ss)
      (statement_valid scope inside s (first _ _ p) (first _ _ v))
      (statements_valid scope inside ss (second (is_placed inside s) _ p) (second (has_valid_parts scope s) _ v))

  pub items_valid : (scope : Scope) (inside : Inside) (is : SwitchItems) → are_placed_items inside is ≡ true
      → items_have_valid_parts scope is ≡ true → are_items scope inside is ≡ true
  items_valid scope inside tree.no_items p v = refl
  items_valid scope inside (tree.items labels s is) p v =
      and_from (is_statement scope inside s) (are_items scope inside is)
      (statement_valid scope inside s (first _ _ p) (first _ _ v))
      (items_valid scope inside is (second (is_placed inside s) _ p) (second (has_valid_parts scope s) _ v))
