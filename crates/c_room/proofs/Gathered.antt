-- What the contents of statements demand, all together.
use Rattle.std.proofs.Common.{◌≡◌, ℕ, ◌+◌, refl, sym, ap, ◌∙◌, List, [], ◌∷◌, ◌++◌, map, Option, Some, None, arith}
use Rattle.std.specs.Prelude.{max}
use Rattle.c_tree.specs.Tree.{Expression}
use Rattle.c_tree.specs.Statements.{Content, value_content, literal_content, Initializer, of_plain, of_object}
use Rattle.c_tree.specs.Statements.{DeclaredVariable, First, first_expression, first_declaration, Statement}
use Rattle.c_tree.specs.Statements as s
use Rattle.c_tree.specs.Statements.{expression_statement, empty, declaration, block, if_then, if_else, while_do}
use Rattle.c_tree.specs.Statements.{do_while, for, switch, break, continue, return, Statements, no_statements}
use Rattle.c_tree.specs.Statements.{statements, SwitchItems, no_items, items}
use Rattle.c_tree.specs.Blocks.{contents_of, declared_contents, each_contents, first_contents, if_any}
use Rattle.c_tree.specs.Blocks.{initializer_contents, items_contents}
use Rattle.c_tree.specs.Room.{content_bytes, content_height, greatest_height}
use Rattle.c_tree.specs.Walk.{sum_of}
use Rattle.c_room.specs.declared.demand.Demand.{Demand}
use Rattle.c_room.specs.Contents.{content_demand, with_contents, with_declared, with_first, with_initializer}
use Rattle.c_room.specs.Contents.{with_items, with_optional, with_statement, with_statements}
use Rattle.c_room.specs.Demands.{IsDemand, beside, demand, nothing}
use Rattle.c_room.proofs.Fitting.{below}
use Rattle.c_room.proofs.Walked.{is_beside, is_demand, is_value, same}

-- contents behind others
behind : (cs es : List Content) (d : Demand) → with_contents d (cs ++ es) ≡ with_contents (with_contents d cs) es
behind [] es d = refl
behind (c ∷ cs) es d = behind cs es (beside d (content_demand c))

both : (cs es : List Content) (d d' d'' : Demand) → d' ≡ with_contents d cs → d'' ≡ with_contents d' es
    → d'' ≡ with_contents d (cs ++ es)
both cs es d d' d'' first second = second ∙ ap (λ z. with_contents z es) first ∙ sym (behind cs es d)

optional_is : (d : Demand) (e : Option Expression) → with_optional d e ≡ with_contents d (if_any e)
optional_is d None = refl
optional_is d (Some e) = refl

initializer_is : (d : Demand) (i : Option Initializer) → with_initializer d i ≡ with_contents d (initializer_contents i)
initializer_is d None = refl
initializer_is d (Some (of_plain e)) = refl
initializer_is d (Some (of_object parts)) = refl

declared_is : (d : Demand) (xs : List DeclaredVariable) → with_declared d xs ≡ with_contents d (declared_contents xs)
declared_is d [] = refl
declared_is d (x ∷ xs) =
    both (initializer_contents x.initializer) (declared_contents xs) d (with_initializer d x.initializer) _
    (initializer_is d x.initializer) (declared_is (with_initializer d x.initializer) xs)

first_is : (d : Demand) (f : First) → with_first d f ≡ with_contents d (first_contents f)
first_is d s.nothing = refl
first_is d (first_expression e) = refl
first_is d (first_declaration xs) = declared_is d xs

for_is : (d : Demand) (first : First) (condition step : Option Expression) (cs : List Content) (d' : Demand)
    → d' ≡ with_contents (with_optional (with_optional (with_first d first) condition) step) cs
    → d' ≡ with_contents d (first_contents first ++ (if_any condition ++ (if_any step ++ cs)))
for_is d first condition step cs d' is =
    let started = with_first d first in
    let tested = with_optional started condition in
    let third = both (if_any step) cs tested (with_optional tested step) d' (optional_is tested step) is in
    let second = both (if_any condition) (if_any step ++ cs) started tested d' (optional_is started condition) third in
    both (first_contents first) (if_any condition ++ (if_any step ++ cs)) d started d' (first_is d first) second

mutual
  statement_is : (d : Demand) (x : Statement) → with_statement d x ≡ with_contents d (contents_of x)
  statement_is d (expression_statement e) = refl
  statement_is d empty = refl
  statement_is d (declaration xs) = declared_is d xs
  statement_is d (block line body) = statements_are d body
  statement_is d (if_then e x) = statement_is (beside d (demand e)) x
  statement_is d (if_else e x other) =
      both (contents_of x) (contents_of other) (beside d (demand e)) (with_statement (beside d (demand e)) x) _
      (statement_is (beside d (demand e)) x) (statement_is (with_statement (beside d (demand e)) x) other)
  statement_is d (while_do e x) = statement_is (beside d (demand e)) x
  statement_is d (do_while x e) =
      both (contents_of x) (value_content e ∷ []) d (with_statement d x) _ (statement_is d x) refl
  statement_is d (for line first condition step x) =
      for_is d first condition step (contents_of x) _
      (statement_is (with_optional (with_optional (with_first d first) condition) step) x)
  statement_is d (switch e line is) = items_are (beside d (demand e)) is
  statement_is d break = refl
  statement_is d continue = refl
  statement_is d (return e) = optional_is d e

  pub statements_are : (d : Demand) (xs : Statements) → with_statements d xs ≡ with_contents d (each_contents xs)
  statements_are d no_statements = refl
  statements_are d (statements x xs) =
      both (contents_of x) (each_contents xs) d (with_statement d x) _ (statement_is d x)
      (statements_are (with_statement d x) xs)

  items_are : (d : Demand) (is : SwitchItems) → with_items d is ≡ with_contents d (items_contents is)
  items_are d no_items = refl
  items_are d (items labels x is) =
      both (contents_of x) (items_contents is) d (with_statement d x) _ (statement_is d x)
      (items_are (with_statement d x) is)

-- what they are

content_is : (c : Content) → IsDemand (content_demand c) (content_height c) (content_bytes c)
content_is (value_content e) = is_demand e
content_is (literal_content bytes) = is_value 0

contents_are : (d : Demand) (h b : ℕ) (cs : List Content) → IsDemand d h b
    → IsDemand (with_contents d cs) (max h (greatest_height cs)) (b + sum_of (map content_bytes cs))
contents_are d h b [] is = same is (omega arith) (omega arith)
contents_are d h b (c ∷ cs) is =
    same (contents_are (beside d (content_demand c)) (max h (content_height c)) (b + content_bytes c) cs
    (is_beside is (content_is c))) (omega arith) (omega arith)

is_nothing : IsDemand nothing 0 0
is_nothing = record { height = sym (below 0 (omega arith)); passed = sym (below 0 (omega arith)) }

pub all_contents : (cs : List Content)
    → IsDemand (with_contents nothing cs) (greatest_height cs) (sum_of (map content_bytes cs))
all_contents cs = same (contents_are nothing 0 0 cs is_nothing) (omega arith) (omega arith)
