-- How many checks a program has: two for each access through a pointer, a spatial and a temporal one, whether a run
-- reaches it or not. What `sizeof` has as its operand is no part of a typed program.
use Rattle.std.specs.Prelude.{◌≡◌, ℕ, ◌+◌, Bool, true, false, List, [], ◌∷◌, map}
use Rattle.c_tree.specs.declared.expression.Kind.{Kind}
use Rattle.c_tree.specs.declared.expression.Kind.TheVariants.{Void, Scalar as OfScalar, Structure, Array}
use Rattle.c_tree.specs.Tree.{Expression, read, assign, compound, step, lvalue_kind}
use Rattle.c_tree.specs.Walk.{Visited, visited, walk, sum_of}
use Rattle.c_tree.specs.Statements.{Content, value_content, literal_content}
use Rattle.c_tree.specs.Blocks.{each_contents}
use Rattle.c_tree.specs.Programs.{Function, Program}
use Rattle.source_meaning.specs.Expressions.{is_judged}
use Rattle.tac_ir.specs.declared.function.Tac.{Tac}
use Rattle.check_insert.specs.Counting.{checks, checks_to_insert}

-- of a scalar, by whether it goes through a pointer
abbrev pub scalar_checks : (is_judged : Bool) → ℕ
scalar_checks true = 2
scalar_checks false = 0

-- of a scalar or a structure: nothing else is read or assigned
abbrev pub access_checks : Kind → (is_judged : Bool) → ℕ
access_checks Void judged = 0
access_checks (OfScalar k) judged = scalar_checks judged
access_checks (Structure size) judged = scalar_checks judged
access_checks (Array size) judged = 0

-- what an expression itself accesses, which it updates where that is a scalar
abbrev pub own_checks : Visited → ℕ
own_checks (visited kind (read p)) = access_checks (lvalue_kind p) (is_judged p)
own_checks (visited kind (assign p a)) = access_checks (lvalue_kind p) (is_judged p)
own_checks (visited kind (compound u p a)) = scalar_checks (is_judged p)
own_checks (visited kind (step u fixity p)) = scalar_checks (is_judged p)
own_checks v = 0

abbrev pub checks_made : Visited → List ℕ → ℕ
checks_made v ns = own_checks v + sum_of ns

abbrev pub expression_checks : Expression → ℕ
expression_checks = walk checks_made

abbrev pub content_checks : Content → ℕ
content_checks (value_content e) = expression_checks e
content_checks (literal_content bytes) = 0

-- of what a statement or a function evaluates
abbrev pub contents_checks : List Content → ℕ
contents_checks contents = sum_of (map content_checks contents)

abbrev pub functions_checks : List Function → ℕ
functions_checks [] = 0
functions_checks (f ∷ fs) = contents_checks (each_contents f.body) + functions_checks fs

abbrev pub checks_of : Program → ℕ
checks_of p = functions_checks p.functions

-- code that has no checks yet, and just as many to come as the program has
pub record AwaitsChecks (program : Program) (code : Tac) : Type 0 where
  pub none : checks code ≡ 0
  pub to_come : checks_to_insert code ≡ checks_of program
