-- The views of statements, by their parts.
use Rattle.std.proofs.Common.{rules, arith, ◌≡◌, Option}
use Rattle.c_syntax.specs.declared.position.Position.{Position}
use Rattle.c_syntax.specs.declared.statement.Block as rb
use Rattle.c_syntax.specs.declared.statement.BlockItem.{the_lemmas}
use Rattle.c_syntax.specs.declared.statement.BlockItem as rk
use Rattle.c_syntax.specs.declared.statement.CaseLabel.{CaseLabel as CaseTree}
use Rattle.c_syntax.specs.declared.statement.DoEnd.{DoEnd}
use Rattle.c_syntax.specs.declared.statement.ForHead.{ForHead}
use Rattle.c_syntax.specs.declared.statement.Parenthesized.{Parenthesized}
use Rattle.c_syntax.specs.declared.statement.Statement as rs
use Rattle.c_syntax.specs.declared.declaration.Declaration as rd
use Rattle.c_syntax.specs.declared.tree.Expression as rx
use Rattle.c_syntax.specs.Statements as t
use Rattle.c_syntax.specs.StatementsView.{block_item_of, block_of, declaration_of, for_init_of, optional_of}
use Rattle.c_syntax.specs.StatementsView.{statement_of}
use Rattle.c_syntax.specs.View.{expression_of}

pub block_view : (b : rb.Block) → statement_of (rs.Block b) ≡ t.compound (block_of b)
block_view b = first_of (search (rules, the_lemmas), grind (arith, the_lemmas))

pub expression_view : (e : Option rx.Expression) (at : Position)
    → statement_of (rs.Expression e at) ≡ t.expression (optional_of e) at
expression_view e at = first_of (search (rules, the_lemmas), grind (arith, the_lemmas))

pub if_view : (at : Position) (c : Parenthesized) (x : rs.Statement)
    → statement_of (rs.If at c x) ≡ t.if_then at c.left (expression_of c.inner) c.right (statement_of x)
if_view at c x = first_of (search (rules, the_lemmas), grind (arith, the_lemmas))

pub if_else_view : (at : Position) (c : Parenthesized) (x : rs.Statement) (word : Position) (y : rs.Statement)
    → statement_of (rs.IfElse at c x word y) ≡ t.if_else at c.left (expression_of c.inner) c.right
    (statement_of x) word (statement_of y)
if_else_view at c x word y = first_of (search (rules, the_lemmas), grind (arith, the_lemmas))

pub switch_view : (at : Position) (c : Parenthesized) (b : rb.Block)
    → statement_of (rs.Switch at c b) ≡ t.switch at c.left (expression_of c.inner) c.right (block_of b)
switch_view at c b = first_of (search (rules, the_lemmas), grind (arith, the_lemmas))

pub while_view : (at : Position) (c : Parenthesized) (x : rs.Statement)
    → statement_of (rs.While at c x) ≡ t.while_do at c.left (expression_of c.inner) c.right (statement_of x)
while_view at c x = first_of (search (rules, the_lemmas), grind (arith, the_lemmas))

pub do_view : (at : Position) (x : rs.Statement) (z : DoEnd)
    → statement_of (rs.Do at x z) ≡ t.do_while at (statement_of x) z.again z.condition.left
    (expression_of z.condition.inner) z.condition.right z.semicolon
do_view at x z = first_of (search (rules, the_lemmas), grind (arith, the_lemmas))

pub for_view : (at : Position) (z : ForHead) (x : rs.Statement)
    → statement_of (rs.For at z x) ≡ t.for at z.left (for_init_of z.init) (optional_of z.condition) z.semicolon
    (optional_of z.step) z.right (statement_of x)
for_view at z x = first_of (search (rules, the_lemmas), grind (arith, the_lemmas))

pub case_view : (z : CaseTree) (x : rs.Statement)
    → statement_of (rs.Case z x) ≡ t.case z.position (expression_of z.value) z.colon (statement_of x)
case_view z x = first_of (search (rules, the_lemmas), grind (arith, the_lemmas))

pub default_view : (at colon : Position) (x : rs.Statement)
    → statement_of (rs.Default at colon x) ≡ t.default at colon (statement_of x)
default_view at colon x = first_of (search (rules, the_lemmas), grind (arith, the_lemmas))

pub break_view : (at end : Position) → statement_of (rs.Break at end) ≡ t.break at end
break_view at end = first_of (search (rules, the_lemmas), grind (arith, the_lemmas))

pub continue_view : (at end : Position) → statement_of (rs.Continue at end) ≡ t.continue at end
continue_view at end = first_of (search (rules, the_lemmas), grind (arith, the_lemmas))

pub return_view : (at : Position) (e : Option rx.Expression) (end : Position)
    → statement_of (rs.Return at e end) ≡ t.return at (optional_of e) end
return_view at e end = first_of (search (rules, the_lemmas), grind (arith, the_lemmas))

pub local_view : (d : rd.Declaration) → block_item_of (rk.Declaration d) ≡ t.local (declaration_of d)
local_view d = first_of (search (rules, the_lemmas), grind (arith, the_lemmas))

pub inner_view : (x : rs.Statement) → block_item_of (rk.Statement x) ≡ t.inner (statement_of x)
inner_view x = first_of (search (rules, the_lemmas), grind (arith, the_lemmas))
