-- Parts of statements without where they lie in memory, and the statements of these parts.
use Rattle.std.specs.Prelude.{Option}
use Rattle.c_syntax.specs.declared.position.Position.{Position}
use Rattle.c_syntax.specs.declared.statement.Parenthesized.{Parenthesized}
use Rattle.c_syntax.specs.declared.statement.DoEnd.{DoEnd}
use Rattle.c_syntax.specs.declared.statement.ForHead.{ForHead}
use Rattle.c_syntax.specs.declared.statement.CaseLabel.{CaseLabel}
use Rattle.c_syntax.specs.declared.statement.Statement as rs
use Rattle.c_syntax.specs.declared.tree.Expression as rx
use Rattle.c_syntax.specs.Tree as t
use Rattle.c_syntax.specs.Statements as s
use Rattle.c_syntax.specs.View.{expression_of}
use Rattle.c_syntax.specs.StatementsView.{optional_of, for_init_of, statement_of}
use Rattle.c_grammar.specs.StatementReader.{InParentheses, BehindDo, HeadOfFor, LabelOfCase}

abbrev pub parenthesized_of : Parenthesized → InParentheses
parenthesized_of x = record { left = x.left; inner = expression_of x.inner; right = x.right }

abbrev pub do_end_of : DoEnd → BehindDo
do_end_of x = record { again = x.again; condition = parenthesized_of x.condition; semicolon = x.semicolon }

abbrev pub for_head_of : ForHead → HeadOfFor
for_head_of x = record {
  left = x.left;
  init = for_init_of x.init;
  condition = optional_of x.condition;
  semicolon = x.semicolon;
  step = optional_of x.step;
  right = x.right;
}

abbrev pub case_label_of : CaseLabel → LabelOfCase
case_label_of x = record { position = x.position; value = expression_of x.value; colon = x.colon }

-- an expression or none, and the word behind it
abbrev pub ended_of : Option rx.Expression × Position → Option t.Expression × Position
ended_of x = (optional_of x.0, x.1)

-- the word before a statement, and the statement
abbrev pub behind_word_of : Position × rs.Statement → Position × s.Statement
behind_word_of x = (x.0, statement_of x.1)

-- statements of their parts (C99 6.8)

abbrev pub if_then_of : Position → InParentheses → s.Statement → s.Statement
if_then_of at h x = s.if_then at h.left h.inner h.right x

abbrev pub if_else_of : Position → InParentheses → s.Statement → Position × s.Statement → s.Statement
if_else_of at h x y = s.if_else at h.left h.inner h.right x y.0 y.1

abbrev pub switch_of : Position → InParentheses → s.Block → s.Statement
switch_of at h b = s.switch at h.left h.inner h.right b

abbrev pub while_of : Position → InParentheses → s.Statement → s.Statement
while_of at h x = s.while_do at h.left h.inner h.right x

abbrev pub do_of : Position → s.Statement → BehindDo → s.Statement
do_of at x z = s.do_while at x z.again z.condition.left z.condition.inner z.condition.right z.semicolon

abbrev pub for_of : Position → HeadOfFor → s.Statement → s.Statement
for_of at h x = s.for at h.left h.init h.condition h.semicolon h.step h.right x

abbrev pub case_of : LabelOfCase → s.Statement → s.Statement
case_of h x = s.case h.position h.value h.colon x
