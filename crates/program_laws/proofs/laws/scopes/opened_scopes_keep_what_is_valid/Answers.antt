use Rattle.program_laws.proofs.Scopes.Agreeing.{opened_content, opened_expression, opened_lvalue, opened_part}
use Rattle.program_laws.proofs.Scopes.Agreeing.{opened_parts}
use Rattle.program_laws.proofs.Scopes.Agreeing.{opened_row}
use Rattle.program_laws.proofs.laws.scopes.opened_scopes_keep_what_is_valid.Goals as goal

pub returns : goal.returns
returns c = record {
  expression = opened_expression;
  row = opened_row;
  place = opened_lvalue;
  content = opened_content;
  part = opened_part;
  parts = opened_parts;
}
