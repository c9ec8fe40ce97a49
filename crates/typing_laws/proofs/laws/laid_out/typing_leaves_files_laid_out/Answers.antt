use Rattle.typing_laws.proofs.LaidOut.Chained.{closed_laid, opened_laid}
use Rattle.typing_laws.proofs.LaidOut.Declarations.{declaration_laid}
use Rattle.typing_laws.proofs.LaidOut.Statements.{items_laid, statement_laid}
use Rattle.typing_laws.proofs.laws.laid_out.typing_leaves_files_laid_out.Goals as goal

pub returns : goal.returns
returns c = record {
  declaration = declaration_laid;
  statement = statement_laid;
  items = items_laid;
  opened = opened_laid;
  closed = closed_laid;
}
