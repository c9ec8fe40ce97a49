use Rattle.typing_laws.proofs.Layouts.Start.{file_laid}
use Rattle.typing_laws.proofs.laws.layouts.files_begin_laid_out.Goals as goal

pub returns : goal.returns
returns c = file_laid
