use Rattle.typing_laws.proofs.LaidOut.Files.{entered_laid, externals_laid}
use Rattle.typing_laws.proofs.laws.laid_out.files_stay_laid_out.Goals as goal

pub returns : goal.returns
returns c = record { externals = externals_laid; entered = entered_laid }
