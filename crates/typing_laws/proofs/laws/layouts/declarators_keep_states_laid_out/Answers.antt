use Rattle.typing_laws.proofs.Layouts.Arrays.{arrays_kept}
use Rattle.typing_laws.proofs.Layouts.Declared.{declared_as_laid, laid_out_binds}
use Rattle.typing_laws.proofs.laws.layouts.declarators_keep_states_laid_out.Goals as goal

pub returns : goal.returns
returns c = record { declared = declared_as_laid; bound = laid_out_binds; kept = arrays_kept }
