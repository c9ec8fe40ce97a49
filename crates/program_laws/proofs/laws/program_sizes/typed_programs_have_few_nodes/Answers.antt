use Rattle.program_laws.proofs.ProgramSizes.Programs.{file_program, unit_program, unit_words_program}
use Rattle.program_laws.proofs.laws.program_sizes.typed_programs_have_few_nodes.Goals as goal

pub returns : goal.returns
returns c = record { counted = unit_program; words = unit_words_program; file = file_program }
