use Rattle.obj_memory.proofs.Words.{fit_word, fit_bytes, fit_twice, fit_below}
use Rattle.obj_memory.proofs.laws.conversions_give_words.Goals as goal

pub returns : goal.returns
returns c = record { word = fit_word; bytes = fit_bytes; twice = fit_twice; below = fit_below }
