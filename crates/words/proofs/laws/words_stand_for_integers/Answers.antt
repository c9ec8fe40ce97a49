use Rattle.words.proofs.Signs.{word_of_signed, signed_of_word, signed_is_in_range}
use Rattle.words.proofs.laws.words_stand_for_integers.Goals as goal

pub returns : goal.returns
returns c = record { word = word_of_signed; integer = signed_of_word; range = signed_is_in_range }
