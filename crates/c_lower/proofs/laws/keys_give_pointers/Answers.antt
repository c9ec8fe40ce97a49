use Rattle.c_lower.proofs.KeyValues.{place_right, right_gives}
use Rattle.c_lower.proofs.laws.keys_give_pointers.Goals as goal

pub returns : goal.returns
returns c = λ env ls p s t q is key e. right_gives key t q.value (place_right env ls p s t q is key e)
