use Rattle.flat_code.proofs.Routines.Objects.Shared.{one_key}
use Rattle.flat_code.proofs.laws.objects.objects_with_one_key_share_their_lock_word.Goals as goal

pub returns : goal.returns
returns c = one_key
