use Rattle.std.proofs.Common.{refl}
use Rattle.c_syntax_typing.proofs.Lower.{deeper_names}
use Rattle.c_syntax_typing.proofs.typing.type_name.Goals as goal

pub type_name-requires : goal.type_name-requires
type_name-requires c k = (
  (refl, tt),
  deeper_names _ _ _ _ (λ old b tree below. tt) (λ old new b tree result post. post) (λ old b trees below. tt)
      (λ old new b trees result post. post),
)
