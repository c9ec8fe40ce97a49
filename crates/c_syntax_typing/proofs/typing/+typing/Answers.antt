use Rattle.std.proofs.Common.{refl, arith}
use Rattle.c_syntax_typing.proofs.Lower.{deeper, deeper_names}
use Rattle.c_syntax_typing.proofs.typing.+typing.Goals as goal

pub expression-expression_at-requires : goal.expression-expression_at-requires
expression-expression_at-requires t c k = (
  (refl, tt),
  deeper _ _ _ _ _ (λ old b tree below. (omega (arith, below, c.decreases), tt)) (λ old new b tree result post. post)
      (deeper_names _ _ _ _ (λ old b tree below. (omega (arith, below, c.decreases), tt))
      (λ old new b tree result post. post) (λ old b trees below. (omega (arith, below, c.decreases), tt))
      (λ old new b trees result post. post)),
)

pub declarator-declarator_at-requires : goal.declarator-declarator_at-requires
declarator-declarator_at-requires t c k = (
  (refl, tt),
  deeper _ _ _ _ _ (λ old b tree below. (omega (arith, below, c.decreases), tt)) (λ old new b tree result post. post)
      (deeper_names _ _ _ _ (λ old b tree below. (omega (arith, below, c.decreases), tt))
      (λ old new b tree result post. post) (λ old b trees below. (omega (arith, below, c.decreases), tt))
      (λ old new b trees result post. post)),
)

pub specifiers-specifiers_at-requires : goal.specifiers-specifiers_at-requires
specifiers-specifiers_at-requires t c k = (
  (refl, tt),
  deeper _ _ _ _ _ (λ old b tree below. (omega (arith, below, c.decreases), tt)) (λ old new b tree result post. post)
      (deeper_names _ _ _ _ (λ old b tree below. (omega (arith, below, c.decreases), tt))
      (λ old new b tree result post. post) (λ old b trees below. (omega (arith, below, c.decreases), tt))
      (λ old new b trees result post. post)),
)
