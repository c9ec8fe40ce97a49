use Rattle.std.proofs.Common.{◌+◌, ◌-◌, length, take, drop, refl, sym, ◌∙◌, arith, false, true}
use Rattle.std.specs.List.{list_any}
use Rattle.c_pre.specs.Directives.{is_left_out}
use Rattle.c_pre.proofs.Closing.{not_defined, defined}
use Rattle.c_pre.proofs.directive.function_like.Goals as goal
use Rattle.c_pre.proofs.directive.function_like.Goals.{then-not-are_parameters-via-then-not-are_parameters}
use Rattle.c_pre.proofs.directive.function_like.Goals.{then-not-are_parameters-via-else-not-are_parameters+then-has_left_out}

pub returns-then-not-are_parameters : goal.returns-then-not-are_parameters
returns-then-not-are_parameters c =
    let tokens = c.args.tokens.now in
    let n = c.in-Some.close in
    elim c.then-not-are_parameters.branch [
      | then-not-are_parameters-via-then-not-are_parameters w ↦
          not_defined c.args.name tokens n (n + 1) (sym c.close_at.ensures.place ∙ c.in-Some.is) (omega arith)
          false (list_any (λ token. is_left_out token.kind) (take (length tokens - (n + 1)) (drop (n + 1) tokens)))
          w.if-not-are_parameters.ensures refl refl
      | then-not-are_parameters-via-else-not-are_parameters+then-has_left_out w ↦
          not_defined c.args.name tokens n (n + 1) (sym c.close_at.ensures.place ∙ c.in-Some.is) (omega arith)
          true true w.if-not-are_parameters.ensures w.if-has_left_out.ensures refl
    ]

pub returns : goal.returns
returns c =
    let tokens = c.args.tokens.now in
    let n = c.in-Some.close in
    defined c.args.name tokens n (n + 1) (sym c.close_at.ensures.place ∙ c.in-Some.is) (omega arith)
    true false c.if-not-are_parameters.ensures c.if-has_left_out.ensures refl
