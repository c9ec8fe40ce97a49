use Rattle.std.proofs.Common.{arith, ◌-◌, sym, subst}
use Rattle.program_lowering.specs.ExpressionCode.Shapes.{OperandsCode}
use Rattle.program_lowering.proofs.ExpressionCode.Parts.{two_code, place_and_code, callee_code, both_code}
use Rattle.program_lowering.proofs.ExpressionCode.Parts.{either_code, sequence_code, choice_code, places_room}
use Rattle.program_lowering.proofs.ExpressionCode.Views.{next_argument, pair_shape, assigned_shape, and_shape, or_shape}
use Rattle.program_lowering.proofs.ExpressionCode.Views.{comma_shape}
use Rattle.program_lowering.proofs.ExpressionCode.Views.{choice_shape, callee_shape, index_shape, whole_from}
use Rattle.program_lowering.proofs.ExpressionCode.Views.{lvalue_from, room_in}
use Rattle.program_lowering.proofs.ExpressionCode.Views.{argument_room, nodes_in, nodes_at}
use Rattle.program_lowering.proofs.expressions.emitter.Emitter.+lowering.Goals as goal

pub operands-returns-in_ok-first-in-Binary : goal.operands-returns-in_ok-first-in-Binary
operands-returns-in_ok-first-in-Binary t c =
    let shape = pair_shape c.args.node.now _ _ _ _ c.get-in-Binary-2.ensures c.get-in-Binary.ensures c.in-Binary.is in
    subst (λ os. OperandsCode c.args.self.now c.expression-in-Binary-2.new.self os c.args.d
    c.in_ok-first-in-Binary.first c.args.last) (sym shape)
    (two_code c.in_ok-second-in-Binary.ensures c.in_ok-first-in-Binary.ensures)

pub operands-returns-in_ok-first-in-Assign : goal.operands-returns-in_ok-first-in-Assign
operands-returns-in_ok-first-in-Assign t c =
    let shape = assigned_shape c.args.node.now _ _ _ _ c.get-in-Assign-2.ensures c.get-in-Assign.ensures
    c.in-Assign.is in
    subst (λ os. OperandsCode c.args.self.now c.lvalue.new.self os c.args.d c.in_ok-first-in-Assign.first c.args.last)
    (sym shape)
    (place_and_code c.in_ok-second-in-Assign.ensures c.in_ok-first-in-Assign.ensures)

pub operands-returns-in_ok-first-in-And : goal.operands-returns-in_ok-first-in-And
operands-returns-in_ok-first-in-And t c =
    let shape = and_shape c.args.node.now _ _ _ _ c.get-in-And.ensures c.get.ensures c.in-And.is in
    subst (λ os. OperandsCode c.args.self.now c.expression-in-And.new.self os c.args.d c.in_ok-first-in-And.first
    c.args.last) (sym shape)
    (both_code c.in_ok-ways-in-And.ensures c.in_ok-second-in-And.ensures c.in_ok-test-in-And.ensures
    c.in_ok-first-in-And.ensures)

pub operands-returns-in_ok-first-in-Or : goal.operands-returns-in_ok-first-in-Or
operands-returns-in_ok-first-in-Or t c =
    let shape = or_shape c.args.node.now _ _ _ _ c.get-in-Or-2.ensures c.get-in-Or.ensures c.in-Or.is in
    subst (λ os. OperandsCode c.args.self.now c.expression-in-Or-2.new.self os c.args.d c.in_ok-first-in-Or.first
    c.args.last) (sym shape)
    (either_code c.in_ok-ways-in-Or.ensures c.in_ok-second-in-Or.ensures c.in_ok-test-in-Or.ensures
    c.in_ok-first-in-Or.ensures)

pub operands-returns-in_ok-first-in-Comma : goal.operands-returns-in_ok-first-in-Comma
operands-returns-in_ok-first-in-Comma t c =
    let shape = comma_shape c.args.node.now _ _ _ _ c.get-in-Comma-2.ensures c.get-in-Comma.ensures c.in-Comma.is in
    subst (λ os. OperandsCode c.args.self.now c.expression-in-Comma-2.new.self os c.args.d c.in_ok-first-in-Comma.first
    c.args.last) (sym shape)
    (sequence_code c.in_ok-second-in-Comma.ensures c.in_ok-first-in-Comma.ensures)

pub operands-returns-in_ok-first-in-Conditional : goal.operands-returns-in_ok-first-in-Conditional
operands-returns-in_ok-first-in-Conditional t c =
    let shape = choice_shape c.args.node.now _ _ _ _ _ _ c.get-in-Conditional-3.ensures c.get-in-Conditional-2.ensures
    c.get-in-Conditional.ensures c.in-Conditional.is in
    subst (λ os. OperandsCode c.args.self.now c.expression-in-Conditional-3.new.self os c.args.d
    c.in_ok-first-in-Conditional.first c.args.last) (sym shape)
    (choice_code c.in_ok-other-in-Conditional.ensures c.in_ok-taken-in-Conditional.ensures
    c.in_ok-test-in-Conditional.ensures
    c.in_ok-first-in-Conditional.ensures)

pub operands-returns-in_ok-first-in-CallThrough : goal.operands-returns-in_ok-first-in-CallThrough
operands-returns-in_ok-first-in-CallThrough t c =
    let shape = callee_shape c.args.node.now _ _ _ _ _ c.get-in-CallThrough.ensures c.as_slice.ensures
    c.in-CallThrough.is in
    subst (λ os. OperandsCode c.args.self.now c.expression-in-CallThrough.new.self os c.args.d
    c.in_ok-first-in-CallThrough.first c.args.last) (sym shape)
    (callee_code c.in_ok-second-in-CallThrough.ensures c.in_ok-first-in-CallThrough.ensures)

pub lvalue_operands-returns-in_ok-first-in-Index : goal.lvalue_operands-returns-in_ok-first-in-Index
lvalue_operands-returns-in_ok-first-in-Index t c =
    let shape = index_shape c.args.node.now _ _ _ _ _ _ c.get-in-Index.ensures c.get.ensures c.in-Index.is in
    subst (λ os. OperandsCode c.args.self.now c.expression-in-Index.new.self os c.args.d c.in_ok-first-in-Index.first
    c.args.last) (sym shape)
    (two_code c.in_ok-second-in-Index.ensures c.in_ok-first-in-Index.ensures)

pub arguments-overflow_add-d : goal.arguments-overflow_add-d
arguments-overflow_add-d t c = omega (
  arith,
  places_room c.args.args.now,
  c.requires,
  c.loop-i.auto.i,
  c.loop-i-test.true,
)

pub arguments-overflow_add-d-in-loop-i : goal.arguments-overflow_add-d-in-loop-i
arguments-overflow_add-d-in-loop-i t c = omega
    (arith, places_room c.args.args.now, c.requires, c.loop-i.auto.i, c.loop-i-test.true)

pub arguments-loop-i-preserved : goal.arguments-loop-i-preserved
arguments-loop-i-preserved t c =
    next_argument c.args.args.now c.loop-i.i c.args.d c.index-args-i.result (omega (arith, c.loop-i-test.true))
    (omega (arith, c.loop-i.auto.i)) c.index-args-i.is
    c.loop-i.invariant c.in_ok-taken.ensures c.in_ok-node.ensures

pub expression-returns : goal.expression-returns
expression-returns t c = whole_from c.args.e.now c.in_ok-last.ensures c.in_ok-first.ensures

pub lvalue-returns : goal.lvalue-returns
lvalue-returns t c = lvalue_from c.args.p.now c.in_ok-last.ensures c.in_ok-first.ensures

pub expression-operands-requires : goal.expression-operands-requires
expression-operands-requires t c =
    (omega (arith, nodes_in c.args.e.now, c.decreases), room_in c.args.e.now c.args.d _ c.requires)

pub arguments-expression-requires : goal.arguments-expression-requires
arguments-expression-requires t c =
    let at = nodes_at c.args.args.now (c.loop-i.i - 1) c.index-args-i.result
    (omega (arith, c.loop-i-test.true, c.loop-i.auto.i)) c.index-args-i.is in (
      omega (arith, at, c.decreases),
      argument_room c.args.args.now c.loop-i.i c.args.d _ c.index-args-i.result
          (omega (arith, c.loop-i-test.true)) (omega (arith, c.loop-i.auto.i)) c.index-args-i.is c.requires,
    )
