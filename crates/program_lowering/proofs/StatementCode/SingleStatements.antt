-- Statements without statements in them, and conditions.
use Rattle.std.proofs.Common.{ℕ, List, [], ◌∷◌, Some, None, refl, sym, ap, subst, arith}
use Rattle.std.specs.Prelude.{max}
use Rattle.c_tree.specs.declared.expression.Expression.{Expression as CodeExpression}
use Rattle.c_tree.specs.declared.program.Variable.{Variable}
use Rattle.c_tree.specs.Tree.{Expression, kind_of, line_of}
use Rattle.c_tree.specs.Statements.{value_content, DeclaredVariable, expression_statement, empty, declaration, break}
use Rattle.c_tree.specs.Statements.{continue, return}
use Rattle.c_tree.specs.View.{expression_of}
use Rattle.c_tree.specs.Room.{height}
use Rattle.tac_ir.specs.declared.instruction.Instruction.TheVariants as tac
use Rattle.c_lower.specs.Values.{LowersTaking}
use Rattle.program_lowering.specs.declared.expressions.emitter.Emitter.{Emitter}
use Rattle.program_lowering.specs.ExpressionCode.Weights.{returning_weight}
use Rattle.program_lowering.specs.ExpressionCode.Emitted.{Added, ExpressionCode}
use Rattle.program_lowering.specs.ExpressionCode.Last.{TakingCode}
use Rattle.program_lowering.proofs.ExpressionCode.Leading.{leads_first, leads_more, leads_then, leads_added}
use Rattle.program_lowering.proofs.ExpressionCode.Leading.{stays_closed, added_adds, adds_none}
use Rattle.program_lowering.proofs.ExpressionCode.Growing.{emits_none, emits_then, emits_within, added_emits}
use Rattle.program_lowering.proofs.ExpressionCode.Growing.{added_holds}
use Rattle.program_lowering.proofs.ExpressionCode.Growing.{fills_before}
use Rattle.program_lowering.proofs.ExpressionCode.Views.{of_expression}
use Rattle.program_lowering.specs.declared.parts.exits.Exits.{Exits}
use Rattle.program_lowering.specs.StatementParts.Code.{most, DeclaredCode}
use Rattle.program_lowering.proofs.StatementParts.InitializerParts.{evaluated_emits, condition_some, room_for}
use Rattle.program_lowering.specs.StatementCode.Weights.{result_weight}
use Rattle.program_lowering.specs.StatementCode.Code.{StatementCode, ResultCode}

pub evaluated_code : {vs : List Variable} {a b : Emitter} {e : Expression} {n : ℕ} {x : Exits}
    → ExpressionCode a b e 0 n x.next → StatementCode vs a b (expression_statement e) n x
evaluated_code {e = e} h = record {
  emits = evaluated_emits e (max 1 (height e)) h (omega arith);
  leads = leads_more h.leads;
  stands = λ c v f. h.stands c f;
}

pub declared_code : {vs : List Variable} {a b : Emitter} {ds : List DeclaredVariable} {n : ℕ} {x : Exits}
    → DeclaredCode a b ds n x.next → StatementCode vs a b (declaration ds) n x
declared_code h = record { emits = h.emits; leads = leads_more h.leads; stands = λ c v f. h.stands c f }

pub empty_code : {vs : List Variable} {a : Emitter} {x : Exits} → StatementCode vs a a empty x.next x
empty_code = record { emits = emits_none 1 (λ w. refl); leads = leads_first; stands = λ c v f. refl }

pub break_code : {vs : List Variable} {a : Emitter} {x : Exits} → StatementCode vs a a break x.breaks x
break_code = record {
  emits = emits_none 1 (λ w. refl);
  leads = record { bodies = adds_none; by = λ ss s o. (stays_closed s, (o.1.0, tt)) };
  stands = λ c v f. refl;
}

pub continue_code : {vs : List Variable} {a : Emitter} {x : Exits} → StatementCode vs a a continue x.continues x
continue_code = record {
  emits = emits_none 1 (λ w. refl);
  leads = record { bodies = adds_none; by = λ ss s o. (stays_closed s, (o.1.1.0, tt)) };
  stands = λ c v f. refl;
}

-- a result, whose contents are taken behind its value
pub result_code : {a b c : Emitter} {n k m : ℕ} (e : CodeExpression) → TakingCode a b e.kind e.line 0 k m
    → ExpressionCode b c (expression_of e) 0 n k → ResultCode a c (expression_of e) n m
result_code {k = k} {m = m} e t h =
    let top = max 1 (height (expression_of e)) in
    let view = of_expression e in
    let value = evaluated_emits (expression_of e) top h (omega arith) in
    record {
      emits = emits_then top (result_weight (expression_of e)) (t.returns refl) value (omega arith) (omega arith)
          (λ w. omega (arith, ap (λ k. returning_weight (kind_of k) w) view));
      leads = leads_then t.leads h.leads;
      stands = λ p f.
          let taken = t.stands p (fills_before h.emits f) in (
            k,
            h.stands p f,
            subst (λ l. LowersTaking p (kind_of (expression_of e)) l 0 k m) (sym (ap line_of view))
                (subst (λ d. LowersTaking p d e.line 0 k m) (sym (ap kind_of view)) taken),
          );
    }

pub returned_none : {vs : List Variable} {a b : Emitter} {n : ℕ} {x : Exits} → Added a b n (tac.Constant 0 0 x.returns)
    → StatementCode vs a b (return None) n x
returned_none h = record {
  emits = added_emits 1 h (omega arith) (λ ts w. refl);
  leads = record { bodies = added_adds h; by = λ ss s o. (leads_added h).by ss s (o.1.1.1.0, tt) };
  stands = λ c v f. added_holds h tt f;
}

pub returned_some : {vs : List Variable} {a b : Emitter} {n : ℕ} {x : Exits} {e : Expression}
    → ResultCode a b e n x.returns → StatementCode vs a b (return (Some e)) n x
returned_some {e = e} h = record {
  emits = emits_within (most (value_content e ∷ [])) (result_weight e) h.emits (omega arith) (λ w. omega arith);
  leads = record { bodies = h.leads.bodies; by = λ ss s o. h.leads.by ss s (o.1.1.1.0, tt) };
  stands = λ c v f. h.stands c f;
}

pub ruleset evaluating = (evaluated_code, room_for)

pub ruleset declaring = (declared_code)

pub ruleset nothing_done = (empty_code, break_code, continue_code)

pub ruleset resulting = (result_code, room_for)

pub ruleset returning = (returned_some)

pub ruleset branching = (condition_some, room_for)
