-- Expressions from their operands.
use Rattle.std.proofs.Common.{ℕ, ◌+◌, ◌*◌, ◌≤◌, List, [], ◌∷◌, length, map, refl, arith}
use Rattle.std.specs.Prelude.{max}
use Rattle.c_tree.specs.Tree.{Expression, Expressions, no_expressions, expressions, Lvalue}
use Rattle.c_tree.specs.declared.expression.Expression.{Expression as CodeExpression}
use Rattle.c_tree.specs.Tree.{kind_of, line_of, expressions_in}
use Rattle.c_tree.specs.View.{expression_of}
use Rattle.tac_ir.specs.declared.instruction.Instruction.TheVariants as tac
use Rattle.c_lower.specs.Homes.{used, used_by_lvalue}
use Rattle.program_lowering.specs.declared.expressions.emitter.Emitter.{Emitter}
use Rattle.program_lowering.specs.ExpressionCode.Emitted.{Added, ExpressionCode, LvalueCode, ArgumentsCode}
use Rattle.program_lowering.specs.ExpressionCode.Emitted.{arguments_used}
use Rattle.program_lowering.specs.ExpressionCode.Weights.{taking_weight, expression_weight, lvalue_weight}
use Rattle.program_lowering.specs.ExpressionCode.Weights.{arguments_weight}
use Rattle.program_lowering.specs.ExpressionCode.Last.{TakingCode, Outcomes}
use Rattle.program_lowering.specs.ExpressionCode.Shapes.{none, one, place, two, place_and, each, callee_and, both}
use Rattle.program_lowering.specs.ExpressionCode.Shapes.{either, sequence}
use Rattle.program_lowering.specs.ExpressionCode.Shapes.{choice, operands_of, lvalue_operands}
use Rattle.program_lowering.specs.ExpressionCode.Shapes.{OperandsCode, Finishes, LvalueFinishes}
use Rattle.program_lowering.proofs.ExpressionCode.Growing.{emits_none, emits_then, added_emits, added_holds}
use Rattle.program_lowering.proofs.ExpressionCode.Growing.{fills_before}
use Rattle.program_lowering.proofs.ExpressionCode.Leading.{leads_none, leads_then, added_stays, closed_then}
use Rattle.program_lowering.proofs.ExpressionCode.Leading.{added_adds, adds_before}
use Rattle.program_lowering.proofs.ExpressionCode.Steps.{used_most, weight_most, used_by_most, weight_by_most}
use Rattle.program_lowering.proofs.ExpressionCode.Steps.{some_used}

pub none_code : {a : Emitter} {d n : ℕ} → OperandsCode a a none d n n
none_code {d = d} = record { emits = emits_none (d + 0) (λ w. refl); leads = leads_none; stands = λ p f. refl }

pub one_code : {a b : Emitter} {x : Expression} {d n m : ℕ} → ExpressionCode a b x d n m
    → OperandsCode a b (one x) d n m
one_code h = record { emits = h.emits; leads = h.leads; stands = h.stands }

pub place_code : {a b : Emitter} {p : Lvalue} {d n m : ℕ} → LvalueCode a b p d n m → OperandsCode a b (place p) d n m
place_code h = record { emits = h.emits; leads = h.leads; stands = h.stands }

pub each_code : {a b : Emitter} {es : Expressions} {d n m : ℕ} → ArgumentsCode a b es d n m
    → OperandsCode a b (each es) d n m
each_code h = record { emits = h.emits; leads = h.leads; stands = h.stands }

pub two_code : {a b c : Emitter} {x y : Expression} {d n k m : ℕ} → ExpressionCode a b y (d + 1) k m
    → ExpressionCode b c x d n k → OperandsCode a c (two x y) d n m
two_code {x = x} {y = y} {d = d} {k = k} hy hx = record {
  emits = emits_then (d + max (used x) (1 + used y)) (λ w. expression_weight x w + expression_weight y w) hy.emits
      hx.emits
      (omega arith) (omega arith) (λ w. omega arith);
  leads = leads_then hy.leads hx.leads;
  stands = λ p f. (k, hx.stands p f, hy.stands p (fills_before hx.emits f));
}

pub place_and_code : {a b c : Emitter} {q : Lvalue} {y : Expression} {d n k m : ℕ} → ExpressionCode a b y (d + 1) k m
    → LvalueCode b c q d n k → OperandsCode a c (place_and q y) d n m
place_and_code {q = q} {y = y} {d = d} {k = k} hy hx = record {
  emits = emits_then (d + max (used_by_lvalue q) (1 + used y)) (λ w. lvalue_weight q w + expression_weight y w) hy.emits
      hx.emits (omega arith) (omega arith) (λ w. omega arith);
  leads = leads_then hy.leads hx.leads;
  stands = λ p f. (k, hx.stands p f, hy.stands p (fills_before hx.emits f));
}

pub callee_code : {a b c : Emitter} {x : Expression} {es : Expressions} {d n k m : ℕ} → ArgumentsCode a b es (d + 1) k m
    → ExpressionCode b c x d n k → OperandsCode a c (callee_and x es) d n m
callee_code {x = x} {es = es} {d = d} {k = k} hy hx = record {
  emits = emits_then (d + max (used x) (1 + arguments_used es))
      (λ w. expression_weight x w + arguments_weight es w) hy.emits
      hx.emits (omega arith) (omega arith) (λ w. omega arith);
  leads = leads_then hy.leads hx.leads;
  stands = λ p f. (k, hx.stands p f, hy.stands p (fills_before hx.emits f));
}

pub sequence_code : {a b c : Emitter} {x y : Expression} {d n k m : ℕ} → ExpressionCode a b y d k m
    → ExpressionCode b c x d n k → OperandsCode a c (sequence x y) d n m
sequence_code {x = x} {y = y} {d = d} {k = k} hy hx = record {
  emits = emits_then (d + max (used x) (used y)) (λ w. expression_weight x w + expression_weight y w) hy.emits hx.emits
      (omega arith) (omega arith) (λ w. omega arith);
  leads = leads_then hy.leads hx.leads;
  stands = λ p f. (k, hx.stands p f, hy.stands p (fills_before hx.emits f));
}

pub both_code : {a b c e g : Emitter} {x y : Expression} {d n k kb wz wo test m : ℕ}
    → Outcomes a b d wz wo test m → ExpressionCode b c y d kb test → Added c e k (tac.Branch d kb wz)
    → ExpressionCode e g x d n k → OperandsCode a g (both x y) d n m
both_code {x = x} {y = y} {d = d} {k = k} {kb = kb} {wz = wz} {wo = wo} {test = test} w hy h hx =
    let most = d + max 1 (max (used x) (used y)) in
    let branch = added_emits (d + 1) h (omega arith) (λ ts w. refl) in
    let first = emits_then most (λ v. v.branch + 2 * v.constant + expression_weight y v) w.emits hy.emits (omega arith)
    (omega arith) (λ v. omega arith) in
    let second = emits_then most (λ v. 2 * v.branch + 2 * v.constant + expression_weight y v) first branch (omega arith)
    (omega arith) (λ v. omega arith) in
    record {
      emits = emits_then most (λ v. 2 * v.branch + 2 * v.constant + (expression_weight x v + expression_weight y v))
          second hx.emits (omega arith) (omega arith) (λ v. omega arith);
      leads = record {
        bodies = adds_before w.leads.bodies (adds_before hy.leads.bodies (adds_before (added_adds h) hx.leads.bodies));
        by = λ ss s o.
            let u = w.leads.by ss s o in
            let v = hy.leads.by ss u.0.closed (u.1.1.1.0, tt) in
            let r = added_stays h v.0.closed (v.1.0, (v.0.opens wz u.1.0, tt)) in
            let z = hx.leads.by ss r.0.closed (r.1, tt) in
            (closed_then u.0 (closed_then v.0 (closed_then r.0 z.0)), z.1);
      };
      stands = λ p f.
          let g = fills_before hx.emits f in
          let i = fills_before branch g in
          let j = fills_before hy.emits i in (
            k,
            test,
            kb,
            wz,
            wo,
            hx.stands p f,
            added_holds h tt g,
            hy.stands p i,
            w.tests p j,
            w.gives_zero p j,
            w.gives_one p j,
          );
    }

pub either_code : {a b c e g : Emitter} {x y : Expression} {d n k kb wz wo test m : ℕ}
    → Outcomes a b d wz wo test m → ExpressionCode b c y d kb test → Added c e k (tac.Branch d wo kb)
    → ExpressionCode e g x d n k → OperandsCode a g (either x y) d n m
either_code {x = x} {y = y} {d = d} {k = k} {kb = kb} {wz = wz} {wo = wo} {test = test} w hy h hx =
    let most = d + max 1 (max (used x) (used y)) in
    let branch = added_emits (d + 1) h (omega arith) (λ ts w. refl) in
    let first = emits_then most (λ v. v.branch + 2 * v.constant + expression_weight y v) w.emits hy.emits (omega arith)
    (omega arith) (λ v. omega arith) in
    let second = emits_then most (λ v. 2 * v.branch + 2 * v.constant + expression_weight y v) first branch (omega arith)
    (omega arith) (λ v. omega arith) in
    record {
      emits = emits_then most (λ v. 2 * v.branch + 2 * v.constant + (expression_weight x v + expression_weight y v))
          second hx.emits (omega arith) (omega arith) (λ v. omega arith);
      leads = record {
        bodies = adds_before w.leads.bodies (adds_before hy.leads.bodies (adds_before (added_adds h) hx.leads.bodies));
        by = λ ss s o.
            let u = w.leads.by ss s o in
            let v = hy.leads.by ss u.0.closed (u.1.1.1.0, tt) in
            let r = added_stays h v.0.closed (v.0.opens wo u.1.1.0, (v.1.0, tt)) in
            let z = hx.leads.by ss r.0.closed (r.1, tt) in
            (closed_then u.0 (closed_then v.0 (closed_then r.0 z.0)), z.1);
      };
      stands = λ p f.
          let g = fills_before hx.emits f in
          let i = fills_before branch g in
          let j = fills_before hy.emits i in (
            k,
            test,
            kb,
            wz,
            wo,
            hx.stands p f,
            added_holds h tt g,
            hy.stands p i,
            w.tests p j,
            w.gives_zero p j,
            w.gives_one p j,
          );
    }

pub choice_code : {a b c e g : Emitter} {x y z : Expression} {d n k kb ke m : ℕ} → ExpressionCode a b z d ke m
    → ExpressionCode b c y d kb m → Added c e k (tac.Branch d kb ke) → ExpressionCode e g x d n k
    → OperandsCode a g (choice x y z) d n m
choice_code {x = x} {y = y} {z = z} {d = d} {k = k} {kb = kb} {ke = ke} {m = m} hz hy h hx =
    let most = d + max 1 (max (used x) (max (used y) (used z))) in
    let branch = added_emits (d + 1) h (omega arith) (λ ts w. refl) in
    let first = emits_then most (λ w. expression_weight y w + expression_weight z w) hz.emits hy.emits (omega arith)
    (omega arith) (λ w. omega arith) in
    let second = emits_then most (λ w. w.branch + (expression_weight y w + expression_weight z w)) first branch
    (omega arith) (omega arith) (λ w. omega arith) in
    record {
      emits = emits_then most
          (λ w. w.branch + (expression_weight x w + (expression_weight y w + expression_weight z w)))
          second hx.emits (omega arith) (omega arith) (λ w. omega arith);
      leads = record {
        bodies = adds_before hz.leads.bodies (adds_before hy.leads.bodies (adds_before (added_adds h) hx.leads.bodies));
        by = λ ss s o.
            let u = hz.leads.by ss s o in
            let v = hy.leads.by ss u.0.closed (u.0.opens m o.0, tt) in
            let r = added_stays h v.0.closed (v.1.0, (v.0.opens ke u.1.0, tt)) in
            let z = hx.leads.by ss r.0.closed (r.1, tt) in
            (closed_then u.0 (closed_then v.0 (closed_then r.0 z.0)), z.1);
      };
      stands = λ p f.
          let g = fills_before hx.emits f in
          let i = fills_before branch g in
          (k, kb, ke, hx.stands p f, added_holds h tt g, hy.stands p i, hz.stands p (fills_before hy.emits i));
    }

pub finished : {a b c : Emitter} (e : Expression) {d n k m : ℕ} → Finishes a b e d k m
    → OperandsCode b c (operands_of e) d n k → ExpressionCode a c e d n m
finished e {d = d} {n = n} h o = record {
  emits = emits_then (d + used e) (expression_weight e) h.emits o.emits (omega arith) (omega (arith, used_most e))
      (weight_most e);
  leads = leads_then h.leads o.leads;
  stands = λ p f. h.stands p (fills_before o.emits f) n (o.stands p f);
}

pub lvalue_finished : {a b c : Emitter} (q : Lvalue) {d n k m : ℕ} → LvalueFinishes a b q d k m
    → OperandsCode b c (lvalue_operands q) d n k → LvalueCode a c q d n m
lvalue_finished q {d = d} {n = n} h o = record {
  emits = emits_then (d + used_by_lvalue q) (lvalue_weight q) h.emits o.emits (omega arith)
      (omega (arith, used_by_most q)) (weight_by_most q);
  leads = leads_then h.leads o.leads;
  stands = λ p f. h.stands p (fills_before o.emits f) n (o.stands p f);
}

-- arguments, the last of which comes first

pub no_arguments : {a : Emitter} {d n : ℕ} → ArgumentsCode a a no_expressions d n n
no_arguments {d = d} = record { emits = emits_none (d + 0) (λ w. refl); leads = leads_none; stands = λ p f. refl }

pub more_arguments : {a b c e : Emitter} {x : Expression} {es : Expressions} {d n k j m : ℕ}
    → ArgumentsCode a b es (d + 1) j m → TakingCode b c (kind_of x) (line_of x) d k j → ExpressionCode c e x d n k
    → ArgumentsCode a e (expressions x es) d n m
more_arguments {x = x} {es = es} {d = d} {k = k} {j = j} hs t hx =
    let most = d + max (used x) (1 + arguments_used es) in
    let first = emits_then most (λ w. taking_weight (kind_of x) w + arguments_weight es w) hs.emits t.emits
    (omega arith) (omega (arith, some_used x)) (λ w. omega arith) in
    record {
      emits = emits_then most (arguments_weight (expressions x es)) first hx.emits (omega arith) (omega arith)
          (λ w. omega arith);
      leads = leads_then (leads_then hs.leads t.leads) hx.leads;
      stands = λ p f.
          let g = fills_before hx.emits f in
          (k, j, hx.stands p f, t.stands p g, hs.stands p (fills_before t.emits g));
    }

pub places_room : (es : List CodeExpression) → length es ≤ arguments_used (expressions_in (map expression_of es))
places_room [] = omega arith
places_room (e ∷ es) = omega (arith, places_room es)

pub ruleset operand_codes = (
  none_code,
  one_code,
  place_code,
  each_code,
  two_code,
  place_and_code,
  callee_code,
  sequence_code,
  both_code,
  either_code,
  choice_code,
)
