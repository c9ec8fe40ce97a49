-- Blocks and branches from their parts.
use Rattle.std.proofs.Common.{◌≡◌, ℕ, ◌+◌, ◌-◌, ◌≤◌, List, [], ◌∷◌, length, map, drop, Some, refl, ap, ◌∙◌, subst, arith}
use Rattle.std.specs.Prelude.{get_or, max}
use Rattle.c_tree.specs.declared.program.Variable.{Variable}
use Rattle.c_tree.specs.declared.statement.Statement.{Statement as CodeStatement}
use Rattle.c_tree.specs.Blocks.{block_variables}
use Rattle.c_tree.specs.Room.{height}
use Rattle.c_tree.specs.Tree.{Expression}
use Rattle.c_tree.specs.Statements.{Statement, Statements, no_statements, statements, statements_in, block, if_then}
use Rattle.c_tree.specs.Statements.{if_else}
use Rattle.c_tree.specs.View.{statement_of}
use Rattle.c_lower.specs.Statements.{LowersStatement, HasNumber, has_objects_of}
use Rattle.program_lowering.specs.declared.expressions.emitter.Emitter.{Emitter}
use Rattle.program_lowering.proofs.ExpressionCode.Leading.{leads_first, leads_before, closed_then, adds_then}
use Rattle.program_lowering.proofs.ExpressionCode.Leading.{adds_before, adds_behind}
use Rattle.program_lowering.proofs.ExpressionCode.Lengths.{emitted_length}
use Rattle.program_lowering.specs.ExpressionCode.Weights.{each_one}
use Rattle.program_lowering.specs.StatementCode.Bodies.{statement_bodies, each_bodies}
use Rattle.program_lowering.proofs.ExpressionCode.Leading.{all_open}
use Rattle.program_lowering.specs.ExpressionCode.Enclosed.{AddsBodies, Leads}
use Rattle.program_lowering.proofs.ExpressionCode.Growing.{emits_none, emits_then, fills_before}
use Rattle.program_lowering.specs.declared.parts.exits.Exits.{Exits}
use Rattle.program_lowering.specs.declared.parts.exits.BlockExits.{BlockExits}
use Rattle.program_lowering.specs.StatementParts.Leaving.{exits_of, exit_nodes, before}
use Rattle.program_lowering.specs.StatementParts.Weights.{left_weight, block_weight}
use Rattle.program_lowering.specs.StatementParts.Code.{ConditionCode, EntryCode, LeavingCode}
use Rattle.program_lowering.proofs.StatementParts.InitializerParts.{drop_before}
use Rattle.program_lowering.specs.StatementCode.Code.{StatementCode, StatementsCode}
use Rattle.program_lowering.specs.StatementCode.Sizes.{statement_height, each_height}
use Rattle.program_lowering.specs.StatementCode.Weights.{statement_weight, each_weight}
use Rattle.program_lowering.proofs.StatementCode.Heights.{needs_one}

-- statements in order

pub no_statements_code : {vs : List Variable} {a : Emitter} {x : Exits} → StatementsCode vs a a no_statements x.next x
no_statements_code = record { emits = emits_none 1 (λ w. refl); leads = leads_first; stands = λ c v f. refl }

more_statements : {vs : List Variable} {a b c : Emitter} {n k : ℕ} {x y : Exits} (s : Statement) (ss : Statements)
    → exits_of y ≡ before (exits_of x) k → StatementsCode vs a b ss k x → StatementCode vs b c s n y
    → StatementsCode vs a c (statements s ss) n x
more_statements {vs = vs} {b = b} {c = c} {n = n} {k = k} {x = x} s ss e hs h = record {
  emits = emits_then (max (statement_height s) (each_height ss))
      (each_weight vs (statements s ss)) hs.emits h.emits
      (omega arith) (omega arith) (λ w. omega arith);
  leads = leads_before hs.leads
      (subst (λ p. Leads b c (n ∷ []) (exit_nodes (before (exits_of x) k)) (statement_bodies vs s p))
      (emitted_length hs.emits)
      (subst (λ z. Leads b c (n ∷ []) (exit_nodes z) (statement_bodies vs s (length b.code.items))) e h.leads));
  stands = λ p v f.
      (k, subst (LowersStatement p s n) e (h.stands p v f), hs.stands p v (fills_before h.emits f));
}

pub next_statement : {vs : List Variable} {a b c : Emitter} {n k : ℕ} {x y : Exits} (xs : List CodeStatement) (i : ℕ)
    (s : CodeStatement) → 1 ≤ i → i ≤ length xs → s ≡ get_or xs (i - 1) s → exits_of y ≡ before (exits_of x) k
    → StatementsCode vs a b (statements_in (map statement_of (drop i xs))) k x
    → StatementCode vs b c (statement_of s) n y
    → StatementsCode vs a c (statements_in (map statement_of (drop (i - 1) xs))) n x
next_statement {vs = vs} {a = a} {c = c} {n = n} {x = x} xs i s ge le is e hs h =
    subst (λ l. StatementsCode vs a c l n x) (ap statements_in (drop_before statement_of xs i s ge le is))
    (more_statements (statement_of s) _ e hs h)

-- blocks

pub block_code : {vs : List Variable} {a b c d : Emitter} {numbers : List ℕ} {line k n : ℕ} {y : BlockExits}
    {x : Exits} {ss : Statements} → numbers ≡ block_variables ss → LeavingCode vs a b numbers x y
    → StatementsCode vs b c ss k y.exits → EntryCode c d y.block line n k → StatementCode vs a d (block line ss) n x
block_code {vs = vs} {a = a} {b = b} {c = c} {numbers = numbers} {line = line} {k = k} {n = n} {y = y} {x = x} {ss = ss} same l h y' =
    let top = each_height ss in
    let inner = emits_then (max 0 top) (λ w. left_weight vs numbers w + each_weight vs ss w) l.emits h.emits
    (omega arith) (omega arith) (λ w. omega arith) in
    record {
      emits = emits_then top (statement_weight vs (block line ss)) inner y'.emits (omega arith) (omega arith)
          (λ w. omega (arith, ap (λ ns. block_weight vs ns w) same, l.weighs w));
      leads = record {
        bodies = adds_behind (adds_before l.leads.bodies (subst (λ p. AddsBodies b c (each_bodies vs ss p))
            (emitted_length l.emits ∙ ap (λ ns. length a.code.items + left_weight vs ns each_one) same)
            h.leads.bodies)) y'.leads.bodies;
        by = λ us c' o.
            let u = l.leads.by us c' o in
            let v = h.leads.by us u.0.closed u.1 in
            let w = y'.leads.by us v.0.closed v.1 in
            (closed_then u.0 (closed_then v.0 w.0), w.1);
      };
      stands = λ p v f.
          let fh = fills_before y'.emits f in
          let fl = fills_before h.emits fh in (
            k,
            exits_of y.exits,
            (
              y.block,
              subst (λ ns. HasNumber p (has_objects_of p ns) ns y.block) same (l.numbered p v fl),
              y'.stands p f,
              l.stands p fl,
            ),
            h.stands p v fh,
          );
    }

-- branches

pub if_code : {vs : List Variable} {a b c : Emitter} {e : Expression} {s : Statement} {k n : ℕ} {x : Exits}
    → StatementCode vs a b s k x → ConditionCode b c (Some e) n k x.next → StatementCode vs a c (if_then e s) n x
if_code {vs = vs} {e = e} {s = s} {k = k} {x = x} h t = record {
  emits = emits_then (max (height e) (statement_height s)) (statement_weight vs (if_then e s)) h.emits t.emits
      (omega arith) (omega (arith, needs_one s)) (λ w. omega arith);
  leads = record {
    bodies = adds_behind h.leads.bodies t.leads.bodies;
    by = λ ss c o.
        let u = h.leads.by ss c o in
        let v = t.leads.by ss u.0.closed (u.1.0, (u.0.opens x.next o.0, tt)) in
        (closed_then u.0 v.0, v.1);
  };
  stands = λ p v f. (k, t.stands p f, h.stands p v (fills_before t.emits f));
}

pub if_else_code : {vs : List Variable} {a b c d : Emitter} {e : Expression} {s other : Statement} {k j n : ℕ} {x :
    Exits}
    → StatementCode vs a b other j x → StatementCode vs b c s k x → ConditionCode c d (Some e) n k j
    → StatementCode vs a d (if_else e s other) n x
if_else_code {vs = vs} {b = b} {c = c} {e = e} {s = s} {other = other} {k = k} {j = j} {x = x} ho h t =
    let top = max (height e) (max (statement_height s) (statement_height other)) in
    let both = emits_then top (λ w. statement_weight vs s w + statement_weight vs other w) ho.emits h.emits
    (omega arith)
    (omega arith) (λ w. omega arith) in
    record {
      emits = emits_then top (statement_weight vs (if_else e s other)) both t.emits (omega arith)
          (omega (arith, needs_one s)) (λ w. omega arith);
      leads = record {
        bodies = adds_behind (adds_then ho.leads.bodies
            (subst (λ p. AddsBodies b c (statement_bodies vs s p)) (emitted_length ho.emits) h.leads.bodies)) t.leads.bodies;
        by = λ ss c' o.
            let u = ho.leads.by ss c' o in
            let v = h.leads.by ss u.0.closed (all_open (exit_nodes (exits_of x)) u.0 o) in
            let w = t.leads.by ss v.0.closed (v.1.0, (v.0.opens j u.1.0, tt)) in
            (closed_then u.0 (closed_then v.0 w.0), w.1);
      };
      stands = λ p v f.
          let ft = fills_before t.emits f in
          (k, j, t.stands p f, h.stands p v ft, ho.stands p v (fills_before h.emits ft));
    }

pub ruleset no_statements_yet = (no_statements_code)
