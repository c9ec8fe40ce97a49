-- The counted loops of functions have closed bodies.
use Rattle.std.proofs.Common.{◌≡◌, ℕ, zero, suc, Bool, List, [], ◌∷◌, ◌++◌, length, Option, Some, None, ap, ◌∙◌, subst}
use Rattle.std.proofs.Common.{arith}
use Rattle.std.specs.Prelude.{◌⊎◌, slice_get}
use Rattle.std.proofs.lemmas.Option.{same_Some}
use mathlib.Core.Logic.{inl, inr}
use Rattle.c_tree.specs.declared.expression.Kind.{Kind}
use Rattle.c_tree.specs.Programs.{Function, Program}
use Rattle.source_meaning.specs.Calls.{function_at}
use Rattle.tac_ir.specs.declared.instruction.Instruction.{Instruction}
use Rattle.tac_ir.specs.declared.function.Span.{Span}
use Rattle.tac_ir.specs.declared.function.CountedLoop.{CountedLoop}
use Rattle.tac_ir.specs.declared.function.CodeFunction.{CodeFunction}
use Rattle.tac_ir.specs.declared.function.Tac.{Tac}
use Rattle.tac_ir.specs.Bodies.{IsIn, IsInBody, IsTurnOf, HasClosedBodies, HaveClosedBodies, HasNoneAdded}
use Rattle.tac_ir.specs.Bodies.{HaveNoneAdded, KeepsVariable, KeepVariables, bodies_in, no_nodes}
use Rattle.c_lower.specs.Placed.{HasAt}
use Rattle.program_lowering.specs.declared.expressions.emitter.Emitter.{Emitter}
use Rattle.program_lowering.specs.ExpressionCode.Enclosed.{IsClosed, Encloses, AreClosed, IsOpen, AddsBodies}
use Rattle.program_lowering.proofs.ExpressionCode.Leading.{body_at}
use Rattle.program_lowering.specs.StatementCode.Bodies.{function_bodies}
use Rattle.program_lowering.specs.ProgramCode.Bodies.{HaveBodiesOf}
use Rattle.program_lowering.specs.ProgramCode.Whole.{AreFunctions}

pub none_has : {A : Type 0} (xs : List A) (n : ℕ) (x : A) → xs ≡ [] → HasAt xs n x → ⊥
none_has [] n x e h = cc
none_has (y ∷ xs) n x e h = cc

no_bodies : (ls : List CountedLoop) → ls ≡ [] → (n : ℕ) (s : Span) → HasAt (bodies_in ls) n s → ⊥
no_bodies [] e n s h = cc
no_bodies (l ∷ ls) e n s h = cc

-- before anything is made
pub empty_closed : {a : Emitter} → a.code.items ≡ [] → a.loops.items ≡ [] → AreClosed [] a
empty_closed {a = a} none bare = record {
  leads = λ n m i at to. absurd (none_has a.code.items n i none at);
  closed = by;
  none_added = λ n l at. absurd (none_has a.loops.items n l bare at);
  keeps = λ n l at m i g here. absurd (none_has a.loops.items n l bare at);
}
  where
    by : (number : _) (s : Span) → IsClosed [] (bodies_in a.loops.items) number s → Encloses a.code.items number s
    by None s c = cc
    by (Some n) s c = absurd (no_bodies a.loops.items bare n s c)

-- all bodies are those that are added to none
pub bodies_whole : {a b : Emitter} {ss : List Span} → a.loops.items ≡ [] → AddsBodies a b ss
    → bodies_in b.loops.items ≡ ss
bodies_whole {ss = ss} bare h = h.by ∙ ap (λ ls. bodies_in ls ++ ss) bare

in_body : (l : CountedLoop) → l.added ≡ no_nodes → (n : ℕ) → IsInBody l n → IsIn l.body n
in_body l e n (inl h) = h
in_body l e n (inr h) = absurd (omega (arith, (subst (λ s. IsIn s n) e h).1))

pub function_closed : (e : Emitter) (entry : ℕ) (f : CodeFunction) → f.code ≡ e.code.items → f.loops ≡ e.loops.items
    → f.entry ≡ entry → AreClosed [] e → IsOpen [] e entry → HasClosedBodies f
function_closed e entry f code loops begin s o = record {
  begins = omega (arith, ap length code, begin, o.within);
  leads = λ n m i at to. omega (arith, ap length code, s.leads n m i (subst (λ is. HasAt is n i) code at) to);
  bodies = λ number l at.
      let held = subst (λ ls. HasAt ls number l) loops at in
      let none = s.none_added number l held in
      let here = body_at e.loops.items number l held in
      let span = s.closed (Some number) l.body here in
      record {
        within = λ n h. omega (arith, ap length code, span.within, (in_body l none n h).1);
        begins = λ h. o.outside (Some number) l.body here (subst (IsIn l.body) begin (in_body l none f.entry h));
        enters = λ n m i at to h.
            outer l n number i
            (span.enters n m i (subst (λ is. HasAt is n i) code at) to (in_body l none m h));
      };
}
  where
    outer : (l : CountedLoop) (n number : ℕ) (i : Instruction) → IsIn l.body n ⊎ IsTurnOf number i
        → IsInBody l n ⊎ IsTurnOf number i
    outer l n number i (inl h) = inl (inl h)
    outer l n number i (inr h) = inr h

pub function_bare : (e : Emitter) (f : CodeFunction) → f.loops ≡ e.loops.items → AreClosed [] e → HasNoneAdded f
function_bare e f loops s = record {
  by = λ number l at. s.none_added number l (subst (λ ls. HasAt ls number l) loops at);
}

pub function_keeps : (e : Emitter) (f : CodeFunction) → f.code ≡ e.code.items → f.loops ≡ e.loops.items
    → AreClosed [] e → (n : ℕ) (l : CountedLoop) → slice_get f.loops n ≡ Some l → KeepsVariable f l
function_keeps e f code loops s n l at =
    let held = subst (λ ls. HasAt ls n l) loops at in
    record {
      by = λ m i g here.
          s.keeps n l held m i (subst (λ is. HasAt is m i) code g) (in_body l (s.none_added n l held) m here);
    }

-- and so are all of a program

record HasBodies (o : Option Function) (c : CodeFunction) : Type 0 where
  bodies : (f : Function) → o ≡ Some f → bodies_in c.loops ≡ function_bodies f
  closed : HasClosedBodies c
  none_added : HasNoneAdded c
  keeps : (n : ℕ) (l : CountedLoop) → slice_get c.loops n ≡ Some l → KeepsVariable c l

each_closed : (ts : List (List ℕ)) (literals : List Bool) (results : List Kind) (fs : List Function)
    (cs : List CodeFunction) → AreFunctions ts literals results fs cs → (u : ℕ) (c : CodeFunction)
    → slice_get cs u ≡ Some c → HasBodies (function_at fs u) c
each_closed ts literals results [] [] h u c at = cc
each_closed ts literals results [] (k ∷ cs) h u c at = absurd h
each_closed ts literals results (f ∷ fs) [] h u c at = absurd h
each_closed ts literals results (f ∷ fs) (k ∷ cs) h zero c at =
    subst (HasBodies (Some f)) (same_Some k c at)
    (record { bodies = λ g e. h.0.bodies ∙ ap function_bodies (same_Some f g e); closed = h.0.closed; none_added = h.0.none_added; keeps = h.0.keeps })
each_closed ts literals results (f ∷ fs) (k ∷ cs) h (suc u) c at = each_closed ts literals results fs cs h.1 u c at

pub programs_closed : (literals : List Bool) (fs : List Function) (t : Tac)
    → AreFunctions t.texts literals t.results fs t.functions → HaveClosedBodies t
programs_closed literals fs t h = record {
  by = λ u c at. (each_closed t.texts literals t.results fs t.functions h u c at).closed;
}

pub programs_bare : (literals : List Bool) (fs : List Function) (t : Tac)
    → AreFunctions t.texts literals t.results fs t.functions → HaveNoneAdded t
programs_bare literals fs t h = record {
  by = λ u c at. (each_closed t.texts literals t.results fs t.functions h u c at).none_added;
}

pub programs_keep : (literals : List Bool) (fs : List Function) (t : Tac)
    → AreFunctions t.texts literals t.results fs t.functions → KeepVariables t
programs_keep literals fs t h = record {
  by = λ u c at n l g. (each_closed t.texts literals t.results fs t.functions h u c at).keeps n l g;
}

pub programs_bodies : (literals : List Bool) (p : Program) (t : Tac)
    → AreFunctions t.texts literals t.results p.functions t.functions → HaveBodiesOf p t
programs_bodies literals p t h = record {
  by = λ u c f at. (each_closed t.texts literals t.results p.functions t.functions h u c at).bodies f;
}
