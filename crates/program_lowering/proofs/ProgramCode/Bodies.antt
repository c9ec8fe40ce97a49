-- Bodies of functions, and functions with their tables.
use Rattle.std.proofs.Common.{◌≡◌, ℕ, ◌+◌, ◌≤◌, ◌<◌, ◌^◌, Bool, List, [], length, refl, sym, ap, ◌∙◌, subst, arith}
use Rattle.c_tree.specs.declared.expression.Kind.{Kind}
use Rattle.c_tree.specs.declared.program.Variable.{Variable}
use Rattle.c_tree.specs.Blocks.{all_of, body_variables}
use Rattle.c_tree.specs.Programs.{Function}
use Rattle.c_tree.specs.Statements.{Statements}
use Rattle.source_meaning.specs.Calls.{header_of}
use Rattle.tac_ir.specs.declared.instruction.Instruction.TheVariants as tac
use Rattle.tac_ir.specs.declared.function.CodeFunction.{CodeFunction}
use Rattle.tac_ir.specs.Meaning.{header_of_code}
use Rattle.c_lower.specs.Placed.{HasAt}
use Rattle.c_lower.specs.Statements.{LowersStatements}
use Rattle.c_lower.specs.Programs.{LowersBody, placed_in, function_exits}
use Rattle.program_lowering.specs.declared.expressions.emitter.Emitter.{Emitter}
use Rattle.program_lowering.specs.ExpressionCode.Weights.{code_weight}
use Rattle.program_lowering.specs.ExpressionCode.Emitted.{Added, Fills}
use Rattle.program_lowering.proofs.ExpressionCode.Leading.{added_stays, added_adds, adds_before}
use Rattle.program_lowering.proofs.ExpressionCode.Lengths.{emitted_length}
use Rattle.program_lowering.specs.StatementCode.Bodies.{each_bodies}
use Rattle.tac_ir.specs.Bodies.{bodies_in}
use Rattle.program_lowering.proofs.ProgramCode.ClosedBodies.{none_has, empty_closed, function_closed, function_bare}
use Rattle.program_lowering.proofs.ProgramCode.ClosedBodies.{function_keeps, bodies_whole}
use Rattle.program_lowering.specs.ExpressionCode.Enclosed.{AllOpen, AddsBodies}
use Rattle.program_lowering.proofs.ExpressionCode.Growing.{added_emits, added_holds, emits_then, fills_before}
use Rattle.program_lowering.proofs.ExpressionCode.Growing.{weighs_from, weighs_into}
use Rattle.program_lowering.specs.declared.parts.exits.Exits.{Exits}
use Rattle.program_lowering.specs.StatementParts.Leaving.{exits_of, exit_nodes}
use Rattle.program_lowering.specs.StatementCode.Code.{StatementsCode}
use Rattle.program_lowering.specs.StatementCode.Sizes.{each_height}
use Rattle.program_lowering.proofs.StatementCode.Heights.{each_needs_one}
use Rattle.program_lowering.specs.declared.programs.body.Body.{Body}
use Rattle.program_lowering.specs.declared.programs.function.Lowered.{Lowered}
use Rattle.program_lowering.specs.ProgramCode.Code.{BodyCode, Completes, FunctionCode}
use Rattle.program_lowering.specs.ProgramCode.Weights.{body_weight}

pub body_code : {vs : List Variable} {ss : Statements} {result : Kind} {texts : List (List ℕ)} {literals : List Bool}
    {a b c d : Emitter} {returns end entry : ℕ} {x : Exits} → a.code.items ≡ [] → a.loops.items ≡ [] → a.texts.items ≡ texts
    → a.literals.items ≡ literals → Added a b returns (tac.Return 0)
    → Added b c end (tac.ZeroOf result 0 returns) → exits_of x ≡ function_exits end returns
    → StatementsCode vs c d ss entry x → BodyCode vs ss result texts literals d entry
body_code {vs = vs} {ss = ss} {result = result} {texts = texts} {a = a} {c = c} {d = d} {returns = returns} {end =
    end} {entry = entry} {x = x} none bare same told r z q h =
    let most = each_height ss in
    let one = each_needs_one ss in
    let er = added_emits most r (omega (arith, one)) (λ ts w. refl) in
    let ez = added_emits most z (omega (arith, one)) (λ ts w. refl) in
    let two = emits_then most (λ w. w.return + w.zero_of result) er ez (omega arith) (omega arith) (λ w. omega arith) in
    let whole = emits_then most (body_weight vs result ss) two h.emits (omega arith) (omega arith) (λ w. omega arith) in
    let last = added_stays r (empty_closed none bare) tt in
    let ends = added_stays z last.0.closed (last.1, tt) in
    let made = h.leads.by [] ends.0.closed (subst (λ y. AllOpen [] c (exit_nodes y)) (sym q)
    (ends.1, (ends.1, (ends.1, (ends.0.opens returns last.1, tt))))) in
    record {
      texts_stay = λ n t k. whole.kept.texts n t (subst (λ l. HasAt l n t) (sym same) k);
      literals_same = whole.kept.literals ∙ told;
      homes = whole.fits most (omega arith)
          (record { by = λ n i k. absurd (none_has a.code.items n i none k) });
      closed = made.0.closed;
      begins = made.1.0;
      bodies = bodies_whole bare (adds_before (adds_before (added_adds r) (added_adds z))
          (subst (λ p. AddsBodies c d (each_bodies vs ss p)) (emitted_length two ∙ ap (λ is. length is + 2) none)
          h.leads.bodies));
      weight = λ w ts s. weighs_into (whole.grown w ts s) (omega (arith, ap (λ is. code_weight ts is w) none));
      stands = λ p v f.
          let fz = fills_before h.emits f in (
            end,
            returns,
            subst (λ y. LowersStatements p ss entry y) q (h.stands p v f),
            added_holds z tt fz,
            added_holds r tt (fills_before ez fz),
          );
    }

-- a function is that of its body

pub function_code : {texts : List
    (List ℕ)} {literals : List Bool} {result : Kind} {b : Body} {l : Lowered} {vs : List Variable} {ss : Statements}
    {parameters variables entered : List Variable} (f : Function) → vs ≡ all_of f → ss ≡ f.body
    → parameters ≡ f.parameters
    → variables ≡ f.variables → entered ≡ body_variables f → BodyCode vs ss result texts literals b.code b.entry
    → Completes f.line f.type_number f.room parameters variables entered b l → FunctionCode f result texts literals l
function_code {texts = texts} {literals = literals} {result = result} {b = b} {l = l} {vs = vs} {ss = ss} f all same
    ep ev ee of w =
    let h = subst (λ us. BodyCode us f.body result texts literals b.code b.entry) all
    (subst (λ us. BodyCode vs us result texts literals b.code b.entry) same of) in
    record {
      texts_stay = λ n t k. subst (λ ts. HasAt ts n t) (sym w.texts_are) (h.texts_stay n t k);
      literals_same = w.literals_are ∙ h.literals_same;
      is = λ ts later.
          let fills : Fills b.code (placed_in ts literals f l.function) = record {
            code = λ n i r k. subst (λ is. HasAt is n i) (sym w.code_is) k;
            keys = λ n k g. subst (λ ks. HasAt ks n k) (sym w.keys_are) g;
            blocks = λ n k g. subst (λ ks. HasAt ks n k) (sym w.blocks_are) g;
            loops = λ n k g. subst (λ ks. HasAt ks n k) (sym w.loops_are) g;
            texts = λ n t k. later n t (subst (λ us. HasAt us n t) (sym w.texts_are) k);
            literals = sym h.literals_same;
          } in
          record {
            header = headers f l.function w.line_is w.type_is (w.parameters_are ∙ ep) (w.variables_are ∙ ev)
                (w.entered_are ∙ ee) w.room_is;
            homes = λ n i k. h.homes.by n i (subst (λ is. HasAt is n i) w.code_is k);
            closed = function_closed b.code b.entry l.function w.code_is w.loops_are w.entry_is h.closed h.begins;
            none_added = function_bare b.code l.function w.loops_are h.closed;
            bodies = ap bodies_in w.loops_are ∙ h.bodies;
            keeps = function_keeps b.code l.function w.code_is w.loops_are h.closed;
            weight = λ v. weighs_from (ap (λ is. code_weight ts is v) w.code_is) (h.weight v ts fills.texts);
            body = subst (λ n. LowersBody (placed_in ts literals f l.function) result n f.body) (sym w.entry_is)
                (h.stands (placed_in ts literals f l.function) refl fills);
          };
    }
  where
    headers : (f : Function) (c : CodeFunction) → c.line ≡ f.line → c.type_number ≡ f.type_number
        → c.parameters ≡ f.parameters → c.variables ≡ f.variables → c.entered ≡ body_variables f → c.room ≡ f.room
        → header_of_code c ≡ header_of f
    headers f c a b d e g h = cc

pub height_room : (f : Function) (room : ℕ) → each_height f.body ≤ room → room < 2 ^ 64 → each_height f.body < 2 ^ 64
height_room f room h lt = omega (arith, h, lt)

pub ruleset rooms = (height_room)
