-- Functions in turn, and the program of them.
use Rattle.std.proofs.Common.{◌≡◌, ℕ, zero, suc, ◌+◌, ◌≤◌, ◌<◌, Bool, List, [], ◌∷◌, ◌++◌, length, map, drop, refl}
use Rattle.std.proofs.Common.{sym, ap, ◌∙◌, subst, arith, append_assoc, append-nil, le_trans}
use Rattle.std.proofs.lemmas.List.{drop_all}
use Rattle.std.specs.Prelude.{get_or, slice_get, max}
use Rattle.c_tree.specs.declared.expression.Kind.{Kind}
use Rattle.c_tree.specs.declared.expression.Kind.TheVariants.{Void}
use Rattle.c_tree.specs.declared.program.Function.{Function as CodeOfFunction}
use Rattle.c_tree.specs.Programs.{Function, FunctionType, StaticObject, Program}
use Rattle.c_tree.specs.Room.{function_height}
use Rattle.c_tree.specs.View.{function_of}
use Rattle.source_meaning.specs.Calls.{header_of, function_at}
use Rattle.source_meaning.specs.Meaning.{statics_end}
use Rattle.tac_ir.specs.declared.function.CodeFunction.{CodeFunction}
use Rattle.tac_ir.specs.declared.function.StaticData.{StaticData}
use Rattle.tac_ir.specs.declared.function.Tac.{Tac}
use Rattle.tac_ir.specs.Meaning.{header_of_code}
use Rattle.c_lower.specs.Placed.{HasAt}
use Rattle.c_lower.specs.Programs.{literals_of, LowersAt, LowersFunction, IsLowered, result_in, height_in}
use Rattle.program_lowering.specs.ExpressionCode.Weights.{Weights, IsEven}
use Rattle.program_lowering.specs.ExpressionCode.Emitted.{Stays}
use Rattle.program_lowering.proofs.ExpressionCode.Growing.{stays_all}
use Rattle.program_lowering.proofs.ExpressionCode.Views.{drop_from}
use Rattle.program_lowering.specs.StatementCode.Sizes.{each_height}
use Rattle.program_lowering.proofs.StatementCode.Heights.{height_of_each}
use Rattle.static_data.specs.Data.{AreInitial}
use Rattle.program_lowering.specs.declared.programs.program.Lowering.{Lowering}
use Rattle.program_lowering.specs.declared.programs.function.Lowered.{Lowered}
use Rattle.program_lowering.specs.ProgramCode.Code.{IsFunction, FunctionCode}
use Rattle.program_lowering.specs.ProgramCode.Whole.{AreFunctions, Holding, Assembles, results_of}
use Rattle.program_lowering.specs.ProgramCode.Weights.{functions_weight, codes_weight, IsWeighed}

-- what is done makes, with the code of the functions from a number on, the code of all
pub record Done (literals : List Bool) (results : List Kind) (fs : List CodeOfFunction) (i : ℕ) (l : Lowering)
    : Type 0 where
  pub literals_same : l.literals.items ≡ literals
  pub by : (ts : List (List ℕ)) → Stays l.texts.items ts → (rest : List CodeFunction)
      → AreFunctions ts literals results (map function_of (drop i fs)) rest
      → AreFunctions ts literals results (map function_of fs) (l.functions.items ++ rest)

pub done_none : (literals : List Bool) (results : List Kind) (fs : List CodeOfFunction) (l : Lowering)
    → l.functions.items ≡ [] → l.literals.items ≡ literals → Done literals results fs 0 l
done_none literals results fs l e same = record {
  literals_same = same;
  by = λ ts s rest h. subst (λ xs. AreFunctions ts literals results (map function_of fs) (xs ++ rest)) (sym e) h;
}

pub done_more : {literals : List Bool} {results : List Kind} {l m : Lowering} (fs : List CodeOfFunction) (i : ℕ)
    (x : CodeOfFunction) → i < length fs
    → x ≡ get_or fs i x → Done literals results fs i l → Holding l m results (function_of x)
    → Done literals results fs (i + 1) m
done_more {literals = literals} {results = results} {l = l} {m = m} fs i x lt is d h = record {
  literals_same = h.literals_same ∙ d.literals_same;
  by = λ ts s rest k.
      let own = subst (λ ls. IsFunction ts ls (get_or results (function_of x).type_number Void) (function_of x) h.code)
      d.literals_same (h.is ts s) in
      let from : map function_of (drop i fs) ≡ function_of x ∷ map function_of (drop (i + 1) fs) =
      ap (map function_of) (drop_from fs i x lt is) in
      let before = d.by ts (λ n t g. s n t (h.texts_stay n t g)) (h.code ∷ rest)
      (subst (λ xs. AreFunctions ts literals results xs (h.code ∷ rest)) (sym from) (own, k)) in
      let joined : l.functions.items ++ (h.code ∷ rest) ≡ m.functions.items ++ rest =
      sym (ap (λ xs. xs ++ rest) h.functions ∙ append_assoc l.functions.items (h.code ∷ []) rest) in
      subst (AreFunctions ts literals results (map function_of fs)) joined before;
}

pub done_all : {literals : List Bool} {results : List Kind} {l : Lowering} (fs : List CodeOfFunction) (i : ℕ)
    → i ≡ length fs
    → Done literals results fs i l
    → AreFunctions l.texts.items literals results (map function_of fs) l.functions.items
done_all {literals = literals} {results = results} {l = l} fs i e d =
    let none : drop i fs ≡ [] = drop_all i fs (omega (arith, e)) in
    subst (AreFunctions l.texts.items literals results (map function_of fs)) (append-nil l.functions.items)
    (d.by l.texts.items (stays_all l.texts.items) []
    (subst (λ xs. AreFunctions l.texts.items literals results (map function_of xs) []) (sym none) tt))

-- one more function

pub held : {a b : Lowering} {results : List Kind} {f : Function} {texts : List (List ℕ)} {w : Lowered}
    → texts ≡ a.texts.items
    → FunctionCode f (get_or results f.type_number Void) texts a.literals.items w
    → b.functions.items ≡ a.functions.items ++ w.function ∷ []
    → b.texts.items ≡ w.texts.items → b.literals.items ≡ w.literals.items → Holding a b results f
held {w = w} et h ef eb el = record {
  code = w.function;
  functions = ef;
  texts_stay = λ n t k. subst (λ ts. HasAt ts n t) (sym eb) (h.texts_stay n t (subst (λ ts. HasAt ts n t) (sym et) k));
  literals_same = el ∙ h.literals_same;
  is = λ ts s. h.is ts (λ n t k. s n t (subst (λ us. HasAt us n t) (sym eb) k));
}

-- the program

headers_same : (ts : List (List ℕ)) (literals : List Bool) (results : List Kind) (fs : List Function)
    (cs : List CodeFunction) → AreFunctions ts literals results fs cs → map header_of_code cs ≡ map header_of fs
headers_same ts literals results [] [] h = refl
headers_same ts literals results [] (c ∷ cs) h = absurd h
headers_same ts literals results (f ∷ fs) [] h = absurd h
headers_same ts literals results (f ∷ fs) (c ∷ cs) h =
    ap (λ x. x ∷ map header_of_code cs) h.0.header
    ∙ ap (λ xs. header_of f ∷ xs) (headers_same ts literals results fs cs h.1)

room_enough : (statics : List StaticObject) (n : ℕ) (f : Function)
    → each_height f.body ≤ max 1 (function_height statics n f)
room_enough statics n f = omega (arith, height_of_each f.body)

one_lowered : (ts : List (List ℕ)) (literals : List Bool) (result : Kind) (statics : List StaticObject) (n : ℕ)
    (f : Function) (c : CodeFunction)
    → IsFunction ts literals result f c → LowersFunction ts literals result (function_height statics n f) f c
one_lowered ts literals result statics n f c h = record {
  header = h.header;
  homes = λ k i e. le_trans (h.homes k i e) (room_enough statics n f);
  body = h.body;
}

functions_lowered : (ts : List (List ℕ)) (literals : List Bool) (results : List Kind) (statics : List StaticObject)
    (n : ℕ) (fs : List Function)
    (cs : List CodeFunction) → AreFunctions ts literals results fs cs → (k : ℕ)
    → LowersAt ts literals (result_in results (function_at fs k)) (height_in statics n (function_at fs k))
    (function_at fs k)
    (slice_get cs k)
functions_lowered ts literals results statics n [] [] h k = tt
functions_lowered ts literals results statics n [] (c ∷ cs) h k = absurd h
functions_lowered ts literals results statics n (f ∷ fs) [] h k = absurd h
functions_lowered ts literals results statics n (f ∷ fs) (c ∷ cs) h zero =
    one_lowered ts literals (get_or results f.type_number Void) statics n f c h.0
functions_lowered ts literals results statics n (f ∷ fs) (c ∷ cs) h (suc k) =
    functions_lowered ts literals results statics n fs cs h.1 k

pub lowered_from : (p : Program) (t : Tac) → AreInitial p t.statics
    → AreFunctions t.texts (literals_of p.statics) t.results p.functions t.functions
    → t.results ≡ map (λ (f : FunctionType). f.result) p.function_types → t.main ≡ p.main
    → t.global_bytes ≡ statics_end p.statics 0 → IsLowered p t
lowered_from p t s h results main bytes = record {
  headers = headers_same t.texts (literals_of p.statics) t.results p.functions t.functions h;
  results = results;
  main = main;
  bytes = bytes;
  statics = λ budgets. s.by budgets;
  functions = λ f. functions_lowered t.texts (literals_of p.statics) t.results p.statics f p.functions t.functions h f;
}

pub weighed : (ts : List (List ℕ)) (literals : List Bool) (results : List Kind) (fs : List Function)
    (cs : List CodeFunction) (w : Weights) → IsEven w
    → AreFunctions ts literals results fs cs → codes_weight ts cs w ≡ functions_weight results fs w
weighed ts literals results [] [] w even h = omega arith
weighed ts literals results [] (c ∷ cs) w even h = absurd h
weighed ts literals results (f ∷ fs) [] w even h = absurd h
weighed ts literals results (f ∷ fs) (c ∷ cs) w even h =
    let own = h.0.weight w in
    omega (arith, own.exactly even, weighed ts literals results fs cs w even h.1)

-- the functions as the program has them
pub whole_in : {statics : List StaticData} {results : List Kind} {l : Lowering} {main bytes : ℕ} {t : Tac} (p : Program)
    → Assembles main bytes statics results l t
    → AreFunctions l.texts.items (literals_of p.statics) results p.functions l.functions.items
    → AreFunctions t.texts (literals_of p.statics) t.results p.functions t.functions
whole_in {l = l} {t = t} p a h =
    let ls = literals_of p.statics in
    let kinds = subst (λ ks. AreFunctions l.texts.items ls ks p.functions l.functions.items) (sym a.results_are) h in
    let texts = subst (λ ts. AreFunctions ts ls t.results p.functions l.functions.items) (sym a.texts_are) kinds in
    subst (AreFunctions t.texts ls t.results p.functions) (sym a.functions_are) texts

pub program_from : {statics : List StaticData} {results : List Kind} {l : Lowering} {main bytes : ℕ} {t : Tac}
    (p : Program)
    → Assembles main bytes statics results l t → main ≡ p.main → bytes ≡ statics_end p.statics 0 → AreInitial p statics
    → results ≡ results_of p.function_types
    → AreFunctions l.texts.items (literals_of p.statics) results p.functions l.functions.items → IsLowered p t
program_from {t = t} p a em eb s er h =
    lowered_from p t (subst (AreInitial p) (sym a.statics_are) s) (whole_in p a h) (a.results_are ∙ er)
    (a.main_is ∙ em) (a.bytes_are ∙ eb)

pub weighed_from : {statics : List StaticData} {results : List Kind} {l : Lowering} {main bytes : ℕ} {t : Tac}
    (p : Program)
    → Assembles main bytes statics results l t → results ≡ results_of p.function_types
    → AreFunctions l.texts.items (literals_of p.statics) results p.functions l.functions.items → IsWeighed p t
weighed_from {t = t} p a er h = record {
  by = λ w even.
      weighed t.texts (literals_of p.statics) t.results p.functions t.functions w even (whole_in p a h)
      ∙ ap (λ ks. functions_weight ks p.functions w) (a.results_are ∙ er);
}
