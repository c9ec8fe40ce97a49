-- A call that is set up from a good state leaves a good one of the function that is called, and where it returns the
-- caller's is good again.
use Rattle.std.proofs.Common.{◌≡◌, ℕ, zero, suc, List, [], ◌∷◌, ◌++◌, length, map, drop}
use Rattle.std.proofs.Common.{Option, Some, None, refl, sym, ap, ap₂, ◌∙◌, subst, get_or}
use Rattle.std.specs.Prelude.{slice_get}
use Rattle.addr_map.specs.Places.{AreMapped}
use Rattle.c_tree.specs.declared.program.Variable.{Variable}
use Rattle.c_tree.specs.Blocks.{all_of}
use Rattle.c_tree.specs.Programs.{Function, Program}
use Rattle.c_tree.specs.Valid.{Scope}
use Rattle.c_tree.specs.ValidProgram.{function_scope}
use Rattle.source_meaning.specs.State.{State, Rvalue, Gives, Setting}
use Rattle.source_meaning.specs.Calls.{header_of, function_at, set_up, caller, back_to}
use Rattle.source_meaning.specs.Good.{file_scope, IsGood, Leaves, IsSetUp, SetsUpBy, ArgumentsAre}
use Rattle.source_meaning.specs.Good.{program_context}
use Rattle.source_meaning.specs.Meaning.{setting_of, fresh}
use Rattle.source_meaning.proofs.SureMeaning.{call_set_up, call_left, start_good}
use Rattle.source_meaning.proofs.ValidProgramNames.{valid_names}
use Rattle.tac_ir.specs.declared.function.CodeFunction.{CodeFunction}
use Rattle.tac_ir.specs.Meaning.{header_of_code, function_in, variables_in, objects_before}
use Rattle.tac_ir.specs.Stage.{Frame}
use Rattle.flat_code.specs.Memory.{Bytes}
use Rattle.metadata_relation.specs.Scopes.{Names, scope_of, base_of, variables_at, context_at}
use Rattle.metadata_relation.specs.Stages.{Compiled, map_of, names}
use Rattle.metadata_relation.specs.Steps.{IsCompiled}

-- the typed function of a function of the code
pub record IsTypedAs (functions : List Function) (number : ℕ) (code : CodeFunction) : Type 0 where
  pub function : Function
  pub found : slice_get functions number ≡ Some function
  pub at : function_at functions number ≡ Some function
  pub header : header_of function ≡ header_of_code code

pub typed_as : (fs : List Function) (cs : List CodeFunction) → map header_of_code cs ≡ map header_of fs → (u : ℕ)
    (k : CodeFunction) → slice_get cs u ≡ Some k → IsTypedAs fs u k
typed_as fs [] e u k found = cc
typed_as [] (c ∷ cs) e u k found = cc
typed_as (f ∷ fs) (c ∷ cs) e zero k found =
    let same : c ≡ k = cc in
    record {
      function = f;
      found = refl;
      at = refl;
      header = sym (ap (λ l. get_or l 0 (header_of f)) e) ∙ ap header_of_code same;
    }
typed_as (f ∷ fs) (c ∷ cs) e (suc u) k found =
    let rest = typed_as fs cs (ap (drop 1) e) u k found in
    record { function = rest.function; found = rest.found; at = rest.at; header = rest.header }

-- the scopes of all functions have the static objects and the functions of the file
statics_same : (p : Program) (o : Option Function) → (scope_of p o).statics ≡ (file_scope p).statics
statics_same p None = refl
statics_same p (Some f) = refl

functions_same : (p : Program) (o : Option Function) → (scope_of p o).functions ≡ (file_scope p).functions
functions_same p None = refl
functions_same p (Some f) = refl

around_same : (n : Names) (u : ℕ) (ws : List Frame)
    → program_context n.typed n.sizes (context_at n u ws).scope ≡ context_at n u ws
around_same n u ws =
    let b = base_of n u in
    let all = variables_in (function_in n.tac u) in
    let vs = variables_at n u ws in
    ap₂ (λ x y. record {
      scope = record b { all = all; variables = vs; statics = x; functions = y };
      sizes = n.sizes;
    }) (sym (statics_same n.typed (slice_get n.typed.functions u)))
    (sym (functions_same n.typed (slice_get n.typed.functions u)))

module _ (c : Compiled) (IsGoodForm : Bytes → Type 0) (right : IsCompiled c IsGoodForm) where
  abbrev p : Program
  p = c.typed

  abbrev g : Setting
  g = setting_of c.typed (map_of c).budgets

  sizes_same : (setting_of c.typed (map_of c).budgets).sizes ≡ map_of c
  sizes_same = ap (λ z. z.sizes) (sym right.setting_is) ∙ right.sizes

  mapped : AreMapped (setting_of c.typed (map_of c).budgets).sizes
  mapped = subst AreMapped (sym sizes_same) right.mapped

  -- what a function of the code is in the typed program
  pub function_of : (f : ℕ) (k : CodeFunction) → slice_get c.layout.expansion.code.functions f ≡ Some k
      → IsTypedAs c.typed.functions f k
  function_of f k found = typed_as c.typed.functions c.layout.expansion.code.functions right.headers f k found

  -- the scope of its body
  context_is : (f : ℕ) (k : CodeFunction) (found : slice_get c.layout.expansion.code.functions f ≡ Some k)
      → record { scope = function_scope c.typed (function_of f k found).function; sizes = map_of c }
      ≡ context_at (names c) f []
  context_is f k found =
      let t = function_of f k found in
      let base : function_scope c.typed t.function ≡ base_of (names c) f = ap (scope_of c.typed) (sym t.found) in
      let variables : all_of t.function ≡ variables_in (function_in c.layout.expansion.code f) =
      ap (λ h. h.parameters ++ h.variables) t.header ∙ ap variables_in (sym found) in
      ap (λ z. record { scope = record (function_scope c.typed t.function) { all = z }; sizes = map_of c }) variables
      ∙ ap (λ (z : Scope). record {
        scope = record z { all = variables_in (function_in c.layout.expansion.code f); variables = z.variables };
        sizes = map_of c;
      }) base

  -- a call from whatever scope of the program leaves a good state of the function
  pub entered_from : (f : ℕ) (k : CodeFunction) → slice_get c.layout.expansion.code.functions f ≡ Some k
      → (around : Scope) (vs : List Rvalue) (line : ℕ) (s s' : State)
      → IsGood (program_context c.typed (setting_of c.typed (map_of c).budgets).sizes around) s
      → ArgumentsAre (length (file_scope c.typed).functions) (map (λ v. v.kind) k.parameters) vs s.objects
      → set_up c.setting (header_of_code k) vs line s ≡ Gives tt s'
      → IsSetUp (context_at (names c) f []) s.objects s'
  entered_from f k found around vs line s s' good args e =
      let t = function_of f k found in
      let kinds = ap (λ h. map (λ (v : Variable). v.kind) h.parameters) t.header in
      let up = call_set_up p (map_of c).budgets mapped (valid_names p right.valid) f t.function t.at around vs line s good
      (subst (λ ks. ArgumentsAre (length (file_scope c.typed).functions) ks vs s.objects) (sym kinds) args) in
      let same : set_up (setting_of c.typed (map_of c).budgets) (header_of t.function) vs line s ≡ Gives tt s' =
      ap₂ (λ x h. set_up x h vs line s) (sym right.setting_is) t.header ∙ e in
      subst (λ z. IsSetUp z s.objects s') (context_is f k found)
      (subst (λ z. IsSetUp (record { scope = function_scope c.typed t.function; sizes = z }) s.objects s') sizes_same
      (subst (λ z. SetsUpBy (record {
        scope = function_scope c.typed t.function;
        sizes = (setting_of c.typed (map_of c).budgets).sizes;
      }) s.objects z) same up))

  -- the state at which nothing has been done is good
  pub fresh_good : (input : List ℕ) → IsGood (program_context c.typed (setting_of c.typed (map_of c).budgets).sizes
      (file_scope c.typed)) (fresh c.setting (objects_before c.layout.expansion.code c.setting) input)
  fresh_good input =
      let start = start_good p (map_of c).budgets mapped (valid_names p right.valid) input in
      subst (λ z. IsGood (program_context c.typed (setting_of c.typed (map_of c).budgets).sizes (file_scope c.typed))
      (fresh z (objects_before c.layout.expansion.code z) input)) (sym right.setting_is)
      (subst (λ z. IsGood (program_context c.typed (setting_of c.typed (map_of c).budgets).sizes (file_scope c.typed))
      (fresh (setting_of c.typed (map_of c).budgets) z input)) (sym right.before) start)

  module _ (f : ℕ) (k : CodeFunction) (found : slice_get c.layout.expansion.code.functions f ≡ Some k) (u : ℕ)
      (ws : List Frame) where
    abbrev around : Scope
    around = (context_at (names c) u ws).scope

    -- the caller's names, with the sizes of the setting
    good_around : (s : State) → IsGood (context_at (names c) u ws) s
        → IsGood (program_context c.typed (setting_of c.typed (map_of c).budgets).sizes
        (context_at (names c) u ws).scope) s
    good_around s good =
        subst (λ z. IsGood (program_context c.typed z around) s) (sym sizes_same)
        (subst (λ z. IsGood z s) (sym (around_same (names c) u ws)) good)

    -- a call leaves a good state of the function
    pub entered_good : (vs : List Rvalue) (line : ℕ) (s s' : State) → IsGood (context_at (names c) u ws) s
        → ArgumentsAre (length (file_scope c.typed).functions) (map (λ v. v.kind) k.parameters) vs s.objects
        → set_up c.setting (header_of_code k) vs line s ≡ Gives tt s'
        → IsSetUp (context_at (names c) f []) s.objects s'
    entered_good vs line s s' good args e =
        entered_from f k found around vs line s s' (good_around s good) args e

    -- and where it returns, of the caller
    pub left_good : (s s1 s2 : State) → IsGood (context_at (names c) u ws) s
        → IsSetUp (context_at (names c) f []) s.objects s1 → Leaves (context_at (names c) f []) s1 s2
        → Leaves (context_at (names c) u ws) s (back_to (caller s) s2)
    left_good s s1 s2 good up on =
        let t = function_of f k found in
        let inner : record {
          scope = function_scope c.typed t.function;
          sizes = (setting_of c.typed (map_of c).budgets).sizes;
        } ≡ context_at (names c) f [] =
        ap (λ z. record { scope = function_scope c.typed t.function; sizes = z }) sizes_same ∙ context_is f k found in
        subst (λ z. Leaves z s (back_to (caller s) s2)) (around_same (names c) u ws)
        (subst (λ z. Leaves (program_context c.typed z around) s (back_to (caller s) s2)) sizes_same
        (call_left p (map_of c).budgets mapped (valid_names p right.valid) f t.function t.at around s s1 s2
        (good_around s good) (subst (λ z. IsSetUp z s.objects s1) (sym inner) up)
        (subst (λ z. Leaves z s1 s2) (sym inner) on)))
