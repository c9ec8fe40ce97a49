-- The same of statements and of programs.
use Rattle.source_meaning.specs.Good.{signature_in, static_kind}
use Rattle.c_tree.specs.Valid.{Scope}
use Rattle.std.proofs.Common.{◌≡◌, ℕ, zero, suc, ◌+◌, List, [], ◌∷◌, ◌++◌, true, false, ◌==◌, Option, Some, None}
use Rattle.std.proofs.Common.{length, get_or, if◌then◌else◌, refl, sym, ap, ◌∙◌, subst, arith, nat_le, nat_lt}
use Rattle.std.specs.List.{list_all}
use Rattle.std.proofs.lemmas.Bool.{eqb-true, leb-true, ltb-true, lt-ltb}
use Rattle.c_tree.specs.declared.expression.Kind.{Kind}
use Rattle.c_tree.specs.declared.expression.Kind.TheVariants.{Void}
use Rattle.c_tree.specs.Tree.{Expression, kind_of}
use Rattle.c_tree.specs.declared.program.Variable.{Variable}
use Rattle.c_tree.specs.Programs.{Function, StaticObject, Program}
use Rattle.c_tree.specs.Statements.{Part, Content, value_content, literal_content, Initializer, of_plain, of_object}
use Rattle.c_tree.specs.Statements.{DeclaredVariable}
use Rattle.c_tree.specs.Statements.{First, nothing, first_expression, first_declaration, Statement}
use Rattle.c_tree.specs.Statements.{expression_statement, empty, declaration, block, if_then, if_else, while_do}
use Rattle.c_tree.specs.Statements.{do_while, for, switch, break, continue, return, Statements, no_statements}
use Rattle.c_tree.specs.Statements.{statements, SwitchItems, no_items, items}
use Rattle.c_tree.specs.Kinds.{has_size, is_kind, size_of_kind, is_scalar, is_value}
use Rattle.c_tree.specs.Valid as valid
use Rattle.c_tree.specs.Valid.{has_number, within, is_named_as, is_valid, is_condition, is_plain}
use Rattle.c_tree.specs.ValidProgram.{content_size, is_content, is_part, are_parts, is_initializer, are_declared}
use Rattle.c_tree.specs.ValidProgram.{is_first, is_condition_if, is_expression_if, is_return, Inside, in_loop}
use Rattle.c_tree.specs.ValidProgram.{in_switch, is_statement, are_statements, are_items, is_function_type}
use Rattle.c_tree.specs.ValidProgram.{are_all_different, signature_at, scope_in, function_scope, are_parameters}
use Rattle.c_tree.specs.ValidProgram.{is_function, are_functions, name_variables, variables_of_function, static_scope}
use Rattle.c_tree.specs.ValidProgram.{is_function_number, is_static_object, is_main, is_main_signature}
use Rattle.c_tree.specs.ValidProgram.{is_valid_program}
use Rattle.c_tree.specs.Blocks.{opened, all_of, body_variables, block_variables, switch_variables, first_variables}
use Rattle.source_meaning.proofs.Naming.{IsNamedAs, Names, NamesIfAny, ContentNames, PartsName, InitializerNames}
use Rattle.source_meaning.proofs.Naming.{DeclaredName}
use Rattle.source_meaning.proofs.Naming.{FirstNames, ReturnNames, StatementNames, StatementsName, ItemsName, kinds_in}
use Rattle.source_meaning.proofs.Naming.{names_of, FunctionNames, FunctionsName, file_scope, StaticsName, NamesObjects}
use Rattle.source_meaning.proofs.ValidNames.{both, three, five, six, never, same_kind, Agree, object_named, plain_names}
use Rattle.source_meaning.proofs.ValidNames.{named_within, names}

-- a block that declares some variables
within_agree : {scope : valid.Scope} {sc : Scope} (numbers : List ℕ) → Agree scope sc
    → Agree (within scope numbers) (within sc numbers)
within_agree {scope = scope} numbers g = record {
  static = g.static;
  all = g.all;
  variables = ap (λ vs. opened numbers 0 vs scope.variables) g.all ∙ ap (opened numbers 0 _) g.variables;
  functions = g.functions;
  types = g.types;
  result = g.result;
}

module _ {scope : valid.Scope} {sc : Scope} (g : Agree scope sc) where
  pub condition_names : (e : Expression) → is_condition scope e ≡ true → Names sc e
  condition_names e h = names g e (both (is_valid scope e) (is_scalar (kind_of e)) h).0

  pub content_names : (size offset : ℕ) (content : Content) → is_content scope content ≡ true
      → nat_le (offset + content_size content) size ≡ true → ContentNames sc size offset content
  content_names size offset (value_content e) h fits = (
    names g e (both (is_valid scope e) (is_value (kind_of e)) h).0,
    leb-true (offset + size_of_kind (kind_of e))
        size fits,
  )
  content_names size offset (literal_content bytes) h fits = leb-true (offset + length bytes) size fits

  pub parts_names : (size : ℕ) (parts : List Part) → are_parts scope size parts ≡ true → PartsName sc size parts
  parts_names size [] h = tt
  parts_names size (p ∷ ps) h =
      let e = both (is_part scope size p) (are_parts scope size ps) h in
      let q = both (is_content scope p.content) (nat_le (p.offset + content_size p.content) size) e.0 in
      (content_names size p.offset p.content q.0 q.1, parts_names size ps e.1)

  pub initializer_names : (x : ℕ) (i : Option Initializer) → is_initializer scope x i ≡ true → InitializerNames sc x i
  initializer_names x None h = tt
  initializer_names x (Some (of_plain e)) h = let q = both (is_valid scope e) (is_plain scope x (kind_of e)) h in
      (names g e q.0, plain_names g x (kind_of e) q.1)
  initializer_names x (Some (of_object parts)) h =
      let v = valid.variable_at scope x in
      let e = both v.is_object (are_parts scope (size_of_kind v.kind) parts) h in
      (v.kind, object_named g x e.0, parts_names (size_of_kind v.kind) parts e.1)

  pub declared_names : (ds : List DeclaredVariable) → are_declared scope ds ≡ true → DeclaredName sc ds
  declared_names [] h = tt
  declared_names (d ∷ ds) h = let e = both (is_initializer scope d.variable d.initializer) (are_declared scope ds) h in
      (initializer_names d.variable d.initializer e.0, declared_names ds e.1)

  pub first_names : (f : First) → is_first scope f ≡ true → FirstNames sc f
  first_names nothing h = tt
  first_names (first_expression e) h = names g e h
  first_names (first_declaration ds) h = declared_names ds h

  pub condition_if : (e : Option Expression) → is_condition_if scope e ≡ true → NamesIfAny sc e
  condition_if None h = tt
  condition_if (Some e) h = condition_names e h

  pub expression_if : (e : Option Expression) → is_expression_if scope e ≡ true → NamesIfAny sc e
  expression_if None h = tt
  expression_if (Some e) h = names g e h

  pub return_names : (e : Option Expression) → is_return scope e ≡ true → ReturnNames sc e
  return_names None h = sym g.result ∙ same_kind scope.result Void h
  return_names (Some e) h =
      let q = three (is_valid scope e) (is_kind (kind_of e) scope.result) (is_value (kind_of e)) h in
      (names g e q.0, same_kind (kind_of e) scope.result q.1 ∙ g.result)

mutual
  pub statement_names : {scope : valid.Scope} {sc : Scope} (g : Agree scope sc) (inside : Inside) (s : Statement)
      → is_statement scope inside s ≡ true → StatementNames sc s
  statement_names g inside (expression_statement e) h = names g e h
  statement_names g inside empty h = tt
  statement_names g inside (declaration ds) h = declared_names g ds h
  statement_names g inside (block line body) h = row_names (within_agree (block_variables body) g) inside body h
  statement_names {scope = scope} g inside (if_then e s) h =
      let q = three (is_condition scope e) (is_statement scope inside s) _ h in
      (condition_names g e q.0, statement_names g inside s q.1)
  statement_names {scope = scope} g inside (if_else e s other) h =
      let q = five (is_condition scope e) (is_statement scope inside s) _ (is_statement scope inside other) _ h in
      (condition_names g e q.0, statement_names g inside s q.1, statement_names g inside other q.3)
  statement_names {scope = scope} g inside (while_do e s) h =
      let q = three (is_condition scope e) (is_statement scope in_loop s) _ h in
      (condition_names g e q.0, statement_names g in_loop s q.1)
  statement_names {scope = scope} g inside (do_while s e) h =
      let q = three (is_statement scope in_loop s) _ (is_condition scope e) h in
      (statement_names g in_loop s q.0, condition_names g e q.2)
  statement_names {scope = scope} g inside (for line start test next s) h =
      let d = within scope (first_variables start) in
      let a = within_agree (first_variables start) g in
      let q = five (is_first d start) (is_condition_if d test) (is_expression_if d next) (is_statement d in_loop s) _
      h in
      (first_names a start q.0, condition_if a test q.1, expression_if a next q.2, statement_names a in_loop s q.3)
  statement_names {scope = scope} g inside (switch e line is) h =
      let q = five (is_valid scope e) _ _ _ (are_items (within scope (switch_variables is)) (in_switch inside) is) h in
      (names g e q.0, item_names (within_agree (switch_variables is) g) (in_switch inside) is q.4)
  statement_names g inside break h = tt
  statement_names g inside continue h = tt
  statement_names g inside (return e) h = return_names g e h

  pub row_names : {scope : valid.Scope} {sc : Scope} (g : Agree scope sc) (inside : Inside) (ss : Statements)
      → are_statements scope inside ss ≡ true → StatementsName sc ss
  row_names g inside no_statements h = tt
  row_names {scope = scope} g inside (statements s ss) h =
      let q = both (is_statement scope inside s) (are_statements scope inside ss) h in
      (statement_names g inside s q.0, row_names g inside ss q.1)

  pub item_names : {scope : valid.Scope} {sc : Scope} (g : Agree scope sc) (inside : Inside) (is : SwitchItems)
      → are_items scope inside is ≡ true → ItemsName sc is
  item_names g inside no_items h = tt
  item_names {scope = scope} g inside (items labels s is) h =
      let q = both (is_statement scope inside s) (are_items scope inside is) h in
      (statement_names g inside s q.0, item_names g inside is q.1)

-- the scopes of a program agree

later : (n m : ℕ) → nat_lt (suc n) (suc m) ≡ true → nat_lt n m ≡ true
later n m e = lt-ltb n m (let lt = ltb-true (suc n) (suc m) e in omega arith)

static_at : (ks : List Kind) (n : ℕ) (k : Kind) → nat_lt n (length ks) ≡ true
    → is_named_as (get_or ks n Void) k ≡ true → IsNamedAs (static_kind ks n) k
static_at [] n k lt e = let never = ltb-true n 0 lt in absurd (omega arith)
static_at (j ∷ ks) zero k lt e = named_within j k e
static_at (j ∷ ks) (suc n) k lt e = static_at ks n k (later n (length ks) lt) e

-- a scope of validity names what is there
pub agree_same : (scope : Scope) → Agree scope scope
agree_same scope = record {
  static = λ n k e. let q = both (nat_lt n (length scope.statics)) _ e in static_at scope.statics n k q.0 q.1;
  all = refl;
  variables = refl;
  functions = refl;
  types = refl;
  result = refl;
}

module _ (p : Program) where
  agree : (all variables : List Variable) (result : Kind)
      → Agree (scope_in p all variables result) (scope_in p all variables result)
  agree all variables result = agree_same (scope_in p all variables result)

  parameter_kinds : (vs : List Variable) (ks : List Kind) → are_parameters vs ks ≡ true → kinds_in vs ≡ ks
  parameter_kinds [] [] e = refl
  parameter_kinds [] (k ∷ ks) e = never e
  parameter_kinds (v ∷ vs) [] e = never e
  parameter_kinds (v ∷ vs) (k ∷ ks) e =
      let q = three (is_kind v.kind k) (is_value k) (are_parameters vs ks) e in ap (λ x. x ∷ kinds_in vs)
      (same_kind v.kind k q.0) ∙ ap (λ xs. k ∷ xs) (parameter_kinds vs ks q.2)

  pub function_names : (n : ℕ) (f : Function) → is_function p n f ≡ true → FunctionNames (names_of p) f
  function_names n f e =
      let q = six _ (are_parameters f.parameters (signature_at p f.type_number).parameters) _ _
      (are_statements (function_scope p f) (record { may_break = false; may_continue = false }) f.body) _ e in
      record {
        body = row_names (agree (all_of f) (f.parameters ++ body_variables f) (signature_at p f.type_number).result)
            (record { may_break = false; may_continue = false }) f.body q.4;
        parameters = parameter_kinds f.parameters (signature_at p f.type_number).parameters q.1;
      }

  functions_names : (n : ℕ) (fs : List Function) → are_functions p n fs ≡ true → FunctionsName (names_of p) fs
  functions_names n [] e = tt
  functions_names n (f ∷ fs) e = let q = both (is_function p n f) (are_functions p (suc n) fs) e in
      (function_names n f q.0, functions_names (suc n) fs q.1)

  static_parts : (o : StaticObject) → is_static_object p o ≡ true → name_variables o.parts ≡ false
      → PartsName (file_scope (names_of p)) (size_of_kind o.kind) o.parts
  static_parts o h none =
      let q = three (has_size o.kind) (is_function_number p o.function)
      (are_parts (static_scope p o) (size_of_kind o.kind) o.parts) h in
      parts_names (agree [] [] Void) (size_of_kind o.kind) o.parts
      (subst (λ b. are_parts
      (let vs = if b then variables_of_function p.functions o.function else [] in scope_in p vs vs Void)
      (size_of_kind o.kind) o.parts ≡ true) none q.2)

  statics_names : (os : List StaticObject) → list_all (is_static_object p) os ≡ true
      → StaticsName (file_scope (names_of p)) os
  statics_names [] e = tt
  statics_names (o ∷ os) e =
      let q = both (is_static_object p o) (list_all (is_static_object p) os) e in
      (static_parts o q.0, statics_names os q.1)

  none_taken : (ks : List Kind) → (length ks == 0) ≡ true → ks ≡ []
  none_taken [] e = refl
  none_taken (k ∷ ks) e = let same = eqb-true (length (k ∷ ks)) 0 e in absurd (omega arith)

  pub valid_names : is_valid_program p ≡ true → NamesObjects p
  unfolding is_valid_program
  valid_names e =
      let q = five (list_all (is_function_type p) p.function_types) (are_all_different p.function_types)
      (list_all (is_static_object p) p.statics) (are_functions p 0 p.functions) (is_main p) e in
      let m = both (has_number p.functions p.main) (is_main_signature (signature_in (names_of p).functions p.main))
      q.4 in
      let t = both _ (length (signature_in (names_of p).functions p.main).parameters == 0) m.1 in
      record {
        statics = statics_names p.statics q.2;
        functions = functions_names 0 p.functions q.3;
        main = none_taken _
            t.1;
      }
