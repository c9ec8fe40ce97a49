-- Validity in scopes that agree on what they name, where variables are named and where none is.
use Rattle.std.proofs.Common.{◌≡◌, ℕ, Bool, true, false, sym, ap, ◌∙◌, subst, List, [], if◌then◌else◌}
use Rattle.c_tree.specs.declared.expression.Kind.TheVariants as kind
use Rattle.c_tree.specs.declared.program.Variable.{Variable}
use Rattle.c_tree.specs.Tree.{Expression, Expressions, Lvalue}
use Rattle.c_tree.specs.Walk.{any_of, walk_each, walk_lvalue, names_made, names_variable}
use Rattle.c_tree.specs.Statements.{Content, Part}
use Rattle.c_tree.specs.Programs.{Program, StaticObject}
use Rattle.c_tree.specs.Kinds.{size_of_kind}
use Rattle.c_tree.specs.Valid.{Scope, is_valid, are_valid, is_valid_lvalue}
use Rattle.c_tree.specs.ValidProgram.{content_names_variable, name_variables, is_content, is_part, are_parts, scope_in}
use Rattle.c_tree.specs.ValidProgram.{static_scope, variables_of_function}
use Rattle.program_laws.specs.Scopes.Scopes.{AreAmong, AreOfOneProgram}
use Rattle.program_laws.proofs.Scopes.Kept.{Known, with, valid_kept, each_kept, lvalue_kept, content_kept, part_kept}
use Rattle.program_laws.proofs.Scopes.Kept.{parts_kept}

is_with : (a b : Scope) → AreOfOneProgram a b → with a b.all b.variables b.result ≡ b
is_with a b are =
    ap (λ s. record (with a b.all b.variables b.result) { statics = s }) are.statics
    ∙ ap (λ f. record (with a b.all b.variables b.result) { statics = b.statics; functions = f }) are.functions
    ∙ ap (λ t. record b { types = t }) are.types

known : {named : Bool} {vs ws : List Variable} → AreAmong vs ws → Known vs ws named
known are = record { by = λ e. are }

unknown : {named : Bool} (vs ws : List Variable) → named ≡ false → Known vs ws named
unknown vs ws unnamed = record { by = λ e. let never = sym unnamed ∙ e in cc }

module _ (a b : Scope) (are : AreOfOneProgram a b) where
  valid_in : (e : Expression) → Known a.variables b.variables (names_variable e) → is_valid a e ≡ true
      → is_valid b e ≡ true
  valid_in e h is =
      subst (λ s. is_valid s e ≡ true) (is_with a b are) (valid_kept a b.all b.variables b.result e h is)

  row_in : (es : Expressions) → Known a.variables b.variables (any_of (walk_each names_made es))
      → are_valid a es ≡ true → are_valid b es ≡ true
  row_in es h is =
      subst (λ s. are_valid s es ≡ true) (is_with a b are) (each_kept a b.all b.variables b.result es h is)

  lvalue_in : (p : Lvalue) → Known a.variables b.variables (walk_lvalue names_made p)
      → is_valid_lvalue a p ≡ true → is_valid_lvalue b p ≡ true
  lvalue_in p h is =
      subst (λ s. is_valid_lvalue s p ≡ true) (is_with a b are) (lvalue_kept a b.all b.variables b.result p h is)

  content_in : (c : Content) → Known a.variables b.variables (content_names_variable c) → is_content a c ≡ true
      → is_content b c ≡ true
  content_in c h is =
      subst (λ s. is_content s c ≡ true) (is_with a b are) (content_kept a b.all b.variables b.result c h is)

  part_in : (size : ℕ) (p : Part) → Known a.variables b.variables (content_names_variable p.content)
      → is_part a size p ≡ true → is_part b size p ≡ true
  part_in size p h is =
      subst (λ s. is_part s size p ≡ true) (is_with a b are) (part_kept a b.all b.variables b.result size p h is)

  parts_in : (size : ℕ) (ps : List Part) → Known a.variables b.variables (name_variables ps)
      → are_parts a size ps ≡ true → are_parts b size ps ≡ true
  parts_in size ps h is =
      subst (λ s. are_parts s size ps ≡ true) (is_with a b are) (parts_kept a b.all b.variables b.result size ps h is)

-- where each variable that can be named in the one can be named in the other

pub opened_expression : (a b : Scope) → AreOfOneProgram a b → AreAmong a.variables b.variables → (e : Expression)
    → is_valid a e ≡ true → is_valid b e ≡ true
opened_expression a b are vs e = valid_in a b are e (known vs)

pub opened_row : (a b : Scope) → AreOfOneProgram a b → AreAmong a.variables b.variables → (es : Expressions)
    → are_valid a es ≡ true → are_valid b es ≡ true
opened_row a b are vs es = row_in a b are es (known vs)

pub opened_lvalue : (a b : Scope) → AreOfOneProgram a b → AreAmong a.variables b.variables → (p : Lvalue)
    → is_valid_lvalue a p ≡ true → is_valid_lvalue b p ≡ true
opened_lvalue a b are vs p = lvalue_in a b are p (known vs)

pub opened_content : (a b : Scope) → AreOfOneProgram a b → AreAmong a.variables b.variables → (c : Content)
    → is_content a c ≡ true → is_content b c ≡ true
opened_content a b are vs c = content_in a b are c (known vs)

pub opened_part : (a b : Scope) → AreOfOneProgram a b → AreAmong a.variables b.variables → (size : ℕ) (p : Part)
    → is_part a size p ≡ true → is_part b size p ≡ true
opened_part a b are vs size p = part_in a b are size p (known vs)

pub opened_parts : (a b : Scope) → AreOfOneProgram a b → AreAmong a.variables b.variables
    → (size : ℕ) (ps : List Part) → are_parts a size ps ≡ true → are_parts b size ps ≡ true
opened_parts a b are vs size ps = parts_in a b are size ps (known vs)

-- where no variable is named

pub unnamed_expression : (a b : Scope) → AreOfOneProgram a b → (e : Expression) → names_variable e ≡ false
    → is_valid a e ≡ true → is_valid b e ≡ true
unnamed_expression a b are e unnamed = valid_in a b are e (unknown a.variables b.variables unnamed)

pub unnamed_content : (a b : Scope) → AreOfOneProgram a b → (c : Content) → content_names_variable c ≡ false
    → is_content a c ≡ true → is_content b c ≡ true
unnamed_content a b are c unnamed = content_in a b are c (unknown a.variables b.variables unnamed)

pub unnamed_part : (a b : Scope) → AreOfOneProgram a b → (size : ℕ) (p : Part)
    → content_names_variable p.content ≡ false → is_part a size p ≡ true → is_part b size p ≡ true
unnamed_part a b are size p unnamed = part_in a b are size p (unknown a.variables b.variables unnamed)

pub unnamed_parts : (a b : Scope) → AreOfOneProgram a b → (size : ℕ) (ps : List Part) → name_variables ps ≡ false
    → are_parts a size ps ≡ true → are_parts b size ps ≡ true
unnamed_parts a b are size ps unnamed = parts_in a b are size ps (unknown a.variables b.variables unnamed)

-- static objects

chosen : (vs ws : List Variable) (named : Bool) → (named ≡ true → AreAmong vs ws)
    → Known vs (if named then ws else []) named
chosen vs ws true h = record { by = h }
chosen vs ws false h = record { by = λ e. absurd cc }

pub static_parts : (p : Program) (o : StaticObject) (a : Scope) → AreOfOneProgram a (scope_in p [] [] kind.Void)
    → (name_variables o.parts ≡ true → AreAmong a.variables (variables_of_function p.functions o.function))
    → are_parts a (size_of_kind o.kind) o.parts ≡ true
    → are_parts (static_scope p o) (size_of_kind o.kind) o.parts ≡ true
static_parts p o a are h =
    parts_in a (static_scope p o)
    (record { statics = are.statics; functions = are.functions; types = are.types }) (size_of_kind o.kind) o.parts
    (chosen a.variables (variables_of_function p.functions o.function) (name_variables o.parts) h)
