-- Definitions of functions keep names with linkage those of objects and functions whose types have their sizes too.
use Rattle.std.proofs.Common.{◌≡◌, ℕ, true, false, sym, ◌∙◌, subst, List}
use Rattle.std.specs.Prelude.{Ok, Err}
use Rattle.c_syntax.specs.Statements as t
use Rattle.c_tree.specs.declared.c_type.TypeWord.{TypeWord}
use Rattle.c_tree.specs.declared.program.Variable.{Variable}
use Rattle.c_tree.specs.Statements.{DeclaredVariable, Statements}
use Rattle.c_faults.specs.Answer.{Answer, ◌>>=◌}
use Rattle.c_scope.specs.Names.{Name, closed, declared}
use Rattle.c_scope.specs.Names as names
use Rattle.c_scope.specs.Parameters.{ParameterScope}
use Rattle.c_unit_typing.specs.Declarations.{declaration}
use Rattle.c_unit_typing.specs.Files.{File}
use Rattle.c_unit_typing.specs.Statements.{block_items}
use Rattle.c_unit_typing.specs.Units.{around_body, entered, external}
use Rattle.c_unit_typing.specs.Units.{left, parameters_in}
use Rattle.typing_laws.specs.Validity.Sound.{IsFormed}
use Rattle.typing_laws.specs.Declarators.Given.{IsParameterScope}
use Rattle.typing_laws.proofs.Declarators.Marks.{type_extends}
use Rattle.typing_laws.specs.Scopes.Leaving.{FileLeads, Leading}
use Rattle.typing_laws.specs.Scopes.Regular.{is_regular_external}
use Rattle.typing_laws.proofs.Scopes.Files.{entered_leads, inside, inside_formed}
use Rattle.typing_laws.proofs.Scopes.Leading.{names_are}
use Rattle.typing_laws.proofs.Scopes.Statements.{items_lead, IfFileBehind}
use Rattle.program_laws.specs.Functions.Entities.{IfContinues}
use Rattle.program_laws.proofs.Functions.Continuing.{items_continue}
use Rattle.program_laws.specs.Names.Linked.{AreFilled, IsFilled}
use Rattle.program_laws.proofs.Names.Filled.{IfFileFilled, declaration_filled, declarator_filled}
use Rattle.program_laws.proofs.Names.Filled.{extended_filled}
use Rattle.program_laws.proofs.Names.Filled.{still_filled}
use Rattle.typing_laws.proofs.Scopes.Definitions.{DefinitionWalk, definition_walks}

abbrev KeepFilled : File → File → Type 0
KeepFilled f g = AreFilled f.state.environment → AreFilled g.state.environment

-- behind the block of a function names stand for what they did before it

module _ (f : File) (formed : IsFormed f.state) (n : ℕ) (p : ParameterScope) (is : IsParameterScope f.state p)
    (type : List TypeWord) where
  pub left_names : (g : File) → FileLeads (entered n type p f) g → (name : Name)
      → names.meaning name (closed g.state.environment.names) ≡ names.meaning name f.state.environment.names
  left_names g h =
      let inner = entered_leads f formed n p is type 0 in
      names_are f.state g.state (h.state.outer ∙ inner.outer) (h.state.outer_tags ∙ inner.outer_tags)

  left_filled : (line : ℕ) (ps : List Variable) (a : Answer (File × Statements)) → Leading (entered n type p f) a
      → IfContinues (entered n type p f) a
      → IfFileBehind KeepFilled f (a >>= λ r. Ok (left line type ps r, tt {0}))
  left_filled line ps (Ok r) h k = λ filled. record {
    each = λ name d t e l.
        still_filled d t (entered n type p f).state.environment.entities r.0.state.environment.entities name k
        (subst (λ z. IsFilled d t (declared name z))
        (sym (type_extends false type (inside n p f) (inside_formed f formed n p is)).entities)
        (filled.each name d t (sym (left_names r.0 h name) ∙ e) l));
  }
  left_filled line ps (Err e) h k = tt

-- a definition

filled_walk : DefinitionWalk KeepFilled
filled_walk = record {
  file_same = λ f filled. filled;
  file_on = λ f g h a b filled. b (a filled);
  in_file = λ f t h. extended_filled f.state t h;
  declared = λ f d is. declarator_filled f.state.environment d is;
  block = λ f formed n p is type line xs c.
      (let begun = entered n type p f in
      let inner = (entered_leads f formed n p is type line).formed in
      left_filled f formed n p is type line (parameters_in begun.state p.names)
      (block_items (around_body type) xs begun) (items_lead (around_body type) xs c begun inner)
      (items_continue (around_body type) xs c begun inner));
}

filled_by : (f : File) → AreFilled f.state.environment → (a : Answer (File × Unit {0})) → IfFileBehind KeepFilled f a
    → IfFileFilled a
filled_by f filled (Ok r) h = h filled
filled_by f filled (Err e) h = tt

declared_filled : (a : Answer (File × List DeclaredVariable)) → IfFileFilled a
    → IfFileFilled (a >>= λ r. Ok (r.0, tt {0}))
declared_filled (Ok r) h = h
declared_filled (Err e) h = tt

pub external_filled : (e : t.External) → is_regular_external e ≡ true → (f : File) → IsFormed f.state
    → AreFilled f.state.environment → IfFileFilled (external e f)
external_filled (t.definition specs d b) c f formed filled =
    filled_by f filled (external (t.definition specs d b) f)
    (definition_walks KeepFilled filled_walk specs d b c f formed)
external_filled (t.declaration d) c f formed filled =
    declared_filled (declaration false d f) (declaration_filled false d c f formed filled)
