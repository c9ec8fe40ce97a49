-- What names stand for where the block of a function begins (C99 6.2.1, 6.2.2, 6.9.1).
use Rattle.std.proofs.Common.{◌≡◌, inl, inr, ℕ, Bool, true, false, refl, sym, ap, ◌∙◌, subst, List, [], ◌∷◌}
use Rattle.std.proofs.Common.{Option, Some, None}
use Rattle.std.specs.Prelude.{Ok}
use Rattle.c_syntax.specs.Statements as t
use Rattle.c_tree.specs.declared.c_type.TypeWord.{TypeWord}
use Rattle.c_tree.specs.Valid.{Scope}
use Rattle.c_scope.specs.declared.meaning.Designated.{Designated}
use Rattle.c_scope.specs.declared.meaning.Designated.TheVariants as what
use Rattle.c_scope.specs.declared.meaning.Entity.{Entity}
use Rattle.c_scope.specs.declared.meaning.Meaning.{Meaning}
use Rattle.c_scope.specs.declared.meaning.Meaning.TheVariants as meaning
use Rattle.c_scope.specs.Declaring.{is_linked}
use Rattle.c_scope.specs.Names.{Name, declared}
use Rattle.c_scope.specs.Names as names
use Rattle.c_typing_state.specs.State.{State, extents}
use Rattle.c_unit_typing.specs.Files.{Definition, File}
use Rattle.c_unit_typing.specs.Programs.{final_type, program_of}
use Rattle.c_unit_typing.specs.Units.{entered, file_with, left, parameters_in}
use Rattle.typing_laws.specs.Validity.Names.{IsDesignated, IsMeant, kind_among}
use Rattle.typing_laws.specs.Validity.Sound.{IsFormed, Knows}
use Rattle.typing_laws.proofs.Declarators.Marks.{type_extends}
use Rattle.typing_laws.specs.Scopes.Defined.{define_functions}
use Rattle.typing_laws.specs.Scopes.Leaving.{Grows}
use Rattle.typing_laws.specs.Scopes.Regular.{are_regular_externals}
use Rattle.typing_laws.proofs.Scopes.Files.{inside, inside_formed}
use Rattle.program_laws.specs.Bodies.Defined.{Defines}
use Rattle.program_laws.specs.Bodies.Standing.{EntitiesLead, composed}
use Rattle.program_laws.specs.Functions.Entities.{Fills, FillsWord, without_sizes}
use Rattle.program_laws.proofs.Functions.Entities.{fills_on, open_array, same_behind}
use Rattle.program_laws.specs.Names.Known.{IsKnown}
use Rattle.program_laws.specs.Names.Linked.{AreFilled, HaveSizes, IsOf}
use Rattle.program_laws.proofs.Names.Definitions.{left_names}
use Rattle.program_laws.proofs.Names.Held.{holds_filled, holds_final}
use Rattle.program_laws.proofs.Names.Linked.{composed_fills, function_meant, object_kind_at}
use Rattle.program_laws.proofs.Names.Meant.{static_held}

-- types that only lack sizes have the same words but for these

filled_by : (v w : TypeWord) (s t : List TypeWord) → FillsWord v w → without_sizes s ≡ without_sizes t
    → without_sizes (v ∷ s) ≡ without_sizes (w ∷ t)
filled_by v w s t (inl e) h = same_behind v s t h ∙ ap (λ z. without_sizes (z ∷ t)) (sym e)
filled_by v w s t (inr e) h = sym (open_array v w s t e.1.0 e.1.1.0 e.0 e.1.1.1 (sym h))

pub fills_words : (s t : List TypeWord) → Fills s t → without_sizes s ≡ without_sizes t
fills_words [] [] h = refl
fills_words [] (w ∷ t) h = absurd cc
fills_words (v ∷ s) [] h = absurd cc
fills_words (v ∷ s) (w ∷ t) h = filled_by v w s t h.0 (fills_words s t h.1)

module _ (objects : Option (List (List Bool))) (end : ℕ) (es : List t.External) (f : File)
    (regular : are_regular_externals es ≡ true) (define : define_functions es ≡ true)
    (accepted : file_with objects end es ≡ Ok f) (whole : HaveSizes f) (scope : Scope)
    (of : IsOf (program_of f) scope) where
  -- an object or function of the file, by a type that only lacks sizes
  pub entity_meant : (s : State) → f.state.environment.facts ≡ s.environment.facts → (name : Name) (y : Entity)
      → declared name f.state.environment.entities ≡ Some y → (type : List TypeWord) → Fills type y.c_type
      → (d : Designated) → y.what ≡ d → is_linked d ≡ true → IsDesignated scope (extents f.state) s d type
  entity_meant s facts name y is type fills (what.Object n) e l =
      let last = extents f.state in
      let k = kind_among last (final_type last y.c_type) in
      let size = whole.linked name y n is e in
      static_held scope last n k type
      (object_kind_at objects end es f regular define accepted whole scope of name y n is e) size
      (holds_filled last k type y.c_type fills (holds_final last y.c_type size))
  entity_meant s facts name y is type fills (what.Function n) e l = λ known.
      function_meant objects end es f regular define accepted whole scope of s facts name y n is e type
      (fills_words type y.c_type fills) known
  entity_meant s facts name y is type fills (what.Library r) e l = tt
  entity_meant s facts name y is type fills (what.Static n) e l = absurd cc
  entity_meant s facts name y is type fills (what.Variable n) e l = absurd cc

  module _ (definition : Definition) (k : IsKnown f definition) where
    abbrev d : Defines k.definition.before k.definition.behind
    d = k.definition.defines

    abbrev begun : File
    begun = entered d.number d.type d.parameters d.before

    abbrev closed_block : File
    closed_block = left d.line d.type (parameters_in begun.state d.parameters.names) (d.end, d.body)

    grown : Grows closed_block f
    grown = subst (λ g. Grows g f) d.is k.definition.grows

    led : EntitiesLead closed_block.state.environment f.state.environment
    led = subst (λ g. EntitiesLead g.state.environment f.state.environment) d.is k.definition.entities

    filled : AreFilled closed_block.state.environment
    filled = subst (λ g. AreFilled g.state.environment) d.is k.filled

    formed : IsFormed d.before.state
    formed = d.leads.state.formed

    facts : f.state.environment.facts ≡ d.before.state.environment.facts
    facts =
        grown.facts ∙ d.typed.leads.state.facts
        ∙ (type_extends false d.type (inside d.number d.parameters d.before)
        (inside_formed d.before formed d.number d.parameters d.scope)).facts

    named_meant : (name : Name) (w : Designated) (type : List TypeWord)
        → names.meaning name d.before.state.environment.names ≡ Some (meaning.Named w type)
        → IsDesignated scope (extents f.state) d.before.state w type
    named_meant name w type e =
        let link = d.names.linked name w type e in
        let at = filled.each name w type
        (left_names d.before formed d.number d.parameters d.scope d.type d.end d.typed.leads name ∙ e) link in
        let last = led.each name at.entity at.is in
        entity_meant d.before.state facts name last.entity last.is type
        (subst (Fills type) (sym last.type)
        (fills_on type at.entity.c_type (composed at.entity.c_type last.others) at.fills
        (composed_fills at.entity.c_type last.others)))
        w (last.same ∙ at.same) link

    name_meant : (name : Name) (m : Option Meaning) → names.meaning name d.before.state.environment.names ≡ m
        → IsMeant scope (extents f.state) d.before.state m
    name_meant name None e = tt
    name_meant name (Some (meaning.Typedef type)) e = tt
    name_meant name (Some (meaning.Constant w)) e = formed.constants name w e
    name_meant name (Some (meaning.Named w type)) e = named_meant name w type e

    pub definition_knows : Knows scope (extents f.state) d.before.state
    definition_knows = record {
      names = λ name. name_meant name (names.meaning name d.before.state.environment.names) refl;
      members = d.leads.state.members k.members;
    }
