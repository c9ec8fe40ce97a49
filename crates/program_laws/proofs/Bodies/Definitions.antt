-- Definitions of functions are typed as their declarators and their blocks say, and the names that they declare stand
-- for them (C99 6.9.1).
use Rattle.std.proofs.Common.{◌≡◌, ◌⊎◌, inl, inr, ℕ, Bool, true, false, refl, sym, ap, ◌∙◌, subst, List, [], ◌∷◌, ◌++◌}
use Rattle.std.proofs.Common.{Option, Some, None, if◌then◌else◌}
use Rattle.std.proofs.lemmas.Bool.{false≢true}
use Rattle.std.specs.Prelude.{Ok, Err, is_some}
use Rattle.c_syntax.specs.Formed.{defines_function}
use Rattle.c_syntax.specs.Formed as formed
use Rattle.c_syntax.specs.Tree.{Declarator, Specifiers}
use Rattle.c_syntax.specs.Statements as t
use Rattle.c_tree.specs.declared.c_type.TypeWord.{TypeWord}
use Rattle.c_tree.specs.Blocks.{block_variables, each_variables}
use Rattle.c_tree.specs.Statements.{Statements}
use Rattle.c_faults.specs.declared.fault.Rule.TheVariants.{MisplacedStorage}
use Rattle.c_faults.specs.Answer.{Answer, violates, ◌>>=◌}
use Rattle.c_declarators.specs.Derivations.{built}
use Rattle.c_call_rules.specs.FunctionTypes.{result_type}
use Rattle.c_scope.specs.declared.meaning.Designated.{Designated}
use Rattle.c_scope.specs.declared.meaning.Meaning.{Meaning}
use Rattle.c_scope.specs.Declaring.{judged as judged_declarator, Declaration, is_linked, is_typedef}
use Rattle.c_scope.specs.Environment.{Environment, surroundings}
use Rattle.c_scope.specs.Names.{Name, declared, found, is_empty, or_else, around, closed}
use Rattle.c_scope.specs.Names as names
use Rattle.c_scope.specs.Parameters.{ParameterScope}
use Rattle.c_scope.specs.declared.meaning.Designated.TheVariants as what
use Rattle.c_scope.specs.declared.meaning.Meaning.TheVariants as meaning
use Rattle.c_declarator_typing.specs.Declarators.{Shape, built_in}
use Rattle.c_declarator_typing.specs.Specifications.{Specification}
use Rattle.c_typing_state.specs.State.{State, extents, judged, ◌>>>◌}
use Rattle.c_expression_typing.specs.Typed.{shape, specification}
use Rattle.c_unit_typing.specs.Declarations.{stored_once}
use Rattle.c_unit_typing.specs.Files.{File, FileTyping, in_state, ◌~>◌}
use Rattle.c_unit_typing.specs.Statements.{block_items}
use Rattle.c_unit_typing.specs.Units.{around_body, body_of, defined_as, defined_by, definition, definition_of, entered}
use Rattle.c_unit_typing.specs.Units.{left, parameters_in, scope_or_none, with_body}
use Rattle.typing_laws.specs.Validity.More.{AreMore}
use Rattle.typing_laws.specs.Validity.Regular.{are_regular_specifiers, is_regular_declarator}
use Rattle.typing_laws.specs.Validity.Sound.{IsFormed, is_sized_array}
use Rattle.typing_laws.specs.Validity.Steps.{Structures}
use Rattle.typing_laws.specs.Declarators.Extending.{Extending, IsNew}
use Rattle.typing_laws.specs.Declarators.Given.{HasScope, IsParameterScope, IsShapeOf, IsSpecified, anything}
use Rattle.typing_laws.proofs.Declarators.Marks.{type_extends}
use Rattle.typing_laws.proofs.Declarators.Parameters.{found_last, within_block}
use Rattle.typing_laws.proofs.Declarators.Recursion.{scope_kept, shape_extends}
use Rattle.typing_laws.specs.Declarations.Binding.{IfDeclared, bound_meaning}
use Rattle.typing_laws.proofs.Declarations.Judged.{answered}
use Rattle.typing_laws.proofs.Declarations.Named.{HasNameOf, named_as, shape_named}
use Rattle.typing_laws.specs.Scopes.Leaving.{FileLeads}
use Rattle.typing_laws.specs.Scopes.Regular.{are_regular_block_items, is_regular_block}
use Rattle.typing_laws.proofs.LaidOut.Files.{entered_laid}
use Rattle.typing_laws.proofs.Scopes.Files.{defined_as_declares, entered_leads, inside, inside_formed}
use Rattle.typing_laws.proofs.Scopes.Files.{left_grows}
use Rattle.typing_laws.proofs.Scopes.Files.{scope_is, stored_extends}
use Rattle.typing_laws.proofs.Scopes.Leading.{bound_leads, file_on, file_same, leads_by, names_are, outer_is}
use Rattle.typing_laws.proofs.Scopes.Leading.{state_leads}
use Rattle.typing_laws.specs.Layouts.Listed.{HasArrays, IfLaidOut, IsLaidOut}
use Rattle.typing_laws.proofs.Layouts.Arrays.{arrays_kept}
use Rattle.typing_laws.proofs.Layouts.Behind.{shape_behind}
use Rattle.program_laws.specs.Bodies.Defined.{AreValid, Defines, DefinesNothing, IfDefined, IsBody}
use Rattle.program_laws.specs.Bodies.Parameters.{AreParameters, IsOutside}
use Rattle.program_laws.specs.Bodies.Standing.{AreLinked, EntitiesLead, IsEntity, IsReady}
use Rattle.program_laws.specs.Bodies.Typed.{IfTyped}
use Rattle.program_laws.specs.Bodies.Types.{is_type}
use Rattle.program_laws.specs.Bodies.Whole.{definition_made}
use Rattle.program_laws.proofs.Bodies.Bodies.{items_valid}
use Rattle.program_laws.proofs.Bodies.Declared.{IfMade, answered_made}
use Rattle.program_laws.proofs.Bodies.Entered.{environment_is}
use Rattle.program_laws.proofs.Bodies.Entities.{StandsLinked, entities_on, entities_same, linked_extended}
use Rattle.program_laws.proofs.Bodies.Laid.{defined_laid, stored_laid}
use Rattle.program_laws.proofs.Bodies.Matching.{TakesParameters, shape_takes}
use Rattle.program_laws.proofs.Bodies.Outside.{declared_outside, extended_outside}
use Rattle.program_laws.proofs.Bodies.Parameters.{IfSays, Says, parameters_kept, shape_says}
use Rattle.program_laws.proofs.Bodies.Signatures.{Takes, built_takes, function_meant, visible_takes}
use Rattle.program_laws.proofs.Bodies.Types.{WholeShape, also_gives, built_type, shape_types, stored_type}
use Rattle.typing_laws.proofs.Common.{IfGives, filed}

-- the scope of a function's parameters

new_stands : (env : Environment) (name : Name) (m : Meaning) → IsNew true m → StandsLinked env name (Some m)
new_stands env name (meaning.Constant w) is d type e l = absurd cc
new_stands env name (meaning.Typedef x) is d type e l = absurd cc
new_stands env name (meaning.Named (what.Variable n) x) is d type e l = not_linked d (the_same e) l
  where
    the_same : Some (meaning.Named (what.Variable n) x) ≡ Some (meaning.Named d type) → what.Variable n ≡ d
    the_same e = cc

    not_linked : (d : Designated) → what.Variable n ≡ d → is_linked d ≡ true → IsEntity d (declared name env.entities)
    not_linked d e l = absurd (false≢true (ap is_linked e ∙ l))
new_stands env name (meaning.Named (what.Object n) x) is d type e l = absurd cc
new_stands env name (meaning.Named (what.Static n) x) is d type e l = absurd cc
new_stands env name (meaning.Named (what.Function n) x) is d type e l = absurd cc
new_stands env name (meaning.Named (what.Library r) x) is d type e l = absurd cc

either_stands : (env : Environment) (name : Name) (a b : Option Meaning)
    → ((m : Meaning) → a ≡ Some m → IsNew true m) → StandsLinked env name b → StandsLinked env name (or_else a b)
either_stands env name None b h g = g
either_stands env name (Some m) b h g = new_stands env name m (h m refl)

module _ (f : File) (formed : IsFormed f.state) (linked : AreLinked f.state.environment) (n : ℕ) (p : ParameterScope)
    (is : IsParameterScope f.state p) where
  inside_linked : AreLinked (inside n p f).environment
  inside_linked = record {
    entities = linked.entities;
    names = λ name.
        either_stands f.state.environment name (declared name p.names)
        (found name (f.state.environment.names.outer ++ f.state.environment.names.current ∷ [])) (is.names name)
        (λ d type e l. linked.names name d type
        (sym (found_last name f.state.environment.names.outer f.state.environment.names.current) ∙ e) l);
  }

  entered_ready : IsLaidOut f.state → (type : List TypeWord) → IsReady (entered n type p f).state
  entered_ready laid type =
      let leads = entered_leads f formed n p is type 0 in
      record {
        formed = leads.formed;
        inner = ap is_empty leads.outer ∙ within_block f.state;
        linked = linked_extended (inside n p f) (entered n type p f).state
            (type_extends false type (inside n p f) (inside_formed f formed n p is)) inside_linked;
        laid = entered_laid f laid n type p is;
      }

-- behind the block names stand for what they did before it

record AreNamesLeft (before end : File) : Type 0 where
  outer : around end.state.environment.names.outer ≡ before.state.environment.names.outer
  names : (name : Name)
      → names.meaning name (closed end.state.environment.names)
      ≡ names.meaning name before.state.environment.names

module _ (before : File) (formed : IsFormed before.state) (number : ℕ) (p : ParameterScope)
    (is : IsParameterScope before.state p) (type : List TypeWord) (end : File)
    (h : FileLeads (entered number type p before) end) where
  names_left : AreNamesLeft before end
  names_left =
      let inner = entered_leads before formed number p is type 0 in
      let outer = h.state.outer ∙ inner.outer in
      let tags = h.state.outer_tags ∙ inner.outer_tags in
      record {
        outer = outer_is before.state end.state outer tags;
        names = names_are before.state end.state outer tags;
      }

entered_lead : (number : ℕ) (type : List TypeWord) (p : ParameterScope) (before end : File)
    → EntitiesLead (entered number type p before).state.environment end.state.environment
    → EntitiesLead before.state.environment end.state.environment
entered_lead number type p before end h =
    entities_on before.state.environment (entered number type p before).state.environment end.state.environment
    (entities_same before.state.environment (entered number type p before).state.environment
    (ap (λ env. env.entities) (environment_is number type p before))) h

-- a definition

-- with a name, which stands for the function of its number behind it
pub record DefinesNamed (name : Option Name) (f behind : File) : Type 0 where
  pub defines : Defines f behind
  pub own : Name
  pub is : name ≡ Some own
  pub entity : IsEntity (what.Function defines.number) (declared own behind.state.environment.entities)

pub record IsNamed (name : Option Name) (f behind : File) : Type 0 where
  pub outside : IsOutside behind.state
  pub entities : EntitiesLead f.state.environment behind.state.environment
  pub is : DefinesNamed name f behind ⊎ DefinesNothing f behind

abbrev pub IfNamed : Option Name → File → Answer (File × Unit {0}) → Type 0
IfNamed name f (Ok r) = IsNamed name f r.0
IfNamed name f (Err e) = Unit {0}

module _ (name : Option Name) (e before : File) (leads : FileLeads e before)
    (entities : EntitiesLead e.state.environment before.state.environment) (outside : IsOutside before.state)
    (laid : IsLaidOut before.state) (statics : before.statics ≡ e.statics) where
  nothing_named : IsNamed name e before
  nothing_named = record {
    outside = outside;
    entities = entities;
    is = inr (record { definitions = leads.definitions; statics = statics });
  }

  module _ (own : Name) (named : name ≡ Some own) (line number : ℕ) (type : List TypeWord) (p : ParameterScope)
      (is : IsParameterScope before.state p) (numbered : AreParameters (extents before.state) p.variables p.names 0)
      (takes : Takes p.names type)
      (meant : declared own before.state.environment.names.current
      ≡ Some (meaning.Named (what.Function number) type)) where
    abbrev begun : File
    begun = entered number type p before

    abbrev begun_ready : IsReady begun.state
    begun_ready = entered_ready before outside.formed outside.linked number p is laid type

    body_named : (xs : t.BlockItems) → are_regular_block_items xs ≡ true → (r : File × Statements)
        → block_items (around_body type) xs begun ≡ Ok r → IsBody type begun r.0 r.1
        → IsNamed name e (left line type (parameters_in begun.state p.names) r)
    body_named xs c r made h =
        let behind = left line type (parameters_in begun.state p.names) r in
        let same = names_left before outside.formed number p is type r.0 h.leads in
        record {
          outside = record {
            formed = (left_grows before outside.formed number p is type line r.0 r.1 h.leads).formed;
            outer = ap is_empty same.outer ∙ outside.outer;
            variables = refl;
            names = record { linked = λ name d t e. outside.names.linked name d t (sym (same.names name) ∙ e) };
            linked = record {
              entities = h.linked.entities;
              names = λ name d t e. still name d t (sym (same.names name) ∙ e);
            };
            types = record { each = λ name t e. outside.types.each name t (sym (same.names name) ∙ e) };
          };
          entities = entities_on e.state.environment before.state.environment behind.state.environment entities
              (record { each = lead.each });
          is = inl (record {
            defines = record {
              line = line;
              number = number;
              type = type;
              parameters = p;
              before = before;
              leads = leads;
              entities = entities;
              statics = statics;
              scope = is;
              numbered = numbered;
              names = outside.names;
              types = takes.types;
              of = takes.of;
              takes = takes.fits;
              block = xs;
              regular = c;
              ready = begun_ready;
              end = r.0;
              body = r.1;
              items = made;
              typed = h;
              is = refl;
            };
            own = own;
            is = named;
            entity = still own (what.Function number) type
                (ap (λ z. or_else z (found own before.state.environment.names.outer)) meant) refl;
          });
        }
      where
        lead : EntitiesLead before.state.environment r.0.state.environment
        lead = entered_lead number type p before r.0 h.entities

        still : (other : Name) → StandsLinked r.0.state.environment other
            (names.meaning other before.state.environment.names)
        still other d t e l =
            let at = outside.linked.names other d t e l in
            let after = lead.each other at.entity at.is in
            record { entity = after.entity; is = after.is; same = after.same ∙ at.same }

    body_by : (xs : t.BlockItems) → are_regular_block_items xs ≡ true → (a : Answer (File × Statements))
        → block_items (around_body type) xs begun ≡ a
        → IfTyped (result_type 0 type) each_variables block_variables AreValid begun a
        → IfNamed name e (a >>= λ r. Ok (left line type (parameters_in begun.state p.names) r, tt {0}))
    body_by xs c (Ok r) made h = body_named xs c r made h
    body_by xs c (Err x) made h = tt

    block_named : (b : t.Block) → is_regular_block b ≡ true → IfNamed name e (body_of line type p b begun)
    block_named (t.block l xs r) c =
        body_by xs c (block_items (around_body type) xs begun) refl
        (items_valid (around_body type) xs c begun begun_ready)

  module _ (own : Name) (named : name ≡ Some own) (line : ℕ) (o : Option ParameterScope)
      (has : HasScope before.state o)
      (numbered : AreParameters (extents before.state) (scope_or_none o).variables (scope_or_none o).names 0)
      (b : t.Block) (c : is_regular_block b ≡ true) where
    meant_named : (m : Option Meaning) → declared own before.state.environment.names.current ≡ m
        → ((n : ℕ) (type : List TypeWord) → m ≡ Some (meaning.Named (what.Function n) type)
        → Takes (scope_or_none o).names type)
        → IfNamed name e (with_body line o b m before)
    meant_named (Some (meaning.Named (what.Function n) type)) meant takes =
        block_named own named line n type (scope_or_none o) (scope_is before.state o has) numbered
        (takes n type refl) meant b c
    meant_named None meant takes = nothing_named
    meant_named (Some (meaning.Typedef type)) meant takes = nothing_named
    meant_named (Some (meaning.Constant w)) meant takes = nothing_named
    meant_named (Some (meaning.Named (what.Object n) type)) meant takes = nothing_named
    meant_named (Some (meaning.Named (what.Static n) type)) meant takes = nothing_named
    meant_named (Some (meaning.Named (what.Library r) type)) meant takes = nothing_named
    meant_named (Some (meaning.Named (what.Variable n) type)) meant takes = nothing_named

numbers_or : (es : Structures) (o : Option ParameterScope)
    → ((p : ParameterScope) → o ≡ Some p → AreParameters es p.variables p.names 0)
    → AreParameters es (scope_or_none o).variables (scope_or_none o).names 0
numbers_or es None h = refl
numbers_or es (Some p) h = h p refl

-- what is known of a file in which a definition is typed, from its first token on
record IsBehind (e f : File) : Type 0 where
  laid : IsLaidOut f.state
  leads : FileLeads e f
  entities : EntitiesLead e.state.environment f.state.environment
  statics : f.statics ≡ e.statics
  outside : IsOutside f.state

declared_named : (name : Option Name) (e f : File) → IsBehind e f → (d : Declaration) → name ≡ Some d.name
    → (o : Option ParameterScope) (line : ℕ) → HasScope f.state o
    → ((p : ParameterScope) → o ≡ Some p → AreParameters (extents f.state) p.variables p.names 0)
    → is_type d.type ≡ true → Takes (scope_or_none o).names d.type → (b : t.Block) → is_regular_block b ≡ true
    → (a : Answer (State × Option Meaning)) → IfDeclared d f.state a → IfMade d f.state a → IfLaidOut anything a
    → IfNamed name e (a >>= filed f >>= λ r. with_body line o b r.1 r.0)
declared_named name e f is d named o line has numbered whole takes b c (Ok r) h made laid =
    let g = record f { state = r.0 } in
    let env = f.state.environment in
    let on = bound_leads d.name (bound_meaning env d) f.state r.0 h.0.binds h.0.formed in
    let after = declared_outside f.state r.0 d is.outside made.state h.0.binds h.0.formed whole in
    meant_named name e g (file_on e f g is.leads (state_leads f r.0 on))
    (entities_on e.state.environment env r.0.environment is.entities after.lead) after.outside laid.0 is.statics
    d.name named line o (scope_kept f.state r.0 on.longer o has)
    (parameters_kept (extents f.state) (extents r.0) on.more (scope_or_none o).variables (scope_or_none o).names 0
    (numbers_or (extents f.state) o numbered)) b c r.1 (h.0.binds.here ∙ sym h.1)
    (λ n type g. subst (Takes (scope_or_none o).names) (sym (function_meant env d n type (sym g ∙ h.1)))
    (visible_takes (scope_or_none o).names d.type (names.meaning d.name env.names) takes))
declared_named name e f is d named o line has numbered whole takes b c (Err x) h made laid = tt

declarator_made : (d : Declaration) (s : State) (name : Name × ℕ) (line : ℕ) (b : Bool)
    → IfMade d s (if b then violates MisplacedStorage line
    else answered d s name (judged_declarator (surroundings s.environment d) d))
declarator_made d s name line true = tt
declarator_made d s name line false =
    answered_made d s name (judged_declarator (surroundings s.environment d) d) refl

scope_takes : (es : Structures) (base : List TypeWord) (sh : Shape) → TakesParameters sh → is_some sh.name ≡ true
    → (o : Option ParameterScope) → sh.parameters ≡ o
    → Takes (scope_or_none o).names (built es base sh.derivations).type
scope_takes es base sh h named None e = absurd (false≢true (sym (ap is_some e) ∙ h.there named))
scope_takes es base sh h named (Some p) e = built_takes es base p.names sh.derivations (h.each named p e)

-- what is known of a declarator that is typed
record IsShaped (s : State) (x : Declarator) (sh : Shape) : Type 0 where
  shaped : IsShapeOf s x sh
  says : Says 0 s x sh
  derives : WholeShape sh
  takes : TakesParameters sh
  named : HasNameOf x sh

shaped_named : (e f : File) → IsBehind e f → (spec : Specification) → is_sized_array spec.type ≡ true
    → HasArrays f.state spec → is_type spec.type ≡ true → (x : Declarator) (sh : Shape) → IsShaped f.state x sh
    → (b : t.Block) → is_regular_block b ≡ true → (name : Option (Name × ℕ)) → sh.name ≡ name
    → IfNamed (formed.declared x) e (defined_by spec sh b name f)
shaped_named e f is spec sized arrays whole x sh h b c None named =
    nothing_named (formed.declared x) e f is.leads is.entities is.outside is.laid is.statics
shaped_named e f is spec sized arrays whole x sh h b c (Some name) named =
    let d = definition_of (extents f.state) spec (built_in f.state spec sh) name in
    let there = ap is_some named in
    let declares = defined_as_declares f.state is.outside.formed spec sized sh h.shaped.counted name
    (is_typedef spec.storage) in
    declared_named (formed.declared x) e f is d (sym h.named ∙ ap named_as named) sh.parameters name.1 h.shaped.scope
    (h.says.parameters there)
    (built_type (extents f.state) spec.type whole sh.derivations h.derives)
    (scope_takes (extents f.state) spec.type sh h.takes there sh.parameters refl) b c (defined_as spec sh name f.state)
    declares (declarator_made d f.state name spec.line (is_typedef spec.storage))
    (defined_laid f.state is.outside.formed is.laid spec arrays sh name (is_typedef spec.storage) declares)

-- what is typed in the state, and gives something on which what follows depends
state_then : {A : Type 0} (name : Option Name) (e f : File) → IsBehind e f → (p w : State → A → Type 0)
    (a : Answer (State × A)) (next : A → FileTyping (Unit {0})) → Extending false f.state p a → IfLaidOut w a
    → ((x : A) (g : File) → AreMore (extents f.state) (extents g.state) → IsBehind e g → p g.state x → w g.state x
    → IfNamed name e (next x g))
    → IfNamed name e (a >>= filed f >>= λ r. next r.1 r.0)
state_then name e f is p w (Ok r) next h laid g =
    let k = record f { state = r.0 } in
    g r.1 k h.0.more (record {
      leads = file_on e f k is.leads (state_leads f r.0 (leads_by f.state r.0 h.0));
      entities = entities_on e.state.environment f.state.environment r.0.environment is.entities
          (entities_same f.state.environment r.0.environment h.0.entities);
      statics = is.statics;
      outside = extended_outside f.state r.0 h.0 is.outside;
      laid = laid.0;
    }) h.1 laid.1
state_then name e f is p w (Err x) next h laid g = tt

all_shaped : (s : State) (d : Declarator) (a : Answer (State × Shape))
    → Extending false s (λ u sh. IsShapeOf u d sh) a → IfSays 0 d a → IfGives WholeShape a
    → IfGives TakesParameters a → IfGives (HasNameOf d) a → Extending false s (λ u sh. IsShaped u d sh) a
all_shaped s d (Ok r) h says derives takes named = (
  h.0,
  record { shaped = h.1; says = says; derives = derives; takes = takes; named = named },
)
all_shaped s d (Err x) h says derives takes named = tt

pub definition_named : (specs : Specifiers) (d : Declarator) (b : t.Block) → are_regular_specifiers specs ≡ true
    → is_regular_declarator d ≡ true → is_regular_block b ≡ true → defines_function d ≡ true → (f : File)
    → IsOutside f.state → IsLaidOut f.state → IfNamed (formed.declared d) f (definition specs d b f)
definition_named specs d b cs cd cb defines f outside laid =
    let name = formed.declared d in
    let here : IsBehind f f = record {
      leads = file_same f outside.formed;
      entities = entities_same f.state.environment f.state.environment refl;
      statics = refl;
      outside = outside;
      laid = laid;
    } in
    state_then name f f here (λ u spec. IsSpecified u spec × (is_type spec.type ≡ true)) HasArrays
    ((specification false specs >>> λ spec. judged (stored_once spec)) f.state)
    (λ spec. in_state (shape true d) ~> λ sh. defined_by spec sh b sh.name)
    (also_gives false f.state IsSpecified (λ spec. is_type spec.type ≡ true)
    ((specification false specs >>> λ spec. judged (stored_once spec)) f.state)
    (stored_extends specs cs f.state outside.formed) (stored_type false specs cs f.state outside.formed outside.types))
    (stored_laid false specs cs f.state outside.formed laid)
    (λ spec g more is sized arrays.
    state_then name f g is (λ u sh. IsShaped u d sh) anything (shape true d g.state)
    (λ sh. defined_by spec sh b sh.name)
    (all_shaped g.state d (shape true d g.state) (shape_extends true d cd g.state is.outside.formed)
    (shape_says d cd g.state is.outside.formed 0 (sym is.outside.variables))
    (shape_types true d cd g.state is.outside.formed is.outside.types)
    (shape_takes d cd defines g.state is.outside.formed is.outside.types) (shape_named true d g.state))
    (shape_behind true d cd g.state is.outside.formed is.laid)
    (λ sh k more is has laid.
    shaped_named f k is spec sized.0 (arrays_kept (extents g.state) (extents k.state) more spec.type arrays) sized.1 d
    sh has b cb sh.name refl))

-- and the name aside
defined_by_named : (name : Option Name) (f : File) (a : Answer (File × Unit {0})) → IfNamed name f a → IfDefined f a
defined_by_named name f (Ok r) h = record { outside = h.outside; entities = h.entities; is = by h.is }
  where
    by : DefinesNamed name f r.0 ⊎ DefinesNothing f r.0 → Defines f r.0 ⊎ DefinesNothing f r.0
    by (inl d) = inl d.defines
    by (inr same) = inr same
defined_by_named name f (Err e) h = tt

pub definition_defined : (specs : Specifiers) (d : Declarator) (b : t.Block) → are_regular_specifiers specs ≡ true
    → is_regular_declarator d ≡ true → is_regular_block b ≡ true → defines_function d ≡ true → (f : File)
    → IsOutside f.state → IsLaidOut f.state → IfDefined f (definition specs d b f)
definition_defined specs d b cs cd cb defines f outside laid =
    defined_by_named (formed.declared d) f (definition specs d b f)
    (definition_named specs d b cs cd cb defines f outside laid)

-- the definition that it adds to the file
pub made_behind : (f behind : File) (d : Defines f behind)
    → behind.definitions ≡ f.definitions ++ definition_made f behind d ∷ []
made_behind f behind d =
    ap (λ z. z.definitions) d.is
    ∙ ap (λ z. z ++ definition_made f behind d ∷ []) (d.typed.leads.definitions ∙ d.leads.definitions)
