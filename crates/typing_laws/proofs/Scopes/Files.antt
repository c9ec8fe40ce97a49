-- Definitions of functions, and files.
use Rattle.std.proofs.Common.{◌≡◌, ℕ, Bool, true, false, ◌||◌, refl, sym, ap, ◌∙◌, List, [], ◌∷◌, ◌++◌}
use Rattle.std.proofs.Common.{length, Option, Some, None, if◌then◌else◌, arith}
use Rattle.std.specs.Prelude.{Ok, Err, codes, nat_lt}
use Rattle.std.proofs.lemmas.List.{append-nil}
use Rattle.c_syntax.specs.Statements as t
use Rattle.c_syntax.specs.Tree.{Specifiers}
use Rattle.c_tree.specs.declared.c_type.TypeWord.{TypeWord}
use Rattle.c_tree.specs.Statements.{Statements}
use Rattle.c_faults.specs.declared.fault.Rule.TheVariants.{MisplacedStorage, NoMain}
use Rattle.c_faults.specs.Answer.{Answer, violates, ◌>>=◌}
use Rattle.c_facts.specs.Facts.{facts_in}
use Rattle.c_scope.specs.declared.meaning.Designated.TheVariants as what
use Rattle.c_scope.specs.declared.meaning.Meaning.{Meaning}
use Rattle.c_scope.specs.declared.meaning.Meaning.TheVariants as meaning
use Rattle.typing_laws.specs.Validity.Regular.{are_regular_specifiers}
use Rattle.c_scope.specs.Declaring.{Declaration, is_typedef, judged as judged_declarator}
use Rattle.c_scope.specs.Environment.{surroundings}
use Rattle.c_scope.specs.Names.{Name, declared, found}
use Rattle.c_scope.specs.Names as names
use Rattle.c_scope.specs.Parameters.{ParameterScope, with_parameters}
use Rattle.c_operand_typing.specs.Calls.{place_among, with_type}
use Rattle.c_declarator_typing.specs.Declarators.{Shape, built_in}
use Rattle.c_declarator_typing.specs.Specifications.{Specification}
use Rattle.c_typing_state.specs.State.{State, extents, judged, ◌>>>◌}
use Rattle.c_expression_typing.specs.Typed.{shape, specification}
use Rattle.c_unit_typing.specs.Declarations.{declaration, stored_once}
use Rattle.c_unit_typing.specs.Files.{File, FileTyping, finished, in_state, ◌~>◌}
use Rattle.c_unit_typing.specs.Statements.{block_items}
use Rattle.c_unit_typing.specs.Units.{all_defined, around_body, body_of, defined_as, defined_by}
use Rattle.c_unit_typing.specs.Units.{definition_of, ended, entered, external, externals, file_before}
use Rattle.c_unit_typing.specs.Units.{file_in, file_with, gives_incomplete, is_main, left, marks_in, parameters_in}
use Rattle.c_unit_typing.specs.Units.{scope_or_none, with_body}
use Rattle.typing_laws.specs.Validity.Sound.{Extended, IsFormed, IsNumbered, is_sized_array}
use Rattle.typing_laws.specs.Validity.Typed.{HaveMembers}
use Rattle.typing_laws.proofs.Validity.Common.{first, neither_left, second}
use Rattle.typing_laws.proofs.Validity.Sound.{longer_list, more_more, same_list, same_more}
use Rattle.typing_laws.specs.Declarators.Extending.{Extending, IsNew}
use Rattle.typing_laws.specs.Declarators.Given.{AreCounted, HasScope, IsParameterScope, IsShapeOf, IsSpecified}
use Rattle.typing_laws.proofs.Declarators.Chained.{judged_extends, then_extends}
use Rattle.typing_laws.proofs.Declarators.Marks.{type_extends}
use Rattle.typing_laws.proofs.Declarators.Parameters.{found_last}
use Rattle.typing_laws.proofs.Declarators.Recursion.{scope_kept, shape_extends, specification_extends}
use Rattle.typing_laws.proofs.Declarators.Tags.{numbered_more}
use Rattle.typing_laws.proofs.Declarators.Types.{built_sized, without_faults}
use Rattle.typing_laws.specs.Declarations.Binding.{IfDeclared, bound_meaning}
use Rattle.typing_laws.proofs.Declarations.Formed.{IsPlainMeaning}
use Rattle.typing_laws.proofs.Declarations.Judged.{IsBuilt, answered, if_declared}
use Rattle.typing_laws.specs.Scopes.Leaving.{FileLeads, Grows, Growing, IfEnds, Leading, Leads}
use Rattle.typing_laws.specs.Scopes.Regular.{are_regular_externals, is_regular_block, is_regular_external}
use Rattle.typing_laws.proofs.Scopes.Declarations.{declaration_leads, stored_by}
use Rattle.typing_laws.proofs.Scopes.Leading.{bound_leads, leads_by, leads_on, names_are, state_leads}
use Rattle.typing_laws.proofs.Scopes.Leading.{the_tags_are}
use Rattle.typing_laws.proofs.Scopes.Start.{file_formed, file_members}
use Rattle.typing_laws.proofs.Scopes.Statements.{items_lead}
use Rattle.typing_laws.proofs.Common.{filed, inner_or}

pub grows_by : (f g : File) → FileLeads f g → Grows f g
grows_by f g h = record {
  more = h.state.more;
  longer = h.state.longer;
  literals = h.state.literals;
  types = h.state.types;
  facts = h.state.facts;
  members = h.state.members;
  formed = h.state.formed;
  undefined = h.state.undefined;
  statics = h.statics;
  initializers = h.initializers;
  definitions = record { rest = []; is = h.definitions ∙ sym (append-nil f.definitions) };
  objects = h.objects;
}

pub grows_on : (f g h : File) → Grows f g → Grows g h → Grows f h
grows_on f g h a b = record {
  more = more_more (extents f.state) (extents g.state) (extents h.state) a.more b.more;
  longer = let low = a.longer in let high = b.longer in omega arith;
  literals = longer_list f.state.literals g.state.literals h.state.literals a.literals b.literals;
  types = longer_list f.state.function_types g.state.function_types h.state.function_types a.types b.types;
  facts = b.facts ∙ a.facts;
  members = λ m. b.members (a.members m);
  formed = b.formed;
  undefined = λ e. a.undefined (b.undefined e);
  statics = longer_list f.statics g.statics h.statics a.statics b.statics;
  initializers = longer_list f.initializers g.initializers h.initializers a.initializers b.initializers;
  definitions = longer_list f.definitions g.definitions h.definitions a.definitions b.definitions;
  objects = b.objects ∙ a.objects;
}

pub grows_same : (f : File) → IsFormed f.state → Grows f f
grows_same f formed = record {
  more = same_more (extents f.state);
  longer = omega arith;
  literals = same_list f.state.literals;
  types = same_list f.state.function_types;
  facts = refl;
  members = λ m. m;
  formed = formed;
  undefined = λ e. e;
  statics = same_list f.statics;
  initializers = same_list f.initializers;
  definitions = same_list f.definitions;
  objects = refl;
}

pub from_grown : {A : Type 0} (f g : File) → Grows f g → (a : Answer (File × A)) → Growing g a → Growing f a
from_grown f g h (Ok r) is = grows_on f g r.0 h is
from_grown f g h (Err e) is = tt

pub then_grows : {A B : Type 0} (f : File) (a : Answer (File × A)) (next : A → FileTyping B) → Growing f a
    → ((x : A) (g : File) → IsFormed g.state → Growing g (next x g)) → Growing f (a >>= λ r. next r.1 r.0)
then_grows f (Ok r) next h g = from_grown f r.0 h (next r.1 r.0) (g r.1 r.0 h.formed)
then_grows f (Err e) next h g = tt

pub led : {A : Type 0} (f : File) (a : Answer (File × A)) → Leading f a → Growing f a
led f (Ok r) h = grows_by f r.0 h
led f (Err e) h = tt

pub one_more : {A : Type 0} (xs ys : List A) → xs ≡ ys → (x : A) → Extended ys (xs ++ x ∷ [])
one_more xs ys e x = record { rest = x ∷ []; is = ap (λ z. z ++ x ∷ []) e }

-- the block of a function stands in the scope of its parameters

abbrev pub inside : (number : ℕ) → ParameterScope → File → State
inside n p f = record f.state {
  environment = with_parameters p f.state.environment;
  objects = marks_in f.objects n;
  taken = [];
  function = Some n;
}

pub type_environment : (type : List TypeWord) (s : State) → (with_type type s).environment ≡ s.environment
type_environment type s = by (nat_lt (place_among type s.function_types) (length s.function_types))
  where
    by : (b : Bool)
        → (if b then s else record s { function_types = s.function_types ++ type ∷ [] }).environment ≡ s.environment
    by true = refl
    by false = refl

pub new_plain : (m : Meaning) → IsNew true m → IsPlainMeaning m
new_plain (meaning.Constant w) is = is
new_plain (meaning.Typedef type) is = absurd cc
new_plain (meaning.Named d type) is = tt

pub plain_around : (f : File) → IsFormed f.state → (name : Name) (x : Meaning)
    → names.meaning name f.state.environment.names ≡ Some x → IsPlainMeaning x
plain_around f formed name (meaning.Constant w) e = formed.constants name w e
plain_around f formed name (meaning.Typedef type) e = formed.typedefs name type e
plain_around f formed name (meaning.Named d type) e = tt

module _ (f : File) (formed : IsFormed f.state) (n : ℕ) (p : ParameterScope) (is : IsParameterScope f.state p) where
  pub plain_inside : (name : Name) (x : Meaning)
      → names.meaning name (inside n p f).environment.names ≡ Some x → IsPlainMeaning x
  plain_inside name =
      inner_or IsPlainMeaning (declared name p.names)
      (found name (f.state.environment.names.outer ++ f.state.environment.names.current ∷ []))
      (λ x e. new_plain x (is.names name x e))
      (λ x e. plain_around f formed name x
      (sym (found_last name f.state.environment.names.outer f.state.environment.names.current) ∙ e))

  pub inside_formed : IsFormed (inside n p f)
  inside_formed = record {
    same = formed.same;
    begun = formed.begun;
    sizes = formed.sizes;
    tags = λ name x e.
        inner_or (IsNumbered (length (extents f.state))) (declared name p.tags)
        (found name (f.state.environment.tags.outer ++ f.state.environment.tags.current ∷ [])) (is.tags name)
        (λ y g. formed.tags name y
        (sym (found_last name f.state.environment.tags.outer f.state.environment.tags.current) ∙ g)) x e;
    constants = λ name w e. plain_inside name (meaning.Constant w) e;
    typedefs = λ name type e. plain_inside name (meaning.Typedef type) e;
  }

  module _ (type : List TypeWord) (line : ℕ) where
    pub entered_leads : Leads (inside n p f) (entered n type p f).state
    entered_leads =
        leads_by (inside n p f) (entered n type p f).state (type_extends false type (inside n p f) inside_formed)

    -- behind the block
    pub left_grows : (g : File) (ss : Statements) → FileLeads (entered n type p f) g
        → Grows f (left line type (parameters_in (entered n type p f).state p.names) (g, ss))
    left_grows g ss h =
        let all = leads_on (inside n p f) (entered n type p f).state g.state entered_leads h.state in
        let names_same = names_are f.state g.state all.outer all.outer_tags in
        let tags_same = the_tags_are f.state g.state all.outer all.outer_tags in
        record {
          more = record { kept = all.more.kept };
          longer = all.longer;
          literals = all.literals;
          types = all.types;
          facts = all.facts;
          members = λ m. (let after = all.members (record { each = m.each }) in record { each = after.each });
          formed = record {
            same = all.formed.same;
            begun = all.formed.begun;
            sizes = all.formed.sizes;
            tags = λ name x e.
                numbered_more (length (extents f.state)) (length (extents g.state)) all.longer x
                (formed.tags name x (sym (tags_same name) ∙ e));
            constants = λ name w e. formed.constants name w (sym (names_same name) ∙ e);
            typedefs = λ name type e. formed.typedefs name type (sym (names_same name) ∙ e);
          };
          undefined = all.undefined;
          statics = h.statics;
          initializers = h.initializers;
          definitions = one_more g.definitions f.definitions h.definitions _;
          objects = h.objects;
        }

    pub left_by : (a : Answer (File × Statements)) → Leading (entered n type p f) a
        → Growing f (a >>= λ r. Ok (left line type (parameters_in (entered n type p f).state p.names) r, tt {0}))
    left_by (Ok r) h = left_grows r.0 r.1 h
    left_by (Err e) h = tt

    pub body_by : (b : t.Block) → is_regular_block b ≡ true
        → Growing f (body_of line type p b (entered n type p f))
    body_by (t.block l xs r) c =
        left_by (block_items (around_body type) xs (entered n type p f))
        (items_lead (around_body type) xs c (entered n type p f) entered_leads.formed)

-- a definition

pub no_scope : (s : State) → IsParameterScope s (scope_or_none None)
no_scope s = record { names = λ name m e. absurd cc; tags = λ name x e. absurd cc }

pub scope_is : (s : State) (o : Option ParameterScope) → HasScope s o → IsParameterScope s (scope_or_none o)
scope_is s None h = no_scope s
scope_is s (Some p) h = h

pub body_grows : (line : ℕ) (o : Option ParameterScope) (b : t.Block) → is_regular_block b ≡ true → (m : Option Meaning)
    (f : File) → IsFormed f.state → HasScope f.state o → Growing f (with_body line o b m f)
body_grows line o b c (Some (meaning.Named (what.Function n) type)) f formed has =
    body_by f formed n (scope_or_none o) (scope_is f.state o has) type line b c
body_grows line o b c None f formed has = grows_same f formed
body_grows line o b c (Some (meaning.Typedef type)) f formed has = grows_same f formed
body_grows line o b c (Some (meaning.Constant w)) f formed has = grows_same f formed
body_grows line o b c (Some (meaning.Named (what.Object n) type)) f formed has = grows_same f formed
body_grows line o b c (Some (meaning.Named (what.Static n) type)) f formed has = grows_same f formed
body_grows line o b c (Some (meaning.Named (what.Library r) type)) f formed has = grows_same f formed
body_grows line o b c (Some (meaning.Named (what.Variable n) type)) f formed has = grows_same f formed

pub built_definition : (s : State) → IsFormed s → (spec : Specification) → is_sized_array spec.type ≡ true
    → (sh : Shape) → AreCounted sh.derivations → (name : Name × ℕ)
    → IsBuilt (definition_of (extents s) spec (built_in s spec sh) name)
built_definition s formed spec sized sh counted name =
    let b = built_in s spec sh in
    record {
      sized = λ e.
          (let good = without_faults
          (record b.faults { incomplete = b.faults.incomplete || gives_incomplete (extents s) b.type }) e in
          built_sized (extents s) formed.sizes spec.type sized sh.derivations counted
          (record {
            complete = neither_left b.faults.incomplete (gives_incomplete (extents s) b.type) good.complete;
            placed = good.placed;
            counted = good.counted;
            small = good.small;
          }));
      placed = λ e. refl;
    }

pub defined_as_declares : (s : State) → IsFormed s → (spec : Specification) → is_sized_array spec.type ≡ true
    → (sh : Shape) → AreCounted sh.derivations → (name : Name × ℕ) (b : Bool)
    → IfDeclared (definition_of (extents s) spec (built_in s spec sh) name) s
    (if b then violates MisplacedStorage spec.line
    else answered (definition_of (extents s) spec (built_in s spec sh) name) s name
    (judged_declarator (surroundings s.environment (definition_of (extents s) spec (built_in s spec sh) name))
    (definition_of (extents s) spec (built_in s spec sh) name)))
defined_as_declares s formed spec sized sh counted name true = tt
defined_as_declares s formed spec sized sh counted name false =
    if_declared s formed (definition_of (extents s) spec (built_in s spec sh) name)
    (built_definition s formed spec sized sh counted name) name refl
    (judged_declarator (surroundings s.environment (definition_of (extents s) spec (built_in s spec sh) name))
    (definition_of (extents s) spec (built_in s spec sh) name)) refl

pub named_by : (f : File) (d : Declaration) (name : Name) (o : Option ParameterScope) (line : ℕ) (b : t.Block)
    → is_regular_block b ≡ true → HasScope f.state o → (a : Answer (State × Option Meaning)) → IfDeclared d f.state a
    → Growing f (a >>= filed f >>= λ r. with_body line o b r.1 r.0)
named_by f d name o line b c has (Ok r) h =
    let g = record f { state = r.0 } in
    let m = bound_meaning f.state.environment d in
    let leads = bound_leads d.name m f.state r.0 h.0.binds h.0.formed in
    from_grown f g (grows_by f g (state_leads f r.0 leads)) (with_body line o b r.1 g)
    (body_grows line o b c r.1 g h.0.formed (scope_kept f.state r.0 leads.longer o has))
named_by f d name o line b c has (Err e) h = tt

pub defined_grows : (spec : Specification) → is_sized_array spec.type ≡ true → (sh : Shape) → AreCounted sh.derivations
    → (b : t.Block) → is_regular_block b ≡ true → (name : Option (Name × ℕ)) (f : File) → IsFormed f.state
    → HasScope f.state sh.parameters → Growing f (defined_by spec sh b name f)
defined_grows spec sized sh counted b c None f formed has = grows_same f formed
defined_grows spec sized sh counted b c (Some name) f formed has =
    named_by f (definition_of (extents f.state) spec
    (built_in f.state spec sh) name) name.0 sh.parameters name.1 b c has
    (defined_as spec sh name f.state)
    (defined_as_declares f.state formed spec sized sh counted name (is_typedef spec.storage))

-- what is typed in the state, and gives something on which what follows depends
pub state_then : {A B : Type 0} (f : File) (p : State → A → Type 0) (a : Answer (State × A)) (next : A → FileTyping B)
    → Extending false f.state p a
    → ((x : A) (g : File) → IsFormed g.state → p g.state x → Growing g (next x g))
    → Growing f (a >>= filed f >>= λ r. next r.1 r.0)
state_then f p (Ok r) next is h =
    let g = record f { state = r.0 } in
    from_grown f g (grows_by f g (state_leads f r.0 (leads_by f.state r.0 is.0))) (next r.1 g)
    (h r.1 g is.0.formed is.1)
state_then f p (Err e) next is h = tt

pub stored_extends : (specs : Specifiers) → are_regular_specifiers specs ≡ true → (s : State) → IsFormed s
    → Extending false s IsSpecified ((specification false specs >>> λ spec. judged (stored_once spec)) s)
stored_extends specs c s formed =
    then_extends false s IsSpecified IsSpecified (specification false specs s) (λ spec. judged (stored_once spec))
    (specification_extends false specs c s formed)
    (λ u spec g h. judged_extends false u IsSpecified (stored_once spec u) g.formed
    (stored_by u spec h spec.has_two_storages))

pub external_grows : (e : t.External) → is_regular_external e ≡ true → (f : File) → IsFormed f.state
    → Growing f (external e f)
external_grows (t.definition specs d b) c f formed =
    state_then f IsSpecified ((specification false specs >>> λ spec. judged (stored_once spec)) f.state)
    (λ spec. in_state (shape true d) ~> λ sh. defined_by spec sh b sh.name)
    (stored_extends specs (first _ _ (first _ _ c)) f.state formed)
    (λ spec g h is. state_then g (λ u sh. IsShapeOf u d sh) (shape true d g.state)
    (λ sh. defined_by spec sh b sh.name) (shape_extends true d (second _ _ (first _ _ c)) g.state h)
    (λ sh k j has. defined_grows spec is sh has.counted b (second _ _ c) sh.name k j has.scope))
external_grows (t.declaration d) c f formed =
    then_grows f (declaration false d f) (λ vs. finished tt)
    (led f (declaration false d f) (declaration_leads false d c f formed)) (λ vs g h. grows_same g h)

pub externals_grow : (es : List t.External) → are_regular_externals es ≡ true → (f : File) → IsFormed f.state
    → Growing f (externals es f)
externals_grow [] c f formed = grows_same f formed
externals_grow (e ∷ es) c f formed =
    then_grows f (external e f) (λ done. externals es) (external_grows e (first _ _ c) f formed)
    (λ done g h. externals_grow es (second _ _ c) g h)

-- at the end

pub defined_ends : (o : Option ℕ) (f : File) → IsFormed f.state → HaveMembers f.state → IfEnds (all_defined o f)
defined_ends None f formed members = (formed, members)
defined_ends (Some line) f formed members = tt

pub main_ends : (end : ℕ) (f : File) → IsFormed f.state → HaveMembers f.state → (b : Bool)
    → IfEnds (if b then all_defined f.state.undefined f else violates NoMain end)
main_ends end f formed members true = defined_ends f.state.undefined f formed members
main_ends end f formed members false = tt

pub ends_by : (f : File) → HaveMembers f.state → (end : ℕ) (a : Answer (File × Unit {0})) → Growing f a
    → IfEnds (a >>= λ r. ended end r.0)
ends_by f members end (Ok r) h =
    main_ends end r.0 h.formed (h.members members)
    (is_main (declared (codes "main") r.0.state.environment.entities))
ends_by f members end (Err e) h = tt

pub file_with_ends : (objects : Option (List (List Bool))) (end : ℕ) (es : List t.External)
    → are_regular_externals es ≡ true → IfEnds (file_with objects end es)
file_with_ends objects end es c =
    let f = file_before objects (facts_in es) in
    ends_by f (file_members objects (facts_in es)) end (externals es f)
    (externals_grow es c f (file_formed objects (facts_in es)))

pub twice : (end : ℕ) (es : List t.External) → are_regular_externals es ≡ true → (a : Answer File)
    → IfEnds (a >>= λ f. file_with (Some f.taken) end es)
twice end es c (Ok f) = file_with_ends (Some f.taken) end es c
twice end es c (Err e) = tt

pub file_ends : (end : ℕ) (es : List t.External) → are_regular_externals es ≡ true → IfEnds (file_in end es)
file_ends end es c = twice end es c (file_with None end es)
