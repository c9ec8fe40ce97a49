-- Definitions of functions and declarations of a file leave it laid out.
use Rattle.std.proofs.Common.{◌≡◌, ℕ, Bool, true, false, ◌||◌, refl, sym, ◌∙◌, List, [], ◌∷◌, ◌++◌, length, nat_lt}
use Rattle.std.proofs.Common.{Option, Some, None, if◌then◌else◌}
use Rattle.std.specs.Prelude.{Ok, Err}
use Rattle.c_syntax.specs.Statements as t
use Rattle.c_syntax.specs.Tree.{Declarator, Specifiers}
use Rattle.c_tree.specs.declared.c_type.TypeWord.{TypeWord}
use Rattle.c_tree.specs.Statements.{DeclaredVariable, Statements}
use Rattle.c_faults.specs.declared.fault.Rule.TheVariants.{MisplacedStorage}
use Rattle.c_faults.specs.Answer.{Answer, violates, ◌>>=◌}
use Rattle.c_scope.specs.declared.meaning.Designated.TheVariants as what
use Rattle.c_scope.specs.declared.meaning.Meaning.{Meaning}
use Rattle.c_scope.specs.declared.meaning.Meaning.TheVariants as meaning
use Rattle.c_scope.specs.Declaring.{Declaration, is_typedef}
use Rattle.c_scope.specs.Declaring as declaring
use Rattle.c_scope.specs.Environment.{surroundings}
use Rattle.c_scope.specs.Names.{Name, declared, found}
use Rattle.c_scope.specs.Parameters.{ParameterScope}
use Rattle.c_operand_typing.specs.Calls.{place_among, with_type}
use Rattle.c_declarator_typing.specs.Declarators.{Shape, built_in}
use Rattle.c_declarator_typing.specs.Specifications.{Specification}
use Rattle.c_typing_state.specs.State.{State, extents, judged, ◌>>>◌}
use Rattle.c_expression_typing.specs.Typed.{shape, specification}
use Rattle.c_unit_typing.specs.Declarations.{declaration, stored_once}
use Rattle.c_unit_typing.specs.Files.{File, FileTyping, finished, in_state, ◌~>◌}
use Rattle.c_unit_typing.specs.Statements.{block_items}
use Rattle.c_unit_typing.specs.Units.{around_body, body_of, defined_as, defined_by, definition_of, entered, external}
use Rattle.c_unit_typing.specs.Units.{externals, gives_incomplete, left, parameters_in, scope_or_none, with_body}
use Rattle.typing_laws.specs.Validity.Sound.{IsFormed, is_sized_array}
use Rattle.typing_laws.specs.Validity.Regular.{are_regular_specifiers, is_regular_declarator}
use Rattle.typing_laws.proofs.Validity.Common.{first, neither_left, second}
use Rattle.typing_laws.specs.Declarators.Extending.{Extending}
use Rattle.typing_laws.specs.Declarators.Given.{AreCounted, HasScope, IsParameterScope, IsShapeOf, IsSpecified}
use Rattle.typing_laws.specs.Declarators.Given.{anything}
use Rattle.typing_laws.proofs.Declarators.Parameters.{found_last}
use Rattle.typing_laws.proofs.Declarators.Recursion.{scope_kept, shape_extends}
use Rattle.typing_laws.proofs.Declarators.Types.{without_faults}
use Rattle.typing_laws.specs.Declarations.Binding.{IfDeclared, bound_meaning}
use Rattle.typing_laws.proofs.Declarations.Judged.{answered}
use Rattle.typing_laws.specs.Layouts.Listed.{HasArrays, HasArraysIn, IfLaidOut, IsDeclared, IsLaidOut}
use Rattle.typing_laws.specs.Layouts.Listed.{has_array_bytes}
use Rattle.typing_laws.proofs.Layouts.Arrays.{arrays_kept, built_arrays}
use Rattle.typing_laws.proofs.Layouts.Chained.{Laid, judged_laid, laid_out_behind, meaning_kept, new_arrays}
use Rattle.typing_laws.proofs.Layouts.Chained.{then_lists}
use Rattle.typing_laws.proofs.Layouts.Declared.{declared_by}
use Rattle.typing_laws.proofs.Layouts.Recursion.{shape_laid, specification_laid}
use Rattle.typing_laws.specs.Scopes.Leaving.{FileLeads, Growing}
use Rattle.typing_laws.specs.Scopes.Regular.{are_regular_externals, is_regular_block, is_regular_external}
use Rattle.typing_laws.proofs.Scopes.Files.{built_definition, defined_as_declares, entered_leads}
use Rattle.typing_laws.proofs.Scopes.Files.{external_grows}
use Rattle.typing_laws.proofs.Scopes.Files.{inside, scope_is, stored_extends}
use Rattle.typing_laws.proofs.Scopes.Leading.{bound_leads, leads_on, names_are}
use Rattle.typing_laws.specs.LaidOut.Behind.{IfLaid, IsLaidIf}
use Rattle.typing_laws.proofs.LaidOut.Chained.{StateLaid}
use Rattle.typing_laws.proofs.LaidOut.Declarations.{declaration_laid, stored_laid}
use Rattle.typing_laws.proofs.LaidOut.Statements.{items_laid}
use Rattle.typing_laws.proofs.Common.{filed, inner_or}

-- in the block of a function names stand for its parameters too

inside_laid : (f : File) → IsLaidOut f.state → (n : ℕ) (p : ParameterScope) → IsParameterScope f.state p
    → IsLaidOut (inside n p f)
inside_laid f laid n p is = record {
  lists = laid.lists;
  names = λ name.
      inner_or (HasArraysIn (extents f.state)) (declared name p.names)
      (found name (f.state.environment.names.outer ++ f.state.environment.names.current ∷ []))
      (λ m e. new_arrays true (extents f.state) m (is.names name m e))
      (λ m e. laid.names name m
      (sym (found_last name f.state.environment.names.outer f.state.environment.names.current) ∙ e));
}

type_by : (b : Bool) (type : List TypeWord) (s : State) → IsLaidOut s
    → IsLaidOut (if b then s else record s { function_types = s.function_types ++ type ∷ [] })
type_by true type s laid = laid
type_by false type s laid = record { lists = laid.lists; names = laid.names }

typed_laid : (type : List TypeWord) (s : State) → IsLaidOut s → IsLaidOut (with_type type s)
typed_laid type s laid =
    type_by (nat_lt (place_among type s.function_types) (length s.function_types)) type s laid

pub entered_laid : (f : File) → IsLaidOut f.state → (n : ℕ) (type : List TypeWord) (p : ParameterScope)
    → IsParameterScope f.state p → IsLaidOut (entered n type p f).state
entered_laid f laid n type p is = typed_laid type (inside n p f) (inside_laid f laid n p is)

module _ (f : File) (formed : IsFormed f.state) (laid : IsLaidOut f.state) (n : ℕ) (p : ParameterScope)
    (is : IsParameterScope f.state p) (type : List TypeWord) (line : ℕ) where
  left_laid : (g : File) (ss : Statements) → FileLeads (entered n type p f) g → IsLaidOut g.state
      → IsLaidOut (left line type (parameters_in (entered n type p f).state p.names) (g, ss)).state
  left_laid g ss h behind =
      let all = leads_on (inside n p f) (entered n type p f).state g.state (entered_leads f formed n p is type line)
      h.state in
      record {
        lists = behind.lists;
        names = λ name m e.
            meaning_kept (extents f.state) (extents g.state) all.more m
            (laid.names name m (sym (names_are f.state g.state all.outer all.outer_tags name) ∙ e));
      }

  left_by : (a : Answer (File × Statements)) → IfLaid (entered n type p f) a
      → IsLaidIf (a >>= λ r. Ok (left line type (parameters_in (entered n type p f).state p.names) r, tt {0}))
  left_by (Ok r) h = left_laid r.0 r.1 h.0 h.1
  left_by (Err e) h = tt

  body_by : (b : t.Block) → is_regular_block b ≡ true → IsLaidIf (body_of line type p b (entered n type p f))
  body_by (t.block l xs r) c =
      left_by (block_items (around_body type) xs (entered n type p f))
      (items_laid (around_body type) xs c (entered n type p f) (entered_leads f formed n p is type line).formed
      (entered_laid f laid n type p is))

body_laid : (line : ℕ) (o : Option ParameterScope) (b : t.Block) → is_regular_block b ≡ true → (m : Option Meaning)
    (f : File) → IsFormed f.state → IsLaidOut f.state → HasScope f.state o → IsLaidIf (with_body line o b m f)
body_laid line o b c (Some (meaning.Named (what.Function n) type)) f formed laid has =
    body_by f formed laid n (scope_or_none o) (scope_is f.state o has) type line b c
body_laid line o b c None f formed laid has = laid
body_laid line o b c (Some (meaning.Typedef type)) f formed laid has = laid
body_laid line o b c (Some (meaning.Constant w)) f formed laid has = laid
body_laid line o b c (Some (meaning.Named (what.Object n) type)) f formed laid has = laid
body_laid line o b c (Some (meaning.Named (what.Static n) type)) f formed laid has = laid
body_laid line o b c (Some (meaning.Named (what.Library r) type)) f formed laid has = laid
body_laid line o b c (Some (meaning.Named (what.Variable n) type)) f formed laid has = laid

-- a definition

pub definition_arrays : (s : State) (spec : Specification) → HasArrays s spec → (sh : Shape) (name : Name × ℕ)
    → (definition_of (extents s) spec (built_in s spec sh) name).type_rule ≡ None
    → has_array_bytes (extents s) (built_in s spec sh).type ≡ true
definition_arrays s spec arrays sh name e =
    let b = built_in s spec sh in
    let good = without_faults
    (record b.faults { incomplete = b.faults.incomplete || gives_incomplete (extents s) b.type }) e in
    built_arrays (extents s) spec.type arrays sh.derivations (record {
      complete = neither_left b.faults.incomplete (gives_incomplete (extents s) b.type) good.complete;
      placed = good.placed;
      counted = good.counted;
      small = good.small;
    })

defined_by_test : (s : State) → IsFormed s → IsLaidOut s → (spec : Specification) → is_sized_array spec.type ≡ true
    → HasArrays s spec → (sh : Shape) → AreCounted sh.derivations → (name : Name × ℕ) (b : Bool)
    → IfLaidOut (IsDeclared false)
    (if b then violates MisplacedStorage spec.line
    else answered (definition_of (extents s) spec (built_in s spec sh) name) s name
    (declaring.judged (surroundings s.environment (definition_of (extents s) spec (built_in s spec sh) name))
    (definition_of (extents s) spec (built_in s spec sh) name)))
defined_by_test s formed laid spec sized arrays sh counted name true = tt
defined_by_test s formed laid spec sized arrays sh counted name false =
    let d = definition_of (extents s) spec (built_in s spec sh) name in
    declared_by s formed laid d (built_definition s formed spec sized sh counted name)
    (definition_arrays s spec arrays sh name) name (declaring.judged (surroundings s.environment d) d) refl
    (defined_as_declares s formed spec sized sh counted name false)

named_by : (f : File) (d : Declaration) (o : Option ParameterScope) (line : ℕ) (b : t.Block)
    → is_regular_block b ≡ true → HasScope f.state o → (a : Answer (State × Option Meaning)) → IfDeclared d f.state a
    → IfLaidOut (IsDeclared false) a → IsLaidIf (a >>= filed f >>= λ r. with_body line o b r.1 r.0)
named_by f d o line b c has (Ok r) h is =
    let g = record f { state = r.0 } in
    let m = bound_meaning f.state.environment d in
    let leads = bound_leads d.name m f.state r.0 h.0.binds h.0.formed in
    body_laid line o b c r.1 g h.0.formed is.0 (scope_kept f.state r.0 leads.longer o has)
named_by f d o line b c has (Err e) h is = tt

defined_laid : (spec : Specification) → is_sized_array spec.type ≡ true → (sh : Shape) → AreCounted sh.derivations
    → (b : t.Block) → is_regular_block b ≡ true → (name : Option (Name × ℕ)) (f : File) → IsFormed f.state
    → IsLaidOut f.state → HasArrays f.state spec → HasScope f.state sh.parameters
    → IsLaidIf (defined_by spec sh b name f)
defined_laid spec sized sh counted b c None f formed laid arrays has = laid
defined_laid spec sized sh counted b c (Some name) f formed laid arrays has =
    named_by f (definition_of (extents f.state) spec (built_in f.state spec sh) name) sh.parameters name.1 b c has
    (defined_as spec sh name f.state)
    (defined_as_declares f.state formed spec sized sh counted name (is_typedef spec.storage))
    (defined_by_test f.state formed laid spec sized arrays sh counted name (is_typedef spec.storage))

-- what is typed in the state, and gives something on which what follows depends
state_then : {A B : Type 0} (q : State → A → Type 0) (f : File) (a : Answer (State × A)) (next : A → FileTyping B)
    → StateLaid q f.state a
    → ((x : A) (g : File) → IsFormed g.state → IsLaidOut g.state → q g.state x → IsLaidIf (next x g))
    → IsLaidIf (a >>= filed f >>= λ r. next r.1 r.0)
state_then q f (Ok r) next is k = k r.1 (record f { state = r.0 }) is.0.formed is.1 is.2
state_then q f (Err e) next is k = tt

pub stored_specified : (specs : Specifiers) (s : State) → Laid HasArrays (specification false specs s)
    → Laid HasArrays ((specification false specs >>> λ spec. judged (stored_once spec)) s)
stored_specified specs s h =
    then_lists HasArrays HasArrays (specification false specs s) (λ spec. judged (stored_once spec)) h
    (λ u spec lists is. judged_laid u lists HasArrays (stored_once spec u)
    (stored_laid u spec is spec.has_two_storages))

all_laid : {A : Type 0} (p q : State → A → Type 0) (s : State) (a : Answer (State × A)) → IsLaidOut s
    → Extending false s p a → Laid q a → StateLaid (λ u x. p u x × q u x) s a
all_laid p q s (Ok r) laid h is = (h.0, laid_out_behind false s r.0 h.0 laid is.0, (h.1, is.1))
all_laid p q s (Err e) laid h is = tt

shape_arrays : (spec : Specification) (p : State → Shape → Type 0) (s : State) → HasArrays s spec
    → (a : Answer (State × Shape)) → StateLaid (λ u sh. p u sh × anything u sh) s a
    → StateLaid (λ u sh. p u sh × HasArrays u spec) s a
shape_arrays spec p s arrays (Ok r) h =
    (h.0, h.1, (h.2.0, arrays_kept (extents s) (extents r.0) h.0.more spec.type arrays))
shape_arrays spec p s arrays (Err e) h = tt

definition_laid : (specs : Specifiers) (d : Declarator) (b : t.Block) → are_regular_specifiers specs ≡ true
    → is_regular_declarator d ≡ true → is_regular_block b ≡ true → (f : File) → IsFormed f.state → IsLaidOut f.state
    → IsLaidIf (external (t.definition specs d b) f)
definition_laid specs d b c k m f formed laid =
    state_then (λ u spec. IsSpecified u spec × HasArrays u spec) f
    ((specification false specs >>> λ spec. judged (stored_once spec)) f.state)
    (λ spec. in_state (shape true d) ~> λ sh. defined_by spec sh b sh.name)
    (all_laid IsSpecified HasArrays f.state _ laid (stored_extends specs c f.state formed)
    (stored_specified specs f.state (specification_laid false specs c f.state formed laid)))
    (λ spec g h laid is. state_then (λ u sh. IsShapeOf u d sh × HasArrays u spec) g (shape true d g.state)
    (λ sh. defined_by spec sh b sh.name)
    (shape_arrays spec (λ u sh. IsShapeOf u d sh) g.state is.1 (shape true d g.state)
    (all_laid (λ u sh. IsShapeOf u d sh) anything g.state (shape true d g.state) laid
    (shape_extends true d k g.state h) (shape_laid true d k g.state h laid)))
    (λ sh k j laid has. defined_laid spec is.0 sh has.0.counted b m sh.name k j laid has.1 has.0.scope))

declared_laid : (d : t.Declaration) (f : File) (a : Answer (File × List DeclaredVariable)) → IfLaid f a
    → IsLaidIf (a >>= λ r. finished (tt {0}) r.0)
declared_laid d f (Ok r) h = h.1
declared_laid d f (Err e) h = tt

pub external_laid : (e : t.External) → is_regular_external e ≡ true → (f : File) → IsFormed f.state → IsLaidOut f.state
    → IsLaidIf (external e f)
external_laid (t.definition specs d b) c f formed laid =
    definition_laid specs d b (first _ _ (first _ _ c)) (second _ _ (first _ _ c)) (second _ _ c) f formed laid
external_laid (t.declaration d) c f formed laid =
    declared_laid d f (declaration false d f) (declaration_laid false d c f formed laid)

then_externals : (f : File) (a : Answer (File × Unit {0})) (next : Unit {0} → FileTyping (Unit {0})) → Growing f a
    → IsLaidIf a
    → ((x : Unit {0}) (g : File) → IsFormed g.state → IsLaidOut g.state → IsLaidIf (next x g))
    → IsLaidIf (a >>= λ r. next r.1 r.0)
then_externals f (Ok r) next h is k = k r.1 r.0 h.formed is
then_externals f (Err e) next h is k = tt

pub externals_laid : (es : List t.External) → are_regular_externals es ≡ true → (f : File) → IsFormed f.state
    → IsLaidOut f.state → IsLaidIf (externals es f)
externals_laid [] c f formed laid = laid
externals_laid (e ∷ es) c f formed laid =
    then_externals f (external e f) (λ done. externals es) (external_grows e (first _ _ c) f formed)
    (external_laid e (first _ _ c) f formed laid)
    (λ done g h laid. externals_laid es (second _ _ c) g h laid)
