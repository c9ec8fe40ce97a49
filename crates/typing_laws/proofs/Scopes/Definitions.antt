-- A relation of files that the specifiers and the declarator of a definition keep, and the block of its function, is
-- kept by the definition (C99 6.9.1).
use Rattle.std.proofs.Common.{◌≡◌, ℕ, Bool, true, false, refl, List, Option, Some, None, if◌then◌else◌}
use Rattle.std.specs.Prelude.{Ok, Err}
use Rattle.c_syntax.specs.Statements as t
use Rattle.c_syntax.specs.Tree.{Declarator, Specifiers}
use Rattle.c_tree.specs.declared.c_type.TypeWord.{TypeWord}
use Rattle.c_faults.specs.declared.fault.Rule.TheVariants.{MisplacedStorage}
use Rattle.c_faults.specs.Answer.{Answer, violates, ◌>>=◌}
use Rattle.c_scope.specs.declared.meaning.Designated.TheVariants as what
use Rattle.c_scope.specs.declared.meaning.Meaning.{Meaning}
use Rattle.c_scope.specs.declared.meaning.Meaning.TheVariants as meaning
use Rattle.c_scope.specs.Declaring.{Declaration, is_typedef, judged as judged_declarator}
use Rattle.c_scope.specs.Environment.{surroundings, with_declarator}
use Rattle.c_scope.specs.Names.{Name, declared}
use Rattle.c_scope.specs.Parameters.{ParameterScope}
use Rattle.c_declarator_typing.specs.Declarators.{Shape, built_in}
use Rattle.c_declarator_typing.specs.Specifications.{Specification}
use Rattle.c_typing_state.specs.State.{State, extents, judged, ◌>>>◌}
use Rattle.c_expression_typing.specs.Typed.{shape, specification}
use Rattle.c_unit_typing.specs.Declarations.{stored_once}
use Rattle.c_unit_typing.specs.Files.{File, FileTyping, in_state, ◌~>◌}
use Rattle.c_unit_typing.specs.Statements.{block_items}
use Rattle.c_unit_typing.specs.Units.{around_body, defined_by, definition_of, entered, external, left, parameters_in}
use Rattle.c_unit_typing.specs.Units.{scope_or_none, with_body}
use Rattle.typing_laws.specs.Validity.Sound.{IsFormed, is_sized_array}
use Rattle.typing_laws.proofs.Validity.Common.{first, second}
use Rattle.typing_laws.specs.Declarators.Extending.{Extending, Extends}
use Rattle.typing_laws.specs.Declarators.Given.{AreCounted, HasScope, IsParameterScope, IsShapeOf, IsSpecified}
use Rattle.typing_laws.proofs.Declarators.Recursion.{scope_kept, shape_extends}
use Rattle.typing_laws.specs.Declarations.Binding.{IfDeclared, bound_meaning}
use Rattle.typing_laws.proofs.Declarations.Judged.{answered, if_declared}
use Rattle.typing_laws.specs.Scopes.Regular.{are_regular_block_items, is_regular_block, is_regular_external}
use Rattle.typing_laws.proofs.Scopes.Files.{built_definition, scope_is, stored_extends}
use Rattle.typing_laws.proofs.Scopes.Leading.{bound_leads}
use Rattle.typing_laws.proofs.Scopes.Statements.{IfFileBehind}
use Rattle.typing_laws.proofs.Common.{filed}

pub record DefinitionWalk (files : File → File → Type 0) : Type 0 where
  pub file_same : (f : File) → files f f
  pub file_on : (f g h : File) → files f g → files g h → files f h
  pub in_file : (f : File) (t : State) → Extends false f.state t → files f (record f { state = t })
  pub declared : (f : File) (d : Declaration) → judged_declarator (surroundings f.state.environment d) d ≡ Ok tt
      → files f (record f { state = record f.state { environment = with_declarator f.state.environment d } })
  pub block : (f : File) → IsFormed f.state → (n : ℕ) (p : ParameterScope) → IsParameterScope f.state p
      → (type : List TypeWord) (line : ℕ) (xs : t.BlockItems) → are_regular_block_items xs ≡ true
      → IfFileBehind files f (block_items (around_body type) xs (entered n type p f)
      >>= λ r. Ok (left line type (parameters_in (entered n type p f).state p.names) r, tt {0}))

module _ (files : File → File → Type 0) (walk : DefinitionWalk files) where
  from_file : {A : Type 0} (f g : File) → files f g → (a : Answer (File × A)) → IfFileBehind files g a
      → IfFileBehind files f a
  from_file f g h (Ok r) k = walk.file_on f g r.0 h k
  from_file f g h (Err e) k = tt

  state_then : {A B : Type 0} (f : File) (p : State → A → Type 0) (a : Answer (State × A)) (next : A → FileTyping B)
      → Extending false f.state p a
      → ((x : A) (g : File) → IsFormed g.state → p g.state x → IfFileBehind files g (next x g))
      → IfFileBehind files f (a >>= filed f >>= λ r. next r.1 r.0)
  state_then f p (Ok r) next is k =
      let g = record f { state = r.0 } in
      from_file f g (walk.in_file f r.0 is.0) (next r.1 g) (k r.1 g is.0.formed is.1)
  state_then f p (Err e) next is k = tt

  body_walks : (line : ℕ) (o : Option ParameterScope) (b : t.Block) → is_regular_block b ≡ true → (m : Option Meaning)
      (f : File) → IsFormed f.state → HasScope f.state o → IfFileBehind files f (with_body line o b m f)
  body_walks line o (t.block l xs r) c (Some (meaning.Named (what.Function n) type)) f formed has =
      walk.block f formed n (scope_or_none o) (scope_is f.state o has) type line xs c
  body_walks line o b c None f formed has = walk.file_same f
  body_walks line o b c (Some (meaning.Typedef type)) f formed has = walk.file_same f
  body_walks line o b c (Some (meaning.Constant w)) f formed has = walk.file_same f
  body_walks line o b c (Some (meaning.Named (what.Object n) type)) f formed has = walk.file_same f
  body_walks line o b c (Some (meaning.Named (what.Static n) type)) f formed has = walk.file_same f
  body_walks line o b c (Some (meaning.Named (what.Library r) type)) f formed has = walk.file_same f
  body_walks line o b c (Some (meaning.Named (what.Variable n) type)) f formed has = walk.file_same f

  named_walks : (f : File) (d : Declaration) (name : Name × ℕ) (line : ℕ) (o : Option ParameterScope) (b : t.Block)
      → is_regular_block b ≡ true → HasScope f.state o
      → ((a : Answer (Unit {0})) → judged_declarator (surroundings f.state.environment d) d ≡ a
      → IfDeclared d f.state (answered d f.state name a))
      → (a : Answer (Unit {0})) → judged_declarator (surroundings f.state.environment d) d ≡ a
      → IfFileBehind files f (answered d f.state name a >>= filed f >>= λ r. with_body line o b r.1 r.0)
  named_walks f d name line o b c has declares (Ok x) is =
      let t = record f.state { environment = with_declarator f.state.environment d } in
      let g = record f { state = t } in
      let own = declares (Ok x) is in
      let leads = bound_leads d.name (bound_meaning f.state.environment d) f.state t own.0.binds own.0.formed in
      let m = declared name.0 t.environment.names.current in
      from_file f g (walk.declared f d is) (with_body line o b m g)
      (body_walks line o b c m g own.0.formed (scope_kept f.state t leads.longer o has))
  named_walks f d name line o b c has declares (Err e) is = tt

  defined_by_name : (f : File) → IsFormed f.state → (spec : Specification) → is_sized_array spec.type ≡ true
      → (sh : Shape) → AreCounted sh.derivations → HasScope f.state sh.parameters
      → (b : t.Block) → is_regular_block b ≡ true → (name : Name × ℕ) (is : Bool)
      → IfFileBehind files f
      ((if is then violates MisplacedStorage spec.line
      else answered (definition_of (extents f.state) spec (built_in f.state spec sh) name) f.state name
      (judged_declarator (surroundings f.state.environment (definition_of (extents f.state) spec
      (built_in f.state spec sh) name))
      (definition_of (extents f.state) spec (built_in f.state spec sh) name)))
      >>= filed f >>= λ r. with_body name.1 sh.parameters b r.1 r.0)
  defined_by_name f formed spec sized sh counted has b c name true = tt
  defined_by_name f formed spec sized sh counted has b c name false =
      let x = definition_of (extents f.state) spec (built_in f.state spec sh) name in
      named_walks f x name name.1 sh.parameters b c has
      (λ a g. if_declared f.state formed x (built_definition f.state formed spec sized sh counted name) name refl a g)
      (judged_declarator (surroundings f.state.environment x) x) refl

  defined_walks : (f : File) → IsFormed f.state → (spec : Specification) → is_sized_array spec.type ≡ true
      → (sh : Shape) → AreCounted sh.derivations → HasScope f.state sh.parameters → (b : t.Block)
      → is_regular_block b ≡ true → (name : Option (Name × ℕ)) → IfFileBehind files f (defined_by spec sh b name f)
  defined_walks f formed spec sized sh counted has b c None = walk.file_same f
  defined_walks f formed spec sized sh counted has b c (Some name) =
      defined_by_name f formed spec sized sh counted has b c name (is_typedef spec.storage)

  pub definition_walks : (specs : Specifiers) (d : Declarator) (b : t.Block)
      → is_regular_external (t.definition specs d b) ≡ true → (f : File) → IsFormed f.state
      → IfFileBehind files f (external (t.definition specs d b) f)
  definition_walks specs d b c f formed =
      state_then f IsSpecified ((specification false specs >>> λ spec. judged (stored_once spec)) f.state)
      (λ spec. in_state (shape true d) ~> λ sh. defined_by spec sh b sh.name)
      (stored_extends specs (first _ _ (first _ _ c)) f.state formed)
      (λ spec g h sized. state_then g (λ u sh. IsShapeOf u d sh) (shape true d g.state)
      (λ sh. defined_by spec sh b sh.name) (shape_extends true d (second _ _ (first _ _ c)) g.state h)
      (λ sh k i shaped. defined_walks k i spec sized sh shaped.counted shaped.scope b (second _ _ c) sh.name))
