-- Declarations leave a file laid out.
use Rattle.std.proofs.Common.{◌≡◌, ℕ, Bool, true, false, subst, List, [], ◌∷◌, ◌++◌, Option, Some, None}
use Rattle.std.proofs.Common.{if◌then◌else◌}
use Rattle.std.specs.Prelude.{Ok, Err, is_none, is_some, option_map}
use Rattle.std.specs.List.{list_all}
use Rattle.c_syntax.specs.declared.position.Position.{Position}
use Rattle.c_syntax.specs.Statements as t
use Rattle.c_syntax.specs.Tree.{Initializer}
use Rattle.c_tree.specs.declared.c_type.TypeWord.{TypeWord}
use Rattle.c_tree.specs.Statements.{DeclaredVariable, Part}
use Rattle.c_faults.specs.declared.fault.Rule.TheVariants.{MisplacedStorage}
use Rattle.c_faults.specs.Answer.{Answer, violates, ◌>>=◌}
use Rattle.c_scope.specs.declared.meaning.Designated.{Designated}
use Rattle.c_scope.specs.declared.meaning.Designated.TheVariants as what
use Rattle.c_scope.specs.declared.meaning.Meaning.{Meaning}
use Rattle.c_scope.specs.declared.meaning.Meaning.TheVariants as meaning
use Rattle.c_scope.specs.Names.{Name}
use Rattle.c_declarator_typing.specs.Declarators.{Shape}
use Rattle.c_declarator_typing.specs.Specifications.{Specification}
use Rattle.c_typing_state.specs.State.{State, extents, judged}
use Rattle.c_expression_typing.specs.Typed.{shape, specification}
use Rattle.c_unit_typing.specs.Declarations.{alone_in, declaration, declared_as, declared_with, initialized_if}
use Rattle.c_unit_typing.specs.Declarations.{named_by, specified, stored_once, with_declarator, with_declarators}
use Rattle.c_unit_typing.specs.Declarations.{with_others, with_parts, with_static, with_variable}
use Rattle.c_unit_typing.specs.Files.{File, FileTyping, in_state}
use Rattle.c_unit_typing.specs.Lines.{initializer_line}
use Rattle.typing_laws.specs.Validity.Sound.{IsFormed, is_sized_array}
use Rattle.typing_laws.proofs.Validity.Common.{first, second}
use Rattle.typing_laws.proofs.Validity.Sound.{IfAnswer}
use Rattle.typing_laws.specs.Declarators.Given.{AreCounted, IsShapeOf, IsSpecified, anything}
use Rattle.typing_laws.proofs.Declarators.Recursion.{shape_extends}
use Rattle.typing_laws.specs.Layouts.Listed.{HasArrays, IfLaidOut, IsDeclared, IsLaidOut}
use Rattle.typing_laws.proofs.Layouts.Arrays.{arrays_kept}
use Rattle.typing_laws.proofs.Layouts.Chained.{Laid, judged_laid, then_lists}
use Rattle.typing_laws.proofs.Layouts.Declared.{declared_as_laid}
use Rattle.typing_laws.proofs.Layouts.Recursion.{shape_laid, specification_laid}
use Rattle.typing_laws.specs.Scopes.Leaving.{FileLeads}
use Rattle.typing_laws.specs.Scopes.Regular.{are_regular_declarators, initializer_of, is_regular_declaration}
use Rattle.typing_laws.specs.Scopes.Regular.{is_regular_initializer_if, is_regular_object}
use Rattle.typing_laws.proofs.Scopes.Declarations.{StateLeads, declares_leads, initialized_leads, parts_by}
use Rattle.typing_laws.proofs.Scopes.Declarations.{specified_extends, static_leads, variable_leads}
use Rattle.typing_laws.proofs.Scopes.Leading.{file_same, state_leads}
use Rattle.typing_laws.specs.Initializers.Initialized.{IfInitialized}
use Rattle.typing_laws.proofs.Initializers.Initialized.{initialized_if_is}
use Rattle.typing_laws.specs.LaidOut.Behind.{IfLaid}
use Rattle.typing_laws.proofs.LaidOut.Chained.{StateLaid, both_laid, from_file, in_state_then, judged_lays}
use Rattle.typing_laws.proofs.LaidOut.Chained.{state_lays, then_lays}
use Rattle.typing_laws.proofs.Common.{some_mapped, some_scope}

-- an object with its initializer

abbrev in_file : {A : Type 0} → File → Answer (State × A) → Answer (File × A)
in_file f a = a >>= λ r. Ok (record f { state = r.0 }, r.1)

object_by : {A : Type 0} (f : File) (a : Answer (State × A)) → StateLeads f.state a → IfLaidOut anything a
    → IfLaid f (in_file f a)
object_by f (Ok r) h is = (state_leads f r.0 h, is.0)
object_by f (Err e) h is = tt

initialized_laid : (d : Designated) (name : Name × ℕ) (s : State) (a : Answer (State × (List TypeWord × List Part)))
    → IfInitialized some_scope [] d name.0 s a → IfLaidOut anything a
initialized_laid d name s (Ok r) h = (h.laid_out, tt)
initialized_laid d name s (Err e) h = tt

object_laid : (f : File) → IsFormed f.state → IsLaidOut f.state → (d : Designated) (name : Name × ℕ)
    (type : List TypeWord) (x : Option Initializer) → is_regular_initializer_if x ≡ true
    → IsDeclared (is_some x) f.state (Some (meaning.Named d type))
    → IfLaid f (in_state (initialized_if d name type x) f)
object_laid f formed laid d name type None c is = (file_same f formed, laid)
object_laid f formed laid d name type (Some x) c is =
    object_by f (initialized_if d name type (Some x) f.state)
    (initialized_leads f.state formed d name type (Some x) c)
    (initialized_laid d name f.state (initialized_if d name type (Some x) f.state)
    (initialized_if_is some_scope [] d name type (Some x) c f.state formed laid is.complete is.arrays))

declared_lays : (name : Name × ℕ) (x : Option Initializer) → is_regular_initializer_if x ≡ true
    → (m : Option Meaning) (f : File) → IsFormed f.state → IsLaidOut f.state → IsDeclared (is_some x) f.state m
    → IfLaid f (declared_with name x m f)
declared_lays name x c None f formed laid is = (file_same f formed, laid)
declared_lays name x c (Some (meaning.Typedef type)) f formed laid is = (file_same f formed, laid)
declared_lays name x c (Some (meaning.Constant w)) f formed laid is = (file_same f formed, laid)
declared_lays name x c (Some (meaning.Named (what.Variable n) type)) f formed laid is =
    then_lays f (in_state (initialized_if (what.Variable n) name type x) f) (with_variable n (is_some x))
    (object_laid f formed laid (what.Variable n) name type x c is)
    (λ r g h laid. (variable_leads n (is_some x) r g h, laid))
declared_lays name x c (Some (meaning.Named (what.Static n) type)) f formed laid is =
    then_lays f (in_state (initialized_if (what.Static n) name type x) f) (with_static n)
    (object_laid f formed laid (what.Static n) name type x c is) (λ r g h laid. (static_leads n r g h, laid))
declared_lays name x c (Some (meaning.Named (what.Object n) type)) f formed laid is =
    then_lays f (in_state (initialized_if (what.Object n) name type x) f) (with_parts n (is_some x))
    (object_laid f formed laid (what.Object n) name type x c is)
    (λ r g h laid. parts_laid n (is_some x) r g h laid)
  where
    parts_laid : (n : ℕ) (b : Bool) (r : List TypeWord × List Part) (g : File) → IsFormed g.state → IsLaidOut g.state
        → IfLaid g (with_parts n b r g)
    parts_laid n true r g h laid = (parts_by n true r g h, laid)
    parts_laid n false r g h laid = (parts_by n false r g h, laid)
declared_lays name x c (Some (meaning.Named (what.Function n) type)) f formed laid is = (file_same f formed, laid)
declared_lays name x c (Some (meaning.Named (what.Library r) type)) f formed laid is = (file_same f formed, laid)

-- declarators

declared_then : (name : Name × ℕ) (x : Option Initializer) → is_regular_initializer_if x ≡ true → (f : File)
    → (a : Answer (State × Option Meaning)) → StateLeads f.state a
    → IfLaidOut (IsDeclared (is_some (option_map initializer_line x))) a
    → IfLaid f (in_file f a >>= λ r. declared_with name x r.1 r.0)
declared_then name x c f (Ok r) h is =
    let g = record f { state = r.0 } in
    from_file f g (state_leads f r.0 h) (declared_with name x r.1 g)
    (declared_lays name x c r.1 g h.formed is.0
    (subst (λ b. IsDeclared b r.0 r.1) (some_mapped initializer_line x) is.1))
declared_then name x c f (Err e) h is = tt

named_lays : (in_head : Bool) (spec : Specification) → is_sized_array spec.type ≡ true → (x : Option Initializer)
    → is_regular_initializer_if x ≡ true → (sh : Shape) → AreCounted sh.derivations → (name : Option (Name × ℕ))
    (f : File) → IsFormed f.state → IsLaidOut f.state → HasArrays f.state spec
    → IfLaid f (named_by in_head spec x sh name f)
named_lays in_head spec sized x c sh counted None f formed laid arrays = (file_same f formed, laid)
named_lays in_head spec sized x c sh counted (Some name) f formed laid arrays =
    let initializer = option_map initializer_line x in
    let leads = declares_leads in_head spec sized sh counted initializer name f.state formed in
    declared_then name x c f (declared_as in_head spec sh initializer name f.state)
    leads
    (declared_as_laid in_head f.state formed laid spec sized arrays sh counted initializer name)

declarator_lays : (in_head : Bool) (spec : Specification) → is_sized_array spec.type ≡ true → (d : t.InitDeclarator)
    → is_regular_object d (initializer_of d) ≡ true → (f : File) → IsFormed f.state → IsLaidOut f.state
    → HasArrays f.state spec → IfLaid f (with_declarator in_head spec d f)
declarator_lays in_head spec sized d c f formed laid arrays =
    let extends = shape_extends false d.declarator (first _ _ c) f.state formed in
    in_state_then (λ u sh. IsShapeOf u d.declarator sh) (λ u sh. HasArrays u spec) f
    (shape false d.declarator f.state) (λ sh. named_by in_head spec (initializer_of d) sh sh.name) extends
    (kept (shape false d.declarator f.state)
    (both_laid (λ u sh. IsShapeOf u d.declarator sh) anything f.state (shape false d.declarator f.state) laid extends
    (shape_laid false d.declarator (first _ _ c) f.state formed laid)))
    (λ sh g h laid is arrays. named_lays in_head spec sized (initializer_of d) (second _ _ c) sh is.counted sh.name g h
    laid arrays)
  where
    kept : (a : Answer (State × Shape)) → StateLaid anything f.state a → StateLaid (λ u sh. HasArrays u spec) f.state a
    kept (Ok r) h = (h.0, h.1, arrays_kept (extents f.state) (extents r.0) h.0.more spec.type arrays)
    kept (Err e) h = tt

arrays_behind : (spec : Specification) (f g : File) → FileLeads f g → HasArrays f.state spec → HasArrays g.state spec
arrays_behind spec f g h is = arrays_kept (extents f.state) (extents g.state) h.state.more spec.type is

then_arrays : {A B : Type 0} (spec : Specification) (f : File) (a : Answer (File × A)) (next : A → FileTyping B)
    → IfLaid f a → HasArrays f.state spec
    → ((x : A) (g : File) → IsFormed g.state → IsLaidOut g.state → HasArrays g.state spec → IfLaid g (next x g))
    → IfLaid f (a >>= λ r. next r.1 r.0)
then_arrays spec f (Ok r) next h arrays k =
    from_file f r.0 h.0 (next r.1 r.0)
    (k r.1 r.0 h.0.state.formed h.1 (arrays_behind spec f r.0 h.0 arrays))
then_arrays spec f (Err e) next h arrays k = tt

others_lay : (in_head : Bool) (spec : Specification) → is_sized_array spec.type ≡ true
    → (ds : List (Position × t.InitDeclarator)) → list_all (λ d. is_regular_object d.1 (initializer_of d.1)) ds ≡ true
    → (vs : List DeclaredVariable) (f : File) → IsFormed f.state → IsLaidOut f.state → HasArrays f.state spec
    → IfLaid f (with_others in_head spec ds vs f)
others_lay in_head spec sized [] c vs f formed laid arrays = (file_same f formed, laid)
others_lay in_head spec sized (d ∷ ds) c vs f formed laid arrays =
    then_arrays spec f (with_declarator in_head spec d.1 f) (λ us. with_others in_head spec ds (vs ++ us))
    (declarator_lays in_head spec sized d.1 (first _ _ c) f formed laid arrays) arrays
    (λ us g h laid arrays. others_lay in_head spec sized ds (second _ _ c) (vs ++ us) g h laid arrays)

declarators_lay : (in_head : Bool) (spec : Specification) → is_sized_array spec.type ≡ true
    → (ds : Option t.InitDeclarators) → are_regular_declarators ds ≡ true → (f : File) → IsFormed f.state
    → IsLaidOut f.state → HasArrays f.state spec → IfLaid f (with_declarators in_head spec ds f)
declarators_lay in_head spec sized None c f formed laid arrays =
    state_lays (judged (alone_in in_head spec)) (judged_lays (alone_in in_head spec)) f formed laid
declarators_lay in_head spec sized (Some ds) c f formed laid arrays =
    then_arrays spec f (with_declarator in_head spec ds.first f) (λ vs. with_others in_head spec ds.others vs)
    (declarator_lays in_head spec sized ds.first (first _ _ c) f formed laid arrays) arrays
    (λ vs g h laid arrays. others_lay in_head spec sized ds.others (second _ _ c) vs g h laid arrays)

pub stored_laid : (s : State) (spec : Specification) → HasArrays s spec → (b : Bool)
    → IfAnswer (HasArrays s) (if b then violates MisplacedStorage spec.line else Ok spec)
stored_laid s spec h true = tt
stored_laid s spec h false = h

pub specified_laid : (is_alone : Bool) (d : t.Declaration) → is_regular_declaration d ≡ true → (s : State) → IsFormed s
    → IsLaidOut s → Laid HasArrays (specified is_alone d s)
specified_laid is_alone d c s formed laid =
    then_lists HasArrays HasArrays (specification is_alone d.specifiers s) (λ spec. judged (stored_once spec))
    (specification_laid is_alone d.specifiers (first _ _ c) s formed laid)
    (λ u spec lists h. judged_laid u lists HasArrays (stored_once spec u)
    (stored_laid u spec h spec.has_two_storages))

pub declaration_laid : (in_head : Bool) (d : t.Declaration) → is_regular_declaration d ≡ true → (f : File)
    → IsFormed f.state → IsLaidOut f.state → IfLaid f (declaration in_head d f)
declaration_laid in_head d c f formed laid =
    let extends = specified_extends (is_none d.declarators) d c f.state formed in
    in_state_then IsSpecified HasArrays f (specified (is_none d.declarators) d f.state)
    (λ spec. with_declarators in_head spec d.declarators) extends
    (both_laid IsSpecified HasArrays f.state (specified (is_none d.declarators) d f.state) laid extends
    (specified_laid (is_none d.declarators) d c f.state formed laid))
    (λ spec g h laid is arrays. declarators_lay in_head spec is d.declarators (second _ _ c) g h laid arrays)
