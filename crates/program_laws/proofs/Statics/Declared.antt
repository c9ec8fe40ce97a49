-- Declarations in blocks add valid static objects to a file (C99 6.7).
use Rattle.std.proofs.Common.{◌≡◌, ℕ, Bool, true, false, ◌||◌, refl, sym, ap, ◌∙◌, subst, List, [], ◌∷◌, ◌++◌}
use Rattle.std.proofs.Common.{Option, Some, None, if◌then◌else◌}
use Rattle.std.specs.Prelude.{Ok, Err, is_none, is_some, not, option_map}
use Rattle.std.proofs.lemmas.Bool.{false≢true}
use Rattle.std.proofs.lemmas.List.{append-nil}
use Rattle.std.specs.List.{list_all}
use Rattle.c_syntax.specs.declared.position.Position.{Position}
use Rattle.c_syntax.specs.Statements as t
use Rattle.c_syntax.specs.Tree.{Initializer}
use Rattle.c_tree.specs.declared.c_type.TypeWord.{TypeWord}
use Rattle.c_tree.specs.Blocks.{variables_in}
use Rattle.c_tree.specs.Statements.{DeclaredVariable, Part}
use Rattle.c_faults.specs.declared.fault.Rule.TheVariants as rule
use Rattle.c_faults.specs.Answer.{Answer, violates, ◌>>=◌}
use Rattle.c_scope.specs.declared.meaning.Designated.{Designated}
use Rattle.c_scope.specs.declared.meaning.Designated.TheVariants as what
use Rattle.c_scope.specs.declared.meaning.Meaning.{Meaning}
use Rattle.c_scope.specs.declared.meaning.Meaning.TheVariants as meaning
use Rattle.c_scope.specs.declared.meaning.Storage.{Storage}
use Rattle.c_scope.specs.declared.meaning.Storage.TheVariants as storage
use Rattle.c_scope.specs.Declaring.{Declaration, has_linkage, is_linked, is_misplaced, is_typedef}
use Rattle.c_scope.specs.Environment.{Environment, in_file}
use Rattle.c_scope.specs.Names.{Name}
use Rattle.c_declarator_typing.specs.Declarators.{Shape, built_in}
use Rattle.c_declarator_typing.specs.Specifications.{Specification}
use Rattle.c_typing_state.specs.State.{State, extents}
use Rattle.c_expression_typing.specs.Typed.{shape}
use Rattle.c_unit_typing.specs.Declarations.{declaration, declaration_of, declared_as, declared_with, has_place}
use Rattle.c_unit_typing.specs.Declarations.{initialized_if, named_by, specified, with_declarator, with_declarators}
use Rattle.c_unit_typing.specs.Declarations.{with_others, with_parts, with_variable}
use Rattle.c_unit_typing.specs.Files.{File, FileTyping}
use Rattle.c_unit_typing.specs.Lines.{initializer_line}
use Rattle.typing_laws.specs.Validity.Sound.{is_sized_array}
use Rattle.typing_laws.proofs.Validity.Common.{first, second}
use Rattle.typing_laws.specs.Declarators.Given.{AreCounted, IsShapeOf, IsSpecified}
use Rattle.typing_laws.proofs.Declarators.Recursion.{shape_extends}
use Rattle.typing_laws.specs.Declarations.Binding.{Binds, Declares, IfDeclared, IsCompleteFor, bound_meaning}
use Rattle.typing_laws.specs.Declarations.Binding.{unlinked_meaning}
use Rattle.typing_laws.proofs.Declarations.Bound.{Bound}
use Rattle.typing_laws.proofs.Declarations.Judged.{declared_as_declares}
use Rattle.typing_laws.specs.Scopes.Regular.{are_regular_declarators, initializer_of, is_regular_declaration}
use Rattle.typing_laws.specs.Scopes.Regular.{is_regular_initializer_if, is_regular_object}
use Rattle.typing_laws.proofs.Scopes.Declarations.{specified_extends}
use Rattle.typing_laws.specs.Layouts.Listed.{HasArrays, HasArraysOf, IfLaidOut, IsLaidOut}
use Rattle.typing_laws.specs.Layouts.Listed.{IsDeclared as HasDeclared}
use Rattle.typing_laws.proofs.Layouts.Arrays.{arrays_kept}
use Rattle.typing_laws.proofs.Layouts.Behind.{shape_behind}
use Rattle.typing_laws.proofs.Layouts.Declared.{declared_as_laid}
use Rattle.program_laws.specs.Bodies.Standing.{AreLinked, IsReady}
use Rattle.program_laws.specs.Bodies.Typed.{IfTyped}
use Rattle.program_laws.proofs.Bodies.Declared.{IfMade, declared_typed, placed_made}
use Rattle.program_laws.proofs.Bodies.Entities.{declared_linked}
use Rattle.program_laws.proofs.Bodies.Laid.{stored_laid}
use Rattle.program_laws.proofs.Bodies.Objects.{AreDeclared}
use Rattle.program_laws.specs.Statics.Added.{IfAdds}
use Rattle.program_laws.proofs.Statics.Added.{adds_same, adds_typed, from_file, state_then}
use Rattle.program_laws.proofs.Statics.Objects.{static_adds}
use Rattle.typing_laws.proofs.Common.{filed, some_mapped}

-- what is no object without linkage leaves the static objects of a file as they are

abbrev IfKept : {A : Type 0} → File → Answer (File × A) → Type 0
IfKept f (Ok r) = r.0.statics ≡ f.statics
IfKept f (Err e) = Unit {0}

variable_kept : (g : File) (n : ℕ) (b : Bool) (a : Answer (State × (List TypeWord × List Part)))
    → IfKept g (a >>= filed g >>= λ r. with_variable n b r.1 r.0)
variable_kept g n b (Ok r) = refl
variable_kept g n b (Err e) = tt

parts_kept : (g : File) (n : ℕ) (b : Bool) (a : Answer (State × (List TypeWord × List Part)))
    → IfKept g (a >>= filed g >>= λ r. with_parts n b r.1 r.0)
parts_kept g n true (Ok r) = refl
parts_kept g n false (Ok r) = refl
parts_kept g n b (Err e) = tt

-- a name without linkage that stands for a static object is of a complete type

record IsStaticName (env : Environment) (d : Declaration) (named : List TypeWord) : Type 0 where
  linkage : has_linkage (in_file env) d ≡ false
  storage : is_typedef d.storage ≡ false
  type : named ≡ d.type

not_linked : (w : Designated) (n : ℕ) → is_linked w ≡ true → w ≡ what.Static n → false ≡ true
not_linked w n l e = sym (ap is_linked e) ∙ l

designated : (w v : Designated) (s t : List TypeWord) → meaning.Named w s ≡ meaning.Named v t → w ≡ v
designated w v s t e = cc

by_storage : (env : Environment) (d : Declaration) (n : ℕ) (type : List TypeWord)
    → has_linkage (in_file env) d ≡ false → (z : Storage) → d.storage ≡ z
    → unlinked_meaning z env d ≡ meaning.Named (what.Static n) type → IsStaticName env d type
by_storage env d n type l storage.Typedef e g = absurd cc
by_storage env d n type l storage.Static e g = record { linkage = l; storage = ap is_typedef e; type = cc }
by_storage env d n type l storage.Absent e g = absurd cc
by_storage env d n type l storage.Auto e g = absurd cc
by_storage env d n type l storage.Register e g = absurd cc
by_storage env d n type l storage.Extern e g = absurd cc

static_name : (env : Environment) → AreLinked env → (d : Declaration) (n : ℕ) (type : List TypeWord) (b : Bool)
    → has_linkage (in_file env) d ≡ b → Bound b env d ≡ meaning.Named (what.Static n) type
    → IsStaticName env d type
static_name env linked d n type true e g =
    absurd (false≢true (not_linked _ n (declared_linked env d linked) (designated _ (what.Static n) _ type g)))
static_name env linked d n type false e g = by_storage env d n type e d.storage refl g

module _ (result : List TypeWord) where
  kept_adds : (f g : File) → IsReady f.state → g.statics ≡ f.statics → (a : Answer (File × List DeclaredVariable))
      → IfKept g a → IfTyped result variables_in variables_in AreDeclared f a → IfAdds result f a
  kept_adds f g ready e (Ok r) is typed =
      adds_typed result variables_in variables_in AreDeclared f r ready typed []
      (is ∙ e ∙ sym (append-nil f.statics)) tt
      (λ scope last stands ends. refl)
  kept_adds f g ready e (Err x) is typed = tt

  -- a declarator with a name

  module _ (f : File) (ready : IsReady f.state) (d : Declaration) (line : ℕ) (x : Option Initializer)
      (c : is_regular_initializer_if x ≡ true) (has : d.has_initializer ≡ is_some x) (u : State)
      (laid : IsLaidOut u) (h : Declares d f.state u) where
    complete_at : (type : List TypeWord) → IsStaticName f.state.environment d type
        → IsCompleteFor (extents u) (is_some x) type
    complete_at type is =
        subst (λ z. IsCompleteFor (extents u) (is_some x) z) (sym is.type)
        (subst (λ z. IsCompleteFor z (is_some x) d.type) (sym (ap (λ z. z.extents) h.binds.structures))
        (subst (λ z. IsCompleteFor (extents f.state) z d.type) has (h.complete is.linkage is.storage)))

    abbrev after : File
    after = record f { state = u }

    abbrev Answered : Meaning → Answer (File × List DeclaredVariable)
    Answered m = declared_with (d.name, line) x (Some m) after

    meant_adds : (m : Meaning) → bound_meaning f.state.environment d ≡ m → HasArraysOf (extents u) (Some m)
        → IfTyped result variables_in variables_in AreDeclared f (Answered m) → IfAdds result f (Answered m)
    meant_adds (meaning.Typedef type) e sizes typed =
        kept_adds f after ready refl (Answered (meaning.Typedef type)) refl typed
    meant_adds (meaning.Constant w) e sizes typed =
        kept_adds f after ready refl (Answered (meaning.Constant w)) refl typed
    meant_adds (meaning.Named (what.Function n) type) e sizes typed =
        kept_adds f after ready refl (Answered (meaning.Named (what.Function n) type)) refl typed
    meant_adds (meaning.Named (what.Library r) type) e sizes typed =
        kept_adds f after ready refl (Answered (meaning.Named (what.Library r) type)) refl typed
    meant_adds (meaning.Named (what.Variable n) type) e sizes typed =
        kept_adds f after ready refl (Answered (meaning.Named (what.Variable n) type))
        (variable_kept after n (is_some x) (initialized_if (what.Variable n) (d.name, line) type x u)) typed
    meant_adds (meaning.Named (what.Object n) type) e sizes typed =
        kept_adds f after ready refl (Answered (meaning.Named (what.Object n) type))
        (parts_kept after n (is_some x) (initialized_if (what.Object n) (d.name, line) type x u)) typed
    meant_adds (meaning.Named (what.Static n) type) e sizes typed =
        static_adds result f ready u h.formed (d.name, line) type x c laid
        (complete_at type (static_name f.state.environment ready.linked d n type
        (has_linkage (in_file f.state.environment) d) refl e))
        sizes n (subst (λ m. Binds d.name m f.state u) e h.binds) typed

  named_from : (f : File) → IsReady f.state → (d : Declaration) (line : ℕ) (x : Option Initializer)
      → is_regular_initializer_if x ≡ true → d.has_initializer ≡ is_some x
      → (a : Answer (State × Option Meaning)) → IfDeclared d f.state a → IfMade d f.state a
      → IfLaidOut (HasDeclared (is_some x)) a
      → IfAdds result f (a >>= filed f >>= λ r. declared_with (d.name, line) x r.1 r.0)
  named_from f ready d line x c has (Ok r) h made laid =
      let sizes = subst (HasArraysOf (extents r.0)) h.1 laid.1.arrays in
      subst (λ m. IfAdds result f (declared_with (d.name, line) x m (record f { state = r.0 }))) (sym h.1)
      (meant_adds f ready d line x c has r.0 laid.0 h.0 (bound_meaning f.state.environment d) refl sizes
      (declared_typed result f ready d line x c has r.0 h.0.formed made.judged h.0.sized laid.0 made.state h.0 sizes))
  named_from f ready d line x c has (Err e) h made laid = tt

  named_adds : (in_head : Bool) (spec : Specification) → is_sized_array spec.type ≡ true → (x : Option Initializer)
      → is_regular_initializer_if x ≡ true → (sh : Shape) → AreCounted sh.derivations → (name : Option (Name × ℕ))
      (f : File) → IsReady f.state → HasArrays f.state spec → IfAdds result f (named_by in_head spec x sh name f)
  named_adds in_head spec sized x c sh counted None f ready arrays = adds_same result f ready
  named_adds in_head spec sized x c sh counted (Some name) f ready arrays =
      let i = option_map initializer_line x in
      let d = declaration_of spec (built_in f.state spec sh) name i in
      named_from f ready d name.1 x c (some_mapped initializer_line x) (declared_as in_head spec sh i name f.state)
      (declared_as_declares in_head f.state ready.formed spec sized sh counted i name)
      (placed_made d f.state name spec.line (has_place in_head spec (built_in f.state spec sh).type))
      (subst (λ b. IfLaidOut (HasDeclared b) (declared_as in_head spec sh i name f.state))
      (some_mapped initializer_line x)
      (declared_as_laid in_head f.state ready.formed ready.laid spec sized arrays sh counted i name))

  declarator_adds : (in_head : Bool) (spec : Specification) → is_sized_array spec.type ≡ true → (d : t.InitDeclarator)
      → is_regular_object d (initializer_of d) ≡ true → (f : File) → IsReady f.state → HasArrays f.state spec
      → IfAdds result f (with_declarator in_head spec d f)
  declarator_adds in_head spec sized d c f ready arrays =
      state_then result (λ u sh. IsShapeOf u d.declarator sh) _ f ready (shape false d.declarator f.state)
      (λ sh. named_by in_head spec (initializer_of d) sh sh.name)
      (shape_extends false d.declarator (first _ _ c) f.state ready.formed)
      (shape_behind false d.declarator (first _ _ c) f.state ready.formed ready.laid)
      (λ sh g more h is has. named_adds in_head spec sized (initializer_of d) (second _ _ c) sh is.counted sh.name g h
      (arrays_kept (extents f.state) (extents g.state) more spec.type arrays))

  -- several declarators

  then_adds : {A B : Type 0} (spec : Specification) (f : File) (a : Answer (File × A)) (next : A → FileTyping B)
      → IfAdds result f a → HasArrays f.state spec
      → ((x : A) (g : File) → IsReady g.state → HasArrays g.state spec → IfAdds result g (next x g))
      → IfAdds result f (a >>= λ r. next r.1 r.0)
  then_adds spec f (Ok r) next h arrays k =
      from_file result f r.0 h (next r.1 r.0)
      (k r.1 r.0 h.ready
      (arrays_kept (extents f.state) (extents r.0.state) h.leads.state.more spec.type arrays))
  then_adds spec f (Err e) next h arrays k = tt

  others_add : (in_head : Bool) (spec : Specification) → is_sized_array spec.type ≡ true
      → (ds : List (Position × t.InitDeclarator))
      → list_all (λ d. is_regular_object d.1 (initializer_of d.1)) ds ≡ true → (vs : List DeclaredVariable) (f : File)
      → IsReady f.state → HasArrays f.state spec → IfAdds result f (with_others in_head spec ds vs f)
  others_add in_head spec sized [] c vs f ready arrays = adds_same result f ready
  others_add in_head spec sized (d ∷ ds) c vs f ready arrays =
      then_adds spec f (with_declarator in_head spec d.1 f) (λ us. with_others in_head spec ds (vs ++ us))
      (declarator_adds in_head spec sized d.1 (first _ _ c) f ready arrays) arrays
      (λ us g h arrays. others_add in_head spec sized ds (second _ _ c) (vs ++ us) g h arrays)

  alone_adds : (f : File) → IsReady f.state → (b : Bool) (line : ℕ)
      → IfAdds {A = List DeclaredVariable} result f
      ((if b then violates rule.MisplacedStorage line else Ok []) >>= (λ x. Ok (f.state, x)) >>= filed f)
  alone_adds f ready true line = tt
  alone_adds f ready false line = adds_same result f ready

  declarators_add : (in_head : Bool) (spec : Specification) → is_sized_array spec.type ≡ true
      → (ds : Option t.InitDeclarators) → are_regular_declarators ds ≡ true → (f : File) → IsReady f.state
      → HasArrays f.state spec → IfAdds result f (with_declarators in_head spec ds f)
  declarators_add in_head spec sized None c f ready arrays =
      alone_adds f ready
      (is_misplaced (in_file f.state.environment) false spec.storage || not (has_place in_head spec spec.type))
      spec.line
  declarators_add in_head spec sized (Some ds) c f ready arrays =
      then_adds spec f (with_declarator in_head spec ds.first f) (λ vs. with_others in_head spec ds.others vs)
      (declarator_adds in_head spec sized ds.first (first _ _ c) f ready arrays) arrays
      (λ vs g h arrays. others_add in_head spec sized ds.others (second _ _ c) vs g h arrays)

  pub declaration_adds : (in_head : Bool) (d : t.Declaration) → is_regular_declaration d ≡ true → (f : File)
      → IsReady f.state → IfAdds result f (declaration in_head d f)
  declaration_adds in_head d c f ready =
      state_then result IsSpecified HasArrays f ready (specified (is_none d.declarators) d f.state)
      (λ spec. with_declarators in_head spec d.declarators)
      (specified_extends (is_none d.declarators) d c f.state ready.formed)
      (stored_laid (is_none d.declarators) d.specifiers (first _ _ c) f.state ready.formed ready.laid)
      (λ spec g more h is has. declarators_add in_head spec is d.declarators (second _ _ c) g h has)
