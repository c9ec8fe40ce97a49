-- A relation of files that the specifiers and each declarator of a declaration keep is kept by the declaration (C99
-- 6.7).
use Rattle.std.proofs.Common.{◌≡◌, ℕ, Bool, true, false, List, [], ◌∷◌, ◌++◌, Option, Some, None}
use Rattle.std.specs.Prelude.{Ok, Err, is_none}
use Rattle.std.specs.List.{list_all}
use Rattle.c_syntax.specs.declared.position.Position.{Position}
use Rattle.c_syntax.specs.Statements as t
use Rattle.c_syntax.specs.Tree.{Initializer}
use Rattle.c_tree.specs.Statements.{DeclaredVariable}
use Rattle.c_faults.specs.Answer.{Answer, ◌>>=◌}
use Rattle.c_scope.specs.Names.{Name}
use Rattle.c_declarator_typing.specs.Declarators.{Shape}
use Rattle.c_declarator_typing.specs.Specifications.{Specification}
use Rattle.c_typing_state.specs.State.{State}
use Rattle.c_expression_typing.specs.Typed.{shape}
use Rattle.c_unit_typing.specs.Declarations.{alone_in, declaration, named_by, specified, with_declarator}
use Rattle.c_unit_typing.specs.Declarations.{with_declarators}
use Rattle.c_unit_typing.specs.Declarations.{with_others}
use Rattle.c_unit_typing.specs.Files.{File, FileTyping}
use Rattle.typing_laws.specs.Validity.Sound.{IsFormed, is_sized_array}
use Rattle.typing_laws.proofs.Validity.Common.{first, second}
use Rattle.typing_laws.specs.Declarators.Extending.{Extending, Extends}
use Rattle.typing_laws.specs.Declarators.Given.{AreCounted, IsShapeOf, IsSpecified}
use Rattle.typing_laws.proofs.Declarators.Recursion.{shape_extends}
use Rattle.typing_laws.specs.Scopes.Leaving.{FileLeads, Leading}
use Rattle.typing_laws.specs.Scopes.Regular.{are_regular_declarators, initializer_of, is_regular_declaration}
use Rattle.typing_laws.specs.Scopes.Regular.{is_regular_initializer_if, is_regular_object}
use Rattle.typing_laws.proofs.Scopes.Declarations.{declarator_leads, specified_extends}
use Rattle.typing_laws.proofs.Scopes.Leading.{leads_by, state_leads}
use Rattle.typing_laws.proofs.Scopes.Statements.{IfFileBehind}
use Rattle.typing_laws.proofs.Common.{filed}

pub record DeclarationWalk (files : File → File → Type 0) : Type 0 where
  pub file_same : (f : File) → files f f
  pub file_on : (f g h : File) → FileLeads f g → files f g → files g h → files f h
  pub in_file : (f : File) (t : State) → Extends false f.state t → files f (record f { state = t })
  pub named : (in_head : Bool) (spec : Specification) → is_sized_array spec.type ≡ true → (x : Option Initializer)
      → is_regular_initializer_if x ≡ true → (sh : Shape) → AreCounted sh.derivations → (name : Option (Name × ℕ))
      (f : File) → IsFormed f.state → IfFileBehind files f (named_by in_head spec x sh name f)

module _ (files : File → File → Type 0) (walk : DeclarationWalk files) where
  from_file : {A : Type 0} (f g : File) → FileLeads f g → files f g → (a : Answer (File × A))
      → IfFileBehind files g a → IfFileBehind files f a
  from_file f g leads h (Ok r) k = walk.file_on f g r.0 leads h k
  from_file f g leads h (Err e) k = tt

  then_file : {A B : Type 0} (f : File) (a : Answer (File × A)) (next : A → FileTyping B) → Leading f a
      → IfFileBehind files f a → ((x : A) (g : File) → IsFormed g.state → IfFileBehind files g (next x g))
      → IfFileBehind files f (a >>= λ r. next r.1 r.0)
  then_file f (Ok r) next l h k = from_file f r.0 l h (next r.1 r.0) (k r.1 r.0 l.state.formed)
  then_file f (Err e) next l h k = tt

  state_then : {A B : Type 0} (f : File) (p : State → A → Type 0) (a : Answer (State × A)) (next : A → FileTyping B)
      → Extending false f.state p a
      → ((x : A) (g : File) → IsFormed g.state → p g.state x → IfFileBehind files g (next x g))
      → IfFileBehind files f (a >>= filed f >>= λ r. next r.1 r.0)
  state_then f p (Ok r) next is k =
      let g = record f { state = r.0 } in
      from_file f g (state_leads f r.0 (leads_by f.state r.0 is.0)) (walk.in_file f r.0 is.0) (next r.1 g)
      (k r.1 g is.0.formed is.1)
  state_then f p (Err e) next is k = tt

  declarator_walks : (in_head : Bool) (spec : Specification) → is_sized_array spec.type ≡ true
      → (d : t.InitDeclarator) → is_regular_object d (initializer_of d) ≡ true → (f : File) → IsFormed f.state
      → IfFileBehind files f (with_declarator in_head spec d f)
  declarator_walks in_head spec sized d c f formed =
      state_then f (λ u sh. IsShapeOf u d.declarator sh) (shape false d.declarator f.state)
      (λ sh. named_by in_head spec (initializer_of d) sh sh.name)
      (shape_extends false d.declarator (first _ _ c) f.state formed)
      (λ sh g h is. walk.named in_head spec sized (initializer_of d) (second _ _ c) sh is.counted sh.name g h)

  others_walk : (in_head : Bool) (spec : Specification) → is_sized_array spec.type ≡ true
      → (ds : List (Position × t.InitDeclarator))
      → list_all (λ d. is_regular_object d.1 (initializer_of d.1)) ds ≡ true → (vs : List DeclaredVariable) (f : File)
      → IsFormed f.state → IfFileBehind files f (with_others in_head spec ds vs f)
  others_walk in_head spec sized [] c vs f formed = walk.file_same f
  others_walk in_head spec sized (d ∷ ds) c vs f formed =
      then_file f (with_declarator in_head spec d.1 f) (λ us. with_others in_head spec ds (vs ++ us))
      (declarator_leads in_head spec sized d.1 (first _ _ c) f formed)
      (declarator_walks in_head spec sized d.1 (first _ _ c) f formed)
      (λ us g h. others_walk in_head spec sized ds (second _ _ c) (vs ++ us) g h)

  alone_walks : (f : File) (a : Answer (List DeclaredVariable))
      → IfFileBehind files f (a >>= (λ x. Ok (f.state, x)) >>= filed f)
  alone_walks f (Ok x) = walk.file_same f
  alone_walks f (Err e) = tt

  declarators_walk : (in_head : Bool) (spec : Specification) → is_sized_array spec.type ≡ true
      → (ds : Option t.InitDeclarators) → are_regular_declarators ds ≡ true → (f : File) → IsFormed f.state
      → IfFileBehind files f (with_declarators in_head spec ds f)
  declarators_walk in_head spec sized None c f formed = alone_walks f (alone_in in_head spec f.state)
  declarators_walk in_head spec sized (Some ds) c f formed =
      then_file f (with_declarator in_head spec ds.first f) (λ vs. with_others in_head spec ds.others vs)
      (declarator_leads in_head spec sized ds.first (first _ _ c) f formed)
      (declarator_walks in_head spec sized ds.first (first _ _ c) f formed)
      (λ vs g h. others_walk in_head spec sized ds.others (second _ _ c) vs g h)

  pub declaration_walks : (in_head : Bool) (d : t.Declaration) → is_regular_declaration d ≡ true → (f : File)
      → IsFormed f.state → IfFileBehind files f (declaration in_head d f)
  declaration_walks in_head d c f formed =
      state_then f IsSpecified (specified (is_none d.declarators) d f.state)
      (λ spec. with_declarators in_head spec d.declarators)
      (specified_extends (is_none d.declarators) d c f.state formed)
      (λ spec g h is. declarators_walk in_head spec is d.declarators (second _ _ c) g h)
