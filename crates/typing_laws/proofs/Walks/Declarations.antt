-- Declarations keep what each step of typing keeps (C99 6.7).
use Rattle.std.proofs.Common.{ℕ, Bool, true, false, List, [], ◌∷◌, ◌++◌, Option, Some, None, if◌then◌else◌, arith}
use Rattle.std.specs.Prelude.{Ok, is_none, is_some, not, option_map}
use Rattle.c_syntax.specs.declared.position.Position.{Position}
use Rattle.c_syntax.specs.Statements.{Declaration, InitDeclarator, InitDeclarators}
use Rattle.c_syntax.specs.Tree.{Initializer, Specifiers}
use Rattle.c_tree.specs.declared.c_type.TypeWord.{TypeWord}
use Rattle.c_tree.specs.declared.c_type.TypeWord.TheVariants as word
use Rattle.c_tree.specs.Extents.{extent_of}
use Rattle.c_tree.specs.Statements.{DeclaredVariable, Part}
use Rattle.c_faults.specs.declared.fault.Rule.TheVariants.{MisplacedStorage, Redeclared}
use Rattle.c_faults.specs.Answer.{violates}
use Rattle.c_declarators.specs.Derivations.{array_of, is_large}
use Rattle.c_initializer_rules.specs.Initializing.{begun}
use Rattle.c_initializer_rules.specs.Placed.{count_of}
use Rattle.c_scope.specs.declared.meaning.Designated.{Designated}
use Rattle.c_scope.specs.declared.meaning.Designated.TheVariants as what
use Rattle.c_scope.specs.declared.meaning.Meaning.{Meaning}
use Rattle.c_scope.specs.declared.meaning.Meaning.TheVariants as meaning
use Rattle.c_scope.specs.Declaring as declarators
use Rattle.c_scope.specs.Names.{Name, declared}
use Rattle.c_declarator_typing.specs.Declarators.{Shape, built_in, declaring}
use Rattle.c_declarator_typing.specs.Specifications.{Specification}
use Rattle.c_typing_state.specs.State.{State, extents, judged, ◌>>>◌}
use Rattle.c_expression_typing.specs.Typed.{specification}
use Rattle.c_unit_typing.specs.Declarations.{alone_in, completed, declaration, declaration_of, declared_as}
use Rattle.c_unit_typing.specs.Declarations.{declared_with, has_place, initialized_if, initializer_in, is_same_object}
use Rattle.c_unit_typing.specs.Declarations.{named_by, stored_once, with_declarator, with_declarators, with_others}
use Rattle.c_unit_typing.specs.Declarations.{with_parts}
use Rattle.c_unit_typing.specs.Files.{File}
use Rattle.c_unit_typing.specs.Lines.{initializer_line}
use Rattle.typing_laws.proofs.Declarations.Completed.{size_binds}
use Rattle.typing_laws.proofs.Walks.States.{FileWalking, StateWalk, Walking, done_walks, file_done, file_then}
use Rattle.typing_laws.proofs.Walks.States.{in_file_walks, judged_walks, refused_walks, same, step_walks}
use Rattle.typing_laws.proofs.Walks.States.{then_adds, then_walks}
use Rattle.typing_laws.proofs.Walks.Recursion.{shape_walks, specification_walks}
use Rattle.typing_laws.proofs.Walks.Steps.{binds_stand, declaring_walks}
use Rattle.typing_laws.proofs.Walks.Initializers.{initialized_walks}
use Rattle.typing_laws.proofs.Common.{unless_large}

module _ {holds : State → State → Type 0} (walk : StateWalk (λ n. holds)) where
  -- an array that gets its size

  large_by : (s : State) (d : Designated) (name : Name) (array : TypeWord) (element : List TypeWord) (line : ℕ)
      (large : Bool) → Walking walk 0 s (unless_large s d name array element line large)
  large_by s d name array element line true = refused_walks
  large_by s d name array element line false =
      step_walks (walk.stands _ s _ (binds_stand (size_binds s name d (array ∷ element))))

  sized_by : (s : State) (d : Designated) (name : Name) (array : TypeWord) (element : List TypeWord) (line : ℕ)
      (b : Bool)
      → Walking walk 0 s (if not b then violates Redeclared line
      else unless_large s d name array element line (is_large array))
  sized_by s d name array element line false = refused_walks
  sized_by s d name array element line true = large_by s d name array element line (is_large array)

  completed_walks : (s : State) (d : Designated) (name : Name × ℕ) (type : List TypeWord) (n : ℕ)
      → Walking walk 0 s (completed d name type n s)
  completed_walks s d name (word.OpenArray ∷ element) n =
      sized_by s d name.0 (array_of n (extent_of (extents s) element)) element name.1
      (is_same_object d name.0 (array_of n (extent_of (extents s) element) ∷ element) s.environment)
  completed_walks s d name _ n = done_walks

  initialized_if_walks : (d : Designated) (name : Name × ℕ) (type : List TypeWord) (x : Option Initializer) (s : State)
      → Walking walk 0 s (initialized_if d name type x s)
  initialized_if_walks d name type None s = done_walks
  initialized_if_walks d name type (Some x) s =
      then_walks (initialized_walks walk x (begun type) s) (λ i.
      then_walks (completed_walks i.0 d name type (count_of i.1.parts)) (λ r. done_walks))

  -- what is declared

  parts_walk : (n : ℕ) (b : Bool) (r : List TypeWord × List Part) (f : File) → FileWalking walk f (with_parts n b r f)
  parts_walk n true r f = record { by = same walk f.state }
  parts_walk n false r f = file_done

  declared_walks : (name : Name × ℕ) (x : Option Initializer) (m : Option Meaning) (f : File)
      → FileWalking walk f (declared_with name x m f)
  declared_walks name x (Some (meaning.Named (what.Variable n) type)) f =
      file_then (in_file_walks (initialized_if_walks (what.Variable n) name type x f.state)) (λ r.
      record { by = same walk r.0.state })
  declared_walks name x (Some (meaning.Named (what.Static n) type)) f =
      file_then (in_file_walks (initialized_if_walks (what.Static n) name type x f.state)) (λ r.
      record { by = same walk r.0.state })
  declared_walks name x (Some (meaning.Named (what.Object n) type)) f =
      file_then (in_file_walks (initialized_if_walks (what.Object n) name type x f.state)) (λ r.
      parts_walk n (is_some x) r.1 r.0)
  declared_walks name x _ f = file_done

  -- declarators

  pub found_walks : (d : declarators.Declaration) (name : Name × ℕ) (s : State)
      → Walking walk 1 s
      ((declaring name d >>> λ name. judged (λ s. Ok (declared name.0 s.environment.names.current))) s)
  found_walks d name s =
      then_adds {n = 0} (omega arith) (declaring_walks name d s) (λ r.
      judged_walks r.0 (Ok (declared r.1.0 r.0.environment.names.current)))

  placed_by : (b : Bool) (d : declarators.Declaration) (name : Name × ℕ) (line : ℕ) (s : State)
      → Walking walk 1 s (if b
      then (declaring name d >>> λ name. judged (λ s. Ok (declared name.0 s.environment.names.current))) s
      else violates MisplacedStorage line)
  placed_by true d name line s = found_walks d name s
  placed_by false d name line s = refused_walks

  declared_as_walks : (in_head : Bool) (spec : Specification) (sh : Shape) (initializer : Option ℕ) (name : Name × ℕ)
      (s : State) → Walking walk 1 s (declared_as in_head spec sh initializer name s)
  declared_as_walks in_head spec sh initializer name s =
      placed_by (has_place in_head spec (built_in s spec sh).type)
      (declaration_of spec (built_in s spec sh) name initializer) name spec.line s

  named_walks : (in_head : Bool) (spec : Specification) (x : Option Initializer) (sh : Shape) (name : Option (Name × ℕ))
      (f : File) → FileWalking walk f (named_by in_head spec x sh name f)
  named_walks in_head spec x sh None f = file_done
  named_walks in_head spec x sh (Some name) f =
      file_then (in_file_walks (declared_as_walks in_head spec sh (option_map initializer_line x) name f.state)) (λ m.
      declared_walks name x m.1 m.0)

  declarator_walks : (in_head : Bool) (spec : Specification) (d : InitDeclarator) (f : File)
      → FileWalking walk f (with_declarator in_head spec d f)
  declarator_walks in_head spec d f =
      file_then (in_file_walks (shape_walks walk false d.declarator f.state)) (λ sh.
      named_walks in_head spec (initializer_in d) sh.1 sh.1.name sh.0)

  others_walk : (in_head : Bool) (spec : Specification) (ds : List (Position × InitDeclarator))
      (vs : List DeclaredVariable) (f : File) → FileWalking walk f (with_others in_head spec ds vs f)
  others_walk in_head spec [] vs f = file_done
  others_walk in_head spec (d ∷ ds) vs f =
      file_then (declarator_walks in_head spec d.1 f) (λ us. others_walk in_head spec ds (vs ++ us.1) us.0)

  pub declarators_walk : (in_head : Bool) (spec : Specification) (ds : Option InitDeclarators) (f : File)
      → FileWalking walk f (with_declarators in_head spec ds f)
  declarators_walk in_head spec None f = in_file_walks {n = 0} (judged_walks f.state (alone_in in_head spec f.state))
  declarators_walk in_head spec (Some ds) f =
      file_then (declarator_walks in_head spec ds.first f) (λ vs. others_walk in_head spec ds.others vs.1 vs.0)

  pub stored_walks : (is_alone : Bool) (specs : Specifiers) (s : State)
      → Walking walk 0 s ((specification is_alone specs >>> λ spec. judged (stored_once spec)) s)
  stored_walks is_alone specs s =
      then_walks (specification_walks walk is_alone specs s) (λ spec. judged_walks spec.0 (stored_once spec.1 spec.0))

  pub declaration_walks : (in_head : Bool) (d : Declaration) (f : File) → FileWalking walk f (declaration in_head d f)
  declaration_walks in_head d f =
      file_then (in_file_walks (stored_walks (is_none d.declarators) d.specifiers f.state)) (λ spec.
      declarators_walk in_head spec.1 d.declarators spec.0)
