-- What declarators declare keeps states laid out, and is of a type whose arrays have the bytes of their elements.
use Rattle.std.proofs.Common.{◌≡◌, ℕ, Bool, true, false, refl, sym, ap, ◌∙◌, subst, List}
use Rattle.std.proofs.Common.{Option, Some, None, if◌then◌else◌}
use Rattle.std.specs.Prelude.{Ok, Err, not, is_some, ◌&&◌, ◌||◌}
use Rattle.c_tree.specs.declared.c_type.TypeWord.{TypeWord}
use Rattle.c_tree.specs.Extents.{TypeExtent}
use Rattle.c_faults.specs.declared.fault.Rule.TheVariants as rule
use Rattle.c_faults.specs.Answer.{Answer, violates}
use Rattle.c_scope.specs.declared.meaning.Meaning.{Meaning}
use Rattle.c_scope.specs.declared.meaning.Meaning.TheVariants as meaning
use Rattle.c_scope.specs.declared.meaning.Storage.{Storage}
use Rattle.c_scope.specs.declared.meaning.Storage.TheVariants as storage
use Rattle.c_scope.specs.Composite.{composite}
use Rattle.c_scope.specs.Declaring.{Declaration, has_linkage, is_complete, is_extern, is_function, is_linked}
use Rattle.c_scope.specs.Declaring.{is_tentative, is_typedef, judged}
use Rattle.c_scope.specs.Environment.{Environment, in_file, surroundings, type_or, visible_type}
use Rattle.c_scope.specs.Environment.{with_declarator}
use Rattle.c_scope.specs.Names.{Name, declared, found, or_else}
use Rattle.c_scope.specs.Names as names
use Rattle.c_current_object.specs.Members.{lists_in}
use Rattle.c_declarator_typing.specs.Declarators.{Shape, built_in}
use Rattle.c_declarator_typing.specs.Specifications.{Specification}
use Rattle.c_typing_state.specs.State.{State, extents}
use Rattle.c_unit_typing.specs.Declarations.{declaration_of, declared_as, has_place}
use Rattle.typing_laws.specs.Validity.Sound.{IsFormed, is_sized_array}
use Rattle.typing_laws.specs.Declarators.Given.{AreCounted}
use Rattle.typing_laws.proofs.Declarators.Types.{without_faults}
use Rattle.typing_laws.specs.Declarations.Binding.{Binds, IfDeclared, IsCompleteFor, bound_meaning}
use Rattle.typing_laws.specs.Declarations.Binding.{linked_meaning, unlinked_meaning}
use Rattle.typing_laws.proofs.Declarations.Judged.{IsBuilt, IsJudged, answered, built_declaration, complete_by}
use Rattle.typing_laws.proofs.Declarations.Judged.{completed_for, declared_as_declares, judged_known}
use Rattle.typing_laws.specs.Layouts.Listed.{AreListed, HasArrays, HasArraysIn, HasArraysOf, IfLaidOut}
use Rattle.typing_laws.specs.Layouts.Listed.{IsLaidOut}
use Rattle.typing_laws.specs.Layouts.Listed.{HasSizes, IsCompleteIf, IsDeclared, has_array_bytes}
use Rattle.typing_laws.proofs.Layouts.Arrays.{built_arrays}
use Rattle.typing_laws.proofs.Layouts.Chained.{either_meaning}
use Rattle.typing_laws.proofs.Layouts.Composite.{joined_complete, joined_sizes}

-- a name that is bound

arrays_in : (es : List (Option TypeExtent)) (m : Meaning) → HasArraysOf es (Some m) → HasArraysIn es m
arrays_in es (meaning.Typedef type) h = h
arrays_in es (meaning.Constant w) h = tt
arrays_in es (meaning.Named what type) h = λ linked. h

pub laid_out_binds : (name : Name) (m : Meaning) (s t : State) → Binds name m s t → HasArraysIn (extents s) m
    → IsLaidOut s → IsLaidOut t
laid_out_binds name m s t b arrays h = record {
  lists = subst (λ z. AreListed z.extents (lists_in z)) (sym b.structures) h.lists;
  names = λ other x is.
      subst (λ z. HasArraysIn z.extents x) (sym b.structures)
      (either_meaning (λ x. x ≡ m) (HasArraysIn (extents s)) (declared other s.environment.names.current)
      (declared other t.environment.names.current) (found other s.environment.names.outer) (b.names other)
      (h.names other) (λ x e. subst (HasArraysIn (extents s)) (sym e) arrays) x
      (ap (λ z. or_else (declared other t.environment.names.current) (found other z)) (sym b.outer) ∙ is));
}

-- the type that a name gets

linked_by : (es : List (Option TypeExtent)) (visible type : List TypeWord) (b : Bool)
    → (b ≡ true → HasSizes es visible) → HasSizes es type
    → HasSizes es (if b then type_or (composite visible type) type else type)
linked_by es visible type true h is = joined_sizes es visible type (h refl) is
linked_by es visible type false h is = is

visible_sizes : (es : List (Option TypeExtent)) (type : List TypeWord) (o : Option Meaning)
    → ((m : Meaning) → o ≡ Some m → HasArraysIn es m) → HasSizes es type → HasSizes es (visible_type type o)
visible_sizes es type None h is = is
visible_sizes es type (Some (meaning.Typedef other)) h is = is
visible_sizes es type (Some (meaning.Constant w)) h is = is
visible_sizes es type (Some (meaning.Named d visible)) h is =
    linked_by es visible type (is_linked d) (h (meaning.Named d visible) refl) is

unlinked_arrays : (es : List (Option TypeExtent)) (z : Storage) (env : Environment) (d : Declaration)
    → HasSizes es d.type → HasArraysOf es (Some (unlinked_meaning z env d))
unlinked_arrays es storage.Typedef env d is = is.arrays
unlinked_arrays es storage.Static env d is = is
unlinked_arrays es storage.Absent env d is = is
unlinked_arrays es storage.Auto env d is = is
unlinked_arrays es storage.Register env d is = is
unlinked_arrays es storage.Extern env d is = is

bound_by : (s : State) (d : Declaration) (b : Bool) → IsLaidOut s → HasSizes (extents s) d.type
    → HasArraysOf (extents s)
    (Some (if b then linked_meaning s.environment d else unlinked_meaning d.storage s.environment d))
bound_by s d true laid is =
    visible_sizes (extents s) d.type (names.meaning d.name s.environment.names) (laid.names d.name) is
bound_by s d false laid is = unlinked_arrays (extents s) d.storage s.environment d is

-- it is complete where there is an initializer

linked_complete : (es : List (Option TypeExtent)) (visible type : List TypeWord) (b : Bool)
    → (b ≡ true → HasSizes es visible) → IsCompleteFor es true type
    → IsCompleteFor es true (if b then type_or (composite visible type) type else type)
linked_complete es visible type true h is = joined_complete es visible type (h refl).sized is
linked_complete es visible type false h is = is

visible_complete : (es : List (Option TypeExtent)) (type : List TypeWord) (o : Option Meaning)
    → ((m : Meaning) → o ≡ Some m → HasArraysIn es m) → IsCompleteFor es true type
    → IsCompleteFor es true (visible_type type o)
visible_complete es type None h is = is
visible_complete es type (Some (meaning.Typedef other)) h is = is
visible_complete es type (Some (meaning.Constant w)) h is = is
visible_complete es type (Some (meaning.Named d visible)) h is =
    linked_complete es visible type (is_linked d) (h (meaning.Named d visible) refl) is

unlinked_complete : (es : List (Option TypeExtent)) (z : Storage) (env : Environment) (d : Declaration)
    → IsCompleteFor es true d.type → IsCompleteIf es true (Some (unlinked_meaning z env d))
unlinked_complete es storage.Typedef env d is = tt
unlinked_complete es storage.Static env d is = is
unlinked_complete es storage.Absent env d is = is
unlinked_complete es storage.Auto env d is = is
unlinked_complete es storage.Register env d is = is
unlinked_complete es storage.Extern env d is = is

bound_complete : (s : State) (d : Declaration) (b : Bool) → IsLaidOut s → IsCompleteFor (extents s) true d.type
    → IsCompleteIf (extents s) true
    (Some (if b then linked_meaning s.environment d else unlinked_meaning d.storage s.environment d))
bound_complete s d true laid is =
    visible_complete (extents s) d.type (names.meaning d.name s.environment.names) (laid.names d.name) is
bound_complete s d false laid is = unlinked_complete (extents s) d.storage s.environment d is

no_other : (a b c : Bool) → (true && (a || b || c)) ≡ false → (a ≡ false) × (b ≡ false) × (c ≡ false)
no_other true b c e = absurd cc
no_other false true c e = absurd cc
no_other false false true e = absurd cc
no_other false false false e = (refl, refl, refl)

not_tentative : (a b c d : Bool) → (a && b && c && false && d) ≡ false
not_tentative true true true d = refl
not_tentative true true false d = refl
not_tentative true false c d = refl
not_tentative false b c d = refl

initialized_complete : (s : State) → IsFormed s → (d : Declaration) → is_sized_array d.type ≡ true
    → d.may_be_incomplete ≡ false → IsJudged (surroundings s.environment d) d → d.has_initializer ≡ true
    → IsCompleteFor (extents s) true d.type
initialized_complete s formed d sized must known has =
    let wrong = no_other (is_typedef d.storage) (is_extern d.storage) (is_function d.type)
    (ap (λ b. b && (is_typedef d.storage || is_extern d.storage || is_function d.type)) (sym has) ∙ known.rightly) in
    let tentative = ap (λ b. in_file s.environment && not (is_typedef d.storage) && not (is_function d.type) && not b
    && not (is_extern d.storage)) has
    ∙ not_tentative (in_file s.environment) (not (is_typedef d.storage)) (not (is_function d.type))
    (not (is_extern d.storage)) in
    subst (λ b. IsCompleteFor (extents s) b d.type) has
    (completed_for s formed d sized
    (complete_by (is_typedef d.storage) (is_function d.type) (is_extern d.storage) d.may_be_incomplete
    (is_tentative (in_file s.environment) d) (surroundings s.environment d).is_completed (is_complete (extents s) d)
    wrong.0 wrong.2 wrong.1 must tentative known.complete))

complete_if : (s : State) (d : Declaration) (b : Bool) (m : Meaning)
    → (b ≡ true → IsCompleteIf (extents s) true (Some m)) → IsCompleteIf (extents s) b (Some m)
complete_if s d true m h = h refl
complete_if s d false m h = tt

-- a declarator

pub declared_by : (s : State) → IsFormed s → IsLaidOut s → (d : Declaration) → IsBuilt d
    → (d.type_rule ≡ None → has_array_bytes (extents s) d.type ≡ true) → (name : Name × ℕ) (a : Answer (Unit {0}))
    → judged (surroundings s.environment d) d ≡ a → IfDeclared d s (answered d s name a)
    → IfLaidOut (IsDeclared d.has_initializer) (answered d s name a)
declared_by s formed laid d built arrays name (Ok x) e h =
    let known = judged_known (surroundings s.environment d) d x e in
    let m = bound_meaning s.environment d in
    let t = record s { environment = with_declarator s.environment d } in
    let sizes : HasSizes (extents s) d.type = record { arrays = arrays known.faultless; sized = h.0.sized } in
    let is = bound_by s d (has_linkage (in_file s.environment) d) laid sizes in
    let complete = complete_if s d d.has_initializer m
    (λ has. bound_complete s d (has_linkage (in_file s.environment) d) laid
    (initialized_complete s formed d h.0.sized (built.placed known.faultless) known has)) in
    let binds = h.0.binds in (
      laid_out_binds d.name m s t binds (arrays_in (extents s) m is) laid,
      subst (IsDeclared d.has_initializer t) (sym h.1) (record {
        arrays = subst (λ z. HasArraysOf z.extents (Some m)) (sym binds.structures) is;
        complete = subst (λ z. IsCompleteIf z.extents d.has_initializer (Some m)) (sym binds.structures) complete;
      }),
    )
declared_by s formed laid d built arrays name (Err f) e h = tt

placed_by : (s : State) → IsFormed s → IsLaidOut s → (d : Declaration) → IsBuilt d
    → (d.type_rule ≡ None → has_array_bytes (extents s) d.type ≡ true) → (name : Name × ℕ) (line : ℕ) (b : Bool)
    → IfDeclared d s
    (if b then answered d s name (judged (surroundings s.environment d) d) else violates rule.MisplacedStorage line)
    → IfLaidOut (IsDeclared d.has_initializer)
    (if b then answered d s name (judged (surroundings s.environment d) d) else violates rule.MisplacedStorage line)
placed_by s formed laid d built arrays name line true h =
    declared_by s formed laid d built arrays name (judged (surroundings s.environment d) d) refl h
placed_by s formed laid d built arrays name line false h = tt

pub declared_as_laid : (in_head : Bool) (s : State) → IsFormed s → IsLaidOut s → (spec : Specification)
    → is_sized_array spec.type ≡ true → HasArrays s spec → (sh : Shape) → AreCounted sh.derivations
    → (initializer : Option ℕ) (name : Name × ℕ)
    → IfLaidOut (IsDeclared (is_some initializer)) (declared_as in_head spec sh initializer name s)
declared_as_laid in_head s formed laid spec sized arrays sh counted initializer name =
    placed_by s formed laid (declaration_of spec (built_in s spec sh) name initializer)
    (built_declaration s formed spec sized sh counted name initializer)
    (λ e. built_arrays (extents s) spec.type arrays sh.derivations (without_faults (built_in s spec sh).faults e))
    name spec.line (has_place in_head spec (built_in s spec sh).type)
    (declared_as_declares in_head s formed spec sized sh counted initializer name)
