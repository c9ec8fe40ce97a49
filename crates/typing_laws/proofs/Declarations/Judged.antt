-- What is known of a declarator that violates no rule.
use Rattle.std.proofs.Common.{◌≡◌, ℕ, Bool, true, false, ◌&&◌, ◌||◌, refl, sym, ap, ◌∙◌, List, [], ◌∷◌}
use Rattle.std.proofs.Common.{Option, Some, None, if◌then◌else◌}
use Rattle.std.specs.Prelude.{Ok, Err, not, is_some}
use Rattle.c_tree.specs.declared.c_type.TypeWord.{TypeWord}
use Rattle.c_tree.specs.declared.c_type.TypeWord.TheVariants as word
use Rattle.c_tree.specs.Extents.{TypeExtent, extent_of}
use Rattle.c_faults.specs.declared.fault.Rule.TheVariants as rule
use Rattle.c_faults.specs.Answer.{Answer, violates, ◌>>=◌}
use Rattle.c_scope.specs.declared.meaning.Meaning.{Meaning}
use Rattle.c_scope.specs.declared.meaning.Storage.{Storage}
use Rattle.c_scope.specs.declared.meaning.Storage.TheVariants as storage
use Rattle.c_scope.specs.Declaring.{Declaration, Surroundings, has_linkage, is_complete, is_extern, is_function}
use Rattle.c_scope.specs.Declaring.{is_incomplete, is_misplaced, is_redeclared, is_tentative, is_typedef}
use Rattle.c_scope.specs.Declaring.{is_undefined, is_wrongly_initialized, judged, sized_by_initializer}
use Rattle.c_scope.specs.Environment.{Environment, in_file, surroundings, with_declarator}
use Rattle.c_scope.specs.Names.{Name, declared}
use Rattle.c_declarator_typing.specs.Declarators.{Shape, built_in}
use Rattle.c_declarator_typing.specs.Specifications.{Specification}
use Rattle.c_typing_state.specs.State.{State, extents}
use Rattle.c_unit_typing.specs.Declarations.{declaration_of, declared_as, has_place}
use Rattle.typing_laws.specs.Validity.Sound.{IsFormed, is_sized_array}
use Rattle.typing_laws.specs.Declarators.Given.{AreCounted}
use Rattle.typing_laws.proofs.Declarators.Types.{built_sized, object_type, without_faults}
use Rattle.typing_laws.specs.Declarations.Binding.{Declares, IfDeclared, IsCompleteFor, bound_meaning}
use Rattle.typing_laws.specs.Declarations.Binding.{linked_meaning, unlinked_meaning}
use Rattle.typing_laws.proofs.Declarations.Bound.{declarator_binds}
use Rattle.typing_laws.proofs.Declarations.Formed.{IsPlainMeaning, formed_behind}
use Rattle.typing_laws.proofs.Common.{passed, passed_some}

pub record IsJudged (s : Surroundings) (d : Declaration) : Type 0 where
  pub complete : is_incomplete s d ≡ false
  pub faultless : d.type_rule ≡ None
  pub rightly : is_wrongly_initialized d ≡ false

pub judged_known : (s : Surroundings) (d : Declaration) (x : Unit {0}) → judged s d ≡ Ok x → IsJudged s d
unfolding judged
judged_known s d x e =
    let a = passed (is_misplaced s.in_file (is_function d.type) d.storage) rule.MisplacedStorage d.specifiers_line _ x
    e in
    let b = passed (is_redeclared s d) rule.Redeclared d.line _ x a.1 in
    let c = passed (is_incomplete s d) rule.Incomplete d.line _ x b.1 in
    let f = passed_some d.type_rule d.line _ x c.1 in
    let g = passed (is_undefined s d) rule.MisplacedStorage d.line _ x f.1 in
    let h = passed (is_wrongly_initialized d) rule.MisplacedStorage d.initializer_line _ x g.1 in
    record { complete = c.0; faultless = f.0; rightly = h.0 }

-- what has no linkage and is no typedef name is complete

record Unlinked (in_file of_function has_extern : Bool) : Type 0 where
  inner : in_file ≡ false
  object : of_function ≡ false
  no_extern : has_extern ≡ false

unlinked_by : (typedef in_file of_function has_extern : Bool) → typedef ≡ false
    → (not typedef && (in_file || of_function || has_extern)) ≡ false → Unlinked in_file of_function has_extern
unlinked_by true a f x e g = absurd cc
unlinked_by false true f x e g = absurd cc
unlinked_by false false true x e g = absurd cc
unlinked_by false false false true e g = absurd cc
unlinked_by false false false false e g = record { inner = refl; object = refl; no_extern = refl }

pub complete_by : (typedef f x m tentative completed whole : Bool) → typedef ≡ false → f ≡ false → x ≡ false → m ≡ false
    → tentative ≡ false
    → (if typedef || f || x || m then false else if tentative then not completed else not whole) ≡ false
    → whole ≡ true
complete_by true f x m t c w a b d e g h = absurd cc
complete_by false true x m t c w a b d e g h = absurd cc
complete_by false false true m t c w a b d e g h = absurd cc
complete_by false false false true t c w a b d e g h = absurd cc
complete_by false false false false true c w a b d e g h = absurd cc
complete_by false false false false false c true a b d e g h = refl
complete_by false false false false false c false a b d e g h = absurd cc

pub first_false : (a b c d e : Bool) → a ≡ false → (a && b && c && d && e) ≡ false
first_false true b c d e g = absurd cc
first_false false b c d e g = refl

pub some_extent : (o : Option TypeExtent) → is_some o ≡ true → (e : TypeExtent) × (o ≡ Some e)
some_extent None e = absurd cc
some_extent (Some x) e = (x, refl)

element_sized : (type : List TypeWord) → is_sized_array type ≡ true → is_sized_array (sized_by_initializer type) ≡ true
element_sized [] e = e
element_sized (word.OpenArray ∷ element) e = e
element_sized (word.Void ∷ ws) e = e
element_sized (word.Integer t ∷ ws) e = e
element_sized (word.Enumeration n ∷ ws) e = e
element_sized (word.Pointer ∷ ws) e = e
element_sized (word.Array count bytes ∷ ws) e = e
element_sized (word.Structure n ∷ ws) e = e
element_sized (word.Const ∷ ws) e = e
element_sized (word.Takes ∷ ws) e = e
element_sized (word.Gives ∷ ws) e = e

either_sized : (b : Bool) (type : List TypeWord) → is_sized_array type ≡ true
    → is_sized_array (if b then sized_by_initializer type else type) ≡ true
either_sized true type e = element_sized type e
either_sized false type e = e

pub completed_for : (s : State) → IsFormed s → (d : Declaration) → is_sized_array d.type ≡ true
    → is_complete (extents s) d ≡ true → IsCompleteFor (extents s) d.has_initializer d.type
completed_for s formed d sized e =
    let type = if d.has_initializer then sized_by_initializer d.type else d.type in
    let known = some_extent (extent_of (extents s) type) e in
    record {
      extent = known.0;
      is = known.1;
      object = object_type (extents s) formed.sizes type (either_sized d.has_initializer d.type sized) known.0 known.1;
    }

unlinked_complete : (s : State) → IsFormed s → (d : Declaration) → is_sized_array d.type ≡ true
    → d.may_be_incomplete ≡ false → is_incomplete (surroundings s.environment d) d ≡ false
    → has_linkage (in_file s.environment) d ≡ false → is_typedef d.storage ≡ false
    → IsCompleteFor (extents s) d.has_initializer d.type
unlinked_complete s formed d sized must known unlinked no_typedef =
    let u = unlinked_by (is_typedef d.storage) (in_file s.environment) (is_function d.type)
    (is_extern d.storage) no_typedef
    unlinked in
    completed_for s formed d sized
    (complete_by (is_typedef d.storage) (is_function d.type) (is_extern d.storage) d.may_be_incomplete
    (is_tentative (in_file s.environment) d) (surroundings s.environment d).is_completed (is_complete (extents s) d)
    no_typedef u.object u.no_extern must
    (first_false (in_file s.environment) (not (is_typedef d.storage)) (not (is_function d.type)) (not d.has_initializer)
    (not (is_extern d.storage)) u.inner) known)

-- what the name is bound to is plain

unlinked_plain : (s : State) (d : Declaration) (z : Storage) → is_sized_array d.type ≡ true
    → IsPlainMeaning (unlinked_meaning z s.environment d)
unlinked_plain s d storage.Typedef sized = sized
unlinked_plain s d storage.Static sized = tt
unlinked_plain s d storage.Absent sized = tt
unlinked_plain s d storage.Auto sized = tt
unlinked_plain s d storage.Register sized = tt
unlinked_plain s d storage.Extern sized = tt

plain_by : (s : State) (d : Declaration) (b : Bool) → is_sized_array d.type ≡ true
    → IsPlainMeaning (if b then linked_meaning s.environment d else unlinked_meaning d.storage s.environment d)
plain_by s d true sized = tt
plain_by s d false sized = unlinked_plain s d d.storage sized

-- a declaration whose type is built without faults

pub record IsBuilt (d : Declaration) : Type 0 where
  pub sized : d.type_rule ≡ None → is_sized_array d.type ≡ true
  pub placed : d.type_rule ≡ None → d.may_be_incomplete ≡ false

pub declares_by : (s : State) → IsFormed s → (d : Declaration) → IsBuilt d → (x : Unit {0})
    → judged (surroundings s.environment d) d ≡ Ok x
    → Declares d s (record s { environment = with_declarator s.environment d })
declares_by s formed d h x e =
    let known = judged_known (surroundings s.environment d) d x e in
    let sized = h.sized known.faultless in
    let t = record s { environment = with_declarator s.environment d } in
    let binds = declarator_binds s d in
    record {
      binds = binds;
      complete = unlinked_complete s formed d sized (h.placed known.faultless) known.complete;
      sized = sized;
      formed = formed_behind d.name (bound_meaning s.environment d) s t binds formed
          (plain_by s d (has_linkage (in_file s.environment) d) sized);
    }

abbrev pub in_environment : State → Name × ℕ → Environment → Answer (State × (Name × ℕ))
in_environment s name env = Ok (record s { environment = env }, name)

abbrev pub found_in : State × (Name × ℕ) → Answer (State × Option Meaning)
found_in r = Ok (r.0, declared r.1.0 r.0.environment.names.current)

-- the answer of a declarator, where its name is declared
abbrev pub answered : (d : Declaration) → (s : State) → (name : Name × ℕ) → Answer (Unit {0})
    → Answer (State × Option Meaning)
answered d s name a =
    (a >>= (λ done. Ok (with_declarator s.environment d)) >>= in_environment s name) >>= found_in

pub if_declared : (s : State) → IsFormed s → (d : Declaration) → IsBuilt d → (name : Name × ℕ) → d.name ≡ name.0
    → (a : Answer (Unit {0})) → judged (surroundings s.environment d) d ≡ a
    → IfDeclared d s (answered d s name a)
if_declared s formed d h name is (Ok x) e =
    let declares = declares_by s formed d h x e in
    (declares, ap (λ z. declared z (with_declarator s.environment d).names.current) (sym is) ∙ declares.binds.here)
if_declared s formed d h name is (Err f) e = tt

placed_by : (s : State) → IsFormed s → (d : Declaration) → IsBuilt d → (name : Name × ℕ) → d.name ≡ name.0
    → (line : ℕ) (b : Bool)
    → IfDeclared d s (if b then answered d s name (judged (surroundings s.environment d) d)
    else violates rule.MisplacedStorage line)
placed_by s formed d h name is line true = if_declared s formed d h name is (judged
    (surroundings s.environment d) d) refl
placed_by s formed d h name is line false = tt

pub built_declaration : (s : State) → IsFormed s → (spec : Specification) → is_sized_array spec.type ≡ true
    → (sh : Shape) → AreCounted sh.derivations → (name : Name × ℕ) (initializer : Option ℕ)
    → IsBuilt (declaration_of spec (built_in s spec sh) name initializer)
built_declaration s formed spec sized sh counted name initializer = record {
  sized = λ e.
      built_sized (extents s) formed.sizes spec.type sized sh.derivations counted
      (without_faults (built_in s spec sh).faults e);
  placed = λ e. (without_faults (built_in s spec sh).faults e).placed;
}

pub declared_as_declares : (in_head : Bool) (s : State) → IsFormed s → (spec : Specification)
    → is_sized_array spec.type ≡ true → (sh : Shape) → AreCounted sh.derivations → (initializer : Option ℕ)
    (name : Name × ℕ)
    → IfDeclared (declaration_of spec (built_in s spec sh) name initializer) s
    (declared_as in_head spec sh initializer name s)
declared_as_declares in_head s formed spec sized sh counted initializer name =
    placed_by s formed (declaration_of spec (built_in s spec sh) name initializer)
    (built_declaration s formed spec sized sh counted name initializer) name refl spec.line
    (has_place in_head spec (built_in s spec sh).type)
