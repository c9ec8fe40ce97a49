-- Good states, and what every part of a run makes of them: objects and tags are sound, objects stand in their regions
-- and apart, each variable whose block is entered has its home in a live object, each plain variable holds a value of
-- its type, and what an expression or an lvalue gives is sound and of its kind.
use Rattle.std.specs.Prelude.{◌≡◌, ◌⊎◌, ℕ, Bool, zero, suc, ◌+◌, ◌<◌, ◌≤◌, ◌^◌, true, false, if◌then◌else◌, List, []}
use Rattle.std.specs.Prelude.{◌∷◌, Option, Some, None, length, get_or}
use Rattle.behaviours.specs.Shown.{Access}
use Rattle.obj_memory.specs.declared.int_type.IntType.TheVariants.{Int}
use Rattle.obj_memory.specs.declared.value.Tag.TheVariants.{Untagged}
use Rattle.obj_memory.specs.declared.value.Scalar.{Scalar}
use Rattle.obj_memory.specs.declared.value.Scalar.TheVariants.{Integer, Pointer}
use Rattle.obj_memory.specs.declared.value.Value.{Value}
use Rattle.obj_memory.specs.Integers.{fit}
use Rattle.obj_memory.specs.Objects.{ObjectState, Objects, object_at}
use Rattle.obj_memory.specs.Heap.{is_allocated}
use Rattle.obj_memory.specs.Sound.{IsSoundObject, IsSoundTag, AreDisjoint}
use Rattle.c_tree.specs.declared.expression.Kind.{Kind}
use Rattle.c_tree.specs.declared.expression.Kind.TheVariants.{Void, Scalar as OfScalar, Structure, Array}
use Rattle.c_tree.specs.declared.expression.Routine.{Routine}
use Rattle.c_tree.specs.declared.expression.Update.{Update}
use Rattle.c_tree.specs.declared.expression.Update.TheVariants.{Arithmetic, Forward, Back}
use Rattle.c_tree.specs.declared.program.Variable.{Variable}
use Rattle.c_tree.specs.Kinds.{size_of_kind, Signature, routine_signature}
use Rattle.c_tree.specs.Tree.{Lvalue, lvalue, LvalueNode, automatic, static, deref, index, member, arrow}
use Rattle.c_tree.specs.Tree.{member_of_value, parenthesized_lvalue}
use Rattle.c_tree.specs.Programs.{Program}
use Rattle.c_tree.specs.Valid.{Scope, no_signature}
use Rattle.c_tree.specs.ValidProgram.{scope_in}
use Rattle.source_meaning.specs.State.{State, Rvalue, Home, NoObject, InObject, Outcome, Gives, Ended, Paused, Run, Env}
use Rattle.addr_map.specs.Places.{MapSizes, AreMapped, function_address}
use Rattle.source_meaning.specs.Actions.{integer}
use Rattle.source_meaning.specs.Library.{routine}
use Rattle.source_meaning.specs.Printing.{print_formatted}
use Rattle.source_meaning.specs.Expressions.{header_at, has_type}
use Rattle.source_meaning.specs.Statements.{Completion, Normal, Broken, Continued, Returned}
use Rattle.c_tree.specs.Blocks.{opened}
use Rattle.source_meaning.specs.Blocks.{Block}
use Rattle.source_meaning.specs.Keeping.{AreTagged, IsKept, ArePlaced, LivesOn, IsDirect, IsNamed, AreSeparate}

-- names

abbrev pub static_kind : List Kind → ℕ → Option Kind
static_kind [] n = None
static_kind (k ∷ ks) zero = Some k
static_kind (k ∷ ks) (suc n) = static_kind ks n

-- the kind of a variable that is an object
abbrev pub object_kind : List Variable → ℕ → Option Kind
object_kind [] x = None
object_kind (v ∷ vs) zero = if v.is_object then Some v.kind else None
object_kind (v ∷ vs) (suc x) = object_kind vs x

-- what an lvalue rests on: the name of an object, a pointer, or a structure value
pub data Basis : Type 0 where
  OnName : Basis
  OnPointer : Basis
  OnValue : Basis

abbrev mutual
  pub basis_of : Lvalue → Basis
  basis_of (lvalue kind line node) = node_basis node

  pub node_basis : LvalueNode → Basis
  node_basis (automatic x) = OnName
  node_basis (static n) = OnName
  node_basis (deref a) = OnPointer
  node_basis (index form size a b) = OnPointer
  node_basis (member p offset size) = basis_of p
  node_basis (arrow a offset size) = OnPointer
  node_basis (member_of_value a offset size) = OnValue
  node_basis (parenthesized_lvalue p) = basis_of p

abbrev pub signature_in : List Signature → ℕ → Signature
signature_in list n = get_or list n no_signature

-- what can be named outside all functions
abbrev pub file_scope : Program → Scope
file_scope p = scope_in p [] [] Void

-- states

-- an object that a name is of
pub record IsHeld (objects : Objects) (n : ℕ) (kind : Kind) : Type 0 where
  pub made : n < length objects
  pub live : (object_at objects n).is_live ≡ true
  pub held : is_allocated (object_at objects n).storage ≡ false
  pub size : (object_at objects n).size ≡ size_of_kind kind

-- the home of a variable that is an object
pub record HasHome (frame : List Home) (objects : Objects) (variable : ℕ) (kind : Kind) : Type 0 where
  pub object : ℕ
  pub home : get_or frame variable NoObject ≡ InObject object
  pub held : IsHeld objects object kind

abbrev pub AreLow : Objects → Type 0
AreLow objects = (n : ℕ) → (object_at objects n).address + (object_at objects n).size ≤ 1610612736

-- a word of 64 bits, where all functions of the program have addresses that are
abbrev pub IsWord : (functions : ℕ) → ℕ → Type 0
IsWord functions w = function_address functions ≤ 2 ^ 64 → w < 2 ^ 64

-- a value of a scalar type: an integer has no tag, and its word is one of its type
abbrev pub IsOfType : (functions : ℕ) → Scalar → Value → Type 0
IsOfType functions (Integer t) v = (v.tag ≡ Untagged) × (fit t v.word ≡ v.word)
IsOfType functions Pointer v = IsWord functions v.word

-- a value of a kind
abbrev pub IsOfKind : (functions : ℕ) → Kind → Value → Type 0
IsOfKind functions Void v = IsWord functions v.word
IsOfKind functions (OfScalar k) v = IsOfType functions k v
IsOfKind functions (Structure n) v = IsWord functions v.word
IsOfKind functions (Array n) v = IsWord functions v.word

abbrev pub AreOfKinds : (functions : ℕ) → List Kind → List Value → Type 0
AreOfKinds functions kinds values = (x : ℕ) → IsOfKind functions (get_or kinds x Void) (get_or values x (integer 0))

abbrev pub scalar_if : Kind → Option Scalar
scalar_if Void = None
scalar_if (OfScalar k) = Some k
scalar_if (Structure n) = None
scalar_if (Array n) = None

-- the type of a plain variable
abbrev pub plain_type : List Variable → ℕ → Option Scalar
plain_type [] x = None
plain_type (v ∷ vs) zero = if v.is_object then None else scalar_if v.kind
plain_type (v ∷ vs) (suc x) = plain_type vs x

-- each plain variable of a function is there and holds a value of its type, and those that can be named are as they are
-- declared
pub record AreTyped (functions : ℕ) (scope : Scope) (values : List Value) : Type 0 where
  pub there : (x : ℕ) (k : Scalar) → plain_type scope.all x ≡ Some k → x < length values
  pub value : (x : ℕ) (k : Scalar) → plain_type scope.all x ≡ Some k
      → IsOfType functions k (get_or values x (integer 0))
  pub named : (x : ℕ) (k : Scalar) → plain_type scope.variables x ≡ Some k → plain_type scope.all x ≡ Some k

-- the names of a function, and the sizes of the memory
pub record Context : Type 0 where
  pub scope : Scope
  pub sizes : MapSizes

-- the number of functions of the program
abbrev pub function_count : Context → ℕ
function_count sc = length sc.scope.functions

pub record IsGoodBy (sc : Context) (objects : Objects) (frame : List Home) (values : List Value)
    (accesses : List Access) (stacked : ℕ) : Type 0 where
  pub kept : IsKept (function_count sc) objects accesses
  pub low : AreLow objects
  pub statics : (n : ℕ) (kind : Kind) → static_kind sc.scope.statics n ≡ Some kind → IsHeld objects n kind
  pub homes : (x : ℕ) (kind : Kind) → object_kind sc.scope.variables x ≡ Some kind → HasHome frame objects x kind
  pub plain : AreTagged (function_count sc) values objects
  pub typed : AreTyped (function_count sc) sc.scope values
  pub separate : AreSeparate sc.sizes stacked objects

abbrev pub IsGood : Context → State → Type 0
IsGood sc s = IsGoodBy sc s.objects s.frame s.plain s.accesses s.stacked

abbrev pub EndsMade : (old new : Objects) → Type 0
EndsMade old new = (n : ℕ) → length old ≤ n → (object_at new n).is_live ≡ true
    → is_allocated (object_at new n).storage ≡ true

-- a good state is left for another, in which the same names are of the same objects
pub record Leaves (sc : Context) (before after : State) : Type 0 where
  pub good : IsGood sc after
  pub lives : LivesOn before.objects after.objects
  pub frame : after.frame ≡ before.frame
  pub ended : EndsMade before.objects after.objects

-- where a run ends or pauses, objects, plain values and accesses are kept
pub record Stops (functions : ℕ) (sizes : MapSizes) (old : Objects) (state : State) : Type 0 where
  pub kept : IsKept functions state.objects state.accesses
  pub plain : AreTagged functions state.plain state.objects
  pub low : AreLow state.objects
  pub lives : LivesOn old state.objects
  pub apart : AreDisjoint state.objects
  pub placed : ArePlaced sizes state.objects

abbrev pub After : {A : Type 0} → Context → State → (A → Objects → Type 0) → Outcome A → Type 0
After sc s Q (Gives a s') = Leaves sc s s' × Q a s'.objects
After sc s Q (Ended e s') = Stops (function_count sc) sc.sizes s.objects s'
After sc s Q (Paused s') = Stops (function_count sc) sc.sizes s.objects s'

pub record Sure {A : Type 0} (sc : Context) (P : Objects → Type 0) (run : Run A) (Q : A → Objects
    → Type 0) : Type 0 where
  pub by : (s : State) → IsGood sc s → P s.objects → After sc s Q (run s)

-- nothing is known
abbrev pub Any : Objects → Type 0
Any objects = Unit {0}

abbrev pub IsTagged : (functions : ℕ) → Value → Objects → Type 0
IsTagged functions v objects = IsSoundTag functions objects v.tag

-- contents are sound, and have some bytes from an offset on
pub record HasContents (functions size offset : ℕ) (object : ObjectState) (objects : Objects) : Type 0 where
  pub sound : IsSoundObject functions objects object
  pub room : offset + size ≤ object.size

-- the value of a structure of some bytes: a pointer to them, or its contents
abbrev pub StructureIs : (functions size : ℕ) → Option ObjectState → Value → Objects → Type 0
StructureIs functions n None v o = IsDirect o v n
StructureIs functions n (Some c) v o = HasContents functions n v.word c o

abbrev pub OfKind : (functions : ℕ) → Kind → Rvalue → Objects → Type 0
OfKind functions Void v o = v.contents ≡ None
OfKind functions (OfScalar k) v o = v.contents ≡ None
OfKind functions (Structure n) v o = StructureIs functions n v.contents v.value o
OfKind functions (Array n) v o = v.contents ≡ None

-- what an expression of a kind gives: its tag is sound, it is of its kind, and of a structure its bytes are there
pub record ValueIs (functions : ℕ) (kind : Kind) (value : Rvalue) (objects : Objects) : Type 0 where
  pub tag : IsSoundTag functions objects value.value.tag
  pub structure : OfKind functions kind value objects
  pub word : IsOfKind functions kind value.value

-- contents that were taken: so many bytes, from the first on
pub record HasTaken (functions size offset : ℕ) (object : ObjectState) (objects : Objects) : Type 0 where
  pub sound : IsSoundObject functions objects object
  pub whole : object.size ≡ size
  pub first : offset ≡ 0

abbrev pub TakenIs : (functions size : ℕ) → Option ObjectState → Value → Objects → Type 0
TakenIs functions n None v o = ⊥
TakenIs functions n (Some c) v o = HasTaken functions n v.word c o

abbrev pub TakenOf : (functions : ℕ) → Kind → Rvalue → Objects → Type 0
TakenOf functions Void v o = v.contents ≡ None
TakenOf functions (OfScalar k) v o = v.contents ≡ None
TakenOf functions (Structure n) v o = TakenIs functions n v.contents v.value o
TakenOf functions (Array n) v o = v.contents ≡ None

pub record ArgumentIs (functions : ℕ) (kind : Kind) (value : Rvalue) (objects : Objects) : Type 0 where
  pub tag : IsSoundTag functions objects value.value.tag
  pub structure : TakenOf functions kind value objects
  pub word : IsOfKind functions kind value.value

abbrev pub ArgumentsAre : (functions : ℕ) → List Kind → List Rvalue → Objects → Type 0
ArgumentsAre functions [] [] o = Unit {0}
ArgumentsAre functions [] (v ∷ vs) o = ⊥
ArgumentsAre functions (k ∷ ks) [] o = ⊥
ArgumentsAre functions (k ∷ ks) (v ∷ vs) o = ArgumentIs functions k v o × ArgumentsAre functions ks vs o

abbrev pub RvalueReach : (functions : ℕ) → Basis → (size : ℕ) → Option ObjectState → Value → Objects → Type 0
RvalueReach functions OnName size c v o = (c ≡ None) × IsNamed o v size
RvalueReach functions OnPointer size c v o = c ≡ None
RvalueReach functions OnValue size c v o = StructureIs functions size c v o

pub record LvalueIs (functions : ℕ) (basis : Basis) (kind : Kind) (value : Rvalue) (objects : Objects) : Type 0 where
  pub tag : IsSoundTag functions objects value.value.tag
  pub reach : RvalueReach functions basis (size_of_kind kind) value.contents value.value objects
  pub word : IsWord functions value.value.word

-- an access is judged where a pointer leads to it
abbrev pub on_pointer : Basis → Bool
on_pointer OnName = false
on_pointer OnPointer = true
on_pointer OnValue = false

-- what a place is that an access names or goes to
abbrev pub ReachBy : Basis → (size : ℕ) → Value → Objects → Type 0
ReachBy OnName size v objects = IsNamed objects v size
ReachBy OnPointer size v objects = Unit {0}
ReachBy OnValue size v objects = IsDirect objects v size

-- a place that a value can be written to: its tag is sound, and a name's bytes are there
abbrev pub PlaceIs : (functions : ℕ) → Basis → Kind → Value → Objects → Type 0
PlaceIs functions b kind q o = IsTagged functions q o × ReachBy b (size_of_kind kind) q o

-- the value of a return is a result of the function's kind
abbrev pub CompletionIs : (functions : ℕ) → (result : Kind) → Completion → Objects → Type 0
CompletionIs functions result Normal o = Unit {0}
CompletionIs functions result Broken o = Unit {0}
CompletionIs functions result Continued o = Unit {0}
CompletionIs functions result (Returned v) o = ArgumentIs functions result v o

-- what a function of a number takes and gives
abbrev pub taking : Context → ℕ → List Kind
taking sc f = (signature_in sc.scope.functions f).parameters

abbrev pub giving : Context → ℕ → Kind
giving sc f = (signature_in sc.scope.functions f).result

-- a value of a kind that has no contents
abbrev pub IsGiven : (functions : ℕ) → Kind → Value → Objects → Type 0
IsGiven functions kind v o = IsTagged functions v o × IsOfKind functions kind v

-- such values of some kinds
abbrev pub AreGiven : (functions : ℕ) → List Kind → List Value → Objects → Type 0
AreGiven functions kinds vs o = AreTagged functions vs o × AreOfKinds functions kinds vs

-- what the calls of an environment do
pub record Calling (sc : Context) (env : Env) : Type 0 where
  pub call : (f : ℕ) (vs : List Rvalue) (line : ℕ)
      → Sure sc (ArgumentsAre (function_count sc) (taking sc f) vs) (env.call f vs line)
      (ArgumentIs (function_count sc) (giving sc f))
  pub library : (r : Routine) (vs : List Value) (line : ℕ)
      → Sure sc (AreGiven (function_count sc) (routine_signature r).parameters vs) (routine env.setting r vs line)
      (IsGiven (function_count sc) (routine_signature r).result)
  pub print : (format : List ℕ) (vs : List Value) (line : ℕ)
      → Sure sc (AreTagged (function_count sc) vs) (print_formatted format vs line)
      (IsGiven (function_count sc) (OfScalar (Integer Int)))
  -- a function that has a type takes and gives what the type says
  pub typed : (f type : ℕ) → has_type (header_at env.setting.functions f) type ≡ true
      → signature_in sc.scope.functions f ≡ signature_in sc.scope.types type

-- where some variables can be named
abbrev pub context_of : Scope → (sizes : MapSizes) → (all variables : List Variable) → Context
context_of base sizes all variables = record { scope = record base { all = all; variables = variables }; sizes = sizes }

-- calls keep objects sound, whatever variables have homes
pub record Inside (base : Scope) (sizes : MapSizes) (env : Env) : Type 0 where
  pub calling : (variables : List Variable) → Calling (context_of base sizes env.variables variables) env
  pub at : env.setting.sizes ≡ sizes
  pub mapped : AreMapped sizes

-- an integer is updated by an operator, and a pointer by elements
abbrev pub Updates : Update → Scalar → Type 0
Updates (Arithmetic op t) (Integer s) = Unit {0}
Updates (Arithmetic op t) Pointer = ⊥
Updates (Forward size) (Integer s) = ⊥
Updates (Forward size) Pointer = Unit {0}
Updates (Back size) (Integer s) = ⊥
Updates (Back size) Pointer = Unit {0}

-- blocks

-- some homes are in objects with numbers from one on
abbrev pub AllFrom : (n : ℕ) → List Home → Type 0
AllFrom n [] = Unit {0}
AllFrom n (NoObject ∷ hs) = AllFrom n hs
AllFrom n (InObject k ∷ hs) = (n ≤ k) × AllFrom n hs

abbrev pub IsIn : (n : ℕ) → List Home → Type 0
IsIn n [] = ⊥
IsIn n (NoObject ∷ hs) = IsIn n hs
IsIn n (InObject k ∷ hs) = (n ≡ k) ⊎ IsIn n hs

-- objects that are made, and still live, are blocks of the heap, or in one of some homes
abbrev pub EndsBut : (old new : Objects) → List Home → Type 0
EndsBut old new homes = (n : ℕ) → length old ≤ n → (object_at new n).is_live ≡ true
    → (is_allocated (object_at new n).storage ≡ true) ⊎ IsIn n homes

-- a block that declares some variables is entered: these have homes too, in objects that are new
pub record IsEntered (base : Scope) (sizes : MapSizes) (all vars : List Variable) (numbers : List ℕ) (before : State)
    (b : Block) (after : State) : Type 0 where
  pub block : b ≡ record { homes = b.homes; frame = before.frame; stacked = before.stacked }
  pub good : IsGood (context_of base sizes all (opened numbers 0 all vars)) after
  pub lives : LivesOn before.objects after.objects
  pub new : AllFrom (length before.objects) b.homes
  pub ends : EndsBut before.objects after.objects b.homes

abbrev pub EntersBy : Scope → (sizes : MapSizes) → (all vars : List Variable) → (numbers : List ℕ) → State
    → Outcome Block → Type 0
EntersBy base sizes all vars numbers s (Gives b s') = IsEntered base sizes all vars numbers s b s'
EntersBy base sizes all vars numbers s (Ended e s') = Stops (length base.functions) sizes s.objects s'
EntersBy base sizes all vars numbers s (Paused s') = ⊥

-- calls

-- what can be named in some scope of a program
abbrev pub program_context : Program → (sizes : MapSizes) → Scope → Context
program_context p sizes around = record {
  scope = record around { statics = (file_scope p).statics; functions = (file_scope p).functions };
  sizes = sizes;
}

-- a call is set up: the callee's variables have homes, in objects that are new
pub record IsSetUp (sc : Context) (old : Objects) (state : State) : Type 0 where
  pub good : IsGood sc state
  pub lives : LivesOn old state.objects
  pub new : AllFrom (length old) state.frame
  pub ends : EndsBut old state.objects state.frame

abbrev pub SetsUpBy : Context → Objects → Outcome (Unit {0}) → Type 0
SetsUpBy sc old (Gives a s') = IsSetUp sc old s'
SetsUpBy sc old (Ended e s') = Stops (function_count sc) sc.sizes old s'
SetsUpBy sc old (Paused s') = Stops (function_count sc) sc.sizes old s'
