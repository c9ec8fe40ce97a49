-- `int main(void)` is defined in a file that is accepted (C99 5.1.2.2.1).
use Rattle.std.proofs.Common.{◌≡◌, ℕ, zero, suc, ◌+◌, ◌<◌, Bool, true, false, ◌&&◌, ◌==◌, refl, sym, ap}
use Rattle.std.proofs.Common.{◌∙◌, subst, List, [], ◌∷◌, length, map, Option, Some, None, if◌then◌else◌, arith}
use Rattle.std.specs.Prelude.{Ok, Err, codes, get_or, slice_get, nat_le}
use Rattle.std.proofs.lemmas.Bool.{and_from, le-leb, lt-ltb}
use Rattle.obj_memory.specs.declared.int_type.IntType.TheVariants.{Int}
use Rattle.c_syntax.specs.Statements as t
use Rattle.c_tree.specs.declared.c_type.TypeWord.{TypeWord}
use Rattle.c_tree.specs.declared.c_type.TypeWord.TheVariants as word
use Rattle.c_tree.specs.declared.expression.Kind.{Kind}
use Rattle.c_tree.specs.declared.expression.Kind.TheVariants as kind
use Rattle.c_tree.specs.Programs.{Function, Program, StaticObject}
use Rattle.c_tree.specs.Extents.{TypeExtent}
use Rattle.c_tree.specs.Room.{room}
use Rattle.c_tree.specs.TypesAgree.{same_words}
use Rattle.c_tree.specs.Valid.{Scope, has_number, no_signature}
use Rattle.c_tree.specs.ValidProgram.{is_main, is_main_signature, scope_in, signature_at, signature_of, signatures_of}
use Rattle.c_facts.specs.Facts.{Found, facts_in, found_in, nothing_found, with_external}
use Rattle.c_faults.specs.Answer.{Answer, ◌>>=◌}
use Rattle.c_rules.proofs.SameTypes.{both_true, words_are}
use Rattle.c_scope.specs.declared.meaning.Designated as what
use Rattle.c_scope.specs.declared.meaning.Designated.TheVariants as whats
use Rattle.c_scope.specs.declared.meaning.Entity.{Entity}
use Rattle.c_scope.specs.Declaring.{is_function}
use Rattle.c_scope.specs.Environment.{Facts, number_or}
use Rattle.c_scope.specs.Names.{Name, Names, declared, is_empty, is_name}
use Rattle.c_scope.specs.Start.{start}
use Rattle.c_operand_typing.specs.Calls.{place_among}
use Rattle.c_operand_typing.specs.Primaries.{is_undefined}
use Rattle.c_typing_state.specs.State.{extents}
use Rattle.c_unit_typing.specs.Files.{Definition, File, FileTyping}
use Rattle.c_unit_typing.specs.Programs.{function_of, function_type, functions_from, number_or_zero, program_of}
use Rattle.c_unit_typing.specs.Programs.{result_kind, room_of}
use Rattle.c_unit_typing.specs.Programs.{static_objects}
use Rattle.c_unit_typing.specs.Units as units
use Rattle.c_unit_typing.specs.Units.{external, externals, file_before, file_with}
use Rattle.typing_laws.proofs.Validity.Common.{first, no_value, second, the_same}
use Rattle.typing_laws.proofs.Validity.PointerCalls.{place_get}
use Rattle.typing_laws.specs.Validity.Names.{IsFunctionOf}
use Rattle.typing_laws.specs.Validity.Sound.{IsTypeOf}
use Rattle.typing_laws.specs.Scopes.Leaving.{Grows, Growing}
use Rattle.typing_laws.specs.Scopes.Regular.{are_regular_externals}
use Rattle.typing_laws.proofs.Scopes.Files.{external_grows, externals_grow}
use Rattle.typing_laws.proofs.Scopes.Start.{file_formed, start_facts}
use Rattle.typing_laws.specs.Scopes.Defined.{define_functions}
use Rattle.program_laws.proofs.Files.Definitions.{external_typed}
use Rattle.program_laws.proofs.Files.Ends.{IsEnded, answer, behind_all, file_outside, same_ok}
use Rattle.program_laws.proofs.Files.Files.{IfAddsOutside, IsOutside, external_adds}
use Rattle.program_laws.proofs.Files.Functions.{start_types, types_end}
use Rattle.program_laws.proofs.Files.FunctionWords.{function_agrees}
use Rattle.program_laws.proofs.Files.Spelled.{IfTypes}
use Rattle.program_laws.proofs.Files.Statics.{get_low}
use Rattle.typing_laws.specs.SpelledTypes.Spelled.{IsFunctionType}
use Rattle.typing_laws.specs.Types.Typed.{Types}
use Rattle.typing_laws.proofs.Types.States.{words_same}
use Rattle.program_laws.specs.Functions.Entities.{is_library, names_function, number_of, without_sizes}
use Rattle.program_laws.specs.Functions.Functions.{Functions, HasTypeAndRoom, IsDefinition, Registered}
use Rattle.program_laws.proofs.Functions.Words.{spells_alike}
use Rattle.program_laws.proofs.Functions.Files.{FunctionsOf, IfDefines, external_defines}
use Rattle.typing_laws.proofs.Common.{conflict, same_number}
use Rattle.typing_laws.proofs.Types.Steps.{each_got}

-- one behind the other

then_defines : {B : Type 0} (f : File) (numbers last : Names ℕ) (a : Answer (File × Unit {0}))
    (next : Unit {0} → FileTyping B) → IsOutside f → Growing f a → IfAddsOutside f a → IfTypes a → IfDefines numbers a
    → ((g : File) → IsOutside g → Types g.state → FunctionsOf g numbers → IfDefines last (next tt g))
    → IfDefines last (a >>= λ r. next r.1 r.0)
then_defines f numbers last (Ok r) next is grows adds types h k =
    k r.0 (record { formed = grows.formed; linked = adds.adds.linked; file = ap is_empty adds.outer ∙ is.file }) types h
then_defines f numbers last (Err e) next is grows adds types h k = tt

pub externals_define : (es : List t.External) → are_regular_externals es ≡ true → define_functions es ≡ true
    → (f : File) (q : Found) → FunctionsOf f q.facts.functions → IsOutside f → Types f.state
    → IfDefines (found_in es q).facts.functions (externals es f)
externals_define [] c d f q h out types = h
externals_define (e ∷ es) c d f q h out types =
    then_defines f (with_external e q).facts.functions (found_in es (with_external e q)).facts.functions (external e f)
    (λ done. externals es) out (external_grows e (first _ _ c) f out.formed) (external_adds e (first _ _ c) f out)
    (external_typed e (first _ _ c) (first _ _ d) f out.formed types)
    (external_defines e (first _ _ c) (first _ _ d) f q h out types)
    (λ g out types h. externals_define es (second _ _ c) (second _ _ d) g (with_external e q) h out types)

-- the start: the library's functions alone, of which none is `main`

abbrev all_library : Names Entity → Bool
all_library [] = true
all_library (e ∷ es) = (is_library e.1.what && e.1.is_defined) && all_library es

library_by : (name : Name) (x : Entity) (e : Name × Entity) (es : Names Entity) (b : Bool)
    → all_library (e ∷ es) ≡ true
    → (all_library es ≡ true → declared name es ≡ Some x → (is_library x.what && x.is_defined) ≡ true)
    → (if b then Some e.1 else declared name es) ≡ Some x → (is_library x.what && x.is_defined) ≡ true
library_by name x e es true all h g =
    ap (λ z. is_library z.what && z.is_defined) (sym (the_same g))
    ∙ (both_true (is_library e.1.what && e.1.is_defined) (all_library es) all).0
library_by name x e es false all h g = h (both_true (is_library e.1.what && e.1.is_defined) (all_library es) all).1 g

library_found : (name : Name) (x : Entity) (es : Names Entity) → all_library es ≡ true → declared name es ≡ Some x
    → (is_library x.what && x.is_defined) ≡ true
library_found name x [] all g = no_value x _ g
library_found name x (e ∷ es) all g =
    library_by name x e es (is_name name e.0) all (library_found name x es) g

start_library : (facts : Facts) → all_library (start facts).entities ≡ true
unfolding start
start_library facts = refl

start_main : (facts : Facts) → declared (codes "main") (start facts).entities ≡ None
unfolding start
start_main facts = refl

no_function : (d : what.Designated) → is_library d ≡ true → names_function d ≡ true → false ≡ true
no_function (whats.Library f) l e = e
no_function (whats.Function n) l e = l
no_function (whats.Object n) l e = e
no_function (whats.Static n) l e = e
no_function (whats.Variable n) l e = e

library_of : (facts : Facts) (name : Name) (x : Entity) → declared name (start facts).entities ≡ Some x
    → (is_library x.what ≡ true) × (x.is_defined ≡ true)
library_of facts name x e =
    both_true (is_library x.what) x.is_defined
    (library_found name x (start facts).entities (start_library facts) e)

pub start_defines : (objects : Option (List (List Bool))) (facts : Facts) → FunctionsOf (file_before objects facts) []
start_defines objects facts = (
  record {
    defines = record {
      count = refl;
      each = λ name k e. no_value k _ e;
      all = λ name x e f d. conflict (no_function x.what (library_of facts name x e).0 f);
      kinds = λ name x e l. conflict (sym l ∙ (library_of facts name x e).0);
      library = λ name x e l. (library_of facts name x e).1;
      main = λ x e. no_value x _ (sym (start_main facts) ∙ e);
    };
    registered = record { each = λ k d e. no_value d _ e };
  },
  record {
    each = λ name x n e w. conflict (no_function x.what (library_of facts name x e).0 (ap names_function w));
  },
)

-- the type of `main`

int_words : (ws : List TypeWord) → without_sizes ws ≡ word.Gives ∷ word.Integer Int ∷ []
    → ws ≡ word.Gives ∷ word.Integer Int ∷ []
int_words [] e = absurd cc
int_words (word.Gives ∷ word.Integer i ∷ []) e = e
int_words (word.Gives ∷ word.Integer i ∷ w ∷ ws) e = absurd (no_more w ws (rest e))
  where
    rest : word.Gives ∷ word.Integer i ∷ without_sizes (w ∷ ws) ≡ word.Gives ∷ word.Integer Int ∷ []
        → without_sizes (w ∷ ws) ≡ []
    rest e = cc

    no_more : (w : TypeWord) (ws : List TypeWord) → without_sizes (w ∷ ws) ≡ [] → ⊥
    no_more word.Void ws e = cc
    no_more (word.Integer i) ws e = cc
    no_more (word.Enumeration k) ws e = cc
    no_more word.Pointer ws e = cc
    no_more (word.Array c b) ws e = cc
    no_more word.OpenArray ws e = cc
    no_more (word.Structure k) ws e = cc
    no_more word.Const ws e = cc
    no_more word.Takes ws e = cc
    no_more word.Gives ws e = cc
int_words (word.Gives ∷ []) e = absurd cc
int_words (word.Gives ∷ word.Void ∷ ws) e = absurd cc
int_words (word.Gives ∷ word.Enumeration k ∷ ws) e = absurd cc
int_words (word.Gives ∷ word.Pointer ∷ ws) e = absurd cc
int_words (word.Gives ∷ word.Array c b ∷ ws) e = absurd cc
int_words (word.Gives ∷ word.OpenArray ∷ ws) e = absurd cc
int_words (word.Gives ∷ word.Structure k ∷ ws) e = absurd cc
int_words (word.Gives ∷ word.Const ∷ ws) e = absurd cc
int_words (word.Gives ∷ word.Takes ∷ ws) e = absurd cc
int_words (word.Gives ∷ word.Gives ∷ ws) e = absurd cc
int_words (word.Void ∷ ws) e = absurd cc
int_words (word.Integer i ∷ ws) e = absurd cc
int_words (word.Enumeration k ∷ ws) e = absurd cc
int_words (word.Pointer ∷ ws) e = absurd cc
int_words (word.Array c b ∷ ws) e = absurd cc
int_words (word.OpenArray ∷ ws) e = absurd cc
int_words (word.Structure k ∷ ws) e = absurd cc
int_words (word.Const ∷ ws) e = absurd cc
int_words (word.Takes ∷ ws) e = absurd cc

-- a type among others has its number

found_by : (type t : List TypeWord) (ts : List (List TypeWord)) (b : Bool) → same_words type t ≡ b
    → (b ≡ false → place_among type ts < length ts)
    → (if b then 0 else place_among type ts + 1) < suc (length ts)
found_by type t ts true e h = omega arith
found_by type t ts false e h = let low = h refl in omega arith

place_found : (type : List TypeWord) (ts : List (List TypeWord)) (n : ℕ) → slice_get ts n ≡ Some type
    → place_among type ts < length ts
place_found type [] n e = no_value type _ e
place_found type (t ∷ ts) zero e =
    found_by type t ts (same_words type t) refl
    (λ g. conflict (sym g ∙ ap (same_words type) (the_same e) ∙ words_same type))
place_found type (t ∷ ts) (suc n) e = found_by type t ts (same_words type t) refl (λ g. place_found type ts n e)

got_or : {A B : Type 0} (h : A → B) (xs : List A) (n : ℕ) (x : A) (d : B) → slice_get xs n ≡ Some x
    → get_or (map h xs) n d ≡ h x
got_or h [] n x d e = no_value x _ e
got_or h (y ∷ ys) zero x d e = ap h (the_same e)
got_or h (y ∷ ys) (suc n) x d e = got_or h ys n x d e

map_map : {A B C : Type 0} (g : B → C) (h : A → B) (xs : List A) → map g (map h xs) ≡ map (λ x. g (h x)) xs
map_map g h [] = refl
map_map g h (x ∷ xs) = ap (λ z. g (h x) ∷ z) (map_map g h xs)

signature_is : (f : File) (type : List TypeWord) (n : ℕ) → slice_get f.state.function_types n ≡ Some type
    → signature_at (program_of f) (place_among type f.state.function_types)
    ≡ signature_of (function_type (extents f.state) type)
signature_is f type n e =
    let types = f.state.function_types in
    let at = place_get type types (place_found type types n e) in
    ap (λ z. get_or z (place_among type types) no_signature)
    (map_map signature_of (function_type (extents f.state)) types)
    ∙ got_or (λ t. signature_of (function_type (extents f.state) t)) types (place_among type types) type no_signature at

-- the function with a number

pub functions_count : (f : File) (os : List StaticObject) (n : ℕ) (ds : List Definition)
    → length (functions_from f os n ds) ≡ length ds
functions_count f os n [] = refl
functions_count f os n (d ∷ ds) = ap suc (functions_count f os (suc n) ds)

function_signature : (f : File) (program : Program) (os : List StaticObject) (n : ℕ) (ds : List Definition) (k : ℕ)
    (d : Definition) → slice_get ds k ≡ Some d
    → get_or (map (λ g. signature_at program g.type_number) (functions_from f os n ds)) k no_signature
    ≡ signature_at program (place_among d.type f.state.function_types)
function_signature f program os n [] k d e = no_value d _ e
function_signature f program os n (x ∷ ds) zero d e =
    ap (λ z. signature_at program (place_among z.type f.state.function_types)) (the_same e)
function_signature f program os n (x ∷ ds) (suc k) d e = function_signature f program os (suc n) ds k d e

-- at the end

record IsMainEntity (f : File) : Type 0 where
  entity : Entity
  there : declared (codes "main") f.state.environment.entities ≡ Some entity
  defined : entity.is_defined ≡ true
  type : entity.c_type ≡ word.Gives ∷ word.Integer Int ∷ []

main_entity : (f : File) (o : Option Entity) → declared (codes "main") f.state.environment.entities ≡ o
    → units.is_main o ≡ true → IsMainEntity f
main_entity f None e g = absurd cc
main_entity f (Some x) e g =
    let both = both_true x.is_defined (same_words x.c_type (word.Gives ∷ word.Integer Int ∷ [])) g in
    record { entity = x; there = e; defined = both.0; type = words_are x.c_type _ both.1 }

main_by : (f : File) (numbers : Names ℕ) → FunctionsOf f numbers
    → f.state.environment.facts.functions ≡ numbers → IsEnded f → is_main (program_of f) ≡ true
main_by f numbers h same ended =
    let main = main_entity f (declared (codes "main") f.state.environment.entities) refl ended.main in
    let x = main.entity in
    let own = h.0.defines.main x main.there in
    let function = h.0.defines.kinds (codes "main") x main.there own ∙ ap is_function main.type in
    let k = h.0.defines.all (codes "main") x main.there function main.defined in
    let is = h.0.defines.each (codes "main") k.0 k.1 in
    let d = is.definition in
    let type = int_words d.type
    (is.words ∙ ap without_sizes (ap (λ z. z.c_type) (the_same (sym is.linked ∙ main.there)) ∙ main.type)) in
    let number : (program_of f).main ≡ k.0 = ap (λ z. number_or_zero (declared (codes "main") z)) same
    ∙ ap number_or_zero k.1 in
    let there = h.0.registered.each k.0 d is.there in
    let signature = function_signature f (program_of f) (static_objects f) 0 f.definitions k.0 d is.there
    ∙ signature_is f d.type there.0 there.1
    ∙ ap (λ z. signature_of (function_type (extents f.state) z)) type in
    let count = functions_count f (static_objects f) 0 f.definitions in
    let low = get_low f.definitions k.0 d is.there in
    and_from (has_number (program_of f).functions (program_of f).main)
    (is_main_signature (get_or (scope_in (program_of f) [] [] kind.Void).functions (program_of f).main no_signature))
    (ap (has_number (program_of f).functions) number ∙ lt-ltb k.0 (length (program_of f).functions)
    (subst (λ z. k.0 < z) (sym count) low))
    (ap (λ z. is_main_signature (get_or (scope_in (program_of f) [] [] kind.Void).functions z no_signature)) number
    ∙ ap is_main_signature signature)

facts_are : (objects : Option (List (List Bool))) (facts : Facts) (g : File) → Grows (file_before objects facts) g
    → g.state.environment.facts ≡ facts
facts_are objects facts g h = h.facts ∙ start_facts facts

-- what holds of the functions at the end

pub record HasFunctions (numbers : Names ℕ) (f : File) : Type 0 where
  pub functions : FunctionsOf f numbers
  pub facts : f.state.environment.facts.functions ≡ numbers
  pub ended : IsEnded f

pub functions_end : (objects : Option (List (List Bool))) (end : ℕ) (es : List t.External) (f : File)
    → are_regular_externals es ≡ true → define_functions es ≡ true → file_with objects end es ≡ Ok f
    → HasFunctions (facts_in es).functions f
functions_end objects end es f c d is =
    let before = file_before objects (facts_in es) in
    behind_all (HasFunctions (facts_in es).functions) f end (externals es before)
    (λ g e ended. by g (externals es before)
    (externals_define es c d before nothing_found (start_defines objects (facts_in es))
    (file_outside objects (facts_in es)) (start_types (facts_in es)))
    (externals_grow es c before (file_formed objects (facts_in es))) e ended) is
  where
    by : (g : File) (a : Answer (File × Unit {0})) → IfDefines (facts_in es).functions a
        → Growing (file_before objects (facts_in es)) a → a ≡ answer (g, tt) → IsEnded g
        → HasFunctions (facts_in es).functions g
    by g (Ok r) h grows e ended =
        let same = ap (λ z. z.0) (same_ok r (g, tt) e) in
        record {
          functions = subst (λ z. FunctionsOf z (facts_in es).functions) same h;
          facts = subst (λ z. z.state.environment.facts.functions ≡ (facts_in es).functions) same
              (ap (λ z. z.functions) (facts_are objects (facts_in es) r.0 grows));
          ended = ended;
        }
    by g (Err x) h grows e ended = absurd cc

pub main_defined : (objects : Option (List (List Bool))) (end : ℕ) (es : List t.External) (f : File)
    → are_regular_externals es ≡ true → define_functions es ≡ true → file_with objects end es ≡ Ok f
    → is_main (program_of f) ≡ true
main_defined objects end es f c d is =
    let h = functions_end objects end es f c d is in main_by f (facts_in es).functions h.functions h.facts h.ended

pub functions_stand : (objects : Option (List (List Bool))) (end : ℕ) (es : List t.External) (f : File)
    → are_regular_externals es ≡ true → define_functions es ≡ true → file_with objects end es ≡ Ok f
    → Functions f.definitions f.state.environment.entities f.state.function_types f.state.environment.facts.functions
functions_stand objects end es f c d is =
    let h = functions_end objects end es f c d is in
    subst (Functions f.definitions f.state.environment.entities f.state.function_types) (sym h.facts) h.functions.0

-- a function that is defined, by its number

below_not : (m n : ℕ) → n ≡ m → nat_le m n ≡ false → false ≡ true
below_not m n e g = sym g ∙ le-leb m n (omega (arith, e))

pub definition_at : (objects : Option (List (List Bool))) (end : ℕ) (es : List t.External) (f : File)
    → are_regular_externals es ≡ true → define_functions es ≡ true → file_with objects end es ≡ Ok f → (name : Name)
    (x : Entity) (n : ℕ) → declared name f.state.environment.entities ≡ Some x → x.what ≡ whats.Function n
    → is_undefined n f.state ≡ false → IsDefinition f.definitions f.state.environment.entities name n
definition_at objects end es f c d is name x n e w known =
    by (declared name f.state.environment.facts.functions) refl
  where
    number : n ≡ number_of name f.state.environment.facts.functions
    number = (functions_end objects end es f c d is).functions.1.each name x n e w

    by : (o : Option ℕ) → declared name f.state.environment.facts.functions ≡ o
        → IsDefinition f.definitions f.state.environment.entities name n
    by None g =
        conflict (below_not (length f.state.environment.facts.functions) n
        (number ∙ ap (λ z. number_or z (length f.state.environment.facts.functions)) g) known)
    by (Some k) g =
        subst (IsDefinition f.definitions f.state.environment.entities name)
        (sym (number ∙ ap (λ z. number_or z (length f.state.environment.facts.functions)) g))
        ((functions_stand objects end es f c d is).defines.each name k g)

-- the type and the room of each function

types_count : (es : List (Option TypeExtent)) (types : List (List TypeWord))
    → length (map (function_type es) types) ≡ length types
types_count es [] = refl
types_count es (t ∷ types) = ap suc (types_count es types)

same_room : (os : List StaticObject) (n : ℕ) (result : Kind) (types : List (List TypeWord)) (size : ℕ)
    (d : Definition) → room os n result (function_of types size d) ≡ room os n result (function_of types 0 d)
unfolding room
same_room os n result types size d = refl

one_function : (f : File) → Registered f.definitions f.state.function_types → (n : ℕ) (d : Definition) (k : ℕ)
    → slice_get f.definitions k ≡ Some d
    → HasTypeAndRoom (program_of f) n
    (function_of f.state.function_types (room_of f (static_objects f) n d) d)
one_function f h n d k e =
    let at = h.each k d e in
    let signature = signature_is f d.type at.0 at.1 in
    record {
      type = lt-ltb (place_among d.type f.state.function_types) (length (program_of f).function_types)
          (subst (λ z. place_among d.type f.state.function_types < z)
          (sym (types_count (extents f.state) f.state.function_types))
          (place_found d.type f.state.function_types at.0 at.1));
      room = ap (λ z. room_of f (static_objects f) n d == z)
          (ap (λ z. room (static_objects f) n z.result
          (function_of f.state.function_types (room_of f (static_objects f) n d) d)) signature
          ∙ same_room (static_objects f) n (result_kind (extents f.state) d.type) f.state.function_types
          (room_of f (static_objects f) n d) d)
          ∙ same_number (room_of f (static_objects f) n d);
    }

functions_by : (f : File) → Registered f.definitions f.state.function_types → (first : ℕ) (ds : List Definition)
    → ((k : ℕ) (d : Definition) → slice_get ds k ≡ Some d → (j : ℕ) × (slice_get f.definitions j ≡ Some d))
    → (k : ℕ) (g : Function) → slice_get (functions_from f (static_objects f) first ds) k ≡ Some g
    → HasTypeAndRoom (program_of f) (first + k) g
functions_by f h first [] all k g e = no_value g _ e
functions_by f h first (d ∷ ds) all zero g e =
    let at = all 0 d refl in
    subst (λ z. HasTypeAndRoom (program_of f) z g) (omega arith)
    (subst (HasTypeAndRoom (program_of f) first) (the_same e) (one_function f h first d at.0 at.1))
functions_by f h first (d ∷ ds) all (suc k) g e =
    subst (λ z. HasTypeAndRoom (program_of f) z g) (omega arith)
    (functions_by f h (suc first) ds (λ j x i. all (suc j) x i) k g e)

pub functions_have_rooms : (objects : Option (List (List Bool))) (end : ℕ) (es : List t.External) (f : File)
    → are_regular_externals es ≡ true → define_functions es ≡ true → file_with objects end es ≡ Ok f
    → (k : ℕ) (g : Function) → slice_get (program_of f).functions k ≡ Some g → HasTypeAndRoom (program_of f) k g
functions_have_rooms objects end es f c d is k g e =
    let h = functions_end objects end es f c d is in
    subst (λ z. HasTypeAndRoom (program_of f) z g) (omega arith)
    (functions_by f h.functions.0.registered 0 f.definitions (λ j x i. (j, i)) k g e)

-- each type of functions has its number and a signature that it spells

signatures_count : (es : List (Option TypeExtent)) (types : List (List TypeWord))
    → length (map signature_of (map (function_type es) types)) ≡ length types
signatures_count es [] = refl
signatures_count es (t ∷ types) = ap suc (signatures_count es types)

pub type_signature : (f : File) → Types f.state → (scope : Scope) → scope.types ≡ signatures_of (program_of f)
    → (n : ℕ) (type : List TypeWord) → slice_get f.state.function_types n ≡ Some type
    → IsTypeOf scope (extents f.state) n type
type_signature f h scope same n type e =
    let types = f.state.function_types in
    let signature = signature_of (function_type (extents f.state) type) in
    record {
      signature = signature;
      has = record {
        there = ap (λ z. has_number z n) same
            ∙ lt-ltb n (length (signatures_of (program_of f)))
            (subst (λ z. n < z) (sym (signatures_count (extents f.state) types)) (get_low types n type e));
        same = ap (λ z. get_or z n no_signature) same
            ∙ ap (λ z. get_or z n no_signature) (map_map signature_of (function_type (extents f.state)) types)
            ∙ got_or (λ t. signature_of (function_type (extents f.state) t)) types n type no_signature e;
      };
      spelled = function_agrees (extents f.state) type
          (each_got (IsFunctionType (extents f.state)) types h.functions n type e);
    }

pub types_are_those : (objects : Option (List (List Bool))) (end : ℕ) (es : List t.External) (f : File)
    → are_regular_externals es ≡ true → define_functions es ≡ true → file_with objects end es ≡ Ok f → (scope : Scope)
    → scope.types ≡ signatures_of (program_of f) → (n : ℕ) (type : List TypeWord)
    → slice_get f.state.function_types n ≡ Some type → IsTypeOf scope (extents f.state) n type
types_are_those objects end es f c d is = type_signature f (types_end objects end es f c d is)

-- what a name of a function stands for

pub function_designated : (objects : Option (List (List Bool))) (end : ℕ) (es : List t.External) (f : File)
    → are_regular_externals es ≡ true → define_functions es ≡ true → file_with objects end es ≡ Ok f → (scope : Scope)
    → scope.functions ≡ map (λ g. signature_at (program_of f) g.type_number) (program_of f).functions → (name : Name)
    (x : Entity) (n : ℕ) → declared name f.state.environment.entities ≡ Some x → x.what ≡ whats.Function n
    → (type : List TypeWord) → without_sizes type ≡ without_sizes x.c_type → is_undefined n f.state ≡ false
    → IsFunctionOf scope (extents f.state) n type
function_designated objects end es f c d is scope same name x n e w type alike known =
    let at = definition_at objects end es f c d is name x n e w known in
    let own = at.definition in
    let words = at.words ∙ ap (λ z. without_sizes z.c_type) (the_same (sym at.linked ∙ e)) ∙ sym alike in
    let there = (functions_stand objects end es f c d is).registered.each n own at.there in
    let types = types_end objects end es f c d is in
    let signature = signature_of (function_type (extents f.state) own.type) in
    record {
      signature = signature;
      has = record {
        there = ap (λ z. has_number z n) same
            ∙ lt-ltb n (length (map (λ g. signature_at (program_of f) g.type_number) (program_of f).functions))
            (subst (λ z. n < z)
            (sym (mapped_count (λ g. signature_at (program_of f) g.type_number) (program_of f).functions
            ∙ functions_count f (static_objects f) 0 f.definitions)) (get_low f.definitions n own at.there));
        same = ap (λ z. get_or z n no_signature) same
            ∙ function_signature f (program_of f) (static_objects f) 0 f.definitions n own at.there
            ∙ signature_is f own.type there.0 there.1;
      };
      spelled = spells_alike (extents f.state) own.type type signature words
          (function_agrees (extents f.state) own.type
          (each_got (IsFunctionType (extents f.state)) f.state.function_types types.functions there.0 own.type
          there.1));
    }
  where
    mapped_count : {A B : Type 0} (h : A → B) (xs : List A) → length (map h xs) ≡ length xs
    mapped_count h [] = refl
    mapped_count h (x ∷ xs) = ap suc (mapped_count h xs)
