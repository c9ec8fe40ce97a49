-- What instructions are given fits them: in good states values are of their kinds, and what is named is there.
use Rattle.std.proofs.Common.{◌≡◌, ℕ, zero, suc, ◌<◌, ◌≤◌, ◌^◌, List, [], ◌∷◌, Option, Some, None, Bool, true}
use Rattle.std.proofs.Common.{false}
use Rattle.std.proofs.Common.{refl, sym, ap, ◌∙◌, subst, arith, eq-eqb, eqb-true, lt-ltb}
use Rattle.std.specs.Prelude.{◌&&◌, ◌||◌, ◌==◌, not, length, slice_get}
use Rattle.std.specs.List.{list_all}
use Rattle.addr_map.specs.Places.{function_address}
use Rattle.obj_memory.specs.declared.int_type.IntType.{IntType}
use Rattle.obj_memory.specs.declared.int_type.IntType.TheVariants.{Int, UnsignedInt, UnsignedLong}
use Rattle.obj_memory.specs.declared.value.Scalar.{Scalar}
use Rattle.obj_memory.specs.declared.value.Scalar.TheVariants.{Integer, Pointer}
use Rattle.obj_memory.specs.declared.value.Value.{Value}
use Rattle.obj_memory.specs.Integers.{fit}
use Rattle.obj_memory.specs.Objects.{ObjectState, Objects}
use Rattle.obj_memory.proofs.Words.{fit_below}
use Rattle.c_tree.specs.declared.expression.Kind.{Kind}
use Rattle.c_tree.specs.declared.expression.Kind.TheVariants.{Void, Scalar as OfScalar, Structure, Array}
use Rattle.c_tree.specs.declared.expression.Update.{Update}
use Rattle.c_tree.specs.declared.expression.Update.TheVariants.{Arithmetic, Forward, Back}
use Rattle.c_tree.specs.declared.format.Directive.{Directive}
use Rattle.c_tree.specs.declared.format.Directive.TheVariants as directive
use Rattle.c_tree.specs.declared.format.Piece.{Piece}
use Rattle.c_tree.specs.Format.{directives}
use Rattle.c_tree.specs.declared.expression.Routine.{Routine}
use Rattle.c_tree.specs.declared.expression.Routine.TheVariants.{Malloc, Calloc, Free, Realloc, Memcpy, Memmove, Memset}
use Rattle.c_tree.specs.declared.expression.Routine.TheVariants.{Memcmp, Strlen, Strcmp, Strcpy, Strncpy, Strcat}
use Rattle.c_tree.specs.declared.expression.Routine.TheVariants.{Strchr, Putchar, Getchar, Puts, Exit, Abort}
use Rattle.c_tree.specs.Kinds.{Signature, integer, pointer, is_kind, is_integer, is_value, size_of_kind, fits_directive}
use Rattle.c_tree.specs.Kinds.{routine_signature, fit_directives}
use Rattle.c_tree.specs.Valid.{are_printed as are_printed_kinds}
use Rattle.source_meaning.specs.State.{Rvalue, Header, Setting}
use Rattle.source_meaning.specs.Good.{Context, function_count, object_kind, Updates}
use Rattle.source_meaning.specs.Good.{IsWord, IsOfType, TakenIs, ValueIs, ArgumentIs, ArgumentsAre}
use Rattle.source_meaning.specs.Good.{signature_in, taking}
use Rattle.source_meaning.proofs.ValidNames.{both, same_kind}
use Rattle.source_meaning.proofs.Naming.{IsConstantOf, UpdatesKind}
use Rattle.source_meaning.specs.Actions.{scalar_of}
use Rattle.tac_ir.specs.declared.function.CodeFunction.{CodeFunction}
use Rattle.tac_ir.specs.declared.function.StaticData.{StaticData}
use Rattle.tac_ir.specs.declared.function.Tac.{Tac}
use Rattle.tac_ir.specs.Accesses.{is_place}
use Rattle.tac_ir.specs.Fitting.{is_word, has_no_tag, is_of_type, is_scalar_of, is_plain_word, is_structure_of, is_passed}
use Rattle.tac_ir.specs.Fitting.{are_passed, is_written, is_in_place, is_held, is_update_of, is_type, taken_by}
use Rattle.tac_ir.specs.Fitting.{fit_type}
use Rattle.tac_ir.specs.Fitting.{is_int, is_printed, each_printed, are_printed}
use Rattle.tac_ir.specs.Meaning.{variables_in, function_in, header_of_code}
use Rattle.c_lower.proofs.KeyNames.{HaveSizes, both_true}

left_true : (a b : Bool) → a ≡ true → (a || b) ≡ true
left_true true b e = refl
left_true false b e = cc

right_true : (a : Bool) {b : Bool} → b ≡ true → (a || b) ≡ true
right_true true e = refl
right_true false e = e

pub in_place : (c : Option ObjectState) (d : ℕ) → is_in_place c d d ≡ true
in_place None d = refl
in_place (Some c) d = eq-eqb d d refl

-- a word of an integer type is one
pub fit_small : (t : IntType) (w : ℕ) → fit t w ≡ w → is_word w ≡ true
fit_small t w e = lt-ltb w (2 ^ 64) (subst (λ n. n < 2 ^ 64) e (fit_below t w))

fit_long : (w : ℕ) → w < 2 ^ 64 → fit UnsignedLong w ≡ w
unfolding fit
fit_long w lt = grind arith

-- a value has a kind
valued_kind : (kind : Kind) → is_value kind ≡ true → kind ≡ Void → ⊥
valued_kind kind e void = let none : is_value kind ≡ false = ap is_value void in cc

-- where all functions have addresses
module _ (fc : ℕ) (few : function_address fc ≤ 2 ^ 64) where
  pub word_fits : (w : ℕ) → IsWord fc w → is_word w ≡ true
  word_fits w h = lt-ltb w (2 ^ 64) (h few)

  pub of_type : (k : Scalar) (v : Value) → IsOfType fc k v → is_of_type k v ≡ true
  of_type (Integer t) v h = ap (λ g. has_no_tag g && fit t v.word == v.word) h.0 ∙ eq-eqb _ _ h.1
  of_type Pointer v h = word_fits v.word h

  scalar_fits : (k : Scalar) (v : Rvalue) → v.contents ≡ None → IsOfType fc k v.value → is_scalar_of k v ≡ true
  scalar_fits k v none h = ap (λ c. is_place c && is_of_type k v.value) none ∙ of_type k v.value h

  plain_word_fits : (v : Rvalue) → v.contents ≡ None → IsWord fc v.value.word → is_plain_word v ≡ true
  plain_word_fits v none h = ap (λ c. is_place c && is_word v.value.word) none ∙ word_fits v.value.word h

  pub written_fits : (kind : Kind) (v : Rvalue) (objects : Objects) → ValueIs fc kind v objects
      → is_written kind v ≡ true
  written_fits Void v objects h = refl
  written_fits (OfScalar k) v objects h = scalar_fits k v h.structure h.word
  written_fits (Structure n) v objects h = refl
  written_fits (Array n) v objects h = refl

  -- a plain variable of a type gets a value of it
  pub held_fits : (k : Scalar) (v : Rvalue) (objects : Objects) → ValueIs fc (OfScalar k) v objects
      → is_held (Some k) v ≡ true
  held_fits k v objects h = scalar_fits k v h.structure h.word

  taken_fits : (n : ℕ) (c : Option ObjectState) (v : Value) (objects : Objects) → TakenIs fc n c v objects
      → is_structure_of c n v.word ≡ true
  taken_fits n None v objects h = absurd h
  taken_fits n (Some c) v objects h = both_true (eq-eqb _ _ h.whole) (eq-eqb _ _ h.first)

  -- of a kind that is not `void`
  pub passed_fits : (kind : Kind) (v : Rvalue) → (kind ≡ Void → ⊥) → (objects : Objects)
      → ArgumentIs fc kind v objects → is_passed kind v ≡ true
  passed_fits Void v valued objects h = absurd (valued refl)
  passed_fits (OfScalar k) v valued objects h = scalar_fits k v h.structure h.word
  passed_fits (Structure n) v valued objects h = taken_fits n v.contents v.value objects h.structure
  passed_fits (Array n) v valued objects h = plain_word_fits v h.structure h.word

  pub arguments_fit : (kinds : List Kind) (vs : List Rvalue) (objects : Objects) → list_all is_value kinds ≡ true
      → ArgumentsAre fc kinds vs objects → are_passed kinds vs ≡ true
  arguments_fit [] [] objects e h = refl
  arguments_fit [] (v ∷ vs) objects e h = absurd h
  arguments_fit (k ∷ ks) [] objects e h = absurd h
  arguments_fit (k ∷ ks) (v ∷ vs) objects e h =
      let p = both (is_value k) (list_all is_value ks) e in
      both_true (passed_fits k v (valued_kind k p.0) objects h.0) (arguments_fit ks vs objects p.1 h.1)

-- arguments of routines

pub routine_values : (r : Routine) → list_all is_value (routine_signature r).parameters ≡ true
routine_values Malloc = refl
routine_values Calloc = refl
routine_values Free = refl
routine_values Realloc = refl
routine_values Memcpy = refl
routine_values Memmove = refl
routine_values Memset = refl
routine_values Memcmp = refl
routine_values Strlen = refl
routine_values Strcmp = refl
routine_values Strcpy = refl
routine_values Strncpy = refl
routine_values Strcat = refl
routine_values Strchr = refl
routine_values Putchar = refl
routine_values Getchar = refl
routine_values Puts = refl
routine_values Exit = refl
routine_values Abort = refl

-- arguments of `printf`

-- they are values

int_value : (k : Kind) → (is_kind k (integer Int) || is_kind k (integer UnsignedInt)) ≡ true → is_value k ≡ true
int_value Void e = e
int_value (OfScalar k) e = refl
int_value (Structure n) e = refl
int_value (Array n) e = e

long_value : (k : Kind) → (is_integer k && size_of_kind k == 8) ≡ true → is_value k ≡ true
long_value Void e = e
long_value (OfScalar k) e = refl
long_value (Structure n) e = refl
long_value (Array n) e = e

directive_value : (d : Directive) (k : Kind) → fits_directive d k ≡ true → is_value k ≡ true
directive_value directive.Int k e = int_value k e
directive_value directive.UnsignedInt k e = int_value k e
directive_value directive.Hexadecimal k e = int_value k e
directive_value directive.Character k e = int_value k e
directive_value directive.Long k e = long_value k e
directive_value directive.UnsignedLong k e = long_value k e
directive_value directive.String k e = ap is_value (same_kind k pointer e)

each_value : (ds : List Directive) (ks : List Kind) → fit_directives ds ks ≡ true → list_all is_value ks ≡ true
each_value [] [] e = refl
each_value [] (k ∷ ks) e = cc
each_value (d ∷ ds) [] e = cc
each_value (d ∷ ds) (k ∷ ks) e =
    let a = both (fits_directive d k) (fit_directives ds ks) e in
    both_true (directive_value d k a.0) (each_value ds ks a.1)

pub printed_values : (ps : Option (List Piece)) (ks : List Kind) → are_printed_kinds ps ks ≡ true
    → list_all is_value ks ≡ true
printed_values None ks e = cc
printed_values (Some ps) ks e = each_value (directives ps) ks e

either_true : (a b : Bool) {P : Type 0} → (a || b) ≡ true → (a ≡ true → P) → (b ≡ true → P) → P
either_true true b e f h = f refl
either_true false b e f h = h e

int_fits : (k : Kind) (v : Rvalue) → (is_kind k (integer Int) || is_kind k (integer UnsignedInt)) ≡ true
    → is_passed k v ≡ true → is_int v ≡ true
int_fits k v e h = either_true (is_kind k (integer Int)) _ e
    (λ same. left_true (is_passed (integer Int) v) _ (subst (λ z. is_passed z v ≡ true) (same_kind k
    (integer Int) same) h))
    (λ same. right_true (is_passed (integer Int) v)
    (subst (λ z. is_passed z v ≡ true) (same_kind k (integer UnsignedInt) same) h))

long_fits : (k : Kind) (v : Rvalue) → is_integer k ≡ true → is_passed k v ≡ true
    → is_passed (integer UnsignedLong) v ≡ true
long_fits Void v e h = cc
long_fits (OfScalar (Integer t)) v e h =
    let a = both (is_place v.contents) _ h in
    let b = both (has_no_tag v.value.tag) _ a.1 in
    let same = eqb-true (fit t v.value.word) v.value.word b.1 in
    both_true a.0 (both_true b.0 (eq-eqb _ _ (fit_long v.value.word
    (subst (λ n. n < 2 ^ 64) same (fit_below t v.value.word)))))
long_fits (OfScalar Pointer) v e h = cc
long_fits (Structure n) v e h = cc
long_fits (Array n) v e h = cc

directive_fits : (d : Directive) (k : Kind) (v : Rvalue) → fits_directive d k ≡ true → is_passed k v ≡ true
    → is_printed d v ≡ true
directive_fits directive.Int k v e h = int_fits k v e h
directive_fits directive.UnsignedInt k v e h = int_fits k v e h
directive_fits directive.Hexadecimal k v e h = int_fits k v e h
directive_fits directive.Character k v e h = int_fits k v e h
directive_fits directive.Long k v e h = long_fits k v (both (is_integer k) _ e).0 h
directive_fits directive.UnsignedLong k v e h = long_fits k v (both (is_integer k) _ e).0 h
directive_fits directive.String k v e h = subst (λ z. is_passed z v ≡ true) (same_kind k pointer e) h

each_fits : (ds : List Directive) (ks : List Kind) (vs : List Rvalue) → fit_directives ds ks ≡ true
    → are_passed ks vs ≡ true → each_printed ds vs ≡ true
each_fits [] [] [] e h = refl
each_fits [] [] (v ∷ vs) e h = cc
each_fits [] (k ∷ ks) vs e h = cc
each_fits (d ∷ ds) [] vs e h = cc
each_fits (d ∷ ds) (k ∷ ks) [] e h = cc
each_fits (d ∷ ds) (k ∷ ks) (v ∷ vs) e h =
    let a = both (fits_directive d k) (fit_directives ds ks) e in
    let b = both (is_passed k v) (are_passed ks vs) h in
    both_true (directive_fits d k v a.0 b.0) (each_fits ds ks vs a.1 b.1)

pub printed_fits : (ps : Option (List Piece)) (ks : List Kind) (vs : List Rvalue) → are_printed_kinds ps ks ≡ true
    → are_passed ks vs ≡ true → are_printed ps vs ≡ true
printed_fits None ks vs e h = cc
printed_fits (Some ps) ks vs e h = each_fits (directives ps) ks vs e h

-- updates

pub update_fits : (u : Update) (k : Scalar) → Updates u k → is_update_of u k ≡ true
update_fits (Arithmetic op t) (Integer s) h = refl
update_fits (Arithmetic op t) Pointer h = absurd h
update_fits (Forward size) (Integer s) h = absurd h
update_fits (Forward size) Pointer h = refl
update_fits (Back size) (Integer s) h = absurd h
update_fits (Back size) Pointer h = refl

pub kind_update_fits : (u : Update) (kind : Kind) → UpdatesKind u kind → is_update_of u (scalar_of kind) ≡ true
kind_update_fits u Void h = absurd h
kind_update_fits u (OfScalar k) h = update_fits u k h
kind_update_fits u (Structure n) h = absurd h
kind_update_fits u (Array n) h = absurd h

same_int : (t : IntType) → is_kind (integer t) (integer t) ≡ true
same_int t = eq-eqb _ _ refl

pub type_fits : (k : Scalar) → is_type (Some k) k ≡ true
type_fits (Integer t) = same_int t
type_fits Pointer = refl

-- What the tables of a program say is what its text declares: of each function what it takes and gives, of each static
-- object its size, and of the function whose code it is its variables; functions take values.
pub record AreDeclared (t : Tac) (g : Setting) (sc : Context) (u : ℕ) : Type 0 where
  pub few : function_address (function_count sc) ≤ 2 ^ 64
  pub functions : length g.functions ≡ function_count sc
  pub statics : HaveSizes sc.scope.statics t.statics
  pub calls : (f : ℕ) (c : CodeFunction) → function_in t f ≡ Some c → taken_by (header_of_code c) ≡ taking sc f
  pub types : (f : ℕ) (h : Header) → slice_get g.functions f ≡ Some h
      → taken_by h ≡ (signature_in sc.scope.types h.type_number).parameters
  pub calls_take : (f : ℕ) (c : CodeFunction) → function_in t f ≡ Some c
      → list_all is_value (taken_by (header_of_code c)) ≡ true
  pub types_take : (f : ℕ) (h : Header) → slice_get g.functions f ≡ Some h → list_all is_value (taken_by h) ≡ true
  pub variables : variables_in (function_in t u) ≡ sc.scope.all
  pub objects : (x : ℕ) (kind : Kind) → object_kind sc.scope.variables x ≡ Some kind
      → object_kind sc.scope.all x ≡ Some kind

pub constant_fits : (w : ℕ) (kind : Kind) → IsConstantOf w kind → is_word w ≡ true
constant_fits w Void h = absurd h
constant_fits w (OfScalar (Integer t)) h = fit_small t w h
constant_fits w (OfScalar Pointer) h = absurd h
constant_fits w (Structure n) h = absurd h
constant_fits w (Array n) h = absurd h

-- arguments of a type are those of each function that has it
pub type_arguments_fit : (fc : ℕ) → function_address fc ≤ 2 ^ 64 → (types : List Signature) (n : ℕ) (vs : List Rvalue)
    (objects : Objects) → ArgumentsAre fc (signature_in types n).parameters vs objects → (fs : List Header)
    → ((f : ℕ) (h : Header) → slice_get fs f ≡ Some h → taken_by h ≡ (signature_in types h.type_number).parameters)
    → ((f : ℕ) (h : Header) → slice_get fs f ≡ Some h → list_all is_value (taken_by h) ≡ true)
    → fit_type fs n vs ≡ true
type_arguments_fit fc few types n vs objects are [] e values = refl
type_arguments_fit fc few types n vs objects are (h ∷ hs) e values =
    both_true (by (h.type_number == n) refl)
    (type_arguments_fit fc few types n vs objects are hs (λ f. e (suc f)) (λ f. values (suc f)))
  where
    by : (b : Bool) → (h.type_number == n) ≡ b → (not b || are_passed (taken_by h) vs) ≡ true
    by true same =
        let kinds : (signature_in types n).parameters ≡ taken_by h =
        sym (e 0 h refl ∙ ap (λ m. (signature_in types m).parameters) (eqb-true h.type_number n same)) in
        arguments_fit fc few (taken_by h) vs objects (values 0 h refl)
        (subst (λ ks. ArgumentsAre fc ks vs objects) kinds are)
    by false same = refl

pub data_below : (ds : List StaticData) (n : ℕ) (d : StaticData) → slice_get ds n ≡ Some d → n < length ds
data_below [] n d e = cc
data_below (x ∷ ds) zero d e = omega arith
data_below (x ∷ ds) (suc n) d e = omega (arith, data_below ds n d e)
