-- Specifiers and declarators make whole types of whole ones (C99 6.7.2, 6.7.5).
use Rattle.std.proofs.Common.{◌≡◌, ℕ, zero, suc, ◌+◌, Bool, true, false, ◌&&◌, ◌||◌, refl, sym, ap, ◌∙◌, List, [], ◌∷◌}
use Rattle.std.proofs.Common.{◌++◌, Option, Some, None, if◌then◌else◌, arith}
use Rattle.std.proofs.lemmas.Bool.{and_from, true≢false}
use Rattle.std.specs.Prelude.{Ok, Err}
use Rattle.std.specs.List.{list_all}
use Rattle.c_syntax.specs.Formed.{is_plain_name}
use Rattle.c_syntax.specs.Tree.{Declarator, MoreParameters, Parameters, Specifier, Specifiers, TypedDeclarator}
use Rattle.c_syntax.specs.Tree as t
use Rattle.c_tree.specs.declared.c_type.TypeWord.{TypeWord}
use Rattle.c_tree.specs.declared.c_type.TypeWord.TheVariants as word
use Rattle.c_tree.specs.Extents.{TypeExtent, extent_of}
use Rattle.c_tree.specs.TypesAgree.{behind_types, still}
use Rattle.c_faults.specs.declared.fault.Rule.{Rule}
use Rattle.c_faults.specs.declared.fault.Rule.TheVariants as rule
use Rattle.c_faults.specs.Answer.{Answer, violates, ◌>>=◌}
use Rattle.c_rules.specs.Types.{unqualified}
use Rattle.c_place_rules.specs.Targets.{constant, qualified}
use Rattle.c_declarators.specs.Adjusted.{adjusted}
use Rattle.c_declarators.specs.Faults.{rule_of}
use Rattle.c_declarators.specs.Derivations.{BuiltType, Derivation, array_built, array_of, built, derived}
use Rattle.c_declarators.specs.Derivations.{function_words}
use Rattle.c_declarators.specs.Derivations.{pointer_words, to_array, to_function, to_open_array, to_pointer}
use Rattle.c_scope.specs.declared.meaning.Meaning.{Meaning}
use Rattle.c_scope.specs.declared.meaning.Meaning.TheVariants as meaning
use Rattle.c_scope.specs.declared.meaning.Tag.{Tag}
use Rattle.c_scope.specs.declared.meaning.Tag.TheVariants as tag
use Rattle.c_scope.specs.declared.tags.TagKind.TheVariants as kind
use Rattle.c_scope.specs.Names.{Name, declared, found, is_empty, or_else}
use Rattle.c_scope.specs.Names as names
use Rattle.c_specifiers.specs.declared.specified.Size.{Size}
use Rattle.c_specifiers.specs.declared.specified.Size.TheVariants as size
use Rattle.c_specifiers.specs.declared.specified.Specified.{Specified}
use Rattle.c_specifiers.specs.Specified.{basic_of, basic_type}
use Rattle.c_scope.specs.Environment.{Environment, declared_in}
use Rattle.c_declarator_typing.specs.Declarators.{Shape, built_in, declaring, is_misplaced as misplaced, is_void}
use Rattle.c_declarator_typing.specs.Declarators.{parameter, parameter_built, parameter_declaration, rule_or_storage}
use Rattle.c_declarator_typing.specs.Declarators.{scope_left, scope_opened, unless, with_derivation, with_function}
use Rattle.c_declarator_typing.specs.Sizes.{count_in}
use Rattle.c_declarator_typing.specs.Members.{no_entries, tag_completed}
use Rattle.c_expression_typing.specs.Lines.{first_line, name_of, tag_name}
use Rattle.c_declarator_typing.specs.Specifications.{Gathered, Specification, nothing_gathered, specified, tag_kind}
use Rattle.c_declarator_typing.specs.Specifications.{tag_type}
use Rattle.c_declarator_typing.specs.Specifications.{type_or_basic, typedef_meant, with_named}
use Rattle.c_typing_state.specs.State.{State, Typing, done, extents, judged, ◌>>>◌}
use Rattle.c_expression_typing.specs.Constructs.{begun_as, has_words, tagged_as, valued}
use Rattle.c_expression_typing.specs.Typed.{enumerator, gathered, more_enumerators, specification, with_members}
use Rattle.c_expression_typing.specs.Typed.{with_specifier}
use Rattle.c_expression_typing.specs.Typed.{more_types, parameter_type, parameter_types, shape, typed}
use Rattle.typing_laws.specs.Validity.Regular.{are_regular_parameters, are_regular_specifiers, is_regular_declarator}
use Rattle.typing_laws.specs.Validity.Regular.{is_regular_name, is_regular_specifier, more_are_regular_parameters}
use Rattle.typing_laws.specs.Validity.Sound.{IsFormed}
use Rattle.typing_laws.specs.Validity.Steps.{Structures}
use Rattle.typing_laws.proofs.Validity.Common.{first, second}
use Rattle.typing_laws.specs.Declarators.Extending.{Extending, Extends, IsNew}
use Rattle.typing_laws.specs.Declarators.Given.{HasType, IsGathered, IsShapeOf, IsSpecified, anything}
use Rattle.typing_laws.proofs.Declarators.Parameters.{found_last, within, within_block, within_formed}
use Rattle.typing_laws.proofs.Declarators.Recursion.{parameter_extend, shape_extends, specification_extends, with_type}
use Rattle.typing_laws.proofs.Declarators.Recursion.{specifier_extends}
use Rattle.typing_laws.proofs.Places.Labels.{all_append}
use Rattle.typing_laws.specs.Declarations.Binding.{Binds}
use Rattle.c_unit_typing.specs.Declarations.{stored_once}
use Rattle.program_laws.specs.Bodies.Types.{IsTypeIf, NameTypes, TakeTypes, TakesTypes, are_types, is_type}
use Rattle.program_laws.proofs.Bodies.Standing.{either}
use Rattle.typing_laws.proofs.Common.{IfGives, then_gives}

-- types that stand one behind the other

still_more : (w : TypeWord) (n m : ℕ) → still w (n + m) ≡ still w n + m
still_more word.Void n m = refl
still_more (word.Integer t) n m = refl
still_more (word.Enumeration k) n m = refl
still_more word.Pointer n m = omega arith
still_more (word.Array c b) n m = omega arith
still_more word.OpenArray n m = omega arith
still_more (word.Structure k) n m = refl
still_more word.Const n m = omega arith
still_more word.Takes n m = omega arith
still_more word.Gives n m = omega arith

pub types_append : (n m : ℕ) (p q : List TypeWord) → are_types n p ≡ true → are_types m q ≡ true
    → are_types (n + m) (p ++ q) ≡ true
types_append zero m [] q e g = let same : 0 + m ≡ m = omega arith in ap (λ k. are_types k q) same ∙ g
types_append zero m (w ∷ p) q e g = absurd cc
types_append (suc n) m [] q e g = absurd cc
types_append (suc n) m (w ∷ p) q e g =
    let same : suc n + m ≡ suc (n + m) = omega arith in
    ap (λ k. are_types k (w ∷ (p ++ q))) same ∙ ap (λ k. are_types k (p ++ q)) (still_more w n m)
    ∙ types_append (still w n) m p q e g

pub behind_type : (n : ℕ) (p q : List TypeWord) → are_types n p ≡ true → behind_types n (p ++ q) ≡ q
behind_type zero [] q e = refl
behind_type zero (w ∷ p) q e = absurd cc
behind_type (suc n) [] q e = absurd cc
behind_type (suc n) (w ∷ p) q e = behind_type (still w n) p q e

-- types that are made of a type

constant_type : (type : List TypeWord) → is_type type ≡ true → is_type (constant type) ≡ true
constant_type [] e = absurd cc
constant_type (word.Void ∷ ws) e = e
constant_type (word.Integer t ∷ ws) e = e
constant_type (word.Enumeration n ∷ ws) e = e
constant_type (word.Pointer ∷ ws) e = e
constant_type (word.Array count bytes ∷ ws) e = constant_type ws e
constant_type (word.OpenArray ∷ ws) e = constant_type ws e
constant_type (word.Structure n ∷ ws) e = e
constant_type (word.Const ∷ ws) e = e
constant_type (word.Takes ∷ ws) e = e
constant_type (word.Gives ∷ ws) e = e

qualified_type : (b : Bool) (type : List TypeWord) → is_type type ≡ true → is_type (qualified b type) ≡ true
qualified_type true type e = constant_type type e
qualified_type false type e = e

pub adjusted_type : (type : List TypeWord) → is_type type ≡ true → is_type (adjusted type) ≡ true
adjusted_type [] e = e
adjusted_type (word.Void ∷ ws) e = e
adjusted_type (word.Integer t ∷ ws) e = e
adjusted_type (word.Enumeration n ∷ ws) e = e
adjusted_type (word.Pointer ∷ ws) e = e
adjusted_type (word.Array count bytes ∷ ws) e = e
adjusted_type (word.OpenArray ∷ ws) e = e
adjusted_type (word.Structure n ∷ ws) e = e
adjusted_type (word.Const ∷ ws) e = e
adjusted_type (word.Takes ∷ ws) e = e
adjusted_type (word.Gives ∷ ws) e = e

pub unqualified_type : (type : List TypeWord) → is_type type ≡ true → is_type (unqualified type) ≡ true
unqualified_type [] e = e
unqualified_type (word.Const ∷ ws) e = unqualified_type ws e
unqualified_type (word.Void ∷ ws) e = e
unqualified_type (word.Integer t ∷ ws) e = e
unqualified_type (word.Enumeration n ∷ ws) e = e
unqualified_type (word.Pointer ∷ ws) e = e
unqualified_type (word.Array count bytes ∷ ws) e = e
unqualified_type (word.OpenArray ∷ ws) e = e
unqualified_type (word.Structure n ∷ ws) e = e
unqualified_type (word.Takes ∷ ws) e = e
unqualified_type (word.Gives ∷ ws) e = e

pub function_type : (types : List (List TypeWord)) (result : List TypeWord) → list_all is_type types ≡ true
    → is_type result ≡ true → is_type (function_words types result) ≡ true
function_type [] result e g = g
function_type (p ∷ ps) result e g =
    types_append 1 1 p (function_words ps result) (first (is_type p) (list_all is_type ps) e)
    (function_type ps result (second (is_type p) (list_all is_type ps) e) g)

pointer_type : (b : Bool) (type : List TypeWord) → is_type type ≡ true → is_type (pointer_words b type) ≡ true
pointer_type true type e = e
pointer_type false type e = e

array_type : (es : Structures) (o : Option ℕ) (b : BuiltType) → is_type b.type ≡ true
    → is_type (array_built es o b).type ≡ true
array_type es None b e = e
array_type es (Some count) b e = by (extent_of es b.type)
  where
    by : (o : Option TypeExtent) → is_type (array_of count o ∷ b.type) ≡ true
    by None = e
    by (Some x) = e

derived_type : (es : Structures) (d : Derivation) (b : BuiltType) → TakesTypes d → is_type b.type ≡ true
    → is_type (derived es d b).type ≡ true
derived_type es (to_pointer c) b is e = pointer_type c b.type e
derived_type es to_open_array b is e = e
derived_type es (to_array o) b is e = array_type es o b e
derived_type es (to_function types) b is e = function_type types b.type is e

pub built_type : (es : Structures) (base : List TypeWord) → is_type base ≡ true → (ds : List Derivation)
    → TakeTypes ds → is_type (built es base ds).type ≡ true
built_type es base e [] is = e
built_type es base e (d ∷ ds) is = derived_type es d (built es base ds) is.0 (built_type es base e ds is.1)

-- what constructs give

pub map_gives : {A B : Type 0} (p : A → Type 0) (q : B → Type 0) (a : Answer (State × A)) (f : A → B)
    → ((x : A) → p x → q (f x)) → IfGives p a → IfGives q (a >>= λ r. done (f r.1) r.0)
map_gives p q (Ok r) f h is = h r.1 is
map_gives p q (Err e) f h is = tt

-- typedef names stand for the same behind what extends a state

new_type : (b : Bool) (m : Meaning) → IsNew b m → (type : List TypeWord) → Some m ≡ Some (meaning.Typedef type)
    → is_type type ≡ true
new_type b (meaning.Constant w) is type e = absurd cc
new_type b (meaning.Typedef x) is type e = absurd (true≢false is)
new_type b (meaning.Named d x) is type e = absurd cc

pub types_extended : (b : Bool) (s u : State) → Extends b s u → NameTypes s → NameTypes u
types_extended b s u h is = record {
  each = λ name.
      either (λ m. (type : List TypeWord) → m ≡ Some (meaning.Typedef type) → is_type type ≡ true) (IsNew b)
      (declared name s.environment.names.current) (declared name u.environment.names.current)
      (found name u.environment.names.outer) (h.names name) (new_type b)
      (λ type e. is.each name type
      (ap (λ z. or_else (declared name s.environment.names.current) (found name z)) (sym h.outer) ∙ e));
}

pub types_bound : (name : Name) (m : Meaning) (s u : State) → Binds name m s u
    → ((type : List TypeWord) → Some m ≡ Some (meaning.Typedef type) → is_type type ≡ true) → NameTypes s → NameTypes u
types_bound name m s u b h is = record {
  each = λ other.
      either (λ m. (type : List TypeWord) → m ≡ Some (meaning.Typedef type) → is_type type ≡ true) (λ x. x ≡ m)
      (declared other s.environment.names.current) (declared other u.environment.names.current)
      (found other u.environment.names.outer) (b.names other)
      (λ x e type g. h type (ap Some (sym e) ∙ g))
      (λ type e. is.each other type
      (ap (λ z. or_else (declared other s.environment.names.current) (found other z)) (sym b.outer) ∙ e));
}

-- what a construct gives, beside the state that it leaves
pub also_gives : {A : Type 0} (b : Bool) (s : State) (p : State → A → Type 0) (q : A → Type 0)
    (a : Answer (State × A)) → Extending b s p a → IfGives q a → Extending b s (λ u x. p u x × q x) a
also_gives b s p q (Ok r) h g = (h.0, (h.1, g))
also_gives b s p q (Err e) h g = tt

-- specifiers

tag_is_type : (x : Tag) → is_type (tag_type x) ≡ true
tag_is_type (tag.Structure n) = refl
tag_is_type (tag.Union n) = refl
tag_is_type (tag.Enumeration n) = refl

abbrev Whole : Gathered → Type 0
Whole g = IsTypeIf g.type

meant_whole : (s : State) (g : Gathered) (line : ℕ) (o : Option Meaning)
    → ((type : List TypeWord) → o ≡ Some (meaning.Typedef type) → is_type type ≡ true)
    → IfGives Whole (typedef_meant line o >>= with_type s >>= λ r. done (with_named r.1 g) r.0)
meant_whole s g line None h = tt
meant_whole s g line (Some (meaning.Typedef type)) h = h type refl
meant_whole s g line (Some (meaning.Constant w)) h = tt
meant_whole s g line (Some (meaning.Named d type)) h = tt

specifier_whole : (is_alone : Bool) (line : ℕ) (x : Specifier) (g : Gathered) → Whole g → (s : State) → NameTypes s
    → IfGives Whole (with_specifier is_alone line x g s)
specifier_whole is_alone line (t.keyword w at) g h s types = h
specifier_whole is_alone line (t.typedef_name x) g h s types =
    meant_whole s g x.position.line (names.meaning (name_of x) s.environment.names) (types.each (name_of x))
specifier_whole is_alone line (t.structure w at x) g h s types =
    then_gives Whole (tagged_as is_alone (tag_kind w) (name_of x) line s) (λ tag. done (with_named (tag_type tag) g))
    (λ tag u. tag_is_type tag)
specifier_whole is_alone line (t.structure_body w at x l ms r) g h s types =
    then_gives Whole (begun_as (tag_kind w) (tag_name x) line s)
    (λ tag. with_members ms no_entries >>> λ es. tag_completed line tag es >>> λ tag.
    done (with_named (tag_type tag) g))
    (λ tag u. then_gives Whole (with_members ms no_entries u)
    (λ es. tag_completed line tag es >>> λ tag. done (with_named (tag_type tag) g))
    (λ es v. then_gives Whole (tag_completed line tag es v) (λ tag. done (with_named (tag_type tag) g))
    (λ tag w. tag_is_type tag)))
specifier_whole is_alone line (t.enumeration at x) g h s types =
    then_gives Whole (tagged_as is_alone kind.Enumeration (name_of x) line s)
    (λ tag. done (with_named (tag_type tag) g)) (λ tag u. tag_is_type tag)
specifier_whole is_alone line (t.enumeration_body at x l e more comma r) g h s types =
    then_gives Whole (begun_as kind.Enumeration (tag_name x) line s)
    (λ tag. enumerator (Some 0) e >>> λ next. more_enumerators more next >>> λ next.
    done (with_named (tag_type tag) g))
    (λ tag u. then_gives Whole (enumerator (Some 0) e u)
    (λ next. more_enumerators more next >>> λ next. done (with_named (tag_type tag) g))
    (λ next v. then_gives Whole (more_enumerators more next v) (λ next. done (with_named (tag_type tag) g))
    (λ next w. tag_is_type tag)))

gathered_then : (is_alone : Bool) (line : ℕ) (more : Specifiers) (s : State) (types : NameTypes s)
    (a : Answer (State × Gathered)) → Extending false s IsGathered a → IfGives Whole a
    → ((g : Gathered) → HasType g.type → Whole g → (u : State) → IsFormed u → NameTypes u
    → IfGives Whole (gathered is_alone line more g u))
    → IfGives Whole (a >>= λ r. gathered is_alone line more r.1 r.0)
gathered_then is_alone line more s types (Ok r) h whole next =
    next r.1 h.1 whole r.0 h.0.formed (types_extended false s r.0 h.0 types)
gathered_then is_alone line more s types (Err e) h whole next = tt

gathered_whole : (is_alone : Bool) (line : ℕ) (specs : Specifiers) → are_regular_specifiers specs ≡ true
    → (g : Gathered) → HasType g.type → Whole g → (s : State) → IsFormed s → NameTypes s
    → IfGives Whole (gathered is_alone line specs g s)
gathered_whole is_alone line t.no_specifiers c g has whole s formed types = whole
gathered_whole is_alone line (t.specifiers x more) c g has whole s formed types =
    gathered_then is_alone line more s types (with_specifier is_alone line x g s)
    (specifier_extends is_alone line x (first _ _ c) g has s formed)
    (specifier_whole is_alone line x g whole s types)
    (λ g has whole u formed types. gathered_whole is_alone line more (second (is_regular_specifier x) _ c) g has whole u
    formed types)

basic_is_type : (k : Specified) → is_type (basic_type k ∷ []) ≡ true
basic_is_type k = by k.size
  where
    by : (z : Size) → is_type (basic_of z k.sign ∷ []) ≡ true
    by size.Void = refl
    by size.Absent = refl
    by size.Char = refl
    by size.Short = refl
    by size.Long = refl
    by size.LongLong = refl

specified_type : (line : ℕ) (g : Gathered) → Whole g → is_type (specified line g).type ≡ true
specified_type line g h =
    qualified_type g.keywords.is_const (type_or_basic g.type g.keywords) (by g.type h)
  where
    by : (o : Option (List TypeWord)) → IsTypeIf o → is_type (type_or_basic o g.keywords) ≡ true
    by None h = basic_is_type g.keywords
    by (Some type) h = h

pub specification_type : (is_alone : Bool) (specs : Specifiers) → are_regular_specifiers specs ≡ true → (s : State)
    → IsFormed s → NameTypes s → IfGives (λ spec. is_type spec.type ≡ true) (specification is_alone specs s)
specification_type is_alone specs c s formed types =
    map_gives Whole (λ spec. is_type spec.type ≡ true)
    (gathered is_alone (first_line specs) specs nothing_gathered s) (specified (first_line specs))
    (specified_type (first_line specs))
    (gathered_whole is_alone (first_line specs) specs c nothing_gathered tt tt s formed types)

-- declarators

derivation_more : (ds : List Derivation) (d : Derivation) → TakeTypes ds → TakesTypes d → TakeTypes (ds ++ d ∷ [])
derivation_more [] d h is = (is, tt)
derivation_more (x ∷ ds) d h is = (h.0, derivation_more ds d h.1 is)

abbrev pub WholeShape : Shape → Type 0
WholeShape sh = TakeTypes sh.derivations

abbrev pub AllTypes : List (List TypeWord) → Type 0
AllTypes types = list_all is_type types ≡ true

abbrev IsWhole : List TypeWord → Type 0
IsWhole type = is_type type ≡ true

-- behind a construct that leaves a state which extends the one before
whole_then : {A B : Type 0} (b : Bool) (p : A → Type 0) (q : B → Type 0) (e : State → A → Type 0) (s : State)
    → NameTypes s → (a : Answer (State × A)) (next : A → Typing B) → Extending b s e a → IfGives p a
    → ((x : A) → p x → (u : State) → Extends b s u → NameTypes u → e u x → IfGives q (next x u))
    → IfGives q (a >>= λ r. next r.1 r.0)
whole_then b p q e s types (Ok r) next h is g = g r.1 is r.0 h.0 (types_extended b s r.0 h.0 types) h.1
whole_then b p q e s types (Err f) next h is g = tt

pub types_inside : (s : State) → NameTypes s → NameTypes (within s)
types_inside s is = record {
  each = λ name type e.
      is.each name type
      (sym (found_last name s.environment.names.outer s.environment.names.current) ∙ e);
}

unless_gives : (o : Option Rule) (line : ℕ) (s : State) (type : List TypeWord) → is_type type ≡ true
    → IfGives IsWhole (unless o line type >>= with_type s)
unless_gives None line s type e = e
unless_gives (Some r) line s type e = tt

declaring_gives : (a : Answer Environment) (s : State) (type : List TypeWord) → is_type type ≡ true
    → IfGives IsWhole (a >>= λ env. Ok (record s { environment = env }, type))
declaring_gives (Ok env) s type e = e
declaring_gives (Err f) s type e = tt

built_gives : (in_definition : Bool) (spec : Specification) (b : BuiltType) → is_type b.type ≡ true
    → (name : Option (Name × ℕ)) (s : State) → IfGives IsWhole (parameter_built in_definition spec b name s)
built_gives d spec b e None s =
    unless_gives (rule_or_storage (rule_of (record b.faults { incomplete = b.faults.incomplete || is_void b.type }))
    (misplaced spec)) spec.line s (unqualified (adjusted b.type))
    (unqualified_type (adjusted b.type) (adjusted_type b.type e))
built_gives d spec b e (Some name) s = by (misplaced spec)
  where
    by : (is : Bool)
        → IfGives IsWhole (if is then violates rule.MisplacedStorage spec.line
        else declaring (unqualified (adjusted b.type)) (parameter_declaration d spec b name) s)
    by true = tt
    by false =
        declaring_gives (declared_in s.environment (parameter_declaration d spec b name)) s
        (unqualified (adjusted b.type)) (unqualified_type (adjusted b.type) (adjusted_type b.type e))

all_more : (types : List (List TypeWord)) (type : List TypeWord) → AllTypes types → is_type type ≡ true
    → AllTypes (types ++ type ∷ [])
all_more types type h e = all_append is_type types (type ∷ []) h (and_from (is_type type) true e refl)

function_gives : (s : State) (sh : Shape) → WholeShape sh → (a : Answer (State × List (List TypeWord)))
    → IfGives AllTypes a
    → IfGives WholeShape
    (a >>= λ r. (scope_left s.environment.variables >>> λ scope. done (with_function r.1 scope sh)) r.0)
function_gives s sh h (Ok r) is = derivation_more sh.derivations (to_function r.1) h is
function_gives s sh h (Err e) is = tt

mutual
  pub shape_types : (in_definition : Bool) (d : Declarator) → is_regular_declarator d ≡ true → (s : State)
      → IsFormed s → NameTypes s → IfGives WholeShape (shape in_definition d s)
  shape_types b (t.named x) c s formed types = tt
  shape_types b t.unnamed c s formed types = tt
  shape_types b (t.pointer at consts d) c s formed types =
      map_gives WholeShape WholeShape (shape b d s) (with_derivation (to_pointer (has_words consts)))
      (λ sh h. derivation_more sh.derivations (to_pointer (has_words consts)) h tt)
      (shape_types b d c s formed types)
  shape_types b (t.grouped l d r) c s formed types = shape_types b d c s formed types
  shape_types b (t.open_array d l r) c s formed types =
      map_gives WholeShape WholeShape (shape b d s) (with_derivation to_open_array)
      (λ sh h. derivation_more sh.derivations to_open_array h tt) (shape_types b d c s formed types)
  shape_types b (t.array d l n r) c s formed types =
      whole_then false WholeShape WholeShape (λ u sh. IsShapeOf u d sh) s types (shape b d s)
      (λ sh. valued (typed false n) >>> λ v. done (with_derivation (to_array (count_in v)) sh))
      (shape_extends b d (first _ _ c) s formed) (shape_types b d (first _ _ c) s formed types)
      (λ sh h u e types is. then_gives WholeShape (valued (typed false n) u)
      (λ v. done (with_derivation (to_array (count_in v)) sh))
      (λ v w. derivation_more sh.derivations (to_array (count_in v)) h tt))
  shape_types b (t.function d l ps r) c s formed types =
      whole_then false WholeShape WholeShape (λ u sh. IsShapeOf u d sh) s types (shape b d s)
      (λ sh. scope_opened >>> λ before. parameter_types (b && is_plain_name d) ps >>> λ types.
      scope_left before >>> λ scope. done (with_function types scope sh))
      (shape_extends b d (first _ _ c) s formed) (shape_types b d (first _ _ c) s formed types)
      (λ sh h u e types is. function_gives u sh h (parameter_types (b && is_plain_name d) ps (within u))
      (parameters_types (b && is_plain_name d) ps (second _ _ c) (within u) (within_formed u e.formed)
      (within_block u) (types_inside u types)))

  pub parameters_types : (in_definition : Bool) (ps : Parameters) → are_regular_parameters ps ≡ true → (s : State)
      → IsFormed s → is_empty s.environment.names.outer ≡ false → NameTypes s
      → IfGives AllTypes (parameter_types in_definition ps s)
  parameters_types b t.no_parameters c s formed inner types = refl
  parameters_types b (t.void_parameters at) c s formed inner types = refl
  parameters_types b (t.parameters x more) c s formed inner types =
      whole_then true IsWhole AllTypes anything s types (parameter_type b x s)
      (λ type. more_types b more (type ∷ [])) (parameter_extend b x (first _ _ c) s formed inner)
      (parameter_is_type b x (first _ _ c) s formed types)
      (λ type e u h types is. more_parameter_types b more (second (is_regular_name x) _ c) (type ∷ [])
      (and_from (is_type type) true e refl) u h.formed (ap is_empty h.outer ∙ inner) types)

  more_parameter_types : (in_definition : Bool) (more : MoreParameters) → more_are_regular_parameters more ≡ true
      → (before : List (List TypeWord)) → AllTypes before → (s : State) → IsFormed s
      → is_empty s.environment.names.outer ≡ false → NameTypes s
      → IfGives AllTypes (more_types in_definition more before s)
  more_parameter_types b t.end_of_parameters c before all s formed inner types = all
  more_parameter_types b (t.more_parameters at x more) c before all s formed inner types =
      whole_then true IsWhole AllTypes anything s types (parameter_type b x s)
      (λ type. more_types b more (before ++ type ∷ [])) (parameter_extend b x (first _ _ c) s formed inner)
      (parameter_is_type b x (first _ _ c) s formed types)
      (λ type e u h types is. more_parameter_types b more (second (is_regular_name x) _ c) (before ++ type ∷ [])
      (all_more before type all e) u h.formed (ap is_empty h.outer ∙ inner) types)

  parameter_is_type : (in_definition : Bool) (x : TypedDeclarator) → is_regular_name x ≡ true → (s : State)
      → IsFormed s → NameTypes s → IfGives IsWhole (parameter_type in_definition x s)
  parameter_is_type b (t.typed specs d) c s formed types =
      whole_then false (λ spec. is_type spec.type ≡ true) IsWhole IsSpecified s types (specification false specs s)
      (λ spec. shape false d >>> λ sh. parameter b spec sh)
      (specification_extends false specs (first _ _ c) s formed)
      (specification_type false specs (first _ _ c) s formed types)
      (λ spec whole u h types is. whole_then false WholeShape IsWhole (λ w sh. IsShapeOf w d sh) u types
      (shape false d u) (λ sh. parameter b spec sh) (shape_extends false d (second _ _ c) u h.formed)
      (shape_types false d (second _ _ c) u h.formed types)
      (λ sh derives w k types is. built_gives b spec (built_in w spec sh)
      (built_type (extents w) spec.type whole sh.derivations derives) sh.name w))

stored_gives : (spec : Specification) → is_type spec.type ≡ true → (s : State) (b : Bool)
    → IfGives (λ spec. is_type spec.type ≡ true)
    ((if b then violates rule.MisplacedStorage spec.line else Ok spec) >>= λ x. Ok (s, x))
stored_gives spec e s true = tt
stored_gives spec e s false = e

stored_by : (a : Answer (State × Specification)) → IfGives (λ spec. is_type spec.type ≡ true) a
    → IfGives (λ spec. is_type spec.type ≡ true) (a >>= λ r. judged (stored_once r.1) r.0)
stored_by (Ok r) h = stored_gives r.1 h r.0 r.1.has_two_storages
stored_by (Err e) h = tt

-- specifiers with at most one storage-class specifier
pub stored_type : (is_alone : Bool) (specs : Specifiers) → are_regular_specifiers specs ≡ true → (s : State)
    → IsFormed s → NameTypes s
    → IfGives (λ spec. is_type spec.type ≡ true)
    ((specification is_alone specs >>> λ spec. judged (stored_once spec)) s)
stored_type is_alone specs c s formed types =
    stored_by (specification is_alone specs s) (specification_type is_alone specs c s formed types)
