-- Lists of parameters have a scope of their own.
use Rattle.std.proofs.Common.{◌≡◌, ℕ, Bool, true, false, ◌&&◌, ◌||◌, refl, sym, ap, subst, ◌∙◌, List, [], ◌∷◌}
use Rattle.std.proofs.Common.{◌++◌, length, Option, Some, None, if◌then◌else◌, arith}
use Rattle.std.specs.Prelude.{Ok, Err, not}
use Rattle.c_tree.specs.declared.c_type.TypeWord.{TypeWord}
use Rattle.c_tree.specs.declared.c_type.TypeWord.TheVariants as word
use Rattle.c_faults.specs.declared.fault.Rule.TheVariants as rule
use Rattle.c_faults.specs.Answer.{Answer, violates, ◌>>=◌}
use Rattle.c_rules.specs.Types.{unqualified}
use Rattle.c_declarators.specs.Adjusted.{adjusted}
use Rattle.c_declarators.specs.Derivations.{BuiltType}
use Rattle.c_scope.specs.declared.meaning.Designated.TheVariants as what
use Rattle.c_scope.specs.declared.meaning.Meaning.TheVariants as meaning
use Rattle.c_scope.specs.declared.meaning.Storage.{Storage}
use Rattle.c_scope.specs.declared.meaning.Storage.TheVariants as storage
use Rattle.c_scope.specs.Declaring.{Declaration, has_linkage, is_extern, is_function, is_typedef, judged}
use Rattle.c_scope.specs.Environment.{in_file, linked, surroundings, with_block, with_declarator, with_variable}
use Rattle.c_scope.specs.Environment.{without_linkage}
use Rattle.c_scope.specs.Names.{Name, Names, Scopes, around, bound, declared, found, innermost, is_empty, left}
use Rattle.c_scope.specs.Names.{or_else, opened}
use Rattle.c_scope.specs.Names as names
use Rattle.c_scope.specs.Parameters.{without_parameters}
use Rattle.c_declarator_typing.specs.Declarators.{Shape, declaring, is_misplaced, not_for_parameter, nameless_parameter}
use Rattle.c_declarator_typing.specs.Declarators.{parameter}
use Rattle.c_declarator_typing.specs.Declarators.{parameter_built, parameter_declaration, built_in}
use Rattle.c_declarator_typing.specs.Specifications.{Specification}
use Rattle.c_typing_state.specs.State.{State, extents}
use Rattle.typing_laws.specs.Validity.Sound.{IsFormed}
use Rattle.typing_laws.proofs.Validity.Common.{neither_right}
use Rattle.typing_laws.proofs.Validity.Sound.{same_list, same_more}
use Rattle.typing_laws.specs.Declarators.Extending.{AddsEnumerators, Extending, Extends, IsNew, IsSameOr, same}
use Rattle.typing_laws.specs.Declarators.Given.{anything}
use Rattle.typing_laws.proofs.Declarators.Chained.{adds_none, constants_stay, judged_extends, typedefs_stay}
use Rattle.typing_laws.proofs.Declarators.Steps.{whatever}
use Rattle.typing_laws.proofs.Declarators.Tags.{bound_same, numbered_more}

-- a scope that is opened and left

pub found_last : {A : Type 0} (name : Name) (outer : List (Names A)) (current : Names A)
    → found name (outer ++ current ∷ []) ≡ or_else (declared name current) (found name outer)
found_last name [] current = or_none (declared name current)
  where
    or_none : {A : Type 0} (a : Option A) → a ≡ or_else a None
    or_none None = refl
    or_none (Some x) = refl
found_last name (o ∷ outer) current =
    ap (λ z. or_else z (declared name o)) (found_last name outer current)
    ∙ in_turn (declared name current) (found name outer) (declared name o)
  where
    in_turn : {A : Type 0} (a b c : Option A) → or_else (or_else a b) c ≡ or_else a (or_else b c)
    in_turn None b c = refl
    in_turn (Some x) b c = refl

pub around_last : {A : Type 0} (outer : List (Names A)) (current : Names A) → around (outer ++ current ∷ []) ≡ outer
around_last [] current = refl
around_last (o ∷ []) current = refl
around_last (o ∷ p ∷ outer) current = ap (λ z. o ∷ z) (around_last (p ∷ outer) current)

pub innermost_last : {A : Type 0} (file : Names A) (outer : List (Names A)) (current : Names A)
    → innermost file (outer ++ current ∷ []) ≡ current
innermost_last file [] current = refl
innermost_last file (o ∷ outer) current = innermost_last o outer current

pub not_empty : {A : Type 0} (outer : List A) (x : A) → is_empty (outer ++ x ∷ []) ≡ false
not_empty [] x = refl
not_empty (o ∷ outer) x = refl

abbrev pub within : State → State
within s = record s { environment = with_block s.environment }

pub within_formed : (s : State) → IsFormed s → IsFormed (within s)
within_formed s formed = record {
  same = formed.same;
  begun = formed.begun;
  sizes = formed.sizes;
  tags = λ name t e.
      formed.tags name t (sym (found_last name s.environment.tags.outer s.environment.tags.current) ∙ e);
  constants = λ name w e.
      formed.constants name w (sym (found_last name s.environment.names.outer s.environment.names.current) ∙ e);
  typedefs = λ name type e.
      formed.typedefs name type (sym (found_last name s.environment.names.outer s.environment.names.current) ∙ e);
}

pub within_block : (s : State) → is_empty (within s).environment.names.outer ≡ false
within_block s = not_empty s.environment.names.outer s.environment.names.current

abbrev pub behind : (before : ℕ) → State → State
behind before t = record t { environment = without_parameters before t.environment }

module _ (b : Bool) (s t : State) (formed : IsFormed s) (h : Extends true (within s) t) where
  outer_is : around t.environment.names.outer ≡ s.environment.names.outer
  outer_is = ap around h.outer ∙ around_last s.environment.names.outer s.environment.names.current

  current_is : innermost [] t.environment.names.outer ≡ s.environment.names.current
  current_is = ap (innermost []) h.outer ∙ innermost_last [] s.environment.names.outer s.environment.names.current

  outer_tags_are : around t.environment.tags.outer ≡ s.environment.tags.outer
  outer_tags_are = ap around h.outer_tags ∙ around_last s.environment.tags.outer s.environment.tags.current

  tags_are : innermost [] t.environment.tags.outer ≡ s.environment.tags.current
  tags_are = ap (innermost []) h.outer_tags ∙ innermost_last [] s.environment.tags.outer s.environment.tags.current

  names_are : (name : Name) → names.meaning name (left t.environment.names) ≡ names.meaning name s.environment.names
  names_are name = ap (λ z. or_else (declared name z) (found name (around t.environment.names.outer))) current_is
      ∙ ap (λ z. or_else (declared name s.environment.names.current) (found name z)) outer_is

  the_tags_are : (name : Name) → names.meaning name (left t.environment.tags) ≡ names.meaning name s.environment.tags
  the_tags_are name = ap (λ z. or_else (declared name z) (found name (around t.environment.tags.outer))) tags_are
      ∙ ap (λ z. or_else (declared name s.environment.tags.current) (found name z)) outer_tags_are

  pub behind_extends : Extends b s (behind s.environment.variables t)
  behind_extends = record {
    more = record { kept = h.more.kept };
    longer = h.longer;
    literals = h.literals;
    types = h.types;
    objects = h.objects;
    function = h.function;
    facts = h.facts;
    entities = h.entities;
    statics = h.statics;
    numbers = h.numbers;
    variables = λ e. refl;
    outer = outer_is;
    names = λ name. same (ap (declared name) current_is);
    entries = λ e. subst (AddsEnumerators s.environment.names.current) (sym current_is)
        (adds_none s.environment.names.current);
    outer_tags = outer_tags_are;
    members = λ m. (let after = h.members (record { each = m.each }) in record { each = after.each });
    pending = λ n p.
        (let after = h.pending n (record { begun = p.begun; incomplete = p.incomplete }) in
        record { begun = after.begun; incomplete = after.incomplete });
    formed = record {
      same = h.formed.same;
      begun = h.formed.begun;
      sizes = h.formed.sizes;
      tags = λ name x e.
          numbered_more (length (extents s)) (length (extents t)) h.longer x
          (formed.tags name x (sym (the_tags_are name) ∙ e));
      constants = λ name w e. formed.constants name w (sym (names_are name) ∙ e);
      typedefs = λ name type e. formed.typedefs name type (sym (names_are name) ∙ e);
    };
    undefined = h.undefined;
  }

-- a parameter is a variable without linkage

pub no_function : (type : List TypeWord) → is_function (adjusted type) ≡ false
no_function [] = refl
no_function (word.Void ∷ ws) = refl
no_function (word.Integer t ∷ ws) = refl
no_function (word.Enumeration n ∷ ws) = refl
no_function (word.Pointer ∷ ws) = refl
no_function (word.Array count bytes ∷ ws) = refl
no_function (word.OpenArray ∷ ws) = refl
no_function (word.Structure n ∷ ws) = refl
no_function (word.Const ∷ ws) = refl
no_function (word.Takes ∷ ws) = refl
no_function (word.Gives ∷ ws) = refl

abbrev declared_there : State → (name : Name) → List TypeWord → State
declared_there s name type = record s { environment = with_variable name type s.environment }

there_names : (s : State) (name : Name) (type : List TypeWord) (other : Name)
    → IsSameOr (IsNew true) (declared other s.environment.names.current)
    (declared other (declared_there s name type).environment.names.current)
there_names s name type other =
    bound_same (IsNew true) name other (meaning.Named (what.Variable s.environment.variables) type)
    s.environment.names.current refl

there_extends : (s : State) → IsFormed s → (name : Name) (type : List TypeWord)
    → Extends true s (declared_there s name type)
there_extends s formed name type = record {
  more = same_more (extents s);
  longer = omega arith;
  literals = same_list s.literals;
  types = same_list s.function_types;
  objects = refl;
  function = refl;
  facts = refl;
  entities = refl;
  statics = omega arith;
  numbers = λ n. refl;
  variables = λ e. conflict e;
  outer = refl;
  names = there_names s name type;
  entries = λ e. conflict e;
  outer_tags = refl;
  members = λ h. record { each = h.each };
  pending = λ n p. record { begun = p.begun; incomplete = p.incomplete };
  formed = record {
    same = formed.same;
    begun = formed.begun;
    sizes = formed.sizes;
    tags = formed.tags;
    constants = constants_stay true s (declared_there s name type) formed refl (there_names s name type);
    typedefs = typedefs_stay true s (declared_there s name type) formed refl (there_names s name type);
  };
  undefined = λ e. e;
}
  where
    conflict : {P : Type 0} → true ≡ false → P
    conflict e = cc

-- neither typedef nor extern
pub record IsPlain (z : Storage) : Type 0 where
  pub no_typedef : is_typedef z ≡ false
  pub no_extern : is_extern z ≡ false

pub plain_by : (z : Storage) → not_for_parameter z ≡ false → IsPlain z
plain_by storage.Absent e = record { no_typedef = refl; no_extern = refl }
plain_by storage.Register e = record { no_typedef = refl; no_extern = refl }
plain_by storage.Auto e = absurd cc
plain_by storage.Static e = absurd cc
plain_by storage.Extern e = absurd cc
plain_by storage.Typedef e = absurd cc

pub unlinked_is : (a f g x : Bool) → a ≡ false → f ≡ false → g ≡ false → (not x && (a || f || g)) ≡ false
unlinked_is true f g x e h i = absurd cc
unlinked_is false true g x e h i = absurd cc
unlinked_is false false true x e h i = absurd cc
unlinked_is false false false true e h i = refl
unlinked_is false false false false e h i = refl

added_by : (s : State) → IsFormed s → (z : Storage) → not_for_parameter z ≡ false → (d : Declaration) → d.storage ≡ z
    → Extends true s (record s { environment = without_linkage z s.environment d })
added_by s formed storage.Absent e d is = there_extends s formed d.name d.type
added_by s formed storage.Register e d is = there_extends s formed d.name d.type
added_by s formed storage.Auto e d is = absurd cc
added_by s formed storage.Static e d is = absurd cc
added_by s formed storage.Extern e d is = absurd cc
added_by s formed storage.Typedef e d is = absurd cc

linked_by : (s : State) (d : Declaration) (b : Bool) → b ≡ false
    → Extends true s (record s { environment = without_linkage d.storage s.environment d })
    → Extends true s
    (record s { environment = if b then linked s.environment d else without_linkage d.storage s.environment d })
linked_by s d true e h = absurd cc
linked_by s d false e h = h

judged_by : (s : State) (d : Declaration) (type : List TypeWord) (a : Answer (Unit {0}))
    → Extends true s (record s { environment = with_declarator s.environment d })
    → Extending true s anything
    (a >>= (λ done. Ok (with_declarator s.environment d)) >>= λ env. Ok (record s { environment = env }, type))
judged_by s d type (Ok x) h = (h, tt)
judged_by s d type (Err f) h = tt

named_parameter : (s : State) → IsFormed s → in_file s.environment ≡ false → (in_definition : Bool)
    (spec : Specification) (b : BuiltType) (name : Name × ℕ) (is : Bool) → is_misplaced spec ≡ is
    → Extending true s anything
    (if is then violates rule.MisplacedStorage spec.line
    else declaring (unqualified (adjusted b.type)) (parameter_declaration in_definition spec b name) s)
named_parameter s formed inner in_definition spec b name true e = tt
named_parameter s formed inner in_definition spec b name false e =
    let d = parameter_declaration in_definition spec b name in
    let plain = neither_right spec.has_two_storages (not_for_parameter spec.storage) e in
    judged_by s d (unqualified (adjusted b.type)) (judged (surroundings s.environment d) d)
    (linked_by s d (has_linkage (in_file s.environment) d)
    (unlinked_is (in_file s.environment) (is_function (adjusted b.type)) (is_extern spec.storage)
    (is_typedef spec.storage) inner (no_function b.type) (plain_by spec.storage plain).no_extern)
    (added_by s formed spec.storage plain d refl))

parameter_by : (s : State) → IsFormed s → in_file s.environment ≡ false → (in_definition : Bool)
    (spec : Specification) (b : BuiltType) (name : Option (Name × ℕ))
    → Extending true s anything (parameter_built in_definition spec b name s)
parameter_by s formed inner in_definition spec b None =
    judged_extends true s anything (nameless_parameter spec b) formed (whatever s (nameless_parameter spec b))
parameter_by s formed inner in_definition spec b (Some name) =
    named_parameter s formed inner in_definition spec b name (is_misplaced spec) refl

pub parameter_extends : (s : State) → IsFormed s → is_empty s.environment.names.outer ≡ false → (in_definition : Bool)
    (spec : Specification) (sh : Shape) → Extending true s anything (parameter in_definition spec sh s)
parameter_extends s formed inner in_definition spec sh =
    parameter_by s formed inner in_definition spec (built_in s spec sh) sh.name
