-- What c_facts reads of a declaration is what it is typed to: its storage-class specifier and the names of its
-- declarators (C99 6.7.1, 6.7.5).
use Rattle.std.proofs.Common.{◌≡◌, ℕ, Bool, true, false, ◌||◌, refl, subst, Some}
use Rattle.std.proofs.Common.{if◌then◌else◌}
use Rattle.std.proofs.lemmas.Bool.{or_left, or_right}
use Rattle.std.specs.Prelude.{Ok, Err}
use Rattle.c_lexer.specs.declared.keyword.Keyword.{Keyword}
use Rattle.c_lexer.specs.declared.keyword.Keyword.TheVariants as keyword
use Rattle.c_syntax.specs.declared.position.Position.{Position}
use Rattle.c_syntax.specs.Formed as formed
use Rattle.c_syntax.specs.Statements as s
use Rattle.c_syntax.specs.Tree.{Specifier, Specifiers}
use Rattle.c_syntax.specs.Tree as t
use Rattle.c_facts.specs.Facts as facts
use Rattle.c_faults.specs.declared.fault.Rule.TheVariants.{MisplacedStorage}
use Rattle.c_faults.specs.Answer.{Answer, violates, ◌>>=◌}
use Rattle.c_scope.specs.declared.meaning.Storage.{Storage}
use Rattle.c_scope.specs.declared.meaning.Storage.TheVariants as storage
use Rattle.c_scope.specs.declared.meaning.Tag.{Tag}
use Rattle.c_scope.specs.declared.tags.TagKind.TheVariants as kind
use Rattle.c_scope.specs.Declaring.{is_extern, is_typedef}
use Rattle.c_specifiers.specs.declared.specified.Specified.{Specified}
use Rattle.c_specifiers.specs.Specified.{stored, with}
use Rattle.c_declarator_typing.specs.Members.{no_entries, tag_completed}
use Rattle.c_declarator_typing.specs.Specifications.{Gathered, Specification, nothing_gathered, specified, tag_kind}
use Rattle.c_declarator_typing.specs.Specifications.{tag_type}
use Rattle.c_declarator_typing.specs.Specifications.{typedef_type, with_named}
use Rattle.c_typing_state.specs.State.{State, Typing, done, judged, ◌>>>◌}
use Rattle.c_expression_typing.specs.Constructs.{begun_as, tagged_as}
use Rattle.c_expression_typing.specs.Lines.{first_line, name_of, tag_name}
use Rattle.c_expression_typing.specs.Typed.{enumerator, gathered, more_enumerators}
use Rattle.c_expression_typing.specs.Typed.{specification, with_members, with_specifier}
use Rattle.c_unit_typing.specs.Declarations.{stored_once}
use Rattle.c_unit_typing.specs.Declarations as units

-- the storage-class specifier of what is typed is among those that are read
pub record IsStored (typedefs externs : Bool) (z : Storage) : Type 0 where
  pub typedef : is_typedef z ≡ true → typedefs ≡ true
  pub own : is_extern z ≡ true → externs ≡ true

wider : (t x a b : Bool) (z : Storage) → IsStored t x z → IsStored (t || a) (x || b) z
wider t x a b z h = record {
  typedef = λ e. or_left t a (h.typedef e);
  own = λ e. or_left x b (h.own e);
}

other_storage : (t x : Bool) (z : Storage) → is_typedef z ≡ false → is_extern z ≡ false → IsStored t x z
other_storage t x z e g = record { typedef = λ h. absurd cc; own = λ h. absurd cc }

new_typedef : (t x b : Bool) → IsStored (t || true) (x || b) storage.Typedef
new_typedef t x b = record { typedef = λ e. or_right t true refl; own = λ e. absurd cc }

new_extern : (t x a : Bool) → IsStored (t || a) (x || true) storage.Extern
new_extern t x a = record { typedef = λ e. absurd cc; own = λ e. or_right x true refl }

-- a first one, or one behind another
stored_by : (t x a b : Bool) (old new : Storage) (k : Specified) → k.storage ≡ old → IsStored t x old
    → IsStored (t || a) (x || b) new → IsStored (t || a) (x || b) (stored old new k).storage
stored_by t x a b storage.Absent new k e h g = g
stored_by t x a b storage.Typedef new k e h g =
    subst (IsStored (t || a) (x || b)) (same e) (wider t x a b storage.Typedef h)
  where
    same : k.storage ≡ storage.Typedef → storage.Typedef ≡ k.storage
    same e = cc
stored_by t x a b storage.Extern new k e h g =
    subst (IsStored (t || a) (x || b)) (same e) (wider t x a b storage.Extern h)
  where
    same : k.storage ≡ storage.Extern → storage.Extern ≡ k.storage
    same e = cc
stored_by t x a b storage.Static new k e h g =
    subst (IsStored (t || a) (x || b)) (same e) (wider t x a b storage.Static h)
  where
    same : k.storage ≡ storage.Static → storage.Static ≡ k.storage
    same e = cc
stored_by t x a b storage.Auto new k e h g =
    subst (IsStored (t || a) (x || b)) (same e) (wider t x a b storage.Auto h)
  where
    same : k.storage ≡ storage.Auto → storage.Auto ≡ k.storage
    same e = cc
stored_by t x a b storage.Register new k e h g =
    subst (IsStored (t || a) (x || b)) (same e) (wider t x a b storage.Register h)
  where
    same : k.storage ≡ storage.Register → storage.Register ≡ k.storage
    same e = cc

keyword_stored : (w : Keyword) (at : Position) (k : Specified) (m n : Bool) → IsStored m n k.storage
    → IsStored (m || formed.is_typedef (t.keyword w at)) (n || facts.is_extern (t.keyword w at)) (with w k).storage
keyword_stored keyword.Typedef at k m n h =
    stored_by m n true false k.storage storage.Typedef k refl h (new_typedef m n false)
keyword_stored keyword.Extern at k m n h =
    stored_by m n false true k.storage storage.Extern k refl h (new_extern m n false)
keyword_stored keyword.Static at k m n h =
    stored_by m n false false k.storage storage.Static k refl h
    (other_storage (m || false) (n || false) storage.Static refl refl)
keyword_stored keyword.Auto at k m n h =
    stored_by m n false false k.storage storage.Auto k refl h
    (other_storage (m || false) (n || false) storage.Auto refl refl)
keyword_stored keyword.Register at k m n h =
    stored_by m n false false k.storage storage.Register k refl h
    (other_storage (m || false) (n || false) storage.Register refl refl)
keyword_stored w at k m n h = wider m n _ _ k.storage h

abbrev IfGathered : (typedefs externs : Bool) → Answer (State × Gathered) → Type 0
IfGathered t x (Ok r) = IsStored t x r.1.keywords.storage
IfGathered t x (Err e) = Unit {0}

behind_stored : {A : Type 0} (t x : Bool) (a : Answer (State × A)) (next : A → Typing Gathered)
    → ((y : A) (u : State) → IfGathered t x (next y u)) → IfGathered t x (a >>= λ r. next r.1 r.0)
behind_stored t x (Ok r) next k = k r.1 r.0
behind_stored t x (Err e) next k = tt

tagged_stored : (m n : Bool) (g : Gathered) → IsStored m n g.keywords.storage → (a : Answer (State × Tag))
    → IfGathered m n (a >>= λ r. done (with_named (tag_type r.1) g) r.0)
tagged_stored m n g h (Ok r) = h
tagged_stored m n g h (Err e) = tt

specifier_stored : (is_alone : Bool) (line : ℕ) (y : Specifier) (g : Gathered) (u : State) (m n : Bool)
    → IsStored m n g.keywords.storage
    → IfGathered (m || formed.is_typedef y) (n || facts.is_extern y) (with_specifier is_alone line y g u)
specifier_stored is_alone line (t.keyword w at) g u a b h = keyword_stored w at g.keywords a b h
specifier_stored is_alone line (t.typedef_name y) g u a b h =
    behind_stored (a || false) (b || false) (judged (typedef_type (name_of y) y.position.line) u)
    (λ type. done (with_named type g)) (λ type v. wider a b false false g.keywords.storage h)
specifier_stored is_alone line (t.structure w at y) g u a b h =
    tagged_stored (a || false) (b || false) g (wider a b false false g.keywords.storage h)
    (tagged_as is_alone (tag_kind w) (name_of y) line u)
specifier_stored is_alone line (t.structure_body w at y l ms r) g u a b h =
    behind_stored (a || false) (b || false) (begun_as (tag_kind w) (tag_name y) line u)
    (λ x. with_members ms no_entries >>> λ es. tag_completed line x es >>> λ z. done (with_named (tag_type z) g))
    (λ x v. behind_stored (a || false) (b || false) (with_members ms no_entries v)
    (λ es. tag_completed line x es >>> λ z. done (with_named (tag_type z) g))
    (λ es v. tagged_stored (a || false) (b || false) g (wider a b false false g.keywords.storage h)
    (tag_completed line x es v)))
specifier_stored is_alone line (t.enumeration at y) g u a b h =
    tagged_stored (a || false) (b || false) g (wider a b false false g.keywords.storage h)
    (tagged_as is_alone kind.Enumeration (name_of y) line u)
specifier_stored is_alone line (t.enumeration_body at y l e more comma r) g u a b h =
    behind_stored (a || false) (b || false) (begun_as kind.Enumeration (tag_name y) line u)
    (λ x. enumerator (Some 0) e >>> λ next. more_enumerators more next >>> λ next. done (with_named (tag_type x) g))
    (λ x v. behind_stored (a || false) (b || false) (enumerator (Some 0) e v)
    (λ next. more_enumerators more next >>> λ next. done (with_named (tag_type x) g))
    (λ next v. behind_stored (a || false) (b || false) (more_enumerators more next v)
    (λ next. done (with_named (tag_type x) g)) (λ next v. wider a b false false g.keywords.storage h)))

regroup : (a b c : Bool) → ((a || b) || c) ≡ (a || (b || c))
regroup true b c = refl
regroup false b c = refl

then_gathered : (t x : Bool) (a b c d : Bool) (z : Answer (State × Gathered)) (next : Gathered → Typing Gathered)
    → IfGathered (t || a) (x || b) z
    → ((g : Gathered) (u : State) → IsStored (t || a) (x || b) g.keywords.storage
    → IfGathered ((t || a) || c) ((x || b) || d) (next g u))
    → IfGathered (t || (a || c)) (x || (b || d)) (z >>= λ r. next r.1 r.0)
then_gathered t x a b c d (Ok r) next h k =
    subst (λ y. IfGathered y (x || (b || d)) (next r.1 r.0)) (regroup t a c)
    (subst (λ y. IfGathered ((t || a) || c) y (next r.1 r.0)) (regroup x b d) (k r.1 r.0 h))
then_gathered t x a b c d (Err e) next h k = tt

gathered_stored : (is_alone : Bool) (line : ℕ) (specs : Specifiers) (g : Gathered) (u : State) (m n : Bool)
    → IsStored m n g.keywords.storage
    → IfGathered (m || formed.has_typedef specs) (n || facts.has_extern specs) (gathered is_alone line specs g u)
gathered_stored is_alone line t.no_specifiers g u a b h = wider a b false false g.keywords.storage h
gathered_stored is_alone line (t.specifiers y more) g u a b h =
    then_gathered a b (formed.is_typedef y) (facts.is_extern y) (formed.has_typedef more) (facts.has_extern more)
    (with_specifier is_alone line y g u) (λ g'. gathered is_alone line more g')
    (specifier_stored is_alone line y g u a b h)
    (λ g' v is. gathered_stored is_alone line more g' v (a || formed.is_typedef y) (b || facts.is_extern y) is)

abbrev pub IfStored : Specifiers → Answer (State × Specification) → Type 0
IfStored specs (Ok r) = IsStored (formed.has_typedef specs) (facts.has_extern specs) r.1.storage
IfStored specs (Err e) = Unit {0}

stored_gathered : (specs : Specifiers) (a : Answer (State × Gathered))
    → IfGathered (formed.has_typedef specs) (facts.has_extern specs) a
    → IfStored specs (a >>= λ r. done (specified (first_line specs) r.1) r.0)
stored_gathered specs (Ok r) h = h
stored_gathered specs (Err e) h = tt

specification_stored : (is_alone : Bool) (specs : Specifiers) (u : State)
    → IfStored specs (specification is_alone specs u)
specification_stored is_alone specs u =
    stored_gathered specs (gathered is_alone (first_line specs) specs nothing_gathered u)
    (gathered_stored is_alone (first_line specs) specs nothing_gathered u false false
    (other_storage false false storage.Absent refl refl))

once_by : (specs : Specifiers) (spec : Specification) (u : State) (b : Bool)
    → IsStored (formed.has_typedef specs) (facts.has_extern specs) spec.storage
    → IfStored specs ((if b then violates MisplacedStorage spec.line else Ok spec) >>= λ x. Ok (u, x))
once_by specs spec u true h = tt
once_by specs spec u false h = h

then_once : (specs : Specifiers) (a : Answer (State × Specification)) → IfStored specs a
    → IfStored specs (a >>= λ r. judged (stored_once r.1) r.0)
then_once specs (Ok r) h = once_by specs r.1 r.0 r.1.has_two_storages h
then_once specs (Err e) h = tt

pub specified_stored : (is_alone : Bool) (d : s.Declaration) (u : State)
    → IfStored d.specifiers (units.specified is_alone d u)
specified_stored is_alone d u =
    then_once d.specifiers (specification is_alone d.specifiers u) (specification_stored is_alone d.specifiers u)
