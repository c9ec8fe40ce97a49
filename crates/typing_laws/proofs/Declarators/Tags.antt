-- Tags, and structures and unions of which more are declared, begun or complete.
use Rattle.std.proofs.Common.{◌≡◌, ℕ, zero, suc, ◌<◌, ◌≤◌, Bool, true, false, ◌&&◌, refl, sym, ap, ◌∙◌, subst}
use Rattle.std.proofs.Common.{List, [], ◌∷◌, ◌++◌, length, Option, Some, None, if◌then◌else◌, arith}
use Rattle.std.proofs.lemmas.Bool.{false≢true}
use Rattle.std.specs.Prelude.{Ok, not}
use Rattle.c_tree.specs.Extents.{TypeExtent, structure_extent}
use Rattle.c_faults.specs.Answer.{Answer, violates, ◌>>=◌}
use Rattle.c_faults.specs.declared.fault.Rule.TheVariants.{MistakenTag}
use Rattle.c_tree.specs.declared.member.Member.{Member}
use Rattle.c_place_rules.specs.Places.{member_view}
use Rattle.c_place_rules.specs.Places as places
use Rattle.c_place_laws.specs.FinePlaces.{IsMemberOf}
use Rattle.c_scope.specs.declared.meaning.Tag.{Tag}
use Rattle.c_scope.specs.declared.meaning.Tag.TheVariants as tag
use Rattle.c_scope.specs.declared.tags.TagKind.{TagKind}
use Rattle.c_scope.specs.declared.tags.TagKind.TheVariants as kind
use Rattle.c_scope.specs.Environment.{Environment, in_file}
use Rattle.c_scope.specs.Names.{Name, Names, bound, declared, found, is_name, or_else}
use Rattle.c_scope.specs.Structures.{Body, Structures, begun, begun_body, changed, declared_structure, is_begun}
use Rattle.c_scope.specs.Structures.{member_in, member_of}
use Rattle.c_scope.specs.Tags.{added, begins_in, has_begun, if_file, is_of, marked, next_tag, referred, tag_found}
use Rattle.c_typing_state.specs.State.{State, extents}
use Rattle.c_expression_typing.specs.Constructs.{begun_as, tagged_as}
use Rattle.typing_laws.specs.Validity.More.{AreMore}
use Rattle.typing_laws.specs.Validity.Sound.{IsFormed, IsNumbered, IsObjectExtent, IsPending}
use Rattle.typing_laws.specs.Validity.Typed.{HaveMembers}
use Rattle.typing_laws.proofs.Validity.Common.{the_same}
use Rattle.typing_laws.proofs.Validity.Kept.{target_kept}
use Rattle.typing_laws.proofs.Validity.Sound.{same_list, same_more}
use Rattle.typing_laws.specs.Declarators.Extending.{Extending, Extends, IsSameOr, new, same}
use Rattle.typing_laws.specs.Declarators.Given.{IsBegun, anything}
use Rattle.typing_laws.proofs.Declarators.Chained.{adds_none, extends_on, extends_same}
use Rattle.typing_laws.proofs.Declarators.Lists.{added_length, changed_length, get_added, get_behind, read_added}
use Rattle.typing_laws.proofs.Declarators.Lists.{read_changed, there_changed}

-- a name that is bound stands for what it is bound to, or as before

bound_here : {A : Type 0} (P : A → Type 0) (b : Bool) (before x : A) (rest : Option A) → P x
    → IsSameOr P (if b then Some before else rest) (if b then Some x else rest)
bound_here P true before x rest is = new x refl is
bound_here P false before x rest is = same refl

bound_there : {A : Type 0} (P : A → Type 0) (b : Bool) (first : A) (before behind : Option A) → IsSameOr P before behind
    → IsSameOr P (if b then Some first else before) (if b then Some first else behind)
bound_there P true first before behind is = same refl
bound_there P false first before behind is = is

bound_by : {A : Type 0} (P : A → Type 0) (name other : Name) (x : A) (e : Name × A) (es : Names A) (b : Bool) → P x
    → IsSameOr P (declared other es) (declared other (bound name x es))
    → IsSameOr P (declared other (e ∷ es)) (declared other (if b then (e.0, x) ∷ es else e ∷ bound name x es))
bound_by P name other x e es true is h = bound_here P (is_name other e.0) e.1 x (declared other es) is
bound_by P name other x e es false is h =
    bound_there P (is_name other e.0) e.1 (declared other es) (declared other (bound name x es)) h

bound_new : {A : Type 0} (P : A → Type 0) (b : Bool) (x : A) → P x → IsSameOr P None (if b then Some x else None)
bound_new P true x is = new x refl is
bound_new P false x is = same refl

pub bound_same : {A : Type 0} (P : A → Type 0) (name other : Name) (x : A) (names : Names A) → P x
    → IsSameOr P (declared other names) (declared other (bound name x names))
bound_same P name other x [] is = bound_new P (is_name other name) x is
bound_same P name other x (e ∷ es) is =
    bound_by P name other x e es (is_name name e.0) is (bound_same P name other x es is)

-- a name that is not declared yet stands behind the others

last_by : {A : Type 0} (name : Name) (x : A) (e : Name × A) (es : Names A) (b : Bool)
    → (if b then Some e.1 else declared name es) ≡ None
    → (declared name es ≡ None → bound name x es ≡ es ++ (name, x) ∷ [])
    → (if b then (e.0, x) ∷ es else e ∷ bound name x es) ≡ e ∷ es ++ (name, x) ∷ []
last_by name x e es true is h = absurd cc
last_by name x e es false is h = ap (λ z. e ∷ z) (h is)

pub bound_last : {A : Type 0} (name : Name) (x : A) (names : Names A) → declared name names ≡ None
    → bound name x names ≡ names ++ (name, x) ∷ []
bound_last name x [] is = refl
bound_last name x (e ∷ es) is = last_by name x e es (is_name name e.0) is (bound_last name x es)

stays_by : {A : Type 0} (P : A → Type 0) (before behind around : Option A) → IsSameOr P before behind
    → ((x : A) → or_else before around ≡ Some x → P x) → (x : A) → or_else behind around ≡ Some x → P x
stays_by P before behind around (same e) h x is = h x (ap (λ z. or_else z around) (sym e) ∙ is)
stays_by P before behind around (new y e p) h x is = subst P (the_same (ap (λ z. or_else z around) (sym e) ∙ is)) p

pub numbered_more : (count more : ℕ) → count ≤ more → (t : Tag) → IsNumbered count t → IsNumbered more t
numbered_more count more low (tag.Structure n) is = omega arith
numbered_more count more low (tag.Union n) is = omega arith
numbered_more count more low (tag.Enumeration n) is = tt

-- other structures, tags and enumerations

abbrev pub restructured : State → Structures → Names Tag → List Bool → State
restructured s st current enumerations = record s {
  environment = record s.environment {
    structures = st;
    tags = record { outer = s.environment.tags.outer; current = current };
    enumerations = enumerations;
  };
}

record Restructures (s : State) (st : Structures) (current : Names Tag) : Type 0 where
  more : AreMore (extents s) st.extents
  longer : length (extents s) ≤ length st.extents
  length_is : length st.extents ≡ length st.bodies
  begun_is : (n : ℕ) (e : TypeExtent) → structure_extent st.extents n ≡ Some e → is_begun n st.bodies ≡ true
  sizes : (n : ℕ) (e : TypeExtent) → structure_extent st.extents n ≡ Some e → IsObjectExtent e
  tags : (name : Name) (t : Tag) → or_else (declared name current) (found name s.environment.tags.outer) ≡ Some t
      → IsNumbered (length st.extents) t
  members : HaveMembers s → (number : ℕ) (name : Name) (m : Member)
      → member_of number name st.bodies ≡ Some m → IsMemberOf st.extents number (member_view m)
  pending : (n : ℕ) → is_begun n s.environment.structures.bodies ≡ true → structure_extent (extents s) n ≡ None
      → (is_begun n st.bodies ≡ true) × (structure_extent st.extents n ≡ None)

restructured_extends : (b : Bool) (s : State) → IsFormed s → (st : Structures) (current : Names Tag)
    (enumerations : List Bool) → Restructures s st current → Extends b s (restructured s st current enumerations)
restructured_extends b s formed st current enumerations h = record {
  more = h.more;
  longer = h.longer;
  literals = same_list s.literals;
  types = same_list s.function_types;
  objects = refl;
  function = refl;
  facts = refl;
  entities = refl;
  statics = omega arith;
  numbers = λ n. refl;
  variables = λ e. refl;
  outer = refl;
  names = λ name. same refl;
  entries = λ e. adds_none s.environment.names.current;
  outer_tags = refl;
  members = λ m. record { each = h.members m };
  pending = λ n p. (let r = h.pending n p.begun p.incomplete in record { begun = r.0; incomplete = r.1 });
  formed = record {
    same = h.length_is;
    begun = h.begun_is;
    sizes = h.sizes;
    tags = h.tags;
    constants = formed.constants;
    typedefs = formed.typedefs;
  };
  undefined = λ e. e;
}

pub member_kept : (es more : List (Option TypeExtent)) → AreMore es more → (n : ℕ) (m : places.Member)
    → IsMemberOf es n m → IsMemberOf more n m
member_kept es more h n m is = record {
  sized = target_kept es more h m.type m.size is.sized;
  small = is.small;
  whole = is.whole;
  complete = h.kept n is.whole is.complete;
  object = is.object;
  inside = is.inside;
}

-- the tags of this scope, with one more

tags_with : (s : State) → IsFormed s → (count : ℕ) → length (extents s) ≤ count → (current : Names Tag)
    → ((name : Name) → IsSameOr (IsNumbered count) (declared name s.environment.tags.current) (declared name current))
    → (name : Name) (t : Tag) → or_else (declared name current) (found name s.environment.tags.outer) ≡ Some t
    → IsNumbered count t
tags_with s formed count low current h name =
    stays_by (IsNumbered count) (declared name s.environment.tags.current) (declared name current)
    (found name s.environment.tags.outer) (h name)
    (λ t e. numbered_more (length (extents s)) count low t (formed.tags name t e))

-- one more structure or union

added_begun : (file_tag : Option Name) (bodies : List Body) (n : ℕ)
    → is_begun n (bodies ++ record { file_tag = file_tag; is_begun = false; members = [] } ∷ []) ≡ is_begun n bodies
added_begun file_tag bodies n =
    read_added begun_body (record { file_tag = file_tag; is_begun = false; members = [] }) refl bodies n

added_member : (file_tag : Option Name) (bodies : List Body) (n : ℕ) (name : Name)
    → member_of n name (bodies ++ record { file_tag = file_tag; is_begun = false; members = [] } ∷ [])
    ≡ member_of n name bodies
added_member file_tag bodies n name =
    read_added (member_in name) (record { file_tag = file_tag; is_begun = false; members = [] }) refl bodies n

more_added : (es : List (Option TypeExtent)) → AreMore es (es ++ None ∷ [])
more_added es = record { kept = λ n e is. get_added es n ∙ is }

declares : (s : State) → IsFormed s → (file_tag : Option Name) (current : Names Tag)
    → ((name : Name) → IsSameOr (IsNumbered (length (extents s ++ None ∷ [])))
    (declared name s.environment.tags.current) (declared name current))
    → Restructures s (declared_structure file_tag s.environment.structures) current
declares s formed file_tag current tags =
    let es = extents s in
    let bodies = s.environment.structures.bodies in
    let longer = added_length es None in
    record {
      more = more_added es;
      longer = omega (arith, longer);
      length_is = longer ∙ ap suc formed.same
          ∙ sym (added_length bodies (record { file_tag = file_tag; is_begun = false; members = [] }));
      begun_is = λ n e is. added_begun file_tag bodies n ∙ formed.begun n e (sym (get_added es n) ∙ is);
      sizes = λ n e is. formed.sizes n e (sym (get_added es n) ∙ is);
      tags = tags_with s formed (length (es ++ None ∷ [])) (omega (arith, longer)) current tags;
      members = λ h n name m is.
          member_kept es (es ++ None ∷ []) (more_added es) n (member_view m)
          (h.each n name m (sym (added_member file_tag bodies n name) ∙ is));
      pending = λ n begun none. (added_begun file_tag bodies n ∙ begun, get_added es n ∙ none);
    }

leaves : (s : State) → IsFormed s → (current : Names Tag)
    → ((name : Name) → IsSameOr (IsNumbered (length (extents s))) (declared name s.environment.tags.current)
    (declared name current))
    → Restructures s s.environment.structures current
leaves s formed current tags = record {
  more = same_more (extents s);
  longer = omega arith;
  length_is = formed.same;
  begun_is = formed.begun;
  sizes = formed.sizes;
  tags = tags_with s formed (length (extents s)) (omega arith) current tags;
  members = λ h n name m is. h.each n name m is;
  pending = λ n begun none. (begun, none);
}

next_low : (es : List (Option TypeExtent)) → length es < length (es ++ None ∷ [])
next_low es = let longer = added_length es None in omega (arith, longer)

pub added_extends : (b : Bool) (s : State) → IsFormed s → (k : TagKind) (name : Option Name)
    → Extends b s (record s { environment = added k name s.environment })
added_extends b s formed kind.Structure None =
    restructured_extends b s formed (declared_structure (if_file (in_file s.environment) None) s.environment.structures)
    s.environment.tags.current s.environment.enumerations
    (declares s formed (if_file (in_file s.environment) None) s.environment.tags.current (λ name. same refl))
added_extends b s formed kind.Structure (Some x) =
    restructured_extends b s formed
    (declared_structure (if_file (in_file s.environment) (Some x)) s.environment.structures)
    (bound x (tag.Structure (length (extents s))) s.environment.tags.current) s.environment.enumerations
    (declares s formed (if_file (in_file s.environment) (Some x))
    (bound x (tag.Structure (length (extents s))) s.environment.tags.current)
    (λ name. bound_same (IsNumbered (length (extents s ++ None ∷ []))) x name (tag.Structure (length (extents s)))
    s.environment.tags.current (next_low (extents s))))
added_extends b s formed kind.Union None =
    restructured_extends b s formed (declared_structure (if_file (in_file s.environment) None) s.environment.structures)
    s.environment.tags.current s.environment.enumerations
    (declares s formed (if_file (in_file s.environment) None) s.environment.tags.current (λ name. same refl))
added_extends b s formed kind.Union (Some x) =
    restructured_extends b s formed
    (declared_structure (if_file (in_file s.environment) (Some x)) s.environment.structures)
    (bound x (tag.Union (length (extents s))) s.environment.tags.current) s.environment.enumerations
    (declares s formed (if_file (in_file s.environment) (Some x))
    (bound x (tag.Union (length (extents s))) s.environment.tags.current)
    (λ name. bound_same (IsNumbered (length (extents s ++ None ∷ []))) x name (tag.Union (length (extents s)))
    s.environment.tags.current (next_low (extents s))))
added_extends b s formed kind.Enumeration None =
    restructured_extends b s formed s.environment.structures s.environment.tags.current
    (s.environment.enumerations ++ false ∷ []) (leaves s formed s.environment.tags.current (λ name. same refl))
added_extends b s formed kind.Enumeration (Some x) =
    restructured_extends b s formed s.environment.structures
    (bound x (tag.Enumeration (length s.environment.enumerations)) s.environment.tags.current)
    (s.environment.enumerations ++ false ∷ [])
    (leaves s formed (bound x (tag.Enumeration (length s.environment.enumerations)) s.environment.tags.current)
    (λ name. bound_same (IsNumbered (length (extents s))) x name (tag.Enumeration (length s.environment.enumerations))
    s.environment.tags.current tt))

abbrev pub in_environment : State → Environment × Tag → Answer (State × Tag)
in_environment s r = Ok (record s { environment = r.0 }, r.1)

abbrev pub unless_mistaken : (is : Bool) → (line : ℕ) → Environment × Tag → Answer (Environment × Tag)
unless_mistaken is line r = if is then Ok r else violates MistakenTag line

referred_by : (b : Bool) (s : State) → IsFormed s → (line : ℕ) (t : Tag) (is : Bool)
    → Extending b s anything (unless_mistaken is line (s.environment, t) >>= in_environment s)
referred_by b s formed line t true = (extends_same b s formed, tt)
referred_by b s formed line t false = tt

tagged_by : (b : Bool) (s : State) → IsFormed s → (k : TagKind) (name : Name) (line : ℕ) (o : Option Tag)
    → Extending b s anything (referred k name line s.environment o >>= in_environment s)
tagged_by b s formed k name line None = (added_extends b s formed k (Some name), tt)
tagged_by b s formed k name line (Some t) = referred_by b s formed line t (is_of k t)

pub tagged_extends : (b : Bool) (s : State) → IsFormed s → (is_alone : Bool) (k : TagKind) (name : Name) (line : ℕ)
    → Extending b s anything (tagged_as is_alone k name line s)
tagged_extends b s formed is_alone k name line =
    tagged_by b s formed k name line (tag_found is_alone k name s.environment)

-- a structure or union whose members begin

begun_stays : (n : ℕ) (bodies : List Body) (m : ℕ) → is_begun m bodies ≡ true
    → is_begun m (changed n (λ x. record x { is_begun = true }) bodies) ≡ true
begun_stays n [] m e = e
begun_stays zero (x ∷ xs) zero e = refl
begun_stays zero (x ∷ xs) (suc m) e = e
begun_stays (suc n) (x ∷ xs) zero e = e
begun_stays (suc n) (x ∷ xs) (suc m) e = begun_stays n xs m e

begun_member : (n : ℕ) (bodies : List Body) (m : ℕ) (name : Name)
    → member_of m name (changed n (λ x. record x { is_begun = true }) bodies) ≡ member_of m name bodies
begun_member n bodies m name = read_changed (member_in name) (λ x. record x { is_begun = true }) (λ x. refl) n bodies m

begins_body : (s : State) → IsFormed s → (n : ℕ)
    → Restructures s (begun n s.environment.structures) s.environment.tags.current
begins_body s formed n =
    let bodies = s.environment.structures.bodies in
    record {
      more = same_more (extents s);
      longer = omega arith;
      length_is = formed.same ∙ sym (changed_length n (λ x. record x { is_begun = true }) bodies);
      begun_is = λ m e is. begun_stays n bodies m (formed.begun m e is);
      sizes = formed.sizes;
      tags = formed.tags;
      members = λ h m name x is. h.each m name x (sym (begun_member n bodies m name) ∙ is);
      pending = λ m begun none. (begun_stays n bodies m begun, none);
    }

begun_there : (n : ℕ) (bodies : List Body) → n < length bodies
    → is_begun n (changed n (λ x. record x { is_begun = true }) bodies) ≡ true
begun_there n bodies low =
    let t = there_changed n (λ x. record x { is_begun = true }) bodies low in ap begun_body t.1

-- whose members did not begin before
abbrev pub IsFresh : State → Tag → Type 0
IsFresh s (tag.Structure n) = is_begun n s.environment.structures.bodies ≡ false
IsFresh s (tag.Union n) = is_begun n s.environment.structures.bodies ≡ false
IsFresh s (tag.Enumeration n) = Unit {0}

abbrev IsOpen : State → Tag → Type 0
IsOpen s (tag.Structure n) = structure_extent (extents s) n ≡ None
IsOpen s (tag.Union n) = structure_extent (extents s) n ≡ None
IsOpen s (tag.Enumeration n) = Unit {0}

body_pending : (s : State) → IsFormed s → (n : ℕ) → n < length (extents s) → structure_extent (extents s) n ≡ None
    → IsPending (restructured s (begun n s.environment.structures) s.environment.tags.current
    s.environment.enumerations) n
body_pending s formed n low none = record {
  begun = begun_there n s.environment.structures.bodies (let e = formed.same in omega arith);
  incomplete = none;
}

marked_extends : (b : Bool) (s : State) → IsFormed s → (t : Tag) → IsNumbered (length (extents s)) t → IsOpen s t
    → Extends b s (record s { environment = marked t s.environment })
    × IsBegun (record s { environment = marked t s.environment }) t
marked_extends b s formed (tag.Structure n) low none = (
  restructured_extends b s formed (begun n s.environment.structures) s.environment.tags.current
      s.environment.enumerations (begins_body s formed n),
  body_pending s formed n low none,
)
marked_extends b s formed (tag.Union n) low none = (
  restructured_extends b s formed (begun n s.environment.structures) s.environment.tags.current
      s.environment.enumerations (begins_body s formed n),
  body_pending s formed n low none,
)
marked_extends b s formed (tag.Enumeration n) low none = (
  restructured_extends b s formed s.environment.structures s.environment.tags.current
      (changed n (λ x. true) s.environment.enumerations)
      (leaves s formed s.environment.tags.current (λ name. same refl)),
  tt,
)

abbrev pub BegunFrom : State → State → Tag → Type 0
BegunFrom s u t = IsBegun u t × IsFresh s t

next_numbered : (s : State) (k : TagKind) (name : Option Name)
    → IsNumbered (length (extents (record s { environment = added k name s.environment }))) (next_tag k s.environment)
next_numbered s kind.Structure None = next_low (extents s)
next_numbered s kind.Structure (Some x) = next_low (extents s)
next_numbered s kind.Union None = next_low (extents s)
next_numbered s kind.Union (Some x) = next_low (extents s)
next_numbered s kind.Enumeration name = tt

next_open : (s : State) (k : TagKind) (name : Option Name)
    → IsOpen (record s { environment = added k name s.environment }) (next_tag k s.environment)
next_open s kind.Structure None = get_added (extents s) (length (extents s)) ∙ get_behind (extents s)
next_open s kind.Structure (Some x) = get_added (extents s) (length (extents s)) ∙ get_behind (extents s)
next_open s kind.Union None = get_added (extents s) (length (extents s)) ∙ get_behind (extents s)
next_open s kind.Union (Some x) = get_added (extents s) (length (extents s)) ∙ get_behind (extents s)
next_open s kind.Enumeration name = tt

behind_all : (bodies : List Body) (n : ℕ) → n ≡ length bodies → is_begun n bodies ≡ false
behind_all [] n e = refl
behind_all (x ∷ xs) zero e = absurd (omega (arith, e))
behind_all (x ∷ xs) (suc n) e = behind_all xs n (omega (arith, e))

next_fresh : (s : State) → IsFormed s → (k : TagKind) → IsFresh s (next_tag k s.environment)
next_fresh s formed kind.Structure = behind_all s.environment.structures.bodies (length (extents s)) formed.same
next_fresh s formed kind.Union = behind_all s.environment.structures.bodies (length (extents s)) formed.same
next_fresh s formed kind.Enumeration = tt

begun_new : (b : Bool) (s : State) → IsFormed s → (k : TagKind) (name : Option Name)
    → Extends b s (record s { environment = marked (next_tag k s.environment) (added k name s.environment) })
    × BegunFrom s (record s { environment = marked (next_tag k s.environment) (added k name s.environment) })
    (next_tag k s.environment)
begun_new b s formed k name =
    let u = record s { environment = added k name s.environment } in
    let t = next_tag k s.environment in
    let first = added_extends b s formed k name in
    let second = marked_extends b u first.formed t (next_numbered s k name) (next_open s k name) in (
      extends_on b s u (record u { environment = marked t u.environment }) first second.0,
      (second.1, next_fresh s formed k),
    )

open_by : (es : List (Option TypeExtent)) (bodies : List Body) (n : ℕ)
    → ((e : TypeExtent) → structure_extent es n ≡ Some e → is_begun n bodies ≡ true)
    → is_begun n bodies ≡ false → (o : Option TypeExtent) → structure_extent es n ≡ o → structure_extent es n ≡ None
open_by es bodies n h fresh None e = e
open_by es bodies n h fresh (Some x) e = absurd (false≢true (sym fresh ∙ h x e))

fresh_open : (s : State) → IsFormed s → (t : Tag) → IsFresh s t → IsOpen s t
fresh_open s formed (tag.Structure n) fresh =
    open_by (extents s) s.environment.structures.bodies n (formed.begun n) fresh (structure_extent (extents s) n) refl
fresh_open s formed (tag.Union n) fresh =
    open_by (extents s) s.environment.structures.bodies n (formed.begun n) fresh (structure_extent (extents s) n) refl
fresh_open s formed (tag.Enumeration n) fresh = tt

not_begun : (a b : Bool) → (a && not b) ≡ true → b ≡ false
not_begun true false e = refl
not_begun true true e = absurd cc
not_begun false b e = absurd cc

fresh_by : (s : State) (t : Tag) → has_begun s.environment t ≡ false → IsFresh s t
fresh_by s (tag.Structure n) e = e
fresh_by s (tag.Union n) e = e
fresh_by s (tag.Enumeration n) e = tt

begun_old : (b : Bool) (s : State) → IsFormed s → (line : ℕ) (t : Tag) → IsNumbered (length (extents s)) t
    → (is : Bool) → (is ≡ true → IsFresh s t)
    → Extending b s (BegunFrom s)
    (unless_mistaken is line (marked t s.environment, t) >>= in_environment s)
begun_old b s formed line t low true fresh =
    let h = marked_extends b s formed t low (fresh_open s formed t (fresh refl)) in (h.0, (h.1, fresh refl))
begun_old b s formed line t low false fresh = tt

begun_in : (b : Bool) (s : State) → IsFormed s → (k : TagKind) (name : Name) (line : ℕ) (o : Option Tag)
    → declared name s.environment.tags.current ≡ o
    → Extending b s (BegunFrom s)
    (begins_in k name line s.environment o >>= in_environment s)
begun_in b s formed k name line None e = begun_new b s formed k (Some name)
begun_in b s formed k name line (Some t) e =
    begun_old b s formed line t
    (formed.tags name t (ap (λ z. or_else z (found name s.environment.tags.outer)) e))
    (is_of k t && not (has_begun s.environment t))
    (λ is. fresh_by s t (not_begun (is_of k t) (has_begun s.environment t) is))

pub begun_extends : (b : Bool) (s : State) → IsFormed s → (k : TagKind) (name : Option Name) (line : ℕ)
    → Extending b s (BegunFrom s) (begun_as k name line s)
begun_extends b s formed k None line = begun_new b s formed k None
begun_extends b s formed k (Some x) line =
    begun_in b s formed k x line (declared x s.environment.tags.current) refl
