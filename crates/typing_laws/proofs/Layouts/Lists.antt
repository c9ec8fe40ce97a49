-- The members that are listed of structures and unions lie in them, where one is declared, begins or is complete (C99
-- 6.7.2.1).
use Rattle.std.proofs.Common.{◌≡◌, ◌⊎◌, inl, inr, ℕ, zero, suc, ◌^◌, ◌<◌, ◌≤◌, Bool, true, false, ◌&&◌, refl, sym}
use Rattle.std.proofs.Common.{ap, ◌∙◌, subst, List, [], ◌∷◌, ◌++◌, length, map, Option, Some, None}
use Rattle.std.proofs.Common.{if◌then◌else◌, arith}
use Rattle.std.specs.Prelude.{Ok, not, get_or, nat_lt, option_map, slice_get}
use Rattle.std.proofs.lemmas.Bool.{ltb-false}
use Rattle.c_tree.specs.declared.c_type.TypeWord.{TypeWord}
use Rattle.c_tree.specs.Extents.{TypeExtent, extent_of}
use Rattle.c_faults.specs.declared.fault.Rule.TheVariants as rule
use Rattle.c_faults.specs.Answer.{violates, ◌>>=◌}
use Rattle.c_tree.specs.declared.member.Member.{Member}
use Rattle.c_declarators.specs.Derivations.{BuiltType, element_faults}
use Rattle.c_declarators.specs.Faults.{and_faults, rule_of}
use Rattle.c_scope.specs.declared.meaning.Tag.{Tag}
use Rattle.c_scope.specs.declared.meaning.Tag.TheVariants as tag
use Rattle.c_scope.specs.declared.tags.TagKind.{TagKind}
use Rattle.c_scope.specs.declared.tags.TagKind.TheVariants as kind
use Rattle.c_scope.specs.Environment.{Environment, in_file}
use Rattle.c_scope.specs.Names.{Name, Names, bound, declared, is_name}
use Rattle.c_scope.specs.Structures.{Body, Structures, begun, changed, declared_structure, is_known}
use Rattle.c_scope.specs.Structures.{members_in}
use Rattle.c_scope.specs.Tags.{added, begins_in, has_begun, if_file, is_of, marked, next_tag, tag_found, referred}
use Rattle.c_current_object.specs.Members.{MemberList, list_in, lists_in}
use Rattle.c_declarator_typing.specs.Declarators.{Shape, built_in}
use Rattle.c_declarator_typing.specs.Members.{Entries, Entry, extent_with, member_added, member_at, member_named}
use Rattle.c_declarator_typing.specs.Members.{member_rule, members_at, offsets_in, sized_entry, tag_completed}
use Rattle.c_declarator_typing.specs.Members.{with_structure}
use Rattle.c_declarator_typing.specs.Specifications.{Specification}
use Rattle.c_typing_state.specs.State.{State, extents}
use Rattle.c_expression_typing.specs.Constructs.{begun_as, tagged_as}
use Rattle.typing_laws.specs.Validity.More.{AreMore}
use Rattle.typing_laws.specs.Validity.Sound.{IsFormed, IsPending}
use Rattle.typing_laws.proofs.Validity.Common.{the_same}
use Rattle.typing_laws.proofs.Validity.Sound.{IfAnswer}
use Rattle.typing_laws.specs.Declarators.Given.{AreEntries, IsBegun, anything}
use Rattle.typing_laws.proofs.Declarators.Completed.{filled, filled_more, inside}
use Rattle.typing_laws.proofs.Declarators.Lists.{got_there, other_changed, read_changed, same_or}
use Rattle.typing_laws.proofs.Declarators.Lists.{get_added}
use Rattle.typing_laws.proofs.Declarators.Members.{Each, Members, each_by, no_rule, unless_by}
use Rattle.typing_laws.proofs.Declarators.Tags.{in_environment}
use Rattle.typing_laws.proofs.Declarators.Types.{NoFaults, first_faultless, without_faults}
use Rattle.typing_laws.specs.Layouts.Listed.{AreListed, IsListed, has_array_bytes}
use Rattle.typing_laws.proofs.Layouts.Arrays.{arrays_kept, built_arrays, listed_kept}
use Rattle.typing_laws.proofs.Layouts.Chained.{HasLists, Laid}

-- a list of members, each with a property

abbrev EachMember : (P : Member → Type 0) → Names Member → Type 0
EachMember P [] = Unit {0}
EachMember P (e ∷ es) = P e.1 × EachMember P es

bound_or : (P : Member → Type 0) (m : Member) (e : Name × Member) (es more : Names Member) → P m → P e.1
    → EachMember P es → EachMember P more → (b : Bool)
    → EachMember P (if b then (e.0, m) ∷ es else e ∷ more)
bound_or P m e es more is own rest h true = (is, rest)
bound_or P m e es more is own rest h false = (own, h)

bound_member : (P : Member → Type 0) (name : Name) (m : Member) (es : Names Member) → P m → EachMember P es
    → EachMember P (bound name m es)
bound_member P name m [] is h = (is, tt)
bound_member P name m (e ∷ es) is h =
    bound_or P m e es (bound name m es) is h.0 h.1 (bound_member P name m es is h.1) (is_name name e.0)

members_have : (P : Member → Type 0) (es : List Entry) (os : List ℕ) (members : Names Member) → Each P es os
    → EachMember P members → EachMember P (members_at es os members)
members_have P [] os members each h = h
members_have P (e ∷ es) [] members each h = h
members_have P (e ∷ es) (o ∷ os) members each h =
    members_have P es os (bound e.name (member_at o e) members) each.1
    (bound_member P e.name (member_at o e) members each.0 h)

member_there : (P : Member → Type 0) (es : Names Member) → EachMember P es → (k : ℕ) (m : Member)
    → slice_get (map (λ e. e.1) es) k ≡ Some m → P m
member_there P [] h k m is = absurd cc
member_there P (e ∷ es) h zero m is = subst P (the_same is) h.0
member_there P (e ∷ es) h (suc k) m is = member_there P es h.1 k m is

-- the entries of members whose arrays have the bytes of their elements

abbrev pub HaveArrays : List (Option TypeExtent) → List Entry → Type 0
HaveArrays es [] = Unit {0}
HaveArrays es (e ∷ others) = (has_array_bytes es e.type ≡ true) × HaveArrays es others

pub entries_have : (es more : List (Option TypeExtent)) → AreMore es more → (entries : List Entry)
    → HaveArrays es entries → HaveArrays more entries
entries_have es more h [] is = tt
entries_have es more h (e ∷ entries) is =
    (arrays_kept es more h e.type is.0, entries_have es more h entries is.1)

entry_has : (es : List (Option TypeExtent)) (entries : List Entry) → HaveArrays es entries → (k : ℕ) (e : Entry)
    → slice_get entries k ≡ Some e → has_array_bytes es e.type ≡ true
entry_has es [] h k e is = absurd cc
entry_has es (x ∷ entries) h zero e is = subst (λ e. has_array_bytes es e.type ≡ true) (the_same is) h.0
entry_has es (x ∷ entries) h (suc k) e is = entry_has es entries h.1 k e is

one_more : (es : List (Option TypeExtent)) (entries : List Entry) (e : Entry) → HaveArrays es entries
    → has_array_bytes es e.type ≡ true → HaveArrays es (entries ++ e ∷ [])
one_more es [] e h is = (is, tt)
one_more es (x ∷ entries) e h is = (h.0, one_more es entries e h.1 is)

sized_have : (es : List (Option TypeExtent)) (entries : Entries) → HaveArrays es entries.entries → (name : Name)
    (line : ℕ) (type : List TypeWord) → has_array_bytes es type ≡ true → (o : Option TypeExtent)
    → IfAnswer (λ z. HaveArrays es z.entries) (sized_entry name line type o entries)
sized_have es entries h name line type is None = tt
sized_have es entries h name line type is (Some x) =
    one_more es entries.entries (record { name = name; type = type; extent = x }) h is

named_have : (es : List (Option TypeExtent)) (entries : Entries) → HaveArrays es entries.entries → (b : BuiltType)
    → (NoFaults b.faults → has_array_bytes es b.type ≡ true) → (name : Option (Name × ℕ))
    → IfAnswer (λ z. HaveArrays es z.entries) (member_named es b name entries)
named_have es entries h b is None = h
named_have es entries h b is (Some name) =
    let faults = element_faults es b.type in
    unless_by (member_rule es b name.0 entries) name.1 entries
    (λ entries. sized_entry name.0 name.1 b.type (extent_of es b.type) entries) (λ z. HaveArrays es z.entries)
    (λ r. let good = without_faults (and_faults b.faults faults) (no_rule (rule_of (and_faults b.faults faults)) _ r) in
    sized_have es entries h name.0 name.1 b.type (is (first_faultless b.faults faults good)) (extent_of es b.type))

pub member_has : (s : State) (entries : Entries) → HaveArrays (extents s) entries.entries → (spec : Specification)
    → has_array_bytes (extents s) spec.type ≡ true → (sh : Shape)
    → IfAnswer (λ z. HaveArrays (extents s) z.entries) (member_added spec sh entries s)
member_has s entries h spec is sh =
    named_have (extents s) entries h (built_in s spec sh) (built_arrays (extents s) spec.type is sh.derivations) sh.name

-- the list of a structure or union, if it is complete

abbrev list_by : Option (Option TypeExtent) → Option Body → Option MemberList
list_by e b = option_map list_in (if is_known e then members_in b else None)

list_of_body : (known : Bool) (o : Option (Names Member)) (l : MemberList)
    → option_map list_in (if known then o else None) ≡ Some l → (members : Names Member) × (o ≡ Some members)
    × (l.members ≡ members)
list_of_body false o l is = absurd cc
list_of_body true None l is = absurd cc
list_of_body true (Some members) l is = (members, refl, ap (λ l. l.members) (the_same (sym is)))

-- one that is complete now

module _ (u : State) (formed : IsFormed u) (is_union : Bool) (n : ℕ) (entries : List Entry)
    (each : AreEntries u entries)
    (some : 1 ≤ length entries) (small : (extent_with is_union entries).size ≤ 2 ^ 32) (pending : IsPending u n)
    (arrays : HaveArrays (extents u) entries) (lists : HasLists u) where
  more : AreMore (extents u) (filled n (extent_with is_union entries) (extents u))
  more = filled_more n (extent_with is_union entries) (extents u) pending.incomplete

  now : (k : ℕ) (e : Entry) → slice_get entries k ≡ Some e
      → IsListed (filled n (extent_with is_union entries) (extents u)) n
      (member_at (get_or (offsets_in is_union entries) k 0) e)
  now k e is = record {
    member = inside u formed is_union n entries each some small pending k e is;
    arrays = arrays_kept (extents u) (filled n (extent_with is_union entries) (extents u)) more e.type
        (entry_has (extents u) entries arrays k e is);
  }

  all_now : EachMember (IsListed (filled n (extent_with is_union entries) (extents u)) n)
      (members_at entries (offsets_in is_union entries) [])
  all_now =
      members_have (IsListed (filled n (extent_with is_union entries) (extents u)) n) entries
      (offsets_in is_union entries) []
      (each_by (IsListed (filled n (extent_with is_union entries) (extents u)) n) entries
      (offsets_in is_union entries) now) tt

  body_now : (members : Names Member) (o : Option Body)
      → slice_get (changed n (λ b. record b { members = members_at entries (offsets_in is_union entries) [] })
      u.environment.structures.bodies) n ≡ o
      → members_in o ≡ Some members → members ≡ members_at entries (offsets_in is_union entries) []
  body_now members None e is = absurd cc
  body_now members (Some b) e is =
      let x = got_there n (λ b. record b { members = members_at entries (offsets_in is_union entries) [] })
      u.environment.structures.bodies b e in
      the_same (sym is) ∙ ap (λ b. b.members) x.1

  listed_now : (l : MemberList) → lists_in (with_structure is_union n entries u).environment.structures n ≡ Some l
      → (k : ℕ) (m : Member) → slice_get (map (λ e. e.1) l.members) k ≡ Some m
      → IsListed (filled n (extent_with is_union entries) (extents u)) n m
  listed_now l is k m at =
      let found = list_of_body
      (is_known (slice_get (filled n (extent_with is_union entries) (extents u)) n)) _ l is in
      member_there (IsListed (filled n (extent_with is_union entries) (extents u)) n)
      (members_at entries (offsets_in is_union entries) []) all_now k m
      (ap (λ z. slice_get (map (λ e. e.1) z) k) (sym (found.2 ∙ body_now found.0 _ refl found.1)) ∙ at)

  listed_before : (j : ℕ) → (j ≡ n → ⊥) → (l : MemberList)
      → lists_in (with_structure is_union n entries u).environment.structures j ≡ Some l → (k : ℕ) (m : Member)
      → slice_get (map (λ e. e.1) l.members) k ≡ Some m
      → IsListed (filled n (extent_with is_union entries) (extents u)) j m
  listed_before j other l is k m at =
      let same_extent = other_changed n (λ e. Some (extent_with is_union entries)) (extents u) j other in
      let same_body = other_changed n
      (λ b. record b { members = members_at entries (offsets_in is_union entries) [] })
      u.environment.structures.bodies j other in
      listed_kept (extents u) (filled n (extent_with is_union entries) (extents u)) more j m
      (lists.each j l (ap (λ e. list_by e (slice_get u.environment.structures.bodies j)) (sym same_extent)
      ∙ ap (list_by (slice_get (filled n (extent_with is_union entries) (extents u)) j)) (sym same_body) ∙ is) k m at)

  completed_lists : HasLists (with_structure is_union n entries u)
  completed_lists = record {
    each = λ j l is k m at. by j l is k m at (same_or j n);
  }
    where
      by : (j : ℕ) (l : MemberList) → lists_in (with_structure is_union n entries u).environment.structures j ≡ Some l
          → (k : ℕ) (m : Member) → slice_get (map (λ e. e.1) l.members) k ≡ Some m → (j ≡ n) ⊎ (j ≡ n → ⊥)
          → IsListed (filled n (extent_with is_union entries) (extents u)) j m
      by j l is k m at (inr other) = listed_before j other l is k m at
      by j l is k m at (inl e) =
          subst (λ j. IsListed (filled n (extent_with is_union entries) (extents u)) j m) (sym e)
          (listed_now l (ap (lists_in (with_structure is_union n entries u).environment.structures) (sym e) ∙ is) k m
          at)

large_by : (u : State) → IsFormed u → (is_union : Bool) (line n : ℕ) (es : Entries) → Members u 1 es → IsPending u n
    → HaveArrays (extents u) es.entries → HasLists u → (t : Tag) → (large : Bool)
    → nat_lt (2 ^ 32) (extent_with is_union es.entries).size ≡ large
    → Laid anything
    ((if large then violates rule.LargeType line else Ok (with_structure is_union n es.entries u)) >>= λ v. Ok (v, t))
large_by u formed is_union line n es is pending arrays lists t true e = tt
large_by u formed is_union line n es is pending arrays lists t false e = (
  completed_lists u formed is_union n es.entries is.each is.count
      (ltb-false (2 ^ 32) (extent_with is_union es.entries).size e) pending arrays lists,
  tt,
)

pub tag_completed_laid : (u : State) → IsFormed u → (line : ℕ) (t : Tag) (es : Entries) → Members u 1 es → IsBegun u t
    → HaveArrays (extents u) es.entries → HasLists u → Laid anything (tag_completed line t es u)
tag_completed_laid u formed line (tag.Structure n) es is pending arrays lists =
    large_by u formed false line n es is pending arrays lists (tag.Structure n)
    (nat_lt (2 ^ 32) (extent_with false es.entries).size) refl
tag_completed_laid u formed line (tag.Union n) es is pending arrays lists =
    large_by u formed true line n es is pending arrays lists (tag.Union n)
    (nat_lt (2 ^ 32) (extent_with true es.entries).size) refl
tag_completed_laid u formed line (tag.Enumeration n) es is pending arrays lists = (lists, tt)

-- one that is declared, and one whose members begin

added_known : (es : List (Option TypeExtent)) (n : ℕ) → is_known (slice_get (es ++ None ∷ []) n) ≡ true
    → (slice_get (es ++ None ∷ []) n ≡ slice_get es n) × (n < length es)
added_known [] zero e = absurd cc
added_known [] (suc n) e = absurd cc
added_known (x ∷ es) zero e = (refl, omega arith)
added_known (x ∷ es) (suc n) e = let h = added_known es n e in (h.0, (let low = h.1 in omega (arith, low)))

get_first : {A : Type 0} (xs : List A) (x : A) (n : ℕ) → n < length xs
    → slice_get (xs ++ x ∷ []) n ≡ slice_get xs n
get_first [] x n low = absurd (omega (arith, low))
get_first (y ∷ xs) x zero low = refl
get_first (y ∷ xs) x (suc n) low = get_first xs x n (omega (arith, low))

known_list : (e : Option (Option TypeExtent)) (b : Option Body) (l : MemberList) → list_by e b ≡ Some l
    → is_known e ≡ true
known_list None b l is = absurd cc
known_list (Some None) b l is = absurd cc
known_list (Some (Some x)) b l is = refl

declared_list : (s : State) → IsFormed s → (file_tag : Option Name) (n : ℕ) (l : MemberList)
    → lists_in (declared_structure file_tag s.environment.structures) n ≡ Some l
    → lists_in s.environment.structures n ≡ Some l
declared_list s formed file_tag n l is =
    let body : Body = record { file_tag = file_tag; is_begun = false; members = [] } in
    let there = added_known (extents s) n
    (known_list (slice_get (extents s ++ None ∷ []) n) (slice_get (s.environment.structures.bodies ++ body ∷ []) n) l
    is) in
    let low = there.1 in
    let count = formed.same in
    ap (λ e. list_by e (slice_get s.environment.structures.bodies n)) (sym there.0)
    ∙ ap (list_by (slice_get (extents s ++ None ∷ []) n))
    (sym (get_first s.environment.structures.bodies body n (omega (arith, low, count)))) ∙ is

pub declared_lists : (s : State) → IsFormed s → HasLists s → (file_tag : Option Name)
    → AreListed (declared_structure file_tag s.environment.structures).extents
    (lists_in (declared_structure file_tag s.environment.structures))
declared_lists s formed h file_tag = record {
  each = λ n l is k m at.
      listed_kept (extents s) (extents s ++ None ∷ [])
      (record { kept = λ n e is. get_added (extents s) n ∙ is }) n m
      (h.each n l (declared_list s formed file_tag n l is) k m at);
}

pub begun_lists : (st : Structures) (n : ℕ) → AreListed st.extents (lists_in st)
    → AreListed (begun n st).extents (lists_in (begun n st))
begun_lists st n h = record {
  each = λ j l is k m at.
      h.each j l (ap (λ o. option_map list_in (if is_known (slice_get st.extents j) then o else None))
      (sym (read_changed members_in (λ x. record x { is_begun = true }) (λ x. refl) n st.bodies j)) ∙ is) k m at;
}

added_lists : (s : State) → IsFormed s → HasLists s → (k : TagKind) (name : Option Name)
    → HasLists (record s { environment = added k name s.environment })
added_lists s formed h kind.Structure None = declared_lists s formed h (if_file (in_file s.environment) None)
added_lists s formed h kind.Structure (Some x) = declared_lists s formed h (if_file (in_file s.environment) (Some x))
added_lists s formed h kind.Union None = declared_lists s formed h (if_file (in_file s.environment) None)
added_lists s formed h kind.Union (Some x) = declared_lists s formed h (if_file (in_file s.environment) (Some x))
added_lists s formed h kind.Enumeration None = h
added_lists s formed h kind.Enumeration (Some x) = h

marked_lists : (s : State) → HasLists s → (t : Tag) → HasLists (record s { environment = marked t s.environment })
marked_lists s h (tag.Structure n) = begun_lists s.environment.structures n h
marked_lists s h (tag.Union n) = begun_lists s.environment.structures n h
marked_lists s h (tag.Enumeration n) = h

-- tags

unless_mistaken : (s : State) (line : ℕ) (r : Environment × Tag) → HasLists (record s { environment = r.0 })
    → (is : Bool)
    → Laid anything ((if is then Ok r else violates rule.MistakenTag line) >>= in_environment s)
unless_mistaken s line r h true = (h, tt)
unless_mistaken s line r h false = tt

tagged_by : (s : State) → IsFormed s → HasLists s → (k : TagKind) (name : Name) (line : ℕ) (o : Option Tag)
    → Laid anything (referred k name line s.environment o >>= in_environment s)
tagged_by s formed h k name line None = (added_lists s formed h k (Some name), tt)
tagged_by s formed h k name line (Some t) = unless_mistaken s line (s.environment, t) h (is_of k t)

pub tagged_laid : (s : State) → IsFormed s → HasLists s → (is_alone : Bool) (k : TagKind) (name : Name) (line : ℕ)
    → Laid anything (tagged_as is_alone k name line s)
tagged_laid s formed h is_alone k name line =
    tagged_by s formed h k name line (tag_found is_alone k name s.environment)

begun_new : (s : State) → IsFormed s → HasLists s → (k : TagKind) (name : Option Name)
    → HasLists (record s { environment = marked (next_tag k s.environment) (added k name s.environment) })
begun_new s formed h k name =
    marked_lists (record s { environment = added k name s.environment }) (added_lists s formed h k name)
    (next_tag k s.environment)

begun_in : (s : State) → IsFormed s → HasLists s → (k : TagKind) (name : Name) (line : ℕ) (o : Option Tag)
    → Laid anything (begins_in k name line s.environment o >>= in_environment s)
begun_in s formed h k name line None = (begun_new s formed h k (Some name), tt)
begun_in s formed h k name line (Some t) =
    unless_mistaken s line (marked t s.environment, t) (marked_lists s h t)
    (is_of k t && not (has_begun s.environment t))

pub begun_laid : (s : State) → IsFormed s → HasLists s → (k : TagKind) (name : Option Name) (line : ℕ)
    → Laid anything (begun_as k name line s)
begun_laid s formed h k None line = (begun_new s formed h k None, tt)
begun_laid s formed h k (Some x) line =
    begun_in s formed h k x line (declared x s.environment.tags.current)
