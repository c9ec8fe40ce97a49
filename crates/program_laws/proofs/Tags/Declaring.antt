-- Tags that are declared, begun and completed (C99 6.7.2.1, 6.7.2.3).
use Rattle.std.proofs.Common.{◌≡◌, ◌⊎◌, inl, inr, ℕ, zero, suc, ◌<◌, ◌^◌, Bool, true, false, ◌&&◌, refl, sym, ap, subst}
use Rattle.std.proofs.Common.{◌∙◌, List, [], ◌∷◌, ◌++◌, length, Option, Some, None, if◌then◌else◌, arith}
use Rattle.std.specs.Prelude.{Ok, Err, nat_lt, not, slice_get}
use Rattle.c_tree.specs.Extents.{TypeExtent}
use Rattle.c_faults.specs.declared.fault.Rule.TheVariants.{LargeType}
use Rattle.c_faults.specs.Answer.{Answer, violates, ◌>>=◌}
use Rattle.c_scope.specs.declared.meaning.Tag.{Tag}
use Rattle.c_scope.specs.declared.meaning.Tag.TheVariants as tag
use Rattle.c_scope.specs.declared.tags.TagKind.{TagKind}
use Rattle.c_scope.specs.declared.tags.TagKind.TheVariants as kind
use Rattle.c_scope.specs.Environment.{in_file}
use Rattle.c_scope.specs.Names.{Name, Names, bound, declared, is_empty}
use Rattle.c_scope.specs.Structures.{Body, begun, changed, declared_structure, is_known}
use Rattle.c_scope.specs.Tags.{added, begins_in, has_begun, if_file, is_enumeration, is_of, marked, next_tag}
use Rattle.c_declarator_typing.specs.Members.{Entries, Entry, extent_with, members_at, offsets_in, tag_completed}
use Rattle.c_declarator_typing.specs.Members.{with_structure}
use Rattle.c_typing_state.specs.State.{State, extents}
use Rattle.c_expression_typing.specs.Constructs.{begun_as}
use Rattle.typing_laws.proofs.Validity.Common.{no_value, the_same}
use Rattle.typing_laws.proofs.Declarators.Lists.{added_length, changed_length, read_added, there_changed}
use Rattle.typing_laws.proofs.Declarators.Tags.{in_environment, restructured, unless_mistaken}
use Rattle.typing_laws.proofs.Declarations.Bound.{bound_here}
use Rattle.program_laws.proofs.Functions.Entities.{bound_either}
use Rattle.program_laws.proofs.Tags.Keeping.{HaveFileTags, KeepsTags, changes_keep, file_tags, in_file_scope}
use Rattle.program_laws.proofs.Tags.Keeping.{keeps_same, number_of, numbered_tag, outermost, stands_keep}
use Rattle.program_laws.proofs.Tags.Keeping.{tags_changed}
use Rattle.typing_laws.proofs.Walks.States.{IsFresh}

-- lists

tags_added : (bodies : List Body) (b : Body) → file_tags (bodies ++ b ∷ []) ≡ file_tags bodies ++ b.file_tag ∷ []
tags_added [] b = refl
tags_added (x ∷ bodies) b = ap (λ z. x.file_tag ∷ z) (tags_added bodies b)

tags_length : (bodies : List Body) → length (file_tags bodies) ≡ length bodies
tags_length [] = refl
tags_length (x ∷ bodies) = ap suc (tags_length bodies)

either_added : {A : Type 0} (xs : List A) (x : A) (n : ℕ) (y : A) → slice_get (xs ++ x ∷ []) n ≡ Some y
    → (slice_get xs n ≡ Some y) ⊎ ((n ≡ length xs) × (x ≡ y))
either_added [] x zero y e = inr (refl, the_same e)
either_added [] x (suc n) y e = absurd cc
either_added (z ∷ xs) x zero y e = inl e
either_added (z ∷ xs) x (suc n) y e = by (either_added xs x n y e)
  where
    by : (slice_get xs n ≡ Some y) ⊎ ((n ≡ length xs) × (x ≡ y))
        → (slice_get (z ∷ xs) (suc n) ≡ Some y) ⊎ ((suc n ≡ length (z ∷ xs)) × (x ≡ y))
    by (inl g) = inl g
    by (inr g) = inr (ap suc g.0, g.1)

-- tags of the innermost scope, where at most one that was not declared before stands for something new
record Grows (s : State) (current : Names Tag) (t : Tag) : Type 0 where
  scope : (name : Name) (x : Tag) → in_file_scope name s ≡ Some x
      → declared name (outermost s.environment.tags.outer current) ≡ Some x
  back : (name : Name) → (declared name (outermost s.environment.tags.outer current) ≡ in_file_scope name s)
      ⊎ (declared name (outermost s.environment.tags.outer current) ≡ Some t)

grows_not : (s : State) (t : Tag) → Grows s s.environment.tags.current t
grows_not s t = record { scope = λ name x e. e; back = λ name. inl refl }

scope_by : (outer : List (Names Tag)) (current : Names Tag) (x : Name) (t : Tag) → declared x current ≡ None
    → (name : Name) (y : Tag) → declared name (outermost outer current) ≡ Some y
    → declared name (outermost outer (bound x t current)) ≡ Some y
scope_by [] current x t fresh name y e = by (bound_either name x t current)
  where
    by : (declared name (bound x t current) ≡ declared name current)
        ⊎ ((name ≡ x) × (declared name (bound x t current) ≡ Some t)) → declared name (bound x t current) ≡ Some y
    by (inl g) = g ∙ e
    by (inr g) = no_value y _ (sym fresh ∙ ap (λ z. declared z current) (sym g.0) ∙ e)
scope_by (o ∷ outer) current x t fresh name y e = e

back_by : (outer : List (Names Tag)) (current : Names Tag) (x : Name) (t : Tag) (name : Name)
    → (declared name (outermost outer (bound x t current)) ≡ declared name (outermost outer current))
    ⊎ (declared name (outermost outer (bound x t current)) ≡ Some t)
back_by [] current x t name = by (bound_either name x t current)
  where
    by : (declared name (bound x t current) ≡ declared name current)
        ⊎ ((name ≡ x) × (declared name (bound x t current) ≡ Some t))
        → (declared name (bound x t current) ≡ declared name current) ⊎ (declared name (bound x t current) ≡ Some t)
    by (inl g) = inl g
    by (inr g) = inr g.1
back_by (o ∷ outer) current x t name = inl refl

grows_by : (s : State) (x : Name) (t : Tag) → declared x s.environment.tags.current ≡ None
    → Grows s (bound x t s.environment.tags.current) t
grows_by s x t fresh = record {
  scope = scope_by s.environment.tags.outer s.environment.tags.current x t fresh;
  back = back_by s.environment.tags.outer s.environment.tags.current x t;
}

pub bound_outermost : (outer : List (Names Tag)) → is_empty outer ≡ true → (current : Names Tag) (x : Name) (t : Tag)
    → declared x (outermost outer (bound x t current)) ≡ Some t
bound_outermost [] e current x t = bound_here x t current
bound_outermost (o ∷ outer) e current x t = absurd cc

-- one more structure or union

next_or : (count n : ℕ) → (n < count) ⊎ (n ≡ count) → n < suc count
next_or count n (inl low) = omega arith
next_or count n (inr e) = omega (arith, e)

module _ (s : State) (file_tag : Option Name) (current : Names Tag) (t : Tag)
    (next : number_of (Some t) ≡ Some (length (extents s))) (g : Grows s current t)
    (own : (name : Name) → file_tag ≡ Some name → HaveFileTags s
    → declared name (outermost s.environment.tags.outer current) ≡ Some t) where
  numbered_by : HaveFileTags s → (name : Name) (n : ℕ)
      → number_of (declared name (outermost s.environment.tags.outer current)) ≡ Some n
      → (declared name (outermost s.environment.tags.outer current) ≡ in_file_scope name s)
      ⊎ (declared name (outermost s.environment.tags.outer current) ≡ Some t)
      → (n < length (extents s)) ⊎ (n ≡ length (extents s))
  numbered_by h name n e (inl b) = inl (h.numbered name n (ap number_of (sym b) ∙ e))
  numbered_by h name n e (inr b) = inr (the_same (sym e ∙ ap number_of b ∙ next))

  each_by : HaveFileTags s → (n : ℕ) (name : Name)
      → (slice_get (file_tags s.environment.structures.bodies) n ≡ Some (Some name))
      ⊎ ((n ≡ length (file_tags s.environment.structures.bodies)) × (file_tag ≡ Some name))
      → number_of (declared name (outermost s.environment.tags.outer current)) ≡ Some n
  each_by h n name (inl e) =
      let is = numbered_tag (in_file_scope name s) n (h.each n name e) in
      ap number_of (g.scope name is.0 is.1) ∙ ap number_of (sym is.1) ∙ h.each n name e
  each_by h n name (inr e) =
      ap number_of (own name e.1 h) ∙ next
      ∙ ap (λ z. Some z) (h.same ∙ sym (tags_length s.environment.structures.bodies) ∙ sym e.0)

  structure_keeps : KeepsTags s
      (restructured s (declared_structure file_tag s.environment.structures) current s.environment.enumerations)
  structure_keeps =
      let bodies = s.environment.structures.bodies in
      let b : Body = record { file_tag = file_tag; is_begun = false; members = [] } in
      record {
        tags = record { rest = file_tag ∷ []; is = tags_added bodies b };
        known = λ n k. read_added is_known None refl (extents s) n ∙ k;
        scope = g.scope;
        outer = refl;
        outer_tags = refl;
        have = λ h. record {
          same = added_length (extents s) None ∙ ap suc h.same ∙ sym (added_length bodies b);
          nested = h.nested;
          numbered = λ name n e.
              subst (λ z. n < z) (sym (added_length (extents s) None))
              (next_or (length (extents s)) n (numbered_by h name n e (g.back name)));
          each = λ n name e.
              each_by h n name
              (either_added (file_tags bodies) file_tag n (Some name)
              (ap (λ z. slice_get z n) (sym (tags_added bodies b)) ∙ e));
        };
      }

-- one more enumeration
enumeration_keeps : (s : State) (current : Names Tag) (enumerations : List Bool) (t : Tag)
    → number_of (Some t) ≡ None → Grows s current t
    → KeepsTags s (restructured s s.environment.structures current enumerations)
enumeration_keeps s current enumerations t none g = record {
  tags = (keeps_same s).tags;
  known = λ n k. k;
  scope = g.scope;
  outer = refl;
  outer_tags = refl;
  have = λ h. record {
    same = h.same;
    nested = h.nested;
    numbered = λ name n e. numbered_by h name n e (g.back name);
    each = λ n name e.
        (let is = numbered_tag (in_file_scope name s) n (h.each n name e) in
        ap number_of (g.scope name is.0 is.1) ∙ ap number_of (sym is.1) ∙ h.each n name e);
  };
}
  where
    numbered_by : HaveFileTags s → (name : Name) (n : ℕ)
        → number_of (declared name (outermost s.environment.tags.outer current)) ≡ Some n
        → (declared name (outermost s.environment.tags.outer current) ≡ in_file_scope name s)
        ⊎ (declared name (outermost s.environment.tags.outer current) ≡ Some t)
        → n < length (extents s)
    numbered_by h name n e (inl b) = h.numbered name n (ap number_of (sym b) ∙ e)
    numbered_by h name n e (inr b) = no_value n _ (sym none ∙ ap number_of (sym b) ∙ e)

-- a structure, union or enumeration that is declared

no_file_tag : (b : Bool) (name : Name) (P : Type 0) → if_file b None ≡ Some name → P
no_file_tag true name P e = absurd cc
no_file_tag false name P e = absurd cc

own_tag : (s : State) (x : Name) (t : Tag) (name : Name) (b : Bool) → in_file s.environment ≡ b
    → if_file b (Some x) ≡ Some name → HaveFileTags s
    → declared name (outermost s.environment.tags.outer (bound x t s.environment.tags.current)) ≡ Some t
own_tag s x t name true is e h =
    subst (λ z. declared z (outermost s.environment.tags.outer (bound x t s.environment.tags.current)) ≡ Some t)
    (the_same e) (bound_outermost s.environment.tags.outer (h.nested is) s.environment.tags.current x t)
own_tag s x t name false is e h = absurd cc

nameless_keeps : (s : State) (t : Tag) → number_of (Some t) ≡ Some (length (extents s))
    → KeepsTags s (restructured s (declared_structure (if_file (in_file s.environment) None) s.environment.structures)
    s.environment.tags.current s.environment.enumerations)
nameless_keeps s t next =
    structure_keeps s (if_file (in_file s.environment) None) s.environment.tags.current t next (grows_not s t)
    (λ name e h. no_file_tag (in_file s.environment) name _ e)

named_keeps : (s : State) (x : Name) (t : Tag) → number_of (Some t) ≡ Some (length (extents s))
    → declared x s.environment.tags.current ≡ None
    → KeepsTags s
    (restructured s (declared_structure (if_file (in_file s.environment) (Some x)) s.environment.structures)
    (bound x t s.environment.tags.current) s.environment.enumerations)
named_keeps s x t next fresh =
    structure_keeps s (if_file (in_file s.environment) (Some x)) (bound x t s.environment.tags.current) t next
    (grows_by s x t fresh) (λ name e h. own_tag s x t name (in_file s.environment) refl e h)

pub added_keeps : (s : State) (k : TagKind) (name : Option Name) → IsFresh name s
    → KeepsTags s (record s { environment = added k name s.environment })
added_keeps s kind.Structure None fresh = nameless_keeps s (tag.Structure (length (extents s))) refl
added_keeps s kind.Structure (Some x) fresh = named_keeps s x (tag.Structure (length (extents s))) refl fresh
added_keeps s kind.Union None fresh = nameless_keeps s (tag.Union (length (extents s))) refl
added_keeps s kind.Union (Some x) fresh = named_keeps s x (tag.Union (length (extents s))) refl fresh
added_keeps s kind.Enumeration None fresh =
    let t = tag.Enumeration (length s.environment.enumerations) in
    enumeration_keeps s s.environment.tags.current (s.environment.enumerations ++ false ∷ []) t refl (grows_not s t)
added_keeps s kind.Enumeration (Some x) fresh =
    let t = tag.Enumeration (length s.environment.enumerations) in
    enumeration_keeps s (bound x t s.environment.tags.current) (s.environment.enumerations ++ false ∷ []) t refl
    (grows_by s x t fresh)

-- a tag with a list

begins_keep : (n : ℕ) (s : State)
    → KeepsTags s (record s { environment = record s.environment { structures = begun n s.environment.structures } })
begins_keep n s =
    let begin = λ (b : Body). record b { is_begun = true } in
    changes_keep s _ (record {
      tags = tags_changed n begin (λ b. refl) s.environment.structures.bodies;
      count = refl;
      bodies = changed_length n begin s.environment.structures.bodies;
      known = λ n k. k;
      scopes = refl;
      outer = refl;
    })

pub marked_keeps : (t : Tag) (s : State) → KeepsTags s (record s { environment = marked t s.environment })
marked_keeps (tag.Structure n) s = begins_keep n s
marked_keeps (tag.Union n) s = begins_keep n s
marked_keeps (tag.Enumeration n) s =
    stands_keep 0 s (record s { environment = marked (tag.Enumeration n) s.environment })
    (record {
      structures = refl;
      tags = refl;
      outer = refl;
      literals = refl;
      function = refl;
      variables = omega arith;
    })

-- what it stands for at file scope

abbrev pub IfBegun : Name → Answer (State × Tag) → Type 0
IfBegun x (Ok r) = (in_file_scope x r.0 ≡ Some r.1) × (n : ℕ) × (number_of (Some r.1) ≡ Some n)
IfBegun x (Err f) = Unit {0}

outermost_only : (outer : List (Names Tag)) → is_empty outer ≡ true → (current : Names Tag)
    → outermost outer current ≡ current
outermost_only [] e current = refl
outermost_only (o ∷ outer) e current = absurd cc

new_binds : (s : State) → is_empty s.environment.tags.outer ≡ true → (k : TagKind) → is_enumeration k ≡ false
    → (x : Name) → IfBegun x
    (Ok (
      record s { environment = marked (next_tag k s.environment) (added k (Some x) s.environment) },
      next_tag k s.environment,
    ))
new_binds s file kind.Structure e x = (
  bound_outermost s.environment.tags.outer file s.environment.tags.current x (tag.Structure (length (extents s))),
  length (extents s),
  refl,
)
new_binds s file kind.Union e x = (
  bound_outermost s.environment.tags.outer file s.environment.tags.current x (tag.Union (length (extents s))),
  length (extents s),
  refl,
)
new_binds s file kind.Enumeration e x = absurd cc

old_binds : (s : State) → is_empty s.environment.tags.outer ≡ true → (k : TagKind) → is_enumeration k ≡ false
    → (x : Name) (t : Tag) → declared x s.environment.tags.current ≡ Some t → is_of k t ≡ true
    → IfBegun x (Ok (record s { environment = marked t s.environment }, t))
old_binds s file k e x (tag.Structure n) is of =
    (ap (declared x) (outermost_only s.environment.tags.outer file s.environment.tags.current) ∙ is, n, refl)
old_binds s file k e x (tag.Union n) is of =
    (ap (declared x) (outermost_only s.environment.tags.outer file s.environment.tags.current) ∙ is, n, refl)
old_binds s file kind.Structure e x (tag.Enumeration n) is of = absurd cc
old_binds s file kind.Union e x (tag.Enumeration n) is of = absurd cc
old_binds s file kind.Enumeration e x (tag.Enumeration n) is of = absurd cc

old_by : (s : State) → is_empty s.environment.tags.outer ≡ true → (k : TagKind) → is_enumeration k ≡ false
    → (x : Name) (line : ℕ) (t : Tag) → declared x s.environment.tags.current ≡ Some t → (of fresh : Bool)
    → is_of k t ≡ of
    → IfBegun x (unless_mistaken (of && fresh) line (marked t s.environment, t) >>= in_environment s)
old_by s file k e x line t is true true of = old_binds s file k e x t is of
old_by s file k e x line t is true false of = tt
old_by s file k e x line t is false fresh of = tt

binds_in : (s : State) → is_empty s.environment.tags.outer ≡ true → (k : TagKind) → is_enumeration k ≡ false
    → (x : Name) (line : ℕ) (o : Option Tag) → declared x s.environment.tags.current ≡ o
    → IfBegun x (begins_in k x line s.environment o >>= in_environment s)
binds_in s file k e x line None is = new_binds s file k e x
binds_in s file k e x line (Some t) is =
    old_by s file k e x line t is (is_of k t) (not (has_begun s.environment t)) refl

pub begun_binds : (s : State) → is_empty s.environment.tags.outer ≡ true → (k : TagKind) → is_enumeration k ≡ false
    → (x : Name) (line : ℕ) → IfBegun x (begun_as k (Some x) line s)
begun_binds s file k e x line = binds_in s file k e x line (declared x s.environment.tags.current) refl

-- a structure or union that is completed

known_changed : (n : ℕ) (extent : TypeExtent) (es : List (Option TypeExtent)) (m : ℕ)
    → is_known (slice_get es m) ≡ true → is_known (slice_get (changed n (λ e. Some extent) es) m) ≡ true
known_changed n extent [] m k = k
known_changed zero extent (e ∷ es) zero k = refl
known_changed zero extent (e ∷ es) (suc m) k = k
known_changed (suc n) extent (e ∷ es) zero k = k
known_changed (suc n) extent (e ∷ es) (suc m) k = known_changed n extent es m k

pub structure_completes : (is_union : Bool) (n : ℕ) (entries : List Entry) (s : State)
    → KeepsTags s (with_structure is_union n entries s)
structure_completes is_union n entries s =
    let extent = extent_with is_union entries in
    let fill = λ (b : Body). record b { members = members_at entries (offsets_in is_union entries) [] } in
    changes_keep s (with_structure is_union n entries s) (record {
      tags = tags_changed n fill (λ b. refl) s.environment.structures.bodies;
      count = changed_length n (λ e. Some extent) (extents s);
      bodies = changed_length n fill s.environment.structures.bodies;
      known = known_changed n extent (extents s);
      scopes = refl;
      outer = refl;
    })

abbrev pub IfKnown : ℕ → Answer (State × Tag) → Type 0
IfKnown n (Ok r) = is_known (slice_get (extents r.0) n) ≡ true
IfKnown n (Err f) = Unit {0}

known_by : (is_union : Bool) (line n : ℕ) (entries : List Entry) (t : Tag) (s : State) → n < length (extents s)
    → (large : Bool)
    → IfKnown n ((if large then violates LargeType line else Ok (with_structure is_union n entries s))
    >>= λ v. Ok (v, t))
known_by is_union line n entries t s low true = tt
known_by is_union line n entries t s low false =
    let there = there_changed n (λ e. Some (extent_with is_union entries)) (extents s) low in ap is_known there.1

pub completed_known : (line : ℕ) (t : Tag) (es : Entries) (s : State) (n : ℕ) → number_of (Some t) ≡ Some n
    → n < length (extents s) → IfKnown n (tag_completed line t es s)
completed_known line (tag.Structure m) es s n e low =
    subst (λ z. IfKnown z (tag_completed line (tag.Structure m) es s)) (the_same e)
    (known_by false line m es.entries (tag.Structure m) s (subst (λ z. z < length (extents s)) (sym (the_same e)) low)
    (nat_lt (2 ^ 32) (extent_with false es.entries).size))
completed_known line (tag.Union m) es s n e low =
    subst (λ z. IfKnown z (tag_completed line (tag.Union m) es s)) (the_same e)
    (known_by true line m es.entries (tag.Union m) s (subst (λ z. z < length (extents s)) (sym (the_same e)) low)
    (nat_lt (2 ^ 32) (extent_with true es.entries).size))
completed_known line (tag.Enumeration m) es s n e low = absurd cc
