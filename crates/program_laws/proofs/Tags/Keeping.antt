-- Structures and unions that were declared at file scope by a tag: the tag stands for them from then on (C99 6.2.1,
-- 6.7.2.3).
use Rattle.std.proofs.Common.{◌≡◌, ℕ, zero, suc, ◌<◌, true, refl, sym, ap, subst, ◌∙◌, List, [], ◌∷◌, ◌++◌, length}
use Rattle.std.proofs.Common.{Option, Some, None}
use Rattle.std.specs.Prelude.{map, slice_get}
use Rattle.std.proofs.lemmas.List.{append-nil}
use Rattle.c_scope.specs.declared.meaning.Tag.{Tag}
use Rattle.c_scope.specs.declared.meaning.Tag.TheVariants as tag
use Rattle.c_scope.specs.Names.{Name, Names, around, declared, innermost, is_empty}
use Rattle.c_scope.specs.Structures.{Body, changed, file_tag_of, is_known}
use Rattle.c_typing_state.specs.State.{State, extents}
use Rattle.typing_laws.specs.Validity.Sound.{Extended}
use Rattle.typing_laws.proofs.Validity.Common.{the_same}
use Rattle.typing_laws.proofs.Validity.Sound.{get_extended, longer_list, same_list}
use Rattle.program_laws.specs.Sizes.Tags.{BodiesStay}
use Rattle.typing_laws.proofs.Declarators.Parameters.{around_last, innermost_last}
use Rattle.typing_laws.proofs.Walks.States.{Leaves, Stands}

-- the tags by which structures and unions were declared at file scope, in the order of their numbers
abbrev pub file_tags : List Body → List (Option Name)
file_tags bodies = map (λ b. b.file_tag) bodies

-- the scope of the file is the outermost
abbrev pub outermost : {A : Type 0} → List (Names A) → Names A → Names A
outermost [] current = current
outermost (file ∷ inner) current = file

-- what a tag stands for in that scope
abbrev pub in_file_scope : Name → State → Option Tag
in_file_scope name s = declared name (outermost s.environment.tags.outer s.environment.tags.current)

-- the structure or union that a tag stands for
abbrev pub number_of : Option Tag → Option ℕ
number_of None = None
number_of (Some (tag.Structure n)) = Some n
number_of (Some (tag.Union n)) = Some n
number_of (Some (tag.Enumeration n)) = None

-- a structure or union that was declared at file scope by a tag is what the tag stands for there
pub record HaveFileTags (s : State) : Type 0 where
  pub same : length (extents s) ≡ length s.environment.structures.bodies
  pub nested : is_empty s.environment.names.outer ≡ true → is_empty s.environment.tags.outer ≡ true
  pub numbered : (name : Name) (n : ℕ) → number_of (in_file_scope name s) ≡ Some n → n < length (extents s)
  pub each : (n : ℕ) (name : Name) → slice_get (file_tags s.environment.structures.bodies) n ≡ Some (Some name)
      → number_of (in_file_scope name s) ≡ Some n

-- what typing leaves of the tags
pub record KeepsTags (s behind : State) : Type 0 where
  pub tags : Extended (file_tags s.environment.structures.bodies) (file_tags behind.environment.structures.bodies)
  pub known : (n : ℕ) → is_known (slice_get (extents s) n) ≡ true → is_known (slice_get (extents behind) n) ≡ true
  pub scope : (name : Name) (t : Tag) → in_file_scope name s ≡ Some t → in_file_scope name behind ≡ Some t
  pub outer : behind.environment.names.outer ≡ s.environment.names.outer
  pub outer_tags : behind.environment.tags.outer ≡ s.environment.tags.outer
  pub have : HaveFileTags s → HaveFileTags behind

pub keeps_same : (s : State) → KeepsTags s s
keeps_same s = record {
  tags = same_list (file_tags s.environment.structures.bodies);
  known = λ n k. k;
  scope = λ name t e. e;
  outer = refl;
  outer_tags = refl;
  have = λ h. h;
}

pub keeps_on : (s t u : State) → KeepsTags s t → KeepsTags t u → KeepsTags s u
keeps_on s t u h g = record {
  tags = longer_list (file_tags s.environment.structures.bodies) (file_tags t.environment.structures.bodies)
      (file_tags u.environment.structures.bodies) h.tags g.tags;
  known = λ n k. g.known n (h.known n k);
  scope = λ name x e. g.scope name x (h.scope name x e);
  outer = g.outer ∙ h.outer;
  outer_tags = g.outer_tags ∙ h.outer_tags;
  have = λ k. g.have (h.have k);
}

-- a number that a tag stands for

pub numbered_tag : (o : Option Tag) (n : ℕ) → number_of o ≡ Some n → (t : Tag) × (o ≡ Some t)
numbered_tag None n e = absurd cc
numbered_tag (Some t) n e = (t, refl)

pub number_kept : (s t : State) → KeepsTags s t → (name : Name) (n : ℕ) → number_of (in_file_scope name s) ≡ Some n
    → number_of (in_file_scope name t) ≡ Some n
number_kept s t h name n e =
    let is = numbered_tag (in_file_scope name s) n e in
    ap number_of (h.scope name is.0 is.1) ∙ ap number_of (sym is.1) ∙ e

-- structures and unions keep their numbers and tags

pub tag_at : (bodies : List Body) (n : ℕ) (name : Name) → file_tag_of (slice_get bodies n) ≡ Some name
    → slice_get (file_tags bodies) n ≡ Some (Some name)
tag_at [] n name e = absurd cc
tag_at (x ∷ bodies) zero name e = ap (λ z. Some z) e
tag_at (x ∷ bodies) (suc n) name e = tag_at bodies n name e

at_tag : (bodies : List Body) (n : ℕ) (name : Name) → slice_get (file_tags bodies) n ≡ Some (Some name)
    → file_tag_of (slice_get bodies n) ≡ Some name
at_tag [] n name e = absurd cc
at_tag (x ∷ bodies) zero name e = the_same e
at_tag (x ∷ bodies) (suc n) name e = at_tag bodies n name e

pub bodies_stay : (s t : State) → KeepsTags s t
    → BodiesStay s.environment.structures.bodies t.environment.structures.bodies
bodies_stay s t h = record {
  each = λ n name e.
      at_tag t.environment.structures.bodies n name
      (get_extended (file_tags s.environment.structures.bodies) (file_tags t.environment.structures.bodies) h.tags n
      (Some name) (tag_at s.environment.structures.bodies n name e));
}

-- a change of structures and unions that leaves their tags

pub record Changes (s t : State) : Type 0 where
  pub tags : file_tags t.environment.structures.bodies ≡ file_tags s.environment.structures.bodies
  pub count : length (extents t) ≡ length (extents s)
  pub bodies : length t.environment.structures.bodies ≡ length s.environment.structures.bodies
  pub known : (n : ℕ) → is_known (slice_get (extents s) n) ≡ true → is_known (slice_get (extents t) n) ≡ true
  pub scopes : t.environment.tags ≡ s.environment.tags
  pub outer : t.environment.names.outer ≡ s.environment.names.outer

same_scope : (s t : State) → t.environment.tags ≡ s.environment.tags → (name : Name)
    → in_file_scope name t ≡ in_file_scope name s
same_scope s t e name = ap (λ z. declared name (outermost z.outer z.current)) e

extended_same : {A : Type 0} (xs ys : List A) → ys ≡ xs → Extended xs ys
extended_same xs ys e = record { rest = []; is = e ∙ sym (append-nil xs) }

pub changes_keep : (s t : State) → Changes s t → KeepsTags s t
changes_keep s t c = record {
  tags = extended_same (file_tags s.environment.structures.bodies) (file_tags t.environment.structures.bodies) c.tags;
  known = c.known;
  scope = λ name x e. same_scope s t c.scopes name ∙ e;
  outer = c.outer;
  outer_tags = ap (λ z. z.outer) c.scopes;
  have = λ h. record {
    same = c.count ∙ h.same ∙ sym c.bodies;
    nested = λ e. ap (λ z. is_empty z.outer) c.scopes ∙ h.nested (ap is_empty (sym c.outer) ∙ e);
    numbered = λ name n e.
        subst (λ z. n < z) (sym c.count) (h.numbered name n (ap number_of (sym (same_scope s t c.scopes name)) ∙ e));
    each = λ n name e.
        ap number_of (same_scope s t c.scopes name)
        ∙ h.each n name (ap (λ z. slice_get z n) (sym c.tags) ∙ e);
  };
}

pub stands_keep : (n : ℕ) (s t : State) → Stands n s t → KeepsTags s t
stands_keep n s t h =
    changes_keep s t (record {
      tags = ap (λ z. file_tags z.bodies) h.structures;
      count = ap (λ z. length z.extents) h.structures;
      bodies = ap (λ z. length z.bodies) h.structures;
      known = λ n k. ap (λ z. is_known (slice_get z.extents n)) h.structures ∙ k;
      scopes = h.tags;
      outer = h.outer;
    })

pub tags_changed : (n : ℕ) (f : Body → Body) → ((b : Body) → (f b).file_tag ≡ b.file_tag) → (bodies : List Body)
    → file_tags (changed n f bodies) ≡ file_tags bodies
tags_changed n f h [] = refl
tags_changed zero f h (b ∷ bodies) = ap (λ z. z ∷ file_tags bodies) (h b)
tags_changed (suc n) f h (b ∷ bodies) = ap (λ z. b.file_tag ∷ z) (tags_changed n f h bodies)

-- scopes that are opened inside one and closed again: `v` is the state in which the inner scope begins

pub outermost_last : {A : Type 0} (outer : List (Names A)) (current inner : Names A)
    → outermost (outer ++ current ∷ []) inner ≡ outermost outer current
outermost_last [] current inner = refl
outermost_last (o ∷ outer) current inner = refl

inner_scope : {A : Type 0} (outer : List A) (x : A) (P : Type 0) → is_empty (outer ++ x ∷ []) ≡ true → P
inner_scope [] x P e = absurd cc
inner_scope (o ∷ outer) x P e = absurd cc

-- a state inside another: it has the same structures and unions, and stands in one more scope
pub record Inside (s v : State) : Type 0 where
  pub structures : v.environment.structures ≡ s.environment.structures
  pub outer : v.environment.names.outer ≡ s.environment.names.outer ++ s.environment.names.current ∷ []
  pub outer_tags : v.environment.tags.outer ≡ s.environment.tags.outer ++ s.environment.tags.current ∷ []

module _ (s v t u : State) (i : Inside s v) (h : KeepsTags v t) (o : Leaves t u) where
  -- behind the inner scope stand those before it
  outer_is : u.environment.names.outer ≡ s.environment.names.outer
  outer_is =
      o.outer ∙ ap around (h.outer ∙ i.outer)
      ∙ around_last s.environment.names.outer s.environment.names.current

  outer_tags_is : u.environment.tags.outer ≡ s.environment.tags.outer
  outer_tags_is =
      o.outer_tags ∙ ap around (h.outer_tags ∙ i.outer_tags)
      ∙ around_last s.environment.tags.outer s.environment.tags.current

  current_is : u.environment.tags.current ≡ s.environment.tags.current
  current_is =
      o.current ∙ ap (innermost o.file) (h.outer_tags ∙ i.outer_tags)
      ∙ innermost_last o.file s.environment.tags.outer s.environment.tags.current

  -- the scope of the file is the same in all four
  inside_is : (name : Name) → in_file_scope name v ≡ in_file_scope name s
  inside_is name =
      ap (λ z. declared name (outermost z v.environment.tags.current)) i.outer_tags
      ∙ ap (declared name)
      (outermost_last s.environment.tags.outer s.environment.tags.current v.environment.tags.current)

  behind_is : (name : Name) → in_file_scope name t ≡ in_file_scope name s
  behind_is name =
      ap (λ z. declared name (outermost z t.environment.tags.current)) (h.outer_tags ∙ i.outer_tags)
      ∙ ap (declared name)
      (outermost_last s.environment.tags.outer s.environment.tags.current t.environment.tags.current)

  outside_is : (name : Name) → in_file_scope name u ≡ in_file_scope name s
  outside_is name =
      ap (λ z. declared name (outermost z u.environment.tags.current)) outer_tags_is
      ∙ ap (λ z. declared name (outermost s.environment.tags.outer z)) current_is

  inside_has : HaveFileTags s → HaveFileTags v
  inside_has k = record {
    same = ap (λ z. length z.extents) i.structures ∙ k.same ∙ ap (λ z. length z.bodies) (sym i.structures);
    nested = λ e.
        inner_scope s.environment.names.outer s.environment.names.current _ (ap is_empty (sym i.outer) ∙ e);
    numbered = λ name n e.
        subst (λ z. n < length z.extents) (sym i.structures)
        (k.numbered name n (ap number_of (sym (inside_is name)) ∙ e));
    each = λ n name e.
        ap number_of (inside_is name)
        ∙ k.each n name (ap (λ z. slice_get (file_tags z.bodies) n) (sym i.structures) ∙ e);
  }

  outside_has : HaveFileTags s → HaveFileTags t → HaveFileTags u
  outside_has before k = record {
    same = ap (λ z. length z.extents) o.structures ∙ k.same ∙ ap (λ z. length z.bodies) (sym o.structures);
    nested = λ e. ap is_empty outer_tags_is ∙ before.nested (ap is_empty (sym outer_is) ∙ e);
    numbered = λ name n e.
        subst (λ z. n < length z.extents) (sym o.structures)
        (k.numbered name n (ap number_of (behind_is name ∙ sym (outside_is name)) ∙ e));
    each = λ n name e.
        ap number_of (outside_is name ∙ sym (behind_is name))
        ∙ k.each n name (ap (λ z. slice_get (file_tags z.bodies) n) (sym o.structures) ∙ e);
  }

  pub inner_keeps : KeepsTags s u
  inner_keeps = record {
    tags = subst (λ z. Extended (file_tags z.bodies) (file_tags u.environment.structures.bodies)) i.structures
        (subst (λ z. Extended (file_tags v.environment.structures.bodies) (file_tags z.bodies)) (sym o.structures)
        h.tags);
    known = λ n k.
        ap (λ z. is_known (slice_get z.extents n)) o.structures
        ∙ h.known n (ap (λ z. is_known (slice_get z.extents n)) i.structures ∙ k);
    scope = λ name x e. outside_is name ∙ e;
    outer = outer_is;
    outer_tags = outer_tags_is;
    have = λ k. outside_has k (h.have (inside_has k));
  }
