-- Specifiers at file scope complete the structures and unions whose members they list (C99 6.7.2.1, 6.7.2.3).
use Rattle.std.proofs.Common.{◌≡◌, ◌⊎◌, inl, inr, ℕ, Bool, true, false, refl, sym, ap, subst, ◌∙◌, Some, None}
use Rattle.std.specs.Prelude.{Ok, Err, is_some, slice_get}
use Rattle.c_lexer.specs.declared.keyword.Keyword.{Keyword}
use Rattle.c_lexer.specs.declared.keyword.Keyword.TheVariants as keyword
use Rattle.c_syntax.specs.Tree.{Specifier, Specifiers}
use Rattle.c_syntax.specs.Tree as t
use Rattle.c_faults.specs.Answer.{Answer, ◌>>=◌}
use Rattle.c_facts.specs.Facts.{tags_in, tags_in_members, tags_of}
use Rattle.c_scope.specs.declared.meaning.Tag.{Tag}
use Rattle.c_scope.specs.Names.{Name, Names, bound, declared, is_empty}
use Rattle.c_scope.specs.Structures.{is_known}
use Rattle.c_scope.specs.Tags.{is_enumeration}
use Rattle.c_declarator_typing.specs.Members.{Entries, member_specified, no_entries, tag_completed}
use Rattle.c_declarator_typing.specs.Specifications.{Gathered, nothing_gathered, specified, tag_kind, tag_type}
use Rattle.c_declarator_typing.specs.Specifications.{with_named}
use Rattle.c_typing_state.specs.State.{State, Typing, done, extents, judged, ◌>>>◌}
use Rattle.c_expression_typing.specs.Constructs.{begun_as, specified_by, with_shape}
use Rattle.c_expression_typing.specs.Lines.{first_line, name_of}
use Rattle.c_expression_typing.specs.Typed.{gathered, shape, specification, with_member, with_members}
use Rattle.c_expression_typing.specs.Typed.{with_more_declared, with_specifier}
use Rattle.program_laws.proofs.Functions.Entities.{bound_either}
use Rattle.typing_laws.proofs.Scopes.Initializers.{IfBehind}
use Rattle.program_laws.proofs.Tags.Declaring.{IfBegun, IfKnown, begun_binds, completed_known}
use Rattle.program_laws.proofs.Tags.Keeping.{HaveFileTags, KeepsTags, in_file_scope, keeps_on, keeps_same}
use Rattle.program_laws.proofs.Tags.Keeping.{number_kept, number_of}
use Rattle.program_laws.proofs.Tags.Walked.{tags_walk}
use Rattle.typing_laws.proofs.Walks.Recursion.{declared_walk, specifier_walks}
use Rattle.typing_laws.proofs.Walks.Specifiers.{begun_walks, completed_walks}
use Rattle.typing_laws.proofs.Walks.States.{Walking, done_walks, then_walks}

-- a tag that stands for a complete structure or union at file scope
pub record Completes (name : Name) (s : State) : Type 0 where
  pub number : ℕ
  pub is : number_of (in_file_scope name s) ≡ Some number
  pub known : is_known (slice_get (extents s) number) ≡ true

pub completes_kept : (s t : State) → KeepsTags s t → (name : Name) → Completes name s → Completes name t
completes_kept s t h name c = record {
  number = c.number;
  is = number_kept s t h name c.number c.is;
  known = h.known c.number c.known;
}

-- so does each tag of the one list that is not in the other
pub record Completed (before behind : Names Bool) (s : State) : Type 0 where
  pub each : (name : Name) → is_some (declared name behind) ≡ true
      → (is_some (declared name before) ≡ true) ⊎ Completes name s

completed_on : (a b c : Names Bool) (s t : State) → Completed a b s → KeepsTags s t → Completed b c t
    → Completed a c t
completed_on a b c s t h k g = record { each = λ name e. second name (g.each name e) }
  where
    first : (name : Name) → (is_some (declared name a) ≡ true) ⊎ Completes name s
        → (is_some (declared name a) ≡ true) ⊎ Completes name t
    first name (inl e) = inl e
    first name (inr x) = inr (completes_kept s t k name x)

    second : (name : Name) → (is_some (declared name b) ≡ true) ⊎ Completes name t
        → (is_some (declared name a) ≡ true) ⊎ Completes name t
    second name (inl e) = first name (h.each name e)
    second name (inr x) = inr x

-- a state at file scope
pub record Ready (s : State) : Type 0 where
  pub have : HaveFileTags s
  pub file : is_empty s.environment.tags.outer ≡ true

pub ready_kept : (s t : State) → KeepsTags s t → Ready s → Ready t
ready_kept s t h r = record { have = h.have r.have; file = ap is_empty h.outer_tags ∙ r.file }

-- what is left of the tags, and which of them are complete now
pub record Does (before behind : Names Bool) (s t : State) : Type 0 where
  pub keeps : KeepsTags s t
  pub completes : Completed before behind t

pub does_same : (tags : Names Bool) (s : State) → Does tags tags s s
does_same tags s = record { keeps = keeps_same s; completes = record { each = λ name e. inl e } }

pub does_on : (a b c : Names Bool) (s t u : State) → Does a b s t → Does b c t u → Does a c s u
does_on a b c s t u h g = record {
  keeps = keeps_on s t u h.keeps g.keeps;
  completes = completed_on a b c t u h.completes g.keeps g.completes;
}

pub does_by : (tags : Names Bool) (s t : State) → KeepsTags s t → Does tags tags s t
does_by tags s t h = record { keeps = h; completes = record { each = λ name e. inl e } }

abbrev pub IfDoes : {A : Type 0} → (before behind : Names Bool) → State → Answer (State × A) → Type 0
IfDoes before behind s (Ok r) = Does before behind s r.0
IfDoes before behind s (Err f) = Unit {0}

pub kept_does : {A : Type 0} (tags : Names Bool) (s : State) (a : Answer (State × A)) → Walking tags_walk 0 s a
    → IfDoes tags tags s a
kept_does tags s (Ok r) h = does_by tags s r.0 h.by
kept_does tags s (Err f) h = tt

from_done : {A : Type 0} (a b c : Names Bool) (s t : State) → Does a b s t → (x : Answer (State × A)) → IfDoes b c t x
    → IfDoes a c s x
from_done a b c s t h (Ok r) g = does_on a b c s t r.0 h g
from_done a b c s t h (Err f) g = tt

pub then_does : {A B : Type 0} (s : State) → Ready s → (a b c : Names Bool) (x : Answer (State × A))
    (next : A → Typing B) → IfDoes a b s x → ((u : State) (y : A) → Ready u → IfDoes b c u (next y u))
    → IfDoes a c s (x >>= λ r. next r.1 r.0)
then_does s ready a b c (Ok r) next h g =
    from_done a b c s r.0 h (next r.1 r.0) (g r.0 r.1 (ready_kept s r.0 h.keeps ready))
then_does s ready a b c (Err f) next h g = tt

-- a structure or union with a tag, whose members are read

plain_kind : (w : Keyword) → is_enumeration (tag_kind w) ≡ false
plain_kind keyword.Union = refl
plain_kind w = refl

-- the tag stands for this structure or union
record StandsFor (name : Name) (x : Tag) (n : ℕ) (s : State) : Type 0 where
  there : in_file_scope name s ≡ Some x
  number : number_of (Some x) ≡ Some n

module _ (name : Name) (tags behind : Names Bool) (g : Gathered) (line : ℕ) where
  one_more : (v w : State) → KeepsTags v w → Completed (bound name true tags) behind v → Completes name w
      → Completed tags behind w
  one_more v w h c x = record { each = λ other e. by other (c.each other e) }
    where
      in_list : (other : Name)
          → (declared other (bound name true tags) ≡ declared other tags)
          ⊎ ((other ≡ name) × (declared other (bound name true tags) ≡ Some true))
          → is_some (declared other (bound name true tags)) ≡ true
          → (is_some (declared other tags) ≡ true) ⊎ Completes other w
      in_list other (inl e) is = inl (ap is_some (sym e) ∙ is)
      in_list other (inr e) is = inr (subst (λ z. Completes z w) (sym e.0) x)

      by : (other : Name) → (is_some (declared other (bound name true tags)) ≡ true) ⊎ Completes other v
          → (is_some (declared other tags) ≡ true) ⊎ Completes other w
      by other (inl e) = in_list other (bound_either other name true tags) e
      by other (inr y) = inr (completes_kept v w h other y)

  -- behind its members
  completed_does : (s v : State) (x : Tag) (n : ℕ) → StandsFor name x n v → KeepsTags s v
      → Completed (bound name true tags) behind v → (a : Answer (State × Tag)) → IfBehind KeepsTags v a → IfKnown n a
      → IfDoes tags behind s (a >>= λ r. done (with_named (tag_type r.1) g) r.0)
  completed_does s v x n is k c (Ok r) h known = record {
    keeps = keeps_on s v r.0 k h;
    completes = one_more v r.0 h c (record {
      number = n;
      is = number_kept v r.0 h name n (ap number_of is.there ∙ is.number);
      known = known;
    });
  }
  completed_does s v x n is k c (Err f) h known = tt

  members_then : (s u : State) → Ready u → (x : Tag) (n : ℕ) → StandsFor name x n u → KeepsTags s u
      → (a : Answer (State × Entries)) → IfDoes (bound name true tags) behind u a
      → IfDoes tags behind s
      (a >>= λ r. (tag_completed line x r.1 >>> λ tag. done (with_named (tag_type tag) g)) r.0)
  members_then s u ready x n is k (Ok r) h =
      let there = h.keeps.scope name x is.there in
      let have = h.keeps.have ready.have in
      completed_does s r.0 x n (record { there = there; number = is.number }) (keeps_on s u r.0 k h.keeps) h.completes
      (tag_completed line x r.1 r.0) (completed_walks {walk = tags_walk} line x r.1 r.0).by
      (completed_known line x r.1 r.0 n is.number (have.numbered name n (ap number_of there ∙ is.number)))
  members_then s u ready x n is k (Err f) h = tt

  -- from its tag on
  begun_does : (s : State) → Ready s → (ms : t.Members) (a : Answer (State × Tag)) → IfBehind KeepsTags s a
      → IfBegun name a
      → ((u : State) → Ready u → IfDoes (bound name true tags) behind u (with_members ms no_entries u))
      → IfDoes tags behind s
      (a >>= λ r. (with_members ms no_entries >>> λ es. tag_completed line r.1 es >>> λ tag.
      done (with_named (tag_type tag) g)) r.0)
  begun_does s ready ms (Ok r) h b k =
      let now = ready_kept s r.0 h ready in
      members_then s r.0 now r.1 b.1 (record { there = b.0; number = b.2 }) h (with_members ms no_entries r.0)
      (k r.0 now)
  begun_does s ready ms (Err f) h b k = tt

specified_does : (s : State) → Ready s → (a b : Names Bool) (specs : Specifiers) (gathering : Typing Gathered)
    → IfDoes a b s (gathering s) → IfDoes a b s (specified_by specs gathering s)
specified_does s ready a b specs gathering h =
    then_does s ready a b b (gathering s) (λ g. done (specified (first_line specs) g)) h (λ u g r. does_same b u)

mutual
  gathered_does : (is_alone : Bool) (line : ℕ) (specs : Specifiers) (g : Gathered) (tags : Names Bool) (s : State)
      → Ready s → IfDoes tags (tags_in specs tags) s (gathered is_alone line specs g s)
  gathered_does is_alone line t.no_specifiers g tags s ready = does_same tags s
  gathered_does is_alone line (t.specifiers x more) g tags s ready =
      then_does s ready tags (tags_of x tags) (tags_in more (tags_of x tags)) (with_specifier is_alone line x g s)
      (λ g'. gathered is_alone line more g') (specifier_does is_alone line x g tags s ready)
      (λ u g' r. gathered_does is_alone line more g' (tags_of x tags) u r)

  specifier_does : (is_alone : Bool) (line : ℕ) (x : Specifier) (g : Gathered) (tags : Names Bool) (s : State)
      → Ready s → IfDoes tags (tags_of x tags) s (with_specifier is_alone line x g s)
  specifier_does is_alone line (t.keyword w at) g tags s ready =
      kept_does tags s (with_specifier is_alone line (t.keyword w at) g s)
      (specifier_walks tags_walk is_alone line (t.keyword w at) g s)
  specifier_does is_alone line (t.typedef_name x) g tags s ready =
      kept_does tags s (with_specifier is_alone line (t.typedef_name x) g s)
      (specifier_walks tags_walk is_alone line (t.typedef_name x) g s)
  specifier_does is_alone line (t.structure w at x) g tags s ready =
      kept_does tags s (with_specifier is_alone line (t.structure w at x) g s)
      (specifier_walks tags_walk is_alone line (t.structure w at x) g s)
  specifier_does is_alone line (t.structure_body w at None l ms r) g tags s ready =
      then_does s ready tags tags (tags_in_members ms tags) (begun_as (tag_kind w) None line s)
      (λ tag. with_members ms no_entries >>> λ es. tag_completed line tag es >>> λ tag.
      done (with_named (tag_type tag) g))
      (kept_does tags s (begun_as (tag_kind w) None line s) (begun_walks (tag_kind w) None line s))
      (λ u tag now. then_does u now tags (tags_in_members ms tags) (tags_in_members ms tags)
      (with_members ms no_entries u) (λ es. tag_completed line tag es >>> λ tag. done (with_named (tag_type tag) g))
      (members_do ms no_entries tags u now)
      (λ v es later. kept_does (tags_in_members ms tags) v
      ((tag_completed line tag es >>> λ tag. done (with_named (tag_type tag) g)) v)
      (then_walks (completed_walks line tag es v) (λ r. done_walks))))
  specifier_does is_alone line (t.structure_body w at (Some x) l ms r) g tags s ready =
      begun_does (name_of x) tags (tags_in_members ms (bound (name_of x) true tags)) g line s ready ms
      (begun_as (tag_kind w) (Some (name_of x)) line s)
      (begun_walks {walk = tags_walk} (tag_kind w) (Some (name_of x)) line s).by
      (begun_binds s ready.file (tag_kind w) (plain_kind w) (name_of x) line)
      (λ u now. members_do ms no_entries (bound (name_of x) true tags) u now)
  specifier_does is_alone line (t.enumeration at x) g tags s ready =
      kept_does tags s (with_specifier is_alone line (t.enumeration at x) g s)
      (specifier_walks tags_walk is_alone line (t.enumeration at x) g s)
  specifier_does is_alone line (t.enumeration_body at x l e more comma r) g tags s ready =
      kept_does tags s (with_specifier is_alone line (t.enumeration_body at x l e more comma r) g s)
      (specifier_walks tags_walk is_alone line (t.enumeration_body at x l e more comma r) g s)

  members_do : (ms : t.Members) (es : Entries) (tags : Names Bool) (s : State) → Ready s
      → IfDoes tags (tags_in_members ms tags) s (with_members ms es s)
  members_do t.no_members es tags s ready = does_same tags s
  members_do (t.members (t.member_declaration specs d rest at) more) es tags s ready =
      then_does s ready tags (tags_in specs tags) (tags_in_members more (tags_in specs tags))
      (with_member (t.member_declaration specs d rest at) es s) (λ es. with_members more es)
      (then_does s ready tags (tags_in specs tags) (tags_in specs tags)
      (specified_by specs (gathered false (first_line specs) specs nothing_gathered) s)
      (λ spec. judged (λ s. member_specified spec) >>> λ spec. with_shape spec es (shape false d) >>> λ es.
      with_more_declared spec rest es)
      (specified_does s ready tags (tags_in specs tags) specs
      (gathered false (first_line specs) specs nothing_gathered)
      (gathered_does false (first_line specs) specs nothing_gathered tags s ready))
      (λ u spec now. kept_does (tags_in specs tags) u _ (declared_walk tags_walk spec d rest es u)))
      (λ u es now. members_do more es (tags_in specs tags) u now)

pub specification_does : (is_alone : Bool) (specs : Specifiers) (tags : Names Bool) (s : State) → Ready s
    → IfDoes tags (tags_in specs tags) s (specification is_alone specs s)
specification_does is_alone specs tags s ready =
    specified_does s ready tags (tags_in specs tags) specs
    (gathered is_alone (first_line specs) specs nothing_gathered)
    (gathered_does is_alone (first_line specs) specs nothing_gathered tags s ready)
