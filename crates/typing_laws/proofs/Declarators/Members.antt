-- Members, and structures and unions that are complete behind them.
use Rattle.std.proofs.Common.{◌≡◌, ℕ, zero, suc, ◌+◌, ◌^◌, ◌<◌, ◌≤◌, Bool, true, false, refl, sym}
use Rattle.std.proofs.Common.{◌∙◌, subst, List, [], ◌∷◌, ◌++◌, length, map, Option, Some, None, arith}
use Rattle.std.specs.Prelude.{All, slice_get, get_or, is_some}
use Rattle.std.proofs.lemmas.List.Elements.{All-cons}
use Rattle.c_tree.specs.declared.c_type.TypeWord.{TypeWord}
use Rattle.c_tree.specs.Extents.{IsExtent, TypeExtent, extent_of}
use Rattle.c_tree.specs.Layout.{greatest_alignment, structure_of, union_of}
use Rattle.c_tree.specs.Members.{size_at}
use Rattle.c_tree.proofs.Layouts.{structure_laid_out, union_inside}
use Rattle.c_faults.specs.declared.fault.Rule.{Rule}
use Rattle.c_faults.specs.Answer.{Answer, ◌>>=◌}
use Rattle.c_tree.specs.declared.member.Member.{Member}
use Rattle.c_declarators.specs.Derivations.{BuiltType, element_faults}
use Rattle.c_declarators.specs.Faults.{and_faults, rule_of}
use Rattle.c_scope.specs.Names.{Name, Names, bound, declared}
use Rattle.c_declarator_typing.specs.Declarators.{Shape, built_in, unless}
use Rattle.c_declarator_typing.specs.Members.{Entries, Entry, extent_in, extent_with, member_added, member_at}
use Rattle.c_declarator_typing.specs.Members.{member_named, member_rule, members_at, no_offset, offsets_in}
use Rattle.c_declarator_typing.specs.Members.{rule_or_repeated}
use Rattle.c_declarator_typing.specs.Members.{sized_entry}
use Rattle.c_declarator_typing.specs.Specifications.{Specification}
use Rattle.c_typing_state.specs.State.{State, extents}
use Rattle.typing_laws.specs.Validity.More.{AreMore}
use Rattle.typing_laws.specs.Validity.Sound.{IsFormed, IsObjectExtent, is_sized_array}
use Rattle.typing_laws.proofs.Validity.Common.{the_same}
use Rattle.typing_laws.proofs.Validity.Kept.{extent_kept}
use Rattle.typing_laws.proofs.Validity.Moved.{size_high}
use Rattle.typing_laws.proofs.Validity.Sound.{IfAnswer}
use Rattle.typing_laws.specs.Declarators.Extending.{IsSameOr, new, same}
use Rattle.typing_laws.specs.Declarators.Given.{AreCounted, AreEntries, IsEntry}
use Rattle.typing_laws.proofs.Declarators.Lists.{added_length}
use Rattle.typing_laws.proofs.Declarators.Tags.{bound_same}
use Rattle.typing_laws.proofs.Declarators.Types.{NoFaults, built_sized, first_faultless, object_type}
use Rattle.typing_laws.proofs.Declarators.Types.{size_low, is_size_of, without_faults}

-- a member that a declarator adds

entry_kept : (s t : State) → AreMore (extents s) (extents t) → (e : Entry) → IsEntry s e → IsEntry t e
entry_kept s t h e is = record {
  complete = extent_kept (extents s) (extents t) h e.type e.extent is.complete;
  object = is.object;
}

pub entries_kept : (s t : State) → AreMore (extents s) (extents t) → (es : List Entry) → AreEntries s es
    → AreEntries t es
entries_kept s t h [] is = tt
entries_kept s t h (e ∷ es) is = (entry_kept s t h e is.0, entries_kept s t h es is.1)

entries_more : (s : State) (es : List Entry) (e : Entry) → AreEntries s es → IsEntry s e → AreEntries s (es ++ e ∷ [])
entries_more s [] e h is = (is, tt)
entries_more s (x ∷ es) e h is = (h.0, entries_more s es e h.1 is)

-- so many members, at least
pub record Members (s : State) (least : ℕ) (es : Entries) : Type 0 where
  pub each : AreEntries s es.entries
  pub count : least ≤ length es.entries

pub members_kept : (s t : State) → AreMore (extents s) (extents t) → (n : ℕ) (es : Entries) → Members s n es
    → Members t n es
members_kept s t h n es is = record { each = entries_kept s t h es.entries is.each; count = is.count }

sized_by : (s : State) (n : ℕ) (es : Entries) → Members s n es → (name : Name) (line : ℕ) (type : List TypeWord)
    (o : Option TypeExtent) → extent_of (extents s) type ≡ o → ((e : TypeExtent) → o ≡ Some e → IsObjectExtent e)
    → IfAnswer (Members s (suc n)) (sized_entry name line type o es)
sized_by s n es is name line type None e h = tt
sized_by s n es is name line type (Some x) e h =
    let entry : Entry = record { name = name; type = type; extent = x } in
    record {
      each = entries_more s es.entries entry is.each (record { complete = e; object = h x refl });
      count = let more = added_length es.entries entry in let low = is.count in omega arith;
    }

pub unless_by : (r : Option Rule) (line : ℕ) (es : Entries) (next : Entries → Answer Entries) (P : Entries → Type 0)
    → (r ≡ None → IfAnswer P (next es)) → IfAnswer P (unless r line es >>= next)
unless_by None line es next P h = h refl
unless_by (Some r) line es next P h = tt

pub no_rule : (r : Option Rule) (b : Bool) → rule_or_repeated r b ≡ None → r ≡ None
no_rule None b e = refl
no_rule (Some r) b e = absurd cc

named_by : (s : State) → IsFormed s → (n : ℕ) (es : Entries) → Members s n es → (b : BuiltType)
    → (NoFaults b.faults → is_sized_array b.type ≡ true) → (name : Option (Name × ℕ)) → is_some name ≡ true
    → IfAnswer (Members s (suc n)) (member_named (extents s) b name es)
named_by s formed n es is b sized None e = absurd cc
named_by s formed n es is b sized (Some name) e =
    let faults = element_faults (extents s) b.type in
    unless_by (member_rule (extents s) b name.0 es) name.1 es
    (λ es. sized_entry name.0 name.1 b.type (extent_of (extents s) b.type) es) (Members s (suc n))
    (λ r. let good = without_faults (and_faults b.faults faults)
    (no_rule (rule_of (and_faults b.faults faults)) (is_some (declared name.0 es.names)) r) in
    sized_by s n es is name.0 name.1 b.type (extent_of (extents s) b.type) refl
    (λ x. object_type (extents s) formed.sizes b.type (sized (first_faultless b.faults faults good)) x))

pub member_given : (s : State) → IsFormed s → (n : ℕ) (es : Entries) → Members s n es → (spec : Specification)
    → is_sized_array spec.type ≡ true → (sh : Shape) → AreCounted sh.derivations → is_some sh.name ≡ true
    → IfAnswer (Members s (suc n)) (member_added spec sh es s)
member_given s formed n es is spec sized sh counted named =
    named_by s formed n es is (built_in s spec sh)
    (built_sized (extents s) formed.sizes spec.type sized sh.derivations counted) sh.name named

-- members at offsets

abbrev pub Each : (P : Member → Type 0) → List Entry → (offsets : List ℕ) → Type 0
Each P [] os = Unit {0}
Each P (e ∷ es) [] = Unit {0}
Each P (e ∷ es) (o ∷ os) = P (member_at o e) × Each P es os

bound_each : (P : Member → Type 0) (before behind : Option Member) → IsSameOr P before behind
    → ((m : Member) → before ≡ Some m → P m) → (m : Member) → behind ≡ Some m → P m
bound_each P before behind (same e) h m is = h m (sym e ∙ is)
bound_each P before behind (new x e p) h m is = subst P (the_same (sym e ∙ is)) p

pub members_each : (P : Member → Type 0) (es : List Entry) (os : List ℕ) (members : Names Member)
    → ((name : Name) (m : Member) → declared name members ≡ Some m → P m) → Each P es os
    → (name : Name) (m : Member) → declared name (members_at es os members) ≡ Some m → P m
members_each P [] os members h each name m is = h name m is
members_each P (e ∷ es) [] members h each name m is = h name m is
members_each P (e ∷ es) (o ∷ os) members h each name m is =
    members_each P es os (bound e.name (member_at o e) members)
    (λ other x. bound_each P (declared other members) (declared other (bound e.name (member_at o e) members))
    (bound_same P e.name other (member_at o e) members each.0) (h other) x) each.1 name m is

pub each_by : (P : Member → Type 0) (es : List Entry) (os : List ℕ)
    → ((k : ℕ) (e : Entry) → slice_get es k ≡ Some e → P (member_at (get_or os k 0) e)) → Each P es os
each_by P [] os h = tt
each_by P (e ∷ es) [] h = tt
each_by P (e ∷ es) (o ∷ os) h = (h 0 e refl, each_by P es os (λ k. h (suc k)))

pub entry_at : (s : State) (es : List Entry) → AreEntries s es → (k : ℕ) (e : Entry) → slice_get es k ≡ Some e
    → IsEntry s e
entry_at s [] h k e is = absurd cc
entry_at s (x ∷ es) h zero e is = subst (IsEntry s) (the_same is) h.0
  where
    the_same : Some x ≡ Some e → x ≡ e
    the_same e = cc
entry_at s (x ∷ es) h (suc k) e is = entry_at s es h.1 k e is

size_of_entry : (es : List Entry) (k : ℕ) (e : Entry) → slice_get es k ≡ Some e
    → size_at (map extent_in es) k ≡ e.extent.size
size_of_entry [] k e is = absurd cc
size_of_entry (x ∷ es) zero e is = the_same is
  where
    the_same : Some x ≡ Some e → x.extent.size ≡ e.extent.size
    the_same e = cc
size_of_entry (x ∷ es) (suc k) e is = size_of_entry es k e is

entry_low : (es : List Entry) (k : ℕ) (e : Entry) → slice_get es k ≡ Some e → k < length (map extent_in es)
entry_low [] k e is = absurd cc
entry_low (x ∷ es) zero e is = omega arith
entry_low (x ∷ es) (suc k) e is = let low = entry_low es k e is in omega arith

no_offsets : (es : List Entry) (k : ℕ) → get_or (map no_offset es) k 0 ≡ 0
no_offsets [] k = refl
no_offsets (x ∷ es) zero = refl
no_offsets (x ∷ es) (suc k) = no_offsets es k

object_extent : (e : TypeExtent) → IsObjectExtent e → IsExtent e
object_extent e is =
    record { size = (let high = size_high e.size is.size in omega arith); least = is.least; greatest = is.greatest }

all_extents : (s : State) (es : List Entry) → AreEntries s es → All IsExtent (map extent_in es)
all_extents s [] h = λ k d low. absurd (omega (arith, low))
all_extents s (e ∷ es) h =
    All-cons IsExtent e.extent (map extent_in es) (object_extent e.extent h.0.object) (all_extents s es h.1)

pub inside_by : (s : State) (is_union : Bool) (es : List Entry) → AreEntries s es
    → (extent_with is_union es).size ≤ 2 ^ 32 → (k : ℕ) (e : Entry) → slice_get es k ≡ Some e
    → get_or (offsets_in is_union es) k 0 + e.extent.size ≤ (extent_with is_union es).size
inside_by s true es h small k e is =
    let low = union_inside (map extent_in es) small k (entry_low es k e is) in
    let size = size_of_entry es k e is in
    let at = no_offsets es k in
    omega arith
inside_by s false es h small k e is =
    let low = (structure_laid_out (map extent_in es) (all_extents s es h) small).inside k (entry_low es k e is) in
    let size = size_of_entry es k e is in
    omega arith

-- the whole is of an object

greatest_low : (ms : List TypeExtent) → 1 ≤ greatest_alignment ms
greatest_low [] = omega arith
greatest_low (m ∷ ms) = let low = greatest_low ms in omega arith

greatest_high : (s : State) (es : List Entry) → AreEntries s es → greatest_alignment (map extent_in es) ≤ 8
greatest_high s [] h = omega arith
greatest_high s (e ∷ es) h =
    let high = greatest_high s es h.1 in let own = h.0.object.greatest in omega arith

some_entry : (es : List Entry) → 1 ≤ length es → (e : Entry) × (slice_get es 0 ≡ Some e)
some_entry [] low = absurd (omega arith)
some_entry (e ∷ es) low = (e, refl)

whole_low : (s : State) (is_union : Bool) (es : List Entry) → AreEntries s es → 1 ≤ length es
    → (extent_with is_union es).size ≤ 2 ^ 32 → 1 ≤ (extent_with is_union es).size
whole_low s is_union es h some small =
    let first = some_entry es some in
    let ends = inside_by s is_union es h small 0 first.0 first.1 in
    let own = size_low first.0.extent.size (entry_at s es h 0 first.0 first.1).object.size in
    omega arith

pub whole_object : (s : State) (is_union : Bool) (es : List Entry) → AreEntries s es → 1 ≤ length es
    → (extent_with is_union es).size ≤ 2 ^ 32 → IsObjectExtent (extent_with is_union es)
unfolding structure_of union_of
whole_object s true es h some small = record {
  size = is_size_of (extent_with true es).size (whole_low s true es h some small) small;
  least = greatest_low (map extent_in es);
  greatest = greatest_high s es h;
}
whole_object s false es h some small = record {
  size = is_size_of (extent_with false es).size (whole_low s false es h some small) small;
  least = greatest_low (map extent_in es);
  greatest = greatest_high s es h;
}
