-- The parts of an object that lies in the whole lie in it too (C99 6.7.8 paragraph 17).
use Rattle.std.proofs.Common.{nat_le, ◌≡◌, ℕ, ◌+◌, ◌*◌, ◌<◌, ◌≤◌, Bool, true, false, refl, sym, ap, ◌∙◌}
use Rattle.std.proofs.Common.{subst, List, [], ◌∷◌, ◌++◌, map, Option, Some, None, if◌then◌else◌, arith, nat_lt}
use Rattle.std.specs.Prelude.{slice_get, ◌==◌}
use Rattle.std.proofs.lemmas.Bool.{leb-true, ltb-true}
use Rattle.std.proofs.lemmas.Option.{none-some}
use Rattle.c_tree.specs.declared.c_type.TypeWord.{TypeWord}
use Rattle.c_tree.specs.declared.c_type.TypeWord.TheVariants as word
use Rattle.c_tree.specs.Extents.{TypeExtent, capped, extent_of, structure_extent}
use Rattle.c_tree.specs.Layout.{array_size}
use Rattle.c_rules.specs.Types.{unqualified}
use Rattle.c_tree.specs.declared.member.Member.{Member}
use Rattle.c_place_laws.proofs.Sizes.{target_size}
use Rattle.c_current_object.specs.declared.subobject.Step.{Step}
use Rattle.c_current_object.specs.declared.subobject.Subobject.{Subobject}
use Rattle.c_current_object.specs.Members.{MemberList, MemberLists}
use Rattle.c_current_object.specs.Subobjects.{element_in, member_in, member_of, part, part_as, size_or_0, whole}
use Rattle.typing_laws.proofs.Validity.Common.{the_same}
use Rattle.typing_laws.specs.Initializers.Cursor.{HasIf}
use Rattle.typing_laws.specs.Layouts.Listed.{AreListed, IsListed}
use Rattle.typing_laws.specs.Initializers.Placing.{HasExtent, IsPlaced, LiesWithin, as_part, as_whole, bound}
use Rattle.typing_laws.proofs.Initializers.Extents.{array_elements, rows, target_extent, unqualified_has}

-- the part is the object itself, or lies within the same limit, one step below it
pub data IsPartOf (es : List (Option TypeExtent)) (limit : ℕ) (o p : Subobject) : Type 0 where
  itself : o ≡ p → IsPartOf es limit o p
  below : (s : Step) → p.path ≡ o.path ++ s ∷ [] → LiesWithin es limit p → IsPartOf es limit o p

-- elements

element_lies : (es : List (Option TypeExtent)) (limit start count size each : ℕ) (element : List TypeWord)
    (o : Subobject) (n : ℕ) → o.offset ≡ capped start → start + size ≤ limit → HasExtent es each element
    → count * each ≡ size → n < count → LiesWithin es limit (element_in es o element n)
unfolding array_size
element_lies es limit start count size each element o n at inside h all low =
    let bytes : size_or_0 (extent_of es element) ≡ each = ap size_or_0 h.complete ∙ h.bytes in
    let row = rows n count each low in
    let far : array_size n (size_or_0 (extent_of es element)) ≡ capped (n * each) = ap (array_size n) bytes in
    record {
      start = start + n * each;
      size = each;
      offset = ap (λ z. capped (z + array_size n (size_or_0 (extent_of es element)))) at
          ∙ ap (λ z. capped (capped start + z)) far ∙ omega arith;
      has = h;
      inside = omega (arith, row, all, inside);
    }

element_part : (es : List (Option TypeExtent)) (limit start count bytes size : ℕ) (element : List TypeWord)
    (o p : Subobject) (n : ℕ) → o.offset ≡ capped start → start + size ≤ limit
    → HasExtent es size (word.Array count bytes ∷ element) → (b : Bool) → nat_lt n count ≡ b
    → (if b then Some (element_in es o element n) else None) ≡ Some p → IsPartOf es limit o p
element_part es limit start count bytes size element o p n at inside h false low is = absurd cc
element_part es limit start count bytes size element o p n at inside h true low is =
    let all = array_elements es count bytes size element h in
    let lies = element_lies es limit start count size all.each element o n at inside all.has all.all
    (ltb-true n count low) in
    subst (IsPartOf es limit o) (the_same is) (below (record { is_union = false; number = n }) refl lies)

-- members

one_extent : (e g : TypeExtent) → Some e ≡ Some g → e ≡ g
one_extent e g h = cc

member_lies : (es : List (Option TypeExtent)) (limit start size number : ℕ) (is_union : Bool) (o : Subobject) (n : ℕ)
    (m : Member) → o.offset ≡ capped start → start + size ≤ limit → (e : TypeExtent)
    → structure_extent es number ≡ Some e → e.size ≡ size → IsListed es number m → (p : Subobject)
    → member_in o is_union n (Some m) ≡ Some p → IsPartOf es limit o p
member_lies es limit start size number is_union o n m at inside e whole same h p is =
    let known = target_extent es m.c_type m.size h.member.sized in
    let one = one_extent h.member.whole e (sym h.member.complete ∙ whole) in
    let ends = leb-true (m.offset + m.size) e.size (ap (λ x. nat_le (m.offset + m.size) x.size) (sym one)
    ∙ h.member.inside) in
    subst (IsPartOf es limit o) (the_same is) (below (record { is_union = is_union; number = n }) refl (record {
      start = start + m.offset;
      size = m.size;
      offset = ap (λ z. capped (z + m.offset)) at ∙ omega arith;
      has = record {
        extent = known.extent;
        complete = known.there;
        bytes = known.bytes;
        object = target_size es m.c_type m.size h.member.sized;
        arrays = h.arrays;
      };
      inside = omega (arith, ends, same, inside);
    }))

member_at : (es : List (Option TypeExtent)) (limit start size number : ℕ) (l : MemberList) (o : Subobject) (n : ℕ)
    → o.offset ≡ capped start → start + size ≤ limit → (e : TypeExtent) → structure_extent es number ≡ Some e
    → e.size ≡ size → (x : Option Member) → ((m : Member) → x ≡ Some m → IsListed es number m) → (p : Subobject)
    → member_in o l.is_union n x ≡ Some p → IsPartOf es limit o p
member_at es limit start size number l o n at inside e whole same None h p is = absurd cc
member_at es limit start size number l o n at inside e whole same (Some m) h p is =
    member_lies es limit start size number l.is_union o n m at inside e whole same (h m refl) p is

member_part : (es : List (Option TypeExtent)) (lists : MemberLists) → AreListed es lists
    → (limit start size number : ℕ) (x : Option MemberList) → lists number ≡ x → (o : Subobject) (n : ℕ)
    → o.offset ≡ capped start → start + size ≤ limit → (e : TypeExtent) → structure_extent es number ≡ Some e
    → e.size ≡ size → (p : Subobject) → member_of o n x ≡ Some p → IsPartOf es limit o p
member_part es lists h limit start size number None at_list o n at inside e whole same p is = absurd cc
member_part es lists h limit start size number (Some l) at_list o n at inside e whole same p is =
    member_at es limit start size number l o n at inside e whole same (slice_get (map (λ m. m.1) l.members) n)
    (λ m g. h.each number l at_list n m g) p is

-- a scalar is its own only part

scalar_part : (es : List (Option TypeExtent)) (limit : ℕ) (o p : Subobject) (b : Bool)
    → (if b then Some o else None) ≡ Some p → IsPartOf es limit o p
scalar_part es limit o p true is = itself (the_same is)
scalar_part es limit o p false is = absurd cc

part_by : (es : List (Option TypeExtent)) (lists : MemberLists) → AreListed es lists → (limit start size : ℕ)
    (ws : List TypeWord) (o p : Subobject) (n : ℕ) → o.offset ≡ capped start → start + size ≤ limit
    → HasExtent es size ws → part_as es lists ws o n ≡ Some p → IsPartOf es limit o p
unfolding extent_of
part_by es lists h limit start size [] o p n at inside has is = absurd cc
part_by es lists h limit start size (word.Void ∷ ws) o p n at inside has is = scalar_part es limit o p (n == 0) is
part_by es lists h limit start size (word.Integer t ∷ ws) o p n at inside has is = scalar_part es limit o p (n == 0) is
part_by es lists h limit start size (word.Enumeration m ∷ ws) o p n at inside has is =
    scalar_part es limit o p (n == 0) is
part_by es lists h limit start size (word.Pointer ∷ ws) o p n at inside has is = scalar_part es limit o p (n == 0) is
part_by es lists h limit start size (word.Array count bytes ∷ ws) o p n at inside has is =
    element_part es limit start count bytes size ws o p n at inside has (nat_lt n count) refl is
part_by es lists h limit start size (word.OpenArray ∷ ws) o p n at inside has is = absurd (none-some _ has.complete)
part_by es lists h limit start size (word.Structure m ∷ ws) o p n at inside has is =
    member_part es lists h limit start size m (lists m) refl o n at inside has.extent has.complete has.bytes p is
part_by es lists h limit start size (word.Const ∷ ws) o p n at inside has is = scalar_part es limit o p (n == 0) is
part_by es lists h limit start size (word.Takes ∷ ws) o p n at inside has is = scalar_part es limit o p (n == 0) is
part_by es lists h limit start size (word.Gives ∷ ws) o p n at inside has is = scalar_part es limit o p (n == 0) is

-- limits

bound_more : (b : Bool) (size : ℕ) (path : List Step) (s : Step) → bound b size path ≤ bound b size (path ++ s ∷ [])
bound_more false size path s = omega arith
bound_more true size [] s = omega arith
bound_more true size (u ∷ path) s = omega arith

wider : (es : List (Option TypeExtent)) (limit more : ℕ) (o : Subobject) → limit ≤ more → LiesWithin es limit o
    → LiesWithin es more o
wider es limit more o low h = record {
  start = h.start;
  size = h.size;
  offset = h.offset;
  has = h.has;
  inside = let ends = h.inside in omega arith;
}

module _ (es : List (Option TypeExtent)) (lists : MemberLists) (listed : AreListed es lists) (b : Bool) (size : ℕ)
    (base : List TypeWord) where
  placed_below : (o p : Subobject) → LiesWithin es (bound b size o.path) o
      → IsPartOf es (bound b size o.path) o p → IsPlaced b size base es p
  placed_below o p lies (itself e) = subst (IsPlaced b size base es) e (as_part lies)
  placed_below o p lies (below s at h) =
      as_part (wider es (bound b size o.path) (bound b size p.path) p
      (subst (λ path. bound b size o.path ≤ bound b size path) (sym at) (bound_more b size o.path s)) h)

  -- an element of the array of unknown size
  open_element : (n : ℕ) → b ≡ true → HasExtent es size base
      → LiesWithin es (bound b size (element_in es (whole (word.OpenArray ∷ base)) base n).path)
      (element_in es (whole (word.OpenArray ∷ base)) base n)
  open_element n e has =
      subst (λ z. LiesWithin es (bound z size (element_in es (whole (word.OpenArray ∷ base)) base n).path)
      (element_in es (whole (word.OpenArray ∷ base)) base n)) (sym e)
      (element_lies es ((n + 1) * size) 0 (n + 1) ((n + 1) * size) size base (whole (word.OpenArray ∷ base)) n refl
      (omega arith) has refl (omega arith))

  part_placed : (o p : Subobject) (n : ℕ) → IsPlaced b size base es o → part es lists o n ≡ Some p
      → IsPlaced b size base es p
  unfolding part
  part_placed o p n (as_whole e has at) is =
      subst (IsPlaced b size base es)
      (the_same (ap (λ z. part_as es lists (unqualified z.c_type) z n) (sym at) ∙ is)) (as_part (open_element n e has))
  part_placed o p n (as_part h) is =
      placed_below o p h
      (part_by es lists listed (bound b size o.path) h.start h.size (unqualified o.c_type) o p n h.offset h.inside
      (unqualified_has es h.size o.c_type h.has) is)

  placed_if : (o : Subobject) (n : ℕ) → IsPlaced b size base es o → (x : Option Subobject) → part es lists o n ≡ x
      → HasIf (IsPlaced b size base es) x
  placed_if o n is None e = tt
  placed_if o n is (Some p) e = part_placed o p n is e

  pub parts_placed : (o : Subobject) (n : ℕ) → IsPlaced b size base es o
      → HasIf (IsPlaced b size base es) (part es lists o n)
  parts_placed o n is = placed_if o n is (part es lists o n) refl
