-- What comes next in objects that are open, from the innermost outward; and what an elided brace reaches, level by
-- level.
use Rattle.std.proofs.Common.{◌≡◌, ℕ, suc, true, false, List, [], ◌∷◌, ◌++◌, Option, Some, None}
use Rattle.std.proofs.Common.{sym, ap, ◌∙◌}
use Rattle.c_tree.specs.Extents.{TypeExtent}
use Rattle.c_current_object.specs.declared.current.CurrentObject.{CurrentObject}
use Rattle.c_current_object.specs.declared.current.Open.{Open}
use Rattle.c_current_object.specs.declared.filler.Filler.{Filler}
use Rattle.c_current_object.specs.declared.subobject.Subobject.{Subobject}
use Rattle.c_current_object.specs.Members.{MemberLists}
use Rattle.c_current_object.specs.Subobjects.{part}
use Rattle.c_current_object.specs.Types.{fills}
use Rattle.c_current_object.specs.CurrentObject.{first_part, innermost, next_in, open_behind, part_next}
use Rattle.c_current_object.specs.CurrentObject.{reached_by, reached_in}

module _ (structures : List (Option TypeExtent)) (members : MemberLists) where
  abbrev next_of : Open → Option CurrentObject
  next_of o = part_next members o (part structures members o.object o.next)

  -- the innermost is full
  pub next_outside : (os : List Open) (o : Open) → part structures members o.object o.next ≡ None
      → next_in structures members (os ++ o ∷ []) ≡ next_in structures members os
  next_outside [] o full = ap (λ p. innermost o None (part_next members o p)) full
  next_outside (u ∷ os) o full = ap (λ c. innermost u c (next_of u)) (next_outside os o full)

  -- the innermost has a part left
  pub next_inside : (os : List Open) (o : Open) (p : Subobject) → part structures members o.object o.next ≡ Some p
      → next_in structures members (os ++ o ∷ [])
      ≡ Some (record { object = p; levels = os ++ open_behind members o.object o.next ∷ [] })
  next_inside [] o p has = ap (λ q. innermost o None (part_next members o q)) has
  next_inside (u ∷ os) o p has = ap (λ c. innermost u c (next_of u)) (next_inside os o p has)

  module _ (filler : Filler) where
    -- one level down, where the initializer does not fill the object
    pub reached_below : (m n : ℕ) (c : CurrentObject) → m ≡ suc n → fills filler c.object.c_type ≡ false
        → reached_in structures members m filler c
        ≡ reached_in structures members n filler (first_part members c (part structures members c.object 0))
    unfolding reached_in reached_by
    reached_below m n c is fits =
        ap (λ k. reached_in structures members k filler c) is
        ∙ ap (λ b. reached_by structures members (suc n) filler b c) fits

    pub reached_here : (m n : ℕ) (c : CurrentObject) → m ≡ suc n → fills filler c.object.c_type ≡ true
        → reached_in structures members m filler c ≡ c
    unfolding reached_in reached_by
    reached_here m n c is fits =
        ap (λ k. reached_in structures members k filler c) is
        ∙ ap (λ b. reached_by structures members (suc n) filler b c) fits

    pub reached_end : (m : ℕ) (c : CurrentObject) → m ≡ 0 → reached_in structures members m filler c ≡ c
    unfolding reached_in reached_by
    reached_end m c is = ap (λ k. reached_in structures members k filler c) is

  -- of some that are open, of which the last was taken out

  same_part : (o : Open) (object : Subobject) (next : ℕ) (found : Option Subobject) → object ≡ o.object → next ≡ o.next
      → part structures members object next ≡ found → part structures members o.object o.next ≡ found
  same_part o object next found object_is next_is has =
      ap (λ x. part structures members x o.next) (sym object_is) ∙ ap (part structures members object) (sym next_is)
      ∙ has

  pub kept : (os all : List Open) (o : Open) (object : Subobject) (next : ℕ) (whole : Option CurrentObject)
      → all ≡ os ++ o ∷ [] → object ≡ o.object → next ≡ o.next → part structures members object next ≡ None
      → next_in structures members all ≡ whole → next_in structures members os ≡ whole
  kept os all o object next whole is object_is next_is full same =
      sym (next_outside os o (same_part o object next None object_is next_is full))
      ∙ ap (next_in structures members) (sym is) ∙ same

  pub returned : (os all levels : List Open) (o : Open) (object p : Subobject) (next : ℕ) (whole : Option CurrentObject)
      → all ≡ os ++ o ∷ [] → object ≡ o.object → next ≡ o.next → part structures members object next ≡ Some p
      → levels ≡ os ++ open_behind members object next ∷ [] → next_in structures members all ≡ whole
      → Some (record { object = p; levels = levels }) ≡ whole
  returned os all levels o object p next whole is object_is next_is has are same =
      let at : List Open → Option CurrentObject = λ ls. Some (record { object = p; levels = ls }) in
      ap at (are ∙ ap (λ x. os ++ open_behind members x next ∷ []) object_is
      ∙ ap (λ n. os ++ open_behind members o.object n ∷ []) next_is)
      ∙ sym (next_inside os o p (same_part o object next (Some p) object_is next_is has))
      ∙ ap (next_in structures members) (sym is) ∙ same
