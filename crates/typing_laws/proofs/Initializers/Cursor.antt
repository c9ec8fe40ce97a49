-- What holds of an object and of each part of what it holds of, holds of all that an initializer names (C99 6.7.8
-- paragraphs 17 to 20).
use Rattle.std.proofs.Common.{◌≡◌, ℕ, zero, suc, ◌-◌, Bool, true, false, ◌&&◌, refl, List, [], ◌∷◌, ◌++◌, length, take}
use Rattle.std.proofs.Common.{Option, Some, None, if◌then◌else◌}
use Rattle.std.specs.Prelude.{Ok, Err, slice_index_or}
use Rattle.c_tree.specs.declared.c_type.TypeWord.{TypeWord}
use Rattle.c_tree.specs.Extents.{TypeExtent}
use Rattle.c_tree.specs.Statements.{Content}
use Rattle.c_faults.specs.Answer.{Answer, ◌>>=◌}
use Rattle.c_scope.specs.Names.{Name}
use Rattle.c_current_object.specs.declared.current.CurrentObject.{CurrentObject}
use Rattle.c_current_object.specs.declared.current.Open.{Open}
use Rattle.c_current_object.specs.declared.filler.Filler.{Filler}
use Rattle.c_current_object.specs.declared.subobject.Subobject.{Subobject}
use Rattle.c_current_object.specs.CurrentObject.{alone, below, by_index, by_name, chosen, designated, first_part}
use Rattle.c_current_object.specs.CurrentObject.{innermost, most_levels, next_in, open_behind, part_next, part_within}
use Rattle.c_current_object.specs.CurrentObject.{reached, reached_by, reached_in}
use Rattle.c_current_object.specs.Members.{MemberLists}
use Rattle.c_current_object.specs.Subobjects.{element_number, member_number, part, whole}
use Rattle.c_current_object.specs.Types.{fills, is_character_array}
use Rattle.c_initializer_rules.specs.declared.initializing.Braces.{Braces}
use Rattle.c_initializer_rules.specs.declared.initializing.Next.{Next}
use Rattle.c_initializer_rules.specs.declared.initializing.Standing.{Standing}
use Rattle.c_initializer_rules.specs.declared.initializing.Standing.TheVariants.{Whole, First, Further}
use Rattle.c_initializer_rules.specs.Initializing.{Initializing, at_object, begun, braces_for, closed_list}
use Rattle.c_initializer_rules.specs.Initializing.{designated_by, designated_in, designation_begun, first_of, further}
use Rattle.c_initializer_rules.specs.Initializing.{from_whole_list, is_literal, last_list, next_behind, opened_for}
use Rattle.c_initializer_rules.specs.Initializing.{place_in_list, place_of, place_standing, stored_at, with_index}
use Rattle.c_initializer_rules.specs.Initializing.{with_name, with_one_too_many}
use Rattle.typing_laws.proofs.Validity.Sound.{IfAnswer}
use Rattle.typing_laws.specs.Initializers.Cursor.{AreLists, AreOpen, HasIf, IsCurrent, HoldsOfAll, IsList}
use Rattle.typing_laws.specs.Initializers.Cursor.{IsNext}

pub if_then : {A B : Type 0} (P : A → Type 0) (Q : B → Type 0) (a : Answer A) (next : A → Answer B) → IfAnswer P a
    → ((x : A) → P x → IfAnswer Q (next x)) → IfAnswer Q (a >>= next)
if_then P Q (Ok x) next h g = g x h
if_then P Q (Err f) next h g = tt

module _ (P : Subobject → Type 0) where
  more_levels : (os : List Open) (o : Open) → AreOpen P os → P o.object → AreOpen P (os ++ o ∷ [])
  more_levels [] o h is = (is, tt)
  more_levels (x ∷ os) o h is = (h.0, more_levels os o h.1 is)

  pub alone_is : (o : Subobject) → P o → IsCurrent P (alone o)
  alone_is o is = record { object = is; levels = tt }

  -- lists in braces

  more_lists : (ls : List Braces) (l : Braces) → AreLists P ls → IsList P l → AreLists P (ls ++ l ∷ [])
  more_lists [] l h is = (is, tt)
  more_lists (x ∷ ls) l h is = (h.0, more_lists ls l h.1 is)

  list_at : (ls : List Braces) (n : ℕ) → AreLists P ls → IsList P (slice_index_or ls n (braces_for None))
  list_at [] n h = record { object = tt; behind = tt }
  list_at (l ∷ ls) zero h = h.0
  list_at (l ∷ ls) (suc n) h = list_at ls n h.1

  first_lists : (ls : List Braces) (n : ℕ) → AreLists P ls → AreLists P (take n ls)
  first_lists [] zero h = tt
  first_lists [] (suc n) h = tt
  first_lists (l ∷ ls) zero h = tt
  first_lists (l ∷ ls) (suc n) h = (h.0, first_lists ls n h.1)

  pub begun_objects : (type : List TypeWord) → P (whole type) → HoldsOfAll P (begun type)
  begun_objects type is = record {
    next = record { object = is; levels = tt };
    list = record { object = tt; behind = tt };
    outer = tt;
  }

  pub too_many_objects : (i : Initializing) → HoldsOfAll P i → HoldsOfAll P (with_one_too_many i)
  too_many_objects i h = record {
    next = tt;
    list = record { object = h.list.object; behind = h.list.behind };
    outer = h.outer;
  }

  pub next_objects : (i : Initializing) → HoldsOfAll P i → (x : Option Next) → IsNext P x
      → HoldsOfAll P (record i { next = x })
  next_objects i h x is = record { next = is; list = h.list; outer = h.outer }

  from_list : (o : Option Subobject) → HasIf P o → IsNext P (from_whole_list o)
  from_list None is = tt
  from_list (Some o) is = alone_is o is

  pub designation_objects : (i : Initializing) → HoldsOfAll P i → HoldsOfAll P (designation_begun i)
  designation_objects i h = next_objects i h _ (from_list i.list.object h.list.object)

  designated_next : (line : ℕ) (choose : CurrentObject → Answer CurrentObject)
      → ((c : CurrentObject) → IsCurrent P c → IfAnswer (IsCurrent P) (choose c)) → (next : Option Next) → IsNext P next
      → IfAnswer (IsNext P) (designated_in line choose next)
  designated_next line choose h None is = tt
  designated_next line choose h (Some n) is =
      if_then (IsCurrent P) (IsNext P) (choose n.current) (λ c. Ok (Some (at_object c Further))) (h n.current is)
      (λ c g. g)

  designated_objects : (line : ℕ) (choose : CurrentObject → Answer CurrentObject)
      → ((c : CurrentObject) → IsCurrent P c → IfAnswer (IsCurrent P) (choose c)) → (i : Initializing) → HoldsOfAll P i
      → IfAnswer (λ j. HoldsOfAll P j × (j.parts ≡ i.parts)) (designated_by line choose i)
  designated_objects line choose g i h =
      if_then (IsNext P) (λ j. HoldsOfAll P j × (j.parts ≡ i.parts)) (designated_in line choose i.next)
      (λ next. Ok (record i { next = next })) (designated_next line choose g i.next h.next)
      (λ x is. (next_objects i h x is, refl))

  module _ (es : List (Option TypeExtent)) (lists : MemberLists)
      (parts : (o : Subobject) (n : ℕ) → P o → HasIf P (part es lists o n)) where
    within_is : (c : CurrentObject) (n : ℕ) (p : Subobject) → IsCurrent P c → P p
        → IsCurrent P (part_within lists c n p)
    within_is c n p h is =
        record { object = is; levels = more_levels c.levels (open_behind lists c.object n) h.levels h.object }

    -- what comes next in objects that are open

    abbrev IsCurrentOr : Option CurrentObject → Type 0
    IsCurrentOr None = Unit {0}
    IsCurrentOr (Some c) = IsCurrent P c

    next_part : (o : Open) → P o.object → (x : Option Subobject) → HasIf P x → IsCurrentOr (part_next lists o x)
    next_part o is None h = tt
    next_part o is (Some p) h = within_is (alone o.object) o.next p (alone_is o.object is) h

    innermost_is : (o : Open) → P o.object → (inside outside : Option CurrentObject) → IsCurrentOr inside
        → IsCurrentOr outside → IsCurrentOr (innermost o inside outside)
    innermost_is o is None outside h g = g
    innermost_is o is (Some c) outside h g = record { object = h.object; levels = (is, h.levels) }

    next_is : (os : List Open) → AreOpen P os → IsCurrentOr (next_in es lists os)
    next_is [] h = tt
    next_is (o ∷ os) h =
        innermost_is o h.0 (next_in es lists os) (part_next lists o (part es lists o.object o.next))
        (next_is os h.1) (next_part o h.0 (part es lists o.object o.next) (parts o.object o.next h.0))

    further_is : (x : Option CurrentObject) → IsCurrentOr x → IsNext P (further x)
    further_is None h = tt
    further_is (Some c) h = h

    behind_is : (os : List Open) → AreOpen P os → IsNext P (next_behind es lists os)
    behind_is os h = further_is (next_in es lists os) (next_is os h)

    -- elided braces

    first_is : (c : CurrentObject) → IsCurrent P c → (x : Option Subobject) → HasIf P x
        → IsCurrent P (first_part lists c x)
    first_is c h None is = h
    first_is c h (Some p) is = within_is c 0 p h is

    below_is : (c : CurrentObject) → IsCurrent P c → IsCurrent P (below es lists c)
    below_is c h = first_is c h (part es lists c.object 0) (parts c.object 0 h.object)

    reached_by_is : (n : ℕ) (f : Filler) (is_filled : Bool) (c : CurrentObject) → IsCurrent P c
        → IsCurrent P (reached_by es lists n f is_filled c)
    unfolding reached_by
    reached_by_is zero f is_filled c h = h
    reached_by_is (suc n) f true c h = h
    reached_by_is (suc n) f false c h =
        reached_by_is n f (fills f (below es lists c).object.c_type) (below es lists c) (below_is c h)

    reached_in_is : (n : ℕ) (f : Filler) (c : CurrentObject) → IsCurrent P c
        → IsCurrent P (reached_in es lists n f c)
    unfolding reached_in
    reached_in_is n f c h = reached_by_is n f (fills f c.object.c_type) c h

    reached_is : (f : Filler) (c : CurrentObject) → IsCurrent P c → IsCurrent P (reached es lists f c)
    unfolding reached
    reached_is f c h = reached_in_is most_levels f c h

    list_or : (test : Bool) (o : Subobject) (f : Filler) (c : CurrentObject) → P o → IsCurrent P c
        → IsCurrent P (if test then alone o else reached es lists f c)
    list_or true o f c is h = alone_is o is
    list_or false o f c is h = reached_is f c h

    in_list : (list : Option Subobject) (f : Filler) (c : CurrentObject) → HasIf P list → IsCurrent P c
        → IsCurrent P (place_in_list es lists list f c)
    in_list None f c is h = reached_is f c h
    in_list (Some o) f c is h = list_or (is_literal f && is_character_array o.c_type) o f c is h

    standing_is : (list : Option Subobject) (f : Filler) (c : CurrentObject) (z : Standing) → HasIf P list
        → IsCurrent P c → IsCurrent P (place_standing es lists list f c z)
    standing_is list f c Whole is h = h
    standing_is list f c First is h = in_list list f c is h
    standing_is list f c Further is h = reached_is f c h

    -- what an initializer without braces is for
    pub place_is : (i : Initializing) → HoldsOfAll P i → (f : Filler) (n : Next) → IsCurrent P n.current
        → IsCurrent P (place_of es lists i f n)
    place_is i h f n is = standing_is i.list.object f n.current n.standing h.list.object is

    pub stored_objects : (content : Content) (c : CurrentObject) (i : Initializing) → HoldsOfAll P i → IsCurrent P c
        → HoldsOfAll P (stored_at es lists content c i)
    stored_objects content c i h is = record {
      next = behind_is c.levels is.levels;
      list = h.list;
      outer = h.outer;
    }

    -- designators

    chosen_is : (line : ℕ) (c : CurrentObject) (n : ℕ) → IsCurrent P c → (x : Option Subobject) → HasIf P x
        → IfAnswer (IsCurrent P) (chosen lists line c n x)
    chosen_is line c n h None is = tt
    chosen_is line c n h (Some p) is = within_is c n p h is

    designated_is : (line : ℕ) (c : CurrentObject) → IsCurrent P c → (n : Option ℕ)
        → IfAnswer (IsCurrent P) (designated es lists line c n)
    designated_is line c h None = tt
    designated_is line c h (Some n) = chosen_is line c n h (part es lists c.object n) (parts c.object n h.object)

    pub index_objects : (line : ℕ) (index : Option ℕ) (i : Initializing) → HoldsOfAll P i
        → IfAnswer (λ j. HoldsOfAll P j × (j.parts ≡ i.parts)) (with_index es lists line index i)
    index_objects line index i h =
        designated_objects line (by_index es lists line index)
        (λ c is. designated_is line c is (element_number c.object.c_type index)) i h

    pub name_objects : (line : ℕ) (name : Name) (i : Initializing) → HoldsOfAll P i
        → IfAnswer (λ j. HoldsOfAll P j × (j.parts ≡ i.parts)) (with_name es lists line name i)
    name_objects line name i h =
        designated_objects line (by_name es lists line name)
        (λ c is. designated_is line c is (member_number lists c.object.c_type name)) i h

    -- lists in braces

    first_of_is : (o : Subobject) → P o → (x : Option Subobject) → HasIf P x → IsNext P (first_of lists o x)
    first_of_is o is None g = tt
    first_of_is o is (Some p) g = within_is (alone o) 0 p (alone_is o is) g

    pub opened_objects : (i : Initializing) → HoldsOfAll P i → (x : Option Next) → IsNext P x
        → HoldsOfAll P (opened_for es lists i x)
    opened_objects i h None is = record {
      next = tt;
      list = record { object = tt; behind = tt };
      outer = more_lists i.outer (record i.list { has_too_many = true }) h.outer
          (record { object = h.list.object; behind = h.list.behind });
    }
    opened_objects i h (Some n) is = record {
      next = first_of_is n.current.object is.object (part es lists n.current.object 0)
          (parts n.current.object 0 is.object);
      list = record { object = is.object; behind = tt };
      outer = more_lists i.outer (record i.list { behind = n.current.levels }) h.outer
          (record { object = h.list.object; behind = is.levels });
    }

    pub closed_objects : (i : Initializing) → HoldsOfAll P i → HoldsOfAll P (closed_list es lists i)
    closed_objects i h =
        let last = list_at i.outer (length i.outer - 1) h.outer in
        record {
          next = behind_is (last_list i.outer).behind last.behind;
          list = record { object = last.object; behind = tt };
          outer = first_lists i.outer (length i.outer - 1) h.outer;
        }
