-- What holds of all objects and of the parts is kept by an initializer (C99 6.7.8).
use Rattle.std.proofs.Common.{ℕ, Bool, true, false, List, [], ◌∷◌, Option, Some, None}
use Rattle.std.specs.Prelude.{Ok, Err}
use Rattle.c_tree.specs.Valid.{Scope}
use Rattle.c_faults.specs.Answer.{Answer}
use Rattle.c_current_object.specs.declared.current.Open.{Open}
use Rattle.c_current_object.specs.declared.subobject.Subobject.{Subobject}
use Rattle.c_current_object.specs.Subobjects.{part}
use Rattle.c_initializer_rules.specs.declared.initializing.Braces.{Braces}
use Rattle.c_initializer_rules.specs.declared.initializing.Next.{Next}
use Rattle.c_initializer_rules.specs.Initializing.{Initializing, with_literal}
use Rattle.c_initializer_rules.specs.Placed.{PlacedPart}
use Rattle.c_typing_state.specs.State.{State, extents}
use Rattle.c_unit_typing.specs.Initializers.{member_lists}
use Rattle.typing_laws.specs.Validity.Steps.{Structures}
use Rattle.typing_laws.proofs.Validity.Sound.{IfAnswer, Stays}
use Rattle.typing_laws.specs.Initializers.Cursor.{AreLists, AreOpen, HasIf, HoldsOfAll, IsList, IsNext}
use Rattle.typing_laws.specs.Initializers.Cursor.{IsPlacing}
use Rattle.typing_laws.proofs.Initializers.Recursion.{Filled, FilledIf, Steps}
use Rattle.typing_laws.proofs.Initializers.Steps.{KeepsParts, closed_placing, designation_placing}
use Rattle.typing_laws.proofs.Initializers.Steps.{index_placing}
use Rattle.typing_laws.proofs.Initializers.Steps.{literal_placing, name_placing, opened_placing, value_placing}

-- what holds of all objects of which another property does

module _ (P Q : Subobject → Type 0) (weaker : (o : Subobject) → P o → Q o) where
  object_if : (o : Option Subobject) → HasIf P o → HasIf Q o
  object_if None h = tt
  object_if (Some o) h = weaker o h

  open_all : (os : List Open) → AreOpen P os → AreOpen Q os
  open_all [] h = tt
  open_all (o ∷ os) h = (weaker o.object h.0, open_all os h.1)

  next_if : (n : Option Next) → IsNext P n → IsNext Q n
  next_if None h = tt
  next_if (Some n) h =
      record { object = weaker n.current.object h.object; levels = open_all n.current.levels h.levels }

  list_all_of : (l : Braces) → IsList P l → IsList Q l
  list_all_of l h = record { object = object_if l.object h.object; behind = open_all l.behind h.behind }

  lists_all : (ls : List Braces) → AreLists P ls → AreLists Q ls
  lists_all [] h = tt
  lists_all (l ∷ ls) h = (list_all_of l h.0, lists_all ls h.1)

  pub weaker_objects : (i : Initializing) → HoldsOfAll P i → HoldsOfAll Q i
  weaker_objects i h = record {
    next = next_if i.next h.next;
    list = list_all_of i.list h.list;
    outer = lists_all i.outer h.outer;
  }

-- what holds of any object

any_open : (os : List Open) → AreOpen (λ o. Unit {0}) os
any_open [] = tt
any_open (o ∷ os) = (tt, any_open os)

pub any_object : (o : Option Subobject) → HasIf (λ o. Unit {0}) o
any_object None = tt
any_object (Some o) = tt

any_next : (n : Option Next) → IsNext (λ o. Unit {0}) n
any_next None = tt
any_next (Some n) = record { object = tt; levels = any_open n.current.levels }

any_lists : (ls : List Braces) → AreLists (λ o. Unit {0}) ls
any_lists [] = tt
any_lists (l ∷ ls) = (record { object = any_object l.object; behind = any_open l.behind }, any_lists ls)

pub any_objects : (i : Initializing) → HoldsOfAll (λ o. Unit {0}) i
any_objects i = record {
  next = any_next i.next;
  list = record { object = any_object i.list.object; behind = any_open i.list.behind };
  outer = any_lists i.outer;
}

module _ (is_known : Bool) (scope : Scope) (Known : State → Type 0) (P : Structures → Subobject → Type 0)
    (R : Structures → List PlacedPart → Type 0) (objects_stay : (o : Subobject) → Stays (λ es. P es o))
    (parts_stay : (ps : List PlacedPart) → Stays (λ es. R es ps))
    (parts : (s : State) → Known s → (o : Subobject) (n : ℕ) → P (extents s) o
    → HasIf (P (extents s)) (part (extents s) (member_lists s) o n))
    (keeps : (es : Structures) → KeepsParts is_known scope es (P es) (R es)) where
  abbrev Placing : Structures → Initializing → Type 0
  Placing es i = IsPlacing (P es) (R es) i

  placing_stays : (i : Initializing) → Stays (λ es. Placing es i)
  placing_stays i = λ es more h is. record {
    objects = weaker_objects (P es) (P more) (λ o. objects_stay o es more h) i is.objects;
    parts = parts_stay i.parts es more h is.parts;
  }

  filled_by : (es : Structures) (is_filled : Bool) (i : Initializing) → Placing es i
      → FilledIf Placing Placing is_filled es i
  filled_by es true i h = h
  filled_by es false i h = h

  filled_in : (es : Structures) (a : Answer (Initializing × Bool)) → IfAnswer (λ r. Placing es r.0) a
      → IfAnswer (Filled Placing Placing es) a
  filled_in es (Ok r) h = filled_by es r.1 r.0 h
  filled_in es (Err f) h = tt

  pub placing_steps : Steps is_known scope Known (λ n. Placing) (λ n. Placing) (λ n. Placing) (λ n. Placing)
  placing_steps = record {
    before_stays = λ n. placing_stays;
    chosen_stays = λ n. placing_stays;
    opened = λ n s i k h. opened_placing is_known scope (extents s) (member_lists s) (P (extents s)) (R (extents s))
        (parts s k) (keeps (extents s)) i h;
    undesignated = λ n es i h. h;
    designation = λ n es i h. designation_placing (P es) (R es) i h;
    index = λ n s line index i k h. index_placing is_known scope (extents s) (member_lists s) (P (extents s))
        (R (extents s)) (parts s k) (keeps (extents s)) line index i h;
    name = λ n s line name i k h. name_placing is_known scope (extents s) (member_lists s) (P (extents s))
        (R (extents s)) (parts s k) (keeps (extents s)) line name i h;
    chosen = λ n es i h. h;
    value = λ n s line v i k fine h. value_placing is_known scope (extents s) (member_lists s) (P (extents s))
        (R (extents s)) (parts s k) (keeps (extents s)) line v fine i h;
    literal = λ n s line spelled i k h. filled_in (extents s)
        (with_literal (extents s) (member_lists s) line spelled i)
        (literal_placing is_known scope (extents s) (member_lists s) (P (extents s)) (R (extents s)) (parts s k)
        (keeps (extents s)) line spelled i h);
    further = λ n es i h. h;
    closed = λ n s line i k h. closed_placing is_known scope (extents s) (member_lists s) (P (extents s))
        (R (extents s)) (parts s k) (keeps (extents s)) line i h;
  }
