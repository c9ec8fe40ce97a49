-- An initializer that violates no rule stores at least one part (C99 6.7.8).
use Rattle.std.proofs.Common.{◌≡◌, ◌⊎◌, inl, inr, ℕ, zero, suc, ◌-◌, Bool, true, false, refl, sym, ap, ◌∙◌}
use Rattle.std.proofs.Common.{subst, List, [], ◌∷◌, ◌++◌, length, take, Option, Some, None, if◌then◌else◌, arith}
use Rattle.std.proofs.lemmas.Bool.{true≢false}
use Rattle.std.specs.Prelude.{Ok, Err, is_some, slice_index_or}
use Rattle.c_tree.specs.declared.c_type.TypeWord.{TypeWord}
use Rattle.c_tree.specs.Extents.{TypeExtent}
use Rattle.c_tree.specs.Statements.{Content, value_content, literal_content}
use Rattle.c_tree.specs.Tree.{Expression}
use Rattle.c_tree.specs.Valid.{Scope}
use Rattle.c_faults.specs.declared.fault.Rule.TheVariants.{MisplacedItem}
use Rattle.c_faults.specs.Answer.{Answer, violates, ◌>>=◌}
use Rattle.c_rules.specs.Conversions.{assigned}
use Rattle.c_rules.specs.Values.{Value}
use Rattle.c_current_object.specs.declared.current.CurrentObject.{CurrentObject}
use Rattle.c_current_object.specs.declared.filler.Filler.TheVariants as filler
use Rattle.c_current_object.specs.CurrentObject.{by_index, by_name}
use Rattle.c_current_object.specs.Members.{MemberLists}
use Rattle.c_current_object.specs.Types.{filler_of, is_character_array}
use Rattle.c_initializer_rules.specs.declared.initializing.Braces.{Braces}
use Rattle.c_initializer_rules.specs.declared.initializing.Next.{Next}
use Rattle.c_initializer_rules.specs.declared.initializing.Standing.TheVariants.{Whole}
use Rattle.c_initializer_rules.specs.Initializing.{Initializing, at_object, begun, braces_for, closed, closed_list}
use Rattle.c_initializer_rules.specs.Initializing.{designated_in, from_whole_list}
use Rattle.c_initializer_rules.specs.Initializing.{has_misplaced, literal_at, literal_next, opened, opened_for}
use Rattle.c_initializer_rules.specs.Initializing.{place_of, stored_at, value_next, with_literal, with_one_too_many}
use Rattle.c_initializer_rules.specs.Initializing.{with_value}
use Rattle.c_initializer_rules.specs.Literals.{filling, is_too_long}
use Rattle.c_initializer_rules.specs.Placed.{PlacedPart, placed, without}
use Rattle.c_typing_state.specs.State.{State, extents}
use Rattle.c_unit_typing.specs.Initializers.{member_lists}
use Rattle.typing_laws.specs.Validity.Steps.{Structures}
use Rattle.typing_laws.proofs.Validity.Common.{second}
use Rattle.typing_laws.proofs.Validity.Sound.{IfAnswer}
use Rattle.typing_laws.proofs.Initializers.Recursion.{Filled, FilledIf, Steps}

pub record HasSome (ps : List PlacedPart) : Type 0 where
  pub part : PlacedPart
  pub others : List PlacedPart
  pub is : ps ≡ part ∷ others

some_more : (ps : List PlacedPart) (p : PlacedPart) → HasSome (ps ++ p ∷ [])
some_more [] p = record { part = p; others = []; is = refl }
some_more (q ∷ ps) p = record { part = q; others = ps ++ p ∷ []; is = refl }

-- lists in braces that have too many items

abbrev AnyMisplaced : List Braces → Type 0
AnyMisplaced [] = ⊥
AnyMisplaced (l ∷ ls) = (has_misplaced l ≡ true) ⊎ AnyMisplaced ls

any_last : (ls : List Braces) (l : Braces) → has_misplaced l ≡ true → AnyMisplaced (ls ++ l ∷ [])
any_last [] l e = inl e
any_last (x ∷ ls) l e = inr (any_last ls l e)

any_first : (ls : List Braces) (l : Braces) → AnyMisplaced ls → AnyMisplaced (ls ++ l ∷ [])
any_first [] l h = absurd h
any_first (x ∷ ls) l (inl e) = inl e
any_first (x ∷ ls) l (inr h) = inr (any_first ls l h)

abbrev LastOrOther : List Braces → ℕ → Type 0
LastOrOther ls n = (has_misplaced (slice_index_or ls n (braces_for None)) ≡ true) ⊎ AnyMisplaced (take n ls)

next_last : (l : Braces) (ls : List Braces) (n : ℕ) → LastOrOther ls n → LastOrOther (l ∷ ls) (suc n)
next_last l ls n (inl e) = inl e
next_last l ls n (inr h) = inr (inr h)

last_or_other : (ls : List Braces) → AnyMisplaced ls → LastOrOther ls (length ls - 1)
last_or_other [] h = absurd h
last_or_other (l ∷ []) (inl e) = inl e
last_or_other (l ∷ []) (inr h) = absurd h
last_or_other (l ∷ m ∷ ls) (inl e) =
    let is : length (l ∷ m ∷ ls) - 1 ≡ suc (length (m ∷ ls) - 1) = omega arith in
    subst (LastOrOther (l ∷ m ∷ ls)) (sym is) (inr (inl e))
last_or_other (l ∷ m ∷ ls) (inr h) =
    let is : length (l ∷ m ∷ ls) - 1 ≡ suc (length (m ∷ ls) - 1) = omega arith in
    subst (LastOrOther (l ∷ m ∷ ls)) (sym is) (next_last l (m ∷ ls) (length (m ∷ ls) - 1) (last_or_other (m ∷ ls) h))

-- the outermost list is for no object: it stands for an initializer that stands in no braces

abbrev outermost : Braces → List Braces → Braces
outermost l [] = l
outermost l (o ∷ os) = o

pub record IsInside (n : ℕ) (i : Initializing) : Type 0 where
  pub depth : length i.outer ≡ n
  pub no_object : (outermost i.list i.outer).object ≡ None

more_depth : (ls : List Braces) (l : Braces) (n : ℕ) → length ls ≡ n → length (ls ++ l ∷ []) ≡ suc n
more_depth [] l n e = ap suc e
more_depth (x ∷ ls) l n e = ap suc (more_depth ls l (length ls) refl) ∙ ap suc e

same_outermost : (own list l : Braces) (ls : List Braces) → l.object ≡ list.object → (outermost list ls).object ≡ None
    → (outermost own (ls ++ l ∷ [])).object ≡ None
same_outermost own list l [] same e = same ∙ e
same_outermost own list l (x ∷ ls) same e = e

less_depth : (n : ℕ) (ls : List Braces) → length ls ≡ suc n → length (take (length ls - 1) ls) ≡ n
less_depth n [] e = absurd cc
less_depth zero (l ∷ []) e = refl
less_depth (suc n) (l ∷ []) e = absurd (omega (arith, e))
less_depth zero (l ∷ m ∷ ls) e = absurd (omega (arith, e))
less_depth (suc n) (l ∷ m ∷ ls) e =
    let is : length (l ∷ m ∷ ls) - 1 ≡ suc (length (m ∷ ls) - 1) = omega arith in
    let low : length (m ∷ ls) ≡ suc n = omega (arith, e) in
    ap (λ k. length (take k (l ∷ m ∷ ls))) is ∙ ap suc (less_depth n (m ∷ ls) low)

less_outermost : (list : Braces) (ls : List Braces) → (n : ℕ) → length ls ≡ suc n → (outermost list ls).object ≡ None
    → (outermost (record (slice_index_or ls (length ls - 1) (braces_for None)) { behind = [] })
    (take (length ls - 1) ls)).object ≡ None
less_outermost list [] n e b = absurd cc
less_outermost list (l ∷ []) n e b = b
less_outermost list (l ∷ m ∷ ls) n e b =
    let is : length (l ∷ m ∷ ls) - 1 ≡ suc (length (m ∷ ls) - 1) = omega arith in
    subst (λ k. (outermost (record (slice_index_or (l ∷ m ∷ ls) k (braces_for None)) { behind = [] })
    (take k (l ∷ m ∷ ls))).object ≡ None) (sym is) b

-- behind an initializer there is a part, or a list has too many items

pub data IsStored (i : Initializing) : Type 0 where
  some : HasSome i.parts → IsStored i
  misplaced : has_misplaced i.list ≡ true → IsStored i
  around : AnyMisplaced i.outer → IsStored i

-- before an item there is one, or its list is for an object
pub data IsWanted (i : Initializing) : Type 0 where
  stored : IsStored i → IsWanted i
  listed : is_some i.list.object ≡ true → IsWanted i

-- before an initializer, or it is for an object
pub data IsAwaited (i : Initializing) : Type 0 where
  wanted : IsWanted i → IsAwaited i
  awaited : is_some i.next ≡ true → IsAwaited i

none_some : {A : Type 0} (o : Option A) (P : Type 0) → o ≡ None → is_some o ≡ true → P
none_some None P e g = absurd cc
none_some (Some x) P e g = absurd cc

-- the next object is another one

same_stored : (i : Initializing) (x : Option Next) → IsStored i → IsStored (record i { next = x })
same_stored i x (some h) = some h
same_stored i x (misplaced e) = misplaced e
same_stored i x (around h) = around h

same_wanted : (i : Initializing) (x : Option Next) → IsWanted i → IsWanted (record i { next = x })
same_wanted i x (stored h) = stored (same_stored i x h)
same_wanted i x (listed e) = listed e

pub record At (n : ℕ) (P : Initializing → Type 0) (i : Initializing) : Type 0 where
  pub inside : IsInside n i
  pub is : P i

with_next : (n : ℕ) (i : Initializing) (x : Option Next) → At n IsWanted i → At n IsWanted (record i { next = x })
with_next n i x h = record {
  inside = record { depth = h.inside.depth; no_object = h.inside.no_object };
  is = same_wanted i x h.is;
}

designated_at : (n : ℕ) (i : Initializing) → At n IsWanted i → (a : Answer (Option Next))
    → IfAnswer (At n IsWanted) (a >>= λ next. Ok (record i { next = next }))
designated_at n i h (Ok x) = with_next n i x h
designated_at n i h (Err f) = tt

-- lists that begin

not_awaited : (i : Initializing) → i.next ≡ None → IsAwaited i → IsWanted i
not_awaited i e (wanted h) = h
not_awaited i e (awaited g) = none_some i.next _ e g

stored_opened : (i : Initializing) (list : Braces) (next : Option Next) → IsStored i
    → IsStored (record {
      parts = i.parts;
      next = next;
      list = list;
      outer = i.outer ++ record i.list { has_too_many = true } ∷ [];
    })
stored_opened i list next (some h) = some h
stored_opened i list next (misplaced e) =
    around (any_last i.outer (record i.list { has_too_many = true })
    (second i.list.has_too_many (is_some i.list.object) e))
stored_opened i list next (around h) = around (any_first i.outer (record i.list { has_too_many = true }) h)

wanted_opened : (i : Initializing) (list : Braces) (next : Option Next) → IsWanted i
    → IsWanted (record {
      parts = i.parts;
      next = next;
      list = list;
      outer = i.outer ++ record i.list { has_too_many = true } ∷ [];
    })
wanted_opened i list next (stored h) = stored (stored_opened i list next h)
wanted_opened i list next (listed e) =
    stored (around (any_last i.outer (record i.list { has_too_many = true }) e))

opened_by : (es : List (Option TypeExtent)) (lists : MemberLists) (n : ℕ) (i : Initializing) → At n IsAwaited i
    → (x : Option Next) → i.next ≡ x → At (suc n) IsWanted (opened_for es lists i x)
opened_by es lists n i h None e = record {
  inside = record {
    depth = more_depth i.outer (record i.list { has_too_many = true }) n h.inside.depth;
    no_object = same_outermost (braces_for None) i.list (record i.list { has_too_many = true }) i.outer refl
        h.inside.no_object;
  };
  is = wanted_opened i (braces_for None) None (not_awaited i e h.is);
}
opened_by es lists n i h (Some x) e = record {
  inside = record {
    depth = more_depth i.outer (record i.list { behind = x.current.levels }) n h.inside.depth;
    no_object = same_outermost (braces_for (Some x.current.object)) i.list (record i.list { behind = x.current.levels })
        i.outer refl h.inside.no_object;
  };
  is = listed refl;
}

opened_at : (es : List (Option TypeExtent)) (lists : MemberLists) (n : ℕ) (i : Initializing) → At n IsAwaited i
    → At (suc n) IsWanted (opened es lists i)
unfolding opened
opened_at es lists n i h = opened_by es lists n i h i.next refl

-- lists that end

stored_closed : (es : List (Option TypeExtent)) (lists : MemberLists) (i : Initializing) → IsStored i
    → has_misplaced i.list ≡ false → IsStored (closed_list es lists i)
stored_closed es lists i (some h) e = some h
stored_closed es lists i (misplaced g) e = absurd (true≢false (sym g ∙ e))
stored_closed es lists i (around h) e = by (last_or_other i.outer h)
  where
    by : LastOrOther i.outer (length i.outer - 1) → IsStored (closed_list es lists i)
    by (inl g) = misplaced g
    by (inr g) = around g

closed_by : (es : List (Option TypeExtent)) (lists : MemberLists) (line n : ℕ) (i : Initializing)
    → At (suc n) IsStored i → (test : Bool) → has_misplaced i.list ≡ test
    → IfAnswer (At n IsStored) (if test then violates MisplacedItem line else Ok (closed_list es lists i))
closed_by es lists line n i h true e = tt
closed_by es lists line n i h false e = record {
  inside = record {
    depth = less_depth n i.outer h.inside.depth;
    no_object = less_outermost i.list i.outer n h.inside.depth h.inside.no_object;
  };
  is = stored_closed es lists i h.is e;
}

closed_at : (es : List (Option TypeExtent)) (lists : MemberLists) (line n : ℕ) (i : Initializing)
    → At (suc n) IsStored i → IfAnswer (At n IsStored) (closed es lists line i)
unfolding closed
closed_at es lists line n i h = closed_by es lists line n i h (has_misplaced i.list) refl

-- values and literals

too_many : (i : Initializing) → IsWanted i → IsStored (with_one_too_many i)
too_many i (stored (some h)) = some h
too_many i (stored (misplaced e)) = misplaced (second i.list.has_too_many (is_some i.list.object) e)
too_many i (stored (around h)) = around h
too_many i (listed e) = misplaced e

too_many_outermost : (l : Braces) (ls : List Braces) → (outermost l ls).object ≡ None
    → (outermost (record l { has_too_many = true }) ls).object ≡ None
too_many_outermost l [] e = e
too_many_outermost l (x ∷ ls) e = e

stored_here : (es : List (Option TypeExtent)) (lists : MemberLists) (n : ℕ) (i : Initializing) → IsInside n i
    → (content : Content) (c : CurrentObject) → At n IsStored (stored_at es lists content c i)
stored_here es lists n i h content c = record {
  inside = record { depth = h.depth; no_object = h.no_object };
  is = some (some_more (without c.object.path i.parts) (placed c.object content));
}

value_stored : (es : List (Option TypeExtent)) (lists : MemberLists) (n : ℕ) (i : Initializing) → IsInside n i
    → (c : CurrentObject) (a : Answer Expression)
    → IfAnswer (At n IsStored) (a >>= λ e. Ok (stored_at es lists (value_content e) c i))
value_stored es lists n i h c (Ok e) = stored_here es lists n i h (value_content e) c
value_stored es lists n i h c (Err f) = tt

value_by : (es : List (Option TypeExtent)) (lists : MemberLists) (line : ℕ) (v : Value) (n : ℕ) (i : Initializing)
    → At n IsAwaited i → (x : Option Next) → i.next ≡ x → IfAnswer (At n IsStored) (value_next es lists line v i x)
value_by es lists line v n i h None e = record {
  inside = record { depth = h.inside.depth; no_object = too_many_outermost i.list i.outer h.inside.no_object };
  is = too_many i (not_awaited i e h.is);
}
value_by es lists line v n i h (Some x) e =
    let c = place_of es lists i (filler_of v.type) x in
    value_stored es lists n i h.inside c (assigned es line c.object.c_type v)

value_at : (es : List (Option TypeExtent)) (lists : MemberLists) (line : ℕ) (v : Value) (n : ℕ) (i : Initializing)
    → At n IsAwaited i → IfAnswer (At n IsStored) (with_value es lists line v i)
unfolding with_value
value_at es lists line v n i h = value_by es lists line v n i h i.next refl

abbrev IsFilled : ℕ → Initializing × Bool → Type 0
IsFilled n r = FilledIf (λ es. At n IsAwaited) (λ es. At n IsStored) r.1 [] r.0

literal_by : (es : List (Option TypeExtent)) (lists : MemberLists) (line : ℕ) (spelled : List ℕ) (n : ℕ)
    (i : Initializing) → IsInside n i → (c : CurrentObject) (test : Bool)
    → IfAnswer (IsFilled n) (if test then violates MisplacedItem line
    else Ok (stored_at es lists (literal_content (filling c.object.c_type spelled)) c i, true))
literal_by es lists line spelled n i h c true = tt
literal_by es lists line spelled n i h c false =
    stored_here es lists n i h (literal_content (filling c.object.c_type spelled)) c

literal_in : (es : List (Option TypeExtent)) (lists : MemberLists) (line : ℕ) (spelled : List ℕ) (n : ℕ)
    (i : Initializing) → IsInside n i → (c : CurrentObject) (test : Bool)
    → IfAnswer (IsFilled n) (if test then literal_at es lists line spelled c i
    else Ok (record i { next = Some (at_object c Whole) }, false))
literal_in es lists line spelled n i h c true =
    literal_by es lists line spelled n i h c (is_too_long c.object.c_type spelled)
literal_in es lists line spelled n i h c false =
    record { inside = record { depth = h.depth; no_object = h.no_object }; is = awaited refl }

literal_next_at : (es : List (Option TypeExtent)) (lists : MemberLists) (line : ℕ) (spelled : List ℕ) (n : ℕ)
    (i : Initializing) → At n IsAwaited i → (x : Option Next)
    → IfAnswer (IsFilled n) (literal_next es lists line spelled i x)
literal_next_at es lists line spelled n i h None = h
literal_next_at es lists line spelled n i h (Some x) =
    let c = place_of es lists i filler.Literal x in
    literal_in es lists line spelled n i h.inside c (is_character_array c.object.c_type)

literal_at_next : (es : List (Option TypeExtent)) (lists : MemberLists) (line : ℕ) (spelled : List ℕ) (n : ℕ)
    (i : Initializing) → At n IsAwaited i → IfAnswer (IsFilled n) (with_literal es lists line spelled i)
unfolding with_literal
literal_at_next es lists line spelled n i h = literal_next_at es lists line spelled n i h i.next

at_wanted : (n : ℕ) (i : Initializing) → At n IsWanted i → At n IsAwaited i
at_wanted n i h = record { inside = h.inside; is = wanted h.is }

at_stored : (n : ℕ) (i : Initializing) → At n IsStored i → At n IsWanted i
at_stored n i h = record { inside = h.inside; is = stored h.is }

filled_by : (n : ℕ) (es : Structures) (i : Initializing) (is_filled : Bool)
    → FilledIf (λ es. At n IsAwaited) (λ es. At n IsStored) is_filled [] i
    → FilledIf (λ es. At n IsAwaited) (λ es. At n IsStored) is_filled es i
filled_by n es i true h = h
filled_by n es i false h = h

filled_in : (n : ℕ) (es : Structures) (a : Answer (Initializing × Bool)) → IfAnswer (IsFilled n) a
    → IfAnswer (Filled (λ es. At n IsAwaited) (λ es. At n IsStored) es) a
filled_in n es (Ok r) h = filled_by n es r.0 r.1 h
filled_in n es (Err f) h = tt

pub some_steps : (is_known : Bool) (scope : Scope) (Known : State → Type 0)
    → Steps is_known scope Known (λ n es. At n IsWanted) (λ n es. At n IsAwaited) (λ n es. At n IsWanted)
    (λ n es. At n IsStored)
some_steps is_known scope Known = record {
  before_stays = λ n i es more h is. is;
  chosen_stays = λ n i es more h is. is;
  opened = λ n s i k h. opened_at (extents s) (member_lists s) n i h;
  undesignated = λ n es i h. at_wanted n i h;
  designation = λ n es i h. with_next n i (from_whole_list i.list.object) h;
  index = λ n s line index i k h. designated_at n i h
      (designated_in line (by_index (extents s) (member_lists s) line index) i.next);
  name = λ n s line name i k h. designated_at n i h
      (designated_in line (by_name (extents s) (member_lists s) line name) i.next);
  chosen = λ n es i h. at_wanted n i h;
  value = λ n s line v i k fine h. value_at (extents s) (member_lists s) line v n i h;
  literal = λ n s line spelled i k h. filled_in n (extents s)
      (with_literal (extents s) (member_lists s) line spelled i)
      (literal_at_next (extents s) (member_lists s) line spelled n i h);
  further = λ n es i h. at_stored n i h;
  closed = λ n s line i k h. closed_at (extents s) (member_lists s) line n i h;
}

-- at the start and at the end

pub begun_awaited : (type : List TypeWord) → At 0 IsAwaited (begun type)
begun_awaited type = record { inside = record { depth = refl; no_object = refl }; is = awaited refl }

no_list : (outer : List Braces) → length outer ≡ 0 → (l : Braces) → (outermost l outer).object ≡ None
    → (l.object ≡ None) × (AnyMisplaced outer → ⊥)
no_list [] e l b = (b, λ h. h)
no_list (x ∷ outer) e l b = absurd (omega (arith, e))

ended_by : (i : Initializing) → IsInside 0 i → IsStored i → HasSome i.parts
ended_by i h (some g) = g
ended_by i h (misplaced e) =
    none_some i.list.object _ (no_list i.outer h.depth i.list h.no_object).0
    (second i.list.has_too_many (is_some i.list.object) e)
ended_by i h (around g) = absurd ((no_list i.outer h.depth i.list h.no_object).1 g)

pub ended_some : (i : Initializing) → At 0 IsStored i → HasSome i.parts
ended_some i h = ended_by i h.inside h.is
