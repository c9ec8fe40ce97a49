-- Static objects in the order of their numbers.
use Rattle.std.proofs.Common.{◌≡◌, ℕ, zero, suc, ◌+◌, ◌<◌, ◌≤◌, refl, sym, ap, ◌∙◌, Bool, false, List, [], ◌∷◌}
use Rattle.std.proofs.Common.{◌++◌, length, map, replicate, drop, get_or, arith, subst}
use Rattle.std.specs.Prelude.{Option, Some, None, option_map, slice_get, ◌==◌, if◌then◌else◌}
use Rattle.std.proofs.lemmas.Bool.{eq-eqb}
use Rattle.std.proofs.lemmas.Bool.Decides.{nat_tests}
use Rattle.std.proofs.lemmas.List.{append_assoc, append-nil, drop_all, length-replicate}
use Rattle.c_tree.specs.declared.c_type.TypeWord.{TypeWord}
use Rattle.c_tree.specs.declared.statement.Part as code_part
use Rattle.c_tree.specs.Extents.{TypeExtent}
use Rattle.c_tree.specs.Programs.{StaticObject}
use Rattle.c_tree.specs.Statements.{Part}
use Rattle.c_tree.specs.View.{part_of}
use Rattle.c_scope.specs.declared.meaning.Designated.{Designated}
use Rattle.c_scope.specs.declared.meaning.Designated.TheVariants.{Function, Library, Object, Static, Variable}
use Rattle.c_scope.specs.declared.meaning.Entity.{Entity}
use Rattle.c_typing_state.specs.declared.typer.Literal as code_literal
use Rattle.c_typing_state.specs.State.{literal_of}
use Rattle.c_programs.specs.declared.state.LinkedInitializer as code_initializer
use Rattle.c_programs.specs.declared.state.LocalStatic as code_static
use Rattle.c_programs.specs.FileState.{linked_initializer_of, local_static_of}
use Rattle.c_unit_typing.specs.Programs.{in_order, literal_object, parts_of, with_number}
use Rattle.c_programs.specs.declared.statics.Found.{Found}
use Rattle.c_programs.specs.declared.statics.Found.TheVariants.{Whole, Linked}
use Rattle.c_programs.specs.Slots.{all_placed, kept, placed}
use Rattle.c_programs.specs.Statics.{filled, final_kind, finished, finished_one, found_initializer, found_literal}
use Rattle.c_programs.specs.Statics.{found_or, found_static, linked_among, linked_by, linked_object, object_of}
use Rattle.c_programs.specs.Statics.{parts_filled, parts_or, with_entities, with_entity, with_linked}
use Rattle.c_programs.proofs.Placing.{all_as_long, as_long}

-- tests of numbers

above : (n k : ℕ) → n < k → (k == n) ≡ false
above n k less = grind (arith, nat_tests)

below : (n p : ℕ) → n < p → (n == p) ≡ false
below n p less = grind (arith, nat_tests)

-- the first with a number

number_here : (n : ℕ) (o : StaticObject) (os : List (ℕ × StaticObject)) → with_number n ((n, o) ∷ os) ≡ o ∷ []
number_here n o os = ap (λ b. if b then o ∷ [] else with_number n os) (eq-eqb n n refl)

number_other : (n p : ℕ) (o : StaticObject) (os : List (ℕ × StaticObject)) → (n == p) ≡ false
    → with_number n ((p, o) ∷ os) ≡ with_number n os
number_other n p o os e = ap (λ b. if b then o ∷ [] else with_number n os) e

parts_at : (n : ℕ) (ps : List Part) (is : List (ℕ × List Part)) → parts_of n ((n, ps) ∷ is) ≡ ps
parts_at n ps is = ap (λ b. if b then ps else parts_of n is) (eq-eqb n n refl)

parts_other : (n p : ℕ) (ps : List Part) (is : List (ℕ × List Part)) → (n == p) ≡ false
    → parts_of n ((p, ps) ∷ is) ≡ parts_of n is
parts_other n p ps is e = ap (λ b. if b then ps else parts_of n is) e

-- one object more

filled_past : (is : List (ℕ × List Part)) (n k : ℕ) (o : StaticObject) (ss : List (Option Found))
    (os : List (ℕ × StaticObject)) → n < k → filled is k ss ((n, o) ∷ os) ≡ filled is k ss os
unfolding filled
filled_past is n k o [] os less = refl
filled_past is n k o (None ∷ ss) os less =
    ap (λ z. z ++ filled is (suc k) ss ((n, o) ∷ os)) (number_other k n o os (above n k less))
    ∙ ap (λ z. with_number k os ++ z) (filled_past is n (suc k) o ss os (omega arith))
filled_past is n k o (Some x ∷ ss) os less =
    ap (λ z. (object_of is k x ∷ []) ++ z) (filled_past is n (suc k) o ss os (omega arith))

filled_here : (is : List (ℕ × List Part)) (n : ℕ) (x : Found) (s : Option Found) (ss : List (Option Found))
    (os : List (ℕ × StaticObject))
    → filled is n (kept s x ∷ ss) os ≡ filled is n (s ∷ ss) ((n, object_of is n x) ∷ os)
unfolding filled
filled_here is n x None ss os =
    let o = object_of is n x in
    ap (λ z. (o ∷ []) ++ z) (sym (filled_past is n (suc n) o ss os (omega arith)))
    ∙ ap (λ z. z ++ filled is (suc n) ss ((n, o) ∷ os)) (sym (number_here n o os))
filled_here is n x (Some y) ss os =
    ap (λ z. (object_of is n y ∷ []) ++ z) (sym (filled_past is n (suc n) (object_of is n x) ss os (omega arith)))

filled_at : (is : List (ℕ × List Part)) (n m p : ℕ) (x : Found) (ss : List (Option Found))
    (os : List (ℕ × StaticObject)) → p ≡ n + m
    → filled is n (placed m x ss) os ≡ filled is n ss ((p, object_of is p x) ∷ os)
unfolding filled placed
filled_at is n m p x [] os e = refl
filled_at is n zero p x (s ∷ ss) os e =
    let here : n ≡ p = omega arith in
    subst (λ q. filled is n (kept s x ∷ ss) os ≡ filled is n (s ∷ ss) ((q, object_of is q x) ∷ os)) here
    (filled_here is n x s ss os)
filled_at is n (suc m) p x (None ∷ ss) os e =
    let o = object_of is p x in
    ap (λ z. with_number n os ++ z) (filled_at is (suc n) m p x ss os (omega arith))
    ∙ ap (λ z. z ++ filled is (suc n) ss ((p, o) ∷ os)) (sym (number_other n p o os (below n p (omega arith))))
filled_at is n (suc m) p x (Some y ∷ ss) os e =
    ap (λ z. (object_of is n y ∷ []) ++ z) (filled_at is (suc n) m p x ss os (omega arith))

-- one initializer more

parts_past : (n k : ℕ) (ps : List Part) (ss : List (Option (List code_part.Part))) (is : List (ℕ × List Part))
    → n < k → parts_filled k ss ((n, ps) ∷ is) ≡ parts_filled k ss is
unfolding parts_filled
parts_past n k ps [] is less = refl
parts_past n k ps (s ∷ ss) is less =
    ap (λ z. parts_or s z ∷ parts_filled (suc k) ss ((n, ps) ∷ is)) (parts_other k n ps is (above n k less))
    ∙ ap (λ z. parts_or s (parts_of k is) ∷ z) (parts_past n (suc k) ps ss is (omega arith))

parts_here : (n : ℕ) (x : List code_part.Part) (s : Option (List code_part.Part))
    (ss : List (Option (List code_part.Part))) (is : List (ℕ × List Part))
    → parts_filled n (kept s x ∷ ss) is ≡ parts_filled n (s ∷ ss) ((n, map part_of x) ∷ is)
unfolding parts_filled
parts_here n x None ss is =
    ap (λ z. map part_of x ∷ z) (sym (parts_past n (suc n) (map part_of x) ss is (omega arith)))
    ∙ ap (λ z. z ∷ parts_filled (suc n) ss ((n, map part_of x) ∷ is)) (sym (parts_at n (map part_of x) is))
parts_here n x (Some y) ss is =
    ap (λ z. map part_of y ∷ z) (sym (parts_past n (suc n) (map part_of x) ss is (omega arith)))

parts_filled_at : (n m p : ℕ) (x : List code_part.Part) (ss : List (Option (List code_part.Part)))
    (is : List (ℕ × List Part)) → p ≡ n + m
    → parts_filled n (placed m x ss) is ≡ parts_filled n ss ((p, map part_of x) ∷ is)
unfolding parts_filled placed
parts_filled_at n m p x [] is e = refl
parts_filled_at n zero p x (s ∷ ss) is e =
    let here : n ≡ p = omega arith in
    subst (λ q. parts_filled n (kept s x ∷ ss) is ≡ parts_filled n (s ∷ ss) ((q, map part_of x) ∷ is)) here
    (parts_here n x s ss is)
parts_filled_at n (suc m) p x (s ∷ ss) is e =
    ap (λ z. parts_or s (parts_of n is) ∷ z) (parts_filled_at (suc n) m p x ss is (omega arith))
    ∙ ap (λ z. parts_or s z ∷ parts_filled (suc n) ss ((p, map part_of x) ∷ is))
    (sym (parts_other n p (map part_of x) is (below n p (omega arith))))

-- all of them

none_filled : (is : List (ℕ × List Part)) (n k : ℕ) (os : List (ℕ × StaticObject))
    → filled is n (replicate k None) os ≡ in_order n k os
unfolding filled
none_filled is n zero os = refl
none_filled is n (suc k) os = ap (λ z. with_number n os ++ z) (none_filled is (suc n) k os)

one_finished : (is : List (ℕ × List Part)) (n : ℕ) (s : Option Found) (p : Option (List code_part.Part))
    → parts_or p [] ≡ parts_of n is → finished_one s p ≡ found_or (option_map (object_of is n) s) []
one_finished is n None p e = refl
one_finished is n (Some (Whole o)) p e = refl
one_finished is n (Some (Linked k)) p e = ap (λ z. linked_object k z ∷ []) e

all_finished : (is : List (ℕ × List Part)) (n : ℕ) (ss : List (Option Found))
    (ps : List (Option (List code_part.Part)))
    → parts_filled n ps [] ≡ parts_filled n (replicate (length ss) None) is → finished ss ps ≡ filled is n ss []
unfolding filled finished parts_filled
all_finished is n [] ps e = refl
all_finished is n (s ∷ ss) [] e = cc
all_finished is n (s ∷ ss) (p ∷ ps) e =
    let first : parts_or p [] ≡ parts_of n is = cc in
    let others : parts_filled (suc n) ps [] ≡ parts_filled (suc n) (replicate (length ss) None) is = cc in
    ap (λ z. z ++ finished ss ps) (one_finished is n s p first)
    ∙ ap (λ z. found_or (option_map (object_of is n) s) [] ++ z) (all_finished is (suc n) ss ps others)

-- one thing after the other

abbrev object_in : List (ℕ × List Part) → ℕ × Found → ℕ × StaticObject
object_in is x = (x.0, object_of is x.0 x.1)

filled_all : (is : List (ℕ × List Part)) (xs : List (ℕ × Found)) (ss : List (Option Found))
    (os : List (ℕ × StaticObject))
    → filled is 0 (all_placed xs ss) os ≡ filled is 0 ss (map (object_in is) xs ++ os)
filled_all is [] ss os = refl
filled_all is (x ∷ xs) ss os =
    filled_all is xs (placed x.0 x.1 ss) os
    ∙ filled_at is 0 x.0 x.0 x.1 ss (map (object_in is) xs ++ os) (omega arith)

abbrev parts_in : ℕ × List code_part.Part → ℕ × List Part
parts_in x = (x.0, map part_of x.1)

parts_filled_all : (xs : List (ℕ × List code_part.Part)) (ss : List (Option (List code_part.Part)))
    (is : List (ℕ × List Part)) → parts_filled 0 (all_placed xs ss) is ≡ parts_filled 0 ss (map parts_in xs ++ is)
parts_filled_all [] ss is = refl
parts_filled_all (x ∷ xs) ss is =
    parts_filled_all xs (placed x.0 x.1 ss) is
    ∙ parts_filled_at 0 x.0 x.0 x.1 ss (map parts_in xs ++ is) (omega arith)

filled_linked : (es : List (Option TypeExtent)) (is : List (ℕ × List Part)) (type : List TypeWord) (what : Designated)
    (ss : List (Option Found)) (os : List (ℕ × StaticObject))
    → filled is 0 (with_linked es type what ss) os ≡ filled is 0 ss (linked_by es is type what ++ os)
filled_linked es is type (Object n) ss os = filled_at is 0 n n (Linked (final_kind es type)) ss os (omega arith)
filled_linked es is type (Function n) ss os = refl
filled_linked es is type (Library f) ss os = refl
filled_linked es is type (Static n) ss os = refl
filled_linked es is type (Variable n) ss os = refl

filled_entities : (es : List (Option TypeExtent)) (is : List (ℕ × List Part)) (entities : List Entity)
    (ss : List (Option Found)) (os : List (ℕ × StaticObject))
    → filled is 0 (with_entities es entities ss) os ≡ filled is 0 ss (linked_among es is entities ++ os)
unfolding with_entities
filled_entities es is [] ss os = refl
filled_entities es is (e ∷ entities) ss os =
    filled_entities es is entities (with_linked es e.c_type e.what ss) os
    ∙ filled_linked es is e.c_type e.what ss (linked_among es is entities ++ os)
    ∙ ap (λ z. filled is 0 ss z)
    (sym (append_assoc (linked_by es is e.c_type e.what) (linked_among es is entities) os))

linked_as_long : (es : List (Option TypeExtent)) (type : List TypeWord) (what : Designated) (ss : List (Option Found))
    → length (with_linked es type what ss) ≡ length ss
linked_as_long es type (Object n) ss = as_long n (Linked (final_kind es type)) ss
linked_as_long es type (Function n) ss = refl
linked_as_long es type (Library f) ss = refl
linked_as_long es type (Static n) ss = refl
linked_as_long es type (Variable n) ss = refl

entities_as_long : (es : List (Option TypeExtent)) (entities : List Entity) (ss : List (Option Found))
    → length (with_entities es entities ss) ≡ length ss
unfolding with_entities
entities_as_long es [] ss = refl
entities_as_long es (e ∷ entities) ss =
    entities_as_long es entities (with_linked es e.c_type e.what ss) ∙ linked_as_long es e.c_type e.what ss

one_entity : (es : List (Option TypeExtent)) (entities : List Entity) (n : ℕ) (e : Option Entity)
    (ss : List (Option Found)) → n < length entities → e ≡ slice_get entities n
    → with_entities es (drop n entities) ss ≡ with_entities es (drop (suc n) entities) (with_entity es e ss)
unfolding with_entities
one_entity es [] n e ss here is = absurd (omega arith)
one_entity es (x ∷ entities) zero e ss here is = ap (λ z. with_entities es entities (with_entity es z ss)) (sym is)
one_entity es (x ∷ entities) (suc n) e ss here is = one_entity es entities n e ss (omega arith) is

pub entities_next : (es : List (Option TypeExtent)) (entities : List Entity) (n : ℕ) (e : Option Entity)
    (ss new : List (Option Found)) (all : List (Option Found)) → n < length entities → e ≡ slice_get entities n
    → new ≡ with_entity es e ss → with_entities es (drop n entities) ss ≡ all
    → with_entities es (drop (n + 1) entities) new ≡ all
entities_next es entities n e ss new all here is made so_far =
    let next : n + 1 ≡ suc n = omega arith in
    ap (λ k. with_entities es (drop k entities) new) next
    ∙ ap (λ z. with_entities es (drop (suc n) entities) z) made ∙ sym (one_entity es entities n e ss here is) ∙ so_far

pub entities_end : (es : List (Option TypeExtent)) (entities : List Entity) (n : ℕ) (ss all : List (Option Found))
    → length entities ≤ n → with_entities es (drop n entities) ss ≡ all → ss ≡ all
unfolding with_entities
entities_end es entities n ss all past e = ap (λ z. with_entities es z ss) (sym (drop_all n entities past)) ∙ e

-- the objects with their initializers

without_parts : (n : ℕ) (ss : List (Option Found)) → n < length ss
    → finished (drop n ss) [] ≡ finished_one (get_or ss n None) None ++ finished (drop (suc n) ss) []
unfolding finished
without_parts n [] here = absurd (omega arith)
without_parts zero (s ∷ ss) here = refl
without_parts (suc n) (s ∷ ss) here = without_parts n ss (omega arith)

one_finished_more : (n : ℕ) (ss : List (Option Found)) (ps : List (Option (List code_part.Part))) → n < length ss
    → finished (drop n ss) (drop n ps)
    ≡ finished_one (get_or ss n None) (get_or ps n None) ++ finished (drop (suc n) ss) (drop (suc n) ps)
unfolding finished
one_finished_more n [] ps here = absurd (omega arith)
one_finished_more zero (s ∷ ss) [] here = refl
one_finished_more zero (s ∷ ss) (p ∷ ps) here = refl
one_finished_more (suc n) (s ∷ ss) (p ∷ ps) here = one_finished_more n ss ps (omega arith)
one_finished_more (suc n) (s ∷ ss) [] here = without_parts n ss (omega arith)

pub finished_next : (n : ℕ) (ss new_ss : List (Option Found)) (ps new_ps : List (Option (List code_part.Part)))
    (s : Option Found) (p : Option (List code_part.Part)) (xs more all : List StaticObject) → n < length ss
    → s ≡ get_or ss n None → p ≡ get_or ps n None → drop (n + 1) new_ss ≡ drop (n + 1) ss
    → drop (n + 1) new_ps ≡ drop (n + 1) ps → more ≡ xs ++ finished_one s p
    → xs ++ finished (drop n ss) (drop n ps) ≡ all
    → more ++ finished (drop (n + 1) new_ss) (drop (n + 1) new_ps) ≡ all
finished_next n ss new_ss ps new_ps s p xs more all here here_s here_p same_ss same_ps longer so_far =
    let next : n + 1 ≡ suc n = omega arith in
    let rest = finished (drop (suc n) ss) (drop (suc n) ps) in
    ap (λ z. z ++ finished (drop (n + 1) new_ss) (drop (n + 1) new_ps)) longer
    ∙ ap (λ z. (xs ++ finished_one s p) ++ finished z (drop (n + 1) new_ps)) same_ss
    ∙ ap (λ z. (xs ++ finished_one s p) ++ finished (drop (n + 1) ss) z) same_ps
    ∙ ap (λ k. (xs ++ finished_one s p) ++ finished (drop k ss) (drop k ps)) next
    ∙ append_assoc xs (finished_one s p) rest
    ∙ ap (λ z. xs ++ (finished_one z p ++ rest)) here_s
    ∙ ap (λ z. xs ++ (finished_one (get_or ss n None) z ++ rest)) here_p
    ∙ ap (λ z. xs ++ z) (sym (one_finished_more n ss ps here)) ∙ so_far

pub finished_end : (n : ℕ) (ss : List (Option Found)) (ps : List (Option (List code_part.Part)))
    (xs all : List StaticObject) → length ss ≤ n → xs ++ finished (drop n ss) ps ≡ all → xs ≡ all
unfolding finished
finished_end n [] ps xs all past e =
    sym (append-nil xs) ∙ ap (λ z. xs ++ finished z ps) (sym (drop_all n [] past)) ∙ e
finished_end n (s ∷ ss) ps xs all past e =
    sym (append-nil xs) ∙ ap (λ z. xs ++ finished z ps) (sym (drop_all n (s ∷ ss) past)) ∙ e

literals_are : (is : List (ℕ × List Part)) (ls : List code_literal.Literal)
    → map (object_in is) (map found_literal ls) ≡ map literal_object (map literal_of ls)
literals_are is [] = refl
literals_are is (l ∷ ls) = ap (λ z. literal_object (literal_of l) ∷ z) (literals_are is ls)

statics_are : (is : List (ℕ × List Part)) (os : List code_static.LocalStatic)
    → map (object_in is) (map found_static os) ≡ map local_static_of os
statics_are is [] = refl
statics_are is (o ∷ os) = ap (λ z. local_static_of o ∷ z) (statics_are is os)

initializers_are : (is : List code_initializer.LinkedInitializer)
    → map parts_in (map found_initializer is) ≡ map linked_initializer_of is
initializers_are [] = refl
initializers_are (i ∷ is) = ap (λ z. linked_initializer_of i ∷ z) (initializers_are is)

pub all_in_order : (es : List (Option TypeExtent)) (count : ℕ) (is : List code_initializer.LinkedInitializer)
    (ls : List code_literal.Literal) (os : List code_static.LocalStatic) (entities : List Entity)
    (o0 o1 o2 o3 : List (Option Found)) (p0 p1 : List (Option (List code_part.Part))) (all : List StaticObject)
    → p0 ≡ replicate count None → p1 ≡ all_placed (map found_initializer is) p0 → o0 ≡ replicate count None
    → o1 ≡ all_placed (map found_literal ls) o0 → o2 ≡ all_placed (map found_static os) o1
    → o3 ≡ with_entities es entities o2 → all ≡ finished o3 p1
    → all ≡ in_order 0 count (map literal_object (map literal_of ls) ++ map local_static_of os
    ++ linked_among es (map linked_initializer_of is) entities)
all_in_order es count is ls os entities o0 o1 o2 o3 p0 p1 all no_parts parts no_objects literals statics linked e =
    let js = map linked_initializer_of is in
    let xs = map literal_object (map literal_of ls) in
    let ys = map local_static_of os in
    let cs = linked_among es js entities in
    let none : List (Option (List code_part.Part)) = replicate count None in
    let size : length o3 ≡ count =
    ap length linked ∙ entities_as_long es entities o2 ∙ ap length statics ∙ all_as_long (map found_static os) o1
    ∙ ap length literals ∙ all_as_long (map found_literal ls) o0 ∙ ap length no_objects
    ∙ length-replicate count None in
    let table : parts_filled 0 p1 [] ≡ parts_filled 0 (replicate (length o3) None) js =
    ap (λ z. parts_filled 0 z []) parts ∙ parts_filled_all (map found_initializer is) p0 []
    ∙ ap (λ z. parts_filled 0 z (map parts_in (map found_initializer is) ++ [])) no_parts
    ∙ ap (λ z. parts_filled 0 none z) (append-nil (map parts_in (map found_initializer is)) ∙ initializers_are is)
    ∙ ap (λ k. parts_filled 0 (replicate k None) js) (sym size) in
    let order : xs ++ (ys ++ (cs ++ [])) ≡ xs ++ ys ++ cs =
    ap (λ z. xs ++ (ys ++ z)) (append-nil cs) ∙ sym (append_assoc xs ys cs) in
    e ∙ all_finished js 0 o3 p1 table
    ∙ ap (λ z. filled js 0 z []) linked ∙ filled_entities es js entities o2 []
    ∙ ap (λ z. filled js 0 z (cs ++ [])) statics ∙ filled_all js (map found_static os) o1 (cs ++ [])
    ∙ ap (λ z. filled js 0 o1 (z ++ (cs ++ []))) (statics_are js os)
    ∙ ap (λ z. filled js 0 z (ys ++ (cs ++ []))) literals
    ∙ filled_all js (map found_literal ls) o0 (ys ++ (cs ++ []))
    ∙ ap (λ z. filled js 0 o0 (z ++ (ys ++ (cs ++ [])))) (literals_are js ls)
    ∙ ap (λ z. filled js 0 z (xs ++ (ys ++ (cs ++ [])))) no_objects
    ∙ none_filled js 0 count (xs ++ (ys ++ (cs ++ []))) ∙ ap (λ z. in_order 0 count z) order
