-- Lists of designators and items that grow at their end, and the two forms of an initializer.
use Rattle.std.proofs.Common.{◌≡◌, ℕ, zero, suc, nat_le, true, false, ◌&&◌, if◌then◌else◌, List, []}
use Rattle.std.proofs.Common.{◌∷◌, ◌++◌, map, length, Ok, Err, refl, sym, ap, ◌∙◌, Option, Some, None}
use Rattle.c_lexer.specs.declared.punctuator.Punctuator.TheVariants as p
use Rattle.c_syntax.specs.declared.position.Position.{Position}
use Rattle.c_syntax.specs.declared.declaration.Designator as rg
use Rattle.c_syntax.specs.Tree.{Designator, Initializer, InitializerItem}
use Rattle.c_syntax.specs.Tree as t
use Rattle.c_syntax.specs.View.{behind_comma}
use Rattle.c_syntax.specs.Words.{Words, punctuator}
use Rattle.c_syntax.specs.StatementsView.{designator_of, designators_in, more_items_of}
use Rattle.c_grammar.specs.Reader.{Outcome, Reader, expect, ◌>>=◌, next_is, next_is_punctuator}
use Rattle.c_grammar.specs.Reader.{behind_commas_to_brace}
use Rattle.c_grammar.specs.Readers.{Readers}
use Rattle.c_grammar.specs.Nested.{readers}
use Rattle.c_grammar.specs.InitializerReader.{begins_designator, designator_from, designators_from, item_from}
use Rattle.c_grammar.specs.InitializerReader.{braced_from, value_from, initializer_at, initializers}
use Rattle.c_grammar.specs.Reads.{Fails}
use Rattle.c_grammar.specs.declared.cursor.Fault.{Fault}
use Rattle.c_grammar.specs.declared.cursor.Fault.TheVariants.{Memory, Refused}
use Rattle.c_grammar.proofs.Extending.{extending, append_none, append_one, extended, extending_one, map_one}
use Rattle.c_grammar.proofs.Facts.{same}

-- one more designator (C99 6.7.8)
pub designator_turn : (deeper : Readers) (n : ℕ) (xs : List rg.Designator) (x : rg.Designator) (i new : Words)
    → next_is begins_designator i ≡ true → designator_from deeper i ≡ Ok (designator_of x, new)
    → extending (designators_in xs) (designators_from deeper (suc n) i)
    ≡ extending (designators_in (xs ++ x ∷ [])) (designators_from deeper n new)
unfolding designators_from
designator_turn deeper n xs x i new more one =
    rw (more, one) (rw (map_one designator_of xs x) (extending_one (map designator_of xs) (designator_of x)
    (designators_from deeper n new)))

-- no designator could be read
pub designator_fails : (deeper : Readers) (n : ℕ) (xs : List Designator) (i new : Words) (o : Outcome (List Designator))
    (e : Fault)
    → o ≡ extending xs (designators_from deeper (suc n) i) → next_is begins_designator i ≡ true
    → Fails (designator_from deeper i) e new → Fails o e new
unfolding designators_from
designator_fails deeper n xs i new o Memory read more one = tt
designator_fails deeper n xs i new o Refused read more one = read ∙ rw (more, one) refl

-- no designator is next
pub designators_end : (deeper : Readers) (n : ℕ) (xs : List Designator) (i : Words)
    → next_is begins_designator i ≡ false → extending xs (designators_from deeper n i) ≡ Ok (xs, i)
unfolding designators_from
designators_end deeper zero xs i none = extended xs i
designators_end deeper (suc n) xs i none = rw none (extended xs i)

-- no more designators are counted
pub designators_done : (deeper : Readers) (xs : List Designator) (i : Words)
    → extending xs (designators_from deeper 0 i) ≡ Ok (xs, i)
unfolding designators_from
designators_done deeper xs i = extended xs i

-- these elements, and then what is read, with its last comma
abbrev pub extending_to_brace : {A : Type 0} → List A → Outcome (List A × Option Position)
    → Outcome (List A × Option Position)
extending_to_brace xs o = o >>= λ z i. Ok ((xs ++ z.0, z.1), i)

-- no element has come
pub to_brace_none : {A : Type 0} (o : Outcome (List A × Option Position)) → extending_to_brace [] o ≡ o
to_brace_none (Ok z) = refl
to_brace_none (Err e) = refl

-- no element comes any more
pub to_brace_extended : {A : Type 0} (xs : List A) (c : Option Position) (i : Words)
    → extending_to_brace xs (Ok (([], c), i)) ≡ Ok ((xs, c), i)
to_brace_extended xs c i = ap (λ z. Ok ((z, c), i)) (append_none xs)

-- one more element
to_brace_one : {A : Type 0} (xs : List A) (x : A) (o : Outcome (List A × Option Position))
    → extending_to_brace xs (o >>= λ z i. Ok ((x ∷ z.0, z.1), i)) ≡ extending_to_brace (xs ++ x ∷ []) o
to_brace_one xs x (Ok z) = ap (λ y. Ok ((y, z.0.1), z.1)) (sym (append_one xs x z.0.0))
to_brace_one xs x (Err e) = refl

-- one more element of the code's list, behind its comma
pub to_brace_turn : {A B : Type 0} (view : A → B) (element : Reader B) (n : ℕ) (xs : List (Position × A)) (x : A)
    (tokens : Words) (at : Position) (i new : Words)
    → tokens ≡ punctuator p.Comma at ∷ i → next_is_punctuator p.RightBrace i ≡ false → element i ≡ Ok (view x, new)
    → extending_to_brace (map (behind_comma view) xs) (behind_commas_to_brace element (suc n) tokens)
    ≡ extending_to_brace (map (behind_comma view) (xs ++ (at, x) ∷ [])) (behind_commas_to_brace element n new)
unfolding behind_commas_to_brace
to_brace_turn view element n xs x tokens at i new start more one =
    ap (λ i. extending_to_brace (map (behind_comma view) xs) (behind_commas_to_brace element (suc n) i)) start
    ∙ rw (same p.Comma, more, one) (rw (map_one (behind_comma view) xs (at, x))
    (to_brace_one (map (behind_comma view) xs) (at, view x) (behind_commas_to_brace element n new)))

-- there is no element behind a comma
pub to_brace_fails : {B : Type 0} (element : Reader B) (n : ℕ) (xs : List (Position × B)) (tokens : Words)
    (at : Position) (i new : Words) (o : Outcome (List (Position × B) × Option Position)) (e : Fault)
    → o ≡ extending_to_brace xs (behind_commas_to_brace element (suc n) tokens)
    → tokens ≡ punctuator p.Comma at ∷ i → next_is_punctuator p.RightBrace i ≡ false → Fails (element i) e new
    → Fails o e new
unfolding behind_commas_to_brace
to_brace_fails element n xs tokens at i new o Memory read start more one = tt
to_brace_fails element n xs tokens at i new o Refused read start more one =
    read ∙ ap (λ i. extending_to_brace xs (behind_commas_to_brace element (suc n) i)) start
    ∙ rw (same p.Comma, more, one) refl

-- the last comma
pub to_brace_last : {B : Type 0} (element : Reader B) (n : ℕ) (xs : List (Position × B)) (tokens : Words)
    (at : Position) (i : Words)
    → tokens ≡ punctuator p.Comma at ∷ i → next_is_punctuator p.RightBrace i ≡ true
    → extending_to_brace xs (behind_commas_to_brace element (suc n) tokens) ≡ Ok ((xs, Some at), i)
unfolding behind_commas_to_brace
to_brace_last element n xs tokens at i start last =
    ap (λ i. extending_to_brace xs (behind_commas_to_brace element (suc n) i)) start
    ∙ rw (same p.Comma, last) (to_brace_extended xs (Some at) i)

-- no comma is next
pub to_brace_end : {B : Type 0} (element : Reader B) (n : ℕ) (xs : List (Position × B)) (i : Words)
    → next_is_punctuator p.Comma i ≡ false
    → extending_to_brace xs (behind_commas_to_brace element n i) ≡ Ok ((xs, None), i)
unfolding behind_commas_to_brace
to_brace_end element zero xs i none = to_brace_extended xs None i
to_brace_end element (suc n) xs [] none = to_brace_extended xs None []
to_brace_end element (suc n) xs (first ∷ i) none = rw none (to_brace_extended xs None (first ∷ i))

-- no more elements are counted
pub to_brace_done : {B : Type 0} (element : Reader B) (xs : List (Position × B)) (i : Words)
    → extending_to_brace xs (behind_commas_to_brace element 0 i) ≡ Ok ((xs, None), i)
unfolding behind_commas_to_brace
to_brace_done element xs i = to_brace_extended xs None i

at_braced : (names : List (List ℕ)) (deeper : Reader Initializer) (m : ℕ) (i : Words)
    → next_is_punctuator p.LeftBrace i && nat_le 1 m ≡ true
    → initializer_at names deeper m i ≡ braced_from (item_from (readers names m) deeper) i
unfolding initializer_at
at_braced names deeper m i h = ap (λ b. if b then braced_from (item_from (readers names m) deeper) i else value_from
    (readers names (suc m)) i) h

at_value : (names : List (List ℕ)) (deeper : Reader Initializer) (m : ℕ) (i : Words)
    → next_is_punctuator p.LeftBrace i && nat_le 1 m ≡ false
    → initializer_at names deeper m i ≡ value_from (readers names (suc m)) i
unfolding initializer_at
at_value names deeper m i h = ap (λ b. if b then braced_from (item_from (readers names m) deeper) i else value_from
    (readers names (suc m)) i) h

-- an initializer in braces
pub braced_is : (names : List (List ℕ)) (n m : ℕ) (i : Words) → suc m ≡ n
    → next_is_punctuator p.LeftBrace i && nat_le 1 m ≡ true
    → braced_from (item_from (readers names m) (initializers names m)) i ≡ initializers names n i
unfolding initializers
braced_is names n m i e h = sym (at_braced names (initializers names m) m i h) ∙ ap (λ n. initializers names n i) e

-- an expression as an initializer
pub value_is : (names : List (List ℕ)) (n m : ℕ) (i : Words) → suc m ≡ n
    → next_is_punctuator p.LeftBrace i && nat_le 1 m ≡ false
    → value_from (readers names n) i ≡ initializers names n i
unfolding initializers
value_is names n m i e h = ap (λ n. value_from (readers names n) i) (sym e)
    ∙ sym (at_value names (initializers names m) m i h) ∙ ap (λ n. initializers names n i) e

-- items between braces (C99 6.7.8)
pub braced_read : (item : Reader InitializerItem) (i i1 i2 i3 i4 : Words) (l r : Position) (x : InitializerItem)
    (m : List (Position × InitializerItem) × Option Position)
    → expect p.LeftBrace i ≡ Ok (l, i1) → item i1 ≡ Ok (x, i2) → behind_commas_to_brace item (length i2) i2 ≡ Ok (m, i3)
    → expect p.RightBrace i3 ≡ Ok (r, i4)
    → braced_from item i ≡ Ok (t.braced l x (more_items_of m.0) m.1 r, i4)
unfolding braced_from
braced_read item i i1 i2 i3 i4 l r x m left one others right = rw (left, one, others, right) refl
