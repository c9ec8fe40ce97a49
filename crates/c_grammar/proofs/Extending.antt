-- A loop that reads a list: what has come, and what the reader of the rest gives.
use Rattle.std.proofs.Common.{◌≡◌, ℕ, suc, max, true, false, List, [], ◌∷◌, ◌++◌, map, Ok, Err, Option, Some, None}
use Rattle.std.proofs.Common.{refl, sym, ap, ◌∙◌, arith}
use Rattle.c_lexer.specs.declared.punctuator.Punctuator.TheVariants as p
use Rattle.c_syntax.specs.declared.position.Position.{Position}
use Rattle.c_syntax.specs.View.{behind_comma}
use Rattle.c_syntax.specs.Words.{Words, punctuator}
use Rattle.c_grammar.specs.Reads.{Fails}
use Rattle.c_grammar.specs.declared.cursor.Fault.{Fault}
use Rattle.c_grammar.specs.declared.cursor.Fault.TheVariants.{Memory, Refused}
use Rattle.c_grammar.proofs.Facts.{same}
use Rattle.c_grammar.proofs.Lists as l
use Rattle.c_grammar.specs.Reader.{Outcome, Reader, ◌>>=◌, next_is_punctuator, behind_commas, behind_commas_to_brace}
use Rattle.c_grammar.specs.Reader.{up_to_brace}

-- these elements, and then what is read
abbrev pub extending : {A : Type 0} → List A → Outcome (List A) → Outcome (List A)
extending xs o = o >>= λ z i. Ok (xs ++ z, i)

pub append_none : {A : Type 0} (xs : List A) → xs ++ [] ≡ xs
append_none [] = refl
append_none (x ∷ xs) = ap (λ z. x ∷ z) (append_none xs)

pub append_one : {A : Type 0} (xs : List A) (x : A) (z : List A) → (xs ++ x ∷ []) ++ z ≡ xs ++ x ∷ z
append_one [] x z = refl
append_one (y ∷ xs) x z = ap (λ z. y ∷ z) (append_one xs x z)

pub map_one : {A B : Type 0} (f : A → B) (xs : List A) (x : A) → map f (xs ++ x ∷ []) ≡ map f xs ++ f x ∷ []
map_one f [] x = refl
map_one f (y ∷ xs) x = ap (λ z. f y ∷ z) (map_one f xs x)

-- no element comes any more
pub extended : {A : Type 0} (xs : List A) (i : Words) → extending xs (Ok ([], i)) ≡ Ok (xs, i)
extended xs i = ap (λ z. Ok (z, i)) (append_none xs)

-- one more element
pub extending_one : {A : Type 0} (xs : List A) (x : A) (o : Outcome (List A))
    → extending xs (o >>= λ z i. Ok (x ∷ z, i)) ≡ extending (xs ++ x ∷ []) o
extending_one xs x (Ok z) = ap (λ y. Ok (y, z.1)) (sym (append_one xs x z.0))
extending_one xs x (Err e) = refl

-- one more element of the code's list, behind its comma
pub comma_turn : {A B : Type 0} (view : A → B) (element : Reader B) (n : ℕ) (xs : List (Position × A)) (x : A)
    (tokens : Words) (at : Position) (i new : Words)
    → tokens ≡ punctuator p.Comma at ∷ i → element i ≡ Ok (view x, new)
    → extending (map (behind_comma view) xs) (behind_commas element (suc n) tokens)
    ≡ extending (map (behind_comma view) (xs ++ (at, x) ∷ [])) (behind_commas element n new)
unfolding behind_commas
comma_turn view element n xs x tokens at i new start one =
    ap (λ i. extending (map (behind_comma view) xs) (behind_commas element (suc n) i)) start
    ∙ rw (same p.Comma, one) (rw (map_one (behind_comma view) xs (at, x))
    (extending_one (map (behind_comma view) xs) (at, view x) (behind_commas element n new)))

-- behind a comma there is no element
pub comma_fails : {B : Type 0} (element : Reader B) (n : ℕ) (xs : List (Position × B)) (tokens : Words) (at : Position)
    (i new : Words) (o : Outcome (List (Position × B))) (e : Fault)
    → o ≡ extending xs (behind_commas element (suc n) tokens) → tokens ≡ punctuator p.Comma at ∷ i
    → Fails (element i) e new → Fails o e new
unfolding behind_commas
comma_fails element n xs tokens at i new o Memory read start one = tt
comma_fails element n xs tokens at i new o Refused read start one =
    read ∙ ap (λ i. extending xs (behind_commas element (suc n) i)) start ∙ rw (same p.Comma, one) refl

-- no element comes any more, where no comma is next
pub comma_end : {A : Type 0} (element : Reader A) (n : ℕ) (xs : List (Position × A)) (i : Words)
    → next_is_punctuator p.Comma i ≡ false → extending xs (behind_commas element n i) ≡ Ok (xs, i)
comma_end element n xs i none = ap (λ o. extending xs o) (l.comma_end element n i none) ∙ extended xs i

-- no element comes any more, where the count has ended
pub comma_done : {A : Type 0} (element : Reader A) (xs : List (Position × A)) (i : Words)
    → extending xs (behind_commas element 0 i) ≡ Ok (xs, i)
unfolding behind_commas
comma_done element xs i = extended xs i

-- one more element of the code's list, before `}`
pub brace_turn : {A B : Type 0} (view : A → B) (element : Reader B) (n : ℕ) (xs : List A) (x : A) (i new : Words)
    → next_is_punctuator p.RightBrace i ≡ false → element i ≡ Ok (view x, new)
    → extending (map view xs) (up_to_brace element (suc n) i) ≡ extending (map view (xs ++ x ∷ []))
    (up_to_brace element n new)
unfolding up_to_brace
brace_turn view element n xs x i new more one =
    rw (more, one) (rw (map_one view xs x) (extending_one (map view xs) (view x) (up_to_brace element n new)))

-- an element before `}` is refused, and the list is what is read
pub each_fails : {B : Type 0} (element : Reader B) (n : ℕ) (xs : List B) (i new : Words) (o : Outcome (List B))
    (e : Fault) → o ≡ extending xs (up_to_brace element (suc n) i) → next_is_punctuator p.RightBrace i ≡ false
    → Fails (element i) e new → Fails o e new
unfolding up_to_brace
each_fails element n xs i new o Memory read more one = tt
each_fails element n xs i new o Refused read more one = read ∙ rw (more, one) refl

-- no `}` has come when the count has ended, and the list is what is read
pub each_done : {B : Type 0} (element : Reader B) (xs : List B) (i : Words)
    → extending xs (up_to_brace element 0 i) ≡ Err i
unfolding up_to_brace
each_done element xs i = refl

-- an element before `}` is refused
pub brace_fails : {A B : Type 0} (element : Reader A) (n : ℕ) (xs : List A) (i new : Words) (list : List A → B)
    (o : Outcome B) (e : Fault)
    → o ≡ (extending xs (up_to_brace element (suc n) i) >>= λ z i. Ok (list z, i))
    → next_is_punctuator p.RightBrace i ≡ false → Fails (element i) e new → Fails o e new
unfolding up_to_brace
brace_fails element n xs i new list o Memory read more one = tt
brace_fails element n xs i new list o Refused read more one = read ∙ rw (more, one) refl

-- `}` is next
pub brace_end : {A : Type 0} (element : Reader A) (n : ℕ) (xs : List A) (i : Words)
    → next_is_punctuator p.RightBrace i ≡ true → extending xs (up_to_brace element (suc n) i) ≡ Ok (xs, i)
brace_end element n xs i here = ap (λ o. extending xs o) (l.to_brace_end element n i here) ∙ extended xs i

-- no `}` has come when the count has ended
pub brace_done : {A B : Type 0} (element : Reader A) (xs : List A) (i : Words) (list : List A → B)
    → (extending xs (up_to_brace element 0 i) >>= λ z i. Ok (list z, i)) ≡ Err i
unfolding up_to_brace
brace_done element xs i list = refl

-- ---- elements behind commas, and a last comma before `}`

-- these elements, and then what is read
abbrev pub extending_last : {A : Type 0} → List A → Outcome (List A × Option Position)
    → Outcome (List A × Option Position)
extending_last xs o = o >>= λ z i. Ok ((xs ++ z.0, z.1), i)

last_one : {A : Type 0} (xs : List A) (x : A) (o : Outcome (List A × Option Position))
    → extending_last xs (o >>= λ z i. Ok ((x ∷ z.0, z.1), i)) ≡ extending_last (xs ++ x ∷ []) o
last_one xs x (Ok z) = ap (λ y. Ok ((y, z.0.1), z.1)) (sym (append_one xs x z.0.0))
last_one xs x (Err e) = refl

last_extended : {A : Type 0} (xs : List A) (c : Option Position) (i : Words)
    → extending_last xs (Ok (([], c), i)) ≡ Ok ((xs, c), i)
last_extended xs c i = ap (λ z. Ok ((z, c), i)) (append_none xs)

-- one more element of the code's list
pub last_turn : {A B : Type 0} (view : A → B) (element : Reader B) (n : ℕ) (xs : List (Position × A)) (x : A)
    (tokens : Words) (at : Position) (i new : Words)
    → tokens ≡ punctuator p.Comma at ∷ i → next_is_punctuator p.RightBrace i ≡ false → element i ≡ Ok (view x, new)
    → extending_last (map (behind_comma view) xs) (behind_commas_to_brace element (suc n) tokens)
    ≡ extending_last (map (behind_comma view) (xs ++ (at, x) ∷ [])) (behind_commas_to_brace element n new)
unfolding behind_commas_to_brace
last_turn view element n xs x tokens at i new start more one =
    ap (λ i. extending_last (map (behind_comma view) xs) (behind_commas_to_brace element (suc n) i)) start
    ∙ rw (same p.Comma, more, one) (rw (map_one (behind_comma view) xs (at, x))
    (last_one (map (behind_comma view) xs) (at, view x) (behind_commas_to_brace element n new)))

-- behind a comma there is no element
pub last_fails : {B : Type 0} (element : Reader B) (n : ℕ) (xs : List (Position × B)) (tokens : Words) (at : Position)
    (i new : Words) (o : Outcome (List (Position × B) × Option Position)) (e : Fault)
    → o ≡ extending_last xs (behind_commas_to_brace element (suc n) tokens) → tokens ≡ punctuator p.Comma at ∷ i
    → next_is_punctuator p.RightBrace i ≡ false → Fails (element i) e new → Fails o e new
unfolding behind_commas_to_brace
last_fails element n xs tokens at i new o Memory read start more one = tt
last_fails element n xs tokens at i new o Refused read start more one =
    read ∙ ap (λ i. extending_last xs (behind_commas_to_brace element (suc n) i)) start
    ∙ rw (same p.Comma, more, one) refl

-- a last comma
pub last_comma : {B : Type 0} (element : Reader B) (n : ℕ) (xs : List (Position × B)) (tokens : Words) (at : Position)
    (i : Words)
    → tokens ≡ punctuator p.Comma at ∷ i → next_is_punctuator p.RightBrace i ≡ true
    → extending_last xs (behind_commas_to_brace element (suc n) tokens) ≡ Ok ((xs, Some at), i)
last_comma element n xs tokens at i start here =
    ap (λ i. extending_last xs (behind_commas_to_brace element (suc n) i)) start
    ∙ ap (λ o. extending_last xs o) (l.comma_to_brace_last element n at i here) ∙ last_extended xs (Some at) i

-- no last comma
pub last_end : {B : Type 0} (element : Reader B) (n : ℕ) (xs : List (Position × B)) (i : Words)
    → next_is_punctuator p.Comma i ≡ false → extending_last xs (behind_commas_to_brace element n i) ≡ Ok ((xs, None), i)
last_end element n xs i none = ap (λ o. extending_last xs o) (l.comma_to_brace_end element n i none)
    ∙ last_extended xs None i

pub last_done : {B : Type 0} (element : Reader B) (xs : List (Position × B)) (i : Words)
    → extending_last xs (behind_commas_to_brace element 0 i) ≡ Ok ((xs, None), i)
unfolding behind_commas_to_brace
last_done element xs i = last_extended xs None i

-- the elements' greatest number of levels, by any function that is so on lists
module _ {B : Type 0} (levels : B → ℕ) (greatest : List B → ℕ) (none : greatest [] ≡ 0)
    (more : (x : B) (z : List B) → greatest (x ∷ z) ≡ max (levels x) (greatest z)) where
  one_greatest : (z : List B) (x : B) → greatest (z ++ x ∷ []) ≡ max (levels x) (greatest z)
  one_greatest [] x = more x []
  one_greatest (y ∷ z) x = let e = one_greatest z x in let a = more y (z ++ x ∷ []) in let b = more y z in omega arith

  -- those of the code's list with one more element
  pub levels_turn : {A : Type 0} (view : A → B) (xs : List A) (x : A)
      → greatest (map view (xs ++ x ∷ [])) ≡ max (levels (view x)) (greatest (map view xs))
  levels_turn view xs x = rw (map_one view xs x) (one_greatest (map view xs) (view x))
