-- Each virtual register has a home of its own, within the activation record.
use Rattle.std.proofs.Common.{◌≡◌, ◌⊎◌, ⊎_elim, inl, inr, ℕ, zero, suc, ◌+◌, ◌*◌, ◌<◌, ◌≤◌, refl, sym, ◌∙◌, subst, arith}
use Rattle.std.proofs.Common.{Bool, true, false, List, [], ◌∷◌, ◌++◌, get_or, length, length-append, Some}
use Rattle.std.specs.Prelude.{slice_get, if◌then◌else◌}
use Rattle.std.proofs.lemmas.Bool.{cases_lt}
use Rattle.std.proofs.lemmas.Option.{slice_get-get_or, slice_get_within}
use Rattle.obj_memory.specs.declared.value.Scalar.TheVariants.{Integer, Pointer}
use Rattle.c_tree.specs.declared.expression.Kind.{Kind}
use Rattle.c_tree.specs.declared.expression.Kind.TheVariants.{Void, Scalar as OfScalar, Structure, Array}
use Rattle.c_tree.specs.declared.program.Variable.{Variable}
use Rattle.tac_ir.specs.declared.function.CodeFunction.{CodeFunction}
use Rattle.runtime_functions.specs.Library as handed
use Rattle.metadata_plan.specs.Registers.{most_temporaries, words_of}
use Rattle.metadata_plan.proofs.Numbers.{most_words_of}
use Rattle.metadata_relation.specs.Registers.{passed_as, parameter_words, variable_words, home_words, moved_register}
use Rattle.metadata_relation.specs.Registers.{total}
use Rattle.metadata_relation.specs.Homes.{HasRoom, register_count, homes, words_from}
use Rattle.metadata_relation.proofs.Laid.{in_front, last_at}

-- ---- the list

words_length : (w n : ℕ) → length (words_from w n) ≡ n
words_length w zero = refl
words_length w (suc n) =
    let long = length-append (words_from w n) ((w + n) ∷ []) in
    let rest = words_length w n in
    omega (arith, long, rest)

words_at : (w n r : ℕ) → r < n → slice_get (words_from w n) r ≡ Some (w + r)
words_at w zero r lt = absurd (omega (arith, lt))
words_at w (suc n) r lt =
    ⊎_elim (λ low. in_front (words_from w n) ((w + n) ∷ []) r (w + r) (words_at w n r low))
    (λ le.
    let same : n ≡ r = omega (arith, lt, le) in
    subst (λ k. slice_get (words_from w n ++ ((w + n) ∷ [])) k ≡ Some (w + k)) same
    (subst (λ k. slice_get (words_from w n ++ ((w + n) ∷ [])) k ≡ Some (w + n)) (words_length w n)
    (last_at (words_from w n) (w + n))))
    (cases_lt r n)

same_word : (a b : ℕ) → Some a ≡ Some b → a ≡ b
same_word a b e = cc

words_in : (w n r h : ℕ) → slice_get (words_from w n) r ≡ Some h → (r < n) × (h ≡ w + r)
words_in w n r h e =
    let inside = slice_get_within (words_from w n) r h e in
    let long = words_length w n in
    let lt : r < n = omega (arith, inside, long) in
    (lt, same_word h (w + r) (sym e ∙ words_at w n r lt))

-- an item of two lists one behind the other is one of the first, or one of the second
of_both : (xs ys : List ℕ) (r h : ℕ) → slice_get (xs ++ ys) r ≡ Some h
    → (slice_get xs r ≡ Some h) ⊎ ((k : ℕ) × ((r ≡ length xs + k) × (slice_get ys k ≡ Some h)))
of_both [] ys r h e = inr (r, (omega arith, e))
of_both (x ∷ xs) ys zero h e = inl e
of_both (x ∷ xs) ys (suc r) h e =
    ⊎_elim (λ a. inl a) (λ b. let place = b.1.0 in inr (b.0, (omega (arith, place), b.1.1))) (of_both xs ys r h e)

-- a register behind so many others, and behind those of some arguments, has its home
abbrev IsHomeOf : (others moved register home : ℕ) → Type 0
IsHomeOf n m r h =
    ((r < n) × (h ≡ 16 + m + r)) ⊎ (((n ≤ r) × ((r < n + m) × (h + n ≡ 16 + r)))
    ⊎ ((n + m ≤ r) × ((r < n + m + 16) × (h + n + m ≡ r))))

home_of : (n m r h : ℕ)
    → slice_get (words_from (16 + m) n ++ (words_from 16 m ++ words_from 0 16)) r ≡ Some h → IsHomeOf n m r h
home_of n m r h e =
    ⊎_elim (λ a. (let t = words_in (16 + m) n r h a in inl t))
    (λ b.
    let place = b.1.0 in
    let count = words_length (16 + m) n in
    ⊎_elim
    (λ a.
    let t = words_in 16 m b.0 h a in
    let low = t.0 in
    let is = t.1 in
    inr (inl (omega arith, (omega arith, omega arith))))
    (λ d.
    let further = d.1.0 in
    let more = words_length 16 m in
    let t = words_in 0 16 d.0 h d.1.1 in
    let low = t.0 in
    let is = t.1 in
    inr (inr (omega arith, (omega arith, omega arith))))
    (of_both (words_from 16 m) (words_from 0 16) b.0 h b.1.1))
    (of_both (words_from (16 + m) n) (words_from 16 m ++ words_from 0 16) r h e)

one_register : (n m r q h : ℕ) → IsHomeOf n m r h → IsHomeOf n m q h → r ≡ q
one_register n m r q h (inl a) (inl b) = (let x = a.1 in let y = b.1 in omega arith)
one_register n m r q h (inl a) (inr (inl b)) =
    (let x = a.1 in let y = b.1.1 in let z = b.1.0 in absurd (omega arith))
one_register n m r q h (inl a) (inr (inr b)) =
    (let x = a.1 in let y = b.1.1 in let z = b.1.0 in absurd (omega arith))
one_register n m r q h (inr (inl a)) (inl b) =
    (let x = b.1 in let y = a.1.1 in let z = a.1.0 in absurd (omega arith))
one_register n m r q h (inr (inl a)) (inr (inl b)) = (let x = a.1.1 in let y = b.1.1 in omega arith)
one_register n m r q h (inr (inl a)) (inr (inr b)) =
    (let x = a.1.1 in let y = b.1.1 in let z = b.1.0 in let low = a.0 in absurd (omega arith))
one_register n m r q h (inr (inr a)) (inl b) =
    (let x = b.1 in let y = a.1.1 in let z = a.1.0 in absurd (omega arith))
one_register n m r q h (inr (inr a)) (inr (inl b)) =
    (let x = a.1.1 in let y = b.1.1 in let z = a.1.0 in let low = b.0 in absurd (omega arith))
one_register n m r q h (inr (inr a)) (inr (inr b)) = (let x = a.1.1 in let y = b.1.1 in omega arith)

low_home : (n m r h : ℕ) → IsHomeOf n m r h → h < n + m + 16
low_home n m r h (inl a) = (let low = a.0 in let is = a.1 in omega arith)
low_home n m r h (inr (inl a)) = (let low = a.1.0 in let is = a.1.1 in omega arith)
low_home n m r h (inr (inr a)) = (let low = a.1.0 in let is = a.1.1 in omega arith)

pub homes_count : (c : CodeFunction) → length (homes c) ≡ register_count c
homes_count c =
    let m = 5 * most_temporaries c.code in
    let n = moved_register c 0 in
    let all = length-append (words_from (16 + m) n) (words_from 16 m ++ words_from 0 16) in
    let rest = length-append (words_from 16 m) (words_from 0 16) in
    let one = words_length (16 + m) n in
    let two = words_length 16 m in
    omega arith

pub homes_apart : (c : CodeFunction) (r q h : ℕ) → slice_get (homes c) r ≡ Some h → slice_get (homes c) q ≡ Some h
    → r ≡ q
homes_apart c r q h a b =
    let m = 5 * most_temporaries c.code in
    let n = moved_register c 0 in
    one_register n m r q h (home_of n m r h a) (home_of n m q h b)

-- ---- how many registers there are

parameter_few : (k : Kind) → handed.register_count (passed_as k) ≤ 5
parameter_few Void = omega arith
parameter_few (OfScalar (Integer t)) = omega arith
parameter_few (OfScalar Pointer) = omega arith
parameter_few (Structure n) = omega arith
parameter_few (Array n) = omega arith

home_few : (b : Bool) → (if b then 5 else 0) ≤ 5
home_few true = omega arith
home_few false = omega arith

-- a variable has registers for its value, or for its home
one_few : (b : Bool) (words : ℕ) → words ≤ 5 → (if b then 0 else words) + (if b then 5 else 0) ≤ 5
one_few true words few = omega arith
one_few false words few = omega (arith, few)

parameters_few : (vs : List Variable) → total parameter_words vs ≤ 5 * length vs
parameters_few [] = omega arith
parameters_few (v ∷ vs) =
    let own = parameter_few v.kind in
    let rest = parameters_few vs in
    omega (arith, own, rest)

homes_few : (vs : List Variable) → total home_words vs ≤ 5 * length vs
homes_few [] = omega arith
homes_few (v ∷ vs) =
    let own = home_few v.is_object in
    let rest = homes_few vs in
    omega (arith, own, rest)

variables_few : (vs : List Variable) → total variable_words vs + total home_words vs ≤ 5 * length vs
variables_few [] = omega arith
variables_few (v ∷ vs) =
    let own = one_few v.is_object (words_of v.kind) (most_words_of v.kind) in
    let rest = variables_few vs in
    omega (arith, own, rest)

total_append : (words : Variable → ℕ) (vs ws : List Variable) → total words (vs ++ ws) ≡ total words vs + total words ws
total_append words [] ws = omega arith
total_append words (v ∷ vs) ws = let rest = total_append words vs ws in omega (arith, rest)

registers_fit : (c : CodeFunction) (height : ℕ) → HasRoom height c → 8 * register_count c + 16 ≤ 2 * c.room
registers_fit c height h =
    let parameters = parameters_few c.parameters in
    let objects = homes_few c.parameters in
    let others = variables_few c.variables in
    let both = total_append home_words c.parameters c.variables in
    let temporaries = h.temporaries in
    let room = h.room in
    omega (arith, parameters, objects, others, both, temporaries, room)

-- each register has a home inside
pub homes_fit : (c : CodeFunction) (height : ℕ) → HasRoom height c → (r : ℕ) → r < register_count c
    → (h : ℕ) × ((slice_get (homes c) r ≡ Some h) × (8 * h + 16 ≤ 2 * c.room))
homes_fit c height room r lt =
    let h = get_or (homes c) r 0 in
    let count = homes_count c in
    let m = 5 * most_temporaries c.code in
    let n = moved_register c 0 in
    let is : slice_get (homes c) r ≡ Some h = slice_get-get_or (homes c) r 0 (omega arith) in
    let low = low_home n m r h (home_of n m r h is) in
    let fit = registers_fit c height room in
    (h, (is, omega arith))
