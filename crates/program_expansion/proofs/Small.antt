-- Bytes of variables, and objects among them.
use Rattle.std.proofs.Common.{◌≡◌, ℕ, zero, suc, ◌+◌, ◌^◌, ◌<◌, ◌≤◌, nat_lt, Bool, true, false, if◌then◌else◌, List, []}
use Rattle.std.proofs.Common.{◌∷◌, ◌++◌, map, length, Some, slice_get, refl, sym, ap, ◌∙◌, subst, arith}
use Rattle.std.proofs.lemmas.Bool.{false≢true, ltb-true, ltb-false}
use Rattle.std.proofs.lemmas.Option.{same_Some}
use Rattle.obj_memory.specs.Heap.{rounded_up}
use Rattle.c_tree.specs.declared.program.Variable.{Variable}
use Rattle.c_tree.specs.Blocks.{closed, is_among, no_variable, opened}
use Rattle.c_tree.specs.Kinds.{size_of_kind}
use Rattle.c_tree.specs.Valid.{at_number}
use Rattle.source_meaning.specs.Blocks.{objects_end}
use Rattle.tac_ir.specs.declared.function.CodeFunction.{CodeFunction}
use Rattle.lib_wrappers.specs.AllocatingRoutines.Entering.{block_bytes}
use Rattle.metadata_plan.specs.Registers.{most_temporaries}
use Rattle.metadata_relation.specs.Registers.{parameter_words, total}
use Rattle.instruction_selection.specs.Blocks.{AreObjectsAmong}
use Rattle.instruction_selection.specs.Registers.{HasFewRegisters}
use Rattle.program_expansion.specs.Limits.{HaveObjectsOf, padded_size}

pub total_append : (words : Variable → ℕ) (vs ws : List Variable) → total words (vs ++ ws) ≡ total words vs + total words ws
total_append words [] ws = omega arith
total_append words (v ∷ vs) ws = let rest = total_append words vs ws in omega (arith, rest)

-- ---- registers

-- the words of arguments are among the registers, and so are those of temporaries
pub parameters_few : (c : CodeFunction) → HasFewRegisters c → total parameter_words c.parameters < 2 ^ 31
parameters_few c few = omega (arith, few)

pub temporaries_few : (c : CodeFunction) → HasFewRegisters c → most_temporaries c.code < 2 ^ 31
temporaries_few c few = omega (arith, few)

-- ---- bytes

pub end_few : (vs : List Variable) (top : ℕ) → objects_end vs top ≤ top + total padded_size vs
end_few [] top = omega arith
end_few (v ∷ vs) top = by v.is_object (λ next. end_few vs next)
  where
    by : (b : Bool) → ((next : ℕ) → objects_end vs next ≤ next + total padded_size vs)
        → objects_end vs (if b then rounded_up 16 top + size_of_kind v.kind else top)
        ≤ top + (size_of_kind v.kind + 15 + total padded_size vs)
    by true behind = let rest = behind (rounded_up 16 top + size_of_kind v.kind) in omega (arith, rest)
    by false behind = let rest = behind top in omega (arith, rest)

pub bytes_few : (vs : List Variable) → total padded_size vs ≤ 2 ^ 62 → block_bytes vs ≤ 2 ^ 62
bytes_few vs few = let end = end_few vs 0 in omega (arith, end, few)

closed_few : (v : Variable) → padded_size (closed v) ≤ padded_size v
closed_few v = by v.is_object
  where
    by : (b : Bool) → padded_size (if b then no_variable else v) ≤ padded_size v
    by true = omega arith
    by false = omega arith

pub opened_few : (ns : List ℕ) (x : ℕ) (ds : List Variable)
    → total padded_size (opened ns x ds (map closed ds)) ≤ total padded_size ds
opened_few ns x [] = omega arith
opened_few ns x (d ∷ ds) = by (is_among ns x) (opened_few ns (suc x) ds)
  where
    by : (b : Bool) → total padded_size (opened ns (suc x) ds (map closed ds)) ≤ total padded_size ds
        → padded_size (if b then d else closed d) + total padded_size (opened ns (suc x) ds (map closed ds))
        ≤ padded_size d + total padded_size ds
    by true rest = omega (arith, rest)
    by false rest = let less = closed_few d in omega (arith, rest, less)

pub size_few : (vs : List Variable) (x : ℕ) → size_of_kind (at_number vs x).kind ≤ total padded_size vs
size_few [] x = omega arith
size_few (v ∷ vs) zero = omega arith
size_few (v ∷ vs) (suc x) = let rest = size_few vs x in omega (arith, rest)

pub length_few : (vs : List Variable) → length vs ≤ total padded_size vs
length_few [] = omega arith
length_few (v ∷ vs) = let rest = length_few vs in omega (arith, rest)

-- ---- objects

objects_are : (all ds : List Variable) → HaveObjectsOf all ds → AreObjectsAmong all ds
objects_are all [] h = tt
objects_are [] (v ∷ vs) h = (none v.is_object (h 0), objects_are [] vs (λ x e. h (suc x) e))
  where
    none : (b : Bool) → (b ≡ true → false ≡ true) → b ≡ false
    none true h = absurd (false≢true (h refl))
    none false h = refl
objects_are (a ∷ all) (v ∷ vs) h = (h 0, objects_are all vs (λ x e. h (suc x) e))

pub objects_among : (ps all ds : List Variable) → HaveObjectsOf all ds → AreObjectsAmong (ps ++ all) (ps ++ ds)
objects_among [] all ds h = objects_are all ds h
objects_among (p ∷ ps) all ds h = ((λ e. e), objects_among ps all ds h)

past : (vs : List Variable) (x : ℕ) → length vs ≤ x → (at_number vs x).is_object ≡ false
past [] x le = refl
past (v ∷ vs) zero le = absurd (omega (arith, le))
past (v ∷ vs) (suc x) le = past vs x (omega (arith, le))

-- so far, with one more, and all
pub one_more_object : (all ds : List Variable) (n : ℕ)
    → ((x : ℕ) → x < n → (at_number ds x).is_object ≡ true → (at_number all x).is_object ≡ true)
    → ((at_number ds n).is_object ≡ true → (at_number all n).is_object ≡ true) → (x : ℕ) → x < n + 1
    → (at_number ds x).is_object ≡ true → (at_number all x).is_object ≡ true
one_more_object all ds n before here x low = by (nat_lt x n) refl
  where
    by : (b : Bool) → nat_lt x n ≡ b → (at_number ds x).is_object ≡ true → (at_number all x).is_object ≡ true
    by true lt = before x (ltb-true x n lt)
    by false ge =
        let le = ltb-false x n ge in
        let same : n ≡ x = omega (arith, le, low) in
        subst (λ z. (at_number ds z).is_object ≡ true → (at_number all z).is_object ≡ true) same here

pub all_objects : (all ds : List Variable) (n : ℕ)
    → ((x : ℕ) → x < n → (at_number ds x).is_object ≡ true → (at_number all x).is_object ≡ true) → length ds ≤ n
    → HaveObjectsOf all ds
all_objects all ds n before le x = by (nat_lt x n) refl
  where
    by : (b : Bool) → nat_lt x n ≡ b → (at_number ds x).is_object ≡ true → (at_number all x).is_object ≡ true
    by true lt = before x (ltb-true x n lt)
    by false ge =
        let past_n = ltb-false x n ge in
        λ e. absurd (false≢true (sym (past ds x (omega (arith, past_n, le))) ∙ e))

-- ---- functions

pub one_more_function : (P : CodeFunction → Type 0) (cs : List CodeFunction) (n : ℕ) (c : CodeFunction)
    → ((u : ℕ) (d : CodeFunction) → u < n → slice_get cs u ≡ Some d → P d) → slice_get cs n ≡ Some c → P c → (u : ℕ)
    (d : CodeFunction) → u < n + 1 → slice_get cs u ≡ Some d → P d
one_more_function P cs n c before e one u d below here = by (nat_lt u n) refl
  where
    by : (b : Bool) → nat_lt u n ≡ b → P d
    by true lt = before u d (ltb-true u n lt) here
    by false ge =
        let le = ltb-false u n ge in
        let same : u ≡ n = omega (arith, le, below) in
        let both : Some c ≡ Some d = sym e ∙ (ap (slice_get cs) (sym same) ∙ here) in
        subst P (same_Some _ _ both) one

in_range : (cs : List CodeFunction) (u : ℕ) (c : CodeFunction) → slice_get cs u ≡ Some c → u < length cs
in_range [] u c e = cc
in_range (x ∷ cs) zero c e = omega arith
in_range (x ∷ cs) (suc u) c e = let rest = in_range cs u c e in omega (arith, rest)

pub all_functions : (P : CodeFunction → Type 0) (cs : List CodeFunction) (n : ℕ)
    → ((u : ℕ) (d : CodeFunction) → u < n → slice_get cs u ≡ Some d → P d) → length cs ≤ n → (u : ℕ) (d : CodeFunction)
    → slice_get cs u ≡ Some d → P d
all_functions P cs n before le u d here =
    let low = in_range cs u d here in before u d (omega (arith, low, le)) here

-- ---- bodies

pub behind_nothing : {A : Type 0} (before now added : List A) → before ≡ [] → now ≡ before ++ added → now ≡ added
behind_nothing before now added none put = put ∙ ap (λ xs. xs ++ added) none

pub is_long : (short : Bool) (size : ℕ) → short ≡ false → (size < 2 ^ 31 → short ≡ true) → 2 ^ 31 ≤ size
is_long short size not_short tells = by (nat_lt size (2 ^ 31)) refl
  where
    by : (b : Bool) → nat_lt size (2 ^ 31) ≡ b → 2 ^ 31 ≤ size
    by true lt = absurd (false≢true (sym not_short ∙ tells (ltb-true size (2 ^ 31) lt)))
    by false ge = ltb-false size (2 ^ 31) ge
