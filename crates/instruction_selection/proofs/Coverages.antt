-- The test says yes only where a program is covered, and so it does where it is covered without contents.
use Rattle.std.proofs.Common.{◌≡◌, ℕ, zero, suc, ◌+◌, Bool, true, false, List, [], ◌∷◌, map, drop, Option, Some, None}
use Rattle.std.proofs.Common.{refl, sym, ap, ◌∙◌, subst, true≢false}
use Rattle.std.specs.Prelude.{not, ◌||◌, ◌==◌, slice_get}
use Rattle.std.specs.List.{list_all}
use Rattle.std.proofs.lemmas.Bool.{and_parts, and_from, or_right}
use Rattle.std.proofs.lemmas.List.{drop_more}
use Rattle.std.proofs.lemmas.Option.{get_or_from_slice_get, none-some, same_Some, slice_get_within}
use Rattle.c_tree.specs.declared.expression.Kind.{Kind}
use Rattle.c_tree.specs.declared.expression.Kind.TheVariants.{Void, Scalar as OfScalar, Structure, Array}
use Rattle.tac_ir.specs.declared.instruction.Instruction.{Instruction}
use Rattle.tac_ir.specs.declared.instruction.Instruction.TheVariants as tac
use Rattle.tac_ir.specs.declared.function.CodeFunction.{CodeFunction}
use Rattle.tac_ir.specs.declared.function.Tac.{Tac}
use Rattle.tac_ir.specs.Meaning.{function_in}
use Rattle.tac_ir.specs.Structures.{result_of_type}
use Rattle.metadata_relation.specs.Blocks.{result_of}
use Rattle.metadata_relation.specs.Contents.{AreKept, Contents}
use Rattle.metadata_relation.specs.Stages.{Compiled}
use Rattle.metadata_relation.specs.Steps.{covers, admits, is_covered_call, are_covered_calls, is_covered_main}
use Rattle.metadata_relation.specs.Steps.{comes_to, result_comes_to, is_covered_return, AreAllCovered}
use Rattle.instruction_selection.specs.Covered.{ProgramContents, none_at, no_contents, admits_with, IsCoveredCode}
use Rattle.instruction_selection.specs.Covered.{IsCoveredProgram, IsCoveredFunction, AreCoveredFunctions, is_covered_in}
use Rattle.instruction_selection.specs.Covered.{is_covered_with, is_covered_without, is_callable, callable_functions}

-- ---- tests of all of a list

all_at : {A : Type 0} (p : A → Bool) (xs : List A) (k : ℕ) (x : A) → list_all p xs ≡ true → slice_get xs k ≡ Some x
    → p x ≡ true
all_at p [] k x all at = cc
all_at p (y ∷ ys) zero x all at =
    let e : y ≡ x = cc in subst (λ z. p z ≡ true) e ((and_parts (p y) (list_all p ys) all).0)
all_at p (y ∷ ys) (suc k) x all at = all_at p ys k x ((and_parts (p y) (list_all p ys) all).1) at

all_from : {A : Type 0} (p : A → Bool) (xs : List A)
    → ((k : ℕ) (x : A) → slice_get xs k ≡ Some x → p x ≡ true) → list_all p xs ≡ true
all_from p [] each = refl
all_from p (y ∷ ys) each =
    and_from (p y) (list_all p ys) (each 0 y refl) (all_from p ys (λ k x at. each (suc k) x at))

-- ---- the table of calls

there_in : (t : Tac) (ks : List CodeFunction) (n : ℕ) (b : Bool)
    → slice_get (map (is_callable t) ks) n ≡ Some b → b ≡ is_covered_call t (slice_get ks n)
there_in t [] n b at = cc
there_in t (k ∷ ks) zero b at = cc
there_in t (k ∷ ks) (suc n) b at = there_in t ks n b at

missing_in : (t : Tac) (ks : List CodeFunction) (n : ℕ) → slice_get (map (is_callable t) ks) n ≡ None
    → true ≡ is_covered_call t (slice_get ks n)
missing_in t [] n at = refl
missing_in t (k ∷ ks) zero at = cc
missing_in t (k ∷ ks) (suc n) at = missing_in t ks n at

pub callee_there : (t : Tac) (table : List Bool) (n : ℕ) (b : Bool) → table ≡ callable_functions t
    → slice_get table n ≡ Some b → b ≡ is_covered_call t (function_in t n)
callee_there t table n b tabled at = there_in t t.functions n b (ap (λ l. slice_get l n) (sym tabled) ∙ at)

pub callee_missing : (t : Tac) (table : List Bool) (n : ℕ) → table ≡ callable_functions t → slice_get table n ≡ None
    → true ≡ is_covered_call t (function_in t n)
callee_missing t table n tabled at = missing_in t t.functions n (ap (λ l. slice_get l n) (sym tabled) ∙ at)

all_in : (t : Tac) (type_number : ℕ) (ks : List CodeFunction)
    → list_all (λ b. b) (map (is_callable t) ks) ≡ true → are_covered_calls t type_number ks ≡ true
all_in t n [] all = refl
all_in t n (k ∷ ks) all =
    let o = and_parts (is_covered_call t (Some k)) (list_all (λ b. b) (map (is_callable t) ks)) all in
    and_from (not (k.type_number == n) || is_covered_call t (Some k)) (are_covered_calls t n ks)
    (or_right (not (k.type_number == n)) (is_covered_call t (Some k)) o.0) (all_in t n ks o.1)

pub all_calls : (t : Tac) (table : List Bool) (type_number : ℕ) → table ≡ callable_functions t
    → list_all (λ b. b) table ≡ true → true ≡ are_covered_calls t type_number t.functions
all_calls t table n tabled all =
    sym (all_in t n t.functions (ap (list_all (λ b. b)) (sym tabled) ∙ all))

-- ---- contents more than none

-- what comes to a temporary that may have none comes to any
comes_more : (kind : Kind) (may : Bool) → comes_to kind false ≡ true → comes_to kind may ≡ true
comes_more Void may e = refl
comes_more (OfScalar k) may e = refl
comes_more (Structure n) may e = absurd (true≢false (sym e))
comes_more (Array n) may e = refl

result_comes_more : (t : Tac) (o : Option CodeFunction) (may : Bool) → result_comes_to t o false ≡ true
    → result_comes_to t o may ≡ true
result_comes_more t None may e = refl
result_comes_more t (Some k) may e = comes_more (result_of t k) may e

admits_more : (t : Tac) (k : CodeFunction) (contents : Contents) (i : Instruction)
    → admits_with t k none_at i ≡ true → admits_with t k contents i ≡ true
admits_more t k contents (tac.ZeroOf Void d m) e = refl
admits_more t k contents (tac.ZeroOf (OfScalar q) d m) e = refl
admits_more t k contents (tac.ZeroOf (Structure size) d m) e = absurd (true≢false (sym e))
admits_more t k contents (tac.ZeroOf (Array size) d m) e = refl
admits_more t k contents (tac.Take kind line d a m) e = absurd (true≢false (sym e))
admits_more t k contents (tac.Call f line d count m) e =
    let o = and_parts (is_covered_call t (function_in t f)) (result_comes_to t (function_in t f) false) e in
    and_from (is_covered_call t (function_in t f)) (result_comes_to t (function_in t f) (contents m d)) o.0
    (result_comes_more t (function_in t f) (contents m d) o.1)
admits_more t k contents (tac.CallThrough n line d count m) e =
    let o = and_parts (are_covered_calls t n t.functions) (comes_to (result_of_type t.results n) false) e in
    and_from (are_covered_calls t n t.functions) (comes_to (result_of_type t.results n) (contents m d)) o.0
    (comes_more (result_of_type t.results n) (contents m d) o.1)
admits_more t k contents i e = e

covered_more : (t : Tac) (k : CodeFunction) (contents : Contents) → is_covered_without t k ≡ true
    → is_covered_with t k contents ≡ true
covered_more t k contents all =
    all_from (is_covered_in t k contents) k.code
    (λ n i at.
    let o = and_parts (covers k i) (admits_with t k none_at i) (all_at (is_covered_in t k none_at) k.code n i all at) in
    and_from (covers k i) (admits_with t k contents i) o.0 (admits_more t k contents i o.1))

-- ---- functions

pub function_covered : (t : Tac) (k : CodeFunction) (contents : Contents) (b : Bool) → AreKept t k contents
    → b ≡ is_covered_with t k contents → b ≡ true → IsCoveredFunction t k
function_covered t k contents b kept same yes_ = record { contents = contents; kept = kept; covered = sym same ∙ yes_ }

pub function_not_covered : (t : Tac) (k : CodeFunction) (contents : Contents) (b : Bool)
    → b ≡ is_covered_with t k contents → b ≡ false → is_covered_without t k ≡ true → ⊥
function_not_covered t k contents b same fails all =
    true≢false (sym (covered_more t k contents all) ∙ sym same ∙ fails)

with_first : (t : Tac) (k : CodeFunction) (ks : List CodeFunction) → IsCoveredFunction t k → AreCoveredFunctions t ks
    → AreCoveredFunctions t (k ∷ ks)
with_first t k ks first rest = record { by = at }
  where
    at : (u : ℕ) (j : CodeFunction) → slice_get (k ∷ ks) u ≡ Some j → IsCoveredFunction t j
    at zero j e = subst (IsCoveredFunction t) (same_Some _ _ e) first
    at (suc u) j e = rest.by u j e

rest_from : (ks : List CodeFunction) (i : ℕ) (k : CodeFunction) → slice_get ks i ≡ Some k
    → drop i ks ≡ k ∷ drop (i + 1) ks
rest_from ks i k e =
    drop_more ks i k (slice_get_within ks i k e) ∙ ap (λ z. z ∷ drop (i + 1) ks) (get_or_from_slice_get ks i k k e)

pub one_more_covered : (t : Tac) (ks all : List CodeFunction) (i : ℕ) (k : CodeFunction) → slice_get ks i ≡ Some k
    → IsCoveredFunction t k → (AreCoveredFunctions t (drop i ks) → AreCoveredFunctions t all)
    → AreCoveredFunctions t (drop (i + 1) ks) → AreCoveredFunctions t all
one_more_covered t ks all i k at first so_far rest =
    so_far (subst (AreCoveredFunctions t) (sym (rest_from ks i k at)) (with_first t k (drop (i + 1) ks) first rest))

pub none_left : (t : Tac) → AreCoveredFunctions t []
none_left t = record { by = λ u k e. absurd (none-some _ e) }

pub one_not_covered : (t : Tac) (ks : List CodeFunction) (i : ℕ) (k : CodeFunction) → slice_get ks i ≡ Some k
    → (is_covered_without t k ≡ true → ⊥) → list_all (is_covered_without t) ks ≡ true → ⊥
one_not_covered t ks i k at fails all = fails (all_at (is_covered_without t) ks i k all at)

-- ---- the program

module _ (t : Tac) (each : AreCoveredFunctions t t.functions) where
  -- the contents of each function
  contents_by : (u : ℕ) (o : Option CodeFunction) → slice_get t.functions u ≡ o → Contents
  contents_by u None e = none_at
  contents_by u (Some k) e = (each.by u k e).contents

  -- what holds of a function with these
  record Fits (u : ℕ) (k : CodeFunction) (contents : Contents) : Type 0 where
    pub kept : AreKept t k contents
    pub covered : is_covered_with t k contents ≡ true

  fits_by : (u : ℕ) (o : Option CodeFunction) (e : slice_get t.functions u ≡ o) (k : CodeFunction) → o ≡ Some k
      → Fits u k (contents_by u o e)
  unfolding contents_by
  fits_by u None e k same = absurd (none-some _ same)
  fits_by u (Some j) e k same =
      let h = each.by u j e in
      subst (λ z. Fits u z h.contents) (same_Some _ _ same) (record { kept = h.kept; covered = h.covered })

  abbrev contents_of : ProgramContents
  contents_of u = contents_by u (slice_get t.functions u) refl

  fits : (u : ℕ) (k : CodeFunction) → slice_get t.functions u ≡ Some k → Fits u k (contents_of u)
  fits u k e = fits_by u (slice_get t.functions u) refl k e

  covered_program : is_covered_main t (function_in t t.main) ≡ true → IsCoveredProgram t
  covered_program main = record {
    contents = contents_of;
    kept = λ u k e. (fits u k e).kept;
    code = record {
      main = main;
      each = λ u n k i there at.
          and_parts (covers k i) (admits_with t k (contents_of u) i)
          (all_at (is_covered_in t k (contents_of u)) k.code n i (fits u k there).covered at);
    };
  }

pub program_covered : (t : Tac) (main each : Bool) → main ≡ is_covered_main t (function_in t t.main) → main ≡ true
    → (each ≡ true → AreCoveredFunctions t t.functions) → each ≡ true → IsCoveredProgram t
program_covered t main each same is all yes_ = covered_program t (all yes_) (sym same ∙ is)

pub main_not_covered : (t : Tac) (main : Bool) → main ≡ is_covered_main t (function_in t t.main) → main ≡ false
    → IsCoveredCode t no_contents → ⊥
main_not_covered t main same fails c = true≢false (sym c.main ∙ sym same ∙ fails)

all_without : (t : Tac) → IsCoveredCode t no_contents → list_all (is_covered_without t) t.functions ≡ true
all_without t c =
    all_from (is_covered_without t) t.functions
    (λ u k there. all_from (is_covered_in t k none_at) k.code
    (λ n i at. let o = c.each u n k i there at in and_from (covers k i) (admits_with t k none_at i) o.0 o.1))

pub functions_not_covered : (t : Tac) (each : Bool)
    → (each ≡ false → list_all (is_covered_without t) t.functions ≡ true → ⊥) → each ≡ false
    → IsCoveredCode t no_contents → ⊥
functions_not_covered t each fails no_ c = fails no_ (all_without t c)

-- ---- and the relation

-- what is asked in a function is what is asked of its nodes
admits_is : (c : Compiled) (u n : ℕ) (k : CodeFunction) (i : Instruction)
    → function_in c.layout.expansion.code u ≡ Some k
    → admits c u n i ≡ admits_with c.layout.expansion.code k (c.layout.expansion.contents u) i
admits_is c u n k (tac.Return a) there = ap (λ o. is_covered_return c.layout.expansion.code o a) there
admits_is c u n k (tac.ZeroOf Void d m) there = refl
admits_is c u n k (tac.ZeroOf (OfScalar q) d m) there = refl
admits_is c u n k (tac.ZeroOf (Structure size) d m) there = refl
admits_is c u n k (tac.ZeroOf (Array size) d m) there = refl
admits_is c u n k i there = refl

pub all_covered : (c : Compiled) → IsCoveredCode c.layout.expansion.code c.layout.expansion.contents → AreAllCovered c
all_covered c h = record {
  first = record { main = h.main };
  each = λ u n k i there at. let o = h.each u n k i there at in (o.0, admits_is c u n k i there ∙ o.1);
}
