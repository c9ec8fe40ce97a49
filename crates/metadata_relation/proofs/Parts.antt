-- A block that stands at a node is run part after part, as long as registers alone change.
use Rattle.std.proofs.Common.{◌≡◌, ℕ, ◌+◌, ◌*◌, true, List, length, ap, subst, arith}
use Rattle.addr_map.specs.Places.{MapSizes}
use Rattle.flat_code.specs.declared.instruction.FlatInstruction.{FlatInstruction}
use Rattle.flat_code.specs.declared.function.FlatProgram.{FlatProgram}
use Rattle.flat_code.specs.State as flat
use Rattle.flat_code.specs.Calls.{function_in}
use Rattle.flat_code.specs.Meaning.{body_of, weight_of}
use Rattle.flat_code.specs.Words.{HasWords}
use Rattle.flat_code.specs.Routines.Routine.{HasAt}
use Rattle.metadata_plan.specs.Operators.{Position, Computes, IsHere}
use Rattle.metadata_plan.proofs.Numbers.{scaled}
use Rattle.metadata_plan.proofs.Flat.{weight_small, Comes, then_comes, words_kept}
use Rattle.metadata_relation.proofs.Assigning.{assigned, are_assignments, assigns}

module _ (m : MapSizes) (p : FlatProgram) (u pc : ℕ) (v : flat.State) (xs : List flat.Frame)
    (words : HasWords (flat.Stands u pc v xs)) where
  abbrev body : List FlatInstruction
  body = body_of (function_in p u)

  -- the run so far has changed registers alone
  abbrev pub SoFar : (place : ℕ) (values : flat.Values) (most : ℕ) → Type 0
  SoFar place values most = Comes m p u pc v xs place (record v { values = values }) most

  abbrev pub moment : (place : ℕ) (values : flat.Values) (most : ℕ) → SoFar place values most → Position
  moment q a k K = record {
    function = u;
    place = q;
    state = record v { values = a; work = v.work + K.work };
    frames = xs;
  }

  -- nothing is done yet
  pub at_first : SoFar pc v.values 0
  at_first = record {
    steps = 0;
    work = 0;
    few = omega arith;
    comes =
        let same : v.work ≡ v.work + 0 = omega arith in
        ap (λ w. flat.Stands u pc (record v { work = w }) xs) same;
  }

  -- code that stands where the run is
  pub stands_here : (q : ℕ) (a : flat.Values) (k : ℕ) (K : SoFar q a k) (code : List FlatInstruction)
      → HasAt (body_of (function_in p u)) q code → IsHere p (moment q a k K) code
  stands_here q a k K code has = record {
    has = has;
    words = (subst HasWords K.comes (words_kept m p K.steps (flat.Stands u pc v xs) words)).0;
  }

  -- a value is computed
  pub then_computed : (q : ℕ) (a : flat.Values) (k : ℕ) (K : SoFar q a k) (place into value scratch most : ℕ)
      → (r : Computes m p (moment q a k K) place into value scratch most) → SoFar place r.after (k + most * 2)
  then_computed q a k K place into value scratch most r =
      let at : flat.State = record v { values = a; work = v.work + K.work } in
      let next : Comes m p u q at xs place (record at { values = r.after }) (most * 2) = record {
        steps = r.steps;
        work = r.work;
        few = scaled most (weight_of (function_in p u)) r.work r.few (weight_small (function_in p u));
        comes = r.comes;
      } in
      let all = then_comes m p u pc v xs q place (record v { values = a }) (record at { values = r.after }) k
      (most * 2) K next in
      record { steps = all.steps; work = all.work; few = all.few; comes = all.comes }

  -- registers get constants and values of others
  pub then_assigned : (q : ℕ) (a : flat.Values) (k : ℕ) (K : SoFar q a k) (is : List FlatInstruction)
      → are_assignments is ≡ true → HasAt (body_of (function_in p u)) q is
      → SoFar (q + length is) (assigned is a) (k + 2 * length is)
  then_assigned q a k K is e has =
      let at : flat.State = record v { values = a; work = v.work + K.work } in
      let next = assigns m p u xs is e q at has in
      let all = then_comes m p u pc v xs q (q + length is) (record v { values = a })
      (record at { values = assigned is a }) k (2 * length is) K next in
      record { steps = all.steps; work = all.work; few = all.few; comes = all.comes }
