-- The places of nodes: no two have a place in common, and where code falls into a node nothing else leads.
use Rattle.std.proofs.Common.{◌≡◌, inl, inr, ⊎_elim, ℕ, zero, suc, ◌+◌, ◌-◌, ◌<◌, ◌≤◌, refl, sym, ap, subst}
use Rattle.std.proofs.Common.{arith, Bool, true, List, [], ◌∷◌, length, Some}
use Rattle.std.specs.Prelude.{slice_get, ◌==◌, if◌then◌else◌}
use Rattle.std.proofs.lemmas.Bool.{eq-eqb, cases_eq, cases_lt}
use Rattle.std.proofs.lemmas.Option.{slice_get-get_or, slice_get_within}
use Rattle.tac_ir.specs.declared.instruction.Instruction.{Instruction}
use Rattle.tac_ir.specs.declared.instruction.Instruction.TheVariants as tac
use Rattle.tac_ir.specs.declared.function.CodeFunction.{CodeFunction}
use Rattle.tac_ir.specs.Edges.{successors, LeadsTo, IsAmong}
use Rattle.flat_code.specs.declared.instruction.FlatInstruction.{FlatInstruction}
use Rattle.metadata_plan.specs.Laid.{times_in, falls, size_at, begin_size, place_of}
use Rattle.metadata_plan.proofs.Laying.{place_is, next_place}
use Rattle.image_laws.proofs.Plans.Places.{edges_one, edges_two, falls_alone}

-- ---- ways to a node

abbrev one_if : Bool → ℕ
one_if b = if b then 1 else 0

among_once : (m : ℕ) (ns : List ℕ) → IsAmong m ns → 1 ≤ times_in m ns
among_once m [] h = absurd h
among_once m (n ∷ ns) (inl e) =
    let one : one_if (n == m) ≡ 1 = ap one_if (eq-eqb n m (sym e)) in
    omega (arith, one)
among_once m (n ∷ ns) (inr h) = omega (arith, among_once m ns h)

-- code that falls into a node is the only one that leads there
pub falls_only : (c : CodeFunction) (n k m : ℕ) (i j : Instruction) → slice_get c.code n ≡ Some i
    → slice_get c.code k ≡ Some j → LeadsTo i m → LeadsTo j m → falls c n m ≡ true → k ≡ n
falls_only c n k m i j at at' to to' fallen =
    ⊎_elim (λ e. sym e)
    (λ other. absurd (falls_alone c n m
    (let two = edges_two c.code n k m i j other at at' (among_once m (successors i) to)
    (among_once m (successors j) to') in omega (arith, two)) fallen))
    (cases_eq n k)

-- and that node is no entry
pub falls_within : (c : CodeFunction) (n : ℕ) (i : Instruction) → slice_get c.code n ≡ Some i → LeadsTo i c.entry
    → falls c n c.entry ≡ true → ⊥
falls_within c n i at to fallen =
    falls_alone c n c.entry
    (let a = edges_one c.code n c.entry i at (among_once c.entry (successors i) to) in
    let b = among_once c.entry (c.entry ∷ []) (inl refl) in
    omega (arith, a, b)) fallen

-- ---- places

module _ (put : Instruction → List FlatInstruction) (begin : List FlatInstruction) (c : CodeFunction) where
  abbrev place : ℕ → ℕ
  place = place_of put begin c

  -- the node is there
  pub there : (n : ℕ) → n < length c.code → (i : Instruction) × (slice_get c.code n ≡ Some i)
  there n lt = (_, slice_get-get_or c.code n tac.Reserved lt)

  -- lower nodes stand behind
  lower : (k n : ℕ) → n + k < length c.code → place (n + k) ≤ place n
  lower zero n lt = let e : n + 0 ≡ n = omega arith in subst (λ z. place z ≤ place n) (sym e) (omega arith)
  lower (suc k) n lt =
      let e : n + suc k ≡ suc (n + k) = omega arith in
      let i = there (suc (n + k)) (omega arith) in
      let next = next_place put begin c (suc (n + k)) i.0 i.1 (n + k) (omega arith) in
      let below = lower k n (omega arith) in
      subst (λ z. place z ≤ place n) (sym e) (omega (arith, next, below))

  -- all of a node stands before the lower ones
  pub before : (n k : ℕ) (j : Instruction) → slice_get c.code k ≡ Some j → n < k
      → place k + size_at put begin c k j ≤ place n
  before n zero j at lt = absurd (omega arith)
  before n (suc k) j at lt =
      let within = slice_get_within c.code (suc k) j at in
      let next = next_place put begin c (suc k) j at k (omega arith) in
      let e : n + (k - n) ≡ k = omega arith in
      let below = lower (k - n) n (omega arith) in
      omega (arith, next, ap place e, below)

  pub record IsSame (n k r s : ℕ) : Type 0 where
    pub node : n ≡ k
    pub offset : r ≡ s

  -- a place is of one node
  pub one_node : (n k r s : ℕ) (i j : Instruction) → slice_get c.code n ≡ Some i → slice_get c.code k ≡ Some j
      → r < size_at put begin c n i → s < size_at put begin c k j → place n + r ≡ place k + s → IsSame n k r s
  one_node n k r s i j at at' lr ls same =
      ⊎_elim (λ e. record {
        node = e;
        offset = let p = ap place e in omega (arith, p, same);
      })
      (λ other. ⊎_elim
      (λ lt. absurd (let b = before n k j at' lt in omega (arith, b, ls, same)))
      (λ le.
      let ne : k < n = by le other in
      absurd (let b = before k n i at ne in omega (arith, b, lr, same)))
      (cases_lt n k))
      (cases_eq n k)
    where
      by : k ≤ n → (n ≡ k → ⊥) → k < n
      by le other = ⊎_elim (λ h. h) (λ h. absurd (other (omega arith))) (cases_lt k n)

  -- and none of what the function begins with
  pub behind_begin : (n : ℕ) → begin_size put begin c ≤ place n
  behind_begin n = let p = place_is put begin c n in omega (arith, p)
