-- Whether the numbers of an expansion fit.
use Rattle.std.proofs.Common.{◌≡◌, ℕ, zero, suc, ◌+◌, ◌^◌, ◌<◌, ◌≤◌, List, [], ◌∷◌, drop, length, Some, slice_get, ap}
use Rattle.std.proofs.Common.{Bool, true, false, nat_lt, refl, sym, ◌∙◌, subst, arith}
use Rattle.std.proofs.lemmas.Bool.{ltb-true, ltb-false}
use Rattle.addr_map.specs.Places.{MapSizes}
use Rattle.tac_ir.specs.declared.instruction.Instruction.{Instruction}
use Rattle.tac_ir.specs.declared.function.CodeFunction.{CodeFunction}
use Rattle.tac_ir.specs.declared.function.Tac.{Tac}
use Rattle.metadata_plan.specs.Laid.{size_at, size_from}
use Rattle.flat_code.specs.declared.instruction.FlatInstruction.{FlatInstruction}
use Rattle.metadata_expansion.specs.Numbers.{AreSmall, AreAllSmall}
use Rattle.metadata_plan.proofs.Laying.{drop_at}

-- the size so far, with that of the nodes from one on
pub one_counted : (put : Instruction → List FlatInstruction) (begin : List FlatInstruction) (c : CodeFunction)
    (size more all n : ℕ) (i : Instruction)
    → slice_get c.code n ≡ Some i → more ≡ size_at put begin c n i
    → size + size_from put begin c n (drop n c.code) ≡ all
    → size + more + size_from put begin c (n + 1) (drop (n + 1) c.code) ≡ all
one_counted put begin c size more all n i e sized h =
    let parts : size_from put begin c n (drop n c.code)
    ≡ size_at put begin c n i + size_from put begin c (suc n) (drop (suc n) c.code) =
    ap (λ is. size_from put begin c n is) (drop_at c.code n i e) in
    let next : suc n ≡ n + 1 = omega arith in
    let rest : size_from put begin c (suc n) (drop (suc n) c.code)
    ≡ size_from put begin c (n + 1) (drop (n + 1) c.code) =
    ap (λ k. size_from put begin c k (drop k c.code)) next in
    omega (arith, parts, rest, sized, h)

-- ---- all functions

in_range : (cs : List CodeFunction) (u : ℕ) (c : CodeFunction) → slice_get cs u ≡ Some c → u < length cs
in_range [] u c e = cc
in_range (x ∷ cs) zero c e = omega arith
in_range (x ∷ cs) (suc u) c e =
    let rest : u < length cs = in_range cs u c e in
    omega (arith, rest)

pub one_more_small : (m : MapSizes) (t : Tac) (n : ℕ) (c : CodeFunction)
    → ((u : ℕ) (d : CodeFunction) → u < n → slice_get t.functions u ≡ Some d → AreSmall m t d)
    → slice_get t.functions n ≡ Some c → AreSmall m t c → (u : ℕ) (d : CodeFunction) → u < n + 1
    → slice_get t.functions u ≡ Some d → AreSmall m t d
one_more_small m t n c before e small u d below here = by (nat_lt u n) refl
  where
    by : (b : Bool) → nat_lt u n ≡ b → AreSmall m t d
    by true lt = before u d (ltb-true u n lt) here
    by false ge =
        let le = ltb-false u n ge in
        let same : u ≡ n = omega (arith, le, below) in
        let both : Some c ≡ Some d = sym e ∙ ap (λ k. slice_get t.functions k) (sym same) ∙ here in
        let one : c ≡ d = cc in
        subst (λ z. AreSmall m t z) one small

pub all_small : (m : MapSizes) (t : Tac) (n : ℕ)
    → ((u : ℕ) (d : CodeFunction) → u < n → slice_get t.functions u ≡ Some d → AreSmall m t d)
    → length t.functions ≤ n → length t.functions < 2 ^ 32 → t.main < length t.functions → AreAllSmall m t
all_small m t n each le count main = record {
  functions = λ u d here.
      let there : u < length t.functions = in_range t.functions u d here in
      each u d (omega (arith, there, le)) here;
  count = count;
  main = main;
}
