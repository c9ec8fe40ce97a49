-- The code of pointers that move by elements, and of their differences, gives its value.
use Rattle.std.proofs.Common.{◌≡◌, ℕ, ◌+◌, ◌*◌, ◌%◌, ◌^◌, ◌<◌, ◌≤◌, Bool, true, false, ◌==◌, if◌then◌else◌}
use Rattle.std.proofs.Common.{[], ◌∷◌, ◌++◌, length, Option, Some, None, refl, sym, ap, ap₂, ◌∙◌, subst, arith}
use Rattle.std.proofs.Common.{length-append}
use Rattle.std.proofs.lemmas.Bool.{eqb-true, ne_eqb}
use Rattle.rv_isa.specs.declared.instruction.RegOp.{RegOp}
use Rattle.rv_isa.specs.declared.instruction.RegOp.TheVariants as op
use Rattle.rv_isa.specs.Results.{reg_result}
use Rattle.rv_isa.proofs.Words.{reg_fits}
use Rattle.words.specs.TwosComplement.{low_bits}
use Rattle.words.specs.Operations.{difference}
use Rattle.obj_memory.specs.Integers.{fit}
use Rattle.obj_memory.specs.Operators.{negated, quotient}
use Rattle.flat_code.specs.declared.instruction.RightOperand.TheVariants.{Register}
use Rattle.flat_code.specs.declared.instruction.FlatInstruction.TheVariants.{Operate}
use Rattle.flat_code.specs.State.{State}
use Rattle.flat_code.specs.Words.{IsOfWords}
use Rattle.flat_code.specs.Meaning.{Context}
use Rattle.flat_code.proofs.Stored.{put_other}
use Rattle.flat_code.specs.Routines.Routine.{Does}
use Rattle.flat_code.specs.Routines.Effects.{effects}
use Rattle.flat_operators.specs.Operators.{constant_code}
use Rattle.flat_operators.specs.Pointers.{address_forward, address_back, elements_between, shift_of, scaled_by}
use Rattle.flat_operators.specs.Pointers.{offset_code, difference_code}
use Rattle.flat_operators.specs.Results.{HasResult, IsUnchanged, Anywhere, AreOperands, IsResult}
use Rattle.flat_operators.proofs.Sets.{does_straight, one_set, is_value, set_again, set_behind}
use Rattle.flat_operators.proofs.Values.{product_by, sum_by, difference_by, quotient_by}
use Rattle.flat_operators.proofs.Operators.{Gives, both_give, both_all, constant_gives, length_constant, few_constant}
use Rattle.flat_operators.proofs.Operators.{length_if}
use Rattle.flat_code.proofs.Routines.Straight.{effects_append}

-- ---- in the scratch register

-- a register that alone has a value is the scratch register of one below it
only_scratch : (n v : ℕ) (s s' : State) → HasResult n v (n + 1) s s' → IsUnchanged n s s'
only_scratch n v s s' h = record {
  registers = λ x low. h.others x (omega arith) (λ e. omega arith);
  memory = h.memory;
  shows = h.shows;
}

module _ (c : Context) (n i : ℕ) (below : i < n) (s : State) where
  multiplied : (size : ℕ) → size < 2 ^ 64
      → Gives c n (n + 1) (scaled_by None i size n) s (s.values i * size % 2 ^ 64)
  multiplied size low =
      let g = constant_gives c n (n + 1) s size low in
      let s1 = effects c (constant_code n size) s in
      let index : s1.values i ≡ s.values i = g.1.others i (omega arith) (λ e. omega arith) in
      both_give c n (n + 1) (constant_code n size) (Operate op.Mul n i (Register n) ∷ []) size _ s g (
        (tt, tt),
        is_value (n + 1) n _ (s.values i * size % 2 ^ 64) s1 _
            (product_by (s1.values i) (s1.values n) ∙ ap₂ (λ x y. x * y % 2 ^ 64) index g.1.result)
            (one_set (n + 1) n _ _ s1),
      )

  shifted : (bits size : ℕ) → bits < 64 → 2 ^ bits ≡ size
      → Gives c n (n + 1) (scaled_by (Some bits) i size n) s (s.values i * size % 2 ^ 64)
  unfolding reg_result
  shifted bits size few e =
      let whole : low_bits 64 bits % 64 ≡ bits = omega arith in (
        (tt, tt),
        is_value (n + 1) n _ (s.values i * size % 2 ^ 64) s _
            (ap (λ b. s.values i * 2 ^ b % 2 ^ 64) whole ∙ ap (λ z. s.values i * z % 2 ^ 64) e)
            (one_set (n + 1) n _ _ s),
      )

  scaled : (size : ℕ) → size < 2 ^ 64
      → Gives c n (n + 1) (scaled_by (shift_of size) i size n) s (s.values i * size % 2 ^ 64)
  scaled size low = by (size == 2) (size == 4) (size == 8) refl refl refl
    where
      by : (two four eight : Bool) → (size == 2) ≡ two → (size == 4) ≡ four → (size == 8) ≡ eight
          → Gives c n (n + 1)
          (scaled_by (if two then Some 1 else if four then Some 2 else if eight then Some 3 else None) i size n) s
          (s.values i * size % 2 ^ 64)
      by true four eight e e2 e3 = shifted 1 size (omega arith) (sym (eqb-true size 2 e))
      by false true eight e e2 e3 = shifted 2 size (omega arith) (sym (eqb-true size 4 e2))
      by false false true e e2 e3 = shifted 3 size (omega arith) (sym (eqb-true size 8 e3))
      by false false false e e2 e3 = multiplied size low

-- ---- addresses

-- an operator on an address and the scratch register
behind_scaled : (c : Context) (o : RegOp) (size d a i n v : ℕ) (s : State) → size < 2 ^ 64 → AreOperands d a i n
    → reg_result o (s.values a) (s.values i * size % 2 ^ 64) ≡ v
    → Gives c d n (scaled_by (shift_of size) i size n ++ Operate o d a (Register n) ∷ []) s v
behind_scaled c o size d a i n v s low operands e =
    let g = scaled c n i operands.right_below s size low in
    let is = scaled_by (shift_of size) i size n in
    let js = Operate o d a (Register n) ∷ [] in
    let s1 = effects c is s in
    let kept = only_scratch n _ s s1 g.1 in
    let address : s1.values a ≡ s.values a = kept.registers a operands.left_below in
    let value : reg_result o (s1.values a) (s1.values n) ≡ v = ap₂ (reg_result o) address g.1.result ∙ e in (
      both_all c is js s g.0 (tt, tt),
      subst (HasResult d v n s) (sym (effects_append c is js s))
          (set_behind n d v s s1 (effects c js s1) kept (is_value n d _ v s1 _ value (one_set n d _ _ s1))),
    )

module _ (c : Context) (line d a i n size : ℕ) (low : size < 2 ^ 64) (operands : AreOperands d a i n) where
  length_scaled : (shift : Option ℕ) → length (scaled_by shift i size n) ≤ 6
  length_scaled (Some bits) = omega arith
  length_scaled None = omega (
    arith,
    length-append (constant_code n size) (Operate op.Mul n i (Register n) ∷ []),
    length_constant n size,
  )

  length_offset : (o : RegOp) → length (offset_code o size d a i n) ≤ 7
  unfolding offset_code
  length_offset o =
      length_if (size == 1) (Operate o d a (Register i) ∷ [])
      (scaled_by (shift_of size) i size n ++ Operate o d a (Register n) ∷ []) 7 (omega arith)
      (omega (
        arith,
        length-append (scaled_by (shift_of size) i size n) (Operate o d a (Register n) ∷ []),
        length_scaled (shift_of size),
      ))

  offset_gives : (o : RegOp) (v : State → ℕ)
      → ((s : State) → IsOfWords s → reg_result o (s.values a) (s.values i * size % 2 ^ 64) ≡ v s)
      → Does c (offset_code o size d a i n) Anywhere (λ s. 7) (λ s. IsResult (Some (v s)) line d n s)
  unfolding offset_code
  offset_gives o v e =
      does_straight c (offset_code o size d a i n) 7 (λ s. IsResult (Some (v s)) line d n s) (length_offset o)
      (λ s w. let r = by s w (size == 1) refl in (r.0, record { by = r.1 }))
    where
      by : (s : State) → IsOfWords s → (one : Bool) → (size == 1) ≡ one
          → Gives c d n (if one then Operate o d a (Register i) ∷ []
          else scaled_by (shift_of size) i size n ++ Operate o d a (Register n) ∷ []) s (v s)
      by s w true is =
          let whole : s.values i ≡ s.values i * size % 2 ^ 64 = (let l = w.values i in let k = eqb-true size 1 is in
          rw k (omega arith)) in
          ((tt, tt), is_value n d _ (v s) s _ (ap (reg_result o (s.values a)) whole ∙ e s w) (one_set n d _ _ s))
      by s w false is = behind_scaled c o size d a i n (v s) s low operands (e s w)

  pub forward_does : Does c (offset_code op.Add size d a i n) Anywhere (λ s. 7)
      (λ s. IsResult (Some (address_forward size (s.values a) (s.values i))) line d n s)
  forward_does =
      offset_gives op.Add (λ s. address_forward size (s.values a) (s.values i))
      (λ s w. sum_by (s.values a) (s.values i * size % 2 ^ 64) ∙ omega arith)

  pub back_does : Does c (offset_code op.Sub size d a i n) Anywhere (λ s. 7)
      (λ s. IsResult (Some (address_back size (s.values a) (s.values i))) line d n s)
  back_does =
      offset_gives op.Sub (λ s. address_back size (s.values a) (s.values i))
      (λ s w. difference_by (s.values a) (s.values i * size % 2 ^ 64))

-- ---- differences

module _ (c : Context) (line d a b n size : ℕ) (low : size < 2 ^ 64) (some : 1 ≤ size) (operands : AreOperands d a b n)
  where
    -- the quotient of the bytes between
    between : (x y : ℕ) → y < 2 ^ 64 → reg_result op.Div (difference 64 x y) size ≡ elements_between size x y
    unfolding fit
    between x y fits =
        let bytes : difference 64 x y ≡ low_bits 64 (x + negated y) = omega arith in
        let q : reg_result op.Div (difference 64 x y) size ≡ quotient true (difference 64 x y) size =
        quotient_by true (difference 64 x y) size (ne_eqb size 0 (λ e. omega arith)) in
        let small : difference 64 x y < 2 ^ 64 = omega arith in
        let whole = reg_fits op.Div (difference 64 x y) size small low in
        let same : reg_result op.Div (difference 64 x y) size ≡ low_bits 64 (reg_result op.Div (difference 64 x y) size) =
        omega arith in
        same ∙ ap (low_bits 64) q ∙ ap (λ z. low_bits 64 (quotient true z size)) bytes

    difference_gives : (s : State) → IsOfWords s
        → Gives c d n (difference_code size d a b n) s (elements_between size (s.values a) (s.values b))
    unfolding difference_code
    difference_gives s w =
        let g = constant_gives c n (n + 1) s size low in
        let is = constant_code n size in
        let js = Operate op.Sub d a (Register b) ∷ Operate op.Div d d (Register n) ∷ [] in
        let s1 = effects c is s in
        let kept = only_scratch n size s s1 g.1 in
        let s2 = effects c (Operate op.Sub d a (Register b) ∷ []) s1 in
        let s3 = effects c js s1 in
        let first : HasResult d (reg_result op.Sub (s1.values a) (s1.values b)) n s1 s2 = one_set n d _ _ s1 in
        let left = kept.registers a operands.left_below in
        let right = kept.registers b operands.right_below in
        let bytes : s2.values d ≡ difference 64 (s.values a) (s.values b) =
        first.result ∙ difference_by (s1.values a) (s1.values b) ∙ ap₂ (difference 64) left right in
        let size_there : s2.values n ≡ size = put_other s1.values d _ n (λ e. (let l = operands.into_below in omega arith))
        ∙ g.1.result in
        let value : reg_result op.Div (s2.values d) (s2.values n) ≡ elements_between size (s.values a) (s.values b) =
        ap₂ (reg_result op.Div) bytes size_there ∙ between (s.values a) (s.values b) (w.values b) in
        let last : HasResult d (elements_between size (s.values a) (s.values b)) n s2 s3 =
        is_value n d _ _ s2 s3 value (one_set n d _ _ s2) in (
          both_all c is js s g.0 (tt, (tt, tt)),
          subst (HasResult d (elements_between size (s.values a) (s.values b)) n s) (sym (effects_append c is js s))
              (set_behind n d _ s s1 s3 kept (set_again n d _ _ s1 s2 s3 first last)),
        )

    -- as many steps as its constant, and two
    within : (most : ℕ) → length (constant_code n size) ≤ most
        → Does c (difference_code size d a b n) Anywhere (λ s. most + 2)
        (λ s. IsResult (Some (elements_between size (s.values a) (s.values b))) line d n s)
    unfolding difference_code
    within most few =
        does_straight c (difference_code size d a b n) (most + 2)
        (λ s. IsResult (Some (elements_between size (s.values a) (s.values b))) line d n s)
        (omega (
          arith,
          length-append (constant_code n size)
              (Operate op.Sub d a (Register b) ∷ Operate op.Div d d (Register n) ∷ []),
          few,
        ))
        (λ s w. let r = difference_gives s w in (r.0, record { by = r.1 }))

    pub difference_does : Does c (difference_code size d a b n) Anywhere (λ s. 7)
        (λ s. IsResult (Some (elements_between size (s.values a) (s.values b))) line d n s)
    difference_does = within 5 (length_constant n size)

    -- of a size of at most 33 bits
    pub difference_few : size < 2 ^ 33 → Does c (difference_code size d a b n) Anywhere (λ s. 5)
        (λ s. IsResult (Some (elements_between size (s.values a) (s.values b))) line d n s)
    difference_few few = within 3 (few_constant n size few)
