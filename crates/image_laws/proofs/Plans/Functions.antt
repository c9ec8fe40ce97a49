-- A function of integers can be planned.
use Rattle.std.proofs.Common.{◌≡◌, ◌⊎◌, inl, inr, ⊎_elim, ℕ, suc, ◌+◌, ◌<◌, ◌≤◌, sym, ◌∙◌}
use Rattle.std.proofs.Common.{subst, arith, true, List, length, length-append, Some}
use Rattle.std.specs.Prelude.{slice_get}
use Rattle.std.proofs.lemmas.Bool.{cases_lt, cases_Bool}
use Rattle.std.proofs.lemmas.Option.{same_Some}
use Rattle.addr_map.specs.Places.{MapSizes}
use Rattle.tac_ir.specs.declared.instruction.Instruction.{Instruction}
use Rattle.tac_ir.specs.declared.function.CodeFunction.{CodeFunction}
use Rattle.tac_ir.specs.declared.function.Tac.{Tac}
use Rattle.tac_ir.specs.Meaning.{function_in as code_in}
use Rattle.flat_code.specs.declared.instruction.FlatInstruction.{FlatInstruction}
use Rattle.flat_code.specs.declared.instruction.FlatInstruction.TheVariants as flat
use Rattle.flat_code.specs.declared.function.FlatProgram.{FlatProgram}
use Rattle.flat_code.specs.Calls.{function_in}
use Rattle.flat_code.specs.Meaning.{parameters_of, results_of}
use Rattle.metadata_plan.specs.Registers.{words_in, all_variables}
use Rattle.metadata_plan.specs.Part.{takes, IsIntegerFunction}
use Rattle.metadata_plan.specs.Blocks.{block, prologue}
use Rattle.metadata_plan.specs.Laid.{begin_code, laid_from, body_of, function_of}
use Rattle.metadata_plan.proofs.Numbers.{integers_words, integers_front}
use Rattle.metadata_plan.proofs.Laying.{begin_length, laid_length}
use Rattle.metadata_plan.specs.OperatorLists.Operators.{operators}
use Rattle.metadata_expansion.specs.Homes.{homes}
use Rattle.metadata_expansion.specs.Numbers.{AreSmall, body_size}
use Rattle.reg_plan.specs.Effects.{read_by, is_read, made_by, is_among}
use Rattle.reg_plan.specs.Needs.{ReadsAt, MakesAt, LeadsAt, IsNeeded, Read, Made, Before}
use Rattle.reg_plan.specs.Planned.{IsPlannable}
use Rattle.c_lower.specs.Liveness.Liveness.{IsLive}
use Rattle.image_laws.specs.Propagation.Homes.{IsUsed, HasHomes}
use Rattle.image_laws.proofs.Plans.Flow.{one_is, one_has, reads_nothing, maker_onward}
use Rattle.image_laws.proofs.Plans.Paths.{ReadWithin}
use Rattle.image_laws.proofs.Plans.Roles.{Role, variable_count}
use Rattle.image_laws.proofs.Plans.Homes.{homes_length, word, home_at, word_low, role_low, words_differ, HasRoom}
use Rattle.image_laws.proofs.Plans.Predecessors.{named_at, one_predecessor, zero_at}
use Rattle.image_laws.proofs.Plans.Live.{none_read}

module _ (m : MapSizes) (t : Tac) (c : CodeFunction) (p : FlatProgram) (f : ℕ)
    (gives : results_of (function_in p f) ≤ 1)
    (callees : (g n : ℕ) → takes (code_in t g) n ≡ true
    → (parameters_of (function_in p g) ≡ n) × (results_of (function_in p g) ≡ 1))
    (part : IsIntegerFunction t c) where
  abbrev put : Instruction → List FlatInstruction
  put = block operators m t c

  abbrev body : List FlatInstruction
  body = body_of put (prologue c) c

  -- what is needed is named
  needed_role : (pc y : ℕ) → IsNeeded p f body pc y → Role c y
  needed_role _ _ (Read pc y r) = (named_at m t c p f gives callees part.variables pc r.0 y r.1).read r.2
  needed_role _ _ (Made pc q y l r) = (named_at m t c p f gives callees part.variables pc r.0 y r.1).made r.2
  needed_role _ _ (Before pc q y l h not_made) = needed_role q y h

  -- ---- registers behind those of the variables

  -- a path leads to where it is read, or the one way there is from where it is made
  needed_by : (pc y : ℕ) → IsNeeded p f body pc y → words_in (all_variables c) ≤ y
      → ((k : ℕ) × ReadWithin p f gives body k pc y)
      ⊎ ((q : ℕ) × LeadsAt body q pc × MakesAt p body q y)
  needed_by _ _ (Read pc y r) high = inl (1, (r.0, r.1, inl r.2))
  needed_by _ _ (Made pc q y l r) high = inr (pc, l, (r.0, r.1, r.2))
  needed_by _ _ (Before pc q y l h not_made) high =
      ⊎_elim
      (λ path. inl (
        suc path.0,
        (
          l.0,
          l.1,
          inr (
            ⊎_elim (λ e. absurd (not_made (l.0, l.1, e))) (λ e. e) (cases_Bool (is_among (made_by p l.0) y)),
            q,
            l.2,
            path.1,
          ),
        ),
      ))
      (λ maker.
      let same = one_predecessor m t c p f gives callees part.variables pc maker.0 q y high maker.1 maker.2 l in
      absurd (not_made (subst (λ z. MakesAt p body z y) (sym same) maker.2)))
      (needed_by q y h high)

  none_behind : ((z : ℕ) → IsLive c.code c.entry z → ⊥) → (y : ℕ) → words_in (all_variables c) ≤ y
      → IsNeeded p f body 0 y → ⊥
  none_behind none y high h =
      ⊎_elim (λ path. none_read m t c p f gives callees part.variables none part.safe path.0 y high path.1)
      (λ maker.
      let l = maker.1 in
      let r = maker.2 in
      let same = same_Some r.0 l.0 (sym r.1 ∙ l.1) in
      let next = maker_onward p f gives l.0 y maker.0 0 (subst (λ z. is_among (made_by p z) y ≡ true) same r.2) l.2 in
      absurd (omega (arith, next)))
      (needed_by 0 y h high)

  -- ---- registers of variables

  -- what makes one of them 0 reads nothing
  zeroed : (pc : ℕ) (x : FlatInstruction) → pc < length c.variables → slice_get body pc ≡ Some x
      → x ≡ flat.Constant (length c.parameters + pc) 0
  zeroed pc x lt e =
      same_Some x (flat.Constant (length c.parameters + pc) 0)
      (sym e ∙ zero_at m t c p f gives callees part.variables pc lt)

  zeroed_reads : (pc y : ℕ) → pc < length c.variables → ReadsAt p f body pc y → ⊥
  zeroed_reads pc y lt r =
      reads_nothing y (subst (λ z. is_read (read_by p f z) y ≡ true) (zeroed pc r.0 lt r.1) r.2)

  zeroed_makes : (pc : ℕ) → pc < length c.variables
      → MakesAt p body pc (length c.parameters + pc)
  zeroed_makes pc lt = (
    flat.Constant (length c.parameters + pc) 0,
    zero_at m t c p f gives callees part.variables pc lt,
    one_has (length c.parameters + pc),
  )

  zeroed_leads : (pc q : ℕ) → pc < length c.variables → LeadsAt body pc q → q ≡ pc + 1
  zeroed_leads pc q lt l =
      let same = zeroed pc l.0 lt l.1 in
      let n = length c.parameters + pc in
      maker_onward p f gives l.0 n pc q (subst (λ z. is_among (made_by p z) n ≡ true) (sym same) (one_has n)) l.2

  made_next : (pc q y : ℕ) → LeadsAt body pc q → MakesAt p body pc y
      → q ≡ pc + 1
  made_next pc q y l r =
      let same = same_Some r.0 l.0 (sym r.1 ∙ l.1) in
      maker_onward p f gives l.0 y pc q (subst (λ z. is_among (made_by p z) y ≡ true) same r.2) l.2

  -- a variable that is no parameter is not needed before it is 0
  needed_behind : (pc y : ℕ) → IsNeeded p f body pc y → length c.parameters ≤ y
      → y < words_in (all_variables c) → y < length c.parameters + pc
  needed_behind _ _ (Read pc y r) le lt =
      ⊎_elim (λ h. h)
      (λ h. absurd (zeroed_reads pc y (omega (arith, variable_count c part.variables, le, lt, h)) r))
      (cases_lt y (length c.parameters + pc))
  needed_behind _ _ (Made pc q y l r) le lt =
      let next = made_next pc q y l (r.0, r.1, r.2) in
      ⊎_elim (λ h. h)
      (λ h.
      let early : pc < length c.variables = omega (arith, variable_count c part.variables, lt, h, next) in
      let is = one_is (length c.parameters + pc) y
      (subst (λ z. is_among (made_by p z) y ≡ true) (zeroed pc r.0 early r.1) r.2) in
      omega (arith, is, next))
      (cases_lt y (length c.parameters + q))
  needed_behind _ _ (Before pc q y l n not_made) le lt =
      let behind = needed_behind q y n le lt in
      ⊎_elim (λ h. h)
      (λ h.
      let early : pc < length c.variables = omega (arith, variable_count c part.variables, lt, h) in
      let next = zeroed_leads pc q early l in
      let same : length c.parameters + pc ≡ y = omega (arith, next, behind, h) in
      absurd (not_made (subst (MakesAt p body pc) same (zeroed_makes pc early))))
      (cases_lt y (length c.parameters + pc))

  -- ---- the function

  body_length : length body ≡ body_size m t c
  body_length =
      let a = length-append (begin_code put (prologue c) c) (laid_from put (prologue c) c 0 c.code) in
      let b = begin_length put (prologue c) c in
      let l = laid_length put (prologue c) c 0 c.code in
      omega (arith, a, b, l)

  pub plannable : AreSmall m t c → ((z : ℕ) → IsLive c.code c.entry z → ⊥) → HasRoom c
      → IsPlannable p f (function_of operators m t c (homes c))
  plannable small none room = record {
    count = let n = body_length in let s = small.instructions in omega (arith, n, s);
    named = record {
      read = λ pc y r.
          let role = (named_at m t c p f gives callees part.variables pc r.0 y r.1).read r.2 in
          let long = homes_length c in
          let low = role_low c y role in
          omega (arith, long, low);
      made = λ pc y r.
          let role = (named_at m t c p f gives callees part.variables pc r.0 y r.1).made r.2 in
          let long = homes_length c in
          let low = role_low c y role in
          omega (arith, long, low);
    };
    inside = λ pc y h.
        let role = needed_role pc y h in
        let low = word_low c y role in
        record { word = word c y role; is = home_at c y role; inside = omega (arith, low, room) };
    apart = λ pc x y w hx hy ex ey.
        let rx = needed_role pc x hx in
        let ry = needed_role pc y hy in
        words_differ c x y rx ry
        (same_Some (word c x rx) w (sym (home_at c x rx) ∙ ex)
        ∙ sym (same_Some (word c y ry) w (sym (home_at c y ry) ∙ ey)));
    entry = λ y h.
        let words = integers_words c.parameters (integers_front c.parameters c.variables part.variables) in
        ⊎_elim
        (λ lt. ⊎_elim (λ l. let e : y < words_in c.parameters = omega (arith, words, l) in e)
        (λ le. let l = needed_behind 0 y h le lt in absurd (omega (arith, l, le)))
        (cases_lt y (length c.parameters)))
        (λ high. absurd (none_behind none y high h))
        (cases_lt y (words_in (all_variables c)));
  }

  -- ---- its homes

  used_role : (y : ℕ) → IsUsed p f body y → Role c y
  used_role y h =
      ⊎_elim (λ r. (named_at m t c p f gives callees part.variables h.0 r.0 y r.1).read r.2)
      (λ r. (named_at m t c p f gives callees part.variables h.0 r.0 y r.1).made r.2) h.1

  pub has_homes : HasRoom c → HasHomes p f (function_of operators m t c (homes c))
  has_homes room = record {
    inside = λ y h.
        let role = used_role y h in
        let low = word_low c y role in
        record { word = word c y role; is = home_at c y role; inside = omega (arith, low, room) };
    apart = λ x y w hx hy ex ey.
        let rx = used_role x hx in
        let ry = used_role y hy in
        words_differ c x y rx ry
        (same_Some (word c x rx) w (sym (home_at c x rx) ∙ ex)
        ∙ sym (same_Some (word c y ry) w (sym (home_at c y ry) ∙ ey)));
  }
