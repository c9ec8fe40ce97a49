-- A path through flat code to where a temporary's register is read follows one through three-address code.
use Rattle.std.proofs.Common.{◌≡◌, ◌⊎◌, inl, inr, ⊎_elim, ℕ, zero, suc, ◌+◌, ◌<◌, ◌≤◌, refl, sym, ap, ◌∙◌, subst}
use Rattle.std.proofs.Common.{arith, Bool, true, false, List, [], ◌∷◌, length, Some, length-append}
use Rattle.std.specs.Prelude.{slice_get, nat_lt, nat_le, ◌==◌, if◌then◌else◌}
use Rattle.std.proofs.lemmas.Bool.{ltb-true, lt-ltb, le-leb, eqb-true, eq-eqb, and_parts, and_from, or_left, or_right}
use Rattle.std.proofs.lemmas.Bool.{cases_Bool, false≢true}
use Rattle.std.proofs.lemmas.Option.{same_Some, none-some}
use Rattle.addr_map.specs.Places.{MapSizes}
use Rattle.sb_base.specs.declared.ending.Ending.TheVariants.{Abort as AbortAt}
use Rattle.rv_isa.specs.declared.instruction.BranchOp.TheVariants.{Beq}
use Rattle.flat_code.specs.declared.instruction.RightOperand.TheVariants.{Register}
use Rattle.c_tree.specs.declared.expression.Routine.{Routine}
use Rattle.c_tree.specs.declared.expression.Routine.TheVariants.{Putchar, Getchar, Exit, Abort}
use Rattle.c_tree.specs.declared.program.Variable.{Variable}
use Rattle.tac_ir.specs.declared.instruction.RightOperand.{RightOperand}
use Rattle.tac_ir.specs.declared.instruction.RightOperand.TheVariants.{Temporary, One}
use Rattle.tac_ir.specs.declared.instruction.Instruction.{Instruction}
use Rattle.tac_ir.specs.declared.instruction.Instruction.TheVariants as tac
use Rattle.tac_ir.specs.declared.function.CodeFunction.{CodeFunction}
use Rattle.tac_ir.specs.declared.function.Tac.{Tac}
use Rattle.tac_ir.specs.Meaning.{function_in as code_in}
use Rattle.tac_ir.specs.Edges.{successors, IsAmong, LeadsTo}
use Rattle.tac_ir.specs.Temporaries.{temporaries}
use Rattle.flat_code.specs.declared.instruction.FlatInstruction.{FlatInstruction}
use Rattle.flat_code.specs.declared.instruction.FlatInstruction.TheVariants as flat
use Rattle.flat_code.specs.declared.function.FlatProgram.{FlatProgram}
use Rattle.flat_code.specs.Calls.{function_in}
use Rattle.flat_code.specs.Meaning.{parameters_of, results_of}
use Rattle.metadata_plan.specs.Registers.{words_of, words_in, all_variables, most_temporaries, variable_register}
use Rattle.metadata_plan.specs.Registers.{temporary_register, first_free}
use Rattle.metadata_plan.specs.Part.{takes, are_integers, is_integer_instruction, is_integer_update, SafeWithin}
use Rattle.metadata_plan.specs.Part.{IsSafeFrom}
use Rattle.metadata_plan.specs.Blocks.{block, prologue, zeros, zero_variables}
use Rattle.metadata_plan.specs.Expanded as expanded
use Rattle.metadata_plan.specs.Laid.{place_of, body_of}
use Rattle.metadata_plan.proofs.Numbers.{integers_words, integers_register, most_at}
use Rattle.metadata_plan.proofs.Laying.{function_expands}
use Rattle.metadata_plan.specs.OperatorLists.Operators.{operators}
use Rattle.metadata_expansion.specs.Homes.{argument_count, free_count}
use Rattle.reg_plan.specs.Effects.{read_by, is_read, Leads}
use Rattle.c_lower.specs.Liveness.Liveness.{reads, writes, LiveWithin, IsLive}
use Rattle.image_laws.proofs.Plans.Flow.{Registers, Flow, Sources, Makes, reads_nothing, sources_read, flow_append}
use Rattle.image_laws.proofs.Plans.Paths.{ReadWithin, longer, Gets, through_list, through_all}
use Rattle.image_laws.proofs.Plans.Roles.{Role}
use Rattle.image_laws.proofs.Plans.Blocks.{Last, Needs, NeedsRight, NeedsArgument, IsPassed, block_flow, block_makes}
use Rattle.metadata_expansion.proofs.Laid.{arguments_few}
use Rattle.image_laws.proofs.Plans.Predecessors.{two_ways}

-- ---- an instruction that a path of integers comes to

-- the registers of variables, and of the temporaries that an instruction reads
abbrev pub ReadBy : CodeFunction → Instruction → Registers
ReadBy c i y = (y < words_in (all_variables c)) ⊎ ((z : ℕ) × (reads i z ≡ true) × (y ≡ temporary_register c z))

module _ (t : Tac) (c : CodeFunction) (integers : are_integers (all_variables c) ≡ true) where
  variable_read : (i : Instruction) (x : ℕ) → nat_lt x (length (all_variables c)) ≡ true
      → ReadBy c i (variable_register c x)
  variable_read i x e =
      let lt = ltb-true x (length (all_variables c)) e in
      let a = integers_register (all_variables c) x integers lt in
      let b = integers_words (all_variables c) integers in
      inl (omega (arith, a, b, lt))

  needs_read : (i : Instruction) → is_integer_instruction t (length (all_variables c)) i ≡ true
      → Needs c (ReadBy c i) i
  needs_read (tac.GetPlain d x next) e = variable_read (tac.GetPlain d x next) x e
  needs_read (tac.SetPlain x a next) e = inr (a, eq-eqb a a refl, refl)
  needs_read (tac.UpdatePlain w k f line d x right next) e = (
    variable_read (tac.UpdatePlain w k f line d x right next) x
        (and_parts (nat_lt x (length (all_variables c))) (is_integer_update w k right) e).0,
    by right,
  )
    where
      by : (right : RightOperand) → NeedsRight c (ReadBy c (tac.UpdatePlain w k f line d x right next)) right
      by (Temporary b) = inr (b, eq-eqb b b refl, refl)
      by One = tt
  needs_read (tac.Convert kind d a next) e = inr (a, eq-eqb a a refl, refl)
  needs_read (tac.Unary op ty d a next) e = inr (a, eq-eqb a a refl, refl)
  needs_read (tac.Binary op ty line d a b next) e = (
    inr (a, or_left (a == a) (a == b) (eq-eqb a a refl), refl),
    inr (b, or_right (b == a) (b == b) (eq-eqb b b refl), refl),
  )
  needs_read (tac.Branch a x y) e = inr (a, eq-eqb a a refl, refl)
  needs_read (tac.Case a w x y) e = inr (a, eq-eqb a a refl, refl)
  needs_read (tac.Library r line d n next) e = by r e
    where
      first : (n == 1) ≡ true → ReadBy c (tac.Library r line d n next) (temporary_register c d)
      first e =
          let one = eqb-true n 1 e in
          inr (
            d,
            and_from (nat_le d d) (nat_lt d (d + n)) (le-leb d d (omega arith)) (lt-ltb d (d + n) (omega arith)),
            refl,
          )

      by : (q : Routine) → is_integer_instruction t (length (all_variables c)) (tac.Library q line d n next) ≡ true
          → NeedsArgument c (ReadBy c (tac.Library r line d n next)) q d
      by Putchar e = first e
      by Exit e = first e
      by _ e = tt
  needs_read (tac.Call f line d n next) e =
      λ j lt. inr (
        d + j,
        and_from (nat_le d (d + j)) (nat_lt (d + j) (d + n)) (le-leb d (d + j) (omega arith))
            (lt-ltb (d + j) (d + n) (omega arith)),
        refl,
      )
  needs_read (tac.Return a) e = inr (a, eq-eqb a a refl, refl)
  needs_read (tac.Constant d w next) e = tt
  needs_read (tac.ZeroOf kind d next) e = tt
  needs_read (tac.Turn counted next) e = tt
  needs_read _ e = absurd (false≢true e)

  -- a node that is safe
  pub record IsSafe (n : ℕ) : Type 0 where
    pub instruction : Instruction
    pub there : slice_get c.code n ≡ Some instruction
    pub part : is_integer_instruction t (length (all_variables c)) instruction ≡ true
    pub on : (m : ℕ) → LeadsTo instruction m → IsSafeFrom t c m

  pub safe_node : (n : ℕ) → IsSafeFrom t c n → IsSafe n
  unfolding SafeWithin
  safe_node n safe =
      let s = safe 1 in
      record {
        instruction = s.0;
        there = s.1;
        part = s.2;
        on = λ m l k.
            let s' = safe (suc k) in
            s'.3 m (subst (λ j. LeadsTo j m) (same_Some s.0 s'.0 (sym s.1 ∙ s'.1)) l);
      }

-- ---- the blocks of such instructions

makes_some : (p : FlatProgram) (f : ℕ) (gives : results_of (function_in p f) ≤ 1) (is : List FlatInstruction) (y : ℕ)
    → Makes p f gives is y → 0 < length is
makes_some p f gives [] y m = absurd m
makes_some p f gives (i ∷ is) y m = omega arith

-- what ends the run or returns
abbrev pub IsLast : Instruction → Type 0
IsLast (tac.Return a) = Unit {0}
IsLast (tac.Library Exit line d n next) = Unit {0}
IsLast (tac.Library Abort line d n next) = Unit {0}
IsLast _ = ⊥

zeros_flow : (p : FlatProgram) (f : ℕ) (gives : results_of (function_in p f) ≤ 1) (R : Registers) (r n : ℕ)
    → Flow p f gives ⊥ (λ y. Unit {0}) R (zeros r n)
zeros_flow p f gives R r zero = tt
zeros_flow p f gives R r (suc n) = (tt, tt, tt, zeros_flow p f gives (λ y. R y ⊎ (y ≡ r)) (r + 1) n)

prologue_flow : (p : FlatProgram) (f : ℕ) (gives : results_of (function_in p f) ≤ 1) (R : Registers) (r : ℕ)
    (vs : List Variable) → Flow p f gives ⊥ (λ y. Unit {0}) R (zero_variables r vs)
prologue_flow p f gives R r [] = tt
prologue_flow p f gives R r (v ∷ vs) =
    flow_append p f gives ⊥ (λ y. Unit {0}) R (if v.is_object then [] else zeros r (words_of v.kind))
    (zero_variables (r + words_of v.kind) vs) (by v.is_object)
    (λ S keeps makes. prologue_flow p f gives S (r + words_of v.kind) vs)
  where
    by : (b : Bool) → Flow p f gives ⊥ (λ y. Unit {0}) R (if b then [] else zeros r (words_of v.kind))
    by true = tt
    by false = zeros_flow p f gives R r (words_of v.kind)

module _ (m : MapSizes) (t : Tac) (c : CodeFunction) (p : FlatProgram) (f : ℕ)
    (gives : results_of (function_in p f) ≤ 1)
    (callees : (g n : ℕ) → takes (code_in t g) n ≡ true
    → (parameters_of (function_in p g) ≡ n) × (results_of (function_in p g) ≡ 1))
    (integers : are_integers (all_variables c) ≡ true) where
  abbrev body : List FlatInstruction
  body = body_of (block operators m t c) (prologue c) c

  abbrev Path : (steps place y : ℕ) → Type 0
  Path = ReadWithin p f gives body

  abbrev place : ℕ → ℕ
  place = place_of (block operators m t c) (prologue c) c

  abbrev Part : Instruction → Type 0
  Part i = is_integer_instruction t (length (all_variables c)) i ≡ true

  -- ---- jumps and ends

  along_jump : (x : FlatInstruction) (k pc q y : ℕ) → slice_get body pc ≡ Some x
      → (is_read (read_by p f x) y ≡ true → ⊥) → ((z : ℕ) → Leads x pc z → z ≡ q) → Path k pc y → Path k q y
  along_jump x zero pc q y at none to path = absurd path
  along_jump x (suc k) pc q y at none to path =
      let same = same_Some path.0 x (sym path.1 ∙ at) in
      ⊎_elim (λ e. absurd (none (subst (λ z. is_read (read_by p f z) y ≡ true) same e)))
      (λ on. longer p f gives body k q y
      (subst (λ z. Path k z y) (to on.1 (subst (λ z. Leads z pc on.1) same on.2)) on.3)) path.2

  along : (k pc q y : ℕ) → expanded.Leads body pc q → Path k pc y → Path k q y
  along k pc q y (expanded.Falls e) path = subst (λ z. Path k z y) e path
  along k pc q y (expanded.Forward past at e) path =
      along_jump (flat.JumpForward past) k pc q y at (reads_nothing y)
      (λ z l. ⊎_elim (λ h. sym (same_Some (pc + 1 + past) z h) ∙ e) (λ h. absurd (none-some z h)) l) path
  along k pc q y (expanded.Back back at e) path =
      along_jump (flat.JumpBack back) k pc q y at (reads_nothing y)
      (λ z l. ⊎_elim (λ h. sym (same_Some _ z h) ∙ e) (λ h. absurd (none-some z h)) l) path

  -- a path that begins with an instruction which leads nowhere is to what it reads
  halted : (R : Registers) (x : FlatInstruction) (k pc y : ℕ) → slice_get body pc ≡ Some x
      → Sources p f gives R x → ((z : ℕ) → Leads x pc z → ⊥) → Path k pc y → R y
  halted R x zero pc y at sources nowhere path = absurd path
  halted R x (suc k) pc y at sources nowhere path =
      let same = same_Some path.0 x (sym path.1 ∙ at) in
      ⊎_elim (λ e. sources_read p f gives R x y sources (subst (λ z. is_read (read_by p f z) y ≡ true) same e))
      (λ on. absurd (nowhere on.1 (subst (λ z. Leads z pc on.1) same on.2))) path.2

  -- ---- a node

  put : (n : ℕ) (i : Instruction) → slice_get c.code n ≡ Some i
      → expanded.IsPut operators m t c body place (place n) i
  put n i e = (function_expands operators m t c []).blocks n i e

  -- a path from a node: it is to a temporary that the instruction reads, or goes on from a node behind
  abbrev StepsOn : Instruction → (steps y : ℕ) → Type 0
  StepsOn i k y =
      ((z : ℕ) × (reads i z ≡ true) × (y ≡ temporary_register c z))
      ⊎ (((z : ℕ) → y ≡ temporary_register c z → writes i z ≡ false)
      × (n : ℕ) × LeadsTo i n × Path k (place n) y)

  -- a register that is no variable's
  no_variable : (i : Instruction) (k y : ℕ) → words_in (all_variables c) ≤ y → ReadBy c i y → StepsOn i k y
  no_variable i k y high (inl lt) = absurd (omega (arith, high, lt))
  no_variable i k y high (inr h) = inl h

  module _ (n : ℕ) (i : Instruction) (there : slice_get c.code n ≡ Some i) (part : Part i) (y : ℕ)
      (high : words_in (all_variables c) ≤ y) where
    low : temporaries i ≤ most_temporaries c.code
    low = most_at c.code n i there

    few : argument_count i ≤ free_count c
    few = let h = arguments_few c.code n i there in omega (arith, h)

    list_flow : Flow p f gives (Last i) (Role c) (ReadBy c i) (block operators m t c i)
    list_flow = block_flow m t c p f gives callees (ReadBy c i) i low few (needs_read t c integers i part)

    not_written : IsPassed i → (Makes p f gives (block operators m t c i) y → ⊥) → (z : ℕ)
        → y ≡ temporary_register c z → writes i z ≡ false
    not_written passed none z same =
        ⊎_elim
        (λ e. absurd (none (subst (Makes p f gives (block operators m t c i)) (sym same)
        (block_makes m t c p f gives callees (length (all_variables c)) i z part passed low few e))))
        (λ e. e) (cases_Bool (writes i z))

    -- behind the block
    behind : IsPassed i → (k : ℕ) → ((successors i ≡ []) → ⊥)
        → Gets p f gives body (Last i) (ReadBy c i) (block operators m t c i) k (place n) y
        → StepsOn i k y
    behind passed k some (inl r) = no_variable i k y high r
    behind passed k some (inr g) = by (successors i) refl (put n i there).leads
      where
        end : ℕ
        end = place n + length (block operators m t c i)

        no_two : (v : ℕ) → successors i ≡ v ∷ [] → Last i → ⊥
        no_two v e last =
            let two = two_ways i last in
            let l = ap length (sym e ∙ two.2) in
            absurd (omega (arith, l))

        among : (v : ℕ) (ns : List ℕ) → successors i ≡ ns → IsAmong v ns → LeadsTo i v
        among v ns e h = subst (IsAmong v) (sym e) h

        by : (ns : List ℕ) → successors i ≡ ns → expanded.LeadOn body place
            (place n + length (block operators m t c i)) (successors i) → StepsOn i k y
        by [] e leads = absurd (some e)
        by (v ∷ []) e leads =
            let lead = subst (expanded.LeadOn body place
            (place n + length (block operators m t c i))) e leads in
            ⊎_elim
            (λ path. inr (not_written passed g.0, v, among v (v ∷ []) e (inl refl), along k end (place v) y lead path))
            (λ path. absurd (no_two v e path.0)) g.1
        by (v ∷ w ∷ ns) e leads =
            let lead = subst (expanded.LeadOn body place
            (place n + length (block operators m t c i))) e leads in
            ⊎_elim
            (λ path. inr (
              not_written passed g.0,
              w,
              among w (v ∷ w ∷ ns) e (inr (inl refl)),
              along k end (place w) y lead.0 path,
            ))
            (λ path. inr (
              not_written passed g.0,
              v,
              among v (v ∷ w ∷ ns) e (inl refl),
              along k (end + 1) (place v) y lead.1 path.1,
            )) g.1

  made_some : (i : Instruction) (d : ℕ) → Part i → IsPassed i
      → temporaries i ≤ most_temporaries c.code → argument_count i ≤ free_count c → writes i d ≡ true
      → 0 < length (block operators m t c i)
  made_some i d part passed low few e =
      makes_some p f gives (block operators m t c i) (temporary_register c d)
      (block_makes m t c p f gives callees (length (all_variables c)) i d part passed low few e)

  block_some : (i : Instruction) → Part i → temporaries i ≤ most_temporaries c.code → argument_count i ≤ free_count c
      → 0 < length (block operators m t c i)
  block_some (tac.Constant d w next) e low few = made_some (tac.Constant d w next) d e tt low few (eq-eqb d d refl)
  block_some (tac.GetPlain d x next) e low few = omega arith
  block_some (tac.SetPlain x a next) e low few = omega arith
  block_some (tac.UpdatePlain w k g line d x right next) e low few =
      made_some (tac.UpdatePlain w k g line d x right next) d e tt low few (eq-eqb d d refl)
  block_some (tac.ZeroOf kind d next) e low few = omega arith
  block_some (tac.Convert kind d a next) e low few =
      made_some (tac.Convert kind d a next) d e tt low few (eq-eqb d d refl)
  block_some (tac.Unary op ty d a next) e low few =
      made_some (tac.Unary op ty d a next) d e tt low few (eq-eqb d d refl)
  block_some (tac.Binary op ty line d a b next) e low few =
      made_some (tac.Binary op ty line d a b next) d e tt low few (eq-eqb d d refl)
  block_some (tac.Branch a x y) e low few = omega arith
  block_some (tac.Case a w x y) e low few =
      let free = first_free c in
      let l = length-append (operators.constant free w (free + 1))
      (flat.Branch Beq (temporary_register c a) (Register free) 1 ∷ []) in
      omega (arith, l)
  block_some (tac.Turn counted next) e low few = omega arith
  block_some (tac.Library Putchar line d n next) e low few = omega arith
  block_some (tac.Library Getchar line d n next) e low few = omega arith
  block_some (tac.Library Exit line d n next) e low few = omega arith
  block_some (tac.Library Abort line d n next) e low few = omega arith
  block_some (tac.Call g line d n next) e low few =
      made_some (tac.Call g line d n next) d e tt low few (eq-eqb d d refl)
  block_some (tac.Return a) e low few = omega arith
  block_some _ e low few = absurd (false≢true e)

  -- it ends the run or returns, or the code goes on behind it
  goes_on : (i : Instruction) → Part i
      → IsLast i ⊎ (IsPassed i × ((successors i ≡ []) → ⊥))
  goes_on (tac.Return a) e = inl tt
  goes_on (tac.Library Exit line d n next) e = inl tt
  goes_on (tac.Library Abort line d n next) e = inl tt
  goes_on tac.Reserved e = absurd (false≢true e)
  goes_on _ e = inr (tt, λ s. absurd (let l = ap length s in omega arith))

  last_step : (i : Instruction) (n k y : ℕ) → IsLast i → slice_get c.code n ≡ Some i → Part i
      → words_in (all_variables c) ≤ y → Path (suc k) (place n) y → StepsOn i k y
  last_step (tac.Return a) n k y last there e high path =
      no_variable (tac.Return a) k y high
      (halted (ReadBy c (tac.Return a)) (flat.Return (temporary_register c a)) (suc k) (place n) y
      (put n (tac.Return a) there).has.0 (needs_read t c integers (tac.Return a) e)
      (λ z l. ⊎_elim (none-some z) (none-some z) l) path)
  last_step (tac.Library Exit line d q next) n k y last there e high path =
      let i = tac.Library Exit line d q next in
      no_variable i k y high
      (halted (ReadBy c i) (flat.Exit (temporary_register c d)) (suc k) (place n) y
      (put n i there).has.0 (needs_read t c integers i e) (λ z l. ⊎_elim (none-some z) (none-some z) l) path)
  last_step (tac.Library Abort line d q next) n k y last there e high path =
      let i = tac.Library Abort line d q next in
      no_variable i k y high
      (halted (ReadBy c i) (flat.End (AbortAt line)) (suc k) (place n) y
      (put n i there).has.0 tt (λ z l. ⊎_elim (none-some z) (none-some z) l) path)
  last_step _ n k y last there e high path = absurd last

  step_node : (n : ℕ) (i : Instruction) (k y : ℕ) → slice_get c.code n ≡ Some i → Part i
      → words_in (all_variables c) ≤ y → Path (suc k) (place n) y → StepsOn i k y
  step_node n i k y there part high path =
      ⊎_elim (λ last. last_step i n k y last there part high path)
      (λ on. behind n i there part y high on.0 k on.1
      (through_list p f gives body (Last i) (Role c) (ReadBy c i) (block operators m t c i)
      (block_some i part (low n i there part y high) (few n i there part y high)) k (place n) y
      (list_flow n i there part y high) (put n i there).has path))
      (goes_on i part)

  -- ---- paths over nodes

  pub live_from : (k n y : ℕ) → IsSafeFrom t c n → words_in (all_variables c) ≤ y → Path k (place n) y
      → (z : ℕ) × (y ≡ temporary_register c z) × LiveWithin c.code k n z
  unfolding LiveWithin
  live_from zero n y safe high path = absurd path
  live_from (suc k) n y safe high path =
      let s = safe_node t c integers n safe in
      ⊎_elim
      (λ h. (h.0, h.2, (s.instruction, s.there, inl h.1)))
      (λ h.
      let rest = live_from k h.1 y (s.on h.1 h.2) high h.3 in
      (rest.0, rest.1, (s.instruction, s.there, inr (h.0 rest.0 rest.1, h.1, h.2, rest.2))))
      (step_node n s.instruction k y s.there s.part high path)

  -- the prologue reads nothing
  pub from_entry : (k y : ℕ) → Path k 0 y → Path k (place c.entry) y
  from_entry k y path =
      let h = function_expands operators m t c [] in
      ⊎_elim (λ e. absurd e)
      (λ g. ⊎_elim
      (λ on.
      let z : 0 + length (prologue c) ≡ length (prologue c) = omega arith in
      along k (length (prologue c)) (place c.entry) y h.begins (subst (λ w. Path k w y) z on))
      (λ e. absurd e.0) g.1)
      (through_all p f gives body ⊥ (λ y. Unit {0}) (λ y. ⊥) (prologue c) k 0 y
      (prologue_flow p f gives (λ y. ⊥) (words_in c.parameters) c.variables) h.zeroed path)

  -- no register but a variable's is read on a path from the entry that does not make it, where no temporary is live
  pub none_read : ((z : ℕ) → IsLive c.code c.entry z → ⊥) → IsSafeFrom t c c.entry → (k y : ℕ)
      → words_in (all_variables c) ≤ y → Path k 0 y → ⊥
  none_read none safe k y high path =
      let live = live_from k c.entry y safe high (from_entry k y path) in
      none live.0 (record { steps = k; within = live.2 })
