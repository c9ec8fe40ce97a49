-- Behind what makes a register of a temporary or one for a block's own use the code comes from there alone.
use Rattle.std.proofs.Common.{◌≡◌, ⊎_elim, ℕ, zero, suc, ◌+◌, ◌<◌, ◌≤◌, refl, sym, ap, ◌∙◌}
use Rattle.std.proofs.Common.{subst, arith, Bool, true, false, List, [], ◌∷◌, ◌++◌, length, Some}
use Rattle.std.specs.Prelude.{slice_get, if◌then◌else◌}
use Rattle.std.proofs.lemmas.Bool.{cases_lt}
use Rattle.std.proofs.lemmas.Option.{same_Some, none-some, slice_get_within, slice_get-get_or}
use Rattle.std.proofs.lemmas.List.{drop_all}
use Rattle.addr_map.specs.Places.{MapSizes}
use Rattle.c_tree.specs.declared.expression.Routine.{Routine}
use Rattle.c_tree.specs.declared.expression.Routine.TheVariants.{Putchar, Exit}
use Rattle.c_tree.specs.declared.program.Variable.{Variable}
use Rattle.tac_ir.specs.declared.instruction.RightOperand.{RightOperand}
use Rattle.tac_ir.specs.declared.instruction.RightOperand.TheVariants.{Temporary, One}
use Rattle.tac_ir.specs.declared.instruction.Instruction.{Instruction}
use Rattle.tac_ir.specs.declared.instruction.Instruction.TheVariants as tac
use Rattle.tac_ir.specs.declared.function.CodeFunction.{CodeFunction}
use Rattle.tac_ir.specs.declared.function.Tac.{Tac}
use Rattle.tac_ir.specs.Meaning.{function_in as code_in}
use Rattle.tac_ir.specs.Edges.{successors}
use Rattle.tac_ir.specs.Temporaries.{temporaries, right_count}
use Rattle.flat_code.specs.declared.instruction.FlatInstruction.{FlatInstruction}
use Rattle.flat_code.specs.declared.instruction.FlatInstruction.TheVariants as flat
use Rattle.flat_code.specs.declared.function.FlatProgram.{FlatProgram}
use Rattle.flat_code.specs.Calls.{function_in}
use Rattle.flat_code.specs.Meaning.{parameters_of, results_of}
use Rattle.metadata_plan.specs.Registers.{words_of, words_in, all_variables, most_temporaries}
use Rattle.metadata_plan.specs.Part.{takes, are_integers}
use Rattle.metadata_plan.specs.Blocks.{block, prologue, zeros, zero_variables}
use Rattle.metadata_plan.specs.Laid.{jump, times_in, falls, jumps, jump_count, size_at, size_from, place_of}
use Rattle.metadata_plan.specs.Laid.{begin_code, body_of}
use Rattle.metadata_plan.specs.Laid.{laid_from}
use Rattle.metadata_plan.proofs.Numbers.{is_integer_variable, integers_words, integers_back, integers_front, most_at}
use Rattle.metadata_plan.proofs.Laying.{part_of, part_stands, next_place, begin_length, place_is, falls_to_next}
use Rattle.metadata_plan.specs.OperatorLists.Operators.{operators}
use Rattle.metadata_expansion.proofs.Laid.{arguments_few}
use Rattle.reg_plan.specs.Effects.{read_by, is_read, made_by, is_among, Leads}
use Rattle.reg_plan.specs.Needs.{MakesAt, LeadsAt}
use Rattle.image_laws.proofs.Plans.Flow.{Flow, one_is, one_has, reads_nothing, none_has, maker_onward, flow_names}
use Rattle.image_laws.proofs.Plans.Flow.{flow_leads}
use Rattle.image_laws.proofs.Plans.Roles.{Role, OfVariable, variable_role, temporary_role, variable_count}
use Rattle.image_laws.proofs.Plans.Blocks.{Last, Needs, NeedsRight, NeedsArgument, block_flow}
use Rattle.image_laws.proofs.Plans.Places.{get_append, get_left, get_right, has_get, jump_onward, jump_makes}
use Rattle.image_laws.proofs.Plans.Places.{jump_reads}
use Rattle.image_laws.proofs.Plans.Places.{IsJumped, entry_jumped, way_jumped, IsOfNode, body_at, part_has}
use Rattle.image_laws.proofs.Plans.Places.{Stands, InBlock, Jumps, stands_at, IsOfBegin, InBegin, Jumped, begin_at}
use Rattle.image_laws.proofs.Plans.Places.{begin_front}

-- ---- what an instruction needs

needs_role : (c : CodeFunction) (i : Instruction) → temporaries i ≤ most_temporaries c.code → Needs c (Role c) i
needs_role c (tac.GetPlain d x next) low = variable_role c x (omega arith)
needs_role c (tac.SetPlain x a next) low = temporary_role c a (omega arith)
needs_role c (tac.UpdatePlain w k f line d x right next) low = (variable_role c x (omega arith), by right (omega arith))
  where
    by : (right : RightOperand) → right_count right ≤ most_temporaries c.code → NeedsRight c (Role c) right
    by (Temporary b) low = temporary_role c b (omega arith)
    by One low = tt
needs_role c (tac.Convert kind d a next) low = temporary_role c a (omega arith)
needs_role c (tac.Unary op ty d a next) low = temporary_role c a (omega arith)
needs_role c (tac.Binary op ty line d a b next) low =
    (temporary_role c a (omega arith), temporary_role c b (omega arith))
needs_role c (tac.Branch a x y) low = temporary_role c a (omega arith)
needs_role c (tac.Case a w x y) low = temporary_role c a (omega arith)
needs_role c (tac.Library r line d n next) low = by r
  where
    by : (r : Routine) → NeedsArgument c (Role c) r d
    by Putchar = temporary_role c d (omega arith)
    by Exit = temporary_role c d (omega arith)
    by _ = tt
needs_role c (tac.Call f line d n next) low = λ j lt. temporary_role c (d + j) (omega arith)
needs_role c (tac.Return a) low = temporary_role c a (omega arith)
needs_role c _ low = tt

-- an instruction with no successor: its block is not empty, and what stands in it makes nothing
pub record IsSilent (p : FlatProgram) (is : List FlatInstruction) : Type 0 where
  pub some : 0 < length is
  pub all : (r : ℕ) (x : FlatInstruction) (y : ℕ) → slice_get is r ≡ Some x → is_among (made_by p x) y ≡ true → ⊥

silent_one : (p : FlatProgram) (i : FlatInstruction) → ((y : ℕ) → is_among (made_by p i) y ≡ true → ⊥)
    → IsSilent p (i ∷ [])
silent_one p i none = record { some = omega arith; all = by }
  where
    by : (r : ℕ) (x : FlatInstruction) (y : ℕ) → slice_get (i ∷ []) r ≡ Some x → is_among (made_by p x) y ≡ true → ⊥
    by zero x y e m = none y (subst (λ z. is_among (made_by p z) y ≡ true) (sym (same_Some i x e)) m)
    by (suc r) x y e m = none-some x e

silent_end : (m : MapSizes) (t : Tac) (c : CodeFunction) (p : FlatProgram) (i : Instruction) → successors i ≡ []
    → IsSilent p (block operators m t c i)
silent_end m t c p tac.Reserved e = silent_one p _ none_has
silent_end m t c p (tac.Return a) e = silent_one p _ none_has
silent_end m t c p _ e = absurd (let l = ap length e in omega arith)

pub two_ways : (i : Instruction) → Last i → (x : ℕ) × (y : ℕ) × (successors i ≡ x ∷ y ∷ [])
two_ways (tac.Branch a x y) l = (x, y, refl)
two_ways (tac.Case a w x y) l = (x, y, refl)
two_ways _ l = absurd l

-- ---- the prologue

zeroed_at : (vs : List Variable) (r k : ℕ) (x : FlatInstruction) → are_integers vs ≡ true
    → slice_get (zero_variables r vs) k ≡ Some x → (k < length vs) × (x ≡ flat.Constant (r + k) 0)
zeroed_at [] r k x e at = absurd (none-some x at)
zeroed_at (v ∷ vs) r k x e at =
    let h = is_integer_variable v vs e in
    by k (subst (λ w. slice_get (zeros r w ++ zero_variables (r + w) vs) k ≡ Some x) h.1
    (subst (λ b. slice_get ((if b then [] else zeros r (words_of v.kind)) ++ zero_variables (r + words_of v.kind) vs) k
    ≡ Some x) h.0 at))
    (λ j. zeroed_at vs (r + 1) j x h.2)
  where
    by : (k : ℕ) → slice_get (flat.Constant r 0 ∷ zero_variables (r + 1) vs) k ≡ Some x
        → ((j : ℕ) → slice_get (zero_variables (r + 1) vs) j ≡ Some x
        → (j < length vs) × (x ≡ flat.Constant (r + 1 + j) 0))
        → (k < length (v ∷ vs)) × (x ≡ flat.Constant (r + k) 0)
    by zero at ih =
        let z : r ≡ r + 0 = omega arith in
        (omega arith, sym (same_Some (flat.Constant r 0) x at) ∙ ap (λ n. flat.Constant n 0) z)
    by (suc j) at ih =
        let h = ih j at in
        let z : r + 1 + j ≡ r + suc j = omega arith in
        (omega (arith, h.0), h.1 ∙ ap (λ n. flat.Constant n 0) z)

pub zeroed_length : (vs : List Variable) (r : ℕ) → are_integers vs ≡ true → length (zero_variables r vs) ≡ length vs
zeroed_length [] r e = refl
zeroed_length (v ∷ vs) r e =
    let h = is_integer_variable v vs e in
    ap (λ b. length ((if b then [] else zeros r (words_of v.kind)) ++ zero_variables (r + words_of v.kind) vs)) h.0
    ∙ ap (λ w. length (zeros r w ++ zero_variables (r + w) vs)) h.1
    ∙ ap suc (zeroed_length vs (r + 1) h.2)

module _ (m : MapSizes) (t : Tac) (c : CodeFunction) (p : FlatProgram) (f : ℕ)
    (gives : results_of (function_in p f) ≤ 1)
    (callees : (g n : ℕ) → takes (code_in t g) n ≡ true
    → (parameters_of (function_in p g) ≡ n) × (results_of (function_in p g) ≡ 1))
    (integers : are_integers (all_variables c) ≡ true) where
  abbrev put : Instruction → List FlatInstruction
  put = block operators m t c

  abbrev body : List FlatInstruction
  body = body_of put (prologue c) c

  abbrev address : ℕ → ℕ
  address = place_of put (prologue c) c

  -- an instruction before all nodes: one of the prologue, or the jump to the entry
  pub data Begins (pc : ℕ) (x : FlatInstruction) : Type 0 where
    Zeroes : pc < length c.variables → x ≡ flat.Constant (length c.parameters + pc) 0 → Begins pc x
    Enters : x ≡ jump pc (address c.entry) → Begins pc x

  zeroes_at : (pc : ℕ) (x : FlatInstruction) → slice_get (prologue c) pc ≡ Some x
      → (pc < length c.variables) × (x ≡ flat.Constant (length c.parameters + pc) 0)
  zeroes_at pc x e =
      let own = integers_back c.parameters c.variables integers in
      let words = integers_words c.parameters (integers_front c.parameters c.variables integers) in
      let z = zeroed_at c.variables (words_in c.parameters) pc x own e in
      (z.0, z.1 ∙ ap (λ n. flat.Constant (n + pc) 0) words)

  pub begins_at : (pc : ℕ) (x : FlatInstruction) → slice_get (begin_code put (prologue c) c) pc ≡ Some x → Begins pc x
  begins_at pc x e = by (begin_at put (prologue c) c pc x e)
    where
      by : IsOfBegin put (prologue c) c pc x → Begins pc x
      by (InBegin h) = let z = zeroes_at pc x h in Zeroes z.0 z.1
      by (Jumped h) = Enters h

  -- the prologue stands at the front
  pub zero_at : (pc : ℕ) → pc < length c.variables
      → slice_get body pc ≡ Some (flat.Constant (length c.parameters + pc) 0)
  zero_at pc lt =
      let own = integers_back c.parameters c.variables integers in
      let long = zeroed_length c.variables (words_in c.parameters) own in
      let here = slice_get-get_or (prologue c) pc flat.Turn (omega (arith, long, lt)) in
      begin_front put (prologue c) c pc _ here ∙ ap Some (zeroes_at pc _ here).1

  flow : (n : ℕ) (i : Instruction) → slice_get c.code n ≡ Some i
      → Flow p f gives (Last i) (Role c) (Role c) (put i)
  flow n i e =
      let low = most_at c.code n i e in
      let few = arguments_few c.code n i e in
      block_flow m t c p f gives callees (Role c) i low (omega (arith, few)) (needs_role c i low)

  -- ---- the registers that are named

  pub record Names (x : FlatInstruction) (y : ℕ) : Type 0 where
    pub read : is_read (read_by p f x) y ≡ true → Role c y
    pub made : is_among (made_by p x) y ≡ true → Role c y

  names_jump : (a b y : ℕ) (x : FlatInstruction) → x ≡ jump a b → Names x y
  names_jump a b y x e = record {
    read = λ h. absurd (jump_reads p f a b y (subst (λ z. is_read (read_by p f z) y ≡ true) e h));
    made = λ h. absurd (jump_makes p a b y (subst (λ z. is_among (made_by p z) y ≡ true) e h));
  }

  pub named_at : (pc : ℕ) (x : FlatInstruction) (y : ℕ) → slice_get body pc ≡ Some x → Names x y
  named_at pc x y e = ⊎_elim (λ h. begins (begins_at pc x h)) (λ h. of_node h) (body_at put (prologue c) c pc x e)
    where
      begins : Begins pc x → Names x y
      begins (Enters h) = names_jump pc (address c.entry) y x h
      begins (Zeroes lt h) = record {
        read = λ r. absurd (reads_nothing y (subst (λ z. is_read (read_by p f z) y ≡ true) h r));
        made = λ r. let is = one_is (length c.parameters + pc) y (subst (λ z. is_among (made_by p z) y ≡ true) h r) in
            OfVariable (omega (arith, is, lt, variable_count c integers));
      }

      of_node : IsOfNode put (prologue c) c pc x → Names x y
      of_node h = by (stands_at put (prologue c) c h.node h.instruction h.offset pc x h.place_is h.at)
        where
          by : Stands put (prologue c) c h.node h.instruction h.offset pc x → Names x y
          by (InBlock at) =
              let g = flow_names p f gives (Last h.instruction) (Role c) (Role c)
              (put h.instruction) h.offset x (λ z r. r) (flow h.node h.instruction h.there) at y in
              record { read = g.0; made = g.1 }
          by (Jumps le w is way) = names_jump pc (address w) y x is

  -- ---- where instructions lead

  pub data LeadsTo (pc q : ℕ) : Type 0 where
    Next : q ≡ pc + 1 → LeadsTo pc q
    Past : (z : FlatInstruction) → q ≡ pc + 2 → slice_get body (pc + 1) ≡ Some z
        → ((y : ℕ) → is_among (made_by p z) y ≡ true → ⊥) → LeadsTo pc q
    To : (w : ℕ) → q ≡ address w → IsJumped c w → LeadsTo pc q

  leads_jump : (pc q w : ℕ) (x : FlatInstruction) → IsJumped c w → x ≡ jump pc (address w)
      → Leads x pc q → LeadsTo pc q
  leads_jump pc q w x jumped e l =
      To w (jump_onward pc (address w) q (subst (λ z. Leads z pc q) e l)) jumped

  pub leads_at : (pc q : ℕ) (x : FlatInstruction) → slice_get body pc ≡ Some x → Leads x pc q
      → LeadsTo pc q
  leads_at pc q x e l = ⊎_elim (λ h. begins (begins_at pc x h)) (λ h. of_node h) (body_at put (prologue c) c pc x e)
    where
      begins : Begins pc x → LeadsTo pc q
      begins (Enters h) = leads_jump pc q c.entry x (entry_jumped c) h l
      begins (Zeroes lt h) =
          let n = length c.parameters + pc in
          Next (maker_onward p f gives x n pc q
          (subst (λ z. is_among (made_by p z) n ≡ true) (sym h) (one_has n)) l)

      of_node : IsOfNode put (prologue c) c pc x → LeadsTo pc q
      of_node h = by (stands_at put (prologue c) c h.node h.instruction h.offset pc x h.place_is h.at)
        where
          whole : (z : FlatInstruction)
              → slice_get (part_of put (prologue c) c h.node h.instruction) (suc h.offset) ≡ Some z
              → slice_get body (pc + 1) ≡ Some z
          whole z at =
              let place : address h.node + suc h.offset ≡ pc + 1 = omega (arith, h.place_is) in
              ap (slice_get body) (sym place)
              ∙ has_get body (part_of put (prologue c) c h.node h.instruction)
              (address h.node) (suc h.offset) z
              (part_stands put (prologue c) c h.node h.instruction h.there) at

          by : Stands put (prologue c) c h.node h.instruction h.offset pc x → LeadsTo pc q
          by (Jumps le w is way) = leads_jump pc q w x (way_jumped c h.node w h.instruction h.there way) is l
          by (InBlock at) =
              let list = put h.instruction in
              let behind = address h.node + length list in
              ⊎_elim Next
              (λ two. ⊎_elim
              (λ passed. Past passed.0 two.0
              (whole passed.0 (get_left list
              (jumps c address h.node behind (successors h.instruction)) (suc h.offset) passed.0
              passed.1)) passed.2)
              (λ last.
              let ways = two_ways h.instruction last.0 in
              let to = address ways.1 in
              let first : slice_get (jumps c address h.node behind (successors h.instruction)) 0
              ≡ Some (jump behind to) =
              ap (λ ns. slice_get (jumps c address h.node behind ns) 0) ways.2 in
              let seam : suc h.offset ≡ length list + 0 = omega (arith, last.1) in
              Past (jump behind to) two.0
              (whole (jump behind to) (get_right list
              (jumps c address h.node behind (successors h.instruction)) (suc h.offset) 0 seam
              ∙ first)) (jump_makes p behind to))
              two.1)
              (flow_leads p f gives (Last h.instruction) (Role c) (Role c) list h.offset x
              (flow h.node h.instruction h.there) at pc q l)

  -- ---- before a node

  -- the node before falls into this one
  pub record FallsFromBefore (w : ℕ) : Type 0 where
    pub instruction : Instruction
    pub there : slice_get c.code (suc w) ≡ Some instruction
    pub one : successors instruction ≡ w ∷ []
    pub fallen : falls c (suc w) w ≡ true

  module _ (w pc : ℕ) (x : FlatInstruction) (y : ℕ) (behind : address w ≡ pc + 1)
      (at : slice_get body pc ≡ Some x) (makes : is_among (made_by p x) y ≡ true)
      (high : words_in (all_variables c) ≤ y) where
    -- at this place none stands that makes nothing
    not_silent : (z : FlatInstruction) → slice_get body pc ≡ Some z
        → (is_among (made_by p z) y ≡ true → ⊥) → ⊥
    not_silent z e none =
        none (subst (λ i. is_among (made_by p i) y ≡ true) (same_Some x z (sym at ∙ e)) makes)

    past_all : length c.code ≤ suc w → ⊥
    past_all le =
        let none = drop_all (suc w) c.code le in
        let size = ap (size_from put (prologue c) c (suc w)) none in
        let first = place_is put (prologue c) c w in
        let begin = begin_length put (prologue c) c in
        ⊎_elim (λ h. by (begins_at pc x h))
        (λ h. absurd (omega (arith, h.1, begin, size, first, behind)))
        (get_append (begin_code put (prologue c) c) (laid_from put (prologue c) c 0 c.code) pc x at)
      where
        by : Begins pc x → ⊥
        by (Enters h) =
            jump_makes p pc (address c.entry) y
            (subst (λ z. is_among (made_by p z) y ≡ true) h makes)
        by (Zeroes lt h) =
            let is = one_is (length c.parameters + pc) y (subst (λ z. is_among (made_by p z) y ≡ true) h makes) in
            absurd (omega (arith, is, lt, variable_count c integers, high))

    module _ (i : Instruction) (there : slice_get c.code (suc w) ≡ Some i) where
      -- the place is the last of the node before
      last_of_all : (r : ℕ) → size_at put (prologue c) c (suc w) i ≡ suc r → (z : FlatInstruction)
          × Stands put (prologue c) c (suc w) i r pc z × (slice_get body pc ≡ Some z)
      last_of_all r size =
          let next = next_place put (prologue c) c (suc w) i there w (omega arith) in
          let place : pc ≡ address (suc w) + r = omega (arith, next, size, behind) in
          let z = part_has put (prologue c) c (suc w) i r there (omega (arith, size)) in (
            z.0,
            stands_at put (prologue c) c (suc w) i r pc z.0 place z.1,
            ap (slice_get body) place ∙ z.2,
          )

      -- a jump stands there
      no_jump : (r : ℕ) → size_at put (prologue c) c (suc w) i ≡ suc r → length (put i) ≤ r → ⊥
      no_jump r size le =
          let z = last_of_all r size in
          by z.0 z.1 z.2
        where
          by : (z : FlatInstruction) → Stands put (prologue c) c (suc w) i r pc z → slice_get body pc ≡ Some z → ⊥
          by z (InBlock e) there =
              let lt = slice_get_within (put i) r z e in
              absurd (omega (arith, lt, le))
          by z (Jumps le' v is way) there =
              not_silent z there
              (λ h. jump_makes p pc (address v) y (subst (λ j. is_among (made_by p j) y ≡ true) is h))

      -- a block that ends the run or returns stands there
      no_end : successors i ≡ [] → ⊥
      no_end none = by (length (put i)) refl
        where
          silent : IsSilent p (put i)
          silent = silent_end m t c p i none

          only : (r : ℕ) (z : FlatInstruction) → Stands put (prologue c) c (suc w) i r pc z
              → slice_get body pc ≡ Some z → ⊥
          only r z (InBlock e) there = not_silent z there (silent.all r z y e)
          only r z (Jumps le v is way) there =
              let no : 1 ≤ times_in v [] = subst (λ ns. 1 ≤ times_in v ns) none way.is in
              absurd (omega (arith, no))

          by : (n : ℕ) → length (put i) ≡ n → ⊥
          by zero e = absurd (omega (arith, silent.some, e))
          by (suc r) e =
              let count = ap (jump_count c (suc w)) none in
              let z = last_of_all r (omega (arith, e, count)) in
              only r z.0 z.1 z.2

      pub from_before : FallsFromBefore w
      from_before = by (successors i) refl
        where
          by : (ns : List ℕ) → successors i ≡ ns → FallsFromBefore w
          by [] e = absurd (no_end e)
          by (v ∷ []) e = one_way (falls c (suc w) v) refl
            where
              one_way : (b : Bool) → falls c (suc w) v ≡ b → FallsFromBefore w
              one_way true h =
                  let same : v ≡ w = let s = falls_to_next c (suc w) v h in omega (arith, s) in
                  record {
                    instruction = i;
                    there = there;
                    one = e ∙ ap (λ z. z ∷ []) same;
                    fallen = ap (falls c (suc w)) (sym same) ∙ h;
                  }
              one_way false h =
                  let jumps = ap (jump_count c (suc w)) e ∙ ap (λ b. if b then 0 else 1) h in
                  let size : size_at put (prologue c) c (suc w) i ≡ suc (length (put i)) =
                  omega (arith, jumps) in
                  absurd (no_jump (length (put i)) size (omega arith))
          by (v ∷ u ∷ ns) e =
              let jumps = ap (jump_count c (suc w)) e in
              let rest = if falls c (suc w) v then 0 else 1 in
              let size : size_at put (prologue c) c (suc w) i ≡ suc (length (put i) + rest) =
              omega (arith, jumps) in
              absurd (no_jump (length (put i) + rest) size (omega arith))

    pub before : FallsFromBefore w
    before =
        ⊎_elim
        (λ lt. from_before _ (slice_get-get_or c.code (suc w) tac.Reserved lt))
        (λ le. absurd (past_all le))
        (cases_lt (suc w) (length c.code))

  -- ---- only one way leads there

  pub one_predecessor : (pc pc' q y : ℕ) → words_in (all_variables c) ≤ y → LeadsAt body pc' q
      → MakesAt p body pc' y → LeadsAt body pc q → pc ≡ pc'
  one_predecessor pc pc' q y high leads makes other =
      let same = same_Some makes.0 leads.0 (sym makes.1 ∙ leads.1) in
      let made : is_among (made_by p leads.0) y ≡ true =
      subst (λ z. is_among (made_by p z) y ≡ true) same makes.2 in
      let next = maker_onward p f gives leads.0 y pc' q made leads.2 in
      by next made (leads_at pc q other.0 other.1 other.2)
    where
      by : q ≡ pc' + 1 → is_among (made_by p leads.0) y ≡ true → LeadsTo pc q → pc ≡ pc'
      by next made (Next e) = omega (arith, next, e)
      by next made (Past z e at none) =
          let place : pc + 1 ≡ pc' = omega (arith, next, e) in
          let same = same_Some leads.0 z (sym leads.1 ∙ ap (slice_get body) (sym place) ∙ at) in
          absurd (none y (subst (λ i. is_among (made_by p i) y ≡ true) same made))
      by next made (To w e jumped) =
          let h = before w pc' leads.0 y (sym e ∙ next) leads.1 made high in
          absurd (jumped h.instruction h.there h.one h.fallen)
