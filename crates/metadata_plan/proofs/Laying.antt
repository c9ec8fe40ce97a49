-- Blocks that are laid one behind the other make an expansion.
use Rattle.std.proofs.Common.{◌≡◌, ℕ, zero, suc, ◌+◌, ◌-◌, ◌<◌, refl, sym, ap, ◌∙◌, subst, arith, Bool, true}
use Rattle.std.proofs.Common.{false, List, [], ◌∷◌, ◌++◌, length, length-append, append_assoc, append-nil, drop, Some}
use Rattle.std.proofs.Common.{ltb-true, ltb-false}
use Rattle.std.specs.Prelude.{slice_get, nat_lt, ◌==◌, not, ◌&&◌, if◌then◌else◌}
use Rattle.std.proofs.Math.Seq.{get_or-append_seam}
use Rattle.std.proofs.lemmas.List.{drop_all}
use Rattle.std.proofs.lemmas.Option.{slice_get-get_or}
use Rattle.std.proofs.lemmas.Bool.{eqb-true}
use Rattle.addr_map.specs.Places.{MapSizes, region_size}
use Rattle.tac_ir.specs.declared.instruction.Instruction.{Instruction}
use Rattle.tac_ir.specs.declared.function.CodeFunction.{CodeFunction}
use Rattle.tac_ir.specs.declared.function.Tac.{Tac}
use Rattle.tac_ir.specs.Edges.{successors}
use Rattle.flat_code.specs.declared.instruction.FlatInstruction.{FlatInstruction}
use Rattle.flat_code.specs.declared.instruction.FlatInstruction.TheVariants.{JumpForward, JumpBack}
use Rattle.flat_code.specs.declared.function.FlatFunction.{FlatFunction}
use Rattle.flat_code.specs.Routines.Routine.{HasAt}
use Rattle.flat_code.proofs.Routines.Steps.{has_front, has_back}
use Rattle.metadata_plan.specs.Operators.{OperatorCode}
use Rattle.metadata_plan.specs.Blocks.{block, prologue}
use Rattle.metadata_plan.specs.Expanded.{Leads, Falls, Forward, Back, LeadOn, IsExpandedFunction, ExpandsAt}
use Rattle.metadata_plan.specs.Expanded.{EntersAt, IsExpanded}
use Rattle.metadata_plan.specs.Laid.{jump, jump_unless, falls, is_join, jumps, jump_count, size_at, size_from}
use Rattle.metadata_plan.specs.Laid.{begin_size, place_of, laid_from, begin_code, body_of, function_of, functions_of}
use Rattle.metadata_plan.specs.Laid.{entry_of, address_of, place_in, program_of}

-- ---- what stands in a list

pub has_all : (is pre : List FlatInstruction) → HasAt (pre ++ is) (length pre) is
has_all [] pre = tt
has_all (i ∷ is) pre =
    let within : length pre < length (pre ++ i ∷ is) = omega (arith, length-append pre (i ∷ is)) in
    let here = slice_get-get_or (pre ++ i ∷ is) (length pre) i within ∙ ap Some (get_or-append_seam pre i is i) in
    let n : length (pre ++ i ∷ []) ≡ length pre + 1 = omega (arith, length-append pre (i ∷ [])) in
    let rest = has_all is (pre ++ i ∷ []) in
    let rest' = subst (λ l. HasAt l (length (pre ++ i ∷ [])) is) (append_assoc pre (i ∷ []) is) rest in
    (here, subst (λ m. HasAt (pre ++ i ∷ is) m is) n rest')

jump_leads : (body : List FlatInstruction) (p q : ℕ) → slice_get body p ≡ Some (jump p q) → Leads body p q
jump_leads body p q at = by (nat_lt p q) refl
  where
    by : (b : Bool) → nat_lt p q ≡ b → Leads body p q
    by true e = let lt = ltb-true p q e in
        Forward (q - (p + 1)) (at ∙ ap (λ b. Some (if b then JumpForward (q - (p + 1)) else JumpBack (p - q))) e)
        (omega arith)
    by false e = let le = ltb-false p q e in
        Back (p - q) (at ∙ ap (λ b. Some (if b then JumpForward (q - (p + 1)) else JumpBack (p - q))) e) (omega arith)

pub falls_to_next : (c : CodeFunction) (n next : ℕ) → falls c n next ≡ true → next + 1 ≡ n
unfolding falls
falls_to_next c n next e = by (next + 1 == n) refl e
  where
    by : (b : Bool) → (next + 1 == n) ≡ b → (b && not (is_join c next)) ≡ true → next + 1 ≡ n
    by true e fallen = eqb-true (next + 1) n e
    by false e fallen = cc

-- to the next node the code falls, or a jump leads there
unless_leads : (body : List FlatInstruction) (fallen : Bool) (p q : ℕ) → HasAt body p (jump_unless fallen p q)
    → (fallen ≡ true → p ≡ q) → Leads body p q
unless_leads body true p q has there = Falls (there refl)
unless_leads body false p q has there = jump_leads body p q has.0

unless_length : (fallen : Bool) (p q : ℕ) → length (jump_unless fallen p q) ≡ (if fallen then 0 else 1)
unless_length true p q = refl
unless_length false p q = refl

pub jumps_length : (c : CodeFunction) (address : ℕ → ℕ) (n pc : ℕ) (ns : List ℕ)
    → length (jumps c address n pc ns) ≡ jump_count c n ns
jumps_length c address n pc [] = refl
jumps_length c address n pc (x ∷ []) = unless_length (falls c n x) pc (address x)
jumps_length c address n pc (x ∷ y ∷ ns) =
    let e = unless_length (falls c n x) (pc + 1) (address x) in
    omega arith

-- the instructions from a place on begin with the one that stands there
pub drop_at : (is : List Instruction) (n : ℕ) (i : Instruction) → slice_get is n ≡ Some i
    → drop n is ≡ i ∷ drop (suc n) is
drop_at [] n i e = cc
drop_at (x ∷ is) zero i e = let same : x ≡ i = cc in ap (λ z. z ∷ is) same
drop_at (x ∷ is) (suc n) i e = drop_at is n i e

abbrev one_unless : Bool → ℕ
one_unless b = if b then 0 else 1

module _ (put : Instruction → List FlatInstruction) (begin : List FlatInstruction) (c : CodeFunction) where
  abbrev place : ℕ → ℕ
  place = place_of put begin c

  abbrev pub part_of : (node : ℕ) → Instruction → List FlatInstruction
  part_of n i =
      put i
      ++ jumps c (place_of put begin c) n (place_of put begin c n + length (put i)) (successors i)

  pub part_length : (n : ℕ) (i : Instruction) → length (part_of n i) ≡ size_at put begin c n i
  part_length n i =
      let b = put i in
      let js = jumps c (place_of put begin c) n (place_of put begin c n + length b) (successors i) in
      omega (
        arith,
        length-append b js,
        jumps_length c (place_of put begin c) n (place_of put begin c n + length b)
            (successors i),
      )

  pub laid_length : (n : ℕ) (is : List Instruction) → length (laid_from put begin c n is) ≡ size_from put begin c n is
  laid_length n [] = refl
  laid_length n (i ∷ is) =
      omega (
        arith,
        length-append (laid_from put begin c (suc n) is) (part_of n i),
        laid_length (suc n) is,
        part_length n i,
      )

  -- the part of a node stands behind those of the higher ones
  record Splits (first n : ℕ) (is : List Instruction) (i : Instruction) : Type 0 where
    rest : List FlatInstruction
    split : laid_from put begin c first is
        ≡ laid_from put begin c (suc (first + n)) (drop (suc n) is) ++ (part_of (first + n) i ++ rest)

  splits : (first n : ℕ) (is : List Instruction) (i : Instruction) → slice_get is n ≡ Some i → Splits first n is i
  splits first n [] i e = cc
  splits first zero (x ∷ is) i e =
      let same : x ≡ i = cc in
      let at : first ≡ first + 0 = omega arith in
      let before = laid_from put begin c (suc first) is in
      record {
        rest = [];
        split = ap (λ z. before ++ part_of first z) same
            ∙ ap (λ z. before ++ z) (sym (append-nil (part_of first i)))
            ∙ ap (λ z. laid_from put begin c (suc z) is ++ (part_of z i ++ [])) at;
      }
  splits first (suc n) (x ∷ is) i e =
      let h = splits (suc first) n is i e in
      let at : suc first + n ≡ first + suc n = omega arith in
      let before = laid_from put begin c (suc (suc first + n)) (drop (suc n) is) in
      let own = part_of (suc first + n) i in
      record {
        rest = h.rest ++ part_of first x;
        split = ap (λ z. z ++ part_of first x) h.split
            ∙ append_assoc before (own ++ h.rest) (part_of first x)
            ∙ ap (λ z. before ++ z) (append_assoc own h.rest (part_of first x))
            ∙ ap (λ z. laid_from put begin c (suc z) (drop (suc n) is)
            ++ (part_of z i ++ (h.rest ++ part_of first x))) at;
      }

  pub begin_jump : List FlatInstruction
  begin_jump =
      if c.entry + 1 == length c.code
      then []
      else jump (length begin) (place_of put begin c c.entry) ∷ []

  pub jump_length : length begin_jump ≡ one_unless (c.entry + 1 == length c.code)
  unfolding begin_jump
  jump_length = by (c.entry + 1 == length c.code)
    where
      by : (b : Bool)
          → length (if b then [] else jump (length begin) (place_of put begin c c.entry) ∷ []) ≡ one_unless b
      by true = refl
      by false = refl

  pub begin_is : begin_code put begin c ≡ begin ++ begin_jump
  unfolding begin_jump
  begin_is = refl

  pub begin_length : length (begin_code put begin c) ≡ begin_size put begin c
  begin_length =
      ap length begin_is ∙ length-append begin begin_jump ∙ ap (λ z. length begin + z) jump_length

  pub place_is : (n : ℕ)
      → place_of put begin c n ≡ begin_size put begin c + size_from put begin c (suc n) (drop (suc n) c.code)
  unfolding place_of
  place_is n = refl

  pub part_stands : (n : ℕ) (i : Instruction) → slice_get c.code n ≡ Some i
      → HasAt (body_of put begin c) (place_of put begin c n) (part_of n i)
  part_stands n i e =
      let h = splits 0 n c.code i e in
      let front = begin_code put begin c in
      let at : 0 + n ≡ n = omega arith in
      let before = laid_from put begin c (suc (0 + n)) (drop (suc n) c.code) in
      let own = part_of (0 + n) i in
      let whole : front ++ laid_from put begin c 0 c.code ≡ (front ++ before) ++ (own ++ h.rest) =
      ap (λ z. front ++ z) h.split ∙ sym (append_assoc front before (own ++ h.rest)) in
      let there = has_front ((front ++ before) ++ (own ++ h.rest)) (length (front ++ before)) own h.rest
      (has_all (own ++ h.rest) (front ++ before)) in
      let place_at : length (front ++ before) ≡ place_of put begin c n =
      length-append front before ∙ ap (λ z. z + length before) begin_length
      ∙ ap (λ z. begin_size put begin c + z) (laid_length (suc (0 + n)) (drop (suc n) c.code))
      ∙ ap (λ z. begin_size put begin c + size_from put begin c (suc z) (drop (suc n) c.code)) at
      ∙ sym (place_is n) in
      subst (λ z. HasAt (body_of put begin c) (place_of put begin c n) (part_of z i)) at
      (subst (λ z. HasAt (body_of put begin c) z own) place_at
      (subst (λ z. HasAt z (length (front ++ before)) own) (sym whole) there))

  -- the next node stands behind all that a node has
  pub next_place : (n : ℕ) (i : Instruction) → slice_get c.code n ≡ Some i → (next : ℕ) → next + 1 ≡ n
      → place_of put begin c next ≡ place_of put begin c n + size_at put begin c n i
  next_place n i e next is_next =
      let at : suc next ≡ n = omega arith in
      let tail = ap (size_from put begin c n) (drop_at c.code n i e) in
      let from = ap (λ z. size_from put begin c z (drop z c.code)) at in
      omega (arith, place_is next, place_is n)

  leads : (n : ℕ) (i : Instruction) → slice_get c.code n ≡ Some i → (ns : List ℕ) → successors i ≡ ns
      → HasAt (body_of put begin c) (place_of put begin c n + length (put i))
      (jumps c (place_of put begin c) n (place_of put begin c n + length (put i)) ns)
      → LeadOn (body_of put begin c) (place_of put begin c) (place_of put begin c n + length (put i)) ns
  leads n i e [] is has = tt
  leads n i e (x ∷ []) is has =
      unless_leads (body_of put begin c) (falls c n x) (place_of put begin c n + length (put i))
      (place_of put begin c x) has
      (λ fallen. behind fallen (next_place n i e x (falls_to_next c n x fallen)))
    where
      behind : falls c n x ≡ true → place_of put begin c x ≡ place_of put begin c n + size_at put begin c n i
          → place_of put begin c n + length (put i) ≡ place_of put begin c x
      behind fallen at =
          let count : jump_count c n (successors i) ≡ one_unless (falls c n x) = ap (jump_count c n) is in
          let none = ap one_unless fallen in
          let size : size_at put begin c n i ≡ length (put i) + jump_count c n (successors i) = refl in
          omega (arith, at, count, none, size)
  leads n i e (x ∷ y ∷ ns) is has = (
    jump_leads (body_of put begin c) (place_of put begin c n + length (put i)) (place_of put begin c y) has.0,
    unless_leads (body_of put begin c) (falls c n x) (place_of put begin c n + length (put i) + 1)
        (place_of put begin c x)
        has.1 (λ fallen. behind fallen (next_place n i e x (falls_to_next c n x fallen))),
  )
    where
      behind : falls c n x ≡ true → place_of put begin c x ≡ place_of put begin c n + size_at put begin c n i
          → place_of put begin c n + length (put i) + 1 ≡ place_of put begin c x
      behind fallen at =
          let count : jump_count c n (successors i) ≡ 1 + one_unless (falls c n x) = ap (jump_count c n) is in
          let none = ap one_unless fallen in
          let size : size_at put begin c n i ≡ length (put i) + jump_count c n (successors i) = refl in
          omega (arith, at, count, none, size)

  -- the block of a node stands at its place, and behind it the code leads on
  pub block_stands : (n : ℕ) (i : Instruction) → slice_get c.code n ≡ Some i
      → HasAt (body_of put begin c) (place_of put begin c n) (put i)
  block_stands n i e =
      let pc = place_of put begin c n in
      let js = jumps c (place_of put begin c) n (pc + length (put i)) (successors i) in
      has_front (body_of put begin c) pc (put i) js (part_stands n i e)

  pub leads_on : (n : ℕ) (i : Instruction) → slice_get c.code n ≡ Some i
      → LeadOn (body_of put begin c) (place_of put begin c) (place_of put begin c n + length (put i)) (successors i)
  leads_on n i e =
      let pc = place_of put begin c n in
      let js = jumps c (place_of put begin c) n (pc + length (put i)) (successors i) in
      leads n i e (successors i) refl (has_back (body_of put begin c) pc (put i) js (part_stands n i e))

  begin_and_jump : HasAt (body_of put begin c) 0 (begin ++ begin_jump)
  begin_and_jump =
      let all = has_all ((begin ++ begin_jump) ++ laid_from put begin c 0 c.code) [] in
      let front = has_front ((begin ++ begin_jump) ++ laid_from put begin c 0 c.code) 0 (begin ++ begin_jump)
      (laid_from put begin c 0 c.code) all in
      subst (λ z. HasAt (z ++ laid_from put begin c 0 c.code) 0 (begin ++ begin_jump)) (sym begin_is) front

  pub begin_stands : HasAt (body_of put begin c) 0 begin
  begin_stands = has_front (body_of put begin c) 0 begin begin_jump begin_and_jump

  pub begins : Leads (body_of put begin c) (length begin) (place_of put begin c c.entry)
  unfolding begin_jump
  begins = by (c.entry + 1 == length c.code) refl
      (has_back (body_of put begin c) 0 begin begin_jump begin_and_jump)
    where
      by : (b : Bool) → (c.entry + 1 == length c.code) ≡ b → HasAt (body_of put begin c) (0 + length begin)
          (if c.entry + 1 == length c.code
          then []
          else jump (length begin) (place_of put begin c c.entry) ∷ [])
          → Leads (body_of put begin c) (length begin) (place_of put begin c c.entry)
      by true e has =
          let size : one_unless (c.entry + 1 == length c.code) ≡ 0 = ap one_unless e in
          let last : suc c.entry ≡ length c.code = let a = eqb-true (c.entry + 1) (length c.code) e in omega arith in
          let none = drop_all (suc c.entry) c.code (omega arith) in
          let rest = ap (size_from put begin c (suc c.entry)) none in
          Falls (omega (arith, place_is c.entry, size, rest))
      by false e has =
          let there = subst (λ z. HasAt (body_of put begin c) (0 + length begin)
          (if z then [] else jump (length begin) (place_of put begin c c.entry) ∷ [])) e has in
          let at : 0 + length begin ≡ length begin = omega arith in
          jump_leads (body_of put begin c) (length begin) (place_of put begin c c.entry)
          (ap (slice_get (body_of put begin c)) (sym at) ∙ there.0)

-- ---- programs of integers

module _ (o : OperatorCode) (m : MapSizes) (t : Tac) (c : CodeFunction) where
  abbrev put : Instruction → List FlatInstruction
  put = block o m t c

  pub function_expands : (homes : List ℕ)
      → IsExpandedFunction o m t c (place_of put (prologue c) c) (function_of o m t c homes)
  function_expands homes = record {
    parameters = refl;
    results = refl;
    room = refl;
    of_program = refl;
    zeroed = begin_stands put (prologue c) c;
    begins = begins put (prologue c) c;
    blocks = λ n i e. record {
      has = block_stands put (prologue c) c n i e;
      leads = leads_on put (prologue c) c n i e;
    };
  }

module _ (o : OperatorCode) (m : MapSizes) (t : Tac) (homes : CodeFunction → List ℕ) where
  pub functions_at : (cs : List CodeFunction) (last : List FlatFunction) (u : ℕ) (c : CodeFunction)
      → slice_get cs u ≡ Some c
      → slice_get (functions_of o m t homes cs ++ last) u ≡ Some (function_of o m t c (homes c))
  functions_at [] last u c e = cc
  functions_at (x ∷ cs) last zero c e = let same : x ≡ c = cc in ap (λ z. Some (function_of o m t z (homes z))) same
  functions_at (x ∷ cs) last (suc u) c e = functions_at cs last u c e

  pub entry_at : (cs : List CodeFunction) (f : FlatFunction)
      → slice_get (functions_of o m t homes cs ++ (f ∷ [])) (length cs) ≡ Some f
  entry_at [] f = refl
  entry_at (x ∷ cs) f = entry_at cs f

  enters : EntersAt m t (Some (entry_of m t))
  unfolding region_size
  enters = record { parameters = refl; of_runtime = refl; room = omega arith; body = refl }

  pub program_expands : IsExpanded o m t (address_of o m t) (program_of o m t homes)
  program_expands = record {
    functions = λ u c e.
        subst (ExpandsAt o m t c (address_of o m t u)) (sym (functions_at t.functions (entry_of m t ∷ []) u c e))
        (subst (λ z. IsExpandedFunction o m t c (place_in o m t z) (function_of o m t c (homes c))) (sym e)
        (function_expands o m t c (homes c)));
    entry = subst (EntersAt m t) (sym (entry_at t.functions (entry_of m t))) enters;
  }
