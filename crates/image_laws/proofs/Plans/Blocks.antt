-- The blocks of three-address code: what they read and make.
use Rattle.std.proofs.Common.{◌≡◌, inl, inr, ℕ, zero, suc, ◌+◌, ◌<◌, ◌≤◌, refl, sym, subst}
use Rattle.std.proofs.Common.{arith, Bool, true, false, List, [], ◌∷◌, ◌++◌}
use Rattle.std.specs.Prelude.{◌==◌, nat_lt, if◌then◌else◌}
use Rattle.std.proofs.lemmas.Bool.{eqb-true, false≢true, and_parts}
use Rattle.addr_map.specs.Places.{MapSizes}
use Rattle.sb_base.specs.declared.ending.Ending.TheVariants.{Abort as AbortAt}
use Rattle.obj_memory.specs.declared.int_type.IntType.{IntType}
use Rattle.obj_memory.specs.declared.int_type.IntType.TheVariants.{UnsignedChar}
use Rattle.obj_memory.specs.declared.operator.BinaryOperator.{BinaryOperator}
use Rattle.obj_memory.specs.declared.value.Scalar.{Scalar}
use Rattle.obj_memory.specs.declared.value.Scalar.TheVariants.{Integer, Pointer}
use Rattle.c_tree.specs.declared.expression.Kind.{Kind}
use Rattle.c_tree.specs.declared.expression.Kind.TheVariants.{Void, Scalar as OfScalar, Structure, Array}
use Rattle.c_tree.specs.declared.expression.Update.{Update}
use Rattle.c_tree.specs.declared.expression.Update.TheVariants.{Arithmetic, Forward, Back}
use Rattle.c_tree.specs.declared.expression.Fixity.{Fixity}
use Rattle.c_tree.specs.declared.expression.Fixity.TheVariants.{Prefix, Postfix}
use Rattle.c_tree.specs.declared.expression.Routine.{Routine}
use Rattle.c_tree.specs.declared.expression.Routine.TheVariants.{Putchar, Getchar, Exit, Abort}
use Rattle.tac_ir.specs.declared.instruction.RightOperand.{RightOperand}
use Rattle.tac_ir.specs.declared.instruction.RightOperand.TheVariants.{Temporary, One}
use Rattle.tac_ir.specs.declared.instruction.Instruction.{Instruction}
use Rattle.tac_ir.specs.declared.instruction.Instruction.TheVariants as tac
use Rattle.tac_ir.specs.declared.function.CodeFunction.{CodeFunction}
use Rattle.tac_ir.specs.declared.function.Tac.{Tac}
use Rattle.tac_ir.specs.Meaning.{function_in as code_in}
use Rattle.tac_ir.specs.Temporaries.{temporaries}
use Rattle.rv_isa.specs.declared.instruction.BranchOp.TheVariants.{Beq}
use Rattle.flat_code.specs.declared.instruction.RightOperand.TheVariants.{Register}
use Rattle.flat_code.specs.declared.instruction.FlatInstruction.{FlatInstruction}
use Rattle.flat_code.specs.declared.instruction.FlatInstruction.TheVariants as flat
use Rattle.flat_code.specs.declared.function.FlatProgram.{FlatProgram}
use Rattle.flat_code.specs.Calls.{function_in}
use Rattle.flat_code.specs.Meaning.{parameters_of, results_of}
use Rattle.reg_plan.specs.Effects.{is_among, one, many}
use Rattle.flat_operators.specs.Operators.{constant_code, conversion_code, binary_code}
use Rattle.metadata_plan.specs.Registers.{most_temporaries, variable_register, temporary_register, first_free}
use Rattle.metadata_plan.specs.Part.{takes, is_integer_instruction, is_integer_update, is_integer_routine}
use Rattle.metadata_plan.specs.Part.{has_no_pointer}
use Rattle.metadata_plan.specs.Blocks.{block, kept_by, right_code, right_register, argument_moves}
use Rattle.metadata_plan.specs.Blocks.{call_tests, call_code, room_in}
use Rattle.metadata_plan.specs.OperatorLists.Operators.{operators}
use Rattle.metadata_expansion.specs.Homes.{argument_count, free_count}
use Rattle.c_lower.specs.Liveness.Liveness.{writes}
use Rattle.image_laws.proofs.Plans.Flow.{Registers, With, Flow, Makes, one_has, flow_append, makes_right}
use Rattle.image_laws.proofs.Plans.Operators.{Gives, constant_gives, conversion_gives, unary_gives, binary_gives}
use Rattle.image_laws.proofs.Plans.Roles.{Role, Scratch, variable_role, temporary_role, scratch_role}

-- the two instructions whose blocks end in a branch
abbrev pub Last : Instruction → Type 0
Last (tac.Branch a x y) = Unit {0}
Last (tac.Case a w x y) = Unit {0}
Last _ = ⊥

module _ (c : CodeFunction) where
  abbrev pub NeedsRight : Registers → RightOperand → Type 0
  NeedsRight R (Temporary b) = R (temporary_register c b)
  NeedsRight R One = Unit {0}

  abbrev pub NeedsArgument : Registers → Routine → (temporary : ℕ) → Type 0
  NeedsArgument R Putchar d = R (temporary_register c d)
  NeedsArgument R Exit d = R (temporary_register c d)
  NeedsArgument R _ d = Unit {0}

  -- what the block of an instruction reads is among some registers
  abbrev pub Needs : Registers → Instruction → Type 0
  Needs R (tac.GetPlain d x next) = R (variable_register c x)
  Needs R (tac.SetPlain x a next) = R (temporary_register c a)
  Needs R (tac.UpdatePlain w k f line d x right next) = R (variable_register c x) × NeedsRight R right
  Needs R (tac.Convert kind d a next) = R (temporary_register c a)
  Needs R (tac.Unary op ty d a next) = R (temporary_register c a)
  Needs R (tac.Binary op ty line d a b next) = R (temporary_register c a) × R (temporary_register c b)
  Needs R (tac.Branch a x y) = R (temporary_register c a)
  Needs R (tac.Case a w x y) = R (temporary_register c a)
  Needs R (tac.Library r line d n next) = NeedsArgument R r d
  Needs R (tac.Call f line d n next) = (j : ℕ) → j < n → R (temporary_register c (d + j))
  Needs R (tac.Return a) = R (temporary_register c a)
  Needs R _ = Unit {0}

-- a run goes through the block
abbrev pub IsPassedBy : Routine → Type 0
IsPassedBy Exit = ⊥
IsPassedBy Abort = ⊥
IsPassedBy _ = Unit {0}

abbrev pub IsPassed : Instruction → Type 0
IsPassed (tac.Library r line d n next) = IsPassedBy r
IsPassed _ = Unit {0}

-- what stands before a call
pub tests_flow : (m : MapSizes) (p : FlatProgram) (f : ℕ) (gives : results_of (function_in p f) ≤ 1) (P R : Registers)
    (room line s : ℕ) (rest : List FlatInstruction) → P s → Flow p f gives ⊥ P (With R s) rest
    → Flow p f gives ⊥ P R (call_tests m room line s ++ rest)
tests_flow m p f gives P R room line s rest low h =
    (tt, tt, tt, (tt, low, tt, ((inr refl, tt), tt, (refl, tt), (tt, tt, tt, h))))

module _ (m : MapSizes) (t : Tac) (c : CodeFunction) (p : FlatProgram) (f : ℕ)
    (gives : results_of (function_in p f) ≤ 1)
    (callees : (g n : ℕ) → takes (code_in t g) n ≡ true
    → (parameters_of (function_in p g) ≡ n) × (results_of (function_in p g) ≡ 1)) where
  abbrev s : ℕ
  s = first_free c

  -- ---- updates

  module _ (k : IntType) (x d : ℕ) (S : Registers) (value : S (first_free c)) (variable : S (variable_register c x))
      (low : d < most_temporaries c.code) where
    kept_gives : (fixity : Fixity)
        → Gives p f gives (Role c) S (kept_by operators fixity k (variable_register c x) (temporary_register c d)
        (first_free c) (first_free c + 2)) (temporary_register c d)
    kept_gives Prefix =
        let g = conversion_gives p f gives (Role c) S k (variable_register c x) (first_free c) value
        (variable_role c x (omega arith)) in
        let move = flat.Move (temporary_register c d) (variable_register c x) ∷ [] in
        record {
          flow = flow_append p f gives ⊥ (Role c) S (conversion_code k (variable_register c x) (first_free c)) move
              g.flow
              (λ R keeps makes. (makes (variable_register c x) g.made, temporary_role c d low, tt, tt));
          made = makes_right p f gives (conversion_code k (variable_register c x) (first_free c)) move
              (temporary_register c d) (inl (one_has (temporary_register c d)));
        }
    kept_gives Postfix =
        let g = conversion_gives p f gives (Role c) (With S (temporary_register c d)) k (variable_register c x)
        (first_free c) (inl value) (variable_role c x (omega arith)) in
        record {
          flow = (variable, temporary_role c d low, tt, g.flow);
          made = inl (one_has (temporary_register c d));
        }

  module _ (op : BinaryOperator) (ty k : IntType) (fixity : Fixity) (line d x : ℕ)
      (low : d < most_temporaries c.code) where
    -- behind the right operand
    rest : (right : ℕ) → List FlatInstruction
    rest right =
        binary_code op ty line (first_free c) (first_free c) right (first_free c + 2)
        ++ kept_by operators fixity k (variable_register c x) (temporary_register c d) (first_free c) (first_free c + 2)

    rest_gives : (S : Registers) (right : ℕ) → S (first_free c) → S right → S (variable_register c x)
        → Gives p f gives (Role c) S (rest right) (temporary_register c d)
    unfolding rest
    rest_gives S right value r variable =
        let code = binary_code op ty line (first_free c) (first_free c) right (first_free c + 2) in
        let kept = kept_by operators fixity k (variable_register c x) (temporary_register c d) (first_free c)
        (first_free c + 2) in
        let g = binary_gives p f gives (Role c) S op ty line (first_free c) (first_free c) right (first_free c + 2)
        value r (scratch_role c 0 (first_free c) (omega arith) (omega arith))
        (scratch_role c 2 (first_free c + 2) (omega arith) refl) in
        record {
          flow = flow_append p f gives ⊥ (Role c) S code kept g.flow
              (λ R keeps makes. (kept_gives k x d R (makes (first_free c) g.made)
              (keeps (variable_register c x) variable) low fixity).flow);
          made = makes_right p f gives code kept (temporary_register c d)
              (kept_gives k x d S value variable low fixity).made;
        }

    update_gives : (R : Registers) (right : RightOperand) → R (variable_register c x) → NeedsRight c R right
        → Gives p f gives (Role c) R
        (conversion_code ty (first_free c) (variable_register c x)
        ++ (right_code right (first_free c + 1) ++ rest (right_register c right (first_free c + 1))))
        (temporary_register c d)
    update_gives R (Temporary b) variable r =
        let g = conversion_gives p f gives (Role c) R ty (first_free c) (variable_register c x) variable
        (scratch_role c 0 (first_free c) (omega arith) (omega arith)) in
        let code = conversion_code ty (first_free c) (variable_register c x) in
        let after = rest (temporary_register c b) in
        record {
          flow = flow_append p f gives ⊥ (Role c) R code after g.flow
              (λ S keeps makes. (rest_gives S (temporary_register c b) (makes (first_free c) g.made)
              (keeps (temporary_register c b) r) (keeps (variable_register c x) variable)).flow);
          made = makes_right p f gives code after (temporary_register c d)
              (rest_gives (λ y. Unit {0}) (temporary_register c b) tt tt tt).made;
        }
    update_gives R One variable r =
        let g = conversion_gives p f gives (Role c) R ty (first_free c) (variable_register c x) variable
        (scratch_role c 0 (first_free c) (omega arith) (omega arith)) in
        let code = conversion_code ty (first_free c) (variable_register c x) in
        let after = flat.Constant (first_free c + 1) 1 ∷ rest (first_free c + 1) in
        record {
          flow = flow_append p f gives ⊥ (Role c) R code after g.flow
              (λ S keeps makes. (
                tt,
                scratch_role c 1 (first_free c + 1) (omega arith) refl,
                tt,
                (rest_gives (With S (first_free c + 1)) (first_free c + 1) (inl (makes (first_free c) g.made))
                    (inr refl) (inl (keeps (variable_register c x) variable))).flow,
              ));
          made = makes_right p f gives code after (temporary_register c d)
              (inr (rest_gives (λ y. Unit {0}) (first_free c + 1) tt tt tt).made);
        }

  -- ---- calls

  moves_flow : (R : Registers) (r d n : ℕ) → ((j : ℕ) → j < n → R (temporary_register c (d + j)))
      → ((j : ℕ) → j < n → Role c (r + j)) → Flow p f gives ⊥ (Role c) R (argument_moves c r d n)
  moves_flow R r d zero have low = tt
  moves_flow R r d (suc n) have low = (
    (let e : d + 0 ≡ d = omega arith in subst (λ z. R (temporary_register c z)) e (have 0 (omega arith))),
    (let e : r + 0 ≡ r = omega arith in subst (Role c) e (low 0 (omega arith))),
    tt,
    moves_flow (With R r) (r + 1) (d + 1) n
        (λ j lt. let e : d + suc j ≡ d + 1 + j = omega arith in
        inl (subst (λ z. R (temporary_register c z)) e (have (suc j) (omega arith))))
        (λ j lt. let e : r + suc j ≡ r + 1 + j = omega arith in subst (Role c) e (low (suc j) (omega arith))),
  )

  moves_made : (r d n j y : ℕ) → j < n → y ≡ r + j → Makes p f gives (argument_moves c r d n) y
  moves_made r d zero j y lt e = absurd (omega arith)
  moves_made r d (suc n) zero y lt e =
      let same : r ≡ y = omega arith in
      inl (subst (λ z. is_among (one r) z ≡ true) same (one_has r))
  moves_made r d (suc n) (suc j) y lt e = inr (moves_made (r + 1) (d + 1) n j y (omega arith) (omega arith))

  call_gives : (R : Registers) (g line d n : ℕ) → takes (code_in t g) n ≡ true
      → ((j : ℕ) → j < n → R (temporary_register c (d + j))) → d < most_temporaries c.code → n ≤ free_count c
      → Gives p f gives (Role c) R (call_code m t c g line d n) (temporary_register c d)
  call_gives R g line d n taken have low few =
      let k = callees g n taken in
      let free = first_free c in
      let moves = argument_moves c free d n in
      let call = flat.Call g free (temporary_register c d) ∷ [] in
      let handed : Flow p f gives ⊥ (Role c) (With R free) (moves ++ call) =
      flow_append p f gives ⊥ (Role c) (With R free) moves call
      (moves_flow (With R free) free d n (λ j lt. inl (have j lt)) (λ j lt. Scratch j (omega arith) refl))
      (λ S keeps makes. (
        (λ j lt. makes (free + j) (moves_made free d n j (free + j) (omega (arith, k.0)) refl)),
        (k.1, temporary_role c d low),
        tt,
        tt,
      )) in
      record {
        flow = tests_flow m p f gives (Role c) R (room_in (code_in t g)) line free (moves ++ call)
            (scratch_role c 0 free (omega arith) (omega arith)) handed;
        made = inr (inr (inr (inr (makes_right p f gives moves call (temporary_register c d)
            (inl (subst (λ z. is_among (many (temporary_register c d) z) (temporary_register c d) ≡ true) (sym k.1)
            (one_has (temporary_register c d))))))));
      }

  -- ---- all blocks

  ending : (R : Registers) (line : ℕ) → Flow p f gives ⊥ (Role c) R (flat.End (AbortAt line) ∷ [])
  ending R line = (tt, tt, tt, tt)

  conversion_flow : (R : Registers) (kind : Kind) (d a : ℕ) → R (temporary_register c a) → d < most_temporaries c.code
      → Flow p f gives ⊥ (Role c) R (block operators m t c (tac.Convert kind d a 0))
  conversion_flow R (OfScalar (Integer ty)) d a r low =
      (conversion_gives p f gives (Role c) R ty (temporary_register c d) (temporary_register c a) r
      (temporary_role c d low)).flow
  conversion_flow R Void d a r low = (tt, temporary_role c d low, tt, tt)
  conversion_flow R (OfScalar Pointer) d a r low = (tt, temporary_role c d low, tt, tt)
  conversion_flow R (Structure n) d a r low = (tt, temporary_role c d low, tt, tt)
  conversion_flow R (Array n) d a r low = (tt, temporary_role c d low, tt, tt)

  update_flow : (R : Registers) (w : Update) (k : Scalar) (fixity : Fixity) (line d x : ℕ) (right : RightOperand)
      → d < most_temporaries c.code → R (variable_register c x) → NeedsRight c R right
      → Flow p f gives ⊥ (Role c) R (block operators m t c (tac.UpdatePlain w k fixity line d x right 0))
  unfolding rest
  update_flow R (Arithmetic op ty) (Integer k) fixity line d x right low variable r =
      (update_gives op ty k fixity line d x low R right variable r).flow
  update_flow R (Arithmetic op ty) Pointer fixity line d x right low variable r = tt
  update_flow R (Forward size) k fixity line d x right low variable r = tt
  update_flow R (Back size) k fixity line d x right low variable r = tt

  library_flow : (R : Registers) (r : Routine) (line d n : ℕ) → d < most_temporaries c.code → NeedsArgument c R r d
      → Flow p f gives ⊥ (Role c) R (block operators m t c (tac.Library r line d n 0))
  library_flow R Putchar line d n low have = (
    have,
    tt,
    tt,
    (conversion_gives p f gives (Role c) R UnsignedChar (temporary_register c d) (temporary_register c d) have
        (temporary_role c d low)).flow,
  )
  library_flow R Getchar line d n low have = (tt, temporary_role c d low, tt, tt)
  library_flow R Exit line d n low have = (have, tt, tt, tt)
  library_flow R Abort line d n low have = (tt, tt, tt, tt)
  library_flow R _ line d n low have = tt

  pub block_flow : (R : Registers) (i : Instruction) → temporaries i ≤ most_temporaries c.code
      → argument_count i ≤ free_count c → Needs c R i
      → Flow p f gives (Last i) (Role c) R (block operators m t c i)
  block_flow R (tac.Constant d w next) low few h =
      (constant_gives p f gives (Role c) R (temporary_register c d) w (temporary_role c d (omega arith))).flow
  block_flow R (tac.GetPlain d x next) low few h = (h, temporary_role c d (omega arith), tt, tt)
  block_flow R (tac.SetPlain x a next) low few h = (h, variable_role c x (omega arith), tt, tt)
  block_flow R (tac.UpdatePlain w k fixity line d x right next) low few h =
      update_flow R w k fixity line d x right (omega arith) h.0 h.1
  block_flow R (tac.ZeroOf kind d next) low few h = (tt, temporary_role c d (omega arith), tt, tt)
  block_flow R (tac.Convert kind d a next) low few h = conversion_flow R kind d a h (omega arith)
  block_flow R (tac.Unary op ty d a next) low few h =
      (unary_gives p f gives (Role c) R op ty (temporary_register c d) (temporary_register c a) (first_free c) h
      (temporary_role c d (omega arith)) (scratch_role c 0 (first_free c) (omega arith) (omega arith))).flow
  block_flow R (tac.Binary op ty line d a b next) low few h =
      (binary_gives p f gives (Role c) R op ty line (temporary_register c d) (temporary_register c a)
      (temporary_register c b) (first_free c) h.0 h.1
      (temporary_role c d (omega arith)) (scratch_role c 0 (first_free c) (omega arith) (omega arith))).flow
  block_flow R (tac.Branch a x y) low few h = ((h, tt), tt, (refl, tt), tt)
  block_flow R (tac.Case a w x y) low few h =
      let g = constant_gives p f gives (Role c) R (first_free c) w
      (scratch_role c 0 (first_free c) (omega arith) (omega arith)) in
      flow_append p f gives (Unit {0}) (Role c) R (constant_code (first_free c) w)
      (flat.Branch Beq (temporary_register c a) (Register (first_free c)) 1 ∷ []) g.flow
      (λ S keeps makes. (
        (keeps (temporary_register c a) h, makes (first_free c) g.made),
        tt,
        (refl, tt),
        tt,
      ))
  block_flow R (tac.Turn counted next) low few h = (tt, tt, tt, tt)
  block_flow R (tac.Library r line d n next) low few h = library_flow R r line d n (omega arith) h
  block_flow R (tac.Call g line d n next) low few h = by (takes (code_in t g) n) refl
    where
      by : (b : Bool) → takes (code_in t g) n ≡ b → Flow p f gives ⊥ (Role c) R
          (if b then call_code m t c g line d n else flat.End (AbortAt line) ∷ [])
      by true e = (call_gives R g line d n e h (omega arith) few).flow
      by false e = ending R line
  block_flow R (tac.Return a) low few h = (h, tt, tt, tt)
  block_flow R _ low few h = (tt, tt, tt, tt)

  -- ---- what blocks make

  same_made : (is : List FlatInstruction) (d z : ℕ) → Makes p f gives is (temporary_register c d) → (z == d) ≡ true
      → Makes p f gives is (temporary_register c z)
  same_made is d z made e = subst (λ x. Makes p f gives is (temporary_register c x)) (sym (eqb-true z d e)) made

  conversion_made : (kind : Kind) (d a : ℕ) → has_no_pointer kind ≡ true
      → Makes p f gives (block operators m t c (tac.Convert kind d a 0)) (temporary_register c d)
  conversion_made (OfScalar (Integer ty)) d a e =
      (conversion_gives p f gives (λ y. Unit {0}) (λ y. Unit {0}) ty (temporary_register c d) (temporary_register c a)
      tt tt).made
  conversion_made Void d a e = inl (one_has (temporary_register c d))
  conversion_made _ d a e = absurd (false≢true e)

  update_made : (w : Update) (k : Scalar) (fixity : Fixity) (line d x : ℕ) (right : RightOperand)
      → d < most_temporaries c.code → is_integer_update w k right ≡ true
      → Makes p f gives (block operators m t c (tac.UpdatePlain w k fixity line d x right 0)) (temporary_register c d)
  unfolding rest
  update_made (Arithmetic op ty) (Integer k) fixity line d x (Temporary b) low e =
      (update_gives op ty k fixity line d x low (λ y. Unit {0}) (Temporary b) tt tt).made
  update_made (Arithmetic op ty) (Integer k) fixity line d x One low e =
      (update_gives op ty k fixity line d x low (λ y. Unit {0}) One tt tt).made
  update_made (Arithmetic op ty) Pointer fixity line d x right low e = absurd (false≢true e)
  update_made (Forward size) k fixity line d x right low e = absurd (false≢true e)
  update_made (Back size) k fixity line d x right low e = absurd (false≢true e)

  library_made : (r : Routine) (line d n : ℕ) → IsPassedBy r → is_integer_routine r n ≡ true
      → Makes p f gives (block operators m t c (tac.Library r line d n 0)) (temporary_register c d)
  library_made Putchar line d n passed e =
      inr (conversion_gives p f gives (λ y. Unit {0}) (λ y. Unit {0}) UnsignedChar (temporary_register c d)
      (temporary_register c d) tt tt).made
  library_made Getchar line d n passed e = inl (one_has (temporary_register c d))
  library_made Exit line d n passed e = absurd passed
  library_made Abort line d n passed e = absurd passed
  library_made _ line d n passed e = absurd (false≢true e)

  -- a temporary that an instruction of integers writes
  pub block_makes : (variables : ℕ) (i : Instruction) (z : ℕ) → is_integer_instruction t variables i ≡ true → IsPassed i
      → temporaries i ≤ most_temporaries c.code → argument_count i ≤ free_count c → writes i z ≡ true
      → Makes p f gives (block operators m t c i) (temporary_register c z)
  block_makes k (tac.Constant d w next) z e passed low few h =
      same_made (block operators m t c (tac.Constant d w next)) d z
      (constant_gives p f gives (λ y. Unit {0}) (λ y. Unit {0}) (temporary_register c d) w tt).made h
  block_makes k (tac.GetPlain d x next) z e passed low few h =
      same_made (block operators m t c (tac.GetPlain d x next)) d z (inl (one_has (temporary_register c d))) h
  block_makes k (tac.SetPlain x a next) z e passed low few h = absurd (false≢true h)
  block_makes k (tac.UpdatePlain w q fixity line d x right next) z e passed low few h =
      same_made (block operators m t c (tac.UpdatePlain w q fixity line d x right next)) d z
      (update_made w q fixity line d x right (omega arith)
      (and_parts (nat_lt x k) (is_integer_update w q right) e).1) h
  block_makes k (tac.ZeroOf kind d next) z e passed low few h =
      same_made (block operators m t c (tac.ZeroOf kind d next)) d z (inl (one_has (temporary_register c d))) h
  block_makes k (tac.Convert kind d a next) z e passed low few h =
      same_made (block operators m t c (tac.Convert kind d a next)) d z (conversion_made kind d a e) h
  block_makes k (tac.Unary op ty d a next) z e passed low few h =
      same_made (block operators m t c (tac.Unary op ty d a next)) d z
      (unary_gives p f gives (λ y. Unit {0}) (λ y. Unit {0}) op ty (temporary_register c d) (temporary_register c a)
      (first_free c) tt tt tt).made h
  block_makes k (tac.Binary op ty line d a b next) z e passed low few h =
      same_made (block operators m t c (tac.Binary op ty line d a b next)) d z
      (binary_gives p f gives (λ y. Unit {0}) (λ y. Unit {0}) op ty line (temporary_register c d)
      (temporary_register c a) (temporary_register c b) (first_free c) tt tt tt tt).made h
  block_makes k (tac.Branch a x y) z e passed low few h = absurd (false≢true h)
  block_makes k (tac.Case a w x y) z e passed low few h = absurd (false≢true h)
  block_makes k (tac.Turn counted next) z e passed low few h = absurd (false≢true h)
  block_makes k (tac.Library r line d n next) z e passed low few h =
      same_made (block operators m t c (tac.Library r line d n next)) d z (library_made r line d n passed e) h
  block_makes k (tac.Call g line d n next) z e passed low few h =
      same_made (block operators m t c (tac.Call g line d n next)) d z
      (subst (λ b. Makes p f gives (if b then call_code m t c g line d n else flat.End (AbortAt line) ∷ [])
      (temporary_register c d)) (sym e) (call_gives (λ y. Unit {0}) g line d n e (λ j lt. tt) (omega arith) few).made) h
  block_makes k (tac.Return a) z e passed low few h = absurd (false≢true h)
  block_makes k _ z e passed low few h = absurd (false≢true e)
