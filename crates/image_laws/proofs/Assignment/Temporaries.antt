-- The registers of a temporary whose value is needed at a node are made on each path to it.
use Rattle.std.proofs.Common.{◌≡◌, ◌⊎◌, inl, inr, ⊎_elim, ℕ, suc, refl, sym, ◌∙◌, subst}
use Rattle.std.proofs.Common.{Bool, true, false, List, [], ◌∷◌, Option, Some, None}
use Rattle.std.specs.Prelude.{slice_get, ◌==◌, ◌≢◌}
use Rattle.std.proofs.lemmas.Bool.{eqb-true, eq-eqb, cases_Bool, false≢true}
use Rattle.obj_memory.specs.declared.value.Scalar.TheVariants.{Pointer}
use Rattle.c_tree.specs.declared.expression.Kind.{Kind}
use Rattle.c_tree.specs.declared.expression.Kind.TheVariants.{Scalar as OfScalar}
use Rattle.tac_ir.specs.declared.instruction.Instruction.{Instruction}
use Rattle.tac_ir.specs.declared.instruction.Instruction.TheVariants as tac
use Rattle.tac_ir.specs.declared.function.CodeFunction.{CodeFunction}
use Rattle.tac_ir.specs.Edges.{LeadsTo}
use Rattle.tac_ir.specs.Meaning.{function_in}
use Rattle.flat_code.specs.Routines.Metadata.{entry_registers}
use Rattle.runtime_functions.specs.Library.{held_from}
use Rattle.metadata_plan.specs.Entries.{IsOther, given}
use Rattle.metadata_relation.specs.Registers.{temporary_register}
use Rattle.metadata_relation.specs.FunctionTypes.{first_of_type}
use Rattle.metadata_relation.specs.Blocks.{Expansion, result_of}
use Rattle.c_lower.specs.Liveness.Liveness.{reads, writes, LiveWithin}
use Rattle.check_elim.specs.Paths.{Path, Start, On}
use Rattle.image_laws.specs.Plans.Assignment.{Registers, IsOneOf, IsMadeBefore, IsAssignedAt, IsBegun}
use Rattle.image_laws.specs.Plans.Instructions.{entry_of, value_of, result_made, call_made, made_registers, IsSetOut}
use Rattle.image_laws.proofs.Assignment.Straight.{AreIn}

-- each of a list is one of it
pub all_one_of : (xs : List ℕ) (R : Registers) → ((y : ℕ) → IsOneOf xs y → R y) → AreIn xs R
all_one_of [] R k = tt
all_one_of (x ∷ xs) R k = (k x (inl refl), all_one_of xs R (λ y h. k y (inr h)))

-- ---- what is written is made

-- the registers of a temporary, and those of its entry where it has one
pub record IsMade (M : List ℕ) (r : ℕ) (with_entry : Bool) : Type 0 where
  pub value : IsOneOf M r
  pub entry : (y : ℕ) → with_entry ≡ true → IsOneOf (entry_registers (held_from r).tag) y → IsOneOf M y

made_value : (r : ℕ) (b : Bool) → IsMade (value_of b r) r b
made_value r b = record { value = inl refl; entry = λ y e h. by b e y h }
  where
    by : (b : Bool) → b ≡ true → (y : ℕ) → IsOneOf (entry_registers (held_from r).tag) y → IsOneOf (value_of b r) y
    by true e y h = inr h
    by false e y h = absurd (false≢true e)

module _ (e : Expansion) (u : ℕ) (c : CodeFunction) where
  wrote : (d m next z : ℕ) → (z == d) ≡ true → (m ≡ next) ⊎ ⊥
      → IsMade (value_of (e.entries u next d) (temporary_register c d)) (temporary_register c z) (e.entries u m z)
  wrote d m next z same (inl to) =
      subst (λ k. IsMade (value_of (e.entries u next d) (temporary_register c d)) (temporary_register c z) (e.entries u k z))
      (sym to)
      (subst (λ k. IsMade (value_of (e.entries u next d) (temporary_register c d)) (temporary_register c k) (e.entries u next k))
      (sym (eqb-true z d same)) (made_value (temporary_register c d) (e.entries u next d)))
  wrote d m next z same (inr none) = absurd none

  -- of a result whose entry is made in any case
  wrote_more : (d m next z : ℕ) → (z == d) ≡ true
      → IsMade (value_of true (temporary_register c d)) (temporary_register c z) (e.entries u m z)
  wrote_more d m next z same =
      subst (λ k. IsMade (value_of true (temporary_register c d)) (temporary_register c k) (e.entries u m z))
      (sym (eqb-true z d same)) (record { value = inl refl; entry = λ y has one. inr one })

  given_back : (kind : Kind) (d m next z : ℕ) → (z == d) ≡ true → (m ≡ next) ⊎ ⊥
      → IsMade (result_made kind (e.entries u next d) (temporary_register c d)) (temporary_register c z) (e.entries u m z)
  given_back (OfScalar Pointer) d m next z same to = wrote_more d m next z same
  given_back _ d m next z same to = wrote d m next z same to

  called : (callee : Option CodeFunction) (d m next z : ℕ) → (z == d) ≡ true → (m ≡ next) ⊎ ⊥
      → IsMade (call_made e.code callee (e.entries u next d) (temporary_register c d)) (temporary_register c z)
      (e.entries u m z)
  called None d m next z same to = wrote d m next z same to
  called (Some k) d m next z same to = given_back (result_of e.code k) d m next z same to

  written : (i : Instruction) (m z : ℕ) → LeadsTo i m → writes i z ≡ true
      → IsMade (made_registers e u c i) (temporary_register c z) (e.entries u m z)
  written (tac.Constant d w k) m z to h = wrote d m k z h to
  written (tac.FunctionPointer d f k) m z to h = wrote d m k z h to
  written (tac.GetPlain d x k) m z to h = wrote d m k z h to
  written (tac.UpdatePlain w k' f line d x right k) m z to h = wrote d m k z h to
  written (tac.HomePointer d x k) m z to h = wrote d m k z h to
  written (tac.StaticPointer d n k) m z to h = wrote d m k z h to
  written (tac.ZeroOf kind d k) m z to h = wrote d m k z h to
  written (tac.Convert kind d a k) m z to h = wrote d m k z h to
  written (tac.Unary op ty d a k) m z to h = wrote d m k z h to
  written (tac.Binary op ty line d a b k) m z to h = wrote d m k z h to
  written (tac.Offset form size d a b k) m z to h = wrote d m k z h to
  written (tac.Difference size d a b k) m z to h = wrote d m k z h to
  written (tac.Narrow offset size d a k) m z to h = wrote d m k z h to
  written (tac.Member offset size d a k) m z to h = wrote d m k z h to
  written (tac.Take kind line d a k) m z to h = wrote d m k z h to
  written (tac.Read kind mode line key d a k) m z to h = wrote d m k z h to
  written (tac.Write kind mode line key d a b k) m z to h = wrote d m k z h to
  written (tac.Update w k' f mode line at key d a right k) m z to h = wrote d m k z h to
  written (tac.Library r line d n k) m z to h = wrote d m k z h to
  written (tac.Print x line d n k) m z to h = wrote d m k z h to
  written (tac.Call f line d n k) m z to h = called (function_in e.code f) d m k z h to
  written (tac.CallThrough type_number line d n k) m z to h =
      called (slice_get e.code.functions (first_of_type e.code.functions type_number)) d m k z h to
  written _ m z to h = absurd (false≢true h)

  unequal : (d z : ℕ) → (z == d) ≡ false → z ≢ d
  unequal d z e s = absurd (false≢true (sym e ∙ eq-eqb z d s))

  unwritten : (i : Instruction) (z : ℕ) → writes i z ≡ false → IsOther (given i) z
  unwritten (tac.Constant d w k) z h = unequal d z h
  unwritten (tac.FunctionPointer d f k) z h = unequal d z h
  unwritten (tac.GetPlain d x k) z h = unequal d z h
  unwritten (tac.UpdatePlain w k' f line d x right k) z h = unequal d z h
  unwritten (tac.HomePointer d x k) z h = unequal d z h
  unwritten (tac.StaticPointer d n k) z h = unequal d z h
  unwritten (tac.ZeroOf kind d k) z h = unequal d z h
  unwritten (tac.Convert kind d a k) z h = unequal d z h
  unwritten (tac.Unary op ty d a k) z h = unequal d z h
  unwritten (tac.Binary op ty line d a b k) z h = unequal d z h
  unwritten (tac.Offset form size d a b k) z h = unequal d z h
  unwritten (tac.Difference size d a b k) z h = unequal d z h
  unwritten (tac.Narrow offset size d a k) z h = unequal d z h
  unwritten (tac.Member offset size d a k) z h = unequal d z h
  unwritten (tac.Take kind line d a k) z h = unequal d z h
  unwritten (tac.Read kind mode line key d a k) z h = unequal d z h
  unwritten (tac.Write kind mode line key d a b k) z h = unequal d z h
  unwritten (tac.Update w k' f mode line at key d a right k) z h = unequal d z h
  unwritten (tac.Library r line d n k) z h = unequal d z h
  unwritten (tac.Print x line d n k) z h = unequal d z h
  unwritten (tac.Call f line d n k) z h = unequal d z h
  unwritten (tac.CallThrough type_number line d n k) z h = unequal d z h
  unwritten _ z h = tt

  module _ (parameters : ℕ) (begins : List ℕ) (h : IsSetOut e u c parameters begins) where
    abbrev Made : (y node : ℕ) → Path c node → Type 0
    Made y n path = IsBegun parameters begins y ⊎ IsMadeBefore c (made_registers e u c) y n path

    on_path : (n k z : ℕ) (path : Path c n) → LiveWithin c.code k n z → Made (temporary_register c z) n path
    unfolding LiveWithin
    on_path _ k z Start live = absurd (h.unneeded z (record { steps = k; within = live }))
    on_path _ k z (On n m i path at to) live =
        ⊎_elim (λ e. inr (inl (written i m z to e).value))
        (λ none. ⊎_elim inl (λ b. inr (inr b)) (on_path n (suc k) z path (i, at, inr (none, m, to, live))))
        (cases_Bool (writes i z))

    entry_on_path : (n k z y : ℕ) (path : Path c n) → LiveWithin c.code k n z → e.entries u n z ≡ true
        → IsOneOf (entry_registers (held_from (temporary_register c z)).tag) y → Made y n path
    unfolding LiveWithin
    entry_on_path _ k z y Start live has one = absurd (h.unneeded z (record { steps = k; within = live }))
    entry_on_path _ k z y (On n m i path at to) live has one =
        ⊎_elim (λ e. inr (inl ((written i m z to e).entry y has one)))
        (λ none. ⊎_elim inl (λ b. inr (inr b))
        (entry_on_path n (suc k) z y path (i, at, inr (none, m, to, live))
        (h.closed.kept n m z i at to (unwritten i z none) has) one))
        (cases_Bool (writes i z))

    -- what an instruction reads of a temporary is assigned at its node
    pub read_assigned : (n z : ℕ) (i : Instruction) → slice_get c.code n ≡ Some i → reads i z ≡ true → (b : Bool)
        → (b ≡ true → e.entries u n z ≡ true)
        → AreIn (value_of b (temporary_register c z)) (IsAssignedAt (IsBegun parameters begins) c (made_registers e u c) n)
    unfolding LiveWithin
    read_assigned n z i at r b has = (λ path. on_path n 1 z path (i, at, inl r), by b has)
      where
        by : (b : Bool) → (b ≡ true → e.entries u n z ≡ true) → AreIn (entry_of b (temporary_register c z))
            (IsAssignedAt (IsBegun parameters begins) c (made_registers e u c) n)
        by false has = tt
        by true has =
            all_one_of (entry_registers (held_from (temporary_register c z)).tag)
            (IsAssignedAt (IsBegun parameters begins) c (made_registers e u c) n)
            (λ y one path. entry_on_path n 1 z y path (i, at, inl r) (has refl) one)
