-- Registers that hold the value of a scalar.
use Rattle.std.specs.Prelude.{ℕ, ◌∷◌}
use Rattle.obj_memory.specs.declared.value.Scalar.{Scalar}
use Rattle.obj_memory.specs.declared.value.Scalar.TheVariants.{Integer as OfInteger, Pointer as OfPointer}
use Rattle.flat_code.specs.Routines.Registers.{AreDistinct}
use Rattle.flat_code.specs.Routines.Metadata.{held_registers}
use Rattle.flat_actions.specs.Actions.{Holder, Word, Pointer as InPointer}
use Rattle.lib_wrappers.specs.declared.accesses.held.HeldScalar.{HeldScalar}
use Rattle.lib_wrappers.specs.declared.accesses.held.HeldScalar.TheVariants.{Integer, Pointer}

-- the scalar type
abbrev pub scalar_in : HeldScalar → Scalar
scalar_in (Integer t r) = OfInteger t
scalar_in (Pointer h) = OfPointer

-- the registers
abbrev pub holder_in : HeldScalar → Holder
holder_in (Integer t r) = Word r
holder_in (Pointer h) = InPointer h

-- Registers into which a scalar may be loaded through a pointer: that of the address is needed again before those of an
-- entry are written.
abbrev pub IsApartFrom : (address : ℕ) → HeldScalar → Type 0
IsApartFrom a (Integer t r) = Unit {0}
IsApartFrom a (Pointer into) = AreDistinct (a ∷ held_registers into)
