-- The blocks of checks are of instructions that the machine has.
use Rattle.std.proofs.Common.{◌≡◌, ℕ, ◌+◌, ◌-◌, ◌^◌, ◌<◌, ◌≤◌, refl, arith, Bool, true, false, List, [], ◌∷◌}
use Rattle.std.proofs.Common.{◌++◌, Option, Some, None, nat_le, nat_lt}
use Rattle.std.specs.Prelude.{if◌then◌else◌}
use Rattle.std.specs.List.{list_all}
use Rattle.std.proofs.lemmas.Bool.{and_parts, ltb-true}
use Rattle.sb_base.specs.declared.ending.Ending.TheVariants.{Spatial as SpatialAt}
use Rattle.rv_isa.specs.declared.instruction.RegOp.TheVariants.{Sub}
use Rattle.rv_isa.specs.declared.instruction.BranchOp.TheVariants.{Bltu}
use Rattle.tac_ir.specs.declared.instruction.Test.{Test}
use Rattle.tac_ir.specs.declared.instruction.Test.TheVariants.{Spatial, Temporal}
use Rattle.tac_ir.specs.declared.key.Base.{Base}
use Rattle.tac_ir.specs.declared.key.Base.TheVariants.{Plain, Automatic, Static}
use Rattle.tac_ir.specs.declared.key.Member.{Member}
use Rattle.tac_ir.specs.declared.key.Key.{Key}
use Rattle.tac_ir.specs.declared.function.CodeFunction.{CodeFunction}
use Rattle.flat_code.specs.declared.instruction.RightOperand.TheVariants.{Register}
use Rattle.flat_code.specs.declared.instruction.FlatInstruction.{FlatInstruction}
use Rattle.flat_code.specs.declared.instruction.FlatInstruction.TheVariants as flat
use Rattle.shadow_space.specs.Form.{EntryCode}
use Rattle.metadata_plan.specs.Entries.{is_name, is_fixed, is_unscaled, has_fixed_path, can_compare}
use Rattle.metadata_plan.specs.OperatorLists.Operators.{operators}
use Rattle.metadata_relation.specs.InlineCode.{InlineCode}
use Rattle.metadata_relation.specs.InlineLists.{inline_lists}
use Rattle.metadata_relation.specs.Blocks.{Expansion, number_code, number_operand, check_code, Range, path_range}
use Rattle.metadata_relation.specs.Blocks.{named_size}
use Rattle.metadata_relation.specs.Blocks.{named_address, range_code, compare_code, judge_code, static_object}
use Rattle.image_laws.specs.Encoding.Fitting.{AreFit, FitsFunction, FitsCode}
use Rattle.image_laws.proofs.Encoding.Parts.{fit_append, number_fit, operand_fit, constant_fit, part_fit}

module _ (whole : Expansion) (c : CodeFunction) (read write : EntryCode) (code : FitsCode whole)
    (function : FitsFunction whole c) where
  abbrev Lists : InlineCode
  Lists = inline_lists read write whole.map

  -- ---- by an entry

  check_fits : (test : Test) (size line r s : ℕ) → size < 2 ^ 64 → line < 2 ^ 32
      → AreFit (check_code Lists test size line r s)
  check_fits Spatial size line r s word low =
      fit_append (number_code operators size s (s + 1)) _ (number_fit size s (s + 1) word) (
        tt,
        (
          (low, omega arith),
          (tt, ((low, omega arith), (tt, (operand_fit size s, ((low, omega arith), tt))))),
        ),
      )
  check_fits Temporal size line r s word low = (omega arith, (tt, ((low, omega arith), tt)))

  -- ---- by a range in a named object

  path_start : (size : ℕ) (ms : List Member) → list_all is_fixed ms ≡ true → (path_range size ms).start < 2 ^ 32
  path_start size [] fixed = omega arith
  path_start size (m ∷ ms) fixed =
      let parts = and_parts (is_fixed m) (list_all is_fixed ms) fixed in
      let own = and_parts (is_unscaled m.scaled) (nat_lt m.constant (2 ^ 32)) parts.0 in
      let first = ltb-true m.constant (2 ^ 32) own.1 in
      let rest = path_start size ms parts.1 in
      omega (arith, first, rest)

  path_end : (size : ℕ) (ms : List Member) → (path_range size ms).end ≤ size
  path_end size [] = omega arith
  path_end size (m ∷ ms) = let rest = path_end size ms in omega (arith, rest)

  range_fits : (address : List FlatInstruction) (r : Range) (size line p s : ℕ) → AreFit address → r.end < 2 ^ 63
      → line < 2 ^ 32 → AreFit (range_code operators address r size line p s)
  range_fits address r size line p s fit high low = by (nat_le (r.start + size) r.end)
    where
      n : ℕ
      n = r.end - (r.start + size) + 1

      rest : List FlatInstruction
      rest = flat.Branch Bltu s (number_operand n (s + 1)) 1 ∷ flat.End (SpatialAt line) ∷ []

      by : (b : Bool)
          → AreFit (if b then address ++ (flat.Operate Sub s p (Register s) ∷ (number_code operators n (s + 1) (s + 2) ++ rest))
          else flat.End (SpatialAt line) ∷ [])
      by false = ((low, omega arith), tt)
      by true =
          fit_append address _ fit (
            tt,
            fit_append (number_code operators n (s + 1) (s + 2)) rest (number_fit n (s + 1) (s + 2) (omega (arith, high)))
                (operand_fit n (s + 1), ((low, omega arith), tt)),
          )

  named_low : (base : Base) → named_size whole.map whole.code c base < 2 ^ 63
  named_low (Plain x) = omega arith
  named_low (Automatic x) = function.sizes x
  named_low (Static n) = let low = code.statics n in omega (arith, low)

  address_fits : (base : Base) (offset r : ℕ) → offset < 2 ^ 63
      → AreFit (named_address operators whole.map whole.code c base offset r)
  address_fits (Plain x) offset r low = tt
  address_fits (Automatic x) offset r low = part_fit c x offset r (omega (arith, low))
  address_fits (Static n) offset r low =
      let there = code.statics n in
      constant_fit r ((static_object whole.map whole.code n).address + offset) (omega (arith, low, there))

  compare_fits : (test : Test) (key : Key) (size line p s : ℕ) → can_compare test key ≡ true → line < 2 ^ 32
      → AreFit (compare_code operators whole.map whole.code c test key size line p s)
  compare_fits Temporal key size line p s agreed low = tt
  compare_fits Spatial key size line p s agreed low =
      let r = path_range (named_size whole.map whole.code c key.base) key.path in
      let fixed = (and_parts (is_name key.base) (has_fixed_path key) agreed).1 in
      let start = path_start (named_size whole.map whole.code c key.base) key.path fixed in
      let end = path_end (named_size whole.map whole.code c key.base) key.path in
      let most = named_low key.base in
      range_fits (named_address operators whole.map whole.code c key.base r.start s) r size line p s
      (address_fits key.base r.start s (omega (arith, start))) (omega (arith, end, most)) low

  pub judge_fits : (test : Test) (key : Option Key) (size line p s : ℕ) → size < 2 ^ 64 → line < 2 ^ 32
      → AreFit (judge_code (record whole { inline = Lists }) c test key size line p s)
  judge_fits test None size line p s word low = check_fits test size line p s word low
  judge_fits test (Some key) size line p s word low = by (can_compare test key) refl
    where
      by : (b : Bool) → can_compare test key ≡ b
          → AreFit (if b then compare_code operators whole.map whole.code c test key size line p s
          else check_code Lists test size line p s)
      by true agreed = compare_fits test key size line p s agreed low
      by false other = check_fits test size line p s word low
