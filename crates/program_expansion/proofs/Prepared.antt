-- A function within limits is prepared, and its instructions name what is there.
use Rattle.std.proofs.Common.{◌≡◌, ℕ, zero, suc, ◌^◌, ◌<◌, ◌≤◌, ◌&&◌, nat_le, Bool, true, false, List, [], ◌∷◌, length}
use Rattle.std.proofs.Common.{Some, slice_get, refl, sym, ap, ◌∙◌, arith}
use Rattle.std.specs.List.{list_all}
use Rattle.std.proofs.lemmas.Bool.{false≢true, leb-true}
use Rattle.tac_ir.specs.declared.instruction.Instruction.{Instruction}
use Rattle.tac_ir.specs.declared.function.CodeFunction.{CodeFunction}
use Rattle.tac_ir.specs.declared.function.Tac.{Tac}
use Rattle.tac_ir.specs.Meaning.{if_there, objects_in}
use Rattle.metadata_plan.specs.Registers.{all_variables, most_temporaries}
use Rattle.metadata_plan.proofs.Numbers.{most_at}
use Rattle.instruction_selection.specs.Areas.{HasTable}
use Rattle.instruction_selection.specs.declared.context.FunctionContext.{FunctionContext}
use Rattle.instruction_selection.specs.Contexts.{CanBeCalled, HasRegisters, HasStatics, IsPrepared, type_at}
use Rattle.instruction_selection.specs.Registers.{IsAmong, function_named, last_handed, leaves_objects}
use Rattle.metadata_expansion.specs.Areas.{structure_taken}
use Rattle.program_expansion.specs.Limits.{AreWithinLimits, IsSmall, IsWithinLimits, names_own, padded_size}
use Rattle.program_expansion.proofs.Small.{bytes_few, length_few, objects_among, opened_few, parameters_few, size_few}
use Rattle.program_expansion.proofs.Small.{total_append}
use Rattle.metadata_relation.specs.Blocks.{objects_of_body}
use Rattle.metadata_relation.specs.Registers.{total}

-- ---- functions

pub can_be_called : (c : CodeFunction) → IsSmall c → CanBeCalled c
can_be_called c h = record {
  bytes = let sum = total_append padded_size c.parameters c.entered in
      let body = h.body in
      bytes_few (objects_of_body c) (omega (arith, sum, body));
  words = parameters_few c h.registers;
}

pub variables_few : (c : CodeFunction) → IsSmall c → length (all_variables c) < 2 ^ 64
variables_few c h =
    let sum = total_append padded_size c.parameters c.variables in
    let objects = h.objects in
    let few = length_few (all_variables c) in
    omega (arith, sum, objects, few)

pub prepared : (x : FunctionContext) → HasRegisters x → HasStatics x → ((f : ℕ) → type_at x f < 2 ^ 63)
    → AreWithinLimits x.program.now → IsSmall x.function.now → HasTable x.areas.now x.program.now x.function.now
    → IsPrepared x
prepared x registers statics types limits h areas =
    let c = x.function.now in
    let sum = total_append padded_size c.parameters c.variables in
    let objects = h.objects in
    let all : total padded_size (all_variables c) ≤ 2 ^ 62 = omega (arith, sum, objects) in
    record {
      registers = registers;
      statics = statics;
      types = types;
      few = limits.count;
      callees = λ f d there. can_be_called d (limits.functions f d there).small;
      variables = variables_few c h;
      body = (can_be_called c h).bytes;
      among = objects_among c.parameters c.variables c.entered h.entered;
      sizes = λ n. let few = size_few (all_variables c) n in omega (arith, few, all);
      blocks = λ b.
          let few = opened_few (if_there (slice_get c.blocks b)) 0 (all_variables c) in
          bytes_few (objects_in (Some c) b) (omega (arith, few, all));
      areas = areas;
    }

-- ---- instructions

parts : (a b : Bool) → (a && b) ≡ true → (a ≡ true) × (b ≡ true)
parts true b h = (refl, h)
parts false b h = absurd (false≢true h)

holds_at : (p : Instruction → Bool) (is : List Instruction) (n : ℕ) (i : Instruction) → list_all p is ≡ true
    → slice_get is n ≡ Some i → p i ≡ true
holds_at p [] n i h e = cc
holds_at p (x ∷ is) zero i h e = let same : x ≡ i = cc in ap p (sym same) ∙ (parts (p x) (list_all p is) h).0
holds_at p (x ∷ is) (suc n) i h e = holds_at p is n i (parts (p x) (list_all p is) h).1 e

pub is_among : (t : Tac) (c : CodeFunction) (n : ℕ) (i : Instruction) → IsWithinLimits t c → slice_get c.code n ≡ Some i
    → IsAmong t c i
is_among t c n i h e =
    let named : names_own t c i ≡ true = holds_at (names_own t c) c.code n i h.names e in
    let first = parts (nat_le (last_handed t i) (most_temporaries c.code))
    (nat_le (function_named i) (2 ^ 12) && (leaves_objects c i && nat_le (structure_taken t i) (2 ^ 62))) named in
    let second = parts (nat_le (function_named i) (2 ^ 12)) (leaves_objects c i && nat_le (structure_taken t i) (2 ^ 62))
    first.1 in
    let third = parts (leaves_objects c i) (nat_le (structure_taken t i) (2 ^ 62)) second.1 in
    record {
      temporaries = most_at c.code n i e;
      handed = leb-true (last_handed t i) (most_temporaries c.code) first.0;
      functions = leb-true (function_named i) (2 ^ 12) second.0;
      left = third.0;
      taken = leb-true (structure_taken t i) (2 ^ 62) third.1;
    }
