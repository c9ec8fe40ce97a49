-- String literals of programs that are within the limit on the bytes of static objects (C99 5.2.4.1, 6.4.5).
use Rattle.std.proofs.Common.{◌≡◌, ℕ, zero, suc, ◌+◌, ◌≤◌, ◌^◌, true, subst, List, [], ◌∷◌, ◌++◌, length}
use Rattle.std.proofs.Common.{map, Some, arith}
use Rattle.std.specs.Prelude.{get_or, nat_le, slice_get}
use Rattle.std.proofs.lemmas.Bool.{and_from, le-leb}
use Rattle.std.proofs.lemmas.List.{append_assoc}
use Rattle.obj_memory.specs.Heap.{rounded_up}
use Rattle.c_tree.specs.declared.expression.Kind.{Kind}
use Rattle.c_tree.specs.declared.expression.Kind.TheVariants as kind
use Rattle.c_tree.specs.Kinds.{is_size, size_of_kind}
use Rattle.c_tree.specs.Programs.{StaticObject}
use Rattle.c_typing_state.specs.State.{Literal}
use Rattle.c_unit_typing.specs.Files.{File}
use Rattle.c_unit_typing.specs.Programs.{linked_objects, literal_object, program_of}
use Rattle.c_unit_typing.specs.Typed.{end_behind, global_bytes, most_bytes}
use Rattle.typing_laws.specs.Validity.Sound.{Extended}
use Rattle.typing_laws.proofs.Validity.Sound.{get_extended}
use Rattle.program_laws.specs.Files.Numbers.{AreInOrder, HasKind, entries}
use Rattle.program_laws.proofs.Files.StaticKinds.{entry_kind, literal_got}

-- each object ends where the last one ends, or before

place_low : (os : List StaticObject) (at : ℕ) → at ≤ end_behind at os
place_low [] at = omega arith
place_low (o ∷ os) at =
    let behind = place_low os (rounded_up 16 at + size_of_kind o.kind) in
    omega (arith, behind)

size_low : (os : List StaticObject) (at n : ℕ)
    → size_of_kind (get_or (map (λ s. s.kind) os) n kind.Void) ≤ end_behind at os
size_low [] at n = omega arith
size_low (o ∷ os) at zero =
    let behind = place_low os (rounded_up 16 at + size_of_kind o.kind) in
    omega (arith, behind)
size_low (o ∷ os) at (suc n) = size_low os (rounded_up 16 at + size_of_kind o.kind) n

bytes_low : (f : File) → global_bytes (program_of f) ≤ most_bytes → (n : ℕ) (k : Kind)
    → HasKind (map (λ s. s.kind) (program_of f).statics) n k → size_of_kind k ≤ most_bytes
bytes_low f low n k h =
    let size = size_low (program_of f).statics 0 n in
    subst (λ z. size_of_kind z ≤ most_bytes) h.kind (omega (arith, size, low))

size_is : (n : ℕ) → 1 ≤ n → n ≤ most_bytes → is_size n ≡ true
size_is n one low =
    let large : n ≤ 2 ^ 32 = omega (arith, low) in
    and_from (nat_le 1 n) (nat_le n (2 ^ 32)) (le-leb 1 n one) (le-leb n (2 ^ 32) large)

-- a file whose string literals have bytes
module _ (f : File) (order : AreInOrder f) (low : global_bytes (program_of f) ≤ most_bytes) where
  literal_size : (n : ℕ) (l : Literal) → slice_get f.state.literals n ≡ Some l → 1 ≤ length l.bytes
      → is_size (length l.bytes) ≡ true
  literal_size n l e one =
      let ls = map literal_object f.state.literals in
      let os = linked_objects f f.state.environment.entities in
      let behind : Extended ls (entries f) = record { rest = f.statics ++ os; is = append_assoc ls f.statics os } in
      let own = entry_kind f order n (literal_object l)
      (get_extended ls (entries f) behind n (literal_object l) (literal_got f.state.literals n l e)) in
      size_is (length l.bytes) one (bytes_low f low l.number (kind.Array (length l.bytes)) own)

  pub literals_sized : ((n : ℕ) (l : Literal) → slice_get f.state.literals n ≡ Some l → 1 ≤ length l.bytes)
      → (n : ℕ) (l : Literal) → slice_get f.state.literals n ≡ Some l → is_size (length l.bytes) ≡ true
  literals_sized bytes n l e = literal_size n l e (bytes n l e)
