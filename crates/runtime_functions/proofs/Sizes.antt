-- The functions of the runtime are encodable, and fit the first segment.
use Rattle.std.proofs.Common.{◌≡◌, ℕ, zero, suc, ◌+◌, ◌*◌, ◌<◌, ◌≤◌, ◌^◌, true, ◌&&◌, List, [], ◌∷◌, ◌++◌, length}
use Rattle.std.proofs.Common.{refl, sym, ap, subst, arith, Option, Some, None}
use Rattle.std.specs.Prelude.{nat_lt}
use Rattle.std.proofs.lemmas.Bool.{and_parts, and_from, lt-ltb, leb-true}
use Rattle.sb_base.specs.declared.ending.Ending.{Ending}
use Rattle.addr_map.specs.Places.{MapSizes, functions_begin, code_begin}
use Rattle.flat_code.specs.declared.instruction.FlatInstruction.{FlatInstruction}
use Rattle.flat_code.specs.declared.instruction.FlatInstruction.TheVariants.{Constant, Move, Operate, Operate32}
use Rattle.flat_code.specs.declared.instruction.FlatInstruction.TheVariants.{Load, Store, Branch, JumpForward}
use Rattle.flat_code.specs.declared.instruction.FlatInstruction.TheVariants.{JumpBack, Turn, Call, CallAddress}
use Rattle.flat_code.specs.declared.instruction.FlatInstruction.TheVariants.{Return, Get, Put, Exit, End, Charged}
use Rattle.flat_code.specs.declared.function.FlatFunction.{FlatFunction}
use Rattle.flat_code.specs.Memory.{Bytes}
use Rattle.flat_code.specs.Routines.Metadata.{View}
use Rattle.flat_code.specs.Routines.Shape.{is_short, is_shaped, are_shaped, HasShape}
use Rattle.flat_code.proofs.Routines.Shape.{short_below}
use Rattle.runtime_functions.specs.declared.library.LibraryFunction.TheVariants as library
use Rattle.runtime_functions.specs.declared.runtime.RuntimeFunction.{RuntimeFunction}
use Rattle.runtime_functions.specs.declared.runtime.RuntimeFunction.TheVariants.{Library, Scan, PutBytes, PutNumber}
use Rattle.runtime_functions.specs.declared.runtime.RuntimeFunction.TheVariants.{Zero, CopyTagged, Enter}
use Rattle.runtime_functions.specs.declared.runtime.RuntimeFunction.TheVariants.{ZeroArea, TakeArea, PutArea, MoveArea}
use Rattle.runtime_functions.specs.declared.status.ReturnStatus.{ReturnStatus}
use Rattle.runtime_functions.specs.Status.{return_status}
use Rattle.runtime_functions.specs.Functions.{with_status, with_stub, with_stubs, stubs, function_body}
use Rattle.runtime_functions.specs.Functions.{zeros, cleared_registers, with_zeros}
use Rattle.runtime_functions.specs.Runtime.{runtime_list, most_instructions, argument_count, result_count, IsOfRuntime}
use Rattle.runtime_functions.specs.Runtime.{AreOfRuntime}
use Rattle.runtime_functions.specs.Sizes.{is_encodable, are_encodable, instruction_words, body_words, function_words}
use Rattle.runtime_functions.specs.Sizes.{all_words, most_registers}

-- ---- a body

-- encodable, and of so many words at most
record Is (results words : ℕ) (is : List FlatInstruction) : Type 0 where
  encodable : are_encodable is ≡ true
  few : body_words results is ≤ words

abbrev times : (count words : ℕ) → ℕ
times zero w = 0
times (suc n) w = w + times n w

module _ (r : ℕ) where
  abbrev One : FlatInstruction → Type 0
  One i = (is_encodable i ≡ true) × (instruction_words r i ≤ 15)

  ending : (n q : ℕ) (i : FlatInstruction) (o : Option ReturnStatus) → One i → (e : Ending) → i ≡ End e
      → One (with_status n q e o)
  ending n q i None h e same = subst One same h
  ending n q i (Some s) h e same = (refl, omega arith)

  stubbed : (n q : ℕ) (i : FlatInstruction) → is_shaped most_registers i ≡ true → One (with_stub n q i)
  stubbed n q (End e) h = ending n q (End e) (return_status e) (h, omega arith) e refl
  stubbed n q (Return x) h = absurd cc
  stubbed n q (Constant x k) h = (h, omega arith)
  stubbed n q (Move x y) h = (h, omega arith)
  stubbed n q (Operate op x y z) h = (h, omega arith)
  stubbed n q (Operate32 op x y z) h = (h, omega arith)
  stubbed n q (Load op x y o) h = (h, omega arith)
  stubbed n q (Store op y o x) h = (h, omega arith)
  stubbed n q (Branch op y z past) h = (h, omega arith)
  stubbed n q (JumpForward past) h = (h, omega arith)
  stubbed n q (JumpBack back) h = (h, omega arith)
  stubbed n q Turn h = (h, omega arith)
  stubbed n q (Call g first x) h = absurd cc
  stubbed n q (CallAddress y first c x k) h = absurd cc
  stubbed n q (Get x) h = (h, omega arith)
  stubbed n q (Put x) h = (h, omega arith)
  stubbed n q (Exit x) h = (h, omega arith)
  stubbed n q (Charged x) h = (h, omega arith)

  routine_part : (n q : ℕ) (is : List FlatInstruction) → are_shaped most_registers is ≡ true
      → Is r (15 * length is) (with_stubs n q is)
  routine_part n q [] h = record { encodable = refl; few = omega arith }
  routine_part n q (i ∷ is) h =
      let p = and_parts (is_shaped most_registers i) (are_shaped most_registers is) h in
      let one = stubbed n q i p.0 in
      let rest = routine_part n (suc q) is p.1 in
      let few = rest.few in let l = one.1 in
      record {
        encodable = and_from (is_encodable (with_stub n q i)) (are_encodable (with_stubs n (suc q) is)) one.0
            rest.encodable;
        few = omega arith;
      }

  appended : (xs ys : List FlatInstruction) (a b : ℕ) → Is r a xs → Is r b ys → Is r (a + b) (xs ++ ys)
  appended [] ys a b h k = record { encodable = k.encodable; few = let l = k.few in omega arith }
  appended (x ∷ xs) ys a b h k =
      let p = and_parts (is_encodable x) (are_encodable xs) h.encodable in
      let f = h.few in
      let rest = appended xs ys (body_words r xs) b (record { encodable = p.1; few = omega arith }) k in
      let l = rest.few in
      record {
        encodable = and_from (is_encodable x) (are_encodable (xs ++ ys)) p.0 rest.encodable;
        few = omega arith;
      }

  stub_part : (d k n : ℕ) → d < most_registers → k + n ≤ 9 → Is r (times n (15 + (2 + 6 * r))) (stubs d k n)
  stub_part d k zero l m = record { encodable = refl; few = omega arith }
  stub_part d k (suc n) l m =
      let rest = stub_part d (suc k) n l (omega arith) in
      let few = rest.few in
      let named : nat_lt d most_registers ≡ true = lt-ltb d most_registers l in
      record {
        encodable = and_from (nat_lt d most_registers && is_short k)
            (nat_lt d most_registers && are_encodable (stubs d (suc k) n))
            (and_from (nat_lt d most_registers) (is_short k) named (short_below k (omega arith)))
            (and_from (nat_lt d most_registers) (are_encodable (stubs d (suc k) n)) named rest.encodable);
        few = omega arith;
      }

  -- registers that are made 0 in front of a list
  zeros_shaped : (d n : ℕ) (is : List FlatInstruction) → d + n ≤ most_registers → are_shaped most_registers is ≡ true
      → are_shaped most_registers (zeros d n ++ is) ≡ true
  zeros_shaped d zero is l h = h
  zeros_shaped d (suc n) is l h =
      let named : nat_lt d most_registers ≡ true = lt-ltb d most_registers (omega arith) in
      and_from (nat_lt d most_registers && is_short 0) (are_shaped most_registers (zeros (d + 1) n ++ is))
      (and_from (nat_lt d most_registers) (is_short 0) named refl) (zeros_shaped (d + 1) n is (omega arith) h)

  body_part : (routine : List FlatInstruction) (d n : ℕ) → d + cleared_registers ≤ most_registers
      → HasShape routine n most_registers
      → Is r (15 * (n + cleared_registers + 8) + 9 * (2 + 6 * r)) (function_body (with_zeros routine d) d)
  body_part routine d n l h =
      let whole = with_zeros routine d in
      let first = routine_part (length whole) 0 whole (zeros_shaped d cleared_registers routine l h.each) in
      let last = stub_part d 1 8 (omega arith) (omega arith) in
      let named = lt-ltb d most_registers (omega arith) in
      let rest : Is r (2 + 6 * r + times 8 (15 + (2 + 6 * r))) (Return d ∷ stubs d 1 8) =
      record {
        encodable = and_from (nat_lt d most_registers) (are_encodable (stubs d 1 8)) named last.encodable;
        few = let f = last.few in omega arith;
      } in
      let all = appended (with_stubs (length whole) 0 whole) (Return d ∷ stubs d 1 8) (15 * length whole)
      (2 + 6 * r + times 8 (15 + (2 + 6 * r))) first rest in
      record { encodable = all.encodable; few = let f = all.few in let g = h.few in omega arith }

-- ---- the functions

few_arguments : (f : RuntimeFunction) → argument_count f + cleared_registers ≤ most_registers
few_arguments (Library library.Malloc) = omega arith
few_arguments (Library library.Calloc) = omega arith
few_arguments (Library library.Free) = omega arith
few_arguments (Library library.Realloc) = omega arith
few_arguments (Library library.Memcpy) = omega arith
few_arguments (Library library.Memmove) = omega arith
few_arguments (Library library.Memset) = omega arith
few_arguments (Library library.Memcmp) = omega arith
few_arguments (Library library.Strlen) = omega arith
few_arguments (Library library.Strcmp) = omega arith
few_arguments (Library library.Strcpy) = omega arith
few_arguments (Library library.Strncpy) = omega arith
few_arguments (Library library.Strcat) = omega arith
few_arguments (Library library.Strchr) = omega arith
few_arguments (Library library.Puts) = omega arith
few_arguments Scan = omega arith
few_arguments PutBytes = omega arith
few_arguments (PutNumber d) = omega arith
few_arguments Zero = omega arith
few_arguments CopyTagged = omega arith
few_arguments Enter = omega arith
few_arguments ZeroArea = omega arith
few_arguments TakeArea = omega arith
few_arguments PutArea = omega arith
few_arguments MoveArea = omega arith

pub few_instructions : (f : RuntimeFunction) → most_instructions f ≤ 384
few_instructions (Library library.Malloc) = omega arith
few_instructions (Library library.Calloc) = omega arith
few_instructions (Library library.Free) = omega arith
few_instructions (Library library.Realloc) = omega arith
few_instructions (Library library.Memcpy) = omega arith
few_instructions (Library library.Memmove) = omega arith
few_instructions (Library library.Memset) = omega arith
few_instructions (Library library.Memcmp) = omega arith
few_instructions (Library library.Strlen) = omega arith
few_instructions (Library library.Strcmp) = omega arith
few_instructions (Library library.Strcpy) = omega arith
few_instructions (Library library.Strncpy) = omega arith
few_instructions (Library library.Strcat) = omega arith
few_instructions (Library library.Strchr) = omega arith
few_instructions (Library library.Puts) = omega arith
few_instructions Scan = omega arith
few_instructions PutBytes = omega arith
few_instructions (PutNumber d) = omega arith
few_instructions Zero = omega arith
few_instructions CopyTagged = omega arith
few_instructions Enter = omega arith
few_instructions ZeroArea = omega arith
few_instructions TakeArea = omega arith
few_instructions PutArea = omega arith
few_instructions MoveArea = omega arith

-- no list of the runtime is as long as a jump
pub short_list : {m : ℕ} (is : List FlatInstruction) (n : ℕ) → n ≤ 384 → HasShape is n m
    → length is + cleared_registers < 2 ^ 31
short_list is n l h = let few = h.few in omega arith

-- of one of the list
abbrev words_at_most : RuntimeFunction → ℕ
words_at_most f =
    2 + 6 * argument_count f
    + (15 * (most_instructions f + cleared_registers + 8) + 9 * (2 + 6 * (1 + result_count f)))

abbrev all_at_most : List RuntimeFunction → ℕ
all_at_most [] = 0
all_at_most (f ∷ fs) = words_at_most f + all_at_most fs

module _ (map : MapSizes) (entry : View) (IsGood : Bytes → Type 0) where
  part : (f : RuntimeFunction) (g : FlatFunction) → (of : IsOfRuntime map entry IsGood f g)
      → Is g.results (15 * (most_instructions f + cleared_registers + 8) + 9 * (2 + 6 * g.results)) g.body
  part f g of = subst (Is g.results (15 * (most_instructions f + cleared_registers + 8) + 9 * (2 + 6 * g.results)))
      (sym of.is.body)
      (body_part g.results of.routine (argument_count f) (most_instructions f) (few_arguments f) of.shape)

  pub encodable_function : (f : RuntimeFunction) (g : FlatFunction) → IsOfRuntime map entry IsGood f g
      → are_encodable g.body ≡ true
  encodable_function f g of = (part f g of).encodable

  function_fits : (f : RuntimeFunction) (g : FlatFunction) → IsOfRuntime map entry IsGood f g
      → function_words g ≤ words_at_most f
  function_fits f g of =
      let h = (part f g of).few in let a = of.is.parameters in let n = of.is.results_are in omega arith

  pub functions_fit : (fs : List RuntimeFunction) (gs : List FlatFunction) → AreOfRuntime map entry IsGood fs gs
      → (all_words gs ≤ all_at_most fs) × (length gs ≡ length fs)
  functions_fit [] [] h = (omega arith, refl)
  functions_fit (f ∷ fs) (g ∷ gs) h =
      let one = function_fits f g h.0 in
      let rest = functions_fit fs gs h.1 in
      let l = rest.0 in
      (omega arith, ap suc rest.1)
  functions_fit [] (g ∷ gs) h = absurd h
  functions_fit (f ∷ fs) [] h = absurd h

  pub runtime_fits : (gs : List FlatFunction) → AreOfRuntime map entry IsGood runtime_list gs → (functions : ℕ)
      → functions ≤ 4096 → functions_begin + 16 * (functions + length gs) + 4 * all_words gs + 2 ^ 15 ≤ code_begin
  runtime_fits gs h functions few =
      let all = functions_fit runtime_list gs h in
      let words = all.0 in let count = all.1 in
      let most : all_at_most runtime_list ≤ 110000 = leb-true (all_at_most runtime_list) 110000 refl in
      let n : length runtime_list ≡ 30 = refl in
      omega arith
