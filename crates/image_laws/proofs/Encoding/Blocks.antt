-- Blocks of an expansion are of instructions that the machine has.
use Rattle.std.proofs.Common.{◌≡◌, inl, ℕ, zero, suc, ◌+◌, ◌*◌, ◌^◌, ◌<◌, ◌≤◌, sym, subst, arith, Bool, true, false}
use Rattle.std.proofs.Common.{List, [], refl}
use Rattle.std.proofs.Common.{◌∷◌, ◌++◌, length, Option, Some, None, nat_lt}
use Rattle.std.specs.Prelude.{◌==◌, if◌then◌else◌, slice_get}
use Rattle.std.proofs.lemmas.Bool.{and_parts, ltb-true}
use Rattle.std.proofs.lemmas.Option.{same_Some, none-some}
use Rattle.sb_base.specs.declared.ending.Ending.TheVariants.{Abort}
use Rattle.addr_map.specs.declared.region.Region.TheVariants.{Locks}
use Rattle.addr_map.specs.Places.{region_start, function_address}
use Rattle.rv_isa.specs.declared.instruction.RegOp.TheVariants.{Add, Sub}
use Rattle.obj_memory.specs.declared.int_type.IntType.TheVariants.{UnsignedChar, UnsignedLong}
use Rattle.obj_memory.specs.declared.value.Scalar.{Scalar}
use Rattle.obj_memory.specs.declared.value.Scalar.TheVariants.{Integer, Pointer}
use Rattle.c_tree.specs.declared.expression.Kind.{Kind}
use Rattle.c_tree.specs.declared.expression.Kind.TheVariants.{Void, Scalar as OfScalar, Structure, Array}
use Rattle.c_tree.specs.declared.expression.OffsetForm.{OffsetForm}
use Rattle.c_tree.specs.declared.expression.OffsetForm.TheVariants.{PointerPlusIndex, IndexPlusPointer}
use Rattle.c_tree.specs.declared.expression.OffsetForm.TheVariants.{PointerMinusIndex}
use Rattle.c_tree.specs.declared.expression.Update.{Update}
use Rattle.c_tree.specs.declared.expression.Fixity.{Fixity}
use Rattle.c_tree.specs.declared.expression.Routine.{Routine}
use Rattle.c_tree.specs.declared.expression.Routine.TheVariants as routine
use Rattle.c_tree.specs.declared.format.Directive.{Directive}
use Rattle.c_tree.specs.declared.format.Directive.TheVariants as directive
use Rattle.c_tree.specs.declared.format.Piece.{Piece}
use Rattle.c_tree.specs.declared.format.Piece.TheVariants as piece
use Rattle.c_tree.specs.declared.program.Variable.{Variable}
use Rattle.c_tree.specs.Format.{pieces}
use Rattle.c_tree.specs.Kinds.{size_of_kind}
use Rattle.c_tree.specs.Valid.{at_number}
use Rattle.source_meaning.specs.Blocks.{has_objects}
use Rattle.source_meaning.specs.Good.{plain_type}
use Rattle.source_meaning.specs.Printing.{pieces_or_none}
use Rattle.tac_ir.specs.declared.instruction.RightOperand.{RightOperand}
use Rattle.tac_ir.specs.declared.instruction.Instruction.{Instruction}
use Rattle.tac_ir.specs.declared.instruction.Instruction.TheVariants as tac
use Rattle.tac_ir.specs.declared.function.CodeFunction.{CodeFunction}
use Rattle.tac_ir.specs.Meaning.{function_in, objects_in, text_in}
use Rattle.flat_code.specs.declared.instruction.FlatInstruction.TheVariants as flat
use Rattle.flat_code.specs.declared.registers.Held.{Held}
use Rattle.flat_operators.specs.Operators.{constant_code, conversion_code, unary_code, binary_code}
use Rattle.flat_operators.specs.Pointers.{difference_code}
use Rattle.shadow_space.specs.Form.{EntryCode}
use Rattle.lib_wrappers.specs.declared.accesses.held.HeldScalar.TheVariants.{Integer as HeldInteger}
use Rattle.lib_wrappers.specs.declared.accesses.held.HeldScalar.TheVariants.{Pointer as HeldPointer}
use Rattle.lib_wrappers.specs.AccessRoutines.Accessing.{load_code as load_list, store_code}
use Rattle.lib_wrappers.specs.PrintingRoutines.Formats.{byte_code}
use Rattle.runtime_functions.specs.declared.library.LibraryFunction.{LibraryFunction}
use Rattle.runtime_functions.specs.declared.library.LibraryFunction.TheVariants as library
use Rattle.runtime_functions.specs.Library.{held_from, signature}
use Rattle.metadata_plan.specs.Entries.{has_area, key_in, may_read_part, pointer_of}
use Rattle.metadata_plan.specs.OperatorLists.Operators.{operators}
use Rattle.metadata_plan.specs.Registers.{all_variables}
use Rattle.metadata_relation.specs.FunctionTypes.{first_of_type}
use Rattle.metadata_relation.specs.InlineCode.{InlineCode}
use Rattle.metadata_relation.specs.InlineLists.{inline_lists}
use Rattle.metadata_relation.specs.Printing.{print_code, scan_statuses, string_register, scan_argument, scan_pieces}
use Rattle.metadata_relation.specs.Printing.{put_argument, put_pieces}
use Rattle.metadata_relation.specs.Registers.{temporary_register, variable_register, first_free, home_entry}
use Rattle.metadata_relation.specs.Registers.{home_register}
use Rattle.metadata_relation.specs.Registers.{lock_register, top_register, moved_register, parameters_end, total}
use Rattle.metadata_relation.specs.Registers.{variable_words}
use Rattle.metadata_relation.specs.Blocks.{Expansion, block, untagged, move_value, move_entry_if, get_code, set_code}
use Rattle.metadata_relation.specs.Blocks.{conversion}
use Rattle.metadata_relation.specs.Blocks.{given_register, new_integer, new_address, update_plain_code, update_code}
use Rattle.metadata_relation.specs.Blocks.{offset_code, narrow_code, number_code, number_operand, load_code, write_code}
use Rattle.metadata_relation.specs.Blocks.{static_object, part_address, held_scalar, library_code, runtime_call}
use Rattle.metadata_relation.specs.Blocks.{statuses_of}
use Rattle.metadata_relation.specs.Blocks.{status_code, pack, objects_of_body, leave_code, enter_code, runtime_number}
use Rattle.metadata_relation.specs.Blocks.{read_code, zeros}
use Rattle.metadata_relation.specs.Blocks.{zero_variables, store_parameter, store_parameters, enter_body, prologue}
use Rattle.metadata_relation.specs.Steps.{have_bytes}
use Rattle.metadata_relation.specs.Structures.{put_code, scalar_part_code}
use Rattle.image_laws.specs.Encoding.Fitting.{AreFit, FitEntries, HasShortPlaces, HasWords, FitsFunction, FitsCode}
use Rattle.image_laws.specs.Encoding.Fitting.{moved_by}
use Rattle.image_laws.proofs.Encoding.Parts.{fit_append, lifted, constant_fit, conversion_fit, short, untagged_fit}
use Rattle.image_laws.proofs.Encoding.Parts.{move_fit}
use Rattle.image_laws.proofs.Encoding.Parts.{entry_fit, constants_fit, number_fit, operand_fit, offset_fit}
use Rattle.image_laws.proofs.Encoding.Parts.{difference_fit}
use Rattle.image_laws.proofs.Encoding.Parts.{narrow_fit, load_fit, store_fit, new_integer_fit, new_address_fit}
use Rattle.image_laws.proofs.Encoding.Parts.{left_fit}
use Rattle.image_laws.proofs.Encoding.Parts.{status_fit, pack_fit, unpack_fit, fit_if, part_fit, bytes_fit, put_fit}
use Rattle.image_laws.proofs.Encoding.Parts.{place_or_part_fit, scalar_part_fit}
use Rattle.image_laws.proofs.Encoding.Parts.{store_structure_fit, take_structure_fit, zero_structure_fit}
use Rattle.image_laws.proofs.Encoding.Checks.{judge_fits}
use Rattle.image_laws.proofs.Encoding.Calls.{call_fits, through_fits, enter_fits}
use Rattle.image_laws.proofs.Images.Instructions as plain

first_least : (fs : List CodeFunction) (type_number : ℕ) → first_of_type fs type_number ≤ length fs
first_least [] type_number = omega arith
first_least (c ∷ cs) type_number = by (c.type_number == type_number) (first_least cs type_number)
  where
    by : (b : Bool) → first_of_type cs type_number ≤ length cs
        → (if b then 0 else suc (first_of_type cs type_number)) ≤ length (c ∷ cs)
    by true rest = omega arith
    by false rest = omega (arith, rest)

-- a variable in front of others
first_at : (xs ys : List Variable) (k : ℕ) (v : Variable) → slice_get xs k ≡ Some v → at_number (xs ++ ys) k ≡ v
first_at [] ys k v at = absurd (none-some v at)
first_at (x ∷ xs) ys zero v at = same_Some x v at
first_at (x ∷ xs) ys (suc k) v at = first_at xs ys k v at

module _ (whole : Expansion) (u : ℕ) (c : CodeFunction) (read write : EntryCode)
    (entries : FitEntries read write whole.map) (places : HasShortPlaces whole.map) (code : FitsCode whole)
    (function : FitsFunction whole c) where
  abbrev Lists : InlineCode
  Lists = inline_lists read write whole.map

  abbrev e : Expansion
  e = record whole { inline = Lists }

  abort : (line : ℕ) → line < 2 ^ 32 → AreFit (flat.End (Abort line) ∷ [])
  abort line low = ((low, omega arith), tt)

  -- ---- values

  conversion_fits : (kind : Kind) (b : Bool) (d a s : ℕ) → AreFit (conversion Lists kind b d a s)
  conversion_fits Void b d a s = (short 0 (omega arith), untagged_fit b d)
  conversion_fits (OfScalar (Integer t)) b d a s =
      fit_append (conversion_code t d a) (untagged b d) (conversion_fit t d a) (untagged_fit b d)
  conversion_fits (OfScalar Pointer) b d a s = move_fit b d a
  conversion_fits (Structure n) b d a s = move_fit b d a
  conversion_fits (Array n) b d a s = move_fit b d a

  get_fits : (o : Option Scalar) (b : Bool) (d x : ℕ) → AreFit (get_code o b d x)
  get_fits (Some Pointer) b d x = move_fit b d x
  get_fits (Some (Integer t)) b d x = (tt, untagged_fit b d)
  get_fits None b d x = (tt, untagged_fit b d)

  set_fits : (o : Option Scalar) (x a : ℕ) → AreFit (set_code o x a)
  set_fits (Some Pointer) x a = move_fit true x a
  set_fits (Some (Integer t)) x a = (tt, tt)
  set_fits None x a = (tt, tt)

  update_plain_fits : (w : Update) (k : Scalar) (f : Fixity) (line : ℕ) (b : Bool) (d x : ℕ) (right : RightOperand)
      (s : ℕ) → moved_by w < 2 ^ 64 → line < 2 ^ 32 → AreFit (update_plain_code Lists c w k f line b d x right s)
  update_plain_fits w (Integer k) f line b d x right s size low =
      fit_append (new_integer operators c w k line s x right (s + 1)) _
      (new_integer_fit c w k line s x right (s + 1) low) (tt, (tt, untagged_fit b d))
  update_plain_fits w Pointer f line b d x right s size low =
      fit_append (new_address Lists c w s x right (s + 1)) _
      (new_address_fit read write whole.map c w s x right (s + 1) size)
      (tt, (tt, entry_fit b (held_from d).tag (held_from x).tag))

  update_fits : (w : Update) (k : Scalar) (f : Fixity) (line : ℕ) (b : Bool) (d p : ℕ) (right : RightOperand) (s : ℕ)
      → moved_by w < 2 ^ 64 → line < 2 ^ 32 → AreFit (update_code Lists c w k f line b d p right s)
  update_fits w (Integer k) f line b d p right s size low =
      fit_append (load_list read whole.map p (HeldInteger k s) (s + 1)) _
      (load_fit read write whole.map entries p (HeldInteger k s) (s + 1))
      (fit_append (new_integer operators c w k line (s + 1) s right (s + 2)) _
      (new_integer_fit c w k line (s + 1) s right (s + 2) low)
      (fit_append (store_code write whole.map p (HeldInteger k (s + 1)) (s + 2))
      (flat.Move d (given_register f s (s + 1)) ∷ untagged b d)
      (store_fit read write whole.map entries p (HeldInteger k (s + 1)) (s + 2)) (tt, untagged_fit b d)))
  update_fits w Pointer f line b d p right s size low =
      let new : Held = record { value = s + 5; tag = (held_from s).tag } in
      fit_append (load_list read whole.map p (HeldPointer (held_from s)) (s + 5)) _
      (load_fit read write whole.map entries p (HeldPointer (held_from s)) (s + 5))
      (fit_append (new_address Lists c w (s + 5) s right (s + 6)) _
      (new_address_fit read write whole.map c w (s + 5) s right (s + 6) size)
      (fit_append (store_code write whole.map p (HeldPointer new) (s + 6))
      (flat.Move d (given_register f s (s + 5)) ∷ move_entry_if b (held_from d).tag (held_from s).tag)
      (store_fit read write whole.map entries p (HeldPointer new) (s + 6))
      (tt, entry_fit b (held_from d).tag (held_from s).tag)))

  -- ---- pointers

  offset_fits : (form : OffsetForm) (size d a b s : ℕ) → size < 2 ^ 64 → AreFit (offset_code Lists form size d a b s)
  offset_fits PointerPlusIndex size d a b s low = offset_fit Add size d a b s low
  offset_fits IndexPlusPointer size d a b s low = offset_fit Add size d b a s low
  offset_fits PointerMinusIndex size d a b s low = offset_fit Sub size d a b s low

  narrow_fits : (b : Bool) (offset size d a s : ℕ) → offset < 2 ^ 64 → size < 2 ^ 64
      → AreFit (narrow_code Lists b offset size d a s)
  narrow_fits false offset size d a s lo ls =
      fit_append (number_code operators offset s (s + 1)) _ (number_fit offset s (s + 1) lo) (operand_fit offset s, tt)
  narrow_fits true offset size d a s lo ls =
      fit_append (move_value true d a) _ (move_fit true d a)
      (fit_append (number_code operators offset s (s + 2)) _ (number_fit offset s (s + 2) lo)
      (fit_append (number_code operators size (s + 1) (s + 2)) _ (number_fit size (s + 1) (s + 2) ls)
      (narrow_fit (held_from d) (number_operand offset s) (number_operand size (s + 1)) (s + 2) (operand_fit offset s)
      (operand_fit size (s + 1)))))

  -- ---- accesses

  load_fits : (k : Scalar) (b : Bool) (d a s : ℕ) → AreFit (load_code Lists k b d a s)
  load_fits (Integer t) b d a s =
      fit_append (load_list read whole.map a (HeldInteger t d) s) (untagged b d)
      (load_fit read write whole.map entries a (HeldInteger t d) s) (untagged_fit b d)
  load_fits Pointer false d a s = load_fit read write whole.map entries a (HeldInteger UnsignedLong d) s
  load_fits Pointer true d a s = (tt, load_fit read write whole.map entries s (HeldPointer (held_from d)) (s + 1))

  read_fits : (q : Bool) (k : Scalar) (b : Bool) (d a s : ℕ) → AreFit (read_code Lists q (OfScalar k) b d a s)
  read_fits q k b d a s =
      place_or_part_fit q a (scalar_part_code k b d a s) (load_code Lists k b d a s) (scalar_part_fit k b d a s)
      (load_fits k b d a s)

  write_fits : (k : Scalar) (b : Bool) (d p a s : ℕ) → AreFit (write_code Lists k b d p a s)
  write_fits (Integer t) b d p a s =
      fit_append (store_code write whole.map p (HeldInteger t a) s) (flat.Move d a ∷ untagged b d)
      (store_fit read write whole.map entries p (HeldInteger t a) s) (tt, untagged_fit b d)
  write_fits Pointer b d p a s =
      fit_append (store_code write whole.map p (HeldPointer (held_from a)) s) _
      (store_fit read write whole.map entries p (HeldPointer (held_from a)) s) (move_fit b d a)

  -- ---- the library

  served : (f : LibraryFunction) (line d : ℕ) (b : Bool) → line < 2 ^ 32
      → AreFit (runtime_call whole.code c f line d b)
  served f line d b low =
      fit_append (pack c (signature f).takes (moved_register c (5 * d)) d) _
      (pack_fit c (signature f).takes (moved_register c (5 * d)) d) (
        tt,
        fit_append (status_code (first_free c) line (statuses_of f)) _
            (status_fit (first_free c) line (statuses_of f) low)
            (unpack_fit (signature f).gives b (temporary_register c d) (first_free c + 1)),
      )

  library_fits : (r : Routine) (line d : ℕ) (b : Bool) → line < 2 ^ 32
      → AreFit (library_code Lists whole.code c r line d b)
  library_fits routine.Putchar line d b low = (
    tt,
    fit_append (conversion_code UnsignedChar (temporary_register c d) (temporary_register c d)) _
        (conversion_fit UnsignedChar (temporary_register c d) (temporary_register c d)) (untagged_fit b (temporary_register c d)),
  )
  library_fits routine.Getchar line d b low = (tt, untagged_fit b (temporary_register c d))
  library_fits routine.Exit line d b low = (tt, tt)
  library_fits routine.Abort line d b low = abort line low
  library_fits routine.Malloc line d b low = served library.Malloc line d b low
  library_fits routine.Calloc line d b low = served library.Calloc line d b low
  library_fits routine.Free line d b low = served library.Free line d b low
  library_fits routine.Realloc line d b low = served library.Realloc line d b low
  library_fits routine.Memcpy line d b low = served library.Memcpy line d b low
  library_fits routine.Memmove line d b low = served library.Memmove line d b low
  library_fits routine.Memset line d b low = served library.Memset line d b low
  library_fits routine.Memcmp line d b low = served library.Memcmp line d b low
  library_fits routine.Strlen line d b low = served library.Strlen line d b low
  library_fits routine.Strcmp line d b low = served library.Strcmp line d b low
  library_fits routine.Strcpy line d b low = served library.Strcpy line d b low
  library_fits routine.Strncpy line d b low = served library.Strncpy line d b low
  library_fits routine.Strcat line d b low = served library.Strcat line d b low
  library_fits routine.Strchr line d b low = served library.Strchr line d b low
  library_fits routine.Puts line d b low = served library.Puts line d b low

  -- ---- `printf`

  abbrev number : ℕ → ℕ
  number = runtime_number whole.code

  scan_fits : (d : Directive) (line i : ℕ) → line < 2 ^ 32
      → AreFit (scan_argument number (λ r. status_code r line scan_statuses) c d i)
  scan_fits directive.String line i low = (tt, status_fit (string_register c i) line scan_statuses low)
  scan_fits _ line i low = tt

  scans_fit : (ps : List Piece) (line i : ℕ) → line < 2 ^ 32
      → AreFit (scan_pieces number (λ r. status_code r line scan_statuses) c ps i)
  scans_fit [] line i low = tt
  scans_fit (piece.Byte b ∷ ps) line i low = scans_fit ps line i low
  scans_fit (piece.Directive d ∷ ps) line i low =
      fit_append (scan_argument number (λ r. status_code r line scan_statuses) c d i) _ (scan_fits d line i low)
      (scans_fit ps line (i + 1) low)

  put_fits : (d : Directive) (i n : ℕ) → AreFit (put_argument number c d i n)
  put_fits directive.String i n = (tt, (tt, (tt, (tt, tt))))
  put_fits _ i n = (tt, (tt, tt))

  puts_fit : (ps : List Piece) (i n : ℕ) → have_bytes ps ≡ true → AreFit (put_pieces number c ps i n)
  puts_fit [] i n bytes = tt
  puts_fit (piece.Byte b ∷ ps) i n bytes =
      let parts = and_parts (nat_lt b 256) (have_bytes ps) bytes in
      let low = ltb-true b 256 parts.0 in
      fit_append (byte_code b n (n + 1)) _ (inl (omega (arith, low)), (tt, (short 1 (omega arith), tt)))
      (puts_fit ps i n parts.1)
  puts_fit (piece.Directive d ∷ ps) i n bytes =
      fit_append (put_argument number c d i n) _ (put_fits d i n) (puts_fit ps (i + 1) n bytes)

  print_fits : (ps : List Piece) (line d : ℕ) (b : Bool) → line < 2 ^ 32 → have_bytes ps ≡ true
      → AreFit (print_code number (λ r. status_code r line scan_statuses) c ps d ++ untagged b (temporary_register c d))
  print_fits ps line d b low bytes =
      let n = first_free c in
      let tests = λ (r : ℕ). status_code r line scan_statuses in
      fit_append (print_code number tests c ps d) (untagged b (temporary_register c d))
      (fit_append (scan_pieces number tests c ps d) _ (scans_fit ps line d low) (
        short 0 (omega arith),
        fit_append (put_pieces number c ps d n) _ (puts_fit ps d n bytes) (short 0 (omega arith), tt),
      )) (untagged_fit b (temporary_register c d))

  -- ---- blocks

  returned_fits : (a : ℕ) → AreFit (block e u c (tac.Return a))
  returned_fits a = by (has_objects (objects_of_body c))
    where
      by : (b : Bool)
          → AreFit ((if b then leave_code Lists whole.map c (objects_of_body c) else [])
          ++ (flat.Return (temporary_register c a) ∷ []))
      by false = (tt, tt)
      by true =
          fit_append (leave_code Lists whole.map c (objects_of_body c)) (flat.Return (temporary_register c a) ∷ [])
          (left_fit whole.map (lock_register c (objects_of_body c)) (top_register c (objects_of_body c)) (first_free c)
          places) (tt, tt)

  pub block_fits : (i : Instruction) → HasWords whole c i → AreFit (block e u c i)
  block_fits tac.Reserved words = abort 1 (omega arith)
  block_fits (tac.Skip m) words = tt
  block_fits (tac.Constant d w m) words =
      fit_append (constant_code (temporary_register c d) w) _ (constant_fit (temporary_register c d) w words)
      (untagged_fit (whole.entries u m d) (temporary_register c d))
  block_fits (tac.FunctionPointer d f m) words =
      fit_append (constant_code (temporary_register c d) (function_address f)) _
      (constant_fit (temporary_register c d) (function_address f) words.0)
      (constants_fit (whole.entries u m d) (held_from (temporary_register c d)).tag (function_address f)
      (function_address f) (2 ^ 63 + whole.types f) 0 (first_free c) words.0 words.0 words.1 (omega arith))
  block_fits (tac.GetPlain d x m) words =
      get_fits (plain_type (all_variables c) x) (whole.entries u m d) (temporary_register c d) (variable_register c x)
  block_fits (tac.SetPlain x a m) words =
      set_fits (plain_type (all_variables c) x) (variable_register c x) (temporary_register c a)
  block_fits (tac.UpdatePlain w k f line d x right m) words =
      update_plain_fits w k f line (whole.entries u m d) (temporary_register c d) (variable_register c x) right
      (first_free c) words.0 words.1
  block_fits (tac.HomePointer d x m) words =
      (tt, entry_fit (whole.entries u m d) (held_from (temporary_register c d)).tag (home_entry c x))
  block_fits (tac.StaticPointer d n m) words =
      let object = static_object whole.map whole.code n in
      let lock = places.locks in
      let low = code.statics n in
      fit_append (constant_code (temporary_register c d) object.address) _
      (constant_fit (temporary_register c d) object.address (omega (arith, low)))
      (constants_fit (whole.entries u m d) (held_from (temporary_register c d)).tag object.address
      (object.address + object.size) 1 (region_start whole.map Locks) (first_free c) (omega (arith, low))
      (omega (arith, low)) (omega arith) (omega (arith, lock)))
  block_fits (tac.ZeroOf (Structure size) d m) words =
      zero_structure_fit whole.map places whole.code c number (whole.entries u m d) size d (temporary_register c d)
      (first_free c) words.0 words.1
  block_fits (tac.ZeroOf kind d m) words =
      (short 0 (omega arith), untagged_fit (whole.entries u m d) (temporary_register c d))
  block_fits (tac.Convert kind d a m) words =
      conversion_fits kind (whole.entries u m d) (temporary_register c d) (temporary_register c a) (first_free c)
  block_fits (tac.Unary op ty d a m) words =
      let code = unary_code op ty (temporary_register c d) (temporary_register c a) (first_free c) in
      fit_append code _
      (lifted code (plain.unary_fit op ty (temporary_register c d) (temporary_register c a) (first_free c)))
      (untagged_fit (whole.entries u m d) (temporary_register c d))
  block_fits (tac.Binary op ty line d a b m) words =
      let code = binary_code op ty line (temporary_register c d) (temporary_register c a) (temporary_register c b)
      (first_free c) in
      fit_append code _
      (lifted code (plain.binary_fit op ty line (temporary_register c d) (temporary_register c a) (temporary_register c b)
      (first_free c) words))
      (untagged_fit (whole.entries u m d) (temporary_register c d))
  block_fits (tac.Offset form size d a b m) words =
      fit_append
      (offset_code Lists form size (temporary_register c d) (temporary_register c a) (temporary_register c b) (first_free c)) _
      (offset_fits form size (temporary_register c d) (temporary_register c a) (temporary_register c b) (first_free c) words)
      (entry_fit (whole.entries u m d) (held_from (temporary_register c d)).tag
      (held_from (temporary_register c (pointer_of form a b))).tag)
  block_fits (tac.Difference size d a b m) words =
      fit_append
      (difference_code size (temporary_register c d) (temporary_register c a) (temporary_register c b) (first_free c)) _
      (difference_fit size (temporary_register c d) (temporary_register c a) (temporary_register c b) (first_free c) words)
      (untagged_fit (whole.entries u m d) (temporary_register c d))
  block_fits (tac.Narrow offset size d a m) words =
      narrow_fits (whole.entries u m d) offset size (temporary_register c d) (temporary_register c a) (first_free c) words.0
      words.1
  block_fits (tac.Member offset size d a m) words =
      narrow_fits (whole.entries u m d) offset size (temporary_register c d) (temporary_register c a) (first_free c) words.0
      words.1
  block_fits (tac.Take (Structure size) line d a m) words =
      take_structure_fit whole.map places whole.code c number (whole.entries u m d) size d (temporary_register c d)
      (temporary_register c a) (first_free c) words.0 words.1
  block_fits (tac.Take kind line d a m) words = abort 1 (omega arith)
  block_fits (tac.Read (OfScalar k) mode line key d a m) words =
      read_fits (may_read_part whole.code c mode a) k (whole.entries u m d) (temporary_register c d)
      (temporary_register c a) (first_free c)
  block_fits (tac.Read kind mode line key d a m) words =
      move_fit (whole.entries u m d) (temporary_register c d) (temporary_register c a)
  block_fits (tac.Write (OfScalar k) mode line key d a b m) words =
      write_fits k (whole.entries u m d) (temporary_register c d) (temporary_register c a) (temporary_register c b)
      (first_free c)
  block_fits (tac.Write (Structure size) mode line key d a b m) words = (
    tt,
    fit_append
        (put_code operators number (has_area whole.code c b) (temporary_register c b) size (first_free c)) _
        (put_fit number (has_area whole.code c b) (temporary_register c b) size (first_free c) words)
        (move_fit (whole.entries u m d) (temporary_register c d) (temporary_register c a)),
  )
  block_fits (tac.Write kind mode line key d a b m) words = abort 1 (omega arith)
  block_fits (tac.Update w k f mode line place key d a right m) words =
      update_fits w k f place (whole.entries u m d) (temporary_register c d) (temporary_register c a) right (first_free c)
      words.0 words.1
  block_fits (tac.StorePart (OfScalar k) line x offset a m) words =
      fit_append (part_address operators c x offset (first_free c)) _ (part_fit c x offset (first_free c) words)
      (store_fit read write whole.map entries (first_free c) (held_scalar k (temporary_register c a)) (first_free c + 1))
  block_fits (tac.StorePart (Structure size) line x offset a m) words =
      fit_append (part_address operators c x offset (first_free c)) _ (part_fit c x offset (first_free c) words.0)
      (put_fit number (has_area whole.code c a) (temporary_register c a) size (first_free c) words.1)
  block_fits (tac.StorePart kind line x offset a m) words = abort 1 (omega arith)
  block_fits (tac.StoreText n x offset m) words =
      fit_append (part_address operators c x offset (first_free c)) _ (part_fit c x offset (first_free c) words.0)
      (bytes_fit (text_in whole.code n) (first_free c) (first_free c + 1) words.1)
  block_fits (tac.Zero x m) words =
      let size = size_of_kind (at_number (all_variables c) x).kind in
      let low = function.sizes x in (
        tt,
        fit_append (constant_code (first_free c + 1) size) _ (constant_fit (first_free c + 1) size (omega (arith, low))) (tt, tt),
      )
  block_fits (tac.Judge test size line key a m) words =
      judge_fits whole c read write code function test (key_in c key) size line (temporary_register c a) (first_free c) words.0
      words.1
  block_fits (tac.Branch a x y) words = (short 0 (omega arith), tt)
  block_fits (tac.Case a w x y) words =
      fit_append (constant_code (first_free c) w) _ (constant_fit (first_free c) w words) (tt, tt)
  block_fits (tac.Turn counted m) words = (tt, tt)
  block_fits (tac.Library r line d n m) words = library_fits r line d (whole.entries u m d) words
  block_fits (tac.Print x line d n m) words =
      print_fits (pieces_or_none (pieces (text_in whole.code x))) line d (whole.entries u m d) words.0 words.1
  block_fits (tac.Call f line d n m) words =
      call_fits whole.map places whole.code c (function_in whole.code f) f line d n (whole.entries u m d) words.0 words.1
  block_fits (tac.CallThrough type_number line d n m) words =
      let kind = first_of_type whole.code.functions type_number in
      let few = code.few in
      let least = first_least whole.code.functions type_number in
      through_fits whole.map places whole.code c (slice_get whole.code.functions kind) kind line d n (whole.entries u m d)
      (omega (arith, few, least)) words.0 words.1
  block_fits (tac.EnterBlock b line m) words =
      enter_fits whole.map places whole.code c (objects_in (Some c) b) line words.0 words.1
  block_fits (tac.LeaveBlock b m) words =
      left_fit whole.map (lock_register c (objects_in (Some c) b)) (top_register c (objects_in (Some c) b)) (first_free c)
      places
  block_fits (tac.Return a) words = returned_fits a

  -- ---- what the function begins with

  zeros_fit : (r n : ℕ) → AreFit (zeros r n)
  zeros_fit r zero = tt
  zeros_fit r (suc n) = (short 0 (omega arith), zeros_fit (r + 1) n)

  parameter_fits : (kind : Kind) (x : ℕ) → size_of_kind kind < 2 ^ 63
      → AreFit (store_parameter Lists whole.code c kind x)
  parameter_fits (OfScalar k) x low =
      store_fit read write whole.map entries (home_register c x) (held_scalar k (variable_register c x)) (first_free c)
  parameter_fits Void x low = abort 1 (omega arith)
  parameter_fits (Structure n) x low =
      store_structure_fit number n (home_register c x) (variable_register c x) (first_free c) (omega (arith, low))
  parameter_fits (Array n) x low = abort 1 (omega arith)

  parameters_fit : (vs : List Variable) (x : ℕ)
      → ((k : ℕ) (v : Variable) → slice_get vs k ≡ Some v → size_of_kind v.kind < 2 ^ 63)
      → AreFit (store_parameters Lists whole.code c x vs)
  parameters_fit [] x low = tt
  parameters_fit (v ∷ vs) x low =
      let one = store_parameter Lists whole.code c v.kind x in
      fit_append (if v.is_object then one else []) (store_parameters Lists whole.code c (suc x) vs)
      (fit_if v.is_object one [] (parameter_fits v.kind x (low 0 v refl)) tt)
      (parameters_fit vs (suc x) (λ k w at. low (suc k) w at))

  parameter_low : (k : ℕ) (v : Variable) → slice_get c.parameters k ≡ Some v → size_of_kind v.kind < 2 ^ 63
  parameter_low k v at =
      subst (λ w. size_of_kind w.kind < 2 ^ 63) (first_at c.parameters c.variables k v at) (function.sizes k)

  pub prologue_fits : AreFit (prologue e c)
  prologue_fits =
      fit_append (zero_variables c) _ (zeros_fit (parameters_end c + 1) (total variable_words c.variables))
      (fit_if (has_objects (objects_of_body c)) (enter_body e c) []
      (fit_append (enter_code operators whole.map whole.code c (objects_of_body c) c.line)
      (store_parameters Lists whole.code c 0 c.parameters)
      (enter_fits whole.map places whole.code c (objects_of_body c) c.line function.line function.body)
      (parameters_fit c.parameters 0 parameter_low)) tt)

-- whatever lists stand inline
pub block_fit : (whole : Expansion) (u : ℕ) (c : CodeFunction) (read write : EntryCode) (i : Instruction)
    → FitEntries read write whole.map → HasShortPlaces whole.map → FitsCode whole → FitsFunction whole c
    → whole.inline ≡ inline_lists read write whole.map → HasWords whole c i → AreFit (block whole u c i)
block_fit whole u c read write i entries places code function same words =
    subst (λ z. AreFit (block (record whole { inline = z }) u c i)) (sym same)
    (block_fits whole u c read write entries places code function i words)

pub prologue_fit : (whole : Expansion) (c : CodeFunction) (read write : EntryCode) → FitEntries read write whole.map
    → HasShortPlaces whole.map → FitsCode whole → FitsFunction whole c
    → whole.inline ≡ inline_lists read write whole.map → AreFit (prologue whole c)
prologue_fit whole c read write entries places code function same =
    subst (λ z. AreFit (prologue (record whole { inline = z }) c)) (sym same)
    (prologue_fits whole 0 c read write entries places code function)
