-- The block of `printf`: strings are scanned, and then the pieces of the format are put out.
use Rattle.std.proofs.Common.{◌≡◌, ◌⊎◌, inl, inr, ℕ, ◌+◌, ◌<◌, refl, subst, arith}
use Rattle.std.proofs.Common.{Bool, true, List, [], ◌∷◌, ◌++◌}
use Rattle.rv_isa.specs.declared.instruction.RegOp.TheVariants.{Add, Sub}
use Rattle.c_tree.specs.declared.format.Directive.{Directive}
use Rattle.c_tree.specs.declared.format.Directive.TheVariants as directive
use Rattle.c_tree.specs.declared.format.Piece.{Piece}
use Rattle.c_tree.specs.declared.format.Piece.TheVariants as piece
use Rattle.c_tree.specs.Format.{directives}
use Rattle.tac_ir.specs.declared.function.CodeFunction.{CodeFunction}
use Rattle.tac_ir.specs.declared.function.Tac.{Tac}
use Rattle.flat_code.specs.declared.instruction.RightOperand.TheVariants.{Register}
use Rattle.flat_code.specs.declared.instruction.FlatInstruction.{FlatInstruction}
use Rattle.flat_code.specs.declared.instruction.FlatInstruction.TheVariants.{Call, Constant, Move, Operate}
use Rattle.flat_code.specs.declared.function.FlatProgram.{FlatProgram}
use Rattle.flat_code.specs.Calls.{function_in}
use Rattle.flat_code.specs.Meaning.{parameters_of, results_of}
use Rattle.runtime_functions.specs.declared.runtime.RuntimeFunction.TheVariants.{Scan, PutBytes, PutNumber}
use Rattle.lib_wrappers.specs.PrintingRoutines.Formats.{byte_code, counted_code}
use Rattle.metadata_relation.specs.Registers.{temporary_register}
use Rattle.metadata_relation.specs.Printing.{scan_place, range_place, scan_statuses, string_register}
use Rattle.metadata_relation.specs.Printing.{end_register, scan_argument, scan_pieces, put_argument, put_pieces}
use Rattle.metadata_relation.specs.Printing.{print_code}
use Rattle.metadata_relation.specs.Blocks.{runtime_number, status_code, untagged}
use Rattle.metadata_relation.specs.Registers.{first_free}
use Rattle.image_laws.specs.Plans.Assignment.{Registers, IsOneOf}
use Rattle.image_laws.specs.Plans.Instructions.{numbers_from, value_of, HasCallees}
use Rattle.image_laws.proofs.Assignment.Flows.{Flows, followed, and_then, wider, last_append}
use Rattle.image_laws.proofs.Assignment.Straight.{AllFrom, AreIn, are_in_more, straight, nothing}
use Rattle.image_laws.proofs.Assignment.Temporaries.{all_one_of}
use Rattle.image_laws.proofs.Assignment.Values.{Block, integer}
use Rattle.image_laws.proofs.Assignment.Pieces.{call_flows, some_behind}
use Rattle.image_laws.proofs.Assignment.Pieces.{value_from, two_from, one_from}
use Rattle.image_laws.proofs.Assignment.Accesses.{AreOwn}
use Rattle.image_laws.proofs.Assignment.Calls.{status_flows}

in_parts : (R : Registers) (xs ys : List ℕ) → AreIn (xs ++ ys) R → AreIn xs R × AreIn ys R
in_parts R [] ys h = (tt, h)
in_parts R (x ∷ xs) ys h = let parts = in_parts R xs ys h.1 in ((h.0, parts.0), parts.1)

module _ (p : FlatProgram) (u : ℕ) (P : Registers) (t : Tac) (callees : HasCallees p t) (c : CodeFunction) (line : ℕ)
    (own : AreOwn P (first_free c) 16) where
  abbrev number : ℕ → ℕ
  number = runtime_number t

  abbrev tests : ℕ → List FlatInstruction
  tests r = status_code r line scan_statuses

  abbrev n : ℕ
  n = first_free c

  own_at : (j : ℕ) → j < 16 → P (n + j)
  own_at j lt = own (n + j) (omega arith) (omega (arith, lt))

  -- each argument has its value with an entry, and where a string begins and ends has registers
  abbrev pub AreGiven : Registers → List Directive → (temporary : ℕ) → Type 0
  AreGiven R [] i = Unit {0}
  AreGiven R (d ∷ ds) i = AreIn (value_of true (temporary_register c i)) R × AreGiven R ds (i + 1)

  abbrev pub HaveStrings : List Directive → (temporary : ℕ) → Type 0
  HaveStrings [] i = Unit {0}
  HaveStrings (d ∷ ds) i = AllFrom P (string_register c i) 2 × HaveStrings ds (i + 1)

  given_more : (R S : Registers) → ((y : ℕ) → R y → S y) → (ds : List Directive) (i : ℕ) → AreGiven R ds i
      → AreGiven S ds i
  given_more R S k [] i g = tt
  given_more R S k (d ∷ ds) i g =
      (are_in_more (value_of true (temporary_register c i)) R S k g.0, given_more R S k ds (i + 1) g.1)

  -- where strings begin and end, once they are scanned
  abbrev scanned_by : Directive → (temporary : ℕ) → List ℕ
  scanned_by directive.String i = numbers_from (string_register c i) 2
  scanned_by d i = []

  abbrev AreScanned : Registers → List Directive → (temporary : ℕ) → Type 0
  AreScanned R [] i = Unit {0}
  AreScanned R (d ∷ ds) i = AreIn (scanned_by d i) R × AreScanned R ds (i + 1)

  scanned_more : (R S : Registers) → ((y : ℕ) → R y → S y) → (ds : List Directive) (i : ℕ) → AreScanned R ds i
      → AreScanned S ds i
  scanned_more R S k [] i g = tt
  scanned_more R S k (d ∷ ds) i g = (are_in_more (scanned_by d i) R S k g.0, scanned_more R S k ds (i + 1) g.1)

  abbrev scanned : List Directive → (temporary : ℕ) → List ℕ
  scanned [] i = []
  scanned (d ∷ ds) i = scanned_by d i ++ scanned ds (i + 1)

  scanned_in : (R : Registers) (ds : List Directive) (i : ℕ) → AreIn (scanned ds i) R → AreScanned R ds i
  scanned_in R [] i h = tt
  scanned_in R (d ∷ ds) i h =
      let parts = in_parts R (scanned_by d i) (scanned ds (i + 1)) h in
      (parts.0, scanned_in R ds (i + 1) parts.1)

  -- ---- scans

  scan_one : (G : Registers) → ((y : ℕ) → G y → P y) → (d : Directive) (i : ℕ)
      → AreIn (value_of true (temporary_register c i)) G → AllFrom P (string_register c i) 2
      → Flows p u P G (scan_argument number tests c d i) 0 (scanned_by d i)
  scan_one G low directive.String i given named =
      let call = Call (number scan_place) (temporary_register c i) (string_register c i) in
      let r = string_register c i in
      let k = callees.runtime scan_place Scan refl in
      followed p u P G (call ∷ []) (tests r) 0 (numbers_from r 2) (numbers_from r 2)
      (call_flows p u P G low (number scan_place) (temporary_register c i) r 5 2 k.0 k.1
      (value_from G (temporary_register c i) given) named)
      (λ S keeps made low'.
      wider p u P S (tests r) 0 [] (numbers_from r 2)
      (status_flows p u P S low' r line scan_statuses tt (made r (inl refl)))
      (λ y m. inl (made y m)))
  scan_one G low _ i given named = nothing p u P G low

  scan_flows : (ps : List Piece) (G : Registers) → ((y : ℕ) → G y → P y) → (i : ℕ) → AreGiven G (directives ps) i
      → HaveStrings (directives ps) i
      → Flows p u P G (scan_pieces number tests c ps i) 0 (scanned (directives ps) i)
  scan_flows [] G low i given named = nothing p u P G low
  scan_flows (piece.Byte b ∷ ps) G low i given named = scan_flows ps G low i given named
  scan_flows (piece.Directive d ∷ ps) G low i given named =
      and_then p u P G (scan_argument number tests c d i) (scan_pieces number tests c ps (i + 1)) 0 (scanned_by d i)
      (scanned (directives ps) (i + 1)) (scan_one G low d i given.0 named.0)
      (λ S keeps made low'.
      scan_flows ps S low' (i + 1) (given_more G S keeps (directives ps) (i + 1) given.1) named.1)

  -- ---- what is put out

  -- a number, whose function gives how many bytes there were behind its status
  put_number : (G : Registers) → ((y : ℕ) → G y → P y) → (g i : ℕ) → parameters_of (function_in p g) ≡ 1
      → results_of (function_in p g) ≡ 2 → AreIn (value_of true (temporary_register c i)) G → G n
      → Flows p u P G
      (Call g (temporary_register c i) (n + 1) ∷ Operate Add n n (Register (n + 2)) ∷ []) 0 []
  put_number G low g i takes gives given gn =
      followed p u P G (Call g (temporary_register c i) (n + 1) ∷ []) (Operate Add n n (Register (n + 2)) ∷ []) 0
      (numbers_from (n + 1) 2) []
      (call_flows p u P G low g (temporary_register c i) (n + 1) 1 2 takes gives
      (one_from G (temporary_register c i) given.0)
      (two_from P (n + 1) (own_at 1 (omega arith)) (own (n + 1 + 1) (omega arith) (omega arith))))
      (λ S keeps made low'.
      let same : n + 1 + 1 ≡ n + 2 = omega arith in
      straight p u P 0 S (Operate Add n n (Register (n + 2)) ∷ [])
      ((keeps n gn, subst S same (made (n + 1 + 1) (inr (inl refl)))), own n (omega arith) (omega arith), tt, tt) low' [] tt)

  put_one : (G : Registers) → ((y : ℕ) → G y → P y) → (d : Directive) (i : ℕ)
      → AreIn (value_of true (temporary_register c i)) G → AreIn (scanned_by d i) G → AllFrom P (string_register c i) 2
      → G n → Flows p u P G (put_argument number c d i n) 0 []
  put_one G low directive.String i given (begin, (end, _)) named gn =
      let r = string_register c i in
      let e = end_register c i in
      let k = callees.runtime range_place PutBytes refl in
      let move = Move r (temporary_register c i) ∷ [] in
      let call = Call (number range_place) r (n + 1) ∷ [] in
      let count = Operate Sub (n + 1) e (Register r) ∷ Operate Add n n (Register (n + 1)) ∷ [] in
      followed p u P G move (call ++ count) 0 (r ∷ []) []
      (straight p u P 0 G move (given.0, low r begin, tt, tt) low (r ∷ []) (inr refl, tt))
      (λ S keeps made low'.
      followed p u P S call count 0 ((n + 1) ∷ []) []
      (call_flows p u P S low' (number range_place) r (n + 1) 2 1 k.0 k.1
      (two_from S r (made r (inl refl)) (keeps e end)) (one_from P (n + 1) (own_at 1 (omega arith))))
      (λ T keeps' made' low''.
      straight p u P 0 T count (
        (keeps' e (keeps e end), keeps' r (made r (inl refl))),
        own_at 1 (omega arith),
        tt,
        ((inl (keeps' n (keeps n gn)), inr refl), own n (omega arith) (omega arith), tt, tt),
      ) low'' [] tt))
  put_one G low directive.Int i given strings named gn =
      let k = callees.runtime 17 (PutNumber directive.Int) refl in put_number G low (number 17) i k.0 k.1 given gn
  put_one G low directive.UnsignedInt i given strings named gn =
      let k = callees.runtime 18 (PutNumber directive.UnsignedInt) refl in
      put_number G low (number 18) i k.0 k.1 given gn
  put_one G low directive.Hexadecimal i given strings named gn =
      let k = callees.runtime 19 (PutNumber directive.Hexadecimal) refl in
      put_number G low (number 19) i k.0 k.1 given gn
  put_one G low directive.Character i given strings named gn =
      let k = callees.runtime 20 (PutNumber directive.Character) refl in
      put_number G low (number 20) i k.0 k.1 given gn
  put_one G low directive.Long i given strings named gn =
      let k = callees.runtime 21 (PutNumber directive.Long) refl in put_number G low (number 21) i k.0 k.1 given gn
  put_one G low directive.UnsignedLong i given strings named gn =
      let k = callees.runtime 22 (PutNumber directive.UnsignedLong) refl in
      put_number G low (number 22) i k.0 k.1 given gn

  byte_flows : (G : Registers) → ((y : ℕ) → G y → P y) → (b : ℕ) → G n → Flows p u P G (byte_code b n (n + 1)) 0 []
  byte_flows G low b gn =
      straight p u P 0 G (byte_code b n (n + 1))
      (tt, own_at 1 (omega arith), tt, (inr refl, tt, tt, ((inl gn, tt), own n (omega arith) (omega arith), tt, tt))) low [] tt

  put_flows : (ps : List Piece) (G : Registers) → ((y : ℕ) → G y → P y) → (i : ℕ) → AreGiven G (directives ps) i
      → AreScanned G (directives ps) i → HaveStrings (directives ps) i → G n
      → Flows p u P G (put_pieces number c ps i n) 0 []
  put_flows [] G low i given strings named gn = nothing p u P G low
  put_flows (piece.Byte b ∷ ps) G low i given strings named gn =
      followed p u P G (byte_code b n (n + 1)) (put_pieces number c ps i n) 0 [] [] (byte_flows G low b gn)
      (λ S keeps made low'.
      put_flows ps S low' i (given_more G S keeps (directives ps) i given) (scanned_more G S keeps (directives ps) i strings)
      named (keeps n gn))
  put_flows (piece.Directive d ∷ ps) G low i given strings named gn =
      followed p u P G (put_argument number c d i n) (put_pieces number c ps (i + 1) n) 0 [] []
      (put_one G low d i given.0 strings.0 named.0 gn)
      (λ S keeps made low'.
      put_flows ps S low' (i + 1) (given_more G S keeps (directives ps) (i + 1) given.1)
      (scanned_more G S keeps (directives ps) (i + 1) strings.1) named.1 (keeps n gn))

  -- ---- all of it

  print_flows : (G : Registers) → ((y : ℕ) → G y → P y) → (ps : List Piece) (d : ℕ) → AreGiven G (directives ps) d
      → HaveStrings (directives ps) d → P (temporary_register c d)
      → Flows p u P G (print_code number tests c ps d) 0 (temporary_register c d ∷ [])
  print_flows G low ps d given named pd =
      let D = temporary_register c d in
      let count = counted_code D n in
      let put = put_pieces number c ps d n in
      followed p u P G (scan_pieces number tests c ps d) (Constant n 0 ∷ (put ++ count)) 0 (scanned (directives ps) d)
      (D ∷ []) (scan_flows ps G low d given named)
      (λ S keeps made low'.
      followed p u P S (Constant n 0 ∷ []) (put ++ count) 0 (n ∷ []) (D ∷ [])
      (straight p u P 0 S (Constant n 0 ∷ []) (tt, own n (omega arith) (omega arith), tt, tt) low' (n ∷ []) (inr refl, tt))
      (λ T keeps' made' low''.
      followed p u P T put count 0 [] (D ∷ [])
      (put_flows ps T low'' d (given_more G T (λ y g. keeps' y (keeps y g)) (directives ps) d given)
      (scanned_more S T keeps' (directives ps) d
      (scanned_in S (directives ps) d (all_one_of (scanned (directives ps) d) S made))) named (made' n (inl refl)))
      (λ U keeps'' made'' low3.
      straight p u P 0 U count ((keeps'' n (made' n (inl refl)), tt), pd, tt, tt) low3 (D ∷ []) (inr refl, tt))))

  pub printed_block : (G : Registers) → ((y : ℕ) → G y → P y) → (ps : List Piece) (b : Bool) (d : ℕ)
      → AreGiven G (directives ps) d → HaveStrings (directives ps) d → AreIn (value_of b (temporary_register c d)) P
      → Block p u P G (print_code number tests c ps d ++ untagged b (temporary_register c d)) 0
      (value_of b (temporary_register c d))
  printed_block G low ps b d given named result =
      let D = temporary_register c d in
      let E = λ (y : ℕ). G y ⊎ IsOneOf (value_of b D) y in
      let put = put_pieces number c ps d n in
      integer p u P G (print_code number tests c ps d) b D result.1 (print_flows G low ps d given named result.0)
      (last_append p E (scan_pieces number tests c ps d) (Constant n 0 ∷ (put ++ counted_code D n)) (omega arith)
      (last_append p E (Constant n 0 ∷ []) (put ++ counted_code D n) (some_behind put (counted_code D n) (omega arith))
      (last_append p E put (counted_code D n) (omega arith) (inl refl))))
