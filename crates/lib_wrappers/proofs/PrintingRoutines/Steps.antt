-- One more piece.
use Rattle.std.proofs.Common.{◌≡◌, ℕ, zero, suc, ◌+◌, ◌*◌, ◌<◌, ◌≤◌, List, [], ◌∷◌, ◌++◌, true, Some, length, drop}
use Rattle.std.proofs.Common.{refl, sym, ap, ◌∙◌, subst, arith, append_assoc}
use Rattle.std.proofs.lemmas.List.{append-nil}
use Rattle.addr_map.specs.Places.{MapSizes, AreMapped}
use Rattle.c_tree.specs.Format.{pieces}
use Rattle.source_meaning.specs.Printing.{print_formatted}
use Rattle.flat_code.specs.Memory.{Bytes}
use Rattle.flat_code.specs.declared.instruction.FlatInstruction.TheVariants.{Constant}
use Rattle.flat_code.specs.Routines.Metadata.{View}
use Rattle.c_tree.specs.declared.format.Directive.{Directive}
use Rattle.source_meaning.specs.Strings.{scan}
use Rattle.flat_code.specs.declared.instruction.FlatInstruction.{FlatInstruction}
use Rattle.flat_code.specs.declared.registers.Held.{Held}
use Rattle.flat_actions.specs.Actions.{Basis, Word, IsAction}
use Rattle.flat_actions.specs.Scanning.{IsScanRoutine}
use Rattle.flat_actions.proofs.Standing.{AreAllBelow}
use Rattle.lib_wrappers.specs.StringRoutines.Putting.{IsPutRoutine}
use Rattle.lib_wrappers.specs.declared.printing.formats.Printed.{Printed}
use Rattle.lib_wrappers.specs.declared.printing.formats.Printed.TheVariants.{Byte, Number, String}
use Rattle.lib_wrappers.specs.PrintingRoutines.Numbers.{IsNumberRoutine}
use Rattle.lib_wrappers.specs.PrintingRoutines.Formats.{cursor_of, byte_code, count_string, counted_code, AreScans}
use Rattle.lib_wrappers.specs.PrintingRoutines.Formats.{ArePuts}
use Rattle.lib_wrappers.specs.PrintingRoutines.Printed.{ScanThese, PutThese, ScansSoFar, PutsSoFar, ScansNext, PutsNext}
use Rattle.lib_wrappers.specs.PrintingRoutines.Printed.{pieces_of, holders_of, argument_count, ArePrintable}
use Rattle.lib_wrappers.proofs.PrintingRoutines.Printable.{directive_count}
use Rattle.lib_wrappers.proofs.PrintingRoutines.Prints.{prints}

pub scans_byte : (g : Basis) (line t w b i : ℕ) (code : List FlatInstruction) → ScansNext g line t w (Byte b) i code
    code
scans_byte g line t w b i code ps left s = record { on = λ rest h. s.on rest h }

pub scans_number : (g : Basis) (line t w : ℕ) (d : Directive) (r i : ℕ) (code : List FlatInstruction)
    → ScansNext g line t w (Number d r) i code code
scans_number g line t w d r i code ps left s = record { on = λ rest h. s.on rest h }

pub scans_string : (g : Basis) (line t w : ℕ) (h : Held) (i : ℕ) (old first new : List FlatInstruction)
    → new ≡ old ++ first → IsScanRoutine g (λ v. scan v line) h (λ f. Unit {0}) (cursor_of t i) w first
    → ScansNext g line t w (String h) i old new
scans_string g line t w h i old first new e is ps left s = record {
  on = λ rest k.
      subst (ScanThese g line t w ps 0) (sym (ap (λ z. z ++ rest) e ∙ append_assoc old first rest))
      (s.on (first ++ rest) (first, rest, refl, is, k));
}

module _ (m : MapSizes) (t w : ℕ) (i : ℕ) (old new : List FlatInstruction) where
  pub puts_byte : (b : ℕ) → b < 256 → new ≡ old ++ byte_code b t w → PutsNext m t w (Byte b) i old new
  puts_byte b small e ps left s = record {
    on = λ rest k.
        subst (PutThese m t w ps 0) (sym (ap (λ z. z ++ rest) e ∙ append_assoc old (byte_code b t w) rest))
        (s.on (byte_code b t w ++ rest) (small, rest, refl, k));
  }

  pub puts_number : (d : Directive) (r : ℕ) (first : List FlatInstruction) → new ≡ old ++ first
      → IsNumberRoutine m d r t w first → PutsNext m t w (Number d r) i old new
  puts_number d r first e is ps left s = record {
    on = λ rest k.
        subst (PutThese m t w ps 0) (sym (ap (λ z. z ++ rest) e ∙ append_assoc old first rest))
        (s.on (first ++ rest) (first, rest, refl, is, k));
  }

  pub puts_string : (h : Held) (first : List FlatInstruction)
      → new ≡ old ++ (first ++ count_string h (cursor_of t i) t w) → IsPutRoutine m h.value (cursor_of t i) w first
      → PutsNext m t w (String h) i old new
  puts_string h first e is ps left s =
      let part = first ++ count_string h (cursor_of t i) t w in
      record {
        on = λ rest k.
            subst (PutThese m t w ps 0) (sym (ap (λ z. z ++ rest) e ∙ append_assoc old part rest))
            (s.on (part ++ rest) (first, rest, refl, is, k));
      }

pub joined_parts : (old slice part new : List FlatInstruction) → new ≡ old ++ slice → slice ≡ part → new ≡ old ++ part
joined_parts old slice part new e is = e ∙ ap (λ z. old ++ z) is

-- ---- none is left

past : (n : ℕ) (ps : List Printed) → length ps ≤ n → drop n ps ≡ []
past zero [] l = refl
past (suc n) [] l = refl
past zero (p ∷ ps) l = absurd (omega arith)
past (suc n) (p ∷ ps) l = past n ps (omega arith)

pub scans_done : (g : Basis) (line t w : ℕ) (ps : List Printed) (n i : ℕ) (code : List FlatInstruction) → length ps ≤ n
    → ScansSoFar g line t w ps (drop n ps) i code → ScanThese g line t w ps 0 code
scans_done g line t w ps n i code l s =
    let end : ScanThese g line t w (drop n ps) i [] =
    subst (λ z. ScanThese g line t w z i []) (sym (past n ps l)) refl in
    subst (ScanThese g line t w ps 0) (append-nil code) (s.on [] end)

pub puts_done : (m : MapSizes) (t w : ℕ) (ps : List Printed) (n i : ℕ) (code : List FlatInstruction) → length ps ≤ n
    → PutsSoFar m t w ps (drop n ps) i code → PutThese m t w ps 0 code
puts_done m t w ps n i code l s =
    let end : PutThese m t w (drop n ps) i [] = subst (λ z. PutThese m t w z i []) (sym (past n ps l)) refl in
    subst (PutThese m t w ps 0) (append-nil code) (s.on [] end)

-- ---- by pieces and holders

pub scan_pieces : (g : Basis) (line t w : ℕ) (ps : List Printed) (i : ℕ) (code : List FlatInstruction)
    → ArePrintable t ps → ScanThese g line t w ps i code → AreScans g line t w (pieces_of ps) (holders_of ps) i code
scan_pieces g line t w [] i code p h = h
scan_pieces g line t w (Byte b ∷ ps) i code p h = scan_pieces g line t w ps i code p h
scan_pieces g line t w (Number d r ∷ ps) i code p h =
    ([], code, refl, (p.0, refl), scan_pieces g line t w ps (i + 1) code p.2 h)
scan_pieces g line t w (String h ∷ ps) i code p k =
    (k.0, k.1, k.2, (refl, k.3), scan_pieces g line t w ps (i + 1) k.1 p.1 k.4)

pub put_pieces : (m : MapSizes) (t w : ℕ) (ps : List Printed) (i : ℕ) (code : List FlatInstruction)
    → PutThese m t w ps i code → ArePuts m t w (pieces_of ps) (holders_of ps) i code
put_pieces m t w [] i code h = h
put_pieces m t w (Byte b ∷ ps) i code h = (h.0, h.1, h.2, put_pieces m t w ps i h.1 h.3)
put_pieces m t w (Number d r ∷ ps) i code h = (h.0, h.1, h.2, h.3, put_pieces m t w ps (i + 1) h.1 h.4)
put_pieces m t w (String k ∷ ps) i code h =
    (h.0 ++ count_string k (cursor_of t i) t w, h.1, h.2, (h.0, refl, h.3), put_pieces m t w ps (i + 1) h.1 h.4)

pub low_holders : (t : ℕ) (ps : List Printed) → ArePrintable t ps → AreAllBelow t (holders_of ps)
low_holders t [] p = tt
low_holders t (Byte b ∷ ps) p = low_holders t ps p
low_holders t (Number d r ∷ ps) p = ((p.1, tt), low_holders t ps p.2)
low_holders t (String h ∷ ps) p = (p.0, low_holders t ps p.1)

pub as_many : (ps : List Printed) → length (pieces_of ps) ≡ length ps
as_many [] = refl
as_many (Byte b ∷ ps) = ap suc (as_many ps)
as_many (Number d r ∷ ps) = ap suc (as_many ps)
as_many (String h ∷ ps) = ap suc (as_many ps)

pub few_directives : (ps : List Printed) → directive_count (pieces_of ps) ≤ length ps
few_directives [] = omega arith
few_directives (Byte b ∷ ps) = let l = few_directives ps in omega arith
few_directives (Number d r ∷ ps) = let l = few_directives ps in omega arith
few_directives (String h ∷ ps) = let l = few_directives ps in omega arith

pub few_arguments : (ps : List Printed) → argument_count ps ≤ length ps
few_arguments [] = omega arith
few_arguments (Byte b ∷ ps) = let l = few_arguments ps in omega arith
few_arguments (Number d r ∷ ps) = let l = few_arguments ps in omega arith
few_arguments (String h ∷ ps) = let l = few_arguments ps in omega arith

-- ---- the whole list

pub prints_these : (m : MapSizes) (mapped : AreMapped m) (entry : View) (IsGood : Bytes → Type 0) (line : ℕ)
    (ps : List Printed) (into t : ℕ) → into < t → ArePrintable t ps → (scanning putting code : List FlatInstruction)
    → ScanThese (record { map = m; entry = entry; IsGood = IsGood; is_runtime = true }) line t (t + 1 + length ps) ps 0
    scanning
    → PutThese m t (t + 1 + length ps) ps 0 putting
    → code ≡ scanning ++ ((Constant t 0 ∷ []) ++ (putting ++ counted_code into t))
    → (format : List ℕ) → pieces format ≡ Some (pieces_of ps)
    → IsAction (record { map = m; entry = entry; IsGood = IsGood; is_runtime = true })
    (λ vs. print_formatted format vs line) (holders_of ps) (Word into) t (4 + 32 * length ps) 16 code
prints_these m mapped entry IsGood line ps into t gives p scanning putting code scans puts is format e =
    let few = few_directives ps in
    subst (λ n. IsAction (record { map = m; entry = entry; IsGood = IsGood; is_runtime = true })
    (λ vs. print_formatted format vs line) (holders_of ps) (Word into) t (4 + 32 * n) 16 code) (as_many ps)
    (prints m mapped entry IsGood line (pieces_of ps) (holders_of ps) into t (t + 1 + length ps) gives
    (low_holders t ps p)
    (omega arith) code
    (record {
      scanning = scanning;
      putting = putting;
      scans = scan_pieces (record { map = m; entry = entry; IsGood = IsGood; is_runtime = true }) line t
          (t + 1 + length ps) ps 0 scanning p scans;
      puts = put_pieces m t (t + 1 + length ps) ps 0 putting puts;
      code_is = is;
    })
    format e)
