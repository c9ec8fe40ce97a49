-- What the pieces of a format print, in a state in which all strings were scanned.
use Rattle.std.proofs.Common.{◌≡◌, ℕ, suc, ◌+◌, ◌<◌, ◌≤◌, List, [], ◌∷◌, ◌++◌, length, get_or}
use Rattle.std.proofs.Common.{ap, ◌∙◌, arith}
use Rattle.addr_map.specs.Places.{MapSizes}
use Rattle.obj_memory.specs.declared.value.Value.{Value}
use Rattle.c_tree.specs.declared.format.Directive.{Directive}
use Rattle.c_tree.specs.declared.format.Piece.{Piece}
use Rattle.c_tree.specs.declared.format.Piece.TheVariants as piece
use Rattle.flat_code.specs.State.{State}
use Rattle.flat_code.specs.Routines.Registers.{AreBelow}
use Rattle.flat_actions.specs.Actions.{Holder, Nowhere, Word, Pointer, registers_of}
use Rattle.flat_actions.specs.Ranges.{IsObjectRange}
use Rattle.flat_actions.proofs.Standing.{AreAllBelow}
use Rattle.lib_wrappers.specs.PrintingRoutines.Numbers.{number_bytes}
use Rattle.lib_wrappers.specs.PrintingRoutines.Formats.{cursor_of}

-- the bytes of a string stand in memory, up to the cursor
pub record IsString (map : MapSizes) (value cursor : ℕ) (v : Value) (f : State) (bytes : List ℕ) : Type 0 where
  pub word : f.values value ≡ v.word
  pub cursor_is : f.values cursor ≡ v.word + length bytes
  pub range : IsObjectRange map v.word (length bytes)
  pub there : (i : ℕ) → i < length bytes → f.memory (v.word + i) ≡ get_or bytes i 0

abbrev pub IsPrintableBy : MapSizes → Directive → Holder → Value → (cursor : ℕ) → State → List ℕ → Type 0
IsPrintableBy m d Nowhere v k f bytes = ⊥
IsPrintableBy m d (Word r) v k f bytes = (f.values r ≡ v.word) × (bytes ≡ number_bytes d v.word)
IsPrintableBy m d (Pointer h) v k f bytes = IsString m h.value k v f bytes

abbrev pub IsPrintable : MapSizes → (scratch : ℕ) → List Piece → List Holder → List Value → (i : ℕ) → State → List ℕ
    → Type 0
IsPrintable m t [] hs vs i f bytes = bytes ≡ []
IsPrintable m t (piece.Byte b ∷ ps) hs vs i f bytes =
    (rest : List ℕ) × (bytes ≡ b ∷ rest) × IsPrintable m t ps hs vs i f rest
IsPrintable m t (piece.Directive d ∷ ps) (h ∷ hs) (v ∷ vs) i f bytes =
    (first rest : List ℕ) × (bytes ≡ first ++ rest) × IsPrintableBy m d h v (cursor_of t i) f first
    × IsPrintable m t ps hs vs (i + 1) f rest
IsPrintable m t (piece.Directive d ∷ ps) _ _ i f bytes = ⊥

-- how many directives there are
abbrev pub directive_count : List Piece → ℕ
directive_count [] = 0
directive_count (piece.Byte b ∷ ps) = directive_count ps
directive_count (piece.Directive d ∷ ps) = suc (directive_count ps)

-- ---- in another state

module _ (m : MapSizes) (t : ℕ) (f f' : State) (memory : f'.memory ≡ f.memory) where
  pub by_kept : (d : Directive) (h : Holder) (v : Value) (k : ℕ) (bytes : List ℕ)
      → ((r : ℕ) → r < t → f'.values r ≡ f.values r) → f'.values k ≡ f.values k → AreBelow t (registers_of h)
      → IsPrintableBy m d h v k f bytes → IsPrintableBy m d h v k f' bytes
  by_kept d Nowhere v k bytes same cursor low p = absurd p
  by_kept d (Word r) v k bytes same cursor low p = (same r low.0 ∙ p.0, p.1)
  by_kept d (Pointer h) v k bytes same cursor low p = record {
    word = same h.value low.0 ∙ p.word;
    cursor_is = cursor ∙ p.cursor_is;
    range = p.range;
    there = λ i l. ap (λ b. b (v.word + i)) memory ∙ p.there i l;
  }

  -- arguments and the cursors up to some register are as before
  pub printable_kept : (ps : List Piece) (hs : List Holder) (vs : List Value) (i top : ℕ) (bytes : List ℕ)
      → ((r : ℕ) → r < t → f'.values r ≡ f.values r)
      → ((r : ℕ) → cursor_of t i ≤ r → r < top → f'.values r ≡ f.values r)
      → cursor_of t i + directive_count ps ≤ top → AreAllBelow t hs
      → IsPrintable m t ps hs vs i f bytes → IsPrintable m t ps hs vs i f' bytes
  printable_kept [] hs vs i top bytes same cursors room low p = p
  printable_kept (piece.Byte b ∷ ps) hs vs i top bytes same cursors room low p =
      (p.0, p.1, printable_kept ps hs vs i top p.0 same cursors room low p.2)
  printable_kept (piece.Directive d ∷ ps) (h ∷ hs) (v ∷ vs) i top bytes same cursors room low p = (
    p.0,
    p.1,
    p.2,
    by_kept d h v (cursor_of t i) p.0 same (cursors (cursor_of t i) (omega arith) (omega arith)) low.0 p.3,
    printable_kept ps hs vs (i + 1) top p.1 same (λ r l k. cursors r (omega arith) k) (omega arith) low.1 p.4,
  )
  printable_kept (piece.Directive d ∷ ps) [] vs i top bytes same cursors room low p = absurd p
  printable_kept (piece.Directive d ∷ ps) (h ∷ hs) [] i top bytes same cursors room low p = absurd p
