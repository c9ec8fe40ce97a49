-- The pieces of a format are put out, once all strings were scanned.
use Rattle.std.proofs.Common.{◌≡◌, ◌≢◌, ℕ, suc, ◌+◌, ◌-◌, ◌*◌, ◌%◌, ◌^◌, ◌<◌, ◌≤◌, List, [], ◌∷◌, ◌++◌, length}
use Rattle.std.proofs.Common.{true, length-append, refl, sym, ap, ◌∙◌, subst, arith}
use Rattle.addr_map.specs.Places.{MapSizes, AreMapped}
use Rattle.obj_memory.specs.declared.value.Value.{Value}
use Rattle.c_tree.specs.declared.format.Directive.{Directive}
use Rattle.c_tree.specs.declared.format.Piece.{Piece}
use Rattle.c_tree.specs.declared.format.Piece.TheVariants as piece
use Rattle.rv_isa.specs.Results.{reg_result}
use Rattle.flat_code.specs.declared.instruction.FlatInstruction.{FlatInstruction}
use Rattle.flat_code.specs.Memory.{put}
use Rattle.flat_code.specs.State.{State}
use Rattle.flat_code.specs.Words.{IsOfWords}
use Rattle.flat_code.specs.Meaning.{Context, Goes}
use Rattle.flat_code.proofs.Stored.{put_same, put_other}
use Rattle.flat_code.specs.declared.registers.Held.{Held}
use Rattle.flat_code.specs.Routines.Registers.{AreBelow}
use Rattle.flat_code.specs.Routines.Routine.{HasAt, Outcome, Continues, Halts, Reaches, Either, Never}
use Rattle.flat_code.specs.Routines.Effects.{effects}
use Rattle.flat_code.proofs.Routines.Steps.{has_front, has_back}
use Rattle.flat_code.proofs.Routines.Rules.{weaken, next, line, arrived}
use Rattle.flat_code.proofs.Routines.Regions.{object_allowed}
use Rattle.shadow_space.proofs.Entries.{context_of}
use Rattle.flat_actions.specs.Actions.{Holder, Nowhere, Word, Pointer, registers_of}
use Rattle.flat_actions.proofs.Standing.{AreAllBelow}
use Rattle.lib_wrappers.specs.StringRoutines.Putting.{bytes_from, HasPut, IsPutRoutine}
use Rattle.lib_wrappers.proofs.StringRoutines.PutLoop.{same_bytes}
use Rattle.lib_wrappers.specs.PrintingRoutines.Digits.{HasPrinted}
use Rattle.lib_wrappers.specs.PrintingRoutines.Numbers.{number_bytes}
use Rattle.lib_wrappers.specs.PrintingRoutines.Formats.{cursor_of, byte_code, count_string, IsPutPart, ArePuts}
use Rattle.lib_wrappers.proofs.PrintingRoutines.NumberBytes.{printed_both, printed_as, printed_none}
use Rattle.lib_wrappers.proofs.PrintingRoutines.Printable.{IsString, IsPrintableBy, IsPrintable, directive_count}
use Rattle.lib_wrappers.proofs.PrintingRoutines.Printable.{printable_kept}

module _ (map : MapSizes) (mapped : AreMapped map) (charge weight : ℕ) (t w : ℕ) (apart : t < w) where
  abbrev c : Context
  c = context_of map true charge weight

  -- ---- a byte

  byte_put : (b : ℕ) (f : State) → b < 256 → HasPrinted (b ∷ []) t w f (effects c (byte_code b t w) f)
  unfolding reg_result
  byte_put b f small =
      let v1 = put f.values w (b % 2 ^ 64) in
      let byte : v1 w % 256 ≡ b = ap (λ z. z % 256) (put_same f.values w (b % 2 ^ 64)) ∙ omega arith in
      record {
        output = ap (λ z. f.output ++ z ∷ []) byte;
        counted = put_same v1 t _ ∙ ap (λ z. (z + 1) % 2 ^ 64) (put_other f.values w _ t (λ e. omega (arith, e)));
        memory = refl;
        input = refl;
        taken = refl;
        accesses = refl;
        turns = refl;
        others = λ r l none. put_other v1 t _ r none.0 ∙ put_other f.values w _ r (λ e. omega (arith, e));
      }

  -- ---- a string

  record IsCounted (n : ℕ) (f f' : State) : Type 0 where
    counted : f'.values t ≡ (f.values t + n) % 2 ^ 64
    others : (r : ℕ) → r < w → r ≢ t → f'.values r ≡ f.values r

  string_counted : (h : Held) (k n : ℕ) (f : State) → IsOfWords f → f.values k ≡ f.values h.value + n
      → IsCounted n f (effects c (count_string h k t w) f)
  unfolding reg_result
  string_counted h k n f words e =
      let v1 = put f.values w ((f.values k + (2 ^ 64 - f.values h.value)) % 2 ^ 64) in
      let small = words.values k in
      let length_is : v1 w ≡ n = put_same f.values w _ ∙ omega arith in
      let same : v1 t ≡ f.values t = put_other f.values w _ t (λ e. omega (arith, e)) in
      record {
        counted = put_same v1 t _ ∙ ap (λ z. (v1 t + z) % 2 ^ 64) length_is ∙ ap (λ z. (z + n) % 2 ^ 64) same;
        others = λ r l ne. put_other v1 t _ r ne ∙ put_other f.values w _ r (λ e. omega (arith, e));
      }

  string_runs : (h : Held) (v : Value) (k : ℕ) (bytes : List ℕ) (putting : List FlatInstruction)
      → h.value < w → k < w → IsPutRoutine map h.value k w putting
      → (code : List FlatInstruction) (pc : ℕ) (f : State) → HasAt code pc (putting ++ count_string h k t w) →
      IsOfWords f → IsString map h.value k v f bytes
      → Reaches c code (4 + 5 * length bytes) (Goes pc f) (pc + length (putting ++ count_string h k t w))
      (Either (HasPrinted bytes t w f) Never)
  string_runs h v k bytes putting low below puts code pc f has words s =
      let n = length bytes in
      let word = s.word in let cursor = s.cursor_is in let first = s.range.first in let last = s.range.last in
      let ends : f.values k ≡ f.values h.value + n = omega arith in
      let len : pc + length putting + 2 ≡ pc + length (putting ++ count_string h k t w) =
      omega (arith, length-append putting (count_string h k t w)) in
      subst (λ p. Reaches c code (4 + 5 * n) (Goes pc f) p (Either (HasPrinted bytes t w f) Never)) len
      (weaken c code ((2 + 5 * n) + 2) (4 + 5 * n) (Goes pc f) (pc + length putting + 2) _ _ (omega arith) (λ o h. h)
      (next c code (2 + 5 * n) 2 (Goes pc f) (pc + length putting) (pc + length putting + 2) (HasPut h.value n w f)
      Never
      (Either (HasPrinted bytes t w f) Never) words
      ((puts n charge weight).from code pc f (has_front code pc putting (count_string h k t w) has) words (record {
        end_is = ends;
        allowed = λ i l. object_allowed map (f.values h.value + i) (f.values h.value + i) 1 refl (omega arith)
            (omega arith);
      }))
      (λ z wz put.
      line c code (count_string h k t w) (pc + length putting) z (HasPrinted bytes t w f) Never (tt, (tt, tt))
      (has_back code pc putting (count_string h k t w) has) (by z wz put))
      (λ status report z never. absurd never)))
    where
      by : (z : State) → IsOfWords z → HasPut h.value (length bytes) w f z
          → HasPrinted bytes t w f (effects c (count_string h k t w) z)
      by z wz put =
          let n = length bytes in
          let kept : (r : ℕ) → r < w → z.values r ≡ f.values r = λ r l. put.others r l tt in
          let word = s.word in let cursor = s.cursor_is in
          let a = kept k below in let b = kept h.value low in
          let i = string_counted h k n z wz (omega arith) in
          let shown : bytes_from n f.memory (f.values h.value) ≡ bytes =
          ap (bytes_from n f.memory) word ∙ same_bytes f.memory v.word bytes s.there in
          record {
            output = put.output ∙ ap (λ bs. f.output ++ bs) shown;
            counted = i.counted ∙ ap (λ y. (y + n) % 2 ^ 64) (kept t apart);
            memory = put.memory;
            input = put.input;
            taken = put.taken;
            accesses = put.accesses;
            turns = put.turns;
            others = λ r l none. i.others r l none.0 ∙ kept r l;
          }

  -- ---- an argument

  part_runs : (d : Directive) (h : Holder) (v : Value) (k : ℕ) (bytes : List ℕ) (part : List FlatInstruction) → k < w
      → AreBelow t (registers_of h) → IsPutPart map d h k t w part → (code : List FlatInstruction) (pc : ℕ) (f : State)
      → HasAt code pc part → IsOfWords f → IsPrintableBy map d h v k f bytes
      → Reaches c code (16 + 15 * length bytes) (Goes pc f) (pc + length part) (Either (HasPrinted bytes t w f) Never)
  part_runs d Nowhere v k bytes part below low is code pc f has words p = absurd is
  part_runs d (Word r) v k bytes part below low is code pc f has words p =
      let l = ap length p.1 in
      weaken c code (12 + 15 * length (number_bytes d v.word)) (16 + 15 * length bytes) (Goes pc f) (pc + length part)
      _ _
      (omega arith) by ((is v.word charge weight).from code pc f has words p.0)
    where
      by : (o : Outcome) → Either (HasPrinted (number_bytes d v.word) t w f) Never o
          → Either (HasPrinted bytes t w f) Never o
      by (Continues f') h = printed_as (number_bytes d v.word) bytes t w f f' (sym p.1) h
      by (Halts status report f') h = h
  part_runs d (Pointer h) v k bytes part below low is code pc f has words p =
      subst (λ z. Reaches c code (16 + 15 * length bytes) (Goes pc f) (pc + length z)
      (Either (HasPrinted bytes t w f) Never))
      (sym is.1)
      (weaken c code (4 + 5 * length bytes) (16 + 15 * length bytes) (Goes pc f) _ _ _ (omega arith) (λ o q. q)
      (string_runs h v k bytes is.0 (omega (arith, low.0)) below is.2 code pc f (subst (HasAt code pc) is.1 has) words
      p))

  -- ---- all pieces

  abbrev Puts : List Piece → List Holder → List Value → (i : ℕ) → List FlatInstruction → Type 0
  Puts ps hs vs i seg =
      (bytes : List ℕ) (code : List FlatInstruction) (pc : ℕ) (f : State) → HasAt code pc seg → IsOfWords f
      → IsPrintable map t ps hs vs i f bytes
      → Reaches c code (16 * length ps + 15 * length bytes) (Goes pc f) (pc + length seg)
      (Either (HasPrinted bytes t w f) Never)

  -- one piece, and the rest
  one_more : (ps : List Piece) (hs : List Holder) (vs : List Value) (i : ℕ) (first rest : List FlatInstruction)
      (bytes others : List ℕ) → cursor_of t i + directive_count ps ≤ w → AreAllBelow t hs → Puts ps hs vs i rest
      → (code : List FlatInstruction) (pc : ℕ) (f : State) → HasAt code pc (first ++ rest) → IsOfWords f
      → Reaches c code (16 + 15 * length bytes) (Goes pc f) (pc + length first) (Either (HasPrinted bytes t w f) Never)
      → IsPrintable map t ps hs vs i f others
      → Reaches c code (16 * suc (length ps) + 15 * length (bytes ++ others)) (Goes pc f) (pc + length (first ++ rest))
      (Either (HasPrinted (bytes ++ others) t w f) Never)
  one_more ps hs vs i first rest bytes others room low puts code pc f has words run p =
      let len : pc + length first + length rest ≡ pc + length (first ++ rest) = omega (arith, length-append first rest)
      in
      let l = length-append bytes others in
      subst (λ e. Reaches c code (16 * suc (length ps) + 15 * length (bytes ++ others)) (Goes pc f) e
      (Either (HasPrinted (bytes ++ others) t w f) Never)) len
      (weaken c code ((16 + 15 * length bytes) + (16 * length ps + 15 * length others))
      (16 * suc (length ps) + 15 * length (bytes ++ others)) (Goes pc f) (pc + length first + length rest) _ _
      (omega arith)
      (λ o h. h)
      (next c code (16 + 15 * length bytes) (16 * length ps + 15 * length others) (Goes pc f) (pc + length first)
      (pc + length first + length rest) (HasPrinted bytes t w f) Never
      (Either (HasPrinted (bytes ++ others) t w f) Never)
      words run
      (λ z wz h.
      weaken c code (16 * length ps + 15 * length others) (16 * length ps + 15 * length others)
      (Goes (pc + length first) z)
      (pc + length first + length rest) _ _ (omega arith) (by z h)
      (puts others code (pc + length first) z (has_back code pc first rest has) wz
      (printable_kept map t f z h.memory ps hs vs i w others
      (λ r k. h.others r (omega arith) ((λ e. omega (arith, e)), tt))
      (λ r k k'. h.others r k' ((λ e. omega (arith, e)), tt)) room low p)))
      (λ status report z never. absurd never)))
    where
      by : (z : State) → HasPrinted bytes t w f z → (o : Outcome) → Either (HasPrinted others t w z) Never o
          → Either (HasPrinted (bytes ++ others) t w f) Never o
      by z h (Continues f') q = printed_both t w f z f' bytes others w (omega arith) h q
      by z h (Halts status report f') q = q

  pub runs_puts : (ps : List Piece) (hs : List Holder) (vs : List Value) (i : ℕ) (seg : List FlatInstruction)
      → ArePuts map t w ps hs i seg → cursor_of t i + directive_count ps ≤ w → AreAllBelow t hs → Puts ps hs vs i seg
  runs_puts [] hs vs i seg puts room low bytes code pc f has words p =
      subst (λ z. Reaches c code (0 + 15 * length bytes) (Goes pc f) (pc + length z)
      (Either (HasPrinted bytes t w f) Never))
      (sym puts)
      (arrived c code (0 + 15 * length bytes) f pc (pc + 0) (Either (HasPrinted bytes t w f) Never) (omega arith)
      (printed_as [] bytes t w f f (sym p)
      (printed_none t w f f words refl refl refl refl refl refl (λ r l. refl) apart)))
  runs_puts (piece.Byte b ∷ ps) hs vs i seg puts room low bytes code pc f has words p =
      let rest = runs_puts ps hs vs i puts.1 puts.3 room low in
      let has' = subst (HasAt code pc) puts.2 has in
      subst (λ z. Reaches c code (16 * suc (length ps) + 15 * length bytes) (Goes pc f) (pc + length z)
      (Either (HasPrinted bytes t w f) Never)) (sym puts.2)
      (subst (λ bs. Reaches c code (16 * suc (length ps) + 15 * length bs) (Goes pc f)
      (pc + length (byte_code b t w ++ puts.1)) (Either (HasPrinted bs t w f) Never)) (sym p.1)
      (one_more ps hs vs i (byte_code b t w) puts.1 (b ∷ []) p.0 room low rest code pc f has' words
      (weaken c code 3 (16 + 15 * 1) (Goes pc f) (pc + 3) _ _ (omega arith) (λ o h. h)
      (line c code (byte_code b t w) pc f (HasPrinted (b ∷ []) t w f) Never (tt, (tt, (tt, tt)))
      (has_front code pc (byte_code b t w) puts.1 has') (byte_put b f puts.0)))
      p.2))
  runs_puts (piece.Directive d ∷ ps) [] vs i seg puts room low bytes code pc f has words p = absurd puts
  runs_puts (piece.Directive d ∷ ps) (h ∷ hs) [] i seg puts room low bytes code pc f has words p = absurd p
  runs_puts (piece.Directive d ∷ ps) (h ∷ hs) (v ∷ vs) i seg puts room low bytes code pc f has words p =
      let rest = runs_puts ps hs vs (i + 1) puts.1 puts.4 (omega arith) low.1 in
      let has' = subst (HasAt code pc) puts.2 has in
      subst (λ z. Reaches c code (16 * suc (length ps) + 15 * length bytes) (Goes pc f) (pc + length z)
      (Either (HasPrinted bytes t w f) Never)) (sym puts.2)
      (subst (λ bs. Reaches c code (16 * suc (length ps) + 15 * length bs) (Goes pc f)
      (pc + length (puts.0 ++ puts.1)) (Either (HasPrinted bs t w f) Never)) (sym p.2)
      (one_more ps hs vs (i + 1) puts.0 puts.1 p.0 p.1 (omega arith) low.1 rest code pc f has' words
      (part_runs d h v (cursor_of t i) p.0 puts.0 (omega arith) low.0 puts.3 code pc f
      (has_front code pc puts.0 puts.1 has') words p.3)
      p.4))
