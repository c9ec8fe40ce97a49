-- Values updated: of plain variables, and through pointers.
use Rattle.std.proofs.Common.{◌≡◌, ◌⊎◌, inl, inr, ℕ, ◌+◌, ◌<◌, refl, arith}
use Rattle.std.proofs.Common.{Bool, true, List, [], ◌∷◌, ◌++◌, length}
use Rattle.std.proofs.lemmas.Bool.{false≢true}
use Rattle.addr_map.specs.Places.{MapSizes}
use Rattle.rv_isa.specs.declared.instruction.RegOp.{RegOp}
use Rattle.rv_isa.specs.declared.instruction.RegOp.TheVariants.{Add, Sub}
use Rattle.obj_memory.specs.declared.int_type.IntType.{IntType}
use Rattle.obj_memory.specs.declared.operator.BinaryOperator.{BinaryOperator}
use Rattle.obj_memory.specs.declared.value.Scalar.TheVariants.{Integer, Pointer}
use Rattle.c_tree.specs.declared.expression.Update.{Update}
use Rattle.c_tree.specs.declared.expression.Update.TheVariants.{Arithmetic, Forward, Back}
use Rattle.c_tree.specs.declared.expression.Fixity.{Fixity}
use Rattle.c_tree.specs.declared.expression.Fixity.TheVariants.{Prefix, Postfix}
use Rattle.tac_ir.specs.declared.instruction.RightOperand.{RightOperand}
use Rattle.tac_ir.specs.declared.instruction.RightOperand.TheVariants.{Temporary, One}
use Rattle.tac_ir.specs.declared.function.CodeFunction.{CodeFunction}
use Rattle.tac_ir.specs.Fitting.{is_update_of}
use Rattle.flat_code.specs.declared.instruction.FlatInstruction.{FlatInstruction}
use Rattle.flat_code.specs.declared.instruction.FlatInstruction.TheVariants.{Constant, Move}
use Rattle.flat_code.specs.declared.function.FlatProgram.{FlatProgram}
use Rattle.flat_code.specs.declared.registers.Held.{Held}
use Rattle.flat_operators.specs.Operators.{conversion_code, binary_code}
use Rattle.flat_operators.specs.Pointers.{offset_code}
use Rattle.shadow_space.specs.Form.{EntryCode}
use Rattle.lib_wrappers.specs.declared.accesses.held.HeldScalar.TheVariants.{Integer as HeldInteger}
use Rattle.lib_wrappers.specs.declared.accesses.held.HeldScalar.TheVariants.{Pointer as HeldPointer}
use Rattle.lib_wrappers.specs.AccessRoutines.Accessing.{load_code, store_code}
use Rattle.runtime_functions.specs.Library.{held_from}
use Rattle.metadata_plan.specs.OperatorLists.Operators.{operators}
use Rattle.metadata_relation.specs.Registers.{temporary_register}
use Rattle.metadata_relation.specs.InlineCode.{InlineCode}
use Rattle.metadata_relation.specs.InlineLists.{inline_lists}
use Rattle.metadata_relation.specs.Blocks.{untagged, move_entry_if, right_code, right_register, new_integer}
use Rattle.metadata_relation.specs.Blocks.{new_address}
use Rattle.metadata_relation.specs.Blocks.{given_register, update_plain_code, update_code}
use Rattle.image_laws.specs.Plans.Assignment.{Registers, IsOneOf}
use Rattle.image_laws.specs.Plans.EntryLists.{AssignEntries}
use Rattle.image_laws.specs.Plans.Instructions.{entry_of, value_of}
use Rattle.image_laws.proofs.Assignment.Flows.{Flows, LastIn, followed, and_then, last_append}
use Rattle.image_laws.proofs.Assignment.Straight.{AreIn, are_in_more, straight, nothing}
use Rattle.image_laws.proofs.Assignment.Operators.{conversion_gives, binary_gives, gives_flows}
use Rattle.image_laws.proofs.Assignment.Pointers.{offset_value}
use Rattle.image_laws.proofs.Assignment.Values.{Block, untagged_flows, move_entry_flows, last_untagged, last_moved}
use Rattle.image_laws.proofs.Assignment.Temporaries.{all_one_of}
use Rattle.image_laws.proofs.Assignment.Pieces.{less_value, some_behind}
use Rattle.image_laws.proofs.Assignment.Accesses.{AreOwn, fewer_own, load_flows, store_flows}

-- the register of a right operand where it is no temporary
abbrev pub right_made : RightOperand → (register : ℕ) → List ℕ
right_made (Temporary b) r = []
right_made One r = r ∷ []

-- that of a temporary is among some
abbrev pub IsRight : Registers → CodeFunction → RightOperand → Type 0
IsRight R c (Temporary b) = R (temporary_register c b)
IsRight R c One = Unit {0}

module _ (p : FlatProgram) (u : ℕ) (P : Registers) (c : CodeFunction) where
  right_flows : (G : Registers) → ((y : ℕ) → G y → P y) → (right : RightOperand) (r : ℕ) → P r
      → Flows p u P G (right_code right r) 0 (right_made right r)
  right_flows G low (Temporary b) r named = nothing p u P G low
  right_flows G low One r named =
      straight p u P 0 G (Constant r 1 ∷ []) (tt, named, tt, tt) low (r ∷ []) (inr refl, tt)

  right_in : (R S : Registers) (right : RightOperand) (r : ℕ) → IsRight R c right → ((y : ℕ) → R y → S y)
      → ((y : ℕ) → IsOneOf (right_made right r) y → S y) → S (right_register c right r)
  right_in R S (Temporary b) r g keeps made = keeps (temporary_register c b) g
  right_in R S One r g keeps made = made r (inl refl)

  right_more : (R S : Registers) (right : RightOperand) → ((y : ℕ) → R y → S y) → IsRight R c right → IsRight S c right
  right_more R S (Temporary b) keeps g = keeps (temporary_register c b) g
  right_more R S One keeps g = tt

  -- ---- new values

  integer_flows : (G : Registers) → ((y : ℕ) → G y → P y) → (op : BinaryOperator) (t k : IntType)
      (line new old : ℕ) (right : RightOperand) (s : ℕ) → G old → P new → IsRight G c right → AreOwn P s 2
      → Flows p u P G (new_integer operators c (Arithmetic op t) k line new old right s) 0 (new ∷ [])
  integer_flows G low op t k line new old right s go pn gr own =
      let r = right_register c right s in
      let first = conversion_code t new old in
      let third = binary_code op t line new new r (s + 1) in
      let last = conversion_code k new new in
      let pf = own (s + 1) (omega arith) (omega arith) in
      followed p u P G first (right_code right s ++ (third ++ last)) 0 (new ∷ []) (new ∷ [])
      (gives_flows p u P G first new low (conversion_gives p u P G t new old go pn))
      (λ S keeps made low'.
      followed p u P S (right_code right s) (third ++ last) 0 (right_made right s) (new ∷ [])
      (right_flows S low' right s (own s (omega arith) (omega arith)))
      (λ T keeps' made' low''.
      let tn = keeps' new (made new (inl refl)) in
      let tr = right_in S T right s (right_more G S right keeps gr) keeps' made' in
      followed p u P T third last 0 (new ∷ []) (new ∷ [])
      (gives_flows p u P T third new low'' (binary_gives p u P T op t line new new r (s + 1) tn tr pn pf))
      (λ U keeps'' made'' low'''.
      gives_flows p u P U last new low''' (conversion_gives p u P U k new new (made'' new (inl refl)) pn))))

  moved_flows : (G : Registers) → ((y : ℕ) → G y → P y) → (o : RegOp) (size new old : ℕ) (right : RightOperand) (s : ℕ)
      → G old → P new → IsRight G c right → AreOwn P s 2
      → Flows p u P G (right_code right s ++ offset_code o size new old (right_register c right s) (s + 1)) 0 (new ∷ [])
  moved_flows G low o size new old right s go pn gr own =
      followed p u P G (right_code right s) (offset_code o size new old (right_register c right s) (s + 1)) 0
      (right_made right s) (new ∷ []) (right_flows G low right s (own s (omega arith) (omega arith)))
      (λ S keeps made low'.
      (offset_value p u P S o size new old (right_register c right s) (s + 1) low' (keeps old go)
      (right_in G S right s gr keeps made) pn (own (s + 1) (omega arith) (omega arith))).flows)

  given_in : (R : Registers) (f : Fixity) (old new : ℕ) → R old → R new → R (given_register f old new)
  given_in R Prefix old new ro rn = rn
  given_in R Postfix old new ro rn = ro

  -- ---- plain variables

  module _ (read write : EntryCode) (map : MapSizes) where
    abbrev lists : InlineCode
    lists = inline_lists read write map

    module _ (G : Registers) (low : (y : ℕ) → G y → P y) (f : Fixity) (line : ℕ) (b : Bool) (d x : ℕ)
        (right : RightOperand) (s : ℕ) (named : AreIn (value_of b d) P) (gr : IsRight G c right) (own : AreOwn P s 16) where
      abbrev E : Registers
      E y = G y ⊎ IsOneOf (value_of b d) y

      -- the result is given and the variable set
      settled : (S : Registers) → ((y : ℕ) → S y → P y) → P x → S x → S s
          → Flows p u P S (Move d (given_register f x s) ∷ Move x s ∷ []) 0 (d ∷ [])
      settled S low' px gx gs =
          straight p u P 0 S (Move d (given_register f x s) ∷ Move x s ∷ [])
          (given_in S f x s gx gs, named.0, tt, (inl gs, px, tt, tt)) low' (d ∷ []) (inl (inr refl), tt)

      given_integer : (new : List FlatInstruction) → G x → Flows p u P G new 0 (s ∷ [])
          → Block p u P G (new ++ (Move d (given_register f x s) ∷ Move x s ∷ untagged b d)) 0 (value_of b d)
      given_integer new gx fl =
          let set = Move d (given_register f x s) ∷ Move x s ∷ [] in
          record {
            flows = followed p u P G new (set ++ untagged b d) 0 (s ∷ []) (value_of b d) fl
                (λ S keeps made low'.
                and_then p u P S set (untagged b d) 0 (d ∷ []) (entry_of b d)
                (settled S low' (low x gx) (keeps x gx) (made s (inl refl)))
                (λ T keeps' made' low''. untagged_flows p u P T low'' b d named.1));
            last = last_append p E new (set ++ untagged b d) (omega arith) (last_untagged p u P E set b d (inl refl));
          }

      given_pointer : (new : List FlatInstruction) → AreIn (value_of true x) G → Flows p u P G new 0 (s ∷ [])
          → Block p u P G
          (new ++ (Move d (given_register f x s) ∷ Move x s ∷ move_entry_if b (held_from d).tag (held_from x).tag)) 0
          (value_of b d)
      given_pointer new gx fl =
          let set = Move d (given_register f x s) ∷ Move x s ∷ [] in
          let entry = move_entry_if b (held_from d).tag (held_from x).tag in
          record {
            flows = followed p u P G new (set ++ entry) 0 (s ∷ []) (value_of b d) fl
                (λ S keeps made low'.
                and_then p u P S set entry 0 (d ∷ []) (entry_of b d)
                (settled S low' (low x gx.0) (keeps x gx.0) (made s (inl refl)))
                (λ T keeps' made' low''.
                move_entry_flows p u P T low'' b d x
                (are_in_more (entry_of b x) G T (λ y g. keeps' y (keeps y g)) (less_value G b x gx).1) named.1));
            last = last_append p E new (set ++ entry) (omega arith) (last_moved p u P E set b d x (inl refl));
          }

      pub updated_integer : (w : Update) (k : IntType) → is_update_of w (Integer k) ≡ true → G x
          → Block p u P G (update_plain_code lists c w (Integer k) f line b d x right s) 0 (value_of b d)
      updated_integer (Arithmetic op t) k ok gx =
          given_integer (new_integer operators c (Arithmetic op t) k line s x right (s + 1)) gx
          (integer_flows G low op t k line s x right (s + 1) gx (own s (omega arith) (omega arith)) gr
          (fewer_own P s 16 (s + 1) 2 (omega arith) (omega arith) own))
      updated_integer (Forward size) k ok gx = absurd (false≢true ok)
      updated_integer (Back size) k ok gx = absurd (false≢true ok)

      moved_variable : (o : RegOp) (size : ℕ) → AreIn (value_of true x) G
          → Flows p u P G (right_code right (s + 1) ++ offset_code o size s x (right_register c right (s + 1)) (s + 1 + 1)) 0
          (s ∷ [])
      moved_variable o size gx =
          moved_flows G low o size s x right (s + 1) gx.0 (own s (omega arith) (omega arith)) gr
          (fewer_own P s 16 (s + 1) 2 (omega arith) (omega arith) own)

      pub updated_pointer : (w : Update) → is_update_of w Pointer ≡ true → AreIn (value_of true x) G
          → Block p u P G (update_plain_code lists c w Pointer f line b d x right s) 0 (value_of b d)
      updated_pointer (Arithmetic op t) ok gx = absurd (false≢true ok)
      updated_pointer (Forward size) ok gx =
          given_pointer (new_address lists c (Forward size) s x right (s + 1)) gx (moved_variable Add size gx)
      updated_pointer (Back size) ok gx =
          given_pointer (new_address lists c (Back size) s x right (s + 1)) gx (moved_variable Sub size gx)

    -- ---- through pointers

    module _ (entries : AssignEntries read write) (G : Registers) (low : (y : ℕ) → G y → P y) (f : Fixity) (line : ℕ)
        (b : Bool) (d a : ℕ) (right : RightOperand) (s : ℕ) (ga : G a) (named : AreIn (value_of b d) P)
        (gr : IsRight G c right) (own : AreOwn P s 16) where
      abbrev Kept : Registers
      Kept y = G y ⊎ IsOneOf (value_of b d) y

      last_behind : (first new st rest : List FlatInstruction) → 0 < length rest → LastIn p Kept rest
          → LastIn p Kept (first ++ (new ++ (st ++ rest)))
      last_behind first new st rest some last =
          last_append p Kept first (new ++ (st ++ rest)) (some_behind new (st ++ rest) (some_behind st rest some))
          (last_append p Kept new (st ++ rest) (some_behind st rest some) (last_append p Kept st rest some last))

      pub changed_integer : (w : Update) (k : IntType) → is_update_of w (Integer k) ≡ true
          → Block p u P G (update_code lists c w (Integer k) f line b d a right s) 0 (value_of b d)
      changed_integer (Forward size) k ok = absurd (false≢true ok)
      changed_integer (Back size) k ok = absurd (false≢true ok)
      changed_integer (Arithmetic op t) k ok =
          let first = load_code read map a (HeldInteger k s) (s + 1) in
          let new = new_integer operators c (Arithmetic op t) k line (s + 1) s right (s + 2) in
          let st = store_code write map a (HeldInteger k (s + 1)) (s + 2) in
          let move = Move d (given_register f s (s + 1)) ∷ [] in
          let rest = move ++ untagged b d in
          record {
            flows = followed p u P G first (new ++ (st ++ rest)) 0 (s ∷ []) (value_of b d)
                (load_flows p u P read write entries map G low a (HeldInteger k s) (s + 1) ga
                (own s (omega arith) (omega arith), tt) (fewer_own P s 16 (s + 1) 5 (omega arith) (omega arith) own))
                (λ S keeps made low'.
                followed p u P S new (st ++ rest) 0 ((s + 1) ∷ []) (value_of b d)
                (integer_flows S low' op t k line (s + 1) s right (s + 2) (made s (inl refl))
                (own (s + 1) (omega arith) (omega arith)) (right_more G S right keeps gr)
                (fewer_own P s 16 (s + 2) 2 (omega arith) (omega arith) own))
                (λ T keeps' made' low''.
                followed p u P T st rest 0 [] (value_of b d)
                (store_flows p u P read write entries map T low'' a (HeldInteger k (s + 1)) (s + 2)
                (keeps' a (keeps a ga)) (made' (s + 1) (inl refl), tt)
                (fewer_own P s 16 (s + 2) 5 (omega arith) (omega arith) own))
                (λ U keeps'' made'' low'''.
                and_then p u P U move (untagged b d) 0 (d ∷ []) (entry_of b d)
                (straight p u P 0 U move (
                  given_in U f s (s + 1) (keeps'' s (keeps' s (made s (inl refl)))) (keeps'' (s + 1) (made' (s + 1) (inl refl))),
                  named.0,
                  tt,
                  tt,
                ) low''' (d ∷ []) (inr refl, tt))
                (λ V k''' m''' low4. untagged_flows p u P V low4 b d named.1))));
            last = last_behind first new st rest (omega arith) (last_untagged p u P Kept move b d (inl refl));
          }

      changed_pointer_by : (o : RegOp) (size : ℕ) →
          let new = right_code right (s + 6) ++ offset_code o size (s + 5) s (right_register c right (s + 6)) (s + 6 + 1) in
          let h : Held = record { value = s + 5; tag = (held_from s).tag } in
          Block p u P G
          (load_code read map a (HeldPointer (held_from s)) (s + 5)
          ++ (new ++ (store_code write map a (HeldPointer h) (s + 6)
          ++ (Move d (given_register f s (s + 5)) ∷ move_entry_if b (held_from d).tag (held_from s).tag)))) 0 (value_of b d)
      changed_pointer_by o size =
          let new = right_code right (s + 6) ++ offset_code o size (s + 5) s (right_register c right (s + 6)) (s + 6 + 1) in
          let first = load_code read map a (HeldPointer (held_from s)) (s + 5) in
          let h : Held = record { value = s + 5; tag = (held_from s).tag } in
          let st = store_code write map a (HeldPointer h) (s + 6) in
          let move = Move d (given_register f s (s + 5)) ∷ [] in
          let entry = move_entry_if b (held_from d).tag (held_from s).tag in
          let rest = move ++ entry in
          let own_at = λ (j : ℕ) (lt : j < 16). own (s + j) (omega arith) (omega (arith, lt)) in
          record {
            flows = followed p u P G first (new ++ (st ++ rest)) 0 (value_of true s) (value_of b d)
                (load_flows p u P read write entries map G low a (HeldPointer (held_from s)) (s + 5) ga (
                  own s (omega arith) (omega arith),
                  (
                    own_at 1 (omega arith),
                    (
                      own_at 2 (omega arith),
                      (own_at 3 (omega arith), (own_at 4 (omega arith), tt)),
                    ),
                  ),
                )
                (fewer_own P s 16 (s + 5) 5 (omega arith) (omega arith) own))
                (λ S keeps made low'.
                let old = all_one_of (value_of true s) S made in
                followed p u P S new (st ++ rest) 0 ((s + 5) ∷ []) (value_of b d)
                (moved_flows S low' o size (s + 5) s right (s + 6) old.0 (own_at 5 (omega arith))
                (right_more G S right keeps gr) (fewer_own P s 16 (s + 6) 2 (omega arith) (omega arith) own))
                (λ T keeps' made' low''.
                let new_in = made' (s + 5) (inl refl) in
                followed p u P T st rest 0 [] (value_of b d)
                (store_flows p u P read write entries map T low'' a (HeldPointer h) (s + 6) (keeps' a (keeps a ga))
                (new_in, are_in_more (entry_of true s) S T keeps' old.1)
                (fewer_own P s 16 (s + 6) 5 (omega arith) (omega arith) own))
                (λ U keeps'' made'' low3.
                and_then p u P U move entry 0 (d ∷ []) (entry_of b d)
                (straight p u P 0 U move
                (given_in U f s (s + 5) (keeps'' s (keeps' s old.0)) (keeps'' (s + 5) new_in), named.0, tt, tt) low3
                (d ∷ []) (inr refl, tt))
                (λ V keeps4 made4 low4.
                move_entry_flows p u P V low4 b d s
                (less_value V b s
                (are_in_more (value_of true s) S V (λ y g. keeps4 y (keeps'' y (keeps' y g))) old)).1 named.1))));
            last = last_behind first new st rest (omega arith) (last_moved p u P Kept move b d s (inl refl));
          }

      pub changed_pointer : (w : Update) → is_update_of w Pointer ≡ true
          → Block p u P G (update_code lists c w Pointer f line b d a right s) 0 (value_of b d)
      changed_pointer (Arithmetic op t) ok = absurd (false≢true ok)
      changed_pointer (Forward size) ok = changed_pointer_by Add size
      changed_pointer (Back size) ok = changed_pointer_by Sub size
