-- The blocks of checks, of pointers narrowed, and of what stands in objects of variables.
use Rattle.std.proofs.Common.{◌≡◌, ◌⊎◌, inl, inr, ℕ, ◌+◌, refl, arith}
use Rattle.std.proofs.Common.{Bool, true, false, List, [], ◌∷◌, ◌++◌}
use Rattle.std.specs.Prelude.{◌-◌, nat_le, if◌then◌else◌}
use Rattle.sb_base.specs.declared.ending.Ending.TheVariants.{Spatial as SpatialAt}
use Rattle.addr_map.specs.Places.{MapSizes}
use Rattle.rv_isa.specs.declared.instruction.RegOp.TheVariants.{Add, Sub}
use Rattle.rv_isa.specs.declared.instruction.BranchOp.TheVariants.{Bltu}
use Rattle.obj_memory.specs.declared.value.Scalar.{Scalar}
use Rattle.obj_memory.specs.declared.value.Scalar.TheVariants.{Integer, Pointer}
use Rattle.tac_ir.specs.declared.instruction.Test.{Test}
use Rattle.tac_ir.specs.declared.instruction.Test.TheVariants.{Spatial, Temporal}
use Rattle.tac_ir.specs.declared.function.CodeFunction.{CodeFunction}
use Rattle.flat_code.specs.declared.instruction.RightOperand.{RightOperand}
use Rattle.flat_code.specs.declared.instruction.RightOperand.TheVariants.{Register}
use Rattle.flat_code.specs.declared.instruction.FlatInstruction.{FlatInstruction}
use Rattle.flat_code.specs.declared.instruction.FlatInstruction.TheVariants.{Move, Operate, Branch, Call}
use Rattle.flat_code.specs.declared.instruction.FlatInstruction.TheVariants.{End}
use Rattle.flat_code.specs.declared.function.FlatProgram.{FlatProgram}
use Rattle.flat_code.specs.Calls.{function_in}
use Rattle.flat_code.specs.Meaning.{parameters_of, results_of}
use Rattle.flat_operators.specs.Operators.{constant_code}
use Rattle.flat_actions.specs.Judgement.Code.{spatial_code}
use Rattle.flat_actions.specs.Narrowing.{narrow_code as narrow_list}
use Rattle.shadow_space.specs.Form.{EntryCode}
use Rattle.lib_wrappers.specs.AccessRoutines.Accessing.{store_code}
use Rattle.runtime_functions.specs.Library.{held_from}
use Rattle.metadata_plan.specs.OperatorLists.Operators.{operators}
use Rattle.metadata_relation.specs.Registers.{home_register}
use Rattle.metadata_relation.specs.InlineCode.{InlineCode}
use Rattle.metadata_relation.specs.InlineLists.{inline_lists}
use Rattle.metadata_relation.specs.Blocks.{move_value, number_code, number_operand, is_short, narrow_code, check_code}
use Rattle.metadata_relation.specs.Blocks.{Range, range_code, part_address, store_bytes, held_scalar}
use Rattle.image_laws.specs.Plans.Assignment.{Registers, IsOneOf}
use Rattle.image_laws.specs.Plans.EntryLists.{AssignEntries}
use Rattle.image_laws.specs.Plans.Instructions.{value_of}
use Rattle.image_laws.proofs.Plans.Flow.{With}
use Rattle.image_laws.proofs.Assignment.Flows.{Flows, LastIn, followed, wider, last_append, last_both}
use Rattle.image_laws.proofs.Assignment.Straight.{AreIn, are_in_more, Straight, straight, ends_run}
use Rattle.image_laws.proofs.Assignment.Operators.{are_quiet, quiet_last}
use Rattle.image_laws.proofs.Assignment.Pointers.{spatial_flows, temporal_flows, narrow_flows, more_operand}
use Rattle.image_laws.proofs.Assignment.Values.{Block, move_flows, number_flows, number_last, constant_flows}
use Rattle.image_laws.proofs.Assignment.Values.{quiet_constant}
use Rattle.image_laws.proofs.Assignment.Temporaries.{all_one_of}
use Rattle.image_laws.proofs.Assignment.Pieces.{call_flows, call_last, some_behind, two_from, one_from}
use Rattle.image_laws.proofs.Assignment.Accesses.{AreOwn, fewer_own, is_pointer, scalar_registers, store_flows}
use Rattle.image_laws.proofs.Assignment.Accesses.{store_last}

module _ (p : FlatProgram) (u : ℕ) (P : Registers) (read write : EntryCode) (map : MapSizes) where
  abbrev lists : InlineCode
  lists = inline_lists read write map

  quiet_number : (E : Registers) (n r s : ℕ) → LastIn p E (number_code operators n r s)
  quiet_number E n r s = by (is_short n)
    where
      by : (b : Bool) → LastIn p E (if b then [] else constant_code r n)
      by true = tt
      by false = quiet_constant p u P E r n

  -- ---- a pointer narrowed

  pub narrowed_block : (G : Registers) → ((y : ℕ) → G y → P y) → (b : Bool) (offset size d a s : ℕ)
      → AreIn (value_of b a) G → AreIn (value_of b d) P → AreOwn P s 16
      → Block p u P G (narrow_code lists b offset size d a s) 0 (value_of b d)
  narrowed_block G low false offset size d a s given named own =
      let rest = λ (z : RightOperand). Operate Add d a z ∷ [] in
      record {
        flows = number_flows p u P G low offset s (s + 1) rest (d ∷ []) (own s (omega arith) (omega arith))
            (λ S keeps low' z oz.
            straight p u P 0 S (rest z) ((keeps a given.0, oz), named.0, tt, tt) low' (d ∷ []) (inr refl, tt));
        last = number_last p u P (λ y. G y ⊎ IsOneOf (value_of false d) y) offset s (s + 1) rest
            (λ z. (omega arith, inl refl));
      }
  narrowed_block G low true offset size d a s given named own =
      let E = λ (y : ℕ). G y ⊎ IsOneOf (value_of true d) y in
      let cut = λ (z w : RightOperand). narrow_list (held_from d) z w (s + 2) in
      let w = number_operand size (s + 1) in
      let second = λ (z : RightOperand). number_code operators size (s + 1) (s + 2) ++ cut z w in
      let rest = number_code operators offset s (s + 2) ++ second (number_operand offset s) in
      record {
        flows = followed p u P G (move_value true d a) rest 0 (value_of true d) (value_of true d)
            (move_flows p u P G low true d a given named)
            (λ S keeps made low'.
            let moved = all_one_of (value_of true d) S made in
            wider p u P S rest 0 [] (value_of true d)
            (number_flows p u P S low' offset s (s + 2) second [] (own s (omega arith) (omega arith))
            (λ T keeps' low'' z oz.
            number_flows p u P T low'' size (s + 1) (s + 2) (cut z) [] (own (s + 1) (omega arith) (omega arith))
            (λ U keeps'' low''' w ow.
            narrow_flows p u P U (held_from d) z w (s + 2) low'''
            (are_in_more (value_of true d) S U (λ y g. keeps'' y (keeps' y g)) moved)
            (more_operand p u P T U z keeps'' oz) ow (own (s + 2) (omega arith) (omega arith)))))
            (λ y m. inl (made y m)));
        last = last_both p E (move_value true d a) rest (inl refl)
            (last_both p E (number_code operators offset s (s + 2)) (second (number_operand offset s))
            (quiet_number E offset s (s + 2))
            (last_append p E (number_code operators size (s + 1) (s + 2)) (cut (number_operand offset s) w) (omega arith)
            (inl refl)));
      }

  -- ---- checks

  pub checked_block : (G : Registers) → ((y : ℕ) → G y → P y) → (test : Test) (size line r s : ℕ)
      → AreIn (value_of true r) G → AreOwn P s 16 → Block p u P G (check_code lists test size line r s) 0 []
  checked_block G low Spatial size line r s (value, (base, (bound, _))) own =
      let rest = λ (z : RightOperand). spatial_code (held_from r) z line (s + 1) in
      record {
        flows = number_flows p u P G low size s (s + 1) rest [] (own s (omega arith) (omega arith))
            (λ S keeps low' z oz.
            spatial_flows p u P S (held_from r) z line (s + 1) low'
            (keeps r value, (keeps (r + 1) base, (keeps (r + 2) bound, tt))) oz (own (s + 1) (omega arith) (omega arith)));
        last = number_last p u P (λ y. G y ⊎ ⊥) size s (s + 1) rest (λ z. (omega arith, inl refl));
      }
  checked_block G low Temporal size line r s (value, (base, (bound, (key, (lock, _))))) own = record {
    flows = temporal_flows p u P G (held_from r) line s low (key, (lock, tt)) (own s (omega arith) (omega arith));
    last = inl refl;
  }

  -- the pointer is compared with a range behind an address that the code makes first
  pub ranged_block : (G : Registers) → ((y : ℕ) → G y → P y) → (address : List FlatInstruction) (r : Range)
      (size line a s : ℕ) → Flows p u P G address 0 (s ∷ []) → G a → AreOwn P s 16
      → Block p u P G (range_code operators address r size line a s) 0 []
  ranged_block G low address r size line a s f ga own = by (nat_le (r.start + size) r.end)
    where
      n : ℕ
      n = r.end - (r.start + size) + 1

      test : RightOperand → List FlatInstruction
      test z = Branch Bltu s z 1 ∷ End (SpatialAt line) ∷ []

      rest : List FlatInstruction
      rest = Operate Sub s a (Register s) ∷ (number_code operators n (s + 1) (s + 2) ++ test (number_operand n (s + 1)))

      by : (b : Bool) → Block p u P G (if b then address ++ rest else End (SpatialAt line) ∷ []) 0 []
      by false = record { flows = ends_run p u P G (SpatialAt line) [] low tt; last = inl refl }
      by true = record {
        flows = followed p u P G address rest 0 (s ∷ []) [] f
            (λ S keeps made low'.
            followed p u P S (Operate Sub s a (Register s) ∷ [])
            (number_code operators n (s + 1) (s + 2) ++ test (number_operand n (s + 1))) 0 (s ∷ []) []
            (straight p u P 0 S (Operate Sub s a (Register s) ∷ [])
            ((keeps a ga, made s (inl refl)), own s (omega arith) (omega arith), tt, tt) low' (s ∷ []) (inr refl, tt))
            (λ T keeps' made' low''.
            number_flows p u P T low'' n (s + 1) (s + 2) test [] (own (s + 1) (omega arith) (omega arith))
            (λ U keeps'' low''' z oz.
            straight p u P 0 U (test z) ((keeps'' s (made' s (inl refl)), oz), tt, (refl, tt), (tt, tt, tt, tt)) low''' []
            tt)));
        last = last_append p (λ y. G y ⊎ ⊥) address rest (omega arith)
            (last_append p (λ y. G y ⊎ ⊥) (Operate Sub s a (Register s) ∷ [])
            (number_code operators n (s + 1) (s + 2) ++ test (number_operand n (s + 1)))
            (some_behind (number_code operators n (s + 1) (s + 2)) (test (number_operand n (s + 1))) (omega arith))
            (number_last p u P (λ y. G y ⊎ ⊥) n (s + 1) (s + 2) test (λ z. (omega arith, inl refl))));
      }

  -- ---- parts of objects

  module _ (c : CodeFunction) where
    pub part_flows : (G : Registers) → ((y : ℕ) → G y → P y) → (x offset r : ℕ) → G (home_register c x) → P r
        → Flows p u P G (part_address operators c x offset r) 0 (r ∷ [])
    part_flows G low x offset r home named =
        number_flows p u P G low offset r (r + 1) (λ z. Operate Add r (home_register c x) z ∷ []) (r ∷ []) named
        (λ S keeps low' z oz.
        straight p u P 0 S (Operate Add r (home_register c x) z ∷ [])
        ((keeps (home_register c x) home, oz), named, tt, tt) low' (r ∷ []) (inr refl, tt))

    -- a scalar is stored there
    pub stored_part : (entries : AssignEntries read write) (G : Registers) → ((y : ℕ) → G y → P y) → (k : Scalar)
        (x offset a s : ℕ) → G (home_register c x) → AreIn (value_of (is_pointer k) a) G → AreOwn P s 16
        → Block p u P G
        (part_address operators c x offset s ++ store_code write map s (held_scalar k a) (s + 1)) 0 []
    stored_part entries G low k x offset a s home given own =
        let st = store_code write map s (held_scalar k a) (s + 1) in
        record {
          flows = followed p u P G (part_address operators c x offset s) st 0 (s ∷ []) []
              (part_flows G low x offset s home (own s (omega arith) (omega arith)))
              (λ S keeps made low'.
              store_flows p u P read write entries map S low' s (held_scalar k a) (s + 1) (made s (inl refl))
              (held k S keeps given) (fewer_own P s 16 (s + 1) 5 (omega arith) (omega arith) own));
          last = last_both p (λ y. G y ⊎ ⊥) (part_address operators c x offset s) st (part_last x offset s)
              (store_last p u P read write entries map (λ y. G y ⊎ ⊥) s (held_scalar k a) (s + 1));
        }
      where
        held : (k : Scalar) (S : Registers) → ((y : ℕ) → G y → S y) → AreIn (value_of (is_pointer k) a) G
            → AreIn (scalar_registers (held_scalar k a)) S
        held (Integer t) S keeps g = (keeps a g.0, tt)
        held Pointer S keeps g = are_in_more (value_of true a) G S keeps g

        part_last : (x offset s : ℕ) → LastIn p (λ y. G y ⊎ ⊥) (part_address operators c x offset s)
        part_last x offset s =
            number_last p u P (λ y. G y ⊎ ⊥) offset s (s + 1) (λ z. Operate Add s (home_register c x) z ∷ [])
            (λ z. (omega arith, inl refl))

    -- bytes are stored one by one
    bytes_straight : (R : Registers) (bs : List ℕ) (a r : ℕ) → R a → P a → P r → Straight p u P 0 R (store_bytes bs a r)
    bytes_straight R [] a r ra pa pr = tt
    bytes_straight R (b ∷ bs) a r ra pa pr = (
      tt,
      pr,
      tt,
      (
        (inl ra, inr refl),
        tt,
        tt,
        (
          (inl ra, tt),
          pa,
          tt,
          bytes_straight (With (With R r) a) bs a r (inr refl) pa pr,
        ),
      ),
    )

    bytes_quiet : (bs : List ℕ) (a r : ℕ) → are_quiet (store_bytes bs a r) ≡ true
    bytes_quiet [] a r = refl
    bytes_quiet (b ∷ bs) a r = bytes_quiet bs a r

    pub stored_text : (G : Registers) → ((y : ℕ) → G y → P y) → (bs : List ℕ) (x offset s : ℕ)
        → G (home_register c x) → AreOwn P s 16
        → Block p u P G (part_address operators c x offset s ++ store_bytes bs s (s + 1)) 0 []
    stored_text G low bs x offset s home own =
        let pa = own s (omega arith) (omega arith) in
        record {
          flows = followed p u P G (part_address operators c x offset s) (store_bytes bs s (s + 1)) 0 (s ∷ []) []
              (part_flows G low x offset s home pa)
              (λ S keeps made low'.
              straight p u P 0 S (store_bytes bs s (s + 1))
              (bytes_straight S bs s (s + 1) (made s (inl refl)) pa (own (s + 1) (omega arith) (omega arith))) low' [] tt);
          last = last_both p (λ y. G y ⊎ ⊥) (part_address operators c x offset s) (store_bytes bs s (s + 1))
              (number_last p u P (λ y. G y ⊎ ⊥) offset s (s + 1) (λ z. Operate Add s (home_register c x) z ∷ [])
              (λ z. (omega arith, inl refl)))
              (quiet_last p (λ y. G y ⊎ ⊥) (store_bytes bs s (s + 1)) (bytes_quiet bs s (s + 1)));
        }

  -- all bytes of a home become zero: the function gives its status
  pub zeroed_block : (G : Registers) → ((y : ℕ) → G y → P y) → (home size zero s : ℕ)
      → parameters_of (function_in p zero) ≡ 2 → results_of (function_in p zero) ≡ 1 → G home → AreOwn P s 16
      → Block p u P G (Move s home ∷ (constant_code (s + 1) size ++ (Call zero s (s + 2) ∷ []))) 0 ((s + 2) ∷ [])
  zeroed_block G low home size zero s takes gives gh own =
      let rest = constant_code (s + 1) size ++ (Call zero s (s + 2) ∷ []) in
      record {
        flows = followed p u P G (Move s home ∷ []) rest 0 (s ∷ []) ((s + 2) ∷ [])
            (straight p u P 0 G (Move s home ∷ []) (gh, own s (omega arith) (omega arith), tt, tt) low (s ∷ [])
            (inr refl, tt))
            (λ S keeps made low'.
            followed p u P S (constant_code (s + 1) size) (Call zero s (s + 2) ∷ []) 0 ((s + 1) ∷ []) ((s + 2) ∷ [])
            (constant_flows p u P S low' (s + 1) size (own (s + 1) (omega arith) (omega arith)))
            (λ T keeps' made' low''.
            call_flows p u P T low'' zero s (s + 2) 2 1 takes gives
            (two_from T s (keeps' s (made s (inl refl))) (made' (s + 1) (inl refl)))
            (one_from P (s + 2) (own (s + 2) (omega arith) (omega arith)))));
        last = last_append p (λ y. G y ⊎ IsOneOf ((s + 2) ∷ []) y) (Move s home ∷ []) rest
            (some_behind (constant_code (s + 1) size) (Call zero s (s + 2) ∷ []) (omega arith))
            (last_append p (λ y. G y ⊎ IsOneOf ((s + 2) ∷ []) y) (constant_code (s + 1) size) (Call zero s (s + 2) ∷ [])
            (omega arith)
            (call_last p (λ y. G y ⊎ IsOneOf ((s + 2) ∷ []) y) zero s (s + 2) 1 gives
            (one_from (λ y. G y ⊎ IsOneOf ((s + 2) ∷ []) y) (s + 2) (inr (inl refl)))));
      }
