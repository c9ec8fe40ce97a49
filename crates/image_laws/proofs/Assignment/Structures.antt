-- The blocks of structures: those that are assigned or stored, made of zeros, and taken; and what calls do for those
-- that they give, and for parameters that are stored.
use Rattle.std.proofs.Common.{◌≡◌, ◌⊎◌, inl, inr, ℕ, zero, suc, ◌+◌, ◌<◌, refl, ap, subst, arith, append_assoc}
use Rattle.std.proofs.Common.{Bool, true, false, List, [], ◌∷◌, ◌++◌, length}
use Rattle.addr_map.specs.declared.region.Region.TheVariants.{StructureValues}
use Rattle.rv_isa.specs.declared.instruction.BranchOp.TheVariants.{Bne}
use Rattle.rv_isa.specs.declared.instruction.RegOp.TheVariants.{Add}
use Rattle.addr_map.specs.Places.{MapSizes, region_start}
use Rattle.c_tree.specs.declared.expression.Kind.{Kind}
use Rattle.c_tree.specs.declared.expression.Kind.TheVariants.{Void, Scalar as OfScalar, Structure, Array}
use Rattle.tac_ir.specs.declared.function.CodeFunction.{CodeFunction}
use Rattle.tac_ir.specs.declared.function.Tac.{Tac}
use Rattle.flat_code.specs.declared.instruction.RightOperand.TheVariants.{Number, Register}
use Rattle.flat_code.specs.declared.instruction.FlatInstruction.{FlatInstruction}
use Rattle.flat_code.specs.declared.instruction.FlatInstruction.TheVariants.{Branch, Call, Charged, Constant, JumpForward}
use Rattle.flat_code.specs.declared.instruction.FlatInstruction.TheVariants.{Move, Operate}
use Rattle.flat_code.specs.declared.function.FlatProgram.{FlatProgram}
use Rattle.flat_code.specs.Calls.{function_in}
use Rattle.flat_code.specs.Meaning.{parameters_of, results_of}
use Rattle.flat_operators.specs.Operators.{constant_code}
use Rattle.shadow_space.specs.Form.{EntryCode}
use Rattle.lib_wrappers.specs.AreaRoutines.Areas.{whole_words}
use Rattle.metadata_plan.specs.OperatorLists.Operators.{operators}
use Rattle.metadata_relation.specs.Registers.{first_free, home_register}
use Rattle.metadata_relation.specs.Blocks.{await_result, move_value, part_address}
use Rattle.metadata_relation.specs.Structures.{area_code, await_code, begin_area_code, bound_code, callee_part_code}
use Rattle.metadata_relation.specs.Structures.{copy_code, copy_place, hold_area}
use Rattle.metadata_relation.specs.Structures.{move_area_place, move_part, part_call_code, put_area_place, put_code}
use Rattle.metadata_relation.specs.Structures.{receive_code, store_structure_code}
use Rattle.metadata_relation.specs.Structures.{take_area_place, take_part_code, take_place_code, take_structure_code}
use Rattle.metadata_relation.specs.Structures.{zero_area_place, zero_structure_code}
use Rattle.image_laws.specs.Plans.Assignment.{Registers, IsOneOf}
use Rattle.image_laws.specs.Plans.Instructions.{value_of}
use Rattle.image_laws.proofs.Assignment.Flows.{Flows, LastIn, followed, and_then, wider, last_append, last_ends}
use Rattle.image_laws.proofs.Assignment.Straight.{AllFrom, AreIn, are_in_more, nothing, straight}
use Rattle.image_laws.proofs.Assignment.Choices.{either}
use Rattle.image_laws.proofs.Assignment.Checks.{part_flows}
use Rattle.image_laws.proofs.Assignment.Values.{Block, move_flows, constant_flows}
use Rattle.image_laws.proofs.Assignment.Temporaries.{all_one_of}
use Rattle.image_laws.proofs.Assignment.Pieces.{call_flows, call_last, some_behind, two_from, one_from, value_from}
use Rattle.image_laws.proofs.Assignment.Accesses.{AreOwn, fewer_own}

-- ---- registers one behind the other

three_from : (R : Registers) (x : ℕ) → R x → R (x + 1) → R (x + 2) → AllFrom R x 3
three_from R x a b c zero lt = let same : x ≡ x + 0 = omega arith in subst R same a
three_from R x a b c (suc zero) lt = let same : x + 1 ≡ x + suc zero = omega arith in subst R same b
three_from R x a b c (suc (suc zero)) lt = let same : x + 2 ≡ x + suc (suc zero) = omega arith in subst R same c
three_from R x a b c (suc (suc (suc j))) lt = absurd (omega (arith, lt))

seven_from : (R : Registers) (x : ℕ) → R x → R (x + 1) → AllFrom R (x + 2) 5 → AllFrom R x 7
seven_from R x a b h zero lt = let same : x ≡ x + 0 = omega arith in subst R same a
seven_from R x a b h (suc zero) lt = let same : x + 1 ≡ x + suc zero = omega arith in subst R same b
seven_from R x a b h (suc (suc j)) lt =
    let same : x + 2 + j ≡ x + suc (suc j) = omega arith in
    subst R same (h j (omega (arith, lt)))

five_own : (P : Registers) (x : ℕ) → AreOwn P x 5 → AreIn (value_of true x) P
five_own P x own = (
  own x (omega arith) (omega arith),
  (
    own (x + 1) (omega arith) (omega arith),
    (
      own (x + 2) (omega arith) (omega arith),
      (
        own (x + 3) (omega arith) (omega arith),
        (
          own (x + 4) (omega arith) (omega arith),
          tt,
        ),
      ),
    ),
  ),
)

-- what registers have before a call whose result is a structure, so that it is moved behind it
abbrev pub awaited_from : (scratch : ℕ) → List ℕ
awaited_from s = s ∷ (s + 1) ∷ (s + 2) ∷ (s + 3) ∷ value_of true (s + 4)

abbrev pub awaited : Kind → (scratch : ℕ) → List ℕ
awaited (Structure size) s = awaited_from s
awaited kind s = []

-- a function of the runtime takes so many arguments, and gives its status alone
abbrev pub Serves : FlatProgram → (function takes : ℕ) → Type 0
Serves p f n = (parameters_of (function_in p f) ≡ n) × (results_of (function_in p f) ≡ 1)

module _ (p : FlatProgram) (u : ℕ) (P : Registers) where
  -- ---- parts of contents, and places

  contents_flows : (G : Registers) → ((y : ℕ) → G y → P y) → (d a : ℕ) → AreIn (value_of true a) G
      → AreIn (value_of true d) P → Flows p u P G (move_part d a) 0 (value_of true d)
  contents_flows G low d a (g0, (g1, (g2, _))) (p0, (p1, (p2, (p3, (p4, _))))) =
      straight p u P 0 G (move_part d a) (
        g0,
        p0,
        tt,
        (
          inl g1,
          p1,
          tt,
          (
            inl (inl g2),
            p2,
            tt,
            (tt, p3, tt, (tt, p4, tt, tt)),
          ),
        ),
      ) low (value_of true d) (
        inl (inl (inl (inl (inr refl)))),
        (
          inl (inl (inl (inr refl))),
          (
            inl (inl (inr refl)),
            (
              inl (inr refl),
              (inr refl, tt),
            ),
          ),
        ),
      )

  part_call_flows : (G : Registers) → ((y : ℕ) → G y → P y) → (f size a s : ℕ) → Serves p f 7
      → AreIn (value_of true a) G → G s → AreOwn P s 8
      → Flows p u P G (part_call_code operators f size a s) 0 ((s + 1) ∷ (value_of true (s + 2) ++ ((s + 7) ∷ [])))
  part_call_flows G low f size a s serves given first own =
      let moves = move_part (s + 2) a in
      let call = Call f s (s + 7) ∷ [] in
      and_then p u P G (constant_code (s + 1) size) (moves ++ call) 0 ((s + 1) ∷ [])
      (value_of true (s + 2) ++ ((s + 7) ∷ []))
      (constant_flows p u P G low (s + 1) size (own (s + 1) (omega arith) (omega arith)))
      (λ S keeps made low'.
      and_then p u P S moves call 0 (value_of true (s + 2)) ((s + 7) ∷ [])
      (contents_flows S low' (s + 2) a (are_in_more (value_of true a) G S keeps given)
      (five_own P (s + 2) (fewer_own P s 8 (s + 2) 5 (omega arith) (omega arith) own)))
      (λ T keeps' made' low''.
      call_flows p u P T low'' f s (s + 7) 7 1 serves.0 serves.1
      (seven_from T s (keeps' s (keeps s first)) (keeps' (s + 1) (made (s + 1) (inl refl)))
      (value_from T (s + 2) (all_one_of (value_of true (s + 2)) T made')))
      (one_from P (s + 7) (own (s + 7) (omega arith) (omega arith)))))

  copy_flows : (G : Registers) → ((y : ℕ) → G y → P y) → (number : ℕ → ℕ) (a size s : ℕ) → Serves p (number copy_place) 3
      → G a → G s → AreOwn P s 16 → Flows p u P G (copy_code operators number a size s) 0 ((s + 3) ∷ [])
  copy_flows G low number a size s serves given first own =
      let call = Call (number copy_place) s (s + 3) ∷ [] in
      followed p u P G (Move (s + 1) a ∷ []) (constant_code (s + 2) size ++ call) 0 ((s + 1) ∷ []) ((s + 3) ∷ [])
      (straight p u P 0 G (Move (s + 1) a ∷ []) (given, own (s + 1) (omega arith) (omega arith), tt, tt) low
      ((s + 1) ∷ []) (inr refl, tt))
      (λ S keeps made low'.
      followed p u P S (constant_code (s + 2) size) call 0 ((s + 2) ∷ []) ((s + 3) ∷ [])
      (constant_flows p u P S low' (s + 2) size (own (s + 2) (omega arith) (omega arith)))
      (λ T keeps' made' low''.
      call_flows p u P T low'' (number copy_place) s (s + 3) 3 1 serves.0 serves.1
      (three_from T s (keeps' s (keeps s first)) (keeps' (s + 1) (made (s + 1) (inl refl))) (made' (s + 2) (inl refl)))
      (one_from P (s + 3) (own (s + 3) (omega arith) (omega arith)))))

  copy_last : (E : Registers) (number : ℕ → ℕ) (a size s : ℕ) → Serves p (number copy_place) 3 → E (s + 3)
      → LastIn p E (copy_code operators number a size s)
  copy_last E number a size s serves e =
      let call = Call (number copy_place) s (s + 3) ∷ [] in
      last_append p E (Move (s + 1) a ∷ []) (constant_code (s + 2) size ++ call)
      (some_behind (constant_code (s + 2) size) call (omega arith))
      (last_append p E (constant_code (s + 2) size) call (omega arith)
      (call_last p E (number copy_place) s (s + 3) 1 serves.1 (one_from E (s + 3) e)))

  -- ---- structures that are assigned

  -- a part goes as a copy does but for the registers that hold it
  put_flows : (G : Registers) → ((y : ℕ) → G y → P y) → (number : ℕ → ℕ) (area : Bool) (a size s : ℕ)
      → Serves p (number copy_place) 3 → Serves p (number put_area_place) 7 → AreIn (value_of true a) G → G s
      → AreOwn P s 16 → Flows p u P G (put_code operators number area a size s) 0 ((s + 3) ∷ [])
  put_flows G low number false a size s copies puts given first own =
      copy_flows G low number a size s copies given.0 first own
  put_flows G low number true a size s copies puts given first own =
      let part = part_call_code operators (number put_area_place) size a s in
      let copy = copy_code operators number a size s in
      either p u P G Bne (a + 4) (Number 0) ((s + 3) ∷ []) part copy
      (wider p u P G part 0 ((s + 1) ∷ (value_of true (s + 2) ++ ((s + 7) ∷ []))) ((s + 3) ∷ [])
      (part_call_flows G low (number put_area_place) size a s puts given first
      (fewer_own P s 16 s 8 (omega arith) (omega arith) own))
      (λ y one. inr (inr (inr (third y one)))))
      (copy_flows G low number a size s copies given.0 first own)
      (last_ends p (λ y. G y ⊎ IsOneOf ((s + 3) ∷ []) y) copy
      (copy_last (λ y. G y ⊎ IsOneOf ((s + 3) ∷ []) y) number a size s copies (inr (inl refl))))
      given.1.1.1.1.0 tt low
    where
      third : (y : ℕ) → IsOneOf ((s + 3) ∷ []) y
          → IsOneOf ((s + 2 + 1) ∷ (s + 2 + 2) ∷ (s + 2 + 3) ∷ (s + 2 + 4) ∷ (s + 7) ∷ []) y
      third y (inl e) = inl (omega (arith, e))
      third y (inr none) = elim none [ ]

  put_some : (number : ℕ → ℕ) (area : Bool) (a size s : ℕ) → 0 < length (put_code operators number area a size s)
  put_some number false a size s = omega arith
  put_some number true a size s = omega arith

  put_last : (E : Registers) (number : ℕ → ℕ) (area : Bool) (a size s : ℕ) → Serves p (number copy_place) 3 → E (s + 3)
      → LastIn p E (put_code operators number area a size s)
  put_last E number false a size s copies e = copy_last E number a size s copies e
  put_last E number true a size s copies e =
      let part = part_call_code operators (number put_area_place) size a s in
      let copy = copy_code operators number a size s in
      last_append p E (Branch Bne (a + 4) (Number 0) (length part + 1) ∷ part) (JumpForward (length copy) ∷ copy)
      (omega arith)
      (last_append p E (JumpForward (length copy) ∷ []) copy (omega arith) (copy_last E number a size s copies e))

  move_last : (E : Registers) (b : Bool) (d a : ℕ) → LastIn p E (move_value b d a)
  move_last E false d a = inl refl
  move_last E true d a = inl refl

  move_some : (b : Bool) (d a : ℕ) → 0 < length (move_value b d a)
  move_some false d a = omega arith
  move_some true d a = omega arith

  pub structure_written : (G : Registers) → ((y : ℕ) → G y → P y) → (number : ℕ → ℕ) (area b : Bool)
      (size d q a s : ℕ) → Serves p (number copy_place) 3 → Serves p (number put_area_place) 7
      → AreIn (value_of b q) G → G q → AreIn (value_of true a) G → AreIn (value_of b d) P → AreOwn P s 16
      → Block p u P G (Move s q ∷ (put_code operators number area a size s ++ move_value b d q)) 0 (value_of b d)
  structure_written G low number area b size d q a s copies puts place at given named own =
      let put = put_code operators number area a size s in
      let E = λ (y : ℕ). G y ⊎ IsOneOf (value_of b d) y in
      record {
        flows = followed p u P G (Move s q ∷ []) (put ++ move_value b d q) 0 (s ∷ []) (value_of b d)
            (straight p u P 0 G (Move s q ∷ []) (at, own s (omega arith) (omega arith), tt, tt) low (s ∷ [])
            (inr refl, tt))
            (λ S keeps made low'.
            followed p u P S put (move_value b d q) 0 ((s + 3) ∷ []) (value_of b d)
            (put_flows S low' number area a size s copies puts (are_in_more (value_of true a) G S keeps given)
            (made s (inl refl)) own)
            (λ T keeps' made' low''.
            move_flows p u P T low'' b d q (are_in_more (value_of b q) G T (λ y g. keeps' y (keeps y g)) place) named));
        last = last_append p E (Move s q ∷ put) (move_value b d q) (move_some b d q) (move_last E b d q);
      }

  -- ---- parts of objects

  pub structure_stored : (read write : EntryCode) (map : MapSizes) (c : CodeFunction) (G : Registers)
      → ((y : ℕ) → G y → P y) → (number : ℕ → ℕ) (area : Bool) (size x offset a s : ℕ)
      → Serves p (number copy_place) 3 → Serves p (number put_area_place) 7 → G (home_register c x)
      → AreIn (value_of true a) G → AreOwn P s 16
      → Block p u P G (part_address operators c x offset s ++ put_code operators number area a size s) 0 ((s + 3) ∷ [])
  structure_stored read write map c G low number area size x offset a s copies puts home given own =
      let address = part_address operators c x offset s in
      let put = put_code operators number area a size s in
      let E = λ (y : ℕ). G y ⊎ IsOneOf ((s + 3) ∷ []) y in
      record {
        flows = followed p u P G address put 0 (s ∷ []) ((s + 3) ∷ [])
            (part_flows p u P read write map c G low x offset s home (own s (omega arith) (omega arith)))
            (λ S keeps made low'.
            put_flows S low' number area a size s copies puts (are_in_more (value_of true a) G S keeps given)
            (made s (inl refl)) own);
        last = last_append p E address put (put_some number area a size s)
            (put_last E number area a size s copies (inr (inl refl)));
      }

  -- ---- areas

  area_flows : (G : Registers) → ((y : ℕ) → G y → P y) → (offset r : ℕ) → AreOwn P r 2
      → Flows p u P G
      (Charged r ∷ (constant_code (r + 1) offset ++ (Operate Add r r (Register (r + 1)) ∷ []))) 0 (r ∷ [])
  area_flows G low offset r own =
      let sum = Operate Add r r (Register (r + 1)) ∷ [] in
      followed p u P G (Charged r ∷ []) (constant_code (r + 1) offset ++ sum) 0 (r ∷ []) (r ∷ [])
      (straight p u P 0 G (Charged r ∷ []) (tt, own r (omega arith) (omega arith), tt, tt) low (r ∷ []) (inr refl, tt))
      (λ S keeps made low'.
      followed p u P S (constant_code (r + 1) offset) sum 0 ((r + 1) ∷ []) (r ∷ [])
      (constant_flows p u P S low' (r + 1) offset (own (r + 1) (omega arith) (omega arith)))
      (λ T keeps' made' low''.
      straight p u P 0 T sum
      ((keeps' r (made r (inl refl)), made' (r + 1) (inl refl)), own r (omega arith) (omega arith), tt, tt) low''
      (r ∷ []) (inr refl, tt)))

  bound_flows : (G : Registers) → ((y : ℕ) → G y → P y) → (size a r : ℕ) → G a → P r
      → Flows p u P G (bound_code operators size a r) 0 (r ∷ [])
  bound_flows G low size a r given named =
      let sum = Operate Add r r (Register a) ∷ [] in
      followed p u P G (constant_code r (whole_words size)) sum 0 (r ∷ []) (r ∷ [])
      (constant_flows p u P G low r (whole_words size) named)
      (λ S keeps made low'.
      straight p u P 0 S sum ((made r (inl refl), keeps a given), named, tt, tt) low' (r ∷ []) (inr refl, tt))

  begin_flows : (G : Registers) → ((y : ℕ) → G y → P y) → (map : MapSizes) (t : Tac) (c : CodeFunction) (size i s : ℕ)
      → AreOwn P s 16
      → Flows p u P G (begin_area_code operators map t c size i s) 0 (s ∷ (s + 1) ∷ (s + 2) ∷ [])
  begin_flows G low map t c size i s own =
      let area = area_code operators map t c i s in
      let bound = bound_code operators size s (s + 1) in
      let move = Move (s + 2) s ∷ [] in
      and_then p u P G area (bound ++ move) 0 (s ∷ []) ((s + 1) ∷ (s + 2) ∷ [])
      (area_flows G low _ s (fewer_own P s 16 s 2 (omega arith) (omega arith) own))
      (λ S keeps made low'.
      and_then p u P S bound move 0 ((s + 1) ∷ []) ((s + 2) ∷ [])
      (bound_flows S low' size s (s + 1) (made s (inl refl)) (own (s + 1) (omega arith) (omega arith)))
      (λ T keeps' made' low''.
      straight p u P 0 T move
      (keeps' s (made s (inl refl)), own (s + 2) (omega arith) (omega arith), tt, tt) low'' ((s + 2) ∷ [])
      (inr refl, tt)))

  hold_flows : (G : Registers) → ((y : ℕ) → G y → P y) → (b : Bool) (d a e : ℕ) → G a → G e → AreIn (value_of b d) P
      → Flows p u P G (hold_area b d a e) 0 (value_of b d)
  hold_flows G low false d a e area bound named =
      straight p u P 0 G (hold_area false d a e) (area, named.0, tt, tt) low (d ∷ []) (inr refl, tt)
  hold_flows G low true d a e area bound (p0, (p1, (p2, (p3, (p4, _))))) =
      straight p u P 0 G (hold_area true d a e) (
        area,
        p0,
        tt,
        (
          inl area,
          p1,
          tt,
          (
            inl (inl bound),
            p2,
            tt,
            (tt, p3, tt, (tt, p4, tt, tt)),
          ),
        ),
      ) low (value_of true d) (
        inl (inl (inl (inl (inr refl)))),
        (
          inl (inl (inl (inr refl))),
          (
            inl (inl (inr refl)),
            (
              inl (inr refl),
              (inr refl, tt),
            ),
          ),
        ),
      )

  hold_last : (E : Registers) (b : Bool) (d a e : ℕ) → LastIn p E (hold_area b d a e)
  hold_last E false d a e = inl refl
  hold_last E true d a e = inl refl

  hold_some : (b : Bool) (d a e : ℕ) → 0 < length (hold_area b d a e)
  hold_some false d a e = omega arith
  hold_some true d a e = omega arith

  pub structure_of_zeros : (G : Registers) → ((y : ℕ) → G y → P y) → (map : MapSizes) (t : Tac) (c : CodeFunction)
      (number : ℕ → ℕ) (b : Bool) (size i d s : ℕ) → Serves p (number zero_area_place) 2 → AreIn (value_of b d) P
      → AreOwn P s 16
      → Block p u P G (zero_structure_code operators map t c number b size i d s) 0 (value_of b d)
  structure_of_zeros G low map t c number b size i d s zeros named own =
      let begin = begin_area_code operators map t c size i s in
      let call = Call (number zero_area_place) (s + 2) (s + 4) ∷ [] in
      let hold = hold_area b d s (s + 1) in
      let E = λ (y : ℕ). G y ⊎ IsOneOf (value_of b d) y in
      let next : s + 3 ≡ s + 2 + 1 = omega arith in
      record {
        flows = followed p u P G begin (constant_code (s + 3) size ++ (call ++ hold)) 0 (s ∷ (s + 1) ∷ (s + 2) ∷ [])
            (value_of b d) (begin_flows G low map t c size i s own)
            (λ S keeps made low'.
            followed p u P S (constant_code (s + 3) size) (call ++ hold) 0 ((s + 3) ∷ []) (value_of b d)
            (constant_flows p u P S low' (s + 3) size (own (s + 3) (omega arith) (omega arith)))
            (λ T keeps' made' low''.
            followed p u P T call hold 0 ((s + 4) ∷ []) (value_of b d)
            (call_flows p u P T low'' (number zero_area_place) (s + 2) (s + 4) 2 1 zeros.0 zeros.1
            (two_from T (s + 2) (keeps' (s + 2) (made (s + 2) (inr (inr (inl refl)))))
            (subst T next (made' (s + 3) (inl refl))))
            (one_from P (s + 4) (own (s + 4) (omega arith) (omega arith))))
            (λ U keeps3 made3 low3.
            hold_flows U low3 b d s (s + 1) (keeps3 s (keeps' s (made s (inl refl))))
            (keeps3 (s + 1) (keeps' (s + 1) (made (s + 1) (inr (inl refl))))) named)));
        last = last_append p E begin (constant_code (s + 3) size ++ (call ++ hold))
            (some_behind (constant_code (s + 3) size) (call ++ hold) (some_behind call hold (hold_some b d s (s + 1))))
            (last_append p E (constant_code (s + 3) size) (call ++ hold)
            (some_behind call hold (hold_some b d s (s + 1)))
            (last_append p E call hold (hold_some b d s (s + 1)) (hold_last E b d s (s + 1))));
      }

  -- ---- structures that are taken

  place_flows : (G : Registers) → ((y : ℕ) → G y → P y) → (number : ℕ → ℕ) (size a s : ℕ)
      → Serves p (number take_area_place) 3 → G a → G s → AreOwn P s 8
      → Flows p u P G (take_place_code operators number size a s) 0 ((s + 7) ∷ [])
  place_flows G low number size a s takes given first own =
      let call = Call (number take_area_place) s (s + 7) ∷ [] in
      followed p u P G (Move (s + 1) a ∷ []) (constant_code (s + 2) size ++ call) 0 ((s + 1) ∷ []) ((s + 7) ∷ [])
      (straight p u P 0 G (Move (s + 1) a ∷ []) (given, own (s + 1) (omega arith) (omega arith), tt, tt) low
      ((s + 1) ∷ []) (inr refl, tt))
      (λ S keeps made low'.
      followed p u P S (constant_code (s + 2) size) call 0 ((s + 2) ∷ []) ((s + 7) ∷ [])
      (constant_flows p u P S low' (s + 2) size (own (s + 2) (omega arith) (omega arith)))
      (λ T keeps' made' low''.
      call_flows p u P T low'' (number take_area_place) s (s + 7) 3 1 takes.0 takes.1
      (three_from T s (keeps' s (keeps s first)) (keeps' (s + 1) (made (s + 1) (inl refl))) (made' (s + 2) (inl refl)))
      (one_from P (s + 7) (own (s + 7) (omega arith) (omega arith)))))

  place_last : (E : Registers) (number : ℕ → ℕ) (size a s : ℕ) → Serves p (number take_area_place) 3 → E (s + 7)
      → LastIn p E (take_place_code operators number size a s)
  place_last E number size a s takes e =
      let call = Call (number take_area_place) s (s + 7) ∷ [] in
      last_append p E (Move (s + 1) a ∷ []) (constant_code (s + 2) size ++ call)
      (some_behind (constant_code (s + 2) size) call (omega arith))
      (last_append p E (constant_code (s + 2) size) call (omega arith)
      (call_last p E (number take_area_place) s (s + 7) 1 takes.1 (one_from E (s + 7) e)))

  taken_flows : (G : Registers) → ((y : ℕ) → G y → P y) → (number : ℕ → ℕ) (size a s : ℕ)
      → Serves p (number take_area_place) 3 → Serves p (number move_area_place) 7 → AreIn (value_of true a) G → G s
      → AreOwn P s 8
      → Flows p u P G (Branch Bne (a + 4) (Number 0) (length (take_part_code operators number size a s) + 1)
      ∷ (take_part_code operators number size a s
      ++ (JumpForward (length (take_place_code operators number size a s))
      ∷ take_place_code operators number size a s))) 0 ((s + 7) ∷ [])
  taken_flows G low number size a s takes moves given first own =
      let part = take_part_code operators number size a s in
      let place = take_place_code operators number size a s in
      either p u P G Bne (a + 4) (Number 0) ((s + 7) ∷ []) part place
      (wider p u P G part 0 ((s + 1) ∷ (value_of true (s + 2) ++ ((s + 7) ∷ []))) ((s + 7) ∷ [])
      (part_call_flows G low (number move_area_place) size a s moves given first own)
      (λ y one. inr (inr (inr (inr (inr (inr (inr one))))))))
      (place_flows G low number size a s takes given.0 first own)
      (last_ends p (λ y. G y ⊎ IsOneOf ((s + 7) ∷ []) y) place
      (place_last (λ y. G y ⊎ IsOneOf ((s + 7) ∷ []) y) number size a s takes (inr (inl refl))))
      given.1.1.1.1.0 tt low

  pub structure_taken : (G : Registers) → ((y : ℕ) → G y → P y) → (map : MapSizes) (t : Tac) (c : CodeFunction)
      (number : ℕ → ℕ) (b : Bool) (size i d a s : ℕ) → Serves p (number take_area_place) 3
      → Serves p (number move_area_place) 7 → AreIn (value_of true a) G → AreIn (value_of b d) P → AreOwn P s 16
      → Block p u P G (take_structure_code operators map t c number b size i d a s) 0 (value_of b d)
  structure_taken G low map t c number b size i d a s takes moves given named own =
      let begin = begin_area_code operators map t c size i s in
      let part = take_part_code operators number size a (s + 2) in
      let place = take_place_code operators number size a (s + 2) in
      let jump = JumpForward (length place) ∷ place in
      let choice = Branch Bne (a + 4) (Number 0) (length part + 1) ∷ (part ++ jump) in
      let hold = hold_area b d s (s + 1) in
      let E = λ (y : ℕ). G y ⊎ IsOneOf (value_of b d) y in
      let same = ap (λ is. begin ++ (Branch Bne (a + 4) (Number 0) (length part + 1) ∷ is)) (append_assoc part jump hold)
      in
      subst (λ is. Block p u P G is 0 (value_of b d)) same
      (record {
        flows = followed p u P G begin (choice ++ hold) 0 (s ∷ (s + 1) ∷ (s + 2) ∷ []) (value_of b d)
            (begin_flows G low map t c size i s own)
            (λ S keeps made low'.
            followed p u P S choice hold 0 ((s + 2 + 7) ∷ []) (value_of b d)
            (taken_flows S low' number size a (s + 2) takes moves (are_in_more (value_of true a) G S keeps given)
            (made (s + 2) (inr (inr (inl refl)))) (fewer_own P s 16 (s + 2) 8 (omega arith) (omega arith) own))
            (λ T keeps' made' low''.
            hold_flows T low'' b d s (s + 1) (keeps' s (made s (inl refl)))
            (keeps' (s + 1) (made (s + 1) (inr (inl refl)))) named));
        last = last_append p E begin (choice ++ hold) (some_behind choice hold (hold_some b d s (s + 1)))
            (last_append p E choice hold (hold_some b d s (s + 1)) (hold_last E b d s (s + 1)));
      })

  -- ---- results

  -- the part that is all of what a function leaves which is called next
  callee_flows : (G : Registers) → ((y : ℕ) → G y → P y) → (map : MapSizes) (size r : ℕ) → AreIn (value_of true r) P
      → Flows p u P G (callee_part_code operators map size r) 0 (value_of true r)
  callee_flows G low map size r (p0, (p1, (p2, (p3, (p4, _))))) =
      let begin = constant_code (r + 1) (region_start map StructureValues) in
      let sum = Operate Add r r (Register (r + 1)) ∷ Move (r + 1) r ∷ [] in
      let bound = bound_code operators size r (r + 2) in
      let zeros = Constant (r + 3) 0 ∷ Constant (r + 4) 0 ∷ [] in
      followed p u P G (Charged r ∷ []) (begin ++ (sum ++ (bound ++ zeros))) 0 (r ∷ []) (value_of true r)
      (straight p u P 0 G (Charged r ∷ []) (tt, p0, tt, tt) low (r ∷ []) (inr refl, tt))
      (λ S keeps made low'.
      followed p u P S begin (sum ++ (bound ++ zeros)) 0 ((r + 1) ∷ []) (value_of true r)
      (constant_flows p u P S low' (r + 1) (region_start map StructureValues) p1)
      (λ T keeps' made' low''.
      followed p u P T sum (bound ++ zeros) 0 (r ∷ (r + 1) ∷ []) (value_of true r)
      (straight p u P 0 T sum
      ((keeps' r (made r (inl refl)), made' (r + 1) (inl refl)), p0, tt, (inr refl, p1, tt, tt)) low''
      (r ∷ (r + 1) ∷ []) (inl (inr refl), (inr refl, tt)))
      (λ U keeps3 made3 low3.
      followed p u P U bound zeros 0 ((r + 2) ∷ []) (value_of true r)
      (bound_flows U low3 size r (r + 2) (made3 r (inl refl)) p2)
      (λ V keeps4 made4 low4.
      straight p u P 0 V zeros (tt, p3, tt, (tt, p4, tt, tt)) low4 (value_of true r) (
        inl (inl (keeps4 r (made3 r (inl refl)))),
        (
          inl (inl (keeps4 (r + 1) (made3 (r + 1) (inr (inl refl))))),
          (
            inl (inl (made4 (r + 2) (inl refl))),
            (inl (inr refl), (inr refl, tt)),
          ),
        ),
      )))))

  structure_awaited : (G : Registers) → ((y : ℕ) → G y → P y) → (map : MapSizes) (t : Tac) (c : CodeFunction)
      (size d s : ℕ) → AreOwn P s 16
      → Flows p u P G (await_code operators map t c size d s) 0 (awaited_from s)
  structure_awaited G low map t c size d s own =
      let begin = begin_area_code operators map t c size d s in
      let part = callee_part_code operators map size (s + 4) in
      and_then p u P G begin (constant_code (s + 3) size ++ part) 0 (s ∷ (s + 1) ∷ (s + 2) ∷ [])
      ((s + 3) ∷ value_of true (s + 4)) (begin_flows G low map t c size d s own)
      (λ S keeps made low'.
      and_then p u P S (constant_code (s + 3) size) part 0 ((s + 3) ∷ []) (value_of true (s + 4))
      (constant_flows p u P S low' (s + 3) size (own (s + 3) (omega arith) (omega arith)))
      (λ T keeps' made' low''.
      callee_flows T low'' map size (s + 4)
      (five_own P (s + 4) (fewer_own P s 16 (s + 4) 5 (omega arith) (omega arith) own))))

  pub await_flows : (G : Registers) → ((y : ℕ) → G y → P y) → (map : MapSizes) (t : Tac) (c : CodeFunction)
      (kind : Kind) (d : ℕ) → AreOwn P (first_free c) 16
      → Flows p u P G (await_result operators map t c kind d) 0 (awaited kind (first_free c))
  await_flows G low map t c Void d own = nothing p u P G low
  await_flows G low map t c (OfScalar k) d own = nothing p u P G low
  await_flows G low map t c (Structure size) d own = structure_awaited G low map t c size d (first_free c) own
  await_flows G low map t c (Array n) d own = nothing p u P G low

  pub receive_last : (E : Registers) (call : FlatInstruction) (number : ℕ → ℕ) (b : Bool) (d s : ℕ)
      → LastIn p E (call ∷ receive_code number b d s)
  receive_last E call number b d s =
      last_append p E (call ∷ Call (number move_area_place) (s + 2) (s + 9) ∷ []) (hold_area b d s (s + 1))
      (hold_some b d s (s + 1)) (hold_last E b d s (s + 1))

  -- behind a call that leaves a structure it is moved
  pub received_block : (G : Registers) → ((y : ℕ) → G y → P y) → (call : FlatInstruction) (number : ℕ → ℕ) (b : Bool)
      (d s : ℕ) → Serves p (number move_area_place) 7 → AreIn (value_of b d) P → AreOwn P s 16
      → AreIn (awaited_from s) G → Flows p u P G (call ∷ []) 0 []
      → Block p u P G (call ∷ receive_code number b d s) 0 (value_of b d)
  received_block G low call number b d s serves named own (area, (bound, (into, (size, part)))) f =
      let move = Call (number move_area_place) (s + 2) (s + 9) ∷ [] in
      let hold = hold_area b d s (s + 1) in
      let second : s + 3 ≡ s + 2 + 1 = omega arith in
      let third : s + 4 ≡ s + 2 + 2 = omega arith in
      record {
        flows = followed p u P G (call ∷ []) (move ++ hold) 0 [] (value_of b d) f
            (λ S keeps made low'.
            followed p u P S move hold 0 ((s + 9) ∷ []) (value_of b d)
            (call_flows p u P S low' (number move_area_place) (s + 2) (s + 9) 7 1 serves.0 serves.1
            (seven_from S (s + 2) (keeps (s + 2) into) (subst S second (keeps (s + 3) size))
            (subst (λ z. AllFrom S z 5) third
            (value_from S (s + 4) (are_in_more (value_of true (s + 4)) G S keeps part))))
            (one_from P (s + 9) (own (s + 9) (omega arith) (omega arith))))
            (λ T keeps' made' low''.
            hold_flows T low'' b d s (s + 1) (keeps' s (keeps s area)) (keeps' (s + 1) (keeps (s + 1) bound)) named));
        last = receive_last (λ y. G y ⊎ IsOneOf (value_of b d) y) call number b d s;
      }

  -- ---- parameters

  pub parameter_stored : (G : Registers) → ((y : ℕ) → G y → P y) → (number : ℕ → ℕ) (size home a s : ℕ)
      → Serves p (number put_area_place) 7 → G home → AreIn (value_of true a) G → AreOwn P s 8
      → Flows p u P G (store_structure_code operators number size home a s) 0 ((s + 7) ∷ [])
  parameter_stored G low number size home a s puts there given own =
      let part = part_call_code operators (number put_area_place) size a s in
      followed p u P G (Move s home ∷ []) part 0 (s ∷ []) ((s + 7) ∷ [])
      (straight p u P 0 G (Move s home ∷ []) (there, own s (omega arith) (omega arith), tt, tt) low (s ∷ [])
      (inr refl, tt))
      (λ S keeps made low'.
      wider p u P S part 0 ((s + 1) ∷ (value_of true (s + 2) ++ ((s + 7) ∷ []))) ((s + 7) ∷ [])
      (part_call_flows S low' (number put_area_place) size a s puts (are_in_more (value_of true a) G S keeps given)
      (made s (inl refl)) own)
      (λ y one. inr (inr (inr (inr (inr (inr (inr one))))))))

  pub parameter_last : (E : Registers) (number : ℕ → ℕ) (size home a s : ℕ) → Serves p (number put_area_place) 7
      → E (s + 7) → LastIn p E (store_structure_code operators number size home a s)
  parameter_last E number size home a s puts e =
      let size_code = constant_code (s + 1) size in
      let call = move_part (s + 2) a ++ (Call (number put_area_place) s (s + 7) ∷ []) in
      last_append p E (Move s home ∷ []) (size_code ++ call) (some_behind size_code call (omega arith))
      (last_append p E size_code call (omega arith)
      (call_last p E (number put_area_place) s (s + 7) 1 puts.1 (one_from E (s + 7) e)))
