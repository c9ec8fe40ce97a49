-- The lists of both forms of the shadow space assign what is asked of them.
use Rattle.std.proofs.Common.{◌≡◌, ◌⊎◌, inl, inr, ⊎_elim, ℕ, zero, suc, ◌+◌, ◌<◌, ◌≤◌, refl, sym, subst, arith}
use Rattle.std.proofs.Common.{true, List, [], ◌∷◌, ◌++◌, length}
use Rattle.std.specs.Prelude.{get_or}
use Rattle.addr_map.specs.Places.{MapSizes}
use Rattle.rv_isa.specs.declared.instruction.BranchOp.TheVariants.{Beq, Bne}
use Rattle.rv_isa.specs.declared.instruction.RegOp.TheVariants.{Add, Sll}
use Rattle.flat_code.specs.declared.instruction.RightOperand.TheVariants.{Register, Number}
use Rattle.flat_code.specs.declared.instruction.FlatInstruction.{FlatInstruction}
use Rattle.flat_code.specs.declared.instruction.FlatInstruction.TheVariants.{Constant, Operate, Branch}
use Rattle.flat_code.specs.declared.function.FlatProgram.{FlatProgram}
use Rattle.flat_code.specs.declared.registers.Entry.{Entry}
use Rattle.flat_code.specs.Routines.Routine.{unless_code}
use Rattle.flat_code.specs.Routines.Metadata.{entry_registers}
use Rattle.shadow_space.specs.Direct.{direct_read, direct_write, load_entry, store_entry}
use Rattle.shadow_space.specs.TwoLevel.Code.{look_up, take_table, two_level_read_behind, two_level_write_behind}
use Rattle.reg_plan.specs.Effects.{made_by, is_among, one}
use Rattle.image_laws.specs.Plans.Assignment.{Registers, IsOneOf, Assigns, Names}
use Rattle.image_laws.specs.Plans.EntryLists.{IsNamed, MakesLast, AssignEntries}
use Rattle.image_laws.proofs.Plans.Flow.{With, none_has, one_is}
use Rattle.image_laws.proofs.Assignment.Flows.{Flows, LastIn, followed, wider, last_ends, flow_assigns, flow_names}
use Rattle.image_laws.proofs.Assignment.Straight.{AreIn, straight}
use Rattle.image_laws.proofs.Assignment.Choices.{unless}
use Rattle.image_laws.proofs.Assignment.Temporaries.{all_one_of}
use Rattle.image_laws.proofs.Assignment.Jumps.{Items, branching}

module _ (p : FlatProgram) (u : ℕ) (at : ℕ) (e : Entry) (t : ℕ) where
  abbrev P : Registers
  P = IsNamed at e t

  -- what is read and written of memory
  abbrev address : Registers
  address = IsOneOf (at ∷ [])

  abbrev both : Registers
  both = IsOneOf (at ∷ entry_registers e)

  both_named : (y : ℕ) → both y → P y
  both_named y h = record { is = inl h }

  address_named : (y : ℕ) → address y → P y
  address_named y (inl s) = record { is = inl (inl s) }
  address_named y (inr h) = absurd h

  own : (y : ℕ) → t ≤ y → y < t + 5 → P y
  own y le lt = record { is = inr (le, lt) }

  named_entry : AreIn (entry_registers e) P
  named_entry = all_one_of (entry_registers e) P (λ y h. record { is = inl (inr h) })

  -- code that makes some registers, given others, and what it makes last is of these
  abbrev Assigning : (given : Registers) → List FlatInstruction → (made : List ℕ) → Type 0
  Assigning G is M = Assigns p u G is 0 M × Names p u is P × MakesLast p is M

  assigning : (G : Registers) (is : List FlatInstruction) (M : List ℕ) → Flows p u P G is 0 M
      → LastIn p (IsOneOf M) is → Assigning G is M
  assigning G is M f last =
      let ends = last_ends p (IsOneOf M) is last in (
        flow_assigns p u P G is 0 M f (record { ends = λ pc q y i there to always le. inr (ends.ends pc q y i there to always le) }),
        flow_names p u P G is 0 M f,
        ends.ends,
      )

  -- ---- the entry at an address in a register

  loaded : (G : Registers) → ((y : ℕ) → G y → P y) → (r : ℕ) → G r
      → Flows p u P G (load_entry r e) 0 (entry_registers e)
  loaded G low r g = by named_entry
    where
      by : AreIn (entry_registers e) P → Flows p u P G (load_entry r e) 0 (entry_registers e)
      by (p1, (p2, (p3, (p4, _)))) =
          straight p u P 0 G (load_entry r e)
          (g, p1, tt, (inl g, p2, tt, (inl (inl g), p3, tt, (inl (inl (inl g)), p4, tt, tt)))) low (entry_registers e)
          (inl (inl (inl (inr refl))), (inl (inl (inr refl)), (inl (inr refl), (inr refl, tt))))

  last_loaded : (r : ℕ) → LastIn p (IsOneOf (entry_registers e)) (load_entry r e)
  last_loaded r =
      inr (λ y m. subst (IsOneOf (entry_registers e)) (sym (one_is e.lock y m)) (inr (inr (inr (inl refl)))))

  stored : (G : Registers) → ((y : ℕ) → G y → P y) → (r : ℕ) → G r → AreIn (entry_registers e) G
      → Flows p u P G (store_entry r e) 0 []
  stored G low r g (e1, (e2, (e3, (e4, _)))) =
      straight p u P 0 G (store_entry r e)
      ((g, e1), tt, tt, ((g, e2), tt, tt, ((g, e3), tt, tt, ((g, e4), tt, tt, tt)))) low [] tt

  -- ---- the direct form

  abbrev place : FlatInstruction
  place = Operate Sll t at (Number 2)

  placed : (G : Registers) → ((y : ℕ) → G y → P y) → G at → Flows p u P G (place ∷ []) 0 (t ∷ [])
  placed G low g =
      straight p u P 0 G (place ∷ []) ((g, tt), own t (omega arith) (omega arith), tt, tt) low (t ∷ []) (inr refl, tt)

  pub reads_directly : (map : MapSizes) → Assigning address (direct_read at e t) (entry_registers e)
  reads_directly map =
      assigning address (direct_read at e t) (entry_registers e)
      (followed p u P address (place ∷ []) (load_entry t e) 0 (t ∷ []) (entry_registers e)
      (placed address address_named (inl refl))
      (λ S keeps made low. loaded S low t (made t (inl refl))))
      (last_loaded t)

  pub writes_directly : (map : MapSizes) → Assigning both (direct_write at e t) []
  writes_directly map =
      assigning both (direct_write at e t) []
      (followed p u P both (place ∷ []) (store_entry t e) 0 (t ∷ []) []
      (placed both both_named (inl refl))
      (λ S keeps made low.
      stored S low t (made t (inl refl)) (all_one_of (entry_registers e) S (λ y h. keeps y (inr h)))))
      (inl refl)

  -- ---- the form in two levels

  -- the cell of the page and the offset within a table
  abbrev f : ℕ
  f = t + 1

  abbrev o : ℕ
  o = t + 2

  looked_up : (G : Registers) → ((y : ℕ) → G y → P y) → G at
      → Flows p u P G (look_up at t f o) 0 (t ∷ f ∷ o ∷ [])
  looked_up G low g =
      let pt = own t (omega arith) (omega arith) in
      let pf = own f (omega arith) (omega arith) in
      let po = own o (omega arith) (omega arith) in
      straight p u P 0 G (look_up at t f o) (
        (g, tt),
        pf,
        tt,
        (
          (inl g, tt),
          po,
          tt,
          (
            (inr refl, tt),
            po,
            tt,
            (
              (inl (inl (inr refl)), tt),
              pf,
              tt,
              ((inr refl, tt), pf, tt, (inr refl, pt, tt, tt)),
            ),
          ),
        ),
      ) low (t ∷ f ∷ o ∷ []) (inr refl, (inl (inr refl), (inl (inl (inl (inr refl))), tt)))

  -- none, where the page has no table
  abbrev none : List FlatInstruction
  none = Constant e.base 0 ∷ Constant e.bound 0 ∷ Constant e.key 0 ∷ Constant e.lock 0 ∷ []

  none_made : (G : Registers) → ((y : ℕ) → G y → P y) → Flows p u P G none 0 (entry_registers e)
  none_made G low = by named_entry
    where
      by : AreIn (entry_registers e) P → Flows p u P G none 0 (entry_registers e)
      by (p1, (p2, (p3, (p4, _)))) =
          straight p u P 0 G none (tt, p1, tt, (tt, p2, tt, (tt, p3, tt, (tt, p4, tt, tt)))) low (entry_registers e)
          (inl (inl (inl (inr refl))), (inl (inl (inr refl)), (inl (inr refl), (inr refl, tt))))

  abbrev table_read : List FlatInstruction
  table_read = Operate Add t t (Register o) ∷ load_entry t e

  table_reads : (G : Registers) → ((y : ℕ) → G y → P y) → G t → G o → Flows p u P G table_read 0 []
  table_reads G low gt go =
      followed p u P G (Operate Add t t (Register o) ∷ []) (load_entry t e) 0 (t ∷ []) []
      (straight p u P 0 G (Operate Add t t (Register o) ∷ [])
      ((gt, go), own t (omega arith) (omega arith), tt, tt) low (t ∷ []) (inr refl, tt))
      (λ S keeps made low'.
      wider p u P S (load_entry t e) 0 (entry_registers e) [] (loaded S low' t (made t (inl refl))) (λ y m. absurd m))

  read_flows : (G : Registers) → ((y : ℕ) → G y → P y) → G t → G o
      → Flows p u P G (none ++ unless_code Beq t (Number 0) table_read) 0 (entry_registers e)
  read_flows G low gt go =
      followed p u P G none (unless_code Beq t (Number 0) table_read) 0 (entry_registers e) (entry_registers e)
      (none_made G low)
      (λ S keeps made low'.
      wider p u P S (unless_code Beq t (Number 0) table_read) 0 [] (entry_registers e)
      (unless p u P S Beq t (Number 0) table_read (table_reads S low' (keeps t gt) (keeps o go))
      (last_ends p S table_read (inr (λ y m. subst S (sym (one_is e.lock y m)) (made e.lock (inr (inr (inr (inl refl))))))))
      (keeps t gt) tt low')
      (λ y m. inl (made y m)))

  pub reads_tables : (map : MapSizes) → Assigning address (two_level_read_behind map at e t) (entry_registers e)
  reads_tables map =
      assigning address (two_level_read_behind map at e t) (entry_registers e)
      (followed p u P address (look_up at t f o) (none ++ unless_code Beq t (Number 0) table_read) 0 (t ∷ f ∷ o ∷ [])
      (entry_registers e) (looked_up address address_named (inl refl))
      (λ S keeps made low. read_flows S low (made t (inl refl)) (made o (inr (inr (inl refl))))))
      (last_loaded t)

  -- ---- an entry written, of a page that may have no table

  abbrev z : ℕ
  z = t + 3

  abbrev n : ℕ
  n = t + 4

  -- what is assigned besides before each instruction: the cell that counts tables, and what it will count next
  abbrev besides : List (List ℕ)
  besides = [] ∷ [] ∷ [] ∷ [] ∷ [] ∷ [] ∷ (z ∷ []) ∷ (z ∷ []) ∷ (n ∷ z ∷ []) ∷ (n ∷ z ∷ []) ∷ (n ∷ z ∷ []) ∷ []

  abbrev Before : Registers → ℕ → Registers
  Before G k y = G y ⊎ IsOneOf (get_or besides k []) y

  abbrev writing : MapSizes → List FlatInstruction
  writing map =
      Branch Bne t (Number 0) 10
      ∷ Branch Bne e.base (Number 0) 3
      ∷ Branch Bne e.bound (Number 0) 2
      ∷ Branch Bne e.key (Number 0) 1
      ∷ Branch Beq e.lock (Number 0) 11
      ∷ (take_table map t f z n ++ Operate Add t t (Register o) ∷ store_entry t e)

  same : (G : Registers) (k l : ℕ) → get_or besides k [] ≡ get_or besides l [] → (y : ℕ) → Before G k y
      → Before G l y
  same G k l s y h = subst (λ xs. G y ⊎ IsOneOf xs y) s h

  nothing_made : (R : Registers) (y : ℕ) → is_among (made_by p (Branch Bne t (Number 0) 0)) y ≡ true → R y
  nothing_made R y m = absurd (none_has y m)

  one_made : (R : Registers) (x : ℕ) → R x → (y : ℕ) → is_among (one x) y ≡ true → R y
  one_made R x r y m = subst R (sym (one_is x y m)) r

  more : (R : Registers) (x : ℕ) (xs : List ℕ) (y : ℕ) → R y ⊎ IsOneOf (x ∷ xs) y
      → With (λ w. R w ⊎ IsOneOf xs w) x y
  more R x xs y (inl r) = inl (inl r)
  more R x xs y (inr (inl s)) = inr s
  more R x xs y (inr (inr h)) = inl (inr h)

  only : (R : Registers) (xs : List ℕ) (y : ℕ) → R y ⊎ ⊥ → R y ⊎ IsOneOf xs y
  only R xs y (inl r) = inl r
  only R xs y (inr h) = absurd h

  written : (G : Registers) (map : MapSizes) → ((y : ℕ) → G y → P y) → G t → G f → G o → AreIn (entry_registers e) G
      → Items p u P (Before G) 16 0 (writing map)
  written G map low gt gf go (e1, (e2, (e3, (e4, _)))) =
      let pt = own t (omega arith) (omega arith) in
      let pz = own z (omega arith) (omega arith) in
      let pn = own n (omega arith) (omega arith) in
      let same_z : Before G 7 z = inr (inl refl) in (
        ((inl gt, tt), tt, (λ y a. a), nothing_made (Before G 1), (omega arith, (λ y a. a))),
        (
          ((inl e1, tt), tt, (λ y a. a), nothing_made (Before G 2), (omega arith, (λ y a. a))),
          (
            ((inl e2, tt), tt, (λ y a. a), nothing_made (Before G 3), (omega arith, (λ y a. a))),
            (
              ((inl e3, tt), tt, (λ y a. a), nothing_made (Before G 4), (omega arith, (λ y a. a))),
              (
                ((inl e4, tt), tt, (λ y a. a), nothing_made (Before G 5), (omega arith, (λ y a. a))),
                (
                  (tt, pz, more G z [], one_made (Before G 6) z (inr (inl refl)), tt),
                  (
                    (inr (inl refl), pt, (λ y a. inl a), one_made (Before G 7) t (inl gt), tt),
                    (
                      ((inl gt, tt), pn, more G n (z ∷ []), one_made (Before G 8) n (inr (inl refl)), tt),
                      (
                        ((inr (inr (inl refl)), inr (inl refl)), tt, (λ y a. a), nothing_made (Before G 9), tt),
                        (
                          ((inl gt, tt), pt, (λ y a. inl a), one_made (Before G 10) t (inl gt), tt),
                          (
                            ((inl gf, inl gt), tt, only G (n ∷ z ∷ []), nothing_made (Before G 11), tt),
                            (
                              ((inl gt, inl go), pt, (λ y a. inl a), one_made (Before G 12) t (inl gt), tt),
                              (
                                ((inl gt, inl e1), tt, (λ y a. a), nothing_made (Before G 13), tt),
                                (
                                  ((inl gt, inl e2), tt, (λ y a. a), nothing_made (Before G 14), tt),
                                  (
                                    ((inl gt, inl e3), tt, (λ y a. a), nothing_made (Before G 15), tt),
                                    (((inl gt, inl e4), tt, (λ y a. a), nothing_made (Before G 16), tt), tt),
                                  ),
                                ),
                              ),
                            ),
                          ),
                        ),
                      ),
                    ),
                  ),
                ),
              ),
            ),
          ),
        ),
      )

  -- behind them all nothing is assigned besides
  beyond : {A : Type 0} (xs : List A) (k : ℕ) (a : A) → length xs ≤ k → get_or xs k a ≡ a
  beyond [] k a le = refl
  beyond (x ∷ xs) zero a le = absurd (omega (arith, le))
  beyond (x ∷ xs) (suc k) a le = beyond xs k a (omega (arith, le))

  abbrev AreOwn : List (List ℕ) → Type 0
  AreOwn [] = Unit {0}
  AreOwn (xs ∷ xss) = AreIn xs P × AreOwn xss

  named_besides : (k y : ℕ) → IsOneOf (get_or besides k []) y → P y
  named_besides k y h = by besides all_own k h
    where
      pz : P z
      pz = own z (omega arith) (omega arith)

      pn : P n
      pn = own n (omega arith) (omega arith)

      all_own : AreOwn besides
      all_own =
          (tt, (tt, (tt, (tt, (tt, (tt, ((pz, tt), ((pz, tt), ((pn, (pz, tt)), ((pn, (pz, tt)), ((pn, (pz, tt)), tt)))))))))))

      one : (xs : List ℕ) → AreIn xs P → IsOneOf xs y → P y
      one [] a h = absurd h
      one (x ∷ xs) a (inl s) = subst P (sym s) a.0
      one (x ∷ xs) a (inr h) = one xs a.1 h

      by : (xss : List (List ℕ)) → AreOwn xss → (k : ℕ) → IsOneOf (get_or xss k []) y → P y
      by [] a k h = absurd h
      by (xs ∷ xss) a zero h = one xs a.0 h
      by (xs ∷ xss) a (suc k) h = by xss a.1 k h

  write_flows : (G : Registers) (map : MapSizes) → ((y : ℕ) → G y → P y) → G t → G f → G o
      → AreIn (entry_registers e) G → Flows p u P G (writing map) 0 []
  write_flows G map low gt gf go ge =
      branching p u P (Before G) 16 (writing map) (written G map low gt gf go ge) G 0 [] refl
      (λ y a. ⊎_elim (λ g. g) absurd a) (λ k y g. inl g) (λ k y a. ⊎_elim (low y) (named_besides k y) a)
      (λ q y le a. same G 16 q (sym (beyond besides q [] (omega (arith, le)))) y a) (λ y m. absurd m)

  pub writes_tables : (map : MapSizes) → Assigning both (two_level_write_behind map at e t) []
  writes_tables map =
      assigning both (two_level_write_behind map at e t) []
      (followed p u P both (look_up at t f o) (writing map) 0 (t ∷ f ∷ o ∷ []) []
      (looked_up both both_named (inl refl))
      (λ S keeps made low.
      write_flows S map low (made t (inl refl)) (made f (inr (inl refl))) (made o (inr (inr (inl refl))))
      (all_one_of (entry_registers e) S (λ y h. keeps y (inr h)))))
      (inl refl)

-- ---- the two forms

pub direct_assigns : AssignEntries (λ map. direct_read) (λ map. direct_write)
direct_assigns = record {
  reads = λ p u map at e t. reads_directly p u at e t map;
  writes = λ p u map at e t. writes_directly p u at e t map;
}

pub two_level_assigns : AssignEntries two_level_read_behind two_level_write_behind
two_level_assigns = record {
  reads = λ p u map at e t. reads_tables p u at e t map;
  writes = λ p u map at e t. writes_tables p u at e t map;
}
