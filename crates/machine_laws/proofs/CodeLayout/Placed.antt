-- Where the words of each function stand, its blocks, jumps and branches stand as flat code asks.
use Rattle.std.proofs.Common.{◌≡◌, ℕ, zero, suc, ◌+◌, ◌-◌, ◌*◌, ◌<◌, ◌≤◌, List, [], ◌∷◌, ◌++◌}
use Rattle.std.proofs.Common.{length, Some, refl, sym, ap, ◌∙◌, subst, arith, ⊎_elim}
use Rattle.std.proofs.Common.{length-append, append_assoc}
use Rattle.std.specs.Prelude.{nat_lt, if◌then◌else◌, slice_get}
use Rattle.std.proofs.lemmas.Bool.{lt-ltb, le-ltb, cases_lt}
use Rattle.addr_map.specs.Places.{MapSizes}
use Rattle.rv_isa.specs.declared.instruction.BranchOp.{BranchOp}
use Rattle.rv_isa.specs.declared.instruction.Instr.{Instr}
use Rattle.rv_isa.specs.Table.{word_of}
use Rattle.rv_asm.specs.declared.form.Form.{Form}
use Rattle.rv_asm.specs.declared.form.Form.TheVariants.{Short, Near, Far}
use Rattle.rv_asm.specs.declared.item.Item.{Item}
use Rattle.rv_asm.specs.declared.item.Item.TheVariants as item
use Rattle.rv_asm.specs.Forms.{branch_size}
use Rattle.rv_asm.specs.Words.{Assembled, HasWords, jump_instrs, branch_instrs}
use Rattle.machine_laws.specs.View.Views.{Layout, AllStand}
use Rattle.flat_code.specs.declared.instruction.RightOperand.{RightOperand}
use Rattle.flat_code.specs.declared.instruction.FlatInstruction.{FlatInstruction}
use Rattle.flat_code.specs.declared.instruction.FlatInstruction.TheVariants as flat
use Rattle.flat_code.specs.declared.function.FlatFunction.{FlatFunction}
use Rattle.flat_code.specs.declared.function.FlatProgram.{FlatProgram}
use Rattle.flat_code.specs.Calls.{function_in}
use Rattle.flat_code.specs.Meaning.{instruction_at, body_of, parameters_of}
use Rattle.reg_plan.specs.declared.plan.FunctionPlan.{FunctionPlan}
use Rattle.machine_laws.specs.Blocks.Blocks.{used, used_right}
use Rattle.machine_laws.specs.Calls.Calls.{Keeping, entry_block}
use Rattle.machine_laws.specs.Following.Code.{keeping, block, GoesOn, JumpStands, BranchStands}
use Rattle.machine_laws.proofs.Following.Sound.{get_below, get_some}
use Rattle.machine_laws.specs.Layout.Lists.{plain, label_for, tail_of, items_at, items_from, index_from, items_of}
use Rattle.machine_laws.specs.Layout.Lists.{index_of}
use Rattle.machine_laws.specs.Layout.Lists.{ArePlaced}
use Rattle.machine_laws.proofs.CodeLayout.Table.{AllOfTable, block_fits, keeping_fits, used_field, used_right_field}

-- ---- lists

get_behind : {A : Type 0} (xs ys : List A) (k : ℕ) → slice_get (xs ++ ys) (length xs + k) ≡ slice_get ys k
get_behind [] ys k = let e : 0 + k ≡ k = omega arith in ap (slice_get ys) e
get_behind (x ∷ xs) ys k = let e : suc (length xs) + k ≡ suc (length xs + k) = omega arith in
    ap (slice_get (x ∷ (xs ++ ys))) e ∙ get_behind xs ys k

get_past : {A : Type 0} (xs ys : List A) (y : A) → slice_get (xs ++ y ∷ ys) (length xs) ≡ Some y
get_past [] ys y = refl
get_past (x ∷ xs) ys y = get_past xs ys y

plain_length : (is : List Instr) → length (plain is) ≡ length is
plain_length [] = refl
plain_length (i ∷ is) = ap suc (plain_length is)

-- ---- the items of a function

module _ (m : MapSizes) (p : FlatProgram) (plans : List FunctionPlan) (f n : ℕ) where
  -- those of one instruction, and what stands before and behind them
  record IsSplit (items : List Item) (q : ℕ) (i : FlatInstruction) (index next : ℕ) : Type 0 where
    pre : List Item
    rest : List Item
    is : items ≡ pre ++ (items_at m p plans f n q i ++ rest)
    index_is : length pre ≡ index
    next_is : next ≡ index + length (items_at m p plans f n q i)

  split : (pc q : ℕ) (body : List FlatInstruction) (j : ℕ) (i : FlatInstruction) → slice_get body j ≡ Some i
      → q ≡ pc + j
      → IsSplit (items_from m p plans f n pc body) q i (index_from m p plans f n pc body j)
      (index_from m p plans f n pc body (suc j))
  split pc q [] j i at e = cc
  split pc q (i' ∷ is) zero i at e =
      let same : i' ≡ i = cc in
      let q_is : pc ≡ q = omega arith in
      let here : items_at m p plans f n pc i' ≡ items_at m p plans f n q i =
      ap (λ z. items_at m p plans f n z i') q_is ∙ ap (λ z. items_at m p plans f n q z) same in
      let none : index_from m p plans f n (suc pc) is 0 ≡ 0 = index_zero (suc pc) is in
      record {
        pre = [];
        rest = items_from m p plans f n (suc pc) is;
        is = ap (λ z. z ++ items_from m p plans f n (suc pc) is) here;
        index_is = refl;
        next_is = ap (λ z. length z + index_from m p plans f n (suc pc) is 0) here ∙ omega arith;
      }
    where
      index_zero : (a : ℕ) (b : List FlatInstruction) → index_from m p plans f n a b 0 ≡ 0
      index_zero a [] = refl
      index_zero a (x ∷ xs) = refl
  split pc q (i' ∷ is) (suc j) i at e =
      let s = split (suc pc) q is j i at (omega arith) in
      let here = items_at m p plans f n pc i' in
      let len = length-append here s.pre in
      let index = s.index_is in
      let next = s.next_is in
      record {
        pre = here ++ s.pre;
        rest = s.rest;
        is = ap (λ z. here ++ z) s.is ∙ sym (append_assoc here s.pre (items_at m p plans f n q i ++ s.rest));
        index_is = omega arith;
        next_is = omega arith;
      }

  -- the label of a place
  labelled : (pc : ℕ) (body : List FlatInstruction) (j : ℕ)
      → slice_get (items_from m p plans f n pc body) (index_from m p plans f n pc body j)
      ≡ Some (item.Label (if nat_lt j (length body) then pc + j else n))
  labelled pc [] j = rw (le-ltb j 0 (omega arith)) refl
  labelled pc (i ∷ is) zero = let e : pc + 0 ≡ pc = omega arith in
      rw (lt-ltb 0 (suc (length is)) (omega arith)) (ap (λ z. Some (item.Label z)) (sym e))
  labelled pc (i ∷ is) (suc j) =
      get_behind (items_at m p plans f n pc i) (items_from m p plans f n (suc pc) is)
      (index_from m p plans f n (suc pc) is j) ∙ labelled (suc pc) is j ∙ ⊎_elim
      (λ lt. rw (lt-ltb j (length is) lt, lt-ltb (suc j) (suc (length is)) (omega arith))
      (let e : suc pc + j ≡ pc + suc j = omega arith in ap (λ z. Some (item.Label z)) e))
      (λ le. rw (le-ltb j (length is) le, le-ltb (suc j) (suc (length is)) (omega arith)) refl)
      (cases_lt j (length is))

-- ---- words of an assembled list

-- instructions, one behind the other
pub record StandIn (items : List Item) (ws : List ℕ) (asm : Assembled items ws) (index : ℕ) (is : List Instr) : Type
    0 where
  pub words : HasWords ws (asm.place index) is
  pub next : asm.place (index + length is) ≡ asm.place index + length is

stand_in : (items : List Item) (ws : List ℕ) (asm : Assembled items ws) (is : List Instr) (pre rest : List Item)
    → items ≡ pre ++ (plain is ++ rest) → StandIn items ws asm (length pre) is
stand_in items ws asm [] pre rest e = record {
  words = tt;
  next = (let z : length pre + 0 ≡ length pre = omega arith in ap asm.place z ∙ omega arith);
}
stand_in items ws asm (i ∷ is) pre rest e =
    let here : slice_get items (length pre) ≡ Some (item.Instr i) =
    ap (λ l. slice_get l (length pre)) e ∙ get_past pre (plain is ++ rest) (item.Instr i) in
    let one = asm.words (length pre) 0 (item.Instr i) here tt in
    let size = asm.next (length pre) (item.Instr i) here in
    let len : length (pre ++ item.Instr i ∷ []) ≡ suc (length pre) =
    length-append pre (item.Instr i ∷ []) ∙ omega arith in
    let more = stand_in items ws asm is (pre ++ item.Instr i ∷ []) rest
    (e ∙ sym (append_assoc pre (item.Instr i ∷ []) (plain is ++ rest))) in
    let place : asm.place (length (pre ++ item.Instr i ∷ [])) ≡ asm.place (length pre) + 1 = ap asm.place len ∙ size in
    let index : length (pre ++ item.Instr i ∷ []) + length is ≡ length pre + suc (length is) = omega arith in
    record {
      words = (one.0, subst (λ q. HasWords ws q is) place more.words);
      next = ap asm.place (sym index) ∙ more.next ∙ ap (λ q. q + length is) place ∙ omega arith;
    }

-- no place lies behind the words
pub place_within : (items : List Item) (ws : List ℕ) (asm : Assembled items ws) (d k : ℕ) → k + d ≡ length items
    → asm.place k ≤ length ws
place_within items ws asm zero k e = let same : k ≡ length items = omega arith in
    let last : asm.place k ≡ length ws = ap asm.place same ∙ asm.last in omega arith
place_within items ws asm (suc d) k e =
    let i = get_some items k (omega arith) in
    let next = asm.next k i.0 i.1 in
    let more = place_within items ws asm d (suc k) (omega arith) in
    omega arith

-- an instruction that goes on has nothing behind its block
pub tail_none : (k : Keeping) (n pc : ℕ) (i : FlatInstruction) → GoesOn i → tail_of k n pc i ≡ []
tail_none k n pc (flat.Constant x v) h = refl
tail_none k n pc (flat.Move x y) h = refl
tail_none k n pc (flat.Operate op x y z) h = refl
tail_none k n pc (flat.Operate32 op x y z) h = refl
tail_none k n pc (flat.Load op x y o) h = refl
tail_none k n pc (flat.Store op y o x) h = refl
tail_none k n pc flat.Turn h = refl
tail_none k n pc (flat.Call to first x) h = refl
tail_none k n pc (flat.CallAddress y first c x r) h = refl
tail_none k n pc (flat.Return y) h = refl
tail_none k n pc (flat.Get x) h = refl
tail_none k n pc (flat.Put x) h = refl
tail_none k n pc (flat.Exit x) h = refl
tail_none k n pc (flat.End e) h = refl
tail_none k n pc (flat.Charged x) h = refl
tail_none k n pc (flat.Branch op y z past) h = absurd h
tail_none k n pc (flat.JumpForward zero) h = refl
tail_none k n pc (flat.JumpForward (suc past)) h = absurd h
tail_none k n pc (flat.JumpBack back) h = absurd h

jumps_fit : (form : Form) (p t : ℕ) → AllOfTable (jump_instrs form 0 p t)
jumps_fit Short p t = ((omega arith, omega arith, omega arith), tt)
jumps_fit Near p t = ((omega arith, omega arith, omega arith), tt)
jumps_fit Far p t = ((omega arith, omega arith), ((omega arith, omega arith, omega arith), tt))

-- the instructions of a branch fit their fields
pub branches_fit : (form : Form) (op : BranchOp) (a b p t : ℕ) → a < 32 → b < 32
    → AllOfTable (branch_instrs form op a b p t)
branches_fit Short op a b p t ha hb = ((omega arith, omega arith, omega arith, omega arith), tt)
branches_fit Near op a b p t ha hb = (
  (omega arith, omega arith, omega arith, omega arith),
  ((omega arith, omega arith, omega arith), tt),
)
branches_fit Far op a b p t ha hb = (
  (omega arith, omega arith, omega arith, omega arith),
  ((omega arith, omega arith), ((omega arith, omega arith, omega arith), tt)),
)

module _ (m : MapSizes) (p : FlatProgram) (plans : List FunctionPlan) (l : Layout) (begin : ℕ → ℕ)
    (words : ℕ → List ℕ) (place : (function item : ℕ) → ℕ) (ok : ArePlaced m p plans l begin words place) where
  -- words that stand, with instructions that fit their fields
  pub all_stand : (f : ℕ) (g : FlatFunction) (there : function_in p f ≡ Some g) (is : List Instr) (q : ℕ)
      → HasWords (words f) q is → AllOfTable is → AllStand l (begin f + 4 * q) is
  all_stand f g there [] q h t = tt
  all_stand f g there (i ∷ is) q h t =
      let placed = ok.placed f g there in
      let inside = get_below (words f) q (word_of i) h.0 in
      let end = placed.end in
      let next : begin f + 4 * (q + 1) ≡ begin f + 4 * q + 4 = omega arith in (
        record {
          of_table = t.0;
          small = omega arith;
          fetched = placed.fetched q (word_of i) h.0;
        },
        subst (λ z. AllStand l z is) next (all_stand f g there is (q + 1) h.1 t.1),
      )

  -- one function
  module _ (f : ℕ) (g : FlatFunction) (there : function_in p f ≡ Some g)
      (asm : Assembled (items_of m p plans f) (words f)) where
    -- the items of an instruction
    whole : (pc : ℕ) (i : FlatInstruction) → instruction_at p f pc ≡ Some i
        → IsSplit m p plans f (length (body_of (function_in p f))) (items_of m p plans f) pc i
        (index_of m p plans f pc) (index_of m p plans f (suc pc))
    whole pc i at =
        let n = length (body_of (function_in p f)) in
        let e = entry_block (keeping p plans f) (parameters_of (function_in p f)) in
        let s = split m p plans f n 0 pc (body_of (function_in p f)) pc i at (omega arith) in
        let len = length-append (plain e) s.pre in
        let plain_len = plain_length e in
        let index = s.index_is in
        let next = s.next_is in
        record {
          pre = plain e ++ s.pre;
          rest = s.rest;
          is = ap (λ z. plain e ++ z) s.is ∙ sym (append_assoc (plain e) s.pre (items_at m p plans f n pc i ++ s.rest));
          index_is = omega arith;
          next_is = omega arith;
        }

    -- the label of a place
    label : (pc : ℕ) → slice_get (items_of m p plans f) (index_of m p plans f pc)
        ≡ Some (item.Label (label_for (length (body_of (function_in p f))) pc))
    label pc =
        let n = length (body_of (function_in p f)) in
        let e = entry_block (keeping p plans f) (parameters_of (function_in p f)) in
        let len = plain_length e in
        let at : length e + index_from m p plans f n 0 (body_of (function_in p f)) pc
        ≡ length (plain e) + index_from m p plans f n 0 (body_of (function_in p f)) pc = omega arith in
        let zero_plus : 0 + pc ≡ pc = omega arith in
        ap (slice_get (items_of m p plans f)) at
        ∙ get_behind (plain e) (items_from m p plans f n 0 (body_of (function_in p f)))
        (index_from m p plans f n 0 (body_of (function_in p f)) pc)
        ∙ labelled m p plans f n 0 (body_of (function_in p f)) pc
        ∙ ap (λ z. Some (item.Label (if nat_lt pc n then z else n))) zero_plus

    -- where the block of an instruction stands, and what is behind it
    pub record Block (pc : ℕ) (i : FlatInstruction) : Type 0 where
      pub stands : AllStand l (begin f + 4 * asm.place (index_of m p plans f pc)) (block m p plans f pc i)
      pub tail_index : ℕ
      pub tail_place : asm.place tail_index
          ≡ asm.place (index_of m p plans f pc) + length (block m p plans f pc i)
      pub tail_is : (t : Item) → tail_of (keeping p plans f) (length (body_of (function_in p f))) pc i ≡ t ∷ []
          → slice_get (items_of m p plans f) tail_index ≡ Some t
      pub next_is : index_of m p plans f (suc pc)
          ≡ tail_index + length (tail_of (keeping p plans f) (length (body_of (function_in p f))) pc i)
      pub inside : tail_index ≤ length (items_of m p plans f)

    pub block_at : (pc : ℕ) (i : FlatInstruction) → instruction_at p f pc ≡ Some i → Block pc i
    block_at pc i at =
        let n = length (body_of (function_in p f)) in
        let w = whole pc i at in
        let b = block m p plans f pc i in
        let tail = tail_of (keeping p plans f) n pc i in
        let pre = w.pre in
        let pre1 = pre ++ item.Label pc ∷ [] in
        let items = items_of m p plans f in
        let is1 : items ≡ pre1 ++ (plain b ++ (tail ++ w.rest)) =
        w.is ∙ ap (λ z. pre ++ item.Label pc ∷ z) (append_assoc (plain b) tail w.rest)
        ∙ sym (append_assoc pre (item.Label pc ∷ []) (plain b ++ (tail ++ w.rest))) in
        let s = stand_in items (words f) asm b pre1 (tail ++ w.rest) is1 in
        let len1 : length pre1 ≡ suc (length pre) = length-append pre (item.Label pc ∷ []) ∙ omega arith in
        let index = w.index_is in
        let here : slice_get items (length pre) ≡ Some (item.Label pc) =
        ap (λ z. slice_get z (length pre)) w.is
        ∙ get_past pre ((plain b ++ tail) ++ w.rest) (item.Label pc) in
        let place1 : asm.place (length pre1) ≡ asm.place (index_of m p plans f pc) =
        ap asm.place len1 ∙ asm.next (length pre) (item.Label pc) here ∙ omega arith
        ∙ ap asm.place index in
        let pre2 = pre1 ++ plain b in
        let is2 : items ≡ pre2 ++ (tail ++ w.rest) = is1 ∙ sym (append_assoc pre1 (plain b) (tail ++ w.rest)) in
        let len2 = length-append pre1 (plain b) in
        let plain_len = plain_length b in
        let tail_at : length pre2 ≡ length pre1 + length b = omega arith in
        let len_items = length-append (plain b) tail in
        let all = length-append pre2 (tail ++ w.rest) in
        let next = w.next_is in
        record {
          stands = subst (λ z. AllStand l (begin f + 4 * z) b) place1
              (all_stand f g there b (asm.place (length pre1)) s.words (block_fits m p plans f pc i));
          tail_index = length pre2;
          tail_place = ap asm.place tail_at ∙ s.next ∙ ap (λ z. z + length b) place1;
          tail_is = λ t e. ap (λ z. slice_get z (length pre2)) is2
              ∙ ap (λ z. slice_get (pre2 ++ (z ++ w.rest)) (length pre2)) e ∙ get_past pre2 w.rest t;
          next_is = omega arith;
          inside = (let total : length items ≡ length (pre2 ++ (tail ++ w.rest)) = ap length is2 in omega arith);
        }

    -- a jump behind no block
    pub jump_stands : (pc q : ℕ) (i : FlatInstruction) → instruction_at p f pc ≡ Some i
        → tail_of (keeping p plans f) (length (body_of (function_in p f))) pc i
        ≡ item.Jump (label_for (length (body_of (function_in p f))) q) ∷ []
        → length (block m p plans f pc i) ≡ 0
        → JumpStands l (begin f + 4 * asm.place (index_of m p plans f pc))
        (begin f + 4 * asm.place (index_of m p plans f q))
    jump_stands pc q i at tail none =
        let n = length (body_of (function_in p f)) in
        let items = items_of m p plans f in
        let b = block_at pc i at in
        let k = b.tail_index in
        let d = index_of m p plans f q in
        let here = b.tail_is (item.Jump (label_for n q)) tail in
        let met = label q in
        let placed = ok.placed f g there in
        let end = placed.end in
        let k_place = place_within items (words f) asm (length items - k) k (let r = b.inside in omega arith) in
        let d_in = get_below items d (item.Label (label_for n q)) met in
        let d_place = place_within items (words f) asm (length items - d) d (omega arith) in
        let same : asm.place k ≡ asm.place (index_of m p plans f pc) = let e = b.tail_place in omega arith in
        record {
          form = asm.form k;
          begin = begin f;
          p = asm.place k;
          t = asm.place d;
          from_is = ap (λ z. begin f + 4 * z) (sym same);
          to_is = refl;
          begin_low = omega arith;
          begin_whole = placed.whole;
          p_low = omega arith;
          t_low = omega arith;
          reach = asm.reach k d (label_for n q) (item.Jump (label_for n q)) here refl met;
          stands = subst (λ z. AllStand l (begin f + 4 * z) (jump_instrs (asm.form k) 0 (asm.place k) (asm.place
              d))) same
              (all_stand f g there (jump_instrs (asm.form k) 0 (asm.place k) (asm.place d)) (asm.place k)
              (asm.words k d (item.Jump (label_for n q)) here met) (jumps_fit (asm.form k) (asm.place k) (asm.place
              d)));
        }

    pub branch_stands : (pc : ℕ) (op : BranchOp) (y : ℕ) (z : RightOperand) (past : ℕ)
        → instruction_at p f pc ≡ Some (flat.Branch op y z past)
        → BranchStands l op (used ((keeping p plans f).place y) 5) (used_right (keeping p plans f).place z)
        (begin f + 4 * asm.place (index_of m p plans f pc)
        + 4 * length (block m p plans f pc (flat.Branch op y z past)))
        (begin f + 4 * asm.place (index_of m p plans f (suc pc)))
        (begin f + 4 * asm.place (index_of m p plans f (pc + 1 + past)))
    branch_stands pc op y z past at =
        let n = length (body_of (function_in p f)) in
        let kp = keeping p plans f in
        let items = items_of m p plans f in
        let i = flat.Branch op y z past in
        let q = pc + 1 + past in
        let b = block_at pc i at in
        let k = b.tail_index in
        let d = index_of m p plans f q in
        let t = item.Branch op (used (kp.place y) 5) (used_right kp.place z) (label_for n q) in
        let here = b.tail_is t refl in
        let met = label q in
        let placed = ok.placed f g there in
        let end = placed.end in
        let k_place = place_within items (words f) asm (length items - k) k (let r = b.inside in omega arith) in
        let d_in = get_below items d (item.Label (label_for n q)) met in
        let d_place = place_within items (words f) asm (length items - d) d (omega arith) in
        let tail_place = b.tail_place in
        let from : begin f + 4 * asm.place (index_of m p plans f pc) + 4 * length (block m p plans f pc i)
        ≡ begin f + 4 * asm.place k = omega arith in
        let fields = keeping_fits p plans f in
        let is = branch_instrs (asm.form k) op (used (kp.place y) 5) (used_right kp.place z) (asm.place k)
        (asm.place d) in
        let next_index : index_of m p plans f (suc pc) ≡ suc k = b.next_is ∙ omega arith in
        let next_place : asm.place (index_of m p plans f (suc pc)) ≡ asm.place k + branch_size (asm.form k) =
        ap asm.place next_index ∙ asm.next k t here in
        record {
          form = asm.form k;
          begin = begin f;
          p = asm.place k;
          t = asm.place d;
          from_is = from;
          to_is = refl;
          next_is = ap (λ w. begin f + 4 * w) next_place ∙ omega (arith, from);
          begin_low = omega arith;
          begin_whole = placed.whole;
          p_low = omega arith;
          t_low = omega arith;
          reach = asm.reach k d (label_for n q) t here refl met;
          stands = subst (λ w. AllStand l w is) (sym from)
              (all_stand f g there is (asm.place k) (asm.words k d t here met)
              (branches_fit (asm.form k) op (used (kp.place y) 5) (used_right kp.place z) (asm.place k) (asm.place d)
              (used_field kp y fields) (used_right_field kp z fields)));
        }

    -- the entry block
    pub entry_stands : StandIn (items_of m p plans f) (words f) asm 0
        (entry_block (keeping p plans f) (parameters_of (function_in p f)))
    entry_stands =
        let n = length (body_of (function_in p f)) in
        let e = entry_block (keeping p plans f) (parameters_of (function_in p f)) in
        stand_in (items_of m p plans f) (words f) asm e [] (items_from m p plans f n 0 (body_of (function_in p f))) refl

    pub first_index : index_of m p plans f 0
        ≡ length (entry_block (keeping p plans f) (parameters_of (function_in p f)))
    first_index = by (body_of (function_in p f))
      where
        by : (body : List FlatInstruction)
            → length (entry_block (keeping p plans f) (parameters_of (function_in p f)))
            + index_from m p plans f (length (body_of (function_in p f))) 0 body 0
            ≡ length (entry_block (keeping p plans f) (parameters_of (function_in p f)))
        by [] = omega arith
        by (i ∷ is) = omega arith
