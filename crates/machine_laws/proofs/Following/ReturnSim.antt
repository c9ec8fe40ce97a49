-- A return: the machine comes back to where the caller goes on.
use Rattle.std.proofs.Common.{◌≡◌, ◌≢◌, ℕ, ◌+◌, ◌-◌, ◌*◌, ◌^◌, ◌<◌, ◌≤◌, inr, refl, sym}
use Rattle.std.proofs.Common.{ap, ◌∙◌, subst, arith, Bool, true, List, ◌++◌, length, Option, Some}
use Rattle.std.proofs.Common.{None, length-append}
use Rattle.addr_map.specs.Places.{MapSizes, spaces_begin}
use Rattle.flat_code.specs.declared.instruction.FlatInstruction.{FlatInstruction}
use Rattle.flat_code.specs.declared.instruction.FlatInstruction.TheVariants as flat
use Rattle.flat_code.specs.declared.function.FlatProgram.{FlatProgram}
use Rattle.flat_code.specs.Memory.{load, KeepsBut}
use Rattle.flat_code.proofs.Stored as stored
use Rattle.reg_plan.specs.declared.plan.FunctionPlan.{FunctionPlan}
use Rattle.reg_plan.specs.Effects.{many, made_by}
use Rattle.machine_laws.specs.View.Views.{View, AllGoOn, performs}
use Rattle.machine_laws.specs.Blocks.Blocks.{load_at}
use Rattle.machine_laws.specs.Blocks.Effects.{IsIn, kept, HasFrame}
use Rattle.machine_laws.proofs.Blocks.Pieces.{performs_append, go_append, load_gives, of_frame, low_apart}
use Rattle.machine_laws.specs.Calls.Calls.{Keeping, give, take, restore, retreat, return_block, back_block}
use Rattle.machine_laws.specs.Calls.Effects.{AreKept, HasArguments}
use Rattle.machine_laws.proofs.Calls.Words.{moved_frame, gives_all, takes_all, restores}
use Rattle.machine_laws.specs.Following.Code.{keeping, block, CallShape, shape_of, wanted, call_part, back_part}
use Rattle.machine_laws.specs.Following.Code.{GoesOn}
use Rattle.machine_laws.proofs.Following.Calling.{retreats}

-- an instruction that has a call's shape is a call
pub record IsCallOf (m : MapSizes) (p : FlatProgram) (plans : List FunctionPlan) (f pc : ℕ) (i : FlatInstruction)
    (shape : CallShape) : Type 0 where
  pub goes_on : GoesOn i
  pub block_is : block m p plans f pc i
      ≡ call_part (keeping p plans f) pc shape ++ back_part (keeping p plans f) pc shape
  pub makes : made_by p i ≡ many shape.into shape.results

pub call_of : (m : MapSizes) (p : FlatProgram) (plans : List FunctionPlan) (f pc : ℕ) (i : FlatInstruction)
    (shape : CallShape) → shape_of p (keeping p plans f) i ≡ Some shape → IsCallOf m p plans f pc i shape
unfolding block
call_of m p plans f pc (flat.Call g first x) shape e =
    let k = keeping p plans f in
    let same : unwrapped (shape_of p k (flat.Call g first x)) shape ≡ shape = ap (λ o. unwrapped o shape) e in
    subst (IsCallOf m p plans f pc (flat.Call g first x)) same
    (record { goes_on = tt; block_is = refl; makes = refl })
  where
    unwrapped : Option CallShape → CallShape → CallShape
    unwrapped None s = s
    unwrapped (Some q) s = q
call_of m p plans f pc (flat.CallAddress y first n x r) shape e =
    let k = keeping p plans f in
    let same : unwrapped (shape_of p k (flat.CallAddress y first n x r)) shape ≡ shape =
    ap (λ o. unwrapped o shape) e in
    subst (IsCallOf m p plans f pc (flat.CallAddress y first n x r)) same
    (record { goes_on = tt; block_is = refl; makes = refl })
  where
    unwrapped : Option CallShape → CallShape → CallShape
    unwrapped None s = s
    unwrapped (Some q) s = q
call_of m p plans f pc (flat.Constant x n) shape e = cc
call_of m p plans f pc (flat.Move x y) shape e = cc
call_of m p plans f pc (flat.Operate op x y z) shape e = cc
call_of m p plans f pc (flat.Operate32 op x y z) shape e = cc
call_of m p plans f pc (flat.Load op x y o) shape e = cc
call_of m p plans f pc (flat.Store op y o x) shape e = cc
call_of m p plans f pc (flat.Branch op y z past) shape e = cc
call_of m p plans f pc (flat.JumpForward past) shape e = cc
call_of m p plans f pc (flat.JumpBack back) shape e = cc
call_of m p plans f pc flat.Turn shape e = cc
call_of m p plans f pc (flat.Return y) shape e = cc
call_of m p plans f pc (flat.Get x) shape e = cc
call_of m p plans f pc (flat.Put x) shape e = cc
call_of m p plans f pc (flat.Exit x) shape e = cc
call_of m p plans f pc (flat.End q) shape e = cc
call_of m p plans f pc (flat.Charged x) shape e = cc

module _ (o s fp : ℕ) (k : Keeping) where
  -- the results stand in their words, and the return address in its register
  pub record Leaves (area from n ra : ℕ) (v : View) : Type 0 where
    pub go : AllGoOn o s (return_block k from n) v
    pub pc : (performs (return_block k from n) v).pc ≡ v.pc + 4 * length (return_block k from n)
    pub link : (performs (return_block k from n) v).registers 1 ≡ ra
    pub low : (r : ℕ) → r < 5 → r ≢ 1 → (performs (return_block k from n) v).registers r ≡ v.registers r
    pub set : (j : ℕ) → j < n
        → load 8 (performs (return_block k from n) v).memory (area + 8 * j) ≡ kept fp v (k.place (from + j))
    pub memory : KeepsBut area (8 * n) v.memory (performs (return_block k from n) v).memory
    pub accesses : (performs (return_block k from n) v).accesses ≡ v.accesses

  pub leaves : (area count from n ra : ℕ) (v : View) → n ≤ count → 8 ≤ k.room → HasArguments v area count fp
      → HasFrame s k.base fp k.room v → ((j : ℕ) → j < n → IsIn k.room (k.place (from + j)))
      → ((j : ℕ) → j < n → kept fp v (k.place (from + j)) < 2 ^ 64) → load 8 v.memory fp ≡ ra → k.base ≢ 1
      → Leaves area from n ra v
  leaves area count from n ra v le big ha f fits words at no_link =
      let is1 = give k from n in
      let g = gives_all o s fp k area count from n v le ha f fits words in
      let v1 = performs is1 v in
      let f1 : HasFrame s k.base fp k.room v1 = moved_frame s k.base fp k.room v v1 f
      (g.others k.base (low_apart k.base f.base_high)) in
      let is2 = load_at 1 k.base 0 in
      let fp0 : fp + 0 ≡ fp = omega arith in
      let t = load_gives o s 1 k.base fp 0 v1 (omega arith) no_link f1.is
      (of_frame o s k.base fp k.room 0 v1 f1 (omega arith)) in
      let a = performs_append is1 is2 v in
      let len = length-append is1 is2 in
      let same : load 8 v1.memory fp ≡ load 8 v.memory fp = stored.load_kept 8 v.memory v1.memory fp
      (λ j lt. g.memory (fp + j) (inr (omega (arith, ha.below)))) in
      record {
        go = go_append o s is1 is2 v g.go t.go;
        pc = ap (λ u. u.pc) a ∙ rw (t.pc, g.pc, len) (omega arith);
        link = ap (λ u. u.registers 1) a ∙ t.value ∙ ap (load 8 v1.memory) fp0 ∙ same ∙ at;
        low = λ r lt ne. ap (λ u. u.registers r) a ∙ t.others r ne ∙ g.others r (low_apart r lt);
        set = λ j lt. ap (λ u. load 8 u.memory (area + 8 * j)) a ∙ ap (λ q. load 8 q (area + 8 * j)) t.memory
            ∙ g.set j lt;
        memory = λ b out. ap (λ u. u.memory b) a ∙ ap (λ q. q b) t.memory ∙ g.memory b out;
        accesses = ap (λ u. u.accesses) a ∙ t.accesses ∙ g.accesses;
      }

  -- the caller's record is the one that runs, with what waited and the results in their places
  pub record Backs (wanted : ℕ → Bool) (area pc into n : ℕ) (v : View) : Type 0 where
    pub go : AllGoOn o s (back_block k wanted pc into n) v
    pub pc_is : (performs (back_block k wanted pc into n) v).pc ≡ v.pc + 4 * length (back_block k wanted pc into n)
    pub base : (performs (back_block k wanted pc into n) v).registers k.base ≡ fp
    pub low : (r : ℕ) → r < 5 → r ≢ k.base
        → (performs (back_block k wanted pc into n) v).registers r ≡ v.registers r
    pub set : (j : ℕ) → j < n → k.live pc (into + j) ≡ true
        → kept fp (performs (back_block k wanted pc into n) v) (k.place (into + j)) ≡ load 8 v.memory (area + 8 * j)
    pub back : (y : ℕ) → y < k.count → wanted y ≡ true
        → kept fp (performs (back_block k wanted pc into n) v) (k.place y) ≡ load 8 v.memory (fp + k.home y)
    pub memory : KeepsBut (fp + 8) (k.room - 8) v.memory (performs (back_block k wanted pc into n) v).memory
    pub accesses : (performs (back_block k wanted pc into n) v).accesses ≡ v.accesses

  pub backs : (wanted : ℕ → Bool) (area count pc into n : ℕ) (v : View) → n ≤ count → v.registers 0 ≡ 0
      → v.registers 3 ≡ area → spaces_begin ≤ area → area + 8 * count ≤ fp → k.base ≢ 3
      → v.registers k.base ≡ fp + k.room → 0 < k.base → k.base < 5 → spaces_begin ≤ fp
      → fp + k.room ≤ spaces_begin + s → spaces_begin + s < 2 ^ 31 - 2 ^ 11
      → AreKept k (k.live pc)
      → ((y : ℕ) → wanted y ≡ true
      → (k.live pc y ≡ true) × ((j : ℕ) → j < n → k.live pc (into + j) ≡ true → y ≢ into + j))
      → ((j : ℕ) → j < n → load 8 v.memory (area + 8 * j) < 2 ^ 64) → Backs wanted area pc into n v
  backs wanted area count pc into n v le nought three low_area below no_area at some small low high bound ks sub words =
      let is1 = retreat k in
      let r1 = retreats o s fp k v nought at some small (omega arith) in
      let v1 = performs is1 v in
      let f1 : HasFrame s k.base fp k.room v1 = record {
        is = r1.base;
        base_low = some;
        base_high = small;
        low = low;
        high = high;
        small = bound;
      } in
      let is2 = restore k wanted k.count in
      let r2 = restores o s fp k (k.live pc) wanted k.count v1 ks (λ y w. (sub y w).0) f1 in
      let v2 = performs is2 v1 in
      let f2 : HasFrame s k.base fp k.room v2 = moved_frame s k.base fp k.room v1 v2 f1 (r2.low k.base (omega arith)) in
      let ha2 : HasArguments v2 area count fp = record {
        is = r2.low 3 (omega arith) ∙ r1.others 3 (λ e. no_area (sym e)) (omega arith) ∙ three;
        low = low_area;
        below = below;
      } in
      let mem2 : v2.memory ≡ v.memory = r2.memory ∙ r1.memory in
      let is3 = take k pc into n in
      let t = takes_all o s fp k area count pc into n v2 le ha2 f2 (λ j lt live. ks.inside (into + j) live)
      (λ j q lj lq live_j live_q ne. ks.apart (into + j) (into + q) live_j live_q (omega (arith, ne)))
      (λ j lt. rw (ap (λ q. load 8 q (area + 8 * j)) mem2) (words j lt)) in
      let all = performs_append is1 (is2 ++ is3) v ∙ performs_append is2 is3 v1 in
      let len = length-append is1 (is2 ++ is3) in
      let len2 = length-append is2 is3 in
      record {
        go = go_append o s is1 (is2 ++ is3) v r1.go (go_append o s is2 is3 v1 r2.go t.go);
        pc_is = ap (λ u. u.pc) all ∙ rw (t.pc_is, r2.pc, r1.pc, len, len2) (omega arith);
        base = ap (λ u. u.registers k.base) all ∙ t.low k.base small ∙ f2.is;
        low = λ r lt ne. ap (λ u. u.registers r) all ∙ t.low r lt ∙ r2.low r (omega arith)
            ∙ r1.others r ne (omega arith);
        set = λ j lt live. ap (λ u. kept fp u (k.place (into + j))) all ∙ t.set j lt live
            ∙ ap (λ q. load 8 q (area + 8 * j)) mem2;
        back = λ y lt w. ap (λ u. kept fp u (k.place y)) all
            ∙ t.others (k.place y) (ks.inside y (sub y w).0)
            (λ j lj live. ks.apart y (into + j) (sub y w).0 live ((sub y w).1 j lj live))
            ∙ r2.set y lt w ∙ ap (λ q. load 8 q (fp + k.home y)) r1.memory;
        memory = λ b out. ap (λ u. u.memory b) all ∙ t.memory b out ∙ ap (λ q. q b) mem2;
        accesses = ap (λ u. u.accesses) all ∙ t.accesses ∙ r2.accesses ∙ r1.accesses;
      }
