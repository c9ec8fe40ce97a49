-- The homes of a block's objects are placed, each behind the one before.
use Rattle.std.proofs.Common.{◌≡◌, ◌⊎◌, inl, inr, ℕ, zero, suc, ◌+◌, ◌-◌, ◌*◌, ◌^◌, ◌<◌, ◌≤◌, Bool, true, false}
use Rattle.std.proofs.Common.{if◌then◌else◌, List, [], ◌∷◌, ◌++◌, length, refl, sym, ap, ◌∙◌, subst, arith}
use Rattle.std.proofs.lemmas.Bool.{lt-ltb}
use Rattle.words.specs.TwosComplement.{low_bits}
use Rattle.addr_map.specs.Places.{MapSizes}
use Rattle.obj_memory.specs.Heap.{rounded_up}
use Rattle.c_tree.specs.declared.program.Variable.{Variable}
use Rattle.c_tree.specs.Kinds.{size_of_kind}
use Rattle.rv_isa.specs.declared.instruction.RegOp.TheVariants.{Add}
use Rattle.rv_isa.specs.Results.{reg_result}
use Rattle.source_meaning.specs.Blocks.{objects_end}
use Rattle.tac_ir.specs.declared.function.CodeFunction.{CodeFunction}
use Rattle.flat_code.specs.declared.instruction.RightOperand.TheVariants.{Number}
use Rattle.flat_code.specs.declared.instruction.FlatInstruction.{FlatInstruction}
use Rattle.flat_code.specs.declared.instruction.FlatInstruction.TheVariants.{Move, Operate}
use Rattle.flat_code.specs.declared.function.FlatProgram.{FlatProgram}
use Rattle.flat_code.specs.Calls.{function_in}
use Rattle.flat_code.specs.Meaning.{body_of}
use Rattle.flat_code.specs.Memory.{put}
use Rattle.flat_code.specs.State as flat
use Rattle.lib_wrappers.proofs.AllocatingRoutines.SourceEntries.{grows, object_count}
use Rattle.flat_code.proofs.Stored.{put_other, put_same}
use Rattle.flat_code.specs.Routines.Routine.{HasAt}
use Rattle.flat_code.proofs.Routines.Steps.{has_back, has_front}
use Rattle.metadata_plan.specs.Operators.{OperatorCode}
use Rattle.metadata_plan.proofs.Flat.{at_place, Comes, move_comes, next_comes, operate_comes, then_comes, weaker}
use Rattle.metadata_relation.specs.Blocks.{is_short, number_code, number_operand, place_home, place_homes}
use Rattle.metadata_relation.specs.Registers.{before, first_free, home_entry, home_register, home_words}
use Rattle.metadata_relation.specs.Holding.{is_object_in}
use Rattle.metadata_plan.specs.Registers.{all_variables}
use Rattle.metadata_relation.proofs.Registers.{home_low}
use Rattle.metadata_relation.proofs.Comparing.{short_code, short_operand}
use Rattle.metadata_relation.proofs.StoredParts.{sum_is}

-- homes of objects are one behind the other
pub before_grows : (vs : List Variable) (x y : ℕ) → is_object_in vs x ≡ true → x < y
    → before home_words x vs + 5 ≤ before home_words y vs
before_grows [] x y e lt = absurd cc
before_grows (v ∷ vs) zero zero e lt = absurd (omega (arith, lt))
before_grows (v ∷ vs) zero (suc y) e lt =
    let five : home_words v ≡ 5 = ap (λ b. if b then 5 else 0) e in
    omega (arith, five)
before_grows (v ∷ vs) (suc x) zero e lt = absurd (omega (arith, lt))
before_grows (v ∷ vs) (suc x) (suc y) e lt =
    let more = before_grows vs x y e (omega (arith, lt)) in
    omega (arith, more)

module _ (m : MapSizes) (p : FlatProgram) (u : ℕ) (xs : List flat.Frame) (o : OperatorCode) (c : CodeFunction)
    (first key lock s : ℕ) where
  abbrev body : List FlatInstruction
  body = body_of (function_in p u)

  -- ---- one home

  abbrev four : (x offset size : ℕ) → List FlatInstruction
  four x offset size =
      Operate Add (home_register c x) first (Number offset)
      ∷ Operate Add (home_register c x + 1) (home_register c x) (Number size)
      ∷ Move (home_register c x + 2) key
      ∷ Move (home_register c x + 3) lock
      ∷ []

  home_list : (x offset size : ℕ) → is_short offset ≡ true → is_short size ≡ true
      → place_home o (home_entry c x) offset size first key lock s ≡ four x offset size
  home_list x offset size near small =
      let e = home_entry c x in
      ap (λ l. l ++ (Operate Add e.base first (number_operand offset s) ∷ (number_code o size s (s + 1)
      ++ (Operate Add e.bound e.base (number_operand size s) ∷ Move e.key key ∷ Move e.lock lock ∷ []))))
      (short_code o offset s (s + 1) near)
      ∙ ap (λ y. Operate Add e.base first y ∷ (number_code o size s (s + 1)
      ++ (Operate Add e.bound e.base (number_operand size s) ∷ Move e.key key ∷ Move e.lock lock ∷ [])))
      (short_operand offset s near)
      ∙ ap (λ l. Operate Add e.base first (Number offset) ∷ (l
      ++ (Operate Add e.bound e.base (number_operand size s) ∷ Move e.key key ∷ Move e.lock lock ∷ [])))
      (short_code o size s (s + 1) small)
      ∙ ap (λ y. Operate Add e.base first (Number offset) ∷ Operate Add e.bound e.base y ∷ Move e.key key
      ∷ Move e.lock lock ∷ []) (short_operand size s small)

  abbrev one_of : (values : flat.Values) (x offset : ℕ) → flat.Values
  one_of values x offset = put values (home_register c x) (values first + offset)

  abbrev two_of : (values : flat.Values) (x offset size : ℕ) → flat.Values
  two_of values x offset size = put (one_of values x offset) (home_register c x + 1) (values first + offset + size)

  abbrev three_of : (values : flat.Values) (x offset size : ℕ) → flat.Values
  three_of values x offset size = put (two_of values x offset size) (home_register c x + 2) (values key)

  abbrev placed : (values : flat.Values) (x offset size : ℕ) → flat.Values
  placed values x offset size = put (three_of values x offset size) (home_register c x + 3) (values lock)

  -- the registers from which homes are made are none of a home's
  pub record AreAbove (x : ℕ) : Type 0 where
    pub first_above : home_register c x + 4 ≤ first
    pub key_above : home_register c x + 4 ≤ key
    pub lock_above : home_register c x + 4 ≤ lock

  home_comes : (pc x offset size : ℕ) (v : flat.State) → HasAt body pc (four x offset size) → AreAbove x
      → v.values first + offset + size < 2 ^ 64
      → Comes m p u pc v xs (pc + 4) (record v { values = placed v.values x offset size }) 8
  home_comes pc x offset size v has above fits =
      let H = home_register c x in
      let f = above.first_above in
      let k = above.key_above in
      let l = above.lock_above in
      let a : flat.State = record v { values = one_of v.values x offset } in
      let b : flat.State = record v { values = two_of v.values x offset size } in
      let d : flat.State = record v { values = three_of v.values x offset size } in
      let e : flat.State = record v { values = placed v.values x offset size } in
      let one = subst (λ z. Comes m p u pc v xs (pc + 1) (record v { values = put v.values H z }) 2)
      (sum_is (v.values first) offset (omega arith)) (operate_comes m p u pc v xs Add H first (Number offset) has.0) in
      let two = next_comes m p u pc v xs (pc + 1) (pc + 1 + 1) a b 2 2 one
      (λ w. (let t = subst (λ z. Comes m p u (pc + 1) (record a { work = w }) xs (pc + 1 + 1)
      (record a { values = put a.values (H + 1) z; work = w }) 2)
      (ap (λ z. reg_result Add z (low_bits 64 size)) (put_same v.values H (v.values first + offset))
      ∙ sum_is (v.values first + offset) size (omega arith))
      (operate_comes m p u (pc + 1) (record a { work = w }) xs Add (H + 1) H (Number size) has.1.0) in
      record { steps = t.steps; work = t.work; few = t.few; comes = t.comes })) in
      let three = next_comes m p u pc v xs (pc + 1 + 1) (pc + 1 + 1 + 1) b d 4 2 two
      (λ w. (let t = subst (λ z. Comes m p u (pc + 1 + 1) (record b { work = w }) xs (pc + 1 + 1 + 1)
      (record b { values = put b.values (H + 2) z; work = w }) 2)
      (put_other a.values (H + 1) (v.values first + offset + size) key (λ q. omega arith)
      ∙ put_other v.values H (v.values first + offset) key (λ q. omega arith))
      (move_comes m p u (pc + 1 + 1) (record b { work = w }) xs (H + 2) key has.1.1.0) in
      record { steps = t.steps; work = t.work; few = t.few; comes = t.comes })) in
      let all = next_comes m p u pc v xs (pc + 1 + 1 + 1) (pc + 1 + 1 + 1 + 1) d e 6 2 three
      (λ w. (let t = subst (λ z. Comes m p u (pc + 1 + 1 + 1) (record d { work = w }) xs (pc + 1 + 1 + 1 + 1)
      (record d { values = put d.values (H + 3) z; work = w }) 2)
      (put_other b.values (H + 2) (v.values key) lock (λ q. omega arith)
      ∙ put_other a.values (H + 1) (v.values first + offset + size) lock (λ q. omega arith)
      ∙ put_other v.values H (v.values first + offset) lock (λ q. omega arith))
      (move_comes m p u (pc + 1 + 1 + 1) (record d { work = w }) xs (H + 3) lock has.1.1.1.0) in
      record { steps = t.steps; work = t.work; few = t.few; comes = t.comes })) in
      at_place m p u pc v xs (pc + 1 + 1 + 1 + 1) (pc + 4) e 8 all (omega arith)

  -- registers hold the entry of an object with the key and the lock word of its block
  pub record HasHomeAt (x address size k l : ℕ) (values : flat.Values) : Type 0 where
    pub base : values (home_register c x) ≡ address
    pub bound : values (home_register c x + 1) ≡ address + size
    pub key_is : values (home_register c x + 2) ≡ k
    pub lock_is : values (home_register c x + 3) ≡ l

  has_home : (values : flat.Values) (x offset size : ℕ)
      → HasHomeAt x (values first + offset) size (values key) (values lock) (placed values x offset size)
  has_home values x offset size =
      let H = home_register c x in
      let a = one_of values x offset in
      let b = two_of values x offset size in
      let d = three_of values x offset size in
      record {
        base = put_other d (H + 3) (values lock) H (λ q. omega arith)
            ∙ put_other b (H + 2) (values key) H (λ q. omega arith)
            ∙ put_other a (H + 1) (values first + offset + size) H (λ q. omega arith)
            ∙ put_same values H (values first + offset);
        bound = put_other d (H + 3) (values lock) (H + 1) (λ q. omega arith)
            ∙ put_other b (H + 2) (values key) (H + 1) (λ q. omega arith)
            ∙ put_same a (H + 1) (values first + offset + size);
        key_is = put_other d (H + 3) (values lock) (H + 2) (λ q. omega arith) ∙ put_same b (H + 2) (values key);
        lock_is = put_same d (H + 3) (values lock);
      }

  outside_home : (values : flat.Values) (x offset size r : ℕ)
      → (r < home_register c x) ⊎ (home_register c x + 4 ≤ r) → placed values x offset size r ≡ values r
  outside_home values x offset size r out =
      let H = home_register c x in
      let a = one_of values x offset in
      let b = two_of values x offset size in
      let d = three_of values x offset size in
      put_other d (H + 3) (values lock) r (none 3 (omega arith) out)
      ∙ put_other b (H + 2) (values key) r (none 2 (omega arith) out)
      ∙ put_other a (H + 1) (values first + offset + size) r (none 1 (omega arith) out)
      ∙ put_other values H (values first + offset) r
      (λ q. none 0 (omega arith) out (let e : H ≡ H + 0 = omega arith in q ∙ e))
    where
      none : (j : ℕ) → j < 4 → (r < home_register c x) ⊎ (home_register c x + 4 ≤ r)
          → r ≡ home_register c x + j → ⊥
      none j few (inl below) q = omega (arith, few, below, q)
      none j few (inr above) q = omega (arith, few, above, q)

  -- ---- all of them

  -- a register of none of the objects' homes
  abbrev pub IsOutside : (register variable : ℕ) → List Variable → Type 0
  IsOutside r x [] = Unit {0}
  IsOutside r x (v ∷ vs) =
      (v.is_object ≡ true → (r < home_register c x) ⊎ (home_register c x + 4 ≤ r)) × IsOutside r (suc x) vs

  -- each home is outside of those behind it, and below the registers from which homes are made
  abbrev pub AreApart : (variable : ℕ) → List Variable → Type 0
  AreApart x [] = Unit {0}
  AreApart x (v ∷ vs) =
      (v.is_object ≡ true → AreAbove x × ((j : ℕ) → j < 4 → IsOutside (home_register c x + j) (suc x) vs))
      × AreApart (suc x) vs

  -- where the object of a variable ends, and so the next may begin
  abbrev pub behind_of : Variable → (offset : ℕ) → ℕ
  behind_of v offset = if v.is_object then rounded_up 16 offset + size_of_kind v.kind else offset

  abbrev pub HaveHomes : (variable : ℕ) → List Variable → (offset address k l : ℕ) → flat.Values → Type 0
  HaveHomes x [] offset a k l values = Unit {0}
  HaveHomes x (v ∷ vs) offset a k l values =
      (v.is_object ≡ true → HasHomeAt x (a + rounded_up 16 offset) (size_of_kind v.kind) k l values)
      × HaveHomes (suc x) vs (behind_of v offset) a k l values

  pub record Places (x : ℕ) (vs : List Variable) (offset pc : ℕ) (v : flat.State) : Type 0 where
    pub after : flat.Values
    pub comes : Comes m p u pc v xs (pc + length (place_homes o c x vs offset first key lock s))
        (record v { values = after }) (8 * object_count vs)
    pub homes : HaveHomes x vs offset (v.values first) (v.values key) (v.values lock) after
    pub others : (r : ℕ) → IsOutside r x vs → after r ≡ v.values r

  pub home_same : (x address size k l : ℕ) (values after : flat.Values)
      → ((j : ℕ) → j < 4 → after (home_register c x + j) ≡ values (home_register c x + j))
      → HasHomeAt x address size k l values → HasHomeAt x address size k l after
  home_same x address size k l values after same h =
      let zero_is : home_register c x + 0 ≡ home_register c x = omega arith in
      record {
        base = ap after (sym zero_is) ∙ same 0 (omega arith) ∙ ap values zero_is ∙ h.base;
        bound = same 1 (omega arith) ∙ h.bound;
        key_is = same 2 (omega arith) ∙ h.key_is;
        lock_is = same 3 (omega arith) ∙ h.lock_is;
      }

  outside_behind : (vs : List Variable) (x y j : ℕ) → is_object_in (all_variables c) x ≡ true → x < y → j < 4
      → IsOutside (home_register c x + j) y vs
  outside_behind [] x y j e lt few = tt
  outside_behind (z ∷ vs) x y j e lt few = (
    λ t. inl (let more = before_grows (all_variables c) x y e lt in omega (arith, more, few)),
    outside_behind vs x (suc y) j e (omega (arith, lt)) few,
  )

  -- homes of the function's objects are apart
  pub are_apart : first_free c ≤ first → first_free c ≤ key → first_free c ≤ lock → (vs : List Variable) (x : ℕ)
      → ((y : ℕ) → is_object_in vs y ≡ true → is_object_in (all_variables c) (x + y) ≡ true) → AreApart x vs
  are_apart f k l [] x h = tt
  are_apart f k l (z ∷ vs) x h = (
    λ e.
        (let here : x + 0 ≡ x = omega arith in
        let object = subst (λ n. is_object_in (all_variables c) n ≡ true) here (h zero e) in
        let low = home_low c x object in (
          record { first_above = omega (arith, low, f); key_above = omega (arith, low, k); lock_above = omega (arith, low, l) },
          λ j few. outside_behind vs x (suc x) j object (omega arith) few,
        )),
    are_apart f k l vs (suc x)
        (λ y t. (let place : x + suc y ≡ suc x + y = omega arith in
        subst (λ n. is_object_in (all_variables c) n ≡ true) place (h (suc y) t))),
  )

  -- behind a variable
  module _ (x : ℕ) (z : Variable) (vs : List Variable) (offset pc : ℕ) (v : flat.State) where
    abbrev list : List FlatInstruction
    list = place_homes o c x (z ∷ vs) offset first key lock s

    abbrev size : ℕ
    size = size_of_kind z.kind

    abbrev off : ℕ
    off = rounded_up 16 offset

    skips : z.is_object ≡ false → Places (suc x) vs offset pc v → Places x (z ∷ vs) offset pc v
    skips e rest =
        let list_is : place_homes o c x (z ∷ vs) offset first key lock s
        ≡ place_homes o c (suc x) vs offset first key lock s =
        ap (λ b. if b
        then place_home o (home_entry c x) (rounded_up 16 offset) (size_of_kind z.kind) first key lock s
        ++ place_homes o c (suc x) vs (rounded_up 16 offset + size_of_kind z.kind) first key lock s
        else place_homes o c (suc x) vs offset first key lock s) e in
        let place = ap (λ (l : List FlatInstruction). pc + length l) (sym list_is) in
        record {
          after = rest.after;
          comes = weaker m p u pc v xs (pc + length (place_homes o c x (z ∷ vs) offset first key lock s))
              (record v { values = rest.after }) (8 * object_count vs) (8 * object_count (z ∷ vs))
              (at_place m p u pc v xs (pc + length (place_homes o c (suc x) vs offset first key lock s))
              (pc + length (place_homes o c x (z ∷ vs) offset first key lock s)) (record v { values = rest.after })
              (8 * object_count vs) rest.comes place) (omega arith);
          homes = (
            λ t. (let both = sym t ∙ e in absurd cc),
            subst (λ b. HaveHomes (suc x) vs b (v.values first) (v.values key) (v.values lock) rest.after)
                (ap (λ b. if b then rounded_up 16 offset + size_of_kind z.kind else offset) (sym e)) rest.homes,
          );
          others = λ r out. rest.others r out.1;
        }

    makes : z.is_object ≡ true → AreApart x (z ∷ vs)
        → (h : Comes m p u pc v xs (pc + 4) (record v { values = placed v.values x off size }) 8)
        → place_homes o c x (z ∷ vs) offset first key lock s
        ≡ four x off size ++ place_homes o c (suc x) vs (off + size) first key lock s
        → Places (suc x) vs (off + size) (pc + 4) (record v {
          values = placed v.values x off size;
          work = v.work + h.work;
        })
        → Places x (z ∷ vs) offset pc v
    makes e apart h list_is rest =
        let near = apart.0 e in
        let above = near.0 in
        let f = above.first_above in
        let k = above.key_above in
        let l = above.lock_above in
        let tail = place_homes o c (suc x) vs (off + size) first key lock s in
        let place : pc + 4 + length tail ≡ pc + length (place_homes o c x (z ∷ vs) offset first key lock s) =
        (let len = ap length list_is in omega (arith, len)) in
        let t = rest.comes in
        let same_first = outside_home v.values x off size first (inr f) in
        let same_key = outside_home v.values x off size key (inr k) in
        let same_lock = outside_home v.values x off size lock (inr l) in
        let one_more : object_count (z ∷ vs) ≡ 1 + object_count vs =
        ap (λ b. (if b then 1 else 0) + object_count vs) e in
        let all = then_comes m p u pc v xs (pc + 4) (pc + 4 + length tail)
        (record v { values = placed v.values x off size }) (record v { values = rest.after }) 8 (8 * object_count vs) h
        (record { steps = t.steps; work = t.work; few = t.few; comes = t.comes }) in
        record {
          after = rest.after;
          comes = weaker m p u pc v xs (pc + length (place_homes o c x (z ∷ vs) offset first key lock s))
              (record v { values = rest.after }) (8 + 8 * object_count vs) (8 * object_count (z ∷ vs))
              (at_place m p u pc v xs (pc + 4 + length tail)
              (pc + length (place_homes o c x (z ∷ vs) offset first key lock s)) (record v { values = rest.after })
              (8 + 8 * object_count vs) all place) (omega (arith, one_more));
          homes = (
            λ t. home_same x (v.values first + off) size (v.values key) (v.values lock) (placed v.values x off size)
                rest.after (λ j few. rest.others (home_register c x + j) (near.1 j few)) (has_home v.values x off size),
            subst (λ b. HaveHomes (suc x) vs b (v.values first) (v.values key) (v.values lock) rest.after)
                (ap (λ b. if b then rounded_up 16 offset + size_of_kind z.kind else offset) (sym e))
                (subst (λ n. HaveHomes (suc x) vs (off + size) n (v.values key) (v.values lock) rest.after) same_first
                (subst (λ n. HaveHomes (suc x) vs (off + size) (placed v.values x off size first) n (v.values lock) rest.after)
                same_key
                (subst (λ n. HaveHomes (suc x) vs (off + size) (placed v.values x off size first)
                (placed v.values x off size key) n rest.after) same_lock rest.homes))),
          );
          others = λ r out. rest.others r out.1 ∙ outside_home v.values x off size r (out.0 e);
        }

  -- The homes are made, where all objects end within so many bytes.
  pub places : (vs : List Variable) (x offset pc : ℕ) (v : flat.State)
      → HasAt body pc (place_homes o c x vs offset first key lock s) → AreApart x vs
      → objects_end vs offset ≤ 1610612736 → v.values first ≤ 1610612736 → Places x vs offset pc v
  places [] x offset pc v has apart fits low = record {
    after = v.values;
    comes = record {
      steps = 0;
      work = 0;
      few = omega arith;
      comes =
          let same : v.work ≡ v.work + 0 = omega arith in
          let place : pc ≡ pc + 0 = omega arith in
          ap (λ q. flat.Stands u q v xs) place ∙ ap (λ w. flat.Stands u (pc + 0) (record v { work = w }) xs) same;
    };
    homes = tt;
    others = λ r out. refl;
  }
  places (z ∷ vs) x offset pc v has apart fits low =
      by (λ k q y. places vs (suc x) k q y) z.is_object refl
    where
      by : ((k q : ℕ) (y : flat.State) → HasAt body q (place_homes o c (suc x) vs k first key lock s) → AreApart (suc x) vs
          → objects_end vs k ≤ 1610612736 → y.values first ≤ 1610612736 → Places (suc x) vs k q y)
          → (b : Bool) → z.is_object ≡ b → Places x (z ∷ vs) offset pc v
      by rest false e =
          skips x z vs offset pc v e
          (rest offset pc v
          (subst (λ b. HasAt body pc (if b
          then place_home o (home_entry c x) (rounded_up 16 offset) (size_of_kind z.kind) first key lock s
          ++ place_homes o c (suc x) vs (rounded_up 16 offset + size_of_kind z.kind) first key lock s
          else place_homes o c (suc x) vs offset first key lock s)) e has)
          apart.1
          (subst (λ b. objects_end vs (if b then rounded_up 16 offset + size_of_kind z.kind else offset) ≤ 1610612736) e fits)
          low)
      by rest true e =
          let near = apart.0 e in
          let above = near.0 in
          let f = above.first_above in
          let off = rounded_up 16 offset in
          let size = size_of_kind z.kind in
          let end : objects_end vs (rounded_up 16 offset + size_of_kind z.kind) ≤ 1610612736 =
          subst (λ b. objects_end vs (if b then rounded_up 16 offset + size_of_kind z.kind else offset) ≤ 1610612736) e fits in
          let least = grows vs (rounded_up 16 offset + size_of_kind z.kind) in
          let list_is : place_homes o c x (z ∷ vs) offset first key lock s
          ≡ four x (rounded_up 16 offset) (size_of_kind z.kind)
          ++ place_homes o c (suc x) vs (rounded_up 16 offset + size_of_kind z.kind) first key lock s =
          ap (λ b. if b
          then place_home o (home_entry c x) (rounded_up 16 offset) (size_of_kind z.kind) first key lock s
          ++ place_homes o c (suc x) vs (rounded_up 16 offset + size_of_kind z.kind) first key lock s
          else place_homes o c (suc x) vs offset first key lock s) e
          ∙ ap (λ l. l ++ place_homes o c (suc x) vs (rounded_up 16 offset + size_of_kind z.kind) first key lock s)
          (home_list x (rounded_up 16 offset) (size_of_kind z.kind)
          (lt-ltb (rounded_up 16 offset) (2 ^ 31 - 2 ^ 11) (omega (arith, least, end)))
          (lt-ltb (size_of_kind z.kind) (2 ^ 31 - 2 ^ 11) (omega (arith, least, end)))) in
          let at = subst (HasAt body pc) list_is has in
          let h = home_comes pc x (rounded_up 16 offset) (size_of_kind z.kind) v
          (has_front body pc (four x (rounded_up 16 offset) (size_of_kind z.kind))
          (place_homes o c (suc x) vs (rounded_up 16 offset + size_of_kind z.kind) first key lock s) at) above
          (omega (arith, least, end, low)) in
          makes x z vs offset pc v e apart h list_is
          (rest (rounded_up 16 offset + size_of_kind z.kind) (pc + 4) (record v {
            values = placed v.values x (rounded_up 16 offset) (size_of_kind z.kind);
            work = v.work + h.work;
          })
          (has_back body pc (four x (rounded_up 16 offset) (size_of_kind z.kind))
          (place_homes o c (suc x) vs (rounded_up 16 offset + size_of_kind z.kind) first key lock s) at)
          apart.1 end
          (let same = outside_home v.values x (rounded_up 16 offset) (size_of_kind z.kind) first (inr f) in
          omega (arith, same, low)))
