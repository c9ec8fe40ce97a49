-- What the blocks of calls and returns do to the machine, piece by piece.
use Rattle.std.proofs.Common.{◌≡◌, ◌≢◌, ℕ, zero, suc, ◌+◌, ◌-◌, ◌*◌, ◌^◌, ◌<◌, ◌≤◌, inl, inr}
use Rattle.std.proofs.Common.{List, [], ◌++◌, length, Bool, true, false, refl, sym, ap, ◌∙◌, subst}
use Rattle.std.proofs.Common.{arith, ⊎_elim, length-append, true≢false}
use Rattle.std.specs.Prelude.{if◌then◌else◌}
use Rattle.std.proofs.lemmas.Bool.{cases_eq}
use Rattle.std.proofs.lemmas.List.{append-nil}
use Rattle.rv_isa.specs.declared.instruction.Instr.{Instr}
use Rattle.flat_code.specs.Memory.{load, store, KeepsBut}
use Rattle.flat_code.proofs.Stored.{load_stored, load_beside, load_kept, store_beside}
use Rattle.machine_laws.specs.View.Views.{View, performs, AllGoOn}
use Rattle.machine_laws.specs.declared.location.Location.{Location}
use Rattle.machine_laws.specs.declared.location.Location.TheVariants.{Register, Frame}
use Rattle.machine_laws.specs.Blocks.Blocks.{load_at, store_at, used, fetch, keep}
use Rattle.machine_laws.specs.Blocks.Effects.{IsIn, AreApart, kept, IsNoScratch, IsOfSpaces, HasFrame}
use Rattle.machine_laws.proofs.Blocks.Pieces.{performs_append, go_append, load_gives, store_stores, gives_computes}
use Rattle.machine_laws.proofs.Blocks.Pieces.{keeps}
use Rattle.machine_laws.proofs.Blocks.Pieces.{fetches, of_frame, saved_apart, low_apart}
use Rattle.machine_laws.proofs.Blocks.Local.{used_nonzero}
use Rattle.machine_laws.specs.Calls.Calls.{Keeping, give, take, save_one, restore_one, save, restore}
use Rattle.machine_laws.specs.Calls.Effects.{AreKept, HasArguments, Given, Taken, Saved, Restored}

pub two_ways : {C : Type 0} (b : Bool) → (b ≡ true → C) → (b ≡ false → C) → C
two_ways true f g = f refl
two_ways false f g = g refl

-- words before the record are no part of its places
pub kept_above : (fp room area n : ℕ) (v w : View) (x : Location) → area + n ≤ fp
    → ((r : ℕ) → IsNoScratch r → w.registers r ≡ v.registers r) → KeepsBut area n v.memory w.memory → IsIn room x
    → kept fp w x ≡ kept fp v x
kept_above fp room area n v w (Frame o) below regs mem h =
    load_kept 8 v.memory w.memory (fp + o) (λ j lt. mem (fp + o + j) (inr (omega arith)))
kept_above fp room area n v w (Register r) below regs mem h = regs r (saved_apart r h)

pub moved_frame : (s base fp room : ℕ) (v w : View) → HasFrame s base fp room v → w.registers base ≡ v.registers base
    → HasFrame s base fp room w
moved_frame s base fp room v w f e = record {
  is = e ∙ f.is;
  base_low = f.base_low;
  base_high = f.base_high;
  low = f.low;
  high = f.high;
  small = f.small;
}

pub used_no_seven : (room : ℕ) (x : Location) → IsIn room x → used x 5 ≢ 7
used_no_seven room (Register r) h e = omega (arith, h.low)
used_no_seven room (Frame o) h e = omega arith

apart_three : (room : ℕ) (x : Location) → IsIn room x → 3 ≢ used x 5
apart_three room (Register r) h e = omega (arith, h.low)
apart_three room (Frame o) h e = omega arith

not_both : (r q : ℕ) → Register r ≡ Frame q → ⊥
not_both r q e = cc

-- the same list, told otherwise
pub chosen_true : (b : Bool) (is js : List Instr) → b ≡ true → is ++ (if b then js else []) ≡ is ++ js
chosen_true b is js e = rw e refl

pub chosen_false : (b : Bool) (is js : List Instr) → b ≡ false → is ++ (if b then js else []) ≡ is
chosen_false b is js e = rw e (append-nil is)

module _ (o s fp : ℕ) (k : Keeping) where
  -- a word of arguments
  of_arguments : (area count : ℕ) (v : View) (n : ℕ) → HasArguments v area count fp
      → HasFrame s k.base fp k.room v → n < count → IsOfSpaces s (area + 8 * n) 8
  of_arguments area count v n h f lt = record {
    low = omega (arith, h.low);
    high = omega (arith, h.below, f.high);
    small = f.small;
  }

  pub gives_all : (area count first n : ℕ) (v : View) → n ≤ count → HasArguments v area count fp
      → HasFrame s k.base fp k.room v → ((j : ℕ) → j < n → IsIn k.room (k.place (first + j)))
      → ((j : ℕ) → j < n → kept fp v (k.place (first + j)) < 2 ^ 64) → Given o s fp k area first n v
  unfolding give
  gives_all area count first zero v le h f fits words = record {
    go = tt;
    pc = (let e : v.pc ≡ v.pc + 4 * 0 = omega arith in e);
    others = λ r a. refl;
    set = λ j lt. absurd (omega arith);
    memory = λ b out. refl;
    accesses = refl;
  }
  gives_all area count first (suc n) v le h f fits words =
      let g = gives_all area count first n v (omega arith) h f (λ j lt. fits j (omega arith))
      (λ j lt. words j (omega arith)) in
      let w = performs (give k first n) v in
      let p = k.place (first + n) in
      let fw : HasFrame s k.base fp k.room w =
      moved_frame s k.base fp k.room v w f (g.others k.base (low_apart k.base f.base_high)) in
      let c = fetches o s p k.base 5 fp k.room w (omega arith) fw (fits n (omega arith)) in
      let u = performs (fetch p k.base 5) w in
      let word = kept fp v p in
      let held : kept fp w p ≡ word = kept_above fp k.room area (8 * n) v w p
      (omega (arith, h.below)) g.others g.memory (fits n (omega arith)) in
      let st = store_stores o s (used p 5) 3 area (8 * n) word u (λ e. omega arith)
      (used_no_seven k.room p (fits n (omega arith)))
      (c.others 3 (omega arith) ∙ g.others 3 (low_apart 3 (omega arith)) ∙ h.is) (c.value ∙ held)
      (of_arguments area count v n h f (omega arith)) in
      let last = store_at (used p 5) 3 (8 * n) in
      let rest = fetch p k.base 5 ++ last in
      let a = performs_append (give k first n) rest v ∙ performs_append (fetch p k.base 5) last w in
      let mem : (performs (give k first n ++ rest) v).memory ≡ store 8 w.memory (area + 8 * n) word =
      ap (λ z. z.memory) a ∙ st.memory_is ∙ ap (λ m. store 8 m (area + 8 * n) word) c.memory in
      record {
        go = go_append o s (give k first n) rest v g.go (go_append o s (fetch p k.base 5) last w c.go st.go);
        pc = ap (λ z. z.pc) a
            ∙ rw (st.pc, c.pc, g.pc, length-append (give k first n) rest, length-append (fetch p k.base 5) last)
            (omega arith);
        others = λ r no. ap (λ z. z.registers r) a ∙ st.others r no.2 ∙ c.others r no.0 ∙ g.others r no;
        set = λ j lt. ap (λ m. load 8 m (area + 8 * j)) mem ∙ ⊎_elim
            (λ e. ap (λ q. load 8 (store 8 w.memory (area + 8 * n) word) (area + 8 * q)) e
            ∙ load_stored 8 w.memory (area + 8 * n) word (words n (omega arith))
            ∙ ap (λ q. kept fp v (k.place (first + q))) (sym e))
            (λ ne. let before : j < n = omega (arith, ne) in
            load_beside 8 8 w.memory (area + 8 * n) (area + 8 * j) word (inl (omega arith)) ∙ g.set j before)
            (cases_eq j n);
        memory = λ b out. ap (λ m. m b) mem
            ∙ store_beside 8 w.memory (area + 8 * n) word b
            (⊎_elim (λ q. inl (omega arith)) (λ q. inr (omega arith)) out)
            ∙ g.memory b (⊎_elim (λ q. inl q) (λ q. inr (omega arith)) out);
        accesses = ap (λ z. z.accesses) a ∙ st.accesses ∙ c.accesses ∙ g.accesses;
      }

  -- arguments and results that come to their places
  pub takes_all : (area count pc first n : ℕ) (v : View) → n ≤ count → HasArguments v area count fp
      → HasFrame s k.base fp k.room v
      → ((j : ℕ) → j < n → k.live pc (first + j) ≡ true → IsIn k.room (k.place (first + j)))
      → ((j l : ℕ) → j < n → l < n → k.live pc (first + j) ≡ true → k.live pc (first + l) ≡ true → j ≢ l
      → AreApart (k.place (first + j)) (k.place (first + l)))
      → ((j : ℕ) → j < n → load 8 v.memory (area + 8 * j) < 2 ^ 64) → Taken o s fp k (take k pc first n) area pc
      first n v
  unfolding take
  takes_all area count pc first zero v le h f fits apart words = record {
    go = tt;
    pc_is = (let e : v.pc ≡ v.pc + 4 * 0 = omega arith in e);
    low = λ r l. refl;
    set = λ j lt. absurd (omega arith);
    others = λ y i a. refl;
    memory = λ b out. refl;
    accesses = refl;
  }
  takes_all area count pc first (suc n) v le h f fits apart words =
      let g = takes_all area count pc first n v (omega arith) h f (λ j lt. fits j (omega arith))
      (λ j l lj ll. apart j l (omega arith) (omega arith)) (λ j lt. words j (omega arith)) in
      two_ways (k.live pc (first + n))
      (λ e. subst (λ l. Taken o s fp k l area pc first (suc n) v) (sym (chosen_true (k.live pc (first + n)) before
      here e))
      (more g e))
      (λ e. subst (λ l. Taken o s fp k l area pc first (suc n) v) (sym (chosen_false (k.live pc (first + n)) before
      here e))
      (less g e))
    where
      before : List Instr
      before = take k pc first n

      p : Location
      p = k.place (first + n)

      here : List Instr
      here = load_at (used p 5) 3 (8 * n) ++ keep p k.base 5

      less : Taken o s fp k before area pc first n v → k.live pc (first + n) ≡ false → Taken o s fp k before area pc
          first (suc n) v
      less g e = record {
        go = g.go;
        pc_is = g.pc_is;
        low = g.low;
        set = λ j lt live. ⊎_elim
            (λ q. absurd (true≢false (sym live ∙ ap (λ z. k.live pc (first + z)) q ∙ e)))
            (λ ne. g.set j (omega (arith, ne)) live) (cases_eq j n);
        others = λ y i a. g.others y i (λ j lt. a j (omega arith));
        memory = g.memory;
        accesses = g.accesses;
      }

      more : Taken o s fp k before area pc first n v → k.live pc (first + n) ≡ true → Taken o s fp k (before ++
          here) area pc first (suc n) v
      more g e =
          let w = performs before v in
          let i = fits n (omega arith) e in
          let fw : HasFrame s k.base fp k.room w =
          moved_frame s k.base fp k.room v w f (g.low k.base f.base_high) in
          let word = load 8 v.memory (area + 8 * n) in
          let same : load 8 w.memory (area + 8 * n) ≡ word = load_kept 8 v.memory w.memory (area + 8 * n)
          (λ j lt. g.memory (area + 8 * n + j) (inl (omega (arith, h.below)))) in
          let l = load_gives o s (used p 5) 3 area (8 * n) w (used_nonzero k.room p i) (apart_three k.room p i)
          (g.low 3 (omega arith) ∙ h.is) (of_arguments area count v n h f (omega arith)) in
          let c = gives_computes o s (load_at (used p 5) 3 (8 * n)) w (used p 5) (load 8 w.memory (area + 8 * n)) l in
          let small : load 8 w.memory (area + 8 * n) < 2 ^ 64 = rw same (words n (omega arith)) in
          let u = keeps o s (load_at (used p 5) 3 (8 * n)) w k.base fp k.room p (load 8 w.memory (area + 8 * n))
          w.accesses c small fw i in
          let a = performs_append before here v in
          record {
            go = go_append o s before here v g.go u.go;
            pc_is = ap (λ z. z.pc) a ∙ rw (u.pc, g.pc_is, length-append before here) (omega arith);
            low = λ r lt. ap (λ z. z.registers r) a ∙ u.low r lt ∙ g.low r lt;
            set = λ j lt live. ap (λ z. kept fp z (k.place (first + j))) a ∙ ⊎_elim
                (λ q. ap (λ z. kept fp (performs here w) (k.place (first + z))) q ∙ u.value ∙ same
                ∙ ap (λ z. load 8 v.memory (area + 8 * z)) (sym q))
                (λ ne. u.others (k.place (first + j)) (fits j lt live)
                (apart j n lt (omega arith) live e ne) ∙ g.set j (omega (arith, ne)) live)
                (cases_eq j n);
            others = λ y iy ay. ap (λ z. kept fp z y) a ∙ u.others y iy (ay n (omega arith) e)
                ∙ g.others y iy (λ j lt. ay j (omega arith));
            memory = λ b out. ap (λ z. z.memory b) a ∙ u.memory b out ∙ g.memory b out;
            accesses = ap (λ z. z.accesses) a ∙ u.accesses_are ∙ g.accesses;
          }

  -- a value that is wanted goes to its home
  record SavesOne (x : Location) (y : ℕ) (live : ℕ → Bool) (v : View) : Type 0 where
    go : AllGoOn o s (save_one x k.base (k.home y)) v
    pc : (performs (save_one x k.base (k.home y)) v).pc ≡ v.pc + 4 * length (save_one x k.base (k.home y))
    others : (r : ℕ) → r ≢ 7 → (performs (save_one x k.base (k.home y)) v).registers r ≡ v.registers r
    held : (z : ℕ) → live z ≡ true
        → kept fp (performs (save_one x k.base (k.home y)) v) (k.place z) ≡ kept fp v (k.place z)
    saved : load 8 (performs (save_one x k.base (k.home y)) v).memory (fp + k.home y) ≡ kept fp v x
    rest : (z : ℕ) → live z ≡ true → z ≢ y
        → load 8 (performs (save_one x k.base (k.home y)) v).memory (fp + k.home z) ≡ load 8 v.memory (fp + k.home z)
    memory : KeepsBut (fp + 8) (k.room - 8) v.memory (performs (save_one x k.base (k.home y)) v).memory
    accesses : (performs (save_one x k.base (k.home y)) v).accesses ≡ v.accesses

  save_one_saves : (x : Location) (y : ℕ) (live : ℕ → Bool) (v : View) → AreKept k live → k.place y ≡ x → live y ≡ true
      → kept fp v x < 2 ^ 64 → HasFrame s k.base fp k.room v
      → SavesOne x y live v
  save_one_saves (Frame q) y live v h e n word f = record {
    go = tt;
    pc = (let z : v.pc ≡ v.pc + 4 * 0 = omega arith in z);
    others = λ r a. refl;
    held = λ z l. refl;
    saved = ap (λ t. load 8 v.memory (fp + t)) (sym (h.own y q n e));
    rest = λ z l ne. refl;
    memory = λ b out. refl;
    accesses = refl;
  }
  save_one_saves (Register r) y live v h e n word f =
      let i : IsIn k.room (Register r) = subst (IsIn k.room) e (h.inside y n) in
      let hy = k.home y in
      let st = store_stores o s r k.base fp hy (v.registers r) v (omega (arith, f.base_high)) (omega (arith, i.low))
      f.is refl (of_frame o s k.base fp k.room hy v f (h.high y n)) in
      let w = performs (store_at r k.base hy) v in
      record {
        go = st.go;
        pc = st.pc;
        others = st.others;
        held = λ z l. by (k.place z) z l refl st.memory_is st.others;
        saved = ap (λ m. load 8 m (fp + hy)) st.memory_is ∙ load_stored 8 v.memory (fp + hy) (v.registers r) word;
        rest = λ z l ne. ap (λ m. load 8 m (fp + k.home z)) st.memory_is ∙ beside z l ne;
        memory = λ b out. ap (λ m. m b) st.memory_is ∙ store_beside 8 v.memory (fp + hy) (v.registers r) b
            (⊎_elim (λ q. inl (omega (arith, h.low y n))) (λ q. inr (omega (arith, h.high y n))) out);
        accesses = st.accesses;
      }
    where
      beside : (z : ℕ) → live z ≡ true → z ≢ y
          → load 8 (store 8 v.memory (fp + k.home y) (v.registers r)) (fp + k.home z) ≡ load 8 v.memory (fp + k.home z)
      beside z l ne = load_beside 8 8 v.memory (fp + k.home y) (fp + k.home z) (v.registers r)
          (⊎_elim (λ q. inl (omega arith)) (λ q. inr (omega arith)) (h.homes z y l n ne))

      by : (x : Location) (z : ℕ) → live z ≡ true → k.place z ≡ x
          → (performs (store_at r k.base (k.home y)) v).memory ≡ store 8 v.memory (fp + k.home y) (v.registers r)
          → ((q : ℕ) → q ≢ 7 → (performs (store_at r k.base (k.home y)) v).registers q ≡ v.registers q)
          → kept fp (performs (store_at r k.base (k.home y)) v) (k.place z) ≡ kept fp v (k.place z)
      by (Register q) z l at mem stay = subst
          (λ t. kept fp (performs (store_at r k.base (k.home y)) v) t ≡ kept fp v t) (sym at)
          (let i : IsIn k.room (Register q) = subst (IsIn k.room) at (h.inside z l) in
          stay q (saved_apart q i).2)
      by (Frame q) z l at mem stay = subst
          (λ t. kept fp (performs (store_at r k.base (k.home y)) v) t ≡ kept fp v t) (sym at)
          (ap (λ m. load 8 m (fp + q)) mem
          ∙ ap (λ t. load 8 (store 8 v.memory (fp + k.home y) (v.registers r)) (fp + t)) (h.own z q l at)
          ∙ beside z l (λ same. not_both r q (sym e ∙ ap k.place (sym same) ∙ at))
          ∙ ap (λ t. load 8 v.memory (fp + t)) (sym (h.own z q l at)))

  pub saves : (live wanted : ℕ → Bool) (n : ℕ) (v : View) → AreKept k live → ((y : ℕ) → wanted y ≡ true → live y ≡ true)
      → ((y : ℕ) → live y ≡ true → kept fp v (k.place y) < 2 ^ 64) → HasFrame s k.base fp k.room v
      → Saved o s fp k (save k wanted n) live wanted n v
  unfolding save
  saves live wanted zero v h sub words f = record {
    go = tt;
    pc = (let z : v.pc ≡ v.pc + 4 * 0 = omega arith in z);
    others = λ r a. refl;
    held = λ y l. refl;
    saved = λ y lt. absurd (omega arith);
    memory = λ b out. refl;
    accesses = refl;
  }
  saves live wanted (suc n) v h sub words f =
      let g = saves live wanted n v h sub words f in
      two_ways (wanted n)
      (λ e. subst (λ l. Saved o s fp k l live wanted (suc n) v) (sym (chosen_true (wanted n) before here e)) (more g e))
      (λ e. subst (λ l. Saved o s fp k l live wanted (suc n) v) (sym (chosen_false (wanted n) before here e)) (less
      g e))
    where
      before : List Instr
      before = save k wanted n

      here : List Instr
      here = save_one (k.place n) k.base (k.home n)

      less : Saved o s fp k before live wanted n v → wanted n ≡ false → Saved o s fp k before live wanted (suc n) v
      less g e = record {
        go = g.go;
        pc = g.pc;
        others = g.others;
        held = g.held;
        saved = λ y lt t. ⊎_elim (λ q. absurd (true≢false (sym t ∙ ap wanted q ∙ e)))
            (λ ne. g.saved y (omega (arith, ne)) t) (cases_eq y n);
        memory = g.memory;
        accesses = g.accesses;
      }

      more : Saved o s fp k before live wanted n v → wanted n ≡ true → Saved o s fp k (before ++ here) live wanted
          (suc n) v
      more g e =
          let w = performs before v in
          let l = sub n e in
          let fw : HasFrame s k.base fp k.room w =
          moved_frame s k.base fp k.room v w f (g.others k.base (omega (arith, f.base_high))) in
          let u = save_one_saves (k.place n) n live w h refl l (rw (g.held n l) (words n l)) fw in
          let a = performs_append before here v in
          record {
            go = go_append o s before here v g.go u.go;
            pc = ap (λ z. z.pc) a ∙ rw (u.pc, g.pc, length-append before here) (omega arith);
            others = λ r q. ap (λ z. z.registers r) a ∙ u.others r q ∙ g.others r q;
            held = λ y t. ap (λ z. kept fp z (k.place y)) a ∙ u.held y t ∙ g.held y t;
            saved = λ y lt t. ap (λ z. load 8 z.memory (fp + k.home y)) a ∙ ⊎_elim
                (λ q. ap (λ z. load 8 (performs here w).memory (fp + k.home z)) q ∙ u.saved ∙ g.held n l
                ∙ ap (λ z. kept fp v (k.place z)) (sym q))
                (λ ne. u.rest y (sub y t) ne ∙ g.saved y (omega (arith, ne)) t) (cases_eq y n);
            memory = λ b out. ap (λ z. z.memory b) a ∙ u.memory b out ∙ g.memory b out;
            accesses = ap (λ z. z.accesses) a ∙ u.accesses ∙ g.accesses;
          }

  -- and comes back from there
  record RestoresOne (x : Location) (y : ℕ) (v : View) : Type 0 where
    go : AllGoOn o s (restore_one x k.base (k.home y)) v
    pc : (performs (restore_one x k.base (k.home y)) v).pc ≡ v.pc + 4 * length (restore_one x k.base (k.home y))
    low : (r : ℕ) → r < 8 → (performs (restore_one x k.base (k.home y)) v).registers r ≡ v.registers r
    set : kept fp (performs (restore_one x k.base (k.home y)) v) x ≡ load 8 v.memory (fp + k.home y)
    rest : (z : Location) → AreApart z x
        → kept fp (performs (restore_one x k.base (k.home y)) v) z ≡ kept fp v z
    memory : (performs (restore_one x k.base (k.home y)) v).memory ≡ v.memory
    accesses : (performs (restore_one x k.base (k.home y)) v).accesses ≡ v.accesses

  restore_one_restores : (x : Location) (y : ℕ) (live : ℕ → Bool) (v : View) → AreKept k live → k.place y ≡ x
      → live y ≡ true → HasFrame s k.base fp k.room v → RestoresOne x y v
  restore_one_restores (Frame q) y live v h e n f = record {
    go = tt;
    pc = (let z : v.pc ≡ v.pc + 4 * 0 = omega arith in z);
    low = λ r l. refl;
    set = ap (λ t. load 8 v.memory (fp + t)) (h.own y q n e);
    rest = λ z a. refl;
    memory = refl;
    accesses = refl;
  }
  restore_one_restores (Register r) y live v h e n f =
      let i : IsIn k.room (Register r) = subst (IsIn k.room) e (h.inside y n) in
      let g = load_gives o s r k.base fp (k.home y) v (omega (arith, i.low)) (omega (arith, i.low, f.base_high)) f.is
      (of_frame o s k.base fp k.room (k.home y) v f (h.high y n)) in
      record {
        go = g.go;
        pc = g.pc;
        low = λ q l. g.others q (omega (arith, i.low));
        set = g.value;
        rest = other g.others g.memory;
        memory = g.memory;
        accesses = g.accesses;
      }
    where
      other : ((q : ℕ) → q ≢ r → (performs (load_at r k.base (k.home y)) v).registers q ≡ v.registers q)
          → (performs (load_at r k.base (k.home y)) v).memory ≡ v.memory → (z : Location) → AreApart z (Register r)
          → kept fp (performs (load_at r k.base (k.home y)) v) z ≡ kept fp v z
      other stay mem (Register q) a = stay q a
      other stay mem (Frame q) a = ap (λ m. load 8 m (fp + q)) mem

  pub restores : (live wanted : ℕ → Bool) (n : ℕ) (v : View) → AreKept k live
      → ((y : ℕ) → wanted y ≡ true → live y ≡ true) → HasFrame s k.base fp k.room v
      → Restored o s fp k (restore k wanted n) wanted n v
  unfolding restore
  restores live wanted zero v h sub f = record {
    go = tt;
    pc = (let z : v.pc ≡ v.pc + 4 * 0 = omega arith in z);
    low = λ r l. refl;
    set = λ y lt. absurd (omega arith);
    memory = refl;
    accesses = refl;
  }
  restores live wanted (suc n) v h sub f =
      let g = restores live wanted n v h sub f in
      two_ways (wanted n)
      (λ e. subst (λ l. Restored o s fp k l wanted (suc n) v) (sym (chosen_true (wanted n) before here e)) (more g e))
      (λ e. subst (λ l. Restored o s fp k l wanted (suc n) v) (sym (chosen_false (wanted n) before here e)) (less g e))
    where
      before : List Instr
      before = restore k wanted n

      here : List Instr
      here = restore_one (k.place n) k.base (k.home n)

      less : Restored o s fp k before wanted n v → wanted n ≡ false → Restored o s fp k before wanted (suc n) v
      less g e = record {
        go = g.go;
        pc = g.pc;
        low = g.low;
        set = λ y lt t. ⊎_elim (λ q. absurd (true≢false (sym t ∙ ap wanted q ∙ e)))
            (λ ne. g.set y (omega (arith, ne)) t) (cases_eq y n);
        memory = g.memory;
        accesses = g.accesses;
      }

      more : Restored o s fp k before wanted n v → wanted n ≡ true → Restored o s fp k (before ++ here) wanted (suc n) v
      more g e =
          let w = performs before v in
          let l = sub n e in
          let fw : HasFrame s k.base fp k.room w =
          moved_frame s k.base fp k.room v w f (g.low k.base (omega (arith, f.base_high))) in
          let u = restore_one_restores (k.place n) n live w h refl l fw in
          let a = performs_append before here v in
          record {
            go = go_append o s before here v g.go u.go;
            pc = ap (λ z. z.pc) a ∙ rw (u.pc, g.pc, length-append before here) (omega arith);
            low = λ r q. ap (λ z. z.registers r) a ∙ u.low r q ∙ g.low r q;
            set = λ y lt t. ap (λ z. kept fp z (k.place y)) a ∙ ⊎_elim
                (λ q. ap (λ z. kept fp (performs here w) (k.place z)) q ∙ u.set
                ∙ ap (λ m. load 8 m (fp + k.home n)) g.memory ∙ ap (λ z. load 8 v.memory (fp + k.home z)) (sym q))
                (λ ne. u.rest (k.place y) (h.apart y n (sub y t) l ne) ∙ g.set y (omega (arith, ne)) t)
                (cases_eq y n);
            memory = ap (λ z. z.memory) a ∙ u.memory ∙ g.memory;
            accesses = ap (λ z. z.accesses) a ∙ u.accesses ∙ g.accesses;
          }
