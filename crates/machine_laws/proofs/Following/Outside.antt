-- Instructions that ask the environment: the machine comes to where the run goes, or ends as it does.
use Rattle.std.proofs.Common.{true, ◌≡◌, ◌≢◌, ℕ, ◌+◌, ◌-◌, ◌*◌, ◌%◌, ◌^◌, ◌<◌, ◌≤◌, inl, inr, refl, sym}
use Rattle.std.proofs.Common.{ap, ◌∙◌, subst, arith, List, [], ◌∷◌, ◌++◌, length, codes, Some, None, length-append}
use Rattle.addr_map.specs.Places.{MapSizes, region_start, spaces_begin}
use Rattle.addr_map.specs.declared.region.Region.TheVariants.{Arguments}
use Rattle.behaviours.specs.Shown.{Write}
use Rattle.sb_base.specs.declared.ending.Ending.{Ending}
use Rattle.sb_base.specs.declared.ending.Ending.TheVariants as ending
use Rattle.sb_base.specs.Endings.{code_of, report_at, report_of}
use Rattle.rv_isa.specs.declared.instruction.StoreOp.TheVariants.{Sb}
use Rattle.rv_isa.specs.declared.instruction.ImmOp.TheVariants.{Addi}
use Rattle.rv_isa.specs.declared.instruction.Instr.{Instr}
use Rattle.rv_isa.specs.declared.instruction.Instr.TheVariants.{Lui, Jalr, Store, OpImm, Ecall}
use Rattle.rv_isa.specs.Word.{sext}
use Rattle.rv_isa.specs.Results.{wrap, low_word}
use Rattle.flat_code.specs.declared.instruction.FlatInstruction.{FlatInstruction}
use Rattle.flat_code.specs.declared.instruction.FlatInstruction.TheVariants as flat
use Rattle.flat_code.specs.declared.function.FlatFunction.{FlatFunction}
use Rattle.flat_code.specs.declared.function.FlatProgram.{FlatProgram}
use Rattle.flat_code.specs.Memory.{put, store, KeepsBut}
use Rattle.flat_code.specs.State.{State, Frame}
use Rattle.flat_code.specs.Calls.{function_in}
use Rattle.flat_code.specs.Meaning.{instruction_at}
use Rattle.flat_code.specs.Words.{IsOfWords}
use Rattle.flat_code.proofs.Stored as stored
use Rattle.reg_plan.specs.declared.plan.FunctionPlan.{FunctionPlan}
use Rattle.reg_plan.specs.Effects.{made_by, is_among, none, Leads}
use Rattle.rv_sim.specs.declared.stop.Stop.TheVariants.{Exited}
use Rattle.rv_sim.specs.Run.{Configuration, Turn, runs}
use Rattle.machine_laws.specs.View.Segments.{IsOfData}
use Rattle.machine_laws.specs.View.Views.{View, Fits, AllStand, Shows, with_value, perform, performs, address_in}
use Rattle.machine_laws.proofs.View.Straight.{runs_then}
use Rattle.machine_laws.proofs.View.Leaving.{no_access, jalr, exits, writes_bytes, reads_byte, reads_nothing}
use Rattle.machine_laws.specs.declared.location.Location.{Location}
use Rattle.machine_laws.specs.declared.location.Location.TheVariants as location
use Rattle.machine_laws.specs.Blocks.Blocks.{used, fetch, keep, received_block, upper, lower, wide}
use Rattle.machine_laws.specs.Blocks.Tails.{text_before, ended, tail_block, reported, tails_of, tails, tails_before}
use Rattle.machine_laws.specs.Blocks.Tails.{jump_block}
use Rattle.machine_laws.specs.Calls.Table.{tails_address}
use Rattle.machine_laws.specs.Blocks.Effects.{IsSaved, IsIn, kept, Computes, HasFrame}
use Rattle.machine_laws.proofs.Blocks.Pieces.{fetches, performs_append, with_same, with_other, keeps, silent}
use Rattle.machine_laws.proofs.Blocks.Pieces.{wide_makes, wide_parts, low_parts}
use Rattle.machine_laws.proofs.Blocks.Local.{used_nonzero}
use Rattle.machine_laws.proofs.Blocks.Reports.{are_bytes, all_bytes}
use Rattle.machine_laws.specs.Following.Code.{keeping, block, IsLaid, IsEncodable}
use Rattle.machine_laws.specs.Following.Matching.{object_bytes, space_bytes, record_of, IsAt, ShowsSame, Meets}
use Rattle.machine_laws.specs.Following.Matching.{HasEnded}
use Rattle.machine_laws.specs.Following.Start.{layout_of}
use Rattle.machine_laws.proofs.Following.Runs.{Comes, straight_comes, all_append}
use Rattle.machine_laws.proofs.Following.Regions.{AreRegions, flat_before}
use Rattle.machine_laws.proofs.Following.Sound.{IsSound}
use Rattle.machine_laws.proofs.Following.Standing.{frame_of, made, moves, before_untouched, record_behind, among_one}
use Rattle.machine_laws.proofs.Following.Locals.{among_none, wanted_none, Steps}
use Rattle.machine_laws.proofs.Following.Asks.{asking, asking_asks, IsAsking, immediate, immediate_other}
use Rattle.machine_laws.proofs.Following.Tails.{tells, ends}
use Rattle.machine_laws.proofs.Following.Asks.{stored_byte, receiving, receives}

-- where registers of values stay, and of memory all but so many bytes before the record, so does what is kept
kept_behind : (fp room area n : ℕ) (v w : View) (x : Location) → area + n ≤ fp
    → ((r : ℕ) → IsSaved r → w.registers r ≡ v.registers r) → KeepsBut area n v.memory w.memory → IsIn room x
    → kept fp w x ≡ kept fp v x
kept_behind fp room area n v w (location.Frame o) below regs mem h =
    stored.load_kept 8 v.memory w.memory (fp + o) (λ j lt. mem (fp + o + j) (inr (omega arith)))
kept_behind fp room area n v w (location.Register r) below regs mem h = regs r h

module _ (m : MapSizes) (p : FlatProgram) (plans : List FunctionPlan) (table code : List ℕ)
    (address : (function pc : ℕ) → ℕ) (entry : (function : ℕ) → ℕ) (regions : AreRegions m) (ok : IsSound p plans)
    (fit : Fits (layout_of m table code)) (laid : IsLaid m p plans (layout_of m table code) address entry)
    (can : IsEncodable p) where
  -- the machine ends within so many instructions
  pub record Ends (status : ℕ) (report : List ℕ) (s' : State) (c : Configuration) (most : ℕ) : Type 0 where
    pub steps : ℕ
    pub few : steps ≤ most
    pub after : Turn
    pub is : runs steps c ≡ after
    pub ended : HasEnded status report s' after

  area : ℕ
  area = region_start m Arguments

  -- the words of arguments may be a buffer
  buffer_lies : IsOfData (object_bytes m) (space_bytes m) (region_start m Arguments) 1
  buffer_lies = inr (
    omega (arith, regions.cells_low, regions.cells),
    omega (arith, regions.arguments, regions.calls, regions.space),
  )

  -- where only registers of calls and scratch, and a byte of the words of arguments, have changed, all is as before
  still_there : (f pc : ℕ) (g : FlatFunction) (s : State) (frames : List Frame) (v w : View)
      → function_in p f ≡ Some g → ((r : ℕ) → r < 5 → w.registers r ≡ v.registers r)
      → ((r : ℕ) → IsSaved r → w.registers r ≡ v.registers r)
      → KeepsBut (region_start m Arguments) 1 v.memory w.memory
      → IsAt m p plans address f pc s frames v → IsAt m p plans address f pc s frames w
  still_there f pc g s frames v w there low saved keeps h =
      let behind = record_behind m p plans address regions ok can.rooms f frames in
      moves m p plans address regions ok can.rooms f pc pc s s frames v w h low
      (before_untouched m p plans address regions ok can.rooms f frames v.memory w.memory
      (λ a l. keeps a (inr (omega (arith, regions.arguments)))))
      (λ a fl. keeps a (inl (flat_before m regions a fl)) ∙ h.same a fl)
      (λ y live. kept_behind (record_of m p f frames) (keeping p plans f).room (region_start m Arguments) 1 v w
      ((keeping p plans f).place y) (omega (arith, regions.arguments)) saved keeps
      ((ok.kept f pc g there).inside y live) ∙ h.held y live)

  -- and on to an instruction that follows one that makes nothing
  goes_on : (f pc q : ℕ) (g : FlatFunction) (i : FlatInstruction) (s s' : State) (frames : List Frame) (v : View)
      → function_in p f ≡ Some g → instruction_at p f pc ≡ Some i → Leads i pc q → made_by p i ≡ none
      → s'.values ≡ s.values → s'.memory ≡ s.memory → IsAt m p plans address f pc s frames v
      → IsAt m p plans address f q s' frames v
  goes_on f pc q g i s s' frames v there at leads makes values memory h =
      moves m p plans address regions ok can.rooms f pc q s s' frames v v h (λ r lt. refl)
      (before_untouched m p plans address regions ok can.rooms f frames v.memory v.memory (λ a l. refl))
      (λ a fl. h.same a fl ∙ sym (ap (λ z. z a) memory))
      (λ y live. h.held y (ok.rest f pc g i there at q y leads live
      (ap (λ z. is_among z y) makes ∙ among_none y)) ∙ sym (ap (λ z. z y) values))

  module _ (f pc : ℕ) (g : FlatFunction) (s s' : State) (frames : List Frame) (c : Configuration)
      (h : Meets m p plans (layout_of m table code) address f pc s frames c) (words : IsOfWords s)
      (there : function_in p f ≡ Some g) where
    frame : HasFrame (space_bytes m) (keeping p plans f).base (record_of m p f frames) (keeping p plans f).room h.view
    frame = frame_of m p plans address regions ok can.rooms f pc g s frames h.view there h.is_at

    pub put_steps : (x : ℕ) → instruction_at p f pc ≡ Some (flat.Put x)
        → s'.values ≡ s.values → s'.memory ≡ s.memory → s'.accesses ≡ s.accesses → s'.input ≡ s.input
        → s'.output ≡ s.output ++ s.values x % 256 ∷ [] → s'.taken ≡ s.taken
        → Steps m p plans table code address entry regions ok fit laid can f (pc + 1) s' frames c
        (length (block m p plans f pc (flat.Put x)))
    unfolding block
    put_steps x at values memory accesses input output taken =
        let k = keeping p plans f in
        let l = layout_of m table code in
        let i = flat.Put x in
        let fp = record_of m p f frames in
        let live = ok.reads f pc g i there at (wanted_none m p plans table code address entry regions ok fit laid can f pc i refl) x
        (rw (among_one x) refl) in
        let inside = (ok.kept f pc g there).inside x live in
        let front = fetch (k.place x) k.base 5 in
        let last = Store Sb 3 (used (k.place x) 5) 0 ∷ asking 64 1 1 in
        let u = fetches (object_bytes m) (space_bytes m) (k.place x) k.base 5 fp k.room h.view (omega arith) frame
        inside in
        let v0 = h.view in
        let w0 = performs front v0 in
        let w1 = perform (Store Sb 3 (used (k.place x) 5) 0) w0 in
        let w2 = performs (asking 64 1 1) w1 in
        let area_low : region_start m Arguments < 2 ^ 63 =
        omega (arith, regions.arguments, regions.calls, regions.end) in
        let three0 : w0.registers 3 ≡ region_start m Arguments = u.others 3 (omega arith) ∙ h.is_at.arguments in
        let area_is : wrap (region_start m Arguments + sext 12 0) ≡ region_start m Arguments = omega arith in
        let place : address_in w0 3 0 ≡ region_start m Arguments = ap (λ q. wrap (q + sext 12 0)) three0 ∙ area_is in
        let value : w0.registers (used (k.place x) 5) ≡ s.values x = u.value ∙ h.is_at.held x live in
        let mem1 : w1.memory ≡ store 1 v0.memory (region_start m Arguments) (s.values x) =
        ap (λ q. store 1 w0.memory q (w0.registers (used (k.place x) 5))) place
        ∙ ap (store 1 w0.memory (region_start m Arguments)) value
        ∙ ap (λ q. store 1 q (region_start m Arguments) (s.values x)) u.memory in
        let ask = asking_asks w1 64 1 1 (region_start m Arguments) (omega arith) (omega arith) (omega arith)
        (u.others 0 (omega arith) ∙ h.is_at.zero_is) three0 area_low in
        let whole = all_append l front (last ++ Ecall ∷ []) (address f pc) (laid.blocks f pc i at) in
        let rest = all_append l last (Ecall ∷ []) (address f pc + 4 * length front) whole.1 in
        let a1 = performs_append front last v0 in
        let pc0 : v0.pc + 4 * length front ≡ w0.pc = sym u.pc in
        let both = straight_comes l fit front c v0 (subst (λ q. AllStand l q front) (sym h.pc_is) whole.0) u.go
        h.shows in
        let pc_w0 : w0.pc ≡ address f pc + 4 * length front = u.pc ∙ ap (λ q. q + 4 * length front) h.pc_is in
        let then_last = straight_comes l fit last both.after w0 (subst (λ q. AllStand l q last) (sym pc_w0) rest.0)
        (subst (λ q. IsOfData (object_bytes m) (space_bytes m) q 1) (sym place) buffer_lies, (tt, (tt, (tt, (tt, tt)))))
        both.shows in
        let pc_w2 : w2.pc ≡ address f pc + 4 * length front + 4 * 5 = ask.pc ∙ ap (λ q. q + 4 + 16) pc_w0 ∙ omega
        arith in
        let e = writes_bytes l 1 then_last.after w2 fit
        (subst (λ q. AllStand l q (Ecall ∷ [])) (sym pc_w2) rest.1).0 ask.number_is ask.descriptor_is ask.count
        (omega arith) (subst (λ q. IsOfData (object_bytes m) (space_bytes m) q 1) (sym ask.buffer) buffer_lies)
        then_last.shows in
        let w3 : View = record w2 { pc = w2.pc + 4; registers = with_value w2.registers 10 1 } in
        let byte : w2.memory (w2.registers 11) ≡ s.values x % 256 =
        ap w2.memory ask.buffer ∙ ap (λ q. q (region_start m Arguments)) (ask.memory ∙ mem1)
        ∙ stored_byte v0.memory (region_start m Arguments) (s.values x) in
        let stay : (r : ℕ) → r ≢ 5 → r ≢ 17 → r ≢ 10 → r ≢ 11 → r ≢ 12 → w3.registers r ≡ v0.registers r =
        λ r n5 n17 n10 n11 n12. with_other w2.registers 10 1 r n10 ∙ ask.others r n17 n10 n11 n12 ∙ u.others r n5 in
        let long = length-append front (last ++ Ecall ∷ []) in
        let n : 1 + (5 + length front) ≡ length (block m p plans f pc i) = omega arith in
        record {
          steps = 1 + (5 + length front);
          few = omega (arith, n);
          after = e.0;
          is = runs_then 1 (5 + length front) c then_last.after
              (runs_then 5 (length front) c both.after both.is ∙ then_last.is) ∙ e.1;
          meets = record {
            view = w3;
            shows = e.2;
            pc_is = ap (λ q. q + 4) pc_w2 ∙ sym (laid.next f pc i at tt ∙ ap (λ q. address f pc + 4 * q) (sym n)
                ∙ omega arith);
            is_at = goes_on f pc (pc + 1) g i s s' frames w3 there at (inl refl) refl values memory
                (still_there f pc g s frames v0 w3 there
                (λ r lt. stay r (omega arith) (omega arith) (omega arith) (omega arith) (omega arith))
                (λ r q. stay r (omega (arith, q.low)) q.a7 q.a0 q.a1 q.a2)
                (λ b out. ap (λ z. z b) (ask.memory ∙ mem1)
                ∙ stored.store_beside 1 v0.memory (region_start m Arguments) (s.values x) b out)
                h.is_at);
            accesses = ask.accesses
                ∙ silent w0.accesses w0.pc (address_in w0 3 0) 1 Write
                (rw place (omega (arith, regions.cells_low, regions.cells)))
                ∙ u.accesses ∙ h.accesses ∙ sym accesses;
            outside = record {
              input = e.3.input ∙ then_last.stays.input ∙ both.stays.input ∙ h.outside.input ∙ sym input;
              output = e.3.output ∙ ap (λ q. q ++ w2.memory (w2.registers 11) ∷ [])
                  (then_last.stays.output ∙ both.stays.output ∙ h.outside.output)
                  ∙ ap (λ q. s.output ++ q ∷ []) byte ∙ sym output;
              errors = e.3.errors ∙ then_last.stays.errors ∙ both.stays.errors ∙ h.outside.errors;
              taken = e.3.taken ∙ then_last.stays.taken ∙ both.stays.taken ∙ h.outside.taken ∙ sym taken;
            };
          };
        }

    -- behind the call: the answer stands in a0, and a byte in the words of arguments
    received_steps : (x answer n : ℕ) (d : Configuration) (w : View) → instruction_at p f pc ≡ Some (flat.Get x)
        → pc + 1 < length g.body → Shows (layout_of m table code) d w → w.pc ≡ address f pc + 4 * 5
        → IsAt m p plans address f pc s frames w → w.registers 10 ≡ answer
        → wrap (w.memory (region_start m Arguments) * answer % 2 ^ 64 + wrap (answer + (2 ^ 64 - 1))) ≡ n → n < 2 ^ 64
        → w.accesses ≡ s.accesses → ShowsSame d s'
        → s'.values ≡ put s.values x n → s'.memory ≡ s.memory → s'.accesses ≡ s.accesses → runs 5 c ≡ (d, None)
        → Steps m p plans table code address entry regions ok fit laid can f (pc + 1) s' frames c
        (length (block m p plans f pc (flat.Get x)))
    unfolding block
    received_steps x answer n d w at inside shows pc_is is_at ten e small seen outside values memory accesses run =
        let k = keeping p plans f in
        let l = layout_of m table code in
        let i = flat.Get x in
        let fp = record_of m p f frames in
        let rd = used (k.place x) 5 in
        let x_live = ok.makes f pc g i there at (pc + 1) x (inl refl) inside (among_one x) refl in
        let x_in = (ok.kept f (pc + 1) g there).inside x x_live in
        let front = receiving rd in
        let tail = front ++ keep (k.place x) k.base 5 in
        let frame_w = frame_of m p plans address regions ok can.rooms f pc g s frames w there is_at in
        let area_is : wrap (region_start m Arguments + sext 12 0) ≡ region_start m Arguments =
        omega (arith, regions.arguments, regions.calls, regions.end) in
        let place : address_in w 3 0 ≡ region_start m Arguments =
        ap (λ q. wrap (q + sext 12 0)) is_at.arguments ∙ area_is in
        let r = receives w rd (region_start m Arguments) answer n (used_nonzero k.room (k.place x) x_in) is_at.arguments
        (omega (arith, regions.cells_low, regions.cells))
        (omega (arith, regions.arguments, regions.calls, regions.end)) ten e in
        let computes : Computes (object_bytes m) (space_bytes m) front w rd n w.accesses = record {
          go = (
            subst (λ q. IsOfData (object_bytes m) (space_bytes m) q 1) (sym place) buffer_lies,
            (tt, (tt, (tt, tt))),
          );
          pc = (let q : w.pc + 4 + 4 + 4 + 4 ≡ w.pc + 4 * 4 = omega arith in q);
          value = r.value;
          others = λ q a b. r.others q a b.0 b.1;
          memory = r.memory;
          accesses_are = r.accesses;
        } in
        let u = keeps (object_bytes m) (space_bytes m) front w k.base fp k.room (k.place x) n w.accesses computes small
        frame_w x_in in
        let stand = all_append l (asking 63 0 1 ++ Ecall ∷ []) tail (address f pc) (laid.blocks f pc i at) in
        let go = straight_comes l fit tail d w (subst (λ q. AllStand l q tail) (sym pc_is) stand.1) u.go shows in
        let whole : length (block m p plans f pc i) ≡ 5 + length tail = omega arith in
        record {
          steps = length tail + 5;
          few = omega (arith, whole);
          after = go.after;
          is = runs_then (length tail) 5 c d run ∙ go.is;
          meets = record {
            view = performs tail w;
            shows = go.shows;
            pc_is = u.pc ∙ ap (λ q. q + 4 * length tail) pc_is
                ∙ sym (laid.next f pc i at tt ∙ ap (λ q. address f pc + 4 * q) whole ∙ omega arith);
            is_at = made m p plans address regions ok can.rooms f pc x n g i s s' frames w tail (object_bytes m)
                w.accesses there at (inl refl) x_live refl values memory u is_at;
            accesses = u.accesses_are ∙ seen ∙ sym accesses;
            outside = record {
              input = go.stays.input ∙ outside.input;
              output = go.stays.output ∙ outside.output;
              errors = go.stays.errors ∙ outside.errors;
              taken = go.stays.taken ∙ outside.taken;
            };
          };
        }

    -- the call's arguments stand ready
    pub record Asked (number descriptor : ℕ) : Type 0 where
      pub view : View
      pub comes : Comes (layout_of m table code) 4 c view
      pub ask : IsAsking h.view view number descriptor 1 (region_start m Arguments)
      pub pc_is : view.pc ≡ address f pc + 4 * 4

    asked : (number descriptor : ℕ) → number < 2 ^ 11 → descriptor < 2 ^ 11
        → AllStand (layout_of m table code) (address f pc) (asking number descriptor 1) → Asked number descriptor
    asked number descriptor hn hd stand =
        let l = layout_of m table code in
        let ask = asking_asks h.view number descriptor 1 (region_start m Arguments) hn hd (omega arith) h.is_at.zero_is
        h.is_at.arguments (omega (arith, regions.arguments, regions.calls, regions.end)) in
        record {
          view = performs (asking number descriptor 1) h.view;
          comes = straight_comes l fit (asking number descriptor 1) c h.view
              (subst (λ q. AllStand l q (asking number descriptor 1)) (sym h.pc_is) stand) (tt, (tt, (tt, (tt, tt))))
              h.shows;
          ask = ask;
          pc_is = ask.pc ∙ ap (λ q. q + 16) h.pc_is ∙ omega arith;
        }

    pub get_nothing_steps : (x : ℕ) → instruction_at p f pc ≡ Some (flat.Get x) → pc + 1 < length g.body
        → s.input ≡ [] → s'.values ≡ put s.values x (2 ^ 64 - 1) → s'.memory ≡ s.memory → s'.accesses ≡ s.accesses
        → s'.input ≡ s.input → s'.output ≡ s.output → s'.taken ≡ s.taken
        → Steps m p plans table code address entry regions ok fit laid can f (pc + 1) s' frames c
        (length (block m p plans f pc (flat.Get x)))
    unfolding block
    get_nothing_steps x at inside empty values memory accesses input output taken =
        let l = layout_of m table code in
        let i = flat.Get x in
        let k = keeping p plans f in
        let tail = received_block (k.place x) k.base in
        let stand = all_append l (asking 63 0 1) (Ecall ∷ tail) (address f pc) (laid.blocks f pc i at) in
        let a = asked 63 0 (omega arith) (omega arith) stand.0 in
        let w = a.view in
        let e = reads_nothing l a.comes.after w fit
        (subst (λ q. AllStand l q (Ecall ∷ tail)) (sym a.pc_is) stand.1).0 a.ask.number_is a.ask.descriptor_is
        a.ask.count (subst (λ q. IsOfData (object_bytes m) (space_bytes m) q 1) (sym a.ask.buffer) buffer_lies)
        (a.comes.stays.input ∙ h.outside.input ∙ empty) a.comes.shows in
        let w1 : View = record w { pc = w.pc + 4; registers = with_value w.registers 10 0 } in
        let stay : (r : ℕ) → r ≢ 17 → r ≢ 10 → r ≢ 11 → r ≢ 12 → w1.registers r ≡ h.view.registers r =
        λ r n17 n10 n11 n12. with_other w.registers 10 0 r n10 ∙ a.ask.others r n17 n10 n11 n12 in
        let byte = w1.memory (region_start m Arguments) in
        let value : wrap (byte * 0 % 2 ^ 64 + wrap (0 + (2 ^ 64 - 1))) ≡ 2 ^ 64 - 1 = omega arith in
        let ten : w1.registers 10 ≡ 0 = with_same w.registers 10 0 (omega arith) in
        received_steps x 0 (2 ^ 64 - 1) e.0 w1 at inside e.2 (ap (λ q. q + 4) a.pc_is ∙ omega arith)
        (still_there f pc g s frames h.view w1 there
        (λ r lt. stay r (omega arith) (omega arith) (omega arith) (omega arith)) (λ r q. stay r q.a7 q.a0 q.a1 q.a2)
        (λ b out. ap (λ z. z b) a.ask.memory) h.is_at)
        ten value (omega arith) (a.ask.accesses ∙ h.accesses)
        (record {
          input = e.3.input ∙ a.comes.stays.input ∙ h.outside.input ∙ sym input;
          output = e.3.output ∙ a.comes.stays.output ∙ h.outside.output ∙ sym output;
          errors = e.3.errors ∙ a.comes.stays.errors ∙ h.outside.errors;
          taken = e.3.taken ∙ a.comes.stays.taken ∙ h.outside.taken ∙ sym taken;
        }) values memory accesses (runs_then 1 4 c a.comes.after a.comes.is ∙ e.1)

    pub get_byte_steps : (x byte : ℕ) (rest : List ℕ) → instruction_at p f pc ≡ Some (flat.Get x)
        → pc + 1 < length g.body
        → s.input ≡ byte ∷ rest → s'.values ≡ put s.values x (byte % 256) → s'.memory ≡ s.memory
        → s'.accesses ≡ s.accesses
        → s'.input ≡ rest → s'.output ≡ s.output → s'.taken ≡ s.taken + 1
        → Steps m p plans table code address entry regions ok fit laid can f (pc + 1) s' frames c
        (length (block m p plans f pc (flat.Get x)))
    unfolding block
    get_byte_steps x byte rest at inside some values memory accesses input output taken =
        let l = layout_of m table code in
        let i = flat.Get x in
        let k = keeping p plans f in
        let tail = received_block (k.place x) k.base in
        let stand = all_append l (asking 63 0 1) (Ecall ∷ tail) (address f pc) (laid.blocks f pc i at) in
        let a = asked 63 0 (omega arith) (omega arith) stand.0 in
        let w = a.view in
        let e = reads_byte l a.comes.after w byte rest fit
        (subst (λ q. AllStand l q (Ecall ∷ tail)) (sym a.pc_is) stand.1).0 a.ask.number_is a.ask.descriptor_is
        a.ask.count (subst (λ q. IsOfData (object_bytes m) (space_bytes m) q 1) (sym a.ask.buffer) buffer_lies)
        (a.comes.stays.input ∙ h.outside.input ∙ some) a.comes.shows in
        let w1 : View = record w {
          pc = w.pc + 4;
          registers = with_value w.registers 10 1;
          memory = store 1 w.memory (w.registers 11) byte;
        } in
        let stay : (r : ℕ) → r ≢ 17 → r ≢ 10 → r ≢ 11 → r ≢ 12 → w1.registers r ≡ h.view.registers r =
        λ r n17 n10 n11 n12. with_other w.registers 10 1 r n10 ∙ a.ask.others r n17 n10 n11 n12 in
        let mem : w1.memory ≡ store 1 h.view.memory (region_start m Arguments) byte =
        ap (λ q. store 1 w.memory q byte) a.ask.buffer
        ∙ ap (λ q. store 1 q (region_start m Arguments) byte) a.ask.memory in
        let byte_is : w1.memory (region_start m Arguments) ≡ byte % 256 =
        ap (λ q. q (region_start m Arguments)) mem ∙ stored_byte h.view.memory (region_start m Arguments) byte in
        let value : wrap (w1.memory (region_start m Arguments) * 1 % 2 ^ 64 + wrap (1 + (2 ^ 64 - 1))) ≡ byte % 256 =
        ap (λ q. wrap (q * 1 % 2 ^ 64 + wrap (1 + (2 ^ 64 - 1)))) byte_is ∙ omega arith in
        let ten : w1.registers 10 ≡ 1 = with_same w.registers 10 1 (omega arith) in
        received_steps x 1 (byte % 256) e.0 w1 at inside e.2 (ap (λ q. q + 4) a.pc_is ∙ omega arith)
        (still_there f pc g s frames h.view w1 there
        (λ r lt. stay r (omega arith) (omega arith) (omega arith) (omega arith)) (λ r q. stay r q.a7 q.a0 q.a1 q.a2)
        (λ b out. ap (λ z. z b) mem
        ∙ stored.store_beside 1 h.view.memory (region_start m Arguments) byte b out) h.is_at)
        ten value (omega arith) (a.ask.accesses ∙ h.accesses)
        (record {
          input = e.3.input ∙ sym input;
          output = e.3.output ∙ a.comes.stays.output ∙ h.outside.output ∙ sym output;
          errors = e.3.errors ∙ a.comes.stays.errors ∙ h.outside.errors;
          taken = e.3.taken ∙ ap (λ q. q + 1) (a.comes.stays.taken ∙ h.outside.taken) ∙ sym taken;
        }) values memory accesses (runs_then 1 4 c a.comes.after a.comes.is ∙ e.1)

    pub exit_steps : (x : ℕ) → instruction_at p f pc ≡ Some (flat.Exit x)
        → s'.accesses ≡ s.accesses → s'.output ≡ s.output → s'.taken ≡ s.taken
        → Ends (s.values x % 256) [] s' c (length (block m p plans f pc (flat.Exit x)))
    unfolding block
    exit_steps x at accesses output taken =
        let k = keeping p plans f in
        let l = layout_of m table code in
        let i = flat.Exit x in
        let fp = record_of m p f frames in
        let live = ok.reads f pc g i there at (wanted_none m p plans table code address entry regions ok fit laid can f pc i refl) x
        (rw (among_one x) refl) in
        let inside = (ok.kept f pc g there).inside x live in
        let front = fetch (k.place x) k.base 5 in
        let last = OpImm Addi 10 (used (k.place x) 5) 0 ∷ OpImm Addi 17 0 93 ∷ [] in
        let u = fetches (object_bytes m) (space_bytes m) (k.place x) k.base 5 fp k.room h.view (omega arith) frame
        inside in
        let v0 = h.view in
        let w0 = performs front v0 in
        let w1 = perform (OpImm Addi 10 (used (k.place x) 5) 0) w0 in
        let w2 = perform (OpImm Addi 17 0 93) w1 in
        let word : wrap (s.values x + sext 12 0) ≡ s.values x = omega (arith, words.values x) in
        let ten : w2.registers 10 ≡ s.values x = immediate_other w1 17 0 93 10 (omega arith)
        ∙ immediate w0 10 (used (k.place x) 5) 0 (s.values x) (omega arith)
        (ap (λ q. wrap (q + sext 12 0)) (u.value ∙ h.is_at.held x live) ∙ word) in
        let nought : w1.registers 0 ≡ 0 = immediate_other w0 10 (used (k.place x) 5) 0 0 (omega arith)
        ∙ u.others 0 (omega arith) ∙ h.is_at.zero_is in
        let seventeen : w2.registers 17 ≡ 93 = immediate w1 17 0 93 93 (omega arith)
        (ap (λ q. wrap (q + sext 12 93)) nought) in
        let whole = all_append l front (last ++ Ecall ∷ []) (address f pc) (laid.blocks f pc i at) in
        let rest = all_append l last (Ecall ∷ []) (address f pc + 4 * length front) whole.1 in
        let both = straight_comes l fit front c v0 (subst (λ q. AllStand l q front) (sym h.pc_is) whole.0) u.go
        h.shows in
        let pc_w0 : w0.pc ≡ address f pc + 4 * length front = u.pc ∙ ap (λ q. q + 4 * length front) h.pc_is in
        let then_last = straight_comes l fit last both.after w0 (subst (λ q. AllStand l q last) (sym pc_w0) rest.0)
        (tt, (tt, tt)) both.shows in
        let pc_w2 : w2.pc ≡ address f pc + 4 * length front + 4 * 2 = ap (λ q. q + 4 + 4) pc_w0 ∙ omega arith in
        let e = exits l then_last.after w2 fit (subst (λ q. AllStand l q (Ecall ∷ [])) (sym pc_w2) rest.1).0 seventeen
        then_last.shows in
        let long = length-append front (last ++ Ecall ∷ []) in
        record {
          steps = 1 + (2 + length front);
          few = omega (arith, long);
          after = (then_last.after, Some (Exited (w2.registers 10 % 256)));
          is = runs_then 1 (2 + length front) c then_last.after
              (runs_then 2 (length front) c both.after both.is ∙ then_last.is) ∙ e;
          ended = record {
            ending = ap (λ q. Some (Exited (q % 256))) ten;
            output = then_last.stays.output ∙ both.stays.output ∙ h.outside.output ∙ sym output;
            errors = then_last.stays.errors ∙ both.stays.errors ∙ h.outside.errors;
            taken = then_last.stays.taken ∙ both.stays.taken ∙ h.outside.taken ∙ sym taken;
            accesses = then_last.shows.accesses_are ∙ no_access w1.accesses w1.pc ∙ no_access w0.accesses w0.pc
                ∙ u.accesses ∙ h.accesses ∙ sym accesses;
          };
        }

    -- the line comes to its register, and the machine to the tail
    tail_steps : (e : Ending) (what : List ℕ) (line status : ℕ) (before behind : List Instr)
        → instruction_at p f pc ≡ Some (flat.End e)
        → block m p plans f pc (flat.End e) ≡ jump_block line (tails_address p + 4 * length before)
        → tails ≡ before ++ (tail_block what status ++ behind)
        → are_bytes (text_before what) ≡ true → 2 < length (text_before what) → length (text_before what) ≤ 35
        → line < 2 ^ 32 → status < 256
        → s'.accesses ≡ s.accesses → s'.output ≡ s.output → s'.taken ≡ s.taken
        → Ends status (report_at what line) s' c (6 + 6 * length (report_at what line))
    tail_steps e what line status before behind at block_is parts bytes some few word low accesses output taken =
        let l = layout_of m table code in
        let o = object_bytes m in
        let z = space_bytes m in
        let v0 = h.view in
        let tail = tails_address p + 4 * length before in
        let is = Lui 5 (upper line) ∷ OpImm Addi 5 5 (lower line) ∷ Lui 7 (upper tail) ∷ [] in
        let stands : AllStand l v0.pc (is ++ (Jalr 0 7 (lower tail) ∷ [])) =
        subst (λ q. AllStand l q (jump_block line tail)) (sym h.pc_is)
        (subst (AllStand l (address f pc)) block_is (laid.blocks f pc (flat.End e) at)) in
        let both = all_append l is (Jalr 0 7 (lower tail) ∷ []) v0.pc stands in
        let first = straight_comes l fit is c v0 both.0 (tt, (tt, (tt, tt))) h.shows in
        let n = wrap (sext 32 (upper line * 2 ^ 12) + sext 12 (lower line)) in
        let g = wide_makes o z 5 line n v0 (omega arith) refl in
        let v1 = performs (wide 5 line) v0 in
        let up = sext 32 (upper tail * 2 ^ 12) in
        let v2 = perform (Lui 7 (upper tail)) v1 in
        let long = ap length parts in
        let long1 = length-append before (tail_block what status ++ behind) in
        let end = laid.tails_end in
        let tail_low : tail < 2 ^ 31 - 2 ^ 11 = omega arith in
        let seven : wrap (v2.registers 7 + sext 12 (lower tail)) ≡ tail =
        ap (λ q. wrap (q + sext 12 (lower tail))) (with_same v1.registers 7 up (omega arith))
        ∙ wide_parts tail tail_low in
        let at3 : v0.pc + 4 * 3 ≡ v2.pc = let q : v0.pc + 4 * 3 ≡ v0.pc + 4 + 4 + 4 = omega arith in q in
        let j = jalr l 0 7 (lower tail) tail first.after v2 fit
        (subst (λ q. AllStand l q (Jalr 0 7 (lower tail) ∷ [])) at3 both.1).0 seven (omega arith) first.shows in
        let w : View = record v2 { pc = tail; registers = with_value v2.registers 0 (v2.pc + 4) } in
        let all = all_append l before (tail_block what status ++ behind) (tails_address p)
        (subst (AllStand l (tails_address p)) parts laid.tails_stand) in
        let its = all_append l (tail_block what status) behind tail all.1 in
        let stay : (r : ℕ) → r ≢ 5 → r ≢ 7 → w.registers r ≡ v0.registers r =
        λ r n5 n7. with_other v1.registers 7 up r n7 ∙ g.others r n5 in
        let five : low_word (w.registers 5) ≡ line =
        ap low_word (with_other v1.registers 7 up 5 (omega arith) ∙ g.value) ∙ low_parts line word in
        let from : spaces_begin ≤ region_start m Arguments = omega (arith, regions.cells_low, regions.cells) in
        let lies : IsOfData o z (region_start m Arguments) (2 ^ 11) = inr (
          from,
          omega (arith, regions.arguments, regions.calls, regions.space),
        ) in
        let t = tells l fit (region_start m Arguments) from
        (omega (arith, regions.arguments, regions.calls, regions.end)) lies what line status j.0 w
        (all_bytes (text_before what) bytes) some few word low five
        (stay 0 (omega arith) (omega arith) ∙ h.is_at.zero_is)
        (stay 3 (omega arith) (omega arith) ∙ h.is_at.arguments) (omega arith) its.0 j.2 in
        record {
          steps = t.steps + (1 + 3);
          few = omega (arith, t.few);
          after = t.after;
          is = runs_then t.steps (1 + 3) c j.0 (runs_then 1 3 c first.after first.is ∙ j.1) ∙ t.is;
          ended = record {
            ending = t.ending;
            output = t.output ∙ j.3.output ∙ first.stays.output ∙ h.outside.output ∙ sym output;
            errors = t.errors ∙ ap (λ q. q ++ report_at what line)
                (j.3.errors ∙ first.stays.errors ∙ h.outside.errors);
            taken = t.taken ∙ j.3.taken ∙ first.stays.taken ∙ h.outside.taken ∙ sym taken;
            accesses = t.accesses ∙ no_access v1.accesses v1.pc ∙ g.accesses ∙ h.accesses ∙ sym accesses;
          };
        }

    pub end_steps : (e : Ending) → instruction_at p f pc ≡ Some (flat.End e)
        → s'.accesses ≡ s.accesses → s'.output ≡ s.output → s'.taken ≡ s.taken
        → Ends (code_of e) (report_of e) s' c (6 + 6 * length (report_of e))
    unfolding block tails are_bytes
    end_steps (ending.Exit n) at accesses output taken =
        let l = layout_of m table code in
        let i = flat.End (ending.Exit n) in
        let from : spaces_begin ≤ region_start m Arguments = omega (arith, regions.cells_low, regions.cells) in
        let lies : IsOfData (object_bytes m) (space_bytes m) (region_start m Arguments) (2 ^ 11) = inr (
          from,
          omega (arith, regions.arguments, regions.calls, regions.space),
        ) in
        let x = ends l fit (region_start m Arguments) from
        (omega (arith, regions.arguments, regions.calls, regions.end)) lies (code_of (ending.Exit n)) c h.view
        (can.status f pc (ending.Exit n) at) h.is_at.zero_is
        (subst (λ q. AllStand l q (ended (code_of (ending.Exit n)))) (sym h.pc_is) (laid.blocks f pc i at)) h.shows in
        record {
          steps = 3;
          few = omega arith;
          after = (x.after, Some (Exited (code_of (ending.Exit n))));
          is = x.is;
          ended = record {
            ending = refl;
            output = x.output ∙ h.outside.output ∙ sym output;
            errors = x.errors ∙ h.outside.errors;
            taken = x.taken ∙ h.outside.taken ∙ sym taken;
            accesses = x.accesses ∙ h.accesses ∙ sym accesses;
          };
        }
    end_steps (ending.Spatial line) at accesses output taken =
        tail_steps (ending.Spatial line) (codes "spatial violation") line 120 (tails_before reported 120)
        (tails_of (ending.Temporal 1 ∷ ending.BadCall 1 ∷ ending.BadFree 1 ∷ ending.Divide 1 ∷ ending.Stack 1
        ∷ ending.Keys 1 ∷ ending.Abort 1 ∷ [])) at
        refl refl refl (omega arith) (omega arith) (can.line f pc (ending.Spatial line) at) (omega arith) accesses
        output taken
    end_steps (ending.Temporal line) at accesses output taken =
        tail_steps (ending.Temporal line) (codes "temporal violation") line 121 (tails_before reported 121)
        (tails_of (ending.BadCall 1 ∷ ending.BadFree 1 ∷ ending.Divide 1 ∷ ending.Stack 1 ∷ ending.Keys 1
        ∷ ending.Abort 1 ∷ [])) at
        refl refl refl (omega arith) (omega arith) (can.line f pc (ending.Temporal line) at) (omega arith) accesses
        output taken
    end_steps (ending.BadCall line) at accesses output taken =
        tail_steps (ending.BadCall line) (codes "bad call") line 122 (tails_before reported 122)
        (tails_of (ending.BadFree 1 ∷ ending.Divide 1 ∷ ending.Stack 1 ∷ ending.Keys 1 ∷ ending.Abort 1 ∷ [])) at
        refl refl refl (omega arith) (omega arith) (can.line f pc (ending.BadCall line) at) (omega arith) accesses
        output taken
    end_steps (ending.BadFree line) at accesses output taken =
        tail_steps (ending.BadFree line) (codes "bad free") line 123 (tails_before reported 123)
        (tails_of (ending.Divide 1 ∷ ending.Stack 1 ∷ ending.Keys 1 ∷ ending.Abort 1 ∷ [])) at
        refl refl refl (omega arith) (omega arith) (can.line f pc (ending.BadFree line) at) (omega arith) accesses
        output taken
    end_steps (ending.Divide line) at accesses output taken =
        tail_steps (ending.Divide line) (codes "division by zero") line 124 (tails_before reported 124)
        (tails_of (ending.Stack 1 ∷ ending.Keys 1 ∷ ending.Abort 1 ∷ [])) at
        refl refl refl (omega arith) (omega arith) (can.line f pc (ending.Divide line) at) (omega arith) accesses
        output taken
    end_steps (ending.Stack line) at accesses output taken =
        tail_steps (ending.Stack line) (codes "stack exhausted") line 125 (tails_before reported 125)
        (tails_of (ending.Keys 1 ∷ ending.Abort 1 ∷ [])) at
        refl refl refl (omega arith) (omega arith) (can.line f pc (ending.Stack line) at) (omega arith) accesses
        output taken
    end_steps (ending.Keys line) at accesses output taken =
        tail_steps (ending.Keys line) (codes "keys exhausted") line 126 (tails_before reported 126)
        (tails_of (ending.Abort 1 ∷ [])) at
        refl refl refl (omega arith) (omega arith) (can.line f pc (ending.Keys line) at) (omega arith) accesses
        output taken
    end_steps (ending.Abort line) at accesses output taken =
        tail_steps (ending.Abort line) (codes "abort") line 134 (tails_before reported 134)
        (tails_of []) at
        refl refl refl (omega arith) (omega arith) (can.line f pc (ending.Abort line) at) (omega arith) accesses
        output taken
