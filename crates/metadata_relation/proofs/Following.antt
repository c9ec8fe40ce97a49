-- Flat code follows the instructions that are covered, from stage to stage.
use Rattle.std.proofs.Common.{◌≡◌, ℕ, ◌^◌, ◌<◌, ◌&&◌, ◌||◌, Bool, true, false, List, Option, Some, None, refl, sym, ap}
use Rattle.std.proofs.Common.{◌∙◌, subst}
use Rattle.std.specs.Prelude.{slice_get, nat_le, ◌==◌}
use Rattle.std.proofs.lemmas.Bool.{and_parts, eq-eqb, leb-true, ltb-true, or_right}
use Rattle.std.proofs.lemmas.Option.{same_Some}
use Rattle.obj_memory.specs.declared.value.Scalar.{Scalar}
use Rattle.obj_memory.specs.declared.value.Scalar.TheVariants.{Integer, Pointer}
use Rattle.c_tree.specs.declared.expression.Kind.{Kind}
use Rattle.c_tree.specs.declared.expression.Kind.TheVariants.{Void, Scalar as OfScalar, Structure, Array}
use Rattle.source_meaning.specs.State.{State}
use Rattle.source_meaning.specs.Good.{plain_type}
use Rattle.tac_ir.specs.declared.instruction.Instruction.{Instruction}
use Rattle.tac_ir.specs.declared.instruction.Instruction.TheVariants as tac
use Rattle.tac_ir.specs.Stage.{Temps, Frame, Stands, Stuck}
use Rattle.tac_ir.specs.Costs.{cost, spent}
use Rattle.tac_ir.specs.Meaning.{effect, fits, act_at, code_of, step}
use Rattle.tac_ir.proofs.Fits.{act_fits}
use Rattle.flat_code.specs.Memory.{Bytes}
use Rattle.flat_code.specs.State as flat
use Rattle.flat_code.specs.Words.{HasWords}
use Rattle.metadata_plan.specs.Entries.{has_area}
use Rattle.metadata_plan.specs.Registers.{all_variables}
use Rattle.metadata_relation.specs.Blocks.{is_short}
use Rattle.metadata_relation.specs.Contents.{is_right, takes_word}
use Rattle.metadata_relation.specs.Stages.{Compiled, map_of, expansion_of, IsAt, MatchesBy, Matches}
use Rattle.metadata_relation.specs.Steps.{IsCompiled, covers, admits, is_few, is_part, is_scalar_type, is_settled}
use Rattle.metadata_relation.specs.Steps.{is_update_by_word, IsCovered, ComesToMatch}
use Rattle.metadata_plan.proofs.Flat.{words_kept}
use Rattle.metadata_relation.proofs.Standing.{node, Result}
use Rattle.metadata_relation.proofs.Simple.{constant, unary, binary, skip_step, branch, turn, case}
use Rattle.metadata_relation.proofs.Moving.{get_plain, zero_of_scalar, zero_of_void, convert_void, convert_integer}
use Rattle.metadata_relation.proofs.Moving.{convert_array, convert_pointer, convert_structure, zero_of_array}
use Rattle.metadata_relation.proofs.Setting.{set_plain_step}
use Rattle.metadata_relation.proofs.Pointers.{home_pointer, offset}
use Rattle.metadata_relation.proofs.Checking.{judge}
use Rattle.metadata_relation.proofs.EnteredBlocks.{enter_step}
use Rattle.metadata_relation.proofs.Leaving.{leave_step}
use Rattle.metadata_relation.proofs.CopiedStructures.{store_structure, write_structure}
use Rattle.metadata_relation.proofs.StoredParts.{store_part}
use Rattle.metadata_relation.proofs.StoredTexts.{store_text}
use Rattle.metadata_relation.proofs.Reading.{read_at}
use Rattle.metadata_relation.proofs.ReadParts.{read_scalar}
use Rattle.metadata_relation.proofs.ReadStructures.{read_structure}
use Rattle.metadata_relation.proofs.TakenStructures.{take_structure}
use Rattle.metadata_relation.proofs.ZeroStructures.{zero_structure}
use Rattle.metadata_relation.proofs.AssignedStructures.{store_contents, write_contents}
use Rattle.metadata_relation.proofs.UpdateSteps.{update_place}
use Rattle.metadata_relation.proofs.Writing.{write}
use Rattle.metadata_relation.proofs.Zeroing.{zero_step}
use Rattle.tac_ir.specs.declared.instruction.Mode.{Mode}
use Rattle.tac_ir.specs.Fitting.{is_in_place, is_scalar_of, is_update_of, is_word}
use Rattle.metadata_relation.proofs.Named.{function_pointer_step, static_pointer_step}
use Rattle.metadata_relation.proofs.Differences.{difference_step}
use Rattle.metadata_relation.proofs.MemberParts.{member_step}
use Rattle.metadata_relation.proofs.Members.{narrow_step}
use Rattle.metadata_relation.proofs.Updating.{update_plain_step}
use Rattle.metadata_relation.proofs.LibraryCalls.{routine_step}
use Rattle.metadata_relation.proofs.Calls.{call_step}
use Rattle.metadata_relation.proofs.Printing.{print_step}
use Rattle.metadata_relation.proofs.CallsThrough.{call_through_step}
use Rattle.metadata_relation.proofs.Returns.{return_step}

part_is : (offset size : ℕ) → is_part offset size ≡ true
    → (offset < 2 ^ 64) × (size < 2 ^ 64)
    × (((is_short offset || is_short size) || (is_few offset && is_few size)) ≡ true)
part_is offset size e =
    let p = and_parts (is_word offset && is_word size)
    ((is_short offset || is_short size) || (is_few offset && is_few size)) e in
    let w = and_parts (is_word offset) (is_word size) p.0 in
    (ltb-true offset (2 ^ 64) w.0, ltb-true size (2 ^ 64) w.1, p.1)

module _ (c : Compiled) (IsGood : Bytes → Type 0) (right : IsCompiled c IsGood) (u n : ℕ) (temps : Temps)
    (ws : List Frame) (s : State) (v : flat.State) (xs : List flat.Frame)
    (h : IsAt c IsGood u n temps ws s u (c.layout.address u n) v xs)
    (words : HasWords (flat.Stands u (c.layout.address u n) v xs))
    (admitted : (i : Instruction) → slice_get h.code.code n ≡ Some i → admits c u n i ≡ true)
    (fine : (i : Instruction) → slice_get h.code.code n ≡ Some i
    → (effect c.setting (expansion_of c).code i u temps ws (spent (cost i) s) ≡ Stuck → ⊥)) where
  abbrev Does : Instruction → Type 0
  Does i = slice_get h.code.code n ≡ Some i → covers h.code i ≡ true
      → fits c.setting (expansion_of c).code i u temps (spent (cost i) s) ≡ true
      → Result c IsGood (effect c.setting (expansion_of c).code i u temps ws (spent (cost i) s))
      (flat.Stands u (c.layout.address u n) v xs)

  zero : (kind : Kind) (d m : ℕ) → Does (tac.ZeroOf kind d m)
  zero Void d m at e f = zero_of_void c IsGood right u n temps ws s v xs h words.0 d m at
  zero (OfScalar k) d m at e f = zero_of_scalar c IsGood right u n temps ws s v xs h words.0 k d m at
  zero (Structure size) d m at e f =
      let i = tac.ZeroOf (Structure size) d m in
      let nd = node c IsGood right u n temps ws s v xs h i at in
      zero_structure c IsGood right right.areas u n temps ws s v xs h words size d m (leb-true 1 size e) at
      (admitted i at) nd.put.has nd.put.leads
  zero (Array size) d m at e f = zero_of_array c IsGood right u n temps ws s v xs h words.0 size d m at

  converts : (kind : Kind) (d a m : ℕ) → Does (tac.Convert kind d a m)
  converts Void d a m at e f = convert_void c IsGood right u n temps ws s v xs h words.0 d a m at
  converts (OfScalar (Integer t)) d a m at e f =
      convert_integer c IsGood right u n temps ws s v xs h words.0 t d a m at
  converts (OfScalar Pointer) d a m at e f = convert_pointer c IsGood right u n temps ws s v xs h words.0 d a m at
  converts (Structure size) d a m at e f = convert_structure c IsGood right u n temps ws s v xs h words.0 size d a m at
  converts (Array size) d a m at e f = convert_array c IsGood right u n temps ws s v xs h words.0 size d a m at

  reads : (d x m : ℕ) (o : Option Scalar) → plain_type (all_variables h.code) x ≡ o → Does (tac.GetPlain d x m)
  reads d x m None typed at e f =
      let no : false ≡ true = ap is_scalar_type (sym typed) ∙ e in cc
  reads d x m (Some k) typed at e f = get_plain c IsGood right u n temps ws s v xs h words.0 d x m k at typed

  takes : (kind : Kind) (line d a m : ℕ) → Does (tac.Take kind line d a m)
  takes (Structure size) line d a m at e f =
      let i = tac.Take (Structure size) line d a m in
      let nd = node c IsGood right u n temps ws s v xs h i at in
      take_structure c IsGood right right.areas u n temps ws s v xs h words size line d a m (leb-true 1 size e) at
      (admitted i at) nd.put.has nd.put.leads f (fine i at)
  takes Void line d a m at e f = cc
  takes (OfScalar k) line d a m at e f = cc
  takes (Array size) line d a m at e f = cc

  -- whose word is taken, has no contents
  plain : (i : Instruction) (a : ℕ) → slice_get h.code.code n ≡ Some i → takes_word i a ≡ true
      → c.layout.expansion.contents u n a ≡ false
  plain i a at e = (node c IsGood right u n temps ws s v xs h i at).kept.words n a i at e

  read_by : (kind : Kind) (mode : Mode) (line : ℕ) (key : Option ℕ) (d a m : ℕ)
      → Does (tac.Read kind mode line key d a m)
  read_by (OfScalar k) mode line key d a m at e f =
      let i = tac.Read (OfScalar k) mode line key d a m in
      read_scalar c IsGood right u n temps ws s v xs h words k mode line key d a m e at (fine i at)
  read_by Void mode line key d a m at e f =
      let i = tac.Read Void mode line key d a m in
      read_at c IsGood right u n temps ws s v xs h words.0 Void refl mode line key d a m e at
      (plain i a at (eq-eqb a a refl)) (fine i at)
  read_by (Structure size) mode line key d a m at e f =
      let i = tac.Read (Structure size) mode line key d a m in
      read_structure c IsGood right u n temps ws s v xs h words size mode line key d a m e at
      (and_parts (is_in_place (temps a).contents d a) _ f).0 (fine i at)
  read_by (Array size) mode line key d a m at e f =
      let i = tac.Read (Array size) mode line key d a m in
      read_at c IsGood right u n temps ws s v xs h words.0 (Array size) refl mode line key d a m e at
      (plain i a at (eq-eqb a a refl)) (fine i at)

  -- a structure is assigned from its place alone where no contents can be there
  structure_by : (area : Bool) (size : ℕ) (mode : Mode) (line : ℕ) (key : Option ℕ) (d a b m : ℕ)
      → has_area c.layout.expansion.code h.code b ≡ area → Does (tac.Write (Structure size) mode line key d a b m)
  structure_by false size mode line key d a b m none at e f =
      let i = tac.Write (Structure size) mode line key d a b m in
      let p = and_parts (is_settled mode) (is_word size) e in
      write_structure c IsGood right u n temps ws s v xs h words size mode line key d a b m p.0
      (ltb-true size (2 ^ 64) p.1) at none (fine i at)
  structure_by true size mode line key d a b m area at e f =
      let i = tac.Write (Structure size) mode line key d a b m in
      let p = and_parts (is_settled mode) (is_word size) e in
      write_contents c IsGood right u n temps ws s v xs h words size mode line key d a b m p.0
      (ltb-true size (2 ^ 64) p.1) at area (fine i at)

  write_by : (kind : Kind) (mode : Mode) (line : ℕ) (key : Option ℕ) (d a b m : ℕ)
      → Does (tac.Write kind mode line key d a b m)
  write_by (OfScalar k) mode line key d a b m at e f =
      let i = tac.Write (OfScalar k) mode line key d a b m in
      write c IsGood right u n temps ws s v xs h words.0 k mode line key d a b m e at
      (plain i a at (eq-eqb a a refl)) (and_parts (is_scalar_of k (temps b)) _ f).0 (fine i at)
  write_by Void mode line key d a b m at e f = cc
  write_by (Structure size) mode line key d a b m at e f =
      structure_by (has_area c.layout.expansion.code h.code b) size mode line key d a b m refl at e f
  write_by (Array size) mode line key d a b m at e f = cc

  structure_part_by : (area : Bool) (size line x offset a m : ℕ)
      → has_area c.layout.expansion.code h.code a ≡ area → Does (tac.StorePart (Structure size) line x offset a m)
  structure_part_by false size line x offset a m none at e f =
      let i = tac.StorePart (Structure size) line x offset a m in
      let p = and_parts (is_word offset) (is_word size) e in
      store_structure c IsGood right u n temps ws s v xs h words size line x offset a m (ltb-true offset (2 ^ 64) p.0)
      (ltb-true size (2 ^ 64) p.1) at none (fine i at)
  structure_part_by true size line x offset a m area at e f =
      let i = tac.StorePart (Structure size) line x offset a m in
      let p = and_parts (is_word offset) (is_word size) e in
      store_contents c IsGood right u n temps ws s v xs h words size line x offset a m (ltb-true offset (2 ^ 64) p.0)
      (ltb-true size (2 ^ 64) p.1) at area (fine i at)

  part_by : (kind : Kind) (line x offset a m : ℕ) → Does (tac.StorePart kind line x offset a m)
  part_by (OfScalar k) line x offset a m at e f =
      let i = tac.StorePart (OfScalar k) line x offset a m in
      store_part c IsGood right u n temps ws s v xs h words k line x offset a m (ltb-true offset (2 ^ 64) e) at f (fine i at)
  part_by Void line x offset a m at e f = cc
  part_by (Structure size) line x offset a m at e f =
      structure_part_by (has_area c.layout.expansion.code h.code a) size line x offset a m refl at e f
  part_by (Array size) line x offset a m at e f = cc

  instruction : (i : Instruction) → Does i
  instruction (tac.Skip m) at e f = skip_step c IsGood right u n temps ws s v xs h words.0 m at
  instruction (tac.Constant d w m) at e f = constant c IsGood right u n temps ws s v xs h words.0 d w m at f
  instruction (tac.GetPlain d x m) at e f = reads d x m (plain_type (all_variables h.code) x) refl at e f
  instruction (tac.SetPlain x a m) at e f = set_plain_step c IsGood right u n temps ws s v xs h x a m at f
  instruction (tac.HomePointer d x m) at e f = home_pointer c IsGood right u n temps ws s v xs h words.0 d x m at f
  instruction (tac.ZeroOf kind d m) at e f = zero kind d m at e f
  instruction (tac.Convert kind d a m) at e f = converts kind d a m at e f
  instruction (tac.Unary op ty d a m) at e f =
      unary c IsGood right u n temps ws s v xs h words.0 op ty d a m at
  instruction (tac.Binary op ty line d a b m) at e f =
      binary c IsGood right u n temps ws s v xs h words.0 op ty line d a b m at
  instruction (tac.Offset form size d a b m) at e f =
      offset c IsGood right u n temps ws s v xs h words.0 form size d a b m (ltb-true size (2 ^ 64) e) at
  instruction (tac.Take kind line d a m) at e f = takes kind line d a m at e f
  instruction (tac.Read kind mode line key d a m) at e f = read_by kind mode line key d a m at e f
  instruction (tac.Write kind mode line key d a b m) at e f = write_by kind mode line key d a b m at e f
  instruction (tac.Update w k fixity mode line end_line key d a r m) at e f =
      let i = tac.Update w k fixity mode line end_line key d a r m in
      let p = and_parts (is_settled mode) (is_update_by_word w) e in
      update_place c IsGood right u n temps ws s v xs h words w k fixity mode line end_line key d a r m p.0 at
      (plain i a at (or_right (is_right r a) (a == a) (eq-eqb a a refl))) (and_parts (is_update_of w k) _ f).0 p.1 (fine i at)
  instruction (tac.Judge test size line key a m) at e f =
      let sized = and_parts (nat_le 1 size) (is_word size) e in
      judge c IsGood right u n temps ws s v xs h words test size line key a m at (ltb-true size (2 ^ 64) sized.1)
      (leb-true 1 size sized.0) f (fine (tac.Judge test size line key a m) at)
  instruction (tac.StorePart kind line x offset a m) at e f = part_by kind line x offset a m at e f
  instruction (tac.StoreText t x offset m) at e f =
      store_text c IsGood right u n temps ws s v xs h words t x offset m at (fine (tac.StoreText t x offset m) at)
  instruction (tac.Zero x m) at e f =
      zero_step c IsGood right u n temps ws s v xs h words x m at (fine (tac.Zero x m) at)
  instruction (tac.EnterBlock b line m) at e f =
      enter_step c IsGood right u n temps ws s v xs h words b line m at e f
  instruction (tac.LeaveBlock b m) at e f =
      leave_step c IsGood right u n temps ws s v xs h words b m at (fine (tac.LeaveBlock b m) at)
  instruction (tac.Branch a x y) at e f = branch c IsGood right u n temps ws s v xs h words.0 a x y at
  instruction (tac.Case a w x y) at e f = case c IsGood right u n temps ws s v xs h words.0 a w x y at e
  instruction (tac.Turn counted m) at e f = turn c IsGood right u n temps ws s v xs h words.0 counted m at
  instruction (tac.FunctionPointer d g m) at e f =
      function_pointer_step c IsGood right u n temps ws s v xs h words d g m at f
  instruction (tac.StaticPointer d x m) at e f =
      static_pointer_step c IsGood right u n temps ws s v xs h words d x m at f
  instruction (tac.UpdatePlain w k fixity line d x r m) at e f =
      update_plain_step c IsGood right u n temps ws s v xs h words w k fixity line d x r m e at f
  instruction (tac.Difference size d a b m) at e f =
      let p = and_parts (nat_le 1 size) (is_few size) e in
      difference_step c IsGood right u n temps ws s v xs h words.0 size d a b m (leb-true 1 size p.0)
      (ltb-true size (2 ^ 33) p.1) at
  instruction (tac.Narrow offset size d a m) at e f =
      let p = part_is offset size e in
      narrow_step c IsGood right u n temps ws s v xs h words offset size d a m p.0 p.1 p.2 at
  instruction (tac.Member offset size d a m) at e f =
      let p = part_is offset size e in
      member_step c IsGood right u n temps ws s v xs h words offset size d a m p.0 p.1 p.2 at f
  instruction (tac.Library r line d count m) at e f =
      routine_step c IsGood right u n temps ws s v xs h words r line d count m at f
  instruction (tac.Print text line d count m) at e f =
      print_step c IsGood right u n temps ws s v xs h words text line d count m at f
      (admitted (tac.Print text line d count m) at)
  instruction (tac.Call g line d count m) at e f =
      call_step c IsGood right u n temps ws s v xs h words g line d count m at f (admitted (tac.Call g line d count m) at)
  instruction (tac.CallThrough type line d count m) at e f =
      call_through_step c IsGood right u n temps ws s v xs h words type line d count m at f
      (admitted (tac.CallThrough type line d count m) at)
  instruction (tac.Return a) at e f =
      return_step c IsGood right u n temps ws s v xs h words a at f
      (admitted (tac.Return a) at) (fine (tac.Return a) at)
  instruction i at e f = cc

-- a step from a node whose instruction is covered
module _ (c : Compiled) (IsGood : Bytes → Type 0) (right : IsCompiled c IsGood) (u n : ℕ) (temps : Temps)
    (ws : List Frame) (s : State) (covered : IsCovered c u n)
    (fine : step c.setting (expansion_of c).code (Stands u n temps ws s) ≡ Stuck → ⊥) where
  stands : (v : flat.State) (xs : List flat.Frame)
      → IsAt c IsGood u n temps ws s u (c.layout.address u n) v xs
      → HasWords (flat.Stands u (c.layout.address u n) v xs)
      → Result c IsGood (step c.setting (expansion_of c).code (Stands u n temps ws s))
      (flat.Stands u (c.layout.address u n) v xs)
  stands v xs h words = by (slice_get (code_of (slice_get (expansion_of c).code.functions u)) n) there fine
    where
      there : slice_get (code_of (slice_get (expansion_of c).code.functions u)) n ≡ Some covered.instruction
      there = ap (λ o. slice_get (code_of o) n) covered.there ∙ covered.at

      same_code : h.code ≡ covered.code
      same_code = same_Some h.code covered.code (sym h.there ∙ covered.there)

      by : (o : Option Instruction) → o ≡ Some covered.instruction
          → (act_at c.setting (expansion_of c).code o u temps ws s ≡ Stuck → ⊥)
          → Result c IsGood (act_at c.setting (expansion_of c).code o u temps ws s)
          (flat.Stands u (c.layout.address u n) v xs)
      by None e not_stuck = absurd (not_stuck refl)
      by (Some i) e not_stuck =
          let same : i ≡ covered.instruction = same_Some i covered.instruction e in
          let f = act_fits c.setting (expansion_of c).code i u temps ws (spent (cost i) s) not_stuck in
          let at = ap (λ z. slice_get z.code n) same_code ∙ covered.at ∙ ap Some (sym same) in
          subst (λ z. Result c IsGood z (flat.Stands u (c.layout.address u n) v xs)) (sym f.1)
          (instruction c IsGood right u n temps ws s v xs h words
          (λ j at. ap (admits c u n) (same_Some j covered.instruction
          (sym at ∙ ap (λ z. slice_get z.code n) same_code ∙ covered.at)) ∙ covered.admitted)
          (λ j there. subst (λ z. effect c.setting (expansion_of c).code z u temps ws (spent (cost z) s) ≡ Stuck → ⊥)
          (same_Some i j (sym at ∙ there)) (λ stuck. not_stuck (f.1 ∙ stuck))) i at
          (ap (λ z. covers z i) same_code ∙ ap (covers covered.code) same ∙ covered.covered) f.0)

  pub covered_step : (x : flat.Stage) → Matches c IsGood (Stands u n temps ws s) x
      → ComesToMatch c IsGood (step c.setting (expansion_of c).code (Stands u n temps ws s)) x
  covered_step x h = by x h.matches h.words
    where
      moved : (f : ℕ) → u ≡ f → (pc : ℕ) → c.layout.address u n ≡ pc → (v : flat.State) (xs : List flat.Frame)
          → IsAt c IsGood u n temps ws s f pc v xs → HasWords (flat.Stands f pc v xs)
          → Result c IsGood (step c.setting (expansion_of c).code (Stands u n temps ws s)) (flat.Stands f pc v xs)
      moved f e pc k v xs =
          subst (λ z. IsAt c IsGood u n temps ws s z pc v xs → HasWords (flat.Stands z pc v xs)
          → Result c IsGood (step c.setting (expansion_of c).code (Stands u n temps ws s)) (flat.Stands z pc v xs)) e
          (subst (λ z. IsAt c IsGood u n temps ws s u z v xs → HasWords (flat.Stands u z v xs)
          → Result c IsGood (step c.setting (expansion_of c).code (Stands u n temps ws s)) (flat.Stands u z v xs)) k
          (stands v xs))

      by : (x : flat.Stage) → MatchesBy c IsGood (Stands u n temps ws s) x → HasWords x
          → ComesToMatch c IsGood (step c.setting (expansion_of c).code (Stands u n temps ws s)) x
      by (flat.Stands f pc v xs) m w =
          let r = moved f (sym m.function) pc (sym m.place) v xs m w in
          record {
            steps = r.steps;
            matches = record {
              matches = r.matches;
              words = words_kept (map_of c) c.layout.program r.steps (flat.Stands f pc v xs) w;
            };
          }
      by (flat.Over status report v) m w = absurd m
      by flat.Stuck m w = absurd m
