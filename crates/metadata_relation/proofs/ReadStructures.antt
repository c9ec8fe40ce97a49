-- Structures that are read (C99 6.3.2.1 paragraph 2): the value goes on to be the place, or the contents.
use Rattle.std.proofs.Common.{◌≡◌, ◌⊎◌, inl, ℕ, ◌+◌, ◌*◌, ◌%◌, ◌^◌, ◌<◌, ◌≤◌, Bool, true, false, List, length}
use Rattle.std.proofs.Common.{Option, Some, None, refl, sym, ap, ◌∙◌, subst, arith, true≢false}
use Rattle.std.specs.Prelude.{slice_get, nat_le}
use Rattle.std.proofs.lemmas.Bool.{eqb-true, leb-true}
use Rattle.obj_memory.specs.declared.value.Value.{Value}
use Rattle.obj_memory.specs.Objects.{ObjectState, Objects}
use Rattle.c_tree.specs.declared.expression.Kind.TheVariants.{Structure}
use Rattle.source_meaning.specs.State.{Rvalue, State}
use Rattle.source_meaning.specs.Structures.{read_rvalue}
use Rattle.tac_ir.specs.declared.instruction.Instruction.{Instruction}
use Rattle.tac_ir.specs.declared.instruction.Instruction.TheVariants as tac
use Rattle.tac_ir.specs.declared.instruction.Mode.{Mode}
use Rattle.tac_ir.specs.declared.instruction.Mode.TheVariants.{Named, Unchecked, Judged}
use Rattle.tac_ir.specs.Accesses.{admitted, is_through}
use Rattle.tac_ir.specs.Costs.{cost, spent}
use Rattle.tac_ir.specs.Fitting.{is_in_place}
use Rattle.tac_ir.specs.Meaning.{effect, function_in as code_in, given_in, keyed, keys_of}
use Rattle.tac_ir.specs.Stage.{came, Frame, Stage, Stands, Stuck, Temps, with_temp}
use Rattle.tac_ir.specs.Structures.{greatest_structure}
use Rattle.tac_ir.proofs.Fits.{only_true}
use Rattle.flat_code.specs.declared.instruction.FlatInstruction.{FlatInstruction}
use Rattle.flat_code.specs.Calls.{function_in}
use Rattle.flat_code.specs.Meaning.{body_of}
use Rattle.flat_code.specs.Memory.{Bytes, put}
use Rattle.flat_code.specs.State as flat
use Rattle.flat_code.specs.Words.{HasWords}
use Rattle.flat_code.proofs.Stored.{put_other, put_same}
use Rattle.flat_code.specs.Routines.Routine.{HasAt}
use Rattle.runtime_functions.specs.Library.{held_from}
use Rattle.metadata_plan.specs.Expanded.{Leads}
use Rattle.metadata_plan.specs.Registers.{most_temporaries}
use Rattle.metadata_plan.proofs.Flat.{Comes, move_comes}
use Rattle.metadata_relation.specs.Blocks.{move_value}
use Rattle.metadata_relation.specs.Holding.{area_of, IsContentsAt, IsPartEntry, IsRvalueAt}
use Rattle.metadata_relation.specs.Registers.{first_free, temporary_register}
use Rattle.metadata_relation.specs.Stages.{Compiled, expansion_of, factor, IsAt, map_of, world}
use Rattle.metadata_relation.specs.Steps.{IsCompiled, is_settled}
use Rattle.metadata_relation.proofs.Accesses.{keyed_opens}
use Rattle.metadata_relation.proofs.Assigning.{assigned, assigns, moved, not_into}
use Rattle.metadata_relation.proofs.MemberParts.{gives_rvalue}
use Rattle.metadata_relation.proofs.Moving.{temporary_apart}
use Rattle.metadata_relation.proofs.Reading.{place_read}
use Rattle.metadata_relation.proofs.Registers.{temporaries_apart}
use Rattle.metadata_relation.proofs.Standing.{IsNode, leads_on, node, Result}

-- contents are read in place alone, whatever the access is of, and they have all that is read
pub contents_admitted : (mode : Mode) → is_settled mode ≡ true → (size : ℕ) (value : Value) (from : ObjectState)
    (objects : Objects) (next : Stage)
    → (admitted mode size (record { value = value; contents = Some from }) objects next ≡ Stuck → ⊥)
    → (admitted mode size (record { value = value; contents = Some from }) objects next ≡ next)
    × (value.word + size ≤ from.size)
contents_admitted Named e size value from objects next fine =
    let t = only_true (nat_le (value.word + size) from.size) next fine in
    (t.1, leb-true (value.word + size) from.size t.0)
contents_admitted Unchecked e size value from objects next fine = cc
contents_admitted Judged e size value from objects next fine = absurd (fine refl)

module _ (c : Compiled) (IsGood : Bytes → Type 0) (right : IsCompiled c IsGood) (u n : ℕ) (temps : Temps)
    (ws : List Frame) (s : State) (v : flat.State) (xs : List flat.Frame)
    (h : IsAt c IsGood u n temps ws s u (c.layout.address u n) v xs)
    (words : HasWords (flat.Stands u (c.layout.address u n) v xs)) where
  abbrev pc : ℕ
  pc = c.layout.address u n

  abbrev T : (temporary : ℕ) → ℕ
  T i = temporary_register h.code i

  abbrev E : (next temporary : ℕ) → Bool
  E next i = c.layout.expansion.entries u next i

  abbrev Follows : Stage → Type 0
  Follows a = Result c IsGood a (flat.Stands u (c.layout.address u n) v xs)

  abbrev body : List FlatInstruction
  body = body_of (function_in c.layout.program u)

  module _ (size : ℕ) (mode : Mode) (line : ℕ) (key : Option ℕ) (d a next : ℕ) (settled : is_settled mode ≡ true)
      (at : slice_get h.code.code n ≡ Some (tac.Read (Structure size) mode line key d a next)) where
    abbrev label : Instruction
    label = tac.Read (Structure size) mode line key d a next

    nd : IsNode c u n h.code (tac.Read (Structure size) mode line key d a next)
    nd = node c IsGood right u n temps ws s v xs h (tac.Read (Structure size) mode line key d a next) at

    low : d < most_temporaries h.code.code
    low = omega (arith, nd.temporaries_low)

    from_low : a < most_temporaries h.code.code
    from_low = omega (arith, nd.temporaries_low)

    abbrev paid : State
    paid = spent (cost (tac.Read (Structure size) mode line key d a next)) s

    abbrev Behind : Rvalue → Stage
    Behind q = came (read_rvalue (Structure size) (is_through mode) q line paid) (given_in u next temps d ws)

    abbrev Effect : Rvalue → Stage
    Effect q = keyed (keys_of (code_in c.layout.expansion.code u)) key paid q.value
        (admitted mode size q s.objects (Behind q))

    -- ---- contents

    module _ (from : ObjectState)
        (found : IsContentsAt (world c h.keys s v) (c.layout.expansion.entries u n a) (temps a).value from
        (greatest_structure c.layout.expansion.code h.code.code a)
        (area_of (map_of c) c.layout.expansion.code h.code s.charged a) (temporary_register h.code a) v.values)
        (same_place : d ≡ a) (may : c.layout.expansion.contents u next d ≡ true) where
      abbrev Finish : (b : Bool) → Type 0
      Finish b = (values : flat.Values) (most : ℕ)
          → values (temporary_register h.code d)
          ≡ (area_of (map_of c) c.layout.expansion.code h.code s.charged d + (temps a).value.word) % 2 ^ 64
          → (b ≡ true → IsPartEntry (held_from (temporary_register h.code d)).tag from.size
          (area_of (map_of c) c.layout.expansion.code h.code s.charged d) values)
          → ((y : ℕ) → y < first_free h.code → (y < temporary_register h.code d)
          ⊎ (temporary_register h.code d + 5 ≤ y) → values y ≡ v.values y)
          → Comes (map_of c) c.layout.program u (c.layout.address u n) v xs (c.layout.address u next)
          (record v { values = values }) most
          → most + factor * s.work ≤ factor * paid.work
          → Follows (Stands u next (with_temp temps d (record { value = (temps a).value; contents = Some from })) ws
          paid)

      held : IsContentsAt (world c h.keys s v) (c.layout.expansion.entries u n a) (temps a).value from
          (greatest_structure c.layout.expansion.code h.code.code d)
          (area_of (map_of c) c.layout.expansion.code h.code s.charged d) (temporary_register h.code a) v.values
      held = subst (λ z. IsContentsAt (world c h.keys s v) (c.layout.expansion.entries u n a) (temps a).value from
          (greatest_structure c.layout.expansion.code h.code.code z)
          (area_of (map_of c) c.layout.expansion.code h.code s.charged z) (temporary_register h.code a) v.values)
          (sym same_place) found

      goes_on : (b : Bool) → (b ≡ true → c.layout.expansion.entries u n a ≡ true)
          → HasAt body pc (move_value b (T d) (T a))
          → Leads body (pc + length (move_value b (T d) (T a))) (c.layout.address u next) → Finish b
          → Follows (Stands u next (with_temp temps d (record { value = (temps a).value; contents = Some from })) ws
          paid)
      goes_on false more has on finish =
          let values = put v.values (T d) (v.values (T a)) in
          finish values 4 (put_same v.values (T d) (v.values (T a)) ∙ held.word) (λ e. cc)
          (λ y lt out. put_other v.values (T d) (v.values (T a)) y (not_into y (T d) out))
          (leads_on c IsGood right u n temps ws s v xs h (pc + 1) (c.layout.address u next)
          (record v { values = values }) 2 (move_comes (map_of c) c.layout.program u pc v xs (T d) (T a) has.0) on)
          (omega arith)
      goes_on true more has on finish =
          let list = move_value true (T d) (T a) in
          let z = moved (T d) (T a) v.values
          (temporary_apart d a (T d) (T a) (λ ne. temporaries_apart h.code d a ne)
          (λ e. ap (λ y. temporary_register h.code y) e)) in
          let part = held.entry (more refl) in
          finish (assigned list v.values) 12 (z.value ∙ held.word)
          (λ e. record {
            base = ap (λ m. m.base) z.entry ∙ part.base;
            bound = ap (λ m. m.bound) z.entry ∙ part.bound;
            no_lock = ap (λ m. m.lock) z.entry ∙ part.no_lock;
          })
          (λ y lt out. z.others y out)
          (leads_on c IsGood right u n temps ws s v xs h (pc + 5) (c.layout.address u next)
          (record v { values = assigned list v.values }) 10
          (assigns (map_of c) c.layout.program u xs list refl pc v has) on)
          (omega arith)

      part_read : Follows (Stands u next
          (with_temp temps d (record { value = (temps a).value; contents = Some from })) ws paid)
      part_read =
          goes_on (E next d) (λ e. nd.closed.made n next d a label nd.at (inl refl) refl refl e) nd.put.has nd.put.leads
          (λ values most word entry others comes le. gives_rvalue c IsGood right u n temps ws s v xs h words label nd d
          next (record { value = (temps a).value; contents = Some from }) values most paid.work refl (inl refl) low comes
          others
          (record {
            by = record {
              word = word;
              entry = entry;
              place = held.place;
              small = held.small;
              area_is = held.area_is;
              sound = held.sound;
              tagged = held.tagged;
            };
            none = λ e. absurd (true≢false (sym may ∙ e));
          }) le)

    -- ---- the step

    -- contents that are there may be there behind it
    may_have : (b : Bool) → c.layout.expansion.contents u next d ≡ b → (from : ObjectState)
        → (temps a).contents ≡ Some from → c.layout.expansion.contents u next d ≡ true
    may_have true e from is = e
    may_have false e from is =
        let none = (h.holds.temporaries a from_low refl).none (nd.kept.made n next d a label nd.at (inl refl) refl refl e)
        in cc

    by_contents : (k : Option ObjectState) → (temps a).contents ≡ k
        → IsRvalueAt (world c h.keys s v) (c.layout.expansion.entries u n a) (temps a).value k
        (greatest_structure c.layout.expansion.code h.code.code a)
        (area_of (map_of c) c.layout.expansion.code h.code s.charged a) (temporary_register h.code a) v.values
        → is_in_place k d a ≡ true → (Effect (record { value = (temps a).value; contents = k }) ≡ Stuck → ⊥)
        → Follows (Effect (record { value = (temps a).value; contents = k }))
    by_contents None is held in_place fine =
        place_read c IsGood right u n temps ws s v xs h words.0 (Structure size) refl mode line key d a next settled at
        (temps a).value held fine
    by_contents (Some from) is held in_place fine =
        let q : Rvalue = record { value = (temps a).value; contents = Some from } in
        let keys = keys_of (code_in c.layout.expansion.code u) in
        let opened = keyed_opens keys key paid (temps a).value (admitted mode size q s.objects (Behind q)) fine in
        let admits = contents_admitted mode settled size (temps a).value from s.objects (Behind q)
        (λ stuck. fine (opened ∙ stuck)) in
        subst Follows (sym (opened ∙ admits.0))
        (part_read from held (eqb-true d a in_place) (may_have (c.layout.expansion.contents u next d) refl from is))

    pub read_structure : is_in_place (temps a).contents d a ≡ true
        → (effect c.setting (expansion_of c).code label u temps ws paid ≡ Stuck → ⊥)
        → Follows (effect c.setting (expansion_of c).code label u temps ws paid)
    read_structure in_place fine =
        by_contents (temps a).contents refl (h.holds.temporaries a from_low refl).by in_place fine
