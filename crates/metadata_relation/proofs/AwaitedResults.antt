-- Before a call whose result is a structure registers get what is needed to move it to the area of its temporary.
use Rattle.std.proofs.Common.{◌≡◌, ℕ, ◌+◌, ◌<◌, ◌≤◌, true, if◌then◌else◌, List, length, refl, ap}
use Rattle.std.proofs.Common.{Some, ◌∙◌, subst, arith}
use Rattle.std.specs.Prelude.{slice_get, ◌==◌}
use Rattle.std.proofs.lemmas.Bool.{eq-eqb}
use Rattle.c_tree.specs.declared.expression.Kind.{Kind}
use Rattle.c_tree.specs.declared.expression.Kind.TheVariants.{Void, Scalar as OfScalar, Structure, Array}
use Rattle.c_tree.specs.Room.{structure_bytes}
use Rattle.source_meaning.specs.State.{State}
use Rattle.source_meaning.specs.Calls.{caller}
use Rattle.tac_ir.specs.declared.instruction.Instruction.{Instruction}
use Rattle.tac_ir.specs.declared.function.CodeFunction.{CodeFunction}
use Rattle.tac_ir.specs.Stage.{Frame, Temps, Waiting}
use Rattle.tac_ir.specs.Structures.{greatest_structure, structure_put}
use Rattle.flat_code.specs.declared.instruction.FlatInstruction.{FlatInstruction}
use Rattle.flat_code.specs.Calls.{function_in}
use Rattle.flat_code.specs.Meaning.{body_of}
use Rattle.flat_code.specs.Memory.{Bytes}
use Rattle.flat_code.specs.State as flat
use Rattle.flat_code.specs.Words.{HasWords}
use Rattle.flat_code.specs.Routines.Routine.{HasAt}
use Rattle.metadata_plan.proofs.Flat.{Comes, then_comes, weaker, words_kept}
use Rattle.metadata_relation.specs.Blocks.{await_result, Expansion}
use Rattle.metadata_relation.specs.Registers.{first_free}
use Rattle.metadata_relation.specs.Stages.{Compiled, IsAt, map_of}
use Rattle.metadata_relation.specs.Steps.{comes_to, IsCompiled}
use Rattle.metadata_relation.specs.Waiting.{Awaits, AwaitsBy}
use Rattle.metadata_relation.proofs.AreaPlaces.{put_most}
use Rattle.metadata_relation.proofs.AreaRegisters.{awaited}
use Rattle.metadata_relation.proofs.AreaSteps.{charge_is}

-- what waits for a result has it in registers from the first free one on
pub awaits_on : (e : Expansion) (c : CodeFunction) (w : Waiting) (kind : Kind) (values after : flat.Values)
    → ((y : ℕ) → first_free c ≤ y → after y ≡ values y) → Awaits e c w kind values → Awaits e c w kind after
awaits_on e c w kind values after same h = record { by = by kind h.by }
  where
    by : (kind : Kind) → AwaitsBy e c w values kind → AwaitsBy e c w after kind
    by Void h = tt
    by (OfScalar k) h = tt
    by (Structure size) h = record {
      may = h.may;
      small = h.small;
      own = same (first_free c) (omega arith) ∙ h.own;
      ends = same (first_free c + 1) (omega arith) ∙ h.ends;
      first = same (first_free c + 2) (omega arith) ∙ h.first;
      size_is = same (first_free c + 3) (omega arith) ∙ h.size_is;
      part = record {
        part = same (first_free c + 4) (omega arith) ∙ h.part.part;
        base = same (first_free c + 4 + 1) (omega arith) ∙ h.part.base;
        bound = same (first_free c + 4 + 2) (omega arith) ∙ h.part.bound;
        no_lock = same (first_free c + 4 + 4) (omega arith) ∙ h.part.no_lock;
      };
    }
    by (Array n) h = tt

module _ (c : Compiled) (IsGood : Bytes → Type 0) (right : IsCompiled c IsGood) (u n : ℕ) (temps : Temps)
    (ws : List Frame) (s : State) (v : flat.State) (xs : List flat.Frame)
    (h : IsAt c IsGood u n temps ws s u (c.layout.address u n) v xs)
    (words : HasWords (flat.Stands u (c.layout.address u n) v xs)) (d next : ℕ) where
  abbrev pc : ℕ
  pc = c.layout.address u n

  abbrev pub ComesTo : (place : ℕ) → (after : flat.State) → (most : ℕ) → Type 0
  ComesTo = Comes (map_of c) c.layout.program u (c.layout.address u n) v xs

  abbrev pub waits : Waiting
  waits = record { function = u; node = next; place = d; caller = caller s; temps = temps }

  abbrev pub awaits_list : Kind → List FlatInstruction
  awaits_list kind = await_result c.layout.expansion.inline.operators (map_of c) c.layout.expansion.code h.code kind d

  -- they have it, at most so much work later
  pub record IsAwaited (kind : Kind) (place most : ℕ) (between : flat.Values) : Type 0 where
    pub values : flat.Values
    pub comes : ComesTo (place + length (awaits_list kind)) (record v { turns = v.turns + 1; values = values })
        (most + 70)
    pub awaits : Awaits c.layout.expansion h.code waits kind values
    pub others : (y : ℕ) → y < first_free h.code → values y ≡ between y

  -- what an instruction puts is no greater than the area of its temporary
  pub result_fits : (i : Instruction) → slice_get h.code.code n ≡ Some i → (kind : Kind)
      → structure_put c.layout.expansion.code i d ≡ (if d == d then structure_bytes kind else 0)
      → structure_bytes kind ≤ greatest_structure c.layout.expansion.code h.code.code d
  result_fits i at kind puts =
      let most = put_most c.layout.expansion.code h.code.code d n i at in
      let own = ap (λ q. if q then structure_bytes kind else 0) (eq-eqb d d refl) in
      omega (arith, most, puts, own)

  pub awaits_result : (kind : Kind) (place most : ℕ) (between : flat.Values)
      → structure_bytes kind ≤ greatest_structure c.layout.expansion.code h.code.code d
      → comes_to kind (c.layout.expansion.contents u next d) ≡ true
      → HasAt (body_of (function_in c.layout.program u)) place (awaits_list kind)
      → ComesTo place (record v { turns = v.turns + 1; values = between }) most → IsAwaited kind place most between
  awaits_result kind place most between = by kind
    where
      at_once : (kind : Kind) → Awaits c.layout.expansion h.code waits kind between
          → ComesTo (place + length (awaits_list kind)) (record v { turns = v.turns + 1; values = between }) most
          → IsAwaited kind place most between
      at_once kind awaits comes = record {
        values = between;
        comes = weaker (map_of c) c.layout.program u pc v xs (place + length (awaits_list kind))
            (record v { turns = v.turns + 1; values = between }) most (most + 70) comes (omega arith);
        awaits = awaits;
        others = λ y lt. refl;
      }

      none : ComesTo place (record v { turns = v.turns + 1; values = between }) most
          → ComesTo (place + 0) (record v { turns = v.turns + 1; values = between }) most
      none k = subst (λ q. ComesTo q (record v { turns = v.turns + 1; values = between }) most)
          (let e : place ≡ place + 0 = omega arith in e) k

      by : (kind : Kind) → structure_bytes kind ≤ greatest_structure c.layout.expansion.code h.code.code d
          → comes_to kind (c.layout.expansion.contents u next d) ≡ true
          → HasAt (body_of (function_in c.layout.program u)) place (awaits_list kind)
          → ComesTo place (record v { turns = v.turns + 1; values = between }) most
          → IsAwaited kind place most between
      by Void small may has k = at_once Void (record { by = tt }) (none k)
      by (OfScalar t) small may has k = at_once (OfScalar t) (record { by = tt }) (none k)
      by (Structure size) small may has k =
          let m = map_of c in
          let p = c.layout.program in
          let areas = right.areas.each u h.code h.there in
          let all = charge_is c IsGood right right.areas u n temps ws s v xs h in
          let y : flat.State = record v { turns = v.turns + 1; values = between; work = v.work + k.work } in
          let within : size ≤ greatest_structure c.layout.expansion.code h.code.code d = omega (arith, small) in
          let a = awaited c IsGood right u xs h.code areas s.charged h.charge (omega (arith, all)) h.fits
          (first_free h.code) size d place y within
          (subst HasWords k.comes (words_kept m p k.steps (flat.Stands u pc v xs) words)) has in
          record {
            values = a.after;
            comes = then_comes m p u pc v xs place (place + length (awaits_list (Structure size)))
                (record v { turns = v.turns + 1; values = between }) (record v { turns = v.turns + 1; values = a.after })
                most 70 k
                (record { steps = a.comes.steps; work = a.comes.work; few = a.comes.few; comes = a.comes.comes });
            awaits = record {
              by = record {
                may = may;
                small = within;
                own = a.own;
                ends = a.ends;
                first = a.first;
                size_is = a.size_is;
                part = a.part;
              };
            };
            others = a.others;
          }
      by (Array size) small may has k = at_once (Array size) (record { by = tt }) (none k)
