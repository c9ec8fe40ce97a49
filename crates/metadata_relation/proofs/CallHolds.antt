-- What the registers of a function that is called hold at its entry, and those of its caller while it waits.
use Rattle.std.proofs.Common.{◌≡◌, ℕ, zero, suc, ◌+◌, ◌<◌, ◌≤◌, Bool, true, false, List, [], ◌∷◌, ◌++◌}
use Rattle.std.proofs.Common.{length, map, Some, None, refl, sym, ap, ◌∙◌, subst, arith, get_or, ltb-true, ltb-false}
use Rattle.std.specs.Prelude.{nat_lt, ◌==◌, ◌||◌, ◌&&◌, not, if◌then◌else◌}
use Rattle.std.proofs.lemmas.Bool.{eqb-false}
use Rattle.obj_memory.specs.declared.value.Scalar.{Scalar}
use Rattle.obj_memory.specs.declared.value.Scalar.TheVariants.{Integer, Pointer}
use Rattle.obj_memory.specs.declared.value.Value.{Value}
use Rattle.obj_memory.specs.Objects.{Objects}
use Rattle.c_tree.specs.declared.program.Variable.{Variable}
use Rattle.source_meaning.specs.State.{Rvalue, Home, NoObject, InObject}
use Rattle.source_meaning.specs.Actions.{integer}
use Rattle.source_meaning.specs.Blocks.{has_objects}
use Rattle.source_meaning.specs.Calls.{body_objects, first_of, rest_of, parameter_values, plain_values}
use Rattle.source_meaning.specs.Good.{plain_type, scalar_if}
use Rattle.source_meaning.specs.Structures.{rvalue}
use Rattle.tac_ir.specs.declared.function.CodeFunction.{CodeFunction}
use Rattle.tac_ir.specs.declared.function.Tac.{Tac}
use Rattle.tac_ir.specs.Meaning.{header_of_code}
use Rattle.tac_ir.specs.Stage.{Temps, no_temps}
use Rattle.flat_code.specs.Memory.{Bytes}
use Rattle.flat_code.specs.State as flat
use Rattle.flat_code.specs.Routines.Metadata.{metadata_in, no_metadata}
use Rattle.flat_code.specs.Routines.Objects.StandsFor.{Views, Keys}
use Rattle.flat_code.proofs.Routines.Words.{same_metadata}
use Rattle.lib_wrappers.specs.AllocatingRoutines.Entering.{IsHomeOf}
use Rattle.runtime_functions.specs.Library.{held_from}
use Rattle.metadata_plan.specs.Part.{have_no_objects}
use Rattle.metadata_plan.specs.Registers.{all_variables}
use Rattle.metadata_plan.proofs.Calling.{first_is, rest_at, others_at, values_length}
use Rattle.metadata_plan.proofs.SetUp.{homes_of}
use Rattle.metadata_relation.specs.Holding.{World, world_of, IsHeldAt, IsPlain, HasNoTag, is_pointer_type, Activation}
use Rattle.metadata_relation.specs.Holding.{HasHomes, Holds}
use Rattle.metadata_relation.specs.Registers.{first_free, moved_register, parameters_end, temporary_register, homes_end}
use Rattle.metadata_relation.specs.Registers.{variable_register, variables_end}
use Rattle.metadata_relation.specs.Waiting.{AreBetween, AreNoObjects}
use Rattle.metadata_relation.proofs.Holding.{same_world, at_node, AreFewer, variables_on, temporaries_on, homes_on}
use Rattle.metadata_relation.proofs.Packing.{behind_parameters}
use Rattle.metadata_relation.proofs.Registers.{count_in, variable_low}

-- ---- a caller

-- A caller holds what it held, where no register of its variables, homes and temporaries changed; of the temporary that
-- gets the result nothing is asked.
pub waiting_holds : (g : Views) (k : Keys) (objects : Objects) (m : Bytes) (a : Activation) (entries contents : ℕ → Bool)
    (d : ℕ) (temps : Temps) (plain : List Value) (frame : List Home) (values after : flat.Values)
    → AreFewer d a entries contents (λ i. i == d)
    → ((r : ℕ) → r < moved_register a.code 0 → after r ≡ values r)
    → Holds (world_of g k objects m) a temps plain frame values
    → Holds (world_of g k objects m) (at_node a entries contents (λ i. i == d)) temps plain frame after
waiting_holds g k objects m a entries contents d temps plain frame values after fewer same h =
    let on = same_world g k objects m in
    record {
      temporaries = λ i lt known.
          temporaries_on g k k objects objects m m on a d entries contents (λ j. j == d) fewer temps values after i
          (eqb-false i d known) lt (λ j few. same (temporary_register a.code i + j) (omega arith)) h.temporaries known;
      variables = variables_on g k k objects objects m m on a plain values after (λ r lt. same r (omega arith)) h.variables;
      homes = homes_on g k k objects objects m m on a.code frame values after (λ x o home live held. live)
          (λ r from lt. same r (omega arith)) h.homes;
      count = h.count;
    }

-- ---- no objects

pub none_has : (vs : List Variable) → has_objects vs ≡ false → have_no_objects vs ≡ true
none_has [] e = refl
none_has (v ∷ vs) e = by v.is_object e (λ rest. none_has vs rest)
  where
    by : (b : Bool) → (b || has_objects vs) ≡ false → (has_objects vs ≡ false → have_no_objects vs ≡ true)
        → (not b && have_no_objects vs) ≡ true
    by true e rest = cc
    by false e rest = rest e

pub no_homes : (vs : List Variable) → AreNoObjects (homes_of vs)
no_homes [] = tt
no_homes (v ∷ vs) = no_homes vs

pub no_home : (vs : List Variable) (x o : ℕ) → get_or (homes_of vs) x NoObject ≡ InObject o → ⊥
no_home [] x o e = cc
no_home (v ∷ vs) zero o e = cc
no_home (v ∷ vs) (suc x) o e = no_home vs x o e

pub none_between : (vs : List Variable) (first bound : ℕ) → AreBetween first bound (homes_of vs)
none_between vs first bound o h = absurd (none vs h)
  where
    none : (vs : List Variable) → IsHomeOf o (homes_of vs) → ⊥
    none [] h = h
    none (v ∷ vs) h = none vs h

-- ---- the function that is called

-- the plain value of a parameter is its argument's
parameter_value : (ps ws : List Variable) (vs : List Rvalue) (rest : List Value) (x : ℕ) (k : Scalar)
    → plain_type (ps ++ ws) x ≡ Some k → x < length ps
    → get_or (parameter_values ps vs ++ rest) x (integer 0) ≡ (get_or vs x (rvalue (integer 0))).value
parameter_value [] ws vs rest x k e lt = absurd (omega arith)
parameter_value (p ∷ ps) ws vs rest zero k e lt = by p.is_object e ∙ ap (λ (z : Rvalue). z.value) (first_is vs)
  where
    by : (b : Bool) → (if b then None else scalar_if p.kind) ≡ Some k
        → (if b then integer 0 else (first_of vs).value) ≡ (first_of vs).value
    by true e = cc
    by false e = refl
parameter_value (p ∷ ps) ws vs rest (suc x) k e lt =
    parameter_value ps ws (rest_of vs) rest x k e (omega arith) ∙ ap (λ (z : Rvalue). z.value) (rest_at vs x)

-- registers that are 0 hold 0
pub zero_held : (w : World) (b : Bool) (r : ℕ) (values : flat.Values)
    → ((j : ℕ) → j < 5 → values (r + j) ≡ 0) → IsHeldAt w b (integer 0) r values
zero_held w b r values none =
    let here : values r ≡ 0 = ap values (omega arith) ∙ none 0 (omega arith) in
    record {
      word = here;
      entry = λ e. record {
        word = here;
        tag = same_metadata (metadata_in values (held_from r).tag) no_metadata (none 1 (omega arith)) (none 2 (omega arith))
            (none 3 (omega arith)) (none 4 (omega arith));
      };
      sound = tt;
    }

-- of a plain variable as many as a value of its type has
plain_zero : (w : World) (t : Scalar) (r : ℕ) (values : flat.Values)
    → ((j : ℕ) → j < count_in t → values (r + j) ≡ 0) → IsHeldAt w (is_pointer_type t) (integer 0) r values
plain_zero w (Integer t) r values none =
    record { word = ap values (omega arith) ∙ none 0 (omega arith); entry = λ e. cc; sound = tt }
plain_zero w Pointer r values none = zero_held w true r values none

pub callee_holds : (w : World) (tac : Tac) (k : CodeFunction) (charge : ℕ) (entries contents : ℕ → Bool)
    (vs : List Rvalue) (frame : List Home) (values : flat.Values)
    → ((x : ℕ) (t : Scalar) → plain_type (all_variables k) x ≡ Some t → x < length k.parameters
    → IsPlain w t (get_or vs x (rvalue (integer 0))).value (variable_register k x) values)
    → ((y : ℕ) → parameters_end k ≤ y → y < variables_end k → values y ≡ 0)
    → ((y : ℕ) → homes_end k ≤ y → y < first_free k → values y ≡ 0) → HasHomes w k frame values
    → Holds w (record {
      tac = tac;
      code = k;
      charged = charge;
      entries = entries;
      contents = contents;
      unknown = λ i. false;
    }) no_temps (plain_values (header_of_code k) vs) frame values
callee_holds w tac k charge entries contents vs frame values args none_low none_high homes = record {
  temporaries = λ i lt known. record {
    by = zero_held w (entries i) (temporary_register k i) values
        (λ j few. none_high (temporary_register k i + j) (omega arith) (omega arith));
    none = λ e. refl;
  };
  variables = λ x t e. by x t e (nat_lt x (length k.parameters)) refl;
  homes = homes;
  count = values_length k.parameters vs k.variables;
}
  where
    no_tag : (t : Scalar) → HasNoTag t (integer 0)
    no_tag (Integer t) = refl
    no_tag Pointer = tt

    by : (x : ℕ) (t : Scalar) → plain_type (all_variables k) x ≡ Some t → (b : Bool)
        → nat_lt x (length k.parameters) ≡ b
        → IsPlain w t (get_or (plain_values (header_of_code k) vs) x (integer 0)) (variable_register k x) values
    by x t e true is =
        let inside = ltb-true x (length k.parameters) is in
        subst (λ z. IsPlain w t z (variable_register k x) values)
        (sym (parameter_value k.parameters k.variables vs (map (λ (z : Variable). integer 0) k.variables) x t e inside))
        (args x t e inside)
    by x t e false is =
        let outside = ltb-false x (length k.parameters) is in
        let above = behind_parameters k.parameters k.variables x outside in
        subst (λ z. IsPlain w t z (variable_register k x) values) (sym (others_at k.parameters vs k.variables x outside))
        (record {
          value = plain_zero w t (variable_register k x) values
              (λ j few. none_low (variable_register k x + j) (omega (arith, above))
              (let within = variable_low k x t e in omega (arith, within, few)));
          no_tag = no_tag t;
        })

-- a function without objects has no homes
pub no_homes_held : (w : World) (k : CodeFunction) (values : flat.Values)
    → HasHomes w k (homes_of (body_objects (header_of_code k))) values
no_homes_held w k values = record {
  declared = λ x o e. absurd (no_home (body_objects (header_of_code k)) x o e);
  homes = λ x o e. absurd (no_home (body_objects (header_of_code k)) x o e);
  automatic = λ x o e. absurd (no_home (body_objects (header_of_code k)) x o e);
  sizes = λ x o e. absurd (no_home (body_objects (header_of_code k)) x o e);
}
