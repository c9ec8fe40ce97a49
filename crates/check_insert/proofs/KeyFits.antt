-- Whether a pointer may be of a key does not depend on the count of work.
use Rattle.std.proofs.Common.{◌≡◌, ℕ, List, Option, Some, None, refl, ap}
use Rattle.std.specs.Prelude.{◌&&◌, slice_get}
use Rattle.obj_memory.specs.declared.value.Value.{Value}
use Rattle.c_tree.specs.declared.program.Variable.{Variable}
use Rattle.source_meaning.specs.State.{State}
use Rattle.source_meaning.specs.Acting.{at_work}
use Rattle.tac_ir.specs.declared.key.Base.{Base}
use Rattle.tac_ir.specs.declared.key.Base.TheVariants.{Plain, Automatic, Static}
use Rattle.tac_ir.specs.declared.key.Key.{Key}
use Rattle.tac_ir.specs.declared.function.StaticData.{StaticData}
use Rattle.tac_ir.specs.declared.function.Tac.{Tac}
use Rattle.tac_ir.specs.Fitting.{is_word, is_base_there, is_of_key}
use Rattle.tac_ir.specs.Meaning.{keys_of, variables_in, function_in, fits_key}

base_there_work : (vs : List Variable) (ds : List StaticData) (b : Base) (k : ℕ) (s : State)
    → is_base_there vs ds b (at_work k s) ≡ is_base_there vs ds b s
base_there_work vs ds (Plain x) k s = refl
base_there_work vs ds (Automatic x) k s = refl
base_there_work vs ds (Static n) k s = refl

of_key_work : (vs : List Variable) (ds : List StaticData) (key : Option Key) (k : ℕ) (s : State) (v : Value)
    → is_of_key vs ds key (at_work k s) v ≡ is_of_key vs ds key s v
of_key_work vs ds None k s v = refl
of_key_work vs ds (Some key) k s v = ap (λ b. is_word v.word && b) (base_there_work vs ds key.base k s)

pub key_fits_work : (t : Tac) (u : ℕ) (key : Option ℕ) (k : ℕ) (s : State) (v : Value)
    → fits_key t u key (at_work k s) v ≡ fits_key t u key s v
key_fits_work t u None k s v = refl
key_fits_work t u (Some n) k s v =
    of_key_work (variables_in (function_in t u)) t.statics (slice_get (keys_of (function_in t u)) n) k s v
