-- Objects on the object stack.
use Rattle.std.proofs.Common.{◌≡◌, ℕ, ◌+◌, suc, sym, ap, subst, refl, ◌∙◌, Ok, Err, true, false, None}
use Rattle.std.proofs.Common.{List, [], ◌∷◌, length}
use Rattle.std.specs.Prelude.{Result, Option}
use Rattle.obj_memory.specs.declared.object.Storage.TheVariants.{Automatic}
use Rattle.obj_memory.specs.declared.value.Value.{Value}
use Rattle.obj_memory.specs.Heap.{rounded_up}
use Rattle.obj_memory.specs.Objects.{Objects, with_new}
use Rattle.c_tree.specs.declared.program.Variable.{Variable}
use Rattle.c_tree.specs.Kinds.{size_of_kind}
use Rattle.source_meaning.specs.State.{State, Home, NoObject, Run, ◌>>◌, Setting, choose, read_state}
use Rattle.source_meaning.specs.State.{change, done}
use Rattle.source_meaning.specs.Blocks.{place_object, place_variable}
use Rattle.interpreter_objects.specs.Kept.{kept}
use Rattle.interpreter_objects.proofs.Keeping.{kept_new}
use Rattle.interpreter_objects.proofs.Weights.{made_other}
use Rattle.source_interp.specs.declared.machine.Machine.{Machine}
use Rattle.source_interp.specs.declared.stop.Fault.{Fault}
use Rattle.source_interp.specs.declared.stop.Stop.{Stop}
use Rattle.source_interp.specs.declared.stop.Stop.TheVariants as stop
use Rattle.source_interp.specs.Homes.{housed}
use Rattle.source_interp.specs.Outside.{Outside}
use Rattle.source_interp.specs.Placing.{add_automatic, place_behind}
use Rattle.source_interp.specs.Standing.{Acts, Stands}
use Rattle.source_interp.proofs.Acting.{done_acts, reads_then, same_acts, then_acts}
use Rattle.source_interp.proofs.Accesses.{alters}
use Rattle.source_interp.proofs.Least.{reads}

-- what belongs to the function that runs, and the budgets of the calls, change
module _ (g : Setting) (o : Outside) (old new : Machine) (frame : State → List Home) (plain : State → List Value)
    (charged stacked : State → ℕ) where
  pub moves_frame : new ≡ record old {
    frame = new.frame;
    plain = new.plain;
    charged = new.charged;
    stacked = new.stacked;
  }
      → ((start : Outside) (s : State) → Stands g start old o s → frame s ≡ new.frame)
      → ((start : Outside) (s : State) → Stands g start old o s → plain s ≡ new.plain.items)
      → ((start : Outside) (s : State) → Stands g start old o s → new.charged ≡ charged s)
      → ((start : Outside) (s : State) → Stands g start old o s → new.stacked ≡ stacked s)
      → Acts g old new o o (Ok tt) (change (λ s. record s {
        frame = frame s;
        plain = plain s;
        charged = charged s;
        stacked = stacked s;
      }))
  moves_frame e f p c t = record {
    by = λ start s st.
        let next : State = record s { frame = frame s; plain = plain s; charged = charged s; stacked = stacked s } in
        record {
          state = next;
          holds = subst (λ m. Stands g start m o next) (sym e) (record {
            objects_are = st.objects_are;
            blocks_live = st.blocks_live;
            in_order = st.in_order;
            frame_is = f start s st;
            plain_is = p start s st;
            input_is = st.input_is;
            taken_is = st.taken_is;
            output_is = st.output_is;
            accesses_are = st.accesses_are;
            count_is = st.count_is;
            work_is = st.work_is;
            turns_are = st.turns_are;
            charged_is = c start s st;
            stacked_is = t start s st;
            keys_are = st.keys_are;
          });
          comes = refl;
        };
  }

module _ (g : Setting) (o : Outside) (old : Machine) where
  pub sets_top : (new : Machine) (top : ℕ) → new ≡ record old { stacked = top }
      → Acts g old new o o (Ok tt) (change (λ s. record s { stacked = top }))
  sets_top new top e = subst (λ m. Acts g old m o o (Ok tt) (change (λ s. record s { stacked = top }))) (sym e)
      (moves_frame g o old (record old { stacked = top }) (λ s. s.frame) (λ s. s.plain) (λ s. s.charged) (λ s. top) refl
      (λ start s st. st.frame_is) (λ start s st. st.plain_is) (λ start s st. st.charged_is) (λ start s st. refl))

-- an object more

pub length_kept : (objects : Objects) → length (kept objects) ≡ length objects
unfolding kept
length_kept [] = refl
length_kept (x ∷ xs) = ap suc (length_kept xs)

pub adds_object : (g : Setting) (o : Outside) (old new : Machine) (address size n : ℕ) → n ≡ length old.store
    → new.store ≡ with_new Automatic address size old.store → new ≡ record old { store = new.store }
    → Acts g old new o o (Ok n) (add_automatic address size)
adds_object g o old new address size n count added same =
    let more : State → State = λ s. record s { objects = with_new Automatic address size s.objects } in
    then_acts g old old new o o o (Ok n) n (Ok n) (read_state (λ s. length s.objects))
    (λ number. change more >> done number) refl
    (reads g o old n (λ s. length s.objects)
    (λ start s st. sym (length_kept s.objects) ∙ sym (ap length st.objects_are) ∙ sym count))
    (then_acts g old new new o o o (Ok tt) tt (Ok n) (change more) (λ _. done n) refl
    (alters g o old new (with_new Automatic address size) same
    (λ objects e. added ∙ ap (with_new Automatic address size) e ∙ sym (kept_new Automatic address size objects))
    (λ objects same' live. made_other Automatic address size objects old.blocks refl live))
    (done_acts g new o n))

pub ruleset adding = (adds_object)

-- an object behind the top

pub places : (g : Setting) (o : Outside) (old new : Machine) (start end size : ℕ) (r : Result (Option ℕ) Stop)
    → start ≡ rounded_up 16 old.stacked → end ≡ rounded_up 16 old.stacked + size
    → Acts g old new o o (housed r) (place_behind start end size)
    → Acts g old new o o (housed r) (place_object size)
places g o old new start end size r e e' a =
    reads_then g old new o o old.stacked (housed r) (λ s. s.stacked)
    (λ top. place_behind (rounded_up 16 top) (rounded_up 16 top + size) size)
    (λ begun s st. sym st.stacked_is)
    (subst (λ x. Acts g old new o o (housed r) (place_behind x (rounded_up 16 old.stacked + size) size)) e
    (subst (λ y. Acts g old new o o (housed r) (place_behind start y size)) e' a))

pub places_nothing : (g : Setting) (o : Outside) (old new : Machine) (f : Fault) (run : Run Home)
    → Acts g old new o o (housed (Err (stop.Failed f))) run
places_nothing g o old new f run = record { by = λ start s st. tt }

pub ruleset placing = (places, places_nothing)

-- a variable by whether it is an object

pub places_variable : (g : Setting) (o : Outside) (old new : Machine) (v : Variable) (size : ℕ)
    (r : Result (Option ℕ) Stop) → v.is_object ≡ true → size ≡ size_of_kind v.kind
    → Acts g old new o o (housed r) (place_object size) → Acts g old new o o (housed r) (place_variable v)
places_variable g o old new v size r e same a =
    same_acts g old new o o (housed r) _ _
    (ap (λ b. choose b (place_object (size_of_kind v.kind)) (done NoObject)) e ∙ ap place_object (sym same)) a

pub places_none : (g : Setting) (o : Outside) (m : Machine) (v : Variable) → v.is_object ≡ false
    → Acts g m m o o (housed (Ok None)) (place_variable v)
places_none g o m v e = same_acts g m m o o (housed (Ok None)) _ _
    (ap (λ b. choose b (place_object (size_of_kind v.kind)) (done NoObject)) e) (done_acts g m o NoObject)
