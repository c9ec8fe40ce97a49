-- What a run puts out.
use Rattle.std.proofs.Common.{◌≡◌, ℕ, ◌%◌, ap, refl, ◌∙◌, Ok, Err, List, [], ◌∷◌, ◌++◌, length, Option}
use Rattle.std.specs.Prelude.{Result}
use Rattle.behaviours.specs.Shown.{Access}
use Rattle.sb_outside.specs.Content.{gained}
use Rattle.sb_outside.proofs.Gains.{gained_gained}
use Rattle.obj_memory.specs.declared.value.Value.{Value}
use Rattle.source_meaning.specs.State.{Setting, change, done, tally}
use Rattle.source_meaning.specs.Actions.{integer, put_bytes}
use Rattle.source_meaning.specs.Library.{putchar}
use Rattle.source_interp.specs.declared.machine.Machine.{Machine}
use Rattle.source_interp.specs.declared.stop.Stop.{Stop}
use Rattle.source_interp.specs.Outside.{Outside, outside}
use Rattle.source_interp.specs.Standing.{Acts}
use Rattle.source_interp.proofs.Acting.{gives_acts, stop_acts, then_acts}

pub sends : (g : Setting) (m : Machine) (told told' : Option (List ℕ)) (accesses : Option (List Access))
    (input bytes : List ℕ) → told' ≡ gained told bytes
    → Acts g m m (outside told accesses input) (outside told' accesses input) (Ok tt)
    (change (λ s. record s { output = s.output ++ bytes }))
sends g m told told' accesses input bytes e = record {
  by = λ start s st. record {
    state = record s { output = s.output ++ bytes };
    holds = record {
      objects_are = st.objects_are;
      blocks_live = st.blocks_live;
      in_order = st.in_order;
      frame_is = st.frame_is;
      plain_is = st.plain_is;
      input_is = st.input_is;
      taken_is = st.taken_is;
      output_is = e ∙ ap (λ x. gained x bytes) st.output_is ∙ gained_gained start.output s.output bytes;
      accesses_are = st.accesses_are;
      count_is = st.count_is;
      work_is = st.work_is;
      turns_are = st.turns_are;
      charged_is = st.charged_is;
      stacked_is = st.stacked_is;
      keys_are = st.keys_are;
    };
    comes = refl;
  };
}

module _ (g : Setting) (old mid new : Machine) (before now : Outside) where
  pub puts_bytes : (bytes : List ℕ) (r : Result (Unit {0}) Stop)
      → Acts g old mid before before (Ok tt) (tally (length bytes))
      → Acts g mid new before now r (change (λ s. record s { output = s.output ++ bytes }))
      → Acts g old new before now r (put_bytes bytes)
  puts_bytes bytes r a b =
      then_acts g old mid new before before now (Ok tt) tt r (tally (length bytes))
      (λ x. change (λ s. record s { output = s.output ++ bytes })) refl a b

  pub puts_character : (c v : Value) (u : Unit {0}) (r : Result (Unit {0}) Stop) → r ≡ Ok u
      → v ≡ integer (c.word % 256) → Acts g old new before now r (put_bytes (c.word % 256 ∷ []))
      → Acts g old new before now (Ok v) (putchar c)
  puts_character c v u r is same a =
      then_acts g old new new before now now r u (Ok v) (put_bytes (c.word % 256 ∷ []))
      (λ x. done (integer (c.word % 256))) is a (gives_acts g new now v (integer (c.word % 256)) same)

  pub puts_no_character : (c : Value) (e : Stop) (r : Result (Unit {0}) Stop) (r' : Result Value Stop) → r ≡ Err e
      → r' ≡ Err e → Acts g old new before now r (put_bytes (c.word % 256 ∷ []))
      → Acts g old new before now r' (putchar c)
  puts_no_character c e r r' is is' a =
      stop_acts g old new before now r r' e (put_bytes (c.word % 256 ∷ []))
      (λ x. done (integer (c.word % 256))) is is' a
