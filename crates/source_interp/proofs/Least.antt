-- The least actions.
use Rattle.std.proofs.Common.{◌≡◌, ℕ, ◌+◌, sym, ap, subst, refl, ◌∙◌, Ok, Err, true, false, arith}
use Rattle.std.proofs.Common.{List, [], ◌∷◌, ◌++◌, length, Option, Some, None}
use Rattle.std.specs.Prelude.{Result, min, get_or, set, nat_lt}
use Rattle.std.proofs.lemmas.List.{append_assoc, length-append}
use Rattle.sb_base.specs.declared.ending.Ending.TheVariants.{Keys}
use Rattle.behaviours.specs.Shown.{Access, AccessKind}
use Rattle.obj_memory.specs.declared.value.Value.{Value}
use Rattle.obj_memory.specs.Objects.{pointer_to}
use Rattle.source_meaning.specs.State.{State, NoObject, Gives}
use Rattle.source_meaning.specs.State.{choose, Setting, read_state, change, tally, pause, stop}
use Rattle.source_meaning.specs.Actions.{begin_turn, home_pointer, home_value, integer, note, plain_value, set_plain}
use Rattle.source_meaning.specs.Actions.{take_key}
use Rattle.interpreter_objects.proofs.Keeping.{same_pointer}
use Rattle.source_interp.specs.declared.machine.Machine.{Machine}
use Rattle.source_interp.specs.declared.stop.Stop.{Stop}
use Rattle.source_interp.specs.declared.stop.Stop.TheVariants as stopped_by
use Rattle.source_interp.specs.declared.stop.Cause.TheVariants as cause
use Rattle.source_interp.specs.Outside.{Outside, outside, more}
use Rattle.source_interp.specs.Homes.{home_of}
use Rattle.source_interp.specs.Standing.{Acts, Does, Stands, last_count}

-- a count that stops at its last value
stopped : (a b : ℕ) → min (min a last_count + b) last_count ≡ min (a + b) last_count
stopped a b = omega arith

pub tallies : (g : Setting) (o : Outside) (old new : Machine) (n : ℕ)
    → new ≡ record old { work = min (old.work + n) last_count } → Acts g old new o o (Ok tt) (tally n)
tallies g o old new n e = record {
  by = λ start s st. record {
    state = record s { work = s.work + n };
    holds = subst (λ m. Stands g start m o (record s { work = s.work + n })) (sym e) (record {
      objects_are = st.objects_are;
      blocks_live = st.blocks_live;
      in_order = st.in_order;
      frame_is = st.frame_is;
      plain_is = st.plain_is;
      input_is = st.input_is;
      taken_is = st.taken_is;
      output_is = st.output_is;
      accesses_are = st.accesses_are;
      count_is = st.count_is;
      work_is = ap (λ w. min (w + n) last_count) st.work_is ∙ stopped s.work n;
      turns_are = st.turns_are;
      charged_is = st.charged_is;
      stacked_is = st.stacked_is;
      keys_are = st.keys_are;
    });
    comes = refl;
  };
}

more_again : {A : Type 0} (o : Option (List A)) (xs ys : List A) → more (more o xs) ys ≡ more o (xs ++ ys)
more_again None xs ys = refl
more_again (Some o) xs ys = ap Some (append_assoc o xs ys)

pub notes : (g : Setting) (output : Option (List ℕ)) (input : List ℕ) (told told' : Option (List Access))
    (old new : Machine) (kind : AccessKind) (address size : ℕ)
    → told' ≡ more told (record { address = address; size = size; kind = kind } ∷ [])
    → new ≡ record old { accesses = min (old.accesses + 1) last_count }
    → Acts g old new (outside output told input) (outside output told' input) (Ok tt) (note kind address size)
notes g output input told told' old new kind address size t e = record {
  by = λ start s st.
      let a : Access = record { address = address; size = size; kind = kind } in
      let next : State = record s { accesses = s.accesses ++ (a ∷ []) } in
      record {
        state = next;
        holds = subst (λ m. Stands g start m (outside output told' input) next) (sym e) (record {
          objects_are = st.objects_are;
          blocks_live = st.blocks_live;
          in_order = st.in_order;
          frame_is = st.frame_is;
          plain_is = st.plain_is;
          input_is = st.input_is;
          taken_is = st.taken_is;
          output_is = st.output_is;
          accesses_are = t ∙ ap (λ x. more x (a ∷ [])) st.accesses_are ∙ more_again start.accesses s.accesses (a ∷ []);
          count_is = ap (λ w. min (w + 1) last_count) st.count_is ∙ stopped (length s.accesses) 1
              ∙ ap (λ n. min n last_count) (sym (length-append s.accesses (a ∷ [])));
          work_is = st.work_is;
          turns_are = st.turns_are;
          charged_is = st.charged_is;
          stacked_is = st.stacked_is;
          keys_are = st.keys_are;
        });
        comes = refl;
      };
}

-- what is read of the state is what the machine has
pub reads : {A : Type 0} (g : Setting) (o : Outside) (m : Machine) (v : A) (f : State → A)
    → ((start : Outside) (s : State) → Stands g start m o s → f s ≡ v) → Acts g m m o o (Ok v) (read_state f)
reads g o m v f h = record {
  by = λ start s st. record { state = s; holds = st; comes = ap (λ x. Gives x s) (h start s st) };
}

pub reads_plain : (g : Setting) (o : Outside) (m : Machine) (x : ℕ) (v : Value)
    → v ≡ get_or m.plain.items x (integer 0) → Acts g m m o o (Ok v) (read_state (plain_value x))
reads_plain g o m x v e = reads g o m v (plain_value x)
    (λ start s st. ap (λ vs. get_or vs x (integer 0)) st.plain_is ∙ sym e)

pub sets_plain : (g : Setting) (o : Outside) (old new : Machine) (x : ℕ) (v : Value)
    → new.plain.items ≡ set old.plain.items x v → new ≡ record old { plain = new.plain }
    → Acts g old new o o (Ok tt) (set_plain x v)
sets_plain g o old new x v p e = record {
  by = λ start s st.
      let next : State = record s { plain = set s.plain x v } in
      record {
        state = next;
        holds = subst (λ m. Stands g start m o next) (sym e) (record {
          objects_are = st.objects_are;
          blocks_live = st.blocks_live;
          in_order = st.in_order;
          frame_is = st.frame_is;
          plain_is = ap (λ vs. set vs x v) st.plain_is ∙ sym p;
          input_is = st.input_is;
          taken_is = st.taken_is;
          output_is = st.output_is;
          accesses_are = st.accesses_are;
          count_is = st.count_is;
          work_is = st.work_is;
          turns_are = st.turns_are;
          charged_is = st.charged_is;
          stacked_is = st.stacked_is;
          keys_are = st.keys_are;
        });
        comes = refl;
      };
}

-- pointers

pub points : (g : Setting) (o : Outside) (m : Machine) (n : ℕ) (v : Value) → v ≡ pointer_to n m.store
    → Acts g m m o o (Ok v) (read_state (λ s. pointer_to n s.objects))
points g o m n v e = reads g o m v (λ s. pointer_to n s.objects)
    (λ start s st. sym (e ∙ ap (pointer_to n) st.objects_are ∙ same_pointer n s.objects))

home_is : (g : Setting) (o start : Outside) (m : Machine) (s : State) (x : ℕ) (home : Option ℕ)
    → Stands g start m o s → home_of home ≡ get_or m.frame x NoObject → get_or s.frame x NoObject ≡ home_of home
home_is g o start m s x home st e = ap (λ hs. get_or hs x NoObject) st.frame_is ∙ sym e

pub points_no_home : (g : Setting) (o : Outside) (m : Machine) (x : ℕ) → home_of None ≡ get_or m.frame x NoObject
    → Acts g m m o o (Ok (integer 0)) (read_state (home_pointer x))
points_no_home g o m x e = reads g o m (integer 0) (home_pointer x)
    (λ start s st. ap (λ h. home_value h s.objects) (home_is g o start m s x None st e))

-- a run that reads what another reads in these states
reads_alike : {A : Type 0} (g : Setting) (o : Outside) (m : Machine) (r : Result A Stop) (f f' : State → A)
    → ((start : Outside) (s : State) → Stands g start m o s → f s ≡ f' s) → Acts g m m o o r (read_state f')
    → Acts g m m o o r (read_state f)
reads_alike g o m r f f' h a = record {
  by = λ start s st. subst (λ x. Does r (Gives x s) (Stands g start m o)) (sym (h start s st)) (a.by start s st);
}

pub points_some_home : (g : Setting) (o : Outside) (m : Machine) (x n : ℕ) (r : Result Value Stop)
    → home_of (Some n) ≡ get_or m.frame x NoObject → Acts g m m o o r (read_state (λ s. pointer_to n s.objects))
    → Acts g m m o o r (read_state (home_pointer x))
points_some_home g o m x n r e a = reads_alike g o m r (home_pointer x) (λ s. pointer_to n s.objects)
    (λ start s st. ap (λ h. home_value h s.objects) (home_is g o start m s x (Some n) st e)) a

pub ruleset points_home = (points_no_home, points_some_home)

-- turns and keys

pub begins : (g : Setting) (o : Outside) (old new : Machine) (limit : ℕ) → nat_lt old.turns limit ≡ true
    → new ≡ record old { turns = old.turns + 1 } → Acts g old new o o (Ok tt) (begin_turn limit)
begins g o old new limit h e = record {
  by = λ start s st.
      let next : State = record s { turns = s.turns + 1 } in
      record {
        state = next;
        holds = subst (λ m. Stands g start m o next) (sym e) (record {
          objects_are = st.objects_are;
          blocks_live = st.blocks_live;
          in_order = st.in_order;
          frame_is = st.frame_is;
          plain_is = st.plain_is;
          input_is = st.input_is;
          taken_is = st.taken_is;
          output_is = st.output_is;
          accesses_are = st.accesses_are;
          count_is = st.count_is;
          work_is = st.work_is;
          turns_are = ap (λ n. n + 1) st.turns_are;
          charged_is = st.charged_is;
          stacked_is = st.stacked_is;
          keys_are = st.keys_are;
        });
        comes = ap (λ b. choose b (change (λ s. record s { turns = s.turns + 1 })) pause s)
            (ap (λ n. nat_lt n limit) (sym st.turns_are) ∙ h);
      };
}

pub pauses : (g : Setting) (o : Outside) (m : Machine) (limit : ℕ) → nat_lt m.turns limit ≡ false
    → Acts {A = Unit {0}} g m m o o (Err stopped_by.Paused) (begin_turn limit)
pauses g o m limit h = record {
  by = λ start s st. record {
    state = s;
    holds = st;
    comes = ap (λ b. choose b (change (λ s. record s { turns = s.turns + 1 })) pause s)
        (ap (λ n. nat_lt n limit) (sym st.turns_are) ∙ h);
  };
}

pub ruleset begins_turn = (begins, pauses)

pub makes_key : (g : Setting) (o : Outside) (old new : Machine) (budget line : ℕ) → budget ≡ g.sizes.budgets.keys
    → nat_lt old.keys budget ≡ true → new ≡ record old { keys = old.keys + 1 }
    → Acts g old new o o (Ok tt) (take_key g line)
makes_key g o old new budget line same h e = record {
  by = λ start s st.
      let next : State = record s { keys = s.keys + 1 } in
      record {
        state = next;
        holds = subst (λ m. Stands g start m o next) (sym e) (record {
          objects_are = st.objects_are;
          blocks_live = st.blocks_live;
          in_order = st.in_order;
          frame_is = st.frame_is;
          plain_is = st.plain_is;
          input_is = st.input_is;
          taken_is = st.taken_is;
          output_is = st.output_is;
          accesses_are = st.accesses_are;
          count_is = st.count_is;
          work_is = st.work_is;
          turns_are = st.turns_are;
          charged_is = st.charged_is;
          stacked_is = st.stacked_is;
          keys_are = ap (λ n. n + 1) st.keys_are;
        });
        comes = ap (λ b. choose b (change (λ s. record s { keys = s.keys + 1 })) (stop (Keys line)) s)
            (ap (λ n. nat_lt n g.sizes.budgets.keys) (sym st.keys_are) ∙ ap (nat_lt old.keys) (sym same) ∙ h);
      };
}

pub lacks_key : (g : Setting) (o : Outside) (m : Machine) (budget line : ℕ) → budget ≡ g.sizes.budgets.keys
    → nat_lt m.keys budget ≡ false
    → Acts {A = Unit {0}} g m m o o (Err (stopped_by.Ended cause.Keys line)) (take_key g line)
lacks_key g o m budget line same h = record {
  by = λ start s st. record {
    state = s;
    holds = st;
    comes = ap (λ b. choose b (change (λ s. record s { keys = s.keys + 1 })) (stop (Keys line)) s)
        (ap (λ n. nat_lt n g.sizes.budgets.keys) (sym st.keys_are) ∙ ap (nat_lt m.keys) (sym same) ∙ h);
  };
}

pub ruleset takes_key = (makes_key, lacks_key)
