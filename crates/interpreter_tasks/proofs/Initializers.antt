-- What declarations store means its parts.
use Rattle.std.proofs.Common.{◌≡◌, ℕ, ◌+◌, false, List, [], ◌∷◌, ◌++◌, length, refl, sym, ◌∙◌, Option, Some, None}
use Rattle.obj_memory.specs.Judgement.{narrowed}
use Rattle.c_tree.specs.Kinds.{size_of_kind}
use Rattle.c_tree.specs.Tree.{kind_of, line_of}
use Rattle.c_tree.specs.Statements.{Part, Content, value_content, literal_content, Initializer, of_plain, of_object}
use Rattle.c_tree.specs.Statements.{DeclaredVariable}
use Rattle.source_meaning.specs.State.{State, Rvalue, Run, on, done, skip, Env}
use Rattle.source_meaning.specs.Actions.{home_pointer, set_plain}
use Rattle.source_meaning.specs.Structures.{write_rvalue}
use Rattle.source_meaning.specs.Expressions.{evaluate}
use Rattle.source_meaning.specs.Initializers.{initialize, initialize_all, store_bytes, store_content, store_parts}
use Rattle.source_meaning.specs.Initializers.{zero_variable}
use Rattle.interpreter_tasks.specs.Registers.{Course, Registers, env_at, top, popped}
use Rattle.interpreter_tasks.specs.Actions.{Drop, SetPlain, GiveHome, StorePart, act}
use Rattle.interpreter_tasks.specs.Tasks.{Do, Initialize, StoreParts, perform, rest}
use Rattle.interpreter_tasks.specs.Parts.{content_tasks, declaration_tasks, initializer_tasks, store_tasks}
use Rattle.interpreter_tasks.proofs.Flow.{on_on, same_on, worked, last_one, evaluated}

module _ (c : Course) (r : Registers) where
  abbrev env : Env
  env = env_at c r

  -- the declarations behind an initializer
  module _ (ds : List DeclaredVariable) where
    abbrev others : Run Registers
    others s = on (initialize_all env ds s) (λ _. done r)

    others_come : (s : State) → others s ≡ rest c (Initialize ds ∷ []) r s
    unfolding perform
    others_come s = last_one c (Initialize ds) r s

    initializer_comes : (x : ℕ) (i : Option Initializer) (s : State)
        → on (on (initialize env x i s) (λ _. initialize_all env ds)) (λ _. done r)
        ≡ rest c (initializer_tasks x i ++ Initialize ds ∷ []) r s
    unfolding rest perform act
    initializer_comes x None s = others_come s
    initializer_comes x (Some (of_plain e)) s =
        on_on (on (evaluate env e s) (λ v. set_plain x v.value)) _ (λ _. done r)
        ∙ on_on (evaluate env e s) (λ v. set_plain x v.value) (λ _. others)
        ∙ evaluated c r (Do (SetPlain x) ∷ Do Drop ∷ Initialize ds ∷ []) s e _ (λ v s. others_come _)
    initializer_comes x (Some (of_object qs)) s =
        on_on (on (zero_variable x s) stored) _ (λ _. done r)
        ∙ on_on (zero_variable x s) stored (λ _. others)
        ∙ same_on (zero_variable x s) _ _ (λ _ s.
        same_on (stored tt s) _ _ (λ _ s. others_come s)
        ∙ sym (on_on (stored tt s) (λ _. done r) (rest c (Initialize ds ∷ []))))
        ∙ sym (on_on (zero_variable x s) (λ _. done r)
        (rest c (Do (GiveHome x) ∷ StoreParts qs ∷ Initialize ds ∷ [])))
      where
        stored : Unit {0} → Run (Unit {0})
        stored _ s = store_parts env (home_pointer x s) qs s

  pub declarations_come : (ds : List DeclaredVariable) (s : State)
      → perform c (Initialize ds) r s ≡ rest c (declaration_tasks ds) r s
  unfolding rest perform
  declarations_come [] s = refl
  declarations_come (d ∷ ds) s = initializer_comes ds d.variable d.initializer s

  -- the parts behind one
  module _ (qs : List Part) where
    abbrev parts_behind : Run Registers
    parts_behind s = on (store_parts env (top r).value qs s) (λ _. done (popped r))

    parts_behind_come : (s : State) → parts_behind s ≡ rest c (StoreParts qs ∷ []) r s
    unfolding perform
    parts_behind_come s = last_one c (StoreParts qs) r s

    content_comes : (offset : ℕ) (x : Content) (s : State)
        → on (on (store_content env (top r).value offset x s) (λ _. store_parts env (top r).value qs))
        (λ _. done (popped r))
        ≡ rest c (content_tasks offset x ++ StoreParts qs ∷ []) r s
    unfolding rest perform act
    content_comes offset (value_content e) s =
        on_on (on (evaluate env e s) written) _ (λ _. done (popped r))
        ∙ on_on (evaluate env e s) written (λ _. parts_behind)
        ∙ evaluated c r (Do (StorePart (kind_of e) offset (line_of e)) ∷ StoreParts qs ∷ []) s e _ (λ v s.
        on_on (writing v s) (λ _. skip) (λ _. parts_behind)
        ∙ same_on (writing v s) _ _ (λ _ s. parts_behind_come s)
        ∙ sym (on_on (writing v s) (λ _. done r) (rest c (StoreParts qs ∷ []))))
      where
        writing : Rvalue → Run Rvalue
        writing v = write_rvalue (kind_of e) false (narrowed offset (size_of_kind (kind_of e)) (top r).value)
            (line_of e) v

        written : Rvalue → Run (Unit {0})
        written v s = on (writing v s) (λ _. skip)
    content_comes offset (literal_content bytes) s =
        on_on (storing s) _ (λ _. done (popped r))
        ∙ same_on (storing s) _ _ (λ _ s. parts_behind_come s)
        ∙ sym (on_on (storing s) (λ _. done r) (rest c (StoreParts qs ∷ [])))
      where
        storing : Run (Unit {0})
        storing s = store_bytes (top r).value offset bytes (worked (1 + length bytes) s)

  pub parts_come : (qs : List Part) (s : State) → perform c (StoreParts qs) r s ≡ rest c (store_tasks qs) r s
  unfolding rest perform act
  parts_come [] s = refl
  parts_come (q ∷ qs) s = content_comes qs q.offset q.content s
