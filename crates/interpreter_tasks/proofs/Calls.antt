-- A call means its turn, its set-up, its body in an activation of its own, and its return.
use Rattle.std.proofs.Common.{◌≡◌, ℕ, zero, suc, List, [], ◌∷◌, refl, sym, ◌∙◌, Option, Some, None}
use Rattle.c_tree.specs.declared.expression.Kind.{Kind}
use Rattle.c_tree.specs.Programs.{Function}
use Rattle.c_tree.specs.Blocks.{all_of}
use Rattle.source_meaning.specs.State.{State, Rvalue, Run, on, done, Env}
use Rattle.source_meaning.specs.Actions.{begin_turn}
use Rattle.source_meaning.specs.Statements.{Completion, Normal, each_of, in_order}
use Rattle.source_meaning.specs.Calls.{Caller, back_to, caller, calls, enter_found, env_of, function_at, header_of}
use Rattle.source_meaning.specs.Calls.{result_of, returned_by, set_up}
use Rattle.interpreter_tasks.specs.Registers.{Course, Registers, completed}
use Rattle.interpreter_tasks.specs.Actions.{LeaveCall, act}
use Rattle.interpreter_tasks.specs.Tasks.{Do, InOrder, perform, rest}
use Rattle.interpreter_tasks.specs.Parts.{after_one}
use Rattle.interpreter_tasks.specs.Steps.{go_on, call_step}
use Rattle.interpreter_tasks.proofs.Flow.{on_on, same_on, on_done, worked}

-- r are the registers of the caller, whose values below the arguments are given
module _ (c : Course) (r : Registers) (below vs : List Rvalue) (line : ℕ) where
  abbrev gives_back : Rvalue → Run Registers
  gives_back v = done (record r { values = v ∷ below })

  -- a function, and how deep calls in it may be nested
  module _ (f : Function) (n : ℕ) where
    abbrev env : Env
    env = env_of c.functions c.setting c.limit n (all_of f)

    abbrev result : Kind
    result = result_of c.setting f.type_number

    -- the registers of the function that is called
    abbrev inside : Caller → Registers
    inside back = record {
      values = below;
      completion = Normal;
      blocks = r.blocks;
      waiting = record { caller = back; completion = r.completion; activation = r.activation } ∷ r.waiting;
      activation = record { function = f; left = n };
    }

    abbrev returning : Caller → Completion → Run Rvalue
    returning back x s = on (returned_by result x s) (λ v s. done v (back_to back s))

    returns : (back : Caller) (x : Completion) (s : State)
        → on (returning back x s) gives_back ≡ rest c (Do LeaveCall ∷ []) (completed x (inside back)) s
    unfolding rest perform act
    returns back x s =
        on_on (returned_by result x s) (λ v s. done v (back_to back s)) gives_back
        ∙ sym (on_done (on (returned_by result x s) (λ v s. gives_back v (back_to back s))))

    body_comes : (back : Caller) (s : State)
        → on (on (in_order (each_of env f.body) s) (returning back)) gives_back
        ≡ rest c (after_one (InOrder f.body) LeaveCall) (inside back) s
    unfolding rest perform
    body_comes back s =
        on_on (in_order (each_of env f.body) s) (returning back) gives_back
        ∙ same_on (in_order (each_of env f.body) s) _ _ (returns back)
        ∙ sym (on_on (in_order (each_of env f.body) s) (λ x. done (completed x (inside back)))
        (rest c (Do LeaveCall ∷ [])))

    found_comes : (s : State)
        → on (enter_found env (Some f) vs line s) gives_back
        ≡ on (call_step c (suc n) (Some f) r below vs line s) (go_on c)
    found_comes s =
        on_on (begin_turn c.limit s) _ gives_back
        ∙ same_on (begin_turn c.limit s) _ _ (λ _ s.
        on_on (set_up c.setting (header_of f) vs line s) _ gives_back
        ∙ same_on (set_up c.setting (header_of f) vs line s) _ _ (λ _ s'. body_comes (caller s) (worked 1 s'))
        ∙ sym (on_on (set_up c.setting (header_of f) vs line s) _ (go_on c)))
        ∙ sym (on_on (begin_turn c.limit s) _ (go_on c))

  entered : (n : ℕ) (f : Option Function) (s : State)
      → on (enter_found (env_of c.functions c.setting c.limit n []) f vs line s) gives_back
      ≡ on (call_step c (suc n) f r below vs line s) (go_on c)
  entered n None s = refl
  entered n (Some f) s = found_comes f n s

  pub call_comes : (n f : ℕ) (s : State)
      → on (calls c.functions c.setting c.limit n f vs line s) gives_back
      ≡ on (call_step c n (function_at c.functions f) r below vs line s) (go_on c)
  call_comes zero f s = refl
  call_comes (suc n) f s = entered n (function_at c.functions f) s
