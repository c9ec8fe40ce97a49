-- What laying out and moving objects counts at least, and a call.
use Rattle.std.proofs.Common.{◌≡◌, ℕ, zero, suc, ◌+◌, ◌≤◌, List, [], ◌∷◌, Option, Some, None, Bool, true, false, refl}
use Rattle.std.proofs.Common.{sym, ap, subst, arith}
use Rattle.std.specs.Prelude.{◌||◌, if◌then◌else◌}
use Rattle.obj_memory.specs.declared.value.Value.{Value}
use Rattle.obj_memory.specs.Objects.{ObjectState, object_at}
use Rattle.c_tree.specs.declared.expression.Kind.{Kind}
use Rattle.c_tree.specs.declared.expression.Kind.TheVariants.{Structure}
use Rattle.c_tree.specs.declared.program.Variable.{Variable}
use Rattle.c_tree.specs.Programs.{Function}
use Rattle.c_tree.specs.Kinds.{size_of_kind}
use Rattle.c_tree.specs.Blocks.{all_of}
use Rattle.source_meaning.specs.State.{State, Rvalue, Home, NoObject, Outcome, Gives, Ended, Paused, Run, on}
use Rattle.source_meaning.specs.State.{◌>>=◌, ◌>>◌, done, choose, tally, Header, Setting}
use Rattle.source_meaning.specs.Structures.{taken, take_value, with_contents}
use Rattle.source_meaning.specs.Initializers.{zero_home, zero_variable}
use Rattle.source_meaning.specs.Statements.{Completion}
use Rattle.source_meaning.specs.Blocks.{has_objects, place_object, place_variables, place_block, enter_block}
use Rattle.source_meaning.specs.Calls.{call_tests, lay_out, set_up, header_of, caller, returned_by, result_of}
use Rattle.source_meaning.specs.Calls.{enter_begun, enter_found, function_at, calls, env_of}
use Rattle.source_meaning.specs.Acting.{at_work, ActsBy, IsAction, RunsAlikeBy, RunsAlike, state_of}
use Rattle.source_meaning.specs.Good.{Context, object_kind, IsGood}
use Rattle.source_meaning.specs.Working.{CountsBy, Counts, CountsAtOnce, HaveBytes}
use Rattle.source_meaning.proofs.Acting.{acts_then, acts_read, acts_done}
use Rattle.source_meaning.proofs.ActionsAct.{acts_located, acts_test_space, acts_test_keys, acts_place_variables}
use Rattle.source_meaning.proofs.ActionsAct.{acts_call_tests, acts_lay_out, acts_returned, acts_back_to}
use Rattle.source_meaning.proofs.RunsAlike.{alike_action, alike_turn, alike_body}

counts_from : {A : Type 0} (m n : ℕ) (s s1 : State) (o : Outcome A) → s.work + m ≤ s1.work → CountsBy n s1 o
    → CountsBy (m + n) s o
counts_from m n s s1 (Gives a s') le h = omega (arith, le, h)
counts_from m n s s1 (Ended e s') le h = tt
counts_from m n s s1 (Paused s') le h = tt

counts_on_by : {A B : Type 0} (m n : ℕ) (s : State) (o : Outcome A) (f : A → Run B) → CountsBy m s o
    → ((a : A) → Counts n (f a)) → CountsBy (m + n) s (on o f)
counts_on_by m n s (Gives a s') f h g = counts_from m n s s' (f a s') h ((g a).counts s')
counts_on_by m n s (Ended e s') f h g = tt
counts_on_by m n s (Paused s') f h g = tt

counts_on : {A B : Type 0} {r : Run A} {f : A → Run B} (m n : ℕ) → Counts m r → ((a : A) → Counts n (f a))
    → Counts (m + n) (r >>= f)
counts_on {r = r} {f = f} m n h g = record { counts = λ s. counts_on_by m n s (r s) f (h.counts s) g }

counts_then : {A B : Type 0} {r : Run A} {q : Run B} (m n : ℕ) → Counts m r → Counts n q → Counts (m + n) (r >> q)
counts_then {r = r} {q = q} m n h g = record { counts = λ s. counts_on_by m n s (r s) (λ _. q) (h.counts s) (λ _. g) }

counts_as : {A : Type 0} {r : Run A} (m n : ℕ) → m ≡ n → Counts m r → Counts n r
counts_as {r = r} m n e h = subst (λ k. Counts k r) e h

counts_tally : (n : ℕ) → Counts n (tally n)
counts_tally n = record { counts = λ s. omega arith }

-- no work is taken back

alike_counts : {A : Type 0} (s : State) (o o' : Outcome A) → RunsAlikeBy 0 s o o' → CountsBy 0 s o
alike_counts s (Gives a s') o' h = omega (arith, h.2)
alike_counts s (Ended e s') o' h = tt
alike_counts s (Paused s') o' h = tt

counts_nothing : {A : Type 0} {r : Run A} → RunsAlike r → Counts 0 r
counts_nothing {r = r} h = record { counts = λ s. alike_counts s (r s) (r (at_work 0 s)) (h.alike s 0) }

counts_action : {A : Type 0} {r : Run A} → IsAction r → Counts 0 r
counts_action h = counts_nothing (alike_action h)

acts_later : {A : Type 0} (s : State) (o o' : Outcome A) → ActsBy 0 s o o' → s.work ≤ (state_of o).work
acts_later s (Gives a s') o' h = h.2.later.work
acts_later s (Ended e s') o' h = h.2.later.work
acts_later s (Paused s') o' h = absurd h

-- blocks

counts_place_object : (size : ℕ) → 1 ≤ size → Counts 2 (place_object size)
counts_place_object size le = record { counts = λ s. omega (arith, le) }

module _ (vs : List Variable) (rest : Counts 0 (place_variables vs)) where
  counts_first : (v : Variable) → (b : Bool) → v.is_object ≡ b → HaveBytes (v ∷ vs)
      → (has_objects vs ≡ true → Counts 2 (place_variables vs)) → (b || has_objects vs) ≡ true
      → Counts 2 (choose b (place_object (size_of_kind v.kind)) (done NoObject)
      >>= (λ home. place_variables vs >>= (λ homes. done (home ∷ homes))))
  counts_first v true is bytes others has =
      counts_on 2 0 (counts_place_object (size_of_kind v.kind)
      (bytes zero v.kind (ap (λ b. if b then Some v.kind else None) is)))
      (λ home. counts_on 0 0 rest (λ homes. counts_action (acts_done {a = home ∷ homes})))
  counts_first v false is bytes others has =
      counts_on {A = Home} 0 2 (counts_action (acts_done {a = NoObject}))
      (λ home. counts_on 2 0 (others has) (λ homes. counts_action (acts_done {a = home ∷ homes})))

counts_place : (vs : List Variable) → HaveBytes vs → has_objects vs ≡ true → Counts 2 (place_variables vs)
counts_place [] bytes has = cc
counts_place (v ∷ vs) bytes has =
    counts_first vs (counts_action (acts_place_variables vs)) v v.is_object refl bytes
    (counts_place vs (λ x. bytes (suc x))) has

counts_place_block : (vs : List Variable) → HaveBytes vs → has_objects vs ≡ true → Counts 2 (place_block vs)
counts_place_block vs bytes has =
    counts_on 0 2 (counts_action (acts_read {f = λ s. s.frame} (λ k s. refl)))
    (λ frame. counts_on 0 2 (counts_action (acts_read {f = λ s. s.stacked} (λ k s. refl)))
    (λ top. counts_on 2 0 (counts_place vs bytes has) (λ homes. record { counts = λ s. omega arith })))

-- a block that has objects, each of which has a byte, counts at least two
pub counts_enter_block : (g : Setting) (vs : List Variable) (line : ℕ) → HaveBytes vs → has_objects vs ≡ true
    → Counts 2 (enter_block g vs line)
counts_enter_block g vs line bytes has =
    counts_then 0 2 (counts_action (acts_test_space g vs line))
    (counts_then 0 2 (counts_action (acts_test_keys g vs line)) (counts_place_block vs bytes has))

-- structures that are taken and objects that are zeroed

counts_taken : (c : Option ObjectState) (size : ℕ) (v : Value) (line : ℕ) → Counts size (taken c size v line)
counts_taken None size v line = counts_as (0 + size) size (omega arith)
    (counts_on 0 size (counts_action (acts_located false size v line))
    (λ p. counts_as (size + 0) size (omega arith)
    (counts_then size 0 (counts_tally size) (counts_action (acts_read
    {f = λ s. with_contents size p.offset (object_at s.objects p.object)} (λ k s. refl))))))
counts_taken (Some c) size v line = counts_as (size + 0) size (omega arith)
    (counts_then size 0 (counts_tally size) (counts_action (acts_done {a = with_contents size v.word c})))

pub counts_take : (size line : ℕ) (v : Rvalue) → Counts size (take_value (Structure size) line v)
counts_take size line v = counts_taken v.contents size v.value line

pub counts_zero : (sc : Context) (x : ℕ) (kind : Kind) → object_kind sc.scope.variables x ≡ Some kind → (s : State)
    → IsGood sc s → CountsBy (size_of_kind kind) s (zero_variable x s)
counts_zero sc x kind has s good =
    let h = good.homes x kind has in
    let size = h.held.size in
    subst (λ (home : Home). CountsBy (size_of_kind kind) s (zero_home home s)) (sym h.home) (omega (arith, size))

-- calls

pub counts_set_up : (g : Setting) (f : Header) (vs : List Rvalue) (line : ℕ) → CountsAtOnce 1 (set_up g f vs line)
counts_set_up g f vs line = record {
  counts = λ s.
      let s1 : State = record s { work = s.work + 1 } in
      let rest : Run (Unit {0}) = call_tests g f line >> lay_out f vs line in
      acts_later s1 (rest s1) (rest (at_work 0 s1))
      ((acts_then (acts_call_tests g f line) (acts_lay_out f vs line)).acts s1 0);
}

set_up_gives : {A : Type 0} (n : ℕ) (s : State) (o : Outcome A) → s.work + n ≤ (state_of o).work → CountsBy n s o
set_up_gives n s (Gives a s') le = le
set_up_gives n s (Ended e s') le = tt
set_up_gives n s (Paused s') le = tt

module _ (functions : List Function) (g : Setting) (limit n : ℕ) where
  counts_returned : (result : Kind) (completion : Completion) → Counts 0 (returned_by result completion)
  counts_returned result completion = counts_action (acts_returned result completion)

  counts_begun : (f : Function) (vs : List Rvalue) (line : ℕ)
      → Counts 2 (enter_begun (env_of functions g limit n (all_of f)) f vs line)
  counts_begun f vs line =
      counts_on 0 2 (counts_action (acts_read {f = caller} (λ k s. refl)))
      (λ c. counts_then 1 1 (record {
        counts = λ s. set_up_gives 1 s (set_up g (header_of f) vs line s)
            ((counts_set_up g (header_of f) vs line).counts s);
      })
      (counts_on 1 0 (counts_then 1 0 (counts_tally 1)
      (counts_nothing (alike_body functions g limit n (all_of f) f.body)))
      (λ completion. counts_on 0 0 (counts_returned (result_of g f.type_number) completion)
      (λ v. counts_then 0 0 (counts_action (acts_back_to c)) (counts_action (acts_done {a = v}))))))

  counts_found : (o : Option Function) (vs : List Rvalue) (line : ℕ)
      → Counts 2 (enter_found (env_of functions g limit n []) o vs line)
  counts_found None vs line = record { counts = λ s. tt }
  counts_found (Some f) vs line = counts_then 0 2 (counts_nothing (alike_turn limit)) (counts_begun f vs line)

-- a call counts itself and its body
pub counts_calls : (functions : List Function) (g : Setting) (limit n f : ℕ) (vs : List Rvalue) (line : ℕ)
    → Counts 2 (calls functions g limit n f vs line)
counts_calls functions g limit zero f vs line = record { counts = λ s. tt }
counts_calls functions g limit (suc n) f vs line = counts_found functions g limit n (function_at functions f) vs line
