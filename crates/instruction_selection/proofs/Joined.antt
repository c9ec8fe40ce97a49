-- Lists that are put one behind the other, each by a function of its own.
use Rattle.std.proofs.Common.{◌≡◌, ℕ, suc, ◌+◌, ◌*◌, ◌<◌, map, List, [], ◌∷◌, ◌++◌, Bool, length, drop, Some}
use Rattle.std.proofs.Common.{if◌then◌else◌}
use Rattle.std.proofs.Common.{sym, ap, ◌∙◌, arith, append_assoc}
use Rattle.std.specs.Prelude.{slice_get}
use Rattle.std.proofs.lemmas.List.{drop_more}
use Rattle.std.proofs.lemmas.Option.{get_or_from_slice_get}
use Rattle.sb_base.specs.declared.ending.Ending.TheVariants.{Stack}
use Rattle.rv_isa.specs.declared.instruction.BranchOp.TheVariants.{Bltu}
use Rattle.addr_map.specs.declared.region.Region.TheVariants.{Stack as StackRegion}
use Rattle.addr_map.specs.Places.{MapSizes, region_end}
use Rattle.obj_memory.specs.declared.value.Scalar.TheVariants.{Pointer}
use Rattle.c_tree.specs.declared.expression.Kind.{Kind}
use Rattle.c_tree.specs.declared.expression.Update.{Update}
use Rattle.tac_ir.specs.declared.function.Tac.{Tac}
use Rattle.c_tree.specs.declared.expression.Fixity.{Fixity}
use Rattle.c_tree.specs.declared.program.Variable.{Variable}
use Rattle.tac_ir.specs.declared.instruction.RightOperand.{RightOperand}
use Rattle.tac_ir.specs.declared.function.CodeFunction.{CodeFunction}
use Rattle.flat_code.specs.declared.instruction.RightOperand.TheVariants.{Register}
use Rattle.flat_code.specs.declared.instruction.FlatInstruction.{FlatInstruction}
use Rattle.flat_code.specs.declared.instruction.FlatInstruction.TheVariants.{Constant, Move, Branch, CallAddress, End}
use Rattle.flat_code.specs.declared.registers.Entry.{Entry}
use Rattle.shadow_space.specs.Form.{EntryCode}
use Rattle.lib_wrappers.specs.declared.accesses.held.HeldScalar.TheVariants.{Pointer as HeldPointer}
use Rattle.lib_wrappers.specs.AccessRoutines.Accessing.{load_code, store_code}
use Rattle.lib_wrappers.specs.AllocatingRoutines.Allocating.{keys_code, key_test}
use Rattle.metadata_plan.specs.OperatorLists.Operators.{operators}
use Rattle.runtime_functions.specs.Library.{Passed, held_from}
use Rattle.metadata_relation.specs.Registers.{first_free, moved_register, parameters_end, passed_as}
use Rattle.metadata_relation.specs.Registers.{result_words, temporary_register}
use Rattle.metadata_relation.specs.InlineCode.{InlineCode}
use Rattle.metadata_relation.specs.InlineLists.{inline_lists}
use Rattle.metadata_relation.specs.Blocks.{callee_tests, given_register, move_entry_if, new_address, room_tests}
use Rattle.metadata_relation.specs.Blocks.{store_parameter, store_parameters, units_tests, unknown_object_tests}
use Rattle.metadata_relation.specs.Blocks.{await_result, pack, result_code, result_of, through_code, update_code}
use Rattle.instruction_selection.specs.declared.updates.Change.{Change}
use Rattle.instruction_selection.specs.Calls.{units_end}
use Rattle.instruction_selection.proofs.Lists.{three_behind, four_behind, five_behind}

pub units_list : (m : MapSizes) (line s end : ℕ) (start : List FlatInstruction) {n k l o : List FlatInstruction}
    → end ≡ region_end m StackRegion → start ≡ [] → n ≡ start ++ units_end m s → k ≡ n ++ (Constant (s + 1) (end + 1) ∷ [])
    → l ≡ k ++ (Branch Bltu s (Register (s + 1)) 1 ∷ End (Stack line) ∷ [])
    → o ≡ l ++ (keys_code m s (s + 1) ++ key_test s line) → o ≡ units_tests m line s
units_list m line s end start same none e f g h =
    four_behind start (units_end m s) (Constant (s + 1) (end + 1) ∷ [])
    (Branch Bltu s (Register (s + 1)) 1 ∷ End (Stack line) ∷ []) (keys_code m s (s + 1) ++ key_test s line) e f g h
    ∙ (ap (λ xs. xs ++ (units_end m s ++ ((Constant (s + 1) (end + 1) ∷ [])
    ++ ((Branch Bltu s (Register (s + 1)) 1 ∷ End (Stack line) ∷ []) ++ (keys_code m s (s + 1) ++ key_test s line))))) none
    ∙ ap (λ z. units_end m s
    ++ (Constant (s + 1) (z + 1) ∷ (Branch Bltu s (Register (s + 1)) 1
    ∷ End (Stack line) ∷ (keys_code m s (s + 1) ++ key_test s line)))) same)

pub through_list : (m : MapSizes) (kind line r key s t : ℕ) (before : List FlatInstruction) {n k l : List FlatInstruction} → s ≡ t
    → key ≡ (held_from r).tag.key → n ≡ before ++ callee_tests kind line r s → k ≡ n ++ room_tests m key line s
    → l ≡ k ++ unknown_object_tests m key line s
    → l ≡ before ++ (callee_tests kind line r t
    ++ (room_tests m (held_from r).tag.key line t ++ unknown_object_tests m (held_from r).tag.key line t))
through_list m kind line r key s t before same keyed e f g =
    three_behind before (callee_tests kind line r s) (room_tests m key line s) (unknown_object_tests m key line s) e f g
    ∙ (ap (λ z. before ++ (callee_tests kind line r s ++ (room_tests m z line s ++ unknown_object_tests m z line s))) keyed
    ∙ ap (λ z. before ++ (callee_tests kind line r z
    ++ (room_tests m (held_from r).tag.key line z ++ unknown_object_tests m (held_from r).tag.key line z))) same)

pub pointer_update_list : (read write : EntryCode) (m : MapSizes) (c : CodeFunction) (w : Update) (f : Fixity) (line : ℕ)
    (b : Bool) (d p : ℕ) (right : RightOperand) (s : ℕ) (change : Change) (into from : Entry) (before : List FlatInstruction) {n k l o q : List FlatInstruction} → change ≡ record { update = w; right = right; line = line; new = s + 5; old = s; scratch = s + 5 + 1 }
    → into ≡ (held_from d).tag → from ≡ (held_from s).tag
    → n ≡ before ++ load_code read m p (HeldPointer (held_from s)) (s + 5)
    → k ≡ n ++ new_address (inline_lists read write m) c change.update change.new change.old change.right change.scratch
    → l ≡ k ++ store_code write m p (HeldPointer (record { value = s + 5; tag = (held_from s).tag })) (s + 6)
    → o ≡ l ++ (Move d (given_register f s (s + 5)) ∷ []) → q ≡ o ++ move_entry_if b into from
    → q ≡ before ++ update_code (inline_lists read write m) c w Pointer f line b d p right s
pointer_update_list read write m c w f line b d p right s change into from before made same also e g h i j =
    let a = load_code read m p (HeldPointer (held_from s)) (s + 5) in
    let x = store_code write m p (HeldPointer (record { value = s + 5; tag = (held_from s).tag })) (s + 6) in
    let y = Move d (given_register f s (s + 5)) ∷ [] in
    let lists = inline_lists read write m in
    let place : s + 5 + 1 ≡ s + 6 = omega arith in
    let new : Change → List FlatInstruction = λ z. new_address lists c z.update z.new z.old z.right z.scratch in
    five_behind before a (new change) x y (move_entry_if b into from) e g h i j
    ∙ (ap (λ z. before ++ (a ++ (new z ++ (x ++ (y ++ move_entry_if b into from))))) made
    ∙ (ap (λ z. before ++ (a ++ (new_address lists c w (s + 5) s right z ++ (x ++ (y ++ move_entry_if b into from))))) place
    ∙ (ap (λ z. before ++ (a ++ (new_address lists c w (s + 5) s right (s + 6) ++ (x ++ (y ++ move_entry_if b z from))))) same
    ∙ ap (λ z. before
    ++ (a ++ (new_address lists c w (s + 5) s right (s + 6) ++ (x ++ (y ++ move_entry_if b (held_from d).tag z))))) also)))

-- parameters from one on, where that one has got its argument
pub next_stored : (i : InlineCode) (t : Tac) (c : CodeFunction) (ps : List Variable) (x : ℕ) (v : Variable)
    (now : List FlatInstruction) {after : List FlatInstruction} → x < length ps → slice_get ps x ≡ Some v
    → after ≡ now ++ (if v.is_object then store_parameter i t c v.kind x else [])
    → after ++ store_parameters i t c (x + 1) (drop (x + 1) ps) ≡ now ++ store_parameters i t c x (drop x ps)
next_stored i t c ps x v now low at put =
    let next : x + 1 ≡ suc x = omega arith in
    let own = if v.is_object then store_parameter i t c v.kind x else [] in
    ap (λ is. is ++ store_parameters i t c (x + 1) (drop (x + 1) ps)) put
    ∙ (ap (λ k. (now ++ own) ++ store_parameters i t c k (drop (x + 1) ps)) next
    ∙ (append_assoc now own (store_parameters i t c (suc x) (drop (x + 1) ps))
    ∙ ap (λ ws. now ++ store_parameters i t c x ws)
    (sym (drop_more ps x v low ∙ ap (λ z. z ∷ drop (x + 1) ps) (get_or_from_slice_get ps x v v at)))))

pub through_one_list : (m : MapSizes) (t : Tac) (c one : CodeFunction) (kind line d : ℕ) (b : Bool)
    (r q count results : ℕ) (given : Kind) (ps : List Passed) (before : List FlatInstruction)
    {n a k l o : List FlatInstruction} → r ≡ temporary_register c d → q ≡ moved_register c (5 * (d + 1))
    → ps ≡ map (λ v. passed_as v.kind) one.parameters → given ≡ result_of t one
    → count ≡ parameters_end one → results ≡ result_words given
    → n ≡ before ++ (callee_tests kind line r (first_free c)
    ++ (room_tests m (held_from r).tag.key line (first_free c)
    ++ unknown_object_tests m (held_from r).tag.key line (first_free c)))
    → a ≡ n ++ await_result operators m t c given d
    → k ≡ a ++ pack c ps q (d + 1) → l ≡ k ++ (CallAddress r q count r results ∷ [])
    → o ≡ l ++ result_code t c given b d → o ≡ before ++ through_code operators m t c one kind line d b
through_one_list m t c one kind line d b r q count results given ps before first moved handed gives counted many
    e f g h i =
    let s = first_free c in
    let x = callee_tests kind line r s in
    let y = room_tests m (held_from r).tag.key line s in
    let z = unknown_object_tests m (held_from r).tag.key line s in
    let rest : (p q : ℕ) → List Passed → (n u : ℕ) → Kind → List FlatInstruction =
    λ p q vs n u v. await_result operators m t c v d
    ++ (pack c vs q (d + 1) ++ (CallAddress p q n p u ∷ result_code t c v b d)) in
    five_behind before (x ++ (y ++ z)) (await_result operators m t c given d) (pack c ps q (d + 1))
    (CallAddress r q count r results ∷ []) (result_code t c given b d) e f g h i
    ∙ (ap (λ is. before ++ is) (append_assoc x (y ++ z) (rest r q ps count results given)
    ∙ ap (λ is. x ++ is) (append_assoc y z (rest r q ps count results given)))
    ∙ (ap (λ vs. before ++ (x ++ (y ++ (z ++ rest r q vs count results given)))) handed
    ∙ (ap (λ n. before ++ (x ++ (y ++ (z ++ rest r q (map (λ v. passed_as v.kind) one.parameters) n results given)))) counted
    ∙ (ap (λ n. before ++ (x ++ (y ++ (z ++ rest r q (map (λ v. passed_as v.kind) one.parameters)
    (parameters_end one) n given)))) many
    ∙ (ap (λ v. before ++ (x ++ (y ++ (z ++ rest r q (map (λ v. passed_as v.kind) one.parameters)
    (parameters_end one) (result_words v) v)))) gives
    ∙ (ap (λ n. before ++ (x ++ (y ++ (z ++ rest r n (map (λ v. passed_as v.kind) one.parameters)
    (parameters_end one) (result_words (result_of t one)) (result_of t one))))) moved
    ∙ ap (λ p. before ++ (callee_tests kind line p s ++ (room_tests m (held_from p).tag.key line s
    ++ (unknown_object_tests m (held_from p).tag.key line s ++ rest p (moved_register c (5 * (d + 1)))
    (map (λ v. passed_as v.kind) one.parameters) (parameters_end one)
    (result_words (result_of t one)) (result_of t one))))) first))))))
