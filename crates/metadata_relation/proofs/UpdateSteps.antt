-- An update through the word of a temporary goes on as its parts do, or ends the run where it divides by zero.
use Rattle.std.proofs.Common.{◌≡◌, ℕ, ◌*◌, ◌^◌, true, false, List, Option, Some, None, refl, sym, ap, ◌∙◌}
use Rattle.std.proofs.Common.{subst, arith, ltb-true}
use Rattle.std.specs.Prelude.{slice_get}
use Rattle.obj_memory.specs.declared.int_type.IntType.{IntType}
use Rattle.obj_memory.specs.declared.operator.BinaryOperator.{BinaryOperator}
use Rattle.obj_memory.specs.declared.value.Scalar.{Scalar}
use Rattle.obj_memory.specs.declared.value.Scalar.TheVariants.{Integer, Pointer}
use Rattle.obj_memory.specs.declared.value.Value.{Value}
use Rattle.obj_memory.specs.Access.{read_value, scalar_size}
use Rattle.obj_memory.specs.Integers.{fit}
use Rattle.obj_memory.specs.Judgement.{moved, place_in}
use Rattle.obj_memory.specs.Operators.{binary_value}
use Rattle.c_tree.specs.declared.expression.Fixity.{Fixity}
use Rattle.c_tree.specs.declared.expression.Update.{Update}
use Rattle.c_tree.specs.declared.expression.Update.TheVariants.{Arithmetic, Forward, Back}
use Rattle.source_meaning.specs.State.{State, Rvalue, Outcome, done, on}
use Rattle.source_meaning.specs.Actions.{converted_to, given as given_value, integer, located, moved_back, read_scalar}
use Rattle.source_meaning.specs.Actions.{store}
use Rattle.source_meaning.specs.Actions.{update, updated, value_or_divide, write_scalar}
use Rattle.source_meaning.specs.Keeping.{IsDirect}
use Rattle.source_meaning.specs.Structures.{as_rvalue, give, rvalue}
use Rattle.source_meaning.proofs.Updating.{update_is_in_parts}
use Rattle.tac_ir.specs.declared.instruction.Instruction.{Instruction}
use Rattle.tac_ir.specs.declared.instruction.Instruction.TheVariants as tac
use Rattle.tac_ir.specs.declared.instruction.Mode.{Mode}
use Rattle.tac_ir.specs.declared.instruction.RightOperand.{RightOperand}
use Rattle.tac_ir.specs.Accesses.{admitted, is_through}
use Rattle.tac_ir.specs.Costs.{cost, spent}
use Rattle.tac_ir.specs.Fitting.{is_update_of}
use Rattle.tac_ir.specs.Meaning.{effect, function_in as code_in, given_in, keyed, keys_of, right_value}
use Rattle.tac_ir.specs.Stage.{came, Frame, Stage, Stands, Stuck, Temps, with_temp}
use Rattle.flat_code.specs.Memory.{Bytes}
use Rattle.flat_code.specs.State as flat
use Rattle.flat_code.specs.Words.{HasWords}
use Rattle.flat_operators.specs.Pointers.{address_back, address_forward}
use Rattle.metadata_relation.specs.Holding.{IsHeldAt}
use Rattle.metadata_relation.specs.Registers.{temporary_register}
use Rattle.metadata_relation.specs.Stages.{Compiled, expansion_of, IsAt, views, world}
use Rattle.metadata_relation.specs.Steps.{IsCompiled, is_settled, is_update_by_word}
use Rattle.metadata_relation.proofs.Accesses.{behind_read, behind_write, found, keyed_opens, loaded, stored}
use Rattle.metadata_relation.proofs.Reading.{plain_operand}
use Rattle.metadata_relation.proofs.Standing.{IsNode, node, Result}
use Rattle.metadata_relation.proofs.UpdatedPlaces.{divided, pointer_updated, updates}

-- ---- an address that goes on

forward_word : (size b : ℕ) (v : Value) → (moved (b * size) v).word ≡ address_forward size v.word b
unfolding moved
forward_word size b v = refl

forward_tag : (size b : ℕ) (v : Value) → (moved (b * size) v).tag ≡ v.tag
unfolding moved
forward_tag size b v = refl

back_word : (size b : ℕ) (v : Value) → (moved_back (b * size) v).word ≡ address_back size v.word b
unfolding moved
back_word size b v = refl

back_tag : (size b : ℕ) (v : Value) → (moved_back (b * size) v).tag ≡ v.tag
unfolding moved
back_tag size b v = refl

module _ (c : Compiled) (IsGood : Bytes → Type 0) (right : IsCompiled c IsGood) (u n : ℕ) (temps : Temps)
    (ws : List Frame) (s : State) (v : flat.State) (xs : List flat.Frame)
    (h : IsAt c IsGood u n temps ws s u (c.layout.address u n) v xs)
    (words : HasWords (flat.Stands u (c.layout.address u n) v xs)) where
  abbrev Follows : Stage → Type 0
  Follows a = Result c IsGood a (flat.Stands u (c.layout.address u n) v xs)

  module _ (w : Update) (k : Scalar) (f : Fixity) (mode : Mode) (line end_line : ℕ) (key : Option ℕ) (d a : ℕ)
      (r : RightOperand) (next : ℕ) (settled : is_settled mode ≡ true)
      (at : slice_get h.code.code n ≡ Some (tac.Update w k f mode line end_line key d a r next))
      (plain : c.layout.expansion.contents u n a ≡ false) where
    abbrev label : Instruction
    label = tac.Update w k f mode line end_line key d a r next

    nd : IsNode c u n h.code (tac.Update w k f mode line end_line key d a r next)
    nd = node c IsGood right u n temps ws s v xs h (tac.Update w k f mode line end_line key d a r next) at

    abbrev paid : State
    paid = spent (cost (tac.Update w k f mode line end_line key d a r next)) s

    abbrev word : ℕ
    word = (right_value r temps).word

    abbrev Behind : Rvalue → Stage
    Behind q = came (as_rvalue (update k (is_through mode) q.value line (updated w k (right_value r temps) end_line) f)
        paid) (given_in u next temps d ws)

    abbrev Effect : Rvalue → Stage
    Effect q = keyed (keys_of (code_in c.layout.expansion.code u)) key paid q.value
        (admitted mode (scalar_size k) q s.objects (Behind q))

    -- a value is found, stored, and one of both given
    abbrev Stored : (old : Value) → (address : Value) → Outcome Value → Stage
    Stored old p o = came (on (on o (λ new z. on (store k false p line new z) (λ _. done (given_value f old new)))) give)
        (given_in u next temps d ws)

    module _ (p : Value)
        (held : IsHeldAt (world c h.keys s v) (c.layout.expansion.entries u n a) p (temporary_register h.code a) v.values)
        (direct : IsDirect s.objects p (scalar_size k)) where
      abbrev old : Value
      old = read_value k (place_in s.objects direct.object p.word) s.objects

      in_parts : located (is_through mode) (scalar_size k) p line paid ≡ located false (scalar_size k) p line paid
          → Behind (rvalue p) ≡ Stored old p (updated w k (right_value r temps) end_line old
          (behind_read (scalar_size k) p paid))
      in_parts same =
          let new_of = updated w k (right_value r temps) end_line in
          ap (λ o. came (on (on o (λ q z. on (read_scalar k p.word q z) (λ old z1. on (new_of old z1)
          (λ new z2. on (write_scalar k p.word q new z2) (λ _. done (given_value f old new)))))) give)
          (given_in u next temps d ws)) same
          ∙ ap (λ o. came (on o give) (given_in u next temps d ws))
          (update_is_in_parts k p line f paid direct w (right_value r temps) end_line)
          ∙ ap (λ o. came (on (on o (λ old z1. on (new_of old z1)
          (λ new z2. on (store k false p line new z2) (λ _. done (given_value f old new))))) give)
          (given_in u next temps d ws)) (loaded k p line paid direct)

  -- ---- integers

  module _ (op : BinaryOperator) (t kt : IntType) (f : Fixity) (mode : Mode) (line end_line : ℕ) (key : Option ℕ)
      (d a : ℕ) (r : RightOperand) (next : ℕ)
      (at : slice_get h.code.code n
      ≡ Some (tac.Update (Arithmetic op t) (Integer kt) f mode line end_line key d a r next))
      (p : Value)
      (held : IsHeldAt (world c h.keys s v) (c.layout.expansion.entries u n a) p (temporary_register h.code a) v.values)
      (direct : IsDirect s.objects p (scalar_size (Integer kt))) where
    abbrev integer_paid : State
    integer_paid = spent (cost (tac.Update (Arithmetic op t) (Integer kt) f mode line end_line key d a r next)) s

    abbrev was : Value
    was = read_value (Integer kt) (place_in s.objects direct.object p.word) s.objects

    abbrev read_behind : State
    read_behind = behind_read (scalar_size (Integer kt)) p integer_paid

    abbrev Came : Option ℕ → Stage
    Came x = came (on (on (on (value_or_divide x end_line read_behind) (λ new. done (converted_to (Integer kt) new)))
        (λ new z. on (store (Integer kt) false p line new z) (λ _. done (given_value f was new)))) give)
        (given_in u next temps d ws)

    integer_updated : (x : Option ℕ) → binary_value op t (fit t was.word) (right_value r temps).word ≡ x
        → Follows (Came x)
    integer_updated None e =
        divided c IsGood right u n temps ws s v xs h words op t kt f mode line end_line key d a r next at p held direct e
    integer_updated (Some w) e =
        let new = integer (fit kt w) in
        subst Follows (sym (ap (λ o. came (on (on o (λ _. done (given_value f was new))) give) (given_in u next temps d ws))
        (stored (Integer kt) p new line read_behind direct)))
        (updates c IsGood right u n temps ws s v xs h words op t kt f mode line end_line key d a r next at p held direct w e)

  -- ---- by the kind of update

  module _ (f : Fixity) (mode : Mode) (line end_line : ℕ) (key : Option ℕ) (d a : ℕ) (r : RightOperand) (next : ℕ)
      (p : Value)
      (held : IsHeldAt (world c h.keys s v) (c.layout.expansion.entries u n a) p (temporary_register h.code a) v.values)
    where
      abbrev Updated : (w : Update) (k : Scalar) → Type 0
      Updated w k = (at : slice_get h.code.code n ≡ Some (tac.Update w k f mode line end_line key d a r next))
          (direct : IsDirect s.objects p (scalar_size k))
          → Follows (came (on (on (updated w k (right_value r temps) end_line
          (read_value k (place_in s.objects direct.object p.word) s.objects)
          (behind_read (scalar_size k) p (spent (cost (tac.Update w k f mode line end_line key d a r next)) s)))
          (λ new z. on (store k false p line new z)
          (λ _. done (given_value f (read_value k (place_in s.objects direct.object p.word) s.objects) new)))) give)
          (given_in u next temps d ws))

      abbrev loaded_pointer : (direct : IsDirect s.objects p 8) → Value
      loaded_pointer direct = read_value Pointer (place_in s.objects direct.object p.word) s.objects

      -- an address that goes on is stored
      goes_on : (w : Update) (at : slice_get h.code.code n ≡ Some (tac.Update w Pointer f mode line end_line key d a r next))
          (direct : IsDirect s.objects p 8) (new : Value)
          → Follows (Stands u next (with_temp temps d (rvalue (given_value f (loaded_pointer direct) new))) ws
          (behind_write Pointer p (place_in s.objects direct.object p.word) new
          (behind_read 8 p (spent (cost (tac.Update w Pointer f mode line end_line key d a r next)) s))))
          → Follows (came (on (on (store Pointer false p line new
          (behind_read 8 p (spent (cost (tac.Update w Pointer f mode line end_line key d a r next)) s)))
          (λ _. done (given_value f (loaded_pointer direct) new))) give) (given_in u next temps d ws))
      goes_on w at direct new follows =
          subst Follows (sym (ap (λ o. came (on (on o (λ _. done (given_value f (loaded_pointer direct) new))) give)
          (given_in u next temps d ws)) (stored Pointer p new line
          (behind_read 8 p (spent (cost (tac.Update w Pointer f mode line end_line key d a r next)) s)) direct))) follows

      by_update : (w : Update) (k : Scalar) → is_update_of w k ≡ true → is_update_by_word w ≡ true → Updated w k
      by_update (Arithmetic op t) (Integer kt) allowed sized at direct =
          integer_updated op t kt f mode line end_line key d a r next at p held direct
          (binary_value op t (fit t (read_value (Integer kt) (place_in s.objects direct.object p.word) s.objects).word)
          (right_value r temps).word) refl
      by_update (Arithmetic op t) Pointer allowed sized at direct = cc
      by_update (Forward size) (Integer kt) allowed sized at direct = cc
      by_update (Forward size) Pointer allowed sized at direct =
          let nd = node c IsGood right u n temps ws s v xs h
          (tac.Update (Forward size) Pointer f mode line end_line key d a r next) at in
          let new = moved ((right_value r temps).word * size) (loaded_pointer direct) in
          goes_on (Forward size) at direct new
          (pointer_updated c IsGood right u n temps ws s v xs h words (Forward size) f mode line end_line key d a r next at p
          held direct size (ltb-true size (2 ^ 64) sized) c.layout.expansion.inline.forward address_forward
          right.inline.forward right.inline.computes.forward nd.put.has nd.put.leads new
          (forward_word size (right_value r temps).word (loaded_pointer direct)) (forward_tag size (right_value r temps).word (loaded_pointer direct)))
      by_update (Back size) (Integer kt) allowed sized at direct = cc
      by_update (Back size) Pointer allowed sized at direct =
          let nd = node c IsGood right u n temps ws s v xs h
          (tac.Update (Back size) Pointer f mode line end_line key d a r next) at in
          let new = moved_back ((right_value r temps).word * size) (loaded_pointer direct) in
          goes_on (Back size) at direct new
          (pointer_updated c IsGood right u n temps ws s v xs h words (Back size) f mode line end_line key d a r next at p
          held direct size (ltb-true size (2 ^ 64) sized) c.layout.expansion.inline.back address_back right.inline.back
          right.inline.computes.back nd.put.has nd.put.leads new
          (back_word size (right_value r temps).word (loaded_pointer direct)) (back_tag size (right_value r temps).word (loaded_pointer direct)))

  -- ---- the step

  pub update_place : (w : Update) (k : Scalar) (f : Fixity) (mode : Mode) (line end_line : ℕ) (key : Option ℕ) (d a : ℕ)
      (r : RightOperand) (next : ℕ) → is_settled mode ≡ true
      → slice_get h.code.code n ≡ Some (tac.Update w k f mode line end_line key d a r next)
      → c.layout.expansion.contents u n a ≡ false → is_update_of w k ≡ true → is_update_by_word w ≡ true
      → (effect c.setting (expansion_of c).code (tac.Update w k f mode line end_line key d a r next) u temps ws
      (spent (cost (tac.Update w k f mode line end_line key d a r next)) s) ≡ Stuck → ⊥)
      → Follows (effect c.setting (expansion_of c).code (tac.Update w k f mode line end_line key d a r next) u temps ws
      (spent (cost (tac.Update w k f mode line end_line key d a r next)) s))
  update_place w k f mode line end_line key d a r next settled at plain fit sized fine =
      let nd = node c IsGood right u n temps ws s v xs h (tac.Update w k f mode line end_line key d a r next) at in
      let to = plain_operand c IsGood right u n temps ws s v xs h words.0 a (omega (arith, nd.temporaries_low)) plain in
      subst (λ q. (Effect w k f mode line end_line key d a r next settled at plain q ≡ Stuck → ⊥)
      → Follows (Effect w k f mode line end_line key d a r next settled at plain q)) (sym to.0)
      (λ fine. by (temps a).value to.1 fine) fine
    where
      by : (p : Value)
          → IsHeldAt (world c h.keys s v) (c.layout.expansion.entries u n a) p (temporary_register h.code a) v.values
          → (Effect w k f mode line end_line key d a r next settled at plain (rvalue p) ≡ Stuck → ⊥)
          → Follows (Effect w k f mode line end_line key d a r next settled at plain (rvalue p))
      by p held fine =
          let z = spent (cost (tac.Update w k f mode line end_line key d a r next)) s in
          let behind = Behind w k f mode line end_line key d a r next settled at plain (rvalue p) in
          let opened = keyed_opens (keys_of (code_in c.layout.expansion.code u)) key z p
          (admitted mode (scalar_size k) (rvalue p) s.objects behind) fine in
          let g = found mode settled (views c).functions (scalar_size k) p s.objects behind held.sound
          (λ stuck. fine (opened ∙ stuck)) in
          let parts = in_parts w k f mode line end_line key d a r next settled at plain p held g.direct (g.same line z refl) in
          subst Follows (sym (opened ∙ g.opens ∙ parts))
          (by_update f mode line end_line key d a r next p held w k fit sized at g.direct)
