use Rattle.std.proofs.Common.{◌≡◌, ℕ, ◌∷◌, [], ◌∙◌, sym, ap, subst, List, length, map, Option, Some, option_map}
use Rattle.std.proofs.Common.{slice_get, arith}
use Rattle.std.proofs.lemmas.List.{map_push, nil_from_length}
use Rattle.std.specs.Vec.Iter.{into_iter_items}
use Rattle.c_tree.specs.View.{function_of, static_of}
use Rattle.c_programs.specs.FileState.{definition_of}
use Rattle.c_programs.specs.Rooms.{made}
use Rattle.c_programs.proofs.Making.{made_end, made_next, made_stop}
use Rattle.c_programs.proofs.functions.functions.Goals as goal

heights_same : (hs ks : List (Option ℕ)) (n : ℕ) (h : Option ℕ) → hs ≡ ks → slice_get hs n ≡ Some h
    → slice_get ks n ≡ Some h
heights_same hs ks n h same here = subst (λ z. slice_get z n ≡ Some h) same here

pub loop-definition-preserved : goal.loop-definition-preserved
loop-definition-preserved c =
    let at = c.loop-definition in
    let x = c.in-Some.definition in
    let steps : into_iter_items at.definition-iterator ≡ x ∷ into_iter_items c.next.new.self =
    c.in-Some.ensures.steps.0 in
    let short = ap length steps in
    let size = at.invariant.1 in
    let was = at.invariant.2 in
    let gone = c.in-Some.ensures.steps.1 in (
      made_next c.args.extents.now c.args.types.now (map static_of c.args.statics.now) _
          c.in_ok-heights.heights.items at.number (map function_of at.functions.items)
          (map function_of c.add.new.items.items) (definition_of x)
          (map definition_of (into_iter_items c.next.new.self)) (map definition_of
          (into_iter_items at.definition-iterator))
          (function_of c.in-Ok.function) c.height_at-height.result _ c.in_ok-heights.ensures
          (heights_same c.deref.result.now c.in_ok-heights.heights.items at.number c.height_at-height.result
          c.deref.ensures.value c.height_at-height.ensures)
          (λ ps m e. ap (option_map function_of) (sym c.in-Ok.ensures.there) ∙ c.function.ensures ps m e)
          (ap (map function_of) c.in_ok-add.ensures ∙ map_push function_of at.functions.items c.in-Ok.function)
          (ap (map definition_of) steps) at.invariant.0,
      omega arith,
      omega arith,
    )

pub returns-in-Err-clause-refused : goal.returns-in-Err-clause-refused
returns-in-Err-clause-refused c =
    let at = c.loop-definition in
    let x = c.in-Some.definition in
    let steps : into_iter_items at.definition-iterator ≡ x ∷ into_iter_items c.next.new.self =
    c.in-Some.ensures.steps.0 in
    let given = c.into_iter-definition-iterator.ensures.into_iter_gives.0 in
    let refused = c.in-Err.ensures.refused in
    made_stop c.args.extents.now c.args.types.now (map static_of c.args.statics.now) _ c.in_ok-heights.heights.items
    at.number (map function_of at.functions.items) (definition_of x)
    (map definition_of (into_iter_items c.next.new.self)) (map definition_of (into_iter_items at.definition-iterator))
    c.height_at-height.result _ c.in-Err.refusal c.in_ok-heights.ensures
    (heights_same c.deref.result.now c.in_ok-heights.heights.items at.number c.height_at-height.result
    c.deref.ensures.value c.height_at-height.ensures)
    (λ ps m e. ap (option_map function_of) (sym refused.0) ∙ c.function.ensures ps m e)
    (ap (map definition_of) steps)
    (at.invariant.0 ∙ ap (λ z. made c.args.extents.now c.args.types.now (map static_of c.args.statics.now) 0 []
    (map definition_of z)) given)
    refused.1

pub returns-clause-made : goal.returns-clause-made
returns-clause-made c =
    let at = c.loop-definition in
    let none = c.in-None.ensures.steps in
    let empty : into_iter_items at.definition-iterator ≡ [] =
    nil_from_length _ (sym at.invariant.2 ∙ none.0) in
    let given = c.into_iter-definition-iterator.ensures.into_iter_gives.0 in
    sym (ap (λ z. made c.args.extents.now c.args.types.now (map static_of c.args.statics.now) 0 []
    (map definition_of z)) given)
    ∙ made_end c.args.extents.now c.args.types.now (map static_of c.args.statics.now) at.number
    (map function_of at.functions.items) (map definition_of (into_iter_items at.definition-iterator)) _
    (ap (map definition_of) empty) at.invariant.0
