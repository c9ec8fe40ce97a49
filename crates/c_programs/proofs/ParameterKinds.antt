-- The kinds of parameters, one parameter after the other.
use Rattle.std.proofs.Common.{◌≡◌, ℕ, zero, suc, ◌<◌, ◌≤◌, refl, sym, ap, ◌∙◌, List, [], ◌∷◌, ◌++◌, length, arith}
use Rattle.std.specs.Prelude.{Option, Some, None}
use Rattle.std.proofs.lemmas.Option.{same_Some}
use Rattle.std.proofs.lemmas.List.{append_assoc, append-nil}
use Rattle.c_tree.specs.declared.c_type.TypeWord.{TypeWord}
use Rattle.c_tree.specs.declared.c_type.TypeWord.TheVariants.{Void, Integer, Enumeration, Pointer, Array, OpenArray}
use Rattle.c_tree.specs.declared.c_type.TypeWord.TheVariants.{Structure, Const, Takes, Gives}
use Rattle.c_tree.specs.declared.expression.Kind.{Kind}
use Rattle.c_tree.specs.Extents.{TypeExtent}
use Rattle.c_tree.specs.TypesAgree.{behind_types, kind_of_type, still}
use Rattle.c_call_rules.specs.FunctionTypes.{behind_parameter}
use Rattle.c_unit_typing.specs.Programs.{kind_or_void, parameter_kinds}
use Rattle.c_programs.specs.Words.{behind_takes}

behind_kinds : (es : List (Option TypeExtent)) (n : ℕ) (ws : List TypeWord)
    → parameter_kinds es n ws ≡ parameter_kinds es 0 (behind_types n ws)
behind_kinds es zero ws = refl
behind_kinds es (suc n) [] = refl
behind_kinds es (suc n) (w ∷ ws) = behind_kinds es (still w n) ws

fewer : (n : ℕ) (ws : List TypeWord) → length (behind_types n ws) ≤ length ws
fewer zero ws = omega arith
fewer (suc n) [] = omega arith
fewer (suc n) (w ∷ ws) = omega (arith, fewer (still w n) ws)

takes_is : (ws type : List TypeWord) → Some type ≡ behind_takes ws → ws ≡ Takes ∷ type
takes_is (Takes ∷ ws) type e = ap (λ z. Takes ∷ z) (sym (same_Some type ws e))
takes_is [] type e = cc
takes_is (Void ∷ ws) type e = cc
takes_is (Integer t ∷ ws) type e = cc
takes_is (Enumeration n ∷ ws) type e = cc
takes_is (Pointer ∷ ws) type e = cc
takes_is (Array c b ∷ ws) type e = cc
takes_is (OpenArray ∷ ws) type e = cc
takes_is (Structure n ∷ ws) type e = cc
takes_is (Const ∷ ws) type e = cc
takes_is (Gives ∷ ws) type e = cc

pub none_left : (es : List (Option TypeExtent)) (ws : List TypeWord) (done all : List Kind) → None ≡ behind_takes ws
    → done ++ parameter_kinds es 0 ws ≡ all → done ≡ all
none_left es (Takes ∷ ws) done all e so_far = cc
none_left es [] done all e so_far = sym (append-nil done) ∙ so_far
none_left es (Void ∷ ws) done all e so_far = sym (append-nil done) ∙ so_far
none_left es (Integer t ∷ ws) done all e so_far = sym (append-nil done) ∙ so_far
none_left es (Enumeration n ∷ ws) done all e so_far = sym (append-nil done) ∙ so_far
none_left es (Pointer ∷ ws) done all e so_far = sym (append-nil done) ∙ so_far
none_left es (Array c b ∷ ws) done all e so_far = sym (append-nil done) ∙ so_far
none_left es (OpenArray ∷ ws) done all e so_far = sym (append-nil done) ∙ so_far
none_left es (Structure n ∷ ws) done all e so_far = sym (append-nil done) ∙ so_far
none_left es (Const ∷ ws) done all e so_far = sym (append-nil done) ∙ so_far
none_left es (Gives ∷ ws) done all e so_far = sym (append-nil done) ∙ so_far

pub parameter_fewer : (ws type rest : List TypeWord) → Some type ≡ behind_takes ws → rest ≡ behind_parameter ws
    → length rest < length ws
parameter_fewer ws type rest here behind =
    let is = takes_is ws type here in
    let e : length rest ≡ length (behind_types 1 type) = ap length behind ∙ ap (λ z. length (behind_parameter z)) is in
    let size : length ws ≡ suc (length type) = ap length is in
    omega (arith, e, size, fewer 1 type)

pub parameter_next : (es : List (Option TypeExtent)) (ws type rest : List TypeWord) (k : Kind)
    (done more all : List Kind) → Some type ≡ behind_takes ws → rest ≡ behind_parameter ws
    → k ≡ kind_or_void (kind_of_type es type) → more ≡ done ++ k ∷ [] → done ++ parameter_kinds es 0 ws ≡ all
    → more ++ parameter_kinds es 0 rest ≡ all
parameter_next es ws type rest k done more all here behind kind longer so_far =
    let is = takes_is ws type here in
    let found : rest ≡ behind_types 1 type = behind ∙ ap behind_parameter is in
    let others = parameter_kinds es 0 rest in
    let step : others ≡ parameter_kinds es 1 type = ap (parameter_kinds es 0) found ∙ sym (behind_kinds es 1 type) in
    ap (λ z. z ++ others) longer ∙ append_assoc done (k ∷ []) others
    ∙ ap (λ z. done ++ (z ∷ others)) kind ∙ ap (λ z. done ++ (kind_or_void (kind_of_type es type) ∷ z)) step
    ∙ ap (λ z. done ++ parameter_kinds es 0 z) (sym is) ∙ so_far
