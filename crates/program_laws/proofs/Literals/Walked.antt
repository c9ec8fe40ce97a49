-- Whatever is typed adds string literals of the function of the state alone (C99 6.4.5).
use Rattle.std.proofs.Common.{◌≡◌, true, false, refl, sym, ap, ◌∙◌, subst, [], ◌++◌}
use Rattle.std.proofs.lemmas.List.{append-nil, append_assoc}
use Rattle.c_syntax.specs.Statements.{BlockItems}
use Rattle.c_scope.specs.Tags.{added, marked}
use Rattle.c_declarator_typing.specs.Members.{with_structure}
use Rattle.c_typing_state.specs.State.{State}
use Rattle.c_unit_typing.specs.Constructs.{Around}
use Rattle.c_unit_typing.specs.Files.{File}
use Rattle.c_unit_typing.specs.Statements.{block_items}
use Rattle.typing_laws.specs.Validity.Sound.{IsFormed}
use Rattle.typing_laws.specs.Declarators.Extending.{Extends}
use Rattle.typing_laws.specs.Scopes.Regular.{are_regular_block_items}
use Rattle.typing_laws.proofs.Scopes.Statements.{IfFileBehind, items_walk}
use Rattle.program_laws.proofs.Functions.Files.{KeepsFile, keeps_walk}
use Rattle.typing_laws.specs.Types.Typed.{Each}
use Rattle.typing_laws.proofs.Types.Kept.{each_append}
use Rattle.program_laws.specs.Literals.Added.{AddsLiterals, IsOf}
use Rattle.typing_laws.proofs.Walks.States.{StateWalk}
use Rattle.typing_laws.proofs.Walks.Statements.{Both, BothFiles, both_walk}

pub adds_none : (s t : State) → t.literals ≡ s.literals → t.function ≡ s.function → AddsLiterals s t
adds_none s t e g = record { rest = []; is = e ∙ sym (append-nil s.literals); each = tt; function = g }

pub adds_on : (s t u : State) → AddsLiterals s t → AddsLiterals t u → AddsLiterals s u
adds_on s t u h g = record {
  rest = h.rest ++ g.rest;
  is = g.is ∙ ap (λ z. z ++ g.rest) h.is ∙ append_assoc s.literals h.rest g.rest;
  each = each_append (IsOf s.function) h.rest g.rest h.each (subst (λ z. Each (IsOf z) g.rest) h.function g.each);
  function = g.function ∙ h.function;
}

pub literals_walk : StateWalk (λ n. AddsLiterals)
literals_walk = record {
  on = λ m n k low. adds_on;
  stands = λ n s t h. adds_none s t h.literals h.function;
  literal = λ bytes some s. record {
    rest = _;
    is = refl;
    each = (record { function = refl; bytes = some }, tt);
    function = refl;
  };
  declares = λ k name s fresh. adds_none s (record s { environment = added k name s.environment }) refl refl;
  begins = λ t s. adds_none s (record s { environment = marked t s.environment }) refl refl;
  completes = λ is_union n es s. adds_none s (with_structure is_union n es s) refl refl;
  scope = λ n s t u h left same_literals same_function. record {
    rest = h.rest;
    is = same_literals ∙ h.is;
    each = h.each;
    function = same_function ∙ h.function;
  };
}

-- in a function: it keeps the functions and objects with linkage too
pub items_add : (a : Around) (xs : BlockItems) → are_regular_block_items xs ≡ true → (f : File) → IsFormed f.state
    → IfFileBehind (BothFiles KeepsFile AddsLiterals) f (block_items a xs f)
items_add a xs c f formed =
    items_walk (Both (Extends false) AddsLiterals) (BothFiles KeepsFile AddsLiterals)
    (both_walk keeps_walk literals_walk) a xs c f formed
