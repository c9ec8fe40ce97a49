-- Statements and the items of blocks add valid static objects to a file (C99 6.8).
use Rattle.std.proofs.Common.{◌≡◌, Bool, true, false, List}
use Rattle.std.specs.Prelude.{Ok, Err}
use Rattle.c_syntax.specs.Statements as t
use Rattle.c_syntax.specs.Tree.{Expression}
use Rattle.c_tree.specs.declared.c_type.TypeWord.{TypeWord}
use Rattle.c_faults.specs.Answer.{Answer}
use Rattle.c_typing_state.specs.State.{State}
use Rattle.c_expression_typing.specs.Constructs.{valued}
use Rattle.c_expression_typing.specs.Typed.{typed}
use Rattle.c_unit_typing.specs.Constructs.{Around, Labels}
use Rattle.c_unit_typing.specs.Declarations.{declaration}
use Rattle.c_unit_typing.specs.Files.{File}
use Rattle.c_unit_typing.specs.Statements.{block_items, statement}
use Rattle.typing_laws.specs.Validity.Regular.{is_regular}
use Rattle.typing_laws.specs.Validity.Sound.{IsFormed}
use Rattle.typing_laws.specs.Declarators.Extending.{Extending, Extends}
use Rattle.typing_laws.specs.Declarators.Given.{ValueHasWords, anything}
use Rattle.typing_laws.proofs.Declarators.Chained.{extends_on, extends_same}
use Rattle.typing_laws.specs.Scopes.Leaving.{FileLeads, Leading}
use Rattle.typing_laws.specs.Scopes.Regular.{are_regular_block_items, is_regular_statement}
use Rattle.typing_laws.proofs.Scopes.Declarations.{declaration_leads}
use Rattle.typing_laws.proofs.Scopes.Initializers.{IfBehind, ValueWalk, value_extends}
use Rattle.typing_laws.proofs.Scopes.Leading.{closed_leads, file_on, file_same, leads_by, state_leads}
use Rattle.typing_laws.proofs.Scopes.Statements.{IfFileBehind, Walk, items_walk, statement_walks}
use Rattle.typing_laws.specs.Layouts.Listed.{IfLaidOut, IsLaidOut}
use Rattle.typing_laws.proofs.Layouts.Chained.{to_laid_out}
use Rattle.typing_laws.proofs.Layouts.Recursion.{typed_laid, valued_laid}
use Rattle.program_laws.specs.Bodies.Standing.{IsReady}
use Rattle.program_laws.proofs.Bodies.Chained.{ready_opened}
use Rattle.program_laws.specs.Statics.Added.{Adds, IfAdds}
use Rattle.program_laws.proofs.Statics.Added.{adds_closed, adds_on, adds_same, adds_state}
use Rattle.program_laws.proofs.Statics.Declared.{declaration_adds}

-- a state behind values of expressions
record Keeps (s t : State) : Type 0 where
  extends : Extends false s t
  laid : IsLaidOut s → IsLaidOut t

-- a file behind constructs of a function, where the file before stands inside one
record Leads (result : List TypeWord) (f g : File) : Type 0 where
  leads : FileLeads f g
  adds : IsReady f.state → Adds result f g

value_by : {A : Type 0} (s : State) (p : State → A → Type 0) (a : Answer (State × A)) → Extending false s p a
    → (IsLaidOut s → IfLaidOut anything a) → IfBehind Keeps s a
value_by s p (Ok r) h laid = record { extends = h.0; laid = λ is. (laid is).0 }
value_by s p (Err e) h laid = tt

value_keeps : (is : Bool) (e : Expression) → is_regular e ≡ true → (s : State) → IsFormed s
    → IfBehind Keeps s (valued (typed is e) s)
value_keeps is e c s formed =
    value_by s ValueHasWords (valued (typed is e) s) (value_extends is e c s formed)
    (λ laid. to_laid_out false s laid ValueHasWords anything (valued (typed is e) s) (value_extends is e c s formed)
    (valued_laid s (typed is e) (typed_laid is e c s formed laid)))

values_keep : ValueWalk Keeps
values_keep = record {
  same = λ s formed. record { extends = extends_same false s formed; laid = λ is. is };
  on = λ s t u h g. record {
    extends = extends_on false s t u h.extends g.extends;
    laid = λ is. g.laid (h.laid is);
  };
  formed = λ s t h. h.extends.formed;
  value = value_keeps;
}

module _ (result : List TypeWord) where
  declared_by : {A : Type 0} (f : File) (a : Answer (File × A)) → Leading f a → (IsReady f.state → IfAdds result f a)
      → IfFileBehind (Leads result) f a
  declared_by f (Ok r) h adds = record { leads = h; adds = adds }
  declared_by f (Err e) h adds = tt

  walk : Walk Keeps (Leads result)
  walk = record {
    values = values_keep;
    file_same = λ f formed. record { leads = file_same f formed; adds = λ ready. adds_same result f ready };
    file_on = λ f g h a b. record {
      leads = file_on f g h a.leads b.leads;
      adds = λ ready. (let one = a.adds ready in adds_on result f g h one (b.adds one.ready));
    };
    file_formed = λ f g h. h.leads.state.formed;
    in_file = λ f t h. record {
      leads = state_leads f t (leads_by f.state t h.extends);
      adds = λ ready. adds_state result f t ready h.extends (h.laid ready.laid);
    };
    scope = λ f g formed h. record {
      leads = closed_leads f g formed h.leads;
      adds = λ ready. adds_closed result f g ready (h.adds (ready_opened f ready));
    };
    declared = λ in_head d c f formed.
        declared_by f (declaration in_head d f) (declaration_leads in_head d c f formed)
        (λ ready. declaration_adds result in_head d c f ready);
  }

  adds_by : {A : Type 0} (f : File) → IsReady f.state → (a : Answer (File × A)) → IfFileBehind (Leads result) f a
      → IfAdds result f a
  adds_by f ready (Ok r) h = h.adds ready
  adds_by f ready (Err e) h = tt

  pub statement_adds : (a : Around) (ls : Labels) (s : t.Statement) → is_regular_statement s ≡ true → (f : File)
      → IsReady f.state → IfAdds result f (statement a ls s f)
  statement_adds a ls s c f ready =
      adds_by f ready (statement a ls s f) (statement_walks Keeps (Leads result) walk a ls s c f ready.formed)

  pub items_add : (a : Around) (xs : t.BlockItems) → are_regular_block_items xs ≡ true → (f : File) → IsReady f.state
      → IfAdds result f (block_items a xs f)
  items_add a xs c f ready =
      adds_by f ready (block_items a xs f) (items_walk Keeps (Leads result) walk a xs c f ready.formed)
