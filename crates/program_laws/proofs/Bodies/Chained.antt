-- Constructs of a function that are typed one behind the other.
use Rattle.std.proofs.Common.{◌≡◌, ◌⊎◌, inl, inr, ℕ, true, false, refl, sym, ap, ◌∙◌, subst, List, [], ◌++◌, length}
use Rattle.std.proofs.Common.{arith}
use Rattle.std.proofs.lemmas.Bool.{false≢true}
use Rattle.std.specs.Prelude.{Ok, Err}
use Rattle.c_tree.specs.declared.c_type.TypeWord.{TypeWord}
use Rattle.c_tree.specs.Blocks.{is_among}
use Rattle.c_tree.specs.Valid.{Scope, at_number, within}
use Rattle.c_tree.specs.ValidProgram.{is_variable}
use Rattle.c_faults.specs.Answer.{Answer, ◌>>=◌}
use Rattle.c_scope.specs.Names.{is_empty}
use Rattle.c_typing_state.specs.State.{State, extents}
use Rattle.c_unit_typing.specs.Constructs.{in_scope, scope_closed, scope_opened}
use Rattle.c_unit_typing.specs.Files.{File, FileTyping, finished, ◌~>◌}
use Rattle.typing_laws.specs.Validity.More.{AreMore}
use Rattle.typing_laws.specs.Validity.Sound.{Sound}
use Rattle.typing_laws.specs.Validity.Steps.{Structures, nothing}
use Rattle.typing_laws.specs.Declarators.Extending.{Extending, Extends}
use Rattle.typing_laws.specs.Declarators.Given.{anything}
use Rattle.typing_laws.proofs.Declarators.Known.{keeps_behind}
use Rattle.typing_laws.proofs.Declarators.Parameters.{within_block, within_formed}
use Rattle.typing_laws.specs.Scopes.Leaving.{FileLeads}
use Rattle.typing_laws.proofs.LaidOut.Chained.{closed_laid, opened_laid}
use Rattle.typing_laws.proofs.Scopes.Leading.{closed_leads, file_on, file_same, leads_by, state_leads}
use Rattle.typing_laws.specs.Layouts.Listed.{IfLaidOut, IsLaidOut}
use Rattle.program_laws.specs.Bodies.Standing.{AreLinked, AreOpen, AreVariables, Ends, IsReady, IsResult}
use Rattle.program_laws.specs.Bodies.Standing.{Numbers}
use Rattle.program_laws.specs.Bodies.Standing.{Stands}
use Rattle.program_laws.specs.Bodies.Typed.{IfTyped, Typed, none}
use Rattle.program_laws.proofs.Bodies.Ends.{ends_before, ends_closed, ends_within, numbers_on}
use Rattle.program_laws.proofs.Bodies.Entities.{entities_on, entities_same, linked_closed, linked_extended}
use Rattle.program_laws.proofs.Bodies.Entities.{linked_opened}
use Rattle.program_laws.proofs.Bodies.Opened.{among_either, among_left, among_right, within_open}
use Rattle.program_laws.proofs.Bodies.Standing.{stands_closed, stands_extended, stands_opened, stands_within}
use Rattle.typing_laws.proofs.Common.{filed}

pub no_numbers : (f g : File) → g.state.environment.variables ≡ f.state.environment.variables
    → length g.variables ≡ length f.variables → Numbers [] f g
no_numbers f g e h =
    record { counted = refl; count = omega (arith, e); made = omega (arith, h) }

pub ready_behind : (f g : File) → FileLeads f g → IsReady f.state → AreLinked g.state.environment → IsLaidOut g.state
    → IsReady g.state
ready_behind f g h ready linked laid = record {
  formed = h.state.formed;
  inner = ap is_empty h.state.outer ∙ ready.inner;
  linked = linked;
  laid = laid;
}

pub ready_opened : (f : File) → IsReady f.state → IsReady (scope_opened f).state
ready_opened f ready = record {
  formed = within_formed f.state ready.formed;
  inner = within_block f.state;
  linked = linked_opened f ready.linked;
  laid = opened_laid f ready.laid;
}

pub no_variables : (scope : Scope) → AreVariables scope []
no_variables scope = λ n e. absurd (false≢true e)

both_variables : (scope : Scope) (xs ys : List ℕ) → AreVariables scope xs → AreVariables scope ys
    → AreVariables scope (xs ++ ys)
both_variables scope xs ys h g = λ n e. by n (among_either xs ys n e)
  where
    by : (n : ℕ) → (is_among xs n ≡ true) ⊎ (is_among ys n ≡ true) → is_variable (at_number scope.all n) ≡ true
    by n (inl is) = h n is
    by n (inr is) = g n is

open_none : (scope : Scope) → AreOpen scope []
open_none scope = λ n e. absurd (false≢true e)

-- what is typed in the state of expressions and declarators, in its file

module _ (result : List TypeWord) where
  pub finished_typed : {A : Type 0} (made opens : A → List ℕ) (p : Scope → A → Type 0) (f : File) → IsReady f.state
      → (x : A) → made x ≡ [] → ((scope : Scope) → p scope x) → Typed result made opens p f (f, x)
  finished_typed made opens p f ready x e h = record {
    leads = file_same f ready.formed;
    numbers = subst (λ z. Numbers z f f) (sym e) (no_numbers f f refl refl);
    entities = entities_same f.state.environment f.state.environment refl;
    linked = ready.linked;
    laid = ready.laid;
    sound = λ scope last stands ends shown.
        (h scope, (stands, subst (AreVariables scope) (sym e) (no_variables scope)));
  }

  -- one behind another, what both make
  pub typed_on : {A B C : Type 0} (made opens : A → List ℕ) (p : Scope → A → Type 0) (made2 opens2 : B → List ℕ)
      (p2 : Scope → B → Type 0) (made3 opens3 : C → List ℕ) (p3 : Scope → C → Type 0) (f : File) (r : File × A)
      (q : File × B) (z : C) → Typed result made opens p f r → Typed result made2 opens2 p2 r.0 q
      → made3 z ≡ made r.1 ++ made2 q.1 → opens3 z ≡ opens r.1 ++ opens2 q.1
      → ((scope : Scope) → p scope r.1 → p2 scope q.1 → p3 scope z) → Typed result made3 opens3 p3 f (q.0, z)
  typed_on made opens p made2 opens2 p2 made3 opens3 p3 f r q z h g e o both = record {
    leads = file_on f r.0 q.0 h.leads g.leads;
    numbers = subst (λ ns. Numbers ns f q.0) (sym e)
        (numbers_on (made r.1) (made2 q.1) f r.0 q.0 h.numbers g.numbers);
    entities = entities_on f.state.environment r.0.state.environment q.0.state.environment h.entities g.entities;
    linked = g.linked;
    laid = g.laid;
    sound = λ scope last stands ends shown.
        (let all : AreOpen scope (opens r.1 ++ opens2 q.1) = subst (AreOpen scope) o shown in
        let one = h.sound scope last stands
        (ends_before scope last result r.0 q.0 (made2 q.1) g.leads g.numbers g.entities ends)
        (λ n is. all n (among_left (opens r.1) (opens2 q.1) n is)) in
        let two = g.sound scope last one.1.0 ends (λ n is. all n (among_right (opens r.1) (opens2 q.1) n is)) in (
          both scope one.0 two.0,
          (
            two.1.0,
            subst (AreVariables scope) (sym e)
                (both_variables scope (made r.1) (made2 q.1) one.1.1 two.1.1),
          ),
        ));
  }

  -- what is typed to the same opens nothing where it opens less, and has another property where that follows
  pub typed_as : {A B : Type 0} (made opens : A → List ℕ) (p : Scope → A → Type 0) (made2 opens2 : B → List ℕ)
      (p2 : Scope → B → Type 0) (f g : File) (x : A) (z : B) → Typed result made opens p f (g, x) → made2 z ≡ made x
      → ((n : ℕ) → is_among (opens x) n ≡ true → is_among (opens2 z) n ≡ true)
      → ((scope : Scope) → p scope x → p2 scope z) → Typed result made2 opens2 p2 f (g, z)
  typed_as made opens p made2 opens2 p2 f g x z h e o to = record {
    leads = h.leads;
    numbers = subst (λ ns. Numbers ns f g) (sym e) h.numbers;
    entities = h.entities;
    linked = h.linked;
    laid = h.laid;
    sound = λ scope last stands ends shown.
        (let is = h.sound scope last stands ends (λ n a. shown n (o n a)) in
        (to scope is.0, (is.1.0, subst (AreVariables scope) (sym e) is.1.1)));
  }

  -- a construct, and what is made of it
  pub one_typed : {A B : Type 0} (made opens : A → List ℕ) (p : Scope → A → Type 0) (made2 opens2 : B → List ℕ)
      (p2 : Scope → B → Type 0) (f : File) (a : Answer (File × A)) (combine : A → B) → IfTyped result made opens p f a
      → ((x : A) → made2 (combine x) ≡ made x)
      → ((x : A) (n : ℕ) → is_among (opens x) n ≡ true → is_among (opens2 (combine x)) n ≡ true)
      → ((scope : Scope) (x : A) → p scope x → p2 scope (combine x))
      → IfTyped result made2 opens2 p2 f (a >>= λ r. finished (combine r.1) r.0)
  one_typed made opens p made2 opens2 p2 f (Ok r) combine h e o to =
      typed_as made opens p made2 opens2 p2 f r.0 r.1 (combine r.1) h (e r.1) (o r.1) (λ scope. to scope r.1)
  one_typed made opens p made2 opens2 p2 f (Err g) combine h e o to = tt

  -- two constructs, and what is made of them

  module _ {A B C : Type 0} (made opens : A → List ℕ) (p : Scope → A → Type 0) (made2 opens2 : B → List ℕ)
      (p2 : Scope → B → Type 0) (made3 opens3 : C → List ℕ) (p3 : Scope → C → Type 0) (combine : A → B → C)
      (e : (x : A) (y : B) → made3 (combine x y) ≡ made x ++ made2 y)
      (o : (x : A) (y : B) → opens3 (combine x y) ≡ opens x ++ opens2 y)
      (both : (scope : Scope) (x : A) (y : B) → p scope x → p2 scope y → p3 scope (combine x y)) where
    second_typed : (f : File) (r : File × A) → Typed result made opens p f r → (b : Answer (File × B))
        → IfTyped result made2 opens2 p2 r.0 b
        → IfTyped result made3 opens3 p3 f (b >>= λ q. finished (combine r.1 q.1) q.0)
    second_typed f r h (Ok q) g =
        typed_on made opens p made2 opens2 p2 made3 opens3 p3 f r q (combine r.1 q.1) h g (e r.1 q.1) (o r.1 q.1)
        (λ scope. both scope r.1 q.1)
    second_typed f r h (Err x) g = tt

    -- the second where complete structures and unions stay so
    pub two_behind : (f : File) → IsReady f.state → (a : Answer (File × A)) (next : A → FileTyping B)
        → IfTyped result made opens p f a
        → ((x : A) (g : File) → AreMore (extents f.state) (extents g.state) → IsReady g.state
        → IfTyped result made2 opens2 p2 g (next x g))
        → IfTyped result made3 opens3 p3 f (a >>= λ r. (next r.1 ~> λ y. finished (combine r.1 y)) r.0)
    two_behind f ready (Ok r) next h g =
        second_typed f r h (next r.1 r.0)
        (g r.1 r.0 h.leads.state.more (ready_behind f r.0 h.leads ready h.linked h.laid))
    two_behind f ready (Err x) next h g = tt

    pub two_typed : (f : File) → IsReady f.state → (a : Answer (File × A)) (next : A → FileTyping B)
        → IfTyped result made opens p f a
        → ((x : A) (g : File) → IsReady g.state → IfTyped result made2 opens2 p2 g (next x g))
        → IfTyped result made3 opens3 p3 f (a >>= λ r. (next r.1 ~> λ y. finished (combine r.1 y)) r.0)
    two_typed f ready a next h g = two_behind f ready a next h (λ x i more k. g x i k)

  -- behind a construct that makes no variables

  after_first : {A B : Type 0} (p : Scope → A → Type 0) (made opens : B → List ℕ) (q : Scope → B → Type 0) (f : File)
      (r : File × A) → Typed result none none p f r → (b : Answer (File × B))
      → IfTyped result made opens (λ scope y. p scope r.1 → q scope y) r.0 b → IfTyped result made opens q f b
  after_first p made opens q f r h (Ok z) g =
      typed_on none none p made opens (λ scope y. p scope r.1 → q scope y) made opens q f r z z.1 h g refl refl
      (λ scope is to. to is)
  after_first p made opens q f r h (Err e) g = tt

  pub after_typed : {A B : Type 0} (p : Scope → A → Type 0) (made opens : B → List ℕ) (q : Scope → B → Type 0)
      (f : File) → IsReady f.state → (a : Answer (File × A)) (next : A → FileTyping B) → IfTyped result none none p f a
      → ((x : A) (g : File) → IsReady g.state
      → IfTyped result made opens (λ scope y. p scope x → q scope y) g (next x g))
      → IfTyped result made opens q f (a >>= λ r. next r.1 r.0)
  after_typed p made opens q f ready (Ok r) next h g =
      after_first p made opens q f r h (next r.1 r.0) (g r.1 r.0 (ready_behind f r.0 h.leads ready h.linked h.laid))
  after_typed p made opens q f ready (Err e) next h g = tt

  -- what is typed in the state of expressions and declarators

  abbrev pub StateSound : {A : Type 0} → (Scope → A → Type 0) → State → Answer (State × A) → Type 0
  StateSound p s a = (scope : Scope) (last : Structures) → IsResult scope last result
      → Sound scope last s nothing (λ es x. p scope x) a

  extended_typed : {A : Type 0} (p : Scope → A → Type 0) (f : File) → IsReady f.state → (r : State × A)
      → Extends false f.state r.0 → IsLaidOut r.0 → StateSound p f.state (Ok r)
      → Typed result none none p f (record f { state = r.0 }, r.1)
  extended_typed p f ready r h laid sound =
      let g = record f { state = r.0 } in
      record {
        leads = state_leads f r.0 (leads_by f.state r.0 h);
        numbers = no_numbers f g (h.variables refl) refl;
        entities = entities_same f.state.environment r.0.environment h.entities;
        linked = linked_extended f.state r.0 h ready.linked;
        laid = laid;
        sound = λ scope last stands ends shown. (
          (sound scope last ends.gives ready.formed).1 stands.knows tt ends.covers,
          (stands_extended scope last f.state r.0 h stands, no_variables scope),
        );
      }

  pub state_typed : {A : Type 0} (e : State → A → Type 0) (p : Scope → A → Type 0) (f : File) → IsReady f.state
      → (a : Answer (State × A)) → Extending false f.state e a → IfLaidOut anything a → StateSound p f.state a
      → IfTyped result none none p f (a >>= λ r. Ok (record f { state = r.0 }, r.1))
  state_typed e p f ready (Ok r) h laid sound = extended_typed p f ready r h.0 laid.0 sound
  state_typed e p f ready (Err x) h laid sound = tt

  -- and gives something on which what follows depends
  pub after_state : {A B : Type 0} (e w : State → A → Type 0) (p : Scope → A → Type 0) (made opens : B → List ℕ)
      (q : Scope → B → Type 0) (f : File) → IsReady f.state → (a : Answer (State × A)) (next : A → FileTyping B)
      → Extending false f.state e a → IfLaidOut w a → StateSound p f.state a
      → ((x : A) (g : File) → AreMore (extents f.state) (extents g.state) → IsReady g.state → e g.state x → w g.state x
      → IfTyped result made opens (λ scope y. p scope x → q scope y) g (next x g))
      → IfTyped result made opens q f (a >>= filed f >>= λ r. next r.1 r.0)
  after_state e w p made opens q f ready (Ok r) next h laid sound then =
      let g = record f { state = r.0 } in
      let typed = extended_typed p f ready r h.0 laid.0 sound in
      after_first p made opens q f (g, r.1) typed (next r.1 g)
      (then r.1 g h.0.more (ready_behind f g typed.leads ready typed.linked laid.0) h.1 laid.1)
  after_state e w p made opens q f ready (Err x) next h laid sound then = tt

  -- blocks

  closed_typed : {A : Type 0} (made opens : A → List ℕ) (p p2 : Scope → A → Type 0) (f g : File) (x : A)
      → IsReady f.state → Typed result made opens p (scope_opened f) (g, x)
      → ((scope : Scope) (last : Structures) → Stands scope last (scope_opened f).state
      → Ends scope last result g → p2 scope x × AreVariables scope (made x))
      → Typed result made none p2 f (scope_closed g, x)
  closed_typed made opens p p2 f g x ready h to = record {
    leads = closed_leads f g ready.formed h.leads;
    numbers = record { counted = h.numbers.counted; count = h.numbers.count; made = h.numbers.made };
    entities = record { each = h.entities.each };
    linked = linked_closed f g h.leads ready.linked (record { each = h.entities.each }) h.linked;
    laid = closed_laid f g h.leads ready.laid h.laid;
    sound = λ scope last stands ends shown. (
      (to scope last (stands_opened scope last f stands) (ends_closed scope last result g ends)).0,
      (
        stands_closed scope last f g h.leads stands,
        (to scope last (stands_opened scope last f stands) (ends_closed scope last result g ends)).1,
      ),
    );
  }

  -- a scope in which nothing is declared that its construct opens
  pub scoped_typed : {A : Type 0} (made : A → List ℕ) (p : Scope → A → Type 0) (f : File) → IsReady f.state
      → (typing : FileTyping A) → ((g : File) → IsReady g.state → IfTyped result made none p g (typing g))
      → IfTyped result made none p f (in_scope typing f)
  scoped_typed {A = A} made p f ready typing h =
      by (typing (scope_opened f)) (h (scope_opened f) (ready_opened f ready))
    where
      by : (a : Answer (File × A)) → IfTyped result made none p (scope_opened f) a
          → IfTyped result made none p f (a >>= λ r. Ok (scope_closed r.0, r.1))
      by (Ok r) h =
          closed_typed made none p p f r.0 r.1 ready h
          (λ scope last stands ends.
          (let is = h.sound scope last stands ends (open_none scope) in (is.0, is.1.1)))
      by (Err e) h = tt

  -- and one whose variables it opens
  pub block_typed : {A : Type 0} (made opens : A → List ℕ) (p p2 : Scope → A → Type 0) (f : File) → IsReady f.state
      → (typing : FileTyping A) → ((g : File) → IsReady g.state → IfTyped result made opens p g (typing g))
      → ((scope : Scope) (x : A) → p (within scope (opens x)) x → p2 scope x)
      → IfTyped result made none p2 f (in_scope typing f)
  block_typed {A = A} made opens p p2 f ready typing h to =
      by (typing (scope_opened f)) (h (scope_opened f) (ready_opened f ready))
    where
      by : (a : Answer (File × A)) → IfTyped result made opens p (scope_opened f) a
          → IfTyped result made none p2 f (a >>= λ r. Ok (scope_closed r.0, r.1))
      by (Ok r) h =
          closed_typed made opens p p2 f r.0 r.1 ready h
          (λ scope last stands ends.
          (let is = h.sound (within scope (opens r.1)) last
          (stands_within scope (opens r.1) last (scope_opened f).state ends.lengths stands)
          (ends_within scope (opens r.1) last result r.0 ends) (within_open scope (opens r.1) ends.lengths) in
          (to scope r.1 is.0, is.1.1)))
      by (Err e) h = tt

  -- what is known stays known where nothing is to be shown of what a construct gives
  pub kept_sound : {A : Type 0} (e : State → A → Type 0) (s : State) (a : Answer (State × A)) → Extending false s e a
      → StateSound (λ scope x. Unit {0}) s a
  kept_sound e s (Ok r) h = λ scope last is. λ formed. (keeps_behind scope last s r.0 h.0, λ knows g covers. tt)
  kept_sound e s (Err f) h = λ scope last is. tt

  -- what is typed to something with a property is so whatever is given
  pub given_typed : {A : Type 0} (made opens : A → List ℕ) (p : Scope → A → Type 0) (given : Scope → Type 0) (f : File)
      (a : Answer (File × A)) → IfTyped result made opens p f a
      → IfTyped result made opens (λ scope x. given scope → p scope x) f a
  given_typed made opens p given f (Ok r) h =
      typed_as made opens p made opens (λ scope x. given scope → p scope x) f r.0 r.1 r.1 h refl (λ n is. is)
      (λ scope is x. is)
  given_typed made opens p given f (Err e) h = tt

  -- what opens nothing may be taken to open more
  pub opening_typed : {A : Type 0} (made opens : A → List ℕ) (p : Scope → A → Type 0) (f : File)
      (a : Answer (File × A)) → IfTyped result made none p f a → IfTyped result made opens p f a
  opening_typed made opens p f (Ok r) h =
      typed_as made none p made opens p f r.0 r.1 r.1 h refl (λ n is. absurd cc) (λ scope is. is)
  opening_typed made opens p f (Err e) h = tt
