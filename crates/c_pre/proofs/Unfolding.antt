-- The definition of expansion without its bound on depth.
use Rattle.std.proofs.Common.{◌≡◌, ℕ, zero, suc, ◌+◌, ◌-◌, ◌≤◌, Bool, true, false, List, [], ◌∷◌, ◌++◌, length, Option}
use Rattle.std.proofs.Common.{Some, None, Result, Ok, Err, refl, ap, ◌∙◌, nat_le, length-append, option_map, arith}
use Rattle.std.proofs.Common.{if◌then◌else◌}
use Rattle.std.proofs.lemmas.Bool.{leb-true}
use Rattle.std.specs.List.{AllByRecursion}
use Rattle.c_pre.specs.declared.fault.PreFault.{PreFault}
use Rattle.c_pre.specs.declared.fault.PreFaultKind.TheVariants.{BadCall, TooMany}
use Rattle.c_pre.specs.Names.{Name, Names, Macro, Macros}
use Rattle.c_pre.specs.HideSets.{HidingToken, common}
use Rattle.c_pre.specs.Arguments.{Role, opens, closes, parts, other, Call, role, first_begins, with_token}
use Rattle.c_pre.specs.Arguments.{with_argument}
use Rattle.c_pre.specs.Arguments.{taken_by, taken, behind_open, opened, begins_empty, fits}
use Rattle.c_pre.specs.Expansion.{Expansion, Expander, Expanded, Used, ends, stops, gives_first, replacement}
use Rattle.c_pre.specs.Expansion.{read_again}
use Rattle.c_pre.specs.Expansion.{before_others, then_others, each_expanded, with_arguments, with_call, called}
use Rattle.c_pre.specs.Expansion.{replaced}
use Rattle.c_pre.specs.Expansion.{use_of, turn, expand_by, expansion, put_in}
use Rattle.c_pre.specs.Trace.{fault_at}

-- sizes of what is taken
abbrev AtMost : ℕ → List (List HidingToken) → Type 0
AtMost n arguments = AllByRecursion (λ argument. length argument ≤ n) arguments

abbrev IfSmall : ℕ → Option Call → Type 0
IfSmall n None = Unit {0}
IfSmall n (Some call) = AtMost n call.arguments × (length call.follow ≤ n)

at_most_more : (n : ℕ) (arguments : List (List HidingToken)) → AtMost n arguments → AtMost (suc n) arguments
at_most_more n [] a = tt
at_most_more n (argument ∷ more) a = (let h = a.0 in omega arith, at_most_more n more a.1)

first_small : (n : ℕ) (x : HidingToken) (arguments : List (List HidingToken)) → AtMost n arguments
    → AtMost (suc n) (first_begins x arguments)
first_small n x [] a = (omega arith, tt)
first_small n x (argument ∷ more) a = (let h = a.0 in omega arith, at_most_more n more a.1)

token_small : (n : ℕ) (x : HidingToken) (o : Option Call) → IfSmall n o → IfSmall (suc n) (option_map (with_token x) o)
token_small n x None a = tt
token_small n x (Some call) a = (first_small n x call.arguments a.0, let h = a.1 in omega arith)

argument_small : (n : ℕ) (o : Option Call) → IfSmall n o → IfSmall (suc n) (option_map with_argument o)
argument_small n None a = tt
argument_small n (Some call) a = ((omega arith, at_most_more n call.arguments a.0), let h = a.1 in omega arith)

by_role : (r : Role) (depth : ℕ) (x : HidingToken) (follow : List HidingToken)
    → ((inner : ℕ) → IfSmall (length follow) (taken inner follow))
    → IfSmall (suc (length follow)) (taken_by r depth x follow (λ inner. taken inner follow))
by_role opens depth x follow f = token_small (length follow) x (taken (suc depth) follow) (f (suc depth))
by_role closes zero x follow f = ((omega arith, tt), omega arith)
by_role closes (suc depth) x follow f = token_small (length follow) x (taken depth follow) (f depth)
by_role parts zero x follow f = argument_small (length follow) (taken zero follow) (f zero)
by_role parts (suc depth) x follow f = token_small (length follow) x (taken (suc depth) follow) (f (suc depth))
by_role other depth x follow f = token_small (length follow) x (taken depth follow) (f depth)

taken_small : (depth : ℕ) (tokens : List HidingToken) → IfSmall (length tokens) (taken depth tokens)
taken_small depth [] = tt
taken_small depth (x ∷ follow) = by_role (role x.token.kind) depth x follow (λ inner. taken_small inner follow)

-- the room never grows
abbrev IfEnd : ℕ → Result ℕ PreFault → Type 0
IfEnd room (Ok left) = left ≤ room
IfEnd room (Err fault) = Unit {0}

abbrev IfLeft : ℕ → Expanded → Type 0
IfLeft room (Ok arguments) = arguments.1 ≤ room
IfLeft room (Err fault) = Unit {0}

lower : (a b : ℕ) (end : Result ℕ PreFault) → a ≤ b → IfEnd a end → IfEnd b end
lower a b (Ok left) h e = omega arith
lower a b (Err fault) h e = tt

abbrev Falls : Expander → Type 0
Falls go = (outer : Option ℕ) (room : ℕ) (tokens : List HidingToken) → IfEnd room (go outer room tokens).end

module _ (go : Expander) (falls : Falls go) where
  again_falls : (outer : Option ℕ) (line room bound : ℕ) (tokens follow : List HidingToken) → room ≤ bound
      → IfEnd bound (read_again go outer line room tokens follow).end
  again_falls outer line room bound tokens follow h = by (nat_le (length tokens) room)
    where
      by : (b : Bool)
          → IfEnd bound (if b then go outer (room - length tokens) (tokens ++ follow) else stops
          (fault_at line TooMany)).end
      by true =
          lower (room - length tokens) bound (go outer (room - length tokens) (tokens ++ follow)).end (omega arith)
          (falls outer (room - length tokens) (tokens ++ follow))
      by false = tt

  before_falls : (room bound : ℕ) (argument : List HidingToken) (e : Expanded) → room ≤ bound → IfLeft room e
      → IfLeft bound (before_others argument e)
  before_falls room bound argument (Ok others) h a = omega arith
  before_falls room bound argument (Err fault) h a = tt

  then_falls : (room : ℕ) (argument : List HidingToken) (end : Result ℕ PreFault) (others : ℕ → Expanded)
      → IfEnd room end → ((left : ℕ) → IfLeft left (others left)) → IfLeft room (then_others argument end others)
  then_falls room argument (Ok left) others h f = before_falls left room argument (others left) h (f left)
  then_falls room argument (Err fault) others h f = tt

  each_falls : (outer : Option ℕ) (arguments : List (List HidingToken)) (room : ℕ)
      → IfLeft room (each_expanded (go outer) room arguments)
  each_falls outer [] room = omega arith
  each_falls outer (argument ∷ more) room =
      then_falls room (go outer room argument).given (go outer room argument).end
      (λ left. each_expanded (go outer) left more) (falls outer room argument) (λ left. each_falls outer more left)

  either_falls : (b : Bool) (room : ℕ) (t : Expansion) (fault : PreFault) → IfEnd room t.end
      → IfEnd room (if b then t else stops fault).end
  either_falls true room t fault h = h
  either_falls false room t fault h = tt

  with_falls : (outer : Option ℕ) (used : Used) (parameters : Names) (is_empty : Bool) (call : Call) (e : Expanded)
      (room : ℕ)
      → IfLeft room e → IfEnd room (with_arguments go outer used parameters is_empty call e).end
  with_falls outer used parameters is_empty call (Ok arguments) room h =
      either_falls (fits (length parameters) is_empty (length arguments.0)) room
      (read_again go outer used.line arguments.1
      (put_in used.line (used.name ∷ common used.hidden call.close) parameters arguments.0 used.list) call.follow)
      (fault_at used.line BadCall)
      (again_falls outer used.line arguments.1 room
      (put_in used.line (used.name ∷ common used.hidden call.close) parameters arguments.0 used.list) call.follow h)
  with_falls outer used parameters is_empty call (Err fault) room h = tt

  call_falls : (outer : Option ℕ) (used : Used) (parameters : Names) (room : ℕ) (o : Option Call)
      → IfEnd room (with_call go outer used parameters room o).end
  call_falls outer used parameters room None = tt
  call_falls outer used parameters room (Some call) =
      with_falls outer used parameters (begins_empty call.arguments) call
      (each_expanded (go (Some used.line)) room call.arguments) room
      (each_falls (Some used.line) call.arguments room)

  called_falls : (outer : Option ℕ) (used : Used) (parameters : Names) (x : HidingToken) (room : ℕ)
      (follow : List HidingToken) (o : Option (List HidingToken))
      → IfEnd room (called go outer used parameters x room follow o).end
  called_falls outer used parameters x room follow None = falls outer room follow
  called_falls outer used parameters x room follow (Some behind) =
      call_falls outer used parameters room (taken zero behind)

  replaced_falls : (outer : Option ℕ) (used : Used) (parameters : Option Names) (x : HidingToken) (room : ℕ)
      (follow : List HidingToken) → IfEnd room (replaced go outer used parameters x room follow).end
  replaced_falls outer used None x room follow = again_falls outer used.line room room _ follow (omega arith)
  replaced_falls outer used (Some parameters) x room follow =
      called_falls outer used parameters x room follow (opened follow)

  turn_falls : (outer : Option ℕ) (x : HidingToken) (o : Option (Name × Macro)) (room : ℕ) (follow : List HidingToken)
      → IfEnd room (turn go outer x o room follow).end
  turn_falls outer x None room follow = falls outer room follow
  turn_falls outer x (Some m) room follow =
      replaced_falls outer (use_of outer x m.0 m.1) m.1.parameters x room follow

expand_falls : (depth : ℕ) (macros : Macros) → Falls (expand_by depth macros)
expand_falls zero macros outer room tokens = omega arith
expand_falls (suc depth) macros outer room [] = omega arith
expand_falls (suc depth) macros outer room (x ∷ follow) =
    turn_falls (expand_by depth macros) (expand_falls depth macros) outer x (replacement macros x) room follow

-- both give the same of all that is so small
abbrev Agree : ℕ → Expander → Expander → Type 0
Agree n go go' = (outer : Option ℕ) (room : ℕ) (tokens : List HidingToken) → length tokens + room ≤ n
    → go outer room tokens ≡ go' outer room tokens

module _ (n : ℕ) (go go' : Expander) (falls : Falls go) (agree : Agree n go go') where
  again_agrees : (outer : Option ℕ) (line room : ℕ) (tokens follow : List HidingToken) → length follow + room ≤ n
      → read_again go outer line room tokens follow ≡ read_again go' outer line room tokens follow
  again_agrees outer line room tokens follow h = by (nat_le (length tokens) room) refl
    where
      by : (b : Bool) → nat_le (length tokens) room ≡ b
          → (if b then go outer (room - length tokens) (tokens ++ follow) else stops (fault_at line TooMany))
          ≡ (if b then go' outer (room - length tokens) (tokens ++ follow) else stops (fault_at line TooMany))
      by true e = agree outer (room - length tokens) (tokens ++ follow)
          (omega (arith, length-append tokens follow, leb-true (length tokens) room e))
      by false e = refl

  then_agrees : (room : ℕ) (argument : List HidingToken) (end : Result ℕ PreFault) (others others' : ℕ → Expanded)
      → IfEnd room end → ((left : ℕ) → left ≤ room → others left ≡ others' left)
      → then_others argument end others ≡ then_others argument end others'
  then_agrees room argument (Ok left) others others' h f = ap (before_others argument) (f left h)
  then_agrees room argument (Err fault) others others' h f = refl

  each_agrees : (outer : Option ℕ) (k : ℕ) (arguments : List (List HidingToken)) (room : ℕ) → AtMost k arguments
      → k + room ≤ n → each_expanded (go outer) room arguments ≡ each_expanded (go' outer) room arguments
  each_agrees outer k [] room a h = refl
  each_agrees outer k (argument ∷ more) room a h =
      then_agrees room (go outer room argument).given (go outer room argument).end
      (λ left. each_expanded (go outer) left more) (λ left. each_expanded (go' outer) left more)
      (falls outer room argument) (λ left l. each_agrees outer k more left a.1 (omega arith))
      ∙ ap (λ t. then_others t.given t.end (λ left. each_expanded (go' outer) left more))
      (agree outer room argument (let s = a.0 in omega arith))

  with_agrees : (outer : Option ℕ) (used : Used) (parameters : Names) (is_empty : Bool) (call : Call) (e : Expanded)
      (room : ℕ) → IfLeft room e → length call.follow + room ≤ n
      → with_arguments go outer used parameters is_empty call e
      ≡ with_arguments go' outer used parameters is_empty call e
  with_agrees outer used parameters is_empty call (Ok arguments) room left h =
      ap (λ t. if fits (length parameters) is_empty (length arguments.0) then t else stops (fault_at used.line BadCall))
      (again_agrees outer used.line arguments.1
      (put_in used.line (used.name ∷ common used.hidden call.close) parameters arguments.0 used.list) call.follow
      (omega arith))
  with_agrees outer used parameters is_empty call (Err fault) room left h = refl

  call_agrees : (outer : Option ℕ) (used : Used) (parameters : Names) (room k : ℕ) (o : Option Call) → IfSmall k o
      → k + room ≤ n → with_call go outer used parameters room o ≡ with_call go' outer used parameters room o
  call_agrees outer used parameters room k None small h = refl
  call_agrees outer used parameters room k (Some call) small h =
      with_agrees outer used parameters (begins_empty call.arguments) call
      (each_expanded (go (Some used.line)) room call.arguments) room
      (each_falls go falls (Some used.line) call.arguments room) (let s = small.1 in omega arith)
      ∙ ap (with_arguments go' outer used parameters (begins_empty call.arguments) call)
      (each_agrees (Some used.line) k call.arguments room small.0 h)

  called_agrees : (outer : Option ℕ) (used : Used) (parameters : Names) (x : HidingToken) (room : ℕ)
      (follow : List HidingToken) (o : Option (List HidingToken)) → opened follow ≡ o → length follow + room ≤ n
      → called go outer used parameters x room follow o ≡ called go' outer used parameters x room follow o
  called_agrees outer used parameters x room follow None e h = ap (gives_first x) (agree outer room follow h)
  called_agrees outer used parameters x room follow (Some behind) e h =
      call_agrees outer used parameters room (length behind) (taken zero behind) (taken_small zero behind)
      (let s = opened_small follow behind e in omega arith)
    where
      behind_small : (r : Role) (more behind : List HidingToken) → behind_open r more ≡ Some behind
          → length behind ≤ length more
      behind_small opens more behind e = let same : more ≡ behind = cc in omega (arith, ap length same)
      behind_small closes more behind e = absurd (cc)
      behind_small parts more behind e = absurd (cc)
      behind_small other more behind e = absurd (cc)

      opened_small : (follow behind : List HidingToken) → opened follow ≡ Some behind → length behind ≤ length follow
      opened_small [] behind e = absurd (cc)
      opened_small (y ∷ more) behind e =
          let s = behind_small (role y.token.kind) more behind e in omega arith

  replaced_agrees : (outer : Option ℕ) (used : Used) (parameters : Option Names) (x : HidingToken) (room : ℕ)
      (follow : List HidingToken) → length follow + room ≤ n
      → replaced go outer used parameters x room follow ≡ replaced go' outer used parameters x room follow
  replaced_agrees outer used None x room follow h = again_agrees outer used.line room _ follow h
  replaced_agrees outer used (Some parameters) x room follow h =
      called_agrees outer used parameters x room follow (opened follow) refl h

  turn_agrees : (outer : Option ℕ) (x : HidingToken) (o : Option (Name × Macro)) (room : ℕ) (follow : List HidingToken)
      → length follow + room ≤ n → turn go outer x o room follow ≡ turn go' outer x o room follow
  turn_agrees outer x None room follow h = ap (gives_first x) (agree outer room follow h)
  turn_agrees outer x (Some m) room follow h =
      replaced_agrees outer (use_of outer x m.0 m.1) m.1.parameters x room follow h

-- any depth that is large enough
enough : (f g : ℕ) (macros : Macros) (outer : Option ℕ) (room : ℕ) (tokens : List HidingToken)
    → length tokens + room ≤ f → length tokens + room ≤ g
    → expand_by f macros outer room tokens ≡ expand_by g macros outer room tokens
enough zero zero macros outer room tokens a b = refl
enough zero (suc g) macros outer room [] a b = refl
enough zero (suc g) macros outer room (x ∷ follow) a b = absurd (omega arith)
enough (suc f) zero macros outer room [] a b = refl
enough (suc f) zero macros outer room (x ∷ follow) a b = absurd (omega arith)
enough (suc f) (suc g) macros outer room [] a b = refl
enough (suc f) (suc g) macros outer room (x ∷ follow) a b =
    turn_agrees (length follow + room) (expand_by f macros) (expand_by g macros) (expand_falls f macros)
    (λ outer left tokens h. enough f g macros outer left tokens (omega arith) (omega arith))
    outer x (replacement macros x) room follow (omega arith)

pub expansion_nil : (macros : Macros) (outer : Option ℕ) (room : ℕ) → expansion macros outer room [] ≡ ends room
unfolding expansion
expansion_nil macros outer room = by (0 + room)
  where
    by : (depth : ℕ) → expand_by depth macros outer room [] ≡ ends room
    by zero = refl
    by (suc depth) = refl

pub expansion_turn : (macros : Macros) (outer : Option ℕ) (room : ℕ) (x : HidingToken) (follow : List HidingToken)
    → expansion macros outer room (x ∷ follow)
    ≡ turn (expansion macros) outer x (replacement macros x) room follow
unfolding expansion
expansion_turn macros outer room x follow =
    let n = length follow + room in
    let e : length (x ∷ follow) + room ≡ suc n = omega arith in
    ap (λ depth. expand_by depth macros outer room (x ∷ follow)) e
    ∙ turn_agrees n (expand_by n macros)
    (λ outer left tokens. expand_by (length tokens + left) macros outer left tokens)
    (expand_falls n macros)
    (λ outer left tokens h. enough n (length tokens + left) macros outer left tokens h (omega arith))
    outer x (replacement macros x) room follow (omega arith)
