-- Tokens that are put in.
use Rattle.std.proofs.Common.{◌≡◌, ℕ, zero, suc, ◌-◌, ◌≤◌, ◌<◌, Bool, true, false, List, [], ◌∷◌, ◌++◌, map, length}
use Rattle.std.proofs.Common.{take, drop, refl, sym, ap, subst, ◌∙◌, length-append, arith, Option, Some, None}
use Rattle.std.proofs.Common.{get_or, slice_get, option_map, Err, if◌then◌else◌}
use Rattle.std.specs.Prelude.{bytes_eq}
use Rattle.std.specs.List.{AllByRecursion}
use Rattle.c_pre.specs.declared.fault.PreError.{PreError}
use Rattle.c_pre.specs.declared.fault.PreError.TheVariants.{Memory, Fault}
use Rattle.c_pre.specs.Outcomes.{parameter_index}
use Rattle.c_lexer.specs.declared.token.Token.{Token}
use Rattle.c_pre.specs.declared.hide_set.HideSets.{HideSets}
use Rattle.c_pre.specs.declared.hide_set.HideSet.{HideSet}
use Rattle.c_pre.specs.declared.hiding.Hiding.{Hiding}
use Rattle.c_pre.specs.declared.unread.Unread.{Unread}
use Rattle.c_pre.specs.HideSets.{HidingToken, joined}
use Rattle.c_pre.specs.Expansion.{of_text, put_argument, put_token, put_in, argument_named, argument_of}
use Rattle.c_pre.specs.Lines.{Tokens}
use Rattle.c_pre.specs.Names.{Name, Names, name_of}
use Rattle.c_pre.specs.Pending.{above, hiding, all_hiding, AreKnown}
use Rattle.c_pre.specs.PutIn.{Puts, PutsIn}
use Rattle.c_pre.specs.SharedSets.{IsKnown, Grows, names_of}
use Rattle.c_pre.proofs.Sets.{grows_not, grows_twice, still_known, names_none}
use Rattle.c_pre.proofs.Heights.{take_all, take_take, above_none, above_push, above_two, same_above}
use Rattle.c_pre.proofs.Heights.{still_are_known, all_drop, drop_one, drop_map}

-- nothing
pub puts_none : (u : Unread) → AreKnown u.sets u.tokens.items → Puts [] u u
puts_none u known = record {
  below = take_all (length u.tokens.items) u.tokens.items (omega arith);
  put = above_none u.sets (length u.tokens.items) u.tokens.items (omega arith);
  room = omega arith;
  known = known;
  grows = grows_not u.sets;
}

pub longer : (old new : Unread) → take (length old.tokens.items) new.tokens.items ≡ old.tokens.items
    → length old.tokens.items ≤ length new.tokens.items
longer old new e = shorter (length old.tokens.items) new.tokens.items (ap length e)
  where
    shorter : {A : Type 0} (n : ℕ) (xs : List A) → length (take n xs) ≡ n → n ≤ length xs
    shorter zero xs e = omega arith
    shorter (suc n) [] e = absurd (omega arith)
    shorter (suc n) (x ∷ xs) e = let s = shorter n xs (omega arith) in omega arith

-- more tokens before those that were put in
pub puts_more : (first second : List HidingToken) (a b c : Unread) → Puts first a b → Puts second b c
    → Puts (second ++ first) a c
puts_more first second a b c p q =
    let la = longer a b p.below in
    let lb = longer b c q.below in
    let low = length a.tokens.items in
    let high = length b.tokens.items in
    record {
      below = sym (take_take low high c.tokens.items la) ∙ ap (take low) q.below ∙ p.below;
      put = above_two c.sets low high c.tokens.items la lb
          ∙ ap (λ l. l ++ above low c.sets (take high c.tokens.items)) q.put
          ∙ ap (λ items. second ++ above low c.sets items) q.below
          ∙ ap (λ l. second ++ l) (same_above b.sets c.sets q.grows low b.tokens.items p.known ∙ p.put);
      room = omega (arith, p.room, q.room, length-append second first);
      known = q.known;
      grows = grows_twice a.sets b.sets c.sets p.grows q.grows;
    }

-- sets alone were made
pub puts_sets : (first : List HidingToken) (a b c : Unread) → Puts first a b → Grows b.sets c.sets
    → c.tokens.items ≡ b.tokens.items → c.room ≡ b.room → Puts first a c
puts_sets first a b c p grows tokens room = record {
  below = ap (take (length a.tokens.items)) tokens ∙ p.below;
  put = ap (above (length a.tokens.items) c.sets) tokens
      ∙ same_above b.sets c.sets grows (length a.tokens.items) b.tokens.items p.known ∙ p.put;
  room = omega (arith, p.room, room);
  known = subst (λ items. AreKnown c.sets items) (sym tokens)
      (still_are_known b.sets c.sets grows b.tokens.items p.known);
  grows = grows_twice a.sets b.sets c.sets p.grows grows;
}

-- as many tokens are not left as are put in from a place on
pub rest_fits : (line : ℕ) (here parameters : Names) (arguments : List (List HidingToken)) (n : ℕ) (list : Tokens)
    → length (put_in line here parameters arguments (drop n list)) ≤ length (put_in line here parameters arguments list)
rest_fits line here parameters arguments zero list = omega arith
rest_fits line here parameters arguments (suc n) [] = omega arith
rest_fits line here parameters arguments (suc n) (token ∷ list) =
    let s = rest_fits line here parameters arguments n list in
    omega (
      arith,
      length-append (put_token line here token (argument_of parameters arguments (name_of token.kind)))
          (put_in line here parameters arguments list),
    )

pub argument_fits : (line : ℕ) (here : Names) (n : ℕ) (argument : List HidingToken)
    → length (put_argument line here (drop n argument)) ≤ length (put_argument line here argument)
argument_fits line here zero argument = omega arith
argument_fits line here (suc n) [] = omega arith
argument_fits line here (suc n) (x ∷ argument) = let s = argument_fits line here n argument in omega arith

-- the tokens of a text are put in one by one, the last first
pub text_pushed : (sets : HideSets) (items new : List Hiding) (x : Hiding) (text : Tokens) (n : ℕ) (t : Token)
    → new ≡ items ++ x ∷ [] → 0 < n → t ≡ get_or text (n - 1) t → n ≤ length text → x.token ≡ t → x.hidden.number ≡ 0
    → above 0 sets items ≡ of_text (drop n text) → above 0 sets new ≡ of_text (drop (n - 1) text)
text_pushed sets items new x text n t pushed some at within same empty before =
    let next : suc (n - 1) ≡ n = omega arith in
    ap (above 0 sets) pushed
    ∙ above_push sets 0 items x (omega arith)
    ∙ ap (λ names. record { token = x.token; hidden = names } ∷ above 0 sets items) (names_none sets x.hidden empty)
    ∙ ap (λ token. record { token = token; hidden = [] } ∷ above 0 sets items) same
    ∙ ap (λ l. record { token = t; hidden = [] } ∷ l) before
    ∙ ap (λ k. record { token = t; hidden = [] } ∷ of_text (drop k text)) (sym next)
    ∙ ap of_text (sym (drop_one (n - 1) text t at (omega arith)))

-- an argument is put in token by token, the last first
module _ (line : ℕ) (here : HideSet) (argument : List Hiding) (a b c d : Unread) (n : ℕ) (x : Hiding) (hidden : HideSet)
    (is_known : AreKnown a.sets argument) (here_known : IsKnown a.sets here)
    (p : Puts (put_argument line (names_of a.sets here) (all_hiding a.sets (drop n argument))) a b)
    (some : 0 < n) (within : n ≤ length argument) (at : x ≡ get_or argument (n - 1) x)
    (grows : Grows b.sets c.sets) (tokens : c.tokens.items ≡ b.tokens.items) (room : c.room ≡ b.room)
    (names : names_of c.sets hidden ≡ joined (names_of b.sets x.hidden) (names_of b.sets here)) where
  next_place : suc (n - 1) ≡ n
  next_place = omega arith

  rest : drop (n - 1) argument ≡ x ∷ drop n argument
  rest = drop_one (n - 1) argument x at (omega arith) ∙ ap (λ k. x ∷ drop k argument) next_place

  pub x_known : IsKnown b.sets x.hidden
  x_known = still_known a.sets b.sets x.hidden p.grows
      (let all : AllByRecursion (λ (y : Hiding). IsKnown a.sets y.hidden) (x ∷ drop n argument) =
      subst (λ l. AreKnown a.sets l) rest (all_drop _ (n - 1) argument is_known) in all.0)

  x_known_before : IsKnown a.sets x.hidden
  x_known_before =
      let all : AllByRecursion (λ (y : Hiding). IsKnown a.sets y.hidden) (x ∷ drop n argument) =
      subst (λ l. AreKnown a.sets l) rest (all_drop _ (n - 1) argument is_known) in all.0

  one : put_token line (names_of c.sets hidden) x.token None
      ++ put_argument line (names_of a.sets here) (all_hiding a.sets (drop n argument))
      ≡ put_argument line (names_of a.sets here) (all_hiding a.sets (drop (n - 1) argument))
  one =
      ap (λ h. put_token line h x.token None
      ++ put_argument line (names_of a.sets here) (all_hiding a.sets (drop n argument)))
      (names ∙ ap (λ m. joined m (names_of b.sets here)) (p.grows.same x.hidden x_known_before)
      ∙ ap (joined (names_of a.sets x.hidden)) (p.grows.same here here_known))
      ∙ ap (λ l. put_argument line (names_of a.sets here) (all_hiding a.sets l)) (sym rest)

  pub argument_step : Puts (put_token line (names_of c.sets hidden) x.token None) c d
      → Puts (put_argument line (names_of a.sets here) (all_hiding a.sets (drop (n - 1) argument))) a d
  argument_step q =
      subst (λ ts. Puts ts a d) one (puts_more _ _ a c d (puts_sets _ a b c p grows tokens room) q)

  pub argument_refused : (X Y : Type 0) (error : PreError) (e : Unread)
      → PutsIn {X = X} (put_token line (names_of c.sets hidden) x.token None) c d line (Err error)
      → PutsIn {X = Y} (put_argument line (names_of a.sets here) (all_hiding a.sets argument)) a e line (Err error)
  argument_refused X Y Memory e q = q
  argument_refused X Y (Fault fault) e q = (
    q.0,
    omega (
      arith,
      q.1,
      p.room,
      room,
      ap length one,
      length-append (put_token line (names_of c.sets hidden) x.token None)
          (put_argument line (names_of a.sets here) (all_hiding a.sets (drop n argument))),
      drop_fits (n - 1),
    ),
  )
    where
      drop_fits : (k : ℕ)
          → length (put_argument line (names_of a.sets here) (all_hiding a.sets (drop k argument)))
          ≤ length (put_argument line (names_of a.sets here) (all_hiding a.sets argument))
      drop_fits k =
          let s = argument_fits line (names_of a.sets here) k (all_hiding a.sets argument) in
          let e = ap (λ l. length (put_argument line (names_of a.sets here) l)) (drop_map (hiding a.sets) k argument) in
          omega arith

-- a replacement list is put in token by token, the last first
module _ (line : ℕ) (here : HideSet) (parameters : Names) (arguments : List (List HidingToken)) (list : Tokens)
    (a b c : Unread) (n : ℕ) (t : Token) (here_known : IsKnown a.sets here)
    (p : Puts (put_in line (names_of a.sets here) parameters arguments (drop n list)) a b)
    (some : 0 < n) (within : n ≤ length list) (at : t ≡ get_or list (n - 1) t) where
  abbrev o : Option (List HidingToken)
  o = argument_of parameters arguments (name_of t.kind)

  list_rest : drop (n - 1) list ≡ t ∷ drop n list
  list_rest =
      let next : suc (n - 1) ≡ n = omega arith in
      drop_one (n - 1) list t at (omega arith) ∙ ap (λ k. t ∷ drop k list) next

  list_one : put_token line (names_of a.sets here) t o
      ++ put_in line (names_of a.sets here) parameters arguments (drop n list)
      ≡ put_in line (names_of a.sets here) parameters arguments (drop (n - 1) list)
  list_one = ap (put_in line (names_of a.sets here) parameters arguments) (sym list_rest)

  pub list_step : (tokens : List HidingToken) → tokens ≡ put_token line (names_of a.sets here) t o
      → Puts tokens b c → Puts (put_in line (names_of a.sets here) parameters arguments (drop (n - 1) list)) a c
  list_step tokens e q =
      subst (λ ts. Puts ts a c)
      (ap (λ ts. ts ++ put_in line (names_of a.sets here) parameters arguments (drop n list)) e ∙ list_one)
      (puts_more _ tokens a b c p q)

  pub list_refused : (X Y : Type 0) (tokens : List HidingToken) (error : PreError) (d : Unread)
      → tokens ≡ put_token line (names_of a.sets here) t o → PutsIn {X = X} tokens b c line (Err error)
      → PutsIn {X = Y} (put_in line (names_of a.sets here) parameters arguments list) a d line (Err error)
  list_refused X Y tokens Memory d e q = q
  list_refused X Y tokens (Fault fault) d e q = (
    q.0,
    omega (
      arith,
      q.1,
      p.room,
      ap length e,
      ap length list_one,
      length-append (put_token line (names_of a.sets here) t o)
          (put_in line (names_of a.sets here) parameters arguments (drop n list)),
      rest_fits line (names_of a.sets here) parameters arguments (n - 1) list,
    ),
  )

-- which argument is whose
abbrev pub at_place : {A : Type 0} → List A → Option ℕ → Option A
at_place xs None = None
at_place xs (Some k) = slice_get xs k

at_suc : {A : Type 0} (x : A) (xs : List A) (o : Option ℕ) → at_place (x ∷ xs) (option_map suc o) ≡ at_place xs o
at_suc x xs None = refl
at_suc x xs (Some k) = refl

at_nothing : {A : Type 0} (o : Option ℕ) → at_place {A = A} [] o ≡ None
at_nothing None = refl
at_nothing (Some k) = refl

pub argument_at : (parameters : Names) (arguments : List (List HidingToken)) (name : Name)
    → argument_named parameters arguments name ≡ at_place arguments (parameter_index name parameters)
argument_at [] arguments name = refl
argument_at (parameter ∷ more) [] name = sym (at_nothing (parameter_index name (parameter ∷ more)))
argument_at (parameter ∷ more) (argument ∷ others) name =
    by (bytes_eq name parameter) (argument_at more others name)
  where
    by : (b : Bool) → argument_named more others name ≡ at_place others (parameter_index name more)
        → (if b then Some argument else argument_named more others name)
        ≡ at_place (argument ∷ others) (if b then Some 0 else option_map suc (parameter_index name more))
    by true e = refl
    by false e = e ∙ sym (at_suc argument others (parameter_index name more))

pub at_mapped : {A B : Type 0} (f : A → B) (xs : List A) (k : ℕ) → slice_get (map f xs) k
    ≡ option_map f (slice_get xs k)
at_mapped f [] k = refl
at_mapped f (x ∷ xs) zero = refl
at_mapped f (x ∷ xs) (suc k) = at_mapped f xs k

-- none
pub no_argument : (parameters : Names) (arguments : List (List HidingToken)) (name : Name) (o : Option Name)
    → o ≡ Some name → parameter_index name parameters ≡ None → argument_of parameters arguments o ≡ None
no_argument parameters arguments name o e none =
    ap (argument_of parameters arguments) e ∙ argument_at parameters arguments name ∙ ap (at_place arguments) none

-- the argument at this place
pub placed : {A : Type 0} (f : A → List HidingToken) (parameters : Names) (vs : List A) (name : Name) (o : Option Name)
    (k : ℕ) (v : Option A) → o ≡ Some name → parameter_index name parameters ≡ Some k → slice_get vs k ≡ v
    → argument_of parameters (map f vs) o ≡ option_map f v
placed f parameters vs name o k v e place at =
    ap (argument_of parameters (map f vs)) e ∙ argument_at parameters (map f vs) name
    ∙ ap (at_place (map f vs)) place ∙ at_mapped f vs k ∙ ap (option_map f) at
