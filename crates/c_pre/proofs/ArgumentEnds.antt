-- The ends of arguments and calls that begin with unread tokens.
use Rattle.std.proofs.Common.{◌≡◌, ℕ, zero, suc, ◌+◌, ◌-◌, ◌≤◌, ◌<◌, Bool, true, false, List, [], ◌∷◌, ◌++◌, map}
use Rattle.std.proofs.Common.{length, take, drop, get_or, refl, sym, ap, ◌∙◌, length-append, arith, Option, Some, None}
use Rattle.std.proofs.Common.{option_map, is_some, nat_lt, subst}
use Rattle.std.proofs.lemmas.Bool.{lt-ltb, le-ltb}
use Rattle.c_pre.specs.declared.arguments.Ends.{Ends}
use Rattle.c_pre.specs.declared.hide_set.HideSets.{HideSets}
use Rattle.c_pre.specs.declared.hiding.Hiding.{Hiding}
use Rattle.c_pre.specs.declared.unread.Unread.{Unread}
use Rattle.c_pre.specs.ArgumentEnds.{role_in, roles, height, ends_of, each_ends}
use Rattle.c_pre.specs.Arguments.{Role, opens, closes, parts, other, role, Call, taken_by, taken}
use Rattle.c_pre.specs.Ends.{length_by, argument_length, EndIs}
use Rattle.c_pre.specs.HideSets.{HidingToken}
use Rattle.c_pre.specs.InnerFirst.{onto, inner_first}
use Rattle.c_pre.specs.Pending.{above, hiding}
use Rattle.c_pre.proofs.Heights.{take_and_drop, map_append, inner_append, length_map, length_above}
use Rattle.c_pre.proofs.Stacks.{last_is_inner, length_inner}

-- the roles of the tokens of a vector
pub roles_pushed : (xs : List Hiding) (x : Hiding) → roles (xs ++ x ∷ []) ≡ role_in x ∷ roles xs
roles_pushed xs x =
    ap inner_first (map_append role_in xs (x ∷ [])) ∙ last_is_inner (map role_in xs) (role_in x)

pub length_roles : (xs : List Hiding) → length (roles xs) ≡ length xs
length_roles xs = length_inner (map role_in xs) ∙ length_map role_in xs

roles_split : (n : ℕ) (xs : List Hiding) → roles xs ≡ roles (drop n xs) ++ roles (take n xs)
roles_split n xs =
    ap roles (take_and_drop n xs)
    ∙ ap inner_first (map_append role_in (take n xs) (drop n xs))
    ∙ inner_append (map role_in (take n xs)) (map role_in (drop n xs))

-- the ends beside the tokens of a vector
each_pushed : (behind : List Role) (xs : List Hiding) (x : Hiding)
    → each_ends behind (xs ++ x ∷ []) ≡ each_ends behind xs ++ ends_of (role_in x ∷ onto (map role_in xs) behind) ∷ []
each_pushed behind [] x = refl
each_pushed behind (y ∷ xs) x = ap (λ l. ends_of (role_in y ∷ behind) ∷ l) (each_pushed (role_in y ∷ behind) xs x)

each_taken : (n : ℕ) (behind : List Role) (xs : List Hiding)
    → each_ends behind (take n xs) ≡ take n (each_ends behind xs)
each_taken zero behind xs = refl
each_taken (suc n) behind [] = refl
each_taken (suc n) behind (x ∷ xs) = ap (λ l. ends_of (role_in x ∷ behind) ∷ l) (each_taken n (role_in x ∷ behind) xs)

each_length : (behind : List Role) (xs : List Hiding) → length (each_ends behind xs) ≡ length xs
each_length behind [] = refl
each_length behind (x ∷ xs) = ap suc (each_length (role_in x ∷ behind) xs)

each_at : (n : ℕ) (behind : List Role) (xs : List Hiding) (e : Ends) → n < length xs
    → e ≡ get_or (each_ends behind xs) n e → e ≡ ends_of (onto (map role_in (take (suc n) xs)) behind)
each_at n behind [] e h p = absurd (omega arith)
each_at zero behind (x ∷ xs) e h p = p
each_at (suc n) behind (x ∷ xs) e h p = each_at n (role_in x ∷ behind) xs e (omega arith) p

pub ends_pushed : (tokens : List Hiding) (ends : List Ends) (x : Hiding) (e : Ends) → ends ≡ each_ends [] tokens
    → e ≡ ends_of (role_in x ∷ roles tokens) → ends ++ e ∷ [] ≡ each_ends [] (tokens ++ x ∷ [])
ends_pushed tokens ends x e are is =
    ap (λ (l : List Ends). l ++ e ∷ []) are ∙ ap (λ (f : Ends). each_ends [] tokens ++ f ∷ []) is
    ∙ sym (each_pushed [] tokens x)

pub ends_taken : (n : ℕ) (tokens : List Hiding) (ends : List Ends) → ends ≡ each_ends [] tokens
    → take n ends ≡ each_ends [] (take n tokens)
ends_taken n tokens ends are = ap (take n) are ∙ sym (each_taken n [] tokens)

pub as_many : (tokens : List Hiding) (ends : List Ends) → ends ≡ each_ends [] tokens → length ends ≡ length tokens
as_many tokens ends are = ap length are ∙ each_length [] tokens

pub ends_read : (n : ℕ) (tokens : List Hiding) (ends : List Ends) (e : Ends) → ends ≡ each_ends [] tokens
    → 0 < n → n ≤ length tokens → e ≡ get_or ends (n - 1) e → e ≡ ends_of (roles (take n tokens))
ends_read n tokens ends e are some within is =
    let next : suc (n - 1) ≡ n = omega arith in
    each_at (n - 1) [] tokens e (omega arith) (is ∙ ap (λ l. get_or l (n - 1) e) are)
    ∙ ap (λ k. ends_of (roles (take k tokens))) next

-- what stands behind the first `)` outside of so many inner parentheses
abbrev behind_by : Role → ℕ → List Role → (ℕ → List Role) → List Role
behind_by opens depth follow more = more (suc depth)
behind_by closes zero follow more = follow
behind_by closes (suc depth) follow more = more depth
behind_by parts depth follow more = more depth
behind_by other depth follow more = more depth

abbrev behind : ℕ → List Role → List Role
behind depth [] = []
behind depth (r ∷ follow) = behind_by r depth follow (λ inner. behind inner follow)

length_behind_by : (r : Role) (depth : ℕ) (follow : List Role)
    → ((inner : ℕ) → length (behind inner follow) ≡ height false inner follow - 1)
    → length (behind depth (r ∷ follow)) ≡ height false depth (r ∷ follow) - 1
length_behind_by opens depth follow f = f (suc depth)
length_behind_by closes zero follow f = omega arith
length_behind_by closes (suc depth) follow f = f depth
length_behind_by parts zero follow f = f zero
length_behind_by parts (suc depth) follow f = f (suc depth)
length_behind_by other depth follow f = f depth

length_behind : (depth : ℕ) (rs : List Role) → length (behind depth rs) ≡ height false depth rs - 1
length_behind depth [] = refl
length_behind depth (r ∷ follow) = length_behind_by r depth follow (λ inner. length_behind inner follow)

front_by : (r : Role) (depth : ℕ) (follow : List Role)
    → ((inner : ℕ) → (front : List Role) × (follow ≡ front ++ behind inner follow))
    → (front : List Role) × (r ∷ follow ≡ front ++ behind depth (r ∷ follow))
front_by opens depth follow f = (opens ∷ (f (suc depth)).0, ap (λ l. opens ∷ l) (f (suc depth)).1)
front_by closes zero follow f = (closes ∷ [], refl)
front_by closes (suc depth) follow f = (closes ∷ (f depth).0, ap (λ l. closes ∷ l) (f depth).1)
front_by parts depth follow f = (parts ∷ (f depth).0, ap (λ l. parts ∷ l) (f depth).1)
front_by other depth follow f = (other ∷ (f depth).0, ap (λ l. other ∷ l) (f depth).1)

front_of : (depth : ℕ) (rs : List Role) → (front : List Role) × (rs ≡ front ++ behind depth rs)
front_of depth [] = ([], refl)
front_of depth (r ∷ follow) = front_by r depth follow (λ inner. front_of inner follow)

-- what begins inside of one more level ends as what stands behind the `)` of that
inside_by : (at_comma : Bool) (r : Role) (inner depth deep : ℕ) (follow : List Role) → deep ≡ suc (inner + depth)
    → ((i d : ℕ) → d ≡ suc (i + depth) → height at_comma d follow ≡ height at_comma depth (behind i follow))
    → height at_comma deep (r ∷ follow) ≡ height at_comma depth (behind inner (r ∷ follow))
inside_by at_comma r inner depth zero follow e f = absurd (omega arith)
inside_by at_comma opens inner depth (suc d) follow e f = f (suc inner) (suc (suc d)) (omega arith)
inside_by at_comma closes zero depth (suc d) follow e f =
    let same : d ≡ depth = omega arith in ap (λ k. height at_comma k follow) same
inside_by at_comma closes (suc inner) depth (suc d) follow e f = f inner d (omega arith)
inside_by at_comma parts inner depth (suc d) follow e f = f inner (suc d) e
inside_by at_comma other inner depth (suc d) follow e f = f inner (suc d) e

inside : (at_comma : Bool) (inner depth deep : ℕ) (rs : List Role) → deep ≡ suc (inner + depth)
    → height at_comma deep rs ≡ height at_comma depth (behind inner rs)
inside at_comma inner depth deep [] e = refl
inside at_comma inner depth deep (r ∷ follow) e =
    inside_by at_comma r inner depth deep follow e (λ i d h. inside at_comma i depth d follow h)

drop_front : {A : Type 0} (xs ys : List A) → drop (length xs) (xs ++ ys) ≡ ys
drop_front [] ys = refl
drop_front (x ∷ xs) ys = drop_front xs ys

same_behind : {A : Type 0} (us vs xs ys : List A) → us ++ vs ≡ xs ++ ys → length vs ≡ length ys → vs ≡ ys
same_behind us vs xs ys e h =
    let n : length us ≡ length xs = omega (arith, h, ap length e, length-append us vs, length-append xs ys) in
    sym (drop_front us vs) ∙ ap (drop (length us)) e ∙ ap (λ k. drop k (xs ++ ys)) n ∙ drop_front xs ys

behind_is : (tokens : List Hiding) → behind 0 (roles tokens) ≡ roles (take (height false 0 (roles tokens) - 1) tokens)
behind_is tokens =
    let rs = roles tokens in
    let n = length (behind 0 rs) in
    let front = front_of 0 rs in
    same_behind front.0 (behind 0 rs) (roles (drop n tokens)) (roles (take n tokens))
    (sym front.1 ∙ roles_split n tokens)
    (let within : n ≤ length tokens =
    omega (arith, ap length front.1, length-append front.0 (behind 0 rs), length_roles tokens) in
    sym (length_roles (take n tokens) ∙ length_of_taken n tokens within))
    ∙ ap (λ k. roles (take k tokens)) (length_behind 0 rs)
  where
    length_of_taken : (n : ℕ) (xs : List Hiding) → n ≤ length xs → length (take n xs) ≡ n
    length_of_taken zero xs h = refl
    length_of_taken (suc n) [] h = absurd (omega arith)
    length_of_taken (suc n) (x ∷ xs) h = ap suc (length_of_taken n xs (omega arith))

-- behind a `(`, and behind other tokens
pub opened_ends : (tokens : List Hiding) (e : Ends) → e
    ≡ ends_of (roles (take (height false 0 (roles tokens) - 1) tokens))
    → e ≡ ends_of (opens ∷ roles tokens)
opened_ends tokens e is =
    let rs = roles tokens in
    is ∙ ap ends_of (sym (behind_is tokens))
    ∙ sym (ap (λ (n : ℕ). record { argument = n; call = height false 1 rs }) (inside true 0 0 1 rs (omega arith))
    ∙ ap (λ (n : ℕ). record { argument = height true 0 (behind 0 rs); call = n }) (inside false 0 0 1 rs (omega arith)))

pub closed_ends : (tokens : List Hiding) (n : ℕ) → n ≡ length tokens + 1
    → record { argument = n; call = n } ≡ ends_of (closes ∷ roles tokens)
closed_ends tokens n e =
    let same : n ≡ suc (length (roles tokens)) = omega (arith, e, length_roles tokens) in
    ap (λ (k : ℕ). record { argument = k; call = k }) same

pub parted_ends : (tokens : List Hiding) (n : ℕ) (e : Ends) → n ≡ length tokens + 1 → e ≡ ends_of (roles tokens)
    → record { argument = n; call = e.call } ≡ ends_of (parts ∷ roles tokens)
parted_ends tokens n e is-next is =
    let same : n ≡ suc (length (roles tokens)) = omega (arith, is-next, length_roles tokens) in
    ap (λ (k : ℕ). record { argument = k; call = e.call }) same
    ∙ ap (λ (f : Ends). record { argument = suc (length (roles tokens)); call = f.call }) is

bounded_by : (at_comma : Bool) (r : Role) (depth : ℕ) (follow : List Role)
    → ((inner : ℕ) → height at_comma inner follow ≤ length follow)
    → height at_comma depth (r ∷ follow) ≤ suc (length follow)
bounded_by at_comma opens depth follow f = let h = f (suc depth) in omega arith
bounded_by at_comma closes zero follow f = omega arith
bounded_by at_comma closes (suc depth) follow f = let h = f depth in omega arith
bounded_by true parts zero follow f = omega arith
bounded_by false parts zero follow f = let h = f zero in omega arith
bounded_by at_comma parts (suc depth) follow f = let h = f (suc depth) in omega arith
bounded_by at_comma other depth follow f = let h = f depth in omega arith

bounded : (at_comma : Bool) (depth : ℕ) (rs : List Role) → height at_comma depth rs ≤ length rs
bounded at_comma depth [] = omega arith
bounded at_comma depth (r ∷ follow) = bounded_by at_comma r depth follow (λ inner. bounded at_comma inner follow)

pub within : (at_comma : Bool) (tokens : List Hiding) → height at_comma 0 (roles tokens) ≤ length tokens
within at_comma tokens = let h = bounded at_comma 0 (roles tokens) in omega (arith, length_roles tokens)

-- against the tokens above a height
abbrev role_of_token : HidingToken → Role
role_of_token x = role x.token.kind

map_onto : {A B : Type 0} (f : A → B) (xs done : List A) → map f (onto xs done) ≡ onto (map f xs) (map f done)
map_onto f [] done = refl
map_onto f (x ∷ xs) done = map_onto f xs (x ∷ done)

roles_hiding : (sets : HideSets) (xs : List Hiding) → map role_of_token (map (hiding sets) xs) ≡ map role_in xs
roles_hiding sets [] = refl
roles_hiding sets (x ∷ xs) = ap (λ l. role_in x ∷ l) (roles_hiding sets xs)

roles_above : (sets : HideSets) (end : ℕ) (tokens : List Hiding)
    → roles tokens ≡ map role_of_token (above end sets tokens) ++ roles (take end tokens)
roles_above sets end tokens =
    roles_split end tokens
    ∙ ap (λ l. l ++ roles (take end tokens))
    (sym (map_onto role_of_token (map (hiding sets) (drop end tokens)) []
    ∙ ap inner_first (roles_hiding sets (drop end tokens))))

-- the end of an argument: of n tokens above m others
abbrev Found : ℕ → ℕ → Option ℕ → ℕ → Type 0
Found n m None h = h ≤ m
Found n m (Some k) h = (h + k ≡ n + m) × (m < h)

found_next : (n m : ℕ) (o : Option ℕ) (h : ℕ) → Found n m o h → Found (suc n) m (option_map suc o) h
found_next n m None h f = f
found_next n m (Some k) h f = (omega (arith, f.0), f.1)

found_by : (r : Role) (depth n m : ℕ) (xs : List HidingToken) (rs : List Role) → n + m ≡ length rs
    → ((inner : ℕ) → Found n m (argument_length inner xs) (height true inner rs))
    → Found (suc n) m (length_by r depth (λ inner. argument_length inner xs)) (height true depth (r ∷ rs))
found_by opens depth n m xs rs e f =
    found_next n m (argument_length (suc depth) xs) (height true (suc depth) rs) (f (suc depth))
found_by closes zero n m xs rs e f = (omega arith, omega arith)
found_by closes (suc depth) n m xs rs e f = found_next n m (argument_length depth xs) (height true depth rs) (f depth)
found_by parts zero n m xs rs e f = (omega arith, omega arith)
found_by parts (suc depth) n m xs rs e f =
    found_next n m (argument_length (suc depth) xs) (height true (suc depth) rs) (f (suc depth))
found_by other depth n m xs rs e f = found_next n m (argument_length depth xs) (height true depth rs) (f depth)

length_both : (xs : List HidingToken) (ys : List Role)
    → length xs + length ys ≡ length (map role_of_token xs ++ ys)
length_both xs ys = omega (arith, length-append (map role_of_token xs) ys, length_map role_of_token xs)

found : (depth : ℕ) (xs : List HidingToken) (ys : List Role)
    → Found (length xs) (length ys) (argument_length depth xs) (height true depth (map role_of_token xs ++ ys))
found depth [] ys = bounded true depth ys
found depth (x ∷ xs) ys =
    found_by (role_of_token x) depth (length xs) (length ys) xs (map role_of_token xs ++ ys) (length_both xs ys)
    (λ inner. found inner xs ys)

-- whether the call is closed
abbrev Closed : ℕ → ℕ → Bool → ℕ → Type 0
Closed n m true h = (m < h) × (0 < n)
Closed n m false h = h ≤ m

closed_next : (n m : ℕ) (b : Bool) (h : ℕ) → Closed n m b h → Closed (suc n) m b h
closed_next n m true h c = (c.0, omega arith)
closed_next n m false h c = c

closed_mapped : (n m : ℕ) (f : Call → Call) (o : Option Call) (h : ℕ) → Closed n m (is_some o) h
    → Closed (suc n) m (is_some (option_map f o)) h
closed_mapped n m f None h c = c
closed_mapped n m f (Some call) h c = (c.0, omega arith)

closed_by : (r : Role) (depth n m : ℕ) (x : HidingToken) (xs : List HidingToken) (rs : List Role) → n + m ≡ length rs
    → ((inner : ℕ) → Closed n m (is_some (taken inner xs)) (height false inner rs))
    → Closed (suc n) m (is_some (taken_by r depth x xs (λ inner. taken inner xs))) (height false depth (r ∷ rs))
closed_by opens depth n m x xs rs e f =
    closed_mapped n m _ (taken (suc depth) xs) (height false (suc depth) rs) (f (suc depth))
closed_by closes zero n m x xs rs e f = (omega arith, omega arith)
closed_by closes (suc depth) n m x xs rs e f =
    closed_mapped n m _ (taken depth xs) (height false depth rs) (f depth)
closed_by parts zero n m x xs rs e f = closed_mapped n m _ (taken zero xs) (height false zero rs) (f zero)
closed_by parts (suc depth) n m x xs rs e f =
    closed_mapped n m _ (taken (suc depth) xs) (height false (suc depth) rs) (f (suc depth))
closed_by other depth n m x xs rs e f = closed_mapped n m _ (taken depth xs) (height false depth rs) (f depth)

closed : (depth : ℕ) (xs : List HidingToken) (ys : List Role)
    → Closed (length xs) (length ys) (is_some (taken depth xs)) (height false depth (map role_of_token xs ++ ys))
closed depth [] ys = bounded false depth ys
closed depth (x ∷ xs) ys =
    closed_by (role_of_token x) depth (length xs) (length ys) x xs (map role_of_token xs ++ ys) (length_both xs ys)
    (λ inner. closed inner xs ys)

-- what the numbers beside the next token say of what stands above a height
module _ (u : Unread) (end : ℕ) where
  abbrev tokens : List Hiding
  tokens = u.tokens.items

  abbrev front : List HidingToken
  front = above end u.sets tokens

  abbrev back : List Role
  back = roles (take end tokens)

  both : length front + length back ≡ length tokens
  both = omega (
    arith,
    ap length (roles_above u.sets end tokens),
    length-append (map role_of_token front) back,
    length_map role_of_token front,
    length_roles tokens,
  )

  many : length front ≡ length tokens - end
  many = length_above u.sets end tokens

  ends_by : (h : ℕ) (o : Option ℕ) → Found (length front) (length back) o h → argument_length zero front ≡ o
      → end < h → EndIs u end (Some h)
  ends_by h None f e above = absurd (omega (arith, f, both, many))
  ends_by h (Some k) f e above = ((k, omega (arith, f.0, both), e), above)

  none_by : (h : ℕ) (o : Option ℕ) → Found (length front) (length back) o h → argument_length zero front ≡ o
      → h ≤ end → EndIs u end None
  none_by h None f e below = e
  none_by h (Some k) f e below = absurd (omega (arith, f.0, f.1, both, many))

  is_found : Found (length front) (length back) (argument_length zero front) (height true 0 (roles tokens))
  is_found = subst (λ rs. Found (length front) (length back) (argument_length zero front) (height true 0 rs))
      (sym (roles_above u.sets end tokens)) (found zero front back)

  pub argument_ends : (h : ℕ) → h ≡ height true 0 (roles tokens) → end < h → EndIs u end (Some h)
  argument_ends h e above = ends_by h (argument_length zero front)
      (subst (λ n. Found (length front) (length back) (argument_length zero front) n) (sym e) is_found) refl above

  pub no_argument_ends : (h : ℕ) → h ≡ height true 0 (roles tokens) → h ≤ end → EndIs u end None
  no_argument_ends h e below = none_by h (argument_length zero front)
      (subst (λ n. Found (length front) (length back) (argument_length zero front) n) (sym e) is_found) refl below

  closed_if : (h : ℕ) (b : Bool) → Closed (length front) (length back) b h → nat_lt end h ≡ b
  closed_if h true c = lt-ltb end h (omega (arith, c.0, c.1, both, many))
  closed_if h false c = le-ltb end h (omega (arith, c, both, many))

  pub call_closed : nat_lt end (height false 0 (roles tokens)) ≡ is_some (taken 0 front)
  call_closed = closed_if (height false 0 (roles tokens)) (is_some (taken 0 front))
      (subst (λ rs. Closed (length front) (length back) (is_some (taken zero front)) (height false 0 rs))
      (sym (roles_above u.sets end tokens)) (closed zero front back))
