-- Code with its checks put in is what `Inserted` says.
use Rattle.std.proofs.Common.{◌≡◌, ℕ, suc, zero, ◌+◌, ◌≤◌, List, [], ◌∷◌, length, Option, Some, None, refl, sym, ap}
use Rattle.std.proofs.Common.{◌∙◌, subst, arith, length-append}
use Rattle.std.specs.Prelude.{slice_get, map, ◌++◌}
use Rattle.c_tree.specs.declared.expression.Kind.{Kind}
use Rattle.c_tree.specs.declared.expression.Kind.TheVariants.{Void, Scalar as OfScalar, Structure, Array}
use Rattle.tac_ir.specs.declared.instruction.Mode.TheVariants.{Named, Unchecked, Judged}
use Rattle.tac_ir.specs.declared.instruction.Test.TheVariants.{Spatial, Temporal}
use Rattle.tac_ir.specs.declared.instruction.Instruction.{Instruction}
use Rattle.tac_ir.specs.declared.instruction.Instruction.TheVariants.{Reserved, Skip, Constant, FunctionPointer}
use Rattle.tac_ir.specs.declared.instruction.Instruction.TheVariants.{GetPlain}
use Rattle.tac_ir.specs.declared.instruction.Instruction.TheVariants.{SetPlain, UpdatePlain, HomePointer}
use Rattle.tac_ir.specs.declared.instruction.Instruction.TheVariants.{StaticPointer, ZeroOf, Convert, Unary, Binary}
use Rattle.tac_ir.specs.declared.instruction.Instruction.TheVariants.{Offset, Difference, Narrow, Member, Take, Read}
use Rattle.tac_ir.specs.declared.instruction.Instruction.TheVariants.{Write, Update, Judge, Zero, StorePart}
use Rattle.tac_ir.specs.declared.instruction.Instruction.TheVariants.{StoreText, Branch, Case, Turn, Library, Print}
use Rattle.tac_ir.specs.declared.instruction.Instruction.TheVariants.{Call, CallThrough, EnterBlock, LeaveBlock, Return}
use Rattle.tac_ir.specs.declared.function.CountedLoop.{CountedLoop}
use Rattle.tac_ir.specs.declared.function.CodeFunction.{CodeFunction}
use Rattle.tac_ir.specs.declared.function.StaticData.{StaticData}
use Rattle.tac_ir.specs.declared.function.Tac.{Tac}
use Rattle.tac_ir.specs.Meaning.{header_of_code}
use Rattle.tac_ir.specs.Bodies.{without_added}
use Rattle.tac_ir.specs.SameTables.{SameAt}
use Rattle.tac_ir.specs.Structures.{structure_put}
use Rattle.tac_ir.specs.Temporaries.{temporaries}
use Rattle.check_insert.specs.declared.access.Access.{Access}
use Rattle.check_insert.specs.Counting.{is_check, checks_needed, sum_over, sum_of_functions}
use Rattle.check_insert.specs.Inserted.{Has, StandsFor, NeedsNoMore, FunctionIn, InsertedAt, Inserted}
use Rattle.check_insert.specs.Building.{access_of, front, back, behind, fronts, backs, with_checks, checked_function}
use Rattle.check_insert.specs.Building.{with_added, checked_program}

-- what stands at the node of an instruction, and behind all nodes from one node on
abbrev StandAs : List Instruction → (node next : ℕ) → Option Access → Instruction → Type 0
StandAs code n next None i = Has code n i
StandAs code n next (Some a) i =
    Has code n (Judge Spatial a.size a.line a.key a.pointer next)
    × Has code next (Judge Temporal a.size a.line a.key a.pointer (next + 1))
    × Has code (next + 1) a.judged

stands_for : (code : List Instruction) (n next : ℕ) (i : Instruction) → StandAs code n next (access_of i) i
    → StandsFor code n i
stands_for code node next Reserved h = h
stands_for code node next (Constant d w m) h = h
stands_for code node next (FunctionPointer d f m) h = h
stands_for code node next (GetPlain d x m) h = h
stands_for code node next (SetPlain x a m) h = h
stands_for code node next (UpdatePlain w k f line d x right m) h = h
stands_for code node next (HomePointer d x m) h = h
stands_for code node next (StaticPointer d n m) h = h
stands_for code node next (ZeroOf kind d m) h = h
stands_for code node next (Convert kind d a m) h = h
stands_for code node next (Unary op ty d a m) h = h
stands_for code node next (Binary op ty line d a b m) h = h
stands_for code node next (Offset form size d a b m) h = h
stands_for code node next (Difference size d a b m) h = h
stands_for code node next (Narrow offset size d a m) h = h
stands_for code node next (Member offset size d a m) h = h
stands_for code node next (Take kind line d a m) h = h
stands_for code node next (Read kind Named line key d a m) h = h
stands_for code node next (Read kind Judged line key d a m) h = h
stands_for code node next (Read Void Unchecked line key d a m) h = h
stands_for code node next (Read (OfScalar k) Unchecked line key d a m) h = (next, next + 1, h.0, h.1, h.2)
stands_for code node next (Read (Structure n) Unchecked line key d a m) h = (next, next + 1, h.0, h.1, h.2)
stands_for code node next (Read (Array n) Unchecked line key d a m) h = h
stands_for code node next (Write kind Named line key d a b m) h = h
stands_for code node next (Write kind Judged line key d a b m) h = h
stands_for code node next (Write Void Unchecked line key d a b m) h = h
stands_for code node next (Write (OfScalar k) Unchecked line key d a b m) h = (next, next + 1, h.0, h.1, h.2)
stands_for code node next (Write (Structure n) Unchecked line key d a b m) h = (next, next + 1, h.0, h.1, h.2)
stands_for code node next (Write (Array n) Unchecked line key d a b m) h = h
stands_for code node next (Update u k f Named line at key d a b m) h = h
stands_for code node next (Update u k f Unchecked line at key d a b m) h = (next, next + 1, h.0, h.1, h.2)
stands_for code node next (Update u k f Judged line at key d a b m) h = h
stands_for code node next (Judge test size line key a m) h = h
stands_for code node next (Zero x m) h = h
stands_for code node next (StorePart kind line x offset a m) h = h
stands_for code node next (StoreText n x offset m) h = h
stands_for code node next (Branch a x y) h = h
stands_for code node next (Case a w x y) h = h
stands_for code node next (Turn counted m) h = h
stands_for code node next (Library r line d n m) h = h
stands_for code node next (Print x line d n m) h = h
stands_for code node next (Call f line d n m) h = h
stands_for code node next (CallThrough type_number line d n m) h = h
stands_for code node next (EnterBlock b line m) h = h
stands_for code node next (LeaveBlock b m) h = h
stands_for code node next (Skip m) h = h
stands_for code node next (Return a) h = h

-- the checks that an instruction needs are put in
count_one : (next : ℕ) (i : Instruction)
    → is_check (front next (access_of i) i) + sum_over is_check (back next (access_of i)) ≡ is_check i + checks_needed i
count_one next Reserved = omega arith
count_one next (Constant d w m) = omega arith
count_one next (FunctionPointer d f m) = omega arith
count_one next (GetPlain d x m) = omega arith
count_one next (SetPlain x a m) = omega arith
count_one next (UpdatePlain w k f line d x right m) = omega arith
count_one next (HomePointer d x m) = omega arith
count_one next (StaticPointer d n m) = omega arith
count_one next (ZeroOf kind d m) = omega arith
count_one next (Convert kind d a m) = omega arith
count_one next (Unary op ty d a m) = omega arith
count_one next (Binary op ty line d a b m) = omega arith
count_one next (Offset form size d a b m) = omega arith
count_one next (Difference size d a b m) = omega arith
count_one next (Narrow offset size d a m) = omega arith
count_one next (Member offset size d a m) = omega arith
count_one next (Take kind line d a m) = omega arith
count_one next (Read Void Named line key d a m) = omega arith
count_one next (Read (OfScalar k) Named line key d a m) = omega arith
count_one next (Read (Structure n) Named line key d a m) = omega arith
count_one next (Read (Array n) Named line key d a m) = omega arith
count_one next (Read Void Judged line key d a m) = omega arith
count_one next (Read (OfScalar k) Judged line key d a m) = omega arith
count_one next (Read (Structure n) Judged line key d a m) = omega arith
count_one next (Read (Array n) Judged line key d a m) = omega arith
count_one next (Read Void Unchecked line key d a m) = omega arith
count_one next (Read (OfScalar k) Unchecked line key d a m) = omega arith
count_one next (Read (Structure n) Unchecked line key d a m) = omega arith
count_one next (Read (Array n) Unchecked line key d a m) = omega arith
count_one next (Write Void Named line key d a b m) = omega arith
count_one next (Write (OfScalar k) Named line key d a b m) = omega arith
count_one next (Write (Structure n) Named line key d a b m) = omega arith
count_one next (Write (Array n) Named line key d a b m) = omega arith
count_one next (Write Void Judged line key d a b m) = omega arith
count_one next (Write (OfScalar k) Judged line key d a b m) = omega arith
count_one next (Write (Structure n) Judged line key d a b m) = omega arith
count_one next (Write (Array n) Judged line key d a b m) = omega arith
count_one next (Write Void Unchecked line key d a b m) = omega arith
count_one next (Write (OfScalar k) Unchecked line key d a b m) = omega arith
count_one next (Write (Structure n) Unchecked line key d a b m) = omega arith
count_one next (Write (Array n) Unchecked line key d a b m) = omega arith
count_one next (Update u k f Named line at key d a b m) = omega arith
count_one next (Update u k f Unchecked line at key d a b m) = omega arith
count_one next (Update u k f Judged line at key d a b m) = omega arith
count_one next (Judge test size line key a m) = omega arith
count_one next (Zero x m) = omega arith
count_one next (StorePart kind line x offset a m) = omega arith
count_one next (StoreText n x offset m) = omega arith
count_one next (Branch a x y) = omega arith
count_one next (Case a w x y) = omega arith
count_one next (Turn counted m) = omega arith
count_one next (Library r line d n m) = omega arith
count_one next (Print x line d n m) = omega arith
count_one next (Call f line d n m) = omega arith
count_one next (CallThrough type_number line d n m) = omega arith
count_one next (EnterBlock b line m) = omega arith
count_one next (LeaveBlock b m) = omega arith
count_one next (Skip m) = omega arith
count_one next (Return a) = omega arith

-- an access gets as many new nodes as checks
pub back_length : (next : ℕ) (i : Instruction) → length (back next (access_of i)) ≡ checks_needed i
back_length next Reserved = refl
back_length next (Constant d w m) = refl
back_length next (FunctionPointer d f m) = refl
back_length next (GetPlain d x m) = refl
back_length next (SetPlain x a m) = refl
back_length next (UpdatePlain w k f line d x right m) = refl
back_length next (HomePointer d x m) = refl
back_length next (StaticPointer d n m) = refl
back_length next (ZeroOf kind d m) = refl
back_length next (Convert kind d a m) = refl
back_length next (Unary op ty d a m) = refl
back_length next (Binary op ty line d a b m) = refl
back_length next (Offset form size d a b m) = refl
back_length next (Difference size d a b m) = refl
back_length next (Narrow offset size d a m) = refl
back_length next (Member offset size d a m) = refl
back_length next (Take kind line d a m) = refl
back_length next (Read Void Named line key d a m) = refl
back_length next (Read (OfScalar k) Named line key d a m) = refl
back_length next (Read (Structure n) Named line key d a m) = refl
back_length next (Read (Array n) Named line key d a m) = refl
back_length next (Read Void Judged line key d a m) = refl
back_length next (Read (OfScalar k) Judged line key d a m) = refl
back_length next (Read (Structure n) Judged line key d a m) = refl
back_length next (Read (Array n) Judged line key d a m) = refl
back_length next (Read Void Unchecked line key d a m) = refl
back_length next (Read (OfScalar k) Unchecked line key d a m) = refl
back_length next (Read (Structure n) Unchecked line key d a m) = refl
back_length next (Read (Array n) Unchecked line key d a m) = refl
back_length next (Write Void Named line key d a b m) = refl
back_length next (Write (OfScalar k) Named line key d a b m) = refl
back_length next (Write (Structure n) Named line key d a b m) = refl
back_length next (Write (Array n) Named line key d a b m) = refl
back_length next (Write Void Judged line key d a b m) = refl
back_length next (Write (OfScalar k) Judged line key d a b m) = refl
back_length next (Write (Structure n) Judged line key d a b m) = refl
back_length next (Write (Array n) Judged line key d a b m) = refl
back_length next (Write Void Unchecked line key d a b m) = refl
back_length next (Write (OfScalar k) Unchecked line key d a b m) = refl
back_length next (Write (Structure n) Unchecked line key d a b m) = refl
back_length next (Write (Array n) Unchecked line key d a b m) = refl
back_length next (Update u k f Named line at key d a b m) = refl
back_length next (Update u k f Unchecked line at key d a b m) = refl
back_length next (Update u k f Judged line at key d a b m) = refl
back_length next (Judge test size line key a m) = refl
back_length next (Zero x m) = refl
back_length next (StorePart kind line x offset a m) = refl
back_length next (StoreText n x offset m) = refl
back_length next (Branch a x y) = refl
back_length next (Case a w x y) = refl
back_length next (Turn counted m) = refl
back_length next (Library r line d n m) = refl
back_length next (Print x line d n m) = refl
back_length next (Call f line d n m) = refl
back_length next (CallThrough type_number line d n m) = refl
back_length next (EnterBlock b line m) = refl
back_length next (LeaveBlock b m) = refl
back_length next (Skip m) = refl
back_length next (Return a) = refl

pub backs_length : (next : ℕ) (is : List Instruction) → length (backs next is) ≡ sum_over checks_needed is
backs_length next [] = refl
backs_length next (i ∷ is) =
    let a = length-append (back next (access_of i)) (backs (behind next (access_of i)) is) in
    omega (arith, a, back_length next i, backs_length (behind next (access_of i)) is)

-- neither the checks nor the access behind them needs more temporaries, and no access puts a structure into one
abbrev FewIn : Option Access → (most : ℕ) → Type 0
FewIn None n = Unit {0}
FewIn (Some a) n =
    (suc a.pointer ≤ n) × (temporaries a.judged ≤ n) × ((t : Tac) (k : ℕ) → structure_put t a.judged k ≡ 0)

few : (i : Instruction) → FewIn (access_of i) (temporaries i)
few Reserved = tt
few (Constant d w m) = tt
few (FunctionPointer d f m) = tt
few (GetPlain d x m) = tt
few (SetPlain x a m) = tt
few (UpdatePlain w k f line d x right m) = tt
few (HomePointer d x m) = tt
few (StaticPointer d n m) = tt
few (ZeroOf kind d m) = tt
few (Convert kind d a m) = tt
few (Unary op ty d a m) = tt
few (Binary op ty line d a b m) = tt
few (Offset form size d a b m) = tt
few (Difference size d a b m) = tt
few (Narrow offset size d a m) = tt
few (Member offset size d a m) = tt
few (Take kind line d a m) = tt
few (Read kind Named line key d a m) = tt
few (Read kind Judged line key d a m) = tt
few (Read Void Unchecked line key d a m) = tt
few (Read (OfScalar k) Unchecked line key d a m) = (omega arith, omega arith, λ t k. refl)
few (Read (Structure n) Unchecked line key d a m) = (omega arith, omega arith, λ t k. refl)
few (Read (Array n) Unchecked line key d a m) = tt
few (Write kind Named line key d a b m) = tt
few (Write kind Judged line key d a b m) = tt
few (Write Void Unchecked line key d a b m) = tt
few (Write (OfScalar k) Unchecked line key d a b m) = (omega arith, omega arith, λ t k. refl)
few (Write (Structure n) Unchecked line key d a b m) = (omega arith, omega arith, λ t k. refl)
few (Write (Array n) Unchecked line key d a b m) = tt
few (Update u k f Named line at key d a b m) = tt
few (Update u k f Unchecked line at key d a b m) = (omega arith, omega arith, λ t k. refl)
few (Update u k f Judged line at key d a b m) = tt
few (Judge test size line key a m) = tt
few (Zero x m) = tt
few (StorePart kind line x offset a m) = tt
few (StoreText n x offset m) = tt
few (Branch a x y) = tt
few (Case a w x y) = tt
few (Turn counted m) = tt
few (Library r line d n m) = tt
few (Print x line d n m) = tt
few (Call f line d n m) = tt
few (CallThrough type_number line d n m) = tt
few (EnterBlock b line m) = tt
few (LeaveBlock b m) = tt
few (Skip m) = tt
few (Return a) = tt

-- lists within a list

abbrev From : List Instruction → (node : ℕ) → List Instruction → Type 0
From code n is = (k : ℕ) (i : Instruction) → Has is k i → Has code (n + k) i

next_from : (code is : List Instruction) (n : ℕ) (j : Instruction) → From code n (j ∷ is) → From code (n + 1) is
next_from code is n j h k i e = let at : n + suc k ≡ n + 1 + k =
    omega arith in subst (λ m. Has code m i) at (h (suc k) i e)

first_from : (code is : List Instruction) (n : ℕ) (i : Instruction) → From code n (i ∷ is) → Has code n i
first_from code is n i h = let at : n + 0 ≡ n = omega arith in subst (λ m. Has code m i) at (h 0 i refl)

found_as : (code : List Instruction) (n next : ℕ) (a : Option Access) (i : Instruction) (is more : List Instruction)
    → From code n (front next a i ∷ is) → From code next (back next a ++ more) → StandAs code n next a i
found_as code n next None i is more f b = first_from code is n i f
found_as code n next (Some a) i is more f b = (
  first_from code is n _ f,
  first_from code (a.judged ∷ more) next _ b,
  first_from code more (next + 1) _ (next_from code (a.judged ∷ more) next _ b),
)

rest_from : (code : List Instruction) (next : ℕ) (a : Option Access) (more : List Instruction)
    → From code next (back next a ++ more) → From code (behind next a) more
rest_from code next None more b = b
rest_from code next (Some a) more b = λ k i h.
    let at : next + 1 + 1 + k ≡ next + 2 + k = omega arith in
    subst (λ m. Has code m i) at (next_from code more (next + 1) a.judged (next_from code (a.judged ∷ more) next _ b) k
    i h)

all_stand : (code : List Instruction) (n next : ℕ) (is : List Instruction) → From code n (fronts next is)
    → From code next (backs next is) → (k : ℕ) (i : Instruction) → Has is k i → StandsFor code (n + k) i
all_stand code n next [] f b k i h = cc
all_stand code n next (j ∷ is) f b zero i h =
    let e : j ≡ i = some_same h in
    let at : n ≡ n + 0 = omega arith in
    subst (λ m. StandsFor code m i) at
    (subst (λ x. StandsFor code n x) e (stands_for code n next j (found_as code n next (access_of j) j _ _ f b)))
  where
    some_same : {x y : Instruction} → Some x ≡ Some y → x ≡ y
    some_same e = cc
all_stand code n next (j ∷ is) f b (suc k) i h =
    let at : n + 1 + k ≡ n + suc k = omega arith in
    subst (λ m. StandsFor code m i) at
    (all_stand code (n + 1) (behind next (access_of j)) is (next_from code _ n (front next (access_of j) j) f)
    (rest_from code next (access_of j) _ b) k i h)

pub front_length : (next : ℕ) (is : List Instruction) → length (fronts next is) ≡ length is
front_length next [] = refl
front_length next (i ∷ is) = ap suc (front_length (behind next (access_of i)) is)

get_front : (xs ys : List Instruction) (k : ℕ) (i : Instruction) → Has xs k i → Has (xs ++ ys) k i
get_front [] ys k i h = cc
get_front (x ∷ xs) ys zero i h = h
get_front (x ∷ xs) ys (suc k) i h = get_front xs ys k i h

get_back : (xs ys : List Instruction) (k : ℕ) (i : Instruction) → Has ys k i → Has (xs ++ ys) (length xs + k) i
get_back [] ys k i h = let at : k ≡ 0 + k = omega arith in subst (λ m. Has ys m i) at h
get_back (x ∷ xs) ys k i h = let at : suc (length xs + k) ≡ length (x ∷ xs) + k = omega arith in
    subst (λ m. Has (x ∷ xs ++ ys) m i) at (get_back xs ys k i h)

-- all that stands in a list

abbrev Each : (Instruction → Type 0) → List Instruction → Type 0
Each P [] = Unit {0}
Each P (i ∷ is) = P i × Each P is

each_get : (P : Instruction → Type 0) (is : List Instruction) → Each P is → (k : ℕ) (i : Instruction) → Has is k i → P i
each_get P [] h k i e = cc
each_get P (j ∷ is) h zero i e = subst P (some_same e) h.0
  where
    some_same : {x y : Instruction} → Some x ≡ Some y → x ≡ y
    some_same e = cc
each_get P (j ∷ is) h (suc k) i e = each_get P is h.1 k i e

each_and : (P : Instruction → Type 0) (xs ys : List Instruction) → Each P xs → Each P ys → Each P (xs ++ ys)
each_and P [] ys h g = g
each_and P (x ∷ xs) ys h g = (h.0, each_and P xs ys h.1 g)

need_front : (code : List Instruction) (n next : ℕ) (a : Option Access) (i : Instruction) → Has code n i
    → FewIn a (temporaries i) → NeedsNoMore code (front next a i)
need_front code n next None i h f = record {
  node = n;
  other = i;
  has = h;
  most = omega arith;
  structures = λ t k. omega arith;
}
need_front code n next (Some a) i h f = record {
  node = n;
  other = i;
  has = h;
  most = f.0;
  structures = λ t k. omega arith;
}

need_back : (code : List Instruction) (n next : ℕ) (a : Option Access) (i : Instruction) → Has code n i
    → FewIn a (temporaries i) → Each (NeedsNoMore code) (back next a)
need_back code n next None i h f = tt
need_back code n next (Some a) i h f = (
  record { node = n; other = i; has = h; most = f.0; structures = λ t k. omega arith },
  (
    record { node = n; other = i; has = h; most = f.1; structures = λ t k. omega (arith, f.2 t k) },
    tt,
  ),
)

need_fronts : (code : List Instruction) (n next : ℕ) (is : List Instruction) → From code n is
    → Each (NeedsNoMore code) (fronts next is)
need_fronts code n next [] f = tt
need_fronts code n next (i ∷ is) f = (
  need_front code n next (access_of i) i (first_from code is n i f) (few i),
  need_fronts code (n + 1) (behind next (access_of i)) is (next_from code is n i f),
)

need_backs : (code : List Instruction) (n next : ℕ) (is : List Instruction) → From code n is
    → Each (NeedsNoMore code) (backs next is)
need_backs code n next [] f = tt
need_backs code n next (i ∷ is) f =
    each_and (NeedsNoMore code) (back next (access_of i)) _
    (need_back code n next (access_of i) i (first_from code is n i f) (few i))
    (need_backs code (n + 1) (behind next (access_of i)) is (next_from code is n i f))

sum_and : (f : Instruction → ℕ) (xs ys : List Instruction) → sum_over f (xs ++ ys) ≡ sum_over f xs + sum_over f ys
sum_and f [] ys = omega arith
sum_and f (x ∷ xs) ys = omega (arith, sum_and f xs ys)

count_all : (next : ℕ) (is : List Instruction)
    → sum_over is_check (fronts next is) + sum_over is_check (backs next is)
    ≡ sum_over is_check is + sum_over checks_needed is
count_all next [] = omega arith
count_all next (i ∷ is) =
    let more = behind next (access_of i) in
    let one = count_one next i in
    let rest = count_all more is in
    let split = sum_and is_check (back next (access_of i)) (backs more is) in
    omega (arith, one, rest, split)

-- a function

count_in : (code : List Instruction)
    → sum_over is_check (with_checks code) ≡ sum_over is_check code + sum_over checks_needed code
count_in code = sum_and is_check (fronts (length code) code) _ ∙ count_all (length code) code

function_in : (c : CodeFunction) → FunctionIn c (checked_function c)
function_in c = record {
  size =
      let next = length c.code in
      omega (
        arith,
        length-append (fronts next c.code) (backs next c.code),
        front_length next c.code,
        backs_length next c.code,
      );
  code = λ n i h.
      let next = length c.code in
      let heads : From (with_checks c.code) 0 (fronts next c.code) = λ k j e.
      let at : k ≡ 0 + k = omega arith in
      subst (λ m. Has (with_checks c.code) m j) at (get_front (fronts next c.code) _ k j e) in
      let tails : From (with_checks c.code) next (backs next c.code) = λ k j e. subst
      (λ m. Has (with_checks c.code) (m + k) j) (front_length next c.code)
      (get_back (fronts next c.code) (backs next c.code) k j e) in
      let at : 0 + n ≡ n = omega arith in
      subst (λ m. StandsFor (with_checks c.code) m i) at
      (all_stand (with_checks c.code) 0 next c.code heads tails n i h);
  homes = λ n i h.
      let next = length c.code in
      let itself : From c.code 0 c.code = λ k j e.
      let at : k ≡ 0 + k = omega arith in
      subst (λ m. Has c.code m j) at e in
      each_get (NeedsNoMore c.code) (with_checks c.code)
      (each_and (NeedsNoMore c.code) (fronts next c.code) (backs next c.code) (need_fronts c.code 0 next c.code itself)
      (need_backs c.code 0 next c.code itself)) n i h;
  loops = refl;
}

-- a program

headers : (cs : List CodeFunction) → map header_of_code (map checked_function cs) ≡ map header_of_code cs
headers [] = refl
headers (c ∷ cs) = ap (λ hs. header_of_code c ∷ hs) (headers cs)

functions_in : (cs : List CodeFunction) (u : ℕ) → InsertedAt (slice_get cs u) (slice_get (map checked_function cs) u)
functions_in [] u = tt
functions_in (c ∷ cs) zero = function_in c
functions_in (c ∷ cs) (suc u) = functions_in cs u

without_all : (code : List Instruction) (ls : List CountedLoop)
    → map without_added (map (with_added code) ls) ≡ map without_added ls
without_all code [] = refl
without_all code (l ∷ ls) = ap (λ m. without_added l ∷ m) (without_all code ls)

same_functions : (cs : List CodeFunction) (u : ℕ) → SameAt (slice_get cs u) (slice_get (map checked_function cs) u)
same_functions [] u = tt
same_functions (c ∷ cs) zero = record {
  header = refl;
  entry = refl;
  keys = refl;
  blocks = refl;
  loops = without_all c.code c.loops;
}
same_functions (c ∷ cs) (suc u) = same_functions cs u

counts : (cs : List CodeFunction)
    → sum_of_functions is_check (map checked_function cs)
    ≡ sum_of_functions is_check cs + sum_of_functions checks_needed cs
counts [] = omega arith
counts (c ∷ cs) = omega (arith, count_in c.code, counts cs)

pub inserted : (t : Tac) → Inserted t (checked_program t)
inserted t = record {
  tables = record {
    headers = headers t.functions;
    results = refl;
    main = refl;
    statics = refl;
    bytes = refl;
    texts = refl;
    functions = same_functions t.functions;
  };
  functions = functions_in t.functions;
  count = counts t.functions;
}

pub inserted_by : (t : Tac) (functions : List CodeFunction) (results : List Kind) (statics : List StaticData)
    (texts : List (List ℕ)) → functions ≡ map checked_function t.functions → results ≡ t.results → statics ≡ t.statics
    → texts ≡ t.texts → Inserted t (record {
      functions = functions;
      results = results;
      main = t.main;
      statics = statics;
      global_bytes = t.global_bytes;
      texts = texts;
    })
inserted_by t functions results statics texts f r s x =
    subst (λ fs. Inserted t (record t { functions = fs; results = results; statics = statics; texts = texts })) (sym f)
    (subst (λ rs. Inserted t (record (checked_program t) { results = rs; statics = statics; texts = texts })) (sym r)
    (subst (λ ss. Inserted t (record (checked_program t) { statics = ss; texts = texts })) (sym s)
    (subst (λ xs. Inserted t (record (checked_program t) { texts = xs })) (sym x) (inserted t))))
