-- The first declaration of members.
use Rattle.std.proofs.Common.{◌≡◌, ℕ, List, [], ◌∷◌, map, length, Ok, Err, refl}
use Rattle.c_syntax.specs.declared.tree.Member as rm
use Rattle.c_syntax.specs.Tree.{Member, Members}
use Rattle.c_syntax.specs.Tree as t
use Rattle.c_syntax.specs.View.{member_of, members_of}
use Rattle.c_syntax.specs.Words.{Words}
use Rattle.c_grammar.specs.Reader.{Outcome, ◌>>=◌, up_to_brace}
use Rattle.c_grammar.specs.Readers.{Readers}
use Rattle.c_grammar.specs.SpecifierReader.{member_from, members_from}
use Rattle.c_grammar.specs.Reads.{Fails}
use Rattle.c_grammar.specs.declared.cursor.Fault.{Fault}
use Rattle.c_grammar.specs.declared.cursor.Fault.TheVariants.{Memory, Refused}
use Rattle.c_grammar.proofs.Extending.{extending}

-- a list that is read as members
abbrev pub members_read : Outcome (List Member) → Outcome Members
members_read o = o >>= λ z i. Ok (members_of z, i)

first_read : (x : Member) (o : Outcome (List Member)) → (o >>= λ z i. Ok (t.members x (members_of z), i))
    ≡ members_read (extending (x ∷ []) o)
first_read x (Ok z) = refl
first_read x (Err e) = refl

pub members_start : (names : List (List ℕ)) (deeper : Readers) (levels : ℕ) (x : rm.Member) (i j : Words)
    → member_from names deeper levels i ≡ Ok (member_of x, j)
    → members_from names deeper levels i ≡ members_read (extending (map member_of (x ∷ []))
    (up_to_brace (member_from names deeper levels) (length j) j))
unfolding members_from
members_start names deeper levels x i j one =
    rw one (first_read (member_of x) (up_to_brace (member_from names deeper levels) (length j) j))

-- the first is refused
pub members_fail : (names : List (List ℕ)) (deeper : Readers) (levels : ℕ) (i new : Words) (e : Fault)
    → Fails (member_from names deeper levels i) e new → Fails (members_from names deeper levels i) e new
unfolding members_from
members_fail names deeper levels i new Memory one = tt
members_fail names deeper levels i new Refused one = rw one refl
