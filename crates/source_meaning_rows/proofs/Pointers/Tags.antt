-- `int x=66;int main(void){int**p;p=malloc(8);*p=&x;p=realloc(p,16);return **p;}`: the tag of a pointer moves with its
-- bytes.
-- The status is that of gcc (Debian 12.2.0) with `-std=c99 -fwrapv -funsigned-char`.
use Rattle.behaviours.specs.Shown.{Status}
use Rattle.c_tree.specs.Programs.{Program}
use Rattle.c_tree.specs.Statements.{return, value_content}
use Rattle.c_tree.specs.Tree as tree
use Rattle.c_tree.specs.Tree.{Expression, Lvalue}
use Rattle.c_tree.specs.ValidProgram.{is_valid_program}
use Rattle.c_tree.specs.declared.expression.Kind.{Kind}
use Rattle.sb_base.specs.Budgets.{default_sizes}
use Rattle.source_meaning.specs.Meaning.{meaning}
use Rattle.source_meaning_rows.proofs.LibrarySamples.{malloc, perform, plain, program_of, realloc, set}
use Rattle.source_meaning_rows.proofs.Samples.{at, computing, four, int, lvalue, number, one, plain_variable, pointer}
use Rattle.source_meaning_rows.proofs.Samples.{read}
use Rattle.std.proofs.Common.{◌≡◌, [], refl, true, false, Some, None}

p : Expression
p = plain 0

-- `*E` of some kind
target : Kind → Expression → Lvalue
target kind e = lvalue 1 kind (tree.deref (e))

program : Program
program = program_of
    (one (record {
      kind = int;
      is_literal = false;
      function = None;
      parts = one
          (record { offset = 0; content = value_content (number 1 66) });
    }))
    (one (plain_variable pointer))
    (four
    (set 0 (malloc 8))
    (perform (at 1 pointer
    (tree.assign (target pointer p) ((at 1 pointer (tree.address ((lvalue 1 int (tree.static 0)))))))))
    (set 0 (realloc p 16))
    (return (Some (read (target int (read (target pointer p)))))))

ending : (meaning program default_sizes [] 1).shown.ending ≡ Some (Status 66)
unfolding program target p computing
ending = refl

valid : is_valid_program program ≡ true
unfolding program target p computing
valid = refl
