-- The source that `work SEED COUNT` compiles: a structure, COUNT functions, each of one of four templates, and a `main`
-- that calls them in turn, each with what the one before gave, and prints what each gives.
use Rattle.std.specs.Prelude.{ℕ, zero, suc, ◌+◌, ◌*◌, ◌/◌, ◌%◌, ◌^◌, ◌==◌, if◌then◌else◌, List, [], ◌∷◌, ◌++◌}
use Rattle.std.specs.Prelude.{codes, decimal, flat_map}
use Rattle.command_line.specs.declared.generator.Template.{Template}
use Rattle.command_line.specs.declared.generator.Template.TheVariants.{LinkedList, Matrix, Strings, FunctionTable}

-- ---- what a seed draws

-- a state of the generator of 64 bits, which is linear and congruential, and the one after it
unfoldable pub next_state : ℕ → ℕ
next_state x = (x * 6364136223846793005 + 1442695040888963407) % 2 ^ 64

-- the state behind so many steps from a seed
abbrev pub state_after : (seed steps : ℕ) → ℕ
state_after seed zero = seed
state_after seed (suc n) = next_state (state_after seed n)

-- its highest 31 bits
abbrev pub drawn : (state : ℕ) → ℕ
drawn x = x / 2 ^ 33

abbrev pub template_numbered : ℕ → Template
template_numbered n =
    if n == 0 then LinkedList else (if n == 1 then Matrix else (if n == 2 then Strings else FunctionTable))

-- the template that a state draws, and how long the loops of its function are: 2 to 16
unfoldable pub template_of : (state : ℕ) → Template
template_of x = template_numbered (drawn x % 4)

unfoldable pub length_of : (state : ℕ) → ℕ
length_of x = 2 + drawn x / 4 % 15

-- ---- the text

-- The functions of each template, where an `I` stands for the number of the function and a `K` for the length of its
-- loops.
unfoldable pub template_text : Template → List ℕ
template_text LinkedList = codes "int fI(int a){struct n*h=0;int i;for(i=0;i<K;i++)" ++
    codes "{struct n*m=malloc(sizeof(struct n));m->v=a+i;m->q=h;h=m;}" ++
    codes "int s=0;while(h){struct n*m=h->q;s=s*3+h->v;free(h);h=m;}return s;}\n"
template_text Matrix = codes "int fI(int a){int x[K][K];int i;int j;int s=0;" ++
    codes "for(i=0;i<K;i++)for(j=0;j<K;j++)x[i][j]=a+i*j;" ++
    codes "for(i=0;i<K;i++)for(j=0;j<K;j++)s=s+x[i][j]*x[j][i];return s;}\n"
template_text Strings = codes "int fI(int a){char b[64];char c[64];int i;for(i=0;i<K;i++)b[i]=97+(a+i&15);" ++
    codes "strcpy(c,b);strcat(c,b);return strlen(c)+strcmp(b,c);}\n"
template_text FunctionTable = codes "int gI(int a){return a*K+1;}\n" ++
    codes "int hI(int a){return a-K;}\n" ++
    codes "int fI(int a){int(*t[2])(int);int i;t[0]=gI;t[1]=hI;for(i=0;i<K;i++)a=t[i%2](a);return a;}\n"

-- what a byte of a template stands for: `I` is 73, `K` is 75
unfoldable pub byte_text : (number length byte : ℕ) → List ℕ
byte_text i k c = if c == 73 then decimal i else (if c == 75 then decimal k else c ∷ [])

abbrev pub filled : (number length : ℕ) → List ℕ → List ℕ
filled i k text = flat_map (byte_text i k) text

-- the functions that a state draws, with this number
abbrev pub function_text : (number state : ℕ) → List ℕ
function_text i x = filled i (length_of x) (template_text (template_of x))

-- those of the first numbers: the state takes a step before each
abbrev pub functions_text : (seed count : ℕ) → List ℕ
functions_text seed zero = []
functions_text seed (suc n) = functions_text seed n ++ function_text n (state_after seed (suc n))

-- the call of the function with a number, and what prints its result
unfoldable pub call_text : ℕ → List ℕ
call_text i = codes "s=f" ++ decimal i ++ codes "(s);printf(\"%d\\n\",s);"

abbrev pub calls_text : (count : ℕ) → List ℕ
calls_text zero = []
calls_text (suc n) = calls_text n ++ call_text n

-- how `main` begins, with the first argument
unfoldable pub start_text : (argument : ℕ) → List ℕ
start_text a = codes "int main(void){int s=" ++ decimal a ++ codes ";"

-- the first argument is the seed modulo 1000
unfoldable pub main_text : (seed count : ℕ) → List ℕ
main_text seed count = start_text (seed % 1000) ++ calls_text count ++ codes "return 0;}\n"

-- the whole
unfoldable pub work_source : (seed count : ℕ) → List ℕ
work_source seed count =
    codes "struct n{int v;struct n*q;};\n" ++ functions_text seed count ++ main_text seed count
