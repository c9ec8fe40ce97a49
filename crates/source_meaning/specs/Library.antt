-- The library (C99 7.19, 7.20.3, 7.20.4, 7.21). A routine judges all that it looks at before its first write.
use Rattle.std.specs.Prelude.{ℕ, ◌+◌, ◌-◌, ◌%◌, ◌^◌, List, [], ◌∷◌, get_or}
use Rattle.sb_base.specs.declared.ending.Ending.TheVariants.{Exit as ExitWith, Abort as AbortAt}
use Rattle.obj_memory.specs.declared.value.Value.{Value}
use Rattle.c_tree.specs.declared.expression.Routine.{Routine}
use Rattle.c_tree.specs.declared.expression.Routine.TheVariants.{Malloc, Calloc, Free, Realloc, Memcpy, Memmove, Memset}
use Rattle.c_tree.specs.declared.expression.Routine.TheVariants.{Memcmp, Strlen, Strcmp, Strcpy, Strncpy, Strcat}
use Rattle.c_tree.specs.declared.expression.Routine.TheVariants.{Strchr, Putchar, Getchar, Puts, Exit, Abort}
use Rattle.source_meaning.specs.State.{State, Outcome, Gives, Run, ◌>>◌, done, stop, Setting}
use Rattle.source_meaning.specs.Actions.{integer, int_of, put_bytes}
use Rattle.source_meaning.specs.Heap.{malloc, calloc, free, realloc}
use Rattle.source_meaning.specs.Memory.{memcpy, memmove, memset, memcmp}
use Rattle.source_meaning.specs.Strings.{strlen, strcmp, strcpy, strncpy, strcat, strchr}
use Rattle.source_meaning.specs.Printing.{puts}

-- one byte is put out, the value converted to unsigned char, and given (7.19.7.9)
abbrev pub putchar : Value → Run Value
putchar c = do
  put_bytes (c.word % 256 ∷ [])
  done (integer (c.word % 256))

-- the next byte of the input, an unsigned char, or EOF, -1, at its end (7.19.7.1, 7.19.7.6); no work but the call's
abbrev pub next_byte : List ℕ → State → Outcome Value
next_byte [] s = Gives (integer (2 ^ 64 - 1)) s
next_byte (b ∷ bs) s = Gives (integer (b % 256)) (record s { input = bs; taken = s.taken + 1 })

abbrev pub getchar : Run Value
getchar = λ s. next_byte s.input s

abbrev pub exit : Value → Run Value
exit status = stop (ExitWith (int_of status.word))

abbrev pub abort : (line : ℕ) → Run Value
abort line = stop (AbortAt line)

abbrev pub argument : ℕ → List Value → Value
argument k vs = get_or vs k (integer 0)

-- what a routine does with its arguments, at the line of the call
abbrev pub routine : Setting → Routine → List Value → (line : ℕ) → Run Value
routine g Malloc vs line = malloc g (argument 0 vs) line
routine g Calloc vs line = calloc g (argument 0 vs) (argument 1 vs) line
routine g Free vs line = free (argument 0 vs) line
routine g Realloc vs line = realloc g (argument 0 vs) (argument 1 vs) line
routine g Memcpy vs line = memcpy (argument 0 vs) (argument 1 vs) (argument 2 vs) line
routine g Memmove vs line = memmove (argument 0 vs) (argument 1 vs) (argument 2 vs) line
routine g Memset vs line = memset (argument 0 vs) (argument 1 vs) (argument 2 vs) line
routine g Memcmp vs line = memcmp (argument 0 vs) (argument 1 vs) (argument 2 vs) line
routine g Strlen vs line = strlen (argument 0 vs) line
routine g Strcmp vs line = strcmp (argument 0 vs) (argument 1 vs) line
routine g Strcpy vs line = strcpy (argument 0 vs) (argument 1 vs) line
routine g Strncpy vs line = strncpy (argument 0 vs) (argument 1 vs) (argument 2 vs) line
routine g Strcat vs line = strcat (argument 0 vs) (argument 1 vs) line
routine g Strchr vs line = strchr (argument 0 vs) (argument 1 vs) line
routine g Putchar vs line = putchar (argument 0 vs)
routine g Getchar vs line = getchar
routine g Puts vs line = puts (argument 0 vs) line
routine g Exit vs line = exit (argument 0 vs)
routine g Abort vs line = abort line
