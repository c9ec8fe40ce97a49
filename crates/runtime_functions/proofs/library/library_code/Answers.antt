use Rattle.std.proofs.Common.{◌+◌, ap, arith}
use Rattle.std.proofs.lemmas.Result.{IfOk-weaker}
use Rattle.runtime_functions.specs.declared.library.LibraryFunction.TheVariants.{Malloc, Calloc, Free, Realloc, Memcpy}
use Rattle.runtime_functions.specs.declared.library.LibraryFunction.TheVariants.{Memmove, Memset, Memcmp, Strlen, Strcmp}
use Rattle.runtime_functions.specs.declared.library.LibraryFunction.TheVariants.{Strcpy, Strncpy, Strcat, Strchr, Puts}
use Rattle.runtime_functions.specs.declared.runtime.RuntimeFunction.TheVariants.{Library}
use Rattle.runtime_functions.proofs.LibraryCalls.{standing, code_of_same, within}
use Rattle.runtime_functions.proofs.library.library_code.Goals as goal

pub returns-in-Malloc-clause-code : goal.returns-in-Malloc-clause-code
returns-in-Malloc-clause-code g c =
    IfOk-weaker _ _ _ (λ r h. code_of_same _ _ _ _ _ Malloc _ c.in-Malloc.is (record { does = h })) c.malloc.ensures.does

pub returns-in-Calloc-clause-code : goal.returns-in-Calloc-clause-code
returns-in-Calloc-clause-code g c =
    IfOk-weaker _ _ _ (λ r h. code_of_same _ _ _ _ _ Calloc _ c.in-Calloc.is (record { does = h })) c.calloc.ensures.does

pub returns-in-Free-clause-code : goal.returns-in-Free-clause-code
returns-in-Free-clause-code g c =
    IfOk-weaker _ _ _ (λ r h. code_of_same _ _ _ _ _ Free _ c.in-Free.is (standing _ _ _ Free _ _ (λ set. h))) c.free.ensures.does

pub returns-in-Realloc-clause-code : goal.returns-in-Realloc-clause-code
returns-in-Realloc-clause-code g c =
    IfOk-weaker _ _ _ (λ r h. code_of_same _ _ _ _ _ Realloc _ c.in-Realloc.is (record { does = h })) c.realloc.ensures.does

pub returns-in-Memcpy-clause-code : goal.returns-in-Memcpy-clause-code
returns-in-Memcpy-clause-code g c =
    IfOk-weaker _ _ _ (λ r h. code_of_same _ _ _ _ _ Memcpy _ c.in-Memcpy.is (standing _ _ _ Memcpy _ _ (λ set. h))) c.memmove.ensures.memcpy

pub returns-in-Memmove-clause-code : goal.returns-in-Memmove-clause-code
returns-in-Memmove-clause-code g c =
    IfOk-weaker _ _ _ (λ r h. code_of_same _ _ _ _ _ Memmove _ c.in-Memmove.is (standing _ _ _ Memmove _ _ (λ set. h))) c.memmove-in-Memmove.ensures.memmove

pub returns-in-Memset-clause-code : goal.returns-in-Memset-clause-code
returns-in-Memset-clause-code g c =
    IfOk-weaker _ _ _ (λ r h. code_of_same _ _ _ _ _ Memset _ c.in-Memset.is (standing _ _ _ Memset _ _ (λ set. h))) c.memset.ensures.does

pub returns-in-Memcmp-clause-code : goal.returns-in-Memcmp-clause-code
returns-in-Memcmp-clause-code g c =
    IfOk-weaker _ _ _ (λ r h. code_of_same _ _ _ _ _ Memcmp _ c.in-Memcmp.is (standing _ _ _ Memcmp _ _ (λ set. h))) c.memcmp.ensures.does

pub returns-in-Strlen-clause-code : goal.returns-in-Strlen-clause-code
returns-in-Strlen-clause-code g c =
    IfOk-weaker _ _ _ (λ r h. code_of_same _ _ _ _ _ Strlen _ c.in-Strlen.is (standing _ _ _ Strlen _ _ (λ set. h))) c.strlen.ensures.does

pub returns-in-Strcmp-clause-code : goal.returns-in-Strcmp-clause-code
returns-in-Strcmp-clause-code g c =
    IfOk-weaker _ _ _ (λ r h. code_of_same _ _ _ _ _ Strcmp _ c.in-Strcmp.is (standing _ _ _ Strcmp _ _ (λ set. h))) c.strcmp.ensures.does

pub returns-in-Strcpy-clause-code : goal.returns-in-Strcpy-clause-code
returns-in-Strcpy-clause-code g c =
    IfOk-weaker _ _ _ (λ r h. code_of_same _ _ _ _ _ Strcpy _ c.in-Strcpy.is (standing _ _ _ Strcpy _ _ (λ set. h))) c.strcpy.ensures.does

pub returns-in-Strncpy-clause-code : goal.returns-in-Strncpy-clause-code
returns-in-Strncpy-clause-code g c =
    IfOk-weaker _ _ _ (λ r h. code_of_same _ _ _ _ _ Strncpy _ c.in-Strncpy.is (standing _ _ _ Strncpy _ _ (λ set. h))) c.strncpy.ensures.does

pub returns-in-Strcat-clause-code : goal.returns-in-Strcat-clause-code
returns-in-Strcat-clause-code g c =
    IfOk-weaker _ _ _ (λ r h. code_of_same _ _ _ _ _ Strcat _ c.in-Strcat.is (standing _ _ _ Strcat _ _ (λ set. h))) c.strcat.ensures.does

pub returns-in-Strchr-clause-code : goal.returns-in-Strchr-clause-code
returns-in-Strchr-clause-code g c =
    IfOk-weaker _ _ _ (λ r h. code_of_same _ _ _ _ _ Strchr _ c.in-Strchr.is (standing _ _ _ Strchr _ _ (λ set. h))) c.strchr.ensures.does

pub returns-in-Puts-clause-code : goal.returns-in-Puts-clause-code
returns-in-Puts-clause-code g c =
    IfOk-weaker _ _ _ (λ r h. code_of_same _ _ _ _ _ Puts _ c.in-Puts.is (standing _ _ _ Puts _ _ (λ set. h))) c.puts.ensures.does

pub returns-in-Malloc-clause-shape : goal.returns-in-Malloc-clause-shape
returns-in-Malloc-clause-shape g c = IfOk-weaker _ _ _
    (λ r h. within _ (Library Malloc) _ 160 (7 + 12) (ap Library c.in-Malloc.is) (omega arith) (omega arith) h) c.malloc.ensures.shape

pub returns-in-Calloc-clause-shape : goal.returns-in-Calloc-clause-shape
returns-in-Calloc-clause-shape g c = IfOk-weaker _ _ _
    (λ r h. within _ (Library Calloc) _ 176 (8 + 14) (ap Library c.in-Calloc.is) (omega arith) (omega arith) h) c.calloc.ensures.shape

pub returns-in-Free-clause-shape : goal.returns-in-Free-clause-shape
returns-in-Free-clause-shape g c = IfOk-weaker _ _ _
    (λ r h. within _ (Library Free) _ 72 (6 + 7) (ap Library c.in-Free.is) (omega arith) (omega arith) h) c.free.ensures.shape

pub returns-in-Realloc-clause-shape : goal.returns-in-Realloc-clause-shape
returns-in-Realloc-clause-shape g c = IfOk-weaker _ _ _
    (λ r h. within _ (Library Realloc) _ 384 (12 + 18) (ap Library c.in-Realloc.is) (omega arith) (omega arith) h) c.realloc.ensures.shape

pub returns-in-Memcpy-clause-shape : goal.returns-in-Memcpy-clause-shape
returns-in-Memcpy-clause-shape g c = IfOk-weaker _ _ _
    (λ r h. within _ (Library Memcpy) _ 160 (17 + 14) (ap Library c.in-Memcpy.is) (omega arith) (omega arith) h) c.memmove.ensures.shape

pub returns-in-Memmove-clause-shape : goal.returns-in-Memmove-clause-shape
returns-in-Memmove-clause-shape g c = IfOk-weaker _ _ _
    (λ r h. within _ (Library Memmove) _ 160 (17 + 14) (ap Library c.in-Memmove.is) (omega arith) (omega arith) h) c.memmove-in-Memmove.ensures.shape

pub returns-in-Memset-clause-shape : goal.returns-in-Memset-clause-shape
returns-in-Memset-clause-shape g c = IfOk-weaker _ _ _
    (λ r h. within _ (Library Memset) _ 32 (13 + 2) (ap Library c.in-Memset.is) (omega arith) (omega arith) h) c.memset.ensures.shape

pub returns-in-Memcmp-clause-shape : goal.returns-in-Memcmp-clause-shape
returns-in-Memcmp-clause-shape g c = IfOk-weaker _ _ _
    (λ r h. within _ (Library Memcmp) _ 64 (13 + 5) (ap Library c.in-Memcmp.is) (omega arith) (omega arith) h) c.memcmp.ensures.shape

pub returns-in-Strlen-clause-shape : goal.returns-in-Strlen-clause-shape
returns-in-Strlen-clause-shape g c = IfOk-weaker _ _ _
    (λ r h. within _ (Library Strlen) _ 24 (7 + 3) (ap Library c.in-Strlen.is) (omega arith) (omega arith) h) c.strlen.ensures.shape

pub returns-in-Strcmp-clause-shape : goal.returns-in-Strcmp-clause-shape
returns-in-Strcmp-clause-shape g c = IfOk-weaker _ _ _
    (λ r h. within _ (Library Strcmp) _ 64 (12 + 4) (ap Library c.in-Strcmp.is) (omega arith) (omega arith) h) c.strcmp.ensures.shape

pub returns-in-Strcpy-clause-shape : goal.returns-in-Strcpy-clause-shape
returns-in-Strcpy-clause-shape g c = IfOk-weaker _ _ _
    (λ r h. within _ (Library Strcpy) _ 72 (16 + 7) (ap Library c.in-Strcpy.is) (omega arith) (omega arith) h) c.strcpy.ensures.shape

pub returns-in-Strncpy-clause-shape : goal.returns-in-Strncpy-clause-shape
returns-in-Strncpy-clause-shape g c = IfOk-weaker _ _ _
    (λ r h. within _ (Library Strncpy) _ 80 (17 + 9) (ap Library c.in-Strncpy.is) (omega arith) (omega arith) h) c.strncpy.ensures.shape

pub returns-in-Strcat-clause-shape : goal.returns-in-Strcat-clause-shape
returns-in-Strcat-clause-shape g c = IfOk-weaker _ _ _
    (λ r h. within _ (Library Strcat) _ 96 (16 + 8) (ap Library c.in-Strcat.is) (omega arith) (omega arith) h) c.strcat.ensures.shape

pub returns-in-Strchr-clause-shape : goal.returns-in-Strchr-clause-shape
returns-in-Strchr-clause-shape g c = IfOk-weaker _ _ _
    (λ r h. within _ (Library Strchr) _ 48 (12 + 2) (ap Library c.in-Strchr.is) (omega arith) (omega arith) h) c.strchr.ensures.shape

pub returns-in-Puts-clause-shape : goal.returns-in-Puts-clause-shape
returns-in-Puts-clause-shape g c = IfOk-weaker _ _ _
    (λ r h. within _ (Library Puts) _ 32 (7 + 3) (ap Library c.in-Puts.is) (omega arith) (omega arith) h) c.puts.ensures.shape
