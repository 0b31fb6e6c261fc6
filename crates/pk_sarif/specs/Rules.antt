-- The rules of a log (3.49): one for each kind of fault, with what is said of it.
use Rattle.std.specs.Prelude.{ℕ, List, codes}
use Rattle.pk_ctypes.specs.declared.faults.Fault.{Fault}
use Rattle.pk_ctypes.specs.declared.faults.Fault.TheVariants.{Index, DivZero, Overflow, Shift, Assert}
use Rattle.pk_ctypes.specs.Words.{fault_text}
use Rattle.serde_json.specs.Data.{Data, string, array, object, item, no_items, member, no_members}
use Rattle.pk_sarif.specs.Objects.{message}

unfoldable pub title : Fault → List ℕ
title Index = codes "The index may be out of bounds."
title DivZero = codes "The divisor may be 0."
title Overflow = codes "The result may not fit its type."
title Shift = codes "The shift may be undefined."
title Assert = codes "The assertion may fail."

unfoldable pub meaning : Fault → List ℕ
meaning Index = codes "The index of an array may be below 0 or not below the array's length."
meaning DivZero = codes "The right operand of / or % may be 0."
meaning Overflow = codes "The result of an operation on signed numbers may lie outside of its type."
meaning Shift = codes "The count may be out of range, or the left operand or the result unfit for its signed type."
meaning Assert = codes "The value that is asserted may be 0."

unfoldable pub help : Fault → List ℕ
help Index = codes "Find a run with such an index, or tell its limit: by a test, a narrower type or an assumption."
help DivZero = codes "Find a run with such a divisor, or tell its limit: by a test or an assumption."
help Overflow = codes "Find a run with such operands, or tell their limits: by tests, a wider type or assumptions."
help Shift = codes "Find a run with such operands, or tell their limits: by tests, an unsigned type or assumptions."
help Assert = codes "Find a run with such a value, or tell what limits it: by tests or assumptions."

abbrev pub level : Data
level = string (codes "warning")

abbrev pub configuration : Data
configuration = object (member (codes "level") level no_members)

abbrev pub rule : Fault → Data
rule f =
    object (member (codes "defaultConfiguration") configuration
    (member (codes "fullDescription") (message (meaning f))
    (member (codes "help") (message (help f))
    (member (codes "id") (string (fault_text f))
    (member (codes "shortDescription") (message (title f)) no_members)))))

abbrev pub rules : Data
rules =
    array (item (rule Index) (item (rule DivZero) (item (rule Overflow) (item (rule Shift)
    (item (rule Assert) no_items)))))

-- the tool (3.18, 3.19)
abbrev pub tool : Data
tool =
    object (member (codes "driver")
    (object (member (codes "name") (string (codes "Pikos")) (member (codes "rules") rules no_members))) no_members)
