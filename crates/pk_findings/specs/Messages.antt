-- What is said of an operation that is unknown.
use Rattle.std.specs.Prelude.{ℕ, ℤ, ◌+◌, ◌-◌, ◌==◌, ◌&&◌, ◌||◌, Bool, true, false, not, if◌then◌else◌, List, [], ◌++◌, codes, length, take, drop, reverse, nat_lt, Option, Some, None}
use Rattle.std.specs.List.{take_while}
use Rattle.std.specs.Fmt.{decimal, signed_decimal}
use Rattle.pk_ctypes.specs.declared.faults.Fault.TheVariants.{Index, DivZero, Overflow, Shift, Assert}
use Rattle.pk_ctypes.specs.declared.faults.Fault.{Fault}
use Rattle.pk_ctypes.specs.declared.places.Pos.{Pos}
use Rattle.pk_lex.specs.Bytes.{is_part, begins_with}
use Rattle.pk_findings.specs.Texts.{TextOf, line_of}
use Rattle.pk_findings.specs.Operations.{OperationOf}

-- ---- what the text has there

-- the bytes of its line before a place, and those from there on
abbrev pub before_in : TextOf → Pos → List ℕ
before_in t at = take (at.column - 1) (line_of t at)

abbrev pub from_in : TextOf → Pos → List ℕ
from_in t at = drop (at.column - 1) (line_of t at)

-- the name that stands right before
unfoldable pub name_in : (front : List ℕ) → List ℕ
name_in front = drop (length front - length (take_while is_part (reverse front))) front

-- no bracket and no quote
abbrev pub is_plain : ℕ → Bool
is_plain b = not (b == 91 || b == 93 || b == 34 || b == 39)

-- a bracket, and what stands behind it up to a bracket or a quote
abbrev pub open_length : List ℕ → ℕ
open_length text = length (take_while is_plain (drop 1 text)) + 1

-- an index in its brackets; none where the line ends before, or other brackets or quotes stand in it
unfoldable pub index_in : List ℕ → List ℕ
index_in text =
    if begins_with 91 text && begins_with 93 (drop (open_length text) text) then take (open_length text + 1) text else
    []

abbrev pub is_quotient : TextOf → Pos → Bool
is_quotient t at = begins_with 47 (from_in t at) || begins_with 37 (from_in t at)

-- ---- messages

-- what may be out of bounds: the element, where the text has its name and its index there
abbrev pub is_element : (name index : List ℕ) → Bool
is_element name index = nat_lt 0 (length name) && nat_lt 0 (length index)

abbrev pub element_words : (name index : List ℕ) → List ℕ
element_words name index = name ++ (index ++ codes " may be out of bounds: the index is in ")

abbrev pub index_words : (is_element : Bool) → (name index : List ℕ) → List ℕ
index_words true name index = element_words name index
index_words false name index = codes "the index may be out of bounds: it lies in "

abbrev pub words_of : (name index : List ℕ) → List ℕ
words_of name index = index_words (is_element name index) name index

-- what the range is of, at / and % that of the dividend
abbrev pub overflow_words : (is_quotient : Bool) → List ℕ
overflow_words true = codes "the quotient may not fit its type: the divisor may be -1, and the dividend lies in "
overflow_words false = codes "the result may not fit its type: it lies in "

unfoldable pub wording : TextOf → Pos → Fault → List ℕ
wording t at Index = words_of (name_in (before_in t at)) (index_in (from_in t at))
wording t at DivZero = codes "the divisor may be 0: it lies in "
wording t at Overflow = overflow_words (is_quotient t at)
wording t at Shift = codes "the shift may be undefined: its count, left operand or result lies in "
wording t at Assert = codes "the assertion may fail: its value lies in "

unfoldable pub range_text : (lo hi : ℤ) → List ℕ
range_text lo hi = codes "[" ++ (signed_decimal lo ++ (codes "," ++ (signed_decimal hi ++ codes "]")))

unfoldable pub plural : ℕ → List ℕ
plural n = if n == 1 then codes " element" else codes " elements"

abbrev pub length_words : ℕ → List ℕ
length_words n = codes ", the array has " ++ (decimal n ++ plural n)

-- of an array whose length is known
abbrev pub elements_text : Option ℕ → List ℕ
elements_text None = []
elements_text (Some n) = length_words n

-- what is said of an operation that is unknown
unfoldable pub message : TextOf → OperationOf → (lo hi : ℤ) → List ℕ
message t o lo hi = wording t o.at o.fault ++ (range_text lo hi ++ elements_text o.elements)
