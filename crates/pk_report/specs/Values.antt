-- The lines of what is known at a point.
use Rattle.std.specs.Prelude.{ℕ, ◌+◌, ◌-◌, ◌*◌, ◌^◌, ◌<◌, ℤ, pos, negsuc, ◌≤ℤ◌, ◌+ℤ◌, ◌-ℤ◌, int_lt, if◌then◌else◌, List, [], ◌∷◌, ◌++◌, codes, length, Option, Some, None, unwrap_or}
use Rattle.std.specs.Fmt.{decimal, signed_decimal}
use Rattle.std.specs.List.{flat_map, filter, range_with_len}
use Rattle.pk_report.specs.declared.octagons.Bounds.{Bounds}
use Rattle.pk_report.specs.declared.values.Subject.{Subject}
use Rattle.pk_report.specs.declared.values.Subject.TheVariants.{Scalar, Array, Element}
use Rattle.pk_graph.specs.Kinds.{count_of}
use Rattle.pk_graph.specs.Graphs.{GraphOf, variable_at}
use Rattle.pk_interval.specs.Ranges.{Range}
use Rattle.pk_congr.specs.Classes.{Class}
use Rattle.pk_value.specs.Known.{Known}
use Rattle.pk_octagons.specs.Packs.{is_chosen}
use Rattle.pk_octagons.specs.Values.{known_at}
use Rattle.pk_state.specs.Layouts.{Layout, is_spread, slot_of}
use Rattle.pk_state.specs.Facts.{Facts}
use Rattle.pk_state.specs.Changes.{known_in, bound_in}

abbrev pub name_of : GraphOf → ℕ → List ℕ
name_of g x = unwrap_or (variable_at g x).name []

-- what stands behind a name: `[]` of an array, `[i]` of an element
abbrev pub mark_of : Subject → List ℕ
mark_of Scalar = []
mark_of Array = codes "[]"
mark_of (Element i) = codes "[" ++ decimal i ++ codes "]"

abbrev pub range_text : Range → List ℕ
range_text r = codes " [" ++ signed_decimal r.lo ++ codes "," ++ signed_decimal r.hi ++ codes "] "

abbrev pub class_text : Class → List ℕ
class_text c = signed_decimal c.m ++ codes "Z+" ++ signed_decimal c.r ++ codes "\n"

-- `  NAME [lo,hi] mZ+r`, an array as `  NAME[] [lo,hi] mZ+r`, an element as `  NAME[i] [lo,hi] mZ+r`
abbrev pub value_text : List ℕ → Subject → Known → List ℕ
value_text name s k = codes "  " ++ name ++ mark_of s ++ range_text k.range ++ class_text k.class

abbrev pub subject_of : (length : Option ℕ) → Subject
subject_of None = Scalar
subject_of (Some n) = Array

abbrev pub whole_line : GraphOf → Facts → ℕ → List ℕ
whole_line g f x = value_text (name_of g x) (subject_of (variable_at g x).kind.length) (known_at f.values x)

abbrev pub element_line : GraphOf → Layout → Facts → ℕ → ℕ → List ℕ
element_line g l f x i = value_text (name_of g x) (Element i) (known_at f.values (slot_of l x i))

-- how many numbers a variable has
abbrev pub numbers_of : GraphOf → ℕ → ℕ
numbers_of g x = count_of (variable_at g x).kind.length

-- a line for each number of a variable, if each has a slot, else one for the variable
abbrev pub value_lines : GraphOf → Layout → Facts → ℕ → List ℕ
value_lines g l f x =
    if is_spread l x then flat_map (element_line g l f x) (range_with_len 0 (numbers_of g x)) else whole_line g f x

-- each variable, and each of its numbers, has a slot
pub record HasSlots (g : GraphOf) (l : Layout) : Type 0 where
  pub further : (x : ℕ) → x < length g.variables → x < length l.further
  pub own : (x : ℕ) → x < length g.variables → x < length l.types
  pub there : (x i : ℕ) → x < length g.variables → i < numbers_of g x → slot_of l x i < length l.types

-- those of the variables that an octagon is over
abbrev pub related : Layout → List ℕ → List ℕ
related l = filter (is_chosen l.packs)

-- `  FORM <= c`, only where c is less than what the intervals give
abbrev pub bound_text : List ℕ → (limit : ℤ) → Option ℤ → List ℕ
bound_text form limit None = []
bound_text form limit (Some c) =
    if int_lt c limit then codes "  " ++ form ++ codes " <= " ++ signed_decimal c ++ codes "\n" else []

-- the four forms of two variables, with their bounds
abbrev pub pair_text : (x y : List ℕ) → (kx ky : Known) → Bounds → List ℕ
pair_text x y kx ky b =
    bound_text (x ++ codes " - " ++ y) (kx.range.hi -ℤ ky.range.lo) b.minus
    ++ bound_text (y ++ codes " - " ++ x) (ky.range.hi -ℤ kx.range.lo) b.turned
    ++ bound_text (x ++ codes " + " ++ y) (kx.range.hi +ℤ ky.range.hi) b.plus
    ++ bound_text (codes "-" ++ x ++ codes " - " ++ y) ((pos 0 -ℤ kx.range.lo) -ℤ ky.range.lo) b.negated

-- V(j) - V(i) is at most bound i j, and V(2x) is variable x, V(2x + 1) its negative.
abbrev pub bounds_of : (bound : ℕ → ℕ → Option ℤ) → (x y : ℕ) → Bounds
bounds_of bound x y = record {
  minus = bound (2 * y) (2 * x);
  turned = bound (2 * x) (2 * y);
  plus = bound (2 * y + 1) (2 * x);
  negated = bound (2 * y) (2 * x + 1);
}

-- the least bounds of the octagons that are over both
abbrev pub pair_lines : GraphOf → Layout → Facts → ℕ → ℕ → List ℕ
pair_lines g l f x y =
    pair_text (name_of g x) (name_of g y) (known_at f.values x) (known_at f.values y)
    (bounds_of (bound_in l (Some f)) x y)

-- each pair, the one before the other in the list
abbrev pub of_pairs : (ℕ → ℕ → List ℕ) → List ℕ → List ℕ
of_pairs line [] = []
of_pairs line (x ∷ xs) = flat_map (line x) xs ++ of_pairs line xs

-- of the visible variables
abbrev pub facts_lines : GraphOf → Layout → Option Facts → List ℕ → List ℕ
facts_lines g l None xs = codes "  unreachable\n"
facts_lines g l (Some f) xs = flat_map (value_lines g l f) xs ++ of_pairs (pair_lines g l f) (related l xs)

-- ---- where there may be no facts

abbrev pub value_text_if : List ℕ → Subject → Option Known → List ℕ
value_text_if name s None = []
value_text_if name s (Some k) = value_text name s k

abbrev pub whole_line_if : GraphOf → Option Facts → ℕ → List ℕ
whole_line_if g o x = value_text_if (name_of g x) (subject_of (variable_at g x).kind.length) (known_in o x)

abbrev pub element_line_if : GraphOf → Layout → Option Facts → ℕ → ℕ → List ℕ
element_line_if g l o x i = value_text_if (name_of g x) (Element i) (known_in o (slot_of l x i))

abbrev pub elements_lines_if : GraphOf → Layout → Option Facts → ℕ → List ℕ
elements_lines_if g l o x = flat_map (element_line_if g l o x) (range_with_len 0 (numbers_of g x))

abbrev pub value_lines_if : GraphOf → Layout → Option Facts → ℕ → List ℕ
value_lines_if g l o x = if is_spread l x then elements_lines_if g l o x else whole_line_if g o x

abbrev pub pair_lines_if : GraphOf → Layout → Option Facts → ℕ → ℕ → List ℕ
pair_lines_if g l None x y = []
pair_lines_if g l (Some f) x y = pair_lines g l f x y

-- bounds that no type passes
pub record IsSmall (k : Known) : Type 0 where
  pub lo_from : negsuc (2 ^ 63 - 1) ≤ℤ k.range.lo
  pub lo_to : k.range.lo ≤ℤ pos (2 ^ 64 - 1)
  pub hi_from : negsuc (2 ^ 63 - 1) ≤ℤ k.range.hi
  pub hi_to : k.range.hi ≤ℤ pos (2 ^ 64 - 1)
