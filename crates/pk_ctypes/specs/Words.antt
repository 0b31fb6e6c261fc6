-- The printed words.
use Rattle.std.specs.Prelude.{ℕ, List, [], ◌∷◌, ◌++◌, codes}
use Rattle.std.specs.List.{flat_map}
use Rattle.pk_ctypes.specs.declared.faults.Fault.{Fault}
use Rattle.pk_ctypes.specs.declared.faults.Fault.TheVariants.{Index, DivZero, Overflow, Shift, Assert}
use Rattle.pk_ctypes.specs.declared.words.Construct.{Construct}
use Rattle.pk_ctypes.specs.declared.words.Construct.TheVariants as construct
use Rattle.pk_ctypes.specs.declared.words.Quantity.{Quantity}
use Rattle.pk_ctypes.specs.declared.words.Quantity.TheVariants.{Text, Nesting, Paths, Variables, Points, Packs}
use Rattle.pk_ctypes.specs.declared.words.Rule.{Rule}
use Rattle.pk_ctypes.specs.declared.words.Rule.TheVariants as rule

abbrev pub fault_text : Fault → List ℕ
fault_text Index = codes "index"
fault_text DivZero = codes "divzero"
fault_text Overflow = codes "overflow"
fault_text Shift = codes "shift"
fault_text Assert = codes "assert"

abbrev pub construct_text : Construct → List ℕ
construct_text construct.Float = codes "float"
construct_text construct.Double = codes "double"
construct_text construct.Bool = codes "_Bool"
construct_text construct.Complex = codes "_Complex"
construct_text construct.Imaginary = codes "_Imaginary"
construct_text construct.Struct = codes "struct"
construct_text construct.Union = codes "union"
construct_text construct.Enum = codes "enum"
construct_text construct.Typedef = codes "typedef"
construct_text construct.Volatile = codes "volatile"
construct_text construct.Restrict = codes "restrict"
construct_text construct.Inline = codes "inline"
construct_text construct.Register = codes "register"
construct_text construct.Auto = codes "auto"
construct_text construct.Sizeof = codes "sizeof"
construct_text construct.Asm = codes "asm"
construct_text construct.GnuAsm = codes "__asm__"
construct_text construct.GnuAttribute = codes "__attribute__"
construct_text construct.GnuExtension = codes "__extension__"
construct_text construct.GnuInline = codes "__inline"
construct_text construct.GnuRestrict = codes "__restrict"
construct_text construct.Static = codes "static"
construct_text construct.Dot = codes "."
construct_text construct.Ellipsis = codes "..."
construct_text construct.Arrow = codes "->"
construct_text construct.StringLiteral = codes "string"
construct_text construct.Floating = codes "floating"
construct_text construct.Directive = codes "directive"
construct_text construct.Pointer = codes "pointer"
construct_text construct.Brackets = codes "brackets"
construct_text construct.Arrays = codes "arrays"
construct_text construct.Designator = codes "designator"
construct_text construct.Later = codes "later"

abbrev pub rule_text : Rule → List ℕ
rule_text rule.Specifiers = codes "specifiers"
rule_text rule.Redeclared = codes "redeclared"
rule_text rule.Extern = codes "extern"
rule_text rule.Undeclared = codes "undeclared"
rule_text rule.Void = codes "void"
rule_text rule.Array = codes "array"
rule_text rule.Constant = codes "constant"
rule_text rule.Initialiser = codes "initialiser"
rule_text rule.Place = codes "place"
rule_text rule.Const = codes "const"
rule_text rule.Arguments = codes "arguments"
rule_text rule.Special = codes "special"
rule_text rule.Return = codes "return"
rule_text rule.Label = codes "label"
rule_text rule.Jump = codes "jump"
rule_text rule.Unsequenced = codes "unsequenced"

abbrev pub quantity_text : Quantity → List ℕ
quantity_text Text = codes "text"
quantity_text Nesting = codes "nesting"
quantity_text Paths = codes "paths"
quantity_text Variables = codes "variables"
quantity_text Points = codes "points"
quantity_text Packs = codes "packs"

-- names with a blank between each two
abbrev pub names_text : List (List ℕ) → List ℕ
names_text [] = []
names_text (name ∷ names) = name ++ flat_map (λ n. 32 ∷ n) names
