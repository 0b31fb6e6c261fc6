-- Functions (C99 6.9.1, 6.7.5.3): names, parameters, bodies.
use Rattle.std.specs.Prelude.{ℕ, zero, suc, Bool, true, false, Option, Some, None, option_map, List, [], ◌∷◌, ◌++◌, length, nat_eq, if◌then◌else◌}
use Rattle.pk_ast.specs.declared.expressions.Identifier.{Identifier}
use Rattle.pk_ast.specs.Trees.{BlockTree, ParameterTree, FunctionTree}
use Rattle.pk_typed.specs.Trees.{BodyTree, ItemTrees}
use Rattle.pk_type_scope.specs.declared.declarations.Callee.{Callee}
use Rattle.pk_type_scope.specs.declared.declarations.Callee.TheVariants.{Ordinary}
use Rattle.pk_type_scope.specs.declared.declarations.Declaration.{Declaration}
use Rattle.pk_type_scope.specs.declared.declarations.Declaration.TheVariants as declared
use Rattle.pk_type_scope.specs.declared.declarations.Typing.{Typing}
use Rattle.pk_type_scope.specs.Scopes.{spelled}
use Rattle.pk_type_scope.specs.Specifiers.{type_named}
use Rattle.pk_type_declaration.specs.Declarations.{words_of, type_or_int, text_of, after_object}
use Rattle.pk_type_declaration.specs.Specials.{special}
use Rattle.pk_type_declaration.specs.Walks.{Walked, here, finding, after_name, with_local, entering}
use Rattle.pk_type_jump.specs.Labels.{labels_of}
use Rattle.pk_type_statement.specs.Statements.{Passed, after_items}
use Rattle.pk_type_statement.specs.Trees.{typed_items}
use Rattle.pk_type.specs.Files.{EntryTree, Filed, UnitChecks, on}
use Rattle.pk_type.specs.Signatures.{SignatureTree, signature_of}

-- Parameters.

-- one without a name
abbrev pub unnamed : {F : Type 0} → UnitChecks F → ParameterTree → Walked F → Walked F
unnamed c p w =
    let t = type_named (here w) p.specifiers in
    with_local (record { name = None; int_type = type_or_int t; length = None })
    (finding (c.parameter t p.specifiers.first.at) w)

abbrev pub after_parameter_name : {F : Type 0} → UnitChecks F → ParameterTree → Option Identifier → Walked F → Walked F
after_parameter_name c p None w = unnamed c p w
after_parameter_name c p (Some x) w =
    after_object c.statements.declarations (words_of (here w) p.specifiers) false None x w

abbrev pub after_parameter : {F : Type 0} → UnitChecks F → ParameterTree → Walked F → Walked F
after_parameter c p w = after_parameter_name c p p.name (finding (c.words (here w) p) w)

unfoldable pub after_parameters : {F : Type 0} → UnitChecks F → List ParameterTree → Walked F → Walked F
after_parameters c [] w = w
after_parameters c (p ∷ ps) w = after_parameters c ps (after_parameter c p w)

-- A function by its name.

-- the number of a function: that of its first declaration
abbrev pub number_of : List EntryTree → Option Declaration → ℕ
number_of entries None = length entries
number_of entries (Some (declared.Object o)) = length entries
number_of entries (Some (declared.Enumerator n)) = length entries
number_of entries (Some (declared.TypeName t)) = length entries
number_of entries (Some (declared.Function f)) = f.number

abbrev pub ordinary : SignatureTree → Callee
ordinary s = Ordinary s.returns (length s.parameters)

-- a special name without a body in the text is a form of its own
abbrev pub callee_of : SignatureTree → Bool → Option Callee → Callee
callee_of s is_defined None = ordinary s
callee_of s is_defined (Some callee) = if is_defined then ordinary s else callee

-- an entry more, where the function is new
abbrev pub with_new : List EntryTree → ℕ → List ℕ → SignatureTree → List EntryTree
with_new entries n name s =
    if nat_eq n (length entries)
    then entries ++ record { name = name; signature = s; is_defined = false; body = None } ∷ [] else entries

abbrev pub and_entry : {F : Type 0} → ℕ → List ℕ → SignatureTree → Filed F → Filed F
and_entry n name s f = record { walked = f.walked; objects = f.objects; functions = with_new f.functions n name s }

-- with its entry, where it is new
abbrev pub after_head : {F : Type 0} → UnitChecks F → (List ℕ → Bool) → FunctionTree → Filed F → Filed F
after_head c defined f file =
    let w = file.walked in
    let s = signature_of (here w) f in
    let q = spelled w.scoping.text f.name in
    let n = number_of file.functions (here w f.name) in
    record {
      walked = after_name f.name (declared.Function
          (record { number = n; callee = callee_of s (defined q) (special q) }))
          (finding (c.head file.functions w.scoping f) w);
      objects = file.objects;
      functions = with_new file.functions n (text_of w.scoping f.name) s;
    }

-- Bodies.

abbrev pub before_body : {F : Type 0} → Walked F → Passed F
before_body w = record { walked = w; cases = []; has_default = false }

abbrev pub after_body : {F : Type 0} → UnitChecks F → Typing → BlockTree → Walked F → Walked F
after_body c returns b w =
    finding (c.jumps w.scoping.text b.items) (after_items c.statements returns (before_body w) b.items).walked

abbrev pub emptied : {F : Type 0} → Walked F → Walked F
emptied w = record { scoping = w.scoping; found = w.found; calls = []; locals = []; statics = w.statics }

abbrev pub body_of : {F : Type 0} → BlockTree → ℕ → ℕ → Walked F → ItemTrees → BodyTree
body_of b visible labels w items =
    record {
      opened = b.opened;
      closed = b.closed;
      locals = w.locals;
      visible = visible;
      labels = labels;
      calls = w.calls;
      items = items;
    }

abbrev pub body_at : {F : Type 0} → UnitChecks F → Typing → ℕ → BlockTree → Walked F → Option BodyTree
body_at c returns visible b w =
    let labels = labels_of w.scoping.text b.items in
    option_map (body_of b visible labels.count (after_body c returns b w))
    (typed_items c.statements returns labels.labels (before_body w) b.items)

-- a function's entry gets its body
abbrev pub with_body : Option BodyTree → EntryTree → EntryTree
with_body body e = record { name = e.name; signature = e.signature; is_defined = true; body = body }

abbrev pub update_at : ℕ → (EntryTree → EntryTree) → List EntryTree → List EntryTree
update_at n f [] = []
update_at zero f (e ∷ es) = f e ∷ es
update_at (suc n) f (e ∷ es) = e ∷ update_at n f es

abbrev pub defining : {F : Type 0} → ℕ → Option BodyTree → Filed F → Filed F
defining n body f =
    record { walked = f.walked; objects = f.objects; functions = update_at n (with_body body) f.functions }

-- after a function its scope is left, and its calls and objects are its own
abbrev pub leaving_function : {F : Type 0} → Filed F → Filed F → Filed F
leaving_function before f = record {
  walked = record {
    scoping = before.walked.scoping;
    found = f.walked.found;
    calls = [];
    locals = [];
    statics = f.walked.statics;
  };
  objects = f.objects;
  functions = f.functions;
}

abbrev pub after_optional_body : {F : Type 0} → UnitChecks F → Typing → ℕ → Option BlockTree → Filed F → Filed F
after_optional_body c returns n None f = f
after_optional_body c returns n (Some b) f =
    defining n (body_at c returns (length f.objects) b f.walked) (on (λ w. emptied (after_body c returns b w)) f)

-- parameters are in the scope of the body
unfoldable pub after_function : {F : Type 0} → UnitChecks F → (List ℕ → Bool) → FunctionTree → Filed F → Filed F
after_function c defined f file =
    let n = number_of file.functions (here file.walked f.name) in
    let h = after_head c defined f file in
    leaving_function h (after_optional_body c (type_named (here file.walked) f.specifiers) n f.body
    (on (after_parameters c f.parameters) (on entering h)))
