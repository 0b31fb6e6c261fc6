-- The unit of a text is the same whatever is checked: a walk, without what it finds, is the walk that checks nothing.
use Rattle.std.proofs.Common.{◌≡◌, ℕ, Bool, List, [], ◌∷◌, ◌++◌, Option, Some, None, option_map, length, is_some, refl, ap, sym, ◌∙◌}
use Rattle.pk_ast.specs.declared.expressions.Identifier.{Identifier}
use Rattle.pk_ast.specs.declared.units.Storage.{Storage}
use Rattle.pk_ast.specs.Trees.{BlockTree, DeclaratorTree, DeclarationTree, ParameterTree, FunctionTree, TypedefTree, ExternalTree, function, objects, type_names}
use Rattle.pk_typed.specs.Trees.{ItemTrees}
use Rattle.pk_type_scope.specs.declared.declarations.NamedType.{NamedType}
use Rattle.pk_type_scope.specs.declared.declarations.Typing.{Typing}
use Rattle.pk_type_scope.specs.Specifiers.{type_named}
use Rattle.pk_type_declaration.specs.declared.words.Words.{Words}
use Rattle.pk_type_declaration.specs.Checks as declarations
use Rattle.pk_type_declaration.specs.Checks.{DeclarationChecks}
use Rattle.pk_type_declaration.specs.Declarations.{type_or_int, text_of, length_at, length_or_1}
use Rattle.pk_type_declaration.specs.Enumerations.{words_at, after_words}
use Rattle.pk_type_declaration.specs.Initializers.{given}
use Rattle.pk_type_declaration.specs.Starts.{after_numbers, start_at}
use Rattle.pk_type_declaration.specs.Walks.{Walked, here, finding, after_name, entering}
use Rattle.pk_type_declaration.proofs.BareLemmas.{bare, bare_length, bare_dimensions, bare_words, bare_numbers, bare_start}
use Rattle.pk_type_jump.specs.Labels.{labels_of}
use Rattle.pk_type_statement.specs.Trees.{typed_items}
use Rattle.pk_type_statement.proofs.BareLemmas.{bare_items, bare_typed_items}
use Rattle.pk_type.specs.Files as files
use Rattle.pk_type.specs.Files.{Filed, UnitChecks, unchecked, file_object, after_object, after_objects, without_calls, on, after_declaration}
use Rattle.pk_type.specs.Functions as functions
use Rattle.pk_type.specs.Functions.{after_parameter_name, after_parameter, after_parameters, number_of, before_body, after_body, emptied, body_of, body_at, defining, leaving_function, after_optional_body, after_function}
use Rattle.pk_type.specs.TypeNames.{named_type, after_type_name, after_type_names, after_typedef}
use Rattle.pk_type.specs.Units.{no_name, defined_in, after_external, after_externals, objects_in, nothing_filed, checked, unit_of}

-- without what was found
abbrev pub bare_filed : {F : Type 0} → Filed F → Filed (Unit {0})
bare_filed f = record { walked = bare f.walked; objects = f.objects; functions = f.functions }

abbrev with_walked : {F : Type 0} → Filed F → Walked (Unit {0}) → Filed (Unit {0})
with_walked f w = record { walked = w; objects = f.objects; functions = f.functions }

-- ---- objects of the file

bare_file_head : {F : Type 0} (c : UnitChecks F) (storage : Option Storage) (words : Words) (d : DeclaratorTree) (f : Filed F) → bare (files.after_head c storage words d f) ≡ files.after_head unchecked storage words d (bare_filed f)
bare_file_head c storage words d f =
    ap (after_name d.name (file_object words (is_some d.dimensions) f)) (bare_dimensions c.statements.declarations d.name.at d.dimensions f.walked)

bare_object : {F : Type 0} (c : UnitChecks F) (storage : Option Storage) (words : Words) (d : DeclaratorTree) (f : Filed F) → bare_filed (after_object c storage words d f) ≡ after_object unchecked storage words d (bare_filed f)
unfolding after_object
bare_object c storage words d f =
    let e = c.statements.declarations in
    let i = given d.initializer in
    let t = type_or_int words.typing in
    let n = length_or_1 (is_some d.dimensions) (length_at f.walked d.dimensions) in
    let w = files.after_head c storage words d f in
    let v = files.after_head unchecked storage words d (bare_filed f) in
    let h = bare_file_head c storage words d f in
    ap (λ x. record {
      walked = x;
      objects = f.objects ++ record { name = text_of f.walked.scoping d.name; int_type = t; start = start_at e t n d.initializer w } ∷ [];
      functions = f.functions;
    }) (bare_numbers e i w ∙ ap (after_numbers declarations.unchecked i) h)
    ∙ ap (λ s. record {
      walked = after_numbers declarations.unchecked i v;
      objects = f.objects ++ record { name = text_of f.walked.scoping d.name; int_type = t; start = s } ∷ [];
      functions = f.functions;
    })
    (bare_start e t n d.initializer w
    ∙ (ap (start_at declarations.unchecked t n d.initializer) h
    ∙ ap (λ l. start_at declarations.unchecked t (length_or_1 (is_some d.dimensions) l) d.initializer v) (bare_length f.walked d.dimensions)))

bare_objects : {F : Type 0} (c : UnitChecks F) (storage : Option Storage) (words : Words) (ds : List DeclaratorTree) (f : Filed F) → bare_filed (after_objects c storage words ds f) ≡ after_objects unchecked storage words ds (bare_filed f)
unfolding after_objects
bare_objects c storage words [] f = refl
bare_objects c storage words (d ∷ ds) f =
    bare_objects c storage words ds (after_object c storage words d f) ∙ ap (after_objects unchecked storage words ds) (bare_object c storage words d f)

bare_declaration : {F : Type 0} (c : UnitChecks F) (storage : Option Storage) (d : DeclarationTree) (f : Filed F) → bare_filed (after_declaration c storage d f) ≡ after_declaration unchecked storage d (bare_filed f)
unfolding after_declaration
bare_declaration c storage d f =
    let e = c.statements.declarations in
    let words = words_at (here f.walked) d.specifiers d.enumeration in
    ap without_calls
    (bare_objects c storage words d.declarators (on (after_words e d.specifiers d.enumeration) f)
    ∙ ap (λ w. after_objects unchecked storage words d.declarators (with_walked f w)) (bare_words e d.specifiers d.enumeration f.walked))

-- ---- type names

bare_type_names : {F : Type 0} (c : DeclarationChecks F) (t : NamedType) (xs : List Identifier) (w : Walked F) → bare (after_type_names c t xs w) ≡ after_type_names declarations.unchecked t xs (bare w)
unfolding after_type_names
bare_type_names c t [] w = refl
bare_type_names c t (x ∷ xs) w = bare_type_names c t xs (after_type_name c t x w)

bare_typedef : {F : Type 0} (c : DeclarationChecks F) (d : TypedefTree) (w : Walked F) → bare (after_typedef c d w) ≡ after_typedef declarations.unchecked d (bare w)
unfolding after_typedef
bare_typedef c d w =
    let t = named_type (words_at (here w) d.specifiers d.enumeration) in
    bare_type_names c t (d.names.first ∷ d.names.more) (after_words c d.specifiers d.enumeration w)
    ∙ ap (after_type_names declarations.unchecked t (d.names.first ∷ d.names.more)) (bare_words c d.specifiers d.enumeration w)

-- ---- functions

bare_parameter_name : {F : Type 0} (c : UnitChecks F) (p : ParameterTree) (x : Option Identifier) (w : Walked F) → bare (after_parameter_name c p x w) ≡ after_parameter_name unchecked p x (bare w)
bare_parameter_name c p None w = refl
bare_parameter_name c p (Some x) w = refl

bare_parameters : {F : Type 0} (c : UnitChecks F) (ps : List ParameterTree) (w : Walked F) → bare (after_parameters c ps w) ≡ after_parameters unchecked ps (bare w)
unfolding after_parameters
bare_parameters c [] w = refl
bare_parameters c (p ∷ ps) w =
    bare_parameters c ps (after_parameter c p w)
    ∙ ap (after_parameters unchecked ps) (bare_parameter_name c p p.name (finding (c.words (here w) p) w))

bare_body : {F : Type 0} (c : UnitChecks F) (returns : Typing) (b : BlockTree) (w : Walked F) → bare (after_body c returns b w) ≡ after_body unchecked returns b (bare w)
bare_body c returns b w = ap (λ q. finding (unchecked.jumps w.scoping.text b.items) q.walked) (bare_items c.statements returns (before_body w) b.items)

bare_body_of : {F : Type 0} (b : BlockTree) (visible labels : ℕ) (w : Walked F) (items : Option ItemTrees) → option_map (body_of b visible labels w) items ≡ option_map (body_of b visible labels (bare w)) items
bare_body_of b visible labels w None = refl
bare_body_of b visible labels w (Some items) = refl

bare_body_at : {F : Type 0} (c : UnitChecks F) (returns : Typing) (visible : ℕ) (b : BlockTree) (w : Walked F) → body_at c returns visible b w ≡ body_at unchecked returns visible b (bare w)
bare_body_at c returns visible b w =
    let l = labels_of w.scoping.text b.items in
    let items = typed_items c.statements returns l.labels (before_body w) b.items in
    bare_body_of b visible l.count (after_body c returns b w) items
    ∙ (ap (λ v. option_map (body_of b visible l.count v) items) (bare_body c returns b w)
    ∙ ap (option_map (body_of b visible l.count (after_body unchecked returns b (bare w)))) (bare_typed_items c.statements returns l.labels (before_body w) b.items))

bare_optional_body : {F : Type 0} (c : UnitChecks F) (returns : Typing) (n : ℕ) (b : Option BlockTree) (f : Filed F) → bare_filed (after_optional_body c returns n b f) ≡ after_optional_body unchecked returns n b (bare_filed f)
bare_optional_body c returns n None f = refl
bare_optional_body c returns n (Some b) f =
    ap (λ v. defining n (body_at c returns (length f.objects) b f.walked) (with_walked f (emptied v))) (bare_body c returns b f.walked)
    ∙ ap (λ body. defining n body (with_walked f (emptied (after_body unchecked returns b (bare f.walked))))) (bare_body_at c returns (length f.objects) b f.walked)

bare_function : {F : Type 0} (c : UnitChecks F) (defined : List ℕ → Bool) (g : FunctionTree) (f : Filed F) → bare_filed (after_function c defined g f) ≡ after_function unchecked defined g (bare_filed f)
unfolding after_function
bare_function c defined g f =
    let n = number_of f.functions (here f.walked g.name) in
    let t = type_named (here f.walked) g.specifiers in
    let h = functions.after_head c defined g f in
    ap (leaving_function (bare_filed h))
    (bare_optional_body c t n g.body (on (after_parameters c g.parameters) (on entering h))
    ∙ ap (λ v. after_optional_body unchecked t n g.body (with_walked h v)) (bare_parameters c g.parameters (entering h.walked)))

-- ---- texts

bare_external : {F : Type 0} (c : UnitChecks F) (defined : List ℕ → Bool) (x : ExternalTree) (f : Filed F) → bare_filed (after_external c defined x f) ≡ after_external unchecked defined x (bare_filed f)
bare_external c defined (function g) f = bare_function c defined g f
bare_external c defined (objects storage d) f = bare_declaration c storage d f
bare_external c defined (type_names d) f = ap (λ w. without_calls (with_walked f w)) (bare_typedef c.statements.declarations d f.walked)

bare_externals : {F : Type 0} (c : UnitChecks F) (defined : List ℕ → Bool) (xs : List ExternalTree) (f : Filed F) → bare_filed (after_externals c defined xs f) ≡ after_externals unchecked defined xs (bare_filed f)
unfolding after_externals
bare_externals c defined [] f = refl
bare_externals c defined (x ∷ xs) f = bare_externals c defined xs (after_external c defined x f) ∙ ap (after_externals unchecked defined xs) (bare_external c defined x f)

pub bare_unit : {F : Type 0} (c : UnitChecks F) (found : F) (text : List ℕ) (ts : List ExternalTree) → unit_of (checked c found text ts) ≡ unit_of (checked unchecked tt text ts)
bare_unit c found text ts = ap unit_of (bare_externals c (defined_in text ts no_name) ts (nothing_filed found text (objects_in ts)))

pub same_unit : {F G : Type 0} (c : UnitChecks F) (d : UnitChecks G) (found : F) (more : G) (text : List ℕ) (ts : List ExternalTree) → unit_of (checked c found text ts) ≡ unit_of (checked d more text ts)
same_unit c d found more text ts = bare_unit c found text ts ∙ sym (bare_unit d more text ts)
