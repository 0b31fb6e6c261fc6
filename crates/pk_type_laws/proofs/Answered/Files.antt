-- The first failure so far is that of the list so far: after functions and objects of the file.
use Rattle.std.proofs.Common.{◌≡◌, ℕ, ℤ, Bool, false, List, [], ◌∷◌, ◌++◌, Option, Some, None, refl, ap, ◌∙◌, length}
use Rattle.std.specs.Prelude.{is_some}
use Rattle.std.specs.Option.{option_map}
use Rattle.pk_ctypes.specs.declared.words.Rule.TheVariants as rule
use Rattle.pk_ast.specs.declared.expressions.Identifier.{Identifier}
use Rattle.pk_ast.specs.declared.units.Storage.{Storage}
use Rattle.pk_ast.specs.Trees.{DeclaratorTree, DeclarationTree, ParameterTree, BlockTree, FunctionTree, TypedefTree, ExternalTree, function, objects, type_names}
use Rattle.pk_typed.specs.Trees.{BodyTree, FileObjectTree}
use Rattle.pk_type_scope.specs.declared.declarations.Declaration.TheVariants as declared
use Rattle.pk_type_scope.specs.declared.declarations.NamedType.{NamedType}
use Rattle.pk_type_scope.specs.declared.declarations.Typing.{Typing}
use Rattle.pk_type_scope.specs.declared.failures.Failure.{Failure}
use Rattle.pk_type_scope.specs.Declarations.{is_void}
use Rattle.pk_type_scope.specs.Failures.{noted, fails_if}
use Rattle.pk_type_scope.specs.Scopes.{names_in, spelled}
use Rattle.pk_type_scope.specs.Specifiers.{type_named, word_failures}
use Rattle.pk_type_declaration.specs.declared.words.Words.{Words}
use Rattle.pk_type_declaration.specs.Declarations.{words_of, type_or_int, text_of, length_at, after_dimensions, length_or_1}
use Rattle.pk_type_declaration.specs.Enumerations.{words_at, after_words}
use Rattle.pk_type_declaration.specs.Specials.{special}
use Rattle.pk_type_declaration.specs.Walks.{here, after_name, with_local, entering}
use Rattle.pk_type_jump.specs.Jumps.{jumps_of}
use Rattle.pk_type_jump.specs.Labels.{labels_of}
use Rattle.pk_type_statement.specs.Statements.{Passed, after_items}
use Rattle.pk_type_statement.specs.Trees.{typed_items}
use Rattle.pk_type_statement.specs.Rules as statements
use Rattle.pk_type_declaration.specs.Initializers.{given}
use Rattle.pk_type_declaration.specs.Starts.{after_numbers, numbers_at, start_of}
use Rattle.pk_type_declaration.specs.Rules as declarations
use Rattle.pk_type_declaration.specs.Rules.{redeclared, void_object, special_object, braces, misfit, failing}
use Rattle.pk_type.specs.Files.{Filed, file_object, after_head, after_object, after_objects, without_calls, on, after_declaration}
use Rattle.pk_type.specs.Functions as functions
use Rattle.pk_type.specs.Functions.{unnamed, after_parameter_name, after_parameter, after_parameters, number_of, callee_of, with_new, before_body, after_body, emptied, body_of, body_at, defining, leaving_function, after_optional_body, after_function}
use Rattle.pk_type.specs.Signatures.{signature_of}
use Rattle.pk_type.specs.TypeNames.{named_type, after_type_name, after_type_names, after_typedef}
use Rattle.pk_type.specs.Units.{no_name, defined_in, after_external, objects_in, after_externals, nothing_filed, checked}
use Rattle.pk_type.specs.Rules as units
use Rattle.pk_type.specs.Rules.{extern_object, is_redeclared, is_misused, about_jumps, parameter_failures}
use Rattle.pk_type_laws.specs.Answered.Failures.{appended, listing}
use Rattle.pk_type_laws.proofs.Answered.Walks.{L, W, first, failing_first, dimensions_first, length_at_first, object_first, words_first}
use Rattle.pk_type_laws.proofs.Answered.Statics.{numbers_first, numbers_same}
use Rattle.pk_type_laws.proofs.Answered.Statements.{items_first, items_same}

abbrev pub F : Type 0
F = Filed (List Failure)

abbrev pub G : Type 0
G = Filed (Option Failure)

abbrev with_walk : F → W → G
with_walk f w = record { walked = w; objects = f.objects; functions = f.functions }

-- with the first failure alone
abbrev pub filed_first : F → G
filed_first f = with_walk f (first f.walked)

-- ---- objects

head_first : (storage : Option Storage) (words : Words) (d : DeclaratorTree) (f : F) → after_head units.noting storage words d (filed_first f) ≡ first (after_head (units.adding appended) storage words d f)
head_first storage words d f =
    let v = after_dimensions (declarations.adding appended) d.name.at d.dimensions f.walked in
    let rows = redeclared v.scoping d.name ++ extern_object storage d.name ++ void_object words.typing d.name.at ++ special_object v.scoping d.name in
    let fs = braces (is_some d.dimensions) d.initializer d.name.at ++ misfit (length_at f.walked d.dimensions) d.initializer in
    let o = file_object words (is_some d.dimensions) f in
    let begun : W → W = λ (w : W). after_name d.name o (failing noted (redeclared w.scoping d.name ++ extern_object storage d.name ++ void_object words.typing d.name.at ++ special_object w.scoping d.name) w) in
    let same : after_head units.noting storage words d (filed_first f) ≡ failing noted fs (begun (after_dimensions declarations.noting d.name.at d.dimensions (first f.walked))) =
    ap (λ (m : Option ℕ). failing noted (braces (is_some d.dimensions) d.initializer d.name.at ++ misfit m d.initializer) (begun (after_dimensions declarations.noting d.name.at d.dimensions (first f.walked)))) (length_at_first d.dimensions f.walked) in
    same ∙ (ap (λ (w : W). failing noted fs (begun w)) (dimensions_first d.name.at d.dimensions f.walked)
    ∙ (ap (λ (w : W). failing noted fs (after_name d.name o w)) (failing_first rows v) ∙ failing_first fs (after_name d.name o (failing appended rows v))))

file_object_of : Words → DeclaratorTree → F → Option ℕ → List ℤ → FileObjectTree
file_object_of words d f n ns = record { name = text_of f.walked.scoping d.name; int_type = type_or_int words.typing; start = start_of (length_or_1 (is_some d.dimensions) n) ns }

made : F → W → FileObjectTree → G
made f w o = record { walked = w; objects = f.objects ++ o ∷ []; functions = f.functions }

object_of_file_first : (storage : Option Storage) (words : Words) (d : DeclaratorTree) (f : F) → after_object units.noting storage words d (filed_first f) ≡ filed_first (after_object (units.adding appended) storage words d f)
unfolding after_object made file_object_of
object_of_file_first storage words d f =
    let t = type_or_int words.typing in
    let es = given d.initializer in
    let v = after_head units.noting storage words d (filed_first f) in
    let w = after_head (units.adding appended) storage words d f in
    let same : v ≡ first w = head_first storage words d f in
    let walk : after_numbers declarations.noting es v ≡ first (after_numbers (declarations.adding appended) es w) = ap (after_numbers declarations.noting es) same ∙ numbers_first es w in
    let numbers : numbers_at declarations.noting t es v ≡ numbers_at (declarations.adding appended) t es w = ap (numbers_at declarations.noting t es) same ∙ numbers_same t es w in
    ap (λ (x : W). made f x (file_object_of words d f (length_at (first f.walked) d.dimensions) (numbers_at declarations.noting t es v))) walk
    ∙ (ap (λ (n : Option ℕ). made f (first (after_numbers (declarations.adding appended) es w)) (file_object_of words d f n (numbers_at declarations.noting t es v))) (length_at_first d.dimensions f.walked)
    ∙ ap (λ (ns : List ℤ). made f (first (after_numbers (declarations.adding appended) es w)) (file_object_of words d f (length_at f.walked d.dimensions) ns)) numbers)

objects_first : (storage : Option Storage) (words : Words) (ds : List DeclaratorTree) (f : F) → after_objects units.noting storage words ds (filed_first f) ≡ filed_first (after_objects (units.adding appended) storage words ds f)
unfolding after_objects
objects_first storage words [] f = refl
objects_first storage words (d ∷ ds) f = ap (after_objects units.noting storage words ds) (object_of_file_first storage words d f) ∙ objects_first storage words ds (after_object (units.adding appended) storage words d f)

declaration_first : (storage : Option Storage) (d : DeclarationTree) (f : F) → after_declaration units.noting storage d (filed_first f) ≡ filed_first (after_declaration (units.adding appended) storage d f)
unfolding after_declaration
declaration_first storage d f =
    let words = words_at (here f.walked) d.specifiers d.enumeration in
    ap (λ (w : W). without_calls (after_objects units.noting storage words d.declarators (with_walk f w))) (words_first d.specifiers d.enumeration f.walked)
    ∙ ap without_calls (objects_first storage words d.declarators (on (after_words (declarations.adding appended) d.specifiers d.enumeration) f))

-- ---- functions

unnamed_first : (p : ParameterTree) (w : L) → unnamed units.noting p (first w) ≡ first (unnamed (units.adding appended) p w)
unnamed_first p w =
    ap (with_local (record { name = None; int_type = type_or_int (type_named (here w) p.specifiers); length = None }))
    (failing_first (fails_if (is_void (type_named (here w) p.specifiers)) rule.Void p.specifiers.first.at) w)

name_first : (p : ParameterTree) (x : Option Identifier) (w : L) → after_parameter_name units.noting p x (first w) ≡ first (after_parameter_name (units.adding appended) p x w)
name_first p None w = unnamed_first p w
name_first p (Some x) w = object_first (words_of (here w) p.specifiers) false None x w

parameters_first : (ps : List ParameterTree) (w : L) → after_parameters units.noting ps (first w) ≡ first (after_parameters (units.adding appended) ps w)
unfolding after_parameters
parameters_first [] w = refl
parameters_first (p ∷ ps) w =
    ap (λ (v : W). after_parameters units.noting ps (after_parameter_name units.noting p p.name v)) (failing_first (parameter_failures (here w) p) w)
    ∙ (ap (after_parameters units.noting ps) (name_first p p.name (failing appended (parameter_failures (here w) p) w)) ∙ parameters_first ps (after_parameter (units.adding appended) p w))

function_head_first : (defined : List ℕ → Bool) (g : FunctionTree) (f : F) → functions.after_head units.noting defined g (filed_first f) ≡ filed_first (functions.after_head (units.adding appended) defined g f)
function_head_first defined g f =
    let w = f.walked in
    let s = signature_of (here w) g in
    let q = spelled w.scoping.text g.name in
    let before = names_in w.scoping g.name in
    let n = number_of f.functions before in
    let rows = word_failures (here w) g.specifiers ++ fails_if (is_redeclared f.functions s (is_some g.body) before) rule.Redeclared g.name.at ++ fails_if (is_misused s (special q)) rule.Special g.name.at in
    let declaration = declared.Function (record { number = n; callee = callee_of s (defined q) (special q) }) in
    ap (λ (v : W). record { walked = after_name g.name declaration v; objects = f.objects; functions = with_new f.functions n (text_of w.scoping g.name) s }) (failing_first rows w)

body_first : (r : Typing) (b : BlockTree) (w : L) → after_body units.noting r b (first w) ≡ first (after_body (units.adding appended) r b w)
body_first r b w =
    let labels = labels_of w.scoping.text b.items in
    let fs = about_jumps labels (jumps_of w.scoping.text labels.labels b.items) in
    ap (λ (p : Passed (Option Failure)). failing noted fs p.walked) (items_first r (before_body w) b.items) ∙ failing_first fs (after_items (statements.adding appended) r (before_body w) b.items).walked

body_same : (r : Typing) (visible : ℕ) (b : BlockTree) (w : L) → body_at units.noting r visible b (first w) ≡ body_at (units.adding appended) r visible b w
body_same r visible b w =
    let labels = labels_of w.scoping.text b.items in
    ap (λ (v : W). option_map (body_of b visible labels.count v) (typed_items statements.noting r labels.labels (before_body (first w)) b.items)) (body_first r b w)
    ∙ ap (option_map (body_of b visible labels.count (after_body (units.adding appended) r b w))) (items_same r labels.labels (before_body w) b.items)

optional_body_first : (r : Typing) (n : ℕ) (b : Option BlockTree) (f : F) → after_optional_body units.noting r n b (filed_first f) ≡ filed_first (after_optional_body (units.adding appended) r n b f)
optional_body_first r n None f = refl
optional_body_first r n (Some b) f =
    ap (λ (t : Option BodyTree). defining n t (with_walk f (emptied (after_body units.noting r b (first f.walked))))) (body_same r (length f.objects) b f.walked)
    ∙ ap (λ (w : W). defining n (body_at (units.adding appended) r (length f.objects) b f.walked) (with_walk f (emptied w))) (body_first r b f.walked)

function_first : (defined : List ℕ → Bool) (g : FunctionTree) (f : F) → after_function units.noting defined g (filed_first f) ≡ filed_first (after_function (units.adding appended) defined g f)
unfolding after_function
function_first defined g f =
    let n = number_of f.functions (names_in f.walked.scoping g.name) in
    let r = type_named (here f.walked) g.specifiers in
    let h = functions.after_head (units.adding appended) defined g f in
    let k = on entering h in
    ap (λ (x : G). leaving_function x (after_optional_body units.noting r n g.body (on (after_parameters units.noting g.parameters) (on entering x)))) (function_head_first defined g f)
    ∙ (ap (λ (w : W). leaving_function (filed_first h) (after_optional_body units.noting r n g.body (with_walk k w))) (parameters_first g.parameters k.walked)
    ∙ ap (leaving_function (filed_first h)) (optional_body_first r n g.body (on (after_parameters (units.adding appended) g.parameters) k)))

-- ---- type names

names_first : (t : NamedType) (xs : List Identifier) (w : L) → after_type_names declarations.noting t xs (first w) ≡ first (after_type_names (declarations.adding appended) t xs w)
unfolding after_type_names
names_first t [] w = refl
names_first t (x ∷ xs) w =
    ap (λ (v : W). after_type_names declarations.noting t xs (after_name x (declared.TypeName t) v)) (failing_first (redeclared w.scoping x ++ special_object w.scoping x) w) ∙ names_first t xs (after_type_name (declarations.adding appended) t x w)

typedef_first : (d : TypedefTree) (w : L) → after_typedef declarations.noting d (first w) ≡ first (after_typedef (declarations.adding appended) d w)
unfolding after_typedef
typedef_first d w =
    let t = named_type (words_at (here w) d.specifiers d.enumeration) in
    let xs = d.names.first ∷ d.names.more in
    ap (after_type_names declarations.noting t xs) (words_first d.specifiers d.enumeration w) ∙ names_first t xs (after_words (declarations.adding appended) d.specifiers d.enumeration w)

-- ---- texts

external_first : (defined : List ℕ → Bool) (x : ExternalTree) (f : F) → after_external units.noting defined x (filed_first f) ≡ filed_first (after_external (units.adding appended) defined x f)
external_first defined (function g) f = function_first defined g f
external_first defined (objects storage d) f = declaration_first storage d f
external_first defined (type_names d) f = ap (λ (w : W). without_calls (with_walk f w)) (typedef_first d f.walked)

externals_first : (defined : List ℕ → Bool) (xs : List ExternalTree) (f : F) → after_externals units.noting defined xs (filed_first f) ≡ filed_first (after_externals (units.adding appended) defined xs f)
unfolding after_externals
externals_first defined [] f = refl
externals_first defined (x ∷ xs) f = ap (after_externals units.noting defined xs) (external_first defined x f) ∙ externals_first defined xs (after_external (units.adding appended) defined x f)

pub checked_first : (text : List ℕ) (xs : List ExternalTree) → checked units.noting None text xs ≡ filed_first (listing text xs)
checked_first text xs = externals_first (defined_in text xs no_name) xs (nothing_filed [] text (objects_in xs))
