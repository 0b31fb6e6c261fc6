-- Functions of accepted texts have their bodies.
use Rattle.std.proofs.Common.{◌≡◌, ℕ, Bool, true, false, List, [], ◌∷◌, ◌++◌, Option, Some, None, length, refl, ap, sym, subst, ◌∙◌, if◌then◌else◌}
use Rattle.std.proofs.lemmas.Bool.{false≢true}
use Rattle.std.proofs.lemmas.Option.{none-some}
use Rattle.std.specs.Prelude.{is_some, slice_get}
use Rattle.std.specs.Str.{bytes_eq}
use Rattle.pk_ctypes.specs.declared.places.Pos.{Pos}
use Rattle.pk_ctypes.specs.declared.types.IntType.{IntType}
use Rattle.pk_ctypes.specs.declared.words.Rule.{Rule}
use Rattle.pk_ctypes.specs.declared.words.Rule.TheVariants as rule
use Rattle.pk_ast.specs.declared.expressions.Identifier.{Identifier}
use Rattle.pk_ast.specs.declared.units.Storage.{Storage}
use Rattle.pk_ast.specs.Trees.{ParameterTree, BlockTree, FunctionTree, DeclaratorTree, DeclarationTree, TypedefTree, ExternalTree, function, objects, type_names}
use Rattle.pk_type_scope.specs.declared.declarations.Callee.{Callee}
use Rattle.pk_type_scope.specs.declared.declarations.Declaration.TheVariants as declared
use Rattle.pk_type_scope.specs.declared.declarations.NamedType.{NamedType}
use Rattle.pk_type_scope.specs.declared.declarations.Typing.{Typing}
use Rattle.pk_type_scope.specs.declared.declarations.Typing.TheVariants.{Void, Integer, Unknown}
use Rattle.pk_type_scope.specs.declared.failures.Failure.{Failure}
use Rattle.pk_type_scope.specs.Declarations.{HasTypes, is_void, is_unknown, returned_by}
use Rattle.pk_type_scope.specs.Failures.{fails_if, noted}
use Rattle.pk_type_scope.specs.Scopes.{names_in, spelled}
use Rattle.pk_type_scope.specs.Specifiers.{type_named, word_failures}
use Rattle.pk_type_expression.proofs.TreeLemmas.{none_before, none_after, holds_not, types_are, known_type}
use Rattle.pk_type_declaration.specs.declared.words.Words.{Words}
use Rattle.pk_type_declaration.specs.Declarations.{words_of, text_of, integer_in, length_at, after_dimensions}
use Rattle.pk_ctypes.specs.Spellings.{lookup}
use Rattle.pk_type_declaration.specs.Enumerations.{words_at, after_words}
use Rattle.pk_type_declaration.specs.Specials.{special, specials}
use Rattle.pk_type_declaration.specs.Walks.{StaticsTree, here, entering}
use Rattle.pk_type_jump.specs.Jumps.{around_body, nothing_jumped, jumps_of}
use Rattle.pk_type_jump.specs.Labels.{nothing_listed, outermost, labels_of}
use Rattle.pk_type_statement.specs.Statements.{after_items}
use Rattle.pk_type_statement.specs.Trees.{typed_items}
use Rattle.pk_type_statement.specs.Rules as statements
use Rattle.pk_type_declaration.specs.Initializers.{given}
use Rattle.pk_type_declaration.specs.Rules as declarations
use Rattle.pk_type_declaration.specs.Rules.{at_name, redeclared, void_object, special_object, braces, misfit, failing}
use Rattle.pk_type.specs.Files.{EntryTree, file_object, after_object, after_objects, after_declaration, on}
use Rattle.pk_type.specs.Files as files
use Rattle.pk_type.specs.Functions.{after_parameter_name, after_parameter, after_parameters, number_of, callee_of, after_head, before_body, after_body, body_of, body_at, with_body, after_optional_body, after_function}
use Rattle.pk_type.specs.Signatures.{SignatureTree, signature_of}
use Rattle.pk_type.specs.TypeNames.{named_type, after_type_name, after_type_names, after_typedef}
use Rattle.pk_type.specs.Units.{no_name, defined_in, objects_in, checked, after_external, after_externals, nothing_filed}
use Rattle.pk_type.specs.Rules as units
use Rattle.pk_type.specs.Rules.{extern_object, is_redeclared, is_misused, each_at, about_jumps, parameter_failures}
use Rattle.pk_type_laws.proofs.Accepted.Declarations.{later_dimensions}
use Rattle.pk_type_laws.proofs.Accepted.Files.{F}
use Rattle.pk_type_laws.proofs.Accepted.Functions.{later_parameters, later_body}
use Rattle.pk_type_laws.proofs.Accepted.Units.{new_entries, updated, externals_later, texts_are_well_typed}
use Rattle.pk_type_laws.proofs.Accepted.Starts.{later_numbers, same_scope}
use Rattle.pk_type_laws.proofs.Accepted.Statics.{same_statics}
use Rattle.pk_type_laws.proofs.Accepted.Enumerations.{words_statics, words_names, words_known, holds_types}
use Rattle.pk_type_laws.proofs.Accepted.TypeNames.{type_words}
use Rattle.pk_type_laws.proofs.Accepted.Walks.{W, none_found}
use Rattle.pk_type_laws.specs.Accepted.Laws.{AcceptedUnitsAreWellTyped}
use Rattle.pk_type_laws.specs.Bodies.Laws.{FunctionsHaveBodies}
use Rattle.pk_type_laws.proofs.Bodies.Parts.{mapped_there, Known, known_declaring, known_opened, object_known, dimensions_scope}
use Rattle.pk_type_laws.proofs.Bodies.Starts.{AreStarts, no_starts, starts_together, items_start, dimensions_statics, parameters_statics, typedef_statics}
use Rattle.pk_type_laws.proofs.Bodies.Statements.{items_there}

-- ---- objects of the file

object_before : (storage : Option Storage) (words : Words) (d : DeclaratorTree) (f : F) → (after_object units.noting storage words d f).walked.found ≡ None → (files.after_head units.noting storage words d f).found ≡ None
unfolding after_object
object_before storage words d f h = (later_numbers (given d.initializer) (files.after_head units.noting storage words d f)).found h

head_before : (storage : Option Storage) (words : Words) (d : DeclaratorTree) (f : F) → (files.after_head units.noting storage words d f).found ≡ None → f.walked.found ≡ None
head_before storage words d f h =
    let v = after_dimensions declarations.noting d.name.at d.dimensions f.walked in
    let rows = redeclared v.scoping d.name ++ extern_object storage d.name ++ void_object words.typing d.name.at ++ special_object v.scoping d.name in
    let x = failing noted rows v in
    (later_dimensions d.name.at d.dimensions f.walked).found (none_found v.found rows (none_found x.found (braces (is_some d.dimensions) d.initializer d.name.at ++ misfit (length_at f.walked d.dimensions) d.initializer) h).0).0

objects_before : (storage : Option Storage) (words : Words) (ds : List DeclaratorTree) (f : F) → (after_objects units.noting storage words ds f).walked.found ≡ None → f.walked.found ≡ None
unfolding after_objects
objects_before storage words [] f h = h
objects_before storage words (d ∷ ds) f h =
    head_before storage words d f (object_before storage words d f (objects_before storage words ds (after_object units.noting storage words d f) h))

integer_has : (t : Typing) → is_unknown t ≡ false → is_void t ≡ false → (u : IntType) × (integer_in t ≡ Some u)
integer_has Void u v = absurd (false≢true (sym v))
integer_has (Integer t) u v = (t, refl)
integer_has Unknown u v = absurd (false≢true (sym u))

object_is_known : (storage : Option Storage) (words : Words) (d : DeclaratorTree) (f : F) → is_unknown words.typing ≡ false → Known f.walked.scoping → (after_object units.noting storage words d f).walked.found ≡ None
    → Known (after_object units.noting storage words d f).walked.scoping
unfolding after_object
object_is_known storage words d f u k h =
    let v = after_dimensions declarations.noting d.name.at d.dimensions f.walked in
    let first = redeclared v.scoping d.name ++ extern_object storage d.name in
    let rows = redeclared v.scoping d.name ++ extern_object storage d.name ++ void_object words.typing d.name.at ++ special_object v.scoping d.name in
    let x = failing noted rows v in
    let fs = braces (is_some d.dimensions) d.initializer d.name.at ++ misfit (length_at f.walked d.dimensions) d.initializer in
    let w = files.after_head units.noting storage words d f in
    let hw : w.found ≡ None = (later_numbers (given d.initializer) w).found h in
    let none : rows ≡ [] = (none_found v.found rows (none_found x.found fs hw).0).1 in
    let void : is_void words.typing ≡ false = holds_not _ _ _ (none_after first (void_object words.typing d.name.at) (none_before (first ++ void_object words.typing d.name.at) (special_object v.scoping d.name) none)) in
    let kv : Known v.scoping = subst Known (sym (dimensions_scope d.name.at d.dimensions f.walked)) k in
    let o = file_object words (is_some d.dimensions) f in
    subst Known (sym (same_scope (given d.initializer) w)) (known_declaring v.scoping d.name o kv (integer_has words.typing u void))

objects_known : (storage : Option Storage) (words : Words) (ds : List DeclaratorTree) (f : F) → is_unknown words.typing ≡ false → Known f.walked.scoping → (after_objects units.noting storage words ds f).walked.found ≡ None
    → Known (after_objects units.noting storage words ds f).walked.scoping
unfolding after_objects
objects_known storage words [] f u k h = k
objects_known storage words (d ∷ ds) f u k h =
    let g = after_object units.noting storage words d f in
    objects_known storage words ds g u (object_is_known storage words d f u k (objects_before storage words ds g h)) h

declaration_known : (storage : Option Storage) (d : DeclarationTree) (f : F) → Known f.walked.scoping → (after_declaration units.noting storage d f).walked.found ≡ None → Known (after_declaration units.noting storage d f).walked.scoping
unfolding after_declaration
declaration_known storage d f k h =
    let words = words_at (here f.walked) d.specifiers d.enumeration in
    let g = on (after_words declarations.noting d.specifiers d.enumeration) f in
    let hg = objects_before storage words d.declarators g h in
    objects_known storage words d.declarators g (words_known d.specifiers d.enumeration f.walked k hg) (words_names HasTypes holds_types d.specifiers d.enumeration f.walked k hg) h

objects_keep : (storage : Option Storage) (words : Words) (ds : List DeclaratorTree) (f : F) → (after_objects units.noting storage words ds f).functions ≡ f.functions
unfolding after_objects after_object
objects_keep storage words [] f = refl
objects_keep storage words (d ∷ ds) f = objects_keep storage words ds (after_object units.noting storage words d f)

declaration_keeps : (storage : Option Storage) (d : DeclarationTree) (f : F) → (after_declaration units.noting storage d f).functions ≡ f.functions
unfolding after_declaration
declaration_keeps storage d f = objects_keep storage (words_at (here f.walked) d.specifiers d.enumeration) d.declarators (on (after_words declarations.noting d.specifiers d.enumeration) f)

file_objects_statics : (storage : Option Storage) (words : Words) (ds : List DeclaratorTree) (f : F) → (after_objects units.noting storage words ds f).walked.statics ≡ f.walked.statics
unfolding after_objects after_object
file_objects_statics storage words [] f = refl
file_objects_statics storage words (d ∷ ds) f =
    file_objects_statics storage words ds (after_object units.noting storage words d f) ∙ (same_statics (given d.initializer) (files.after_head units.noting storage words d f) ∙ dimensions_statics d.name.at d.dimensions f.walked)

file_declaration_statics : (storage : Option Storage) (d : DeclarationTree) (f : F) → (after_declaration units.noting storage d f).walked.statics ≡ f.walked.statics
unfolding after_declaration
file_declaration_statics storage d f =
    file_objects_statics storage (words_at (here f.walked) d.specifiers d.enumeration) d.declarators (on (after_words declarations.noting d.specifiers d.enumeration) f) ∙ words_statics d.specifiers d.enumeration f.walked

-- ---- type names

type_names_known : (t : NamedType) (xs : List Identifier) (w : W) → is_unknown t.typing ≡ false → Known w.scoping → Known (after_type_names declarations.noting t xs w).scoping
unfolding after_type_names
type_names_known t [] w u k = k
type_names_known t (x ∷ xs) w u k = type_names_known t xs (after_type_name declarations.noting t x w) u (known_declaring w.scoping x (declared.TypeName t) k u)

typedef_known : (d : TypedefTree) (w : W) → Known w.scoping → (after_typedef declarations.noting d w).found ≡ None → Known (after_typedef declarations.noting d w).scoping
unfolding after_typedef
typedef_known d w k h =
    let hw = type_words d w h in
    type_names_known (named_type (words_at (here w) d.specifiers d.enumeration)) (d.names.first ∷ d.names.more) (after_words declarations.noting d.specifiers d.enumeration w) (words_known d.specifiers d.enumeration w k hw) (words_names HasTypes holds_types d.specifiers d.enumeration w k hw)

-- ---- parameters

name_known : (p : ParameterTree) (x : Option Identifier) (w : W) → is_unknown (type_named (here w) p.specifiers) ≡ false → Known w.scoping → (after_parameter_name units.noting p x w).found ≡ None → Known (after_parameter_name units.noting p x w).scoping
name_known p None w u k h = k
name_known p (Some x) w u k h = object_known (words_of (here w) p.specifiers) false None x w u k h

name_before : (p : ParameterTree) (x : Option Identifier) (w : W) → (after_parameter_name units.noting p x w).found ≡ None → w.found ≡ None
name_before p None w h = (none_found w.found (fails_if (is_void (type_named (here w) p.specifiers)) rule.Void p.specifiers.first.at) h).0
name_before p (Some x) w h = (none_found w.found (at_name w.scoping (type_named (here w) p.specifiers) x) h).0

parameters_known : (ps : List ParameterTree) (w : W) → Known w.scoping → (after_parameters units.noting ps w).found ≡ None → Known (after_parameters units.noting ps w).scoping
unfolding after_parameters
parameters_known [] w k h = k
parameters_known (p ∷ ps) w k h =
    let x = failing noted (parameter_failures (here w) p) w in
    let v = after_parameter units.noting p w in
    let hv : v.found ≡ None = (later_parameters ps v).found h in
    let u = known_type (here w) (types_are (here w) k) p.specifiers (none_before (word_failures (here w) p.specifiers) _ (none_found w.found (parameter_failures (here w) p) (name_before p p.name x hv)).1) in
    parameters_known ps v (name_known p p.name x u k hv) h

-- ---- bodies

none_at : (r : Rule) (xs : List Pos) → each_at r xs ≡ [] → xs ≡ []
none_at r [] h = refl
none_at r (x ∷ xs) h = absurd (cc)

body_there : (r : Typing) (visible : ℕ) (b : BlockTree) (w : W) → Known w.scoping → (after_body units.noting r b w).found ≡ None → is_some (body_at units.noting r visible b w) ≡ true
body_there r visible b w k h =
    let text = w.scoping.text in
    let labels = labels_of text b.items in
    let jumps = jumps_of text labels.labels b.items in
    let start = before_body w in
    let q = after_items statements.noting r start b.items in
    let rows = none_found q.walked.found (about_jumps labels jumps) h in
    let first : each_at rule.Label labels.repeated ++ each_at rule.Label jumps.unknown ≡ [] = none_before (each_at rule.Label labels.repeated ++ each_at rule.Label jumps.unknown) (each_at rule.Jump jumps.misplaced) rows.1 in
    let unknown : jumps.unknown ≡ [] = none_at rule.Label jumps.unknown (none_after (each_at rule.Label labels.repeated) (each_at rule.Label jumps.unknown) first) in
    let all = items_there text r labels.labels around_body nothing_jumped outermost nothing_listed start b.items refl k tt (λ y i. i) unknown rows.0 in
    mapped_there (body_of b visible labels.count (after_body units.noting r b w)) (typed_items statements.noting r labels.labels start b.items) all.there

-- ---- functions

abbrev KnownCallee : Option Callee → Type 0
KnownCallee None = Unit {0}
KnownCallee (Some c) = is_unknown (returned_by c) ≡ false

row_known : (b : Bool) (c : Callee) (o : Option Callee) → is_unknown (returned_by c) ≡ false → KnownCallee o → KnownCallee (if b then Some c else o)
row_known true c o h k = h
row_known false c o h k = k

abbrev AreKnown : List (List ℕ × Callee) → Type 0
AreKnown [] = Unit {0}
AreKnown (row ∷ rows) = (is_unknown (returned_by row.1) ≡ false) × AreKnown rows

found_known : (rows : List (List ℕ × Callee)) (q : List ℕ) → AreKnown rows → KnownCallee (lookup rows q)
found_known [] q h = tt
found_known (row ∷ rows) q h = row_known (bytes_eq row.0 q) row.1 (lookup rows q) h.0 (found_known rows q h.1)

special_known : (q : List ℕ) → KnownCallee (special q)
unfolding special
special_known q = found_known specials q (refl, (refl, (refl, (refl, (refl, (refl, (refl, (refl, (refl, (refl, (refl, (refl, (refl, tt)))))))))))))

callee_known : (s : SignatureTree) (b : Bool) (o : Option Callee) → is_unknown s.returns ≡ false → KnownCallee o → is_unknown (returned_by (callee_of s b o)) ≡ false
callee_known s b None h k = h
callee_known s true (Some c) h k = h
callee_known s false (Some c) h k = k

abbrev HaveBodies : F → Type 0
HaveBodies f = (i : ℕ) (e : EntryTree) → slice_get f.functions i ≡ Some e → is_some e.body ≡ e.is_defined

with_block : (r : Typing) (n : ℕ) (b : Option BlockTree) (f : F) → Known f.walked.scoping → HaveBodies f → (after_optional_body units.noting r n b f).walked.found ≡ None → HaveBodies (after_optional_body units.noting r n b f)
with_block r n None f k m h = m
with_block r n (Some b) f k m h =
    updated (λ e. is_some e.body ≡ e.is_defined) (with_body (body_at units.noting r (length f.objects) b f.walked)) n f.functions m (λ e is. body_there r (length f.objects) b f.walked k h)

block_before : (r : Typing) (n : ℕ) (b : Option BlockTree) (f : F) → (after_optional_body units.noting r n b f).walked.found ≡ None → f.walked.found ≡ None
block_before r n None f h = h
block_before r n (Some b) f h = (later_body r b f.walked).found h

block_starts : (r : Typing) (n : ℕ) (b : Option BlockTree) (f : F) → Known f.walked.scoping → AreStarts f.walked.statics.made → (after_optional_body units.noting r n b f).walked.found ≡ None
    → AreStarts (after_optional_body units.noting r n b f).walked.statics.made
block_starts r n None f k m h = m
block_starts r n (Some b) f k m h =
    let w = f.walked in
    let labels = labels_of w.scoping.text b.items in
    let q = after_items statements.noting r (before_body w) b.items in
    items_start r (before_body w) b.items k m (none_found q.walked.found (about_jumps labels (jumps_of w.scoping.text labels.labels b.items)) h).0

record Good (f : F) : Type 0 where
  names : Known f.walked.scoping
  bodies : HaveBodies f
  statics : AreStarts f.walked.statics.made

function_good : (defined : List ℕ → Bool) (g : FunctionTree) (f : F) → Good f → (after_function units.noting defined g f).walked.found ≡ None → Good (after_function units.noting defined g f)
unfolding after_function
function_good defined g f m h =
    let w = f.walked in
    let s = signature_of (here w) g in
    let q = spelled w.scoping.text g.name in
    let n = number_of f.functions (names_in w.scoping g.name) in
    let head = after_head units.noting defined g f in
    let i = on entering head in
    let x = on (after_parameters units.noting g.parameters) i in
    let hx : x.walked.found ≡ None = block_before (type_named (here w) g.specifiers) n g.body x h in
    let hh : head.walked.found ≡ None = (later_parameters g.parameters i.walked).found hx in
    let two = fails_if (is_redeclared f.functions s (is_some g.body) (names_in w.scoping g.name)) rule.Redeclared g.name.at in
    let three = fails_if (is_misused s (special q)) rule.Special g.name.at in
    let rows : word_failures (here w) g.specifiers ++ two ++ three ≡ [] = (none_found w.found (word_failures (here w) g.specifiers ++ two ++ three) hh).1 in
    let u : is_unknown (type_named (here w) g.specifiers) ≡ false = known_type (here w) (types_are (here w) m.names) g.specifiers (none_before (word_failures (here w) g.specifiers) two (none_before (word_failures (here w) g.specifiers ++ two) three rows)) in
    let callee = callee_of s (defined q) (special q) in
    let kh : Known head.walked.scoping = known_declaring w.scoping g.name (declared.Function (record { number = n; callee = callee })) m.names (callee_known s (defined q) (special q) u (special_known q)) in
    let heads = new_entries (λ e. is_some e.body ≡ e.is_defined) f.functions n (text_of w.scoping g.name) s m.bodies refl in
    let kx : Known x.walked.scoping = parameters_known g.parameters i.walked (known_opened head.walked.scoping kh) hx in
    record {
      names = kh;
      bodies = with_block (type_named (here w) g.specifiers) n g.body x kx heads h;
      statics = block_starts (type_named (here w) g.specifiers) n g.body x kx (subst (λ (s : StaticsTree). AreStarts s.made) (sym (parameters_statics g.parameters i.walked)) m.statics) h;
    }

external_good : (defined : List ℕ → Bool) (x : ExternalTree) (f : F) → Good f → (after_external units.noting defined x f).walked.found ≡ None → Good (after_external units.noting defined x f)
external_good defined (function g) f m h = function_good defined g f m h
external_good defined (objects storage d) f m h = record {
  names = declaration_known storage d f m.names h;
  bodies = λ i e is. m.bodies i e (ap (λ (es : List EntryTree). slice_get es i) (sym (declaration_keeps storage d f)) ∙ is);
  statics = subst (λ (s : StaticsTree). AreStarts s.made) (sym (file_declaration_statics storage d f)) m.statics;
}
external_good defined (type_names d) f m h = record {
  names = typedef_known d f.walked m.names h;
  bodies = m.bodies;
  statics = subst (λ (s : StaticsTree). AreStarts s.made) (sym (typedef_statics d f.walked)) m.statics;
}

externals_good : (defined : List ℕ → Bool) (xs : List ExternalTree) (f : F) → Good f → (after_externals units.noting defined xs f).walked.found ≡ None → Good (after_externals units.noting defined xs f)
unfolding after_externals
externals_good defined [] f m h = m
externals_good defined (x ∷ xs) f m h =
    let g = after_external units.noting defined x f in
    externals_good defined xs g (external_good defined x f m ((externals_later defined xs g).found h)) h

nothing_known : (text : List ℕ) (n : ℕ) → Known (nothing_filed {F = Option Failure} None text n).walked.scoping
unfolding names_in
nothing_known text n x = tt

text_good : (text : List ℕ) (xs : List ExternalTree) → (checked units.noting None text xs).walked.found ≡ None → Good (checked units.noting None text xs)
text_good text xs h =
    externals_good (defined_in text xs no_name) xs (nothing_filed None text (objects_in xs)) (record { names = nothing_known text (objects_in xs); bodies = λ i e is. absurd (none-some e is); statics = no_starts }) h

pub functions_have_bodies : FunctionsHaveBodies
functions_have_bodies text xs h = (text_good text xs h).bodies

pub units_are_well_typed : AcceptedUnitsAreWellTyped
units_are_well_typed text xs has h =
    let f = checked units.noting None text xs in
    let is = texts_are_well_typed text xs has h in
    record { objects = starts_together f.objects f.walked.statics.made is.objects (text_good text xs h).statics; functions = is.functions }
