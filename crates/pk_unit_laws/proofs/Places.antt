-- Each place of a typed unit is a place in its trees.
use Rattle.std.proofs.Common.{◌≡◌, ℕ, zero, suc, Bool, true, false, List, [], ◌∷◌, ◌++◌, Option, Some, None, length, if◌then◌else◌, nat_eq}
use Rattle.std.specs.Prelude.{All, IfSome, map}
use Rattle.std.specs.Option.{option_map}
use Rattle.std.proofs.lemmas.List.Elements.{All-nil, All-cons, All-head, All-tail, All-push}
use Rattle.pk_ast.specs.declared.expressions.Identifier.{Identifier}
use Rattle.pk_ast.specs.declared.units.Storage.{Storage}
use Rattle.pk_ast.specs.Trees.{DeclaratorTree, BlockTree, ParameterTree, FunctionTree, ExternalTree, function, objects, type_names}
use Rattle.pk_typed.specs.Trees as tree
use Rattle.pk_typed.specs.Trees.{BodyTree}
use Rattle.pk_type_scope.specs.declared.declarations.Typing.{Typing}
use Rattle.pk_type_scope.specs.Specifiers.{type_named}
use Rattle.pk_type_declaration.specs.declared.words.Words.{Words}
use Rattle.pk_type_declaration.specs.Enumerations.{words_at, after_words}
use Rattle.pk_type_declaration.specs.Walks.{Walked, here, entering}
use Rattle.pk_type_jump.specs.Labels.{labels_of}
use Rattle.pk_type_statement.specs.Trees.{typed_items}
use Rattle.pk_type.specs.Files as files
use Rattle.pk_type.specs.Files.{EntryTree, Filed, UnitChecks}
use Rattle.pk_type.specs.Functions as functions
use Rattle.pk_type.specs.Functions.{after_parameter, after_parameters, with_new, body_of, body_at, after_body, before_body, with_body, update_at, number_of, after_optional_body, after_function}
use Rattle.pk_type.specs.Rules.{noting}
use Rattle.pk_type.specs.Signatures.{SignatureTree, signature_of}
use Rattle.pk_type.specs.Units.{after_external, after_externals, nothing_filed, checked, defined_in, no_name, objects_in, function_of, unit_of}
use Rattle.pk_places_laws.specs.Places.{OfPlaces, InItems, InBody, InUnit}
use Rattle.pk_unit_laws.specs.Trees.{InBlock, InExternal, InExternals}
use Rattle.pk_unit_laws.specs.Laws.{PlacesAreTheTexts}
use Rattle.pk_unit_laws.proofs.Walks.{Sited}
use Rattle.pk_unit_laws.proofs.Statements.{items_sited, items_there}

-- ---- parameters make no call

parameter_sited : {F : Type 0} (P : OfPlaces) (c : UnitChecks F) (p : ParameterTree) (x : Option Identifier) (w : Walked F) → Sited P w → Sited P (functions.after_parameter_name c p x w)
parameter_sited P c p None w z = z
parameter_sited P c p (Some x) w z = z

parameters_sited : {F : Type 0} (P : OfPlaces) (c : UnitChecks F) (ps : List ParameterTree) (w : Walked F) → Sited P w → Sited P (after_parameters c ps w)
unfolding after_parameters
parameters_sited P c [] w z = z
parameters_sited P c (p ∷ ps) w z = parameters_sited P c ps (after_parameter c p w) (parameter_sited P c p p.name _ z)

-- ---- functions

-- the places of a function's body are such
abbrev Placed : OfPlaces → EntryTree → Type 0
Placed P e = IfSome e.body (InBody P)

-- what stands before a place of the file
record AllPlaced {F : Type 0} (P : OfPlaces) (f : Filed F) : Type 0 where
  pub walked : Sited P f.walked
  pub functions : All (Placed P) f.functions

new_placed : (P : OfPlaces) (es : List EntryTree) (n : ℕ) (name : List ℕ) (s : SignatureTree) → All (Placed P) es → All (Placed P) (with_new es n name s)
new_placed P es n name s z = chosen (nat_eq n (length es))
  where
    chosen : (b : Bool) → All (Placed P) (if b then es ++ record { name = name; signature = s; is_defined = false; body = None } ∷ [] else es)
    chosen true = All-push (Placed P) es _ z tt
    chosen false = z

updated_placed : (P : OfPlaces) (n : ℕ) (body : Option BodyTree) (es : List EntryTree) → IfSome body (InBody P) → All (Placed P) es → All (Placed P) (update_at n (with_body body) es)
updated_placed P n body [] q z = z
updated_placed P zero body (e ∷ es) q z = All-cons (Placed P) (with_body body e) es q (All-tail (Placed P) e es z)
updated_placed P (suc n) body (e ∷ es) q z = All-cons (Placed P) e (update_at n (with_body body) es) (All-head (Placed P) e es z) (updated_placed P n body es q (All-tail (Placed P) e es z))

made_placed : {F : Type 0} (P : OfPlaces) (b : BlockTree) (visible labels : ℕ) (w : Walked F) (is : Option tree.ItemTrees) → P b.opened → P b.closed → Sited P w → IfSome is (InItems P) →
    IfSome (option_map (body_of b visible labels w) is) (InBody P)
made_placed P b visible labels w None o c z h = tt
made_placed P b visible labels w (Some is) o c z h = record { opened = o; closed = c; calls = z; items = h }

body_placed : {F : Type 0} (P : OfPlaces) (c : UnitChecks F) (r : Typing) (n : ℕ) (b : Option BlockTree) (f : Filed F) → InBlock P b → AllPlaced P f → All (Placed P) (after_optional_body c r n b f).functions
body_placed P c r n None f h z = z.functions
body_placed P c r n (Some b) f h z =
    let w = f.walked in
    let labels = labels_of w.scoping.text b.items in
    updated_placed P n (body_at c r (length f.objects) b w) f.functions
    (made_placed P b (length f.objects) labels.count (after_body c r b w) (typed_items c.statements r labels.labels (before_body w) b.items) h.0 h.2 (items_sited P c.statements r (before_body w) b.items h.1 z.walked)
    (items_there P c.statements r labels.labels (before_body w) b.items h.1)) z.functions

function_placed : {F : Type 0} (P : OfPlaces) (c : UnitChecks F) (defined : List ℕ → Bool) (f : FunctionTree) (file : Filed F) → InBlock P f.body → AllPlaced P file → AllPlaced P (after_function c defined f file)
unfolding after_function
function_placed P c defined f file h z =
    let head = functions.after_head c defined f file in
    let i = files.on (after_parameters c f.parameters) (files.on entering head) in
    let n = number_of file.functions (here file.walked f.name) in
    let within : AllPlaced P i = record {
      walked = parameters_sited P c f.parameters (entering head.walked) z.walked;
      functions = new_placed P file.functions n _ (signature_of (here file.walked) f) z.functions;
    } in
    record { walked = All-nil _; functions = body_placed P c (type_named (here file.walked) f.specifiers) n f.body i h within }

-- ---- texts

objects_placed : {F : Type 0} (P : OfPlaces) (c : UnitChecks F) (storage : Option Storage) (words : Words) (ds : List DeclaratorTree) (f : Filed F) → All (Placed P) f.functions → All (Placed P) (files.after_objects c storage words ds f).functions
unfolding files.after_objects files.after_object
objects_placed P c storage words [] f z = z
objects_placed P c storage words (d ∷ ds) f z = objects_placed P c storage words ds (files.after_object c storage words d f) z

external_placed : {F : Type 0} (P : OfPlaces) (c : UnitChecks F) (defined : List ℕ → Bool) (x : ExternalTree) (f : Filed F) → InExternal P x → AllPlaced P f → AllPlaced P (after_external c defined x f)
unfolding files.after_declaration
external_placed P c defined (function g) f h z = function_placed P c defined g f h z
external_placed P c defined (objects s d) f h z = record {
  walked = All-nil _;
  functions = objects_placed P c s (words_at (here f.walked) d.specifiers d.enumeration) d.declarators (files.on (after_words c.statements.declarations d.specifiers d.enumeration) f) z.functions;
}
external_placed P c defined (type_names d) f h z = record { walked = All-nil _; functions = z.functions }

externals_placed : {F : Type 0} (P : OfPlaces) (c : UnitChecks F) (defined : List ℕ → Bool) (xs : List ExternalTree) (f : Filed F) → InExternals P xs → AllPlaced P f → AllPlaced P (after_externals c defined xs f)
unfolding after_externals
externals_placed P c defined [] f h z = z
externals_placed P c defined (x ∷ xs) f h z = externals_placed P c defined xs (after_external c defined x f) h.1 (external_placed P c defined x f h.0 z)

functions_are : (P : OfPlaces) (es : List EntryTree) → All (Placed P) es → All (λ (f : tree.FunctionTree). IfSome f.body (InBody P)) (map function_of es)
functions_are P [] h = All-nil _
functions_are P (e ∷ es) h = All-cons (λ (f : tree.FunctionTree). IfSome f.body (InBody P)) (function_of e) (map function_of es) (All-head (Placed P) e es h) (functions_are P es (All-tail (Placed P) e es h))

unit_placed : {F : Type 0} (P : OfPlaces) (f : Filed F) → AllPlaced P f → InUnit P (unit_of f)
unit_placed P f h = functions_are P f.functions h.functions

pub places_told : (P : OfPlaces) (text : List ℕ) (xs : List ExternalTree) → InExternals P xs → InUnit P (unit_of (checked noting None text xs))
places_told P text xs h =
    let before : AllPlaced P (nothing_filed None text (objects_in xs)) = record { walked = All-nil _; functions = All-nil _ } in
    unit_placed P (checked noting None text xs) (externals_placed P noting (defined_in text xs no_name) xs _ h before)

pub places_are_the_texts : PlacesAreTheTexts
places_are_the_texts text xs test h = places_told (λ at. test at ≡ true) text xs h
