-- The operators and the calls in the bodies of a typed unit count no more than those of the trees of its text.
use Rattle.std.proofs.Common.{ℕ, zero, suc, ◌≤◌, Bool, true, false, List, [], ◌∷◌, ◌++◌, Option, Some, None, length, if◌then◌else◌, nat_eq, arith}
use Rattle.std.specs.Prelude.{All, IfSome, map, slice_index_or}
use Rattle.std.specs.Option.{option_map}
use Rattle.std.proofs.lemmas.List.Elements.{All-nil, All-cons, All-head, All-tail, All-push}
use Rattle.pk_ast.specs.declared.expressions.Identifier.{Identifier}
use Rattle.pk_ast.specs.Trees.{DeclaratorTree, BlockTree, ParameterTree, FunctionTree, ExternalTree, function, objects, type_names}
use Rattle.pk_ast.specs.declared.units.Storage.{Storage}
use Rattle.pk_typed.specs.Trees as tree
use Rattle.pk_typed.specs.Trees.{BodyTree}
use Rattle.pk_type_scope.specs.declared.declarations.Typing.{Typing}
use Rattle.pk_type_scope.specs.Specifiers.{type_named}
use Rattle.pk_type_declaration.specs.declared.words.Words.{Words}
use Rattle.pk_type_declaration.specs.Enumerations.{words_at, after_words}
use Rattle.pk_type_declaration.specs.Walks.{Walked, here, entering}
use Rattle.pk_type_jump.specs.Labels.{labels_of}
use Rattle.pk_type_statement.specs.Trees.{typed_items}
use Rattle.pk_type.specs.Files as files
use Rattle.pk_type.specs.Files.{EntryTree, Filed, UnitChecks}
use Rattle.pk_type.specs.Functions as functions
use Rattle.pk_type.specs.Functions.{after_parameter, after_parameters, with_new, body_of, body_at, after_body, before_body, with_body, update_at, number_of, after_optional_body, after_function}
use Rattle.pk_type.specs.Rules.{noting}
use Rattle.pk_type.specs.Signatures.{SignatureTree, signature_of}
use Rattle.pk_type.specs.Units.{after_external, after_externals, nothing_filed, checked, defined_in, no_name, objects_in, function_of, unit_of}
use Rattle.pk_access_laws.specs.Operators as made
use Rattle.pk_access_laws.specs.Operators.{Counting, if_some}
use Rattle.pk_access_laws.specs.Laws.{in_calls}
use Rattle.pk_operator_laws.specs.Trees.{in_block, in_external, in_externals}
use Rattle.pk_operator_laws.specs.Laws.{OperatorsAreTheTrees, CallsAreTheTrees}
use Rattle.pk_operator_laws.proofs.Calls.{so_far, items_sited}
use Rattle.pk_operator_laws.proofs.Statements.{items_there}

-- the operators of a body count no more than m, and so do its calls
record AtMost (q : Counting) (m : ℕ) (b : BodyTree) : Type 0 where
  pub operators : made.in_items q b.items ≤ m
  pub calls : in_calls q b.calls ≤ m

abbrev Placed : Counting → ℕ → EntryTree → Type 0
Placed q m e = IfSome e.body (AtMost q m)

-- before a place of the file, where no function's body stands
record AllPlaced {F : Type 0} (q : Counting) (m : ℕ) (f : Filed F) : Type 0 where
  pub walked : so_far q f.walked ≤ 0
  pub functions : All (Placed q m) f.functions

parameter_sited : {F : Type 0} (q : Counting) (c : UnitChecks F) (p : ParameterTree) (x : Option Identifier) (w : Walked F) → so_far q (functions.after_parameter_name c p x w) ≤ so_far q w
parameter_sited q c p None w = omega arith
parameter_sited q c p (Some x) w = omega arith

one_sited : {F : Type 0} (q : Counting) (c : UnitChecks F) (p : ParameterTree) (w : Walked F) → so_far q (after_parameter c p w) ≤ so_far q w
one_sited q c p w = parameter_sited q c p p.name _

parameters_sited : {F : Type 0} (q : Counting) (c : UnitChecks F) (ps : List ParameterTree) (w : Walked F) → so_far q (after_parameters c ps w) ≤ so_far q w
unfolding after_parameters
parameters_sited q c [] w = omega arith
parameters_sited q c (p ∷ ps) w = omega (arith, parameters_sited q c ps (after_parameter c p w), one_sited q c p w)

new_placed : (q : Counting) (m : ℕ) (es : List EntryTree) (n : ℕ) (name : List ℕ) (s : SignatureTree) → All (Placed q m) es → All (Placed q m) (with_new es n name s)
new_placed q m es n name s z = chosen (nat_eq n (length es))
  where
    chosen : (b : Bool) → All (Placed q m) (if b then es ++ record { name = name; signature = s; is_defined = false; body = None } ∷ [] else es)
    chosen true = All-push (Placed q m) es _ z tt
    chosen false = z

updated_placed : (q : Counting) (m n : ℕ) (body : Option BodyTree) (es : List EntryTree) → IfSome body (AtMost q m) → All (Placed q m) es → All (Placed q m) (update_at n (with_body body) es)
updated_placed q m n body [] k z = z
updated_placed q m zero body (e ∷ es) k z = All-cons (Placed q m) (with_body body e) es k (All-tail (Placed q m) e es z)
updated_placed q m (suc n) body (e ∷ es) k z =
    All-cons (Placed q m) e (update_at n (with_body body) es) (All-head (Placed q m) e es z) (updated_placed q m n body es k (All-tail (Placed q m) e es z))

made_placed : {F : Type 0} (q : Counting) (m : ℕ) (b : BlockTree) (visible labels : ℕ) (w : Walked F) (is : Option tree.ItemTrees) → if_some (made.in_items q) is ≤ m → so_far q w ≤ m → IfSome (option_map (body_of b visible labels w) is) (AtMost q m)
made_placed q m b visible labels w None h k = tt
made_placed q m b visible labels w (Some is) h k = record { operators = h; calls = k }

body_placed : {F : Type 0} (q : Counting) (m : ℕ) (c : UnitChecks F) (r : Typing) (n : ℕ) (b : Option BlockTree) (f : Filed F) → in_block q b ≤ m → AllPlaced q m f → All (Placed q m) (after_optional_body c r n b f).functions
body_placed q m c r n None f h z = z.functions
body_placed q m c r n (Some b) f h z =
    let w = f.walked in
    let labels = labels_of w.scoping.text b.items in
    let here : so_far q w ≤ 0 = z.walked in
    updated_placed q m n (body_at c r (length f.objects) b w) f.functions
    (made_placed q m b (length f.objects) labels.count (after_body c r b w) (typed_items c.statements r labels.labels (before_body w) b.items) (omega (arith, items_there q c.statements r labels.labels (before_body w) b.items, h))
    (omega (arith, items_sited q c.statements r (before_body w) b.items, h, here))) z.functions

function_placed : {F : Type 0} (q : Counting) (m : ℕ) (c : UnitChecks F) (defined : List ℕ → Bool) (f : FunctionTree) (file : Filed F) → in_block q f.body ≤ m → AllPlaced q m file → AllPlaced q m (after_function c defined f file)
unfolding after_function
function_placed q m c defined f file h z =
    let head = functions.after_head c defined f file in
    let i = files.on (after_parameters c f.parameters) (files.on entering head) in
    let n = number_of file.functions (here file.walked f.name) in
    let before : so_far q (entering head.walked) ≤ 0 = z.walked in
    let within : AllPlaced q m i = record {
      walked = omega (arith, parameters_sited q c f.parameters (entering head.walked), before);
      functions = new_placed q m file.functions n _ (signature_of (here file.walked) f) z.functions;
    } in
    record { walked = omega arith; functions = body_placed q m c (type_named (here file.walked) f.specifiers) n f.body i h within }

-- ---- texts

objects_placed : {F : Type 0} (q : Counting) (m : ℕ) (c : UnitChecks F) (storage : Option Storage) (words : Words) (ds : List DeclaratorTree) (f : Filed F) → All (Placed q m) f.functions → All (Placed q m) (files.after_objects c storage words ds f).functions
unfolding files.after_objects files.after_object
objects_placed q m c storage words [] f z = z
objects_placed q m c storage words (d ∷ ds) f z = objects_placed q m c storage words ds (files.after_object c storage words d f) z

external_placed : {F : Type 0} (q : Counting) (m : ℕ) (c : UnitChecks F) (defined : List ℕ → Bool) (x : ExternalTree) (f : Filed F) → in_external q x ≤ m → AllPlaced q m f → AllPlaced q m (after_external c defined x f)
unfolding files.after_declaration
external_placed q m c defined (function g) f h z = function_placed q m c defined g f h z
external_placed q m c defined (objects s d) f h z = record {
  walked = omega arith;
  functions = objects_placed q m c s (words_at (here f.walked) d.specifiers d.enumeration) d.declarators (files.on (after_words c.statements.declarations d.specifiers d.enumeration) f) z.functions;
}
external_placed q m c defined (type_names d) f h z = record { walked = omega arith; functions = z.functions }

externals_placed : {F : Type 0} (q : Counting) (m : ℕ) (c : UnitChecks F) (defined : List ℕ → Bool) (xs : List ExternalTree) (f : Filed F) → in_externals q xs ≤ m → AllPlaced q m f → AllPlaced q m (after_externals c defined xs f)
unfolding after_externals
externals_placed q m c defined [] f h z = z
externals_placed q m c defined (x ∷ xs) f h z =
    externals_placed q m c defined xs (after_external c defined x f) (omega (arith, h)) (external_placed q m c defined x f (omega (arith, h)) z)

functions_are : (q : Counting) (m : ℕ) (es : List EntryTree) → All (Placed q m) es → All (λ (f : tree.FunctionTree). IfSome f.body (AtMost q m)) (map function_of es)
functions_are q m [] h = All-nil _
functions_are q m (e ∷ es) h =
    All-cons (λ (f : tree.FunctionTree). IfSome f.body (AtMost q m)) (function_of e) (map function_of es) (All-head (Placed q m) e es h) (functions_are q m es (All-tail (Placed q m) e es h))

all_told : (text : List ℕ) (xs : List ExternalTree) (q : Counting) → All (λ (f : tree.FunctionTree). IfSome f.body (AtMost q (in_externals q xs))) (unit_of (checked noting None text xs)).functions
all_told text xs q =
    let m = in_externals q xs in
    let f = checked noting None text xs in
    let before : AllPlaced q m (nothing_filed None text (objects_in xs)) = record { walked = omega arith; functions = All-nil _ } in
    functions_are q m f.functions (externals_placed q m noting (defined_in text xs no_name) xs (nothing_filed None text (objects_in xs)) (omega arith) before).functions

-- of what a body has two of, one
each : (A B : BodyTree → Type 0) → ((b : BodyTree) → A b → B b) → (o : Option BodyTree) → IfSome o A → IfSome o B
each A B f None h = tt
each A B f (Some b) h = f b h

pub operators_are_the_trees : OperatorsAreTheTrees
operators_are_the_trees text xs q =
    λ k d l. each (AtMost q (in_externals q xs)) (λ (b : BodyTree). made.in_items q b.items ≤ in_externals q xs) (λ b h. h.operators) (slice_index_or (unit_of (checked noting None text xs)).functions k d).body (all_told text xs q k d l)

pub calls_are_the_trees : CallsAreTheTrees
calls_are_the_trees text xs q =
    λ k d l. each (AtMost q (in_externals q xs)) (λ (b : BodyTree). in_calls q b.calls ≤ in_externals q xs) (λ b h. h.calls) (slice_index_or (unit_of (checked noting None text xs)).functions k d).body (all_told text xs q k d l)
