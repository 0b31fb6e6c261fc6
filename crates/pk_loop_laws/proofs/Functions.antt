-- The loops in the bodies of a typed unit count no more than those of the trees of its text.
use Rattle.std.proofs.Common.{ℕ, zero, suc, ◌≤◌, Bool, true, false, List, [], ◌∷◌, ◌++◌, Option, Some, None, length, if◌then◌else◌, nat_eq, arith}
use Rattle.std.specs.Prelude.{All, IfSome, map}
use Rattle.std.specs.Option.{option_map}
use Rattle.std.proofs.lemmas.List.Elements.{All-nil, All-cons, All-head, All-tail, All-push}
use Rattle.pk_ast.specs.Trees.{DeclaratorTree, BlockTree, FunctionTree, ExternalTree, function, objects, type_names}
use Rattle.pk_ast.specs.declared.units.Storage.{Storage}
use Rattle.pk_typed.specs.Trees as tree
use Rattle.pk_typed.specs.Trees.{BodyTree}
use Rattle.pk_type_scope.specs.declared.declarations.Typing.{Typing}
use Rattle.pk_type_scope.specs.Specifiers.{type_named}
use Rattle.pk_type_declaration.specs.declared.words.Words.{Words}
use Rattle.pk_type_declaration.specs.Enumerations.{words_at, after_words}
use Rattle.pk_type_declaration.specs.Walks.{Walked, here, entering}
use Rattle.pk_type_jump.specs.Labels.{labels_of}
use Rattle.pk_type_statement.specs.Trees.{typed_items}
use Rattle.pk_type.specs.Files as files
use Rattle.pk_type.specs.Files.{EntryTree, Filed, UnitChecks}
use Rattle.pk_type.specs.Functions as functions
use Rattle.pk_type.specs.Functions.{after_parameters, with_new, body_of, body_at, after_body, before_body, with_body, update_at, number_of, after_optional_body, after_function}
use Rattle.pk_type.specs.Rules.{noting}
use Rattle.pk_type.specs.Signatures.{SignatureTree, signature_of}
use Rattle.pk_type.specs.Units.{after_external, after_externals, nothing_filed, checked, defined_in, no_name, objects_in, function_of}
use Rattle.pk_access_laws.specs.Operators.{Counting, if_some}
use Rattle.pk_loop_laws.specs.Loops.{loops_in_items}
use Rattle.pk_loop_laws.specs.Trees.{block_loops, external_loops, all_loops}
use Rattle.pk_loop_laws.specs.Laws.{LoopsAreTheTrees}
use Rattle.pk_loop_laws.proofs.Statements.{items_there}

-- each body of the functions that were declared so far
abbrev EachBody : (BodyTree → Type 0) → List EntryTree → Type 0
EachBody P es = All (λ (e : EntryTree). IfSome e.body P) es

new_entry : (P : BodyTree → Type 0) (es : List EntryTree) (n : ℕ) (name : List ℕ) (s : SignatureTree) → EachBody P es → EachBody P (with_new es n name s)
new_entry P es n name s z = chosen (nat_eq n (length es))
  where
    chosen : (b : Bool) → EachBody P (if b then es ++ record { name = name; signature = s; is_defined = false; body = None } ∷ [] else es)
    chosen true = All-push (λ (e : EntryTree). IfSome e.body P) es _ z tt
    chosen false = z

given_body : (P : BodyTree → Type 0) (n : ℕ) (body : Option BodyTree) (es : List EntryTree) → IfSome body P → EachBody P es → EachBody P (update_at n (with_body body) es)
given_body P n body [] k z = z
given_body P zero body (e ∷ es) k z =
    let each = λ (e : EntryTree). IfSome e.body P in All-cons each (with_body body e) es k (All-tail each e es z)
given_body P (suc n) body (e ∷ es) k z =
    let each = λ (e : EntryTree). IfSome e.body P in
    All-cons each e (update_at n (with_body body) es) (All-head each e es z) (given_body P n body es k (All-tail each e es z))

after_objects : {F : Type 0} (P : BodyTree → Type 0) (c : UnitChecks F) (storage : Option Storage) (words : Words) (ds : List DeclaratorTree) (f : Filed F) → EachBody P f.functions → EachBody P (files.after_objects c storage words ds f).functions
unfolding files.after_objects files.after_object
after_objects P c storage words [] f z = z
after_objects P c storage words (d ∷ ds) f z = after_objects P c storage words ds (files.after_object c storage words d f) z

in_unit : (P : BodyTree → Type 0) (es : List EntryTree) → EachBody P es → All (λ (f : tree.FunctionTree). IfSome f.body P) (map function_of es)
in_unit P [] h = All-nil _
in_unit P (e ∷ es) h =
    let each = λ (e : EntryTree). IfSome e.body P in
    All-cons (λ (f : tree.FunctionTree). IfSome f.body P) (function_of e) (map function_of es) (All-head each e es h) (in_unit P es (All-tail each e es h))

-- ---- loops

abbrev AtMost : Counting → ℕ → BodyTree → Type 0
AtMost q m b = loops_in_items q b.items ≤ m

made_body : {F : Type 0} (q : Counting) (m : ℕ) (b : BlockTree) (visible labels : ℕ) (w : Walked F) (is : Option tree.ItemTrees) → if_some (loops_in_items q) is ≤ m → IfSome (option_map (body_of b visible labels w) is) (AtMost q m)
made_body q m b visible labels w None h = tt
made_body q m b visible labels w (Some is) h = h

optional_body : {F : Type 0} (q : Counting) (m : ℕ) (c : UnitChecks F) (r : Typing) (n : ℕ) (b : Option BlockTree) (f : Filed F) → block_loops q b ≤ m → EachBody (AtMost q m) f.functions → EachBody (AtMost q m) (after_optional_body c r n b f).functions
optional_body q m c r n None f h z = z
optional_body q m c r n (Some b) f h z =
    let w = f.walked in
    let labels = labels_of w.scoping.text b.items in
    given_body (AtMost q m) n (body_at c r (length f.objects) b w) f.functions
    (made_body q m b (length f.objects) labels.count (after_body c r b w) (typed_items c.statements r labels.labels (before_body w) b.items) (omega (arith, items_there q c.statements r labels.labels (before_body w) b.items, h))) z

one_function : {F : Type 0} (q : Counting) (m : ℕ) (c : UnitChecks F) (defined : List ℕ → Bool) (f : FunctionTree) (file : Filed F) → block_loops q f.body ≤ m → EachBody (AtMost q m) file.functions → EachBody (AtMost q m) (after_function c defined f file).functions
unfolding after_function
one_function q m c defined f file h z =
    let n = number_of file.functions (here file.walked f.name) in
    optional_body q m c (type_named (here file.walked) f.specifiers) n f.body (files.on (after_parameters c f.parameters) (files.on entering (functions.after_head c defined f file))) h
    (new_entry (AtMost q m) file.functions n _ (signature_of (here file.walked) f) z)

one_external : {F : Type 0} (q : Counting) (m : ℕ) (c : UnitChecks F) (defined : List ℕ → Bool) (x : ExternalTree) (f : Filed F) → external_loops q x ≤ m → EachBody (AtMost q m) f.functions → EachBody (AtMost q m) (after_external c defined x f).functions
unfolding files.after_declaration
one_external q m c defined (function g) f h z = one_function q m c defined g f h z
one_external q m c defined (objects s d) f h z =
    after_objects (AtMost q m) c s (words_at (here f.walked) d.specifiers d.enumeration) d.declarators (files.on (after_words c.statements.declarations d.specifiers d.enumeration) f) z
one_external q m c defined (type_names d) f h z = z

all_externals : {F : Type 0} (q : Counting) (m : ℕ) (c : UnitChecks F) (defined : List ℕ → Bool) (xs : List ExternalTree) (f : Filed F) → all_loops q xs ≤ m → EachBody (AtMost q m) f.functions → EachBody (AtMost q m) (after_externals c defined xs f).functions
unfolding after_externals
all_externals q m c defined [] f h z = z
all_externals q m c defined (x ∷ xs) f h z =
    all_externals q m c defined xs (after_external c defined x f) (omega (arith, h)) (one_external q m c defined x f (omega (arith, h)) z)

pub loops_are_the_trees : LoopsAreTheTrees
loops_are_the_trees text xs q =
    let m = all_loops q xs in
    in_unit (AtMost q m) (checked noting None text xs).functions
    (all_externals q m noting (defined_in text xs no_name) xs (nothing_filed None text (objects_in xs)) (omega arith) (All-nil _))
