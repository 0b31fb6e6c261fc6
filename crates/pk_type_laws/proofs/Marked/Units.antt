-- In units of accepted texts labels, cases and defaults stand once.
use Rattle.std.proofs.Common.{◌≡◌, ℕ, Bool, false, List, [], ◌∷◌, ◌++◌, Option, Some, None, length, map, refl, ap, sym, subst, ◌∙◌, arith}
use Rattle.std.proofs.lemmas.Option.{none-some, slice_get-map, slice_get-get_or}
use Rattle.std.specs.Prelude.{slice_get, slice_index_or, unwrap_or}
use Rattle.std.specs.Option.{option_map}
use Rattle.pk_ctypes.specs.declared.places.Pos.{Pos}
use Rattle.pk_ctypes.specs.declared.words.Rule.{Rule}
use Rattle.pk_ctypes.specs.declared.words.Rule.TheVariants as rule
use Rattle.pk_ast.specs.declared.units.Storage.{Storage}
use Rattle.pk_ast.specs.Trees.{BlockTree, FunctionTree, DeclaratorTree, DeclarationTree, ExternalTree, function, objects, type_names}
use Rattle.pk_typed.specs.Trees as tree
use Rattle.pk_type_scope.specs.declared.declarations.Typing.{Typing}
use Rattle.pk_type_scope.specs.Scopes.{names_in}
use Rattle.pk_type_scope.specs.Specifiers.{type_named}
use Rattle.pk_type_declaration.specs.declared.words.Words.{Words}
use Rattle.pk_type_declaration.specs.Declarations.{text_of}
use Rattle.pk_type_declaration.specs.Enumerations.{words_at, after_words}
use Rattle.pk_type_declaration.specs.Walks.{here, entering}
use Rattle.pk_type_declaration.specs.Rules as declarations
use Rattle.pk_type_jump.specs.Jumps.{around_body, nothing_jumped, jumps_of}
use Rattle.pk_type_jump.specs.Labels.{nothing_listed, outermost, labels_of}
use Rattle.pk_type_statement.specs.Statements.{after_items}
use Rattle.pk_type_statement.specs.Trees.{typed_items}
use Rattle.pk_type_statement.specs.Rules as statements
use Rattle.pk_type.specs.Files.{EntryTree, after_object, after_objects, after_declaration, on}
use Rattle.pk_type.specs.Functions.{after_parameters, number_of, after_head, before_body, after_body, body_of, body_at, with_body, after_optional_body, after_function}
use Rattle.pk_type.specs.Signatures.{signature_of}
use Rattle.pk_type.specs.Units.{no_name, defined_in, objects_in, after_external, after_externals, nothing_filed, checked, function_of}
use Rattle.pk_type.specs.Rules as units
use Rattle.pk_type.specs.Rules.{each_at, about_jumps}
use Rattle.pk_welltyped.specs.Marks.{IsMarkedIf}
use Rattle.pk_type_laws.proofs.Accepted.Walks.{W, none_found}
use Rattle.pk_type_laws.proofs.Accepted.Files.{F}
use Rattle.pk_type_laws.proofs.Accepted.Units.{new_entries, updated, externals_later}
use Rattle.pk_type_laws.proofs.Accepted.Jumps.{none_before, none_after}
use Rattle.pk_type_laws.specs.Marked.Laws.{AcceptedUnitsAreMarked}
use Rattle.pk_type_laws.proofs.Marked.Statements.{ItemsMarkedIf, walk_items}
use Rattle.pk_type_laws.proofs.Marked.Targets.{ItemTargetsIf, reaches_all}

none_at : (r : Rule) (xs : List Pos) → each_at r xs ≡ [] → xs ≡ []
none_at r [] h = refl
none_at r (x ∷ xs) h = absurd (cc)

made : (b : BlockTree) (visible count n : ℕ) (y : Bool) (x : W) (is : Option tree.ItemTrees) → ItemsMarkedIf 0 count 0 n false y is → ItemTargetsIf false false is → IsMarkedIf (option_map (body_of b visible count x) is)
made b visible count n y x None h t = tt
made b visible count n y x (Some is) h t = record { labels = λ l k. (h.labels l).inside (omega arith) k; cases = h.all; targets = t }

body : (r : Typing) (visible : ℕ) (b : BlockTree) (w : W) → (after_body units.noting r b w).found ≡ None → IsMarkedIf (body_at units.noting r visible b w)
body r visible b w h =
    let text = w.scoping.text in
    let labels = labels_of text b.items in
    let jumps = jumps_of text labels.labels b.items in
    let start = before_body w in
    let q = after_items statements.noting r start b.items in
    let rows : each_at rule.Label labels.repeated ++ each_at rule.Label jumps.unknown ++ each_at rule.Jump jumps.misplaced ≡ [] = (none_found q.walked.found (about_jumps labels jumps) h).1 in
    let first : each_at rule.Label labels.repeated ++ each_at rule.Label jumps.unknown ≡ [] = none_before (each_at rule.Label labels.repeated ++ each_at rule.Label jumps.unknown) (each_at rule.Jump jumps.misplaced) rows in
    let repeated : labels.repeated ≡ [] = none_at rule.Label labels.repeated (none_before (each_at rule.Label labels.repeated) (each_at rule.Label jumps.unknown) first) in
    let placed : jumps.misplaced ≡ [] = none_at rule.Jump jumps.misplaced (none_after (each_at rule.Label labels.repeated ++ each_at rule.Label jumps.unknown) (each_at rule.Jump jumps.misplaced) rows) in
    made b visible labels.count (length q.cases) q.has_default (after_body units.noting r b w) (typed_items statements.noting r labels.labels start b.items)
    (walk_items text labels.labels r around_body nothing_jumped outermost nothing_listed start b.items refl repeated (λ x l e. e) refl placed)
    (reaches_all text labels.labels r around_body nothing_jumped start b.items placed)

-- ---- the file

abbrev EntriesMarked : F → Type 0
EntriesMarked f = (i : ℕ) (e : EntryTree) → slice_get f.functions i ≡ Some e → IsMarkedIf e.body

objects_keep : (storage : Option Storage) (words : Words) (ds : List DeclaratorTree) (f : F) → (after_objects units.noting storage words ds f).functions ≡ f.functions
unfolding after_objects after_object
objects_keep storage words [] f = refl
objects_keep storage words (d ∷ ds) f = objects_keep storage words ds (after_object units.noting storage words d f)

declaration_keeps : (storage : Option Storage) (d : DeclarationTree) (f : F) → (after_declaration units.noting storage d f).functions ≡ f.functions
unfolding after_declaration
declaration_keeps storage d f = objects_keep storage (words_at (here f.walked) d.specifiers d.enumeration) d.declarators (on (after_words declarations.noting d.specifiers d.enumeration) f)

with_block : (r : Typing) (n : ℕ) (b : Option BlockTree) (f : F) → EntriesMarked f → (after_optional_body units.noting r n b f).walked.found ≡ None → EntriesMarked (after_optional_body units.noting r n b f)
with_block r n None f m h = m
with_block r n (Some b) f m h = updated (λ e. IsMarkedIf e.body) (with_body (body_at units.noting r (length f.objects) b f.walked)) n f.functions m (λ e is. body r (length f.objects) b f.walked h)

function_marked : (defined : List ℕ → Bool) (g : FunctionTree) (f : F) → EntriesMarked f → (after_function units.noting defined g f).walked.found ≡ None → EntriesMarked (after_function units.noting defined g f)
unfolding after_function
function_marked defined g f m h =
    let n = number_of f.functions (names_in f.walked.scoping g.name) in
    let head = after_head units.noting defined g f in
    let heads = new_entries (λ e. IsMarkedIf e.body) f.functions n (text_of f.walked.scoping g.name) (signature_of (here f.walked) g) m tt in
    with_block (type_named (here f.walked) g.specifiers) n g.body (on (after_parameters units.noting g.parameters) (on entering head)) heads h

external_marked : (defined : List ℕ → Bool) (x : ExternalTree) (f : F) → EntriesMarked f → (after_external units.noting defined x f).walked.found ≡ None → EntriesMarked (after_external units.noting defined x f)
external_marked defined (function g) f m h = function_marked defined g f m h
external_marked defined (objects storage d) f m h = λ i e is. m i e (ap (λ (es : List EntryTree). slice_get es i) (sym (declaration_keeps storage d f)) ∙ is)
external_marked defined (type_names d) f m h = m

externals_marked : (defined : List ℕ → Bool) (xs : List ExternalTree) (f : F) → EntriesMarked f → (after_externals units.noting defined xs f).walked.found ≡ None → EntriesMarked (after_externals units.noting defined xs f)
unfolding after_externals
externals_marked defined [] f m h = m
externals_marked defined (x ∷ xs) f m h =
    let g = after_external units.noting defined x f in
    externals_marked defined xs g (external_marked defined x f m ((externals_later defined xs g).found h)) h

found_marked : (f : F) → EntriesMarked f → (k : ℕ) (d : tree.FunctionTree) (o : Option EntryTree) → slice_get f.functions k ≡ o → option_map function_of o ≡ Some (slice_index_or (map function_of f.functions) k d) → IsMarkedIf (slice_index_or (map function_of f.functions) k d).body
found_marked f m k d None is e = absurd (none-some (slice_index_or (map function_of f.functions) k d) e)
found_marked f m k d (Some x) is e =
    let same : function_of x ≡ slice_index_or (map function_of f.functions) k d = ap (λ (o : Option tree.FunctionTree). unwrap_or o (function_of x)) e in
    subst (λ (y : tree.FunctionTree). IsMarkedIf y.body) same (m k x is)

pub units_are_marked : AcceptedUnitsAreMarked
units_are_marked text xs h =
    let f = checked units.noting None text xs in
    let m = externals_marked (defined_in text xs no_name) xs (nothing_filed None text (objects_in xs)) (λ i e is. absurd (none-some e is)) h in
    λ k d l. found_marked f m k d (slice_get f.functions k) refl (sym (slice_get-map function_of f.functions k) ∙ slice_get-get_or (map function_of f.functions) k d l)
