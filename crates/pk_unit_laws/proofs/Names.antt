-- Each name of a typed unit is the text of a name in its trees.
use Rattle.std.proofs.Common.{◌≡◌, ℕ, zero, suc, Bool, true, false, List, [], ◌∷◌, ◌++◌, Option, Some, None, length, refl, sym, subst, if◌then◌else◌, nat_eq}
use Rattle.std.specs.Prelude.{ℤ, pos, All, IfSome, is_some, map}
use Rattle.std.specs.Option.{option_map}
use Rattle.std.specs.Str.Lossy.{utf8_lossy}
use Rattle.std.proofs.lemmas.List.Elements.{All-nil, All-cons, All-head, All-tail, All-append, All-push}
use Rattle.pk_ctypes.specs.declared.places.Pos.{Pos}
use Rattle.pk_ast.specs.declared.declarations.Specifier.{Specifier}
use Rattle.pk_ast.specs.declared.expressions.Identifier.{Identifier}
use Rattle.pk_ast.specs.declared.units.Storage.{Storage}
use Rattle.pk_ast.specs.Names.{specifier_names, expression_names, optional_names, initializer_names, dimensions_names, declarator_names, all_declarator_names, enumeration_names, declaration_names, for_start_names, statement_names, item_names, body_names, optional_name, brackets_names, parameter_names, external_names, names_of}
use Rattle.pk_ast.specs.Trees.{OneOrMore, ExpressionTree, ExpressionTrees, no_expressions, expression_then, InitializerTree, single, braced, DimensionsTree, DeclaratorTree, EnumeratorTree, EnumerationTree, DeclarationTree, ForStartTree, declaration, expression, StatementTree, block, empty, expression_statement, label, case, default, if_then, if_else, switch, while, do_while, for_loop, goto, continue, break, return, ItemTrees, no_items, declaration_then, statement_then, BlockTree, ParameterTree, FunctionTree, ExternalTree, function, objects, type_names}
use Rattle.pk_typed.specs.Trees as tree
use Rattle.pk_typed.specs.Trees.{LocalTree, BodyTree, FileObjectTree}
use Rattle.pk_type_scope.specs.declared.declarations.NamedType.{NamedType}
use Rattle.pk_type_scope.specs.declared.declarations.Typing.{Typing}
use Rattle.pk_type_scope.specs.Scopes.{spelled}
use Rattle.pk_type_scope.specs.Specifiers.{type_name_among, type_named}
use Rattle.pk_type_declaration.specs.declared.words.Words.{Words}
use Rattle.pk_type_declaration.specs.Checks.{DeclarationChecks}
use Rattle.pk_type_declaration.specs.Constants.{after_constant, after_length}
use Rattle.pk_type_declaration.specs.Declarations as declarations
use Rattle.pk_type_declaration.specs.Declarations.{words_of, text_of, length_at, local_of, after_columns, after_dimensions, after_initializer, after_object, after_declarator, after_declarators}
use Rattle.pk_type_declaration.specs.Enumerations.{words_at, after_tag, next_number, enumerator_value, after_enumerator_value, after_enumerator, after_enumerators, after_words}
use Rattle.pk_type_declaration.specs.Initializers.{given}
use Rattle.pk_type_declaration.specs.Starts.{after_numbers}
use Rattle.pk_type_declaration.specs.Statics.{after_static_head, static_of, after_static, after_statics, after_declaration, after_static_declaration, after_block_declaration}
use Rattle.pk_type_declaration.specs.Walks.{Walked, here, finding, after_value, entering}
use Rattle.pk_type_statement.specs.Checks.{StatementChecks}
use Rattle.pk_type_statement.specs.Statements as statements
use Rattle.pk_type_statement.specs.Statements.{Passed, after, after_items, on, inside, with_case, with_default, in_switch}
use Rattle.pk_type_statement.specs.Trees.{typed_items}
use Rattle.pk_type_jump.specs.Labels.{labels_of}
use Rattle.pk_type.specs.Files as files
use Rattle.pk_type.specs.Files.{EntryTree, Filed, UnitChecks}
use Rattle.pk_type.specs.Functions as functions
use Rattle.pk_type.specs.Functions.{after_parameter, after_parameters, with_new, body_of, body_at, after_body, before_body, with_body, update_at, number_of, after_optional_body, after_function}
use Rattle.pk_type.specs.Rules.{noting}
use Rattle.pk_type.specs.Signatures.{SignatureTree, signature_of}
use Rattle.pk_type.specs.TypeNames.{after_type_names, after_typedef, named_type}
use Rattle.pk_type.specs.Units.{after_external, after_externals, nothing_filed, checked, defined_in, no_name, objects_in, function_of, unit_of}
use Rattle.pk_places_laws.specs.Names.{OfNames, InLocals, InFunction, InUnit}
use Rattle.pk_unit_laws.specs.Laws.{NamesAreTheTexts}

-- ---- lists one behind another

pub all_left : {X : Type 0} (P : X → Type 0) (xs ys : List X) → All P (xs ++ ys) → All P xs
all_left P [] ys h = All-nil P
all_left P (x ∷ xs) ys h = All-cons P x xs (All-head P x (xs ++ ys) h) (all_left P xs ys (All-tail P x (xs ++ ys) h))

pub all_right : {X : Type 0} (P : X → Type 0) (xs ys : List X) → All P (xs ++ ys) → All P ys
all_right P [] ys h = h
all_right P (x ∷ xs) ys h = all_right P xs ys (All-tail P x (xs ++ ys) h)

-- ---- what stands before a place

-- the text of a name is such
abbrev pub Spelt : OfNames → List ℕ → Identifier → Type 0
Spelt N text x = N (utf8_lossy (spelled text x))

-- the text is this one, and the names of the objects so far are such
record Keeps (N : OfNames) (text now : List ℕ) (ls : List LocalTree) (os : List FileObjectTree) : Type 0 where
  pub same : now ≡ text
  pub locals : All (λ (x : LocalTree). IfSome x.name N) ls
  pub statics : All (λ (x : FileObjectTree). N x.name) os

abbrev Named : {F : Type 0} → OfNames → List ℕ → Walked F → Type 0
Named N text w = Keeps N text w.scoping.text w.locals w.statics.made

its_text : {F : Type 0} (N : OfNames) (text : List ℕ) (w : Walked F) (x : Identifier) → Spelt N text x → Named N text w → N (text_of w.scoping x)
its_text N text w x q z = subst (λ (t : List ℕ). N (utf8_lossy (spelled t x))) (sym z.same) q

-- ---- declarations

columns_named : {F : Type 0} (N : OfNames) (text : List ℕ) (c : DeclarationChecks F) (at : Pos) (e : Option ExpressionTree) (w : Walked F) → Named N text w → Named N text (after_columns c at e w)
columns_named N text c at None w z = z
columns_named N text c at (Some e) w z = z

dimensions_named : {F : Type 0} (N : OfNames) (text : List ℕ) (c : DeclarationChecks F) (at : Pos) (d : Option DimensionsTree) (w : Walked F) → Named N text w → Named N text (after_dimensions c at d w)
dimensions_named N text c at None w z = z
dimensions_named N text c at (Some d) w z = columns_named N text c at d.columns (after_length c d.length w) z

initializer_named : {F : Type 0} (N : OfNames) (text : List ℕ) (c : DeclarationChecks F) (i : Option InitializerTree) (w : Walked F) → Named N text w → Named N text (after_initializer c i w)
initializer_named N text c None w z = z
initializer_named N text c (Some (single e)) w z = z
initializer_named N text c (Some (braced at is)) w z = z

object_named : {F : Type 0} (N : OfNames) (text : List ℕ) (c : DeclarationChecks F) (words : Words) (is_array : Bool) (n : Option ℕ) (x : Identifier) (w : Walked F) → Spelt N text x → Named N text w →
    Named N text (after_object c words is_array n x w)
object_named N text c words is_array n x w q z = record {
  same = z.same;
  locals = All-push (λ (l : LocalTree). IfSome l.name N) w.locals (local_of words.typing w.scoping is_array n x) z.locals (its_text N text w x q z);
  statics = z.statics;
}

declarator_named : {F : Type 0} (N : OfNames) (text : List ℕ) (c : DeclarationChecks F) (words : Words) (d : DeclaratorTree) (w : Walked F) → Spelt N text d.name → Named N text w → Named N text (after_declarator c words d w)
unfolding after_declarator
declarator_named N text c words d w q z =
    initializer_named N text c d.initializer (declarations.after_head c words d w)
    (object_named N text c words (is_some d.dimensions) (length_at w d.dimensions) d.name (after_dimensions c d.name.at d.dimensions w) q (dimensions_named N text c d.name.at d.dimensions w z))

declarators_named : {F : Type 0} (N : OfNames) (text : List ℕ) (c : DeclarationChecks F) (words : Words) (ds : List DeclaratorTree) (w : Walked F) → All (Spelt N text) (all_declarator_names ds) → Named N text w →
    Named N text (after_declarators c words ds w)
unfolding after_declarators
declarators_named N text c words [] w q z = z
declarators_named N text c words (d ∷ ds) w q z =
    let one = all_left (Spelt N text) (declarator_names d) (all_declarator_names ds) q in
    declarators_named N text c words ds (after_declarator c words d w) (all_right (Spelt N text) (declarator_names d) (all_declarator_names ds) q)
    (declarator_named N text c words d w (All-head (Spelt N text) d.name (dimensions_names d.dimensions ++ initializer_names d.initializer) one) z)

tag_named : {F : Type 0} (N : OfNames) (text : List ℕ) (c : DeclarationChecks F) (x : Option Identifier) (w : Walked F) → Named N text w → Named N text (after_tag c x w)
tag_named N text c None w z = z
tag_named N text c (Some x) w z = z

enumerator_value_named : {F : Type 0} (N : OfNames) (text : List ℕ) (c : DeclarationChecks F) (next : Option ℤ) (x : Identifier) (e : Option ExpressionTree) (w : Walked F) → Named N text w →
    Named N text (after_enumerator_value c next x e w)
enumerator_value_named N text c next x None w z = z
enumerator_value_named N text c next x (Some e) w z = z

enumerator_named : {F : Type 0} (N : OfNames) (text : List ℕ) (c : DeclarationChecks F) (next : Option ℤ) (x : EnumeratorTree) (w : Walked F) → Named N text w → Named N text (after_enumerator c next x w)
unfolding after_enumerator
enumerator_named N text c next x w z = enumerator_value_named N text c next x.name x.value w z

enumerators_named : {F : Type 0} (N : OfNames) (text : List ℕ) (c : DeclarationChecks F) (next : Option ℤ) (xs : List EnumeratorTree) (w : Walked F) → Named N text w → Named N text (after_enumerators c next xs w)
unfolding after_enumerators
enumerators_named N text c next [] w z = z
enumerators_named N text c next (x ∷ xs) w z =
    enumerators_named N text c (next_number (enumerator_value w next x.value)) xs (after_enumerator c next x w) (enumerator_named N text c next x w z)

words_named : {F : Type 0} (N : OfNames) (text : List ℕ) (c : DeclarationChecks F) (words : OneOrMore Specifier) (e : Option EnumerationTree) (w : Walked F) → Named N text w → Named N text (after_words c words e w)
unfolding after_words
words_named N text c words None w z = z
words_named N text c words (Some e) w z =
    enumerators_named N text c (Some (pos 0)) (e.enumerators.first ∷ e.enumerators.more) (after_tag c (type_name_among words) w) (tag_named N text c (type_name_among words) w z)

declared_names : (N : OfNames) (text : List ℕ) (d : DeclarationTree) → All (Spelt N text) (declaration_names d) → All (Spelt N text) (all_declarator_names d.declarators)
declared_names N text d q =
    all_right (Spelt N text) (enumeration_names d.enumeration) (all_declarator_names d.declarators)
    (all_right (Spelt N text) (specifier_names d.specifiers) (enumeration_names d.enumeration ++ all_declarator_names d.declarators) q)

declaration_named : {F : Type 0} (N : OfNames) (text : List ℕ) (c : DeclarationChecks F) (d : DeclarationTree) (w : Walked F) → All (Spelt N text) (declaration_names d) → Named N text w → Named N text (after_declaration c d w)
unfolding after_declaration
declaration_named N text c d w q z =
    declarators_named N text c (words_at (here w) d.specifiers d.enumeration) d.declarators (after_words c d.specifiers d.enumeration w) (declared_names N text d q) (words_named N text c d.specifiers d.enumeration w z)

numbers_named : {F : Type 0} (N : OfNames) (text : List ℕ) (c : DeclarationChecks F) (es : ExpressionTrees) (w : Walked F) → Named N text w → Named N text (after_numbers c es w)
unfolding after_numbers
numbers_named N text c no_expressions w z = z
numbers_named N text c (expression_then e es) w z = numbers_named N text c es (after_constant c e w) z

static_named : {F : Type 0} (N : OfNames) (text : List ℕ) (c : DeclarationChecks F) (words : Words) (d : DeclaratorTree) (w : Walked F) → Spelt N text d.name → Named N text w → Named N text (after_static c words d w)
unfolding after_static
static_named N text c words d w q z =
    let head = after_static_head c words d w in
    let v = after_numbers c (given d.initializer) head in
    let y = numbers_named N text c (given d.initializer) head (dimensions_named N text c d.name.at d.dimensions w z) in
    record {
      same = y.same;
      locals = y.locals;
      statics = All-push (λ (x : FileObjectTree). N x.name) v.statics.made (static_of c words d w) y.statics (its_text N text w d.name q z);
    }

statics_named : {F : Type 0} (N : OfNames) (text : List ℕ) (c : DeclarationChecks F) (words : Words) (ds : List DeclaratorTree) (w : Walked F) → All (Spelt N text) (all_declarator_names ds) → Named N text w →
    Named N text (after_statics c words ds w)
unfolding after_statics
statics_named N text c words [] w q z = z
statics_named N text c words (d ∷ ds) w q z =
    let one = all_left (Spelt N text) (declarator_names d) (all_declarator_names ds) q in
    statics_named N text c words ds (after_static c words d w) (all_right (Spelt N text) (declarator_names d) (all_declarator_names ds) q)
    (static_named N text c words d w (All-head (Spelt N text) d.name (dimensions_names d.dimensions ++ initializer_names d.initializer) one) z)

block_declaration_named : {F : Type 0} (N : OfNames) (text : List ℕ) (c : DeclarationChecks F) (at : Option Pos) (d : DeclarationTree) (w : Walked F) → All (Spelt N text) (declaration_names d) → Named N text w →
    Named N text (after_block_declaration c at d w)
unfolding after_static_declaration
block_declaration_named N text c None d w q z = declaration_named N text c d w q z
block_declaration_named N text c (Some at) d w q z =
    statics_named N text c (words_at (here w) d.specifiers d.enumeration) d.declarators (after_words c d.specifiers d.enumeration w) (declared_names N text d q) (words_named N text c d.specifiers d.enumeration w z)

-- ---- statements

value_named : {F : Type 0} (N : OfNames) (text : List ℕ) (c : DeclarationChecks F) (e : Option ExpressionTree) (w : Walked F) → Named N text w → Named N text (statements.after_optional_value c e w)
value_named N text c None w z = z
value_named N text c (Some e) w z = z

effect_named : {F : Type 0} (N : OfNames) (text : List ℕ) (c : DeclarationChecks F) (e : Option ExpressionTree) (w : Walked F) → Named N text w → Named N text (statements.after_optional_effect c e w)
effect_named N text c None w z = z
effect_named N text c (Some e) w z = z

return_named : {F : Type 0} (N : OfNames) (text : List ℕ) (c : StatementChecks F) (r : Typing) (at : Pos) (e : Option ExpressionTree) (w : Walked F) → Named N text w → Named N text (statements.after_return c r at e w)
return_named N text c r at None w z = z
return_named N text c r at (Some e) w z = z

start_named : {F : Type 0} (N : OfNames) (text : List ℕ) (c : DeclarationChecks F) (s : ForStartTree) (w : Walked F) → All (Spelt N text) (for_start_names s) → Named N text w → Named N text (statements.after_start c s w)
start_named N text c (declaration d) w q z = declaration_named N text c d w q z
start_named N text c (expression e) w q z = effect_named N text c e w z

head_named : {F : Type 0} (N : OfNames) (text : List ℕ) (c : DeclarationChecks F) (s : ForStartTree) (test step : Option ExpressionTree) (w : Walked F) → All (Spelt N text) (for_start_names s) → Named N text w →
    Named N text (statements.after_head c s test step w)
head_named N text c s test step w q z =
    let a = statements.after_start c s w in
    effect_named N text c step (statements.after_optional_value c test a) (value_named N text c test a (start_named N text c s w q z))

left_scope : {F : Type 0} (N : OfNames) (text : List ℕ) (p q : Passed F) → Named N text p.walked → Named N text q.walked → Named N text (statements.outside p q).walked
left_scope N text p q z y = record { same = z.same; locals = y.locals; statics = y.statics }

mutual
  unfolding after after_items statement_names item_names

  statement_named : {F : Type 0} (N : OfNames) (text : List ℕ) (c : StatementChecks F) (r : Typing) (p : Passed F) (s : StatementTree) → All (Spelt N text) (statement_names s) → Named N text p.walked →
      Named N text (after c r p s).walked
  statement_named N text c r p (block opened is closed) q z =
      left_scope N text p (after_items c r (inside p) is) z (items_named N text c r (inside p) is q z)
  statement_named N text c r p (empty at) q z = z
  statement_named N text c r p (expression_statement e) q z = z
  statement_named N text c r p (label x s) q z = statement_named N text c r p s (All-tail (Spelt N text) x (statement_names s) q) z
  statement_named N text c r p (case at e s) q z = statement_named N text c r (with_case c.declarations at e p) s (all_right (Spelt N text) (expression_names e) (statement_names s) q) z
  statement_named N text c r p (default at s) q z = statement_named N text c r (with_default p) s q z
  statement_named N text c r p (if_then at e s) q z = statement_named N text c r (on (after_value c.declarations e) p) s (all_right (Spelt N text) (expression_names e) (statement_names s) q) z
  statement_named N text c r p (if_else at e s t) q z =
      let v = on (after_value c.declarations e) p in
      statement_named N text c r (after c r v s) t (all_right (Spelt N text) (expression_names e ++ statement_names s) (statement_names t) q)
      (statement_named N text c r v s (all_right (Spelt N text) (expression_names e) (statement_names s) (all_left (Spelt N text) (expression_names e ++ statement_names s) (statement_names t) q)) z)
  statement_named N text c r p (switch at e s) q z = statement_named N text c r (in_switch (on (after_value c.declarations e) p)) s (all_right (Spelt N text) (expression_names e) (statement_names s) q) z
  statement_named N text c r p (while at e s) q z = statement_named N text c r (on (after_value c.declarations e) p) s (all_right (Spelt N text) (expression_names e) (statement_names s) q) z
  statement_named N text c r p (do_while at s e) q z = statement_named N text c r p s (all_left (Spelt N text) (statement_names s) (expression_names e) q) z
  statement_named N text c r p (for_loop at start test step s) q z =
      let v = on (statements.after_head c.declarations start test step) (inside p) in
      let first = all_left (Spelt N text) (for_start_names start) (optional_names test)
      (all_left (Spelt N text) (for_start_names start ++ optional_names test) (optional_names step) (all_left (Spelt N text) (for_start_names start ++ optional_names test ++ optional_names step) (statement_names s) q)) in
      left_scope N text p (after c r v s) z
      (statement_named N text c r v s (all_right (Spelt N text) (for_start_names start ++ optional_names test ++ optional_names step) (statement_names s) q) (head_named N text c.declarations start test step (inside p).walked first z))
  statement_named N text c r p (goto at x) q z = z
  statement_named N text c r p (continue at) q z = z
  statement_named N text c r p (break at) q z = z
  statement_named N text c r p (return at e) q z = return_named N text c r at e p.walked z

  items_named : {F : Type 0} (N : OfNames) (text : List ℕ) (c : StatementChecks F) (r : Typing) (p : Passed F) (is : ItemTrees) → All (Spelt N text) (item_names is) → Named N text p.walked →
      Named N text (after_items c r p is).walked
  items_named N text c r p no_items q z = z
  items_named N text c r p (declaration_then s d is) q z =
      items_named N text c r (on (after_block_declaration c.declarations s d) p) is (all_right (Spelt N text) (declaration_names d) (item_names is) q)
      (block_declaration_named N text c.declarations s d p.walked (all_left (Spelt N text) (declaration_names d) (item_names is) q) z)
  items_named N text c r p (statement_then s is) q z =
      items_named N text c r (after c r p s) is (all_right (Spelt N text) (statement_names s) (item_names is) q)
      (statement_named N text c r p s (all_left (Spelt N text) (statement_names s) (item_names is) q) z)

-- ---- functions

parameter_named : {F : Type 0} (N : OfNames) (text : List ℕ) (c : UnitChecks F) (p : ParameterTree) (x : Option Identifier) (w : Walked F) → All (Spelt N text) (optional_name x) → Named N text w →
    Named N text (functions.after_parameter_name c p x w)
parameter_named N text c p None w q z = record { same = z.same; locals = All-push (λ (l : LocalTree). IfSome l.name N) w.locals _ z.locals tt; statics = z.statics }
parameter_named N text c p (Some x) w q z = object_named N text c.statements.declarations (words_of (here w) p.specifiers) false None x w (All-head (Spelt N text) x [] q) z

parameters_named : {F : Type 0} (N : OfNames) (text : List ℕ) (c : UnitChecks F) (ps : List ParameterTree) (w : Walked F) → All (Spelt N text) (parameter_names ps) → Named N text w → Named N text (after_parameters c ps w)
unfolding after_parameters
parameters_named N text c [] w q z = z
parameters_named N text c (p ∷ ps) w q z =
    let named = optional_name p.name ++ brackets_names p.brackets in
    let own = specifier_names p.specifiers ++ named in
    parameters_named N text c ps (after_parameter c p w) (all_right (Spelt N text) own (parameter_names ps) q)
    (parameter_named N text c p p.name (finding (c.words (here w) p) w)
    (all_left (Spelt N text) (optional_name p.name) (brackets_names p.brackets)
    (all_right (Spelt N text) (specifier_names p.specifiers) named (all_left (Spelt N text) own (parameter_names ps) q))) z)

-- a function's name is such, and the names of its objects
record EntryNamed (N : OfNames) (e : EntryTree) : Type 0 where
  pub name : N e.name
  pub locals : IfSome e.body (InLocals N)

-- what stands before a place of the file
record AllNamed {F : Type 0} (N : OfNames) (text : List ℕ) (f : Filed F) : Type 0 where
  pub walked : Named N text f.walked
  pub objects : All (λ (x : FileObjectTree). N x.name) f.objects
  pub functions : All (EntryNamed N) f.functions

new_named : (N : OfNames) (es : List EntryTree) (n : ℕ) (name : List ℕ) (s : SignatureTree) → N name → All (EntryNamed N) es → All (EntryNamed N) (with_new es n name s)
new_named N es n name s q z = chosen (nat_eq n (length es))
  where
    new : EntryTree
    new = record { name = name; signature = s; is_defined = false; body = None }

    chosen : (b : Bool) → All (EntryNamed N) (if b then es ++ record { name = name; signature = s; is_defined = false; body = None } ∷ [] else es)
    chosen true = All-push (EntryNamed N) es _ z (record { name = q; locals = tt })
    chosen false = z

updated_named : (N : OfNames) (n : ℕ) (body : Option BodyTree) (es : List EntryTree) → IfSome body (InLocals N) → All (EntryNamed N) es → All (EntryNamed N) (update_at n (with_body body) es)
updated_named N n body [] q z = z
updated_named N zero body (e ∷ es) q z =
    All-cons (EntryNamed N) (with_body body e) es (record { name = (All-head (EntryNamed N) e es z).name; locals = q }) (All-tail (EntryNamed N) e es z)
updated_named N (suc n) body (e ∷ es) q z =
    All-cons (EntryNamed N) e (update_at n (with_body body) es) (All-head (EntryNamed N) e es z) (updated_named N n body es q (All-tail (EntryNamed N) e es z))

made_named : {F : Type 0} (N : OfNames) (b : BlockTree) (visible labels : ℕ) (w : Walked F) (is : Option tree.ItemTrees) → All (λ (x : LocalTree). IfSome x.name N) w.locals →
    IfSome (option_map (body_of b visible labels w) is) (InLocals N)
made_named N b visible labels w None h = tt
made_named N b visible labels w (Some is) h = h

body_named : {F : Type 0} (N : OfNames) (text : List ℕ) (c : UnitChecks F) (r : Typing) (n : ℕ) (b : Option BlockTree) (f : Filed F) → All (Spelt N text) (body_names b) → AllNamed N text f →
    AllNamed N text (after_optional_body c r n b f)
body_named N text c r n None f q z = z
body_named N text c r n (Some b) f q z =
    let w = f.walked in
    let labels = labels_of w.scoping.text b.items in
    let y = items_named N text c.statements r (before_body w) b.items q z.walked in
    record {
      walked = record { same = y.same; locals = All-nil _; statics = y.statics };
      objects = z.objects;
      functions = updated_named N n (body_at c r (length f.objects) b w) f.functions
          (made_named N b (length f.objects) labels.count (after_body c r b w) (typed_items c.statements r labels.labels (before_body w) b.items) y.locals) z.functions;
    }

head_filed : {F : Type 0} (N : OfNames) (text : List ℕ) (c : UnitChecks F) (defined : List ℕ → Bool) (f : FunctionTree) (file : Filed F) → Spelt N text f.name → AllNamed N text file →
    AllNamed N text (functions.after_head c defined f file)
head_filed N text c defined f file q z = record {
  walked = z.walked;
  objects = z.objects;
  functions = new_named N file.functions (number_of file.functions (here file.walked f.name)) (text_of file.walked.scoping f.name) (signature_of (here file.walked) f) (its_text N text file.walked f.name q z.walked) z.functions;
}

function_named : {F : Type 0} (N : OfNames) (text : List ℕ) (c : UnitChecks F) (defined : List ℕ → Bool) (f : FunctionTree) (file : Filed F) → All (Spelt N text) (external_names (function f)) → AllNamed N text file →
    AllNamed N text (after_function c defined f file)
unfolding after_function
function_named N text c defined f file q z =
    let rest = all_right (Spelt N text) (specifier_names f.specifiers) (f.name ∷ (parameter_names f.parameters ++ body_names f.body)) q in
    let inner = All-tail (Spelt N text) f.name (parameter_names f.parameters ++ body_names f.body) rest in
    let h = functions.after_head c defined f file in
    let y = head_filed N text c defined f file (All-head (Spelt N text) f.name (parameter_names f.parameters ++ body_names f.body) rest) z in
    let i = files.on (after_parameters c f.parameters) (files.on entering h) in
    let n = number_of file.functions (here file.walked f.name) in
    let within : AllNamed N text i = record {
      walked = parameters_named N text c f.parameters (entering h.walked) (all_left (Spelt N text) (parameter_names f.parameters) (body_names f.body) inner) y.walked;
      objects = y.objects;
      functions = y.functions;
    } in
    let x = body_named N text c (type_named (here file.walked) f.specifiers) n f.body i (all_right (Spelt N text) (parameter_names f.parameters) (body_names f.body) inner) within in
    record {
      walked = record { same = y.walked.same; locals = All-nil _; statics = x.walked.statics };
      objects = x.objects;
      functions = x.functions;
    }

-- ---- objects of the file

file_object_named : {F : Type 0} (N : OfNames) (text : List ℕ) (c : UnitChecks F) (storage : Option Storage) (words : Words) (d : DeclaratorTree) (f : Filed F) → Spelt N text d.name → AllNamed N text f →
    AllNamed N text (files.after_object c storage words d f)
unfolding files.after_object
file_object_named N text c storage words d f q z = record {
  walked = numbers_named N text c.statements.declarations (given d.initializer) (files.after_head c storage words d f) (dimensions_named N text c.statements.declarations d.name.at d.dimensions f.walked z.walked);
  objects = All-push (λ (x : FileObjectTree). N x.name) f.objects _ z.objects (its_text N text f.walked d.name q z.walked);
  functions = z.functions;
}

file_objects_named : {F : Type 0} (N : OfNames) (text : List ℕ) (c : UnitChecks F) (storage : Option Storage) (words : Words) (ds : List DeclaratorTree) (f : Filed F) → All (Spelt N text) (all_declarator_names ds) → AllNamed N text f →
    AllNamed N text (files.after_objects c storage words ds f)
unfolding files.after_objects
file_objects_named N text c storage words [] f q z = z
file_objects_named N text c storage words (d ∷ ds) f q z =
    let one = all_left (Spelt N text) (declarator_names d) (all_declarator_names ds) q in
    file_objects_named N text c storage words ds (files.after_object c storage words d f) (all_right (Spelt N text) (declarator_names d) (all_declarator_names ds) q)
    (file_object_named N text c storage words d f (All-head (Spelt N text) d.name (dimensions_names d.dimensions ++ initializer_names d.initializer) one) z)

file_declaration_named : {F : Type 0} (N : OfNames) (text : List ℕ) (c : UnitChecks F) (storage : Option Storage) (d : DeclarationTree) (f : Filed F) → All (Spelt N text) (declaration_names d) → AllNamed N text f →
    AllNamed N text (files.after_declaration c storage d f)
unfolding files.after_declaration
file_declaration_named N text c storage d f q z =
    let g = files.on (after_words c.statements.declarations d.specifiers d.enumeration) f in
    let begun : AllNamed N text g = record { walked = words_named N text c.statements.declarations d.specifiers d.enumeration f.walked z.walked; objects = z.objects; functions = z.functions } in
    let y = file_objects_named N text c storage (words_at (here f.walked) d.specifiers d.enumeration) d.declarators g (declared_names N text d q) begun in
    record { walked = y.walked; objects = y.objects; functions = y.functions }

type_names_named : {F : Type 0} (N : OfNames) (text : List ℕ) (c : DeclarationChecks F) (t : NamedType) (xs : List Identifier) (w : Walked F) → Named N text w → Named N text (after_type_names c t xs w)
unfolding after_type_names
type_names_named N text c t [] w z = z
type_names_named N text c t (x ∷ xs) w z = type_names_named N text c t xs _ z

-- ---- texts

external_named : {F : Type 0} (N : OfNames) (text : List ℕ) (c : UnitChecks F) (defined : List ℕ → Bool) (x : ExternalTree) (f : Filed F) → All (Spelt N text) (external_names x) → AllNamed N text f →
    AllNamed N text (after_external c defined x f)
unfolding after_typedef
external_named N text c defined (function g) f q z = function_named N text c defined g f q z
external_named N text c defined (objects s d) f q z = file_declaration_named N text c s d f q z
external_named N text c defined (type_names d) f q z =
    let y = type_names_named N text c.statements.declarations (named_type (words_at (here f.walked) d.specifiers d.enumeration)) (d.names.first ∷ d.names.more) (after_words c.statements.declarations d.specifiers d.enumeration f.walked)
    (words_named N text c.statements.declarations d.specifiers d.enumeration f.walked z.walked) in
    record { walked = y; objects = z.objects; functions = z.functions }

externals_named : {F : Type 0} (N : OfNames) (text : List ℕ) (c : UnitChecks F) (defined : List ℕ → Bool) (xs : List ExternalTree) (f : Filed F) → All (Spelt N text) (names_of xs) → AllNamed N text f →
    AllNamed N text (after_externals c defined xs f)
unfolding after_externals
externals_named N text c defined [] f q z = z
externals_named N text c defined (x ∷ xs) f q z =
    externals_named N text c defined xs (after_external c defined x f) (all_right (Spelt N text) (external_names x) (names_of xs) q)
    (external_named N text c defined x f (all_left (Spelt N text) (external_names x) (names_of xs) q) z)

function_is : (N : OfNames) (e : EntryTree) → EntryNamed N e → InFunction N (function_of e)
function_is N e h = record { name = h.name; locals = h.locals }

functions_are : (N : OfNames) (es : List EntryTree) → All (EntryNamed N) es → All (InFunction N) (map function_of es)
functions_are N [] h = All-nil (InFunction N)
functions_are N (e ∷ es) h =
    All-cons (InFunction N) (function_of e) (map function_of es) (function_is N e (All-head (EntryNamed N) e es h)) (functions_are N es (All-tail (EntryNamed N) e es h))

unit_named : {F : Type 0} (N : OfNames) (text : List ℕ) (f : Filed F) → AllNamed N text f → InUnit N (unit_of f)
unit_named N text f h = record {
  objects = All-append (λ (x : FileObjectTree). N x.name) f.objects f.walked.statics.made h.objects h.walked.statics;
  functions = functions_are N f.functions h.functions;
}

pub names_told : (N : OfNames) (text : List ℕ) (xs : List ExternalTree) → All (Spelt N text) (names_of xs) → InUnit N (unit_of (checked noting None text xs))
names_told N text xs q =
    let before : AllNamed N text (nothing_filed None text (objects_in xs)) = record { walked = record { same = refl; locals = All-nil _; statics = All-nil _ }; objects = All-nil _; functions = All-nil _ } in
    unit_named N text (checked noting None text xs) (externals_named N text noting (defined_in text xs no_name) xs _ q before)

pub names_are_the_texts : NamesAreTheTexts
names_are_the_texts text xs test q = names_told (λ name. test name ≡ true) text xs q
