-- Static objects of texts in which no rule fails begin with numbers of their types.
use Rattle.std.proofs.Common.{◌≡◌, ℕ, Bool, true, false, List, [], ◌∷◌, ◌++◌, Option, Some, None, refl, sym, subst, ◌∙◌, arith}
use Rattle.std.proofs.lemmas.List.Elements.{All-push, All-append}
use Rattle.std.specs.Prelude.{All}
use Rattle.pk_ctypes.specs.declared.places.Pos.{Pos}
use Rattle.pk_ast.specs.declared.expressions.Identifier.{Identifier}
use Rattle.pk_ast.specs.Trees as ast
use Rattle.pk_ast.specs.Trees.{ExpressionTree, InitializerTree, single, braced, DimensionsTree, DeclaratorTree, DeclarationTree, ForStartTree, declaration, expression, StatementTree, ItemTrees, no_items, declaration_then, statement_then, ParameterTree, TypedefTree}
use Rattle.pk_typed.specs.Trees.{FileObjectTree}
use Rattle.pk_type_scope.specs.declared.declarations.NamedType.{NamedType}
use Rattle.pk_type_scope.specs.declared.declarations.Typing.{Typing}
use Rattle.pk_type_scope.specs.Declarations.{HasTypes, is_unknown}
use Rattle.pk_type_scope.specs.Failures.{noted}
use Rattle.pk_type_expression.specs.Rules.{count, used_failures}
use Rattle.pk_type_expression.specs.Types.{type_of}
use Rattle.pk_type_declaration.specs.declared.words.Words.{Words}
use Rattle.pk_type_declaration.specs.Constants.{evaluated, length_in, after_length}
use Rattle.pk_type_declaration.specs.Declarations.{type_or_int, text_of, after_initializer, after_columns, after_dimensions, length_or_1, after_head, after_object_name, after_declarator, after_declarators}
use Rattle.pk_type_declaration.specs.Enumerations.{words_at, after_words}
use Rattle.pk_type_declaration.specs.Initializers.{given}
use Rattle.pk_type_declaration.specs.Starts.{after_numbers, numbers_at, start_of}
use Rattle.pk_type_declaration.specs.Statics.{static_at, after_static_head, after_static, after_statics, after_declaration, after_static_declaration, after_block_declaration}
use Rattle.pk_type_declaration.specs.Walks.{StaticsTree, here, after_value}
use Rattle.pk_type_declaration.specs.Rules as declarations
use Rattle.pk_type_declaration.specs.Rules.{at_name, braces, misfit, failing}
use Rattle.pk_type_statement.specs.Statements.{on, inside, after, after_items, with_case, with_default, in_switch, after_start, after_optional_value, after_optional_effect}
use Rattle.pk_type_statement.specs.Statements as statements
use Rattle.pk_type_statement.specs.Rules as statement_rules
use Rattle.pk_type_statement.specs.Rules.{repeated_cases}
use Rattle.pk_type.specs.Functions.{after_parameter_name, after_parameter, after_parameters}
use Rattle.pk_type.specs.TypeNames.{named_type, after_type_name, after_type_names, after_typedef}
use Rattle.pk_type.specs.Rules as units
use Rattle.pk_type.specs.Rules.{parameter_failures}
use Rattle.pk_welltyped.specs.WellTyped.{IsStart}
use Rattle.pk_type_expression.proofs.TreeLemmas.{none_before, none_after}
use Rattle.pk_type_laws.proofs.Accepted.Walks.{W, none_found}
use Rattle.pk_type_laws.proofs.Accepted.Declarations.{length_has, no_columns}
use Rattle.pk_type_laws.proofs.Accepted.Enumerations.{words_statics, words_names, words_known, holds_types}
use Rattle.pk_type_laws.proofs.Accepted.Starts.{later_numbers, numbers_in_type, numbers_many, given_fit, RoomIn, start_is}
use Rattle.pk_type_laws.proofs.Accepted.Statements.{later_statement, later_items}
use Rattle.pk_type_laws.proofs.Accepted.Statics.{later_statics, same_statics}
use Rattle.pk_type_laws.proofs.Bodies.Parts.{Known, known_opened, static_known, block_declaration_there}
use Rattle.pk_type_laws.proofs.Bodies.Statements.{P, head_there, known_after}

abbrev pub AreStarts : List FileObjectTree → Type 0
AreStarts = All (λ (x : FileObjectTree). IsStart x.int_type x.start)

pub no_starts : AreStarts []
no_starts = λ k d l. absurd (omega (l, arith))

pub starts_together : (xs ys : List FileObjectTree) → AreStarts xs → AreStarts ys → AreStarts (xs ++ ys)
starts_together xs ys h k = All-append (λ (x : FileObjectTree). IsStart x.int_type x.start) xs ys h k

-- ---- what makes none

columns_statics : (at : Pos) (e : Option ExpressionTree) (w : W) → (after_columns declarations.noting at e w).statics ≡ w.statics
columns_statics at None w = refl
columns_statics at (Some e) w = refl

pub dimensions_statics : (at : Pos) (d : Option DimensionsTree) (w : W) → (after_dimensions declarations.noting at d w).statics ≡ w.statics
dimensions_statics at None w = refl
dimensions_statics at (Some d) w = columns_statics at d.columns (after_length declarations.noting d.length w)

initializer_statics : (i : Option InitializerTree) (w : W) → (after_initializer declarations.noting i w).statics ≡ w.statics
initializer_statics None w = refl
initializer_statics (Some (single e)) w = refl
initializer_statics (Some (braced at is)) w = refl

declarators_statics : (words : Words) (ds : List DeclaratorTree) (w : W) → (after_declarators declarations.noting words ds w).statics ≡ w.statics
unfolding after_declarators after_declarator
declarators_statics words [] w = refl
declarators_statics words (d ∷ ds) w =
    declarators_statics words ds (after_declarator declarations.noting words d w) ∙ (initializer_statics d.initializer (after_head declarations.noting words d w) ∙ dimensions_statics d.name.at d.dimensions w)

declaration_statics : (d : DeclarationTree) (w : W) → (after_declaration declarations.noting d w).statics ≡ w.statics
unfolding after_declaration
declaration_statics d w =
    declarators_statics (words_at (here w) d.specifiers d.enumeration) d.declarators (after_words declarations.noting d.specifiers d.enumeration w) ∙ words_statics d.specifiers d.enumeration w

value_statics : (e : Option ExpressionTree) (w : W) → (after_optional_value declarations.noting e w).statics ≡ w.statics
value_statics None w = refl
value_statics (Some e) w = refl

effect_statics : (e : Option ExpressionTree) (w : W) → (after_optional_effect declarations.noting e w).statics ≡ w.statics
effect_statics None w = refl
effect_statics (Some e) w = refl

start_statics : (s : ForStartTree) (w : W) → (after_start declarations.noting s w).statics ≡ w.statics
start_statics (declaration d) w = declaration_statics d w
start_statics (expression e) w = effect_statics e w

head_statics : (s : ForStartTree) (test step : Option ExpressionTree) (w : W) → (statements.after_head declarations.noting s test step w).statics ≡ w.statics
head_statics s test step w =
    let v = after_start declarations.noting s w in
    let x = after_optional_value declarations.noting test v in
    effect_statics step x ∙ (value_statics test v ∙ start_statics s w)

name_statics : (p : ParameterTree) (x : Option Identifier) (w : W) → (after_parameter_name units.noting p x w).statics ≡ w.statics
name_statics p None w = refl
name_statics p (Some x) w = refl

pub parameters_statics : (ps : List ParameterTree) (w : W) → (after_parameters units.noting ps w).statics ≡ w.statics
unfolding after_parameters
parameters_statics [] w = refl
parameters_statics (p ∷ ps) w = parameters_statics ps (after_parameter units.noting p w) ∙ name_statics p p.name (failing noted (parameter_failures (here w) p) w)

names_statics : (t : NamedType) (xs : List Identifier) (w : W) → (after_type_names declarations.noting t xs w).statics ≡ w.statics
unfolding after_type_names
names_statics t [] w = refl
names_statics t (x ∷ xs) w = names_statics t xs (after_type_name declarations.noting t x w)

pub typedef_statics : (d : TypedefTree) (w : W) → (after_typedef declarations.noting d w).statics ≡ w.statics
unfolding after_typedef
typedef_statics d w =
    names_statics (named_type (words_at (here w) d.specifiers d.enumeration)) (d.names.first ∷ d.names.more) (after_words declarations.noting d.specifiers d.enumeration w) ∙ words_statics d.specifiers d.enumeration w

-- ---- a declaration that makes some

-- an object more, behind what it begins with
one_more : (words : Words) (name : List ℕ) (b : Bool) (n : Option ℕ) (i : Option InitializerTree) (w q : W) → q.statics ≡ w.statics → RoomIn b n (count (given i)) → AreStarts w.statics.made
    → (let t = type_or_int words.typing in AreStarts ((after_numbers declarations.noting (given i) q).statics.made ++ record { name = name; int_type = t; start = start_of (length_or_1 b n) (numbers_at declarations.noting t (given i) q) } ∷ []))
one_more words name b n i w q same room a =
    let t = type_or_int words.typing in
    let zs = numbers_at declarations.noting t (given i) q in
    let o : FileObjectTree = record { name = name; int_type = t; start = start_of (length_or_1 b n) zs } in
    let is = start_is t b n zs (numbers_in_type t (given i) q) (subst (RoomIn b n) (sym (numbers_many t (given i) q)) room) in
    subst (λ (s : StaticsTree). AreStarts (s.made ++ o ∷ [])) (sym (same_statics (given i) q ∙ same)) (All-push (λ (x : FileObjectTree). IsStart x.int_type x.start) w.statics.made o a is)

array_start : (words : Words) (x : Identifier) (e : ExpressionTree) (c : Option ExpressionTree) (i : Option InitializerTree) (w : W) → Known w.scoping → AreStarts w.statics.made
    → (let d : DeclaratorTree = record { name = x; dimensions = Some (record { length = e; columns = c }); initializer = i } in (after_static declarations.noting words d w).found ≡ None → AreStarts (after_static declarations.noting words d w).statics.made)
unfolding after_static
array_start words x e None i w k a h =
    let d : DeclaratorTree = record { name = x; dimensions = Some (record { length = e; columns = None }); initializer = i } in
    let v = after_length declarations.noting e w in
    let n = length_in (evaluated w e) in
    let fs = braces true i x.at ++ misfit n i in
    let y = after_object_name declarations.noting words.typing (static_at words true w) x v in
    let q = after_static_head declarations.noting words d w in
    let fy = none_found y.found fs ((later_numbers (given i) q).found h) in
    let fv = none_found v.found (at_name v.scoping words.typing x) fy.0 in
    let m = length_has w e k fv.0 in
    let fits = given_fit i m.0 x.at (none_before (braces true i x.at) (misfit n i) fy.1) (rw m.1 at (none_after (braces true i x.at) (misfit n i) fy.1)) in
    one_more words (text_of w.scoping x) true n i w q refl (subst (λ (o : Option ℕ). RoomIn true o (count (given i))) (sym m.1) (fits, m.3)) a
array_start words x e (Some c) i w k a h =
    let v = after_length declarations.noting e w in
    let z = after_columns declarations.noting x.at (Some c) v in
    let fs = braces true i x.at ++ misfit (length_in (evaluated w e)) i in
    let y = after_object_name declarations.noting words.typing (static_at words true w) x z in
    let fy = none_found y.found fs ((later_numbers (given i) (failing noted fs y)).found h) in
    absurd (no_columns x.at c v (none_found z.found (at_name z.scoping words.typing x) fy.0).0)

static_start : (words : Words) (x : Identifier) (e : Option DimensionsTree) (i : Option InitializerTree) (w : W) → Known w.scoping → AreStarts w.statics.made
    → (let d : DeclaratorTree = record { name = x; dimensions = e; initializer = i } in (after_static declarations.noting words d w).found ≡ None → AreStarts (after_static declarations.noting words d w).statics.made)
unfolding after_static
static_start words x None i w k a h =
    let d : DeclaratorTree = record { name = x; dimensions = None; initializer = i } in
    one_more words (text_of w.scoping x) false None i w (after_static_head declarations.noting words d w) refl tt a
static_start words x (Some e) i w k a h = array_start words x e.length e.columns i w k a h

statics_start : (words : Words) (ds : List DeclaratorTree) (w : W) → is_unknown words.typing ≡ false → Known w.scoping → AreStarts w.statics.made
    → (after_statics declarations.noting words ds w).found ≡ None → AreStarts (after_statics declarations.noting words ds w).statics.made
unfolding after_statics
statics_start words [] w u k a h = a
statics_start words (d ∷ ds) w u k a h =
    let v = after_static declarations.noting words d w in
    let hv : v.found ≡ None = (later_statics words ds v).found h in
    statics_start words ds v u (static_known words d w u k hv) (static_start words d.name d.dimensions d.initializer w k a hv) h

static_declaration_start : (d : DeclarationTree) (w : W) → Known w.scoping → AreStarts w.statics.made → (after_static_declaration declarations.noting d w).found ≡ None → AreStarts (after_static_declaration declarations.noting d w).statics.made
unfolding after_static_declaration
static_declaration_start d w k a h =
    let words = words_at (here w) d.specifiers d.enumeration in
    let v = after_words declarations.noting d.specifiers d.enumeration w in
    let f : v.found ≡ None = (later_statics words d.declarators v).found h in
    let av = subst (λ (s : StaticsTree). AreStarts s.made) (sym (words_statics d.specifiers d.enumeration w)) a in
    statics_start words d.declarators v (words_known d.specifiers d.enumeration w k f) (words_names HasTypes holds_types d.specifiers d.enumeration w k f) av h

block_start : (s : Option Pos) (d : DeclarationTree) (w : W) → Known w.scoping → AreStarts w.statics.made → (after_block_declaration declarations.noting s d w).found ≡ None → AreStarts (after_block_declaration declarations.noting s d w).statics.made
block_start None d w k a h = subst (λ (s : StaticsTree). AreStarts s.made) (sym (declaration_statics d w)) a
block_start (Some at) d w k a h = static_declaration_start d w k a h

-- ---- statements

return_statics : (r : Typing) (at : Pos) (e : Option ExpressionTree) (w : W) → (statements.after_return statement_rules.noting r at e w).statics ≡ w.statics
return_statics r at None w = refl
return_statics r at (Some e) w = refl

mutual
  unfolding after after_items

  statement_start : (r : Typing) (p : P) (s : StatementTree) → Known p.walked.scoping → AreStarts p.walked.statics.made → (after statement_rules.noting r p s).walked.found ≡ None → AreStarts (after statement_rules.noting r p s).walked.statics.made
  statement_start r p (ast.block opened items closed) k a h = items_start r (inside p) items (known_opened p.walked.scoping k) a h
  statement_start r p (ast.empty at) k a h = a
  statement_start r p (ast.expression_statement x) k a h = a
  statement_start r p (ast.label x s) k a h = statement_start r p s k a h
  statement_start r p (ast.case at x s) k a h = statement_start r (with_case declarations.noting at x p) s k a h
  statement_start r p (ast.default at s) k a h = statement_start r (with_default p) s k a h
  statement_start r p (ast.if_then at x s) k a h = statement_start r (on (after_value declarations.noting x) p) s k a h
  statement_start r p (ast.if_else at x s t) k a h =
      let q = on (after_value declarations.noting x) p in
      let n = after statement_rules.noting r q s in
      let hn : n.walked.found ≡ None = (later_statement r n t).walked.found h in
      statement_start r n t (known_after r q s k) (statement_start r q s k a hn) h
  statement_start r p (ast.switch at x s) k a h =
      let q = in_switch (on (after_value declarations.noting x) p) in
      let n = after statement_rules.noting r q s in
      statement_start r q s k a (none_found n.walked.found (repeated_cases (type_of (here p.walked) x) n.cases) h).0
  statement_start r p (ast.while at x s) k a h = statement_start r (on (after_value declarations.noting x) p) s k a h
  statement_start r p (ast.do_while at s x) k a h =
      let n = after statement_rules.noting r p s in statement_start r p s k a (none_found n.walked.found (used_failures (here n.walked) x) h).0
  statement_start r p (ast.for_loop at start test step s) k a h =
      let i = inside p in
      let q = on (statements.after_head declarations.noting start test step) i in
      let hq : q.walked.found ≡ None = (later_statement r q s).walked.found h in
      statement_start r q s (head_there start test step i.walked (known_opened p.walked.scoping k) hq).1 (subst (λ (t : StaticsTree). AreStarts t.made) (sym (head_statics start test step i.walked)) a) h
  statement_start r p (ast.goto at x) k a h = a
  statement_start r p (ast.continue at) k a h = a
  statement_start r p (ast.break at) k a h = a
  statement_start r p (ast.return at x) k a h = subst (λ (t : StaticsTree). AreStarts t.made) (sym (return_statics r at x p.walked)) a

  pub items_start : (r : Typing) (p : P) (is : ItemTrees) → Known p.walked.scoping → AreStarts p.walked.statics.made → (after_items statement_rules.noting r p is).walked.found ≡ None → AreStarts (after_items statement_rules.noting r p is).walked.statics.made
  items_start r p no_items k a h = a
  items_start r p (declaration_then x d is) k a h =
      let q = on (after_block_declaration declarations.noting x d) p in
      let hq : q.walked.found ≡ None = (later_items r q is).walked.found h in
      items_start r q is (block_declaration_there x d p.walked k hq).1 (block_start x d p.walked k a hq) h
  items_start r p (statement_then s is) k a h =
      let q = after statement_rules.noting r p s in
      let hq : q.walked.found ≡ None = (later_items r q is).walked.found h in
      items_start r q is (known_after r p s k) (statement_start r p s k a hq) h
