-- Static objects of a function in which no rule fails: each is an object of the unit, of its kind.
use Rattle.std.proofs.Common.{◌≡◌, ℕ, ◌+◌, ◌<◌, Bool, true, false, List, [], ◌∷◌, ◌++◌, Option, Some, None, length, refl, ap, sym, subst, ◌∙◌, arith, length-append, append_assoc, append-nil}
use Rattle.std.specs.Prelude.{is_some}
use Rattle.pk_ctypes.specs.declared.places.Pos.{Pos}
use Rattle.pk_ast.specs.declared.expressions.Identifier.{Identifier}
use Rattle.pk_ast.specs.Trees.{ExpressionTree, ExpressionTrees, no_expressions, expression_then, InitializerTree, DimensionsTree, DeclaratorTree, DeclarationTree}
use Rattle.pk_typed.specs.Trees.{LocalTree, FileObjectTree, UnitTree}
use Rattle.pk_type_scope.specs.declared.declarations.Declaration.{Declaration}
use Rattle.pk_type_scope.specs.declared.declarations.Typing.{Typing}
use Rattle.pk_type_scope.specs.declared.failures.Failure.{Failure}
use Rattle.pk_type_scope.specs.Declarations.{is_void, is_unknown}
use Rattle.pk_type_scope.specs.Failures.{noted}
use Rattle.pk_type_scope.specs.Scopes.{Scoping, names_in, declaring}
use Rattle.pk_type_expression.proofs.TreeLemmas.{none_before, none_after, holds_not}
use Rattle.pk_type_declaration.specs.declared.words.Words.{Words}
use Rattle.pk_type_declaration.specs.Constants.{evaluated, length_in, after_constant, after_length}
use Rattle.pk_type_declaration.specs.Declarations.{type_or_int, text_of, length_at, after_columns, after_dimensions, length_or_1, after_object_name, after_declarators, declarator_trees_at}
use Rattle.pk_type_declaration.specs.Enumerations.{words_at, after_words, word_trees_at}
use Rattle.pk_type_declaration.specs.Initializers.{given}
use Rattle.pk_type_declaration.specs.Starts.{after_numbers, numbers_at, start_of}
use Rattle.pk_type_declaration.specs.Statics.{next_static, static_at, after_static_head, static_of, after_static, after_statics, after_declaration, declaration_trees_at, after_static_declaration, static_trees_at, static_declaration_at, after_block_declaration, block_declaration_at}
use Rattle.pk_type_declaration.specs.Walks.{StaticsTree, here, with_static}
use Rattle.pk_type_declaration.specs.Rules as declarations
use Rattle.pk_type_declaration.specs.Rules.{at_name, redeclared, void_object, special_object, braces, misfit, failing}
use Rattle.pk_welltyped.specs.Listed.{calls_in_all_declared, objects_in_all_declared}
use Rattle.pk_welltyped.specs.WellTyped.{kind_in_file, AreDeclared}
use Rattle.pk_type_laws.specs.Accepted.Constants.{DeclarationHas}
use Rattle.pk_type_laws.specs.Accepted.Names.{NamesAre}
use Rattle.pk_type_laws.proofs.Accepted.Walks.{W, around, none_found, statics_same, Later, later_same, later, later_failing, Steps, steps_none, steps}
use Rattle.pk_type_laws.proofs.Accepted.Declarations.{has_types, names_later, names_declaring, StaticsStand, statics_before, Begins, length_steps, later_dimensions, no_columns, later_declarators, AllDeclaring, declarators, moved}
use Rattle.pk_type_laws.proofs.Accepted.Enumerations.{later_words, words_locals, words_known, words_are, words_steps, word_trees_are, with_hidden}
use Rattle.pk_type_laws.proofs.Accepted.Starts.{later_numbers, same_scope, numbers_steps, start_length, object_is, its_kind}

-- ---- later places, whatever fails

later_object_name : (t : Typing) (o : Declaration) (x : Identifier) (w : W) → Later w (after_object_name declarations.noting t o x w)
later_object_name t o x w = record { found = λ h. (none_found w.found (at_name w.scoping t x) h).0; more = []; locals = sym (append-nil w.locals); statics = statics_same w.statics }

later_made : (o : FileObjectTree) (w : W) → Later w (with_static o w)
later_made o w = record { found = λ h. h; more = []; locals = sym (append-nil w.locals); statics = record { first = refl; more = o ∷ []; made = refl } }

pub later_static_head : (words : Words) (d : DeclaratorTree) (w : W) → Later w (after_static_head declarations.noting words d w)
later_static_head words d w =
    let v = after_dimensions declarations.noting d.name.at d.dimensions w in
    let o = static_at words (is_some d.dimensions) w in
    let x = after_object_name declarations.noting words.typing o d.name v in
    later w v _ (later_dimensions d.name.at d.dimensions w) (later v x _ (later_object_name words.typing o d.name v) (later_failing (braces (is_some d.dimensions) d.initializer d.name.at ++ misfit (length_at w d.dimensions) d.initializer) x))

pub later_static : (words : Words) (d : DeclaratorTree) (w : W) → Later w (after_static declarations.noting words d w)
unfolding after_static
later_static words d w =
    let v = after_static_head declarations.noting words d w in
    let x = after_numbers declarations.noting (given d.initializer) v in
    later w v _ (later_static_head words d w) (later v x _ (later_numbers (given d.initializer) v) (later_made (static_of declarations.noting words d w) x))

pub later_statics : (words : Words) (ds : List DeclaratorTree) (w : W) → Later w (after_statics declarations.noting words ds w)
unfolding after_statics
later_statics words [] w = later_same w
later_statics words (d ∷ ds) w = later w (after_static declarations.noting words d w) _ (later_static words d w) (later_statics words ds (after_static declarations.noting words d w))

pub later_declaration : (d : DeclarationTree) (w : W) → Later w (after_declaration declarations.noting d w)
unfolding after_declaration
later_declaration d w =
    let v = after_words declarations.noting d.specifiers d.enumeration w in
    later w v _ (later_words d.specifiers d.enumeration w) (later_declarators (words_at (here w) d.specifiers d.enumeration) d.declarators v)

later_static_declaration : (d : DeclarationTree) (w : W) → Later w (after_static_declaration declarations.noting d w)
unfolding after_static_declaration
later_static_declaration d w =
    let v = after_words declarations.noting d.specifiers d.enumeration w in
    later w v _ (later_words d.specifiers d.enumeration w) (later_statics (words_at (here w) d.specifiers d.enumeration) d.declarators v)

pub later_block_declaration : (s : Option Pos) (d : DeclarationTree) (w : W) → Later w (after_block_declaration declarations.noting s d w)
later_block_declaration None d w = later_declaration d w
later_block_declaration (Some at) d w = later_static_declaration d w

-- ---- one static object

pub same_statics : (es : ExpressionTrees) (w : W) → (after_numbers declarations.noting es w).statics ≡ w.statics
unfolding after_numbers
same_statics no_expressions w = refl
same_statics (expression_then e es) w = same_statics es (after_constant declarations.noting e w)

-- its number is one of the unit's objects, and the names behind it know it
pub record StaticDeclared (u : UnitTree) (ls : List LocalTree) (w v : W) : Type 0 where
  pub names : NamesAre (around u ls v) (here v)
  pub number : next_static w < length u.objects
  pub calls : Steps w v [] 0

-- an object, behind its length
static_made : (u : UnitTree) (ls : List LocalTree) (words : Words) (b : Bool) (n : Option ℕ) (x : Identifier) (i : Option InitializerTree) (w v : W) (fs : List Failure) (name : List ℕ) → NamesAre (around u ls w) (here w)
    → v.scoping ≡ w.scoping → v.statics ≡ w.statics → Steps w v [] 0 → is_void words.typing ≡ false → is_unknown words.typing ≡ false
    → (let t = type_or_int words.typing in let q = failing noted fs (after_object_name declarations.noting words.typing (static_at words b w) x v) in
    let g : W = with_static (record { name = name; int_type = t; start = start_of (length_or_1 b n) (numbers_at declarations.noting t (given i) q) }) (after_numbers declarations.noting (given i) q) in
    Later w g → StaticsStand u g.statics → g.found ≡ None → StaticDeclared u ls w g)
static_made u ls words b n x i w v fs name nm sc st s0 void unknown l k h =
    let t = type_or_int words.typing in
    let q = failing noted fs (after_object_name declarations.noting words.typing (static_at words b w) x v) in
    let zs = numbers_at declarations.noting t (given i) q in
    let o : FileObjectTree = record { name = name; int_type = t; start = start_of (length_or_1 b n) zs } in
    let y = after_numbers declarations.noting (given i) q in
    let g = with_static o y in
    let same : y.statics ≡ w.statics = same_statics (given i) q ∙ st in
    let all : List FileObjectTree = k.before ++ w.statics.made in
    let is : u.objects ≡ all ++ o ∷ k.rest =
    k.objects ∙ (ap (λ (c : StaticsTree). k.before ++ ((c.made ++ o ∷ []) ++ k.rest)) same ∙ (ap (λ (xs : List FileObjectTree). k.before ++ xs) (append_assoc w.statics.made (o ∷ []) k.rest) ∙ sym (append_assoc k.before w.statics.made (o ∷ k.rest)))) in
    let many : length all ≡ next_static w = length-append k.before w.statics.made ∙ ap (λ (m : ℕ). m + length w.statics.made) (k.first ∙ ap (λ (c : StaticsTree). c.first) same) in
    let kind = subst (λ (m : ℕ). kind_in_file u m ≡ Some (record { int_type = t; length = length_or_1 b n })) many (its_kind u all k.rest o (length_or_1 b n) is (start_length b n zs)) in
    let total : length u.objects ≡ length all + length (o ∷ k.rest) = ap length is ∙ length-append all (o ∷ k.rest) in
    let d = static_at words b w in
    let sq : y.scoping ≡ declaring v.scoping x d = same_scope (given i) q in
    let around_it = around u ls g in
    record {
      names = subst (λ (c : Scoping). NamesAre around_it (names_in c)) (sym sq)
          (names_declaring around_it v.scoping x d (subst (λ (c : Scoping). NamesAre around_it (names_in c)) (sym sc) (names_later u ls w g (here w) l nm)) (object_is around_it (next_static w) words.typing b n void unknown kind));
      number = omega (many, total, arith);
      calls = steps w v g [] [] 0 0 s0 (steps v q g [] [] 0 0 (steps_none v q refl refl) (steps q y g [] [] 0 0 (numbers_steps (given i) q h) (steps_none y g refl refl)));
    }

pub name_not_void : (s : Scoping) (t : Typing) (x : Identifier) → at_name s t x ≡ [] → is_void t ≡ false
name_not_void s t x h = holds_not _ _ _ (none_after (redeclared s x) (void_object t x.at) (none_before (redeclared s x ++ void_object t x.at) (special_object s x) h))

static_array : (u : UnitTree) (ls : List LocalTree) (words : Words) (x : Identifier) (e : ExpressionTree) (c : Option ExpressionTree) (i : Option InitializerTree) (w : W) → NamesAre (around u ls w) (here w) → is_unknown words.typing ≡ false
    → (let d : DeclaratorTree = record { name = x; dimensions = Some (record { length = e; columns = c }); initializer = i } in let v = after_static declarations.noting words d w in StaticsStand u v.statics → v.found ≡ None → StaticDeclared u ls w v)
unfolding after_static
static_array u ls words x e None i w n unknown k h =
    let d : DeclaratorTree = record { name = x; dimensions = Some (record { length = e; columns = None }); initializer = i } in
    let v = after_length declarations.noting e w in
    let m = length_in (evaluated w e) in
    let fs = braces true i x.at ++ misfit m i in
    let y = after_object_name declarations.noting words.typing (static_at words true w) x v in
    let q = failing noted fs y in
    let fq = (later_numbers (given i) q).found h in
    let fy = none_found y.found fs fq in
    let fv = none_found v.found (at_name v.scoping words.typing x) fy.0 in
    let void = name_not_void v.scoping words.typing x fv.1 in
    static_made u ls words true m x i w v fs (text_of w.scoping x) n refl refl (length_steps e w fv.0) void unknown (later_static words d w) k h
static_array u ls words x e (Some c) i w n unknown k h =
    let v = after_length declarations.noting e w in
    let z = after_columns declarations.noting x.at (Some c) v in
    let fs = braces true i x.at ++ misfit (length_in (evaluated w e)) i in
    let y = after_object_name declarations.noting words.typing (static_at words true w) x z in
    let fy = none_found y.found fs ((later_numbers (given i) (failing noted fs y)).found h) in
    absurd (no_columns x.at c v (none_found z.found (at_name z.scoping words.typing x) fy.0).0)

static_is : (u : UnitTree) (ls : List LocalTree) (words : Words) (x : Identifier) (e : Option DimensionsTree) (i : Option InitializerTree) (w : W) → NamesAre (around u ls w) (here w) → is_unknown words.typing ≡ false
    → (let d : DeclaratorTree = record { name = x; dimensions = e; initializer = i } in let v = after_static declarations.noting words d w in StaticsStand u v.statics → v.found ≡ None → StaticDeclared u ls w v)
unfolding after_static
static_is u ls words x None i w n unknown k h =
    let d : DeclaratorTree = record { name = x; dimensions = None; initializer = i } in
    let fs = braces false i x.at ++ misfit None i in
    let y = after_object_name declarations.noting words.typing (static_at words false w) x w in
    let q = failing noted fs y in
    let fq = (later_numbers (given i) q).found h in
    let void = name_not_void w.scoping words.typing x (none_found w.found (at_name w.scoping words.typing x) (none_found y.found fs fq).0).1 in
    static_made u ls words false None x i w w fs (text_of w.scoping x) n refl refl (steps_none w w refl refl) void unknown (later_static words d w) k h
static_is u ls words x (Some e) i w n unknown k h = static_array u ls words x e.length e.columns i w n unknown k h

-- ---- declarations

statics_are : (u : UnitTree) (ls : List LocalTree) (words : Words) → is_unknown words.typing ≡ false → (ds : List DeclaratorTree) (w : W) → NamesAre (around u ls w) (here w)
    → StaticsStand u (after_statics declarations.noting words ds w).statics → (after_statics declarations.noting words ds w).found ≡ None → AllDeclaring u ls w (after_statics declarations.noting words ds w) (Some (static_trees_at declarations.noting words ds w))
unfolding after_statics static_trees_at
statics_are u ls words unknown [] w n k h = record { names = n; part = (tt, steps_none w w refl refl) }
statics_are u ls words unknown (d ∷ ds) w n k h =
    let v = after_static declarations.noting words d w in
    let x = after_statics declarations.noting words ds v in
    let ts = static_trees_at declarations.noting words ds v in
    let l = later_statics words ds v in
    let one = static_is u ls words d.name d.dimensions d.initializer w n unknown (statics_before u v.statics x.statics l.statics k) (l.found h) in
    let more = statics_are u ls words unknown ds v one.names k h in
    record {
      names = more.names;
      part = ((one.number, subst (λ (m : ℕ). AreDeclared (record { unit = u; locals = ls; objects = m }) ts) one.calls.objects more.part.0), steps w v x [] (calls_in_all_declared ts) 0 (objects_in_all_declared ts) one.calls more.part.1);
    }

pub declaration : (u : UnitTree) (ls : List LocalTree) (d : DeclarationTree) → DeclarationHas d → (w : W) → NamesAre (around u ls w) (here w)
    → Begins u ls (after_declaration declarations.noting d w) → (after_declaration declarations.noting d w).found ≡ None → AllDeclaring u ls w (after_declaration declarations.noting d w) (declaration_trees_at declarations.noting d w)
unfolding after_declaration declaration_trees_at
declaration u ls d k w n begins h =
    let v = after_words declarations.noting d.specifiers d.enumeration w in
    let words = words_at (here w) d.specifiers d.enumeration in
    let x = after_declarators declarations.noting words d.declarators v in
    let ts = declarator_trees_at declarations.noting words d.declarators v in
    let f : v.found ≡ None = (later_declarators words d.declarators v).found h in
    let unknown = words_known d.specifiers d.enumeration w (λ y. has_types (around u ls w) (here w y) (n y)) f in
    let all = declarators u ls words unknown d.declarators k v (words_are u ls d.specifiers d.enumeration w n f) begins h in
    record {
      names = all.names;
      part = with_hidden u ls w x (word_trees_at declarations.noting d.specifiers d.enumeration w) ts (word_trees_are (around u ls w) d.specifiers d.enumeration w n f)
          (moved u ls w v x ts (words_steps d.specifiers d.enumeration w f) (words_locals d.specifiers d.enumeration w) all.part);
    }

static_declaration : (u : UnitTree) (ls : List LocalTree) (d : DeclarationTree) (w : W) → NamesAre (around u ls w) (here w) → StaticsStand u (after_static_declaration declarations.noting d w).statics
    → (after_static_declaration declarations.noting d w).found ≡ None → AllDeclaring u ls w (after_static_declaration declarations.noting d w) (Some (static_declaration_at declarations.noting d w))
unfolding after_static_declaration static_declaration_at
static_declaration u ls d w n k h =
    let v = after_words declarations.noting d.specifiers d.enumeration w in
    let words = words_at (here w) d.specifiers d.enumeration in
    let x = after_statics declarations.noting words d.declarators v in
    let ts = static_trees_at declarations.noting words d.declarators v in
    let f : v.found ≡ None = (later_statics words d.declarators v).found h in
    let unknown = words_known d.specifiers d.enumeration w (λ y. has_types (around u ls w) (here w y) (n y)) f in
    let all = statics_are u ls words unknown d.declarators v (words_are u ls d.specifiers d.enumeration w n f) k h in
    record {
      names = all.names;
      part = with_hidden u ls w x (word_trees_at declarations.noting d.specifiers d.enumeration w) (Some ts) (word_trees_are (around u ls w) d.specifiers d.enumeration w n f)
          (moved u ls w v x (Some ts) (words_steps d.specifiers d.enumeration w f) (words_locals d.specifiers d.enumeration w) all.part);
    }

pub block_declaration : (u : UnitTree) (ls : List LocalTree) (s : Option Pos) (d : DeclarationTree) → DeclarationHas d → (w : W) → NamesAre (around u ls w) (here w)
    → Begins u ls (after_block_declaration declarations.noting s d w) → (after_block_declaration declarations.noting s d w).found ≡ None → AllDeclaring u ls w (after_block_declaration declarations.noting s d w) (block_declaration_at declarations.noting s d w)
block_declaration u ls None d k w n begins h = declaration u ls d k w n begins h
block_declaration u ls (Some at) d k w n begins h = static_declaration u ls d w n begins.statics h
