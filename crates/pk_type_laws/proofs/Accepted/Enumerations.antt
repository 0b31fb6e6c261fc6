-- The words of declarations in which no rule fails, with enumerations: they declare numbers of type int and types, no object.
use Rattle.std.proofs.Common.{◌≡◌, ℤ, pos, Bool, true, false, not, ◌&&◌, ◌||◌, List, [], ◌∷◌, ◌++◌, Option, Some, None, length, refl, sym, ◌∙◌, if◌then◌else◌}
use Rattle.std.specs.Prelude.{◌+ℤ◌, int_le}
use Rattle.std.proofs.lemmas.Bool.{false≢true}
use Rattle.std.proofs.lemmas.Option.{none-some}
use Rattle.pk_ctypes.specs.declared.places.Pos.{Pos}
use Rattle.pk_ctypes.specs.declared.types.IntType.{IntType}
use Rattle.pk_ctypes.specs.declared.types.IntType.TheVariants.{Int}
use Rattle.pk_ctypes.specs.declared.words.Rule.TheVariants as rule
use Rattle.pk_ctypes.specs.Types.{low_of, high_of, InType, is_in_type}
use Rattle.pk_ctypes.proofs.Values.{test_le}
use Rattle.pk_ast.specs.declared.declarations.Specifier.{Specifier}
use Rattle.pk_ast.specs.declared.expressions.Identifier.{Identifier}
use Rattle.pk_ast.specs.Places.{first_place_of}
use Rattle.pk_ast.specs.Trees.{OneOrMore, ExpressionTree, EnumeratorTree, EnumerationTree}
use Rattle.pk_typed.specs.declared.values.Variable.{Variable}
use Rattle.pk_typed.specs.Trees as tree
use Rattle.pk_typed.specs.Trees.{LocalTree, DeclaredTree, UnitTree}
use Rattle.pk_type_scope.specs.declared.declarations.Declaration.{Declaration}
use Rattle.pk_type_scope.specs.declared.declarations.Declaration.TheVariants.{Object, Function, Enumerator, TypeName}
use Rattle.pk_type_scope.specs.Declarations.{HasTypes, is_unknown}
use Rattle.pk_type_scope.specs.Failures.{fails_if}
use Rattle.pk_type_scope.specs.Specifiers.{type_name_among, word_failures}
use Rattle.pk_type_expression.specs.Rules.{void, failures, used_failures}
use Rattle.pk_type_expression.specs.Typed.{typed}
use Rattle.pk_type_expression.specs.Types.{type_of}
use Rattle.pk_type_expression.proofs.TreeLemmas.{accepted_expressions_have_trees, none_before, none_after, holds_not, types_are, known_type}
use Rattle.pk_type_constant.specs.declared.constants.Constant.{Constant}
use Rattle.pk_type_constant.specs.declared.constants.Constant.TheVariants.{Number, Faulty, NotConstant}
use Rattle.pk_type_constant.specs.Forms.{is_constant_form}
use Rattle.pk_type_declaration.specs.Constants.{given_by, evaluated, is_faulty, is_refused, number_of, number_in}
use Rattle.pk_type_declaration.specs.Enumerations.{words_at, int_named, after_tag, next_number, int_in, enumerator_value, after_enumerator_value, after_enumerator_name, after_enumerator, after_enumerators, after_words, hidden, hidden_by, word_trees_at}
use Rattle.pk_type_declaration.specs.Walks.{here, after_value, value_at}
use Rattle.pk_type_declaration.specs.Rules as declarations
use Rattle.pk_type_declaration.specs.Rules.{redeclared, special_object, is_beyond, is_refused_enumerator}
use Rattle.pk_welltyped.specs.WellTyped.{Around, IsObject}
use Rattle.pk_type_laws.specs.Accepted.Names.{ObjectIs, EnumeratorIs, DeclarationIs, NamesAre}
use Rattle.pk_type_laws.proofs.Accepted.Forms.{Gives, numeric}
use Rattle.pk_type_laws.proofs.Accepted.Walks.{W, around, none_found, Later, later_same, later, later_failing, later_value, Steps, steps_none, steps}
use Rattle.pk_type_laws.proofs.Accepted.Declarations.{has_types, names_later, all_declaring, no_site, or_left, value_gives, is_used, AllDeclaredPart, one_more}
use Rattle.pk_graph.specs.Kinds.{Kind, scalar_kind, array_kind}

-- ---- places behind words are later ones

later_tag : (x : Option Identifier) (w : W) → Later w (after_tag declarations.noting x w)
later_tag None w = later_same w
later_tag (Some x) w = let l = later_failing (redeclared w.scoping x) w in record { found = l.found; more = l.more; locals = l.locals; statics = l.statics }

later_enumerator_value : (next : Option ℤ) (x : Identifier) (e : Option ExpressionTree) (w : W) → Later w (after_enumerator_value declarations.noting next x e w)
later_enumerator_value next x None w = later_failing (fails_if (is_beyond next) rule.Constant x.at) w
later_enumerator_value next x (Some e) w =
    let v = after_value declarations.noting e w in later w v _ (later_value e w) (later_failing (fails_if (is_refused_enumerator (evaluated w e)) rule.Constant (first_place_of e)) v)

later_enumerator_name : (value : Option ℤ) (x : Identifier) (w : W) → Later w (after_enumerator_name declarations.noting value x w)
later_enumerator_name value x w =
    let l = later_failing (redeclared w.scoping x ++ special_object w.scoping x) w in record { found = l.found; more = l.more; locals = l.locals; statics = l.statics }

later_enumerator : (next : Option ℤ) (x : EnumeratorTree) (w : W) → Later w (after_enumerator declarations.noting next x w)
unfolding after_enumerator
later_enumerator next x w =
    let v = after_enumerator_value declarations.noting next x.name x.value w in
    later w v _ (later_enumerator_value next x.name x.value w) (later_enumerator_name (enumerator_value w next x.value) x.name v)

later_enumerators : (next : Option ℤ) (xs : List EnumeratorTree) (w : W) → Later w (after_enumerators declarations.noting next xs w)
unfolding after_enumerators
later_enumerators next [] w = later_same w
later_enumerators next (x ∷ xs) w =
    let v = after_enumerator declarations.noting next x w in later w v _ (later_enumerator next x w) (later_enumerators (next_number (enumerator_value w next x.value)) xs v)

pub later_words : (words : OneOrMore Specifier) (e : Option EnumerationTree) (w : W) → Later w (after_words declarations.noting words e w)
unfolding after_words
later_words words None w = later_failing (word_failures (here w) words) w
later_words words (Some e) w =
    let v = after_tag declarations.noting (type_name_among words) w in
    later w v _ (later_tag (type_name_among words) w) (later_enumerators (Some (pos 0)) (e.enumerators.first ∷ e.enumerators.more) v)

-- ---- they add no object

same_value_locals : (next : Option ℤ) (x : Identifier) (e : Option ExpressionTree) (w : W) → (after_enumerator_value declarations.noting next x e w).locals ≡ w.locals
same_value_locals next x None w = refl
same_value_locals next x (Some e) w = refl

same_value_statics : (next : Option ℤ) (x : Identifier) (e : Option ExpressionTree) (w : W) → (after_enumerator_value declarations.noting next x e w).statics ≡ w.statics
same_value_statics next x None w = refl
same_value_statics next x (Some e) w = refl

same_value_scope : (next : Option ℤ) (x : Identifier) (e : Option ExpressionTree) (w : W) → (after_enumerator_value declarations.noting next x e w).scoping ≡ w.scoping
same_value_scope next x None w = refl
same_value_scope next x (Some e) w = refl

enumerators_locals : (next : Option ℤ) (xs : List EnumeratorTree) (w : W) → (after_enumerators declarations.noting next xs w).locals ≡ w.locals
unfolding after_enumerators after_enumerator
enumerators_locals next [] w = refl
enumerators_locals next (x ∷ xs) w =
    enumerators_locals (next_number (enumerator_value w next x.value)) xs (after_enumerator declarations.noting next x w) ∙ same_value_locals next x.name x.value w

enumerators_statics : (next : Option ℤ) (xs : List EnumeratorTree) (w : W) → (after_enumerators declarations.noting next xs w).statics ≡ w.statics
unfolding after_enumerators after_enumerator
enumerators_statics next [] w = refl
enumerators_statics next (x ∷ xs) w =
    enumerators_statics (next_number (enumerator_value w next x.value)) xs (after_enumerator declarations.noting next x w) ∙ same_value_statics next x.name x.value w

tag_locals : (x : Option Identifier) (w : W) → (after_tag declarations.noting x w).locals ≡ w.locals
tag_locals None w = refl
tag_locals (Some x) w = refl

tag_statics : (x : Option Identifier) (w : W) → (after_tag declarations.noting x w).statics ≡ w.statics
tag_statics None w = refl
tag_statics (Some x) w = refl

pub words_locals : (words : OneOrMore Specifier) (e : Option EnumerationTree) (w : W) → (after_words declarations.noting words e w).locals ≡ w.locals
unfolding after_words
words_locals words None w = refl
words_locals words (Some e) w =
    enumerators_locals (Some (pos 0)) (e.enumerators.first ∷ e.enumerators.more) (after_tag declarations.noting (type_name_among words) w) ∙ tag_locals (type_name_among words) w

pub words_statics : (words : OneOrMore Specifier) (e : Option EnumerationTree) (w : W) → (after_words declarations.noting words e w).statics ≡ w.statics
unfolding after_words
words_statics words None w = refl
words_statics words (Some e) w =
    enumerators_statics (Some (pos 0)) (e.enumerators.first ∷ e.enumerators.more) (after_tag declarations.noting (type_name_among words) w) ∙ tag_statics (type_name_among words) w

-- ---- the values of enumerators

both_true : (a b : Bool) → (a && b) ≡ true → (a ≡ true) × (b ≡ true)
both_true true b h = (refl, h)
both_true false b h = absurd (false≢true h)

negated : (b : Bool) → not b ≡ false → b ≡ true
negated true h = refl
negated false h = absurd (false≢true (sym h))

or_none : (a b : Bool) → (a || b) ≡ false → (a ≡ false) × (b ≡ false)
or_none true b h = absurd (false≢true (sym h))
or_none false b h = (refl, h)

in_int : (n : ℤ) → is_in_type Int n ≡ true → InType Int n
in_int n h =
    let b = both_true (int_le (low_of Int) n) (int_le n (high_of Int)) h in
    record { from = test_le (low_of Int) n b.0; to = test_le n (high_of Int) b.1 }

chosen_int : (b : Bool) (n : ℤ) → b ≡ true → InType Int n → EnumeratorIs (if b then Some n else None)
chosen_int true n e h = h
chosen_int false n e h = absurd (false≢true e)

abbrev IsKnown : Option ℤ → Type 0
IsKnown o = (n : ℤ) × (o ≡ Some n)

int_known : (o : Option ℤ) → IsKnown o → is_beyond o ≡ false → EnumeratorIs (int_in o)
int_known None k h = absurd (none-some k.0 k.1)
int_known (Some n) k h = let is = negated (is_in_type Int n) h in chosen_int (is_in_type Int n) n is (in_int n is)

next_known : (o : Option ℤ) → EnumeratorIs o → IsKnown (next_number o)
next_known None h = absurd h
next_known (Some n) h = (n +ℤ pos 1, refl)

number_of_constant : (c : Constant) → is_faulty c ≡ false → Gives c → IsKnown (number_of c)
number_of_constant (Number n) h g = (n, refl)
number_of_constant (Faulty f) h g = absurd (false≢true (sym h))
number_of_constant NotConstant h g = absurd g

number_known : (b : Bool) (c : Constant) → (not b || is_faulty c) ≡ false → Gives c → IsKnown (if not b || is_faulty c then None else number_of c)
number_known b c h g = rw h (number_of_constant c (or_none (not b) (is_faulty c) h).1 g)

value_known : (next : Option ℤ) (x : Identifier) (e : Option ExpressionTree) (w : W) → ((y : Identifier) → HasTypes (here w y)) → IsKnown next → (after_enumerator_value declarations.noting next x e w).found ≡ None
    → EnumeratorIs (enumerator_value w next e)
value_known next x None w t k h = int_known next k (holds_not _ _ _ (none_found w.found (fails_if (is_beyond next) rule.Constant x.at) h).1)
value_known next x (Some e) w t k h =
    let d = here w in
    let v = after_value declarations.noting e w in
    let r = none_found v.found (fails_if (is_refused_enumerator (evaluated w e)) rule.Constant (first_place_of e)) h in
    let f : used_failures d e ≡ [] = (none_found w.found (used_failures d e) r.0).1 in
    let is = or_none (is_refused (evaluated w e)) (is_beyond (number_in (evaluated w e))) (holds_not _ _ _ r.1) in
    let good = accepted_expressions_have_trees d t (length w.calls) e (none_before (failures d e) (void d e) f) in
    let gives = value_gives (type_of d e) (typed d (length w.calls) e) good (is_used d e (none_after (failures d e) (void d e) f)) (numeric d (length w.calls) e (or_left (is_constant_form d e) _ is.0)) in
    int_known (number_in (evaluated w e)) (number_known (is_constant_form d e) (given_by (value_at w e)) is.0 gives) is.1

-- ---- names behind them

-- what holds of names in scope, and of types and numbers of type int
pub record Holds (P : Option Declaration → Type 0) : Type 0 where
  pub has : (d : Option Declaration) → P d → HasTypes d
  pub tag : P (Some (TypeName int_named))
  pub constant : (v : Option ℤ) → EnumeratorIs v → P (Some (Enumerator v))

tag_names : (P : Option Declaration → Type 0) → Holds P → (x : Option Identifier) (w : W) → ((y : Identifier) → P (here w y)) → (y : Identifier) → P (here (after_tag declarations.noting x w) y)
tag_names P p None w h = h
tag_names P p (Some x) w h = all_declaring P w.scoping x (TypeName int_named) h p.tag

value_names : (P : Option Declaration → Type 0) (next : Option ℤ) (x : Identifier) (e : Option ExpressionTree) (w : W) → ((y : Identifier) → P (here w y)) → (y : Identifier) → P (here (after_enumerator_value declarations.noting next x e w) y)
value_names P next x None w h = h
value_names P next x (Some e) w h = h

-- an enumerator's value is an int, and the names behind it
record Known (P : Option Declaration → Type 0) (next : Option ℤ) (x : EnumeratorTree) (w : W) : Type 0 where
  value : EnumeratorIs (enumerator_value w next x.value)
  names : (y : Identifier) → P (here (after_enumerator declarations.noting next x w) y)

enumerator_known : (P : Option Declaration → Type 0) → Holds P → (next : Option ℤ) (x : EnumeratorTree) (w : W) → ((y : Identifier) → P (here w y)) → IsKnown next → (after_enumerator declarations.noting next x w).found ≡ None → Known P next x w
unfolding after_enumerator
enumerator_known P p next x w n k h =
    let v = after_enumerator_value declarations.noting next x.name x.value w in
    let c = enumerator_value w next x.value in
    let hv : v.found ≡ None = (later_enumerator_name c x.name v).found h in
    let is = value_known next x.name x.value w (λ y. p.has (here w y) (n y)) k hv in
    record { value = is; names = all_declaring P v.scoping x.name (Enumerator c) (value_names P next x.name x.value w n) (p.constant c is) }

enumerators_names : (P : Option Declaration → Type 0) → Holds P → (next : Option ℤ) (xs : List EnumeratorTree) (w : W) → ((y : Identifier) → P (here w y)) → IsKnown next → (after_enumerators declarations.noting next xs w).found ≡ None
    → (y : Identifier) → P (here (after_enumerators declarations.noting next xs w) y)
unfolding after_enumerators
enumerators_names P p next [] w n k h = n
enumerators_names P p next (x ∷ xs) w n k h =
    let v = after_enumerator declarations.noting next x w in
    let c = enumerator_value w next x.value in
    let one = enumerator_known P p next x w n k ((later_enumerators (next_number c) xs v).found h) in
    enumerators_names P p (next_number c) xs v one.names (next_known c one.value) h

pub words_names : (P : Option Declaration → Type 0) → Holds P → (words : OneOrMore Specifier) (e : Option EnumerationTree) (w : W) → ((y : Identifier) → P (here w y)) → (after_words declarations.noting words e w).found ≡ None
    → (y : Identifier) → P (here (after_words declarations.noting words e w) y)
unfolding after_words
words_names P p words None w n h = n
words_names P p words (Some e) w n h =
    enumerators_names P p (Some (pos 0)) (e.enumerators.first ∷ e.enumerators.more) (after_tag declarations.noting (type_name_among words) w) (tag_names P p (type_name_among words) w n) (pos 0, refl) h

pub holds_types : Holds HasTypes
holds_types = record { has = λ d h. h; tag = refl; constant = known_value }
  where
    known_value : (v : Option ℤ) → EnumeratorIs v → HasTypes (Some (Enumerator v))
    known_value None h = absurd h
    known_value (Some n) h = (n, refl)

pub holds_good : (a : Around) → Holds (DeclarationIs a)
holds_good a = record { has = has_types a; tag = refl; constant = λ v h. h }

-- the type that they name is known
pub words_known : (words : OneOrMore Specifier) (e : Option EnumerationTree) (w : W) → ((y : Identifier) → HasTypes (here w y)) → (after_words declarations.noting words e w).found ≡ None → is_unknown (words_at (here w) words e).typing ≡ false
unfolding after_words
words_known words None w t h = known_type (here w) (types_are (here w) t) words (none_found w.found (word_failures (here w) words) h).1
words_known words (Some e) w t h = refl

pub words_are : (u : UnitTree) (ls : List LocalTree) (words : OneOrMore Specifier) (e : Option EnumerationTree) (w : W) → NamesAre (around u ls w) (here w) → (after_words declarations.noting words e w).found ≡ None
    → NamesAre (around u ls (after_words declarations.noting words e w)) (here (after_words declarations.noting words e w))
words_are u ls words e w n h =
    names_later u ls w (after_words declarations.noting words e w) (here (after_words declarations.noting words e w)) (later_words words e w) (words_names (DeclarationIs (around u ls w)) (holds_good (around u ls w)) words e w n h)

-- ---- they call nothing

value_steps : (next : Option ℤ) (x : Identifier) (e : Option ExpressionTree) (w : W) → (after_enumerator_value declarations.noting next x e w).found ≡ None → Steps w (after_enumerator_value declarations.noting next x e w) [] 0
value_steps next x None w h = steps_none w _ refl refl
value_steps next x (Some e) w h =
    let r = none_found (after_value declarations.noting e w).found (fails_if (is_refused_enumerator (evaluated w e)) rule.Constant (first_place_of e)) h in
    let is = or_none (is_refused (evaluated w e)) (is_beyond (number_in (evaluated w e))) (holds_not _ _ _ r.1) in
    let s = no_site e w (or_left (is_constant_form (here w) e) _ is.0) in
    record { sites = s.sites; calls = s.calls; listed = s.listed; objects = s.objects }

enumerators_steps : (next : Option ℤ) (xs : List EnumeratorTree) (w : W) → (after_enumerators declarations.noting next xs w).found ≡ None → Steps w (after_enumerators declarations.noting next xs w) [] 0
unfolding after_enumerators after_enumerator
enumerators_steps next [] w h = steps_none w w refl refl
enumerators_steps next (x ∷ xs) w h =
    let c = enumerator_value w next x.value in
    let v = after_enumerator_value declarations.noting next x.name x.value w in
    let y = after_enumerator declarations.noting next x w in
    let hv : v.found ≡ None = (later_enumerator_name c x.name v).found ((later_enumerators (next_number c) xs y).found h) in
    steps w v _ [] [] 0 0 (value_steps next x.name x.value w hv) (steps v y _ [] [] 0 0 (steps_none v y refl refl) (enumerators_steps (next_number c) xs y h))

tag_steps : (x : Option Identifier) (w : W) → Steps w (after_tag declarations.noting x w) [] 0
tag_steps None w = steps_none w w refl refl
tag_steps (Some x) w = steps_none w _ refl refl

pub words_steps : (words : OneOrMore Specifier) (e : Option EnumerationTree) (w : W) → (after_words declarations.noting words e w).found ≡ None → Steps w (after_words declarations.noting words e w) [] 0
unfolding after_words
words_steps words None w h = steps_none w _ refl refl
words_steps words (Some e) w h =
    let v = after_tag declarations.noting (type_name_among words) w in
    steps w v _ [] [] 0 0 (tag_steps (type_name_among words) w) (enumerators_steps (Some (pos 0)) (e.enumerators.first ∷ e.enumerators.more) v h)

-- ---- what their constants hide

abbrev IsHidden : Around → DeclaredTree → Type 0
IsHidden a (tree.scalar_object i at e) = ⊥
IsHidden a (tree.array_object i at es) = ⊥
IsHidden a (tree.static_object n at) = ⊥
IsHidden a (tree.hiding_constant x at) = (k : Kind) × IsObject a k x

abbrev pub AreHidden : Around → List DeclaredTree → Type 0
AreHidden a [] = Unit {0}
AreHidden a (t ∷ ts) = IsHidden a t × AreHidden a ts

hidden_append : (a : Around) (xs ys : List DeclaredTree) → AreHidden a xs → AreHidden a ys → AreHidden a (xs ++ ys)
hidden_append a [] ys h k = k
hidden_append a (x ∷ xs) ys h k = (h.0, hidden_append a xs ys h.1 k)

object_kind : (a : Around) (b : Bool) (t : Option IntType) (x : Variable) → ObjectIs a b t x → (k : Kind) × IsObject a k x
object_kind a b None x h = absurd h
object_kind a false (Some t) x h = (scalar_kind t, h)
object_kind a true (Some t) x h = (array_kind t h.0, h.1)

hidden_is : (a : Around) (d : Option Declaration) (at : Pos) → DeclarationIs a d → AreHidden a (hidden d at)
hidden_is a None at h = tt
hidden_is a (Some (Object o)) at h = (object_kind a o.is_array o.int_type o.variable h, tt)
hidden_is a (Some (Function f)) at h = tt
hidden_is a (Some (Enumerator v)) at h = tt
hidden_is a (Some (TypeName t)) at h = tt

hidden_are : (a : Around) (next : Option ℤ) (xs : List EnumeratorTree) (w : W) → NamesAre a (here w) → IsKnown next → (after_enumerators declarations.noting next xs w).found ≡ None → AreHidden a (hidden_by declarations.noting next xs w)
unfolding after_enumerators hidden_by
hidden_are a next [] w n k h = tt
hidden_are a next (x ∷ xs) w n k h =
    let v = after_enumerator declarations.noting next x w in
    let c = enumerator_value w next x.value in
    let one = enumerator_known (DeclarationIs a) (holds_good a) next x w n k ((later_enumerators (next_number c) xs v).found h) in
    hidden_append a (hidden (here w x.name) x.name.at) (hidden_by declarations.noting (next_number c) xs v) (hidden_is a (here w x.name) x.name.at (n x.name)) (hidden_are a (next_number c) xs v one.names (next_known c one.value) h)

pub word_trees_are : (a : Around) (words : OneOrMore Specifier) (e : Option EnumerationTree) (w : W) → NamesAre a (here w) → (after_words declarations.noting words e w).found ≡ None → AreHidden a (word_trees_at declarations.noting words e w)
unfolding after_words word_trees_at
word_trees_are a words None w n h = tt
word_trees_are a words (Some e) w n h =
    hidden_are a (Some (pos 0)) (e.enumerators.first ∷ e.enumerators.more) (after_tag declarations.noting (type_name_among words) w) (tag_names (DeclarationIs a) (holds_good a) (type_name_among words) w n) (pos 0, refl) h

-- in front of the trees of declarators
hidden_before : (u : UnitTree) (ls : List LocalTree) (w x : W) (hs ts : List DeclaredTree) → AreHidden (around u ls w) hs → AllDeclaredPart u ls w x (Some ts) → AllDeclaredPart u ls w x (Some (hs ++ ts))
hidden_before u ls w x [] ts h p = p
hidden_before u ls w x (tree.scalar_object i at e ∷ hs) ts h p = absurd h.0
hidden_before u ls w x (tree.array_object i at es ∷ hs) ts h p = absurd h.0
hidden_before u ls w x (tree.static_object i at ∷ hs) ts h p = absurd h.0
hidden_before u ls w x (tree.hiding_constant y at ∷ hs) ts h p =
    one_more u ls w w x (Some (tree.hiding_constant y at)) (Some (hs ++ ts)) (h.0, steps_none w w refl refl) (hidden_before u ls w x hs ts h.1 p)

pub with_hidden : (u : UnitTree) (ls : List LocalTree) (w x : W) (hs : List DeclaredTree) (o : Option (List DeclaredTree)) → AreHidden (around u ls w) hs → AllDeclaredPart u ls w x o → AllDeclaredPart u ls w x (Rattle.std.specs.Option.option_map (λ ts. hs ++ ts) o)
with_hidden u ls w x hs None h p = tt
with_hidden u ls w x hs (Some ts) h p = hidden_before u ls w x hs ts h p
