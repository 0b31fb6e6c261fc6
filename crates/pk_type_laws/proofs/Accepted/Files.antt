-- Objects and functions of the file in an accepted text.
use Rattle.std.proofs.Common.{◌≡◌, ℕ, ◌≤◌, Bool, true, false, List, [], ◌∷◌, ◌++◌, Option, Some, None, length, refl, ap, sym, subst, ◌∙◌, arith, append_assoc, append-nil}
use Rattle.std.specs.Prelude.{All, slice_get, is_some}
use Rattle.std.proofs.lemmas.List.Elements.{All-push}
use Rattle.pk_ctypes.specs.declared.types.IntType.{IntType}
use Rattle.pk_ast.specs.declared.expressions.Identifier.{Identifier}
use Rattle.pk_ast.specs.declared.units.Storage.{Storage}
use Rattle.pk_ast.specs.declared.declarations.Specifier.{Specifier}
use Rattle.pk_ast.specs.Trees.{OneOrMore, ExpressionTree, InitializerTree, DimensionsTree, DeclaratorTree, EnumerationTree, DeclarationTree}
use Rattle.pk_typed.specs.declared.values.Variable.TheVariants.{File, Local}
use Rattle.pk_typed.specs.Trees.{LocalTree, FileObjectTree, UnitTree}
use Rattle.pk_type_scope.specs.declared.declarations.Callee.{Callee}
use Rattle.pk_type_scope.specs.declared.declarations.Callee.TheVariants.{Ordinary, Any, Assume, Assert, Abort}
use Rattle.pk_type_scope.specs.declared.declarations.Declaration.{Declaration}
use Rattle.pk_type_scope.specs.declared.declarations.Declaration.TheVariants.{Object, Function, Enumerator, TypeName}
use Rattle.pk_type_scope.specs.declared.declarations.Typing.TheVariants.{Void, Integer, Unknown}
use Rattle.pk_type_scope.specs.declared.failures.Failure.{Failure}
use Rattle.pk_type_scope.specs.Declarations.{Names, is_void, is_unknown}
use Rattle.pk_type_scope.specs.Failures.{noted}
use Rattle.pk_type_scope.specs.Scopes.{Scoping, names_in, declaring}
use Rattle.pk_type_expression.specs.Rules.{count}
use Rattle.pk_type_expression.proofs.TreeLemmas.{none_before, none_after, holds_not}
use Rattle.pk_type_declaration.specs.declared.words.Words.{Words}
use Rattle.pk_type_declaration.specs.Constants.{evaluated, length_in, after_length}
use Rattle.pk_type_declaration.specs.Declarations.{type_or_int, text_of, length_at, after_columns, after_dimensions, length_or_1}
use Rattle.pk_type_declaration.specs.Enumerations.{words_at, after_words}
use Rattle.pk_type_declaration.specs.Walks.{here, after_name}
use Rattle.pk_type_declaration.specs.Initializers.{given}
use Rattle.pk_type_declaration.specs.Starts.{after_numbers, numbers_at, start_of}
use Rattle.pk_type_declaration.specs.Rules as declarations
use Rattle.pk_type_declaration.specs.Rules.{redeclared, void_object, special_object, braces, misfit, failing}
use Rattle.pk_type.specs.Files.{EntryTree, Filed, file_object, after_object, after_objects, on, after_declaration}
use Rattle.pk_type.specs.Files as files
use Rattle.pk_type.specs.Units.{function_of}
use Rattle.pk_type.specs.Rules as units
use Rattle.pk_type.specs.Rules.{extern_object}
use Rattle.pk_welltyped.specs.WellTyped.{Around, IsObject, kind_in_file, IsStart, IsBodyIf}
use Rattle.pk_type_laws.specs.Accepted.Names.{ObjectIs, CalleeIs, DeclarationIs, NamesAre}
use Rattle.pk_type_laws.proofs.Accepted.Walks.{W, none_found, LaterStatics, statics_same, statics_later, Later, later, later_failing}
use Rattle.pk_type_laws.proofs.Accepted.Declarations.{has_types, all_declaring, names_declaring, StaticsStand, statics_before, later_dimensions, no_columns, length_known}
use Rattle.pk_type_laws.proofs.Accepted.Enumerations.{later_words, words_locals, Holds, words_names, words_known}
use Rattle.pk_type_laws.proofs.Accepted.Starts.{later_numbers, same_scope, same_locals, numbers_in_type, numbers_many, given_fit, RoomIn, start_is, start_length, object_is, its_kind}
use Rattle.pk_type_laws.proofs.Accepted.Functions.{Integers}
use Rattle.pk_graph.specs.Kinds.{Kind, scalar_kind, array_kind}

abbrev pub F : Type 0
F = Filed (Option Failure)

-- what is declared around a place of the file
abbrev pub in_file : UnitTree → Around
in_file u = record { unit = u; locals = []; objects = 0 }

abbrev pub SameEntry : EntryTree → Option EntryTree → Type 0
SameEntry e None = ⊥
SameEntry e (Some f) = f.signature ≡ e.signature

abbrev pub Entries : Type 0
Entries = List EntryTree

abbrev pub Kept : Entries → Entries → Type 0
Kept es fs = (n : ℕ) (e : EntryTree) → slice_get es n ≡ Some e → SameEntry e (slice_get fs n)

-- a later place of the file
pub record LaterFile (f g : F) : Type 0 where
  pub found : g.walked.found ≡ None → f.walked.found ≡ None
  pub more : List FileObjectTree
  pub objects : g.objects ≡ f.objects ++ more
  pub entries : Kept f.functions g.functions
  pub statics : LaterStatics f.walked.statics g.walked.statics

pub kept_same : (es : Entries) → Kept es es
kept_same es n e h = subst (SameEntry e) (sym h) refl

kept_then : (es fs gs : Entries) → Kept es fs → Kept fs gs → Kept es gs
kept_then es fs gs a b n e h = go (slice_get fs n) refl (a n e h)
  where
    go : (o : Option EntryTree) → slice_get fs n ≡ o → SameEntry e o → SameEntry e (slice_get gs n)
    go None is s = absurd s
    go (Some x) is s = turned (slice_get gs n) (b n x is) s
      where
        turned : (o : Option EntryTree) → SameEntry x o → x.signature ≡ e.signature → SameEntry e o
        turned None s t = absurd s
        turned (Some y) s t = s ∙ t

pub file_same : (f : F) → LaterFile f f
file_same f = record { found = λ h. h; more = []; objects = sym (append-nil f.objects); entries = kept_same f.functions; statics = statics_same f.walked.statics }

pub file_later : (f g h : F) → LaterFile f g → LaterFile g h → LaterFile f h
file_later f g h a b = record {
  found = λ x. a.found (b.found x);
  more = a.more ++ b.more;
  objects = b.objects ∙ (ap (λ (xs : List FileObjectTree). xs ++ b.more) a.objects ∙ append_assoc f.objects a.more b.more);
  entries = kept_then f.functions g.functions h.functions a.entries b.entries;
  statics = statics_later f.walked.statics g.walked.statics h.walked.statics a.statics b.statics;
}

-- the unit has what stands before the place
pub record Stands (u : UnitTree) (f : F) : Type 0 where
  pub rest : List FileObjectTree
  pub objects : u.objects ≡ f.objects ++ rest
  pub functions : (n : ℕ) (e : EntryTree) → slice_get f.functions n ≡ Some e → (x : EntryTree) × (slice_get u.functions n ≡ Some (function_of x)) × (x.signature ≡ e.signature)
  pub statics : StaticsStand u f.walked.statics

pub stands_before : (u : UnitTree) (f g : F) → LaterFile f g → Stands u g → Stands u f
stands_before u f g l s = record {
  rest = l.more ++ s.rest;
  objects = s.objects ∙ (ap (λ (xs : List FileObjectTree). xs ++ s.rest) l.objects ∙ append_assoc f.objects l.more s.rest);
  functions = λ n e h. found n e (slice_get g.functions n) refl (l.entries n e h);
  statics = statics_before u f.walked.statics g.walked.statics l.statics s.statics;
}
  where
    found : (n : ℕ) (e : EntryTree) (o : Option EntryTree) → slice_get g.functions n ≡ o → SameEntry e o → (x : EntryTree) × (slice_get u.functions n ≡ Some (function_of x)) × (x.signature ≡ e.signature)
    found n e None is h = absurd h
    found n e (Some y) is h = let r = s.functions n y is in (r.0, r.1, r.2 ∙ h)

abbrev pub KnownIn : Entries → Option Declaration → Type 0
KnownIn es None = Unit {0}
KnownIn es (Some (Object o)) = Unit {0}
KnownIn es (Some (Enumerator n)) = Unit {0}
KnownIn es (Some (TypeName t)) = Unit {0}
KnownIn es (Some (Function f)) = (e : EntryTree) × (slice_get es f.number ≡ Some e)

pub record EntryIs (u : UnitTree) (e : EntryTree) : Type 0 where
  pub body : IsBodyIf u (function_of e) e.body
  pub integers : Integers e.signature.parameters
  pub returns : is_unknown e.signature.returns ≡ false

-- what holds at each place between external definitions
pub record FileIs (u : UnitTree) (f : F) : Type 0 where
  pub names : NamesAre (in_file u) (here f.walked)
  pub known : (x : Identifier) → KnownIn f.functions (here f.walked x)
  pub locals : f.walked.locals ≡ []
  pub objects : All (λ (x : FileObjectTree). IsStart x.int_type x.start) f.objects
  pub entries : (n : ℕ) (e : EntryTree) → slice_get f.functions n ≡ Some e → EntryIs u e

abbrev InFile : UnitTree → F → Option Declaration → Type 0
InFile u f d = DeclarationIs (in_file u) d × KnownIn f.functions d

holds_in_file : (u : UnitTree) (f : F) → Holds (InFile u f)
holds_in_file u f = record { has = λ d h. has_types (in_file u) d h.0; tag = (refl, tt); constant = λ v h. (h, tt) }

-- names of the file, at a place of a function
object_from_file : (u : UnitTree) (ls : List LocalTree) (n : ℕ) (k : Kind) (x : Rattle.pk_typed.specs.declared.values.Variable.Variable) → IsObject (in_file u) k x → IsObject (record { unit = u; locals = ls; objects = n }) k x
object_from_file u ls n k (File i) h = h
object_from_file u ls n k (Local i) h = absurd (omega (h.0, arith))

objects_from_file : (u : UnitTree) (ls : List LocalTree) (n : ℕ) (b : Bool) (t : Option IntType) (x : Rattle.pk_typed.specs.declared.values.Variable.Variable) → ObjectIs (in_file u) b t x → ObjectIs (record { unit = u; locals = ls; objects = n }) b t x
objects_from_file u ls n b None x h = absurd h
objects_from_file u ls n false (Some t) x h = object_from_file u ls n (scalar_kind t) x h
objects_from_file u ls n true (Some t) x h = (h.0, object_from_file u ls n (array_kind t h.0) x h.1)

callee_from_file : (u : UnitTree) (ls : List LocalTree) (n f : ℕ) (c : Callee) → CalleeIs (in_file u) f c → CalleeIs (record { unit = u; locals = ls; objects = n }) f c
callee_from_file u ls n f (Ordinary Void k) h = h
callee_from_file u ls n f (Ordinary (Integer t) k) h = h
callee_from_file u ls n f (Ordinary Unknown k) h = h
callee_from_file u ls n f (Any t) h = h
callee_from_file u ls n f Assume h = h
callee_from_file u ls n f Assert h = h
callee_from_file u ls n f Abort h = h

from_file : (u : UnitTree) (ls : List LocalTree) (n : ℕ) (d : Option Declaration) → DeclarationIs (in_file u) d → DeclarationIs (record { unit = u; locals = ls; objects = n }) d
from_file u ls n None h = tt
from_file u ls n (Some (Object o)) h = objects_from_file u ls n o.is_array o.int_type o.variable h
from_file u ls n (Some (Function f)) h = callee_from_file u ls n f.number f.callee h
from_file u ls n (Some (Enumerator v)) h = h
from_file u ls n (Some (TypeName t)) h = h

pub names_from_file : (u : UnitTree) (ls : List LocalTree) (n : ℕ) (d : Names) → NamesAre (in_file u) d → NamesAre (record { unit = u; locals = ls; objects = n }) d
names_from_file u ls n d h x = from_file u ls n (d x) (h x)

-- ---- objects

pub known_declaring : (es : Entries) (s : Scoping) (x : Identifier) (o : Declaration) → ((y : Identifier) → KnownIn es (names_in s y)) → KnownIn es (Some o) → (y : Identifier) → KnownIn es (names_in (declaring s x o) y)
known_declaring es = all_declaring (KnownIn es)

-- an object, behind its length
object_made : (u : UnitTree) (words : Words) (b : Bool) (n : Option ℕ) (x : Identifier) (i : Option InitializerTree) (f : F) (w : W) (rows fs : List Failure) (name : List ℕ) → w.scoping ≡ f.walked.scoping → w.locals ≡ f.walked.locals
    → is_void words.typing ≡ false → is_unknown words.typing ≡ false → FileIs u f → RoomIn b n (count (given i))
    → (let t = type_or_int words.typing in let v = failing noted fs (after_name x (file_object words b f) (failing noted rows w)) in
    let g : F = record { walked = after_numbers declarations.noting (given i) v; objects = f.objects ++ record { name = name; int_type = t; start = start_of (length_or_1 b n) (numbers_at declarations.noting t (given i) v) } ∷ []; functions = f.functions } in
    Stands u g → FileIs u g)
object_made u words b n x i f w rows fs name sc lc void unknown h r s =
    let t = type_or_int words.typing in
    let v = failing noted fs (after_name x (file_object words b f) (failing noted rows w)) in
    let zs = numbers_at declarations.noting t (given i) v in
    let o : FileObjectTree = record { name = name; int_type = t; start = start_of (length_or_1 b n) zs } in
    let q = after_numbers declarations.noting (given i) v in
    let sq : q.scoping ≡ declaring w.scoping x (file_object words b f) = same_scope (given i) v in
    let is : u.objects ≡ f.objects ++ o ∷ s.rest = s.objects ∙ append_assoc f.objects (o ∷ []) s.rest in
    let kind : kind_in_file u (length f.objects) ≡ Some (record { int_type = t; length = length_or_1 b n }) = its_kind u f.objects s.rest o (length_or_1 b n) is (start_length b n zs) in
    record {
      names = subst (λ (c : Scoping). NamesAre (in_file u) (names_in c)) (sym sq) (names_declaring (in_file u) w.scoping x (file_object words b f) (subst (λ (c : Scoping). NamesAre (in_file u) (names_in c)) (sym sc) h.names)
          (object_is (in_file u) (length f.objects) words.typing b n void unknown kind));
      known = subst (λ (c : Scoping). (y : Identifier) → KnownIn f.functions (names_in c y)) (sym sq) (known_declaring f.functions w.scoping x (file_object words b f) (subst (λ (c : Scoping). (y : Identifier) → KnownIn f.functions (names_in c y)) (sym sc) h.known) tt);
      locals = same_locals (given i) v ∙ (lc ∙ h.locals);
      objects = All-push (λ (y : FileObjectTree). IsStart y.int_type y.start) f.objects o h.objects (start_is t b n zs (numbers_in_type t (given i) v) (subst (RoomIn b n) (sym (numbers_many t (given i) v)) r));
      entries = h.entries;
    }

later_head : (storage : Option Storage) (words : Words) (d : DeclaratorTree) (f : F) → Later f.walked (files.after_head units.noting storage words d f)
later_head storage words d f =
    let w = after_dimensions declarations.noting d.name.at d.dimensions f.walked in
    let rows = redeclared w.scoping d.name ++ extern_object storage d.name ++ void_object words.typing d.name.at ++ special_object w.scoping d.name in
    let fs = braces (is_some d.dimensions) d.initializer d.name.at ++ misfit (length_at f.walked d.dimensions) d.initializer in
    let v : W = after_name d.name (file_object words (is_some d.dimensions) f) (failing noted rows w) in
    let named : Later (failing noted rows w) v = record { found = λ h. h; more = []; locals = sym (append-nil w.locals); statics = statics_same w.statics } in
    later f.walked w _ (later_dimensions d.name.at d.dimensions f.walked) (later w (failing noted rows w) _ (later_failing rows w) (later (failing noted rows w) v _ named (later_failing fs v)))

later_object : (storage : Option Storage) (words : Words) (d : DeclaratorTree) (f : F) → LaterFile f (after_object units.noting storage words d f)
unfolding after_object
later_object storage words d f =
    let w = files.after_head units.noting storage words d f in
    let t = type_or_int words.typing in
    record {
      found = λ h. (later_head storage words d f).found ((later_numbers (given d.initializer) w).found h);
      more = record { name = text_of f.walked.scoping d.name; int_type = t; start = start_of (length_or_1 (is_some d.dimensions) (length_at f.walked d.dimensions)) (numbers_at declarations.noting t (given d.initializer) w) } ∷ [];
      objects = refl;
      entries = kept_same f.functions;
      statics = statics_later f.walked.statics w.statics (after_numbers declarations.noting (given d.initializer) w).statics (later_head storage words d f).statics (later_numbers (given d.initializer) w).statics;
    }

later_objects : (storage : Option Storage) (words : Words) (ds : List DeclaratorTree) (f : F) → LaterFile f (after_objects units.noting storage words ds f)
unfolding after_objects
later_objects storage words [] f = file_same f
later_objects storage words (d ∷ ds) f = file_later f (after_object units.noting storage words d f) _ (later_object storage words d f) (later_objects storage words ds (after_object units.noting storage words d f))

pub later_declaration : (storage : Option Storage) (d : DeclarationTree) (f : F) → LaterFile f (after_declaration units.noting storage d f)
unfolding after_declaration
later_declaration storage d f =
    let g = on (after_words declarations.noting d.specifiers d.enumeration) f in
    let l = later_objects storage (words_at (here f.walked) d.specifiers d.enumeration) d.declarators g in
    let v = later_words d.specifiers d.enumeration f.walked in
    record { found = λ h. v.found (l.found h); more = l.more; objects = l.objects; entries = l.entries; statics = statics_later f.walked.statics g.walked.statics _ v.statics l.statics }

void_row : (a b c d : List Failure) → a ++ b ++ c ++ d ≡ [] → c ≡ []
void_row a b c d h = none_after (a ++ b) c (none_before (a ++ b ++ c) d h)

one_array : (u : UnitTree) (storage : Option Storage) (words : Words) (x : Identifier) (e : ExpressionTree) (c : Option ExpressionTree) (i : Option InitializerTree) (f : F) → is_unknown words.typing ≡ false → FileIs u f
    → (let d : DeclaratorTree = record { name = x; dimensions = Some (record { length = e; columns = c }); initializer = i } in Stands u (after_object units.noting storage words d f) → (after_object units.noting storage words d f).walked.found ≡ None → FileIs u (after_object units.noting storage words d f))
unfolding after_object
one_array u storage words x e None i f unknown h s k =
    let w = after_length declarations.noting e f.walked in
    let n = length_in (evaluated f.walked e) in
    let rows = redeclared w.scoping x ++ extern_object storage x ++ void_object words.typing x.at ++ special_object w.scoping x in
    let fs = braces true i x.at ++ misfit n i in
    let v = failing noted fs (after_name x (file_object words true f) (failing noted rows w)) in
    let k1 = none_found (noted w.found rows) fs ((later_numbers (given i) v).found k) in
    let k2 = none_found w.found rows k1.0 in
    let void : is_void words.typing ≡ false = holds_not _ _ _ (void_row (redeclared w.scoping x) (extern_object storage x) (void_object words.typing x.at) (special_object w.scoping x) k2.1) in
    let m = length_known u [] f.walked e (names_from_file u [] (length f.walked.locals) (here f.walked) h.names) k2.0 in
    let fits : count (given i) ≤ m.0 = given_fit i m.0 x.at (none_before (braces true i x.at) (misfit n i) k1.1) (rw m.1 at (none_after (braces true i x.at) (misfit n i) k1.1)) in
    object_made u words true n x i f w rows fs (text_of f.walked.scoping x) refl refl void unknown h (subst (λ (o : Option ℕ). RoomIn true o (count (given i))) (sym m.1) (fits, m.3)) s
one_array u storage words x e (Some c) i f unknown h s k =
    let z = after_length declarations.noting e f.walked in
    let w = after_columns declarations.noting x.at (Some c) z in
    let rows = redeclared w.scoping x ++ extern_object storage x ++ void_object words.typing x.at ++ special_object w.scoping x in
    let fs = braces true i x.at ++ misfit (length_in (evaluated f.walked e)) i in
    let v = failing noted fs (after_name x (file_object words true f) (failing noted rows w)) in
    let k1 = none_found (noted w.found rows) fs ((later_numbers (given i) v).found k) in
    absurd (no_columns x.at c z (none_found w.found rows k1.0).0)

one_object : (u : UnitTree) (storage : Option Storage) (words : Words) (x : Identifier) (e : Option DimensionsTree) (i : Option InitializerTree) (f : F) → is_unknown words.typing ≡ false → FileIs u f
    → (let d : DeclaratorTree = record { name = x; dimensions = e; initializer = i } in Stands u (after_object units.noting storage words d f) → (after_object units.noting storage words d f).walked.found ≡ None → FileIs u (after_object units.noting storage words d f))
unfolding after_object
one_object u storage words x None i f unknown h s k =
    let w = f.walked in
    let rows = redeclared w.scoping x ++ extern_object storage x ++ void_object words.typing x.at ++ special_object w.scoping x in
    let fs = braces false i x.at ++ misfit None i in
    let v = failing noted fs (after_name x (file_object words false f) (failing noted rows w)) in
    let k1 = none_found (noted w.found rows) fs ((later_numbers (given i) v).found k) in
    let k2 = none_found w.found rows k1.0 in
    let void : is_void words.typing ≡ false = holds_not _ _ _ (void_row (redeclared w.scoping x) (extern_object storage x) (void_object words.typing x.at) (special_object w.scoping x) k2.1) in
    object_made u words false None x i f w rows fs (text_of w.scoping x) refl refl void unknown h tt s
one_object u storage words x (Some e) i f unknown h s k = one_array u storage words x e.length e.columns i f unknown h s k

all_objects : (u : UnitTree) (storage : Option Storage) (words : Words) (ds : List DeclaratorTree) (f : F) → is_unknown words.typing ≡ false → FileIs u f → Stands u (after_objects units.noting storage words ds f)
    → (after_objects units.noting storage words ds f).walked.found ≡ None
    → FileIs u (after_objects units.noting storage words ds f)
unfolding after_objects
all_objects u storage words [] f unknown h s k = h
all_objects u storage words (d ∷ ds) f unknown h s k =
    let g = after_object units.noting storage words d f in
    let l = later_objects storage words ds g in
    all_objects u storage words ds g unknown (one_object u storage words d.name d.dimensions d.initializer f unknown h (stands_before u g _ l s) (l.found k)) s k

-- the words of a declaration of the file
pub words_in_file : (u : UnitTree) (words : OneOrMore Specifier) (e : Option EnumerationTree) (f : F) → FileIs u f → (after_words declarations.noting words e f.walked).found ≡ None → FileIs u (on (after_words declarations.noting words e) f)
words_in_file u words e f is h =
    let all = words_names (InFile u f) (holds_in_file u f) words e f.walked (λ x. (is.names x, is.known x)) h in
    record { names = λ x. (all x).0; known = λ x. (all x).1; locals = words_locals words e f.walked ∙ is.locals; objects = is.objects; entries = is.entries }

pub declaration : (u : UnitTree) (storage : Option Storage) (d : DeclarationTree) (f : F) → FileIs u f → Stands u (after_declaration units.noting storage d f) → (after_declaration units.noting storage d f).walked.found ≡ None
    → FileIs u (after_declaration units.noting storage d f)
unfolding after_declaration
declaration u storage d f h s k =
    let g = on (after_words declarations.noting d.specifiers d.enumeration) f in
    let words = words_at (here f.walked) d.specifiers d.enumeration in
    let kg = (later_objects storage words d.declarators g).found k in
    let unknown = words_known d.specifiers d.enumeration f.walked (λ x. has_types (in_file u) (here f.walked x) (h.names x)) kg in
    let at = words_in_file u d.specifiers d.enumeration f h kg in
    let all = all_objects u storage words d.declarators g unknown at (record { rest = s.rest; objects = s.objects; functions = s.functions; statics = s.statics }) k in
    record { names = all.names; known = all.known; locals = all.locals; objects = all.objects; entries = all.entries }
