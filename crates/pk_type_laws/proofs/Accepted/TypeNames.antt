-- Type names that an accepted text declares.
use Rattle.std.proofs.Common.{◌≡◌, false, List, [], ◌∷◌, ◌++◌, None, sym, append-nil}
use Rattle.pk_ast.specs.declared.expressions.Identifier.{Identifier}
use Rattle.pk_ast.specs.Trees.{TypedefTree}
use Rattle.pk_typed.specs.Trees.{UnitTree}
use Rattle.pk_type_scope.specs.declared.declarations.Declaration.TheVariants.{TypeName}
use Rattle.pk_type_scope.specs.declared.declarations.NamedType.{NamedType}
use Rattle.pk_type_scope.specs.Declarations.{is_unknown}
use Rattle.pk_type_declaration.specs.Enumerations.{words_at, after_words}
use Rattle.pk_type_declaration.specs.Walks.{here}
use Rattle.pk_type_declaration.specs.Rules as declarations
use Rattle.pk_type_declaration.specs.Rules.{redeclared, special_object}
use Rattle.pk_type.specs.Files.{on, without_calls}
use Rattle.pk_type.specs.TypeNames.{named_type, after_type_name, after_type_names, after_typedef}
use Rattle.pk_type_laws.proofs.Accepted.Walks.{W, none_found, statics_same, Later, later_same, later}
use Rattle.pk_type_laws.proofs.Accepted.Declarations.{has_types, names_declaring}
use Rattle.pk_type_laws.proofs.Accepted.Files.{F, in_file, kept_same, LaterFile, FileIs, known_declaring, words_in_file}
use Rattle.pk_type_laws.proofs.Accepted.Enumerations.{later_words, words_known}

later_name : (t : NamedType) (x : Identifier) (w : W) → Later w (after_type_name declarations.noting t x w)
later_name t x w = record { found = λ h. (none_found w.found (redeclared w.scoping x ++ special_object w.scoping x) h).0; more = []; locals = sym (append-nil w.locals); statics = statics_same w.statics }

later_names : (t : NamedType) (xs : List Identifier) (w : W) → Later w (after_type_names declarations.noting t xs w)
unfolding after_type_names
later_names t [] w = later_same w
later_names t (x ∷ xs) w = later w (after_type_name declarations.noting t x w) _ (later_name t x w) (later_names t xs (after_type_name declarations.noting t x w))

-- the words fail no row
pub type_words : (d : TypedefTree) (w : W) → (after_typedef declarations.noting d w).found ≡ None → (after_words declarations.noting d.specifiers d.enumeration w).found ≡ None
unfolding after_typedef
type_words d w h =
    (later_names (named_type (words_at (here w) d.specifiers d.enumeration)) (d.names.first ∷ d.names.more) (after_words declarations.noting d.specifiers d.enumeration w)).found h

pub later_typedef : (d : TypedefTree) (f : F) → LaterFile f (without_calls (on (after_typedef declarations.noting d) f))
unfolding after_typedef
later_typedef d f =
    let w = f.walked in
    let v = after_words declarations.noting d.specifiers d.enumeration w in
    let l = later w v _ (later_words d.specifiers d.enumeration w) (later_names (named_type (words_at (here w) d.specifiers d.enumeration)) (d.names.first ∷ d.names.more) v) in
    record { found = l.found; more = []; objects = sym (append-nil f.objects); entries = kept_same f.functions; statics = l.statics }

names_are : (u : UnitTree) (t : NamedType) (xs : List Identifier) (f : F) → is_unknown t.typing ≡ false → FileIs u f → FileIs u (on (after_type_names declarations.noting t xs) f)
unfolding after_type_names
names_are u t [] f k is = record { names = is.names; known = is.known; locals = is.locals; objects = is.objects; entries = is.entries }
names_are u t (x ∷ xs) f k is =
    let w = f.walked in
    let g = on (after_type_name declarations.noting t x) f in
    let at : FileIs u g = record {
      names = names_declaring (in_file u) w.scoping x (TypeName t) is.names k;
      known = known_declaring f.functions w.scoping x (TypeName t) is.known tt;
      locals = is.locals;
      objects = is.objects;
      entries = is.entries;
    } in
    names_are u t xs g k at

pub typedef_is : (u : UnitTree) (d : TypedefTree) (f : F) → FileIs u f → (after_typedef declarations.noting d f.walked).found ≡ None → FileIs u (without_calls (on (after_typedef declarations.noting d) f))
unfolding after_typedef
typedef_is u d f is h =
    let c = here f.walked in
    let g = on (after_words declarations.noting d.specifiers d.enumeration) f in
    let hw = type_words d f.walked h in
    let known = words_known d.specifiers d.enumeration f.walked (λ x. has_types (in_file u) (c x) (is.names x)) hw in
    let all = names_are u (named_type (words_at c d.specifiers d.enumeration)) (d.names.first ∷ d.names.more) g known (words_in_file u d.specifiers d.enumeration f is hw) in
    record { names = all.names; known = all.known; locals = all.locals; objects = all.objects; entries = all.entries }
