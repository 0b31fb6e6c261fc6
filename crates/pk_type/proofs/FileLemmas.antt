-- Objects of the file scope from a place on.
use Rattle.std.proofs.lemmas.List.{map-append}
use Rattle.std.proofs.Common.{◌≡◌, ℕ, Bool, List, [], ◌∷◌, ◌++◌, Option, Some, None, option_map, map, refl, ap, sym, ◌∙◌}
use Rattle.pk_ctypes.specs.declared.words.Rule.TheVariants as rule
use Rattle.std.specs.Option.{is_some}
use Rattle.pk_ast.specs.declared.units.Storage.{Storage}
use Rattle.pk_ast.specs.Trees.{DeclaratorTree, DeclarationTree}
use Rattle.pk_typed.specs.declared.units.FileObject.{FileObject}
use Rattle.pk_typed.specs.Views.{file_object_tree}
use Rattle.pk_type_scope.specs.declared.failures.Failure.{Failure}
use Rattle.pk_type_scope.specs.declared.declarations.Declaration.{Declaration}
use Rattle.pk_type_scope.specs.Declarations.{is_void}
use Rattle.pk_type_scope.specs.Failures.{noted, fails_if}
use Rattle.pk_type_scope.specs.Scopes.{declared_here, spelled}
use Rattle.pk_type_declaration.specs.declared.words.Words.{Words}
use Rattle.pk_type_declaration.specs.Declarations.{after_dimensions, length_at}
use Rattle.pk_type_declaration.specs.Enumerations.{words_at, after_words}
use Rattle.pk_type_declaration.specs.Specials.{special}
use Rattle.pk_type_declaration.specs.Walks.{Walked, here, after_name}
use Rattle.pk_type_declaration.specs.Rules.{braces, misfit, failing}
use Rattle.pk_type_statement.proofs.CaseLemmas.{failing_twice}
use Rattle.pk_type.specs.Files.{Filed, file_object, after_head, after_object, after_objects, after_declaration, without_calls, on}
use Rattle.pk_type.specs.Rules.{is_extern, noting}

abbrev State : Type 0
State = Walked (Option Failure)

abbrev Files : Type 0
Files = Filed (Option Failure)

pub objects_append : (xs ys : List FileObject) → map file_object_tree (xs ++ ys) ≡ map file_object_tree xs ++ map file_object_tree ys
objects_append xs ys = map-append file_object_tree xs ys

pub objects_step : (storage : Option Storage) (words : Words) (f g all : Files) (now rest : List DeclaratorTree) (d : DeclaratorTree) → now ≡ d ∷ rest → g ≡ after_object noting storage words d f → after_objects noting storage words now f ≡ all → after_objects noting storage words rest g ≡ all
unfolding after_objects
objects_step storage words f g all now rest d p q h = ap (after_objects noting storage words rest) q ∙ (ap (λ n. after_objects noting storage words n f) (sym p) ∙ h)

pub objects_ended : (storage : Option Storage) (words : Words) (f all : Files) (now : List DeclaratorTree) → now ≡ [] → after_objects noting storage words now f ≡ all → f ≡ all
unfolding after_objects
objects_ended storage words f all now p h = ap (λ n. after_objects noting storage words n f) (sym p) ∙ h

pub declaration_step : (storage : Option Storage) (d : DeclarationTree) (words : Words) (ds : List DeclaratorTree) (f a c g : Files) → words ≡ words_at (here f.walked) d.specifiers d.enumeration → ds ≡ d.declarators →
    a ≡ on (after_words noting.statements.declarations d.specifiers d.enumeration) f → c ≡ after_objects noting storage words ds a → g ≡ without_calls c → g ≡ after_declaration noting storage d f
unfolding after_declaration
declaration_step storage d words ds f a c g p q r t u =
    u ∙ ap without_calls (t ∙ (ap (λ y. after_objects noting storage words y a) q
    ∙ (ap (after_objects noting storage words d.declarators) r
    ∙ ap (λ y. after_objects noting storage y d.declarators (on (after_words noting.statements.declarations d.specifiers d.enumeration) f)) p)))

-- a declarator as far as what its name begins with, step by step
pub head_walked : (storage : Option Storage) (words : Words) (d : DeclaratorTree) (f : Files) (len : Option ℕ) (o : Declaration) (is_array again ext void odd : Bool) (a b c e g : State) →
    a ≡ after_dimensions noting.statements.declarations d.name.at d.dimensions f.walked → is_array ≡ is_some d.dimensions → len ≡ length_at f.walked d.dimensions → o ≡ file_object words is_array f → again ≡ is_some (declared_here a.scoping d.name) → b ≡ after_name d.name o a →
    ext ≡ is_extern storage → void ≡ is_void words.typing → odd ≡ is_some (special (spelled a.scoping.text d.name)) →
    c ≡ failing noted (fails_if again rule.Redeclared d.name.at ++ fails_if ext rule.Extern d.name.at ++ fails_if void rule.Void d.name.at ++ fails_if odd rule.Special d.name.at) b →
    e ≡ failing noted (braces is_array d.initializer d.name.at) c → g ≡ failing noted (misfit len d.initializer) e → g ≡ after_head noting storage words d f
head_walked storage words d f len o is_array again ext void odd a b c e g ha hi hl ho hr hb hx hv hs hc he hg =
    let x = d.name in
    let w : State = after_dimensions noting.statements.declarations d.name.at d.dimensions f.walked in
    let rows : Bool → Bool → Bool → Bool → List Failure = λ k l m n. fails_if k rule.Redeclared x.at ++ fails_if l rule.Extern x.at ++ fails_if m rule.Void x.at ++ fails_if n rule.Special x.at in
    let all : List Failure = rows (is_some (declared_here w.scoping x)) (is_extern storage) (is_void words.typing) (is_some (special (spelled w.scoping.text x))) in
    let made : State → State = λ s. failing noted (rows (is_some (declared_here s.scoping x)) (is_extern storage) (is_void words.typing) (is_some (special (spelled s.scoping.text x)))) (after_name x (file_object words (is_some d.dimensions) f) s) in
    let step : c ≡ made w =
    hc ∙ (ap (failing noted (rows again ext void odd)) (hb ∙ ap (λ y. after_name x y a) (ho ∙ ap (λ i. file_object words i f) hi))
    ∙ (ap (λ k. failing noted (rows k ext void odd) (after_name x (file_object words (is_some d.dimensions) f) a)) hr
    ∙ (ap (λ k. failing noted (rows (is_some (declared_here a.scoping x)) k void odd) (after_name x (file_object words (is_some d.dimensions) f) a)) hx
    ∙ (ap (λ k. failing noted (rows (is_some (declared_here a.scoping x)) (is_extern storage) k odd) (after_name x (file_object words (is_some d.dimensions) f) a)) hv
    ∙ (ap (λ k. failing noted (rows (is_some (declared_here a.scoping x)) (is_extern storage) (is_void words.typing) k) (after_name x (file_object words (is_some d.dimensions) f) a)) hs
    ∙ ap made ha))))) in
    hg ∙ (ap (λ n. failing noted (misfit n d.initializer) e) hl
    ∙ (ap (failing noted (misfit (length_at f.walked d.dimensions) d.initializer)) (he ∙ (ap (λ i. failing noted (braces i d.initializer x.at) c) hi ∙ ap (failing noted (braces (is_some d.dimensions) d.initializer x.at)) step))
    ∙ sym (failing_twice (braces (is_some d.dimensions) d.initializer x.at) (misfit (length_at f.walked d.dimensions) d.initializer) (made w))))

pub is_some_map : {A B : Type 0} (f : A → B) (x : Option A) → is_some (option_map f x) ≡ is_some x
is_some_map f None = refl
is_some_map f (Some a) = refl
