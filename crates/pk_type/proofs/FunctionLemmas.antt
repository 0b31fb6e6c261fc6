-- Functions, step by step.
use Rattle.std.specs.Option.{is_some}
use Rattle.std.specs.Str.Lossy.{utf8_lossy}
use Rattle.std.proofs.lemmas.List.{map-append}
use Rattle.std.proofs.Common.{◌≡◌, ℕ, zero, suc, ◌+◌, ◌<◌, ◌≤◌, Bool, map, get_or, set, List, [], ◌∷◌, ◌++◌, Option, Some, None, length, length-append, refl, ap, ◌∙◌, arith}
use Rattle.pk_ast.specs.declared.expressions.Identifier.{Identifier}
use Rattle.pk_ast.specs.Trees.{BlockTree, ParameterTree, FunctionTree}
use Rattle.pk_ctypes.specs.declared.words.Rule.TheVariants as rule
use Rattle.pk_typed.specs.Trees.{BodyTree}
use Rattle.pk_type_scope.specs.declared.declarations.Callee.{Callee}
use Rattle.pk_type_scope.specs.declared.declarations.Declaration.{Declaration}
use Rattle.pk_type_scope.specs.declared.declarations.Declaration.TheVariants as declared
use Rattle.pk_type_scope.specs.declared.declarations.Typing.{Typing}
use Rattle.pk_type_scope.specs.declared.failures.Failure.{Failure}
use Rattle.pk_type_scope.specs.Failures.{noted, fails_if}
use Rattle.pk_type_scope.specs.Scopes.{Scoping, names_in, spelled}
use Rattle.pk_type_scope.specs.Specifiers.{type_named, word_failures}
use Rattle.pk_type_declaration.specs.Specials.{special}
use Rattle.pk_type_declaration.specs.Walks.{Walked, here, entering, after_name}
use Rattle.pk_type_declaration.specs.Rules.{failing}
use Rattle.pk_type_statement.proofs.KeepLemmas.{Kept, kept_items}
use Rattle.pk_type.specs.declared.files.Entry.{Entry}
use Rattle.pk_type.specs.Files.{Filed, on}
use Rattle.pk_type.specs.Functions.{after_parameter_name, after_parameter, after_parameters, before_body, after_optional_body, number_of, callee_of, and_entry, with_body, update_at, after_head, leaving_function, after_function}
use Rattle.pk_type.specs.Signatures.{SignatureTree, signature_of}
use Rattle.pk_type.specs.Views.{entry_tree}
use Rattle.pk_type.specs.Rules.{is_redeclared, is_misused, parameter_failures, noting}

abbrev State : Type 0
State = Walked (Option Failure)

abbrev Files : Type 0
Files = Filed (Option Failure)

same : (s : Scoping) → Kept s s
same s = record { text = refl; outer = refl }

kept_name : (p : ParameterTree) (x : Option Identifier) (w : State) → Kept w.scoping (after_parameter_name noting p x w).scoping
kept_name p None w = same w.scoping
kept_name p (Some x) w = record { text = refl; outer = refl }

kept_parameters : (ps : List ParameterTree) (w : State) → Kept w.scoping (after_parameters noting ps w).scoping
unfolding after_parameters
kept_parameters [] w = same w.scoping
kept_parameters (p ∷ ps) w =
    let a = kept_name p p.name (failing noted (parameter_failures (here w) p) w) in
    let b = kept_parameters ps (after_parameter noting p w) in
    record { text = b.text ∙ a.text; outer = b.outer ∙ a.outer }

kept_body : (r : Typing) (n : ℕ) (b : Option BlockTree) (f : Files) → Kept f.walked.scoping (after_optional_body noting r n b f).walked.scoping
kept_body r n None f = same f.walked.scoping
kept_body r n (Some b) f = let k = kept_items noting.statements r (before_body f.walked) b.items in record { text = k.text; outer = k.outer }

-- the scopes at the end of a function: those around it are below it
pub record Ends (h q : Files) : Type 0 where
  pub outer : q.walked.scoping.outer ≡ h.walked.scoping.outer ++ h.walked.scoping.inner ∷ []
  pub text : q.walked.scoping.text ≡ h.walked.scoping.text

pub ends : (r : Typing) (n : ℕ) (ps : List ParameterTree) (b : Option BlockTree) (h e p q : Files) → e ≡ on entering h → p ≡ on (after_parameters noting ps) e → q ≡ after_optional_body noting r n b p → Ends h q
ends r n ps b h e p q x y z =
    let i : Files = on entering h in
    let g : Files = on (after_parameters noting ps) i in
    let k : q ≡ after_optional_body noting r n b g = z ∙ ap (after_optional_body noting r n b) (y ∙ ap (on (after_parameters noting ps)) x) in
    let a = kept_parameters ps i.walked in
    let c = kept_body r n b g in
    record { outer = ap (λ f. f.walked.scoping.outer) k ∙ (c.outer ∙ a.outer); text = ap (λ f. f.walked.scoping.text) k ∙ (c.text ∙ a.text) }

pub ends_positive : (h q : Files) → Ends h q → 0 < length q.walked.scoping.outer
ends_positive h q l =
    let a : length q.walked.scoping.outer ≡ length (h.walked.scoping.outer ++ h.walked.scoping.inner ∷ []) = ap length l.outer in
    let b : length (h.walked.scoping.outer ++ h.walked.scoping.inner ∷ []) ≡ length h.walked.scoping.outer + length (h.walked.scoping.inner ∷ []) = length-append h.walked.scoping.outer (h.walked.scoping.inner ∷ []) in
    omega (arith, a, b)

pub function_step : (has : List ℕ → Bool) (f : FunctionTree) (r : Typing) (n : ℕ) (file h e p q g : Files) → h ≡ after_head noting has f file → n ≡ number_of file.functions (names_in file.walked.scoping f.name) → r ≡ type_named (here file.walked) f.specifiers →
    e ≡ on entering h → p ≡ on (after_parameters noting f.parameters) e → q ≡ after_optional_body noting r n f.body p → g ≡ leaving_function h q → g ≡ after_function noting has f file
unfolding after_function
function_step has f r n file h e p q g a b c x y z k =
    let m = number_of file.functions (names_in file.walked.scoping f.name) in
    let made : Files → Files = λ v. leaving_function v (after_optional_body noting (type_named (here file.walked) f.specifiers) m f.body (on (after_parameters noting f.parameters) (on entering v))) in
    k ∙ (ap (leaving_function h) (z ∙ (ap (λ t. after_optional_body noting t n f.body p) c ∙ (ap (λ t. after_optional_body noting (type_named (here file.walked) f.specifiers) t f.body p) b
    ∙ ap (after_optional_body noting (type_named (here file.walked) f.specifiers) m f.body) (y ∙ ap (on (after_parameters noting f.parameters)) x))))
    ∙ ap made a)

pub entries_push : (xs : List Entry) (x : Entry) → map entry_tree (xs ++ x ∷ []) ≡ map entry_tree xs ++ entry_tree x ∷ []
entries_push xs x = map-append entry_tree xs (x ∷ [])

-- a function by its name, step by step
pub named_step : (has : List ℕ → Bool) (f : FunctionTree) (file a b g : Files) (s : SignatureTree) (q : List ℕ) (before : Option Declaration) (odd : Option Callee) (n : ℕ) (r m d : Bool) (c : Callee) →
    s ≡ signature_of (here file.walked) f → q ≡ spelled file.walked.scoping.text f.name → odd ≡ special q → before ≡ names_in file.walked.scoping f.name → n ≡ number_of file.functions before →
    r ≡ is_redeclared file.functions s (is_some f.body) before → m ≡ is_misused s odd → d ≡ has q → c ≡ callee_of s d odd →
    a ≡ on (failing noted (word_failures (here file.walked) f.specifiers ++ fails_if r rule.Redeclared f.name.at ++ fails_if m rule.Special f.name.at)) file →
    b ≡ on (after_name f.name (declared.Function (record { number = n; callee = c }))) a → g ≡ and_entry n (utf8_lossy q) s b → g ≡ after_head noting has f file
named_step has f file a b g s q before odd n r m d c hs hq ho hb hn hr hm hd hc ha hx hg =
    let x = f.name in
    let S = signature_of (here file.walked) f in
    let Q = spelled file.walked.scoping.text x in
    let B = names_in file.walked.scoping x in
    let made : SignatureTree → List ℕ → Option Callee → ℕ → Bool → Bool → Callee → Files = λ s q odd n r m c.
    and_entry n (utf8_lossy q) s (on (after_name x (declared.Function (record { number = n; callee = c }))) (on (failing noted (word_failures (here file.walked) f.specifiers ++ fails_if r rule.Redeclared x.at ++ fails_if m rule.Special x.at)) file)) in
    let N = number_of file.functions B in
    (hg ∙ ap (and_entry n (utf8_lossy q) s) (hx ∙ ap (on (after_name x (declared.Function (record { number = n; callee = c })))) ha))
    ∙ (ap (λ y. made s q odd n r m y) (hc ∙ (ap (λ y. callee_of s y odd) hd))
    ∙ (ap (λ y. made s q odd n r y (callee_of s (has q) odd)) hm
    ∙ (ap (λ y. made s q odd n y (is_misused s odd) (callee_of s (has q) odd)) (hr ∙ ap (is_redeclared file.functions s (is_some f.body)) hb)
    ∙ (ap (λ y. made s q odd y (is_redeclared file.functions s (is_some f.body) B) (is_misused s odd) (callee_of s (has q) odd)) (hn ∙ ap (number_of file.functions) hb)
    ∙ (ap (λ y. made s q y N (is_redeclared file.functions s (is_some f.body) B) (is_misused s y) (callee_of s (has q) y)) ho
    ∙ (ap (λ y. made s y (special y) N (is_redeclared file.functions s (is_some f.body) B) (is_misused s (special y)) (callee_of s (has y) (special y))) hq
    ∙ ap (λ y. made y Q (special Q) N (is_redeclared file.functions y (is_some f.body) B) (is_misused y (special Q)) (callee_of y (has Q) (special Q))) hs))))))

-- an entry gets its body
pub entry_set : (xs : List Entry) (n : ℕ) (d e : Entry) (body : Option BodyTree) → n < length xs → entry_tree e ≡ with_body body (entry_tree (get_or xs n d)) → map entry_tree (set xs n e) ≡ update_at n (with_body body) (map entry_tree xs)
entry_set [] n d e body h is = absurd (omega (arith, h))
entry_set (x ∷ xs) zero d e body h is = ap (λ y. y ∷ map entry_tree xs) is
entry_set (x ∷ xs) (suc n) d e body h is = ap (λ ys. entry_tree x ∷ ys) (entry_set xs n d e body (omega (arith, h)) is)

pub no_entry : (xs : List Entry) (n : ℕ) (body : Option BodyTree) → length xs ≤ n → map entry_tree xs ≡ update_at n (with_body body) (map entry_tree xs)
no_entry [] n body h = refl
no_entry (x ∷ xs) zero body h = absurd (omega (arith, h))
no_entry (x ∷ xs) (suc n) body h = ap (λ ys. entry_tree x ∷ ys) (no_entry xs n body (omega (arith, h)))

pub on_walked : (f : Files) (v w : State) → v ≡ w → on (λ x. v) f ≡ on (λ x. w) f
on_walked f v w p = ap (λ x. on (λ y. x) f) p
