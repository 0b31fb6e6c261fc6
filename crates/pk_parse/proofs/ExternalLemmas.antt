-- What is answered over a whole part of an external definition.
use Rattle.std.proofs.Common.{◌≡◌, ◌≢◌, ◌<◌, ◌≤◌, List, [], ◌∷◌, ◌++◌, length, Option, Some, None, MatchOption, true, false, refl, sym, ap, ◌∙◌, arith}
use Rattle.pk_ast.specs.Lists.{one}
use Rattle.pk_lex.specs.declared.token.Token.{Token}
use Rattle.pk_lex.specs.declared.token.Kind.TheVariants as kind
use Rattle.pk_ast.specs.declared.declarations.Specifier.{Specifier}
use Rattle.pk_ast.specs.declared.expressions.Identifier.{Identifier}
use Rattle.pk_ast.specs.declared.units.Storage.{Storage}
use Rattle.pk_ast.specs.Trees.{DeclarationTree, BlockTree, ParameterTree, FunctionTree, ExternalTree, function, objects, OneOrMore, DeclaratorTree, EnumerationTree}
use Rattle.pk_grammar.specs.declared.failure.ParseError.{ParseError}
use Rattle.pk_grammar.specs.declared.failure.ParseError.TheVariants.{Syntax}
use Rattle.pk_grammar.specs.declared.signs.Fixed.TheVariants as fixed
use Rattle.pk_grammar.specs.Languages.{identifier_of}
use Rattle.pk_grammar.specs.Machine.Signs.{is_fixed, specifier_word, storage_word}
use Rattle.pk_grammar.specs.Machine.States.{Head, outside, EnumerationSite, in_declaration, Declaring, top, after_specifiers, after_name, parameters_open, parameters_closed}
use Rattle.pk_grammar.specs.Machine.Steps.{enumeration_nesting}
use Rattle.pk_grammar.specs.Machine.Running.{syntax, first_of_all, run, Fails}
use Rattle.pk_parse_expression.specs.Parsing.{Begins, BeginsWithWord}
use Rattle.pk_parse_expression.proofs.RunLemmas.{fails_as, fails_syntax}
use Rattle.pk_parse.specs.Parts.{words_state, type_state, EndsType, CanDeclare, AtNames, named_first, with_declarators, after_declaration, after_function, storage_state}
use Rattle.pk_parse.proofs.RunDeclarations.{run_first_name, no_first_name}
use Rattle.pk_parse.proofs.RunExternals.{run_function, run_first_word, no_first_word}

-- External definitions

abbrev pub head_of : List ExternalTree → Option Storage → OneOrMore Specifier → Identifier → Head
head_of before s specs id = record { before = before; storage = s; specifiers = specs; name = id }

-- a storage word is taken where it comes first
abbrev pub TakesStorage : Token → List Token → List Token → Option Storage → Type 0
TakesStorage end ts rest s = MatchOption s ((storage_word (first_of_all end ts).kind ≡ None) × (rest ≡ ts)) (λ q. length rest < length ts)

pub no_longer : (end : Token) (ts rest : List Token) (s : Option Storage) → TakesStorage end ts rest s → length rest ≤ length ts
no_longer end ts rest None h = let e = ap length h.1 in omega arith
no_longer end ts rest (Some s) h = omega arith

no_storage : (end : Token) (ts rest : List Token) (s : Option Storage) → TakesStorage end ts rest s → (first_of_all end ts).kind ≢ kind.End → is_fixed fixed.Typedef (first_of_all end ts).kind ≡ false →
    s ≡ None → (storage_word (first_of_all end rest).kind ≡ None) × ((first_of_all end rest).kind ≢ kind.End) × (is_fixed fixed.Typedef (first_of_all end rest).kind ≡ false)
no_storage end ts rest None h f g e =
    let same = ap (λ us. (first_of_all end us).kind) h.1 in (ap storage_word same ∙ h.0, λ k. f (sym same ∙ k), ap (is_fixed fixed.Typedef) same ∙ g)
no_storage end ts rest (Some s) h f g e = cc

module _ (end : Token) (before : List ExternalTree) (ts : List Token) (s : Option Storage) (rest : List Token) (stored : run end (top before) ts ≡ run end (storage_state before s) rest) where
  pub stops_word : TakesStorage end ts rest s → (first_of_all end ts).kind ≢ kind.End → is_fixed fixed.Typedef (first_of_all end ts).kind ≡ false → specifier_word (first_of_all end rest) ≡ None →
      run end (top before) ts ≡ syntax (first_of_all end rest).at
  stops_word h f g e = stored ∙ no_first_word end before rest s (no_storage end ts rest s h f g) e

  module _ (first : Specifier) (after_word : List Token) (begins : BeginsWithWord specifier_word rest first after_word) where
    worded : run end (top before) ts ≡ run end (words_state (in_declaration (outside before s)) (one first)) after_word
    worded = stored ∙ run_first_word end before rest s first after_word begins

    pub fails_words : (x : ParseError) → ((s : EnumerationSite) → enumeration_nesting s ≡ 0 → Fails (run end (words_state s (one first)) after_word) x) → Fails (run end (top before) ts) x
    fails_words x r = fails_as _ _ x worded (r (in_declaration (outside before s)) refl)

    pub reads_type : (specs : OneOrMore Specifier) (e : Option EnumerationTree) (last : List Token) →
        ((s : EnumerationSite) → enumeration_nesting s ≡ 0 → run end (words_state s (one first)) after_word ≡ run end (type_state s specs e) last) →
        run end (top before) ts ≡ run end (type_state (in_declaration (outside before s)) specs e) last
    reads_type specs e last r = worded ∙ r (in_declaration (outside before s)) refl

-- Behind the words of a type

module _ (end : Token) (before : List ExternalTree) (s : Option Storage) (specs : OneOrMore Specifier) (ts : List Token) (ends : EndsType end specs None ts) where
  pub stops_name : (x : ParseError) → (is_fixed fixed.Name (first_of_all end ts).kind ≡ false) × (x ≡ Syntax (first_of_all end ts).at) → Fails (run end (after_specifiers (outside before s) specs) ts) x
  stops_name x h = fails_syntax _ x _ h.1 (no_first_name end (outside before s) specs None ts ends (λ e. refl) h.0)

  module _ (t : Token) (after : List Token) (id : Identifier) (b : Begins fixed.Name ts t after) (is : id ≡ identifier_of t) where
    named : run end (after_specifiers (outside before s) specs) ts ≡ run end (after_name (named_first (outside before s) specs None) id) after
    named = run_first_name end (outside before s) specs None ts t after ends b (omega arith) ∙ ap (λ q. run end (after_name (named_first (outside before s) specs None) q) after) (sym is)

    module _ (f : is_fixed fixed.OpenParenthesis (first_of_all end after).kind ≡ false) where
      can_declare : CanDeclare end (named_first (outside before s) specs None) id 0 after
      can_declare = record { nesting = refl; no_function = λ e. let g : true ≡ false = sym e ∙ f in absurd (cc) }

      pub fails_declarators : (x : ParseError) → ((d : Declaring) → CanDeclare end d id 0 after → Fails (run end (after_name d id) after) x) → Fails (run end (after_specifiers (outside before s) specs) ts) x
      fails_declarators x r = fails_as _ _ x named (r (named_first (outside before s) specs None) can_declare)

      pub reads_objects : (ds : List DeclaratorTree) (last : List Token) →
          ((d : Declaring) → CanDeclare end d id 0 after → run end (after_name d id) after ≡ run end (after_declaration (with_declarators d ds)) last) →
          (d : DeclarationTree) (x : ExternalTree) → d ≡ record { specifiers = specs; enumeration = None; declarators = ds } → x ≡ objects s d →
          run end (after_specifiers (outside before s) specs) ts ≡ run end (top (before ++ x ∷ [])) last
      reads_objects ds last r d x e g =
          named ∙ r (named_first (outside before s) specs None) can_declare ∙ ap (λ q. run end (top (before ++ objects s q ∷ [])) last) (sym e) ∙ ap (λ q. run end (top (before ++ q ∷ [])) last) (sym g)

    module _ (u : Token) (inner : List Token) (p : Begins fixed.OpenParenthesis after u inner) where
      parenthesis : run end (after_specifiers (outside before s) specs) ts ≡ run end (parameters_open (head_of before s specs id)) inner
      parenthesis = named ∙ run_function end before s specs id after u inner p

      pub fails_parameters : (x : ParseError) → ((h : Head) → Fails (run end (parameters_open h) inner) x) → Fails (run end (after_specifiers (outside before s) specs) ts) x
      fails_parameters x r = fails_as _ _ x parenthesis (r (head_of before s specs id))

      module _ (ps : List ParameterTree) (close : List Token) (q : (h : Head) → run end (parameters_open h) inner ≡ run end (parameters_closed h ps) close) where
        pub fails_body : (x : ParseError) → ((h : Head) (ps : List ParameterTree) → Fails (run end (parameters_closed h ps) close) x) → Fails (run end (after_specifiers (outside before s) specs) ts) x
        fails_body x r = fails_as _ _ x (parenthesis ∙ q (head_of before s specs id)) (r (head_of before s specs id) ps)

        pub reads_function : (body : Option BlockTree) (last : List Token) → ((h : Head) (ps : List ParameterTree) → run end (parameters_closed h ps) close ≡ run end (after_function h ps body) last) →
            (w : FunctionTree) (x : ExternalTree) → w ≡ record { storage = s; specifiers = specs; name = id; parameters = ps; body = body } → x ≡ function w →
            run end (after_specifiers (outside before s) specs) ts ≡ run end (top (before ++ x ∷ [])) last
        reads_function body last r w x e g =
            parenthesis ∙ q (head_of before s specs id) ∙ r (head_of before s specs id) ps ∙ ap (λ v. run end (top (before ++ function v ∷ [])) last) (sym e)
            ∙ ap (λ v. run end (top (before ++ v ∷ [])) last) (sym g)

-- Behind an enumeration
pub at_objects : (end : Token) (before : List ExternalTree) (s : Option Storage) (specs : OneOrMore Specifier) (e : EnumerationTree) (ts : List Token) → EndsType end specs (Some e) ts →
    AtNames end (outside before s) specs (Some e) true 0 ts
at_objects end before s specs e ts ends = record { nesting = refl; no_function = λ id. refl; is_alone = refl; ends = ends }
