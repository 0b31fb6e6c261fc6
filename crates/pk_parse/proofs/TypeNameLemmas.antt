-- What is answered over a whole declaration of type names.
use Rattle.std.proofs.Common.{◌≡◌, List, [], ◌∷◌, ◌++◌, Option, None, false, refl, sym, ap, ◌∙◌, append_assoc, append-nil}
use Rattle.pk_lex.specs.declared.token.Token.{Token}
use Rattle.pk_ast.specs.declared.declarations.Specifier.{Specifier}
use Rattle.pk_ast.specs.declared.expressions.Identifier.{Identifier}
use Rattle.pk_ast.specs.Lists.{one}
use Rattle.pk_ast.specs.Trees.{OneOrMore, EnumerationTree, TypedefTree, ExternalTree, type_names}
use Rattle.pk_grammar.specs.declared.failure.ParseError.{ParseError}
use Rattle.pk_grammar.specs.declared.failure.ParseError.TheVariants.{Syntax}
use Rattle.pk_grammar.specs.declared.signs.Fixed.TheVariants as fixed
use Rattle.pk_grammar.specs.Languages.{identifier_of}
use Rattle.pk_grammar.specs.Machine.Signs.{is_fixed, specifier_word}
use Rattle.pk_grammar.specs.Machine.States.{EnumerationSite, in_typedef, top, after_typedef, after_type_name, type_name_comma}
use Rattle.pk_grammar.specs.Machine.Steps.{enumeration_nesting}
use Rattle.pk_grammar.specs.Machine.Running.{first_of_all, run, Fails}
use Rattle.pk_parse_expression.specs.Parsing.{Begins, BeginsWithWord}
use Rattle.pk_parse_expression.proofs.RunLemmas.{fails_as, fails_syntax}
use Rattle.pk_parse.specs.Parts.{words_state, type_state, EndsType, after_type_names, with_names}
use Rattle.pk_parse.proofs.RunTypeNames.{run_typedef, run_first_type, no_first_type, run_type_name, no_type_name, run_type_comma, run_last_type, no_type_comma, run_next_type, no_next_type}

-- these names come first, each behind its comma
abbrev pub ReadsNames : Token → List Token → List Identifier → List Token → Type 0
ReadsNames end ts ids rest = (before : List ExternalTree) (d : TypedefTree) →
    run end (after_type_name before d.specifiers d.enumeration d.names) ts ≡ run end (after_type_name before d.specifiers d.enumeration (with_names d ids).names) rest

pub reads_no_name : (end : Token) (ts : List Token) → ReadsNames end ts [] ts
reads_no_name end ts before d = ap (λ q. run end (after_type_name before d.specifiers d.enumeration (record { first = d.names.first; more = q })) ts) (sym (append-nil d.names.more))

module _ (end : Token) (ts : List Token) (ids : List Identifier) (rest : List Token) (done : ReadsNames end ts ids rest) where
  pub reads_names : (t : Token) (last : List Token) → Begins fixed.Semicolon rest t last → (before : List ExternalTree) (d : TypedefTree) →
      run end (after_type_name before d.specifiers d.enumeration d.names) ts ≡ run end (after_type_names before (with_names d ids)) last
  reads_names t last b before d = done before d ∙ run_last_type end before rest d.specifiers d.enumeration (with_names d ids).names t last b

  pub stops_names : (x : ParseError) → is_fixed fixed.Semicolon (first_of_all end rest).kind ≡ false →
      (is_fixed fixed.Comma (first_of_all end rest).kind ≡ false) × (x ≡ Syntax (first_of_all end rest).at) → (before : List ExternalTree) (d : TypedefTree) →
      Fails (run end (after_type_name before d.specifiers d.enumeration d.names) ts) x
  stops_names x f h before d = fails_syntax _ x _ h.1 (done before d ∙ no_type_comma end before rest d.specifiers d.enumeration (with_names d ids).names f h.0)

  module _ (t : Token) (more : List Token) (comma : Begins fixed.Comma rest t more) where
    name_comma : (before : List ExternalTree) (d : TypedefTree) →
        run end (after_type_name before d.specifiers d.enumeration d.names) ts ≡ run end (type_name_comma before d.specifiers d.enumeration (with_names d ids).names) more
    name_comma before d = done before d ∙ run_type_comma end before rest d.specifiers d.enumeration (with_names d ids).names t more comma

    pub stops_next_type : (x : ParseError) → (is_fixed fixed.Name (first_of_all end more).kind ≡ false) × (x ≡ Syntax (first_of_all end more).at) → (before : List ExternalTree) (d : TypedefTree) →
        Fails (run end (after_type_name before d.specifiers d.enumeration d.names) ts) x
    stops_next_type x h before d = fails_syntax _ x _ h.1 (name_comma before d ∙ no_next_type end before more d.specifiers d.enumeration (with_names d ids).names h.0)

    pub reads_name : (u : Token) (after : List Token) (id : Identifier) → Begins fixed.Name more u after → id ≡ identifier_of u → (list : List Identifier) → list ≡ ids ++ id ∷ [] → ReadsNames end ts list after
    reads_name u after id b is list pushed before d =
        name_comma before d ∙ run_next_type end before more d.specifiers d.enumeration (with_names d ids).names u after b
        ∙ ap (λ q. run end (after_type_name before d.specifiers d.enumeration (record { first = d.names.first; more = q })) after)
        (append_assoc d.names.more ids (identifier_of u ∷ []) ∙ ap (λ q. d.names.more ++ q) (ap (λ i. ids ++ i ∷ []) (sym is) ∙ sym pushed))

abbrev pub typedef_of : OneOrMore Specifier → Option EnumerationTree → OneOrMore Identifier → TypedefTree
typedef_of specs e names = record { specifiers = specs; enumeration = e; names = names }

pub stops_first_type : (end : Token) (ts : List Token) (x : ParseError) → specifier_word (first_of_all end ts) ≡ None → x ≡ Syntax (first_of_all end ts).at → (before : List ExternalTree) →
    Fails (run end (after_typedef before) ts) x
stops_first_type end ts x e h before = fails_syntax _ x _ h (no_first_type end before ts e)

module _ (end : Token) (ts : List Token) (first : Specifier) (after_word : List Token) (begins : BeginsWithWord specifier_word ts first after_word) where
  pub fails_type : (x : ParseError) → ((s : EnumerationSite) → enumeration_nesting s ≡ 0 → Fails (run end (words_state s (one first)) after_word) x) → (before : List ExternalTree) → Fails (run end (after_typedef before) ts) x
  fails_type x r before = fails_as _ _ x (run_first_type end before ts first after_word begins) (r (in_typedef before) refl)

  module _ (specs : OneOrMore Specifier) (e : Option EnumerationTree) (rest : List Token)
      (read : (s : EnumerationSite) → enumeration_nesting s ≡ 0 → run end (words_state s (one first)) after_word ≡ run end (type_state s specs e) rest) (ends : EndsType end specs e rest) where
    typed : (before : List ExternalTree) → run end (after_typedef before) ts ≡ run end (type_state (in_typedef before) specs e) rest
    typed before = run_first_type end before ts first after_word begins ∙ read (in_typedef before) refl

    pub stops_type_name : (x : ParseError) → (is_fixed fixed.Name (first_of_all end rest).kind ≡ false) × (x ≡ Syntax (first_of_all end rest).at) → (before : List ExternalTree) →
        Fails (run end (after_typedef before) ts) x
    stops_type_name x h before = fails_syntax _ x _ h.1 (typed before ∙ no_type_name end before rest specs e ends h.0)

    module _ (t : Token) (after : List Token) (b : Begins fixed.Name rest t after) where
      named : (before : List ExternalTree) → run end (after_typedef before) ts ≡ run end (after_type_name before specs e (one (identifier_of t))) after
      named before = typed before ∙ run_type_name end before rest specs e t after ends b

      abbrev first_named : TypedefTree
      first_named = record { specifiers = specs; enumeration = e; names = one (identifier_of t) }

      pub fails_names : (x : ParseError) → ((before : List ExternalTree) (d : TypedefTree) → Fails (run end (after_type_name before d.specifiers d.enumeration d.names) after) x) → (before : List ExternalTree) →
          Fails (run end (after_typedef before) ts) x
      fails_names x r before = fails_as _ _ x (named before) (r before first_named)

      pub reads_type_names : (ids : List Identifier) (last : List Token) →
          ((before : List ExternalTree) (d : TypedefTree) → run end (after_type_name before d.specifiers d.enumeration d.names) after ≡ run end (after_type_names before (with_names d ids)) last) →
          (id : Identifier) → id ≡ identifier_of t → (d : TypedefTree) → d ≡ record { specifiers = specs; enumeration = e; names = record { first = id; more = ids } } → (before : List ExternalTree) →
          run end (after_typedef before) ts ≡ run end (after_type_names before d) last
      reads_type_names ids last r id is d same before =
          named before ∙ r before first_named
          ∙ ap (λ q. run end (after_type_names before q) last) (ap (λ i. record { specifiers = specs; enumeration = e; names = record { first = i; more = ids } }) (sym is) ∙ sym same)

-- a whole declaration

module _ (end : Token) (ts : List Token) (t : Token) (after : List Token) (b : Begins fixed.Typedef ts t after) where
  pub fails_typedef : (x : ParseError) → ((before : List ExternalTree) → Fails (run end (after_typedef before) after) x) → (before : List ExternalTree) → Fails (run end (top before) ts) x
  fails_typedef x r before = fails_as _ _ x (run_typedef end before ts t after b) (r before)

  pub reads_typedef : (d : TypedefTree) (last : List Token) → ((before : List ExternalTree) → run end (after_typedef before) after ≡ run end (after_type_names before d) last) →
      (x : ExternalTree) → x ≡ type_names d → (before : List ExternalTree) → run end (top before) ts ≡ run end (top (before ++ x ∷ [])) last
  reads_typedef d last r x e before = run_typedef end before ts t after b ∙ r before ∙ ap (λ q. run end (top (before ++ q ∷ [])) last) (sym e)
