-- What is answered over a whole part of an enumeration.
use Rattle.std.proofs.Common.{◌≡◌, ℕ, ◌≤◌, List, [], ◌∷◌, ◌++◌, Option, Some, None, Bool, true, false, refl, sym, ap, ◌∙◌, append_assoc, append-nil, arith}
use Rattle.pk_lex.specs.declared.token.Token.{Token}
use Rattle.pk_ast.specs.declared.declarations.Specifier.{Specifier}
use Rattle.pk_ast.specs.declared.declarations.SpecifierWord.TheVariants as word
use Rattle.pk_ast.specs.declared.declarations.Enumerator.{Enumerator}
use Rattle.pk_ast.specs.declared.expressions.Identifier.{Identifier}
use Rattle.pk_ast.specs.Lists.{one}
use Rattle.pk_ast.specs.Trees.{OneOrMore, ExpressionTree, EnumeratorTree, EnumerationTree}
use Rattle.pk_ast.specs.Views.{enumerator_tree, enumerator_trees}
use Rattle.pk_ast.proofs.ListLemmas.{enumerator_trees-push}
use Rattle.pk_grammar.specs.declared.failure.ParseError.{ParseError}
use Rattle.pk_grammar.specs.declared.failure.ParseError.TheVariants.{Syntax}
use Rattle.pk_grammar.specs.declared.signs.Fixed.TheVariants as fixed
use Rattle.pk_grammar.specs.Languages.{identifier_of}
use Rattle.pk_grammar.specs.Machine.Signs.{is_fixed}
use Rattle.pk_grammar.specs.Machine.States.{EnumerationSite, in_declaration, in_typedef, Enumerating, Enumerated, as_enumerator, as_whole, at_enumerator, after_enumerator_name, after_braces, operand, complete}
use Rattle.pk_grammar.specs.Machine.Steps.{enumeration_nesting, enumerating_nesting, with_enumerator, specifier_at, may_open}
use Rattle.pk_grammar.specs.Machine.Running.{first_of_all, run, Fails}
use Rattle.pk_parse_expression.specs.Parsing.{Begins, AreWords, UpTo, Reads, Refuses, words, past_words}
use Rattle.pk_parse_expression.proofs.RunLemmas.{fails_as, fails_syntax}
use Rattle.pk_parse_expression.proofs.RunOperands.{no_word_more}
use Rattle.pk_parse.specs.Parts.{words_state, EndsType, braces_open, CanEnumerate, value_state, EndsValue, goes_on_enumerating, enumerator_state, with_enumerators, with_qualifiers}
use Rattle.pk_parse.proofs.RunDeclarations.{run_specifiers}
use Rattle.pk_parse.proofs.RunTypeNames.{run_type_words}
use Rattle.pk_parse.proofs.RunEnumerations.{run_enumerator, no_enumerator, run_given, run_last, run_next, no_next, run_last_comma, run_open, run_qualifier}

-- An enumerator's value

module _ (end : Token) (n : ℕ) (limit : n ≤ 128) (ts : List Token) (t : Token) (rest : List Token) (b : Begins fixed.Assign ts t rest) (d : Enumerating) (id : Identifier) (same : enumerating_nesting d ≡ n) where
  given : run end (after_enumerator_name d id) ts ≡ run end (operand n (as_whole (as_enumerator d id))) rest
  given = run_given end d ts id t rest b (omega arith) ∙ ap (λ q. run end (operand q (as_whole (as_enumerator d id))) rest) same

  pub fails_given : (x : ParseError) → Refuses end (UpTo 2) (λ c. operand n c) rest x → Fails (run end (after_enumerator_name d id) ts) x
  fails_given x r = fails_as _ _ x given (r (as_whole (as_enumerator d id)) (omega arith))

  pub reads_given : (e : ExpressionTree) (last : List Token) → Reads end (UpTo 2) (λ c. operand n c) n rest e last → run end (after_enumerator_name d id) ts ≡ run end (value_state d id (Some e)) last
  reads_given e last r = given ∙ r (as_whole (as_enumerator d id)) (omega arith) ∙ ap (λ q. run end (complete q e (as_whole (as_enumerator d id))) last) (sym same)

-- What follows an enumerator

abbrev pub EndsEnumerator : Token → List Token → Bool → List Token → Type 0
EndsEnumerator end ts another rest = (d : Enumerating) (id : Identifier) (e : Option ExpressionTree) → enumerating_nesting d ≤ 128 → EndsValue end e ts →
    run end (value_state d id e) ts ≡ run end (enumerator_state another (with_enumerator d id e)) rest

pub ends_last : (end : Token) (ts : List Token) (t : Token) (rest : List Token) → Begins fixed.CloseBrace ts t rest → EndsEnumerator end ts false rest
ends_last end ts t rest b d id e h ends = run_last end d id e ts t rest b h

pub ends_next : (end : Token) (ts : List Token) (t : Token) (rest : List Token) → Begins fixed.Comma ts t rest → EndsEnumerator end ts true rest
ends_next end ts t rest b d id e h ends = run_next end d id e ts t rest b h

pub ends_comma : (end : Token) (ts : List Token) (t : Token) (rest : List Token) (u : Token) (last : List Token) → Begins fixed.Comma ts t rest → Begins fixed.CloseBrace rest u last → EndsEnumerator end ts false last
ends_comma end ts t rest u last b g d id e h ends = run_next end d id e ts t rest b h ∙ run_last_comma end (with_enumerator d id e) rest u last g h

pub stops_end : (end : Token) (ts : List Token) (x : ParseError) → is_fixed fixed.CloseBrace (first_of_all end ts).kind ≡ false → (is_fixed fixed.Comma (first_of_all end ts).kind ≡ false) × (x ≡ Syntax (first_of_all end ts).at) →
    (d : Enumerating) (id : Identifier) (e : Option ExpressionTree) → enumerating_nesting d ≤ 128 → EndsValue end e ts → Fails (run end (value_state d id e) ts) x
stops_end end ts x f g d id e h ends = fails_syntax _ x _ g.1 (no_next end d id e ts ends f g.0)

-- An enumerator

abbrev pub ReadsEnumerator : Token → ℕ → List Token → EnumeratorTree → Bool → List Token → Type 0
ReadsEnumerator end n ts x another rest = (d : Enumerating) → CanEnumerate end d n ts → run end (at_enumerator d) ts ≡ run end (enumerator_state another (with_enumerator d x.name x.value)) rest

pub stops_enumerator : (end : Token) (n : ℕ) (ts : List Token) (x : ParseError) → (is_fixed fixed.Name (first_of_all end ts).kind ≡ false) × (x ≡ Syntax (first_of_all end ts).at) →
    (d : Enumerating) → CanEnumerate end d n ts → Fails (run end (at_enumerator d) ts) x
stops_enumerator end n ts x h d can = fails_syntax _ x _ h.1 (no_enumerator end d ts n can h.0)

module _ (end : Token) (n : ℕ) (limit : n ≤ 128) (ts : List Token) (t : Token) (after : List Token) (b : Begins fixed.Name ts t after) where
  named : (d : Enumerating) → CanEnumerate end d n ts → run end (at_enumerator d) ts ≡ run end (after_enumerator_name d (identifier_of t)) after
  named d can = let same = can.nesting in run_enumerator end d ts t after b (omega arith)

  pub fails_value : (x : ParseError) → ((d : Enumerating) (id : Identifier) → enumerating_nesting d ≡ n → Fails (run end (after_enumerator_name d id) after) x) → (d : Enumerating) → CanEnumerate end d n ts →
      Fails (run end (at_enumerator d) ts) x
  fails_value x r d can = fails_as _ _ x (named d can) (r d (identifier_of t) can.nesting)

  module _ (e : Option ExpressionTree) (next : List Token) (r : (d : Enumerating) (id : Identifier) → enumerating_nesting d ≡ n → run end (after_enumerator_name d id) after ≡ run end (value_state d id e) next)
      (ends : EndsValue end e next) where
    pub fails_end : (x : ParseError) → ((d : Enumerating) (id : Identifier) (e : Option ExpressionTree) → enumerating_nesting d ≤ 128 → EndsValue end e next → Fails (run end (value_state d id e) next) x) →
        (d : Enumerating) → CanEnumerate end d n ts → Fails (run end (at_enumerator d) ts) x
    fails_end x q d can = let same = can.nesting in fails_as _ _ x (named d can ∙ r d (identifier_of t) can.nesting) (q d (identifier_of t) e (omega arith) ends)

    pub reads_enumerator : (another : Bool) (last : List Token) → EndsEnumerator end next another last → (id : Identifier) → id ≡ identifier_of t → (x : EnumeratorTree) → x ≡ record { name = id; value = e } →
        ReadsEnumerator end n ts x another last
    reads_enumerator another last q id is x all d can =
        let same = can.nesting in
        named d can ∙ r d (identifier_of t) can.nesting ∙ q d (identifier_of t) e (omega arith) ends
        ∙ ap (λ (y : EnumeratorTree). run end (enumerator_state another (with_enumerator d y.name y.value)) last) (ap (λ i. record { name = i; value = e }) (sym is) ∙ sym all)

-- Enumerators

-- these come behind one
abbrev pub ReadsEnumerators : Token → ℕ → Bool → List Token → List EnumeratorTree → Bool → List Token → Type 0
ReadsEnumerators end n another ts xs goes_on rest = (d : Enumerated) → enumeration_nesting d.site ≡ n →
    run end (enumerator_state another d) ts ≡ run end (enumerator_state goes_on (with_enumerators d xs)) rest

abbrev with_rest : Enumerated → List EnumeratorTree → Enumerated
with_rest d more = record { site = d.site; specifiers = d.specifiers; enumerators = record { first = d.enumerators.first; more = more } }

pub reads_none : (end : Token) (n : ℕ) (another : Bool) (ts : List Token) → ReadsEnumerators end n another ts [] another ts
reads_none end n another ts d same = ap (λ q. run end (enumerator_state another (with_rest d q)) ts) (sym (append-nil d.enumerators.more))

module _ (end : Token) (n : ℕ) (first : Bool) (ts : List Token) (xs : List Enumerator) (rest : List Token) (done : ReadsEnumerators end n first ts (enumerator_trees xs) true rest)
    (goes : is_fixed fixed.CloseBrace (first_of_all end rest).kind ≡ false) where
  can_enumerate : (d : Enumerated) → enumeration_nesting d.site ≡ n → CanEnumerate end (goes_on_enumerating (with_enumerators d (enumerator_trees xs))) n rest
  can_enumerate d same = record { nesting = same; no_end = λ e. let c : true ≡ false = sym e ∙ goes in absurd (cc) }

  pub fails_more : (x : ParseError) → ((d : Enumerating) → CanEnumerate end d n rest → Fails (run end (at_enumerator d) rest) x) → (d : Enumerated) → enumeration_nesting d.site ≡ n →
      Fails (run end (enumerator_state first d) ts) x
  fails_more x r d same = fails_as _ _ x (done d same) (r (goes_on_enumerating (with_enumerators d (enumerator_trees xs))) (can_enumerate d same))

  pub reads_more : (x : Enumerator) (goes_on : Bool) (after : List Token) → ReadsEnumerator end n rest (enumerator_tree x) goes_on after → (list : List Enumerator) → list ≡ xs ++ x ∷ [] →
      ReadsEnumerators end n first ts (enumerator_trees list) goes_on after
  reads_more x goes_on after r list pushed d same =
      done d same ∙ r (goes_on_enumerating (with_enumerators d (enumerator_trees xs))) (can_enumerate d same)
      ∙ ap (λ q. run end (enumerator_state goes_on (with_rest d q)) after)
      (append_assoc d.enumerators.more (enumerator_trees xs) (enumerator_tree x ∷ []) ∙ ap (λ q. d.enumerators.more ++ q) (sym (ap enumerator_trees pushed ∙ enumerator_trees-push xs x)))

-- Qualifiers

abbrev pub ReadsQualifiers : Token → List Token → List Specifier → List Token → Type 0
ReadsQualifiers end ts qs rest = (s : EnumerationSite) (specs : OneOrMore Specifier) (e : EnumerationTree) → enumeration_nesting s ≤ 128 →
    run end (after_braces s specs e) ts ≡ run end (after_braces s specs (with_qualifiers e qs)) rest

abbrev qualified : EnumerationTree → List Specifier → EnumerationTree
qualified e qs = record { enumerators = e.enumerators; qualifiers = qs }

pub reads_no_qualifier : (end : Token) (ts : List Token) → ReadsQualifiers end ts [] ts
reads_no_qualifier end ts s specs e h = ap (λ q. run end (after_braces s specs (qualified e q)) ts) (sym (append-nil e.qualifiers))

pub reads_qualifier : (end : Token) (ts : List Token) (qs : List Specifier) (rest : List Token) → ReadsQualifiers end ts qs rest → (t : Token) (after : List Token) → Begins fixed.Const rest t after →
    (list : List Specifier) → list ≡ qs ++ specifier_at t word.Const ∷ [] → ReadsQualifiers end ts list after
reads_qualifier end ts qs rest done t after b list pushed s specs e h =
    done s specs e h ∙ run_qualifier end s specs rest t after (with_qualifiers e qs) b h
    ∙ ap (λ q. run end (after_braces s specs (qualified e q)) after) (append_assoc e.qualifiers qs (specifier_at t word.Const ∷ []) ∙ ap (λ q. e.qualifiers ++ q) (sym pushed))

-- Braces

module _ (end : Token) (n : ℕ) (limit : n ≤ 128) (ts : List Token) (s : EnumerationSite) (specs : OneOrMore Specifier) (same : enumeration_nesting s ≡ n) where
  can_open : CanEnumerate end (braces_open s specs) n ts
  can_open = record { nesting = same; no_end = λ e. refl }

  pub fails_first : (x : ParseError) → ((d : Enumerating) → CanEnumerate end d n ts → Fails (run end (at_enumerator d) ts) x) → Fails (run end (at_enumerator (braces_open s specs)) ts) x
  fails_first x r = r (braces_open s specs) can_open

  module _ (first : EnumeratorTree) (another : Bool) (rest : List Token) (f : ReadsEnumerator end n ts first another rest) where
    pub fails_others : (x : ParseError) → ((d : Enumerated) → enumeration_nesting d.site ≡ n → Fails (run end (enumerator_state another d) rest) x) → Fails (run end (at_enumerator (braces_open s specs)) ts) x
    fails_others x r = fails_as _ _ x (f (braces_open s specs) can_open) (r (with_enumerator (braces_open s specs) first.name first.value) same)

    pub reads_braces : (more : List EnumeratorTree) (after : List Token) → ReadsEnumerators end n another rest more false after → (qs : List Specifier) (last : List Token) → ReadsQualifiers end after qs last →
        (e : EnumerationTree) → e ≡ record { enumerators = record { first = first; more = more }; qualifiers = qs } →
        run end (at_enumerator (braces_open s specs)) ts ≡ run end (after_braces s specs e) last
    reads_braces more after r qs last q e all =
        f (braces_open s specs) can_open ∙ r (with_enumerator (braces_open s specs) first.name first.value) same
        ∙ q s specs (record { enumerators = record { first = first; more = more }; qualifiers = [] }) (omega arith)
        ∙ ap (λ y. run end (after_braces s specs y) last) (sym all)

abbrev pub braces_of : EnumeratorTree → List EnumeratorTree → List Specifier → EnumerationTree
braces_of x xs qs = record { enumerators = record { first = x; more = xs }; qualifiers = qs }

-- The words of a type, and the braces behind them

run_specs : (end : Token) (s : EnumerationSite) → enumeration_nesting s ≤ 128 → (ts : List Token) (specs : OneOrMore Specifier) →
    run end (words_state s specs) ts ≡ run end (words_state s (words specs ts).0) (words specs ts).1
run_specs end (in_declaration s) h ts specs = run_specifiers end s h ts specs
run_specs end (in_typedef before) h ts specs = run_type_words end before ts specs

module _ (end : Token) (n : ℕ) (limit : n ≤ 128) (first : Specifier) (ts : List Token) (specs : OneOrMore Specifier) (rest : List Token) (w : AreWords first ts specs rest) where
  pub reads_words : (s : EnumerationSite) → enumeration_nesting s ≡ n → run end (words_state s (one first)) ts ≡ run end (words_state s specs) rest
  reads_words s same =
      run_specs end s (omega arith) ts (one first) ∙ ap (λ q. run end (words_state s q) (past_words first ts)) (sym w.are) ∙ ap (λ q. run end (words_state s specs) q) (sym w.past)

  pub ends_words : (is_fixed fixed.OpenBrace (first_of_all end rest).kind ≡ true → may_open specs ≡ false) → EndsType end specs None rest
  ends_words h = (no_word_more end first ts specs rest w, h)

  module _ (t : Token) (after : List Token) (b : Begins fixed.OpenBrace rest t after) (opens : may_open specs ≡ true) where
    opened : (s : EnumerationSite) → enumeration_nesting s ≡ n → run end (words_state s (one first)) ts ≡ run end (at_enumerator (braces_open s specs)) after
    opened s same = reads_words s same ∙ run_open end s specs rest t after opens b (omega arith)

    pub fails_braces : (x : ParseError) → ((s : EnumerationSite) (specs : OneOrMore Specifier) → enumeration_nesting s ≡ n → Fails (run end (at_enumerator (braces_open s specs)) after) x) →
        (s : EnumerationSite) → enumeration_nesting s ≡ n → Fails (run end (words_state s (one first)) ts) x
    fails_braces x r s same = fails_as _ _ x (opened s same) (r s specs same)

    pub reads_type : (e : EnumerationTree) (last : List Token) →
        ((s : EnumerationSite) (specs : OneOrMore Specifier) → enumeration_nesting s ≡ n → run end (at_enumerator (braces_open s specs)) after ≡ run end (after_braces s specs e) last) →
        (s : EnumerationSite) → enumeration_nesting s ≡ n → run end (words_state s (one first)) ts ≡ run end (after_braces s specs e) last
    reads_type e last r s same = opened s same ∙ r s specs same
