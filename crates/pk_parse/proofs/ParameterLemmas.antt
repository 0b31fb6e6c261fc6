-- What is answered over a whole parameter, and over all of them.
use Rattle.std.proofs.Common.{◌≡◌, ◌≢◌, ◌≤◌, inl, inr, List, [], ◌∷◌, ◌++◌, length, eqb, vec_len, Vec, Global, Option, Some, None, Bool, not, true, false, refl, sym, ap, subst, ◌∙◌, arith}
use Rattle.std.proofs.lemmas.Bool.{eq-eqb}
use Rattle.std.specs.Option.{is_some}
use Rattle.pk_ast.specs.Lists.{one}
use Rattle.pk_lex.specs.declared.token.Token.{Token}
use Rattle.pk_ast.specs.declared.declarations.Specifier.{Specifier}
use Rattle.pk_ast.specs.declared.declarations.SpecifierWord.{SpecifierWord}
use Rattle.pk_ast.specs.declared.declarations.SpecifierWord.TheVariants as word
use Rattle.pk_ast.specs.declared.expressions.Identifier.{Identifier}
use Rattle.pk_ast.specs.declared.units.Parameter.{Parameter}
use Rattle.pk_ast.specs.Trees.{OneOrMore, ExpressionTree, BracketsTree, ParameterTree}
use Rattle.pk_ast.specs.Views.{parameter_tree, parameter_trees}
use Rattle.pk_ast.proofs.ListLemmas.{parameter_trees-push}
use Rattle.pk_grammar.specs.declared.failure.ParseError.{ParseError}
use Rattle.pk_grammar.specs.declared.failure.ParseError.TheVariants.{Syntax}
use Rattle.pk_grammar.specs.declared.signs.Fixed.TheVariants as fixed
use Rattle.pk_grammar.specs.Grammar.{IsVoidAlone}
use Rattle.pk_grammar.specs.Machine.Signs.{is_fixed, specifier_word, is_void_word}
use Rattle.pk_grammar.specs.Machine.States.{Head, Receiving, as_whole, parameters_open, parameter_specifiers, parameter_bracket, parameter_end, parameter_comma, parameters_closed, operand}
use Rattle.pk_grammar.specs.Machine.Steps.{end_in_enum, is_void, is_void_alone, next_word, receiving, with_brackets}
use Rattle.pk_grammar.specs.Machine.Running.{syntax, first_of_all, run, Fails}
use Rattle.pk_parse_expression.specs.Parsing.{Begins, BeginsWithWord, past_words, specifiers_from, AreWords, AreNoType, EndsAt, UpTo, Reads}
use Rattle.pk_parse_expression.proofs.RunLemmas.{fails_as, fails_syntax, fails_memory}
use Rattle.pk_parse_expression.proofs.RunOperands.{no_word_more, no_word_left}
use Rattle.pk_parse_expression.proofs.WordLemmas as word_lemmas
use Rattle.pk_parse.specs.Parts.{name_state, IsName, bracket_purpose, next_bracket_state, after_parameter, EndsWords, EndsParameter}
use Rattle.pk_parse.proofs.RunParameters.{run_parameter, no_parameter, no_type, run_parameter_words, run_name, run_bracket, run_no_bracket, level, run_close, no_close, with_last, alone, run_parameter_close, run_parameter_comma, no_parameter_end}

-- the word `void`

pub void_word : (w : SpecifierWord) → is_void_word w ≡ true → w ≡ word.Void
void_word word.Void e = refl
void_word word.Char e = absurd (cc)
void_word word.Short e = absurd (cc)
void_word word.Int e = absurd (cc)
void_word word.Long e = absurd (cc)
void_word word.Signed e = absurd (cc)
void_word word.Unsigned e = absurd (cc)
void_word word.Const e = absurd (cc)
void_word (word.TypeName from to) e = absurd (cc)
void_word word.Enum e = absurd (cc)
void_word (word.Tag from to) e = absurd (cc)

pub absent : {A : Type 0} (o : Option A) → is_some o ≡ false → o ≡ None
absent None e = refl
absent (Some x) e = cc

pub none_there : {A : Type 0} (o : Option A) (r : Bool) → is_some o ≡ not r → o ≡ None → r ≡ true
none_there o true e h = refl
none_there o false e h = let f : false ≡ true = sym (ap is_some h) ∙ e in absurd (cc)

-- whether a list is empty

pub no_items : {A : Type 0} (v : Vec A Global) → vec_len v ≡ 0 → v.items ≡ []
no_items {A} v e = none v.items (sym v.ok.0 ∙ e)
  where
    none : (list : List A) → length list ≡ 0 → list ≡ []
    none [] h = refl
    none (p ∷ ps) h = absurd (omega arith)

pub some_items : (v : Vec Parameter Global) → false ≡ eqb (vec_len v) 0 → v.items ≢ []
some_items v e h = let f : false ≡ true = e ∙ eq-eqb (vec_len v) 0 (v.ok.0 ∙ ap length h) in absurd (cc)

-- A parameter

pub no_parameter_type : (end : Token) (first : Specifier) (ts : List Token) (x : ParseError) → AreNoType end first ts x → (h : Head) (ps : List ParameterTree) → Fails (run end (parameter_specifiers h ps (one first)) ts) x
no_parameter_type end first ts x (inl e) h ps = fails_memory _ x e
no_parameter_type end first ts x (inr e) h ps =
    fails_syntax _ x _ e.1 (run_parameter_words end h ps ts (one first) ∙ no_type end h ps (past_words first ts) (specifiers_from first ts) (no_word_left end first ts) e.0)

-- Brackets

-- a length or columns, up to the `]`
module _ (end : Token) (ts : List Token) (e : ExpressionTree) (rest : List Token) (r : Reads end (UpTo 2) (λ c. operand 2 c) 2 ts e rest) (d : Receiving) (b : Option (Option ExpressionTree)) where
  pub stops_closed : (x : ParseError) → EndsAt end 2 rest → (is_fixed fixed.CloseBracket (first_of_all end rest).kind ≡ false) × (x ≡ Syntax (first_of_all end rest).at) →
      Fails (run end (operand 2 (as_whole (bracket_purpose d b))) ts) x
  stops_closed x ends h = fails_syntax _ x _ h.1 (r (as_whole (bracket_purpose d b)) (level d b) ∙ no_close end d b 2 e rest ends h.0)

  pub reads_closed : (t : Token) (last : List Token) → Begins fixed.CloseBracket rest t last → run end (operand 2 (as_whole (bracket_purpose d b))) ts ≡ run end (next_bracket_state d b e) last
  reads_closed t last c = r (as_whole (bracket_purpose d b)) (level d b) ∙ run_close end d b 2 e rest t last c

-- behind them nothing but a comma or the parenthesis comes
bracketed_state : (h : Head) (ps : List ParameterTree) (specs : OneOrMore Specifier) (n : Option Identifier) (l : BracketsTree) →
    parameter_end h ps (record { specifiers = specs; name = n; brackets = Some l }) ≡ after_parameter h ps (record { specifiers = specs; name = n; brackets = Some l })
bracketed_state h ps specs None l = refl
bracketed_state h ps specs (Some id) l = refl

bracketed_ends : (end : Token) (specs : OneOrMore Specifier) (n : Option Identifier) (l : BracketsTree) (ts : List Token) → EndsWords end specs n (Some l) ts
bracketed_ends end specs None l ts = tt
bracketed_ends end specs (Some id) l ts = tt

-- The words of a parameter and what stands behind them

module _ (end : Token) (first : Specifier) (ts : List Token) (specs : OneOrMore Specifier) (rest : List Token) (are : AreWords first ts specs rest × (end_in_enum specs ≡ false)) (n : Option Identifier) (after : List Token)
    (is : IsName end rest n after) where
  no_next : next_word specs (first_of_all end rest) ≡ None
  no_next = no_word_more end first ts specs rest are.0

  pub no_longer : length rest ≤ length ts
  no_longer = let k = word_lemmas.no_longer ts (one first) in let e = ap length are.0.past in omega arith

  named : (h : Head) (ps : List ParameterTree) → run end (parameter_specifiers h ps (one first)) ts ≡ run end (name_state h ps specs n) after
  named h ps =
      run_parameter_words end h ps ts (one first) ∙ ap (λ q. run end (parameter_specifiers h ps q) (past_words first ts)) (sym are.0.are) ∙ ap (λ q. run end (parameter_specifiers h ps specs) q) (sym are.0.past)
      ∙ run_name end h ps rest specs n after no_next are.1 is

  ends_words : (n : Option Identifier) → IsName end rest n after → is_fixed fixed.OpenBracket (first_of_all end after).kind ≡ false → EndsWords end specs n None after
  ends_words None is f = (ap (λ q. next_word specs (first_of_all end q)) is.0 ∙ no_next, ap (λ q. is_fixed fixed.Name (first_of_all end q).kind) is.0 ∙ is.1, f, are.1)
  ends_words (Some id) is f = tt

  pub reads_unbracketed : (p : ParameterTree) → is_fixed fixed.OpenBracket (first_of_all end after).kind ≡ false → p ≡ record { specifiers = specs; name = n; brackets = None } →
      ((h : Head) (ps : List ParameterTree) → run end (parameter_specifiers h ps (one first)) ts ≡ run end (after_parameter h ps p) after) × EndsParameter end p after
  reads_unbracketed p f same =
      subst (λ (q : ParameterTree). ((h : Head) (ps : List ParameterTree) → run end (parameter_specifiers h ps (one first)) ts ≡ run end (after_parameter h ps q) after) × EndsParameter end q after)
      (sym same)
      (λ h ps. named h ps ∙ run_no_bracket end h ps specs n after f, ends_words n is f)

  module _ (t : Token) (inner : List Token) (b : Begins fixed.OpenBracket after t inner) where
    opened : (h : Head) (ps : List ParameterTree) → run end (parameter_specifiers h ps (one first)) ts ≡ run end (parameter_bracket (receiving h ps specs n)) inner
    opened h ps = named h ps ∙ run_bracket end h ps specs n after t inner are.1 b

    pub fails_brackets : (x : ParseError) → ((d : Receiving) → Fails (run end (parameter_bracket d) inner) x) → (h : Head) (ps : List ParameterTree) → Fails (run end (parameter_specifiers h ps (one first)) ts) x
    fails_brackets x r h ps = fails_as _ _ x (opened h ps) (r (receiving h ps specs n))

    pub reads_bracketed : (p : ParameterTree) (l : BracketsTree) (last : List Token) → ((d : Receiving) → run end (parameter_bracket d) inner ≡ run end (parameter_end d.head d.before (with_brackets d (Some l))) last) →
        p ≡ record { specifiers = specs; name = n; brackets = Some l } →
        ((h : Head) (ps : List ParameterTree) → run end (parameter_specifiers h ps (one first)) ts ≡ run end (after_parameter h ps p) last) × EndsParameter end p last
    reads_bracketed p l last r same =
        subst (λ (q : ParameterTree). ((h : Head) (ps : List ParameterTree) → run end (parameter_specifiers h ps (one first)) ts ≡ run end (after_parameter h ps q) last) × EndsParameter end q last)
        (sym same)
        (λ h ps. opened h ps ∙ r (receiving h ps specs n) ∙ ap (λ q. run end q last) (bracketed_state h ps specs n l), bracketed_ends end specs n l last)

-- Parameters

void_is : (specs : OneOrMore Specifier) → specs.first.word ≡ word.Void → specs.more ≡ [] → is_void specs ≡ true
void_is specs e f = ap (λ more. is_void_alone specs.first.word more) f ∙ ap is_void_word e

void_alone : (w : SpecifierWord) (more : List Specifier) → is_void_alone w more ≡ true → (w ≡ word.Void) × (more ≡ [])
void_alone w [] e = (void_word w e, refl)
void_alone w (s ∷ more) e = cc

no_void : (specs : OneOrMore Specifier) (b : Bool) → is_void specs ≡ b → ¬ ((specs.first.word ≡ word.Void) × (specs.more ≡ [])) → is_void specs ≡ false
no_void specs false e h = e
no_void specs true e h = absurd (h (void_alone specs.first.word specs.more e))

last_pushed : (ps : List ParameterTree) (p : ParameterTree) (n : Option Identifier) (b : Option BracketsTree) → p.name ≡ n → p.brackets ≡ b → (ps ≡ [] → ¬ IsVoidAlone p) → with_last ps p n b ≡ ps ++ p ∷ []
last_pushed [] p None None e f h = rw (no_void p.specifiers (is_void p.specifiers) refl (λ v. h refl (v.0, v.1, e, f))) (ap (λ q. q ∷ []) (alone p e f))
last_pushed (q ∷ qs) p None None e f h = ap (λ r. (q ∷ qs) ++ r ∷ []) (alone p e f)
last_pushed ps p None (Some b) e f h = refl
last_pushed ps p (Some id) b e f h = refl

last_void : (p : ParameterTree) (n : Option Identifier) (b : Option BracketsTree) → p.name ≡ n → p.brackets ≡ b → IsVoidAlone p → with_last [] p n b ≡ []
last_void p None None e f v = rw (void_is p.specifiers v.0 v.1)
last_void p None (Some b) e f v = let h : None ≡ Some b = sym v.3 ∙ f in absurd (cc)
last_void p (Some id) b e f v = let h : None ≡ Some id = sym v.2 ∙ e in absurd (cc)

no_trees : (list : List Parameter) → parameter_trees list ≡ [] → list ≡ []
no_trees [] e = refl
no_trees (p ∷ ps) e = cc

-- these come first, each with its comma
abbrev pub ReadsParameters : Token → List Token → List ParameterTree → List Token → Type 0
ReadsParameters end ts ps rest = (h : Head) → run end (parameters_open h) ts ≡ run end (parameter_comma h ps) rest

module _ (end : Token) (ts : List Token) (list : List Parameter) (rest : List Token) (done : ReadsParameters end ts (parameter_trees list) rest) where
  pub stops_parameters : specifier_word (first_of_all end rest) ≡ None → (h : Head) → run end (parameters_open h) ts ≡ syntax (first_of_all end rest).at
  stops_parameters e h = done h ∙ no_parameter end h (parameter_trees list) rest e

  module _ (s : Specifier) (after : List Token) (begins : BeginsWithWord specifier_word rest s after) where
    pub fails_parameter : (x : ParseError) → ((h : Head) (ps : List ParameterTree) → Fails (run end (parameter_specifiers h ps (one s)) after) x) → (h : Head) → Fails (run end (parameters_open h) ts) x
    fails_parameter x r h = fails_as _ _ x (done h ∙ run_parameter end h (parameter_trees list) rest s after begins) (r h (parameter_trees list))

    module _ (p : Parameter) (next : List Token)
        (r : (h : Head) (ps : List ParameterTree) → run end (parameter_specifiers h ps (one s)) after ≡ run end (after_parameter h ps (parameter_tree p)) next)
        (ends : EndsParameter end (parameter_tree p) next) where
      parameter_read : (h : Head) → run end (parameters_open h) ts ≡ run end (after_parameter h (parameter_trees list) (parameter_tree p)) next
      parameter_read h = done h ∙ run_parameter end h (parameter_trees list) rest s after begins ∙ r h (parameter_trees list)

      pub stops_parameter : (x : ParseError) → is_fixed fixed.CloseParenthesis (first_of_all end next).kind ≡ false →
          (is_fixed fixed.Comma (first_of_all end next).kind ≡ false) × (x ≡ Syntax (first_of_all end next).at) → (h : Head) → Fails (run end (parameters_open h) ts) x
      stops_parameter x f g h =
          fails_syntax _ x _ g.1 (parameter_read h ∙ no_parameter_end end h (parameter_trees list) (parameter_tree p) (parameter_tree p).name (parameter_tree p).brackets next ends f g.0)

      pub reads_parameter : (t : Token) (following : List Token) (more : List Parameter) → more ≡ list ++ p ∷ [] → Begins fixed.Comma next t following → ReadsParameters end ts (parameter_trees more) following
      reads_parameter t following more pushed b h =
          parameter_read h ∙ run_parameter_comma end h (parameter_trees list) (parameter_tree p) (parameter_tree p).name (parameter_tree p).brackets next ends t following refl refl b
          ∙ ap (λ q. run end (parameter_comma h q) following) (sym (ap parameter_trees pushed ∙ parameter_trees-push list p))

      module _ (t : Token) (last : List Token) (b : Begins fixed.CloseParenthesis next t last) where
        closed : (h : Head) → run end (parameters_open h) ts ≡ run end (parameters_closed h (with_last (parameter_trees list) (parameter_tree p) (parameter_tree p).name (parameter_tree p).brackets)) last
        closed h = parameter_read h ∙ run_parameter_close end h (parameter_trees list) (parameter_tree p) (parameter_tree p).name (parameter_tree p).brackets next ends t last b

        pub reads_last : (more : List Parameter) → more ≡ list ++ p ∷ [] → (list ≡ [] → ¬ IsVoidAlone (parameter_tree p)) → (h : Head) →
            run end (parameters_open h) ts ≡ run end (parameters_closed h (parameter_trees more)) last
        reads_last more pushed some h =
            closed h ∙ ap (λ q. run end (parameters_closed h q) last)
            (last_pushed (parameter_trees list) (parameter_tree p) (parameter_tree p).name (parameter_tree p).brackets refl refl (λ e. some (no_trees list e)) ∙ sym (ap parameter_trees pushed ∙ parameter_trees-push list p))

        pub reads_void : (more : List Parameter) → more ≡ list → list ≡ [] → IsVoidAlone (parameter_tree p) → (h : Head) → run end (parameters_open h) ts ≡ run end (parameters_closed h (parameter_trees more)) last
        reads_void more same none v h =
            closed h ∙ ap (λ q. run end (parameters_closed h q) last)
            (ap (λ q. with_last q (parameter_tree p) (parameter_tree p).name (parameter_tree p).brackets) (ap parameter_trees none) ∙ last_void (parameter_tree p) (parameter_tree p).name (parameter_tree p).brackets refl refl v ∙ sym (ap parameter_trees (same ∙ none)))
