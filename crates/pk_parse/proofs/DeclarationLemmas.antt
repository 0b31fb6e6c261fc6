-- What is answered over a whole part of a declaration.
use Rattle.std.proofs.Common.{◌≡◌, ℕ, ◌+◌, ◌<◌, ◌≤◌, List, [], ◌∷◌, ◌++◌, length, Option, Some, None, option_map, false, ◌&&◌, not, refl, sym, ap, subst, ◌∙◌, append_assoc, append-nil, arith, Bool, true}
use Rattle.std.specs.Option.{is_some}
use Rattle.pk_ast.specs.Lists.{ended}
use Rattle.pk_lex.specs.declared.token.Token.{Token}
use Rattle.pk_ast.specs.declared.declarations.Specifier.{Specifier}
use Rattle.pk_ast.specs.declared.declarations.Declarator.{Declarator}
use Rattle.pk_ast.specs.declared.expressions.Identifier.{Identifier}
use Rattle.pk_ast.specs.Trees.{OneOrMore, ExpressionTree, DeclaratorTree, DeclarationTree, EnumerationTree}
use Rattle.pk_ast.specs.Views.{declarator_tree, declarator_trees}
use Rattle.pk_ast.proofs.ListLemmas.{declarator_trees-push}
use Rattle.pk_grammar.specs.declared.failure.ParseError.{ParseError}
use Rattle.pk_grammar.specs.declared.failure.ParseError.TheVariants.{Syntax, Nesting}
use Rattle.pk_grammar.specs.declared.signs.Fixed.{Fixed}
use Rattle.pk_grammar.specs.declared.signs.Fixed.TheVariants as fixed
use Rattle.pk_grammar.specs.Languages.{identifier_of}
use Rattle.pk_grammar.specs.Machine.Signs.{is_fixed}
use Rattle.pk_grammar.specs.Machine.States.{Site, in_a_block, in_a_for, outside, in_declaration, Declaring, Naming, as_whole, after_name, after_length, after_columns, after_assign, after_initializer, after_comma, operand, Declared}
use Rattle.pk_grammar.specs.Machine.Steps.{refused, site_nesting, naming_nesting, open_parameters, with_declarator, goes_on_declaring}
use Rattle.pk_grammar.specs.Machine.Running.{first_of_all, run, Fails}
use Rattle.pk_parse_expression.specs.Parsing.{Begins, EndsAt, UpTo, Reads, Refuses}
use Rattle.pk_parse_expression.proofs.RunLemmas.{fails_as, fails_syntax, fails_nesting}
use Rattle.pk_parse.specs.Parts.{type_state, EndsType, length_state, next_length_state, IsLength, CanDeclare, IsInner, needs_name, AtNames, named_first, with_declarators, after_declaration}
use Rattle.pk_parse.proofs.RunDeclarations.{naming, with_columns, length_purpose, level, run_length, deep_length, run_length_end, no_length_end, run_no_length, run_no_columns, run_assign, run_semicolon, run_comma, no_comma, run_next_name, no_next_name, run_ended, run_first_name, no_first_name}

-- the first token is one of those that are left
pub shorter : (f : Fixed) (ts : List Token) (t : Token) (rest : List Token) → Begins f ts t rest → length rest < length ts
shorter f ts t rest b = omega (arith, ap length b.cut)

-- The lengths of an array

module _ (end : Token) (d : Declaring) (id : Identifier) (rows : Option ExpressionTree) (n : ℕ) (ts : List Token) (same : site_nesting d.site ≡ n) (t : Token) (rest : List Token) (opens : Begins fixed.OpenBracket ts t rest) where
  pub sinks_length : (x : ParseError) → (x ≡ Nesting t.at) × (128 < n + 1) → Fails (run end (length_state d id rows) ts) x
  sinks_length x h = let deeper = h.1 in fails_nesting _ x _ h.0 (deep_length end d id rows ts t rest opens (omega arith))

  module _ (inside : ℕ) (within : (inside ≡ n + 1) × (inside ≤ 128)) where
    opened : run end (length_state d id rows) ts ≡ run end (operand inside (as_whole (length_purpose d id rows))) rest
    opened =
        let i = within.0 in
        let h = within.1 in
        run_length end d id rows ts t rest opens (omega arith) ∙ ap (λ q. run end (operand q (as_whole (length_purpose d id rows))) rest) (omega arith)

    pub fails_length : (x : ParseError) → Refuses end (UpTo 2) (λ c. operand inside c) rest x → Fails (run end (length_state d id rows) ts) x
    fails_length x r = fails_as _ _ x opened (r (as_whole (length_purpose d id rows)) (level d id rows))

    module _ (e : ExpressionTree) (after : List Token) (r : Reads end (UpTo 2) (λ c. operand inside c) inside rest e after) where
      pub stops_length : (x : ParseError) → EndsAt end 2 after → (is_fixed fixed.CloseBracket (first_of_all end after).kind ≡ false) × (x ≡ Syntax (first_of_all end after).at) →
          Fails (run end (length_state d id rows) ts) x
      stops_length x ends h = fails_syntax _ x _ h.1 (opened ∙ r (as_whole (length_purpose d id rows)) (level d id rows) ∙ no_length_end end d id rows after inside e ends h.0)

      pub reads_length : (u : Token) (last : List Token) → Begins fixed.CloseBracket after u last → run end (length_state d id rows) ts ≡ run end (next_length_state d id rows e) last
      reads_length u last b =
          let i = within.0 in
          let h = within.1 in
          opened ∙ r (as_whole (length_purpose d id rows)) (level d id rows) ∙ run_length_end end d id rows after inside e u last b (omega arith)

pub reads_no_length : (end : Token) (n : ℕ) (ts rest : List Token) → IsLength end n ts None rest → (d : Declaring) (id : Identifier) → CanDeclare end d id n ts →
    run end (after_name d id) ts ≡ run end (after_columns (naming d id None)) rest
reads_no_length end n ts rest l d id can = run_no_length end d id ts n can l.1 ∙ ap (λ q. run end (after_columns (naming d id None)) q) (sym l.0)

pub reads_columns : (end : Token) (n : ℕ) (rows : ExpressionTree) (ts : List Token) (columns : Option ExpressionTree) (rest : List Token) → IsLength end n ts columns rest →
    (d : Declaring) (id : Identifier) → site_nesting d.site ≡ n → run end (after_length d id rows) ts ≡ run end (after_columns (with_columns d id rows columns)) rest
reads_columns end n rows ts None rest l d id same = run_no_columns end d id ts rows l.1 ∙ ap (λ q. run end (after_columns (with_columns d id rows None)) q) (sym l.0)
reads_columns end n rows ts (Some c) rest l d id same = l d id (Some rows) same

-- What an object begins with

pub run_assigned : (end : Token) (n : ℕ) → n ≤ 128 → (d : Naming) → naming_nesting d ≡ n → (ts : List Token) (t : Token) (rest : List Token) → Begins fixed.Assign ts t rest →
    run end (after_columns d) ts ≡ run end (after_assign d) rest
run_assigned end n limit d same ts t rest b = run_assign end d ts t rest b (omega arith)

-- Declarators

-- a function has but one name
no_function_after : (s : Site) (specs : OneOrMore Specifier) (e : Option EnumerationTree) (x : DeclaratorTree) (xs : List DeclaratorTree) (id : Identifier) → open_parameters s specs e (x ∷ xs) id ≡ refused
no_function_after (in_a_block b p) specs e x xs id = refl
no_function_after (in_a_for n at o) specs e x xs id = refl
no_function_after (outside before s) specs None x xs id = refl
no_function_after (outside before s) specs (Some e) x xs id = refl

can_declare_more : (end : Token) (d : Declared) (id : Identifier) (n : ℕ) (ts : List Token) → site_nesting d.site ≡ n → CanDeclare end (goes_on_declaring d) id n ts
can_declare_more end d id n ts same = record { nesting = same; no_function = λ f. no_function_after d.site d.specifiers d.enumeration d.declarators.first d.declarators.more id }

abbrev with_list : Declaring → List DeclaratorTree → Declaring
with_list d all = record { site = d.site; specifiers = d.specifiers; enumeration = d.enumeration; declarators = all }

ended_list : (xs : List DeclaratorTree) (x : DeclaratorTree) → (ended xs x).first ∷ (ended xs x).more ≡ xs ++ x ∷ []
ended_list [] x = refl
ended_list (y ∷ ys) x = refl

-- these come first, and then a declarator of this name
abbrev pub ReadsTo : Token → ℕ → Identifier → List Token → List DeclaratorTree → Identifier → List Token → Declaring → Type 0
ReadsTo end n first ts xs id rest d = (run end (after_name d first) ts ≡ run end (after_name (with_declarators d xs) id) rest) × CanDeclare end (with_declarators d xs) id n rest

abbrev pub ReadsDeclarators : Token → ℕ → Identifier → List Token → List DeclaratorTree → Identifier → List Token → Type 0
ReadsDeclarators end n first ts xs id rest = (d : Declaring) → CanDeclare end d first n ts → ReadsTo end n first ts xs id rest d

pub reads_no_declarator : (end : Token) (n : ℕ) (first : Identifier) (ts : List Token) → ReadsDeclarators end n first ts [] first ts
reads_no_declarator end n first ts d can =
    subst (λ q. (run end (after_name d first) ts ≡ run end (after_name (with_list d q) first) ts) × CanDeclare end (with_list d q) first n ts) (sym (append-nil d.declarators)) (refl, can)

module _ (end : Token) (n : ℕ) (limit : n ≤ 128) (first : Identifier) (ts : List Token) (ds : List Declarator) (id : Identifier) (rest : List Token)
    (done : ReadsDeclarators end n first ts (declarator_trees ds) id rest) where
  pub fails_declarator : (x : ParseError) → ((d : Declaring) → CanDeclare end d id n rest → Fails (run end (after_name d id) rest) x) → (d : Declaring) → CanDeclare end d first n ts →
      Fails (run end (after_name d first) ts) x
  fails_declarator x r d can = let k = done d can in fails_as _ _ x k.0 (r (with_declarators d (declarator_trees ds)) k.1)

  module _ (x : Declarator) (after : List Token)
      (r : (d : Declaring) → CanDeclare end d id n rest → run end (after_name d id) rest ≡ run end (after_initializer (with_declarator d (declarator_tree x))) after) where
    abbrev so_far : Declaring → Declared
    so_far d = with_declarator (with_declarators d (declarator_trees ds)) (declarator_tree x)

    read : (d : Declaring) → CanDeclare end d first n ts → run end (after_name d first) ts ≡ run end (after_initializer (so_far d)) after
    read d can = let k = done d can in k.0 ∙ r (with_declarators d (declarator_trees ds)) k.1

    pub stops_declarators : (y : ParseError) → is_fixed fixed.Semicolon (first_of_all end after).kind ≡ false → (is_fixed fixed.Comma (first_of_all end after).kind ≡ false) × (y ≡ Syntax (first_of_all end after).at) →
        (d : Declaring) → CanDeclare end d first n ts → Fails (run end (after_name d first) ts) y
    stops_declarators y f h d can = fails_syntax _ y _ h.1 (read d can ∙ no_comma end (so_far d) after f h.0)

    all_read : (list : List Declarator) → list ≡ ds ++ x ∷ [] → (d : Declaring) → goes_on_declaring (so_far d) ≡ with_declarators d (declarator_trees list)
    all_read list pushed d =
        ap (λ q. with_list d q)
        (ended_list (d.declarators ++ declarator_trees ds) (declarator_tree x) ∙ append_assoc d.declarators (declarator_trees ds) (declarator_tree x ∷ [])
        ∙ ap (λ q. d.declarators ++ q) (sym (ap declarator_trees pushed ∙ declarator_trees-push ds x)))

    pub reads_declarators : (list : List Declarator) → list ≡ ds ++ x ∷ [] → (t : Token) (last : List Token) → Begins fixed.Semicolon after t last → (d : Declaring) → CanDeclare end d first n ts →
        run end (after_name d first) ts ≡ run end (after_declaration (with_declarators d (declarator_trees list))) last
    reads_declarators list pushed t last b d can =
        let same = can.nesting in
        read d can ∙ run_semicolon end (so_far d) after t last b (omega arith) ∙ ap (λ q. run end (after_declaration q) last) (all_read list pushed d)

    module _ (t : Token) (more : List Token) (comma : Begins fixed.Comma after t more) where
      declared_comma : (d : Declaring) → CanDeclare end d first n ts → run end (after_name d first) ts ≡ run end (after_comma (goes_on_declaring (so_far d))) more
      declared_comma d can = let same = can.nesting in read d can ∙ run_comma end (so_far d) after t more comma (omega arith)

      pub stops_next_name : (y : ParseError) → (is_fixed fixed.Name (first_of_all end more).kind ≡ false) × (y ≡ Syntax (first_of_all end more).at) → (d : Declaring) → CanDeclare end d first n ts →
          Fails (run end (after_name d first) ts) y
      stops_next_name y h d can = fails_syntax _ y _ h.1 (declared_comma d can ∙ no_next_name end (goes_on_declaring (so_far d)) more h.0)

      pub reads_declarator : (list : List Declarator) → list ≡ ds ++ x ∷ [] → (u : Token) (following : List Token) (next : Identifier) → Begins fixed.Name more u following → next ≡ identifier_of u →
          ReadsDeclarators end n first ts (declarator_trees list) next following
      reads_declarator list pushed u following next b is d can =
          let same = can.nesting in
          let all = goes_on_declaring (so_far d) in
          subst (λ q. (run end (after_name d first) ts ≡ run end (after_name q next) following) × CanDeclare end q next n following) (all_read list pushed d)
          (declared_comma d can ∙ run_next_name end all more u following b (omega arith) ∙ ap (λ q. run end (after_name all q) following) (sym is), can_declare_more end (so_far d) next n following same)

-- Declarations

no_function_inner : (s : Site) (specs : OneOrMore Specifier) (e : Option EnumerationTree) → IsInner s → (id : Identifier) → open_parameters s specs e [] id ≡ refused
no_function_inner (in_a_block b p) specs e h id = refl
no_function_inner (in_a_for n at o) specs e h id = refl
no_function_inner (outside before s) specs e h id = absurd h

pub at_names : (end : Token) (s : Site) (specs : OneOrMore Specifier) (e : Option EnumerationTree) (named alone : Bool) (n : ℕ) (ts : List Token) → IsInner s → named ≡ needs_name s → site_nesting s ≡ n →
    alone ≡ (is_some e && not named) → EndsType end specs e ts → AtNames end s specs e alone n ts
at_names end s specs e named alone n ts inner needs same is ends =
    record { nesting = same; no_function = no_function_inner s specs e inner; is_alone = is ∙ ap (λ q. is_some e && not q) needs; ends = ends }

abbrev pub declaration_of : OneOrMore Specifier → Option EnumerationTree → List DeclaratorTree → DeclarationTree
declaration_of specs e ds = record { specifiers = specs; enumeration = e; declarators = ds }

pub is_some_map : {A B : Type 0} (f : A → B) (o : Option A) → is_some o ≡ is_some (option_map f o)
is_some_map f None = refl
is_some_map f (Some x) = refl

-- the names that are declared with a type
module _ (end : Token) (n : ℕ) (limit : n ≤ 128) (alone : Bool) (ts : List Token) (s : Site) (specs : OneOrMore Specifier) (e : Option EnumerationTree) (at : AtNames end s specs e alone n ts) where
  pub reads_alone : (t : Token) (rest : List Token) → Begins fixed.Semicolon ts t rest × (alone ≡ true) → (list : List Declarator) → list ≡ [] →
      run end (type_state (in_declaration s) specs e) ts ≡ run end (after_declaration (with_declarators (named_first s specs e) (declarator_trees list))) rest
  reads_alone t rest h list none =
      let same = at.nesting in
      run_ended end s specs e ts t rest (sym at.is_alone ∙ h.1) h.0 (omega arith)
      ∙ ap (λ q. run end (after_declaration (with_list (named_first s specs e) q)) rest) (sym (ap declarator_trees none))

  pub stops_first_name : (x : ParseError) → (is_fixed fixed.Semicolon (first_of_all end ts).kind ≡ true → alone ≡ false) → (is_fixed fixed.Name (first_of_all end ts).kind ≡ false) × (x ≡ Syntax (first_of_all end ts).at) →
      Fails (run end (type_state (in_declaration s) specs e) ts) x
  stops_first_name x f h = fails_syntax _ x _ h.1 (no_first_name end s specs e ts at.ends (λ g. sym at.is_alone ∙ f g) h.0)

  module _ (t : Token) (after : List Token) (id : Identifier) (b : Begins fixed.Name ts t after) (is : id ≡ identifier_of t) where
    can_declare : CanDeclare end (named_first s specs e) id n after
    can_declare = record { nesting = at.nesting; no_function = λ f. at.no_function id }

    named : run end (type_state (in_declaration s) specs e) ts ≡ run end (after_name (named_first s specs e) id) after
    named = let same = at.nesting in run_first_name end s specs e ts t after at.ends b (omega arith) ∙ ap (λ q. run end (after_name (named_first s specs e) q) after) (sym is)

    pub fails_declarators : (x : ParseError) → ((d : Declaring) → CanDeclare end d id n after → Fails (run end (after_name d id) after) x) → Fails (run end (type_state (in_declaration s) specs e) ts) x
    fails_declarators x r = fails_as _ _ x named (r (named_first s specs e) can_declare)

    pub reads_named : (xs : List DeclaratorTree) (last : List Token) →
        ((d : Declaring) → CanDeclare end d id n after → run end (after_name d id) after ≡ run end (after_declaration (with_declarators d xs)) last) →
        run end (type_state (in_declaration s) specs e) ts ≡ run end (after_declaration (with_declarators (named_first s specs e) xs)) last
    reads_named xs last r = named ∙ r (named_first s specs e) can_declare
