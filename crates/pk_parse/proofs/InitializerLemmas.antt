-- What is answered over a whole part of an initializer.
use Rattle.std.proofs.Common.{◌≡◌, ℕ, ◌≤◌, List, [], ◌∷◌, ◌++◌, Some, Bool, true, false, inl, inr, refl, sym, ap, subst, ◌∙◌, append_assoc, append-nil, arith}
use Rattle.pk_ctypes.specs.declared.places.Pos.{Pos}
use Rattle.pk_lex.specs.declared.token.Token.{Token}
use Rattle.pk_ast.specs.declared.declarations.InitializerItem.{InitializerItem}
use Rattle.pk_ast.specs.declared.expressions.Expression.{Expression}
use Rattle.pk_ast.specs.Trees.{ExpressionTree, ExpressionTrees, no_expressions, expression_then, InitializerItemTree, item_value, item_row, InitializerTree, single, braced}
use Rattle.pk_ast.specs.Views.{expression_tree, expression_trees, initializer_item_tree, initializer_item_trees}
use Rattle.pk_ast.proofs.ListLemmas.{initializer_item_trees-push}
use Rattle.pk_grammar.specs.declared.failure.ParseError.{ParseError}
use Rattle.pk_grammar.specs.declared.failure.ParseError.TheVariants.{Syntax}
use Rattle.pk_grammar.specs.declared.signs.Fixed.TheVariants as fixed
use Rattle.pk_grammar.specs.Machine.Signs.{is_fixed}
use Rattle.pk_grammar.specs.Machine.States.{Naming, Initializing, Initialized, as_value, as_item, as_row_item, as_whole, after_assign, at_initializer_item, at_row_item, after_item, after_initializer, operand, complete}
use Rattle.pk_grammar.specs.Machine.Steps.{naming_nesting, initializing_nesting, with_initializer, with_item, first_item, more_items, one_more}
use Rattle.pk_grammar.specs.Machine.Running.{first_of_all, run, Fails}
use Rattle.pk_parse_expression.specs.Parsing.{Begins, EndsAt, UpTo, Reads, Refuses}
use Rattle.pk_parse_expression.proofs.RunLemmas.{fails_as, fails_syntax}
use Rattle.pk_parse_expression.proofs.ExpressionLemmas.{trees_push}
use Rattle.pk_parse.specs.Parts.{GoesOn, EndsItem, CanInitialize, initializer_open, goes_on_initializing, items_state, with_items_more, row_state}
use Rattle.pk_parse.proofs.RunInitializers.{run_braced, run_value, run_value_end, run_row, run_item, run_item_end, run_first_value, run_close, run_next, no_next, run_last_comma, run_row_close, run_row_comma, no_row_end, run_row_last, run_row_next}

-- What follows an item

pub goes_on : (end : Token) (ts : List Token) (another : Bool) (rest : List Token) → EndsItem end ts another rest → GoesOn end another rest
goes_on end ts true rest h e = h.no_end
goes_on end ts false rest h e = absurd (cc)

-- neither a comma nor a `}`, which is told there
abbrev pub EndsNot : Token → List Token → ParseError → Type 0
EndsNot end ts x =
    (is_fixed fixed.CloseBrace (first_of_all end ts).kind ≡ false) × (is_fixed fixed.Comma (first_of_all end ts).kind ≡ false) × (x ≡ Syntax (first_of_all end ts).at)

ends_items : (end : Token) (d : Initialized) (ts : List Token) (another : Bool) (rest : List Token) → naming_nesting d.naming ≤ 128 → EndsItem end ts another rest →
    run end (after_item d) ts ≡ run end (items_state another d) rest
ends_items end d ts true rest limit h = run_next end d ts h.comma rest h.begins limit
ends_items end d ts false rest limit h = elim h.comma [
  | inl same ↦ run_close end d ts h.brace rest (subst (λ q. Begins fixed.CloseBrace q h.brace rest) same h.closes) limit
  | inr comma ↦ run_next end d ts comma.0 h.before comma.1 limit ∙ run_last_comma end d h.before h.brace rest h.closes limit
]

-- Values of a row

after_one_more : (done : ExpressionTrees) (e : ExpressionTree) → one_more done e ≡ expression_then (first_item done e) (more_items done e)
after_one_more no_expressions e = refl
after_one_more (expression_then d ds) e = refl

ends_value : (end : Token) (d : Initializing) (at : Pos) (es : ExpressionTrees) (ts : List Token) (m : ℕ) (e : ExpressionTree) (another : Bool) (rest : List Token) → initializing_nesting d ≤ 128 →
    EndsItem end ts another rest → run end (complete m e (as_whole (as_row_item d at es))) ts ≡ run end (row_state another d at (first_item es e) (more_items es e)) rest
ends_value end d at es ts m e true rest limit h = run_row_comma end d at es ts m e h.comma rest h.begins limit ∙ ap (λ all. run end (at_row_item d at all) rest) (after_one_more es e)
ends_value end d at es ts m e false rest limit h = elim h.comma [
  | inl same ↦ run_row_close end d at es ts m e h.brace rest (subst (λ q. Begins fixed.CloseBrace q h.brace rest) same h.closes) limit
  | inr comma ↦
      run_row_comma end d at es ts m e comma.0 h.before comma.1 limit ∙ ap (λ all. run end (at_row_item d at all) h.before) (after_one_more es e)
      ∙ run_row_last end d at (first_item es e) (more_items es e) h.before h.brace rest h.closes limit
]

-- a value at this place is read so
abbrev pub ReadsValue : Token → ℕ → List Token → ExpressionTree → Bool → List Token → Type 0
ReadsValue end n ts e another rest = (d : Initializing) (at : Pos) (es : ExpressionTrees) → initializing_nesting d ≡ n →
    run end (operand n (as_whole (as_row_item d at es))) ts ≡ run end (row_state another d at (first_item es e) (more_items es e)) rest

abbrev pub FailsValue : Token → ℕ → List Token → ParseError → Type 0
FailsValue end n ts x = (d : Initializing) (at : Pos) (es : ExpressionTrees) → initializing_nesting d ≡ n → Fails (run end (operand n (as_whole (as_row_item d at es))) ts) x

pub fails_row_value : (end : Token) (n : ℕ) (ts : List Token) (x : ParseError) → Refuses end (UpTo 1) (λ c. operand n c) ts x → FailsValue end n ts x
fails_row_value end n ts x r d at es same = r (as_whole (as_row_item d at es)) (omega arith)

module _ (end : Token) (n : ℕ) (limit : n ≤ 128) (ts : List Token) (e : ExpressionTree) (after : List Token) (r : Reads end (UpTo 1) (λ c. operand n c) n ts e after) where
  pub stops_row_value : (x : ParseError) → EndsAt end 1 after → EndsNot end after x → FailsValue end n ts x
  stops_row_value x ends h d at es same = fails_syntax _ x _ h.2 (r (as_whole (as_row_item d at es)) (omega arith) ∙ no_row_end end d at es after n e ends h.0 h.1)

  pub reads_row_value : (another : Bool) (rest : List Token) → EndsItem end after another rest → ReadsValue end n ts e another rest
  reads_row_value another rest h d at es same = r (as_whole (as_row_item d at es)) (omega arith) ∙ ends_value end d at es after n e another rest (omega arith) h

-- these values come, behind one
abbrev pub ReadsValues : Token → ℕ → Bool → List Token → ExpressionTrees → Bool → List Token → Type 0
ReadsValues end n another ts es goes_on rest = (d : Initializing) (at : Pos) (e : ExpressionTree) → initializing_nesting d ≡ n →
    run end (row_state another d at e no_expressions) ts ≡ run end (row_state goes_on d at e es) rest

abbrev pub FailsValues : Token → ℕ → Bool → List Token → ParseError → Type 0
FailsValues end n another ts x = (d : Initializing) (at : Pos) (e : ExpressionTree) → initializing_nesting d ≡ n → Fails (run end (row_state another d at e no_expressions) ts) x

module _ (end : Token) (n : ℕ) (first : Bool) (ts : List Token) (es : List Expression) (rest : List Token) (done : ReadsValues end n first ts (expression_trees es) true rest)
    (goes : is_fixed fixed.CloseBrace (first_of_all end rest).kind ≡ false) where
  next_value : (d : Initializing) (at : Pos) (e : ExpressionTree) → initializing_nesting d ≡ n →
      run end (row_state first d at e no_expressions) ts ≡ run end (operand n (as_whole (as_row_item d at (expression_then e (expression_trees es))))) rest
  next_value d at e same =
      done d at e same ∙ run_row_next end d at e (expression_trees es) rest goes
      ∙ ap (λ q. run end (operand q (as_whole (as_row_item d at (expression_then e (expression_trees es))))) rest) same

  pub fails_values : (x : ParseError) → FailsValue end n rest x → FailsValues end n first ts x
  fails_values x r d at e same = fails_as _ _ x (next_value d at e same) (r d at (expression_then e (expression_trees es)) same)

  pub reads_values : (i : Expression) (goes_on : Bool) (after : List Token) → ReadsValue end n rest (expression_tree i) goes_on after → (list : List Expression) → list ≡ es ++ i ∷ [] →
      ReadsValues end n first ts (expression_trees list) goes_on after
  reads_values i goes_on after r list pushed d at e same =
      next_value d at e same ∙ r d at (expression_then e (expression_trees es)) same
      ∙ ap (λ q. run end (row_state goes_on d at e q) after) (sym (ap expression_trees pushed ∙ trees_push es i))

-- Rows

module _ (end : Token) (n : ℕ) (ts : List Token) (at : Pos) (d : Initializing) (same : initializing_nesting d ≡ n) where
  row_begins : run end (at_row_item d at no_expressions) ts ≡ run end (operand n (as_whole (as_row_item d at no_expressions))) ts
  row_begins = run_first_value end d ts at ∙ ap (λ q. run end (operand q (as_whole (as_row_item d at no_expressions))) ts) same

  pub fails_row : (x : ParseError) → FailsValue end n ts x → Fails (run end (at_row_item d at no_expressions) ts) x
  fails_row x r = fails_as _ _ x row_begins (r d at no_expressions same)

  module _ (e : ExpressionTree) (another : Bool) (following : List Token) (r : ReadsValue end n ts e another following) where
    pub fails_row_more : (x : ParseError) → FailsValues end n another following x → Fails (run end (at_row_item d at no_expressions) ts) x
    fails_row_more x q = fails_as _ _ x (row_begins ∙ r d at no_expressions same) (q d at e same)

    pub reads_row : (es : ExpressionTrees) (rest : List Token) → ReadsValues end n another following es false rest → (i : InitializerItemTree) → i ≡ item_row at e es →
        run end (at_row_item d at no_expressions) ts ≡ run end (after_item (with_item d i)) rest
    reads_row es rest q i is = row_begins ∙ r d at no_expressions same ∙ q d at e same ∙ ap (λ i. run end (after_item (with_item d i)) rest) (sym is)

-- Items

-- an item at this place is read so, but for what follows it
abbrev pub ReadsAlone : Token → ℕ → List Token → InitializerItemTree → List Token → Type 0
ReadsAlone end n ts i rest = (d : Initializing) → CanInitialize end d n ts → run end (at_initializer_item d) ts ≡ run end (after_item (with_item d i)) rest

abbrev pub FailsItem : Token → ℕ → List Token → ParseError → Type 0
FailsItem end n ts x = (d : Initializing) → CanInitialize end d n ts → Fails (run end (at_initializer_item d) ts) x

module _ (end : Token) (n : ℕ) (limit : n ≤ 128) (ts : List Token) where
  opens_row : (t : Token) (after : List Token) → Begins fixed.OpenBrace ts t after → (d : Initializing) → CanInitialize end d n ts → run end (at_initializer_item d) ts ≡ run end (at_row_item d t.at no_expressions) after
  opens_row t after b d can = let same = can.nesting in run_row end d ts t after b (omega arith)

  pub fails_opened : (t : Token) (after : List Token) → Begins fixed.OpenBrace ts t after → (x : ParseError) →
      ((d : Initializing) → initializing_nesting d ≡ n → Fails (run end (at_row_item d t.at no_expressions) after) x) → FailsItem end n ts x
  fails_opened t after b x r d can = fails_as _ _ x (opens_row t after b d can) (r d can.nesting)

  pub reads_opened : (t : Token) (after : List Token) → Begins fixed.OpenBrace ts t after → (i : InitializerItemTree) (rest : List Token) →
      ((d : Initializing) → initializing_nesting d ≡ n → run end (at_row_item d t.at no_expressions) after ≡ run end (after_item (with_item d i)) rest) → ReadsAlone end n ts i rest
  reads_opened t after b i rest r d can = opens_row t after b d can ∙ r d can.nesting

  module _ (no_row : is_fixed fixed.OpenBrace (first_of_all end ts).kind ≡ false) where
    begins_value : (d : Initializing) → CanInitialize end d n ts → run end (at_initializer_item d) ts ≡ run end (operand n (as_whole (as_item d))) ts
    begins_value d can = run_item end d ts no_row can.no_end ∙ ap (λ q. run end (operand q (as_whole (as_item d))) ts) can.nesting

    pub fails_alone : (x : ParseError) → Refuses end (UpTo 1) (λ c. operand n c) ts x → FailsItem end n ts x
    fails_alone x r d can = fails_as _ _ x (begins_value d can) (r (as_whole (as_item d)) (omega arith))

    pub reads_alone : (e : ExpressionTree) (rest : List Token) → Reads end (UpTo 1) (λ c. operand n c) n ts e rest → EndsAt end 1 rest → (i : InitializerItemTree) → i ≡ item_value e → ReadsAlone end n ts i rest
    reads_alone e rest r ends i is d can =
        begins_value d can ∙ r (as_whole (as_item d)) (omega arith) ∙ run_item_end end d rest n e ends ∙ ap (λ i. run end (after_item (with_item d i)) rest) (sym is)

-- an item is read so, with what follows it
abbrev pub ReadsItem : Token → ℕ → List Token → InitializerItemTree → Bool → List Token → Type 0
ReadsItem end n ts i another rest = (d : Initializing) → CanInitialize end d n ts → run end (at_initializer_item d) ts ≡ run end (items_state another (with_item d i)) rest

module _ (end : Token) (n : ℕ) (limit : n ≤ 128) (ts : List Token) (i : InitializerItemTree) (after : List Token) (r : ReadsAlone end n ts i after) where
  pub stops_item : (x : ParseError) → EndsNot end after x → FailsItem end n ts x
  stops_item x h d can = fails_syntax _ x _ h.2 (r d can ∙ no_next end (with_item d i) after h.0 h.1)

  pub reads_item : (another : Bool) (rest : List Token) → EndsItem end after another rest → ReadsItem end n ts i another rest
  reads_item another rest h d can = let same = can.nesting in r d can ∙ ends_items end (with_item d i) after another rest (omega arith) h

-- these items come behind one
abbrev pub ReadsItems : Token → ℕ → Bool → List Token → List InitializerItemTree → Bool → List Token → Type 0
ReadsItems end n another ts items goes_on rest = (d : Initialized) → naming_nesting d.naming ≡ n →
    run end (items_state another d) ts ≡ run end (items_state goes_on (with_items_more d items)) rest

abbrev pub FailsItems : Token → ℕ → Bool → List Token → ParseError → Type 0
FailsItems end n another ts x = (d : Initialized) → naming_nesting d.naming ≡ n → Fails (run end (items_state another d) ts) x

abbrev with_rest : Initialized → List InitializerItemTree → Initialized
with_rest d more = record { naming = d.naming; brace = d.brace; items = record { first = d.items.first; more = more } }

pub reads_none : (end : Token) (n : ℕ) (another : Bool) (ts : List Token) → ReadsItems end n another ts [] another ts
reads_none end n another ts d same = ap (λ q. run end (items_state another (with_rest d q)) ts) (sym (append-nil d.items.more))

module _ (end : Token) (n : ℕ) (first : Bool) (ts : List Token) (items : List InitializerItem) (rest : List Token) (done : ReadsItems end n first ts (initializer_item_trees items) true rest)
    (goes : is_fixed fixed.CloseBrace (first_of_all end rest).kind ≡ false) where
  can_initialize : (d : Initialized) → naming_nesting d.naming ≡ n → CanInitialize end (goes_on_initializing (with_items_more d (initializer_item_trees items))) n rest
  can_initialize d same = record { nesting = same; no_end = λ e. let c : true ≡ false = sym e ∙ goes in absurd (cc) }

  pub fails_items : (x : ParseError) → FailsItem end n rest x → FailsItems end n first ts x
  fails_items x r d same = fails_as _ _ x (done d same) (r (goes_on_initializing (with_items_more d (initializer_item_trees items))) (can_initialize d same))

  pub reads_items : (i : InitializerItem) (goes_on : Bool) (after : List Token) → ReadsItem end n rest (initializer_item_tree i) goes_on after → (list : List InitializerItem) → list ≡ items ++ i ∷ [] →
      ReadsItems end n first ts (initializer_item_trees list) goes_on after
  reads_items i goes_on after r list pushed d same =
      done d same ∙ r (goes_on_initializing (with_items_more d (initializer_item_trees items))) (can_initialize d same)
      ∙ ap (λ q. run end (items_state goes_on (with_rest d q)) after)
      (append_assoc d.items.more (initializer_item_trees items) (initializer_item_tree i ∷ []) ∙ ap (λ q. d.items.more ++ q) (sym (ap initializer_item_trees pushed ∙ initializer_item_trees-push items i)))

-- What an object begins with

module _ (end : Token) (n : ℕ) (limit : n ≤ 128) (d : Naming) (same : naming_nesting d ≡ n) (ts : List Token) where
  module _ (t : Token) (after : List Token) (b : Begins fixed.OpenBrace ts t after) where
    opened : run end (after_assign d) ts ≡ run end (at_initializer_item (initializer_open d t.at)) after
    opened = run_braced end d ts t after b (omega arith)

    can_open : CanInitialize end (initializer_open d t.at) n after
    can_open = record { nesting = same; no_end = λ e. refl }

    pub fails_first : (x : ParseError) → FailsItem end n after x → Fails (run end (after_assign d) ts) x
    fails_first x r = fails_as _ _ x opened (r (initializer_open d t.at) can_open)

    module _ (first : InitializerItemTree) (another : Bool) (following : List Token) (r : ReadsItem end n after first another following) where
      pub fails_more : (x : ParseError) → FailsItems end n another following x → Fails (run end (after_assign d) ts) x
      fails_more x q = fails_as _ _ x (opened ∙ r (initializer_open d t.at) can_open) (q (with_item (initializer_open d t.at) first) same)

      pub reads_braced : (more : List InitializerItemTree) (rest : List Token) → ReadsItems end n another following more false rest → (i : InitializerTree) →
          i ≡ braced t.at (record { first = first; more = more }) → run end (after_assign d) ts ≡ run end (after_initializer (with_initializer d (Some i))) rest
      reads_braced more rest q i is =
          opened ∙ r (initializer_open d t.at) can_open ∙ q (with_item (initializer_open d t.at) first) same ∙ ap (λ i. run end (after_initializer (with_initializer d (Some i))) rest) (sym is)

  valued : is_fixed fixed.OpenBrace (first_of_all end ts).kind ≡ false → run end (after_assign d) ts ≡ run end (operand n (as_whole (as_value d))) ts
  valued f = run_value end d ts f ∙ ap (λ q. run end (operand q (as_whole (as_value d))) ts) same

  pub fails_value : (x : ParseError) → is_fixed fixed.OpenBrace (first_of_all end ts).kind ≡ false → Refuses end (UpTo 1) (λ c. operand n c) ts x → Fails (run end (after_assign d) ts) x
  fails_value x f r = fails_as _ _ x (valued f) (r (as_whole (as_value d)) (omega arith))

  pub reads_value : (e : ExpressionTree) (rest : List Token) (i : InitializerTree) → is_fixed fixed.OpenBrace (first_of_all end ts).kind ≡ false →
      Reads end (UpTo 1) (λ c. operand n c) n ts e rest → EndsAt end 1 rest → i ≡ single e → run end (after_assign d) ts ≡ run end (after_initializer (with_initializer d (Some i))) rest
  reads_value e rest i f r ends h =
      valued f ∙ r (as_whole (as_value d)) (omega arith) ∙ run_value_end end d rest n e ends ∙ ap (λ q. run end (after_initializer (with_initializer d (Some q))) rest) (sym h)
