-- Each declaration of the grammar is read.
use Rattle.std.proofs.Common.{◌≡◌, ℕ, ◌+◌, ◌⊎◌, inl, inr, Option, Some, None, false, List, [], ◌∷◌, ◌++◌, refl, sym, ap, subst, ◌∙◌, arith, append_assoc, append-nil}
use Rattle.pk_ctypes.specs.declared.places.Pos.{Pos}
use Rattle.pk_lex.specs.declared.token.Token.{Token}
use Rattle.pk_lex.specs.declared.token.Kind.TheVariants as kind
use Rattle.pk_lex.specs.declared.token.Punctuator.TheVariants as mark
use Rattle.pk_ast.specs.declared.declarations.Specifier.{Specifier}
use Rattle.pk_ast.specs.declared.declarations.SpecifierWord.{SpecifierWord}
use Rattle.pk_ast.specs.declared.expressions.Identifier.{Identifier}
use Rattle.pk_ast.specs.Trees.{OneOrMore, ExpressionTree, InitializerTree, single, braced, DimensionsTree, DeclaratorTree, EnumerationTree, DeclarationTree}
use Rattle.pk_ast.specs.Lists.{one, with_last, ended}
use Rattle.pk_grammar.proofs.SpellsWords.{drop_last}
use Rattle.pk_grammar.specs.declared.signs.Fixed.TheVariants as fixed
use Rattle.pk_grammar.specs.Languages.{Marked, ◌⊙◌, identifier_of}
use Rattle.pk_grammar.specs.Grammar as grammar
use Rattle.pk_grammar.specs.Grammar.{punctuator, array_length, dimensions, initializer, declarator, declarators, declared, more_declarators}
use Rattle.pk_grammar.specs.Machine.Signs.{is_fixed, specifier_word}
use Rattle.pk_grammar.specs.Machine.States.{Site, in_a_block, in_a_for, outside, in_declaration, Declaring, Naming, as_length, as_columns, as_value, as_whole, State, operand, complete, after_specifiers, after_name, after_length, after_columns, after_assign, at_initializer_item, after_initializer, after_comma, after_braces, Declared}
use Rattle.pk_grammar.specs.Machine.Steps.{taken, refused, reduced, more_specifiers, whole_declaration, end_alone, specifier_at, site_nesting, naming_nesting, with_initializer, with_dimensions, without_dimensions, after_declarator, declared_at, step, with_declarator, goes_on_declaring, next_word, alone}
use Rattle.pk_grammar.proofs.WordLemmas.{no_name, ends_in_no_enum, opens_braces}
use Rattle.pk_grammar.proofs.CompleteLists.{tokens_of, Reads, reads_both, reads_one, reads_none, reads_head, reads_sign, reads_last, regrouped}
use Rattle.pk_grammar.proofs.CompleteSigns.{Begins, sign_comma, sign_semicolon, sign_close_bracket}
use Rattle.pk_grammar.proofs.CompleteOperands.{Ends, IsAt, ends_at_sign, same_false}
use Rattle.pk_grammar.proofs.CompleteExpressions.{from_operand, readable, ReadsTo, reads_words, reads_specifiers}
use Rattle.pk_grammar.proofs.CompleteInitializers.{reads_braced}
use Rattle.pk_grammar.proofs.CompleteEnumerations.{step_open_braces, step_alone, step_name_behind, reads_braces}

-- Initializers

-- a token behind a declarator
abbrev pub Separates : Token → Type 0
Separates t = (t.kind ≡ kind.Punctuator mark.Comma) ⊎ (t.kind ≡ kind.Punctuator mark.Semicolon)

-- a state behind a declarator's name and dimensions
record HasName (s : State) (d : Naming) : Type 0 where
  at_assign : (t : Token) → t.kind ≡ kind.Punctuator mark.Assign → step s t ≡ taken (naming_nesting d) (after_assign d)
  at_separator : (t : Token) → Separates t → step s t ≡ after_declarator (with_initializer d None) t

name_without_dimensions : (d : Declaring) (id : Identifier) → HasName (after_name d id) (without_dimensions d id)
name_without_dimensions d id = record {
  at_assign = λ t e. rw e;
  at_separator = λ t h. elim h [ inl e ↦ rw e | inr e ↦ rw e ];
}

abbrev with_length : Declaring → Identifier → ExpressionTree → Naming
with_length d id e = with_dimensions d id (record { length = e; columns = None })

name_with_length : (d : Declaring) (id : Identifier) (e : ExpressionTree) → HasName (after_length d id e) (with_length d id e)
name_with_length d id e = record {
  at_assign = λ t e. rw e;
  at_separator = λ t h. elim h [ inl e ↦ rw e | inr e ↦ rw e ];
}

name_with_columns : (d : Naming) → HasName (after_columns d) d
name_with_columns d = record {
  at_assign = λ t e. rw e;
  at_separator = λ t h. elim h [ inl e ↦ rw e | inr e ↦ rw e ];
}

record ReadsName (s : State) (ms : List Marked) (rest : List Token) (d : Naming) : Type 0 where
  state : State
  reads : Reads s ms state rest
  has : HasName state d

abbrev naming : Declaring → Identifier → Option DimensionsTree → Naming
naming d id l = record { declaring = d; name = id; dimensions = l }

pub step_length : (d : Declaring) (id : Identifier) (t : Token) → t.kind ≡ kind.Punctuator mark.OpenBracket →
    step (after_name d id) t ≡ taken (site_nesting d.site + 1) (operand (site_nesting d.site + 1) (as_whole (as_length d id)))
step_length d id t e = rw e

pub step_length_end : (n : ℕ) (e : ExpressionTree) (d : Declaring) (id : Identifier) (t : Token) → t.kind ≡ kind.Punctuator mark.CloseBracket →
    step (complete n e (as_whole (as_length d id))) t ≡ taken (site_nesting d.site) (after_length d id e)
unfolding reduced
step_length_end n e d id t is = rw is

pub step_columns : (d : Declaring) (id : Identifier) (e : ExpressionTree) (t : Token) → t.kind ≡ kind.Punctuator mark.OpenBracket →
    step (after_length d id e) t ≡ taken (site_nesting d.site + 1) (operand (site_nesting d.site + 1) (as_whole (as_columns d id e)))
step_columns d id e t is = rw is

pub step_columns_end : (n : ℕ) (c : ExpressionTree) (d : Declaring) (id : Identifier) (e : ExpressionTree) (t : Token) → t.kind ≡ kind.Punctuator mark.CloseBracket →
    step (complete n c (as_whole (as_columns d id e))) t ≡ taken (site_nesting d.site) (after_columns (with_dimensions d id (record { length = e; columns = Some c })))
unfolding reduced
step_columns_end n c d id e t is = rw is

reads_columns : (d : Declaring) (id : Identifier) (e : ExpressionTree) (c : Option ExpressionTree) {ms : List Marked} {rest : List Token} → array_length c (site_nesting d.site) ms →
    ReadsName (after_length d id e) ms rest (with_dimensions d id (record { length = e; columns = c }))
reads_columns d id e None h = record { state = after_length d id e; reads = reads_none h; has = name_with_length d id e }
reads_columns d id e (Some c) {rest = rest} h = record {
  state = after_columns (with_dimensions d id (record { length = e; columns = Some c }));
  reads = reads_last h.front h.cut h.second
      (reads_head h.first (step_columns d id e h.first.first.token h.first.first.holds)
      ((readable c).reads 2 (site_nesting d.site + 1) h.first.back (as_whole (as_columns d id e)) h.second.token rest h.first.second.fits h.first.second.is (omega arith)
      (ends_at_sign _ _ h.second.token sign_close_bracket h.second.holds (omega arith))))
      (step_columns_end (site_nesting d.site + 1) c d id e h.second.token h.second.holds);
  has = name_with_columns (with_dimensions d id (record { length = e; columns = Some c }));
}

reads_dimensions : (d : Declaring) (id : Identifier) (l : Option DimensionsTree) {ms : List Marked} {rest : List Token} → dimensions l (site_nesting d.site) ms →
    ReadsName (after_name d id) ms rest (naming d id l)
reads_dimensions d id None h = record { state = after_name d id; reads = reads_none h; has = name_without_dimensions d id }
reads_dimensions d id (Some l) {rest = rest} h =
    let g = h.first in
    let c = reads_columns d id l.length l.columns {rest = rest} h.second in
    record {
      state = c.state;
      reads = reads_both h
          (reads_last g.front g.cut g.second
          (reads_head g.first (step_length d id g.first.first.token g.first.first.holds)
          ((readable l.length).reads 2 (site_nesting d.site + 1) g.first.back (as_whole (as_length d id)) g.second.token (tokens_of h.back ++ rest) g.first.second.fits g.first.second.is (omega arith)
          (ends_at_sign _ _ g.second.token sign_close_bracket g.second.holds (omega arith))))
          (step_length_end (site_nesting d.site + 1) l.length d id g.second.token g.second.holds))
          c.reads;
      has = c.has;
    }

step_value_end : (n : ℕ) (e : ExpressionTree) (d : Naming) (t : Token) → Separates t → step (complete n e (as_whole (as_value d))) t ≡ after_declarator (with_initializer d (Some (single e))) t
unfolding reduced
step_value_end n e d t h = elim h [ inl e ↦ rw e | inr e ↦ rw e ]

separator_ends : {level : ℕ} (c : _) (t : Token) → Separates t → Ends level c t.kind
separator_ends c t h = elim h [ inl e ↦ ends_at_sign _ _ t sign_comma e (omega arith) | inr e ↦ ends_at_sign _ _ t sign_semicolon e (omega arith) ]

step_value : (d : Naming) (t : Token) → Begins t.kind → step (after_assign d) t ≡ step (operand (naming_nesting d) (as_whole (as_value d))) t
step_value d t b = same_false (is_fixed fixed.OpenBrace t.kind) _ _ b.no_open_brace

step_brace : (d : Naming) (t : Token) (at : Pos) → IsAt mark.OpenBrace at t → step (after_assign d) t ≡ taken (naming_nesting d) (at_initializer_item (record { naming = d; brace = at; items = [] }))
step_brace d t at e = rw (e.0, e.1)

reads_initializer : (i : Option InitializerTree) (d : Naming) (s : State) → HasName s d → (t : Token) (rest : List Token) → Separates t → (ms : List Marked) → initializer i (naming_nesting d) ms →
    ReadsTo s ms t rest (after_declarator (with_initializer d i) t)
reads_initializer None d s has t rest sep ms h = record { state = s; reads = reads_none h; then = has.at_separator t sep }
reads_initializer (Some (single e)) d s has t rest sep ms h = record {
  state = complete (naming_nesting d) e (as_whole (as_value d));
  reads = reads_head h (has.at_assign h.first.token h.first.holds)
      (from_operand e (naming_nesting d) h.back h.second.is (step_value d)
      ((readable e).reads 1 (naming_nesting d) h.back (as_whole (as_value d)) t rest h.second.fits h.second.is (omega arith) (separator_ends _ t sep)));
  then = step_value_end (naming_nesting d) e d t sep;
}
reads_initializer (Some (braced at items)) d s has t rest sep ms h =
    let a = h.second in
    record {
      state = after_initializer (with_initializer d (Some (braced at items)));
      reads = reads_head h (has.at_assign h.first.token h.first.holds)
          (reads_head a (step_brace d a.first.token at a.first.holds) (reads_braced items d at (t ∷ rest) a.back a.second));
      then = refl;
    }

-- Declarators

reads_declarator : (x : DeclaratorTree) (d : Declaring) (s : State) → ((t : Token) → t.kind ≡ kind.Name → step s t ≡ taken (site_nesting d.site) (after_name d (identifier_of t))) →
    (t : Token) (rest : List Token) → Separates t → (ms : List Marked) → declarator x (site_nesting d.site) ms → ReadsTo s ms t rest (after_declarator (with_declarator d x) t)
reads_declarator x d s names t rest sep ms h =
    let g = h.second in
    let l = reads_dimensions d x.name x.dimensions {rest = tokens_of g.back ++ t ∷ rest} g.first in
    let i = reads_initializer x.initializer (naming d x.name x.dimensions) l.state l.has t rest sep g.back g.second in
    record {
      state = i.state;
      reads = reads_both h (reads_one h.first (names h.first.token h.first.holds.0 ∙ ap (λ id. taken (site_nesting d.site) (after_name d id)) h.first.holds.1))
          (reads_both g l.reads i.reads);
      then = i.then;
    }

step_comma_declarator : (d : Declared) (t : Token) → t.kind ≡ kind.Punctuator mark.Comma → after_declarator d t ≡ taken (site_nesting d.site) (after_comma (goes_on_declaring d))
step_comma_declarator d t e = rw e

step_end_declaration : (d : Declared) (t : Token) → t.kind ≡ kind.Punctuator mark.Semicolon →
    after_declarator d t ≡ taken (site_nesting d.site) (declared_at d.site (whole_declaration d))
step_end_declaration d t e = rw e

pub step_next_name : (d : Declaring) (t : Token) → t.kind ≡ kind.Name → step (after_comma d) t ≡ taken (site_nesting d.site) (after_name d (identifier_of t))
step_next_name d t e = rw e

-- these declarators and those that come after them
abbrev and_more : Declared → List DeclaratorTree → DeclarationTree
and_more d more = record { specifiers = d.specifiers; enumeration = d.enumeration; declarators = d.declarators.first ∷ (d.declarators.more ++ more) }

abbrev Names : State → Declaring → Type 0
Names s d = (t : Token) → t.kind ≡ kind.Name → step s t ≡ taken (site_nesting d.site) (after_name d (identifier_of t))

reads_declarators : (x : DeclaratorTree) (more : List DeclaratorTree) (d : Declaring) (s : State) → Names s d → (rest : List Token) (ts : List Marked) →
    ((declarator x ⊙ more_declarators more) ⊙ punctuator mark.Semicolon) (site_nesting d.site) ts → Reads s ts (declared_at d.site (and_more (with_declarator d x) more)) rest
reads_declarators x [] d s names rest ts h =
    let g = drop_last h.first in
    let r = reads_declarator x d s names h.second.token rest (inr h.second.holds) h.front g in
    reads_last h.front h.cut h.second r.reads (r.then ∙ step_end_declaration (with_declarator d x) h.second.token h.second.holds
    ∙ ap (λ more. taken (site_nesting d.site) (declared_at d.site (record { specifiers = d.specifiers; enumeration = d.enumeration; declarators = (ended d.declarators x).first ∷ more })))
    (sym (append-nil (ended d.declarators x).more)))
reads_declarators x (y ∷ more) d s names rest ts h =
    let f = regrouped {R = punctuator mark.Semicolon} h.front h.back h.cut h.first h.second in
    let g = regrouped {R = punctuator mark.Semicolon} f.second.front f.second.back f.second.cut f.second.first f.second.second in
    let r = reads_declarator x d s names g.first.token (tokens_of g.back ++ rest) (inl g.first.holds) f.front f.first in
    let e = with_declarator d x in
    let k = goes_on_declaring e in
    reads_sign f.front f.cut g r.reads (r.then ∙ step_comma_declarator e g.first.token g.first.holds)
    (subst (λ all. Reads (after_comma k) g.back (declared_at d.site (record { specifiers = d.specifiers; enumeration = d.enumeration; declarators = e.declarators.first ∷ all })) rest)
    (append_assoc e.declarators.more (y ∷ []) more)
    (reads_declarators y more k (after_comma k) (step_next_name k) rest g.back g.second))

-- Declarations

pub step_first_name : (s : Site) (specs : OneOrMore Specifier) (t : Token) → next_word specs t ≡ None → t.kind ≡ kind.Name →
    step (after_specifiers s specs) t ≡ taken (site_nesting s) (after_name (record { site = s; specifiers = specs; enumeration = None; declarators = [] }) (identifier_of t))
step_first_name s specs t h e = ap (λ w. more_specifiers s specs t w) h ∙ rw e

pub step_no_first_name : (s : Site) (specs : OneOrMore Specifier) (t : Token) → next_word specs t ≡ None → is_fixed fixed.OpenBrace t.kind ≡ false → is_fixed fixed.Name t.kind ≡ false →
    step (after_specifiers s specs) t ≡ refused
step_no_first_name s specs t h b n =
    ap (λ w. more_specifiers s specs t w) h ∙ same_false (is_fixed fixed.OpenBrace t.kind) _ _ b ∙ same_false (is_fixed fixed.Name t.kind) _ _ n

pub step_more_specifiers : (s : Site) (specs : OneOrMore Specifier) (t : Token) (w : SpecifierWord) → next_word specs t ≡ Some w →
    step (after_specifiers s specs) t ≡ taken (site_nesting s) (after_specifiers s (with_last specs (specifier_at t w)))
step_more_specifiers s specs t w e = ap (λ w. more_specifiers s specs t w) e

-- what is declared there may be nothing
abbrev pub MayDeclare : Site → List DeclaratorTree → Type 0
MayDeclare (in_a_block b s) ds = grammar.HasName s ds
MayDeclare (in_a_for n at o) ds = Unit {0}
MayDeclare (outside before s) ds = Unit {0}

step_end_alone : (s : Site) (specs : OneOrMore Specifier) (e : EnumerationTree) → MayDeclare s [] → end_alone s specs e ≡ taken (site_nesting s) (declared_at s (alone specs e))
step_end_alone (in_a_block b None) specs e h = refl
step_end_alone (in_a_block b (Some at)) specs e h = absurd h
step_end_alone (in_a_for n at o) specs e h = refl
step_end_alone (outside before s) specs e h = refl

-- a state that takes the first word of a declaration
abbrev pub TakesType : State → Site → Type 0
TakesType q s = (t : Token) (w : SpecifierWord) → specifier_word t ≡ Some w → step q t ≡ taken (site_nesting s) (after_specifiers s (one (specifier_at t w)))

reads_declaration : (s : Site) (q : State) → TakesType q s → (specs : OneOrMore Specifier) (e : Option EnumerationTree) (ds : List DeclaratorTree) (rest : List Token) (ms : List Marked) → MayDeclare s ds →
    declared (record { specifiers = specs; enumeration = e; declarators = ds }) (site_nesting s) ms →
    Reads q ms (declared_at s (record { specifiers = specs; enumeration = e; declarators = ds })) rest
reads_declaration s q takes specs None [] rest ms may h = absurd h.second.first.holds
reads_declaration s q takes specs None (x ∷ more) rest ms may h =
    reads_both h (reads_specifiers (after_specifiers s) (site_nesting s) (step_more_specifiers s) specs q takes h.first)
    (reads_declarators x more (record { site = s; specifiers = specs; enumeration = None; declarators = [] }) (after_specifiers s specs)
    (λ t k. step_first_name s specs t (no_name specs t (ends_in_no_enum specs h.first.holds) k) k) rest h.back h.second)
reads_declaration s q takes specs (Some e) ds rest ms may h =
    let b = h.first.is in
    reads_both h (reads_both b (reads_words (after_specifiers s) (site_nesting s) (step_more_specifiers s) specs q takes (inr h.first.holds.0) b.first)
    (reads_braces e (in_declaration s) specs (after_specifiers s specs) (λ t k. step_open_braces s specs t (opens_braces specs h.first.holds.0) k) h.first.holds.1 b.back (tokens_of h.back ++ rest) b.second))
    (behind ds may h.second)
  where
    behind : (ds : List DeclaratorTree) → MayDeclare s ds → (declarators (Some e) ds ⊙ punctuator mark.Semicolon) (site_nesting s) h.back →
        Reads (after_braces (in_declaration s) specs e) h.back (declared_at s (record { specifiers = specs; enumeration = Some e; declarators = ds })) rest
    behind [] may g = reads_last [] (g.cut ∙ ap (λ f. f ++ g.back) g.first.is) g.second (reads_none refl) (step_alone s specs e g.second.token g.second.holds ∙ step_end_alone s specs e may)
    behind (x ∷ more) may g =
        reads_declarators x more (record { site = s; specifiers = specs; enumeration = Some e; declarators = [] }) (after_braces (in_declaration s) specs e) (step_name_behind s specs e) rest h.back g

pub reads_declared : (site : Site) (s : State) → TakesType s site → (d : DeclarationTree) (rest : List Token) (ms : List Marked) → MayDeclare site d.declarators →
    declared d (site_nesting site) ms → Reads s ms (declared_at site d) rest
reads_declared site s takes d rest ms may h = reads_declaration site s takes d.specifiers d.enumeration d.declarators rest ms may h
