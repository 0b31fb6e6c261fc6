-- The items of each initializer's braces are read.
use Rattle.std.proofs.Common.{◌≡◌, ℕ, inl, inr, Some, List, [], ◌∷◌, ◌++◌, refl, sym, ap, subst, ◌∙◌, arith, append_assoc, append-nil}
use Rattle.pk_ctypes.specs.declared.places.Pos.{Pos}
use Rattle.pk_lex.specs.declared.token.Token.{Token}
use Rattle.pk_lex.specs.declared.token.Kind.TheVariants as kind
use Rattle.pk_lex.specs.declared.token.Punctuator.TheVariants as mark
use Rattle.pk_ast.specs.Trees.{OneOrMore, ExpressionTree, ExpressionTrees, no_expressions, expression_then, InitializerItemTree, item_value, item_row, braced}
use Rattle.pk_ast.specs.Lists.{ended}
use Rattle.pk_grammar.proofs.SpellsWords.{drop_last}
use Rattle.pk_grammar.specs.declared.signs.Fixed.TheVariants as fixed
use Rattle.pk_grammar.specs.Languages.{Marked, Optional, ◌⊙◌}
use Rattle.pk_grammar.specs.Grammar.{AllFit, Fits, Items, spelled, spelled_list, spelled_more, punctuator, initializer_item, more_initializer_items}
use Rattle.pk_grammar.specs.Machine.Signs.{is_fixed}
use Rattle.pk_grammar.specs.Machine.States.{Naming, Initializing, Initialized, as_item, as_row_item, as_whole, State, operand, complete, at_initializer_item, at_row_item, after_item, after_initializer}
use Rattle.pk_grammar.specs.Machine.Steps.{taken, reduced, one_more, first_item, more_items, initializing_nesting, naming_nesting, with_initializer, with_item, at_item_end, next_item, close_initializer, close_row, end_row, step}
use Rattle.pk_grammar.proofs.CompleteLists.{tokens_of, Reads, reads_one, reads_head, reads_sign, reads_last, reads_join_none}
use Rattle.pk_grammar.proofs.CompleteSigns.{Begins}
use Rattle.pk_grammar.proofs.CompleteOperands.{IsAt, same_false}
use Rattle.pk_grammar.proofs.CompleteExpressions.{from_operand, readable, joined, joined_all, ReadsTo}
use Rattle.pk_grammar.proofs.CompleteEnumerations.{EndsItem, item_ends}

-- Steps at items

pub step_item : (d : Initializing) (t : Token) → Begins t.kind → step (at_initializer_item d) t ≡ step (operand (initializing_nesting d) (as_whole (as_item d))) t
step_item d t b = same_false (is_fixed fixed.OpenBrace t.kind) _ _ b.no_open_brace ∙ same_false (is_fixed fixed.CloseBrace t.kind) _ _ b.no_close_brace

pub step_item_ends : (n : ℕ) (e : ExpressionTree) (d : Initializing) (t : Token) → EndsItem t → step (complete n e (as_whole (as_item d))) t ≡ at_item_end (with_item d (item_value e)) t
unfolding reduced
step_item_ends n e d t h = elim h [ inl e ↦ rw e | inr e ↦ rw e ]

pub step_next_item : (d : Initialized) (t : Token) → t.kind ≡ kind.Punctuator mark.Comma → at_item_end d t ≡ next_item d
step_next_item d t e = rw e

pub step_close_initializer : (d : Initialized) (t : Token) → t.kind ≡ kind.Punctuator mark.CloseBrace → at_item_end d t ≡ close_initializer d
step_close_initializer d t e = rw e

-- the `}` behind a comma
pub step_last_item : (d : Naming) (at : Pos) (items : OneOrMore InitializerItemTree) (t : Token) → t.kind ≡ kind.Punctuator mark.CloseBrace →
    step (at_initializer_item (record { naming = d; brace = at; items = items.first ∷ items.more })) t
    ≡ taken (naming_nesting d) (after_initializer (with_initializer d (Some (braced at items))))
step_last_item d at items t e = rw e

-- Steps in rows

pub step_row : (d : Initializing) (t : Token) (at : Pos) → IsAt mark.OpenBrace at t → step (at_initializer_item d) t ≡ taken (initializing_nesting d) (at_row_item d at no_expressions)
step_row d t at e = rw (e.0, e.1)

pub step_row_item : (d : Initializing) (at : Pos) (es : ExpressionTrees) (t : Token) → Begins t.kind → step (at_row_item d at es) t ≡ step (operand (initializing_nesting d) (as_whole (as_row_item d at es))) t
step_row_item d at es t b = same_false (is_fixed fixed.CloseBrace t.kind) _ _ b.no_close_brace

pub step_close_row : (n : ℕ) (e : ExpressionTree) (d : Initializing) (at : Pos) (es : ExpressionTrees) (t : Token) → t.kind ≡ kind.Punctuator mark.CloseBrace →
    step (complete n e (as_whole (as_row_item d at es))) t ≡ close_row d at (first_item es e) (more_items es e)
unfolding reduced
step_close_row n e d at es t is = rw is

pub step_row_comma : (n : ℕ) (e : ExpressionTree) (d : Initializing) (at : Pos) (es : ExpressionTrees) (t : Token) → t.kind ≡ kind.Punctuator mark.Comma →
    step (complete n e (as_whole (as_row_item d at es))) t ≡ taken (initializing_nesting d) (at_row_item d at (one_more es e))
unfolding reduced
step_row_comma n e d at es t is = rw is

pub step_last_row_item : (d : Initializing) (at : Pos) (es : ExpressionTrees) (t : Token) → t.kind ≡ kind.Punctuator mark.CloseBrace → step (at_row_item d at es) t ≡ end_row d at es
step_last_row_item d at es t is = rw is

-- A row is read

record ReadsRow (s : State) (ms : List Marked) (t : Token) (rest : List Token) (d : Initializing) (at : Pos) (es : ExpressionTrees) : Type 0 where
  state : State
  reads : Reads s ms state (t ∷ rest)
  closes : t.kind ≡ kind.Punctuator mark.CloseBrace → step state t ≡ end_row d at es
  goes_on : t.kind ≡ kind.Punctuator mark.Comma → step state t ≡ taken (initializing_nesting d) (at_row_item d at es)

-- a row that closes behind one more value
row_closes : (d : Initializing) (at : Pos) (done : ExpressionTrees) (e : ExpressionTree) → close_row d at (first_item done e) (more_items done e) ≡ end_row d at (one_more done e)
row_closes d at no_expressions e = refl
row_closes d at (expression_then a done) e = refl

reads_row_items : (es : ExpressionTrees) (e : ExpressionTree) (d : Initializing) (at : Pos) (done : ExpressionTrees) (t : Token) (rest : List Token) (ms : List Marked) →
    Fits 1 e → AllFit es → (spelled e ⊙ spelled_more es) (initializing_nesting d) ms → EndsItem t → ReadsRow (at_row_item d at done) ms t rest d at (joined done (expression_then e es))
unfolding spelled_more
reads_row_items no_expressions e d at done t rest ms f fs h ends =
    let n : ℕ = initializing_nesting d in
    record {
      state = complete n e (as_whole (as_row_item d at done));
      reads = reads_join_none h.cut h.second
          (from_operand e n h.front h.first (step_row_item d at done)
          ((readable e).reads 1 n h.front (as_whole (as_row_item d at done)) t rest f h.first (omega arith) (item_ends _ t ends)));
      closes = λ k. step_close_row n e d at done t k ∙ row_closes d at done e;
      goes_on = step_row_comma n e d at done t;
    }
reads_row_items (expression_then a es) e d at done t rest ms f fs h ends =
    let n : ℕ = initializing_nesting d in
    let g = h.second in
    let k = g.first.token in
    let more = reads_row_items es a d at (one_more done e) t rest g.back fs.0 fs.1 g.second ends in
    record {
      state = more.state;
      reads = reads_sign h.front h.cut g
          (from_operand e n h.front h.first (step_row_item d at done)
          ((readable e).reads 1 n h.front (as_whole (as_row_item d at done)) k (tokens_of g.back ++ t ∷ rest) f h.first (omega arith) (item_ends _ k (inl g.first.holds))))
          (step_row_comma n e d at done k g.first.holds)
          more.reads;
      closes = more.closes;
      goes_on = more.goes_on;
    }

-- its values, behind its `{`
reads_values : (e : ExpressionTree) (es : ExpressionTrees) (d : Initializing) (at : Pos) (t : Token) (rest : List Token) (ms : List Marked) → Items e es (initializing_nesting d) ms → EndsItem t →
    ReadsRow (at_row_item d at no_expressions) ms t rest d at (expression_then e es)
unfolding spelled_list
reads_values e es d at t rest ms h ends =
    subst (λ all. ReadsRow (at_row_item d at no_expressions) ms t rest d at all) (joined_all (expression_then e es)) (reads_row_items es e d at no_expressions t rest ms h.fit.0 h.fit.1 h.is ends)

-- behind them a comma or none, and the brace
reads_row_end : (e : ExpressionTree) (es : ExpressionTrees) (d : Initializing) (at : Pos) (ts front back : List Marked) (rest : List Token) → ts ≡ front ++ back →
    (c : (Optional (punctuator mark.Comma) ⊙ punctuator mark.CloseBrace) (initializing_nesting d) back) →
    ((t : Token) (rest : List Token) → EndsItem t → ReadsRow (at_row_item d at no_expressions) front t rest d at (expression_then e es)) →
    Reads (at_row_item d at no_expressions) ts (after_item (with_item d (item_row at e es))) rest
reads_row_end e es d at ts front back rest cut c values = elim c.first [
  | inl none ↦
      let r = values c.second.token rest (inr c.second.holds) in
      reads_last front (cut ∙ ap (λ b. front ++ b) (c.cut ∙ ap (λ f. f ++ c.back) none)) c.second r.reads (r.closes c.second.holds)
  | inr comma ↦
      let r = values comma.token (tokens_of c.back ++ rest) (inl comma.holds) in
      reads_sign {Q = punctuator mark.CloseBrace} front cut (record { front = c.front; back = c.back; cut = c.cut; first = comma; second = c.second }) r.reads (r.goes_on comma.holds)
      (reads_one c.second (step_last_row_item d at (expression_then e es) c.second.token c.second.holds))
]

-- Items are read

reads_item : (i : InitializerItemTree) (d : Initializing) (t : Token) (rest : List Token) → EndsItem t → (ms : List Marked) → initializer_item i (initializing_nesting d) ms →
    ReadsTo (at_initializer_item d) ms t rest (at_item_end (with_item d i) t)
reads_item (item_value e) d t rest ends ms h =
    let n : ℕ = initializing_nesting d in
    record {
      state = complete n e (as_whole (as_item d));
      reads = from_operand e n ms h.is (step_item d) ((readable e).reads 1 n ms (as_whole (as_item d)) t rest h.fits h.is (omega arith) (item_ends _ t ends));
      then = step_item_ends n e d t ends;
    }
reads_item (item_row at e es) d t rest ends ms h =
    let g = h.second in
    record {
      state = after_item (with_item d (item_row at e es));
      reads = reads_head h (step_row d h.first.token at h.first.holds)
          (reads_row_end e es d at h.back g.front g.back (t ∷ rest) g.cut g.second (λ t rest ends. reads_values e es d at t rest g.front g.first ends));
      then = refl;
    }

-- these items, this one and those that come after it
abbrev and_more : Initializing → InitializerItemTree → List InitializerItemTree → Initialized
and_more d i more = record { naming = d.naming; brace = d.brace; items = record { first = (ended d.items i).first; more = (ended d.items i).more ++ more } }

reads_items : (more : List InitializerItemTree) (i : InitializerItemTree) (d : Initializing) (t : Token) (rest : List Token) (ms : List Marked) →
    (initializer_item i ⊙ more_initializer_items more) (initializing_nesting d) ms → EndsItem t → ReadsTo (at_initializer_item d) ms t rest (at_item_end (and_more d i more) t)
reads_items [] i d t rest ms h ends =
    let r = reads_item i d t rest ends ms (drop_last h) in
    record {
      state = r.state;
      reads = r.reads;
      then = r.then ∙ ap (λ more. at_item_end (record { naming = d.naming; brace = d.brace; items = record { first = (ended d.items i).first; more = more } }) t) (sym (append-nil (ended d.items i).more));
    }
reads_items (j ∷ more) i d t rest ms h ends =
    let g = h.second in
    let k = g.first.token in
    let all : OneOrMore InitializerItemTree = ended d.items i in
    let r = reads_item i d k (tokens_of g.back ++ t ∷ rest) (inl g.first.holds) h.front h.first in
    let m = reads_items more j (record { naming = d.naming; brace = d.brace; items = all.first ∷ all.more }) t rest g.back g.second ends in
    record {
      state = m.state;
      reads = reads_sign h.front h.cut g r.reads (r.then ∙ step_next_item (with_item d i) k g.first.holds) m.reads;
      then = m.then ∙ ap (λ more. at_item_end (record { naming = d.naming; brace = d.brace; items = record { first = all.first; more = more } }) t) (append_assoc all.more (j ∷ []) more);
    }

-- behind the `{` items, a comma or none, and the brace
pub reads_braced : (items : OneOrMore InitializerItemTree) (d : Naming) (at : Pos) (rest : List Token) (ts : List Marked) →
    ((initializer_item items.first ⊙ more_initializer_items items.more) ⊙ (Optional (punctuator mark.Comma) ⊙ punctuator mark.CloseBrace)) (naming_nesting d) ts →
    Reads (at_initializer_item (record { naming = d; brace = at; items = [] })) ts (after_initializer (with_initializer d (Some (braced at items)))) rest
reads_braced items d at rest ts h = elim h.second.first [
  | inl none ↦
      let c = h.second in
      let r = reads_items items.more items.first (record { naming = d; brace = at; items = [] }) c.second.token rest h.front h.first (inr c.second.holds) in
      reads_last h.front (h.cut ∙ ap (λ b. h.front ++ b) (c.cut ∙ ap (λ f. f ++ c.back) none)) c.second r.reads
      (r.then ∙ step_close_initializer (record { naming = d; brace = at; items = items }) c.second.token c.second.holds)
  | inr comma ↦
      let c = h.second in
      let r = reads_items items.more items.first (record { naming = d; brace = at; items = [] }) comma.token (tokens_of c.back ++ rest) h.front h.first (inl comma.holds) in
      reads_sign {Q = punctuator mark.CloseBrace} h.front h.cut (record { front = c.front; back = c.back; cut = c.cut; first = comma; second = c.second }) r.reads
      (r.then ∙ step_next_item (record { naming = d; brace = at; items = items }) comma.token comma.holds)
      (reads_one c.second (step_last_item d at items c.second.token c.second.holds))
]
