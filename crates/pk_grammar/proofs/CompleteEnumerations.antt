-- Each enumeration of the grammar is read: what the parser does at each of its tokens.
use Rattle.std.proofs.Common.{◌≡◌, ℕ, ◌⊎◌, inl, inr, Option, Some, None, false, true, List, [], ◌∷◌, ◌++◌, sym, ap, subst, ◌∙◌, arith, append_assoc, append-nil}
use Rattle.pk_lex.specs.declared.token.Token.{Token}
use Rattle.pk_lex.specs.declared.token.Kind.TheVariants as kind
use Rattle.pk_lex.specs.declared.token.Keyword.TheVariants as key
use Rattle.pk_lex.specs.declared.token.Punctuator.TheVariants as mark
use Rattle.pk_ast.specs.declared.declarations.Specifier.{Specifier}
use Rattle.pk_ast.specs.declared.declarations.SpecifierWord.TheVariants as word
use Rattle.pk_ast.specs.declared.expressions.Identifier.{Identifier}
use Rattle.pk_ast.specs.Trees.{OneOrMore, ExpressionTree, EnumeratorTree, EnumerationTree, ExternalTree}
use Rattle.pk_ast.specs.Lists.{one, ended}
use Rattle.pk_grammar.specs.declared.signs.Fixed.TheVariants as fixed
use Rattle.pk_grammar.specs.Languages.{Marked, Optional, ◌⊙◌, identifier_of}
use Rattle.pk_grammar.specs.Grammar.{IsWord, AreConst, punctuator, specifier_list, enumerator_value, enumerator, more_enumerators, braces}
use Rattle.pk_grammar.specs.Machine.Signs.{is_fixed}
use Rattle.pk_grammar.specs.Machine.States.{Site, EnumerationSite, in_declaration, in_typedef, Enumerating, Enumerated, as_enumerator, as_whole, State, operand, complete, after_specifiers, type_specifiers, after_name, after_type_name, at_enumerator, after_enumerator_name, after_braces}
use Rattle.pk_grammar.specs.Machine.Steps.{taken, refused, reduced, more_specifiers, more_typedef, specifier_at, site_nesting, enumeration_nesting, enumerating_nesting, with_enumerator, after_enumerator, next_enumerator, close_braces, with_qualifier, behind_braces, end_alone, step, may_open}
use Rattle.pk_grammar.proofs.SpellsWords.{drop_last}
use Rattle.pk_grammar.proofs.WordLemmas.{no_sign}
use Rattle.pk_grammar.proofs.CompleteLists.{tokens_of, Reads, reads_none, reads_head, reads_sign}
use Rattle.pk_grammar.proofs.CompleteSigns.{sign_comma, sign_close_brace}
use Rattle.pk_grammar.proofs.CompleteOperands.{Ends, ends_at_sign, same_false, same_true}
use Rattle.pk_grammar.proofs.CompleteExpressions.{readable, ReadsTo}

-- The braces open

pub step_open_braces : (s : Site) (specs : OneOrMore Specifier) (t : Token) → may_open specs ≡ true → t.kind ≡ kind.Punctuator mark.OpenBrace →
    step (after_specifiers s specs) t ≡ taken (site_nesting s) (at_enumerator (record { site = in_declaration s; specifiers = specs; enumerators = [] }))
step_open_braces s specs t h e = ap (λ w. more_specifiers s specs t w) (no_sign specs t mark.OpenBrace e) ∙ same_true (is_fixed fixed.OpenBrace t.kind) _ _ (ap (λ k. is_fixed fixed.OpenBrace k) e)
    ∙ same_true (may_open specs) _ _ h

pub step_open_type_braces : (done : List ExternalTree) (specs : OneOrMore Specifier) (t : Token) → may_open specs ≡ true → t.kind ≡ kind.Punctuator mark.OpenBrace →
    step (type_specifiers done specs) t ≡ taken 0 (at_enumerator (record { site = in_typedef done; specifiers = specs; enumerators = [] }))
step_open_type_braces done specs t h e = ap (λ w. more_typedef done specs t w) (no_sign specs t mark.OpenBrace e) ∙ same_true (is_fixed fixed.OpenBrace t.kind) _ _ (ap (λ k. is_fixed fixed.OpenBrace k) e)
    ∙ same_true (may_open specs) _ _ h

-- and are refused
pub step_no_braces : (s : Site) (specs : OneOrMore Specifier) (t : Token) → may_open specs ≡ false → t.kind ≡ kind.Punctuator mark.OpenBrace →
    step (after_specifiers s specs) t ≡ refused
step_no_braces s specs t h e = ap (λ w. more_specifiers s specs t w) (no_sign specs t mark.OpenBrace e) ∙ same_true (is_fixed fixed.OpenBrace t.kind) _ _ (ap (λ k. is_fixed fixed.OpenBrace k) e)
    ∙ same_false (may_open specs) _ _ h

pub step_no_type_braces : (done : List ExternalTree) (specs : OneOrMore Specifier) (t : Token) → may_open specs ≡ false → t.kind ≡ kind.Punctuator mark.OpenBrace →
    step (type_specifiers done specs) t ≡ refused
step_no_type_braces done specs t h e = ap (λ w. more_typedef done specs t w) (no_sign specs t mark.OpenBrace e) ∙ same_true (is_fixed fixed.OpenBrace t.kind) _ _ (ap (λ k. is_fixed fixed.OpenBrace k) e)
    ∙ same_false (may_open specs) _ _ h

-- Enumerators

pub step_enumerator : (d : Enumerating) (t : Token) → t.kind ≡ kind.Name → step (at_enumerator d) t ≡ taken (enumerating_nesting d) (after_enumerator_name d (identifier_of t))
step_enumerator d t e = rw e

-- the `}` behind a comma
pub step_last_enumerator : (s : EnumerationSite) (specs : OneOrMore Specifier) (xs : OneOrMore EnumeratorTree) (t : Token) → t.kind ≡ kind.Punctuator mark.CloseBrace →
    step (at_enumerator (record { site = s; specifiers = specs; enumerators = xs.first ∷ xs.more })) t
    ≡ taken (enumeration_nesting s) (after_braces s specs (record { enumerators = xs; qualifiers = [] }))
step_last_enumerator s specs xs t e = rw e

pub step_no_first_enumerator : (s : EnumerationSite) (specs : OneOrMore Specifier) (t : Token) → is_fixed fixed.Name t.kind ≡ false →
    step (at_enumerator (record { site = s; specifiers = specs; enumerators = [] })) t ≡ refused
step_no_first_enumerator s specs t e = same_false (is_fixed fixed.Name t.kind) _ _ e

pub step_no_enumerator : (s : EnumerationSite) (specs : OneOrMore Specifier) (xs : OneOrMore EnumeratorTree) (t : Token) → is_fixed fixed.Name t.kind ≡ false → is_fixed fixed.CloseBrace t.kind ≡ false →
    step (at_enumerator (record { site = s; specifiers = specs; enumerators = xs.first ∷ xs.more })) t ≡ refused
step_no_enumerator s specs xs t e f = same_false (is_fixed fixed.Name t.kind) _ _ e ∙ same_false (is_fixed fixed.CloseBrace t.kind) _ _ f

pub step_enumerator_value : (d : Enumerating) (id : Identifier) (t : Token) → t.kind ≡ kind.Punctuator mark.Assign →
    step (after_enumerator_name d id) t ≡ taken (enumerating_nesting d) (operand (enumerating_nesting d) (as_whole (as_enumerator d id)))
step_enumerator_value d id t e = rw e

pub step_no_value : (d : Enumerating) (id : Identifier) (t : Token) → is_fixed fixed.Assign t.kind ≡ false → step (after_enumerator_name d id) t ≡ after_enumerator (with_enumerator d id None) t
step_no_value d id t e = same_false (is_fixed fixed.Assign t.kind) _ _ e

-- a token behind an item of a list in braces
abbrev pub EndsItem : Token → Type 0
EndsItem t = (t.kind ≡ kind.Punctuator mark.Comma) ⊎ (t.kind ≡ kind.Punctuator mark.CloseBrace)

pub item_ends : {level : ℕ} (c : _) (t : Token) → EndsItem t → Ends level c t.kind
item_ends c t h = elim h [ inl e ↦ ends_at_sign _ _ t sign_comma e (omega arith) | inr e ↦ ends_at_sign _ _ t sign_close_brace e (omega arith) ]

pub step_value_ends : (n : ℕ) (e : ExpressionTree) (d : Enumerating) (id : Identifier) (t : Token) → EndsItem t →
    step (complete n e (as_whole (as_enumerator d id))) t ≡ after_enumerator (with_enumerator d id (Some e)) t
unfolding reduced
step_value_ends n e d id t h = elim h [ inl e ↦ rw e | inr e ↦ rw e ]

pub step_next_enumerator : (d : Enumerated) (t : Token) → t.kind ≡ kind.Punctuator mark.Comma → after_enumerator d t ≡ next_enumerator d
step_next_enumerator d t e = rw e

pub step_close_braces : (d : Enumerated) (t : Token) → t.kind ≡ kind.Punctuator mark.CloseBrace → after_enumerator d t ≡ close_braces d
step_close_braces d t e = rw e

pub step_no_more_enumerators : (d : Enumerated) (t : Token) → is_fixed fixed.Comma t.kind ≡ false → is_fixed fixed.CloseBrace t.kind ≡ false → after_enumerator d t ≡ refused
step_no_more_enumerators d t e f = same_false (is_fixed fixed.Comma t.kind) _ _ e ∙ same_false (is_fixed fixed.CloseBrace t.kind) _ _ f

-- Behind the braces

pub step_qualifier : (s : EnumerationSite) (specs : OneOrMore Specifier) (e : EnumerationTree) (t : Token) → t.kind ≡ kind.Keyword key.Const →
    step (after_braces s specs e) t ≡ taken (enumeration_nesting s) (after_braces s specs (with_qualifier e (specifier_at t word.Const)))
step_qualifier s specs e t is = same_true (is_fixed fixed.Const t.kind) _ _ (ap (λ k. is_fixed fixed.Const k) is)

pub step_behind_braces : (s : EnumerationSite) (specs : OneOrMore Specifier) (e : EnumerationTree) (t : Token) → is_fixed fixed.Const t.kind ≡ false →
    step (after_braces s specs e) t ≡ behind_braces s specs e t
step_behind_braces s specs e t is = same_false (is_fixed fixed.Const t.kind) _ _ is

pub step_alone : (s : Site) (specs : OneOrMore Specifier) (e : EnumerationTree) (t : Token) → t.kind ≡ kind.Punctuator mark.Semicolon →
    step (after_braces (in_declaration s) specs e) t ≡ end_alone s specs e
step_alone s specs e t is = rw is

pub step_name_behind : (s : Site) (specs : OneOrMore Specifier) (e : EnumerationTree) (t : Token) → t.kind ≡ kind.Name →
    step (after_braces (in_declaration s) specs e) t
    ≡ taken (site_nesting s) (after_name (record { site = s; specifiers = specs; enumeration = Some e; declarators = [] }) (identifier_of t))
step_name_behind s specs e t is = rw is

pub step_no_name_behind : (s : Site) (specs : OneOrMore Specifier) (e : EnumerationTree) (t : Token) → is_fixed fixed.Const t.kind ≡ false → is_fixed fixed.Semicolon t.kind ≡ false →
    is_fixed fixed.Name t.kind ≡ false → step (after_braces (in_declaration s) specs e) t ≡ refused
step_no_name_behind s specs e t c f n =
    same_false (is_fixed fixed.Const t.kind) _ _ c ∙ same_false (is_fixed fixed.Semicolon t.kind) _ _ f ∙ same_false (is_fixed fixed.Name t.kind) _ _ n

pub step_type_behind : (done : List ExternalTree) (specs : OneOrMore Specifier) (e : EnumerationTree) (t : Token) → t.kind ≡ kind.Name →
    step (after_braces (in_typedef done) specs e) t ≡ taken 0 (after_type_name done specs (Some e) (one (identifier_of t)))
step_type_behind done specs e t is = rw is

pub step_no_type_behind : (done : List ExternalTree) (specs : OneOrMore Specifier) (e : EnumerationTree) (t : Token) → is_fixed fixed.Const t.kind ≡ false → is_fixed fixed.Name t.kind ≡ false →
    step (after_braces (in_typedef done) specs e) t ≡ refused
step_no_type_behind done specs e t c n = same_false (is_fixed fixed.Const t.kind) _ _ c ∙ same_false (is_fixed fixed.Name t.kind) _ _ n

-- Enumerators are read

no_assign : (t : Token) → EndsItem t → is_fixed fixed.Assign t.kind ≡ false
no_assign t h = elim h [ inl e ↦ rw e | inr e ↦ rw e ]

reads_value : (v : Option ExpressionTree) (d : Enumerating) (id : Identifier) (t : Token) (rest : List Token) → EndsItem t → (ms : List Marked) → enumerator_value v (enumerating_nesting d) ms →
    ReadsTo (after_enumerator_name d id) ms t rest (after_enumerator (with_enumerator d id v) t)
reads_value None d id t rest ends ms h = record { state = after_enumerator_name d id; reads = reads_none h; then = step_no_value d id t (no_assign t ends) }
reads_value (Some e) d id t rest ends ms h =
    let n : ℕ = enumerating_nesting d in
    record {
      state = complete n e (as_whole (as_enumerator d id));
      reads = reads_head h (step_enumerator_value d id h.first.token h.first.holds)
          ((readable e).reads 2 n h.back (as_whole (as_enumerator d id)) t rest h.second.fits h.second.is (omega arith) (item_ends _ t ends));
      then = step_value_ends n e d id t ends;
    }

reads_enumerator : (x : EnumeratorTree) (d : Enumerating) (t : Token) (rest : List Token) → EndsItem t → (ms : List Marked) → enumerator x (enumerating_nesting d) ms →
    ReadsTo (at_enumerator d) ms t rest (after_enumerator (with_enumerator d x.name x.value) t)
reads_enumerator x d t rest ends ms h =
    let v = reads_value x.value d x.name t rest ends h.back h.second in
    record {
      state = v.state;
      reads = reads_head h (step_enumerator d h.first.token h.first.holds.0 ∙ ap (λ id. taken (enumerating_nesting d) (after_enumerator_name d id)) h.first.holds.1) v.reads;
      then = v.then;
    }

-- these enumerators, this one and those that come after it
abbrev and_more : Enumerating → EnumeratorTree → List EnumeratorTree → Enumerated
and_more d x more =
    record { site = d.site; specifiers = d.specifiers; enumerators = record { first = (ended d.enumerators x).first; more = (ended d.enumerators x).more ++ more } }

reads_enumerators : (more : List EnumeratorTree) (x : EnumeratorTree) (d : Enumerating) (t : Token) (rest : List Token) (ms : List Marked) →
    (enumerator x ⊙ more_enumerators more) (enumerating_nesting d) ms → EndsItem t → ReadsTo (at_enumerator d) ms t rest (after_enumerator (and_more d x more) t)
reads_enumerators [] x d t rest ms h ends =
    let r = reads_enumerator x d t rest ends ms (drop_last h) in
    record {
      state = r.state;
      reads = r.reads;
      then = r.then ∙ ap (λ more. after_enumerator (record { site = d.site; specifiers = d.specifiers; enumerators = record { first = (ended d.enumerators x).first; more = more } }) t)
          (sym (append-nil (ended d.enumerators x).more));
    }
reads_enumerators (y ∷ more) x d t rest ms h ends =
    let g = h.second in
    let k = g.first.token in
    let xs : OneOrMore EnumeratorTree = ended d.enumerators x in
    let r = reads_enumerator x d k (tokens_of g.back ++ t ∷ rest) (inl g.first.holds) h.front h.first in
    let m = reads_enumerators more y (record { site = d.site; specifiers = d.specifiers; enumerators = xs.first ∷ xs.more }) t rest g.back g.second ends in
    record {
      state = m.state;
      reads = reads_sign h.front h.cut g r.reads (r.then ∙ step_next_enumerator (with_enumerator d x.name x.value) k g.first.holds) m.reads;
      then = m.then ∙ ap (λ all. after_enumerator (record { site = d.site; specifiers = d.specifiers; enumerators = record { first = xs.first; more = all } }) t) (append_assoc xs.more (y ∷ []) more);
    }

-- The `const`s behind the braces are read

abbrev with_all : EnumerationTree → List Specifier → EnumerationTree
with_all e qs = record { enumerators = e.enumerators; qualifiers = e.qualifiers ++ qs }

reads_qualifiers : (qs : List Specifier) (s : EnumerationSite) (specs : OneOrMore Specifier) (e : EnumerationTree) (ms : List Marked) (rest : List Token) → AreConst qs →
    specifier_list qs (enumeration_nesting s) ms → Reads (after_braces s specs e) ms (after_braces s specs (with_all e qs)) rest
reads_qualifiers [] s specs e ms rest c h =
    subst (λ qs. Reads (after_braces s specs e) ms (after_braces s specs (record { enumerators = e.enumerators; qualifiers = qs })) rest) (sym (append-nil e.qualifiers)) (reads_none h)
reads_qualifiers (q ∷ qs) s specs e ms rest c h =
    let t = h.first.token in
    let n : ℕ = enumeration_nesting s in
    let is : IsWord word.Const t = subst (λ w. IsWord w t) c.0 h.first.holds.0 in
    reads_head h (step_qualifier s specs e t is ∙ ap (λ p. taken n (after_braces s specs (with_qualifier e (record { word = word.Const; at = p })))) h.first.holds.1
    ∙ ap (λ w. taken n (after_braces s specs (with_qualifier e (record { word = w; at = q.at })))) (sym c.0))
    (subst (λ all. Reads (after_braces s specs (with_qualifier e q)) h.back (after_braces s specs (record { enumerators = e.enumerators; qualifiers = all })) rest) (append_assoc e.qualifiers (q ∷ []) qs)
    (reads_qualifiers qs s specs (with_qualifier e q) h.back rest c.1 h.second))

-- behind the enumerators: a comma or none, the brace and the `const`s
reads_end : (e : EnumerationTree) (s : EnumerationSite) (specs : OneOrMore Specifier) (q : State) (ts front back : List Marked) (rest : List Token) → ts ≡ front ++ back → AreConst e.qualifiers →
    (Optional (punctuator mark.Comma) ⊙ punctuator mark.CloseBrace ⊙ specifier_list e.qualifiers) (enumeration_nesting s) back →
    ((t : Token) (rest : List Token) → EndsItem t → ReadsTo q front t rest (after_enumerator (record { site = s; specifiers = specs; enumerators = e.enumerators }) t)) →
    Reads q ts (after_braces s specs e) rest
reads_end e s specs q ts front back rest cut consts c items = elim c.first [
  | inl none ↦
      let g = c.second in
      let r = items g.first.token (tokens_of g.back ++ rest) (inr g.first.holds) in
      reads_sign front (cut ∙ ap (λ b. front ++ b) (c.cut ∙ ap (λ f. f ++ c.back) none)) g r.reads (r.then ∙ step_close_braces (record { site = s; specifiers = specs; enumerators = e.enumerators }) g.first.token g.first.holds)
      (reads_qualifiers e.qualifiers s specs (record { enumerators = e.enumerators; qualifiers = [] }) g.back rest consts g.second)
  | inr comma ↦
      let g = c.second in
      let r = items comma.token (tokens_of c.back ++ rest) (inl comma.holds) in
      reads_sign {Q = punctuator mark.CloseBrace ⊙ specifier_list e.qualifiers} front cut (record { front = c.front; back = c.back; cut = c.cut; first = comma; second = g }) r.reads
      (r.then ∙ step_next_enumerator (record { site = s; specifiers = specs; enumerators = e.enumerators }) comma.token comma.holds)
      (reads_head g (step_last_enumerator s specs e.enumerators g.first.token g.first.holds)
      (reads_qualifiers e.qualifiers s specs (record { enumerators = e.enumerators; qualifiers = [] }) g.back rest consts g.second))
]

-- An enumeration's braces are read

pub reads_braces : (e : EnumerationTree) (s : EnumerationSite) (specs : OneOrMore Specifier) (q : State) →
    ((t : Token) → t.kind ≡ kind.Punctuator mark.OpenBrace → step q t ≡ taken (enumeration_nesting s) (at_enumerator (record { site = s; specifiers = specs; enumerators = [] }))) →
    AreConst e.qualifiers → (ms : List Marked) (rest : List Token) → braces e (enumeration_nesting s) ms → Reads q ms (after_braces s specs e) rest
reads_braces e s specs q opens consts ms rest h =
    let g = h.second in
    let d : Enumerating = record { site = s; specifiers = specs; enumerators = [] } in
    reads_head h (opens h.first.token h.first.holds)
    (reads_end e s specs (at_enumerator d) h.back g.front g.back rest g.cut consts g.second
    (λ t rest ends. reads_enumerators e.enumerators.more e.enumerators.first d t rest g.front g.first ends))
