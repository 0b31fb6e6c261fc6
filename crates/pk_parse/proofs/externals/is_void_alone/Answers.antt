use Rattle.std.proofs.Common.{◌≡◌, true, false, length, vec_len, sym, ap, ◌∙◌}
use Rattle.std.proofs.lemmas.Bool.{eqb-true, eq-eqb}
use Rattle.pk_ast.specs.Views.{parameter_tree}
use Rattle.pk_grammar.specs.Machine.Signs.{is_void_word}
use Rattle.pk_parse.proofs.ParameterLemmas.{void_word, no_items}
use Rattle.pk_parse.proofs.externals.is_void_alone.Goals as goal
use Rattle.pk_parse.proofs.externals.is_void_alone.Goals.{then-is_words_alone, else-is_words_alone}

pub returns-then-is_empty : goal.returns-then-is_empty
unfolding parameter_tree
returns-then-is_empty c =
    let s = c.args.p.now.specifiers in
    elim c.if-is_words_alone.branch [
      | then-is_words_alone w ↦
          let e = eqb-true (vec_len s.more) 0 (sym w.is_empty.ensures ∙ sym w.value-is ∙ c.if-is_empty.true) in
          let a = c.is_words_alone.ensures.0 w.if-is_words_alone.true in (
            λ t. (void_word s.first.word (sym c.is_void_word.ensures ∙ t), no_items s.more e, a.0, a.1),
            λ v. c.is_void_word.ensures ∙ ap is_void_word v.0,
          )
      | else-is_words_alone w ↦ let e : true ≡ false = sym c.if-is_empty.true ∙ w.value-is ∙ w.if-is_words_alone.false in absurd (cc)
    ]

pub returns-else-is_empty : goal.returns-else-is_empty
unfolding parameter_tree
returns-else-is_empty c =
    let s = c.args.p.now.specifiers in (
      λ t. let e : true ≡ false = sym t ∙ c.if-is_empty.false in absurd (cc),
      λ v. elim c.if-is_words_alone.branch [
        | then-is_words_alone w ↦ w.value-is ∙ w.is_empty.ensures ∙ eq-eqb (vec_len s.more) 0 (s.more.ok.0 ∙ ap length v.1)
        | else-is_words_alone w ↦ let e : false ≡ true = sym w.if-is_words_alone.false ∙ c.is_words_alone.ensures.1 (v.2, v.3) in absurd (cc)
      ],
    )
