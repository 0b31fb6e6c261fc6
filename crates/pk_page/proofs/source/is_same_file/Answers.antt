use Rattle.std.proofs.Common.{◌≡◌, ℕ, refl, sym, ap, true, ◌∙◌, nat_eq, Option, Some, None}
use Rattle.std.specs.Cmp.Lexicographic.{nat_list_eq_equiv}
use Rattle.std.specs.Option.{option_eq}
use Rattle.std.proofs.lemmas.Bool.{eqb-true, false≢true}
use Rattle.pk_findings.specs.Texts.{file_of}
use Rattle.pk_page.proofs.source.is_same_file.Goals as goal

same_marker : (a b : Option ℕ) → option_eq nat_eq a b ≡ true → a ≡ b
same_marker None None e = refl
same_marker None (Some y) e = absurd (false≢true e)
same_marker (Some x) None e = absurd (false≢true e)
same_marker (Some x) (Some y) e = ap Some (eqb-true x y e)

pub returns-then-eq : goal.returns-then-eq
unfolding file_of
returns-then-eq c =
    let e : c.args.a.marker ≡ c.args.b.marker =
    same_marker c.args.a.marker c.args.b.marker (sym c.eq.ensures ∙ c.if-eq.true) in
    rw e (sym (nat_list_eq_equiv.refl (file_of c.args.text.now c.args.b)))
