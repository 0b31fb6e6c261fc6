use Rattle.std.specs.Prelude.{◌+◌, List, Option, ℤ}
use Rattle.std.proofs.Common.{◌∙◌, ap, refl, set, subst, sym}
use Rattle.pk_octmat.specs.Half.{spot}
use Rattle.pk_octmat.proofs.Pair.{Paired, paired_from}
use Rattle.pk_octmat.proofs.matrix.write_pair.Goals as goal

pub returns-clause-kept : goal.returns-clause-kept
returns-clause-kept c =
    (subst (λ (zs : List (Option ℤ)). Paired c.args.d c.args.p c.args.j c.args.first c.args.second c.args.cells.now zs)
    (sym (c.put-2.ensures ∙ ap (λ (ys : List (Option ℤ)). set ys (spot (c.args.p + 1) c.args.j) c.args.second) c.put.ensures)) (paired_from c.args.d c.args.p c.args.j (spot c.args.p c.args.j) (spot (c.args.p + 1) c.args.j) c.args.cells.now c.args.first c.args.second c.requires.pairs c.requires.size c.requires.place c.requires.even c.requires.column refl refl)).kept

pub returns-clause-first : goal.returns-clause-first
returns-clause-first c =
    (subst (λ (zs : List (Option ℤ)). Paired c.args.d c.args.p c.args.j c.args.first c.args.second c.args.cells.now zs)
    (sym (c.put-2.ensures ∙ ap (λ (ys : List (Option ℤ)). set ys (spot (c.args.p + 1) c.args.j) c.args.second) c.put.ensures)) (paired_from c.args.d c.args.p c.args.j (spot c.args.p c.args.j) (spot (c.args.p + 1) c.args.j) c.args.cells.now c.args.first c.args.second c.requires.pairs c.requires.size c.requires.place c.requires.even c.requires.column refl refl)).first

pub returns-clause-second : goal.returns-clause-second
returns-clause-second c =
    (subst (λ (zs : List (Option ℤ)). Paired c.args.d c.args.p c.args.j c.args.first c.args.second c.args.cells.now zs)
    (sym (c.put-2.ensures ∙ ap (λ (ys : List (Option ℤ)). set ys (spot (c.args.p + 1) c.args.j) c.args.second) c.put.ensures)) (paired_from c.args.d c.args.p c.args.j (spot c.args.p c.args.j) (spot (c.args.p + 1) c.args.j) c.args.cells.now c.args.first c.args.second c.requires.pairs c.requires.size c.requires.place c.requires.even c.requires.column refl refl)).second

pub returns-clause-own : goal.returns-clause-own
returns-clause-own c =
    (subst (λ (zs : List (Option ℤ)). Paired c.args.d c.args.p c.args.j c.args.first c.args.second c.args.cells.now zs)
    (sym (c.put-2.ensures ∙ ap (λ (ys : List (Option ℤ)). set ys (spot (c.args.p + 1) c.args.j) c.args.second) c.put.ensures)) (paired_from c.args.d c.args.p c.args.j (spot c.args.p c.args.j) (spot (c.args.p + 1) c.args.j) c.args.cells.now c.args.first c.args.second c.requires.pairs c.requires.size c.requires.place c.requires.even c.requires.column refl refl)).own

pub returns-clause-others : goal.returns-clause-others
returns-clause-others c =
    (subst (λ (zs : List (Option ℤ)). Paired c.args.d c.args.p c.args.j c.args.first c.args.second c.args.cells.now zs)
    (sym (c.put-2.ensures ∙ ap (λ (ys : List (Option ℤ)). set ys (spot (c.args.p + 1) c.args.j) c.args.second) c.put.ensures)) (paired_from c.args.d c.args.p c.args.j (spot c.args.p c.args.j) (spot (c.args.p + 1) c.args.j) c.args.cells.now c.args.first c.args.second c.requires.pairs c.requires.size c.requires.place c.requires.even c.requires.column refl refl)).others
