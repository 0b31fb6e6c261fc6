-- Layouts of graphs can be told: a variable with a slot for each number has few, and the octagons are over scalars.
use Rattle.std.proofs.Common.{◌≡◌, ◌<◌, ◌+◌, ◌^◌, ℕ, zero, suc, refl, ap, ◌∙◌, sym, Bool, true, false, if◌then◌else◌, List, [], ◌∷◌, length, slice_index_or, Option, Some, None, arith}
use Rattle.std.specs.Prelude.{is_some}
use Rattle.std.proofs.Math.ListN.{get_or-map}
use Rattle.std.proofs.lemmas.Bool.{leb-true}
use Rattle.pk_graph.specs.Kinds.{Kind, Kinds, count_of, kind_at}
use Rattle.pk_graph.specs.Graphs.{VariableOf, GraphOf, no_variable, variable_at, kinds_of}
use Rattle.pk_octagons.proofs.Chosen.{chosen_there}
use Rattle.pk_state.specs.Layouts.{Layout, is_spread}
use Rattle.pk_transfer.specs.Slots.{is_small, further_count, further_from}
use Rattle.pk_transfer.specs.Trees.{IsOver}
use Rattle.pk_report.specs.Reports.{no_state}
use Rattle.pk_show_laws.specs.Tellable.{IsTellableLayout}

spread_in : (at : ℕ) (ks : Kinds) (x : ℕ) → is_some (slice_index_or (further_from at ks) x None) ≡ is_small (kind_at ks x).length
spread_in at [] x = refl
spread_in at (k ∷ ks) zero = told (is_small k.length)
  where
    told : (b : Bool) → is_some (if b then Some at else None) ≡ b
    told true = refl
    told false = refl
spread_in at (k ∷ ks) (suc x) = spread_in (at + further_count k.length) ks x

spread_is : (ks : Kinds) (l : Layout) → IsOver ks l → (x : ℕ) → is_spread l x ≡ is_small (kind_at ks x).length
spread_is ks l over x = ap (λ (f : List (Option ℕ)). is_some (slice_index_or f x None)) over.further ∙ spread_in (length ks) ks x

small : (o : Option ℕ) → is_small o ≡ true → count_of o < 2 ^ 64
small None e = omega arith
small (Some n) e = let few = leb-true n 8 e in omega (arith, few)

pub layout_told : (g : GraphOf) (l : Layout) → IsOver (kinds_of g) l → IsTellableLayout g l
layout_told g l over = record {
  few = λ x e. small (variable_at g x).kind.length (sym (spread x) ∙ e);
  apart = λ x e. spread_is (kinds_of g) l over x ∙ ap is_small (over.scalars x (chosen_there l.packs x e)).scalar;
}
  where
    spread : (x : ℕ) → is_spread l x ≡ is_small (variable_at g x).kind.length
    spread x = spread_is (kinds_of g) l over x ∙ ap (λ (k : Kind). is_small k.length) (get_or-map (λ (v : VariableOf). v.kind) g.variables x no_variable)

pub nothing_told : (g : GraphOf) → IsTellableLayout g no_state.layout
nothing_told g = record { few = λ x e. absurd (cc e); apart = λ x e. absurd (cc e) }
