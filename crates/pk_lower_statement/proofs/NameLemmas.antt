-- The name of an object of a function.
use Rattle.std.proofs.Common.{◌≡◌, ◌<◌, ◌≤◌, ℕ, List, length, get_or, Bool, if◌then◌else◌, sym, ◌∙◌, ap, subst, map}
use Rattle.std.specs.Prelude.{Option, Some, None}
use Rattle.std.specs.Option.{is_some}
use Rattle.std.proofs.lemmas.List.{get_or_past, length-map}
use Rattle.pk_ctypes.specs.declared.types.IntType.{IntType}
use Rattle.pk_typed.specs.declared.units.Local.{Local}
use Rattle.pk_typed.specs.Trees.{LocalTree}
use Rattle.pk_typed.specs.Views.{local_tree}
use Rattle.pk_graph.specs.Graphs.{VariableOf}
use Rattle.pk_draft.specs.Drafts.{DraftOf, with_name, with_object, inner}
use Rattle.pk_lower_row.specs.Contexts.{Context, local_at}
use Rattle.pk_lower_row.proofs.ContextLemmas.{local_read}
use Rattle.pk_lower_statement.specs.Statements.{named, introduced}
use Rattle.pk_typed.specs.Defaults.{no_local}

pub local_name : (xs : List Local) (i : ℕ) (x : Local) → i < length xs → (get_or xs i x).name ≡ (get_or (map local_tree xs) i no_local).name
unfolding local_tree
local_name xs i x lt = ap (λ (y : LocalTree). y.name) (local_read xs i x lt)

pub local_past : (xs : List Local) (i : ℕ) → length xs ≤ i → None ≡ (get_or (map local_tree xs) i no_local).name
unfolding local_tree
local_past xs i le = sym (ap (λ (y : LocalTree). y.name) (get_or_past (map local_tree xs) i no_local (subst (λ (n : ℕ). n ≤ i) (sym (length-map xs local_tree)) le)))

named_if : (o : Option (List ℕ)) (b : Bool) (n : ℕ) (d : DraftOf ℕ) → b ≡ is_some o → if◌then◌else◌ b (with_name n d) d ≡ named o n d
named_if None b n d e = ap (λ (z : Bool). if◌then◌else◌ z (with_name n d) d) e
named_if (Some x) b n d e = ap (λ (z : Bool). if◌then◌else◌ z (with_name n d) d) e

pub introduced_is : (c : Context) (i n : ℕ) (o : Option (List ℕ)) (b : Bool) (v : VariableOf) (t : IntType) (m : Option ℕ) (d0 d1 d2 : DraftOf ℕ)
    → n ≡ d0.variables → o ≡ (local_at c i).name → b ≡ is_some o → t ≡ (local_at c i).int_type → m ≡ (local_at c i).length → v ≡ inner o t m c.path → d1 ≡ with_object i v d0 → d2 ≡ if◌then◌else◌ b (with_name n d1) d1
    → d2 ≡ introduced c i d0
introduced_is c i n o b v t m d0 d1 d2 en eo eb et em ev e1 e2 =
    let x : LocalTree = local_at c i in
    e2 ∙ (named_if o b n d1 eb
    ∙ (ap (named o n) (e1 ∙ ap (λ (w : VariableOf). with_object i w d0) (ev ∙ (ap (λ (w : IntType). inner o w m c.path) et ∙ ap (λ (w : Option ℕ). inner o x.int_type w c.path) em)))
    ∙ (ap (λ (w : Option (List ℕ)). named w n (with_object i (inner w x.int_type x.length c.path) d0)) eo
    ∙ ap (λ (w : ℕ). named x.name w (with_object i (inner x.name x.int_type x.length c.path) d0)) en)))
