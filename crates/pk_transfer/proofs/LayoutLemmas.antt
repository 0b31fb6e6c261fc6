-- The slots of a graph's variables, variable by variable.
use Rattle.std.proofs.Common.{◌≡◌, ◌<◌, ◌+◌, ℕ, ap, ◌∙◌, sym, refl, List, [], ◌∷◌, ◌++◌, length, take, map, arith}
use Rattle.std.specs.Prelude.{Option, Some, None, if◌then◌else◌}
use Rattle.std.specs.List.{slice_index_or, flat_map}
use Rattle.std.proofs.lemmas.List.{map-append, take_more, length-append, append_assoc, append-nil, length-map}
use Rattle.std.proofs.lemmas.List.Concat.{flat_map-append}
use Rattle.pk_ctypes.specs.declared.types.IntType.{IntType}
use Rattle.pk_graph.specs.declared.graphs.Variable.{Variable}
use Rattle.pk_graph.specs.Kinds.{Kind, Kinds}
use Rattle.pk_graph.specs.Graphs.{VariableOf, GraphOf, variable_view, kinds_of}
use Rattle.pk_state.specs.Layouts.{Layout}
use Rattle.pk_transfer.specs.Slots.{is_small, further_count, further_types, slot_types, further_from, further_of}
use Rattle.pk_transfer.specs.Graphs.{kinds_shown, own_types, layout_over}
use Rattle.pk_transfer.proofs.Slotting.{further_length}

kinds_next : (vs : List Variable) (k : ℕ) (d : Variable) → k < length vs → kinds_shown (take (k + 1) vs) ≡ kinds_shown (take k vs) ++ (variable_view (slice_index_or vs k d)).kind ∷ []
kinds_next vs k d h = ap kinds_shown (take_more vs k d h) ∙ map-append (λ (v : Variable). (variable_view v).kind) (take k vs) (slice_index_or vs k d ∷ [])

pub types_next : (vs : List Variable) (k : ℕ) (d : Variable) (old new : List IntType) → k < length vs → old ≡ own_types (take k vs) → new ≡ old ++ (variable_view (slice_index_or vs k d)).kind.int_type ∷ []
    → new ≡ own_types (take (k + 1) vs)
types_next vs k d old new h so made =
    made ∙ ap (λ (ts : List IntType). ts ++ (variable_view (slice_index_or vs k d)).kind.int_type ∷ []) so
    ∙ sym (ap (λ (ks : Kinds). map (λ (k : Kind). k.int_type) ks) (kinds_next vs k d h) ∙ map-append (λ (k : Kind). k.int_type) (kinds_shown (take k vs)) ((variable_view (slice_index_or vs k d)).kind ∷ []))

-- the further types of one kind more
pub further_next : (vs : List Variable) (k : ℕ) (d : Variable) (first old new : List IntType) → k < length vs → old ≡ first ++ flat_map further_types (kinds_shown (take k vs)) → new ≡ old ++ further_types (variable_view (slice_index_or vs k d)).kind
    → new ≡ first ++ flat_map further_types (kinds_shown (take (k + 1) vs))
further_next vs k d first old new h so made =
    let x = (variable_view (slice_index_or vs k d)).kind in
    let ks = kinds_shown (take k vs) in
    made ∙ ap (λ (ts : List IntType). ts ++ further_types x) so ∙ append_assoc first (flat_map further_types ks) (further_types x)
    ∙ ap (λ (ts : List IntType). first ++ ts)
    (sym (ap (flat_map further_types) (kinds_next vs k d h) ∙ flat_map-append further_types ks (x ∷ []) ∙ ap (λ (ts : List IntType). flat_map further_types ks ++ ts) (append-nil (further_types x))))

-- where the slots of one kind more begin
from_append : (ks : Kinds) (x : Kind) (at : ℕ) → further_from at (ks ++ x ∷ []) ≡ further_from at ks ++ (if is_small x.length then Some (at + length (flat_map further_types ks)) else None) ∷ []
from_append [] x at = let here : at ≡ at + 0 = omega arith in ap (λ (n : ℕ). (if is_small x.length then Some n else None) ∷ []) here
from_append (k ∷ ks) x at =
    let rest = from_append ks x (at + further_count k.length) in
    let there : (at + further_count k.length) + length (flat_map further_types ks) ≡ at + length (further_types k ++ flat_map further_types ks) = omega (arith, length-append (further_types k) (flat_map further_types ks), further_length k) in
    ap (λ (ns : List (Option ℕ)). (if is_small k.length then Some at else None) ∷ ns) (rest ∙ ap (λ (n : ℕ). further_from (at + further_count k.length) ks ++ (if is_small x.length then Some n else None) ∷ []) there)

pub from_next : (vs : List Variable) (k : ℕ) (d : Variable) (at n : ℕ) (old new : List (Option ℕ)) → k < length vs → old ≡ further_from at (kinds_shown (take k vs)) → n ≡ at + length (flat_map further_types (kinds_shown (take k vs)))
    → new ≡ old ++ (if is_small (variable_view (slice_index_or vs k d)).kind.length then Some n else None) ∷ [] → new ≡ further_from at (kinds_shown (take (k + 1) vs))
from_next vs k d at n old new h so is made =
    let x = (variable_view (slice_index_or vs k d)).kind in
    made ∙ ap (λ (ns : List (Option ℕ)). ns ++ (if is_small x.length then Some n else None) ∷ []) so
    ∙ ap (λ (m : ℕ). further_from at (kinds_shown (take k vs)) ++ (if is_small x.length then Some m else None) ∷ []) is
    ∙ sym (ap (further_from at) (kinds_next vs k d h) ∙ from_append (kinds_shown (take k vs)) x at)

-- ---- of a graph

map_map : {A B C : Type 0} (f : A → B) (g : B → C) (xs : List A) → map g (map f xs) ≡ map (λ (x : A). g (f x)) xs
map_map f g [] = refl
map_map f g (x ∷ xs) = ap (λ ys. g (f x) ∷ ys) (map_map f g xs)

pub kinds_are : (g : GraphOf) (vs : List Variable) → map variable_view vs ≡ g.variables → kinds_shown vs ≡ kinds_of g
kinds_are g vs are = sym (map_map variable_view (λ (x : VariableOf). x.kind) vs) ∙ ap (λ (xs : List VariableOf). map (λ (x : VariableOf). x.kind) xs) are

pub slots_made : (g : GraphOf) (vs : List Variable) (own all : List IntType) → kinds_shown vs ≡ kinds_of g → own ≡ own_types vs → all ≡ own ++ flat_map further_types (kinds_shown vs) → all ≡ slot_types (kinds_of g)
slots_made g vs own all are so made = made ∙ ap (λ (ts : List IntType). ts ++ flat_map further_types (kinds_shown vs)) so ∙ ap slot_types are

pub layout_made : (g : GraphOf) (types : List IntType) (packs : List (List ℕ)) (further : List (Option ℕ)) → types ≡ slot_types (kinds_of g) → further ≡ further_of (kinds_of g)
    → (let l : Layout = record { types = types; packs = packs; further = further } in l) ≡ layout_over g packs
layout_made g types packs further t f =
    ap (λ (ts : List IntType). let l : Layout = record { types = ts; packs = packs; further = further } in l) t
    ∙ ap (λ (ns : List (Option ℕ)). let l : Layout = record { types = slot_types (kinds_of g); packs = packs; further = ns } in l) f

pub further_made : (g : GraphOf) (vs : List Variable) (own : List IntType) (all : List (Option ℕ)) → kinds_shown vs ≡ kinds_of g → own ≡ own_types vs → all ≡ further_from (length own) (kinds_shown vs) → all ≡ further_of (kinds_of g)
further_made g vs own all are so made =
    made ∙ ap (λ (n : ℕ). further_from n (kinds_shown vs)) (ap (λ (ts : List IntType). length ts) so ∙ length-map (kinds_shown vs) (λ (k : Kind). k.int_type)) ∙ ap further_of are
