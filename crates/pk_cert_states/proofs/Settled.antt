-- A line is that of a state, or of none.
use Rattle.std.specs.Prelude.{◌≡◌, ℕ, ◌<◌, ℤ, List, [], ◌∷◌, ◌++◌, map, length, Option, Some, None}
use Rattle.std.specs.List.{flat_map, range_with_len}
use Rattle.std.proofs.Common.{arith, refl, sym, ap, subst, ◌∙◌, inl}
use Rattle.std.proofs.lemmas.List.{length-map, get_or-map, ext_get_or}
use Rattle.std.proofs.lemmas.List.Folds.{flat_map-map}
use Rattle.std.proofs.lemmas.List.FromFn.{length-map-range_with_len, get_or-map-range_with_len}
use Rattle.pk_ctypes.specs.declared.types.IntType.TheVariants.{Int}
use Rattle.pk_graph.specs.Graphs.{kinds_of}
use Rattle.pk_value.specs.Known.{Known, any_of}
use Rattle.pk_octmat.specs.Octagon.{IsOctagon}
use Rattle.pk_octagons.specs.Values.{type_at, AreValues, known_at, IsValue}
use Rattle.pk_state.specs.Layouts.{Layout}
use Rattle.pk_state.specs.Facts.{Facts, AreFacts, AreFactsIf}
use Rattle.pk_transfer.specs.Graphs.{layout_of}
use Rattle.pk_cert_states.specs.Lines.{own_octagon, own_pack, HasOne, line_slots, four_of, fours_at, symbols_in, line_of, IsState}
use Rattle.pk_cert_states.specs.Parts.{slot_at, IsOrder, AreIn}
use Rattle.pk_cert_states.specs.Laws.{EveryLineIsSettled}
use Rattle.pk_cert_states.proofs.Ordering.{where_in, where_is, where_below, line_order}
use Rattle.pk_cert_states.proofs.Reading.{values_in}
use Rattle.pk_cert_states.proofs.Telling.{as_many}
use Rattle.pk_cert_states.proofs.Ones.{one_of, one_stands}
use Rattle.pk_cert_states.proofs.Told.{Told, told_as}
use Rattle.pk_cert_states.proofs.ToldValues.{AreOf, HaveValues, told_values, many_of, value_of, values_of}
use Rattle.pk_cert_states.proofs.ToldBounds.{told_octagon}

-- the values of the slots, of which these are the values in their order
abbrev restored : List ℕ → List Known → List Known
restored slots ws = map (λ j. known_at ws (where_in slots j)) (range_with_len 0 (length slots))

restored_at : (slots : List ℕ) (ws : List Known) (j : ℕ) → j < length slots → known_at (restored slots ws) j ≡ known_at ws (where_in slots j)
restored_at slots ws j h = get_or-map-range_with_len (λ i. known_at ws (where_in slots i)) 0 (length slots) j j (any_of Int) h (omega arith)

restored_many : (slots : List ℕ) (ws : List Known) → length (restored slots ws) ≡ length slots
restored_many slots ws = length-map-range_with_len (λ i. known_at ws (where_in slots i)) 0 (length slots)

-- in their order they are these again
back_again : (slots : List ℕ) (ws : List Known) → IsOrder slots → length ws ≡ length slots → map (known_at (restored slots ws)) slots ≡ ws
back_again slots ws order e =
    ext_get_or (any_of Int) (map (known_at (restored slots ws)) slots) ws (length-map slots (known_at (restored slots ws)) ∙ sym e)
    (λ p h.
    let below : p < length slots = omega (arith, h, length-map slots (known_at (restored slots ws))) in
    get_or-map (known_at (restored slots ws)) slots p 0 (any_of Int) below ∙ restored_at slots ws (slot_at slots p) (order.below p below) ∙ ap (known_at ws) (where_is slots p order below))

fours_mapped : (slots : List ℕ) (vs : List Known) → flat_map four_of (map (known_at vs) slots) ≡ fours_at slots vs
fours_mapped slots vs = flat_map-map four_of (known_at vs) slots

-- facts with these symbols
record IsOf (l : Layout) (slots : List ℕ) (zs : List (Option ℤ)) : Type 0 where
  facts : Facts
  are : AreFacts l facts
  told : zs ≡ symbols_in slots facts

are_values : (l : Layout) (vs : List Known) → AreIn l vs → AreValues l.types vs
are_values l vs h = record {
  size = h.size;
  inside = λ j p. (h.each j (omega (arith, p, h.size))).inside;
  some = λ j p. (h.each j (omega (arith, p, h.size))).some;
  classes = λ j p. (h.each j (omega (arith, p, h.size))).class;
}

module _ (l : Layout) (slots : List ℕ) (one : HasOne l) (order : IsOrder slots) (same : length l.types ≡ length slots) where
  abbrev Bounds : List (Option ℤ) → Type 0
  Bounds cells = IsOctagon record { vars = length (own_pack l); cells = cells }

  abbrev Parts : List (Option ℤ) → Type 0
  Parts = HaveValues (map (type_at l.types) slots) Bounds

  restored_in : (ws : List Known) → AreOf (map (type_at l.types) slots) ws → AreIn l (restored slots ws)
  restored_in ws h = record {
    size = restored_many slots ws ∙ sym same;
    each = λ j p.
        let below : j < length slots = omega (arith, p, same) in
        let there = where_below slots j order below in
        subst (λ (k : Known). IsValue (type_at l.types j) k) (sym (restored_at slots ws j below))
        (subst (λ (i : ℕ). IsValue (type_at l.types i) (known_at ws (where_in slots j))) there.1 (value_of l slots ws h (where_in slots j) there.0));
  }

  of_parts : (zs : List (Option ℤ)) → Parts zs → IsOf l slots zs
  of_parts zs p =
      let many : length p.values ≡ length slots = many_of (map (type_at l.types) slots) p.values p.are ∙ length-map slots (type_at l.types) in
      let numbers : flat_map four_of p.values ≡ fours_at slots (restored slots p.values) = ap (flat_map four_of) (sym (back_again slots p.values order many)) ∙ fours_mapped slots (restored slots p.values) in
      record {
        facts = record { values = restored slots p.values; octagons = record { vars = length (own_pack l); cells = p.rest } ∷ [] };
        are = record { values = are_values l (restored slots p.values) (restored_in p.values p.are); octagons = one_stands l (record { vars = length (own_pack l); cells = p.rest }) one refl p.more };
        told = p.told ∙ ap (λ r. r ++ p.rest) numbers;
      }

  parts_of : (zs : List (Option ℤ)) → IsOf l slots zs → Parts zs
  parts_of zs h = record {
    values = map (known_at h.facts.values) slots;
    rest = (own_octagon h.facts).cells;
    are = values_of l slots h.facts.values (values_in l h.facts.values h.are.values) (λ p q. omega (arith, order.below p q, same));
    told = h.told ∙ ap (λ r. r ++ (own_octagon h.facts).cells) (sym (fours_mapped slots h.facts.values));
    more = let own = one_of l h.facts one h.are in subst (λ (n : ℕ). IsOctagon record { vars = n; cells = (own_octagon h.facts).cells }) own.vars own.octagon;
  }

  told_symbols : (zs : List (Option ℤ)) → Told (IsOf l slots zs)
  told_symbols zs = told_as (Parts zs) (IsOf l slots zs) (of_parts zs) (parts_of zs) (told_values (map (type_at l.types) slots) Bounds (told_octagon (length (own_pack l))) zs)

-- ---- the law

pub every_line_is_settled : EveryLineIsSettled
every_line_is_settled g n None = inl (None, tt, refl)
every_line_is_settled g n (Some zs) =
    told_as (IsOf (layout_of g n) (line_slots (kinds_of g)) zs) (IsState (kinds_of g) (layout_of g n) (Some zs))
    (λ h. (Some h.facts, h.are, ap (λ (s : List (Option ℤ)). Some s) h.told)) (λ s. back s.0 s.1 s.2)
    (told_symbols (layout_of g n) (line_slots (kinds_of g)) refl (line_order (kinds_of g)) (as_many g n) zs)
  where
    back : (f : Option Facts) → AreFactsIf (layout_of g n) f → Some zs ≡ line_of (kinds_of g) f → IsOf (layout_of g n) (line_slots (kinds_of g)) zs
    back None are e = absurd (cc)
    back (Some f) are e = record { facts = f; are = are; told = cc }
