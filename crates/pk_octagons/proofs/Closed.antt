-- Octagons lowered and closed, one after another.
use Rattle.std.specs.Prelude.{◌≡◌, ℕ, ◌+◌, ◌<◌, ◌≤◌, List, [], ◌∷◌, ◌++◌, length, option_map, Option, Some, None}
use Rattle.std.proofs.Common.{◌∙◌, ap, refl, sym, drop}
use Rattle.std.proofs.Math.ListN.{drop_of_length-le}
use Rattle.std.proofs.lemmas.List.{drop_more}
use Rattle.pk_value.specs.Known.{Known}
use Rattle.pk_octmat.specs.Octagon.{Octagon}
use Rattle.pk_octagons.specs.Packs.{pack_at}
use Rattle.pk_octagons.specs.Octagons.{octagon_at, no_octagon}
use Rattle.pk_octagons.specs.Reduced.{closed_in, with_first, closed_octagons}
use Rattle.pk_octagons.proofs.Overs.{append_one, append_empty}

-- behind those that are closed
abbrev pub behind : List Octagon → Option (List Octagon) → Option (List Octagon)
behind out o = option_map (λ (ms : List Octagon). out ++ ms) o

pub behind_none : (o : Option (List Octagon)) → behind [] o ≡ o
behind_none None = refl
behind_none (Some ms) = refl

closed_step : (packs : List (List ℕ)) (vs : List Known) (ms : List Octagon) (p : ℕ) (c : List ℕ) (m : Octagon) → p < length packs → p < length ms → c ≡ pack_at packs p → m ≡ octagon_at ms p
    → closed_octagons (drop p packs) vs (drop p ms) ≡ with_first (closed_in c vs m) (closed_octagons (drop (p + 1) packs) vs (drop (p + 1) ms))
closed_step packs vs ms p c m h k e f =
    ap (λ ps. closed_octagons ps vs (drop p ms)) (drop_more packs p [] h)
    ∙ ap (λ ns. closed_octagons (pack_at packs p ∷ drop (p + 1) packs) vs ns) (drop_more ms p no_octagon k)
    ∙ ap (λ l. with_first (closed_in l vs (octagon_at ms p)) (closed_octagons (drop (p + 1) packs) vs (drop (p + 1) ms))) (sym e)
    ∙ ap (λ (n : Octagon). with_first (closed_in c vs n) (closed_octagons (drop (p + 1) packs) vs (drop (p + 1) ms))) (sym f)

pushed : (out : List Octagon) (n : Octagon) (o : Option (List Octagon)) → behind (out ++ n ∷ []) o ≡ behind out (with_first (Some n) o)
pushed out n None = refl
pushed out n (Some ms) = ap (λ (ns : List Octagon). Some ns) (sym (append_one out ms n))

-- one more is closed
pub closed_more : (packs : List (List ℕ)) (vs : List Known) (ms out news : List Octagon) (p : ℕ) (c : List ℕ) (m n : Octagon) → behind out (closed_octagons (drop p packs) vs (drop p ms)) ≡ closed_octagons packs vs ms → p < length packs → p < length ms → c ≡ pack_at packs p
    → m ≡ octagon_at ms p → Some n ≡ closed_in c vs m → news ≡ out ++ n ∷ [] → behind news (closed_octagons (drop (p + 1) packs) vs (drop (p + 1) ms)) ≡ closed_octagons packs vs ms
closed_more packs vs ms out news p c m n before h k e f is made =
    let rest = closed_octagons (drop (p + 1) packs) vs (drop (p + 1) ms) in
    ap (λ us. behind us rest) made ∙ pushed out n rest ∙ ap (λ o. behind out (with_first o rest)) is ∙ sym (ap (behind out) (closed_step packs vs ms p c m h k e f)) ∙ before

-- one has no closing
pub closed_stop : (packs : List (List ℕ)) (vs : List Known) (ms out : List Octagon) (p : ℕ) (c : List ℕ) (m : Octagon) → behind out (closed_octagons (drop p packs) vs (drop p ms)) ≡ closed_octagons packs vs ms → p < length packs → p < length ms → c ≡ pack_at packs p → m ≡ octagon_at ms p
    → None ≡ closed_in c vs m → None ≡ closed_octagons packs vs ms
closed_stop packs vs ms out p c m before h k e f is =
    let rest = closed_octagons (drop (p + 1) packs) vs (drop (p + 1) ms) in
    ap (λ o. behind out (with_first o rest)) is ∙ sym (ap (behind out) (closed_step packs vs ms p c m h k e f)) ∙ before

-- all are closed
pub closed_end : (packs : List (List ℕ)) (vs : List Known) (ms out : List Octagon) (p : ℕ) → behind out (closed_octagons (drop p packs) vs (drop p ms)) ≡ closed_octagons packs vs ms → length packs ≤ p → Some out ≡ closed_octagons packs vs ms
closed_end packs vs ms out p before h =
    ap (λ (ns : List Octagon). Some ns) (sym (append_empty out)) ∙ sym (ap (λ ps. behind out (closed_octagons ps vs (drop p ms))) (drop_of_length-le packs h)) ∙ before
